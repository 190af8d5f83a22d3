use Rattle.std.proofs.Common.{ℕ, List, ◌∙◌, subst}
use Rattle.std.specs.List.{All}
use Rattle.papaya_run_lines.specs.Shared.{Had, Seen}
use Rattle.papaya_run_lines.proofs.WalkLemmas.{by_key}
use Rattle.papaya_run_lines.proofs.shared.Caller.walk.Goals as goal

pub returns-clause-done : goal.returns-clause-done
returns-clause-done g c =
    let given : List (ℕ × ℕ) = c.in_ok-listed.listed.items in
    let since : Seen → Type 0 = λ old. All (Had old c.listed.new.pairs.history) given in
    let had : All (Had c.args.self.now.session.history c.listed.new.pairs.history) given = subst since c.in-Ok.ensures.began.0 c.in_ok-listed.ensures.had in (
      (
        c.new.ensures.1,
        by_key c.args.self.now.session.history c.listed.new.pairs.history c.learn_walk.new.self.history given c.new.result
            c.learn_walk.ensures.walked c.new.ensures had,
      ),
      c.learn_walk.ensures.made ∙ c.iter.ensures.made,
    )
