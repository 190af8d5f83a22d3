use Rattle.std.proofs.Common.{List, ap, subst, ◌∙◌}
use mathlib.Core.List.{IsPrefix}
use Rattle.papaya_map_lookup.specs.History.{history_of}
use Rattle.papaya_map_lookup.proofs.Histories.{history_since}
use Rattle.papaya_map.specs.Frozen.{Frozen}
use Rattle.papaya_map.proofs.FrozenWalks.{still}
use Rattle.papaya_map.proofs.map.read_only.ReadOnly.walk.Goals as goal

pub returns-in-Ok-clause-history : goal.returns-in-Ok-clause-history
returns-in-Ok-clause-history g c =
    let old = c.self.inside.sight.log in let seen = c.take_root.new.window.sight.log in let all = c.see_all.new.sight.log in
    let same = ap (λ (z : Frozen g.row.K.Denot g.row.V.Denot g.row.S.Denot). z.history) c.self.view_is in
    let since = history_since old seen (subst (λ (z : _). IsPrefix z.log seen) c.new-window.ensures.sight c.in-Ok.ensures.sees.log) in
    let until = history_since seen all (subst (λ (z : _). IsPrefix z.log all) c.again-all.ensures c.see_all.ensures.seen) in (
      c.over.ensures.began ∙ (ap (λ (z : _). history_of z.log) c.again-began.ensures ∙ same),
      c.over.ensures.history
          ∙ (ap (λ (z : _). history_of z.log) c.again-seen.ensures
          ∙ still c.args.self.now.history (history_of seen) (subst (λ (h : List _). IsPrefix h (history_of seen)) same since)
          (subst (IsPrefix (history_of seen)) c.see_all.ensures.all until)),
    )
