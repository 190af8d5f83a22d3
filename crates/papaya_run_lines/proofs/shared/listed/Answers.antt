use Rattle.std.proofs.Common.{ℕ, List, sym, subst}
use Rattle.papaya_run_lines.proofs.WalkLemmas.{HasGiven, none_given, one_given, still_given}
use Rattle.papaya_run_lines.proofs.shared.listed.Goals as goal

pub loop-key-init : goal.loop-key-init
loop-key-init g c =
    let P : List (ℕ × ℕ) → Type 0 = λ pairs. HasGiven c.args.pairs.now pairs c.args.pairs.now in
    subst P (sym c.new-listed.ensures.items) (none_given c.args.pairs.now)

pub loop-key-preserved : goal.loop-key-preserved
loop-key-preserved g c =
    let P : List (ℕ × ℕ) → Type 0 = λ pairs. HasGiven c.args.pairs.now pairs c.next.new.self in
    subst P (sym c.in_ok-push.ensures.items)
    (one_given c.args.pairs.now c.loop-key.pairs c.next.new.self c.loop-key.listed.items (c.in-Some.key, c.in-Some.value) c.loop-key.invariant
    c.in-Some.ensures.steps)

pub returns-in_err-push-clause-seen : goal.returns-in_err-push-clause-seen
returns-in_err-push-clause-seen g c =
    (still_given c.args.pairs.now c.loop-key.pairs c.next.new.self c.loop-key.listed.items _ c.loop-key.invariant c.next.ensures.steps).since

pub returns-clause-book : goal.returns-clause-book
returns-clause-book g c =
    (still_given c.args.pairs.now c.loop-key.pairs c.next.new.self c.loop-key.listed.items _ c.loop-key.invariant c.next.ensures.steps).book

pub returns-clause-seen : goal.returns-clause-seen
returns-clause-seen g c =
    (still_given c.args.pairs.now c.loop-key.pairs c.next.new.self c.loop-key.listed.items _ c.loop-key.invariant c.next.ensures.steps).since

pub returns-clause-had : goal.returns-clause-had
returns-clause-had g c =
    (still_given c.args.pairs.now c.loop-key.pairs c.next.new.self c.loop-key.listed.items _ c.loop-key.invariant c.next.ensures.steps).had
