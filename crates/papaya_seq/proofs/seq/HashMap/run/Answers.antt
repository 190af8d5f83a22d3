use Rattle.std.proofs.Common.{ℕ, rules, arith, ◌+◌, ◌≡◌, ◌++◌, ◌∷◌, [], ◌≤◌, vec_len, vec_capacity, length, refl, sym, ◌∙◌, ap, subst}
use Rattle.std.proofs.lemmas.List.{length_push}
use Rattle.papaya_words_keys.specs.Hashes.{hash_of}
use Rattle.papaya_seq.specs.Calls.{AreCalled}
use Rattle.papaya_seq.proofs.CallsDone.{called_more}
use Rattle.papaya_seq.proofs.seq.HashMap.run.Goals as goal
use Rattle.papaya_seq.proofs.seq.HashMap.run.Given.{Over}

-- how keys are hashed
abbrev hash : (g : Over) → g.row.S.Denot → g.row.K.Denot → ℕ
hash g = hash_of g.K.Hash.hash_input g.S.BuildHasher.build_hasher g.S.Hasher.Hasher.write g.S.Hasher.Hasher.finish

pub loop-call-init : goal.loop-call-init
loop-call-init g c =
    let items : c.in_ok-outcomes.outcomes.items ≡ [] = search rules in
    let room : vec_len c.args.calls ≤ vec_capacity c.in_ok-outcomes.outcomes = search (rules, arith) in (
      subst (λ items. AreCalled g.K.PartialEq.eq (hash g) (record { op = g.A.Answers.op_gives; yes = g.A.Answers.yes_gives }) c.args.self.now [] items
          c.args.self.now) (sym items) refl,
      ap length items,
      room,
    )

pub loop-call-preserved : goal.loop-call-preserved
loop-call-preserved g c =
    let m = length_push c.loop-call.outcomes.items c.call-outcome.result in
    let n = length_push c.loop-call.yielded c.in-Some.call in
    let items = c.push_reserved.ensures.items in
    let capacity = c.push_reserved.ensures.capacity in
    let room = c.loop-call.invariant.2 in (
      subst (λ items. AreCalled g.K.PartialEq.eq (hash g) (record { op = g.A.Answers.op_gives; yes = g.A.Answers.yes_gives }) c.args.self.now
          (c.loop-call.yielded ++ c.in-Some.call ∷ []) items c.call-outcome.new.self) (sym items)
          (called_more g.K.PartialEq.eq (hash g) (record { op = g.A.Answers.op_gives; yes = g.A.Answers.yes_gives }) c.call-outcome.result c.in-Some.call
          c.loop-call.self c.call-outcome.new.self c.call-outcome.ensures.called c.call-outcome.ensures.alone c.call-outcome.ensures.lists c.args.self.now c.loop-call.yielded
          c.loop-call.outcomes.items c.loop-call.invariant.0),
      ap length items ∙ m ∙ ap (λ k. k + 1) c.loop-call.invariant.1 ∙ sym n,
      omega (arith, capacity, room),
    )
