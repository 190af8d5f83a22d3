use Rattle.std.proofs.Common.{◌≡◌, ℕ, ◌<◌, ◌≤◌, arith, fold, sym, ◌∙◌, ap, subst}
use Rattle.papaya_call.specs.declared.ask.Ask.TheVariants.{Done as Ask_done}
use Rattle.papaya_call.specs.declared.call.Call.TheVariants.{RemoveIf}
use Rattle.papaya_call.specs.declared.chain.ask.Ask.TheVariants as asks
use Rattle.papaya_call.specs.ChainMachine.{IsFitAsk, IsValid, ask_of}
use Rattle.papaya_words_keys.specs.Hashes.{hash_of}
use Rattle.papaya_core_timeline.proofs.KeptCore.{keys_lawful}
use Rattle.papaya_seq.specs.MadeAlone.{IsMadeAlone}
use Rattle.papaya_seq.specs.Map.{IsLawfulMap, MapState}
use Rattle.papaya_seq.specs.Resizes.{IsCopyCause}
use Rattle.papaya_seq.proofs.Ending.{left_of}
use Rattle.papaya_seq.proofs.RemovalDone.{RemovalDone, removal_finished}
use Rattle.papaya_seq.proofs.RemovalWays.{IsQuery, IsUnderWay, asked_so, shows_first, under_way, under_way_fit, under_way_more, under_way_nears}
use Rattle.papaya_seq.proofs.Removing.{answered_call, answered_copy}
use Rattle.papaya_seq.proofs.RemovingCopies.{removing_copies, removing_sized}
use Rattle.papaya_seq.proofs.SeekTurns.{IsAnswered}
use Rattle.papaya_seq.proofs.seq.HashMap.remove_slow.Goals as goal
use Rattle.papaya_seq.proofs.seq.HashMap.remove_slow.Goals.{After-answer, After-copy_for_call}
use Rattle.papaya_seq.proofs.seq.HashMap.remove_slow.Goals.{In-Done, After-new-machine}
use Rattle.papaya_seq.proofs.seq.HashMap.remove_slow.Goals.{in-Call+in_default, in-Copy}
use Rattle.papaya_seq.proofs.seq.HashMap.remove_slow.Given as given
use Rattle.papaya_seq.proofs.seq.HashMap.remove_slow.Given.{Over}

-- how keys are hashed
abbrev hashes : (g : Over) → g.row.S.Denot → g.row.K.Denot → ℕ
hashes g = hash_of g.K.Hash.hash_input g.S.BuildHasher.build_hasher g.S.Hasher.Hasher.write g.S.Hasher.Hasher.finish

-- the map was in order
lawful : (g : Over) (c : After-new-machine g)
    → IsLawfulMap g.K.PartialEq.eq (hashes g c.args.self.now.store.hasher) c.args.self.now.store c.args.self.now.mode c.args.self.now.initial
lawful g c = subst (λ s. IsLawfulMap g.K.PartialEq.eq (hashes g s.store.hasher) s.store s.mode s.initial) c.self.view_is c.self.invariant

-- a query that matches a key matches as that key is equal, and hashes as it does
query : (g : Over) (c : After-new-machine g)
    → IsQuery g.F.FnMut g.K.PartialEq.eq (hashes g) (g.Q.Equivalent.matches c.args.key.now) c.hash-hash.result c.args.self.now c.args.agrees.now
query g c = record {
  keys = keys_lawful g.K.PartialEq.eq g.K.Hash.hash_input g.S.BuildHasher.build_hasher g.S.Hasher.Hasher.write g.S.Hasher.Hasher.finish
      g.met.K.Eq.laws g.met.K.Hash.respects_eq c.args.self.now.store.hasher;
  lawful = lawful g c;
  alike = λ k matched l. g.met.Q.Equivalent.matches_equal_keys c.args.key.now k l matched;
  hashes = λ k matched. ap (λ input. g.S.Hasher.Hasher.finish
      (fold g.S.Hasher.Hasher.write (g.S.BuildHasher.build_hasher c.args.self.now.store.hasher) input))
      (sym (g.met.Q.Equivalent.hashes_as_key c.args.key.now k matched))
      ∙ sym (c.hash-hash.ensures.value ∙ ap (λ s.
      hash_of g.Q.Hash.hash_input g.S.BuildHasher.build_hasher g.S.Hasher.Hasher.write g.S.Hasher.Hasher.finish s.store.hasher c.args.key.now)
      c.self.view_is);
  fits = c.hash-hash.ensures.fits;
}

-- the ask was answered by the store, or was a call of the closure
told : (g : Over) (c : After-answer g) → IsAnswered g.K.PartialEq.eq (hashes g) g.F.FnMut (g.Q.Equivalent.matches c.args.key.now)
    (ask_of c.loop-ask.machine) c.loop-ask.self-inside.store c.loop-ask.agrees c.match-ask.answer c.match-ask.self-inside.store c.match-ask.agrees
told g c =
    elim c.match-ask.branch [
      | in-Call+in_default w ↦ answered_call g.F.FnMut g.K.PartialEq.eq (hashes g) (g.Q.Equivalent.matches c.args.key.now) c.loop-ask.machine
          w.in-Call.ask w.in-Call.ensures.value c.loop-ask.self-inside.store c.loop-ask.agrees w.answer_removal.result w.answer_removal.new.store
          w.answer_removal.new.agrees w.answer_removal.ensures.answers
          c.match-ask.answer c.match-ask.self-inside.store c.match-ask.agrees w.answer-is (ap (λ i. i.store) w.self-inside-is) w.agrees-is
      | in-Copy w ↦ answered_copy g.F.FnMut g.K.PartialEq.eq (hashes g) (g.Q.Equivalent.matches c.args.key.now) c.loop-ask.machine w.in-Copy.ask
          w.in-Copy.ensures.value c.loop-ask.self-inside.store c.loop-ask.agrees w.perform_copy-answer.result w.perform_copy-answer.new.self
          w.perform_copy-answer.ensures
          c.match-ask.answer c.match-ask.self-inside.store c.match-ask.agrees w.answer-is (ap (λ i. i.store) w.self-inside-is) w.agrees-is
    ]

-- the mode and the initial capacity stay
stays : (g : Over) (c : After-answer g) → (c.match-ask.self-inside.mode ≡ c.loop-ask.self-inside.mode)
    × (c.match-ask.self-inside.initial ≡ c.loop-ask.self-inside.initial)
stays g c =
    elim c.match-ask.branch [
      | in-Call+in_default w ↦ (ap (λ i. i.mode) w.self-inside-is, ap (λ i. i.initial) w.self-inside-is)
      | in-Copy w ↦ (ap (λ i. i.mode) w.self-inside-is, ap (λ i. i.initial) w.self-inside-is)
    ]

pub loop-ask-init : goal.loop-ask-init
loop-ask-init g c =
    let matches = g.Q.Equivalent.matches c.args.key.now in
    let view : MapState _ _ _ = record { store = c.self.inside.store; mode = c.self.inside.mode; initial = c.self.inside.initial } in (
      c.new-machine.ensures.valid,
      ap (λ (m : MapState _ _ _). m.mode) c.self.view_is,
      ap (λ (m : MapState _ _ _). m.initial) c.self.view_is,
      subst (λ (m : MapState _ _ _). IsUnderWay g.F.FnMut g.K.PartialEq.eq (hashes g) matches c.hash-hash.result m c.args.agrees.now c.self.inside.store
          c.args.agrees.now c.new-machine.result) c.self.view_is
          (subst (λ m. IsUnderWay g.F.FnMut g.K.PartialEq.eq (hashes g) matches c.hash-hash.result view c.args.agrees.now c.self.inside.store
          c.args.agrees.now m) (sym c.new-machine.ensures.value)
          (under_way g.F.FnMut g.K.PartialEq.eq (hashes g) matches c.hash-hash.result view c.args.agrees.now c.copies_from-number.result)),
    )

pub answer_removal-requires : goal.answer_removal-requires
answer_removal-requires g c = record {
  callable = λ n is k v. subst (λ f. (k : _) (v : _) → given.F-pre g f k v)
      (sym (shows_first g.F.FnMut g.K.PartialEq.eq (hashes g) (g.Q.Equivalent.matches c.args.key.now) c.hash-hash.result c.args.self.now
      c.args.agrees.now (query g (goal.at.answer_removal-requires g c).After-new-machine) c.loop-ask.self-inside.store c.loop-ask.agrees
      c.loop-ask.machine c.loop-ask.invariant.3 c.loop-ask.invariant.0 n (sym c.in-Call.ensures.value ∙ ap asks.Call is))) c.requires k v;
  asked = asked_so g.F.FnMut g.K.PartialEq.eq (hashes g) (g.Q.Equivalent.matches c.args.key.now) c.hash-hash.result c.args.self.now c.args.agrees.now
      (query g (goal.at.answer_removal-requires g c).After-new-machine)
      c.loop-ask.self-inside.store c.loop-ask.agrees c.loop-ask.machine c.loop-ask.invariant.3 c.loop-ask.invariant.0 c.in-Call.ask
      (sym c.in-Call.ensures.value) c.in_default.not-Done;
}

pub answer-requires-clause-fit : goal.answer-requires-clause-fit
answer-requires-clause-fit g c =
    let answered : IsAnswered g.K.PartialEq.eq (hashes g) g.F.FnMut (g.Q.Equivalent.matches c.args.key.now) (ask_of c.loop-ask.machine)
    c.loop-ask.self-inside.store c.loop-ask.agrees c.match-ask.answer c.match-ask.self-inside.store c.match-ask.agrees =
    elim c.match-ask.branch [
      | in-Call+in_default w ↦ answered_call g.F.FnMut g.K.PartialEq.eq (hashes g) (g.Q.Equivalent.matches c.args.key.now) c.loop-ask.machine
          w.in-Call.ask w.in-Call.ensures.value c.loop-ask.self-inside.store c.loop-ask.agrees w.answer_removal.result w.answer_removal.new.store
          w.answer_removal.new.agrees w.answer_removal.ensures.answers
          c.match-ask.answer c.match-ask.self-inside.store c.match-ask.agrees w.answer-is (ap (λ i. i.store) w.self-inside-is) w.agrees-is
      | in-Copy w ↦ answered_copy g.F.FnMut g.K.PartialEq.eq (hashes g) (g.Q.Equivalent.matches c.args.key.now) c.loop-ask.machine w.in-Copy.ask
          w.in-Copy.ensures.value c.loop-ask.self-inside.store c.loop-ask.agrees w.perform_copy-answer.result w.perform_copy-answer.new.self
          w.perform_copy-answer.ensures
          c.match-ask.answer c.match-ask.self-inside.store c.match-ask.agrees w.answer-is (ap (λ i. i.store) w.self-inside-is) w.agrees-is
    ] in
    under_way_fit g.F.FnMut g.K.PartialEq.eq (hashes g) (g.Q.Equivalent.matches c.args.key.now) c.hash-hash.result c.args.self.now c.args.agrees.now
    c.loop-ask.self-inside.store c.loop-ask.agrees c.loop-ask.machine c.loop-ask.invariant.3 c.match-ask.answer c.match-ask.self-inside.store
    c.match-ask.agrees answered
    (query g (goal.at.answer-requires-clause-fit g c).After-new-machine) (subst IsFitAsk c.ask.ensures.value c.ask.ensures.size)

-- the removal after the answer
went : (g : Over) (c : After-answer g) → IsUnderWay g.F.FnMut g.K.PartialEq.eq (hashes g) (g.Q.Equivalent.matches c.args.key.now) c.hash-hash.result
    c.args.self.now c.args.agrees.now c.match-ask.self-inside.store c.match-ask.agrees c.answer.new.self
went g c =
    subst (IsUnderWay g.F.FnMut g.K.PartialEq.eq (hashes g) (g.Q.Equivalent.matches c.args.key.now) c.hash-hash.result c.args.self.now c.args.agrees.now
    c.match-ask.self-inside.store c.match-ask.agrees) (sym c.answer.ensures.after)
    (under_way_more g.F.FnMut g.K.PartialEq.eq (hashes g) (g.Q.Equivalent.matches c.args.key.now) c.hash-hash.result c.args.self.now c.args.agrees.now
    c.loop-ask.self-inside.store c.loop-ask.agrees c.loop-ask.machine c.loop-ask.invariant.3 c.match-ask.answer c.match-ask.self-inside.store
    c.match-ask.agrees (told g c))

pub copy_for_call-requires-clause-sized : goal.copy_for_call-requires-clause-sized
copy_for_call-requires-clause-sized g c =
    removing_sized g.F.FnMut g.K.PartialEq.eq (hashes g) (g.Q.Equivalent.matches c.args.key.now) c.hash-hash.result c.args.self.now c.args.agrees.now
    (query g (goal.at.copy_for_call-requires-clause-sized g c).After-new-machine) c.match-ask.self-inside.store c.match-ask.agrees c.answer.new.self
    (went g (goal.at.copy_for_call-requires-clause-sized g c).After-answer)

-- and after the slots that were copied
copied : (g : Over) (c : After-copy_for_call g)
    → IsUnderWay g.F.FnMut g.K.PartialEq.eq (hashes g) (g.Q.Equivalent.matches c.args.key.now) c.hash-hash.result c.args.self.now c.args.agrees.now
    c.copy_for_call.new.store c.match-ask.agrees c.copy_for_call.new.machine × IsValid c.copy_for_call.new.machine
    × (left_of c.copy_for_call.new.store c.copy_for_call.new.machine ≤ left_of c.match-ask.self-inside.store c.answer.new.self)
copied g c =
    let (said, led) = c.copy_for_call.ensures in
    removing_copies g.F.FnMut g.K.PartialEq.eq (hashes g) (g.Q.Equivalent.matches c.args.key.now) c.hash-hash.result c.args.self.now c.args.agrees.now
    (query g (goal.at.After-copy_for_call g c).After-new-machine) said c.match-ask.self-inside.store c.match-ask.agrees c.answer.new.self
    c.copy_for_call.new.store c.copy_for_call.new.machine led c.answer.ensures.valid (went g (goal.at.After-copy_for_call g c).After-answer)

pub loop-ask-preserved : goal.loop-ask-preserved
loop-ask-preserved g c =
    let at = (goal.at.loop-ask-preserved g c).After-answer in
    let (going, valid, near) = copied g (goal.at.loop-ask-preserved g c).After-copy_for_call in
    (valid, (stays g at).0 ∙ c.loop-ask.invariant.1, (stays g at).1 ∙ c.loop-ask.invariant.2, going)

pub loop-ask-smaller : goal.loop-ask-smaller
loop-ask-smaller g c =
    let at = (goal.at.loop-ask-smaller g c).After-answer in
    let near = (copied g (goal.at.loop-ask-smaller g c).After-copy_for_call).2 in
    let nearer : left_of c.match-ask.self-inside.store c.answer.new.self < left_of c.loop-ask.self-inside.store c.loop-ask.machine =
    subst (λ m. left_of c.match-ask.self-inside.store m < left_of c.loop-ask.self-inside.store c.loop-ask.machine) (sym c.answer.ensures.after)
    (under_way_nears g.F.FnMut g.K.PartialEq.eq (hashes g) (g.Q.Equivalent.matches c.args.key.now) c.hash-hash.result c.args.self.now c.args.agrees.now
    c.loop-ask.self-inside.store c.loop-ask.agrees c.loop-ask.machine c.loop-ask.invariant.3 c.match-ask.answer c.match-ask.self-inside.store
    c.match-ask.agrees (told g at)
    (query g (goal.at.loop-ask-smaller g c).After-new-machine)) in
    omega (arith, near, nearer)

-- the machine has replied
replied : (g : Over) (c : In-Done g) → ask_of c.loop-ask.machine ≡ asks.Call (Ask_done c.in-Done.reply)
replied g c = sym c.in-Call.ensures.value ∙ ap asks.Call c.in-Done.is

-- the map after it
finished : (g : Over) (c : In-Done g)
    → IsQuery g.F.FnMut g.K.PartialEq.eq (hashes g) (g.Q.Equivalent.matches c.args.key.now) c.hash-hash.result c.args.self.now c.args.agrees.now
    → RemovalDone g.F.FnMut g.K.PartialEq.eq (hashes g) (g.Q.Equivalent.matches c.args.key.now) c.args.self.now c.args.agrees.now c.loop-ask.agrees c.in-Done.reply
    (record c.args.self.now { store = c.loop-ask.self-inside.store })
finished g c asked =
    removal_finished g.F.FnMut g.K.PartialEq.eq g.K.Hash.hash_input g.S.BuildHasher.build_hasher g.S.Hasher.Hasher.write g.S.Hasher.Hasher.finish
    g.met.K.Eq.laws g.met.K.Hash.respects_eq (g.Q.Equivalent.matches c.args.key.now) c.hash-hash.result c.args.self.now c.args.agrees.now asked
    c.loop-ask.self-inside.store c.loop-ask.agrees c.loop-ask.machine c.loop-ask.invariant.3 c.in-Done.reply (replied g c)

pub returns-in-Done-clause-whole : goal.returns-in-Done-clause-whole
returns-in-Done-clause-whole g c = let at = goal.at.returns-in-Done-clause-whole g c in (finished g at.In-Done (query g at.After-new-machine)).whole

pub invariant_of-self : goal.invariant_of-self
invariant_of-self g c =
    let at = goal.at.invariant_of-self g c in
    let later = c.loop-ask.self-inside.store in
    subst (λ mode. IsLawfulMap g.K.PartialEq.eq (hashes g later.hasher) later mode c.loop-ask.self-inside.initial) (sym c.loop-ask.invariant.1)
    (subst (λ initial. IsLawfulMap g.K.PartialEq.eq (hashes g later.hasher) later c.args.self.now.mode initial) (sym c.loop-ask.invariant.2)
    (finished g at.In-Done (query g at.After-new-machine)).orderly)

-- the map when the removal has ended
left_is : (g : Over) (c : In-Done g)
    → record c.args.self.now { store = c.loop-ask.self-inside.store }
    ≡ record { store = c.loop-ask.self-inside.store; mode = c.loop-ask.self-inside.mode; initial = c.loop-ask.self-inside.initial }
left_is g c =
    ap (λ mode. record { store = c.loop-ask.self-inside.store; mode = mode; initial = c.args.self.now.initial }) (sym c.loop-ask.invariant.1)
    ∙ ap (λ initial. record { store = c.loop-ask.self-inside.store; mode = c.loop-ask.self-inside.mode; initial = initial }) (sym c.loop-ask.invariant.2)

pub returns-in-Done-clause-cause : goal.returns-in-Done-clause-cause
returns-in-Done-clause-cause g c = λ refused is.
    let at = goal.at.returns-in-Done-clause-cause g c in
    subst (IsCopyCause c.args.self.now refused) (left_is g at.In-Done)
    ((finished g at.In-Done (query g at.After-new-machine)).cause refused is)

pub returns-in-Done-clause-alone : goal.returns-in-Done-clause-alone
returns-in-Done-clause-alone g c = λ k matched.
    let at = goal.at.returns-in-Done-clause-alone g c in
    subst (IsMadeAlone g.K.PartialEq.eq (hashes g) c.args.self.now (RemoveIf k tt) c.in-Done.reply) (left_is g at.In-Done)
    ((finished g at.In-Done (query g at.After-new-machine)).alone k matched)

pub returns-in-Done-clause-keeps : goal.returns-in-Done-clause-keeps
returns-in-Done-clause-keeps g c =
    let at = goal.at.returns-in-Done-clause-keeps g c in
    let keeps = (finished g at.In-Done (query g at.After-new-machine)).keeps in
    (record { hasher = keeps.0.hasher; mode = c.loop-ask.invariant.1; initial = c.loop-ask.invariant.2; pairs = keeps.0.pairs }, keeps.1, keeps.2)

pub returns-in-Done-clause-called : goal.returns-in-Done-clause-called
returns-in-Done-clause-called g c = let at = goal.at.returns-in-Done-clause-called g c in (finished g at.In-Done (query g at.After-new-machine)).called
