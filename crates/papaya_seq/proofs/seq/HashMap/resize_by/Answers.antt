use Rattle.std.proofs.Common.{◌≡◌, ℕ, ◌<◌, ◌≤◌, arith, FitsSigned, None, Some, refl, sym, ◌∙◌, ap, subst, Ok, Err}
use Rattle.std.specs.Int.{w64}
use Rattle.papaya_call.specs.declared.call.Reply.TheVariants.{Done as Reply_done, Refused as Reply_refused}
use Rattle.papaya_words.specs.declared.refused.Refused.{Refused}
use Rattle.papaya_words.specs.declared.refused.Refused.TheVariants.{Capacity}
use Rattle.papaya_call.specs.declared.chain.resizer.Resizer.{Resizer}
use Rattle.papaya_call.specs.declared.chain.resizer.ResizerState.TheVariants.{Refused as Was_refused}
use Rattle.papaya_call.specs.Resizer.{IsValidResizer, after, ask_of, reply_in, reply_of}
use Rattle.papaya_words_keys.specs.Hashes.{hash_of}
use Rattle.papaya_core_store.specs.Store.{StoreState}
use Rattle.papaya_seq.specs.MadeAlone.{IsResizedAlone}
use Rattle.papaya_seq.specs.Map.{IsLawfulMap, Keeps, MapState}
use Rattle.papaya_seq.specs.Resizes.{IsPastLimit, IsResizeRefusal, IsRoomThere}
use Rattle.papaya_seq.proofs.ResizerRun.{IsResizingTo, resized_done, resized_keeps, resized_lawful}
use Rattle.papaya_seq.proofs.ResizerRun.{resized_done_alone, resized_idle, resized_past, resized_refused, resized_refused_alone, resized_replied}
use Rattle.papaya_seq.proofs.ResizerRun.{resized_unchanged, resizing_begun, resizing_fit}
use Rattle.papaya_seq.proofs.ResizerRun.{resizing_more, resizing_nears, unrefused_done}
use Rattle.papaya_seq.proofs.ResizerSteps.{resizer_left}
use Rattle.papaya_seq.proofs.ResizingCopies.{resizing_copies, resizing_sized}
use Rattle.papaya_seq.proofs.seq.HashMap.resize_by.Goals as goal
use Rattle.papaya_seq.proofs.seq.HashMap.resize_by.Goals.{After-answer, After-copy_for_resizer, After-new-resizer, In_default}
use Rattle.papaya_seq.proofs.seq.HashMap.resize_by.Given.{Over}

-- the hash of a key
abbrev hash : (g : Over) → g.row.S.Denot → g.row.K.Denot → ℕ
hash g = hash_of g.K.Hash.hash_input g.S.BuildHasher.build_hasher g.S.Hasher.Hasher.write g.S.Hasher.Hasher.finish

-- the map is in order when the call begins
lawful : (g : Over) (c : After-new-resizer g)
    → IsLawfulMap g.K.PartialEq.eq (hash g c.args.self.now.store.hasher) c.args.self.now.store c.args.self.now.mode c.args.self.now.initial
lawful g c = subst (λ (m : MapState _ _ _). IsLawfulMap g.K.PartialEq.eq (hash g m.store.hasher) m.store m.mode m.initial) c.self.view_is c.self.invariant

-- and its count has 64 bits
fits : (g : Over) (c : After-new-resizer g) → FitsSigned w64 c.args.self.now.store.count.sum
fits g c = subst (λ (m : MapState _ _ _). FitsSigned w64 m.store.count.sum) c.self.view_is c.count-count.ensures.fits

pub loop-ask-init : goal.loop-ask-init
loop-ask-init g c =
    let view : MapState _ _ _ = record { store = c.self.inside.store; mode = c.self.inside.mode; initial = c.self.inside.initial } in
    subst (λ (m : MapState _ _ _). IsResizingTo g.K.PartialEq.eq (hash g) m c.args.resize c.self.inside.store c.new-resizer.result
    × (c.self.inside.mode ≡ m.mode) × (c.self.inside.initial ≡ m.initial)) c.self.view_is (
      resizing_begun g.K.PartialEq.eq g.K.Hash.hash_input g.S.BuildHasher.build_hasher g.S.Hasher.Hasher.write g.S.Hasher.Hasher.finish g.met.K.Eq.laws
          g.met.K.Hash.respects_eq view c.args.resize c.self.invariant c.requires c.new-resizer.result c.copies_from-number.result
          c.new-resizer.ensures.value c.new-resizer.ensures.valid,
      refl,
      refl,
    )

pub answer-requires-clause-fit : goal.answer-requires-clause-fit
answer-requires-clause-fit g c =
    let n = (goal.at.answer-requires-clause-fit g c).After-new-resizer in
    resizing_fit g.K.PartialEq.eq g.K.Hash.hash_input g.S.BuildHasher.build_hasher g.S.Hasher.Hasher.write g.S.Hasher.Hasher.finish g.met.K.Eq.laws
    g.met.K.Hash.respects_eq c.args.self.now c.args.resize (lawful g n) (fits g n) c.loop-ask.self-inside.store c.loop-ask.resizer c.in-Some.ask
    c.perform_copy-answer.result c.perform_copy-answer.new.self (sym c.ask.ensures ∙ c.in-Some.is) c.perform_copy-answer.ensures c.loop-ask.invariant.0

-- the machine after the answer
answered : (g : Over) (c : After-answer g) → after c.loop-ask.resizer c.perform_copy-answer.result ≡ c.answer.new.self
answered g c = sym c.answer.ensures.after

-- the call after the answer
went : (g : Over) (c : After-answer g) → IsResizingTo g.K.PartialEq.eq (hash g) c.args.self.now c.args.resize c.perform_copy-answer.new.self c.answer.new.self
went g c =
    let n = (goal.at.After-answer g c).After-new-resizer in
    subst (IsResizingTo g.K.PartialEq.eq (hash g) c.args.self.now c.args.resize c.perform_copy-answer.new.self) (answered g c)
    (resizing_more g.K.PartialEq.eq g.K.Hash.hash_input g.S.BuildHasher.build_hasher g.S.Hasher.Hasher.write g.S.Hasher.Hasher.finish g.met.K.Eq.laws
    g.met.K.Hash.respects_eq c.args.self.now c.args.resize (lawful g n) (fits g n) c.loop-ask.self-inside.store c.loop-ask.resizer c.in-Some.ask
    c.perform_copy-answer.result c.perform_copy-answer.new.self (sym c.ask.ensures ∙ c.in-Some.is) c.perform_copy-answer.ensures c.loop-ask.invariant.0
    (subst IsValidResizer (sym (answered g c)) c.answer.ensures.valid))

pub copy_for_resizer-requires-clause-sized : goal.copy_for_resizer-requires-clause-sized
copy_for_resizer-requires-clause-sized g c =
    let n = (goal.at.copy_for_resizer-requires-clause-sized g c).After-new-resizer in
    resizing_sized g.K.PartialEq.eq g.K.Hash.hash_input g.S.BuildHasher.build_hasher g.S.Hasher.Hasher.write g.S.Hasher.Hasher.finish g.met.K.Eq.laws
    g.met.K.Hash.respects_eq c.args.self.now c.args.resize (lawful g n) (fits g n) c.perform_copy-answer.new.self c.answer.new.self
    (went g (goal.at.copy_for_resizer-requires-clause-sized g c).After-answer)

-- and after the slots that were copied
copied : (g : Over) (c : After-copy_for_resizer g)
    → IsResizingTo g.K.PartialEq.eq (hash g) c.args.self.now c.args.resize c.copy_for_resizer.new.store c.copy_for_resizer.new.resizer
    × (resizer_left c.copy_for_resizer.new.store c.copy_for_resizer.new.resizer ≤ resizer_left c.perform_copy-answer.new.self c.answer.new.self)
copied g c =
    let n = (goal.at.After-copy_for_resizer g c).After-new-resizer in
    let (told, led) = c.copy_for_resizer.ensures in
    resizing_copies g.K.PartialEq.eq g.K.Hash.hash_input g.S.BuildHasher.build_hasher g.S.Hasher.Hasher.write g.S.Hasher.Hasher.finish g.met.K.Eq.laws
    g.met.K.Hash.respects_eq c.args.self.now c.args.resize (lawful g n) (fits g n) told c.perform_copy-answer.new.self c.answer.new.self
    c.copy_for_resizer.new.store c.copy_for_resizer.new.resizer led (went g (goal.at.After-copy_for_resizer g c).After-answer)

pub loop-ask-smaller : goal.loop-ask-smaller
loop-ask-smaller g c =
    let n = (goal.at.loop-ask-smaller g c).After-new-resizer in
    let near = (copied g (goal.at.loop-ask-smaller g c).After-copy_for_resizer).1 in
    let nearer : resizer_left c.perform_copy-answer.new.self c.answer.new.self < resizer_left c.loop-ask.self-inside.store c.loop-ask.resizer =
    subst (λ (z : Resizer). resizer_left c.perform_copy-answer.new.self z < resizer_left c.loop-ask.self-inside.store c.loop-ask.resizer)
    (answered g (goal.at.loop-ask-smaller g c).After-answer)
    (resizing_nears g.K.PartialEq.eq g.K.Hash.hash_input g.S.BuildHasher.build_hasher g.S.Hasher.Hasher.write g.S.Hasher.Hasher.finish g.met.K.Eq.laws
    g.met.K.Hash.respects_eq c.args.self.now c.args.resize (lawful g n) (fits g n) c.loop-ask.self-inside.store c.loop-ask.resizer c.in-Some.ask
    c.perform_copy-answer.result c.perform_copy-answer.new.self (sym c.ask.ensures ∙ c.in-Some.is) c.perform_copy-answer.ensures c.loop-ask.invariant.0) in
    omega (arith, near, nearer)

pub loop-ask-preserved : goal.loop-ask-preserved
loop-ask-preserved g c = ((copied g (goal.at.loop-ask-preserved g c).After-copy_for_resizer).0, c.loop-ask.invariant.1, c.loop-ask.invariant.2)

pub invariant_of-self : goal.invariant_of-self
invariant_of-self g c =
    let n = (goal.at.invariant_of-self g c).After-new-resizer in
    let (reply, told) = resized_replied g.K.PartialEq.eq g.K.Hash.hash_input g.S.BuildHasher.build_hasher g.S.Hasher.Hasher.write
    g.S.Hasher.Hasher.finish g.met.K.Eq.laws g.met.K.Hash.respects_eq c.args.self.now c.args.resize (lawful g n) (fits g n)
    c.loop-ask.self-inside.store c.loop-ask.resizer c.loop-ask.invariant.0 (sym c.ask.ensures ∙ c.in_default.is) in
    subst (λ mode. IsLawfulMap g.K.PartialEq.eq (hash g c.loop-ask.self-inside.store.hasher) c.loop-ask.self-inside.store mode
    c.loop-ask.self-inside.initial) (sym c.loop-ask.invariant.1)
    (subst (λ initial. IsLawfulMap g.K.PartialEq.eq (hash g c.loop-ask.self-inside.store.hasher) c.loop-ask.self-inside.store c.args.self.now.mode
    initial) (sym c.loop-ask.invariant.2)
    (resized_lawful g.K.PartialEq.eq g.K.Hash.hash_input g.S.BuildHasher.build_hasher g.S.Hasher.Hasher.write g.S.Hasher.Hasher.finish g.met.K.Eq.laws
    g.met.K.Hash.respects_eq c.args.self.now c.args.resize (lawful g n) (fits g n) c.loop-ask.self-inside.store c.loop-ask.resizer
    c.loop-ask.invariant.0 reply told))

-- the map when the call has ended
left_is : (g : Over) (c : In_default g) → record c.args.self.now { store = c.loop-ask.self-inside.store }
    ≡ record { store = c.loop-ask.self-inside.store; mode = c.loop-ask.self-inside.mode; initial = c.loop-ask.self-inside.initial }
left_is g c =
    ap (λ mode. record { store = c.loop-ask.self-inside.store; mode = mode; initial = c.args.self.now.initial }) (sym c.loop-ask.invariant.1)
    ∙ ap (λ initial. record { store = c.loop-ask.self-inside.store; mode = c.loop-ask.self-inside.mode; initial = initial }) (sym c.loop-ask.invariant.2)

-- a refusal of its machine
refused_by : (z : Resizer) (refused : Refused) → z.state ≡ Was_refused refused → reply_of z ≡ Some (Reply_refused refused)
refused_by z refused is = ap reply_in is

-- the facts after the call beside the finite map
keeps : (g : Over) (c : In_default g) → IsLawfulMap g.K.PartialEq.eq (hash g c.args.self.now.store.hasher) c.args.self.now.store c.args.self.now.mode
    c.args.self.now.initial → FitsSigned w64 c.args.self.now.store.count.sum
    → Keeps c.args.self.now (record c.args.self.now { store = c.loop-ask.self-inside.store })
keeps g c orderly fit =
    let (reply, told) = resized_replied g.K.PartialEq.eq g.K.Hash.hash_input g.S.BuildHasher.build_hasher g.S.Hasher.Hasher.write
    g.S.Hasher.Hasher.finish g.met.K.Eq.laws g.met.K.Hash.respects_eq c.args.self.now c.args.resize orderly fit c.loop-ask.self-inside.store
    c.loop-ask.resizer c.loop-ask.invariant.0 (sym c.ask.ensures ∙ c.in_default.is) in
    resized_keeps g.K.PartialEq.eq g.K.Hash.hash_input g.S.BuildHasher.build_hasher g.S.Hasher.Hasher.write g.S.Hasher.Hasher.finish g.met.K.Eq.laws
    g.met.K.Hash.respects_eq c.args.self.now c.args.resize orderly fit c.loop-ask.self-inside.store c.loop-ask.resizer c.loop-ask.invariant.0 reply told

-- if no table is large enough for this many pairs
past : (g : Over) (c : In_default g) → IsLawfulMap g.K.PartialEq.eq (hash g c.args.self.now.store.hasher) c.args.self.now.store c.args.self.now.mode
    c.args.self.now.initial → FitsSigned w64 c.args.self.now.store.count.sum → IsPastLimit g.K.PartialEq.eq c.args.resize c.args.self.now.store
    → (reply_of c.loop-ask.resizer ≡ Some (Reply_refused Capacity)) × (c.loop-ask.self-inside.store ≡ c.args.self.now.store)
past g c orderly fit late =
    resized_past g.K.PartialEq.eq g.K.Hash.hash_input g.S.BuildHasher.build_hasher g.S.Hasher.Hasher.write g.S.Hasher.Hasher.finish g.met.K.Eq.laws
    g.met.K.Hash.respects_eq c.args.self.now c.args.resize orderly fit c.loop-ask.self-inside.store c.loop-ask.resizer c.loop-ask.invariant.0 late
    (sym c.ask.ensures ∙ c.in_default.is)

-- if there is already room for them
there : (g : Over) (c : In_default g) → IsLawfulMap g.K.PartialEq.eq (hash g c.args.self.now.store.hasher) c.args.self.now.store c.args.self.now.mode
    c.args.self.now.initial → FitsSigned w64 c.args.self.now.store.count.sum → IsRoomThere g.K.PartialEq.eq c.args.resize c.args.self.now.store
    → (reply_of c.loop-ask.resizer ≡ Some Reply_done) × (c.loop-ask.self-inside.store ≡ c.args.self.now.store)
there g c orderly fit room =
    resized_idle g.K.PartialEq.eq g.K.Hash.hash_input g.S.BuildHasher.build_hasher g.S.Hasher.Hasher.write g.S.Hasher.Hasher.finish
    g.met.K.Eq.laws g.met.K.Hash.respects_eq c.args.self.now c.args.resize orderly fit c.loop-ask.self-inside.store c.loop-ask.resizer
    c.loop-ask.invariant.0 room (sym c.ask.ensures ∙ c.in_default.is)

pub returns-in-Refused-clause-there : goal.returns-in-Refused-clause-there
returns-in-Refused-clause-there g c = λ room.
    let n = (goal.at.returns-in-Refused-clause-there g c).After-new-resizer in
    let f : Some (Reply_refused c.in-Refused.refused) ≡ Some Reply_done = sym (refused_by c.loop-ask.resizer c.in-Refused.refused c.in-Refused.is)
    ∙ (there g (goal.at.returns-in-Refused-clause-there g c).In_default (lawful g n) (fits g n) room).0 in
    absurd cc

pub returns-in-Refused-clause-err : goal.returns-in-Refused-clause-err
returns-in-Refused-clause-err g c =
    let n = (goal.at.returns-in-Refused-clause-err g c).After-new-resizer in
    subst (IsResizeRefusal g.K.PartialEq.eq c.args.resize c.args.self.now c.in-Refused.refused)
    (left_is g (goal.at.returns-in-Refused-clause-err g c).In_default)
    (resized_refused g.K.PartialEq.eq g.K.Hash.hash_input g.S.BuildHasher.build_hasher g.S.Hasher.Hasher.write g.S.Hasher.Hasher.finish
    g.met.K.Eq.laws g.met.K.Hash.respects_eq c.args.self.now c.args.resize (lawful g n) (fits g n) c.loop-ask.self-inside.store c.loop-ask.resizer
    c.loop-ask.invariant.0 c.in-Refused.refused (refused_by c.loop-ask.resizer c.in-Refused.refused c.in-Refused.is))

pub returns-in-Refused-clause-map : goal.returns-in-Refused-clause-map
returns-in-Refused-clause-map g c =
    let n = (goal.at.returns-in-Refused-clause-map g c).After-new-resizer in
    resized_unchanged g.K.PartialEq.eq g.K.Hash.hash_input g.S.BuildHasher.build_hasher g.S.Hasher.Hasher.write g.S.Hasher.Hasher.finish
    g.met.K.Eq.laws g.met.K.Hash.respects_eq c.args.self.now c.args.resize (lawful g n) (fits g n) c.loop-ask.self-inside.store c.loop-ask.resizer
    c.loop-ask.invariant.0 (sym c.ask.ensures ∙ c.in_default.is)

pub returns-in-Refused-clause-words : goal.returns-in-Refused-clause-words
returns-in-Refused-clause-words g c = c.loop-ask.invariant.0.came.logs

pub returns-in-Refused-clause-alone : goal.returns-in-Refused-clause-alone
returns-in-Refused-clause-alone g c =
    let n = (goal.at.returns-in-Refused-clause-alone g c).After-new-resizer in
    subst (IsResizedAlone g.K.PartialEq.eq (hash g) {R = Unit {0}} c.args.resize c.args.self.now (Err c.in-Refused.refused))
    (left_is g (goal.at.returns-in-Refused-clause-alone g c).In_default)
    (resized_refused_alone g.K.PartialEq.eq g.K.Hash.hash_input g.S.BuildHasher.build_hasher g.S.Hasher.Hasher.write g.S.Hasher.Hasher.finish
    g.met.K.Eq.laws g.met.K.Hash.respects_eq c.args.self.now c.args.resize (lawful g n) (fits g n) c.loop-ask.self-inside.store c.loop-ask.resizer
    c.loop-ask.invariant.0 c.in-Refused.refused (refused_by c.loop-ask.resizer c.in-Refused.refused c.in-Refused.is))

pub returns-in_default-state : goal.returns-in_default-state
returns-in_default-state g c =
    let n = (goal.at.returns-in_default-state g c).After-new-resizer in
    let end = (goal.at.returns-in_default-state g c).In_default in
    let none : ask_of c.loop-ask.resizer ≡ None = sym c.ask.ensures ∙ c.in_default.is in
    let done = unrefused_done c.loop-ask.resizer none c.in_default-state.not-Refused in
    record {
      done = resized_done g.K.PartialEq.eq g.K.Hash.hash_input g.S.BuildHasher.build_hasher g.S.Hasher.Hasher.write g.S.Hasher.Hasher.finish
          g.met.K.Eq.laws g.met.K.Hash.respects_eq c.args.self.now c.args.resize (lawful g n) (fits g n) c.loop-ask.self-inside.store c.loop-ask.resizer
          c.loop-ask.invariant.0 done;
      err = tt;
      too_much = λ late. let f : Some Reply_done ≡ Some (Reply_refused Capacity) = sym done ∙ (past g end (lawful g n) (fits g n) late).0 in absurd cc;
      there = λ room. (
        refl,
        sym (left_is g end) ∙ ap (λ (store : StoreState _ _ _). record c.args.self.now { store = store }) (there g end (lawful g n) (fits g n) room).1,
      );
      map = resized_unchanged g.K.PartialEq.eq g.K.Hash.hash_input g.S.BuildHasher.build_hasher g.S.Hasher.Hasher.write g.S.Hasher.Hasher.finish
          g.met.K.Eq.laws g.met.K.Hash.respects_eq c.args.self.now c.args.resize (lawful g n) (fits g n) c.loop-ask.self-inside.store c.loop-ask.resizer
          c.loop-ask.invariant.0 none;
      alone = subst (IsResizedAlone g.K.PartialEq.eq (hash g) {R = Unit {0}} c.args.resize c.args.self.now (Ok tt)) (left_is g end)
          (resized_done_alone g.K.PartialEq.eq g.K.Hash.hash_input g.S.BuildHasher.build_hasher g.S.Hasher.Hasher.write g.S.Hasher.Hasher.finish
          g.met.K.Eq.laws g.met.K.Hash.respects_eq c.args.self.now c.args.resize (lawful g n) (fits g n) c.loop-ask.self-inside.store c.loop-ask.resizer
          c.loop-ask.invariant.0 done);
      words = c.loop-ask.invariant.0.came.logs;
      keeps = subst (Keeps c.args.self.now) (left_is g end) (keeps g end (lawful g n) (fits g n));
    }
