use Rattle.std.proofs.Common.{◌≡◌, ℕ, List, Some, refl, sym, ap, subst, ◌∙◌}
use Rattle.papaya_core_store.specs.Store.{StoreState}
use Rattle.papaya_core_store.specs.declared.store.Mode.{Mode}
use Rattle.papaya_core_timeline.specs.declared.seat.Seat.{Seat}
use Rattle.papaya_core_timeline.specs.Callers.{with_seat, with_work, working}
use Rattle.papaya_core_timeline.specs.Begins.{Begins}
use Rattle.papaya_core_timeline.specs.Core.{CoreState, work_of}
use Rattle.papaya_core_timeline.specs.Counted.{IsCounted}
use Rattle.papaya_core_timeline.specs.Intends.{IntendsHanded}
use Rattle.papaya_core_timeline.specs.Kept.{IsLawfulCore}
use Rattle.papaya_core_timeline.proofs.CallersLemmas.{same_item, working-same}
use Rattle.papaya_words_keys.specs.Hashes.{hash_of}
use Rattle.papaya_core_timeline.proofs.HeadlineLemmas.{begin-core}
use Rattle.papaya_core_timeline.proofs.CountedLemmas.{counted_begin}
use Rattle.papaya_core_timeline.proofs.Intents.{begun_intends}
use Rattle.papaya_core_timeline.proofs.KeptCore.{begin_lawful}
use Rattle.papaya_core.proofs.schedule.Core.begin.Goals as goal
use Rattle.papaya_core.proofs.schedule.Core.begin.Goals.{After-put}
use Rattle.papaya_core.proofs.schedule.Core.begin.Given.{Over}

-- a core of these parts
abbrev core_of : {K V S A : Type 0} → StoreState K V S → List (Seat K V A) → Mode → ℕ → CoreState K V S A
core_of store callers mode initial = record { store = store; callers = callers; mode = mode; initial = initial }

-- the call has begun, with its caller's number
begins : (g : Over) (c : After-put g)
    → (it : Begins (hash_of g.K.Hash.hash_input g.S.BuildHasher.build_hasher g.S.Hasher.Hasher.write g.S.Hasher.Hasher.finish
    c.self.inside.store.hasher) (core_of c.self.inside.store c.self.inside.callers c.self.inside.mode c.self.inside.initial) c.args.caller
    c.args.call (core_of c.self.inside.store c.put.new.self c.self.inside.mode c.self.inside.initial)) × (it.number ≡ c.args.caller)
begins g c =
    let callers = c.put.ensures ∙ ap (λ (y : List (Seat _ _ _)). with_work y c.args.caller (Some c.begin_call-work.result)) c.in_ok-seat.ensures.ok.0 in (
      record {
        number = c.args.caller;
        store = refl;
        callers = callers
            ∙ ap (λ r. with_work (with_seat c.self.inside.callers c.args.caller) c.args.caller (Some r)) c.begin_call-work.ensures.begun;
        mode = refl;
        initial = refl;
        fits = c.begin_call-work.ensures.fits;
        power = c.self.invariant.2;
      },
      refl,
    )

-- the core after a call was begun
call_begun : (g : Over) (c : After-put g)
    → IsLawfulCore g.K.PartialEq.eq (hash_of g.K.Hash.hash_input g.S.BuildHasher.build_hasher g.S.Hasher.Hasher.write g.S.Hasher.Hasher.finish
    c.self.inside.store.hasher) c.self.inside.store c.put.new.self c.self.inside.mode × IsCounted g.K.PartialEq.eq c.self.inside.store c.put.new.self
call_begun g c =
    let hash = hash_of g.K.Hash.hash_input g.S.BuildHasher.build_hasher g.S.Hasher.Hasher.write g.S.Hasher.Hasher.finish c.self.inside.store.hasher in
    let before = core_of c.self.inside.store c.self.inside.callers c.self.inside.mode c.self.inside.initial in
    let later = core_of c.self.inside.store c.put.new.self c.self.inside.mode c.self.inside.initial in
    let begun = (begins g c).0 in (
      begin_lawful g.K.PartialEq.eq g.K.Hash.hash_input g.S.BuildHasher.build_hasher g.S.Hasher.Hasher.write g.S.Hasher.Hasher.finish g.met.K.Eq.laws
          g.met.K.Hash.respects_eq
          before c.args.caller c.args.call later begun
          (begin-core hash before c.args.caller c.args.call later begun c.self.invariant.0.core) c.self.invariant.0,
      counted_begin g.K.PartialEq.eq hash before c.args.caller c.args.call later begun (ap (λ s. work_of s c.args.caller) c.self.view_is ∙ c.requires)
          c.self.invariant.1,
    )

pub invariant_of-self-2 : goal.invariant_of-self-2
invariant_of-self-2 g c = let sound = call_begun g (goal.at.invariant_of-self-2 g c).After-put in (sound.0, sound.1, c.self.invariant.2)

-- the call that began in the seat intends to store the value that was passed in
pub returns-clause-handed : goal.returns-clause-handed
returns-clause-handed g c work is =
    let callers = c.put.ensures ∙ ap (λ (y : List (Seat _ _ _)). with_work y c.args.caller (Some c.begin_call-work.result)) c.in_ok-seat.ensures.ok.0 in
    let hash = hash_of g.K.Hash.hash_input g.S.BuildHasher.build_hasher g.S.Hasher.Hasher.write g.S.Hasher.Hasher.finish c.self.inside.store.hasher in
    let put : c.begin_call-work.result ≡ work =
    same_item c.begin_call-work.result work (working-same (with_seat c.self.inside.callers c.args.caller) c.args.caller
    (Some c.begin_call-work.result) work (ap (λ (y : List (Seat _ _ _)). working y c.args.caller) (sym callers) ∙ is)) in
    subst (IntendsHanded c.self.inside.store c.args.call) (sym c.begin_call-work.ensures.begun ∙ put)
    (begun_intends c.self.inside.store hash c.self.inside.mode c.self.inside.initial c.args.caller c.args.call)

pub returns-clause-counted : goal.returns-clause-counted
returns-clause-counted g c = (call_begun g (goal.at.returns-clause-counted g c).After-put).1

pub returns-clause-ok : goal.returns-clause-ok
returns-clause-ok g c =
    let at = (goal.at.returns-clause-ok g c).After-put in
    let later = core_of c.self.inside.store at.put.new.self c.self.inside.mode c.self.inside.initial in
    subst (λ s. Begins (hash_of g.K.Hash.hash_input g.S.BuildHasher.build_hasher g.S.Hasher.Hasher.write g.S.Hasher.Hasher.finish s.store.hasher) s
    c.args.caller c.args.call later) c.self.view_is (begins g at).0

pub returns-clause-number : goal.returns-clause-number
returns-clause-number g c =
    let at = (goal.at.returns-clause-number g c).After-put in
    let later = core_of c.self.inside.store at.put.new.self c.self.inside.mode c.self.inside.initial in
    subst (λ s. (it : Begins (hash_of g.K.Hash.hash_input g.S.BuildHasher.build_hasher g.S.Hasher.Hasher.write g.S.Hasher.Hasher.finish
    s.store.hasher) s c.args.caller c.args.call later) × (it.number ≡ c.args.caller)) c.self.view_is (begins g at)
