use Rattle.std.proofs.Common.{rules, ◌≡◌, ℕ, ◌^◌, ◌<◌, Err, IfErr, None, Some, [], refl, subst}
use Rattle.papaya_call.specs.declared.call.Task.TheVariants.{Insert}
use Rattle.papaya_call.specs.Machine.{started}
use Rattle.papaya_call_law.proofs.ChainStanding.{started_stands}
use Rattle.papaya_words_keys.specs.Hashes.{hash_of}
use Rattle.papaya_core_timeline.proofs.KeptCore.{keys_lawful}
use Rattle.papaya_seq.specs.Drives.{IsLedTo, IsReplied, at_hand, led_state}
use Rattle.papaya_seq.specs.Map.{MapState}
use Rattle.papaya_seq.proofs.InsertingDone.{InsertionDone, insertion_done}
use Rattle.papaya_seq.proofs.Lawful.{core_bare}
use Rattle.papaya_seq.proofs.seq.HashMap.insert_by.Goals as goal
use Rattle.papaya_seq.proofs.seq.HashMap.insert_by.Goals.{In-Err, In-Ok}
use Rattle.papaya_seq.proofs.seq.HashMap.insert_by.Given.{Over}

-- the hash of a key
abbrev hash : (g : Over) → g.row.S.Denot → g.row.K.Denot → ℕ
hash g = hash_of g.K.Hash.hash_input g.S.BuildHasher.build_hasher g.S.Hasher.Hasher.write g.S.Hasher.Hasher.finish

-- an empty slot's word is 0
pub insert_fast-requires-clause-bare : goal.insert_fast-requires-clause-bare
insert_fast-requires-clause-bare g c = core_bare g.K.PartialEq.eq (hash g c.self.inside.store.hasher) [] c.self.inside.mode c.self.inside.store
    c.self.invariant.lawful

-- the map has no limit
free : (g : Over) (c : In-Ok g) → None ≡ c.self.inside.mode.limit
free g c = search rules

-- it was done at once
done : (g : Over) (c : In-Ok g) → InsertionDone g.K.PartialEq.eq (hash g) c.args.self.now c.args.replace c.args.key c.args.value c.in-Ok.done.0
    c.in-Ok.done.1 (record { store = c.insert_fast.new.store; mode = c.self.inside.mode; initial = c.self.inside.initial })
done g c =
    let view : MapState g.row.K.Denot g.row.V.Denot
    g.row.S.Denot = record { store = c.self.inside.store; mode = c.self.inside.mode; initial = c.self.inside.initial } in
    let hashed = hash g view.store.hasher c.args.key in
    subst (λ (m : MapState g.row.K.Denot g.row.V.Denot g.row.S.Denot).
    InsertionDone g.K.PartialEq.eq (hash g) m c.args.replace c.args.key c.args.value c.in-Ok.done.0 c.in-Ok.done.1
    (record { store = c.insert_fast.new.store; mode = c.self.inside.mode; initial = c.self.inside.initial })) c.self.view_is
    (insertion_done g.K.PartialEq.eq g.K.Hash.hash_input g.S.BuildHasher.build_hasher g.S.Hasher.Hasher.write g.S.Hasher.Hasher.finish g.met.K.Eq.laws
    g.met.K.Hash.respects_eq view c.args.replace c.args.key c.args.value
    (keys_lawful g.K.PartialEq.eq g.K.Hash.hash_input g.S.BuildHasher.build_hasher g.S.Hasher.Hasher.write g.S.Hasher.Hasher.finish g.met.K.Eq.laws
    g.met.K.Hash.respects_eq view.store.hasher) c.self.invariant (subst (λ n. n < 2 ^ 64) c.hash-hash.ensures.value c.hash-hash.ensures.fits)
    c.in-Ok.done.0 c.in-Ok.done.1 c.insert_fast.new.store
    (started_stands (Insert c.args.replace) hashed view.mode.resize view.initial 0 view.mode.limit c.self.invariant.lawful.core.limit
    c.self.invariant.lawful.core.chunked c.self.invariant.power)
    (subst (λ n. IsReplied g.K.PartialEq.eq (hash g) view.store
    (at_hand (started (Insert c.args.replace) n view.mode.resize view.initial view.mode.limit) c.args.key (Some c.args.value)) c.in-Ok.done.0
    c.in-Ok.done.1 c.insert_fast.new.store) c.hash-hash.ensures.value
    (subst (λ limit. IsReplied g.K.PartialEq.eq (hash g) view.store
    (at_hand (started (Insert c.args.replace) c.hash-hash.result view.mode.resize view.initial limit) c.args.key (Some c.args.value)) c.in-Ok.done.0
    c.in-Ok.done.1 c.insert_fast.new.store) (free g c) (c.in-Ok.ensures.ok view.mode.resize view.initial))))

pub invariant_of-self : goal.invariant_of-self
invariant_of-self g c = (done g (goal.at.invariant_of-self g c).In-Ok).orderly

pub returns-in-Ok-clause-answers : goal.returns-in-Ok-clause-answers
returns-in-Ok-clause-answers g c = (done g (goal.at.returns-in-Ok-clause-answers g c).In-Ok).answers

pub returns-in-Ok-clause-fresh : goal.returns-in-Ok-clause-fresh
returns-in-Ok-clause-fresh g c = (done g (goal.at.returns-in-Ok-clause-fresh g c).In-Ok).fresh

pub returns-in-Ok-clause-cause : goal.returns-in-Ok-clause-cause
returns-in-Ok-clause-cause g c = (done g (goal.at.returns-in-Ok-clause-cause g c).In-Ok).cause

pub returns-in-Ok-clause-absent : goal.returns-in-Ok-clause-absent
returns-in-Ok-clause-absent g c = (done g (goal.at.returns-in-Ok-clause-absent g c).In-Ok).absent

pub returns-in-Ok-clause-left : goal.returns-in-Ok-clause-left
returns-in-Ok-clause-left g c = (done g (goal.at.returns-in-Ok-clause-left g c).In-Ok).left_is

pub returns-in-Ok-clause-alone : goal.returns-in-Ok-clause-alone
returns-in-Ok-clause-alone g c = (done g (goal.at.returns-in-Ok-clause-alone g c).In-Ok).alone

pub returns-in-Ok-clause-keeps : goal.returns-in-Ok-clause-keeps
returns-in-Ok-clause-keeps g c = (done g (goal.at.returns-in-Ok-clause-keeps g c).In-Ok).keeps

pub returns-in-Ok-clause-stores : goal.returns-in-Ok-clause-stores
returns-in-Ok-clause-stores g c = (done g (goal.at.returns-in-Ok-clause-stores g c).In-Ok).logs

-- a call that begins at the root has come there
pub insert_slow-requires : goal.insert_slow-requires
insert_slow-requires g c = λ mode initial limit. ([], refl)

-- The key and the value are returned as they were passed in, with the state after the search, and
-- the store is as it was.
abbrev IsGivenBack : (g : Over) → In-Err g → (g.row.K.Denot × g.row.V.Denot × ℕ) → Type 0
IsGivenBack g c back = (back.0 ≡ c.args.key) × (back.1 ≡ c.args.value) × (c.insert_fast.new.store ≡ c.self.inside.store)
    × IsLedTo (g.K.PartialEq.eq c.args.key) c.self.inside.store c.hash-hash.result c.args.replace (led_state back.2)

given_back : (g : Over) (c : In-Err g) → IsGivenBack g c (c.in-Err.key, c.in-Err.value, c.in-Err.full)
given_back g c =
    let is : c.insert_fast.result ≡ Err (c.in-Err.key, c.in-Err.value, c.in-Err.full) = search rules in
    subst (λ r. IfErr r (IsGivenBack g c)) is c.insert_fast.ensures.err

pub invariant_of-self-in-Err : goal.invariant_of-self-in-Err
invariant_of-self-in-Err g c = rw (given_back g (goal.at.invariant_of-self-in-Err g c).In-Err).2 c.self.invariant

pub insert_slow-requires-in-Err : goal.insert_slow-requires-in-Err
insert_slow-requires-in-Err g c =
    let (key, value, store, led) = given_back g (goal.at.insert_slow-requires-in-Err g c).In-Err in
    rw (store, key) (subst (λ n. IsLedTo (g.K.PartialEq.eq c.args.key) c.self.inside.store n c.args.replace (led_state c.in-Err.full))
    c.hash-hash.ensures.value led)
