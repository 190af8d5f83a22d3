use Rattle.std.proofs.Common.{rules, ◌≡◌, ℕ, ◌^◌, ◌<◌, None, Option, [], sym, ◌∙◌, ap, subst}
use denote.Ref.{Bor}
use Rattle.papaya_call.specs.declared.call.Task.TheVariants.{Compute}
use Rattle.papaya_call.specs.declared.answers.Operation.{Operation}
use Rattle.papaya_call.specs.Machine.{started}
use Rattle.papaya_call_law.proofs.ChainStanding.{started_stands}
use Rattle.papaya_words_keys.specs.Hashes.{hash_of}
use Rattle.papaya_core_store.specs.Store.{Stored}
use Rattle.papaya_core_timeline.specs.Content.{map_in}
use Rattle.papaya_seq.specs.ComputeRuns.{IsComputedFrom}
use Rattle.papaya_seq.specs.Computes.{ComputesBy, Says, Takes}
use Rattle.papaya_seq.specs.Map.{MapState}
use Rattle.papaya_seq.specs.Searches.{IsRootHit}
use Rattle.papaya_seq.proofs.ComputingDone.{ComputationDone, computation_done, computation_takes}
use Rattle.papaya_seq.proofs.Lawful.{core_bare}
use Rattle.papaya_seq.proofs.seq.HashMap.compute_by.Goals as goal
use Rattle.papaya_seq.proofs.seq.HashMap.compute_by.Goals.{In-Ok}
use Rattle.papaya_seq.proofs.seq.HashMap.compute_by.Given as given
use Rattle.papaya_seq.proofs.seq.HashMap.compute_by.Given.{Over}

-- the hash of a key
abbrev hash : (g : Over) → g.row.S.Denot → g.row.K.Denot → ℕ
hash g = hash_of g.K.Hash.hash_input g.S.BuildHasher.build_hasher g.S.Hasher.Hasher.write g.S.Hasher.Hasher.finish

-- the results that the closure may return
abbrev post : (g : Over) → g.row.F.Denot → Option (Bor g.row.K.Denot × Bor g.row.V.Denot) → Operation g.row.V.Denot g.row.T.Denot → Type 0
post g = λ f shown operation. given.F-post g f shown operation

-- an empty slot's word is 0
pub compute_fast-requires-clause-bare : goal.compute_fast-requires-clause-bare
compute_fast-requires-clause-bare g c = core_bare g.K.PartialEq.eq (hash g c.self.inside.store.hasher) [] c.self.inside.mode c.self.inside.store
    c.self.invariant.lawful

-- the closure may be called with the pair that the map holds, and so with the pair that the search
-- of its root finds
pub compute_fast-requires-clause-takes : goal.compute_fast-requires-clause-takes
compute_fast-requires-clause-takes g c turn root =
    let view : MapState g.row.K.Denot g.row.V.Denot
    g.row.S.Denot = record { store = c.self.inside.store; mode = c.self.inside.mode; initial = c.self.inside.initial } in
    let free : None ≡ c.self.inside.mode.limit = search rules in
    computation_takes g.K.PartialEq.eq g.K.Hash.hash_input g.S.BuildHasher.build_hasher g.S.Hasher.Hasher.write g.S.Hasher.Hasher.finish
    g.met.K.Eq.laws g.met.K.Hash.respects_eq view c.self.invariant c.args.key
    (subst (λ n. n < 2 ^ 64) c.hash-hash.ensures.value c.hash-hash.ensures.fits) (post g) c.args.f (sym free)
    (started_stands Compute (hash g view.store.hasher c.args.key) view.mode.resize view.initial 0 None tt c.self.invariant.lawful.core.chunked
    c.self.invariant.power)
    (λ shown. given.F-pre g c.args.f shown) (subst (λ (m : MapState g.row.K.Denot g.row.V.Denot g.row.S.Denot).
    Takes (λ shown. given.F-pre g c.args.f shown) (map_in g.K.PartialEq.eq m.store c.args.key)) (sym c.self.view_is) c.requires)
    turn (subst (λ n. IsRootHit (g.K.PartialEq.eq c.args.key) view.store n turn) c.hash-hash.ensures.value root)

-- it was done at once
done : (g : Over) (c : In-Ok g) → ComputationDone g.K.PartialEq.eq (hash g) c.args.self.now c.args.key (Says (post g c.args.f)) c.in-Ok.done.0
    c.in-Ok.done.1 (record { store = c.compute_fast.new.store; mode = c.self.inside.mode; initial = c.self.inside.initial })
done g c =
    let view : MapState g.row.K.Denot g.row.V.Denot
    g.row.S.Denot = record { store = c.self.inside.store; mode = c.self.inside.mode; initial = c.self.inside.initial } in
    let free : None ≡ c.self.inside.mode.limit = search rules in
    subst (λ (m : MapState g.row.K.Denot g.row.V.Denot g.row.S.Denot).
    ComputationDone g.K.PartialEq.eq (hash g) m c.args.key (Says (post g c.args.f)) c.in-Ok.done.0 c.in-Ok.done.1
    (record { store = c.compute_fast.new.store; mode = c.self.inside.mode; initial = c.self.inside.initial })) c.self.view_is
    (computation_done g.K.PartialEq.eq g.K.Hash.hash_input g.S.BuildHasher.build_hasher g.S.Hasher.Hasher.write g.S.Hasher.Hasher.finish
    g.met.K.Eq.laws g.met.K.Hash.respects_eq view c.self.invariant c.args.key
    (subst (λ n. n < 2 ^ 64) c.hash-hash.ensures.value c.hash-hash.ensures.fits) (post g) c.args.f (sym free)
    (started_stands Compute (hash g view.store.hasher c.args.key) view.mode.resize view.initial 0 None tt c.self.invariant.lawful.core.chunked
    c.self.invariant.power)
    c.in-Ok.done.0 c.in-Ok.done.1 c.compute_fast.new.store
    (subst (λ n. IsComputedFrom g.K.PartialEq.eq (hash g) c.args.key (Says (post g c.args.f)) view.store
    (started Compute n view.mode.resize view.initial None) c.in-Ok.done.0 c.in-Ok.done.1 c.compute_fast.new.store) c.hash-hash.ensures.value
    (c.in-Ok.ensures.ok view.mode.resize view.initial)))

pub invariant_of-self : goal.invariant_of-self
invariant_of-self g c = (done g (goal.at.invariant_of-self g c).In-Ok).orderly

pub returns-in-Ok-clause-shown : goal.returns-in-Ok-clause-shown
returns-in-Ok-clause-shown g c = (done g (goal.at.returns-in-Ok-clause-shown g c).In-Ok).shown_is

pub returns-in-Ok-clause-computes : goal.returns-in-Ok-clause-computes
returns-in-Ok-clause-computes g c = (done g (goal.at.returns-in-Ok-clause-computes g c).In-Ok).computes

pub returns-in-Ok-clause-alone : goal.returns-in-Ok-clause-alone
returns-in-Ok-clause-alone g c = (done g (goal.at.returns-in-Ok-clause-alone g c).In-Ok).alone

-- the map and the closure were given back as they were
pub returns-in-Err-clause-computes : goal.returns-in-Err-clause-computes
returns-in-Err-clause-computes g c =
    let view : MapState g.row.K.Denot g.row.V.Denot
    g.row.S.Denot = record { store = c.self.inside.store; mode = c.self.inside.mode; initial = c.self.inside.initial } in
    let then : MapState g.row.K.Denot g.row.V.Denot
    g.row.S.Denot = record { store = c.compute_fast.new.store; mode = c.self.inside.mode; initial = c.self.inside.initial } in
    let same : then ≡ c.args.self.now = ap (λ store. record view { store = store }) c.in-Err.ensures.err.1 ∙ c.self.view_is in
    subst (λ (m : MapState g.row.K.Denot g.row.V.Denot g.row.S.Denot).
    ComputesBy g.K.PartialEq.eq c.args.key (λ p. p.number) (Says (post g c.args.f)) m c.compute_slow-in-Err.result.1 c.compute_slow-in-Err.new.self) same
    (subst (λ (back : g.row.K.Denot × g.row.F.Denot).
    ComputesBy g.K.PartialEq.eq back.0 (λ p. p.number) (Says (post g back.1)) then c.compute_slow-in-Err.result.1 c.compute_slow-in-Err.new.self)
    c.in-Err.ensures.err.0 c.compute_slow-in-Err.ensures.computes)
