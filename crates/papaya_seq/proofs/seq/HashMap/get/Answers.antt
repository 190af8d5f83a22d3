use Rattle.std.proofs.Common.{◌≡◌, true, Some, IsSome, refl, sym, ◌∙◌, ap, subst}
use Rattle.papaya_core_store.specs.Store.{Stored, pair_of}
use Rattle.papaya_words_keys.specs.Hashes.{hash_of}
use Rattle.papaya_core_timeline.proofs.CountedCore.{lawful_apart}
use Rattle.papaya_core_timeline.specs.Content.{map_in}
use Rattle.papaya_seq.specs.Map.{Holds, IsLawfulMap, MapState, core_of, value_of}
use Rattle.papaya_seq.proofs.LookResults.{found_map, no_value, number_logged}
use Rattle.papaya_seq.proofs.seq.HashMap.get.Goals as goal
use Rattle.papaya_seq.proofs.seq.HashMap.get.Goals.{After-stored_value, After-look_up, In-Some}
use Rattle.papaya_seq.proofs.seq.HashMap.get.Given.{Over}

-- the pair that was found
there : (g : Over) (c : In-Some g) → (p : Stored g.row.K.Denot g.row.V.Denot) × (c.look_up.ensures.found.0 ≡ Some p)
    × Holds g.K.PartialEq.eq (g.Q.Equivalent.matches c.args.key.now) c.args.self.now.store p × (pair_of c.args.self.now.store c.in-Some.pair ≡ Some p)
there g c =
    let found = c.look_up.ensures.found in
    number_logged g.K.PartialEq.eq (g.Q.Equivalent.matches c.args.key.now) c.args.self.now.store found.0 c.in-Some.pair found.1.0
    (sym c.in-Some.is ∙ found.2)

-- its value
value_is : (g : Over) (c : After-stored_value g) → c.stored_value.result.now ≡ (there g (goal.at.After-stored_value g c).In-Some).0.value
value_is g c =
    let p = there g (goal.at.After-stored_value g c).In-Some in
    c.stored_value.ensures p.0
    (subst (λ (s : MapState g.row.K.Denot g.row.V.Denot g.row.S.Denot). pair_of s.store c.in-Some.pair ≡ Some p.0) (sym c.self.view_is) p.3)

pub stored_value-requires : goal.stored_value-requires
stored_value-requires g c =
    let p = there g (goal.at.stored_value-requires g c).In-Some in
    subst (λ (s : MapState g.row.K.Denot g.row.V.Denot g.row.S.Denot). IsSome (pair_of s.store c.in-Some.pair)) (sym c.self.view_is)
    (subst (λ o. IsSome o) (sym p.3) refl)

pub returns-in-Some-clause-answer : goal.returns-in-Some-clause-answer
returns-in-Some-clause-answer g c =
    let at = goal.at.returns-in-Some-clause-answer g c in
    let p = there g at.In-Some in
    (p.0, p.2, sym (value_is g at.After-stored_value))

pub returns-in-Some-clause-machine : goal.returns-in-Some-clause-machine
returns-in-Some-clause-machine g c =
    let at = goal.at.returns-in-Some-clause-machine g c in
    let p = there g at.In-Some in
    let found = c.look_up.ensures.found in
    (found.0, found.1, ap Some (value_is g at.After-stored_value) ∙ ap value_of (sym p.1))

-- the map is in order
abbrev Orderly : (g : Over) → MapState g.row.K.Denot g.row.V.Denot g.row.S.Denot → Type 0
Orderly g s = IsLawfulMap g.K.PartialEq.eq (hash_of g.K.Hash.hash_input g.S.BuildHasher.build_hasher g.S.Hasher.Hasher.write g.S.Hasher.Hasher.finish
    s.store.hasher) s.store s.mode s.initial

-- the pair of the finite map is the one that was found
map_is : (g : Over) (c : After-look_up g) → Orderly g c.args.self.now → (k : g.row.K.Denot) → g.Q.Equivalent.matches c.args.key.now k ≡ true
    → map_in g.K.PartialEq.eq c.args.self.now.store k ≡ c.look_up.ensures.found.0
map_is g c orderly k matched =
    let found = c.look_up.ensures.found in
    found_map g.K.PartialEq.eq g.met.K.Eq.laws (g.Q.Equivalent.matches c.args.key.now) c.args.self.now.store
    (lawful_apart g.K.PartialEq.eq g.K.Hash.hash_input g.S.BuildHasher.build_hasher g.S.Hasher.Hasher.write g.S.Hasher.Hasher.finish g.met.K.Eq.laws
    g.met.K.Hash.respects_eq (core_of c.args.self.now) orderly.lawful)
    k (λ l. g.met.Q.Equivalent.matches_equal_keys c.args.key.now k l matched) found.0 found.1.0

pub returns-in-Some-clause-map : goal.returns-in-Some-clause-map
returns-in-Some-clause-map g c k matched =
    let at = goal.at.returns-in-Some-clause-map g c in
    ap Some (value_is g at.After-stored_value)
    ∙ ap value_of (sym (map_is g at.After-look_up (subst (Orderly g) c.self.view_is c.self.invariant) k matched ∙ (there g at.In-Some).1))

pub returns-in-None-clause-map : goal.returns-in-None-clause-map
returns-in-None-clause-map g c k matched =
    let found = c.look_up.ensures.found in
    let at = goal.at.returns-in-None-clause-map g c in
    no_value found.0 (sym c.in-None.is ∙ found.2)
    ∙ ap value_of (sym (map_is g at.After-look_up (subst (Orderly g) c.self.view_is c.self.invariant) k matched))
