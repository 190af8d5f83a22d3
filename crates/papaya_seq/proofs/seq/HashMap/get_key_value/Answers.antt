use Rattle.std.proofs.Common.{◌≡◌, Some, None, IsSome, false, is_some, refl, sym, ◌∙◌, ap, subst}
use Rattle.papaya_core_store.specs.Store.{pair_of}
use Rattle.papaya_words_keys.specs.Hashes.{hash_of}
use Rattle.papaya_core_timeline.proofs.CountedCore.{lawful_apart}
use Rattle.papaya_seq.specs.Map.{IsLawfulMap, MapState, core_of}
use Rattle.papaya_seq.proofs.LookResults.{contains_found, number_logged, refers_found, refers_map}
use Rattle.papaya_seq.proofs.seq.HashMap.get_key_value.Goals as goal

pub returns-in-Some-clause-answer : goal.returns-in-Some-clause-answer
returns-in-Some-clause-answer g c =
    let found = c.look_up.ensures.found in
    let n = c.in-Some.pair in
    refers_found g.K.PartialEq.eq (g.Q.Equivalent.matches c.args.key.now) c.args.self.now.store found.0 n (Some c.stored_entry.result) found.1.0 (sym c.in-Some.is ∙ found.2)
    (subst (λ (s : MapState g.row.K.Denot g.row.V.Denot g.row.S.Denot).
    pair_of s.store n ≡ Some (record { number = n; key = c.stored_entry.result.0.now; value = c.stored_entry.result.1.now }))
    c.self.view_is c.stored_entry.ensures)

pub returns-in-Some-clause-map : goal.returns-in-Some-clause-map
returns-in-Some-clause-map g c k matched =
    let lawful = subst (λ (s : MapState g.row.K.Denot g.row.V.Denot g.row.S.Denot).
    IsLawfulMap g.K.PartialEq.eq (hash_of g.K.Hash.hash_input g.S.BuildHasher.build_hasher g.S.Hasher.Hasher.write g.S.Hasher.Hasher.finish
    s.store.hasher) s.store s.mode s.initial) c.self.view_is c.self.invariant in
    let found = c.look_up.ensures.found in
    let n = c.in-Some.pair in
    refers_map g.K.PartialEq.eq g.met.K.Eq.laws (g.Q.Equivalent.matches c.args.key.now) c.args.self.now.store
    (lawful_apart g.K.PartialEq.eq g.K.Hash.hash_input g.S.BuildHasher.build_hasher g.S.Hasher.Hasher.write g.S.Hasher.Hasher.finish g.met.K.Eq.laws
    g.met.K.Hash.respects_eq (core_of c.args.self.now) lawful.lawful)
    k (λ l. g.met.Q.Equivalent.matches_equal_keys c.args.key.now k l matched) (Some c.stored_entry.result)
    (refers_found g.K.PartialEq.eq (g.Q.Equivalent.matches c.args.key.now) c.args.self.now.store found.0 n (Some c.stored_entry.result) found.1.0 (sym c.in-Some.is ∙ found.2)
    (subst (λ (s : MapState g.row.K.Denot g.row.V.Denot g.row.S.Denot).
    pair_of s.store n ≡ Some (record { number = n; key = c.stored_entry.result.0.now; value = c.stored_entry.result.1.now }))
    c.self.view_is c.stored_entry.ensures))

pub returns-in-None-clause-map : goal.returns-in-None-clause-map
returns-in-None-clause-map g c k matched =
    let lawful = subst (λ (s : MapState g.row.K.Denot g.row.V.Denot g.row.S.Denot).
    IsLawfulMap g.K.PartialEq.eq (hash_of g.K.Hash.hash_input g.S.BuildHasher.build_hasher g.S.Hasher.Hasher.write g.S.Hasher.Hasher.finish
    s.store.hasher) s.store s.mode s.initial) c.self.view_is c.self.invariant in
    let found = c.look_up.ensures.found in
    refers_map g.K.PartialEq.eq g.met.K.Eq.laws (g.Q.Equivalent.matches c.args.key.now) c.args.self.now.store
    (lawful_apart g.K.PartialEq.eq g.K.Hash.hash_input g.S.BuildHasher.build_hasher g.S.Hasher.Hasher.write g.S.Hasher.Hasher.finish g.met.K.Eq.laws
    g.met.K.Hash.respects_eq (core_of c.args.self.now) lawful.lawful)
    k (λ l. g.met.Q.Equivalent.matches_equal_keys c.args.key.now k l matched) None
    (contains_found g.K.PartialEq.eq (g.Q.Equivalent.matches c.args.key.now) c.args.self.now.store found.0 false found.1.0
    (ap is_some (sym c.in-None.is ∙ found.2)))

pub stored_entry-requires : goal.stored_entry-requires
stored_entry-requires g c = subst (λ (s : MapState g.row.K.Denot g.row.V.Denot g.row.S.Denot). IsSome (pair_of s.store c.in-Some.pair)) (sym c.self.view_is)
    (let found = c.look_up.ensures.found in
    let (p, is, holds, logged) = number_logged g.K.PartialEq.eq (g.Q.Equivalent.matches c.args.key.now) c.args.self.now.store found.0 c.in-Some.pair
    found.1.0 (sym c.in-Some.is ∙ found.2) in
    subst (λ o. IsSome o) (sym logged) refl)
