use Rattle.std.proofs.Common.{MatchOption, None, refl, subst}
use denote.Bor.{Bor}
use Rattle.papaya_call.specs.declared.search.Place.{Place}
use Rattle.papaya_map_lookup.specs.Lookups.{hit_in_root}
use Rattle.papaya_map_lookup.specs.declared.lookup.Met.{Met}
use Rattle.papaya_map_lookup.specs.declared.near.RootHit.{RootHit}
use Rattle.papaya_map_lookup.specs.declared.lookup.ProbeHit.{ProbeHit}
use Rattle.papaya_map_lookup.specs.declared.lookup.ProbeHit.TheVariants as turns
use Rattle.papaya_map_lookup.proofs.LookupReplies.{pair_answer, value_answer}
use Rattle.papaya_map_lookup.proofs.Readings.{IsQuery}
use Rattle.papaya_map_lookup.proofs.Turning.{Turned, answers_absent, answers_found, first_looked, root_held}
use Rattle.papaya_map_lookup.proofs.near.search_near.Goals as goal
use Rattle.papaya_map_lookup.proofs.near.search_near.Goals.{After-search_table, In-Absent, In-Found}
use Rattle.papaya_map_lookup.proofs.near.search_near.Given.{Over}

-- The keys that match are an equivalence class.
lawful : (g : Over) (key : g.row.Q.Denot) → IsQuery g.K.PartialEq.eq g.K.Hash.hash_input (g.Q.Equivalent.matches key) (g.Q.Hash.hash_input key)
lawful g key = record { feeds = g.met.Q.Equivalent.hashes_as_key key; class = λ k l. g.met.Q.Equivalent.matches_equal_keys key k l }

-- an outcome led the lookup's machine to its next state
abbrev TurnedTo : (g : Over) (c : After-search_table g) → ProbeHit (Met g.row.K.Denot g.row.V.Denot) (Bor g.row.K.Denot × Bor g.row.V.Denot) → Type 0
TurnedTo g c turn = Turned g.K.PartialEq.eq g.K.Hash.hash_input g.S.BuildHasher.build_hasher g.S.Hasher.Hasher.write g.S.Hasher.Hasher.finish
    g.met.K.Eq.laws g.met.K.Hash.respects_eq c.search_table.new.window.book.now (g.Q.Equivalent.matches c.args.key.now)
    (g.Q.Hash.hash_input c.args.key.now) (lawful g c.args.key.now) c.args.window.now.sight.log c.learn.new.self.sight.log c.learn.ensures.sees.log
    c.hash-hash.result c.search_table.new.window.sight.log c.in-Some.table.now turn

pub search_table-requires-clause-reads : goal.search_table-requires-clause-reads
search_table-requires-clause-reads g c =
    let root = c.root-number in let size = c.size-len in
    let reading = root_held g.K.PartialEq.eq g.K.Hash.hash_input g.S.BuildHasher.build_hasher g.S.Hasher.Hasher.write g.S.Hasher.Hasher.finish
    g.met.K.Eq.laws g.met.K.Hash.respects_eq c.learn.new.self.book.now (g.Q.Equivalent.matches c.args.key.now) (g.Q.Hash.hash_input c.args.key.now)
    (lawful g c.args.key.now) c.args.window.now.sight.log c.learn.new.self.sight.log c.learn.ensures.sees.log c.hash-hash.result
    c.learn.ensures.lawful c.hash-hash.ensures root.new.self.sight.log root.ensures.sees.log root.result.0 root.result.1 root.ensures.root in
    let first = first_looked g.K.PartialEq.eq g.K.Hash.hash_input g.S.BuildHasher.build_hasher g.S.Hasher.Hasher.write g.S.Hasher.Hasher.finish
    g.met.K.Eq.laws g.met.K.Hash.respects_eq c.learn.new.self.book.now (g.Q.Equivalent.matches c.args.key.now) (g.Q.Hash.hash_input c.args.key.now)
    (lawful g c.args.key.now) c.args.window.now.sight.log c.learn.new.self.sight.log c.learn.ensures.sees.log c.hash-hash.result
    root.new.self.sight.log root.result.0 root.result.1 None reading root.ensures.root.names c.in-Some.table c.in-Some.is size.result.0 size.result.1
    size.ensures.len size.ensures.limit size.ensures.size c.first-first.result c.first-first.ensures.value in
    (c.learn.new.self.sight.log, rw root.ensures.sees.book first.0)

-- and so did the last place
near_last : (g : Over) (c : After-search_table g) → (last : Place) × MatchOption (hit_in_root last c.search_table.result) (Unit {0}) (TurnedTo g c)
near_last g c =
    let root = c.root-number in let size = c.size-len in
    let reading = root_held g.K.PartialEq.eq g.K.Hash.hash_input g.S.BuildHasher.build_hasher g.S.Hasher.Hasher.write g.S.Hasher.Hasher.finish
    g.met.K.Eq.laws g.met.K.Hash.respects_eq c.learn.new.self.book.now (g.Q.Equivalent.matches c.args.key.now) (g.Q.Hash.hash_input c.args.key.now)
    (lawful g c.args.key.now) c.args.window.now.sight.log c.learn.new.self.sight.log c.learn.ensures.sees.log c.hash-hash.result
    c.learn.ensures.lawful c.hash-hash.ensures root.new.self.sight.log root.ensures.sees.log root.result.0 root.result.1 root.ensures.root in
    let first = first_looked g.K.PartialEq.eq g.K.Hash.hash_input g.S.BuildHasher.build_hasher g.S.Hasher.Hasher.write g.S.Hasher.Hasher.finish
    g.met.K.Eq.laws g.met.K.Hash.respects_eq c.learn.new.self.book.now (g.Q.Equivalent.matches c.args.key.now) (g.Q.Hash.hash_input c.args.key.now)
    (lawful g c.args.key.now) c.args.window.now.sight.log c.learn.new.self.sight.log c.learn.ensures.sees.log c.hash-hash.result
    root.new.self.sight.log root.result.0 root.result.1 None reading root.ensures.root.names c.in-Some.table c.in-Some.is size.result.0 size.result.1
    size.ensures.len size.ensures.limit size.ensures.size c.first-first.result c.first-first.ensures.value in
    c.search_table.ensures.near c.learn.new.self.sight.log (rw root.ensures.sees.book first.0)

-- it met the pair, or none is there
turned_found : (g : Over) (c : In-Found g) → TurnedTo g (goal.at.In-Found g c).After-search_table (turns.Found c.in-Found._met c.in-Found.entry)
turned_found g c = let at = (goal.at.In-Found g c).After-search_table in let n = near_last g at in
    subst (λ (z : RootHit _ _). MatchOption (hit_in_root n.0 z) (Unit {0}) (TurnedTo g at)) c.in-Found.is n.1

turned_absent : (g : Over) (c : In-Absent g) → TurnedTo g (goal.at.In-Absent g c).After-search_table turns.Absent
turned_absent g c = let at = (goal.at.In-Absent g c).After-search_table in let n = near_last g at in
    subst (λ (z : RootHit _ _). MatchOption (hit_in_root n.0 z) (Unit {0}) (TurnedTo g at)) c.in-Absent.is n.1

pub returns-in-Found-clause-lawful : goal.returns-in-Found-clause-lawful
returns-in-Found-clause-lawful g c = (turned_found g (goal.at.returns-in-Found-clause-lawful g c).In-Found).reading.lawful

pub returns-in-Found-clause-answered : goal.returns-in-Found-clause-answered
returns-in-Found-clause-answered g c =
    let turned = turned_found g (goal.at.returns-in-Found-clause-answered g c).In-Found in
    let hit = answers_found g.K.PartialEq.eq g.K.Hash.hash_input g.S.BuildHasher.build_hasher g.S.Hasher.Hasher.write g.S.Hasher.Hasher.finish
    g.met.K.Eq.laws g.met.K.Hash.respects_eq c.search_table.new.window.book.now (g.Q.Equivalent.matches c.args.key.now)
    (g.Q.Hash.hash_input c.args.key.now) (lawful g c.args.key.now) c.args.window.now.sight.log c.learn.new.self.sight.log c.learn.ensures.sees.log
    c.hash-hash.result c.search_table.new.window.sight.log c.in-Some.table.now c.in-Found._met c.in-Found.entry turned c.in-Some.table in
    value_answer _ _ _ _ _ _ refl (pair_answer _ _ _ _ _ _ refl hit)

pub returns-in-Absent-clause-lawful : goal.returns-in-Absent-clause-lawful
returns-in-Absent-clause-lawful g c = (turned_absent g (goal.at.returns-in-Absent-clause-lawful g c).In-Absent).reading.lawful

pub returns-in-Absent-clause-answered : goal.returns-in-Absent-clause-answered
returns-in-Absent-clause-answered g c =
    let turned = turned_absent g (goal.at.returns-in-Absent-clause-answered g c).In-Absent in
    let none = answers_absent g.K.PartialEq.eq g.K.Hash.hash_input g.S.BuildHasher.build_hasher g.S.Hasher.Hasher.write g.S.Hasher.Hasher.finish
    g.met.K.Eq.laws g.met.K.Hash.respects_eq c.search_table.new.window.book.now (g.Q.Equivalent.matches c.args.key.now)
    (g.Q.Hash.hash_input c.args.key.now) (lawful g c.args.key.now) c.args.window.now.sight.log c.learn.new.self.sight.log c.learn.ensures.sees.log
    c.hash-hash.result c.search_table.new.window.sight.log c.in-Some.table.now turned in
    value_answer _ _ _ _ _ _ refl (pair_answer _ _ _ _ _ _ refl none)
