use Rattle.std.proofs.Common.{◌≡◌, ◌<◌, ◌≤◌, None, refl, ◌∙◌, rules, subst, arith}
use mathlib.Core.List.{IsPrefix}
use denote.Bor.{Bor}
use Rattle.papaya_call.specs.declared.machine.State.TheVariants.{Searching}
use Rattle.papaya_call.specs.declared.search.Search.TheVariants.{Looking}
use Rattle.papaya_map_book.proofs.Logs.{prefix_trans}
use Rattle.papaya_map_lookup.specs.Lookups.{next_stage, left_of}
use Rattle.papaya_map_lookup.specs.declared.lookup.Met.{Met}
use Rattle.papaya_map_lookup.specs.declared.lookup.ProbeHit.{ProbeHit}
use Rattle.papaya_map_lookup.specs.declared.lookup.ProbeHit.TheVariants as turns
use Rattle.papaya_map_lookup.proofs.Readings.{IsQuery}
use Rattle.papaya_map_lookup.proofs.Turning.{Turned, absent_else, answers_absent, answers_found}
use Rattle.papaya_map_lookup.proofs.Turning.{answers_none, answers_passed, first_looked, next_held}
use Rattle.papaya_map_lookup.proofs.Turning.{numbered, root_held}
use Rattle.papaya_map_lookup.proofs.lookup.find.Goals as goal
use Rattle.papaya_map_lookup.proofs.lookup.find.Goals.{After-search}
use Rattle.papaya_map_lookup.proofs.lookup.find.Given.{Over}

-- The keys that match are an equivalence class.
lawful : (g : Over) (key : g.row.Q.Denot) → IsQuery g.K.PartialEq.eq g.K.Hash.hash_input (g.Q.Equivalent.matches key) (g.Q.Hash.hash_input key)
lawful g key = record { feeds = g.met.Q.Equivalent.hashes_as_key key; class = λ k l. g.met.Q.Equivalent.matches_equal_keys key k l }

-- an outcome of the search led the lookup's machine to its next state
abbrev TurnedTo : (g : Over) (c : After-search g) → ProbeHit (Met g.row.K.Denot g.row.V.Denot) (Bor g.row.K.Denot × Bor g.row.V.Denot) → Type 0
TurnedTo g c turn = Turned g.K.PartialEq.eq g.K.Hash.hash_input g.S.BuildHasher.build_hasher g.S.Hasher.Hasher.write g.S.Hasher.Hasher.finish
    g.met.K.Eq.laws g.met.K.Hash.respects_eq c.search.new.window.book.now (g.Q.Equivalent.matches c.args.key.now)
    (g.Q.Hash.hash_input c.args.key.now) (lawful g c.args.key.now) c.args.window.now.sight.log c.loop-held.invariant.0 c.loop-held.invariant.1
    c.hash-hash.result c.search.new.window.sight.log c.in-Some.table.now turn

-- and so did the last one
turned_last : (g : Over) (c : After-search g) → TurnedTo g c c.search.result
turned_last g c =
    let l = c.loop-held in let inv = l.invariant.3 in let size = c.size-len in
    let first = first_looked g.K.PartialEq.eq g.K.Hash.hash_input g.S.BuildHasher.build_hasher g.S.Hasher.Hasher.write g.S.Hasher.Hasher.finish
    g.met.K.Eq.laws g.met.K.Hash.respects_eq c.loop-held.window.book.now (g.Q.Equivalent.matches c.args.key.now)
    (g.Q.Hash.hash_input c.args.key.now) (lawful g c.args.key.now) c.args.window.now.sight.log l.invariant.0 l.invariant.1 c.hash-hash.result
    l.window.sight.log l.number l.held inv.pair inv.reading inv.names c.in-Some.table c.in-Some.is size.result.0
    size.result.1 size.ensures.len size.ensures.limit size.ensures.size c.first-first.result c.first-first.ensures.value in
    c.search.ensures.leads l.invariant.0 first.0

pub loop-held-init : goal.loop-held-init
loop-held-init g c =
    let root = c.root-root in
    let reading = root_held g.K.PartialEq.eq g.K.Hash.hash_input g.S.BuildHasher.build_hasher g.S.Hasher.Hasher.write g.S.Hasher.Hasher.finish
    g.met.K.Eq.laws g.met.K.Hash.respects_eq c.learn.new.self.book.now (g.Q.Equivalent.matches c.args.key.now) (g.Q.Hash.hash_input c.args.key.now)
    (lawful g c.args.key.now) c.args.window.now.sight.log c.learn.new.self.sight.log c.learn.ensures.sees.log c.hash-hash.result
    c.learn.ensures.lawful c.hash-hash.ensures root.new.self.sight.log root.ensures.sees.log root.result.0 root.result.1 root.ensures.root in (
      c.learn.new.self.sight.log,
      c.learn.ensures.sees.log,
      root.ensures.sees.log,
      rw root.ensures.sees.book (record { pair = None; reading = reading; names = root.ensures.root.names }),
      record {
        book = root.ensures.sees.book ∙ c.learn.ensures.sees.book;
        log = prefix_trans c.args.window.now.sight.log c.learn.new.self.sight.log
            root.new.self.sight.log c.learn.ensures.sees.log root.ensures.sees.log;
      },
      root.ensures.sees.own ∙ c.learn.ensures.sees.own,
    )

pub search-requires-clause-reads : goal.search-requires-clause-reads
search-requires-clause-reads g c =
    let l = c.loop-held in let inv = l.invariant.3 in let size = c.size-len in
    let first = first_looked g.K.PartialEq.eq g.K.Hash.hash_input g.S.BuildHasher.build_hasher g.S.Hasher.Hasher.write g.S.Hasher.Hasher.finish
    g.met.K.Eq.laws g.met.K.Hash.respects_eq c.loop-held.window.book.now (g.Q.Equivalent.matches c.args.key.now)
    (g.Q.Hash.hash_input c.args.key.now) (lawful g c.args.key.now) c.args.window.now.sight.log c.loop-held.invariant.0 c.loop-held.invariant.1 c.hash-hash.result
    l.window.sight.log l.number l.held inv.pair inv.reading inv.names c.in-Some.table c.in-Some.is size.result.0
    size.result.1 size.ensures.len size.ensures.limit size.ensures.size c.first-first.result c.first-first.ensures.value in
    (l.invariant.0, first.0)

pub returns-in-Found-clause-answered : goal.returns-in-Found-clause-answered
returns-in-Found-clause-answered g c =
    let at = (goal.at.returns-in-Found-clause-answered g c).After-search in
    let turned = subst (TurnedTo g at) c.in-Found.is (turned_last g at) in
    answers_found g.K.PartialEq.eq g.K.Hash.hash_input g.S.BuildHasher.build_hasher g.S.Hasher.Hasher.write g.S.Hasher.Hasher.finish g.met.K.Eq.laws
    g.met.K.Hash.respects_eq c.search.new.window.book.now (g.Q.Equivalent.matches c.args.key.now) (g.Q.Hash.hash_input c.args.key.now) (lawful g c.args.key.now)
    c.args.window.now.sight.log c.loop-held.invariant.0 c.loop-held.invariant.1 c.hash-hash.result c.search.new.window.sight.log
    c.in-Some.table.now c.in-Found.met c.in-Found.entry turned c.in-Some.table

pub returns-in-Found-clause-hits : goal.returns-in-Found-clause-hits
returns-in-Found-clause-hits g c =
    let at = (goal.at.returns-in-Found-clause-hits g c).After-search in
    let turned = subst (TurnedTo g at) c.in-Found.is (turned_last g at) in
    let after : IsPrefix c.loop-held.invariant.0 c.search.new.window.sight.log = prefix_trans _ _ _ c.loop-held.invariant.2 c.search.ensures.sees.log in
    let f = turned.found c.in-Found.met c.in-Found.entry refl in
    λ hit e. let one : record {
      table = c.in-Some.table;
      met = c.in-Found.met;
      key = c.in-Found.entry.0;
      value = c.in-Found.entry.1;
    } ≡ hit = cc e in
    rw (← one) (c.loop-held.invariant.0, c.loop-held.invariant.1, (after, f.1, f.2, f.3))

pub loop-held-smaller : goal.loop-held-smaller
loop-held-smaller g c =
    let at = (goal.at.loop-held-smaller g c).After-search in
    let l = c.loop-held in let inv = l.invariant.3 in let size = c.size-len in
    let first = first_looked g.K.PartialEq.eq g.K.Hash.hash_input g.S.BuildHasher.build_hasher g.S.Hasher.Hasher.write g.S.Hasher.Hasher.finish
    g.met.K.Eq.laws g.met.K.Hash.respects_eq c.loop-held.window.book.now (g.Q.Equivalent.matches c.args.key.now)
    (g.Q.Hash.hash_input c.args.key.now) (lawful g c.args.key.now) c.args.window.now.sight.log c.loop-held.invariant.0 c.loop-held.invariant.1 c.hash-hash.result
    l.window.sight.log l.number l.held inv.pair inv.reading inv.names c.in-Some.table c.in-Some.is size.result.0
    size.result.1 size.ensures.len size.ensures.limit size.ensures.size c.first-first.result c.first-first.ensures.value in
    let turned = subst (TurnedTo g at) c.in-Over.is (turned_last g at) in
    let next = next_held g.K.PartialEq.eq g.K.Hash.hash_input g.S.BuildHasher.build_hasher g.S.Hasher.Hasher.write g.S.Hasher.Hasher.finish
    g.met.K.Eq.laws g.met.K.Hash.respects_eq c.search.new.window.book.now (g.Q.Equivalent.matches c.args.key.now)
    (g.Q.Hash.hash_input c.args.key.now) (lawful g c.args.key.now) c.args.window.now.sight.log c.loop-held.invariant.0 c.loop-held.invariant.1 c.hash-hash.result
    c.search.new.window.sight.log c.next-next.new.self.sight.log c.next-next.ensures.sees.log c.in-Some.table.now c.in-Over.passed
    c.in-Incremental.field-0 c.in-Incremental.is turned c.next-next.result.0 c.next-next.result.1 c.next-next.ensures.next in
    let mode = c.search.new.window.book.now.parts.mode in
    let less : left_of (numbered c.next-next.result.0) < left_of (next_stage mode 0 c.search.result) = rw c.in-Over.is next.2 in
    let most : left_of (next_stage mode 0 c.search.result) ≤ left_of (Searching (Looking c.first-first.result)) = rw c.search.ensures.sees.book
    c.search.ensures.fewer in
    let before : left_of (Searching (Looking c.first-first.result)) < left_of (numbered l.number) = first.1 in
    let done : left_of (numbered c.next-next.result.0) < left_of (numbered l.number) = omega (arith, less, most, before) in done

pub loop-held-preserved : goal.loop-held-preserved
loop-held-preserved g c =
    let at = (goal.at.loop-held-preserved g c).After-search in
    let turned = subst (TurnedTo g at) c.in-Over.is (turned_last g at) in
    let next = next_held g.K.PartialEq.eq g.K.Hash.hash_input g.S.BuildHasher.build_hasher g.S.Hasher.Hasher.write g.S.Hasher.Hasher.finish
    g.met.K.Eq.laws g.met.K.Hash.respects_eq c.search.new.window.book.now (g.Q.Equivalent.matches c.args.key.now)
    (g.Q.Hash.hash_input c.args.key.now) (lawful g c.args.key.now) c.args.window.now.sight.log c.loop-held.invariant.0 c.loop-held.invariant.1 c.hash-hash.result
    c.search.new.window.sight.log c.next-next.new.self.sight.log c.next-next.ensures.sees.log c.in-Some.table.now c.in-Over.passed
    c.in-Incremental.field-0 c.in-Incremental.is turned c.next-next.result.0 c.next-next.result.1 c.next-next.ensures.next in
    let sees = c.loop-held.invariant.4 in let there = c.next-next.ensures in (
      c.loop-held.invariant.0,
      c.loop-held.invariant.1,
      prefix_trans _ _ _ c.loop-held.invariant.2 (prefix_trans _ _ _ c.search.ensures.sees.log there.sees.log),
      rw there.sees.book (record { pair = next.0; reading = next.1; names = there.next.names }),
      record {
        book = there.sees.book ∙ (c.search.ensures.sees.book ∙ sees.book);
        log = prefix_trans c.args.window.now.sight.log
            c.search.new.window.sight.log c.next-next.new.self.sight.log
            (prefix_trans c.args.window.now.sight.log c.loop-held.window.sight.log c.search.new.window.sight.log sees.log c.search.ensures.sees.log)
            there.sees.log;
      },
      there.sees.own ∙ (c.search.ensures.sees.own ∙ c.loop-held.invariant.5),
    )

pub returns-in-Blocking-clause-answered : goal.returns-in-Blocking-clause-answered
returns-in-Blocking-clause-answered g c =
    let at = (goal.at.returns-in-Blocking-clause-answered g c).After-search in
    let turned = subst (TurnedTo g at) c.in-Over.is (turned_last g at) in
    answers_passed g.K.PartialEq.eq g.K.Hash.hash_input g.S.BuildHasher.build_hasher g.S.Hasher.Hasher.write g.S.Hasher.Hasher.finish g.met.K.Eq.laws
    g.met.K.Hash.respects_eq c.search.new.window.book.now (g.Q.Equivalent.matches c.args.key.now) (g.Q.Hash.hash_input c.args.key.now) (lawful g c.args.key.now)
    c.args.window.now.sight.log c.loop-held.invariant.0 c.loop-held.invariant.1 c.hash-hash.result c.search.new.window.sight.log
    c.in-Some.table.now c.in-Over.passed c.in-Blocking.is turned

pub returns-in_default-search-clause-answered : goal.returns-in_default-search-clause-answered
returns-in_default-search-clause-answered g c =
    let at = (goal.at.returns-in_default-search-clause-answered g c).After-search in
    let is : c.search.result ≡ turns.Absent = absent_else c.search.result c.search.ensures.over
    (λ met entry e. c.in_default-search.not-Found met entry e) (λ t e. c.in_default-search.not-Over t e) in
    let turned = subst (TurnedTo g at) is (turned_last g at) in
    answers_absent g.K.PartialEq.eq g.K.Hash.hash_input g.S.BuildHasher.build_hasher g.S.Hasher.Hasher.write g.S.Hasher.Hasher.finish g.met.K.Eq.laws
    g.met.K.Hash.respects_eq c.search.new.window.book.now (g.Q.Equivalent.matches c.args.key.now) (g.Q.Hash.hash_input c.args.key.now) (lawful g c.args.key.now)
    c.args.window.now.sight.log c.loop-held.invariant.0 c.loop-held.invariant.1 c.hash-hash.result c.search.new.window.sight.log
    c.in-Some.table.now turned

pub returns-clause-answered : goal.returns-clause-answered
returns-clause-answered g c =
    let l = c.loop-held in let inv = l.invariant.3 in
    let none : l.held ≡ None = search rules in
    answers_none g.K.PartialEq.eq g.K.Hash.hash_input g.S.BuildHasher.build_hasher g.S.Hasher.Hasher.write g.S.Hasher.Hasher.finish g.met.K.Eq.laws
    g.met.K.Hash.respects_eq c.loop-held.window.book.now (g.Q.Equivalent.matches c.args.key.now) (g.Q.Hash.hash_input c.args.key.now) (lawful g c.args.key.now)
    c.args.window.now.sight.log c.loop-held.invariant.0 c.loop-held.invariant.1 c.hash-hash.result l.window.sight.log l.number l.held inv.pair
    inv.reading inv.names none

pub returns-in-Found-clause-lawful : goal.returns-in-Found-clause-lawful
returns-in-Found-clause-lawful g c = (turned_last g (goal.at.returns-in-Found-clause-lawful g c).After-search).reading.lawful

pub returns-in-Blocking-clause-lawful : goal.returns-in-Blocking-clause-lawful
returns-in-Blocking-clause-lawful g c = (turned_last g (goal.at.returns-in-Blocking-clause-lawful g c).After-search).reading.lawful

pub returns-in_default-search-clause-lawful : goal.returns-in_default-search-clause-lawful
returns-in_default-search-clause-lawful g c = (turned_last g (goal.at.returns-in_default-search-clause-lawful g c).After-search).reading.lawful

pub next-next-requires : goal.next-next-requires
next-next-requires g c =
    let at = (goal.at.next-next-requires g c).After-search in
    let turned = subst (TurnedTo g at) c.in-Over.is (turned_last g at) in
    let held = turned.reading.holds_table in let lent = turned.lent_is in search (rules, held, lent)
