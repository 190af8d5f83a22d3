use Rattle.std.proofs.Common.{rules, ◌≡◌, ℕ, ◌<◌, ◌^◌, Option, None, Some, option_map, fold, length, refl, sym, ◌∙◌, ap, subst, arith}
use Rattle.std.specs.Prelude.{MatchOption}
use Rattle.papaya_words.specs.Word.{pair_of as number_of}
use Rattle.papaya_words.specs.declared.resize_mode.ResizeMode.TheVariants.{Incremental}
use Rattle.papaya_call.specs.declared.ask.Answer.TheVariants.{Size}
use Rattle.papaya_call.specs.declared.ask.At.TheVariants.{Next}
use Rattle.papaya_call.specs.declared.call.Reply.{Reply}
use Rattle.papaya_call.specs.declared.call.Reply.TheVariants.{Absent, Found}
use Rattle.papaya_call.specs.declared.call.Task.TheVariants.{Get}
use Rattle.papaya_call.specs.declared.machine.State.{State}
use Rattle.papaya_call.specs.declared.machine.State.TheVariants.{Ended}
use Rattle.papaya_call.specs.Machine.{goes, passes, started}
use Rattle.papaya_core_store.specs.Performs.{size_of}
use Rattle.papaya_core_store.specs.Store.{StoreState}
use Rattle.papaya_core_store.specs.Tables.{table_of, word_at}
use Rattle.papaya_words_keys.specs.Hashes.{hash_of}
use Rattle.papaya_core_timeline.proofs.KeptCore.{keys_lawful}
use Rattle.papaya_core_timeline.proofs.KeptSettings.{IsLawfulKeys}
use Rattle.papaya_seq.specs.Looks.{LooksUp}
use Rattle.papaya_seq.specs.Map.{IsLawfulMap, MapState}
use Rattle.papaya_seq.specs.Searches.{IsRootHit, IsThere, IsProbeHit, seen_by}
use Rattle.papaya_seq.specs.declared.search.ProbeHit.{ProbeHit}
use Rattle.papaya_seq.specs.declared.search.ProbeHit.TheVariants as turns
use Rattle.papaya_seq.proofs.LookFinds.{found_number, look_up_answers}
use Rattle.papaya_seq.proofs.LookSteps.{IsLookUp, lookup_left}
use Rattle.papaya_seq.proofs.LookTurns.{empty_else, next_loaded, none_there, numbered, passed_last, root_led, searched}
use Rattle.papaya_seq.proofs.seq.HashMap.look_up_far.Goals as goal
use Rattle.papaya_seq.proofs.seq.HashMap.look_up_far.Goals.{After-search, After-word-number, After-word-number-in-Over, In-Over}
use Rattle.papaya_seq.proofs.seq.HashMap.look_up_far.Given.{Over}

module _ (g : Over) where
  abbrev Store : Type 0
  Store = StoreState g.row.K.Denot g.row.V.Denot g.row.S.Denot

  abbrev Map : Type 0
  Map = MapState g.row.K.Denot g.row.V.Denot g.row.S.Denot

  -- the hash of a key, and of the query
  abbrev key_hash : g.row.S.Denot → g.row.K.Denot → ℕ
  key_hash = hash_of g.K.Hash.hash_input g.S.BuildHasher.build_hasher g.S.Hasher.Hasher.write g.S.Hasher.Hasher.finish

  abbrev query_hash : g.row.S.Denot → g.row.Q.Denot → ℕ
  query_hash = hash_of g.Q.Hash.hash_input g.S.BuildHasher.build_hasher g.S.Hasher.Hasher.write g.S.Hasher.Hasher.finish

  -- the map is in order
  abbrev Orderly : Map → Type 0
  Orderly s = IsLawfulMap g.K.PartialEq.eq (key_hash s.store.hasher) s.store s.mode s.initial

  same_keys : (s : Map) → IsLawfulKeys g.K.PartialEq.eq (key_hash s.store.hasher)
  same_keys s = keys_lawful g.K.PartialEq.eq g.K.Hash.hash_input g.S.BuildHasher.build_hasher g.S.Hasher.Hasher.write g.S.Hasher.Hasher.finish
      g.met.K.Eq.laws g.met.K.Hash.respects_eq s.store.hasher

  module _ (s : Map) (key : g.row.Q.Denot) (h : ℕ) where
    -- the machine of the lookup came here
    abbrev Comes : State → Type 0
    Comes stage = IsLookUp (g.Q.Equivalent.matches key) s.store (started Get h s.mode.resize s.initial s.mode.limit)
        (record (started Get h s.mode.resize s.initial s.mode.limit) { state = stage })

    abbrev left : State → ℕ
    left stage = lookup_left (length s.store.words.tables) (record (started Get h s.mode.resize s.initial s.mode.limit) { state = stage })

    -- the machine's reply is what was found
    found_so : Orderly s → h ≡ query_hash s.store.hasher key → h < 2 ^ 64 → (reply : Reply) (answer : Option ℕ) → answer ≡ found_number reply
        → Comes (Ended reply)
        → (found : _) × LooksUp g.K.PartialEq.eq (g.Q.Equivalent.matches key) s.store
        (started Get (query_hash s.store.hasher key) s.mode.resize s.initial s.mode.limit) found × (answer ≡ option_map (λ p. p.number) found)
    found_so orderly hash_is fits reply answer is came =
        look_up_answers g.K.PartialEq.eq g.K.Hash.hash_input g.S.BuildHasher.build_hasher g.S.Hasher.Hasher.write g.S.Hasher.Hasher.finish
        g.met.K.Eq.laws g.met.K.Hash.respects_eq
        s orderly.lawful orderly.power (g.Q.Equivalent.matches key) (query_hash s.store.hasher key) (g.met.Q.Equivalent.matches_equal_keys key)
        (λ k e. ap (λ i. g.S.Hasher.Hasher.finish (fold g.S.Hasher.Hasher.write (g.S.BuildHasher.build_hasher s.store.hasher) i))
        (g.met.Q.Equivalent.hashes_as_key key k e)) (subst (λ n. n < 2 ^ 64) hash_is fits) reply answer is
        (subst (λ n. IsLookUp (g.Q.Equivalent.matches key) s.store (started Get n s.mode.resize s.initial s.mode.limit)
        (record (started Get n s.mode.resize s.initial s.mode.limit) { state = Ended reply })) hash_is came)

    -- it came past the root
    past_root : Orderly s → (root : ℕ) → IsRootHit (g.Q.Equivalent.matches key) s.store h (turns.Over root)
        → Comes (passes Get s.mode.resize None root)
    past_root orderly root hit =
        root_led g.K.PartialEq.eq (key_hash s.store.hasher) s.mode s.store orderly.lawful (same_keys s) (g.Q.Equivalent.matches key) h s.initial
        (seen_by (turns.Over root)) hit.sees

    -- and the number of the next table was loaded
    next_begun : Orderly s → (t chunk : ℕ) → s.mode.resize ≡ Incremental chunk → Comes (passes Get s.mode.resize None t)
        → Comes (numbered (word_at s.store.words (Next t)))
        × (left (numbered (word_at s.store.words (Next t))) < left (passes Get s.mode.resize None t))
    next_begun orderly t chunk incremental came =
        next_loaded g.K.PartialEq.eq (key_hash s.store.hasher) s.mode s.store orderly.lawful (same_keys s) (g.Q.Equivalent.matches key) h s.initial
        t chunk incremental came

  in_order : (c : After-word-number g) → Orderly c.args.self.now
  in_order c = subst (λ (s : Map). Orderly s) c.self.view_is c.self.invariant

  incremental : (c : After-word-number g) → c.args.self.now.mode.resize ≡ Incremental c.in-Incremental.field-0
  incremental c = ap (λ (y : Map). y.mode.resize) (sym c.self.view_is) ∙ c.in-Incremental.is

  -- a table was searched
  led : (c : After-search g) → Orderly c.args.self.now
      → Comes c.args.self.now c.args.key.now c.args.hash
      (goes (started Get c.args.hash c.args.self.now.mode.resize c.args.self.now.initial c.args.self.now.mode.limit) (seen_by c.search.result))
      × (left c.args.self.now c.args.key.now c.args.hash
      (goes (started Get c.args.hash c.args.self.now.mode.resize c.args.self.now.initial c.args.self.now.mode.limit)
      (seen_by c.search.result)) < left c.args.self.now c.args.key.now c.args.hash (numbered c.loop-table.number))
  led c orderly =
      let s = c.args.self.now in
      let t = c.in-Some.table.now in
      let told = subst (λ (y : Map). MatchOption c.table.result (table_of y.store.words.tables c.loop-table.number ≡ None)
      (λ r. table_of y.store.words.tables c.loop-table.number ≡ Some r.now)) c.self.view_is c.table.ensures in
      let held : table_of s.store.words.tables c.loop-table.number ≡ Some t = search rules in
      let size : size_of (table_of s.store.words.tables c.loop-table.number) ≡ Size c.len.result c.limit.result = ap size_of held
      ∙ ap (λ n. Size n t.limit) (sym c.len.ensures) ∙ ap (Size c.len.result) (sym c.limit.ensures) in
      searched g.K.PartialEq.eq (key_hash s.store.hasher) s.mode s.store orderly.lawful (same_keys s) (g.Q.Equivalent.matches c.args.key.now)
      c.args.hash s.initial c.loop-table.number c.len.result c.limit.result size
      c.loop-table.invariant c.first-first.result c.first-first.ensures.value c.search.result
      (subst (λ (y : Map). IsProbeHit (g.Q.Equivalent.matches c.args.key.now) y.store c.args.hash c.first-first.result c.search.result)
      c.self.view_is c.search.ensures.turn)

pub returns-in_default : goal.returns-in_default
returns-in_default g c =
    let s = c.args.self.now in
    let orderly : Orderly g s = subst (λ (y : Map g). Orderly g y) c.self.view_is c.self.invariant in
    found_so g s c.args.key.now c.args.hash orderly c.requires.hash c.ranges.hash.fits Absent None refl
    (passed_last g.K.PartialEq.eq (key_hash g s.store.hasher) s.mode s.store orderly.lawful (same_keys g s) (g.Q.Equivalent.matches c.args.key.now)
    c.args.hash s.initial c.args.root (ap (λ (y : Map g). y.mode.resize) (sym c.self.view_is) ∙ c.in_default.is)
    (past_root g s c.args.key.now c.args.hash orderly c.args.root c.requires.led))

pub loop-table-init : goal.loop-table-init
loop-table-init g c =
    let s = c.args.self.now in
    let orderly = in_order g c in
    subst (λ n. Comes g s c.args.key.now c.args.hash (numbered n))
    (sym (c.word-number.ensures ∙ ap (λ (y : Map g). word_at y.store.words (Next c.args.root)) c.self.view_is))
    (next_begun g s c.args.key.now c.args.hash orderly c.args.root c.in-Incremental.field-0 (incremental g c)
    (past_root g s c.args.key.now c.args.hash orderly c.args.root c.requires.led)).0

pub returns-in-Here : goal.returns-in-Here
returns-in-Here g c =
    let at = goal.at.returns-in-Here g c in
    let orderly = in_order g at.After-word-number in
    let came = (led g at.After-search orderly).0 in
    found_so g c.args.self.now c.args.key.now c.args.hash orderly c.requires.hash c.ranges.hash.fits
    (Found (number_of c.in-Here.word)) (Some c.pair.result) (ap Some c.pair.ensures)
    (subst (λ (t : ProbeHit). Comes g c.args.self.now c.args.key.now c.args.hash
    (goes (started Get c.args.hash c.args.self.now.mode.resize c.args.self.now.initial c.args.self.now.mode.limit) (seen_by t))) c.in-Here.is came)

-- past a table
passed : (g : Over) (c : In-Over g) → Orderly g c.args.self.now
    → Comes g c.args.self.now c.args.key.now c.args.hash (passes Get c.args.self.now.mode.resize None c.in-Over.passed)
    × (left g c.args.self.now c.args.key.now c.args.hash (passes Get c.args.self.now.mode.resize None c.in-Over.passed) < left g
    c.args.self.now c.args.key.now c.args.hash (numbered c.loop-table.number))
passed g c orderly =
    let s = c.args.self.now in
    subst (λ (t : ProbeHit). Comes g s c.args.key.now c.args.hash
    (goes (started Get c.args.hash s.mode.resize s.initial s.mode.limit) (seen_by t))
    × (left g s c.args.key.now c.args.hash (goes (started Get c.args.hash s.mode.resize s.initial s.mode.limit) (seen_by t)) < left g
    s c.args.key.now c.args.hash (numbered c.loop-table.number))) c.in-Over.is
    (led g (goal.at.In-Over g c).After-search orderly)

-- the number of the next one was loaded
next : (g : Over) (c : After-word-number-in-Over g) → Comes g c.args.self.now c.args.key.now c.args.hash (numbered c.word-number-in-Over.result)
    × (left g c.args.self.now c.args.key.now c.args.hash (numbered c.word-number-in-Over.result) < left g c.args.self.now c.args.key.now c.args.hash
    (numbered c.loop-table.number))
next g c =
    let at = goal.at.After-word-number-in-Over g c in
    let s = c.args.self.now in
    let orderly = in_order g at.After-word-number in
    let before = passed g at.In-Over orderly in
    let all = next_begun g s c.args.key.now c.args.hash orderly c.in-Over.passed c.in-Incremental.field-0 (incremental g at.After-word-number) before.0 in
    let less : left g s c.args.key.now c.args.hash (passes Get s.mode.resize None c.in-Over.passed) < left g s c.args.key.now c.args.hash
    (numbered c.loop-table.number) = before.1 in
    let fewer : left g s c.args.key.now c.args.hash (numbered (word_at s.store.words (Next c.in-Over.passed))) < left g s c.args.key.now c.args.hash
    (passes Get s.mode.resize None c.in-Over.passed) = all.1 in
    subst (λ n. Comes g s c.args.key.now c.args.hash (numbered n)
    × (left g s c.args.key.now c.args.hash (numbered n) < left g s c.args.key.now c.args.hash (numbered c.loop-table.number)))
    (sym (c.word-number-in-Over.ensures ∙ ap (λ (y : Map g). word_at y.store.words (Next c.in-Over.passed)) c.self.view_is))
    (all.0, omega (arith, less, fewer))

pub loop-table-smaller : goal.loop-table-smaller
loop-table-smaller g c = (next g c).1

pub loop-table-preserved : goal.loop-table-preserved
loop-table-preserved g c = (next g c).0

pub returns-in_default-search : goal.returns-in_default-search
returns-in_default-search g c =
    let at = goal.at.returns-in_default-search g c in
    let s = c.args.self.now in
    let orderly = in_order g at.After-word-number in
    let (place, empty) = empty_else c.search.result c.search.ensures.over (λ place word e. search rules) (λ t e. search rules) in
    found_so g s c.args.key.now c.args.hash orderly c.requires.hash c.ranges.hash.fits Absent None refl
    (subst (λ (t : ProbeHit). Comes g s c.args.key.now c.args.hash
    (goes (started Get c.args.hash s.mode.resize s.initial s.mode.limit) (seen_by t))) empty (led g at.After-search orderly).0)

pub returns : goal.returns
returns g c =
    let at = goal.at.returns g c in
    let s = c.args.self.now in
    let orderly = in_order g at.After-word-number in
    let told = subst (λ (y : Map g). MatchOption c.table.result (table_of y.store.words.tables c.loop-table.number ≡ None)
    (λ r. table_of y.store.words.tables c.loop-table.number ≡ Some r.now)) c.self.view_is c.table.ensures in
    let none : table_of s.store.words.tables c.loop-table.number ≡ None = search rules in
    found_so g s c.args.key.now c.args.hash orderly c.requires.hash c.ranges.hash.fits Absent None refl
    (none_there g.K.PartialEq.eq (key_hash g s.store.hasher) s.mode s.store orderly.lawful (same_keys g s) (g.Q.Equivalent.matches c.args.key.now)
    c.args.hash s.initial c.loop-table.number none c.loop-table.invariant)

pub search-requires-clause-there : goal.search-requires-clause-there
search-requires-clause-there g c =
    let held : table_of c.self.inside.store.words.tables c.loop-table.number ≡ Some c.in-Some.table.now = search rules in
    subst (λ at. IsThere c.self.inside.store at.table at.len) (sym c.first-first.ensures.value) (c.in-Some.table.now, held, sym c.len.ensures)
