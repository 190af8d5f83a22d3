use Rattle.std.proofs.Common.{rules, ◌≡◌, ℕ, ◌<◌, ◌^◌, Option, None, Some, option_map, fold, refl, ◌∙◌, ap, subst}
use Rattle.papaya_words.specs.Word.{pair_of as number_of}
use Rattle.papaya_call.specs.declared.call.Reply.{Reply}
use Rattle.papaya_call.specs.declared.call.Reply.TheVariants.{Absent, Found}
use Rattle.papaya_call.specs.declared.call.Task.TheVariants.{Get}
use Rattle.papaya_call.specs.declared.machine.State.TheVariants.{Ended}
use Rattle.papaya_call.specs.Machine.{goes, started}
use Rattle.papaya_words_keys.specs.Hashes.{hash_of}
use Rattle.papaya_words_law.specs.Content.{AreApart}
use Rattle.papaya_core_timeline.specs.Content.{content}
use Rattle.papaya_core_timeline.proofs.CountedCore.{lawful_apart}
use Rattle.papaya_core_timeline.proofs.KeptCore.{keys_lawful}
use Rattle.papaya_core_timeline.proofs.KeptSettings.{IsLawfulKeys}
use Rattle.papaya_seq.specs.Looks.{LooksUp}
use Rattle.papaya_seq.specs.Map.{IsLawfulMap, MapState, core_of}
use Rattle.papaya_seq.specs.Searches.{IsRootHit, seen_by}
use Rattle.papaya_seq.specs.declared.search.ProbeHit.{ProbeHit}
use Rattle.papaya_seq.specs.declared.search.ProbeHit.TheVariants as turns
use Rattle.papaya_seq.proofs.LookFinds.{found_number, look_up_answers}
use Rattle.papaya_seq.proofs.LookSteps.{IsLookUp}
use Rattle.papaya_core_store.specs.Tables.{table_of}
use Rattle.papaya_seq.proofs.LookTurns.{empty_else, none_there, root_led, root_loaded}
use Rattle.papaya_seq.proofs.seq.HashMap.look_up.Goals as goal
use Rattle.papaya_seq.proofs.seq.HashMap.look_up.Goals.{After-search_root}
use Rattle.papaya_seq.proofs.seq.HashMap.look_up.Given.{Over}

module _ (g : Over) where
  abbrev Map : Type 0
  Map = MapState g.row.K.Denot g.row.V.Denot g.row.S.Denot

  abbrev key_hash : g.row.S.Denot → g.row.K.Denot → ℕ
  key_hash = hash_of g.K.Hash.hash_input g.S.BuildHasher.build_hasher g.S.Hasher.Hasher.write g.S.Hasher.Hasher.finish

  abbrev query_hash : g.row.S.Denot → g.row.Q.Denot → ℕ
  query_hash = hash_of g.Q.Hash.hash_input g.S.BuildHasher.build_hasher g.S.Hasher.Hasher.write g.S.Hasher.Hasher.finish

  abbrev Orderly : Map → Type 0
  Orderly s = IsLawfulMap g.K.PartialEq.eq (key_hash s.store.hasher) s.store s.mode s.initial

  -- the machine's reply is what was found
  found_so : (s : Map) → Orderly s → (key : g.row.Q.Denot) → query_hash s.store.hasher key < 2 ^ 64 → (reply : Reply) (answer : Option ℕ)
      → answer ≡ found_number reply
      → IsLookUp (g.Q.Equivalent.matches key) s.store (started Get (query_hash s.store.hasher key) s.mode.resize s.initial s.mode.limit)
      (record (started Get (query_hash s.store.hasher key) s.mode.resize s.initial s.mode.limit) { state = Ended reply })
      → (found : _) × LooksUp g.K.PartialEq.eq (g.Q.Equivalent.matches key) s.store
      (started Get (query_hash s.store.hasher key) s.mode.resize s.initial s.mode.limit) found × (answer ≡ option_map (λ p. p.number) found)
  found_so s orderly key fits reply answer is came =
      look_up_answers g.K.PartialEq.eq g.K.Hash.hash_input g.S.BuildHasher.build_hasher g.S.Hasher.Hasher.write g.S.Hasher.Hasher.finish
      g.met.K.Eq.laws g.met.K.Hash.respects_eq s orderly.lawful orderly.power (g.Q.Equivalent.matches key) (query_hash s.store.hasher key)
      (g.met.Q.Equivalent.matches_equal_keys key)
      (λ k e. ap (λ i. g.S.Hasher.Hasher.finish (fold g.S.Hasher.Hasher.write (g.S.BuildHasher.build_hasher s.store.hasher) i))
      (g.met.Q.Equivalent.hashes_as_key key k e)) fits reply answer is came

  same_keys : (s : Map) → IsLawfulKeys g.K.PartialEq.eq (key_hash s.store.hasher)
  same_keys s = keys_lawful g.K.PartialEq.eq g.K.Hash.hash_input g.S.BuildHasher.build_hasher g.S.Hasher.Hasher.write g.S.Hasher.Hasher.finish
      g.met.K.Eq.laws g.met.K.Hash.respects_eq s.store.hasher

  -- if the search of the root ended a lookup, its reply is what was found
  root_found : (s : Map) → Orderly s → (key : g.row.Q.Denot) → query_hash s.store.hasher key < 2 ^ 64 → (turn : ProbeHit)
      → IsRootHit (g.Q.Equivalent.matches key) s.store (query_hash s.store.hasher key) turn → (reply : Reply) (answer : Option ℕ)
      → answer ≡ found_number reply
      → goes (started Get (query_hash s.store.hasher key) s.mode.resize s.initial s.mode.limit) (seen_by turn) ≡ Ended reply
      → (found : _) × LooksUp g.K.PartialEq.eq (g.Q.Equivalent.matches key) s.store
      (started Get (query_hash s.store.hasher key) s.mode.resize s.initial s.mode.limit) found × (answer ≡ option_map (λ p. p.number) found)
  root_found s orderly key fits turn root reply answer is ends =
      let begun = started Get (query_hash s.store.hasher key) s.mode.resize s.initial s.mode.limit in
      found_so s orderly key fits reply answer is
      (subst (λ stage. IsLookUp (g.Q.Equivalent.matches key) s.store begun (record begun { state = stage })) ends
      (root_led g.K.PartialEq.eq (key_hash s.store.hasher) s.mode s.store orderly.lawful (same_keys s) (g.Q.Equivalent.matches key)
      (query_hash s.store.hasher key) s.initial (seen_by turn) root.sees))

  -- and if there is no root, it ended too
  none_found : (s : Map) → Orderly s → (key : g.row.Q.Denot) → query_hash s.store.hasher key < 2 ^ 64
      → table_of s.store.words.tables s.store.words.root ≡ None → (answer : Option ℕ) → answer ≡ None
      → (found : _) × LooksUp g.K.PartialEq.eq (g.Q.Equivalent.matches key) s.store
      (started Get (query_hash s.store.hasher key) s.mode.resize s.initial s.mode.limit) found × (answer ≡ option_map (λ p. p.number) found)
  none_found s orderly key fits none answer is =
      let loaded = root_loaded g.K.PartialEq.eq (key_hash s.store.hasher) s.mode s.store orderly.lawful (same_keys s) (g.Q.Equivalent.matches key)
      (query_hash s.store.hasher key) s.initial in
      found_so s orderly key fits Absent answer is
      (none_there g.K.PartialEq.eq (key_hash s.store.hasher) s.mode s.store orderly.lawful (same_keys s) (g.Q.Equivalent.matches key)
      (query_hash s.store.hasher key) s.initial s.store.words.root none loaded)

  module _ (c : After-search_root g) where
    orderly : Orderly c.args.self.now
    orderly = subst (λ (s : Map). Orderly s) c.self.view_is c.self.invariant

    keys_apart : AreApart g.K.PartialEq.eq (λ p. p.key) (content g.K.PartialEq.eq c.args.self.now.store)
    keys_apart = lawful_apart g.K.PartialEq.eq g.K.Hash.hash_input g.S.BuildHasher.build_hasher g.S.Hasher.Hasher.write g.S.Hasher.Hasher.finish
        g.met.K.Eq.laws g.met.K.Hash.respects_eq (core_of c.args.self.now) orderly.lawful

    hash_made : c.hash-hash.result ≡ query_hash c.args.self.now.store.hasher c.args.key.now
    hash_made = c.hash-hash.ensures.value ∙ ap (λ (s : Map). query_hash s.store.hasher c.args.key.now) c.self.view_is

    -- the outcome of the search of the root
    hit : (turn : ProbeHit) → c.search_root.result ≡ Some turn
        → IsRootHit (g.Q.Equivalent.matches c.args.key.now) c.args.self.now.store c.hash-hash.result turn
    hit turn is = subst (λ (s : Map). IsRootHit (g.Q.Equivalent.matches c.args.key.now) s.store c.hash-hash.result turn) c.self.view_is
        (c.search_root.ensures.turn turn is)

    -- the search of the root ended the lookup
    ended : (turn : ProbeHit) → c.search_root.result ≡ Some turn → (reply : Reply) (answer : Option ℕ) → answer ≡ found_number reply
        → goes (started Get (query_hash c.args.self.now.store.hasher c.args.key.now) c.args.self.now.mode.resize c.args.self.now.initial
        c.args.self.now.mode.limit) (seen_by turn) ≡ Ended reply
        → (found : _) × LooksUp g.K.PartialEq.eq (g.Q.Equivalent.matches c.args.key.now) c.args.self.now.store
        (started Get (query_hash c.args.self.now.store.hasher c.args.key.now) c.args.self.now.mode.resize c.args.self.now.initial
        c.args.self.now.mode.limit) found × (answer ≡ option_map (λ p. p.number) found)
    ended turn is = root_found c.args.self.now orderly c.args.key.now (subst (λ n. n < 2 ^ 64) hash_made c.hash-hash.ensures.fits) turn
        (subst (λ n. IsRootHit (g.Q.Equivalent.matches c.args.key.now) c.args.self.now.store n turn) hash_made (hit turn is))

pub search_root-requires : goal.search_root-requires
search_root-requires g c = c.self.invariant.lawful.core.sizes

pub look_up_far-requires-clause-led : goal.look_up_far-requires-clause-led
look_up_far-requires-clause-led g c =
    hit g (goal.at.look_up_far-requires-clause-led g c).After-search_root (turns.Over c.in-Over.root) (search rules)

pub returns-in_err-turn-clause-found : goal.returns-in_err-turn-clause-found
returns-in_err-turn-clause-found g c =
    let at = (goal.at.returns-in_err-turn-clause-found g c).After-search_root in
    let s = c.args.self.now in
    none_found g s (orderly g at) c.args.key.now (subst (λ n. n < 2 ^ 64) (hash_made g at) c.hash-hash.ensures.fits)
    (subst (λ (y : Map g). table_of y.store.words.tables y.store.words.root ≡ None) c.self.view_is (c.search_root.ensures.none (search rules)))
    c.from_residual.result c.from_residual.ensures

pub returns-in-Here-clause-found : goal.returns-in-Here-clause-found
returns-in-Here-clause-found g c =
    ended g (goal.at.returns-in-Here-clause-found g c).After-search_root (turns.Here c.in-Here.field-0 c.in-Here.word) (search rules)
    (Found (number_of c.in-Here.word)) (Some c.pair.result) (ap Some c.pair.ensures) refl

pub returns-in_default-clause-found : goal.returns-in_default-clause-found
returns-in_default-clause-found g c =
    let at = (goal.at.returns-in_default-clause-found g c).After-search_root in
    let (place, empty) = empty_else c.in_ok-turn.turn (λ place e. c.search_root.ensures.over place (search rules)) (λ place word e. search rules)
    (λ t e. search rules) in
    ended g at (turns.Empty place) (search rules) Absent None refl refl

pub returns-in_err-turn-clause-apart : goal.returns-in_err-turn-clause-apart
returns-in_err-turn-clause-apart g c = keys_apart g (goal.at.returns-in_err-turn-clause-apart g c).After-search_root

pub returns-in-Here-clause-apart : goal.returns-in-Here-clause-apart
returns-in-Here-clause-apart g c = keys_apart g (goal.at.returns-in-Here-clause-apart g c).After-search_root

pub returns-in-Over-clause-apart : goal.returns-in-Over-clause-apart
returns-in-Over-clause-apart g c = keys_apart g (goal.at.returns-in-Over-clause-apart g c).After-search_root

pub returns-in_default-clause-apart : goal.returns-in_default-clause-apart
returns-in_default-clause-apart g c = keys_apart g (goal.at.returns-in_default-clause-apart g c).After-search_root
