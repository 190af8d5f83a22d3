-- One place of a search of the root alone: the state to which it leads the ghost machine.
use Rattle.std.proofs.Common.{◌≡◌, ℕ, nat_lt, if◌then◌else◌, Bool, true, false, MatchOption, Option, Some, List, sym, ap, ◌∙◌, subst}
use Rattle.std.specs.Cmp.{IsEquivalence}
use Rattle.std.proofs.lemmas.Bool.{ltb-true}
use mathlib.Core.List.{IsPrefix}
use denote.Bor.{Bor}
use Rattle.logbook.specs.Pages.{Book as Name}
use Rattle.papaya_words.specs.Word.{kind_of, may_hold}
use Rattle.papaya_words.specs.declared.word.Kind.{Kind}
use Rattle.papaya_words.specs.declared.word.Kind.TheVariants as kinds
use Rattle.papaya_call.specs.declared.machine.State.TheVariants.{Searching}
use Rattle.papaya_call.specs.declared.search.Place.{Place}
use Rattle.papaya_call.specs.declared.search.Search.TheVariants.{Looking, Reading, Comparing}
use Rattle.papaya_call.specs.declared.search.ProbeStep.{ProbeStep}
use Rattle.papaya_call.specs.declared.search.ProbeStep.TheVariants.{On, Empty, Here, Over}
use Rattle.papaya_call.specs.Search.{IsProbed, IsWithin, at_yes, go_on, hinted, look, look_at, match_at, next_place}
use Rattle.papaya_call_law.proofs.LoadsLeft.{chosen}
use Rattle.papaya_call_law.proofs.Standing.{next_within}
use Rattle.papaya_words_law.specs.Exchange.{Exchange}
use Rattle.papaya_map_book.specs.declared.rule.entry.Begun.{Begun}
use Rattle.papaya_map_book.specs.declared.rule.entry.Event.{Event}
use Rattle.papaya_map_book.specs.declared.rule.entry.Named.{Named}
use Rattle.papaya_map_book.specs.declared.rule.entry.Named.TheVariants as names
use Rattle.papaya_map_book.specs.Calls.{IsSlotWord}
use Rattle.papaya_map_book.specs.Hashes.{hash_of}
use Rattle.papaya_map_book.specs.Hinted.{IsSlotHint}
use Rattle.papaya_map_book.specs.Logs.{Stored}
use Rattle.papaya_map_book.specs.Sheets.{Sheet}
use Rattle.papaya_map_lookup.specs.History.{key_of}
use Rattle.papaya_map_lookup.specs.Lookups.{IsReadingAt, IsNextStage, hit_in_root, hit_of}
use Rattle.papaya_map_lookup.specs.declared.lookup.Met.{Met}
use Rattle.papaya_map_lookup.specs.declared.near.RootHit.{RootHit}
use Rattle.papaya_map_lookup.specs.declared.near.RootHit.TheVariants as nears
use Rattle.papaya_map_lookup.specs.declared.lookup.ProbeHit.{ProbeHit}
use Rattle.papaya_map_lookup.specs.declared.lookup.ProbeHit.TheVariants as turns
use Rattle.papaya_map_lookup.proofs.Readings.{IsQuery, fed}
use Rattle.papaya_map_lookup.proofs.Turning.{here_not, hint_passed, on_not, other_pair, passed, read_not, word_next}

-- a search continues within its table
on_within : (at : Place) → IsWithin at → IsProbed (go_on at)
on_within at within = chosen IsProbed (nat_lt at.probe.len at.limit) (On (Looking (next_place at))) (Over at.table)
    (λ e. next_within at within (ltb-true at.probe.len at.limit e)) (λ e. tt)

-- if no pair is at a place, and it is not the last, the next place is probed
pub went_on : {M E : Type 0} (P : ProbeHit M E → Type 0) (at next : Place) (near : RootHit M E) → near ≡ nears.On → nat_lt at.probe.len at.limit ≡ true
    → next ≡ next_place at → MatchOption (hit_in_root at near) (Unit {0}) P → P (turns.Next next)
went_on {M} {E} P at next near on more is all =
    let goes : go_on at ≡ On (Looking next) = ap (λ (o : Bool). if o then On (Looking (next_place at)) else Over at.table) more
    ∙ ap (λ (p : Place). On (Looking p)) (sym is) in
    let told : hit_in_root {M = M} {E = E} at near ≡ Some (turns.Next next) = ap (hit_in_root at) on ∙ ap (λ (s : ProbeStep). Some (hit_of s)) goes in
    subst (λ (o : Option (ProbeHit M E)). MatchOption o (Unit {0}) P) told all

-- the outcome by the word, by its kind
pub looks : (at : Place) (word : ℕ) (kind : Kind) → kind_of word ≡ kind → look at word ≡ look_at kind at word
looks at word kind is = ap (λ (k : Kind). look_at k at word) is

-- a matching key of a pair that is live there
pub meets : (at : Place) (word : ℕ) (same : Bool) → kind_of word ≡ kinds.Live → same ≡ true → at_yes (Comparing at word) same ≡ Here at word
meets at word same live e = ap (at_yes (Comparing at word)) e ∙ ap (λ (k : Kind). match_at k at word) live

module _ {K V S H : Type 0} (eq : K → K → Bool) (input : K → List (List ℕ)) (build : S → H) (write : H → List ℕ → H) (finish : H → ℕ)
    (classes : IsEquivalence eq) (respects : (x y : K) → eq x y ≡ true → input x ≡ input y)
    (b : Begun K V S) (matches : K → Bool) (query : List (List ℕ)) (lawful : IsQuery eq input matches query) (begun : List (Exchange (Stored K V)))
    (h : ℕ) (name : Name) where
  abbrev hash : S → K → ℕ
  hash = hash_of input build write finish

  abbrev fed_to : ℕ
  fed_to = fed eq input build write finish classes respects b matches query lawful

  abbrev Turned : List (Event K V S) → Sheet → ProbeHit (Met K V) (Bor K × Bor V) → Type 0
  Turned = IsNextStage eq hash b name matches fed_to begun h

  module _ (log : List (Event K V S)) (at : Place) (within : IsWithin at) (table : Sheet)
      (r : IsReadingAt eq hash b matches fed_to begun h log (Searching (Looking at)) table) (log' : List (Event K V S)) (pre : IsPrefix log log')
      (hint : ℕ) (told : IsSlotHint eq hash b at.table at.probe.i hint log') where
    -- the hint is another key's
    pub passed_over : may_hold hint h ≡ false → Turned log' table (hit_of (go_on at))
    passed_over e =
        let is : hinted at h hint ≡ go_on at = ap (λ (o : Bool). if o then On (Reading at) else go_on at) e in
        let all = hint_passed eq input build write finish classes respects b matches query lawful begun h name log at within table r log' pre hint
        told (subst IsProbed (sym is) (on_within at within)) (λ a z. read_not at a (sym is ∙ z)) in
        subst (λ (s : ProbeStep). Turned log' table (hit_of s)) is all.0

    -- or states nothing, or is the key's
    pub to_read : may_hold hint h ≡ true → IsReadingAt eq hash b matches fed_to begun h log' (Searching (Reading at)) table
    to_read e = word_next eq input build write finish classes respects b matches query lawful begun h name log at within table r log' pre hint told at
        (ap (λ (o : Bool). if o then On (Reading at) else go_on at) e)

  module _ (log : List (Event K V S)) (at : Place) (within : IsWithin at) (table : Sheet)
      (r : IsReadingAt eq hash b matches fed_to begun h log (Searching (Reading at)) table) (log' : List (Event K V S)) (pre : IsPrefix log log')
      (word : ℕ) (state : Option (Named K V)) (told : IsSlotWord eq hash b name at.table at.probe.i word log' state) where
    -- nothing was ever there
    pub none_there : kind_of word ≡ kinds.Empty → Turned log' table turns.Absent
    none_there e =
        let is = looks at word kinds.Empty e in
        let all = passed eq input build write finish classes respects b matches query lawful begun h name log at within table r log' pre word state
        told (subst IsProbed (sym is) within) (λ a w z. let two : Empty at ≡ On (Comparing a w) = sym is ∙ z in cc two) in
        subst (λ (s : ProbeStep). Turned log' table (hit_of s)) is all.0

    -- no pair is there any longer
    pub none_left : look at word ≡ go_on at → Turned log' table (hit_of (go_on at))
    none_left is =
        let all = passed eq input build write finish classes respects b matches query lawful begun h name log at within table r log' pre word state
        told (subst IsProbed (sym is) (on_within at within)) (λ a w z. on_not at a w (sym is ∙ z)) in
        subst (λ (s : ProbeStep). Turned log' table (hit_of s)) is all.0

    -- a live pair is there, with another key
    pub other_there : kind_of word ≡ kinds.Live → (p : Stored K V) → state ≡ Some (names.Pair p) → (same : Bool) → same ≡ matches (key_of p)
        → same ≡ false → Turned log' table (hit_of (go_on at))
    other_there live p is same same_is e =
        let goes : at_yes (Comparing at word) same ≡ go_on at = ap (at_yes (Comparing at word)) e in
        let all = other_pair eq input build write finish classes respects b matches query lawful begun h name log at within table r log' pre word
        state told at word (looks at word kinds.Live live) p is same same_is (subst IsProbed (sym goes) (on_within at within))
        (λ a w z. here_not at a w (sym goes ∙ z)) in
        subst (λ (s : ProbeStep). Turned log' table (hit_of s)) goes all.0
