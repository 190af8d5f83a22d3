-- The search of one table: each iteration is one to three answers to the machine, and brings it
-- nearer its end.
use Rattle.std.proofs.Common.{◌≡◌, ℕ, zero, suc, ◌+◌, ◌*◌, ◌-◌, ◌<◌, ◌≤◌, nat_lt, lt-ltb, ltb-true, if◌then◌else◌}
use Rattle.std.proofs.Common.{Bool, true, false, List, [], ◌∷◌, ◌++◌, length, slice_get, slice_index, Option, Some, refl, sym, ◌∙◌, ap}
use Rattle.std.proofs.Common.{subst, arith}
use Rattle.std.proofs.lemmas.Bool.{cond_both, ne_eqb}
use Rattle.papaya_words.specs.Table.{TableWords}
use Rattle.papaya_words.specs.Word.{kind_of, may_hold, pair_of as number_of}
use Rattle.papaya_words.specs.declared.word.Kind.{Kind}
use Rattle.papaya_words.specs.declared.word.Kind.TheVariants as kinds
use Rattle.papaya_call.specs.declared.ask.Answer.{Answer}
use Rattle.papaya_call.specs.declared.ask.Answer.TheVariants.{Ok as Ok_done, Size, Word as Word_read, Yes}
use Rattle.papaya_call.specs.declared.ask.At.{At}
use Rattle.papaya_call.specs.declared.ask.At.TheVariants.{Slot}
use Rattle.papaya_call.specs.declared.call.Task.{Task}
use Rattle.papaya_call.specs.declared.call.Task.TheVariants.{Get, Insert, RemoveIf, Compute}
use Rattle.papaya_call.specs.declared.search.Place.{Place}
use Rattle.papaya_call.specs.declared.search.Search.{Search}
use Rattle.papaya_call.specs.declared.search.Search.TheVariants.{Sizing, Looking, Reading, Comparing}
use Rattle.papaya_call.specs.declared.search.ProbeStep.{ProbeStep}
use Rattle.papaya_call.specs.declared.search.ProbeStep.TheVariants.{On, Empty, Here, Over}
use Rattle.papaya_call.specs.Search.{IsProbed, at_yes, first_place, go_on, hinted, look, look_at, match_at, next_place}
use Rattle.papaya_call.specs.declared.machine.Machine.{Machine}
use Rattle.papaya_call.specs.declared.machine.State.{State}
use Rattle.papaya_call.specs.declared.machine.State.TheVariants.{AtRoot, Making, Searching}
use Rattle.papaya_call.specs.declared.compute.Gap.TheVariants.{NoRoot}
use Rattle.papaya_call.specs.Machine.{absent, after, at_root, goes}
use Rattle.papaya_core_store.specs.Store.{StoreState, pair_of}
use Rattle.papaya_core_store.specs.Performs.{size_of}
use Rattle.papaya_core_store.specs.Tables.{Tables, hint_at, slot_hint, table_of, word_at, word_in}
use Rattle.papaya_seq.specs.Looks.{Comes, matches_in}
use Rattle.papaya_seq.specs.Searches.{ContinuesIn, IsMatchedBy, IsPassedTo, IsThere, IsProbeHit, IsHitFrom, HasStopped, Sees, SeesFrom, HoldsWord, left_at, left_to, passed_by, passed_on}
use Rattle.papaya_seq.specs.Searches.{seen_by}
use Rattle.papaya_seq.specs.declared.search.ProbeHit.{ProbeHit}
use Rattle.papaya_seq.specs.declared.search.ProbeHit.TheVariants as turns

index_got : (items : List ℕ) (i item : ℕ) → slice_get items i ≡ Some item → item ≡ slice_index items i
index_got [] i item e = absurd cc
index_got (x ∷ xs) zero item e = cc
index_got (x ∷ xs) (suc i) item e = index_got xs i item e

-- the word of a slot of a table is the one that is there
pub slot_read : (w : Tables) (t i word : ℕ) (table : TableWords) → table_of w.tables t ≡ Some table → slice_get table.slots i ≡ Some word
    → word ≡ word_at w (Slot t i)
slot_read w t i word table there read = index_got table.slots i word read ∙ sym (ap (word_in (λ v. slice_index v.slots i)) there)

-- and so is its hint
pub hint_read : (w : Tables) (t i hint : ℕ) (table : TableWords) → table_of w.tables t ≡ Some table → i < length table.slots
    → slice_get table.hints i ≡ Some hint → hint ≡ hint_at w t i
hint_read w t i hint table there within read = index_got table.hints i hint read
    ∙ ap (λ (b : Bool). if b then slice_index table.hints i else 0) (sym (lt-ltb i (length table.slots) within))
    ∙ sym (ap (word_in (λ v. slot_hint v i)) there)

module _ (so : (number slots : ℕ) → Type 0) where
  -- a search continues in its table
  on_in : (at : Place) → so at.table at.len → ContinuesIn so (go_on at)
  on_in at is = cond_both (nat_lt at.probe.len at.limit) (On (Looking (next_place at))) (Over at.table) (ContinuesIn so) (λ _. is) (λ _. tt)

  pub hinted_in : (at : Place) (hash hint : ℕ) → so at.table at.len → ContinuesIn so (hinted at hash hint)
  hinted_in at hash hint is = cond_both (may_hold hint hash) (On (Reading at)) (go_on at) (ContinuesIn so) (λ _. is) (λ _. on_in at is)

  pub look_in : (kind : Kind) (at : Place) (word : ℕ) → so at.table at.len → ContinuesIn so (look_at kind at word)
  look_in kinds.Empty at word is = tt
  look_in kinds.Live at word is = is
  look_in kinds.Marked at word is = is
  look_in kinds.Copied at word is = is
  look_in kinds.Buried at word is = on_in at is
  look_in kinds.Closed at word is = on_in at is

  match_in : (kind : Kind) (at : Place) (word : ℕ) → ContinuesIn so (match_at kind at word)
  match_in kinds.Empty at word = tt
  match_in kinds.Live at word = tt
  match_in kinds.Marked at word = tt
  match_in kinds.Copied at word = tt
  match_in kinds.Buried at word = tt
  match_in kinds.Closed at word = tt

  pub yes_in : (at : Place) (word : ℕ) (same : Bool) → so at.table at.len → ContinuesIn so (at_yes (Comparing at word) same)
  yes_in at word true is = match_in (kind_of word) at word
  yes_in at word false is = on_in at is

-- the answers that are left to a search after this step
abbrev pub left_seen : ProbeStep → ℕ
left_seen (On (Looking at)) = left_at at
left_seen (On (Reading at)) = 3 * (at.limit + 1 - at.probe.len)
left_seen (On (Comparing at word)) = 3 * (at.limit - at.probe.len) + 2
left_seen _ = 0

-- the next place is nearer the last one
on_left : (at : Place) → at.probe.len ≤ at.limit → left_seen (go_on at) < 3 * (at.limit - at.probe.len) + 2
on_left at within = cond_both (nat_lt at.probe.len at.limit) (On (Looking (next_place at))) (Over at.table)
    (λ s. left_seen s < 3 * (at.limit - at.probe.len) + 2)
    (λ more. let l : at.probe.len < at.limit = ltb-true at.probe.len at.limit more in omega (arith, within, l)) (λ _. omega (arith, within))

-- a hint lowers the number of answers that are left
pub hinted_left : (at : Place) (hash hint : ℕ) → at.probe.len ≤ at.limit → left_seen (hinted at hash hint) < left_at at
hinted_left at hash hint within =
    let next = on_left at within in
    cond_both (may_hold hint hash) (On (Reading at)) (go_on at) (λ s. left_seen s < left_at at) (λ _. omega arith) (λ _. omega (arith, next))

-- and so does a word
pub look_left : (kind : Kind) (at : Place) (word : ℕ) → at.probe.len ≤ at.limit → left_seen (look_at kind at word) < left_seen (On (Reading at))
look_left kinds.Empty at word within = omega (arith, within)
look_left kinds.Live at word within = omega (arith, within)
look_left kinds.Marked at word within = omega (arith, within)
look_left kinds.Copied at word within = omega (arith, within)
look_left kinds.Buried at word within = let next = on_left at within in omega (arith, next)
look_left kinds.Closed at word within = let next = on_left at within in omega (arith, next)

match_left : (kind : Kind) (at : Place) (word : ℕ) → left_seen (match_at kind at word) ≡ 0
match_left kinds.Empty at word = refl
match_left kinds.Live at word = refl
match_left kinds.Marked at word = refl
match_left kinds.Copied at word = refl
match_left kinds.Buried at word = refl
match_left kinds.Closed at word = refl

-- and a comparison
pub yes_left : (at : Place) (word : ℕ) (same : Bool) → at.probe.len ≤ at.limit
    → left_seen (at_yes (Comparing at word) same) < left_seen (On (Comparing at word))
yes_left at word true within = let none = match_left (kind_of word) at word in omega (arith, none, within)
yes_left at word false within = on_left at within

-- the answers that are left after a probe
pub turn_left : (turn : ProbeHit) → left_to turn ≡ left_seen (seen_by turn)
turn_left (turns.Next at) = refl
turn_left (turns.Empty at) = refl
turn_left (turns.Here at word) = refl
turn_left (turns.Over t) = refl

on_turned : (at : Place) → HasStopped (go_on at)
on_turned at = cond_both (nat_lt at.probe.len at.limit) (On (Looking (next_place at))) (Over at.table) HasStopped (λ _. tt) (λ _. tt)

-- a word whose pair's key is not to be compared
abbrev Uncompared : ProbeStep → Type 0
Uncompared seen = ((at : Place) (word : ℕ) → seen ≡ On (Comparing at word) → ⊥) → HasStopped seen

pub look_turned : (kind : Kind) (at : Place) (word : ℕ) → Uncompared (look_at kind at word)
look_turned kinds.Empty at word = λ none. tt
look_turned kinds.Live at word = λ none. none at word refl
look_turned kinds.Marked at word = λ none. none at word refl
look_turned kinds.Copied at word = λ none. none at word refl
look_turned kinds.Buried at word = λ none. on_turned at
look_turned kinds.Closed at word = λ none. on_turned at

match_turned : (kind : Kind) (at : Place) (word : ℕ) → HasStopped (match_at kind at word)
match_turned kinds.Empty at word = tt
match_turned kinds.Live at word = tt
match_turned kinds.Marked at word = tt
match_turned kinds.Copied at word = tt
match_turned kinds.Buried at word = tt
match_turned kinds.Closed at word = tt

-- the same after a comparison
pub yes_turned : (at : Place) (word : ℕ) (same : Bool) → HasStopped (at_yes (Comparing at word) same)
yes_turned at word true = match_turned (kind_of word) at word
yes_turned at word false = on_turned at

-- a search that continues holds no word
stands_on : (words : At → ℕ) (at : Place) → HoldsWord words (go_on at)
stands_on words at = cond_both (nat_lt at.probe.len at.limit) (On (Looking (next_place at))) (Over at.table) (HoldsWord words) (λ _. tt) (λ _. tt)

-- a step after a word was read holds that word
pub stands_look : (words : At → ℕ) (kind : Kind) (at : Place) (word : ℕ) → words (Slot at.table at.probe.i) ≡ word → kind_of word ≡ kind
    → HoldsWord words (look_at kind at word)
stands_look words kinds.Empty at word is empty = ap kind_of is ∙ empty
stands_look words kinds.Live at word is e = is
stands_look words kinds.Marked at word is e = is
stands_look words kinds.Copied at word is e = is
stands_look words kinds.Buried at word is e = stands_on words at
stands_look words kinds.Closed at word is e = stands_on words at

stands_match : (words : At → ℕ) (kind : Kind) (at : Place) (word : ℕ) → words (Slot at.table at.probe.i) ≡ word → HoldsWord words (match_at kind at word)
stands_match words kinds.Empty at word is = is
stands_match words kinds.Live at word is = is
stands_match words kinds.Marked at word is = is
stands_match words kinds.Copied at word is = tt
stands_match words kinds.Buried at word is = is
stands_match words kinds.Closed at word is = is

-- and so does a comparison
pub stands_yes : (words : At → ℕ) (at : Place) (word : ℕ) (same : Bool) → words (Slot at.table at.probe.i) ≡ word
    → HoldsWord words (at_yes (Comparing at word) same)
stands_yes words at word true is = stands_match words (kind_of word) at word is
stands_yes words at word false is = stands_on words at

-- a hint after which the search does not continue at a next place brings it to the word of its
-- place, or past the table
abbrev Unlooked : Place → ProbeStep → Type 0
Unlooked first seen = ((place : Place) → seen ≡ On (Looking place) → ⊥) → IsPassedTo first seen

pub hinted_led : (first at : Place) (hash hint : ℕ) → left_at at ≤ left_at first → Unlooked first (hinted at hash hint)
hinted_led first at hash hint near = cond_both (may_hold hint hash) (On (Reading at)) (go_on at) (Unlooked first) (λ _ none. near)
    (λ _. cond_both (nat_lt at.probe.len at.limit) (On (Looking (next_place at))) (Over at.table) (Unlooked first)
    (λ _ none. absurd (none (next_place at) refl)) (λ _ none. tt))

-- a search that passed by places holds no word, and has found no pair
pub passed_stands : (words : At → ℕ) (first : Place) (seen : ProbeStep) → IsPassedTo first seen → HoldsWord words seen
passed_stands words first (On (Sizing n)) led = tt
passed_stands words first (On (Looking at)) led = tt
passed_stands words first (On (Reading at)) led = tt
passed_stands words first (On (Comparing at word)) led = absurd led
passed_stands words first (Empty at) led = absurd led
passed_stands words first (Here at word) led = absurd led
passed_stands words first (Over n) led = tt

pub passed_matched : {K V S : Type 0} (store : StoreState K V S) (matches : K → Bool) (hash : ℕ) (first : Place) (seen : ProbeStep)
    → IsPassedTo first seen → IsMatchedBy matches store hash seen
passed_matched store matches hash first (On search) led = tt
passed_matched store matches hash first (Empty at) led = tt
passed_matched store matches hash first (Here at word) led = absurd led
passed_matched store matches hash first (Over n) led = tt

-- a call that loaded the number of a root searches it
root_searched : (task : Task) (fill : Option ℕ) (root : ℕ) → (root ≡ 0 → ⊥) → at_root task fill root ≡ Searching (Sizing root)
root_searched Get fill root some = ap (λ (b : Bool). if b then absent Get fill NoRoot else Searching (Sizing root)) (ne_eqb root 0 some)
root_searched RemoveIf fill root some = ap (λ (b : Bool). if b then absent RemoveIf fill NoRoot else Searching (Sizing root)) (ne_eqb root 0 some)
root_searched Compute fill root some = ap (λ (b : Bool). if b then absent Compute fill NoRoot else Searching (Sizing root)) (ne_eqb root 0 some)
root_searched (Insert replace) fill root some = ap (λ (b : Bool). if b then Making else Searching (Sizing root)) (ne_eqb root 0 some)

module _ {K V S : Type 0} (matches : K → Bool) (store : StoreState K V S) where
  -- a machine that came there continues from there
  pub comes_on : (first rest : List Answer) (m m' m'' : Machine) → Comes matches store m first m' → Comes matches store m' rest m''
      → Comes matches store m (first ++ rest) m''
  comes_on [] rest m m' m'' is more = subst (λ (x : Machine). Comes matches store x rest m'') is more
  comes_on (answer ∷ first) rest m m' m'' (asked, told, came) more = (asked, told, comes_on first rest (after m answer) m' m'' came more)

  module _ (hash : ℕ) where
    -- a search begins at its first place
    pub sees_begun : (at : Place) → Sees matches store hash at (On (Looking at))
    sees_begun at m = ([], refl)

    -- a step from a later place is a step from the first place
    pub sees_on : (at : Place) (search : Search) (seen : ProbeStep) → Sees matches store hash at (On search)
        → SeesFrom matches store hash (Searching search) seen → Sees matches store hash at seen
    sees_on at search seen before goes_on m =
        let came = before m in
        let more = goes_on m in (
          came.0 ++ more.0,
          comes_on came.0 more.0 (record m { hash = hash; state = Searching (Looking at) })
              (record m { hash = hash; state = Searching search }) (record m { hash = hash; state = goes m seen }) came.1 more.1,
        )

    module _ (at : Place) where
      -- the word at the place
      abbrev pub word_there : ℕ
      word_there = word_at store.words (Slot at.table at.probe.i)

      -- and its hint
      abbrev pub hint_there : ℕ
      hint_there = hint_at store.words at.table at.probe.i

      -- the hint was loaded
      pub sees_hint : Sees matches store hash at (hinted at hash hint_there)
      sees_hint m = (Word_read hint_there ∷ [], (tt, refl, refl))

      -- and the search continued from there
      passed_then : (rest : Place → ProbeStep) → ((next : Place) → Sees matches store hash next (rest next)) → (seen : ProbeStep)
          → Sees matches store hash at seen → Sees matches store hash at (passed_on rest seen)
      passed_then rest more (On (Sizing n)) before = before
      passed_then rest more (On (Looking next)) before = sees_on at (Looking next) (rest next) before (more next)
      passed_then rest more (On (Reading next)) before = before
      passed_then rest more (On (Comparing next word)) before = before
      passed_then rest more (Empty next) before = before
      passed_then rest more (Here next word) before = before
      passed_then rest more (Over n) before = before

      -- the word was loaded
      pub sees_word : SeesFrom matches store hash (Searching (Reading at)) (look at word_there)
      sees_word m = (Word_read word_there ∷ [], (tt, refl, refl))

      -- and the key of its pair was compared
      pub sees_same : (place : Place) (word : ℕ) → look at word_there ≡ On (Comparing place word)
          → SeesFrom matches store hash (Searching (Reading at)) (at_yes (Comparing place word) (matches_in matches (pair_of store (number_of word))))
      sees_same place word compares m =
          let same : Bool = matches_in matches (pair_of store (number_of word)) in
          let looks : Machine = record m { hash = hash; state = Searching (Reading at) } in
          let asks : Machine = record m { hash = hash; state = Searching (Comparing place word) } in
          let led : Machine = record m { hash = hash; state = goes m (at_yes (Comparing place word) same) } in
          let came : Comes matches store looks (Word_read word_there ∷ [])
          asks = subst (λ s. Comes matches store looks (Word_read word_there ∷ []) (record m { hash = hash; state = goes m s })) compares (tt, refl, refl) in
          (Word_read word_there ∷ Yes same ∷ [], comes_on (Word_read word_there ∷ []) (Yes same ∷ []) looks asks led came (tt, refl, refl))

      -- a step of the search is a probe
      pub turn_seen : (state : State) (turn : ProbeHit) (seen : ProbeStep) → seen_by turn ≡ seen → SeesFrom matches store hash state seen → IsProbed seen
          → ContinuesIn (IsThere store) seen → HoldsWord (λ w. word_at store.words w) seen → IsMatchedBy matches store hash seen → IsHitFrom matches store hash state turn
      turn_seen state turn seen is sees within there stands
          matched = record {
            sees = subst (SeesFrom matches store hash state) (sym is) sees;
            within = subst IsProbed (sym is) within;
            there = subst (ContinuesIn (IsThere store)) (sym is) there;
            stands = subst (HoldsWord (λ w. word_at store.words w)) (sym is) stands;
            matched = subst (IsMatchedBy matches store hash) (sym is) matched;
          }

      -- a hint or a word alone finds no pair
      matched_on : IsMatchedBy matches store hash (go_on at)
      matched_on = cond_both (nat_lt at.probe.len at.limit) (On (Looking (next_place at))) (Over at.table) (IsMatchedBy matches store hash) (λ _. tt) (λ _. tt)

      pub matched_look : (kind : Kind) (word : ℕ) → IsMatchedBy matches store hash (look_at kind at word)
      matched_look kinds.Empty word = tt
      matched_look kinds.Live word = tt
      matched_look kinds.Marked word = tt
      matched_look kinds.Copied word = tt
      matched_look kinds.Buried word = matched_on
      matched_look kinds.Closed word = matched_on

      matched_kind : (kind : Kind) (word : ℕ) → matches_in matches (pair_of store (number_of word)) ≡ true
          → IsMatchedBy matches store hash (match_at kind at word)
      matched_kind kinds.Empty word is = is
      matched_kind kinds.Live word is = is
      matched_kind kinds.Marked word is = is
      matched_kind kinds.Copied word is = tt
      matched_kind kinds.Buried word is = is
      matched_kind kinds.Closed word is = is

      -- a comparison finds one that matches
      pub matched_yes : (word : ℕ) (same : Bool) → same ≡ matches_in matches (pair_of store (number_of word))
          → IsMatchedBy matches store hash (at_yes (Comparing at word) same)
      matched_yes word true is = matched_kind (kind_of word) word (sym is)
      matched_yes word false is = matched_on

    -- a search passes by the places that their hints exclude
    pub sees_passed : (n : ℕ) (at : Place) → Sees matches store hash at (passed_by store hash n at)
    sees_passed zero at = sees_hint at
    sees_passed (suc n) at =
        passed_then at (λ next. passed_by store hash n next) (λ next. sees_passed n next) (hinted at hash (hint_there at)) (sees_hint at)

    -- a probe from the place to which the probes before it came
    pub turns_on : (at place : Place) (turn : ProbeHit) → IsProbeHit matches store hash at (turns.Next place) → IsProbeHit matches store hash place turn
        → IsProbeHit matches store hash at turn
    turns_on at place turn before next = record {
      sees = sees_on at (Looking place) (seen_by turn) before.sees next.sees;
      within = next.within;
      there = next.there;
      stands = next.stands;
      matched = next.matched;
    }

    -- a root that is there was loaded, and its size asked for
    pub sees_root : (slots limit : ℕ) → size_of (table_of store.words.tables store.words.root) ≡ Size slots limit → (seen : ProbeStep)
        → Sees matches store hash (first_place hash store.words.root slots limit) seen → SeesFrom matches store hash AtRoot seen
    sees_root slots limit size seen sees m =
        let root : ℕ = store.words.root in
        let some : root ≡ 0 → ⊥ = λ zero. let none : Ok_done ≡ Size slots limit = sym (ap (λ n. size_of (table_of store.words.tables n)) zero)
        ∙ size in absurd cc in
        let begun : Machine = record m { hash = hash; state = AtRoot } in
        let sizes : Machine = record m { hash = hash; state = Searching (Sizing root) } in
        let looks : Machine = record m { hash = hash; state = Searching (Looking (first_place hash root slots limit)) } in
        let as_loaded : Comes matches store begun (Word_read root ∷ [])
        sizes = (tt, refl, ap (λ (s : State). record m { hash = hash; state = s }) (sym (root_searched m.task m.remembered.fill root some))) in
        let sized : Comes matches store sizes (Size slots limit ∷ []) looks = (tt, sym size, refl) in
        let more = sees m in (
          Word_read root ∷ (Size slots limit ∷ more.0),
          comes_on (Word_read root ∷ []) (Size slots limit ∷ more.0) begun sizes
              (record m { hash = hash; state = goes m seen }) as_loaded
              (comes_on (Size slots limit ∷ []) more.0 sizes looks (record m { hash = hash; state = goes m seen }) sized more.1),
        )
