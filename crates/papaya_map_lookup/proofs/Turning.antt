-- A search of a table and the lookup around it: the state to which each outcome of a place leads
-- the ghost machine.
use Rattle.std.proofs.Common.{◌≡◌, ℕ, ◌<◌, ◌==◌, nat_lt, if◌then◌else◌, Bool, true, false}
use Rattle.std.proofs.Common.{MatchOption, Option, None, Some, List, length, refl, sym, ap, ◌∙◌}
use Rattle.std.proofs.Common.{subst, arith}
use Rattle.std.proofs.lemmas.Bool.{ne_eqb}
use Rattle.std.specs.Cmp.{IsEquivalence}
use mathlib.Core.List.{IsPrefix}
use denote.Bor.{Bor}
use Rattle.logbook.specs.Pages.{Book as Name}
use Rattle.papaya_words.specs.Word.{kind_of, may_hold, pair_of}
use Rattle.papaya_words.specs.declared.word.Kind.{Kind}
use Rattle.papaya_words.specs.declared.word.Kind.TheVariants as kinds
use Rattle.papaya_words.specs.declared.resize_mode.ResizeMode.{ResizeMode}
use Rattle.papaya_words.specs.declared.resize_mode.ResizeMode.TheVariants.{Incremental, Blocking}
use Rattle.papaya_call.specs.declared.call.Reply.TheVariants as replies
use Rattle.papaya_call.specs.declared.call.Task.TheVariants.{Get}
use Rattle.papaya_call.specs.declared.machine.State.{State as Stage}
use Rattle.papaya_call.specs.declared.machine.State.TheVariants.{AtRoot, Searching, Leaving, Ended}
use Rattle.papaya_call.specs.declared.search.Place.{Place}
use Rattle.papaya_call.specs.declared.search.Search.TheVariants.{Sizing, Looking, Reading, Comparing}
use Rattle.papaya_call.specs.declared.search.ProbeStep.{ProbeStep}
use Rattle.papaya_call.specs.declared.search.ProbeStep.TheVariants.{On, Empty, Here, Over}
use Rattle.papaya_call.specs.Compute.{nothing}
use Rattle.papaya_call.specs.Machine.{goes_as, passes, started}
use Rattle.papaya_call.specs.Search.{IsProbed, IsSize, IsWithin, at_yes, first_place, go_on, hinted, look, look_at, match_at, next_place}
use Rattle.papaya_call_law.specs.TrueAnswers.{or_last}
use Rattle.papaya_call_law.proofs.LoadsLeft.{chosen}
use Rattle.papaya_words_law.specs.Exchange.{Exchange}
use Rattle.papaya_words_law.specs.Invariant.{named}
use Rattle.papaya_map_book.specs.declared.book.Book.{Book}
use Rattle.papaya_map_book.specs.declared.rule.entry.Begun.{Begun}
use Rattle.papaya_map_book.specs.declared.rule.entry.Event.{Event}
use Rattle.papaya_map_book.specs.declared.rule.entry.Named.{Named}
use Rattle.papaya_map_book.specs.declared.rule.entry.Named.TheVariants as names
use Rattle.papaya_map_book.specs.Calls.{IsNext, IsRoot, IsSlotWord, IsTable}
use Rattle.papaya_map_book.specs.Hashes.{hash_of}
use Rattle.papaya_map_book.specs.Hinted.{IsSlotHint}
use Rattle.papaya_map_book.specs.Logs.{Stored, exchanges_of, pair_named, state_of, steps_of}
use Rattle.papaya_map_book.specs.Parts.{begun_of}
use Rattle.papaya_map_book.specs.Rule.{IsLawfulLog, IsPlaced}
use Rattle.papaya_map_book.specs.Sheets.{Sheet}
use Rattle.papaya_map_book.proofs.Loaded.{told_pair}
use Rattle.papaya_map_book.proofs.Logs.{table_came}
use Rattle.papaya_map_lookup.specs.Answers.{IsHitAnsweredBetween}
use Rattle.papaya_map_lookup.specs.History.{history_of, key_of}
use Rattle.papaya_call_law.specs.Relies.{HasMet}
use Rattle.papaya_map_lookup.specs.Lookups.{HasHit, HoldsPair, IsReading, IsReadingAt, IsNextStage, coding_for, next_stage, left_of, lookup_at, setting_for, hit_of}
use Rattle.papaya_map_lookup.specs.declared.lookup.Met.{Met}
use Rattle.papaya_map_lookup.specs.declared.lookup.ProbeHit.{ProbeHit}
use Rattle.papaya_map_lookup.specs.declared.lookup.ProbeHit.TheVariants as turns
use Rattle.papaya_map_lookup.proofs.Answering.{Rested, begins, hint_read, next_read, root_read, slot_read}
use Rattle.papaya_map_lookup.proofs.Comparing.{hint_held, same_read, size_read, slot_held}
use Rattle.papaya_map_lookup.proofs.LookupReplies.{absent_answer, found_answer}
use Rattle.papaya_map_lookup.proofs.Readings.{IsQuery, fed}

-- the search continues, and neither loads a word nor compares a key
abbrev IsOnward : ProbeStep → Type 0
IsOnward (On (Looking at)) = Unit {0}
IsOnward (On (Sizing t)) = ⊥
IsOnward (On (Reading at)) = ⊥
IsOnward (On (Comparing at word)) = ⊥
IsOnward (Empty at) = Unit {0}
IsOnward (Here at word) = ⊥
IsOnward (Over t) = Unit {0}

onward_on : (at : Place) → IsOnward (go_on at)
onward_on at = chosen IsOnward (nat_lt at.probe.len at.limit) (On (Looking (next_place at))) (Over at.table) (λ e. tt) (λ e. tt)

-- it is so if no word is to be loaded
onward_hinted : (at : Place) (hash hint : ℕ) → ((a : Place) → hinted at hash hint ≡ On (Reading a) → ⊥) → IsOnward (hinted at hash hint)
onward_hinted at hash hint =
    chosen (λ seen. ((a : Place) → seen ≡ On (Reading a) → ⊥) → IsOnward seen) (may_hold hint hash) (On (Reading at)) (go_on at)
    (λ e none. absurd (none at refl)) (λ e none. onward_on at)

-- a word that is loaded is that of the place
pub read_not : (at a : Place) → go_on at ≡ On (Reading a) → ⊥
read_not at a = chosen (λ s. s ≡ On (Reading a) → ⊥) (nat_lt at.probe.len at.limit) (On (Looking (next_place at))) (Over at.table) (λ e h. cc h) (λ e h. cc h)

pub read_hinted : (at : Place) (hash hint : ℕ) (a : Place) → hinted at hash hint ≡ On (Reading a) → hinted at hash hint ≡ On (Reading at)
read_hinted at hash hint a =
    chosen (λ seen. seen ≡ On (Reading a) → seen ≡ On (Reading at)) (may_hold hint hash) (On (Reading at)) (go_on at) (λ e h. refl)
    (λ e h. absurd (read_not at a h))

-- and if no key is to be compared
abbrev IsOnwardElse : ProbeStep → Type 0
IsOnwardElse seen = ((a : Place) (w : ℕ) → seen ≡ On (Comparing a w) → ⊥) → IsOnward seen

onward_look : (kind : Kind) (at : Place) (word : ℕ) → IsOnwardElse (look_at kind at word)
onward_look kinds.Empty at word = λ none. tt
onward_look kinds.Live at word = λ none. absurd (none at word refl)
onward_look kinds.Marked at word = λ none. absurd (none at word refl)
onward_look kinds.Copied at word = λ none. absurd (none at word refl)
onward_look kinds.Buried at word = λ none. onward_on at
onward_look kinds.Closed at word = λ none. onward_on at

-- and if the pair whose key was compared is not found
abbrev IsOnwardBut : ProbeStep → Type 0
IsOnwardBut seen = ((a : Place) (w : ℕ) → seen ≡ Here a w → ⊥) → IsOnward seen

onward_match : (kind : Kind) (at : Place) (word : ℕ) → IsOnwardBut (match_at kind at word)
onward_match kinds.Empty at word = λ none. absurd (none at word refl)
onward_match kinds.Live at word = λ none. absurd (none at word refl)
onward_match kinds.Marked at word = λ none. absurd (none at word refl)
onward_match kinds.Copied at word = λ none. tt
onward_match kinds.Buried at word = λ none. absurd (none at word refl)
onward_match kinds.Closed at word = λ none. absurd (none at word refl)

onward_yes : (at : Place) (word : ℕ) (same : Bool) → IsOnwardBut (at_yes (Comparing at word) same)
onward_yes at word true = onward_match (kind_of word) at word
onward_yes at word false = λ none. onward_on at

-- A compared key is that of the pair of the word that was loaded.
pub record IsCompared (kind : Kind) (seen : ProbeStep) (at : Place) (word : ℕ) : Type 0 where
  pub some : kind ≡ kinds.Empty → ⊥
  pub shut : kind ≡ kinds.Closed → ⊥
  pub is : seen ≡ On (Comparing at word)

pub on_not : (at a : Place) (w : ℕ) → go_on at ≡ On (Comparing a w) → ⊥
on_not at a w = chosen (λ s. s ≡ On (Comparing a w) → ⊥) (nat_lt at.probe.len at.limit) (On (Looking (next_place at))) (Over at.table) (λ e h. cc h)
    (λ e h. cc h)

pub compared_look : (kind : Kind) (at : Place) (word : ℕ) (a : Place) (w : ℕ) → look_at kind at word ≡ On (Comparing a w)
    → IsCompared kind (look_at kind at word) at word
compared_look kinds.Empty at word a w h = absurd (cc h)
compared_look kinds.Live at word a w h = record { some = λ e. cc e; shut = λ e. cc e; is = refl }
compared_look kinds.Marked at word a w h = record { some = λ e. cc e; shut = λ e. cc e; is = refl }
compared_look kinds.Copied at word a w h = record { some = λ e. cc e; shut = λ e. cc e; is = refl }
compared_look kinds.Buried at word a w h = absurd (on_not at a w h)
compared_look kinds.Closed at word a w h = absurd (on_not at a w h)

pub here_not : (at a : Place) (w : ℕ) → go_on at ≡ Here a w → ⊥
here_not at a w = chosen (λ s. s ≡ Here a w → ⊥) (nat_lt at.probe.len at.limit) (On (Looking (next_place at))) (Over at.table) (λ e h. cc h) (λ e h. cc h)

-- a pair is found if its key matches
here_same : (at a : Place) (word w : ℕ) (same : Bool) → at_yes (Comparing at word) same ≡ Here a w → same ≡ true
here_same at a word w true here = refl
here_same at a word w false here = absurd (here_not at a w here)

module _ (M E : Type 0) where
  -- the outcome leads the machine to the state of the search
  led_on : (mode : ResizeMode) (n : ℕ) (seen : ProbeStep) → IsOnward seen → goes_as Get mode nothing seen ≡ next_stage {M = M} {E = E} mode n (hit_of seen)
  led_on mode n (On (Looking at)) o = refl
  led_on mode n (On (Sizing t)) o = absurd o
  led_on mode n (On (Reading at)) o = absurd o
  led_on mode n (On (Comparing at word)) o = absurd o
  led_on mode n (Empty at) o = refl
  led_on mode n (Here at word) o = absurd o
  led_on mode n (Over t) o = refl

  within_on : (seen : ProbeStep) → IsProbed seen → (at : Place) → hit_of {M = M} {E = E} seen ≡ turns.Next at → IsWithin at
  within_on (On (Looking p)) w at e = let is : p ≡ at = cc e in subst IsWithin is w
  within_on (On (Sizing t)) w at e = absurd (cc e)
  within_on (On (Reading p)) w at e = absurd (cc e)
  within_on (On (Comparing p word)) w at e = absurd (cc e)
  within_on (Empty p) w at e = absurd (cc e)
  within_on (Here p word) w at e = absurd (cc e)
  within_on (Over t) w at e = absurd (cc e)

  unfound_on : (seen : ProbeStep) (met : M) (entry : E) → hit_of seen ≡ turns.Found met entry → ⊥
  unfound_on (On (Looking p)) met entry e = cc e
  unfound_on (On (Sizing t)) met entry e = cc e
  unfound_on (On (Reading p)) met entry e = cc e
  unfound_on (On (Comparing p word)) met entry e = cc e
  unfound_on (Empty p) met entry e = cc e
  unfound_on (Here p word) met entry e = cc e
  unfound_on (Over t) met entry e = cc e

-- a lookup that received this number of a table comes to that table, and has replied if it is 0
abbrev pub numbered : ℕ → Stage
numbered n = if n == 0 then Ended replies.Absent else Searching (Sizing n)

-- a table that came has a number
numbered_some : {K V S : Type 0} (log : List (Event K V S)) (n : ℕ) (sheet : Sheet) → IsTable log n sheet → numbered n ≡ Searching (Sizing n)
numbered_some log n sheet came =
    let by = (table_came (steps_of log) n came.0 came.1).1 in
    ap (λ (b : Bool). if b then Ended replies.Absent else Searching (Sizing n)) (ne_eqb n 0 (λ z. omega (arith, by, z)))

numbered_none : (n : ℕ) → n ≡ 0 → numbered n ≡ Ended replies.Absent
numbered_none n e = ap numbered e

-- A lookup received this number, and holds the table.
pub record IsHeld {K V S H : Type 0} (eq : K → K → Bool) (hash : S → K → ℕ) (matches : K → Bool) (query : S → ℕ)
    (begun : List (Exchange (Stored K V))) (h : ℕ) (book : Book K V S H) (log : List (Event K V S)) (number : ℕ) (held : Option (Bor Sheet)) : Type 0 where
  pub pair : Option (Stored K V)
  pub reading : IsReading eq hash (begun_of book.parts) matches (query book.parts.hasher) begun log
      (lookup_at h book.parts.mode book.parts.limit (numbered number)) held pair
  pub names : MatchOption held (number ≡ 0) (λ r. IsTable log number r.now × (r.now.book ≡ book.begun.book))

-- the pair that is held is the one last passed to the machine
holds_or : {K V S : Type 0} (b : Begun K V S) (name : Name) (last pair told : Option (Stored K V)) → IsPlaced b (Some name) (pair_named told)
    → HoldsPair b last pair → HoldsPair b (or_last told last) (or_last told pair)
holds_or b name last pair None placed h = h
holds_or b name last pair (Some p) placed h = (refl, placed)

module _ {K V S H : Type 0} (eq : K → K → Bool) (input : K → List (List ℕ)) (build : S → H) (write : H → List ℕ → H) (finish : H → ℕ)
    (classes : IsEquivalence eq) (respects : (x y : K) → eq x y ≡ true → input x ≡ input y)
    (b : Begun K V S) (matches : K → Bool) (query : List (List ℕ)) (lawful : IsQuery eq input matches query) (begun : List (Exchange (Stored K V)))
    (h : ℕ) (name : Name) where
  abbrev hash : S → K → ℕ
  hash = hash_of input build write finish

  abbrev fed_to : ℕ
  fed_to = fed eq input build write finish classes respects b matches query lawful

  abbrev Reads : List (Event K V S) → Stage → Bor Sheet → Option (Stored K V) → Type 0
  Reads log stage lent pair = Rested eq input build write finish classes respects b matches query lawful begun log (lookup_at h b.mode b.limit stage)
      (Some lent) pair

  -- an outcome led the machine on, and less is left
  abbrev pub Goes : List (Event K V S) → Stage → Sheet → ProbeHit (Met K V) (Bor K × Bor V) → Type 0
  Goes log stage table turn = IsNextStage eq hash b name matches fed_to begun h log table turn × (left_of (next_stage b.mode 0 turn) < left_of stage)

  -- a search that continues
  goes_on : (log : List (Event K V S)) (stage : Stage) (table : Sheet) (lent : Bor Sheet) → lent.now ≡ table
      → (pair : Option (Stored K V)) (seen : ProbeStep) → IsProbed seen → IsOnward seen → Reads log (goes_as Get b.mode nothing seen) lent pair
      → left_of (goes_as Get b.mode nothing seen) < left_of stage → Goes log stage table (hit_of seen)
  goes_on log stage table lent is pair seen within onward r fewer = (
    record {
      lent = lent;
      lent_is = is;
      pair = pair;
      number = 0;
      reading = subst (λ (s : Stage). Reads log s lent pair) (led_on (Met K V) (Bor K × Bor V) b.mode 0 seen onward) r;
      within = within_on (Met K V) (Bor K × Bor V) seen within;
      found = λ met entry e. absurd (unfound_on (Met K V) (Bor K × Bor V) seen met entry e);
    },
    subst (λ (s : Stage). left_of s < left_of stage) (led_on (Met K V) (Bor K × Bor V) b.mode 0 seen onward) fewer,
  )

  module _ (log : List (Event K V S)) (at : Place) (within : IsWithin at) (table : Sheet)
      (r : IsReadingAt eq hash b matches fed_to begun h log (Searching (Looking at)) table) where
    -- the table has the place
    pub hint_there : IsTable log at.table table × (at.probe.i < length table.slots)
    hint_there =
        subst (λ (z : Sheet). IsTable log at.table z × (at.probe.i < length z.slots)) r.1
        (hint_held eq input build write finish classes respects b matches query lawful begun log (lookup_at h b.mode b.limit (Searching (Looking at)))
        (Some r.0) r.2 r.3 within at.table at.probe.i r.0 refl refl)

    -- its hint was loaded
    module _ (log' : List (Event K V S)) (pre : IsPrefix log log') (hint : ℕ) (told : IsSlotHint eq hash b at.table at.probe.i hint log') where
      -- so the machine received a right answer
      hint_answered : Reads log' (goes_as Get b.mode nothing (hinted at h hint)) r.0 r.2
          × (left_of (goes_as Get b.mode nothing (hinted at h hint)) < left_of (Searching (Looking at)))
      hint_answered =
          let all = hint_read eq input build write finish classes respects b matches query lawful begun log log' pre told.lawful
          (lookup_at h b.mode b.limit (Searching (Looking at))) (Some r.0) r.2 r.3 within at.table at.probe.i hint refl told in
          (all.reading, all.fewer)

      -- the word is not loaded
      pub hint_passed : IsProbed (hinted at h hint) → ((a : Place) → hinted at h hint ≡ On (Reading a) → ⊥)
          → Goes log' (Searching (Looking at)) table (hit_of (hinted at h hint))
      hint_passed seen none = goes_on log' (Searching (Looking at)) table r.0 r.1 r.2 (hinted at h hint) seen (onward_hinted at h hint none)
          hint_answered.0 hint_answered.1

      -- the word is to be loaded
      pub word_next : (a : Place) → hinted at h hint ≡ On (Reading a) → IsReadingAt eq hash b matches fed_to begun h log' (Searching (Reading at)) table
      word_next a e = (r.0, r.1, r.2, subst (λ (s : ProbeStep). Reads log' (goes_as Get b.mode nothing s) r.0 r.2) (read_hinted at h hint a e) hint_answered.0)

  module _ (log : List (Event K V S)) (at : Place) (within : IsWithin at) (table : Sheet)
      (r : IsReadingAt eq hash b matches fed_to begun h log (Searching (Reading at)) table) where
    -- the table has the place
    pub place_there : IsTable log at.table table × (at.probe.i < length table.slots)
    place_there =
        subst (λ (z : Sheet). IsTable log at.table z × (at.probe.i < length z.slots)) r.1
        (slot_held eq input build write finish classes respects b matches query lawful begun log (lookup_at h b.mode b.limit (Searching (Reading at)))
        (Some r.0) r.2 r.3 within at.table at.probe.i r.0 refl refl)

    -- its word was loaded
    module _ (log' : List (Event K V S)) (pre : IsPrefix log log') (word : ℕ) (state : Option (Named K V))
        (told : IsSlotWord eq hash b name at.table at.probe.i word log' state) where
      -- no key is compared
      pub passed : IsProbed (look at word) → ((a : Place) (w : ℕ) → look at word ≡ On (Comparing a w) → ⊥)
          → Goes log' (Searching (Reading at)) table (hit_of (look at word))
      passed seen none =
          let o = named ((state_of log').slot at.table at.probe.i) in
          let looked = slot_read eq input build write finish classes respects b matches query lawful begun log log' pre told.read.lawful
          (lookup_at h b.mode b.limit (Searching (Reading at))) (Some r.0) r.2 r.3 within
          at.table at.probe.i word o (or_last o r.2) refl told.read.is refl (λ last held. holds_or b name last r.2 o told.placed held) in
          goes_on log' (Searching (Reading at)) table r.0 r.1 (or_last o r.2) (look at word) seen (onward_look (kind_of word) at word none)
          looked.reading looked.fewer

      -- a key is compared
      module _ (a : Place) (w : ℕ) (e : look at word ≡ On (Comparing a w)) where
        pub pair_told : (p : Stored K V) × (state ≡ Some (names.Pair p)) × (pair_of word ≡ p.index)
        pair_told = let c = compared_look (kind_of word) at word a w e in told.some c.some c.shut

        module _ (p : Stored K V) (is : state ≡ Some (names.Pair p)) where
          stands : named ((state_of log').slot at.table at.probe.i) ≡ Some p
          stands = told_pair eq hash b log' word state at.table at.probe.i told.read p is

          pub pair_placed : IsPlaced b (Some name) (names.Pair p)
          pair_placed = subst (λ (o : Option (Stored K V)). IsPlaced b (Some name) (pair_named o)) stands told.placed

          -- its key is to be compared
          comparing : Reads log' (Searching (Comparing at word)) r.0 (Some p) × (left_of (Searching (Comparing at word)) < left_of (Searching (Reading at)))
          comparing =
              let looked = slot_read eq input build write finish classes respects b matches query lawful begun log log' pre told.read.lawful
              (lookup_at h b.mode b.limit (Searching (Reading at))) (Some r.0) r.2 r.3 within
              at.table at.probe.i word (Some p) (Some p) refl told.read.is stands (λ last held. (refl, pair_placed)) in
              let seen = (compared_look (kind_of word) at word a w e).is in (
                subst (λ (s : ProbeStep). Reads log' (goes_as Get b.mode nothing s) r.0 (Some p)) seen looked.reading,
                subst (λ (s : ProbeStep). left_of (goes_as Get b.mode nothing s) < left_of (Searching (Reading at))) seen looked.fewer,
              )

          -- the word that was loaded named it
          word_met : HasMet (setting_for eq hash b matches fed_to log') (coding_for hash b.hasher fed_to) begun comparing.0.since None at word p
          word_met =
              let stage = comparing.0.relies.stage in
              let one : stage.0 ≡ p = let same = sym stage.1 ∙ sym comparing.0.holds_pair.0 in cc same in
              subst (HasMet (setting_for eq hash b matches fed_to log') (coding_for hash b.hasher fed_to) begun comparing.0.since None at word) one stage.2

          -- its key was compared
          module _ (same : Bool) (same_is : same ≡ matches (key_of p)) where
            compared : Reads log' (goes_as Get b.mode nothing (at_yes (Comparing at word) same)) r.0 (Some p)
                × (left_of (goes_as Get b.mode nothing (at_yes (Comparing at word) same)) < left_of (Searching (Reading at)))
            compared =
                let all = same_read eq input build write finish classes respects b matches query lawful begun log'
                (lookup_at h b.mode b.limit (Searching (Comparing at word))) (Some r.0) (Some p) comparing.0 within (pair_of word) p same refl same_is refl in
                let before : left_of (Searching (Comparing at word)) < left_of (Searching (Reading at)) = comparing.1 in
                let less : left_of (goes_as Get b.mode nothing (at_yes (Comparing at word) same)) < left_of (Searching (Comparing at word)) = all.fewer in
                (all.reading, omega (arith, before, less))

            pub other_pair : IsProbed (at_yes (Comparing at word) same) → ((a' : Place) (w' : ℕ) → at_yes (Comparing at word) same ≡ Here a' w' → ⊥)
                → Goes log' (Searching (Reading at)) table (hit_of (at_yes (Comparing at word) same))
            other_pair seen none = goes_on log' (Searching (Reading at)) table r.0 r.1 (Some p) (at_yes (Comparing at word) same) seen
                (onward_yes at word same none) compared.0 compared.1

            abbrev met : Met K V
            met = record { place = at; word = word; stored = p }

            pub pair_found : (a' : Place) (w' : ℕ) → at_yes (Comparing at word) same ≡ Here a' w' → (entry : Bor K × Bor V) → entry.0.now ≡ key_of p
                → entry.1.now ≡ p.value.value → IsNextStage eq hash b name matches fed_to begun h log' table (turns.Found met entry)
            pair_found a' w' here entry key_is value_is = record {
              lent = r.0;
              lent_is = r.1;
              pair = Some p;
              number = pair_of w';
              reading = subst (λ (s : ProbeStep). Reads log' (goes_as Get b.mode nothing s) r.0 (Some p)) here compared.0;
              within = λ z e'. absurd (cc e');
              found = λ met' entry' e'.
                  let one : met ≡ met' = cc e' in
                  let two : entry ≡ entry' = cc e' in
                  subst (λ (z : Met K V × (Bor K × Bor V)). (Some p ≡ Some z.0.stored) × (z.1.0.now ≡ key_of z.0.stored)
                  × (z.1.1.now ≡ z.0.stored.value.value) × HasHit eq hash b name matches fed_to begun log' table z.0) (λ i. (one i, two i)) (
                    refl,
                    key_is,
                    value_is,
                    record {
                      lawful = comparing.0.lawful;
                      since = comparing.0.since;
                      is = comparing.0.is;
                      met = word_met;
                      same = sym same_is ∙ here_same at a' word w' same here;
                      within = within;
                      holds = subst (IsTable log' at.table) r.1 comparing.0.holds_table;
                      placed = pair_placed;
                    },
                  );
            }

module _ {K V S H : Type 0} (eq : K → K → Bool) (input : K → List (List ℕ)) (build : S → H) (write : H → List ℕ → H) (finish : H → ℕ)
    (classes : IsEquivalence eq) (respects : (x y : K) → eq x y ≡ true → input x ≡ input y)
    (book : Book K V S H) (matches : K → Bool) (query : List (List ℕ)) (lawful : IsQuery eq input matches query) (old began : List (Event K V S))
    (pre : IsPrefix old began) (h : ℕ) where
  abbrev hash_in : S → K → ℕ
  hash_in = hash_of input build write finish

  abbrev b : Begun K V S
  b = begun_of book.parts

  abbrev Reads_with : List (Event K V S) → Stage → Option (Bor Sheet) → Option (Stored K V) → Type 0
  Reads_with log stage held pair = Rested eq input build write finish classes respects b matches query lawful (exchanges_of began) log
      (lookup_at h b.mode b.limit stage) held pair

  abbrev pub Turned : List (Event K V S) → Sheet → ProbeHit (Met K V) (Bor K × Bor V) → Type 0
  Turned log table turn = IsNextStage eq hash_in b book.begun.book matches (fed eq input build write finish classes respects b matches query lawful)
      (exchanges_of began) h log table turn

  -- the number of the root was loaded
  pub root_held : IsLawfulLog eq hash_in b began → h ≡ fed eq input build write finish classes respects b matches query lawful
      → (log : List (Event K V S)) → IsPrefix began log → (word : ℕ) (held : Option (Bor Sheet)) → IsRoot eq hash_in b book.begun.book word log held
      → Reads_with log (numbered word) held None
  root_held l h_is log after word held told =
      let first = begins eq hash_in b matches (fed eq input build write finish classes respects b matches query lawful) began l
      (lookup_at h b.mode b.limit AtRoot) (ap (λ (z : ℕ). started Get z b.mode 0 b.limit) h_is) in
      (root_read eq input build write finish classes respects b matches query lawful (exchanges_of began) began log after told.lawful
      (lookup_at h b.mode b.limit AtRoot) None None first tt book.begun.book word held refl told).reading

  -- the size of a table that is held was requested
  pub first_looked : (log : List (Event K V S)) (number : ℕ) (held : Option (Bor Sheet)) (pair : Option (Stored K V))
      → Reads_with log (numbered number) held pair → MatchOption held (number ≡ 0) (λ z. IsTable log number z.now × (z.now.book ≡ book.begun.book))
      → (lent : Bor Sheet) → held ≡ Some lent
      → (slots limit : ℕ) → slots ≡ length lent.now.slots → limit ≡ lent.now.limit → IsSize slots limit → (at : Place) → at ≡ first_place h number slots limit
      → IsReadingAt eq hash_in b matches (fed eq input build write finish classes respects b matches query lawful) (exchanges_of began) h log
      (Searching (Looking at)) lent.now × (left_of (Searching (Looking at)) < left_of (numbered number))
  first_looked log number held pair reading named lent has slots limit slots_is limit_is size at at_is =
      let came = subst (λ (o : Option (Bor Sheet)). MatchOption o (number ≡ 0) (λ z. IsTable log number z.now × (z.now.book ≡ book.begun.book))) has named in
      let state = numbered_some log number lent.now came.0 in
      let r = subst (λ (s : Stage). Reads_with log s (Some lent) pair) state
      (subst (λ (o : Option (Bor Sheet)). Reads_with log (numbered number) o pair) has reading) in
      let all = size_read eq input build write finish classes respects b matches query lawful (exchanges_of began) log
      (lookup_at h b.mode b.limit (Searching (Sizing number))) (Some lent) pair r tt number lent.now came.0 slots limit slots_is limit_is size refl in
      let looks : Reads_with log (Searching (Looking at)) (Some lent)
      pair = subst (λ (p : Place). Reads_with log (Searching (Looking p)) (Some lent) pair) (sym at_is) all.reading in
      let less : left_of (Searching (Looking at)) < left_of
      (Searching (Sizing number)) = subst (λ (p : Place). left_of (Searching (Looking p)) < left_of (Searching (Sizing number))) (sym at_is) all.fewer in
      ((lent, refl, pair, looks), subst (λ (s : Stage). left_of (Searching (Looking at)) < left_of s) (sym state) less)

  -- a search that passed the table: the number of the next one was loaded
  pub next_held : (log log' : List (Event K V S)) → IsPrefix log log' → (table : Sheet) (t : ℕ) (chunk : ℕ) → book.parts.mode ≡ Incremental chunk
      → Turned log table (turns.Over t) → (word : ℕ) (held : Option (Bor Sheet)) → IsNext eq hash_in b book.begun.book t word log' held
      → (pair : Option (Stored K V)) × Reads_with log' (numbered word) held pair
      × (left_of (numbered word) < left_of (next_stage {M = Met K V} {E = Bor K × Bor V} b.mode 0 (turns.Over t)))
  next_held log log' after table t chunk mode turned word held told =
      let leads : passes Get b.mode None t ≡ Leaving t = ap (λ (z : ResizeMode). passes Get z None t) mode in
      let r : Reads_with log (Leaving t) (Some turned.lent) turned.pair = subst (λ (s : Stage). Reads_with log s (Some turned.lent) turned.pair) leads
      turned.reading in
      let all = next_read eq input build write finish classes respects b matches query lawful (exchanges_of began) log log' after told.lawful
      (lookup_at h b.mode b.limit (Leaving t)) (Some turned.lent) turned.pair r tt book.begun.book t word held refl told in
      (turned.pair, all.reading, subst (λ (s : Stage). left_of (numbered word) < left_of s) (sym leads) all.fewer)

  -- the lookup returns the pair that was found
  pub answers_found : (log : List (Event K V S)) (table : Sheet) (met : Met K V) (entry : Bor K × Bor V) → Turned log table (turns.Found met entry)
      → (lent : Bor Sheet) → IsHitAnsweredBetween {S = S} {H = H} eq matches (history_of old) (history_of log)
      (Some (record { table = lent; met = met; key = entry.0; value = entry.1 }))
  answers_found log table met entry turned lent =
      let f = turned.found met entry refl in
      found_answer eq input build write finish classes respects b matches query lawful old began pre log
      (lookup_at h b.mode b.limit (Ended (replies.Found turned.number))) (Some turned.lent) turned.pair turned.reading tt turned.number refl
      met.stored f.0 (record { table = lent; met = met; key = entry.0; value = entry.1 }) f.1 f.2

  absent : (log : List (Event K V S)) (held : Option (Bor Sheet)) (pair : Option (Stored K V)) → Reads_with log (Ended replies.Absent) held pair
      → IsHitAnsweredBetween {S = S} {H = H} eq matches (history_of old) (history_of log) None
  absent log held pair r = absent_answer eq input build write finish classes respects b matches query lawful old began pre log
      (lookup_at h b.mode b.limit (Ended replies.Absent)) held pair r tt replies.Absent refl (λ n e. cc e)

  -- none, if a search ended so
  pub answers_absent : (log : List (Event K V S)) (table : Sheet) → Turned log table turns.Absent
      → IsHitAnsweredBetween {S = S} {H = H} eq matches (history_of old) (history_of log) None
  answers_absent log table turned = absent log (Some turned.lent) turned.pair turned.reading

  -- or if it passed the table and no further one is searched
  pub answers_passed : (log : List (Event K V S)) (table : Sheet) (t : ℕ) → book.parts.mode ≡ Blocking → Turned log table (turns.Over t)
      → IsHitAnsweredBetween {S = S} {H = H} eq matches (history_of old) (history_of log) None
  answers_passed log table t mode turned = absent log (Some turned.lent) turned.pair
      (subst (λ (s : Stage). Reads_with log s (Some turned.lent) turned.pair) (ap (λ (z : ResizeMode). passes Get z None t) mode) turned.reading)

  -- or if there is no table
  pub answers_none : (log : List (Event K V S)) (number : ℕ) (held : Option (Bor Sheet)) (pair : Option (Stored K V))
      → Reads_with log (numbered number) held pair → MatchOption held (number ≡ 0) (λ z. IsTable log number z.now × (z.now.book ≡ book.begun.book))
      → held ≡ None → IsHitAnsweredBetween {S = S} {H = H} eq matches (history_of old) (history_of log) None
  answers_none log number held pair reading named none =
      let zero = subst (λ (o : Option (Bor Sheet)). MatchOption o (number ≡ 0) (λ z. IsTable log number z.now × (z.now.book ≡ book.begun.book))) none named in
      absent log held pair (subst (λ (s : Stage). Reads_with log s held pair) (numbered_none number zero) reading)

-- a search that neither continues, nor found a pair, nor passed the table
pub absent_else : {M E : Type 0} (turn : ProbeHit M E) → ((at : Place) → turn ≡ turns.Next at → ⊥)
    → ((met : M) (entry : E) → turn ≡ turns.Found met entry → ⊥) → ((t : ℕ) → turn ≡ turns.Over t → ⊥) → turn ≡ turns.Absent
absent_else (turns.Next at) on found over = absurd (on at refl)
absent_else (turns.Found met entry) on found over = absurd (found met entry refl)
absent_else turns.Absent on found over = refl
absent_else (turns.Over t) on found over = absurd (over t refl)
