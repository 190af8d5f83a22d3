-- After each answer a lookup again relies on facts that hold, holds the table and the pair that it
-- loaded last, and has fewer steps left.
use Rattle.std.proofs.Common.{◌≡◌, ⊎_elim, ℕ, ◌^◌, ◌<◌, ◌≤◌, Bool, true, MatchOption, Option, None}
use Rattle.std.proofs.Common.{Some, List, [], append-nil, refl, sym, ap, ◌∙◌, subst, arith}
use Rattle.std.specs.Cmp.{IsEquivalence}
use mathlib.Core.List.{IsPrefix}
use denote.Bor.{Bor}
use Rattle.boxcar.specs.Table.{Where}
use Rattle.logbook.specs.Pages.{Book}
use Rattle.papaya_words.specs.declared.resize_mode.ResizeMode.{ResizeMode}
use Rattle.papaya_words.specs.declared.resize_mode.ResizeMode.TheVariants.{Incremental, Blocking}
use Rattle.papaya_call.specs.declared.ask.Answer.{Answer}
use Rattle.papaya_call.specs.declared.ask.Answer.TheVariants.{Word}
use Rattle.papaya_call.specs.declared.ask.Ask.{Ask}
use Rattle.papaya_call.specs.declared.ask.Ask.TheVariants.{Load, LoadHint}
use Rattle.papaya_call.specs.declared.ask.At.{At}
use Rattle.papaya_call.specs.declared.ask.At.TheVariants.{Root, Next, Slot}
use Rattle.papaya_call.specs.declared.call.Task.{Task}
use Rattle.papaya_call.specs.declared.call.Task.TheVariants.{Get}
use Rattle.papaya_call.specs.declared.machine.Machine.{Machine}
use Rattle.papaya_words_law.specs.Exchange.{Exchange}
use Rattle.papaya_words_law.specs.Hints.{IsHint}
use Rattle.papaya_words_law.specs.Invariant.{named}
use Rattle.papaya_call.specs.Machine.{IsValidState, after, ask_of, kind_of_ask, started}
use Rattle.papaya_call_law.specs.Relies.{IsModeOf}
use Rattle.papaya_call_law.specs.TrueAnswers.{IsTrueOf, LoadedPairs, nothing_loaded, or_last, told_of}
use Rattle.papaya_call_law.proofs.FurtherWords.{key_word}
use Rattle.papaya_call_law.proofs.ReliesLearnPairs.{wanted_relies}
use Rattle.papaya_words_law.proofs.OneMap.{sound}
use Rattle.papaya_map_book.specs.Sheets.{Sheet}
use Rattle.papaya_map_book.specs.declared.rule.entry.Begun.{Begun}
use Rattle.papaya_map_book.specs.declared.rule.entry.Event.{Event}
use Rattle.papaya_map_book.specs.declared.rule.entry.Named.TheVariants as names
use Rattle.papaya_map_book.specs.Calls.{IsNext, IsRoot, IsTable}
use Rattle.papaya_map_book.specs.Hashes.{hash_of}
use Rattle.papaya_map_book.specs.Hinted.{IsSlotHint}
use Rattle.papaya_map_book.specs.Logs.{Stored, coding_of, exchanges_of, is_blocking, setting_of, state_of, steps_of}
use Rattle.papaya_map_lookup.specs.Lookups.{HoldsPair, HoldsTable, IsReading, coding_for, left_of, setting_for, table_of}
use Rattle.papaya_map_book.specs.Rule.{IsLawfulLog, word_in}
use Rattle.papaya_map_book.proofs.Loaded.{table_since}
use Rattle.papaya_map_book.proofs.Logs.{came_entered, table_came}
use Rattle.papaya_map_lookup.proofs.Lookups.{IsStepIn, IsStepTo, hint_step, lookup, next_step, root_step, slot_step}
use Rattle.papaya_map_lookup.proofs.Readings.{IsQuery, ReliesOn, coding, fed, hint_with, learned, later, setting}
use Rattle.papaya_map_book.proofs.Settings.{is_hashed}

-- a machine of a lookup
pub of_get : (m : Machine) → m.task ≡ Get → m ≡ lookup m.hash m.initial m.mode m.made m.remembered m.state
of_get m e = ap (λ (t : Task). record m { task = t }) e

module _ {K V S : Type 0} where
  -- the table that is held is still held, over a longer log, if no other one is named
  pub held_on : (log log' : List (Event K V S)) → IsPrefix log log' → (t : ℕ) (o : Option ℕ) → ((v : ℕ) → o ≡ Some v → t ≡ v)
      → (table : Option (Bor Sheet)) → HoldsTable log (Some t) table → HoldsTable log' o table
  held_on log log' pre t None only table h = tt
  held_on log log' pre t (Some v) only None h = h
  held_on log log' pre t (Some v) only (Some r) h = subst (λ z. IsTable log' z r.now) (only v refl) (table_since log log' t r.now pre h)

  -- the table that is named is the one that came with the number that was loaded
  pub held_new : (log' : List (Event K V S)) (n : ℕ) (name : Book) (table : Option (Bor Sheet))
      → MatchOption table (n ≡ 0) (λ r. IsTable log' n r.now × (r.now.book ≡ name)) → (o : Option ℕ) → ((v : ℕ) → o ≡ Some v → (n ≡ v) × (n ≡ 0 → ⊥))
      → HoldsTable log' o table
  held_new log' n name table h None only = tt
  held_new log' n name None h (Some v) only = (only v refl).1 h
  held_new log' n name (Some r) h (Some v) only = subst (λ z. IsTable log' z r.now) (only v refl).0 h.0

module _ {K V S H : Type 0} (eq : K → K → Bool) (input : K → List (List ℕ)) (build : S → H) (write : H → List ℕ → H) (finish : H → ℕ)
    (classes : IsEquivalence eq) (respects : (x y : K) → eq x y ≡ true → input x ≡ input y)
    (b : Begun K V S) (matches : K → Bool) (query : List (List ℕ)) (lawful : IsQuery eq input matches query) (begun : List (Exchange (Stored K V))) where
  abbrev hash : S → K → ℕ
  hash = hash_of input build write finish

  abbrev pub Rested : List (Event K V S) → Machine → Option (Bor Sheet) → Option (Stored K V) → Type 0
  Rested log m table pair = IsReading eq hash b matches (fed eq input build write finish classes respects b matches query lawful) begun log m table pair

  abbrev On : List (Event K V S) → Machine → LoadedPairs (Stored K V) → Type 0
  On log m loaded = ReliesOn eq input build write finish classes respects b matches query lawful begun log m loaded

  -- the facts that a reading relies on
  relies_on : (log : List (Event K V S)) (m : Machine) (table : Option (Bor Sheet)) (pair : Option (Stored K V)) → (r : Rested log m table pair)
      → On log m r.loaded
  relies_on log m table pair r = record { since = r.since; is = r.is; relies = r.relies }

  -- a right answer, after which the lookup continues with less left
  pub record IsGoing (log' : List (Event K V S)) (m : Machine) (answer : Answer) (table : Option (Bor Sheet)) (pair : Option (Stored K V)) : Type 0 where
    pub reading : Rested log' (after m answer) table pair
    pub fewer : left_of (after m answer).state < left_of m.state

  module _ (log log' : List (Event K V S)) (pre : IsPrefix log log') (l' : IsLawfulLog eq hash b log') (m : Machine) (table : Option (Bor Sheet))
      (pair : Option (Stored K V)) (r : Rested log m table pair) (stands : IsValidState Get m.state) where
    -- the word at a place was loaded
    as_loaded : (at : At) (word : ℕ) → ask_of m ≡ Load at → word_in eq hash b log' at ≡ word
        → On log' (after m (Word word)) (told_of (state_of log') at r.loaded)
    as_loaded at word asks is =
        let f = fed eq input build write finish classes respects b matches query lawful in
        let read = key_word (setting_of eq (hash b.hasher) b.mode b.limit log') matches f (coding_of (hash b.hasher)) (state_of log') at ∙ is in
        let on = later eq input build write finish classes respects b matches query lawful begun log r.lawful m r.loaded
        (relies_on log m table pair r) log' l' pre in record {
          since = on.since;
          is = on.is;
          relies = learned eq input build write finish classes respects b matches query lawful begun log' l' m r.loaded on
              (Word word) (told_of (state_of log') at r.loaded)
              (subst (λ (a : Ask). IsTrueOf (setting eq input build write finish classes respects b matches query lawful log')
              (coding eq input build write finish classes respects b matches query lawful) None (state_of log') (kind_of_ask m) r.loaded a
              (Word word) [] (told_of (state_of log') at r.loaded)) (sym asks) (ap Word (sym read), refl, refl));
        }

    -- a slot
    pub slot_read : (t x word : ℕ) (stored : Option (Stored K V)) (pair' : Option (Stored K V)) → ask_of m ≡ Load (Slot t x)
        → word_in eq hash b log' (Slot t x) ≡ word → named ((state_of log').slot t x) ≡ stored
        → ((last : Option (Stored K V)) → HoldsPair b last pair → HoldsPair b (or_last stored last) pair') → IsGoing log' m (Word word) table pair'
    slot_read t x word stored pair' asks is names holds =
        let on = as_loaded (Slot t x) word asks is in
        let all = slot_step m.hash m.initial m.mode m.made m.remembered m.state (stands) t x word asks in
        let get = of_get m r.task_is in
        let to : (after m (Word word)).state ≡ (after (lookup m.hash m.initial m.mode m.made m.remembered m.state) (Word word)).state = ap
        (λ (z : Machine). (after z (Word word)).state) get in
        let step : IsStepIn t m.state (after m (Word word)).state = subst (IsStepIn t m.state) (sym to) all.0 in record {
          reading = record {
            lawful = l';
            since = on.since;
            is = on.is;
            loaded = told_of (state_of log') (Slot t x) r.loaded;
            task_is = r.task_is;
            relies = on.relies;
            holds_table = held_on log log' pre t (table_of (after m (Word word)).state) step.table table
                (subst (λ o. HoldsTable log o table) step.names r.holds_table);
            holds_pair = subst (λ o. HoldsPair b (or_last o r.loaded.last) pair') (sym names) (holds r.loaded.last r.holds_pair);
            found = λ n e. absurd (all.1 n (sym to ∙ e));
          };
          fewer = step.fewer;
        }

    -- a hint
    pub hint_read : (t x n : ℕ) → ask_of m ≡ LoadHint t x → IsSlotHint eq hash b t x n log' → IsGoing log' m (Word n) table pair
    hint_read t x n asks told =
        let f = fed eq input build write finish classes respects b matches query lawful in
        let g = setting eq input build write finish classes respects b matches query lawful log' in
        let c = coding eq input build write finish classes respects b matches query lawful in
        let hint : IsHint g c (state_of log') t x n = hint_with (setting_of eq (hash b.hasher) b.mode b.limit log') (coding_of (hash b.hasher))
        matches f ((state_of log').slot t x) n told.is in
        let on = later eq input build write finish classes respects b matches query lawful begun log r.lawful m r.loaded
        (relies_on log m table pair r) log' l' pre in
        let all = hint_step m.hash m.initial m.mode m.made m.remembered m.state (stands) t x n asks in
        let get = of_get m r.task_is in
        let to : (after m (Word n)).state ≡ (after (lookup m.hash m.initial m.mode m.made m.remembered m.state) (Word n)).state = ap
        (λ (z : Machine). (after z (Word n)).state) get in
        let step : IsStepIn t m.state (after m (Word n)).state = subst (IsStepIn t m.state) (sym to) all.0 in record {
          reading = record {
            lawful = l';
            since = on.since;
            is = on.is;
            loaded = r.loaded;
            task_is = r.task_is;
            relies = learned eq input build write finish classes respects b matches query lawful begun log' l' m r.loaded on (Word n) r.loaded
                (subst (λ (a : Ask). IsTrueOf g c None (state_of log') (kind_of_ask m) r.loaded a (Word n) [] r.loaded) (sym asks)
                ((n, hint, refl), (refl, refl)));
            holds_table = held_on log log' pre t (table_of (after m (Word n)).state) step.table table
                (subst (λ o. HoldsTable log o table) step.names r.holds_table);
            holds_pair = r.holds_pair;
            found = λ j e. absurd (all.1 j (sym to ∙ e));
          };
          fewer = step.fewer;
        }

    -- the root
    pub root_read : (name : Book) (word : ℕ) (table' : Option (Bor Sheet)) → ask_of m ≡ Load Root → IsRoot eq hash b name word log' table'
        → IsGoing log' m (Word word) table' pair
    root_read name word table' asks is =
        let on = as_loaded Root word asks is.is in
        let all = root_step m.hash m.initial m.mode m.made m.remembered m.state (stands) word asks in
        let get = of_get m r.task_is in
        let to : (after m (Word word)).state ≡ (after (lookup m.hash m.initial m.mode m.made m.remembered m.state) (Word word)).state = ap
        (λ (z : Machine). (after z (Word word)).state) get in
        let step : IsStepTo word m.state (after m (Word word)).state = subst (IsStepTo word m.state) (sym to) all in record {
          reading = record {
            lawful = l';
            since = on.since;
            is = on.is;
            loaded = r.loaded;
            task_is = r.task_is;
            relies = on.relies;
            holds_table = held_new log' word name table' is.names (table_of (after m (Word word)).state) step.table;
            holds_pair = r.holds_pair;
            found = λ n e. absurd (step.unfound n e);
          };
          fewer = step.fewer;
        }

    -- a table's number is no more than a table's may be
    fits : (n : ℕ) (name : Book) (table' : Option (Bor Sheet)) → MatchOption table' (n ≡ 0) (λ r. IsTable log' n r.now × (r.now.book ≡ name))
        → (n ≡ 0 → ⊥) → n ≤ 2 ^ 32
    fits n name None h some = absurd (some h)
    fits n name (Some t) h some =
        let w : Where Sheet = h.0.0 in
        let by = table_came (steps_of log') n w h.0.1 in
        let placed = l'.placed (names.Table w) (came_entered (names.Table w) log' by.0) in
        let lt = placed.1 in let e = by.1 in omega arith

    -- the next table
    pub next_read : (name : Book) (t word : ℕ) (table' : Option (Bor Sheet)) → ask_of m ≡ Load (Next t) → IsNext eq hash b name t word log' table'
        → IsGoing log' m (Word word) table' pair
    next_read name t word table' asks is =
        let on = as_loaded (Next t) word asks is.is in
        let hashed = is_hashed eq input build write finish classes respects b log' l' in
        let rises = (sound (setting_of eq (hash b.hasher) b.mode b.limit log') hashed.lawful (exchanges_of log') l'.allowed).rises t in
        let up : (word ≡ 0 → ⊥) → t < word = λ some. ⊎_elim (λ z. absurd (some (sym is.is ∙ z))) (λ h. subst (λ y. t < y) is.is h.1) rises in
        let all = next_step m.hash m.initial m.mode m.made m.remembered m.state (stands) t word (λ some. (up some, fits word name table' is.names some)) asks in
        let get = of_get m r.task_is in
        let to : (after m (Word word)).state ≡ (after (lookup m.hash m.initial m.mode m.made m.remembered m.state) (Word word)).state = ap
        (λ (z : Machine). (after z (Word word)).state) get in
        let step : IsStepTo word m.state (after m (Word word)).state = subst (IsStepTo word m.state) (sym to) all.1 in record {
          reading = record {
            lawful = l';
            since = on.since;
            is = on.is;
            loaded = r.loaded;
            task_is = r.task_is;
            relies = on.relies;
            holds_table = held_new log' word name table' is.names (table_of (after m (Word word)).state) step.table;
            holds_pair = r.holds_pair;
            found = λ n e. absurd (step.unfound n e);
          };
          fewer = step.fewer;
        }

-- the map resizes as its setting states
mode_of : (mode : ResizeMode) → IsModeOf mode (is_blocking mode)
mode_of (Incremental chunk) = refl
mode_of Blocking = refl

-- a lookup that begins
pub begins : {K V S : Type 0} (eq : K → K → Bool) (hash : S → K → ℕ) (b : Begun K V S) (matches : K → Bool) (fed : ℕ) (log : List (Event K V S))
    → IsLawfulLog eq hash b log → (m : Machine) → m ≡ started Get fed b.mode 0 b.limit
    → IsReading eq hash b matches fed (exchanges_of log) log m None None
begins eq hash b matches fed log l m e =
    subst (λ (z : Machine). IsReading eq hash b matches fed (exchanges_of log) log z None None) (sym e) (record {
      lawful = l;
      since = [];
      is = append-nil (exchanges_of log);
      loaded = nothing_loaded;
      task_is = refl;
      relies = record {
        hash = refl;
        mode = mode_of b.mode;
        made = record {
          keys = λ q none. absurd none;
          limit = refl;
          number_is = wanted_relies (setting_for eq hash b matches fed log)
              (coding_for hash b.hasher fed) (exchanges_of log) [] None b.limit;
          own_is = tt;
          of_is = tt;
          fill_is = tt;
          choice_is = tt;
        };
        stage = tt;
      };
      holds_table = tt;
      holds_pair = (refl, tt);
      found = λ n h. cc h;
    })
