-- The machine of a lookup whose asks are answered by the words of the tables.
use Rattle.std.proofs.Common.{◌≡◌, ℕ, ◌+◌, ◌*◌, ◌-◌, ◌^◌, ◌<◌, ◌≤◌, ◌==◌, nat_lt, Bool, true, false}
use Rattle.std.proofs.Common.{List, [], ◌∷◌, Option, Some, None, length, refl, sym, ◌∙◌, ap, subst}
use Rattle.std.proofs.Common.{arith, eq-eqb}
use Rattle.std.proofs.lemmas.Bool.{cond_both}
use Rattle.papaya_words.specs.Table.{TableWords}
use Rattle.papaya_words.specs.Word.{kind_of, may_hold, pair_of as number_of}
use Rattle.papaya_words.specs.declared.resize_mode.ResizeMode.{ResizeMode}
use Rattle.papaya_core_store.specs.declared.store.Mode.{Mode}
use Rattle.papaya_words.specs.declared.resize_mode.ResizeMode.TheVariants.{Incremental, Blocking}
use Rattle.papaya_words.specs.declared.word.Kind.{Kind}
use Rattle.papaya_words.specs.declared.word.Kind.TheVariants as word_kinds
use Rattle.papaya_call.specs.declared.ask.Answer.{Answer}
use Rattle.papaya_call.specs.declared.ask.Answer.TheVariants.{Word as Word_read, Yes, Size}
use Rattle.papaya_call.specs.declared.ask.Ask.TheVariants.{Done as Ask_done}
use Rattle.papaya_call.specs.declared.ask.At.{At}
use Rattle.papaya_call.specs.declared.ask.At.TheVariants.{Next, Slot}
use Rattle.papaya_call.specs.declared.call.Reply.{Reply}
use Rattle.papaya_call.specs.declared.call.Reply.TheVariants.{Absent, Found, Inserted, Replaced, Occupied, Removed, Kept, Aborted, Done, Refused}
use Rattle.papaya_call.specs.declared.call.Task.{Task}
use Rattle.papaya_call.specs.declared.call.Task.TheVariants.{Get}
use Rattle.papaya_call.specs.declared.compute.Remembered.{Remembered}
use Rattle.papaya_call.specs.declared.machine.Machine.{Machine}
use Rattle.papaya_call.specs.declared.machine.State.{State}
use Rattle.papaya_call.specs.declared.machine.State.TheVariants.{AtRoot, Making, Opening, Searching}
use Rattle.papaya_call.specs.declared.machine.State.TheVariants.{Writing, Offering, Showing}
use Rattle.papaya_call.specs.declared.machine.State.TheVariants.{Pairing, Putting, Burying}
use Rattle.papaya_call.specs.declared.machine.State.TheVariants.{Counting, Noting, Uncounting}
use Rattle.papaya_call.specs.declared.machine.State.TheVariants.{Leaving, Growing, Ended}
use Rattle.papaya_call.specs.declared.search.Place.{Place}
use Rattle.papaya_call.specs.declared.search.Search.TheVariants.{Sizing, Looking, Reading, Comparing}
use Rattle.papaya_call.specs.declared.search.ProbeStep.{ProbeStep}
use Rattle.papaya_call.specs.declared.search.ProbeStep.TheVariants as seen
use Rattle.papaya_call.specs.declared.made.Made.{Made}
use Rattle.papaya_call.specs.declared.made.Number.{Number}
use Rattle.papaya_call.specs.declared.made.Number.TheVariants.{Wanted, Free, Taken}
use Rattle.papaya_call_law.specs.Alone.{HasMetNone, IsCurrent, IsNumberRead, IsPrompt, IsRead, IsSeeker, IsUnmatched, left_in}
use Rattle.papaya_call.specs.Machine.{started, after, ask_of, asks, at_root, passes, goes_as}
use Rattle.papaya_call_law.proofs.AloneCurrent.{machine_stable}
use Rattle.papaya_call_law.proofs.AloneSteps.{machine_nears}
use Rattle.papaya_call_law.proofs.AloneUnmatched.{machine_meets_none}
use Rattle.papaya_call.specs.Search.{IsSize, next_place, go_on, hinted, look_at, look, match_at, at_yes as search_compared}
use Rattle.papaya_call_law.proofs.Tasks.{same_task}
use Rattle.papaya_core_store.specs.Performs.{size_of}
use Rattle.papaya_core_store.specs.Store.{StoreState, Stored, pair_of}
use Rattle.papaya_core_store.specs.Tables.{hint_at, table_of, word_at}
use Rattle.papaya_seq.specs.Looks.{IsTrueOfStore, Replies, matches_in}
use Rattle.papaya_core_timeline.specs.Kept.{IsLawfulCore}
use Rattle.papaya_core_timeline.proofs.KeptSettings.{IsLawfulKeys}
use Rattle.papaya_core_timeline.proofs.KeptTables.{table_low}
use Rattle.papaya_seq.proofs.Numbered.{begun_number}
use Rattle.papaya_seq.proofs.Lawful.{MatchesNone, core_bare, core_next_rises, core_next_there, core_root_there}

-- the reply of a lookup
abbrev pub IsLookReply : Reply → Type 0
IsLookReply Absent = Unit {0}
IsLookReply (Found n) = Unit {0}
IsLookReply (Inserted n) = ⊥
IsLookReply (Replaced o n) = ⊥
IsLookReply (Occupied n) = ⊥
IsLookReply (Removed n) = ⊥
IsLookReply (Kept n) = ⊥
IsLookReply (Aborted t) = ⊥
IsLookReply Done = ⊥
IsLookReply (Refused refused) = ⊥

-- a number that was tested not to be 0
some_number : (n : ℕ) → (n == 0) ≡ false → n ≡ 0 → ⊥
some_number n some zero = let f : true ≡ false = sym (eq-eqb n 0 zero) ∙ some in cc

-- a search of table t with this result asks for no table's size next, and stays in the table
abbrev SeesPlace : ℕ → ProbeStep → Type 0
SeesPlace t (seen.On (Sizing u)) = ⊥
SeesPlace t (seen.On (Looking at)) = at.table ≡ t
SeesPlace t (seen.On (Reading at)) = at.table ≡ t
SeesPlace t (seen.On (Comparing at word)) = at.table ≡ t
SeesPlace t (seen.Empty at) = Unit {0}
SeesPlace t (seen.Here at word) = Unit {0}
SeesPlace t (seen.Over u) = u ≡ t

go_on_place : (at : Place) → SeesPlace at.table (go_on at)
go_on_place at = cond_both (nat_lt at.probe.len at.limit) (seen.On (Looking (next_place at))) (seen.Over at.table) (SeesPlace at.table) (λ _. refl) (λ _. refl)

hinted_place : (at : Place) (hash hint : ℕ) → SeesPlace at.table (hinted at hash hint)
hinted_place at hash hint = cond_both (may_hold hint hash) (seen.On (Reading at)) (go_on at) (SeesPlace at.table) (λ _. refl) (λ _. go_on_place at)

look_place : (kind : Kind) (at : Place) (word : ℕ) → SeesPlace at.table (look_at kind at word)
look_place word_kinds.Empty at word = tt
look_place word_kinds.Live at word = refl
look_place word_kinds.Marked at word = refl
look_place word_kinds.Copied at word = refl
look_place word_kinds.Buried at word = go_on_place at
look_place word_kinds.Closed at word = go_on_place at

match_place : (kind : Kind) (at : Place) (word : ℕ) → SeesPlace at.table (match_at kind at word)
match_place word_kinds.Empty at word = tt
match_place word_kinds.Live at word = tt
match_place word_kinds.Marked at word = tt
match_place word_kinds.Copied at word = refl
match_place word_kinds.Buried at word = tt
match_place word_kinds.Closed at word = tt

compared_place : (at : Place) (word : ℕ) (same : Bool) → SeesPlace at.table (search_compared (Comparing at word) same)
compared_place at word true = match_place (kind_of word) at word
compared_place at word false = go_on_place at

-- How many tables a lookup may still enter, given the number of tables: those after the one that it
-- searches or leaves, since a next table's number is greater.
abbrev tables_ahead : ℕ → State → ℕ
tables_ahead tables AtRoot = tables
tables_ahead tables (Searching (Sizing t)) = tables - t
tables_ahead tables (Searching (Looking at)) = tables - at.table
tables_ahead tables (Searching (Reading at)) = tables - at.table
tables_ahead tables (Searching (Comparing at word)) = tables - at.table
tables_ahead tables (Leaving t) = tables - t
tables_ahead tables _ = 0

-- the steps that are left to a lookup, at most, given the number of tables
abbrev pub lookup_left : ℕ → Machine → ℕ
lookup_left tables m = 2 ^ 41 * tables_ahead tables m.state + left_in m.made m.state

module _ (tables : ℕ) where
  -- past its table a lookup has no more tables ahead
  passes_ahead : (mode : ResizeMode) (fill : Option ℕ) (t : ℕ) → tables_ahead tables (passes Get mode fill t) ≤ tables - t
  passes_ahead (Incremental chunk) fill t = omega arith
  passes_ahead Blocking fill t = omega arith

  -- a search stays in its table until it is over
  goes_ahead : (mode : ResizeMode) (held : Remembered) (t : ℕ) (s : ProbeStep) → SeesPlace t s → tables_ahead tables (goes_as Get mode held s) ≤ tables - t
  goes_ahead mode held t (seen.On (Sizing u)) place = absurd place
  goes_ahead mode held t (seen.On (Looking at)) place = omega (arith, place)
  goes_ahead mode held t (seen.On (Reading at)) place = omega (arith, place)
  goes_ahead mode held t (seen.On (Comparing at word)) place = omega (arith, place)
  goes_ahead mode held t (seen.Here at word) place = omega arith
  goes_ahead mode held t (seen.Empty at) place = omega arith
  goes_ahead mode held t (seen.Over u) place = let a = passes_ahead mode held.fill u in omega (arith, place, a)

-- a step after which no more tables are ahead lowers the number of steps that are left
stays_ahead : {tables tables' steps steps' : ℕ} → tables' ≤ tables → steps' < steps → 2 ^ 41 * tables' + steps' < 2 ^ 41 * tables + steps
stays_ahead fewer nearer = omega (arith, fewer, nearer)

-- and so does one to a next table
enters : (tables t n : ℕ) → t < n → n ≤ tables → 2 ^ 41 * (tables - n) + 2 ^ 40 < 2 ^ 41 * (tables - t) + 8
enters tables t n up low = omega (arith, up, low)

module _ {K V S : Type 0} (store : StoreState K V S) where
  -- a lookup is in this state, and a table whose size it asks for is there
  abbrev pub IsLooking : State → Type 0
  IsLooking AtRoot = Unit {0}
  IsLooking (Searching (Sizing t)) = (table : TableWords) × (table_of store.words.tables t ≡ Some table)
  IsLooking (Searching (Looking at)) = Unit {0}
  IsLooking (Searching (Reading at)) = Unit {0}
  IsLooking (Searching (Comparing at word)) = Unit {0}
  IsLooking (Leaving t) = Unit {0}
  IsLooking (Ended reply) = IsLookReply reply
  IsLooking Making = ⊥
  IsLooking (Opening t) = ⊥
  IsLooking (Writing write) = ⊥
  IsLooking (Showing removal) = ⊥
  IsLooking (Offering gap) = ⊥
  IsLooking (Pairing purpose) = ⊥
  IsLooking (Putting put) = ⊥
  IsLooking (Burying removal) = ⊥
  IsLooking (Counting n) = ⊥
  IsLooking (Noting n) = ⊥
  IsLooking (Uncounting n) = ⊥
  IsLooking (Growing t) = ⊥

  passes_looking : (mode : ResizeMode) (fill : Option ℕ) (t : ℕ) → IsLooking (passes Get mode fill t)
  passes_looking (Incremental chunk) fill t = tt
  passes_looking Blocking fill t = tt

  -- the state after a search that asks for no table's size next
  goes_looking : (mode : ResizeMode) (held : Remembered) (t : ℕ) (s : ProbeStep) → SeesPlace t s → IsLooking (goes_as Get mode held s)
  goes_looking mode held t (seen.On (Sizing u)) place = absurd place
  goes_looking mode held t (seen.On (Looking at)) place = tt
  goes_looking mode held t (seen.On (Reading at)) place = tt
  goes_looking mode held t (seen.On (Comparing at word)) place = tt
  goes_looking mode held t (seen.Here at word) place = tt
  goes_looking mode held t (seen.Empty at) place = tt
  goes_looking mode held t (seen.Over u) place = passes_looking mode held.fill u

  -- a reply of a lookup
  pub look_replies : (made : Made) (hash : ℕ) (s : State) (reply : Reply) → IsLooking s → asks made hash s ≡ Ask_done reply → IsLookReply reply
  look_replies made hash AtRoot reply looking e = absurd cc
  look_replies made hash (Searching (Sizing t)) reply looking e = absurd cc
  look_replies made hash (Searching (Looking at)) reply looking e = absurd cc
  look_replies made hash (Searching (Reading at)) reply looking e = absurd cc
  look_replies made hash (Searching (Comparing at word)) reply looking e = absurd cc
  look_replies made hash (Leaving t) reply looking e = absurd cc
  look_replies made hash (Ended given) reply looking e = let is : given ≡ reply = cc in subst IsLookReply is looking
  look_replies made hash Making reply looking e = absurd looking
  look_replies made hash (Opening t) reply looking e = absurd looking
  look_replies made hash (Writing write) reply looking e = absurd looking
  look_replies made hash (Showing removal) reply looking e = absurd looking
  look_replies made hash (Offering gap) reply looking e = absurd looking
  look_replies made hash (Pairing purpose) reply looking e = absurd looking
  look_replies made hash (Putting put) reply looking e = absurd looking
  look_replies made hash (Burying removal) reply looking e = absurd looking
  look_replies made hash (Counting n) reply looking e = absurd looking
  look_replies made hash (Noting n) reply looking e = absurd looking
  look_replies made hash (Uncounting n) reply looking e = absurd looking
  look_replies made hash (Growing t) reply looking e = absurd looking

  module _ (matches : K → Bool) (root_there : (store.words.root ≡ 0 → ⊥) → (t : TableWords) × (table_of store.words.tables store.words.root ≡ Some t))
      (next_there : (t : ℕ) → (word_at store.words (Next t) ≡ 0 → ⊥) → (v : TableWords) × (table_of store.words.tables (word_at store.words (Next t)) ≡ Some v))
      (made : Made) (held : Remembered) (hash : ℕ) (mode : ResizeMode) (initial : ℕ) where
    -- the machine in this state
    abbrev at_state : State → Machine
    at_state s = record { task = Get; hash = hash; mode = mode; initial = initial; made = made; remembered = held; state = s }

    -- after each answer the lookup continues, or has replied
    looks_in : (s : State) (answer : Answer) → IsLooking s → IsTrueOfStore matches store (asks made hash s) answer → IsLooking (after (at_state s) answer).state
    looks_in AtRoot answer looking told =
        subst (λ a. IsLooking (after (at_state AtRoot) a).state) (sym told)
        (cond_both (store.words.root == 0) (Ended Absent) (Searching (Sizing store.words.root)) IsLooking (λ _. tt)
        (λ some. root_there (some_number store.words.root some)))
    looks_in (Searching (Sizing t)) answer (table, there) told =
        subst (λ a. IsLooking (after (at_state (Searching (Sizing t))) a).state) (sym (told ∙ ap size_of there)) tt
    looks_in (Searching (Looking at)) answer looking told =
        subst (λ a. IsLooking (after (at_state (Searching (Looking at))) a).state) (sym told)
        (goes_looking mode held at.table (hinted at hash (hint_at store.words at.table at.probe.i))
        (hinted_place at hash (hint_at store.words at.table at.probe.i)))
    looks_in (Searching (Reading at)) answer looking told =
        subst (λ a. IsLooking (after (at_state (Searching (Reading at))) a).state) (sym told)
        (goes_looking mode held at.table (look at (word_at store.words (Slot at.table at.probe.i)))
        (look_place (kind_of (word_at store.words (Slot at.table at.probe.i))) at (word_at store.words (Slot at.table at.probe.i))))
    looks_in (Searching (Comparing at word)) answer looking told =
        subst (λ a. IsLooking (after (at_state (Searching (Comparing at word))) a).state) (sym told)
        (goes_looking mode held at.table (search_compared (Comparing at word) (matches_in matches (pair_of store (number_of word))))
        (compared_place at word (matches_in matches (pair_of store (number_of word)))))
    looks_in (Leaving t) answer looking told =
        let word : ℕ = word_at store.words (Next t) in
        subst (λ a. IsLooking (after (at_state (Leaving t)) a).state) (sym told)
        (cond_both (word == 0) (Ended Absent) (Searching (Sizing word)) IsLooking (λ _. tt) (λ some. next_there t (some_number word some)))
    looks_in (Ended reply) answer looking told = absurd told
    looks_in Making answer looking told = absurd looking
    looks_in (Opening t) answer looking told = absurd looking
    looks_in (Writing write) answer looking told = absurd looking
    looks_in (Showing removal) answer looking told = absurd looking
    looks_in (Offering gap) answer looking told = absurd looking
    looks_in (Pairing purpose) answer looking told = absurd looking
    looks_in (Putting put) answer looking told = absurd looking
    looks_in (Burying removal) answer looking told = absurd looking
    looks_in (Counting n) answer looking told = absurd looking
    looks_in (Noting n) answer looking told = absurd looking
    looks_in (Uncounting n) answer looking told = absurd looking
    looks_in (Growing t) answer looking told = absurd looking

  -- the words, but that no table has a next one
  abbrev unlinked : At → ℕ
  unlinked (Next t) = 0
  unlinked at = word_at store.words at

  -- a count of numbers that was read is that of these words
  unlinked_number : (number : Number) → IsNumberRead (λ at. word_at store.words at) number → IsNumberRead unlinked number
  unlinked_number Wanted known = tt
  unlinked_number (Free count) known = known
  unlinked_number Taken known = tt

  module _ (matches : K → Bool) (sized : (n : ℕ) (t : TableWords) → table_of store.words.tables n ≡ Some t → IsSize (length t.slots) t.limit)
      (next_there : (t : ℕ) → (word_at store.words (Next t) ≡ 0 → ⊥) → (v : TableWords) × (table_of store.words.tables (word_at store.words (Next t)) ≡ Some v))
      (next_rises : (t : ℕ) → (word_at store.words (Next t) ≡ 0 → ⊥) → t < word_at store.words (Next t))
      (made : Made) (held : Remembered) (hash : ℕ) (mode : ResizeMode) (initial : ℕ) (known : IsNumberRead (λ at. word_at store.words at) made.number) where
    -- the machine in this state
    abbrev in_state : State → Machine
    in_state s = record { task = Get; hash = hash; mode = mode; initial = initial; made = made; remembered = held; state = s }

    -- an answer brings it nearer its end
    abbrev Lowers : State → Answer → Type 0
    Lowers s answer = lookup_left (length store.words.tables) (after (in_state s) answer) < lookup_left (length store.words.tables) (in_state s)

    -- the next table comes after the one that was left
    enters_lowers : (t : ℕ) → (word_at store.words (Next t) ≡ 0 → ⊥)
        → lookup_left (length store.words.tables) (in_state (Searching (Sizing (word_at store.words (Next t))))) < lookup_left
        (length store.words.tables) (in_state (Leaving t))
    enters_lowers t some =
        let (v, there) = next_there t some in
        enters (length store.words.tables) t (word_at store.words (Next t)) (next_rises t some)
        (table_low store.words.tables (word_at store.words (Next t)) v there)

    -- each answer does
    lowers_in : (s : State) (answer : Answer) → IsLooking s → IsRead (λ at. word_at store.words at) s
        → IsTrueOfStore matches store (asks made hash s) answer → Lowers s answer
    lowers_in AtRoot answer looking read told =
        let ahead : tables_ahead (length store.words.tables) (at_root Get held.fill store.words.root) ≤ length store.words.tables = cond_both
        (store.words.root == 0) (Ended Absent) (Searching (Sizing store.words.root))
        (λ s. tables_ahead (length store.words.tables) s ≤ length store.words.tables) (λ _. omega arith) (λ _. omega arith) in
        subst (Lowers AtRoot) (sym told) (stays_ahead ahead
        (machine_nears unlinked unlinked (in_state AtRoot) (Word_read store.words.root) (unlinked_number made.number known) tt (λ t. refl)
        (refl, λ at. refl)))
    lowers_in (Searching (Sizing t)) answer (table, there) read told =
        let ahead : length store.words.tables - t ≤ length store.words.tables - t = omega arith in
        subst (Lowers (Searching (Sizing t))) (sym (told ∙ ap size_of there))
        (stays_ahead ahead (machine_nears unlinked unlinked (in_state (Searching (Sizing t))) (Size (length table.slots) table.limit)
        (unlinked_number made.number known) tt (λ u. refl) ((length table.slots, table.limit, sized t table there, refl), λ at. refl)))
    lowers_in (Searching (Looking at)) answer looking read told =
        let hint : ℕ = hint_at store.words at.table at.probe.i in
        let ahead = goes_ahead (length store.words.tables) mode held at.table (hinted at hash hint) (hinted_place at hash hint) in
        subst (Lowers (Searching (Looking at))) (sym told)
        (stays_ahead ahead (machine_nears unlinked unlinked (in_state (Searching (Looking at))) (Word_read hint) (unlinked_number made.number known)
        tt (λ t. refl) ((hint, refl), λ at. refl)))
    lowers_in (Searching (Reading at)) answer looking read told =
        let word : ℕ = word_at store.words (Slot at.table at.probe.i) in
        let ahead = goes_ahead (length store.words.tables) mode held at.table (look at word) (look_place (kind_of word) at word) in
        subst (Lowers (Searching (Reading at))) (sym told)
        (stays_ahead ahead (machine_nears unlinked unlinked (in_state (Searching (Reading at))) (Word_read word) (unlinked_number made.number known)
        tt (λ t. refl) (refl, λ at. refl)))
    lowers_in (Searching (Comparing at word)) answer looking read told =
        let same : Bool = matches_in matches (pair_of store (number_of word)) in
        let ahead = goes_ahead (length store.words.tables) mode held at.table (search_compared (Comparing at word) same) (compared_place at word same) in
        subst (Lowers (Searching (Comparing at word))) (sym told)
        (stays_ahead ahead (machine_nears unlinked unlinked (in_state (Searching (Comparing at word))) (Yes same)
        (unlinked_number made.number known) read (λ t. refl) ((same, refl), λ at. refl)))
    lowers_in (Leaving t) answer looking read told =
        let word : ℕ = word_at store.words (Next t) in
        subst (Lowers (Leaving t)) (sym told)
        (cond_both (word == 0) (Ended Absent) (Searching (Sizing word))
        (λ s. lookup_left (length store.words.tables) (in_state s) < lookup_left (length store.words.tables) (in_state (Leaving t)))
        (λ _. omega arith) (λ some. enters_lowers t (some_number word some)))
    lowers_in (Ended reply) answer looking read told = absurd told
    lowers_in Making answer looking read told = absurd looking
    lowers_in (Opening t) answer looking read told = absurd looking
    lowers_in (Writing write) answer looking read told = absurd looking
    lowers_in (Showing removal) answer looking read told = absurd looking
    lowers_in (Offering gap) answer looking read told = absurd looking
    lowers_in (Pairing purpose) answer looking read told = absurd looking
    lowers_in (Putting put) answer looking read told = absurd looking
    lowers_in (Burying removal) answer looking read told = absurd looking
    lowers_in (Counting n) answer looking read told = absurd looking
    lowers_in (Noting n) answer looking read told = absurd looking
    lowers_in (Uncounting n) answer looking read told = absurd looking
    lowers_in (Growing t) answer looking read told = absurd looking

  module _ (matches : K → Bool) (made : Made) (hash : ℕ) where
    -- the words in its answers are those of the tables
    prompt_in : (task : Task) (sized : (n : ℕ) (t : TableWords) → table_of store.words.tables n ≡ Some t → IsSize (length t.slots) t.limit)
        → (s : State) (answer : Answer) → IsLooking s → IsTrueOfStore matches store (asks made hash s) answer
        → IsPrompt task (λ at. word_at store.words at) (asks made hash s) answer (λ at. word_at store.words at)
    prompt_in task sized AtRoot answer looking told = (told, λ at. refl)
    prompt_in task sized (Searching (Sizing t)) answer (table, there)
        told = ((length table.slots, table.limit, sized t table there, told ∙ ap size_of there), λ at. refl)
    prompt_in task sized (Searching (Looking at)) answer looking told = ((hint_at store.words at.table at.probe.i, told), λ at. refl)
    prompt_in task sized (Searching (Reading at)) answer looking told = (told, λ at. refl)
    prompt_in task sized (Searching (Comparing at word)) answer looking told = ((matches_in matches (pair_of store (number_of word)), told), λ at. refl)
    prompt_in task sized (Leaving t) answer looking told = (told, λ at. refl)
    prompt_in task sized (Ended reply) answer looking told = absurd told
    prompt_in task sized Making answer looking told = absurd looking
    prompt_in task sized (Opening t) answer looking told = absurd looking
    prompt_in task sized (Writing write) answer looking told = absurd looking
    prompt_in task sized (Showing removal) answer looking told = absurd looking
    prompt_in task sized (Offering gap) answer looking told = absurd looking
    prompt_in task sized (Pairing purpose) answer looking told = absurd looking
    prompt_in task sized (Putting put) answer looking told = absurd looking
    prompt_in task sized (Burying removal) answer looking told = absurd looking
    prompt_in task sized (Counting n) answer looking told = absurd looking
    prompt_in task sized (Noting n) answer looking told = absurd looking
    prompt_in task sized (Uncounting n) answer looking told = absurd looking
    prompt_in task sized (Growing t) answer looking told = absurd looking

    -- no pair of the arena matches, nor one that isn't there
    none_matches : MatchesNone store matches → (n : ℕ) → matches_in matches (pair_of store n) ≡ false
    none_matches none n = go (pair_of store n) refl
      where
        go : (o : Option (Stored K V)) → pair_of store n ≡ o → matches_in matches o ≡ false
        go None is = refl
        go (Some p) is = none n p is

    -- if no pair of the arena matches, its answers name none
    unmatched_in : MatchesNone store matches → (s : State) (answer : Answer) → IsLooking s → IsTrueOfStore matches store (asks made hash s) answer
        → IsUnmatched (asks made hash s) answer
    unmatched_in none AtRoot answer looking told = (store.words.root, told)
    unmatched_in none (Searching (Sizing t)) answer (table, there) told = (length table.slots, table.limit, told ∙ ap size_of there)
    unmatched_in none (Searching (Looking at)) answer looking told = (hint_at store.words at.table at.probe.i, told)
    unmatched_in none (Searching (Reading at)) answer looking told = (word_at store.words (Slot at.table at.probe.i), told)
    unmatched_in none (Searching (Comparing at word)) answer looking told = told ∙ ap Yes (none_matches none (number_of word))
    unmatched_in none (Leaving t) answer looking told = (word_at store.words (Next t), told)
    unmatched_in none (Ended reply) answer looking told = absurd told
    unmatched_in none Making answer looking told = absurd looking
    unmatched_in none (Opening t) answer looking told = absurd looking
    unmatched_in none (Writing write) answer looking told = absurd looking
    unmatched_in none (Showing removal) answer looking told = absurd looking
    unmatched_in none (Offering gap) answer looking told = absurd looking
    unmatched_in none (Pairing purpose) answer looking told = absurd looking
    unmatched_in none (Putting put) answer looking told = absurd looking
    unmatched_in none (Burying removal) answer looking told = absurd looking
    unmatched_in none (Counting n) answer looking told = absurd looking
    unmatched_in none (Noting n) answer looking told = absurd looking
    unmatched_in none (Uncounting n) answer looking told = absurd looking
    unmatched_in none (Growing t) answer looking told = absurd looking

-- a call that has met none replies that there is none
pub none_replies : (made : Made) (hash : ℕ) (s : State) (reply : Reply) → HasMetNone s → asks made hash s ≡ Ask_done reply → reply ≡ Absent
none_replies made hash AtRoot reply none e = absurd cc
none_replies made hash (Searching (Sizing t)) reply none e = absurd cc
none_replies made hash (Searching (Looking at)) reply none e = absurd cc
none_replies made hash (Searching (Reading at)) reply none e = absurd cc
none_replies made hash (Searching (Comparing at word)) reply none e = absurd cc
none_replies made hash (Leaving t) reply none e = absurd cc
none_replies made hash (Ended given) reply none e = let is : given ≡ reply = cc in sym is ∙ none
none_replies made hash Making reply none e = absurd none
none_replies made hash (Opening t) reply none e = absurd none
none_replies made hash (Writing write) reply none e = absurd none
none_replies made hash (Showing removal) reply none e = absurd none
none_replies made hash (Offering gap) reply none e = absurd none
none_replies made hash (Pairing purpose) reply none e = absurd none
none_replies made hash (Putting put) reply none e = absurd none
none_replies made hash (Burying removal) reply none e = absurd none
none_replies made hash (Counting n) reply none e = absurd none
none_replies made hash (Noting n) reply none e = absurd none
none_replies made hash (Uncounting n) reply none e = absurd none
none_replies made hash (Growing t) reply none e = absurd none

-- The invariant of a lookup: its state, and the answers from its begin to here.
pub record IsLookUp {K V S : Type 0} (matches : K → Bool) (store : StoreState K V S) (begun m : Machine) : Type 0 where
  pub task : m.task ≡ Get
  pub looking : IsLooking store m.state
  pub current : IsCurrent (λ at. word_at store.words at) m
  -- a reply from here on is a reply from its begin
  pub told : (answers : List Answer) (reply : Reply) → Replies matches store m answers reply → (all : List Answer) × Replies matches store begun all reply

module _ {K V S : Type 0} (eq : K → K → Bool) (hash : K → ℕ) (mode : Mode) (store : StoreState K V S)
    (lawful : IsLawfulCore {A = Unit {0}} eq hash store [] mode) (keys : IsLawfulKeys eq hash) (matches : K → Bool)
    (m : Machine) (getting : m.task ≡ Get) (looking : IsLooking store m.state) (answer : Answer) (told : IsTrueOfStore matches store (ask_of m) answer) where
  -- a lookup that is answered from the tables continues, or has replied
  pub lookup_looks : IsLooking store (after m answer).state
  lookup_looks =
      subst (λ task. IsLooking store (after (record m { task = task }) answer).state) (sym getting)
      (looks_in store matches (core_root_there eq hash [] mode store lawful keys) (core_next_there eq hash [] mode store lawful) m.made m.remembered
      m.hash m.mode m.initial m.state answer looking told)

  -- it is nearer its end
  pub lookup_nears : IsCurrent (λ at. word_at store.words at) m
      → lookup_left (length store.words.tables) (after m answer) < lookup_left (length store.words.tables) m
  lookup_nears current =
      subst (λ task. lookup_left (length store.words.tables) (after (record m { task = task }) answer) < lookup_left (length store.words.tables) m)
      (sym getting)
      (lowers_in store matches lawful.core.sizes (core_next_there eq hash [] mode store lawful) (core_next_rises eq hash [] mode store lawful keys)
      m.made m.remembered m.hash m.mode m.initial current.number m.state answer looking current.read told)

  -- and a word that it has read is unchanged
  pub lookup_current : IsCurrent (λ at. word_at store.words at) m → IsCurrent (λ at. word_at store.words at) (after m answer)
  lookup_current current =
      machine_stable (λ at. word_at store.words at) (λ at. word_at store.words at) m current.bare answer current.number current.read
      (prompt_in store matches m.made m.hash m.task lawful.core.sizes m.state answer looking told)

  -- if no pair of the arena matches, it meets none
  pub lookup_meets_none : MatchesNone store matches → HasMetNone m.state → HasMetNone (after m answer).state
  lookup_meets_none none met = machine_meets_none m (subst IsSeeker (sym getting) tt) answer met
      (unmatched_in store matches m.made m.hash none m.state answer looking told)

  -- so its invariant is kept
  pub look_up_goes : (begun : Machine) → IsLookUp matches store begun m → IsLookUp matches store begun (after m answer)
  look_up_goes begun kept =
      record {
        task = (same_task m answer).0 ∙ getting;
        looking = lookup_looks;
        current = lookup_current kept.current;
        told = λ answers reply replies. kept.told (answer ∷ answers) reply (told, replies);
      }

-- and holds of one that begins
pub look_up_begins : {K V S : Type 0} (eq : K → K → Bool) (hash : K → ℕ) (mode : Mode) (store : StoreState K V S)
    → IsLawfulCore {A = Unit {0}} eq hash store [] mode → (matches : K → Bool) (hashed initial : ℕ)
    → IsLookUp matches store (started Get hashed mode.resize initial mode.limit) (started Get hashed mode.resize initial mode.limit)
look_up_begins eq hash mode store lawful matches hashed initial =
    record {
      task = refl;
      looking = tt;
      current =
          record { bare = core_bare eq hash [] mode store lawful; number = begun_number mode.limit (λ at. word_at store.words at); read = tt };
      told = λ answers reply replies. (answers, replies);
    }
