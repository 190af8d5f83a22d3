-- A lookup on the shared map: what it holds and relies on, and what it has found.
use Rattle.std.specs.Prelude.{◌≡◌, ℕ, ◌+◌, ◌*◌, ◌-◌, ◌^◌, Bool, true, Option, None, Some, List, ◌++◌, slice_get}
use denote.Bor.{Bor}
use Rattle.logbook.specs.Pages.{Book, Named as Word}
use Rattle.papaya_call.specs.declared.call.Reply.TheVariants.{Absent, Found}
use Rattle.papaya_call.specs.declared.call.Task.TheVariants.{Get}
use Rattle.papaya_call.specs.declared.machine.Machine.{Machine}
use Rattle.papaya_call.specs.declared.machine.State.{State as Stage}
use Rattle.papaya_call.specs.declared.machine.State.TheVariants.{AtRoot, Searching, Leaving, Ended}
use Rattle.papaya_call.specs.declared.search.Place.{Place}
use Rattle.papaya_call.specs.declared.search.Search.TheVariants.{Sizing, Looking, Reading, Comparing}
use Rattle.papaya_call.specs.declared.search.ProbeStep.{ProbeStep}
use Rattle.papaya_call.specs.declared.search.ProbeStep.TheVariants.{On, Over}
use Rattle.papaya_call.specs.Search.{IsWithin, go_on}
use Rattle.papaya_words.specs.declared.resize_mode.ResizeMode.{ResizeMode}
use Rattle.papaya_words_law.specs.Exchange.{Exchange, Setting}
use Rattle.papaya_words_law.specs.Code.{Coding}
use Rattle.papaya_words_law.specs.Further.{coding_with, with_key}
use Rattle.papaya_call.specs.Machine.{passes, started}
use Rattle.papaya_call_law.specs.Relies.{HasMet, Relies, WasAtMoment}
use Rattle.papaya_call_law.specs.TrueAnswers.{LoadedPairs}
use Rattle.papaya_map_book.specs.Sheets.{HoldsHint, Sheet, word_named}
use Rattle.papaya_map_book.specs.declared.rule.entry.Begun.{Begun}
use Rattle.papaya_map_book.specs.declared.rule.entry.Event.{Event}
use Rattle.papaya_map_book.specs.declared.rule.entry.Named.TheVariants.{Pair}
use Rattle.papaya_map_book.specs.Calls.{IsTable}
use Rattle.papaya_map_book.specs.Logs.{Stored, coding_of, exchanges_of, pair_named, setting_of}
use Rattle.papaya_map_book.specs.Rule.{IsLawfulLog, IsPlaced}
use Rattle.papaya_map_lookup.specs.History.{key_of}
use Rattle.papaya_map_lookup.specs.declared.lookup.Met.{Met}
use Rattle.papaya_map_lookup.specs.declared.near.RootHit.{RootHit}
use Rattle.papaya_map_lookup.specs.declared.near.RootHit.TheVariants as nears
use Rattle.papaya_map_lookup.specs.declared.lookup.ProbeHit.{ProbeHit}
use Rattle.papaya_map_lookup.specs.declared.lookup.ProbeHit.TheVariants as turns

-- The table that a lookup searches or leaves at this stage.
abbrev pub table_of : Stage → Option ℕ
table_of (Searching (Sizing t)) = Some t
table_of (Searching (Looking at)) = Some at.table
table_of (Searching (Reading at)) = Some at.table
table_of (Searching (Comparing at word)) = Some at.table
table_of (Leaving t) = Some t
table_of _ = None

-- A bound on the steps that are left in table `t` and the tables after it, if `more` are left in
-- `t` itself.
abbrev pub left_in : (t more : ℕ) → ℕ
left_in t more = (2 ^ 32 + 1 - t) * 2 ^ 34 + more

-- A bound on the steps that are left to a lookup. It decreases with each answer, because a search
-- looks at each place once and the next table has a greater number.
abbrev pub left_of : Stage → ℕ
left_of AtRoot = left_in 0 (3 * 2 ^ 32 + 6)
left_of (Searching (Sizing t)) = left_in t (3 * 2 ^ 32 + 5)
left_of (Searching (Looking at)) = left_in at.table (3 * (at.limit + 1 - at.probe.len) + 1)
left_of (Searching (Reading at)) = left_in at.table (3 * (at.limit + 1 - at.probe.len))
left_of (Searching (Comparing at word)) = left_in at.table
    (3 * (at.limit + 1 - at.probe.len) - 1)
left_of (Leaving t) = left_in t 1
left_of _ = 0

module _ {K V S : Type 0} where
  -- If there is a table number, the lookup holds the table of that number.
  abbrev pub HoldsTable : List (Event K V S) → Option ℕ → Option (Bor Sheet) → Type 0
  HoldsTable log None table = Unit {0}
  HoldsTable log (Some t) None = ⊥
  HoldsTable log (Some t) (Some r) = IsTable log t r.now

  -- The pair that the lookup holds, if any, is the last one that it loaded, and is stored in the
  -- arena.
  abbrev pub HoldsPair : Begun K V S → (last pair : Option (Stored K V)) → Type 0
  HoldsPair b last pair = (pair ≡ last) × IsPlaced b None (pair_named pair)

  -- The setting of a log, with the key that is looked up as a further key.
  abbrev pub setting_for : (K → K → Bool) → (S → K → ℕ) → Begun K V S → (K → Bool) → ℕ
      → List (Event K V S) → Setting (Option K) (Stored K V)
  setting_for eq hash b matches fed log =
      with_key (setting_of eq (hash b.hasher) b.mode b.limit log) matches fed

abbrev pub coding_for : {K V S : Type 0} → (S → K → ℕ) → S → ℕ → Coding (Option K) (Stored K V)
coding_for hash hasher fed = coding_with (coding_of (hash hasher)) fed

-- A lookup of the keys that match, with the hash `fed`, relies on the log since its call began. It
-- holds the table that it is at, and the pair that it loaded last. If it has found a pair, that
-- pair was the key's at some point of the call.
pub record IsReading {K V S : Type 0} (eq : K → K → Bool) (hash : S → K → ℕ) (b : Begun K V S)
    (matches : K → Bool) (fed : ℕ) (begun : List (Exchange (Stored K V))) (log : List (Event K V S))
    (m : Machine) (table : Option (Bor Sheet)) (pair : Option (Stored K V)) : Type 0 where
  pub lawful : IsLawfulLog eq hash b log
  pub since : List (Exchange (Stored K V))
  pub is : begun ++ since ≡ exchanges_of log
  pub loaded : LoadedPairs (Stored K V)
  pub task_is : m.task ≡ Get
  pub relies : Relies (setting_for eq hash b matches fed log) (coding_for hash b.hasher fed) begun
      since None m loaded
  pub holds_table : HoldsTable log (table_of m.state) table
  pub holds_pair : HoldsPair b loaded.last pair
  pub found : (n : ℕ) → m.state ≡ Ended (Found n)
      → (p : Stored K V) × (loaded.last ≡ Some p) × WasAtMoment
      (setting_for eq hash b matches fed log) (coding_for hash b.hasher fed) begun since None
      (Some p)

-- The machine of a lookup at this stage.
abbrev pub lookup_at : (hash : ℕ) → ResizeMode → (limit : Option ℕ) → Stage → Machine
lookup_at hash mode limit stage = record (started Get hash mode 0 limit) { state = stage }

-- The lookup's machine, which nothing runs, would be at this stage now. It relies on this table,
-- and on some pair that it loaded last.
abbrev pub IsReadingAt : {K V S : Type 0} → (K → K → Bool) → (S → K → ℕ) → Begun K V S → (K → Bool)
    → ℕ → List (Exchange (Stored K V)) → ℕ → List (Event K V S) → Stage → Sheet → Type 0
IsReadingAt {K} {V} eq hash b matches fed begun h log stage table = (lent : Bor Sheet)
    × (lent.now ≡ table) × (pair : Option (Stored K V))
    × IsReading eq hash b matches fed begun log (lookup_at h b.mode b.limit stage) (Some lent) pair

-- The table `t` is in the log, and `word` is the word of its slot `x`.
abbrev pub IsSlotAt : {K V S : Type 0} → List (Event K V S) → (t x : ℕ) → Word → Type 0
IsSlotAt log t x word = (sheet : Sheet) × IsTable log t sheet × (k : ℕ)
    × (slice_get sheet.slots x ≡ Some k) × (word ≡ word_named sheet.book k)

-- The table `t` is in the log, and `word` is beside the number that has the hint of its slot `x`.
abbrev pub HoldsHintAt : {K V S : Type 0} → List (Event K V S) → (t x : ℕ) → Word → Type 0
HoldsHintAt log t x word = (sheet : Sheet) × IsTable log t sheet
    × HoldsHint sheet.book sheet.slots x word

-- The outcome of a place at which no entry was found, by the search's next step.
abbrev pub hit_of : {M E : Type 0} → ProbeStep → ProbeHit M E
hit_of (On (Looking at)) = turns.Next at
hit_of (Over t) = turns.Over t
hit_of _ = turns.Absent

-- The outcome of the place `at`, by its result in the root. There is none if the whole search is
-- needed.
abbrev pub hit_in_root : {M E : Type 0} → Place → RootHit M E → Option (ProbeHit M E)
hit_in_root at nears.On = Some (hit_of (go_on at))
hit_in_root at (nears.Found met entry) = Some (turns.Found met entry)
hit_in_root at nears.Absent = Some turns.Absent
hit_in_root at nears.Aside = None

-- The stage to which an outcome of a place leads the lookup's machine. `number` is that of the pair
-- that was found.
abbrev pub next_stage : {M E : Type 0} → ResizeMode → ℕ → ProbeHit M E → Stage
next_stage mode number (turns.Next at) = Searching (Looking at)
next_stage mode number (turns.Found met entry) = Ended (Found number)
next_stage mode number turns.Absent = Ended Absent
next_stage mode number (turns.Over t) = passes Get mode None t

-- A search has met a pair with a matching key: the word that it loaded at this place of this table
-- named the pair, which is stored in the arena.
pub record HasHit {K V S : Type 0} (eq : K → K → Bool) (hash : S → K → ℕ) (b : Begun K V S)
    (name : Book) (matches : K → Bool) (fed : ℕ) (begun : List (Exchange (Stored K V)))
    (log : List (Event K V S)) (table : Sheet) (hit : Met K V) : Type 0 where
  pub lawful : IsLawfulLog eq hash b log
  pub since : List (Exchange (Stored K V))
  pub is : begun ++ since ≡ exchanges_of log
  pub met : HasMet (setting_for eq hash b matches fed log) (coding_for hash b.hasher fed) begun since
      None hit.place hit.word hit.stored
  pub same : matches (key_of hit.stored) ≡ true
  pub within : IsWithin hit.place
  pub holds : IsTable log hit.place.table table
  pub placed : IsPlaced b (Some name) (Pair hit.stored)

-- An outcome of a place has led the lookup's machine to its next stage. If an entry was found, the
-- search has met its pair, and the references are to that pair's key and value.
pub record IsNextStage {K V S : Type 0} (eq : K → K → Bool) (hash : S → K → ℕ) (b : Begun K V S)
    (name : Book) (matches : K → Bool) (fed : ℕ) (begun : List (Exchange (Stored K V))) (h : ℕ)
    (log : List (Event K V S)) (table : Sheet)
    (turn : ProbeHit (Met K V) (Bor K × Bor V)) : Type 0 where
  pub lent : Bor Sheet
  pub lent_is : lent.now ≡ table
  pub pair : Option (Stored K V)
  pub number : ℕ
  pub reading : IsReading eq hash b matches fed begun log
      (lookup_at h b.mode b.limit (next_stage b.mode number turn)) (Some lent) pair
  pub within : (at : Place) → turn ≡ turns.Next at → IsWithin at
  pub found : (met : Met K V) (entry : Bor K × Bor V) → turn ≡ turns.Found met entry
      → (pair ≡ Some met.stored) × (entry.0.now ≡ key_of met.stored)
      × (entry.1.now ≡ met.stored.value.value)
      × HasHit eq hash b name matches fed begun log table met
