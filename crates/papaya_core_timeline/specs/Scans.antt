-- How a call that scans a table relates to the law of exchanges, beside any number of callers.
use Rattle.std.specs.Prelude.{◌≡◌, ◌⊎◌, ℕ, pos, ◌+ℤ◌, Bool, false, length, Some, None, List, ◌++◌}
use Rattle.std.specs.Int.{w64, int_wrap}
use Rattle.papaya_words.specs.declared.refused.Refused.TheVariants.{Memory}
use Rattle.papaya_call.specs.declared.ask.At.{At}
use Rattle.papaya_call.specs.declared.ask.Answer.TheVariants.{Refused as Was_refused}
use Rattle.papaya_call.specs.declared.chain.ask.Answer.{Answer}
use Rattle.papaya_call.specs.declared.chain.ask.Answer.TheVariants as answers
use Rattle.papaya_words_law.specs.Allows.{AllAllowed}
use Rattle.papaya_words_law.specs.Exchange.{Exchange, run, start}
use Rattle.papaya_words_law.specs.Meaning.{map_left}
use Rattle.papaya_call_law.specs.TrueAnswers.{word_of}
use Rattle.papaya_core_store.specs.Tables.{word_at}
use Rattle.papaya_core_store.specs.declared.store.Mode.{Mode}
use Rattle.papaya_core_store.specs.Store.{KeepsPairs, StoreState, Stored}
use Rattle.papaya_core_timeline.specs.Content.{content, map_in}
use Rattle.papaya_core_timeline.specs.declared.trace.Event.{Event}
use Rattle.papaya_core_timeline.specs.declared.trace.Event.TheVariants.{Changed}
use Rattle.papaya_core_timeline.specs.declared.seat.Seat.{Seat}
use Rattle.papaya_core_timeline.specs.Counted.{owed_in, owed_scan}
use Rattle.papaya_core_timeline.specs.Core.{CoreState}
use Rattle.papaya_core_timeline.specs.Kept.{CallTrace, IsConsistent, IsScanning, ScanTrace, coding_of, low, numbers_of, setting_of, told_call_traces, told_more}
use Rattle.papaya_core_timeline.specs.Maps.{IsUpdate, Same}
use Rattle.papaya_call.specs.declared.chain.scanner.ScannerState.{ScannerState}
use Rattle.papaya_call.specs.declared.chain.scanner.ScannerState.TheVariants.{Giving}
use Rattle.papaya_call.specs.declared.chain.scanner.Scan.{Scan}
use Rattle.papaya_call.specs.declared.chain.scanner.Scan.TheVariants.{Retain, Walk}
use Rattle.papaya_call.specs.Scanner.{after}
use Rattle.papaya_call_law.specs.ScanAnswers.{IsLastAnswer, IsTrueOfScan, LoadedPairs}
use Rattle.papaya_call_law.specs.Scans.{HasScanned}
use Rattle.papaya_core_store.specs.declared.scans.Scanning.{Scanning}

-- The sum of the shards plus what the scan and all calls beside it have yet to add, wrapped to 64
-- bits, is the number of pairs.
abbrev pub IsCountedBeside : {K V S A : Type 0} → (K → K → Bool) → StoreState K V S
    → List (Seat K V A) → ScannerState → Type 0
IsCountedBeside eq store callers state =
    int_wrap w64 (store.count.sum +ℤ (owed_in callers +ℤ owed_scan state)) ≡ pos
    (length (content eq store))

-- The scan of a table has ended. For an iteration there is a moment of the call such that its list
-- has each key exactly once that was in the map ever since, and no pair that was not in the map. Of
-- the pairs that the map had when the call began, a clear has left none, and a retain only those
-- for which its closure last returned that they stay.
pub record HasScannedIn {K V S A : Type 0} (eq : K → K → Bool) (hash : K → ℕ) (mode : Mode)
    (store : StoreState K V S) (v : Scanning A) (call_trace : ScanTrace K V) : Type 0 where
  pub scanned : HasScanned (setting_of eq (low hash) mode store.words.tables)
      (coding_of (low hash)) (run call_trace.begun start)
      (map_left (setting_of eq (low hash) mode store.words.tables) call_trace.begun)
      call_trace.since
      v.scanner.scan call_trace.loaded
  pub list : v.given ≡ numbers_of call_trace.loaded.given

-- memory ran out for a pair of the scan's list, and the store did not change
pub record IsListRefused {K V S A : Type 0} (store : StoreState K V S) (v : Scanning A)
    (answer : Answer) (store' : StoreState K V S) : Type 0 where
  pub giving : (spot : _) × (word : ℕ) × (v.scanner.state ≡ Giving spot word)
  pub refused : answer ≡ answers.Call (Was_refused Memory)
  pub same : store' ≡ store

-- The answer to a scanner's ask is true of the words, and what the scanner and the calls of all
-- callers beside it rely on still holds. No pair is gone from the arena.
pub record IsScanAnswered {K V S A : Type 0} (eq : K → K → Bool) (hash : K → ℕ) (s : CoreState K V S A)
    (caller : ℕ) (es : List (Exchange (Stored K V))) (call_traces : ℕ
    → CallTrace K V) (v : Scanning A)
    (call_trace : ScanTrace K V) (answer : Answer) (store' : StoreState K V S)
    (v' : Scanning A) : Type 0 where
  pub made : List (Exchange (Stored K V))
  pub loaded : LoadedPairs (Stored K V)
  pub told : IsTrueOfScan (setting_of eq (low hash) s.mode s.store.words.tables)
      (coding_of (low hash)) (run es start) call_trace.since v.scanner.state call_trace.loaded
      answer made loaded
  pub kept : IsConsistent eq hash s.mode store' s.callers (es ++ made)
      (told_call_traces call_traces caller made (call_traces caller).loaded)
  pub scanning : IsScanning eq hash s.mode store' (record v' { scanner = after v.scanner answer })
      (es ++ made) (told_more call_trace made loaded)
  -- what any other scanner relies on still holds
  pub others : (u : Scanning A) (other : ScanTrace K V)
      → IsScanning eq hash s.mode s.store u es other
      → IsScanning eq hash s.mode store' u (es ++ made) (told_more other made other.loaded)
  pub keeps : KeepsPairs s.store store'
  pub hasher : store'.hasher ≡ s.store.hasher
  pub pairs : store'.pairs ≡ s.store.pairs
  -- the exchanges were allowed, and the map that they leave is the same in the setting of the store
  -- after them
  pub allowed : AllAllowed (setting_of eq (low hash) s.mode s.store.words.tables) start (es ++ made)
  pub map_same : (k : K)
      → map_left (setting_of eq (low hash) s.mode store'.words.tables) (es ++ made) k
      ≡ map_left (setting_of eq (low hash) s.mode s.store.words.tables) (es ++ made) k
  -- the words are those that the exchanges leave
  pub coded : (at : At) → word_of (setting_of eq (low hash) s.mode s.store.words.tables)
      (coding_of (low hash)) (run (es ++ made) start) at ≡ word_at store'.words at
  pub sum : int_wrap w64 store'.count.sum
      ≡ int_wrap w64 (s.store.count.sum +ℤ owed_scan v.scanner.state)

-- What a scanner relies on still holds after a step of another caller.
pub record StaysBeside {K V S A : Type 0} (eq : K → K → Bool) (hash : K → ℕ)
    (s' : CoreState K V S A) (es : List (Exchange (Stored K V))) (v : Scanning A)
    (call_trace : ScanTrace K V) : Type 0 where
  pub made : List (Exchange (Stored K V))
  pub call_traces : ℕ → CallTrace K V
  pub kept : IsConsistent eq hash s'.mode s'.store s'.callers (es ++ made) call_traces
  pub scanning : IsScanning eq hash s'.mode s'.store v (es ++ made)
      (told_more call_trace made call_trace.loaded)

-- A scanner's step leaves the map as it is, or removes one pair from it. An iteration removes none,
-- and a retain removes only a pair for which its closure last returned that it does not stay.
abbrev pub MovesScan : {K V S : Type 0} → (K → K → Bool) → StoreState K V S → StoreState K V S
    → Scan → List (Stored K V × Bool) → Type 0
MovesScan {K = K} {V = V} eq store store' scan shown = Same (map_in eq store) (map_in eq store')
    ⊎ ((p : Stored K V) × IsUpdate eq p.key (Some p) None (map_in eq store) (map_in eq store')
    × (scan ≡ Walk → ⊥) × (scan ≡ Retain → IsLastAnswer shown p false))

-- The same by the event of the step: a change removes the pair of number `old`, and any other event
-- leaves the map as it is.
abbrev pub MovesByScan : {K V S : Type 0} → (K → K → Bool) → StoreState K V S → StoreState K V S
    → Scan → List (Stored K V × Bool) → Event → Type 0
MovesByScan {K = K} {V = V} eq store store' scan shown (Changed kind old new) = (p : Stored K V)
    × IsUpdate eq p.key (Some p) None (map_in eq store) (map_in eq store')
    × (scan ≡ Walk → ⊥) × (scan ≡ Retain → IsLastAnswer shown p false)
    × (old ≡ Some p.number) × (new ≡ None)
MovesByScan eq store store' scan shown event = Same (map_in eq store) (map_in eq store')
