-- The laws of a call that scans a table, for any list of exchanges.
use Rattle.std.proofs.Common.{IsSome, ◌≡◌, ◌⊎◌, ℕ, ◌<◌, Bool, None, Some, Option, List, refl, subst}
use Rattle.papaya_call.specs.declared.call.Reply.{Reply}
use Rattle.papaya_call.specs.declared.call.Reply.TheVariants.{Done as Reply_done}
use Rattle.papaya_call.specs.Answers.{Says}
use Rattle.papaya_call.specs.declared.chain.ask.Answer.{Answer}
use Rattle.papaya_words_law.specs.Exchange.{Exchange, run, start}
use Rattle.papaya_words_law.specs.Meaning.{map_left}
use Rattle.papaya_core_store.specs.Store.{StoreState, Stored}
use Rattle.papaya_core_store.specs.Tables.{word_at}
use Rattle.papaya_core_timeline.specs.declared.trace.Event.{Event}
use Rattle.papaya_core_timeline.specs.Core.{CoreState, IsCore, work_of}
use Rattle.papaya_core_timeline.specs.Ends.{budget_of}
use Rattle.papaya_core_timeline.specs.Kept.{CallTrace, IsConsistent, IsScanning, ScanTrace, coding_of, low, setting_of}
use Rattle.papaya_core_timeline.specs.Runs.{Steps}
use Rattle.papaya_core_timeline.proofs.KeptSettings.{IsLawfulKeys}
use Rattle.papaya_call.specs.declared.chain.ask.ScanAsk.{ScanAsk}
use Rattle.papaya_call.specs.Scanner.{IsValidScanner, after, ask_of, kind_of_ask, reply_of}
use Rattle.papaya_call_alone.specs.Scanners.{IsScannerRead, scanner_measure}
use Rattle.papaya_core_store.specs.declared.scans.Scanning.{Scanning}
use Rattle.papaya_core_store.specs.Scans.{PerformsScan}
use Rattle.papaya_core_timeline.specs.Scans.{HasScannedIn, IsCountedBeside, IsScanAnswered, IsListRefused, MovesByScan, MovesScan, StaysBeside}
use Rattle.papaya_core_timeline.specs.ScanGoes.{event_of_scan}
use Rattle.papaya_core_timeline.proofs.ScanAlone as lone
use Rattle.papaya_core_timeline.proofs.ScanKept.{scan_heard}
use Rattle.papaya_core_timeline.proofs.ScanMoves as moving
use Rattle.papaya_core_timeline.proofs.ScanOthers.{step_beside}
use Rattle.papaya_core_timeline.proofs.ScanOver.{scan_asks, scan_over}
use Rattle.papaya_core_timeline.proofs.ScanStands.{scan_core}
use Rattle.papaya_core_store.specs.declared.store.Mode.{Mode}

module _ {K V S A : Type 0} (eq : K → K → Bool) (hashes : S → K → ℕ) (says : Says K V A) (refuse : Bool) (s : CoreState K V S A)
    (law : IsLawfulKeys eq (hashes s.store.hasher)) (core : IsCore s.store s.callers s.mode) (call_traces : ℕ → CallTrace K V) (v : Scanning A)
    (call_trace : ScanTrace K V) where
  -- the hash of keys
  abbrev hash : K → ℕ
  hash = hashes s.store.hasher

  -- the facts after these exchanges
  abbrev pub Heard : Answer → StoreState K V S → Scanning A → (caller : ℕ) → List (Exchange (Stored K V)) → Type 0
  Heard a store' v' caller es = IsConsistent eq hash s.mode s.store s.callers es call_traces → IsScanning eq hash s.mode s.store v es call_trace
      → IsListRefused s.store v a store' ⊎ IsScanAnswered eq hash s caller es call_traces v call_trace a store' v'

  pub heard : (caller : ℕ) → work_of s caller ≡ None → (es : List (Exchange (Stored K V))) → IsConsistent eq hash s.mode s.store s.callers es call_traces
      → IsScanning eq hash s.mode s.store v es call_trace → (ask : ScanAsk) → ask_of v.scanner ≡ Some ask
      → (a : Answer) (store' : StoreState K V S) (v' : Scanning A)
      → PerformsScan eq says hashes refuse ask s.store v a store' v' → IsListRefused s.store v a store'
      ⊎ IsScanAnswered eq hash s caller es call_traces v call_trace a store' v'
  heard caller idle es kept scanning ask asks a store' v' performs =
      subst (Heard a store' v' caller) scanning.split
      (λ kept scanning. scan_heard eq hash law says hashes refuse s core refl caller idle call_trace call_traces kept v scanning ask asks a store' v' performs)
      kept scanning

  abbrev pub Stays : CoreState K V S A → List (Exchange (Stored K V)) → Type 0
  Stays s' es = IsConsistent eq hash s.mode s.store s.callers es call_traces → IsScanning eq hash s.mode s.store v es call_trace
      → StaysBeside eq hash s' es v call_trace

  pub beside : (es : List (Exchange (Stored K V))) → IsConsistent eq hash s.mode s.store s.callers es call_traces
      → IsScanning eq hash s.mode s.store v es call_trace → (caller : ℕ) (s' : CoreState K V S A) (event : Event) (reply : Option Reply)
      → Steps eq says hashes refuse s caller s' event reply → StaysBeside eq hash s' es v call_trace
  beside es kept scanning caller s' event reply steps =
      subst (Stays s') scanning.split
      (λ kept scanning. step_beside eq hash law says hashes refuse s caller s' event reply refl core call_trace call_traces kept v scanning steps)
      kept scanning

module _ {K V S A : Type 0} (eq : K → K → Bool) (hash : K → ℕ) (s : CoreState K V S A) (law : IsLawfulKeys eq hash)
    (core : IsCore s.store s.callers s.mode) (call_traces : ℕ → CallTrace K V) (v : Scanning A) (call_trace : ScanTrace K V) (caller : ℕ) (a : Answer)
    (store' : StoreState K V S) (v' : Scanning A) (core' : IsCore store' s.callers s.mode) where
  -- the effect of a step after these exchanges
  abbrev pub Moves : List (Exchange (Stored K V)) → Type 0
  Moves es = IsConsistent eq hash s.mode s.store s.callers es call_traces → IsScanning eq hash s.mode s.store v es call_trace
      → IsScanAnswered eq hash s caller es call_traces v call_trace a store' v' → MovesScan eq s.store store' v.scanner.scan call_trace.loaded.shown

  pub moves : (es : List (Exchange (Stored K V))) → IsConsistent eq hash s.mode s.store s.callers es call_traces
      → IsScanning eq hash s.mode s.store v es call_trace → IsScanAnswered eq hash s caller es call_traces v call_trace a store' v'
      → MovesScan eq s.store store' v.scanner.scan call_trace.loaded.shown
  moves es kept scanning heard = subst Moves scanning.split
      (λ kept scanning heard. moving.moves eq hash law s core caller call_trace call_traces kept v scanning a store' v' heard core') kept scanning heard

  -- and by its event
  abbrev pub Tells : ScanAsk → List (Exchange (Stored K V)) → Type 0
  Tells ask es = IsConsistent eq hash s.mode s.store s.callers es call_traces → IsScanning eq hash s.mode s.store v es call_trace
      → IsScanAnswered eq hash s caller es call_traces v call_trace a store' v'
      → MovesByScan eq s.store store' v.scanner.scan call_trace.loaded.shown (event_of_scan (kind_of_ask v.scanner) ask a)

  pub tells : (es : List (Exchange (Stored K V))) → IsConsistent eq hash s.mode s.store s.callers es call_traces
      → IsScanning eq hash s.mode s.store v es call_trace → IsScanAnswered eq hash s caller es call_traces v call_trace a store' v' → (ask : ScanAsk)
      → ask_of v.scanner ≡ Some ask → MovesByScan eq s.store store' v.scanner.scan call_trace.loaded.shown (event_of_scan (kind_of_ask v.scanner) ask a)
  tells es kept scanning heard ask asks = subst (Tells ask) scanning.split
      (λ kept scanning heard. moving.moves_as eq hash law s core caller call_trace call_traces kept v scanning a store' v' heard core' ask asks) kept
      scanning heard

  abbrev pub Counts : List (Exchange (Stored K V)) → Type 0
  Counts es = IsConsistent eq hash s.mode s.store s.callers es call_traces → IsScanning eq hash s.mode s.store v es call_trace
      → IsScanAnswered eq hash s caller es call_traces v call_trace a store' v' → IsCountedBeside eq s.store s.callers v.scanner.state
      → IsCountedBeside eq store' s.callers (after v.scanner a).state

  pub counted : (es : List (Exchange (Stored K V))) → IsConsistent eq hash s.mode s.store s.callers es call_traces
      → IsScanning eq hash s.mode s.store v es call_trace → IsScanAnswered eq hash s caller es call_traces v call_trace a store' v'
      → IsCountedBeside eq s.store s.callers v.scanner.state → IsCountedBeside eq store' s.callers (after v.scanner a).state
  counted es kept scanning heard = subst Counts scanning.split
      (λ kept scanning heard. moving.counted eq hash law s core caller call_trace call_traces kept v scanning a store' v' heard core') kept scanning heard

module _ {K V S A : Type 0} (eq : K → K → Bool) (hashes : S → K → ℕ) (says : Says K V A) (refuse : Bool) (s : CoreState K V S A)
    (law : IsLawfulKeys eq (hashes s.store.hasher)) (core : IsCore s.store s.callers s.mode) (call_traces : ℕ → CallTrace K V) (v : Scanning A)
    (call_trace : ScanTrace K V) (stands : IsValidScanner v.scanner) (read : IsScannerRead (word_at s.store.words) v.scanner)
    (ask : ScanAsk) (asks : ask_of v.scanner ≡ Some ask) (a : Answer) (store' : StoreState K V S) (v' : Scanning A)
    (performs : PerformsScan eq says hashes refuse ask s.store v a store' v') (caller : ℕ) where
  -- the state after a step, which is nearer the end
  abbrev pub Nearer : Type 0
  Nearer = IsScannerRead (word_at store'.words) (after v.scanner a)
      × (scanner_measure (budget_of store') (word_at store'.words) (after v.scanner a) < scanner_measure (budget_of s.store) (word_at s.store.words) v.scanner)

  abbrev pub Nears : List (Exchange (Stored K V)) → Type 0
  Nears es = IsConsistent eq (hashes s.store.hasher) s.mode s.store s.callers es call_traces
      → IsScanning eq (hashes s.store.hasher) s.mode s.store v es call_trace
      → IsScanAnswered eq (hashes s.store.hasher) s caller es call_traces v call_trace a store' v' → Nearer

  pub nears : (es : List (Exchange (Stored K V))) → IsConsistent eq (hashes s.store.hasher) s.mode s.store s.callers es call_traces
      → IsScanning eq (hashes s.store.hasher) s.mode s.store v es call_trace
      → IsScanAnswered eq (hashes s.store.hasher) s caller es call_traces v call_trace a store' v' → Nearer
  nears es kept scanning heard =
      let after_it = scan_core eq says hashes refuse s.store s.callers s.mode core v stands a store' v' ask asks performs in
      subst Nears scanning.split
      (λ kept scanning heard. (
        lone.stays_read eq (hashes s.store.hasher) law says hashes refuse s core refl caller call_trace call_traces kept v scanning ask asks a store'
            v' performs heard read,
        lone.falls eq (hashes s.store.hasher) law says hashes refuse s core refl caller call_trace call_traces kept v scanning ask asks a store' v'
            performs heard read after_it.0 after_it.2,
      )) kept scanning heard

module _ {K V S A : Type 0} (eq : K → K → Bool) (hash : K → ℕ) (mode : Mode) (store : StoreState K V S) (v : Scanning A)
    (es : List (Exchange (Stored K V))) (call_trace : ScanTrace K V) (scanning : IsScanning eq hash mode store v es call_trace) where
  -- it has an ask until it has replied
  pub asks_so : reply_of v.scanner ≡ None → IsSome (ask_of v.scanner)
  asks_so going = scan_asks (setting_of eq (low hash) mode store.words.tables) (coding_of (low hash)) (run call_trace.begun start)
      (map_left (setting_of eq (low hash) mode store.words.tables) call_trace.begun) call_trace.since v.scanner.scan call_trace.loaded v.scanner.state
      scanning.relies.state going

  -- and has then scanned each slot
  pub over_so : reply_of v.scanner ≡ Some Reply_done → HasScannedIn eq hash mode store v call_trace
  over_so over = record {
    scanned = scan_over (setting_of eq (low hash) mode store.words.tables) (coding_of (low hash)) (run call_trace.begun start)
        (map_left (setting_of eq (low hash) mode store.words.tables) call_trace.begun) call_trace.since v.scanner.scan call_trace.loaded v.scanner.state
        scanning.relies.state over;
    list = scanning.given;
  }
