-- How the words and the arena of a core relate to the law of exchanges.
use Rattle.std.specs.Prelude.{◌≡◌, ◌≢◌, ℕ, ◌+◌, ◌%◌, ◌^◌, ◌<◌, ◌≤◌, ◌==◌, ◌⊎◌, Bool, true, false}
use Rattle.std.specs.Prelude.{if◌then◌else◌, Option, None, Some, List, [], ◌∷◌, ◌++◌, length}
use Rattle.papaya_words.specs.Chunks.{chunk_len, chunk_of}
use Rattle.papaya_words.specs.Table.{TableWords}
use Rattle.papaya_words.specs.declared.limits.TheConstants.{MAX_LOG_LEN, MAX_TABLES}
use Rattle.papaya_words.specs.declared.resize_mode.ResizeMode.{ResizeMode}
use Rattle.papaya_words.specs.declared.resize_mode.ResizeMode.TheVariants.{Incremental, Blocking}
use Rattle.papaya_call.specs.declared.ask.At.{At}
use Rattle.papaya_call.specs.declared.ask.At.TheVariants.{Root}
use Rattle.papaya_call.specs.declared.ask.Ask.TheVariants.{Exchange as Asks_exchange}
use Rattle.papaya_call.specs.Machine.{HasClosure}
use Rattle.papaya_call.specs.declared.copy.link.Link.{Link}
use Rattle.papaya_call.specs.declared.copy.link.Link.TheVariants.{Linking}
use Rattle.papaya_call.specs.declared.chain.ask.Ask.TheVariants.{Call}
use Rattle.papaya_call.specs.ChainMachine.{ask_of}
use Rattle.papaya_call_law.specs.Goes.{link_in}
use Rattle.papaya_call_law.specs.ChainRelies.{Relies}
use Rattle.papaya_call_law.specs.ChainAnswers.{LoadedPairs, nothing_loaded}
use Rattle.papaya_words_law.specs.Allows.{AllAllowed}
use Rattle.papaya_words_law.specs.Code.{Coding}
use Rattle.papaya_words_law.specs.Exchange.{Setting, Exchange, run, start}
use Rattle.papaya_words_law.specs.Grows.{Comes, planned}
use Rattle.papaya_words_law.specs.Hashing.{hashed}
use Rattle.papaya_words_law.specs.Hints.{IsHint}
use Rattle.papaya_words_law.specs.Invariant.{named}
use Rattle.papaya_words_law.specs.Meaning.{map_left}
use Rattle.papaya_call_law.specs.Relies.{change_in}
use Rattle.papaya_call_law.specs.Says.{IsAnswered, Makes, NamesPairs, ActsOn}
use Rattle.papaya_call_law.specs.TrueAnswers.{IsOneOf, word_of}
use Rattle.papaya_core_store.specs.declared.store.Mode.{Mode}
use Rattle.papaya_core_store.specs.declared.pairs.Part.{Part}
use Rattle.papaya_core_store.specs.declared.pairs.Running.{Running}
use Rattle.papaya_core_timeline.specs.declared.seat.Seat.{Seat}
use Rattle.papaya_core_timeline.specs.Callers.{resizing, running, scanning}
use Rattle.papaya_call.specs.declared.chain.resizer.Resizer.{Resizer}
use Rattle.papaya_call.specs.declared.chain.resizer.ResizerState.TheVariants.{Opening}
use Rattle.papaya_call_law.specs.Resizers.{HasLink, ReliesResizer}
use Rattle.papaya_core_timeline.specs.Core.{IsCore}
use Rattle.papaya_core_store.specs.Pairs.{value_in}
use Rattle.papaya_core_store.specs.Performs.{own_key, own_value}
use Rattle.papaya_core_store.specs.Store.{StoreState, Stored, pair_of}
use Rattle.papaya_core_store.specs.Tables.{hint_at, table_of, word_at}
use Rattle.papaya_call.specs.declared.chain.scanner.ScannerState.{ScannerState}
use Rattle.papaya_call.specs.declared.chain.scanner.ScannerState.TheVariants.{Copying}
use Rattle.papaya_call.specs.declared.chain.scanner.Scan.{Scan}
use Rattle.papaya_call.specs.declared.chain.scanner.Scan.TheVariants.{Retain}
use Rattle.papaya_call_law.specs.ScanAnswers as scans
use Rattle.papaya_call_law.specs.Scans.{ReliesScanner}
use Rattle.papaya_core_store.specs.declared.scans.Scanning.{Scanning}

-- whether the core resizes with blocking
abbrev pub is_blocking : ResizeMode → Bool
is_blocking (Incremental chunk) = false
is_blocking Blocking = true

-- how many slots a table has; 1 where there is no such table
abbrev pub slots_in : Option TableWords → ℕ
slots_in None = 1
slots_in (Some t) = length t.slots

-- at how many places a search of it looks; 1 where there is no such table
abbrev pub places_in : Option TableWords → ℕ
places_in None = 1
places_in (Some t) = t.limit + 1

-- how many words for chunks it has; 0 where there is no such table
abbrev pub chunks_in : Option TableWords → ℕ
chunks_in None = 0
chunks_in (Some t) = length t.done

-- the setting of the law that is given by the tables of a core
abbrev pub setting_of : {K V : Type 0} → (K → K → Bool) → (K → ℕ) → Mode → List TableWords
    → Setting K (Stored K V)
setting_of eq hash mode tables =
    planned (hashed (is_blocking mode.resize) (chunk_of (chunk_len mode.resize)) mode.limit
    (λ p. p.key) eq hash)
    (λ t. slots_in (table_of tables t)) (λ t. places_in (table_of tables t))
    (λ t. chunks_in (table_of tables t))

-- the coding in which a word names a pair by its number
abbrev pub coding_of : {K V : Type 0} → (K → ℕ) → Coding K (Stored K V)
coding_of hash = record { number = λ p. p.number; hash = hash }

-- the low 64 bits of a hash
abbrev pub low : {K : Type 0} → (K → ℕ) → K → ℕ
low hash k = hash k % 2 ^ 64

-- What a proof records of a call: the exchanges when it began, those since then, and the pairs that
-- its machine has learned of, with the one that it carries to another table. For a call that scans
-- a table it also has the pairs that its scanner has learned of, returned and called its closure
-- with.
pub record CallTrace (K V : Type 0) : Type 0 where
  pub begun : List (Exchange (Stored K V))
  pub since : List (Exchange (Stored K V))
  pub loaded : LoadedPairs (Stored K V)
  pub scan : scans.LoadedPairs (Stored K V)

-- What a proof records of a call that scans a table: the exchanges when it began, those since then,
-- and the pairs that its scanner has learned of, returned and called its closure with.
pub record ScanTrace (K V : Type 0) : Type 0 where
  pub begun : List (Exchange (Stored K V))
  pub since : List (Exchange (Stored K V))
  pub loaded : scans.LoadedPairs (Stored K V)

abbrev pub scan_trace : {K V : Type 0} → CallTrace K V → ScanTrace K V
scan_trace call_trace =
    record { begun = call_trace.begun; since = call_trace.since; loaded = call_trace.scan }

-- the same after a step that made the exchanges `made`
abbrev pub told_more : {K V : Type 0} → ScanTrace K V → List (Exchange (Stored K V))
    → scans.LoadedPairs (Stored K V) → ScanTrace K V
told_more call_trace made loaded = record {
  begun = call_trace.begun;
  since = call_trace.since ++ made;
  loaded = loaded;
}

-- the numbers of these pairs, oldest first; the list of pairs has the newest first
abbrev pub numbers_of : {K V : Type 0} → List (Stored K V) → List ℕ
numbers_of [] = []
numbers_of (p ∷ older) = numbers_of older ++ p.number ∷ []

-- `link` is the table that the copy of all is making
abbrev pub IsScanLink : ScannerState → Link → Type 0
IsScanLink (Copying stage) link = HasLink stage link
IsScanLink state link = ⊥

-- the closure was called with the pair p
abbrev pub WasShown : {P : Type 0} → List (P × Bool) → P → Type 0
WasShown [] p = ⊥
WasShown (one ∷ older) p = (one.0 ≡ p) ⊎ WasShown older p

-- a retain has its closure's answers
abbrev pub HasAnswers : {A : Type 0} → Scan → Option A → Type 0
HasAnswers {A = A} Retain left = (a : A) × (left ≡ Some a)
HasAnswers _ left = Unit {0}

module _ {K V S : Type 0} (store : StoreState K V S) where
  -- the arena has the pair p under its number
  abbrev pub IsInArena : Stored K V → Type 0
  IsInArena p = pair_of store p.number ≡ Some p

  -- there is a table of this number
  abbrev pub IsMade : ℕ → Type 0
  IsMade t = (words : TableWords) × (table_of store.words.tables t ≡ Some words)

  -- there is a table of number t, with words for at least `chunks` chunks
  abbrev pub IsMadeFor : (t chunks : ℕ) → Type 0
  IsMadeFor t chunks = (words : TableWords) × (table_of store.words.tables t ≡ Some words)
      × (chunks ≤ length words.done)

module _ {K V S : Type 0} (eq : K → K → Bool) (hash : K → ℕ) (mode : Mode)
    (store : StoreState K V S) where
  -- what a resizer relies on holds after the exchanges es, for the pairs that are recorded of it
  pub record IsResizing (resizer : Resizer) (es : List (Exchange (Stored K V)))
      (call_trace : CallTrace K V) : Type 0 where
    pub relies : ReliesResizer (setting_of eq (low hash) mode store.words.tables)
        (coding_of (low hash)) (run es start) resizer call_trace.loaded
    pub last : (p : Stored K V) → call_trace.loaded.call.last ≡ Some p → IsInArena store p
    pub carried : (p : Stored K V) → call_trace.loaded.kept ≡ Some p → IsInArena store p
    -- the table that it is about to open or to link was made as requested
    pub opens : (t : ℕ) → resizer.state ≡ Opening t → IsMade store t
    pub links : (behind t chunks : ℕ) → HasLink resizer.state (Linking behind t chunks)
        → IsMadeFor store t chunks

module _ {K V S A : Type 0} (eq : K → K → Bool) (hash : K → ℕ) (mode : Mode)
    (store : StoreState K V S) where
  -- what a scanner relies on holds after the exchanges es, for the pairs that are recorded of it
  pub record IsScanning (v : Scanning A) (es : List (Exchange (Stored K V)))
      (call_trace : ScanTrace K V) : Type 0 where
    pub split : call_trace.begun ++ call_trace.since ≡ es
    pub relies : ReliesScanner (setting_of eq (low hash) mode store.words.tables)
        (coding_of (low hash)) (run call_trace.begun start)
        (map_left (setting_of eq (low hash) mode store.words.tables) call_trace.begun)
        call_trace.since
        v.scanner call_trace.loaded
    pub answers : HasAnswers v.scanner.scan v.answers
    -- its list has the numbers of the pairs that it returned
    pub given : v.given ≡ numbers_of call_trace.loaded.given
    pub last : (p : Stored K V) → call_trace.loaded.copy.call.last ≡ Some p → IsInArena store p
    pub carried : (p : Stored K V) → call_trace.loaded.copy.kept ≡ Some p → IsInArena store p
    pub shown : (p : Stored K V) → WasShown call_trace.loaded.shown p → IsInArena store p
    -- the table that it is about to link was made as requested
    pub links : (behind t chunks : ℕ) → IsScanLink v.scanner.state (Linking behind t chunks)
        → IsMadeFor store t chunks

  -- the pair of number n has the call's value
  abbrev pub HasOwnValue : Running K V A → ℕ → Type 0
  HasOwnValue r n = (p : Stored K V) × (pair_of store n ≡ Some p)
      × (own_value store r ≡ Some p.value)

  -- what a call under way relies on holds after the exchanges es, for the pairs that are recorded
  -- of it
  pub record IsCall (r : Running K V A) (es : List (Exchange (Stored K V)))
      (call_trace : CallTrace K V) : Type 0 where
    pub key : K
    pub own : own_key store r ≡ Some key
    -- a call with a closure has its answers
    pub answers : HasClosure r.machine.call.task → (a : A) × (r.answers ≡ Some a)
    pub split : call_trace.begun ++ call_trace.since ≡ es
    pub relies : Relies (setting_of eq (low hash) mode store.words.tables) (coding_of (low hash))
        call_trace.begun call_trace.since key r.machine call_trace.loaded
    pub last : (p : Stored K V) → call_trace.loaded.call.last ≡ Some p → IsInArena store p
    pub carried : (p : Stored K V) → call_trace.loaded.kept ≡ Some p → IsInArena store p
    pub made : (p : Stored K V) → IsOneOf call_trace.loaded.call.made p → IsInArena store p
    -- the table that it is about to open or to link was made as requested
    pub opens : (t : ℕ) → ask_of r.machine ≡ Call (Asks_exchange Root 0 t) → IsMade store t
    pub links : (behind t chunks : ℕ) → link_in r.machine.phase ≡ Some (Linking behind t chunks)
        → IsMadeFor store t chunks
    -- before its change, no slot names a pair that it made
    pub unwritten : (p : Stored K V) → IsOneOf call_trace.loaded.call.made p
        → change_in r.machine.call.state ≡ None
        → (t x : ℕ) (q : Stored K V) → named ((run es start).slot t x) ≡ Some q
        → q.number ≢ p.number
    -- the word of a pair that its closure is called with, or was called with, is not 0
    pub shows : NamesPairs r.machine.call
    -- the value that it is to store, if it has one, is its own or in the arena
    pub valued : (part : Part V) → r.value ≡ Some part → (v : V)
        × (value_in store.pairs part ≡ Some v)
    -- a pair that is to replace another one has that value, unless a newer value is yet to be
    -- stored
    pub again : (i n : ℕ) → ActsOn r.machine.call (Makes (Some i) n)
        → IsAnswered r.machine.call.state ⊎ HasOwnValue r n

  -- The words are those that the exchanges es leave, which were allowed, and what each call under
  -- way relies on holds.
  pub record IsConsistent (callers : List (Seat K V A)) (es : List (Exchange (Stored K V)))
      (call_traces : ℕ → CallTrace K V) : Type 0 where
    pub allowed : AllAllowed (setting_of eq (low hash) mode store.words.tables) start es
    pub coded : (at : At) → word_of (setting_of eq (low hash) mode store.words.tables)
        (coding_of (low hash)) (run es start) at ≡ word_at store.words at
    -- each hint is one that the slot may have
    pub hints : (n i : ℕ) → IsHint (setting_of eq (low hash) mode store.words.tables)
        (coding_of (low hash)) (run es start) n i (hint_at store.words n i)
    pub made : (t : ℕ) → 0 < t → Comes (run es start) t → IsMade store t
    pub logged : (t x : ℕ) (p : Stored K V) → named ((run es start).slot t x) ≡ Some p
        → IsInArena store p
    -- the arena has no more pairs than it may have
    pub few : length store.pairs ≤ MAX_LOG_LEN
    -- there are no more tables than there may be
    pub tables_few : length store.words.tables ≤ MAX_TABLES
    pub calls : (caller : ℕ) (r : Running K V A) → running callers caller ≡ Some r
        → IsCall r es (call_traces caller)
    pub resizers : (caller : ℕ) (resizer : Resizer) → resizing callers caller ≡ Some resizer
        → IsResizing eq hash mode store resizer es (call_traces caller)
    pub scanners : (caller : ℕ) (v : Scanning A) → scanning callers caller ≡ Some v
        → IsScanning v es (scan_trace (call_traces caller))
    -- pairs that two calls made have different numbers
    pub apart : (c d : ℕ) (r q : Running K V A) → running callers c ≡ Some r
        → running callers d ≡ Some q → c ≢ d → (p p' : Stored K V)
        → IsOneOf (call_traces c).loaded.call.made p
        → IsOneOf (call_traces d).loaded.call.made p' → p.number ≢ p'.number

-- The invariant of a core: its tables and machines are in order, and there is a list of exchanges
-- by which its words obey the law.
pub record IsLawfulCore {K V S A : Type 0} (eq : K → K → Bool) (hash : K → ℕ)
    (store : StoreState K V S) (callers : List (Seat K V A)) (mode : Mode) : Type 0 where
  pub core : IsCore store callers mode
  pub law : (es : List (Exchange (Stored K V)))
      × ((call_traces : ℕ → CallTrace K V) × IsConsistent eq hash mode store callers es call_traces)

-- the traces after a step of the caller that made the exchanges `made`, with `loaded` as the pairs
-- that its machine has learned of
abbrev pub told_call_traces : {K V : Type 0} → (ℕ → CallTrace K V) → ℕ
    → List (Exchange (Stored K V)) → LoadedPairs (Stored K V) → ℕ → CallTrace K V
told_call_traces call_traces caller made loaded d = record {
  begun = (call_traces d).begun;
  since = (call_traces d).since ++ made;
  loaded = if d == caller then loaded else (call_traces d).loaded;
  scan = (call_traces d).scan;
}

-- the same after a step of a caller that scans a table
abbrev pub scanned_call_traces : {K V : Type 0} → (ℕ → CallTrace K V) → ℕ
    → List (Exchange (Stored K V)) → scans.LoadedPairs (Stored K V) → ℕ → CallTrace K V
scanned_call_traces call_traces caller made loaded d =
    record (told_call_traces call_traces caller made (call_traces caller).loaded d) {
      scan = if d == caller then loaded else (call_traces d).scan;
    }

-- the traces after a call of a caller began
abbrev pub begun_call_traces : {K V : Type 0} → (ℕ → CallTrace K V) → ℕ
    → List (Exchange (Stored K V)) → ℕ → CallTrace K V
begun_call_traces call_traces caller es d = if d == caller
    then record {
      begun = es;
      since = [];
      loaded = nothing_loaded;
      scan = scans.nothing_loaded;
    } else call_traces d
