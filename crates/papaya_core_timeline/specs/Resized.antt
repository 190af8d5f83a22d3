-- The end of a call that resizes the map or scans a table while no other call is under way: what
-- holds of the core until it ends, and what holds then.
use Rattle.std.specs.Prelude.{◌≡◌, ℕ, ◌+◌, ◌<◌, ◌≤◌, Bool, [], ◌∷◌, Some}
use Rattle.papaya_words.specs.Counter.{count_of}
use Rattle.papaya_call.specs.declared.chain.resizer.Resize.{Resize}
use Rattle.papaya_call.specs.declared.chain.resizer.Resize.TheVariants.{Chunk, CopyAll, Reserve}
use Rattle.papaya_call.specs.declared.chain.resizer.Resizer.{Resizer}
use Rattle.papaya_call.specs.TableSize.{entries_of}
use Rattle.papaya_call_alone.specs.Resizers.{IsResizerRead, IsWhole, resizer_measure}
use Rattle.papaya_core_store.specs.Store.{StoreState}
use Rattle.papaya_core_store.specs.Tables.{table_of, word_at}
use Rattle.papaya_core_timeline.specs.declared.seat.Work.{Work}
use Rattle.papaya_core_timeline.specs.declared.seat.Work.TheVariants as works
use Rattle.papaya_core_timeline.specs.Core.{CoreState}
use Rattle.papaya_core_timeline.specs.Ends.{IsLone, budget_of}
use Rattle.papaya_core_timeline.specs.Kept.{IsLawfulCore, slots_in}
use Rattle.papaya_call_alone.specs.Scanners.{IsScannerRead, scanner_measure}
use Rattle.papaya_core_store.specs.declared.scans.Scanning.{Scanning}

-- The only caller has this resizer under way, the core's invariant holds, and the words that the
-- call has read are unchanged.
pub record IsLoneResizer {K V S A : Type 0} (eq : K → K → Bool) (hash : S → K → ℕ)
    (s : CoreState K V S A) (resizer : Resizer) : Type 0 where
  pub callers : s.callers ≡ record { caller = 0; work = Some (works.Resize resizer) } ∷ []
  pub lawful : IsLawfulCore eq (hash s.store.hasher) s.store s.callers s.mode
  pub read : IsResizerRead (word_at s.store.words) resizer

-- a bound on how far such a call is from its end
abbrev pub lone_resizer_measure : {K V S A : Type 0} → CoreState K V S A → Resizer → ℕ
lone_resizer_measure s resizer = resizer_measure (budget_of s.store) s.store.words.root resizer

-- after a step the call is still under way, and its bound is smaller
pub record IsNearerResized {K V S A : Type 0} (eq : K → K → Bool) (hash : S → K → ℕ)
    (s : CoreState K V S A) (resizer : Resizer) (s' : CoreState K V S A) : Type 0 where
  pub later : Resizer
  pub lone : IsLoneResizer eq hash s' later
  pub less : lone_resizer_measure s' later < lone_resizer_measure s resizer

-- The only caller has this scanner under way, the core's invariant holds, and the words that the
-- call has read are unchanged.
pub record IsLoneScanner {K V S A : Type 0} (eq : K → K → Bool) (hash : S → K → ℕ)
    (s : CoreState K V S A) (v : Scanning A) : Type 0 where
  pub callers : s.callers ≡ record { caller = 0; work = Some (works.Scan v) } ∷ []
  pub lawful : IsLawfulCore eq (hash s.store.hasher) s.store s.callers s.mode
  pub read : IsScannerRead (word_at s.store.words) v.scanner

-- a bound on how far such a call is from its end
abbrev pub lone_scanner_measure : {K V S A : Type 0} → CoreState K V S A → Scanning A → ℕ
lone_scanner_measure s v =
    scanner_measure (budget_of s.store) (word_at s.store.words) v.scanner

-- after a step the call is still under way, and its bound is smaller
pub record IsNearerScanned {K V S A : Type 0} (eq : K → K → Bool) (hash : S → K → ℕ)
    (s : CoreState K V S A) (v : Scanning A) (s' : CoreState K V S A) : Type 0 where
  pub later : Scanning A
  pub lone : IsLoneScanner eq hash s' later
  pub less : lone_scanner_measure s' later < lone_scanner_measure s v

-- the only caller has this work under way
abbrev pub IsLoneWork : {K V S A : Type 0} → (K → K → Bool) → (S → K → ℕ) → CoreState K V S A
    → Work K V A → Type 0
IsLoneWork eq hash s (works.Call r) = IsLone eq hash s r
IsLoneWork eq hash s (works.Resize resizer) = IsLoneResizer eq hash s resizer
IsLoneWork eq hash s (works.Scan v) = IsLoneScanner eq hash s v

-- the root has enough slots for the pairs that the map counts and for `more` others
abbrev pub IsRoomy : {K V S : Type 0} → StoreState K V S → (more : ℕ) → Type 0
IsRoomy store more = (0 < store.words.root)
    × (entries_of (count_of store.count.sum + more)
    ≤ slots_in (table_of store.words.tables store.words.root))

-- what the call is for is done: no resize is pending, or there is room for `more` pairs
abbrev pub IsResized : {K V S : Type 0} → Resize → StoreState K V S → Type 0
IsResized Chunk store = Unit {0}
IsResized CopyAll store = IsWhole (word_at store.words)
IsResized (Reserve more) store = IsRoomy store more
