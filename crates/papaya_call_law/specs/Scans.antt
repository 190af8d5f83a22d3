-- What a call that scans a table relies on, and what holds when it ends.
use Rattle.std.specs.Prelude.{◌≡◌, ◌⊎◌, ℕ, suc, ◌<◌, ◌≤◌, ◌++◌, true, false, Option, None, Some, List, []}
use Rattle.papaya_words.specs.Word.{kind_of, pair_of}
use Rattle.papaya_words.specs.declared.word.Kind.TheVariants as kinds
use Rattle.papaya_call.specs.declared.ask.At.{At}
use Rattle.papaya_call.specs.declared.chain.resizer.ResizerState.{ResizerState as Stage}
use Rattle.papaya_call.specs.declared.chain.resizer.ResizerState.TheVariants as stages
use Rattle.papaya_words_law.specs.Code.{Coding}
use Rattle.papaya_words_law.specs.Exchange.{Live, Setting, State as Words, Exchange, Bury, run}
use Rattle.papaya_words_law.specs.Meaning.{IsAtMoment, map_of}
use Rattle.papaya_words_law.specs.View.{held, look}
use Rattle.papaya_call_law.specs.Copier.{AreThere}
use Rattle.papaya_call_law.specs.Relies.{IsCutAs, IsModeOf}
use Rattle.papaya_call_law.specs.TrueAnswers.{IsOneOf}
use Rattle.papaya_call.specs.declared.copy.link.Link.{Link}
use Rattle.papaya_call_law.specs.Resizers.{IsStageAsked, ReliesStage, link_of}
use Rattle.papaya_call.specs.declared.chain.ask.ScanAsk.{ScanAsk}
use Rattle.papaya_call.specs.declared.chain.ask.ScanAsk.TheVariants.{Copy, Show, Given, AddToShard}
use Rattle.papaya_call.specs.declared.chain.scanner.Spot.{Spot}
use Rattle.papaya_call.specs.declared.chain.scanner.ScannerState.{ScannerState}
use Rattle.papaya_call.specs.declared.chain.scanner.ScannerState.TheVariants.{Copying, AtRoot, Sizing, Looking, Giving, Showing, Burying, Uncounting, Done, Refused}
use Rattle.papaya_call.specs.declared.chain.scanner.Scan.{Scan}
use Rattle.papaya_call.specs.declared.chain.scanner.Scan.TheVariants.{Clear, Retain, Walk}
use Rattle.papaya_call.specs.declared.chain.scanner.Scanner.{Scanner}
use Rattle.papaya_call_law.specs.ScanTaken.{IsTakenOut}
use Rattle.papaya_call_law.specs.ScanAnswers.{IsLastAnswer, LoadedPairs, count_of, last_of}

-- a search for the key k finds its pair in this slot of the table
pub record IsHeldIn {K P : Type 0} (g : Setting K P) (s : Words P) (table : ℕ) (k : K)
    (slot : ℕ) : Type 0 where
  pub at : ℕ
  pub within : at < g.places table
  pub is : g.place k table at ≡ slot
  pub has : held (look g s k table at) ≡ true

-- The words were s and the map m when this table was taken, and the exchanges since then are fs.
module _ {K P : Type 0} (g : Setting K P) (s : Words P) (m : K → Option P) (fs : List (Exchange P))
    (table : ℕ) where
  -- the scan owes nothing to the key: an iteration if the map had no pair of it at some moment
  -- since the table was taken; another scan if the map had none then, or the key's pair was taken
  -- out since
  abbrev pub IsOut : Scan → K → Type 0
  IsOut Walk k = IsAtMoment g m fs k None
  IsOut _ k = (m k ≡ None) ⊎ IsTakenOut g fs k

  -- the closure was called with the key's pair, and last returned that it stays
  abbrev pub IsKept : LoadedPairs P → K → Type 0
  IsKept loaded k = (p : P) × (m k ≡ Some p) × IsLastAnswer loaded.shown p true

  -- what a scan that has come to slot `upto` has done about the key's pair, which was in slot
  -- `slot`
  abbrev pub IsDealtWith : Scan → LoadedPairs P → (slot upto : ℕ) → K → Type 0
  IsDealtWith Walk loaded slot upto k = ((upto ≤ slot) × (count_of g loaded.given k ≡ 0))
      ⊎ ((slot < upto) × (count_of g loaded.given k ≡ 1))
  IsDealtWith Clear loaded slot upto k = upto ≤ slot
  IsDealtWith Retain loaded slot upto k = (upto ≤ slot) ⊎ ((slot < upto) × IsKept loaded k)

  abbrev pub IsScannedTo : Scan → LoadedPairs P → (upto : ℕ) → K → Type 0
  IsScannedTo scan loaded upto k = IsOut scan k
      ⊎ ((slot : ℕ) × IsHeldIn g s table k slot × IsDealtWith scan loaded slot upto k)

  -- p, the pair that was met, is the key's
  abbrev pub IsPairOf : Scan → P → K → Type 0
  IsPairOf Retain p k = m k ≡ Some p
  IsPairOf _ p k = g.same k (g.key p) ≡ true

  -- the same as `IsScannedTo`, with p as the pair that was met in slot `upto`
  abbrev pub IsMetIn : Scan → LoadedPairs P → (upto : ℕ) → P → K → Type 0
  IsMetIn scan loaded upto p k = IsOut scan k
      ⊎ ((slot : ℕ) × IsHeldIn g s table k slot × IsDealtWith scan loaded slot upto k
      × (slot ≡ upto → IsPairOf scan p k) × (g.same k (g.key p) ≡ true → slot ≡ upto))

-- The words were s and the map m when the call began, and the exchanges since then are `since`.
module _ {K P : Type 0} (g : Setting K P) (c : Coding K P) (s : Words P) (m : K → Option P)
    (since : List (Exchange P)) where
  -- the words after all exchanges
  abbrev pub now : Words P
  now = run since s

  -- The moment at which the table was taken: it was the root and, without blocking, had no next
  -- table. Each pair that was returned was in the map at some moment since then.
  pub record IsTaking (table : ℕ) (loaded : LoadedPairs P) (es fs : List (Exchange P)) : Type 0
    where
      pub is : es ++ fs ≡ since
      pub moment : loaded.before ≡ es
      pub root : (run es s).root ≡ table
      pub some : 0 < table
      pub last : g.blocking ≡ false → (run es s).next table ≡ 0
      pub given : (p : P) → IsOneOf loaded.given p
          → IsAtMoment g (map_of g m es) fs (g.key p) (Some p)

  -- the slots of the table before slot `upto` were scanned
  pub record IsScanning (scan : Scan) (loaded : LoadedPairs P) (table upto : ℕ) : Type 0 where
    pub es : List (Exchange P)
    pub fs : List (Exchange P)
    pub taken : IsTaking table loaded es fs
    pub each : (k : K) → IsScannedTo g (run es s) (map_of g m es) fs table scan loaded upto k

  -- in the slot to which the scan has come this word was loaded, which named the pair learned of
  -- last; and the map had that pair at some moment since the table was taken
  pub record IsMeeting (scan : Scan) (loaded : LoadedPairs P) (spot : Spot) (word : ℕ) : Type 0
    where
      pub es : List (Exchange P)
      pub fs : List (Exchange P)
      pub taken : IsTaking spot.table loaded es fs
      pub pair : P
      pub told : last_of loaded ≡ Some pair
      pub number : c.number pair ≡ pair_of word
      pub had : IsAtMoment g (map_of g m es) fs (g.key pair) (Some pair)
      pub each : (k : K) → IsMetIn g (run es s) (map_of g m es) fs spot.table scan loaded spot.slot
          pair k

  -- the slot is one of its table
  abbrev pub IsSpot : Spot → Type 0
  IsSpot spot = (spot.len ≡ g.size spot.table) × (spot.slot < spot.len)

  -- the pair of the word may be removed: for a retain, its closure was called with a pair of this
  -- number, and last returned that it does not stay
  abbrev pub MayTake : Scan → LoadedPairs P → (word : ℕ) → Type 0
  MayTake Walk loaded word = ⊥
  MayTake Clear loaded word = Unit {0}
  MayTake Retain loaded word = (p : P) × (c.number p ≡ pair_of word)
      × IsLastAnswer loaded.shown p false

  -- the scan may change the map: it is not an iteration
  abbrev pub Takes : Scan → Type 0
  Takes Walk = ⊥
  Takes _ = Unit {0}

  -- The end of an iteration. There is a moment of the call, at which there was no root or, without
  -- blocking, the root had no next table, such that each pair that was returned was in the map at
  -- some moment since then, and for each key that has had a pair ever since exactly one was
  -- returned.
  pub record HasWalked (loaded : LoadedPairs P) : Type 0 where
    pub es : List (Exchange P)
    pub fs : List (Exchange P)
    pub is : es ++ fs ≡ since
    pub moment : loaded.before ≡ es
    pub last : 0 < (run es s).root → g.blocking ≡ false → (run es s).next (run es s).root ≡ 0
    pub given : (p : P) → IsOneOf loaded.given p
        → IsAtMoment g (map_of g m es) fs (g.key p) (Some p)
    pub each : (k : K) → IsAtMoment g (map_of g m es) fs k None
        ⊎ (count_of g loaded.given k ≡ 1)

  -- the end of a clear: each pair that the map had when it began was taken out since
  abbrev pub HasCleared : Type 0
  HasCleared = (k : K) → (m k ≡ None) ⊎ IsTakenOut g since k

  -- the end of a retain: each such pair was taken out, or the closure was called with it and last
  -- returned that it stays
  abbrev pub HasRetained : LoadedPairs P → Type 0
  HasRetained loaded = (k : K) → (m k ≡ None) ⊎ IsTakenOut g since k
      ⊎ ((p : P) × (m k ≡ Some p) × IsLastAnswer loaded.shown p true)

  abbrev pub HasScanned : Scan → LoadedPairs P → Type 0
  HasScanned Walk loaded = HasWalked loaded
  HasScanned Clear loaded = HasCleared
  HasScanned Retain loaded = HasRetained loaded

  -- a stage to which the copy of all comes: it looks up the table after one that was the root, and
  -- needs no size for it
  abbrev pub IsOfAll : Stage → Type 0
  IsOfAll stages.AtRoot = Unit {0}
  IsOfAll (stages.Looking root len room) = (now.was_root root ≡ true) × (room ≡ None)
  IsOfAll (stages.Copying from copying) = Unit {0}
  IsOfAll _ = ⊥

  abbrev pub ReliesState : Scan → LoadedPairs P → ScannerState → Type 0
  ReliesState scan loaded (Copying stage) = (loaded.given ≡ []) × IsOfAll stage
      × ReliesStage g c now loaded.copy stage
  ReliesState scan loaded AtRoot = (loaded.given ≡ []) × (g.blocking ≡ true)
  ReliesState scan loaded (Sizing table) = (loaded.given ≡ []) × IsScanning scan loaded table 0
  ReliesState scan loaded (Looking spot) = IsSpot spot
      × IsScanning scan loaded spot.table spot.slot
  ReliesState scan loaded (Giving spot word) = IsSpot spot × (scan ≡ Walk)
      × IsMeeting scan loaded spot word
  ReliesState scan loaded (Showing spot word) = IsSpot spot × (scan ≡ Retain)
      × (kind_of word ≡ kinds.Live) × IsMeeting scan loaded spot word
  ReliesState scan loaded (Burying spot word) = IsSpot spot × (kind_of word ≡ kinds.Live)
      × MayTake scan loaded word × IsScanning scan loaded spot.table spot.slot
  ReliesState scan loaded (Uncounting spot) = IsSpot spot × Takes scan
      × IsScanning scan loaded spot.table (suc spot.slot)
  ReliesState scan loaded Done = HasScanned scan loaded
  ReliesState scan loaded (Refused refused) = Unit {0}

  -- a clear and a retain return no pairs
  abbrev pub GivesNone : Scan → LoadedPairs P → Type 0
  GivesNone Walk loaded = Unit {0}
  GivesNone _ loaded = loaded.given ≡ []

  pub record ReliesScanner (scanner : Scanner) (loaded : LoadedPairs P) : Type 0 where
    pub mode : IsModeOf scanner.mode g.blocking
    pub cut : IsCutAs scanner.mode g.chunk_of
    pub gives : GivesNone scanner.scan loaded
    pub state : ReliesState scanner.scan loaded scanner.state

  -- the pair learned of last has the number n, and was in the map at some moment since the table
  -- was taken, and so at some moment of the call
  pub record HadPair (loaded : LoadedPairs P) (n : ℕ) : Type 0 where
    pub pair : P
    pub told : last_of loaded ≡ Some pair
    pub number : c.number pair ≡ n
    pub fs : List (Exchange P)
    pub is : loaded.before ++ fs ≡ since
    pub had : IsAtMoment g (map_of g m loaded.before) fs (g.key pair) (Some pair)
    pub in_call : IsAtMoment g m since (g.key pair) (Some pair)

  -- what an ask names is there, and a pair that is returned, or with which the closure is called,
  -- was the map's
  abbrev pub IsNamed : LoadedPairs P → ScanAsk → Type 0
  IsNamed loaded (Copy ask) = AreThere g c now loaded.copy.call.last loaded.copy.kept ask
  IsNamed loaded (Show n) = HadPair loaded n
  IsNamed loaded (Given n) = HadPair loaded n
  IsNamed loaded (AddToShard by) = Unit {0}

  -- The exchange of the law for which a scanner asks: one of the copy, or the removal of the pair
  -- in its slot.
  abbrev pub IsScanAsked : Scan → ScannerState → At → ℕ → LoadedPairs P → Exchange P → Type 0
  IsScanAsked scan (Copying stage) at new loaded e = IsStageAsked g c now stage at new loaded.copy e
  IsScanAsked scan (Burying spot word) at new loaded e = MayTake scan loaded word
      × ((p : P) × (now.slot spot.table spot.slot ≡ Live p) × (c.number p ≡ pair_of word)
      × (e ≡ Bury spot.table spot.slot p))
  IsScanAsked scan state at new loaded e = ⊥

-- the making of a table that is under way for the copy of all, if there is one
abbrev pub link_in_scan : ScannerState → Option Link
link_in_scan (Copying stage) = link_of stage
link_in_scan _ = None
