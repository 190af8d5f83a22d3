-- The calls that callers have under way: on one key, to resize the map, or to scan a table.
use Rattle.std.specs.Prelude.{◌≡◌, ◌≢◌, ℕ, ◌<◌, ◌≤◌, ◌==◌, if◌then◌else◌, List, [], ◌∷◌, length, Option, Some, None, slice_get}
use Rattle.papaya_core_store.specs.declared.pairs.Running.{Running}
use Rattle.papaya_core_timeline.specs.declared.seat.Seat.{Seat}
use Rattle.papaya_call.specs.declared.chain.resizer.Resizer.{Resizer}
use Rattle.papaya_core_timeline.specs.declared.seat.Work.{Work}
use Rattle.papaya_core_timeline.specs.declared.seat.Work.TheVariants.{Call, Resize, Scan}
use Rattle.papaya_core_store.specs.declared.scans.Scanning.{Scanning}

module _ {K V A : Type 0} where
  -- the call on one key that is under way, if one is
  abbrev pub call_in : Option (Work K V A) → Option (Running K V A)
  call_in None = None
  call_in (Some (Call r)) = Some r
  call_in (Some (Resize resizer)) = None
  call_in (Some (Scan v)) = None

  -- the call that resizes the map, if one is under way
  abbrev pub resizer_in : Option (Work K V A) → Option Resizer
  resizer_in None = None
  resizer_in (Some (Call r)) = None
  resizer_in (Some (Resize resizer)) = Some resizer
  resizer_in (Some (Scan v)) = None

  -- the call that scans a table, if one is under way
  abbrev pub scanner_in : Option (Work K V A) → Option (Scanning A)
  scanner_in None = None
  scanner_in (Some (Call r)) = None
  scanner_in (Some (Resize resizer)) = None
  scanner_in (Some (Scan v)) = Some v

  -- what a caller has under way
  abbrev pub working : List (Seat K V A) → ℕ → Option (Work K V A)
  working [] caller = None
  working (seat ∷ seats) caller = if seat.caller == caller then seat.work else working seats caller

  -- the call on one key that a caller has under way
  abbrev pub running : List (Seat K V A) → ℕ → Option (Running K V A)
  running seats caller = call_in (working seats caller)

  -- the call that resizes the map, which a caller has under way
  abbrev pub resizing : List (Seat K V A) → ℕ → Option Resizer
  resizing seats caller = resizer_in (working seats caller)

  -- the call that scans a table, which a caller has under way
  abbrev pub scanning : List (Seat K V A) → ℕ → Option (Scanning A)
  scanning seats caller = scanner_in (working seats caller)

  -- the caller has a seat
  abbrev pub IsSeated : List (Seat K V A) → ℕ → Type 0
  IsSeated seats caller = (place : ℕ) × (seat : Seat K V A) × (slice_get seats place ≡ Some seat)
      × (seat.caller ≡ caller)

  -- the seats, with `work` in the caller's seat
  abbrev pub with_work : List (Seat K V A) → ℕ → Option (Work K V A) → List (Seat K V A)
  with_work [] caller work = []
  with_work (seat ∷ seats) caller work = if seat.caller == caller
      then record seat { work = work } ∷ seats else seat ∷ with_work seats caller work

  -- a call on one key, as work
  abbrev pub as_work : Option (Running K V A) → Option (Work K V A)
  as_work None = None
  as_work (Some r) = Some (Call r)

  -- the seats, with this call on one key in the caller's seat
  abbrev pub with_call : List (Seat K V A) → ℕ → Option (Running K V A) → List (Seat K V A)
  with_call seats caller call = with_work seats caller (as_work call)

  -- the seats, with a new one for the caller if it has none
  abbrev pub with_seat : List (Seat K V A) → ℕ → List (Seat K V A)
  with_seat [] caller = record { caller = caller; work = None } ∷ []
  with_seat (seat ∷ seats) caller = if seat.caller == caller then seat ∷ seats
      else seat ∷ with_seat seats caller

  -- no seat before `place` is the caller's, and the seat at `place`, if there is one, is
  pub record IsSeatAt (seats : List (Seat K V A)) (caller place : ℕ) : Type 0 where
    pub within : place ≤ length seats
    pub before : (i : ℕ) (seat : Seat K V A) → i < place → slice_get seats i ≡ Some seat
        → seat.caller ≢ caller
    pub here : (seat : Seat K V A) → slice_get seats place ≡ Some seat → seat.caller ≡ caller
