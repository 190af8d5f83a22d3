-- The count of pairs, and what is yet to be added to it.
use Rattle.std.specs.Prelude.{◌≡◌, ℤ, pos, negsuc, ◌+ℤ◌, Bool, List, [], ◌∷◌, length, Option, Some, None}
use Rattle.std.specs.Int.{w64, int_wrap}
use Rattle.papaya_call.specs.ChainMachine.{ask_of}
use Rattle.papaya_call_law.specs.Goes as calls
use Rattle.papaya_core_store.specs.declared.pairs.Running.{Running}
use Rattle.papaya_core_timeline.specs.declared.seat.Seat.{Seat}
use Rattle.papaya_core_timeline.specs.declared.seat.Work.{Work}
use Rattle.papaya_core_timeline.specs.declared.seat.Work.TheVariants as works
use Rattle.papaya_core_timeline.specs.Content.{content}
use Rattle.papaya_core_store.specs.Store.{StoreState}
use Rattle.papaya_call.specs.declared.chain.scanner.ScannerState.{ScannerState}
use Rattle.papaya_call.specs.declared.chain.scanner.ScannerState.TheVariants.{Uncounting}

-- what a call that scans a table has yet to add to the count: -1 if it has just deleted a pair, and
-- otherwise 0
abbrev pub owed_scan : ScannerState → ℤ
owed_scan (Uncounting spot) = negsuc 0
owed_scan state = pos 0

module _ {K V A : Type 0} where
  -- what a call on one key has yet to add to the count, for a change that it made; 0 if there is no
  -- such call
  abbrev pub owed_of : Option (Running K V A) → ℤ
  owed_of None = pos 0
  owed_of (Some r) = calls.owed_in (ask_of r.machine)

  -- what a caller's call has yet to add, if it has one; one that resizes the map adds nothing
  abbrev pub owed_work : Option (Work K V A) → ℤ
  owed_work None = pos 0
  owed_work (Some (works.Call r)) = owed_of (Some r)
  owed_work (Some (works.Resize resizer)) = pos 0
  owed_work (Some (works.Scan v)) = owed_scan v.scanner.state

  -- what all calls under way have yet to add
  abbrev pub owed_in : List (Seat K V A) → ℤ
  owed_in [] = pos 0
  owed_in (seat ∷ seats) = owed_work seat.work +ℤ owed_in seats

-- The sum of the shards plus what is yet to be added, wrapped to 64 bits, is the number of pairs in
-- the map.
abbrev pub IsCounted : {K V S A : Type 0} → (K → K → Bool) → StoreState K V S → List (Seat K V A)
    → Type 0
IsCounted eq store callers = int_wrap w64 (store.count.sum +ℤ owed_in callers) ≡ pos
    (length (content eq store))
