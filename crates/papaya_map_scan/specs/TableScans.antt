-- How a table is scanned, by what a window has observed of the map. `began` is the log that had
-- been observed when the call began.
use Rattle.std.specs.Prelude.{ℕ, Bool, Option, List}
use Rattle.papaya_map_book.specs.declared.keyed.Keyed as keyed
use Rattle.papaya_map_book.specs.declared.rule.entry.Event.{Event}
use Rattle.papaya_map_book.specs.declared.window.Window.{Window}
use Rattle.papaya_map_book.specs.Logs.{Stored, state_of}
use Rattle.papaya_map_book.specs.Parts.{begun_of}
use Rattle.papaya_map_lookup.specs.Drivers.{own, past}
use Rattle.papaya_map_lookup.specs.History.{Change, history_of}
use Rattle.papaya_map_scan.specs.Leaving as leaving
use Rattle.papaya_map_scan.specs.Meeting as meeting
use Rattle.papaya_map_scan.specs.Taking as taking

module _ {K V S H : Type 0} {d : keyed.Ghosts S K H} where
  -- The number of the root.
  abbrev pub root_of : Window K V S H d → ℕ
  root_of w = (state_of w.sight.log).root

  -- The last exchange of the observed log deleted this very entry in this slot.
  abbrev pub IsBuried : Window K V S H d → (t x : ℕ) → Stored K V → Type 0
  IsBuried w = taking.IsBuried w.sight.log

  module _ (began : List (Event K V S)) where
    abbrev pub IsTaken : Window K V S H d → ℕ → Type 0
    IsTaken w t = taking.IsTaken (begun_of w.book.now.parts) began w.sight.log t

    abbrev pub IsTakenAt : Window K V S H d → ℕ → List (Event K V S) → Type 0
    IsTakenAt w t = taking.IsTakenAt (begun_of w.book.now.parts) began w.sight.log t

    abbrev pub IsMet : Window K V S H d → ℕ → Option (Stored K V) → Type 0
    IsMet w word pair = meeting.IsMet d.keys.eq (begun_of w.book.now.parts) w.book.now.begun.book
        began w.sight.log word pair

    module _ {F : Type 0} (judges : F → Stored K V → Bool → F → Type 0) where
      abbrev pub HasCalled : List (Change K (Stored K V)) → Window K V S H d → (first left : F)
          → List (Stored K V × Bool) → Type 0
      HasCalled made w first left said = leaving.HasCalled d.keys.eq (history_of began) (past w) made
          (own w) judges first left said

      -- The closure's calls and the changes that they caused continue from `w` to `w'`. If `ended`
      -- holds, and the slots of the table below `from` had been scanned, then those below `upto`
      -- have been.
      abbrev pub Scans : Window K V S H d → F → Window K V S H d → F → (t from upto : ℕ)
          → (ended : Type 0) → Type 0
      Scans w f w' f' t from upto ended = (first : F) (made : List (Change K (Stored K V)))
          (said : List (Stored K V × Bool)) → HasCalled made w first f said
          → (said' : List (Stored K V × Bool)) × HasCalled made w' first f' said'
          × (ended → (at : List (Event K V S)) → IsTakenAt w t at
          → taking.IsScannedUpTo at w.sight.log t from said
          → taking.IsScannedUpTo at w'.sight.log t upto said')
