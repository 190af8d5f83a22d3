-- The search of an insertion's or a compute's fast path, by what it has observed of the map.
use Rattle.std.specs.Prelude.{◌≡◌, Option, None, Some, List}
use denote.Bor.{Bor}
use Rattle.papaya_call.specs.declared.search.Place.{Place}
use Rattle.papaya_call.specs.declared.search.Search.TheVariants.{Looking, Reading}
use Rattle.papaya_call.specs.declared.machine.State.{State}
use Rattle.papaya_call.specs.declared.machine.State.TheVariants.{Searching}
use Rattle.papaya_map_book.specs.declared.keyed.Keyed as keyed
use Rattle.papaya_map_book.specs.declared.rule.entry.Event.{Event}
use Rattle.papaya_map_book.specs.declared.window.Window.{Window}
use Rattle.papaya_map_book.specs.Logs.{Stored}
use Rattle.papaya_map_book.specs.Parts.{begun_of}
use Rattle.papaya_map_book.specs.Sheets.{Sheet}
use Rattle.papaya_map_lookup.specs.Drivers.{past}
use Rattle.papaya_map_lookup.specs.declared.lookup.Met.{Met}
use Rattle.papaya_map_lookup.specs.History.{history_of}
use Rattle.papaya_map_change.specs.Changes.{IsPut}
use Rattle.papaya_map_change.specs.Seeking.{Seeker, leads, next_state, met_by}
use Rattle.papaya_map_change.specs.Seeking as seeking
use Rattle.papaya_map_change.specs.declared.fast_path.ProbeHit.{ProbeHit}

module _ {K V S H : Type 0} {d : keyed.Ghosts S K H} where
  -- A call of this key that began at the log `begun` would be in this state now.
  abbrev pub IsSeekingAt : Seeker → Window K V S H d → K → List (Event K V S) → State
      → Option (Stored K V) → Sheet → Type 0
  IsSeekingAt who w key begun state met table = seeking.IsSeekingAt who d.keys.eq d.keys.hash
      (begun_of w.book.now.parts) w.book.now.begun.book key begun w.sight.log state met table

  -- The same for an insertion.
  abbrev pub IsInsertingAt : Window K V S H d → K → List (Event K V S) → State → Option (Stored K V)
      → Sheet → Type 0
  IsInsertingAt w key begun state met table = seeking.IsInsertingAt d.keys.eq d.keys.hash
      (begun_of w.book.now.parts) w.book.now.begun.book key begun w.sight.log state met table

  -- Some insertion of this key would be in this state now.
  abbrev pub IsInState : Window K V S H d → K → State → Option (Stored K V) → Sheet → Type 0
  IsInState w key state met table = (begun : List (Event K V S))
      × IsInsertingAt w key begun state met table

  abbrev pub ProbesAt : Window K V S H d → K → Sheet → Place → Type 0
  ProbesAt w key table at = IsInState w key (Searching (Looking at)) None table

  abbrev pub ReadsAt : Window K V S H d → K → Sheet → Place → Type 0
  ReadsAt w key table at = IsInState w key (Searching (Reading at)) None table

  -- Some insertion of this key would be in the state to which this outcome leads.
  abbrev pub IsStateAfter : Window K V S H d → K → Sheet → ProbeHit (Met K V) → Type 0
  IsStateAfter w key table turn = (state : State) × (next_state turn ≡ Some state)
      × IsInState w key state (met_by turn) table

  -- This outcome leads each call that was in this state on to its next state, by what has been
  -- observed in `w'`.
  abbrev pub Probes : (w w' : Window K V S H d) → K → Sheet → State → ProbeHit (Met K V) → Type 0
  Probes w w' key table state turn = (who : Seeker) (begun : List (Event K V S)) (state' : State)
      → leads who turn ≡ Some state' → IsSeekingAt who w key begun state None table
      → IsSeekingAt who w' key begun state' (met_by turn) table

  -- A call that began at the log of `w` would be in the state to which this outcome leads.
  abbrev pub IsFoundFor : (w w' : Window K V S H d) → K → Sheet → ProbeHit (Met K V) → Type 0
  IsFoundFor w w' key table turn = (who : Seeker) (state : State) → leads who turn ≡ Some state
      → IsSeekingAt who w' key w.sight.log state (met_by turn) table

  -- Each insertion that this outcome led to its state has put in its value, with this result.
  abbrev pub HasWritten : (w w' : Window K V S H d) → K → V → Sheet → ProbeHit (Met K V) → Option (Bor V)
      → Type 0
  HasWritten w w' key value table turn answer = (begun : List (Event K V S)) (state : State)
      → next_state turn ≡ Some state → IsInsertingAt w key begun state (met_by turn) table
      → IsPut d.keys.eq key value (history_of begun) (past w') answer
