-- Restates the definitions of `Lookups`, and a thread's history and its own changes, by the window
-- through which the thread observes the map.
use Rattle.std.specs.Prelude.{◌≡◌, ℕ, MatchOption, List}
use mathlib.Core.List.{IsPrefix}
use denote.Bor.{Bor}
use Rattle.papaya_call.specs.declared.search.Place.{Place}
use Rattle.papaya_call.specs.declared.machine.State.{State as Stage}
use Rattle.papaya_map_book.specs.declared.rule.entry.Event.{Event}
use Rattle.papaya_map_book.specs.declared.keyed.Keyed as keyed
use Rattle.papaya_map_book.specs.declared.window.Window.{Window}
use Rattle.papaya_map_book.specs.Keys.{Query}
use Rattle.logbook.specs.Pages.{Named as Word}
use Rattle.papaya_map_book.specs.Logs.{Stored, exchanges_of}
use Rattle.papaya_map_book.specs.Parts.{begun_of}
use Rattle.papaya_map_book.specs.Sheets.{Sheet}
use Rattle.papaya_map_lookup.specs.declared.lookup.Hit.{Hit}
use Rattle.papaya_map_lookup.specs.declared.lookup.Met.{Met}
use Rattle.papaya_map_lookup.specs.declared.near.RootHit.{RootHit}
use Rattle.papaya_map_lookup.specs.declared.lookup.ProbeHit.{ProbeHit}
use Rattle.papaya_map_lookup.specs.History.{Change, changes_by, history_of, key_of}
use Rattle.papaya_map_lookup.specs.Lookups as lookups

module _ {K V S H : Type 0} {d : keyed.Ghosts S K H} where
  -- The history that the thread has observed.
  abbrev pub past : Window K V S H d → List (Change K (Stored K V))
  past w = history_of w.sight.log

  -- The changes that were made through this window.
  abbrev pub own : Window K V S H d → List (Change K (Stored K V))
  own w = changes_by w.own.done

  -- A bound on the steps that are left to a lookup after this outcome of a place.
  abbrev pub left_after : Window K V S H d → ProbeHit (Met K V) (Bor K × Bor V) → ℕ
  left_after w turn = lookups.left_of (lookups.next_stage w.book.now.parts.mode 0 turn)

  abbrev pub IsSlotAt : Window K V S H d → (number place : ℕ) → Word → Type 0
  IsSlotAt w = lookups.IsSlotAt w.sight.log

  abbrev pub HoldsHintAt : Window K V S H d → (number place : ℕ) → Word → Type 0
  HoldsHintAt w = lookups.HoldsHintAt w.sight.log

  module _ (query : Query K S) (began : List (Event K V S)) where
    -- The lookup that began at the log `began` would be at this stage, and holds this table.
    abbrev pub IsReadingAt : Window K V S H d → ℕ → Stage → Sheet → Type 0
    IsReadingAt w hash stage table = lookups.IsReadingAt d.keys.eq d.keys.hash
        (begun_of w.book.now.parts) query.matches (query.hash w.book.now.parts.hasher)
        (exchanges_of began) hash w.sight.log stage table

    -- This outcome of a place leads the lookup to its next stage, by what has been observed now.
    abbrev pub IsNextStage : Window K V S H d → ℕ → Sheet → ProbeHit (Met K V) (Bor K × Bor V) → Type 0
    IsNextStage w hash table turn = lookups.IsNextStage d.keys.eq d.keys.hash (begun_of w.book.now.parts)
        w.book.now.begun.book query.matches (query.hash w.book.now.parts.hasher)
        (exchanges_of began) hash w.sight.log table turn

    -- This result for the place `at` of the root leads the lookup to its next stage, by what has
    -- been observed now, unless the result is `Aside`.
    abbrev pub IsRootHit : Window K V S H d → ℕ → Sheet → Place → RootHit (Met K V) (Bor K × Bor V)
        → Type 0
    IsRootHit w hash table at near = MatchOption (lookups.hit_in_root at near) (Unit {0})
        (IsNextStage w hash table)

    -- A search that began at the log `began` has met the entry of this hit, by what has been
    -- observed now. The hit refers to the key and the value of that entry.
    abbrev pub HasHit : Window K V S H d → Hit K V S H → Type 0
    HasHit w hit = IsPrefix began w.sight.log × (hit.key.now ≡ key_of hit.met.stored)
        × (hit.value.now ≡ hit.met.stored.value.value) × lookups.HasHit d.keys.eq d.keys.hash
        (begun_of w.book.now.parts) w.book.now.begun.book query.matches
        (query.hash w.book.now.parts.hasher) (exchanges_of began) w.sight.log hit.table.now hit.met

  module _ (query : Query K S) where
    -- For some log at which it began, a lookup would be at this stage and holds this table.
    abbrev pub Reads : Window K V S H d → ℕ → Stage → Sheet → Type 0
    Reads w hash stage table = (began : List (Event K V S))
        × IsReadingAt query began w hash stage table

    -- This outcome leads each lookup that was at this stage in `w` to its next stage, by what has
    -- been observed in `w'`.
    abbrev pub AdvancesTo : (w w' : Window K V S H d) → ℕ → Stage → Sheet
        → ProbeHit (Met K V) (Bor K × Bor V) → Type 0
    AdvancesTo w w' hash stage table turn = (began : List (Event K V S))
        → IsReadingAt query began w hash stage table → IsNextStage query began w' hash table turn

  -- A search that began no earlier than at the log of `w` has met this entry, by what has been
  -- observed in `w'`.
  abbrev pub Hits : Query K S → (w w' : Window K V S H d) → Hit K V S H → Type 0
  Hits query w w' hit = (began : List (Event K V S)) × IsPrefix w.sight.log began
      × HasHit query began w' hit
