use Rattle.std.specs.Prelude.{◌≡◌, None, List}
use Rattle.papaya_map_book.specs.declared.rule.entry.Event.{Event}
use Rattle.papaya_call.specs.Search.{IsWithin}
use Rattle.papaya_call.specs.declared.search.Search.TheVariants.{Looking}
use Rattle.papaya_call.specs.declared.machine.State.TheVariants.{Searching}
use Rattle.papaya_map_book.specs.Windows.{Sees}
use Rattle.papaya_map_change.specs.Seeking.{Seeker, left_at}
use Rattle.papaya_map_change.specs.Window.Seeking.{IsSeekingAt}
use Rattle.papaya_map_change.proofs.fast_path.seek.Given as goal

-- The outcomes so far led from the first place to this one.
abbrev pub invariant-loop-next : goal.invariant-loop-next
invariant-loop-next g l =
    ((who : Seeker) (begun : List (Event _ _ _)) → IsSeekingAt who l.fn.window l.key begun (Searching (Looking l.fn.at)) None l.table
    → IsSeekingAt who l.window l.key begun (Searching (Looking l.place)) None l.table)
    × IsWithin l.place
    × Sees l.fn.window l.window
    × (l.window.own ≡ l.fn.window.own)

-- the places that are left to the search
abbrev pub decreases-loop-next : goal.decreases-loop-next
decreases-loop-next g l = left_at l.place
