use Rattle.std.proofs.Common.{◌≡◌, ◌≤◌, List}
use Rattle.papaya_call.specs.declared.machine.State.TheVariants.{Searching}
use Rattle.papaya_call.specs.declared.search.Search.TheVariants.{Looking}
use Rattle.papaya_map_book.specs.declared.rule.entry.Event.{Event}
use Rattle.papaya_map_book.specs.Hashes.{hash_of}
use Rattle.papaya_map_book.specs.Logs.{exchanges_of}
use Rattle.papaya_map_book.specs.Parts.{begun_of}
use Rattle.papaya_map_book.specs.Windows.{Sees}
use Rattle.papaya_map_lookup.specs.Lookups.{IsReadingAt, IsNextStage, left_of}
use Rattle.papaya_map_lookup.specs.declared.lookup.ProbeHit.TheVariants.{Next}
use Rattle.papaya_map_lookup.proofs.lookup.search.Given as goal

-- The outcomes so far led each lookup that was in the search's first state to this place.
abbrev pub invariant-loop-next : goal.invariant-loop-next
invariant-loop-next g l =
    ((began : List (Event g.row.K.Denot g.row.V.Denot g.row.S.Denot))
    → IsReadingAt g.K.PartialEq.eq (hash_of g.K.Hash.hash_input g.S.BuildHasher.build_hasher g.S.Hasher.Hasher.write g.S.Hasher.Hasher.finish)
    (begun_of l.fn.window.book.now.parts) (g.Q.Equivalent.matches l.key)
    (hash_of g.Q.Hash.hash_input g.S.BuildHasher.build_hasher g.S.Hasher.Hasher.write g.S.Hasher.Hasher.finish l.fn.window.book.now.parts.hasher l.key)
    (exchanges_of began) l.hash l.fn.window.sight.log (Searching (Looking l.fn.at)) l.table
    → IsNextStage g.K.PartialEq.eq (hash_of g.K.Hash.hash_input g.S.BuildHasher.build_hasher g.S.Hasher.Hasher.write g.S.Hasher.Hasher.finish)
    (begun_of l.window.book.now.parts) l.window.book.now.begun.book (g.Q.Equivalent.matches l.key)
    (hash_of g.Q.Hash.hash_input g.S.BuildHasher.build_hasher g.S.Hasher.Hasher.write g.S.Hasher.Hasher.finish l.window.book.now.parts.hasher l.key)
    (exchanges_of began) l.hash l.window.sight.log l.table (Next l.place))
    × (left_of (Searching (Looking l.place)) ≤ left_of (Searching (Looking l.fn.at)))
    × Sees l.fn.window l.window
    × (l.window.own ≡ l.fn.window.own)

abbrev pub decreases-loop-next : goal.decreases-loop-next
decreases-loop-next g l = left_of (Searching (Looking l.place))
