use Rattle.std.proofs.Common.{◌≡◌, ◌-◌, List}
use Rattle.papaya_call.specs.declared.machine.State.TheVariants.{Searching}
use Rattle.papaya_call.specs.declared.search.Search.TheVariants.{Looking}
use Rattle.papaya_map_book.specs.declared.rule.entry.Event.{Event}
use Rattle.papaya_map_book.specs.Hashes.{hash_of}
use Rattle.papaya_map_book.specs.Logs.{exchanges_of}
use Rattle.papaya_map_book.specs.Parts.{begun_of}
use Rattle.papaya_map_book.specs.Windows.{Sees}
use Rattle.papaya_map_lookup.specs.Lookups.{IsReadingAt, IsNextStage}
use Rattle.papaya_map_lookup.specs.declared.lookup.ProbeHit.TheVariants.{Next}
use Rattle.papaya_map_lookup.proofs.near.search_slots.Given as goal

-- The places so far led each lookup that was in the search's first state to this one.
abbrev pub invariant-loop-turned : goal.invariant-loop-turned
invariant-loop-turned g l =
    ((began : List (Event g.row.K.Denot g.row.V.Denot g.row.S.Denot))
    → IsReadingAt g.K.PartialEq.eq (hash_of g.K.Hash.hash_input g.S.BuildHasher.build_hasher g.S.Hasher.Hasher.write g.S.Hasher.Hasher.finish)
    (begun_of l.fn.window.book.now.parts) (g.Q.Equivalent.matches l.key)
    (hash_of g.Q.Hash.hash_input g.S.BuildHasher.build_hasher g.S.Hasher.Hasher.write g.S.Hasher.Hasher.finish l.fn.window.book.now.parts.hasher l.key)
    (exchanges_of began) l.hash l.fn.window.sight.log (Searching (Looking l.fn.at)) l.table
    → IsNextStage g.K.PartialEq.eq (hash_of g.K.Hash.hash_input g.S.BuildHasher.build_hasher g.S.Hasher.Hasher.write g.S.Hasher.Hasher.finish)
    (begun_of l.window.book.now.parts) l.window.book.now.begun.book (g.Q.Equivalent.matches l.key)
    (hash_of g.Q.Hash.hash_input g.S.BuildHasher.build_hasher g.S.Hasher.Hasher.write g.S.Hasher.Hasher.finish l.window.book.now.parts.hasher l.key)
    (exchanges_of began) l.hash l.window.sight.log l.table (Next l.place))
    × (l.place.limit ≡ l.table.limit)
    × Sees l.fn.window l.window
    × (l.window.own ≡ l.fn.window.own)

abbrev pub decreases-loop-turned : goal.decreases-loop-turned
decreases-loop-turned g l = l.place.limit - l.place.probe.len
