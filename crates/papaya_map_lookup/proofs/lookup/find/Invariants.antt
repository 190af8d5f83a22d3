use Rattle.std.proofs.Common.{◌≡◌, List}
use mathlib.Core.List.{IsPrefix}
use Rattle.papaya_map_book.specs.declared.rule.entry.Event.{Event}
use Rattle.papaya_map_book.specs.Hashes.{hash_of}
use Rattle.papaya_map_book.specs.Logs.{exchanges_of}
use Rattle.papaya_map_book.specs.Windows.{Sees}
use Rattle.papaya_map_lookup.specs.Lookups.{left_of}
use Rattle.papaya_map_lookup.proofs.Turning.{IsHeld, numbered}
use Rattle.papaya_map_lookup.proofs.lookup.find.Given as goal

-- The lookup that began at some log since has received the number of the table that is held, or that there is none.
abbrev pub invariant-loop-held : goal.invariant-loop-held
invariant-loop-held g l = (began : List (Event g.row.K.Denot g.row.V.Denot g.row.S.Denot)) × IsPrefix l.fn.window.sight.log began
    × IsPrefix began l.window.sight.log
    × IsHeld g.K.PartialEq.eq (hash_of g.K.Hash.hash_input g.S.BuildHasher.build_hasher g.S.Hasher.Hasher.write g.S.Hasher.Hasher.finish)
    (g.Q.Equivalent.matches l.key) (λ s. hash_of g.Q.Hash.hash_input g.S.BuildHasher.build_hasher g.S.Hasher.Hasher.write g.S.Hasher.Hasher.finish s
    l.key) (exchanges_of began) l.hash l.window.book.now l.window.sight.log l.number l.held
    × Sees l.fn.window l.window
    × (l.window.own ≡ l.fn.window.own)

abbrev pub decreases-loop-held : goal.decreases-loop-held
decreases-loop-held g l = left_of (numbered l.number)
