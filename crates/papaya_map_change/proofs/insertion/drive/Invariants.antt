use Rattle.std.specs.Prelude.{◌≡◌}
use Rattle.papaya_call.specs.declared.chain.machine.Phase.TheVariants.{Calling}
use Rattle.papaya_call.specs.ChainMachine.{IsValid}
use Rattle.papaya_map_book.specs.Hashes.{hash_of}
use Rattle.papaya_map_change.specs.Doing.{has_changed}
use Rattle.papaya_map_change.specs.Inserting.{Continues}
use Rattle.papaya_map_book.specs.Parts.{begun_of}
use Rattle.papaya_map_book.specs.Windows.{Does, Sees}
use Rattle.papaya_map_change.proofs.insertion.drive.Given as goal

-- The insertion relies on what has been observed now, and is in phase `Calling`.
abbrev pub invariant-loop : goal.invariant-loop
invariant-loop g l =
    Continues g.K.PartialEq.eq (hash_of g.K.Hash.hash_input g.S.BuildHasher.build_hasher g.S.Hasher.Hasher.write g.S.Hasher.Hasher.finish)
    (begun_of l.window.book.now.parts) l.window.book.now.begun.book l.fn.window.sight.log l.fn.begun l.window.sight.log l.insertion
    × IsValid l.insertion.writer.call.machine
    × (l.insertion.writer.call.machine.phase ≡ Calling)
    × (l.insertion.writer.call.machine.call.initial ≡ l.fn.begun.writer.call.machine.call.initial)
    × Sees l.fn.window l.window
    × Does (has_changed l.insertion.writer.call.machine) l.fn.window l.window
