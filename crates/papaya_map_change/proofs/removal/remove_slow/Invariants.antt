use Rattle.std.specs.Prelude.{◌≡◌}
use denote.Param.Always.{always_mut}
use Rattle.papaya_call.specs.declared.chain.machine.Phase.TheVariants.{Calling}
use Rattle.papaya_call.specs.ChainMachine.{IsValid}
use Rattle.papaya_map_book.specs.Hashes.{hash_of}
use Rattle.papaya_map_book.specs.Parts.{begun_of}
use Rattle.papaya_map_book.specs.Windows.{Does, Sees}
use Rattle.papaya_map_change.specs.Doing.{has_changed}
use Rattle.papaya_map_change.specs.Removing.{IsUnderWay}
use Rattle.papaya_map_change.specs.ClosureCalls.{Judges}
use Rattle.papaya_map_change.proofs.removal.remove_slow.Given as goal

-- The removal relies on what has been observed now, and is in phase `Calling`.
abbrev pub invariant-loop : goal.invariant-loop
invariant-loop g l =
    IsUnderWay g.K.PartialEq.eq (hash_of g.K.Hash.hash_input g.S.BuildHasher.build_hasher g.S.Hasher.Hasher.write g.S.Hasher.Hasher.finish)
    (begun_of l.window.book.now.parts) l.window.book.now.begun.book (g.Q.Equivalent.matches l.fn.key)
    (hash_of g.Q.Hash.hash_input g.S.BuildHasher.build_hasher g.S.Hasher.Hasher.write g.S.Hasher.Hasher.finish l.window.book.now.parts.hasher
    l.fn.key) (Judges g.F.FnMut) l.fn.agrees l.fn.window.sight.log l.window.sight.log l.removal l.agrees
    × IsValid l.removal.call.machine
    × (l.removal.call.machine.phase ≡ Calling)
    × (l.removal.call.machine.call.initial ≡ l.fn.means.initial)
    × Sees l.fn.window l.window
    × always_mut g.F.FnMut l.agrees
    × Does (has_changed l.removal.call.machine) l.fn.window l.window
