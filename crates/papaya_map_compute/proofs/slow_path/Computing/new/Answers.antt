use Rattle.std.proofs.Common.{refl, ap, ◌∙◌}
use Rattle.papaya_call.specs.declared.call.Task.TheVariants.{Compute}
use Rattle.papaya_call.specs.declared.chain.machine.Machine.{Machine}
use Rattle.papaya_call.specs.ChainMachine.{started}
use Rattle.papaya_map_book.specs.Hashes.{hash_of}
use Rattle.papaya_map_book.specs.Parts.{begun_of}
use Rattle.papaya_map_change.specs.Doing.{has_changed}
use Rattle.papaya_map_compute.proofs.ComputeReplies.{begins}
use Rattle.papaya_map_compute.proofs.slow_path.Computing.new.Goals as goal

pub new-requires-clause-chunked : goal.new-requires-clause-chunked
new-requires-clause-chunked g c = c.args.window.now.book.now.chunked

pub returns-clause-begins : goal.returns-clause-begins
returns-clause-begins g c =
    let w = c.args.window.now.book.now in let log = c.args.window.now.sight.log in
    let machine = c.new.ensures.machine ∙ ap (λ h. started Compute h w.parts.mode c.args.initial 0 w.parts.limit) c.hash-hash.ensures in
    begins g.K.PartialEq.eq (hash_of g.K.Hash.hash_input g.S.BuildHasher.build_hasher g.S.Hasher.Hasher.write g.S.Hasher.Hasher.finish)
    (begun_of w.parts) w.begun.book c.args.key log _ c.requires.lawful c.args.initial machine c.new.ensures.empty.table c.new.ensures.empty.pairs refl refl refl refl refl

pub returns-clause-ahead : goal.returns-clause-ahead
returns-clause-ahead g c = record {
  valid = c.new.ensures.valid;
  calling = ap (λ (m : Machine). m.phase) c.new.ensures.machine;
  initial_is = ap (λ (m : Machine). m.call.initial) c.new.ensures.machine;
  unchanged = ap has_changed c.new.ensures.machine;
}
