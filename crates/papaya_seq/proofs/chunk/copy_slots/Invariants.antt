use Rattle.std.specs.Prelude.{◌-◌}
use Rattle.papaya_call.specs.Step.{IsValidChunk}
use Rattle.papaya_call.specs.declared.copy.settle.Settle.TheVariants.{Looking}
use Rattle.papaya_call.specs.declared.copy.step.Step.TheVariants.{Settling}
use Rattle.papaya_words_keys.specs.Hashes.{hash_of}
use Rattle.papaya_seq.specs.Copies.{IsSized, Steps}
use Rattle.papaya_seq.proofs.chunk.copy_slots.Given as goal

-- the slots so far brought the machine from the first slot to this one
abbrev pub invariant-loop-settle : goal.invariant-loop-settle
invariant-loop-settle g l = IsValidChunk l.chunk × IsSized l.store
    × Steps g.K.PartialEq.eq (hash_of g.K.Hash.hash_input g.S.BuildHasher.build_hasher g.S.Hasher.Hasher.write g.S.Hasher.Hasher.finish) l.fn.mode
    l.fn.store (Settling l.fn.chunk Looking) l.store (Settling l.chunk Looking)

-- the slots that are left
abbrev pub decreases-loop-settle : goal.decreases-loop-settle
decreases-loop-settle g l = l.chunk.end - l.chunk.at
