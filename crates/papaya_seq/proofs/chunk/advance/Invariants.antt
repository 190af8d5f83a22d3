use Rattle.papaya_call_alone.specs.Measure.{words_left}
use Rattle.papaya_call.specs.Step.{IsValidCursor, next_cursor}
use Rattle.papaya_call.specs.declared.copy.step.Step.TheVariants.{Advancing}
use Rattle.papaya_words.specs.declared.resize_mode.ResizeMode.{ResizeMode}
use Rattle.papaya_words_keys.specs.Hashes.{hash_of}
use Rattle.papaya_seq.specs.Copies.{Steps}
use Rattle.papaya_seq.proofs.chunk.advance.Given as goal

-- the chunks so far brought the machine here from the chunk that was copied
abbrev pub invariant-loop-at : goal.invariant-loop-at
invariant-loop-at g l = IsValidCursor l.cursor
    × ((mode : ResizeMode)
    → Steps g.K.PartialEq.eq (hash_of g.K.Hash.hash_input g.S.BuildHasher.build_hasher g.S.Hasher.Hasher.write g.S.Hasher.Hasher.finish) mode
    l.fn.store (Advancing l.fn.cursor) l.store (next_cursor l.cursor))

-- the words that are left to load
abbrev pub decreases-loop-at : goal.decreases-loop-at
decreases-loop-at g l = words_left l.cursor
