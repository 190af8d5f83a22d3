use Rattle.std.proofs.Common.{map}
use Rattle.papaya_words_keys.specs.Hashes.{hash_of}
use Rattle.papaya_seq.specs.Clones.{IsCopied}
use Rattle.papaya_seq.specs.Map.{deref_pair}
use Rattle.papaya_seq.specs.PutAlone.{AreClonedAlone}
use Rattle.papaya_seq.proofs.seq.HashMap.copy_from.Given as goal

-- clones of the pairs so far were inserted
abbrev pub invariant-loop-key : goal.invariant-loop-key
invariant-loop-key g l =
    IsCopied g.K.PartialEq.eq g.K.Clone.is_clone g.V.Clone.is_clone l.fn.self (map deref_pair l.yielded) l.self
    × AreClonedAlone g.K.PartialEq.eq
    (hash_of g.K.Hash.hash_input g.S.BuildHasher.build_hasher g.S.Hasher.Hasher.write g.S.Hasher.Hasher.finish) g.K.Clone.is_clone g.V.Clone.is_clone
    l.fn.self (map deref_pair l.yielded) l.self
