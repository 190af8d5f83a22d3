use Rattle.papaya_words_keys.specs.Hashes.{hash_of}
use Rattle.papaya_seq.specs.Entries.{Fills}
use Rattle.papaya_seq.specs.PutAlone.{ArePutAlone}
use Rattle.papaya_set.specs.Sets.{entry_of_key}
use Rattle.papaya_set.proofs.seq.HashSet.extend.Given as goal

-- The keys so far were inserted.
abbrev pub invariant-loop-key : goal.invariant-loop-key
invariant-loop-key g l =
    Fills g.K.PartialEq.eq entry_of_key l.fn.self l.yielded l.self
    × ArePutAlone g.K.PartialEq.eq
    (hash_of g.K.Hash.hash_input g.S.BuildHasher.build_hasher g.S.Hasher.Hasher.write g.S.Hasher.Hasher.finish) entry_of_key l.fn.self l.yielded l.self
