use Rattle.std.proofs.Common.{◌≡◌, subst}
use Rattle.papaya_words_keys.specs.Hashes.{hash_of}
use Rattle.papaya_seq.specs.Clones.{IsCloneRefusal, IsRebuilt}
use Rattle.papaya_seq.specs.Map.{MapState}
use Rattle.papaya_seq.specs.PutAlone.{IsClonedAlone}
use Rattle.papaya_set.proofs.seq.HashSet.try_clone.Goals as goal

pub returns-in-Err-clause-err : goal.returns-in-Err-clause-err
returns-in-Err-clause-err g c = subst (λ (s : MapState _ _ _).
    IsCloneRefusal {V = Unit {0}} g.K.PartialEq.eq g.K.Clone.is_clone (λ v w. w ≡ v) s.store c.in-Err.refused) c.self.view_is c.in-Err.ensures.err

pub returns-in-Ok-clause-clones : goal.returns-in-Ok-clause-clones
returns-in-Ok-clause-clones g c = subst (λ (s : MapState _ _ _).
    IsRebuilt {V = Unit {0}} g.K.PartialEq.eq g.K.Clone.is_clone (λ v w. w ≡ v) g.S.Clone.is_clone s c.in-Ok.map) c.self.view_is c.in-Ok.ensures.clones

pub returns-in-Ok-clause-alone : goal.returns-in-Ok-clause-alone
returns-in-Ok-clause-alone g c =
    let hash = (hash_of g.K.Hash.hash_input g.S.BuildHasher.build_hasher g.S.Hasher.Hasher.write g.S.Hasher.Hasher.finish) in
    subst (λ (s : MapState _ _ _). IsClonedAlone {V = Unit {0}} g.K.PartialEq.eq hash g.K.Clone.is_clone (λ v w. w ≡ v) s c.in-Ok.map)
    c.self.view_is c.in-Ok.ensures.alone
