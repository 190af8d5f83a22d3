use Rattle.std.proofs.Common.{◌≡◌, IfErr, subst}
use Rattle.std.specs.Prelude.{OnOk}
use Rattle.papaya_words_keys.specs.Hashes.{hash_of}
use Rattle.papaya_seq.specs.Clones.{IsRebuildRefusal}
use Rattle.papaya_seq.specs.Map.{MapState}
use Rattle.papaya_seq.specs.PutAlone.{IsRebuiltAlone}
use Rattle.papaya_set.proofs.seq.HashSet.reclaim.Goals as goal

pub returns-clause-err : goal.returns-clause-err
returns-clause-err g c = subst (λ (s : MapState _ _ _).
    IfErr c.reclaim.result (λ e. (c.reclaim.new.self ≡ s) × IsRebuildRefusal {V = Unit {0}} g.K.PartialEq.eq g.K.Clone.is_clone (λ v w. w ≡ v) s e))
    c.self.view_is c.reclaim.ensures.err

pub returns-clause-alone : goal.returns-clause-alone
returns-clause-alone g c =
    let hash = (hash_of g.K.Hash.hash_input g.S.BuildHasher.build_hasher g.S.Hasher.Hasher.write g.S.Hasher.Hasher.finish) in
    subst (λ (s : MapState _ _ _).
    OnOk c.reclaim.result (IsRebuiltAlone {V = Unit {0}} g.K.PartialEq.eq hash g.K.Clone.is_clone (λ v w. w ≡ v) s c.reclaim.new.self))
    c.self.view_is c.reclaim.ensures.alone
