use Rattle.papaya_core_timeline.proofs.SoloLaw.{alone_answered, alone_lawful, alone_logged}
use Rattle.papaya_core_timeline.proofs.solo.one_call.Goals as goal

pub returns-clause-answers : goal.returns-clause-answers
returns-clause-answers g c s s' call reply lawful alone = alone_answered g.K.PartialEq.eq g.K.Hash.hash_input g.S.BuildHasher.build_hasher
    g.S.Hasher.Hasher.write g.S.Hasher.Hasher.finish g.met.K.Eq.laws g.met.K.Hash.respects_eq s s' call reply lawful alone

pub returns-clause-stores : goal.returns-clause-stores
returns-clause-stores g c s s' call reply lawful alone = alone_logged g.K.PartialEq.eq g.K.Hash.hash_input g.S.BuildHasher.build_hasher
    g.S.Hasher.Hasher.write g.S.Hasher.Hasher.finish g.met.K.Eq.laws g.met.K.Hash.respects_eq s s' call reply lawful alone

pub returns-clause-lawful : goal.returns-clause-lawful
returns-clause-lawful g c s s' call reply lawful counted alone = alone_lawful g.K.PartialEq.eq g.K.Hash.hash_input g.S.BuildHasher.build_hasher
    g.S.Hasher.Hasher.write g.S.Hasher.Hasher.finish g.met.K.Eq.laws g.met.K.Hash.respects_eq s s' call reply lawful alone counted
