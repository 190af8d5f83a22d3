use Rattle.papaya_core_timeline.specs.Solo.{whatever}
use Rattle.papaya_core_timeline.proofs.SoloEnds.{alone_begins, alone_nears}
use Rattle.papaya_core_timeline.proofs.SoloResizes.{resizer_done, resizer_nears}
use Rattle.papaya_core_timeline.proofs.SoloScanners.{scanner_nears}
use Rattle.papaya_core_timeline.proofs.solo.one_call_ends.Goals as goal

pub returns-clause-begins : goal.returns-clause-begins
returns-clause-begins g c s s' call idle lawful x = alone_begins g.K.PartialEq.eq g.K.Hash.hash_input g.S.BuildHasher.build_hasher
    g.S.Hasher.Hasher.write g.S.Hasher.Hasher.finish g.met.K.Eq.laws g.met.K.Hash.respects_eq s s' call idle lawful x

pub returns-clause-nearer : goal.returns-clause-nearer
returns-clause-nearer g c refuse s s' r event lone x = alone_nears g.K.PartialEq.eq g.K.Hash.hash_input g.S.BuildHasher.build_hasher
    g.S.Hasher.Hasher.write g.S.Hasher.Hasher.finish g.met.K.Eq.laws g.met.K.Hash.respects_eq s s' whatever refuse r event lone x

pub returns-clause-resizer_nearer : goal.returns-clause-resizer_nearer
returns-clause-resizer_nearer g c refuse s s' resizer event lone x = resizer_nears g.K.PartialEq.eq g.K.Hash.hash_input g.S.BuildHasher.build_hasher
    g.S.Hasher.Hasher.write g.S.Hasher.Hasher.finish g.met.K.Eq.laws g.met.K.Hash.respects_eq refuse s s' event resizer lone x

pub returns-clause-resized : goal.returns-clause-resized
returns-clause-resized g c refuse s s' resizer event lone x = resizer_done g.K.PartialEq.eq g.K.Hash.hash_input g.S.BuildHasher.build_hasher
    g.S.Hasher.Hasher.write g.S.Hasher.Hasher.finish g.met.K.Eq.laws g.met.K.Hash.respects_eq refuse s s' event resizer lone x

pub returns-clause-scanner_nearer : goal.returns-clause-scanner_nearer
returns-clause-scanner_nearer g c refuse s s' v event lone x = scanner_nears g.K.PartialEq.eq g.K.Hash.hash_input g.S.BuildHasher.build_hasher
    g.S.Hasher.Hasher.write g.S.Hasher.Hasher.finish g.met.K.Eq.laws g.met.K.Hash.respects_eq whatever refuse s s' event v lone x
