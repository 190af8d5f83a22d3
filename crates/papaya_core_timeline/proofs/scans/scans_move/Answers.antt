use Rattle.papaya_words_keys.specs.Hashes.{hash_of}
use Rattle.papaya_core_timeline.proofs.KeptCore.{keys_lawful}
use Rattle.papaya_core_timeline.proofs.ScanLaw.{counted, moves}
use Rattle.papaya_core_timeline.proofs.scans.scans_move.Goals as goal

pub returns-clause-moves : goal.returns-clause-moves
returns-clause-moves g c = λ s core es call_traces kept v call_trace scanning caller a store' v' heard core'.
    moves g.K.PartialEq.eq (hash_of g.K.Hash.hash_input g.S.BuildHasher.build_hasher g.S.Hasher.Hasher.write g.S.Hasher.Hasher.finish s.store.hasher) s
    (keys_lawful g.K.PartialEq.eq g.K.Hash.hash_input g.S.BuildHasher.build_hasher g.S.Hasher.Hasher.write g.S.Hasher.Hasher.finish g.met.K.Eq.laws
    g.met.K.Hash.respects_eq s.store.hasher)
    core call_traces v call_trace caller a store' v' core' es kept scanning heard

pub returns-clause-counted : goal.returns-clause-counted
returns-clause-counted g c = λ s core es call_traces kept v call_trace scanning caller a store' v' heard core'.
    counted g.K.PartialEq.eq (hash_of g.K.Hash.hash_input g.S.BuildHasher.build_hasher g.S.Hasher.Hasher.write g.S.Hasher.Hasher.finish s.store.hasher) s
    (keys_lawful g.K.PartialEq.eq g.K.Hash.hash_input g.S.BuildHasher.build_hasher g.S.Hasher.Hasher.write g.S.Hasher.Hasher.finish g.met.K.Eq.laws
    g.met.K.Hash.respects_eq s.store.hasher)
    core call_traces v call_trace caller a store' v' core' es kept scanning heard
