use Rattle.papaya_words_keys.specs.Hashes.{hash_of}
use Rattle.papaya_core_timeline.proofs.KeptCore.{keys_lawful}
use Rattle.papaya_core_timeline.proofs.ScanLaw.{nears}
use Rattle.papaya_core_timeline.proofs.scans.scans_end.Goals as goal

pub returns : goal.returns
returns g c = λ refuse s core es call_traces kept v call_trace scanning stands read ask asks a store' v' performs caller heard.
    nears g.K.PartialEq.eq (hash_of g.K.Hash.hash_input g.S.BuildHasher.build_hasher g.S.Hasher.Hasher.write g.S.Hasher.Hasher.finish)
    (record { op = g.A.Answers.op_gives; yes = g.A.Answers.yes_gives }) refuse s
    (keys_lawful g.K.PartialEq.eq g.K.Hash.hash_input g.S.BuildHasher.build_hasher g.S.Hasher.Hasher.write g.S.Hasher.Hasher.finish g.met.K.Eq.laws
    g.met.K.Hash.respects_eq s.store.hasher)
    core call_traces v call_trace stands read ask asks a store' v' performs caller es kept scanning heard
