use Rattle.papaya_words_keys.specs.Hashes.{hash_of}
use Rattle.papaya_core_timeline.proofs.KeptCore.{keys_lawful}
use Rattle.papaya_core_timeline.proofs.ScanLaw.{asks_so, beside, heard, over_so}
use Rattle.papaya_core_timeline.proofs.ScanBegins.{scan_begins}
use Rattle.papaya_core_timeline.proofs.ScanStands.{scan_core}
use Rattle.papaya_core_timeline.proofs.scans.scans_keep.Goals as goal

pub returns-clause-begins : goal.returns-clause-begins
returns-clause-begins g c = λ s core es scan initial number v is answers none.
    scan_begins g.K.PartialEq.eq (hash_of g.K.Hash.hash_input g.S.BuildHasher.build_hasher g.S.Hasher.Hasher.write g.S.Hasher.Hasher.finish
    s.store.hasher) s es scan initial number v is answers none

pub returns-clause-steps : goal.returns-clause-steps
returns-clause-steps g c = λ refuse s core caller idle es call_traces kept v call_trace scanning ask asks a store' v' performs.
    heard g.K.PartialEq.eq (hash_of g.K.Hash.hash_input g.S.BuildHasher.build_hasher g.S.Hasher.Hasher.write g.S.Hasher.Hasher.finish)
    (record { op = g.A.Answers.op_gives; yes = g.A.Answers.yes_gives }) refuse s
    (keys_lawful g.K.PartialEq.eq g.K.Hash.hash_input g.S.BuildHasher.build_hasher g.S.Hasher.Hasher.write g.S.Hasher.Hasher.finish g.met.K.Eq.laws
    g.met.K.Hash.respects_eq s.store.hasher)
    core call_traces v call_trace caller idle es kept scanning ask asks a store' v' performs

pub returns-clause-beside : goal.returns-clause-beside
returns-clause-beside g c = λ refuse s core es call_traces kept v call_trace scanning caller s' event reply steps.
    beside g.K.PartialEq.eq (hash_of g.K.Hash.hash_input g.S.BuildHasher.build_hasher g.S.Hasher.Hasher.write g.S.Hasher.Hasher.finish)
    (record { op = g.A.Answers.op_gives; yes = g.A.Answers.yes_gives }) refuse s
    (keys_lawful g.K.PartialEq.eq g.K.Hash.hash_input g.S.BuildHasher.build_hasher g.S.Hasher.Hasher.write g.S.Hasher.Hasher.finish g.met.K.Eq.laws
    g.met.K.Hash.respects_eq s.store.hasher)
    core call_traces v call_trace es kept scanning caller s' event reply steps

pub returns-clause-stands : goal.returns-clause-stands
returns-clause-stands g c = λ refuse s core v stands ask asks a store' v' performs.
    scan_core g.K.PartialEq.eq (record { op = g.A.Answers.op_gives; yes = g.A.Answers.yes_gives })
    (hash_of g.K.Hash.hash_input g.S.BuildHasher.build_hasher g.S.Hasher.Hasher.write g.S.Hasher.Hasher.finish) refuse s.store s.callers s.mode core
    v stands a store' v' ask asks performs

pub returns-clause-asks : goal.returns-clause-asks
returns-clause-asks g c = λ s es v call_trace scanning going.
    asks_so g.K.PartialEq.eq (hash_of g.K.Hash.hash_input g.S.BuildHasher.build_hasher g.S.Hasher.Hasher.write g.S.Hasher.Hasher.finish
    s.store.hasher) s.mode s.store v es call_trace scanning going

pub returns-clause-over : goal.returns-clause-over
returns-clause-over g c = λ s es v call_trace scanning over.
    over_so g.K.PartialEq.eq (hash_of g.K.Hash.hash_input g.S.BuildHasher.build_hasher g.S.Hasher.Hasher.write g.S.Hasher.Hasher.finish
    s.store.hasher) s.mode s.store v es call_trace scanning over
