use Rattle.papaya_words_law.specs.Exchange.{run}
use Rattle.std.proofs.Common.{◌++◌}
use Rattle.papaya_call_law.specs.TrueAnswers.{word_of}
use Rattle.papaya_call_alone.proofs.Measures.{measure_less}
use Rattle.papaya_call.specs.Scanner.{after}
use Rattle.papaya_call_alone.specs.Scanners.{left_of_scan}
use Rattle.papaya_call_alone.proofs.ScanLefts.{scan_small}
use Rattle.papaya_call_alone.proofs.ScanLaw.{state_nearer}
use Rattle.papaya_call_alone.proofs.scanners.alone_scanners.Goals as goal

pub returns-clause-nearer : goal.returns-clause-nearer
returns-clause-nearer g c = λ h d hashed s m keeps since may bounded scanner loaded r made read answer es loaded' told ask asks before later spends
    few valid.
    let out = state_nearer h d hashed s m keeps since may bounded scanner r.mode r.cut loaded answer es loaded' scanner.state r.state made read told in
    measure_less before later (left_of_scan (word_of h d (run since s)) scanner.state)
    (left_of_scan (word_of h d (run (since ++ es) s)) (after scanner answer).state) few
    (scan_small (word_of h d (run (since ++ es) s)) scanner.mode (after scanner answer).state valid.state out.read)
    (out.less ask asks before later spends)

pub returns-clause-current : goal.returns-clause-current
returns-clause-current g c = λ h d hashed s m keeps since may bounded scanner loaded r made read answer es loaded' told.
    (state_nearer h d hashed s m keeps since may bounded scanner r.mode r.cut loaded answer es loaded' scanner.state r.state made read told).read
