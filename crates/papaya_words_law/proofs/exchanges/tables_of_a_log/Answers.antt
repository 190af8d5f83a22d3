use Rattle.papaya_words_law.proofs.exchanges.tables_of_a_log.Goals as goal
use Rattle.papaya_words_law.specs.Class.{IsOn}
use Rattle.papaya_words_law.proofs.Logs.{on_comes, comes_after, planned_agrees, lawful_in, log_grows}

pub returns-clause-comes : goal.returns-clause-comes
returns-clause-comes g c = λ s t on. on_comes s t on

pub returns-clause-brings : goal.returns-clause-brings
returns-clause-brings g c = λ s e t come. comes_after s e t come

pub returns-clause-planned : goal.returns-clause-planned
returns-clause-planned g c = λ h s size size' places places' chunks chunks' a b d.
    planned_agrees h (IsOn s.first s.next) size size' places places' chunks chunks' a b d

pub returns-clause-lawful : goal.returns-clause-lawful
returns-clause-lawful g c = λ h law es sized. lawful_in h law es sized

pub returns-clause-log : goal.returns-clause-log
returns-clause-log g c = λ h es e law all may. log_grows h es e law all may
