use Rattle.papaya_words_law.proofs.exchanges.codes.Goals as goal
use Rattle.papaya_words_law.proofs.Codes.{code_kind, code_empty, code_pair, code_fits, code_alike}
use Rattle.papaya_words_law.proofs.CodeSteps.{code_step, code_stays}

pub returns-clause-kind : goal.returns-clause-kind
returns-clause-kind g c = λ h d w. code_kind h d w

pub returns-clause-empty : goal.returns-clause-empty
returns-clause-empty g c = λ h d w e. code_empty h d w e

pub returns-clause-pair : goal.returns-clause-pair
returns-clause-pair g c = λ h d law w p e. code_pair h d law w p e

pub returns-clause-fits : goal.returns-clause-fits
returns-clause-fits g c = λ h d law w short. code_fits h d law w short

pub returns-clause-alike : goal.returns-clause-alike
returns-clause-alike g c = λ h d law v w e. code_alike h d law v w e

pub returns-clause-step : goal.returns-clause-step
returns-clause-step g c = λ h d law s e may t x at. code_step h d law s e may t x at

pub returns-clause-stays : goal.returns-clause-stays
returns-clause-stays g c = λ s e t x other. code_stays s e t x other
