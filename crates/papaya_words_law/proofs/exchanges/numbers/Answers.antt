use Rattle.papaya_words_law.proofs.exchanges.numbers.Goals as goal
use Rattle.papaya_words_law.proofs.Numbers.{numbers_below}

pub returns : goal.returns
returns g c = λ h n most s es may le. numbers_below h n most es s may le
