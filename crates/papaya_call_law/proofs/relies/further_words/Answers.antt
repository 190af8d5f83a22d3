use Rattle.papaya_call_law.proofs.relies.further_words.Goals as goal
use Rattle.papaya_call_law.proofs.FurtherWords.{key_word}

pub returns : goal.returns
returns g c = λ h d matches hash s at. key_word h matches hash d s at
