use Rattle.papaya_words_law.proofs.exchanges.keys_stay.Goals as goal
use Rattle.papaya_words_law.proofs.Kept.{key_stable}

pub returns : goal.returns
returns g c = λ h s s' l t x k of_key. key_stable h s s' l t x k of_key
