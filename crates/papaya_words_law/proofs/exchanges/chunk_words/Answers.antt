use Rattle.papaya_words_law.proofs.OneMap.{covered}
use Rattle.papaya_words_law.proofs.exchanges.chunk_words.Goals as goal

pub returns : goal.returns
returns g c = λ h s m keeps t n was target. covered h s m keeps t n was target
