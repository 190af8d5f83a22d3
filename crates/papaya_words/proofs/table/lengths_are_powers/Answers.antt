use Rattle.papaya_words.proofs.Lengths.{table_power}
use Rattle.papaya_words.proofs.table.lengths_are_powers.Goals as goal

pub returns : goal.returns
returns c = table_power
