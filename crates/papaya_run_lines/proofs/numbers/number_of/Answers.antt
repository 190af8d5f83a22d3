use Rattle.papaya_run_lines.proofs.NumberLemmas.{number_utf8}
use Rattle.papaya_run_lines.proofs.numbers.number_of.Goals as goal

pub returns-in-Err : goal.returns-in-Err
returns-in-Err c n w = c.in-Err.ensures.cases.0 (number_utf8 c.args.text.now n w)
