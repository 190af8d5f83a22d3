use Rattle.papaya_call_law.proofs.Stable.{all_carries, all_stable}
use Rattle.papaya_call_law.proofs.chain.stable.Goals as goal

pub returns-clause-exchanges : goal.returns-clause-exchanges
returns-clause-exchanges g c = λ h d hashed begun since es may k m loaded r. all_stable h d hashed begun since es may k m loaded r

pub returns-clause-tables : goal.returns-clause-tables
returns-clause-tables g c = λ h h' d hashed hashed' begun since may agrees k m loaded r. all_carries h h' d hashed begun since may agrees k m loaded r
