use Rattle.papaya_call_law.proofs.relies.stable.Goals as goal
use Rattle.papaya_call_law.proofs.ReliesStable.{relies_stable}
use Rattle.papaya_call_law.proofs.ReliesTables.{relies_carries}

pub returns-clause-exchanges : goal.returns-clause-exchanges
returns-clause-exchanges g c = λ s c' hashed begun since es may k m loaded relies. relies_stable s c' hashed begun since es may k m loaded relies

pub returns-clause-tables : goal.returns-clause-tables
returns-clause-tables g c = λ s s' c' hashed hashed' begun since may agrees k m loaded relies.
    relies_carries s s' c' hashed begun since may k agrees m loaded relies
