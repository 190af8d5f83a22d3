use Rattle.papaya_call_law.proofs.loads.lookups_are_bounded.Goals as goal
use Rattle.papaya_call_law.proofs.LoadsBound.{lookup_bounded}

pub returns : goal.returns
returns c = λ hash initial mode most limit answers fit. lookup_bounded limit hash initial mode most answers fit
