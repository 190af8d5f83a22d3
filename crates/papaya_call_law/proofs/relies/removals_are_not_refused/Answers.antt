use Rattle.papaya_call_law.proofs.relies.removals_are_not_refused.Goals as goal
use Rattle.papaya_call_law.proofs.ReliesRemovals.{removal_unrefused}

pub returns : goal.returns
returns g c = λ h d hashed begun since may alone k m loaded r task open_still answer refused e.
    removal_unrefused h d hashed.lawful begun since may k loaded alone m r task open_still answer refused e
