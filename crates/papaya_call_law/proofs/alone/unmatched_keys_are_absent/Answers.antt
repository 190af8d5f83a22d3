use Rattle.papaya_call_law.proofs.alone.unmatched_keys_are_absent.Goals as goal
use Rattle.papaya_call_law.proofs.AloneUnmatched.{machine_meets_none}

pub returns-clause-goes_on : goal.returns-clause-goes_on
returns-clause-goes_on c = λ m answer seeker none told. machine_meets_none m seeker answer none told
