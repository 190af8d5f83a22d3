use Rattle.papaya_call_law.proofs.relies.replies.Goals as goal
use Rattle.papaya_call_law.proofs.ReliesReply.{machine_changes, machine_replies}
use Rattle.papaya_call_law.proofs.ReliesReplyRefused.{machine_refused}

pub returns-clause-reply : goal.returns-clause-reply
returns-clause-reply g c = λ h d begun since k m loaded r reply e. machine_replies h d begun since k m loaded r reply e

pub returns-clause-change : goal.returns-clause-change
returns-clause-change g c = λ h d hashed begun since k m loaded r s answer es loaded' told.
    machine_changes h d hashed k s m r.hash loaded es loaded' answer told

pub returns-clause-refusal : goal.returns-clause-refusal
returns-clause-refusal g c = λ m answer refused open_still e. machine_refused m refused answer open_still e
