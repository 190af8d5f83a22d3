use Rattle.papaya_call_law.proofs.relies.follows.Goals as goal
use Rattle.papaya_call_law.proofs.Followed.{asked_of_task, counts_after, opens_once, table_named, table_told}

pub returns-clause-table : goal.returns-clause-table
returns-clause-table c = table_told

pub returns-clause-named : goal.returns-clause-named
returns-clause-named c = table_named

pub returns-clause-asks : goal.returns-clause-asks
returns-clause-asks c = asked_of_task

pub returns-clause-opens : goal.returns-clause-opens
returns-clause-opens c = opens_once

pub returns-clause-changed : goal.returns-clause-changed
returns-clause-changed c = counts_after
