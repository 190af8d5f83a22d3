use Rattle.papaya_call_law.proofs.relies.says.Goals as goal
use Rattle.papaya_call_law.proofs.ReliesHeld.{machine_made_waits}
use Rattle.papaya_call_law.proofs.SaysWords.{machine_shows}
use Rattle.papaya_call_law.proofs.SaysSaid.{machine_said}
use Rattle.papaya_call_law.proofs.SaysChanges.{machine_aborted, machine_changed}
use Rattle.papaya_call_law.proofs.SaysOnce.{machine_shown}
use Rattle.papaya_call_law.proofs.SaysValues.{machine_values}
use Rattle.papaya_call_law.proofs.SaysOver.{computed_unsaid, machine_chosen, machine_exchanges, machine_paired, unsaid}

pub returns-clause-words : goal.returns-clause-words
returns-clause-words c = λ m answer shows. machine_shows m answer shows

pub returns-clause-said : goal.returns-clause-said
returns-clause-said c = λ m answer said valid shows stands. machine_said m answer said valid shows stands

pub returns-clause-chosen : goal.returns-clause-chosen
returns-clause-chosen c = λ m n said is e stands. machine_chosen m n said is e stands

pub returns-clause-paired : goal.returns-clause-paired
returns-clause-paired c = λ m n is valid shows e. machine_paired m n is valid shows e

pub returns-clause-exchanges : goal.returns-clause-exchanges
returns-clause-exchanges c = λ m t x old new is fits valid e. machine_exchanges m t x old new is fits valid e

pub returns-clause-computes : goal.returns-clause-computes
returns-clause-computes c = λ m n agrees is stands. computed_unsaid m n agrees is stands

pub returns-clause-fresh : goal.returns-clause-fresh
returns-clause-fresh c = λ m shown n agrees e stands. unsaid m shown n agrees e stands

pub returns-clause-changes : goal.returns-clause-changes
returns-clause-changes c = λ m answer old new valid before e. machine_changed m answer old new valid before e

pub returns-clause-aborts : goal.returns-clause-aborts
returns-clause-aborts c = λ m answer with open_still e. machine_aborted m answer with open_still e

pub returns-clause-once : goal.returns-clause-once
returns-clause-once c = λ m answer h. machine_shown m answer h

pub returns-clause-values : goal.returns-clause-values
returns-clause-values c = λ m answer h. machine_values m answer h

pub returns-clause-pairs : goal.returns-clause-pairs
returns-clause-pairs c = λ m n shown makes stands. machine_made_waits m n shown makes stands
