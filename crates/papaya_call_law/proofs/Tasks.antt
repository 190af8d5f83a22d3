-- A machine keeps its task and its hash.
use Rattle.std.proofs.Common.{◌≡◌, refl}
use Rattle.papaya_call.specs.declared.ask.Answer.{Answer}
use Rattle.papaya_call.specs.declared.ask.Answer.TheVariants.{Word as Word_read, Exchanged}
use Rattle.papaya_call.specs.declared.ask.Answer.TheVariants.{Found as Found_instead, Yes, Op, Size}
use Rattle.papaya_call.specs.declared.ask.Answer.TheVariants.{Made as Made_number, Ok as Ok_done}
use Rattle.papaya_call.specs.declared.ask.Answer.TheVariants.{Refused as Was_refused}
use Rattle.papaya_call.specs.declared.machine.Machine.{Machine}
use Rattle.papaya_call.specs.Machine.{after}

-- no answer changes the task and the key of a call
pub same_task : (m : Machine) (answer : Answer) → ((after m answer).task ≡ m.task) × ((after m answer).hash ≡ m.hash)
same_task m (Word_read word) = (refl, refl)
same_task m Exchanged = (refl, refl)
same_task m (Found_instead word) = (refl, refl)
same_task m (Yes same) = (refl, refl)
same_task m (Op kind) = (refl, refl)
same_task m (Size slots limit) = (refl, refl)
same_task m (Made_number n) = (refl, refl)
same_task m Ok_done = (refl, refl)
same_task m (Was_refused refused) = (refl, refl)
