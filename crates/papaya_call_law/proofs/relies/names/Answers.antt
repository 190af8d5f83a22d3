use Rattle.papaya_call_law.proofs.relies.names.Goals as goal
use Rattle.std.proofs.Common.{subst}
use Rattle.papaya_call.specs.Machine.{ask_of}
use Rattle.papaya_call_law.proofs.ReliesCopied.{machine_copied}
use Rattle.papaya_call_law.proofs.ReliesHeld.{machine_made}
use Rattle.papaya_call_law.proofs.ReliesNames.{IsNamed, ask_named, hint_named, slot_named}
use Rattle.papaya_call_law.proofs.ReliesOpened.{machine_opened}

pub returns-clause-size : goal.returns-clause-size
returns-clause-size g c = λ s c' hashed begun since may k m loaded relies t e.
    subst (IsNamed s c' hashed begun since may k) e (ask_named s c' hashed begun since may k loaded m.task m.hash m.made m.state relies.stage)

pub returns-clause-next : goal.returns-clause-next
returns-clause-next g c = λ s c' hashed begun since may k m loaded relies t e.
    subst (IsNamed s c' hashed begun since may k) e (ask_named s c' hashed begun since may k loaded m.task m.hash m.made m.state relies.stage)

pub returns-clause-slot : goal.returns-clause-slot
returns-clause-slot g c = λ s c' hashed begun since may k m loaded relies t x e.
    slot_named s c' hashed begun since may k (ask_of m) (ask_named s c' hashed begun since may k loaded m.task m.hash m.made m.state relies.stage) t x e

pub returns-clause-hint : goal.returns-clause-hint
returns-clause-hint g c = λ s c' hashed begun since may k m loaded relies t x e.
    hint_named s c' hashed begun since may k (ask_of m) (ask_named s c' hashed begun since may k loaded m.task m.hash m.made m.state relies.stage) t x e

pub returns-clause-opened : goal.returns-clause-opened
returns-clause-opened g c = λ m answer t e. machine_opened m t answer e

pub returns-clause-made : goal.returns-clause-made
returns-clause-made g c = λ s c' begun since k m loaded relies t x old new e w. machine_made s c' begun since k loaded m relies t x old new e w

pub returns-clause-copied : goal.returns-clause-copied
returns-clause-copied g c = λ s c' hashed begun since may k m loaded relies n e. machine_copied s c' hashed begun since k loaded m relies n e
