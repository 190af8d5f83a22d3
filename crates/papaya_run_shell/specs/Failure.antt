-- The exit status of each failure.
use Rattle.std.specs.Prelude.{ℕ, Result, Ok, Err}
use Rattle.papaya_words.specs.declared.refused.Refused.TheVariants.{Memory}
use Rattle.papaya_run_shell.specs.declared.failure.Failure.{Failure}
use Rattle.papaya_run_shell.specs.declared.failure.Failure.TheVariants as failure

-- The exit status of a failure: 2 if the arguments or a line of the input are wrong, 1 otherwise.
abbrev pub status_of : Failure → ℕ
status_of failure.Arguments = 2
status_of (failure.Line n) = 2
status_of (failure.Refused why) = 1
status_of failure.Disagreement = 1
status_of failure.Clock = 1
status_of failure.Input = 1
status_of failure.Output = 1

-- The exit status of a run; 0 if it did not fail.
abbrev pub exit_status : Result (Unit {0}) Failure → ℕ
exit_status (Ok done) = 0
exit_status (Err why) = status_of why

-- The failure of a program that runs out of memory.
abbrev pub without_memory : Failure
without_memory = failure.Refused Memory
