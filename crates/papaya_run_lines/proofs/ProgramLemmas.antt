-- A run of the program, by its arguments and to its exit status.
use Rattle.std.proofs.Common.{◌≡◌, ℕ, None, Some, IfSome, List, inr}
use Rattle.std.specs.Prelude.{Option, Result}
use Rattle.papaya_run_shell.specs.Failure.{exit_status}
use Rattle.papaya_run_shell.specs.declared.failure.Failure.{Failure}
use Rattle.papaya_run_lines.specs.Arguments.{WritesArguments}
use Rattle.papaya_run_lines.specs.Lines.{lines_of}
use Rattle.papaya_run_lines.specs.declared.arguments.Arguments.{Arguments}
use Rattle.papaya_run_lines.specs.Program.{IsProgramRun, RunsBy, RunsTo}

-- by arguments that the words write
pub by_arguments : (words : List (List ℕ)) (a : Arguments) (wrote : List ℕ → Type 0) (ended : Result (Unit {0}) Failure) (known : Option (List ℕ))
    → WritesArguments words a
    → IfSome known (λ text. RunsBy a.backend a.mode a.hashing (lines_of text) wrote ended)
    → IfSome known (λ text. IsProgramRun words (lines_of text) wrote ended)
by_arguments words a wrote ended None writes runs = tt
by_arguments words a wrote ended (Some text) writes runs = inr (a, writes, runs)

-- to this exit status
pub to_status : (words : List (List ℕ)) (wrote : List ℕ → Type 0) (ended : Result (Unit {0}) Failure) (known : Option (List ℕ)) (status : ℕ)
    → status ≡ exit_status ended
    → IfSome known (λ text. IsProgramRun words (lines_of text) wrote ended) → IfSome known (λ text. RunsTo status words (lines_of text) wrote)
to_status words wrote ended None status is runs = tt
to_status words wrote ended (Some text) status is runs = (ended, is, runs)
