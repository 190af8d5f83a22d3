-- The output of a run of lines on a core.
use Rattle.std.specs.Prelude.{◌≡◌, ◌==◌, ℕ, true, List, length, reverse, Option, Some, None, Result, Ok, Err}
use Rattle.std.specs.Option.{option_or}
use Rattle.papaya_call.specs.Answers.{Says}
use Rattle.papaya_core_timeline.specs.Core.{CoreState}
use Rattle.papaya_core_timeline.specs.Runs.{TurnsRun}
use Rattle.papaya_core_timeline.specs.declared.trace.Entry.{Entry}
use Rattle.papaya_core_timeline.specs.declared.trace.Turn.{Turn}
use Rattle.papaya_run_shell.specs.declared.failure.Failure.{Failure}
use Rattle.papaya_run_shell.specs.declared.failure.Failure.TheVariants as failure
use Rattle.papaya_run_lines.specs.Closures.{operation_of}
use Rattle.papaya_run_lines.specs.Script.{IsScript}
use Rattle.papaya_run_lines.specs.LineOutput.{PrintsLines, no_calls}
use Rattle.papaya_run_lines.specs.declared.closures.Answering.{Answering}
use Rattle.papaya_run_lines.specs.declared.script.Line.{Line}

-- The results of the closures of a script.
abbrev pub script_says : Says ℕ ℕ Answering
script_says = record {
  op = λ a shown answer a'. answer ≡ operation_of shown;
  yes = λ a key value answer a'. answer ≡ true;
}

module _ {S : Type 0} (hash : S → ℕ → ℕ) (first : CoreState ℕ ℕ S Answering → Type 0) where
  -- The turns that these lines request were run as one schedule, from a first state, and what the
  -- lines print of its trace was written. `bad` is the number of the first line that was passed
  -- over, or else of the bad line, if there is one.
  pub record Ran (lines : List (List ℕ)) (wrote : List ℕ → Type 0) (bad : Option ℕ) : Type 0 where
    pub turns : List (Turn ℕ ℕ Answering)
    pub rows : List Line
    pub bad_line : Option ℕ
    pub script : IsScript lines 1 turns rows bad_line
    pub before : CoreState ℕ ℕ S Answering
    pub begins : first before
    pub after : CoreState ℕ ℕ S Answering
    pub trace : List Entry
    pub runs : TurnsRun (λ a b. a == b) script_says hash turns (length turns) before after
        (reverse trace)
    pub text : List ℕ
    pub passed_over : Option ℕ
    pub tells : PrintsLines after.store trace no_calls rows 0 trace text passed_over
    pub written : wrote text
    pub bad_is : bad ≡ option_or passed_over bad_line

  -- The result of a run of these lines. If memory, the reader or the writer fails, nothing is
  -- stated.
  abbrev pub IsCoreRun : List (List ℕ) → (wrote : List ℕ → Type 0) → Result (Unit {0}) Failure
      → Type 0
  IsCoreRun lines wrote (Ok done) = Ran lines wrote None
  IsCoreRun lines wrote (Err (failure.Line n)) = Ran lines wrote (Some n)
  IsCoreRun lines wrote (Err failure.Arguments) = ⊥
  IsCoreRun lines wrote (Err _) = Unit {0}
