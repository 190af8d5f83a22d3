-- A run of a script on a core, and the text that is printed of its trace.
use Rattle.std.proofs.Common.{◌≡◌, ◌==◌, ℕ, None, Some, Ok, Err, IfSome, List, length, reverse, inl, inr, sym, subst, ◌∙◌}
use Rattle.std.specs.Option.{option_or}
use Rattle.std.specs.Prelude.{IsErrAnd, Option, Result}
use Rattle.papaya_core_timeline.specs.Core.{CoreState}
use Rattle.papaya_core_timeline.specs.Runs.{TurnsRun}
use Rattle.papaya_core_timeline.specs.declared.trace.Entry.{Entry}
use Rattle.papaya_core_timeline.specs.declared.trace.Turn.{Turn}
use Rattle.papaya_run_shell.specs.declared.failure.Failure.{Failure}
use Rattle.papaya_run_shell.specs.declared.failure.Failure.TheVariants as failure
use Rattle.papaya_run_lines.specs.Lines.{lines_of}
use Rattle.papaya_run_lines.specs.Script.{IsScript}
use Rattle.papaya_run_lines.specs.LineOutput.{IsPrintFailure, PrintsLines, no_calls}
use Rattle.papaya_run_lines.specs.declared.closures.Answering.{Answering}
use Rattle.papaya_run_lines.specs.declared.script.Line.{Line}
use Rattle.papaya_run_lines.specs.Core.{IsCoreRun, Ran, script_says}

module _ {S : Type 0} (hash : S → ℕ → ℕ) (first : CoreState ℕ ℕ S Answering → Type 0) (wrote : List ℕ → Type 0) (turns : List (Turn ℕ ℕ Answering))
    (rows : List Line) (bad_line passed : Option ℕ) (before after : CoreState ℕ ℕ S Answering) (trace : List Entry)
    (begins : first before) (runs : TurnsRun (λ a b. a == b) script_says hash turns (length turns) before after (reverse trace))
    (told : (text : List ℕ) × PrintsLines after.store trace no_calls rows 0 trace text passed × wrote text) where
  ran : (lines : List (List ℕ)) (bad : Option ℕ) → IsScript lines 1 turns rows bad_line → bad ≡ option_or passed bad_line → Ran hash first lines wrote bad
  ran lines bad script is = record {
    turns = turns;
    rows = rows;
    bad_line = bad_line;
    script = script;
    before = before;
    begins = begins;
    after = after;
    trace = trace;
    runs = runs;
    text = told.0;
    passed_over = passed;
    tells = told.1;
    written = told.2;
    bad_is = is;
  }

  pub ran_all : (known : Option (List ℕ)) → IfSome known (λ text. IsScript (lines_of text) 1 turns rows bad_line) → None ≡ option_or passed bad_line
      → IfSome known (λ text. IsCoreRun hash first (lines_of text) wrote (Ok tt))
  ran_all None script is = tt
  ran_all (Some text) script is = ran (lines_of text) None script is

  pub ran_to : (known : Option (List ℕ)) (n : ℕ) → IfSome known (λ text. IsScript (lines_of text) 1 turns rows bad_line)
      → Some n ≡ option_or passed bad_line → IfSome known (λ text. IsCoreRun hash first (lines_of text) wrote (Err (failure.Line n)))
  ran_to None n script is = tt
  ran_to (Some text) n script is = ran (lines_of text) (Some n) script is

-- a run that the writer or memory has ended states nothing about its lines
module _ {S : Type 0} (hash : S → ℕ → ℕ) (first : CoreState ℕ ℕ S Answering → Type 0) (wrote : List ℕ → Type 0) where
  pub failed : (known : Option (List ℕ)) (ended : Result (Unit {0}) Failure) (why : Failure) → IsErrAnd ended (λ told. told ≡ why)
      → IsPrintFailure why → IfSome known (λ text. IsCoreRun hash first (lines_of text) wrote ended)
  failed None ended why is print = tt
  failed (Some text) (Ok done) why is print = absurd is
  failed (Some text) (Err told) why is (inl out) = subst (λ (z : Failure). IsCoreRun hash first (lines_of text) wrote (Err z)) (sym (is ∙ out)) tt
  failed (Some text) (Err told) why is (inr none) = subst (λ (z : Failure). IsCoreRun hash first (lines_of text) wrote (Err z)) (sym (is ∙ none)) tt
