use Rattle.std.specs.Prelude.{map, string_bytes}
use Rattle.std.specs.Io.KnownBytes.{Appends}
use Rattle.papaya_run_lines.proofs.ProgramLemmas.{by_arguments}
use Rattle.papaya_run_lines.proofs.run.run.Goals as goal

pub returns-in-Identity-clause-bad_arguments : goal.returns-in-Identity-clause-bad_arguments
returns-in-Identity-clause-bad_arguments g c h = absurd (h c.in-Some.arguments c.in-Some.ensures)

pub returns-in-Zero-clause-bad_arguments : goal.returns-in-Zero-clause-bad_arguments
returns-in-Zero-clause-bad_arguments g c h = absurd (h c.in-Some.arguments c.in-Some.ensures)

pub returns-in-Identity-clause-ran : goal.returns-in-Identity-clause-ran
returns-in-Identity-clause-ran g c =
    by_arguments (map string_bytes c.args.args.now) c.in-Some.arguments
    (Appends (g.W.Write.contents c.args.output.now) (g.W.Write.contents c.run_by.new.output)) c.run_by.result (g.R.Read.remaining c.args.input.now)
    c.in-Some.ensures
    (rw c.in-Identity.is c.run_by.ensures)

pub returns-in-Zero-clause-ran : goal.returns-in-Zero-clause-ran
returns-in-Zero-clause-ran g c =
    by_arguments (map string_bytes c.args.args.now) c.in-Some.arguments
    (Appends (g.W.Write.contents c.args.output.now) (g.W.Write.contents c.run_by-in-Zero.new.output)) c.run_by-in-Zero.result
    (g.R.Read.remaining c.args.input.now) c.in-Some.ensures
    (rw c.in-Zero.is c.run_by-in-Zero.ensures)
