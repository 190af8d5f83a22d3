use Rattle.std.specs.Prelude.{map, string_bytes}
use Rattle.std.specs.Io.KnownBytes.{Appends}
use Rattle.papaya_run_lines.proofs.ProgramLemmas.{to_status}
use Rattle.papaya_run_lines.proofs.run.run_on.Goals as goal

pub returns-clause-written : goal.returns-clause-written
returns-clause-written g c =
    to_status (map string_bytes c.args.args.now) (Appends (g.W.Write.contents c.args.output.now) (g.W.Write.contents c.run.new.output)) c.run.result
    (g.R.Read.remaining c.args.input.now) c.ended.result c.ended.ensures c.run.ensures.ran
