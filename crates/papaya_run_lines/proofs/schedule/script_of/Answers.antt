use Rattle.std.proofs.Common.{◌≡◌, [], IfSome, ap, refl, subst}
use Rattle.std.specs.Prelude.{IfOk}
use Rattle.std.specs.Io.Buffered.{reader_buffer, reader_capacity, reader_inner, reader_remaining}
use Rattle.papaya_run_lines.specs.Lines.{lines_of}
use Rattle.papaya_run_lines.specs.Script.{IsScript}
use Rattle.papaya_run_lines.proofs.RunLemmas.{behind_buffer, ok_kept}
use Rattle.papaya_run_lines.proofs.schedule.script_of.Goals as goal

pub returns-clause-read : goal.returns-clause-read
returns-clause-read g c =
    let reader = c.in_ok-reader.reader in
    let inner = ok_kept c.new.result _ reader (λ r. reader_inner r ≡ _) _ refl c.in_ok-reader.ensures.cases (λ e no. no) c.new.ensures.inner in
    let empty = ok_kept c.new.result _ reader (λ r. reader_buffer r ≡ []) _ refl c.in_ok-reader.ensures.cases (λ e no. no) c.new.ensures.empty in
    let capacity = ok_kept c.new.result _ reader (λ r. reader_capacity r ≡ 8192) _ refl c.in_ok-reader.ensures.cases (λ e no. no) c.new.ensures.capacity in
    let known : reader_remaining (λ r. g.R.Read.remaining r.now) reader ≡ g.R.Read.remaining c.args.input.now =
    behind_buffer (reader_capacity reader) (reader_buffer reader) (g.R.Read.remaining c.args.input.now) (g.R.Read.remaining (reader_inner reader).now)
    capacity empty (ap (λ r. g.R.Read.remaining r.now) inner) in
    subst (λ k. IfOk c.read.result (λ script. IfSome k (λ text. IsScript (lines_of text) 1 script.turns.items script.lines.items script.bad_line)))
    known c.read.ensures.read
