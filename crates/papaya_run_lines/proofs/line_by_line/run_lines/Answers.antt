use Rattle.std.proofs.Common.{◌≡◌, [], IfSome, ap, refl, subst}
use Rattle.std.specs.Io.Buffered.{reader_buffer, reader_capacity, reader_inner, reader_remaining}
use Rattle.std.specs.Io.KnownBytes.{Appends}
use Rattle.papaya_run_lines.specs.Lines.{lines_of}
use Rattle.papaya_run_lines.specs.Runs.{IsRun}
use Rattle.papaya_run_lines.proofs.WriteLemmas.{keeps_then}
use Rattle.papaya_run_lines.proofs.RunLemmas.{behind_buffer, ok_kept, run_known}
use Rattle.papaya_run_lines.proofs.line_by_line.run_lines.Goals as goal

pub returns : goal.returns
returns g c =
    let reader = c.in_ok-reader.reader in
    let first = g.W.Write.contents c.args.output.now in
    let inner = ok_kept c.new.result _ reader (λ r. reader_inner r ≡ _) _ refl c.in_ok-reader.ensures.cases (λ e no. no) c.new.ensures.inner in
    let empty = ok_kept c.new.result _ reader (λ r. reader_buffer r ≡ []) _ refl c.in_ok-reader.ensures.cases (λ e no. no) c.new.ensures.empty in
    let capacity = ok_kept c.new.result _ reader (λ r. reader_capacity r ≡ 8192) _ refl c.in_ok-reader.ensures.cases (λ e no. no) c.new.ensures.capacity in
    let known : reader_remaining (λ r. g.R.Read.remaining r.now) reader ≡ g.R.Read.remaining c.args.input.now =
    behind_buffer (reader_capacity reader) (reader_buffer reader) (g.R.Read.remaining c.args.input.now) (g.R.Read.remaining (reader_inner reader).now)
    capacity empty (ap (λ r. g.R.Read.remaining r.now) inner) in
    let done = g.W.Write.contents c.obey_lines-done.new.output in
    let last = g.W.Write.contents c.flush.new.self in
    run_known g.B.Obey.does g.B.Obey.is_bad (λ s. s ≡ c.args.backend.now) (Appends first done) (Appends first last) c.obey_lines-done.result
    (g.R.Read.remaining c.args.input.now)
    (λ text h. keeps_then first done last text h c.flush.ensures.bytes)
    (subst (λ k. IfSome k (λ text. IsRun (λ s. s ≡ c.args.backend.now) g.B.Obey.does g.B.Obey.is_bad (lines_of text) (Appends first done)
    c.obey_lines-done.result)) known c.obey_lines-done.ensures)
