use Rattle.std.proofs.Common.{refl}
use Rattle.papaya_run_lines.proofs.LineLemmas.{line_read}
use Rattle.papaya_run_lines.proofs.lines.next_line.Goals as goal

pub returns-clause-read : goal.returns-clause-read
returns-clause-read g c =
    let read = c.read_until.ensures in
    line_read c.read_until.result _ c.in_ok-count.count _ (g.R.Read.remaining c.args.input.now) (g.R.Read.remaining c.read_until.new.self)
    c.clear.new.self.items c.read_until.new.buf.items c.cut_end.new.line.items _ _
    refl c.in_ok-count.ensures.cases (λ e no. no) c.clear.ensures.items c.clear.new.self.ok.0 c.read_until.new.buf.ok.0 read.bytes read.rest read.ok
    read.end c.cut_end.ensures
