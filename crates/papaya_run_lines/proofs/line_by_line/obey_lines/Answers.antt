use Rattle.papaya_run_lines.specs.Runs.{Prints}
use Rattle.std.proofs.Common.{[], ◌∷◌, IfSome, subst, sym}
use Rattle.papaya_run_lines.specs.Lines.{IsNextLine}
use Rattle.std.specs.Io.Buffered.{reader_remaining}
use Rattle.std.specs.Io.KnownBytes.{Appends}
use Rattle.papaya_run_lines.proofs.WriteLemmas.{appends_both, appends_none, keeps_same, keeps_then}
use Rattle.papaya_run_lines.proofs.RunLemmas.{all_done, none_done, one_done, one_failed, why_failed}
use Rattle.papaya_run_lines.proofs.line_by_line.obey_lines.Goals as goal

pub loop-number-init : goal.loop-number-init
loop-number-init g c =
    let written = g.W.Write.contents c.args.output.now in
    none_done g.B.Obey.does c.args.backend.now (Appends written written) (reader_remaining g.R.Read.remaining c.args.reader.now)
    (appends_none written written (keeps_same written))

pub returns-then-not-branch : goal.returns-then-not-branch
returns-then-not-branch g c =
    let first = g.W.Write.contents c.args.output.now in
    let now = g.W.Write.contents c.loop-number.output in
    let shown = g.W.Write.contents c.show.new.output in
    all_done g.B.Obey.does g.B.Obey.is_bad c.args.backend.now c.loop-number.backend (Appends first now) (Appends first shown) c.loop-number.number
    (reader_remaining g.R.Read.remaining c.args.reader.now) (reader_remaining g.R.Read.remaining c.loop-number.reader)
    (reader_remaining g.R.Read.remaining c.next_line.new.input) c.next_line.new.line.items c.in_ok-next_line.field-0
    c.loop-number.invariant c.in_ok-next_line.ensures.read c.if-not-branch.true (λ before h. keeps_then first now shown before h c.in_ok-show.ensures.kept)

pub returns-in_err-answer : goal.returns-in_err-answer
returns-in_err-answer g c =
    let first = g.W.Write.contents c.args.output.now in
    let now = g.W.Write.contents c.loop-number.output in
    let shown = g.W.Write.contents c.show.new.output in
    let later = g.W.Write.contents c.answer.new.output in
    let left = reader_remaining g.R.Read.remaining c.loop-number.reader in
    let left' = reader_remaining g.R.Read.remaining c.next_line.new.input in
    let line = c.deref.result.now in
    let read = subst (λ l. IfSome left (λ text. IsNextLine text c.in_ok-next_line.field-0 l left')) (sym c.deref.ensures.value)
    c.in_ok-next_line.ensures.read in
    let why = why_failed g.B.Obey.does g.B.Obey.is_bad c.loop-number.number line c.in_err-answer.field-0.0 (Appends first now) (Appends first later)
    c.loop-number.backend c.answer.new.backend c.show.new.output c.answer.new.output c.in_err-answer.ensures.failed
    (λ same before h. subst (λ w. Appends first (g.W.Write.contents w) before) (sym same) (keeps_then first now shown before h c.in_ok-show.ensures.kept)) in
    one_failed g.B.Obey.does g.B.Obey.is_bad c.args.backend.now c.loop-number.backend (Appends first now) (Appends first later) c.loop-number.number
    (reader_remaining g.R.Read.remaining c.args.reader.now) left left' line c.in_ok-next_line.field-0 c.in_err-answer.field-0.0
    c.from_residual-in_err-answer.result
    c.loop-number.invariant read c.if-not-branch.false why c.from_residual-in_err-answer.ensures.1

pub loop-number-preserved : goal.loop-number-preserved
loop-number-preserved g c =
    let first = g.W.Write.contents c.args.output.now in
    let now = g.W.Write.contents c.loop-number.output in
    let shown = g.W.Write.contents c.show.new.output in
    let later = g.W.Write.contents c.answer.new.output in
    let done = c.in_ok-answer.ensures.answered in
    one_done g.B.Obey.does c.args.backend.now c.loop-number.backend c.answer.new.backend (Appends first now) (Appends first later) c.loop-number.number
    (reader_remaining g.R.Read.remaining c.args.reader.now) (reader_remaining g.R.Read.remaining c.loop-number.reader)
    (reader_remaining g.R.Read.remaining c.next_line.new.input) c.next_line.new.line.items c.in_ok-next_line.field-0
    c.loop-number.invariant c.in_ok-next_line.ensures.read c.if-not-branch.false (
      done.0,
      subst (λ l. Prints g.B.Obey.does c.loop-number.backend (l ∷ []) done.0 c.answer.new.backend) c.deref.ensures.value done.1,
      λ before h.
          appends_both first shown later before done.0 (keeps_then first now shown before h c.in_ok-show.ensures.kept) done.2,
    )
