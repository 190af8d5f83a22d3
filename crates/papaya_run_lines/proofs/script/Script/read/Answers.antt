use Rattle.std.proofs.Common.{refl, subst}
use Rattle.papaya_run_lines.specs.Script.{Adds}
use Rattle.papaya_run_lines.proofs.ScriptLemmas.{all_read, none_read, one_read}
use Rattle.papaya_run_lines.proofs.script.Script.read.Goals as goal

pub loop-number-init : goal.loop-number-init
loop-number-init g c = none_read _ (g.R.Read.remaining c.args.input.now) c.new.ensures.items c.new-2.ensures.items refl

pub returns-then-not-branch-clause-read : goal.returns-then-not-branch-clause-read
returns-then-not-branch-clause-read g c = all_read c.loop-number.script c.loop-number.number (g.R.Read.remaining c.args.input.now)
    (g.R.Read.remaining c.loop-number.input) (g.R.Read.remaining c.next_line.new.input) c.next_line.new.line.items c.in_ok-next_line.field-0
    c.loop-number.invariant c.in_ok-next_line.ensures.read c.if-not-branch.true

pub loop-number-preserved : goal.loop-number-preserved
loop-number-preserved g c = one_read c.loop-number.script c.add.new.self c.loop-number.number (g.R.Read.remaining c.args.input.now)
    (g.R.Read.remaining c.loop-number.input) (g.R.Read.remaining c.next_line.new.input) c.next_line.new.line.items c.in_ok-next_line.field-0
    c.loop-number.invariant c.in_ok-next_line.ensures.read c.if-not-branch.false
    (subst (λ l. Adds c.loop-number.script c.loop-number.number l c.add.new.self) c.deref.ensures.value c.in_ok-add.ensures.added)
