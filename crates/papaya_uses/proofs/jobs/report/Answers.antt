use Rattle.std.proofs.Common.{◌≡◌, Err, rules, subst, sym}
use Rattle.std.specs.Prelude.{IfErr}
use Rattle.papaya.specs.Threads.{IsPlainRefusal}
use Rattle.papaya_uses.proofs.JobLemmas.{plain, reported}
use Rattle.papaya_uses.proofs.jobs.report.Goals as goal

pub returns-in_err-insert-clause-refused : goal.returns-in_err-insert-clause-refused
returns-in_err-insert-clause-refused g c =
    let is : c.from_residual.result ≡ Err c.in_err-insert.field-0.0 = search rules in
    subst (λ r. IfErr r (IsPlainRefusal c.args.worker.map.begun.limit)) (sym is)
    (plain c.args.worker.map.begun.limit c.insert.new.self.taken c.in_err-insert.field-0.0 c.in_err-insert.ensures.refused)

pub returns-clause-reported : goal.returns-clause-reported
returns-clause-reported g c = reported c.args.job c.args.outcome c.args.worker.history c.insert.new.self.history c.in_ok-insert.field-0
    c.in_ok-insert.ensures.put
