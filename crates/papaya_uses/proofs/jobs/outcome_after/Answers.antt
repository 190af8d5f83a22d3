use Rattle.std.proofs.Common.{◌≡◌, option_map, rules, subst, sym}
use Rattle.std.specs.Borrow.{Bor}
use mathlib.Core.List.{IsPrefix}
use Rattle.papaya_uses.specs.Jobs.{Seen}
use Rattle.papaya_uses.proofs.JobLemmas.{read_after}
use Rattle.papaya_uses.proofs.MetricLemmas.{seen_on}
use Rattle.papaya_uses.proofs.jobs.outcome_after.Goals as goal

pub returns-clause-first : goal.returns-clause-first
returns-clause-first c =
    seen_on c.args.reader.now.history c.meet.new.self.history c.get-found.new.self.history c.meet.ensures.first.0 c.get-found.ensures.seen

pub returns-clause-read : goal.returns-clause-read
returns-clause-read c =
    let copied : c.copied.result ≡ option_map (λ v. v.now) c.get-found.result = search rules in
    let worker : IsPrefix c.args.worker.now.history c.meet.new.self.history = subst (λ (h : Seen). IsPrefix c.args.worker.now.history h)
    (sym c.meet.ensures.one.0) c.meet.ensures.second.0 in
    read_after c.args.job c.args.worker.now.history c.args.reader.now.history c.meet.new.self.history c.get-found.new.self.history
    c.get-found.result c.copied.result worker c.meet.ensures.first.0 c.legal.ensures c.get-found.ensures.answered copied
