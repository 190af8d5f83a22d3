use Rattle.papaya_uses.proofs.HitLemmas.{counted}
use Rattle.papaya_uses.proofs.hits.hit.Goals as goal

pub returns-clause-counted : goal.returns-clause-counted
returns-clause-counted g c = counted _ _ (λ shown n is. is) c.args.page c.args.hits.now.history c.update_or_insert.new.self.history
    c.update_or_insert.result c.legal.ensures c.update_or_insert.ensures.upserted c.in_ok-count.count c.in_ok-count.was
