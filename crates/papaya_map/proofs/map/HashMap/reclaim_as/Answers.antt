use Rattle.papaya_map.proofs.Collected.{first_learned, hasher_learned, settings_learned}
use Rattle.papaya_map.proofs.map.HashMap.reclaim_as.Goals as goal

pub returns-clause-ok : goal.returns-clause-ok
returns-clause-ok g c = settings_learned c.in_ok-fresh.fresh c.copy_into.new.copy c.in_ok-copy_into.ensures.same c.args.self.now c.in_ok-fresh.ensures.settings

pub returns-clause-opened : goal.returns-clause-opened
returns-clause-opened g c = first_learned c.in_ok-fresh.fresh c.copy_into.new.copy c.in_ok-copy_into.ensures.same c.in_ok-fresh.ensures.opened

pub returns-clause-hasher : goal.returns-clause-hasher
returns-clause-hasher g c = hasher_learned c.in_ok-fresh.fresh c.copy_into.new.copy c.in_ok-copy_into.ensures.same
    (λ (h : g.row.S.Denot). g.S.Clone.is_clone c.args.self.now.begun.hasher h) c.in_ok-fresh.ensures.hasher
