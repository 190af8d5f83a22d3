use Rattle.std.proofs.Common.{◌≡◌, ◌⊎◌, rules, subst}
use Rattle.papaya_uses.specs.Metrics.{BeginsCounter}
use Rattle.papaya_uses.proofs.MetricLemmas.{begins_or_finds}
use Rattle.papaya_uses.proofs.metrics.add.Goals as goal

pub returns-in-Ok-get_or_insert_with-clause-made : goal.returns-in-Ok-get_or_insert_with-clause-made
returns-in-Ok-get_or_insert_with-clause-made g c =
    subst
    (λ made. (c.get_or_insert_with.new.self.made ≡ made) ⊎ BeginsCounter c.args.name.now c.args.metrics.now.history
    c.get_or_insert_with.new.self.history made c.get_or_insert_with.new.self.made) c.get.ensures.made
    (begins_or_finds c.args.name.now c.in-Ok.name (search rules) c.args.metrics.now.history c.get.new.self.history
    c.get_or_insert_with.new.self.history c.get.new.self.made c.get_or_insert_with.new.self.made c.get.ensures.seen _
    c.in-Ok-get_or_insert_with.counter c.in-Ok-get_or_insert_with.ensures.there)
