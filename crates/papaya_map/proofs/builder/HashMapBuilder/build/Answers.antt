use Rattle.std.proofs.Common.{IfOk, subst}
use Rattle.papaya_words_keys.specs.Sizes.{IsAllowed}
use Rattle.papaya_map.specs.Wanted.{Wanted}
use Rattle.papaya_map.proofs.builder.HashMapBuilder.build.Goals as goal

pub returns-clause-ok : goal.returns-clause-ok
returns-clause-ok g c = subst (λ (w : Wanted g.row.S.Denot). IfOk c.with_collector.result (λ map. IsAllowed w.mode w.capacity w.shards)) c.self.view_is
    c.with_collector.ensures.ok
