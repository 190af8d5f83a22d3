use Rattle.std.proofs.Common.{IfOk, subst}
use Rattle.papaya_words_keys.specs.Sizes.{IsAllowed}
use Rattle.papaya_core_timeline.specs.New.{IsNewLimited}
use Rattle.papaya_seq.specs.Map.{core_of}
use Rattle.papaya_map.specs.Wanted.{Wanted}
use Rattle.papaya_map.proofs.builder.HashMapBuilder.build_seq.Goals as goal

pub returns-clause-ok : goal.returns-clause-ok
returns-clause-ok g c = subst (λ (w : Wanted g.row.S.Denot).
    IfOk c.with_parts.result (λ map. IsAllowed w.mode w.capacity w.shards
    × IsNewLimited {A = Unit {0}} w.mode w.capacity w.shards w.hasher w.limit (core_of map))) c.self.view_is c.with_parts.ensures.ok
