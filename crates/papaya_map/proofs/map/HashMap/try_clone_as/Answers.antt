use Rattle.std.proofs.Common.{None, rules}
use Rattle.papaya_words.specs.declared.limits.TheConstants.{DEFAULT_CHUNK, DEFAULT_SHARDS}
use Rattle.papaya_words.specs.declared.resize_mode.ResizeMode.TheVariants.{Incremental}
use Rattle.papaya_map.proofs.Collected.{for_learned, hasher_learned}
use Rattle.papaya_map.proofs.map.HashMap.try_clone_as.Goals as goal

pub returns-clause-made : goal.returns-clause-made
returns-clause-made g c = (
  _,
  for_learned c.in_ok-copy.copy c.copy_into.new.copy c.in_ok-copy_into.ensures.same (Incremental DEFAULT_CHUNK) _ DEFAULT_SHARDS None
      c.in_ok-copy.ensures.made,
)

pub returns-clause-hasher : goal.returns-clause-hasher
returns-clause-hasher g c =
    let before : g.S.Clone.is_clone c.args.self.now.begun.hasher c.in_ok-copy.copy.begun.hasher = search rules in
    hasher_learned c.in_ok-copy.copy c.copy_into.new.copy c.in_ok-copy_into.ensures.same
    (λ (h : g.row.S.Denot). g.S.Clone.is_clone c.args.self.now.begun.hasher h) before
