use Rattle.std.proofs.Common.{◌≡◌, [], None, map, subst}
use Rattle.papaya_words.specs.declared.limits.TheConstants.{DEFAULT_CHUNK, DEFAULT_SHARDS}
use Rattle.papaya_words.specs.declared.resize_mode.ResizeMode.TheVariants.{Incremental}
use Rattle.papaya_map.specs.Collected.{AreStored}
use Rattle.papaya_map.proofs.Collected.{for_learned, hasher_learned, stored_until}
use Rattle.papaya_set.specs.Sets.{entry_of_key}
use Rattle.papaya_json.proofs.shared.shared_set_of.Goals as goal

pub returns-clause-made : goal.returns-clause-made
returns-clause-made g c = for_learned c.in_ok-set.set c.learn.new.self c.learn.ensures.same (Incremental DEFAULT_CHUNK) 0 DEFAULT_SHARDS None
    c.in_ok-set.ensures.made

pub returns-clause-hasher : goal.returns-clause-hasher
returns-clause-hasher g c = hasher_learned c.in_ok-set.set c.learn.new.self c.learn.ensures.same (λ h. h ≡ c.args.hasher) c.in_ok-set.ensures.hasher

pub returns-clause-stored : goal.returns-clause-stored
returns-clause-stored g c =
    let read = c.in_ok-fill_set.ensures.stored in (
      read.0,
      read.1,
      stored_until g.K.PartialEq.eq (map entry_of_key read.0) [] c.fill_set.new.pass.history c.learn.new.self.seen
          (subst (λ h. AreStored g.K.PartialEq.eq (map entry_of_key read.0) h c.fill_set.new.pass.history) c.pass-pass.ensures.new read.2)
          c.learn.ensures.passed,
    )
