use Rattle.std.proofs.Common.{[], None, subst}
use Rattle.papaya_map.specs.Collected.{AreStored}
use Rattle.papaya_words.specs.declared.limits.TheConstants.{DEFAULT_CHUNK, DEFAULT_SHARDS}
use Rattle.papaya_words.specs.declared.resize_mode.ResizeMode.TheVariants.{Incremental}
use Rattle.papaya_map.proofs.Collected.{for_learned, stored_until}
use Rattle.papaya_map.proofs.map.HashMap.from_iter.Goals as goal

pub returns-clause-made : goal.returns-clause-made
returns-clause-made g c = for_learned c.in_ok-map.map c.learn.new.self c.learn.ensures.same (Incremental DEFAULT_CHUNK) 0 DEFAULT_SHARDS None
    c.in_ok-map.ensures.made

pub returns-clause-stored : goal.returns-clause-stored
returns-clause-stored g c =
    let came = c.in_ok-extend_as.ensures.stored in record {
      first = came.first;
      made = came.made;
      items = came.items;
      left = came.left;
      came = came.came;
      is = (
        came.is.0,
        came.is.1,
        stored_until g.K.PartialEq.eq came.items [] c.extend_as.new.pass.history c.learn.new.self.seen
            (subst (λ h. AreStored g.K.PartialEq.eq came.items h c.extend_as.new.pass.history) c.pass-pass.ensures.new came.is.2) c.learn.ensures.passed,
      );
    }
