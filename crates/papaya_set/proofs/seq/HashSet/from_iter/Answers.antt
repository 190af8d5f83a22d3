use Rattle.std.proofs.Common.{inr}
use Rattle.papaya_words.specs.declared.limits.TheConstants.{DEFAULT_CHUNK}
use Rattle.papaya_words.specs.declared.resize_mode.ResizeMode.TheVariants.{Incremental}
use Rattle.papaya_seq.proofs.Filled.{just, new_with_own}
use Rattle.papaya_set.specs.Sets.{entry_of_key}
use Rattle.papaya_set.proofs.seq.HashSet.from_iter.Goals as goal

pub returns-in-Ok-clause-ok : goal.returns-in-Ok-clause-ok
returns-in-Ok-clause-ok g c =
    let e = c.in-Ok.ensures.extends in
    record {
      first = e.first;
      made = e.made;
      items = e.items;
      left = e.left;
      came = e.came;
      is = (
        e.is.0,
        e.is.1,
        just g.K.PartialEq.eq entry_of_key c.in_ok-set.set e.items c.extend.new.self e.is.2 c.default.result
            c.in_ok-set.ensures.empty c.in_ok-set.ensures.ok,
      );
    }

pub returns-in-Err-clause-err : goal.returns-in-Err-clause-err
returns-in-Err-clause-err g c =
    let e = c.in-Err.ensures.extends in
    inr (record {
      first = e.first;
      made = e.made;
      items = e.items;
      left = e.left;
      came = e.came;
      is = (
        e.is.0,
        e.is.1,
        e.is.2,
        record {
          new = c.in_ok-set.set;
          left = c.extend.new.self;
          is_new = new_with_own (Incremental DEFAULT_CHUNK) 0 1 c.default.result c.in_ok-set.set c.in_ok-set.ensures.ok;
          cut = e.is.3;
        },
      );
    })

pub returns-in-Ok-clause-alone : goal.returns-in-Ok-clause-alone
returns-in-Ok-clause-alone g c =
    let e = c.in-Ok.ensures.alone in
    record {
      first = e.first;
      made = e.made;
      items = e.items;
      left = e.left;
      came = e.came;
      is = (
        e.is.0,
        e.is.1,
        record {
          new = c.in_ok-set.set;
          is_new = new_with_own (Incremental DEFAULT_CHUNK) 0 1 c.default.result c.in_ok-set.set c.in_ok-set.ensures.ok;
          puts = e.is.2;
        },
      );
    }
