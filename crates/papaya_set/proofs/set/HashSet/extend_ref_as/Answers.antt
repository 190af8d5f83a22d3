use Rattle.std.proofs.Common.{map, ◌∙◌}
use Rattle.papaya_map_book.proofs.Logs.{prefix_trans}
use Rattle.papaya_map.proofs.Collected.{prefix_itself, stored_next, stored_on, stored_until}
use Rattle.papaya_set.specs.Sets.{entry_of_ref}
use Rattle.papaya_set.proofs.set.HashSet.extend_ref_as.Goals as goal

pub loop-key-init : goal.loop-key-init
loop-key-init g c = (c.requires.book, prefix_itself c.args.pass.now.history)

pub loop-key-preserved : goal.loop-key-preserved
loop-key-preserved g c =
    let l = c.loop-key in (
      c.insert_as.ensures.book ∙ l.invariant.0,
      stored_next g.K.PartialEq.eq entry_of_ref l.yielded c.args.pass.now.history l.pass.history c.insert_as.new.pass.history c.in-Some.key c.in-Ok.field-0
          l.invariant.1 c.in-Ok.ensures.put,
    )

pub returns-in-Err-clause-seen : goal.returns-in-Err-clause-seen
returns-in-Err-clause-seen g c =
    let l = c.loop-key in
    prefix_trans c.args.pass.now.history l.pass.history c.insert_as.new.pass.history
    (stored_on g.K.PartialEq.eq (map entry_of_ref l.yielded) c.args.pass.now.history l.pass.history l.invariant.1) c.insert_as.ensures.seen

pub returns-clause-seen : goal.returns-clause-seen
returns-clause-seen g c =
    let l = c.loop-key in stored_on g.K.PartialEq.eq (map entry_of_ref l.yielded) c.args.pass.now.history l.pass.history l.invariant.1

pub returns-clause-stored : goal.returns-clause-stored
returns-clause-stored g c = record {
  first = c.into_iter-key-iterator.result;
  made = c.into_iter-key-iterator.ensures.into_iter_gives;
  items = c.loop-key.yielded;
  left = c.loop-key.key-iterator;
  came = c.loop-key.yielded_by;
  is = (c.next.new.self, c.in-None.ensures.steps, c.loop-key.invariant.1);
}

pub returns-in-Err-clause-cut : goal.returns-in-Err-clause-cut
returns-in-Err-clause-cut g c =
    let l = c.loop-key in record {
      first = c.into_iter-key-iterator.result;
      made = c.into_iter-key-iterator.ensures.into_iter_gives;
      items = l.yielded;
      left = l.key-iterator;
      came = l.yielded_by;
      is = (
        c.in-Some.key,
        c.next.new.self,
        c.in-Some.ensures.steps,
        stored_until g.K.PartialEq.eq (map entry_of_ref l.yielded) c.args.pass.now.history l.pass.history c.insert_as.new.pass.history l.invariant.1
            c.insert_as.ensures.seen,
      );
    }
