use Rattle.std.proofs.Common.{List, inr, map, subst}
use Rattle.std.specs.List.{All}
use Rattle.std.proofs.lemmas.Result.{IfErr-weaker}
use Rattle.papaya_map_book.specs.Logs.{Stored}
use Rattle.papaya_map_book.proofs.Logs.{prefix_trans}
use Rattle.papaya_map_lookup.specs.History.{Change}
use Rattle.papaya_map.specs.Collected.{AreYielded, Had}
use Rattle.papaya_map.proofs.Yielded.{all_later, yielded_later}
use Rattle.papaya_json.proofs.Building.{all_keys, keys_again, ok_both}
use Rattle.papaya_json.proofs.shared.set_session_to_value.Goals as goal

pub returns-clause-seen : goal.returns-clause-seen
returns-clause-seen g c = prefix_trans c.args.session.now.history c.iter.new.self.history c.learn_walk.new.self.history c.iter.ensures.seen
    c.learn_walk.ensures.seen

pub returns-clause-tables : goal.returns-clause-tables
returns-clause-tables g c = prefix_trans c.args.session.now.tables c.iter.new.self.tables c.learn_walk.new.self.tables c.iter.ensures.tables
    c.learn_walk.ensures.tables

pub returns-clause-ok : goal.returns-clause-ok
returns-clause-ok g c =
    let eq = g.K.PartialEq.eq in let given = c.array_of-written.new.pairs.given in
    let later = c.learn_walk.new.self.history in
    ok_both c.array_of-written.result
    (λ v yielded is. (
      map (λ e. e.0) given,
      keys_again (AreYielded eq c.args.session.now.history later) given
          (yielded_later eq _ _ _ given c.learn_walk.ensures.walked
          (subst (λ (h : List (Change g.row.K.Denot (Stored g.row.K.Denot (Unit {0})))). AreYielded eq h c.array_of-written.new.pairs.history given)
          c.in_ok-pairs.ensures.began.0 yielded)),
      is,
    ))
    c.array_of-written.ensures.yielded c.array_of-written.ensures.ok

pub returns-clause-err : goal.returns-clause-err
returns-clause-err g c =
    let eq = g.K.PartialEq.eq in let given = c.array_of-written.new.pairs.given in
    IfErr-weaker c.array_of-written.result _ _
    (λ e why. inr (
      map (λ e. e.0) given,
      all_keys (Had eq c.args.session.now.history c.learn_walk.new.self.history) given
          (all_later eq _ _ _ given c.learn_walk.ensures.walked
          (subst (λ (h : List (Change g.row.K.Denot (Stored g.row.K.Denot (Unit {0})))). All (Had eq h c.array_of-written.new.pairs.history) given)
          c.in_ok-pairs.ensures.began.0 c.array_of-written.ensures.had)),
      why,
    ))
    c.array_of-written.ensures.err
