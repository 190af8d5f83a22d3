use Rattle.std.proofs.Common.{List, inr, subst}
use Rattle.papaya_map_book.specs.Logs.{Stored}
use Rattle.papaya_map_book.proofs.Logs.{prefix_trans}
use Rattle.papaya_map_lookup.specs.History.{Change}
use Rattle.papaya_map.specs.Collected.{AreYielded, Had}
use Rattle.papaya_map.proofs.Yielded.{all_later, yielded_later}
use Rattle.std.specs.List.{All}
use Rattle.std.proofs.lemmas.Result.{IfErr-weaker}
use Rattle.papaya_json.proofs.Building.{ok_both}
use Rattle.papaya_json.proofs.shared.session_to_value.Goals as goal

pub returns-clause-seen : goal.returns-clause-seen
returns-clause-seen g c = prefix_trans c.args.session.now.history c.iter.new.self.history c.learn_walk.new.self.history c.iter.ensures.seen
    c.learn_walk.ensures.seen

pub returns-clause-tables : goal.returns-clause-tables
returns-clause-tables g c = prefix_trans c.args.session.now.tables c.iter.new.self.tables c.learn_walk.new.self.tables c.iter.ensures.tables
    c.learn_walk.ensures.tables

pub returns-clause-ok : goal.returns-clause-ok
returns-clause-ok g c =
    let eq = g.K.PartialEq.eq in let given = c.object_of-written.new.pairs.given in
    ok_both c.object_of-written.result
    (λ v yielded is. (
      given,
      yielded_later eq _ _ _ given c.learn_walk.ensures.walked
          (subst (λ (h : List (Change g.row.K.Denot (Stored g.row.K.Denot g.row.V.Denot))). AreYielded eq h c.object_of-written.new.pairs.history given)
          c.in_ok-pairs.ensures.began.0 yielded),
      is,
    ))
    c.object_of-written.ensures.yielded c.object_of-written.ensures.ok

pub returns-clause-err : goal.returns-clause-err
returns-clause-err g c =
    let eq = g.K.PartialEq.eq in let given = c.object_of-written.new.pairs.given in
    IfErr-weaker c.object_of-written.result _ _
    (λ e why. inr (
      given,
      all_later eq _ _ _ given c.learn_walk.ensures.walked
          (subst (λ (h : List (Change g.row.K.Denot (Stored g.row.K.Denot g.row.V.Denot))). All (Had eq h c.object_of-written.new.pairs.history) given)
          c.in_ok-pairs.ensures.began.0 c.object_of-written.ensures.had),
      why,
    ))
    c.object_of-written.ensures.err
