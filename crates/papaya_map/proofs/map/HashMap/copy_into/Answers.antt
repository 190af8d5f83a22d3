use Rattle.std.proofs.Common.{[], List, subst}
use Rattle.papaya_map_book.specs.Logs.{Stored}
use Rattle.papaya_map_book.proofs.Logs.{prefix_trans}
use Rattle.papaya_map_lookup.specs.History.{Change}
use Rattle.papaya_map.specs.Collected.{AreStored, AreYielded}
use Rattle.papaya_map.proofs.Collected.{stored_by, stored_until}
use Rattle.papaya_map.proofs.Yielded.{yielded_later}
use Rattle.papaya_map.proofs.map.HashMap.copy_into.Goals as goal

pub returns-clause-copied : goal.returns-clause-copied
returns-clause-copied g c =
    let e = c.in_ok-pairs.ensures in let eq = g.K.PartialEq.eq in let put = c.in_ok-insert_clones_as.ensures.cloned in
    let before : AreStored eq put.0 c.pass-own.result.history c.insert_clones_as.new.pass.history = stored_by eq put.0 _ _ _ _ put.2 in (
      c.insert_clones_as.new.pairs.given,
      yielded_later eq _ _ _ _ c.learn_walk.ensures.walked
          (subst
          (λ (h : List (Change g.row.K.Denot (Stored g.row.K.Denot g.row.V.Denot))). AreYielded eq h c.insert_clones_as.new.pairs.history c.insert_clones_as.new.pairs.given)
          e.began.0 c.in_ok-insert_clones_as.ensures.yielded),
      (
        put.0,
        put.1,
        stored_until eq put.0 [] c.insert_clones_as.new.pass.history c.learn.new.self.seen
            (subst (λ (h : List (Change g.row.K.Denot (Stored g.row.K.Denot g.row.V.Denot))). AreStored eq put.0 h c.insert_clones_as.new.pass.history)
            c.pass-own.ensures.new before)
            c.learn.ensures.passed,
      ),
    )

pub returns-clause-seen : goal.returns-clause-seen
returns-clause-seen g c = prefix_trans c.args.pass.now.history c.iter_as.new.pass.history c.learn_walk.new.self.history c.iter_as.ensures.seen
    c.learn_walk.ensures.seen

pub returns-clause-tables : goal.returns-clause-tables
returns-clause-tables g c = prefix_trans c.args.pass.now.tables c.iter_as.new.pass.tables c.learn_walk.new.self.tables c.iter_as.ensures.tables
    c.learn_walk.ensures.tables
