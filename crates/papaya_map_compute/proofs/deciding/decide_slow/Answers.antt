use Rattle.std.proofs.Common.{sym, ap, ◌∙◌, subst}
use Rattle.papaya_map_lookup.specs.Drivers.{own, past}
use Rattle.papaya_map_lookup.specs.History.{Makes}
use Rattle.papaya_map_compute.specs.Deciding.{IsDecided, puts}
use Rattle.papaya_map_compute.proofs.DoneBy.{decided_by, puts_by, refused_as, unremoved}
use Rattle.papaya_map_compute.proofs.deciding.decide_slow.Goals as goal

pub decision-requires : goal.decision-requires
decision-requires g c = let way = c.requires.can in
    unremoved g.K.PartialEq.eq way.1 _ _ g.D.Rule.decides way.2 _ c.slow-ended.result (c.slow-ended.ensures.ended way.0 way.1 way.2 way.3)

pub returns-clause-ends : goal.returns-clause-ends
returns-clause-ends g c =
    let way = c.requires.can in let e = c.slow-ended.ensures.ends in let w = c.args.window.now in let then = c.slow-ended.new.window in record {
      sees = e.sees;
      lawful = e.lawful;
      made = subst (λ changed. Makes changed (own w) (own then) (past then))
          (puts_by g.K.PartialEq.eq way.1 _ _ g.D.Rule.decides way.2 _ c.slow-ended.result (c.slow-ended.ensures.ended way.0 way.1 way.2 way.3)
          ∙ ap puts (sym c.decision.ensures)) e.made;
    }

pub returns-clause-tells : goal.returns-clause-tells
returns-clause-tells g c = let t = c.slow-ended.ensures.tells in let ended = c.slow-ended.result in record {
  crowded = λ e. t.crowded (refused_as ended.answer ended.current ended.spare _ (sym c.decision.ensures ∙ e));
  spent = λ e. t.spent (refused_as ended.answer ended.current ended.spare _ (sym c.decision.ensures ∙ e));
}

pub returns-clause-decided : goal.returns-clause-decided
returns-clause-decided g c = λ since key first way.
    subst (IsDecided g.K.PartialEq.eq key _ _ g.D.Rule.decides first c.slow-ended.new.op) (sym c.decision.ensures)
    (decided_by g.K.PartialEq.eq key _ _ g.D.Rule.decides first _ c.slow-ended.result (c.slow-ended.ensures.ended since key first way))
