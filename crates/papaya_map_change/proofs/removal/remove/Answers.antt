use Rattle.std.proofs.Common.{subst}
use Rattle.papaya_map_lookup.specs.Drivers.{past}
use Rattle.papaya_map_lookup.proofs.Histories.{history_since}
use Rattle.papaya_map_change.specs.RemovalAnswers.{IsTriedRemoval}
use Rattle.papaya_map_change.specs.ClosureCalls.{Judges}
use Rattle.papaya_map_change.proofs.RemovingHits.{removal_shown}
use Rattle.papaya_map_change.proofs.removal.remove.Goals as goal

pub returns-clause-removed : goal.returns-clause-removed
returns-clause-removed g c =
    let shown = subst (IsTriedRemoval g.K.PartialEq.eq (g.Q.Equivalent.matches c.args.key.now) (past c.args.window.now)
    (past c.remove_fast.new.window) (Judges g.F.FnMut) c.args.agrees c.remove_fast.new.agrees) c.in-None.is c.remove_fast.ensures.removed in
    removal_shown g.K.PartialEq.eq (g.Q.Equivalent.matches c.args.key.now) (Judges g.F.FnMut) c.args.agrees c.remove_fast.new.agrees _ _ _
    (history_since c.args.window.now.sight.log c.remove_fast.new.window.sight.log c.remove_fast.ensures.ends.sees.log)
    (history_since c.remove_fast.new.window.sight.log c.remove_slow.new.window.sight.log c.remove_slow.ensures.ends.sees.log) shown c.remove_slow.result
    c.remove_slow.ensures.removed
