use Rattle.std.proofs.Common.{subst}
use Rattle.papaya_map_lookup.specs.Answers.{IsAnsweredBetween}
use Rattle.papaya_map_lookup.specs.History.{history_of}
use Rattle.papaya_map_lookup.proofs.Histories.{history_since}
use Rattle.papaya_map_lookup.proofs.LookupReplies.{answered_since}
use Rattle.papaya_map_lookup.proofs.lookup.look_up.Goals as goal

pub returns-in-None-clause-answered : goal.returns-in-None-clause-answered
returns-in-None-clause-answered g c =
    let near = c.search_near in let found = c.restart_lookup-found in
    let all = subst (λ z. IsAnsweredBetween g.K.PartialEq.eq (g.Q.Equivalent.matches c.args.key.now) (history_of z.log)
    (history_of found.new.sight.log) found.result) c.again-sight.ensures found.ensures.answered in
    answered_since _ _ _ _ _ _ _ (history_since c.args.window.now.sight.log near.new.window.sight.log near.ensures.sees.log) all
