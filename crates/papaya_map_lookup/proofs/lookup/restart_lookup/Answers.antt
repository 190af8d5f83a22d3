use Rattle.std.proofs.Common.{ap, subst, option_map}
use Rattle.papaya_map_lookup.specs.Answers.{IsPairAnsweredBetween}
use Rattle.papaya_map_lookup.specs.History.{history_of}
use Rattle.papaya_map_lookup.proofs.LookupReplies.{value_answer}
use Rattle.papaya_map_lookup.proofs.lookup.restart_lookup.Goals as goal

pub returns-in-Some-clause-answered : goal.returns-in-Some-clause-answered
returns-in-Some-clause-answered g c =
    let all = subst (λ z. IsPairAnsweredBetween g.K.PartialEq.eq (g.Q.Equivalent.matches c.args.key.now) (history_of z.log)
    (history_of c.look_up_pair-found.new.window.sight.log) c.look_up_pair-found.result) c.new-window.ensures.sight c.look_up_pair-found.ensures.answered in
    value_answer _ _ _ _ _ _ (ap (option_map (λ pair. pair.1)) c.in-Some.is) all
