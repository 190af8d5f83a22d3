use Rattle.std.proofs.Common.{option_map, ap}
use Rattle.papaya_map_lookup.proofs.LookupReplies.{pair_answer}
use Rattle.papaya_map_lookup.proofs.lookup.look_up_pair.Goals as goal

pub returns-in-Some-clause-answered : goal.returns-in-Some-clause-answered
returns-in-Some-clause-answered g c = pair_answer _ _ _ _ _ _ (ap (option_map (λ hit. (hit.key, hit.value))) c.in-Some.is) c.find-hit.ensures.answered

pub returns-in-None-clause-answered : goal.returns-in-None-clause-answered
returns-in-None-clause-answered g c = pair_answer _ _ _ _ _ _ (ap (option_map (λ hit. (hit.key, hit.value))) c.in-None.is) c.find-hit.ensures.answered
