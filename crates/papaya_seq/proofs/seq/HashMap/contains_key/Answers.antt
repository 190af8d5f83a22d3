use Rattle.std.proofs.Common.{is_some, sym, ◌∙◌, ap}
use Rattle.papaya_seq.proofs.LookResults.{contains_found, found_map, number_there}
use Rattle.papaya_seq.proofs.seq.HashMap.contains_key.Goals as goal

pub returns-clause-answer : goal.returns-clause-answer
returns-clause-answer g c =
    let found = c.look_up.ensures.found in
    contains_found g.K.PartialEq.eq (g.Q.Equivalent.matches c.args.key.now) c.args.self.now.store found.0 c.is_some.result found.1.0
    (c.is_some.ensures ∙ ap is_some found.2)

pub returns-clause-machine : goal.returns-clause-machine
returns-clause-machine g c = let found = c.look_up.ensures.found in (found.0, found.1, c.is_some.ensures ∙ ap is_some found.2 ∙ number_there found.0)

pub returns-clause-map : goal.returns-clause-map
returns-clause-map g c k matched =
    let found = c.look_up.ensures.found in
    c.is_some.ensures ∙ ap is_some found.2 ∙ number_there found.0
    ∙ ap is_some (sym (found_map g.K.PartialEq.eq g.met.K.Eq.laws (g.Q.Equivalent.matches c.args.key.now) c.args.self.now.store c.look_up.ensures.apart
    k (λ l. g.met.Q.Equivalent.matches_equal_keys c.args.key.now k l matched) found.0 found.1.0))
