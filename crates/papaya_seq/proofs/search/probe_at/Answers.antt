use Rattle.std.proofs.Common.{rules, ◌≡◌, sym, ◌∙◌, subst}
use Rattle.papaya_call.specs.declared.search.ProbeStep.TheVariants.{On}
use Rattle.papaya_call.specs.declared.search.Search.TheVariants.{Looking, Reading}
use Rattle.papaya_call.specs.declared.machine.State.TheVariants.{Searching}
use Rattle.papaya_core_store.specs.Tables.{word_at}
use Rattle.papaya_seq.specs.Searches.{Sees, seen_by}
use Rattle.papaya_seq.proofs.Searching.{passed_matched, passed_stands, sees_on, sees_passed, turn_seen}
use Rattle.papaya_seq.proofs.search.probe_at.Goals as goal

pub returns-in-On-Reading-clause-turn : goal.returns-in-On-Reading-clause-turn
returns-in-On-Reading-clause-turn g c =
    let matches = g.Q.Equivalent.matches c.args.key.now in
    let store = c.args.store.now in
    let turn = c.read_at.ensures.turn c.args.hash in
    let hints = c.pass_by-seen.ensures.hints in
    let reads : c.pass_by-seen.result ≡ On (Reading c.in-On-Reading.place) = search rules in
    record {
      sees = sees_on matches store c.args.hash c.args.at (Reading c.in-On-Reading.place) (seen_by c.read_at.result)
          (subst (Sees matches store c.args.hash c.args.at) (sym hints.1 ∙ reads) (sees_passed matches store c.args.hash hints.0 c.args.at)) turn.sees;
      within = turn.within;
      there = turn.there;
      stands = turn.stands;
      matched = turn.matched;
    }

pub returns-in_default-clause-turn : goal.returns-in_default-clause-turn
returns-in_default-clause-turn g c =
    let matches = g.Q.Equivalent.matches c.args.key.now in
    let store = c.args.store.now in
    let seen = c.pass_by-seen.result in
    let hints = c.pass_by-seen.ensures.hints in
    turn_seen matches store c.args.hash c.args.at (Searching (Looking c.args.at)) c.hit_of.result seen c.hit_of.ensures
    (subst (Sees matches store c.args.hash c.args.at) (sym hints.1) (sees_passed matches store c.args.hash hints.0 c.args.at))
    c.pass_by-seen.ensures.within c.pass_by-seen.ensures.there (passed_stands (λ w. word_at store.words w) c.args.at seen c.pass_by-seen.ensures.led)
    (passed_matched store matches c.args.hash c.args.at seen c.pass_by-seen.ensures.led)
