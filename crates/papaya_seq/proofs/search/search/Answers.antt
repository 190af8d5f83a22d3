use Rattle.std.proofs.Common.{rules, subst}
use Rattle.papaya_seq.specs.Searches.{IsProbeHit}
use Rattle.papaya_seq.proofs.Searching.{sees_begun, turns_on}
use Rattle.papaya_seq.proofs.search.search.Goals as goal

pub loop-next-init : goal.loop-next-init
loop-next-init g c = record {
  sees = sees_begun (g.Q.Equivalent.matches c.args.key.now) c.args.store.now c.args.hash c.args.at;
  within = c.requires.within;
  there = c.requires.there;
  stands = tt;
  matched = tt;
}

pub loop-next-preserved : goal.loop-next-preserved
loop-next-preserved g c =
    let matches = g.Q.Equivalent.matches c.args.key.now in
    subst (IsProbeHit matches c.args.store.now c.args.hash c.args.at) c.in-Next.is
    (turns_on matches c.args.store.now c.args.hash c.args.at c.loop-next.place c.probe_at.result c.loop-next.invariant c.probe_at.ensures.turn)

pub returns-in_default : goal.returns-in_default
returns-in_default g c = record {
  turn = turns_on (g.Q.Equivalent.matches c.args.key.now) c.args.store.now c.args.hash c.args.at c.loop-next.place c.probe_at.result
      c.loop-next.invariant c.probe_at.ensures.turn;
  over = λ place e. search rules;
}
