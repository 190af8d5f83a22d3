use Rattle.std.proofs.Common.{rules, ◌<◌, sym, ◌∙◌, ap, arith}
use Rattle.papaya_seq.specs.Walks.{left_to}
use Rattle.papaya_seq.proofs.WalkSteps.{held_some, here_next, here_none, left_of_root, next_later}
use Rattle.papaya_seq.proofs.seq.HashMap.next_held.Goals as goal
use Rattle.papaya_seq.proofs.seq.HashMap.next_held.Goals.{then-at-end+in-Some+else-is_some, else-at-end}

pub returns-then-is_some-clause-next : goal.returns-then-is_some-clause-next
returns-then-is_some-clause-next g c =
    let less : c.args.at.now.slot < c.args.end.now = c.if-at-end.true in
    let (there, none, long) = held_some c.args.self.now.store c.args.at.now c.args.root c.in-Some.table c.args.end.now c.in-Some.is (omega (arith, less))
    c.requires.held in
    here_next g.K.PartialEq.eq c.args.self.now.store c.args.at.now (record c.args.at.now { passed = 0 }) c.next_in-pair.new.at c.next_in-pair.result
    (left_of_root g.K.PartialEq.eq c.args.self.now.store c.args.at.now none) c.next_in-pair.ensures.next (search rules)

pub returns-clause-next : goal.returns-clause-next
returns-clause-next g c = elim c.if-at-end.branch [
  | then-at-end+in-Some+else-is_some w ↦
      let less : c.args.at.now.slot < c.args.end.now = w.if-at-end.true in
      let (there, none, long) = held_some c.args.self.now.store c.args.at.now c.args.root w.in-Some.table c.args.end.now w.in-Some.is
      (omega (arith, less)) c.requires.held in
      let passed = here_none g.K.PartialEq.eq c.args.self.now.store (record c.args.at.now { passed = 0 }) w.next_in-pair.new.at w.next_in-pair.result
      w.next_in-pair.ensures.next (search rules) in
      next_later g.K.PartialEq.eq c.args.self.now.store c.args.at.now c.if-at-end.at c.next_pair-pair.new.at c.next_pair-pair.result
      (left_of_root g.K.PartialEq.eq c.args.self.now.store c.args.at.now none ∙ passed.0
      ∙ ap (left_to g.K.PartialEq.eq c.args.self.now.store) (sym w.at-is)) c.next_pair-pair.ensures.next
  | else-at-end w ↦ next_later g.K.PartialEq.eq c.args.self.now.store c.args.at.now c.if-at-end.at c.next_pair-pair.new.at c.next_pair-pair.result
      (ap (left_to g.K.PartialEq.eq c.args.self.now.store) (sym w.at-is)) c.next_pair-pair.ensures.next
]
