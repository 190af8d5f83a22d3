use Rattle.std.proofs.Common.{rules, ◌≡◌, ◌++◌, ◌∷◌, [], map, ◌∙◌, ap, subst}
use Rattle.papaya_core_timeline.specs.Content.{content}
use Rattle.papaya_seq.specs.Walks.{IsNext, left_to}
use Rattle.papaya_seq.proofs.Listed.{listed_fewer, listed_more}
use Rattle.papaya_seq.proofs.seq.HashMap.numbers.Goals as goal

pub loop-pair-init : goal.loop-pair-init
loop-pair-init g c =
    let none : c.new-list.result.items ≡ [] = search rules in (
      c.first-at.ensures.stands,
      ap (λ l. l ++ map (λ p. p.number) (left_to g.K.PartialEq.eq c.args.self.now.store c.first-at.result)) none
          ∙ ap (map (λ p. p.number)) c.first-at.ensures.whole,
    )

pub loop-pair-smaller : goal.loop-pair-smaller
loop-pair-smaller g c = listed_fewer g.K.PartialEq.eq c.args.self.now.store c.loop-pair.at c.next_pair.new.at c.in-Some.pair
    (subst (λ o. IsNext g.K.PartialEq.eq c.args.self.now.store c.loop-pair.at o c.next_pair.new.at) c.in-Some.is c.next_pair.ensures.next)

pub loop-pair-preserved : goal.loop-pair-preserved
loop-pair-preserved g c = (
  c.next_pair.ensures.stands,
  ap (λ l. l ++ map (λ p. p.number) (left_to g.K.PartialEq.eq c.args.self.now.store c.next_pair.new.at))
      (let items : c.push.new.self.items ≡ c.loop-pair.list.items ++ c.in-Some.pair ∷ [] = search rules in items)
      ∙ listed_more g.K.PartialEq.eq c.args.self.now.store c.loop-pair.at c.next_pair.new.at c.in-Some.pair c.loop-pair.list.items
      (map (λ p. p.number) (content g.K.PartialEq.eq c.args.self.now.store))
      (subst (λ o. IsNext g.K.PartialEq.eq c.args.self.now.store c.loop-pair.at o c.next_pair.new.at) c.in-Some.is c.next_pair.ensures.next)
      c.loop-pair.invariant.1,
)
