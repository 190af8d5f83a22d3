use Rattle.std.proofs.Common.{List, subst, ◌∙◌}
use mathlib.Core.List.{IsPrefix}
use Rattle.papaya_map_lookup.specs.History.{history_of}
use Rattle.papaya_map_lookup.proofs.Histories.{history_since}
use Rattle.papaya_map.specs.FrozenWalks.{FrozenWalk, Yields}
use Rattle.papaya_map.proofs.FrozenWalks.{still, walk_of, walks, yields}
use Rattle.papaya_map.proofs.map.read_only.walks.IterIterator.next.Goals as goal

pub see_all-requires : goal.see_all-requires
see_all-requires g c =
    let i = c.self.inside in let on = walks g.K.PartialEq.eq i.pairs c.next-found.result c.next-found.new.self c.next-found.ensures.steps in
    c.seen-sight.ensures.book ∙ (on.book ∙ c.self.invariant.0)

pub invariant_of-self : goal.invariant_of-self
invariant_of-self g c =
    let i = c.self.inside in let on = walks g.K.PartialEq.eq i.pairs c.next-found.result c.next-found.new.self c.next-found.ensures.steps in
    let now = c.next-found.new.self.history in
    let since = subst (λ (h : List _). IsPrefix h now) c.self.invariant.2 on.since in
    let until = subst (λ (h : List _). IsPrefix h (history_of c.see_all.new.sight.log)) c.seen-sight.ensures.history
    (history_since c.seen-sight.result.log c.see_all.new.sight.log c.see_all.ensures.seen) in (
      on.book ∙ c.self.invariant.0,
      on.began ∙ c.self.invariant.1,
      still i.map.now.history now since (subst (IsPrefix now) c.see_all.ensures.all until),
    )

pub returns-clause-steps : goal.returns-clause-steps
returns-clause-steps g c =
    let i = c.self.inside in let after = c.next-found.new.self in
    subst (λ (z : FrozenWalk g.row.K.Denot g.row.V.Denot). Yields g.K.PartialEq.eq z c.next-found.result (walk_of i.map.now.history after)) c.self.view_is
    (yields g.K.PartialEq.eq i.map.now.history i.pairs after c.self.invariant.1 (invariant_of-self g c).2 c.next-found.result c.next-found.ensures.steps)
