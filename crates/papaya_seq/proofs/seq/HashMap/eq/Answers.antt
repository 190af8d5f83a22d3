use Rattle.std.proofs.Common.{◌≡◌, ◌++◌, ◌∷◌, map, refl, sym, ◌∙◌, subst}
use Rattle.std.specs.List.{AllByRecursion}
use Rattle.papaya_core_timeline.specs.Content.{content}
use Rattle.papaya_seq.specs.Map.{deref_pair, entry_of}
use Rattle.papaya_seq.specs.Clones.{HasEqual}
use Rattle.papaya_seq.proofs.Equal.{all_map, all_middle, all_push, equal_all, equal_each, equal_long, map_all}
use Rattle.papaya_seq.proofs.Walked.{came_all, comes_next, map_push}
use Rattle.papaya_seq.proofs.seq.HashMap.eq.Goals as goal

pub returns-then-mine-theirs : goal.returns-then-mine-theirs
returns-then-mine-theirs g c = (
  λ y. absurd cc,
  λ equal. absurd (c.if-mine-theirs.true (c.len-mine.ensures.count
      ∙ equal_long g.K.PartialEq.eq g.met.K.Eq.laws g.V.PartialEq.eq c.args.self.now.store c.args.other.now.store c.len-mine.ensures.apart
      c.len-theirs.ensures.apart equal ∙ sym c.len-theirs.ensures.count)),
)

pub loop-key-preserved : goal.loop-key-preserved
loop-key-preserved g c =
    subst (AllByRecursion (HasEqual g.K.PartialEq.eq g.V.PartialEq.eq c.args.other.now.store))
    (sym (map_push deref_pair c.loop-key.yielded (c.in-Some.key, c.in-Some.value)))
    (all_push (HasEqual g.K.PartialEq.eq g.V.PartialEq.eq c.args.other.now.store) (map deref_pair c.loop-key.yielded)
    (c.in-Some.key.now, c.in-Some.value.now) c.loop-key.invariant (c.has_equal.ensures.0 c.if-not-has_equal.false))

pub returns-then-not-has_equal : goal.returns-then-not-has_equal
returns-then-not-has_equal g c =
    let whole : map entry_of (content g.K.PartialEq.eq c.args.self.now.store) ≡ map deref_pair c.loop-key.yielded ++
    (c.in-Some.key.now, c.in-Some.value.now) ∷ c.next.new.self =
    sym (c.into_iter-key-iterator.ensures.into_iter_gives ∙ c.iter-key-items.ensures)
    ∙ comes_next deref_pair c.into_iter-key-iterator.result c.loop-key.yielded c.loop-key.key-iterator (c.in-Some.key, c.in-Some.value)
    c.next.new.self c.loop-key.yielded_by c.in-Some.ensures.steps in (
      λ y. absurd cc,
      λ equal. sym c.if-not-has_equal.true ∙ c.has_equal.ensures.1
          (all_middle (HasEqual g.K.PartialEq.eq g.V.PartialEq.eq c.args.other.now.store) (map deref_pair c.loop-key.yielded)
          (c.in-Some.key.now, c.in-Some.value.now) c.next.new.self
          (subst (AllByRecursion (HasEqual g.K.PartialEq.eq g.V.PartialEq.eq c.args.other.now.store)) whole
          (all_map (HasEqual g.K.PartialEq.eq g.V.PartialEq.eq c.args.other.now.store) entry_of (content g.K.PartialEq.eq c.args.self.now.store)
          (equal_each g.K.PartialEq.eq g.met.K.Eq.laws g.V.PartialEq.eq c.args.self.now.store c.args.other.now.store c.len-mine.ensures.apart equal)))),
    )

pub returns : goal.returns
returns g c =
    let whole : map entry_of (content g.K.PartialEq.eq c.args.self.now.store) ≡ map deref_pair c.loop-key.yielded =
    sym (c.into_iter-key-iterator.ensures.into_iter_gives ∙ c.iter-key-items.ensures)
    ∙ came_all deref_pair c.into_iter-key-iterator.result c.loop-key.yielded c.loop-key.key-iterator c.next.new.self c.loop-key.yielded_by
    c.in-None.ensures.steps in (
      λ y. equal_all g.K.PartialEq.eq g.met.K.Eq.laws g.V.PartialEq.eq c.args.self.now.store c.args.other.now.store c.len-mine.ensures.apart
          (sym c.len-mine.ensures.count ∙ c.if-mine-theirs.false ∙ c.len-theirs.ensures.count)
          (map_all (HasEqual g.K.PartialEq.eq g.V.PartialEq.eq c.args.other.now.store) entry_of (content g.K.PartialEq.eq c.args.self.now.store)
          (subst (AllByRecursion (HasEqual g.K.PartialEq.eq g.V.PartialEq.eq c.args.other.now.store)) (sym whole) c.loop-key.invariant)),
      λ equal. refl,
    )
