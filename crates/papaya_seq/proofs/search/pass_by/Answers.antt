use Rattle.std.proofs.Common.{rules, ◌≡◌, ℕ, zero, suc, ◌≤◌, ◌<◌, Some, length, refl, sym, ◌∙◌, ap, subst, arith}
use Rattle.papaya_call.specs.declared.search.Place.{Place}
use Rattle.papaya_call.specs.declared.search.ProbeStep.{ProbeStep}
use Rattle.papaya_call.specs.declared.search.ProbeStep.TheVariants.{On}
use Rattle.papaya_call.specs.declared.search.Search.TheVariants.{Looking}
use Rattle.papaya_call.specs.Search.{IsProbed, hinted}
use Rattle.papaya_core_store.specs.Tables.{hint_at, table_of}
use Rattle.papaya_seq.specs.Searches.{ContinuesIn, IsPassed, IsPassedTo, IsThere, left_at, passed_by, passed_on, seen_at}
use Rattle.papaya_seq.proofs.Searching.{hint_read, hinted_in, hinted_led, hinted_left, left_seen}
use Rattle.papaya_seq.proofs.search.pass_by.Goals as goal
use Rattle.papaya_seq.proofs.search.pass_by.Goals.{After-hinted}
use Rattle.papaya_seq.proofs.search.pass_by.Given.{Over}

module _ (g : Over) (c : After-hinted g) where
  -- the hint of this place
  abbrev there : ℕ
  there = hint_at c.args.store.now.words c.loop-next.place.table c.loop-next.place.probe.i

  -- the table has the place
  within : c.loop-next.place.probe.i < length c.in-Some.table.now.slots
  within = subst (λ n. c.loop-next.place.probe.i < n) (sym c.loop-next.invariant.4) c.loop-next.invariant.1.i

  -- the step after it
  told : c.hinted.result ≡ seen_at c.args.store.now c.args.hash c.loop-next.place
  told = c.hinted.ensures.value ∙ ap (hinted c.loop-next.place c.args.hash)
      (hint_read c.args.store.now.words c.loop-next.place.table c.loop-next.place.probe.i c.hint.result c.in-Some.table.now
      c.loop-next.invariant.3 within c.hint.ensures)

  -- and the search continues in that table
  goes_on : (so : (number slots : ℕ) → Type 0) → so c.loop-next.place.table c.loop-next.place.len → ContinuesIn so c.hinted.result
  goes_on so is = subst (ContinuesIn so) (sym told) (hinted_in so c.loop-next.place c.args.hash there is)

  -- the search of places ends here
  ends : ((place : Place) → c.hinted.result ≡ On (Looking place) → ⊥) → IsPassed c.args.store.now c.args.hash c.args.at c.hinted.result
  ends none =
      let last = c.loop-next.invariant.0 zero in
      record {
        hints = (last.0, told ∙ last.1);
        within = c.hinted.ensures.seen;
        there = goes_on (IsThere c.args.store.now) (c.in-Some.table.now, c.loop-next.invariant.3, c.loop-next.invariant.4);
        led = subst (IsPassedTo c.args.at) (sym told)
            (hinted_led c.args.at c.loop-next.place c.args.hash there c.loop-next.invariant.2 (λ place e. none place (told ∙ e)));
      }

pub hint-requires : goal.hint-requires
hint-requires g c = subst (λ n. c.loop-next.place.probe.i < n) (sym c.loop-next.invariant.4) c.loop-next.invariant.1.i

pub loop-next-init : goal.loop-next-init
loop-next-init g c =
    let (t, there, long) = c.requires.there in
    let held : table_of c.args.store.now.words.tables c.args.at.table ≡ Some c.in-Some.table.now = search rules in
    let same : t ≡ c.in-Some.table.now = let both : Some t ≡ Some c.in-Some.table.now = sym there ∙ held in cc in
    (λ n. (n, refl), c.requires.within, omega arith, held, ap (λ v. length v.slots) (sym same) ∙ long)

pub loop-next-preserved : goal.loop-next-preserved
loop-next-preserved g c =
    let h = (goal.at.loop-next-preserved g c).After-hinted in
    let is : c.hinted.result ≡ On (Looking c.in-On-Looking.next) = search rules in
    let less : left_at c.in-On-Looking.next < left_at c.loop-next.place = subst (λ s. left_seen s < left_at c.loop-next.place) (sym (told g h) ∙ is)
    (hinted_left c.loop-next.place c.args.hash (there g h) c.loop-next.invariant.1.len) in
    let near : left_at c.loop-next.place ≤ left_at c.args.at = c.loop-next.invariant.2 in
    let on = subst (ContinuesIn (λ number slots. (table_of c.args.store.now.words.tables number ≡ Some c.in-Some.table.now)
    × (length c.in-Some.table.now.slots ≡ slots))) is
    (goes_on g h (λ number slots. (table_of c.args.store.now.words.tables number ≡ Some c.in-Some.table.now)
    × (length c.in-Some.table.now.slots ≡ slots)) (c.loop-next.invariant.3, c.loop-next.invariant.4)) in (
      λ n. let more = c.loop-next.invariant.0 (suc n) in
          (more.0, ap (passed_on (λ next. passed_by c.args.store.now c.args.hash n next)) (sym is ∙ told g h) ∙ more.1),
      subst IsProbed is c.hinted.ensures.seen,
      omega (arith, less, near),
      on.0,
      on.1,
    )

pub returns-in_default-hinted : goal.returns-in_default-hinted
returns-in_default-hinted g c =
    let h = (goal.at.returns-in_default-hinted g c).After-hinted in
    subst (λ (s : ProbeStep). IsPassed c.args.store.now c.args.hash c.args.at s) (search rules) (ends g h (λ place e. search rules))

pub returns-in_default-hinted-2 : goal.returns-in_default-hinted-2
returns-in_default-hinted-2 g c = ends g (goal.at.returns-in_default-hinted-2 g c).After-hinted (λ place e. search rules)
