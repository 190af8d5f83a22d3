-- An exchange that fills an empty slot is a claim or a copy, and the two are never both allowed.
use Rattle.std.proofs.Common.{◌≡◌, ⊎_elim, ℕ, ◌<◌, true, false, Option, Some, refl, ap, ◌∙◌, subst}
use Rattle.std.proofs.lemmas.Bool.{cond-true}
use Rattle.papaya_words_law.specs.Exchange.{Empty, Marked, Copied, Setting, State}
use Rattle.papaya_words_law.specs.View.{Foreign, Free, Leaving, Gone, view, look, held}
use Rattle.papaya_words_law.specs.Allows.{MayClaim, MayPlace}
use Rattle.papaya_words_law.specs.Meaning.{IsLawful}
use Rattle.papaya_words_law.specs.Invariant.{named, IsIncrementalState, IsBlockingState}
use Rattle.papaya_words_law.specs.Class.{IsOn}
use Rattle.papaya_words_law.proofs.Class.{passed_not_held, free_not_own}
use Rattle.papaya_words_law.proofs.Incremental.ClassSteps.{not_gone}
use Rattle.papaya_words_law.proofs.Base.{own_place, filled_on}
use Rattle.papaya_words_law.proofs.Incremental.States.{reached_front, taker_full}
use Rattle.papaya_words_law.proofs.Blocking.States.{is_root, was_root_of, reached_was, taker_aborted}

module _ {K P : Type 0} (g : Setting K P) (law : IsLawful g) (s : State P) (m : K → Option P) (t x : ℕ) (p : P) (claim : MayClaim g s t x p)
    (copy : MayPlace g s t x p) where
  -- the table that the copy leaves
  abbrev from : ℕ
  from = copy.source.from

  -- its word names p
  here : named (s.slot from copy.source.slot) ≡ Some p
  here = ⊎_elim (λ e. ap named e) (λ e. ap named e) copy.source.stood

  -- the key's view of the slot is `Free`
  free : look g s (g.key p) t copy.place.at ≡ Free
  free = ap (λ y. view g (g.key p) (s.slot t y)) copy.place.is ∙ ap (view g (g.key p)) copy.empty

  -- without blocking: the marked table before a place for a copy stops each search
  pub apart_incremental : g.blocking ≡ false → IsIncrementalState g s m → ⊥
  apart_incremental inc holds =
      let on : IsOn s.first s.next from = ⊎_elim (λ e. filled_on g s holds.sound from copy.source.slot p (Marked p) e refl)
      (λ e. filled_on g s holds.sound from copy.source.slot p (Copied p) e refl) copy.source.stood in
      let c = taker_full g law inc s m holds (g.key p) from t on copy.source.taker in
      let o = own_place g s holds.sound law (g.key p) from copy.source.slot p (law.itself (g.key p)) here in
      let at : look g s (g.key p) from o.0 ≡ view g (g.key p) (s.slot from copy.source.slot) = ap (λ y. view g (g.key p) (s.slot from y)) o.2 in
      let front = (reached_front g law inc s m holds (g.key p) t claim.reached).1 in
      ⊎_elim
      (λ e.
      let leaving : look g s (g.key p) from o.0 ≡ Leaving p = at
      ∙ (ap (view g (g.key p)) e ∙ cond-true (g.same (g.key p) (g.key p)) (Leaving p) Foreign (law.itself (g.key p))) in
      passed_not_held (IsOn s.first s.next) g.places (g.place (g.key p)) (look g s (g.key p)) (holds.class (g.key p)).base from o.0
      (front from on c.1) o.1 (ap held leaving))
      (λ e.
      let gone : look g s (g.key p) from o.0 ≡ Gone p = at
      ∙ (ap (view g (g.key p)) e ∙ cond-true (g.same (g.key p) (g.key p)) (Gone p) Foreign (law.itself (g.key p))) in
      not_gone (IsOn s.first s.next) g.places (g.place (g.key p)) (look g s (g.key p)) (look g s (g.key p)) t x (m (g.key p)) (holds.class (g.key p))
      c.0 copy.place.at copy.place.within copy.place.is copy.place.before from o.0 p on c.1 o.1 c.2 free gone)
      copy.source.stood

  -- with blocking: a pair that left a root came to the next one, so a copy has no place there
  pub apart_blocking : g.blocking ≡ true → IsBlockingState g s m → ⊥
  apart_blocking blocks holds =
      let was = reached_was g s blocks (g.key p) t claim.reached in
      let root : t ≡ s.root = is_root g s m holds t x Empty was claim.empty refl
      (subst (λ y. y < g.size t) claim.place.is (law.within (g.key p) t claim.place.at claim.place.within)) in
      let marked : s.slot from copy.source.slot ≡ Marked p = ⊎_elim (λ e. e) (λ e. absurd (holds.copied from copy.source.slot p e)) copy.source.stood in
      let was-from = was_root_of g s m holds from copy.source.slot (Marked p) marked refl in
      let on = holds.was from was-from in
      let c = taker_aborted g s holds.sound blocks (g.key p) from t on.0 copy.source.taker in
      let o = own_place g s holds.sound law (g.key p) from copy.source.slot p (law.itself (g.key p)) here in
      let leaving : look g s (g.key p) from o.0 ≡ Leaving p = ap (λ y. view g (g.key p) (s.slot from y)) o.2
      ∙ (ap (view g (g.key p)) marked ∙ cond-true (g.same (g.key p) (g.key p)) (Leaving p) Foreign (law.itself (g.key p))) in
      let w = (holds.class (g.key p)).handed from t o.0 p was-from c.0 c.1 (holds.was t was).1 c.2 (holds.alive t was) o.1 leaving in
      free_not_own (IsOn s.first s.next) g.places (g.place (g.key p)) (look g s (g.key p)) (holds.class (g.key p)).base t copy.place.at w.0 free
      copy.place.before w.1 w.2
