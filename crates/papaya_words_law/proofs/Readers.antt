-- With blocking, the result of a reader was in the map at some point since it loaded the root.
-- (Without blocking `IsMeaning` says this for the last load itself.)
use Rattle.std.proofs.Common.{◌≡◌, ◌⊎◌, inl, inr, ⊎_elim, ℕ, ◌<◌, true, Option, None, Some, List, refl, sym, ap, ◌∙◌, subst, arith}
use Rattle.papaya_words_law.specs.Exchange.{Setting, State, Exchange, run}
use Rattle.papaya_words_law.specs.View.{Free, Here, Leaving, beyond, look, IsPassed, IsReached}
use Rattle.papaya_words_law.specs.Allows.{AllAllowed}
use Rattle.papaya_words_law.specs.Meaning.{map_of, IsLawful, IsMeaning, IsAtMoment}
use Rattle.papaya_words_law.specs.Invariant.{IsBlockingState}
use Rattle.papaya_words_law.proofs.Blocking.Steps.{run_blocking, meaning_blocking}
use Rattle.papaya_words_law.proofs.Moments.{IsRootMoment, root_moment, allowed_first}

module _ {K P : Type 0} (g : Setting K P) (law : IsLawful g) (blocks : g.blocking ≡ true) (s : State P) (m : K → Option P)
    (holds : IsBlockingState g s m) (t : ℕ) (root : s.root ≡ t) (some : 0 < t) (fs : List (Exchange P)) (may : AllAllowed g s fs) (k : K) where
  -- a point when t was the root and had these views
  pub moment : IsRootMoment g s t fs
  moment = root_moment g law blocks fs s m holds may t root some

  -- the invariant at that point
  then_good : IsBlockingState g (run moment.so_far s) (map_of g m moment.so_far)
  then_good = run_blocking g law blocks moment.so_far s m holds (allowed_first g moment.so_far moment.rest s (subst (AllAllowed g s) (sym moment.is) may))

  -- the meaning of the words at that point
  then_means : IsMeaning g (run moment.so_far s) k (map_of g m moment.so_far k)
  then_means = meaning_blocking g law blocks (run moment.so_far s) (map_of g m moment.so_far) then_good k

  -- t was reached at that point
  then_reached : IsReached g (run moment.so_far s) k t
  then_reached = record {
    from = t;
    links = 0;
    is = refl;
    made = some;
    mode = inl refl;
    passed = λ i lt. absurd (omega arith);
    was = subst (λ y. (run moment.so_far s).was_root y ≡ true) moment.root (then_good.root_was (subst (λ y. 0 < y) (sym moment.root) some));
  }

  -- the map's pair at that point is its pair at a point of fs
  at_moment : (value : Option P) → map_of g m moment.so_far k ≡ value → IsAtMoment g m fs k value
  at_moment value e = record { so_far = moment.so_far; rest = moment.rest; is = moment.is; value_is = e }

  -- a pair that is found in t
  pub slow_found : (j : ℕ) (p : P) → j < g.places t → (look g (run fs s) k t j ≡ Here p) ⊎ (look g (run fs s) k t j ≡ Leaving p) → IsAtMoment g m fs k (Some p)
  slow_found j p lt h = at_moment (Some p)
      (then_means.found t j p then_reached (λ b. moment.root) lt (⊎_elim (λ e. inl (sym (moment.sees k j lt) ∙ e)) (λ e. inr (sym (moment.sees k j lt) ∙ e)) h))

  -- an Empty place that is come to in t
  pub slow_empty : (j : ℕ) → j < g.places t → ((i : ℕ) → i < j → beyond (look g (run fs s) k t i) ≡ true) → look g (run fs s) k t j ≡ Free
      → IsAtMoment g m fs k None
  slow_empty j lt before free =
      at_moment None (then_means.empty t j then_reached (λ b. moment.root) lt (λ i l. ap beyond (sym (moment.sees k i (omega arith))) ∙ before i l)
      (sym (moment.sees k j lt) ∙ free))

  -- t is passed
  pub slow_over : IsPassed g.places (look g (run fs s) k) t → IsAtMoment g m fs k None
  slow_over (inl (i, p, l, e)) = at_moment None (then_means.over t then_reached (inl (i, p, l, sym (moment.sees k i l) ∙ e)) (inl (blocks, moment.root)))
  slow_over (inr all) = at_moment None (then_means.over t then_reached (inr (λ i l. ap beyond (sym (moment.sees k i l)) ∙ all i l)) (inl (blocks, moment.root)))
