-- In both modes: the law of one step, the law of lists from the first exchange on, and the facts
-- that last, or that a search finds after more exchanges.
use Rattle.std.proofs.Common.{◌≡◌, ◌⊎◌, inl, inr, ⊎_elim, ℕ, ◌<◌, true, false, Option, None, Some, List, [], ◌∷◌, ◌++◌, refl, sym, subst, arith}
use Rattle.std.proofs.lemmas.Bool.{cases_Bool}
use Rattle.papaya_words_law.specs.Exchange.{Setting, State, Exchange, after, run, start}
use Rattle.papaya_words_law.specs.View.{Free, Here, Leaving, beyond, look, IsPassed, IsReached}
use Rattle.papaya_words_law.specs.Allows.{AllAllowed, Allows, MayClaim, MayPlace}
use Rattle.papaya_words_law.specs.Copying.{IsTarget, Covers}
use Rattle.papaya_words_law.specs.Meaning.{AllLegal, IsAtMoment, IsLegal, IsLawful, IsMeaning, map_after, map_left, map_of}
use Rattle.papaya_words_law.specs.Invariant.{IsIncrementalState, IsBlockingState, IsSound, IsKeeping}
use Rattle.papaya_words_law.specs.Later.{IsLater, IsLasting}
use Rattle.papaya_words_law.proofs.Incremental.Steps.{step_incremental, meaning_incremental}
use Rattle.papaya_words_law.proofs.Incremental.TableSteps.{start_incremental, target_next}
use Rattle.papaya_words_law.proofs.Blocking.Steps.{step_blocking, meaning_blocking}
use Rattle.papaya_words_law.proofs.Blocking.TableSteps.{start_blocking}
use Rattle.papaya_words_law.proofs.Later.{later_run, lasts}
use Rattle.papaya_words_law.proofs.Chain.{next_zero}
use Rattle.papaya_words_law.proofs.Moments.{run-append, allowed_first, allowed_rest}
use Rattle.papaya_words_law.proofs.Readers.{slow_found, slow_empty, slow_over}
use Rattle.papaya_words_law.proofs.Apart.{apart_incremental, apart_blocking}

module _ {K P : Type 0} (g : Setting K P) (s : State P) (m : K → Option P) (keeps : IsKeeping g s m) where
  -- the invariant in a known mode
  pub incremental_state : g.blocking ≡ false → IsIncrementalState g s m
  incremental_state inc = ⊎_elim (λ h. h.1) (λ h. absurd (let b = h.0 in cc (b, inc))) keeps

  -- with blocking
  pub blocking_state : g.blocking ≡ true → IsBlockingState g s m
  blocking_state blocks = ⊎_elim (λ h. absurd (let b = h.0 in cc (b, blocks))) (λ h. h.1) keeps

  -- and in both, of the words themselves
  pub keeping_sound : IsSound g s
  keeping_sound = ⊎_elim (λ h. h.1.sound) (λ h. h.1.sound) keeps

  -- a table has a word for each chunk of one that was the root and is copied to it
  pub covered : (t n : ℕ) → s.was_root t ≡ true → IsTarget g s t n → Covers g t n
  covered t n was target = ⊎_elim
      (λ h.
      let is : s.next t ≡ n = target_next g h.0 s m h.1 t n target in
      subst (Covers g t) is (h.1.covered t (subst (λ y. 0 < y) (sym is) target.made)))
      (λ h. h.1.covered t n was target)
      keeps

  -- the root that a load finds is reached for each key
  pub root_reached : (k : K) → 0 < s.root → IsReached g s k s.root
  root_reached k some = record {
    from = s.root;
    links = 0;
    was = keeping_sound.root_was some;
    is = refl;
    made = some;
    mode = inl refl;
    passed = λ i
        lt. absurd (omega arith);
  }

module _ {K P : Type 0} (g : Setting K P) (law : IsLawful g) where
  -- before the first exchange the map is empty
  pub start_keeps : IsKeeping g start (λ k. None)
  start_keeps = ⊎_elim (λ b. inr (b, start_blocking g)) (λ b. inl (b, start_incremental g b)) (cases_Bool g.blocking)

  -- the law of one step
  pub step_keeps : (s : State P) (m : K → Option P) → IsKeeping g s m → (e : Exchange P) → Allows g s e → IsLegal g m e
      × IsKeeping g (after s e) (map_after g m e)
  step_keeps s m (inl h) e may = let r = step_incremental g law h.0 s m h.1 e may in (r.0, inl (h.0, r.1))
  step_keeps s m (inr h) e may = let r = step_blocking g law h.0 s m h.1 e may in (r.0, inr (h.0, r.1))

  -- the invariant gives the meaning of the words
  pub means : (s : State P) (m : K → Option P) → IsKeeping g s m → (k : K) → IsMeaning g s k (m k)
  means s m (inl h) k = meaning_incremental g law h.0 s m h.1 k
  means s m (inr h) k = meaning_blocking g law h.0 s m h.1 k

  -- an exchange that fills an Empty slot is a claim or a copy
  pub never_both : (s : State P) (m : K → Option P) → IsKeeping g s m → (t x : ℕ) (p : P) → MayClaim g s t x p → MayPlace g s t x p → ⊥
  never_both s m (inl h) t x p claim copy = apart_incremental g law s m t x p claim copy h.0 h.1
  never_both s m (inr h) t x p claim copy = apart_blocking g law s m t x p claim copy h.0 h.1

  -- the law of a list, from a state that keeps a map
  pub run_keeps : (es : List (Exchange P)) (s : State P) (m : K → Option P) → IsKeeping g s m → AllAllowed g s es → IsKeeping g (run es s) (map_of g m es)
  run_keeps [] s m keeps may = keeps
  run_keeps (e ∷ es) s m keeps may = run_keeps es (after s e) (map_after g m e) (step_keeps s m keeps e may.0).1 may.1

  -- each of its changes takes out the pair that was there
  pub run_legal : (es : List (Exchange P)) (s : State P) (m : K → Option P) → IsKeeping g s m → AllAllowed g s es → AllLegal g m es
  run_legal [] s m keeps may = tt
  run_legal (e ∷ es) s m keeps may = let r = step_keeps s m keeps e may.0 in (r.0, run_legal es (after s e) (map_after g m e) r.1 may.1)

  module _ (es : List (Exchange P)) (may : AllAllowed g start es) where
    -- from the start
    pub keeping : IsKeeping g (run es start) (map_left g es)
    keeping = run_keeps es start (λ k. None) start_keeps may

    -- the words mean the map that is left
    pub means_map : (k : K) → IsMeaning g (run es start) k (map_left g es k)
    means_map = means (run es start) (map_left g es) keeping

    -- each change takes out the pair that was there
    pub legal_changes : AllLegal g (λ k. None) es
    legal_changes = run_legal es start (λ k. None) start_keeps may

    -- on the words themselves: the chain rises, and the root is one that was the root
    pub sound : IsSound g (run es start)
    sound = keeping_sound g (run es start) (map_left g es) keeping

  -- the root that a load finds is reached for each key
  pub root_is_reached : (es : List (Exchange P)) → AllAllowed g start es → (k : K) → 0 < (run es start).root → IsReached g (run es start) k (run es start).root
  root_is_reached es may = root_reached g (run es start) (map_left g es) (keeping es may)

  -- a later point
  module _ (es fs : List (Exchange P)) (may : AllAllowed g start (es ++ fs)) where
    -- the state after more exchanges is later
    pub later : IsLater g (run es start) (run (es ++ fs) start)
    later = subst (IsLater g (run es start)) (sym (run-append es fs start)) (later_run g law fs (run es start) (allowed_rest g es fs start may))

    -- so each fact that a caller gathered lasts
    pub lasting : IsLasting g (run es start) (run (es ++ fs) start)
    lasting = lasts g law (run es start) (run (es ++ fs) start) (next_zero (run es start).next (sound es (allowed_first g es fs start may)).rises) later

    -- a reader that took t for the root after es, and now finds a word in it
    module _ (blocks : g.blocking ≡ true) (t : ℕ) (root : (run es start).root ≡ t) (some : 0 < t) (k : K) where
      -- the invariant after es
      holds : IsBlockingState g (run es start) (map_left g es)
      holds = blocking_state g (run es start) (map_left g es) (keeping es (allowed_first g es fs start may)) blocks

      -- the state after both lists
      now : run fs (run es start) ≡ run (es ++ fs) start
      now = sym (run-append es fs start)

      -- it finds a pair
      pub reader_found : (j : ℕ) (p : P) → j < g.places t → (look g (run (es ++ fs) start) k t j ≡ Here p)
          ⊎ (look g (run (es ++ fs) start) k t j ≡ Leaving p) → IsAtMoment g (map_left g es) fs k (Some p)
      reader_found j p lt h = slow_found g law blocks (run es start) (map_left g es) holds t root some fs (allowed_rest g es fs start may) k j p lt
          (subst (λ s. (look g s k t j ≡ Here p) ⊎ (look g s k t j ≡ Leaving p)) (sym now) h)

      -- it comes to an Empty place
      pub reader_empty : (j : ℕ) → j < g.places t → ((i : ℕ) → i < j → beyond (look g (run (es ++ fs) start) k t i) ≡ true)
          → look g (run (es ++ fs) start) k t j ≡ Free → IsAtMoment g (map_left g es) fs k None
      reader_empty j lt before free =
          slow_empty g law blocks (run es start) (map_left g es) holds t root some fs (allowed_rest g es fs start may) k j lt
          (subst (λ s. (i : ℕ) → i < j → beyond (look g s k t i) ≡ true) (sym now) before) (subst (λ s. look g s k t j ≡ Free) (sym now) free)

      -- it comes to the table's end
      pub reader_over : IsPassed g.places (look g (run (es ++ fs) start) k) t → IsAtMoment g (map_left g es) fs k None
      reader_over h = slow_over g law blocks (run es start) (map_left g es) holds t root some fs (allowed_rest g es fs start may) k
          (subst (λ s. IsPassed g.places (look g s k) t) (sym now) h)
