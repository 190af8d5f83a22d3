-- Points in a list of exchanges, and the result of a slow caller's search with blocking.
use Rattle.std.proofs.Common.{◌≡◌, ◌⊎◌, inl, inr, ⊎_elim, ℕ, ◌<◌, true, false, Option, List, [], ◌∷◌, ◌++◌, refl, sym, ap, ◌∙◌, subst, arith}
use Rattle.papaya_words_law.specs.Exchange.{Word, Empty, Closed, Live, Marked, Copied, Buried, Setting}
use Rattle.papaya_words_law.specs.Exchange.{State, Exchange, Open, Claim, Replace, Bury, Link, Mark}
use Rattle.papaya_words_law.specs.Exchange.{Close, Place, Finish, Advance, Promote, Abort, Take, after}
use Rattle.papaya_words_law.specs.Exchange.{run}
use Rattle.papaya_words_law.specs.View.{view, look}
use Rattle.papaya_words_law.specs.Allows.{Allows, AllAllowed, MayPromote}
use Rattle.papaya_words_law.specs.Meaning.{map_after, map_of, IsLawful}
use Rattle.papaya_words_law.specs.Later.{Becomes}
use Rattle.papaya_words_law.specs.Invariant.{plain, IsBlockingState}
use Rattle.papaya_words_law.proofs.Later.{later_run}
use Rattle.papaya_words_law.proofs.Blocking.States.{target_aborted, settled_not_plain}
use Rattle.papaya_words_law.proofs.Blocking.Steps.{step_blocking, run_blocking}

-- two lists after each other
pub run-append : {P : Type 0} → (es fs : List (Exchange P)) (s : State P) → run (es ++ fs) s ≡ run fs (run es s)
run-append [] fs s = refl
run-append (e ∷ es) fs s = run-append es fs (after s e)

module _ {K P : Type 0} (g : Setting K P) where
  -- the map after them
  pub map_of-append : (es fs : List (Exchange P)) (m : K → Option P) → map_of g m (es ++ fs) ≡ map_of g (map_of g m es) fs
  map_of-append [] fs m = refl
  map_of-append (e ∷ es) fs m = map_of-append es fs (map_after g m e)

  -- the first is allowed
  pub allowed_first : (es fs : List (Exchange P)) (s : State P) → AllAllowed g s (es ++ fs) → AllAllowed g s es
  allowed_first [] fs s may = tt
  allowed_first (e ∷ es) fs s may = (may.0, allowed_first es fs (after s e) may.1)

  -- the second is, after it
  pub allowed_rest : (es fs : List (Exchange P)) (s : State P) → AllAllowed g s (es ++ fs) → AllAllowed g (run es s) fs
  allowed_rest [] fs s may = may
  allowed_rest (e ∷ es) fs s may = allowed_rest es fs (after s e) may.1

  -- both together
  pub allowed_append : (es fs : List (Exchange P)) (s : State P) → AllAllowed g s es → AllAllowed g (run es s) fs → AllAllowed g s (es ++ fs)
  allowed_append [] fs s a b = b
  allowed_append (e ∷ es) fs s a b = (a.0, allowed_append es fs (after s e) a.1 b)

  -- a point of fs at which t is the root, and at which each key has the same view of it as at the
  -- end
  pub record IsRootMoment (s : State P) (t : ℕ) (fs : List (Exchange P)) : Type 0 where
    pub so_far : List (Exchange P)
    pub rest : List (Exchange P)
    pub is : so_far ++ rest ≡ fs
    pub root : (run so_far s).root ≡ t
    pub sees : (k : K) (j : ℕ) → j < g.places t → look g (run fs s) k t j ≡ look g (run so_far s) k t j

  module _ (law : IsLawful g) (blocks : g.blocking ≡ true) where
    -- when the root changes, no word of the old one is Empty or Live
    promoted : (s : State P) (m : K → Option P) → IsBlockingState g s m → (t n : ℕ) → MayPromote g s t n → (x : ℕ) → x < g.size t → plain (s.slot t x) ≡ false
    promoted s m holds t n may x lt =
        let was : s.was_root t ≡ true = subst (λ y. s.was_root y ≡ true) may.root (holds.root_was (subst (λ y. 0 < y) (sym may.root) may.made)) in
        let target = target_aborted g s holds.sound t n (holds.was t was).0 may.target in
        let whole = may.whole x lt in
        let low : s.root < n = subst (λ y. y < n) (sym may.root) target.1 in
        let d = holds.done_to n (g.chunk_of x) low whole in
        subst (λ y. plain (s.slot y x) ≡ false) may.root
        (settled_not_plain g s n (s.slot s.root x) (d.settled x whole (subst (λ y. x < g.size y) (sym may.root) lt)))

    -- a word that is neither Empty nor Live stays as it is, unless it becomes Copied
    stands : (u w : Word P) → plain u ≡ false → ((p : P) → w ≡ Copied p → ⊥) → Becomes g u w → w ≡ u
    stands Empty w h c b = absurd cc
    stands Closed w h c b = b
    stands (Live p) w h c b = absurd cc
    stands (Marked p) w h c b = ⊎_elim (λ e. e) (λ e. absurd (c p e)) b
    stands (Copied p) w h c b = b
    stands (Buried p) w h c b = b

    -- an exchange leaves the root, or promotes it
    keeps_root : (s : State P) (t : ℕ) → s.root ≡ t → 0 < t → (e : Exchange P) → Allows g s e → ((after s e).root ≡ t) ⊎ ((n : ℕ) × MayPromote g s t n)
    keeps_root s t is some (Open u) may = absurd (let z = may.0 in omega arith)
    keeps_root s t is some (Claim u x p) may = inl is
    keeps_root s t is some (Replace u x p q) may = inl is
    keeps_root s t is some (Bury u x p) may = inl is
    keeps_root s t is some (Link u n) may = inl is
    keeps_root s t is some (Mark u x p) may = inl is
    keeps_root s t is some (Close u x) may = inl is
    keeps_root s t is some (Place n x p) may = inl is
    keeps_root s t is some (Finish u x p) may = inl is
    keeps_root s t is some (Advance n c) may = inl is
    keeps_root s t is some (Promote u n) may = inr (n, subst (λ y. MayPromote g s y n) (sym may.root ∙ is) may)
    keeps_root s t is some (Abort n) may = inl is
    keeps_root s t is some (Take n) may = inl is

    -- a table that was the root had the same views at a point when it was the root
    pub root_moment : (fs : List (Exchange P)) (s : State P) (m : K → Option P) → IsBlockingState g s m → AllAllowed g s fs → (t : ℕ) → s.root ≡ t
        → 0 < t → IsRootMoment s t fs
    root_moment [] s m holds may t is some = record { so_far = []; rest = []; is = refl; root = is; sees = λ k j lt. refl }
    root_moment (e ∷ fs) s m holds may t is some =
        first (root_moment fs (after s e) (map_after g m e) (step_blocking g law blocks s m holds e may.0).1 may.1 t) (keeps_root s t is some e may.0)
      where
        first : ((after s e).root ≡ t → 0 < t → IsRootMoment (after s e) t fs) → ((after s e).root ≡ t) ⊎ ((n : ℕ) × MayPromote g s t n)
            → IsRootMoment s t (e ∷ fs)
        first ih (inl same) = let r = ih same some in record { so_far = e ∷ r.so_far; rest = r.rest; is = ap (λ l. e ∷ l) r.is; root = r.root; sees = r.sees }
        first ih (inr (n, p)) = record {
          so_far = [];
          rest = e ∷ fs;
          is = refl;
          root = is;
          sees = λ k j lt.
              let x : ℕ = g.place k t j in
              ap (view g k) (stands (s.slot t x) ((run (e ∷ fs) s).slot t x) (promoted s m holds t n p x (law.within k t j lt))
              ((run_blocking g law blocks (e ∷ fs) s m holds may).copied t x) ((later_run g law (e ∷ fs) s may).words t x));
        }
