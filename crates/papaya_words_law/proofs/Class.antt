-- One class of keys: its words in the tables, without blocking. `On` says which tables are on the
-- chain, n at how many places a search looks, S which slot a place has, and V the view of a search
-- there.
use Rattle.std.proofs.Common.{◌≡◌, ◌⊎◌, inl, inr, ⊎_elim, ℕ, ◌<◌, Bool, true, Option, None, Some, refl, sym, ap, ◌∙◌, subst}
use Rattle.std.proofs.lemmas.Bool.{cases_order}
use Rattle.papaya_words_law.specs.View.{View, Free, Here, Leaving, Gone, own, active, held, beyond, foreign, IsPassed, IsFull}
use Rattle.papaya_words_law.specs.Class.{IsFilled, IsBase, AllFull, IsFront, IsCopy, IsGoneTo, IsOwner, IsTied, IsIncrementalClass}
use Rattle.papaya_words_law.proofs.Views.{unfinished, held-active, active-own, beyond_not_active, foreign_not_own, foreign-beyond, beyond_not_unfinished}

module _ {P : Type 0} where
  -- a pair that is found is held
  pub held_of : (v : View P) (p : P) → (v ≡ Here p) ⊎ (v ≡ Leaving p) → held v ≡ true
  held_of v p (inl e) = ap held e
  held_of v p (inr e) = ap held e

  module _ (On : ℕ → Type 0) (n : ℕ → ℕ) (S : ℕ → ℕ → ℕ) (V : ℕ → ℕ → View P) (k : IsBase On n S V) where
    -- two words with which one table has or had the pair are one
    pub same_active : (t i j : ℕ) → i < n t → j < n t → active (V t i) ≡ true → active (V t j) ≡ true → V t i ≡ V t j
    same_active t i j a b p q = k.same_slot t i j (k.one t i j a b p q)

    -- a passed table holds no pair of the key
    pub passed_not_held : (t j : ℕ) → IsPassed n V t → j < n t → held (V t j) ≡ true → ⊥
    passed_not_held t j (inl (i, p, lt, e)) l h = let q = same_active t i j lt l (ap active e) (held-active (V t j) h) in cc (q, e, h)
    passed_not_held t j (inr all) l h = beyond_not_active (V t j) (all j l) (held-active (V t j) h)

    -- behind an Empty place that a claim or a copy may take there is no word that it must not pass
    before_free : (test bad : View P → Bool) (clash : (v : View P) → test v ≡ true → bad v ≡ true → ⊥) (bad-own : (v : View P) → bad v ≡ true → own v ≡ true)
        → (t j i : ℕ) → V t j ≡ Free → ((l : ℕ) → l < j → test (V t l) ≡ true) → i < n t → bad (V t i) ≡ true → ⊥
    before_free test bad clash bad-own t j i free before lt h =
        let f = k.filled t i lt (bad-own (V t i) h) in
        let e : V t f.at ≡ V t i = k.same_slot t f.at i f.is in
        ⊎_elim
        (λ (q : j ≡ f.at). let h' : own (V t i) ≡ true = bad-own (V t i) h in cc (ap (V t) q, e, free, h'))
        (⊎_elim (λ (q : j < f.at). f.before j q free) (λ (q : f.at < j). clash (V t f.at) (before f.at q) (ap bad e ∙ h)))
        (cases_order j f.at)

    -- if a claim may be put there, no place has or had the pair
    pub free_not_active : (t j i : ℕ) → V t j ≡ Free → ((l : ℕ) → l < j → beyond (V t l) ≡ true) → i < n t → active (V t i) ≡ true → ⊥
    free_not_active = before_free beyond active beyond_not_active active-own

    -- if a copy may be put there, no place has a word of the key
    pub free_not_own : (t j i : ℕ) → V t j ≡ Free → ((l : ℕ) → l < j → foreign (V t l) ≡ true) → i < n t → own (V t i) ≡ true → ⊥
    free_not_own = before_free foreign own foreign_not_own (λ v h. h)

    -- a search comes to one table at most that has the pair
    front_once : (t u i j : ℕ) → On t → On u → IsFront On n V t → IsFront On n V u → i < n t → j < n u → held (V t i) ≡ true → held (V u j) ≡ true → t ≡ u
    front_once t u i j a b f g lt lu h e =
        ⊎_elim
        (λ q. q)
        (⊎_elim (λ (q : t < u). absurd (passed_not_held t i (g t a q) lt h)) (λ (q : u < t). absurd (passed_not_held u j (f u b q) lu e)))
        (cases_order t u)

  -- a table of the chain is passed if a later table has a Leaving pair of the key
  pub passed_or_copy : (On : ℕ → Type 0) (n : ℕ → ℕ) (S : ℕ → ℕ → ℕ) (V : ℕ → ℕ → View P) (m : Option P) (k : IsIncrementalClass On n S V m)
      → (t u j : ℕ) (p : P) → On t → t < u → j < n u → V u j ≡ Leaving p → IsPassed n V t
  passed_or_copy On n S V m k t u j p a lt lu e =
      elim (k.order t u j a lt lu (ap own e)) [ inl h ↦ h | inr c ↦ absurd (let q = c.copy in cc (q, e)) ]

  -- a pair that a search finds is the map's
  pub found_is : (On : ℕ → Type 0) (n : ℕ → ℕ) (S : ℕ → ℕ → ℕ) (V : ℕ → ℕ → View P) (m : Option P) (k : IsIncrementalClass On n S V m) (t j : ℕ) (p : P)
      → On t → IsFront On n V t → j < n t → (V t j ≡ Here p) ⊎ (V t j ≡ Leaving p) → m ≡ Some p
  found_is On n S V None k t j p a f lt h = absurd (k.tied t j lt (held_of (V t j) p h))
  found_is On n S V (Some q) k t j p a f lt h =
      let o : IsOwner On n V q = k.tied in
      let here : held (V t j) ≡ true = held_of (V t j) p h in
      let there : held (V o.table o.at) ≡ true = held_of (V o.table o.at) q o.has in
      let e : t ≡ o.table = front_once On n S V k.base t o.table j o.at a o.on f o.front lt o.within here there in
      let within : o.at < n t = subst (λ u. o.at < n u) (sym e) o.within in
      let has : (V t o.at ≡ Here q) ⊎ (V t o.at ≡ Leaving q) = subst (λ u. (V u o.at ≡ Here q) ⊎ (V u o.at ≡ Leaving q)) (sym e) o.has in
      let s : V t j ≡ V t o.at = same_active On n S V k.base t j o.at lt within (held-active (V t j) here)
      (held-active (V t o.at) (held_of (V t o.at) q has)) in
      ⊎_elim
      (λ (x : V t j ≡ Here p). ⊎_elim (λ (y : V t o.at ≡ Here q). cc) (λ (y : V t o.at ≡ Leaving q). cc) has)
      (λ (x : V t j ≡ Leaving p). ⊎_elim (λ (y : V t o.at ≡ Here q). cc) (λ (y : V t o.at ≡ Leaving q). cc) has)
      h

  -- if a search that reaches t can't find the pair in it or before it, and only copies can be
  -- behind it, the map has none
  pub none_is : (On : ℕ → Type 0) (n : ℕ → ℕ) (S : ℕ → ℕ → ℕ) (V : ℕ → ℕ → View P) (m : Option P) (k : IsIncrementalClass On n S V m) (t : ℕ)
      → IsFront On n V t → ((i : ℕ) → i < n t → held (V t i) ≡ true → ⊥)
      → ((u j : ℕ) → On u → t < u → j < n u → held (V u j) ≡ true → IsFront On n V u → ⊥) → m ≡ None
  none_is On n S V None k t f here later = refl
  none_is On n S V (Some q) k t f here later =
      let o : IsOwner On n V q = k.tied in
      let there : held (V o.table o.at) ≡ true = held_of (V o.table o.at) q o.has in
      absurd (⊎_elim
      (λ (e : t ≡ o.table). here o.at (subst (λ u. o.at < n u) (sym e) o.within) (subst (λ u. held (V u o.at) ≡ true) (sym e) there))
      (⊎_elim
      (λ (l : t < o.table). later o.table o.at o.on l o.within there o.front)
      (λ (l : o.table < t). passed_not_held On n S V k.base o.table o.at (f o.table o.on l) o.within there))
      (cases_order t o.table))

  -- at an Empty place that a search comes to, the map has no pair
  pub empty_is : (On : ℕ → Type 0) (n : ℕ → ℕ) (S : ℕ → ℕ → ℕ) (V : ℕ → ℕ → View P) (m : Option P) (k : IsIncrementalClass On n S V m) (t j : ℕ)
      → On t → IsFront On n V t → j < n t → ((i : ℕ) → i < j → beyond (V t i) ≡ true) → V t j ≡ Free → m ≡ None
  empty_is On n S V m k t j a f lt before free =
      none_is On n S V m k t f
      (λ i l h. free_not_active On n S V k.base t j i free before l (held-active (V t i) h))
      (λ u i b l lu h g. free_not_passed (g t a l))
    where
      free_not_passed : IsPassed n V t → ⊥
      free_not_passed (inl (i, p, l, e)) = free_not_active On n S V k.base t j i free before l (ap active e)
      free_not_passed (inr all) = let h : beyond (V t j) ≡ true = all j lt in cc (h, free)

  -- behind the last table there's nothing
  pub over_is : (On : ℕ → Type 0) (n : ℕ → ℕ) (S : ℕ → ℕ → ℕ) (V : ℕ → ℕ → View P) (m : Option P) (k : IsIncrementalClass On n S V m) (t : ℕ)
      → IsFront On n V t → IsPassed n V t → ((u : ℕ) → On u → t < u → ⊥) → m ≡ None
  over_is On n S V m k t f p last =
      none_is On n S V m k t f (λ i l h. passed_not_held On n S V k.base t i p l h) (λ u j b l lu h g. last u b l)

  -- V' is V, with b for a in the slot x of table t
  pub record IsTurn (S : ℕ → ℕ → ℕ) (V V' : ℕ → ℕ → View P) (t x : ℕ) (a b : View P) : Type 0 where
    pub each : (u j : ℕ) → ((V' u j ≡ V u j) × ((u ≡ t) × (S u j ≡ x) → ⊥)) ⊎ ((u ≡ t) × (S u j ≡ x) × (V u j ≡ a) × (V' u j ≡ b))

  -- the conditions of a change in both modes
  pub record IsSafeBase (On : ℕ → Type 0) (n : ℕ → ℕ) (S : ℕ → ℕ → ℕ) (V : ℕ → ℕ → View P) (t x : ℕ) (a b : View P) : Type 0 where
    pub fills : b ≡ Free → ⊥
    pub on : own b ≡ true → On t
    pub filled : own b ≡ true → (own a ≡ true) ⊎ IsFilled n S V t x
    pub lone : active b ≡ true → (active a ≡ true) ⊎ ((j : ℕ) → j < n t → active (V t j) ≡ true → ⊥)

  -- its conditions without blocking
  pub record IsSafe (On : ℕ → Type 0) (n : ℕ → ℕ) (S : ℕ → ℕ → ℕ) (V : ℕ → ℕ → View P) (t x : ℕ) (a b : View P) : Type 0 where
    pub base : IsSafeBase On n S V t x a b
    pub changes : unfinished a ≡ true
    pub stays : own a ≡ true → own b ≡ true
    pub leaves : (p : P) → a ≡ Leaving p → b ≡ Gone p
    pub order : own b ≡ true → (l : ℕ) → On l → l < t → IsPassed n V l ⊎ IsCopy On n V l t b
    pub gone : (p : P) → b ≡ Gone p → IsGoneTo On n V t

  module _ (On : ℕ → Type 0) (n : ℕ → ℕ) (S : ℕ → ℕ → ℕ) (V V' : ℕ → ℕ → View P) (t x : ℕ) (a b : View P) (turn : IsTurn S V V' t x a b) where
    -- if the old word of the changed slot is unfinished, each finished word stays
    pub still : (u j : ℕ) → unfinished a ≡ true → (unfinished (V u j) ≡ true → ⊥) → V' u j ≡ V u j
    still u j unf done = ⊎_elim (λ h. h.0) (λ h. absurd (done (let e = h.2 in ap unfinished e ∙ unf))) (turn.each u j)

    -- a passed table stays passed
    pub passed_on : unfinished a ≡ true → (u : ℕ) → IsPassed n V u → IsPassed n V' u
    passed_on unf u (inl (j, p, lt, e)) = inl (j, p, lt, still u j unf (λ h. cc (e, h)) ∙ e)
    passed_on unf u (inr all) = inr (λ j lt. ap beyond (still u j unf (λ h. beyond_not_unfinished (V u j) (all j lt) h)) ∙ all j lt)

    -- a full one stays full
    full_on : unfinished a ≡ true → (u : ℕ) → IsFull n V u → IsFull n V' u
    full_on unf u all j lt = ap foreign (still u j unf (λ h. beyond_not_unfinished (V u j) (foreign-beyond (V u j) (all j lt)) h)) ∙ all j lt

    -- a search reaches the tables that it reached
    pub front_on : unfinished a ≡ true → (u : ℕ) → IsFront On n V u → IsFront On n V' u
    front_on unf u f l o lt = passed_on unf l (f l o lt)

    -- if all tables between two were full, they stay full
    all_full_on : unfinished a ≡ true → (u w : ℕ) → AllFull On n V u w → AllFull On n V' u w
    all_full_on unf u w f l o lu lw = full_on unf l (f l o lu lw)

    -- no place becomes Empty
    not_free_on : (b ≡ Free → ⊥) → (u j : ℕ) → (V u j ≡ Free → ⊥) → V' u j ≡ Free → ⊥
    not_free_on fills u j old e = ⊎_elim (λ h. old (sym h.0 ∙ e)) (λ h. fills (sym h.3 ∙ e)) (turn.each u j)

    -- a word of the key stays one
    pub own_on : (own a ≡ true → own b ≡ true) → (u j : ℕ) → own (V u j) ≡ true → own (V' u j) ≡ true
    own_on stays u j h = ⊎_elim (λ r. ap own r.0 ∙ h) (λ r. ap own r.3 ∙ stays (ap own (sym r.2) ∙ h)) (turn.each u j)

    -- a filled place stays filled
    pub filled_on : (b ≡ Free → ⊥) → (u y : ℕ) → IsFilled n S V u y → IsFilled n S V' u y
    filled_on fills u y f = record { at = f.at; within = f.within; is = f.is; before = λ i lt. not_free_on fills u i (f.before i lt) }

    module _ (k : IsBase On n S V) (safe : IsSafeBase On n S V t x a b) where
      -- a slot still has one view
      turn_same_slot : (u i j : ℕ) → S u i ≡ S u j → V' u i ≡ V' u j
      turn_same_slot u i j e = go (turn.each u i) (turn.each u j)
        where
          go : ((V' u i ≡ V u i) × ((u ≡ t) × (S u i ≡ x) → ⊥)) ⊎ ((u ≡ t) × (S u i ≡ x) × (V u i ≡ a) × (V' u i ≡ b))
              → ((V' u j ≡ V u j) × ((u ≡ t) × (S u j ≡ x) → ⊥)) ⊎ ((u ≡ t) × (S u j ≡ x) × (V u j ≡ a) × (V' u j ≡ b)) → V' u i ≡ V' u j
          go (inl p) (inl q) = p.0 ∙ (k.same_slot u i j e ∙ sym q.0)
          go (inl p) (inr q) = absurd (p.1 (q.0, e ∙ q.1))
          go (inr p) (inl q) = absurd (q.1 (p.0, sym e ∙ p.1))
          go (inr p) (inr q) = p.3 ∙ sym q.3

      -- words of the key are still on the chain
      turn_on : (u j : ℕ) → own (V' u j) ≡ true → On u
      turn_on u j h =
          ⊎_elim (λ r. k.on u j (ap own (sym r.0) ∙ h)) (λ r. subst On (sym r.0) (safe.on (ap own (sym r.3) ∙ h))) (turn.each u j)

      -- at filled places still
      turn_filled : (u j : ℕ) → j < n u → own (V' u j) ≡ true → IsFilled n S V' u (S u j)
      turn_filled u j lt h = filled_on safe.fills u (S u j) (go (turn.each u j))
        where
          go : ((V' u j ≡ V u j) × ((u ≡ t) × (S u j ≡ x) → ⊥)) ⊎ ((u ≡ t) × (S u j ≡ x) × (V u j ≡ a) × (V' u j ≡ b)) → IsFilled n S V u (S u j)
          go (inl r) = k.filled u j lt (ap own (sym r.0) ∙ h)
          go (inr r) =
              ⊎_elim
              (λ (o : own a ≡ true). k.filled u j lt (ap own r.2 ∙ o))
              (λ (f : IsFilled n S V t x). subst (λ w. IsFilled n S V w (S u j)) (sym r.0) (subst (IsFilled n S V t) (sym r.1) f))
              (safe.filled (ap own (sym r.3) ∙ h))

      -- and one at most has or had the pair
      turn_one : (u i j : ℕ) → i < n u → j < n u → active (V' u i) ≡ true → active (V' u j) ≡ true → S u i ≡ S u j
      turn_one u i j li lj p q = go (turn.each u i) (turn.each u j)
        where
          mixed : (i j : ℕ) → i < n u → j < n u → active (V' u i) ≡ true → active (V' u j) ≡ true → (u ≡ t) × (S u i ≡ x) × (V u i ≡ a) × (V' u i ≡ b)
              → V' u j ≡ V u j → S u i ≡ S u j
          mixed i j li lj p q r s =
              ⊎_elim
              (λ (o : active a ≡ true). k.one u i j li lj (ap active r.2 ∙ o) (ap active (sym s) ∙ q))
              (λ (none : (j : ℕ) → j < n t → active (V t j) ≡ true → ⊥).
              absurd (none j (subst (λ w. j < n w) r.0 lj) (subst (λ w. active (V w j) ≡ true) r.0 (ap active (sym s) ∙ q))))
              (safe.lone (ap active (sym r.3) ∙ p))

          go : ((V' u i ≡ V u i) × ((u ≡ t) × (S u i ≡ x) → ⊥)) ⊎ ((u ≡ t) × (S u i ≡ x) × (V u i ≡ a) × (V' u i ≡ b))
              → ((V' u j ≡ V u j) × ((u ≡ t) × (S u j ≡ x) → ⊥)) ⊎ ((u ≡ t) × (S u j ≡ x) × (V u j ≡ a) × (V' u j ≡ b)) → S u i ≡ S u j
          go (inl r) (inl s) = k.one u i j li lj (ap active (sym r.0) ∙ p) (ap active (sym s.0) ∙ q)
          go (inl r) (inr s) = sym (mixed j i lj li q p s r.0)
          go (inr r) (inl s) = mixed i j li lj p q r s.0
          go (inr r) (inr s) = r.1 ∙ sym s.1

      -- the invariant of both modes is kept
      pub base_after : IsBase On n S V'
      base_after = record { same_slot = turn_same_slot; on = turn_on; filled = turn_filled; one = turn_one }

    module _ (m : Option P) (k : IsIncrementalClass On n S V m) (safe : IsSafe On n S V t x a b) where
      -- a copy stays one, or the word from which it was copied is Copied
      copy_on : (u w j : ℕ) → (c : IsCopy On n V u w (V w j)) → V' w j ≡ V w j → IsPassed n V' u ⊎ IsCopy On n V' u w (V' w j)
      copy_on u w j c e =
          ⊎_elim
          (λ r. inr (record {
            at = c.at;
            pair = c.pair;
            within = c.within;
            leaving = r.0 ∙ c.leaving;
            copy = e
                ∙ c.copy;
            full = all_full_on safe.changes u w c.full;
          }))
          (λ r. inl (inl (c.at, c.pair, c.within, r.3 ∙ safe.leaves c.pair (sym r.2 ∙ c.leaving))))
          (turn.each u c.at)

      -- a word behind a table is still a copy, or the table is passed
      turn_order : (u w j : ℕ) → On u → u < w → j < n w → own (V' w j) ≡ true → IsPassed n V' u ⊎ IsCopy On n V' u w (V' w j)
      turn_order u w j o l lt h = go (turn.each w j)
        where
          go : ((V' w j ≡ V w j) × ((w ≡ t) × (S w j ≡ x) → ⊥)) ⊎ ((w ≡ t) × (S w j ≡ x) × (V w j ≡ a) × (V' w j ≡ b)) → IsPassed n V' u
              ⊎ IsCopy On n V' u w (V' w j)
          go (inl r) =
              ⊎_elim
              (λ p. inl (passed_on safe.changes u p))
              (λ (c : IsCopy On n V u w (V w j)). copy_on u w j c r.0)
              (k.order u w j o l lt (ap own (sym r.0) ∙ h))
          go (inr r) =
              ⊎_elim
              (λ p. inl (passed_on safe.changes u p))
              (λ (c : IsCopy On n V u t b).
              ⊎_elim
              (λ s. inr (record {
                at = c.at;
                pair = c.pair;
                within = c.within;
                leaving = s.0 ∙ c.leaving;
                copy = r.3
                    ∙ c.copy;
                full = subst (AllFull On n V' u) (sym r.0) (all_full_on safe.changes u t c.full);
              }))
              (λ s. inl (inl (c.at, c.pair, c.within, s.3 ∙ safe.leaves c.pair (sym s.2 ∙ c.leaving))))
              (turn.each u c.at))
              (safe.order (ap own (sym r.3) ∙ h) u o (subst (λ y. u < y) r.0 l))

      -- a copy stays in its table
      gone_on : (u : ℕ) → IsGoneTo On n V u → IsGoneTo On n V' u
      gone_on u g = record {
        table = g.table;
        at = g.at;
        on = g.on;
        later = g.later;
        within = g.within;
        word = own_on safe.stays g.table g.at g.word;
        full = all_full_on safe.changes u g.table g.full;
      }

      -- a pair that is Copied came to a later table
      turn_gone : (u i : ℕ) (p : P) → i < n u → V' u i ≡ Gone p → IsGoneTo On n V' u
      turn_gone u i p lt e =
          ⊎_elim
          (λ r. gone_on u (k.gone u i p lt (sym r.0 ∙ e)))
          (λ r. gone_on u (subst (IsGoneTo On n V) (sym r.0) (safe.gone p (sym r.3 ∙ e))))
          (turn.each u i)

      -- the whole invariant is kept, once the map is tied again
      pub kept_after : (m' : Option P) → IsTied On n V' m' → IsIncrementalClass On n S V' m'
      kept_after m' tied = record { base = base_after k.base safe.base; order = turn_order; gone = turn_gone; tied = tied }

  -- the chain grows: the invariant of both modes
  pub longer_base : (On On' : ℕ → Type 0) (n : ℕ → ℕ) (S : ℕ → ℕ → ℕ) (V : ℕ → ℕ → View P) → ((t : ℕ) → On t → On' t) → IsBase On n S V → IsBase On' n S V
  longer_base On On' n S V more k = record { same_slot = k.same_slot; on = λ t j h. more t (k.on t j h); filled = k.filled; one = k.one }

  -- the chain grows at its end
  pub longer_kept : (On On' : ℕ → Type 0) (n : ℕ → ℕ) (S : ℕ → ℕ → ℕ) (V : ℕ → ℕ → View P) (m : Option P) → ((t : ℕ) → On t → On' t)
      → ((l u : ℕ) → On' l → On u → l < u → On l)
      → IsIncrementalClass On n S V m → IsIncrementalClass On' n S V m
  longer_kept On On' n S V m more older k = record {
    base = longer_base On On' n S V more k.base;
    order = λ t u j on lt l h. ⊎_elim (λ p. inl p) (λ (c : IsCopy On n V t u (V u j)). inr (copy u (k.base.on u j h) c))
        (k.order t u j (older t u on (k.base.on u j h) lt) lt l h);
    gone = λ t i p lt e. gone' t (k.gone t i p lt e);
    tied = tied' m k.tied;
  }
    where
      full' : (t u : ℕ) → On u → AllFull On n V t u → AllFull On' n V t u
      full' t u on f l onl lo hi = f l (older l u onl on hi) lo hi

      copy : {t : ℕ} {w : View P} (u : ℕ) → On u → IsCopy On n V t u w → IsCopy On' n V t u w
      copy {t} u on c = record { at = c.at; pair = c.pair; within = c.within; leaving = c.leaving; copy = c.copy; full = full' t u on c.full }

      gone' : (t : ℕ) → IsGoneTo On n V t → IsGoneTo On' n V t
      gone' t q = record {
        table = q.table;
        at = q.at;
        on = more q.table q.on;
        later = q.later;
        within = q.within;
        word = q.word;
        full = full' t
            q.table q.on q.full;
      }

      tied' : (v : Option P) → IsTied On n V v → IsTied On' n V v
      tied' None h = h
      tied' (Some p) o = record {
        table = o.table;
        at = o.at;
        on = more o.table o.on;
        within = o.within;
        has = o.has;
        front = λ l on lt.
            o.front l (older l o.table on o.on lt) lt;
      }
