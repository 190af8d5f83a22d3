-- The pairs of the root are the map, as a list in which no two pairs have equal keys.
use Rattle.std.proofs.Common.{◌≡◌, ◌⊎◌, inl, inr, ⊎_elim, ℕ, ◌<◌, true, false, Option, None, Some, [], refl, sym, ap, ◌∙◌, arith}
use Rattle.std.proofs.lemmas.Bool.{cases_Bool, cases_lt, cond-true, cond-false}
use Rattle.papaya_words_law.specs.Exchange.{Word, Empty, Closed, Live, Marked, Copied, Buried, Setting, State}
use Rattle.papaya_words_law.specs.View.{View, Free, Foreign, Here, Leaving, Gone, Grave, view, look, held}
use Rattle.papaya_words_law.specs.Meaning.{IsLawful}
use Rattle.papaya_words_law.specs.Class.{IsOn, IsBase}
use Rattle.papaya_words_law.specs.Invariant.{IsKeeping, named}
use Rattle.papaya_words_law.specs.Content.{pairs_in, content, lookup, AreApart}
use Rattle.papaya_words_law.proofs.Views.{held-active}
use Rattle.papaya_words_law.proofs.Class.{held_of}
use Rattle.papaya_words_law.proofs.Slots.{view_here, view_leaving}
use Rattle.papaya_words_law.proofs.Lists.{Holds, table_found, table_none, table_empty, table_apart}
use Rattle.papaya_words_law.proofs.OneMap.{keeping_sound, root_reached, means}
use Rattle.papaya_words_law.proofs.Walks.{root_holds}

module _ {K P : Type 0} (g : Setting K P) where
  -- a search for k that finds something finds a pair of the key
  pub held_word : (k : K) (w : Word P) (v : View P) → view g k w ≡ v → held v ≡ true → (p : P) × Holds w p × (g.same k (g.key p) ≡ true)
  held_word k w Free e h = absurd cc
  held_word k w Foreign e h = absurd cc
  held_word k w (Here p) e h =
      let is : w ≡ Live p = view_here g k w p e in
      ⊎_elim
      (λ (y : g.same k (g.key p) ≡ true). (p, inl is, y))
      (λ (n : g.same k (g.key p) ≡ false). absurd
      (let f : Here p ≡ Foreign = sym e ∙ ap (view g k) is ∙ cond-false (g.same k (g.key p)) (Here p) Foreign n in cc f))
      (cases_Bool (g.same k (g.key p)))
  held_word k w (Leaving p) e h = let r = view_leaving g k w p e in (p, inr r.0, r.1)
  held_word k w (Gone p) e h = absurd cc
  held_word k w (Grave p) e h = absurd cc

  module _ (law : IsLawful g) (s : State P) (m : K → Option P) (keeps : IsKeeping g s m) where
    -- a pair is at a place of each key that is equal to its own
    pub at_place : (t x : ℕ) (p : P) → Holds (s.slot t x) p → (k : K) → g.same k (g.key p) ≡ true → (j : ℕ) × (j < g.places t) × (g.place k t j ≡ x)
        × ((look g s k t j ≡ Here p) ⊎ (look g s k t j ≡ Leaving p))
    at_place t x p h k same =
        let name : named (s.slot t x) ≡ Some p = ⊎_elim (λ e. ap named e) (λ e. ap named e) h in
        let o = (keeping_sound g s m keeps).placed t x p name in
        let is : g.place k t o.at ≡ x = law.places_same k (g.key p) same t o.at ∙ o.is in (
          o.at,
          o.within,
          is,
          ⊎_elim
              (λ e. inl (ap (λ y. view g k (s.slot t y)) is ∙ ap (view g k) e ∙ cond-true (g.same k (g.key p)) (Here p) Foreign same))
              (λ e. inr (ap (λ y. view g k (s.slot t y)) is ∙ ap (view g k) e ∙ cond-true (g.same k (g.key p)) (Leaving p) Foreign same))
              h,
        )

    -- no two slots of a table have pairs of one key
    one_slot : (t x y : ℕ) (p q : P) → Holds (s.slot t x) p → Holds (s.slot t y) q → g.same (g.key q) (g.key p) ≡ true → x ≡ y
    one_slot t x y p q hx hy same =
        let base : IsBase (IsOn s.first s.next) g.places (g.place (g.key q)) (look g s (g.key q)) =
        ⊎_elim (λ h. (h.1.class (g.key q)).base) (λ h. (h.1.class (g.key q)).base) keeps in
        let a = at_place t x p hx (g.key q) same in
        let b = at_place t y q hy (g.key q) (law.itself (g.key q)) in
        let one = base.one t a.0 b.0 a.1 b.1 (held-active (look g s (g.key q) t a.0) (held_of (look g s (g.key q) t a.0) p a.3))
        (held-active (look g s (g.key q) t b.0) (held_of (look g s (g.key q) t b.0) q b.3)) in
        sym a.2 ∙ one ∙ b.2

    -- so no two pairs in a table have equal keys
    pub apart_in : (t n : ℕ) → AreApart g.same g.key (pairs_in (s.slot t) n)
    apart_in t n = table_apart g law.back (s.slot t) (one_slot t) n

    -- a table off the chain is Empty
    pub empty_off : (t : ℕ) → (IsOn s.first s.next t → ⊥) → (x : ℕ) → s.slot t x ≡ Empty
    empty_off t off x = by_word (s.slot t x) refl
      where
        not_empty : (w : Word P) → s.slot t x ≡ w → (w ≡ Empty → ⊥) → s.slot t x ≡ Empty
        not_empty w e some = absurd (off ((keeping_sound g s m keeps).slots_on t x (λ z. some (sym e ∙ z))))

        by_word : (w : Word P) → s.slot t x ≡ w → s.slot t x ≡ Empty
        by_word Empty e = e
        by_word Closed e = not_empty Closed e (λ z. cc z)
        by_word (Live p) e = not_empty (Live p) e (λ z. cc z)
        by_word (Marked p) e = not_empty (Marked p) e (λ z. cc z)
        by_word (Copied p) e = not_empty (Copied p) e (λ z. cc z)
        by_word (Buried p) e = not_empty (Buried p) e (λ z. cc z)

    -- before there is a root there is no pair
    pub no_content : s.root ≡ 0 → content g s ≡ []
    no_content none = table_empty g (s.slot s.root) (g.size s.root) (empty_off s.root (λ on. omega (arith, on.0, none)))

    -- the pairs of the root's table are the map, with blocking or if it has no next table
    pub content_is : (g.blocking ≡ false → s.next s.root ≡ 0) → (k : K) → lookup g.same g.key (content g s) k ≡ m k
    content_is last k = ⊎_elim (λ some. by_found some (lookup g.same g.key (content g s) k) refl) (λ none. rootless (omega (arith, none))) (cases_lt 0 s.root)
      where
        rootless : s.root ≡ 0 → lookup g.same g.key (content g s) k ≡ m k
        rootless none = ap (λ ps. lookup g.same g.key ps k) (no_content none) ∙ sym ((means g law s m keeps k).no_root none)

        missing : lookup g.same g.key (content g s) k ≡ None → (v : Option P) → m k ≡ v → m k ≡ None
        missing e None f = f
        missing e (Some p) f =
            let o = root_holds g law s m keeps last k p f in
            let w = held_word k (s.slot s.root (g.place k s.root o.0)) (look g s k s.root o.0) refl o.2 in
            absurd (let no = table_none g (s.slot s.root) (g.size s.root) k e (g.place k s.root o.0) (law.within k s.root o.0 o.1) w.0 w.1 in
            let same = w.2 in cc (no, same))

        by_found : 0 < s.root → (v : Option P) → lookup g.same g.key (content g s) k ≡ v → lookup g.same g.key (content g s) k ≡ m k
        by_found some None e = e ∙ sym (missing e (m k) refl)
        by_found some (Some p) e =
            let r = table_found g (s.slot s.root) (g.size s.root) k p e in
            let a = at_place s.root r.0 p r.2 k r.3 in
            e ∙ sym ((means g law s m keeps k).found s.root a.0 p (root_reached g s m keeps k some) (λ b. refl) a.1 a.3)
