-- Two lists of pairs joined, of which the first counts if both have a pair of a key: which pair a
-- key has, and that no two pairs have equal keys.
use Rattle.std.proofs.Common.{◌≡◌, ⊎_elim, ◌++◌, true, false, Option, None, Some, List, [], ◌∷◌, refl, sym, ap, ◌∙◌, subst}
use Rattle.std.proofs.lemmas.Bool.{cases_Bool}
use Rattle.papaya_words_law.specs.Exchange.{Setting}
use Rattle.papaya_words_law.specs.Meaning.{IsLawful}
use Rattle.papaya_words_law.specs.Content.{lookup, AreApart}
use Rattle.papaya_words_law.specs.ChainContent.{unless_found, missing_in, joined}
use Rattle.papaya_words_law.proofs.Lists.{lookup_first, lookup_rest}
use Rattle.papaya_words_law.proofs.FiniteMaps.{lookup_same, look_here, look_behind}

module _ {K P : Type 0} (g : Setting K P) where
  -- a pair whose key the first list has stays out
  missing_out : (ps : List P) (q : P) (qs : List P) (p : P) → lookup g.same g.key ps (g.key q) ≡ Some p
      → missing_in g.same g.key ps (q ∷ qs) ≡ missing_in g.same g.key ps qs
  missing_out ps q qs p e = ap (λ v. unless_found v q ++ missing_in g.same g.key ps qs) e

  -- another one comes in
  missing_put : (ps : List P) (q : P) (qs : List P) → lookup g.same g.key ps (g.key q) ≡ None
      → missing_in g.same g.key ps (q ∷ qs) ≡ q ∷ missing_in g.same g.key ps qs
  missing_put ps q qs e = ap (λ v. unless_found v q ++ missing_in g.same g.key ps qs) e

  -- a list behind another one that has none of its keys
  append_apart : (ps zs : List P) → AreApart g.same g.key ps → AreApart g.same g.key zs
      → ((k : K) (p : P) → lookup g.same g.key ps k ≡ Some p → lookup g.same g.key zs k ≡ None) → ((k : K) → g.same k k ≡ true) → AreApart g.same g.key (ps ++ zs)
  append_apart [] zs hp hz other itself = hz
  append_apart (p ∷ ps) zs hp hz other itself = (
    lookup_rest g ps zs (g.key p) hp.0 ∙ other (g.key p) p (look_here g p ps (g.key p) (itself (g.key p))),
    append_apart ps zs hp.1 hz
        (λ k q e. ⊎_elim
        (λ (y : g.same k (g.key p) ≡ true). other k p (look_here g p ps k y))
        (λ (n : g.same k (g.key p) ≡ false). other k q (look_behind g p ps k n ∙ e))
        (cases_Bool (g.same k (g.key p))))
        itself,
  )

  module _ (law : IsLawful g) where
    -- if one list has a pair of a key and another none of q's, the keys differ
    differs : (ps : List P) (k : K) (q : P) (p : P) → lookup g.same g.key ps k ≡ Some p → lookup g.same g.key ps (g.key q) ≡ None → g.same k (g.key q) ≡ false
    differs ps k q p e none =
        ⊎_elim
        (λ (y : g.same k (g.key q) ≡ true). absurd (let same = lookup_same g law ps k (g.key q) y in cc (same, e, none)))
        (λ (n : g.same k (g.key q) ≡ false). n)
        (cases_Bool (g.same k (g.key q)))

    -- the same, the other way round
    differs_back : (ps : List P) (k : K) (q : P) (p : P) → lookup g.same g.key ps k ≡ None → lookup g.same g.key ps (g.key q) ≡ Some p
        → g.same k (g.key q) ≡ false
    differs_back ps k q p none e =
        ⊎_elim
        (λ (y : g.same k (g.key q) ≡ true). absurd (let same = lookup_same g law ps k (g.key q) y in cc (same, e, none)))
        (λ (n : g.same k (g.key q) ≡ false). n)
        (cases_Bool (g.same k (g.key q)))

    -- a key of the first list has no pair among the added ones
    missing_none : (ps qs : List P) (k : K) (p : P) → lookup g.same g.key ps k ≡ Some p → lookup g.same g.key (missing_in g.same g.key ps qs) k ≡ None
    missing_none ps [] k p e = refl
    missing_none ps (q ∷ qs) k p e = by_found (missing_none ps qs k p e) (lookup g.same g.key ps (g.key q)) refl
      where
        by_found : lookup g.same g.key (missing_in g.same g.key ps qs) k ≡ None → (v : Option P) → lookup g.same g.key ps (g.key q) ≡ v
            → lookup g.same g.key (missing_in g.same g.key ps (q ∷ qs)) k ≡ None
        by_found ih None f =
            ap (λ zs. lookup g.same g.key zs k) (missing_put ps q qs f)
            ∙ (look_behind g q (missing_in g.same g.key ps qs) k (differs ps k q p e f) ∙ ih)
        by_found ih (Some r) f = ap (λ zs. lookup g.same g.key zs k) (missing_out ps q qs r f) ∙ ih

    -- any other key has there its pair of the second list
    missing_some : (ps qs : List P) (k : K) → lookup g.same g.key ps k ≡ None → lookup g.same g.key (missing_in g.same g.key ps qs) k ≡ lookup g.same g.key qs k
    missing_some ps [] k e = refl
    missing_some ps (q ∷ qs) k e = by_found (missing_some ps qs k e) (lookup g.same g.key ps (g.key q)) refl
      where
        by_found : lookup g.same g.key (missing_in g.same g.key ps qs) k ≡ lookup g.same g.key qs k → (v : Option P) → lookup g.same g.key ps (g.key q) ≡ v
            → lookup g.same g.key (missing_in g.same g.key ps (q ∷ qs)) k ≡ lookup g.same g.key (q ∷ qs) k
        by_found ih None f =
            ap (λ zs. lookup g.same g.key zs k) (missing_put ps q qs f)
            ∙ ⊎_elim
            (λ (y : g.same k (g.key q) ≡ true). look_here g q (missing_in g.same g.key ps qs) k y ∙ sym (look_here g q qs k y))
            (λ (n : g.same k (g.key q) ≡ false). look_behind g q (missing_in g.same g.key ps qs) k n ∙ (ih ∙ sym (look_behind g q qs k n)))
            (cases_Bool (g.same k (g.key q)))
        by_found ih (Some r) f =
            ap (λ zs. lookup g.same g.key zs k) (missing_out ps q qs r f)
            ∙ (ih ∙ sym (look_behind g q qs k (differs_back ps k q r e f)))

    -- a key of the first list has its pair of there
    pub joined_first : (ps qs : List P) (k : K) (p : P) → lookup g.same g.key ps k ≡ Some p → lookup g.same g.key (joined g.same g.key ps qs) k ≡ Some p
    joined_first ps qs k p e = lookup_first g ps (missing_in g.same g.key ps qs) k p e

    -- any other one has that of the second list
    pub joined_rest : (ps qs : List P) (k : K) → lookup g.same g.key ps k ≡ None → lookup g.same g.key (joined g.same g.key ps qs) k ≡ lookup g.same g.key qs k
    joined_rest ps qs k e = lookup_rest g ps (missing_in g.same g.key ps qs) k e ∙ missing_some ps qs k e

    -- no two of the added pairs have equal keys
    missing_apart : (ps qs : List P) → AreApart g.same g.key qs → AreApart g.same g.key (missing_in g.same g.key ps qs)
    missing_apart ps [] h = tt
    missing_apart ps (q ∷ qs) h = by_found (missing_apart ps qs h.1) (lookup g.same g.key ps (g.key q)) refl
      where
        by_found : AreApart g.same g.key (missing_in g.same g.key ps qs) → (v : Option P) → lookup g.same g.key ps (g.key q) ≡ v
            → AreApart g.same g.key (missing_in g.same g.key ps (q ∷ qs))
        by_found ih None f =
            let both : AreApart g.same g.key (q ∷ missing_in g.same g.key ps qs) = (missing_some ps qs (g.key q) f ∙ h.0, ih) in
            subst (AreApart g.same g.key) (sym (missing_put ps q qs f)) both
        by_found ih (Some r) f = subst (AreApart g.same g.key) (sym (missing_out ps q qs r f)) ih

    -- so neither has the joined list
    pub joined_apart : (ps qs : List P) → AreApart g.same g.key ps → AreApart g.same g.key qs → AreApart g.same g.key (joined g.same g.key ps qs)
    joined_apart ps qs hp hq = append_apart ps (missing_in g.same g.key ps qs) hp (missing_apart ps qs hq) (missing_none ps qs) law.itself
