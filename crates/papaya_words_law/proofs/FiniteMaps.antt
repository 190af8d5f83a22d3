-- Lists in which no two pairs have equal keys: those of one map have the same length, which an
-- exchange changes as it changes the map.
use Rattle.std.proofs.Common.{◌≡◌, ⊎_elim, suc, true, false, cond, Option, None, Some, List, [], ◌∷◌, length, refl, sym, ap, ◌∙◌, subst}
use Rattle.std.proofs.lemmas.Bool.{cases_Bool, cond-true, cond-false}
use Rattle.papaya_words_law.specs.Exchange.{Setting, State, Exchange, Open, Claim, Replace, Bury, Link, Mark, Close, Place, Finish, Advance, Promote, Abort, Take}
use Rattle.papaya_words_law.specs.Allows.{Allows}
use Rattle.papaya_words_law.specs.Meaning.{IsLawful, IsLegal, map_after}
use Rattle.papaya_words_law.specs.Content.{lookup, AreApart, IsCountAfter}

module _ {K P : Type 0} (g : Setting K P) where
  -- the list without the first pair of the key
  abbrev without : List P → K → List P
  without [] k = []
  without (p ∷ a) k = cond (g.same k (g.key p)) a (p ∷ without a k)

  -- at the first pair, if it is the key's
  pub look_here : (p : P) (a : List P) (k : K) → g.same k (g.key p) ≡ true → lookup g.same g.key (p ∷ a) k ≡ Some p
  look_here p a k y = cond-true (g.same k (g.key p)) (Some p) (lookup g.same g.key a k) y

  -- behind it, if it isn't
  pub look_behind : (p : P) (a : List P) (k : K) → g.same k (g.key p) ≡ false → lookup g.same g.key (p ∷ a) k ≡ lookup g.same g.key a k
  look_behind p a k n = cond-false (g.same k (g.key p)) (Some p) (lookup g.same g.key a k) n

  -- the first pair is taken out
  without_here : (p : P) (a : List P) (k : K) → g.same k (g.key p) ≡ true → without (p ∷ a) k ≡ a
  without_here p a k y = cond-true (g.same k (g.key p)) a (p ∷ without a k) y

  -- or one behind it
  without_behind : (p : P) (a : List P) (k : K) → g.same k (g.key p) ≡ false → without (p ∷ a) k ≡ p ∷ without a k
  without_behind p a k n = cond-false (g.same k (g.key p)) a (p ∷ without a k) n

  -- if the key has a pair, one pair is taken out
  without_length : (a : List P) (k : K) (p : P) → lookup g.same g.key a k ≡ Some p → length a ≡ suc (length (without a k))
  without_length [] k p e = absurd cc
  without_length (q ∷ a) k p e =
      ⊎_elim
      (λ (y : g.same k (g.key q) ≡ true). ap (λ l. suc (length l)) (sym (without_here q a k y)))
      (λ (n : g.same k (g.key q) ≡ false). ap suc (without_length a k p (sym (look_behind q a k n) ∙ e))
      ∙ ap (λ l. suc (length l)) (sym (without_behind q a k n)))
      (cases_Bool (g.same k (g.key q)))

  module _ (law : IsLawful g) where
    -- keys that are equal to one are equal
    meet : (k l n : K) → g.same k n ≡ true → g.same l n ≡ true → g.same k l ≡ true
    meet k l n a b = law.through k n l a (law.back l n b)

    -- equal keys have one pair
    pub lookup_same : (a : List P) (k l : K) → g.same k l ≡ true → lookup g.same g.key a k ≡ lookup g.same g.key a l
    lookup_same [] k l e = refl
    lookup_same (p ∷ a) k l e =
        ⊎_elim
        (λ (y : g.same l (g.key p) ≡ true). look_here p a k (law.through k l (g.key p) e y) ∙ sym (look_here p a l y))
        (λ (n : g.same l (g.key p) ≡ false).
        ⊎_elim
        (λ (y : g.same k (g.key p) ≡ true). absurd (let t = law.through l k (g.key p) (law.back k l e) y in cc (t, n)))
        (λ (n' : g.same k (g.key p) ≡ false). look_behind p a k n' ∙ (lookup_same a k l e ∙ sym (look_behind p a l n)))
        (cases_Bool (g.same k (g.key p))))
        (cases_Bool (g.same l (g.key p)))

    -- the key that is taken out has no pair any more
    without_same : (a : List P) (k l : K) → AreApart g.same g.key a → g.same l k ≡ true → lookup g.same g.key (without a k) l ≡ None
    without_same [] k l h e = refl
    without_same (p ∷ a) k l h e =
        ⊎_elim
        (λ (y : g.same k (g.key p) ≡ true). ap (λ b. lookup g.same g.key b l) (without_here p a k y)
        ∙ (lookup_same a l (g.key p) (law.through l k (g.key p) e y) ∙ h.0))
        (λ (n : g.same k (g.key p) ≡ false).
        ap (λ b. lookup g.same g.key b l) (without_behind p a k n)
        ∙ ⊎_elim
        (λ (y : g.same l (g.key p) ≡ true). absurd (let t = law.through k l (g.key p) (law.back l k e) y in cc (t, n)))
        (λ (n' : g.same l (g.key p) ≡ false). look_behind p (without a k) l n' ∙ without_same a k l h.1 e)
        (cases_Bool (g.same l (g.key p))))
        (cases_Bool (g.same k (g.key p)))

    -- other keys keep theirs
    without_other : (a : List P) (k l : K) → g.same l k ≡ false → lookup g.same g.key (without a k) l ≡ lookup g.same g.key a l
    without_other [] k l e = refl
    without_other (p ∷ a) k l e =
        ⊎_elim
        (λ (y : g.same k (g.key p) ≡ true).
        ap (λ b. lookup g.same g.key b l) (without_here p a k y)
        ∙ ⊎_elim
        (λ (y' : g.same l (g.key p) ≡ true). absurd (let t = meet l k (g.key p) y' y in cc (t, e)))
        (λ (n' : g.same l (g.key p) ≡ false). sym (look_behind p a l n'))
        (cases_Bool (g.same l (g.key p))))
        (λ (n : g.same k (g.key p) ≡ false).
        ap (λ b. lookup g.same g.key b l) (without_behind p a k n)
        ∙ ⊎_elim
        (λ (y' : g.same l (g.key p) ≡ true). look_here p (without a k) l y' ∙ sym (look_here p a l y'))
        (λ (n' : g.same l (g.key p) ≡ false). look_behind p (without a k) l n' ∙ (without_other a k l e ∙ sym (look_behind p a l n')))
        (cases_Bool (g.same l (g.key p))))
        (cases_Bool (g.same k (g.key p)))

    -- and still no two pairs have equal keys
    without_apart : (a : List P) (k : K) → AreApart g.same g.key a → AreApart g.same g.key (without a k)
    without_apart [] k h = tt
    without_apart (p ∷ a) k h =
        ⊎_elim
        (λ (y : g.same k (g.key p) ≡ true). subst (AreApart g.same g.key) (sym (without_here p a k y)) h.1)
        (λ (n : g.same k (g.key p) ≡ false).
        let none : lookup g.same g.key (without a k) (g.key p) ≡ None =
        ⊎_elim
        (λ (y : g.same (g.key p) k ≡ true). without_same a k (g.key p) h.1 y)
        (λ (n' : g.same (g.key p) k ≡ false). without_other a k (g.key p) n' ∙ h.0)
        (cases_Bool (g.same (g.key p) k)) in
        let both : AreApart g.same g.key (p ∷ without a k) = (none, without_apart a k h.1) in subst (AreApart g.same g.key) (sym (without_behind p a k n)) both)
        (cases_Bool (g.same k (g.key p)))

    -- lists of one map are of one length
    pub one_length : (a b : List P) → AreApart g.same g.key a → AreApart g.same g.key b
        → ((k : K) → lookup g.same g.key a k ≡ lookup g.same g.key b k) → length a ≡ length b
    one_length [] [] ha hb all = refl
    one_length [] (q ∷ b) ha hb all = absurd (let e = all (g.key q) in let f = look_here q b (g.key q) (law.itself (g.key q)) in cc (e, f))
    one_length (p ∷ a) b ha hb all =
        let there : lookup g.same g.key b (g.key p) ≡ Some p = sym (all (g.key p)) ∙ look_here p a (g.key p) (law.itself (g.key p)) in
        let rest : (k : K) → lookup g.same g.key a k ≡ lookup g.same g.key (without b (g.key p)) k = λ k.
        ⊎_elim
        (λ (y : g.same k (g.key p) ≡ true). (lookup_same a k (g.key p) y ∙ ha.0) ∙ sym (without_same b (g.key p) k hb y))
        (λ (n : g.same k (g.key p) ≡ false). sym (look_behind p a k n) ∙ (all k ∙ sym (without_other b (g.key p) k n)))
        (cases_Bool (g.same k (g.key p))) in
        ap suc (one_length a (without b (g.key p)) ha.1 (without_apart b (g.key p) hb) rest) ∙ sym (without_length b (g.key p) p there)

    module _ (m : K → Option P) (a b : List P) (ha : AreApart g.same g.key a) (hb : AreApart g.same g.key b)
        (before : (k : K) → lookup g.same g.key a k ≡ m k) where
      -- lists whose maps differ in one key alone are of one length without it
      but_one : (k : K) → ((l : K) → g.same l k ≡ false → lookup g.same g.key b l ≡ m l) → length (without a k) ≡ length (without b k)
      but_one k other =
          one_length (without a k) (without b k) (without_apart a k ha) (without_apart b k hb)
          (λ l.
          ⊎_elim
          (λ (y : g.same l k ≡ true). without_same a k l ha y ∙ sym (without_same b k l hb y))
          (λ (n : g.same l k ≡ false). without_other a k l n ∙ (before l ∙ (sym (other l n) ∙ sym (without_other b k l n))))
          (cases_Bool (g.same l k)))

      -- if a key has no pair, none is taken out
      without_none : (c : List P) (k : K) → lookup g.same g.key c k ≡ None → length (without c k) ≡ length c
      without_none [] k e = refl
      without_none (p ∷ c) k e =
          ⊎_elim
          (λ (y : g.same k (g.key p) ≡ true). absurd (let f = look_here p c k y in cc (e, f)))
          (λ (n : g.same k (g.key p) ≡ false). ap length (without_behind p c k n) ∙ ap suc (without_none c k (sym (look_behind p c k n) ∙ e)))
          (cases_Bool (g.same k (g.key p)))

      -- how long the list of the map is after an exchange
      pub length_after : (e : Exchange P) → IsLegal g m e → ((k : K) → lookup g.same g.key b k ≡ map_after g m e k) → IsCountAfter e (length a) (length b)
      length_after (Claim t x p) legal now =
          let here : lookup g.same g.key b (g.key p) ≡ Some p = now (g.key p)
          ∙ cond-true (g.same (g.key p) (g.key p)) (Some p) (m (g.key p)) (law.itself (g.key p)) in
          without_length b (g.key p) p here
          ∙ ap suc (sym (but_one (g.key p) (λ l n. now l ∙ cond-false (g.same l (g.key p)) (Some p) (m l) n))
          ∙ without_none a (g.key p) (before (g.key p) ∙ legal))
      length_after (Replace t x p q) legal now =
          let here : lookup g.same g.key b (g.key p) ≡ Some q = now (g.key p)
          ∙ cond-true (g.same (g.key p) (g.key p)) (Some q) (m (g.key p)) (law.itself (g.key p)) in
          without_length b (g.key p) q here
          ∙ (ap suc (sym (but_one (g.key p) (λ l n. now l ∙ cond-false (g.same l (g.key p)) (Some q) (m l) n)))
          ∙ sym (without_length a (g.key p) p (before (g.key p) ∙ legal)))
      length_after (Bury t x p) legal now =
          let gone : lookup g.same g.key b (g.key p) ≡ None = now (g.key p)
          ∙ cond-true (g.same (g.key p) (g.key p)) None (m (g.key p)) (law.itself (g.key p)) in
          ap suc (sym (without_none b (g.key p) gone) ∙ sym (but_one (g.key p) (λ l n. now l ∙ cond-false (g.same l (g.key p)) None (m l) n)))
          ∙ sym (without_length a (g.key p) p (before (g.key p) ∙ legal))
      length_after (Open t) legal now = sym (one_length a b ha hb (λ k. before k ∙ sym (now k)))
      length_after (Link t n) legal now = sym (one_length a b ha hb (λ k. before k ∙ sym (now k)))
      length_after (Mark t x p) legal now = sym (one_length a b ha hb (λ k. before k ∙ sym (now k)))
      length_after (Close t x) legal now = sym (one_length a b ha hb (λ k. before k ∙ sym (now k)))
      length_after (Place n x p) legal now = sym (one_length a b ha hb (λ k. before k ∙ sym (now k)))
      length_after (Finish t x p) legal now = sym (one_length a b ha hb (λ k. before k ∙ sym (now k)))
      length_after (Advance n c) legal now = sym (one_length a b ha hb (λ k. before k ∙ sym (now k)))
      length_after (Promote t n) legal now = sym (one_length a b ha hb (λ k. before k ∙ sym (now k)))
      length_after (Abort n) legal now = sym (one_length a b ha hb (λ k. before k ∙ sym (now k)))
      length_after (Take n) legal now = sym (one_length a b ha hb (λ k. before k ∙ sym (now k)))

    module _ (m : K → Option P) (a : List P) (ha : AreApart g.same g.key a) (before : (k : K) → lookup g.same g.key a k ≡ m k) where
      -- a claim puts its pair in
      list_claim : (p : P) → m (g.key p) ≡ None → (k : K) → lookup g.same g.key (p ∷ a) k ≡ cond (g.same k (g.key p)) (Some p) (m k)
      list_claim p none k = ap (cond (g.same k (g.key p)) (Some p)) (before k)

      -- a deletion takes its pair out
      list_bury : (p : P) (k : K) → lookup g.same g.key (without a (g.key p)) k ≡ cond (g.same k (g.key p)) None (m k)
      list_bury p k =
          ⊎_elim
          (λ (y : g.same k (g.key p) ≡ true). without_same a (g.key p) k ha y ∙ sym (cond-true (g.same k (g.key p)) None (m k) y))
          (λ (n : g.same k (g.key p) ≡ false). without_other a (g.key p) k n ∙ (before k ∙ sym (cond-false (g.same k (g.key p)) None (m k) n)))
          (cases_Bool (g.same k (g.key p)))

      -- a replacement does both
      list_replace : (p q : P) → g.same (g.key p) (g.key q) ≡ true → (k : K)
          → lookup g.same g.key (q ∷ without a (g.key p)) k ≡ cond (g.same k (g.key p)) (Some q) (m k)
      list_replace p q same k =
          ⊎_elim
          (λ (y : g.same k (g.key p) ≡ true). look_here q (without a (g.key p)) k (law.through k (g.key p) (g.key q) y same)
          ∙ sym (cond-true (g.same k (g.key p)) (Some q) (m k) y))
          (λ (n : g.same k (g.key p) ≡ false).
          let n' : g.same k (g.key q) ≡ false =
          ⊎_elim
          (λ (y : g.same k (g.key q) ≡ true). absurd (let t = meet k (g.key p) (g.key q) y same in cc (t, n)))
          (λ (f : g.same k (g.key q) ≡ false). f)
          (cases_Bool (g.same k (g.key q))) in
          look_behind q (without a (g.key p)) k n' ∙ (without_other a (g.key p) k n ∙ (before k ∙ sym (cond-false (g.same k (g.key p)) (Some q) (m k) n))))
          (cases_Bool (g.same k (g.key p)))

      -- the map after an exchange has a list too
      pub list_after : (s : State P) (e : Exchange P) → Allows g s e → IsLegal g m e → (b : List P) × AreApart g.same g.key b
          × ((k : K) → lookup g.same g.key b k ≡ map_after g m e k)
      list_after s (Claim t x p) may legal = (p ∷ a, (before (g.key p) ∙ legal, ha), list_claim p legal)
      list_after s (Replace t x p q) may legal = (
        q ∷ without a (g.key p),
        (without_same a (g.key p) (g.key q) ha (law.back (g.key p) (g.key q) may.same), without_apart a (g.key p) ha),
        list_replace p q may.same,
      )
      list_after s (Bury t x p) may legal = (without a (g.key p), without_apart a (g.key p) ha, list_bury p)
      list_after s (Open t) may legal = (a, ha, before)
      list_after s (Link t n) may legal = (a, ha, before)
      list_after s (Mark t x p) may legal = (a, ha, before)
      list_after s (Close t x) may legal = (a, ha, before)
      list_after s (Place n x p) may legal = (a, ha, before)
      list_after s (Finish t x p) may legal = (a, ha, before)
      list_after s (Advance n c) may legal = (a, ha, before)
      list_after s (Promote t n) may legal = (a, ha, before)
      list_after s (Abort n) may legal = (a, ha, before)
      list_after s (Take n) may legal = (a, ha, before)
