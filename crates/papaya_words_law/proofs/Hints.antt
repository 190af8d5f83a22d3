-- A hint stays true, and a search passes a hint with another hash byte, or of a closed slot.
use Rattle.std.proofs.Common.{◌≡◌, ◌⊎◌, inl, inr, ⊎_elim, ℕ, true, false, refl, sym, ap, ◌∙◌, subst, ◌==◌, eq-eqb}
use Rattle.std.proofs.lemmas.Bool.{cases_Bool, cond-false, or_parts}
use Rattle.papaya_words.specs.Word.{hint_of, may_hold}
use Rattle.papaya_words_law.specs.Exchange.{Word, Empty, Closed, Live, Marked, Copied, Buried, Setting, State}
use Rattle.papaya_words_law.specs.View.{Foreign, Here, Leaving, Gone, Grave, view}
use Rattle.papaya_words_law.specs.Code.{Coding, IsLawfulCoding}
use Rattle.papaya_words_law.specs.Hints.{IsHintOf, IsHint, hint_of_pair}
use Rattle.papaya_words_law.specs.Later.{Becomes, IsLater}

-- a hint that excludes this hash is neither 0 nor its hash byte
says_other : (n hash : ℕ) → may_hold n hash ≡ false → (n ≡ 0 → ⊥) × (n ≡ hint_of hash → ⊥)
says_other n hash e =
    let parts = or_parts (n == 0) (n == hint_of hash) e in
    (λ z. absurd (let is = eq-eqb n 0 z in cc (is, parts.0)), λ z. absurd (let is = eq-eqb n (hint_of hash) z in cc (is, parts.1)))

module _ {K P : Type 0} (g : Setting K P) (c : Coding K P) where
  -- 0 is a hint of each slot
  pub hint_none : (w : Word P) → IsHintOf g c w 0
  hint_none Empty = refl
  hint_none Closed = inl refl
  hint_none (Live p) = inl refl
  hint_none (Marked p) = inl refl
  hint_none (Copied p) = inl refl
  hint_none (Buried p) = inl refl

  module _ (law : IsLawfulCoding g c) where
    -- pairs of one key have one hint
    hint_same : (p q : P) → g.key q ≡ g.key p → hint_of_pair g c p ≡ hint_of_pair g c q
    hint_same p q e = ap (λ k. hint_of (c.hash k)) (sym e)

    -- the hint of a pair is that of a pair of an equal key in its place
    hint_by : (p q : P) (n : ℕ) → g.key q ≡ g.key p → (n ≡ 0) ⊎ (n ≡ hint_of_pair g c p) → (n ≡ 0) ⊎ (n ≡ hint_of_pair g c q)
    hint_by p q n e h = ⊎_elim (λ z. inl z) (λ y. inr (y ∙ hint_same p q e)) h

    -- a hint stays true of every word that the word may become
    pub hint_becomes : (v w : Word P) (n : ℕ) → Becomes g v w → IsHintOf g c v n → IsHintOf g c w n
    hint_becomes Empty w n b h = subst (IsHintOf g c w) (sym h) (hint_none w)
    hint_becomes Closed w n b h = subst (λ y. IsHintOf g c y n) (sym b) h
    hint_becomes (Live p) Empty n b h = absurd b
    hint_becomes (Live p) Closed n b h = absurd b
    hint_becomes (Live p) (Live q) n b h = hint_by p q n b h
    hint_becomes (Live p) (Marked q) n b h = hint_by p q n b h
    hint_becomes (Live p) (Copied q) n b h = hint_by p q n b h
    hint_becomes (Live p) (Buried q) n b h = hint_by p q n b h
    hint_becomes (Marked p) w n b h = ⊎_elim (λ e. subst (λ y. IsHintOf g c y n) (sym e) h) (λ e. subst (λ y. IsHintOf g c y n) (sym e) h) b
    hint_becomes (Copied p) w n b h = subst (λ y. IsHintOf g c y n) (sym b) h
    hint_becomes (Buried p) w n b h = subst (λ y. IsHintOf g c y n) (sym b) h

    -- after any exchanges of others
    pub hint_lasts : (s s' : State P) → IsLater g s s' → (t x n : ℕ) → IsHint g c s t x n → IsHint g c s' t x n
    hint_lasts s s' l t x n h = hint_becomes (s.slot t x) (s'.slot t x) n (l.words t x) h

    -- a pair with another hint than the key's has another key
    other_pair : (k : K) (p : P) (n : ℕ) → may_hold n (c.hash k) ≡ false → (n ≡ 0) ⊎ (n ≡ hint_of_pair g c p) → g.same k (g.key p) ≡ false
    other_pair k p n other h =
        let says = says_other n (c.hash k) other in
        ⊎_elim
        (λ (y : g.same k (g.key p) ≡ true). absurd (⊎_elim says.0 (λ e. says.1 (e ∙ ap hint_of (sym (law.respects k (g.key p) y)))) h))
        (λ (f : g.same k (g.key p) ≡ false). f)
        (cases_Bool (g.same k (g.key p)))

    -- so a search for the key continues, without the word
    pub hint_passes : (k : K) (w : Word P) (n : ℕ) → IsHintOf g c w n → may_hold n (c.hash k) ≡ false → view g k w ≡ Foreign
    hint_passes k Empty n h other = absurd ((says_other n (c.hash k) other).0 h)
    hint_passes k Closed n h other = refl
    hint_passes k (Live p) n h other = cond-false (g.same k (g.key p)) (Here p) Foreign (other_pair k p n other h)
    hint_passes k (Marked p) n h other = cond-false (g.same k (g.key p)) (Leaving p) Foreign (other_pair k p n other h)
    hint_passes k (Copied p) n h other = cond-false (g.same k (g.key p)) (Gone p) Foreign (other_pair k p n other h)
    hint_passes k (Buried p) n h other = cond-false (g.same k (g.key p)) (Grave p) Foreign (other_pair k p n other h)

    -- a slot that a pair of the key fills has the key's hint
    pub hint_fills : (k : K) (w : Word P) (p : P) → w ≡ Live p → g.same k (g.key p) ≡ true → IsHintOf g c w (hint_of (c.hash k))
    hint_fills k w p e y = subst (λ v. IsHintOf g c v (hint_of (c.hash k))) (sym e) (inr (ap hint_of (law.respects k (g.key p) y)))

-- the hint of a word is the same if pairs have the same keys
module _ {K P : Type 0} (g g' : Setting K P) (c : Coding K P) (keys : (p : P) → g'.key p ≡ g.key p) where
  pair_agrees : (p : P) (n : ℕ) → (n ≡ 0) ⊎ (n ≡ hint_of_pair g c p) → (n ≡ 0) ⊎ (n ≡ hint_of_pair g' c p)
  pair_agrees p n h = ⊎_elim (λ z. inl z) (λ e. inr (e ∙ ap (λ l. hint_of (c.hash l)) (sym (keys p)))) h

  pub hint_agrees : (w : Word P) (n : ℕ) → IsHintOf g c w n → IsHintOf g' c w n
  hint_agrees Empty n h = h
  hint_agrees Closed n h = h
  hint_agrees (Live p) n h = pair_agrees p n h
  hint_agrees (Marked p) n h = pair_agrees p n h
  hint_agrees (Copied p) n h = pair_agrees p n h
  hint_agrees (Buried p) n h = pair_agrees p n h
