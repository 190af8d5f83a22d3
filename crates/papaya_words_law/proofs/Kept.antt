-- The key of a filled slot never changes.
use Rattle.std.proofs.Common.{◌≡◌, ⊎_elim, ℕ, Some, refl, sym, ap, ◌∙◌, subst}
use Rattle.papaya_words_law.specs.Exchange.{Word, Empty, Closed, Live, Marked, Copied, Buried, Setting, State}
use Rattle.papaya_words_law.specs.Invariant.{named}
use Rattle.papaya_words_law.specs.Later.{Becomes, IsLater, IsOfKey}

module _ {K P : Type 0} (g : Setting K P) where
  -- a pair that was replaced by one of its own key
  live_keeps : (p q : P) (k : K) → g.key q ≡ g.key p → (r : P) → Some p ≡ Some r → g.key r ≡ k → g.key q ≡ k
  live_keeps p q k e r is own = e ∙ (let same : p ≡ r = cc is in ap g.key same) ∙ own

  -- a word that a filled word may become
  pub becomes_keeps : (u w : Word P) (k : K) → Becomes g u w → IsOfKey g u k → IsOfKey g w k
  becomes_keeps Empty w k b h = absurd (let e = h.1 in cc e)
  becomes_keeps Closed w k b h = absurd (let e = h.1 in cc e)
  becomes_keeps (Live p) Empty k b h = absurd b
  becomes_keeps (Live p) Closed k b h = absurd b
  becomes_keeps (Live p) (Live q) k b h = (q, refl, live_keeps p q k b h.0 h.1 h.2)
  becomes_keeps (Live p) (Marked q) k b h = (q, refl, live_keeps p q k b h.0 h.1 h.2)
  becomes_keeps (Live p) (Copied q) k b h = (q, refl, live_keeps p q k b h.0 h.1 h.2)
  becomes_keeps (Live p) (Buried q) k b h = (q, refl, live_keeps p q k b h.0 h.1 h.2)
  becomes_keeps (Marked p) w k b h = ⊎_elim
      (λ e. subst (λ y. IsOfKey g y k) (sym e) h)
      (λ e. subst (λ y. IsOfKey g y k) (sym e) (h.0, h.1, h.2))
      b
  becomes_keeps (Copied p) w k b h = subst (λ y. IsOfKey g y k) (sym b) h
  becomes_keeps (Buried p) w k b h = subst (λ y. IsOfKey g y k) (sym b) h

  -- the same for a slot
  pub key_stable : (s s' : State P) → IsLater g s s' → (t x : ℕ) (k : K) → IsOfKey g (s.slot t x) k → IsOfKey g (s'.slot t x) k
  key_stable s s' l t x k h = becomes_keeps (s.slot t x) (s'.slot t x) k (l.words t x) h
