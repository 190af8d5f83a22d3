-- The changes of an exchange for which a machine asked, for the call itself or for its copy.
use Rattle.std.proofs.Common.{◌≡◌, ℕ, ◌==◌, ◌&&◌, Bool, true, false, cond, Option, None, Some, ◌⊎◌, inl, inr, refl, sym, ◌∙◌, ap, subst}
use Rattle.papaya_call.specs.declared.ask.At.{At}
use Rattle.papaya_call.specs.declared.ask.At.TheVariants.{Root, Next, Aborted, Done, Slot, Made}
use Rattle.papaya_call.specs.declared.ask.StepKind.{StepKind}
use Rattle.papaya_call.specs.declared.ask.StepKind.TheVariants as kinds
use Rattle.papaya_words_law.specs.Allows.{Allows}
use Rattle.papaya_words_law.specs.Code.{Coding}
use Rattle.papaya_words_law.specs.Copying.{IsCopied}
use Rattle.papaya_words_law.specs.Exchange.{Setting, Word, Closed, Live, Marked, Copied, Buried, State}
use Rattle.papaya_words_law.specs.Exchange.{Exchange, Open, Link, Close, Place, Finish, Advance, Promote}
use Rattle.papaya_words_law.specs.Exchange.{Abort, Take, after}
use Rattle.papaya_words_law.specs.Grows.{Comes}
use Rattle.papaya_words_law.specs.Invariant.{named}
use Rattle.papaya_call_law.specs.Copier.{IsCopyAsked, last_after}
use Rattle.papaya_call_law.specs.Relies.{change_of_kind}
use Rattle.papaya_call_law.specs.TrueAnswers.{IsAsked, IsOneOf, LoadedPairs}
use Rattle.papaya_core_timeline.proofs.KeptAnswer.{Stands}

-- two tests are both met
both : (a b : Bool) → (a && b) ≡ true → (a ≡ true) × (b ≡ true)
both true b h = (refl, h)
both false b h = absurd cc

-- the root is exchanged if there is none yet
pub root_empty : {K P : Type 0} (g : Setting K P) (c : Coding K P) (k : K) (s : State P) (loaded : LoadedPairs P) (new : ℕ) (kind : Option StepKind)
    (e : Exchange P) → IsAsked g c k kind Root new s loaded e → Allows g s e → s.root ≡ 0
root_empty g c k s loaded new (Some kinds.Open) e is allows = (subst (Allows g s) is allows).0
root_empty g c k s loaded new _ e h allows = absurd h

module _ {P : Type 0} (s : State P) where
  -- a slot after a write of a word that names nothing, or names a pair that was in a slot
  put_stood : (t x : ℕ) (w : Word P) → ((p : P) → named w ≡ Some p → Stands s p) → (u y : ℕ) (p : P) (b : Bool)
      → named (cond b w (s.slot u y)) ≡ Some p → Stands s p
  put_stood t x w stood u y p true e = stood p e
  put_stood t x w stood u y p false e = (u, y, e)

module _ {P : Type 0} (s : State P) (loaded : LoadedPairs P) (new : ℕ) where
  -- The tables that have come are those of before, and the one that was opened. A pair that a slot
  -- names was in a slot before, or is one that the call made. If the exchange changes no pair of
  -- the map, each pair that a slot names was in a slot before.
  pub record IsChanged (kind : Option StepKind) (at : At) (e : Exchange P) : Type 0 where
    pub place : (at ≡ Root) ⊎ (at ≡ Made) ⊎ ((t : ℕ) × (x : ℕ) × (at ≡ Slot t x))
    pub comes : (t : ℕ) → Comes (after s e) t → Comes s t ⊎ ((at ≡ Root) × (new ≡ t))
    pub slots : (t x : ℕ) (p : P) → named ((after s e).slot t x) ≡ Some p → Stands s p ⊎ IsOneOf loaded.made p
    pub unchanged : (old word : ℕ) → change_of_kind kind old word ≡ None → (t x : ℕ) (p : P) → named ((after s e).slot t x) ≡ Some p → Stands s p

  -- a slot after the call's pair was put into one
  put_made : (q : P) → IsOneOf loaded.made q → (u y : ℕ) (p : P) (b : Bool) → named (cond b (Live q) (s.slot u y)) ≡ Some p → Stands s p ⊎ IsOneOf loaded.made p
  put_made q made u y p true e = let f : Some q ≡ Some p = e in let is : q ≡ p = cc in inr (subst (IsOneOf loaded.made) is made)
  put_made q made u y p false e = inl (u, y, e)

  -- an opened table
  opened : IsChanged (Some kinds.Open) Root (Open new)
  opened = record { place = inl refl; comes = comes; slots = λ t x p e. inl (t, x, e); unchanged = λ old word none t x p e. (t, x, e) }
    where
      -- a table that has come is the opened one, or it had come before
      comes : (t : ℕ) → Comes (after s (Open new)) t → Comes s t ⊎ ((Root ≡ Root) × (new ≡ t))
      comes t (inl first) = inr (refl, first)
      comes t (inr linked) = inl (inr linked)

  -- a number was taken
  numbered : IsChanged (Some kinds.Take) Made (Take s.made)
  numbered = record { place = inr (inl refl); comes = λ t h. inl h; slots = λ t x p e. inl (t, x, e); unchanged = λ old word none t x p e. (t, x, e) }

  -- the changes of an exchange that was asked for
  pub changes : {K : Type 0} (g : Setting K P) (c : Coding K P) (k : K) (kind : Option StepKind) (at : At) (e : Exchange P)
      → IsAsked g c k kind at new s loaded e → IsChanged kind at e
  changes g c k (Some kinds.Take) Made e is = subst (IsChanged (Some kinds.Take) Made) (sym is) numbered
  changes g c k (Some kinds.Open) Root e is = subst (IsChanged (Some kinds.Open) Root) (sym is) opened
  changes g c k (Some kinds.Claim) (Slot t x) e (q, own, key, is) = subst (IsChanged (Some kinds.Claim) (Slot t x)) (sym is) (record {
    place = inr (inr (t, x, refl));
    comes = λ u h. inl h;
    slots = λ u y p h. put_made q own.made u y p ((u == t) && (y == x)) h;
    unchanged = λ old word none. absurd cc;
  })
  changes g c k (Some kinds.Replace) (Slot t x) e (p, q, live, own, key, is) = subst (IsChanged (Some kinds.Replace) (Slot t x)) (sym is) (record {
    place = inr (inr (t, x, refl));
    comes = λ u h. inl h;
    slots = λ u y p' h. put_made q own.made u y p' ((u == t) && (y == x)) h;
    unchanged = λ old word none. absurd cc;
  })
  changes g c k (Some kinds.Bury) (Slot t x) e (q, live, is) = subst (IsChanged (Some kinds.Bury) (Slot t x)) (sym is) (record {
    place = inr (inr (t, x, refl));
    comes = λ u h. inl h;
    slots = λ u y p h. inl (put_stood s t x (Buried q) (λ p h. (t, x, ap named live ∙ h)) u y p ((u == t) && (y == x)) h);
    unchanged = λ old word none. absurd cc;
  })
  changes g c k _ _ e h = absurd h

module _ {P : Type 0} (s : State P) (last : Option P) (new : ℕ) where
  -- The changes of an exchange of a copier. The tables that have come are those of before, and the
  -- one that was linked. A pair that a slot names was in a slot before. The last pair that the
  -- copier has loaded was in a slot.
  pub record IsCopied_on (at : At) (e : Exchange P) : Type 0 where
    pub comes : (t : ℕ) → Comes (after s e) t → Comes s t ⊎ ((u : ℕ) × (at ≡ Next u) × (new ≡ t))
    pub slots : (t x : ℕ) (p : P) → named ((after s e).slot t x) ≡ Some p → Stands s p
    pub last_is : (p : P) → last_after e last ≡ Some p → (last ≡ Some p) ⊎ Stands s p

  -- words of other kinds than slots
  unslotted : (at : At) (e : Exchange P) → ((t x : ℕ) (p : P) → named ((after s e).slot t x) ≡ Some p → Stands s p)
      → ((t : ℕ) → Comes (after s e) t → Comes s t ⊎ ((u : ℕ) × (at ≡ Next u) × (new ≡ t))) → last_after e last ≡ last → IsCopied_on at e
  unslotted at e slots comes same = record { comes = comes; slots = slots; last_is = λ p h. inl (sym same ∙ h) }

  -- a table was linked
  linked : (t : ℕ) → IsCopied_on (Next t) (Link t new)
  linked t = unslotted (Next t) (Link t new) (λ u y p h. (u, y, h)) comes refl
    where
      next : (u v : ℕ) (b : Bool) → cond b new (s.next u) ≡ v → Comes s v ⊎ ((w : ℕ) × (Next t ≡ Next w) × (new ≡ v))
      next u v true e = inr (t, refl, e)
      next u v false e = inl (inr (u, e))

      comes : (v : ℕ) → Comes (after s (Link t new)) v → Comes s v ⊎ ((w : ℕ) × (Next t ≡ Next w) × (new ≡ v))
      comes v (inl first) = inl (inl first)
      comes v (inr (u, e)) = next u v (u == t) e

  -- a pair that is copied is in a slot
  copied_stands : {K : Type 0} (g : Setting K P) (n : ℕ) (p : P) → IsCopied g s n p → Stands s p
  copied_stands g n p source = elim source.stood
      [ inl marked ↦ (source.from, source.slot, ap named marked) | inr copied ↦ (source.from, source.slot, ap named copied) ]

  -- the changes of an exchange that was asked for
  pub copies : {K : Type 0} (g : Setting K P) (c : Coding K P) (kept : Option P) (kind : Option StepKind) (at : At) (e : Exchange P)
      → IsCopyAsked c kind at new s kept e → Allows g s e → IsCopied_on at e
  copies g c kept (Some kinds.Link) (Next t) e is may = subst (IsCopied_on (Next t)) (sym is) (linked t)
  copies g c kept (Some kinds.Mark) (Slot t x) e (p, live, is) may = subst (IsCopied_on (Slot t x)) (sym is) (record {
    comes = λ u h. inl h;
    slots = λ u y q h. put_stood s t x (Marked p) (λ o h. (t, x, ap named live ∙ h)) u y q ((u == t) && (y == x)) h;
    last_is = λ q h. inr (t, x, ap named live ∙ h);
  })
  copies g c kept (Some kinds.Close) (Slot t x) e is may = subst (IsCopied_on (Slot t x)) (sym is)
      (unslotted (Slot t x) (Close t x) (λ u y q h. put_stood s t x Closed (λ o h. absurd cc) u y q ((u == t) && (y == x)) h) (λ u h. inl h) refl)
  copies g c kept (Some kinds.Place) (Slot t x) e (p, own, number, is) may =
      let place = subst (Allows g s) is may in
      subst (IsCopied_on (Slot t x)) (sym is) (unslotted (Slot t x) (Place t x p)
      (λ u y q h. put_stood s t x (Live p) (λ o h. subst (Stands s) (let f : Some p ≡ Some o = h in cc) (copied_stands g t p place.source)) u y q
      ((u == t) && (y == x)) h) (λ u h. inl h) refl)
  copies g c kept (Some kinds.Finish) (Slot t x) e (p, marked, is) may = subst (IsCopied_on (Slot t x)) (sym is)
      (unslotted (Slot t x) (Finish t x p) (λ u y q h. put_stood s t x (Copied p) (λ o h. (t, x, ap named marked ∙ h)) u y q ((u == t) && (y == x)) h)
      (λ u h. inl h) refl)
  copies g c kept (Some kinds.Advance) (Done n chunk) e is may = subst (IsCopied_on (Done n chunk)) (sym is)
      (unslotted (Done n chunk) (Advance n chunk) (λ u y q h. (u, y, h)) (λ u h. inl h) refl)
  copies g c kept (Some kinds.Promote) Root e is may = subst (IsCopied_on Root) (sym is)
      (unslotted Root (Promote s.root new) (λ u y q h. (u, y, h)) (λ u h. inl h) refl)
  copies g c kept (Some kinds.Abort) (Aborted n) e is may = subst (IsCopied_on (Aborted n)) (sym is)
      (unslotted (Aborted n) (Abort n) (λ u y q h. (u, y, h)) (λ u h. inl h) refl)
  copies g c kept _ _ e h may = absurd h
