-- The exchange by which a slot got its word.
use Rattle.std.proofs.Common.{◌≡◌, ⊎_elim, ℕ, Bool, true, false, Option, None, List, [], ◌∷◌, ◌++◌, refl, sym, ap, ◌∙◌, subst}
use Rattle.std.proofs.lemmas.Bool.{cond-true}
use Rattle.papaya_words_law.specs.Exchange.{Word, Empty, Closed, Live, Marked, Copied, Buried, Setting}
use Rattle.papaya_words_law.specs.Exchange.{State, Exchange, Open, Claim, Replace, Bury, Link, Mark}
use Rattle.papaya_words_law.specs.Exchange.{Close, Place, Finish, Advance, Promote, Abort, Take, after}
use Rattle.papaya_words_law.specs.Exchange.{run, slot_put}
use Rattle.papaya_words_law.specs.Allows.{Allows, AllAllowed}
use Rattle.papaya_words_law.specs.Meaning.{map_after, map_of, IsLawful, IsAtMoment}
use Rattle.papaya_words_law.specs.Later.{Becomes}
use Rattle.papaya_words_law.proofs.Slots.{slot_cases}
use Rattle.papaya_words_law.proofs.Moments.{run-append, map_of-append, allowed_rest}
use Rattle.papaya_words_law.proofs.Later.{later_run}

-- the word is Buried
abbrev pub buried : {P : Type 0} → Word P → Bool
buried Empty = false
buried Closed = false
buried (Live p) = false
buried (Marked p) = false
buried (Copied p) = false
buried (Buried p) = true

-- the word is a Copied one
abbrev pub copied : {P : Type 0} → Word P → Bool
copied Empty = false
copied Closed = false
copied (Live p) = false
copied (Marked p) = false
copied (Copied p) = true
copied (Buried p) = false

-- the exchange of fs by which the slot's word first met the test
pub record IsTurnOf {K P : Type 0} (g : Setting K P) (test : Word P → Bool) (s : State P) (t x : ℕ) (fs : List (Exchange P)) : Type 0 where
  pub so_far : List (Exchange P)
  pub by : Exchange P
  pub rest : List (Exchange P)
  pub is : so_far ++ by ∷ rest ≡ fs
  pub may : Allows g (run so_far s) by
  pub old : test ((run so_far s).slot t x) ≡ false
  pub new : test ((after (run so_far s) by).slot t x) ≡ true

module _ {K P : Type 0} (g : Setting K P) where
  -- a slot whose word meets a test now, and didn't, came to it by an exchange
  pub turn_of : (test : Word P → Bool) (t x : ℕ) (fs : List (Exchange P)) (s : State P) → AllAllowed g s fs → test (s.slot t x) ≡ false
      → test ((run fs s).slot t x) ≡ true → IsTurnOf g test s t x fs
  turn_of test t x [] s may old new = absurd (cc (old, new))
  turn_of test t x (e ∷ fs) s may old new = first (turn_of test t x fs (after s e) may.1) (test ((after s e).slot t x)) refl
    where
      first : (test ((after s e).slot t x) ≡ false → test ((run fs (after s e)).slot t x) ≡ true → IsTurnOf g test (after s e) t x fs) → (b : Bool)
          → test ((after s e).slot t x) ≡ b → IsTurnOf g test s t x (e ∷ fs)
      first ih true h = record { so_far = []; by = e; rest = fs; is = refl; may = may.0; old = old; new = h }
      first ih false h = let r = ih h new in record {
        so_far = e ∷ r.so_far;
        by = r.by;
        rest = r.rest;
        is = ap (λ l. e ∷ l) r.is;
        may = r.may;
        old = r.old;
        new = r.new;
      }

  -- a slot's word that doesn't meet a test and then does was changed in that slot
  changed : (test : Word P → Bool) (s : State P) (t x u y : ℕ) (w : Word P) → test (s.slot t x) ≡ false → test ((slot_put s u y w).slot t x) ≡ true
      → (t ≡ u) × (x ≡ y) × (test w ≡ true)
  changed test s t x u y w old new = ⊎_elim (λ r. absurd (let e = ap test r.0 in cc (e, old, new))) (λ r. (r.0, r.1, ap test (sym r.2) ∙ new))
      (slot_cases s u y w t x)

  -- only a deletion deletes
  by_burial : (s : State P) (t x : ℕ) (e : Exchange P) → Allows g s e → buried (s.slot t x) ≡ false → buried ((after s e).slot t x) ≡ true
      → (p : P) × (e ≡ Bury t x p)
  by_burial s t x (Open u) may old new = absurd (cc (old, new))
  by_burial s t x (Claim u y p) may old new = absurd (let r = changed buried s t x u y (Live p) old new in let f = r.2 in cc f)
  by_burial s t x (Replace u y p q) may old new = absurd (let r = changed buried s t x u y (Live q) old new in let f = r.2 in cc f)
  by_burial s t x (Bury u y p) may old new = let r = changed buried s t x u y (Buried p) old new in (p, cc (r.0, r.1))
  by_burial s t x (Link u n) may old new = absurd (cc (old, new))
  by_burial s t x (Mark u y p) may old new = absurd (let r = changed buried s t x u y (Marked p) old new in let f = r.2 in cc f)
  by_burial s t x (Close u y) may old new = absurd (let r = changed buried s t x u y Closed old new in let f = r.2 in cc f)
  by_burial s t x (Place u y p) may old new = absurd (let r = changed buried s t x u y (Live p) old new in let f = r.2 in cc f)
  by_burial s t x (Finish u y p) may old new = absurd (let r = changed buried s t x u y (Copied p) old new in let f = r.2 in cc f)
  by_burial s t x (Advance n c) may old new = absurd (cc (old, new))
  by_burial s t x (Promote u n) may old new = absurd (cc (old, new))
  by_burial s t x (Abort n) may old new = absurd (cc (old, new))
  by_burial s t x (Take n) may old new = absurd (cc (old, new))

  -- only a finish makes a word Copied
  pub by_finish : (s : State P) (t x : ℕ) (e : Exchange P) → Allows g s e → copied (s.slot t x) ≡ false → copied ((after s e).slot t x) ≡ true
      → (p : P) × (s.slot t x ≡ Marked p) × (e ≡ Finish t x p)
  by_finish s t x (Open u) may old new = absurd (cc (old, new))
  by_finish s t x (Claim u y p) may old new = absurd (let r = changed copied s t x u y (Live p) old new in let f = r.2 in cc f)
  by_finish s t x (Replace u y p q) may old new = absurd (let r = changed copied s t x u y (Live q) old new in let f = r.2 in cc f)
  by_finish s t x (Bury u y p) may old new = absurd (let r = changed copied s t x u y (Buried p) old new in let f = r.2 in cc f)
  by_finish s t x (Link u n) may old new = absurd (cc (old, new))
  by_finish s t x (Mark u y p) may old new = absurd (let r = changed copied s t x u y (Marked p) old new in let f = r.2 in cc f)
  by_finish s t x (Close u y) may old new = absurd (let r = changed copied s t x u y Closed old new in let f = r.2 in cc f)
  by_finish s t x (Place u y p) may old new = absurd (let r = changed copied s t x u y (Live p) old new in let f = r.2 in cc f)
  by_finish s t x (Finish u y p) may old new = let r = changed copied s t x u y (Copied p) old new in let m = may.marked in (p, cc (r.0, r.1, m), cc (r.0, r.1))
  by_finish s t x (Advance n c) may old new = absurd (cc (old, new))
  by_finish s t x (Promote u n) may old new = absurd (cc (old, new))
  by_finish s t x (Abort n) may old new = absurd (cc (old, new))
  by_finish s t x (Take n) may old new = absurd (cc (old, new))

  -- a slot whose word of key k was not Buried, and now is: at some point since then the map had
  -- none
  pub none_since : (law : IsLawful g) (m : K → Option P) (k : K) (t x : ℕ) (fs : List (Exchange P)) (s : State P) → AllAllowed g s fs
      → buried (s.slot t x) ≡ false → (p : P) → (run fs s).slot t x ≡ Buried p → g.same k (g.key p) ≡ true → IsAtMoment g m fs k None
  none_since law m k t x fs s may old p now same =
      let r = turn_of buried t x fs s may old (ap buried now) in
      let b = by_burial (run r.so_far s) t x r.by r.may r.old r.new in
      let may' : AllAllowed g s (r.so_far ++ r.by ∷ r.rest) = subst (AllAllowed g s) (sym r.is) may in
      let late = later_run g law r.rest (after (run r.so_far s) r.by) (allowed_rest g r.so_far (r.by ∷ r.rest) s may').1 in
      let end : (run fs s).slot t x ≡ (run r.rest (after (run r.so_far s) r.by)).slot t x = ap (λ l. (run l s).slot t x) (sym r.is)
      ∙ ap (λ z. z.slot t x) (run-append r.so_far (r.by ∷ r.rest) s) in
      let then' : (after (run r.so_far s) r.by).slot t x ≡ Buried b.0 = ap (λ e. (after (run r.so_far s) e).slot t x) b.1
      ∙ written (run r.so_far s) t x (Buried b.0) in
      let stays : (run r.rest (after (run r.so_far s) r.by)).slot t x ≡ Buried
      b.0 = subst (λ w. Becomes g w ((run r.rest (after (run r.so_far s) r.by)).slot t x)) then' (late.words t x) in
      let q : b.0 ≡ p = cc (end, stays, now) in
      record {
        so_far = r.so_far ++ r.by ∷ [];
        rest = r.rest;
        is = one r.so_far r.by r.rest ∙ r.is;
        value_is =
            ap (λ f. f k) (map_of-append g r.so_far (r.by ∷ []) m)
            ∙ (ap (λ e. map_after g (map_of g m r.so_far) e k) b.1
            ∙ cond-true (g.same k (g.key b.0)) None (map_of g m r.so_far k) (ap (λ y. g.same k (g.key y)) q ∙ same));
      }
    where
      one : (xs : List (Exchange P)) (e : Exchange P) (ys : List (Exchange P)) → (xs ++ e ∷ []) ++ ys ≡ xs ++ e ∷ ys
      one [] e ys = refl
      one (a ∷ xs) e ys = ap (λ l. a ∷ l) (one xs e ys)

      written : (s : State P) (t x : ℕ) (w : Word P) → (slot_put s t x w).slot t x ≡ w
      written s t x w = ⊎_elim (λ r. absurd (r.1 (refl, refl))) (λ r. r.2) (slot_cases s t x w t x)
