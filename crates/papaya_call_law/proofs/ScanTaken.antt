-- A slot that had a key's pair Live still has it, or some exchange took the pair out.
use Rattle.std.proofs.Common.{◌≡◌, ◌⊎◌, inl, inr, ⊎_elim, ℕ, true, List, [], ◌∷◌, ◌++◌, append_assoc, refl, sym, ap, ◌∙◌, subst}
use Rattle.papaya_words_law.specs.Allows.{Allows, AllAllowed}
use Rattle.papaya_words_law.specs.Exchange.{Live, Marked, Copied, Buried, Closed, Setting, State}
use Rattle.papaya_words_law.specs.Exchange.{Exchange, Open, Claim, Replace, Bury, Link, Mark, Close}
use Rattle.papaya_words_law.specs.Exchange.{Place, Finish, Advance, Promote, Abort, Take, after, run}
use Rattle.papaya_words_law.specs.Later.{Becomes}
use Rattle.papaya_words_law.specs.Meaning.{IsLawful}
use Rattle.papaya_words_law.proofs.Later.{later_run}
use Rattle.papaya_words_law.proofs.Slots.{slot_cases}
use Rattle.papaya_call_law.specs.ScanTaken.{IsTakenOut, takes_out}

module _ {K P : Type 0} (g : Setting K P) where
  -- by a later exchange
  pub later_taken : (e : Exchange P) (fs : List (Exchange P)) (k : K) → IsTakenOut g fs k → IsTakenOut g (e ∷ fs) k
  later_taken e fs k r = record { so_far = e ∷ r.so_far; by = r.by; rest = r.rest; is = ap (λ l. e ∷ l) r.is; out = r.out }

  -- or by the first
  pub first_taken : (e : Exchange P) (fs : List (Exchange P)) (k : K) → takes_out g e k ≡ true → IsTakenOut g (e ∷ fs) k
  first_taken e fs k out = record { so_far = []; by = e; rest = fs; is = refl; out = out }

  -- or by the last
  pub last_taken : (e : Exchange P) (fs : List (Exchange P)) (k : K) → takes_out g e k ≡ true → IsTakenOut g (fs ++ e ∷ []) k
  last_taken e fs k out = record { so_far = fs; by = e; rest = []; is = refl; out = out }

  -- with further exchanges
  pub taken_stable : (fs es : List (Exchange P)) (k : K) → IsTakenOut g fs k → IsTakenOut g (fs ++ es) k
  taken_stable fs es k r = record {
    so_far = r.so_far;
    by = r.by;
    rest = r.rest ++ es;
    is = sym (append_assoc r.so_far (r.by ∷ r.rest) es)
        ∙ ap (λ l. l ++ es) r.is;
    out = r.out;
  }

  -- and with earlier ones
  pub taken_behind : (es fs : List (Exchange P)) (k : K) → IsTakenOut g fs k → IsTakenOut g (es ++ fs) k
  taken_behind es fs k r = record {
    so_far = es ++ r.so_far;
    by = r.by;
    rest = r.rest;
    is = append_assoc es r.so_far (r.by ∷ r.rest)
        ∙ ap (λ l. es ++ l) r.is;
    out = r.out;
  }

module _ {K P : Type 0} (g : Setting K P) (law : IsLawful g) where
  -- an exchange that takes out a key's pair takes out that of each equal key
  takes_same : (k l : K) → g.same k l ≡ true → (e : Exchange P) → takes_out g e l ≡ true → takes_out g e k ≡ true
  takes_same k l h (Replace t x p q) out = law.through k l (g.key p) h out
  takes_same k l h (Bury t x p) out = law.through k l (g.key p) h out
  takes_same k l h (Open t) out = absurd cc
  takes_same k l h (Claim t x p) out = absurd cc
  takes_same k l h (Link t n) out = absurd cc
  takes_same k l h (Mark t x p) out = absurd cc
  takes_same k l h (Close t x) out = absurd cc
  takes_same k l h (Place n x p) out = absurd cc
  takes_same k l h (Finish t x p) out = absurd cc
  takes_same k l h (Advance n chunk) out = absurd cc
  takes_same k l h (Promote t n) out = absurd cc
  takes_same k l h (Abort n) out = absurd cc
  takes_same k l h (Take m) out = absurd cc

  pub taken_same : (fs : List (Exchange P)) (k l : K) → g.same k l ≡ true → IsTakenOut g fs l → IsTakenOut g fs k
  taken_same fs k l h r = record { so_far = r.so_far; by = r.by; rest = r.rest; is = r.is; out = takes_same k l h r.by r.out }

  -- the exchange leaves the Live word, takes its pair out, or marks it
  one : (s : State P) (t x : ℕ) (p : P) (e : Exchange P) → Allows g s e → s.slot t x ≡ Live p → ((after s e).slot t x ≡ Live p)
      ⊎ (takes_out g e (g.key p) ≡ true) ⊎ ((after s e).slot t x ≡ Marked p)
  one s t x p (Open u) may live = inl live
  one s t x p (Link u n) may live = inl live
  one s t x p (Advance n chunk) may live = inl live
  one s t x p (Promote u n) may live = inl live
  one s t x p (Abort n) may live = inl live
  one s t x p (Take m) may live = inl live
  one s t x p (Claim u y q) may live = ⊎_elim (λ h. inl (h.0 ∙ live))
      (λ h. absurd (let a = h.0 in let b = h.1 in let m = may.empty in cc (a, b, m, live))) (slot_cases s u y (Live q) t x)
  one s t x p (Close u y) may live = ⊎_elim (λ h. inl (h.0 ∙ live))
      (λ h. absurd (let a = h.0 in let b = h.1 in let m = may.empty in cc (a, b, m, live))) (slot_cases s u y Closed t x)
  one s t x p (Place u y q) may live = ⊎_elim (λ h. inl (h.0 ∙ live))
      (λ h. absurd (let a = h.0 in let b = h.1 in let m = may.empty in cc (a, b, m, live))) (slot_cases s u y (Live q) t x)
  one s t x p (Finish u y q) may live = ⊎_elim (λ h. inl (h.0 ∙ live))
      (λ h. absurd (let a = h.0 in let b = h.1 in let m = may.marked in cc (a, b, m, live))) (slot_cases s u y (Copied q) t x)
  one s t x p (Replace u y q r) may live =
      ⊎_elim (λ h. inl (h.0 ∙ live)) (λ h. let a = h.0 in let b = h.1 in let m = may.live in let is : q ≡ p = cc (a, b, m, live) in
      inr (inl (ap (λ z. g.same (g.key p) (g.key z)) is ∙ law.itself (g.key p)))) (slot_cases s u y (Live r) t x)
  one s t x p (Bury u y q) may live = ⊎_elim (λ h. inl (h.0 ∙ live))
      (λ h. let a = h.0 in let b = h.1 in let m = may.live in let is : q ≡ p = cc (a, b, m, live) in
      inr (inl (ap (λ z. g.same (g.key p) (g.key z)) is ∙ law.itself (g.key p)))) (slot_cases s u y (Buried q) t x)
  one s t x p (Mark u y q) may live = ⊎_elim (λ h. inl (h.0 ∙ live))
      (λ h. let a = h.0 in let b = h.1 in let m = may.live in let is : q ≡ p = cc (a, b, m, live) in inr (inr (h.2 ∙ ap Marked is)))
      (slot_cases s u y (Marked q) t x)

  -- a word that was Live and is Live names the same pair, or the key's pair was taken out
  pub live_or_taken : (t x : ℕ) (p q : P) (fs : List (Exchange P)) (s : State P) → AllAllowed g s fs → s.slot t x ≡ Live p
      → (run fs s).slot t x ≡ Live q → (q ≡ p) ⊎ IsTakenOut g fs (g.key p)
  live_or_taken t x p q [] s may live end = inl cc
  live_or_taken t x p q (e ∷ fs) s may live end =
      ⊎_elim
      (λ live'. ⊎_elim (λ is. inl is) (λ r. inr (later_taken g e fs (g.key p) r)) (live_or_taken t x p q fs (after s e) may.1 live' end))
      (⊎_elim
      (λ out. inr (first_taken g e fs (g.key p) out))
      (λ marked.
      let b = subst (λ w. Becomes g w ((run fs (after s e)).slot t x)) marked ((later_run g law fs (after s e) may.1).words t x) in
      absurd (⊎_elim (λ h. cc (h, end)) (λ h. cc (h, end)) b)))
      (one s t x p e may.0 live)

  -- a word that was Live and is Buried: its pair was taken out
  pub buried_taken : (k : K) (t x : ℕ) (p q : P) (fs : List (Exchange P)) (s : State P) → AllAllowed g s fs → g.same k (g.key p) ≡ true
      → s.slot t x ≡ Live p → (run fs s).slot t x ≡ Buried q → IsTakenOut g fs k
  buried_taken k t x p q [] s may same live end = absurd (cc (live, end))
  buried_taken k t x p q (e ∷ fs) s may same live end =
      ⊎_elim
      (λ live'. later_taken g e fs k (buried_taken k t x p q fs (after s e) may.1 same live' end))
      (⊎_elim
      (λ out. first_taken g e fs k (takes_same k (g.key p) same e out))
      (λ marked.
      let b = subst (λ w. Becomes g w ((run fs (after s e)).slot t x)) marked ((later_run g law fs (after s e) may.1).words t x) in
      absurd (⊎_elim (λ h. cc (h, end)) (λ h. cc (h, end)) b)))
      (one s t x p e may.0 live)
