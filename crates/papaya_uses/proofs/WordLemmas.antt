-- Counts of words, after one more word.
use Rattle.std.proofs.Common.{◌≡◌, ◌+◌, ◌-◌, ◌^◌, ◌<◌, ◌≤◌, min, cond, ℕ, Bool, true, false, Option}
use Rattle.std.proofs.Common.{Some, None, Ok, List, [], ◌∷◌, inl, inr, length, get_or, take, refl}
use Rattle.std.proofs.Common.{ap, sym, ◌∙◌, subst, arith}
use Rattle.std.specs.Prelude.{Result}
use Rattle.std.specs.Borrow.{Bor}
use Rattle.std.specs.Fn.{FnReturnsAt, Shared}
use Rattle.std.proofs.lemmas.Bool.{cases_Bool}
use Rattle.std.proofs.lemmas.List.Sums.{count_by_more_no, count_by_more_yes}
use Rattle.std.specs.Cmp.{IsEquivalence}
use Rattle.std.specs.List.{count_by}
use Rattle.papaya.specs.Types.{Refused}
use Rattle.papaya.specs.Seq.{Inserts, IsUpdatedOrInserted, MapState, Stored, content, lookup, value_answered, value_of}
use Rattle.papaya_uses.specs.Words.{count_in, count_of}

-- equal words have one count
alike : {W : Type 0} (eq : W → W → Bool) → IsEquivalence eq → (j k : W) → eq j k ≡ true → (ps : List (Stored W ℕ))
    → lookup eq (λ p. p.key) ps j ≡ lookup eq (λ p. p.key) ps k
alike eq laws j k same [] = refl
alike eq laws j k same (p ∷ ps) = let one : eq j p.key ≡ eq k p.key = laws.congr j k p.key same in let rest = alike eq laws j k same ps in
    rw one (ap (λ r. cond (eq k p.key) (Some p) r) rest)

-- a count by its value
count_is : {W : Type 0} (held : Option (Stored W ℕ)) (old : ℕ) → value_of held ≡ Some old → count_of held ≡ old
count_is None old is = absurd cc
count_is (Some p) old is = cc

count_none : {W : Type 0} (held : Option (Stored W ℕ)) → value_of held ≡ None → count_of held ≡ 0
count_none None is = refl
count_none (Some p) is = absurd cc

module _ {W S : Type 0} (eq : W → W → Bool) (laws : IsEquivalence eq) (words : List W) (i : ℕ) (k : W) (inside : i < length words) (is : get_or words i k ≡ k)
    (s s' : MapState W ℕ S) (before : (w : W) → count_in eq s.store w ≡ count_by (eq w) (take i words)) where
  -- if the count of k is replaced by one more, each word's count is that of the words so far and
  -- the next one
  counted : (went : Option ℕ) (v : ℕ) → Inserts eq k v s.store went s'.store → v ≡ count_in eq s.store k + 1 → (w : W)
      → count_in eq s'.store w ≡ count_by (eq w) (take (i + 1) words)
  counted went v inserts next w = elim (cases_Bool (eq w k)) [
    | inl same ↦
        let yes : eq w (get_or words i k) ≡ true = ap (eq w) is ∙ same in
        let new : count_in eq s'.store w ≡ v = ap count_of (inserts.update.class w same) ∙ inserts.value in
        new ∙ next ∙ ap (λ n. n + 1) (sym (ap count_of (alike eq laws w k same (content eq s.store))) ∙ before w)
        ∙ sym (count_by_more_yes (eq w) words i k inside yes)
    | inr other ↦
        let no : eq w (get_or words i k) ≡ false = ap (eq w) is ∙ other in
        ap count_of (inserts.update.others w other) ∙ before w ∙ sym (count_by_more_no (eq w) words i k inside no)
  ]

  -- so after an update by a closure that counts one more, and starts with 1
  module _ {F : Type 0} (g : Shared F (Bor ℕ × Unit {0}) ℕ) (f : F)
      (more : (shown : Bor ℕ) (n : ℕ) → g.post f (shown, tt) n → n ≡ min (shown.now + 1) (2 ^ 64 - 1)) (small : count_in eq s.store k + 1 ≤ 2 ^ 64 - 1) where
    by_one : (v : ℕ) → IsUpdatedOrInserted eq k (FnReturnsAt g f) (λ v. v ≡ 1) s (Ok v) s' → (w : W)
        → count_in eq s'.store w ≡ count_by (eq w) (take (i + 1) words)
    by_one v (inl (old, says, inserts), keeps) =
        let held : count_in eq s.store k ≡ old = ap count_of inserts.update.before ∙ count_is inserts.old old inserts.old_is in
        let next : v ≡ min (old + 1) (2 ^ 64 - 1) = more says.shown v says.says.met ∙ ap (λ n. min (n + 1) (2 ^ 64 - 1)) says.shows in
        counted (Some old) v inserts (omega (arith, held, next, small))
    by_one v (inr (first, inserts), keeps) =
        let none : count_in eq s.store k ≡ 0 = ap count_of inserts.update.before ∙ count_none inserts.old inserts.old_is in
        counted None v inserts (omega (arith, first, none))

    pub one_on : (r : Result (Bor ℕ) Refused) (v : Bor ℕ) → r ≡ Ok v → IsUpdatedOrInserted eq k (FnReturnsAt g f) (λ v. v ≡ 1) s (value_answered r) s'
        → (w : W) → count_in eq s'.store w ≡ count_by (eq w) (take (i + 1) words)
    one_on r v was done = by_one v.now (subst (λ z. IsUpdatedOrInserted eq k (FnReturnsAt g f) (λ v. v ≡ 1) s (value_answered z) s') was done)
