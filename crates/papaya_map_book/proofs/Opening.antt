-- The first log and the first words of a book satisfy the rule.
use Rattle.std.proofs.Common.{◌≡◌, ◌⊎◌, inl, inr, ℕ, ◌<◌, zero, suc, ◌≤◌, true, None, Some}
use Rattle.std.proofs.Common.{[], ◌∷◌, replicate, refl, sym, ap, ◌∙◌, subst, ⊎_elim, Bool}
use Rattle.std.proofs.Common.{false, ◌+◌, arith}
use Rattle.std.proofs.lemmas.List.{get_or-replicate, length-replicate}
use Rattle.logbook.specs.Pages.{Cell, cell}
use Rattle.papaya_call.specs.declared.ask.At.{At}
use Rattle.papaya_call.specs.declared.ask.At.TheVariants.{Root, Next, Aborted, Done, Slot, Made}
use Rattle.papaya_map_book.specs.declared.rule.entry.Begun.{Begun}
use Rattle.papaya_map_book.specs.declared.rule.entry.Event.TheVariants.{Begin}
use Rattle.papaya_map_book.specs.Logs.{key_at}
use Rattle.papaya_map_book.specs.Rows.{row_len}
use Rattle.papaya_map_book.specs.Rule.{AreCodes, IsLawfulLog, IsOfMap, IsPlaced, word_in}
use Rattle.papaya_map_book.specs.Tokens.{stands}
use base.Shift.{Keyless}
use denote.RattleType.{RattleType}
use Rattle.boxcar.specs.Table.{Where}

-- before a table has come, the words of the map alone have keys
first_key : (K V : Type 0) (at : At) (k : ℕ) → key_at {K = K} {V = V} [] at ≡ Some k → ((at ≡ Root) × (k ≡ 0)) ⊎ ((at ≡ Made) × (k ≡ 2))
first_key K V Root k e = inl (refl, let z : 0 ≡ k = cc e in sym z)
first_key K V Made k e = inr (refl, let z : 2 ≡ k = cc e in sym z)
first_key K V (Next t) k e = absurd (cc e)
first_key K V (Aborted t) k e = absurd (cc e)
first_key K V (Done t c) k e = absurd (cc e)
first_key K V (Slot t x) k e = absurd (cc e)

-- and each has a key of its own
first_apart : (K V : Type 0) (at at' : At) (k : ℕ) → key_at {K = K} {V = V} [] at ≡ Some k → key_at {K = K} {V = V} [] at' ≡ Some k → at ≡ at'
first_apart K V at at' k x y =
    ⊎_elim
    (λ r. ⊎_elim (λ s. r.0 ∙ sym s.0) (λ s. let a = r.1 in let b = s.1 in absurd (omega arith)) (first_key K V at' k y))
    (λ r. ⊎_elim (λ s. let a = r.1 in let b = s.1 in absurd (omega arith)) (λ s. r.0 ∙ sym s.0) (first_key K V at' k y))
    (first_key K V at k x)

first_of_map : (K V : Type 0) (at : At) (k : ℕ) → key_at {K = K} {V = V} [] at ≡ Some k → IsOfMap at × (k < 3)
first_of_map K V Root k e = let z : 0 ≡ k = cc e in (tt, omega arith)
first_of_map K V Made k e = let z : 2 ≡ k = cc e in (tt, omega arith)
first_of_map K V (Next t) k e = absurd (cc e)
first_of_map K V (Aborted t) k e = absurd (cc e)
first_of_map K V (Done t c) k e = absurd (cc e)
first_of_map K V (Slot t x) k e = absurd (cc e)

-- the words of the map and of the row
first_home : (n k : ℕ) → k < n → cell (replicate n (0, true)) k ≡ (0, true)
first_home n k l = get_or-replicate n k (0, true) (0, false) l

first_zero : (n k : ℕ) → (cell (replicate n (0, true)) k).0 ≡ 0
first_zero zero k = refl
first_zero (suc n) zero = refl
first_zero (suc n) (suc k) = first_zero n k

module _ {K V S : Type 0} (eq : K → K → Bool) (hash : S → K → ℕ) (b : Begun K V S) where
  first_lawful : IsLawfulLog eq hash b (Begin b ∷ [])
  first_lawful = record {
    rest = [];
    is = refl;
    allowed = tt;
    sized = tt;
    placed = λ n h. ⊎_elim (λ i. subst (IsPlaced b None) i tt) (λ i. absurd i) h;
    blank = λ t e. record { next = refl; aborted = refl; done = λ c. refl; slots = λ x. refl };
    unopened = λ r t. refl;
    apart = first_apart K V;
  }

  first_coded : (n : ℕ) → 3 ≤ n → (at : At) (k : ℕ) → ((at ≡ Root) × (k ≡ 0)) ⊎ ((at ≡ Made) × (k ≡ 2))
      → cell (replicate n (0, true)) k ≡ (word_in eq hash b (Begin b ∷ []) at, true)
  first_coded n three at k (inl r) = ap (cell (replicate n (0, true))) r.1
      ∙ (first_home n 0 (omega arith) ∙ ap (λ (a : At). (word_in eq hash b (Begin b ∷ []) a, true)) (sym r.0))
  first_coded n three at k (inr r) = ap (cell (replicate n (0, true))) r.1
      ∙ (first_home n 2 (omega arith) ∙ ap (λ (a : At). (word_in eq hash b (Begin b ∷ []) a, true)) (sym r.0))

  -- a book that is opened with the words of the map and a row keeps the rule
  pub opens_kept : (n : ℕ) → n ≡ 3 + row_len → AreCodes eq hash (replicate n (0, true)) (Begin b ∷ [])
  opens_kept n is = let long = sym (length-replicate n (0, true)) in record {
    begun = b;
    lawful = first_lawful;
    many = let all : 3 + row_len ≤ n = omega arith in subst (λ (m : ℕ). 3 + row_len ≤ m) long all;
    homes = λ k l. ap (λ (c : Cell). c.1) (first_home n k (omega arith));
    maker = first_home n 1 (omega arith);
    room = omega arith;
    coded = λ at k x. first_coded n (omega arith) at k (first_key K V at k x);
    counted = λ at k x. let r = first_of_map K V at k x in let low = r.1 in let all : k < n = omega arith in (subst (λ (m : ℕ). k < m) long all, inl r.0);
    owned = λ at k x. inl (first_of_map K V at k x).0;
    fresh = λ k three home out. first_zero n k;
  }

-- the resources that represent a token name no token of one thread
pub stands_keyless : (R : RattleType) (w : Where R.Denot) → Keyless (stands R w)
stands_keyless R w = λ x. (tt, tt)

-- the number of words in the row, as the code writes it
pub row_is : row_len ≡ 4611686018427387904
unfolding row_len
row_is = refl
