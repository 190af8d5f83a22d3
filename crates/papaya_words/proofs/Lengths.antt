-- The lengths of tables that follow each other, and their probe limits.
use Rattle.std.proofs.Common.{◌≡◌, ◌⊎◌, inl, inr, ⊎_elim, ℕ, zero, suc, ◌*◌, ◌/◌, ◌^◌, ◌<◌, ◌≤◌}
use Rattle.std.proofs.Common.{nat_le, le-leb, Bool, cond, max, ◌||◌, refl, sym, ap, ◌∙◌, subst}
use Rattle.std.proofs.Common.{arith}
use Rattle.std.proofs.Math.Nat.{pow-succ'}
use Rattle.std.proofs.Math.Pow.{pow_mono}
use Rattle.std.proofs.lemmas.Bool.{cases_lt, cond_both, cond-true, cond-false, lt-leb}
use Rattle.std.specs.Int.{IsPowerOfTwo}
use Rattle.papaya_words.specs.Probe.{log_upto}
use Rattle.papaya_words.specs.Table.{length_after}

-- the one number up to `most` between whose powers n lies is the logarithm
pub log_is : (most log n : ℕ) → log ≤ most → 2 ^ log ≤ n → n < 2 * 2 ^ log → log_upto most n ≡ log
unfolding log_upto
log_is zero log n le below above = omega (arith, le)
log_is (suc most) log n le below above =
    ⊎_elim
    (λ (over : n < 2 ^ suc most).
    let lt : log ≤ most = ⊎_elim (λ (a : log < suc most). omega (arith, a))
    (λ (b : suc most ≤ log). let up : 2 ^ suc most ≤ 2 ^ log = pow_mono b in absurd (omega (arith, up, over, below))) (cases_lt log (suc most)) in
    cond-false (nat_le (2 ^ suc most) n) (suc most) (log_upto most n) (lt-leb (2 ^ suc most) n over) ∙ log_is most log n lt below above)
    (λ (fits : 2 ^ suc most ≤ n).
    let is : suc most ≡ log = ⊎_elim (λ (lt : log < suc most). let up : 2 ^ suc log ≤ 2 ^ suc most = pow_mono lt in let double = pow-succ' 2 log in
    absurd (omega (arith, up, double, fits, above))) (λ (ge : suc most ≤ log). omega (arith, ge, le)) (cases_lt log (suc most)) in
    cond-true (nat_le (2 ^ suc most) n) (suc most) (log_upto most n) (le-leb (2 ^ suc most) n fits) ∙ is)
    (cases_lt n (2 ^ suc most))

-- twice a power of two is one
twice : (n : ℕ) → IsPowerOfTwo n → IsPowerOfTwo (2 * n)
twice n (k, e) = (suc k, ap (λ y. 2 * y) e ∙ sym (pow-succ' 2 k))

-- and half of one too, or it is 0
half : (n : ℕ) → IsPowerOfTwo n → (n / 2 ≡ 0) ⊎ IsPowerOfTwo (n / 2)
half n (zero, e) = inl (omega (arith, e))
half n (suc k, e) = let d : 2 ^ suc k ≡ 2 * 2 ^ k = pow-succ' 2 k in inr (k, omega (arith, e, d))

-- the greater of two is one of them
greater : (a b : ℕ) → (max a b ≡ a) ⊎ (max a b ≡ b)
greater a b = ⊎_elim (λ (lt : a < b). inr (omega (arith, lt))) (λ (le : b ≤ a). inl (omega (arith, le))) (cases_lt a b)

powers : (a b : ℕ) → IsPowerOfTwo a → IsPowerOfTwo b → IsPowerOfTwo (max a b)
powers a b p q = ⊎_elim (λ e. subst IsPowerOfTwo (sym e) p) (λ e. subst IsPowerOfTwo (sym e) q) (greater a b)

-- the length that follows a power of two is one
next_power : (len count initial : ℕ) (unfit : Bool) → IsPowerOfTwo len → IsPowerOfTwo initial → IsPowerOfTwo (length_after len count initial unfit)
next_power len count initial unfit p q =
    cond_both (unfit || nat_le (len / 2) count) (2 * len) (cond (nat_le count (len / 8)) (max initial (len / 2)) len) IsPowerOfTwo
    (λ e. twice len p)
    (λ e.
    cond_both (nat_le count (len / 8)) (max initial (len / 2)) len IsPowerOfTwo
    (λ f. ⊎_elim (λ (z : len / 2 ≡ 0). subst IsPowerOfTwo (let is : initial ≡ max initial (len / 2) = omega (arith, z) in is) q)
    (λ h. powers initial (len / 2) q h) (half len p))
    (λ f. p))

-- no table is shorter than 8 slots
pub table_power : (len count initial : ℕ) (unfit : Bool) → IsPowerOfTwo len → IsPowerOfTwo initial → IsPowerOfTwo (max (length_after len count initial unfit) 8)
table_power len count initial unfit p q = powers (length_after len count initial unfit) 8 (next_power len count initial unfit p q) (3, refl)
