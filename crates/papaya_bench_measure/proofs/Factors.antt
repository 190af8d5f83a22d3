-- Factors that have an inverse.
use Rattle.std.proofs.Common.{◌≡◌, ℕ, ◌+◌, ◌-◌, ◌*◌, ◌%◌, ◌^◌, ◌<◌, ap, ◌∙◌, arith, sym, subst, bit_and}
use Rattle.std.proofs.Math.Nat.{mul_assoc, mul-one, mod-eq_of_lt}
use Rattle.std.proofs.lemmas.Nat.{mul-mod_first, mul-mod_second, pow_pos}
use Rattle.std.specs.Int.{IsPowerOfTwo}
use Rattle.papaya_words.proofs.Masks.{and_low, and_low_wrapped}

-- what a factor scatters, its inverse brings back
pub brought_back : (w a b n : ℕ) → (a * b) % w ≡ 1 % w → n < w → ((n * a) % w * b) % w ≡ n
brought_back w a b n inverse below =
    mul-mod_first (n * a) b w
    ∙ ap (λ x. x % w) (mul_assoc n a b)
    ∙ sym (mul-mod_second n (a * b) w)
    ∙ ap (λ x. (n * x) % w) inverse
    ∙ mul-mod_second n 1 w
    ∙ ap (λ x. x % w) (mul-one n)
    ∙ mod-eq_of_lt below

-- the mask of a power of two keeps what is left of a product that wrapped
pub masked : (keys n : ℕ) → IsPowerOfTwo keys → keys < 2 ^ 32 → bit_and (n % 2 ^ 64) ((keys + 18446744073709551615) % 18446744073709551616) ≡ n % keys
masked keys n power small =
    let some : 0 < keys = subst (λ x. 0 < x) (sym power.1) (pow_pos power.0) in
    let m = (keys + 18446744073709551615) % 18446744073709551616 in
    let whole : m + 1 ≡ keys = omega arith in
    and_low_wrapped n m (power.0, whole ∙ power.1) (omega arith) ∙ ap (λ x. n % x) whole

-- an inverse within 64 bits is one within each lower power of two
pub still_inverse : (keys n : ℕ) → IsPowerOfTwo keys → keys < 2 ^ 32 → n % 2 ^ 64 ≡ 1 → n % keys ≡ 1 % keys
still_inverse keys n power small one =
    let some : 0 < keys = subst (λ x. 0 < x) (sym power.1) (pow_pos power.0) in
    let m = keys - 1 in
    let whole : m + 1 ≡ keys = omega arith in
    let two : IsPowerOfTwo (m + 1) = (power.0, whole ∙ power.1) in
    ap (λ x. n % x) (sym whole)
    ∙ sym (and_low_wrapped n m two (omega arith))
    ∙ and_low (n % 2 ^ 64) m two
    ∙ ap (λ x. x % (m + 1)) one
    ∙ ap (λ x. 1 % x) whole
