-- The size of a table for a number of pairs.
use Rattle.std.proofs.Common.{◌≡◌, ◌⊎◌, inl, inr, ⊎_elim, ℕ, zero, suc, ◌*◌, ◌/◌, ◌-◌, ◌^◌, ◌<◌}
use Rattle.std.proofs.Common.{◌≤◌, nat_le, le-leb, max, None, Some, sym, ap, ◌∙◌, subst, arith}
use Rattle.std.proofs.Math.Nat.{pow-succ'}
use Rattle.std.proofs.Math.Pow.{pow_mono}
use Rattle.std.proofs.lemmas.Bool.{cases_lt, cond-true, cond-false, lt-leb}
use Rattle.std.specs.Int.{IsPowerOfTwo}
use Rattle.papaya_words.specs.Probe.{IsEntriesFor, log_upto}
use Rattle.papaya_words.proofs.Lengths.{log_is}
use Rattle.papaya_call.specs.Search.{IsSize}
use Rattle.papaya_call.specs.TableSize.{entries_of, room_of, room_of_len}

-- n is a power of two that is the least from m on, which is 2 or more
twice_log : (m p : ℕ) → 2 ≤ m → m < 2 ^ 63 → IsPowerOfTwo p → m ≤ p → p / 2 < m → 2 * 2 ^ log_upto 63 (m - 1) ≡ p
twice_log m p two few (zero, e) above below = absurd (omega (arith, two, e, above))
twice_log m p two few (suc k, e) above below =
    let double : 2 ^ suc k ≡ 2 * 2 ^ k = pow-succ' 2 k in
    let low : 2 ^ k ≤ m - 1 = omega (arith, e, double, below) in
    let high : m - 1 < 2 * 2 ^ k = omega (arith, e, double, above, two) in
    let most : k ≤ 63 = ⊎_elim (λ (lt : k < 63). omega (arith, lt))
    (λ (ge : 63 ≤ k). let up : 2 ^ 63 ≤ 2 ^ k = pow_mono ge in absurd (omega (arith, up, low, few))) (cases_lt k 63) in
    ap (λ l. 2 * 2 ^ l) (log_is 63 k (m - 1) most low high) ∙ sym (e ∙ double)

-- the least power of two from 0 or 1 on is 1
one_is : (m p : ℕ) → m < 2 → IsPowerOfTwo p → p / 2 < max 1 m → p ≡ 1
one_is m p one (zero, e) below = e
one_is m p one (suc k, e) below =
    let double : 2 ^ suc k ≡ 2 * 2 ^ k = pow-succ' 2 k in
    let some : 2 ^ 0 ≤ 2 ^ k = pow_mono {i = 0} (omega arith) in
    absurd (omega (arith, e, double, some, below, one))

-- so the least table for `pairs` pairs has `entries_of pairs` entries
pub entries_are : (pairs p : ℕ) → pairs * 8 < 2 ^ 64 → IsEntriesFor pairs p → entries_of pairs ≡ p
entries_are pairs p few (power, above, below) =
    ⊎_elim
    (λ (one : pairs * 8 / 6 < 2).
    let is : p ≡ 1 = one_is (pairs * 8 / 6) p one power below in
    cond-true (nat_le (pairs * 8 / 6) 1) 1 (2 * 2 ^ log_upto 63 (pairs * 8 / 6 - 1)) (le-leb (pairs * 8 / 6) 1 (omega (arith, one))) ∙ sym is)
    (λ (more : 2 ≤ pairs * 8 / 6).
    cond-false (nat_le (pairs * 8 / 6) 1) 1 (2 * 2 ^ log_upto 63 (pairs * 8 / 6 - 1)) (lt-leb (pairs * 8 / 6) 1 (omega (arith, more)))
    ∙ twice_log (pairs * 8 / 6) p more (omega (arith, few)) power above (omega (arith, below, more)))
    (cases_lt (pairs * 8 / 6) 2)

-- a power up to `most` that is n at most is no more than the logarithm
log_least : (most l n : ℕ) → l ≤ most → 2 ^ l ≤ n → l ≤ log_upto most n
unfolding log_upto
log_least zero l n le below = le
log_least (suc most) l n le below =
    ⊎_elim
    (λ (over : n < 2 ^ suc most).
    let lt : l ≤ most = ⊎_elim (λ (a : l < suc most). omega (arith, a))
    (λ (b : suc most ≤ l). let up : 2 ^ suc most ≤ 2 ^ l = pow_mono b in absurd (omega (arith, up, over, below))) (cases_lt l (suc most)) in
    subst (λ y. l ≤ y) (sym (cond-false (nat_le (2 ^ suc most) n) (suc most) (log_upto most n) (lt-leb (2 ^ suc most) n over))) (log_least most l n lt below))
    (λ (fits : 2 ^ suc most ≤ n). subst (λ y. l ≤ y) (sym (cond-true (nat_le (2 ^ suc most) n) (suc most) (log_upto most n) (le-leb (2 ^ suc most) n fits))) le)
    (cases_lt n (2 ^ suc most))

-- the greater of a number and 8 is one of them
greater : (n : ℕ) → (max n 8 ≡ 8) ⊎ (max n 8 ≡ n)
greater n = ⊎_elim (λ (lt : n < 8). inl (omega (arith, lt))) (λ (le : 8 ≤ n). inr (omega (arith, le))) (cases_lt n 8)

-- there is no table of more than 2^32 slots
pub no_room : (pairs : ℕ) → 2 ^ 32 < entries_of pairs → room_of pairs ≡ None
no_room pairs long = cond-false (nat_le (entries_of pairs) (2 ^ 32)) (Some (room_of_len (max (entries_of pairs) 8))) None
    (lt-leb (entries_of pairs) (2 ^ 32) long)

pub has_room : (pairs : ℕ) → entries_of pairs ≤ 2 ^ 32 → room_of pairs ≡ Some (room_of_len (max (entries_of pairs) 8))
has_room pairs fits = cond-true (nat_le (entries_of pairs) (2 ^ 32)) (Some (room_of_len (max (entries_of pairs) 8))) None
    (le-leb (entries_of pairs) (2 ^ 32) fits)

-- nor for more pairs than 2^61
pub too_many : (pairs : ℕ) → 2 ^ 64 ≤ pairs * 8 → room_of pairs ≡ None
too_many pairs many =
    let low : 2 ^ 40 ≤ pairs * 8 / 6 - 1 = omega (arith, many) in
    let least : 40 ≤ log_upto 63 (pairs * 8 / 6 - 1) = log_least 63 40 (pairs * 8 / 6 - 1) (omega arith) low in
    let up : 2 ^ 40 ≤ 2 ^ log_upto 63 (pairs * 8 / 6 - 1) = pow_mono least in
    let is : entries_of pairs ≡ 2 * 2 ^ log_upto 63 (pairs * 8 / 6 - 1) = cond-false (nat_le (pairs * 8 / 6) 1) 1
    (2 * 2 ^ log_upto 63 (pairs * 8 / 6 - 1)) (lt-leb (pairs * 8 / 6) 1 (omega (arith, many))) in
    no_room pairs (omega (arith, is, up))

-- a table for `pairs` pairs would be too long
pub too_long : (pairs entries : ℕ) → pairs * 8 < 2 ^ 64 → IsEntriesFor pairs entries → 2 ^ 32 < entries → room_of pairs ≡ None
too_long pairs entries few is long = no_room pairs (subst (λ e. 2 ^ 32 < e) (sym (entries_are pairs entries few is)) long)

-- or is not
pub fits : (pairs entries : ℕ) → pairs * 8 < 2 ^ 64 → IsEntriesFor pairs entries → entries ≤ 2 ^ 32 → room_of pairs ≡ Some (room_of_len (max entries 8))
fits pairs entries few is short =
    let e = entries_are pairs entries few is in
    has_room pairs (subst (λ y. y ≤ 2 ^ 32) (sym e) short) ∙ ap (λ y. Some (room_of_len (max y 8))) e

-- and then it has a size of tables
pub fits_size : (pairs entries limit : ℕ) → IsEntriesFor pairs entries → entries ≤ 2 ^ 32 → limit < 2 ^ 32 → IsSize (max entries 8) limit
fits_size pairs entries limit (power, above, below) short few = record {
  power = ⊎_elim (λ (e : max entries 8 ≡ 8). (3, e)) (λ (e : max entries 8 ≡ entries). subst IsPowerOfTwo (sym e) power) (greater entries);
  most = omega (arith, short);
  few = few;
}
