-- How many slots a table for a number of pairs has, and for how many pairs there is no table.
use Rattle.std.proofs.Common.{◌≡◌, inl, inr, ⊎_elim, ℕ, zero, suc, ◌*◌, ◌/◌, ◌-◌, ◌^◌, ◌<◌, ◌≤◌, nat_le, max, None, Some, sym, ◌∙◌, arith, leb-true, leb-false}
use Rattle.std.proofs.Math.Nat.{pow-succ'}
use Rattle.std.proofs.Math.Pow.{pow_mono}
use Rattle.std.proofs.lemmas.Bool.{cases_lt, cond_both}
use Rattle.std.specs.Int.{IsPowerOfTwo}
use Rattle.papaya_words.specs.Probe.{IsEntriesFor, log_upto}
use Rattle.papaya_call.specs.TableSize.{entries_of, room_of, room_of_len}
use Rattle.papaya_call.proofs.TableSizes.{has_room, too_long, too_many}
use Rattle.papaya_words_keys.specs.Sizes.{IsTooMuch}

-- a number is between the powers of its logarithm and of the next one
log_between : (most n : ℕ) → 0 < n → n < 2 ^ suc most → (2 ^ log_upto most n ≤ n) × (n < 2 * 2 ^ log_upto most n)
unfolding log_upto
log_between zero n some few = (omega (arith, some), omega (arith, few))
log_between (suc most) n some few =
    cond_both (nat_le (2 ^ suc most) n) (suc most) (log_upto most n) (λ l. (2 ^ l ≤ n) × (n < 2 * 2 ^ l))
    (λ fits. (leb-true (2 ^ suc most) n fits, let double = pow-succ' 2 (suc most) in omega (arith, double, few)))
    (λ over. log_between most n some (leb-false (2 ^ suc most) n over))

-- it has the slots of the least power of two that is enough
pub entries_next : (pairs : ℕ) → pairs * 8 < 2 ^ 64 → IsEntriesFor pairs (entries_of pairs)
entries_next pairs few =
    cond_both (nat_le (pairs * 8 / 6) 1) 1 (2 * 2 ^ log_upto 63 (pairs * 8 / 6 - 1)) (IsEntriesFor pairs)
    (λ one. let le = leb-true (pairs * 8 / 6) 1 one in ((0, omega arith), le, omega arith))
    (λ more.
    let lt = leb-false (pairs * 8 / 6) 1 more in
    let between = log_between 63 (pairs * 8 / 6 - 1) (omega (arith, lt)) (omega (arith, few)) in
    let low = between.0 in
    let high = between.1 in (
      (suc (log_upto 63 (pairs * 8 / 6 - 1)), sym (pow-succ' 2 (log_upto 63 (pairs * 8 / 6 - 1)))),
      omega (arith, high),
      omega (arith, low, lt),
    ))

-- more pairs than a table may have slots for are too much
pub much_is : (pairs : ℕ) → 2 ^ 32 < entries_of pairs → IsTooMuch pairs
much_is pairs long = ⊎_elim
    (λ (few : pairs * 8 < 2 ^ 64). inr (entries_of pairs, entries_next pairs few, long))
    (λ (many : 2 ^ 64 ≤ pairs * 8). inl many)
    (cases_lt (pairs * 8) (2 ^ 64))

-- and for those there is no room
pub much_none : (pairs : ℕ) → IsTooMuch pairs → room_of pairs ≡ None
much_none pairs (inl many) = too_many pairs many
much_none pairs (inr (entries, is, long)) = ⊎_elim
    (λ (few : pairs * 8 < 2 ^ 64). too_long pairs entries few is long)
    (λ (many : 2 ^ 64 ≤ pairs * 8). too_many pairs many)
    (cases_lt (pairs * 8) (2 ^ 64))

-- a table that has the slots has at least as many as this many pairs need
pub room_is : (pairs slots : ℕ) → slots ≤ 2 ^ 32 → entries_of pairs ≤ slots → (entries : ℕ) × IsEntriesFor pairs entries × (entries ≤ slots)
room_is pairs slots most le = ⊎_elim
    (λ (few : pairs * 8 < 2 ^ 64). (entries_of pairs, entries_next pairs few, le))
    (λ (many : 2 ^ 64 ≤ pairs * 8). let f : None ≡ Some (room_of_len (max (entries_of pairs) 8)) = sym (too_many pairs many)
    ∙ has_room pairs (omega (arith, most, le)) in absurd cc)
    (cases_lt (pairs * 8) (2 ^ 64))

-- if pairs need no more than 2^32 entries, their number is within a bound
pub entries_few : (pairs entries : ℕ) → IsEntriesFor pairs entries → entries ≤ 2 ^ 32 → pairs * 8 < 2 ^ 64
entries_few pairs entries (power, above, below) most = omega (arith, above, most)

-- a power of two past 2^32 is 2^33 or more
power_past : (p : ℕ) → IsPowerOfTwo p → 2 ^ 32 < p → 2 ^ 33 ≤ p
power_past p (k, e) past = ⊎_elim
    (λ (low : k < 33). let most : k ≤ 32 = omega (arith, low) in let le : 2 ^ k ≤ 2 ^ 32 = pow_mono most in absurd (omega (arith, le, e, past)))
    (λ (high : 33 ≤ k). let up : 2 ^ 33 ≤ 2 ^ k = pow_mono high in omega (arith, up, e))
    (cases_lt k 33)

-- if this many pairs are too many, more are
pub much_more : (less more : ℕ) → less ≤ more → IsTooMuch less → IsTooMuch more
much_more less more le (inl many) = inl (omega (arith, le, many))
much_more less more le (inr (entries, (power, above, below), long)) = ⊎_elim
    (λ (few : more * 8 < 2 ^ 64).
    let next = entries_next more few in
    let high : 2 ^ 33 ≤ entries = power_past entries power long in
    let least = next.1 in
    inr (entries_of more, next, omega (arith, le, high, below, least)))
    (λ (many : 2 ^ 64 ≤ more * 8). inl many)
    (cases_lt (more * 8) (2 ^ 64))
