-- Highest bits.
use Rattle.std.proofs.Common.{◌≡◌, ℕ, suc, ◌*◌, ◌^◌, ◌<◌, ◌≤◌, arith, pow_mono, pow-suc, lt_of_not-le}

pub small : (bits : ℕ) → bits ≤ 38 → 2 ^ bits ≤ 274877906944
small bits h = pow_mono h

module _ (n top : ℕ) (low : 2 ^ top ≤ n) (high : n < 2 * 2 ^ top) where
  pub top_is_below : (k : ℕ) → n < 2 ^ k → top < k
  top_is_below k h = lt_of_not-le (λ (le : k ≤ top). let p : 2 ^ k ≤ 2 ^ top = pow_mono le in omega arith)

  pub top_is_from : (k : ℕ) → 2 ^ k ≤ n → k ≤ top
  top_is_from k h =
      let below : k < suc top = lt_of_not-le (λ (le : suc top ≤ k). let p : 2 ^ suc top ≤ 2 ^ k = pow_mono le in
      let q : 2 ^ suc top ≡ 2 ^ top * 2 = pow-suc 2 top in omega arith) in
      omega arith
