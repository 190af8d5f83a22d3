-- The places of a search: how one follows another, and that they differ.
use Rattle.std.proofs.Common.{◌≡◌, ℕ, zero, suc, ◌+◌, ◌-◌, ◌*◌, ◌/◌, ◌%◌, ◌^◌, ◌<◌, ◌≤◌, ◌⊎◌, inl, inr, refl, sym, ◌∙◌, ap, arith, add_assoc}
use Rattle.std.proofs.Math.Nat.{mul-zero, mul-suc, mul_assoc, mul_left_comm, mul-sub, mul_comm, mod-add-mod, mod-lt, div-add-mod, pow-succ'}
use Rattle.std.proofs.lemmas.Bool.{cases_lt, cases_order}
use Rattle.std.specs.Int.{IsPowerOfTwo}
use Rattle.papaya_words.specs.Probe.{place, triangular}

-- half of a sum with an even part
half_more : (x m : ℕ) → (x + 2 * m) / 2 ≡ x / 2 + m
half_more x m = omega arith

-- the next triangular number is greater by n + 1
triangular-next : (n : ℕ) → triangular (n + 1) ≡ triangular n + (n + 1)
triangular-next n =
    let e : (n + 1) * (n + 1 + 1) ≡ n * (n + 1) + 2 * (n + 1) = omega arith in
    ap (λ y. y / 2) e ∙ half_more (n * (n + 1)) (n + 1)

-- twice a triangular number is the product of two neighbours
twice-triangular : (n : ℕ) → 2 * triangular n ≡ n * (n + 1)
twice-triangular zero = refl
twice-triangular (suc n) = omega (arith, triangular-next n, twice-triangular n)

-- the next place of a search is n + 1 slots further, modulo the table's slots
pub place-next : (hash slots n : ℕ) → (place hash slots n + n + 1) % slots ≡ place hash slots (n + 1)
place-next hash slots n =
    let e : hash + triangular n + (n + 1) ≡ hash + triangular (n + 1) = omega (arith, triangular-next n) in
    ap (λ y. y % slots) (add_assoc (place hash slots n) n 1) ∙ mod-add-mod (hash + triangular n) slots (n + 1) ∙ ap (λ y. y % slots) e

-- a number is even or odd
parity : (n : ℕ) → (n ≡ 2 * (n / 2)) ⊎ (n ≡ 2 * (n / 2) + 1)
parity n = elim (cases_lt (n % 2) 1) [ inl h ↦ inl (omega arith) | inr h ↦ inr (omega arith) ]

-- a multiple is 0 or at least the number
least-multiple : (m r n : ℕ) → n ≡ m * r → 0 < n → m ≤ n
least-multiple m zero n e h = omega (arith, mul-zero m)
least-multiple m (suc r) n e h = omega (arith, mul-suc m r)

-- if an odd number times another one is a multiple of a power of two, the other one is
odd-factor : (m c b q : ℕ) → (2 * c + 1) * b ≡ 2 ^ m * q → (r : ℕ) × (b ≡ 2 ^ m * r)
odd-factor zero c b q e = (b, omega arith)
odd-factor (suc m) c b q e =
    let power : (x : ℕ) → 2 ^ suc m * x ≡ 2 * (2 ^ m * x) = λ x. ap (λ y. y * x) (pow-succ' 2 m) ∙ mul_assoc 2 (2 ^ m) x in
    let product : (x : ℕ) → (2 * c + 1) * x ≡ 2 * (c * x) + x = λ x. omega arith in
    let half : ℕ = 2 ^ m * q - c * b in
    let even : b ≡ 2 * half = omega (arith, power q, product b) in
    let inner : c * b ≡ 2 * (c * half) = ap (λ x. c * x) even ∙ mul_left_comm c 2 half in
    let rest : (2 * c + 1) * half ≡ 2 ^ m * q = omega (arith, power q, product b, product half) in
    let found : (r : ℕ) × (half ≡ 2 ^ m * r) = odd-factor m c half q rest in
    (found.0, even ∙ ap (λ x. 2 * x) found.1 ∙ sym (power found.0))

-- the difference of two triangular numbers, doubled, is the product of their distance and the sum
-- of their numbers and one
difference : (i d : ℕ) → 2 * triangular (i + d) ≡ 2 * triangular i + d * (2 * i + d + 1)
difference i d =
    let product : (i + d) * (i + d + 1) ≡ i * (i + 1) + d * (2 * i + d + 1) = omega arith in
    twice-triangular (i + d) ∙ product ∙ ap (λ x. x + d * (2 * i + d + 1)) (sym (twice-triangular i))

-- if two numbers leave the same remainder, the greater exceeds the less by a multiple of the
-- divisor
same-remainder : (x y s : ℕ) → x ≤ y → x % s ≡ y % s → y ≡ x + s * (y / s - x / s)
same-remainder x y s h e = omega (arith, mul-sub s (y / s) (x / s), div-add-mod x s, div-add-mod y s)

-- two places of the sequence that are at most a table apart differ
apart : (hash k i d : ℕ) → 0 < d → i + d < 2 ^ k → place hash (2 ^ k) i ≡ place hash (2 ^ k) (i + d) → ⊥
apart hash k i d positive within same =
    let x : ℕ = hash + triangular i in
    let y : ℕ = hash + triangular (i + d) in
    let q : ℕ = y / 2 ^ k - x / 2 ^ k in
    let above : y ≡ x + 2 ^ k * q = same-remainder x y (2 ^ k) (omega (arith, difference i d)) same in
    let power : 2 ^ suc k * q ≡ 2 * (2 ^ k * q) = ap (λ z. z * q) (pow-succ' 2 k) ∙ mul_assoc 2 (2 ^ k) q in
    let product : d * (2 * i + d + 1) ≡ 2 ^ suc k * q = omega (arith, difference i d) in
    let double : 2 ^ suc k ≡ 2 * 2 ^ k = pow-succ' 2 k in
    elim (parity d) [
      | inl even ↦
          let other : 2 * i + d + 1 ≡ 2 * (i + d / 2) + 1 = omega arith in
          let turned : (2 * (i + d / 2) + 1) * d ≡ 2 ^ suc k * q = ap (λ z. z * d) (sym other) ∙ mul_comm (2 * i + d + 1) d ∙ product in
          let found : (r : ℕ) × (d ≡ 2 ^ suc k * r) = odd-factor (suc k) (i + d / 2) d q turned in
          let great : 2 ^ suc k ≤ d = least-multiple (2 ^ suc k) found.0 d found.1 positive in
          omega arith
      | inr odd ↦
          let turned : (2 * (d / 2) + 1) * (2 * i + d + 1) ≡ 2 ^ suc k * q = ap (λ z. z * (2 * i + d + 1)) (sym odd) ∙ product in
          let found : (r : ℕ) × (2 * i + d + 1 ≡ 2 ^ suc k * r) = odd-factor (suc k) (d / 2) (2 * i + d + 1) q turned in
          let great : 2 ^ suc k ≤ 2 * i + d + 1 = least-multiple (2 ^ suc k) found.0 (2 * i + d + 1) found.1 (omega arith) in
          omega arith
    ]

-- an earlier and a later place among the first `slots` differ
apart_in : (hash slots i j : ℕ) → IsPowerOfTwo slots → i < j → j < slots → place hash slots i ≡ place hash slots j → ⊥
apart_in hash slots i j (k, e) less within same =
    let sum : j ≡ i + (j - i) = omega arith in
    let here : place hash (2 ^ k) i ≡ place hash (2 ^ k) (i + (j - i)) =
    ap (λ s. place hash s i) (sym e) ∙ same ∙ ap (λ s. place hash s j) e ∙ ap (λ n. place hash (2 ^ k) n) sum in
    apart hash k i (j - i) (omega arith) (omega arith) here

-- the first `slots` places in a table of that many slots are distinct
pub places_distinct : (hash slots i j : ℕ) → IsPowerOfTwo slots → i < slots → j < slots → place hash slots i ≡ place hash slots j → i ≡ j
places_distinct hash slots i j power hi hj same =
    elim (cases_order i j) [
      | inl e ↦ e
      | inr (inl less) ↦ absurd (apart_in hash slots i j power less hj same)
      | inr (inr more) ↦ absurd (apart_in hash slots j i power more hi (sym same))
    ]

-- a place is a slot of the table
pub place_within : (hash slots n : ℕ) → 0 < slots → place hash slots n < slots
place_within hash slots n h = mod-lt (hash + triangular n) h
