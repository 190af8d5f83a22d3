-- A number with a byte of 0, and another byte added there: the bytes of the sum, which has no further ones.
use Rattle.std.proofs.Common.{◌≡◌, ◌≢◌, ⊎_elim, ℕ, ◌+◌, ◌*◌, ◌/◌, ◌%◌, ◌^◌, ◌-◌, ◌<◌, sym, ap, ◌∙◌, subst, arith}
use Rattle.std.proofs.lemmas.Bool.{cases_order}
use Rattle.std.proofs.lemmas.Nat.{div-add-mod', div-mul-add, field_of, mod-mul-add, mod_below, mul-add-lt, pow-add, pow_pos, shr-shr, shr_below}
use Rattle.papaya_map_book.specs.Hinted.{byte_of}

-- two numbers that differ by a multiple of 2^(8 i + 8) have the same byte i
low_byte : (n m i k : ℕ) → m ≡ n + k * 2 ^ (i * 8 + 8) → byte_of i m ≡ byte_of i n
low_byte n m i k is =
    let unit = 2 ^ (8 + i * 8) in
    let top = n / unit in let low = n % unit in
    let below : low < unit = mod_below n unit (pow_pos (8 + i * 8)) in
    let split : top * unit + low ≡ n = div-add-mod' n unit in
    let same : m ≡ n + k * unit = is ∙ ap (λ (e : ℕ). n + k * 2 ^ e) (omega arith) in
    let other : m ≡ (top + k) * unit + low = omega (arith, split, same) in
    let rest : m % unit ≡ low = ap (λ (x : ℕ). x % unit) other ∙ mod-mul-add (top + k) unit low below in
    sym (field_of m 8 (i * 8)) ∙ (ap (λ (x : ℕ). x / 2 ^ (i * 8)) rest ∙ field_of n 8 (i * 8))

module _ (n h j : ℕ) (small : h < 256) (none : byte_of j n ≡ 0) where
  abbrev unit : ℕ
  unit = 2 ^ (j * 8)

  abbrev above : ℕ
  above = n / unit / 256

  low_below : n % unit < unit
  low_below = mod_below n unit (pow_pos (j * 8))

  high_is : n / unit ≡ above * 256
  high_is = let split = div-add-mod' (n / unit) 256 in omega (arith, none, split)

  split : n ≡ above * 256 * unit + n % unit
  split = sym (div-add-mod' n unit) ∙ ap (λ (x : ℕ). x * unit + n % unit) high_is

  added : n + h * unit ≡ (above * 256 + h) * unit + n % unit
  added = omega (arith, split)

  high_added : (n + h * unit) / unit ≡ above * 256 + h
  high_added = ap (λ (x : ℕ). x / unit) added ∙ div-mul-add (above * 256 + h) unit (n % unit) low_below

  pub this_byte : byte_of j (n + h * unit) ≡ h
  this_byte = ap (λ (x : ℕ). x % 256) high_added ∙ mod-mul-add above 256 h small

  -- a byte above
  past : (i d : ℕ) → i * 8 ≡ j * 8 + (8 + d) → (n + h * unit) / 2 ^ (i * 8) ≡ n / 2 ^ (i * 8)
  past i d e =
      let at : (m : ℕ) → m / 2 ^ (i * 8) ≡ m / unit / 256 / 2 ^ d = λ m. ap (λ (x : ℕ). m / 2 ^ x) e
      ∙ (sym (shr-shr m (j * 8) (8 + d)) ∙ sym (shr-shr (m / unit) 8 d)) in
      let same : (n + h * unit) / unit / 256 ≡ above = ap (λ (x : ℕ). x / 256) high_added ∙ div-mul-add above 256 h small in
      at (n + h * unit) ∙ (ap (λ (x : ℕ). x / 2 ^ d) same ∙ sym (at n))

  -- a byte below
  before : (i d : ℕ) → j * 8 ≡ d + (i * 8 + 8) → byte_of i (n + h * unit) ≡ byte_of i n
  before i d e =
      let units : unit ≡ 2 ^ d * 2 ^ (i * 8 + 8) = ap (λ (x : ℕ). 2 ^ x) e ∙ pow-add 2 d (i * 8 + 8) in
      let is : n + h * unit ≡ n + h * 2 ^ d * 2 ^ (i * 8 + 8) = omega (arith, ap (λ (x : ℕ). h * x) units) in
      low_byte n (n + h * unit) i (h * 2 ^ d) is

  pub other_byte : (i : ℕ) → i ≢ j → byte_of i (n + h * unit) ≡ byte_of i n
  other_byte i apart =
      ⊎_elim (λ e. absurd (apart e))
      (⊎_elim (λ lt. before i ((j - i - 1) * 8) (omega arith))
      (λ gt. ap (λ (x : ℕ). x % 256) (past i ((i - j - 1) * 8) (omega arith))))
      (cases_order i j)

  -- it fits where the number did
  pub fits : j < 8 → n < 2 ^ 64 → n + h * unit < 2 ^ 64
  fits within most =
      let whole : j * 8 + (8 + (56 - j * 8)) ≡ 64 = omega (arith, within) in
      let parts : 64 ≡ 56 - j * 8 + (j * 8 + 8) = omega (arith, within) in
      let top : above < 2 ^ (56 - j * 8) = subst (λ (x : ℕ). x < 2 ^ (56 - j * 8)) (sym (shr-shr n (j * 8) 8))
      (shr_below n (56 - j * 8) (j * 8 + 8) (subst (λ (x : ℕ). n < 2 ^ x) parts most)) in
      let high : above * 256 + h < 256 * 2 ^ (56 - j * 8) = mul-add-lt above 256 h (2 ^ (56 - j * 8)) top small in
      let all : (above * 256 + h) * unit + n % unit < unit * (256 * 2 ^ (56 - j * 8)) = mul-add-lt (above * 256 + h) unit (n % unit) (256 * 2 ^ (56 - j * 8)) high low_below in
      let product : unit * (2 ^ 8 * 2 ^ (56 - j * 8)) ≡ 2 ^ 64 = ap (λ (x : ℕ). unit * x) (sym (pow-add 2 8 (56 - j * 8)))
      ∙ (sym (pow-add 2 (j * 8) (8 + (56 - j * 8))) ∙ ap (λ (x : ℕ). 2 ^ x) whole) in
      subst (λ (x : ℕ). x < 2 ^ 64) (sym added) (subst (λ (x : ℕ). (above * 256 + h) * unit + n % unit < x) product all)
