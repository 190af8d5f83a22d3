-- Slots and their chunks.
use Rattle.std.proofs.Common.{◌≡◌, ℕ, ◌+◌, ◌-◌, ◌*◌, ◌/◌, ◌<◌, ◌≤◌, sym, subst, arith}
use Rattle.std.proofs.Math.Nat.{div-lt_iff_lt-mul, div-mul-le_self, le-div_iff_mul-le, lt-div-mul-add, mul-div_cancel}
use Rattle.papaya_words.specs.Chunks.{chunk_count, chunk_len, chunk_of}
use Rattle.papaya_words.specs.declared.resize_mode.ResizeMode.{ResizeMode}
use Rattle.papaya_words.specs.declared.resize_mode.ResizeMode.TheVariants.{Incremental, Blocking}

-- a chunk has a slot
pub chunk_some : (mode : ResizeMode) → 0 < chunk_len mode
chunk_some (Incremental chunk) = omega arith
chunk_some Blocking = omega arith

module _ (slots : ℕ) where
  -- the chunk after one begins where that ends
  pub chunk_next : (c : ℕ) → (c + 1) * slots ≡ c * slots + slots
  chunk_next c = omega arith

  -- a slot comes at or after the first of its chunk
  pub chunk_from : (x c : ℕ) → chunk_of slots x ≡ c → c * slots ≤ x
  chunk_from x c is = subst (λ y. y * slots ≤ x) is (div-mul-le_self x slots)

  module _ (some : 0 < slots) where
    -- and before the first of the next one
    pub chunk_to : (x c : ℕ) → chunk_of slots x ≡ c → x < c * slots + slots
    chunk_to x c is = subst (λ y. x < y * slots + slots) is (lt-div-mul-add some)

    -- the first slot of a chunk is in it
    pub chunk_first : (c : ℕ) → chunk_of slots (c * slots) ≡ c
    chunk_first c = mul-div_cancel c some

    -- a slot before the first of the next chunk is in none later than this one
    pub chunk_before : (x c : ℕ) → x < c * slots + slots → chunk_of slots x ≤ c
    chunk_before x c lt = let h : chunk_of slots x < c + 1 = (div-lt_iff_lt-mul some).1 (subst (λ y. x < y) (sym (chunk_next c)) lt) in omega arith

    -- each chunk of a table has a slot
    pub chunk_starts : (len c : ℕ) → 0 < len → c < chunk_count len slots → c * slots < len
    chunk_starts len c full lt = let h : c * slots ≤ len - 1 = (le-div_iff_mul-le some).0 (omega (arith, lt)) in omega arith

    -- and each slot of it a chunk
    pub chunk_counted : (len x : ℕ) → x < len → chunk_of slots x < chunk_count len slots
    chunk_counted len x lt =
        let low : chunk_of slots x * slots ≤ len - 1 = (let h = div-mul-le_self x slots in omega arith) in
        let h : chunk_of slots x ≤ (len - 1) / slots = (le-div_iff_mul-le some).1 low in omega arith
