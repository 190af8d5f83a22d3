-- The chunk at which the copy of a table begins.
use Rattle.std.proofs.Common.{ℕ, ◌*◌, ◌%◌, ◌<◌, ◌≤◌, ◌^◌, arith}
use Rattle.std.proofs.Math.Nat.{le-mul_of_pos_right, mod-lt}
use Rattle.std.proofs.Math.Pow.{pow_mono}
use Rattle.std.specs.Int.{IsPowerOfTwo}
use Rattle.papaya_words.specs.Chunks.{chunk_count, chunk_len}
use Rattle.papaya_words.specs.declared.resize_mode.ResizeMode.{ResizeMode}
use Rattle.papaya_words.proofs.ChunkLemmas.{chunk_some, chunk_starts}

-- it has a slot
pub start_within : (len number : ℕ) (mode : ResizeMode) → IsPowerOfTwo len → (number % chunk_count len (chunk_len mode)) * chunk_len mode < len
start_within len number mode (k, e) =
    let some : 2 ^ 0 ≤ 2 ^ k = pow_mono {i = 0} (omega arith) in
    let positive : 0 < len = omega (arith, some, e) in
    chunk_starts (chunk_len mode) (chunk_some mode) len (number % chunk_count len (chunk_len mode)) positive (mod-lt number (omega arith))

-- its first slot has no lower number
pub start_low : (chunk : ℕ) (mode : ResizeMode) → chunk ≤ chunk * chunk_len mode
start_low chunk mode = le-mul_of_pos_right chunk (chunk_some mode)
