-- The chunks that a table is copied in.
use Rattle.std.specs.Prelude.{ℕ, ◌+◌, ◌-◌, ◌/◌, max}
use Rattle.papaya_words.specs.declared.limits.TheConstants.{BLOCKING_CHUNK}
use Rattle.papaya_words.specs.declared.resize_mode.ResizeMode.{ResizeMode}
use Rattle.papaya_words.specs.declared.resize_mode.ResizeMode.TheVariants.{Incremental, Blocking}

-- how many slots are copied at a time, at least one
abbrev pub chunk_len : ResizeMode → ℕ
chunk_len (Incremental chunk) = max chunk 1
chunk_len Blocking = BLOCKING_CHUNK

-- the chunk in which slot x is copied, if chunks have `slots` slots
abbrev pub chunk_of : (slots x : ℕ) → ℕ
chunk_of slots x = x / slots

-- in how many chunks of `slots` slots a table of length `len` is copied
abbrev pub chunk_count : (len slots : ℕ) → ℕ
chunk_count len slots = (len - 1) / slots + 1
