-- How a map grows.
use Rattle.std.specs.Prelude.{◌≤◌}
use Rattle.papaya_words.specs.declared.resize_mode.ResizeMode.{ResizeMode}
use Rattle.papaya_words.specs.declared.resize_mode.ResizeMode.TheVariants.{Incremental, Blocking}

-- a chunk has at least one slot
abbrev pub IsChunked : ResizeMode → Type 0
IsChunked (Incremental chunk) = 1 ≤ chunk
IsChunked Blocking = Unit {0}
