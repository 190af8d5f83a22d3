-- The settings of a map before it is built.
use Rattle.std.specs.Prelude.{ℕ, Option}
use Rattle.papaya_words.specs.declared.resize_mode.ResizeMode.{ResizeMode}

-- The hasher, the number of the collector, the number of entries to make room for, the resize mode,
-- the number of shards of the count, and the limit on entries, if any.
pub record Wanted (S : Type 0) : Type 0 where
  pub hasher : S
  pub collector : ℕ
  pub capacity : ℕ
  pub mode : ResizeMode
  pub shards : ℕ
  pub limit : Option ℕ
