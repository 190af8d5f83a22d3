-- A counter that is split into shards.
use Rattle.std.specs.Prelude.{ℕ, ◌-◌, ℤ, pos, negsuc, ◌+ℤ◌, List, fold, bit_and, slice_set, slice_index_or}
use Rattle.std.specs.Int.{w64, int_wrap}

-- a counter: how many shards it has, their sum, and the value of each
pub record Count : Type 0 where
  pub shards : ℕ
  pub sum : ℤ
  pub each : List ℤ

-- the sum of shards, wrapped to 64 bits
abbrev pub sum_of : List ℤ → ℤ
sum_of shards = int_wrap w64 (fold ◌+ℤ◌ (pos 0) shards)

-- the counter after `by` was added to the shard at this place
abbrev pub added_at : Count → ℕ → ℤ → Count
added_at c place by = record {
  shards = c.shards;
  sum = int_wrap w64 (c.sum +ℤ by);
  each = slice_set c.each place (int_wrap w64 (slice_index_or c.each place (pos 0) +ℤ by));
}

-- the place of the shard that a number picks: the number modulo the number of shards, which is a
-- power of two
abbrev pub shard_of : Count → ℕ → ℕ
shard_of c number = bit_and number (c.shards - 1)

-- the counter after `by` was added to the shard that a number picks
abbrev pub added : Count → ℕ → ℤ → Count
added c number by = added_at c (shard_of c number) by

-- the count that a sum stands for: a negative sum is read as 0
abbrev pub count_of : ℤ → ℕ
count_of (pos n) = n
count_of (negsuc n) = 0
