-- The parts of the pairs in an arena. A pair owns its key and its value, or names the pair that
-- owns them.
use Rattle.std.specs.Prelude.{ℕ, List, Option, Some, None, slice_get}
use Rattle.papaya_core_store.specs.declared.pairs.Pair.{Pair}
use Rattle.papaya_core_store.specs.declared.pairs.Pair.TheVariants as pairs
use Rattle.papaya_core_store.specs.declared.pairs.Part.{Part}
use Rattle.papaya_core_store.specs.declared.pairs.Part.TheVariants.{Own, Logged}

-- a pair with this key part and this value part
abbrev pub pair_with : {K V : Type 0} → Part K → Part V → Pair K V
pair_with (Own k) (Own v) = pairs.Own k v
pair_with (Logged n) (Own v) = pairs.Keyed n v
pair_with (Own k) (Logged n) = pairs.Lent k n
pair_with (Logged n) (Logged m) = pairs.Both n m

-- the key part of a pair; `value_part` is its value part
abbrev pub key_part : {K V : Type 0} → Pair K V → Part K
key_part (pairs.Own k v) = Own k
key_part (pairs.Keyed n v) = Logged n
key_part (pairs.Lent k n) = Own k
key_part (pairs.Both n m) = Logged n

abbrev pub value_part : {K V : Type 0} → Pair K V → Part V
value_part (pairs.Own k v) = Own v
value_part (pairs.Keyed n v) = Own v
value_part (pairs.Lent k n) = Logged n
value_part (pairs.Both n m) = Logged m

-- what a part owns, None if it names the pair that does
abbrev pub owned : {T : Type 0} → Part T → Option T
owned (Own x) = Some x
owned (Logged n) = None

-- the number of the pair that owns a part of pair n
abbrev pub brought_by : {T : Type 0} → (n : ℕ) → Part T → ℕ
brought_by n (Own x) = n
brought_by n (Logged first) = first

-- the key that a pair owns, None if there is no such pair or it owns none; `value_brought` is the
-- value
abbrev pub key_brought : {K V : Type 0} → Option (Pair K V) → Option K
key_brought None = None
key_brought (Some p) = owned (key_part p)

abbrev pub value_brought : {K V : Type 0} → Option (Pair K V) → Option V
value_brought None = None
value_brought (Some p) = owned (value_part p)

-- the key that a part stands for: its own, or the one that the named pair owns; `value_in` is the
-- same for a value
abbrev pub key_in : {K V : Type 0} → List (Pair K V) → Part K → Option K
key_in log (Own k) = Some k
key_in log (Logged n) = key_brought (slice_get log n)

abbrev pub value_in : {K V : Type 0} → List (Pair K V) → Part V → Option V
value_in log (Own v) = Some v
value_in log (Logged n) = value_brought (slice_get log n)

-- the same for a value that may be missing
abbrev pub value_at : {K V : Type 0} → List (Pair K V) → Option (Part V) → Option V
value_at log None = None
value_at log (Some part) = value_in log part

-- the number of the pair that owns the key of pair n, None if there is no pair n
abbrev pub key_from : {K V : Type 0} → (n : ℕ) → Option (Pair K V) → Option ℕ
key_from n None = None
key_from n (Some p) = Some (brought_by n (key_part p))
