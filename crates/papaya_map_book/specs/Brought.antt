-- The places where a pair's key and its value are stored, as contracts see them.
use Rattle.std.specs.Prelude.{◌≡◌, None, Some}
use Rattle.papaya_map_book.specs.Pairs.{Pair}
use Rattle.papaya_map_book.specs.declared.rule.pair.Held.{Held}
use Rattle.papaya_map_book.specs.declared.rule.pair.Held.TheVariants.{Own, Keyed, Lent, Both, Blank}

abbrev pub pair_held : {K V : Type 0} → Held K V → Pair K V
pair_held (Own k v) = record { key = record { value = k; at = None }; value = v; value_at = None }
pair_held (Keyed w v) = record {
  key = record { value = w.value.key.value; at = Some (w.bucket, w.row) };
  value = v;
  value_at = None;
}
pair_held (Lent k w) = record {
  key = record { value = k; at = None };
  value = w.value.value;
  value_at = Some (w.bucket, w.row);
}
pair_held (Both w u) = record {
  key = record { value = w.value.key.value; at = Some (w.bucket, w.row) };
  value = u.value.value;
  value_at = Some (u.bucket, u.row);
}
-- No arena has a bucket 38.
pair_held (Blank n) = record {
  key = record { value = n.key; at = Some (38, 1) };
  value = n.value;
  value_at = Some (38, 1);
}

-- If the key or the value is stored at another pair, then that pair brought it.
abbrev pub IsBrought : {K V : Type 0} → Held K V → Type 0
IsBrought (Own k v) = Unit {0}
IsBrought (Keyed w v) = w.value.key.at ≡ None
IsBrought (Lent k w) = w.value.value_at ≡ None
IsBrought (Both w u) = (w.value.key.at ≡ None) × (u.value.value_at ≡ None)
IsBrought (Blank n) = Unit {0}
