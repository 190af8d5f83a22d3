-- When keys are equal, and their hashes: what a map takes from the types of its keys and its
-- hasher.
use Rattle.std.specs.Prelude.{◌≡◌, ℕ, Bool, true}
use Rattle.std.specs.Cmp.{IsEquivalence}
use Rattle.std.specs.HashMap.Lent.{HashMembers}
use Rattle.std.specs.declared.hash.Hasher as hasher
use Rattle.std.specs.declared.hash.BuildHasher as builder
use Rattle.papaya_map_book.specs.Hashes.{hash_of}

pub record Keys (K S : Type 0) : Type 0 where
  pub eq : K → K → Bool
  pub hash : S → K → ℕ

-- The keys that a query matches, and its hash.
pub record Query (K S : Type 0) : Type 0 where
  pub matches : K → Bool
  pub hash : S → ℕ

abbrev pub keys_of : {K S H : Type 0} → HashMembers K → builder.Ghosts S H → hasher.Ghosts H
    → Keys K S
keys_of k b h = record { eq = k.eq; hash = hash_of k.hash_input b.build_hasher h.write h.finish }

-- Equality of keys is an equivalence, and equal keys have the same hash.
pub record IsLawful {K S : Type 0} (keys : Keys K S) : Type 0 where
  pub classes : IsEquivalence keys.eq
  pub respects : (s : S) (x y : K) → keys.eq x y ≡ true → keys.hash s x ≡ keys.hash s y
