-- One further key. A lookup may be called with a form of a key that is none of the map's own keys:
-- it matches the keys of one class, or none. What holds of a search for a key holds of that lookup
-- too, in a setting whose keys are the map's own, `Some k`, and the further one, `None`. Its pairs,
-- tables and exchanges are the same.
use Rattle.std.specs.Prelude.{◌≡◌, ℕ, ◌<◌, ◌^◌, Bool, true, Option, None, Some, List, ◌++◌}
use Rattle.papaya_words.specs.Probe.{place}
use Rattle.papaya_words_law.specs.Exchange.{Setting, Exchange}
use Rattle.papaya_words_law.specs.Meaning.{map_of}
use Rattle.papaya_words_law.specs.Code.{Coding}

-- whether two keys are equal; the further key equals the keys that it matches
abbrev pub same_with : {K : Type 0} → (K → K → Bool) → (K → Bool) → Option K → Option K → Bool
same_with same matches (Some k) (Some l) = same k l
same_with same matches (Some k) None = matches k
same_with same matches None (Some l) = matches l
same_with same matches None None = true

-- the hash of a key; the further key has its own
abbrev pub hash_with : {K : Type 0} → (K → ℕ) → ℕ → Option K → ℕ
hash_with hash_of hash (Some k) = hash_of k
hash_with hash_of hash None = hash

-- the slot of the j-th place of a key in table t; the places of the further key begin at its own
-- hash
abbrev pub place_with : {K P : Type 0} → Setting K P → ℕ → Option K → ℕ → ℕ → ℕ
place_with g hash (Some k) t j = g.place k t j
place_with g hash None t j = place hash (g.size t) j

-- the setting with the further key
abbrev pub with_key : {K P : Type 0} → Setting K P → (K → Bool) → ℕ → Setting (Option K) P
with_key g matches hash = record {
  blocking = g.blocking;
  size = g.size;
  chunk_of = g.chunk_of;
  most = g.most;
  chunks = g.chunks;
  places = g.places;
  place = place_with g hash;
  key = λ p. Some (g.key p);
  same = same_with g.same matches;
}

-- the coding with the further key; pairs keep their numbers
abbrev pub coding_with : {K P : Type 0} → Coding K P → ℕ → Coding (Option K) P
coding_with c hash = record { number = c.number; hash = hash_with c.hash hash }

-- The further key is lawful: if it matches a key, it matches exactly the keys that equal that one,
-- and has its hash. It need not match any key.
pub record IsLawfulKey {K P : Type 0} (g : Setting K P) (c : Coding K P) (matches : K → Bool)
    (hash : ℕ) : Type 0 where
  pub class : (k : K) → matches k ≡ true → (l : K) → matches l ≡ g.same k l
  pub hash_is : (k : K) → matches k ≡ true → hash ≡ c.hash k
  pub hash_fits : hash < 2 ^ 64

-- m' is the map m, extended to the further key, which has what m has for the keys that it matches
pub record IsMapWith {K P : Type 0} (g : Setting K P) (matches : K → Bool) (m : K → Option P)
    (m' : Option K → Option P) : Type 0 where
  pub own : (k : K) → m' (Some k) ≡ m k
  pub matched : (k : K) → matches k ≡ true → m' None ≡ m k
  pub found : (p : P) → m' None ≡ Some p → matches (g.key p) ≡ true

-- At some moment during the exchanges fs, which begin at the map m, the map had `value` for each
-- key that the further key matches. If the value is a pair, its key is one of them.
pub record IsMatchedAtMoment {K P : Type 0} (g : Setting K P) (matches : K → Bool)
    (m : K → Option P) (fs : List (Exchange P)) (value : Option P) : Type 0 where
  pub so_far : List (Exchange P)
  pub rest : List (Exchange P)
  pub is : so_far ++ rest ≡ fs
  pub value_is : (k : K) → matches k ≡ true → map_of g m so_far k ≡ value
  pub found : (p : P) → value ≡ Some p → matches (g.key p) ≡ true
