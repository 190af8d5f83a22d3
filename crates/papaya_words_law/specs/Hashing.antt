-- Searches that begin at the key's hash.
use Rattle.std.specs.Prelude.{ℕ, Bool, Option}
use Rattle.papaya_words.specs.Probe.{place}
use Rattle.papaya_words_law.specs.Grows.{Plan}

-- the plan in which the probe sequence of a key begins at its hash
abbrev pub hashed : {K P : Type 0} → Bool → (ℕ → ℕ) → Option ℕ → (P → K) → (K → K → Bool) → (K → ℕ)
    → Plan K P
hashed blocking chunk_of most key same hash = record {
  blocking = blocking;
  chunk_of = chunk_of;
  most = most;
  key = key;
  same = same;
  probe =
      λ k n j. place (hash k) n j;
}
