-- If equal keys have equal hashes, the plan by hash is lawful.
use Rattle.std.proofs.Common.{◌≡◌, ℕ, ◌+◌, Bool, true, Option, ap}
use Rattle.papaya_words.specs.Probe.{place, triangular}
use Rattle.papaya_words_law.specs.Grows.{IsLawfulPlan}
use Rattle.papaya_words_law.specs.Hashing.{hashed}
use Rattle.std.proofs.Math.Nat.{mod-lt}

-- the plan by hash
pub hashed_lawful : {K P : Type 0} (blocking : Bool) (chunk_of : ℕ → ℕ) (most : Option ℕ) (key : P → K) (same : K → K → Bool) (hash : K → ℕ)
    → ((k : K) → same k k ≡ true) → ((k l : K) → same k l ≡ true → same l k ≡ true)
    → ((k l m : K) → same k l ≡ true → same l m ≡ true → same k m ≡ true) → ((k l : K) → same k l ≡ true → hash k ≡ hash l)
    → IsLawfulPlan (hashed blocking chunk_of most key same hash)
hashed_lawful blocking chunk_of most key same hash itself back through respects = record {
  itself = itself;
  back = back;
  through = through;
  probe_same = λ k l e n j. ap (λ h. place h n j) (respects k l e);
  within = λ k n j some. mod-lt (hash k + triangular j) some;
}
