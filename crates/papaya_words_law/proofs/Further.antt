-- One further key: the setting with it is lawful, and nothing else in it is new.
use Rattle.std.proofs.Common.{◌≡◌, ℕ, ◌+◌, ◌^◌, ◌<◌, Bool, true, Option, None, Some, refl, sym, ap, ◌∙◌}
use Rattle.std.proofs.Math.Nat.{mod-lt}
use Rattle.papaya_words.specs.Probe.{place, triangular}
use Rattle.papaya_words_law.specs.Exchange.{Word, Empty, Closed, Live, Marked, Copied, Buried, Setting}
use Rattle.papaya_words_law.specs.Code.{Coding, code}
use Rattle.papaya_words_law.specs.Grows.{Agrees, planned}
use Rattle.papaya_words_law.specs.Hashing.{hashed}
use Rattle.papaya_words_law.specs.Further.{same_with, hash_with, place_with, with_key, coding_with, IsLawfulKey}
use Rattle.papaya_words_law.specs.Code.{IsHashed}
use Rattle.papaya_words_law.proofs.Alike.{AreAlike}
use Rattle.papaya_words_law.proofs.Slots.{same_test}
use mathlib.Core.Path.{fun_ext}

module _ {K P : Type 0} (g : Setting K P) (matches : K → Bool) (hash : ℕ) where
  some_key : (k l : K) → Some l ≡ Some k → l ≡ k
  some_key k l e = cc e

  -- the views of pairs are the same with the further key and without
  pub key_alike : AreAlike g (with_key g matches hash)
  key_alike = record {
    blocking = refl;
    size = λ t. refl;
    chunk_of = λ x. refl;
    chunks = λ t. refl;
    most = refl;
    places = λ t. refl;
    place = λ p t j.
        refl;
    same = λ p q. refl;
    kept = λ p q e. ap Some e;
    kept_back = λ p q e. some_key (g.key p) (g.key q) e;
  }

  -- a word has the number that it had
  pub key_code : (c : Coding K P) (w : Word P) → code (with_key g matches hash) (coding_with c hash) w ≡ code g c w
  key_code c Empty = refl
  key_code c Closed = refl
  key_code c (Live p) = refl
  key_code c (Marked p) = refl
  key_code c (Copied p) = refl
  key_code c (Buried p) = refl

  module _ (c : Coding K P) (law : IsHashed g c) where
    -- each key's places come from its hash
    key_places : (k : Option K) (t j : ℕ) → place_with g hash k t j ≡ place (hash_with c.hash hash k) (g.size t) j
    key_places (Some k) t j = law.places k t j
    key_places None t j = refl

    -- within a table that has a slot
    key_within : ((t : ℕ) → 0 < g.size t) → (k : Option K) (t j : ℕ) → j < g.places t → place_with g hash k t j < g.size t
    key_within slots (Some k) t j lt = law.lawful.within k t j lt
    key_within slots None t j lt = mod-lt (hash + triangular j) (slots t)

    -- a key equals itself
    key_itself : (k : Option K) → same_with g.same matches k k ≡ true
    key_itself (Some k) = law.lawful.itself k
    key_itself None = refl

    -- equality of keys is symmetric
    key_back : (k l : Option K) → same_with g.same matches k l ≡ true → same_with g.same matches l k ≡ true
    key_back (Some k) (Some l) e = law.lawful.back k l e
    key_back (Some k) None e = e
    key_back None (Some l) e = e
    key_back None None e = e

    module _ (form : IsLawfulKey g c matches hash) where
      -- a key that equals an equal key is equal
      key_through : (k l m : Option K) → same_with g.same matches k l ≡ true → same_with g.same matches l m ≡ true → same_with g.same matches k m ≡ true
      key_through (Some k) (Some l) (Some m) d e = law.lawful.through k l m d e
      key_through (Some k) (Some l) None d e = form.class l e k ∙ law.lawful.back k l d
      key_through (Some k) None (Some m) d e = sym (form.class k d m) ∙ e
      key_through (Some k) None None d e = d
      key_through None (Some l) (Some m) d e = form.class l d m ∙ e
      key_through None (Some l) None d e = refl
      key_through None None m d e = e

      -- equal keys have equal hashes
      key_respects : (k l : Option K) → same_with g.same matches k l ≡ true → hash_with c.hash hash k ≡ hash_with c.hash hash l
      key_respects (Some k) (Some l) e = law.coding.respects k l e
      key_respects (Some k) None e = sym (form.hash_is k e)
      key_respects None (Some l) e = form.hash_is l e
      key_respects None None e = refl

      -- hashes have 64 bits
      key_fits : (k : Option K) → hash_with c.hash hash k < 2 ^ 64
      key_fits (Some k) = law.coding.hash_fits k
      key_fits None = form.hash_fits

      -- the setting with the further key is lawful
      pub key_lawful : ((t : ℕ) → 0 < g.size t) → IsHashed (with_key g matches hash) (coding_with c hash)
      key_lawful slots = record {
        lawful = record {
          itself = key_itself;
          back = key_back;
          through = key_through;
          places_same = λ k l e t j. key_places k t j ∙ (ap (λ h. place h (g.size t) j) (key_respects k l e) ∙ sym (key_places l t j));
          within = key_within slots;
          some_place = law.lawful.some_place;
          some_slot = slots;
        };
        coding = record { respects = key_respects; hash_fits = key_fits };
        places = key_places;
      }

-- a key of the map is a lawful further key
pub own_key_lawful : {K P : Type 0} (g : Setting K P) (c : Coding K P) → IsHashed g c → (k : K) → IsLawfulKey g c (g.same k) (c.hash k)
own_key_lawful g c law k = record {
  class = λ l e m. same_test g law.lawful k l m e;
  hash_is = λ l e.
      law.coding.respects k l e;
  hash_fits = law.coding.hash_fits k;
}

-- settings that agree on some tables do so with the further key
pub key_agrees : {K P : Type 0} (On : ℕ → Type 0) (g g' : Setting K P) → Agrees On g g' → (matches : K → Bool) (hash : ℕ)
    → Agrees On (with_key g matches hash) (with_key g' matches hash)
key_agrees {K = K} On g g' agrees matches
    hash = record {
      blocking = agrees.blocking;
      key = λ p.
          ap Some (agrees.key p);
      same = same;
      size = agrees.size;
      chunk_of = agrees.chunk_of;
      chunks = agrees.chunks;
      most = agrees.most;
      places = agrees.places;
      place = places;
    }
  where
    same : (k l : Option K) → same_with g'.same matches k l ≡ same_with g.same matches k l
    same (Some k) (Some l) = agrees.same k l
    same (Some k) None = refl
    same None (Some l) = refl
    same None None = refl

    places : (k : Option K) (t j : ℕ) → On t → place_with g' hash k t j ≡ place_with g hash k t j
    places (Some k) t j on = agrees.place k t j on
    places None t j on = ap (λ n. place hash n j) (agrees.size t on)

-- in a plan by hash the further key is placed by its hash too
pub key_planned : {K P : Type 0} (blocking : Bool) (chunk_of : ℕ → ℕ) (most : Option ℕ) (key : P → K) (same : K → K → Bool) (hash_of : K → ℕ)
    (size places chunks : ℕ → ℕ) (matches : K → Bool) (hash : ℕ)
    → with_key (planned (hashed blocking chunk_of most key same hash_of) size places chunks) matches hash ≡ planned
    (hashed blocking chunk_of most (λ p. Some (key p)) (same_with same matches) (hash_with hash_of hash)) size places chunks
key_planned {K = K} {P = P} blocking chunk_of most key same hash_of size places chunks matches hash =
    ap
    {B = Setting (Option K) P}
    (λ S. record {
      blocking = blocking;
      size = size;
      chunk_of = chunk_of;
      chunks = chunks;
      most = most;
      places = places;
      place = S;
      key = λ p.
          Some (key p);
      same = same_with same matches;
    })
    (fun_ext (λ k. fun_ext (λ t. fun_ext (λ j. slot k t j))))
  where
    slot : (k : Option K) (t j : ℕ) → place_with (planned (hashed blocking chunk_of most key same hash_of) size places chunks) hash k t j ≡ place
        (hash_with hash_of hash k) (size t) j
    slot (Some k) t j = refl
    slot None t j = refl
