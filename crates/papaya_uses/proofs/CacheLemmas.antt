-- The texts that a cache has after calls of its maps.
use Rattle.std.proofs.Common.{◌≡◌, ◌≢◌, ◌⊎◌, ◌==◌, ℕ, Bool, true, false, Option, Some, None, Ok, Err, inl, inr, ap, sym, ◌∙◌}
use Rattle.std.specs.Prelude.{MatchOption, String, option_map, string_bytes}
use Rattle.std.specs.Borrow.{Bor}
use Rattle.std.specs.declared.alloc.Global.{Global}
use Rattle.std.proofs.lemmas.Bool.{false≢true, ne_eqb}
use Rattle.papaya.specs.Types.{Refused}
use Rattle.papaya.specs.Seq.{IsCloned, IsPut, Stored, map_in, value_of}
use Rattle.papaya_uses.specs.Cache.{Generations, StaysOrGoes, Texts, first_of, text_in, text_of}

-- the result of a lookup, as a text
abbrev Finds : Texts → ℕ → Option (Bor (String Global)) → Type 0
Finds texts n r = option_map (λ v. v.now) r ≡ value_of (map_in (λ a b. a == b) texts.store n)

text_found : (texts : Texts) (n : ℕ) (r : Option (Bor (String Global))) → Finds texts n r → text_in texts n ≡ option_map (λ v. string_bytes v.now) r
text_found texts n None is = sym (ap (option_map string_bytes) is)
text_found texts n (Some v) is = sym (ap (option_map string_bytes) is)

module _ (cache : Generations) (n : ℕ) (r : Option (Bor (String Global))) (is : Finds cache.young n r) where
  -- a page of the young generation
  pub in_young : (v : Bor (String Global)) → r ≡ Some v → text_of cache n ≡ Some (string_bytes v.now)
  in_young v was = ap (λ t. first_of t (text_in cache.elder n)) (text_found cache.young n r is ∙ ap (option_map (λ v. string_bytes v.now)) was)

  -- and a page that it lacks
  pub in_elder : r ≡ None → (q : Option (Bor (String Global))) → Finds cache.elder n q → (t : Option (Bor (String Global))) → q ≡ t
      → text_of cache n ≡ option_map (λ v. string_bytes v.now) t
  in_elder was q so t shows = ap (λ t. first_of t (text_in cache.elder n))
      (text_found cache.young n r is ∙ ap (option_map (λ v. string_bytes v.now)) was) ∙ text_found cache.elder n q so
      ∙ ap (option_map (λ v. string_bytes v.now)) shows

-- clones have the texts
cloned_text : (held now : Option (Stored ℕ (String Global)))
    → MatchOption held (now ≡ None) (λ p. (q : Stored ℕ (String Global)) × (now ≡ Some q)
    × ((q.key ≡ p.key) × (string_bytes q.value ≡ string_bytes p.value))) → option_map string_bytes (value_of now) ≡ option_map string_bytes (value_of held)
cloned_text None now none = ap (λ held. option_map string_bytes (value_of held)) none
cloned_text (Some p) now (q, is, (key, text)) = ap (λ held. option_map string_bytes (value_of held)) is ∙ ap Some text

pub clones_at : (from to : Texts) → IsCloned (λ a b. a == b) (λ k l. l ≡ k) (λ s t. string_bytes t ≡ string_bytes s) from.store to.store → (n : ℕ)
    → text_in to n ≡ text_in from n
clones_at from to cloned n = cloned_text (map_in (λ a b. a == b) from.store n) (map_in (λ a b. a == b) to.store n) (cloned n)

-- a put leaves the texts of all other pages, and a put that fails leaves all texts
pub put_keeps : (s s' : Texts) (n k : ℕ) (v : String Global) (b : Bool) → IsPut (λ a b. a == b) k v s (Ok b) s' → n ≢ k → text_in s' n ≡ text_in s n
put_keeps s s' n k v b (went, is, inserts, keeps) other = ap (λ held. option_map string_bytes (value_of held)) (inserts.update.others n (ne_eqb n k other))

pub refusal_keeps : (s s' : Texts) (n k : ℕ) (v : String Global) (e : Refused) → IsPut (λ a b. a == b) k v s (Err e) s' → text_in s' n ≡ text_in s n
refusal_keeps s s' n k v e (cause, unchanged, keeps) = ap (λ held. option_map string_bytes (value_of held)) (unchanged n)

-- a page that differs from the one put in, unless the put failed
pub other_than : (n k : ℕ) → (n ≢ k) ⊎ (false ≡ true) → n ≢ k
other_than n k (inl other) = other
other_than n k (inr never) = absurd (false≢true never)

-- so the page stays, or it was dropped before
pub still_goes : (old mid : Generations) (young elder young' : Texts) (limit : ℕ) (n : ℕ) → StaysOrGoes old mid n
    → record { young = young; elder = elder; limit = limit } ≡ mid → text_in young' n ≡ text_in young n
    → StaysOrGoes old (record { young = young'; elder = elder; limit = limit }) n
still_goes old mid young elder young' limit n way is same =
    let after : text_of (record { young = young'; elder = elder; limit = limit }) n ≡ text_of mid n = ap
    (λ t. first_of t (text_in elder n)) same ∙ ap (λ cache. text_of cache n) is in
    elim way [
      | inl stays ↦ inl (after ∙ stays)
      | inr (full, none, gone) ↦ inr (full, none, after ∙ gone)
    ]
