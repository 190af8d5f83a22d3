-- The result of a lookup, by the pair that it found.
use Rattle.std.proofs.Common.{◌≡◌, ℕ, Bool, Option, Some, None, is_some, option_map, MatchBool, MatchOption, refl, sym, ◌∙◌, ap, subst}
use denote.Ref.{Bor}
use Rattle.std.specs.Cmp.{IsEquivalence}
use Rattle.papaya_words_law.specs.Content.{AreApart}
use Rattle.papaya_core_timeline.specs.Content.{content, map_in}
use Rattle.papaya_core_store.specs.Store.{StoreState, Stored, pair_of}
use Rattle.papaya_seq.specs.Looks.{IsFound}
use Rattle.papaya_seq.specs.Map.{HasNone, Holds, deref_pair, entry_of, value_of}
use Rattle.papaya_seq.proofs.CallsDone.{found_apart, found_none}

module _ {K V S : Type 0} (eq : K → K → Bool) (matches : K → Bool) (store : StoreState K V S) where
  -- a key is in the map if a pair was found
  pub contains_found : (found : Option (Stored K V)) (there : Bool) → IsFound eq matches store found
      → there ≡ is_some (option_map (λ p. p.number) found) → MatchBool there ((p : Stored K V) × Holds eq matches store p) (HasNone eq matches store)
  contains_found None there is e = subst (λ b. MatchBool b ((p : Stored K V) × Holds eq matches store p) (HasNone eq matches store)) (sym e) is
  contains_found (Some p) there is e = subst (λ b. MatchBool b ((q : Stored K V) × Holds eq matches store q) (HasNone eq matches store)) (sym e) (p, is.0)

  -- the pair of a number that was found
  pub number_logged : (found : Option (Stored K V)) (n : ℕ) → IsFound eq matches store found → Some n ≡ option_map (λ p. p.number) found
      → (p : Stored K V) × (found ≡ Some p) × Holds eq matches store p × (pair_of store n ≡ Some p)
  number_logged None n is e = absurd cc
  number_logged (Some p) n is e = let number : n ≡ p.number = cc e in (p, refl, is.0, ap (pair_of store) number ∙ is.1)

  -- the references to a pair's key and value, by the pair's number
  abbrev Refers : ℕ → Option (Bor K × Bor V) → Type 0
  Refers n entry = MatchOption entry (pair_of store n ≡ None) (λ e. pair_of store n ≡ Some (record { number = n; key = e.0.now; value = e.1.now }))

  -- they are those of the map's pair
  abbrev pub RefersTo : Option (Bor K × Bor V) → Type 0
  RefersTo entry = MatchOption entry (HasNone eq matches store) (λ e. (p : Stored K V) × Holds eq matches store p × (p.key ≡ e.0.now) × (p.value ≡ e.1.now))

  -- the entry of a number in the arena is the pair that was found
  entry_found : (p : Stored K V) (n : ℕ) (entry : Option (Bor K × Bor V)) → Holds eq matches store p → pair_of store n ≡ Some p → Refers n entry
      → RefersTo entry
  entry_found p n None held is told = let f : None ≡ Some p = sym told ∙ is in absurd cc
  entry_found p n (Some e) held is told =
      let f : Some (record { number = n; key = e.0.now; value = e.1.now }) ≡ Some p = sym told ∙ is in
      let same : record { number = n; key = e.0.now; value = e.1.now } ≡ p = cc f in
      (p, held, sym (ap (λ (q : Stored K V). q.key) same), sym (ap (λ (q : Stored K V). q.value) same))

  pub refers_found : (found : Option (Stored K V)) (n : ℕ) (entry : Option (Bor K × Bor V)) → IsFound eq matches store found
      → Some n ≡ option_map (λ p. p.number) found → Refers n entry → RefersTo entry
  refers_found None n entry is e told = absurd cc
  refers_found (Some p) n entry is e told = let number : n ≡ p.number = cc e in entry_found p n entry is.0 (ap (pair_of store) number ∙ is.1) told

module _ {K V S : Type 0} (eq : K → K → Bool) (classes : IsEquivalence eq) (matches : K → Bool) (store : StoreState K V S)
    (apart : AreApart eq (λ p. p.key) (content eq store)) (k : K) (alike : (l : K) → matches l ≡ eq k l) where
  -- a lookup by a key that matches k refers to the pair that the finite map has at k
  pub refers_map : (entry : Option (Bor K × Bor V)) → RefersTo eq matches store entry → option_map deref_pair entry ≡ option_map entry_of (map_in eq store k)
  refers_map None none = ap (option_map entry_of) (sym (found_none eq classes (content eq store) k (λ i d within. sym (alike _) ∙ none i d within)))
  refers_map (Some e) (p, holds, key, value) =
      ap (λ x. Some (x, e.1.now)) (sym key) ∙ ap (λ y. Some (p.key, y)) (sym value)
      ∙ ap (option_map entry_of) (sym (found_apart eq classes (content eq store) apart k p holds.there (sym (alike p.key) ∙ holds.key)))

  -- a lookup by such a key found the pair that the finite map has
  pub found_map : (found : Option (Stored K V)) → IsFound eq matches store found → map_in eq store k ≡ found
  found_map None none = found_none eq classes (content eq store) k (λ i d within. sym (alike _) ∙ none i d within)
  found_map (Some p) (holds, logged) = found_apart eq classes (content eq store) apart k p holds.there (sym (alike p.key) ∙ holds.key)

-- a pair is found if its number is
pub number_there : {K V : Type 0} (found : Option (Stored K V)) → is_some (option_map (λ p. p.number) found) ≡ is_some found
number_there None = refl
number_there (Some p) = refl

-- no value was found if no number was
pub no_value : {K V : Type 0} (found : Option (Stored K V)) → None ≡ option_map (λ p. p.number) found → None ≡ value_of found
no_value None is = refl
no_value (Some p) is = absurd cc
