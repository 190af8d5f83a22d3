-- The stored pair of a number in an arena, and in a longer one.
use Rattle.std.proofs.Common.{◌≡◌, ℕ, zero, suc, ◌<◌, List, [], ◌∷◌, ◌++◌, length, slice_get, Option, Some, None, refl, sym, ◌∙◌, ap, subst}
use Rattle.std.proofs.lemmas.Option.{slice_get_within}
use Rattle.papaya_call.specs.declared.ask.Answer.{Answer}
use Rattle.papaya_core_store.specs.declared.pairs.Pair.{Pair}
use Rattle.papaya_core_store.specs.declared.pairs.Part.{Part}
use Rattle.papaya_core_store.specs.declared.pairs.Part.TheVariants.{Own, Logged}
use Rattle.papaya_core_store.specs.declared.pairs.Running.{Running}
use Rattle.papaya_core_store.specs.Pairs.{brought_by, key_brought, key_from, key_in, key_part, owned, pair_with, value_at, value_brought, value_in, value_part}
use Rattle.papaya_core_store.specs.Performs.{PushesOf, PushesOwn, PushesPair, own_key, own_value}
use Rattle.papaya_core_store.specs.Store.{StoreState, Stored, pair_of, stored_at, stored_in}

-- an item of a list, after more was added
pub get-append : {A : Type 0} (xs more : List A) (i : ℕ) (x : A) → slice_get xs i ≡ Some x → slice_get (xs ++ more) i ≡ Some x
get-append [] more i x e = let f : None ≡ Some x = e in cc
get-append (a ∷ xs) more zero x e = e
get-append (a ∷ xs) more (suc i) x e = get-append xs more i x e

-- the item that was added
pub get-append_last : {A : Type 0} (xs : List A) (y : A) → slice_get (xs ++ y ∷ []) (length xs) ≡ Some y
get-append_last [] y = refl
get-append_last (x ∷ xs) y = get-append_last xs y

module _ {K V : Type 0} where
  -- the parts that a pair is made of
  pub key_with : (key : Part K) (value : Part V) → key_part (pair_with key value) ≡ key
  key_with (Own k) (Own v) = refl
  key_with (Own k) (Logged m) = refl
  key_with (Logged n) (Own v) = refl
  key_with (Logged n) (Logged m) = refl

  pub value_with : (key : Part K) (value : Part V) → value_part (pair_with key value) ≡ value
  value_with (Own k) (Own v) = refl
  value_with (Own k) (Logged m) = refl
  value_with (Logged n) (Own v) = refl
  value_with (Logged n) (Logged m) = refl

  -- the two parts of a pair that is stored
  stored_parts : (n : ℕ) (key : Option K) (value : Option V) (p : Stored K V) → stored_at n key value ≡ Some p → (key ≡ Some p.key)
      × (value ≡ Some p.value) × (p.number ≡ n)
  stored_parts n (Some k) (Some v) p h =
      let is : record { number = n; key = k; value = v } ≡ p = cc in
      (ap (λ (q : Stored K V). Some q.key) is, ap (λ (q : Stored K V). Some q.value) is, ap (λ (q : Stored K V). q.number) (sym is))
  stored_parts n (Some k) None p h = let f : None ≡ Some p = h in absurd cc
  stored_parts n None (Some v) p h = let f : None ≡ Some p = h in absurd cc
  stored_parts n None None p h = let f : None ≡ Some p = h in absurd cc

module _ {K V : Type 0} (log : List (Pair K V)) where
  -- the key that pair `n` brought is known by its number
  pub key_known : (n : ℕ) (key : Part K) → key_brought (slice_get log n) ≡ owned key → key_in log (Logged (brought_by n key)) ≡ key_in log key
  key_known n (Own k) e = e
  key_known n (Logged first) e = refl

  pub value_known : (n : ℕ) (value : Part V) → value_brought (slice_get log n) ≡ owned value → value_in log (Logged (brought_by n value)) ≡ value_in log value
  value_known n (Own v) e = e
  value_known n (Logged first) e = refl

  -- it stays in a longer arena
  module _ (more : List (Pair K V)) where
    key_stable : (n : ℕ) (k : K) (o : Option (Pair K V)) → slice_get log n ≡ o → key_brought o ≡ Some k → key_brought (slice_get (log ++ more) n) ≡ Some k
    key_stable n k None e h = let f : None ≡ Some k = h in cc
    key_stable n k (Some p) e h = ap key_brought (get-append log more n p e) ∙ h

    value_stays : (n : ℕ) (v : V) (o : Option (Pair K V)) → slice_get log n ≡ o → value_brought o ≡ Some v → value_brought (slice_get (log ++ more) n) ≡ Some v
    value_stays n v None e h = let f : None ≡ Some v = h in cc
    value_stays n v (Some p) e h = ap value_brought (get-append log more n p e) ∙ h

    pub key-more : (key : Part K) (k : K) → key_in log key ≡ Some k → key_in (log ++ more) key ≡ Some k
    key-more (Own j) k h = h
    key-more (Logged n) k h = key_stable n k (slice_get log n) refl (ap key_brought refl ∙ h)

    pub value-more : (value : Part V) (v : V) → value_in log value ≡ Some v → value_in (log ++ more) value ≡ Some v
    value-more (Own w) v h = h
    value-more (Logged n) v h = value_stays n v (slice_get log n) refl (ap value_brought refl ∙ h)

    pub value_at-more : (value : Option (Part V)) (v : V) → value_at log value ≡ Some v → value_at (log ++ more) value ≡ Some v
    value_at-more None v h = let f : None ≡ Some v = h in cc
    value_at-more (Some value) v h = value-more value v h

module _ {K V S : Type 0} (s : StoreState K V S) where
  -- the facts about a pair that is stored
  pub record IsEntry (n : ℕ) (p : Stored K V) : Type 0 where
    pub entry : Pair K V
    pub there : slice_get s.pairs n ≡ Some entry
    pub key : key_in s.pairs (key_part entry) ≡ Some p.key
    pub value : value_in s.pairs (value_part entry) ≡ Some p.value
    pub number : p.number ≡ n

  pub pair_entry : (n : ℕ) (p : Stored K V) → pair_of s n ≡ Some p → IsEntry n p
  pair_entry n p h = go (slice_get s.pairs n) refl h
    where
      go : (o : Option (Pair K V)) → slice_get s.pairs n ≡ o → stored_in s.pairs n o ≡ Some p → IsEntry n p
      go None e h = let f : None ≡ Some p = h in absurd cc
      go (Some entry) e h =
          let parts = stored_parts n (key_in s.pairs (key_part entry)) (value_in s.pairs (value_part entry)) p h in
          record { entry = entry; there = e; key = parts.0; value = parts.1; number = parts.2 }

  -- and of one whose entry and parts are known
  pub entry_stored : (n : ℕ) (entry : Pair K V) (k : K) (v : V) → slice_get s.pairs n ≡ Some entry → key_in s.pairs (key_part entry) ≡ Some k
      → value_in s.pairs (value_part entry) ≡ Some v → pair_of s n ≡ Some (record { number = n; key = k; value = v })
  entry_stored n entry k v there key value =
      ap (stored_in s.pairs n) there ∙ ap (λ o. stored_at n o (value_in s.pairs (value_part entry))) key ∙ ap (stored_at n (Some k)) value

  -- the pair of a number has that number
  pub pair_number : (n : ℕ) (p : Stored K V) → pair_of s n ≡ Some p → p.number ≡ n
  pair_number n p h = (pair_entry n p h).number

  -- a pair's number is below the length of the arena
  pub pair_below : (n : ℕ) (p : Stored K V) → pair_of s n ≡ Some p → n < length s.pairs
  pair_below n p h = let e = pair_entry n p h in slice_get_within s.pairs n e.entry e.there

  -- the pair with which the key of another was stored is known, and has that key
  pub key_from-there : (n : ℕ) (p : Stored K V) → pair_of s n ≡ Some p → (first : ℕ) × (key_from n (slice_get s.pairs n) ≡ Some first)
  key_from-there n p h = let e = pair_entry n p h in (brought_by n (key_part e.entry), ap (key_from n) e.there)

  pub key_from-same : (n : ℕ) (p : Stored K V) → pair_of s n ≡ Some p → (first : ℕ) → key_from n (slice_get s.pairs n) ≡ Some first
      → key_in s.pairs (Logged first) ≡ Some p.key
  key_from-same n p h first from =
      let e = pair_entry n p h in
      let is : brought_by n (key_part e.entry)
      ≡ first = (let f : Some (brought_by n (key_part e.entry)) ≡ Some first = sym (ap (key_from n) e.there) ∙ from in cc) in
      ap (λ m. key_in s.pairs (Logged m)) (sym is) ∙ key_known s.pairs n (key_part e.entry) (ap key_brought e.there) ∙ e.key

  -- a pair stays if the arena grows
  pub pair-more : (more : List (Pair K V)) (n : ℕ) (p : Stored K V) → pair_of s n ≡ Some p → pair_of (record s { pairs = s.pairs ++ more }) n ≡ Some p
  pair-more more n p h = entry_more (pair_entry n p h)
    where
      longer : StoreState K V S
      longer = record s { pairs = s.pairs ++ more }

      entry_more : IsEntry n p → pair_of longer n ≡ Some p
      entry_more e =
          ap (stored_in longer.pairs n) (get-append s.pairs more n e.entry e.there)
          ∙ ap (λ o. stored_at n o (value_in longer.pairs (value_part e.entry))) (key-more s.pairs more (key_part e.entry) p.key e.key)
          ∙ ap (stored_at n (Some p.key)) (value-more s.pairs more (value_part e.entry) p.value e.value)
          ∙ ap (λ m. Some (record { number = m; key = p.key; value = p.value })) (sym e.number)

-- a pair was stored in the arena
module _ {K V S A : Type 0} (s : StoreState K V S) (r : Running K V A) (s' : StoreState K V S) (r' : Running K V A) where
  -- the call still has its value
  pub value_logged : (key later : Part K) (a : Answer) (v : V) → own_value s r ≡ Some v → PushesPair key later a s r s' r' → own_value s' r' ≡ Some v
  value_logged key later a v value_is (value, has, is, few, grown, left) =
      let more : List (Pair K V) = pair_with key value ∷ [] in
      let brought : value_brought (slice_get (s.pairs ++ more) (length s.pairs)) ≡ owned value = ap value_brought
      (get-append_last s.pairs (pair_with key value)) ∙ ap owned (value_with key value) in
      ap (λ (y : StoreState K V S). value_at y.pairs r'.value) grown ∙ ap (λ (y : Running K V A). value_at (s.pairs ++ more) y.value) left
      ∙ value_known (s.pairs ++ more) (length s.pairs) value brought ∙ value-more s.pairs more value v (sym (ap (value_at s.pairs) has) ∙ value_is)

  -- The pair of the new number, and the value of the call.
  pub record IsInArena (k : K) (v : V) : Type 0 where
    pub pair : pair_of s' (length s.pairs) ≡ Some (record { number = length s.pairs; key = k; value = v })
    pub value : own_value s' r' ≡ Some v

  pub pair_logged : (key later : Part K) (a : Answer) (k : K) (v : V) → key_in s.pairs key ≡ Some k → own_value s r ≡ Some v
      → PushesPair key later a s r s' r' → IsInArena k v
  pair_logged key later a k v key_is value_is logs = record { pair = stands logs; value = value_logged key later a v value_is logs }
    where
      stands : PushesPair key later a s r s' r' → pair_of s' (length s.pairs) ≡ Some (record { number = length s.pairs; key = k; value = v })
      stands (value, has, is, few, grown, left) =
          let more : List (Pair K V) = pair_with key value ∷ [] in
          let longer : StoreState K V S = record s { pairs = s.pairs ++ more } in
          ap (λ (y : StoreState K V S). pair_of y (length s.pairs)) grown
          ∙ entry_stored longer (length s.pairs) (pair_with key value) k v (get-append_last s.pairs (pair_with key value))
          (ap (key_in longer.pairs) (key_with key value) ∙ key-more s.pairs more key k key_is)
          (ap (value_in longer.pairs) (value_with key value) ∙ value-more s.pairs more value v (sym (ap (value_at s.pairs) has) ∙ value_is))

  -- a call's own key stays its own
  pub own_logged : (a : Answer) (k : K) (v : V) → own_key s r ≡ Some k → own_value s r ≡ Some v → PushesOwn a s r s' r' → IsInArena k v × (own_key s' r' ≡ Some k)
  own_logged a k v key_is value_is logs = (
    pair_logged r.key (Logged (brought_by (length s.pairs) r.key)) a k v key_is value_is logs,
    known logs,
  )
    where
      known : PushesOwn a s r s' r' → own_key s' r' ≡ Some k
      known (value, has, is, few, grown, left) =
          let more : List (Pair K V) = pair_with r.key value ∷ [] in
          let brought : key_brought (slice_get (s.pairs ++ more) (length s.pairs)) ≡ owned r.key = ap key_brought
          (get-append_last s.pairs (pair_with r.key value)) ∙ ap owned (key_with r.key value) in
          ap (λ (y : StoreState K V S). key_in y.pairs r'.key) grown ∙ ap (λ (y : Running K V A). key_in (s.pairs ++ more) y.key) left
          ∙ key_known (s.pairs ++ more) (length s.pairs) r.key brought ∙ key-more s.pairs more r.key k key_is

  -- and so it does if its pair has the key of another
  pub of_logged : (a : Answer) (n : ℕ) (p : Stored K V) (v : V) → pair_of s n ≡ Some p → own_value s r ≡ Some v → PushesOf n a s r s' r'
      → IsInArena p.key v × ((k : K) → own_key s r ≡ Some k → own_key s' r' ≡ Some k)
  of_logged a n p v there value_is (first, from, logs) = (
    pair_logged (Logged first) r.key a p.key v (key_from-same s n p there first from) value_is logs,
    λ k own. kept logs k own,
  )
    where
      kept : PushesPair (Logged first) r.key a s r s' r' → (k : K) → own_key s r ≡ Some k → own_key s' r' ≡ Some k
      kept (value, has, is, few, grown, left) k own =
          ap (λ (y : StoreState K V S). key_in y.pairs r'.key) grown
          ∙ ap (λ (y : Running K V A). key_in (s.pairs ++ pair_with (Logged first) value ∷ []) y.key) left
          ∙ key-more s.pairs (pair_with (Logged first) value ∷ []) r.key k own
