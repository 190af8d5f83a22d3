-- JSON arrays made of the keys of sets, and sets made of the items of arrays.
use Rattle.std.specs.Prelude.{◌≡◌, ◌≢◌, Bool, ◌⊎◌, List, Option, Some, None, Vec}
use Rattle.std.specs.declared.alloc.Global.{Global}
use Rattle.std.specs.List.{AllZip, Any}
use Rattle.serde_json.specs.declared.value.Value.{Value, Array}
use Rattle.papaya_words.specs.declared.refused.Refused.{Refused}
use Rattle.papaya_words.specs.declared.refused.Refused.TheVariants.{Item, Memory, Shape}
use Rattle.papaya_seq.specs.Map.{MapState}
use Rattle.papaya_set.specs.Sets.{entry_of_key}
use Rattle.papaya_json.specs.Reads.{IsRead, IsReadRefusal}

-- The value is an array, and `so` holds of its items.
abbrev pub IsArrayWith : Value → (List Value → Type 0) → Type 0
IsArrayWith v so = (array : Vec Value Global) × (v ≡ Array array) × so array.items

-- The value is not an array and is refused with `Shape`; or it is one, and `why` holds of the
-- refusal and the items.
abbrev pub IsNoArrayOr : Value → (Refused → List Value → Type 0) → Refused → Type 0
IsNoArrayOr v why refused = ((refused ≡ Shape) × ((array : Vec Value Global) → v ≢ Array array))
    ⊎ IsArrayWith v (why refused)

-- Writing: `data_of` relates a key to what the caller's function may return for it.
module _ {K : Type 0} (data_of : K → Option Value → Type 0) where
  -- The value is an array of the items that the function returned for the keys, in their order.
  abbrev pub IsArray : List K → Value → Type 0
  IsArray keys v = IsArrayWith v (AllZip (λ k item. data_of k (Some item)) keys)

  -- The function returned `None` for this key.
  abbrev pub HasNoItem : K → Type 0
  HasNoItem k = data_of k None

  -- Why no array is made of these keys: memory ran out, or the function returned `None` for a key.
  abbrev pub IsListRefusal : List K → Refused → Type 0
  IsListRefusal keys refused = (refused ≡ Memory)
      ⊎ ((refused ≡ Item) × Any HasNoItem keys)

-- Reading: `key_of` relates an item to what the caller's function may return for it.
module _ {K : Type 0} (key_of : Value → Option K → Type 0) where
  -- The function returned this key for the item.
  abbrev pub IsKey : Value → K → Type 0
  IsKey item k = key_of item (Some k)

  -- The function returned `None` for the item.
  abbrev pub HasNoKey : Value → Type 0
  HasNoKey item = key_of item None

  -- The value is an array, and the set has exactly the keys of its items, inserted in their order.
  abbrev pub IsSetOf : {S : Type 0} → (K → K → Bool) → Value → MapState K (Unit {0}) S → Type 0
  IsSetOf eq v s = IsArrayWith v (λ items. IsRead eq IsKey entry_of_key items s)

  -- Why no set is made: the value is not an array, or it is one and cannot be read into a set.
  abbrev pub IsSetRefusal : (S : Type 0) → (K → K → Bool) → Value → Refused → Type 0
  IsSetRefusal S eq v refused = IsNoArrayOr v (IsReadRefusal S eq IsKey HasNoKey entry_of_key)
      refused
