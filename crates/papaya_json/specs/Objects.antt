-- JSON objects made of the entries of maps, and maps made of the members of objects.
use Rattle.std.specs.Prelude.{◌≡◌, ◌≢◌, ℕ, Bool, ◌<◌, ◌⊎◌, List, length, map, Option, Some, None, String, string_bytes, fold}
use Rattle.std.specs.declared.alloc.Global.{Global}
use Rattle.std.specs.BTreeMap.{BTreeMap}
use Rattle.std.specs.List.{AllZip, Any}
use Rattle.serde_json.specs.Data.{Data, Members, no_members, object, put}
use Rattle.serde_json.specs.Events.{members_len}
use Rattle.serde_json.specs.View.{view}
use Rattle.serde_json.specs.declared.value.Value.{Value, Object}
use Rattle.papaya_words.specs.declared.refused.Refused.{Refused}
use Rattle.papaya_words.specs.declared.refused.Refused.TheVariants.{Item, KeyClash, Memory, Shape}
use Rattle.papaya_core_store.specs.Store.{StoreState}
use Rattle.papaya_core_timeline.specs.Content.{content}
use Rattle.papaya_seq.specs.Map.{MapState, entry_of}
use Rattle.papaya_json.specs.Reads.{IsRead, IsReadRefusal}

-- The entries of a map as key-value pairs, in the order of iteration.
abbrev pub pairs_of : {K V S : Type 0} → (K → K → Bool) → StoreState K V S → List (K × V)
pairs_of eq store = map entry_of (content eq store)

-- A member of an object: the bytes of its text, and its data.
abbrev pub Member : Type 0
Member = List ℕ × Data

-- The object of these members, inserted one after the other: a later member replaces an earlier one
-- with the same text.
abbrev pub object_of : List Member → Members
object_of ms = fold (λ o m. put m.0 m.1 o) no_members ms

-- Writing: `text_of` and `data_of` relate a key and a value to what the caller's two functions may
-- return for them.
module _ {K V : Type 0} (text_of : K → Option (String Global) → Type 0)
    (data_of : V → Option Value → Type 0) where
  -- The functions returned the text and the value of this member for this pair.
  pub record IsMember (pair : K × V) (m : Member) : Type 0 where
    pub text : String Global
    pub value : Value
    pub text_is : text_of pair.0 (Some text)
    pub value_is : data_of pair.1 (Some value)
    pub bytes : string_bytes text ≡ m.0
    pub shown : view value ≡ m.1

  -- One of the functions returned `None` for this pair.
  abbrev pub HasNoMember : K × V → Type 0
  HasNoMember pair = text_of pair.0 None ⊎ data_of pair.1 None

  -- All pairs have members, whose texts differ, and the value is the object of these members.
  pub record IsObject (pairs : List (K × V)) (v : Value) : Type 0 where
    pub members : List Member
    pub each : AllZip IsMember pairs members
    pub value : view v ≡ object (object_of members)
    pub apart : members_len (object_of members) ≡ length pairs

  -- All pairs have members, and two of these have the same text.
  pub record HasClash (pairs : List (K × V)) : Type 0 where
    pub members : List Member
    pub each : AllZip IsMember pairs members
    pub fewer : members_len (object_of members) < length pairs

  -- Why no object is made of these pairs: memory ran out, two members have the same text, or a
  -- function returned `None` for a pair. `KeyClash` is returned only if all pairs have members.
  abbrev pub IsWriteRefusal : List (K × V) → Refused → Type 0
  IsWriteRefusal pairs refused = (refused ≡ Memory)
      ⊎ (((refused ≡ KeyClash) × HasClash pairs)
      ⊎ ((refused ≡ Item) × Any HasNoMember pairs))

-- A member of an object, as it is read.
abbrev pub Entry : Type 0
Entry = String Global × Value

-- The value is an object, and `so` holds of its members, in the order of their texts.
abbrev pub IsObjectWith : Value → (List Entry → Type 0) → Type 0
IsObjectWith v so = (object : BTreeMap (String Global) Value) × (v ≡ Object object)
    × so object.entries

-- The value is not an object and is refused with `Shape`; or it is one, and `why` holds of the
-- refusal and the members.
abbrev pub IsNoObjectOr : Value → (Refused → List Entry → Type 0) → Refused → Type 0
IsNoObjectOr v why refused = ((refused ≡ Shape)
    × ((object : BTreeMap (String Global) Value) → v ≢ Object object))
    ⊎ IsObjectWith v (why refused)

-- Reading: `key_of` and `value_of` relate a text and a value to what the caller's two functions may
-- return for them.
module _ {K V : Type 0} (key_of : List ℕ → Option K → Type 0)
    (value_of : Value → Option V → Type 0) where
  -- The functions returned the key and the value of this pair for this member.
  abbrev pub IsPair : Entry → K × V → Type 0
  IsPair m pair = key_of (string_bytes m.0) (Some pair.0) × value_of m.1 (Some pair.1)

  -- One of the functions returned `None` for this member.
  abbrev pub HasNoPair : Entry → Type 0
  HasNoPair m = key_of (string_bytes m.0) None ⊎ value_of m.1 None

  -- The value is an object, and the map has exactly the pairs of its members, inserted in their
  -- order.
  abbrev pub IsMapOf : {S : Type 0} → (K → K → Bool) → Value → MapState K V S → Type 0
  IsMapOf eq v s = IsObjectWith v (λ entries. IsRead eq IsPair (λ p. p) entries s)

  -- Why no map is made: the value is not an object, or it is one and cannot be read into a map.
  abbrev pub IsMapRefusal : (S : Type 0) → (K → K → Bool) → Value → Refused → Type 0
  IsMapRefusal S eq v refused = IsNoObjectOr v (IsReadRefusal S eq IsPair HasNoPair (λ p. p)) refused
