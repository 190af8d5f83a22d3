-- Stored pairs, finite maps, and what each call on one key replies and changes.
use Rattle.std.specs.Prelude.{◌≡◌, ℕ, Bool, true, false, Option, None, Some}
use Rattle.papaya_call.specs.declared.call.Call.{Call}
use Rattle.papaya_call.specs.declared.call.Call.TheVariants.{Get, Insert, TryInsert, RemoveIf, Compute, Reserve, CopyAll, Clear, Retain, Walk}
use Rattle.papaya_call.specs.declared.call.Reply.{Reply}
use Rattle.papaya_call.specs.declared.call.Reply.TheVariants.{Absent, Found, Inserted, Replaced, Occupied, Removed, Kept, Aborted, Refused}
use Rattle.papaya_words.specs.declared.refused.Refused.TheVariants.{RemoveNothing}
use Rattle.papaya_core_store.specs.Store.{Stored}

-- a map gives to each class of equal keys one stored pair, or none
abbrev pub Map : (K V : Type 0) → Type 0
Map K V = K → Option (Stored K V)

-- the key of a call, where it has one: a call that resizes the map or scans a table has none
abbrev pub key_of : {K V A : Type 0} → Call K V A → Option K
key_of (Get k) = Some k
key_of (Insert k v) = Some k
key_of (TryInsert k v) = Some k
key_of (RemoveIf k a) = Some k
key_of (Compute k a) = Some k
key_of (Reserve more) = None
key_of CopyAll = None
key_of Clear = None
key_of (Retain a) = None
key_of Walk = None

-- what the class of this key has, None if there is no key
abbrev pub at_key : {K V : Type 0} → Map K V → Option K → Option (Stored K V)
at_key m None = None
at_key m (Some k) = m k

module _ {K V : Type 0} where
  -- q is a pair of number n with the key k and the value v
  pub record IsMadeOf (k : K) (v : V) (n : ℕ) (q : Stored K V) : Type 0 where
    pub number : q.number ≡ n
    pub key : q.key ≡ k
    pub value : q.value ≡ v

  -- the same with some value, which the call's closure returned
  abbrev pub IsMadeWith : K → ℕ → Stored K V → Type 0
  IsMadeWith k n q = (v : V) × IsMadeOf k v n q

module _ {K V A : Type 0} where
  -- What a call on one key does if the class of its key has a pair, or none: its reply, and the
  -- pair `next` that the class has afterwards. A pair that replaces another one has the key of that
  -- one; only a pair that replaces none has the key that was passed to the call.
  abbrev pub Does : Call K V A → Option (Stored K V) → Reply → Option (Stored K V) → Type 0
  Does (Get k) None Absent next = next ≡ None
  Does (Get k) (Some p) (Found n) next = (p.number ≡ n) × (next ≡ Some p)
  Does (Insert k v) None (Inserted n) next = (q : Stored K V) × IsMadeOf k v n q × (next ≡ Some q)
  Does (Insert k v) (Some p) (Replaced m n) next = (p.number ≡ m)
      × ((q : Stored K V) × IsMadeOf p.key v n q × (next ≡ Some q))
  Does (TryInsert k v) None (Inserted n) next = (q : Stored K V) × IsMadeOf k v n q
      × (next ≡ Some q)
  Does (TryInsert k v) (Some p) (Occupied n) next = (p.number ≡ n) × (next ≡ Some p)
  Does (RemoveIf k a) None Absent next = next ≡ None
  Does (RemoveIf k a) (Some p) (Kept n) next = (p.number ≡ n) × (next ≡ Some p)
  Does (RemoveIf k a) (Some p) (Removed n) next = (p.number ≡ n) × (next ≡ None)
  Does (Compute k a) None (Inserted n) next = (q : Stored K V) × IsMadeWith k n q × (next ≡ Some q)
  Does (Compute k a) None (Aborted t) next = next ≡ None
  Does (Compute k a) None (Refused RemoveNothing) next = next ≡ None
  Does (Compute k a) (Some p) (Replaced m n) next = (p.number ≡ m)
      × ((q : Stored K V) × IsMadeWith p.key n q × (next ≡ Some q))
  Does (Compute k a) (Some p) (Removed n) next = (p.number ≡ n) × (next ≡ None)
  Does (Compute k a) (Some p) (Aborted t) next = next ≡ Some p
  Does _ _ _ _ = ⊥

-- two maps have the same pair, or none, at each key
abbrev pub Same : {K V : Type 0} → Map K V → Map K V → Type 0
Same {K = K} m m' = (j : K) → m' j ≡ m j

-- the class of k goes from `old` in m to `new` in m', and every other class has in m' what it has
-- in m
pub record IsUpdate {K V : Type 0} (eq : K → K → Bool) (k : K) (old new : Option (Stored K V))
    (m m' : Map K V) : Type 0 where
  pub before : m k ≡ old
  pub class : (j : K) → eq j k ≡ true → m' j ≡ new
  pub others : (j : K) → eq j k ≡ false → m' j ≡ m j

-- the same for the class of a call's key, which the call must have
abbrev pub IsUpdateBy : {K V : Type 0} → (K → K → Bool) → Option K → (old new : Option (Stored K V))
    → (m m' : Map K V) → Type 0
IsUpdateBy eq None old new m m' = ⊥
IsUpdateBy eq (Some k) old new m m' = IsUpdate eq k old new m m'
