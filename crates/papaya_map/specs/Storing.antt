-- The results of calls that store a value only under a condition.
use Rattle.std.specs.Prelude.{◌≡◌, ◌⊎◌, Bool, true, false, Option, None, Some, Result, Ok, Err, List}
use denote.Bor.{Bor}
use Rattle.papaya_map_book.specs.Logs.{Stored}
use Rattle.papaya_words_keys.specs.declared.results.NotInserted.{NotInserted}
use Rattle.papaya_words_keys.specs.declared.results.NotInserted.TheVariants.{Value, Logged}
use Rattle.papaya_words_keys.specs.declared.results.OccupiedError.{OccupiedError}
use Rattle.papaya_map_lookup.specs.History.{Change, Makes, key_of}
use Rattle.papaya_words.specs.declared.refused.Refused.{Refused}
use Rattle.papaya_map_change.specs.Changes.{IsChangeOf}
use Rattle.papaya_map_change.specs.ClosureCalls.{WasHeld}

-- The value that was passed in, which is returned because it was not stored, or because it was
-- stored in the arena and lost the race.
abbrev pub IsBack : {V : Type 0} → V → NotInserted V → Type 0
IsBack value (Value v) = v ≡ value
IsBack value (Logged r) = r.now ≡ value

-- Whether a call that stores a value only for an absent key stored its value.
abbrev pub stored : {A B : Type 0} → Result (Result A B) Refused → Bool
stored (Ok (Ok v)) = true
stored _ = false

module _ {K V : Type 0} (eq : K → K → Bool) (key : K)
    (old new : List (Change K (Stored K V))) where
  -- The reference is to the value of an entry that the key had in some history between the two.
  abbrev pub IsCurrent : Bor V → Type 0
  IsCurrent v = (p : Stored K V) × WasHeld eq (eq key) old new (Some p) × (v.now ≡ p.value.value)

  -- The call put in an entry with the key that was passed in, because the key had no entry. `gives`
  -- holds of its value.
  abbrev pub IsStored : (V → Type 0) → Bor V → Type 0
  IsStored gives v = (q : Stored K V) × IsChangeOf (eq key) old new None (Some q)
      × (key_of q ≡ key) × gives q.value.value × (v.now ≡ q.value.value)

  -- The call replaced an entry by one with the same stored key. `computes` holds of the old and the
  -- new value.
  abbrev pub IsInPlace : (V → V → Type 0) → Bor V → Type 0
  IsInPlace computes v = (p : Stored K V) × (q : Stored K V)
      × IsChangeOf (eq key) old new (Some p) (Some q) × (key_of q ≡ key_of p)
      × computes p.value.value q.value.value × (v.now ≡ q.value.value)

  -- The call stored the value; or it returns the current value together with the value that was
  -- passed in.
  abbrev pub IsTried : V → Result (Bor V) (OccupiedError V) → Type 0
  IsTried value (Ok v) = IsStored (λ w. w ≡ value) v
  IsTried value (Err e) = IsCurrent e.current × IsBack value e.not_inserted

  -- The call stored a value of which `gives` holds, or it returns the current one.
  abbrev pub IsTriedWith : (V → Type 0) → Result (Bor V) (Bor V) → Type 0
  IsTriedWith gives (Ok v) = IsStored gives v
  IsTriedWith gives (Err current) = IsCurrent current

  -- The reference is to the value that the call stored, or to the current one.
  abbrev pub IsThere : (V → Type 0) → Bor V → Type 0
  IsThere gives v = IsStored gives v ⊎ IsCurrent v

  -- The same by a pass whose changes were `made` and are now `made'`: the pass made one change,
  -- which stored the value, or it made none and the key has a value. If the call is refused, the
  -- pass made no change.
  abbrev pub IsThereBy : (V → Type 0) → (made made' : List (Change K (Stored K V)))
      → Result (Bor V) Refused → Type 0
  IsThereBy gives made made' (Ok v) = (IsStored gives v × Makes true made made' new)
      ⊎ (IsCurrent v × Makes false made made' new)
  IsThereBy gives made made' (Err refused) = Makes false made made' new

  -- The call replaced the key's value by one that was computed from it, or the key had no entry.
  abbrev pub IsUpdated : (V → V → Type 0) → Option (Bor V) → Type 0
  IsUpdated computes None = WasHeld eq (eq key) old new None
  IsUpdated computes (Some v) = IsInPlace computes v

  -- The call replaced the key's value by one that was computed from it, or it stored a value.
  abbrev pub IsUpserted : (V → V → Type 0) → (V → Type 0) → Bor V → Type 0
  IsUpserted computes gives v = IsInPlace computes v ⊎ IsStored gives v
