-- The effect of a changing call on the history of the shared map.
use Rattle.std.specs.Prelude.{◌≡◌, Bool, true, MatchOption, Option, None, Some, List, [], ◌∷◌, ◌++◌}
use mathlib.Core.List.{IsPrefix}
use denote.Bor.{Bor}
use Rattle.papaya_map_lookup.specs.History.{Change, key_of}
use Rattle.papaya_map_book.specs.Logs.{Stored}

-- The key of an entry that is put in: that of the entry that it replaces, or the call's own key if
-- it replaces none.
abbrev pub key_kept : {K V : Type 0} → Option (Stored K V) → K → K
key_kept None key = key
key_kept (Some p) key = key_of p

-- The insertion's change is the last of the history `new`. It put in `value`, with the stored key
-- if an equal key had an entry, and with `key` if none had. `answer` is the value of the entry that
-- it took out, if any.
pub record IsPut {K V : Type 0} (eq : K → K → Bool) (key : K) (value : V)
    (old new : List (Change K (Stored K V))) (answer : Option (Bor V)) : Type 0 where
  pub before : List (Change K (Stored K V))
  pub change : Change K (Stored K V)
  pub since : IsPrefix old before
  pub is : new ≡ before ++ change ∷ []
  pub class_is : eq change.class key ≡ true
  pub put_is : (q : Stored K V) × (change.put ≡ Some q) × (key_of q ≡ key_kept change.taken key)
      × (q.value.value ≡ value)
  pub taken_is : MatchOption answer (change.taken ≡ None)
      (λ r. (p : Stored K V) × (change.taken ≡ Some p) × (r.now ≡ p.value.value))

-- The call's change is the last of the history `new`. In the class of a key that matches, it took
-- out `taken` and put in `put`. If it did both, the stored key stays.
pub record IsChangeOf {K V : Type 0} (matches : K → Bool) (old new : List (Change K (Stored K V)))
    (taken put : Option (Stored K V)) : Type 0 where
  pub before : List (Change K (Stored K V))
  pub change : Change K (Stored K V)
  pub since : IsPrefix old before
  pub is : new ≡ before ++ change ∷ []
  pub class_is : matches change.class ≡ true
  pub taken_is : change.taken ≡ taken
  pub put_is : change.put ≡ put
  pub kept : (p q : Stored K V) → taken ≡ Some p → put ≡ Some q → key_of q ≡ key_of p
