-- The facts that finders learn about items, by the histories that they have observed.
use Rattle.std.specs.Prelude.{◌≡◌, ◌==◌, ℕ, Bool, Option, None, List, [], ◌∷◌, ◌++◌, Ok, is_none, is_some}
use Rattle.std.specs.Borrow.{Bor}
use mathlib.Core.List.{IsPrefix}
use Rattle.papaya.specs.Threads.{Change, IsPut, IsRemoved, Stored}

-- The history of a set of items.
abbrev pub Seen : Type 0
Seen = List (Change ℕ (Stored ℕ (Unit {0})))

-- The last observed change put the item in. The item is new if that change took none out.
abbrev pub IsMet : (item : ℕ) → Seen → Seen → Bool → Type 0
IsMet item old new is_new = (taken : Option (Bor (Unit {0}))) × (is_new ≡ is_none taken)
    × IsPut (λ a b. a == b) item tt old new taken

-- The last observed change took the item out, or in some history between the two the item was
-- absent.
abbrev pub IsForgotten : (item : ℕ) → Seen → Seen → Bool → Type 0
IsForgotten item old new was_there = (taken : Option (Bor (Unit {0}))) × (was_there ≡ is_some taken)
    × IsRemoved (λ a b. a == b) (λ key. item == key) old new (Ok taken)

-- A change between the two histories took the item out, and put none in.
pub record WasForgotten (item : ℕ) (old new : Seen) : Type 0 where
  pub before : Seen
  pub change : Change ℕ (Stored ℕ (Unit {0}))
  pub since : IsPrefix old before
  pub until : IsPrefix (before ++ change ∷ []) new
  pub of_item : change.class ≡ item
  pub is : change.put ≡ None
