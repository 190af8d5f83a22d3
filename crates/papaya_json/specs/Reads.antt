-- Maps and sets that are filled with what a caller's functions read from a list of items.
use Rattle.std.specs.Prelude.{◌≡◌, Bool, ◌⊎◌, List, ◌∷◌, ◌++◌}
use Rattle.std.specs.List.{AllZip}
use Rattle.papaya_words.specs.declared.refused.Refused.{Refused}
use Rattle.papaya_words.specs.declared.refused.Refused.TheVariants.{Item, Memory}
use Rattle.papaya_seq.specs.Entries.{HasJust, IsCutNew}
use Rattle.papaya_seq.specs.Map.{MapState}

-- Each item before some item was read, and `so` holds of what was read from these and of that item.
pub record StopsAt {A B : Type 0} (reads : A → B → Type 0) (items : List A)
    (so : List B → A → Type 0) : Type 0 where
  pub before : List A
  pub item : A
  pub after : List A
  pub whole : items ≡ before ++ item ∷ after
  pub done : List B
  pub each : AllZip reads before done
  pub stop : so done item

-- Each item was read, and the map has exactly the entries that `shows` gives for what was read.
pub record IsRead {K V S A B : Type 0} (eq : K → K → Bool) (reads : A → B → Type 0)
    (shows : B → K × V) (items : List A) (s : MapState K V S) : Type 0 where
  pub done : List B
  pub each : AllZip reads items done
  pub just : HasJust eq shows done s

-- Why no map is made of the items: memory ran out, an item could not be read, or the insertion of
-- what was read from an item was refused.
abbrev pub IsReadRefusal : {K V A B : Type 0} → (S : Type 0) → (K → K → Bool)
    → (A → B → Type 0) → (A → Type 0) → (B → K × V) → Refused → List A → Type 0
IsReadRefusal {B = B} S eq reads unread shows refused items = (refused ≡ Memory)
    ⊎ StopsAt reads items (λ done item. ((refused ≡ Item) × unread item)
    ⊎ ((it : B) × reads item it × IsCutNew S eq shows done it refused))
