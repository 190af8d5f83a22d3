-- The JSON of shared maps and sets, by what was stored.
use Rattle.std.specs.Prelude.{◌≡◌, ◌⊎◌, List}
use Rattle.std.specs.List.{All, AllZip, Any}
use Rattle.papaya_words.specs.declared.refused.Refused.{Refused}
use Rattle.papaya_words.specs.declared.refused.Refused.TheVariants.{Capacity, Item}
use Rattle.papaya_seq.specs.Map.{IsMakeRefusal}

-- Each of the items was read, and `stored` holds of what was read.
abbrev pub IsEachStored : {A B : Type 0} → (A → B → Type 0) → (List B → Type 0) → List A → Type 0
IsEachStored {B = B} reads stored items = (done : List B) × AllZip reads items done × stored done

-- Why nothing was made of the items: memory or room ran out, or one of the items could not be read.
abbrev pub IsUnread : {A : Type 0} → (A → Type 0) → Refused → List A → Type 0
IsUnread unread refused items = IsMakeRefusal refused ⊎ ((refused ≡ Item) × Any unread items)

-- Why nothing is written of what an iteration returns: the iteration is refused with `Capacity`, or
-- `why` holds for some list of items.
abbrev pub IsUnwritten : {A : Type 0} → (List A → Refused → Type 0) → Refused → Type 0
IsUnwritten {A = A} why refused = (refused ≡ Capacity) ⊎ ((items : List A) × why items refused)

-- The same for a session's map: `why` holds for some list of items, and `had` of each of them.
abbrev pub IsUnwrittenOf : {A : Type 0} → (had : A → Type 0) → (why : List A → Refused → Type 0)
    → Refused → Type 0
IsUnwrittenOf {A = A} had why refused = (refused ≡ Capacity)
    ⊎ ((items : List A) × All had items × why items refused)
