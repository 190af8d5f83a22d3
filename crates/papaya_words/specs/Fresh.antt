-- Words that are written ahead of their table.
use Rattle.std.specs.Prelude.{◌≡◌, List, length, replicate}

-- each item of the list is `item`
abbrev pub AreAll : {A : Type 0} → A → List A → Type 0
AreAll item items = items ≡ replicate (length items) item
