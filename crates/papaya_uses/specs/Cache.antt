-- The contents of a cache of two generations, and how much it stores.
use Rattle.std.specs.Prelude.{◌≡◌, ◌⊎◌, ◌==◌, ◌+◌, ℕ, List, Option, None, Some, String, length, option_map, string_bytes}
use Rattle.std.specs.declared.alloc.Global.{Global}
use Rattle.std.specs.declared.hash.FoldHasher.{FoldHasher}
use Rattle.std.specs.declared.hash.BuildHasherDefault.{BuildHasherDefault}
use Rattle.papaya.specs.Seq.{MapState, map_in, value_of}

-- The texts of pages, by page number.
abbrev pub Texts : Type 0
Texts = MapState ℕ (String Global) (BuildHasherDefault FoldHasher)

-- The two generations, and how many pages each may store.
pub record Generations : Type 0 where
  pub young : Texts
  pub elder : Texts
  pub limit : ℕ

-- The bytes of the text that a generation has for a page, if any.
abbrev pub text_in : Texts → ℕ → Option (List ℕ)
text_in texts page = option_map string_bytes (value_of (map_in (λ a b. a == b) texts.store page))

-- The value of the first option if it has one, else that of the second.
abbrev pub first_of : {A : Type 0} → Option A → Option A → Option A
first_of None second = second
first_of (Some a) second = Some a

-- The text of a page: that in the young generation if there is one, else that in the elder one.
abbrev pub text_of : Generations → ℕ → Option (List ℕ)
text_of cache page = first_of (text_in cache.young page) (text_in cache.elder page)

-- The page has the same text as before, or it was dropped: the young generation had stored as many
-- pages as it may, including those that were replaced, and had no text for this page.
abbrev pub StaysOrGoes : Generations → Generations → ℕ → Type 0
StaysOrGoes old new page = (text_of new page ≡ text_of old page)
    ⊎ ((length old.young.store.pairs ≡ old.limit) × (text_in old.young page ≡ None) × (text_of new page ≡ None))

-- How many pages are stored, including those that were replaced.
abbrev pub stored_in : Generations → ℕ
stored_in cache = length cache.young.store.pairs + length cache.elder.store.pairs
