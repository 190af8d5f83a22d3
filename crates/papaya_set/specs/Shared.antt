-- The results of calls on the shared set, by histories of the map of its keys to unit values.
use Rattle.std.specs.Prelude.{◌≡◌, Bool, false, List, Option, Result, Ok, Err, is_none, is_some, option_map}
use Rattle.std.specs.Borrow.{Bor}
use Rattle.std.specs.Fn.{Called, Mut}
use Rattle.papaya_map_book.specs.Logs.{Stored}
use Rattle.papaya_words.specs.declared.refused.Refused.{Refused}
use Rattle.papaya_map_change.specs.Changes.{IsPut}
use Rattle.papaya_map_change.specs.RemovalAnswers.{IsRemoved}
use Rattle.papaya_map_lookup.specs.Answers.{IsPairAnsweredBetween}
use Rattle.papaya_map_lookup.specs.History.{Change, key_of}
use Rattle.papaya_map.specs.Plain as map

module _ {K : Type 0} (eq : K → K → Bool) where
  -- In some history between the two, the result is whether a key that matches was in the set.
  abbrev pub IsContainedBetween : (K → Bool) → (old new : List (Change K (Stored K (Unit {0}))))
      → Bool → Type 0
  IsContainedBetween = map.IsContained eq

  -- In some history between the two, the result refers to the stored key that matches, or is `None`
  -- if no key matches.
  abbrev pub IsKeyFoundBetween : (K → Bool) → (old new : List (Change K (Stored K (Unit {0}))))
      → Option (Bor K) → Type 0
  IsKeyFoundBetween matches old new answer = (found : Option (Bor K × Bor (Unit {0})))
      × (answer ≡ option_map (λ entry. entry.0) found)
      × IsPairAnsweredBetween eq matches old new found

  -- The last change of the history put the key in. The key is new if no equal key was in the set;
  -- otherwise the stored key stays.
  abbrev pub IsInsertedBetween : K → (old new : List (Change K (Stored K (Unit {0})))) → Bool → Type 0
  IsInsertedBetween key old new is_new = (taken : Option (Bor (Unit {0})))
      × (is_new ≡ is_none taken) × IsPut eq key tt old new taken

  -- The last change of the history took out a key that matches, or in some history between the two
  -- there was none.
  abbrev pub IsRemovedKeyBetween : (K → Bool) → (old new : List (Change K (Stored K (Unit {0}))))
      → Bool → Type 0
  IsRemovedKeyBetween matches old new was = (taken : Option (Bor (Unit {0})))
      × (was ≡ is_some taken) × IsRemoved eq matches old new (Ok taken)

-- Whether a removal took a key out.
abbrev pub was_taken : Result Bool Refused → Bool
was_taken (Ok was) = was
was_taken (Err refused) = false

-- The closure `f` is called with the entry's key, returns `agrees`, and is `g` afterwards.
abbrev pub JudgesKey : {F K : Type 0} → Mut F (Bor K × Unit {0}) Bool → F → Stored K (Unit {0})
    → Bool → F → Type 0
JudgesKey {K = K} called f p agrees g = (key : Bor K) × (key.now ≡ key_of p)
    × Called called f (key, tt) agrees g
