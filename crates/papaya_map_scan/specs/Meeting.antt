-- The entries that are met in the slots of a table.
use Rattle.std.specs.Prelude.{◌≡◌, ℕ, Bool, true, false, Option, Some, List}
use mathlib.Core.List.{IsPrefix}
use Rattle.logbook.specs.Pages.{Book}
use Rattle.papaya_words.specs.Word.{kind_of}
use Rattle.papaya_words.specs.declared.word.Kind.{Kind}
use Rattle.papaya_words.specs.declared.word.Kind.TheVariants.{Live, Marked, Copied}
use Rattle.papaya_map_book.specs.declared.rule.entry.Begun.{Begun}
use Rattle.papaya_map_book.specs.declared.rule.entry.Event.{Event}
use Rattle.papaya_map_book.specs.Logs.{Stored, pair_named}
use Rattle.papaya_map_book.specs.Rule.{IsPlaced}
use Rattle.papaya_map_lookup.specs.History.{Change, history_of, key_of, replay}

-- A word of this kind names an entry that the map has, or had until the slot was copied.
abbrev pub has_pair : Kind → Bool
has_pair Live = true
has_pair Marked = true
has_pair Copied = true
has_pair _ = false

-- The map had this entry in some history between the two.
pub record HadPair {K V : Type 0} (eq : K → K → Bool) (old new : List (Change K (Stored K V)))
    (p : Stored K V) : Type 0 where
  pub seen : List (Change K (Stored K V))
  pub since : IsPrefix old seen
  pub until : IsPrefix seen new
  pub is : replay eq seen (key_of p) ≡ Some p

-- The pair that a loaded word names, if any, is stored in the arena. If the word is `Live`,
-- `Marked` or `Copied`, it names a pair, which the map had at some point between the two logs.
pub record IsMet {K V S : Type 0} (eq : K → K → Bool) (b : Begun K V S) (name : Book)
    (old log : List (Event K V S)) (word : ℕ) (pair : Option (Stored K V)) : Type 0 where
  pub placed : IsPlaced b (Some name) (pair_named pair)
  pub had : has_pair (kind_of word) ≡ true
      → (p : Stored K V) × (pair ≡ Some p) × HadPair eq (history_of old) (history_of log) p
