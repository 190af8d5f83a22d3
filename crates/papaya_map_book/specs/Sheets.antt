-- A table as contracts see it.
use Rattle.std.specs.Prelude.{◌≡◌, ◌+◌, ◌*◌, ◌/◌, ◌%◌, ◌<◌, ℕ, false, true, Some, List, [], ◌∷◌, length, slice_get, slice_index_or}
use base.Stored.{Coded, coded×, coded_ℕ, coded_list, coded_via}
use Rattle.logbook.specs.Pages.{Book, book_coded, Named}

-- The book to which the table's words belong, its probe limit, and the keys of its words. The key
-- of its word `aborted` is the table's seal.
pub record Sheet : Type 0 where
  pub book : Book
  pub limit : ℕ
  pub next : ℕ
  pub seal : ℕ
  pub done : List ℕ
  pub slots : List ℕ

abbrev pub sheet_coded : Coded Sheet
sheet_coded = coded_via (coded× book_coded (coded× coded_ℕ
    (coded× coded_ℕ (coded× coded_ℕ (coded× (coded_list coded_ℕ) (coded_list coded_ℕ))))))
    (λ (s : Sheet). (s.book, (s.limit, (s.next, (s.seal, (s.done, s.slots))))))
    (λ x y e i. record {
      book = (e i).0;
      limit = (e i).1.0;
      next = (e i).1.1.0;
      seal = (e i).1.1.1.0;
      done = (e i).1.1.1.1.0;
      slots = (e i).1.1.1.1.1;
    })

-- The word of this key.
abbrev pub word_named : Book → ℕ → Named
word_named b k = record { tracked = true; key = k; book = b }

-- The words belong to the book.
abbrev pub AllOf : Book → List Named → Type 0
AllOf b [] = Unit {0}
AllOf b (w ∷ ws) = (w ≡ word_named b w.key) × AllOf b ws

-- No book tracks these words yet: they are of slots that no table has.
abbrev pub AreFresh : List Named → Type 0
AreFresh ws = (place : ℕ) (d : Named) → place < length ws
    → (slice_index_or ws place d).tracked ≡ false

-- `w` is the word beside the number that has the hint of slot `x`. It is the word of the first of
-- the eight slots whose hints are in that number; the keys of these eight words are consecutive.
abbrev pub HoldsHint : Book → (slots : List ℕ) → (x : ℕ) → Named → Type 0
HoldsHint b slots x w = (w ≡ word_named b w.key) × (slice_get slots x ≡ Some (w.key + x % 8))

-- These words are beside the numbers with the hints of the slots, eight hints in each.
abbrev pub HoldHints : Book → (slots : List ℕ) → List Named → Type 0
HoldHints b slots ws = (x : ℕ) (d : Named) → x < length slots
    → (x / 8 < length ws) × HoldsHint b slots x (slice_index_or ws (x / 8) d)

-- Each number with hints is beside the first of its eight words.
abbrev pub AreBeside : (slots hints : List Named) → Type 0
AreBeside slots hints = (j : ℕ) (d : Named) → 8 * j < length slots → (j < length hints)
    × (slice_index_or hints j d ≡ slice_index_or slots (8 * j) (slice_index_or hints j d))
