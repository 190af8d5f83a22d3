-- A hint as an untracked word of its book.
use Rattle.std.specs.Prelude.{◌≡◌, ℕ, Bool, true, false, List}
use Rattle.logbook.specs.Pages.{Named}

-- The untracked word with the key and the book of this word.
abbrev pub untracked : Named → Named
untracked w = record { tracked = false; key = w.key; book = w.book }

-- The rule for a hint's number: beside a tracked word it is the book's rule, beside a fresh word it
-- is that the number is 0.
abbrev pub Says : {E : Type 0} → (ℕ → ℕ → List E → Type 0) → Bool → ℕ → ℕ → List E → Type 0
Says beside true key number log = beside key number log
Says beside false key number log = number ≡ 0
