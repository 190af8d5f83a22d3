-- What a step has to keep, if it pays with the gate, and if it does not.
use Rattle.std.specs.Prelude.{◌≡◌, ℕ, ◌<◌, Bool, true, Option, List, ◌++◌, length, filter, slice_set}
use mathlib.Core.List.{IsPrefix}
use Rattle.logbook.specs.Pages.{Cell, cell, Runs}

module _ {E A : Type 0} (tracks : E → Bool) where
  -- The update moves what clients see, and leaves its tracked entries as they are.
  abbrev pub Leaves : (List E → List E → A → Type 0) → List E → List E → A → Type 0
  Leaves moves before after answer = moves before after answer × (filter tracks after ≡ filter tracks before)

  module _ (holds : List Cell → List E → Type 0) (shows : List E → List E) (moves : List E → List E → A → Type 0)
      (k : ℕ) (seen : List E) (state : Option A) (f : ℕ → ℕ) (then : (found : ℕ) → (added after : List E) → Option A → Type 0) where
    -- The step adds entries and keeps the rule. In the same step the update runs, or stays. The new tracked entries that
    -- clients see are `added`.
    abbrev pub GoesPaid : List Cell → List E → Type 0
    GoesPaid cells log = (more : List E) × (added : List E) × (state' : Option A)
        × holds (slice_set cells k (f (cell cells k).0, true)) (log ++ more)
        × (filter tracks (shows (log ++ more)) ≡ filter tracks (shows log) ++ added)
        × Runs moves state state' (shows log) (shows (log ++ more))
        × then (cell cells k).0 added (log ++ more) state'

    -- Whatever the book is when the word k becomes f of what it was, the word is at home and the step goes so.
    abbrev pub MovesPaid : Type 0
    MovesPaid = (cells : List Cell) (log : List E) → holds cells log → IsPrefix seen log
        → (k < length cells) × ((cell cells k).1 ≡ true) × GoesPaid cells log
