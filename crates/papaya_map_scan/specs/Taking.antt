-- How a call takes a table to scan, and what it did with the entries that the table's slots held at
-- that point.
use Rattle.std.specs.Prelude.{◌≡◌, ◌⊎◌, ℕ, ◌<◌, Bool, true, false, List, [], ◌∷◌, ◌++◌}
use mathlib.Core.List.{IsPrefix}
use Rattle.papaya_words_law.specs.Exchange.{Word, Bury, Live, Marked}
use Rattle.papaya_call_law.specs.ScanAnswers.{IsLastAnswer}
use Rattle.papaya_map_book.specs.declared.rule.entry.Begun.{Begun}
use Rattle.papaya_map_book.specs.declared.rule.entry.Event.{Event}
use Rattle.papaya_map_book.specs.declared.rule.entry.Event.TheVariants.{Stepped}
use Rattle.papaya_map_book.specs.declared.rule.entry.Step.{Step}
use Rattle.papaya_map_book.specs.Logs.{Stored, exchange_of, is_blocking, state_of}
use Rattle.papaya_map_lookup.specs.History.{history_of}
use Rattle.papaya_map_change.specs.ClosureCalls.{IsSamePair}
use Rattle.papaya_map_scan.specs.Leaving.{WasTakenOut}

-- At `at`, a point between the two logs, the table was the root and, unless resizes block, had no
-- next table.
pub record IsTakenAt {K V S : Type 0} (b : Begun K V S) (old log : List (Event K V S)) (t : ℕ)
    (at : List (Event K V S)) : Type 0 where
  pub since : IsPrefix old at
  pub until : IsPrefix at log
  pub root : (state_of at).root ≡ t
  pub some : 0 < t
  pub last : is_blocking b.mode ≡ false → (state_of at).next t ≡ 0

-- The table was so at some point between the two logs.
pub record IsTaken {K V S : Type 0} (b : Begun K V S) (old log : List (Event K V S))
    (t : ℕ) : Type 0 where
  pub at : List (Event K V S)
  pub since : IsPrefix old at
  pub until : IsPrefix at log
  pub root : (state_of at).root ≡ t
  pub some : 0 < t
  pub last : is_blocking b.mode ≡ false → (state_of at).next t ≡ 0

-- A slot with this word holds this entry for the map.
abbrev pub Holds : {P : Type 0} → Word P → P → Type 0
Holds w p = (w ≡ Live p) ⊎ (w ≡ Marked p)

module _ {K V S : Type 0} where
  -- Each entry that one of the first `upto` slots of the table held when the table was taken was
  -- taken out since, or the closure's last answer for it was to keep it.
  abbrev pub IsScannedUpTo : (at log : List (Event K V S)) → (t upto : ℕ) → List (Stored K V × Bool)
      → Type 0
  IsScannedUpTo at log t upto said = (x : ℕ) → x < upto → (p : Stored K V)
      → Holds ((state_of at).slot t x) p
      → WasTakenOut (history_of at) (history_of log) p ⊎ IsLastAnswer said p true

  -- The last exchange of the log deleted the entry in this slot, and that entry is `shown`.
  pub record IsBuried (log : List (Event K V S)) (t x : ℕ) (shown : Stored K V) : Type 0 where
    pub before : List (Event K V S)
    pub step : Step K V
    pub is : log ≡ before ++ Stepped step ∷ []
    pub pair : Stored K V
    pub buries : exchange_of step ≡ Bury t x pair
    pub same : IsSamePair pair shown
