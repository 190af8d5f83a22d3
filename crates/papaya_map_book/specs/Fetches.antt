-- The result of a load that looks for a table by its number.
use Rattle.std.specs.Prelude.{◌≡◌, ℕ, Bool, Option, Some, List}
use Rattle.logbook.specs.Pages.{View, Step as Book_step}
use Rattle.papaya_map_book.specs.declared.rule.entry.Begun.{Begun}
use Rattle.papaya_map_book.specs.declared.rule.entry.Event.{Event}
use Rattle.papaya_map_book.specs.declared.rule.entry.Named.{Named}
use Rattle.papaya_map_book.specs.Logs.{place_of, steps_of, table_in, table_named}
use Rattle.papaya_map_book.specs.Makers.{table_of}
use Rattle.papaya_map_book.specs.Rule.{IsLawfulLog}

module _ {K V S : Type 0} (eq : K → K → Bool) (hash : S → K → ℕ) where
  -- The load returns the table of this number, if that is in the log.
  pub record Fetched (t : ℕ) (log : List (Event K V S)) (state : Option (Named K V)) : Type 0 where
    pub begun : Begun K V S
    pub lawful : IsLawfulLog eq hash begun log
    pub state_is : state ≡ Some (table_named (table_in (steps_of log) t))

  abbrev pub Fetches : Book_step (Event K V S) → View (Event K V S) (Named K V) → ℕ
      → View (Event K V S) (Named K V) → Type 0
  Fetches s v found w = Fetched (table_of (place_of s.ask)) w.0 w.1.1
