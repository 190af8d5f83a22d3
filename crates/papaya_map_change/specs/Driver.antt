-- A changing call under way: what it holds, and what a load gives it.
use Rattle.std.specs.Prelude.{◌≡◌, ℕ, Bool, MatchOption, Option, None, List, [], ◌<◌, length}
use denote.Bor.{Bor}
use Rattle.logbook.specs.Pages.{Book}
use Rattle.papaya_call.specs.declared.ask.At.{At}
use Rattle.papaya_call.specs.declared.ask.At.TheVariants.{Root, Next, Aborted, Done, Slot, Made}
use Rattle.papaya_call_law.specs.TrueAnswers.{or_last}
use Rattle.papaya_map_book.specs.Sheets.{Sheet}
use Rattle.papaya_map_book.specs.declared.rule.entry.Begun.{Begun}
use Rattle.papaya_map_book.specs.declared.rule.entry.Event.{Event}
use Rattle.papaya_map_book.specs.Calls.{IsNext, IsRoot, IsSlot, IsTable, IsWord}
use Rattle.papaya_map_book.specs.Logs.{Stored}
use Rattle.papaya_map_change.specs.declared.driver.Driver.{Driver}

module _ {K V S : Type 0} where
  -- The call holds the table that a load of this place needs, and for a slot that table has it.
  abbrev pub IsHeldAt : At → List (Event K V S) → Option (Bor Sheet) → Type 0
  IsHeldAt Root log table = Unit {0}
  IsHeldAt (Next t) log table = MatchOption table ⊥ (λ r. IsTable log t r.now)
  IsHeldAt (Slot t x) log table = MatchOption table ⊥
      (λ r. IsTable log t r.now × (x < length r.now.slots))
  IsHeldAt (Aborted t) log table = ⊥
  IsHeldAt (Done t chunk) log table = ⊥
  IsHeldAt Made log table = Unit {0}

  -- `word` was loaded from this place. The call now holds the table or the pair that the word
  -- names, or the same as before if it names none.
  abbrev pub IsLoaded : (K → K → Bool) → (S → K → ℕ) → Begun K V S → Book → At → ℕ
      → List (Event K V S) → (table table' : Option (Bor Sheet))
      → (last last' : Option (Stored K V)) → Type 0
  IsLoaded eq hash b name Root word log table table' last last' = (as_loaded : Option (Bor Sheet))
      × IsRoot eq hash b name word log as_loaded × (table' ≡ or_last as_loaded table)
      × (last' ≡ last)
  IsLoaded eq hash b name (Next t) word log table table' last last' =
      (as_loaded : Option (Bor Sheet))
      × IsNext eq hash b name t word log as_loaded × (table' ≡ or_last as_loaded table)
      × (last' ≡ last)
  IsLoaded eq hash b name (Slot t x) word log table table' last last' = (pair : Option (Stored K V))
      × IsSlot eq hash b name t x word log pair × (last' ≡ or_last pair last) × (table' ≡ table)
  IsLoaded eq hash b name (Aborted t) word log table table' last last' = ⊥
  IsLoaded eq hash b name (Done t chunk) word log table table' last last' = ⊥
  IsLoaded eq hash b name Made word log table table' last last' = IsWord eq hash b Made word log
      × (table' ≡ table) × (last' ≡ last)

-- A call that begins holds nothing yet.
pub record HoldsNothing {K V S H : Type 0} (c : Driver K V S H) : Type 0 where
  pub table : (c.table ≡ None) × (c.copier.fresh ≡ None)
  pub pairs : (c.copier.last ≡ None) × (c.copier.kept ≡ None) × (c.taken ≡ None) × (c.put ≡ None)
  pub given : c.copier.given.done ≡ []
