-- A call that is set aside goes on with the answers to its copy's asks, one after another.
use Rattle.std.specs.Prelude.{◌≡◌, ℕ, Bool, List}
use mathlib.Core.List.{IsPrefix}
use Rattle.logbook.specs.Pages.{Book}
use Rattle.papaya_call.specs.declared.chain.ask.Answer.{Answer}
use Rattle.papaya_call.specs.declared.chain.machine.Machine.{Machine}
use Rattle.papaya_map_book.specs.declared.rule.entry.Begun.{Begun}
use Rattle.papaya_map_book.specs.declared.rule.entry.Event.{Event}
use Rattle.papaya_map_change.specs.declared.copier.Copier.{Copier}
use Rattle.papaya_map_change.specs.declared.driver.Driver.{Driver}
use Rattle.papaya_map_change.specs.Changing.{Continues}
use Rattle.papaya_map_change.specs.Helping.{Copies}

-- The call with this copier.
abbrev pub with_copier : {K V S H : Type 0} → Driver K V S H → Copier K V S H → Driver K V S H
with_copier c copier = record c { copier = copier }

-- The call with this machine.
abbrev pub with_machine : {K V S H : Type 0} → Driver K V S H → Machine → Driver K V S H
with_machine c machine = record c { machine = machine }

module _ {K V S H : Type 0} (eq : K → K → Bool) (hash : S → K → ℕ) (b : Begun K V S)
    (name : Book) where
  -- The call went on up to an answer that its machine has yet to receive.
  pub record ContinuesTo (log : List (Event K V S)) (c : Driver K V S H) (log' : List (Event K V S))
      (c' : Driver K V S H) (answer : Answer) : Type 0 where
    pub seen : List (Event K V S)
    pub mid : Driver K V S H
    pub goes_on : Continues eq hash b name log c seen mid
    pub since : IsPrefix seen log'
    pub copies : Copies eq hash b name seen mid log' c' answer
    pub machine : c'.machine ≡ mid.machine
    pub call : mid.machine.call ≡ c.machine.call
    pub table : mid.table ≡ c.table
