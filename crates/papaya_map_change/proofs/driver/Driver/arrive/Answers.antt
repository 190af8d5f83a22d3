use Rattle.std.proofs.Common.{◌≡◌, ℕ, ap, sym, ◌∙◌, subst}
use Rattle.papaya_call.specs.declared.search.Search.TheVariants.{Sizing}
use Rattle.papaya_call.specs.declared.machine.State.TheVariants.{Searching}
use Rattle.papaya_map_book.specs.Calls.{IsTable}
use Rattle.papaya_map_book.proofs.Loaded.{table_since}
use Rattle.papaya_map_change.proofs.driver.Driver.arrive.Goals as goal

pub returns-in-Searching-Sizing-clause-held : goal.returns-in-Searching-Sizing-clause-held
returns-in-Searching-Sizing-clause-held g c = λ n is.
    let one = c.table.new.self.sight.log in let log = c.learn.new.self.sight.log in
    let inner : c.in-Searching-Sizing.field-0 ≡ Sizing c.in-Searching-Sizing.number = rw c.in-Searching-Sizing.is at c.in-Searching-Sizing.field-0-is in
    let same : Searching (Sizing c.in-Searching-Sizing.number) ≡ Searching (Sizing n) = sym (c.in-Searching-Sizing.is ∙ ap Searching inner) ∙ is.1 in
    let number : c.in-Searching-Sizing.number ≡ n = cc same in
    subst (λ (t : ℕ). IsTable log t c.table.result.now) number
    (table_since one log c.in-Searching-Sizing.number c.table.result.now c.learn.ensures.sees.log c.table.ensures.table)
