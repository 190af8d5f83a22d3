use Rattle.std.proofs.Common.{◌≡◌, refl, sym, ap, ◌∙◌, subst}
use Rattle.papaya_call.specs.ChainMachine.{IsValid}
use Rattle.papaya_map_change.specs.declared.driver.Driver.{Driver}
use Rattle.papaya_map_change.specs.Going.{with_copier, with_machine}
use Rattle.papaya_map_change.proofs.driver.Driver.copy_on.Goals as goal

pub returns-in_default-clause-valid : goal.returns-in_default-clause-valid
returns-in_default-clause-valid g c =
    let w = c.args.window.now in let c₀ = c.args.self.now in let one = c.copy in let now = one.new.self in
    let machine_is : now.machine ≡ c₀.machine = ap (λ (z : Driver _ _ _ _). z.machine) one.ensures.rest in
    subst IsValid (sym machine_is) c.requires.valid

pub returns-in_default-clause-goes : goal.returns-in_default-clause-goes
returns-in_default-clause-goes g c =
    let w = c.args.window.now in let c₀ = c.args.self.now in let one = c.copy in let now = one.new.self in
    let machine_is : now.machine ≡ c₀.machine = ap (λ (z : Driver _ _ _ _). z.machine) one.ensures.rest in
    record {
      seen = w.sight.log;
      mid = c₀;
      goes_on = λ matches fed form k begun made r. r;
      since = one.ensures.sees.log;
      copies = one.ensures.copies;
      machine = machine_is;
      call = refl;
      table = refl;
    }

pub returns-in_default-clause-rest : goal.returns-in_default-clause-rest
returns-in_default-clause-rest g c =
    let w = c.args.window.now in let c₀ = c.args.self.now in let one = c.copy in let now = one.new.self in
    let machine_is : now.machine ≡ c₀.machine = ap (λ (z : Driver _ _ _ _). z.machine) one.ensures.rest in
    one.ensures.rest ∙ ap (with_machine (with_copier c₀ now.copier)) (sym machine_is)
