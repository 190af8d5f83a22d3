use Rattle.std.proofs.Common.{rules, ◌≡◌, true, false, sym, subst}
use Rattle.papaya_call.specs.declared.ask.Answer.TheVariants.{Yes}
use Rattle.papaya_call.specs.declared.call.Reply.TheVariants.{Removed}
use Rattle.papaya_call.specs.declared.call.Task.TheVariants.{RemoveIf}
use Rattle.papaya_call.specs.declared.machine.State.TheVariants.{Showing}
use Rattle.papaya_core_store.specs.Store.{pair_of}
use Rattle.papaya_seq.specs.Buries.{IsRemovedFrom, itself}
use Rattle.papaya_seq.specs.Removes.{IsShown}
use Rattle.papaya_seq.proofs.Burying.{kept, removed}
use Rattle.papaya_seq.proofs.removal.bury.Goals as goal

pub returns-in-Yes-false : goal.returns-in-Yes-false
returns-in-Yes-false g c matches m =
    let said : c.call_closure.result ≡ Yes false = search rules in
    kept g.F.FnMut matches c.args.store.now c.args.agrees.now c.args.removal m c.call_closure.new.agrees
    (subst (λ n. IsShown g.F.FnMut (pair_of c.args.store.now n) c.args.agrees.now (Yes false) c.call_closure.new.agrees) c.pair-pair.ensures
    (subst (λ a. IsShown g.F.FnMut (pair_of c.args.store.now c.pair-pair.result) c.args.agrees.now a c.call_closure.new.agrees) said c.call_closure.ensures.shown))
    c.pair-pair.result c.pair-pair.ensures

pub returns : goal.returns
returns g c matches m =
    let said : c.call_closure.result ≡ Yes true = search rules in
    let s = c.args.store.now in
    subst (λ after. IsRemovedFrom g.F.FnMut matches s c.args.agrees.now (itself (record m { task = RemoveIf; state = Showing c.args.removal }))
    (Removed c.pair-pair.result) after c.call_closure.new.agrees) (sym c.take_out.ensures)
    (removed g.F.FnMut matches s c.args.agrees.now c.args.removal m c.call_closure.new.agrees
    (subst (λ n. IsShown g.F.FnMut (pair_of s n) c.args.agrees.now (Yes true) c.call_closure.new.agrees) c.pair-pair.ensures
    (subst (λ a. IsShown g.F.FnMut (pair_of s c.pair-pair.result) c.args.agrees.now a c.call_closure.new.agrees) said c.call_closure.ensures.shown))
    c.requires.stands c.pair-pair.result c.pair-pair.ensures)
