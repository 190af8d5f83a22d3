use Rattle.std.proofs.Common.{◌≡◌, ℕ, Bool, Option, Some, refl, sym, subst}
use denote.Ref.{Bor}
use Rattle.std.specs.Fn.{Called, Mut}
use Rattle.papaya_call.specs.declared.ask.Answer.TheVariants.{Yes}
use Rattle.papaya_core_store.specs.Store.{Stored, pair_of}
use Rattle.papaya_seq.specs.Removes.{IsShown}
use Rattle.papaya_seq.proofs.removal.call_closure.Goals as goal

-- a closure that was called with the key and the value of a pair was called with that pair
shown : {F K V : Type 0} (g : Mut F (Bor K × (Bor V × Unit {0})) Bool) (o : Option (Stored K V)) (n : ℕ) (key : Bor K) (value : Bor V) (f f' : F)
    (agrees : Bool) → o ≡ Some (record { number = n; key = key.now; value = value.now }) → Called g f (key, (value, tt)) agrees f'
    → IsShown g o f (Yes agrees) f'
shown g o n key value f f' agrees is called = subst (λ y. IsShown g y f (Yes agrees) f') (sym is) (key, value, agrees, refl, refl, refl, called)

pub returns-in-Some-clause-shown : goal.returns-in-Some-clause-shown
returns-in-Some-clause-shown g c = shown g.F.FnMut (pair_of c.args.store.now c.args.pair) c.args.pair c.in-Some.key c.in-Some.value c.args.agrees.now
    c.agrees.new.self c.agrees.result c.in-Some.ensures c.agrees.ensures
