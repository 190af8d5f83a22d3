-- The effect of a call of a closure: the store stays the same, and only the value and the answers
-- of the call may change.
use Rattle.std.proofs.Common.{◌≡◌, ℕ, Bool, Option, Some, ◌⊎◌, inl, inr, refl}
use Rattle.papaya_call.specs.Answers.{Says, op_kind}
use Rattle.papaya_call.specs.declared.ask.Answer.{Answer}
use Rattle.papaya_call.specs.declared.ask.Answer.TheVariants.{Yes, Op, Ok as Ok_done}
use Rattle.papaya_call.specs.declared.ask.OpKind.{OpKind}
use Rattle.papaya_call.specs.declared.call.Task.{Task}
use Rattle.papaya_call.specs.declared.call.Task.TheVariants as tasks
use Rattle.papaya_core_store.specs.declared.pairs.Running.{Running}
use Rattle.papaya_core_store.specs.Performs.{Decides, DecidesNone, Judges, ShowsPair, ShowsNothing, value_answered}
use Rattle.papaya_core_store.specs.Store.{StoreState}
use Rattle.papaya_call.specs.declared.answers.Operation.{Operation}
use Rattle.papaya_call.specs.declared.answers.Operation.TheVariants as ops
use Rattle.papaya_call.specs.declared.ask.OpKind.TheVariants as op_kinds
use Rattle.papaya_core_store.specs.declared.pairs.Part.{Part}
use Rattle.papaya_core_store.specs.declared.pairs.Part.TheVariants.{Own}

module _ {K V S A : Type 0} where
  -- the effect of a call of a closure
  pub record IsShowing (Computes : Type 0) (s : StoreState K V S) (r : Running K V A) (a : Answer) (s' : StoreState K V S) (r' : Running K V A) : Type 0 where
    pub says : ((agrees : Bool) × (a ≡ Yes agrees)) ⊎ ((kind : OpKind) × (a ≡ Op kind)) ⊎ (a ≡ Ok_done)
    pub store : s' ≡ s
    pub call : (r' ≡ r) ⊎ ((v : Option (Part V)) × (x : A) × (r' ≡ record r { value = v; answers = Some x })
        × ((v ≡ r.value) ⊎ ((w : V) × (v ≡ Some (Own w)) × (a ≡ Op op_kinds.Insert) × Computes)))

  -- if there is no argument to call the closure with, all stays as it was
  nothing_shown : (s : StoreState K V S) (r : Running K V A) (a : Answer) (s' : StoreState K V S) (r' : Running K V A) → ShowsNothing a s r s' r'
      → (Computes : Type 0) → IsShowing Computes s r a s' r'
  nothing_shown s r a s' r' (is, stays) Computes = record { says = inr (inr is); store = stays.0; call = inl stays.1 }

  module _ (says : Says K V A) where
    -- the closure of a removal
    judged : (n : ℕ) (s : StoreState K V S) (r : Running K V A) (a : Answer) (s' : StoreState K V S) (r' : Running K V A) → Judges says n s r a s' r'
        → (Computes : Type 0) → IsShowing Computes s r a s' r'
    judged n s r a s' r' (inl (none, nothing)) Computes = nothing_shown s r a s' r' nothing Computes
    judged n s r a s' r' (inr (x, p, agrees, y, _, _, _, is, same, later))
        Computes = record { says = inl (agrees, is); store = same; call = inr (r.value, y, later, inl refl) }

    -- and that of a compute
    decided : (shown : Option (K × V)) (s : StoreState K V S) (r : Running K V A) (a : Answer) (s' : StoreState K V S) (r' : Running K V A)
        → Decides says shown s r a s' r' → (Computes : Type 0) → Computes → IsShowing Computes s r a s' r'
    decided shown s r a s' r' (x, op, y, _, _, is, same, later) Computes
        computes = record { says = inr (inl (op_kind op, is)); store = same; call = inr (value_answered op r.value, y, later, by_op op is) }
      where
        by_op : (op : Operation V ℕ) → a ≡ Op (op_kind op) → (value_answered op r.value ≡ r.value)
            ⊎ ((w : V) × (value_answered op r.value ≡ Some (Own w)) × (a ≡ Op op_kinds.Insert) × Computes)
        by_op (ops.Insert w) is = inr (w, refl, is, computes)
        by_op ops.Remove is = inl refl
        by_op (ops.Abort t) is = inl refl

    -- a call of the closure with `None`
    pub none_shown : (s : StoreState K V S) (r : Running K V A) (a : Answer) (s' : StoreState K V S) (r' : Running K V A)
        → DecidesNone says s r a s' r' → IsShowing (Unit {0}) s r a s' r'
    none_shown s r a s' r' (inl (none, nothing)) = nothing_shown s r a s' r' nothing (Unit {0})
    none_shown s r a s' r' (inr h) = decided _ s r a s' r' h (Unit {0}) tt

    -- a pair, by the task
    pub pair_shown : (task : Task) (n : ℕ) (s : StoreState K V S) (r : Running K V A) (a : Answer) (s' : StoreState K V S) (r' : Running K V A)
        → ShowsPair task says n s r a s' r' → IsShowing (task ≡ tasks.Compute) s r a s' r'
    pair_shown tasks.RemoveIf n s r a s' r' h = judged n s r a s' r' h (tasks.RemoveIf ≡ tasks.Compute)
    pair_shown tasks.Compute n s r a s' r' (inl (none, nothing)) = nothing_shown s r a s' r' nothing (tasks.Compute ≡ tasks.Compute)
    pair_shown tasks.Compute n s r a s' r' (inr (p, there, h)) = decided _ s r a s' r' h (tasks.Compute ≡ tasks.Compute) refl
    pair_shown tasks.Get n s r a s' r' h = nothing_shown s r a s' r' h (tasks.Get ≡ tasks.Compute)
    pair_shown (tasks.Insert replace) n s r a s' r' h = nothing_shown s r a s' r' h (tasks.Insert replace ≡ tasks.Compute)
