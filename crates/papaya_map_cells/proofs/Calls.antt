-- A call of the step that counts, with the outcome that the caller's proof picks. The kit's `Calls` has
-- the others.
use Rattle.std.proofs.Common.{◌≡◌, ℕ, List, [], ◌∷◌, refl}
use seplogic.Ra.Ura.{Ura}
use mir.Val.{Val}
use base.Fraction.{full_share}
use base.Logic.{SProp, ent, sep, emp, via}
use base.Fml.{Fml, ftrue, fsep}
use prog.Atomic.{bump}
use prog.Model.{Model}
use prog.Wired.{Wired}
use types.Logic.{Logic}
use types.Kit.{mean, ‵, raw, ◌$◌, ◌∵◌, !, qed, use0, fjoin, feq_i, done}
use contract.Monad.{fact, fact_i}
use contract.Running.{Running, MachineTables, tables}
use denote.RattleType.{owns}
use denote.RawPtr.{Ptr, ptr_val}
use denote.Signature.{types_at}
use denote.Steps.{nothing}
use denote.Triple.Spec.{triple_of}
use Rattle.core.specs.Sync.RawAtomic.{asks, always}
use Rattle.core.specs.contracts.atomic.Ordering as Order
use Rattle.core.specs.contracts.raw_atomic.saturating_increment as add
use Rattle.core.specs.declared.atomic.Ordering.TheVariants.{SeqCst}
use Rattle.core.specs.declared.raw_atomic.Outcome as Outcome
use Rattle.core.proofs.raw_atomic.Ordered.{order_made}
use Rattle.core.proofs.raw_atomic.saturating_increment.Met as add-thm
use Rattle.core.proofs.raw_atomic.saturating_increment.Symbol as add-is
use Rattle.std.proofs.raw_atomic.Calls.{marker, marker_laws, dict, picked, seq_cst, found, called, answers}

module _ {M : Type 1} {𝓤 : Ura M} (𝓛 : Logic 𝓤) (𝓜 : Model 𝓤 𝓛.H) (𝓡 : Running 𝓤 𝓛.H 𝓜) where
  open 𝓛 use {H}

  abbrev 𝓣 : MachineTables 𝓤 H 𝓜
  𝓣 = tables 𝓤 H 𝓜 𝓡 𝓡.env

  pub counts_up : Wired 𝓡.env add-is.code → (p : Ptr) (after : ℕ → Fml)
      → ent 𝓤 (asks 𝓛 p bump always after)
      (𝓣.C (add-is.name picked) (ptr_val p ∷ seq_cst ∷ []) (λ v. mean 𝓛 (found after v)))
  counts_up w p after =
      let g : Outcome.Ghosts marker.Denot = record { after = after } in
      let c = triple_of 𝓛 (add.ended marker g dict).signature (add.spec marker g dict 𝓛 𝓜.mem 𝓡.returns) in
      let y : c.Ghost = ((([], tt), (full_share, tt), tt, (p, (SeqCst, tt)), (ptr_val p ∷ [], (seq_cst ∷ [], tt))), tt) in
      let args : Fml = owns (types_at (add.ended marker g dict).signature.params ([], tt)) y.0.3 y.0.4 in
      let X : SProp 𝓤 = asks 𝓛 p bump always after in let F : SProp 𝓤 = fact 𝓤 (SeqCst ≡ SeqCst) in
      via 𝓤 (sep 𝓤 F X) (qed 𝓛 (raw X ∷ []) ∵ use0 𝓛 (raw F) (fact_i 𝓤 (SeqCst ≡ SeqCst) (emp 𝓤) refl) $ done !)
      (called 𝓛 𝓜 𝓡 (add-is.name picked) (ptr_val p ∷ seq_cst ∷ []) args
      (qed 𝓛 [] ∵ nothing ! $ use0 𝓛 (‵ (Order.the_row.own_val SeqCst (seq_cst ∷ []))) (order_made 𝓛) $ fjoin ! $
      feq_i ! (List Val) (ptr_val p ∷ []) (ptr_val p ∷ []) refl $ done !)
      (sep 𝓤 F X) (c.post y) (λ v. mean 𝓛 (found after v))
      (add-thm.met 𝓤 𝓛 𝓜 𝓡 w marker marker_laws g dict record {} y)
      (answers 𝓛 𝓜 𝓡 (Unit {0} × (Unit {0} × Unit {0})) (λ _. fsep ftrue (fsep ftrue ftrue)) after))
