-- A cell that is read at another type of the same shape. Assumes `Logic`.
use Rattle.std.proofs.Common.{◌≡◌, ℕ, List, [], ◌∷◌, subst, sym}
use seplogic.Ra.Ura.{Ura}
use mir.Syntax.{Ty}
use mir.Val.{Val}
use mir.Raw.{raw as raw_ty}
use base.Logic.{ent, sep, wand, ex, via, apply∗}
use base.Fml.{Share, fat}
use prog.Wp.{read}
use types.Logic.{Logic}
use types.Kit.{Item, ‵, raw, ◌⊛◌, some, ◌$◌, ◌∵◌, !, qed, split, pick, use1, assume, frame, show, by}
use types.Run.{Reads}

module _ {M : Type 1} {𝓤 : Ura M} (𝓛 : Logic 𝓤) (τ τ' : Ty) (same : raw_ty τ ≡ raw_ty τ') where
  open 𝓛 use {H}

  at_other : (q : Share) (b o : ℕ) (v : Val) → ent 𝓤 (H.at q τ b o v) (H.at q τ' b o v)
  at_other q b o v = via 𝓤 (H.at q (raw_ty τ) b o v) (𝓛.laws.at_raw q τ b o v)
      (subst (λ (ρ : Ty). ent 𝓤 (H.at q ρ b o v) (H.at q τ' b o v)) (sym same) (𝓛.laws.raw_at q τ' b o v))

  at_one : (q : Share) (b o : ℕ) (v : Val) → ent 𝓤 (H.at q τ' b o v) (H.at q τ b o v)
  at_one q b o v = via 𝓤 (H.at q (raw_ty τ') b o v) (𝓛.laws.at_raw q τ' b o v)
      (subst (λ (ρ : Ty). ent 𝓤 (H.at q ρ b o v) (H.at q τ b o v)) same (𝓛.laws.raw_at q τ b o v))

  pub retyped : {K : Type 0} {Γ : List (Item 𝓤)} (b o : ℕ) (v : Val) → Reads K 𝓛 Γ τ b o v → Reads K 𝓛 Γ τ' b o v
  retyped b o v r = record {
    go = λ Kt h.
        let Two = λ (s : Share). λ (u : Val). sep 𝓤 (H.at s τ' b o u) (wand 𝓤 (H.at s τ' b o u) (Kt u)) in
        via 𝓤 (read 𝓤 H τ b o Kt) (r.go Kt h)
        (qed 𝓛 (some (λ (s : Share). some (λ (u : Val). ‵ (fat s τ b o u) ⊛ raw (wand 𝓤 (H.at s τ b o u) (Kt u)))) ∷ []) ∵
        pick ! (λ s. pick ! (λ u. split ! $ use1 𝓛 (‵ (fat s τ' b o u)) (at_other s b o u) $
        show ! (λ (s' : Share). ex 𝓤 (Two s')) s $ show ! (Two s) u $ frame ! $ assume {P = Kt u} ! (‵ (fat s τ' b o u)) $
        use1 𝓛 (‵ (fat s τ b o u)) (at_one s b o u) $ by ! (apply∗ 𝓤 (H.at s τ b o u) (Kt u)))));
  }
