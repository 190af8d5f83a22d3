-- The machine value of a result with its evidence. Assumes `Logic`.
use Rattle.std.proofs.Common.{◌≡◌, ℕ, List, [], ◌∷◌, ◌++◌, refl, subst}
use mathlib.Core.Bool.{Bool, ◌&&◌, true, false}
use mathlib.Core.Path.{◌∙◌}
use lib.Dec.{T}
use mir.Syntax.{Lifetime, Ty, imm, ty_ref}
use seplogic.Ra.Ura.{Ura}
use mir.Val.{Val, vptr, vstruct, vcons, vnil, of_list, has_ty, WT}
use types.Logic.{Logic, sem}
use types.Kit.{Item, Goal, Seq, Step, step, ‵, ◌$◌, move, drop, fsplit, fjoin, fpick, fpack, rewrite, feq_i, feq_l, use0}
use denote.RattleType.{RattleType, Valss}
use denote.Laws.{Is, Typed, shows}
use denote.Steps.{nothing, peeks}
use denote.Shadow.{makes_shadow}
use denote.Bor.{Bor}
use denote.Ref.{NamedLft, ShrRef, shr_Tells}
use denote.Param.Shared.{copy_shared}
use denote.Struct.Field.{bool-field, shr_ref_field, unit-field}
use denote.Struct.Laws.{bool-copy, bool-laws, shr_ref_copy, shr_ref_laws, unit-copy, unit-laws}
use denote.Param.{layout, param}
use denote.Param.Laws.{Laws, of_field, param_laws}
use denote.Struct.Struct.{within}
use denote.Struct.Owning.{shape, to}
use denote.Struct.Tuple.{Tuple, tuple_laws}
use Rattle.std.specs.contracts.marker.PhantomData as marker
use Rattle.logbook.specs.declared.tokens.Rule.{Ghosts}
use Rattle.logbook.specs.Kept.{rules, seen_owns}
use Rattle.papaya_map.specs.contracts.observed.Observed as told
use base.Fml.{Fml, Lft}

abbrev pub Good : Ty → Val → Type 0
Good τ v = T (has_ty τ v) × WT v

pub one : (τ : Ty) (vs : List Val) → Typed (τ ∷ []) vs → (v : Val) × (vs ≡ v ∷ []) × Good τ v
one τ [] t = absurd t
one τ (v ∷ []) t = (v, refl, t.0)
one τ (v ∷ w ∷ vs) t = absurd t.1

-- machine values that are one, of this type
pub record One (τ : Ty) (vs : List Val) : Type 0 where
  pub val : Val
  pub is : vs ≡ val ∷ []
  pub good : Good τ val

-- those of a shared reference
pub one_ref : (ℓ : Lifetime) (κ : Lft) (R : RattleType) (x : Bor R.Denot) (vs : List Val) → Is (ShrRef ℓ κ R) x vs → (ℓ' : Lifetime) (τ : Ty)
    → One (ty_ref ℓ' imm τ) vs
one_ref ℓ κ R x vs is ℓ' τ = record { val = vptr x.ref_ptr.0 x.ref_ptr.1; is = shr_Tells ℓ κ R x vs is; good = (tt, tt) }

-- those of a value of a type parameter
pub one_of : {M : Type 1} {𝓤 : Ura M} (𝓛 : Logic 𝓤) (k : ℕ) (R : RattleType) → Laws R → (x : R.Denot) (vs : List Val) → Is (param k R) x vs → One (layout R) vs
one_of 𝓛 k R L x vs is = let got = one (layout R) vs (((param_laws k R L).lawful 𝓛).typed x vs is) in record { val = got.0; is = got.1; good = got.2 }

and_tt : (b : Bool) → T b → T (b && true)
and_tt true t = tt
and_tt false t = absurd t

abbrev pub held : Val → Val
held v = vstruct (vcons v (vcons (vstruct vnil) vnil))

module _ (B E A P : RattleType) (g : Ghosts P.Denot E.Denot A.Denot) where
  abbrev pub Observed : RattleType
  Observed = told.the_row B E A P g

  abbrev pub Mark : RattleType
  Mark = marker.the_row (Tuple (E ∷ A ∷ P ∷ []))

  abbrev pub seen : Observed.Denot → Fml
  seen d = seen_owns E.coded.code (rules g.holds g.shows g.keeps) d.book d.names d.log

  pub held_good : (v : Val) → Good (layout B) v → T (has_ty (layout B) v && true) × WT (held v)
  held_good v fits = (and_tt (has_ty (layout B) v) fits.0, (fits.1, (tt, tt)))

  module _ {M : Type 1} {𝓤 : Ura M} {𝓛 : Logic 𝓤} {K : Type 0} {Γ : List (Item 𝓤)} {G : Goal 𝓤 𝓛.H} where
    pub told_out : K → Laws B → (d : Observed.Denot) (vs : List Val)
        → ((v : Val) → Good (layout B) v → vs ≡ held v ∷ [] → Seq K 𝓛 (‵ (B.own_val d.answer (v ∷ [])) ∷ ‵ (seen d) ∷ Γ) G)
        → Seq K 𝓛 (‵ (Observed.own_val d vs) ∷ Γ) G
    told_out t L d vs k =
        fsplit t $ fpick t (λ vss. fsplit t $ feq_l t (λ e. fsplit t $ peeks t B (Is B) (shows 𝓛 B) d.answer vss.0 (λ i.
        let got = one (layout B) vss.0 (subst (λ (ρs : List Ty). Typed ρs vss.0) L.one ((L.lawful 𝓛).typed d.answer vss.0 i)) in
        rewrite t 0 (λ (ws : List Val). ‵ (B.own_val d.answer ws)) got.1 refl $ move t (1 ∷ []) $ fsplit t $ peeks t Mark (Is Mark) (shows 𝓛 Mark)
        d.marker vss.1.0 (λ j.
        drop t $ drop t $ k got.0 got.2 (e ∙ (λ n. vstruct (of_list (got.1 n ++ (j.1.0 n ++ []))) ∷ []))))))

    pub told_in : K → (d : Observed.Denot) (v : Val) → Step K 𝓛 (‵ (Observed.own_val d (held v ∷ [])) ∷ Γ) G (‵ (seen d) ∷ ‵ (B.own_val d.answer (v ∷ [])) ∷ Γ) G
    told_in t d v = step (λ s.
        nothing t $ use0 𝓛 (‵ (Mark.own_val d.marker (vstruct vnil ∷ [])))
        (makes_shadow 𝓛 (Mark.own_val d.marker (vstruct vnil ∷ [])) (λ uss. (tt, tt)) (tt, (refl, tt))) $ fjoin t $
        move t (2 ∷ 0 ∷ []) $ fjoin t $ feq_i t (List Val) (held v ∷ []) (held v ∷ []) refl $ fjoin t $
        fpack t (Valss (B ∷ Mark ∷ [])) (within (shape (told.the_type B E A P g)) (to (told.the_type B E A P g) d) (held v ∷ []))
        (v ∷ [], (vstruct vnil ∷ [], tt)) $ fjoin t $ s)

-- a shared reference to a value of a type parameter, two of them, and `bool`, with their laws
abbrev pub ref_row : NamedLft → ℕ → RattleType → RattleType
ref_row ℓ k R = (shr_ref_field ℓ (param k R) tt).row

pub ref_laws : (ℓ : NamedLft) (k : ℕ) (R : RattleType) → Laws R → Laws (ref_row ℓ k R)
ref_laws ℓ k R L = let X = shr_ref_field ℓ (param k R) tt in
    of_field X (shr_ref_laws ℓ (param k R) tt) refl (copy_shared X (shr_ref_copy ℓ (param k R) tt (param_laws k R L).shr_laws))

abbrev pub pair_row : NamedLft → ℕ → RattleType → ℕ → RattleType → RattleType
pair_row ℓ k R m T = Tuple (ref_row ℓ k R ∷ ref_row ℓ m T ∷ [])

pub pair_laws : (ℓ : NamedLft) (k : ℕ) (R : RattleType) → Laws R → (m : ℕ) (T : RattleType) → Laws T → Laws (pair_row ℓ k R m T)
pair_laws ℓ k R L m T LT = tuple_laws (ref_row ℓ k R ∷ ref_row ℓ m T ∷ []) (ref_laws ℓ k R L, (ref_laws ℓ m T LT, tt))

pub bool_laws : Laws bool-field.row
bool_laws = of_field bool-field bool-laws refl (copy_shared bool-field bool-copy)

pub unit_laws : Laws unit-field.row
unit_laws = of_field unit-field unit-laws refl (copy_shared unit-field unit-copy)
