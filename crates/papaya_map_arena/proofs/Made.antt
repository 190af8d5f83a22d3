-- A token of the arena is made of its observable value and of its bytes. Assumes `Logic`.
use Rattle.std.proofs.Common.{◌≡◌, ℕ, ◌^◌, ◌<◌, List, [], ◌∷◌, refl, ap, subst, w64}
use seplogic.Ra.Ura.{Ura}
use mir.Val.{Val, vint, vstruct, of_list, vcons, vnil}
use base.Logic.{ent, sep}
use base.Fml.{Fml, ftrue, fsep}
use base.Shift.{Keyless}
use types.Logic.{Logic, sem}
use types.Kit.{‵, ◌⊛◌, ◌$◌, ◌∵◌, !, qed, move, split, fsplit, fjoin, fpick, fpack, feq_i, use1, done}
use denote.RattleType.{RattleType, Valss}
use denote.Builtin.{usize}
use denote.Plain.{uint_Makes}
use denote.Steps.{nothing, owned}
use denote.Struct.Struct.{within}
use denote.Struct.Declared.{shape}
use Rattle.boxcar.specs.Slot.{written, mark, full}
use Rattle.boxcar.specs.Table.{Where}
use Rattle.papaya_map_cells.proofs.Made.{written_made}
use Rattle.papaya_map_cells.specs.contracts.arena_slot.Written as Written
use Rattle.papaya_map_arena.specs.Tokens.{Fields, fields_row, row_row, stands, token_row}
use Rattle.papaya_map_arena.specs.contracts.token.Pushed.TheInside as Inside

abbrev pub token : Val
token = vstruct (vcons (vstruct vnil) vnil)

abbrev pub bytes : ℕ → Val
bytes n = vstruct (of_list (vint w64 n ∷ token ∷ token ∷ []))

module _ {M : Type 1} {𝓤 : Ura M} (𝓛 : Logic 𝓤) (R : RattleType) where
  pub pushed_made : (w : Where R.Denot) (x : Fields R w) (n : ℕ) → n ≡ x.0.number → n < 2 ^ 64
      → ent 𝓤 (sep 𝓤 (sem 𝓛 (written (row_row R) x.0.row.of x.0.row.value)) (sem 𝓛 (written R x.0.item.of x.0.item.value)))
      (sem 𝓛 ((token_row R).own_val w (bytes n ∷ [])))
  pushed_made w x n en fn =
      let vs : List Val = bytes n ∷ [] in
      let S = shape (Inside.the_type R) in
      qed 𝓛 (‵ (written (row_row R) x.0.row.of x.0.row.value) ∷ ‵ (written R x.0.item.of x.0.item.value) ∷ []) ∵
      use1 𝓛 (‵ ((Written.the_row (row_row R)).own_val x.0.row (token ∷ []))) (written_made 𝓛 (row_row R) x.0.row.of x.0.row.value) $ move ! (1 ∷ []) $
      use1 𝓛 (‵ ((Written.the_row R).own_val x.0.item (token ∷ []))) (written_made 𝓛 R x.0.item.of x.0.item.value) $
      nothing ! $ move ! (1 ∷ 0 ∷ []) $ fjoin ! $ move ! (1 ∷ 0 ∷ []) $ fjoin ! $
      owned ! usize _ (uint_Makes 𝓛 w64) x.0.number (vint w64 n ∷ []) (ap (λ (i : ℕ). vint w64 i ∷ []) en, subst (λ (i : ℕ). i < 2 ^ 64) en fn) $ fjoin ! $
      feq_i ! (List Val) vs vs refl $ fjoin ! $
      fpack ! (Valss S.fields) (within S (x.0.number, (x.0.row, (x.0.item, tt))) vs) (vint w64 n ∷ [], (token ∷ [], (token ∷ [], tt))) $
      nothing ! $ move ! (1 ∷ 0 ∷ []) $ fjoin ! $
      fpack ! (Fields R w) (λ (y : Fields R w). fsep ((fields_row R).own_val y.0 vs) ftrue) x $ done !

module _ {M : Type 1} {𝓤 : Ura M} (𝓛 : Logic 𝓤) (R : RattleType) where
  abbrev shown_at : (w : Where R.Denot) → Fields R w → Fml
  shown_at w x = fsep (written (row_row R) x.0.row.of x.0.row.value) (written R x.0.item.of x.0.item.value)

  -- the resources that represent a token can be duplicated
  pub stands_twice : (w : Where R.Denot) → ent 𝓤 (sem 𝓛 (stands R w)) (sep 𝓤 (sem 𝓛 (stands R w)) (sem 𝓛 (stands R w)))
  stands_twice w = qed 𝓛 (‵ (stands R w) ∷ []) ∵ fpick ! (λ (x : Fields R w).
      let A : Fml = written (row_row R) x.0.row.of x.0.row.value in let B : Fml = written R x.0.item.of x.0.item.value in
      fsplit ! $ use1 𝓛 (‵ A ⊛ ‵ A) (𝓛.names.res_dup x.0.row.of (mark (row_row R) (full x.0.row.value))) $ split ! $ move ! (2 ∷ []) $
      use1 𝓛 (‵ B ⊛ ‵ B) (𝓛.names.res_dup x.0.item.of (mark R (full x.0.item.value))) $ split ! $
      -- [B; B; A; A]
      move ! (2 ∷ 0 ∷ []) $ fjoin ! $ fpack ! (Fields R w) (shown_at w) x $ move ! (2 ∷ 1 ∷ []) $ fjoin ! $ fpack ! (Fields R w) (shown_at w) x $ done !)

-- the resources that represent a token name no token of one thread
pub stands_keyless : (R : RattleType) (w : Where R.Denot) → Keyless (stands R w)
stands_keyless R w = λ x. (tt, tt)
