-- A token of a vector is made of its observable value and of its bytes. Assumes `Logic`.
use Rattle.std.proofs.Common.{◌≡◌, ℕ, ◌^◌, ◌<◌, List, [], ◌∷◌, refl, ap, subst, w64}
use Rattle.boxcar.proofs.Spans.{one_bucket, one_slot}
use seplogic.Ra.Ura.{Ura}
use mir.Val.{Val, vint, vstruct, of_list, vcons, vnil}
use base.Logic.{ent, sep}
use base.Fml.{Fml, ftrue, fsep}
use types.Logic.{Logic, sem}
use types.Kit.{‵, ◌⊛◌, ◌$◌, ◌∵◌, !, qed, move, split, fsplit, fjoin, fpick, fpack, feq_i, use1, done}
use denote.RattleType.{RattleType, Valss}
use denote.Builtin.{usize}
use denote.Plain.{uint_Makes}
use denote.Steps.{nothing, owned}
use denote.Struct.Struct.{within}
use denote.Struct.Declared.{shape}
use Rattle.boxcar.specs.Slot.{written, mark, full}
use Rattle.boxcar.specs.Table.{Where, IsAt}
use Rattle.boxcar.proofs.Made.{written_made}
use Rattle.boxcar.specs.contracts.slot.Written as Written
use Rattle.boxcar.specs.contracts.table.Placed.TheInside as Inside
use Rattle.boxcar.specs.contracts.vec.Anything as Anything
use Rattle.boxcar.specs.contracts.vec.AnythingKeeps.TheImpl as AnythingKeeps
use Rattle.std.specs.contracts.alloc.Global as Global
use Rattle.std.specs.contracts.impls.GlobalAllocator.TheImpl as GlobalAllocator
use Rattle.papaya_map_book.specs.Tokens.{Fields, bucket_row, fields_row, token_row, stands}

abbrev pub token : Val
token = vstruct (vcons (vstruct vnil) vnil)

abbrev pub bytes : ℕ → ℕ → ℕ → Val
bytes i b s = vstruct (of_list (vint w64 i ∷ vint w64 b ∷ vint w64 s ∷ token ∷ token ∷ []))

module _ {M : Type 1} {𝓤 : Ura M} (𝓛 : Logic 𝓤) (R : RattleType) where
  pub placed_made : (w : Where R.Denot) (x : Fields R w) (i b s : ℕ) → i ≡ x.0.index → b ≡ x.0.bucket → s ≡ x.0.slot → i < 2 ^ 64 → b < 2 ^ 64 → s < 2 ^ 64
      → ent 𝓤 (sep 𝓤 (sem 𝓛 (written (bucket_row R) x.0.row.of x.0.row.value)) (sem 𝓛 (written R x.0.item.of x.0.item.value)))
      (sem 𝓛 ((token_row R).own_val w (bytes i b s ∷ [])))
  placed_made w x i b s ei eb es fi fb fs =
      let vs : List Val = bytes i b s ∷ [] in
      let S = shape (Inside.the_type R Anything.the_row Global.the_row (AnythingKeeps.ghosts R) GlobalAllocator.ghosts) in
      qed 𝓛 (‵ (written (bucket_row R) x.0.row.of x.0.row.value) ∷ ‵ (written R x.0.item.of x.0.item.value) ∷ []) ∵
      use1 𝓛 (‵ ((Written.the_row (bucket_row R)).own_val x.0.row (token ∷ []))) (written_made 𝓛 (bucket_row R) x.0.row.of x.0.row.value) $ move ! (1 ∷ []) $
      use1 𝓛 (‵ ((Written.the_row R).own_val x.0.item (token ∷ []))) (written_made 𝓛 R x.0.item.of x.0.item.value) $
      nothing ! $ move ! (1 ∷ 0 ∷ []) $ fjoin ! $ move ! (1 ∷ 0 ∷ []) $ fjoin ! $
      owned ! usize _ (uint_Makes 𝓛 w64) x.0.slot (vint w64 s ∷ []) (ap (λ (n : ℕ). vint w64 n ∷ []) es, subst (λ (n : ℕ). n < 2 ^ 64) es fs) $ fjoin ! $
      owned ! usize _ (uint_Makes 𝓛 w64) x.0.bucket (vint w64 b ∷ []) (ap (λ (n : ℕ). vint w64 n ∷ []) eb, subst (λ (n : ℕ). n < 2 ^ 64) eb fb) $ fjoin ! $
      owned ! usize _ (uint_Makes 𝓛 w64) x.0.index (vint w64 i ∷ []) (ap (λ (n : ℕ). vint w64 n ∷ []) ei, subst (λ (n : ℕ). n < 2 ^ 64) ei fi) $ fjoin ! $
      feq_i ! (List Val) vs vs refl $ fjoin ! $
      fpack ! (Valss S.fields) (within S (x.0.index, (x.0.bucket, (x.0.slot, (x.0.row, (x.0.item, tt))))) vs)
      (vint w64 i ∷ [], (vint w64 b ∷ [], (vint w64 s ∷ [], (token ∷ [], (token ∷ [], tt))))) $
      nothing ! $ move ! (1 ∷ 0 ∷ []) $ fjoin ! $
      fpack ! (Fields R w) (λ (y : Fields R w). fsep ((fields_row R).own_val y.0 vs) ftrue) x $ done !

-- two places of one index are one
pub at_one : (i b s c t : ℕ) → IsAt i b s → IsAt i c t → (b ≡ c) × (s ≡ t)
at_one i b s c t p q = (one_bucket i b s c t p q, one_slot i b s c t p q)

module _ {M : Type 1} {𝓤 : Ura M} (𝓛 : Logic 𝓤) (R : RattleType) where
  abbrev shown_at : (w : Where R.Denot) → Fields R w → Fml
  shown_at w x = fsep (written (bucket_row R) x.0.row.of x.0.row.value) (written R x.0.item.of x.0.item.value)

  -- the resources that represent a token can be duplicated
  pub stands_twice : (w : Where R.Denot) → ent 𝓤 (sem 𝓛 (stands R w)) (sep 𝓤 (sem 𝓛 (stands R w)) (sem 𝓛 (stands R w)))
  stands_twice w = qed 𝓛 (‵ (stands R w) ∷ []) ∵ fpick ! (λ (x : Fields R w).
      let A : Fml = written (bucket_row R) x.0.row.of x.0.row.value in let B : Fml = written R x.0.item.of x.0.item.value in
      fsplit ! $ use1 𝓛 (‵ A ⊛ ‵ A) (𝓛.names.res_dup x.0.row.of (mark (bucket_row R) (full x.0.row.value))) $ split ! $ move ! (2 ∷ []) $
      use1 𝓛 (‵ B ⊛ ‵ B) (𝓛.names.res_dup x.0.item.of (mark R (full x.0.item.value))) $ split ! $
      -- [B; B; A; A]
      move ! (2 ∷ 0 ∷ []) $ fjoin ! $ fpack ! (Fields R w) (shown_at w) x $ move ! (2 ∷ 1 ∷ []) $ fjoin ! $ fpack ! (Fields R w) (shown_at w) x $ done !)
