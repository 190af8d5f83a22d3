-- A client's offer over the inner rule, as one over the gated book. Assumes `Logic`.
use Rattle.std.proofs.Common.{◌≡◌, ℕ, Bool, Option, None, Some, List, [], ◌∷◌, ◌++◌, sym, refl, ap, subst, inl, inr}
use Rattle.std.specs.Prelude.{filter}
use seplogic.Ra.Ura.{Ura}
use base.Stored.{Coded}
use base.Logic.{SProp, ent, sep, wand, all, all_i, all_e, apply∗, upd, upd_i, via}
use base.Fml.{Share, Fml, fsep}
use types.Logic.{Logic, sem}
use types.Kit.{‵, raw, ◌⊛◌, rewrite, split3, fjoin3, use3, ◌$◌, ◌∵◌, !, qed, by, move}
use types.Kit.{split, fsplit, fjoin, assume, suffices, settle, done, use1, use2}
use Rattle.logbook.specs.Kept.{offer, offer_owns}
use Rattle.logbook.specs.Pages.{Cell, Nib, View, keeps, no_nib, Runs, Moves}
use Rattle.papaya_gate.specs.Eras.{Era, Author, MayAdd, wrote}
use Rattle.papaya_gate.specs.Kept.{gate, gate_holds, writer_owns}
use Rattle.papaya_gate.specs.Paid.{Leaves, MovesPaid}
use Rattle.papaya_gate.proofs.Gates as gates

module _ {E A : Type 0} (tracks : E → Bool) (moves : List E → List E → A → Type 0) (s : Option A) where
  -- What a paid step answers: the state of the client's update, and the tracked entries added.
  abbrev pub Paying : List E → List E → Option A × List E → Type 0
  Paying xs ys b = Runs moves s b.0 xs ys × (filter tracks ys ≡ filter tracks xs ++ b.1)

  -- What an unpaid step answers: the state of the client's update.
  abbrev pub Leaving : List E → List E → Option A → Type 0
  Leaving xs ys t = Runs (Leaves tracks moves) s t xs ys

  pub runs_of : (t : Option A) (xs ys : List E) → Leaving xs ys t → Runs moves s t xs ys × (filter tracks ys ≡ filter tracks xs)
  runs_of t xs ys (inl e) = (inl e, ap (λ (zs : List E). filter tracks zs) e.1)
  runs_of t xs ys (inr e) = (inr (e.0, e.1, e.2, e.3.0), e.3.1)

-- ---- the laws of steps
module _ {E A : Type 0} (holds : List Cell → List E → Type 0) (shows : List E → List E) (tracks : E → Bool)
    (moves : List E → List E → A → Type 0) (k : ℕ) (s : Option A) (f : ℕ → ℕ) where
  abbrev pub PaidThen : (ℕ → List E → List E → Option A → Type 0) → ℕ → View E (Option A × List E) → Type 0
  PaidThen then n u = (b : Option A × List E) × (u.1.1 ≡ Some b) × then n b.1 u.0 b.0

  pub paid_moves : (seen : List E) (then : ℕ → List E → List E → Option A → Type 0) → MovesPaid tracks holds shows moves k seen s f then
      → Moves holds shows (Paying tracks moves s) k (seen, (no_nib, None)) f (PaidThen then)
  paid_moves seen then client cs log so pre away = let r = client cs log so pre in let go = r.2 in
      (r.0, r.1, (keeps, go.0, Some (go.2, go.1), tt, go.3, inr ((go.2, go.1), refl, refl, (go.5, go.4)), ((go.2, go.1), refl, go.6)))

  abbrev pub LeftThen : (ℕ → View E A → Type 0) → ℕ → View E (Option A) → Type 0
  LeftThen then n u = (t : Option A) × (u.1.1 ≡ Some t) × then n (u.0, (u.1.0, t))

  pub left_moves : (seen : List E) (p : Nib) (then : ℕ → View E A → Type 0) → Moves holds shows (Leaves tracks moves) k (seen, (p, s)) f then
      → Moves holds shows (Leaving tracks moves s) k (seen, (p, None)) f (LeftThen then)
  left_moves seen p then client cs log so pre away = let r = client cs log so pre away in let go = r.2 in
      (r.0, r.1, (go.0, go.1, Some go.2, go.3, go.4, inr (go.2, refl, refl, go.5), (go.2, refl, go.6)))

-- ---- the offers
module _ {M : Type 1} {𝓤 : Ura M} (𝓛 : Logic 𝓤) where
  abbrev Pr : Type 2
  Pr = SProp 𝓤

  abbrev ◌⊢◌ : Pr → Pr → Type 1
  P ⊢ Q = ent 𝓤 P Q

  abbrev ◌∗◌ : Pr → Pr → Pr
  P ∗ Q = sep 𝓤 P Q

  abbrev ⟦◌⟧ : Fml → Pr
  ⟦ P ⟧ = sem 𝓛 P

  infix 26 ◌⊢◌
  infixr 35 ◌∗◌
  module _ {E A : Type 0} (cv : Coded E) (inner : List E → Fml) (tracks : E → Bool) (moves : List E → List E → A → Type 0)
      (gain : A → Fml) (γ τ : ℕ) (s : Option A) where
    abbrev V : Option A → Fml
    V = offer_owns inner moves gain

    abbrev book : List E → Fml
    book log = gate cv.code γ τ (filter tracks log)

    abbrev pub kept_both : List E → Fml
    kept_both log = fsep (inner log) (book log)

    -- The client's update runs, or stays.
    moved : (t : Option A) (xs ys : List E) → Runs moves s t xs ys → ⟦ inner xs ⟧ ∗ ⟦ V s ⟧ ⊢ upd 𝓤 (⟦ inner ys ⟧ ∗ ⟦ V t ⟧)
    moved t xs ys (inl e) = qed 𝓛 (‵ (inner xs) ∷ ‵ (V s) ∷ []) ∵ rewrite ! 0 (λ (l : List E). ‵ (inner l)) (sym e.1) refl $
        rewrite ! 1 (λ (x : Option A). ‵ (V x)) (sym e.0) refl $ by ! (upd_i 𝓤 (⟦ inner ys ⟧ ∗ ⟦ V t ⟧))
    moved t xs ys (inr e) = let r : A = e.0 in let N : Pr = wand 𝓤 ⟦ inner xs ⟧ (upd 𝓤 (⟦ inner ys ⟧ ∗ ⟦ gain r ⟧)) in
        subst (λ (x : Option A). ⟦ inner xs ⟧ ∗ ⟦ V s ⟧ ⊢ upd 𝓤 (⟦ inner ys ⟧ ∗ ⟦ V x ⟧)) (sym e.2) (qed 𝓛 (‵ (inner xs) ∷ ‵ (V s) ∷ []) ∵
        rewrite ! 1 (λ (x : Option A). ‵ (V x)) e.1 refl $ move ! (1 ∷ []) $
        use1 𝓛 (raw N) (via 𝓤 _ (all_e 𝓤 (λ (z : List E × List E × A). all 𝓤 (λ (_ : moves z.0 z.1 z.2).
        wand 𝓤 ⟦ inner z.0 ⟧ (upd 𝓤 (⟦ inner z.1 ⟧ ∗ ⟦ gain z.2 ⟧)))) (xs, ys, r)) (all_e 𝓤 (λ (_ : moves xs ys r). N) e.3)) $
        move ! (1 ∷ 0 ∷ []) $ by ! (apply∗ 𝓤 ⟦ inner xs ⟧ (upd 𝓤 (⟦ inner ys ⟧ ∗ ⟦ gain r ⟧))))

    abbrev pub paid_gain : Option Era → Option (Author E) → Share → Option A × List E → Fml
    paid_gain era w q b = fsep (V b.0) (fsep (gate_holds γ τ era q) (writer_owns cv.code (wrote era w b.1)))

    -- For shares of the gate and the writer, an offer may add tracked entries.
    pub pays : (era : Option Era) (w : Option (Author E)) (q : Share) → MayAdd era w
        → ⟦ V s ⟧ ∗ ⟦ gate_holds γ τ era q ⟧ ∗ ⟦ writer_owns cv.code w ⟧ ⊢ ⟦ offer kept_both (Paying tracks moves s) (paid_gain era w q) ⟧
    pays era w q may =
        let hold : Fml = gate_holds γ τ era q in let mine : Fml = writer_owns cv.code w in
        let N : List E × List E × (Option A × List E) → Pr =
        λ z. wand 𝓤 ⟦ kept_both z.0 ⟧ (upd 𝓤 (⟦ kept_both z.1 ⟧ ∗ ⟦ paid_gain era w q z.2 ⟧)) in
        all_i 𝓤 (λ (z : List E × List E × (Option A × List E)). all 𝓤 (λ (_ : Paying tracks moves s z.0 z.1 z.2). N z)) (λ z.
        all_i 𝓤 (λ (_ : Paying tracks moves s z.0 z.1 z.2). N z) (λ m.
        let Z : Pr = ⟦ kept_both z.1 ⟧ ∗ ⟦ paid_gain era w q z.2 ⟧ in let t : Option A = z.2.0 in
        let theirs : Fml = writer_owns cv.code (wrote era w z.2.1) in
        qed 𝓛 (‵ (V s) ∷ ‵ hold ∷ ‵ mine ∷ []) ∵ assume ! (‵ (kept_both z.0)) $ fsplit ! $ move ! (0 ∷ 2 ∷ []) $
        use2 𝓛 (raw (upd 𝓤 (⟦ inner z.1 ⟧ ∗ ⟦ V t ⟧))) (moved t z.0 z.1 m.0) $ settle 𝓛 Z (‵ (inner z.1) ⊛ ‵ (V t)) $ split ! $
        move ! (2 ∷ 3 ∷ 4 ∷ []) $
        use3 𝓛 (raw (upd 𝓤 (⟦ book z.1 ⟧ ∗ ⟦ hold ⟧ ∗ ⟦ theirs ⟧)))
        (gates.adds 𝓛 cv γ τ era w q (filter tracks z.0) (filter tracks z.1) z.2.1 may m.1) $
        settle 𝓛 Z (‵ (book z.1) ⊛ ‵ hold ⊛ ‵ theirs) $ split3 ! $ suffices ! _ (upd_i 𝓤 Z) $
        -- [what is for the gate; the gate; the writer; what the inner rule keeps; the client's update]
        move ! (3 ∷ 0 ∷ []) $ fjoin ! $ move ! (3 ∷ 1 ∷ 2 ∷ []) $ fjoin3 ! $ move ! (1 ∷ 0 ∷ []) $ done !))

    -- For nothing, an offer may leave the tracked entries as they are.
    pub leaves : ⟦ V s ⟧ ⊢ ⟦ offer kept_both (Leaving tracks moves s) V ⟧
    leaves =
        let N : List E × List E × Option A → Pr = λ z. wand 𝓤 ⟦ kept_both z.0 ⟧ (upd 𝓤 (⟦ kept_both z.1 ⟧ ∗ ⟦ V z.2 ⟧)) in
        all_i 𝓤 (λ (z : List E × List E × Option A). all 𝓤 (λ (_ : Leaving tracks moves s z.0 z.1 z.2). N z)) (λ z.
        all_i 𝓤 (λ (_ : Leaving tracks moves s z.0 z.1 z.2). N z) (λ m.
        let Z : Pr = ⟦ kept_both z.1 ⟧ ∗ ⟦ V z.2 ⟧ in let both = runs_of tracks moves s z.2 z.0 z.1 m in
        qed 𝓛 (‵ (V s) ∷ []) ∵ assume ! (‵ (kept_both z.0)) $ fsplit ! $ move ! (0 ∷ 2 ∷ []) $
        use2 𝓛 (raw (upd 𝓤 (⟦ inner z.1 ⟧ ∗ ⟦ V z.2 ⟧))) (moved z.2 z.0 z.1 both.0) $ settle 𝓛 Z (‵ (inner z.1) ⊛ ‵ (V z.2)) $ split ! $
        suffices ! _ (upd_i 𝓤 Z) $ rewrite ! 2 (λ (zs : List E). ‵ (gate cv.code γ τ zs)) (sym both.1) refl $
        move ! (0 ∷ 2 ∷ []) $ fjoin ! $ done !))
