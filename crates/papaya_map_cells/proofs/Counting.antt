-- The step of a counter: the thread that counts gets the ticket of the number found.
use Rattle.std.proofs.Common.{◌≡◌, ℕ, zero, suc, eqb, Bool, true, false, sym, refl, subst, eqb→eq, ◌+◌, ◌^◌, ◌<◌, ◌≤◌, [], ◌∷◌, arith}
use native.Mathlib.Decide.{dec_le}
use mathlib.Core.Logic.{dite}
use seplogic.Ra.Ura.{Ura}
use base.Logic.{SProp, ent, sep, wand, ex, emp, upd, upd_i}
use base.Fml.{Lft, Share, Fml, ftrue, fsep, fbor, flft, finv}
use lib.Dec.{T}
use prog.Atomic.{bump, either}
use types.Keyed.{token, ticket, tickets_from, entries_take}
use types.Logic.{Logic, sem}
use types.Kit.{‵, raw, ◌⊛◌, ◌$◌, ◌∵◌, !, qed, move, keep, use1, use2, split, fsplit, fjoin, fpick, fpack, frame, each}
use types.Kit.{show, assume, suffices, rewrite, done}
use denote.RawPtr.{block_ptr}
use denote.Steps.{nothing}
use Rattle.core.specs.Sync.RawAtomic.{word, asks, always}
use Rattle.core.proofs.raw_atomic.Asked.{borrowed, Lies, Again}
use Rattle.papaya_map_cells.specs.Counted.{held, left, counting, counts}

-- the ticket of the number, unless the counter is at its last
abbrev pub gained : ℕ → (n : ℕ) → Dec (2 ^ 63 ≤ n + 1) → Fml
gained d n (yes _) = ftrue
gained d n (no _) = ticket d n

abbrev pub gains : ℕ → ℕ → Fml
gains d n = gained d n (dec_le (2 ^ 63) (n + 1))

module _ {M : Type 1} {𝓤 : Ura M} (𝓛 : Logic 𝓤) (d : ℕ) where
  open 𝓛 use {A}

  abbrev Pr : Type 2
  Pr = SProp 𝓤

  abbrev ◌⊢◌ : Pr → Pr → Type 1
  P ⊢ Q = ent 𝓤 P Q

  abbrev ◌∗◌ : Pr → Pr → Pr
  P ∗ Q = sep 𝓤 P Q

  abbrev ⟦◌⟧ : Fml → Pr
  ⟦ P ⟧ = sem 𝓛 P

  infix 26 ◌⊢◌
  infixr 35 ◌∗◌
  one_held : (n back : ℕ) → ⟦ held d n back ⟧ ⊢ ⟦ ticket d n ⟧ ∗ ⟦ left d (n + 1) ⟧
  one_held n zero = qed 𝓛 (‵ (tickets_from d n) ∷ []) ∵
      use1 𝓛 (‵ (ticket d n) ⊛ ‵ (tickets_from d (suc n))) (entries_take token 𝓛 d n (λ _. tt)) $ split ! $ move ! (1 ∷ []) $
      fpack ! ℕ (held d (suc n)) 0 $ rewrite ! 0 (λ (k : ℕ). ‵ (left d k)) (omega arith) refl $ move ! (1 ∷ 0 ∷ []) $ done !
  one_held n (suc back) = qed 𝓛 (‵ (held d n (suc back)) ∷ []) ∵ fsplit ! $ move ! (1 ∷ []) $
      fpack ! ℕ (held d (suc n)) back $ rewrite ! 0 (λ (k : ℕ). ‵ (left d k)) (omega arith) refl $ move ! (1 ∷ 0 ∷ []) $ done !

  deals : (n : ℕ) (full : Dec (2 ^ 63 ≤ n + 1))
      → ⟦ left d n ⟧ ⊢ ⟦ left d (dite full (λ _. n) (λ _. n + 1)) ⟧ ∗ ⟦ gained d n full ⟧
  deals n (yes _) = qed 𝓛 (‵ (left d n) ∷ []) ∵ nothing ! $ move ! (1 ∷ 0 ∷ []) $ done !
  deals n (no _) = qed 𝓛 (‵ (left d n) ∷ []) ∵ fpick ! (λ back.
      use1 𝓛 (‵ (ticket d n) ⊛ ‵ (left d (n + 1))) (one_held n back) $ split ! $ move ! (1 ∷ 0 ∷ []) $ done !)

  -- the word after n, by a step that returns the number k
  abbrev pub returned : ℕ → ℕ → ℕ
  returned k n = either (eqb n (k + 1)) k n

  takes_back : (k n : ℕ) (y : Bool) → eqb n (k + 1) ≡ y → ⟦ left d n ⟧ ∗ ⟦ ticket d k ⟧ ⊢ ⟦ left d (either y k n) ⟧
  takes_back k n true e = let is : suc k ≡ n = omega (arith, eqb→eq n (k + 1) (subst T (sym e) tt)) in
      qed 𝓛 (‵ (left d n) ∷ ‵ (ticket d k) ∷ []) ∵ fpick ! (λ back. rewrite ! 0 (λ (m : ℕ). ‵ (held d m back)) (sym is) refl $
      move ! (1 ∷ 0 ∷ []) $ fjoin ! $ fpack ! ℕ (held d k) (suc back) $ done !)
  takes_back k n false e = qed 𝓛 (‵ (left d n) ∷ ‵ (ticket d k) ∷ []) ∵ keep ! (0 ∷ []) $ done !

  module _ (α : Lft) (q : Share) (b o : ℕ) where
    abbrev I : Fml
    I = counts d b o

    pub counts_one : A.inv (fbor α I) ∗ (A.lft α q ∗ emp 𝓤)
        ⊢ asks 𝓛 (block_ptr b o) bump always (λ n. fsep (flft α q) (gains d n))
    counts_one = let G : Pr = ex 𝓤 (Lies 𝓛 α q I b o bump always (gains d)) in
        borrowed 𝓛 α q I b o bump always (gains d) (emp 𝓤) (qed 𝓛 (‵ I ∷ raw (emp 𝓤) ∷ []) ∵
        suffices ! _ (upd_i 𝓤 G) $ fpick ! (λ n. let Z : Pr = ⟦ I ⟧ ∗ ⟦ gains d n ⟧ in fsplit ! $
        show ! (Lies 𝓛 α q I b o bump always (gains d)) n $ frame ! $ keep ! (0 ∷ []) $
        each ! (λ (_ : Unit {0}). Again 𝓛 α q I b o bump always (gains d) n) (λ _. assume ! (‵ (word b o (bump n))) $
        suffices ! _ (upd_i 𝓤 Z) $ move ! (1 ∷ []) $
        use1 𝓛 (‵ (left d (bump n)) ⊛ ‵ (gains d n)) (deals n (dec_le (2 ^ 63) (n + 1))) $ split ! $
        move ! (2 ∷ 0 ∷ []) $ fjoin ! $ fpack ! ℕ (counting d b o) (bump n) $ done !)))

    -- a read leaves the counter unchanged
    pub counts_look : A.inv (fbor α I) ∗ (A.lft α q ∗ emp 𝓤)
        ⊢ asks 𝓛 (block_ptr b o) (λ n. n) always (λ n. fsep (flft α q) ftrue)
    counts_look = let f : ℕ → ℕ = λ n. n in let then : ℕ → Fml = λ _. ftrue in
        let G : Pr = ex 𝓤 (Lies 𝓛 α q I b o f always then) in
        borrowed 𝓛 α q I b o f always then (emp 𝓤) (qed 𝓛 (‵ I ∷ raw (emp 𝓤) ∷ []) ∵
        suffices ! _ (upd_i 𝓤 G) $ fpick ! (λ n. let Z : Pr = ⟦ I ⟧ ∗ ⟦ ftrue ⟧ in fsplit ! $
        show ! (Lies 𝓛 α q I b o f always then) n $ frame ! $ keep ! (0 ∷ []) $
        each ! (λ (_ : Unit {0}). Again 𝓛 α q I b o f always then n) (λ _. assume ! (‵ (word b o n)) $
        suffices ! _ (upd_i 𝓤 Z) $ fjoin ! $ fpack ! ℕ (counting d b o) n $ nothing ! $ move ! (1 ∷ 0 ∷ []) $ done !)))

    -- the thread with the ticket of the number may return it
    pub counts_back : (k : ℕ) → A.inv (fbor α I) ∗ (A.lft α q ∗ ⟦ ticket d k ⟧)
        ⊢ asks 𝓛 (block_ptr b o) (returned k) always (λ n. fsep (flft α q) ftrue)
    counts_back k = let f : ℕ → ℕ = returned k in let then : ℕ → Fml = λ _. ftrue in
        let G : Pr = ex 𝓤 (Lies 𝓛 α q I b o f always then) in
        borrowed 𝓛 α q I b o f always then ⟦ ticket d k ⟧ (qed 𝓛 (‵ I ∷ ‵ (ticket d k) ∷ []) ∵
        suffices ! _ (upd_i 𝓤 G) $ fpick ! (λ n. let Z : Pr = ⟦ I ⟧ ∗ ⟦ ftrue ⟧ in fsplit ! $
        show ! (Lies 𝓛 α q I b o f always then) n $ frame ! $
        each ! (λ (_ : Unit {0}). Again 𝓛 α q I b o f always then n) (λ _. assume ! (‵ (word b o (f n))) $
        suffices ! _ (upd_i 𝓤 Z) $ move ! (1 ∷ 2 ∷ []) $
        use2 𝓛 (‵ (left d (f n))) (takes_back k n (eqb n (k + 1)) refl) $
        move ! (1 ∷ 0 ∷ []) $ fjoin ! $ fpack ! ℕ (counting d b o) (f n) $ nothing ! $ move ! (1 ∷ 0 ∷ []) $ done !)))

-- if a number is left, its ticket is gained
pub gained_one : {M : Type 1} {𝓤 : Ura M} (𝓛 : Logic 𝓤) (d n : ℕ) (full : Dec (2 ^ 63 ≤ n + 1)) → n < 9223372036854775807
    → ent 𝓤 (sem 𝓛 (gained d n full)) (sem 𝓛 (ticket d n))
gained_one 𝓛 d n (yes full) h = absurd (omega arith)
gained_one {𝓤 = 𝓤} 𝓛 d n (no _) h = base.Logic.id⊢ 𝓤 _
