-- The steps on a slot: the thread with the ticket takes the blank, the thread that wrote shares the value, and a token finds it. The machine's step
-- may be one on any word that the caller has.
use Rattle.std.proofs.Common.{◌≡◌, ℕ, zero, ◌+◌, List, [], ◌∷◌, sym, refl, ap, subst, arith}
use seplogic.Ra.Ura.{Ura}
use base.Stored.{Gv, gnil, gnum, gcons}
use base.Logic.{SProp, ent, sep, wand, ex, emp, upd, upd_i, never, never_e, via, fst∗}
use base.Fml.{Lft, Incl, GName, Share, Fml, ftrue, fsep, fex, fobs, fauth, fres, fbor, flft, finv}
use base.Before.{before}
use ghost.Rules.{Toks, span}
use types.Keyed.{ticket, ticket_once}
use types.Logic.{Logic, sem, lfts}
use types.Kit.{‵, raw, ◌⊛◌, some, given, later, ◌$◌, ◌∵◌, !, qed, by, move, keep, drop, use1, use2, use3, split, split3}
use types.Kit.{fsplit, fsplit3, fjoin, fjoin3, fpick, fpack, pick, learn, show, frame, each, assume, suffices, await}
use types.Kit.{updating, now, settle, done}
use types.Tokens.{res_dup}
use types.Na.{before_dup}
use denote.RattleType.{RattleType, RowLaws}
use denote.Memory.{shared_of, part_at, mem}
use denote.RawPtr.{block_ptr}
use denote.Shares.{Shares, settles}
use denote.SharingLaws.{contraction}
use denote.Steps.{nothing}
use Rattle.core.specs.Sync.RawAtomic.{word, asks, always}
use Rattle.core.proofs.raw_atomic.Asked.{borrowed, Lies, Again}
use Rattle.boxcar.specs.Slot.{Phase, free, busy, full, Turn, written}
use Rattle.papaya_map_cells.specs.Slots.{Named, at, mark, told, Value, tie, lent, standing, Cell, kept}

abbrev head : Gv → Gv
head (gcons a b) = a
head gnil = gnil
head (gnum n) = gnil

-- the phase of a mark
abbrev sort : Gv → ℕ
sort gnil = 0
sort (gnum n) = 1
sort (gcons a b) = 2

module _ {M : Type 1} {𝓤 : Ura M} (𝓛 : Logic 𝓤) (R : RattleType) (l : Named) (t : Turn) (b o : ℕ) where
  open 𝓛 use {H, A}

  abbrev Pr : Type 2
  Pr = SProp 𝓤

  abbrev ◌⊢◌ : Pr → Pr → Type 1
  P ⊢ Q = ent 𝓤 P Q

  abbrev ◌∗◌ : Pr → Pr → Pr
  P ∗ Q = sep 𝓤 P Q

  abbrev ⟦◌⟧ : Fml → Pr
  ⟦ P ⟧ = sem 𝓛 P

  infix 26 ◌⊢◌
  infixr 35 ◌∗◌
  abbrev α : Lft
  α = t.0

  abbrev γ : GName
  γ = l.id

  abbrev I : Fml
  I = Cell R l t b o

  abbrev S : Type 0
  S = Phase R.Denot

  pub kept_dup : (κ : Lft) → ⟦ kept R l t b o κ ⟧ ⊢ ⟦ kept R l t b o κ ⟧ ∗ ⟦ kept R l t b o κ ⟧
  kept_dup κ = qed 𝓛 (‵ (kept R l t b o κ) ∷ []) ∵ fsplit ! $
      use1 𝓛 (‵ (before κ α) ⊛ ‵ (before κ α)) (before_dup 𝓛 κ α) $ split ! $ move ! (2 ∷ []) $
      use1 𝓛 (‵ (finv (fbor α I)) ⊛ ‵ (finv (fbor α I))) (𝓛.invs.inv_dup (fbor α I)) $ split ! $
      move ! (2 ∷ 0 ∷ []) $ fjoin ! $ move ! (2 ∷ 1 ∷ []) $ fjoin ! $ done !

  abbrev Next : Fml → S → Pr
  Next after s = ⟦ standing R l t b o s ⟧ ∗ ⟦ after ⟧

  -- the caller's resources after a load of its own word
  abbrev pub after_load : Share → ℕ → ℕ → ℕ → Fml → ℕ → Fml
  after_load q b' o' n after m = fsep (flft α q) (fsep (word b' o' n) after)

  stepped : (q : Share) (b' o' n : ℕ) (after : Fml) (X : Pr)
      → ((s : S) → ⟦ standing R l t b o s ⟧ ∗ X ⊢ upd 𝓤 (ex 𝓤 (Next after)))
      → A.inv (fbor α I) ∗ (A.lft α q ∗ (⟦ word b' o' n ⟧ ∗ X))
      ⊢ asks 𝓛 (block_ptr b' o') (λ m. m) always (after_load q b' o' n after)
  stepped q b' o' n after X law =
      let W : Fml = word b' o' n in
      let then : ℕ → Fml = λ m. fsep W after in
      let G : Pr = ex 𝓤 (Lies 𝓛 α q I b' o' (λ m. m) always then) in
      let Z : Pr = ⟦ I ⟧ ∗ ⟦ then n ⟧ in
      borrowed 𝓛 α q I b' o' (λ m. m) always then (⟦ W ⟧ ∗ X)
      (qed 𝓛 (‵ I ∷ ‵ W ∷ raw X ∷ []) ∵ fpick ! (λ s. move ! (0 ∷ 2 ∷ []) $
      use2 𝓛 (raw (upd 𝓤 (ex 𝓤 (Next after)))) (law s) $
      settle 𝓛 G (some (λ (u : S). ‵ (standing R l t b o u) ⊛ ‵ after)) $ suffices ! _ (upd_i 𝓤 G) $ pick ! (λ u. split ! $
      fpack ! S (standing R l t b o) u $ move ! (2 ∷ []) $
      show ! (Lies 𝓛 α q I b' o' (λ m. m) always then) n $ frame ! $
      each ! (λ (_ : Unit {0}). Again 𝓛 α q I b' o' (λ m. m) always then n) (λ _. assume ! (‵ W) $
      suffices ! _ (upd_i 𝓤 Z) $ move ! (1 ∷ []) $ frame ! $ fjoin ! $ done !))))

  -- the right to write, and the place
  abbrev pub Taken : Fml
  Taken = fsep (fobs γ (gnum 0)) (fsep (tie R l t b o free) (lent R l t b o free))

  takes : (s : S) → ⟦ standing R l t b o s ⟧ ∗ ⟦ ticket l.counter l.number ⟧ ⊢ upd 𝓤 (ex 𝓤 (Next Taken))
  takes free = let K : Fml = ticket l.counter l.number in let G : Pr = ex 𝓤 (Next Taken) in
      qed 𝓛 (‵ (standing R l t b o free) ∷ ‵ K ∷ []) ∵ fsplit3 ! $ move ! (1 ∷ 0 ∷ []) $
      use2 𝓛 (raw (upd 𝓤 (A.obs γ (gnum 0) ∗ A.auth γ (gnum 0)))) (𝓛.names.name_set_upd γ gnil gnil (gnum 0)) $
      settle 𝓛 G (‵ (fobs γ (gnum 0)) ⊛ ‵ (fauth γ (gnum 0))) $ suffices ! _ (upd_i 𝓤 G) $ split ! $
      -- [the right; the mark; the place; the ticket]
      show ! (Next Taken) busy $ nothing ! $ nothing ! $ fjoin ! $ move ! (4 ∷ 0 ∷ []) $ fjoin ! $ move ! (2 ∷ 0 ∷ []) $ fjoin ! $
      frame ! $ fjoin ! $ done !
  takes busy = let K : Fml = ticket l.counter l.number in
      qed 𝓛 (‵ (standing R l t b o busy) ∷ ‵ K ∷ []) ∵ fsplit3 ! $ move ! (1 ∷ 3 ∷ []) $
      use2 𝓛 (raw (never 𝓤)) (ticket_once 𝓛 l.counter l.number) $ keep ! (0 ∷ []) $ by ! (never_e 𝓤 _)
  takes (full x) = let K : Fml = ticket l.counter l.number in
      qed 𝓛 (‵ (standing R l t b o (full x)) ∷ ‵ K ∷ []) ∵ fsplit3 ! $ move ! (1 ∷ []) $ fsplit ! $ move ! (0 ∷ 4 ∷ []) $
      use2 𝓛 (raw (never 𝓤)) (ticket_once 𝓛 l.counter l.number) $ keep ! (0 ∷ []) $ by ! (never_e 𝓤 _)

  -- the thread with the ticket takes the place
  pub takes_place : (q : Share) (b' o' n : ℕ)
      → A.inv (fbor α I) ∗ (A.lft α q ∗ (⟦ word b' o' n ⟧ ∗ ⟦ ticket l.counter l.number ⟧))
      ⊢ asks 𝓛 (block_ptr b' o') (λ m. m) always (after_load q b' o' n Taken)
  takes_place q b' o' n = stepped q b' o' n Taken ⟦ ticket l.counter l.number ⟧ takes

  abbrev pub frozen : R.Denot → Fml
  frozen x = fsep (tie R l t b o (full x)) (lent R l t b o (full x))

  -- the place, with a value, becomes the shared value
  pub freezes : (k : Lft) → Shares 𝓛 R k → (ts : Toks) → Incl (span ts) k → Incl (span ts) α → (x : R.Denot)
      → A.obs t.1 (R.coded.code x) ∗ A.bor α (Value R l t b o) ∗ lfts 𝓛 ts ⊢ H.⇛ (⟦ frozen x ⟧ ∗ lfts 𝓛 ts)
  freezes k shares ts inc sp x = let e : ℕ = at R o in let c = R.coded.code x in
      qed 𝓛 (‵ (fobs t.1 c) ∷ ‵ (fbor α (Value R l t b o)) ∷ raw (lfts 𝓛 ts) ∷ []) ∵ updating ! $
      use3 𝓛 (later (‵ (fobs t.1 c) ⊛ ‵ (fbor α (part_at R base.Fraction.full_share x b e)) ⊛ raw (lfts 𝓛 ts)))
      (settles 𝓛 (mem R) α ts sp t.1 x b e) $ await ! tt $ split ! $
      use1 𝓛 (‵ (fres t.1 c)) (𝓛.names.obs-res t.1 c) $ move ! (1 ∷ []) $
      use1 𝓛 (later (‵ (shared_of R x b e α) ⊛ raw (lfts 𝓛 ts))) (shares x α ts b e inc sp) $ await ! tt $ split ! $
      move ! (2 ∷ 0 ∷ []) $ fjoin ! $ now ! $ done !

  -- a holder of the right finds the slot busy
  abbrev Writing : R.Denot → Fml
  Writing x = fsep (fobs γ (gnum 0)) (frozen x)

  gives : (x : R.Denot) (s : S) → gnum 0 ≡ mark R s
      → ⟦ standing R l t b o s ⟧ ∗ ⟦ Writing x ⟧ ⊢ upd 𝓤 (ex 𝓤 (Next (written R γ x)))
  gives x free e = absurd (let z : 1 ≡ 0 = ap sort e in omega arith)
  gives x (full y) e = absurd (let z : 1 ≡ 2 = ap sort e in omega arith)
  gives x busy e = let c : Gv = mark R (full x) in let G : Pr = ex 𝓤 (Next (written R γ x)) in
      qed 𝓛 (‵ (standing R l t b o busy) ∷ ‵ (Writing x) ∷ []) ∵ fsplit3 ! $ move ! (3 ∷ []) $ fsplit3 ! $ move ! (0 ∷ 3 ∷ []) $
      use2 𝓛 (raw (upd 𝓤 (A.obs γ c ∗ A.auth γ c))) (𝓛.names.name_set_upd γ (gnum 0) (gnum 0) c) $
      settle 𝓛 G (‵ (fobs γ c) ⊛ ‵ (fauth γ c)) $ suffices ! _ (upd_i 𝓤 G) $ split ! $
      use1 𝓛 (‵ (fres γ c)) (𝓛.names.obs-res γ c) $ res_dup ! $
      -- [written; written; the mark; the tie; `lent`; the ticket; nothing]
      show ! (Next (written R γ x)) (full x) $ move ! (3 ∷ 4 ∷ []) $ fjoin ! $ move ! (4 ∷ 1 ∷ []) $ fjoin ! $
      move ! (3 ∷ 0 ∷ 1 ∷ []) $ fjoin3 ! $ frame ! $ keep ! (0 ∷ []) $ done !

  gives_at : (x : R.Denot) (s : S) → ⟦ standing R l t b o s ⟧ ∗ ⟦ Writing x ⟧ ⊢ upd 𝓤 (ex 𝓤 (Next (written R γ x)))
  gives_at x s = qed 𝓛 (‵ (standing R l t b o s) ∷ ‵ (Writing x) ∷ []) ∵ fsplit ! $ move ! (2 ∷ []) $ fsplit ! $ move ! (0 ∷ 2 ∷ []) $
      use2 𝓛 (given (gnum 0 ≡ mark R s) (‵ (fobs γ (gnum 0)) ⊛ ‵ (fauth γ (mark R s)))) (𝓛.names.name_agree γ (gnum 0) (mark R s)) $
      learn ! (λ e. split ! $ move ! (0 ∷ 2 ∷ []) $ fjoin ! $ move ! (1 ∷ 2 ∷ []) $ fjoin ! $ move ! (0 ∷ 1 ∷ []) $ by ! (gives x s e))

  -- the thread that has written shares the value, and has the token
  pub shares_value : (q : Share) (b' o' n : ℕ) (x : R.Denot)
      → A.inv (fbor α I) ∗ (A.lft α q ∗ (⟦ word b' o' n ⟧ ∗ ⟦ Writing x ⟧))
      ⊢ asks 𝓛 (block_ptr b' o') (λ m. m) always (after_load q b' o' n (written R γ x))
  shares_value q b' o' n x = stepped q b' o' n (written R γ x) ⟦ Writing x ⟧ (gives_at x)

  module _ (K : RowLaws R) where
    shows : (y : R.Denot) → ⟦ standing R l t b o (full y) ⟧ ⊢ ⟦ standing R l t b o (full y) ⟧ ∗ ⟦ lent R l t b o (full y) ⟧
    shows y = let L : Lft → Fml = shared_of R y b (at R o) in
        qed 𝓛 (‵ (standing R l t b o (full y)) ∷ []) ∵ fsplit3 ! $ move ! (2 ∷ []) $ fsplit ! $ move ! (1 ∷ []) $
        use1 𝓛 (‵ (L α) ⊛ ‵ (L α)) (contraction 𝓛 L (K y b (at R o)) α) $ split ! $
        -- [`lent`, twice; the tie; the mark; `told`]
        move ! (2 ∷ 0 ∷ []) $ fjoin ! $ move ! (2 ∷ 3 ∷ 0 ∷ []) $ fjoin3 ! $ frame ! $ done !

    finds : (x : R.Denot) (s : S) → mark R (full x) ≡ mark R s
        → ⟦ standing R l t b o s ⟧ ⊢ ⟦ standing R l t b o s ⟧ ∗ ⟦ lent R l t b o (full x) ⟧
    finds x free e = absurd (let z : 2 ≡ 0 = ap sort e in omega arith)
    finds x busy e = absurd (let z : 2 ≡ 1 = ap sort e in omega arith)
    finds x (full y) e = subst (λ (u : R.Denot).
        ⟦ standing R l t b o (full y) ⟧ ⊢ ⟦ standing R l t b o (full y) ⟧ ∗ ⟦ lent R l t b o (full u) ⟧)
        (sym (R.coded.inj x y (ap head e))) (shows y)

    -- a token finds the shared value
    pub finds_written : (q : Share) (b' o' n : ℕ) (x : R.Denot)
        → A.inv (fbor α I) ∗ (A.lft α q ∗ (⟦ word b' o' n ⟧ ∗ ⟦ written R γ x ⟧))
        ⊢ asks 𝓛 (block_ptr b' o') (λ m. m) always (after_load q b' o' n (lent R l t b o (full x)))
    finds_written q b' o' n x = stepped q b' o' n (lent R l t b o (full x)) ⟦ written R γ x ⟧ (λ s.
        let N : S → Pr = Next (lent R l t b o (full x)) in
        qed 𝓛 (‵ (standing R l t b o s) ∷ ‵ (written R γ x) ∷ []) ∵ suffices ! _ (upd_i 𝓤 (ex 𝓤 N)) $ fsplit ! $ move ! (2 ∷ 0 ∷ []) $
        use2 𝓛 (given (mark R (full x) ≡ mark R s) (‵ (written R γ x) ⊛ ‵ (fauth γ (mark R s))))
        (𝓛.names.res_agree γ (mark R (full x)) (mark R s)) $ learn ! (λ e. split ! $ drop ! $ fjoin ! $
        show ! N s $ by ! (finds x s e)))
