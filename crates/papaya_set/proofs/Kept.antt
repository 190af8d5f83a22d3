-- The result of `retain` on a map whose closure passes keys on to another closure.
use Rattle.std.proofs.Common.{◌≡◌, Bool, true, false, cond, List, [], ◌∷◌, Result, Ok, Err, OnOk, refl, ap, ◌∙◌}
use Prim.Native.Nat.{suc}
use denote.Ref.{Bor}
use denote.Param.Always.{always_mut, mut_by, mut_next}
use Rattle.std.specs.Fn.{Called, CalledAt, Mut}
use Rattle.std.specs.List.{items_where_true}
use Rattle.std.specs.List.Retain.{IsFiltered}
use Rattle.papaya_core_store.specs.Store.{StoreState, Stored}
use Rattle.papaya_seq.specs.Retains.{IsRetained, Retains}
use Rattle.papaya_set.specs.Sets.{AreKept}

-- the closure of a map, `w`, calls the closure of keys, `f`, that it holds
module _ {F W K : Type 0} (g : Mut F (Bor K × Unit {0}) Bool) (h : Mut W (Bor K × (Bor (Unit {0}) × Unit {0})) Bool) (of : W → F)
    (asks : (w w' : W) (key : Bor K) (value : Bor (Unit {0})) (agrees : Bool) → Called h w (key, (value, tt)) agrees w'
    → Called g (of w) (key, tt) agrees (of w')) where
  -- it may be called in each state in which that one may be
  pub callable : ((w : W) (key : Bor K) (value : Bor (Unit {0})) → always_mut g (of w) → h.pre w (key, (value, tt))) → (w : W) → always_mut g (of w)
      → always_mut h w
  callable may =
      mut_by h (λ v. always_mut g (of v)) (λ v a always. may v a.0 a.1.0 always)
      (λ v a agrees v' always called. mut_next g (of v) (a.0, tt) agrees (of v') (of v') (asks v v' a.0 a.1.0 agrees called) refl always)

  -- a result of the one is a result of the other
  abbrev Asked : F → Stored K (Unit {0}) → Bool → F → Type 0
  Asked f p agrees f' = CalledAt g f p.key agrees f'

  chosen : (agrees : Bool) (p : Stored K (Unit {0})) (ps rest : List (Stored K (Unit {0}))) (bs : List Bool) → rest ≡ items_where_true bs ps
      → cond agrees (p ∷ rest) rest ≡ items_where_true (agrees ∷ bs) (p ∷ ps)
  chosen true p ps rest bs is = ap (λ l. p ∷ l) is
  chosen false p ps rest bs is = is

  filtered : (w : W) (shown left : List (Stored K (Unit {0}))) (w' : W) → Retains h w shown left w' → IsFiltered Asked (of w) shown left
  filtered w [] left w' (none, same) = ([], of w, refl, refl, none)
  filtered w (p ∷ ps) left w' (agrees, later, rest, said, retains, is) =
      let r = filtered later ps rest w' retains in (
        agrees ∷ r.0,
        r.1,
        ap suc r.2,
        (of later, record { shown = said.key; shows = said.key_is; called = asks w later said.key said.value agrees said.called }, r.3),
        is ∙ chosen agrees p ps rest r.0 r.4,
      )

  pub kept : {S : Type 0} (eq : K → K → Bool) (w : W) (s s' : StoreState K (Unit {0}) S) → IsRetained h eq w s s' → AreKept g eq (of w) s s'
  kept eq w s s' r = record {
    shown = r.shown;
    filtered = filtered w r.shown _ r.end r.retains;
    pairs = r.pairs;
    once = r.once;
    order = r.order;
  }

  pub kept_ok : {S T E : Type 0} (eq : K → K → Bool) (w : W) (s s' : StoreState K (Unit {0}) S) (done : Result T E)
      → OnOk done (IsRetained h eq w s s') → OnOk done (AreKept g eq (of w) s s')
  kept_ok eq w s s' (Ok t) r = kept eq w s s' r
  kept_ok eq w s s' (Err e) r = tt
