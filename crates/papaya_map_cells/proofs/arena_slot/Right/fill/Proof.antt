-- `fill` takes the place with the ticket, writes there, shares the value, and returns the token.
use Rattle.std.proofs.Common.{◌≡◌, ℕ, List, [], ◌∷◌, ◌++◌, sym, refl, lit<, subst, w64}
use mir.Syntax.{a_type}
use mir.Val.{Val, vint, vptr, vstruct, vcons, vnil, of_list}
use mir.MapTy.{inst_fn}
use base.Fraction.{full_share}
use base.Logic.{SProp, ent, wand, emp, via, apply∗, id⊢}
use base.Fml.{Lft, Share, Fml, Incl-trans, ftrue, feq, fsep, flft, fbor, finv}
use prog.Wp.{WpFn}
use types.Keyed.{ticket}
use types.Kit.{mean, ‵, raw, ◌⊛◌, some, later, at_ret, ◌$◌, ◌∵◌, !, qed, by, move, keep, use0, use1, use2, use3}
use types.Kit.{split, split3, join, fsplit, fsplit3, fjoin, fpick, fpack, pick, learn, await, rewrite, feq_i}
use types.Run.{stop, from, fld, load, addr, lit, of_opd, no_more, and_then, first, blocks, exec, calls, returns, enter}
use types.Run.{assigns, store_raw, look_raw}
use types.ByLocal.{alloc_all, pass_all, free_all, look_at, take_at, give_at, get, through, sets, sets_last, lands_as, env}
use types.Part.{agg}
use contract.BorrowLft.{◌⊑◌, meet_⊑_left, meet_⊑_right}
use contract.Monad.{fact, fact_i}
use contract.Running.{tables}
use contract.Shared.{Lends-one}
use denote.Builtin.{RefOf, unit}
use denote.Exit.{yes, no}
use denote.Laws.{Is, shows}
use denote.Memory.{cell_at}
use denote.Opens.{unhide}
use denote.Param.{param, layouts, layout}
use denote.Param.Laws.{param_laws}
use denote.RattleType.{RattleType, Valss, owns}
use denote.RawPtr.{block_ptr}
use denote.Signature.{types_at, plain}
use denote.Steps.{nothing, heard, peeks, opens, closes}
use denote.Struct.Tuple.{Tuple, tuple_laws}
use denote.Triple.Walked.{Stays, stay_dropped, walk_of, Goes-dropped}
use Rattle.core.proofs.atomic.Steps.{tail}
use Rattle.core.proofs.cell.Inside.{Good, one}
use Rattle.atomic_table.proofs.Walks.{proved_at, leaves}
use Rattle.atomic_table.proofs.Calls.{fm, seq_cst, found, loads}
use Rattle.boxcar.specs.Slot.{written}
use Rattle.logbook.proofs.Fields.{token_told}
use Rattle.papaya_map_cells.specs.Slots.{Named, at, Cell}
use Rattle.papaya_map_cells.specs.contracts.arena_slot.Right as Right
use Rattle.papaya_map_cells.specs.contracts.arena_slot.ArenaSlot.{the_row}
use Rattle.papaya_map_cells.specs.contracts.arena_slot.Written as Written
use Rattle.papaya_map_cells.proofs.Made.{token_val, written_made}
use Rattle.papaya_map_cells.proofs.Steps as steps
use Rattle.papaya_map_cells.proofs.arena_slot.Written.TheLaws.{the_row_laws as written_laws}
use Rattle.papaya_map_cells.specs.contracts.arena_slot.Right.fill.{ended, clauses}
use Rattle.papaya_map_cells.specs.contracts.arena_slot.Right.fill.Key.{name as #self}
use Rattle.papaya_map_cells.proofs.arena_slot.Right.fill.Statement.{statement}
use Rattle.papaya_map_cells.proofs.arena_slot.Right.fill.Code as code

pub fill_spec : {M : Type 1} → statement M
fill_spec 𝓤 𝓛 𝓜 𝓡 wired T L =
    let H = 𝓛.H in let A = 𝓛.A in let 𝓣 = tables 𝓤 H 𝓜 𝓡 𝓡.env in
    let R : RattleType = param 0 T in let LR = param_laws 0 T L in let En = ended T in let W : RattleType = Written.the_row R in
    let inst = layouts (a_type ∷ []) (T, tt) in let fn = inst_fn inst code.function in let c = clauses T 𝓛 𝓜.mem 𝓡.returns in
    let self = plain (λ _. Right.the_row) in let slot = RefOf (0 ∷ []) tt (plain (λ _. the_row R)) (λ _. tt) in
    let value = plain (λ _. R) in
    let hs : Stays En.signature.params En.kept = (stay_dropped self yes, (stay_dropped slot yes, (stay_dropped value no, tt))) in
    proved_at 𝓛 En hs c 𝓜 𝓡 (
      Goes-dropped 𝓛 2 self yes (λ κs x f. refl),
      (Goes-dropped 𝓛 2 slot yes (λ κs x f. refl), (Goes-dropped 𝓛 2 value no (λ κs x f. refl), tt)),
    ) (#self inst) fn (code.unfolded 𝓤 H 𝓜 𝓡 wired (T, tt))
    (λ y₀ are. let κs = y₀.0.0 in let qs = y₀.0.1 in let a = y₀.0.3 in
    let d : Named = a.1.0.now in let b : ℕ = a.1.0.ref_ptr.0 in let o : ℕ = a.1.0.ref_ptr.1 in let e : ℕ = at R o in
    let κ : Lft = κs.0 in let q : Share = qs.0 in let τ : Lft = κs.1.0 in let r : Share = qs.1.0 in
    let x : T.Denot = a.1.1.0 in
    let got = one (layout T) y₀.0.4.1.1.0 ((LR.lawful 𝓛).typed x y₀.0.4.1.1.0 are.1.1.0) in
    let w : Val = got.0 in let good : Good (layout T) w = got.2 in
    let At : List Val × (List Val × (List Val × Unit {0})) → (walk_of 𝓛 En hs c).Ghost = λ vss. ((κs, qs, y₀.0.2, a, vss), y₀.1) in
    let y : (walk_of 𝓛 En hs c).Ghost = At (token_val ∷ [], (vptr b o ∷ [], (w ∷ [], tt))) in
    let Post : Val → SProp 𝓤 = (walk_of 𝓛 En hs c).post y in
    let Asked : Type 0 = (a.0.counter ≡ d.counter) × (a.0.number ≡ d.number) in
    subst (λ (vss : List Val × (List Val × (List Val × Unit {0}))).
    ent 𝓤 ((walk_of 𝓛 En hs c).pre (At vss)) (WpFn 𝓤 H 𝓣.C 𝓣.Λ fn ((walk_of 𝓛 En hs c).args (At vss)) ((walk_of 𝓛 En hs c).post (At vss))))
    (λ i. (sym (token_told unit y₀.0.4.0 are.0.0) i, (sym are.1.0.0 i, (sym got.1 i, tt)))) (
    qed 𝓛 (((‵ (flft κ q) ⊛ ‵ (flft τ r) ⊛ ‵ ftrue) ⊛ ‵ (owns (types_at En.signature.params κs) a y.0.4))
    ∷ raw (fact 𝓤 (τ ⊑ T.lives)) ∷ raw (fact 𝓤 Asked) ∷ []) ∵
    keep ! (1 ∷ 2 ∷ 0 ∷ []) $ heard ! (τ ⊑ T.lives) (λ inc. heard ! Asked (λ asked. split ! $ split3 ! $ move ! (3 ∷ []) $
    fsplit3 ! $ fsplit ! $ move ! (2 ∷ []) $ fsplit ! $ move ! (4 ∷ []) $ fsplit ! $ keep ! (3 ∷ 6 ∷ 7 ∷ 8 ∷ 0 ∷ 5 ∷ []) $
    rewrite ! 5 (λ (k : ℕ). ‵ (ticket k a.0.number)) asked.0 refl $
    rewrite ! 5 (λ (n : ℕ). ‵ (ticket d.counter n)) asked.1 refl $
    unhide ! $ fpick ! (λ t. let α : Lft = t.0 in let I : Fml = Cell R d t b o in fsplit ! $
    move ! (1 ∷ []) $ use1 𝓛 (‵ (finv (fbor α I)) ⊛ ‵ (finv (fbor α I))) (𝓛.invs.inv_dup (fbor α I)) $ split ! $
    enter ! 𝓣.C 𝓣.Λ fn (token_val ∷ vptr b o ∷ w ∷ []) Post $
    alloc_all ! (λ l. pass_all ! refl ((tt, (tt, tt)), ((tt, tt), (good, tt))) $ let Ev = env fn.locals l in
    move ! (2 ∷ 3 ∷ []) $
    use2 𝓛 (later (some (λ (s : Share). ‵ (flft α s) ⊛ raw (wand 𝓤 (A.lft α s) (H.⇛ (A.lft κ q))))))
    (Lends-one 𝓛 𝓜 𝓡 κ α q) $ await ! tt $ pick ! (λ s. split ! $
    let Step : Fml → ℕ → Fml = steps.after_load 𝓛 R d t b o s (l 5) 0 0 in
    -- [the turn's token; the way back; the invariant, twice; T's token; nothing; the value; the ticket]
    sets ! (addr ! (through ! refl (stop !))) refl (tt, tt) $ sets ! (of_opd ! (lit ! tt)) refl (tt, record { fits = lit< tt }) $
    first ! $ blocks ! $ sets ! (addr ! (from ! (stop !))) refl (tt, tt) $
    sets ! (agg ! (and_then ! (lit ! tt) (no_more !))) refl (tt, (record { fits = lit< tt }, tt)) $
    take_at ! 5 $ move ! (0 ∷ 8 ∷ []) $ join ! $ move ! (3 ∷ 1 ∷ 0 ∷ []) $ let Taken : Fml = steps.Taken 𝓛 R d t b o in
    use3 𝓛 (raw (𝓣.C _ (vptr (l 5) 0 ∷ seq_cst ∷ []) (λ u. mean 𝓛 (found (Step Taken) u))))
    (via 𝓤 _ (steps.takes_place 𝓛 R d t b o s (l 5) 0 0)
    (loads 𝓛 𝓜 𝓡 (code.calls-core::raw_atomic::load 𝓡.env wired) (block_ptr (l 5) 0) (Step Taken))) $
    calls ! (fm 𝓛 𝓜 𝓡) (found (Step Taken)) (and_then ! (get ! refl) (and_then ! (get ! refl) (no_more !))) (λ u.
    await ! tt $ pick ! (λ n. learn ! (λ en. lands_as ! (sym en.0) refl (tt, record { fits = en.1 }) $
    fsplit3 ! $ move ! (1 ∷ []) $ give_at ! 5 $
    -- [the turn's token; the place; the way back; the invariant; T's token; nothing; the value]
    sets ! (addr ! (through ! refl (fld ! refl (stop !)))) refl (tt, tt) $
    move ! (1 ∷ []) $ fsplit3 ! $ move ! (1 ∷ []) $ fpick ! (λ old. move ! (0 ∷ 2 ∷ 3 ∷ []) $
    opens ! tt R b e (λ vs. move ! (1 ∷ []) $ peeks ! R (Is R) (shows 𝓛 R) old vs (λ is.
    let was = one (layout T) vs ((LR.lawful 𝓛).typed old vs is) in let v : Val = was.0 in
    rewrite ! 0 (λ (us : List Val). ‵ (R.own_val old us)) was.1 refl $
    rewrite ! 1 (λ (us : List Val). ‵ (cell_at full_share R.mir us b e)) was.1 refl $ move ! (1 ∷ []) $
    -- [the cell; the blank; open, in three; the right; the way back; the invariant; T's token; nothing; the value]
    sets ! (of_opd ! (load ! (through ! refl (stop !)) (look_raw ! 0 refl))) refl was.2 $
    sets ! (of_opd ! (get ! refl)) refl good $
    assigns ! (of_opd ! (get ! refl)) (through ! refl (stop !)) (store_raw ! 0 refl good) $
    move ! (0 ∷ 10 ∷ 2 ∷ 3 ∷ 4 ∷ []) $ closes ! tt R x (w ∷ []) b e $
    -- [the name; the borrow; the turn's token; the blank; the right; the way back; the invariant; T's token; nothing]
    move ! (2 ∷ 7 ∷ []) $ join ! $ move ! (1 ∷ 2 ∷ 0 ∷ []) $ let F : Fml = steps.frozen 𝓛 R d t b o x in
    use3 𝓛 (later (‵ F ⊛ ‵ (flft α s) ⊛ ‵ (flft τ r)))
    (steps.freezes 𝓛 R d t b o R.lives (LR.shares 𝓛) ((α, s) ∷ (τ, r) ∷ []) (Incl-trans (meet_⊑_right α τ) inc) (meet_⊑_left α τ) x) $
    await ! tt $ split3 ! $
    -- [frozen; the turn's token; T's token; the blank; the right; the way back; the invariant; nothing]
    sets ! (addr ! (from ! (stop !))) refl (tt, tt) $
    sets ! (agg ! (and_then ! (lit ! tt) (no_more !))) refl (tt, (record { fits = lit< tt }, tt)) $
    take_at ! 5 $ move ! (5 ∷ 1 ∷ []) $ fjoin ! $ move ! (1 ∷ 0 ∷ []) $ join ! $ move ! (5 ∷ 1 ∷ 0 ∷ []) $
    let After : ℕ → Fml = Step (written R d.id x) in
    use3 𝓛 (raw (𝓣.C _ (vptr (l 5) 0 ∷ seq_cst ∷ []) (λ u. mean 𝓛 (found After u))))
    (via 𝓤 _ (steps.shares_value 𝓛 R d t b o s (l 5) 0 0 x)
    (loads 𝓛 𝓜 𝓡 (code.calls-core::raw_atomic::load 𝓡.env wired) (block_ptr (l 5) 0) After)) $
    calls ! (fm 𝓛 𝓜 𝓡) (found After) (and_then ! (get ! refl) (and_then ! (get ! refl) (no_more !))) (λ u.
    await ! tt $ pick ! (λ n. learn ! (λ en. lands_as ! (sym en.0) refl (tt, record { fits = en.1 }) $
    fsplit3 ! $ move ! (1 ∷ []) $ give_at ! 5 $
    -- [the turn's token; written; T's token; the blank; the way back; nothing]
    move ! (0 ∷ 4 ∷ []) $ use2 𝓛 (later (‵ (flft κ q))) (apply∗ 𝓤 (A.lft α s) (H.⇛ (A.lft κ q))) $ await ! tt $
    move ! (2 ∷ 4 ∷ []) $ join ! $ move ! (1 ∷ 0 ∷ []) $ join ! $ move ! (1 ∷ []) $
    use1 𝓛 (‵ (W.own_val (record { marker = record {}; of = d.id; value = x }) (token_val ∷ []))) (written_made 𝓛 R d.id x) $
    -- [the token; the tokens; the blank]
    let made : W.Denot = record { marker = record {}; of = d.id; value = x } in
    let both : Val = vstruct (vcons token_val (vcons v vnil)) in let Pair : RattleType = Tuple (W ∷ R ∷ []) in
    nothing ! $ move ! (3 ∷ 0 ∷ []) $ fjoin ! $ move ! (1 ∷ 0 ∷ []) $ fjoin ! $ feq_i ! (List Val) (both ∷ []) (both ∷ []) refl $ fjoin ! $
    fpack ! (Valss (W ∷ R ∷ []))
    (λ vss. fsep (feq (List Val) (both ∷ []) (vstruct (of_list (vss.0 ++ (vss.1.0 ++ []))) ∷ [])) (owns (W ∷ R ∷ []) (made, (old, tt)) vss))
    (token_val ∷ [], (v ∷ [], tt)) $ use1 𝓛 (‵ (Pair.own_val (made, old) (both ∷ []))) (id⊢ 𝓤 _) $
    peeks ! Pair (Is Pair) (shows 𝓛 Pair) (made, old) (both ∷ []) (λ is-both.
    let fit = ((tuple_laws (W ∷ R ∷ []) (written_laws R LR, (LR, tt))).lawful 𝓛).typed (made, old) (both ∷ []) is-both in
    let Told : Type 0 = (d.id ≡ d.id) × (x ≡ x) in
    sets ! (agg ! (no_more !)) refl (tt, tt) $ sets ! (agg ! (and_then ! (get ! refl) (no_more !))) refl (tt, (tt, tt)) $
    sets ! (of_opd ! (get ! refl)) refl was.2 $
    sets_last ! (agg ! (and_then ! (get ! refl) (and_then ! (get ! refl) (no_more !)))) refl fit.0 $
    exec ! 𝓣.C 𝓣.Λ Ev (tail (tail (tail fn.body))) (at_ret Ev Post) $ sets ! (of_opd ! (get ! refl)) refl fit.0 $
    use0 𝓛 (raw (fact 𝓤 Told)) (fact_i 𝓤 Told (emp 𝓤) (refl, refl)) $
    nothing ! $ nothing ! $ fjoin ! $ nothing ! $ fjoin ! $ nothing ! $ fjoin ! $
    returns ! (look_at ! 0 refl) $ free_all ! refl $ keep ! (3 ∷ 0 ∷ 2 ∷ 1 ∷ []) $
    by ! (leaves 𝓛 En hs c y both (made, old) (tt, (tt, (tt, tt))) (tt, (tt, (tt, tt)))))))))))))))))))))
