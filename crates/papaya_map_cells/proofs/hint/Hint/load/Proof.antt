-- `load` is one step, after which the rule's statement about the number is known.
use Rattle.std.proofs.Common.{ℕ, ◌^◌, Bool, false, List, [], ◌∷◌, sym, refl, subst, lit<, w64}
use mir.Syntax.{a_type, dcons, dnil, named}
use mir.Val.{Val, vint, vptr}
use mir.MapTy.{inst_fn}
use base.Logic.{SProp, wand, emp, via, apply∗}
use base.Fml.{Share, Fml, ftrue, fsep, fex, flft}
use types.Kit.{‵, raw, ◌⊛◌, some, given, later, mean, at_ret, ◌$◌, ◌∵◌, !, qed, by, move, keep}
use types.Kit.{drop, split, fsplit, fsplit3, fjoin, fjoin3, fpick, pick, learn, use2, use3, await}
use types.Kit.{rewrite, feq_i, flt_i}
use types.Run.{stop, addr, lit, of_opd, no_more, and_then, first, blocks, exec, Calls-last, returns, enter}
use types.ByLocal.{alloc_all, pass_all, free_all, look_at, get, through, sets, lands_last, env}
use types.Part.{agg}
use contract.Monad.{fact, fact_i}
use contract.Running.{tables}
use contract.Shared.{Lends-one}
use denote.Exit.{yes}
use denote.RattleType.{RattleType, owns}
use denote.Signature.{types_at, plain}
use denote.Builtin.{RefOf}
use denote.Ref.{mut_vals, mut_Tells, shr_vals, shr_Tells}
use denote.RawPtr.{block_ptr}
use denote.Opens.{unhide}
use denote.Steps.{nothing, opens, closes}
use denote.Param.{param, bounded}
use denote.Triple.Walked.{Stays, stay_dropped, stay_ref, walk_of, Goes-dropped, Goes-ref}
use Rattle.atomic_table.proofs.Walks.{proved}
use Rattle.atomic_table.proofs.Calls.{fm, seq_cst, found, finds, loads}
use Rattle.logbook.specs.Pages.{Grows}
use Rattle.logbook.specs.Kept.{rules, seen_owns}
use Rattle.logbook.specs.contracts.tokens.Seen as Seen
use Rattle.logbook.proofs.Steps as steps
use Rattle.logbook.proofs.Fields.{ends}
use Rattle.papaya_map_cells.specs.contracts.hint.Hint as Hint
use Rattle.papaya_map_cells.specs.contracts.hint.Hint.load.{ended, clauses}
use Rattle.papaya_map_cells.specs.contracts.hint.Hint.load.Key.{name as #self}
use Rattle.papaya_map_cells.specs.Untracked.{Says}
use Rattle.papaya_map_cells.proofs.Keyed.{after_first}
use Rattle.papaya_map_cells.proofs.hint.Hint.load.Statement.{statement}
use Rattle.papaya_map_cells.proofs.hint.Hint.load.Code as code

pub load_spec : {M : Type 1} → statement M
load_spec 𝓤 𝓛 𝓜 𝓡 wired E A P _ _ _ g d h d' _ _ =
    let 𝓣 = tables 𝓤 𝓛.H 𝓜 𝓡 𝓡.env in
    let E' : RattleType = param 0 E in
    let A' : RattleType = param 1 A in
    let P' : RattleType = param 2 P in
    let En = ended E A P g d h d' in
    let inst = bounded (a_type ∷ a_type ∷ a_type ∷ []) (E, (A, (P, tt))) (dcons d (dcons d' dnil)) in
    let fn = inst_fn inst code.function in
    let c = clauses E A P g d h d' 𝓛 𝓜.mem 𝓡.returns in
    let rule = rules g.holds g.shows g.keeps in
    let cv = E'.coded in
    let Book : RattleType = Seen.the_row E' A' P' g in
    let Mine : RattleType = Hint.the_row E' A' P' g h in
    let a_hint = RefOf (0 ∷ []) tt (plain (λ _. Mine)) (λ _. tt) in
    let hs : Stays En.signature.params En.kept =
    (stay_dropped a_hint yes, (stay_ref (1 ∷ []) tt (plain (λ _. Book)), tt)) in
    proved 𝓛 En hs c 𝓜 𝓡
    (Goes-dropped 𝓛 5 a_hint yes (λ κs x f. refl), (Goes-ref 𝓛 5 1 tt (plain (λ _. Book)), tt))
    (#self inst) fn (code.unfolded 𝓤 𝓛.H 𝓜 𝓡 wired (E, (A, (P, tt))) d d')
    (λ κs. (shr_vals, (mut_vals, tt)))
    (λ κs. (shr_Tells (named 0) κs.0 Mine, (mut_Tells (named 1) κs.1.0 Book, tt)))
    (λ κs qs bounds a gh are.
    let me = a.0.now in
    let at = a.0.ref_ptr in
    let seen = a.1.0.now in
    let at' = a.1.0.ref_ptr in
    let hinted : Bool → ℕ → List E.Denot → Type 0 = λ t. Says h.hinted_beside t me.key in
    let p : Val = vptr at.0 at.1 in
    let p' : Val = vptr at'.0 at'.1 in
    let y : (walk_of 𝓛 En hs c).Ghost = ((κs, qs, bounds, a, (p ∷ [], (p' ∷ [], tt))), gh) in
    let Post : Val → SProp 𝓤 = (walk_of 𝓛 En hs c).post y in
    let rest : Fml = fsep (flft κs.1.1.0 qs.1.1.0) (fsep (flft κs.1.1.1.0 qs.1.1.1.0)
    (fsep (flft κs.1.1.1.1.0 qs.1.1.1.1.0) ftrue)) in
    let toks : Fml = fsep (flft κs.0 qs.0) (fsep (flft κs.1.0 qs.1.0) rest) in
    qed 𝓛 ((‵ toks ⊛ ‵ (owns (types_at En.signature.params κs) a y.0.4))
    ∷ raw (fact 𝓤 _) ∷ raw (fact 𝓤 _) ∷ raw (fact 𝓤 _) ∷ given _ (‵ ftrue) ∷ []) ∵
    keep ! (4 ∷ 0 ∷ []) $ learn ! (λ asked. drop ! $ split ! $
    fsplit ! $ move ! (1 ∷ []) $ fsplit ! $ move ! (3 ∷ []) $ fsplit ! $ fsplit ! $
    move ! (2 ∷ []) $ fsplit ! $ fsplit3 ! $ keep ! (1 ∷ 2 ∷ 5 ∷ 6 ∷ 7 ∷ 8 ∷ []) $
    enter ! 𝓣.C 𝓣.Λ fn (p ∷ p' ∷ []) Post $ alloc_all ! (λ l.
    pass_all ! refl ((tt, tt), ((tt, tt), tt)) $ let Ev = env fn.locals l in
    move ! (2 ∷ []) $ unhide ! $ fpick ! (λ t. fsplit3 ! $
    move ! (1 ∷ []) $ fpick ! (λ past. drop ! $
    move ! (0 ∷ 6 ∷ []) $
    use2 𝓛 (later (some (λ (s : Share). ‵ (flft t.0 s)
    ⊛ raw (wand 𝓤 (𝓛.A.lft t.0 s) (𝓛.H.⇛ (𝓛.A.lft κs.0 qs.0))))))
    (Lends-one 𝓛 𝓜 𝓡 κs.0 t.0 qs.0) $
    await ! tt $ pick ! (λ s. split ! $
    move ! (3 ∷ 4 ∷ 5 ∷ []) $ opens ! tt Book at'.0 at'.1 (λ vs. move ! (1 ∷ []) $ fsplit ! $ move ! (1 ∷ []) $
    rewrite ! 0 (λ (z : _). ‵ (seen_owns cv.code rule z seen.names seen.log)) asked.1 refl $
    let out : ℕ → Fml = λ n. fsep (flft t.0 s) (fex (List E.Denot)
    (steps.heard 𝓛 cv rule me.book seen.names (hinted me.tracked) false me.key at.0 at.1 t.0 s t.1 seen.log n)) in
    first ! $ blocks ! $ sets ! (addr ! (through ! refl (stop !))) refl (tt, tt) $
    sets ! (of_opd ! (get ! refl)) refl (tt, tt) $
    move ! (8 ∷ 6 ∷ 0 ∷ []) $
    use3 𝓛 (raw (𝓣.C _ (p ∷ seq_cst ∷ []) (λ u. mean 𝓛 (found out u))))
    (via 𝓤 _
    (steps.hears 𝓛 cv rule me.book seen.names (hinted me.tracked) false me.key at.0 at.1 t.0 s t.1 seen.log refl
    past (subst (λ (t : Bool). Grows (hinted t)) (sym asked.0) asked.2))
    (loads 𝓛 𝓜 𝓡 (code.calls-std::sync::atomic::raw::load 𝓡.env wired) (block_ptr at.0 at.1) out)) $
    sets ! (agg ! (and_then ! (lit ! tt) (no_more !))) refl (tt, (record { fits = lit< tt }, tt)) $
    Calls-last ! (fm 𝓛 𝓜 𝓡) (found out) (and_then ! (get ! refl) (and_then ! (get ! refl) (no_more !)))
    (λ u. finds ! out (λ n fits. lands_last ! refl (tt, record { fits = fits }) $
    exec ! 𝓣.C 𝓣.Λ Ev (after_first fn.body) (at_ret Ev Post) $
    sets ! (of_opd ! (get ! refl)) refl (tt, record { fits = fits }) $
    fsplit ! $ move ! (0 ∷ 7 ∷ []) $
    use2 𝓛 (later (‵ (flft κs.0 qs.0))) (apply∗ 𝓤 (𝓛.A.lft t.0 s) (𝓛.H.⇛ (𝓛.A.lft κs.0 qs.0))) $
    await ! tt $ move ! (1 ∷ []) $ fpick ! (λ log. fsplit ! $ fpick ! (λ so. drop ! $
    let left : Book.Denot =
    record { marker = record {}; book = me.book; names = seen.names; log = log } in
    move ! (2 ∷ 0 ∷ []) $ fjoin ! $ move ! (2 ∷ 0 ∷ 3 ∷ 4 ∷ 5 ∷ []) $
    closes ! tt Book left vs at'.0 at'.1 $
    flt_i ! n (2 ^ 64) fits $ feq_i ! (List Val) (vint w64 n ∷ []) (vint w64 n ∷ []) refl $ fjoin ! $
    move ! (3 ∷ 5 ∷ []) $ fjoin ! $ move ! (4 ∷ 0 ∷ []) $ fjoin ! $ nothing ! $
    feq_i ! (List Val) (p' ∷ []) (p' ∷ []) refl $ move ! (0 ∷ 4 ∷ 5 ∷ []) $ fjoin3 ! $ fjoin ! $
    nothing ! $ fjoin ! $
    returns ! (look_at ! 0 refl) $ free_all ! refl $ keep ! (1 ∷ 0 ∷ 2 ∷ []) $
    by ! (ends 𝓛 En hs c y (vint w64 n) n (tt, (left, tt)) (tt, (tt, tt))
    (fact_i 𝓤 _ (emp 𝓤) ((sym asked.1, refl, so.0, subst (λ (t : Bool). hinted t n log) asked.0 so.1)))))))))))))))
