-- `track` puts a part of the pen's cell beside the word, in place of the observed log.
use Rattle.std.proofs.Common.{true, List, [], ◌∷◌, refl, inr}
use mir.Syntax.{a_type, dcons, dnil, named}
use mir.Val.{Val, vunit, vptr}
use mir.MapTy.{inst_fn}
use base.Logic.{SProp, emp}
use base.Fml.{Fml, ftrue, fsep, flft}
use base.Share.{quarter}
use types.Kit.{‵, raw, ◌⊛◌, given, later, ◌$◌, ◌∵◌, !, qed, by, move, keep, drop, split}
use types.Kit.{fsplit, fsplit3, fjoin, fjoin3, learn, use0, use1, use2, await, feq_i, done}
use types.Run.{unit_lit, of_opd, returns, enter}
use types.ByLocal.{alloc_all, pass_all, free_all, look_at, sets}
use contract.Monad.{fact, fact_i}
use contract.Running.{tables}
use denote.RattleType.{RattleType, owns}
use denote.Signature.{types_at, plain}
use denote.Ref.{mut_vals, mut_Tells}
use denote.Steps.{nothing, opens, closes}
use denote.Param.{param, bounded}
use denote.Triple.Walked.{Stays, stay_ref, walk_of, Goes-ref}
use Rattle.atomic_table.proofs.Walks.{proved}
use Rattle.logbook.specs.Pages.{Named, inked}
use Rattle.logbook.specs.Kept.{part, pen_owns}
use Rattle.logbook.specs.contracts.tokens.Pen as Pen
use Rattle.logbook.specs.contracts.word.Word as Word
use Rattle.logbook.proofs.Steps as steps
use Rattle.logbook.proofs.Fields.{ends}
use Rattle.papaya_map_cells.specs.contracts.hint.track.{ended, clauses}
use Rattle.papaya_map_cells.specs.contracts.hint.track.Key.{name as #self}
use Rattle.papaya_map_cells.proofs.Fresh.{becomes}
use Rattle.papaya_map_cells.proofs.hint.track.Statement.{statement}
use Rattle.papaya_map_cells.proofs.hint.track.Code as code

pub track_spec : {M : Type 1} → statement M
track_spec 𝓤 𝓛 𝓜 𝓡 wired E A P _ _ _ g d _ =
    let 𝓣 = tables 𝓤 𝓛.H 𝓜 𝓡 𝓡.env in
    let E' : RattleType = param 0 E in
    let A' : RattleType = param 1 A in
    let P' : RattleType = param 2 P in
    let En = ended E A P g d in
    let inst = bounded (a_type ∷ a_type ∷ a_type ∷ []) (E, (A, (P, tt))) (dcons d dnil) in
    let fn = inst_fn inst code.function in
    let c = clauses E A P g d 𝓛 𝓜.mem 𝓡.returns in
    let Mine : RattleType = Word.the_row E' A' P' g in
    let hs : Stays En.signature.params En.kept =
    (stay_ref (0 ∷ []) tt (plain (λ _. Mine)), (stay_ref (1 ∷ []) tt (plain (λ _. Pen.the_row)), tt)) in
    proved 𝓛 En hs c 𝓜 𝓡
    (Goes-ref 𝓛 5 0 tt (plain (λ _. Mine)), (Goes-ref 𝓛 5 1 tt (plain (λ _. Pen.the_row)), tt))
    (#self inst) fn (code.unfolded 𝓤 𝓛.H 𝓜 𝓡 wired (E, (A, (P, tt))) d)
    (λ κs. (mut_vals, (mut_vals, tt)))
    (λ κs. (mut_Tells (named 0) κs.0 Mine, (mut_Tells (named 1) κs.1.0 Pen.the_row, tt)))
    (λ κs qs bounds a gh are.
    let me = a.0.now in
    let at = a.0.ref_ptr in
    let pen = a.1.0.now in
    let at' = a.1.0.ref_ptr in
    let p : Val = vptr at.0 at.1 in
    let p' : Val = vptr at'.0 at'.1 in
    let w : Named = record { tracked = true; key = pen.nib.key; book = pen.book } in
    let left : Pen.the_row.Denot = record { marker = record {}; book = pen.book; nib = inked pen.nib 0 } in
    let y : (walk_of 𝓛 En hs c).Ghost = ((κs, qs, bounds, a, (p ∷ [], (p' ∷ [], tt))), gh) in
    let Post : Val → SProp 𝓤 = (walk_of 𝓛 En hs c).post y in
    let rest : Fml = fsep (flft κs.1.1.0 qs.1.1.0) (fsep (flft κs.1.1.1.0 qs.1.1.1.0)
    (fsep (flft κs.1.1.1.1.0 qs.1.1.1.1.0) ftrue)) in
    let toks : Fml = fsep (flft κs.0 qs.0) (fsep (flft κs.1.0 qs.1.0) rest) in
    qed 𝓛 ((‵ toks ⊛ ‵ (owns (types_at En.signature.params κs) a y.0.4))
    ∷ raw (fact 𝓤 _) ∷ raw (fact 𝓤 _) ∷ raw (fact 𝓤 _)
    ∷ given _ (‵ ftrue) ∷ given _ (‵ ftrue) ∷ given _ (‵ ftrue) ∷ []) ∵
    keep ! (4 ∷ 5 ∷ 6 ∷ 0 ∷ []) $ learn ! (λ fresh. drop ! $ learn ! (λ nought. drop ! $ learn ! (λ asked. drop ! $ split ! $
    fsplit ! $ move ! (1 ∷ []) $ fsplit ! $ move ! (3 ∷ []) $ fsplit ! $ fsplit3 ! $ move ! (3 ∷ []) $ fsplit ! $ fsplit3 ! $
    keep ! (5 ∷ 6 ∷ 9 ∷ 1 ∷ 2 ∷ 7 ∷ 8 ∷ []) $
    enter ! 𝓣.C 𝓣.Λ fn (p ∷ p' ∷ []) Post $ alloc_all ! (λ l. pass_all ! refl ((tt, tt), ((tt, tt), tt)) $
    opens ! tt Mine at.0 at.1 (λ vs. move ! (5 ∷ 6 ∷ 7 ∷ []) $ opens ! tt Pen.the_row at'.0 at'.1 (λ vs'.
    -- [the pen's cell; the pen; three entries; the word's cell; the word; three entries; the tokens]
    move ! (1 ∷ []) $ fsplit ! $ move ! (1 ∷ []) $
    use1 𝓛 (later (‵ (part pen.book.cells_name pen.nib.key quarter 0) ⊛ ‵ (pen_owns pen.book (inked pen.nib 0))))
    (steps.inks 𝓛 pen.book pen.nib.right pen.nib.key pen.nib.value 0 (inr asked)) $ await ! tt $ split ! $
    move ! (8 ∷ 0 ∷ []) $ use2 𝓛 (‵ (Mine.own_val w vs)) (becomes 𝓛 E' A' P' g g me w vs fresh nought) $
    -- [the word; the pen; its field; its cell; three entries; the word's cell; three entries]
    move ! (7 ∷ 0 ∷ 8 ∷ 9 ∷ 10 ∷ []) $ closes ! tt Mine w vs at.0 at.1 $
    move ! (4 ∷ 3 ∷ []) $ fjoin ! $ move ! (4 ∷ 0 ∷ 5 ∷ 6 ∷ 7 ∷ []) $ closes ! tt Pen.the_row left vs' at'.0 at'.1 $
    -- [the pen's reference and token; the word's; the other tokens]
    sets ! (of_opd ! (unit_lit !)) refl (tt, tt) $ feq_i ! (List Val) (vunit ∷ []) (vunit ∷ []) refl $
    move ! (3 ∷ 7 ∷ []) $ fjoin ! $ move ! (6 ∷ 0 ∷ []) $ fjoin ! $ nothing ! $
    feq_i ! (List Val) (p' ∷ []) (p' ∷ []) refl $ move ! (0 ∷ 4 ∷ 5 ∷ []) $ fjoin3 ! $ fjoin ! $
    feq_i ! (List Val) (p ∷ []) (p ∷ []) refl $ move ! (0 ∷ 4 ∷ 5 ∷ []) $ fjoin3 ! $ fjoin ! $
    returns ! (look_at ! 0 refl) $ free_all ! refl $ keep ! (1 ∷ 0 ∷ 2 ∷ []) $
    by ! (ends 𝓛 En hs c y vunit tt (w, (left, tt)) (tt, (tt, tt)) (qed 𝓛 [] ∵
    use0 𝓛 (raw (fact 𝓤 (_ × _))) (fact_i 𝓤 _ (emp 𝓤) (refl, refl)) $ use0 𝓛 (raw (fact 𝓤 _)) (fact_i 𝓤 _ (emp 𝓤) refl) $ done !)))))))))
