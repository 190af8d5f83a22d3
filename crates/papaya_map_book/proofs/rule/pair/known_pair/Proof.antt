use Rattle.std.proofs.Common.{[], ◌∷◌, refl}
use mir.Syntax.{a_type, named}
use mir.Val.{Val, vptr}
use mir.MapTy.{inst_fn}
use base.Logic.{SProp, emp}
use base.Fml.{fsep}
use types.Kit.{‵, raw, ◌⊛◌, ◌$◌, ◌∵◌, !, qed, by, move, keep, drop, use0, split, fsplit, fjoin, fpick, fpack}
use types.Run.{no_more, and_then, returns, enter}
use types.ByLocal.{alloc_all, pass_all, free_all, look_at, get, sets}
use types.Part.{agg}
use contract.Running.{tables}
use contract.Monad.{fact_i}
use denote.Exit.{yes}
use denote.RattleType.{RattleType, owns}
use denote.Signature.{types_at, plain}
use denote.Steps.{nothing}
use denote.Opens.{unhide}
use denote.Param.{param, layouts}
use denote.Builtin.{RefOf}
use denote.Ref.{shr_vals, shr_Tells}
use denote.Triple.Walked.{Stays, stay_dropped, walk_of, Goes-dropped}
use Rattle.atomic_table.proofs.Walks.{proved}
use Rattle.logbook.proofs.Fields.{token, Token, token_made, ends}
use Rattle.boxcar.specs.Slot.{written}
use Rattle.papaya_map_book.specs.contracts.rule.pair.Shown as Shown
use Rattle.papaya_map_arena.specs.Tokens.{Fields, row_row, token_row}
use Rattle.papaya_map_book.specs.contracts.rule.pair.known_pair.{ended, clauses}
use Rattle.papaya_map_book.specs.contracts.rule.pair.known_pair.Key.{name as #self}
use Rattle.papaya_map_book.proofs.rule.pair.known_pair.Statement.{statement}
use Rattle.papaya_map_book.proofs.rule.pair.known_pair.Code as code

pub known_pair_spec : {M : Type 1} → statement M
known_pair_spec 𝓤 𝓛 𝓜 𝓡 wired K V _ _ =
    let H = 𝓛.H in let 𝓣 = tables 𝓤 H 𝓜 𝓡 𝓡.env in let R : RattleType = Shown.the_row (param 0 K) (param 1 V) in let En = ended K V in
    let inst = layouts (a_type ∷ a_type ∷ []) (K, (V, tt)) in let fn = inst_fn inst code.function in let c = clauses K V 𝓛 𝓜.mem 𝓡.returns in
    let P' : RattleType = token_row R in
    let self = RefOf (0 ∷ []) tt (plain (λ _. P')) (λ _. tt) in
    let hs : Stays En.signature.params En.kept = (stay_dropped self yes, tt) in
    proved 𝓛 En hs c 𝓜 𝓡 (Goes-dropped 𝓛 3 self yes (λ κs x f. refl), tt) (#self inst) fn (code.unfolded 𝓤 H 𝓜 𝓡 wired (K, (V, tt)))
    (λ κs. (shr_vals, tt)) (λ κs. (shr_Tells (named 0) κs.0 P', tt)) (λ κs qs bounds a gh are.
    let p : Val = vptr a.0.ref_ptr.0 a.0.ref_ptr.1 in
    let y : (walk_of 𝓛 En hs c).Ghost = ((κs, qs, bounds, a, (p ∷ [], tt)), gh) in let Post : Val → SProp 𝓤 = (walk_of 𝓛 En hs c).post y in
    qed 𝓛 ((raw (denote.Triple.Entry.alive 𝓛 En.signature κs qs) ⊛ ‵ (owns (types_at En.signature.params κs) a y.0.4)) ∷ raw ((c κs a).requires gh) ∷
    []) ∵ split ! $ keep ! (1 ∷ 0 ∷ []) $
    fsplit ! $ fsplit ! $ keep ! (1 ∷ 3 ∷ []) $ unhide ! $ fpick !
    (λ x. fsplit ! $ fsplit ! $ fsplit ! $ drop ! $ fsplit ! $ fsplit ! $ drop ! $ move ! (1 ∷ []) $ fsplit ! $ fsplit ! $ drop ! $ move !
    (2 ∷ 0 ∷ []) $ fjoin ! $
    fpack ! (Fields R a.0.now) (λ (y : Fields R a.0.now). fsep (written (row_row R) y.0.row.of y.0.row.value) (written R y.0.item.of y.0.item.value)) x $
    use0 𝓛 (‵ ((Token R).own_val (record {}, tt) (token ∷ []))) (token_made R 𝓛) $ fjoin ! $ keep ! (0 ∷ 4 ∷ []) $
    enter ! 𝓣.C 𝓣.Λ fn (p ∷ []) Post $ alloc_all ! (λ l. pass_all ! refl ((tt, tt), tt) $
    sets ! (agg ! (no_more !)) refl (tt, tt) $ sets ! (agg ! (and_then ! (get ! refl) (no_more !))) refl (tt, (tt, tt)) $
    nothing ! $ nothing ! $ fjoin ! $
    returns ! (look_at ! 0 refl) $ free_all ! refl $ keep ! (2 ∷ 0 ∷ 1 ∷ []) $ by !
    (ends 𝓛 En hs c y token (record { marker = record {}; at = a.0.now }) (tt, tt) (tt, tt) (fact_i 𝓤 _ (emp 𝓤) refl)))))
