-- `tell` copies the evidence of the token. Assumes `Logic`.
use Rattle.std.proofs.Common.{List, [], ◌∷◌, ◌++◌, map, refl, sym, subst}
use mir.Syntax.{a_type, dcons, dnil, named}
use mir.Val.{Val, vptr}
use mir.MapTy.{inst_fn}
use base.Logic.{SProp, ent, id⊢, emp}
use base.Fml.{fhide}
use prog.Wp.{WpFn}
use types.Kit.{‵, raw, ◌⊛◌, ◌$◌, ◌∵◌, !, qed, by, move, keep, drop, split, fsplit, fjoin, suffices, use1, rewrite}
use types.Run.{of_opd, no_more, and_then, returns, enter}
use types.ByLocal.{alloc_all, pass_all, free_all, look_at, get, sets}
use types.Part.{agg}
use contract.Monad.{fact_i}
use contract.Running.{tables}
use denote.Exit.{yes, no}
use denote.RattleType.{RattleType, owns}
use denote.Signature.{types_at, plain}
use denote.Builtin.{RefOf}
use denote.Ref.{shr_Tells}
use denote.Memory.{hidden_shr}
use denote.Opens.{unhide}
use denote.Steps.{nothing}
use denote.Param.{param, bounded, layout}
use denote.Param.Laws.{param_laws}
use denote.Struct.Tuple.{Tuple}
use denote.Struct.Lending.{lent_out}
use denote.Triple.Entry.{alive}
use denote.Triple.Walked.{Stays, stay_dropped, walk_of, Goes-dropped}
use Rattle.std.specs.contracts.marker.PhantomData as marker
use Rattle.papaya_map_book.specs.contracts.rule.own.OwnSteps as OwnSteps
use Rattle.std.proofs.raw_atomic.Walks.{proved_at}
use Rattle.logbook.specs.Kept.{rules, seen_owns}
use Rattle.logbook.specs.contracts.tokens.Seen as Seen
use Rattle.logbook.proofs.Fields.{Token, ends}
use Rattle.papaya_map.proofs.Telling.{Observed, one, held, held_good, told_in}
use Rattle.papaya_map.specs.contracts.observed.tell.{ended, clauses}
use Rattle.papaya_map.specs.contracts.observed.tell.Key.{name as #self}
use Rattle.papaya_map.proofs.observed.tell.Statement.{statement}
use Rattle.papaya_map.proofs.observed.tell.Code as code

pub tell_spec : {M : Type 1} → statement M
tell_spec 𝓤 𝓛 𝓜 𝓡 wired B E A P T LB _ _ _ _ g d _ =
    let H = 𝓛.H in let 𝓣 = tables 𝓤 H 𝓜 𝓡 𝓡.env in let B' : RattleType = param 0 B in let L = param_laws 0 B LB in let E' : RattleType = param 1 E in
    let A' : RattleType = param 2 A in let P' : RattleType = param 3 P in
    let T' : RattleType = param 4 T in
    let En = ended B E A P T g d in let c = clauses B E A P T g d 𝓛 𝓜.mem 𝓡.returns in
    let inst = bounded (a_type ∷ a_type ∷ a_type ∷ a_type ∷ a_type ∷ []) (B, (E, (A, (P, (T, tt))))) (dcons d dnil) in let fn = inst_fn inst code.function in
    let rule = rules g.holds g.shows g.keeps in let All : RattleType = Tuple (E' ∷ A' ∷ P' ∷ []) in
    let given = plain (λ _. B') in let lent = RefOf (0 ∷ []) tt (plain (λ _. Seen.the_row E' A' P' g)) (λ _. tt) in
    let mine = RefOf (1 ∷ []) tt (plain (λ _. OwnSteps.the_row T')) (λ _. tt) in
    let hs : Stays En.signature.params En.kept = (stay_dropped given no, (stay_dropped lent yes, (stay_dropped mine yes, tt))) in
    proved_at 𝓛 En hs c 𝓜 𝓡 (Goes-dropped 𝓛 7 given no (λ κs x f. refl), (Goes-dropped 𝓛 7 lent yes (λ κs x f. refl), (Goes-dropped 𝓛 7 mine yes (λ κs x f. refl), tt))) (#self inst) fn
    (code.unfolded 𝓤 H 𝓜 𝓡 wired (B, (E, (A, (P, (T, tt))))) d) (λ z are.
    let κs = z.0.0 in let a = z.0.3 in let x = a.0 in let me = a.1.0.now in let b = a.1.0.ref_ptr.0 in let o = a.1.0.ref_ptr.1 in let p : Val = vptr b o in
    let q : Val = vptr a.1.1.0.ref_ptr.0 a.1.1.0.ref_ptr.1 in
    let Post : Val → SProp 𝓤 = (walk_of 𝓛 En hs c).post z in let Run : List Val → SProp 𝓤 = λ ws. WpFn 𝓤 H 𝓣.C 𝓣.Λ fn ws Post in
    let got = one (layout B) z.0.4.0 ((L.lawful 𝓛).typed x z.0.4.0 are.0) in
    let lies = shr_Tells (named 0) κs.0 (Seen.the_row E' A' P' g) a.1.0 z.0.4.1.0 are.1.0 in
    let own_lies = shr_Tells (named 1) κs.1.0 (OwnSteps.the_row T') a.1.1.0 z.0.4.1.1.0 are.1.1.0 in
    let r : (Observed B' E' A' P' g).Denot = record { answer = x; marker = record {}; book = me.book; names = me.names; log = me.log; made = map z.1 a.1.1.0.now.done } in
    qed 𝓛 ((raw (alive 𝓛 En.signature κs z.0.1) ⊛ ‵ (owns (types_at En.signature.params κs) a z.0.4)) ∷ raw ((c κs a).requires z.1) ∷ []) ∵ split ! $
    move ! (1 ∷ []) $ fsplit ! $ move ! (1 ∷ []) $ fsplit ! $ fsplit ! $ keep ! (1 ∷ 3 ∷ 4 ∷ []) $
    rewrite ! 1 (λ (ws : List Val). ‵ (B'.own_val x ws)) got.1 refl $
    suffices ! (Run (got.0 ∷ p ∷ q ∷ [])) (subst (λ (us : List Val). ent 𝓤 (Run (got.0 ∷ p ∷ q ∷ [])) (Run us)) (sym (λ i. got.1 i ++ (lies i ++ (own_lies i ++ []))))
    (id⊢ 𝓤 (Run (got.0 ∷ p ∷ q ∷ [])))) $
    enter ! 𝓣.C 𝓣.Λ fn (got.0 ∷ p ∷ q ∷ []) Post $ alloc_all ! (λ l. pass_all ! refl (got.2, ((tt, tt), ((tt, tt), tt))) $
    use1 𝓛 (‵ (hidden_shr (Token All) κs.0 (record {}, tt) b o) ⊛ ‵ (fhide (seen_owns E'.coded.code rule me.book me.names me.log)))
    (lent_out 𝓛 (Seen.struct E' A' P' g) (Seen.the_codes E.Denot A.Denot P.Denot E'.coded A'.coded P'.coded (marker.the_row All).coded)
    (Seen.the_heap E' A' P' g) (Seen.the_lent E' A' P' g) κs.0 me b o) $ split ! $ drop ! $ unhide ! $
    sets ! (of_opd ! (get ! refl)) refl got.2 $ sets ! (agg ! (no_more !)) refl (tt, tt) $ sets !
    (agg ! (and_then ! (get ! refl) (and_then ! (get ! refl) (no_more !)))) refl (held_good B' E' A' P' g got.0 got.2) $
    told_in B' E' A' P' g ! r got.0 $ nothing ! $ nothing ! $ fjoin ! $ nothing ! $ fjoin ! $ nothing ! $ fjoin ! $
    returns ! (look_at ! 0 refl) $ free_all ! refl $ keep ! (2 ∷ 0 ∷ 1 ∷ []) $ by !
    (ends 𝓛 En hs c z (held got.0) r (tt, (tt, (tt, tt))) (tt, (tt, (tt, tt))) (fact_i 𝓤 _ (emp 𝓤) (refl, refl, refl, refl, refl)))))
