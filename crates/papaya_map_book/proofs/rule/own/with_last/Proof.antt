use Rattle.std.proofs.Common.{[], ◌∷◌, ◌++◌, refl}
use mir.Syntax.{a_type, dcons, dnil, named}
use mir.Val.{Val, vptr}
use mir.MapTy.{inst_fn}
use base.Logic.{SProp, emp}
use types.Kit.{‵, raw, ◌⊛◌, ◌$◌, ◌∵◌, !, qed, by, keep, use0, split, fjoin}
use types.Run.{no_more, and_then, returns, enter}
use types.ByLocal.{alloc_all, pass_all, free_all, look_at, get, sets}
use types.Part.{agg}
use contract.Running.{tables}
use contract.Monad.{fact_i}
use denote.Exit.{yes}
use denote.RattleType.{RattleType, owns}
use denote.Signature.{types_at, plain}
use denote.Steps.{nothing}
use denote.Param.{param, bounded}
use denote.Builtin.{RefOf}
use denote.Ref.{shr_vals, shr_Tells}
use denote.Triple.Walked.{Stays, stay_dropped, walk_of, Goes-dropped}
use Rattle.atomic_table.proofs.Walks.{proved}
use Rattle.logbook.proofs.Fields.{token, Token, token_made, ends}
use Rattle.papaya_map_book.specs.contracts.rule.own.OwnSteps as OwnSteps
use Rattle.logbook.specs.contracts.tokens.Seen as Seen
use Rattle.papaya_map_book.specs.Own.{last_step}
use Rattle.papaya_map_book.specs.contracts.rule.entry.Event as Event
use Rattle.papaya_map_book.specs.contracts.rule.entry.Named as Named
use Rattle.papaya_map_book.specs.contracts.rule.entry.Step as Step
use Rattle.papaya_gate.specs.contracts.rule.Gated as Gated
use Rattle.papaya_gate.specs.contracts.rule.GatedRule.TheImpl as GatedRule
use Rattle.papaya_map_book.specs.contracts.rule.law.LogLaw as LogLaw
use Rattle.papaya_map_book.specs.contracts.rule.law.LogLawRuleEventNamed.TheImpl as LogLawRule
use Rattle.papaya_map_book.specs.contracts.rule.law.LogLawTrackingEvent.TheImpl as LogLawTracking
use Rattle.papaya_map_book.specs.contracts.rule.own.with_last.{ended, clauses}
use Rattle.papaya_map_book.specs.contracts.rule.own.with_last.Key.{name as #self}
use Rattle.papaya_map_book.proofs.rule.own.with_last.Statement.{statement}
use Rattle.papaya_map_book.proofs.rule.own.with_last.Code as code

pub with_last_spec : {M : Type 1} → statement M
with_last_spec 𝓤 𝓛 𝓜 𝓡 wired K V S I _ _ _ _ gh dh ge de gp dp gb db gi di dd _ _ _ _ _ _ =
    let H = 𝓛.H in let 𝓣 = tables 𝓤 H 𝓜 𝓡 𝓡.env in let R : RattleType = Step.the_row (param 0 K) (param 1 V) in
    let En = ended K V S I gh dh ge de gp dp gb db gi di dd in
    let inst = bounded (a_type ∷ a_type ∷ a_type ∷ a_type ∷ []) (K, (V, (S, (I, tt))))
    (dcons dh (dcons de (dcons dp (dcons db (dcons di (dcons dd dnil)))))) in let fn = inst_fn inst code.function in
    let c = clauses K V S I gh dh ge de gp dp gb db gi di dd 𝓛 𝓜.mem 𝓡.returns in
    let E' : RattleType = Event.the_row (param 0 K) (param 1 V) (param 2 S) in let A' : RattleType = Named.the_row (param 0 K) (param 1 V) in
    let P' : RattleType = LogLaw.the_row (param 0 K) (param 1 V) (param 2 S) in
    let S' : RattleType = Seen.the_row E' A' (Gated.the_row P') (GatedRule.ghosts E' A' P'
    (LogLawRule.ghosts (param 0 K) (param 1 V) (param 2 S) (param 3 I) gh LogLawRule.no_dict ge LogLawRule.no_dict gp LogLawRule.no_dict gb LogLawRule.no_dict gi
    LogLawRule.no_dict LogLawRule.no_dict) GatedRule.no_dict (LogLawTracking.ghosts (param 0 K) (param 1 V) (param 2 S)) GatedRule.no_dict) in
    let own = RefOf (0 ∷ []) tt (plain (λ _. OwnSteps.the_row R)) (λ _. tt) in let sight = RefOf (1 ∷ []) tt (plain (λ _. S')) (λ _. tt) in
    let hs : Stays En.signature.params En.kept = (stay_dropped own yes, (stay_dropped sight yes, tt)) in
    proved 𝓛 En hs c 𝓜 𝓡 (Goes-dropped 𝓛 6 own yes (λ κs x f. refl), (Goes-dropped 𝓛 6 sight yes (λ κs x f. refl), tt)) (#self inst) fn
    (code.unfolded 𝓤 H 𝓜 𝓡 wired (K, (V, (S, (I, tt)))) dh de dp db di dd)
    (λ κs. (shr_vals, (shr_vals, tt))) (λ κs. (shr_Tells (named 0) κs.0 (OwnSteps.the_row R), (shr_Tells (named 1) κs.1.0 S', tt))) (λ κs qs bounds a gh are.
    let p : Val = vptr a.0.ref_ptr.0 a.0.ref_ptr.1 in let q : Val = vptr a.1.0.ref_ptr.0 a.1.0.ref_ptr.1 in
    let y : (walk_of 𝓛 En hs c).Ghost = ((κs, qs, bounds, a, (p ∷ [], (q ∷ [], tt))), gh) in let Post : Val → SProp 𝓤 = (walk_of 𝓛 En hs c).post y in
    qed 𝓛 ((raw (denote.Triple.Entry.alive 𝓛 En.signature κs qs) ⊛ ‵ (owns (types_at En.signature.params κs) a y.0.4)) ∷ raw ((c κs a).requires gh) ∷
    []) ∵ split ! $ keep ! (0 ∷ []) $
    enter ! 𝓣.C 𝓣.Λ fn (p ∷ q ∷ []) Post $ alloc_all ! (λ l. pass_all ! refl ((tt, tt), ((tt, tt), tt)) $
    nothing ! $ use0 𝓛 (‵ ((Token R).own_val (record {}, tt) (token ∷ []))) (token_made R 𝓛) $ fjoin ! $
    sets ! (agg ! (no_more !)) refl (tt, tt) $ sets ! (agg ! (and_then ! (get ! refl) (no_more !))) refl (tt, (tt, tt)) $
    nothing ! $ nothing ! $ fjoin ! $ nothing ! $ fjoin ! $
    returns ! (look_at ! 0 refl) $ free_all ! refl $ keep ! (2 ∷ 0 ∷ 1 ∷ []) $ by !
    (ends 𝓛 En hs c y token (record { marker = record {}; done = a.0.now.done ++ last_step a.1.0.now.log }) (tt, (tt, tt)) (tt, (tt, tt))
    (fact_i 𝓤 _ (emp 𝓤) refl))))
