use Rattle.std.proofs.Common.{[], ◌∷◌, refl}
use mir.Syntax.{a_type, dcons, dnil, named}
use mir.Val.{Val, vptr}
use mir.MapTy.{inst_fn}
use base.Logic.{SProp, emp}
use base.Fml.{ftrue}
use types.Kit.{‵, raw, ◌⊛◌, given, ◌$◌, ◌∵◌, !, qed, by, move, keep, drop, use0, use1, split, fsplit, fjoin, learn}
use types.Run.{no_more, and_then, returns, enter}
use types.ByLocal.{alloc_all, pass_all, free_all, look_at, get, sets}
use types.Part.{agg}
use contract.Running.{tables}
use contract.Monad.{fact, fact_i}
use denote.Exit.{yes, no}
use denote.RattleType.{RattleType, owns}
use denote.Signature.{types_at, plain}
use denote.Steps.{nothing}
use denote.Param.{param, bounded}
use denote.Builtin.{RefOf}
use denote.Ref.{shr_vals, shr_Tells}
use denote.Triple.Walked.{Stays, stay_dropped, walk_of, Goes-dropped}
use Rattle.atomic_table.proofs.Walks.{proved}
use Rattle.std.specs.declared.option.Option.TheVariants.{None}
use Rattle.logbook.specs.Kept.{offer}
use Rattle.logbook.proofs.Fields.{token, Token, token_made, token_told, ends}
use Rattle.logbook.specs.contracts.tokens.Seen as Seen
use denote.Exit.{no}
use Rattle.papaya_map_book.specs.Tokens.{stands}
use Rattle.papaya_map_arena.specs.Tokens.{stands as pair_stands}
use Rattle.papaya_map_book.specs.Offer.{shown, held, Moved}
use Rattle.papaya_map_book.proofs.Made.{stands_twice}
use Rattle.papaya_map_arena.proofs.Made.{stands_twice as pair_stands_twice}
use Rattle.papaya_map_book.proofs.Offers.{pair_offer}
use Rattle.papaya_map_book.specs.contracts.rule.pair.Pair as Pair
use Rattle.papaya_map_book.specs.contracts.rule.entry.Sheet.{the_row as SheetRow}
use Rattle.papaya_map_book.specs.contracts.rule.entry.Event as Event
use Rattle.papaya_map_book.specs.contracts.rule.entry.Named as Named
use Rattle.papaya_gate.specs.Kept.{inner_names}
use Rattle.papaya_gate.specs.contracts.rule.Gated as Gated
use Rattle.papaya_gate.specs.contracts.rule.GatedRule.TheImpl as GatedRule
use Rattle.papaya_map_book.specs.contracts.rule.law.LogLaw as LogLaw
use Rattle.papaya_map_book.specs.contracts.rule.law.LogLawRuleEventNamed.TheImpl as LogLawRule
use Rattle.papaya_map_book.specs.contracts.rule.law.LogLawTrackingEvent.TheImpl as LogLawTracking
use Rattle.papaya_map_book.specs.contracts.rule.offer.with_pair.{ended, clauses}
use Rattle.papaya_map_book.specs.contracts.rule.offer.with_pair.Key.{name as #self}
use Rattle.papaya_map_book.proofs.rule.offer.with_pair.Statement.{statement}
use Rattle.papaya_map_book.proofs.rule.offer.with_pair.Code as code
use Rattle.papaya_map_arena.specs.contracts.token.Known as Known

pub with_pair_spec : {M : Type 1} → statement M
with_pair_spec 𝓤 𝓛 𝓜 𝓡 wired K V S X N I _ _ _ _ _ _ gh dh ge de gp dp gb db gi di gm dm dd _ _ _ _ _ _ _ =
    let H = 𝓛.H in let 𝓣 = tables 𝓤 H 𝓜 𝓡 𝓡.env in let R : RattleType = Pair.the_row (param 0 K) (param 1 V) in
    let En = ended K V S X N I gh dh ge de gp dp gb db gi di gm dm dd in
    let inst = bounded (a_type ∷ a_type ∷ a_type ∷ a_type ∷ a_type ∷ a_type ∷ []) (K, (V, (S, (X, (N, (I, tt))))))
    (dcons dh (dcons de (dcons dp (dcons db (dcons di (dcons dm (dcons dd dnil))))))) in let fn = inst_fn inst code.function in
    let c = clauses K V S X N I gh dh ge de gp dp gb db gi di gm dm dd 𝓛 𝓜.mem 𝓡.returns in
    let E' : RattleType = Event.the_row (param 0 K) (param 1 V) (param 2 S) in let A' : RattleType = Named.the_row (param 0 K) (param 1 V) in
    let P' : RattleType = LogLaw.the_row (param 0 K) (param 1 V) (param 2 S) in
    let S' : RattleType = Seen.the_row E' A' (Gated.the_row P') (GatedRule.ghosts E' A' P'
    (LogLawRule.ghosts (param 0 K) (param 1 V) (param 2 S) (param 5 I) gh LogLawRule.no_dict ge LogLawRule.no_dict gp LogLawRule.no_dict gb LogLawRule.no_dict gi
    LogLawRule.no_dict LogLawRule.no_dict) GatedRule.no_dict (LogLawTracking.ghosts (param 0 K) (param 1 V) (param 2 S)) GatedRule.no_dict) in
    let T : RattleType = R in
    let self = RefOf (0 ∷ []) tt (plain (λ _. S')) (λ _. tt) in let about = RefOf (1 ∷ []) tt (plain (λ _. param 3 X)) (λ _. tt) in
    let known = plain (λ _. Known.the_row T) in
    let hs : Stays En.signature.params En.kept = (stay_dropped self yes, (stay_dropped about yes, (stay_dropped known no, tt))) in
    proved 𝓛 En hs c 𝓜 𝓡 (
      Goes-dropped 𝓛 8 self yes (λ κs x f. refl),
      (Goes-dropped 𝓛 8 about yes (λ κs x f. refl), (Goes-dropped 𝓛 8 known no (λ κs x f. refl), tt)),
    ) (#self inst) fn
    (code.unfolded 𝓤 H 𝓜 𝓡 wired (K, (V, (S, (X, (N, (I, tt)))))) dh de dp db di dm dd)
    (λ κs. (shr_vals, (shr_vals, ((λ x. token ∷ []), tt))))
    (λ κs. (shr_Tells (named 0) κs.0 S', (shr_Tells (named 1) κs.1.0 (param 3 X), ((λ x vs is. token_told T vs is.0), tt)))) (λ κs qs bounds a gh are.
    let p : Val = vptr a.0.ref_ptr.0 a.0.ref_ptr.1 in let q : Val = vptr a.1.0.ref_ptr.0 a.1.0.ref_ptr.1 in
    let y : (walk_of 𝓛 En hs c).Ghost = ((κs, qs, bounds, a, (p ∷ [], (q ∷ [], (token ∷ [], tt)))), gh) in
    let Post : Val → SProp 𝓤 = (walk_of 𝓛 En hs c).post y in
    let ask = gm.ask a.1.0.now in let w = a.1.1.0.at in
    qed 𝓛 ((raw (denote.Triple.Entry.alive 𝓛 En.signature κs qs) ⊛ ‵ (owns (types_at En.signature.params κs) a y.0.4)) ∷ raw (fact 𝓤 _) ∷ raw
    (fact 𝓤 _) ∷ raw (fact 𝓤 _) ∷ raw (fact 𝓤 _) ∷ raw (fact 𝓤 _) ∷ raw (fact 𝓤 _) ∷ given _ (‵ ftrue) ∷ []) ∵ move ! (7 ∷ []) $ learn !
    (λ asked. drop ! $ split ! $ keep ! (1 ∷ 0 ∷ []) $
    fsplit ! $ move ! (1 ∷ []) $ fsplit ! $ move ! (1 ∷ []) $ fsplit ! $ fsplit ! $ keep ! (1 ∷ 5 ∷ []) $
    enter ! 𝓣.C 𝓣.Λ fn (p ∷ q ∷ token ∷ []) Post $ alloc_all ! (λ l. pass_all ! refl ((tt, tt), ((tt, tt), ((tt, (tt, tt)), tt))) $
    use1 𝓛 (‵ (offer (held (pair_stands R) (stands SheetRow)) (Moved ask) (shown (pair_stands R) (stands SheetRow))))
    (pair_offer 𝓛 {K = K.Denot} {V = V.Denot} (pair_stands R) (stands SheetRow) (pair_stands_twice 𝓛 R) (stands_twice 𝓛 SheetRow) S.Denot ask w
    asked) $ use0 𝓛 (‵ ((Token R).own_val (record {}, tt) (token ∷ []))) (token_made R 𝓛) $ fjoin ! $
    sets ! (agg ! (no_more !)) refl (tt, tt) $ sets ! (agg ! (and_then ! (get ! refl) (no_more !))) refl (tt, (tt, tt)) $
    nothing ! $ nothing ! $ fjoin ! $ nothing ! $ fjoin ! $ nothing ! $ fjoin ! $
    returns ! (look_at ! 0 refl) $ free_all ! refl $ keep ! (2 ∷ 0 ∷ 1 ∷ []) $ by !
    (ends 𝓛 En hs c y token (record { marker = record {}; names = inner_names a.0.now.names; ask = ask; about = []; state = None }) (tt, (tt, (tt, tt)))
    (tt, (tt, (tt, tt))) (fact_i 𝓤 _ (emp 𝓤) (refl, refl, refl, refl))))))
