-- The rights to make the row go into an offer to the book.
use Rattle.std.proofs.Common.{ℕ, ◌+◌, [], ◌∷◌, List, refl, sym, subst}
use mir.Syntax.{a_type, dcons, dnil, named}
use mir.Val.{Val, vptr}
use mir.MapTy.{inst_fn}
use base.Logic.{SProp, ent, emp}
use base.Fml.{Fml, ftrue, fsep, flft}
use types.Logic.{sem}
use types.Kit.{‵, raw, ◌⊛◌, given, ◌$◌, ◌∵◌, !, qed, by, move, keep, drop, use0, use1, split, fsplit, fsplit3, fjoin, fjoin3, learn, feq_i}
use types.Run.{no_more, and_then, returns, enter}
use types.ByLocal.{alloc_all, pass_all, free_all, look_at, get, sets}
use types.Part.{agg}
use contract.Running.{tables}
use contract.Monad.{fact, fact_i}
use denote.Exit.{yes}
use denote.RattleType.{RattleType, owns}
use denote.Signature.{types_at, plain}
use denote.Steps.{nothing, opens, closes}
use denote.Param.{param, bounded}
use denote.Builtin.{RefOf}
use denote.Ref.{mut_vals, mut_Tells, shr_vals, shr_Tells}
use denote.Triple.Walked.{Stays, stay_dropped, stay_ref, walk_of, Goes-dropped, Goes-ref}
use Rattle.atomic_table.proofs.Walks.{proved}
use Rattle.std.specs.declared.option.Option.TheVariants.{None}
use Rattle.logbook.specs.Kept.{offer, pens_own}
use Rattle.logbook.specs.contracts.tokens.Pens as Pens
use Rattle.logbook.specs.contracts.tokens.Seen as Seen
use Rattle.logbook.proofs.Fields.{token, Token, token_made, ends}
use Rattle.papaya_map_book.specs.Tokens.{stands}
use Rattle.papaya_map_arena.specs.Tokens.{stands as pair_stands}
use Rattle.papaya_map_book.specs.Offer.{shown, held, Moved}
use Rattle.papaya_map_book.proofs.Made.{stands_twice}
use Rattle.papaya_map_arena.proofs.Made.{stands_twice as pair_stands_twice}
use Rattle.papaya_map_book.proofs.Offers.{row_offer}
use Rattle.papaya_map_book.specs.contracts.rule.pair.Pair as Pair
use Rattle.papaya_map_book.specs.contracts.rule.entry.Sheet.{the_row as SheetRow}
use Rattle.papaya_map_book.specs.contracts.rule.entry.Event as Event
use Rattle.papaya_map_book.specs.declared.rule.entry.Event.{Event as Entry}
use Rattle.papaya_map_book.specs.declared.rule.entry.Event.TheVariants.{Called}
use Rattle.papaya_map_book.specs.contracts.rule.entry.Named as Named
use Rattle.papaya_gate.specs.Kept.{inner_names}
use Rattle.papaya_gate.specs.contracts.rule.Gated as Gated
use Rattle.papaya_gate.specs.contracts.rule.GatedRule.TheImpl as GatedRule
use Rattle.papaya_map_book.specs.contracts.rule.law.LogLaw as LogLaw
use Rattle.papaya_map_book.specs.contracts.rule.law.LogLawRuleEventNamed.TheImpl as LogLawRule
use Rattle.papaya_map_book.specs.contracts.rule.law.LogLawTrackingEvent.TheImpl as LogLawTracking
use Rattle.papaya_map_book.specs.contracts.rule.offer.with_row.{ended, clauses}
use Rattle.papaya_map_book.specs.contracts.rule.offer.with_row.Key.{name as #self}
use Rattle.papaya_map_book.proofs.rule.offer.with_row.Statement.{statement}
use Rattle.papaya_map_book.proofs.rule.offer.with_row.Code as code

pub with_row_spec : {M : Type 1} → statement M
with_row_spec 𝓤 𝓛 𝓜 𝓡 wired K V S I _ _ _ _ gh dh ge de gp dp gb db gi di dd _ _ _ _ _ _ =
    let H = 𝓛.H in let 𝓣 = tables 𝓤 H 𝓜 𝓡 𝓡.env in let R : RattleType = Pair.the_row (param 0 K) (param 1 V) in
    let En = ended K V S I gh dh ge de gp dp gb db gi di dd in
    let inst = bounded (a_type ∷ a_type ∷ a_type ∷ a_type ∷ []) (K, (V, (S, (I, tt))))
    (dcons dh (dcons de (dcons dp (dcons db (dcons di (dcons dd dnil)))))) in let fn = inst_fn inst code.function in
    let c = clauses K V S I gh dh ge de gp dp gb db gi di dd 𝓛 𝓜.mem 𝓡.returns in
    let E' : RattleType = Event.the_row (param 0 K) (param 1 V) (param 2 S) in let A' : RattleType = Named.the_row (param 0 K) (param 1 V) in
    let P' : RattleType = LogLaw.the_row (param 0 K) (param 1 V) (param 2 S) in
    let S' : RattleType = Seen.the_row E' A' (Gated.the_row P') (GatedRule.ghosts E' A' P'
    (LogLawRule.ghosts (param 0 K) (param 1 V) (param 2 S) (param 3 I) gh LogLawRule.no_dict ge LogLawRule.no_dict gp LogLawRule.no_dict gb LogLawRule.no_dict gi
    LogLawRule.no_dict LogLawRule.no_dict) GatedRule.no_dict (LogLawTracking.ghosts (param 0 K) (param 1 V) (param 2 S)) GatedRule.no_dict) in let Ps : RattleType = Pens.the_row in
    let self = RefOf (0 ∷ []) tt (plain (λ _. S')) (λ _. tt) in
    let hs : Stays En.signature.params En.kept = (stay_dropped self yes, (stay_ref (1 ∷ []) tt (plain (λ _. Ps)), tt)) in
    proved 𝓛 En hs c 𝓜 𝓡 (Goes-dropped 𝓛 6 self yes (λ κs x f. refl), (Goes-ref 𝓛 6 1 tt (plain (λ _. Ps)), tt)) (#self inst) fn
    (code.unfolded 𝓤 H 𝓜 𝓡 wired (K, (V, (S, (I, tt)))) dh de dp db di dd)
    (λ κs. (shr_vals, (mut_vals, tt))) (λ κs. (shr_Tells (named 0) κs.0 S', (mut_Tells (named 1) κs.1.0 Ps, tt))) (λ κs qs bounds a gh are.
    let p : Val = vptr a.0.ref_ptr.0 a.0.ref_ptr.1 in let b : ℕ = a.1.0.ref_ptr.0 in let o : ℕ = a.1.0.ref_ptr.1 in
    let h : Ps.Denot = a.1.0.now in let h' : Ps.Denot = record { marker = h.marker; book = h.book; next = h.next + h.left; left = 0 } in
    let ask : Entry K.Denot V.Denot S.Denot = Called h.book in
    let given_up : Fml = offer (held (pair_stands R) (stands SheetRow)) (Moved ask) (shown (pair_stands R) (stands SheetRow)) in
    let y : (walk_of 𝓛 En hs c).Ghost = ((κs, qs, bounds, a, (p ∷ [], (vptr b o ∷ [], tt))), gh) in let Post : Val → SProp 𝓤 = (walk_of 𝓛 En hs c).post y in
    let toks : Fml = fsep (flft κs.0 qs.0) (fsep (flft κs.1.0 qs.1.0)
    (fsep (flft κs.1.1.0 qs.1.1.0) (fsep (flft κs.1.1.1.0 qs.1.1.1.0)
    (fsep (flft κs.1.1.1.1.0 qs.1.1.1.1.0) (fsep (flft κs.1.1.1.1.1.0 qs.1.1.1.1.1.0) ftrue))))) in
    qed 𝓛 ((‵ toks ⊛ ‵ (owns (types_at En.signature.params κs) a y.0.4)) ∷ raw (fact 𝓤 _) ∷ raw (fact 𝓤 _) ∷ raw (fact 𝓤 _) ∷ raw (fact 𝓤 _) ∷ given _
    (‵ ftrue) ∷ []) ∵ keep ! (5 ∷ 0 ∷ []) $ learn ! (λ asked. drop ! $ split ! $
    fsplit ! $ move ! (1 ∷ []) $ fsplit ! $ move ! (3 ∷ []) $ fsplit ! $ move ! (1 ∷ []) $ fsplit ! $ fsplit3 ! $ keep ! (1 ∷ 2 ∷ 5 ∷ 6 ∷ 7 ∷ []) $
    enter ! 𝓣.C 𝓣.Λ fn (p ∷ vptr b o ∷ []) Post $ alloc_all ! (λ l. pass_all ! refl ((tt, tt), ((tt, tt), tt)) $
    opens ! tt Ps b o (λ ts. move ! (1 ∷ []) $ fsplit ! $ move ! (1 ∷ []) $
    use1 𝓛 (‵ given_up) (subst (λ (t : ℕ × ℕ). ent 𝓤 (sem 𝓛 (pens_own h.book.cells_name t.0 t.1)) (sem 𝓛 given_up))
    (λ i. (sym asked.0 i, sym asked.1 i)) (row_offer 𝓛 {K = K.Denot} {V = V.Denot} (pair_stands R) (stands SheetRow) (pair_stands_twice 𝓛 R)
    (stands_twice 𝓛 SheetRow) S.Denot h.book)) $
    nothing ! $ move ! (2 ∷ 0 ∷ []) $ fjoin ! $ move ! (2 ∷ 0 ∷ 3 ∷ 4 ∷ 5 ∷ []) $ closes ! tt Ps h' ts b o $
    move ! (3 ∷ []) $ use0 𝓛 (‵ ((Token R).own_val (record {}, tt) (token ∷ []))) (token_made R 𝓛) $ fjoin ! $
    sets ! (agg ! (no_more !)) refl (tt, tt) $ sets ! (agg ! (and_then ! (get ! refl) (no_more !))) refl (tt, (tt, tt)) $
    move ! (3 ∷ 4 ∷ []) $ fjoin ! $ move ! (4 ∷ 0 ∷ []) $ fjoin ! $ nothing ! $ feq_i ! (List Val) (vptr b o ∷ []) (vptr b o ∷ []) refl $ move !
    (0 ∷ 4 ∷ 5 ∷ []) $ fjoin3 ! $ fjoin ! $ nothing ! $ fjoin ! $
    returns ! (look_at ! 0 refl) $ free_all ! refl $ keep ! (1 ∷ 0 ∷ 2 ∷ []) $ by !
    (ends 𝓛 En hs c y token (record { marker = record {}; names = inner_names a.0.now.names; ask = ask; about = []; state = None }) (tt, (h', tt))
    (tt, (tt, tt)) (fact_i 𝓤 _ (emp 𝓤) (refl, refl, refl, refl)))))))
