use Rattle.std.proofs.Common.{[], ◌∷◌, refl, subst}
use mir.Syntax.{a_type, dcons, dnil}
use mir.Val.{Val}
use mir.MapTy.{inst_fn}
use base.Logic.{SProp, ent, sep, wand, emp, via, id⊢, apply∗, all_e}
use base.Fml.{ftrue}
use types.Logic.{sem}
use types.Kit.{‵, raw, ◌⊛◌, given, ◌$◌, ◌∵◌, !, qed, by, move, keep, drop, use0, use1, split, fsplit, fjoin, learn}
use types.Run.{no_more, and_then, returns, enter}
use types.ByLocal.{alloc_all, pass_all, free_all, look_at, get, sets}
use types.Part.{agg}
use contract.Running.{tables}
use contract.Monad.{fact, fact_i}
use denote.Exit.{no}
use denote.RattleType.{RattleType, owns}
use denote.Signature.{types_at, plain}
use denote.Steps.{nothing}
use denote.Param.{param, bounded}
use denote.Triple.Walked.{Stays, stay_dropped, walk_of, Goes-dropped}
use Rattle.atomic_table.proofs.Walks.{proved}
use Rattle.logbook.proofs.Fields.{token, Token, token_made, token_told, ends}
use Rattle.logbook.specs.contracts.tokens.Gained as Gained
use denote.Exit.{no}
use Rattle.papaya_map_book.specs.Tokens.{stands}
use Rattle.papaya_map_arena.specs.Tokens.{stands as pair_stands}
use Rattle.papaya_map_book.specs.Offer.{shown}
use Rattle.papaya_map_book.specs.contracts.rule.pair.Pair as Pair
use Rattle.papaya_map_book.specs.contracts.rule.entry.Sheet.{the_row as SheetRow}
use Rattle.papaya_map_book.specs.contracts.rule.entry.Event as Event
use Rattle.papaya_map_book.specs.contracts.rule.entry.Named as Named
use Rattle.papaya_map_book.specs.contracts.rule.offer.table_known.{ended, clauses}
use Rattle.papaya_map_book.specs.contracts.rule.offer.table_known.Key.{name as #self}
use Rattle.papaya_map_book.proofs.rule.offer.table_known.Statement.{statement}
use Rattle.papaya_map_book.proofs.rule.offer.table_known.Code as code
use Rattle.papaya_map_book.specs.contracts.rule.law.Found as Found
use Rattle.papaya_map_book.specs.contracts.rule.law.FoundGainEventNamed.TheImpl.{ghosts as gains}
use Rattle.papaya_map_book.specs.declared.rule.entry.Named.{Named as Named'}

pub table_known_spec : {M : Type 1} → statement M
table_known_spec 𝓤 𝓛 𝓜 𝓡 wired K V S I _ _ _ _ gh dh ge de gp dp gb db gi di dd _ _ _ _ _ _ =
    let H = 𝓛.H in let 𝓣 = tables 𝓤 H 𝓜 𝓡 𝓡.env in let R : RattleType = Pair.the_row (param 0 K) (param 1 V) in
    let En = ended K V S I gh dh ge de gp dp gb db gi di dd in
    let inst = bounded (a_type ∷ a_type ∷ a_type ∷ a_type ∷ []) (K, (V, (S, (I, tt))))
    (dcons dh (dcons de (dcons dp (dcons db (dcons di (dcons dd dnil)))))) in let fn = inst_fn inst code.function in
    let c = clauses K V S I gh dh ge de gp dp gb db gi di dd 𝓛 𝓜.mem 𝓡.returns in
    let S' : RattleType = Gained.the_row (Event.the_row (param 0 K) (param 1 V) (param 2 S)) (Named.the_row (param 0 K) (param 1 V))
    (Found.the_row (param 0 K) (param 1 V)) (gains (param 0 K) (param 1 V) (param 2 S)) in
    let self = plain (λ _. S') in
    let hs : Stays En.signature.params En.kept = (stay_dropped self no, tt) in
    proved 𝓛 En hs c 𝓜 𝓡 (Goes-dropped 𝓛 4 self no (λ κs x f. refl), tt) (#self inst) fn (code.unfolded 𝓤 H 𝓜 𝓡 wired (K, (V, (S, (I, tt)))) dh de dp db di dd)
    (λ κs. ((λ x. token ∷ []), tt)) (λ κs. ((λ x vs is. token_told R vs is.0), tt)) (λ κs qs bounds a gh are.
    let y : (walk_of 𝓛 En hs c).Ghost = ((κs, qs, bounds, a, (token ∷ [], tt)), gh) in let Post : Val → SProp 𝓤 = (walk_of 𝓛 En hs c).post y in
    qed 𝓛 ((raw (denote.Triple.Entry.alive 𝓛 En.signature κs qs) ⊛ ‵ (owns (types_at En.signature.params κs) a y.0.4)) ∷ raw (fact 𝓤 _) ∷ raw
    (fact 𝓤 _) ∷ raw (fact 𝓤 _) ∷ raw (fact 𝓤 _) ∷ given _ (‵ ftrue) ∷ []) ∵ move ! (5 ∷ []) $ learn ! (λ asked. drop ! $ split ! $ keep ! (1 ∷ 0 ∷ []) $
    fsplit ! $ fsplit ! $ keep ! (1 ∷ 3 ∷ []) $
    enter ! 𝓣.C 𝓣.Λ fn (token ∷ []) Post $ alloc_all ! (λ l. pass_all ! refl ((tt, (tt, tt)), tt) $
    use1 𝓛 (‵ (stands SheetRow asked.0)) (subst (λ (n : Named' K.Denot V.Denot).
    base.Logic.ent 𝓤 (sem 𝓛 (shown (pair_stands R) (stands SheetRow) a.0.answer)) (sem 𝓛 (shown (pair_stands R) (stands SheetRow) n))) asked.1 (id⊢ 𝓤 _)) $
    use0 𝓛 (‵ ((Token R).own_val (record {}, tt) (token ∷ []))) (token_made R 𝓛) $ fjoin ! $
    sets ! (agg ! (no_more !)) refl (tt, tt) $ sets ! (agg ! (and_then ! (get ! refl) (no_more !))) refl (tt, (tt, tt)) $
    nothing ! $ nothing ! $ fjoin ! $
    returns ! (look_at ! 0 refl) $ free_all ! refl $ keep ! (2 ∷ 0 ∷ 1 ∷ []) $ by !
    (ends 𝓛 En hs c y token (record { marker = record {}; at = asked.0 }) (tt, tt) (tt, tt) (fact_i 𝓤 _ (emp 𝓤) asked.1)))))
