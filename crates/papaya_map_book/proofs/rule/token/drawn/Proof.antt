-- The step gained the rights to make the words that were drawn.
use Rattle.std.proofs.Common.{List, [], ◌∷◌, refl, subst}
use mir.Syntax.{a_type, seq, assign as assign_to, place, rv_opd, copy, return}
use mir.Val.{Val}
use mir.MapTy.{inst_fn}
use base.Logic.{SProp, ent, emp, id⊢}
use base.Fml.{ftrue}
use types.Logic.{sem}
use types.Kit.{‵, raw, ◌⊛◌, given, at_ret, ◌$◌, ◌∵◌, !, qed, by, move, keep, drop, use0, use1, split, fsplit, fjoin, learn}
use types.Run.{stop, from, load, addr, of_opd, no_more, and_then, first, blocks, exec, returns, enter}
use types.ByLocal.{alloc_all, pass_all, free_all, look_at, get, through, sets, sets_last, env}
use types.Part.{agg}
use contract.Running.{tables}
use contract.Monad.{fact, fact_i}
use denote.Exit.{no}
use denote.RattleType.{RattleType, owns}
use denote.Signature.{types_at, plain}
use denote.Steps.{nothing}
use denote.Memory.{lone}
use denote.Builtin.{unit}
use denote.Param.{param, layouts}
use denote.Triple.Walked.{Stays, stay_dropped, walk_of, Goes-dropped}
use Rattle.atomic_table.proofs.Walks.{proved}
use Rattle.logbook.specs.Kept.{pens_own}
use Rattle.logbook.proofs.Fields.{token, Token, token_made, token_told, ends}
use Rattle.logbook.specs.contracts.tokens.Gained as Gained
use Rattle.logbook.specs.contracts.tokens.Pens as Pens
use Rattle.papaya_map_arena.proofs.Retyped.{retyped}
use Rattle.papaya_map_book.specs.Offer.{drawn}
use Rattle.papaya_map_book.specs.contracts.rule.entry.Event as Event
use Rattle.papaya_map_book.specs.declared.rule.entry.Event.{Event as Entry}
use Rattle.papaya_map_book.specs.contracts.rule.entry.Named as Named
use Rattle.papaya_map_book.specs.contracts.rule.law.Drawn as Drawn
use Rattle.papaya_map_book.specs.contracts.rule.law.DrawnGainEventNamed.TheImpl.{ghosts as gains}
use Rattle.papaya_map_book.specs.contracts.rule.token.Rights.{the_row as mine}
use Rattle.papaya_map_book.specs.contracts.rule.token.drawn.{ended, clauses}
use Rattle.papaya_map_book.specs.contracts.rule.token.drawn.Key.{name as #self}
use Rattle.papaya_map_book.proofs.rule.token.drawn.Statement.{statement}
use Rattle.papaya_map_book.proofs.rule.token.drawn.Code as code

pub drawn_spec : {M : Type 1} → statement M
drawn_spec 𝓤 𝓛 𝓜 𝓡 wired K V S _ _ _ =
    let H = 𝓛.H in let 𝓣 = tables 𝓤 H 𝓜 𝓡 𝓡.env in let En = ended K V S in
    let inst = layouts (a_type ∷ a_type ∷ a_type ∷ []) (K, (V, (S, tt))) in let fn = inst_fn inst code.function in let c = clauses K V S 𝓛 𝓜.mem 𝓡.returns in
    let S' : RattleType = Gained.the_row (Event.the_row (param 0 K) (param 1 V) (param 2 S)) (Named.the_row (param 0 K) (param 1 V)) Drawn.the_row
    (gains (param 0 K) (param 1 V) (param 2 S)) in let Ps : RattleType = Pens.the_row in
    let self = plain (λ _. S') in
    let hs : Stays En.signature.params En.kept = (stay_dropped self no, tt) in
    proved 𝓛 En hs c 𝓜 𝓡 (Goes-dropped 𝓛 3 self no (λ κs x f. refl), tt) (#self inst) fn (code.unfolded 𝓤 H 𝓜 𝓡 wired (K, (V, (S, tt))))
    (λ κs. ((λ x. token ∷ []), tt)) (λ κs. ((λ x vs is. token_told unit vs is.0), tt)) (λ κs qs bounds a gh are.
    let y : (walk_of 𝓛 En hs c).Ghost = ((κs, qs, bounds, a, (token ∷ [], tt)), gh) in let Post : Val → SProp 𝓤 = (walk_of 𝓛 En hs c).post y in
    qed 𝓛 ((raw (denote.Triple.Entry.alive 𝓛 En.signature κs qs) ⊛ ‵ (owns (types_at En.signature.params κs) a y.0.4)) ∷ raw (fact 𝓤 _) ∷ raw
    (fact 𝓤 _) ∷ raw (fact 𝓤 _) ∷ given _ (‵ ftrue) ∷ []) ∵ move ! (4 ∷ []) $ learn ! (λ asked. drop ! $ split ! $ keep ! (1 ∷ 0 ∷ []) $
    fsplit ! $ fsplit ! $ keep ! (1 ∷ 3 ∷ []) $
    let w : Ps.Denot = record { marker = record {}; book = asked.0; next = asked.1; left = asked.2 } in
    enter ! 𝓣.C 𝓣.Λ fn (token ∷ []) Post $ alloc_all ! (λ l. pass_all ! refl ((tt, (tt, tt)), tt) $ let Ev = env fn.locals l in
    use1 𝓛 (‵ (pens_own w.book.cells_name w.next w.left))
    (subst (λ (xs : List (Entry K.Denot V.Denot S.Denot)). ent 𝓤 (sem 𝓛 (drawn a.0.about)) (sem 𝓛 (drawn xs))) asked.3 (id⊢ 𝓤 _)) $
    use0 𝓛 (‵ ((Token unit).own_val (record {}, tt) (token ∷ []))) (token_made unit 𝓛) $ fjoin ! $
    sets ! (agg ! (no_more !)) refl (tt, tt) $ sets ! (agg ! (and_then ! (get ! refl) (no_more !))) refl (tt, (tt, tt)) $
    first ! $ blocks ! $ sets ! (addr ! (from ! (stop !))) refl (tt, tt) $
    sets_last ! (of_opd ! (load ! (through ! refl (stop !)) (retyped 𝓛 (lone mine.mir) (lone Ps.mir) refl (l 2) 0 token (look_at ! 2 refl)))) refl
    (tt, (tt, tt)) $
    exec ! 𝓣.C 𝓣.Λ Ev (seq (assign_to (place 0 []) (rv_opd (copy (place 4 [])))) return) (at_ret Ev Post) $
    sets ! (of_opd ! (get ! refl)) refl (tt, (tt, tt)) $
    nothing ! $ nothing ! $ fjoin ! $
    returns ! (look_at ! 0 refl) $ free_all ! refl $ keep ! (2 ∷ 0 ∷ 1 ∷ []) $ by ! (ends 𝓛 En hs c y token w (tt, tt) (tt, tt) (fact_i 𝓤 _ (emp 𝓤) asked.3)))))
