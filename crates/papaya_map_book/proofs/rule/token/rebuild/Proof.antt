use Rattle.std.proofs.Common.{◌≡◌, ℕ, [], ◌∷◌, sym, refl, ap, ◌∙◌, subst, w64}
use mir.Syntax.{a_type}
use mir.Val.{Val, vint}
use mir.MapTy.{inst_fn}
use base.Logic.{SProp, emp}
use base.Fml.{ftrue}
use types.Kit.{‵, raw, ◌⊛◌, given, at_ret, ◌$◌, ◌∵◌, !, qed, by, move, keep, drop, use2, split, fsplit, fjoin, fpick, learn}
use types.Run.{stop, from, load, addr, of_opd, no_more, and_then, first, blocks, exec, returns, enter}
use types.ByLocal.{alloc_all, pass_all, free_all, look_at, get, through, sets, sets_last, env}
use types.Part.{agg}
use contract.Running.{tables}
use contract.Monad.{fact, fact_i}
use denote.Exit.{yes, no}
use denote.RattleType.{RattleType, owns}
use denote.Signature.{types_at, plain}
use denote.Steps.{nothing}
use denote.Memory.{lone}
use denote.Param.{param, layouts}
use denote.Triple.Walked.{Stays, stay_dropped, walk_of, Goes-dropped}
use Rattle.atomic_table.proofs.Walks.{proved}
use Rattle.logbook.proofs.Fields.{token, token_told, ends}
use denote.Exit.{no}
use mir.Syntax.{seq, assign as assign_to, place, rv_opd, copy, return}
use Rattle.papaya_map_book.specs.contracts.rule.token.Known as Known
use Rattle.papaya_map_book.specs.Tokens.{token_row}
use denote.Plain.{uint_vals, uint_Tells}
use denote.Builtin.{usize}
use mir.Syntax.{w64}
use Rattle.papaya_map_book.specs.contracts.rule.token.rebuild.{ended, clauses}
use Rattle.papaya_map_book.specs.contracts.rule.token.rebuild.Key.{name as #self}
use Rattle.papaya_map_book.proofs.rule.token.rebuild.Statement.{statement}
use Rattle.papaya_map_book.proofs.rule.token.rebuild.Code as code
use Rattle.papaya_map_book.proofs.Made.{bytes, placed_made, at_one}
use Rattle.papaya_map_arena.proofs.Retyped.{retyped}
use Rattle.papaya_map_book.specs.contracts.rule.token.Bytes.{the_row as mine}
use Rattle.boxcar.specs.Table.{IsAt}
use mir.Syntax.{seq, assign as assign_to, place, rv_opd, copy, return}

pub rebuild_spec : {M : Type 1} → statement M
rebuild_spec 𝓤 𝓛 𝓜 𝓡 wired T L =
    let H = 𝓛.H in let 𝓣 = tables 𝓤 H 𝓜 𝓡 𝓡.env in let R : RattleType = param 0 T in let En = ended T in
    let inst = layouts (a_type ∷ []) (T, tt) in let fn = inst_fn inst code.function in let c = clauses T 𝓛 𝓜.mem 𝓡.returns in
    let S : RattleType = Known.the_row R in
    let self = plain (λ _. S) in let num = plain (λ _. usize) in
    let hs : Stays En.signature.params En.kept = (stay_dropped self no, (stay_dropped num yes, (stay_dropped num yes, (stay_dropped num yes, tt)))) in
    proved 𝓛 En hs c 𝓜 𝓡 (
      Goes-dropped 𝓛 1 self no (λ κs x f. refl),
      (Goes-dropped 𝓛 1 num yes (λ κs x f. refl), (Goes-dropped 𝓛 1 num yes (λ κs x f. refl), (Goes-dropped 𝓛 1 num yes (λ κs x f. refl), tt))),
    )
    (#self inst) fn (code.unfolded 𝓤 H 𝓜 𝓡 wired (T, tt))
    (λ κs. ((λ x. token ∷ []), (uint_vals w64, (uint_vals w64, (uint_vals w64, tt)))))
    (λ κs. ((λ x vs is. token_told R vs is.0), (uint_Tells w64, (uint_Tells w64, (uint_Tells w64, tt))))) (λ κs qs bounds a gh are.
    let y : (walk_of 𝓛 En hs c).Ghost = (
      (
        κs,
        qs,
        bounds,
        a,
        (token ∷ [], (uint_vals w64 a.1.0, (uint_vals w64 a.1.1.0, (uint_vals w64 a.1.1.1.0, tt)))),
      ),
      gh,
    ) in
    let Post : Val → SProp 𝓤 = (walk_of 𝓛 En hs c).post y in
    qed 𝓛 ((raw (denote.Triple.Entry.alive 𝓛 En.signature κs qs) ⊛ ‵ (owns (types_at En.signature.params κs) a y.0.4)) ∷ raw (fact 𝓤 _) ∷ given _
    (‵ ftrue) ∷ []) ∵ move ! (2 ∷ []) $ learn ! (λ asked. drop ! $ split ! $ keep ! (1 ∷ 0 ∷ []) $
    fsplit ! $ fsplit ! $ keep ! (1 ∷ 3 ∷ []) $ fpick ! (λ x.
    enter ! 𝓣.C 𝓣.Λ fn (token ∷ vint w64 a.1.0 ∷ vint w64 a.1.1.0 ∷ vint w64 a.1.1.1.0 ∷ []) Post $ alloc_all !
    (λ l. pass_all ! refl (
      (tt, (tt, tt)),
      (
        (tt, record { fits = are.1.0.1 }),
        ((tt, record { fits = are.1.1.0.1 }), ((tt, record { fits = are.1.1.1.0.1 }), tt)),
      ),
    ) $
    let Ev = env fn.locals l in
    let w = a.0.at in let i = a.1.0 in let b = a.1.1.0 in let s = a.1.1.1.0 in
    let e : x.0.index ≡ w.index = ap (λ u. u.index) x.1.0 in
    let ei : i ≡ x.0.index = asked.0 ∙ sym e in
    let one = at_one x.0.index b s x.0.bucket x.0.slot (subst (λ (k : ℕ). IsAt k b s) ei asked.1) x.1.1.0 in
    let v : Val = bytes i b s in
    fsplit ! $ use2 𝓛 (‵ ((token_row R).own_val w (v ∷ []))) (placed_made 𝓛 R w x i b s ei one.0 one.1 are.1.0.1 are.1.1.0.1 are.1.1.1.0.1) $
    sets ! (agg ! (no_more !)) refl (tt, tt) $ sets ! (agg ! (and_then ! (get ! refl) (no_more !))) refl (tt, (tt, tt)) $
    sets ! (agg ! (no_more !)) refl (tt, tt) $ sets ! (agg ! (and_then ! (get ! refl) (no_more !))) refl (tt, (tt, tt)) $
    sets ! (agg ! (and_then ! (get ! refl) (and_then ! (get ! refl)
    (and_then ! (get ! refl) (and_then ! (get ! refl) (and_then ! (get ! refl) (no_more !))))))) refl
    (tt, (record { fits = are.1.0.1 }, (record { fits = are.1.1.0.1 }, (record { fits = are.1.1.1.0.1 }, ((tt, tt), ((tt, tt), tt)))))) $
    first ! $ blocks ! $ sets ! (addr ! (from ! (stop !))) refl (tt, tt) $
    sets_last ! (of_opd ! (load ! (through ! refl (stop !))
    (retyped 𝓛 (lone (mine R).mir) (lone (token_row R).mir) refl (l 5) 0 v (look_at ! 5 refl)))) refl
    (tt, (record { fits = are.1.0.1 }, (record { fits = are.1.1.0.1 }, (record { fits = are.1.1.1.0.1 }, ((tt, tt), ((tt, tt), tt)))))) $
    exec ! 𝓣.C 𝓣.Λ Ev (seq (assign_to (place 0 []) (rv_opd (copy (place 10 [])))) return) (at_ret Ev Post) $
    sets ! (of_opd ! (get ! refl)) refl (
      tt,
      (record { fits = are.1.0.1 }, (record { fits = are.1.1.0.1 }, (record { fits = are.1.1.1.0.1 }, ((tt, tt), ((tt, tt), tt))))),
    ) $
    nothing ! $ nothing ! $ fjoin ! $ nothing ! $ fjoin ! $ nothing ! $ fjoin ! $ nothing ! $ fjoin ! $
    returns ! (look_at ! 0 refl) $ free_all ! refl $ keep ! (2 ∷ 0 ∷ 1 ∷ []) $ by !
    (ends 𝓛 En hs c y v w (tt, (tt, (tt, (tt, tt)))) (tt, (tt, (tt, (tt, tt)))) (fact_i 𝓤 _ (emp 𝓤) refl))))))
