-- `stand_beside` puts the observed log beside the number, in place of the one observed before.
use Rattle.std.proofs.Common.{◌≡◌, ℕ, Bool, false, List, [], ◌∷◌, sym, refl, subst}
use mir.Syntax.{a_type, dcons, dnil, named}
use mir.Val.{Val, vunit, vptr}
use mir.MapTy.{inst_fn}
use base.Logic.{SProp, emp}
use base.Fml.{Fml, ftrue, fsep, flft, fhide}
use types.Kit.{‵, raw, ◌⊛◌, given, ◌$◌, ◌∵◌, !, qed, by, move, keep, drop, split}
use types.Kit.{fsplit, fsplit3, fjoin, fjoin3, learn, use1, use2, rewrite, feq_i}
use types.Run.{unit_lit, of_opd, returns, enter}
use types.ByLocal.{alloc_all, pass_all, free_all, look_at, sets}
use contract.Monad.{fact, fact_i}
use contract.Running.{tables}
use denote.Exit.{yes}
use denote.RattleType.{RattleType, owns}
use denote.Signature.{types_at, plain}
use denote.Builtin.{RefOf}
use denote.Ref.{mut_vals, mut_Tells, shr_vals, shr_Tells}
use denote.Memory.{hidden_shr}
use denote.Opens.{unhide}
use denote.Steps.{nothing, opens, closes}
use denote.Param.{param, bounded}
use denote.Struct.Tuple.{Tuple}
use denote.Struct.Lending.{lent_out}
use denote.Triple.Walked.{Stays, stay_dropped, stay_ref, walk_of, Goes-dropped, Goes-ref}
use Rattle.std.specs.contracts.marker.PhantomData as marker
use Rattle.atomic_table.proofs.Walks.{proved}
use Rattle.logbook.specs.Kept.{rules, seen_owns, reached, inner}
use Rattle.logbook.specs.contracts.tokens.Seen as Seen
use Rattle.logbook.specs.contracts.word.Word as Word
use Rattle.logbook.proofs.Steps as steps
use Rattle.logbook.proofs.Fields.{Token, ends}
use Rattle.papaya_map_cells.specs.Untracked.{untracked, Says}
use Rattle.papaya_map_cells.specs.contracts.hint.Hint as Hint
use Rattle.papaya_map_cells.specs.contracts.hint.Hint.stand_beside.{ended, clauses}
use Rattle.papaya_map_cells.specs.contracts.hint.Hint.stand_beside.Key.{name as #self}
use Rattle.papaya_map_cells.proofs.Keyed.{beside_word}
use Rattle.papaya_map_cells.proofs.Fresh.{becomes}
use Rattle.papaya_map_cells.proofs.hint.Hint.stand_beside.Statement.{statement}
use Rattle.papaya_map_cells.proofs.hint.Hint.stand_beside.Code as code

pub stand_beside_spec : {M : Type 1} → statement M
stand_beside_spec 𝓤 𝓛 𝓜 𝓡 wired E A P _ _ _ g d h d' _ _ =
    let 𝓣 = tables 𝓤 𝓛.H 𝓜 𝓡 𝓡.env in
    let E' : RattleType = param 0 E in
    let A' : RattleType = param 1 A in
    let P' : RattleType = param 2 P in
    let En = ended E A P g d h d' in
    let inst = bounded (a_type ∷ a_type ∷ a_type ∷ []) (E, (A, (P, tt))) (dcons d (dcons d' dnil)) in
    let fn = inst_fn inst code.function in
    let c = clauses E A P g d h d' 𝓛 𝓜.mem 𝓡.returns in
    let rule = rules g.holds g.shows g.keeps in
    let cv = E'.coded in
    let All : RattleType = Tuple (E' ∷ A' ∷ P' ∷ []) in
    let Book : RattleType = Seen.the_row E' A' P' g in
    let Mine : RattleType = Hint.the_row E' A' P' g h in
    let Beside : RattleType = Word.the_row E' A' P' g in
    let a_word = RefOf (1 ∷ []) tt (plain (λ _. Beside)) (λ _. tt) in
    let a_book = RefOf (2 ∷ []) tt (plain (λ _. Book)) (λ _. tt) in
    let hs : Stays En.signature.params En.kept =
    (stay_ref (0 ∷ []) tt (plain (λ _. Mine)), (stay_dropped a_word yes, (stay_dropped a_book yes, tt))) in
    proved 𝓛 En hs c 𝓜 𝓡 (
      Goes-ref 𝓛 6 0 tt (plain (λ _. Mine)),
      (Goes-dropped 𝓛 6 a_word yes (λ κs x f. refl), (Goes-dropped 𝓛 6 a_book yes (λ κs x f. refl), tt)),
    )
    (#self inst) fn (code.unfolded 𝓤 𝓛.H 𝓜 𝓡 wired (E, (A, (P, tt))) d d')
    (λ κs. (mut_vals, (shr_vals, (shr_vals, tt))))
    (λ κs. (
      mut_Tells (named 0) κs.0 Mine,
      (shr_Tells (named 1) κs.1.0 Beside, (shr_Tells (named 2) κs.1.1.0 Book, tt)),
    ))
    (λ κs qs bounds a gh are.
    let me = a.0.now in
    let at = a.0.ref_ptr in
    let word = a.1.0.now in
    let seen = a.1.1.0.now in
    let at' = a.1.1.0.ref_ptr in
    let hinted : Bool → ℕ → List E.Denot → Type 0 = λ t. Says h.hinted_beside t word.key in
    let p : Val = vptr at.0 at.1 in
    let q : Val = vptr a.1.0.ref_ptr.0 a.1.0.ref_ptr.1 in
    let p' : Val = vptr at'.0 at'.1 in
    let y : (walk_of 𝓛 En hs c).Ghost = ((κs, qs, bounds, a, (p ∷ [], (q ∷ [], (p' ∷ [], tt)))), gh) in
    let Post : Val → SProp 𝓤 = (walk_of 𝓛 En hs c).post y in
    let rest : Fml = fsep (flft κs.1.0 qs.1.0) (fsep (flft κs.1.1.0 qs.1.1.0) (fsep (flft κs.1.1.1.0 qs.1.1.1.0)
    (fsep (flft κs.1.1.1.1.0 qs.1.1.1.1.0) (fsep (flft κs.1.1.1.1.1.0 qs.1.1.1.1.1.0) ftrue)))) in
    let toks : Fml = fsep (flft κs.0 qs.0) rest in
    qed 𝓛 ((‵ toks ⊛ ‵ (owns (types_at En.signature.params κs) a y.0.4))
    ∷ raw (fact 𝓤 _) ∷ raw (fact 𝓤 _) ∷ raw (fact 𝓤 _)
    ∷ given _ (‵ ftrue) ∷ given _ (‵ ftrue) ∷ given _ (‵ ftrue) ∷ []) ∵
    keep ! (4 ∷ 5 ∷ 6 ∷ 0 ∷ []) $
    learn ! (λ fresh. drop ! $ learn ! (λ asked. drop ! $ learn ! (λ nought. drop ! $ split ! $
    fsplit ! $ move ! (2 ∷ []) $ fsplit ! $ fsplit3 ! $ move ! (3 ∷ []) $ fsplit ! $ move ! (1 ∷ []) $ fsplit ! $ fsplit ! $
    keep ! (5 ∷ 6 ∷ 7 ∷ 1 ∷ 8 ∷ []) $
    enter ! 𝓣.C 𝓣.Λ fn (p ∷ q ∷ p' ∷ []) Post $ alloc_all ! (λ l.
    pass_all ! refl ((tt, tt), ((tt, tt), ((tt, tt), tt))) $
    opens ! tt Mine at.0 at.1 (λ vs. move ! (5 ∷ []) $
    use1 𝓛 (‵ (hidden_shr (Token All) κs.1.1.0 (record {}, tt) at'.0 at'.1)
    ⊛ ‵ (fhide (seen_owns cv.code rule seen.book seen.names seen.log)))
    (lent_out 𝓛 (Seen.struct E' A' P' g)
    (Seen.the_codes E.Denot A.Denot P.Denot E'.coded A'.coded P'.coded (marker.the_row All).coded)
    (Seen.the_heap E' A' P' g) (Seen.the_lent E' A' P' g) κs.1.1.0 seen at'.0 at'.1) $
    split ! $ drop ! $ unhide ! $
    use1 𝓛 (‵ (reached cv.code seen.book.log_name seen.log))
    (steps.seen_log 𝓛 cv rule seen.book seen.names seen.log) $
    rewrite ! 0 (λ (z : _). ‵ (reached cv.code z.log_name seen.log)) asked.1 refl $
    use1 𝓛 (‵ (inner cv.code (hinted word.tracked) (untracked word) 0))
    (steps.tells 𝓛 cv rule word.book seen.names (hinted word.tracked) false word.key 0 0 [] qs.0 0 0 seen.log
    (subst (λ (t : Bool). hinted t 0 seen.log) (sym asked.0) nought)) $
    -- [what is seen; the hint's cell; the hint; three entries; the tokens]
    move ! (2 ∷ 0 ∷ []) $ use2 𝓛 (‵ (Mine.own_val word vs))
    (becomes 𝓛 E' A' P' (beside_word g h me) (beside_word g h word) (untracked me) (untracked word) vs refl
    (λ n log. subst (λ (t : Bool). Says h.hinted_beside t me.key n log → n ≡ 0) (sym fresh) (λ zero. zero))) $
    move ! (1 ∷ 0 ∷ []) $ closes ! tt Mine word vs at.0 at.1 $
    sets ! (of_opd ! (unit_lit !)) refl (tt, tt) $ feq_i ! (List Val) (vunit ∷ []) (vunit ∷ []) refl $
    move ! (3 ∷ 4 ∷ []) $ fjoin ! $ nothing ! $ nothing ! $ fjoin ! $ nothing ! $ fjoin ! $
    feq_i ! (List Val) (p ∷ []) (p ∷ []) refl $ move ! (0 ∷ 4 ∷ 5 ∷ []) $ fjoin3 ! $ fjoin ! $
    returns ! (look_at ! 0 refl) $ free_all ! refl $ keep ! (1 ∷ 0 ∷ 2 ∷ []) $
    by ! (ends 𝓛 En hs c y vunit tt (word, (tt, (tt, tt))) (tt, (tt, (tt, tt))) (fact_i 𝓤 _ (emp 𝓤) refl))))))))
