-- `fresh` puts the observed log beside the number.
use Rattle.std.proofs.Common.{ℕ, Bool, false, List, [], ◌∷◌, sym, refl, subst, lit<}
use mir.Syntax.{a_type, dcons, dnil, named}
use mir.Val.{Val, vptr}
use mir.MapTy.{inst_fn}
use base.Logic.{SProp, emp}
use base.Fml.{ftrue, fhide}
use types.Kit.{‵, raw, ◌⊛◌, given, ◌$◌, ◌∵◌, !, qed, by, move, keep, drop, split, fsplit, fjoin, learn, use1, rewrite}
use types.Run.{lit, no_more, and_then, returns, enter}
use types.ByLocal.{alloc_all, pass_all, free_all, look_at, get, sets}
use types.Part.{agg}
use contract.Monad.{fact, fact_i}
use contract.Running.{tables}
use denote.Exit.{yes}
use denote.RattleType.{RattleType, owns}
use denote.Signature.{types_at, plain}
use denote.Builtin.{RefOf}
use denote.Ref.{shr_vals, shr_Tells}
use denote.Memory.{hidden_shr}
use denote.Opens.{unhide}
use denote.Steps.{nothing}
use denote.Param.{param, bounded}
use denote.Struct.Tuple.{Tuple}
use denote.Struct.Lending.{lent_out}
use denote.Triple.Entry.{alive}
use denote.Triple.Walked.{Stays, stay_dropped, walk_of, Goes-dropped}
use Rattle.std.specs.contracts.marker.PhantomData as marker
use Rattle.atomic_table.proofs.Walks.{proved}
use Rattle.logbook.specs.Kept.{rules, seen_owns, reached, inner}
use Rattle.logbook.specs.contracts.tokens.Seen as Seen
use Rattle.logbook.specs.contracts.word.Word as Word
use Rattle.logbook.proofs.Steps as steps
use Rattle.logbook.proofs.Fields.{word_val, Token, word_made, ends}
use Rattle.papaya_map_cells.specs.Untracked.{untracked, Says}
use Rattle.papaya_map_cells.specs.contracts.hint.Hint as Hint
use Rattle.papaya_map_cells.specs.contracts.hint.Hint.fresh.{ended, clauses}
use Rattle.papaya_map_cells.specs.contracts.hint.Hint.fresh.Key.{name as #self}
use Rattle.papaya_map_cells.proofs.Keyed.{beside_word}
use Rattle.papaya_map_cells.proofs.hint.Hint.fresh.Statement.{statement}
use Rattle.papaya_map_cells.proofs.hint.Hint.fresh.Code as code

pub fresh_spec : {M : Type 1} → statement M
fresh_spec 𝓤 𝓛 𝓜 𝓡 wired E A P _ _ _ g d h d' _ _ =
    let 𝓣 = tables 𝓤 𝓛.H 𝓜 𝓡 𝓡.env in
    let E' : RattleType = param 0 E in
    let A' : RattleType = param 1 A in
    let P' : RattleType = param 2 P in
    let En = ended E A P g d h d' in
    let inst = bounded (a_type ∷ a_type ∷ a_type ∷ []) (E, (A, (P, tt))) (dcons d (dcons d' dnil)) in
    let fn = inst_fn inst code.function in
    let c = clauses E A P g d h d' 𝓛 𝓜.mem 𝓡.returns in
    let rule = rules g.holds g.shows g.keeps in
    let cv = E'.coded in
    let All : RattleType = Tuple (E' ∷ A' ∷ P' ∷ []) in
    let Book : RattleType = Seen.the_row E' A' P' g in
    let a_word = RefOf (0 ∷ []) tt (plain (λ _. Word.the_row E' A' P' g)) (λ _. tt) in
    let a_book = RefOf (1 ∷ []) tt (plain (λ _. Book)) (λ _. tt) in
    let hs : Stays En.signature.params En.kept =
    (stay_dropped a_word yes, (stay_dropped a_book yes, tt)) in
    proved 𝓛 En hs c 𝓜 𝓡
    (Goes-dropped 𝓛 5 a_word yes (λ κs x f. refl), (Goes-dropped 𝓛 5 a_book yes (λ κs x f. refl), tt))
    (#self inst) fn (code.unfolded 𝓤 𝓛.H 𝓜 𝓡 wired (E, (A, (P, tt))) d d')
    (λ κs. (shr_vals, (shr_vals, tt)))
    (λ κs. (shr_Tells (named 0) κs.0 (Word.the_row E' A' P' g), (shr_Tells (named 1) κs.1.0 Book, tt)))
    (λ κs qs bounds a gh are.
    let word = a.0.now in
    let seen = a.1.0.now in
    let at = a.1.0.ref_ptr in
    let hinted : Bool → ℕ → List E.Denot → Type 0 = λ t. Says h.hinted_beside t word.key in
    let p : Val = vptr a.0.ref_ptr.0 a.0.ref_ptr.1 in
    let p' : Val = vptr at.0 at.1 in
    let y : (walk_of 𝓛 En hs c).Ghost = ((κs, qs, bounds, a, (p ∷ [], (p' ∷ [], tt))), gh) in
    let Post : Val → SProp 𝓤 = (walk_of 𝓛 En hs c).post y in
    qed 𝓛 ((raw (alive 𝓛 En.signature κs qs) ⊛ ‵ (owns (types_at En.signature.params κs) a y.0.4))
    ∷ raw (fact 𝓤 _) ∷ raw (fact 𝓤 _) ∷ raw (fact 𝓤 _) ∷ given _ (‵ ftrue) ∷ []) ∵
    keep ! (4 ∷ 0 ∷ []) $ learn ! (λ asked. drop ! $ split ! $
    move ! (1 ∷ []) $ fsplit ! $ move ! (1 ∷ []) $ fsplit ! $ fsplit ! $ keep ! (1 ∷ 4 ∷ []) $
    enter ! 𝓣.C 𝓣.Λ fn (p ∷ p' ∷ []) Post $ alloc_all ! (λ l.
    pass_all ! refl ((tt, tt), ((tt, tt), tt)) $
    use1 𝓛 (‵ (hidden_shr (Token All) κs.1.0 (record {}, tt) at.0 at.1)
    ⊛ ‵ (fhide (seen_owns cv.code rule seen.book seen.names seen.log)))
    (lent_out 𝓛 (Seen.struct E' A' P' g)
    (Seen.the_codes E.Denot A.Denot P.Denot E'.coded A'.coded P'.coded (marker.the_row All).coded)
    (Seen.the_heap E' A' P' g) (Seen.the_lent E' A' P' g) κs.1.0 seen at.0 at.1) $
    split ! $ drop ! $ unhide ! $
    use1 𝓛 (‵ (reached cv.code seen.book.log_name seen.log))
    (steps.seen_log 𝓛 cv rule seen.book seen.names seen.log) $
    rewrite ! 0 (λ (z : _). ‵ (reached cv.code z.log_name seen.log)) asked.1 refl $
    use1 𝓛 (‵ (inner cv.code (hinted word.tracked) (untracked word) 0))
    (steps.tells 𝓛 cv rule word.book seen.names (hinted word.tracked) false word.key 0 0 [] qs.0 0 0 seen.log
    (subst (λ (t : Bool). hinted t 0 seen.log) (sym asked.0) refl)) $
    use1 𝓛 (‵ ((Hint.the_row E' A' P' g h).own_val word (word_val 0 ∷ [])))
    (word_made 𝓛 E' A' P' (beside_word g h word) (untracked word) 0 (lit< tt)) $
    sets ! (agg ! (no_more !)) refl (tt, tt) $
    sets ! (agg ! (and_then ! (lit ! tt) (and_then ! (get ! refl) (no_more !)))) refl
    (tt, (record { fits = lit< tt }, (tt, tt))) $
    move ! (1 ∷ []) $ nothing ! $ nothing ! $ fjoin ! $ nothing ! $ fjoin ! $
    returns ! (look_at ! 0 refl) $ free_all ! refl $ keep ! (1 ∷ 0 ∷ 2 ∷ []) $
    by ! (ends 𝓛 En hs c y (word_val 0) word (tt, (tt, tt)) (tt, (tt, tt))
    (fact_i 𝓤 _ (emp 𝓤) refl)))))
