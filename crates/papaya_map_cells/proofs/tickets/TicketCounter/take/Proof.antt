-- `take` is one step, which finds the number and gains its ticket.
use Rattle.std.proofs.Common.{◌≡◌, ℕ, ◌+◌, ◌^◌, ◌<◌, List, [], ◌∷◌, ◌++◌, refl, lit<, ltb→lt, arith, w64}
use native.Mathlib.Decide.{dec_le}
use base.Logic.{SProp, wand, emp, via, apply∗, guard_i, id⊢}
use base.Fml.{Lft, Share, Fml, ftrue, feq, fsep, flft}
use mir.Syntax.{named}
use mir.Val.{Val, Fits, vint, vptr, vstruct, vcons, vnil, of_list}
use types.Keyed.{ticket}
use types.Kit.{mean, ‵, raw, ◌⊛◌, some, later, at_ret, ◌$◌, ◌∵◌, !, qed, by, move, keep, use0, use1, use2, use3}
use types.Kit.{split, join, fsplit, fjoin, fpick, fpack, pick, await, feq_i, flt_i}
use types.Run.{stop, addr, lit, of_opd, bin, no_more, and_then, first, blocks, branches, exec, Calls-last, returns, enter}
use types.ByLocal.{alloc_all, pass_all, free_all, look_at, get, through, sets, sets_last, lands_last, env}
use types.Match.{live}
use types.Part.{agg}
use contract.Monad.{fact, fact_i}
use contract.Running.{tables}
use contract.Shared.{Lends-one}
use denote.Builtin.{RefOf, u64}
use denote.Exit.{yes}
use denote.Opens.{unhide}
use denote.RattleType.{RattleType, Valss, owns}
use denote.RawPtr.{block_ptr}
use denote.Ref.{shr_vals, shr_Tells}
use denote.Signature.{types_at, plain}
use denote.Steps.{nothing}
use denote.Struct.Tuple.{Tuple}
use denote.Triple.Walked.{Stays, stay_dropped, walk_of, Goes-dropped}
use Rattle.core.proofs.atomic.Steps.{tail}
use Rattle.core.proofs.option.Made.{Some-of, none_of}
use Rattle.core.specs.contracts.option.Option.{the_row as OptionOf}
use Rattle.core.specs.declared.option.Option.TheVariants.{None, Some}
use Rattle.std.proofs.raw_atomic.Calls.{fm, seq_cst, found, finds}
use Rattle.std.proofs.raw_atomic.Walks.{proved, leaves}
use Rattle.papaya_map_cells.specs.contracts.tickets.TicketCounter.{the_row}
use Rattle.papaya_map_cells.specs.contracts.arena_slot.Right as Right
use Rattle.papaya_map_cells.proofs.Calls.{counts_up}
use Rattle.papaya_map_cells.proofs.Counting.{gains, counts_one, gained_one}
use Rattle.papaya_map_cells.proofs.Made.{token_val, right_made}
use Rattle.papaya_map_cells.specs.contracts.tickets.TicketCounter.take.{ended, clauses}
use Rattle.papaya_map_cells.specs.contracts.tickets.TicketCounter.take.Key.{name as #self}
use Rattle.papaya_map_cells.proofs.tickets.TicketCounter.take.Statement.{statement}
use Rattle.papaya_map_cells.proofs.tickets.TicketCounter.take.Code as code

pub take_spec : {M : Type 1} → statement M
take_spec 𝓤 𝓛 𝓜 𝓡 wired =
    let H = 𝓛.H in let A = 𝓛.A in let 𝓣 = tables 𝓤 H 𝓜 𝓡 𝓡.env in let fn = code.function in
    let c = clauses 𝓛 𝓜.mem 𝓡.returns in let self = RefOf (0 ∷ []) tt (plain (λ _. the_row)) (λ _. tt) in
    let hs : Stays ended.signature.params ended.kept = (stay_dropped self yes, tt) in
    proved 𝓛 ended hs c 𝓜 𝓡 (Goes-dropped 𝓛 1 self yes (λ κs x f. refl), tt) #self fn (code.unfolded 𝓤 H 𝓜 𝓡 wired)
    (λ κs. (shr_vals, tt)) (λ κs. (shr_Tells (named 0) κs.0 the_row, tt)) (λ κs qs bounds a gh are.
    let d : ℕ = a.0.now in let b : ℕ = a.0.ref_ptr.0 in let o : ℕ = a.0.ref_ptr.1 in
    let κ : Lft = κs.0 in let q : Share = qs.0 in
    let y : (walk_of 𝓛 ended hs c).Ghost = ((κs, qs, bounds, a, (vptr b o ∷ [], tt)), gh) in
    let Post : Val → SProp 𝓤 = (walk_of 𝓛 ended hs c).post y in
    qed 𝓛 (((‵ (flft κ q) ⊛ ‵ ftrue) ⊛ ‵ (owns (types_at ended.signature.params κs) a y.0.4)) ∷ raw ((c κs a).requires gh) ∷ []) ∵
    split ! $ split ! $ move ! (2 ∷ []) $ fsplit ! $ fsplit ! $ keep ! (1 ∷ 3 ∷ 4 ∷ []) $ unhide ! $ fpick ! (λ α. fsplit ! $
    enter ! 𝓣.C 𝓣.Λ fn (vptr b o ∷ []) Post $ alloc_all ! (λ l. pass_all ! refl ((tt, tt), tt) $ let Ev = env fn.locals l in
    move ! (0 ∷ 2 ∷ []) $
    use2 𝓛 (later (some (λ (s : Share). ‵ (flft α s) ⊛ raw (wand 𝓤 (A.lft α s) (H.⇛ (A.lft κ q))))))
    (Lends-one 𝓛 𝓜 𝓡 κ α q) $ await ! tt $ pick ! (λ s. split ! $
    let out : ℕ → Fml = λ n. fsep (flft α s) (gains d n) in
    -- [the word's token; the way back; the invariant; nothing]
    sets ! (addr ! (through ! refl (stop !))) refl (tt, tt) $ sets ! (of_opd ! (get ! refl)) refl (tt, tt) $
    first ! $ blocks ! $ sets ! (agg ! (and_then ! (lit ! tt) (no_more !))) refl (tt, (record { fits = lit< tt }, tt)) $
    nothing ! $ move ! (3 ∷ 1 ∷ 0 ∷ []) $
    use3 𝓛 (raw (𝓣.C _ (vptr b o ∷ seq_cst ∷ []) (λ u. mean 𝓛 (found out u))))
    (via 𝓤 _ (counts_one 𝓛 d α s b o)
    (counts_up 𝓛 𝓜 𝓡 (code.calls-core::raw_atomic::saturating_increment 𝓡.env wired) (block_ptr b o) out)) $
    Calls-last ! (fm 𝓛 𝓜 𝓡) (found out) (and_then ! (get ! refl) (and_then ! (get ! refl) (no_more !))) (λ u.
    finds ! out (λ n fits. lands_last ! refl (tt, record { fits = fits }) $
    exec ! 𝓣.C 𝓣.Λ Ev (tail (tail (tail fn.body))) (at_ret Ev Post) $
    fsplit ! $ move ! (0 ∷ 2 ∷ []) $ use2 𝓛 (later (‵ (flft κ q))) (apply∗ 𝓤 (A.lft α s) (H.⇛ (A.lft κ q))) $ await ! tt $
    move ! (0 ∷ 2 ∷ []) $ join ! $
    -- [the tokens; what is gained]
    let last = tail (tail (tail (tail (tail (tail fn.body))))) in
    let Pair : RattleType = Tuple (u64 ∷ Right.the_row ∷ []) in
    sets ! (of_opd ! (get ! refl)) refl (tt, record { fits = fits }) $
    sets ! (bin ! (get ! refl) (record {
      go = λ K g. via 𝓤 (K (vint w64 9223372036854775807)) g
          (guard_i 𝓤 (Fits w64 9223372036854775807) (K (vint w64 9223372036854775807)) (record { fits = lit< tt }));
    }) tt) refl (tt, tt) $ first ! $ branches ! (get ! refl)
    (λ more. let few : n < 9223372036854775807 = ltb→lt n 9223372036854775807 more in
    let r : Right.the_row.Denot = record { marker = record {}; counter = d; number = n } in
    let both : Val = vstruct (vcons (vint w64 n) (vcons token_val vnil)) in let v : Val = live 1 (vcons both vnil) in
    let Right_told : Type 0 = (d ≡ d) × (n ≡ n) in let Small : Type 0 = n < 2 ^ 63 in
    move ! (1 ∷ []) $ use1 𝓛 (‵ (ticket d n)) (gained_one 𝓛 d n (dec_le (2 ^ 63) (n + 1)) few) $
    use1 𝓛 (‵ (Right.the_row.own_val r (token_val ∷ []))) (right_made 𝓛 d n) $
    nothing ! $ move ! (1 ∷ 0 ∷ []) $ fjoin ! $
    flt_i ! n (2 ^ 64) fits $ feq_i ! (List Val) (vint w64 n ∷ []) (vint w64 n ∷ []) refl $ fjoin ! $ fjoin ! $
    feq_i ! (List Val) (both ∷ []) (both ∷ []) refl $ fjoin ! $
    fpack ! (Valss (u64 ∷ Right.the_row ∷ [])) (λ vss. fsep (feq (List Val) (both ∷ []) (vstruct (of_list (vss.0 ++ (vss.1.0 ++ []))) ∷ []))
    (owns (u64 ∷ Right.the_row ∷ []) (n, (r, tt)) vss)) (vint w64 n ∷ [], (token_val ∷ [], tt)) $
    use1 𝓛 (‵ ((OptionOf Pair).own_val (Some (n, r)) (v ∷ []))) (Some-of 𝓛 Pair (n, r) both) $
    sets ! (agg ! (no_more !)) refl (tt, tt) $ sets ! (agg ! (and_then ! (get ! refl) (no_more !))) refl (tt, (tt, tt)) $
    sets ! (of_opd ! (get ! refl)) refl (tt, (tt, tt)) $
    sets ! (agg ! (and_then ! (get ! refl) (and_then ! (get ! refl) (no_more !)))) refl (tt, (record { fits = fits }, ((tt, tt), tt))) $
    sets_last ! (agg ! (and_then ! (lit ! tt) (and_then ! (get ! refl) (no_more !)))) refl
    (tt, (record { fits = lit< tt }, ((record { fits = fits }, ((tt, tt), tt)), tt))) $
    exec ! 𝓣.C 𝓣.Λ Ev last (at_ret Ev Post) $
    sets ! (of_opd ! (get ! refl)) refl (tt, (record { fits = lit< tt }, ((record { fits = fits }, ((tt, tt), tt)), tt))) $
    use0 𝓛 (raw (fact 𝓤 Small)) (fact_i 𝓤 Small (emp 𝓤) (omega arith)) $
    use0 𝓛 (raw (fact 𝓤 Right_told)) (fact_i 𝓤 Right_told (emp 𝓤) (refl, refl)) $ join ! $ nothing ! $ nothing ! $ fjoin ! $
    returns ! (look_at ! 0 refl) $ free_all ! refl $ keep ! (3 ∷ 0 ∷ 2 ∷ 1 ∷ []) $
    by ! (leaves 𝓛 ended hs c y v (Some (n, r)) (tt, tt) (tt, tt)))
    (λ no_more_left. let v : Val = live 0 vnil in
    sets_last ! (agg ! (and_then ! (lit ! tt) (no_more !))) refl (tt, (record { fits = lit< tt }, tt)) $
    exec ! 𝓣.C 𝓣.Λ Ev last (at_ret Ev Post) $ sets ! (of_opd ! (get ! refl)) refl (tt, (record { fits = lit< tt }, tt)) $
    use0 𝓛 (raw (fact 𝓤 (Unit {0}))) (fact_i 𝓤 (Unit {0}) (emp 𝓤) tt) $
    use0 𝓛 (raw (fact 𝓤 (Unit {0}))) (fact_i 𝓤 (Unit {0}) (emp 𝓤) tt) $ join ! $
    use0 𝓛 (‵ ((OptionOf Pair).own_val None (v ∷ []))) (none_of 𝓛 Pair) $ nothing ! $ nothing ! $ fjoin ! $
    returns ! (look_at ! 0 refl) $ free_all ! refl $ keep ! (3 ∷ 0 ∷ 1 ∷ 2 ∷ []) $
    by ! (leaves 𝓛 ended hs c y v None (tt, tt) (tt, tt)))))))))
