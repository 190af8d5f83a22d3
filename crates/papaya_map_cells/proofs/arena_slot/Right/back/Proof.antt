-- `back` is one step, after which the counter has its ticket again if it is at the next number.
use Rattle.std.proofs.Common.{◌≡◌, ℕ, ◌+◌, ◌^◌, ◌<◌, List, [], ◌∷◌, refl, lit<, arith, w64}
use base.Logic.{SProp, wand, emp, via, apply∗, id⊢}
use base.Fml.{Lft, Share, Fml, ftrue, fsep, flft}
use mir.Syntax.{named}
use mir.Val.{Val, vunit, vint, vptr}
use types.Keyed.{ticket}
use types.Kit.{mean, ‵, raw, ◌⊛◌, some, later, at_ret, ◌$◌, ◌∵◌, !, qed, by, move, keep, use2, use3}
use types.Kit.{split, join, fsplit, fsplit3, fjoin, fpick, pick, await, rewrite, feq_i}
use types.Run.{stop, addr, lit, unit_lit, of_opd, bin, no_more, and_then, first, blocks, exec, Calls-last, returns, enter}
use types.ByLocal.{alloc_all, pass_all, free_all, look_at, get, through, sets, lands_last, env}
use contract.Monad.{fact}
use contract.Running.{tables}
use contract.Shared.{Lends-one}
use denote.Builtin.{RefOf, u64, unit}
use denote.Exit.{yes}
use denote.Opens.{unhide}
use denote.Plain.{uint_vals, uint_Tells}
use denote.RattleType.{RattleType, owns}
use denote.RawPtr.{block_ptr}
use denote.Ref.{shr_vals, shr_Tells}
use denote.Signature.{types_at, plain}
use denote.Steps.{nothing, heard}
use denote.Triple.Walked.{Stays, stay_dropped, walk_of, Goes-dropped}
use Rattle.core.proofs.atomic.Steps.{tail}
use Rattle.atomic_table.proofs.Calls.{fm, found, finds, exchanges}
use Rattle.atomic_table.proofs.Walks.{proved}
use Rattle.logbook.proofs.Fields.{token_told, ends}
use Rattle.papaya_map_cells.specs.contracts.tickets.TicketCounter as Counter
use Rattle.papaya_map_cells.specs.contracts.arena_slot.Right as Right
use Rattle.papaya_map_cells.proofs.Counting.{counts_back}
use Rattle.papaya_map_cells.proofs.Made.{token_val}
use Rattle.papaya_map_cells.specs.contracts.arena_slot.Right.back.{ended, clauses}
use Rattle.papaya_map_cells.specs.contracts.arena_slot.Right.back.Key.{name as #self}
use Rattle.papaya_map_cells.proofs.arena_slot.Right.back.Statement.{statement}
use Rattle.papaya_map_cells.proofs.arena_slot.Right.back.Code as code

pub back_spec : {M : Type 1} → statement M
back_spec 𝓤 𝓛 𝓜 𝓡 wired =
    let H = 𝓛.H in let A = 𝓛.A in let 𝓣 = tables 𝓤 H 𝓜 𝓡 𝓡.env in let fn = code.function in
    let c = clauses 𝓛 𝓜.mem 𝓡.returns in let self = plain (λ _. Right.the_row) in
    let counter = RefOf (0 ∷ []) tt (plain (λ _. Counter.the_row)) (λ _. tt) in let number = plain (λ _. u64) in
    let hs : Stays ended.signature.params ended.kept = (stay_dropped self yes, (stay_dropped counter yes, (stay_dropped number yes, tt))) in
    proved 𝓛 ended hs c 𝓜 𝓡 (
      Goes-dropped 𝓛 1 self yes (λ κs x f. refl),
      (Goes-dropped 𝓛 1 counter yes (λ κs x f. refl), (Goes-dropped 𝓛 1 number yes (λ κs x f. refl), tt)),
    ) #self fn (code.unfolded 𝓤 H 𝓜 𝓡 wired)
    (λ κs. ((λ x. token_val ∷ []), (shr_vals, (uint_vals w64, tt))))
    (λ κs. ((λ x vs is. token_told unit vs is.0), (shr_Tells (named 0) κs.0 Counter.the_row, (uint_Tells w64, tt))))
    (λ κs qs bounds a gh are.
    let d : ℕ = a.1.0.now in let b : ℕ = a.1.0.ref_ptr.0 in let o : ℕ = a.1.0.ref_ptr.1 in let k : ℕ = a.1.1.0 in
    let κ : Lft = κs.0 in let q : Share = qs.0 in
    let y : (walk_of 𝓛 ended hs c).Ghost = ((κs, qs, bounds, a, (token_val ∷ [], (vptr b o ∷ [], (vint w64 k ∷ [], tt)))), gh) in
    let Post : Val → SProp 𝓤 = (walk_of 𝓛 ended hs c).post y in
    let Asked : Type 0 = (a.0.counter ≡ d) × (a.0.number ≡ k) in
    qed 𝓛 (((‵ (flft κ q) ⊛ ‵ ftrue) ⊛ ‵ (owns (types_at ended.signature.params κs) a y.0.4))
    ∷ raw (fact 𝓤 Asked) ∷ raw (fact 𝓤 (k < 2 ^ 63)) ∷ []) ∵
    keep ! (1 ∷ 2 ∷ 0 ∷ []) $ heard ! Asked (λ asked. heard ! (k < 2 ^ 63) (λ small.
    let next : k + 1 < 2 ^ 64 = omega arith in let this : k < 2 ^ 64 = omega arith in
    split ! $ split ! $ move ! (2 ∷ []) $ fsplit3 ! $ fsplit ! $ move ! (2 ∷ []) $ fsplit ! $ keep ! (1 ∷ 3 ∷ 5 ∷ 6 ∷ []) $
    rewrite ! 1 (λ (m : ℕ). ‵ (ticket m a.0.number)) asked.0 refl $ rewrite ! 1 (λ (m : ℕ). ‵ (ticket d m)) asked.1 refl $
    unhide ! $ fpick ! (λ α. fsplit ! $
    enter ! 𝓣.C 𝓣.Λ fn (token_val ∷ vptr b o ∷ vint w64 k ∷ []) Post $
    alloc_all ! (λ l. pass_all ! refl ((tt, (tt, tt)), ((tt, tt), ((tt, record { fits = this }), tt))) $ let Ev = env fn.locals l in
    move ! (0 ∷ 3 ∷ []) $
    use2 𝓛 (later (some (λ (s : Share). ‵ (flft α s) ⊛ raw (wand 𝓤 (A.lft α s) (H.⇛ (A.lft κ q))))))
    (Lends-one 𝓛 𝓜 𝓡 κ α q) $ await ! tt $ pick ! (λ s. split ! $
    let out : ℕ → Fml = λ n. fsep (flft α s) ftrue in
    -- [the word's token; the way back; the invariant; the ticket; nothing]
    sets ! (addr ! (through ! refl (stop !))) refl (tt, tt) $ sets ! (of_opd ! (get ! refl)) refl (tt, tt) $
    first ! $ blocks ! $ sets ! (bin ! (get ! refl) (lit ! tt) (record { fits = next })) refl (tt, record { fits = next }) $
    move ! (2 ∷ 0 ∷ 3 ∷ []) $
    use3 𝓛 (raw (𝓣.C _ (vptr b o ∷ vint w64 (k + 1) ∷ vint w64 k ∷ []) (λ u. mean 𝓛 (found out u))))
    (via 𝓤 _ (counts_back 𝓛 d α s b o k)
    (exchanges 𝓛 𝓜 𝓡 (code.calls-atomic_table::exchange 𝓡.env wired) (block_ptr b o) (k + 1) k next this out)) $
    Calls-last ! (fm 𝓛 𝓜 𝓡) (found out) (and_then ! (get ! refl) (and_then ! (get ! refl) (and_then ! (get ! refl) (no_more !)))) (λ u.
    finds ! out (λ n fits. lands_last ! refl (tt, record { fits = fits }) $
    exec ! 𝓣.C 𝓣.Λ Ev (tail (tail (tail fn.body))) (at_ret Ev Post) $ sets ! (of_opd ! (unit_lit !)) refl (tt, tt) $
    fsplit ! $ move ! (0 ∷ 2 ∷ []) $ use2 𝓛 (later (‵ (flft κ q))) (apply∗ 𝓤 (A.lft α s) (H.⇛ (A.lft κ q))) $ await ! tt $
    move ! (0 ∷ 2 ∷ []) $ join ! $ feq_i ! (List Val) (vunit ∷ []) (vunit ∷ []) refl $
    nothing ! $ nothing ! $ fjoin ! $ nothing ! $ fjoin ! $ nothing ! $ fjoin ! $
    returns ! (look_at ! 0 refl) $ free_all ! refl $ keep ! (2 ∷ 0 ∷ 1 ∷ []) $
    by ! (ends 𝓛 ended hs c y vunit tt (tt, (tt, (tt, tt))) (tt, (tt, (tt, tt))) (id⊢ 𝓤 (emp 𝓤)))))))))))
