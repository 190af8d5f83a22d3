-- `new` names the slot, which is free.
use Rattle.std.proofs.Common.{◌≡◌, ℕ, List, [], ◌∷◌, sym, refl, lit<, w64}
use base.Stored.{gnil}
use base.Logic.{SProp, ent, emp, id⊢}
use base.Fml.{Fml, ftrue, fsep, fex}
use mir.Syntax.{a_type}
use mir.Val.{Val, vint, vptr, vstruct, vcons, vnil}
use mir.MapTy.{inst_fn}
use prog.Wp.{WpFn}
use types.Kit.{‵, raw, ◌⊛◌, ◌$◌, ◌∵◌, !, qed, by, move, keep, use0, use1, split, fsplit, fjoin, fpack, feq_i}
use types.Run.{of_opd, no_more, and_then, returns, enter}
use types.ByLocal.{alloc_all, pass_all, free_all, look_at, get, sets}
use types.Part.{agg}
use types.Tokens.{name_new}
use contract.Monad.{fact, fact_i}
use contract.Running.{tables}
use denote.Builtin.{RefOf, u64}
use denote.Exit.{yes, no}
use denote.Laws.{Is, Typed, shows}
use denote.Param.{param, layouts, layout}
use denote.Param.Laws.{param_laws}
use denote.RattleType.{RattleType, Valss, owns}
use denote.Signature.{types_at, plain}
use denote.Steps.{nothing, peeks}
use denote.Struct.Declared.{shape, fields}
use denote.Struct.Struct.{within}
use denote.Triple.Entry.{alive}
use denote.Triple.Walked.{Stays, stay_dropped, walk_of, Goes-dropped}
use Rattle.core.proofs.cell.Inside.{Good, one}
use Rattle.atomic_table.proofs.Walks.{proved_at, leaves}
use Rattle.boxcar.specs.Slot.{free}
use Rattle.papaya_map_cells.specs.Slots.{Named, Rest, resting}
use Rattle.papaya_map_cells.specs.contracts.tickets.TicketCounter as Counter
use Rattle.papaya_map_cells.specs.contracts.arena_slot.ArenaSlot.{the_row}
use Rattle.papaya_map_cells.specs.contracts.arena_slot.ArenaSlot.TheInside as Inside
use Rattle.papaya_map_cells.proofs.arena_slot.ArenaSlot.TheInside.TheLaws.{the_row_laws as inside_laws}
use Rattle.papaya_map_cells.specs.contracts.arena_slot.ArenaSlot.new.{ended, clauses}
use Rattle.papaya_map_cells.specs.contracts.arena_slot.ArenaSlot.new.Key.{name as #self}
use Rattle.papaya_map_cells.proofs.arena_slot.ArenaSlot.new.Statement.{statement}
use Rattle.papaya_map_cells.proofs.arena_slot.ArenaSlot.new.Code as code

pub new_spec : {M : Type 1} → statement M
new_spec 𝓤 𝓛 𝓜 𝓡 wired T L =
    let H = 𝓛.H in let 𝓣 = tables 𝓤 H 𝓜 𝓡 𝓡.env in
    let R : RattleType = param 0 T in let LR = param_laws 0 T L in let En = ended T in
    let inst = layouts (a_type ∷ []) (T, tt) in let fn = inst_fn inst code.function in let c = clauses T 𝓛 𝓜.mem 𝓡.returns in
    let blank = plain (λ _. R) in let counter = RefOf (0 ∷ []) tt (plain (λ _. Counter.the_row)) (λ _. tt) in
    let number = plain (λ _. u64) in
    let hs : Stays En.signature.params En.kept = (stay_dropped blank no, (stay_dropped counter yes, (stay_dropped number yes, tt))) in
    proved_at 𝓛 En hs c 𝓜 𝓡 (
      Goes-dropped 𝓛 2 blank no (λ κs x f. refl),
      (Goes-dropped 𝓛 2 counter yes (λ κs x f. refl), (Goes-dropped 𝓛 2 number yes (λ κs x f. refl), tt)),
    ) (#self inst) fn (code.unfolded 𝓤 H 𝓜 𝓡 wired (T, tt))
    (λ y₀ are. let κs = y₀.0.0 in let qs = y₀.0.1 in let a = y₀.0.3 in
    let x : T.Denot = a.0 in let n : ℕ = a.1.1.0 in let p : Val = vptr a.1.0.ref_ptr.0 a.1.0.ref_ptr.1 in
    let got = one (layout T) y₀.0.4.0 ((LR.lawful 𝓛).typed x y₀.0.4.0 are.0) in
    let w : Val = got.0 in let good : Good (layout T) w = got.2 in
    let At : List Val × (List Val × (List Val × Unit {0})) → (walk_of 𝓛 En hs c).Ghost = λ vss. ((κs, qs, y₀.0.2, a, vss), y₀.1) in
    let y : (walk_of 𝓛 En hs c).Ghost = At (w ∷ [], (p ∷ [], (vint w64 n ∷ [], tt))) in
    let Post : Val → SProp 𝓤 = (walk_of 𝓛 En hs c).post y in
    let S : RattleType = Inside.the_row R in let v : Val = vstruct (vcons w vnil) in
    let holding : Rest T.Denot → S.Denot = λ s. record { value = s.0 } in let s₀ : Rest T.Denot = (x, free) in
    let fits : Type 0 = Typed (the_row R).mir (v ∷ []) in
    let Told : Type 0 = (a.1.0.now ≡ a.1.0.now) × (n ≡ n) in
    Rattle.std.proofs.Common.subst (λ (vss : List Val × (List Val × (List Val × Unit {0}))).
    ent 𝓤 ((walk_of 𝓛 En hs c).pre (At vss)) (WpFn 𝓤 H 𝓣.C 𝓣.Λ fn ((walk_of 𝓛 En hs c).args (At vss)) ((walk_of 𝓛 En hs c).post (At vss))))
    (λ i. (sym got.1 i, (sym are.1.0.0 i, (sym are.1.1.0.0 i, tt)))) (
    qed 𝓛 ((raw (alive 𝓛 En.signature κs qs) ⊛ ‵ (owns (types_at En.signature.params κs) a y.0.4)) ∷ raw ((c κs a).requires y₀.1) ∷ []) ∵
    split ! $ keep ! (1 ∷ 0 ∷ []) $ fsplit ! $ keep ! (0 ∷ 2 ∷ []) $
    enter ! 𝓣.C 𝓣.Λ fn (w ∷ p ∷ vint w64 n ∷ []) Post $
    alloc_all ! (λ l. pass_all ! refl (good, ((tt, tt), ((tt, record { fits = are.1.1.0.1 }), tt))) $
    name_new ! tt gnil (λ γ. let d : Named = record { id = γ; counter = a.1.0.now; number = n } in
    nothing ! $ fpack ! (Unit {0}) (λ _. ftrue) tt $ move ! (1 ∷ 0 ∷ []) $ fjoin ! $ move ! (1 ∷ 0 ∷ []) $ fjoin ! $
    -- [what rests; the blank; the tokens]
    nothing ! $ move ! (2 ∷ 0 ∷ []) $ fjoin ! $ feq_i ! (List Val) (v ∷ []) (v ∷ []) refl $ fjoin ! $
    fpack ! (Valss (fields (Inside.the_type R))) (within (shape (Inside.the_type R)) ((Inside.the_type R).to (holding s₀)) (v ∷ []))
    (w ∷ [], tt) $ use1 𝓛 (‵ (S.own_val (holding s₀) (v ∷ []))) (id⊢ 𝓤 _) $
    peeks ! S (Is S) (shows 𝓛 S) (holding s₀) (v ∷ []) (λ is.
    let fit = ((inside_laws R LR).lawful 𝓛).typed (holding s₀) (v ∷ []) is in fjoin ! $
    fpack ! (Rest T.Denot) (λ s. fsep (S.own_val (holding s) (v ∷ [])) (resting R d s)) s₀ $
    use0 𝓛 (‵ (fex fits (λ _. ftrue))) (fact_i 𝓤 fits (emp 𝓤) fit) $ fjoin ! $
    sets ! (of_opd ! (get ! refl)) refl good $ sets ! (agg ! (and_then ! (get ! refl) (no_more !))) refl fit.0 $
    use0 𝓛 (raw (fact 𝓤 Told)) (fact_i 𝓤 Told (emp 𝓤) (refl, refl)) $
    nothing ! $ nothing ! $ fjoin ! $ nothing ! $ fjoin ! $ nothing ! $ fjoin ! $
    returns ! (look_at ! 0 refl) $ free_all ! refl $ keep ! (3 ∷ 0 ∷ 2 ∷ 1 ∷ []) $
    by ! (leaves 𝓛 En hs c y v d (tt, (tt, (tt, tt))) (tt, (tt, (tt, tt)))))))))
