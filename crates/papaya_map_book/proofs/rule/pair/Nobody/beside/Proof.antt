-- `beside` names the key and the value of the pair.
use Rattle.std.proofs.Common.{[], ◌∷◌, refl}
use mir.Syntax.{a_type, named}
use mir.Val.{Val, vptr, vstruct, vnil}
use mir.MapTy.{inst_fn}
use base.Logic.{SProp, emp, id⊢}
use base.Fml.{Fml}
use types.Kit.{‵, raw, ◌⊛◌, ◌$◌, ◌∵◌, !, qed, by, keep, use0, split, fjoin}
use types.Run.{no_more, and_then, returns, enter}
use types.ByLocal.{alloc_all, pass_all, free_all, look_at, get, sets}
use types.Part.{agg}
use contract.Running.{tables}
use denote.Builtin.{RefOf}
use denote.Exit.{yes}
use denote.Param.{param, layouts}
use denote.RattleType.{RattleType, owns}
use denote.Ref.{shr_vals, shr_Tells}
use denote.Shadow.{makes_shadow}
use denote.Signature.{types_at, plain}
use denote.Steps.{nothing}
use denote.Triple.Entry.{alive}
use denote.Triple.Walked.{Stays, stay_dropped, walk_of, Goes-dropped}
use Rattle.atomic_table.proofs.Walks.{proved}
use Rattle.logbook.proofs.Fields.{token, ends}
use Rattle.papaya_map_book.specs.contracts.rule.pair.Nobody as Nobody
use Rattle.papaya_map_book.specs.contracts.rule.pair.Pair as Pair
use Rattle.papaya_map_book.specs.contracts.rule.pair.Nobody.beside.{ended, clauses}
use Rattle.papaya_map_book.specs.contracts.rule.pair.Nobody.beside.Key.{name as #self}
use Rattle.papaya_map_book.proofs.rule.pair.Nobody.beside.Statement.{statement}
use Rattle.papaya_map_book.proofs.rule.pair.Nobody.beside.Code as code

pub beside_spec : {M : Type 1} → statement M
beside_spec 𝓤 𝓛 𝓜 𝓡 wired K V _ _ =
    let H = 𝓛.H in
    let 𝓣 = tables 𝓤 H 𝓜 𝓡 𝓡.env in
    let P : RattleType = Pair.the_row (param 0 K) (param 1 V) in
    let N : RattleType = Nobody.the_row (param 0 K) (param 1 V) in
    let En = ended K V in
    let inst = layouts (a_type ∷ a_type ∷ []) (K, (V, tt)) in
    let fn = inst_fn inst code.function in
    let c = clauses K V 𝓛 𝓜.mem 𝓡.returns in
    let pair = RefOf (0 ∷ []) tt (plain (λ _. P)) (λ _. tt) in
    let hs : Stays En.signature.params En.kept = (stay_dropped pair yes, tt) in
    proved 𝓛 En hs c 𝓜 𝓡 (Goes-dropped 𝓛 3 pair yes (λ κs x f. refl), tt) (#self inst) fn
    (code.unfolded 𝓤 H 𝓜 𝓡 wired (K, (V, tt)))
    (λ κs. (shr_vals, tt)) (λ κs. (shr_Tells (named 0) κs.0 P, tt)) (λ κs qs bounds a gh are.
    let p : Val = vptr a.0.ref_ptr.0 a.0.ref_ptr.1 in
    let n : N.Denot = record { marker = record {}; key = a.0.now.key.value; value = a.0.now.value } in
    let F : Fml = N.own_val n (token ∷ []) in
    let y : (walk_of 𝓛 En hs c).Ghost = ((κs, qs, bounds, a, (p ∷ [], tt)), gh) in
    let Post : Val → SProp 𝓤 = (walk_of 𝓛 En hs c).post y in
    qed 𝓛 ((raw (alive 𝓛 En.signature κs qs) ⊛ ‵ (owns (types_at En.signature.params κs) a y.0.4))
    ∷ raw ((c κs a).requires gh) ∷ []) ∵ split ! $ keep ! (0 ∷ []) $
    enter ! 𝓣.C 𝓣.Λ fn (p ∷ []) Post $ alloc_all ! (λ l. pass_all ! refl ((tt, tt), tt) $
    sets ! (agg ! (no_more !)) refl (tt, tt) $ sets ! (agg ! (and_then ! (get ! refl) (no_more !))) refl (tt, (tt, tt)) $
    use0 𝓛 (‵ F) (makes_shadow 𝓛 F ((λ vss. (tt, ((λ uss. (tt, tt)), tt))), tt)
    (((vstruct vnil ∷ [], tt), (refl, ((tt, (refl, tt)), tt))), tt)) $ nothing ! $ nothing ! $ fjoin ! $
    returns ! (look_at ! 0 refl) $ free_all ! refl $ keep ! (2 ∷ 0 ∷ 1 ∷ []) $
    by ! (ends 𝓛 En hs c y token n (tt, tt) (tt, tt) (id⊢ 𝓤 (emp 𝓤)))))
