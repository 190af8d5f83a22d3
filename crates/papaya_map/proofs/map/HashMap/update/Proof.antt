-- `update` with a guard returns the result of its first half, and passes on the evidence of the log. Assumes `Logic`.
use Rattle.std.proofs.Common.{◌≡◌, [], ◌∷◌, Err, refl}
use Rattle.std.specs.Prelude.{IfErr, IfOk}
use mathlib.Core.List.{IsPrefix}
use mir.Syntax.{a_type, dcons, dnil, named}
use mir.MapTy.{inst_fn}
use base.Logic.{id⊢}
use denote.Ref.{NamedLft}
use denote.Param.{param, bounded}
use Rattle.std.proofs.option.Option.TheLaws.{the_row_laws as option_laws}
use Rattle.std.proofs.result.Result.TheLaws.{the_row_laws as result_laws}
use Rattle.papaya_words.proofs.refused.Refused.TheLaws.{the_row_laws as refused_laws}
use Rattle.papaya_words.specs.contracts.refused.Refused.{the_row as RefusedRow}
use Rattle.papaya_words.specs.declared.refused.Refused.TheVariants.{WrongGuard}
use Rattle.papaya_map_book.specs.contracts.rule.entry.Event as event
use Rattle.papaya_map_book.specs.contracts.rule.entry.Named as naming
use Rattle.papaya_gate.specs.contracts.rule.Gated as gated
use Rattle.papaya_gate.specs.contracts.rule.GatedRule.TheImpl as GatedRule
use Rattle.papaya_map_book.specs.contracts.rule.law.LogLaw as law
use Rattle.papaya_map_book.specs.contracts.rule.law.LogLawRuleEventNamed.TheImpl as LawRule
use Rattle.papaya_map_book.specs.contracts.rule.law.LogLawTrackingEvent.TheImpl as LawTracking
use Rattle.papaya_map_lookup.specs.History.{IsLegalHistory, history_of, key_of}
use Rattle.std.specs.contracts.option.Option as Option
use Rattle.std.specs.Fn.{FnReturnsAt}
use Rattle.papaya_map.specs.Limited.{IsPlainRefusal}
use Rattle.papaya_map.specs.Storing.{IsUpdated}
use Rattle.papaya_map.specs.Plain.{IsSince, rule_of, unpinned}
use Rattle.papaya_map.proofs.Telling.{held_good, one_of, one_ref, ref_laws, ref_row}
use Rattle.papaya_map.proofs.ToldWalks.{walk_rroor}
use Rattle.papaya_map.proofs.Handed.{meets, Answer, six_facts, handed_3, past_first}
use Rattle.papaya_map.specs.contracts.map.HashMap as HashMap
use Rattle.papaya_map.specs.contracts.map.HashMap.update_observed as callee
use Rattle.papaya_map.specs.contracts.map.HashMap.update_observed.Key.{name as #callee}
use Rattle.papaya_map.proofs.map.HashMap.update_observed.Met.{met}
use Rattle.papaya_map.specs.contracts.map.HashMap.update.{ended, clauses}
use Rattle.papaya_map.specs.contracts.map.HashMap.update.Key.{name as #self}
use Rattle.papaya_map.proofs.map.HashMap.update.Statement.{statement}
use Rattle.papaya_map.proofs.map.HashMap.update.Code as code

pub update_spec : {M : Type 1} → statement M
update_spec 𝓤 𝓛 𝓜 𝓡 wired K V S S-Hasher R F G LK LV LS LH LR LF LG K-Hash K-Hash-dict K-Eq K-Eq-dict K-PartialEq K-PartialEq-dict S-BuildHasher
    S-BuildHasher-dict S-Hasher-Hasher S-Hasher-Hasher-dict K-Destruct-dict V-Destruct-dict S-Hasher-Destruct-dict R-Wait R-Wait-dict F-Fn F-Fn-dict
    F-FnMut-dict F-FnOnce-dict G-Guard G-Guard-dict F-Destruct-dict m1 m2 m3 m4 m5 m6 m7 m8 m9 m10 m11 m12 m13 m14 =
    let inst = bounded (a_type ∷ a_type ∷ a_type ∷ a_type ∷ a_type ∷ a_type ∷ a_type ∷ []) (K, (V, (S, (S-Hasher, (R, (F, (G, tt)))))))
    (dcons K-Hash-dict (dcons K-Eq-dict (dcons K-PartialEq-dict
    (dcons S-BuildHasher-dict (dcons S-Hasher-Hasher-dict
    (dcons K-Destruct-dict (dcons V-Destruct-dict
    (dcons S-Hasher-Destruct-dict (dcons R-Wait-dict
    (dcons F-Fn-dict (dcons F-FnMut-dict (dcons F-FnOnce-dict (dcons G-Guard-dict (dcons F-Destruct-dict dnil)))))))))))))) in
    let E = event.the_row (param 0 K) (param 1 V) (param 2 S) in let N = naming.the_row (param 0 K) (param 1 V) in
    let L = law.the_row (param 0 K) (param 1 V) (param 2 S) in let P = gated.the_row L in
    let g = GatedRule.ghosts E N L (LawRule.ghosts (param 0 K) (param 1 V) (param 2 S) (param 3 S-Hasher) K-Hash LawRule.no_dict K-Eq LawRule.no_dict K-PartialEq
    LawRule.no_dict S-BuildHasher LawRule.no_dict S-Hasher-Hasher LawRule.no_dict LawRule.no_dict) GatedRule.no_dict (LawTracking.ghosts (param 0 K) (param 1 V) (param 2 S)) GatedRule.no_dict in
    let Ends = ended K V S S-Hasher R F G K-Hash K-Hash-dict K-Eq K-Eq-dict K-PartialEq K-PartialEq-dict S-BuildHasher S-BuildHasher-dict
    S-Hasher-Hasher S-Hasher-Hasher-dict K-Destruct-dict V-Destruct-dict S-Hasher-Destruct-dict R-Wait R-Wait-dict F-Fn F-Fn-dict F-FnMut-dict
    F-FnOnce-dict G-Guard G-Guard-dict F-Destruct-dict in
    meets E N P g Ends 𝓛 𝓜 𝓡 (clauses K V S S-Hasher R F G K-Hash K-Hash-dict K-Eq K-Eq-dict K-PartialEq K-PartialEq-dict S-BuildHasher
    S-BuildHasher-dict S-Hasher-Hasher S-Hasher-Hasher-dict K-Destruct-dict V-Destruct-dict S-Hasher-Destruct-dict R-Wait R-Wait-dict F-Fn F-Fn-dict
    F-FnMut-dict F-FnOnce-dict G-Guard G-Guard-dict F-Destruct-dict 𝓛 𝓜.mem 𝓡.returns)
    (callee.clauses K V S S-Hasher R F G K-Hash K-Hash-dict K-Eq K-Eq-dict K-PartialEq K-PartialEq-dict S-BuildHasher S-BuildHasher-dict
    S-Hasher-Hasher S-Hasher-Hasher-dict K-Destruct-dict V-Destruct-dict S-Hasher-Destruct-dict R-Wait R-Wait-dict F-Fn F-Fn-dict F-FnMut-dict
    F-FnOnce-dict G-Guard G-Guard-dict F-Destruct-dict 𝓛 𝓜.mem 𝓡.returns)
    (λ κs a r. (r.book ≡ a.0.now.book) × IsLegalHistory K-PartialEq.eq key_of (history_of r.log) × IsPrefix a.0.now.seen (history_of r.log)
    × IfOk r.answer (IsUpdated K-PartialEq.eq a.1.1.0 a.0.now.seen (history_of r.log) (FnReturnsAt F-Fn a.1.1.1.0))
    × ((G-Guard.collector_number a.1.1.1.1.0.now ≡ a.0.now.collector) → IfErr r.answer (IsPlainRefusal a.0.now.begun.limit))
    × (((G-Guard.collector_number a.1.1.1.1.0.now ≡ a.0.now.collector) → ⊥) → r.answer ≡ Err WrongGuard))
    (λ κs a u. (tt, id⊢ 𝓤 _)) (λ κs a u r ws. past_first 𝓤 _ (six_facts 𝓤))
    (λ κs a u r ws f. handed_3 𝓛 E.coded.code (rule_of g) r.names r.log
    (λ log. IsSince (unpinned a.0.now) K-PartialEq.eq
    (λ h. IfOk r.answer (IsUpdated K-PartialEq.eq a.1.1.0 a.0.now.seen h (FnReturnsAt F-Fn a.1.1.1.0))) (history_of log)) f.0 (f.1, f.2, f.3)
    (history_of r.log, (f.1, f.2, f.3)) f.4 f.5)
    (λ κs. let ℓ : NamedLft = record { mir = named 0; lft = κs.0 } in
    result_laws (Option.the_row (ref_row ℓ 1 V)) RefusedRow (option_laws (ref_row ℓ 1 V) (ref_laws ℓ 1 V LV)) refused_laws)
    (λ κs x f. refl, (λ κs x f. refl, (λ κs x f. refl, (λ κs x f. refl, (λ κs x f. refl, tt))))) (#self inst) (#callee inst)
    (inst_fn inst code.function) (code.unfolded 𝓤 𝓛.H 𝓜 𝓡 wired (K, (V, (S, (S-Hasher, (R, (F, (G, tt))))))) K-Hash-dict K-Eq-dict K-PartialEq-dict
    S-BuildHasher-dict S-Hasher-Hasher-dict K-Destruct-dict V-Destruct-dict S-Hasher-Destruct-dict R-Wait-dict F-Fn-dict F-FnMut-dict F-FnOnce-dict
    G-Guard-dict F-Destruct-dict)
    (met 𝓤 𝓛 𝓜 𝓡 (code.calls-papaya_map::map::HashMap::update_observed 𝓡.env wired) K V S S-Hasher R F G LK LV LS LH LR LF LG K-Hash K-Hash-dict K-Eq
    K-Eq-dict K-PartialEq K-PartialEq-dict S-BuildHasher S-BuildHasher-dict S-Hasher-Hasher S-Hasher-Hasher-dict K-Destruct-dict V-Destruct-dict
    S-Hasher-Destruct-dict R-Wait R-Wait-dict F-Fn F-Fn-dict F-FnMut-dict F-FnOnce-dict G-Guard G-Guard-dict F-Destruct-dict m1 m2 m3 m4 m5 m6 m7 m8
    m9 m10 m11 m12 m13 m14)
    (λ y are. walk_rroor 𝓤 𝓛 𝓜 𝓡 (one_ref (named 0) y.0.0.0
    (HashMap.the_row (param 0 K) (param 1 V) (param 2 S) (param 3 S-Hasher) K-Hash K-Eq K-PartialEq S-BuildHasher S-Hasher-Hasher) y.0.3.0 y.0.4.0
    are.0 _ _) (one_ref (named 1) y.0.0.1.0 (param 4 R) y.0.3.1.0 y.0.4.1.0 are.1.0 _ _) (one_of 𝓛 0 K LK y.0.3.1.1.0 y.0.4.1.1.0 are.1.1.0)
    (one_of 𝓛 5 F LF y.0.3.1.1.1.0 y.0.4.1.1.1.0 are.1.1.1.0) (one_ref (named 0) y.0.0.0 (param 6 G) y.0.3.1.1.1.1.0 y.0.4.1.1.1.1.0 are.1.1.1.1.0 _ _)
    (λ w good. (good, good, held_good (Answer E N P g Ends y.0.0) E N P g w good)))
