-- `retain` with a guard returns the result of its first half, and passes on the evidence of the log. Assumes `Logic`.
use Rattle.std.proofs.Common.{◌≡◌, List, [], ◌∷◌, Err, refl}
use Rattle.std.specs.Prelude.{IfErr}
use mathlib.Core.List.{IsPrefix}
use mir.Syntax.{a_type, dcons, dnil, named}
use mir.MapTy.{inst_fn}
use base.Logic.{id⊢}
use denote.Ref.{NamedLft}
use denote.Param.{param, bounded}
use Rattle.std.proofs.result.Result.TheLaws.{the_row_laws as result_laws}
use Rattle.papaya_words.proofs.refused.Refused.TheLaws.{the_row_laws as refused_laws}
use Rattle.papaya_words.specs.contracts.refused.Refused.{the_row as RefusedRow}
use Rattle.papaya_words.specs.declared.refused.Refused.TheVariants.{WrongGuard}
use Rattle.papaya_map_book.specs.contracts.rule.entry.Event as event
use Rattle.papaya_map_book.specs.contracts.rule.entry.Named as naming
use Rattle.papaya_gate.specs.contracts.rule.Gated as gated
use Rattle.papaya_gate.specs.contracts.rule.GatedRule.TheImpl as GatedRule
use Rattle.papaya_map_book.specs.contracts.rule.law.LogLaw as law
use Rattle.papaya_map_book.specs.contracts.rule.law.LogLawRuleEventNamed.TheImpl as LawRule
use Rattle.papaya_map_book.specs.contracts.rule.law.LogLawTrackingEvent.TheImpl as LawTracking
use Rattle.papaya_map_lookup.specs.History.{IsLegalHistory, history_of, key_of}
use denote.Struct.Field.{unit-field}
use Rattle.papaya_map.proofs.Telling.{unit_laws}
use Rattle.papaya_map_change.specs.Writing.{IsMemoryOrCapacity}
use Rattle.papaya_map_book.specs.Logs.{Stored}
use Rattle.papaya_map_lookup.specs.History.{Change}
use Rattle.papaya_map_change.specs.ClosureCalls.{Judges}
use Rattle.papaya_map_scan.specs.Leaving.{HasKept}
use Rattle.papaya_map.specs.Plain.{IsSince, rule_of, unpinned}
use Rattle.papaya_map.proofs.Telling.{held_good, one_of, one_ref}
use Rattle.papaya_map.proofs.ToldWalks.{walk_rror}
use Rattle.papaya_map.proofs.Handed.{meets, Answer, six_facts, handed_3, past_first}
use Rattle.papaya_map.specs.contracts.map.HashMap as HashMap
use Rattle.papaya_map.specs.contracts.map.HashMap.retain_observed as callee
use Rattle.papaya_map.specs.contracts.map.HashMap.retain_observed.Key.{name as #callee}
use Rattle.papaya_map.proofs.map.HashMap.retain_observed.Met.{met}
use Rattle.papaya_map.specs.contracts.map.HashMap.retain.{ended, clauses}
use Rattle.papaya_map.specs.contracts.map.HashMap.retain.Key.{name as #self}
use Rattle.papaya_map.proofs.map.HashMap.retain.Statement.{statement}
use Rattle.papaya_map.proofs.map.HashMap.retain.Code as code

pub retain_spec : {M : Type 1} → statement M
retain_spec 𝓤 𝓛 𝓜 𝓡 wired K V S S-Hasher R F G LK LV LS LH LR LF LG K-Hash K-Hash-dict K-Eq K-Eq-dict K-PartialEq K-PartialEq-dict S-BuildHasher
    S-BuildHasher-dict S-Hasher-Hasher S-Hasher-Hasher-dict S-Hasher-Destruct-dict R-Wait R-Wait-dict F-FnMut F-FnMut-dict F-FnOnce-dict G-Guard
    G-Guard-dict F-Destruct-dict m1 m2 m3 m4 m5 m6 m7 m8 m9 m10 m11 =
    let inst = bounded (a_type ∷ a_type ∷ a_type ∷ a_type ∷ a_type ∷ a_type ∷ a_type ∷ []) (K, (V, (S, (S-Hasher, (R, (F, (G, tt)))))))
    (dcons K-Hash-dict (dcons K-Eq-dict (dcons K-PartialEq-dict
    (dcons S-BuildHasher-dict (dcons S-Hasher-Hasher-dict
    (dcons S-Hasher-Destruct-dict (dcons R-Wait-dict (dcons F-FnMut-dict (dcons F-FnOnce-dict (dcons G-Guard-dict (dcons F-Destruct-dict dnil))))))))))) in
    let E = event.the_row (param 0 K) (param 1 V) (param 2 S) in let N = naming.the_row (param 0 K) (param 1 V) in
    let L = law.the_row (param 0 K) (param 1 V) (param 2 S) in let P = gated.the_row L in
    let g = GatedRule.ghosts E N L (LawRule.ghosts (param 0 K) (param 1 V) (param 2 S) (param 3 S-Hasher) K-Hash LawRule.no_dict K-Eq LawRule.no_dict K-PartialEq
    LawRule.no_dict S-BuildHasher LawRule.no_dict S-Hasher-Hasher LawRule.no_dict LawRule.no_dict) GatedRule.no_dict (LawTracking.ghosts (param 0 K) (param 1 V) (param 2 S)) GatedRule.no_dict in
    let Ends = ended K V S S-Hasher R F G K-Hash K-Hash-dict K-Eq K-Eq-dict K-PartialEq K-PartialEq-dict S-BuildHasher S-BuildHasher-dict
    S-Hasher-Hasher S-Hasher-Hasher-dict S-Hasher-Destruct-dict R-Wait R-Wait-dict F-FnMut F-FnMut-dict F-FnOnce-dict G-Guard G-Guard-dict F-Destruct-dict in
    meets E N P g Ends 𝓛 𝓜 𝓡 (clauses K V S S-Hasher R F G K-Hash K-Hash-dict K-Eq K-Eq-dict K-PartialEq K-PartialEq-dict S-BuildHasher
    S-BuildHasher-dict S-Hasher-Hasher S-Hasher-Hasher-dict S-Hasher-Destruct-dict R-Wait R-Wait-dict F-FnMut F-FnMut-dict F-FnOnce-dict G-Guard
    G-Guard-dict F-Destruct-dict 𝓛 𝓜.mem 𝓡.returns)
    (callee.clauses K V S S-Hasher R F G K-Hash K-Hash-dict K-Eq K-Eq-dict K-PartialEq K-PartialEq-dict S-BuildHasher S-BuildHasher-dict
    S-Hasher-Hasher S-Hasher-Hasher-dict S-Hasher-Destruct-dict R-Wait R-Wait-dict F-FnMut F-FnMut-dict F-FnOnce-dict G-Guard G-Guard-dict
    F-Destruct-dict 𝓛 𝓜.mem 𝓡.returns)
    (λ κs a r. (r.book ≡ a.0.now.book) × IsLegalHistory K-PartialEq.eq key_of (history_of r.log) × IsPrefix a.0.now.seen (history_of r.log)
    × ((G-Guard.collector_number a.1.1.1.0.now ≡ a.0.now.collector)
    → HasKept K-PartialEq.eq a.0.now.seen (history_of r.log) [] (history_of r.made) (Judges F-FnMut) a.1.1.0 r.answer)
    × ((G-Guard.collector_number a.1.1.1.0.now ≡ a.0.now.collector) → IfErr r.answer (λ refused. IsMemoryOrCapacity refused))
    × (((G-Guard.collector_number a.1.1.1.0.now ≡ a.0.now.collector) → ⊥) → r.answer ≡ Err WrongGuard))
    (λ κs a u. (tt, id⊢ 𝓤 _)) (λ κs a u r ws. past_first 𝓤 _ (six_facts 𝓤))
    (λ κs a u r ws f. handed_3 𝓛 E.coded.code (rule_of g) r.names r.log
    (λ log. IsSince (unpinned a.0.now) K-PartialEq.eq
    (λ h. (G-Guard.collector_number a.1.1.1.0.now ≡ a.0.now.collector) → (made : List (Change K.Denot (Stored K.Denot V.Denot)))
    × HasKept K-PartialEq.eq a.0.now.seen h [] made (Judges F-FnMut) a.1.1.0 r.answer) (history_of log)) f.0
    (f.1, f.2, (λ right. (history_of r.made, f.3 right)))
    (history_of r.log, (f.1, f.2, (λ right. (history_of r.made, f.3 right)))) f.4 f.5)
    (λ κs. let ℓ : NamedLft = record { mir = named 0; lft = κs.0 } in result_laws unit-field.row RefusedRow unit_laws refused_laws)
    (λ κs x f. refl, (λ κs x f. refl, (λ κs x f. refl, (λ κs x f. refl, tt)))) (#self inst) (#callee inst) (inst_fn inst code.function)
    (code.unfolded 𝓤 𝓛.H 𝓜 𝓡 wired (K, (V, (S, (S-Hasher, (R, (F, (G, tt))))))) K-Hash-dict K-Eq-dict K-PartialEq-dict S-BuildHasher-dict
    S-Hasher-Hasher-dict S-Hasher-Destruct-dict R-Wait-dict F-FnMut-dict F-FnOnce-dict G-Guard-dict F-Destruct-dict)
    (met 𝓤 𝓛 𝓜 𝓡 (code.calls-papaya_map::map::HashMap::retain_observed 𝓡.env wired) K V S S-Hasher R F G LK LV LS LH LR LF LG K-Hash K-Hash-dict K-Eq
    K-Eq-dict K-PartialEq K-PartialEq-dict S-BuildHasher S-BuildHasher-dict S-Hasher-Hasher S-Hasher-Hasher-dict S-Hasher-Destruct-dict R-Wait
    R-Wait-dict F-FnMut F-FnMut-dict F-FnOnce-dict G-Guard G-Guard-dict F-Destruct-dict m1 m2 m3 m4 m5 m6 m7 m8 m9 m10 m11)
    (λ y are. walk_rror 𝓤 𝓛 𝓜 𝓡 (one_ref (named 0) y.0.0.0
    (HashMap.the_row (param 0 K) (param 1 V) (param 2 S) (param 3 S-Hasher) K-Hash K-Eq K-PartialEq S-BuildHasher S-Hasher-Hasher) y.0.3.0 y.0.4.0
    are.0 _ _) (one_ref (named 1) y.0.0.1.0 (param 4 R) y.0.3.1.0 y.0.4.1.0 are.1.0 _ _) (one_of 𝓛 5 F LF y.0.3.1.1.0 y.0.4.1.1.0 are.1.1.0)
    (one_ref (named 2) y.0.0.1.1.0 (param 6 G) y.0.3.1.1.1.0 y.0.4.1.1.1.0 are.1.1.1.0 _ _)
    (λ w good. (good, good, held_good (Answer E N P g Ends y.0.0) E N P g w good)))
