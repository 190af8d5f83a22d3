-- `contains_key` returns the result of its first half, and passes on the evidence of the log. Assumes `Logic`.
use Rattle.std.proofs.Common.{◌≡◌, [], ◌∷◌, refl}
use mathlib.Core.List.{IsPrefix}
use mir.Syntax.{a_type, dcons, dnil, named}
use mir.MapTy.{inst_fn}
use base.Logic.{id⊢}
use denote.Ref.{NamedLft}
use denote.Signature.{named_lft}
use denote.Param.{param, bounded}
use Rattle.papaya_map_book.specs.contracts.rule.entry.Event as event
use Rattle.papaya_map_book.specs.contracts.rule.entry.Named as naming
use Rattle.papaya_gate.specs.contracts.rule.Gated as gated
use Rattle.papaya_gate.specs.contracts.rule.GatedRule.TheImpl as GatedRule
use Rattle.papaya_map_book.specs.contracts.rule.law.LogLaw as law
use Rattle.papaya_map_book.specs.contracts.rule.law.LogLawRuleEventNamed.TheImpl as LawRule
use Rattle.papaya_map_book.specs.contracts.rule.law.LogLawTrackingEvent.TheImpl as LawTracking
use Rattle.papaya_map_lookup.specs.History.{IsLegalHistory, history_of, key_of}
use Rattle.papaya_map.specs.Plain.{IsContained}
use Rattle.papaya_map.proofs.Telling.{bool_laws}
use Rattle.papaya_map.specs.Plain.{IsSince, rule_of}
use Rattle.papaya_map.proofs.Telling.{held_good, one_ref}
use Rattle.papaya_map.proofs.ToldWalks.{walk_rr}
use Rattle.papaya_map.proofs.Handed.{meets, Answer, four_facts, handed_1, past_first}
use Rattle.papaya_map.specs.contracts.map.HashMapRef as HashMapRef
use Rattle.papaya_map.specs.contracts.map.HashMapRef.contains_key_observed as callee
use Rattle.papaya_map.specs.contracts.map.HashMapRef.contains_key_observed.Key.{name as #callee}
use Rattle.papaya_map.proofs.map.HashMapRef.contains_key_observed.Met.{met}
use Rattle.papaya_map.specs.contracts.map.HashMapRef.contains_key.{ended, clauses}
use Rattle.papaya_map.specs.contracts.map.HashMapRef.contains_key.Key.{name as #self}
use Rattle.papaya_map.proofs.map.HashMapRef.contains_key.Statement.{statement}
use Rattle.papaya_map.proofs.map.HashMapRef.contains_key.Code as code

pub contains_key_spec : {M : Type 1} → statement M
contains_key_spec 𝓤 𝓛 𝓜 𝓡 wired K V S S-Hasher Q LK LV LS LH LQ K-Hash K-Hash-dict K-Eq K-Eq-dict K-PartialEq K-PartialEq-dict S-BuildHasher
    S-BuildHasher-dict S-Hasher-Hasher S-Hasher-Hasher-dict S-Hasher-Destruct-dict Q-Equivalent Q-Equivalent-dict Q-Hash Q-Hash-dict Q-Eq Q-Eq-dict
    Q-PartialEq Q-PartialEq-dict m1 m2 m3 m4 m5 m6 m7 m8 m9 m10 =
    let inst = bounded (a_type ∷ a_type ∷ a_type ∷ a_type ∷ a_type ∷ []) (K, (V, (S, (S-Hasher, (Q, tt)))))
    (dcons K-Hash-dict (dcons K-Eq-dict (dcons K-PartialEq-dict
    (dcons S-BuildHasher-dict (dcons S-Hasher-Hasher-dict
    (dcons S-Hasher-Destruct-dict (dcons Q-Equivalent-dict (dcons Q-Hash-dict (dcons Q-Eq-dict (dcons Q-PartialEq-dict dnil)))))))))) in
    let E = event.the_row (param 0 K) (param 1 V) (param 2 S) in let N = naming.the_row (param 0 K) (param 1 V) in
    let L = law.the_row (param 0 K) (param 1 V) (param 2 S) in let P = gated.the_row L in
    let g = GatedRule.ghosts E N L (LawRule.ghosts (param 0 K) (param 1 V) (param 2 S) (param 3 S-Hasher) K-Hash LawRule.no_dict K-Eq LawRule.no_dict K-PartialEq
    LawRule.no_dict S-BuildHasher LawRule.no_dict S-Hasher-Hasher LawRule.no_dict LawRule.no_dict) GatedRule.no_dict (LawTracking.ghosts (param 0 K) (param 1 V) (param 2 S)) GatedRule.no_dict in
    let Ends = ended K V S S-Hasher Q K-Hash K-Hash-dict K-Eq K-Eq-dict K-PartialEq K-PartialEq-dict S-BuildHasher S-BuildHasher-dict S-Hasher-Hasher
    S-Hasher-Hasher-dict S-Hasher-Destruct-dict Q-Equivalent Q-Equivalent-dict Q-Hash Q-Hash-dict Q-Eq Q-Eq-dict Q-PartialEq Q-PartialEq-dict in
    meets E N P g Ends 𝓛 𝓜 𝓡 (clauses K V S S-Hasher Q K-Hash K-Hash-dict K-Eq K-Eq-dict K-PartialEq K-PartialEq-dict S-BuildHasher S-BuildHasher-dict
    S-Hasher-Hasher S-Hasher-Hasher-dict S-Hasher-Destruct-dict Q-Equivalent Q-Equivalent-dict Q-Hash Q-Hash-dict Q-Eq Q-Eq-dict Q-PartialEq
    Q-PartialEq-dict 𝓛 𝓜.mem 𝓡.returns) (callee.clauses K V S S-Hasher Q K-Hash K-Hash-dict K-Eq K-Eq-dict K-PartialEq K-PartialEq-dict
    S-BuildHasher S-BuildHasher-dict S-Hasher-Hasher S-Hasher-Hasher-dict S-Hasher-Destruct-dict Q-Equivalent Q-Equivalent-dict Q-Hash Q-Hash-dict
    Q-Eq Q-Eq-dict Q-PartialEq Q-PartialEq-dict 𝓛 𝓜.mem 𝓡.returns)
    (λ κs a r. (r.book ≡ a.0.now.map.book) × IsLegalHistory K-PartialEq.eq key_of (history_of r.log) × IsPrefix a.0.now.seen (history_of r.log)
    × IsContained K-PartialEq.eq (Q-Equivalent.matches a.1.0.now) a.0.now.seen (history_of r.log) r.answer)
    (λ κs a u. (tt, id⊢ 𝓤 _)) (λ κs a u r ws. past_first 𝓤 _ (four_facts 𝓤))
    (λ κs a u r ws f. handed_1 𝓛 E.coded.code (rule_of g) r.names r.log
    (λ log. IsSince a.0.now K-PartialEq.eq (λ h. IsContained K-PartialEq.eq (Q-Equivalent.matches a.1.0.now) a.0.now.seen h r.answer)
    (history_of log)) f.0 (f.1, f.2, f.3)
    (history_of r.log, (f.1, f.2, f.3)))
    (λ κs. let ℓ : NamedLft = record { mir = named 1; lft = κs.1.0 } in bool_laws)
    (λ κs x f. refl, (λ κs x f. refl, tt)) (#self inst) (#callee inst) (inst_fn inst code.function)
    (code.unfolded 𝓤 𝓛.H 𝓜 𝓡 wired (K, (V, (S, (S-Hasher, (Q, tt))))) K-Hash-dict K-Eq-dict K-PartialEq-dict S-BuildHasher-dict S-Hasher-Hasher-dict
    S-Hasher-Destruct-dict Q-Equivalent-dict Q-Hash-dict Q-Eq-dict Q-PartialEq-dict)
    (met 𝓤 𝓛 𝓜 𝓡 (code.calls-papaya_map::map::HashMapRef::contains_key_observed 𝓡.env wired) K V S S-Hasher Q LK LV LS LH LQ K-Hash K-Hash-dict K-Eq
    K-Eq-dict K-PartialEq K-PartialEq-dict S-BuildHasher S-BuildHasher-dict S-Hasher-Hasher S-Hasher-Hasher-dict S-Hasher-Destruct-dict Q-Equivalent
    Q-Equivalent-dict Q-Hash Q-Hash-dict Q-Eq Q-Eq-dict Q-PartialEq Q-PartialEq-dict m1 m2 m3 m4 m5 m6 m7 m8 m9 m10)
    (λ y are. walk_rr 𝓤 𝓛 𝓜 𝓡 (one_ref (named 0) y.0.0.0
    (HashMapRef.the_row (named_lft 8 1 tt y.0.0) (param 0 K) (param 1 V) (param 2 S) (param 3 S-Hasher) K-Hash K-Eq K-PartialEq S-BuildHasher
    S-Hasher-Hasher) y.0.3.0 y.0.4.0 are.0 _ _) (one_ref (named 2) y.0.0.1.1.0 (param 4 Q) y.0.3.1.0 y.0.4.1.0 are.1.0 _ _)
    (λ w good. (good, good, held_good (Answer E N P g Ends y.0.0) E N P g w good)))
