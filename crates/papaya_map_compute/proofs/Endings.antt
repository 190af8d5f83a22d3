-- The end of a compute, by the calls of its closure.
use Rattle.std.proofs.Common.{◌≡◌, ⊎_elim, Bool, Option, None, Some, Result, Ok, List, [], ◌∷◌, option_map, refl, sym, ap, ◌∙◌, subst}
use mathlib.Core.List.{IsPrefix}
use denote.Bor.{Bor}
use Rattle.papaya_words.specs.declared.refused.Refused.{Refused as Cause}
use Rattle.papaya_call.specs.declared.answers.Operation.{Operation}
use Rattle.papaya_call.specs.declared.answers.Operation.TheVariants as operation
use Rattle.papaya_words_keys.specs.declared.results.Compute.{Compute as Computed}
use Rattle.papaya_words_keys.specs.declared.results.Compute.TheVariants.{Aborted}
use Rattle.papaya_map_book.specs.Logs.{Stored}
use Rattle.papaya_map_lookup.specs.History.{Change}
use Rattle.papaya_map_change.specs.ClosureCalls.{WasLast}
use Rattle.papaya_map_compute.specs.ComputeAnswers.{IsOperated}
use Rattle.papaya_map_compute.specs.Computing.{IsReplied, IsSpared, value_in}
use Rattle.papaya_map_compute.specs.Operating.{HasEnded, IsLeft, at_once}
use Rattle.papaya_map_compute.specs.declared.operating.Ended.{Ended}
use Rattle.papaya_map_compute.proofs.ComputeReplies.{replied_since}

-- one result was the last
last_answer : {X A : Type 0} (x y : X) (a b : A) (heard : List (X × A)) → WasLast x a heard → WasLast y b heard → a ≡ b
last_answer x y a b [] one other = absurd one
last_answer x y a b (last ∷ before) one other = ap (λ z. z.1) (sym one ∙ other)

module _ {K V T O : Type 0} (eq : K → K → Bool) (key : K) (old new : List (Change K (Stored K V)))
    (says : O → Option (Stored K V) → Operation V T → O → Type 0) (first left : O) where
  -- the closure was called once with the entry that was found
  module _ (held : Option (Stored K V)) (done : Operation V T) (said : says first held done left) (current : Option (Bor V))
      (is : option_map (λ v. v.now) current ≡ value_in held) where
    left_once : (answer : Result (Computed K V T) Cause) (with : T) → answer ≡ Ok (Aborted with) → IsOperated eq key old new ((held, done) ∷ []) answer
        → IsLeft (at_once answer current) with ((held, done) ∷ [])
    left_once answer with aborted operated =
        let o = subst (IsOperated eq key old new ((held, done) ∷ [])) aborted operated in let ends : done ≡ operation.Abort with = ap (λ z. z.1) o.1 in (
          held,
          (λ i. (held, ends i)),
          is,
          λ v member.
              ⊎_elim (λ e. let f : operation.Insert v ≡ operation.Abort with = ap (λ z. z.1) e ∙ ends in absurd (cc f)) (λ none. absurd none) member,
        )

    pub ended_once : (answer : Result (Computed K V T) Cause) → IsReplied eq key old new ((held, done) ∷ []) answer
        → HasEnded eq key old new says first left (at_once answer current)
    ended_once answer r = record {
      heard = (held, done) ∷ [];
      has_said = (first, refl, said);
      replied = r;
      is_left = λ with e. left_once answer with e r.operated;
    }

  -- the machine has replied; it holds the pair that the closure was called with last, and the one
  -- that would fill
  module _ (heard : List (Option (Stored K V) × Operation V T)) (shown fill : Option (Stored K V)) (t : T)
      (last : WasLast shown (operation.Abort t) heard) (spared : IsSpared fill heard) (ended : Ended K V T)
      (current_is : option_map (λ v. v.now) ended.current ≡ value_in shown) (spare_is : option_map (λ v. v.now) ended.spare ≡ value_in fill) where
    spare_for : (q : Stored K V) → fill ≡ Some q → (o : Option (Bor V)) → option_map (λ v. v.now) o ≡ value_in fill → (r : Bor V) × (o ≡ Some r)
        × (r.now ≡ q.value.value)
    spare_for q is None e = let f : None ≡ Some q.value.value = e ∙ ap value_in is in absurd (cc f)
    spare_for q is (Some r) e = let f : Some r.now ≡ Some q.value.value = e ∙ ap value_in is in (r, refl, let same : r.now ≡ q.value.value = cc f in same)

    pub left_by : (with : T) → ended.answer ≡ Ok (Aborted with) → IsReplied eq key old new heard ended.answer → IsLeft ended with heard
    left_by with aborted r =
        let o = subst (IsOperated eq key old new heard) aborted r.operated in
        let same = last_answer shown o.0 (operation.Abort t) (operation.Abort with) heard last o.1 in (
          shown,
          subst (λ z. WasLast shown z heard) same last,
          current_is,
          λ v member. let q = spared v member in let r = spare_for q.0 q.1 ended.spare spare_is in (r.0, r.1, r.2 ∙ q.2),
        )

-- a history before a compute began comes before its end
pub ended_since : {K V T O : Type 0} (eq : K → K → Bool) (key : K) (older old new : List (Change K (Stored K V)))
    (says : O → Option (Stored K V) → Operation V T → O → Type 0) (first left : O) (ended : Ended K V T) → IsPrefix older old
    → HasEnded eq key old new says first left ended → HasEnded eq key older new says first left ended
ended_since eq key older old new says first left ended pre h = record {
  heard = h.heard;
  has_said = h.has_said;
  replied = replied_since eq key older old new pre h.heard ended.answer h.replied;
  is_left = h.is_left;
}
