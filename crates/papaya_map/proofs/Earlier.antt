-- A fact about a history and a later one also holds of the empty history and the later one.
use Rattle.std.proofs.Common.{inl, inr, Bool, Option, None, Some, Result, Ok, Err, List, [], refl}
use Rattle.std.specs.Prelude.{IfOk}
use mathlib.Core.List.{IsPrefix}
use denote.Bor.{Bor}
use Rattle.papaya_words.specs.declared.refused.Refused.{Refused}
use Rattle.papaya_map_book.specs.Logs.{Stored}
use Rattle.papaya_map_change.specs.Changes.{IsChangeOf, IsPut}
use Rattle.papaya_map_change.specs.RemovalAnswers.{IsRemoved}
use Rattle.papaya_map_change.specs.ClosureCalls.{WasHeld}
use Rattle.papaya_map_lookup.specs.Answers.{IsFoundBetween}
use Rattle.papaya_map_lookup.specs.History.{Change}
use Rattle.papaya_map.specs.Fixed.{Pinned}
use Rattle.papaya_map.specs.Plain.{IsOfHistory, IsOfHistorySince}
use Rattle.papaya_map.specs.Storing.{IsInPlace, IsThere, IsThereBy, IsUpdated}

abbrev pub History : Type 0 → Type 0 → Type 0
History K V = List (Change K (Stored K V))

since_first : {A : Type 0} (h : List A) → IsPrefix [] h
since_first h = (h, refl)

module _ {K V S : Type 0} (map : Pinned K V S) (eq : K → K → Bool) where
  -- a fact about some history since a pin is a fact about some history
  pub any_of : {P Q : History K V → Type 0} → ((h : History K V) → P h → Q h) → IsOfHistorySince map eq P → IsOfHistory eq Q
  any_of f is = record { history = is.0; legal = is.1.0; told = f is.0 is.1.2 }

  -- the same for the result of a call that did not fail
  pub ok_of : {A E : Type 0} {P Q : History K V → A → Type 0} → ((h : History K V) (a : A) → P h a → Q h a) → (r : Result A E)
      → IsOfHistorySince map eq (λ h. IfOk r (P h)) → IfOk r (λ a. IsOfHistory eq (λ h. Q h a))
  ok_of f (Ok a) is = any_of (λ h. f h a) is
  ok_of f (Err e) is = tt

module _ {K V : Type 0} (old new : History K V) where
  module _ (eq : K → K → Bool) (matches : K → Bool) where
    pub found : {A : Type 0} (is_of : A → Stored K V → Type 0) {answer : Option A} → IsFoundBetween is_of eq matches old new answer
        → IsFoundBetween is_of eq matches [] new answer
    found is_of f = record { seen = f.seen; since = since_first f.seen; until = f.until; is = f.is }

    held : {p : Option (Stored K V)} → WasHeld eq matches old new p → WasHeld eq matches [] new p
    held w = record { seen = w.seen; since = since_first w.seen; until = w.until; is = w.is }

  change : {matches : K → Bool} {taken put : Option (Stored K V)} → IsChangeOf matches old new taken put → IsChangeOf matches [] new taken put
  change c = record {
    before = c.before;
    change = c.change;
    since = since_first c.before;
    is = c.is;
    class_is = c.class_is;
    taken_is = c.taken_is;
    put_is = c.put_is;
    kept = c.kept;
  }

  module _ (eq : K → K → Bool) where
    pub put : (key : K) (value : V) (answer : Option (Bor V)) → IsPut eq key value old new answer → IsPut eq key value [] new answer
    put key value answer c = record {
      before = c.before;
      change = c.change;
      since = since_first c.before;
      is = c.is;
      class_is = c.class_is;
      put_is = c.put_is;
      taken_is = c.taken_is;
    }

    pub removed : (matches : K → Bool) (r : Result (Option (Bor V)) Refused) → IsRemoved eq matches old new r → IsRemoved eq matches [] new r
    removed matches (Ok None) is = held eq matches is
    removed matches (Ok (Some v)) is = (is.0, change is.1, is.2)
    removed matches (Err e) is = is

    module _ (key : K) where
      in_place : (computes : V → V → Type 0) (v : Bor V) → IsInPlace eq key old new computes v → IsInPlace eq key [] new computes v
      in_place computes v is = (is.0, is.1, change is.2, is.3, is.4, is.5)

      pub updated : (computes : V → V → Type 0) (r : Option (Bor V)) → IsUpdated eq key old new computes r → IsUpdated eq key [] new computes r
      updated computes None is = held eq (eq key) is
      updated computes (Some v) is = in_place computes v is

      -- the postcondition without the changes that the call's pass made
      pub there_by : (gives : V → Type 0) (made made' : History K V) (r : Result (Bor V) Refused) → IsThereBy eq key old new gives made made' r
          → IfOk r (IsThere eq key old new gives)
      there_by gives made made' (Ok v) (inl is) = inl is.0
      there_by gives made made' (Ok v) (inr is) = inr is.0
      there_by gives made made' (Err e) is = tt
