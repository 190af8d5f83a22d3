-- A removal that returns a reference, as one that returns whether the key was there.
use Rattle.std.proofs.Common.{◌≡◌, Bool, Option, Some, None, Result, Ok, Err, option_map, refl, sym, ◌∙◌, subst}
use Rattle.std.specs.Prelude.{is_some}
use Rattle.std.specs.Borrow.{Bor}
use Rattle.papaya_words.specs.declared.refused.Refused.{Refused}
use Rattle.papaya_seq.specs.Answered.{old_answered}
use Rattle.papaya_seq.specs.Map.{MapState}
use Rattle.papaya_seq.specs.Removes.{IsRemoved}
use Rattle.papaya_set.specs.Sets.{IsTaken}

is_some_shown : {V : Type 0} (o : Option (Bor V)) → is_some (option_map (λ (v : Bor V). v.now) o) ≡ is_some o
is_some_shown None = refl
is_some_shown (Some v) = refl

module _ {K S : Type 0} (eq : K → K → Bool) (matches : K → Bool) (s s' : MapState K (Unit {0}) S) where
  taken : (went : Option (Unit {0})) → IsRemoved eq matches (λ p. p.value) s (Ok went) s' → IsTaken eq matches s (Ok (is_some went)) s'
  taken None done = done
  taken (Some v) done = (done.0, done.2, done.3)

  pub taken_ok : (r : Result (Option (Bor (Unit {0}))) Refused) (o : Option (Bor (Unit {0}))) → r ≡ Ok o
      → IsRemoved eq matches (λ p. p.value) s (old_answered r) s' → (was : Bool) → was ≡ is_some o → IsTaken eq matches s (Ok was) s'
  taken_ok r o was_ok done was is =
      let here : IsRemoved eq matches (λ p. p.value) s (Ok (option_map (λ (v : Bor (Unit {0})). v.now) o))
      s' = subst (λ (z : Result (Option (Bor (Unit {0}))) Refused). IsRemoved eq matches (λ p. p.value) s (old_answered z) s') was_ok done in
      subst (λ (b : Bool). IsTaken eq matches s (Ok b) s') (is_some_shown o ∙ sym is) (taken (option_map (λ (v : Bor (Unit {0})). v.now) o) here)

  pub taken_err : (r : Result (Option (Bor (Unit {0}))) Refused) (e : Refused) → r ≡ Err e → IsRemoved eq matches (λ p. p.value) s (old_answered r) s'
      → IsTaken eq matches s (Err e) s'
  taken_err r e was done = subst (λ (z : Result (Option (Bor (Unit {0}))) Refused). IsRemoved eq matches (λ p. p.value) s (old_answered z) s') was done
