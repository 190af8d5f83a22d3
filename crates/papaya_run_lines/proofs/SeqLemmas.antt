-- Results that borrow the map, with values in place of references.
use Rattle.std.proofs.Common.{◌≡◌, ℕ, Bool, None, Some, Ok, Err, refl, ap, ◌∙◌}
use Rattle.std.specs.Fn.{FnReturnsAt, Shared}
use Rattle.std.specs.Prelude.{IsOk, Option, Result}
use Rattle.std.specs.Borrow.{Bor}
use Rattle.papaya_words.specs.declared.refused.Refused.{Refused}
use Rattle.papaya_seq.specs.Answered.{old_answered}
use Rattle.papaya_seq.specs.Computes.{IsUpdated}
use Rattle.papaya_seq.specs.Map.{MapState}
use Rattle.papaya_run_lines.specs.Closures.{follower}

-- a result without a refusal has none with values in place of references
pub answered : (r : Result (Option (Bor ℕ)) Refused) → IsOk r → IsOk (old_answered r)
answered (Ok shown) h = refl
answered (Err refused) h = h

-- an update by a closure that returns the number after its argument
pub followed : {S F : Type 0} (eq : ℕ → ℕ → Bool) (k : ℕ) (g : Shared F (Bor ℕ × Unit {0}) ℕ) (f : F)
    → ((shown : Bor ℕ) (next : ℕ) → g.post f (shown, tt) next → next ≡ follower shown.now)
    → (s : MapState ℕ ℕ S) (answer : Result (Option ℕ) Refused) (s' : MapState ℕ ℕ S) → IsUpdated eq k (FnReturnsAt g f) s answer s'
    → IsUpdated eq k (λ old new. new ≡ follower old) s answer s'
followed eq k g f follows s (Ok None) s' h = h
followed eq k g f follows s (Ok (Some v)) s' (old, says, inserts, keeps) = (old, follows says.shown v says.says.met ∙ ap follower says.shows, inserts, keeps)
followed eq k g f follows s (Err refused) s' h = h
