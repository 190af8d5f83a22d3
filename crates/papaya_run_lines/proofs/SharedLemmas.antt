-- The results of a session: an update whose closure returns as a script's closures do; and the
-- causes for which a map without a limit refuses.
use Rattle.std.proofs.Common.{◌≡◌, ◌==◌, ℕ, None, Some, Ok, Err, Option, inl, inr, sym, ◌∙◌, ap}
use Rattle.std.specs.Fn.{FnReturnsAt, Shared}
use Rattle.std.specs.Prelude.{IfErr, IfOk, Result}
use Rattle.std.specs.Borrow.{Bor}
use Rattle.papaya_words.specs.declared.refused.Refused.{Refused}
use Rattle.papaya_map_change.specs.Writing.{IsMemoryOrCapacity}
use Rattle.papaya_map.specs.Limited.{IsWriteRefusal}
use Rattle.papaya_map.specs.Storing.{IsUpdated}
use Rattle.papaya_run_lines.specs.Closures.{follower}
use Rattle.papaya_run_lines.specs.Shared.{IsFollowed, Seen}

-- a map without a limit refuses only because memory or room ran out
pub plain : {A : Type 0} (limit : Option ℕ) (taken : ℕ) (answer : Result A Refused) → limit ≡ None → IfErr answer (IsWriteRefusal limit taken)
    → IfErr answer IsMemoryOrCapacity
plain limit taken (Ok a) none h = tt
plain limit taken (Err refused) none (inl cause) = cause
plain limit taken (Err refused) none (inr (is, some)) = absurd (let e : None ≡ Some taken = sym none ∙ some in cc e)

-- the value that was put in is the number after the one that was taken out
module _ {F : Type 0} (k : ℕ) (g : Shared F (Bor ℕ × Unit {0}) ℕ) (f : F)
    (follows : (shown : Bor ℕ) (next : ℕ) → g.post f (shown, tt) next → next ≡ follower shown.now) (old new : Seen) where
  pub followed : (answer : Result (Option (Bor ℕ)) Refused) → IfOk answer (IsUpdated (λ a b. a == b) k old new (FnReturnsAt g f))
      → IfOk answer (IsFollowed k old new)
  followed (Err refused) h = tt
  followed (Ok None) h = h
  followed (Ok (Some v)) (p, q, change, key_is, says, of) =
      (p, q, change, key_is, follows says.shown q.value.value says.says.met ∙ ap follower says.shows, of)
