-- A call has read that no number is left for a pair: the limit on pairs is spent.
use Rattle.std.proofs.Common.{◌≡◌, ⊎_elim, ℕ, Bool, ◌≤◌, MatchOption, Option, Some, List, sym, ◌∙◌, subst, arith}
use Rattle.papaya_words.specs.declared.refused.Refused.{Refused as Cause}
use Rattle.papaya_words.specs.declared.refused.Refused.TheVariants.{Limit}
use Rattle.papaya_call.specs.declared.ask.Answer.{Answer}
use Rattle.papaya_call.specs.declared.ask.Answer.TheVariants.{Refused as Was_refused}
use Rattle.papaya_call.specs.declared.machine.Machine.{Machine}
use Rattle.papaya_call.specs.Machine as calls
use Rattle.papaya_words_law.specs.Exchange.{start}
use Rattle.papaya_words_law.proofs.Numbers.{numbers_below}
use Rattle.papaya_call_law.specs.Relies.{IsAtLimit}
use Rattle.papaya_map_book.specs.declared.rule.entry.Begun.{Begun}
use Rattle.papaya_map_book.specs.declared.rule.entry.Event.{Event}
use Rattle.papaya_map_book.specs.declared.rule.own.CapacityCause.{CapacityCause}
use Rattle.papaya_map_book.specs.Limits.{IsSpent}
use Rattle.papaya_map_book.specs.Logs.{exchanges_of, setting_of, state_of}
use Rattle.papaya_map_book.specs.Rule.{IsLawfulLog}
use Rattle.papaya_map_change.specs.Writing.{IsWithoutResult, IsTakenCount}

module _ {K V S : Type 0} (eq : K → K → Bool) (hash : S → K → ℕ) (b : Begun K V S) (log : List (Event K V S)) (l : IsLawfulLog eq hash b log) where
  -- as many numbers were taken as the limit permits
  at_most : (most : ℕ) → b.limit ≡ Some most → most ≤ (state_of log).made → (state_of log).made ≡ most
  at_most most limit over = let below : (state_of log).made ≤ most = numbers_below (setting_of eq (hash b.hasher) b.mode b.limit log) most limit
      (exchanges_of log) start l.allowed (omega arith) in omega (arith, below, over)

  -- if the answer states how many were taken
  pub limit_spent : (m : Machine) (answer : Answer) → m.made.limit ≡ b.limit → IsTakenCount log (calls.ask_of m) answer → IsAtLimit m answer → IsSpent b.limit log
  limit_spent m answer limit tells (most, count, is, over, number, says) =
      let made_is = tells number count says in
      let has : b.limit ≡ Some most = sym limit ∙ is in
      subst (λ (o : Option ℕ). MatchOption o ⊥ (λ n. (state_of log).made ≡ n)) (sym has) (at_most most has (omega (arith, made_is, over)))

-- making a part never fails with this cause
pub unsaid_limit : (Holds : Type 0) (given : List CapacityCause) (answer : Answer) → IsWithoutResult given answer → (cause : Cause)
    → answer ≡ Was_refused cause → cause ≡ Limit → Holds
unsaid_limit Holds given answer unsaid cause e limit = absurd
    (⊎_elim (λ memory. let f = sym memory ∙ limit in cc f) (λ full. let f = sym full.0 ∙ limit in cc f) (unsaid cause e))
