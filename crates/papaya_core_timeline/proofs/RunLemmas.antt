-- Steps and turns, one after the other.
use Rattle.std.proofs.Common.{◌≡◌, ℕ, zero, suc, ◌+◌, ◌<◌, Bool, true, false, List, length, get_or}
use Rattle.std.proofs.Common.{slice_get, Option, Some, None, is_some, inr, refl, sym, ◌∙◌, ap}
use Rattle.std.proofs.Common.{subst, arith}
use Rattle.std.specs.List.{enumerate_from}
use Rattle.std.proofs.lemmas.List.FromFn.{length-enumerate_from, get_or-enumerate_from}
use Rattle.std.proofs.lemmas.Option.{slice_get_read}
use Rattle.papaya_call.specs.Answers.{Says}
use Rattle.papaya_core_timeline.specs.declared.trace.Turn.{Turn}
use Rattle.papaya_core_timeline.specs.Core.{CoreState, work_of}
use Rattle.papaya_core_timeline.specs.Runs.{History, StepRuns, StepsRun, TurnRuns, TurnsRun, IsCutShort, StopsEarly}

-- a value that is not there is `None`
pub is_none : {A : Type 0} (o : Option A) → is_some o ≡ false → o ≡ None
is_none None e = refl
is_none (Some x) e = let f : true ≡ false = e in cc

-- an item of a numbered list is at its number
pub numbered_item : {A : Type 0} (xs : List A) (n : ℕ) (p : ℕ × A) → n < length (enumerate_from 0 xs) → p ≡ get_or (enumerate_from 0 xs) n p
    → (p.0 ≡ n) × (slice_get xs n ≡ Some p.1)
numbered_item xs n p lt e =
    let within : n < length xs = subst (λ (m : ℕ). n < m) (length-enumerate_from 0 xs) lt in
    let is = e ∙ get_or-enumerate_from 0 xs n p within in
    (ap (λ q. q.0) is ∙ (let z : 0 + n ≡ n = omega arith in z), slice_get_read xs (length xs) n p.1 refl within (ap (λ q. q.1) is))

module _ {K V S A : Type 0} (eq : K → K → Bool) (says : Says K V A) (hash : S → K → ℕ) where
  -- further steps of a caller that is in no call are passed over
  pub StepsRun-idle : (turn caller made more steps : ℕ) (s : CoreState K V S A) (before : History) (s' : CoreState K V S A) (after : History)
      → steps ≡ made + more → work_of s' caller ≡ None → StepsRun eq says hash turn caller made s before s' after
      → StepsRun eq says hash turn caller steps s before s' after
  StepsRun-idle turn caller made zero steps s before s' after e idle runs =
      let same : made ≡ steps = omega arith in
      subst (λ (n : ℕ). StepsRun eq says hash turn caller n s before s' after) same runs
  StepsRun-idle turn caller made (suc more) zero s before s' after e idle runs = absurd (omega arith)
  StepsRun-idle turn caller made (suc more) (suc steps) s before s' after e idle runs =
      (s', after, StepsRun-idle turn caller made more steps s before s' after (omega arith) idle runs, inr (idle, (refl, refl)))

  -- one more step
  pub StepsRun-more : (turn caller made steps : ℕ) (s : CoreState K V S A) (before : History) (middle : CoreState K V S A) (so_far : History)
      (s' : CoreState K V S A) (after : History) → steps ≡ suc made → StepsRun eq says hash turn caller made s before middle so_far
      → StepRuns eq says hash turn caller false middle so_far s' after → StepsRun eq says hash turn caller steps s before s' after
  StepsRun-more turn caller made steps s before middle so_far s' after e runs step =
      subst (λ (n : ℕ). StepsRun eq says hash turn caller n s before s' after) (sym e) (middle, so_far, runs, step)

  -- one more turn
  pub TurnsRun-more : (schedule : List (Turn K V A)) (n turn turns : ℕ) (what : Turn K V A) (s middle : CoreState K V S A) (so_far : History)
      (s' : CoreState K V S A) (history : History) → slice_get schedule n ≡ Some what → turn ≡ n → turns ≡ suc n
      → TurnsRun eq says hash schedule n s middle so_far → TurnRuns eq says hash turn what middle so_far s' history
      → TurnsRun eq says hash schedule turns s s' history
  TurnsRun-more schedule n turn turns what s middle so_far s' history there same e runs last =
      subst (λ (m : ℕ). TurnsRun eq says hash schedule m s s' history) (sym e)
      (what, middle, so_far, there, runs, subst (λ (m : ℕ). TurnRuns eq says hash m what middle so_far s' history) same last)

  -- a turn that was cut short
  pub StopsEarly-at : (schedule : List (Turn K V A)) (n turn : ℕ) (what : Turn K V A) (s middle : CoreState K V S A) (so_far : History)
      (s' : CoreState K V S A) → slice_get schedule n ≡ Some what → turn ≡ n → TurnsRun eq says hash schedule n s middle so_far
      → IsCutShort eq says hash turn what middle so_far s' → StopsEarly eq says hash schedule s s'
  StopsEarly-at schedule n turn what s middle so_far s' there same runs cut =
      (n, what, middle, so_far, there, runs, subst (λ (m : ℕ). IsCutShort eq says hash m what middle so_far s') same cut)
