-- The pairs that a scan has returned after its ask was answered.
use Rattle.std.proofs.Common.{◌≡◌, inl, inr, ℕ, Bool, None, Some, [], ◌++◌, append-nil, sym, ◌∙◌, ap}
use Rattle.papaya_words.specs.declared.refused.Refused.TheVariants.{Memory}
use Rattle.papaya_call.specs.Answers.{Says}
use Rattle.papaya_call.specs.declared.chain.ask.Answer.{Answer}
use Rattle.papaya_call.specs.declared.chain.ask.Answer.TheVariants as answers
use Rattle.papaya_core_store.specs.Store.{StoreState}
use Rattle.papaya_core_timeline.specs.ScanGoes.{list_refusal}
use Rattle.papaya_call.specs.declared.chain.ask.ScanAsk.{ScanAsk}
use Rattle.papaya_call.specs.declared.chain.ask.ScanAsk.TheVariants.{AddToShard, Copy, Given, Show}
use Rattle.papaya_core_store.specs.declared.scans.Scanning.{Scanning}
use Rattle.papaya_core_store.specs.Scans.{PerformsScan}
use Rattle.papaya_core_timeline.specs.Outcomes.{given_by}

-- if its list could grow, the pairs that it returned before and with its ask
module _ {K V S A : Type 0} (eq : K → K → Bool) (says : Says K V A) (hash : S → K → ℕ) (refuse : Bool) (store : StoreState K V S) (v : Scanning A)
    (a : Answer) (store' : StoreState K V S) (v' : Scanning A) where
  -- an answer that leaves the scanner as it was adds no pair to its list
  same_given : v' ≡ v → v'.given ≡ v.given ++ []
  same_given same = ap (λ (y : Scanning A). y.given) same ∙ sym (append-nil v.given)

  pub given_is : (ask : ScanAsk) → PerformsScan eq says hash refuse ask store v a store' v' → list_refusal ask a ≡ None → v'.given ≡ v.given ++ given_by (Some ask)
  given_is (Copy ask) (performs, same) heard = same_given same
  given_is (Show n) ((told, is, inl (nothing, ok, same)), stays) heard = same_given same
  given_is (Show n) ((told, is, inr (left, p, keeps, fewer, had, logged, says_so, answered, then)), stays) heard = ap (λ (y : Scanning A). y.given)
      then ∙ sym (append-nil v.given)
  given_is (Given n) ((told, is, inl (ok, more)), stays) heard = more.given
  given_is (Given n) ((told, is, inr (refused, scanner, left, same)), stays) heard =
      let over : list_refusal (Given n) a ≡ Some Memory = ap (list_refusal (Given n)) (is ∙ ap (λ y. answers.Call y) refused) in
      let none : None ≡ Some Memory = sym heard ∙ over in
      absurd cc
  given_is (AddToShard by) (ok, counted, same) heard = same_given same
