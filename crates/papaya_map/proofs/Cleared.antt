-- If the closure of `retain` never returned `true`, no entry is left.
use Rattle.std.proofs.Common.{◌≡◌, inl, inr, ⊎_elim, Bool, true, false, Ok, Err, Result, IfOk, List, [], ◌∷◌, sym, ap, ◌∙◌}
use Rattle.papaya_words.specs.declared.refused.Refused.{Refused}
use Rattle.papaya_call_law.specs.ScanAnswers.{IsLastAnswer}
use Rattle.papaya_map_book.specs.Logs.{Member, Stored}
use Rattle.papaya_map_lookup.specs.History.{Change}
use Rattle.papaya_map_change.proofs.ClosureCalls.{said_only}
use Rattle.papaya_map_scan.specs.Leaving.{HasKept, IsCleared}

-- a last result is one of the results
last_member : {P : Type 0} (said : List (P × Bool)) (p : P) (stays : Bool) → IsLastAnswer said p stays → Member (p, stays) said
last_member [] p stays h = absurd h
last_member (one ∷ older) p stays (inl is) = inl (ap (λ z. (z, stays)) (sym is.0) ∙ ap (λ b. (one.0, b)) (sym is.1))
last_member (one ∷ older) p stays (inr r) = inr (last_member older p stays r.1)

module _ {K V F A : Type 0} (eq : K → K → Bool) (old new made made' : List (Change K (Stored K V))) (judges : F → Stored K V → Bool → F → Type 0)
    (first : F) (never : (f : F) (p : Stored K V) (stays : Bool) (g : F) → judges f p stays g → stays ≡ false) where
  pub none_left : (result : Result A Refused) → HasKept eq old new made made' judges first result → IfOk result (λ _. IsCleared eq old new)
  none_left (Ok done) r = λ k p has.
      ⊎_elim
      (λ out. out)
      (λ kept. absurd (let no : true ≡ false = said_only judges (λ a. a ≡ false) never first r.said r.left r.shown.has_said p true
      (last_member r.said p true kept) in cc no))
      (r.leaves k p has)
  none_left (Err refused) r = tt
