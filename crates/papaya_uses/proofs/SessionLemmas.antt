-- The result of a removal whose closure returns `true` for one user's session alone.
use Rattle.std.proofs.Common.{◌≡◌, ◌==◌, ℕ, Bool, true, false, None, Some, Ok, Err, sym, ◌∙◌, ap, subst}
use Rattle.std.proofs.lemmas.Bool.{eq-eqb, eqb-true, false≢true}
use Rattle.std.specs.Prelude.{Result, Option}
use Rattle.std.specs.Borrow.{Bor}
use Rattle.std.specs.Fn.{Called, Mut}
use Rattle.papaya.specs.Types.{Refused}
use Rattle.papaya.specs.Threads.{IsJudged, IsRemovalBy, Judges, Member, Stored, WasHeld}
use Rattle.papaya_uses.specs.Sessions.{IsSignedOut, Seen}
use Rattle.papaya_uses.proofs.Said.{said_each, shown_each}

module _ {F : Type 0} (called : Mut F (Bor ℕ × (Bor ℕ × Unit {0})) Bool) (token user : ℕ) (old new : Seen) (first : F)
    (answer : Result (Result (Option (Bor ℕ × Bor ℕ)) (Bor ℕ × Bor ℕ)) Refused)
    (h : IsRemovalBy (λ a b. a == b) (λ key. token == key) old new (Judges called) first answer)
    (holds : F → Type 0) (at_first : holds first)
    (judges : (f : F) (key value : Bor ℕ) (agrees : Bool) (g : F) → holds f → Called called f (key, (value, tt)) agrees g → holds g
    × (agrees ≡ (value.now == user))) where
  -- it returned `true` for an entry of that user alone
  said_so : (p : Stored ℕ ℕ) (agrees : Bool) → Member (p, agrees) h.said → agrees ≡ (p.value.value == user)
  said_so = said_each (Judges called) holds (λ p agrees. agrees ≡ (p.value.value == user))
      (λ f p agrees g is says. let next = judges f says.0 says.1 agrees g is says.3 in (next.0, next.1 ∙ ap (λ v. v == user) says.2.1)) first at_first
      h.said h.left h.has_said

  abbrev Judged : Result (Result (Option (Bor ℕ × Bor ℕ)) (Bor ℕ × Bor ℕ)) Refused → Type 0
  Judged r = IsJudged (λ a b. a == b) (λ key. token == key) old new h.said r

  -- so the session that was removed was that user's
  pub signed_out : (entry : Bor ℕ × Bor ℕ) → answer ≡ Ok (Ok (Some entry)) → IsSignedOut token user old new true
  signed_out entry is =
      let (p, taken, (shown, same, member), of) : Judged (Ok (Ok (Some entry))) = subst Judged is h.answered in
      let agreed : true ≡ (shown.value.value == user) = said_so shown true member in
      let of_user : shown.value.value ≡ user = eqb-true _ _ (sym agreed) in
      (p, taken, ap (λ v. v.value) (sym same.1) ∙ of_user)

  -- a token without an entry is not that user's
  pub none_out : answer ≡ Ok (Ok None) → IsSignedOut token user old new false
  none_out is =
      let none : Judged (Ok (Ok None)) = subst Judged is h.answered in
      (None, none, λ e. cc e)

  -- nor is one whose entry stays
  pub other_out : (entry : Bor ℕ × Bor ℕ) → answer ≡ Ok (Err entry) → IsSignedOut token user old new false
  other_out entry is =
      let (p, member, of) : Judged (Ok (Err entry)) = subst Judged is h.answered in
      let other : false ≡ (p.value.value == user) = said_so p false member in (
        Some p,
        shown_each (λ q. WasHeld (λ a b. a == b) (λ key. token == key) old new (Some q)) h.said p false h.held member,
        λ e. absurd (let same : p.value.value ≡ user = cc e in false≢true (other ∙ eq-eqb p.value.value user same)),
      )
