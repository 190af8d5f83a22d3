-- The machine whose exchange a wish is for, by its kind.
use Rattle.std.proofs.Common.{⊎_elim, ℕ, Option, None, Some}
use Rattle.papaya_call.specs.declared.ask.At.{At}
use Rattle.papaya_call.specs.declared.ask.StepKind.{StepKind}
use Rattle.papaya_call.specs.declared.ask.StepKind.TheVariants as kinds
use Rattle.papaya_words_law.specs.Exchange.{Exchange, State}
use Rattle.papaya_call_law.specs.Copier.{IsCopyAsked}
use Rattle.papaya_map_book.specs.Logs.{Stored}
use Rattle.papaya_map_book.specs.Plays.{IsCallAsked, IsWished, Numbered, loaded_of}

-- a kind of exchange that calls ask for
abbrev pub IsOfCall : Option StepKind → Type 0
IsOfCall (Some kinds.Open) = Unit {0}
IsOfCall (Some kinds.Claim) = Unit {0}
IsOfCall (Some kinds.Replace) = Unit {0}
IsOfCall (Some kinds.Bury) = Unit {0}
IsOfCall (Some kinds.Take) = Unit {0}
IsOfCall _ = ⊥

-- a kind of exchange that copiers ask for
abbrev pub IsOfCopy : Option StepKind → Type 0
IsOfCopy (Some kinds.Link) = Unit {0}
IsOfCopy (Some kinds.Mark) = Unit {0}
IsOfCopy (Some kinds.Close) = Unit {0}
IsOfCopy (Some kinds.Place) = Unit {0}
IsOfCopy (Some kinds.Finish) = Unit {0}
IsOfCopy (Some kinds.Advance) = Unit {0}
IsOfCopy (Some kinds.Promote) = Unit {0}
IsOfCopy (Some kinds.Abort) = Unit {0}
IsOfCopy _ = ⊥

module _ {K V : Type 0} (at : At) (new : ℕ) (s : State (Stored K V)) (made : Option (Stored K V)) (e : Exchange (Stored K V)) where
  -- a wish of such a kind is a call's
  pub call_wished : (kind : Option StepKind) → IsOfCall kind → IsWished kind at new s made e → IsCallAsked kind at new s (loaded_of made) e
  call_wished None is h = absurd is
  call_wished (Some kinds.Open) is h = ⊎_elim (λ i. i) (λ i. absurd i) h
  call_wished (Some kinds.Claim) is h = ⊎_elim (λ i. i) (λ i. absurd i) h
  call_wished (Some kinds.Replace) is h = ⊎_elim (λ i. i) (λ i. absurd i) h
  call_wished (Some kinds.Bury) is h = ⊎_elim (λ i. i) (λ i. absurd i) h
  call_wished (Some kinds.Take) is h = ⊎_elim (λ i. i) (λ i. absurd i) h
  call_wished (Some kinds.Link) is h = absurd is
  call_wished (Some kinds.Mark) is h = absurd is
  call_wished (Some kinds.Close) is h = absurd is
  call_wished (Some kinds.Place) is h = absurd is
  call_wished (Some kinds.Finish) is h = absurd is
  call_wished (Some kinds.Advance) is h = absurd is
  call_wished (Some kinds.Promote) is h = absurd is
  call_wished (Some kinds.Abort) is h = absurd is

  -- a wish of such a kind is a copy's
  pub copy_wished : (kind : Option StepKind) → IsOfCopy kind → IsWished kind at new s made e → IsCopyAsked Numbered kind at new s made e
  copy_wished None is h = absurd is
  copy_wished (Some kinds.Open) is h = absurd is
  copy_wished (Some kinds.Claim) is h = absurd is
  copy_wished (Some kinds.Replace) is h = absurd is
  copy_wished (Some kinds.Bury) is h = absurd is
  copy_wished (Some kinds.Take) is h = absurd is
  copy_wished (Some kinds.Link) is h = ⊎_elim (λ i. absurd i) (λ i. i) h
  copy_wished (Some kinds.Mark) is h = ⊎_elim (λ i. absurd i) (λ i. i) h
  copy_wished (Some kinds.Close) is h = ⊎_elim (λ i. absurd i) (λ i. i) h
  copy_wished (Some kinds.Place) is h = ⊎_elim (λ i. absurd i) (λ i. i) h
  copy_wished (Some kinds.Finish) is h = ⊎_elim (λ i. absurd i) (λ i. i) h
  copy_wished (Some kinds.Advance) is h = ⊎_elim (λ i. absurd i) (λ i. i) h
  copy_wished (Some kinds.Promote) is h = ⊎_elim (λ i. absurd i) (λ i. i) h
  copy_wished (Some kinds.Abort) is h = ⊎_elim (λ i. absurd i) (λ i. i) h
