-- The entries of a log that change the map, in longer logs.
use Rattle.std.proofs.Common.{◌≡◌, ⊎_elim, ℕ, Bool, true, false, cond, Option, None, Some, List, [], ◌∷◌, ◌++◌, refl, sym, ap, ◌∙◌}
use Rattle.std.specs.Prelude.{filter}
use Rattle.std.proofs.lemmas.List.{append-nil}
use Rattle.std.proofs.lemmas.List.Elements.{filter-append}
use Rattle.papaya_call.specs.declared.ask.At.{At}
use Rattle.papaya_call.specs.declared.ask.At.TheVariants as places
use Rattle.papaya_call.specs.declared.ask.StepKind.{StepKind}
use Rattle.papaya_call.specs.declared.ask.StepKind.TheVariants as kinds
use Rattle.papaya_words_law.specs.Exchange as law
use Rattle.papaya_words_law.specs.Exchange.{Exchange, State}
use Rattle.papaya_call_law.specs.Copier.{IsCopyAsked}
use Rattle.papaya_call_law.specs.TrueAnswers.{LoadedPairs}
use Rattle.papaya_map_book.specs.declared.rule.entry.Named.{Named}
use Rattle.papaya_map_book.specs.declared.rule.entry.Named.TheVariants as names
use Rattle.papaya_map_book.specs.declared.rule.entry.Step.{Step}
use Rattle.papaya_map_book.specs.declared.rule.entry.Step.TheVariants as steps
use Rattle.papaya_map_book.specs.declared.rule.entry.Event.{Event}
use Rattle.papaya_map_book.specs.declared.rule.entry.Event.TheVariants.{Stepped}
use Rattle.papaya_map_book.specs.Changes.{ChangesNothing, changes_map, is_change}
use Rattle.papaya_map_book.specs.Logs.{Stored, comes, exchange_of}
use Rattle.papaya_map_book.specs.Own.{last_in}
use Rattle.papaya_map_book.specs.Plays.{IsCallAsked, IsWished, Numbered, loaded_of}
use Rattle.boxcar.specs.Table.{Where}
use Rattle.papaya_map_book.specs.Sheets.{Sheet}

module _ {K V S : Type 0} (log : List (Event K V S)) where
  -- entries without a change leave the changes of a log
  pub changes_left : (more : List (Event K V S)) → filter is_change more ≡ [] → filter is_change (log ++ more) ≡ filter is_change log
  changes_left more none = filter-append is_change log more
      ∙ (ap (λ (xs : List (Event K V S)). filter is_change log ++ xs) none ∙ append-nil (filter is_change log))

  -- so does an entry that is no change
  pub changes_still : (e : Event K V S) → is_change e ≡ false → filter is_change (log ++ e ∷ []) ≡ filter is_change log
  changes_still e is = changes_left (e ∷ []) (ap (λ (b : Bool). cond b (e ∷ []) []) is)

-- the last entry of a log
pub last_added : {X : Type 0} (xs : List X) (x : X) → last_in (xs ++ x ∷ []) ≡ x ∷ []
last_added [] x = refl
last_added (y ∷ []) x = refl
last_added (y ∷ (z ∷ zs)) x = last_added (z ∷ zs) x

-- an exchange that brings in a table is no change
pub table_quiet : {K V : Type 0} (e : Step K V) (w : Where Sheet) → comes e ≡ names.Table w → changes_map e ≡ false
table_quiet (steps.Open v) w is = refl
table_quiet (steps.Claim t x p) w is = absurd (cc is)
table_quiet (steps.Replace t x p q) w is = absurd (cc is)
table_quiet (steps.Bury t x p) w is = absurd (cc is)
table_quiet (steps.Link t v) w is = refl
table_quiet (steps.Mark t x p) w is = refl
table_quiet (steps.Close t x) w is = refl
table_quiet (steps.Place t x p) w is = refl
table_quiet (steps.Finish t x p) w is = refl
table_quiet (steps.Advance t c) w is = refl
table_quiet (steps.Promote t n) w is = refl
table_quiet (steps.Abort t) w is = refl
table_quiet (steps.Take m) w is = refl

-- whether an exchange of the law changes the map
abbrev changing : {P : Type 0} → Exchange P → Bool
changing (law.Claim t x p) = true
changing (law.Replace t x p q) = true
changing (law.Bury t x p) = true
changing _ = false

same_change : {K V : Type 0} (e : Step K V) → changes_map e ≡ changing (exchange_of e)
same_change (steps.Open v) = refl
same_change (steps.Claim t x p) = refl
same_change (steps.Replace t x p q) = refl
same_change (steps.Bury t x p) = refl
same_change (steps.Link t v) = refl
same_change (steps.Mark t x p) = refl
same_change (steps.Close t x) = refl
same_change (steps.Place t x p) = refl
same_change (steps.Finish t x p) = refl
same_change (steps.Advance t c) = refl
same_change (steps.Promote t n) = refl
same_change (steps.Abort t) = refl
same_change (steps.Take m) = refl

module _ {K V : Type 0} where
  call_quiet : (kind : Option StepKind) (at : At) (new : ℕ) (s : State (Stored K V)) (loaded : LoadedPairs (Stored K V)) (e : Exchange (Stored K V))
      → ChangesNothing at kind → IsCallAsked kind at new s loaded e → changing e ≡ false
  call_quiet (Some kinds.Open) places.Root new s loaded e leaves is = ap changing is
  call_quiet (Some kinds.Claim) (places.Slot t x) new s loaded e leaves is = absurd leaves
  call_quiet (Some kinds.Replace) (places.Slot t x) new s loaded e leaves is = absurd leaves
  call_quiet (Some kinds.Bury) (places.Slot t x) new s loaded e leaves is = absurd leaves
  call_quiet (Some kinds.Take) places.Made new s loaded e leaves is = ap changing is
  call_quiet kind at new s loaded e leaves is = absurd is

  copy_quiet : (kind : Option StepKind) (at : At) (new : ℕ) (s : State (Stored K V)) (kept : Option (Stored K V)) (e : Exchange (Stored K V))
      → IsCopyAsked Numbered kind at new s kept e → changing e ≡ false
  copy_quiet (Some kinds.Link) (places.Next t) new s kept e is = ap changing is
  copy_quiet (Some kinds.Mark) (places.Slot t x) new s kept e (p, there, is) = ap changing is
  copy_quiet (Some kinds.Close) (places.Slot t x) new s kept e is = ap changing is
  copy_quiet (Some kinds.Place) (places.Slot t x) new s kept e (p, carried, number, is) = ap changing is
  copy_quiet (Some kinds.Finish) (places.Slot t x) new s kept e (p, there, is) = ap changing is
  copy_quiet (Some kinds.Advance) (places.Done n chunk) new s kept e is = ap changing is
  copy_quiet (Some kinds.Promote) places.Root new s kept e is = ap changing is
  copy_quiet (Some kinds.Abort) (places.Aborted n) new s kept e is = ap changing is
  copy_quiet kind at new s kept e is = absurd is

  -- a wish of a kind that changes nothing is for an exchange that does not
  pub wished_quiet : (kind : Option StepKind) (at : At) (new : ℕ) (s : State (Stored K V)) (made : Option (Stored K V)) (e : Step K V)
      → ChangesNothing at kind → IsWished kind at new s made (exchange_of e) → changes_map e ≡ false
  wished_quiet kind at new s made e leaves wished = same_change e
      ∙ ⊎_elim (λ i. call_quiet kind at new s (loaded_of made) (exchange_of e) leaves i) (λ i. copy_quiet kind at new s made (exchange_of e) i) wished
