-- The log after an attempt to open a table.
use Rattle.std.proofs.Common.{◌≡◌, ⊎_elim, ℕ, ◌==◌, Bool, true, false, MatchBool, Option, None, Some, List, [], ◌∷◌, ◌++◌, refl, sym, ap, ◌∙◌, subst}
use Rattle.std.proofs.lemmas.Bool.{cases_Bool, cond-true, eqb-true, eqb-false}
use Rattle.boxcar.specs.Table.{Where}
use Rattle.papaya_call.specs.declared.ask.At.TheVariants.{Root}
use Rattle.papaya_call.specs.declared.ask.StepKind.TheVariants as kinds
use Rattle.papaya_map_book.specs.Sheets.{Sheet}
use Rattle.papaya_map_book.specs.declared.rule.entry.Begun.{Begun}
use Rattle.papaya_map_book.specs.declared.rule.entry.Event.{Event}
use Rattle.papaya_map_book.specs.declared.rule.entry.Event.TheVariants.{Stepped}
use Rattle.papaya_map_book.specs.declared.rule.entry.Named.{Named}
use Rattle.papaya_map_book.specs.declared.rule.entry.Named.TheVariants as names
use Rattle.papaya_map_book.specs.declared.rule.entry.Step.{Step}
use Rattle.papaya_map_book.specs.Calls.{IsTable, IsTried}
use Rattle.papaya_map_book.specs.Logs.{comes, number_of, or_else, state_of, steps_of, table_if, table_in}
use Rattle.papaya_map_book.specs.Plays.{IsMeant}
use Rattle.papaya_map_book.proofs.Logs.{steps-append, table_append}

-- a number equals itself, by the boolean test
pub same_number : (n : ℕ) → (n == n) ≡ true
same_number n = ⊎_elim (λ h. h) (λ h. absurd (eqb-false n n h refl)) (cases_Bool (n == n))

-- a number that is not 0, by the boolean test
pub not_zero : (n : ℕ) → (n ≡ 0 → ⊥) → (n == 0) ≡ false
not_zero n some = ⊎_elim (λ h. absurd (some (eqb-true n 0 h))) (λ h. h) (cases_Bool (n == 0))

module _ {K V S : Type 0} (eq : K → K → Bool) (hash : S → K → ℕ) (b : Begun K V S) (n : ℕ) (w : Where Sheet) (v : List (Event K V S)) (found : ℕ)
    (log : List (Event K V S)) (state : Option (Named K V)) (t : IsTried eq hash b Root (Some kinds.Open) 0 n None (names.Table w) v found log state) where
  abbrev pub After : Bool → Type 0
  After z = MatchBool z ((e : Step K V) × IsMeant eq hash Root (Some kinds.Open) n None (names.Table w) t.before e
      × (log ≡ t.before ++ Stepped e ∷ [])) (log ≡ t.before)

  -- the table that was opened has come
  pub opened_here : (found == 0) ≡ true → n ≡ number_of w → IsTable log n w.value
  opened_here is number =
      let done = subst After is t.after in
      let root : (state_of t.before).root ≡ 0 = t.is ∙ eqb-true found 0 is in
      let none : table_in (steps_of t.before) n ≡ None = t.lawful.unopened root n in
      let here : table_if (comes done.0) n ≡ Some w =
      ap (λ (z : Named K V). table_if z n) done.1.with_it
      ∙ cond-true (number_of w == n) (Some w) None (subst (λ (z : ℕ). (number_of w == z) ≡ true) (sym number) (same_number (number_of w))) in
      let there : table_in (steps_of log) n ≡ Some w =
      ap (λ (z : List (Event K V S)). table_in (steps_of z) n) done.2
      ∙ (ap (λ (z : List (Step K V)). table_in z n) (steps-append t.before (Stepped done.0 ∷ []))
      ∙ (table_append (steps_of t.before) (done.0 ∷ []) n
      ∙ (ap (λ (z : Option (Where Sheet)). or_else z (table_in (done.0 ∷ []) n)) none ∙ (ap (λ (z : Option (Where Sheet)). or_else z None) here)))) in
      (w, there, refl)

  -- if it was lost nothing has come
  pub opened_lost : (found == 0) ≡ false → log ≡ t.before
  opened_lost is = subst After is t.after
