-- The loads of the root and of slots, and a table's own size, are right answers to a machine.
use Rattle.std.proofs.Common.{◌≡◌, ◌⊎◌, inl, inr, ⊎_elim, ℕ, ◌+◌, ◌==◌, Bool, true, false, Option, None, Some, List, [], ◌∷◌, length, map, refl, sym, ap, ◌∙◌}
use Rattle.std.proofs.lemmas.Bool.{cases_Bool, cond-true, cond-false}
use Rattle.boxcar.specs.Table.{Where}
use Rattle.logbook.specs.Pages.{Book}
use denote.Bor.{Bor}
use Rattle.papaya_call.specs.declared.ask.At.TheVariants.{Root, Slot}
use Rattle.papaya_call.specs.declared.ask.Ask.TheVariants.{Load, SizeOf}
use Rattle.papaya_call.specs.declared.ask.Answer.TheVariants.{Word as Word_read, Size}
use Rattle.papaya_call.specs.declared.ask.StepKind.{StepKind}
use Rattle.papaya_words_law.specs.Grows.{brings, places_in, size_in}
use Rattle.papaya_call_law.specs.TrueAnswers.{IsTrueOf, LoadedPairs, or_last}
use Rattle.papaya_map_book.specs.Sheets.{Sheet}
use Rattle.papaya_map_book.specs.declared.rule.entry.Begun.{Begun}
use Rattle.papaya_map_book.specs.declared.rule.entry.Named.TheVariants as names
use Rattle.papaya_map_book.specs.declared.rule.entry.Step.{Step}
use Rattle.papaya_map_book.specs.declared.rule.entry.Step.TheVariants as steps
use Rattle.papaya_map_book.specs.declared.rule.entry.Event.{Event}
use Rattle.papaya_map_book.specs.Calls.{IsRoot, IsSlot, IsTable}
use Rattle.papaya_map_book.specs.Logs.{Stored, coding_of, comes, entry_of, exchange_of, number_of}
use Rattle.papaya_map_book.specs.Logs.{or_else, places_of, setting_of, slots_of, state_of, steps_of}
use Rattle.papaya_map_book.specs.Logs.{table_if, table_in}

-- an exchange brings a table of this number, or none of it
abbrev Brought : {K V : Type 0} → Step K V → ℕ → Type 0
Brought e t = ((brings (exchange_of e) t ≡ true) × ((w : Where Sheet) × (comes e ≡ names.Table w) × (table_if (comes e) t ≡ Some w)))
    ⊎ ((brings (exchange_of e) t ≡ false) × (table_if (comes e) t ≡ None))

brought_or_not : {K V : Type 0} (e : Step K V) (t : ℕ) → Brought e t
brought_or_not (steps.Open w) t = ⊎_elim (λ h. inl (h, (w, refl, cond-true (number_of w == t) (Some w) None h)))
    (λ h. inr (h, cond-false (number_of w == t) (Some w) None h)) (cases_Bool (number_of w == t))
brought_or_not (steps.Claim u x p) t = inr (refl, refl)
brought_or_not (steps.Replace u x p q) t = inr (refl, refl)
brought_or_not (steps.Bury u x p) t = inr (refl, refl)
brought_or_not (steps.Link u w) t = ⊎_elim (λ h. inl (h, (w, refl, cond-true (number_of w == t) (Some w) None h)))
    (λ h. inr (h, cond-false (number_of w == t) (Some w) None h)) (cases_Bool (number_of w == t))
brought_or_not (steps.Mark u x p) t = inr (refl, refl)
brought_or_not (steps.Close u x) t = inr (refl, refl)
brought_or_not (steps.Place u x p) t = inr (refl, refl)
brought_or_not (steps.Finish u x p) t = inr (refl, refl)
brought_or_not (steps.Advance u a) t = inr (refl, refl)
brought_or_not (steps.Promote u n) t = inr (refl, refl)
brought_or_not (steps.Abort u) t = inr (refl, refl)
brought_or_not (steps.Take m) t = inr (refl, refl)

-- the size that a log gives a table is the table's own
pub table_size : {K V : Type 0} (es : List (Step K V)) (t : ℕ) (w : Where Sheet) → table_in es t ≡ Some w
    → (size_in (map entry_of es) t ≡ length w.value.slots) × (places_in (map entry_of es) t ≡ w.value.limit + 1)
table_size [] t w e = absurd (cc e)
table_size (f ∷ es) t w e =
    ⊎_elim
    (λ h.
    let there : Some h.1.0 ≡ Some w = sym (ap (λ (o : Option (Where Sheet)). or_else o (table_in es t)) h.1.2) ∙ e in
    let same : h.1.0 ≡ w = cc there in
    let with_it : comes f ≡ names.Table w = h.1.1 ∙ ap names.Table same in (
      cond-true (brings (exchange_of f) t) (slots_of (comes f)) (size_in (map entry_of es) t) h.0 ∙ ap slots_of with_it,
      cond-true (brings (exchange_of f) t) (places_of (comes f)) (places_in (map entry_of es) t) h.0 ∙ ap places_of with_it,
    ))
    (λ h.
    let rest = table_size es t w (sym (ap (λ (o : Option (Where Sheet)). or_else o (table_in es t)) h.1) ∙ e) in (
      cond-false (brings (exchange_of f) t) (slots_of (comes f)) (size_in (map entry_of es) t) h.0 ∙ rest.0,
      cond-false (brings (exchange_of f) t) (places_of (comes f)) (places_in (map entry_of es) t) h.0 ∙ rest.1,
    ))
    (brought_or_not f t)

module _ {K V S : Type 0} (eq : K → K → Bool) (hash : S → K → ℕ) (b : Begun K V S) (log : List (Event K V S)) (k : K) (kind : Option StepKind)
    (loaded : LoadedPairs (Stored K V)) where
  -- a table's size is the right answer about it
  pub size_told : (t : ℕ) (sheet : Sheet) → IsTable log t sheet
      → IsTrueOf (setting_of eq (hash b.hasher) b.mode b.limit log) (coding_of (hash b.hasher)) k (state_of log) kind loaded (SizeOf t)
      (Size (length sheet.slots) sheet.limit) [] loaded
  size_told t sheet h =
      let size = table_size (steps_of log) t h.0 h.1 in (
        (
          sheet.limit,
          sym (size.1 ∙ ap (λ (s : Sheet). s.limit + 1) h.2),
          ap (λ (n : ℕ). Size n sheet.limit) (sym (size.0 ∙ ap (λ (s : Sheet). length s.slots) h.2)),
        ),
        (refl, refl),
      )

  -- so is the number of the root
  pub root_answer : (name : Book) (found : ℕ) (table : Option (Bor Sheet)) → IsRoot eq hash b name found log table
      → IsTrueOf (setting_of eq (hash b.hasher) b.mode b.limit log) (coding_of (hash b.hasher)) k (state_of log) kind loaded (Load Root) (Word_read found) [] loaded
  root_answer name found table r = (ap Word_read (sym r.is), refl, refl)

  -- and the word of a slot: the pair that it names is the one last passed to the machine
  pub slot_answer : (name : Book) (t x found : ℕ) (pair : Option (Stored K V)) → IsSlot eq hash b name t x found log pair
      → IsTrueOf (setting_of eq (hash b.hasher) b.mode b.limit log) (coding_of (hash b.hasher)) k (state_of log) kind loaded (Load (Slot t x))
      (Word_read found) [] (record { last = or_last pair loaded.last; made = loaded.made })
  slot_answer name t x found pair r = (
    ap Word_read (sym r.is),
    refl,
    ap
        (λ (o : Option (Stored K V)). record { last = or_last o loaded.last; made = loaded.made }) (sym r.names),
  )
