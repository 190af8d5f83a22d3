-- The size of a table in the log, by its sheet and by the setting of the log.
use Rattle.std.proofs.Common.{◌≡◌, ◌⊎◌, inl, inr, ⊎_elim, ℕ, ◌+◌, ◌<◌, ◌==◌, Bool, true, false}
use Rattle.std.proofs.Common.{cond, Option, None, Some, List, [], ◌∷◌, length, map, refl, sym, ap}
use Rattle.std.proofs.Common.{◌∙◌, subst, arith}
use Rattle.std.proofs.lemmas.Bool.{cases_Bool, cond-true, cond-false}
use Rattle.boxcar.specs.Table.{Where}
use Rattle.papaya_call.specs.Search.{IsSize}
use Rattle.papaya_words_law.specs.Grows.{AllSized, Entry, brings, chunks_in, places_in, size_in}
use Rattle.papaya_map_book.specs.Sheets.{Sheet}
use Rattle.papaya_map_book.specs.declared.rule.entry.Named.{Named}
use Rattle.papaya_map_book.specs.declared.rule.entry.Named.TheVariants as names
use Rattle.papaya_map_book.specs.declared.rule.entry.Step.{Step}
use Rattle.papaya_map_book.specs.declared.rule.entry.Step.TheVariants as steps
use Rattle.papaya_map_book.specs.Logs.{chunks_of, comes, entry_of, exchange_of, number_of, or_else, places_of, slots_of, table_if, table_in}

-- each table has a slot at least
pub some_slot : {P : Type 0} (es : List (Entry P)) → AllSized es → (t : ℕ) → 0 < size_in es t
some_slot [] sized t = omega arith
some_slot (e ∷ es) sized t =
    ⊎_elim
    (λ b. subst (λ y. 0 < y) (sym (cond-true (brings e.by t) e.size (size_in es t) b)) (sized.0 t b).0)
    (λ b. subst (λ y. 0 < y) (sym (cond-false (brings e.by t) e.size (size_in es t) b)) (some_slot es sized.1 t))
    (cases_Bool (brings e.by t))

-- a table is there, or it isn't
there : (o : Option (Where Sheet)) → ((w : Where Sheet) × (o ≡ Some w)) ⊎ (o ≡ None)
there None = inr refl
there (Some w) = inl (w, refl)

-- is a table there?
abbrev some : Option (Where Sheet) → Bool
some None = false
some (Some w) = true

some_of : (w : Where Sheet) (t : ℕ) → (number_of w == t) ≡ some (cond (number_of w == t) (Some w) None)
some_of w t =
    ⊎_elim
    (λ h. h ∙ sym (ap some (cond-true (number_of w == t) (Some w) None h)))
    (λ h. h ∙ sym (ap some (cond-false (number_of w == t) (Some w) None h)))
    (cases_Bool (number_of w == t))

module _ {K V : Type 0} where
  -- the size of a table is the one that its sheet states
  abbrev IsSizeOf : Named K V → Where Sheet → Type 0
  IsSizeOf n w = (slots_of n ≡ length w.value.slots) × (places_of n ≡ w.value.limit + 1)

  -- a table that comes under the number has the size that its sheet states
  size_named : (n : Named K V) (t : ℕ) (w : Where Sheet) → table_if n t ≡ Some w → IsSizeOf n w
  size_named names.Nothing t w e = absurd (cc e)
  size_named (names.Pair p) t w e = absurd (cc e)
  size_named (names.Table v) t w e =
      ⊎_elim
      (λ h. let c = cond-true (number_of v == t) (Some v) None h in let is : v ≡ w = cc (c, e) in
      (ap (λ (z : Where Sheet). length z.value.slots) is, ap (λ (z : Where Sheet). z.value.limit + 1) is))
      (λ h. let c = cond-false (number_of v == t) (Some v) None h in absurd (cc (c, e)))
      (cases_Bool (number_of v == t))

  -- an exchange brings the table that comes with it, and no other
  brings_if : (e : Step K V) (t : ℕ) → brings (exchange_of e) t ≡ some (table_if (comes e) t)
  brings_if (steps.Open w) t = some_of w t
  brings_if (steps.Claim u x p) t = refl
  brings_if (steps.Replace u x p q) t = refl
  brings_if (steps.Bury u x p) t = refl
  brings_if (steps.Link u w) t = some_of w t
  brings_if (steps.Mark u x p) t = refl
  brings_if (steps.Close u x) t = refl
  brings_if (steps.Place u x p) t = refl
  brings_if (steps.Finish u x p) t = refl
  brings_if (steps.Advance u c) t = refl
  brings_if (steps.Promote u n) t = refl
  brings_if (steps.Abort u) t = refl
  brings_if (steps.Take m) t = refl

  -- the setting's size of a table that came is its sheet's
  pub sizes : (es : List (Step K V)) (t : ℕ) (w : Where Sheet) → table_in es t ≡ Some w → (size_in (map entry_of es) t ≡ length w.value.slots)
      × (places_in (map entry_of es) t ≡ w.value.limit + 1)
  sizes [] t w e = absurd (cc e)
  sizes (s ∷ es) t w e =
      ⊎_elim
      (λ h.
      let is : h.0 ≡ w = let o = ap (λ (z : Option (Where Sheet)). or_else z (table_in es t)) h.1 in cc (o, e) in
      let size = size_named (comes s) t w (h.1 ∙ ap (λ z. Some z) is) in
      let b : brings (exchange_of s) t ≡ true = brings_if s t ∙ ap some h.1 in (
        cond-true (brings (exchange_of s) t) (slots_of (comes s)) (size_in (map entry_of es) t) b
            ∙ size.0,
        cond-true (brings (exchange_of s) t) (places_of (comes s)) (places_in (map entry_of es) t) b ∙ size.1,
      ))
      (λ h.
      let b : brings (exchange_of s) t ≡ false = brings_if s t ∙ ap some h in
      let o : table_in es t ≡ Some w = sym (ap (λ (z : Option (Where Sheet)). or_else z (table_in es t)) h) ∙ e in
      let rest = sizes es t w o in (
        cond-false (brings (exchange_of s) t) (slots_of (comes s)) (size_in (map entry_of es) t) b
            ∙ rest.0,
        cond-false (brings (exchange_of s) t) (places_of (comes s)) (places_in (map entry_of es) t) b ∙ rest.1,
      ))
      (there (table_if (comes s) t))

  -- so is its number of words for chunks
  words_named : (n : Named K V) (t : ℕ) (w : Where Sheet) → table_if n t ≡ Some w → chunks_of n ≡ length w.value.done
  words_named names.Nothing t w e = absurd (cc e)
  words_named (names.Pair p) t w e = absurd (cc e)
  words_named (names.Table v) t w e =
      ⊎_elim
      (λ h. let c = cond-true (number_of v == t) (Some v) None h in let is : v ≡ w = cc (c, e) in ap (λ (z : Where Sheet). length z.value.done) is)
      (λ h. let c = cond-false (number_of v == t) (Some v) None h in absurd (cc (c, e)))
      (cases_Bool (number_of v == t))

  pub words_of : (es : List (Step K V)) (t : ℕ) (w : Where Sheet) → table_in es t ≡ Some w → chunks_in (map entry_of es) t ≡ length w.value.done
  words_of [] t w e = absurd (cc e)
  words_of (s ∷ es) t w e =
      ⊎_elim
      (λ h.
      let is : h.0 ≡ w = let o = ap (λ (z : Option (Where Sheet)). or_else z (table_in es t)) h.1 in cc (o, e) in
      let b : brings (exchange_of s) t ≡ true = brings_if s t ∙ ap some h.1 in
      cond-true (brings (exchange_of s) t) (chunks_of (comes s)) (chunks_in (map entry_of es) t) b ∙ words_named (comes s) t w (h.1 ∙ ap (λ z. Some z) is))
      (λ h.
      let b : brings (exchange_of s) t ≡ false = brings_if s t ∙ ap some h in
      let o : table_in es t ≡ Some w = sym (ap (λ (z : Option (Where Sheet)). or_else z (table_in es t)) h) ∙ e in
      cond-false (brings (exchange_of s) t) (chunks_of (comes s)) (chunks_in (map entry_of es) t) b ∙ words_of es t w o)
      (there (table_if (comes s) t))

-- the least table's size, and the next one's
pub eight_slots : IsSize 8 15
eight_slots = record { power = (3, refl); most = omega arith; few = omega arith }

pub sixteen_slots : IsSize 16 20
sixteen_slots = record { power = (4, refl); most = omega arith; few = omega arith }
