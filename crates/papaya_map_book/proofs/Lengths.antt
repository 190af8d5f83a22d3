-- The numbers of slots of the tables in a log: a longer log has them too, and each table in the log is among them.
use Rattle.std.proofs.Common.{◌≡◌, ◌⊎◌, inl, inr, ⊎_elim, ℕ, ◌==◌, Option, None, Some, List, [], ◌∷◌, ◌++◌, length, refl, sym, ap, ◌∙◌, append_assoc, subst}
use Rattle.std.proofs.lemmas.Bool.{cases_Bool, cond-true, cond-false}
use mathlib.Core.List.{IsPrefix}
use Rattle.boxcar.specs.Table.{Where}
use Rattle.papaya_map_book.specs.Sheets.{Sheet}
use Rattle.papaya_map_book.specs.declared.rule.entry.Event.{Event}
use Rattle.papaya_map_book.specs.declared.rule.entry.Named.{Named}
use Rattle.papaya_map_book.specs.declared.rule.entry.Named.TheVariants as names
use Rattle.papaya_map_book.specs.declared.rule.entry.Step.{Step}
use Rattle.papaya_map_book.specs.declared.rule.own.CapacityCause.{CapacityCause}
use Rattle.papaya_map_book.specs.Calls.{IsTable}
use Rattle.papaya_map_book.specs.Limits.{HasNoRoom, slots_brought, tables_by, tables_of}
use Rattle.papaya_map_book.specs.Logs.{Member, comes, number_of, or_else, steps_of, table_if, table_in}
use Rattle.papaya_map_book.proofs.Logs.{steps-append}

-- a member of a list is a member of a longer one
member_first : {X : Type 0} (x : X) (xs ys : List X) → Member x xs → Member x (xs ++ ys)
member_first x [] ys h = absurd h
member_first x (y ∷ xs) ys (inl e) = inl e
member_first x (y ∷ xs) ys (inr h) = inr (member_first x xs ys h)

member_last : {X : Type 0} (x : X) (xs ys : List X) → Member x ys → Member x (xs ++ ys)
member_last x [] ys h = h
member_last x (y ∷ xs) ys h = inr (member_last x xs ys h)

tables_append : {K V : Type 0} (xs ys : List (Step K V)) → tables_by (xs ++ ys) ≡ tables_by xs ++ tables_by ys
tables_append [] ys = refl
tables_append (e ∷ xs) ys = ap (λ l. slots_brought (comes e) ++ l) (tables_append xs ys)
    ∙ sym (append_assoc (slots_brought (comes e)) (tables_by xs) (tables_by ys))

-- the tables of a longer log begin as those of the shorter one
pub tables_since : {K V S : Type 0} (v log : List (Event K V S)) → IsPrefix v log → IsPrefix (tables_of v) (tables_of log)
tables_since v log pre = (tables_of pre.0, sym (tables_append (steps_of v) (steps_of pre.0)) ∙ (ap tables_by (sym (steps-append v pre.0)) ∙ ap tables_of pre.1))

pub member_since : (len : ℕ) (tables tables' : List ℕ) → IsPrefix tables tables' → Member len tables → Member len tables'
member_since len tables tables' pre h = subst (Member len) pre.1 (member_first len tables pre.0 h)

-- if there was no room, there is none whatever tables came since
pub room_since : (initial : ℕ) (tables tables' : List ℕ) (given : List CapacityCause) → IsPrefix tables tables' → HasNoRoom initial tables given
    → HasNoRoom initial tables' given
room_since initial tables tables' given pre (inl full) = inl full
room_since initial tables tables' given pre (inr long) = inr (record {
  count = long.count;
  given_is = long.given_is;
  len = long.len;
  there = member_since long.len tables tables' pre long.there;
  unfit = long.unfit;
  long = long.long;
})

-- the table that comes under this number is this one, with its slots
slots_named : {K V : Type 0} (n : Named K V) (t : ℕ) (w : Where Sheet) → table_if n t ≡ Some w → Member (length w.value.slots) (slots_brought n)
slots_named names.Nothing t w e = absurd (cc e)
slots_named (names.Pair p) t w e = absurd (cc e)
slots_named (names.Table v) t w e =
    ⊎_elim
    (λ h. let c = cond-true (number_of v == t) (Some v) None h in let is : v ≡ w = cc (c, e) in inl (ap (λ (z : Where Sheet). length z.value.slots) (sym is)))
    (λ h. let c = cond-false (number_of v == t) (Some v) None h in absurd (cc (c, e)))
    (cases_Bool (number_of v == t))

-- a table comes with a step, or with none
none_or : (o : Option (Where Sheet)) → ((w : Where Sheet) × (o ≡ Some w)) ⊎ (o ≡ None)
none_or None = inr refl
none_or (Some w) = inl (w, refl)

slots_in : {K V : Type 0} (es : List (Step K V)) (t : ℕ) (w : Where Sheet) → table_in es t ≡ Some w → Member (length w.value.slots) (tables_by es)
slots_in [] t w e = absurd (cc e)
slots_in (s ∷ es) t w e =
    ⊎_elim
    (λ h.
    let is : h.0 ≡ w = let o = ap (λ (z : Option (Where Sheet)). or_else z (table_in es t)) h.1 in cc (o, e) in
    member_first (length w.value.slots) (slots_brought (comes s)) (tables_by es) (slots_named (comes s) t w (h.1 ∙ ap (λ z. Some z) is)))
    (λ h. member_last (length w.value.slots) (slots_brought (comes s)) (tables_by es)
    (slots_in es t w (sym (ap (λ (z : Option (Where Sheet)). or_else z (table_in es t)) h) ∙ e)))
    (none_or (table_if (comes s) t))

-- a table that has come is among them
pub table_slots : {K V S : Type 0} (log : List (Event K V S)) (t : ℕ) (sheet : Sheet) → IsTable log t sheet → Member (length sheet.slots) (tables_of log)
table_slots log t sheet h = subst (λ (s : Sheet). Member (length s.slots) (tables_of log)) h.2 (slots_in (steps_of log) t h.0 h.1)
