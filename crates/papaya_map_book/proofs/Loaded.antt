-- A load of the root or of a slot, and the table or the pair that the word names.
use Rattle.std.proofs.Common.{refl, ◌≡◌, ◌≢◌, ◌⊎◌, inl, inr, ⊎_elim, ℕ, ◌+◌, ◌^◌, ◌<◌, Bool, Option, None, Some, List, slice_get, sym, ap, ◌∙◌}
use Rattle.boxcar.specs.Table.{Where, Shows}
use Rattle.logbook.specs.Pages.{Book}
use Rattle.papaya_words.specs.Word.{kind_of, pair_of}
use Rattle.papaya_words.specs.declared.word.Kind.TheVariants as kinds
use Rattle.papaya_call.specs.declared.ask.At.TheVariants.{Next, Root, Slot}
use Rattle.papaya_words_law.specs.Code.{code, kind}
use Rattle.papaya_words_law.specs.Exchange.{Word, Empty, Closed, Live, Marked, Copied, Buried}
use Rattle.papaya_words_law.specs.Invariant.{named}
use Rattle.papaya_words_law.proofs.Codes.{code_kind}
use Rattle.papaya_words_law.specs.Code.{IsHashed}
use Rattle.papaya_map_book.specs.Sheets.{Sheet}
use Rattle.papaya_map_book.specs.declared.rule.entry.Begun.{Begun}
use Rattle.papaya_map_book.specs.declared.rule.entry.Named.{Named}
use Rattle.papaya_map_book.specs.declared.rule.entry.Named.TheVariants as names
use Rattle.papaya_map_book.specs.declared.rule.entry.Event.{Event}
use Rattle.papaya_map_book.specs.Calls.{IsPairOf, IsRead, IsTable, NamesPair}
use Rattle.papaya_map_book.specs.declared.rule.entry.Step.{Step}
use mathlib.Core.List.{IsPrefix}
use Rattle.papaya_map_book.specs.Logs.{Stored, coding_of, in_table, key_at, name_in, pair_named, setting_of, state_of, steps_of, table_in, table_named}
use Rattle.papaya_map_book.specs.Rule.{IsLawfulLog, IsPlaced}
use Rattle.papaya_map_book.proofs.Found.{names_some, next_came, root_came}
use Rattle.papaya_map_book.proofs.Logs.{came_entered, steps-append, table_came, table_later}
use Rattle.papaya_map_book.proofs.Names.{pair_came}

module _ {K V S : Type 0} (eq : K → K → Bool) (hash : S → K → ℕ) (b : Begun K V S) (log : List (Event K V S))
    (hashed : IsHashed (setting_of eq (hash b.hasher) b.mode b.limit log) (coding_of (hash b.hasher))) (name : Book)
    (called : name_in log ≡ Some name) (found : ℕ) (state : Option (Named K V)) where
  -- the table of the number that was found
  pub record IsFoundTable : Type 0 where
    pub table : Where Sheet
    pub gained : state ≡ Some (names.Table table)
    pub came : table_in (steps_of log) found ≡ Some table
    pub number : table.index + 1 ≡ found
    pub shown : Shows b.tables table
    pub fits : table.index < 2 ^ 32
    pub book : table.value.book ≡ name

  -- the facts about a table that came under the number that was found
  pub found_table : (w : Where Sheet) → IsLawfulLog eq hash b log → state ≡ Some (names.Table w) → table_in (steps_of log) found ≡ Some w → IsFoundTable
  found_table w lawful gained came =
      let by = table_came (steps_of log) found w came in
      let placed = lawful.placed (names.Table w) (came_entered (names.Table w) log by.0) in
      let same : Some name ≡ Some w.value.book = sym called ∙ placed.2 in record {
        table = w;
        gained = gained;
        came = came;
        number = by.1;
        shown = placed.0;
        fits = placed.1;
        book = sym (cc same);
      }

  pub root_told : IsRead eq hash b Root found log state → found ≢ 0 → IsFoundTable
  root_told r some =
      let c = root_came (setting_of eq (hash b.hasher) b.mode b.limit log) hashed.lawful (steps_of log) r.lawful.allowed found r.is some in
      let is : table_in (steps_of log) (state_of log).root ≡ Some c.0 = ap (table_in (steps_of log)) r.is ∙ c.1 in
      found_table c.0 r.lawful (r.state_is ∙ ap (λ (o : Option (Where Sheet)). Some (table_named o)) is) c.1

  pub next_told : (t : ℕ) → IsRead eq hash b (Next t) found log state → found ≢ 0 → IsFoundTable
  next_told t r some =
      let c = next_came (steps_of log) t found r.is some in
      let is : table_in (steps_of log) ((state_of log).next t) ≡ Some c.0 = ap (table_in (steps_of log)) r.is ∙ c.1 in
      found_table c.0 r.lawful (r.state_is ∙ ap (λ (o : Option (Where Sheet)). Some (table_named o)) is) c.1

  -- the pair of a slot that was found
  pub record IsSlotPair (t x : ℕ) : Type 0 where
    pub pair : Stored K V
    pub gained : state ≡ Some (names.Pair pair)
    pub stands : named ((state_of log).slot t x) ≡ Some pair
    pub number : pair_of found ≡ pair.index
    pub placed : IsPlaced b (Some name) (names.Pair pair)

  pub slot_told : (t x : ℕ) → IsRead eq hash b (Slot t x) found log state → (kind_of found ≡ kinds.Empty → ⊥) → (kind_of found ≡ kinds.Closed → ⊥)
      → IsSlotPair t x
  slot_told t x r m n =
      let c = names_some (setting_of eq (hash b.hasher) b.mode b.limit log) (coding_of (hash b.hasher)) hashed.coding ((state_of log).slot t x) found
      r.is m n in
      let p = c.0 in record {
        pair = p;
        gained = r.state_is ∙ ap (λ (o : Option (Stored K V)). Some (pair_named o)) c.1;
        stands = c.1;
        number = c.2;
        placed = r.lawful.placed (names.Pair p) (came_entered (names.Pair p) log
            (pair_came (setting_of eq (hash b.hasher) b.mode b.limit log) (steps_of log) r.lawful.allowed p t x c.1));
      }

-- the key of a slot's word, in a table that has come
pub slot_key : {K V S : Type 0} (log : List (Event K V S)) (t x k : ℕ) (sheet : Sheet) → IsTable log t sheet → slice_get sheet.slots x ≡ Some k
    → key_at (steps_of log) (Slot t x) ≡ Some k
slot_key log t x k sheet h e = ap (in_table (λ s. slice_get s.slots x)) h.1 ∙ (ap (λ (s : Sheet). slice_get s.slots x) h.2 ∙ e)

-- a table that has come has words of the book with its name
pub table_book : {K V S : Type 0} (eq : K → K → Bool) (hash : S → K → ℕ) (b : Begun K V S) (log : List (Event K V S)) (name : Book)
    → IsLawfulLog eq hash b log → name_in log ≡ Some name → (t : ℕ) (sheet : Sheet) → IsTable log t sheet → sheet.book ≡ name
table_book eq hash b log name l called t sheet h =
    let placed = l.placed (names.Table h.0) (came_entered (names.Table h.0) log (table_came (steps_of log) t h.0 h.1).0) in
    let same : Some name ≡ Some h.0.value.book = sym called ∙ placed.2 in ap (λ (s : Sheet). s.book) (sym h.2) ∙ sym (cc same)

-- a table that has come stays
pub table_since : {K V S : Type 0} (v log : List (Event K V S)) (t : ℕ) (sheet : Sheet) → IsPrefix v log → IsTable v t sheet → IsTable log t sheet
table_since v log t sheet pre h = (
  h.0,
  ap (λ (l : List (Event _ _ _)). table_in (steps_of l) t) (sym pre.1)
      ∙ (ap (λ (es : List (Step _ _)). table_in es t) (steps-append v pre.0) ∙ table_later (steps_of v) (steps_of pre.0) t h.0 h.1),
  h.2,
)

-- the key of the word with the next table's number, in a table that has come
pub next_key : {K V S : Type 0} (log : List (Event K V S)) (t : ℕ) (sheet : Sheet) → IsTable log t sheet → key_at (steps_of log) (Next t) ≡ Some sheet.next
next_key log t sheet h = ap (in_table (λ s. Some s.next)) h.1 ∙ ap (λ (s : Sheet). Some s.next) h.2

one_told : {K V : Type 0} (o : Option (Stored K V)) (p : Stored K V) → pair_named o ≡ names.Pair p → o ≡ Some p
one_told None p e = absurd (cc e)
one_told (Some q) p e = ap (λ z. Some z) (cc e)

module _ {K V S : Type 0} (eq : K → K → Bool) (hash : S → K → ℕ) (b : Begun K V S) (log : List (Event K V S)) (found : ℕ) (state : Option (Named K V))
    (t x : ℕ) (r : IsRead eq hash b (Slot t x) found log state) where
  kind_here : (w : Word (Stored K V)) → (state_of log).slot t x ≡ w → kind_of found ≡ kind w
  kind_here w e = ap kind_of (sym r.is) ∙ (ap
      (λ (z : Word (Stored K V)). kind_of (code (setting_of eq (hash b.hasher) b.mode b.limit log) (coding_of (hash b.hasher)) z)) e
      ∙ code_kind (setting_of eq (hash b.hasher) b.mode b.limit log) (coding_of (hash b.hasher)) w)

  no_pair : (o : Option (Stored K V)) → IsPairOf found state o → (w : Word (Stored K V)) → (state_of log).slot t x ≡ w → named w ≡ None
      → (kind w ≡ kinds.Empty) ⊎ (kind w ≡ kinds.Closed) → named ((state_of log).slot t x) ≡ o
  no_pair o i w e none h = ap named e ∙ (none ∙ sym (i.none (⊎_elim (λ k. inl (kind_here w e ∙ k)) (λ k. inr (kind_here w e ∙ k)) h)))

  a_pair : (o : Option (Stored K V)) → IsPairOf found state o → (w : Word (Stored K V)) → (state_of log).slot t x ≡ w → (p : Stored K V)
      → named w ≡ Some p → (kind w ≡ kinds.Empty → ⊥) → (kind w ≡ kinds.Closed → ⊥) → named ((state_of log).slot t x) ≡ o
  a_pair o i w e p is m n =
      let stands : named ((state_of log).slot t x) ≡ Some p = ap named e ∙ is in
      stands ∙ sym (i.some p (r.state_is ∙ ap (λ (z : Option (Stored K V)). Some (pair_named z)) stands) (λ k. m (sym (kind_here w e) ∙ k))
      (λ k. n (sym (kind_here w e) ∙ k)))

  found_by : (o : Option (Stored K V)) → IsPairOf found state o → (w : Word (Stored K V)) → (state_of log).slot t x ≡ w → named ((state_of log).slot t x) ≡ o
  found_by o i Empty e = no_pair o i Empty e refl (inl refl)
  found_by o i Closed e = no_pair o i Closed e refl (inr refl)
  found_by o i (Live p) e = a_pair o i (Live p) e p refl (λ k. cc k) (λ k. cc k)
  found_by o i (Marked p) e = a_pair o i (Marked p) e p refl (λ k. cc k) (λ k. cc k)
  found_by o i (Copied p) e = a_pair o i (Copied p) e p refl (λ k. cc k) (λ k. cc k)
  found_by o i (Buried p) e = a_pair o i (Buried p) e p refl (λ k. cc k) (λ k. cc k)

  -- and it is the one that the slot names
  pub found_pair : (o : Option (Stored K V)) → IsPairOf found state o → named ((state_of log).slot t x) ≡ o
  found_pair o i = found_by o i ((state_of log).slot t x) refl

  -- so is the pair that was returned
  pub told_pair : (p : Stored K V) → state ≡ Some (names.Pair p) → named ((state_of log).slot t x) ≡ Some p
  told_pair p e = one_told (named ((state_of log).slot t x)) p (cc (sym r.state_is ∙ e))

module _ {K V S : Type 0} (eq : K → K → Bool) (hash : S → K → ℕ) (b : Begun K V S) (log : List (Event K V S))
    (hashed : IsHashed (setting_of eq (hash b.hasher) b.mode b.limit log) (coding_of (hash b.hasher))) (name : Book)
    (called : name_in log ≡ Some name) (found : ℕ) (state : Option (Named K V)) (t x : ℕ) (r : IsRead eq hash b (Slot t x) found log state) where
  -- the pair of a slot's word may be taken
  pub names_pair : NamesPair found state
  names_pair m n = let s = slot_told eq hash b log hashed name called found state t x r m n in (s.pair, s.gained, s.number)

  -- and it is stored in the book's arenas
  pub found_placed : (o : Option (Stored K V)) → named ((state_of log).slot t x) ≡ o → IsPlaced b (Some name) (pair_named o)
  found_placed None e = tt
  found_placed (Some p) e = r.lawful.placed (names.Pair p)
      (came_entered (names.Pair p) log (pair_came (setting_of eq (hash b.hasher) b.mode b.limit log) (steps_of log) r.lawful.allowed p t x e))
