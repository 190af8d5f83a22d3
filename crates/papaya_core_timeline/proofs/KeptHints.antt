-- The hints in tables: the steps that write them, and the steps that leave them as they are.
use Rattle.std.proofs.Common.{◌≡◌, ℕ, zero, suc, ◌-◌, ◌==◌, Bool, true, false, cond, List, [], ◌∷◌}
use Rattle.std.proofs.Common.{◌++◌, length, slice_get, slice_set, slice_index, nat_lt, replicate}
use Rattle.std.proofs.Common.{Option, Some, None, ◌⊎◌, inl, inr, refl, sym, ◌∙◌, ap, subst}
use Rattle.std.proofs.Common.{length-set}
use Rattle.papaya_words.specs.Table.{TableWords, new_table, noted}
use Rattle.papaya_call.specs.declared.ask.At.{At}
use Rattle.papaya_call.specs.declared.ask.At.TheVariants.{Root, Next, Aborted, Done, Slot, Made}
use Rattle.papaya_words_law.specs.Code.{Coding}
use Rattle.papaya_words_law.specs.Exchange.{Setting, State}
use Rattle.papaya_words_law.specs.Hints.{IsHint}
use Rattle.papaya_core_store.specs.Tables.{Tables, hint_at, hint_in, hinted, note, put, slot_hint, table_of, word_at, word_in, written}
use Rattle.papaya_core_timeline.proofs.CoreLemmas.{cases_same}
use Rattle.papaya_core_timeline.proofs.KeptTables.{HasMoreTables, IsPlaced, done-written, grown-same}
use Rattle.papaya_core_timeline.proofs.KeptTables.{index-zeros, swapped-grown, swapped-here}
use Rattle.papaya_core_timeline.proofs.KeptTables.{swapped-left, swapped-other, table_at, table_there}
use Rattle.papaya_core_timeline.proofs.KeptTables.{word-grown, written-left}

-- each hint is as it was, or is one that may be there
abbrev pub KeepsHints : {K P : Type 0} → Setting K P → Coding K P → State P → Tables → Tables → Type 0
KeepsHints g c s w w' = (n i : ℕ) → (hint_at w' n i ≡ hint_at w n i) ⊎ IsHint g c s n i (hint_at w' n i)

-- an item of a list of numbers of which one was set
set-or : (xs : List ℕ) (k y i : ℕ) → (slice_index (slice_set xs k y) i ≡ slice_index xs i) ⊎ ((i ≡ k) × (slice_index (slice_set xs k y) i ≡ y))
set-or [] k y i = inl refl
set-or (a ∷ xs) zero y zero = inr (refl, refl)
set-or (a ∷ xs) zero y (suc i) = inl refl
set-or (a ∷ xs) (suc k) y zero = inl refl
set-or (a ∷ xs) (suc k) y (suc i) = elim (set-or xs k y i) [ inl e ↦ inl e | inr (same, e) ↦ inr (ap suc same, e) ]

noted-or : (hints : List ℕ) (i hint y : ℕ) → (slice_index (noted hints i hint) y ≡ slice_index hints y)
    ⊎ ((y ≡ i) × (slice_index (noted hints i hint) y ≡ hint))
noted-or hints i hint y = elim (slice_index hints i == 0)
    as (λ b. (slice_index (cond b (slice_set hints i hint) hints) y ≡ slice_index hints y)
    ⊎ ((y ≡ i) × (slice_index (cond b (slice_set hints i hint) hints) y ≡ hint))) [ true ↦ set-or hints i hint y | false ↦ inl refl ]

-- the table whose hints were written
module _ (t : TableWords) (i hint : ℕ) where
  -- all but its hints is as it was
  pub hinted-same : {A : Type 0} (read : TableWords → A) → read (record t { hints = noted t.hints i hint }) ≡ read t → read (hinted t i hint) ≡ read t
  hinted-same read same = elim (nat_lt i (length t.slots)) as (λ b. read (cond b (record t { hints = noted t.hints i hint }) t) ≡ read t)
      [ true ↦ same | false ↦ refl ]

  within-or : (y : ℕ) → (slot_hint (record t { hints = noted t.hints i hint }) y ≡ slot_hint t y)
      ⊎ ((y ≡ i) × (slot_hint (record t { hints = noted t.hints i hint }) y ≡ hint))
  within-or y = elim (nat_lt y (length t.slots))
      as (λ b. (cond b (slice_index (noted t.hints i hint) y) 0 ≡ cond b (slice_index t.hints y) 0)
      ⊎ ((y ≡ i) × (cond b (slice_index (noted t.hints i hint) y) 0 ≡ hint))) [ true ↦ noted-or t.hints i hint y | false ↦ inl refl ]

  hinted-or : (y : ℕ) → (slot_hint (hinted t i hint) y ≡ slot_hint t y) ⊎ ((y ≡ i) × (slot_hint (hinted t i hint) y ≡ hint))
  hinted-or y = elim (nat_lt i (length t.slots))
      as (λ b. (slot_hint (cond b (record t { hints = noted t.hints i hint }) t) y ≡ slot_hint t y)
      ⊎ ((y ≡ i) × (slot_hint (cond b (record t { hints = noted t.hints i hint }) t) y ≡ hint))) [ true ↦ within-or y | false ↦ inl refl ]

-- a hint is written
module _ (w : Tables) (n i hint : ℕ) where
  -- to a table that is there
  note-there : (t : TableWords) → table_of w.tables n ≡ Some t → note w n i hint ≡ record w { tables = slice_set w.tables (n - 1) (hinted t i hint) }
  note-there t there =
      let e = table_there w.tables n t there in
      ap (λ b. cond b w (record w { tables = hint_in (slice_get w.tables (n - 1)) w.tables (n - 1) i hint })) e.0
      ∙ ap (λ o. record w { tables = hint_in o w.tables (n - 1) i hint }) e.1

  -- or there is none
  note-none : table_of w.tables n ≡ None → note w n i hint ≡ w
  note-none none = go (n == 0) refl
    where
      go : (b : Bool) → (n == 0) ≡ b → note w n i hint ≡ w
      go true z = ap (λ b. cond b w (record w { tables = hint_in (slice_get w.tables (n - 1)) w.tables (n - 1) i hint })) z
      go false z =
          ap (λ b. cond b w (record w { tables = hint_in (slice_get w.tables (n - 1)) w.tables (n - 1) i hint })) z
          ∙ ap (λ o. record w { tables = hint_in o w.tables (n - 1) i hint }) (sym (table_at w.tables n z) ∙ none)

  -- each word stays
  there-words : (t : TableWords) → table_of w.tables n ≡ Some t → (at : At)
      → word_at (record w { tables = slice_set w.tables (n - 1) (hinted t i hint) }) at ≡ word_at w at
  there-words t there Root = refl
  there-words t there Made = refl
  there-words t there (Next u) = swapped-left w n t (hinted t i hint) there (λ v. v.next) (hinted-same t i hint (λ v. v.next) refl) u
  there-words t there (Aborted u) = swapped-left w n t (hinted t i hint) there (λ v. v.aborted) (hinted-same t i hint (λ v. v.aborted) refl) u
  there-words t there (Done u c) = swapped-left w n t (hinted t i hint) there (λ v. slice_index v.done c)
      (hinted-same t i hint (λ v. slice_index v.done c) refl) u
  there-words t there (Slot u y) = swapped-left w n t (hinted t i hint) there (λ v. slice_index v.slots y)
      (hinted-same t i hint (λ v. slice_index v.slots y) refl) u

  -- a fact that holds both if there is such a table and if there is none
  pub by-table : (Is : Tables → Type 0) → Is w
      → ((t : TableWords) → table_of w.tables n ≡ Some t → Is (record w { tables = slice_set w.tables (n - 1) (hinted t i hint) })) → Is (note w n i hint)
  by-table Is none there = go (table_of w.tables n) refl
    where
      go : (o : Option TableWords) → table_of w.tables n ≡ o → Is (note w n i hint)
      go None e = subst Is (sym (note-none e)) none
      go (Some t) e = subst Is (sym (note-there t e)) (there t e)

  pub noted-words : (at : At) → word_at (note w n i hint) at ≡ word_at w at
  noted-words at = by-table (λ v. word_at v at ≡ word_at w at) refl (λ t there. there-words t there at)

  -- there are as many tables, each as long as it was
  pub noted-many : length (note w n i hint).tables ≡ length w.tables
  noted-many = by-table (λ v. length v.tables ≡ length w.tables) refl (λ t there. length-set w.tables (n - 1) (hinted t i hint))

  pub noted-grown : HasMoreTables w.tables (note w n i hint).tables
  noted-grown = by-table (λ v. HasMoreTables w.tables v.tables) (grown-same w.tables)
      (λ t there. swapped-grown w n t (hinted t i hint) there (hinted-same t i hint (λ v. length v.slots) refl)
      (hinted-same t i hint (λ v. v.limit) refl) (hinted-same t i hint (λ v. length v.done) refl))

  -- and each hint stays, but for the one that is written
  there-hints : (t : TableWords) → table_of w.tables n ≡ Some t → (m y : ℕ)
      → (hint_at (record w { tables = slice_set w.tables (n - 1) (hinted t i hint) }) m y ≡ hint_at w m y)
      ⊎ ((m ≡ n) × (y ≡ i) × (hint_at (record w { tables = slice_set w.tables (n - 1) (hinted t i hint) }) m y ≡ hint))
  there-hints t there m y = elim (cases_same m n) [
    | inl same ↦
        let here = ap (λ u. word_in (λ v. slot_hint v y) (table_of (slice_set w.tables (n - 1) (hinted t i hint)) u)) same
        ∙ ap (word_in (λ v. slot_hint v y)) (swapped-here w n t (hinted t i hint) there) in
        let was = ap (λ u. word_in (λ v. slot_hint v y) (table_of w.tables u)) same ∙ ap (word_in (λ v. slot_hint v y)) there in
        elim (hinted-or t i hint y) [ inl stays ↦ inl (here ∙ stays ∙ sym was) | inr (is, writes) ↦ inr (same, is, here ∙ writes) ]
    | inr differ ↦ inl (ap (word_in (λ v. slot_hint v y)) (swapped-other w n t (hinted t i hint) there m differ))
  ]

  pub noted-hints : (m y : ℕ) → (hint_at (note w n i hint) m y ≡ hint_at w m y) ⊎ ((m ≡ n) × (y ≡ i) × (hint_at (note w n i hint) m y ≡ hint))
  noted-hints m y = by-table (λ v. (hint_at v m y ≡ hint_at w m y) ⊎ ((m ≡ n) × (y ≡ i) × (hint_at v m y ≡ hint))) (inl refl)
      (λ t there. there-hints t there m y)

-- so each hint is true, if the one that is written is
pub noted-keeps : {K P : Type 0} (g : Setting K P) (c : Coding K P) (s : State P) (w : Tables) (n i hint : ℕ) → IsHint g c s n i hint
    → KeepsHints g c s w (note w n i hint)
noted-keeps g c s w n i hint is m y = elim (noted-hints w n i hint m y) [
  | inl stays ↦ inl stays
  | inr (table, slot, writes) ↦ inr (subst (IsHint g c s m y) (sym writes)
      (subst (λ u. IsHint g c s u y hint) (sym table) (subst (λ u. IsHint g c s n u hint) (sym slot) is)))
]

-- a word that is written leaves the hints
written-hint : (n i word : ℕ) (t : TableWords) (y : ℕ) → slot_hint (written (Slot n i) t word) y ≡ slot_hint t y
written-hint n i word t y = elim (nat_lt i (length t.slots))
    as (λ b. slot_hint (cond b (record t { slots = slice_set t.slots i word }) t) y ≡ slot_hint t y)
    [ true ↦ ap (λ l. cond (nat_lt y l) (slice_index t.hints y) 0) (length-set t.slots i word) | false ↦ refl ]

pub placed-hints : (w : Tables) (at : At) (new : ℕ) → IsPlaced w.tables at → (m y : ℕ) → hint_at (put w at new) m y ≡ hint_at w m y
placed-hints w Root new placed m y = refl
placed-hints w Made new placed m y = refl
placed-hints w (Next n) new (t, there) m y = written-left w (Next n) n new t there (λ v. slot_hint v y) refl m
placed-hints w (Aborted n) new (t, there) m y = written-left w (Aborted n) n new t there (λ v. slot_hint v y) refl m
placed-hints w (Done n c) new (t, there, lt) m y = written-left w (Done n c) n new t there (λ v. slot_hint v y)
    (ap (λ (z : TableWords). slot_hint z y) (done-written w n c new t there lt)) m
placed-hints w (Slot n i) new (t, there, lt) m y = written-left w (Slot n i) n new t there (λ v. slot_hint v y) (written-hint n i new t y) m

-- and so does a table that is made
pub made-hints : (w : Tables) (number slots limit chunks : ℕ) (m y : ℕ)
    → hint_at (record w { tables = w.tables ++ new_table number slots limit chunks ∷ [] }) m y ≡ hint_at w m y
made-hints w number slots limit chunks m y = word-grown w number slots limit chunks (λ v. slot_hint v y) none m
  where
    none : slot_hint (new_table number slots limit chunks) y ≡ 0
    none = elim (nat_lt y (length (replicate slots 0))) as (λ b. cond b (slice_index (replicate slots 0) y) 0 ≡ 0) [ true ↦ index-zeros slots y | false ↦ refl ]
