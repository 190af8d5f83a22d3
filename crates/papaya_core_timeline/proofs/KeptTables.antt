-- The words and the sizes of tables after a write, and after a table was made.
use Rattle.std.proofs.Common.{◌≡◌, ◌≢◌, ℕ, zero, suc, ◌+◌, ◌-◌, ◌==◌, ◌<◌, ◌≤◌, Bool, true, false}
use Rattle.std.proofs.Common.{cond, List, [], ◌∷◌, ◌++◌, length, slice_get, slice_set, slice_index}
use Rattle.std.proofs.Common.{replicate, nat_lt, Some, None, ◌⊎◌, inl, inr, ⊎_elim, refl, sym, ◌∙◌}
use Rattle.std.proofs.Common.{ap, subst, arith, length-set, lt-ltb}
use Rattle.std.proofs.lemmas.Option.{slice_get_within}
use Rattle.papaya_words.specs.Table.{TableWords, new_table}
use Rattle.papaya_call.specs.declared.ask.At.{At}
use Rattle.papaya_call.specs.declared.ask.At.TheVariants.{Root, Next, Aborted, Done, Slot, Made}
use Rattle.papaya_core_store.proofs.Logs.{get-append, get-append_last}
use Rattle.papaya_core_store.specs.Tables.{Tables, table_of, word_in, word_at, written, put, put_at, put_in}
use Rattle.papaya_core_timeline.proofs.CallersLemmas.{differs, same_item}
use Rattle.papaya_core_timeline.proofs.CoreLemmas.{cases_same}

-- an item that was set
pub get-set_same : {A : Type 0} (xs : List A) (k : ℕ) (x y : A) → slice_get xs k ≡ Some x → slice_get (slice_set xs k y) k ≡ Some y
get-set_same [] k x y e = let f : None ≡ Some x = e in cc
get-set_same (a ∷ xs) zero x y e = refl
get-set_same (a ∷ xs) (suc k) x y e = get-set_same xs k x y e

-- the other items of the list
pub get-set_other : {A : Type 0} (xs : List A) (k i : ℕ) (y : A) → i ≢ k → slice_get (slice_set xs k y) i ≡ slice_get xs i
get-set_other [] k i y h = refl
get-set_other (a ∷ xs) zero zero y h = absurd (h refl)
get-set_other (a ∷ xs) zero (suc i) y h = refl
get-set_other (a ∷ xs) (suc k) zero y h = refl
get-set_other (a ∷ xs) (suc k) (suc i) y h = get-set_other xs k i y (λ e. h (ap suc e))

-- a word that was set, and the others
pub index-set_same : (xs : List ℕ) (k y : ℕ) → k < length xs → slice_index (slice_set xs k y) k ≡ y
index-set_same [] k y lt = absurd (omega arith)
index-set_same (a ∷ xs) zero y lt = refl
index-set_same (a ∷ xs) (suc k) y lt = index-set_same xs k y (omega arith)

-- the other words
pub index-set_other : (xs : List ℕ) (k i y : ℕ) → i ≢ k → slice_index (slice_set xs k y) i ≡ slice_index xs i
index-set_other [] k i y h = refl
index-set_other (a ∷ xs) zero zero y h = absurd (h refl)
index-set_other (a ∷ xs) zero (suc i) y h = refl
index-set_other (a ∷ xs) (suc k) zero y h = refl
index-set_other (a ∷ xs) (suc k) (suc i) y h = index-set_other xs k i y (λ e. h (ap suc e))

-- each word of a new table is 0
pub index-zeros : (n i : ℕ) → slice_index (replicate n 0) i ≡ 0
index-zeros zero i = refl
index-zeros (suc n) zero = refl
index-zeros (suc n) (suc i) = index-zeros n i

-- a table with a number above 0 is that of a place in the list
pub table_there : (tables : List TableWords) (n : ℕ) (t : TableWords) → table_of tables n ≡ Some t → ((n == 0) ≡ false) × (slice_get tables (n - 1) ≡ Some t)
table_there tables n t e = go (n == 0) refl
  where
    go : (b : Bool) → (n == 0) ≡ b → ((n == 0) ≡ false) × (slice_get tables (n - 1) ≡ Some t)
    go true z = let f : None ≡ Some t = sym (ap (λ b. cond b None (slice_get tables (n - 1))) z) ∙ e in cc
    go false z = (z, sym (ap (λ b. cond b None (slice_get tables (n - 1))) z) ∙ e)

-- so its number is no greater than the number of tables
pub table_low : (tables : List TableWords) (n : ℕ) (t : TableWords) → table_of tables n ≡ Some t → n ≤ length tables
table_low tables n t e = let at = table_there tables n t e in let within = slice_get_within tables (n - 1) t at.1 in omega (arith, within)

-- the table of a number above 0
pub table_at : (tables : List TableWords) (n : ℕ) → (n == 0) ≡ false → table_of tables n ≡ slice_get tables (n - 1)
table_at tables n z = ap (λ b. cond b None (slice_get tables (n - 1))) z

-- Each table is still there, as long as it was.
abbrev pub HasMoreTables : List TableWords → List TableWords → Type 0
HasMoreTables tables tables' = (n : ℕ) (t : TableWords) → table_of tables n ≡ Some t → (t' : TableWords) × (table_of tables' n ≡ Some t')
    × (length t'.slots ≡ length t.slots) × (t'.limit ≡ t.limit) × (length t'.done ≡ length t.done)

-- tables that stay as they are
pub grown-same : (tables : List TableWords) → HasMoreTables tables tables
grown-same tables n t e = (t, e, refl, refl, refl)

-- each table is as long after a write as before it
written-size : (at : At) (t : TableWords) (word : ℕ) → (length (written at t word).slots ≡ length t.slots) × ((written at t word).limit ≡ t.limit)
    × (length (written at t word).done ≡ length t.done)
written-size Root t word = (refl, refl, refl)
written-size (Next n) t word = (refl, refl, refl)
written-size (Aborted n) t word = (refl, refl, refl)
written-size (Done n chunk) t word = elim (nat_lt chunk (length t.done))
    as (λ b. (length (cond b (record t { done = slice_set t.done chunk word }) t).slots ≡ length t.slots)
    × ((cond b (record t { done = slice_set t.done chunk word }) t).limit ≡ t.limit)
    × (length (cond b (record t { done = slice_set t.done chunk word }) t).done ≡ length t.done))
    [ true ↦ (refl, refl, length-set t.done chunk word) | false ↦ (refl, refl, refl) ]
written-size (Slot n i) t word = elim (nat_lt i (length t.slots))
    as (λ b. (length (cond b (record t { slots = slice_set t.slots i word }) t).slots ≡ length t.slots)
    × ((cond b (record t { slots = slice_set t.slots i word }) t).limit ≡ t.limit)
    × (length (cond b (record t { slots = slice_set t.slots i word }) t).done ≡ length t.done))
    [ true ↦ (length-set t.slots i word, refl, refl) | false ↦ (refl, refl, refl) ]
written-size Made t word = (refl, refl, refl)

-- a table that is there is replaced with another
module _ (w : Tables) (n : ℕ) (t t' : TableWords) (there : table_of w.tables n ≡ Some t) where
  -- the tables then
  abbrev swapped : List TableWords
  swapped = slice_set w.tables (n - 1) t'

  -- the table that came
  pub swapped-here : table_of swapped n ≡ Some t'
  swapped-here = let e = table_there w.tables n t there in table_at swapped n e.0 ∙ get-set_same w.tables (n - 1) t t' e.1

  -- the others
  pub swapped-other : (u : ℕ) → u ≢ n → table_of swapped u ≡ table_of w.tables u
  swapped-other u differ = go (u == 0) refl
    where
      some : n ≢ 0
      some z = let f : true ≡ false = sym (eqb-same n z) ∙ (table_there w.tables n t there).0 in cc
        where
          eqb-same : (m : ℕ) → m ≡ 0 → (m == 0) ≡ true
          eqb-same m e = ap (λ y. y == 0) e

      go : (b : Bool) → (u == 0) ≡ b → table_of swapped u ≡ table_of w.tables u
      go true z = ap (λ b. cond b None (slice_get swapped (u - 1))) z ∙ sym (ap (λ b. cond b None (slice_get w.tables (u - 1))) z)
      go false z = table_at swapped u z ∙ get-set_other w.tables (n - 1) (u - 1) t' (λ e. differ (same_number e)) ∙ sym (table_at w.tables u z)
        where
          same_number : u - 1 ≡ n - 1 → u ≡ n
          same_number e =
              let not_zero : u ≢ 0 = λ y. let f : true ≡ false = sym (ap (λ v. v == 0) y) ∙ z in cc in
              let a : n ≢ 0 = some in
              omega arith

  -- if the new table is as long, each table is as long as it was
  pub swapped-grown : length t'.slots ≡ length t.slots → t'.limit ≡ t.limit → length t'.done ≡ length t.done → HasMoreTables w.tables swapped
  swapped-grown slots limit done u v e = ⊎_elim
      (λ (same : u ≡ n).
      let f : t ≡ v = same_item t v (sym there ∙ (ap (table_of w.tables) (sym same) ∙ e)) in (
        t',
        ap (table_of swapped) same ∙ swapped-here,
        slots ∙ ap (λ (y : TableWords). length y.slots) f,
        limit
            ∙ ap (λ (y : TableWords). y.limit) f,
        done ∙ ap (λ (y : TableWords). length y.done) f,
      ))
      (λ (differ : u ≢ n). (v, swapped-other u differ ∙ e, refl, refl, refl))
      (cases_same u n)

  -- a fact that both tables share
  pub swapped-left : (read : TableWords → ℕ) → read t' ≡ read t → (u : ℕ) → word_in read (table_of swapped u) ≡ word_in read (table_of w.tables u)
  swapped-left read same u = ⊎_elim
      (λ (e : u ≡ n). ap (λ y. word_in read (table_of swapped y)) e ∙ ap (word_in read) swapped-here ∙ same ∙ sym (ap (word_in read) there)
      ∙ ap (λ y. word_in read (table_of w.tables y)) (sym e))
      (λ (differ : u ≢ n). ap (word_in read) (swapped-other u differ))
      (cases_same u n)

-- a write to a table that is there
module _ (w : Tables) (at : At) (n word : ℕ) (t : TableWords) (there : table_of w.tables n ≡ Some t) where
  -- the tables after it
  pub put-table : put_at at n w word ≡ record w { tables = slice_set w.tables (n - 1) (written at t word) }
  put-table =
      let e = table_there w.tables n t there in
      ap (λ b. cond b w (record w { tables = put_in at (slice_get w.tables (n - 1)) w.tables (n - 1) word })) e.0
      ∙ ap (λ o. record w { tables = put_in at o w.tables (n - 1) word }) e.1

  -- they are as many
  put-many : length (put_at at n w word).tables ≡ length w.tables
  put-many = ap (λ (v : Tables). length v.tables) put-table ∙ length-set w.tables (n - 1) (written at t word)

  -- no root is written
  pub written-root : (put_at at n w word).root ≡ w.root
  written-root = ap (λ (v : Tables). v.root) put-table

  -- nor the count of numbers for pairs
  pub written-made : (put_at at n w word).made ≡ w.made
  written-made = ap (λ (v : Tables). v.made) put-table

  -- the table that was written
  pub written-here : table_of (put_at at n w word).tables n ≡ Some (written at t word)
  written-here = ap (λ (v : Tables). table_of v.tables n) put-table ∙ swapped-here w n t (written at t word) there

  -- the others
  pub written-other : (u : ℕ) → u ≢ n → table_of (put_at at n w word).tables u ≡ table_of w.tables u
  written-other u differ = ap (λ (v : Tables). table_of v.tables u) put-table ∙ swapped-other w n t (written at t word) there u differ

  -- each table is as long as it was
  pub written-grown : HasMoreTables w.tables (put_at at n w word).tables
  written-grown =
      let size = written-size at t word in
      subst (λ (v : Tables). HasMoreTables w.tables v.tables) (sym put-table) (swapped-grown w n t (written at t word) there size.0 size.1 size.2)

  -- a word that the write leaves
  pub written-left : (read : TableWords → ℕ) → read (written at t word) ≡ read t → (u : ℕ)
      → word_in read (table_of (put_at at n w word).tables u) ≡ word_in read (table_of w.tables u)
  written-left read same u = ap (λ (v : Tables). word_in read (table_of v.tables u)) put-table ∙ swapped-left w n t (written at t word) there read same u

  -- and every word of another table
  pub written-elsewhere : (read : TableWords → ℕ) (u : ℕ) → u ≢ n → word_in read (table_of (put_at at n w word).tables u) ≡ word_in read (table_of w.tables u)
  written-elsewhere read u differ = ap (word_in read) (written-other u differ)

-- a write to a slot that is there
module _ (w : Tables) (n i word : ℕ) (t : TableWords) (there : table_of w.tables n ≡ Some t) (lt : i < length t.slots) where
  -- the table after it
  slot-written : written (Slot n i) t word ≡ record t { slots = slice_set t.slots i word }
  slot-written = ap (λ b. cond b (record t { slots = slice_set t.slots i word }) t) (lt-ltb i (length t.slots) lt)

  -- each table is as long as it was
  pub put-grown : HasMoreTables w.tables (put w (Slot n i) word).tables
  put-grown = written-grown w (Slot n i) n word t there

  -- the word that was written
  pub word-here : word_at (put w (Slot n i) word) (Slot n i) ≡ word
  word-here = ap (word_in (λ v. slice_index v.slots i)) (written-here w (Slot n i) n word t there)
      ∙ ap (λ (y : TableWords). slice_index y.slots i) slot-written ∙ index-set_same t.slots i word lt

  -- every other word is as it was
  pub word-other : (other : At) → (other ≡ Slot n i → ⊥) → word_at (put w (Slot n i) word) other ≡ word_at w other
  word-other Root differ = written-root w (Slot n i) n word t there
  word-other Made differ = written-made w (Slot n i) n word t there
  word-other (Next u) differ = written-left w (Slot n i) n word t there (λ v. v.next) (ap (λ (y : TableWords). y.next) slot-written) u
  word-other (Aborted u) differ = written-left w (Slot n i) n word t there (λ v. v.aborted) (ap (λ (y : TableWords). y.aborted) slot-written) u
  word-other (Done u c) differ = written-left w (Slot n i) n word t there (λ v. slice_index v.done c)
      (ap (λ (y : TableWords). slice_index y.done c) slot-written) u
  word-other (Slot u y) differ = ⊎_elim
      (λ (e : u ≡ n).
      ap (λ z. word_in (λ v. slice_index v.slots y) (table_of (put w (Slot n i) word).tables z)) e
      ∙ ap (word_in (λ v. slice_index v.slots y)) (written-here w (Slot n i) n word t there)
      ∙ ap (λ (v : TableWords). slice_index v.slots y) slot-written
      ∙ index-set_other t.slots i y word (λ same. differ (ap (λ z. Slot z y) e ∙ ap (Slot n) same))
      ∙ sym (ap (word_in (λ v. slice_index v.slots y)) there) ∙ ap (λ z. word_in (λ v. slice_index v.slots y) (table_of w.tables z)) (sym e))
      (λ (other_table : u ≢ n). written-elsewhere w (Slot n i) n word t there (λ v. slice_index v.slots y) u other_table)
      (cases_same u n)

-- a write to the word of a chunk that is there
module _ (w : Tables) (n c word : ℕ) (t : TableWords) (there : table_of w.tables n ≡ Some t) (lt : c < length t.done) where
  -- the table after it
  pub done-written : written (Done n c) t word ≡ record t { done = slice_set t.done c word }
  done-written = ap (λ b. cond b (record t { done = slice_set t.done c word }) t) (lt-ltb c (length t.done) lt)

  -- the word that was written
  done-here : word_at (put w (Done n c) word) (Done n c) ≡ word
  done-here = ap (word_in (λ v. slice_index v.done c)) (written-here w (Done n c) n word t there)
      ∙ ap (λ (y : TableWords). slice_index y.done c) done-written ∙ index-set_same t.done c word lt

  -- every other word is as it was
  done-other : (other : At) → (other ≡ Done n c → ⊥) → word_at (put w (Done n c) word) other ≡ word_at w other
  done-other Root differ = written-root w (Done n c) n word t there
  done-other Made differ = written-made w (Done n c) n word t there
  done-other (Next u) differ = written-left w (Done n c) n word t there (λ v. v.next) (ap (λ (y : TableWords). y.next) done-written) u
  done-other (Aborted u) differ = written-left w (Done n c) n word t there (λ v. v.aborted) (ap (λ (y : TableWords). y.aborted) done-written) u
  done-other (Slot u y) differ = written-left w (Done n c) n word t there (λ v. slice_index v.slots y)
      (ap (λ (z : TableWords). slice_index z.slots y) done-written) u
  done-other (Done u d) differ = ⊎_elim
      (λ (e : u ≡ n).
      ap (λ z. word_in (λ v. slice_index v.done d) (table_of (put w (Done n c) word).tables z)) e
      ∙ ap (word_in (λ v. slice_index v.done d)) (written-here w (Done n c) n word t there)
      ∙ ap (λ (v : TableWords). slice_index v.done d) done-written
      ∙ index-set_other t.done c d word (λ same. differ (ap (λ z. Done z d) e ∙ ap (Done n) same))
      ∙ sym (ap (word_in (λ v. slice_index v.done d)) there) ∙ ap (λ z. word_in (λ v. slice_index v.done d) (table_of w.tables z)) (sym e))
      (λ (other_table : u ≢ n). written-elsewhere w (Done n c) n word t there (λ v. slice_index v.done d) u other_table)
      (cases_same u n)

-- two places are the same or they differ
pub cases_place : (a b : At) → (a ≡ b) ⊎ (a ≡ b → ⊥)
cases_place Root Root = inl refl
cases_place Made Made = inl refl
cases_place (Next m) (Next n) = elim (cases_same m n) [ inl same ↦ inl (ap Next same) | inr differ ↦ inr (λ e. differ cc) ]
cases_place (Aborted m) (Aborted n) = elim (cases_same m n) [ inl same ↦ inl (ap Aborted same) | inr differ ↦ inr (λ e. differ cc) ]
cases_place (Done m c) (Done n d) = elim (cases_same m n) [
  | inl table ↦ elim (cases_same c d) [ inl chunk ↦ inl (ap (λ z. Done z c) table ∙ ap (Done n) chunk) | inr differ ↦ inr (λ e. differ cc) ]
  | inr differ ↦ inr (λ e. differ cc)
]
cases_place (Slot m x) (Slot n y) = elim (cases_same m n) [
  | inl table ↦ elim (cases_same x y) [ inl slot ↦ inl (ap (λ z. Slot z x) table ∙ ap (Slot n) slot) | inr differ ↦ inr (λ e. differ cc) ]
  | inr differ ↦ inr (λ e. differ cc)
]
cases_place a b = inr (λ e. absurd cc)

-- a word that is written is the root, the count of numbers, or a word of a table that is there
abbrev pub IsPlaced : List TableWords → At → Type 0
IsPlaced tables Root = Unit {0}
IsPlaced tables Made = Unit {0}
IsPlaced tables (Slot n i) = (t : TableWords) × (table_of tables n ≡ Some t) × (i < length t.slots)
IsPlaced tables (Next n) = (t : TableWords) × (table_of tables n ≡ Some t)
IsPlaced tables (Aborted n) = (t : TableWords) × (table_of tables n ≡ Some t)
IsPlaced tables (Done n chunk) = (t : TableWords) × (table_of tables n ≡ Some t) × (chunk < length t.done)

-- each table stays as long as it was
pub placed-grown : (w : Tables) (at : At) (new : ℕ) → IsPlaced w.tables at → HasMoreTables w.tables (put w at new).tables
placed-grown w Root new placed = grown-same w.tables
placed-grown w Made new placed = grown-same w.tables
placed-grown w (Slot n i) new (t, there, lt) = put-grown w n i new t there lt
placed-grown w (Next n) new (t, there) = written-grown w (Next n) n new t there
placed-grown w (Aborted n) new (t, there) = written-grown w (Aborted n) n new t there
placed-grown w (Done n chunk) new (t, there, lt) = written-grown w (Done n chunk) n new t there

-- and there are as many
pub placed-many : (w : Tables) (at : At) (new : ℕ) → IsPlaced w.tables at → length (put w at new).tables ≡ length w.tables
placed-many w Root new placed = refl
placed-many w Made new placed = refl
placed-many w (Slot n i) new (t, there, lt) = put-many w (Slot n i) n new t there
placed-many w (Next n) new (t, there) = put-many w (Next n) n new t there
placed-many w (Aborted n) new (t, there) = put-many w (Aborted n) n new t there
placed-many w (Done n chunk) new (t, there, lt) = put-many w (Done n chunk) n new t there

-- the word is written
pub placed-here : (w : Tables) (at : At) (new : ℕ) → IsPlaced w.tables at → word_at (put w at new) at ≡ new
placed-here w Root new placed = refl
placed-here w Made new placed = refl
placed-here w (Slot n i) new (t, there, lt) = word-here w n i new t there lt
placed-here w (Next n) new (t, there) = ap (word_in (λ v. v.next)) (written-here w (Next n) n new t there)
placed-here w (Aborted n) new (t, there) = ap (word_in (λ v. v.aborted)) (written-here w (Aborted n) n new t there)
placed-here w (Done n chunk) new (t, there, lt) = done-here w n chunk new t there lt

-- and no other is
pub placed-other : (w : Tables) (at : At) (new : ℕ) → IsPlaced w.tables at → (other : At) → (other ≡ at → ⊥) → word_at (put w at new) other ≡ word_at w other
placed-other w Root new placed Root differ = absurd (differ refl)
placed-other w Root new placed (Next u) differ = refl
placed-other w Root new placed (Aborted u) differ = refl
placed-other w Root new placed (Done u c) differ = refl
placed-other w Root new placed (Slot u y) differ = refl
placed-other w Root new placed Made differ = refl
placed-other w Made new placed Root differ = refl
placed-other w Made new placed (Next u) differ = refl
placed-other w Made new placed (Aborted u) differ = refl
placed-other w Made new placed (Done u c) differ = refl
placed-other w Made new placed (Slot u y) differ = refl
placed-other w Made new placed Made differ = absurd (differ refl)
placed-other w (Slot n i) new (t, there, lt) other differ = word-other w n i new t there lt other differ
placed-other w (Next n) new (t, there) Root differ = written-root w (Next n) n new t there
placed-other w (Next n) new (t, there) Made differ = written-made w (Next n) n new t there
placed-other w (Next n) new (t, there) (Next u) differ = written-elsewhere w (Next n) n new t there (λ v. v.next) u (λ e. differ (ap Next e))
placed-other w (Next n) new (t, there) (Aborted u) differ = written-left w (Next n) n new t there (λ v. v.aborted) refl u
placed-other w (Next n) new (t, there) (Done u c) differ = written-left w (Next n) n new t there (λ v. slice_index v.done c) refl u
placed-other w (Next n) new (t, there) (Slot u y) differ = written-left w (Next n) n new t there (λ v. slice_index v.slots y) refl u
placed-other w (Aborted n) new (t, there) Root differ = written-root w (Aborted n) n new t there
placed-other w (Aborted n) new (t, there) Made differ = written-made w (Aborted n) n new t there
placed-other w (Aborted n) new (t, there) (Next u) differ = written-left w (Aborted n) n new t there (λ v. v.next) refl u
placed-other w (Aborted n) new (t, there) (Aborted u) differ = written-elsewhere w (Aborted n) n new t there (λ v. v.aborted) u (λ e. differ (ap Aborted e))
placed-other w (Aborted n) new (t, there) (Done u c) differ = written-left w (Aborted n) n new t there (λ v. slice_index v.done c) refl u
placed-other w (Aborted n) new (t, there) (Slot u y) differ = written-left w (Aborted n) n new t there (λ v. slice_index v.slots y) refl u
placed-other w (Done n chunk) new (t, there, lt) other differ = done-other w n chunk new t there lt other differ

-- a word of an added table, if it is 0
word-added : (read : TableWords → ℕ) (tables : List TableWords) (new : TableWords) → read new ≡ 0 → (i : ℕ)
    → word_in read (slice_get (tables ++ new ∷ []) i) ≡ word_in read (slice_get tables i)
word-added read [] new none zero = none
word-added read [] new none (suc i) = refl
word-added read (t ∷ tables) new none zero = refl
word-added read (t ∷ tables) new none (suc i) = word-added read tables new none i

module _ (w : Tables) (number slots limit chunks : ℕ) where
  -- the tables with a new one
  abbrev added : Tables
  added = record w { tables = w.tables ++ new_table number slots limit chunks ∷ [] }

  -- a word that is 0 in the new table
  pub word-grown : (read : TableWords → ℕ) → read (new_table number slots limit chunks) ≡ 0 → (u : ℕ)
      → word_in read (table_of added.tables u) ≡ word_in read (table_of w.tables u)
  word-grown read none u = go (u == 0)
    where
      go : (b : Bool) → word_in read (cond b None (slice_get added.tables (u - 1))) ≡ word_in read (cond b None (slice_get w.tables (u - 1)))
      go true = refl
      go false = word-added read w.tables (new_table number slots limit chunks) none (u - 1)

  -- a table that is made changes no word
  pub word-made : (at : At) → word_at added at ≡ word_at w at
  word-made Root = refl
  word-made Made = refl
  word-made (Next u) = word-grown (λ v. v.next) refl u
  word-made (Aborted u) = word-grown (λ v. v.aborted) refl u
  word-made (Done u c) = word-grown (λ v. slice_index v.done c) (index-zeros chunks c) u
  word-made (Slot u y) = word-grown (λ v. slice_index v.slots y) (index-zeros slots y) u

  -- the tables before it stay
  pub made-grown : HasMoreTables w.tables added.tables
  made-grown n t e =
      let at = table_there w.tables n t e in
      (t, table_at added.tables n at.0 ∙ get-append w.tables (new_table number slots limit chunks ∷ []) (n - 1) t at.1, refl, refl, refl)

  -- and it is there
  pub made-there : table_of added.tables (length w.tables + 1) ≡ Some (new_table number slots limit chunks)
  made-there =
      let some : (length w.tables + 1 == 0) ≡ false = differs (length w.tables + 1) 0 (λ z. absurd (omega arith)) in
      let last : length w.tables + 1 - 1 ≡ length w.tables = omega arith in
      table_at added.tables (length w.tables + 1) some ∙ ap (slice_get added.tables) last ∙ get-append_last w.tables (new_table number slots limit chunks)
