-- A table without a next one has no pair that is being copied.
use Rattle.std.proofs.Common.{◌≡◌, ℕ, ◌<◌, Bool, None, Option, Some, List, refl, ◌∙◌, ap, subst, arith}
use Rattle.papaya_words.specs.Table.{TableWords}
use Rattle.papaya_words.specs.Word.{kind_of}
use Rattle.papaya_core_store.specs.declared.store.Mode.{Mode}
use Rattle.papaya_words.specs.declared.word.Kind.TheVariants as kinds
use Rattle.papaya_call.specs.declared.ask.At.TheVariants.{Next, Slot}
use Rattle.papaya_words_law.specs.Code.{IsOfKind}
use Rattle.papaya_words_law.specs.Exchange.{run, start}
use Rattle.papaya_words_law.specs.Invariant.{shut}
use Rattle.papaya_words_law.proofs.CodeViews.{word_of_kind}
use Rattle.papaya_words_law.proofs.OneMap.{sound}
use Rattle.papaya_core_store.specs.Store.{StoreState}
use Rattle.papaya_core_store.specs.Tables.{table_of, word_at, word_in}
use Rattle.papaya_core_timeline.specs.Kept.{IsLawfulCore, coding_of, low, setting_of}
use Rattle.papaya_core_timeline.specs.declared.seat.Seat.{Seat}
use Rattle.papaya_core_timeline.proofs.KeptSettings.{IsLawfulKeys, tables_hashed}
use Rattle.papaya_seq.specs.Map.{next_in, next_of}

-- the next table's number is the word that is there
pub next_is : (tables : List TableWords) (t : ℕ) → word_in (λ v. v.next) (table_of tables t) ≡ next_in (table_of tables t)
next_is tables t = by_table (table_of tables t)
  where
    by_table : (o : Option TableWords) → word_in (λ v. v.next) o ≡ next_in o
    by_table None = refl
    by_table (Some v) = refl

-- while no pairs are being moved, no table comes after the root
pub last_next : {K V S : Type 0} (store : StoreState K V S) → next_of store ≡ 0 → word_at store.words (Next store.words.root) ≡ 0
last_next store last = next_is store.words.tables store.words.root ∙ last

-- no pair is marked in a table without a next one
pub unmarked : {K V S A : Type 0} (eq : K → K → Bool) (hash : K → ℕ) (callers : List (Seat K V A)) (mode : Mode) (store : StoreState K V S)
    → IsLawfulKeys eq hash → IsLawfulCore eq hash store callers mode
    → (t : ℕ) → word_at store.words (Next t) ≡ 0 → (i : ℕ) → kind_of (word_at store.words (Slot t i)) ≡ kinds.Marked → ⊥
unmarked {K} {V} {S} {A} eq hash callers mode store keys lawful t last i marked =
    let (es, (call_traces, kept)) = lawful.law in
    let setting = setting_of {V = V} eq (low hash) mode store.words.tables in
    let now = run es start in
    let of_kind : IsOfKind (kind_of (word_at store.words (Slot t i))) (now.slot t i) = subst (λ n. IsOfKind (kind_of n) (now.slot t i))
    (kept.coded (Slot t i)) (word_of_kind setting (coding_of {V = V} (low hash)) (now.slot t i)) in
    let word : IsOfKind kinds.Marked (now.slot t i) = subst (λ k. IsOfKind k (now.slot t i)) marked of_kind in
    let further : 0 < now.next t = (sound setting (tables_hashed {V = V} eq hash keys mode store.words.tables lawful.core.sizes).lawful es
    kept.allowed).further t i (ap shut word.1) in
    let none : now.next t ≡ 0 = kept.coded (Next t) ∙ last in
    absurd (omega (arith, further, none))
