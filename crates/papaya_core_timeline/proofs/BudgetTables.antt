-- How much of the budget a write of a word and a new table spend, and the greatest amount there is
-- to spend.
use Rattle.std.proofs.Common.{◌≡◌, ℕ, suc, ◌+◌, ◌-◌, ◌^◌, ◌==◌, ◌<◌, ◌≤◌, Bool, true, false, cond}
use Rattle.std.proofs.Common.{List, length, slice_get, slice_set, slice_index, sum_by, take, All}
use Rattle.std.proofs.Common.{Some, refl, sym, ◌∙◌, ap, subst, arith, length-set, length-take}
use Rattle.std.proofs.Common.{lt-ltb}
use Rattle.std.proofs.lemmas.List.Sums.{sum_by-set, sum_by-le}
use Rattle.std.proofs.lemmas.List.{get_or-take}
use Rattle.std.proofs.Math.Nat.{le-min, min-le_left}
use Rattle.std.proofs.Math.Seq.{take-set-lt}
use Rattle.std.proofs.Math.ListN.{get_or}
use Rattle.std.proofs.lemmas.Option.{slice_get_within, get_or_from_slice_get, slice_get-get_or}
use Rattle.papaya_words.specs.Table.{TableWords}
use Rattle.papaya_words.specs.Word.{kind_of}
use Rattle.papaya_words.specs.declared.word.Kind.{Kind}
use Rattle.papaya_words.specs.declared.word.Kind.TheVariants.{Empty, Live, Marked, Copied, Buried, Closed}
use Rattle.papaya_call.specs.declared.ask.At.{At}
use Rattle.papaya_call.specs.declared.ask.At.TheVariants.{Root, Next, Aborted, Done, Slot, Made}
use Rattle.papaya_core_store.specs.Tables.{hinted, note, Tables, table_of, word_in, word_at, written, put, put_at}
use Rattle.papaya_core_timeline.specs.Ends.{budget_in, changes_of, changes_of_word, copies_in, copies_of, ends_of, exchanges_in, exchanges_of, links_of}
use Rattle.papaya_core_timeline.proofs.CallersLemmas.{differs}
use Rattle.papaya_core_timeline.proofs.KeptTables.{IsPlaced, done-written, put-table, table_at, table_there}
use Rattle.papaya_core_timeline.proofs.KeptHints.{by-table, hinted-same}

-- how often the word at an address may still change, given the number of tables
abbrev pub changes_at : (tables : ℕ) → At → ℕ → ℕ
changes_at tables Root word = tables - word
changes_at tables (Next t) word = links_of word
changes_at tables (Aborted t) word = ends_of word
changes_at tables (Done t chunk) word = copies_of word
changes_at tables (Slot t x) word = changes_of_word word
-- numbers for pairs have a limit of their own
changes_at tables Made word = 0

-- how an item of a list contributes to the sum if it replaces another
pub sum-set : {X : Type 0} (f : X → ℕ) (xs : List X) (i : ℕ) (x y : X) → slice_get xs i ≡ Some x → sum_by f (slice_set xs i y) + f x ≡ sum_by f xs + f y
sum-set f xs i x y there =
    let within = slice_get_within xs i x there in
    let was = get_or_from_slice_get xs i x x there in
    let same = sum_by-set f xs i y x within in
    ap (λ z. sum_by f (slice_set xs i y) + f z) (sym was) ∙ same

-- and how a word contributes to the sum over a list of words
pub sum-set_word : (f : ℕ → ℕ) (xs : List ℕ) (i y : ℕ) → i < length xs → sum_by f (slice_set xs i y) + f (slice_index xs i) ≡ sum_by f xs + f y
sum-set_word f xs i y within = sum_by-set f xs i y 0 within

-- each item of a list is within a bound
all_within : {X : Type 0} (f : X → ℕ) (m : ℕ) (xs : List X) → ((x : X) → f x ≤ m) → All (λ x. f x ≤ m) xs
all_within f m xs h = λ k d lt. h _

-- the same for the first `n` words
sum-set_first : (f : ℕ → ℕ) (n : ℕ) (xs : List ℕ) (i y : ℕ) → i < length xs → i < n
    → sum_by f (take n (slice_set xs i y)) + f (slice_index xs i) ≡ sum_by f (take n xs) + f y
sum-set_first f n xs i y within first =
    let long = length-take n xs in
    let here : i < length (take n xs) = subst (λ m. i < m) (sym long) (le-min {k = suc i} {a = n} {b = length xs} first within) in
    let same : get_or (take n xs) i 0 ≡ get_or xs i 0 = get_or-take n xs i 0 first in
    ap (λ zs. sum_by f zs + f (slice_index xs i)) (take-set-lt n xs i y first)
    ∙ ap (λ z. sum_by f (slice_set (take n xs) i y) + f z) (sym same)
    ∙ sum_by-set f (take n xs) i y 0 here

-- `n` words change at most `n` times
first_few : (n : ℕ) (xs : List ℕ) → sum_by copies_of (take n xs) ≤ n
first_few n xs =
    let words = sum_by-le copies_of 1 (take n xs) (all_within copies_of 1 (take n xs) (λ word. omega arith)) in
    let few : length (take n xs) ≤ n = subst (λ m. m ≤ n) (sym (length-take n xs)) (min-le_left n (length xs)) in
    omega (arith, words, few)

-- a word of a chunk was set
copies-set : (done : List ℕ) (chunk word : ℕ) → chunk < length done → chunk < 2 ^ 32
    → copies_in (slice_set done chunk word) + copies_of (slice_index done chunk) ≡ copies_in done + copies_of word
unfolding copies_in
copies-set done chunk word within few = sum-set_first copies_of (2 ^ 32) done chunk word within few

few_copies : (done : List ℕ) → copies_in done ≤ 2 ^ 32
unfolding copies_in
few_copies done = first_few (2 ^ 32) done

-- the word is not one of a chunk beyond those that a table may have
abbrev pub IsChunkOf : At → Type 0
IsChunkOf (Done n chunk) = chunk < 2 ^ 32
IsChunkOf _ = Unit {0}

module _ (w : Tables) (at : At) (n word : ℕ) (t : TableWords) (there : table_of w.tables n ≡ Some t) where
  -- the tables after a write to one of them
  put_is : put_at at n w word ≡ record w { tables = slice_set w.tables (n - 1) (written at t word) }
  put_is = put-table w at n word t there

  -- their words may change as often, but for those of this table
  put-sum : exchanges_in (put_at at n w word) + exchanges_of t ≡ exchanges_in w + exchanges_of (written at t word)
  put-sum =
      let same = sum-set exchanges_of w.tables (n - 1) t (written at t word) (table_there w.tables n t there).1 in
      let is = ap exchanges_in put_is in
      let many : length (slice_set w.tables (n - 1) (written at t word)) ≡ length w.tables = length-set w.tables (n - 1) (written at t word) in
      let root : exchanges_in (record w { tables = slice_set w.tables (n - 1) (written at t word) }) ≡ sum_by exchanges_of
      (slice_set w.tables (n - 1) (written at t word)) + (length w.tables - w.root) = ap
      (λ m. sum_by exchanges_of (slice_set w.tables (n - 1) (written at t word)) + (m - w.root)) many in
      omega (arith, same, is, root)

  -- if the change of the table itself is known
  put-changes : (before later : ℕ) → exchanges_of (written at t word) + before ≡ exchanges_of t + later
      → exchanges_in (put_at at n w word) + before ≡ exchanges_in w + later
  put-changes before later change = let all = put-sum in omega (arith, all, change)

-- the words after a write may change as often, but for the word that was written
pub placed-changes : (w : Tables) (at : At) (new : ℕ) → IsPlaced w.tables at → IsChunkOf at
    → exchanges_in (put w at new) + changes_at (length w.tables) at (word_at w at) ≡ exchanges_in w + changes_at (length w.tables) at new
placed-changes w Root new placed chunk_is = omega arith
placed-changes w Made new placed chunk_is = refl
placed-changes w (Next n) new (t, there) chunk_is =
    subst (λ y. exchanges_in (put w (Next n) new) + links_of y ≡ exchanges_in w + links_of new) (sym (ap (word_in (λ v. v.next)) there))
    (put-changes w (Next n) n new t there (links_of t.next) (links_of new) (omega arith))
placed-changes w (Aborted n) new (t, there) chunk_is =
    subst (λ y. exchanges_in (put w (Aborted n) new) + ends_of y ≡ exchanges_in w + ends_of new) (sym (ap (word_in (λ v. v.aborted)) there))
    (put-changes w (Aborted n) n new t there (ends_of t.aborted) (ends_of new) (omega arith))
placed-changes w (Done n chunk) new (t, there, lt) chunk_is =
    subst (λ y. exchanges_in (put w (Done n chunk) new) + copies_of y ≡ exchanges_in w + copies_of new)
    (sym (ap (word_in (λ v. slice_index v.done chunk)) there))
    (put-changes w (Done n chunk) n new t there (copies_of (slice_index t.done chunk)) (copies_of new)
    (let words = copies-set t.done chunk new lt chunk_is in
    let is : exchanges_of (written (Done n chunk) t new) ≡ exchanges_of (record t { done = slice_set t.done chunk new }) = ap (λ v. exchanges_of v)
    (done-written w n chunk new t there lt) in
    omega (arith, words, is)))
placed-changes w (Slot n i) new (t, there, lt) chunk_is =
    subst (λ y. exchanges_in (put w (Slot n i) new) + changes_of_word y ≡ exchanges_in w + changes_of_word new)
    (sym (ap (word_in (λ v. slice_index v.slots i)) there))
    (put-changes w (Slot n i) n new t there (changes_of_word (slice_index t.slots i)) (changes_of_word new)
    (let slots = sum-set_word changes_of_word t.slots i new lt in
    let is : exchanges_of (written (Slot n i) t new) ≡ exchanges_of (record t { slots = slice_set t.slots i new }) = ap
    (λ b. exchanges_of (cond b (record t { slots = slice_set t.slots i new }) t)) (lt-ltb i (length t.slots) lt) in
    omega (arith, slots, is)))

-- a hint that is written spends nothing
pub noted-budget : (w : Tables) (n i hint : ℕ) → budget_in (note w n i hint) ≡ budget_in w
noted-budget w n i hint = by-table w n i hint (λ v. budget_in v ≡ budget_in w) refl (
    λ t there.
    let tables = slice_set w.tables (n - 1) (hinted t i hint) in
    let many : length tables ≡ length w.tables = length-set w.tables (n - 1) (hinted t i hint) in
    let same : exchanges_of (hinted t i hint) ≡ exchanges_of t = hinted-same t i hint exchanges_of refl in
    let sums = sum-set exchanges_of w.tables (n - 1) t (hinted t i hint) (table_there w.tables n t there).1 in
    let sum : sum_by exchanges_of tables ≡ sum_by exchanges_of w.tables = omega (arith, sums, same) in
    ap (λ m. record { tables = 2 ^ 32 - m; exchanges = sum_by exchanges_of tables + (m - w.root) }) many
    ∙ ap (λ m. record { tables = 2 ^ 32 - length w.tables; exchanges = m + (length w.tables - w.root) }) sum
    )

-- a slot changes thrice at most
few_changes : (kind : Kind) → changes_of kind ≤ 3
few_changes Empty = omega arith
few_changes Live = omega arith
few_changes Marked = omega arith
few_changes Copied = omega arith
few_changes Buried = omega arith
few_changes Closed = omega arith

few_links : (b : Bool) → cond b 1 0 ≤ 1
few_links true = omega arith
few_links false = omega arith

-- a table with at most 2^32 slots has at most 2^35 exchanges left
pub few_exchanges : (t : TableWords) → length t.slots ≤ 2 ^ 32 → exchanges_of t ≤ 2 ^ 35
few_exchanges t most =
    let slots = sum_by-le changes_of_word 3 t.slots (all_within changes_of_word 3 t.slots (λ word. few_changes (kind_of word))) in
    let link = few_links (t.next == 0) in
    let words = few_copies t.done in
    omega (arith, slots, link, words)

-- The words have fewer changes left than a bound, if tables are few and have sizes of tables.
pub exchanges_few : (w : Tables) → length w.tables ≤ 2 ^ 32 → ((n : ℕ) (t : TableWords) → table_of w.tables n ≡ Some t → length t.slots ≤ 2 ^ 32)
    → exchanges_in w < 2 ^ 128
exchanges_few w few sizes =
    let each : All (λ t. exchanges_of t ≤ 2 ^ 35) w.tables = λ k d lt.
    few_exchanges (get_or w.tables k d) (sizes (suc k) (get_or w.tables k d) (there k d lt)) in
    let sum = sum_by-le exchanges_of (2 ^ 35) w.tables each in
    omega (arith, sum, few)
  where
    there : (k : ℕ) (d : TableWords) (lt : k < length w.tables) → table_of w.tables (suc k) ≡ Some (get_or w.tables k d)
    there k d lt = table_at w.tables (suc k) (differs (suc k) 0 (λ e. absurd (omega (arith, e))))
        ∙ ap (slice_get w.tables) (let e : suc k - 1 ≡ k = omega arith in e) ∙ slice_get-get_or w.tables k d lt
