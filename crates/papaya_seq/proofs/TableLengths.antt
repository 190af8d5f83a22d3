-- The lengths of tables after an answered ask: a table that is made has as many slots as the ask
-- names, and each other table keeps its length.
use Rattle.std.proofs.Common.{◌≡◌, ◌⊎◌, inl, inr, ℕ, zero, suc, ◌+◌, ◌-◌, ◌==◌, ◌<◌, ◌≤◌, nat_lt}
use Rattle.std.proofs.Common.{Bool, true, false, cond, List, [], ◌∷◌, ◌++◌, length, length-set, map}
use Rattle.std.proofs.Common.{max, replicate, slice_get, slice_set, Option, None, Some, refl, sym}
use Rattle.std.proofs.Common.{◌∙◌, ap, subst, arith}
use Rattle.std.proofs.lemmas.List.{length-replicate, map-append}
use Rattle.std.proofs.lemmas.List.Elements.{All-cons, All-nil}
use Rattle.std.specs.List.{All}
use Rattle.std.specs.Prelude.{◌/◌}
use Rattle.papaya_words.specs.Probe.{IsEntriesFor}
use Rattle.papaya_words.specs.Table.{TableWords, new_table}
use Rattle.papaya_call.specs.declared.ask.Answer.{Answer as Call_answer}
use Rattle.papaya_call.specs.declared.ask.At.{At}
use Rattle.papaya_call.specs.declared.ask.At.TheVariants.{Root, Next, Aborted, Done, Slot, Made}
use Rattle.papaya_call.specs.declared.ask.Ask.{Ask as Call_ask}
use Rattle.papaya_call.specs.declared.ask.Ask.TheVariants.{Load, Exchange, LoadHint, WriteHint}
use Rattle.papaya_call.specs.declared.ask.Ask.TheVariants.{SameKey, ShowNone, ShowPair, SizeOf}
use Rattle.papaya_call.specs.declared.ask.Ask.TheVariants.{MakeKey, MakeValue, MakePair, MakePairOf}
use Rattle.papaya_call.specs.declared.ask.Ask.TheVariants.{MakeTable, AddToShard, Done as Ask_done}
use Rattle.papaya_call.specs.declared.ask.Answer.TheVariants.{Ok as Ok_done}
use Rattle.papaya_call.specs.declared.copy_ask.CopyAsk.{CopyAsk}
use Rattle.papaya_call.specs.declared.copy_ask.CopyAsk.TheVariants as copies
use Rattle.papaya_call.specs.Answers.{Says}
use Rattle.papaya_call.specs.declared.chain.ask.Answer.{Answer}
use Rattle.papaya_core_store.specs.declared.pairs.Running.{Running}
use Rattle.papaya_core_store.specs.CopyAsks.{PerformsCopy}
use Rattle.papaya_core_store.specs.New.{HasCapacity}
use Rattle.papaya_core_store.specs.Performs.{Exchanges, MakesTable, Performs}
use Rattle.papaya_core_store.specs.Store.{StoreState}
use Rattle.papaya_core_store.specs.Tables.{Tables, hinted, note, put, put_at, put_in, word_at, written}
use Rattle.papaya_core_timeline.proofs.KeptHints.{by-table, hinted-same}
use Rattle.papaya_core_timeline.proofs.KeptTables.{table_there}
use Rattle.papaya_core_timeline.proofs.ShowLemmas.{none_shown, pair_shown}
use Rattle.papaya_core_timeline.proofs.StoreLemmas.{LogsOrNot, matched, of_logs, own_logs, part_logs}
use Rattle.papaya_seq.specs.Lengths.{IsLongEnough, lengths_of}

-- how long a table is
abbrev long : TableWords → ℕ
long t = length t.slots

-- a write leaves that
written_long : (at : At) (t : TableWords) (word : ℕ) → long (written at t word) ≡ long t
written_long Root t word = refl
written_long Made t word = refl
written_long (Next n) t word = refl
written_long (Aborted n) t word = refl
written_long (Done n chunk) t word = elim (nat_lt chunk (length t.done))
    as (λ b. long (cond b (record t { done = slice_set t.done chunk word }) t) ≡ long t) [ true ↦ refl | false ↦ refl ]
written_long (Slot n i) t word = elim (nat_lt i (length t.slots)) as (λ b. long (cond b (record t { slots = slice_set t.slots i word }) t) ≡ long t)
    [ true ↦ length-set t.slots i word | false ↦ refl ]

set_lengths : (tables : List TableWords) (k : ℕ) (t u : TableWords) → slice_get tables k ≡ Some t → long u ≡ long t
    → map long (slice_set tables k u) ≡ map long tables
set_lengths [] k t u e same = refl
set_lengths (x ∷ xs) zero t u e same = let is : x ≡ t = cc e in ap (λ n. n ∷ map long xs) (same ∙ ap long (sym is))
set_lengths (x ∷ xs) (suc k) t u e same = ap (λ l. long x ∷ l) (set_lengths xs k t u e same)

put_in_lengths : (at : At) (o : Option TableWords) (tables : List TableWords) (k word : ℕ) → o ≡ slice_get tables k
    → map long (put_in at o tables k word) ≡ map long tables
put_in_lengths at None tables k word is = refl
put_in_lengths at (Some t) tables k word is = set_lengths tables k t (written at t word) (sym is) (written_long at t word)

put_at_lengths : (at : At) (n : ℕ) (w : Tables) (word : ℕ) → lengths_of (put_at at n w word) ≡ lengths_of w
put_at_lengths at n w word = go (n == 0)
  where
    go : (b : Bool) → lengths_of (cond b w (record w { tables = put_in at (slice_get w.tables (n - 1)) w.tables (n - 1) word })) ≡ lengths_of w
    go true = refl
    go false = put_in_lengths at (slice_get w.tables (n - 1)) w.tables (n - 1) word refl

-- for the words of all tables
pub put_lengths : (w : Tables) (at : At) (word : ℕ) → lengths_of (put w at word) ≡ lengths_of w
put_lengths w Root word = refl
put_lengths w Made word = refl
put_lengths w (Next n) word = put_at_lengths (Next n) n w word
put_lengths w (Aborted n) word = put_at_lengths (Aborted n) n w word
put_lengths w (Done n chunk) word = put_at_lengths (Done n chunk) n w word
put_lengths w (Slot n i) word = put_at_lengths (Slot n i) n w word

-- and a hint that is written leaves them
pub note_lengths : (w : Tables) (t x hint : ℕ) → lengths_of (note w t x hint) ≡ lengths_of w
note_lengths w t x hint = by-table w t x hint (λ v. lengths_of v ≡ lengths_of w) refl
    (λ table there. set_lengths w.tables (t - 1) table (hinted table x hint) (table_there w.tables t table there).1 (hinted-same table x hint long refl))

module _ {K V S : Type 0} (Asked : ℕ → Type 0) (s s' : StoreState K V S) where
  -- the tables stay as long as they were, or one is made with the length that was asked for
  abbrev pub IsLengthened : Type 0
  IsLengthened = (lengths_of s'.words ≡ lengths_of s.words) ⊎ ((slots : ℕ) × Asked slots × (lengths_of s'.words ≡ lengths_of s.words ++ slots ∷ []))

  as_long : s' ≡ s → IsLengthened
  as_long same = inl (ap (λ (y : StoreState K V S). lengths_of y.words) same)

  noted_long : (t x hint : ℕ) → s' ≡ record s { words = note s.words t x hint } → IsLengthened
  noted_long t x hint same = inl (ap (λ (y : StoreState K V S). lengths_of y.words) same ∙ note_lengths s.words t x hint)

  -- an exchange
  exchanged_long : (at : At) (found old new : ℕ) (told : Call_answer) → Exchanges found old (put s.words at new) told s s' → IsLengthened
  exchanged_long at found old new told h =
      matched IsLengthened (found == old) _ _ h
      (λ _ done. inl (ap (λ (y : StoreState K V S). lengths_of y.words) done.1 ∙ put_lengths s.words at new)) (λ _ lost. as_long lost.1)

  -- a table
  made_long : (slots limit chunks : ℕ) (told : Call_answer) → Asked slots → MakesTable told slots limit chunks s s' → IsLengthened
  made_long slots limit chunks told asked (is, few, more) =
      let n : ℕ = length s.words.tables + 1 in
      inr (
        slots,
        asked,
        ap (λ (y : StoreState K V S). lengths_of y.words) more ∙ map-append long s.words.tables (new_table n slots limit chunks ∷ [])
            ∙ ap (λ m. lengths_of s.words ++ m ∷ []) (length-replicate slots 0),
      )

module _ {K V S : Type 0} (eq : K → K → Bool) (refuse : Bool) where
  -- an ask of a copy
  pub copy_long : (hash : S → K → ℕ) (ask : CopyAsk) (s : StoreState K V S) (a : Answer) (s' : StoreState K V S)
      → PerformsCopy eq hash refuse ask s a s' → IsLengthened (λ slots. (limit chunks : ℕ) × (ask ≡ copies.MakeTable slots limit chunks)) s s'
  copy_long hash (copies.Load at) s a s' (is, same) = as_long _ s s' same
  copy_long hash (copies.Exchange at old new) s a s' (told, is, h) = exchanged_long _ s s' at (word_at s.words at) old new told h
  copy_long hash (copies.LoadHint t x) s a s' (is, same) = as_long _ s s' same
  copy_long hash (copies.WriteHint t x hint) s a s' (is, same) = noted_long _ s s' t x hint same
  copy_long hash (copies.SizeOf n) s a s' (is, same) = as_long _ s s' same
  copy_long hash (copies.HashOf n) s a s' (is, hashed, same) = as_long _ s s' same
  copy_long hash (copies.SamePair m n) s a s' (is, same) = as_long _ s s' same
  copy_long hash copies.Count s a s' (is, same) = as_long _ s s' same
  copy_long hash (copies.MakeTable slots limit chunks) s a s' (told, is, h) =
      matched (IsLengthened (λ n. (l c : ℕ) × (copies.MakeTable slots limit chunks ≡ copies.MakeTable n l c)) s s') refuse _ _ h
      (λ _ none. as_long _ s s' none.1)
      (λ _ makes. elim makes [ inl refused ↦ as_long _ s s' refused.1 | inr made ↦ made_long _ s s' slots limit chunks told (limit, chunks, refl) made ])

  -- it counts nothing
  pub copy_counts : (hash : S → K → ℕ) (ask : CopyAsk) (s : StoreState K V S) (a : Answer) (s' : StoreState K V S)
      → PerformsCopy eq hash refuse ask s a s' → s'.count ≡ s.count
  copy_counts hash (copies.Load at) s a s' (is, same) = ap (λ (y : StoreState K V S). y.count) same
  copy_counts hash (copies.Exchange at old new) s a s' (told, is, h) =
      matched (s'.count ≡ s.count) (word_at s.words at == old) _ _ h (λ _ done. ap (λ (y : StoreState K V S). y.count) done.1)
      (λ _ lost. ap (λ (y : StoreState K V S). y.count) lost.1)
  copy_counts hash (copies.LoadHint t x) s a s' (is, same) = ap (λ (y : StoreState K V S). y.count) same
  copy_counts hash (copies.WriteHint t x hint) s a s' (is, same) = ap (λ (y : StoreState K V S). y.count) same
  copy_counts hash (copies.SizeOf n) s a s' (is, same) = ap (λ (y : StoreState K V S). y.count) same
  copy_counts hash (copies.HashOf n) s a s' (is, hashed, same) = ap (λ (y : StoreState K V S). y.count) same
  copy_counts hash (copies.SamePair m n) s a s' (is, same) = ap (λ (y : StoreState K V S). y.count) same
  copy_counts hash copies.Count s a s' (is, same) = ap (λ (y : StoreState K V S). y.count) same
  copy_counts hash (copies.MakeTable slots limit chunks) s a s' (told, is, h) =
      matched (s'.count ≡ s.count) refuse _ _ h (λ _ none. ap (λ (y : StoreState K V S). y.count) none.1)
      (λ _ makes. elim makes [
        | inl refused ↦ ap (λ (y : StoreState K V S). y.count) refused.1
        | inr (e, few, made) ↦ ap
            (λ (y : StoreState K V S). y.count) made
      ])

-- an ask of a call counts if it adds to the count; it has `Ok` as its answer, and so has a hint
abbrev pub IsCountedBy : {K V S : Type 0} → Call_ask → StoreState K V S → Call_answer → StoreState K V S → Type 0
IsCountedBy (AddToShard by) s a s' = a ≡ Ok_done
IsCountedBy (WriteHint t x hint) s a s' = (a ≡ Ok_done) × (s'.count ≡ s.count)
IsCountedBy ask s a s' = s'.count ≡ s.count

-- an ask that stores a part leaves the words and the count
pub logged_same : {K V S A : Type 0} (s : StoreState K V S) (r : Running K V A) (a : Call_answer) (s' : StoreState K V S) (r' : Running K V A)
    → LogsOrNot s r a s' r' → (s'.words ≡ s.words) × (s'.count ≡ s.count)
logged_same {K} {V} {S} s r a s' r' (inl (none, stays)) = (ap (λ (y : StoreState K V S). y.words) stays.0, ap (λ (y : StoreState K V S). y.count) stays.0)
logged_same {K} {V} {S} s r a s' r' (inr (key, left, (value, has, made, few, more, moved))) =
    (ap (λ (y : StoreState K V S). y.words) more, ap (λ (y : StoreState K V S). y.count) more)

module _ {K V S A : Type 0} (eq : K → K → Bool) (says : Says K V A) (refuse : Bool) where
  -- an ask of a call for itself
  pub own_long : (ask : Call_ask) (s : StoreState K V S) (r : Running K V A) (a : Call_answer) (s' : StoreState K V S) (r' : Running K V A)
      → Performs eq says refuse ask s r a s' r' → IsLengthened (λ slots. (limit chunks : ℕ) × (ask ≡ MakeTable slots limit chunks)) s s'
  own_long (Load at) s r a s' r' (e, stays) = as_long _ s s' stays.0
  own_long (Exchange at old new) s r a s' r' (h, moved) = exchanged_long _ s s' at (word_at s.words at) old new a h
  own_long (LoadHint t x) s r a s' r' (e, stays) = as_long _ s s' stays.0
  own_long (WriteHint t x hint) s r a s' r' (e, same, moved) = noted_long _ s s' t x hint same
  own_long (SameKey n) s r a s' r' (e, stays) = as_long _ s s' stays.0
  own_long ShowNone s r a s' r' h = as_long _ s s' (none_shown says s r a s' r' h).store
  own_long (ShowPair n) s r a s' r' h = as_long _ s s' (pair_shown says r.machine.call.task n s r a s' r' h).store
  own_long (SizeOf n) s r a s' r' (e, stays) = as_long _ s s' stays.0
  own_long MakeKey s r a s' r' h = inl (ap lengths_of (logged_same s r a s' r' (part_logs s r a s' r' refuse h)).0)
  own_long MakeValue s r a s' r' h = inl (ap lengths_of (logged_same s r a s' r' (part_logs s r a s' r' refuse h)).0)
  own_long MakePair s r a s' r' h = inl (ap lengths_of (logged_same s r a s' r' (own_logs s r a s' r' refuse h)).0)
  own_long (MakePairOf n) s r a s' r' h = inl (ap lengths_of (logged_same s r a s' r' (of_logs s r a s' r' refuse n h)).0)
  own_long (MakeTable slots limit chunks) s r a s' r' h =
      matched (IsLengthened (λ n. (l c : ℕ) × (MakeTable slots limit chunks ≡ MakeTable n l c)) s s') refuse _ _ h (λ _ none. as_long _ s s' none.1.0)
      (λ _ makes. elim makes.0 [ inl refused ↦ as_long _ s s' refused.1 | inr made ↦ made_long _ s s' slots limit chunks a (limit, chunks, refl) made ])
  own_long (AddToShard by) s r a s' r' (e, (number, same), moved) = inl (ap (λ (y : StoreState K V S). lengths_of y.words) same)
  own_long (Ask_done reply) s r a s' r' (e, stays) = as_long _ s s' stays.0

  pub own_counts : (ask : Call_ask) (s : StoreState K V S) (r : Running K V A) (a : Call_answer) (s' : StoreState K V S) (r' : Running K V A)
      → Performs eq says refuse ask s r a s' r' → IsCountedBy ask s a s'
  own_counts (Load at) s r a s' r' (e, stays) = ap (λ (y : StoreState K V S). y.count) stays.0
  own_counts (Exchange at old new) s r a s' r' (h, moved) =
      matched (s'.count ≡ s.count) (word_at s.words at == old) _ _ h (λ _ done. ap (λ (y : StoreState K V S). y.count) done.1)
      (λ _ lost. ap (λ (y : StoreState K V S). y.count) lost.1)
  own_counts (LoadHint t x) s r a s' r' (e, stays) = ap (λ (y : StoreState K V S). y.count) stays.0
  own_counts (WriteHint t x hint) s r a s' r' (e, same, moved) = (e, ap (λ (y : StoreState K V S). y.count) same)
  own_counts (SameKey n) s r a s' r' (e, stays) = ap (λ (y : StoreState K V S). y.count) stays.0
  own_counts ShowNone s r a s' r' h = ap (λ (y : StoreState K V S). y.count) (none_shown says s r a s' r' h).store
  own_counts (ShowPair n) s r a s' r' h = ap (λ (y : StoreState K V S). y.count) (pair_shown says r.machine.call.task n s r a s' r' h).store
  own_counts (SizeOf n) s r a s' r' (e, stays) = ap (λ (y : StoreState K V S). y.count) stays.0
  own_counts MakeKey s r a s' r' h = (logged_same s r a s' r' (part_logs s r a s' r' refuse h)).1
  own_counts MakeValue s r a s' r' h = (logged_same s r a s' r' (part_logs s r a s' r' refuse h)).1
  own_counts MakePair s r a s' r' h = (logged_same s r a s' r' (own_logs s r a s' r' refuse h)).1
  own_counts (MakePairOf n) s r a s' r' h = (logged_same s r a s' r' (of_logs s r a s' r' refuse n h)).1
  own_counts (MakeTable slots limit chunks) s r a s' r' h =
      matched (s'.count ≡ s.count) refuse _ _ h (λ _ none. ap (λ (y : StoreState K V S). y.count) none.1.0)
      (λ _ makes. elim makes.0 [
        | inl refused ↦ ap (λ (y : StoreState K V S). y.count) refused.1
        | inr (e, few, made) ↦ ap
            (λ (y : StoreState K V S). y.count) made
      ])
  own_counts (AddToShard by) s r a s' r' (e, (number, same), moved) = e
  own_counts (Ask_done reply) s r a s' r' (e, stays) = ap (λ (y : StoreState K V S). y.count) stays.0

-- the words of a new map
pub new_long : (capacity initial : ℕ) (words : Tables) → IsEntriesFor capacity initial → HasCapacity capacity initial words → IsLongEnough initial words
new_long zero initial words (power, least, below) is = record {
  tables = subst (λ (w : Tables). All (λ len. initial ≤ len) (lengths_of w)) (sym is) (All-nil _);
  first = λ none. let half : initial / 2 < 1 = below in omega (arith, half);
}
new_long (suc n) initial words entries (limit, size, is) =
    let slots : List ℕ = replicate (max initial 8) 0 in
    let long_is : length slots ≡ max initial 8 = length-replicate (max initial 8) 0 in
    record {
      tables = subst (λ (w : Tables). All (λ len. initial ≤ len) (lengths_of w)) (sym is)
          (All-cons (λ len. initial ≤ len) (length slots) [] (omega (arith, long_is)) (All-nil (λ len. initial ≤ len)));
      first = λ none. let root : words.root ≡ 1 = ap (λ (w : Tables). w.root) is in absurd (omega (arith, root, none));
    }
