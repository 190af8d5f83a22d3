-- The sizes of tables, over a step of a store.
use Rattle.std.proofs.Common.{◌≡◌, ℕ, zero, suc, ◌-◌, ◌==◌, ◌<◌, ◌^◌, Bool, true, false, cond}
use Rattle.std.proofs.Common.{nat_lt, List, [], ◌∷◌, ◌++◌, length, slice_get, slice_set, Option}
use Rattle.std.proofs.Common.{Some, None, ◌⊎◌, ⊎_elim, inl, inr, refl, sym, ◌∙◌, ap, subst, arith}
use Rattle.std.proofs.Common.{length-set, MatchBool}
use Rattle.std.proofs.lemmas.List.{length-replicate}
use Rattle.papaya_core_timeline.proofs.CallersLemmas.{differs}
use Rattle.papaya_core_timeline.proofs.ShowLemmas.{IsShowing, none_shown, pair_shown}
use Rattle.papaya_words.specs.Table.{TableWords, new_table, noted as noted_hints}
use Rattle.papaya_call.specs.Answers.{Says}
use Rattle.papaya_call.specs.declared.ask.At.{At}
use Rattle.papaya_call.specs.declared.ask.At.TheVariants.{Root, Next, Aborted, Done, Slot, Made}
use Rattle.papaya_call.specs.declared.ask.Ask.{Ask}
use Rattle.papaya_call.specs.declared.ask.Ask.TheVariants.{Load, Exchange, LoadHint, WriteHint}
use Rattle.papaya_call.specs.declared.ask.Ask.TheVariants.{SameKey, ShowNone, ShowPair, SizeOf}
use Rattle.papaya_call.specs.declared.ask.Ask.TheVariants.{MakeKey, MakeValue, MakePair, MakePairOf}
use Rattle.papaya_call.specs.declared.ask.Ask.TheVariants.{MakeTable, AddToShard, Done as Ask_done}
use Rattle.papaya_call.specs.declared.ask.Answer.{Answer}
use Rattle.papaya_call.specs.Search.{IsSize}
use Rattle.papaya_call.specs.declared.copy_ask.CopyAsk.{CopyAsk}
use Rattle.papaya_call.specs.declared.copy_ask.CopyAsk.TheVariants as copies
use Rattle.papaya_call.specs.Machine.{IsFit, IsFitAsk}
use Rattle.papaya_call.specs.Link.{IsFitCopyAsk}
use Rattle.papaya_call.specs.declared.chain.ask.Ask.{Ask as Chain_ask}
use Rattle.papaya_call.specs.declared.chain.ask.Ask.TheVariants as chain_asks
use Rattle.papaya_call.specs.declared.chain.ask.Answer.{Answer as Chain_answer}
use Rattle.papaya_call.specs.declared.chain.ask.Answer.TheVariants as answers
use Rattle.papaya_call.specs.ChainMachine as machine
use Rattle.papaya_core_store.specs.declared.pairs.Part.{Part}
use Rattle.papaya_core_store.specs.declared.pairs.Part.TheVariants.{Logged}
use Rattle.papaya_core_store.specs.declared.pairs.Running.{Running}
use Rattle.papaya_words.specs.declared.limits.TheConstants.{MAX_TABLES, MAX_LOG_LEN}
use Rattle.papaya_core_store.specs.Tables.{Tables, hint_in, hinted, note, table_of, word_at, written, put, put_at, put_in}
use Rattle.papaya_core_store.specs.Store.{StoreState, Stored, pair_of}
use Rattle.papaya_core_store.specs.Asks.{PerformsAsk}
use Rattle.papaya_core_store.specs.CopyAsks.{PerformsCopy, hash_in}
use Rattle.papaya_core_store.specs.Pairs.{brought_by}
use Rattle.papaya_core_store.specs.Performs.{Exchanges, Performs, Refuses, Stays, HasNoPair, HasNoPairOf}
use Rattle.papaya_core_store.specs.Performs.{IsPutOff, PushesOf, PushesOwn, PushesPair, MakesOr, MakesTable}
use Rattle.papaya_core_store.specs.Performs.{size_of}
use Rattle.papaya_call.specs.declared.ask.Answer.TheVariants.{Made as Made_number, Ok as Ok_told, Refused as Was_refused}
use Rattle.papaya_words.specs.declared.refused.Refused.TheVariants.{Memory, Capacity}

-- the branch of a test of two facts
pub matched : (R : Type 0) (b : Bool) (P Q : Type 0) → MatchBool b P Q → (b ≡ true → P → R) → (b ≡ false → Q → R) → R
matched R true P Q h f g = f refl h
matched R false P Q h f g = g refl h

module _ {K V S A : Type 0} (s : StoreState K V S) (r : Running K V A) (a : Answer) (s' : StoreState K V S) (r' : Running K V A) where
  -- No pair was stored in the arena: the store was refused, there was nothing to store, or the part
  -- is to be stored with a pair.
  abbrev pub IsNotStored : Type 0
  IsNotStored = (a ≡ Was_refused Memory) ⊎ (a ≡ Was_refused Capacity) ⊎ (a ≡ Ok_told) ⊎ (a ≡ Made_number 0)

  -- the effect of an ask for a key, a value or a pair
  abbrev pub LogsOrNot : Type 0
  LogsOrNot = (IsNotStored × Stays s r s' r') ⊎ ((key : Part K) × (left : Part K) × PushesPair key left a s r s' r')

  unlogged : (most count : ℕ) → Refuses most count a → IsNotStored
  unlogged most count (inl e) = inl e
  unlogged most count (inr (e, full)) = inr (inl e)

  -- a key or a value
  pub part_logs : (refuse : Bool) → MakesOr refuse a s r s' r' (IsPutOff a s r s' r') → LogsOrNot
  part_logs refuse h = matched LogsOrNot refuse _ _ h (λ _ none. inl (inl none.0, none.1)) (λ _ off. inl (inr (inr (inr off.0)), off.1))

  -- a pair of the call's own key
  pub own_logs : (refuse : Bool) → MakesOr refuse a s r s' r'
      ((Refuses MAX_LOG_LEN (length s.pairs) a × Stays s r s' r') ⊎ (HasNoPair a r × Stays s r s' r') ⊎ PushesOwn a s r s' r') → LogsOrNot
  own_logs refuse h = matched LogsOrNot refuse _ _ h (λ _ none. inl (inl none.0, none.1)) (λ _ makes. by_cases makes)
    where
      by_cases : (Refuses MAX_LOG_LEN (length s.pairs) a × Stays s r s' r') ⊎ (HasNoPair a r × Stays s r s' r') ⊎ PushesOwn a s r s' r' → LogsOrNot
      by_cases (inl (f, stays)) = inl (unlogged _ _ f, stays)
      by_cases (inr (inl (has, stays))) = inl (inr (inr (inl has.0)), stays)
      by_cases (inr (inr logs)) = inr (r.key, Logged (brought_by (length s.pairs) r.key), logs)

  -- and one of another pair's key
  pub of_logs : (refuse : Bool) (n : ℕ) → MakesOr refuse a s r s' r'
      ((Refuses MAX_LOG_LEN (length s.pairs) a × Stays s r s' r') ⊎ (HasNoPairOf n a s r × Stays s r s' r') ⊎ PushesOf n a s r s' r') → LogsOrNot
  of_logs refuse n h = matched LogsOrNot refuse _ _ h (λ _ none. inl (inl none.0, none.1)) (λ _ makes. by_cases makes)
    where
      by_cases : (Refuses MAX_LOG_LEN (length s.pairs) a × Stays s r s' r') ⊎ (HasNoPairOf n a s r × Stays s r s' r') ⊎ PushesOf n a s r s' r' → LogsOrNot
      by_cases (inl (f, stays)) = inl (unlogged _ _ f, stays)
      by_cases (inr (inl (has, stays))) = inl (inr (inr (inl has.0)), stays)
      by_cases (inr (inr (first, from, logs))) = inr (Logged first, r.key, logs)

-- each table of a list has the size of a table
abbrev pub AllSized : List TableWords → Type 0
AllSized tables = (i : ℕ) (t : TableWords) → slice_get tables i ≡ Some t → IsSize (length t.slots) t.limit

-- the tables that have numbers are those of the list
pub numbered : (tables : List TableWords) → AllSized tables → (n : ℕ) (t : TableWords) → table_of tables n ≡ Some t → IsSize (length t.slots) t.limit
numbered tables all n t e = go (n == 0) refl
  where
    go : (b : Bool) → (n == 0) ≡ b → IsSize (length t.slots) t.limit
    go true z = let f : None ≡ Some t = sym (ap (λ b. cond b None (slice_get tables (n - 1))) z) ∙ e in cc
    go false z = all (n - 1) t (sym (ap (λ b. cond b None (slice_get tables (n - 1))) z) ∙ e)

pub unnumbered : (tables : List TableWords) → ((n : ℕ) (t : TableWords) → table_of tables n ≡ Some t → IsSize (length t.slots) t.limit) → AllSized tables
unnumbered tables all i t e =
    let h : suc i - 1 ≡ i = omega arith in
    let nonzero : (suc i == 0) ≡ false = differs (suc i) 0 (λ z. absurd (omega arith)) in
    let there : table_of tables (suc i) ≡ slice_get tables i = ap (λ b. cond b None (slice_get tables (suc i - 1))) nonzero ∙ ap (λ j. slice_get tables j) h in
    all (suc i) t (there ∙ e)

-- a write keeps a table's size
written-size : (at : At) (t : TableWords) (word : ℕ) → IsSize (length t.slots) t.limit → IsSize (length (written at t word).slots) (written at t word).limit
written-size Root t word h = h
written-size Made t word h = h
written-size (Next n) t word h = h
written-size (Aborted n) t word h = h
written-size (Done n chunk) t word h = elim (nat_lt chunk (length t.done))
    as (λ b. IsSize (length (cond b (record t { done = slice_set t.done chunk word }) t).slots)
    (cond b (record t { done = slice_set t.done chunk word }) t).limit) [ true ↦ h | false ↦ h ]
written-size (Slot n i) t word h = go (nat_lt i (length t.slots))
  where
    go : (b : Bool) → IsSize (length (cond b (record t { slots = slice_set t.slots i word }) t).slots)
        (cond b (record t { slots = slice_set t.slots i word }) t).limit
    go true = subst (λ l. IsSize l t.limit) (sym (length-set t.slots i word)) h
    go false = h

-- an item of a list after one was set
pub set-cases : {A : Type 0} (xs : List A) (k : ℕ) (y : A) (i : ℕ) (x : A) → slice_get (slice_set xs k y) i ≡ Some x → (slice_get xs i ≡ Some x) ⊎ (x ≡ y)
set-cases [] k y i x e = inl e
set-cases (a ∷ xs) zero y zero x e = let f : Some y ≡ Some x = e in inr cc
set-cases (a ∷ xs) zero y (suc i) x e = inl e
set-cases (a ∷ xs) (suc k) y zero x e = inl e
set-cases (a ∷ xs) (suc k) y (suc i) x e = set-cases xs k y i x e

-- an item of a list that was made longer by one
pub append-cases : {A : Type 0} (xs : List A) (y : A) (i : ℕ) (x : A) → slice_get (xs ++ y ∷ []) i ≡ Some x → (slice_get xs i ≡ Some x) ⊎ (x ≡ y)
append-cases [] y zero x h = let e : Some y ≡ Some x = h in inr cc
append-cases [] y (suc i) x h = let e : None ≡ Some x = h in cc
append-cases (a ∷ xs) y zero x h = inl h
append-cases (a ∷ xs) y (suc i) x h = append-cases xs y i x h

put_in-sized : (at : At) (o : Option TableWords) (tables : List TableWords) (k word : ℕ) → o ≡ slice_get tables k → AllSized tables
    → AllSized (put_in at o tables k word)
put_in-sized at None tables k word is all i t e = all i t e
put_in-sized at (Some u) tables k word is all i t e =
    ⊎_elim
    (λ same. all i t same)
    (λ (new : t ≡ written at u word). subst (λ v. IsSize (length v.slots) v.limit) (sym new) (written-size at u word (all k u (sym is))))
    (set-cases tables k (written at u word) i t e)

put_at-sized : (at : At) (n : ℕ) (w : Tables) (word : ℕ) → AllSized w.tables → AllSized (put_at at n w word).tables
put_at-sized at n w word all = go (n == 0)
  where
    go : (b : Bool) → AllSized (cond b w (record w { tables = put_in at (slice_get w.tables (n - 1)) w.tables (n - 1) word })).tables
    go true = all
    go false = put_in-sized at (slice_get w.tables (n - 1)) w.tables (n - 1) word refl all

pub put-sized : (w : Tables) (at : At) (word : ℕ) → AllSized w.tables → AllSized (put w at word).tables
put-sized w Root word all = all
put-sized w Made word all = all
put-sized w (Next n) word all = put_at-sized (Next n) n w word all
put-sized w (Aborted n) word all = put_at-sized (Aborted n) n w word all
put-sized w (Done n chunk) word all = put_at-sized (Done n chunk) n w word all
put-sized w (Slot n i) word all = put_at-sized (Slot n i) n w word all

-- and so does a hint that is written
hinted-size : (t : TableWords) (i hint : ℕ) → IsSize (length t.slots) t.limit → IsSize (length (hinted t i hint).slots) (hinted t i hint).limit
hinted-size t i hint h = elim (nat_lt i (length t.slots))
    as (λ b. IsSize (length (cond b (record t { hints = noted_hints t.hints i hint }) t).slots)
    (cond b (record t { hints = noted_hints t.hints i hint }) t).limit) [ true ↦ h | false ↦ h ]

hint_in-sized : (o : Option TableWords) (tables : List TableWords) (k i hint : ℕ) → o ≡ slice_get tables k → AllSized tables
    → AllSized (hint_in o tables k i hint)
hint_in-sized None tables k i hint is all j t e = all j t e
hint_in-sized (Some u) tables k i hint is all j t e =
    ⊎_elim
    (λ same. all j t same)
    (λ (new : t ≡ hinted u i hint). subst (λ v. IsSize (length v.slots) v.limit) (sym new) (hinted-size u i hint (all k u (sym is))))
    (set-cases tables k (hinted u i hint) j t e)

note-sized : (w : Tables) (n i hint : ℕ) → AllSized w.tables → AllSized (note w n i hint).tables
note-sized w n i hint all = go (n == 0)
  where
    go : (b : Bool) → AllSized (cond b w (record w { tables = hint_in (slice_get w.tables (n - 1)) w.tables (n - 1) i hint })).tables
    go true = all
    go false = hint_in-sized (slice_get w.tables (n - 1)) w.tables (n - 1) i hint refl all

pub append-sized : (tables : List TableWords) (n slots limit chunks : ℕ) → IsSize slots limit → AllSized tables
    → AllSized (tables ++ new_table n slots limit chunks ∷ [])
append-sized tables n slots limit chunks size all i t e =
    ⊎_elim
    (λ same. all i t same)
    (λ (new : t ≡ new_table n slots limit chunks).
    subst (λ v. IsSize (length v.slots) v.limit) (sym new) (subst (λ l. IsSize l limit) (sym (length-replicate slots 0)) size))
    (append-cases tables (new_table n slots limit chunks) i t e)

said : (a b : Answer) → a ≡ b → IsFit b → IsFit a
said a b e fit = subst IsFit (sym e) fit

module _ {K V S : Type 0} where
  -- an answer is within the limits of tables and numbers, and the tables keep sizes of tables
  pub record IsKept (a : Answer) (s' : StoreState K V S) : Type 0 where
    pub fit : IsFit a
    pub sized : AllSized s'.words.tables

  quiet : (a : Answer) (s s' : StoreState K V S) → IsFit a → s' ≡ s → AllSized s.words.tables → IsKept a s'
  quiet a s s' fit same all = record { fit = fit; sized = subst (λ (y : StoreState K V S). AllSized y.words.tables) (sym same) all }

  -- a result of a closure is within the limits
  said_fit : {A Computes : Type 0} (s : StoreState K V S) (r : Running K V A) (a : Answer) (s' : StoreState K V S) (r' : Running K V A)
      → IsShowing Computes s r a s' r' → AllSized s.words.tables → IsKept a s'
  said_fit s r a s' r' shown all = quiet a s s'
      (elim shown.says [ inl agrees ↦ said a _ agrees.1 tt | inr others ↦ elim others [ inl op ↦ said a _ op.1 tt | inr none ↦ said a _ none tt ] ])
      shown.store all

  refused : (most count : ℕ) (a : Answer) (s s' : StoreState K V S) → Refuses most count a → s' ≡ s → AllSized s.words.tables → IsKept a s'
  refused most count a s s' (inl e) same all = quiet a s s' (said a _ e tt) same all
  refused most count a s s' (inr (e, full)) same all = quiet a s s' (said a _ e tt) same all

  -- a table that was made has the size that was asked for
  table_made : (slots limit chunks : ℕ) (s : StoreState K V S) (a : Answer) (s' : StoreState K V S) → AllSized s.words.tables → IsSize slots limit
      → (Refuses MAX_TABLES (length s.words.tables) a × (s' ≡ s)) ⊎ MakesTable a slots limit chunks s s' → IsKept a s'
  table_made slots limit chunks s a s' all size (inl (f, same)) = refused _ _ a s s' f same all
  table_made slots limit chunks s a s' all size (inr (e, few, same)) = record {
    fit = said a _ e (let most : length s.words.tables < 2 ^ 32 = few in omega arith);
    sized = subst (λ (y : StoreState K V S). AllSized y.words.tables) (sym same) (append-sized s.words.tables _ slots limit chunks size all);
  }

  -- the size in the answer is one that a table may have
  sized_answer : (a : Answer) (s : StoreState K V S) (n : ℕ) → AllSized s.words.tables → a ≡ size_of (table_of s.words.tables n) → IsFit a
  sized_answer a s n all e = by_table (table_of s.words.tables n) refl
    where
      by_table : (o : Option TableWords) → table_of s.words.tables n ≡ o → IsFit a
      by_table None is = said a _ (e ∙ ap size_of is) tt
      by_table (Some t) is = said a _ (e ∙ ap size_of is) (numbered s.words.tables all n t is)

  -- an exchange keeps the sizes
  exchanged : (at : At) (old new : ℕ) (s : StoreState K V S) (a : Answer) (s' : StoreState K V S) → AllSized s.words.tables
      → Exchanges (word_at s.words at) old (put s.words at new) a s s' → IsKept a s'
  exchanged at old new s a s' all ex =
      matched (IsKept a s') (word_at s.words at == old) _ _ ex
      (λ _ done. record {
        fit = said a _ done.0 tt;
        sized = subst (λ (y : StoreState K V S). AllSized y.words.tables) (sym done.1)
            (put-sized s.words at new all);
      })
      (λ _ lost. quiet a s s' (said a _ lost.0 tt) lost.1 all)

  -- a hint that is written keeps them
  noted : (t x hint : ℕ) (s : StoreState K V S) (a : Answer) (s' : StoreState K V S) → AllSized s.words.tables → IsFit a
      → s' ≡ record s { words = note s.words t x hint } → IsKept a s'
  noted t x hint s a s' all fit same = record {
    fit = fit;
    sized = subst (λ (y : StoreState K V S). AllSized y.words.tables) (sym same)
        (note-sized s.words t x hint all);
  }

module _ {K V S A : Type 0} (eq : K → K → Bool) (says : Says K V A) where
  -- a key, a value or a pair
  made_fit : (s : StoreState K V S) (r : Running K V A) (a : Answer) (s' : StoreState K V S) (r' : Running K V A) → AllSized s.words.tables
      → LogsOrNot s r a s' r' → IsKept a s'
  made_fit s r a s' r' all (inl (inl e, stays)) = quiet a s s' (said a _ e tt) stays.0 all
  made_fit s r a s' r' all (inl (inr (inl e), stays)) = quiet a s s' (said a _ e tt) stays.0 all
  made_fit s r a s' r' all (inl (inr (inr (inl e)), stays)) = quiet a s s' (said a _ e tt) stays.0 all
  made_fit s r a s' r' all (inl (inr (inr (inr e)), stays)) = quiet a s s' (said a _ e (omega arith)) stays.0 all
  made_fit s r a s' r' all (inr (key, left, (value, has, e, few, same, moved))) =
      record { fit = said a _ e few; sized = subst (λ (y : StoreState K V S). AllSized y.words.tables) (sym same) all }

  -- the effect of an answered ask
  pub performed : (refuse : Bool) (ask : Ask) (s : StoreState K V S) (r : Running K V A) (a : Answer) (s' : StoreState K V S) (r' : Running K V A)
      → AllSized s.words.tables → IsFitAsk ask → Performs eq says refuse ask s r a s' r' → IsKept a s'
  performed refuse (Load at) s r a s' r' all fit (e, stays) = quiet a s s' (said a _ e tt) stays.0 all
  performed refuse (Exchange at old new) s r a s' r' all fit (ex, _) = exchanged at old new s a s' all ex
  performed refuse (SameKey n) s r a s' r' all fit (e, stays) = quiet a s s' (said a _ e tt) stays.0 all
  performed refuse ShowNone s r a s' r' all fit h = said_fit s r a s' r' (none_shown says s r a s' r' h) all
  performed refuse (ShowPair n) s r a s' r' all fit h = said_fit s r a s' r' (pair_shown says r.machine.call.task n s r a s' r' h) all
  performed refuse (LoadHint t x) s r a s' r' all fit (e, stays) = quiet a s s' (said a _ e tt) stays.0 all
  performed refuse (WriteHint t x hint) s r a s' r' all fit (e, same, _) = noted t x hint s a s' all (said a _ e tt) same
  performed refuse (SizeOf n) s r a s' r' all fit (e, stays) = quiet a s s' (sized_answer a s n all e) stays.0 all
  performed refuse MakeKey s r a s' r' all fit h = made_fit s r a s' r' all (part_logs s r a s' r' refuse h)
  performed refuse MakeValue s r a s' r' all fit h = made_fit s r a s' r' all (part_logs s r a s' r' refuse h)
  performed refuse MakePair s r a s' r' all fit h = made_fit s r a s' r' all (own_logs s r a s' r' refuse h)
  performed refuse (MakePairOf n) s r a s' r' all fit h = made_fit s r a s' r' all (of_logs s r a s' r' refuse n h)
  performed refuse (MakeTable slots limit chunks) s r a s' r' all fit h =
      matched (IsKept a s') refuse _ _ h
      (λ _ none. quiet a s s' (said a _ none.0 tt) none.1.0 all)
      (λ _ makes. table_made slots limit chunks s a s' all fit makes.0)
  performed refuse (AddToShard by) s r a s' r' all fit
      (e, (number, same), _) = record { fit = said a _ e tt; sized = subst (λ (y : StoreState K V S). AllSized y.words.tables) (sym same) all }
  performed refuse (Ask_done reply) s r a s' r' all fit (e, stays) = quiet a s s' (said a _ e tt) stays.0 all

module _ {K V S : Type 0} where
  -- The same for an answer over a chain.
  pub record IsKeptAsked (a : Chain_answer) (s' : StoreState K V S) : Type 0 where
    pub fit : machine.IsFit a
    pub sized : AllSized s'.words.tables

  -- if an answer to the call is within the limits, so is the same answer over a chain
  as_call : (a : Chain_answer) (told : Answer) (s' : StoreState K V S) → a ≡ answers.Call told → IsKept told s' → IsKeptAsked a s'
  as_call a told s' is kept = record { fit = subst machine.IsFit (sym is) kept.fit; sized = kept.sized }

  module _ (eq : K → K → Bool) (hash : S → K → ℕ) where
    -- the effect of an answered ask of a copier
    pub performed_copy : (refuse : Bool) (ask : CopyAsk) (s : StoreState K V S) (a : Chain_answer) (s' : StoreState K V S) → AllSized s.words.tables
        → IsFitCopyAsk ask → PerformsCopy eq hash refuse ask s a s' → IsKeptAsked a s'
    performed_copy refuse (copies.Load at) s a s' all fit (e, same) = as_call a _ s' e (quiet _ s s' tt same all)
    performed_copy refuse (copies.Exchange at old new) s a s' all fit (told, is, ex) = as_call a told s' is (exchanged at old new s told s' all ex)
    performed_copy refuse (copies.LoadHint t x) s a s' all fit (e, same) = as_call a _ s' e (quiet _ s s' tt same all)
    performed_copy refuse (copies.WriteHint t x hint) s a s' all fit (e, same) = as_call a _ s' e (noted t x hint s _ s' all tt same)
    performed_copy refuse (copies.SizeOf n) s a s' all fit (e, same) = as_call a (size_of (table_of s.words.tables n)) s' e
        (quiet _ s s' (sized_answer _ s n all refl) same all)
    performed_copy refuse (copies.HashOf n) s a s' all fit
        (e, hashed, same) = record {
          fit = subst machine.IsFit (sym e) (by_pair (pair_of s n));
          sized = subst (λ (y : StoreState K V S). AllSized y.words.tables) (sym same) all;
        }
      where
        by_pair : (o : Option (Stored K V)) → machine.IsFit (hash_in (hash s.hasher) o)
        by_pair None = tt
        by_pair (Some p) = tt
    performed_copy refuse (copies.SamePair m n) s a s' all fit (e, same) = as_call a _ s' e (quiet _ s s' tt same all)
    performed_copy refuse copies.Count s a s' all fit
        (e, same) = record { fit = subst machine.IsFit (sym e) tt; sized = subst (λ (y : StoreState K V S). AllSized y.words.tables) (sym same) all }
    performed_copy refuse (copies.MakeTable slots limit chunks) s a s' all fit (told, is, h) =
        as_call a told s' is
        (matched (IsKept told s') refuse _ _ h
        (λ _ none. quiet told s s' (said told _ none.0 tt) none.1 all)
        (λ _ makes. table_made slots limit chunks s told s' all fit makes))

    -- and the effect of an answered ask of a machine
    pub performed_ask : {A : Type 0} (says : Says K V A) (refuse : Bool) (ask : Chain_ask) (s : StoreState K V S) (r : Running K V A)
        (a : Chain_answer) (s' : StoreState K V S) (r' : Running K V A) → AllSized s.words.tables → machine.IsFitAsk ask
        → PerformsAsk eq says hash refuse ask s r a s' r' → IsKeptAsked a s'
    performed_ask says refuse (chain_asks.Call ask) s r a s' r' all fit (told, is, h) = as_call a told s' is
        (performed eq says refuse ask s r told s' r' all fit h)
    performed_ask says refuse (chain_asks.Copy ask) s r a s' r' all fit (h, same) = performed_copy refuse ask s a s' all fit h

module _ {K V S : Type 0} (eq : K → K → Bool) (hash : S → K → ℕ) (refuse : Bool) where
  -- a copy leaves the arena
  pub copy_pairs : (ask : CopyAsk) (s : StoreState K V S) (a : Chain_answer) (s' : StoreState K V S) → PerformsCopy eq hash refuse ask s a s'
      → s'.pairs ≡ s.pairs
  copy_pairs (copies.Load at) s a s' (e, same) = ap (λ (y : StoreState K V S). y.pairs) same
  copy_pairs (copies.Exchange at old new) s a s' (told, e, ex) =
      matched (s'.pairs ≡ s.pairs) (word_at s.words at == old) _ _ ex (λ _ done. ap (λ (y : StoreState K V S). y.pairs) done.1)
      (λ _ lost. ap (λ (y : StoreState K V S). y.pairs) lost.1)
  copy_pairs (copies.LoadHint t x) s a s' (e, same) = ap (λ (y : StoreState K V S). y.pairs) same
  copy_pairs (copies.WriteHint t x hint) s a s' (e, same) = ap (λ (y : StoreState K V S). y.pairs) same
  copy_pairs (copies.SizeOf t) s a s' (e, same) = ap (λ (y : StoreState K V S). y.pairs) same
  copy_pairs (copies.HashOf n) s a s' (e, hashes, same) = ap (λ (y : StoreState K V S). y.pairs) same
  copy_pairs (copies.SamePair m n) s a s' (e, same) = ap (λ (y : StoreState K V S). y.pairs) same
  copy_pairs copies.Count s a s' (e, same) = ap (λ (y : StoreState K V S). y.pairs) same
  copy_pairs (copies.MakeTable slots limit chunks) s a s' (told, e, makes) =
      matched (s'.pairs ≡ s.pairs) refuse _ _ makes
      (λ _ none. ap (λ (y : StoreState K V S). y.pairs) none.1)
      (λ _ made. ⊎_elim (λ refused. ap (λ (y : StoreState K V S). y.pairs) refused.1) (λ table. ap (λ (y : StoreState K V S). y.pairs) table.2) made)

module _ {K V S : Type 0} (eq : K → K → Bool) (hash : S → K → ℕ) (refuse : Bool) where
  -- it leaves the hasher
  pub copy_hasher : (ask : CopyAsk) (s : StoreState K V S) (a : Chain_answer) (s' : StoreState K V S) → PerformsCopy eq hash refuse ask s a s'
      → s'.hasher ≡ s.hasher
  copy_hasher (copies.Load at) s a s' (is, same) = ap (λ (y : StoreState K V S). y.hasher) same
  copy_hasher (copies.Exchange at old new) s a s' (told, is, h) =
      matched (s'.hasher ≡ s.hasher) (word_at s.words at == old) _ _ h
      (λ _ done. ap (λ (y : StoreState K V S). y.hasher) done.1) (λ _ lost. ap (λ (y : StoreState K V S). y.hasher) lost.1)
  copy_hasher (copies.LoadHint t x) s a s' (is, same) = ap (λ (y : StoreState K V S). y.hasher) same
  copy_hasher (copies.WriteHint t x hint) s a s' (is, same) = ap (λ (y : StoreState K V S). y.hasher) same
  copy_hasher (copies.SizeOf n) s a s' (is, same) = ap (λ (y : StoreState K V S). y.hasher) same
  copy_hasher (copies.HashOf n) s a s' (is, hashed, same) = ap (λ (y : StoreState K V S). y.hasher) same
  copy_hasher (copies.SamePair m n) s a s' (is, same) = ap (λ (y : StoreState K V S). y.hasher) same
  copy_hasher copies.Count s a s' (is, same) = ap (λ (y : StoreState K V S). y.hasher) same
  copy_hasher (copies.MakeTable slots limit chunks) s a s' (told, is, h) =
      matched (s'.hasher ≡ s.hasher) refuse _ _ h
      (λ _ none. ap (λ (y : StoreState K V S). y.hasher) none.1)
      (λ _ makes. elim makes [
        | inl refused ↦ ap (λ (y : StoreState K V S). y.hasher) refused.1
        | inr (is, few, same) ↦ ap
            (λ (y : StoreState K V S). y.hasher) same
      ])
