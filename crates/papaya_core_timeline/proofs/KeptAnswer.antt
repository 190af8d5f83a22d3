-- An answered ask in terms of the law of exchanges: the answer is true of the words, and the words
-- after it are those that the exchanges leave.
use Rattle.std.proofs.Common.{◌≡◌, ℕ, ◌<◌, ◌≤◌, List, [], ◌∷◌, ◌++◌, length, Option, Some, None, ◌⊎◌, inl, inr, refl, sym, ◌∙◌, ap, subst, arith, append-nil}
use Rattle.papaya_words.specs.Counter.{Count}
use Rattle.papaya_words.specs.declared.limits.TheConstants.{MAX_LOG_LEN, MAX_TABLES}
use Rattle.papaya_call.specs.declared.ask.At.{At}
use Rattle.papaya_call.specs.declared.ask.At.TheVariants.{Root, Next, Aborted, Done, Slot, Made}
use Rattle.papaya_call.specs.declared.ask.Ask.{Ask as Call_ask}
use Rattle.papaya_call.specs.declared.ask.Ask.TheVariants.{MakeTable, ShowNone, ShowPair}
use Rattle.papaya_call.specs.declared.ask.OpKind.TheVariants as op_kinds
use Rattle.papaya_call.specs.declared.call.Task.TheVariants as tasks
use Rattle.papaya_call.specs.declared.ask.Answer.{Answer as Call_answer}
use Rattle.papaya_call.specs.declared.ask.Answer.TheVariants.{Exchanged, Made as Made_number, Op}
use Rattle.papaya_call.specs.declared.copy_ask.CopyAsk.TheVariants.{MakeTable as Make_next}
use Rattle.papaya_words_law.specs.Code.{Coding, IsHashed}
use Rattle.papaya_words_law.specs.Exchange.{Setting, State, Exchange, after as state_after, run, start}
use Rattle.papaya_words_law.specs.Grows.{Comes}
use Rattle.papaya_words_law.specs.Invariant.{named}
use Rattle.papaya_words_law.proofs.Moments.{run-append}
use Rattle.papaya_call_law.specs.Relies.{change_in}
use Rattle.papaya_call_law.specs.Copier.{told_last as copy_told_last}
use Rattle.papaya_call_law.specs.TrueAnswers.{LoadedPairs as Call_loaded, IsOneOf, IsTrueOf as IsTrueOfCall, IsWritten, told_of, or_last, word_of}
use Rattle.papaya_call.specs.declared.chain.ask.Ask.{Ask}
use Rattle.papaya_call.specs.declared.chain.ask.Ask.TheVariants as asks
use Rattle.papaya_call.specs.declared.chain.ask.Answer.{Answer}
use Rattle.papaya_call.specs.declared.chain.ask.Answer.TheVariants as answers
use Rattle.papaya_call.specs.ChainMachine.{ask_of, kind_of_ask, follows_of, after}
use Rattle.papaya_call_law.specs.Goes.{change_by}
use Rattle.papaya_call_law.specs.ChainRelies.{Relies}
use Rattle.papaya_call_law.specs.ChainAnswers.{IsTrueOf, LoadedPairs}
use Rattle.papaya_call_law.proofs.Order.{in_order}
use Rattle.papaya_call_law.proofs.Replies.{chain_changes}
use Rattle.papaya_core_store.specs.declared.pairs.Part.{Part}
use Rattle.papaya_core_store.specs.declared.pairs.Part.TheVariants.{Own}
use Rattle.papaya_core_store.specs.declared.pairs.Running.{Running}
use Rattle.papaya_core_timeline.specs.Kept.{CallTrace, IsMade}
use Rattle.papaya_core_store.specs.Pairs.{key_in, value_at, value_in}
use Rattle.papaya_core_store.specs.Performs.{own_key, own_value}
use Rattle.papaya_core_store.specs.Store.{StoreState, Stored, pair_of}
use Rattle.papaya_core_store.specs.Tables.{put, word_at}
use Rattle.papaya_core_timeline.proofs.KeptTables.{HasMoreTables, IsPlaced, cases_place, grown-same, placed-grown, placed-many, placed-here, placed-other}
use Rattle.papaya_core_timeline.proofs.KeptHints.{KeepsHints, placed-hints}

-- the pair is in a slot
abbrev pub Stands : {P : Type 0} → State P → P → Type 0
Stands s p = (t : ℕ) × (x : ℕ) × (named (s.slot t x) ≡ Some p)

-- The words of a store keep to the law in this setting, with this coding. Keys of the law are keys
-- of the map, or, for a call by a query, keys of the map and the query. `own` is the call's own key
-- as the arena has it, if it has one.
module _ {Q K V S A : Type 0} (g : Setting Q (Stored K V)) (c : Coding Q (Stored K V)) (store : StoreState K V S) (r : Running K V A)
    (es : List (Exchange (Stored K V))) (call_trace : CallTrace K V) (own : Option K) where
  -- the words as the law has them
  abbrev pub words_now : State (Stored K V)
  words_now = run es start

  -- the record of an ask of a call itself, and of an ask of its copy
  abbrev pub Tells : Q → Ask → Answer → List (Exchange (Stored K V)) → LoadedPairs (Stored K V) → Type 0
  Tells key ask a made loaded = IsTrueOf g c key words_now (kind_of_ask r.machine) (follows_of r.machine) call_trace.loaded ask a made loaded

  -- The value that a call has is the one that it had.
  pub record KeepsValue (store' : StoreState K V S) (later : Running K V A) : Type 0 where
    pub same : (v : V) → own_value store r ≡ Some v → own_value store' later ≡ Some v
    pub had : (part : Part V) → later.value ≡ Some part → (before : Part V) × (r.value ≡ Some before)

  -- Or its closure returned another: it was called with `None`, or it is the closure of a compute.
  pub record AnswersValue (ask : Ask) (a : Answer) (later : Running K V A) : Type 0 where
    pub value : V
    pub is : later.value ≡ Some (Own value)
    pub told : a ≡ answers.Call (Op op_kinds.Insert)
    pub shown : (ask ≡ asks.Call ShowNone) ⊎ ((n : ℕ) × (ask ≡ asks.Call (ShowPair n)) × (r.machine.call.task ≡ tasks.Compute))

  abbrev pub HasValue : Ask → Answer → StoreState K V S → Running K V A → Type 0
  HasValue ask a store' later = KeepsValue store' later ⊎ AnswersValue ask a later

  -- it is as it was
  pub same_value : (store' : StoreState K V S) → ((at : Part V) (v : V) → value_in store.pairs at ≡ Some v → value_in store'.pairs at ≡ Some v)
      → KeepsValue store' r
  same_value store' values = record { same = λ v h. by_part r.value v h; had = λ part is. (part, is) }
    where
      by_part : (value : Option (Part V)) (v : V) → value_at store.pairs value ≡ Some v → value_at store'.pairs value ≡ Some v
      by_part None v h = let f : None ≡ Some v = h in absurd cc
      by_part (Some at) v h = values at v h

  -- The effect of an answered ask.
  pub record IsAnswered (key : Q) (ask : Ask) (a : Answer) (store' : StoreState K V S) (later : Running K V A) : Type 0 where
    pub made : List (Exchange (Stored K V))
    pub loaded : LoadedPairs (Stored K V)
    pub told : Tells key ask a made loaded
    -- the arena and the tables grow
    pub keys : (at : Part K) (k : K) → key_in store.pairs at ≡ Some k → key_in store'.pairs at ≡ Some k
    pub values : (at : Part V) (v : V) → value_in store.pairs at ≡ Some v → value_in store'.pairs at ≡ Some v
    pub own_is : own_key store' later ≡ own
    pub logged : (n : ℕ) (p : Stored K V) → pair_of store n ≡ Some p → pair_of store' n ≡ Some p
    pub longer : length store.pairs ≤ length store'.pairs
    pub few : length store.pairs ≤ MAX_LOG_LEN → length store'.pairs ≤ MAX_LOG_LEN
    pub tables_few : length store.words.tables ≤ MAX_TABLES → length store'.words.tables ≤ MAX_TABLES
    pub grown : HasMoreTables store.words.tables store'.words.tables
    -- the words are those that the exchanges leave
    pub coded : (at : At) → word_of g c (run (es ++ made) start) at ≡ word_at store'.words at
    pub hints : KeepsHints g c words_now store.words store'.words
    pub there : (t : ℕ) → 0 < t → Comes (run (es ++ made) start) t → IsMade store t
    -- a pair that a slot names was in a slot before, or is one that the call made
    pub slots : (t x : ℕ) (p : Stored K V) → named ((run (es ++ made) start).slot t x) ≡ Some p → Stands words_now p ⊎ IsOneOf call_trace.loaded.call.made p
    pub unchanged : change_in (after r.machine a).call.state ≡ None → (change_in r.machine.call.state ≡ None)
        × ((t x : ℕ) (p : Stored K V) → named ((run (es ++ made) start).slot t x) ≡ Some p → Stands words_now p)
    -- the pairs that the machine has loaded
    pub last : (p : Stored K V) → loaded.call.last ≡ Some p → (call_trace.loaded.call.last ≡ Some p) ⊎ Stands words_now p
    pub carried : (p : Stored K V) → loaded.kept ≡ Some p → (call_trace.loaded.kept ≡ Some p) ⊎ (call_trace.loaded.call.last ≡ Some p)
    pub new : (q : Stored K V) → IsOneOf loaded.call.made q → IsOneOf call_trace.loaded.call.made q
        ⊎ ((q.number ≡ length store.pairs) × (own_value store r ≡ Some q.value) × (pair_of store' q.number ≡ Some q))
    -- the value of the call
    pub value : HasValue ask a store' later
    -- a table that was made is there
    pub opens : (t : ℕ) → a ≡ answers.Call (Made_number t)
        → ((slots : ℕ) × (limit : ℕ) × (chunks : ℕ) × (ask ≡ asks.Call (MakeTable slots limit chunks)))
        ⊎ ((slots : ℕ) × (limit : ℕ) × (chunks : ℕ) × (ask ≡ asks.Copy (Make_next slots limit chunks))) → IsMade store' t

  -- The arena after an answer without an exchange: it may have grown.
  pub record HasLogs (key : Q) (store' : StoreState K V S) (later : Running K V A) : Type 0 where
    pub keys : (at : Part K) (k : K) → key_in store.pairs at ≡ Some k → key_in store'.pairs at ≡ Some k
    pub values : (at : Part V) (v : V) → value_in store.pairs at ≡ Some v → value_in store'.pairs at ≡ Some v
    pub own_is : own_key store' later ≡ own
    pub logged : (n : ℕ) (p : Stored K V) → pair_of store n ≡ Some p → pair_of store' n ≡ Some p
    pub longer : length store.pairs ≤ length store'.pairs
    pub few : length store.pairs ≤ MAX_LOG_LEN → length store'.pairs ≤ MAX_LOG_LEN
    pub tables_few : length store.words.tables ≤ MAX_TABLES → length store'.words.tables ≤ MAX_TABLES
    pub grown : HasMoreTables store.words.tables store'.words.tables
    pub words : (at : At) → word_at store'.words at ≡ word_at store.words at
    pub hints : KeepsHints g c words_now store.words store'.words

  -- The pairs in the trace after it.
  pub record HasLoaded (store' : StoreState K V S) (loaded : LoadedPairs (Stored K V)) : Type 0 where
    pub last : (p : Stored K V) → loaded.call.last ≡ Some p → (call_trace.loaded.call.last ≡ Some p) ⊎ Stands words_now p
    pub carried : (p : Stored K V) → loaded.kept ≡ Some p → (call_trace.loaded.kept ≡ Some p) ⊎ (call_trace.loaded.call.last ≡ Some p)
    pub new : (q : Stored K V) → IsOneOf loaded.call.made q → IsOneOf call_trace.loaded.call.made q
        ⊎ ((q.number ≡ length store.pairs) × (own_value store r ≡ Some q.value) × (pair_of store' q.number ≡ Some q))

  -- the pairs of before
  pub same_loaded : (store' : StoreState K V S) → HasLoaded store' call_trace.loaded
  same_loaded store' = record { last = λ p h. inl h; carried = λ p h. inl h; new = λ q h. inl h }

  module _ (hashed : IsHashed g c) (key : Q) (relies : Relies g c call_trace.begun call_trace.since key r.machine call_trace.loaded)
      (coded : (at : At) → word_of g c words_now at ≡ word_at store.words at)
      (there : (t : ℕ) → 0 < t → Comes words_now t → IsMade store t) where
    -- the change of a call after its ask was answered
    pub changed : (ask : Ask) → ask_of r.machine ≡ ask → (a : Answer) (made : List (Exchange (Stored K V))) (loaded : LoadedPairs (Stored K V))
        → Tells key ask a made loaded → change_in (after r.machine a).call.state ≡ change_by (kind_of_ask r.machine) ask a (change_in r.machine.call.state)
    changed ask e a made loaded told =
        let asked : Tells key (ask_of r.machine) a made loaded = subst (λ y. Tells key y a made loaded) (sym e) told in
        chain_changes g c key words_now r.machine call_trace.loaded a made loaded
        (in_order g c call_trace.begun call_trace.since key r.machine call_trace.loaded words_now a made loaded relies asked) asked hashed relies.call.hash
        ∙ ap (λ y. change_by (kind_of_ask r.machine) y a (change_in r.machine.call.state)) e

    -- the words after no exchange
    none_made : run (es ++ []) start ≡ words_now
    none_made = ap (λ l. run l start) (append-nil es)

    -- an answer without an exchange
    pub unexchanged : (ask : Ask) → ask_of r.machine ≡ ask
        → (a : Answer) (store' : StoreState K V S) (later : Running K V A) (loaded : LoadedPairs (Stored K V))
        → Tells key ask a [] loaded
        → change_by (kind_of_ask r.machine) ask a (change_in r.machine.call.state) ≡ change_in r.machine.call.state
        → HasLogs key store' later → HasLoaded store' loaded → HasValue ask a store' later
        → ((t : ℕ) → a ≡ answers.Call (Made_number t) → ((slots : ℕ) × (limit : ℕ) × (chunks : ℕ) × (ask ≡ asks.Call (MakeTable slots limit chunks)))
        ⊎ ((slots : ℕ) × (limit : ℕ) × (chunks : ℕ) × (ask ≡ asks.Copy (Make_next slots limit chunks))) → IsMade store' t)
        → IsAnswered key ask a store' later
    unexchanged ask e a store' later loaded told still logs pairs value opens = record {
      made = [];
      loaded = loaded;
      told = told;
      keys = logs.keys;
      values = logs.values;
      own_is = logs.own_is;
      logged = logs.logged;
      longer = logs.longer;
      few = logs.few;
      tables_few = logs.tables_few;
      grown = logs.grown;
      coded = λ at. ap (λ z. word_of g c z at) none_made ∙ coded at ∙ sym (logs.words at);
      hints = logs.hints;
      there = λ t some comes. there t some (subst (λ z. Comes z t) none_made comes);
      slots = λ t x p h. inl (t, x, ap (λ z. named (z.slot t x)) (sym none_made) ∙ h);
      unchanged = λ none. (sym still ∙ sym (changed ask e a [] loaded told) ∙ none, λ t x p h. (t, x, ap (λ z. named (z.slot t x)) (sym none_made) ∙ h));
      last = pairs.last;
      carried = pairs.carried;
      new = pairs.new;
      value = value;
      opens = opens;
    }

    -- the arena as it was; the count may differ
    pub same_logs : own_key store r ≡ own → (count : Count) → HasLogs key (record store { count = count }) r
    same_logs owns count = record {
      keys = λ at k h. h;
      values = λ at v h. h;
      own_is = owns;
      logged = λ n p h. h;
      longer = omega arith;
      few = λ h.
          h;
      tables_few = λ h. h;
      grown = grown-same store.words.tables;
      words = λ at. refl;
      hints = λ n i. inl refl;
    }

    -- an answer that leaves words, arena and call, but may change the count
    pub quiet : own_key store r ≡ own → (ask : Ask) → ask_of r.machine ≡ ask
        → (a : Answer) (store' : StoreState K V S) (later : Running K V A) (loaded : LoadedPairs (Stored K V)) (count : Count)
        → store' ≡ record store { count = count } → later ≡ r
        → Tells key ask a [] loaded
        → change_by (kind_of_ask r.machine) ask a (change_in r.machine.call.state) ≡ change_in r.machine.call.state
        → ((p : Stored K V) → loaded.call.last ≡ Some p → (call_trace.loaded.call.last ≡ Some p) ⊎ Stands words_now p)
        → ((p : Stored K V) → loaded.kept ≡ Some p → (call_trace.loaded.kept ≡ Some p) ⊎ (call_trace.loaded.call.last ≡ Some p))
        → loaded.call.made ≡ call_trace.loaded.call.made
        → ((t : ℕ) → a ≡ answers.Call (Made_number t) → ((slots : ℕ) × (limit : ℕ) × (chunks : ℕ) × (ask ≡ asks.Call (MakeTable slots limit chunks)))
        ⊎ ((slots : ℕ) × (limit : ℕ) × (chunks : ℕ) × (ask ≡ asks.Copy (Make_next slots limit chunks))) → ⊥)
        → IsAnswered key ask a store' later
    quiet owns ask e a store' later loaded count same_store same_call told still last carried made never =
        subst (λ y. IsAnswered key ask a y later) (sym same_store) (subst (IsAnswered key ask a (record store { count = count })) (sym same_call)
        (unexchanged ask e a (record store { count = count }) r loaded told still (same_logs owns count)
        (record { last = last; carried = carried; new = λ q h. inl (subst (λ l. IsOneOf l q) made h) })
        (inl (same_value (record store { count = count }) (λ at v h. h)))
        (λ t is which. absurd (never t is which))))

    -- an exchange that was made
    pub exchanged : own_key store r ≡ own → (ask : Ask) → ask_of r.machine ≡ ask
        → (at : At) (new : ℕ) (by : Exchange (Stored K V)) (loaded : LoadedPairs (Stored K V))
        → Tells key ask (answers.Call Exchanged) (by ∷ []) loaded
        → IsPlaced store.words.tables at
        → IsWritten g c words_now at new (state_after words_now by)
        → ((t : ℕ) → 0 < t → Comes (state_after words_now by) t → IsMade store t)
        → ((t x : ℕ) (p : Stored K V) → named ((state_after words_now by).slot t x) ≡ Some p → Stands words_now p ⊎ IsOneOf call_trace.loaded.call.made p)
        → (change_in (after r.machine (answers.Call Exchanged)).call.state ≡ None → (change_in r.machine.call.state ≡ None)
        × ((t x : ℕ) (p : Stored K V) → named ((state_after words_now by).slot t x) ≡ Some p → Stands words_now p))
        → ((p : Stored K V) → loaded.call.last ≡ Some p → (call_trace.loaded.call.last ≡ Some p) ⊎ Stands words_now p)
        → loaded.kept ≡ call_trace.loaded.kept → loaded.call.made ≡ call_trace.loaded.call.made
        → IsAnswered key ask (answers.Call Exchanged) (record store { words = put store.words at new }) r
    exchanged owns ask e at new by loaded told placed written comes slots unchanged last kept made =
        let to : run (es ++ by ∷ []) start ≡ state_after words_now by = run-append es (by ∷ []) start in
        record {
          made = by ∷ [];
          loaded = loaded;
          told = told;
          keys = λ k j h. h;
          values = λ at v h. h;
          own_is = owns;
          logged = λ n p h. h;
          longer = omega arith;
          few = λ h. h;
          tables_few = λ h. let many = placed-many store.words at new placed in omega (arith, many, h);
          grown = placed-grown store.words at new placed;
          coded = λ other. ap (λ z. word_of g c z other) to ∙ written_at other;
          hints = λ n i. inl (placed-hints store.words at new placed n i);
          there = λ t some h. comes t some (subst (λ z. Comes z t) to h);
          slots = λ t y p h. slots t y p (ap (λ z. named (z.slot t y)) (sym to) ∙ h);
          unchanged = λ none. let u = unchanged none in (u.0, λ t y p h. u.1 t y p (ap (λ z. named (z.slot t y)) (sym to) ∙ h));
          last = last;
          carried = λ p h. inl (sym kept ∙ h);
          new = λ q h. inl (subst (λ l. IsOneOf l q) made h);
          value = inl (same_value (record store { words = put store.words at new }) (λ at v h. h));
          opens = λ t is which. absurd cc;
        }
      where
        written_at : (other : At) → word_of g c (state_after words_now by) other ≡ word_at (put store.words at new) other
        written_at other = elim (cases_place other at) [
          | inl same ↦ ap (word_of g c (state_after words_now by)) same ∙ written.here ∙ sym (placed-here store.words at new placed)
              ∙ ap (word_at (put store.words at new)) (sym same)
          | inr differ ↦ written.others other differ ∙ coded other ∙ sym (placed-other store.words at new placed other differ)
        ]

    -- an answer to the call itself, which is not in the trace of its copy
    pub own_told : (ask : Call_ask) (a : Call_answer) (made : List (Exchange (Stored K V))) (loaded : Call_loaded (Stored K V))
        → IsTrueOfCall g c key words_now (kind_of_ask r.machine) call_trace.loaded.call ask a made loaded
        → Tells key (asks.Call ask) (answers.Call a) made (record call_trace.loaded { call = loaded })
    own_told ask a made loaded told = record { told = a; is = refl; call = loaded; tells = told; handed = refl }

  -- the pair that the word at a place names
  named_last : (last : Option (Stored K V)) (t x : ℕ) (p : Stored K V) (o : Option (Stored K V)) → named (words_now.slot t x) ≡ o
      → or_last o last ≡ Some p → (last ≡ Some p) ⊎ Stands words_now p
  named_last last t x p None e h = inl h
  named_last last t x p (Some q) e h = inr (t, x, e ∙ h)

  -- the last pair that a machine loaded was in the slot that was loaded, or had been loaded before
  pub told_last : (at : At) (p : Stored K V) → (told_of words_now at call_trace.loaded.call).last ≡ Some p → (call_trace.loaded.call.last ≡ Some p)
      ⊎ Stands words_now p
  told_last Root p h = inl h
  told_last (Next t) p h = inl h
  told_last Made p h = inl h
  told_last (Aborted t) p h = inl h
  told_last (Done t chunk) p h = inl h
  told_last (Slot t x) p h = named_last call_trace.loaded.call.last t x p (named (words_now.slot t x)) refl h

  -- the same for a copier
  pub copy_last : (at : At) (p : Stored K V) → copy_told_last words_now at call_trace.loaded.call.last ≡ Some p
      → (call_trace.loaded.call.last ≡ Some p) ⊎ Stands words_now p
  copy_last Root p h = inl h
  copy_last (Next t) p h = inl h
  copy_last Made p h = inl h
  copy_last (Aborted t) p h = inl h
  copy_last (Done t chunk) p h = inl h
  copy_last (Slot t x) p h = named_last call_trace.loaded.call.last t x p (named (words_now.slot t x)) refl h

  -- a load does not change the record of the pairs that the call made
  pub told_made : (at : At) → (told_of words_now at call_trace.loaded.call).made ≡ call_trace.loaded.call.made
  told_made Root = refl
  told_made (Next t) = refl
  told_made Made = refl
  told_made (Aborted t) = refl
  told_made (Done t chunk) = refl
  told_made (Slot t x) = refl
