-- A key, a value, a pair or a table that was to be made.
use Rattle.std.proofs.Common.{◌≡◌, ℕ, ◌+◌, ◌<◌, ◌≤◌, List, [], ◌∷◌, ◌++◌, length, Option, Some, ◌⊎◌, inl, inr, refl, sym, ◌∙◌, ap, subst, arith, length-append}
use Rattle.papaya_words.specs.Table.{new_table}
use Rattle.papaya_words.specs.declared.limits.TheConstants.{MAX_TABLES, MAX_LOG_LEN}
use Rattle.papaya_words.specs.declared.refused.Refused.{Refused}
use Rattle.papaya_words.specs.declared.refused.Refused.TheVariants.{Memory, Capacity}
use Rattle.papaya_call.specs.declared.ask.At.{At}
use Rattle.papaya_call.specs.declared.ask.Ask.{Ask as Call_ask}
use Rattle.papaya_call.specs.declared.ask.Ask.TheVariants.{MakePair, MakePairOf, MakeTable}
use Rattle.papaya_call.specs.declared.ask.Answer.{Answer as Call_answer}
use Rattle.papaya_call.specs.declared.ask.Answer.TheVariants.{Made as Made_number, Refused as Was_refused}
use Rattle.papaya_call.specs.declared.copy_ask.CopyAsk.TheVariants.{MakeTable as Make_next}
use Rattle.papaya_words_law.specs.Code.{Coding, IsHashed}
use Rattle.papaya_words_law.specs.Exchange.{Exchange, Setting, run, start}
use Rattle.papaya_words_law.specs.Grows.{Comes}
use Rattle.papaya_call_law.specs.Relies.{change_in, change_after}
use Rattle.papaya_call_law.specs.TrueAnswers.{IsTrueOf as IsTrueOfCall, LoadedPairs as Call_loaded, word_of}
use Rattle.papaya_call.specs.declared.chain.ask.Ask.{Ask}
use Rattle.papaya_call.specs.declared.chain.ask.Ask.TheVariants as asks
use Rattle.papaya_call.specs.declared.chain.ask.Answer.{Answer}
use Rattle.papaya_call.specs.declared.chain.ask.Answer.TheVariants as answers
use Rattle.papaya_call.specs.ChainMachine.{ask_of, kind_of_ask}
use Rattle.papaya_call_law.specs.Goes.{change_by}
use Rattle.papaya_call_law.specs.ChainRelies.{Relies}
use Rattle.papaya_call_law.specs.ChainAnswers.{LoadedPairs}
use Rattle.papaya_core_store.specs.declared.pairs.Pair.{Pair}
use Rattle.papaya_core_store.specs.declared.pairs.Part.{Part}
use Rattle.papaya_core_store.specs.declared.pairs.Part.TheVariants.{Logged}
use Rattle.papaya_core_store.specs.declared.pairs.Running.{Running}
use Rattle.papaya_core_timeline.specs.Kept.{CallTrace, IsMade}
use Rattle.papaya_core_store.specs.Pairs.{brought_by, key_in, pair_with, value_at, value_in}
use Rattle.papaya_core_store.specs.Performs.{Refuses, Stays, HasNoPair, HasNoPairOf, IsPutOff, PushesOf, PushesOwn, PushesPair, MakesTable, own_key, own_value}
use Rattle.papaya_core_store.specs.Store.{StoreState, Stored, pair_of}
use Rattle.papaya_core_store.specs.Tables.{hint_at, table_of, word_at}
use Rattle.papaya_core_timeline.proofs.KeptAnswer.{IsAnswered, Tells, own_told, quiet, same_loaded, same_value, unexchanged}
use Rattle.papaya_core_store.proofs.Logs.{key-more, key_from-same, of_logged, own_logged, pair-more, pair_logged, value-more}
use Rattle.papaya_core_timeline.proofs.KeptTables.{HasMoreTables, grown-same, made-grown, made-there, word-made}
use Rattle.papaya_core_timeline.proofs.CallersLemmas.{same_item}
use Rattle.papaya_core_timeline.proofs.KeptHints.{made-hints}

-- nothing was made: it was refused
pub refusal : (most count : ℕ) (a : Call_answer) → Refuses most count a → (refused : Refused) × (a ≡ Was_refused refused)
refusal most count a (inl e) = (Memory, e)
refusal most count a (inr (e, full)) = (Capacity, e)

module _ {Q K V S A : Type 0} (g : Setting Q (Stored K V)) (c : Coding Q (Stored K V)) (store : StoreState K V S) (r : Running K V A)
    (es : List (Exchange (Stored K V))) (call_trace : CallTrace K V) (own : Option K)
    (hashed : IsHashed g c) (key : Q) (relies : Relies g c call_trace.begun call_trace.since key r.machine call_trace.loaded)
    (coded : (at : At) → word_of g c (run es start) at ≡ word_at store.words at)
    (there : (t : ℕ) → 0 < t → Comes (run es start) t → IsMade store t)
    (owns : own_key store r ≡ own) where
  -- the effect of an answer, given the ask
  abbrev Leaves : Ask → Answer → StoreState K V S → Running K V A → Type 0
  Leaves ask a store' later = IsAnswered g c store r es call_trace own key ask a store' later

  -- the record of it
  abbrev Hears : Ask → Answer → LoadedPairs (Stored K V) → Type 0
  Hears ask a loaded = Tells g c store r es call_trace own key ask a [] loaded

  -- a new number is no table's
  abbrev MadeBy : Ask → Answer → StoreState K V S → Type 0
  MadeBy ask a store' = (t : ℕ) → a ≡ answers.Call (Made_number t)
      → ((slots : ℕ) × (limit : ℕ) × (chunks : ℕ) × (ask ≡ asks.Call (MakeTable slots limit chunks)))
      ⊎ ((slots : ℕ) × (limit : ℕ) × (chunks : ℕ) × (ask ≡ asks.Copy (Make_next slots limit chunks))) → IsMade store' t

  -- an answer that nothing was made
  nothing_made : (ask : Ask) → ask_of r.machine ≡ ask → (a : Answer) (store' : StoreState K V S) (later : Running K V A) → store' ≡ store → later ≡ r
      → Hears ask a call_trace.loaded
      → change_by (kind_of_ask r.machine) ask a (change_in r.machine.call.state) ≡ change_in r.machine.call.state
      → ((t : ℕ) → a ≡ answers.Call (Made_number t) → ((slots : ℕ) × (limit : ℕ) × (chunks : ℕ) × (ask ≡ asks.Call (MakeTable slots limit chunks)))
      ⊎ ((slots : ℕ) × (limit : ℕ) × (chunks : ℕ) × (ask ≡ asks.Copy (Make_next slots limit chunks))) → ⊥) → Leaves ask a store' later
  nothing_made ask e a store' later same_store same_call told still never =
      quiet g c store r es call_trace own hashed key relies coded there owns ask e a store' later call_trace.loaded store.count same_store same_call
      told still (λ p h. inl h) (λ p h. inl h) refl never

  -- the record of an ask of the call itself
  told_own : (ask : Call_ask) (a : Call_answer) (loaded : Call_loaded (Stored K V))
      → IsTrueOfCall g c key (run es start) (kind_of_ask r.machine) call_trace.loaded.call ask a [] loaded
      → Hears (asks.Call ask) (answers.Call a) (record call_trace.loaded { call = loaded })
  told_own ask a loaded told = own_told g c store r es call_trace own hashed key relies coded there ask a [] loaded told

  -- a call's own ask, if nothing was made
  own_nothing : (ask : Call_ask) → ask_of r.machine ≡ asks.Call ask → (a : Call_answer) (store' : StoreState K V S) (later : Running K V A)
      → store' ≡ store → later ≡ r → IsTrueOfCall g c key (run es start) (kind_of_ask r.machine) call_trace.loaded.call ask a [] call_trace.loaded.call
      → change_after (kind_of_ask r.machine) ask a (change_in r.machine.call.state) ≡ change_in r.machine.call.state
      → ((t : ℕ) → a ≡ Made_number t → (slots limit chunks : ℕ) → ask ≡ MakeTable slots limit chunks → ⊥)
      → Leaves (asks.Call ask) (answers.Call a) store' later
  own_nothing ask e a store' later same_store same_call told still never =
      nothing_made (asks.Call ask) e (answers.Call a) store' later same_store same_call (told_own ask a call_trace.loaded.call told) still
      (λ t is which. let told_is : a ≡ Made_number t = cc in
      elim which [
        | inl (slots, limit, chunks, f) ↦
            (let asked : ask ≡ MakeTable slots limit chunks = cc in never t told_is slots limit chunks asked)
        | inr (slots, limit, chunks, f) ↦ absurd cc
      ])

  -- a key or a value, which is stored in the arena together with a pair
  pub put_off : (ask : Call_ask) → ask_of r.machine ≡ asks.Call ask → (a : Call_answer) (store' : StoreState K V S) (later : Running K V A)
      → IsPutOff a store r store' later → IsTrueOfCall g c key (run es start) (kind_of_ask r.machine) call_trace.loaded.call ask a [] call_trace.loaded.call
      → change_after (kind_of_ask r.machine) ask a (change_in r.machine.call.state) ≡ change_in r.machine.call.state
      → ((slots limit chunks : ℕ) → ask ≡ MakeTable slots limit chunks → ⊥) → Leaves (asks.Call ask) (answers.Call a) store' later
  put_off ask e a store' later (is, stays) told still never = own_nothing ask e a store' later stays.0 stays.1 told still
      (λ t made slots limit chunks f. never slots limit chunks f)

  -- a pair of this key
  logged_pair : (ask : Call_ask) → ask_of r.machine ≡ asks.Call ask
      → (part left : Part K) (a : Call_answer) (store' : StoreState K V S) (later : Running K V A) → PushesPair part left a store r store' later → (k : K)
      → key_in store.pairs part ≡ Some k → own_key store' later ≡ own
      → ((q : Stored K V) → q.key ≡ k → c.number q ≡ q.number → a ≡ Made_number q.number
      → IsTrueOfCall g c key (run es start) (kind_of_ask r.machine) call_trace.loaded.call ask a []
      (record call_trace.loaded.call { made = q ∷ call_trace.loaded.call.made }))
      → ((q : Stored K V) → c.number q ≡ q.number) → ((part : Part V) → r.value ≡ Some part → (v : V) × (value_in store.pairs part ≡ Some v))
      → change_after (kind_of_ask r.machine) ask a (change_in r.machine.call.state) ≡ change_in r.machine.call.state
      → ((slots limit chunks : ℕ) → ask ≡ MakeTable slots limit chunks → ⊥) → Leaves (asks.Call ask) (answers.Call a) store' later
  logged_pair ask e part left a store' later logs k key_is own_is tells numbered valued still never =
      let (value, has, is, few, grown, moved) = logs in
      let more : List (Pair K V) = pair_with part value ∷ [] in
      let (v, is_value) = valued value has in
      let value_is : own_value store r ≡ Some v = ap (value_at store.pairs) has ∙ is_value in
      let l = pair_logged store r store' later part left a k v key_is value_is logs in
      let stored : Stored K V = record { number = length store.pairs; key = k; value = v } in
      let loaded : Call_loaded (Stored K V) = record call_trace.loaded.call { made = stored ∷ call_trace.loaded.call.made } in
      let long : length (store.pairs ++ more) ≡ length store.pairs + 1 = length-append store.pairs more in
      let longer : length store'.pairs ≡ length store.pairs + 1 = ap (λ (y : StoreState K V S). length y.pairs) grown ∙ long in
      unexchanged g c store r es call_trace own hashed key relies coded there (asks.Call ask) e (answers.Call a) store' later
      (record call_trace.loaded { call = loaded }) (told_own ask a loaded (tells stored refl (numbered stored) is)) still
      (record {
        keys = λ at j h. ap (λ (y : StoreState K V S). key_in y.pairs at) grown ∙ key-more store.pairs more at j h;
        values = λ at w h. ap (λ (y : StoreState K V S). value_in y.pairs at) grown ∙ value-more store.pairs more at w h;
        own_is = own_is;
        logged = λ m p h. ap (λ (y : StoreState K V S). pair_of y m) grown ∙ pair-more store more m p h;
        longer = omega (arith, longer);
        few = λ h. omega (arith, longer, few);
        tables_few = λ h. subst (λ (y : StoreState K V S). length y.words.tables ≤ MAX_TABLES) (sym grown) h;
        grown = subst (λ (y : StoreState K V S). HasMoreTables store.words.tables y.words.tables) (sym grown) (grown-same store.words.tables);
        words = λ at. ap (λ (y : StoreState K V S). word_at y.words at) grown;
        hints = λ m i. inl (ap (λ (y : StoreState K V S). hint_at y.words m i) grown);
      })
      (record {
        last = λ p h. inl h;
        carried = λ p h. inl h;
        new = λ q h. elim h [
          | inl f ↦ inr (
            ap (λ (y : Stored K V). y.number) f,
            value_is
                ∙ ap (λ (y : Stored K V). Some y.value) (sym f),
            subst (λ (y : Stored K V). pair_of store' y.number ≡ Some y) (sym f) l.pair,
          )
          | inr old ↦ inl old
        ];
      })
      (inl (record { same = λ w h. l.value ∙ sym value_is ∙ h; had = λ q h. (value, has) }))
      (λ t made which. elim which [
        | inl (slots, limit, chunks, f) ↦ absurd
            (let asked : ask ≡ MakeTable slots limit chunks = cc in never slots limit chunks asked)
        | inr (slots, limit, chunks, f) ↦ absurd cc
      ])

  -- for the call's own key
  pub pair_made : (k : K) → own ≡ Some k → ((q : Stored K V) → q.key ≡ k → g.key q ≡ key) → ((q : Stored K V) → c.number q ≡ q.number)
      → ((part : Part V) → r.value ≡ Some part → (v : V) × (value_in store.pairs part ≡ Some v))
      → ask_of r.machine ≡ asks.Call MakePair → (a : Call_answer) (store' : StoreState K V S) (later : Running K V A)
      → (Refuses MAX_LOG_LEN (length store.pairs) a × Stays store r store' later) ⊎ (HasNoPair a r × Stays store r store' later)
      ⊎ PushesOwn a store r store' later → Leaves (asks.Call MakePair) (answers.Call a) store' later
  pair_made k is_key keyed numbered valued e a store' later (inl (refuses, stays)) = let no = refusal _ _ a refuses in
      own_nothing MakePair e a store' later stays.0 stays.1 (inl (inl no, (refl, refl))) refl (λ t is slots limit chunks f. absurd cc)
  pair_made k is_key keyed numbered valued e a store' later (inr (inl (has, stays))) = own_nothing MakePair e a store' later stays.0 stays.1
      (inl (inr has.0, (refl, refl))) refl (λ t is slots limit chunks f. absurd cc)
  pair_made k is_key keyed numbered valued e a store' later (inr (inr logs)) =
      let (value, has, is, few, grown, moved) = logs in
      let (v, is_value) = valued value has in
      let known = own_logged store r store' later a k v (owns ∙ is_key) (ap (value_at store.pairs) has ∙ is_value) logs in
      logged_pair MakePair e r.key (Logged (brought_by (length store.pairs) r.key)) a store' later logs k (owns ∙ is_key) (known.1 ∙ sym is_key)
      (λ q same number made. inr (q, keyed q same, (made ∙ ap Made_number (sym number), refl, refl))) numbered valued refl (λ slots limit chunks f. absurd cc)

  -- for the key of the pair last loaded
  pub pair_of_made : (k : K) → own ≡ Some k → (n : ℕ) (p : Stored K V) → call_trace.loaded.call.last ≡ Some p → pair_of store n ≡ Some p
      → ((q : Stored K V) → q.key ≡ p.key → g.key q ≡ g.key p) → ((q : Stored K V) → c.number q ≡ q.number)
      → ((part : Part V) → r.value ≡ Some part → (v : V) × (value_in store.pairs part ≡ Some v)) → ask_of r.machine ≡ asks.Call (MakePairOf n)
      → (a : Call_answer) (store' : StoreState K V S) (later : Running K V A)
      → (Refuses MAX_LOG_LEN (length store.pairs) a × Stays store r store' later) ⊎ (HasNoPairOf n a store r × Stays store r store' later)
      ⊎ PushesOf n a store r store' later → Leaves (asks.Call (MakePairOf n)) (answers.Call a) store' later
  pair_of_made k is_key n p last as_loaded keyed numbered valued e a store' later (inl (refuses, stays)) = let no = refusal _ _ a refuses in
      own_nothing (MakePairOf n) e a store' later stays.0 stays.1 (inl (inl no, (refl, refl))) refl (λ t is slots limit chunks f. absurd cc)
  pair_of_made k is_key n p last as_loaded keyed numbered valued e a store' later (inr (inl (has, stays))) = own_nothing (MakePairOf n) e a store'
      later stays.0 stays.1 (inl (inr has.0, (refl, refl))) refl (λ t is slots limit chunks f. absurd cc)
  pair_of_made k is_key n p last as_loaded keyed numbered valued e a store' later (inr (inr (first, from, logs))) =
      let (value, has, is, few, grown, moved) = logs in
      let (v, is_value) = valued value has in
      let known = of_logged store r store' later a n p v as_loaded (ap (value_at store.pairs) has ∙ is_value) (first, from, logs) in
      logged_pair (MakePairOf n) e (Logged first) r.key a store' later logs p.key (key_from-same store n p as_loaded first from)
      (known.1 k (owns ∙ is_key) ∙ sym is_key)
      (λ q same number made. inr (
        q,
        (λ p' told number'. let f : p ≡ p' = same_item p p' (sym last ∙ told) in keyed q same ∙ ap g.key f),
        (made ∙ ap Made_number (sym number), refl, refl),
      )) numbered valued refl (λ slots limit chunks f. absurd cc)

  -- a table, for which a call or its copy asked
  pub table_made : (ask : Ask) → ask_of r.machine ≡ ask → (slots limit chunks : ℕ) (a : Call_answer) → Hears ask (answers.Call a) call_trace.loaded
      → change_by (kind_of_ask r.machine) ask (answers.Call a) (change_in r.machine.call.state) ≡ change_in r.machine.call.state
      → (store' : StoreState K V S) (later : Running K V A) → later ≡ r → (Refuses MAX_TABLES (length store.words.tables) a × (store' ≡ store))
      ⊎ MakesTable a slots limit chunks store store' → Leaves ask (answers.Call a) store' later
  table_made ask e slots limit chunks a told still store' later same_call (inl (refuses, same_store)) =
      let no = refusal _ _ a refuses in
      nothing_made ask e (answers.Call a) store' later same_store same_call told still
      (λ t is which. let f : answers.Call (Was_refused no.0) ≡ answers.Call (Made_number t) = sym (ap answers.Call no.1) ∙ is in absurd cc)
  table_made ask e slots limit chunks a told still store' later same_call (inr (is, few, grown)) =
      let n : ℕ = length store.words.tables + 1 in
      let wider : StoreState K V S = record store { words = record store.words { tables = store.words.tables ++ new_table n slots limit chunks ∷ [] } } in
      subst (λ y. Leaves ask (answers.Call a) y later) (sym grown) (subst (Leaves ask (answers.Call a) wider) (sym same_call)
      (unexchanged g c store r es call_trace own hashed key relies coded there ask e (answers.Call a) wider r call_trace.loaded told still
      (record {
        keys = λ at j h. h;
        values = λ at w h. h;
        own_is = owns;
        logged = λ m p h. h;
        longer = omega arith;
        few = λ h. h;
        tables_few = λ h. let more : length (store.words.tables ++ new_table n slots limit chunks ∷ []) ≡ length store.words.tables +
            1 = length-append store.words.tables (new_table n slots limit chunks ∷ []) in omega (arith, more, few);
        grown = made-grown store.words n slots limit chunks;
        words = word-made store.words n slots limit chunks;
        hints = λ m i. inl (made-hints store.words n slots limit chunks m i);
      })
      (same_loaded g c store r es call_trace own wider) (inl (same_value g c store r es call_trace own wider (λ at w h. h)))
      (λ t is' which. let f : answers.Call (Made_number n) ≡ answers.Call (Made_number t) = sym (ap answers.Call is) ∙ is' in let g : n ≡ t = cc in (
        new_table n slots limit chunks,
        subst (λ y. table_of wider.words.tables y ≡ Some (new_table n slots limit chunks)) g
            (made-there store.words n slots limit chunks),
      ))))

  -- if memory runs out, nothing is made
  pub none_made : (ask : Ask) → ask_of r.machine ≡ ask → (a : Call_answer) (store' : StoreState K V S) (later : Running K V A)
      → Hears ask (answers.Call a) call_trace.loaded
      → change_by (kind_of_ask r.machine) ask (answers.Call a) (change_in r.machine.call.state) ≡ change_in r.machine.call.state
      → a ≡ Was_refused Memory → store' ≡ store → later ≡ r → Leaves ask (answers.Call a) store' later
  none_made ask e a store' later told still is same_store same_call = nothing_made ask e (answers.Call a) store' later same_store same_call told still
      (λ t is' which. let f : answers.Call (Was_refused Memory) ≡ answers.Call (Made_number t) = sym (ap answers.Call is) ∙ is' in absurd cc)
