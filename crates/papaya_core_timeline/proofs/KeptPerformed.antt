-- After each answered ask of a call itself the words obey the law of exchanges.
use Rattle.std.proofs.Common.{◌≡◌, ℕ, ◌+◌, ◌==◌, ◌<◌, Bool, ◌≤◌, List, [], ◌∷◌, ◌++◌, length, Some, inl, inr, ◌⊎◌, refl, sym, ◌∙◌, ap, subst, arith, MatchBool}
use Rattle.papaya_words.specs.declared.limits.TheConstants.{MAX_TABLES}
use Rattle.papaya_words.specs.declared.refused.Refused.{Refused}
use Rattle.papaya_words.specs.declared.refused.Refused.TheVariants.{Memory}
use Rattle.papaya_call.specs.Answers.{Says}
use Rattle.papaya_call.specs.declared.ask.At.{At}
use Rattle.papaya_call.specs.declared.ask.At.TheVariants.{Root}
use Rattle.papaya_call.specs.declared.ask.Ask.{Ask as Call_ask}
use Rattle.papaya_call.specs.declared.ask.Ask.TheVariants.{Load, Exchange as Ask_exchange, LoadHint}
use Rattle.papaya_call.specs.declared.ask.Ask.TheVariants.{WriteHint, SameKey, ShowNone, ShowPair}
use Rattle.papaya_call.specs.declared.ask.Ask.TheVariants.{SizeOf, MakeKey, MakeValue, MakePair}
use Rattle.papaya_call.specs.declared.ask.Ask.TheVariants.{MakePairOf, MakeTable, AddToShard}
use Rattle.papaya_call.specs.declared.ask.Ask.TheVariants.{Done as Ask_done}
use Rattle.papaya_call.specs.declared.ask.Answer.{Answer as Call_answer}
use Rattle.papaya_call.specs.declared.ask.Answer.TheVariants.{Word as Word_read, Exchanged}
use Rattle.papaya_call.specs.declared.ask.Answer.TheVariants.{Found as Found_instead, Yes, Size}
use Rattle.papaya_call.specs.declared.ask.Answer.TheVariants.{Made as Made_number, Ok as Ok_done}
use Rattle.papaya_call.specs.declared.ask.Answer.TheVariants.{Refused as Was_refused}
use Rattle.papaya_call.specs.declared.copy_ask.CopyAsk.TheVariants.{MakeTable as Make_next}
use Rattle.papaya_words_law.specs.Allows.{AllAllowed}
use Rattle.papaya_words_law.specs.Class.{IsOn}
use Rattle.papaya_words_law.specs.Code.{Coding, IsHashed}
use Rattle.papaya_words_law.specs.Exchange.{Exchange, Setting, run, start}
use Rattle.papaya_words_law.specs.Grows.{Comes}
use Rattle.papaya_call_law.specs.Relies.{change_in, change_after}
use Rattle.papaya_call_law.specs.TrueAnswers.{LoadedPairs as Call_loaded, IsTrueOf as IsTrueOfCall, IsAsked, told_of, word_of}
use Rattle.papaya_call_law.proofs.ReliesNames.{IsNamed, ask_named}
use Rattle.papaya_call.specs.declared.chain.ask.Ask.TheVariants as asks
use Rattle.papaya_call.specs.declared.chain.ask.Answer.TheVariants as answers
use Rattle.papaya_call.specs.ChainMachine.{ask_of, kind_of_ask}
use Rattle.papaya_call_law.specs.Goes.{link_in}
use Rattle.papaya_call_law.specs.ChainRelies.{Relies}
use Rattle.papaya_call_law.proofs.Names.{call_asks}
use Rattle.papaya_call.specs.declared.copy.link.Link.TheVariants.{Linking}
use Rattle.papaya_core_store.specs.declared.pairs.Running.{Running}
use Rattle.papaya_core_timeline.specs.Kept.{CallTrace, IsMade, IsMadeFor, coding_of, low, places_in, setting_of, slots_in}
use Rattle.papaya_core_store.specs.Performs.{Exchanges, MakesTable, Performs, Refuses, own_key, same, size_of}
use Rattle.papaya_core_store.specs.Store.{StoreState, Stored, pair_of}
use Rattle.papaya_core_store.specs.Tables.{hint_at, note, word_at, put}
use Rattle.papaya_core_timeline.proofs.ShowLemmas.{IsShowing, none_shown, pair_shown}
use Rattle.papaya_core_timeline.proofs.StoreLemmas.{matched}
use Rattle.papaya_core_timeline.proofs.KeptAnswer.{IsAnswered, Stands, own_told, quiet, same_loaded, same_value, told_last, told_made, unexchanged}
use Rattle.papaya_core_timeline.proofs.KeptMade.{none_made, pair_made, pair_of_made, put_off, refusal, table_made}
use Rattle.papaya_core_timeline.proofs.KeptTables.{grown-same}
use Rattle.papaya_core_timeline.proofs.KeptWritten.{call_exchanged, on_there}
use Rattle.papaya_core_timeline.proofs.KeptHints.{noted-grown, noted-keeps, noted-many, noted-words}
use Rattle.papaya_words_law.specs.Hints.{IsHint}
use Rattle.papaya_call_law.proofs.ReliesHints.{machine_may_hint}
use Rattle.papaya_core_store.specs.declared.store.Mode.{Mode}
use Rattle.papaya_call.specs.declared.call.Task.TheVariants as tasks
use Rattle.papaya_core_store.specs.declared.pairs.Part.{Part}
use Rattle.papaya_core_store.specs.Pairs.{value_at, value_in}
use Rattle.papaya_call_law.proofs.ReliesCopied.{machine_copied}

-- the setting and the coding of a store whose calls are by keys of the map
abbrev pub law_setting : {K V S : Type 0} → (K → K → Bool) → (K → ℕ) → Mode → StoreState K V S → Setting K (Stored K V)
law_setting eq hash mode store = setting_of eq (low hash) mode store.words.tables

abbrev pub law_coding : {K V : Type 0} → (K → ℕ) → Coding K (Stored K V)
law_coding hash = coding_of (low hash)

module _ {K V S A : Type 0} (eq : K → K → Bool) (says : Says K V A) (hash : K → ℕ) (mode : Mode) (store : StoreState K V S) (r : Running K V A)
    (es : List (Exchange (Stored K V))) (call_trace : CallTrace K V)
    (hashed : IsHashed (law_setting eq hash mode store) (law_coding hash)) (key : K)
    (split : call_trace.begun ++ call_trace.since ≡ es) (may : AllAllowed (law_setting eq hash mode store) start (call_trace.begun ++ call_trace.since))
    (relies : Relies (law_setting eq hash mode store) (law_coding hash) call_trace.begun call_trace.since key r.machine call_trace.loaded)
    (coded : (at : At) → word_of (law_setting eq hash mode store) (law_coding hash) (run es start) at ≡ word_at store.words at)
    (there : (t : ℕ) → 0 < t → Comes (run es start) t → IsMade store t)
    (hints : (t x : ℕ) → IsHint (law_setting eq hash mode store) (law_coding hash) (run es start) t x (hint_at store.words t x))
    (last : (p : Stored K V) → call_trace.loaded.call.last ≡ Some p → pair_of store p.number ≡ Some p)
    (valued : (part : Part V) → r.value ≡ Some part → (v : V) × (value_in store.pairs part ≡ Some v))
    (opens : (t : ℕ) → ask_of r.machine ≡ asks.Call (Ask_exchange Root 0 t) → IsMade store t)
    (links : (behind t chunks : ℕ) → link_in r.machine.phase ≡ Some (Linking behind t chunks) → IsMadeFor store t chunks)
    (own : own_key store r ≡ Some key) where
  -- the effect of an answer, given the ask
  abbrev Leaves : Call_ask → Call_answer → StoreState K V S → Running K V A → Type 0
  Leaves ask a store' later = IsAnswered (law_setting eq hash mode store) (law_coding hash) store r es call_trace (Some key) key (asks.Call ask)
      (answers.Call a) store' later

  -- the record of the call
  abbrev Hears : Call_ask → Call_answer → Call_loaded (Stored K V) → Type 0
  Hears ask a loaded = IsTrueOfCall (law_setting eq hash mode store) (law_coding hash) key (run es start) (kind_of_ask r.machine) call_trace.loaded.call
      ask a [] loaded

  -- no table was made
  abbrev NoTable : Call_ask → Call_answer → Type 0
  NoTable ask a = (t : ℕ) → answers.Call a ≡ answers.Call (Made_number t)
      → ((slots : ℕ) × (limit : ℕ) × (chunks : ℕ) × (asks.Call ask ≡ asks.Call (MakeTable slots limit chunks)))
      ⊎ ((slots : ℕ) × (limit : ℕ) × (chunks : ℕ) × (asks.Call ask ≡ asks.Copy (Make_next slots limit chunks))) → ⊥

  -- an ask that has no effect but its record
  answered_quietly : (ask : Call_ask) → ask_of r.machine ≡ asks.Call ask
      → (a : Call_answer) (store' : StoreState K V S) (later : Running K V A) (loaded : Call_loaded (Stored K V)) → store' ≡ store → later ≡ r
      → Hears ask a loaded
      → change_after (kind_of_ask r.machine) ask a (change_in r.machine.call.state) ≡ change_in r.machine.call.state
      → ((p : Stored K V) → loaded.last ≡ Some p → (call_trace.loaded.call.last ≡ Some p) ⊎ Stands (run es start) p)
      → loaded.made ≡ call_trace.loaded.call.made → NoTable ask a → Leaves ask a store' later
  answered_quietly ask e a store' later loaded same_store same_call told still stood made never =
      quiet (law_setting eq hash mode store) (law_coding hash) store r es call_trace (Some key) hashed key relies coded there own (asks.Call ask) e
      (answers.Call a) store' later (record call_trace.loaded { call = loaded }) store.count same_store same_call
      (own_told (law_setting eq hash mode store) (law_coding hash) store r es call_trace (Some key) hashed key relies coded there ask a [] loaded
      told) still stood (λ p h. inl h) made never

  -- a call of a closure
  shown : (Computes : Type 0) (ask : Call_ask)
      → (Computes → (asks.Call ask ≡ asks.Call ShowNone) ⊎ ((n : ℕ) × (asks.Call ask ≡ asks.Call (ShowPair n)) × (r.machine.call.task ≡ tasks.Compute)))
      → ask_of r.machine ≡ asks.Call ask → (a : Call_answer) (store' : StoreState K V S) (later : Running K V A)
      → IsShowing Computes store r a store' later → Hears ask a call_trace.loaded.call
      → change_after (kind_of_ask r.machine) ask a (change_in r.machine.call.state) ≡ change_in r.machine.call.state → NoTable ask a → Leaves ask a store' later
  shown Computes ask computes e a store' later showing told still never = elim showing.call [
    | inl as_was ↦ answered_quietly ask e a store' later call_trace.loaded.call showing.store as_was told still (λ p h. inl h) refl never
    | inr (v, x, other, of) ↦
        let call : Running K V A = record r { value = v; answers = Some x } in
        subst (λ z. Leaves ask a z later) (sym showing.store) (subst (Leaves ask a store) (sym other)
        (unexchanged (law_setting eq hash mode store) (law_coding hash) store r es call_trace (Some key) hashed key relies coded there (asks.Call ask)
        e (answers.Call a) store call call_trace.loaded
        (own_told (law_setting eq hash mode store) (law_coding hash) store r es call_trace (Some key) hashed key relies coded there ask a []
        call_trace.loaded.call told) still
        (record {
          keys = λ at j h. h;
          values = λ at w h. h;
          own_is = own;
          logged = λ m q h. h;
          longer = omega arith;
          few = λ h. h;
          tables_few = λ h.
              h;
          grown = grown-same store.words.tables;
          words = λ at. refl;
          hints = λ m i. inl refl;
        })
        (same_loaded (law_setting eq hash mode store) (law_coding hash) store r es call_trace (Some key) store)
        (elim of [
          | inl kept ↦ inl (record { same = λ w h. ap (value_at store.pairs) kept ∙ h; had = λ part has. (part, sym kept ∙ has) })
          | inr (w, is, said, shows) ↦ inr (record { value = w; is = is; told = ap answers.Call said; shown = computes shows })
        ])
        (λ t is which. absurd (never t is which))))
  ]

  -- an exchange, made or lost
  exchanged : (at : At) (old new : ℕ) → ask_of r.machine ≡ asks.Call (Ask_exchange at old new)
      → (a : Call_answer) (store' : StoreState K V S) (later : Running K V A)
      → Exchanges (word_at store.words at) old (put store.words at new) a store store' → later ≡ r → Leaves (Ask_exchange at old new) a store' later
  exchanged at old new e a store' later h same_call =
      matched (Leaves (Ask_exchange at old new) a store' later) (word_at store.words at == old) _ _ h
      (λ hit done. subst (λ y. Leaves (Ask_exchange at old new) y store' later) (sym done.0)
      (subst (λ y. Leaves (Ask_exchange at old new) Exchanged y later) (sym done.1)
      (subst (Leaves (Ask_exchange at old new) Exchanged (record store { words = put store.words at new })) (sym same_call)
      (call_exchanged (law_setting eq hash mode store) (law_coding hash) store r es call_trace (Some key) hashed key split may relies coded there
      opens links own (λ t. refl) (λ t. refl) at old new e hit))))
      (λ miss lost.
      let g = law_setting eq hash mode store in
      let c = law_coding hash in
      let now = run es start in
      let loaded : Call_loaded (Stored K V) = told_of now at call_trace.loaded.call in
      let nothing : List (Exchange (Stored K V)) = [] in
      let is : a ≡ Found_instead (word_of g c now at) = lost.0 ∙ ap Found_instead (sym (coded at)) in
      answered_quietly (Ask_exchange at old new) e a store' later loaded lost.1 same_call
      (subst (λ b. MatchBool b
      ((a ≡ Exchanged) × ((y : Exchange (Stored K V)) × IsAsked g c key (kind_of_ask r.machine) at new now call_trace.loaded.call y
      × (nothing ≡ y ∷ [])) × (loaded ≡ call_trace.loaded.call))
      ((a ≡ Found_instead (word_of g c now at)) × (nothing ≡ nothing) × (loaded ≡ loaded)))
      (sym (ap (λ y. y == old) (coded at) ∙ miss)) (is, refl, refl))
      (ap (λ y. change_after (kind_of_ask r.machine) (Ask_exchange at old new) y (change_in r.machine.call.state)) is)
      (told_last (law_setting eq hash mode store) (law_coding hash) store r es call_trace (Some key) at)
      (told_made (law_setting eq hash mode store) (law_coding hash) store r es call_trace (Some key) at)
      (λ t f which. elim which [ inl (slots, limit, chunks, g) ↦ absurd cc | inr (slots, limit, chunks, g) ↦ absurd cc ]))

  -- no table is made unless one was asked for
  untabled : (ask : Call_ask) (a : Call_answer) → ((slots limit chunks : ℕ) → ask ≡ MakeTable slots limit chunks → ⊥) → NoTable ask a
  untabled ask a none t is which = elim which [
    | inl (slots, limit, chunks, f) ↦ (let asked : ask ≡ MakeTable slots limit chunks = cc in none slots limit chunks asked)
    | inr
        (slots, limit, chunks, f) ↦ absurd cc
  ]

  -- a table was made, or none
  table_told : (slots limit chunks : ℕ) (a : Call_answer) (store' : StoreState K V S)
      → (Refuses MAX_TABLES (length store.words.tables) a × (store' ≡ store)) ⊎ MakesTable a slots limit chunks store store'
      → (((refused : Refused) × (a ≡ Was_refused refused)) ⊎ (a ≡ Ok_done)) ⊎ ((n : ℕ) × (0 < n) × (a ≡ Made_number n))
  table_told slots limit chunks a store' (inl (refuses, same_store)) = inl (inl (refusal _ _ a refuses))
  table_told slots limit chunks a store' (inr (is, few, grown)) = inr (length store.words.tables + 1, omega arith, is)

  -- each ask
  pub answered_call : (refuse : Bool) (ask : Call_ask) → ask_of r.machine ≡ asks.Call ask
      → (a : Call_answer) (store' : StoreState K V S) (later : Running K V A) → Performs eq says refuse ask store r a store' later → Leaves ask a store' later
  answered_call refuse (Load at) e a store' later (is, stays) =
      answered_quietly (Load at) e a store' later (told_of (run es start) at call_trace.loaded.call) stays.0 stays.1
      (is ∙ ap Word_read (sym (coded at)), refl, refl) refl
      (told_last (law_setting eq hash mode store) (law_coding hash) store r es call_trace (Some key) at)
      (told_made (law_setting eq hash mode store) (law_coding hash) store r es call_trace (Some key) at)
      (untabled (Load at) a (λ slots limit chunks f. absurd cc))
  answered_call refuse (Ask_exchange at old new) e a store' later (h, same_call) = exchanged at old new e a store' later h same_call
  answered_call refuse (LoadHint t x) e a store' later (is, stays) =
      answered_quietly (LoadHint t x) e a store' later call_trace.loaded.call stays.0 stays.1
      ((hint_at store.words t x, hints t x, is), (refl, refl)) refl (λ p h. inl h) refl
      (untabled (LoadHint t x) a (λ slots limit chunks f. absurd cc))
  answered_call refuse (WriteHint t x n) e a store' later (is, same_store, same_call) =
      let g = law_setting eq hash mode store in
      let c = law_coding hash in
      let written : StoreState K V S = record store { words = note store.words t x n } in
      let guarantees_hint : IsHint g c (run es start) t x n =
      subst (λ l. IsHint g c (run l start) t x n) split
      (machine_may_hint g c call_trace.begun call_trace.since key r.machine.call call_trace.loaded.call relies.call t x n
      (call_asks r.machine (WriteHint t x n) e).1) in
      subst (λ z. Leaves (WriteHint t x n) a z later) (sym same_store) (subst (Leaves (WriteHint t x n) a written) (sym same_call)
      (unexchanged g c store r es call_trace (Some key) hashed key relies coded there (asks.Call (WriteHint t x n)) e (answers.Call a) written r
      call_trace.loaded
      (own_told g c store r es call_trace (Some key) hashed key relies coded there (WriteHint t x n) a [] call_trace.loaded.call (is, (refl, refl))) refl
      (record {
        keys = λ at j h. h;
        values = λ at w h. h;
        own_is = own;
        logged = λ m q h. h;
        longer = omega arith;
        few = λ h. h;
        tables_few = λ h. subst (λ l. l ≤ MAX_TABLES) (sym (noted-many store.words t x n)) h;
        grown = noted-grown store.words t x n;
        words = noted-words store.words t x n;
        hints = noted-keeps g c (run es start) store.words t x n guarantees_hint;
      })
      (same_loaded g c store r es call_trace (Some key) written) (inl (same_value g c store r es call_trace (Some key) written (λ at w h. h)))
      (λ u made which. absurd (untabled (WriteHint t x n) a (λ slots limit chunks f. absurd cc) u made which))))
  answered_call refuse (SameKey n) e a store' later (is, stays) =
      answered_quietly (SameKey n) e a store' later call_trace.loaded.call stays.0 stays.1 (
        (λ p l number. is ∙ ap (λ o. Yes (same eq o (pair_of store n))) own
            ∙ ap (λ o. Yes (same eq (Some key) o)) (subst (λ m. pair_of store m ≡ Some p) number (last p l))),
        (refl, refl),
      ) refl
      (λ p h. inl h) refl
      (untabled (SameKey n) a (λ slots limit chunks f. absurd cc))
  answered_call refuse ShowNone e a store' later h =
      let showing = none_shown says store r a store' later h in
      shown (Unit {0}) ShowNone (λ _. inl refl) e a store' later showing (showing.says, (refl, refl)) refl
      (untabled ShowNone a (λ slots limit chunks f. absurd cc))
  answered_call refuse (ShowPair n) e a store' later h =
      let showing = pair_shown says r.machine.call.task n store r a store' later h in
      shown (r.machine.call.task ≡ tasks.Compute) (ShowPair n) (λ computes. inr (n, refl, computes)) e a store' later showing
      (showing.says, (refl, refl)) refl (untabled (ShowPair n) a (λ slots limit chunks f. absurd cc))
  answered_call refuse (SizeOf n) e a store' later (is, stays) =
      let g = law_setting eq hash mode store in
      let c = law_coding hash in
      let m = r.machine.call in
      let on : IsOn (run (call_trace.begun ++ call_trace.since) start).first (run (call_trace.begun ++ call_trace.since) start).next
      n = subst (IsNamed g c hashed call_trace.begun call_trace.since may key) (call_asks r.machine (SizeOf n) e).1
      (ask_named g c hashed call_trace.begun call_trace.since may key call_trace.loaded.call m.task m.hash m.made m.state relies.call.stage) in
      let words = on_there (law_setting eq hash mode store) (law_coding hash) store r es call_trace (Some key) hashed key split may relies coded there
      opens links own (λ t. refl) (λ t. refl) n on in
      answered_quietly (SizeOf n) e a store' later call_trace.loaded.call stays.0 stays.1
      ((words.0.limit, sym (ap places_in words.1), is ∙ ap size_of words.1 ∙ ap (λ y. Size y words.0.limit) (sym (ap slots_in words.1))), (refl, refl)) refl
      (λ p h. inl h) refl
      (untabled (SizeOf n) a (λ slots limit chunks f. absurd cc))
  answered_call refuse MakeKey e a store' later h =
      matched (Leaves MakeKey a store' later) refuse _ _ h
      (λ _ none. none_made (law_setting eq hash mode store) (law_coding hash) store r es call_trace (Some key) hashed key relies coded there own
      (asks.Call MakeKey) e a store' later (own_told (law_setting eq hash mode store) (law_coding hash) store r es call_trace (Some key) hashed key
      relies coded there MakeKey a [] call_trace.loaded.call (inl (inl (Memory, none.0)), (refl, refl))) refl none.0 none.1.0 none.1.1)
      (λ _ makes. put_off (law_setting eq hash mode store) (law_coding hash) store r es call_trace (Some key) hashed key relies coded there own
      MakeKey e a store' later makes (inr (0, makes.0), (refl, refl)) refl (λ slots limit chunks f. absurd cc))
  answered_call refuse MakeValue e a store' later h =
      matched (Leaves MakeValue a store' later) refuse _ _ h
      (λ _ none. none_made (law_setting eq hash mode store) (law_coding hash) store r es call_trace (Some key) hashed key relies coded there own
      (asks.Call MakeValue) e a store' later (own_told (law_setting eq hash mode store) (law_coding hash) store r es call_trace (Some key) hashed
      key relies coded there MakeValue a [] call_trace.loaded.call (inl (inl (Memory, none.0)), (refl, refl))) refl none.0 none.1.0 none.1.1)
      (λ _ makes. put_off (law_setting eq hash mode store) (law_coding hash) store r es call_trace (Some key) hashed key relies coded there own
      MakeValue e a store' later makes (inr (0, makes.0), (refl, refl)) refl (λ slots limit chunks f. absurd cc))
  answered_call refuse MakePair e a store' later h =
      matched (Leaves MakePair a store' later) refuse _ _ h
      (λ _ none. none_made (law_setting eq hash mode store) (law_coding hash) store r es call_trace (Some key) hashed key relies coded there own
      (asks.Call MakePair) e a store' later (own_told (law_setting eq hash mode store) (law_coding hash) store r es call_trace (Some key) hashed key
      relies coded there MakePair a [] call_trace.loaded.call (inl (inl (Memory, none.0), (refl, refl)))) refl none.0 none.1.0 none.1.1)
      (λ _ makes. pair_made (law_setting eq hash mode store) (law_coding hash) store r es call_trace (Some key) hashed key relies coded there own key
      refl (λ q same. same) (λ q. refl) valued e a store' later makes)
  answered_call refuse (MakePairOf n) e a store' later h =
      let of = machine_copied (law_setting eq hash mode store) (law_coding hash) hashed call_trace.begun call_trace.since key call_trace.loaded.call
      r.machine.call relies.call n (call_asks r.machine (MakePairOf n) e).1 in
      matched (Leaves (MakePairOf n) a store' later) refuse _ _ h
      (λ _ none. none_made (law_setting eq hash mode store) (law_coding hash) store r es call_trace (Some key) hashed key relies coded there own
      (asks.Call (MakePairOf n)) e a store' later
      (own_told (law_setting eq hash mode store) (law_coding hash) store r es call_trace (Some key) hashed key relies coded there (MakePairOf n) a
      [] call_trace.loaded.call (inl (inl (Memory, none.0), (refl, refl)))) refl none.0 none.1.0 none.1.1)
      (λ _ makes. pair_of_made (law_setting eq hash mode store) (law_coding hash) store r es call_trace (Some key) hashed key relies coded there own
      key refl n of.0 of.1 (subst (λ i. pair_of store i ≡ Some of.0) of.2 (last of.0 of.1)) (λ q same. same) (λ q. refl) valued e a store' later makes)
  answered_call refuse (MakeTable slots limit chunks) e a store' later h =
      matched (Leaves (MakeTable slots limit chunks) a store' later) refuse _ _ h
      (λ _ none. none_made (law_setting eq hash mode store) (law_coding hash) store r es call_trace (Some key) hashed key relies coded there own
      (asks.Call (MakeTable slots limit chunks)) e a store' later
      (own_told (law_setting eq hash mode store) (law_coding hash) store r es call_trace (Some key) hashed key relies coded there
      (MakeTable slots limit chunks) a [] call_trace.loaded.call (inl (inl (Memory, none.0)), (refl, refl))) refl none.0 none.1.0 none.1.1)
      (λ _ makes. table_made (law_setting eq hash mode store) (law_coding hash) store r es call_trace (Some key) hashed key relies coded there own
      (asks.Call (MakeTable slots limit chunks)) e slots limit chunks a
      (own_told (law_setting eq hash mode store) (law_coding hash) store r es call_trace (Some key) hashed key relies coded there
      (MakeTable slots limit chunks) a [] call_trace.loaded.call (table_told slots limit chunks a store' makes.0, (refl, refl))) refl store' later
      makes.1 makes.0)
  answered_call refuse (AddToShard by) e a store' later (is, (number, same_store), same_call) =
      quiet (law_setting eq hash mode store) (law_coding hash) store r es call_trace (Some key) hashed key relies coded there own
      (asks.Call (AddToShard by)) e (answers.Call a) store' later call_trace.loaded _ same_store same_call
      (own_told (law_setting eq hash mode store) (law_coding hash) store r es call_trace (Some key) hashed key relies coded there (AddToShard by) a []
      call_trace.loaded.call (is, (refl, refl))) refl (λ p h. inl h) (λ p h. inl h) refl
      (untabled (AddToShard by) a (λ slots limit chunks f. absurd cc))
  answered_call refuse (Ask_done reply) e a store' later (is, stays) =
      answered_quietly (Ask_done reply) e a store' later call_trace.loaded.call stays.0 stays.1
      (is, (refl, refl)) refl (λ p h. inl h) refl
      (untabled (Ask_done reply) a (λ slots limit chunks f. absurd cc))
