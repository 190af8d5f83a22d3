-- A call that is made alone ends: each of its steps lowers a measure.
use Rattle.std.proofs.Common.{◌≡◌, inl, inr, ℕ, ◌^◌, ◌<◌, Bool, true, Option, None, Some, List, [], ◌++◌, refl, sym, ◌∙◌, ap, subst}
use Rattle.std.specs.Cmp.{IsEquivalence}
use mathlib.Core.Path.{fun_ext}
use Rattle.papaya_call.specs.Answers.{Says}
use Rattle.papaya_call.specs.declared.ask.At.TheVariants.{Root}
use Rattle.papaya_call.specs.declared.ask.Ask.TheVariants.{ShowPair}
use Rattle.papaya_call.specs.declared.call.Call.{Call}
use Rattle.papaya_call.specs.declared.call.Call.TheVariants.{Get, Insert, TryInsert, RemoveIf, Compute, Reserve, CopyAll, Clear, Retain, Walk}
use Rattle.papaya_call.specs.declared.call.Task.{Task}
use Rattle.papaya_words_law.specs.Allows.{AllAllowed}
use Rattle.papaya_words_law.specs.Code.{Coding, IsHashed}
use Rattle.papaya_words_law.specs.Exchange.{Exchange, Setting, State, run, start}
use Rattle.papaya_call.specs.declared.chain.ask.Ask.TheVariants as asks
use Rattle.papaya_call.specs.ChainMachine.{after, ask_of, follows_of, kind_of_ask}
use Rattle.papaya_call_law.specs.ChainAnswers.{IsTrueOf}
use Rattle.papaya_call_law.proofs.Names.{call_asks}
use Rattle.papaya_call_law.proofs.Order.{in_order}
use Rattle.papaya_call_law.specs.TrueAnswers.{word_of}
use Rattle.papaya_call_alone.specs.Ahead.{IsCurrent}
use Rattle.papaya_call_alone.specs.Budget.{Spends}
use Rattle.papaya_call_alone.specs.Prompt.{IsBounded, IsServedAsk}
use Rattle.papaya_call_alone.specs.Rank.{measure}
use Rattle.papaya_call_alone.proofs.ChainLaw.{call_current, call_nears}
use Rattle.papaya_core_store.specs.declared.pairs.Running.{Running}
use Rattle.papaya_core_store.specs.Store.{Stored, pair_of}
use Rattle.papaya_core_store.specs.Tables.{word_at}
use Rattle.papaya_words_keys.specs.Hashes.{hash_of}
use Rattle.papaya_core_timeline.specs.declared.seat.Seat.{Seat}
use Rattle.papaya_core_timeline.specs.declared.trace.Event.{Event}
use Rattle.papaya_core_timeline.specs.Advances.{Advances}
use Rattle.papaya_core_timeline.specs.Begins.{Begins, begun_work, handed, task_of_call, value_of_call}
use Rattle.papaya_core_timeline.specs.Callers.{running, with_call, with_seat, with_work}
use Rattle.papaya_core_timeline.specs.declared.seat.Work.{Work}
use Rattle.papaya_core_timeline.specs.declared.seat.Work.TheVariants as works
use Rattle.papaya_core_timeline.specs.Resized.{IsLoneWork}
use Rattle.papaya_call_alone.specs.Resizers.{IsResizerRead}
use Rattle.papaya_call_law.specs.Goes.{link_in}
use Rattle.papaya_call_law.specs.Copier.{HasWords}
use Rattle.papaya_core_timeline.proofs.LinkWords.{link_words}
use Rattle.papaya_call_alone.proofs.ResizerLaw.{begun_read}
use Rattle.papaya_core_timeline.proofs.Begun.{call_begun, resizer_begun_is, scanner_begun_is, task_is_own, the_task}
use Rattle.papaya_words.specs.declared.resize_mode.ResizeMode.{ResizeMode}
use Rattle.papaya_words.specs.declared.resize_mode.ResizeMode.TheVariants.{Incremental, Blocking}
use Rattle.papaya_call.specs.declared.chain.scanner.Scan.{Scan}
use Rattle.papaya_call.specs.Scanner.{begun}
use Rattle.papaya_call_alone.specs.Scanners.{IsScannerRead}
use Rattle.papaya_core_store.specs.declared.scans.Scanning.{Scanning}
use Rattle.papaya_core_timeline.specs.Core.{CoreState, IsCore}
use Rattle.papaya_core_timeline.specs.Ends.{HasValue, IsLone, IsMaker, IsNearer, IsToPair, budget_of, lone_measure}
use Rattle.papaya_core_timeline.specs.Kept.{CallTrace, IsCall, IsConsistent, IsLawfulCore, coding_of, low, setting_of, told_call_traces}
use Rattle.papaya_core_timeline.proofs.BudgetSpends.{budget_bounded, kept_bounded, performs_spends}
use Rattle.papaya_core_timeline.proofs.CallersLemmas.{same_item}
use Rattle.papaya_core_timeline.proofs.HeadlineLemmas.{advance-core}
use Rattle.papaya_core_timeline.proofs.KeptCore.{keys_lawful, performs-hasher}
use Rattle.papaya_core_timeline.proofs.KeptLemmas.{IsLawfulKeys, IsStep, hashed_setting, kept_step}
use Rattle.papaya_core_timeline.proofs.MachineLemmas.{machine_shows}
use Rattle.papaya_core_timeline.proofs.MakerSteps.{ask_served, next_maker}
use Rattle.papaya_core_timeline.proofs.SoloRun.{Follows, follows_begin, one_seat}
use Rattle.papaya_core_timeline.specs.Solo.{whatever}
use Rattle.papaya_call.specs.declared.ask.Ask.TheVariants.{MakePairOf}
use Rattle.papaya_call_law.proofs.ReliesCopied.{machine_copied}
use Rattle.papaya_call_law.specs.Alone.{IsNumberRead}
use Rattle.papaya_call.specs.Made.{wanted}
use Rattle.papaya_core_store.specs.declared.pairs.Part.TheVariants.{Own}
use Rattle.papaya_call.specs.ChainMachine.{started}
use Rattle.papaya_call.specs.declared.ask.At.{At}

-- an insertion begins with its value
module _ {K V A : Type 0} where
  begins_with : (call : Call K V A) (task : Task) → task ≡ the_task call → HasValue task (handed (value_of_call call))
  begins_with (Get k) task e = subst (λ t. HasValue {V = V} t None) (sym e) tt
  begins_with (Insert k v) task e = subst (λ t. HasValue t (Some (Own v))) (sym e) (Own v, refl)
  begins_with (TryInsert k v) task e = subst (λ t. HasValue t (Some (Own v))) (sym e) (Own v, refl)
  begins_with (RemoveIf k a) task e = subst (λ t. HasValue {V = V} t None) (sym e) tt
  begins_with (Compute k a) task e = subst (λ t. HasValue {V = V} t None) (sym e) tt
  begins_with (Reserve more) task e = subst (λ t. HasValue {V = V} t None) (sym e) tt
  begins_with CopyAll task e = subst (λ t. HasValue {V = V} t None) (sym e) tt
  begins_with Clear task e = subst (λ t. HasValue {V = V} t None) (sym e) tt
  begins_with (Retain a) task e = subst (λ t. HasValue {V = V} t None) (sym e) tt
  begins_with Walk task e = subst (λ t. HasValue {V = V} t None) (sym e) tt

  begun_value : (call : Call K V A) (task : Task) → task_of_call call ≡ Some task → HasValue task (handed (value_of_call call))
  begun_value call task is = begins_with call task (task_is_own call task is)

-- and makes no pair of a result of its closure, which was not called yet
begun_unpaired : (task : Task) (hash : ℕ) (mode : ResizeMode) (initial number : ℕ) (limit : Option ℕ)
    → IsToPair (started task hash mode initial number limit).call → ⊥
begun_unpaired task hash mode initial number limit (inl (purpose, e)) = cc
begun_unpaired task hash mode initial number limit (inr (old, new, e)) = cc

-- it has read no count of numbers
begun_number : (limit : Option ℕ) (words : At → ℕ) → IsNumberRead words (wanted limit)
begun_number None words = tt
begun_number (Some most) words = tt

module _ {K V S A : Type 0} (eq : K → K → Bool) (hash : S → K → ℕ) (s : CoreState K V S A) (law : IsLawfulKeys eq (hash s.store.hasher)) where
  -- a call that begins alone is a lone call
  pub lone_begin : (call : Call K V A) (s' : CoreState K V S A) → s.callers ≡ [] → IsLawfulCore eq (hash s.store.hasher) s.store s.callers s.mode
      → (x : Begins (hash s.store.hasher) s 0 call s') → IsLoneWork eq hash s' (begun_work (hash s.store.hasher) s.mode s.initial x.number call)
  lone_begin call s' idle lawful x = by_work (begun_work (hash s.store.hasher) s.mode s.initial x.number call) refl
    where
      f : Follows eq hash s law whatever s'
      f = follows_begin eq hash s law whatever call s' idle lawful.core lawful.law.0 lawful.law.1.0 lawful.law.1.1 x

      alone : (work : Work K V A) → begun_work (hash s.store.hasher) s.mode s.initial x.number call ≡ work → s'.callers ≡ one_seat (Some work)
      alone work e = x.callers ∙ ap (λ (l : List (Seat K V A)).
          with_work (with_seat l 0) 0 (Some (begun_work (hash s.store.hasher) s.mode s.initial x.number call))) idle ∙ ap (λ w. one_seat (Some w)) e

      in_order' : IsLawfulCore eq (hash s'.store.hasher) s'.store s'.callers s'.mode
      in_order' = record {
        core = f.core;
        law = subst (λ y. (es : _)
            × ((call_traces : _) × IsConsistent eq (hash y) s'.mode s'.store s'.callers es call_traces)) (sym f.hasher_is) (f.es, (f.call_traces, f.kept));
      }

      scan_read : (mode : ResizeMode) (scan : Scan) → IsScannerRead (word_at s'.store.words) (begun scan mode s.initial x.number)
      scan_read (Incremental chunk) scan = tt
      scan_read Blocking scan = tt

      by_work : (work : Work K V A) → begun_work (hash s.store.hasher) s.mode s.initial x.number call ≡ work → IsLoneWork eq hash s' work
      by_work (works.Call r) e =
          let is = call_begun (hash s.store.hasher) s.mode s.initial x.number call r e in
          record {
            callers = alone (works.Call r) e;
            lawful = in_order';
            maker = subst (λ (y : Running K V A). IsMaker y) (sym is.is)
                (record {
                  value = begun_value call is.task is.task_is;
                  answered = λ pairs.
                      absurd (begun_unpaired is.task (hash s.store.hasher is.key) s.mode.resize s.initial x.number s.mode.limit pairs);
                });
            current = subst (λ (y : Running K V A). IsCurrent (word_at s'.store.words) y.machine) (sym is.is)
                (record { number = begun_number s.mode.limit (word_at s'.store.words); read = (tt, tt) });
          }
      by_work (works.Resize z) e =
          let is = resizer_begun_is (hash s.store.hasher) s.mode s.initial x.number call z e in
          record {
            callers = alone (works.Resize z) e;
            lawful = in_order';
            read = subst (IsResizerRead (word_at s'.store.words)) (sym is.is) (begun_read s.mode.resize (word_at s'.store.words) is.resize);
          }
      by_work (works.Scan v) e =
          let is = scanner_begun_is (hash s.store.hasher) s.mode s.initial x.number call v e in
          record {
            callers = alone (works.Scan v) e;
            lawful = in_order';
            read = subst (λ (y : Scanning A). IsScannerRead (word_at s'.store.words) y.scanner) (sym is.is) (scan_read s.mode.resize is.scan);
          }

  module _ (says : Says K V A) (refuse : Bool) (s' : CoreState K V S A) (event : Event) (x : Advances eq says hash refuse s 0 s' event None)
      (core : IsCore s.store s.callers s.mode) (es : List (Exchange (Stored K V))) (call_traces : ℕ → CallTrace K V)
      (kept : IsConsistent eq (hash s.store.hasher) s.mode s.store s.callers es call_traces)
      (alone : s.callers ≡ one_seat (Some (works.Call x.before))) (maker : IsMaker x.before)
      (current : IsCurrent (word_at s.store.words) x.before.machine) where
    -- the setting and the coding
    abbrev g : Setting K (Stored K V)
    g = setting_of eq (low (hash s.store.hasher)) s.mode s.store.words.tables

    abbrev c : Coding K (Stored K V)
    c = coding_of (low (hash s.store.hasher))

    -- the effect of the step
    step : IsStep eq (hash s.store.hasher) law refuse s 0 s' event None x es call_traces
    step = kept_step eq (hash s.store.hasher) law refuse s 0 s' event None x refl es call_traces core kept

    core' : IsCore s'.store s'.callers s'.mode
    core' = advance-core eq says hash refuse s 0 s' event None x core

    -- the trace of the call
    abbrev call_trace : CallTrace K V
    call_trace = call_traces 0

    abbrev call : IsCall eq (hash s.store.hasher) s.mode s.store x.before es call_trace
    call = step.call

    -- the call after the step
    abbrev later : Running K V A
    later = record x.later { machine = after x.before.machine x.answer }

    still_alone : s'.callers ≡ one_seat (Some (works.Call later))
    still_alone = x.callers ∙ ap (λ (l : List (Seat K V A)). with_call l 0 (Some later)) alone

    -- the words, as the law has them
    abbrev then : State (Stored K V)
    then = run (call_trace.begun ++ call_trace.since) start

    abbrev then' : State (Stored K V)
    then' = run (call_trace.begun ++ (call_trace.since ++ step.made)) start

    words_are : word_of g c then ≡ word_at s.store.words
    words_are = fun_ext (λ at. ap (λ l. word_of g c (run l start) at) call.split ∙ kept.coded at)

    words'_are : word_of g c then' ≡ word_at s'.store.words
    words'_are = fun_ext (λ at. ap (λ l. word_of g c (run l start) at) step.own.split ∙ step.kept.coded at)

    -- the answer is recorded for them
    told : IsTrueOf g c call.key then (kind_of_ask x.before.machine) (follows_of x.before.machine) call_trace.loaded (ask_of x.before.machine) x.answer
        step.made step.loaded
    told = subst (λ l. IsTrueOf g c call.key (run l start) (kind_of_ask x.before.machine) (follows_of x.before.machine) call_trace.loaded
        (ask_of x.before.machine) x.answer step.made step.loaded) (sym call.split) step.told

    hashed : IsHashed g c
    hashed = hashed_setting eq (hash s.store.hasher) law s core

    may : AllAllowed g start (call_trace.begun ++ call_trace.since)
    may = subst (AllAllowed g start) (sym call.split) kept.allowed

    bounded : IsBounded g then
    bounded = subst (λ l. IsBounded g (run l start)) (sym call.split)
        (kept_bounded eq (hash s.store.hasher) law s.mode s.store s.callers core es call_traces kept)

    -- a pair with which a closure is called is in the arena
    shows : (n : ℕ) → ask_of x.before.machine ≡ asks.Call (ShowPair n) → (p : Stored K V) × (pair_of s.store n ≡ Some p)
    shows n e =
        let (p, last, number, same, moment) = machine_shows g c call_trace.begun call_trace.since call.key hashed x.before.machine.call
        call_trace.loaded.call call.relies.call n (call_asks x.before.machine (ShowPair n) e).1 in
        (p, subst (λ m. pair_of s.store m ≡ Some p) number (call.last p last))

    -- and so is one of whose key a pair is to be made
    as_loaded : (n : ℕ) → ask_of x.before.machine ≡ asks.Call (MakePairOf n) → (p : Stored K V) × (pair_of s.store n ≡ Some p)
    as_loaded n e =
        let (p, last, number, same) = machine_copied g c hashed call_trace.begun call_trace.since call.key call_trace.loaded.call
        x.before.machine.call call.relies.call n (call_asks x.before.machine (MakePairOf n) e).1 in
        (p, subst (λ m. pair_of s.store m ≡ Some p) number (call.last p last))

    -- each ask is served
    served : IsServedAsk x.before.machine.call.task (ask_of x.before.machine) x.answer
    served = ask_served eq says hash refuse s.store x.before x.answer s'.store x.later x.performs (core.valid 0 x.before x.was).call.state maker
        call.answers shows as_loaded (core.going 0 x.before x.was)

    -- the table that it is about to link has its words
    words : HasWords g (link_in x.before.machine.phase)
    words = link_words g s.store (λ t. refl) (link_in x.before.machine.phase) call.links

    -- a word that it has read is unchanged
    read : IsCurrent (word_of g c then) x.before.machine
    read = subst (λ words. IsCurrent words x.before.machine) (sym words_are) current

    spends : Spends (kind_of_ask x.before.machine) (ask_of x.before.machine) x.answer (budget_of s.store) (budget_of s'.store)
    spends = performs_spends eq (hash s.store.hasher) law s.mode s.store s.callers core es call_traces kept 0 x.before x.was says refuse s'.store
        x.later hash (ask_of x.before.machine) refl x.answer x.performs

    few : (budget_of s'.store).exchanges < 2 ^ 128
    few = budget_bounded eq (hash s.store.hasher) law s'.mode s'.store s'.callers core' (es ++ step.made)
        (told_call_traces call_traces 0 step.made step.loaded) step.kept

    runs : running s'.callers 0 ≡ Some later
    runs = ap (λ (l : List (Seat K V A)). running l 0) still_alone

    -- the measure falls
    falls : lone_measure s' later < lone_measure s x.before
    falls =
        subst (λ n. measure (budget_of s'.store) n (after x.before.machine x.answer) < lone_measure s x.before) (ap (λ f. f Root) words'_are)
        (subst (λ n. measure (budget_of s'.store) then'.root (after x.before.machine x.answer) < measure (budget_of s.store) n x.before.machine)
        (ap (λ f. f Root) words_are)
        (call_nears g c hashed call_trace.begun call_trace.since may bounded call.key x.before.machine call_trace.loaded call.relies words read
        x.answer step.made step.loaded told served (budget_of s.store) (budget_of s'.store) spends few (core'.valid 0 later runs)))

    -- the call is still alone, and nearer its end
    pub nearer_from : IsNearer eq hash s x.before s'
    nearer_from = record {
      later = later;
      lone = record {
        callers = still_alone;
        lawful = record {
          core = core';
          law = subst (λ y. (es : _) × ((call_traces : _) × IsConsistent eq (hash y) s'.mode s'.store s'.callers es call_traces))
              (sym (performs-hasher eq says hash refuse (ask_of x.before.machine) s.store x.before x.answer s'.store x.later x.performs))
              (es ++ step.made, (told_call_traces call_traces 0 step.made step.loaded, step.kept));
        };
        maker = next_maker eq says hash refuse s.store x.before x.answer s'.store x.later x.performs (core.valid 0 x.before x.was).call.state maker
            (in_order g c call_trace.begun call_trace.since call.key x.before.machine call_trace.loaded then x.answer step.made step.loaded call.relies told);
        current = subst (λ words. IsCurrent words (after x.before.machine x.answer)) words'_are
            (call_current g c hashed call_trace.begun call_trace.since may bounded call.key x.before.machine call_trace.loaded call.relies words read
            x.answer step.made step.loaded told served);
      };
      less = falls;
    }

  -- a step of a call that is alone
  pub lone_step : (says : Says K V A) (refuse : Bool) (r : Running K V A) (s' : CoreState K V S A) (event : Event) → IsLone eq hash s r
      → Advances eq says hash refuse s 0 s' event None → IsNearer eq hash s r s'
  lone_step says refuse r s' event lone x =
      let same : r ≡ x.before = same_item r x.before (sym (ap (λ (l : List (Seat K V A)). running l 0) lone.callers) ∙ x.was) in
      subst (λ y. IsNearer eq hash s y s') (sym same)
      (nearer_from says refuse s' event x lone.lawful.core lone.lawful.law.0 lone.lawful.law.1.0 lone.lawful.law.1.1
      (lone.callers ∙ ap (λ y. one_seat (Some (works.Call y))) same) (subst IsMaker same lone.maker)
      (subst (λ (y : Running K V A). IsCurrent (word_at s.store.words) y.machine) same lone.current))

module _ {K V S A H : Type 0} (eq : K → K → Bool) (input : K → List (List ℕ)) (build : S → H) (write : H → List ℕ → H) (finish : H → ℕ)
    (classes : IsEquivalence eq) (respects : (x y : K) → eq x y ≡ true → input x ≡ input y) (s s' : CoreState K V S A) where
  -- a call that begins alone, with keys hashed as they are
  pub alone_begins : (call : Call K V A) → s.callers ≡ [] → IsLawfulCore eq (hash_of input build write finish s.store.hasher) s.store s.callers s.mode
      → (x : Begins (hash_of input build write finish s.store.hasher) s 0 call s')
      → IsLoneWork eq (hash_of input build write finish) s' (begun_work (hash_of input build write finish s.store.hasher) s.mode s.initial x.number call)
  alone_begins call idle lawful x = lone_begin eq (hash_of input build write finish) s
      (keys_lawful eq input build write finish classes respects s.store.hasher) call s' idle lawful x

  -- and its steps
  pub alone_nears : (says : Says K V A) (refuse : Bool) (r : Running K V A) (event : Event) → IsLone eq (hash_of input build write finish) s r
      → Advances eq says (hash_of input build write finish) refuse s 0 s' event None → IsNearer eq (hash_of input build write finish) s r s'
  alone_nears says refuse r event lone x = lone_step eq (hash_of input build write finish) s
      (keys_lawful eq input build write finish classes respects s.store.hasher) says refuse r s' event lone x
