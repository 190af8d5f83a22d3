-- The words of a core obey the law of exchanges: the statements that the timeline uses.
use Rattle.std.proofs.Common.{◌≡◌, ℕ, Bool, Option, None, Some, List, [], ◌++◌, length, ◌≤◌, ◌⊎◌, refl, sym, subst}
use Rattle.papaya_call.specs.Answers.{Says}
use Rattle.papaya_call.specs.declared.call.Call.{Call}
use Rattle.papaya_words_law.specs.Exchange.{Exchange, run, start}
use Rattle.papaya_words_law.specs.Meaning.{map_left}
use Rattle.papaya_call.specs.ChainMachine.{ask_of, kind_of_ask, follows_of, after}
use Rattle.papaya_call_law.specs.TrueAnswers.{IsOneOf}
use Rattle.papaya_call_law.specs.ChainAnswers.{IsTrueOf, LoadedPairs}
use Rattle.papaya_words_law.specs.Code.{IsHashed}
use Rattle.papaya_core_store.specs.declared.pairs.Running.{Running}
use Rattle.papaya_core_timeline.specs.declared.seat.Seat.{Seat}
use Rattle.papaya_core_timeline.specs.Advances.{Advances, goes_on}
use Rattle.papaya_core_timeline.specs.Begins.{Begins}
use Rattle.papaya_core_timeline.specs.Core.{CoreState, IsCore}
use Rattle.papaya_core_timeline.specs.Content.{map_of}
use Rattle.papaya_core_timeline.specs.Kept.{IsConsistent, IsCall, CallTrace, setting_of, coding_of, low, told_call_traces, begun_call_traces}
use Rattle.papaya_core_store.specs.Store.{StoreState, Stored, pair_of}
use Rattle.papaya_core_timeline.specs.declared.trace.Event.{Event}
use Rattle.papaya_call.specs.declared.call.Reply.{Reply}
use Rattle.papaya_core_timeline.proofs.KeptSettings.{tables_hashed}
use Rattle.papaya_core_timeline.proofs.KeptBegin.{begin_kept, new_kept}
use Rattle.papaya_core_timeline.proofs.KeptMap.{kept_map}
use Rattle.papaya_core_timeline.proofs.KeptTables.{HasMoreTables}
use Rattle.papaya_core_timeline.proofs.KeptStep as step
use Rattle.papaya_core_store.specs.New.{HasCapacity}
use Rattle.papaya_core_store.specs.declared.store.Mode.{Mode}
use Rattle.papaya_call.specs.declared.ask.Answer.TheVariants.{Made as Made_number}
use Rattle.papaya_call.specs.declared.chain.ask.Answer.TheVariants as answers
use Rattle.papaya_core_store.specs.Performs.{own_value}
use Rattle.papaya_core_timeline.proofs.MadePairs.{IsMadeNow, MakesOver}
pub use Rattle.papaya_core_timeline.proofs.KeptSettings.{IsLawfulKeys}

-- a call that continues is the one that was put back
gone_on : {A : Type 0} (reply : Option Reply) (r q : A) → goes_on reply r ≡ Some q → r ≡ q
gone_on None r q e = cc
gone_on (Some reply) r q e = let f : None ≡ Some q = e in cc

module _ {K V S A : Type 0} (eq : K → K → Bool) (hash : K → ℕ) (law : IsLawfulKeys eq hash) where
  -- keys are placed by their hashes, in a core whose tables have sizes of tables
  pub hashed_setting : (s : CoreState K V S A) → IsCore s.store s.callers s.mode
      → IsHashed (setting_of {V = V} eq (low hash) s.mode s.store.words.tables) (coding_of (low hash))
  hashed_setting s core = tables_hashed eq hash law s.mode s.store.words.tables core.sizes

  -- the result of a step: the exchange that it made, if it made one, and the traces of all calls
  -- since
  pub record IsStep {says : Says K V A} {hashes : S → K → ℕ} (refuse : Bool) (s : CoreState K V S A) (caller : ℕ) (s' : CoreState K V S A)
      (event : Event) (reply : Option Reply) (a : Advances eq says hashes refuse s caller s' event reply) (es : List (Exchange (Stored K V)))
      (call_traces : ℕ → CallTrace K V) : Type 0 where
    pub made : List (Exchange (Stored K V))
    pub loaded : LoadedPairs (Stored K V)
    pub call : IsCall eq hash s.mode s.store a.before es (call_traces caller)
    pub told : IsTrueOf (setting_of eq (low hash) s.mode s.store.words.tables) (coding_of (low hash)) call.key (run es start)
        (kind_of_ask a.before.machine) (follows_of a.before.machine) (call_traces caller).loaded (ask_of a.before.machine) a.answer made loaded
    pub kept : IsConsistent eq hash s'.mode s'.store s'.callers (es ++ made) (told_call_traces call_traces caller made loaded)
    -- the stepping call's own facts after its step, also if it has replied
    pub own : IsCall eq hash s'.mode s'.store (record a.later { machine = after a.before.machine a.answer }) (es ++ made)
        (told_call_traces call_traces caller made loaded caller)
    pub own_key : own.key ≡ call.key
    -- the map changes as the exchange says, also in the setting after the step
    pub map_same : (k : K) → map_left (setting_of eq (low hash) s'.mode s'.store.words.tables) es k ≡ map_left
        (setting_of eq (low hash) s.mode s.store.words.tables) es k
    -- longer arenas keep their pairs
    pub logged : (p : Stored K V) → pair_of s.store p.number ≡ Some p → pair_of s'.store p.number ≡ Some p
    pub longer : length s.store.pairs ≤ length s'.store.pairs
    -- and so do the tables
    pub grown : HasMoreTables s.store.words.tables s'.store.words.tables
    -- a pair that was made in this step has the number after all others and the value of the call,
    -- and is stored in the arena
    pub made_now : (n : ℕ) → MakesOver (ask_of a.before.machine) → a.answer ≡ answers.Call (Made_number n) → IsMadeNow s.store a.before s'.store a.later n
    pub new : (q : Stored K V) → IsOneOf loaded.call.made q → IsOneOf (call_traces caller).loaded.call.made q
        ⊎ ((q.number ≡ length s.store.pairs) × (own_value s.store a.before ≡ Some q.value) × (pair_of s'.store q.number ≡ Some q))

  -- a step keeps a core to the law
  pub kept_step : {says : Says K V A} {hashes : S → K → ℕ} (refuse : Bool) (s : CoreState K V S A) (caller : ℕ) (s' : CoreState K V S A)
      (event : Event) (reply : Option Reply) (a : Advances eq says hashes refuse s caller s' event reply) → hashes s.store.hasher ≡ hash
      → (es : List (Exchange (Stored K V))) (call_traces : ℕ → CallTrace K V) → IsCore s.store s.callers s.mode
      → IsConsistent eq hash s.mode s.store s.callers es call_traces → IsStep refuse s caller s' event reply a es call_traces
  kept_step {says = says} {hashes = hashes} refuse s caller s' event reply a hasher es call_traces core kept =
      let r' : Running K V A = record a.later { machine = after a.before.machine a.answer } in
      let left = step.left eq hash law says hashes refuse s caller s' a.before a.answer a.later a.was a.performs hasher a.mode es call_traces core kept in
      record {
        made = left.made;
        loaded = left.loaded;
        call = kept.calls caller a.before a.was;
        told = left.told;
        kept = step.step_kept eq hash law says hashes refuse s caller s' a.before a.answer a.later a.was a.performs hasher a.mode es call_traces core
            kept (goes_on reply r') a.callers (λ q. gone_on reply r' q);
        own = step.own_call eq hash law says hashes refuse s caller s' a.before a.answer a.later a.was a.performs hasher a.mode es call_traces core
            kept (told_call_traces call_traces caller left.made left.loaded caller).loaded
            (step.own_loaded eq hash law says hashes refuse s caller s' a.before a.answer a.later a.was a.performs hasher a.mode es call_traces core
            kept caller refl);
        own_key = step.own_call-key eq hash law says hashes refuse s caller s' a.before a.answer a.later a.was a.performs hasher a.mode es call_traces
            core kept (told_call_traces call_traces caller left.made left.loaded caller).loaded
            (step.own_loaded eq hash law says hashes refuse s caller s' a.before a.answer a.later a.was a.performs hasher a.mode es call_traces core
            kept caller refl);
        map_same = step.same_map eq hash law says hashes refuse s caller s' a.before a.answer a.later a.was a.performs hasher a.mode es call_traces core kept;
        logged = λ p h. left.logged p.number p h;
        longer = left.longer;
        grown = left.grown;
        made_now = step.made_now eq hash law says hashes refuse s caller s' a.before a.answer a.later a.was a.performs hasher a.mode es call_traces core kept;
        new = λ q h. left.new q h;
      }

  -- a begin leaves the words, and its call relies on the exchanges as they are
  pub kept_begin : (s : CoreState K V S A) (caller : ℕ) (call : Call K V A) (s' : CoreState K V S A) → Begins hash s caller call s'
      → (es : List (Exchange (Stored K V))) (call_traces : ℕ → CallTrace K V) → IsConsistent eq hash s.mode s.store s.callers es call_traces
      → IsConsistent eq hash s'.mode s'.store s'.callers es (begun_call_traces call_traces caller es)
  kept_begin s caller call s' begins es call_traces kept =
      let call_traces' : ℕ → CallTrace K V = begun_call_traces call_traces caller es in
      subst (λ y. IsConsistent eq hash y s'.store s'.callers es call_traces') (sym begins.mode)
      (subst (λ (y : StoreState K V S). IsConsistent eq hash s.mode y s'.callers es call_traces') (sym begins.store)
      (subst (λ (y : List (Seat K V A)). IsConsistent eq hash s.mode s.store y es call_traces') (sym begins.callers)
      (begin_kept eq hash s caller call begins.fits begins.number es call_traces kept)))

  -- a core as it is made has made no exchange, or has opened its first table
  pub kept_new : (mode : Mode) (capacity initial : ℕ) (store : StoreState K V S) (callers : List (Seat K V A))
      → HasCapacity capacity initial store.words → store.pairs ≡ [] → callers ≡ [] → (call_traces : ℕ → CallTrace K V)
      → (es : List (Exchange (Stored K V))) × IsConsistent eq hash mode store callers es call_traces
  kept_new mode capacity initial store callers words pairs none call_traces =
      let new = new_kept A eq hash mode store pairs call_traces capacity initial words in
      (new.0, subst (λ (y : List (Seat K V A)). IsConsistent eq hash mode store y new.0 call_traces) (sym none) new.1)

  -- the core's map is the replay of the exchanges
  pub map_kept : (s : CoreState K V S A) (es : List (Exchange (Stored K V))) (call_traces : ℕ → CallTrace K V) → IsCore s.store s.callers s.mode
      → IsConsistent eq hash s.mode s.store s.callers es call_traces → (k : K) → map_of eq s k ≡ map_left (setting_of eq (low hash) s.mode s.store.words.tables) es k
  map_kept s es call_traces core kept k = kept_map eq hash s.mode s.store (hashed_setting s core) s.callers es call_traces kept k
