-- The words of a core obey the law of exchanges when it is made, and after each begin and each
-- step.
use Rattle.std.proofs.Common.{◌≡◌, ℕ, ◌==◌, Bool, true, List, [], ◌++◌, Option, Some, inl, inr, refl, sym, ap, subst, fold}
use Rattle.std.specs.Cmp.{IsEquivalence}
use Rattle.papaya_call.specs.Answers.{Says}
use Rattle.papaya_call.specs.declared.ask.Ask as call_asks
use Rattle.papaya_call.specs.declared.ask.Ask.TheVariants.{Load, Exchange as Ask_exchange, SameKey}
use Rattle.papaya_call.specs.declared.ask.Ask.TheVariants.{ShowNone, ShowPair, SizeOf, MakeKey}
use Rattle.papaya_call.specs.declared.ask.Ask.TheVariants.{MakeValue, MakePair, MakePairOf}
use Rattle.papaya_call.specs.declared.ask.Ask.TheVariants.{MakeTable, AddToShard, Done as Ask_done}
use Rattle.papaya_call.specs.declared.ask.Ask.TheVariants.{LoadHint, WriteHint}
use Rattle.papaya_call.specs.declared.ask.Answer as call_answers
use Rattle.papaya_call.specs.declared.ask.Answer.TheVariants.{Exchanged, Found as Found_instead}
use Rattle.papaya_call.specs.declared.call.Call.{Call}
use Rattle.papaya_call.specs.declared.call.Reply.{Reply}
use Rattle.papaya_call.specs.declared.chain.ask.Ask.{Ask}
use Rattle.papaya_call.specs.declared.chain.ask.Ask.TheVariants as asks
use Rattle.papaya_call.specs.declared.chain.ask.Answer.{Answer}
use Rattle.papaya_call.specs.ChainMachine.{after, ask_of, kind_of_ask}
use Rattle.papaya_call_law.specs.Goes.{IsCause}
use Rattle.papaya_call_law.specs.ChainAnswers.{nothing_loaded}
use Rattle.papaya_call_law.specs.ScanAnswers as scans
use Rattle.papaya_core_timeline.specs.declared.seat.Seat.{Seat}
use Rattle.papaya_core_store.specs.declared.pairs.Running.{Running}
use Rattle.papaya_core_timeline.specs.declared.trace.Event.{Event}
use Rattle.papaya_call.specs.declared.call.Reply.TheVariants.{Refused as Reply_refused}
use Rattle.papaya_words.specs.declared.refused.Refused.{Refused}
use Rattle.papaya_core_timeline.specs.Advances.{Advances, event_of, goes_on, reply_in}
use Rattle.papaya_core_timeline.specs.Begins.{Begins}
use Rattle.papaya_core_timeline.specs.Callers.{running, with_call}
use Rattle.papaya_core_timeline.specs.Core.{CoreState, IsCore}
use Rattle.papaya_core_timeline.specs.Kept.{CallTrace, IsConsistent, IsLawfulCore, coding_of, low, setting_of}
use Rattle.papaya_core_store.specs.Asks.{PerformsAsk}
use Rattle.papaya_core_store.specs.New.{HasCapacity}
use Rattle.papaya_core_store.specs.Performs.{Performs, Stays}
use Rattle.papaya_core_store.specs.Store.{StoreState}
use Rattle.papaya_words_keys.specs.Hashes.{hash_of}
use Rattle.papaya_core_store.specs.Tables.{put, word_at}
use Rattle.papaya_words_law.specs.Exchange.{run, start}
use Rattle.papaya_call_law.proofs.Order.{in_order}
use Rattle.papaya_call_law.proofs.Refusals.{chain_refused}
use Rattle.papaya_core_timeline.proofs.CoreLemmas.{reply_asked}
use Rattle.papaya_core_timeline.proofs.KeptLemmas.{IsLawfulKeys, kept_begin, kept_new, kept_step}
use Rattle.papaya_core_timeline.proofs.KeptStep as kept_steps
use Rattle.papaya_core_timeline.proofs.ShowLemmas.{none_shown, pair_shown}
use Rattle.papaya_core_timeline.proofs.StoreLemmas.{LogsOrNot, copy_hasher, matched, of_logs, own_logs, part_logs}
use Rattle.papaya_core_store.specs.declared.store.Mode.{Mode}

module _ {K V S A : Type 0} (eq : K → K → Bool) (says : Says K V A) where
  -- a step keeps the hasher
  stays-hasher : (s : StoreState K V S) (r : Running K V A) (s' : StoreState K V S) (r' : Running K V A) → Stays s r s' r' → s'.hasher ≡ s.hasher
  stays-hasher s r s' r' stays = ap (λ (y : StoreState K V S). y.hasher) stays.0

  made-hasher : (s : StoreState K V S) (r : Running K V A) (a : call_answers.Answer) (s' : StoreState K V S) (r' : Running K V A)
      → LogsOrNot s r a s' r' → s'.hasher ≡ s.hasher
  made-hasher s r a s' r' (inl (unlogged, stays)) = stays-hasher s r s' r' stays
  made-hasher s r a s' r' (inr (key, left, (value, has, is, few, same, moved))) = ap (λ (y : StoreState K V S). y.hasher) same

  -- an answered ask keeps it
  call-hasher : (refuse : Bool) (ask : call_asks.Ask) (s : StoreState K V S) (r : Running K V A) (a : call_answers.Answer) (s' : StoreState K V S)
      (r' : Running K V A) → Performs eq says refuse ask s r a s' r' → s'.hasher ≡ s.hasher
  call-hasher refuse (Load at) s r a s' r' (e, stays) = stays-hasher s r s' r' stays
  call-hasher refuse (Ask_exchange at old new) s r a s' r' (h, moved) =
      matched (s'.hasher ≡ s.hasher) (word_at s.words at == old) ((a ≡ Exchanged) × (s' ≡ record s { words = put s.words at new }))
      ((a ≡ Found_instead (word_at s.words at)) × (s' ≡ s)) h
      (λ _ done. ap (λ (y : StoreState K V S). y.hasher) done.1) (λ _ lost. ap (λ (y : StoreState K V S). y.hasher) lost.1)
  call-hasher refuse (SameKey n) s r a s' r' (e, stays) = stays-hasher s r s' r' stays
  call-hasher refuse ShowNone s r a s' r' h = ap (λ (y : StoreState K V S). y.hasher) (none_shown says s r a s' r' h).store
  call-hasher refuse (ShowPair n) s r a s' r' h = ap (λ (y : StoreState K V S). y.hasher) (pair_shown says r.machine.call.task n s r a s' r' h).store
  call-hasher refuse (LoadHint t x) s r a s' r' (e, stays) = stays-hasher s r s' r' stays
  call-hasher refuse (WriteHint t x hint) s r a s' r' (e, same, moved) = ap (λ (y : StoreState K V S). y.hasher) same
  call-hasher refuse (SizeOf n) s r a s' r' (e, stays) = stays-hasher s r s' r' stays
  call-hasher refuse MakeKey s r a s' r' h = made-hasher s r a s' r' (part_logs s r a s' r' refuse h)
  call-hasher refuse MakeValue s r a s' r' h = made-hasher s r a s' r' (part_logs s r a s' r' refuse h)
  call-hasher refuse MakePair s r a s' r' h = made-hasher s r a s' r' (own_logs s r a s' r' refuse h)
  call-hasher refuse (MakePairOf n) s r a s' r' h = made-hasher s r a s' r' (of_logs s r a s' r' refuse n h)
  call-hasher refuse (MakeTable slots limit chunks) s r a s' r' h =
      matched (s'.hasher ≡ s.hasher) refuse _ _ h (λ _ none. stays-hasher s r s' r' none.1)
      (λ _ makes. elim makes.0 [
        | inl refused ↦ ap (λ (y : StoreState K V S). y.hasher) refused.1
        | inr (is, few, same) ↦ ap
            (λ (y : StoreState K V S). y.hasher) same
      ])
  call-hasher refuse (AddToShard by) s r a s' r' (e, (number, same), moved) = ap (λ (y : StoreState K V S). y.hasher) same
  call-hasher refuse (Ask_done reply) s r a s' r' (e, stays) = stays-hasher s r s' r' stays

module _ {K V S A : Type 0} (eq : K → K → Bool) (says : Says K V A) (hash : S → K → ℕ) where
  -- whichever machine asked
  pub performs-hasher : (refuse : Bool) (ask : Ask) (s : StoreState K V S) (r : Running K V A) (a : Answer) (s' : StoreState K V S)
      (r' : Running K V A) → PerformsAsk eq says hash refuse ask s r a s' r' → s'.hasher ≡ s.hasher
  performs-hasher refuse (asks.Call ask) s r a s' r' (told, is, h) = call-hasher eq says refuse ask s r told s' r' h
  performs-hasher refuse (asks.Copy ask) s r a s' r' (h, same) = copy_hasher eq hash refuse ask s a s' h

-- equal keys make the same writes, so they hash alike
pub keys_lawful : {K S H : Type 0} (eq : K → K → Bool) (input : K → List (List ℕ)) (build : S → H) (write : H → List ℕ → H) (finish : H → ℕ)
    → IsEquivalence eq → ((x y : K) → eq x y ≡ true → input x ≡ input y) → (hasher : S) → IsLawfulKeys eq (hash_of input build write finish hasher)
keys_lawful eq input build write finish classes respects
    hasher = record { classes = classes; alike = λ x y e. ap (λ i. finish (fold write (build hasher) i)) (respects x y e) }

module _ {K V S A H : Type 0} (eq : K → K → Bool) (input : K → List (List ℕ)) (build : S → H) (write : H → List ℕ → H) (finish : H → ℕ)
    (classes : IsEquivalence eq) (respects : (x y : K) → eq x y ≡ true → input x ≡ input y) where
  -- the invariant of each core
  abbrev pub Lawful : CoreState K V S A → Type 0
  Lawful s = IsLawfulCore eq (hash_of input build write finish s.store.hasher) s.store s.callers s.mode

  -- a new one
  pub new_lawful : (mode : Mode) (capacity initial : ℕ) (store : StoreState K V S) (callers : List (Seat K V A)) → IsCore store callers mode
      → HasCapacity capacity initial store.words → store.pairs ≡ [] → callers ≡ []
      → IsLawfulCore eq (hash_of input build write finish store.hasher) store callers mode
  new_lawful mode capacity initial store callers core words pairs none =
      let call_traces : ℕ → CallTrace K V = λ d. record { begun = []; since = []; loaded = nothing_loaded; scan = scans.nothing_loaded } in
      let kept = kept_new eq (hash_of input build write finish store.hasher) (keys_lawful eq input build write finish classes respects store.hasher)
      mode capacity initial store callers words pairs none call_traces in
      record { core = core; law = (kept.0, (call_traces, kept.1)) }

  -- after a begin
  pub begin_lawful : (s : CoreState K V S A) (caller : ℕ) (call : Call K V A) (s' : CoreState K V S A)
      → Begins (hash_of input build write finish s.store.hasher) s caller call s' → IsCore s'.store s'.callers s'.mode → Lawful s → Lawful s'
  begin_lawful s caller call s' begins core lawful =
      let (es, (call_traces, kept)) = lawful.law in
      let kept' = kept_begin eq (hash_of input build write finish s.store.hasher)
      (keys_lawful eq input build write finish classes respects s.store.hasher) s caller call s' begins es call_traces kept in
      let same : s.store.hasher ≡ s'.store.hasher = ap (λ (y : StoreState K V S). y.hasher) (sym begins.store) in
      record {
        core = core;
        law = subst (λ h. (es : _)
            × ((call_traces : _) × IsConsistent eq (hash_of input build write finish h) s'.mode s'.store s'.callers es call_traces)) same (es, (_, kept'));
      }

  -- after a step
  pub step_lawful : {says : Says K V A} (refuse : Bool) (s : CoreState K V S A) (caller : ℕ) (s' : CoreState K V S A) (event : Event)
      (reply : Option Reply) → Advances eq says (hash_of input build write finish) refuse s caller s' event reply → IsCore s'.store s'.callers s'.mode
      → Lawful s → Lawful s'
  step_lawful {says = says} refuse s caller s' event reply a core lawful =
      let (es, (call_traces, kept)) = lawful.law in
      let step = kept_step eq (hash_of input build write finish s.store.hasher)
      (keys_lawful eq input build write finish classes respects s.store.hasher) refuse s caller s' event reply a refl es call_traces lawful.core kept in
      let same : s.store.hasher ≡ s'.store.hasher = sym
      (performs-hasher eq says (hash_of input build write finish) refuse _ s.store a.before a.answer s'.store a.later a.performs) in
      record {
        core = core;
        law = subst (λ h. (es : _)
            × ((call_traces : _) × IsConsistent eq (hash_of input build write finish h) s'.mode s'.store s'.callers es call_traces)) same
            (es ++ step.made, (_, step.kept));
      }

  -- a call that continues is refused for a cause
  pub lawful_caused : (says : Says K V A) (refuse : Bool) (s : CoreState K V S A) → Lawful s → (caller : ℕ) (r : Running K V A)
      → running s.callers caller ≡ Some r → (answer : Answer) (store' : StoreState K V S) (later : Running K V A)
      → PerformsAsk eq says (hash_of input build write finish) refuse (ask_of r.machine) s.store r answer store' later → (refused : Refused)
      → reply_in (ask_of (after r.machine answer)) ≡ Some (Reply_refused refused) → IsCause r.machine answer refused
  lawful_caused says refuse s lawful caller r was answer store' later performs refused e =
      let (es, (call_traces, kept)) = lawful.law in
      let hashed = hash_of input build write finish s.store.hasher in
      let left = kept_steps.left eq hashed (keys_lawful eq input build write finish classes respects s.store.hasher) says
      (hash_of input build write finish) refuse s caller (record { store = store'; callers = s.callers; mode = s.mode; initial = s.initial }) r
      answer later was performs refl refl es call_traces lawful.core kept in
      let call = kept.calls caller r was in
      let g = setting_of eq (low hashed) s.mode s.store.words.tables in
      let c = coding_of (low hashed) in
      chain_refused g c call.key (run es start) r.machine answer refused (call_traces caller).loaded left.made left.loaded left.told
      (in_order g c (call_traces caller).begun (call_traces caller).since call.key r.machine (call_traces caller).loaded (run es start) answer
      left.made left.loaded call.relies left.told)
      (lawful.core.going caller r was) (reply_asked (ask_of (after r.machine answer)) (Reply_refused refused) e)

  -- the same in the terms of the code: the store and the callers after it
  pub stepped_lawful : (says : Says K V A) (refuse : Bool) (s : CoreState K V S A) (caller : ℕ) (store' : StoreState K V S)
      (callers' : List (Seat K V A)) (before : Running K V A) (a : Answer) (later : Running K V A) → running s.callers caller ≡ Some before
      → PerformsAsk eq says (hash_of input build write finish) refuse (ask_of before.machine) s.store before a store' later → later.machine ≡ before.machine
      → callers' ≡ with_call s.callers caller (goes_on (reply_in (ask_of (after before.machine a)))
      (record later { machine = after before.machine a })) → IsCore store' callers' s.mode → Lawful s
      → IsLawfulCore eq (hash_of input build write finish store'.hasher) store' callers' s.mode
  stepped_lawful says refuse s caller store' callers' before a later was performs machine callers core lawful =
      step_lawful {says = says} refuse s caller (record { store = store'; callers = callers'; mode = s.mode; initial = s.initial })
      (event_of (kind_of_ask before.machine) (ask_of before.machine) a) (reply_in (ask_of (after before.machine a)))
      (record {
        before = before;
        was = was;
        answer = a;
        later = later;
        performs = performs;
        machine = machine;
        event_is = refl;
        reply_is = refl;
        callers = callers;
        mode = refl;
        initial = refl;
        cause = λ refused e.
            lawful_caused says refuse s lawful caller before was a store' later performs refused e;
      })
      core lawful
