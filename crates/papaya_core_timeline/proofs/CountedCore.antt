-- A core stays lawful and counted after each step, in the terms of the code; and no two pairs of
-- its content have equal keys.
use Rattle.std.proofs.Common.{◌≡◌, Bool, ℕ, true, List, Some, refl}
use Rattle.std.specs.Cmp.{IsEquivalence}
use Rattle.papaya_call.specs.Answers.{Says}
use Rattle.papaya_call.specs.declared.chain.ask.Answer.{Answer}
use Rattle.papaya_words_law.specs.Content.{AreApart}
use Rattle.papaya_call.specs.ChainMachine.{after, ask_of, kind_of_ask}
use Rattle.papaya_core_timeline.specs.declared.seat.Seat.{Seat}
use Rattle.papaya_core_store.specs.declared.pairs.Running.{Running}
use Rattle.papaya_core_timeline.specs.Advances.{event_of, goes_on, reply_in}
use Rattle.papaya_core_timeline.specs.Callers.{running, with_call}
use Rattle.papaya_core_timeline.specs.Content.{content}
use Rattle.papaya_core_timeline.specs.Core.{CoreState, IsCore}
use Rattle.papaya_core_timeline.specs.Counted.{IsCounted}
use Rattle.papaya_core_timeline.specs.Kept.{IsLawfulCore}
use Rattle.papaya_core_store.specs.Asks.{PerformsAsk}
use Rattle.papaya_core_store.specs.Store.{StoreState}
use Rattle.papaya_words_keys.specs.Hashes.{hash_of}
use Rattle.papaya_core_timeline.proofs.CountedContent.{content_apart}
use Rattle.papaya_core_timeline.proofs.CountedLemmas.{counted_step}
use Rattle.papaya_core_timeline.proofs.KeptLemmas.{hashed_setting}
use Rattle.papaya_core_timeline.proofs.KeptCore.{Lawful, keys_lawful, lawful_caused, stepped_lawful}

module _ {K V S A H : Type 0} (eq : K → K → Bool) (input : K → List (List ℕ)) (build : S → H) (write : H → List ℕ → H) (finish : H → ℕ)
    (classes : IsEquivalence eq) (respects : (x y : K) → eq x y ≡ true → input x ≡ input y) where
  -- after a step
  pub stepped_sound : (says : Says K V A) (refuse : Bool) (s : CoreState K V S A) (caller : ℕ) (store' : StoreState K V S)
      (callers' : List (Seat K V A)) (before : Running K V A) (a : Answer) (later : Running K V A) → running s.callers caller ≡ Some before
      → PerformsAsk eq says (hash_of input build write finish) refuse (ask_of before.machine) s.store before a store' later → later.machine ≡ before.machine
      → callers' ≡ with_call s.callers caller (goes_on (reply_in (ask_of (after before.machine a)))
      (record later { machine = after before.machine a })) → IsCore store' callers' s.mode → Lawful eq input build write finish classes respects s
      → IsCounted eq s.store s.callers → IsLawfulCore eq (hash_of input build write finish store'.hasher) store' callers' s.mode
      × IsCounted eq store' callers'
  stepped_sound says refuse s caller store' callers' before a later was performs machine callers core lawful counted =
      let (es, (call_traces, kept)) = lawful.law in (
        stepped_lawful eq input build write finish classes respects says refuse s caller store' callers' before a later was performs machine callers
            core lawful,
        counted_step eq (hash_of input build write finish s.store.hasher)
            (keys_lawful eq input build write finish classes respects s.store.hasher) {says = says} {hashes = hash_of input build write finish} refuse s
            caller (record { store = store'; callers = callers'; mode = s.mode; initial = s.initial })
            (event_of (kind_of_ask before.machine) (ask_of before.machine) a) (reply_in (ask_of (after before.machine a)))
            (record {
              before = before;
              was = was;
              answer = a;
              later = later;
              performs = performs;
              machine = machine;
              event_is = refl;
              reply_is = refl;
              callers = callers;
              mode = refl;
              initial = refl;
              cause = λ refused e.
                  lawful_caused eq input build write finish classes respects says refuse s lawful caller before was a store' later performs refused e;
            }) refl
            es call_traces lawful.core core kept counted,
      )

  -- no two pairs in the content of a core have equal keys
  pub lawful_apart : (s : CoreState K V S A) → Lawful eq input build write finish classes respects s → AreApart eq (λ p. p.key) (content eq s.store)
  lawful_apart s lawful =
      let law = keys_lawful eq input build write finish classes respects s.store.hasher in
      let (es, (call_traces, kept)) = lawful.law in
      content_apart eq (hash_of input build write finish s.store.hasher) s.mode s.store
      (hashed_setting eq (hash_of input build write finish s.store.hasher) law s lawful.core) s.callers es call_traces kept
