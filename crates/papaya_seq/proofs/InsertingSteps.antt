-- An insertion of a map for one caller, over one answer.
use Rattle.std.proofs.Common.{◌≡◌, ◌⊎◌, inl, inr, ℕ, Bool, false, Some, refl, sym, ◌∙◌, ap, subst}
use Rattle.papaya_call.specs.declared.ask.Answer.{Answer as Call_answer}
use Rattle.papaya_call.specs.declared.ask.Answer.TheVariants.{Exchanged, Found as Found_instead}
use Rattle.papaya_call.specs.declared.ask.At.TheVariants.{Slot}
use Rattle.papaya_call.specs.declared.call.Task.TheVariants.{Insert}
use Rattle.papaya_call.specs.declared.search.Search.{Search}
use Rattle.papaya_call.specs.declared.search.Search.TheVariants.{Sizing, Looking, Reading, Comparing}
use Rattle.papaya_call.specs.Search.{ask_of as search_ask}
use Rattle.papaya_call.specs.Answers.{Says}
use Rattle.papaya_call.specs.declared.machine.State.{State}
use Rattle.papaya_call.specs.declared.machine.State.TheVariants.{AtRoot, Making, Opening, Searching}
use Rattle.papaya_call.specs.declared.machine.State.TheVariants.{Writing, Offering, Showing}
use Rattle.papaya_call.specs.declared.machine.State.TheVariants.{Pairing, Putting, Burying}
use Rattle.papaya_call.specs.declared.machine.State.TheVariants.{Counting, Noting, Uncounting}
use Rattle.papaya_call.specs.declared.machine.State.TheVariants.{Leaving, Growing, Ended}
use Rattle.papaya_call.specs.declared.made.Made.{Made}
use Rattle.papaya_call.specs.declared.write.Write.{Write}
use Rattle.papaya_call.specs.Machine.{IsValidState, asks}
use Rattle.papaya_call.specs.Write.{served_ask, serves, write_ask}
use Rattle.papaya_call.specs.declared.chain.ask.Answer.{Answer}
use Rattle.papaya_call.specs.declared.chain.machine.Phase.{Phase}
use Rattle.papaya_call.specs.declared.chain.machine.Phase.TheVariants.{Calling, Linking, Copying as Copying_root}
use Rattle.papaya_call.specs.ChainMachine.{ask_of, asks_in}
use Rattle.papaya_call_law.proofs.AloneSteps.{exchange_done}
use Rattle.papaya_core_store.specs.Asks.{PerformsAsk}
use Rattle.papaya_core_store.specs.Performs.{Performs}
use Rattle.papaya_core_store.specs.Store.{StoreState}
use Rattle.papaya_core_store.specs.Tables.{word_at}
use Rattle.papaya_core_store.specs.declared.pairs.Running.{Running}
use Rattle.papaya_seq.proofs.Inserting.{HasWritten}

module _ {K V S A : Type 0} (eq : K → K → Bool) (says : Says K V A) (store : StoreState K V S) (r : Running K V A) where
  -- a copy changes nothing of the call
  pub copy_stays : (hash : S → K → ℕ) (answer : Answer) (store' : StoreState K V S) (later : Running K V A) → (r.machine.phase ≡ Calling)
      ⊎ (PerformsAsk eq says hash false (ask_of r.machine) store r answer store' later → later ≡ r)
  copy_stays hash answer store' later = by_phase r.machine.phase refl
    where
      by_phase : (phase : Phase) → r.machine.phase ≡ phase → (r.machine.phase ≡ Calling)
          ⊎ (PerformsAsk eq says hash false (ask_of r.machine) store r answer store' later → later ≡ r)
      by_phase Calling e = inl e
      by_phase (Linking link) e = inr (λ performs.
          (subst (λ phase. PerformsAsk eq says hash false (asks_in r.machine.call phase) store r answer store' later) e performs).1)
      by_phase (Copying_root copying) e = inr (λ performs.
          (subst (λ phase. PerformsAsk eq says hash false (asks_in r.machine.call phase) store r answer store' later) e performs).1)

  module _ (told : Call_answer) (store' : StoreState K V S) (later : Running K V A) where
    -- a search changes nothing
    pub search_stays : (search : Search) → Performs eq says false (search_ask search) store r told store' later → store' ≡ store
    search_stays (Sizing t) (e, (same, stays)) = same
    search_stays (Looking at) (e, (same, stays)) = same
    search_stays (Reading at) (e, (same, stays)) = same
    search_stays (Comparing at word) (e, (same, stays)) = same

    -- the write finds its expected word
    pub write_unbeaten : (made : Made) (write : Write) → word_at store.words (Slot write.place.table write.place.probe.i) ≡ write.old → (n : ℕ)
        → serves made write ≡ Some n → Performs eq says false (write_ask write made) store r told store' later → (word : ℕ) → told ≡ Found_instead word → ⊥
    write_unbeaten made write read n serves_so performs word found =
        let (moved, stays) = subst (λ served. Performs eq says false (served_ask served write made) store r told store' later) serves_so performs in
        let done = exchange_done _ _ (word_at store.words (Slot write.place.table write.place.probe.i)) write.old read moved in
        let f : Exchanged ≡ Found_instead word = sym done.0 ∙ found in
        absurd cc

    -- an insertion stores its value only if it writes
    pub value_stays : (replace : Bool) (made : Made) (hash : ℕ) (state : State) → IsValidState (Insert replace) state
        → Performs eq says false (asks made hash state) store r told store' later → HasWritten state ⊎ (later.value ≡ r.value)
    value_stays replace made hash AtRoot valid (e, (same, stays)) = inr (ap (λ q. q.value) stays)
    value_stays replace made hash Making valid (made_table, stays) = inr (ap (λ q. q.value) stays)
    value_stays replace made hash (Opening t) valid (exchanged, stays) = inr (ap (λ q. q.value) stays)
    value_stays replace made hash (Searching (Sizing t)) valid (e, (same, stays)) = inr (ap (λ q. q.value) stays)
    value_stays replace made hash (Searching (Looking at)) valid (e, (same, stays)) = inr (ap (λ q. q.value) stays)
    value_stays replace made hash (Searching (Reading at)) valid (e, (same, stays)) = inr (ap (λ q. q.value) stays)
    value_stays replace made hash (Searching (Comparing at word)) valid (e, (same, stays)) = inr (ap (λ q. q.value) stays)
    value_stays replace made hash (Writing write) valid performs = inl tt
    value_stays replace made hash (Offering gap) valid performs = absurd valid.0
    value_stays replace made hash (Showing removal) valid performs = absurd valid.0
    value_stays replace made hash (Pairing purpose) valid performs = absurd valid.0
    value_stays replace made hash (Putting put) valid performs = absurd valid.0
    value_stays replace made hash (Burying removal) valid performs = absurd valid.0
    value_stays replace made hash (Counting n) valid (e, added, stays) = inr (ap (λ q. q.value) stays)
    value_stays replace made hash (Noting n) valid (e, added, stays) = inr (ap (λ q. q.value) stays)
    value_stays replace made hash (Uncounting n) valid performs = absurd valid
    value_stays replace made hash (Leaving t) valid (e, (same, stays)) = inr (ap (λ q. q.value) stays)
    value_stays replace made hash (Growing need) valid (e, (same, stays)) = inr (ap (λ q. q.value) stays)
    value_stays replace made hash (Ended reply) valid (e, (same, stays)) = inr (ap (λ q. q.value) stays)
