-- The states of a compute: in the root, while its closure was not called and no pairs are being
-- moved; or at the place of the pair with which its closure was called.
use Rattle.std.proofs.Common.{◌≡◌, inl, inr, ℕ, ◌<◌, ◌==◌, Bool, false, Option, None, Some, refl, sym, ◌∙◌, ap, subst, arith}
use Rattle.std.proofs.lemmas.Bool.{cond_both, eqb-true}
use Rattle.papaya_words.specs.Table.{TableWords}
use Rattle.papaya_words.specs.Word.{kind_of, pair_of as number_of}
use Rattle.papaya_words.specs.declared.resize_mode.ResizeMode.{ResizeMode}
use Rattle.papaya_words.specs.declared.resize_mode.ResizeMode.TheVariants.{Incremental, Blocking}
use Rattle.papaya_words.specs.declared.word.Kind.TheVariants as kinds
use Rattle.papaya_call.specs.Search.{at_yes as search_compared, hinted, look}
use Rattle.papaya_call.specs.declared.ask.Answer.{Answer as Call_answer}
use Rattle.papaya_call.specs.declared.ask.Answer.TheVariants.{Word as Word_read, Found as Found_instead, Made as Made_number, Refused as Was_refused}
use Rattle.papaya_call.specs.declared.ask.Ask.TheVariants.{ShowNone, ShowPair}
use Rattle.papaya_call.specs.declared.ask.At.TheVariants.{Next, Slot}
use Rattle.papaya_call.specs.declared.call.Reply.TheVariants.{Removed}
use Rattle.papaya_call.specs.declared.call.Task.TheVariants.{Compute}
use Rattle.papaya_call.specs.declared.search.Search.TheVariants.{Sizing, Looking, Reading, Comparing}
use Rattle.papaya_call.specs.declared.search.ProbeStep.{ProbeStep}
use Rattle.papaya_call.specs.declared.search.ProbeStep.TheVariants as seen
use Rattle.papaya_call.specs.declared.compute.Choice.{Choice}
use Rattle.papaya_call.specs.declared.compute.Choice.TheVariants.{Replace as To_replace, Remove as To_remove}
use Rattle.papaya_call.specs.declared.compute.Gap.TheVariants.{NoRoot}
use Rattle.papaya_call.specs.declared.compute.Purpose.{Purpose}
use Rattle.papaya_call.specs.declared.compute.Purpose.TheVariants.{Fill, Replace, Again}
use Rattle.papaya_call.specs.declared.machine.Machine.{Machine as Call_machine}
use Rattle.papaya_call.specs.declared.machine.State.{State}
use Rattle.papaya_call.specs.declared.machine.State.TheVariants.{AtRoot, Searching, Offering}
use Rattle.papaya_call.specs.declared.machine.State.TheVariants.{Showing, Pairing, Putting}
use Rattle.papaya_call.specs.declared.machine.State.TheVariants.{Burying, Counting, Uncounting}
use Rattle.papaya_call.specs.declared.machine.State.TheVariants.{Leaving, Growing, Ended}
use Rattle.papaya_call.specs.Write.{claimed_by}
use Rattle.papaya_call.specs.declared.made.Made.{Made}
use Rattle.papaya_call.specs.Answers.{Says}
use Rattle.papaya_call.specs.Compute.{lacks, nothing}
use Rattle.papaya_call.specs.Made.{grown, told as number_told}
use Rattle.papaya_call.specs.Machine as calls
use Rattle.papaya_call.specs.Machine.{asks, computes, goes_as}
use Rattle.papaya_call.specs.declared.chain.ask.Ask.TheVariants as asked
use Rattle.papaya_call.specs.declared.chain.ask.Answer.{Answer}
use Rattle.papaya_call.specs.declared.chain.ask.Answer.TheVariants as answers
use Rattle.papaya_call.specs.declared.chain.machine.Machine.{Machine}
use Rattle.papaya_call.specs.declared.chain.machine.Phase.TheVariants.{Calling}
use Rattle.papaya_call.specs.ChainMachine.{after, ask_of}
use Rattle.papaya_call_law.specs.ChainRelies.{left_by}
use Rattle.papaya_call_law.specs.Alone.{IsRead}
use Rattle.papaya_call_law.specs.Says.{Inserts, Makes, Removes, ClosureResult, ActsOn, result_to_choose, result_to_fill}
use Rattle.papaya_call_law.proofs.AloneSteps.{exchange_done}
use Rattle.papaya_call_law.proofs.Makings.{numbered_leads, paired_leads}
use Rattle.papaya_core_store.specs.Asks.{PerformsAsk}
use Rattle.papaya_core_store.specs.Performs.{Performs, own_key, same as compares, size_of}
use Rattle.papaya_core_store.specs.Store.{StoreState, pair_of}
use Rattle.papaya_core_store.specs.Tables.{hint_at, table_of, word_at}
use Rattle.papaya_core_store.specs.declared.pairs.Running.{Running}
use Rattle.papaya_seq.proofs.TableSearch.{IsSearchIn, IsSeenIn, IsSettledKind, compared_in, hinted_in, loaded_in, settled_kind, settled_live}

-- a returned value of which a pair is yet to be made
abbrev pub IsYetToMake : ClosureResult → Type 0
IsYetToMake (Inserts shown) = Unit {0}
IsYetToMake _ = ⊥

remembered_none : (fill : Option ℕ) (choice : Option Choice) → ((said : ClosureResult) → result_to_fill fill ≡ Some said → IsYetToMake said)
    → ((said : ClosureResult) → result_to_choose choice ≡ Some said → IsYetToMake said) → record { fill = fill; choice = choice } ≡ nothing
remembered_none None None filled chosen = refl
remembered_none (Some n) choice filled chosen = absurd (filled (Makes None n) refl)
remembered_none None (Some (To_replace old new)) filled chosen = absurd (chosen (Makes (Some old) new.pair) refl)
remembered_none None (Some (To_remove old)) filled chosen = absurd (chosen (Removes old) refl)

-- a machine that acts on nothing else remembers nothing
pub remembers_nothing : (m : Call_machine) → ((said : ClosureResult) → ActsOn m said → IsYetToMake said) → m.remembered ≡ nothing
remembers_nothing m only = remembered_none m.remembered.fill m.remembered.choice (λ said e. only said (inr (inl e))) (λ said e. only said (inr (inr e)))

-- a compute whose closure was not called is in the table of this number
abbrev pub IsInRoot : ℕ → State → Type 0
IsInRoot root AtRoot = Unit {0}
IsInRoot root (Searching search) = IsSearchIn (λ word. IsSettledKind (kind_of word)) root search
IsInRoot root (Leaving t) = t ≡ root
IsInRoot root (Offering gap) = Unit {0}
IsInRoot root (Showing removal) = Unit {0}
IsInRoot root _ = ⊥

-- the next state after its search there
goes_in : (root : ℕ) (mode : ResizeMode) (saw : ProbeStep) → IsSeenIn (λ word. IsSettledKind (kind_of word)) root saw
    → IsInRoot root (goes_as Compute mode nothing saw)
goes_in root mode (seen.On search) there = there
goes_in root mode (seen.Empty place) there = tt
goes_in root mode (seen.Here place word) (there, settled, uncopied) = subst (λ kind. IsInRoot root (computes kind nothing place word))
    (sym (settled_live (kind_of word) settled uncopied)) tt
goes_in root (Incremental chunk) (seen.Over t) there = there
goes_in root Blocking (seen.Over t) there = tt

-- a compute that continues for itself and remembers nothing
abbrev pub bare_at : Machine → State → Machine
bare_at m state = record { call = record m.call { task = Compute; remembered = nothing; state = state }; number = m.number; helped = m.helped; phase = Calling }

pub bare_is : (m : Machine) (state : State) → m.call.task ≡ Compute → m.call.remembered ≡ nothing → m.phase ≡ Calling → m.call.state ≡ state
    → m ≡ bare_at m state
bare_is m state task held phase is =
    ap (λ p. record m { phase = p }) phase
    ∙ ap (λ t. record { call = record m.call { task = t }; number = m.number; helped = m.helped; phase = Calling }) task
    ∙ ap (λ h. record { call = record m.call { task = Compute; remembered = h }; number = m.number; helped = m.helped; phase = Calling }) held
    ∙ ap (λ x. record { call = record m.call { task = Compute; remembered = nothing; state = x }; number = m.number; helped = m.helped; phase = Calling }) is

module _ {K V S A : Type 0} (eq : K → K → Bool) (says : Says K V A) (hash : S → K → ℕ) (store : StoreState K V S) (r : Running K V A)
    (store' : StoreState K V S) (later : Running K V A) where
  module _ (m : Machine) (last : word_at store.words (Next store.words.root) ≡ 0)
      (unmarked : (i : ℕ) → kind_of (word_at store.words (Slot store.words.root i)) ≡ kinds.Marked → ⊥) where
    -- it is in the root after an answer
    abbrev IsIn : State → Answer → Type 0
    IsIn state answer = ((after (bare_at m state) answer).phase ≡ Calling) × IsInRoot store.words.root (after (bare_at m state) answer).call.state

    size_in : (t : ℕ) (o : Option TableWords) → t ≡ store.words.root → IsIn (Searching (Sizing t)) (answers.Call (size_of o))
    size_in t None there = (refl, (there, tt))
    size_in t (Some table) there = (refl, (there, tt))

    -- and nothing was changed
    pub root_stays : (state : State) (answer : Answer) → IsInRoot store.words.root state → (ask_of (bare_at m state) ≡ asked.Call ShowNone → ⊥)
        → ((n : ℕ) → ask_of (bare_at m state) ≡ asked.Call (ShowPair n) → ⊥)
        → PerformsAsk eq says hash false (ask_of (bare_at m state)) store r answer store' later → (store' ≡ store) × IsIn state answer
    root_stays AtRoot answer there no_none no_pair (told, is, (e, (same, stays))) =
        let root = store.words.root in (
          same,
          subst (IsIn AtRoot) (sym (is ∙ ap answers.Call e))
              (refl, cond_both (root == 0) (lacks None NoRoot) (Searching (Sizing root)) (IsInRoot root) (λ _. tt) (λ _. (refl, tt))),
        )
    root_stays (Searching (Sizing t)) answer there no_none no_pair
        (told, is, (e, (same, stays))) = (
          same,
          subst (IsIn (Searching (Sizing t))) (sym (is ∙ ap answers.Call e))
              (size_in t (table_of store.words.tables t) there.0),
        )
    root_stays (Searching (Looking place)) answer there no_none no_pair (told, is, (e, (same, stays))) =
        let hint : ℕ = hint_at store.words place.table place.probe.i in (
          same,
          subst (IsIn (Searching (Looking place))) (sym (is ∙ ap answers.Call e)) (
            refl,
            goes_in store.words.root m.call.mode (hinted place m.call.hash hint)
                (hinted_in (λ n. IsSettledKind (kind_of n)) store.words.root place m.call.hash hint there.0),
          ),
        )
    root_stays (Searching (Reading place)) answer there no_none no_pair (told, is, (e, (same, stays))) =
        let word : ℕ = word_at store.words (Slot place.table place.probe.i) in
        let open_still : kind_of word ≡ kinds.Marked
        → ⊥ = subst (λ t. kind_of (word_at store.words (Slot t place.probe.i)) ≡ kinds.Marked → ⊥) (sym there.0) (unmarked place.probe.i) in (
          same,
          subst (IsIn (Searching (Reading place))) (sym (is ∙ ap answers.Call e)) (
            refl,
            goes_in store.words.root m.call.mode (look place word)
                (loaded_in (λ n. IsSettledKind (kind_of n)) store.words.root (Reading place) m.call.hash word there (settled_kind (kind_of word) open_still)),
          ),
        )
    root_stays (Searching (Comparing place word)) answer there no_none no_pair (told, is, (e, (same, stays))) =
        let alike : Bool = compares eq (own_key store r) (pair_of store (number_of word)) in (
          same,
          subst (IsIn (Searching (Comparing place word))) (sym (is ∙ ap answers.Call e)) (
            refl,
            goes_in store.words.root m.call.mode (search_compared (Comparing place word) alike)
                (compared_in (λ n. IsSettledKind (kind_of n)) store.words.root (Comparing place word) alike there),
          ),
        )
    root_stays (Leaving t) answer there no_none no_pair (told, is, (e, (same, stays))) = (
      same,
      subst (IsIn (Leaving t)) (sym (is ∙ ap answers.Call e ∙ ap (λ n. answers.Call (Word_read (word_at store.words (Next n)))) there
          ∙ ap (λ n. answers.Call (Word_read n)) last)) (refl, tt),
    )
    root_stays (Offering gap) answer there no_none no_pair performs = absurd (no_none refl)
    root_stays (Showing removal) answer there no_none no_pair performs = absurd (no_pair (number_of removal.word) refl)
    root_stays state answer there no_none no_pair performs = absurd there

-- called with a pair, its closure returned a value: the pair that is made of it replaces that one
abbrev pub IsReplacing : State → Type 0
IsReplacing (Pairing (Replace write)) = 0 < write.old
IsReplacing (Putting put) = 0 < put.write.old
IsReplacing (Ended reply) = Unit {0}
IsReplacing _ = ⊥

-- or it would have that one removed
abbrev pub IsRemoving : State → Type 0
IsRemoving (Burying removal) = Unit {0}
IsRemoving (Uncounting n) = Unit {0}
IsRemoving (Ended (Removed n)) = Unit {0}
IsRemoving _ = ⊥

-- such a call was not set aside
pub replacing_stands : (state : State) → IsReplacing state → (t : ℕ) → left_by state ≡ Some t → ⊥
replacing_stands (Leaving u) there t e = there
replacing_stands (Growing need) there t e = there
replacing_stands state there t e = absurd cc

pub removing_stands : (state : State) → IsRemoving state → (t : ℕ) → left_by state ≡ Some t → ⊥
removing_stands (Leaving u) there t e = there
removing_stands (Growing need) there t e = there
removing_stands state there t e = absurd cc

module _ {K V S A : Type 0} (eq : K → K → Bool) (says : Says K V A) (store : StoreState K V S) (r : Running K V A) (store' : StoreState K V S)
    (later : Running K V A) (m : Call_machine) where
  -- the call of a compute in a state
  abbrev pub compute_at : Made → State → Call_machine
  compute_at made state = record m { task = Compute; made = made; state = state }

  -- the pair that is made of its value is followed by the exchange
  pairing_stable : (made : Made) (purpose : Purpose) (told : Call_answer) → IsReplacing (Pairing purpose)
      → IsReplacing (calls.after (compute_at made (Pairing purpose)) told).state
  pairing_stable made (Fill gap) told there = absurd there
  pairing_stable made (Again write) told there = absurd there
  pairing_stable made (Replace write) (Word_read count) there = numbered_leads IsReplacing tt (Pairing (Replace write)) there (number_told made count)
  pairing_stable made (Replace write) (Found_instead count) there = numbered_leads IsReplacing tt (Pairing (Replace write)) there (number_told made count)
  pairing_stable made (Replace write) (Made_number n) there = paired_leads IsReplacing (Replace write) n there there (grown made write.old)
  pairing_stable made (Replace write) (Was_refused refused) there = tt
  pairing_stable made (Replace write) told there = there

  -- which isn't lost
  pub replacing_stays : (made : Made) (state : State) (told : Call_answer) → IsReplacing state → IsRead (word_at store.words) state
      → Performs eq says false (asks made m.hash state) store r told store' later → IsReplacing (calls.after (compute_at made state) told).state
  replacing_stays made (Pairing purpose) told there read performs = pairing_stable made purpose told there
  replacing_stays made (Putting put) told there read (exchanges, stays) =
      let done = exchange_done _ _ (word_at store.words (Slot put.write.place.table put.write.place.probe.i)) put.write.old read exchanges in
      subst (λ a. IsReplacing (calls.after (compute_at made (Putting put)) a).state) (sym done.0)
      (cond_both (put.write.old == 0) (Counting (claimed_by put.write put.pair)) (Ended _) IsReplacing
      (λ none. let zero : put.write.old ≡ 0 = eqb-true put.write.old 0 none in let some : 0 < put.write.old = there in
      absurd (omega (arith, zero, some))) (λ _. tt))
  replacing_stays made (Ended reply) told there read
      (e, (same, stays)) = subst (λ a. IsReplacing (calls.after (compute_at made (Ended reply)) a).state) (sym e) tt
  replacing_stays made state told there read performs = absurd there

  -- nor is that of a deletion
  pub removing_stays : (made : Made) (state : State) (told : Call_answer) → IsRemoving state → IsRead (word_at store.words) state
      → Performs eq says false (asks made m.hash state) store r told store' later → IsRemoving (calls.after (compute_at made state) told).state
  removing_stays made (Burying removal) told there read (exchanges, stays) =
      let done = exchange_done _ _ (word_at store.words (Slot removal.place.table removal.place.probe.i)) removal.word read exchanges in
      subst (λ a. IsRemoving (calls.after (compute_at made (Burying removal)) a).state) (sym done.0) tt
  removing_stays made (Uncounting n) told there read
      (e, added, stays) = subst (λ a. IsRemoving (calls.after (compute_at made (Uncounting n)) a).state) (sym e) tt
  removing_stays made (Ended reply) told there read (e, (same, stays)) = subst (λ a. IsRemoving (calls.after (compute_at made (Ended reply)) a).state)
      (sym e) there
  removing_stays made state told there read performs = absurd there
