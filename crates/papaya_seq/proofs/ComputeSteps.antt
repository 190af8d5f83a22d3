-- A compute of a map for one caller, over one answer that is not the result of its closure.
use Rattle.std.proofs.Common.{◌≡◌, ◌⊎◌, inl, inr, ⊎_elim, ℕ, ◌^◌, ◌<◌, Bool, false, Option, None, Some, [], option_map, refl, sym, ◌∙◌, ap, subst}
use denote.Ref.{Bor}
use Rattle.papaya_words.specs.Word.{kind_of, pair_of as number_of}
use Rattle.papaya_words.specs.declared.refused.Refused.{Refused}
use Rattle.papaya_words.specs.declared.word.Kind.TheVariants.{Marked}
use Rattle.papaya_call.specs.Answers.{Says as Answers_say}
use Rattle.papaya_call.specs.declared.answers.Operation.{Operation}
use Rattle.papaya_call.specs.declared.answers.Operation.TheVariants as ops
use Rattle.papaya_call.specs.declared.ask.Answer.TheVariants.{Made as Made_number}
use Rattle.papaya_call.specs.declared.ask.Ask.{Ask as Call_ask}
use Rattle.papaya_call.specs.declared.ask.Ask.TheVariants.{ShowNone, ShowPair, Done as Ask_done}
use Rattle.papaya_call.specs.declared.ask.At.TheVariants.{Next, Slot}
use Rattle.papaya_call.specs.declared.call.Reply.{Reply}
use Rattle.papaya_call.specs.declared.call.Reply.TheVariants.{Inserted, Replaced, Removed, Aborted, Refused as Reply_refused}
use Rattle.papaya_call.specs.declared.call.Task.TheVariants.{Compute}
use Rattle.papaya_call.specs.declared.compute.Purpose.{Purpose}
use Rattle.papaya_call.specs.declared.compute.Purpose.TheVariants.{Fill, Replace, Again}
use Rattle.papaya_call.specs.declared.machine.Machine.{Machine as Call_machine}
use Rattle.papaya_call.specs.declared.machine.State.{State as Stage}
use Rattle.papaya_call.specs.declared.machine.State.TheVariants.{Writing, Pairing}
use Rattle.papaya_call.specs.declared.write.Write.{Write}
use Rattle.papaya_call.specs.Compute.{nothing}
use Rattle.papaya_call.specs.Machine as calls
use Rattle.papaya_call.specs.Machine.{IsValidState}
use Rattle.papaya_call_alone.specs.Ahead.{IsPhaseRead}
use Rattle.papaya_call.specs.declared.chain.ask.Ask.{Ask}
use Rattle.papaya_call.specs.declared.chain.ask.Ask.TheVariants as asked
use Rattle.papaya_call.specs.declared.chain.ask.Answer.{Answer}
use Rattle.papaya_call.specs.declared.chain.ask.Answer.TheVariants as answers
use Rattle.papaya_call.specs.declared.chain.machine.Machine.{Machine}
use Rattle.papaya_call.specs.declared.chain.machine.Phase.TheVariants.{Calling}
use Rattle.papaya_call.specs.ChainMachine.{IsFitAsk, IsValid, after, ask_of}
use Rattle.papaya_call_law.specs.Goes.{Goes, IsOwnStep}
use Rattle.papaya_call_law.specs.ChainRelies.{left_by}
use Rattle.papaya_call_law.proofs.Once.{chain_once}
use Rattle.papaya_call_law.specs.Alone.{IsRead}
use Rattle.papaya_call_law.specs.Says.{Agrees, Inserts, IsResultBy, Makes, Removes, ClosureResult, NamesPairIn}
use Rattle.papaya_call_law.specs.Says.{ActsOn, WasReturned, result_in, result_in_reply, result_of_compute}
use Rattle.papaya_call_law.specs.Says.{result_to_choose, show}
use Rattle.papaya_call_law.proofs.SaysOver.{machine_paired}
use Rattle.papaya_core_store.specs.Asks.{PerformsAsk}
use Rattle.papaya_core_store.specs.Performs.{Performs, own_value}
use Rattle.papaya_core_store.specs.Store.{KeepsPairs, StoreState, Stored}
use Rattle.papaya_core_store.specs.Tables.{word_at}
use Rattle.papaya_core_store.specs.declared.pairs.Running.{Running}
use Rattle.papaya_core_timeline.specs.Advances.{reply_in}
use Rattle.papaya_core_timeline.specs.Content.{map_in}
use Rattle.papaya_core_timeline.specs.Kept.{IsLawfulCore}
use Rattle.papaya_core_timeline.specs.Solo.{whatever}
use Rattle.papaya_core_timeline.proofs.ChainLemmas.{asks_own, chain_aborted}
use Rattle.papaya_core_timeline.proofs.CoreLemmas.{reply_asked}
use Rattle.papaya_core_timeline.proofs.KeptLemmas.{IsLawfulKeys}
use Rattle.papaya_core_timeline.proofs.KeptStep as kept_steps
use Rattle.papaya_core_timeline.proofs.MadePairs.{MakesOver}
use Rattle.papaya_core_timeline.proofs.StoreLemmas.{performed_ask, unnumbered}
use Rattle.papaya_seq.specs.Map.{IsLawfulMap, IsWriteCauseAt, MapState, next_of}
use Rattle.papaya_seq.proofs.Answering.{IsShowing, answering_performs}
use Rattle.papaya_seq.proofs.Causes.{IsLogRefusal, IsNoTableRefusal, IsPairStage, IsTableAsk, IsNotStored, PairsFirst, refused_so, unlogged_more, write_cause}
use Rattle.papaya_seq.proofs.ComputeRun.{HasPair, IsAsked, IsComputing, IsDoing, IsFirstEnd}
use Rattle.papaya_seq.proofs.ComputeRun.{IsInsertEnd, IsInsertSaid, IsInserting, IsOnWay, IsShown}
use Rattle.papaya_seq.proofs.ComputeRun.{IsToRemove, IsWaiting, Went, ended_by, map_at}
use Rattle.papaya_seq.proofs.ComputeShown.{asking}
use Rattle.papaya_seq.proofs.ComputeStages.{IsInRoot, IsRemoving, IsReplacing, IsYetToMake, bare_at}
use Rattle.papaya_seq.proofs.ComputeStages.{bare_is, remembers_nothing, removing_stands}
use Rattle.papaya_seq.proofs.ComputeStages.{removing_stays, replacing_stands, replacing_stays}
use Rattle.papaya_seq.proofs.ComputeStages.{root_stays}
use Rattle.papaya_seq.proofs.Logs.{IsFirst}
use Rattle.papaya_seq.proofs.StepsOfOwn.{own_performs, own_step}
use Rattle.papaya_seq.proofs.Steps.{HasCome, came_more, made_goes, made_more, made_nears, made_ordered, made_says, seated}
use Rattle.papaya_seq.proofs.KeyCalls.{keyed_compute}
use Rattle.papaya_seq.proofs.Unmarked.{last_next, unmarked}

-- an ask that is none of a closure
pub unshown : (ask : Call_ask) → (ask ≡ ShowNone → ⊥) → ((n : ℕ) → ask ≡ ShowPair n → ⊥) → IsShowing ask → ⊥
unshown ShowNone no_none no_pair showing = no_none refl
unshown (ShowPair n) no_none no_pair showing = no_pair n refl
unshown ask no_none no_pair showing = showing

module _ {K V S A : Type 0} (eq : K → K → Bool) (hash : S → K → ℕ) (s : MapState K V S) (k : K) (says : Answers_say K V A)
    (store : StoreState K V S) (r : Running K V A) (answer : Answer) (store' : StoreState K V S) (later : Running K V A)
    (going : reply_in (ask_of r.machine) ≡ None) (no_none : ask_of r.machine ≡ asked.Call ShowNone → ⊥)
    (no_pair : (n : ℕ) → ask_of r.machine ≡ asked.Call (ShowPair n) → ⊥)
    (performed : PerformsAsk eq says hash false (ask_of r.machine) store r answer store' later) (same : later.machine ≡ r.machine) where
  -- for any result of its closure
  performs : PerformsAsk eq whatever hash false (ask_of r.machine) store (asking r) answer store' (asking later) × (later.answers ≡ r.answers)
  performs = answering_performs eq says (Some tt) hash false (ask_of r.machine) store r answer store' later
      (λ own is. unshown own (λ e. no_none (is ∙ ap asked.Call e)) (λ n e. no_pair n (is ∙ ap asked.Call e))) performed

  -- the machine after the answer
  abbrev next : Machine
  next = after r.machine answer

  -- the ask was not its reply
  unreplied : (reply : Reply) → ask_of r.machine ≡ asked.Call (Ask_done reply) → ⊥
  unreplied reply e = let f : None ≡ Some reply = sym going ∙ ap reply_in e in absurd cc

  -- no closure is called
  not_shown : (shown : Option ℕ) → ask_of r.machine ≡ asked.Call (show shown) → ⊥
  not_shown None e = no_none e
  not_shown (Some n) e = no_pair n e

  module _ (keys : IsLawfulKeys eq (hash s.store.hasher)) (came : HasCome eq hash s (keyed_compute k) store (asking r))
      (un : IsNotStored eq hash s (keyed_compute k) store (asking r)) where
    -- the core is in order
    lawful_now : IsLawfulCore eq (hash s.store.hasher) store (seated store (Some (asking r)) s.mode s.initial).callers s.mode
    lawful_now = subst (λ h. IsLawfulCore eq (hash h) store (seated store (Some (asking r)) s.mode s.initial).callers s.mode) came.hasher
        (came.lone going).lawful

    -- the arena keeps its pairs
    keeps : KeepsPairs store store'
    keeps =
        let (es, (call_traces, kept)) = lawful_now.law in
        (kept_steps.left eq (hash s.store.hasher) keys whatever hash false (seated store (Some (asking r)) s.mode s.initial) 0
        (seated store' (Some (asking r)) s.mode s.initial) (asking r) answer (asking later) refl performs.0 (ap hash came.hasher) refl es
        call_traces lawful_now.core kept).logged

    goes : Goes r.machine answer
    goes = made_goes eq hash s (keyed_compute k) store (asking r) answer store' (asking later) going performs.0 same keys came

    -- a pair was made of the value
    abbrev HasMade : ClosureResult → Type 0
    HasMade said = (own : IsOwnStep r.machine answer) × (shown : Option ℕ) × (n : ℕ) × (said ≡ Makes shown n) × IsResultBy r.machine.call own.told (Makes shown n)

    -- it acted on the same result before, or a pair was made
    said_now : (said : ClosureResult) → (own : IsOwnStep r.machine answer) → IsResultBy r.machine.call own.told said → HasMade said
    said_now (Agrees n agrees) own (asks_it, is) = absurd (no_pair n (asks_own r.machine own.phase ∙ ap asked.Call asks_it))
    said_now (Inserts shown) own (asks_it, is) = absurd (not_shown shown (asks_own r.machine own.phase ∙ ap asked.Call asks_it))
    said_now (Removes n) own (asks_it, is) = absurd (no_pair n (asks_own r.machine own.phase ∙ ap asked.Call asks_it))
    said_now (Makes shown n) own by = (own, shown, n, refl, by)

    said_goes : (said : ClosureResult) → ActsOn next.call said → ActsOn r.machine.call said ⊎ HasMade said
    said_goes said stands =
        ⊎_elim
        (λ before. inl before)
        (λ (by : (own : IsOwnStep r.machine answer) × IsResultBy r.machine.call own.told said). inr (said_now said by.0 by.1))
        (made_says eq hash s (keyed_compute k) store (asking r) answer store' (asking later) going performs.0 same keys came said stands)

    -- after a pair was made of the value, the machine has no value left without a pair
    unpaired : (own : IsOwnStep r.machine answer) (shown' : Option ℕ) (n : ℕ) → IsResultBy r.machine.call own.told (Makes shown' n) → (shown : Option ℕ)
        → ActsOn next.call (Inserts shown) → ⊥
    unpaired own shown' n (was, makes, told) shown stands =
        let valid = (lawful_now.core.valid 0 (asking r) refl).call in
        let there : ActsOn (calls.after r.machine.call (Made_number n))
        (Inserts shown) = subst (λ a. ActsOn (calls.after r.machine.call a) (Inserts shown)) told
        (subst (λ d. ActsOn d (Inserts shown)) own.call stands) in
        elim (machine_paired r.machine.call n came.task valid came.shows makes) [
          | inl filled ↦ let f : Inserts shown ≡ Makes None n = filled.1 (Inserts shown) there in cc f
          | inr (i, was_said, only) ↦ elim (only (Inserts shown) there) [
            | inl is ↦ cc is
            | inr (m, is, stood) ↦ cc is
          ]
        ]

    -- the pair that was made has the value
    pair_made : (v : V) → own_value store r ≡ Some v → (own : IsOwnStep r.machine answer) (shown : Option ℕ) (n : ℕ)
        → IsResultBy r.machine.call own.told (Makes shown n) → HasPair v store' n
    pair_made v has own shown n (was, makes, told) =
        let (es, (call_traces, kept)) = lawful_now.law in
        let made = kept_steps.made_now eq (hash s.store.hasher) keys whatever hash false (seated store (Some (asking r)) s.mode s.initial) 0
        (seated store' (Some (asking r)) s.mode s.initial) (asking r) answer (asking later) refl performs.0 (ap hash came.hasher) refl es
        call_traces lawful_now.core kept n
        (subst MakesOver (sym (asks_own r.machine own.phase)) makes) (own.is ∙ ap answers.Call told) in
        let both : Some v ≡ Some made.pair.value = sym has ∙ made.before in
        let value : v ≡ made.pair.value = cc both in
        (made.pair, made.there, sym value)

    -- and so has the call
    value_kept : (v : V) → own_value store r ≡ Some v → own_value store' later ≡ Some v
    value_kept v has =
        let (es, (call_traces, kept)) = lawful_now.law in
        elim (kept_steps.left eq (hash s.store.hasher) keys whatever hash false (seated store (Some (asking r)) s.mode s.initial) 0
        (seated store' (Some (asking r)) s.mode s.initial) (asking r) answer (asking later) refl performs.0 (ap hash came.hasher) refl es
        call_traces lawful_now.core kept).value [
          | inl keeps ↦ keeps.same v has
          | inr said ↦ elim said.shown [
            | inl none ↦ absurd (no_none none)
            | inr (n, shows, computes) ↦ absurd (no_pair n shows)
          ]
        ]

    -- a compute that is to make a pair has made none before
    pairs_first : ((purpose : Purpose) → r.machine.call.state ≡ Pairing purpose → r.machine.call.remembered ≡ nothing) → PairsFirst r.machine.call
    pairs_first none pairing = subst (λ t. IsFirst t r.machine.call.made r.machine.call.remembered) (sym came.task) (by_stage r.machine.call.state refl pairing)
      where
        stands : IsValidState Compute r.machine.call.state
        stands = subst (λ t. IsValidState t r.machine.call.state) came.task (lawful_now.core.valid 0 (asking r) refl).call.state

        by_stage : (stage : Stage) → r.machine.call.state ≡ stage → IsPairStage r.machine.call.made stage → r.machine.call.remembered ≡ nothing
        by_stage (Writing write) is h = absurd (subst (IsValidState Compute) is stands).0
        by_stage (Pairing purpose) is h = none purpose is
        by_stage stage is h = absurd h

    -- the call after the answer
    abbrev then : Running K V A
    then = record later { machine = next }

    came_after : HasCome eq hash s (keyed_compute k) store' (asking then)
    came_after = came_more eq hash s (keyed_compute k) store (asking r) answer store' (asking later) going performs.0 same keys came

    -- if it has replied, it acts on the result in the reply
    told_stands : (reply : Reply) → reply_in (ask_of next) ≡ Some reply → (said : ClosureResult) → result_of_compute reply ≡ Some said → ActsOn next.call said
    told_stands reply told said is = inl (ap (result_in next.call.task) (ended_by next reply told).1 ∙ ap (λ t. result_in_reply t reply) came_after.task ∙ is)

    -- only a closure aborts
    unaborted : (t : ℕ) → reply_in (ask_of next) ≡ Some (Aborted t) → ⊥
    unaborted t told = let (shown, asks_it, is) = chain_aborted r.machine answer goes t unreplied (reply_asked (ask_of next) (Aborted t) told) in
        not_shown shown asks_it

    -- why it is refused
    refused_why : ((purpose : Purpose) → r.machine.call.state ≡ Pairing purpose → r.machine.call.remembered ≡ nothing) → (refused : Refused)
        → reply_in (ask_of next) ≡ Some (Reply_refused refused) → IsLogRefusal s refused ⊎ (IsTableAsk r.machine × IsNoTableRefusal (map_at s store') refused)
    refused_why first refused told =
        elim (refused_so eq hash s (keyed_compute k) store (asking r) answer store' (asking later) going performs.0 same keys came un
        (pairs_first first) refused told) [
          | inl log ↦ inl log
          | inr (inl table) ↦ inr table
          | inr (inr removes) ↦ absurd (no_none removes.1)
        ]

    -- the call made a step for itself if it was not set aside, and its ask was answered
    abbrev own_goes : ((t : ℕ) → left_by r.machine.call.state ≡ Some t → ⊥) → IsOwnStep r.machine answer
    own_goes = own_step r.machine answer goes

    abbrev told_performs : (own : IsOwnStep r.machine answer)
        → Performs eq whatever false (calls.ask_of r.machine.call) store (asking r) own.told store' (asking later)
    told_performs own = own_performs eq whatever hash store (asking r) answer store' (asking later) own.told own.phase own.is performs.0

    -- a word that it has read is unchanged
    read_now : r.machine.phase ≡ Calling → IsRead (word_at store.words) r.machine.call.state
    read_now phase = (subst (λ p. IsPhaseRead r.machine.call.mode (word_at store.words) r.machine.call.state p) phase (came.lone going).current.read).0

    -- it is a compute
    as_compute : (Holds : Call_machine → Type 0) → Holds (record r.machine.call { task = Compute }) → Holds r.machine.call
    as_compute Holds = subst (λ t. Holds (record r.machine.call { task = t })) (sym came.task)

    -- if its closure was called with a pair and returned a value, the call still replaces that pair
    replacing_more : (r.machine.phase ≡ Calling) × IsReplacing r.machine.call.state → (next.phase ≡ Calling) × IsReplacing next.call.state
    replacing_more (phase, there) =
        let own = own_goes (replacing_stands r.machine.call.state there) in (
          own.goes_on,
          subst (λ (d : Call_machine). IsReplacing d.state) (sym own.call)
              (as_compute (λ d. IsReplacing (calls.after d own.told).state)
              (replacing_stays eq whatever store (asking r) store' (asking later) r.machine.call r.machine.call.made r.machine.call.state own.told
              there (read_now phase) (told_performs own))),
        )

    -- or it would have the pair removed
    removing_more : (r.machine.phase ≡ Calling) × IsRemoving r.machine.call.state → (next.phase ≡ Calling) × IsRemoving next.call.state
    removing_more (phase, there) =
        let own = own_goes (removing_stands r.machine.call.state there) in (
          own.goes_on,
          subst (λ (d : Call_machine). IsRemoving d.state) (sym own.call)
              (as_compute (λ d. IsRemoving (calls.after d own.told).state)
              (removing_stays eq whatever store (asking r) store' (asking later) r.machine.call r.machine.call.made r.machine.call.state own.told
              there (read_now phase) (told_performs own))),
        )

    module _ (held : Option (Stored K V)) (v : V) (now : IsInserting s held v store r) where
      -- the value is the call's, and the pair's once it is made
      insert_value : own_value store' then ≡ Some v
      insert_value = value_kept v now.value

      -- the closure was called with the same argument before
      was_shown : (shown : Option ℕ) → WasReturned r.machine.call shown → IsShown held shown
      was_shown shown (inl stands) = (now.said (Inserts shown) stands).0
      was_shown shown (inr (n, stands)) = (now.said (Makes shown n) stands).0

      insert_said : (said : ClosureResult) → ActsOn next.call said → IsInsertSaid held v store' then said
      insert_said (Agrees n agrees) stands = elim (said_goes (Agrees n agrees) stands) [
        | inl before ↦ now.said (Agrees n agrees) before
        | inr (own, shown, m, is, by) ↦ cc is
      ]
      insert_said (Removes n) stands = elim (said_goes (Removes n) stands) [
        | inl before ↦ now.said (Removes n) before
        | inr (own, shown, m, is, by) ↦ cc is
      ]
      insert_said (Makes shown n) stands = elim (said_goes (Makes shown n) stands) [
        | inl before ↦ (let (same_shown, (p, logged, value)) = now.said (Makes shown n) before in (same_shown, (p, keeps n p logged, value)))
        | inr (own, shown', n', is, by) ↦
            let number : n' ≡ n = cc is in
            let showed : shown' ≡ shown = cc is in
            (sym showed ∙ was_shown shown' by.0, subst (HasPair v store') number (pair_made v now.value own shown' n' by))
      ]
      insert_said (Inserts shown) stands = elim (said_goes (Inserts shown) stands) [
        | inl before ↦
            let (same_shown, only) = now.said (Inserts shown) before in (
              same_shown,
              λ other there. elim (said_goes other there) [
                | inl was ↦ only other was
                | inr (own, shown', n', is, by) ↦ absurd (unpaired own shown' n' by shown stands)
              ],
            )
        | inr (own, shown', m, is, by) ↦ absurd (cc is)
      ]

      -- a call that is to make a pair remembers none
      only_said : (shown : Option ℕ) → ActsOn r.machine.call (Inserts shown) → r.machine.call.remembered ≡ nothing
      only_said shown stands = remembers_nothing r.machine.call (λ other there. subst IsYetToMake (sym ((now.said (Inserts shown) stands).1 other there)) tt)

      no_again : (held' : Option (Stored K V)) → held ≡ held' → (write : Write) → r.machine.call.state ≡ Pairing (Again write) → IsOnWay held' r.machine → ⊥
      no_again None is write at way =
          let (some, (new, choice)) = subst (NamesPairIn r.machine.call.remembered.choice) at came.shows in
          let shown : Some (number_of write.old) ≡ None =
          (now.said (Makes (Some (number_of write.old)) new.pair) (inr (inr (ap result_to_choose choice)))).0
          ∙ ap (option_map (λ (p : Stored K V). p.number)) is in
          cc shown
      no_again (Some p) is write at way = subst IsReplacing at way.1

      insert_first : (purpose : Purpose) → r.machine.call.state ≡ Pairing purpose → r.machine.call.remembered ≡ nothing
      insert_first (Fill gap) is = only_said None (inl (ap (result_in r.machine.call.task) is))
      insert_first (Replace write) is = only_said (Some (number_of write.old)) (inl (ap (result_in r.machine.call.task) is))
      insert_first (Again write) is = absurd (no_again held refl write is now.way)

      -- it is refused for a cause
      table_refused : (held' : Option (Stored K V)) → IsOnWay held' r.machine → IsTableAsk r.machine → (refused : Refused)
          → IsNoTableRefusal (map_at s store') refused → IsWriteCauseAt s held' refused (map_at s store')
      table_refused None way table refused (inl memory) = inl memory
      table_refused None way table refused (inr (capacity, none)) = inr (inl (capacity, inr (inl refl, none)))
      table_refused (Some p) way table refused why = absurd (subst IsReplacing (table way.0) way.1)

      insert_refused : (refused : Refused) → IsLogRefusal s refused ⊎ (IsTableAsk r.machine × IsNoTableRefusal (map_at s store') refused)
          → IsWriteCauseAt s held refused (map_at s store')
      insert_refused refused (inl (inl memory)) = inl memory
      insert_refused refused (inl (inr (inl (capacity, full)))) = inr (inl (capacity, inl full))
      insert_refused refused (inl (inr (inr spent))) = inr (inr spent)
      insert_refused refused (inr (table, why)) = table_refused held now.way table refused why

      insert_ends : (reply : Reply) → reply_in (ask_of next) ≡ Some reply → IsInsertEnd s held v store' reply
      insert_ends (Inserted n) told = (insert_said (Makes None n) (told_stands (Inserted n) told (Makes None n) refl)).1
      insert_ends (Replaced m n) told = (insert_said (Makes (Some m) n) (told_stands (Replaced m n) told (Makes (Some m) n) refl)).1
      insert_ends (Removed n) told = insert_said (Removes n) (told_stands (Removed n) told (Removes n) refl)
      insert_ends (Aborted t) told = unaborted t told
      insert_ends (Reply_refused refused) told = insert_refused refused (refused_why insert_first refused told)
      insert_ends reply told = tt

      insert_way : (held' : Option (Stored K V)) → IsOnWay held' r.machine → IsOnWay held' next
      insert_way None way = (chain_once r.machine answer
          (made_ordered eq hash s (keyed_compute k) store (asking r) answer store' (asking later) going performs.0 same keys came) way).1
      insert_way (Some p) way = replacing_more way

      inserting_more : IsInserting s held v store' then
      inserting_more = record { value = insert_value; said = insert_said; ends = insert_ends; way = insert_way held now.way }

    -- the facts after its closure returned still hold
    asked_more : {T : Type 0} (held : Option (Stored K V)) (o : Operation V T) → IsAsked s held o store r → IsAsked s held o store' then
    asked_more held (ops.Insert v) now = inserting_more held v now
    asked_more held ops.Remove now = to_remove held now
      where
        to_remove : (held : Option (Stored K V)) → IsToRemove held r.machine → IsToRemove held next
        to_remove None told = let f : None ≡ Some _ = sym going ∙ told in absurd cc
        to_remove (Some p) there = removing_more there
    asked_more held (ops.Abort t) told = let f : None ≡ Some (Aborted 0) = sym going ∙ told in absurd cc

    module _ {F T : Type 0} (post : F → Option (Bor K × Bor V) → Operation V T → Type 0) (f : F) (closure : Option F) (shown : Option ℕ)
        (lawful : IsLawfulMap eq (hash s.store.hasher) s.store s.mode s.initial) (now : IsWaiting {T = T} eq hash s k post f store r closure shown) where
      -- one whose closure was not called acts on no result
      wait_silent : (said : ClosureResult) → ActsOn next.call said → ⊥
      wait_silent said stands = elim (said_goes said stands) [
        | inl before ↦ now.silent said before
        | inr (own, shown', n, is, (was, makes, told)) ↦ elim was [
          | inl stood ↦ now.silent (Inserts shown') stood
          | inr (m, stood) ↦ now.silent (Makes shown' m) stood
        ]
      ]

      wait_nothing : r.machine.call.remembered ≡ nothing
      wait_nothing = remembers_nothing r.machine.call (λ other stands. absurd (now.silent other stands))

      -- and is in the root still
      wait_rooted : next_of s.store ≡ 0 → (store' ≡ s.store) × (next.phase ≡ Calling) × IsInRoot store'.words.root next.call.state
      wait_rooted zero =
          let (store_is, phase, there) = now.rooted zero in
          let is : r.machine ≡ bare_at r.machine r.machine.call.state = bare_is r.machine r.machine.call.state came.task wait_nothing phase refl in
          let last = subst (λ (y : StoreState K V S). word_at y.words (Next y.words.root) ≡ 0) (sym store_is) (last_next s.store zero) in
          let open_still = subst (λ (y : StoreState K V S). (i : ℕ) → kind_of (word_at y.words (Slot y.words.root i)) ≡ Marked → ⊥) (sym store_is)
          (unmarked eq (hash s.store.hasher) [] s.mode s.store keys lawful.lawful s.store.words.root (last_next s.store zero)) in
          let (stays, (on, in_root)) = root_stays eq whatever hash store (asking r) store' (asking later) r.machine last open_still
          r.machine.call.state answer there (λ e. no_none (ap ask_of is ∙ e)) (λ n e. no_pair n (ap ask_of is ∙ e))
          (subst (λ (m : Machine). PerformsAsk eq whatever hash false (ask_of m) store (asking r) answer store' (asking later)) is performs.0) in (
            stays ∙ store_is,
            subst (λ (m : Machine). (after m answer).phase ≡ Calling) (sym is) on,
            subst (λ (y : StoreState K V S). IsInRoot y.words.root next.call.state) (sym stays)
                (subst (λ (m : Machine). IsInRoot store.words.root (after m answer).call.state) (sym is) in_root),
          )

      wait_ends : (reply : Reply) → reply_in (ask_of next) ≡ Some reply → IsFirstEnd s store' reply
      wait_ends (Inserted n) told = wait_silent (Makes None n) (told_stands (Inserted n) told (Makes None n) refl)
      wait_ends (Replaced m n) told = wait_silent (Makes (Some m) n) (told_stands (Replaced m n) told (Makes (Some m) n) refl)
      wait_ends (Removed n) told = wait_silent (Removes n) (told_stands (Removed n) told (Removes n) refl)
      wait_ends (Aborted t) told = unaborted t told
      wait_ends (Reply_refused refused) told = (
        λ zero. subst (IsInRoot store'.words.root) (ended_by next (Reply_refused refused) told).1 (wait_rooted zero).2,
        write_cause s refused r.machine (map_at s store') (refused_why (λ purpose is. wait_nothing) refused told),
      )
      wait_ends reply told = tt

      waiting_more : IsWaiting {T = T} eq hash s k post f store' then closure shown
      waiting_more = record { closure_is = now.closure_is; unshown = now.unshown; silent = wait_silent; ends = wait_ends; rooted = wait_rooted }

  module _ {F T : Type 0} (post : F → Option (Bor K × Bor V) → Operation V T → Type 0) (f : F) (closure : Option F) (shown : Option ℕ)
      (aborted : Option T) (keys : IsLawfulKeys eq (hash s.store.hasher)) (lawful : IsLawfulMap eq (hash s.store.hasher) s.store s.mode s.initial)
      (fits : hash s.store.hasher k < 2 ^ 64) (now : IsComputing eq hash s k post f store r closure shown aborted) where
    -- it continues
    computing_more : IsValid next → IsComputing eq hash s k post f store' (record later { machine = next }) closure shown aborted
    computing_more valid =
        let came = now.steps keys lawful fits in
        record {
          steps = made_more eq hash s (keyed_compute k) store (asking r) answer store' (asking later) going performs.0 same now.steps;
          silence = performs.1 ∙ now.silence;
          valid = valid;
          unlogged = unlogged_more eq hash s (keyed_compute k) store (asking r) answer store' (asking later) going performs.0 same keys came now.unlogged;
          phase = ⊎_elim
              (λ (waits : IsWaiting {T = T} eq hash s k post f store r closure shown).
              inl (waiting_more keys came now.unlogged post f closure shown lawful waits))
              (λ (does : IsDoing eq hash s k post f store r shown aborted).
              inr (record {
                operation = does.operation;
                said = does.said;
                shown_is = does.shown_is;
                kept = does.kept;
                asked = asked_more keys came
                    now.unlogged (map_in eq s.store k) does.operation does.asked;
              }))
              now.phase;
        }

    -- and comes nearer its end
    pub computing_went : IsFitAsk (ask_of r.machine) → Went eq hash s k post f store r.machine answer store' later closure shown aborted
    computing_went fit = record {
      fit = (performed_ask eq hash says false (ask_of r.machine) store r answer store' later
          (unnumbered store.words.tables ((now.steps keys lawful fits).lone going).lawful.core.sizes) fit performed).fit;
      same = same;
      nears = made_nears eq hash s (keyed_compute k) store (asking r) answer store' (asking later) going performs.0 same now.steps keys lawful fits;
      goes = computing_more;
    }

-- an ask that is no reply
pub unreplied_ask : (ask : Ask) → ((reply : Reply) → ask ≡ asked.Call (Ask_done reply) → ⊥) → reply_in ask ≡ None
unreplied_ask ask no_reply = by_reply (reply_in ask) refl
  where
    by_reply : (o : Option Reply) → reply_in ask ≡ o → reply_in ask ≡ None
    by_reply None e = e
    by_reply (Some reply) e = absurd (no_reply reply (reply_asked ask reply e))
