-- An insertion of a map for one caller, from its begin to its reply.
use Rattle.std.proofs.Common.{◌≡◌, ◌⊎◌, inl, inr, ℕ, ◌^◌, ◌<◌, Bool, true, false, Option, None, Some, refl, sym, ◌∙◌, ap, subst}
use Rattle.std.proofs.lemmas.Bool.{cases_eq}
use Rattle.papaya_words.specs.declared.refused.Refused.{Refused}
use Rattle.papaya_call.specs.declared.ask.Answer.TheVariants.{Op, Ok as Ok_done}
use Rattle.papaya_call.specs.declared.ask.Ask.TheVariants.{Load, Exchange, LoadHint, WriteHint}
use Rattle.papaya_call.specs.declared.ask.Ask.TheVariants.{SameKey, ShowNone, ShowPair, SizeOf}
use Rattle.papaya_call.specs.declared.ask.Ask.TheVariants.{MakeKey, MakeValue, MakePair, MakePairOf}
use Rattle.papaya_call.specs.declared.ask.Ask.TheVariants.{MakeTable, AddToShard, Done as Ask_done}
use Rattle.papaya_call.specs.declared.ask.OpKind.TheVariants.{Remove}
use Rattle.papaya_call.specs.declared.call.Reply.{Reply}
use Rattle.papaya_call.specs.declared.call.Reply.TheVariants.{Occupied, Refused as Reply_refused}
use Rattle.papaya_call.specs.declared.call.Task.TheVariants.{Insert}
use Rattle.papaya_call.specs.Answers.{Says}
use Rattle.papaya_call.specs.declared.machine.State.{State}
use Rattle.papaya_call.specs.declared.machine.State.TheVariants.{Making, Searching, Writing, Ended}
use Rattle.papaya_call.specs.declared.search.Search.TheVariants.{Sizing}
use Rattle.papaya_call.specs.declared.ask.Ask.{Ask as Call_ask}
use Rattle.papaya_call.specs.declared.write.Write.{Write}
use Rattle.papaya_call.specs.Link.{link_ask}
use Rattle.papaya_call.specs.declared.machine.Machine.{Machine as Call_machine}
use Rattle.papaya_call.specs.Machine.{IsValidState, ask_of as call_ask, at_root}
use Rattle.papaya_call.specs.declared.chain.ask.Answer.{Answer}
use Rattle.papaya_call.specs.declared.chain.ask.Answer.TheVariants as answers
use Rattle.papaya_call.specs.declared.chain.ask.Ask.{Ask}
use Rattle.papaya_call.specs.declared.chain.ask.Ask.TheVariants as asks
use Rattle.papaya_call.specs.declared.chain.machine.Machine.{Machine}
use Rattle.papaya_call.specs.declared.chain.machine.Phase.{Phase}
use Rattle.papaya_call.specs.declared.chain.machine.Phase.TheVariants.{Calling, Linking, Copying as Copying_root}
use Rattle.papaya_call.specs.ChainMachine.{IsFit, IsFitAsk, IsValid, after, ask_of, asks_in, started}
use Rattle.papaya_call_law.specs.Says.{MakesPair}
use Rattle.papaya_call_law.proofs.Makings.{IsPairAsk}
use Rattle.papaya_call_law.proofs.ReliesHeld.{ended_in}
use Rattle.papaya_call_law.specs.Goes.{Goes}
use Rattle.papaya_call_law.specs.ChainRelies.{left_by}
use Rattle.papaya_core_store.specs.Asks.{PerformsAsk}
use Rattle.papaya_core_store.specs.Store.{StoreState}
use Rattle.papaya_core_store.specs.declared.pairs.Part.{Part}
use Rattle.papaya_core_store.specs.declared.pairs.Part.TheVariants.{Own}
use Rattle.papaya_core_store.specs.declared.pairs.Running.{Running}
use Rattle.papaya_core_timeline.specs.Advances.{reply_in}
use Rattle.papaya_core_timeline.specs.Content.{map_in}
use Rattle.papaya_core_timeline.specs.Solo.{whatever}
use Rattle.papaya_core_timeline.proofs.KeptSettings.{IsLawfulKeys}
use Rattle.papaya_core_timeline.proofs.StoreLemmas.{performed_ask, unnumbered}
use Rattle.papaya_seq.specs.Map.{Grows, IsLawfulMap, IsResizing, PushesOne, IsTryCause, IsWriteCause, IsWriteCauseAt, MapState, insertion, next_of}
use Rattle.papaya_seq.proofs.Answering.{answering, silent_performs}
use Rattle.papaya_seq.proofs.Causes.{IsLogRefusal, IsNoTableRefusal, IsRemoveNothing, IsTableAsk}
use Rattle.papaya_seq.proofs.Causes.{IsNotStored, pair_stage_of, refused_so, unlogged_more}
use Rattle.papaya_seq.proofs.Causes.{unlogged_none, write_cause}
use Rattle.papaya_seq.proofs.Ending.{left_of}
use Rattle.papaya_seq.proofs.Grown.{copy_pairs, insertion_logs, logs_none, logs_still}
use Rattle.papaya_seq.proofs.Served.{IsServed, left_unmade, served_after, served_pairs, unmade_served}
use Rattle.papaya_seq.proofs.Inserting.{HasWritten}
use Rattle.papaya_seq.proofs.InsertingRoot.{IsRelying, IsRootStage, relying_more, unbeaten, written_more}
use Rattle.papaya_seq.proofs.InsertingSteps.{copy_stays, value_stays}
use Rattle.papaya_seq.proofs.Steps.{HasCome, IsMade, came_nears, made_alone, made_goes, made_more, made_none, made_tables}
use Rattle.papaya_seq.proofs.KeyCalls.{keyed_insertion}
use Rattle.papaya_seq.proofs.Turns.{IsOver}

-- the call has its own value until it writes
abbrev pub IsAtHand : {V : Type 0} → V → Machine → Option (Part V) → Type 0
IsAtHand value m left = (left ≡ Some (Own value)) ⊎ ((m.phase ≡ Calling) × HasWritten m.call.state)

-- the map with this store
abbrev pub left_in : {K V S : Type 0} → MapState K V S → StoreState K V S → MapState K V S
left_in s store = record s { store = store }

module _ {K V S A : Type 0} (eq : K → K → Bool) (hash : S → K → ℕ) (s : MapState K V S) (replace : Bool) (k : K) (value : V) where
  -- An insertion between two answers: it came there by steps of the core, has its own value until
  -- it writes, and is in the root while no pairs are being moved, or its key is absent.
  pub record IsInserting (store : StoreState K V S) (r : Running K V A) : Type 0 where
    pub steps : IsMade eq hash s (keyed_insertion replace k value) store (answering None r)
    pub silence : r.answers ≡ None
    pub valid : IsValid r.machine
    pub hand : IsAtHand value r.machine r.value
    pub relying : next_of s.store ≡ 0 → IsRelying eq hash s replace k value store r.machine
    pub unlogged : IsNotStored eq hash s (keyed_insertion replace k value) store (answering None r)
    -- it makes one pair
    pub served : IsServed r.machine.call.made r.machine.call.state
    -- one pair was stored at most
    pub logs : PushesOne s.store store
    -- if it was refused, there is a cause
    pub caused : (refused : Refused) → reply_in (ask_of r.machine) ≡ Some (Reply_refused refused) → IsWriteCause s refused (left_in s store)

-- an ask that makes a pair is an ask for one
pair_asked : (ask : Call_ask) → MakesPair ask → IsPairAsk ask
pair_asked MakePair makes = tt
pair_asked (MakePairOf n) makes = tt
pair_asked ask makes = absurd makes

-- a machine whose ask is no reply has not replied
unreplied : (ask : Ask) → ((reply : Reply) → ask ≡ asks.Call (Ask_done reply) → ⊥) → reply_in ask ≡ None
unreplied (asks.Call (Ask_done reply)) open_still = absurd (open_still reply refl)
unreplied (asks.Call (Load at)) open_still = refl
unreplied (asks.Call (Exchange at old new)) open_still = refl
unreplied (asks.Call (SameKey n)) open_still = refl
unreplied (asks.Call (LoadHint t x)) open_still = refl
unreplied (asks.Call (WriteHint t x hint)) open_still = refl
unreplied (asks.Call ShowNone) open_still = refl
unreplied (asks.Call (ShowPair n)) open_still = refl
unreplied (asks.Call (SizeOf t)) open_still = refl
unreplied (asks.Call MakeKey) open_still = refl
unreplied (asks.Call MakePair) open_still = refl
unreplied (asks.Call MakeValue) open_still = refl
unreplied (asks.Call (MakePairOf i)) open_still = refl
unreplied (asks.Call (MakeTable slots limit chunks)) open_still = refl
unreplied (asks.Call (AddToShard by)) open_still = refl
unreplied (asks.Copy ask) open_still = refl

module _ {K V S A : Type 0} (eq : K → K → Bool) (hash : S → K → ℕ) (s : MapState K V S) (replace : Bool) (k : K) (value : V) where
  -- it begins
  pub inserting_begin : (m : Machine) (hashed number : ℕ) → m ≡ started (Insert replace) hashed s.mode.resize s.initial number s.mode.limit
      → hashed ≡ hash s.store.hasher k → IsValid m
      → IsInserting {A = A} eq hash s replace k value s.store (record { machine = m; key = Own k; value = Some (Own value); answers = None })
  inserting_begin m hashed number is hash_same valid =
      let machine : m ≡ started (Insert replace) (hash s.store.hasher k) s.mode.resize s.initial number s.mode.limit = is
      ∙ ap (λ n. started (Insert replace) n s.mode.resize s.initial number s.mode.limit) hash_same in
      subst (λ (x : Machine). IsInserting {A = A} eq hash s replace k value s.store
      (record { machine = x; key = Own k; value = Some (Own value); answers = None })) (sym machine) (record {
        steps = made_none eq hash s (keyed_insertion replace k value) number;
        silence = refl;
        valid = subst IsValid machine valid;
        hand = inl refl;
        relying = λ last. inr (record { calling = refl; stage = last });
        unlogged = unlogged_none eq hash s (keyed_insertion replace k value) number;
        served = (refl, refl);
        logs = logs_none s.store s.store (refl, refl);
        caused = λ refused e. let f : None ≡ Some (Reply_refused refused) = e in absurd cc;
      })

  module _ (keys : IsLawfulKeys eq (hash s.store.hasher)) (lawful : IsLawfulMap eq (hash s.store.hasher) s.store s.mode s.initial)
      (fits : hash s.store.hasher k < 2 ^ 64) where
    module _ (says : Says K V A) (store : StoreState K V S) (r : Running K V A) (answer : Answer) (store' : StoreState K V S) (later : Running K V A)
        (ask : Ask) (is : ask ≡ ask_of r.machine) (open_still : (reply : Reply) → ask ≡ asks.Call (Ask_done reply) → ⊥)
        (performed : PerformsAsk eq says hash false ask store r answer store' later) (same : later.machine ≡ r.machine)
        (now : IsInserting eq hash s replace k value store r) where
      -- it has not replied
      going : reply_in (ask_of r.machine) ≡ None
      going = ap reply_in (sym is) ∙ unreplied ask open_still

      came : HasCome eq hash s (keyed_insertion replace k value) store (answering None r)
      came = now.steps keys lawful fits

      task : r.machine.call.task ≡ Insert replace
      task = came.task

      performs : PerformsAsk eq says hash false (ask_of r.machine) store r answer store' later
      performs = subst (λ y. PerformsAsk eq says hash false y store r answer store' later) is performed

      -- no closure is called
      silent : PerformsAsk eq whatever hash false (ask_of r.machine) store (answering {B = Unit {0}} None r) answer store' (answering None later)
          × (later.answers ≡ r.answers)
      silent = silent_performs eq says hash false replace (ask_of r.machine) store r answer store' later now.silence task performs

      -- the answer is within the limits
      pub inserting_fit : IsFitAsk ask → IsFit answer
      inserting_fit fit = (performed_ask eq hash says false ask store r answer store' later (unnumbered store.words.tables came.lawful.core.sizes) fit
          performed).fit

      -- less is left
      pub inserting_nears : left_of store' (after r.machine answer) < left_of store r.machine
      inserting_nears = came_nears eq hash s (keyed_insertion replace k value) store (answering None r) answer store' (answering None later) going
          silent.0 same keys came

      -- a write continues
      writes_more : (state : State) → r.machine.phase ≡ Calling → r.machine.call.state ≡ state → HasWritten state
          → IsAtHand value (after r.machine answer) later.value
      writes_more state calling e written = inr
          (written_more eq hash s replace k value keys lawful fits store (answering None r) answer store' (answering None later) going silent.0 same
          came state calling e written)

      -- the call has its own value until it writes
      hand_more : IsAtHand value r.machine r.value → IsAtHand value (after r.machine answer) later.value
      hand_more (inr (calling, written)) = writes_more r.machine.call.state calling refl written
      hand_more (inl has) = by_phase (copy_stays eq says store r hash answer store' later)
        where
          by_phase : (r.machine.phase ≡ Calling) ⊎ (PerformsAsk eq says hash false (ask_of r.machine) store r answer store' later → later ≡ r)
              → IsAtHand value (after r.machine answer) later.value
          by_phase (inr stays) = inl (ap (λ (q : Running K V A). q.value) (stays performs) ∙ has)
          by_phase (inl calling) =
              let (told, told_is, own) = subst (λ phase. PerformsAsk eq says hash false (asks_in r.machine.call phase) store r answer store' later)
              calling performs in
              by_value calling (value_stays eq says store r told store' later replace r.machine.call.made r.machine.call.hash r.machine.call.state
              (subst (λ t. IsValidState t r.machine.call.state) task now.valid.call.state) own)
            where
              by_value : r.machine.phase ≡ Calling → HasWritten r.machine.call.state ⊎ (later.value ≡ r.value)
                  → IsAtHand value (after r.machine answer) later.value
              by_value calling (inl written) = writes_more r.machine.call.state calling refl written
              by_value calling (inr stays) = inl (stays ∙ has)

      -- no closure is called with `None`
      unoffered : (refused : Refused) → IsRemoveNothing r.machine answer refused → ⊥
      unoffered refused (none, asked, removes) = by_answer
          (subst (λ y. PerformsAsk {A = Unit {0}} eq whatever hash false y store (answering None r) answer store' (answering None later)) asked silent.0)
        where
          by_answer : PerformsAsk {A = Unit {0}} eq whatever hash false (asks.Call ShowNone) store (answering None r) answer store' (answering None later) → ⊥
          by_answer (told, told_is, inl (shown, (e, stays))) = let f : answers.Call (Op Remove) ≡ answers.Call Ok_done = sym removes ∙ told_is
              ∙ ap answers.Call e in absurd cc
          by_answer (told, told_is, inr (a, op, after_it, has, said, e, same, stays)) = let f : None ≡ Some a = has in absurd cc

      -- a refusal comes from the arena, or from a table
      refusal : (refused : Refused) → reply_in (ask_of (after r.machine answer)) ≡ Some (Reply_refused refused) → IsLogRefusal s refused
          ⊎ (IsTableAsk r.machine × IsNoTableRefusal (left_in s store') refused)
      refusal refused e = elim (refused_so eq hash s (keyed_insertion replace k value) store (answering None r) answer store' (answering None later)
          going silent.0 same keys came now.unlogged (served_pairs r.machine.call replace task now.served) refused e) [
            | inl log ↦ inl log
            | inr (inl table) ↦ inr table
            | inr (inr removes) ↦ absurd (unoffered refused removes)
          ]

      -- a call that writes asks for no table
      log_refusal : (write : Write) → r.machine.phase ≡ Calling → r.machine.call.state ≡ Writing write → (refused : Refused)
          → reply_in (ask_of (after r.machine answer)) ≡ Some (Reply_refused refused) → IsLogRefusal s refused
      log_refusal write calling writes refused e = elim (refusal refused e) [
        | inl log ↦ log
        | inr table ↦ let making : Writing write ≡ Making = sym writes ∙ table.0 calling in absurd cc
      ]

      -- one pair is stored at most
      logs_more : (phase : Phase) → PerformsAsk eq says hash false (asks_in r.machine.call phase) store r answer store' later → PushesOne s.store store'
      logs_more Calling (told, told_is, own) =
          insertion_logs eq says false (call_ask r.machine.call) s.store store r told store' later
          (λ makes. now.unlogged.pairs (served_pairs r.machine.call replace task now.served
          (pair_stage_of r.machine.call.made r.machine.call.hash r.machine.call.state (pair_asked (call_ask r.machine.call) makes)))) own now.logs
      logs_more (Linking link) (h, stays) = logs_still s.store store store' now.logs (copy_pairs eq hash false (link_ask link) store answer store' h)
      logs_more (Copying_root copying) (h, stays) = logs_still s.store store store' now.logs (copy_pairs eq hash false _ store answer store' h)

      served_call : {then : Call_machine} → (after r.machine answer).call ≡ then → IsServed then.made then.state
          → IsServed (after r.machine answer).call.made (after r.machine answer).call.state
      served_call is h = subst (λ (y : Call_machine). IsServed y.made y.state) (sym is) h

      aside_served : (t : ℕ) → left_by r.machine.call.state ≡ Some t → (state : State) → IsServed r.machine.call.made state
      aside_served t left state = unmade_served r.machine.call.made state (left_unmade r.machine.call.made r.machine.call.state t left now.served)

      -- it makes one pair
      served_more : Goes r.machine answer → IsServed (after r.machine answer).call.made (after r.machine answer).call.state
      served_more (inl waits) = served_call waits.call now.served
      served_more (inr (inl step)) =
          served_call step.call (served_after r.machine.call step.told
          (λ write n word is. unbeaten eq hash s replace k value keys lawful fits store (answering None r) answer store' (answering None later) going
          silent.0 same came write step.phase is step.told step.is n word) now.served)
      served_more (inr (inr (inl enters))) = served_call enters.call (aside_served enters.from enters.left (Searching (Sizing enters.table)))
      served_more (inr (inr (inr (inl begins)))) = served_call begins.call
          (aside_served begins.from begins.left (at_root r.machine.call.task r.machine.call.remembered.fill begins.root))
      served_more (inr (inr (inr (inr ends)))) = served_call ends.call tt

      -- and it continues
      pub inserting_more : IsValid (after r.machine answer)
          → IsInserting eq hash s replace k value store' (record later { machine = after r.machine answer })
      inserting_more valid = record {
        steps = made_more eq hash s (keyed_insertion replace k value) store (answering None r) answer store' (answering None later) going silent.0
            same now.steps;
        silence = silent.1 ∙ now.silence;
        valid = valid;
        hand = hand_more now.hand;
        relying = λ last. relying_more eq hash s replace k value keys lawful fits store (answering None r) answer store' (answering None later) going
            silent.0 same came log_refusal (now.relying last);
        unlogged = unlogged_more eq hash s (keyed_insertion replace k value) store (answering None r) answer store' (answering None later) going
            silent.0 same keys came now.unlogged;
        served = served_more (made_goes eq hash s (keyed_insertion replace k value) store (answering None r) answer store' (answering None later)
            going silent.0 same keys came);
        logs = logs_more r.machine.phase performs;
        caused = λ refused e. write_cause s refused r.machine (left_in s store') (refusal refused e);
      }

    module _ (store : StoreState K V S) (r : Running K V A) (reply : Reply) (e : asks.Call (Ask_done reply) ≡ ask_of r.machine)
        (now : IsInserting eq hash s replace k value store r) where
      -- it has replied: it was made alone
      pub inserting_alone : IsOver eq hash s (insertion replace k value) store reply
      inserting_alone = made_alone eq hash s (keyed_insertion replace k value) keys lawful fits store (answering None r) reply (sym (ap reply_in e)) now.steps

      -- the tables that it made
      pub inserting_tables : Grows s (record s { store = store })
      inserting_tables = made_tables eq hash s (keyed_insertion replace k value) keys lawful fits store (answering None r) now.steps

      -- its machine is at its end
      ended : r.machine.phase ≡ Calling → r.machine.call.state ≡ Ended reply
      ended calling =
          let asked : asks.Call (Ask_done reply) ≡ asks.Call (call_ask r.machine.call) = e ∙ ap (asks_in r.machine.call) calling in
          ended_in r.machine.call.made r.machine.call.hash r.machine.call.state reply (let f : Ask_done reply ≡ call_ask r.machine.call = cc asked in sym f)

      -- if the key is in the map, the value is left
      pub inserting_left : (n : ℕ) → reply ≡ Occupied n → r.value ≡ Some (Own value)
      inserting_left n is = at_hand now.hand
        where
          at_hand : IsAtHand value r.machine r.value → r.value ≡ Some (Own value)
          at_hand (inl has) = has
          at_hand (inr (calling, written)) =
              absurd (subst HasWritten (ended calling ∙ ap Ended is) written)

      -- While no pairs are being moved, a refusal comes from the arena, in a call that may replace,
      -- or the key is absent.
      refused_where : (refused : Refused) → reply ≡ Reply_refused refused
          → (((map_in eq s.store k ≡ None) ⊎ IsResizing s) ⊎ ((replace ≡ true) × IsLogRefusal s refused))
      refused_where refused is = elim (cases_eq (next_of s.store) 0) [
        | inl last ↦ by_relying (now.relying last)
        | inr moves ↦ inl (inr moves)
      ]
        where
          by_relying : IsRelying eq hash s replace k value store r.machine
              → (((map_in eq s.store k ≡ None) ⊎ IsResizing s) ⊎ ((replace ≡ true) × IsLogRefusal s refused))
          by_relying (inl absent) = inl (inl absent)
          by_relying (inr root) = inr (subst (IsRootStage eq hash s replace k value store) (ended root.calling ∙ ap Ended is) root.stage)

      caused_end : (refused : Refused) → reply ≡ Reply_refused refused → IsWriteCause s refused (left_in s store)
      caused_end refused is = now.caused refused (sym (ap reply_in e) ∙ ap Some is)

      -- so a refusal has a cause, with the pair that the key has
      pub inserting_cause : (refused : Refused) → reply ≡ Reply_refused refused → IsWriteCauseAt s (map_in eq s.store k) refused (left_in s store)
      inserting_cause refused is = at (refused_where refused is) (caused_end refused is)
        where
          at : (((map_in eq s.store k ≡ None) ⊎ IsResizing s) ⊎ ((replace ≡ true) × IsLogRefusal s refused))
              → IsWriteCause s refused (left_in s store) → IsWriteCauseAt s (map_in eq s.store k) refused (left_in s store)
          at (inr (only, inl memory)) cause = inl memory
          at (inr (only, inr (inl (capacity, full)))) cause = inr (inl (capacity, inl full))
          at (inr (only, inr (inr spent))) cause = inr (inr spent)
          at (inl away) (inl memory) = inl memory
          at (inl away) (inr (inl (capacity, inl full))) = inr (inl (capacity, inl full))
          at (inl away) (inr (inl (capacity, inr none))) = inr (inl (capacity, inr (away, none)))
          at (inl away) (inr (inr spent)) = inr (inr spent)

      -- and one that replaces nothing is refused only if the key is absent, or pairs are being
      -- moved
      pub inserting_absent : replace ≡ false → (refused : Refused) → reply ≡ Reply_refused refused
          → IsTryCause s (map_in eq s.store k) refused (left_in s store)
      inserting_absent never refused is = (by_where (refused_where refused is), caused_end refused is)
        where
          by_where : (((map_in eq s.store k ≡ None) ⊎ IsResizing s) ⊎ ((replace ≡ true) × IsLogRefusal s refused)) → (map_in eq s.store k ≡ None) ⊎ IsResizing s
          by_where (inl away) = away
          by_where (inr (only, log)) = let f : true ≡ false = sym only ∙ never in absurd cc
