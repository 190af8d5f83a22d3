-- A step of a core is legal, and changes the map only in the class of its call's key.
use Rattle.std.proofs.Common.{inl, ◌≡◌, ℕ, Bool, true, false, Option, None, Some, List, [], ◌∷◌, ◌++◌, refl, sym, ◌∙◌, ap, subst}
use Rattle.papaya_words.specs.Word.{pair_of}
use Rattle.papaya_call.specs.Answers.{Says}
use Rattle.papaya_call.specs.declared.ask.At.TheVariants.{Slot}
use Rattle.papaya_call.specs.declared.ask.Ask.TheVariants.{Exchange as Ask_exchange}
use Rattle.papaya_call.specs.declared.ask.StepKind.{StepKind}
use Rattle.papaya_call.specs.declared.ask.StepKind.TheVariants as kinds
use Rattle.papaya_call.specs.declared.call.Call.{Call}
use Rattle.papaya_call.specs.declared.call.Call.TheVariants.{Insert, TryInsert, RemoveIf, Compute}
use Rattle.papaya_call.specs.declared.call.Reply.{Reply}
use Rattle.papaya_call.specs.declared.call.Task.{Task}
use Rattle.papaya_call.specs.declared.call.Task.TheVariants as tasks
use Rattle.papaya_call.specs.declared.chain.machine.Machine.{Machine}
use Rattle.papaya_words_law.specs.Allows.{AllAllowed}
use Rattle.papaya_words_law.specs.Code.{Coding}
use Rattle.papaya_words_law.specs.Exchange.{Live, Setting, State, Exchange, run, start as first_state}
use Rattle.papaya_words_law.specs.Invariant.{named}
use Rattle.papaya_words_law.specs.Meaning.{IsLawful}
use Rattle.papaya_call.specs.Machine.{HasClosure, IsChanger, MayInsert}
use Rattle.papaya_call.specs.Machine as calls
use Rattle.papaya_call.specs.ChainMachine.{after, ask_of, follows_of, kind_of_ask}
use Rattle.papaya_call_law.specs.Relies.{change_in, change_of_reply}
use Rattle.papaya_call_law.specs.Says.{IsResultChange}
use Rattle.papaya_call_law.specs.Goes.{IsInOrder, change_by as changed_by}
use Rattle.papaya_call_law.specs.ChainAnswers.{IsTrueOf}
use Rattle.papaya_call_law.proofs.Goes.{machine_goes}
use Rattle.papaya_call_law.proofs.Order.{in_order}
use Rattle.papaya_call_law.proofs.Replies.{chain_changes}
use Rattle.papaya_words_law.specs.Code.{IsHashed}
use Rattle.papaya_core_timeline.specs.declared.trace.Turn.{Turn}
use Rattle.papaya_core_timeline.specs.declared.trace.Event.{Event}
use Rattle.papaya_core_timeline.specs.declared.trace.Event.TheVariants.{Begun, Changed, Moved, Asked, Shown, Gave, Other, Replied}
use Rattle.papaya_core_timeline.specs.Advances.{Advances, event_of}
use Rattle.papaya_core_timeline.specs.Begins.{task_of_call}
use Rattle.papaya_core_timeline.specs.Core.{CoreState, IsCore}
use Rattle.papaya_core_timeline.specs.Kept.{IsConsistent, CallTrace, setting_of, coding_of, low, told_call_traces}
use Rattle.papaya_core_timeline.specs.Content.{map_of}
use Rattle.papaya_core_timeline.specs.Maps.{IsUpdateBy, Map, Does, IsUpdate, Same, key_of}
use Rattle.papaya_core_timeline.specs.Intends.{Intends}
use Rattle.papaya_core_timeline.specs.declared.seat.Work.TheVariants as works
use Rattle.papaya_core_timeline.specs.Moves.{IsOwnChange, MovesMap}
use Rattle.papaya_core_store.specs.Store.{Stored, pair_of as pair_numbered}
use Rattle.papaya_core_timeline.specs.Runs.{History}
use Rattle.papaya_core_timeline.specs.Timeline.{Answered, IsFresh, IsLegal, change_by, number_in, operation_for}
use Rattle.papaya_core_timeline.proofs.ChainLemmas.{chain_changed, chain_changer, chain_inserts, chain_once}
use Rattle.papaya_core_timeline.proofs.Good.{replay}
use Rattle.papaya_core_timeline.proofs.Intents.{change_intended, insertion_made}
use Rattle.papaya_core_timeline.proofs.KeptLemmas.{IsLawfulKeys, IsStep, hashed_setting, map_kept}
use Rattle.papaya_core_timeline.proofs.LegalLemmas.{MayPut, MayReplace, MayTell, Moves, insertion_does, moved_legal, removal_does, step_moves}
use Rattle.papaya_core_timeline.proofs.MachineLemmas.{machine_takes}
use Rattle.papaya_core_timeline.proofs.ReplayLemmas.{held_in_slot, map_replayed}
use Rattle.papaya_core_timeline.proofs.StepEvents.{copy_kind, event_change, unchanged_before}
use Rattle.papaya_core_timeline.proofs.StepTells.{Tells, event_tells}

module _ {K V S A : Type 0} (eq : K → K → Bool) (hash : K → ℕ) (law : IsLawfulKeys eq hash) where
  module _ {says : Says K V A} {hashes : S → K → ℕ} (refuse : Bool) (s s' : CoreState K V S A) (c : ℕ) (event : Event) (reply : Option Reply)
      (x : Advances eq says hashes refuse s c s' event reply) (core : IsCore s.store s.callers s.mode) (core' : IsCore s'.store s'.callers s'.mode)
      (es : List (Exchange (Stored K V))) (call_traces : ℕ → CallTrace K V) (kept : IsConsistent eq hash s.mode s.store s.callers es call_traces)
      (step : IsStep eq hash law refuse s c s' event reply x es call_traces) where
    -- the machine that asks, and its call's key
    abbrev m : Machine
    m = x.before.machine

    abbrev k : K
    k = step.call.key

    -- the setting, the coding and the words before the step
    abbrev g : Setting K (Stored K V)
    g = setting_of eq (low hash) s.mode s.store.words.tables

    abbrev coding : Coding K (Stored K V)
    coding = coding_of (low hash)

    abbrev now : State (Stored K V)
    now = run es first_state

    -- keys are placed by their hashes, before the step and after it
    hashed : IsHashed g coding
    hashed = hashed_setting eq hash law s core

    lawful' : IsLawful (setting_of {V = V} eq (low hash) s'.mode s'.store.words.tables)
    lawful' = (hashed_setting eq hash law s' core').lawful

    -- a call asks to delete only pairs of its key
    buries_own : (t i old new : ℕ) (p : Stored K V) → calls.kind_of_ask m.call ≡ Some kinds.Bury
        → calls.ask_of m.call ≡ Ask_exchange (Slot t i) old new → now.slot t i ≡ Live p → pair_of old ≡ p.number → eq p.key k ≡ true
    buries_own t i old new p kind ask live number =
        let taken = machine_takes g coding (call_traces c).begun (call_traces c).since k hashed.coding m.call (call_traces c).loaded.call
        step.call.relies.call kind (Slot t i) old new ask in
        let same_number : taken.pair.number ≡ p.number = taken.number ∙ number in
        let same_pair : Some p ≡ Some taken.pair = sym (kept.logged t i p (ap named live)) ∙ ap (pair_numbered s.store) (sym same_number)
        ∙ step.call.last taken.pair taken.last in
        let same : p ≡ taken.pair = cc in
        ap (λ (q : Stored K V). eq q.key k) same ∙ hashed.lawful.back k taken.pair.key taken.same

    -- the event of a step describes how the map changes
    pub moved : Moves eq k m.call.task (call_traces c).loaded.call.made (replay eq es) (replay eq (es ++ step.made)) event
    moved =
        let split = step.call.split in
        let loaded = (call_traces c).loaded in
        subst (Moves eq k m.call.task loaded.call.made (replay eq es) (replay eq (es ++ step.made))) (sym x.event_is)
        (subst (λ (l : List (Exchange (Stored K V))).
        Moves eq k m.call.task loaded.call.made (replay eq l) (replay eq (l ++ step.made)) (event_of (kind_of_ask m) (ask_of m) x.answer)) split
        (step_moves eq hash s.mode s'.mode s.store.words.tables s'.store.words.tables hashed lawful' (call_traces c).begun (call_traces c).since k m
        loaded step.call.relies
        (λ t i old new p kind ask live number. buries_own t i old new p kind ask
        (ap (λ (l : List (Exchange (Stored K V))). (run l first_state).slot t i) (sym split) ∙ live) number)
        x.answer step.made step.loaded
        (subst (λ (l : List (Exchange (Stored K V))).
        IsTrueOf g coding k (run l first_state) (kind_of_ask m) (follows_of m) loaded (ask_of m) x.answer step.made step.loaded) (sym split) step.told)
        (subst (λ (l : List (Exchange (Stored K V))).
        AllAllowed (setting_of eq (low hash) s'.mode s'.store.words.tables) first_state (l ++ step.made)) (sym split) step.kept.allowed)))

    -- It is legal after any history in which its call may do that.
    pub advance_legal : (schedule : List (Turn K V A)) (h : History) (maps : List (Map K V)) (said : Answered V)
        → MayTell eq k m.call.task (call_traces c).loaded.call.made (replay eq es) schedule c h maps said event
        → IsLegal eq event schedule c h (replay eq es) maps (replay eq (es ++ step.made)) said
    advance_legal schedule h maps said may = moved_legal eq k m.call.task (call_traces c).loaded.call.made (replay eq es) schedule c h maps said
        (replay eq (es ++ step.made)) event moved may

    -- the map before it and after it
    map_before : (j : K) → map_of eq s j ≡ replay eq es j
    map_before j = map_kept eq hash law s es call_traces core kept j ∙ ap (λ m. m j) (map_replayed eq (low hash) s.mode s.store.words.tables es (λ k. None))

    map_after : (j : K) → map_of eq s' j ≡ replay eq (es ++ step.made) j
    map_after j = map_kept eq hash law s' (es ++ step.made) (told_call_traces call_traces c step.made step.loaded) core' step.kept j
        ∙ ap (λ m. m j) (map_replayed eq (low hash) s'.mode s'.store.words.tables (es ++ step.made) (λ k. None))

    same_map : Same (replay eq es) (replay eq (es ++ step.made)) → Same (map_of eq s) (map_of eq s')
    same_map same j = map_after j ∙ same j ∙ sym (map_before j)

    same_update : (k : K) (went came : Option (Stored K V)) → IsUpdate eq k went came (replay eq es) (replay eq (es ++ step.made))
        → IsUpdate eq k went came (map_of eq s) (map_of eq s')
    same_update k went came u = record {
      before = map_before k ∙ u.before;
      class = λ j e. map_after j ∙ u.class j e;
      others = λ j e. map_after j ∙ u.others j e ∙ sym (map_before j);
    }

    -- a pair that is put in has a number that no pair of the map has
    came_fresh : change_in m.call.state ≡ None → (went came : Option (Stored K V)) → MayPut k m.call.task (call_traces c).loaded.call.made went came
        → IsFresh came (map_of eq s ∷ [])
    came_fresh none went None may = tt
    came_fresh none went (Some q) (made, own, replaces) = (
      λ j p there.
          let (t, i, stands) = held_in_slot eq (low hash) s.mode s.store.words.tables hashed.lawful es kept.allowed j p (sym (map_before j) ∙ there) in
          step.call.unwritten q made none t i p stands,
      tt,
    )

    -- the answer was for the call itself, or the call was set aside
    pub order : IsInOrder m x.answer m.phase
    order = in_order g coding (call_traces c).begun (call_traces c).since k m (call_traces c).loaded now x.answer step.made step.loaded
        step.call.relies step.told

    -- the machine's change after the answer follows from its ask, the answer and its change before
    pub changed : change_in (after m x.answer).call.state ≡ changed_by (kind_of_ask m) (ask_of m) x.answer (change_in m.call.state)
    changed = chain_changes g coding k now m (call_traces c).loaded x.answer step.made step.loaded order step.told hashed step.call.relies.call.hash

    -- a change is the one that the call intends
    intended : (kind : StepKind) (old new : Option ℕ) → event_of (kind_of_ask m) (ask_of m) x.answer ≡ Changed kind old new
        → (went came : Option (Stored K V)) → number_in came ≡ new → MayPut k m.call.task (call_traces c).loaded.call.made went came
        → Intends s.store (works.Call x.before) old (operation_for came)
    intended kind old new is went came came_is may =
        let stands = core.valid c x.before x.was in
        let goes = machine_goes m x.answer order in
        let (at, from, to, asking) = subst (λ e. Tells e (ask_of m) x.answer) is (event_tells m x.answer) in
        let change : change_in (after m x.answer).call.state ≡ Some (old, new) = changed
        ∙ sym (event_change (change_in m.call.state) (kind_of_ask m) (ask_of m) x.answer (copy_kind m) (chain_once m))
        ∙ ap (λ y. change_by y (change_in m.call.state)) is in
        change_intended s.store x.before old came (logged went came may)
        (λ q some replace task.
        let number : new ≡ Some q.number = sym came_is ∙ ap number_in some in
        insertion_made m x.answer goes stands kind old q.number (is ∙ ap (Changed kind old) number) (change ∙ ap (λ n. Some (old, n)) number) replace task)
        (λ none. closure went came may none)
        (subst (λ n. IsResultChange m.call.task m.call old n) (sym came_is) (chain_changed m x.answer goes stands at from to asking old new change))
      where
        logged : (went came : Option (Stored K V)) → MayPut k m.call.task (call_traces c).loaded.call.made went came → (q : Stored K V)
            → came ≡ Some q → pair_numbered s.store q.number ≡ Some q
        logged went None may q is = let f : None ≡ Some q = is in absurd cc
        logged went (Some p) (made, own, replaces) q is = let same : p ≡ q = cc in
            subst (λ (y : Stored K V). pair_numbered s.store y.number ≡ Some y) same (step.call.made p made)

        closure : (went came : Option (Stored K V)) → MayPut k m.call.task (call_traces c).loaded.call.made went came → came ≡ None → HasClosure m.call.task
        closure went (Some q) may is = let f : Some q ≡ None = is in absurd cc
        closure (Some p) None may is = may
        closure None None may is = absurd may

    -- A change is one that a call of this key and of the machine's kind makes: it inserts the new
    -- pair, or removes one.
    made_by : (call : Call K V A) → key_of call ≡ Some k → task_of_call call ≡ Some m.call.task → (old new : Option ℕ) → IsChanger m.call.task
        → change_in m.call.state ≡ None → (went came : Option (Stored K V)) → IsUpdate eq k went came (replay eq es) (replay eq (es ++ step.made))
        → number_in went ≡ old → number_in came ≡ new → MayPut k m.call.task (call_traces c).loaded.call.made went came
        → Intends s.store (works.Call x.before) old (operation_for came)
        → (reply : Reply) × Does call went reply came × (change_of_reply reply ≡ Some (number_in went, number_in came)) → IsOwnChange eq s c s' old new
    made_by call key task old new changes none went came update went_is came_is may intends (reply, does, tells) = record {
      running_call = x.before;
      is_running = x.was;
      changes = changes;
      call = call;
      task = task;
      own = step.call.own ∙ sym key;
      went = went;
      came = came;
      update = subst (λ j. IsUpdateBy eq j went came (map_of eq s) (map_of eq s')) (sym key) (same_update k went came update);
      went_is = went_is;
      came_is = came_is;
      fresh = came_fresh none went came may;
      reply = reply;
      does = does;
      tells = tells ∙ ap (λ o. Some (o, number_in came)) went_is ∙ ap (λ o. Some (old, o)) came_is;
      intended = intends;
    }

    own_change : (task : Task) → m.call.task ≡ task → (old new : Option ℕ) → IsChanger m.call.task → ((n : ℕ) → new ≡ Some n → MayInsert task)
        → change_in m.call.state ≡ None → (went came : Option (Stored K V)) → IsUpdate eq k went came (replay eq es) (replay eq (es ++ step.made))
        → number_in went ≡ old → number_in came ≡ new → MayPut k m.call.task (call_traces c).loaded.call.made went came
        → Intends s.store (works.Call x.before) old (operation_for came) → IsOwnChange eq s c s' old new
    own_change (tasks.Insert true) is old new changes inserts none went (Some q) update went_is came_is (made, own, replaces) intends =
        made_by (Insert k q.value) refl (ap (λ t. Some t) (sym is)) old new changes none went (Some q) update went_is came_is (made, own, replaces) intends
        (insertion_does {A = A} (Insert k q.value) k went q refl own refl (subst (MayReplace went) is replaces))
    own_change (tasks.Insert false) is old new changes inserts none went (Some q) update went_is came_is (made, own, replaces) intends =
        made_by (TryInsert k q.value) refl (ap (λ t. Some t) (sym is)) old new changes none went (Some q) update went_is came_is (made, own, replaces) intends
        (insertion_does {A = A} (TryInsert k q.value) k went q refl own refl (subst (MayReplace went) is replaces))
    own_change tasks.Compute is old new changes inserts none went (Some q) update went_is came_is (made, own, replaces) intends =
        let call : Call K V A = Compute k (step.call.answers (subst HasClosure (sym is) tt)).0 in
        made_by call refl (ap (λ t. Some t) (sym is)) old new changes none went (Some q) update went_is came_is (made, own, replaces) intends
        (insertion_does call k went q refl own tt (subst (MayReplace went) is replaces))
    own_change tasks.Get is old new changes inserts none went (Some q) update went_is came_is may intends = absurd (inserts q.number (sym came_is))
    own_change tasks.RemoveIf is old new changes inserts none went (Some q) update went_is came_is may intends = absurd (inserts q.number (sym came_is))
    own_change tasks.RemoveIf is old new changes inserts none (Some p) None update went_is came_is closure intends =
        let call : Call K V A = RemoveIf k (step.call.answers closure).0 in
        made_by call refl (ap (λ t. Some t) (sym is)) old new changes none (Some p) None update went_is came_is closure intends (removal_does call p tt)
    own_change tasks.Compute is old new changes inserts none (Some p) None update went_is came_is closure intends =
        let call : Call K V A = Compute k (step.call.answers closure).0 in
        made_by call refl (ap (λ t. Some t) (sym is)) old new changes none (Some p) None update went_is came_is closure intends (removal_does call p tt)
    own_change tasks.Get is old new changes inserts none (Some p) None update went_is came_is closure intends = absurd (subst HasClosure is closure)
    own_change (tasks.Insert replace) is old new changes inserts none (Some p) None update went_is came_is closure intends = absurd
        (subst HasClosure is closure)
    own_change task is old new changes inserts none None None update went_is came_is may intends = absurd may

    -- by this a step changes the core's map
    moves_core : (e : Event) → e ≡ event_of (kind_of_ask m) (ask_of m) x.answer
        → Moves eq k m.call.task (call_traces c).loaded.call.made (replay eq es) (replay eq (es ++ step.made)) e → MovesMap eq s c s' e
    moves_core (Changed kind old new) is moved =
        let stands = core.valid c x.before x.was in
        let (at, from, to, asks) = subst (λ e. Tells e (ask_of m) x.answer) (sym is) (event_tells m x.answer) in
        inl (own_change m.call.task refl old new (chain_changer m stands kind old new x.answer (sym is))
        (λ n some. chain_inserts m stands kind old n x.answer (sym is ∙ ap (Changed kind old) some)) (chain_once m at from to asks) moved.went
        moved.came moved.update moved.went_is moved.came_is moved.may (intended kind old new (sym is) moved.went moved.came moved.came_is moved.may))
    moves_core Begun is moved = same_map moved
    moves_core (Moved kind) is moved = same_map moved
    moves_core (Asked n agrees) is moved = same_map moved
    moves_core (Shown shown kind) is moved = same_map moved
    moves_core Other is moved = same_map moved
    moves_core (Gave n) is moved = absurd moved
    moves_core (Replied reply) is moved = same_map moved

    pub advance_moves : MovesMap eq s c s' event
    advance_moves = moves_core event x.event_is moved

    -- an event without a change leaves the map as it is
    stays : (e : Event) → change_by e (change_in m.call.state) ≡ None → MovesMap eq s c s' e → Same (map_of eq s) (map_of eq s')
    stays (Changed kind old new) none moves = absurd (cc none)
    stays Begun none moves = moves
    stays (Moved kind) none moves = moves
    stays (Asked n agrees) none moves = moves
    stays (Shown shown kind) none moves = moves
    stays (Gave n) none moves = moves
    stays Other none moves = moves
    stays (Replied reply) none moves = moves

    -- if no change has been made after the step, none was made before it, and it left the map as it
    -- was
    pub unmoved : change_in (after m x.answer).call.state ≡ None → (change_in m.call.state ≡ None) × Same (map_of eq s) (map_of eq s')
    unmoved none = (
      unchanged_before (change_in m.call.state) (kind_of_ask m) (ask_of m) x.answer (chain_once m) (sym changed ∙ none),
      stays event (ap (λ y. change_by y (change_in m.call.state)) x.event_is
          ∙ event_change (change_in m.call.state) (kind_of_ask m) (ask_of m) x.answer (copy_kind m) (chain_once m) ∙ sym changed ∙ none) advance_moves,
    )
