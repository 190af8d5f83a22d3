-- A lookup whose asks are answered from the tables is one whole call of the core.
use Rattle.std.proofs.Common.{◌≡◌, ℕ, suc, ◌<◌, ◌^◌, Bool, false, List, [], ◌∷◌, Option, Some, None, inl, refl, sym, ◌∙◌, ap, subst}
use Rattle.std.specs.Int.{IsPowerOfTwo}
use Rattle.papaya_words.specs.declared.refused.Refused.{Refused}
use Rattle.papaya_call.specs.declared.ask.Answer.{Answer}
use Rattle.papaya_call.specs.declared.ask.Answer.TheVariants.{Yes}
use Rattle.papaya_call.specs.declared.ask.Ask.{Ask}
use Rattle.papaya_call.specs.declared.ask.Ask.TheVariants.{Load, Exchange, LoadHint, WriteHint}
use Rattle.papaya_call.specs.declared.ask.Ask.TheVariants.{SameKey, ShowNone, ShowPair, SizeOf}
use Rattle.papaya_call.specs.declared.ask.Ask.TheVariants.{MakeKey, MakeValue, MakePair, MakePairOf}
use Rattle.papaya_call.specs.declared.ask.Ask.TheVariants.{MakeTable, AddToShard, Done as Ask_done}
use Rattle.papaya_call.specs.declared.call.Call.TheVariants.{Get}
use Rattle.papaya_call.specs.declared.call.Task.TheVariants.{Get as Get_task}
use Rattle.papaya_call.specs.declared.call.Reply.{Reply}
use Rattle.papaya_call.specs.declared.call.Reply.TheVariants.{Refused as Reply_refused}
use Rattle.papaya_call.specs.declared.machine.Machine.{Machine}
use Rattle.papaya_call.specs.declared.machine.State.{State}
use Rattle.papaya_call.specs.declared.machine.State.TheVariants.{Growing}
use Rattle.papaya_call.specs.declared.need.Need.{Need}
use Rattle.papaya_call.specs.Machine.{after, ask_of, started}
use Rattle.papaya_call.specs.declared.chain.ask.Ask.TheVariants as chain_asks
use Rattle.papaya_call.specs.declared.chain.ask.Answer.TheVariants as answers
use Rattle.papaya_call.specs.declared.chain.machine.Machine.{Machine as Chain_machine}
use Rattle.papaya_call.specs.ChainMachine as chain
use Rattle.papaya_call_law.proofs.Tasks.{same_task}
use Rattle.papaya_core_store.specs.declared.pairs.Part.TheVariants.{Own}
use Rattle.papaya_core_store.specs.declared.pairs.Running.{Running}
use Rattle.papaya_core_timeline.specs.declared.trace.Entry.{Entry}
use Rattle.papaya_core_timeline.specs.declared.trace.Event.{Event}
use Rattle.papaya_core_timeline.specs.declared.trace.Event.TheVariants.{Begun, Replied}
use Rattle.papaya_core_timeline.specs.declared.trace.Turn.TheVariants.{Begin, Finish}
use Rattle.papaya_core_timeline.specs.Advances.{Advances, event_of, goes_on, reply_in as chain_reply}
use Rattle.papaya_core_timeline.specs.Callers.{as_work}
use Rattle.papaya_core_timeline.specs.Core.{CoreState}
use Rattle.papaya_core_store.specs.Performs.{Performs, same_stored}
use Rattle.papaya_core_timeline.specs.Kept.{IsLawfulCore}
use Rattle.papaya_core_timeline.specs.Runs.{History, StepsRun, with_event}
use Rattle.papaya_core_timeline.specs.Solo.{RunsAlone, whatever}
use Rattle.papaya_core_store.specs.Store.{Stored, pair_of}
use Rattle.papaya_core_timeline.proofs.KeptSettings.{IsLawfulKeys}
use Rattle.papaya_seq.specs.Looks.{IsTrueOfStore, Replies, matches_in}
use Rattle.papaya_seq.specs.Map.{MapState, core_of}
use Rattle.papaya_seq.proofs.Driving.{calling, goes_itself, reply_in}
use Rattle.papaya_seq.proofs.LookSteps.{IsLooking, IsLookReply, look_replies, lookup_looks}

module _ {K V S : Type 0} (eq : K → K → Bool) (hash : S → K → ℕ) (s : MapState K V S)
    (lawful : IsLawfulCore {A = Unit {0}} eq (hash s.store.hasher) s.store [] s.mode) (power : IsPowerOfTwo s.initial)
    (keys : IsLawfulKeys eq (hash s.store.hasher))
    (k : K) (matches : K → Bool) (alike : (l : K) → matches l ≡ eq k l) where
  -- the call under way, with its machine here
  abbrev pub getting : Machine → Running K V (Unit {0})
  getting m = record { machine = calling m; key = Own k; value = None; answers = None }

  -- the map as a core whose one caller is in this call, or in none
  abbrev pub core_in : Option (Running K V (Unit {0})) → CoreState K V S (Unit {0})
  core_in call = record { store = s.store; callers = record { caller = 0; work = as_work call } ∷ []; mode = s.mode; initial = s.initial }

  -- the key matches the keys that the query matches
  matches_same : (o : Option (Stored K V)) → matches_in matches o ≡ same_stored eq k o
  matches_same None = refl
  matches_same (Some p) = alike p.key

  -- an answer from the tables is an answer of the core
  told_performs : (m : Machine) (ask : Ask) (answer : Answer) → IsTrueOfStore matches s.store ask answer
      → Performs eq whatever false ask s.store (getting m) answer s.store (getting m)
  told_performs m (Load at) answer told = (told, (refl, refl))
  told_performs m (SameKey n) answer told = (told ∙ ap Yes (matches_same (pair_of s.store n)), (refl, refl))
  told_performs m (SizeOf t) answer told = (told, (refl, refl))
  told_performs m (LoadHint t x) answer told = (told, (refl, refl))
  told_performs m (Exchange at old new) answer told = absurd told
  told_performs m (WriteHint t x hint) answer told = absurd told
  told_performs m (ShowPair n) answer told = absurd told
  told_performs m MakeKey answer told = absurd told
  told_performs m ShowNone answer told = absurd told
  told_performs m MakePair answer told = absurd told
  told_performs m MakeValue answer told = absurd told
  told_performs m (MakePairOf i) answer told = absurd told
  told_performs m (MakeTable slots limit chunks) answer told = absurd told
  told_performs m (AddToShard by) answer told = absurd told
  told_performs m (Ask_done reply) answer told = absurd told

  -- an ask that is still answered is no reply
  told_goes : (ask : Ask) (answer : Answer) → IsTrueOfStore matches s.store ask answer → reply_in ask ≡ None
  told_goes (Load at) answer told = refl
  told_goes (SameKey n) answer told = refl
  told_goes (SizeOf t) answer told = refl
  told_goes (LoadHint t x) answer told = refl
  told_goes (Exchange at old new) answer told = absurd told
  told_goes (WriteHint t x hint) answer told = absurd told
  told_goes (ShowPair n) answer told = absurd told
  told_goes MakeKey answer told = absurd told
  told_goes ShowNone answer told = absurd told
  told_goes MakePair answer told = absurd told
  told_goes MakeValue answer told = absurd told
  told_goes (MakePairOf i) answer told = absurd told
  told_goes (MakeTable slots limit chunks) answer told = absurd told
  told_goes (AddToShard by) answer told = absurd told
  told_goes (Ask_done reply) answer told = absurd told

  -- the event of a step
  abbrev event_at : Machine → Answer → Event
  event_at m answer = event_of (chain.kind_of_ask (calling m)) (chain_asks.Call (ask_of m)) (answers.Call answer)

  -- a lookup needs no table to be made
  not_growing : (need : Need) (state : State) → state ≡ Growing need → IsLooking s.store state → ⊥
  not_growing need state e looking = subst (IsLooking s.store) e looking

  -- a step of the core, after which the call continues or has replied
  told_steps : (m : Machine) (answer : Answer) (reply : Option Reply) → m.task ≡ Get_task → IsLooking s.store m.state
      → IsTrueOfStore matches s.store (ask_of m) answer → reply ≡ reply_in (ask_of (after m answer)) → ((refused : Refused) → reply ≡ Some (Reply_refused refused) → ⊥)
      → Advances eq whatever hash false (core_in (Some (getting m))) 0 (core_in (goes_on reply (getting (after m answer)))) (event_at m answer) reply
  told_steps m answer reply is_get looking told is unrefused =
      let own : chain.after (calling m) (answers.Call answer) ≡ calling (after m answer) = goes_itself 0 m answer
      (λ need e. not_growing need m.state e looking) (λ t e. inl is_get) in
      record {
        before = getting m;
        was = refl;
        answer = answers.Call answer;
        later = getting m;
        performs = (answer, refl, told_performs m (ask_of m) answer told);
        machine = refl;
        event_is = refl;
        reply_is = is ∙ ap (λ (y : Chain_machine). chain_reply (chain.ask_of y)) (sym own);
        callers = ap (λ (y : Chain_machine). record {
          caller = 0;
          work = as_work
              (goes_on reply (record { machine = y; key = Own k; value = None; answers = None }));
        } ∷ []) (sym own);
        mode = refl;
        initial = refl;
        cause = λ refused e. absurd (unrefused refused e);
      }

  -- the steps from the begin end with an entry of this reply
  pub record IsRun (begun : Machine) (reply : Reply) : Type 0 where
    pub steps : ℕ
    pub last : Entry
    pub before : History
    pub runs : StepsRun eq whatever hash 1 0 steps (core_in (Some (getting begun))) (with_event 0 0 Begun []) (core_in None) (last ∷ before)
    pub replied : last.event ≡ Replied reply

  -- from this machine on the rest of the answers brings it there
  run_rest : (begun m : Machine) (so_far : History) (steps : ℕ) (answer : Answer) (rest : List Answer) (reply : Reply) → m.task ≡ Get_task
      → IsLooking s.store m.state
      → StepsRun eq whatever hash 1 0 steps (core_in (Some (getting begun))) (with_event 0 0 Begun []) (core_in (Some (getting m))) so_far
      → Replies matches s.store m (answer ∷ rest) reply → IsRun begun reply
  run_rest begun m so_far steps answer [] reply is_get looking run (told, done) =
      let event : Event = event_at m answer in
      let looks : IsLooking s.store (after m answer).state = lookup_looks eq (hash s.store.hasher) s.mode s.store lawful keys matches m is_get looking
      answer told in
      let fit : IsLookReply reply = look_replies s.store (after m answer).made (after m answer).hash (after m answer).state reply looks done in
      let step = told_steps m answer (Some reply) is_get looking told (sym (ap reply_in done))
      (λ refused e. let is : reply ≡ Reply_refused refused = cc e in subst IsLookReply is fit) in
      record {
        steps = suc steps;
        last = record { turn = 1; caller = 0; event = Replied reply };
        before = with_event 1 0 event so_far;
        runs = (core_in (Some (getting m)), so_far, run, inl (event, Some reply, inl step, refl));
        replied = refl;
      }
  run_rest begun m so_far steps answer (next ∷ rest) reply is_get looking run (told, more) =
      let event : Event = event_at m answer in
      let looks : IsLooking s.store (after m answer).state = lookup_looks eq (hash s.store.hasher) s.mode s.store lawful keys matches m is_get looking
      answer told in
      let step = told_steps m answer None is_get looking told (sym (told_goes (ask_of (after m answer)) next more.0)) (λ refused e. absurd cc) in
      run_rest begun (after m answer) (with_event 1 0 event so_far) (suc steps) next rest reply ((same_task m answer).0 ∙ is_get) looks
      (core_in (Some (getting m)), so_far, run, inl (event, None, inl step, refl)) more

  -- the whole call
  pub look_alone : hash s.store.hasher k < 2 ^ 64 → (answers : List Answer) (reply : Reply)
      → Replies matches s.store (started Get_task (hash s.store.hasher k) s.mode.resize s.initial s.mode.limit) answers reply
      → RunsAlone eq hash (core_of s) (Get k) reply (core_in None)
  look_alone fits [] reply replies = absurd cc
  look_alone fits (answer ∷ rest) reply replies =
      let m : Machine = started Get_task (hash s.store.hasher k) s.mode.resize s.initial s.mode.limit in
      let run : IsRun m reply = run_rest m m (with_event 0 0 Begun []) 0 answer rest reply refl tt (refl, refl) replies in
      record {
        idle = refl;
        steps = run.steps;
        last = run.last;
        before = run.before;
        runs = (
          Finish 0 run.steps,
          core_in (Some (getting m)),
          with_event 0 0 Begun [],
          refl,
          (
            Begin 0 (Get k),
            core_of s,
            [],
            refl,
            (refl, refl),
            inl (
              refl,
              record {
                number = 0;
                store = refl;
                callers = refl;
                mode = refl;
                initial = refl;
                fits = λ j e.
                    subst (λ x. hash s.store.hasher x < 2 ^ 64) (let same : k ≡ j = cc e in same) fits;
                power = power;
              },
              refl,
            ),
          ),
          run.runs,
        );
        replied = run.replied;
      }
