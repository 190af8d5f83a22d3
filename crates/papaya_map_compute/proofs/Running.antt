-- A compute whose machine receives answers until it has replied: the facts that hold of it,
-- whichever operator decides on a pair.
use Rattle.std.proofs.Common.{◌≡◌, ℕ, Bool, Option, Some, Result, Err, List, ◌∷◌, sym, ap, ◌∙◌, subst}
use Rattle.std.specs.Prelude.{IfErr}
use mathlib.Core.List.{IsPrefix}
use Rattle.papaya_words.specs.declared.refused.Refused.{Refused as Cause}
use Rattle.papaya_call.specs.declared.ask.Answer.{Answer}
use Rattle.papaya_call.specs.declared.ask.Ask.TheVariants.{Done}
use Rattle.papaya_call.specs.declared.call.Reply.{Reply}
use Rattle.papaya_call.specs.declared.call.Reply.TheVariants.{Refused}
use Rattle.papaya_call.specs.declared.answers.Operation.{Operation}
use Rattle.papaya_call.specs.Machine.{ask_of as call_ask_of}
use Rattle.papaya_call.specs.declared.chain.ask.Ask.TheVariants.{Call}
use Rattle.papaya_call.specs.declared.chain.ask.Answer.TheVariants as answers
use Rattle.papaya_call.specs.declared.chain.machine.Machine.{Machine}
use Rattle.papaya_call.specs.declared.chain.machine.Phase.TheVariants.{Calling}
use Rattle.papaya_call.specs.ChainMachine.{IsValid, after, ask_of}
use Rattle.papaya_words_keys.specs.declared.results.Compute.{Compute as Computed}
use Rattle.papaya_map_book.specs.declared.keyed.Keyed as keyed
use Rattle.papaya_map_book.specs.declared.rule.entry.Event.{Event}
use Rattle.papaya_map_book.specs.declared.window.Window.{Window}
use Rattle.papaya_map_book.specs.Limits.{HasNoRoom, tables_of}
use Rattle.papaya_map_book.specs.Logs.{Stored}
use Rattle.papaya_map_book.specs.Parts.{begun_of}
use Rattle.papaya_map_book.specs.Windows.{Does, Observes, Sees}
use Rattle.papaya_map_book.proofs.Windows.{observed, sees_trans}
use Rattle.papaya_map_lookup.specs.Drivers.{past}
use Rattle.papaya_map_lookup.proofs.Histories.{history_since}
use Rattle.papaya_map_change.specs.Doing.{Answers, has_changed}
use Rattle.papaya_map_change.specs.ClosureCalls.{HasReturned}
use Rattle.papaya_map_change.specs.Window.Ends.{Ends, HasCause}
use Rattle.papaya_map_change.proofs.Doing.{does_on, does_still, idles, makes}
use Rattle.papaya_map_change.proofs.Helped.{helped_does, helped_keeps}
use Rattle.papaya_map_change.proofs.StepsOfOwn.{own_settings}
use Rattle.papaya_map_compute.specs.declared.slow_path.Computing.{Computing}
use Rattle.papaya_map_compute.specs.declared.slow_path.ComputeStep.TheVariants.{Answered, CallsClosure, Replied}
use Rattle.papaya_map_compute.specs.declared.fast_path.Start.{Start}
use Rattle.papaya_map_compute.specs.ComputeAnswers.{changes}
use Rattle.papaya_map_compute.specs.Computes.{CanCompute, CanTake, HasReplied, HasStepped, RecordsResult, HasAnswered}
use Rattle.papaya_map_compute.specs.Computing as computing
use Rattle.papaya_map_compute.specs.Computing.{IsReplied}
use Rattle.papaya_map_compute.specs.FastPath.{IsOnItsWay, StartsAt}
use Rattle.papaya_map_compute.proofs.ComputeReplies.{replied_since}

-- no step is made when the closure or the rule is called with the current entry
pub shown_at : {K V S T H : Type 0} {d : keyed.Ghosts S K H} (w : Window K V S H d) (x : Computing K V S T H) (w' : Window K V S H d) (x' : Computing K V S T H)
    (shown : Option (Stored K V)) → HasStepped w x w' x' (CallsClosure shown) → (answer : Answer)
    → Answers (call_ask_of x'.writer.call.machine.call) (Some answer) w' w' → Answers (call_ask_of x.writer.call.machine.call) (Some answer) w w'
shown_at w x w' x' shown t answer does = rw (sym t.turns.1, sym t.turns.2) does

module _ {K V S T H O : Type 0} {d : keyed.Ghosts S K H} (says : O → Option (Stored K V) → Operation V T → O → Type 0) (initial : ℕ)
    (start_window : Window K V S H d) (asked : O) (start : Start K V) where
  abbrev Heard : Type 0
  Heard = List (Option (Stored K V) × Operation V T)

  -- the property holds for each window, key and operator with which it may have started
  abbrev EachWay : ((since : Window K V S H d) (key : K) (first : O) → Type 0) → Type 0
  EachWay P = (since : Window K V S H d) (key : K) (first : O) → IsOnItsWay since start_window key says first asked start → P since key first

  -- it relies on the log observed so far and on the answers so far
  abbrev IsUnderWay : (w : Window K V S H d) (x : Computing K V S T H) (op : O) → Type 0
  IsUnderWay w x op = EachWay (λ since key first. (heard : Heard)
      × computing.IsUnderWay d.keys.eq d.keys.hash (begun_of w.book.now.parts) w.book.now.begun.book key since.sight.log w.sight.log x heard
      × HasReturned says first heard op)

  -- and is in phase `Calling`
  abbrev pub IsRunning : (w : Window K V S H d) (x : Computing K V S T H) (op : O) → Type 0
  IsRunning w x op = IsUnderWay w x op
      × IsValid x.writer.call.machine
      × (x.writer.call.machine.phase ≡ Calling)
      × (x.writer.call.machine.call.initial ≡ initial)
      × Sees start_window w
      × Does (has_changed x.writer.call.machine) start_window w
      × CanCompute w x

  -- This is an answer to its ask, after the calls of the closure so far.
  abbrev IsAnswer : (w : Window K V S H d) (x : Computing K V S T H) (op : O) → Answer → Type 0
  IsAnswer w x op answer = EachWay (λ since key first. (heard : Heard)
      × ((begun : List (Event K V S)) × IsPrefix since.sight.log begun
      × computing.IsComputingOn d.keys.eq d.keys.hash (begun_of w.book.now.parts) w.book.now.begun.book key begun w.sight.log x heard (Some answer))
      × HasReturned says first heard op)

  module _ (way : (since : Window K V S H d) × (key : K) × (first : O) × IsOnItsWay since start_window key says first asked start) where
    pub begins : (w : Window K V S H d) (x : Computing K V S T H) → Observes start_window w → StartsAt initial start_window start w x → IsRunning w x asked
    begins w x looked starts = let ahead = starts.ahead in (
      (λ since key first h. (h.0, starts.goes key since.sight.log h.0 h.1, h.2)),
      ahead.valid,
      ahead.calling,
      ahead.initial_is,
      observed looked,
      subst (λ (changed : Bool). Does changed start_window w) (sym ahead.unchanged) (idles start_window w looked.own),
      (let on = starts.goes way.1 way.0.sight.log way.3.0 way.3.1 in (way.1, on.0, way.3.0, on.2)),
    )

    module _ (w : Window K V S H d) (x : Computing K V S T H) (op : O) (r : IsRunning w x op) where
      -- the request of its machine was fulfilled
      module _ (w' : Window K V S H d) (x' : Computing K V S T H) (answer : Answer) (t : HasStepped w x w' x' (Answered answer)) where
        pub answered_so : IsAnswer w' x' op answer
        answered_so since key first h = let u = r.0 since key first h in (u.0, (u.1.0, u.1.1, rw t.sees.book (t.turns.0 key u.1.0 u.0 u.1.2)), u.2)

      -- the closure or the rule was called with the current entry, and has returned
      module _ (w' : Window K V S H d) (x' : Computing K V S T H) (shown : Option (Stored K V)) (t : HasStepped w x w' x' (CallsClosure shown))
          (done : Operation V T) (left : O) (said : says op shown done left) (x'' : Computing K V S T H) (answer : Answer)
          (hears : RecordsResult d.keys x' shown done x'' answer) where
        pub heard_so : IsAnswer w' x'' left answer
        heard_so since key first h = let u = r.0 since key first h in (
          (shown, done) ∷ u.0,
          (u.1.0, u.1.1, (hears w').1 key u.1.0 u.0 (rw (t.turns.1, t.turns.2) u.1.2)),
          (op, u.2, said),
        )

      -- so its machine may receive the answer, and continues
      module _ (w' : Window K V S H d) (x' : Computing K V S T H) (left : O) (answer : Answer) (is : IsAnswer w' x' left answer) where
        pub takes : CanTake w' x' answer
        takes = let u = is way.0 way.1 way.2 way.3 in (way.1, u.1.0, u.0, u.1.2)

        pub goes_on : Sees w w' → x'.writer.call.machine ≡ x.writer.call.machine → Answers (call_ask_of x.writer.call.machine.call) (Some answer) w w'
            → (w'' : Window K V S H d) (x'' : Computing K V S T H) → HasAnswered w' x' answer w'' x'' → IsRunning w'' x'' left
        goes_on sees same does w'' x'' told =
            let m = x.writer.call.machine in let m' = x'.writer.call.machine in let then = x''.writer.call in let helps = told.helps in
            let led : after m' (answers.Call answer) ≡ after m (answers.Call answer) = ap (λ (z : Machine). after z (answers.Call answer)) same in
            let on : IsUnderWay w'' x'' left = λ since key first h. let u = is since key first h in
            (u.0, (u.1.0, u.1.1, rw helps.sees.book (told.takes key u.1.0 u.0 u.1.2)), u.2) in (
              on,
              helps.valid,
              helps.calling,
              (helped_keeps (after m' (answers.Call answer)) then.machine (tables_of w''.sight.log) then.copier.given.done helps.helped).initial
                  ∙ (ap (λ (z : Machine). z.call.initial) led ∙ ((own_settings m r.2 answer).0 ∙ r.3)),
              sees_trans _ _ _ (sees_trans _ _ _ r.4 sees) helps.sees,
              helped_does (after m' (answers.Call answer)) then.machine (tables_of w''.sight.log) then.copier.given.done helps.calling helps.helped start_window w' w''
                  told.still helps.own (subst (λ (z : Machine). Does (has_changed z) start_window w') (sym led)
                  (does_on m r.2 answer start_window w w' r.5 does)),
              (let u = on way.0 way.1 way.2 way.3 in (way.1, u.1.0, u.0, u.1.2)),
            )

      -- it has replied
      module _ (w' : Window K V S H d) (x' : Computing K V S T H) (t : HasStepped w x w' x' Replied) where
        abbrev IsSeen : K → List (Event K V S) → Heard → Type 0
        IsSeen key begun heard = computing.IsComputing d.keys.eq d.keys.hash (begun_of w'.book.now.parts) w'.book.now.begun.book key begun w'.sight.log x' heard

        at_end : EachWay (λ since key first. (heard : Heard) × ((begun : List (Event K V S)) × IsPrefix since.sight.log begun × IsSeen key begun heard)
            × HasReturned says first heard op)
        at_end since key first h = let u = r.0 since key first h in (u.0, (u.1.0, u.1.1, rw t.sees.book (t.turns.0 key u.1.0 u.0 u.1.2).0), u.2)

        pub can_reply : CanCompute w' x'
        can_reply = let u = at_end way.0 way.1 way.2 way.3 in (way.1, u.1.0, u.0, u.1.2)

        pub has_replied : (reply : Reply) × (ask_of x'.writer.call.machine ≡ Call (Done reply))
        has_replied = let u = r.0 way.0 way.1 way.2 way.3 in (t.turns.0 way.1 u.1.0 u.0 u.1.2).1

        module _ (answer : Result (Computed K V T) Cause) (h : HasReplied w' x' answer) where
          pub replied_by : EachWay (λ since key first. (heard : Heard) × ((begun : List (Event K V S)) × IsSeen key begun heard)
              × HasReturned says first heard op × IsReplied d.keys.eq key (past since) (past w') heard answer)
          replied_by since key first way' = let u = at_end since key first way' in (
            u.0,
            (u.1.0, u.1.2),
            u.2,
            replied_since d.keys.eq key _ _ _ (history_since since.sight.log u.1.0 u.1.1) u.0 answer (h.replies key u.1.0 u.0 u.1.2),
          )

          pub ends : Ends (changes answer) start_window w'
          ends = let u = at_end way.0 way.1 way.2 way.3 in let call = x'.writer.call in record {
            sees = sees_trans _ _ _ r.4 t.sees;
            lawful = u.1.2.writing.calling.lawful;
            made = rw h.changed (makes d.keys.eq (Some way.1) u.1.0 call.taken call.put call.machine start_window w' u.1.2.writing.calling.changed
                (rw t.machine (does_still x.writer.call.machine start_window w w' r.5 t.turns.1)));
          }

          pub tells : HasCause initial w' x'.writer.call.copier.given.done (λ cause. answer ≡ Err cause)
          tells = let u = at_end way.0 way.1 way.2 way.3 in record {
            crowded = λ e. subst (λ n. HasNoRoom n (tables_of w'.sight.log) x'.writer.call.copier.given.done) (ap (λ (z : Machine). z.call.initial) t.machine ∙ r.3)
                (u.1.2.crowded (subst (λ z. IfErr z (λ cause. ask_of x'.writer.call.machine ≡ Call (Done (Refused cause)))) e h.refusal));
            spent = λ e. u.1.2.spent (subst (λ z. IfErr z (λ cause. ask_of x'.writer.call.machine ≡ Call (Done (Refused cause)))) e h.refusal);
          }
