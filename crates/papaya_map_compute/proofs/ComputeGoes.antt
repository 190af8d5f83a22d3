-- A compute continues after an answer for which its closure is not called and no pair is made.
use Rattle.std.proofs.Common.{◌≡◌, ◌⊎◌, inl, inr, ⊎_elim, ℕ, ℤ, Bool, true, Option, None, Some, List, [], append-nil, refl, sym, ap, ◌∙◌, subst}
use Rattle.std.specs.Cmp.{IsEquivalence}
use mathlib.Core.List.{IsPrefix}
use Rattle.logbook.specs.Pages.{Book}
use Rattle.papaya_words.specs.declared.refused.Refused.{Refused as Cause}
use Rattle.papaya_words.specs.declared.refused.Refused.TheVariants.{Capacity, Limit}
use Rattle.papaya_call.specs.declared.answers.Operation.{Operation}
use Rattle.papaya_call.specs.declared.ask.Ask.{Ask}
use Rattle.papaya_call.specs.declared.ask.Ask.TheVariants.{Load, Exchange, LoadHint, WriteHint}
use Rattle.papaya_call.specs.declared.ask.Ask.TheVariants.{SameKey, ShowNone, ShowPair, SizeOf}
use Rattle.papaya_call.specs.declared.ask.Ask.TheVariants.{MakeKey, MakeValue, MakePair, MakePairOf}
use Rattle.papaya_call.specs.declared.ask.Ask.TheVariants.{MakeTable, AddToShard, Done}
use Rattle.papaya_call.specs.declared.ask.Answer.{Answer}
use Rattle.papaya_call.specs.declared.ask.Answer.TheVariants.{Refused as Was_refused}
use Rattle.papaya_call.specs.declared.ask.At.TheVariants.{Root, Next, Aborted as Aborted_word, Done as Done_word, Slot, Made as Made_word}
use Rattle.papaya_call.specs.declared.call.Reply.{Reply}
use Rattle.papaya_call.specs.declared.call.Reply.TheVariants.{Refused}
use Rattle.papaya_call.specs.declared.compute.Choice.TheVariants.{Replace as To_replace}
use Rattle.papaya_call.specs.declared.machine.Machine.{Machine as Call_machine}
use Rattle.papaya_call.specs.declared.made.Of.{Of}
use Rattle.papaya_call.specs.Machine as calls
use Rattle.papaya_call.specs.declared.ask.StepKind.{StepKind}
use Rattle.papaya_call.specs.declared.call.Task.{Task}
use Rattle.papaya_call_law.specs.Followed.{MayAsk}
use Rattle.papaya_call_law.proofs.Followed.{asked_of_task}
use Rattle.papaya_call.specs.declared.chain.ask.Answer.TheVariants as answers
use Rattle.papaya_call.specs.declared.chain.ask.Ask.TheVariants.{Call}
use Rattle.papaya_call.specs.declared.chain.machine.Machine.{Machine}
use Rattle.papaya_call.specs.declared.chain.machine.Phase.TheVariants.{Calling}
use Rattle.papaya_call.specs.ChainMachine.{IsValid, after, ask_of}
use Rattle.papaya_call_law.specs.Goes.{IsInOrder}
use Rattle.papaya_call_law.proofs.Names.{call_asks}
use Rattle.papaya_call_law.proofs.Once.{chain_once}
use Rattle.papaya_call_law.proofs.Replies.{chain_shows, chain_task}
use Rattle.papaya_call_law.specs.Relies.{IsAtLimit, IsNumberAsk}
use Rattle.papaya_call_law.specs.Says.{Agrees, HasCalledNone, Inserts, IsAnswered, Makes, Removes, ClosureResult, NamesPairs, ActsOn}
use Rattle.papaya_call_law.proofs.Silent.{IsSilent, not_done, not_show}
use Rattle.papaya_map_compute.specs.declared.slow_path.Computing.{Computing}
use Rattle.papaya_map_book.specs.declared.rule.entry.Begun.{Begun}
use Rattle.papaya_map_book.specs.declared.rule.entry.Event.{Event}
use Rattle.papaya_map_change.specs.declared.writer.Writer.{Writer}
use Rattle.papaya_map_compute.specs.Computing.{Holds, IsComputing, IsComputingOn, IsNewest, IsWriters}
use Rattle.papaya_map_compute.specs.Putting.{PutsChosen}
use Rattle.papaya_map_book.specs.Hashes.{hash_of}
use Rattle.papaya_map_book.specs.Limits.{HasNoRoom, IsSpent, tables_of}
use Rattle.papaya_map_book.specs.Rule.{IsLawfulLog}
use Rattle.papaya_map_lookup.specs.History.{history_of, key_of}
use Rattle.papaya_map_book.specs.Logs.{Stored}
use Rattle.papaya_map_change.specs.ClosureCalls.{HasNoNone, WasHeld}
use Rattle.papaya_map_change.specs.Writing.{IsMemoryCapacityOrLimit, IsWithoutResult, IsWritingOn, IsTakenCount, answered as answered_writer, held_value}
use Rattle.papaya_map_lookup.proofs.Histories.{history_since}
use Rattle.papaya_map_lookup.proofs.KeptKeys.{key_at_stays}
use Rattle.papaya_map_change.proofs.OwnSays.{own_stood}
use Rattle.papaya_map_change.proofs.StepsOfOwn.{own_order}
use Rattle.papaya_map_change.proofs.Refusals.{refused_for, unsaid_cause, unsaid_room}
use Rattle.papaya_map_change.proofs.ClosureCalls.{all_shown, held_wider}
use Rattle.papaya_map_change.proofs.Spent.{limit_spent, unsaid_limit}
use Rattle.papaya_map_compute.proofs.AnsweredValues.{answered_on, answered_stays, silent_no_pair}
use Rattle.papaya_map_compute.proofs.ChosenChains.{chain_choice, chain_puts}
use Rattle.papaya_map_compute.proofs.ComputeOwn.{own_aborted, own_step}

-- each ask of a call that inserts is silent
pub writers_silent : (ask : Ask) → IsWriters ask → IsSilent ask
writers_silent (Load at) h = tt
writers_silent (Exchange Root old new) h = tt
writers_silent (Exchange (Next t) old new) h = absurd h
writers_silent (Exchange (Aborted_word t) old new) h = absurd h
writers_silent (Exchange (Done_word t chunk) old new) h = absurd h
writers_silent (Exchange (Slot t x) old new) h = absurd h
writers_silent (Exchange Made_word old new) h = tt
writers_silent (LoadHint t x) h = tt
writers_silent (WriteHint t x hint) h = absurd h
writers_silent (SameKey n) h = tt
writers_silent ShowNone h = absurd h
writers_silent (ShowPair n) h = absurd h
writers_silent (SizeOf t) h = tt
writers_silent MakeKey h = tt
writers_silent MakeValue h = tt
writers_silent MakePair h = absurd h
writers_silent (MakePairOf n) h = absurd h
writers_silent (MakeTable slots limit chunks) h = tt
writers_silent (AddToShard by) h = absurd h
writers_silent (Done reply) h = absurd h

-- the remaining asks of a compute
pub record IsOther (ask : Ask) : Type 0 where
  pub hint : (t x hint : ℕ) → ask ≡ WriteHint t x hint → ⊥
  pub none : ask ≡ ShowNone → ⊥
  pub pair : (n : ℕ) → ask ≡ ShowPair n → ⊥
  pub makes : ask ≡ MakePair → ⊥
  pub makes_of : (n : ℕ) → ask ≡ MakePairOf n → ⊥
  pub adds : (by : ℤ) → ask ≡ AddToShard by → ⊥
  pub done : (reply : Reply) → ask ≡ Done reply → ⊥
  pub slot : (t x old new : ℕ) → ask ≡ Exchange (Slot t x) old new → ⊥

left_by_task : (task : Task) (kind : Option StepKind) (ask : Ask) → MayAsk task kind ask → IsOther ask → IsWriters ask
left_by_task task kind (Load at) may other = tt
left_by_task task kind (Exchange Root old new) may other = tt
left_by_task task kind (Exchange Made_word old new) may other = tt
left_by_task task kind (Exchange (Slot t x) old new) may other = absurd (other.slot t x old new refl)
left_by_task task kind (Exchange (Next t) old new) may other = absurd may
left_by_task task kind (Exchange (Aborted_word t) old new) may other = absurd may
left_by_task task kind (Exchange (Done_word t chunk) old new) may other = absurd may
left_by_task task kind (LoadHint t x) may other = tt
left_by_task task kind (WriteHint t x hint) may other = absurd (other.hint t x hint refl)
left_by_task task kind (SameKey n) may other = tt
left_by_task task kind ShowNone may other = absurd (other.none refl)
left_by_task task kind (ShowPair n) may other = absurd (other.pair n refl)
left_by_task task kind (SizeOf t) may other = tt
left_by_task task kind MakeKey may other = tt
left_by_task task kind MakeValue may other = tt
left_by_task task kind MakePair may other = absurd (other.makes refl)
left_by_task task kind (MakePairOf n) may other = absurd (other.makes_of n refl)
left_by_task task kind (MakeTable slots limit chunks) may other = tt
left_by_task task kind (AddToShard by) may other = absurd (other.adds by refl)
left_by_task task kind (Done reply) may other = absurd (other.done reply refl)

-- are asks of any call that inserts
pub left_to_write : (m : Machine) → IsValid m → (ask : Ask) → ask_of m ≡ Call ask → IsOther ask → IsWriters ask
left_to_write m valid ask asks other = left_by_task m.call.task (calls.kind_of_ask m.call) ask
    (subst (λ (a : Ask). MayAsk m.call.task (calls.kind_of_ask m.call) a) (call_asks m ask asks).1 (asked_of_task m.call valid.call)) other

module _ {K V S H T : Type 0} (key : K) (made : List (Stored K V)) (said : List (Option (Stored K V) × Operation V T)) (x : Computing K V S T H) where
  -- the pairs at hand stay, whatever else the writer does, while it keeps the value
  pub holds_still : (w : Writer K V S H) → w.value ≡ x.writer.value → (stands : ClosureResult) → Holds key made said x stands
      → Holds key made said (record x { writer = w }) stands
  holds_still w same (Agrees n agrees) h = h
  holds_still w same (Inserts None) h = (h.0, (h.1.0, ap held_value same ∙ h.1.1, h.1.2))
  holds_still w same (Inserts (Some n)) h = (h.0, h.1, h.2, (h.3.0, ap held_value same ∙ h.3.1, h.3.2))
  holds_still w same (Makes None n) h = h
  holds_still w same (Makes (Some m) n) h = h
  holds_still w same (Removes n) h = h

module _ {K V S H T : Type 0} (x : Computing K V S T H) where
  -- and so does the newest pair that it made
  pub newest_still : (w : Writer K V S H) → held_value w.value ≡ held_value x.writer.value → IsNewest x → IsNewest (record x { writer = w })
  newest_still w same h = record { shown = h.shown; made = (h.made.0, h.made.1, same ∙ h.made.2) }

module _ {K V S H : Type 0} (eq : K → K → Bool) (input : K → List (List ℕ)) (build : S → H) (write : H → List ℕ → H) (finish : H → ℕ)
    (classes : IsEquivalence eq) (respects : (x y : K) → eq x y ≡ true → input x ≡ input y)
    (b : Begun K V S) (name : Book) (key : K) (begun : List (Event K V S)) where
  abbrev hash : S → K → ℕ
  hash = hash_of input build write finish

  abbrev Computing_at : {T : Type 0} → List (Event K V S) → Computing K V S T H → List (Option (Stored K V) × Operation V T) → Type 0
  Computing_at log x heard = IsComputing eq hash b name key begun log x heard

  abbrev pub ComputingOn : {T : Type 0} → List (Event K V S) → Computing K V S T H → List (Option (Stored K V) × Operation V T) → Option Answer → Type 0
  ComputingOn log x heard answer = IsComputingOn eq hash b name key begun log x heard answer

  module _ {T : Type 0} (log : List (Event K V S)) (x : Computing K V S T H) (heard : List (Option (Stored K V) × Operation V T))
      (r : Computing_at log x heard) where
    abbrev pub m : Machine
    m = x.writer.call.machine

    -- the closure's argument was held, over a longer log
    abbrev pub HeldOn : List (Event K V S) → Option (Stored K V) → Type 0
    HeldOn log' held = WasHeld eq (eq key) (history_of begun) (history_of log') held

    pub held_later : (log' : List (Event K V S)) → IsPrefix log log' → (held : Option (Stored K V)) → HeldOn log held → HeldOn log' held
    held_later log' pre held h = held_wider eq (eq key) (history_of begun) (history_of begun) (history_of log) (history_of log')
        ([], append-nil (history_of begun)) (history_since log log' pre) held h

    module _ (valid : IsValid m) (ask : Ask) (asks : ask_of m ≡ Call ask) (is_silent : IsSilent ask) (answer : Answer) where
      abbrev own : (m.phase ≡ Calling) × (calls.ask_of m.call ≡ ask)
      own = call_asks m ask asks

      silent : IsSilent (calls.ask_of m.call)
      silent = subst IsSilent (sym own.1) is_silent

      order : IsInOrder m (answers.Call answer) m.phase
      order = own_order m own.0 answer

      open_still : (reply : Reply) → ask_of m ≡ Call (Done reply) → ⊥
      open_still reply e = not_done m.call answer silent reply (call_asks m (Done reply) e).1

      never : ask_of m ≡ Call ShowNone → ⊥
      never e = not_show m.call answer silent None (call_asks m ShowNone e).1

      -- whether the closure was called with None
      none_later : HasNoNone heard ⊎ HasCalledNone m.call.remembered.fill m.call.state → HasNoNone heard
          ⊎ HasCalledNone (after m (answers.Call answer)).call.remembered.fill (after m (answers.Call answer)).call.state
      none_later h = ⊎_elim (λ none. inl none) (λ shown. inr (chain_once m (answers.Call answer) order shown).1) h

      -- the cause of a failure: it is in the answer, or no number is left for a pair
      refused : (holds : Cause → Type 0) → ((cause : Cause) → answer ≡ Was_refused cause → holds cause) → (IsAtLimit m.call answer → holds Limit)
          → (cause : Cause) → ask_of (after m (answers.Call answer)) ≡ Call (Done (Refused cause)) → holds cause
      refused holds told spent = refused_for m own.0 answer holds never open_still told spent

      -- a newer result of its closure still waits
      waits_on : IsAnswered m.call.state → IsAnswered (after m (answers.Call answer)).call.state
      waits_on waits = subst (λ (z : Call_machine). IsAnswered z.state) (sym (own_step m own.0 answer (λ t e. answered_stays m.call t waits e)))
          (answered_on m.call answer silent waits)

      -- the remembered pair is the previous one
      chosen_before : (old : ℕ) (new : Of) → (after m (answers.Call answer)).call.remembered.choice ≡ Some (To_replace old new)
          → m.call.remembered.choice ≡ Some (To_replace old new)
      chosen_before old new e = ⊎_elim (λ same. same) (λ makes. absurd (silent_no_pair (calls.ask_of m.call) silent makes.1))
          (chain_choice m (answers.Call answer) order old new e)

      -- it continues after an answer to a silent ask
      pub goes_on : (log' : List (Event K V S)) → IsPrefix log log' → (w : Writer K V S H) → w.call.machine ≡ m → w.value ≡ x.writer.value
          → IsWithoutResult w.call.copier.given.done answer → IsTakenCount log' (calls.ask_of m.call) answer → IsWritingOn eq hash b name key r.made begun log' w answer
          → ComputingOn log' (record x { writer = w }) heard (Some answer)
      goes_on log' pre w same value unsaid tells on =
          let given = w.call.copier.given.done in
          let l' : IsLawfulLog eq hash b log' = on.0.calling.lawful in
          let then : after w.call.machine (answers.Call answer) ≡ after m (answers.Call answer) = ap (λ (z : Machine). after z (answers.Call answer)) same in (
            record {
              made = r.made;
              writing = on.0;
              task_is = ap (λ (z : Machine). z.call.task) then ∙ ((chain_task m (answers.Call answer) order).0 ∙ r.task_is);
              words = subst (λ (z : Machine). NamesPairs z.call) (sym then) (chain_shows m (answers.Call answer) order r.words);
              puts = subst (λ (z : Machine). PutsChosen z.call) (sym then) (chain_puts m (answers.Call answer) order r.task_is valid.call r.puts);
              shown_placed = r.shown_placed;
              fill_placed = r.fill_placed;
              chosen_placed = r.chosen_placed;
              held = all_shown (HeldOn log) (HeldOn log') (held_later log' pre) heard r.held;
              none_once = r.none_once;
              none_shown = subst (λ (z : Machine). HasNoNone heard ⊎ HasCalledNone z.call.remembered.fill z.call.state) (sym then) (none_later r.none_shown);
              stood = λ stands h. holds_still key r.made heard x (answered_writer w answer) value stands
                  (r.stood stands (own_stood m own.0 answer silent valid r.words stands (subst (λ (z : Machine). ActsOn z.call stands) then h)));
              newest = λ i n h.
                  ⊎_elim (λ waits. inl (subst (λ (z : Machine). IsAnswered z.call.state) (sym then) (waits_on waits)))
                  (λ newest. inr (newest_still x (answered_writer w answer) (ap held_value value) newest))
                  (r.newest i n (own_stood m own.0 answer silent valid r.words (Makes (Some i) n)
                  (subst (λ (z : Machine). ActsOn z.call (Makes (Some i) n)) then h)));
              of_slot = λ old new e. let h = r.of_slot old new
                  (chosen_before old new (subst (λ (z : Machine). z.call.remembered.choice ≡ Some (To_replace old new)) then e)) in
                  (h.0, h.1, key_at_stays eq input build write finish classes respects b log log' l' pre new.table new.index (key_of h.0) h.2);
              aborts = λ with e. let s = own_aborted m own.0 answer with open_still (ap ask_of (sym then) ∙ e) in
                  absurd (not_show m.call answer silent s.0 s.1);
              refuses = λ cause e. inl (refused IsMemoryCapacityOrLimit (λ c h. inl (unsaid_cause given answer unsaid c h)) (λ over. inr refl) cause
                  (ap ask_of (sym then) ∙ e));
              crowded = λ e. let initial = (after w.call.machine (answers.Call answer)).call.initial in
                  refused (λ cause. cause ≡ Capacity → HasNoRoom initial (tables_of log') given)
                  (unsaid_room initial (tables_of log') given answer unsaid) (λ over f. absurd (cc f)) Capacity (ap ask_of (sym then) ∙ e) refl;
              spent = λ e. refused (λ cause. cause ≡ Limit → IsSpent b.limit log') (unsaid_limit (IsSpent b.limit log') given answer unsaid)
                  (λ over f. limit_spent eq hash b log' l' m.call answer r.writing.calling.relies.call.made.limit tells over) Limit
                  (ap ask_of (sym then) ∙ e) refl;
            },
            on.1,
          )

      -- so it does if it was not asked how many numbers for pairs were taken
      pub goes_untold : (IsNumberAsk ask → ⊥) → (log' : List (Event K V S)) → IsPrefix log log' → (w : Writer K V S H) → w.call.machine ≡ m
          → w.value ≡ x.writer.value → IsWithoutResult w.call.copier.given.done answer → IsWritingOn eq hash b name key r.made begun log' w answer
          → ComputingOn log' (record x { writer = w }) heard (Some answer)
      goes_untold other log' pre w same value unsaid on = goes_on log' pre w same value unsaid (λ number. absurd (other (subst IsNumberAsk own.1 number))) on
