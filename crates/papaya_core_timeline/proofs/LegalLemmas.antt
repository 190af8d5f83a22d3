-- A step's event describes how the map changes, and is legal. An exchange changes the class of the
-- call's own key, as the call may; any other event leaves the map as it is.
use mathlib.Core.Path.{fun_ext}
use Rattle.std.proofs.Common.{◌≡◌, ◌⊎◌, inl, inr, ⊎_elim, ℕ, Bool, true, false, cond, Option, None}
use Rattle.std.proofs.Common.{Some, List, [], ◌∷◌, ◌++◌, refl, sym, ◌∙◌, ap, subst, append-nil}
use Rattle.papaya_words.specs.Word.{pair_of}
use Rattle.papaya_words.specs.Table.{TableWords}
use Rattle.papaya_call.specs.declared.ask.At.{At}
use Rattle.papaya_call.specs.declared.ask.At.TheVariants.{Root, Next, Aborted, Done, Slot, Made}
use Rattle.papaya_call.specs.declared.ask.Ask.TheVariants.{Exchange as Ask_exchange}
use Rattle.papaya_call.specs.declared.ask.Answer.{Answer as Call_answer}
use Rattle.papaya_call.specs.declared.ask.StepKind.{StepKind}
use Rattle.papaya_call.specs.declared.ask.StepKind.TheVariants as kinds
use Rattle.papaya_call.specs.declared.call.Call.{Call}
use Rattle.papaya_call.specs.declared.call.Call.TheVariants.{Get, Insert, TryInsert, RemoveIf, Compute, Reserve, CopyAll, Clear, Retain, Walk}
use Rattle.papaya_call.specs.declared.call.Reply.{Reply}
use Rattle.papaya_call.specs.declared.call.Reply.TheVariants.{Inserted, Replaced, Removed}
use Rattle.papaya_call.specs.declared.call.Task.{Task}
use Rattle.papaya_call.specs.declared.call.Task.TheVariants.{Insert as Insert_task, Compute as Compute_task}
use Rattle.papaya_call.specs.declared.copy_ask.CopyAsk.{CopyAsk}
use Rattle.papaya_call.specs.declared.machine.Machine.{Machine as Call_machine}
use Rattle.papaya_words_law.specs.Allows.{Allows, AllAllowed}
use Rattle.papaya_words_law.specs.Exchange.{Live, Setting, State, Exchange, Open, Claim, Replace, Bury, run, start, Take}
use Rattle.papaya_words_law.specs.Code.{Coding, code}
use Rattle.papaya_words_law.specs.Meaning.{IsLawful, IsLegal as IsLegal_exchange}
use Rattle.papaya_call.specs.Machine.{HasClosure}
use Rattle.papaya_call.specs.Machine as calls
use Rattle.papaya_call.specs.declared.chain.ask.Ask.{Ask}
use Rattle.papaya_call.specs.declared.chain.ask.Ask.TheVariants as asks
use Rattle.papaya_call.specs.declared.chain.ask.Answer.{Answer}
use Rattle.papaya_call.specs.declared.chain.machine.Machine.{Machine as Chain_machine}
use Rattle.papaya_call.specs.ChainMachine.{ask_of, follows_of, kind_of_ask}
use Rattle.papaya_call_law.specs.ChainRelies.{Relies as Chain_relies}
use Rattle.papaya_call_law.specs.ChainAnswers.{IsTrueOfCopy, IsTrueOf as Chain_told, LoadedPairs as Chain_loaded}
use Rattle.papaya_call_law.specs.Copier.{IsCopyAsked}
use Rattle.papaya_call_law.specs.Relies.{Change, Relies, change_of_reply}
use Rattle.papaya_call_law.specs.TrueAnswers.{IsAsked, IsOneOf, IsTrueOf, LoadedPairs, word_of}
use Rattle.papaya_words_law.specs.Code.{IsHashed}
use Rattle.papaya_words_law.proofs.Codes.{code_pair}
use Rattle.papaya_words_law.proofs.Moments.{allowed_rest}
use Rattle.papaya_words_law.proofs.Slots.{same_right}
use Rattle.papaya_core_timeline.specs.declared.trace.Turn.{Turn}
use Rattle.papaya_core_timeline.specs.declared.trace.Event.{Event}
use Rattle.papaya_core_timeline.specs.declared.trace.Event.TheVariants as events
use Rattle.papaya_core_timeline.specs.Advances.{call_event, event_of, answered_event, kind_event}
use Rattle.papaya_core_timeline.proofs.Begun.{the_task}
use Rattle.papaya_core_timeline.proofs.CallersLemmas.{same_item}
use Rattle.papaya_core_timeline.specs.Kept.{setting_of, coding_of, low}
use Rattle.papaya_core_timeline.specs.Maps.{Map, Does, IsUpdate, Same, key_of}
use Rattle.papaya_core_store.specs.Store.{Stored}
use Rattle.papaya_core_timeline.specs.Runs.{History}
use Rattle.papaya_core_timeline.specs.Timeline.{Answered, open_call, change_of, number_in, IsFresh}
use Rattle.papaya_core_timeline.specs.Timeline.{IsUnused, MayChange, IsAgreed, FitsAsked, FitsShown}
use Rattle.papaya_core_timeline.specs.Timeline.{HasNumber, IsLegal}
use Rattle.papaya_core_timeline.proofs.EventLemmas.{told_cases, IsQuiet, IsExchanged, IsShowing, IsShown}
use Rattle.papaya_core_timeline.proofs.ChainLemmas.{own_asks}
use Rattle.papaya_core_timeline.proofs.Good.{IsValueOf, replay, replayed}
use Rattle.papaya_core_timeline.proofs.MachineLemmas.{machine_replaces, machine_takes}
use Rattle.papaya_core_timeline.proofs.ReplayLemmas.{replay-append, replay-alike, next_legal}
use Rattle.papaya_core_timeline.proofs.StepEvents.{IsCopied, copy_kind, copy_moves, copy_told}
use Rattle.papaya_core_timeline.proofs.TimelineLemmas.{at_weaker}
use Rattle.papaya_core_store.specs.declared.store.Mode.{Mode}

-- only a call that replaces puts a pair in place of another
abbrev pub MayReplace : {K V : Type 0} → Option (Stored K V) → Task → Type 0
MayReplace went task = (went ≡ None) ⊎ (task ≡ Insert_task true) ⊎ (task ≡ Compute_task)

-- the key of a pair that is put in is that of the pair that is taken out, or the call's key if none
-- is
abbrev pub IsKeyFor : {K V : Type 0} → K → Option (Stored K V) → Stored K V → Type 0
IsKeyFor k None q = q.key ≡ k
IsKeyFor k (Some p) q = q.key ≡ p.key

-- a pair that is put in is one that the call made for that key; if none is put in, one is taken
-- out, by a call that has a closure
abbrev pub MayPut : {K V : Type 0} → K → Task → List (Stored K V) → (went came : Option (Stored K V)) → Type 0
MayPut k task made went (Some q) = IsOneOf made q × IsKeyFor k went q × MayReplace went task
MayPut k task made (Some p) None = HasClosure task
MayPut k task made None None = ⊥

module _ {K V A : Type 0} where
  -- an insertion puts in a pair of that key and of a value that may be the call's, in place of none
  -- or, if it replaces, of another
  pub insertion_does : (call : Call K V A) (k : K) (went : Option (Stored K V)) (q : Stored K V) → key_of call ≡ Some k → IsKeyFor k went q
      → IsValueOf call q.value → MayReplace went (the_task call) → (reply : Reply) × Does call went reply (Some q)
      × (change_of_reply reply ≡ Some (number_in went, number_in (Some q)))
  insertion_does (Get j) k went q key own value may = absurd value
  insertion_does (Insert j v) k None q key own value
      may = (Inserted q.number, (q, record { number = refl; key = own ∙ sym (same_item _ _ key); value = sym value }, refl), refl)
  insertion_does (Insert j v) k (Some p) q key own value
      may = (Replaced p.number q.number, (refl, (q, record { number = refl; key = own; value = sym value }, refl)), refl)
  insertion_does (TryInsert j v) k None q key own value
      may = (Inserted q.number, (q, record { number = refl; key = own ∙ sym (same_item _ _ key); value = sym value }, refl), refl)
  insertion_does (TryInsert j v) k (Some p) q key own value (inl none) = let f : Some p ≡ None = none in cc
  insertion_does (TryInsert j v) k (Some p) q key own value (inr (inl replaces)) = let f : Insert_task false ≡ Insert_task true = replaces in cc
  insertion_does (TryInsert j v) k (Some p) q key own value (inr (inr computes)) = let f : Insert_task false ≡ Compute_task = computes in cc
  insertion_does (RemoveIf j a) k went q key own value may = absurd value
  insertion_does (Compute j a) k None q key own value
      may = (Inserted q.number, (q, (q.value, record { number = refl; key = own ∙ sym (same_item _ _ key); value = refl }), refl), refl)
  insertion_does (Compute j a) k (Some p) q key own value
      may = (Replaced p.number q.number, (refl, (q, (q.value, record { number = refl; key = own; value = refl }), refl)), refl)
  insertion_does (Reserve more) k went q key own value may = absurd value
  insertion_does CopyAll k went q key own value may = absurd value
  insertion_does Clear k went q key own value may = absurd value
  insertion_does (Retain a) k went q key own value may = absurd value
  insertion_does Walk k went q key own value may = absurd value

  -- a call that has a closure takes out a pair
  pub removal_does : (call : Call K V A) (p : Stored K V) → HasClosure (the_task call) → (reply : Reply) × Does call (Some p) reply None
      × (change_of_reply reply ≡ Some (number_in (Some p), None))
  removal_does (Get j) p removes = absurd removes
  removal_does (Insert j v) p removes = absurd removes
  removal_does (TryInsert j v) p removes = absurd removes
  removal_does (RemoveIf j a) p removes = (Removed p.number, (refl, refl), refl)
  removal_does (Compute j a) p removes = (Removed p.number, (refl, refl), refl)
  removal_does (Reserve more) p removes = absurd removes
  removal_does CopyAll p removes = absurd removes
  removal_does Clear p removes = absurd removes
  removal_does (Retain a) p removes = absurd removes
  removal_does Walk p removes = absurd removes

module _ {K V : Type 0} where
  -- a map with another pair for the class of a key
  abbrev pub with_class : (K → K → Bool) → Map K V → K → Option (Stored K V) → Map K V
  with_class eq m l came j = cond (eq j l) came (m j)

  -- is updated there
  put_update : (eq : K → K → Bool) (m : Map K V) (k l : K) (went came : Option (Stored K V)) → l ≡ k → m k ≡ went
      → IsUpdate eq k went came m (with_class eq m l came)
  put_update eq m k l went came same before = record {
    before = before;
    class = λ j e. ap (λ b. cond b came (m j)) (ap (eq j) same ∙ e);
    others = λ j e. ap (λ b. cond b came (m j)) (ap (eq j) same ∙ e);
  }

  -- two updates with one outcome
  update_by : (eq : K → K → Bool) (k : K) (went came : Option (Stored K V)) (m m' m'' : Map K V) → m'' ≡ m' → IsUpdate eq k went came m m'
      → IsUpdate eq k went came m m''
  update_by eq k went came m m' m'' e u = subst (λ y. IsUpdate eq k went came m y) (sym e) u

  -- The class of the call's key has another pair, as such a call may bring about, and no other
  -- class has.
  pub record IsMoved (eq : K → K → Bool) (k : K) (task : Task) (made : List (Stored K V)) (m m' : Map K V) (old new : Option ℕ) : Type 0 where
    pub went : Option (Stored K V)
    pub came : Option (Stored K V)
    pub update : IsUpdate eq k went came m m'
    pub went_is : number_in went ≡ old
    pub came_is : number_in came ≡ new
    pub may : MayPut k task made went came

  -- a change moves the map so, and no other event moves it
  abbrev pub Moves : (eq : K → K → Bool) → K → Task → List (Stored K V) → Map K V → Map K V → Event → Type 0
  Moves eq k task made m m' (events.Changed kind old new) = IsMoved eq k task made m m' old new
  Moves eq k task made m m' events.Begun = Same m m'
  Moves eq k task made m m' (events.Moved kind) = Same m m'
  Moves eq k task made m m' (events.Asked n agrees) = Same m m'
  Moves eq k task made m m' (events.Shown shown kind) = Same m m'
  Moves eq k task made m m' events.Other = Same m m'
  Moves eq k task made m m' (events.Gave n) = ⊥
  Moves eq k task made m m' (events.Replied reply) = Same m m'

module _ {K V : Type 0} (eq : K → K → Bool) (hash : K → ℕ) (mode mode' : Mode) (tables tables' : List TableWords) where
  -- the law's settings before a step and after it
  abbrev g : Setting K (Stored K V)
  g = setting_of eq (low hash) mode tables

  abbrev g' : Setting K (Stored K V)
  g' = setting_of eq (low hash) mode' tables'

  abbrev c : Coding K (Stored K V)
  c = coding_of (low hash)

  module _ (hashed : IsHashed g c) (lawful' : IsLawful g') (begun since : List (Exchange (Stored K V))) (k : K) (m : Call_machine)
      (loaded : LoadedPairs (Stored K V)) (relies : Relies g c begun since k m loaded) where
    -- the exchanges so far
    abbrev es : List (Exchange (Stored K V))
    es = begun ++ since

    abbrev now : State (Stored K V)
    now = run es start

    -- a pair that the machine deletes has its key
    abbrev pub BuriesOwn : Type 0
    BuriesOwn = (t x old new : ℕ) (p : Stored K V) → calls.kind_of_ask m ≡ Some kinds.Bury → calls.ask_of m ≡ Ask_exchange (Slot t x) old new
        → now.slot t x ≡ Live p → pair_of old ≡ p.number → eq p.key k ≡ true

    abbrev Moves_by : Event → List (Exchange (Stored K V)) → Type 0
    Moves_by event made = Moves eq k m.task loaded.made (replay eq es) (replay eq (es ++ made)) event

    -- the word in the slot named the pair
    stood_number : (t x old : ℕ) (p : Stored K V) → word_of g c now (Slot t x) ≡ old → now.slot t x ≡ Live p → pair_of old ≡ p.number
    stood_number t x old p stood live =
        sym (ap pair_of stood) ∙ ap (λ w. pair_of (code g c w)) live ∙ (code_pair g c hashed.coding (Live p) p refl)

    -- maps with another pair for the classes of equal keys are the same
    classes_alike : (j l : K) (came : Option (Stored K V)) → eq j l ≡ true → with_class eq (replay eq es) j came ≡ with_class eq (replay eq es) l came
    classes_alike j l came alike = fun_ext (λ i. ap (λ b. cond b came (replay eq es i)) (same_right g' lawful' i j l alike))

    -- a pair was put into the class of the call's key
    put_moves : (old new : Option ℕ) (e : Exchange (Stored K V)) (went : Option (Stored K V)) (q : Stored K V)
        → replay eq (es ++ e ∷ []) ≡ with_class eq (replay eq es) k (Some q) → IsOneOf loaded.made q → IsKeyFor k went q → replay eq es k ≡ went
        → MayReplace went m.task → number_in went ≡ old → Some q.number ≡ new → IsMoved eq k m.task loaded.made (replay eq es) (replay eq (es ++ e ∷ [])) old new
    put_moves old new e went q is made key before replaces went_is came_is = record {
      went = went;
      came = Some q;
      update = update_by eq k went (Some q) (replay eq es) (with_class eq (replay eq es) k (Some q)) (replay eq (es ++ e ∷ [])) is
          (put_update eq (replay eq es) k k went (Some q) refl before);
      went_is = went_is;
      came_is = came_is;
      may = (made, key, replaces);
    }

    -- a pair was taken out of it
    take_moves : (old new : ℕ) (e : Exchange (Stored K V)) (p : Stored K V) → replay eq (es ++ e ∷ []) ≡ with_class eq (replay eq es) p.key None
        → eq p.key k ≡ true → HasClosure m.task → replay eq es p.key ≡ Some p → pair_of old ≡ p.number
        → IsMoved eq k m.task loaded.made (replay eq es) (replay eq (es ++ e ∷ [])) (Some (pair_of old)) None
    take_moves old new e p is alike closure here number = record {
      went = Some p;
      came = None;
      update = update_by eq k (Some p) None (replay eq es) (with_class eq (replay eq es) k None) (replay eq (es ++ e ∷ []))
          (is ∙ classes_alike p.key k None alike)
          (put_update eq (replay eq es) k k (Some p) None refl (sym (replay-alike eq (low hash) mode' tables' lawful' es p.key k alike) ∙ here));
      went_is = ap Some (sym number);
      came_is = refl;
      may = closure;
    }

    module _ (buries_own : BuriesOwn) where
      -- an exchange that was made moves the map by its kind
      exchange_moves : (kind : Option StepKind) (at : At) (old new : ℕ) (e : Exchange (Stored K V)) → calls.kind_of_ask m ≡ kind
          → calls.ask_of m ≡ Ask_exchange at old new → IsAsked g c k kind at new now loaded e → word_of g c now at ≡ old
          → IsLegal_exchange g' (replay eq es) e → Allows g' now e → Moves_by (kind_event kind old new) (e ∷ [])
      exchange_moves None at old new e kind_is ask_is asked stood legal allows = absurd asked
      exchange_moves (Some kinds.Open) Root old new e kind_is ask_is asked stood legal allows = λ j.
          ap (λ fs. replay eq (es ++ fs) j) (ap (λ y. y ∷ []) asked) ∙ ap (λ n. n j) (replay-append eq es (Open new ∷ []))
      exchange_moves (Some kinds.Take) Made old new e kind_is ask_is asked stood legal allows = λ j.
          ap (λ fs. replay eq (es ++ fs) j) (ap (λ y. y ∷ []) asked) ∙ ap (λ n. n j) (replay-append eq es (Take now.made ∷ []))
      exchange_moves (Some kinds.Claim) (Slot t x) old new e kind_is ask_is (q, own, key, is) stood legal allows =
          let none : replay eq es q.key ≡ None = subst (λ y. IsLegal_exchange g' (replay eq es) y) is legal in
          put_moves None (Some (pair_of new)) e None q
          (ap (λ y. replay eq (es ++ y ∷ [])) is ∙ replay-append eq es (Claim t x q ∷ []) ∙ ap (λ j. with_class eq (replay eq es) j (Some q)) key)
          own.made key
          (ap (replay eq es) (sym key) ∙ none) (inl refl) refl (ap Some own.named)
      exchange_moves (Some kinds.Replace) (Slot t x) old new e kind_is ask_is (p, q, live, own, key, is) stood legal allows =
          let here : replay eq es p.key ≡ Some p = subst (λ y. IsLegal_exchange g' (replay eq es) y) is legal in
          let alike : eq p.key k ≡ true = lawful'.back k p.key (sym (ap (eq k) key) ∙ relies.made.keys q own.made) in
          let before : replay eq es k ≡ Some p = sym (replay-alike eq (low hash) mode' tables' lawful' es p.key k alike) ∙ here in
          put_moves (Some (pair_of old)) (Some (pair_of new)) e (Some p) q
          (ap (λ y. replay eq (es ++ y ∷ [])) is ∙ replay-append eq es (Replace t x p q ∷ []) ∙ classes_alike p.key k (Some q) alike) own.made key
          before (inr (machine_replaces g c begun since k m loaded relies kind_is)) (ap Some (sym (stood_number t x old p stood live))) (ap Some own.named)
      exchange_moves (Some kinds.Bury) (Slot t x) old new e kind_is ask_is (p, live, is) stood legal allows =
          let number : pair_of old ≡ p.number = stood_number t x old p stood live in
          let here : replay eq es p.key ≡ Some p = subst (λ y. IsLegal_exchange g' (replay eq es) y) is legal in
          take_moves old new e p (ap (λ y. replay eq (es ++ y ∷ [])) is ∙ replay-append eq es (Bury t x p ∷ []))
          (buries_own t x old new p kind_is ask_is live number)
          (machine_takes g c begun since k hashed.coding m loaded relies kind_is (Slot t x) old new ask_is).removes here number
      exchange_moves (Some kinds.Open) (Next t) old new e kind_is ask_is asked stood legal allows = absurd asked
      exchange_moves (Some kinds.Open) Made old new e kind_is ask_is asked stood legal allows = absurd asked
      exchange_moves (Some kinds.Open) (Aborted t) old new e kind_is ask_is asked stood legal allows = absurd asked
      exchange_moves (Some kinds.Open) (Done t chunk) old new e kind_is ask_is asked stood legal allows = absurd asked
      exchange_moves (Some kinds.Open) (Slot t x) old new e kind_is ask_is asked stood legal allows = absurd asked
      exchange_moves (Some kinds.Claim) Root old new e kind_is ask_is asked stood legal allows = absurd asked
      exchange_moves (Some kinds.Claim) (Next t) old new e kind_is ask_is asked stood legal allows = absurd asked
      exchange_moves (Some kinds.Claim) Made old new e kind_is ask_is asked stood legal allows = absurd asked
      exchange_moves (Some kinds.Claim) (Aborted t) old new e kind_is ask_is asked stood legal allows = absurd asked
      exchange_moves (Some kinds.Claim) (Done t chunk) old new e kind_is ask_is asked stood legal allows = absurd asked
      exchange_moves (Some kinds.Replace) Root old new e kind_is ask_is asked stood legal allows = absurd asked
      exchange_moves (Some kinds.Replace) (Next t) old new e kind_is ask_is asked stood legal allows = absurd asked
      exchange_moves (Some kinds.Replace) Made old new e kind_is ask_is asked stood legal allows = absurd asked
      exchange_moves (Some kinds.Replace) (Aborted t) old new e kind_is ask_is asked stood legal allows = absurd asked
      exchange_moves (Some kinds.Replace) (Done t chunk) old new e kind_is ask_is asked stood legal allows = absurd asked
      exchange_moves (Some kinds.Bury) Root old new e kind_is ask_is asked stood legal allows = absurd asked
      exchange_moves (Some kinds.Bury) (Next t) old new e kind_is ask_is asked stood legal allows = absurd asked
      exchange_moves (Some kinds.Bury) Made old new e kind_is ask_is asked stood legal allows = absurd asked
      exchange_moves (Some kinds.Bury) (Aborted t) old new e kind_is ask_is asked stood legal allows = absurd asked
      exchange_moves (Some kinds.Bury) (Done t chunk) old new e kind_is ask_is asked stood legal allows = absurd asked
      exchange_moves (Some kinds.Link) at old new e kind_is ask_is asked stood legal allows = absurd asked
      exchange_moves (Some kinds.Mark) at old new e kind_is ask_is asked stood legal allows = absurd asked
      exchange_moves (Some kinds.Close) at old new e kind_is ask_is asked stood legal allows = absurd asked
      exchange_moves (Some kinds.Place) at old new e kind_is ask_is asked stood legal allows = absurd asked
      exchange_moves (Some kinds.Finish) at old new e kind_is ask_is asked stood legal allows = absurd asked
      exchange_moves (Some kinds.Advance) at old new e kind_is ask_is asked stood legal allows = absurd asked
      exchange_moves (Some kinds.Promote) at old new e kind_is ask_is asked stood legal allows = absurd asked
      exchange_moves (Some kinds.Abort) at old new e kind_is ask_is asked stood legal allows = absurd asked
      exchange_moves (Some kinds.Take) Root old new e kind_is ask_is asked stood legal allows = absurd asked
      exchange_moves (Some kinds.Take) (Next t) old new e kind_is ask_is asked stood legal allows = absurd asked
      exchange_moves (Some kinds.Take) (Aborted t) old new e kind_is ask_is asked stood legal allows = absurd asked
      exchange_moves (Some kinds.Take) (Done t chunk) old new e kind_is ask_is asked stood legal allows = absurd asked
      exchange_moves (Some kinds.Take) (Slot t x) old new e kind_is ask_is asked stood legal allows = absurd asked

      -- the event of an ask of the call itself changes the map so
      pub call_moves : (answer : Call_answer) (made : List (Exchange (Stored K V))) (loaded' : LoadedPairs (Stored K V))
          → IsTrueOf g c k now (calls.kind_of_ask m) loaded (calls.ask_of m) answer made loaded' → AllAllowed g' start (es ++ made)
          → Moves_by (call_event (calls.kind_of_ask m) (calls.ask_of m) answer) made
      call_moves answer made loaded' told may' =
          ⊎_elim quiet (λ z. ⊎_elim exchanged (λ y. ⊎_elim asked shown y) z)
          (told_cases g c k now (calls.kind_of_ask m) loaded (calls.ask_of m) answer made loaded' told)
        where
          unchanged : made ≡ [] → Same (replay eq es) (replay eq (es ++ made))
          unchanged none j = ap (λ fs. replay eq (es ++ fs) j) none ∙ ap (λ fs. replay eq fs j) (append-nil es)

          quiet : IsQuiet (calls.kind_of_ask m) (calls.ask_of m) answer made → Moves_by (call_event (calls.kind_of_ask m) (calls.ask_of m) answer) made
          quiet (none, other) = subst (λ y. Moves_by y made) (sym other) (unchanged none)

          asked : IsShowing (calls.kind_of_ask m) (calls.ask_of m) answer made → Moves_by (call_event (calls.kind_of_ask m) (calls.ask_of m) answer) made
          asked (n, agrees, ask_is, answer_is, none, is) = subst (λ y. Moves_by y made) (sym is) (unchanged none)

          shown : IsShown (calls.kind_of_ask m) (calls.ask_of m) answer made → Moves_by (call_event (calls.kind_of_ask m) (calls.ask_of m) answer) made
          shown (n, op, ask_is, answer_is, none, is) = subst (λ y. Moves_by y made) (sym is) (unchanged none)

          exchanged : IsExchanged g c k now (calls.kind_of_ask m) loaded (calls.ask_of m) answer made
              → Moves_by (call_event (calls.kind_of_ask m) (calls.ask_of m) answer) made
          exchanged x =
              let is : call_event (calls.kind_of_ask m) (calls.ask_of m) answer ≡ kind_event (calls.kind_of_ask m) x.old x.new = ap
              (λ y. call_event (calls.kind_of_ask m) y answer) x.ask_is ∙ ap (answered_event (calls.kind_of_ask m) x.old x.new) x.answer_is in
              let allowed : AllAllowed g' start (es ++ x.by ∷ []) = subst (λ fs. AllAllowed g' start (es ++ fs)) x.made may' in
              subst (λ y. Moves_by y made) (sym is) (subst (λ fs. Moves_by (kind_event (calls.kind_of_ask m) x.old x.new) fs) (sym x.made)
              (exchange_moves (calls.kind_of_ask m) x.at x.old x.new x.by refl x.ask_is x.asked x.stood
              (next_legal eq (low hash) mode' tables' lawful' es x.by allowed) (allowed_rest g' es (x.by ∷ []) start allowed).0))

module _ {K V : Type 0} (eq : K → K → Bool) where
  -- an exchange of a copy leaves the map
  copied_same : (c : Coding K (Stored K V)) (kind : Option StepKind) (at : At) (new : ℕ) (s : State (Stored K V)) (kept : Option (Stored K V))
      (e : Exchange (Stored K V)) (m : Map K V) → IsCopyAsked c kind at new s kept e → replayed eq m (e ∷ []) ≡ m
  copied_same c (Some kinds.Link) (Next t) new s kept e m is = ap (λ y. replayed eq m (y ∷ [])) is
  copied_same c (Some kinds.Mark) (Slot t x) new s kept e m (p, there, is) = ap (λ y. replayed eq m (y ∷ [])) is
  copied_same c (Some kinds.Close) (Slot t x) new s kept e m is = ap (λ y. replayed eq m (y ∷ [])) is
  copied_same c (Some kinds.Place) (Slot t x) new s kept e m (p, carried, number, is) = ap (λ y. replayed eq m (y ∷ [])) is
  copied_same c (Some kinds.Finish) (Slot t x) new s kept e m (p, there, is) = ap (λ y. replayed eq m (y ∷ [])) is
  copied_same c (Some kinds.Advance) (Done n chunk) new s kept e m is = ap (λ y. replayed eq m (y ∷ [])) is
  copied_same c (Some kinds.Promote) Root new s kept e m is = ap (λ y. replayed eq m (y ∷ [])) is
  copied_same c (Some kinds.Abort) (Aborted n) new s kept e m is = ap (λ y. replayed eq m (y ∷ [])) is
  copied_same c kind at new s kept e m is = absurd is

  -- the answer to a copy leaves the map
  pub copy_same : (g : Setting K (Stored K V)) (c : Coding K (Stored K V)) (s : State (Stored K V)) (kind : Option StepKind) (follows : ℕ)
      (loaded : Chain_loaded (Stored K V)) (ask : CopyAsk) (answer : Answer) (made : List (Exchange (Stored K V))) (loaded' : Chain_loaded (Stored K V))
      → IsTrueOfCopy g c s kind follows loaded ask answer made loaded' → (es : List (Exchange (Stored K V))) → Same (replay eq es) (replay eq (es ++ made))
  copy_same g c s kind follows loaded ask answer made loaded' told es j =
      ⊎_elim
      (λ (none : made ≡ []). ap (λ fs. replay eq (es ++ fs) j) none ∙ ap (λ fs. replay eq fs j) (append-nil es))
      (λ (x : IsCopied g c s kind loaded.kept ask made). ap (λ fs. replay eq (es ++ fs) j) x.made
      ∙ ap (λ m. m j) (replay-append eq es (x.by ∷ []) ∙ copied_same c kind x.at x.new s loaded.kept x.by (replay eq es) x.asked))
      (copy_told g c s kind follows loaded ask answer made loaded' told)

module _ {K V : Type 0} (eq : K → K → Bool) (hash : K → ℕ) (mode mode' : Mode) (tables tables' : List TableWords) where
  module _ (hashed : IsHashed (setting_of {V = V} eq (low hash) mode tables) (coding_of (low hash)))
      (lawful' : IsLawful (setting_of {V = V} eq (low hash) mode' tables')) (begun since : List (Exchange (Stored K V))) (k : K) (m : Chain_machine)
      (loaded : Chain_loaded (Stored K V)) (relies : Chain_relies (setting_of eq (low hash) mode tables) (coding_of (low hash)) begun since k m loaded)
      (buries_own : BuriesOwn eq hash mode mode' tables tables' hashed lawful' begun since k m.call loaded.call relies.call) where
    -- the event of a step changes the map so, and that of a copy leaves it
    pub step_moves : (answer : Answer) (made : List (Exchange (Stored K V))) (loaded' : Chain_loaded (Stored K V))
        → Chain_told (setting_of eq (low hash) mode tables) (coding_of (low hash)) k (run (begun ++ since) start) (kind_of_ask m) (follows_of m) loaded
        (ask_of m) answer made loaded' → AllAllowed (setting_of eq (low hash) mode' tables') start ((begun ++ since) ++ made)
        → Moves eq k m.call.task loaded.call.made (replay eq (begun ++ since)) (replay eq ((begun ++ since) ++ made))
        (event_of (kind_of_ask m) (ask_of m) answer)
    step_moves answer made loaded' told may' = by_ask (ask_of m) refl told
      where
        by_ask : (ask : Ask) → ask_of m ≡ ask → Chain_told (setting_of eq (low hash) mode tables) (coding_of (low hash)) k
            (run (begun ++ since) start) (kind_of_ask m) (follows_of m) loaded ask answer made loaded'
            → Moves eq k m.call.task loaded.call.made (replay eq (begun ++ since)) (replay eq ((begun ++ since) ++ made)) (event_of (kind_of_ask m) ask answer)
        by_ask (asks.Call ask) e h =
            let own = own_asks m ask e in
            let tells = subst (λ y. IsTrueOf (setting_of eq (low hash) mode tables) (coding_of (low hash)) k (run (begun ++ since) start) y loaded.call
            (calls.ask_of m.call) h.told made h.call) own.2
            (subst (λ y. IsTrueOf (setting_of eq (low hash) mode tables) (coding_of (low hash)) k (run (begun ++ since) start) (kind_of_ask m)
            loaded.call y h.told made h.call) (sym own.1) h.tells) in
            let is : event_of (kind_of_ask m) (asks.Call ask) answer ≡ call_event (calls.kind_of_ask m.call) (calls.ask_of m.call) h.told =
            ap (event_of (kind_of_ask m) (asks.Call ask)) h.is ∙ ap (λ y. call_event y ask h.told) own.2
            ∙ ap (λ y. call_event (calls.kind_of_ask m.call) y h.told) (sym own.1) in
            subst (Moves eq k m.call.task loaded.call.made (replay eq (begun ++ since)) (replay eq ((begun ++ since) ++ made))) (sym is)
            (call_moves eq hash mode mode' tables tables' hashed lawful' begun since k m.call loaded.call relies.call buries_own h.told made h.call tells may')
        by_ask (asks.Copy ask) e h =
            let same = copy_same eq (setting_of eq (low hash) mode tables) (coding_of (low hash)) (run (begun ++ since) start) (kind_of_ask m)
            (follows_of m) loaded ask answer made loaded' h (begun ++ since) in
            copy_moves (λ e. Moves eq k m.call.task loaded.call.made (replay eq (begun ++ since)) (replay eq ((begun ++ since) ++ made)) e) same
            (λ kind. same) (kind_of_ask m) (copy_kind m ask e) ask answer

-- a pair that takes the place of another is one that the call made
asked_own : {K P : Type 0} (g : Setting K P) (c : Coding K P) (k : K) (kind : Option StepKind) (at : At) (new : ℕ) (s : State P)
    (loaded : LoadedPairs P) (e : Exchange P) → IsAsked g c k kind at new s loaded e → (t x : ℕ) (p q : P) → e ≡ Replace t x p q → IsOneOf loaded.made q
asked_own g c k (Some kinds.Open) Root new s loaded e asked t x p q is = absurd cc
asked_own g c k (Some kinds.Claim) (Slot u y) new s loaded e (r, own, key, asked) t x p q is = absurd cc
asked_own g c k (Some kinds.Replace) (Slot u y) new s loaded e (o, r, live, own, key, asked) t x p q is = let same : r ≡ q = cc in
    subst (IsOneOf loaded.made) same own.made
asked_own g c k (Some kinds.Bury) (Slot u y) new s loaded e (r, live, asked) t x p q is = absurd cc
asked_own g c k (Some kinds.Take) Made new s loaded e asked t x p q is = absurd cc
asked_own g c k kind at new s loaded e asked t x p q is = absurd asked

-- a step puts a pair in the place of another only if its call asks for it
pub replaces_own : {K V : Type 0} (eq : K → K → Bool) (g : Setting K (Stored K V)) (c : Coding K (Stored K V)) (k : K) (s : State (Stored K V))
    (kind : Option StepKind) (follows : ℕ) (loaded : Chain_loaded (Stored K V)) (ask : Ask) (answer : Answer) (made : List (Exchange (Stored K V)))
    (loaded' : Chain_loaded (Stored K V)) (t x : ℕ) (p q : Stored K V) → eq p.key p.key ≡ true → made ≡ Replace t x p q ∷ []
    → Chain_told g c k s kind follows loaded ask answer made loaded' → (at : At) × (old : ℕ) × (new : ℕ) × (ask ≡ asks.Call (Ask_exchange at old new))
    × IsOneOf loaded.call.made q
replaces_own {K = K} {V = V} eq g c k s kind follows loaded (asks.Call ask) answer made loaded' t x p q itself is told =
    ⊎_elim
    (λ quiet. nothing quiet.0)
    (λ y. ⊎_elim
    (λ (by : IsExchanged g c k s kind loaded.call ask told.told made).
    let same : by.by ≡ Replace t x p q = (let f : by.by ∷ [] ≡ Replace t x p q ∷ [] = sym by.made ∙ is in cc) in
    (by.at, by.old, by.new, ap asks.Call by.ask_is, asked_own g c k kind by.at by.new s loaded.call by.by by.asked t x p q same))
    (λ z. ⊎_elim (λ (shown : IsShowing kind ask told.told made). nothing shown.4) (λ (shown : IsShown kind ask told.told made). nothing shown.4) z) y)
    (told_cases g c k s kind loaded.call ask told.told made told.call told.tells)
  where
    nothing : made ≡ [] → (at : At) × (old : ℕ) × (new : ℕ) × (asks.Call ask ≡ asks.Call (Ask_exchange at old new)) × IsOneOf loaded.call.made q
    nothing none = let f : [] ≡ Replace t x p q ∷ [] = sym none ∙ is in absurd cc
replaces_own {K = K} {V = V} eq g c k s kind follows loaded (asks.Copy ask) answer made loaded' t x p q itself is told =
    let f : None ≡ Some q = sym (copy_same eq g c s kind follows loaded ask answer made loaded' told [] p.key) ∙ ap (λ l. replay eq l p.key) is
    ∙ ap (λ b. cond b (Some q) None) itself in
    absurd cc

module _ {K V A : Type 0} (eq : K → K → Bool) where
  -- a change by a call on one key to its class is one that it may make
  pub own_change : (call : Call K V A) (made : Change) (k : K) (went came : Option (Stored K V)) → (key_of call ≡ Some k) × (made ≡ None)
      × ((reply : Reply) × Does call went reply came × (change_of_reply reply ≡ Some (number_in went, number_in came)))
      → MayChange eq (Some call) made k went came
  own_change (Get j) made k went came x = x
  own_change (Insert j v) made k went came x = x
  own_change (TryInsert j v) made k went came x = x
  own_change (RemoveIf j a) made k went came x = x
  own_change (Compute j a) made k went came x = x
  own_change (Reserve more) made k went came x = x
  own_change CopyAll made k went came x = x
  own_change Clear made k went came x = let f : None ≡ Some k = x.0 in absurd cc
  own_change (Retain a) made k went came x = let f : None ≡ Some k = x.0 in absurd cc
  own_change Walk made k went came x = x

  -- the closure is called with the pair that the class of its key had
  pub fits_asked : (o : Option (Call K V A)) (n caller : ℕ) (h : History) (maps : List (Map K V)) → FitsShown eq o (Some n) caller h maps
      → FitsAsked eq o n caller h maps
  fits_asked None n caller h maps x = x
  fits_asked (Some (Get j)) n caller h maps x = x
  fits_asked (Some (Insert j v)) n caller h maps x = x
  fits_asked (Some (TryInsert j v)) n caller h maps x = x
  fits_asked (Some (RemoveIf j a)) n caller h maps x = x
  fits_asked (Some (Compute j a)) n caller h maps x = x
  fits_asked (Some (Reserve more)) n caller h maps x = x
  fits_asked (Some CopyAll) n caller h maps x = x
  fits_asked (Some Clear) n caller h maps x = x
  fits_asked (Some (Retain a)) n caller h maps x = at_weaker (λ m. None ≡ Some n) (HasNumber n) caller h maps (λ m e. absurd cc) x.0
  fits_asked (Some Walk) n caller h maps x = x

module _ {K V A : Type 0} (eq : K → K → Bool) (k : K) (task : Task) (made : List (Stored K V)) (m : Map K V) (schedule : List (Turn K V A))
    (caller : ℕ) (h : History) (maps : List (Map K V)) (said : Answered V) where
  -- a call that made a pair may put it in, and one that has a closure may take one out; its closure has agreed
  abbrev pub MayMove : Option ℕ → Option ℕ → Type 0
  MayMove old new =
      (went came : Option (Stored K V)) → number_in went ≡ old → number_in came ≡ new → MayPut k task made went came
      → MayChange eq (open_call schedule caller h) (change_of caller h) k went came × IsAgreed (open_call schedule caller h) caller old came h said

  -- the conditions of a legal event beside its effect on the map
  abbrev pub MayTell : Event → Type 0
  MayTell (events.Changed kind old new) = ((q : Stored K V) → IsOneOf made q → IsUnused q.number (m ∷ maps)) × MayMove old new
  MayTell events.Begun = Unit {0}
  MayTell (events.Moved kind) = Unit {0}
  MayTell (events.Asked n agrees) = FitsAsked eq (open_call schedule caller h) n caller h (m ∷ maps)
  MayTell (events.Shown shown kind) = FitsShown eq (open_call schedule caller h) shown caller h (m ∷ maps)
  MayTell events.Other = Unit {0}
  MayTell (events.Gave n) = ⊥
  MayTell (events.Replied reply) = ⊥

  -- with that it is legal
  pub moved_legal : (m' : Map K V) (event : Event) → Moves eq k task made m m' event → MayTell event → IsLegal eq event schedule caller h m maps m' said
  moved_legal m' events.Begun moved may = moved
  moved_legal m' (events.Changed kind old new) moved (unused, may) = record {
    key = k;
    went = moved.went;
    came = moved.came;
    update = moved.update;
    went_is = moved.went_is;
    came_is = moved.came_is;
    fresh = fresh moved.went moved.came moved.may;
    may = (may moved.went moved.came moved.went_is moved.came_is moved.may).0;
    agreed = (may moved.went moved.came moved.went_is moved.came_is moved.may).1;
  }
    where
      fresh : (went came : Option (Stored K V)) → MayPut k task made went came → IsFresh came (m ∷ maps)
      fresh went None put = tt
      fresh went (Some q) (is_made, own, replaces) = unused q is_made
  moved_legal m' (events.Moved kind) moved may = moved
  moved_legal m' (events.Asked n agrees) moved may = (moved, may)
  moved_legal m' (events.Shown shown kind) moved may = (moved, may)
  moved_legal m' events.Other moved may = moved
  moved_legal m' (events.Gave n) moved may = absurd may
  moved_legal m' (events.Replied reply) moved may = absurd may
