-- A call keeps its task, its pair, its change and its closure's results while it is set aside; and
-- the causes with which it may fail.
use Rattle.std.proofs.Common.{◌≡◌, ◌⊎◌, inl, inr, ⊎_elim, ℕ, Bool, false, is_some, None, Some, List, refl, sym, ap, ◌∙◌, subst}
use Rattle.papaya_words.specs.declared.refused.Refused.{Refused as Cause}
use Rattle.papaya_words.specs.declared.refused.Refused.TheVariants.{Capacity, Limit, Memory}
use mathlib.Core.List.{IsPrefix}
use Rattle.papaya_call.specs.declared.ask.Answer.TheVariants.{Word as Word_read}
use Rattle.papaya_call.specs.declared.ask.Ask.TheVariants.{Done}
use Rattle.papaya_call.specs.declared.call.Reply.{Reply}
use Rattle.papaya_call.specs.declared.call.Reply.TheVariants.{Refused}
use Rattle.papaya_call.specs.declared.call.Task.{Task}
use Rattle.papaya_call.specs.declared.call.Task.TheVariants.{Get, Insert, RemoveIf, Compute}
use Rattle.papaya_call.specs.declared.search.Search.TheVariants.{Sizing}
use Rattle.papaya_call.specs.declared.compute.Remembered.{Remembered}
use Rattle.papaya_call.specs.declared.machine.Machine.{Machine as Call_machine}
use Rattle.papaya_call.specs.declared.machine.State.{State}
use Rattle.papaya_call.specs.declared.machine.State.TheVariants.{AtRoot, Searching, Leaving, Growing, Ended}
use Rattle.papaya_call.specs.declared.need.Need.{Need}
use Rattle.papaya_call.specs.Machine as calls
use Rattle.papaya_call.specs.declared.chain.ask.Ask.TheVariants.{Call}
use Rattle.papaya_call.specs.declared.chain.machine.Machine.{Machine}
use Rattle.papaya_call.specs.declared.chain.machine.Phase.TheVariants.{Calling}
use Rattle.papaya_call.specs.ChainMachine.{ask_of}
use Rattle.papaya_call_law.proofs.Names.{call_asks}
use Rattle.papaya_call_law.proofs.Replies.{anew}
use Rattle.papaya_call_law.specs.ChainRelies.{left_by}
use Rattle.papaya_call_law.specs.Relies.{change_in}
use Rattle.papaya_call_law.specs.Says.{HasValue, IsAnswered, ClosureResult, NamesPairIn, NamesPairs, ActsOn, result_in, result_to_choose, result_to_fill}
use Rattle.papaya_call_law.proofs.ReliesReplyRefused.{machine_reason}
use Rattle.papaya_map_book.specs.declared.rule.own.CapacityCause.{CapacityCause}
use Rattle.papaya_map_book.specs.Limits.{HasNoRoom}
use Rattle.papaya_map_book.specs.declared.keyed.Keyed as keyed
use Rattle.papaya_map_book.specs.declared.window.Window.{Window}
use Rattle.papaya_map_book.specs.Windows.{Does}
use Rattle.papaya_map_book.proofs.Lengths.{room_since}
use Rattle.papaya_map_change.specs.declared.driver.Driver.{Driver}
use Rattle.papaya_map_change.specs.Doing.{has_changed}
use Rattle.papaya_map_change.specs.Helping.{HasRestarted, HasGoneOn, HasHelped, WasRefused}
use Rattle.papaya_map_change.specs.Writing.{IsMemoryCapacityOrLimit, IsMemoryOrCapacity}
use Rattle.papaya_map_change.proofs.Doing.{left_unchanged}

-- the cause with which a copy ended a call: there was no memory, or no room
abbrev pub IsCopyEnd : (initial : ℕ) → (tables : List ℕ) → List CapacityCause → Cause → Type 0
IsCopyEnd initial tables given cause = (cause ≡ Memory) ⊎ ((cause ≡ Capacity) × HasNoRoom initial tables given)

-- the call after a copy
pub record IsKept (m m' : Machine) (tables : List ℕ) (given : List CapacityCause) : Type 0 where
  pub task : m'.call.task ≡ m.call.task
  pub made : m'.call.made ≡ m.call.made
  pub initial : m'.call.initial ≡ m.call.initial
  pub changed : has_changed m' ≡ has_changed m
  pub shows : NamesPairs m.call → NamesPairs m'.call
  pub values : HasValue m.call → HasValue m'.call
  pub stands : (said : ClosureResult) → ActsOn m'.call said → ActsOn m.call said
  pub ends : (cause : Cause) → ask_of m' ≡ Call (Done (Refused cause)) → (m' ≡ m) ⊎ IsCopyEnd m'.call.initial tables given cause

-- a call relies on the results that it remembers, if there is no new one
pub stands_before : (call call' : Call_machine) → call'.remembered ≡ call.remembered → result_in call'.task call'.state ≡ None → (said : ClosureResult)
    → ActsOn call' said → ActsOn call said
stands_before call call' same silent said (inl e) = absurd (cc (silent, e))
stands_before call call' same silent said (inr (inl e)) = inr (inl (ap (λ (h : Remembered). result_to_fill h.fill) (sym same) ∙ e))
stands_before call call' same silent said (inr (inr e)) = inr (inr (ap (λ (h : Remembered). result_to_choose h.choice) (sym same) ∙ e))

-- a call that is set aside has no newer result of its closure
unanswered : (s : State) (t : ℕ) → left_by s ≡ Some t → IsAnswered s → ⊥
unanswered (Leaving u) t e a = a
unanswered (Growing need) t e a = a
unanswered s t e a = absurd cc

-- and has the value of the remembered pair in each state in which it continues
pub values_left : (call : Call_machine) (t : ℕ) → left_by call.state ≡ Some t → (s : State) → HasValue call → HasValue (record call { state = s })
values_left call t left s has old new is = ⊎_elim (λ valued. inl valued) (λ waits. absurd (unanswered call.state t left waits)) (has old new is)

-- there is no result of the closure in a call that ended so
absent_silent : (task : Task) → result_in task (Ended Rattle.papaya_call.specs.declared.call.Reply.TheVariants.Absent) ≡ None
absent_silent Get = refl
absent_silent (Insert replace) = refl
absent_silent RemoveIf = refl
absent_silent Compute = refl

refused_silent : (task : Task) (refused : Cause) → result_in task (Ended (Refused refused)) ≡ None
refused_silent Get refused = refl
refused_silent (Insert replace) refused = refl
refused_silent RemoveIf refused = refl
refused_silent Compute refused = refl

module _ (m m' : Machine) (tables : List ℕ) (given : List CapacityCause) (t : ℕ) (left : left_by m.call.state ≡ Some t) (call : Call_machine)
    (is : m'.call ≡ call) where
  -- a call that was set aside, if it is this one now
  kept_by : call.task ≡ m.call.task → call.made ≡ m.call.made → call.initial ≡ m.call.initial → call.remembered ≡ m.call.remembered
      → change_in call.state ≡ None → NamesPairs call → (HasValue m.call → HasValue call) → result_in call.task call.state ≡ None
      → ((cause : Cause) → calls.ask_of call ≡ Done (Refused cause) → IsCopyEnd m.call.initial tables given cause) → IsKept m m' tables given
  kept_by task made initial remembered none shows values silent ends =
      let same_initial : m'.call.initial ≡ m.call.initial = ap (λ (z : Call_machine). z.initial) is ∙ initial in record {
        task = ap (λ (z : Call_machine). z.task) is ∙ task;
        made = ap (λ (z : Call_machine). z.made) is ∙ made;
        initial = same_initial;
        changed = ap (λ (z : Call_machine). is_some (change_in z.state)) is ∙ (ap is_some none ∙ sym (left_unchanged m.call.state t left));
        shows = λ _. subst NamesPairs (sym is) shows;
        values = λ has. subst HasValue (sym is) (values has);
        stands = λ said stands. stands_before m.call call remembered silent said (subst (λ z. ActsOn z said) is stands);
        ends = λ cause e. inr (subst (λ n. IsCopyEnd n tables given cause) (sym same_initial)
            (ends cause (ap (λ (z : Call_machine). calls.ask_of z) (sym is) ∙ (call_asks m' (Done (Refused cause)) e).1)));
      }

-- a call that receives the root as one that begins does not fail
anew_unrefused : (call : Call_machine) (root : ℕ) (cause : Cause)
    → calls.ask_of (calls.after (record call { state = AtRoot }) (Word_read root)) ≡ Done (Refused cause) → ⊥
anew_unrefused call root cause e =
    ⊎_elim (λ made. let f = made.0 in cc f)
    (λ rest. ⊎_elim (λ (full : (cause ≡ Capacity) × ((need : Need) × (AtRoot ≡ Growing need))). let f = full.1.1 in cc f)
    (λ others. ⊎_elim (λ over. over.2) (λ none. let f = none.1.1 in cc f) others) rest)
    (machine_reason (record call { state = AtRoot }) cause (Word_read root) (λ reply f. cc f) e)

module _ (m m' : Machine) (tables : List ℕ) (given : List CapacityCause) where
  kept_on : HasGoneOn m m' → IsKept m m' tables given
  kept_on h = kept_by m m' tables given h.from h.left (record m.call { state = Searching (Sizing h.table) }) h.call refl refl refl refl refl tt
      (values_left m.call h.from h.left (Searching (Sizing h.table))) refl (λ cause e. absurd (cc e))

  kept_anew : HasRestarted m m' → IsKept m m' tables given
  kept_anew h =
      let call : Call_machine = calls.after (record m.call { state = AtRoot }) (Word_read h.root) in
      kept_by m m' tables given h.from h.left call h.call refl refl refl refl
      (anew (λ s. change_in s ≡ None) refl refl refl (λ _. refl) m.call.task m.call.remembered.fill h.root)
      (anew (NamesPairIn m.call.remembered.choice) tt tt tt (λ _. tt) m.call.task m.call.remembered.fill h.root)
      (values_left m.call h.from h.left call.state)
      (anew (λ s. result_in m.call.task s ≡ None) (absent_silent m.call.task) refl refl (λ _. refl) m.call.task m.call.remembered.fill h.root)
      (λ cause e. absurd (anew_unrefused m.call h.root cause e))

  kept_refused : WasRefused m m' tables given → IsKept m m' tables given
  kept_refused h =
      kept_by m m' tables given h.from h.left (record m.call { state = Ended (Refused h.refused) }) h.call refl refl refl refl refl tt
      (values_left m.call h.from h.left (Ended (Refused h.refused))) (refused_silent m.call.task h.refused)
      (λ cause e. let same : h.refused ≡ cause = cc e in subst (IsCopyEnd m.call.initial tables given) same h.cause)

  -- a call preserves all this while it is set aside
  pub helped_keeps : HasHelped m m' tables given → IsKept m m' tables given
  helped_keeps (inl same) = record {
    task = ap (λ (z : Machine). z.call.task) same;
    made = ap (λ (z : Machine). z.call.made) same;
    initial = ap (λ (z : Machine). z.call.initial) same;
    changed = ap has_changed same;
    shows = λ shows. subst (λ (z : Machine). NamesPairs z.call) (sym same) shows;
    values = λ has. subst (λ (z : Machine). HasValue z.call) (sym same) has;
    stands = λ said stands. subst (λ (z : Machine). ActsOn z.call said) same stands;
    ends = λ cause e. inl same;
  }
  helped_keeps (inr (inl h)) = kept_on h
  helped_keeps (inr (inr (inl h))) = kept_anew h
  helped_keeps (inr (inr (inr h))) = kept_refused h

-- the cause with which a call fails that continued so
module _ {K V S H : Type 0} (c c' : Driver K V S H) (tables : List ℕ) (calling : c'.machine.phase ≡ Calling)
    (still : c.machine.phase ≡ Calling → c' ≡ c) (helped : HasHelped c.machine c'.machine tables c'.copier.given.done) where
  -- it failed before, or its copy did
  ends_so : (P : Driver K V S H → Type 0) (cause : Cause) → (ask_of c.machine ≡ Call (Done (Refused cause)) → P c)
      → (IsCopyEnd c'.machine.call.initial tables c'.copier.given.done cause → P c') → ask_of c'.machine ≡ Call (Done (Refused cause)) → P c'
  ends_so P cause before copied e =
      ⊎_elim
      (λ same. subst P (sym (still (ap (λ (z : Machine). z.phase) (sym same) ∙ calling))) (before (ap ask_of (sym same) ∙ e)))
      copied
      ((helped_keeps c.machine c'.machine tables c'.copier.given.done helped).ends cause e)

  pub refuses_kept : ((cause : Cause) → ask_of c.machine ≡ Call (Done (Refused cause)) → IsMemoryOrCapacity cause) → (cause : Cause)
      → ask_of c'.machine ≡ Call (Done (Refused cause)) → IsMemoryOrCapacity cause
  refuses_kept before cause e = ends_so (λ _. IsMemoryOrCapacity cause) cause (before cause) (λ h. ⊎_elim (λ memory. inl memory) (λ full. inr full.0) h) e

  -- its copy did not fail at the limit
  pub limit_kept : ((cause : Cause) → ask_of c.machine ≡ Call (Done (Refused cause)) → IsMemoryCapacityOrLimit cause) → (cause : Cause)
      → ask_of c'.machine ≡ Call (Done (Refused cause)) → IsMemoryCapacityOrLimit cause
  limit_kept before cause e = ends_so (λ _. IsMemoryCapacityOrLimit cause) cause (before cause)
      (λ h. ⊎_elim (λ memory. inl (inl memory)) (λ full. inl (inr full.0)) h) e

  pub spent_kept : (Holds : Type 0) → (ask_of c.machine ≡ Call (Done (Refused Limit)) → Holds) → ask_of c'.machine ≡ Call (Done (Refused Limit)) → Holds
  spent_kept Holds was e = ends_so (λ d. Holds) Limit was (λ h. ⊎_elim (λ memory. absurd (cc memory)) (λ full. absurd (let f = full.0 in cc f)) h) e

  pub room_kept : (before : List ℕ) → IsPrefix before tables
      → (ask_of c.machine ≡ Call (Done (Refused Capacity)) → HasNoRoom c.machine.call.initial before c.copier.given.done)
      → ask_of c'.machine ≡ Call (Done (Refused Capacity)) → HasNoRoom c'.machine.call.initial tables c'.copier.given.done
  room_kept before pre was e = ends_so (λ d. HasNoRoom d.machine.call.initial tables d.copier.given.done) Capacity
      (λ h. room_since c.machine.call.initial before tables c.copier.given.done pre (was h)) (λ h. ⊎_elim (λ memory. absurd (cc memory)) (λ full. full.1) h) e

-- the own steps of a call continue while it is set aside
module _ {K V S H : Type 0} {d : keyed.Ghosts S K H} (m m' : Machine) (tables : List ℕ) (given : List CapacityCause) (calling : m'.phase ≡ Calling)
    (helped : HasHelped m m' tables given) (a w w' : Window K V S H d) where
  unchanged_does : has_changed m ≡ false → w'.own ≡ w.own → Does (has_changed m) a w → Does (has_changed m') a w'
  unchanged_does none same does =
      let before : Does false a w = subst (λ (z : Bool). Does z a w) none does in
      subst (λ (z : Bool). Does z a w') (sym ((helped_keeps m m' tables given helped).changed ∙ none)) (ap (λ o. o.done) same ∙ before)

  pub helped_does : (m.phase ≡ Calling → w' ≡ w) → w'.own ≡ w.own → Does (has_changed m) a w → Does (has_changed m') a w'
  helped_does still same does = elim helped [
    | inl it ↦ let window = still (ap (λ (z : Machine). z.phase) (sym it) ∙ calling) in
        subst (λ (z : Machine). Does (has_changed z) a w') (sym it) (subst (λ (z : Window K V S H d). Does (has_changed m) a z) (sym window) does)
    | inr (inl h) ↦ unchanged_does (left_unchanged m.call.state h.from h.left) same does
    | inr (inr (inl h)) ↦ unchanged_does (left_unchanged m.call.state h.from h.left) same does
    | inr (inr (inr h)) ↦ unchanged_does (left_unchanged m.call.state h.from h.left) same does
  ]
