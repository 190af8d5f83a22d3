-- The change and the count by an answer, and the results of the closure on which the call acts
-- after it.
use Rattle.std.proofs.Common.{◌≡◌, ◌⊎◌, inl, inr, ⊎_elim, ℕ, pos, ◌==◌, Option, None, Some, List, refl, sym, ap, ◌∙◌, subst}
use Rattle.std.proofs.lemmas.Bool.{cond_both}
use Rattle.papaya_words.specs.declared.refused.Refused.{Refused}
use Rattle.papaya_call.specs.declared.ask.Answer.TheVariants.{Word as Word_read}
use Rattle.papaya_call.specs.declared.ask.At.TheVariants.{Next}
use Rattle.papaya_call.specs.declared.ask.Ask.TheVariants.{Load}
use Rattle.papaya_call.specs.declared.call.Reply.TheVariants.{Absent, Refused as Reply_refused}
use Rattle.papaya_call.specs.declared.call.Task.{Task}
use Rattle.papaya_call.specs.declared.call.Task.TheVariants.{Get, Insert, RemoveIf, Compute}
use Rattle.papaya_call.specs.declared.search.Search.TheVariants.{Sizing}
use Rattle.papaya_call.specs.declared.machine.Machine.{Machine as Call_machine}
use Rattle.papaya_call.specs.declared.machine.State.{State as Stage}
use Rattle.papaya_call.specs.declared.machine.State.TheVariants.{AtRoot, Making, Searching, Offering, Leaving, Growing, Ended}
use Rattle.papaya_call.specs.declared.compute.Gap.TheVariants.{NoRoot}
use Rattle.papaya_call.specs.declared.compute.Remembered.{Remembered}
use Rattle.papaya_call.specs.declared.made.Made.{Made}
use Rattle.papaya_call.specs.Machine.{IsValid, asks, at_root, needed}
use Rattle.papaya_call.specs.Machine as call_machine
use Rattle.papaya_call.specs.declared.chain.ask.Ask.TheVariants as asked
use Rattle.papaya_call.specs.declared.chain.ask.Answer.{Answer}
use Rattle.papaya_call.specs.declared.chain.ask.Answer.TheVariants as answers
use Rattle.papaya_call.specs.declared.chain.machine.Machine.{Machine}
use Rattle.papaya_call.specs.declared.chain.machine.Phase.{Phase}
use Rattle.papaya_call.specs.declared.chain.machine.Phase.TheVariants.{Calling, Linking, Copying as Copying_root}
use Rattle.papaya_call.specs.ChainMachine.{after, ask_of, asks_in, follows_of, kind_in, kind_of_ask}
use Rattle.papaya_words_law.specs.Code.{Coding, IsHashed}
use Rattle.papaya_words_law.specs.Exchange.{Setting, State, Exchange}
use Rattle.papaya_call_law.specs.Owed.{grows_by, owed_by}
use Rattle.papaya_call_law.specs.Relies.{change_after, change_in}
use Rattle.papaya_call_law.specs.Says.{IsResultBy, ClosureResult, NamesPairIn, NamesPairs, ActsOn, result_in, result_to_choose, result_to_fill}
use Rattle.papaya_call_law.specs.TrueAnswers as call_told
use Rattle.papaya_call_law.proofs.ReliesCount.{machine_owes}
use Rattle.papaya_call_law.proofs.ReliesReply.{machine_changes}
use Rattle.papaya_call_law.proofs.SaysSaid.{machine_said}
use Rattle.papaya_call_law.proofs.SaysWords.{machine_shows}
use Rattle.papaya_call_law.proofs.Tasks.{same_task}
use Rattle.papaya_call_law.specs.Goes.{IsInOrder, IsOwnStep, change_by, grown_by, owed_in}
use Rattle.papaya_call_law.specs.ChainRelies.{left_by}
use Rattle.papaya_call_law.specs.ChainAnswers.{IsTrueOf, LoadedPairs}
use Rattle.papaya_call_law.proofs.Goes.{machine_goes}

-- a call that is set aside loads the number of a table, and has changed nothing
pub aside_asks : (made : Made) (hash : ℕ) (stage : Stage) (t : ℕ) → left_by stage ≡ Some t → asks made hash stage ≡ Load (Next t)
aside_asks made hash (Leaving u) t e = let same : u ≡ t = cc e in ap (λ n. Load (Next n)) same
aside_asks made hash (Growing need) t e = let same : needed need ≡ t = cc e in ap (λ n. Load (Next n)) same
aside_asks made hash stage t e = absurd cc

pub aside_unchanged : (stage : Stage) (t : ℕ) → left_by stage ≡ Some t → change_in stage ≡ None
aside_unchanged (Leaving u) t e = refl
aside_unchanged (Growing need) t e = refl
aside_unchanged stage t e = absurd cc

-- it relies only on the results that it remembers
aside_silent : (task : Task) (stage : Stage) (t : ℕ) → left_by stage ≡ Some t → result_in task stage ≡ None
aside_silent task (Leaving u) t e = refl
aside_silent task (Growing need) t e = refl
aside_silent task stage t e = absurd cc

refused_silent : (task : Task) (refused : Refused) → result_in task (Ended (Reply_refused refused)) ≡ None
refused_silent Get refused = refl
refused_silent (Insert replace) refused = refl
refused_silent RemoveIf refused = refl
refused_silent Compute refused = refl

-- a property of each state of a call that received the root
pub anew : (Holds : Stage → Type 0) → Holds (Ended Absent) → Holds Making → Holds (Offering NoRoot) → ((t : ℕ) → Holds (Searching (Sizing t)))
    → (task : Task) (fill : Option ℕ) (root : ℕ) → Holds (at_root task fill root)
anew Holds absent making offering searching Get fill root = cond_both (root == 0) (Ended Absent) (Searching (Sizing root)) Holds (λ _. absent)
    (λ _. searching root)
anew Holds absent making offering searching (Insert replace) fill root = cond_both (root == 0) Making (Searching (Sizing root)) Holds (λ _. making)
    (λ _. searching root)
anew Holds absent making offering searching RemoveIf fill root = cond_both (root == 0) (Ended Absent) (Searching (Sizing root)) Holds (λ _. absent)
    (λ _. searching root)
anew Holds absent making offering searching Compute None root = cond_both (root == 0) (Offering NoRoot) (Searching (Sizing root)) Holds
    (λ _. offering) (λ _. searching root)
anew Holds absent making offering searching Compute (Some n) root = cond_both (root == 0) Making (Searching (Sizing root)) Holds (λ _. making)
    (λ _. searching root)

absent_silent : (task : Task) → result_in task (Ended Absent) ≡ None
absent_silent Get = refl
absent_silent (Insert replace) = refl
absent_silent RemoveIf = refl
absent_silent Compute = refl

-- the call after it received the root
abbrev begun : Call_machine → ℕ → Call_machine
begun call root = call_machine.after (record call { state = AtRoot }) (Word_read root)

module _ (m : Machine) (answer : Answer) (t : ℕ) (left : left_by m.call.state ≡ Some t) where
  -- an answer to a call that is set aside changes nothing
  idle_in : (phase : Phase) → change_by (kind_in m.call phase) (asks_in m.call phase) answer (change_in m.call.state) ≡ None
  idle_in Calling = calling answer
    where
      calling : (answer : Answer) → change_by (kind_in m.call Calling) (asks_in m.call Calling) answer (change_in m.call.state) ≡ None
      calling (answers.Call told) =
          ap (λ a. change_after (kind_in m.call Calling) a told (change_in m.call.state)) (aside_asks m.call.made m.call.hash m.call.state t left)
          ∙ aside_unchanged m.call.state t left
      calling (answers.Hash hash) = aside_unchanged m.call.state t left
      calling (answers.Count count) = aside_unchanged m.call.state t left
  idle_in (Linking link) = aside_unchanged m.call.state t left
  idle_in (Copying_root copying) = aside_unchanged m.call.state t left

  -- and adds nothing
  uncounted_in : (phase : Phase) → grown_by (kind_in m.call phase) (asks_in m.call phase) answer ≡ pos 0
  uncounted_in Calling = calling answer
    where
      calling : (answer : Answer) → grown_by (kind_in m.call Calling) (asks_in m.call Calling) answer ≡ pos 0
      calling (answers.Call told) = ap (λ a. grows_by (kind_in m.call Calling) a told) (aside_asks m.call.made m.call.hash m.call.state t left)
      calling (answers.Hash hash) = refl
      calling (answers.Count count) = refl
  uncounted_in (Linking link) = refl
  uncounted_in (Copying_root copying) = refl

-- a call that owes nothing owes nothing in each phase
owes_none : (call : Call_machine) (phase : Phase) → owed_by (call_machine.ask_of call) ≡ pos 0 → owed_in (asks_in call phase) ≡ pos 0
owes_none call Calling e = e
owes_none call (Linking link) e = refl
owes_none call (Copying_root copying) e = refl

module _ (m : Machine) (answer : Answer) (t : ℕ) (left : left_by m.call.state ≡ Some t) (call : Call_machine) (is : (after m answer).call ≡ call) where
  -- the changes of a call that was set aside, if it is this one now, and its count that is due
  aside_changes : change_in call.state ≡ None → change_in (after m answer).call.state ≡ change_by (kind_of_ask m) (ask_of m) answer (change_in m.call.state)
  aside_changes none = ap (λ (d : Call_machine). change_in d.state) is ∙ none ∙ sym (idle_in m answer t left m.phase)

  aside_owes : owed_by (call_machine.ask_of call) ≡ pos 0 → owed_in (ask_of (after m answer)) ≡ grown_by (kind_of_ask m) (ask_of m) answer
  aside_owes none = owes_none (after m answer).call (after m answer).phase (ap (λ (d : Call_machine). owed_by (call_machine.ask_of d)) is ∙ none)
      ∙ sym (uncounted_in m answer t left m.phase)

module _ {K P : Type 0} (g : Setting K P) (c : Coding K P) (k : K) (s : State P) (m : Machine) (loaded : LoadedPairs P) (answer : Answer)
    (es : List (Exchange P)) (loaded' : LoadedPairs P) (order : IsInOrder m answer m.phase)
    (tells : IsTrueOf g c k s (kind_of_ask m) (follows_of m) loaded (ask_of m) answer es loaded') where
  -- the answer to the call itself
  pub own_told : (own : IsOwnStep m answer) → (call' : call_told.LoadedPairs P)
      × call_told.IsTrueOf g c k s (call_machine.kind_of_ask m.call) loaded.call (call_machine.ask_of m.call) own.told es call'
  own_told own =
      let h = subst (λ phase. IsTrueOf g c k s (kind_in m.call phase) (follows_of m) loaded (asks_in m.call phase) answer es loaded') own.phase tells in
      let same : own.told ≡ h.told = cc (own.is, h.is) in
      (h.call, subst (λ a. call_told.IsTrueOf g c k s (call_machine.kind_of_ask m.call) loaded.call (call_machine.ask_of m.call) a es h.call) (sym same) h.tells)

  -- the change and the growth by an answer, if the call took a step of its own
  asks_own : (own : IsOwnStep m answer) → (change_by (kind_of_ask m) (ask_of m) answer (change_in m.call.state) ≡ change_after
      (call_machine.kind_of_ask m.call) (call_machine.ask_of m.call) own.told (change_in m.call.state))
      × (grown_by (kind_of_ask m) (ask_of m) answer ≡ grows_by (call_machine.kind_of_ask m.call) (call_machine.ask_of m.call) own.told)
  asks_own own = (
    ap (λ phase. change_by (kind_in m.call phase) (asks_in m.call phase) answer (change_in m.call.state)) own.phase
        ∙ ap (λ a. change_by (call_machine.kind_of_ask m.call) (asked.Call (call_machine.ask_of m.call)) a (change_in m.call.state)) own.is,
    ap (λ phase. grown_by (kind_in m.call phase) (asks_in m.call phase) answer) own.phase
        ∙ ap (λ a. grown_by (call_machine.kind_of_ask m.call) (asked.Call (call_machine.ask_of m.call)) a) own.is,
  )

  -- the change of the machine after the answer
  pub chain_changes : IsHashed g c → m.call.hash ≡ c.hash k
      → change_in (after m answer).call.state ≡ change_by (kind_of_ask m) (ask_of m) answer (change_in m.call.state)
  chain_changes hashed hash = elim (machine_goes m answer order) [
    | inl waits ↦ aside_changes m answer waits.from waits.left m.call waits.call (aside_unchanged m.call.state waits.from waits.left)
    | inr (inl own) ↦
        let (call', told) = own_told own in
        ap (λ (d : Call_machine). change_in d.state) own.call ∙ machine_changes g c hashed k s m.call hash loaded.call es call' own.told told
        ∙ sym (asks_own own).0
    | inr (inr (inl enters)) ↦ aside_changes m answer enters.from enters.left (record m.call { state = Searching (Sizing enters.table) }) enters.call refl
    | inr (inr (inr (inl begins))) ↦ aside_changes m answer begins.from begins.left (begun m.call begins.root) begins.call
        (anew (λ stage. change_in stage ≡ None) refl refl refl (λ _. refl) m.call.task m.call.remembered.fill begins.root)
    | inr (inr (inr (inr ends))) ↦ aside_changes m answer ends.from ends.left (record m.call { state = Ended (Reply_refused ends.refused) }) ends.call refl
  ]

  -- and its count that is due
  pub chain_owes : owed_in (ask_of (after m answer)) ≡ grown_by (kind_of_ask m) (ask_of m) answer
  chain_owes = elim (machine_goes m answer order) [
    | inl waits ↦ aside_owes m answer waits.from waits.left m.call waits.call
        (ap owed_by (aside_asks m.call.made m.call.hash m.call.state waits.from waits.left))
    | inr (inl own) ↦
        let (call', told) = own_told own in
        ap (λ phase. owed_in (asks_in (after m answer).call phase)) own.goes_on ∙ ap (λ (d : Call_machine). owed_by (call_machine.ask_of d)) own.call
        ∙ machine_owes g c k s m.call loaded.call es call' own.told told
        ∙ sym (asks_own own).1
    | inr (inr (inl enters)) ↦ aside_owes m answer enters.from enters.left (record m.call { state = Searching (Sizing enters.table) }) enters.call refl
    | inr (inr (inr (inl begins))) ↦ aside_owes m answer begins.from begins.left (begun m.call begins.root) begins.call
        (anew (λ stage. owed_by (asks m.call.made m.call.hash stage) ≡ pos 0) refl refl refl (λ _. refl) m.call.task m.call.remembered.fill begins.root)
    | inr (inr (inr (inr ends))) ↦ aside_owes m answer ends.from ends.left (record m.call { state = Ended (Reply_refused ends.refused) }) ends.call refl
  ]

module _ (m : Machine) (answer : Answer) (order : IsInOrder m answer m.phase) where
  -- an answer leaves the task and the key of a call
  pub chain_task : ((after m answer).call.task ≡ m.call.task) × ((after m answer).call.hash ≡ m.call.hash)
  chain_task = elim (machine_goes m answer order) [
    | inl waits ↦ (ap (λ (d : Call_machine). d.task) waits.call, ap (λ (d : Call_machine). d.hash) waits.call)
    | inr (inl own) ↦ (
      ap (λ (d : Call_machine). d.task) own.call ∙ (same_task m.call own.told).0,
      ap (λ (d : Call_machine). d.hash) own.call
          ∙ (same_task m.call own.told).1,
    )
    | inr (inr (inl enters)) ↦ (ap (λ (d : Call_machine). d.task) enters.call, ap (λ (d : Call_machine). d.hash) enters.call)
    | inr (inr (inr (inl begins))) ↦ (ap (λ (d : Call_machine). d.task) begins.call, ap (λ (d : Call_machine). d.hash) begins.call)
    | inr (inr (inr (inr ends))) ↦ (ap (λ (d : Call_machine). d.task) ends.call, ap (λ (d : Call_machine). d.hash) ends.call)
  ]

  -- a call whose closure was called with pairs that are there calls it with such pairs
  pub chain_shows : NamesPairs m.call → NamesPairs (after m answer).call
  chain_shows shows = elim (machine_goes m answer order) [
    | inl waits ↦ subst NamesPairs (sym waits.call) shows
    | inr (inl own) ↦ subst NamesPairs (sym own.call) (machine_shows m.call own.told shows)
    | inr (inr (inl enters)) ↦ subst NamesPairs (sym enters.call) tt
    | inr (inr (inr (inl begins))) ↦ subst NamesPairs (sym begins.call)
        (anew (NamesPairIn m.call.remembered.choice) tt tt tt (λ _. tt) m.call.task m.call.remembered.fill begins.root)
    | inr (inr (inr (inr ends))) ↦ subst NamesPairs (sym ends.call) tt
  ]

  -- a call that was set aside relies only on the results that it remembers, and on no new one
  aside_said : (call : Call_machine) → (after m answer).call ≡ call → result_in call.task call.state ≡ None → call.remembered ≡ m.call.remembered
      → (said : ClosureResult) → ActsOn (after m answer).call said → ActsOn m.call said
  aside_said call is silent same said stands = remembers (subst (λ d. ActsOn d said) is stands)
    where
      remembers : ActsOn call said → ActsOn m.call said
      remembers (inl e) = absurd (cc (silent, e))
      remembers (inr (inl e)) = inr (inl (ap (λ (h : Remembered). result_to_fill h.fill) (sym same) ∙ e))
      remembers (inr (inr e)) = inr (inr (ap (λ (h : Remembered). result_to_choose h.choice) (sym same) ∙ e))

  -- the call relies on a result that it relied on before, or on its closure's new one
  pub chain_said : IsValid m.call → NamesPairs m.call → (said : ClosureResult) → ActsOn (after m answer).call said → ActsOn m.call said
      ⊎ ((own : IsOwnStep m answer) × IsResultBy m.call own.told said)
  chain_said valid shows said stands = elim (machine_goes m answer order) [
    | inl waits ↦ inl (subst (λ d. ActsOn d said) waits.call stands)
    | inr (inl own) ↦ ⊎_elim (λ before. inl before) (λ says. inr (own, says))
        (machine_said m.call own.told said valid shows (subst (λ d. ActsOn d said) own.call stands))
    | inr (inr (inl enters)) ↦ inl (aside_said (record m.call { state = Searching (Sizing enters.table) }) enters.call refl refl said stands)
    | inr (inr (inr (inl begins))) ↦ inl (aside_said (begun m.call begins.root) begins.call
        (anew (λ stage. result_in m.call.task stage ≡ None) (absent_silent m.call.task) refl refl (λ _. refl) m.call.task m.call.remembered.fill
        begins.root) refl said stands)
    | inr (inr (inr (inr ends))) ↦ inl (aside_said (record m.call { state = Ended (Reply_refused ends.refused) }) ends.call
        (refused_silent m.call.task ends.refused) refl said stands)
  ]
