-- The call of a machine over a chain after an answer.
use Rattle.std.proofs.Common.{◌≡◌, ◌⊎◌, inl, inr, ℕ, ◌==◌, Bool, true, false, cond, Some, refl, sym, ap, subst}
use Rattle.std.proofs.lemmas.Bool.{cond_both}
use Rattle.papaya_words.specs.declared.resize_mode.ResizeMode.{ResizeMode}
use Rattle.papaya_words.specs.declared.resize_mode.ResizeMode.TheVariants.{Incremental, Blocking}
use Rattle.papaya_words.specs.declared.refused.Refused.{Refused}
use Rattle.papaya_call.specs.declared.ask.Answer.{Answer as Call_answer}
use Rattle.papaya_call.specs.declared.ask.Answer.TheVariants.{Word as Word_read, Exchanged}
use Rattle.papaya_call.specs.declared.ask.Answer.TheVariants.{Found as Found_instead, Yes, Op, Size}
use Rattle.papaya_call.specs.declared.ask.Answer.TheVariants.{Made as Made_number, Ok as Ok_done}
use Rattle.papaya_call.specs.declared.ask.Answer.TheVariants.{Refused as Was_refused}
use Rattle.papaya_call.specs.declared.call.Task.{Task}
use Rattle.papaya_call.specs.declared.call.Task.TheVariants.{Get, Insert, RemoveIf, Compute}
use Rattle.papaya_call.specs.declared.machine.State.{State as Stage}
use Rattle.papaya_call.specs.declared.machine.State.TheVariants.{Leaving, Growing}
use Rattle.papaya_call.specs.declared.need.Need.{Need}
use Rattle.papaya_call.specs.Machine.{needed}
use Rattle.papaya_call.specs.Machine as call_machine
use Rattle.papaya_call.specs.declared.copy.copying.Aim.{Aim}
use Rattle.papaya_call.specs.declared.copy.copying.Aim.TheVariants as aims
use Rattle.papaya_call.specs.declared.copy.copying.Copied.{Copied}
use Rattle.papaya_call.specs.declared.copy.copying.Copied.TheVariants as copied
use Rattle.papaya_call.specs.declared.copy.link.Link.TheVariants as links
use Rattle.papaya_call.specs.declared.copy.link.Linked.{Linked}
use Rattle.papaya_call.specs.declared.copy.link.Linked.TheVariants as linked
use Rattle.papaya_call.specs.declared.chain.ask.Answer.{Answer}
use Rattle.papaya_call.specs.declared.chain.ask.Answer.TheVariants as answers
use Rattle.papaya_call.specs.declared.chain.machine.Machine.{Machine}
use Rattle.papaya_call.specs.declared.chain.machine.Phase.{Phase}
use Rattle.papaya_call.specs.declared.chain.machine.Phase.TheVariants.{Calling, Linking, Copying as Copying_root}
use Rattle.papaya_call.specs.ChainMachine.{after, after_copied, after_in, after_linked, aim_for}
use Rattle.papaya_call.specs.ChainMachine.{answered, restarted, called, copying_after, enters}
use Rattle.papaya_call.specs.ChainMachine.{goes_on, grows_as, leaves, link_after, onward, refuses}
use Rattle.papaya_call.specs.ChainMachine.{stepped, told_next}
use Rattle.papaya_call_law.specs.Goes.{Goes, IsInOrder}
use Rattle.papaya_call_law.specs.ChainRelies.{left_by}

-- the call is the same as before, one step on, searching another table, started again, or failed
abbrev Leaves : Machine → Answer → Machine → Type 0
Leaves m answer m' = ((t : ℕ) × (left_by m.call.state ≡ Some t) × (m'.call ≡ m.call))
    ⊎ ((told : Call_answer) × (m.phase ≡ Calling) × (answer ≡ answers.Call told) × (m'.call ≡ call_machine.after m.call told) × (m'.phase ≡ Calling))
    ⊎ ((t : ℕ) × (left_by m.call.state ≡ Some t) × ((table : ℕ) × (m'.call ≡ (enters m table).call)))
    ⊎ ((t : ℕ) × (left_by m.call.state ≡ Some t) × ((root : ℕ) × (m'.call ≡ (restarted m root).call)))
    ⊎ ((t : ℕ) × (left_by m.call.state ≡ Some t) × ((refused : Refused) × (m'.call ≡ (refuses m refused).call)))

module _ (m : Machine) (answer : Answer) where
  module _ (t : ℕ) (left : left_by m.call.state ≡ Some t) where
    -- a call that is set aside continues in the next table, or copies first
    goes_leaves : (helped : Bool) (aim : Aim) (n : ℕ) → Leaves m answer (goes_on m helped aim n)
    goes_leaves false aim n = inl (t, left, refl)
    goes_leaves true (aims.Settle slot) n = inl (t, left, refl)
    goes_leaves true (aims.Search table) n = inr (inr (inl (t, left, (n, refl))))
    goes_leaves true aims.Chunk n = inr (inr (inl (t, left, (n, refl))))
    goes_leaves true (aims.All met) n = inr (inr (inl (t, left, (n, refl))))

    onward_leaves : (n : ℕ) → Leaves m answer (onward m n)
    onward_leaves n = goes_leaves m.helped (aim_for m.call.state n) n

    linked_leaves : (end : Linked) → Leaves m answer (after_linked m end)
    linked_leaves (linked.On link) = inl (t, left, refl)
    linked_leaves (linked.Table n) = onward_leaves n
    linked_leaves (linked.Refused refused) = inr (inr (inr (inr (t, left, (refused, refl)))))

    copied_leaves : (end : Copied) → Leaves m answer (after_copied m end)
    copied_leaves (copied.On copying) = inl (t, left, refl)
    copied_leaves (copied.Search n) = inr (inr (inl (t, left, (n, refl))))
    copied_leaves (copied.Root root) = inr (inr (inr (inl (t, left, (root, refl)))))
    copied_leaves copied.Chunk = inl (t, left, refl)
    copied_leaves (copied.Refused refused) = inr (inr (inr (inr (t, left, (refused, refl)))))

  module _ (phase : m.phase ≡ Calling) (told : Call_answer) (is : answer ≡ answers.Call told) where
    -- the call continues in phase `Calling`
    steps_leaves : Leaves m answer (stepped m told)
    steps_leaves = inr (inl (told, phase, is, refl, phase))

  module _ (phase : m.phase ≡ Calling) (word : ℕ) (is : answer ≡ answers.Call (Word_read word)) where
    -- there is no next table, or there is one
    either_leaves : (t : ℕ) → left_by m.call.state ≡ Some t → Leaves m answer (cond (word == 0) (stepped m (Word_read word)) (onward m word))
    either_leaves t left = cond_both (word == 0) (stepped m (Word_read word)) (onward m word) (Leaves m answer)
        (λ _. steps_leaves phase (Word_read word) is) (λ _. onward_leaves t left word)

    leaves_leaves : (task : Task) (t : ℕ) → left_by m.call.state ≡ Some t → Leaves m answer (leaves m task word)
    leaves_leaves Get t left = steps_leaves phase (Word_read word) is
    leaves_leaves (Insert replace) t left = either_leaves t left
    leaves_leaves RemoveIf t left = either_leaves t left
    leaves_leaves Compute t left = either_leaves t left

    grows_leaves : (mode : ResizeMode) (need : Need) → left_by m.call.state ≡ Some (needed need) → Leaves m answer (grows_as m mode need word)
    grows_leaves Blocking need left = inl (needed need, left, refl)
    grows_leaves (Incremental chunk) need left =
        cond_both (word == 0) (record m { phase = Linking (links.Sizing (needed need) (needed need) false) }) (onward m word) (Leaves m answer)
        (λ _. inl (needed need, left, refl)) (λ _. onward_leaves (needed need) left word)

    next_leaves : (stage : Stage) → m.call.state ≡ stage → Leaves m answer (told_next m stage word)
    next_leaves (Leaving t) e = leaves_leaves m.call.task t (ap left_by e)
    next_leaves (Growing need) e = grows_leaves m.call.mode need (ap left_by e)
    next_leaves stage e = steps_leaves phase (Word_read word) is

  -- the call received an answer
  called_leaves : m.phase ≡ Calling → (told : Call_answer) → answer ≡ answers.Call told → Leaves m answer (called m told)
  called_leaves phase (Word_read word) is = next_leaves phase word is m.call.state refl
  called_leaves phase Exchanged is = steps_leaves phase Exchanged is
  called_leaves phase (Found_instead word) is = steps_leaves phase (Found_instead word) is
  called_leaves phase (Yes same) is = steps_leaves phase (Yes same) is
  called_leaves phase (Op kind) is = steps_leaves phase (Op kind) is
  called_leaves phase (Size slots limit) is = steps_leaves phase (Size slots limit) is
  called_leaves phase (Made_number n) is = steps_leaves phase (Made_number n) is
  called_leaves phase Ok_done is = steps_leaves phase Ok_done is
  called_leaves phase (Was_refused refused) is = steps_leaves phase (Was_refused refused) is

  own_leaves : m.phase ≡ Calling → (told : Call_answer) → answer ≡ answers.Call told → Leaves m answer (answered m answer)
  own_leaves phase told is = subst (λ a. Leaves m answer (answered m a)) (sym is) (called_leaves phase told is)

  -- in each phase
  phase_leaves : (phase : Phase) → m.phase ≡ phase → IsInOrder m answer phase → Leaves m answer (after_in m answer phase)
  phase_leaves Calling e aside = own_leaves e aside.0 aside.1
  phase_leaves (Linking link) e aside = linked_leaves aside.0 aside.1 (link_after link m.call.mode m.call.initial answer)
  phase_leaves (Copying_root copying) e aside = copied_leaves aside.0 aside.1 (copying_after copying m.call.mode m.call.initial m.number answer)

  -- for the whole machine
  pub machine_goes : IsInOrder m answer m.phase → Goes m answer
  machine_goes aside = named (phase_leaves m.phase refl aside)
    where
      named : Leaves m answer (after m answer) → Goes m answer
      named (inl (t, left, call)) = inl (record { from = t; left = left; call = call })
      named (inr (inl (told, phase, is, call, on))) = inr (inl (record { told = told; phase = phase; is = is; call = call; goes_on = on }))
      named (inr (inr (inl (t, left, (table, call))))) = inr (inr (inl (record { from = t; left = left; table = table; call = call })))
      named (inr (inr (inr (inl (t, left, (root, call)))))) = inr (inr (inr (inl (record { from = t; left = left; root = root; call = call }))))
      named (inr (inr (inr (inr (t, left, (refused, call)))))) = inr (inr (inr (inr (record { from = t; left = left; refused = refused; call = call }))))
