-- A machine keeps the initial capacity that it was made for.
use Rattle.std.proofs.Common.{◌≡◌, ℕ, ◌==◌, Bool, true, false, refl}
use Rattle.std.proofs.lemmas.Bool.{cond_both}
use Rattle.papaya_words.specs.declared.resize_mode.ResizeMode.{ResizeMode}
use Rattle.papaya_words.specs.declared.resize_mode.ResizeMode.TheVariants.{Incremental, Blocking}
use Rattle.papaya_call.specs.declared.ask.Answer.{Answer as Call_answer}
use Rattle.papaya_call.specs.declared.ask.Answer.TheVariants.{Word as Word_read}
use Rattle.papaya_call.specs.declared.call.Task.{Task}
use Rattle.papaya_call.specs.declared.call.Task.TheVariants as tasks
use Rattle.papaya_call.specs.declared.machine.State.{State}
use Rattle.papaya_call.specs.declared.machine.State.TheVariants.{AtRoot, Leaving, Growing}
use Rattle.papaya_call.specs.declared.need.Need.{Need}
use Rattle.papaya_call.specs.declared.copy.copying.Aim.{Aim}
use Rattle.papaya_call.specs.declared.copy.copying.Aim.TheVariants as aims
use Rattle.papaya_call.specs.declared.copy.copying.Copied.{Copied}
use Rattle.papaya_call.specs.declared.copy.copying.Copied.TheVariants as copied
use Rattle.papaya_call.specs.declared.copy.link.Linked.{Linked}
use Rattle.papaya_call.specs.declared.copy.link.Linked.TheVariants as linked
use Rattle.papaya_call.specs.Machine.{needed}
use Rattle.papaya_call.specs.declared.copy.link.Link.TheVariants as links
use Rattle.papaya_call.specs.declared.chain.ask.Answer.{Answer}
use Rattle.papaya_call.specs.declared.chain.ask.Answer.TheVariants as answers
use Rattle.papaya_call.specs.declared.chain.machine.Machine.{Machine}
use Rattle.papaya_call.specs.declared.chain.machine.Phase.{Phase}
use Rattle.papaya_call.specs.declared.chain.machine.Phase.TheVariants.{Calling, Linking, Copying as Copying_root}
use Rattle.papaya_call.specs.ChainMachine as machine
use Rattle.papaya_call.specs.ChainMachine.{after, after_in, answered, called, copying_after, goes_on, grows_as, leaves, link_after, onward, stepped, told_next}
use Rattle.papaya_call.proofs.Settings.{settings_stable}

module _ (m : Machine) where
  -- the same initial capacity
  abbrev Alike : Machine → Type 0
  Alike m' = m'.call.initial ≡ m.call.initial

  stepped_initial : (told : Call_answer) → Alike (stepped m told)
  stepped_initial told = (settings_stable m.call told).1

  goes_initial : (helped : Bool) (aim : Aim) (next : ℕ) → Alike (goes_on m helped aim next)
  goes_initial false aim next = refl
  goes_initial true (aims.Settle slot) next = refl
  goes_initial true aim next = refl

  onward_initial : (next : ℕ) → Alike (onward m next)
  onward_initial next = goes_initial m.helped (machine.aim_for m.call.state next) next

  grows_initial : (mode : ResizeMode) (need : Need) (next : ℕ) → Alike (grows_as m mode need next)
  grows_initial Blocking need next = refl
  grows_initial (Incremental chunk) need next = cond_both (next == 0) (record m { phase = Linking (links.Sizing (needed need) (needed need) false) })
      (onward m next) Alike (λ _. refl) (λ _. onward_initial next)

  leaves_initial : (task : Task) (next : ℕ) → Alike (leaves m task next)
  leaves_initial tasks.Get next = stepped_initial (Word_read next)
  leaves_initial task next = cond_both (next == 0) (stepped m (Word_read next)) (onward m next) Alike (λ _. stepped_initial (Word_read next))
      (λ _. onward_initial next)

  next_initial : (state : State) (next : ℕ) → Alike (told_next m state next)
  next_initial (Leaving t) next = leaves_initial m.call.task next
  next_initial (Growing need) next = grows_initial m.call.mode need next
  next_initial state next = stepped_initial (Word_read next)

  called_initial : (told : Call_answer) → Alike (called m told)
  called_initial (Word_read word) = next_initial m.call.state word
  called_initial told = stepped_initial told

  answered_initial : (answer : Answer) → Alike (answered m answer)
  answered_initial (answers.Call told) = called_initial told
  answered_initial (answers.Hash hash) = refl
  answered_initial (answers.Count count) = refl

  linked_initial : (end : Linked) → Alike (machine.after_linked m end)
  linked_initial (linked.On link) = refl
  linked_initial (linked.Table table) = onward_initial table
  linked_initial (linked.Refused refused) = refl

  copied_initial : (end : Copied) → Alike (machine.after_copied m end)
  copied_initial (copied.On copying) = refl
  copied_initial (copied.Search table) = refl
  copied_initial (copied.Root root) = (settings_stable (record m.call { state = AtRoot }) (Word_read root)).1
  copied_initial copied.Chunk = refl
  copied_initial (copied.Refused refused) = refl

  phase_initial : (answer : Answer) (phase : Phase) → Alike (after_in m answer phase)
  phase_initial answer Calling = answered_initial answer
  phase_initial answer (Linking link) = linked_initial (link_after link m.call.mode m.call.initial answer)
  phase_initial answer (Copying_root copying) = copied_initial (copying_after copying m.call.mode m.call.initial m.number answer)

  pub chain_initial : (answer : Answer) → Alike (after m answer)
  chain_initial answer = phase_initial answer m.phase
