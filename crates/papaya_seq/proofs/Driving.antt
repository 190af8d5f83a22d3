-- A call that is never set aside: its machine over a chain passes through the states of the call
-- itself.
use Rattle.std.proofs.Common.{◌≡◌, ℕ, ◌==◌, ◌⊎◌, false, cond, Option, inl, inr, refl, ◌∙◌, ap}
use Rattle.papaya_call.specs.declared.ask.Ask.{Ask}
use Rattle.papaya_call.specs.declared.ask.Answer.{Answer}
use Rattle.papaya_call.specs.declared.ask.Answer.TheVariants.{Word as Word_read}
use Rattle.papaya_call.specs.declared.call.Reply.{Reply}
use Rattle.papaya_call.specs.declared.call.Task.{Task}
use Rattle.papaya_call.specs.declared.call.Task.TheVariants.{Get, Insert, RemoveIf, Compute}
use Rattle.papaya_call.specs.declared.machine.Machine.{Machine as Call_machine}
use Rattle.papaya_call.specs.declared.machine.State.{State}
use Rattle.papaya_call.specs.declared.machine.State.TheVariants.{AtRoot, Making, Opening, Searching}
use Rattle.papaya_call.specs.declared.machine.State.TheVariants.{Writing, Offering, Showing}
use Rattle.papaya_call.specs.declared.machine.State.TheVariants.{Pairing, Putting, Burying}
use Rattle.papaya_call.specs.declared.machine.State.TheVariants.{Counting, Noting, Uncounting}
use Rattle.papaya_call.specs.declared.machine.State.TheVariants.{Leaving, Growing, Ended}
use Rattle.papaya_call.specs.declared.need.Need.{Need}
use Rattle.papaya_call.specs.Machine.{after}
use Rattle.papaya_call.specs.declared.chain.ask.Ask.TheVariants as chain_asks
use Rattle.papaya_call.specs.declared.chain.ask.Answer.TheVariants as answers
use Rattle.papaya_call.specs.declared.chain.machine.Machine.{Machine}
use Rattle.papaya_call.specs.declared.chain.machine.Phase.TheVariants.{Calling}
use Rattle.papaya_call.specs.ChainMachine as chain
use Rattle.papaya_core_timeline.specs.Advances as advances

-- the machine of a call that continues for itself, with this number
abbrev pub calling_by : ℕ → Call_machine → Machine
calling_by n m = record { call = m; number = n; helped = false; phase = Calling }

-- and with number 0
abbrev pub calling : Call_machine → Machine
calling m = calling_by 0 m

-- the reply in an ask of a call
abbrev pub reply_in : Ask → Option Reply
reply_in ask = advances.reply_in (chain_asks.Call ask)

-- a call that leaves a table with no next one
last_left : (n : ℕ) (m : Call_machine) (task : Task) (word : ℕ) → word ≡ 0
    → chain.leaves (calling_by n m) task word ≡ chain.stepped (calling_by n m) (Word_read word)
last_left n m Get word none = refl
last_left n m (Insert replace) word none = ap (λ b. cond b (chain.stepped (calling_by n m) (Word_read word)) (chain.onward (calling_by n m) word))
    (ap (λ x. x == 0) none)
last_left n m RemoveIf word none = ap (λ b. cond b (chain.stepped (calling_by n m) (Word_read word)) (chain.onward (calling_by n m) word))
    (ap (λ x. x == 0) none)
last_left n m Compute word none = ap (λ b. cond b (chain.stepped (calling_by n m) (Word_read word)) (chain.onward (calling_by n m) word))
    (ap (λ x. x == 0) none)

-- a call that needs no next table, and is given none, continues for itself
pub goes_itself : (n : ℕ) (m : Call_machine) (answer : Answer) → ((need : Need) → m.state ≡ Growing need → ⊥)
    → ((t : ℕ) → m.state ≡ Leaving t → (m.task ≡ Get) ⊎ (answer ≡ Word_read 0))
    → chain.after (calling_by n m) (answers.Call answer) ≡ calling_by n (after m answer)
goes_itself n m (Word_read word) grows leaves = by_state m.state refl
  where
    left_so : (task : Task) → m.task ≡ task → (task ≡ Get) ⊎ (Word_read word ≡ Word_read 0)
        → chain.leaves (calling_by n m) task word ≡ chain.stepped (calling_by n m) (Word_read word)
    left_so task is (inl get) = ap (λ t. chain.leaves (calling_by n m) t word) get
    left_so task is (inr e) = last_left n m task word cc

    by_state : (state : State) → m.state ≡ state → chain.told_next (calling_by n m) m.state word ≡ calling_by n (after m (Word_read word))
    by_state (Growing need) e = absurd (grows need e)
    by_state (Leaving t) e = ap (λ s. chain.told_next (calling_by n m) s word) e ∙ left_so m.task refl (leaves t e)
    by_state AtRoot e = ap (λ s. chain.told_next (calling_by n m) s word) e
    by_state Making e = ap (λ s. chain.told_next (calling_by n m) s word) e
    by_state (Opening t) e = ap (λ s. chain.told_next (calling_by n m) s word) e
    by_state (Searching search) e = ap (λ s. chain.told_next (calling_by n m) s word) e
    by_state (Writing write) e = ap (λ s. chain.told_next (calling_by n m) s word) e
    by_state (Offering gap) e = ap (λ s. chain.told_next (calling_by n m) s word) e
    by_state (Showing removal) e = ap (λ s. chain.told_next (calling_by n m) s word) e
    by_state (Pairing purpose) e = ap (λ s. chain.told_next (calling_by n m) s word) e
    by_state (Putting given) e = ap (λ s. chain.told_next (calling_by n m) s word) e
    by_state (Burying removal) e = ap (λ s. chain.told_next (calling_by n m) s word) e
    by_state (Counting claimed) e = ap (λ s. chain.told_next (calling_by n m) s word) e
    by_state (Noting claimed) e = ap (λ s. chain.told_next (calling_by n m) s word) e
    by_state (Uncounting gone) e = ap (λ s. chain.told_next (calling_by n m) s word) e
    by_state (Ended reply) e = ap (λ s. chain.told_next (calling_by n m) s word) e
goes_itself n m answer grows leaves = refl
