-- The causes with which a call may fail by its own answer: its driver's answer states one, or no
-- number was left for a pair, or its closure would remove a pair although there is none.
use Rattle.std.proofs.Common.{◌≡◌, ◌⊎◌, inl, inr, ⊎_elim, ℕ, Option, List, refl, sym, ap, ◌∙◌, subst}
use Rattle.papaya_words.specs.declared.refused.Refused.{Refused as Cause}
use Rattle.papaya_words.specs.declared.refused.Refused.TheVariants.{Capacity, Limit, RemoveNothing}
use Rattle.papaya_call.specs.declared.ask.Answer.{Answer}
use Rattle.papaya_call.specs.declared.ask.Answer.TheVariants.{Word as Word_read, Exchanged}
use Rattle.papaya_call.specs.declared.ask.Answer.TheVariants.{Found as Found_instead, Yes, Op, Size}
use Rattle.papaya_call.specs.declared.ask.Answer.TheVariants.{Made as Made_number, Ok as Ok_done}
use Rattle.papaya_call.specs.declared.ask.Answer.TheVariants.{Refused as Was_refused}
use Rattle.papaya_call.specs.declared.ask.Ask.{Ask}
use Rattle.papaya_call.specs.declared.ask.Ask.TheVariants.{Load, Exchange, Done, ShowNone}
use Rattle.papaya_call.specs.declared.ask.At.TheVariants.{Made as Made_word}
use Rattle.papaya_call.specs.declared.ask.OpKind.TheVariants.{Remove}
use Rattle.papaya_call.specs.declared.ask.StepKind.{StepKind}
use Rattle.papaya_call.specs.declared.call.Task.{Task}
use Rattle.papaya_call.specs.declared.call.Reply.{Reply}
use Rattle.papaya_call.specs.declared.call.Reply.TheVariants.{Refused}
use Rattle.papaya_call.specs.declared.machine.Machine.{Machine as Call_machine}
use Rattle.papaya_call.specs.declared.machine.State.TheVariants.{Growing}
use Rattle.papaya_call.specs.declared.need.Need.{Need}
use Rattle.papaya_call.specs.declared.made.Made.{Made}
use Rattle.papaya_call.specs.Machine as calls
use Rattle.papaya_call.specs.Machine.{IsComputer, MayInsert}
use Rattle.papaya_call.specs.declared.chain.ask.Answer.TheVariants as answers
use Rattle.papaya_call.specs.declared.chain.ask.Ask.TheVariants.{Call}
use Rattle.papaya_call.specs.declared.chain.machine.Machine.{Machine}
use Rattle.papaya_call.specs.declared.chain.machine.Phase.TheVariants.{Calling}
use Rattle.papaya_call.specs.ChainMachine.{IsValid, after, ask_of}
use Rattle.papaya_call_law.proofs.Names.{call_asks}
use Rattle.papaya_call_law.specs.Followed.{MayAsk}
use Rattle.papaya_call_law.specs.Relies.{IsAtLimit, IsNumberAsk}
use Rattle.papaya_call_law.proofs.Followed.{asked_of_task}
use Rattle.papaya_call_law.proofs.ReliesReplyRefused.{machine_reason}
use Rattle.papaya_map_book.specs.declared.rule.own.CapacityCause.{CapacityCause}
use Rattle.papaya_map_book.specs.Limits.{HasNoRoom}
use Rattle.papaya_map_change.specs.Writing.{IsMemoryOrCapacity, IsWithoutResult}
use Rattle.papaya_map_change.proofs.StepsOfOwn.{aside_asks_none, calling_asks, grown_leaves, own_went}

-- only a compute calls its closure with None
pub shows_none : (m : Machine) → IsValid m → ask_of m ≡ Call ShowNone → IsComputer m.call.task
shows_none m valid e = subst (λ (a : Ask). MayAsk m.call.task (calls.kind_of_ask m.call) a) (call_asks m ShowNone e).1 (asked_of_task m.call valid.call)

-- only a call that may insert asks how many numbers for pairs were taken
number_inserts : (task : Task) (kind : Option StepKind) (ask : Ask) → IsNumberAsk ask → MayAsk task kind ask → MayInsert task
number_inserts task kind (Load Made_word) number may = may
number_inserts task kind (Exchange Made_word old new) number may = may.0
number_inserts task kind _ number may = absurd number

pub limit_inserts : (m : Machine) → IsValid m → (answer : Answer) → IsAtLimit m.call answer → MayInsert m.call.task
limit_inserts m valid answer over = number_inserts m.call.task (calls.kind_of_ask m.call) (calls.ask_of m.call) over.4 (asked_of_task m.call valid.call)

-- a call that needs a next table is not ended by another answer than the number of one
grown_stays : (m : Call_machine) (made : Made) (need : Need) (answer : Answer) (reply : Reply)
    → calls.ask_of (calls.after (record m { made = made; state = Growing need }) answer) ≡ Done reply → (word : ℕ) × (answer ≡ Word_read word)
grown_stays m made need (Word_read word) reply e = (word, refl)
grown_stays m made need Exchanged reply e = absurd cc
grown_stays m made need (Found_instead word) reply e = absurd cc
grown_stays m made need (Yes same) reply e = absurd cc
grown_stays m made need (Op kind) reply e = absurd cc
grown_stays m made need (Size slots limit) reply e = absurd cc
grown_stays m made need (Made_number n) reply e = absurd cc
grown_stays m made need Ok_done reply e = absurd cc
grown_stays m made need (Was_refused refused) reply e = absurd cc

module _ (m : Machine) (calling : m.phase ≡ Calling) (answer : Answer) where
  abbrev m' : Machine
  m' = after m (answers.Call answer)

  -- a call that needs a next table is not ended by an answer of its own
  grown_goes : (need : Need) → m.call.state ≡ Growing need → (reply : Reply) → calls.ask_of (calls.after m.call answer) ≡ Done reply
      → ask_of m' ≡ Call (Done reply) → ⊥
  grown_goes need grows reply ended e =
      let word = grown_stays m.call m.call.made need answer reply
      (subst (λ s. calls.ask_of (calls.after (record m.call { state = s }) answer) ≡ Done reply) grows ended) in
      let left = grown_leaves m calling need grows word.0 in
      let e' : ask_of (after m (answers.Call (Word_read word.0))) ≡ Call
      (Done reply) = subst (λ a. ask_of (after m (answers.Call a)) ≡ Call (Done reply)) word.1 e in
      let then : Machine = after m (answers.Call (Word_read word.0)) in
      elim left [
        | inl h ↦ aside_asks_none then.call then.phase h.3 (Done reply) e'
        | inr h ↦ let asks = calling_asks then h.6 ∙ ap (λ (z : Call_machine). Call (calls.ask_of z)) h.5 in let f = sym asks ∙ e' in cc f
      ]

  -- the answer states the cause, or no number is left, or its closure was called with None and
  -- returned `Remove`
  abbrev pub IsOwnEnd : Cause → Type 0
  IsOwnEnd cause = (answer ≡ Was_refused cause) ⊎ ((cause ≡ Limit) × IsAtLimit m.call answer)
      ⊎ ((cause ≡ RemoveNothing) × (ask_of m ≡ Call ShowNone) × (answer ≡ Op Remove))

  pub own_refused : ((reply : Reply) → ask_of m ≡ Call (Done reply) → ⊥) → (cause : Cause) → ask_of m' ≡ Call (Done (Refused cause)) → IsOwnEnd cause
  own_refused open_still cause e = elim (own_went m calling answer) [
    | inl h ↦
        let ended : calls.ask_of (calls.after m.call answer) ≡ Done (Refused cause) = ap (λ (z : Call_machine). calls.ask_of z) (sym h.0)
        ∙ (call_asks m' (Done (Refused cause)) e).1 in
        let open_call : (reply : Reply) → calls.ask_of m.call ≡ Done reply
        → ⊥ = λ reply done. open_still reply (calling_asks m calling ∙ ap (λ a. Call a) done) in
        ⊎_elim (λ made. inl made.0)
        (λ rest. ⊎_elim
        (λ (full : (cause ≡ Capacity) × ((need : Need) × (m.call.state ≡ Growing need))). absurd (grown_goes full.1.0 full.1.1 (Refused cause) ended e))
        (λ others. ⊎_elim (λ over. inr (inl (over.0, over.1)))
        (λ none. inr (inr (none.0, calling_asks m calling ∙ ap (λ s. Call (calls.asks m.call.made m.call.hash s)) none.1.1, none.2))) others) rest)
        (machine_reason m.call cause answer open_call ended)
    | inr (inl h) ↦ absurd (aside_asks_none m'.call m'.phase h.3 (Done (Refused cause)) e)
    | inr (inr h) ↦ let asks = calling_asks m' h.6 ∙ ap (λ (z : Call_machine). Call (calls.ask_of z)) h.5 in let f = sym asks ∙ e in absurd (cc f)
  ]

  -- a property of the answer's cause and of a spent limit holds of the cause with which a call
  -- fails that did not call its closure with None
  pub refused_for : (holds : Cause → Type 0) → (ask_of m ≡ Call ShowNone → ⊥) → ((reply : Reply) → ask_of m ≡ Call (Done reply) → ⊥)
      → ((cause : Cause) → answer ≡ Was_refused cause → holds cause) → (IsAtLimit m.call answer → holds Limit) → (cause : Cause)
      → ask_of m' ≡ Call (Done (Refused cause)) → holds cause
  refused_for holds never open_still told spent cause e =
      ⊎_elim (told cause) (λ others. ⊎_elim (λ over. subst holds (sym over.0) (spent over.1)) (λ none. absurd (never none.1)) others)
      (own_refused open_still cause e)

-- a failure without a closure's result comes from missing memory or room
pub unsaid_cause : (given : List CapacityCause) (answer : Answer) → IsWithoutResult given answer → (cause : Cause) → answer ≡ Was_refused cause
    → IsMemoryOrCapacity cause
unsaid_cause given answer unsaid cause e = ⊎_elim (λ memory. inl memory) (λ full. inr full.0) (unsaid cause e)

-- and an arena is full if room is missing
pub unsaid_room : (initial : ℕ) (tables : List ℕ) (given : List CapacityCause) (answer : Answer) → IsWithoutResult given answer → (cause : Cause)
    → answer ≡ Was_refused cause → cause ≡ Capacity → HasNoRoom initial tables given
unsaid_room initial tables given answer unsaid cause e full = ⊎_elim (λ memory. let f = sym memory ∙ full in absurd (cc f)) (λ h. inl h.1) (unsaid cause e)
