-- A call in phase `Calling`, with no other caller beside it, comes nearer its end.
use Rattle.std.proofs.Common.{◌≡◌, ◌⊎◌, inl, inr, ⊎_elim, ℕ, ◌+◌, ◌^◌, ◌<◌, ◌≤◌, ◌==◌, Bool, Option, Some, cond, refl, sym, ◌∙◌, subst, arith}
use Rattle.std.proofs.lemmas.Bool.{cond_both}
use Rattle.papaya_call.specs.declared.ask.At.{At}
use Rattle.papaya_call.specs.declared.ask.At.TheVariants as words_at
use Rattle.papaya_call.specs.declared.ask.Ask.{Ask}
use Rattle.papaya_call.specs.declared.ask.Ask.TheVariants as call_asks
use Rattle.papaya_call.specs.declared.ask.Answer.{Answer}
use Rattle.papaya_call.specs.declared.ask.Answer.TheVariants.{Word as Word_read, Exchanged}
use Rattle.papaya_call.specs.declared.ask.Answer.TheVariants.{Found as Found_instead, Yes, Op, Size}
use Rattle.papaya_call.specs.declared.ask.Answer.TheVariants.{Made as Made_number, Ok as Ok_done}
use Rattle.papaya_call.specs.declared.ask.Answer.TheVariants.{Refused as Was_refused}
use Rattle.papaya_call.specs.declared.ask.StepKind.{StepKind}
use Rattle.papaya_call.specs.declared.ask.StepKind.TheVariants as kinds
use Rattle.papaya_call.specs.declared.call.Task.{Task}
use Rattle.papaya_call.specs.declared.call.Task.TheVariants.{Get, Insert, RemoveIf, Compute}
use Rattle.papaya_call.specs.declared.machine.Machine.{Machine as Call_machine}
use Rattle.papaya_call.specs.declared.machine.State.{State as Stage}
use Rattle.papaya_call.specs.declared.machine.State.TheVariants.{Opening, Leaving, Growing}
use Rattle.papaya_call.specs.Machine as call_machine
use Rattle.papaya_call.specs.Machine.{asks, kind_asked, needed}
use Rattle.papaya_call.specs.declared.chain.machine.Machine.{Machine}
use Rattle.papaya_call.specs.declared.chain.machine.Phase.TheVariants.{Calling}
use Rattle.papaya_call.specs.ChainMachine.{called, leaves, onward, stepped}
use Rattle.papaya_call.proofs.Settings.{settings_stable}
use Rattle.papaya_call_law.specs.ChainRelies.{left_by}
use Rattle.papaya_call_law.specs.Alone.{IsBare, IsNumberRead, IsPrompt, IsPut, IsRead}
use Rattle.papaya_call_law.proofs.AloneCurrent.{machine_stable}
use Rattle.papaya_call_law.proofs.AloneSteps.{exchange_done}
use Rattle.papaya_call_alone.specs.Ahead.{IsAheadIn, IsCallRead}
use Rattle.papaya_call_alone.specs.Budget.{Budget, IsSpent, SpendsCall, SpendsExchange}
use Rattle.papaya_call_alone.specs.Current.{IsIncremental}
use Rattle.papaya_call_alone.specs.Measure.{further}
use Rattle.papaya_call_alone.specs.Rank.{rank, rank_in, rank_of}
use Rattle.papaya_call_alone.proofs.CallRanks.{Ends, IsNumberAsked, IsOpening, call_ends, still_ahead}
use Rattle.papaya_call_alone.proofs.Onwards.{ahead_least, goes_on_lowers, grows_lowers}

module _ (before later : Budget) where
  -- an exchange spends one, or none
  exchange_spent : (kind : Option StepKind) → SpendsExchange kind before later → IsSpent before later ⊎ (later ≡ before)
  exchange_spent (Some kinds.Replace) h = inr h
  exchange_spent (Some kinds.Take) h = inr h
  exchange_spent kind h = inl (inr h)

  -- an answer of a call spends, or leaves the budget
  call_spent : (kind : Option StepKind) (ask : Ask) (answer : Answer) → SpendsCall kind ask answer before later → IsSpent before later ⊎ (later ≡ before)
  call_spent kind (call_asks.MakeTable slots limit chunks) (Made_number n) h = inl (inl h)
  call_spent kind (call_asks.Exchange at old new) Exchanged h = exchange_spent kind h
  call_spent kind ask answer h = inr h

module _ (words words' : At → ℕ) (bare : IsBare words) (before later : Budget) (start : ℕ) (helped : Bool) (call : Call_machine)
    (known : IsNumberRead words call.made.number) where
  -- the machine in a stage of its call
  abbrev in_stage : Stage → Machine
  in_stage stage = record { call = record call { state = stage }; number = start; helped = helped; phase = Calling }

  -- the budget is spent, or less is left; and the words that were read are unchanged
  abbrev pub Lowered : Stage → Machine → Type 0
  Lowered stage m' = (IsSpent before later ⊎ ((later ≡ before) × (rank_of (words' words_at.Root) m' < rank_in call.made stage))) × IsCallRead words' m'

  -- a first table is opened by an exchange
  opens : (stage : Stage) (told : Answer) → IsOpening stage → IsRead words stage
      → IsPrompt call.task words (asks call.made call.hash stage) told words'
      → SpendsCall (kind_asked call.made stage) (asks call.made call.hash stage) told before later → IsSpent before later
  opens (Opening t) told is read prompt spends =
      let done : (told ≡ Exchanged) × IsPut words words_at.Root t words' = exchange_done _ _ (words words_at.Root) 0 read prompt in
      inr (subst (λ y. SpendsCall (Some kinds.Open) (call_asks.Exchange words_at.Root 0 t) y before later) done.0 spends)
  opens stage told is read prompt spends = absurd is

  module _ (stage : Stage) (read : IsRead words stage) (ahead : IsAheadIn call.mode words stage)
      (number : IsNumberAsked words (asks call.made call.hash stage)) (told : Answer)
      (prompt : IsPrompt call.task words (asks call.made call.hash stage) told words')
      (spends : SpendsCall (kind_asked call.made stage) (asks call.made call.hash stage) told before later) where
    -- the call continues in phase `Calling`
    steps_on : Lowered stage (stepped (in_stage stage) told)
    steps_on =
        let m : Call_machine = record call { state = stage } in
        let ends : Ends words words' m call.made stage told = call_ends words words' m told known read ahead number prompt in (
          ⊎_elim
              (λ (spent : IsSpent before later). inl spent)
              (λ (kept : later ≡ before).
              ⊎_elim
              (λ (opening : IsOpening stage). inl (opens stage told opening read prompt spends))
              (λ (less : rank_in (call_machine.after m told).made (call_machine.after m told).state < rank_in call.made stage). inr (kept, less))
              ends.0)
              (call_spent before later (kind_asked call.made stage) (asks call.made call.hash stage) told spends),
          (
            (machine_stable words words' m bare told known read prompt).read,
            subst (λ how. IsAheadIn how words' (call_machine.after m told).state)
                (sym (settings_stable m told).0) ends.1,
          ),
        )

    -- the number of the next table
    next_number : (t word : ℕ) → word ≡ words (words_at.Next t) → (words (words_at.Next t) ≡ 0)
        ⊎ ((t < words (words_at.Next t)) × (words (words_at.Next t) ≤ 2 ^ 32)) → (word ≡ 0) ⊎ ((t < word) × (word ≤ 2 ^ 32))
    next_number t word is h = subst (λ n. (n ≡ 0) ⊎ ((t < n) × (n ≤ 2 ^ 32))) (sym is) h

    -- there is no next table, or the call continues in it
    either : IsIncremental call.mode → (t : ℕ) → left_by stage ≡ Some t → words' words_at.Root ≤ t
        → rank 2 (further t) (2 ^ 68 + 3) ≤ rank_in call.made stage → later ≡ before → (word : ℕ) → (word ≡ 0) ⊎ ((t < word) × (word ≤ 2 ^ 32))
        → Lowered stage (stepped (in_stage stage) (Word_read word))
        → Lowered stage (cond (word == 0) (stepped (in_stage stage) (Word_read word)) (onward (in_stage stage) word))
    either inc t left least most kept word up inner =
        cond_both (word == 0) (stepped (in_stage stage) (Word_read word)) (onward (in_stage stage) word) (Lowered stage)
        (λ none. inner)
        (λ some.
        let f = goes_on_lowers words' (in_stage stage) inc word t least (λ u e. let same : u ≡ t = cc (left, e) in omega (arith, same, least)) some up in
        let l = f.0 in
        (inr (kept, omega (arith, l, most)), f.1))

    -- a call that looks for its key leaves its table
    leaves_on : (task : Task) → IsIncremental call.mode → (t : ℕ) → left_by stage ≡ Some t → words' words_at.Root ≤ t
        → rank 2 (further t) (2 ^ 68 + 3) ≤ rank_in call.made stage → later ≡ before → (word : ℕ) → (word ≡ 0) ⊎ ((t < word) × (word ≤ 2 ^ 32))
        → Lowered stage (stepped (in_stage stage) (Word_read word)) → Lowered stage (leaves (in_stage stage) task word)
    leaves_on Get inc t left least most kept word up inner = inner
    leaves_on (Insert replace) inc t left least most kept word up inner = either inc t left least most kept word up inner
    leaves_on RemoveIf inc t left least most kept word up inner = either inc t left least most kept word up inner
    leaves_on Compute inc t left least most kept word up inner = either inc t left least most kept word up inner

  -- in each stage
  called_lowers : (stage : Stage) → IsRead words stage → IsAheadIn call.mode words stage → IsNumberAsked words (asks call.made call.hash stage)
      → (told : Answer) → IsPrompt call.task words (asks call.made call.hash stage) told words'
      → SpendsCall (kind_asked call.made stage) (asks call.made call.hash stage) told before later → Lowered stage (called (in_stage stage) told)
  called_lowers stage read ahead number Exchanged prompt spends = steps_on stage read ahead number Exchanged prompt spends
  called_lowers stage read ahead number (Found_instead word) prompt spends = steps_on stage read ahead number (Found_instead word) prompt spends
  called_lowers stage read ahead number (Yes same) prompt spends = steps_on stage read ahead number (Yes same) prompt spends
  called_lowers stage read ahead number (Op kind) prompt spends = steps_on stage read ahead number (Op kind) prompt spends
  called_lowers stage read ahead number (Size slots limit) prompt spends = steps_on stage read ahead number (Size slots limit) prompt spends
  called_lowers stage read ahead number (Made_number n) prompt spends = steps_on stage read ahead number (Made_number n) prompt spends
  called_lowers stage read ahead number Ok_done prompt spends = steps_on stage read ahead number Ok_done prompt spends
  called_lowers stage read ahead number (Was_refused refused) prompt spends = steps_on stage read ahead number (Was_refused refused) prompt spends
  called_lowers (Leaving t) read ahead number (Word_read word) prompt spends =
      let is : word ≡ words (words_at.Next t) = cc prompt.0 in
      let least = ahead_least words' call.mode t (still_ahead words words' call call.mode t (prompt.1 words_at.Root) ahead.1) in
      leaves_on (Leaving t) read ahead number (Word_read word) prompt spends call.task ahead.0 t refl least (omega arith) spends word
      (next_number (Leaving t) read ahead number (Word_read word) prompt spends t word is number)
      (steps_on (Leaving t) read ahead number (Word_read word) prompt spends)
  called_lowers (Growing need) read ahead number (Word_read word) prompt spends =
      let is : word ≡ words (words_at.Next (needed need)) = cc prompt.0 in
      let f = grows_lowers words' (in_stage (Growing need)) call.mode refl need word refl
      (still_ahead words words' call call.mode (needed need) (prompt.1 words_at.Root) ahead) (prompt.1 (words_at.Next (needed need)) ∙ sym is)
      (next_number (Growing need) read ahead number (Word_read word) prompt spends (needed need) word is number) in
      (inr (spends, f.0), f.1)
  called_lowers stage read ahead number (Word_read word) prompt spends = steps_on stage read ahead number (Word_read word) prompt spends

  -- for the whole call
  pub call_lowers : IsRead words call.state → IsAheadIn call.mode words call.state → IsNumberAsked words (asks call.made call.hash call.state)
      → (told : Answer) → IsPrompt call.task words (asks call.made call.hash call.state) told words'
      → SpendsCall (kind_asked call.made call.state) (asks call.made call.hash call.state) told before later
      → Lowered call.state (called (in_stage call.state) told)
  call_lowers read ahead number told prompt spends = called_lowers call.state read ahead number told prompt spends
