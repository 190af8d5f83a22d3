-- A call over a chain of tables, with no other caller beside it, comes to an end.
use Rattle.std.proofs.Common.{◌≡◌, ◌⊎◌, inl, inr, ℕ, ◌^◌, ◌<◌, Option, Some, List, ◌++◌, append_assoc, refl, sym, ap, ◌∙◌, subst, arith}
use Rattle.papaya_call.specs.declared.ask.Ask.{Ask as Call_ask}
use Rattle.papaya_call.specs.declared.ask.Ask.TheVariants as call_asks
use Rattle.papaya_call.specs.declared.ask.Answer.{Answer as Call_answer}
use Rattle.papaya_call.specs.declared.ask.Answer.TheVariants.{Word as Word_read, Exchanged, Made as Made_number}
use Rattle.papaya_call.specs.declared.ask.At.{At}
use Rattle.papaya_call.specs.declared.ask.At.TheVariants as words_at
use Rattle.papaya_call.specs.declared.call.Reply.TheVariants.{Refused as Reply_refused}
use Rattle.papaya_call.specs.declared.search.Search.TheVariants.{Sizing}
use Rattle.papaya_call.specs.declared.ask.StepKind.{StepKind}
use Rattle.papaya_call.specs.declared.ask.StepKind.TheVariants.{Replace, Take}
use Rattle.papaya_call.specs.declared.copy_ask.CopyAsk.{CopyAsk}
use Rattle.papaya_call.specs.declared.copy_ask.CopyAsk.TheVariants as copy_asks
use Rattle.papaya_call.specs.declared.machine.Machine.{Machine as Call_machine}
use Rattle.papaya_call.specs.declared.machine.State.TheVariants.{AtRoot as At_root, Searching, Ended}
use Rattle.papaya_call.specs.declared.made.Made.{Made}
use Rattle.papaya_call.specs.declared.made.Number.{Number}
use Rattle.papaya_call.specs.declared.made.Number.TheVariants.{Wanted, Free, Taken}
use Rattle.papaya_call.specs.Machine as call_machine
use Rattle.papaya_call.specs.declared.chain.ask.Ask.{Ask}
use Rattle.papaya_call.specs.declared.chain.ask.Ask.TheVariants as asks
use Rattle.papaya_call.specs.declared.chain.ask.Answer.TheVariants as answers
use Rattle.papaya_call.specs.declared.chain.ask.Answer.{Answer}
use Rattle.papaya_call.specs.declared.chain.machine.Machine.{Machine}
use Rattle.papaya_call.specs.ChainMachine.{IsValid, after, ask_of, asks_in, follows_of, kind_of_ask}
use Rattle.papaya_words_law.specs.Allows.{AllAllowed}
use Rattle.papaya_words_law.specs.Code.{Coding, IsHashed}
use Rattle.papaya_words_law.specs.Exchange.{Setting, Exchange, run, start}
use Rattle.papaya_words_law.proofs.Moments.{run-append}
use Rattle.papaya_call_law.proofs.AloneCurrent.{machine_stable}
use Rattle.papaya_call_law.specs.Alone.{IsNumberRead}
use Rattle.papaya_call_law.specs.TrueAnswers.{word_of}
use Rattle.papaya_call_law.specs.Copier.{HasWords}
use Rattle.papaya_call_law.proofs.Goes.{machine_goes}
use Rattle.papaya_call_law.proofs.Order.{in_order}
use Rattle.papaya_call_law.proofs.Replies.{own_told}
use Rattle.papaya_call_law.specs.Goes.{IsInOrder, IsOwnStep, link_in}
use Rattle.papaya_call_law.specs.ChainRelies.{Relies, left_by}
use Rattle.papaya_call_law.specs.ChainAnswers.{IsTrueOf, LoadedPairs}
use Rattle.papaya_call_alone.specs.Ahead.{IsCallRead, IsCurrent, IsPhaseRead}
use Rattle.papaya_call_alone.specs.Budget.{Budget, IsSpent, Spends, SpendsCall, SpendsCopy, SpendsExchange}
use Rattle.papaya_call_alone.specs.Prompt.{IsBounded, IsServedAsk}
use Rattle.papaya_call_alone.specs.Rank.{measure, rank_of}
use Rattle.papaya_call_alone.proofs.CallPrompts.{call_prompt}
use Rattle.papaya_call_alone.proofs.CopyPrompts.{words_bare}
use Rattle.papaya_call_alone.proofs.MachineLaw.{aside_counts, phase_falls}
use Rattle.papaya_call_alone.proofs.Measures.{measure_less, rank_small}

-- the budgets from which the answers spend
abbrev a_table : Budget
a_table = record { tables = 1; exchanges = 0 }

abbrev an_exchange : Budget
an_exchange = record { tables = 0; exchanges = 1 }

abbrev nothing_left : Budget
nothing_left = record { tables = 0; exchanges = 0 }

some_exchange : (kind : Option StepKind) → (before : Budget) × (later : Budget) × SpendsExchange kind before later
some_exchange (Some Replace) = (nothing_left, nothing_left, refl)
some_exchange (Some Take) = (nothing_left, nothing_left, refl)
some_exchange kind = (an_exchange, nothing_left, (refl, omega arith))

some_call : (kind : Option StepKind) (ask : Call_ask) (answer : Call_answer) → (before : Budget) × (later : Budget) × SpendsCall kind ask answer before later
some_call kind (call_asks.MakeTable slots limit chunks) (Made_number n) = (a_table, nothing_left, omega arith)
some_call kind (call_asks.Exchange at old new) Exchanged = some_exchange kind
some_call kind ask answer = (nothing_left, nothing_left, refl)

some_copy : (ask : CopyAsk) (answer : Answer) → (before : Budget) × (later : Budget) × SpendsCopy ask answer before later
some_copy (copy_asks.MakeTable slots limit chunks) (answers.Call (Made_number n)) = (a_table, nothing_left, omega arith)
some_copy (copy_asks.Exchange at old new) (answers.Call Exchanged) = (an_exchange, nothing_left, (refl, omega arith))
some_copy ask answer = (nothing_left, nothing_left, refl)

-- each answer spends from some budget
pub some_budget : (kind : Option StepKind) (ask : Ask) (answer : Answer) → (before : Budget) × (later : Budget) × Spends kind ask answer before later
some_budget kind (asks.Call ask) (answers.Call told) = some_call kind ask told
some_budget kind (asks.Call ask) (answers.Hash hash) = (nothing_left, nothing_left, refl)
some_budget kind (asks.Call ask) (answers.Count count) = (nothing_left, nothing_left, refl)
some_budget kind (asks.Copy ask) answer = some_copy ask answer

module _ {K P : Type 0} (g : Setting K P) (c : Coding K P) (hashed : IsHashed g c) (begun since : List (Exchange P))
    (may : AllAllowed g start (begun ++ since)) (bounded : IsBounded g (run (begun ++ since) start)) (k : K) (m : Machine) (loaded : LoadedPairs P)
    (r : Relies g c begun since k m loaded) (made : HasWords g (link_in m.phase)) (current : IsCurrent (word_of g c (run (begun ++ since) start)) m)
    (answer : Answer) (es : List (Exchange P)) (loaded' : LoadedPairs P)
    (told : IsTrueOf g c k (run (begun ++ since) start) (kind_of_ask m) (follows_of m) loaded (ask_of m) answer es loaded')
    (served : IsServedAsk m.call.task (ask_of m) answer) where
  -- the state comes from all exchanges
  reaches : run es (run (begun ++ since) start) ≡ run (begun ++ (since ++ es)) start
  reaches = sym (run-append (begun ++ since) es start) ∙ ap (λ l. run l start) (append_assoc begun since es)

  -- an answer is for the call itself, or the call was set aside
  order : IsInOrder m answer m.phase
  order = in_order g c begun since k m loaded (run (begun ++ since) start) answer es loaded' r told

  -- the words before the answer and after it
  abbrev words : At → ℕ
  words = word_of g c (run (begun ++ since) start)

  abbrev words' : At → ℕ
  words' = word_of g c (run es (run (begun ++ since) start))

  -- the budget is spent, or less is left; and the words that were read are unchanged
  falls : (before later : Budget) → Spends (kind_of_ask m) (ask_of m) answer before later
      → (IsSpent before later ⊎ ((later ≡ before)
      × (rank_of (run (begun ++ (since ++ es)) start).root (after m answer) < rank_of (run (begun ++ since) start).root m)))
      × IsCallRead (word_of g c (run (begun ++ (since ++ es)) start)) (after m answer)
  falls before later spends =
      subst (λ s. (IsSpent before later ⊎ ((later ≡ before) × (rank_of s.root (after m answer) < rank_of (run (begun ++ since) start).root m)))
      × IsCallRead (word_of g c s) (after m answer)) reaches
      (phase_falls g c hashed begun since may k bounded loaded m.number m.helped m.call r.call r.cut answer es loaded' before later m.phase made
      r.phase current.number current.read told served spends)

  -- a call that is set aside has read as much of the numbers as before
  aside_number : (t : ℕ) → left_by m.call.state ≡ Some t → (call : Call_machine) → (after m answer).call ≡ call → call.made ≡ m.call.made
      → IsNumberRead words' (after m answer).call.made.number
  aside_number t left call is same =
      let counts : words' words_at.Made ≡ words words_at.Made = aside_counts g c hashed begun since may k bounded loaded m.number m.helped m.call
      r.call r.cut answer es loaded' nothing_left nothing_left t left m.phase made r.phase told in
      subst (λ (d : Call_machine). IsNumberRead words' d.made.number) (sym is)
      (subst (λ (n : Made). IsNumberRead words' n.number) (sym same) (by_number m.call.made.number counts current.number))
    where
      by_number : (number : Number) → words' words_at.Made ≡ words words_at.Made → IsNumberRead words number → IsNumberRead words' number
      by_number Wanted counts read = tt
      by_number (Free count) counts read = counts ∙ read
      by_number Taken counts read = tt

  -- and so has a call that continues in phase `Calling`
  own_number : (own : IsOwnStep m answer) → IsNumberRead words' (after m answer).call.made.number
  own_number own =
      let (call', tells) = own_told g c k (run (begun ++ since) start) m loaded answer es loaded' order told own in
      let serves = subst (λ a. IsServedAsk m.call.task (ask_of m) a) own.is served in
      let prompt = call_prompt g c hashed begun since may k bounded m.call loaded.call r.call own.told es call'
      (subst (λ phase. IsServedAsk m.call.task (asks_in m.call phase) (answers.Call own.told)) own.phase serves) tells in
      let read = subst (IsPhaseRead m.call.mode words m.call.state) own.phase current.read in
      subst (λ (d : Call_machine). IsNumberRead words' d.made.number) (sym own.call)
      (machine_stable words words' m.call (words_bare g c (run (begun ++ since) start)) own.told current.number read.0 prompt).number

  number_stable : IsNumberRead words' (after m answer).call.made.number
  number_stable = elim (machine_goes m answer order) [
    | inl waits ↦ aside_number waits.from waits.left m.call waits.call refl
    | inr (inl own) ↦ own_number own
    | inr (inr (inl enters)) ↦ aside_number enters.from enters.left (record m.call { state = Searching (Sizing enters.table) }) enters.call refl
    | inr (inr (inr (inl begins))) ↦ aside_number begins.from begins.left
        (call_machine.after (record m.call { state = At_root }) (Word_read begins.root)) begins.call refl
    | inr (inr (inr (inr ends))) ↦ aside_number ends.from ends.left (record m.call { state = Ended (Reply_refused ends.refused) }) ends.call refl
  ]

  -- the measure falls
  pub call_nears : (before later : Budget) → Spends (kind_of_ask m) (ask_of m) answer before later → later.exchanges < 2 ^ 128
      → IsValid (after m answer) → measure later (run (begun ++ (since ++ es)) start).root (after m answer) < measure before
      (run (begun ++ since) start).root m
  call_nears before later spends few valid =
      let small = rank_small (run (begun ++ (since ++ es)) start).root (after m answer) valid in
      measure_less before later (rank_of (run (begun ++ since) start).root m) (rank_of (run (begun ++ (since ++ es)) start).root (after m answer)) few
      (omega (arith, small)) (falls before later spends).0

  -- the words that were read are unchanged
  pub call_current : IsCurrent (word_of g c (run (begun ++ (since ++ es)) start)) (after m answer)
  call_current =
      let (before, later, spends) = some_budget (kind_of_ask m) (ask_of m) answer in
      record {
        number = subst (λ s. IsNumberRead (word_of g c s) (after m answer).call.made.number) reaches number_stable;
        read = (falls before later spends).1;
      }
