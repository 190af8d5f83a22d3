-- A call that needs a number for a pair is refused with `Limit` if as many numbers are taken as the
-- limit allows.
use Rattle.std.proofs.Common.{◌≡◌, ◌⊎◌, inl, inr, ℕ, ◌==◌, ◌<◌, Bool, true, false, nat_lt, Option, None, Some, refl, sym, ◌∙◌, ap, subst, arith}
use Rattle.std.proofs.lemmas.Bool.{cond_both, eqb-true, ltb-true}
use Rattle.papaya_words.specs.declared.refused.Refused.TheVariants.{Limit}
use Rattle.papaya_call.specs.declared.ask.Answer.{Answer as Call_answer}
use Rattle.papaya_call.specs.declared.ask.Answer.TheVariants.{Word as Word_read, Found as Found_instead}
use Rattle.papaya_call.specs.declared.ask.Ask.{Ask as Call_ask}
use Rattle.papaya_call.specs.declared.ask.Ask.TheVariants.{Load, Exchange}
use Rattle.papaya_call.specs.declared.ask.At.TheVariants.{Made as Made_word}
use Rattle.papaya_call.specs.declared.call.Reply.{Reply}
use Rattle.papaya_call.specs.declared.call.Reply.TheVariants.{Refused as Reply_refused}
use Rattle.papaya_call.specs.declared.search.Search.TheVariants.{Sizing, Looking, Reading, Comparing}
use Rattle.papaya_call.specs.Answers.{Says}
use Rattle.papaya_call.specs.Compute.{in_place_of}
use Rattle.papaya_call.specs.Machine as calls
use Rattle.papaya_call.specs.Machine.{asks, at_found, at_word, numbered, write_lost, write_told}
use Rattle.papaya_call.specs.Made.{make_ask, number_ask, of_ask, own_ask, pair_ask, told, told_as, told_limit}
use Rattle.papaya_call.specs.Write.{served_ask, serves}
use Rattle.papaya_call.specs.declared.made.Made.{Made}
use Rattle.papaya_call.specs.declared.made.Number.{Number}
use Rattle.papaya_call.specs.declared.made.Number.TheVariants.{Wanted, Free, Taken}
use Rattle.papaya_call.specs.declared.machine.Machine.{Machine as Call_machine}
use Rattle.papaya_call.specs.declared.machine.State.{State as Stage}
use Rattle.papaya_call.specs.declared.machine.State.TheVariants.{AtRoot, Making, Opening, Searching}
use Rattle.papaya_call.specs.declared.machine.State.TheVariants.{Writing, Offering, Showing}
use Rattle.papaya_call.specs.declared.machine.State.TheVariants.{Pairing, Putting, Burying}
use Rattle.papaya_call.specs.declared.machine.State.TheVariants.{Counting, Noting, Uncounting}
use Rattle.papaya_call.specs.declared.machine.State.TheVariants.{Leaving, Growing, Ended}
use Rattle.papaya_call.specs.declared.write.Write.{Write}
use Rattle.papaya_call.specs.declared.chain.ask.Ask.TheVariants as chain_asks
use Rattle.papaya_call.specs.declared.chain.ask.Answer.{Answer}
use Rattle.papaya_call.specs.declared.chain.ask.Answer.TheVariants as answers
use Rattle.papaya_call.specs.declared.chain.machine.Machine.{Machine}
use Rattle.papaya_call.specs.declared.chain.resizer.Resizer.{Resizer}
use Rattle.papaya_call.specs.declared.chain.machine.Phase.{Phase}
use Rattle.papaya_call.specs.declared.chain.machine.Phase.TheVariants.{Calling, Linking, Copying as Copying_root}
use Rattle.papaya_call.specs.ChainMachine.{after, after_in, ask_of, asks_in, stepped, told_next}
use Rattle.papaya_core_store.specs.declared.pairs.Running.{Running}
use Rattle.papaya_core_store.specs.declared.scans.Scanning.{Scanning}
use Rattle.papaya_core_store.specs.Asks.{PerformsAsk}
use Rattle.papaya_core_store.specs.Performs.{Performs}
use Rattle.papaya_core_store.specs.Store.{StoreState}
use Rattle.papaya_core_timeline.specs.declared.seat.Work.{Work}
use Rattle.papaya_core_timeline.specs.declared.seat.Work.TheVariants as works
use Rattle.papaya_core_timeline.specs.declared.trace.Event.{Event}
use Rattle.papaya_core_timeline.specs.Advances.{Advances, reply_in}
use Rattle.papaya_core_timeline.specs.Callers.{call_in, resizer_in, scanner_in, working}
use Rattle.papaya_core_timeline.specs.Core.{CoreState, call_of}
use Rattle.papaya_core_timeline.specs.Kept.{IsLawfulCore}
use Rattle.papaya_core_timeline.specs.Runs.{Steps}
use Rattle.papaya_core_timeline.proofs.CallersLemmas.{same_item}
use Rattle.papaya_core_timeline.proofs.StoreLemmas.{matched}
use Rattle.papaya_core.specs.Limits.{AsksForNumber, AsksNumber, IsSpent, NeedsNumber}
use Rattle.papaya_core.proofs.NumbersTaken.{own_free, own_limit}

-- an ask for a part of a pair does not ask for a number
made_no_number : (made : Made) (old : ℕ) → AsksNumber (make_ask made old) → ⊥
made_no_number made old = cond_both (old == 0) (own_ask made.keyed made.valued) (of_ask made.valued old) (λ a. AsksNumber a → ⊥)
    (λ _. own made.keyed made.valued) (λ _. of made.valued)
  where
    own : (keyed valued : Bool) → AsksNumber (own_ask keyed valued) → ⊥
    own false valued n = n
    own true false n = n
    own true true n = n

    of : (valued : Bool) → AsksNumber (of_ask valued old) → ⊥
    of false n = n
    of true n = n

-- none is below the limit if as many were taken
full_limit : (made : Made) (limit : Option ℕ) (count : ℕ) → limit ≡ Some count → told_limit made limit count ≡ None
full_limit made limit count e = ap (λ l. told_limit made l count) e
    ∙ cond_both (nat_lt count count) _ None (λ o. o ≡ None) (λ less. absurd (let f = ltb-true count count less in omega (arith, f))) (λ _. refl)

full_as : (made : Made) (number : Number) (old count : ℕ) → AsksNumber (number_ask number made old) → made.limit ≡ Some count → told_as made number count ≡ None
full_as made Wanted old count n e = full_limit made made.limit count e
full_as made (Free m) old count n e = full_limit made made.limit count e
full_as made Taken old count n e = absurd (made_no_number made old n)

-- the number that a call would take, if it exchanges
taken_from : (number : Number) (made : Made) (from : ℕ) (old new : ℕ) → number_ask number made from ≡ Exchange Made_word old new → number ≡ Free old
taken_from Wanted made from old new e = absurd cc
taken_from (Free m) made from old new e = let f : m ≡ old = cc e in ap (λ y. Free y) f
taken_from Taken made from old new e = absurd (made_no_number made from (subst AsksNumber (sym e) tt))

-- the refusal
abbrev refused : Stage
refused = Ended (Reply_refused Limit)

-- If a call needs a number, it asks this, and if the answer is that none is left, it ends so.
record IsNumbering (m : Call_machine) (stage : Stage) : Type 0 where
  old : ℕ
  asked : asks m.made m.hash stage ≡ pair_ask m.made old
  read : (count : ℕ) → told m.made count ≡ None → at_word m count stage ≡ refused
  found : (count : ℕ) → told m.made count ≡ None → at_found m count stage ≡ refused
  onward : (c : Machine) (count : ℕ) → told_next c stage count ≡ stepped c (Word_read count)

module _ (m : Call_machine) where
  writing : (write : Write) (served : Option ℕ) → serves m.made write ≡ served → AsksNumber (served_ask served write m.made) → IsNumbering m (Writing write)
  writing write None e n = record {
    old = write.old;
    asked = ap (λ s. served_ask s write m.made) e;
    read = λ count full. ap (λ s. write_told s m.made write count) e ∙ ap (λ t. numbered t (Writing write)) full;
    found = λ count full. ap (λ s. write_lost s m write count) e ∙ ap (λ t. numbered t (Writing write)) full;
    onward = λ c count. refl;
  }
  writing write (Some k) e n = absurd n

  numbering : (stage : Stage) → AsksNumber (asks m.made m.hash stage) → IsNumbering m stage
  numbering (Writing write) n = writing write (serves m.made write) refl n
  numbering (Pairing purpose) n = record {
    old = in_place_of purpose;
    asked = refl;
    read = λ count full. ap (λ t. numbered t (Pairing purpose)) full;
    found = λ count full. ap (λ t. numbered t (Pairing purpose)) full;
    onward = λ c count. refl;
  }
  numbering AtRoot n = absurd n
  numbering Making n = absurd n
  numbering (Opening t) n = absurd n
  numbering (Searching (Sizing t)) n = absurd n
  numbering (Searching (Looking at)) n = absurd n
  numbering (Searching (Reading at)) n = absurd n
  numbering (Searching (Comparing at word)) n = absurd n
  numbering (Offering gap) n = absurd n
  numbering (Showing removal) n = absurd n
  numbering (Putting put) n = absurd n
  numbering (Burying removal) n = absurd n
  numbering (Counting claimed) n = absurd n
  numbering (Noting claimed) n = absurd n
  numbering (Uncounting pair) n = absurd n
  numbering (Leaving t) n = absurd n
  numbering (Growing need) n = absurd n
  numbering (Ended reply) n = absurd n

-- a caller has one call under way
no_resizer : {K V A : Type 0} (work : Option (Work K V A)) {r : Running K V A} {z : Resizer} → call_in work ≡ Some r → resizer_in work ≡ Some z → ⊥
no_resizer None e f = absurd cc
no_resizer (Some (works.Call r)) e f = absurd cc
no_resizer (Some (works.Resize z)) e f = absurd cc
no_resizer (Some (works.Scan v)) e f = absurd cc

no_scanner : {K V A : Type 0} (work : Option (Work K V A)) {r : Running K V A} {v : Scanning A} → call_in work ≡ Some r → scanner_in work ≡ Some v → ⊥
no_scanner None e f = absurd cc
no_scanner (Some (works.Call r)) e f = absurd cc
no_scanner (Some (works.Resize z)) e f = absurd cc
no_scanner (Some (works.Scan v)) e f = absurd cc

-- a call that asks for itself is not set aside
calls_itself : (call : Call_machine) (phase : Phase) → AsksForNumber (asks_in call phase) → (phase ≡ Calling) × AsksNumber (calls.ask_of call)
calls_itself call Calling n = (refl, n)
calls_itself call (Linking link) n = absurd n
calls_itself call (Copying_root copying) n = absurd n

module _ {K V S A : Type 0} (eq : K → K → Bool) (says : Says K V A) (hash : S → K → ℕ) (refuse : Bool) (s s' : StoreState K V S) (r r' : Running K V A) where
  -- all numbers are taken, and one that the call would take is free
  module _ (spent : r.machine.call.made.limit ≡ Some s.words.made) (free : (m : ℕ) → r.machine.call.made.number ≡ Free m → m < s.words.made) where
    -- the answer says that as many are taken
    told_full : (answer : Call_answer) (ask : Call_ask) → AsksNumber ask
        → ((old new : ℕ) → ask ≡ Exchange Made_word old new → r.machine.call.made.number ≡ Free old) → Performs eq says refuse ask s r answer s' r'
        → (answer ≡ Word_read s.words.made) ⊎ (answer ≡ Found_instead s.words.made)
    told_full answer (Load Made_word) n takes h = inl h.0
    told_full answer (Exchange Made_word old new) n takes h =
        matched ((answer ≡ Word_read s.words.made) ⊎ (answer ≡ Found_instead s.words.made)) (s.words.made == old) _ _ h.0
        (λ is _. absurd (let same = eqb-true s.words.made old is in let less = free old (takes old new refl) in omega (arith, same, less)))
        (λ _ lost. inr lost.0)
    told_full answer ask n takes h = absurd n

    -- and ends so
    ends : (answer : Call_answer) → AsksNumber (calls.ask_of r.machine.call) → (answer ≡ Word_read s.words.made)
        ⊎ (answer ≡ Found_instead s.words.made) → r.machine.phase ≡ Calling
        → reply_in (ask_of (after r.machine (answers.Call answer))) ≡ Some (Reply_refused Limit)
    ends answer n (inl e) phase =
        let x = numbering r.machine.call r.machine.call.state n in
        let full = full_as r.machine.call.made r.machine.call.made.number x.old s.words.made (subst AsksNumber x.asked n) spent in
        ap (λ a. reply_in (ask_of (after r.machine (answers.Call a)))) e
        ∙ ap (λ p. reply_in (ask_of (after_in r.machine (answers.Call (Word_read s.words.made)) p))) phase
        ∙ ap (λ m. reply_in (ask_of m)) (x.onward r.machine s.words.made)
        ∙ ap (λ p. reply_in (asks_in (calls.after r.machine.call (Word_read s.words.made)) p)) phase
        ∙ ap (λ st. reply_in (chain_asks.Call (asks (calls.made_at_word r.machine.call.made s.words.made r.machine.call.state) r.machine.call.hash
        st))) (x.read s.words.made full)
    ends answer n (inr e) phase =
        let x = numbering r.machine.call r.machine.call.state n in
        let full = full_as r.machine.call.made r.machine.call.made.number x.old s.words.made (subst AsksNumber x.asked n) spent in
        ap (λ a. reply_in (ask_of (after r.machine (answers.Call a)))) e
        ∙ ap (λ p. reply_in (ask_of (after_in r.machine (answers.Call (Found_instead s.words.made)) p))) phase
        ∙ ap (λ p. reply_in (asks_in (calls.after r.machine.call (Found_instead s.words.made)) p)) phase
        ∙ ap (λ st. reply_in (chain_asks.Call (asks (calls.made_at_word r.machine.call.made s.words.made r.machine.call.state) r.machine.call.hash
        st))) (x.found s.words.made full)

    pub refused_there : (answer : Answer) → AsksForNumber (ask_of r.machine) → PerformsAsk eq says hash refuse (ask_of r.machine) s r answer s' r'
        → reply_in (ask_of (after r.machine answer)) ≡ Some (Reply_refused Limit)
    refused_there answer n h =
        let (phase, asks_number) = calls_itself r.machine.call r.machine.phase n in
        let (told, is, own) = subst (λ y. PerformsAsk eq says hash refuse (asks_in r.machine.call y) s r answer s' r') phase h in
        let x = numbering r.machine.call r.machine.call.state asks_number in
        let takes = λ (old new : ℕ) (e : calls.ask_of r.machine.call ≡ Exchange Made_word old new).
        taken_from r.machine.call.made.number r.machine.call.made x.old old new (sym x.asked ∙ e) in
        ap (λ a. reply_in (ask_of (after r.machine a))) is
        ∙ ends told asks_number (told_full told (calls.ask_of r.machine.call) asks_number takes own) phase

module _ {K V S A : Type 0} (eq : K → K → Bool) (says : Says K V A) (hash : S → K → ℕ) (refuse : Bool) (s : CoreState K V S A) (caller : ℕ)
    (s' : CoreState K V S A) (event : Event) (reply : Option Reply) (lawful : IsLawfulCore eq (hash s.store.hasher) s.store s.callers s.mode) where
  -- the call on one key that a caller has under way
  its_call : (x : Advances eq says hash refuse s caller s' event reply) (r : Running K V A) → call_of s caller ≡ Some r
      → AsksForNumber (ask_of r.machine) → AsksForNumber (ask_of x.before.machine)
  its_call x r was n = subst (λ (y : Running K V A). AsksForNumber (ask_of y.machine)) (same_item r x.before (sym was ∙ x.was)) n

  -- so a step of a call that needs a number is refused if all are taken
  pub spent_refuses : Steps eq says hash refuse s caller s' event reply → NeedsNumber s caller → IsSpent s → reply ≡ Some (Reply_refused Limit)
  spent_refuses (inl x) (r, was, n) spent =
      x.reply_is
      ∙ refused_there eq says hash refuse s.store s'.store x.before x.later
      (own_limit eq (hash s.store.hasher) s lawful caller x.before x.was ∙ spent)
      (own_free eq (hash s.store.hasher) s lawful caller x.before x.was spent) x.answer (its_call x r was n) x.performs
  spent_refuses (inr (inl x)) (r, was, n) spent = absurd (no_resizer (working s.callers caller) was x.was)
  spent_refuses (inr (inr x)) (r, was, n) spent = absurd (no_scanner (working s.callers caller) was x.was)
