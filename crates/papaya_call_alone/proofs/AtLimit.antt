-- A call takes a number for each pair that it makes, if there is a pair limit.
use Rattle.std.proofs.Common.{◌≡◌, ◌⊎◌, inl, inr, ℕ, ◌+◌, ◌<◌, ◌≤◌, ◌==◌, nat_lt, le-ltb, lt-ltb}
use Rattle.std.proofs.Common.{Bool, true, false, cond, Option, None, Some, refl, sym, ap, ◌∙◌}
use Rattle.std.proofs.Common.{subst}
use Rattle.std.proofs.lemmas.Bool.{cond_both, cond-false, cond-true}
use Rattle.papaya_words.specs.declared.refused.Refused.TheVariants.{Limit}
use Rattle.papaya_words.specs.declared.resize_mode.ResizeMode.{ResizeMode}
use Rattle.papaya_words.specs.declared.resize_mode.ResizeMode.TheVariants.{Incremental, Blocking}
use Rattle.papaya_call.specs.declared.ask.Answer.{Answer as Call_answer}
use Rattle.papaya_call.specs.declared.ask.Answer.TheVariants.{Word as Word_read, Exchanged}
use Rattle.papaya_call.specs.declared.ask.Answer.TheVariants.{Found as Found_instead, Yes, Op, Size}
use Rattle.papaya_call.specs.declared.ask.Answer.TheVariants.{Made as Made_number, Ok as Ok_done}
use Rattle.papaya_call.specs.declared.ask.Answer.TheVariants.{Refused as Was_refused}
use Rattle.papaya_call.specs.declared.ask.Ask.{Ask as Call_ask}
use Rattle.papaya_call.specs.declared.ask.Ask.TheVariants.{Load, Exchange, MakeKey, MakeValue, MakePair, MakePairOf, Done as Ask_done}
use Rattle.papaya_call.specs.declared.ask.At.{At}
use Rattle.papaya_call.specs.declared.ask.At.TheVariants.{Made as Made_word}
use Rattle.papaya_call.specs.declared.ask.OpKind.{OpKind}
use Rattle.papaya_call.specs.declared.ask.OpKind.TheVariants as op_kinds
use Rattle.papaya_call.specs.declared.ask.StepKind.TheVariants.{Take}
use Rattle.papaya_call.specs.declared.call.Reply.TheVariants.{Refused as Reply_refused}
use Rattle.papaya_call.specs.declared.call.Task.{Task}
use Rattle.papaya_call.specs.declared.call.Task.TheVariants.{Get, Insert, RemoveIf, Compute}
use Rattle.papaya_call.specs.declared.search.Search.TheVariants.{Sizing, Looking, Reading, Comparing}
use Rattle.papaya_call.specs.declared.made.Grown.{Grown}
use Rattle.papaya_call.specs.declared.made.Grown.TheVariants.{On, Pair}
use Rattle.papaya_call.specs.declared.made.Made.{Made}
use Rattle.papaya_call.specs.declared.made.Number.{Number}
use Rattle.papaya_call.specs.declared.made.Number.TheVariants.{Wanted, Free, Taken}
use Rattle.papaya_call.specs.declared.machine.Machine.{Machine as Call_machine}
use Rattle.papaya_call.specs.declared.machine.State.{State}
use Rattle.papaya_call.specs.declared.machine.State.TheVariants.{Searching, Writing, Offering, Showing, Pairing, Leaving, Growing}
use Rattle.papaya_call.specs.declared.need.Need.{Need}
use Rattle.papaya_call.specs.declared.write.Write.{Write}
use Rattle.papaya_call.specs.Compute.{in_place_of}
use Rattle.papaya_call.specs.Made.{answered, grown, grown_as, make_ask, number_ask, number_kind, pair_ask, taken, taken_as, told, told_as, told_limit, wanted}
use Rattle.papaya_call.specs.Machine.{asks, exchanged, kind_asked, made_at_exchanged, made_at_op}
use Rattle.papaya_call.specs.Machine.{made_at_word, made_decided, made_in, made_to_pair}
use Rattle.papaya_call.specs.Machine.{number_told, numbered, served_kind, write_made, write_taken}
use Rattle.papaya_call.specs.Machine.{write_told}
use Rattle.papaya_call.specs.Machine as call_machine
use Rattle.papaya_call.specs.Write.{made_of, made_to_write, served_ask, serves, write_grown}
use Rattle.papaya_call.specs.declared.copy.copying.Aim.{Aim}
use Rattle.papaya_call.specs.declared.copy.copying.Aim.TheVariants as aims
use Rattle.papaya_call.specs.declared.copy.copying.Copied.{Copied}
use Rattle.papaya_call.specs.declared.copy.copying.Copied.TheVariants as copied
use Rattle.papaya_call.specs.declared.copy.link.Link.TheVariants as links
use Rattle.papaya_call.specs.declared.copy.link.Linked.{Linked}
use Rattle.papaya_call.specs.declared.copy.link.Linked.TheVariants as linked
use Rattle.papaya_call.specs.declared.chain.ask.Ask.TheVariants as asked
use Rattle.papaya_call.specs.declared.chain.ask.Answer.{Answer}
use Rattle.papaya_call.specs.declared.chain.ask.Answer.TheVariants as answers
use Rattle.papaya_call.specs.declared.chain.machine.Machine.{Machine}
use Rattle.papaya_call.specs.declared.chain.machine.Phase.{Phase}
use Rattle.papaya_call.specs.declared.chain.machine.Phase.TheVariants.{Calling, Linking, Copying as Copying_root}
use Rattle.papaya_call.specs.ChainMachine.{after, after_copied, after_in, after_linked, aim_for, ask_of}
use Rattle.papaya_call.specs.ChainMachine.{asks_in, called, copying_after, goes_on, grows_as, kind_in}
use Rattle.papaya_call.specs.ChainMachine.{kind_of_ask, leaves, link_after, onward, stepped, told_next}
use Rattle.papaya_call_law.specs.Alone.{IsNumberRead}
use Rattle.papaya_call_law.specs.Says.{MakesPair}
use Rattle.papaya_call_law.proofs.Makings.{IsMakeAsk, make_asks, pair_holds, pair_made}
use Rattle.papaya_call_law.proofs.Names.{call_asks}
use Rattle.papaya_call_alone.specs.Limits.{HasNumber, IsPartAsk, IsMakingPart, IsNumberTaken, IsPairMade, IsTakeAsk}

-- the state of the number for a call that makes a pair, in this state
abbrev NumberIs : Number → Made → State → Type 0
NumberIs number made (Writing write) = (serves made write ≡ None) × (made.number ≡ number)
NumberIs number made (Pairing purpose) = made.number ≡ number
NumberIs number made stage = ⊥

number_of : (number : Number) (made : Made) (stage : State) → NumberIs number made stage → made.number ≡ number
number_of number made (Writing write) h = h.1
number_of number made (Pairing purpose) h = h
number_of number made stage h = absurd h

-- the same, by the call's ask
abbrev NumberFor : Call_ask → Made → State → Type 0
NumberFor (Load Made_word) made stage = NumberIs Wanted made stage
NumberFor (Exchange Made_word old new) made stage = NumberIs (Free old) made stage × (new ≡ old + 1)
NumberFor MakeKey made stage = NumberIs Taken made stage
NumberFor MakeValue made stage = NumberIs Taken made stage
NumberFor MakePair made stage = NumberIs Taken made stage
NumberFor (MakePairOf n) made stage = NumberIs Taken made stage
NumberFor ask made stage = Unit {0}

-- if it has a number, it asks to store something in the arena
module _ (Holds : Call_ask → Type 0) (key : Holds MakeKey) (value : Holds MakeValue) (pair : Holds MakePair) (pair_of : (n : ℕ) → Holds (MakePairOf n)) where
  make_holds : (made : Made) (old : ℕ) → Holds (make_ask made old)
  make_holds made old =
      pair_holds (λ ask. IsMakeAsk ask → Holds ask)
      (record { loads = λ h. absurd h; takes = λ count h. absurd h; key = λ h. key; value = λ h. value; pair = λ h. pair; pair_of = λ n h. pair_of n })
      (record made { number = Taken }) old (make_asks made old)

make_logs : (made : Made) (old : ℕ) → IsPartAsk (make_ask made old)
make_logs made old = make_holds IsPartAsk tt tt tt (λ n. tt) made old

module _ (made : Made) (stage : State) (is : (number : Number) → made.number ≡ number → NumberIs number made stage) where
  number_for : (number : Number) → made.number ≡ number → (old : ℕ) → NumberFor (number_ask number made old) made stage
  number_for Wanted e old = is Wanted e
  number_for (Free count) e old = (is (Free count) e, refl)
  number_for Taken e old = make_holds (λ ask. NumberFor ask made stage) (is Taken e) (is Taken e) (is Taken e) (λ n. is Taken e) made old

stage_for : (made : Made) (hash : ℕ) (stage : State) → NumberFor (asks made hash stage) made stage
stage_for made hash (Writing write) = by_served (serves made write) refl
  where
    by_served : (served : Option ℕ) → serves made write ≡ served → NumberFor (served_ask served write made) made (Writing write)
    by_served None none = number_for made (Writing write) (λ number e. (none, e)) made.number refl write.old
    by_served (Some n) e = tt
stage_for made hash (Pairing purpose) = number_for made (Pairing purpose) (λ number e. e) made.number refl (in_place_of purpose)
stage_for made hash (Searching (Sizing t)) = tt
stage_for made hash (Searching (Looking at)) = tt
stage_for made hash (Searching (Reading at)) = tt
stage_for made hash (Searching (Comparing at word)) = tt
stage_for made hash stage = tt

module _ (made : Made) (most count : ℕ) (limit : made.limit ≡ Some most) (wants : made.number ≡ Wanted) where
  -- the answers about the numbers
  told_wanted : told made count ≡ told_limit made (Some most) count
  told_wanted = ap (λ number. told_as made number count) wants ∙ ap (λ l. told_limit made l count) limit

  told_full : most ≤ count → told made count ≡ None
  told_full full = told_wanted ∙ cond-false (nat_lt count most) (Some (record made { number = Free count })) None (le-ltb count most full)

  told_free : count < most → told made count ≡ Some (record made { number = Free count })
  told_free free = told_wanted ∙ cond-true (nat_lt count most) (Some (record made { number = Free count })) None (lt-ltb count most free)

module _ (call : Call_machine) where
  -- the ask after this answer, in a state of the call
  abbrev next_ask : State → Call_answer → Call_ask
  next_ask stage told = call_machine.ask_of (call_machine.after (record call { state = stage }) told)

  -- the answer with the number of pairs made determines the next state
  module _ (count : ℕ) (next : Option Made) (is : told call.made count ≡ next) where
    told_asks : (stage : State) → NumberIs Wanted call.made stage
        → next_ask stage (Word_read count) ≡ asks (number_told next call.made) call.hash (numbered next stage)
    told_asks (Writing write) h =
        ap (λ o. asks (write_made o call.made count) call.hash (write_told o call.made write count)) h.0
        ∙ ap (λ t. asks (number_told t call.made) call.hash (numbered t (Writing write))) is
    told_asks (Pairing purpose) h = ap (λ t. asks (number_told t call.made) call.hash (numbered t (Pairing purpose))) is
    told_asks stage h = absurd h

  -- it takes the free number next
  free_asks : (count : ℕ) (stage : State) → NumberIs Wanted call.made stage
      → asks (record call.made { number = Free count }) call.hash stage ≡ Exchange Made_word count (count + 1)
  free_asks count (Writing write) h = ap (λ o. served_ask o write (record call.made { number = Free count })) h.0
  free_asks count (Pairing purpose) h = refl
  free_asks count stage h = absurd h

  -- and then it stores something in the arena
  taken_asks : (old : ℕ) (stage : State) → NumberIs (Free old) call.made stage → IsPartAsk (next_ask stage Exchanged)
  taken_asks old (Writing write) h =
      let next : Made = record call.made { number = Taken } in
      let is : taken call.made ≡ next = ap (taken_as call.made) h.1 in
      subst IsPartAsk
      (sym (ap (λ o. asks (write_taken o call.made) call.hash (exchanged o write)) h.0 ∙ ap (λ made. asks made call.hash (Writing write)) is
      ∙ ap (λ o. served_ask o write next) h.0))
      (make_logs next write.old)
  taken_asks old (Pairing purpose) h =
      let next : Made = record call.made { number = Taken } in
      let is : taken call.made ≡ next = ap (taken_as call.made) h in
      subst IsPartAsk (sym (ap (λ made. asks made call.hash (Pairing purpose)) is)) (make_logs next (in_place_of purpose))
  taken_asks old stage h = absurd h

  -- the exchange of a number is of that kind
  takes_kind : (old : ℕ) (stage : State) → NumberIs (Free old) call.made stage → kind_asked call.made stage ≡ Some Take
  takes_kind old (Writing write) h = ap (λ o. served_kind o call.made write) h.0 ∙ ap number_kind h.1
  takes_kind old (Pairing purpose) h = ap number_kind h
  takes_kind old stage h = absurd h

module _ (m : Machine) (ask : Call_ask) (asking : ask_of m ≡ asked.Call ask) where
  -- the machine is in phase `Calling`
  calls : m.phase ≡ Calling
  calls = (call_asks m ask asking).0

  number_is : NumberFor ask m.call.made m.call.state
  number_is = subst (λ a. NumberFor a m.call.made m.call.state) (call_asks m ask asking).1 (stage_for m.call.made m.call.hash m.call.state)

  -- if the call itself continues
  stepped_asks : (told : Call_answer) → called m told ≡ stepped m told → ask_of (after m (answers.Call told)) ≡ asked.Call (next_ask m.call m.call.state told)
  stepped_asks told is =
      ap (λ phase. ask_of (after_in m (answers.Call told) phase)) calls
      ∙ ap ask_of is
      ∙ ap (asks_in (call_machine.after m.call told)) calls

-- a call that makes a pair continues in phase `Calling`
pairing_steps : (m : Machine) (number : Number) (count : ℕ) (stage : State) → NumberIs number m.call.made stage
    → told_next m stage count ≡ stepped m (Word_read count)
pairing_steps m number count (Writing write) h = refl
pairing_steps m number count (Pairing purpose) h = refl
pairing_steps m number count stage h = absurd h

module _ (m : Machine) (most count : ℕ) (limit : m.call.made.limit ≡ Some most) (asking : ask_of m ≡ asked.Call (Load Made_word)) where
  -- it asks how many numbers were taken
  wants : NumberIs Wanted m.call.made m.call.state
  wants = number_is m (Load Made_word) asking

  word_asks : (next : Option Made) → told m.call.made count ≡ next
      → ask_of (after m (answers.Call (Word_read count))) ≡ asked.Call (asks (number_told next m.call.made) m.call.hash (numbered next m.call.state))
  word_asks next is = stepped_asks m (Load Made_word) asking (Word_read count) (pairing_steps m Wanted count m.call.state wants)
      ∙ ap asked.Call (told_asks m.call count next is m.call.state wants)

  -- at the limit it fails with `Refused::Limit`
  pub limit_full : most ≤ count → ask_of (after m (answers.Call (Word_read count))) ≡ asked.Call (Ask_done (Reply_refused Limit))
  limit_full full = word_asks None (told_full m.call.made most count limit (number_of Wanted m.call.made m.call.state wants) full)

  -- below it a number is free
  pub limit_free : count < most → ask_of (after m (answers.Call (Word_read count))) ≡ asked.Call (Exchange Made_word count (count + 1))
  limit_free free =
      word_asks (Some (record m.call.made { number = Free count }))
      (told_free m.call.made most count limit (number_of Wanted m.call.made m.call.state wants) free)
      ∙ ap asked.Call (free_asks m.call count m.call.state wants)

module _ (m : Machine) (old new : ℕ) (asking : ask_of m ≡ asked.Call (Exchange Made_word old new)) where
  takes : NumberIs (Free old) m.call.made m.call.state × (new ≡ old + 1)
  takes = number_is m (Exchange Made_word old new) asking

  -- the number that it takes is the next
  pub limit_takes : (words : At → ℕ) → IsNumberRead words m.call.made.number → (words Made_word ≡ old) × (new ≡ old + 1) × (kind_of_ask m ≡ Some Take)
  limit_takes words read = (
    subst (IsNumberRead words) (number_of (Free old) m.call.made m.call.state takes.0) read,
    takes.1,
    ap (kind_in m.call) (calls m (Exchange Made_word old new) asking) ∙ takes_kind m.call old m.call.state takes.0,
  )

  -- and it continues
  pub limit_goes_on : IsMakingPart (ask_of (after m (answers.Call Exchanged)))
  limit_goes_on = subst IsMakingPart (sym (stepped_asks m (Exchange Made_word old new) asking Exchanged refl)) (taken_asks m.call old m.call.state takes.0)

-- a part of a pair that is stored in the arena has a number
log_number : (ask : Call_ask) (made : Made) (stage : State) → IsPartAsk ask → NumberFor ask made stage → made.number ≡ Taken
log_number MakeKey made stage logs h = number_of Taken made stage h
log_number MakeValue made stage logs h = number_of Taken made stage h
log_number MakePair made stage logs h = number_of Taken made stage h
log_number (MakePairOf n) made stage logs h = number_of Taken made stage h
log_number ask made stage logs h = absurd logs

pub limit_logs : (m : Machine) → IsMakingPart (ask_of m) → HasNumber m
limit_logs m logs = in_phase m.phase logs
  where
    in_phase : (phase : Phase) → IsMakingPart (asks_in m.call phase) → HasNumber m
    in_phase Calling h = log_number (call_machine.ask_of m.call) m.call.made m.call.state h (stage_for m.call.made m.call.hash m.call.state)
    in_phase (Linking link) h = absurd h
    in_phase (Copying_root copying) h = absurd h

module _ (made : Made) (most : ℕ) (limit : made.limit ≡ Some most) where
  -- the answer with how many numbers were taken gives no number
  limit_number : (count : ℕ) (l : Option ℕ) → l ≡ Some most → (number_told (told_limit made l count) made).number ≡ Taken → made.number ≡ Taken
  limit_number count None e h = absurd cc
  limit_number count (Some n) e h = cond_both (nat_lt count n) (Some (record made { number = Free count })) None
      (λ t. (number_told t made).number ≡ Taken → made.number ≡ Taken) (λ _ free. absurd cc) (λ _ same. same) h

  told_number : (number : Number) → made.number ≡ number → (count : ℕ) → (number_told (told_as made number count) made).number ≡ Taken → made.number ≡ Taken
  told_number Wanted is count h = limit_number count made.limit limit h
  told_number (Free n) is count h = limit_number count made.limit limit h
  told_number Taken is count h = is

  -- an exchange takes one
  take_number : (old : ℕ) (number : Number) → made.number ≡ number → (taken_as made number).number ≡ Taken → IsTakeAsk (number_ask number made old)
      ⊎ (made.number ≡ Taken)
  take_number old Wanted is h = inr h
  take_number old (Free count) is h = inl tt
  take_number old Taken is h = inr is

  -- and each pair that is stored in the arena needs one more
  log_keeps : (old : ℕ) (number : Number) → made.number ≡ number → (made_to_pair (grown_as number made old)).number ≡ Taken → made.number ≡ Taken
  log_keeps old Wanted is h = h
  log_keeps old (Free count) is h = h
  log_keeps old Taken is h = is

  log_wants : (old : ℕ) → (made_to_pair (grown made old)).number ≡ Taken → MakesPair (pair_ask made old) → ⊥
  log_wants old h pair =
      let next : (made_to_pair (grown made old)).number ≡ Wanted = ap (λ G. (made_to_pair G).number) (pair_made made old pair) ∙ ap wanted limit in
      absurd (cc (next, h))

  log_number_kept : (old : ℕ) → (made_to_pair (grown made old)).number ≡ Taken → (made.number ≡ Taken) × (MakesPair (pair_ask made old) → ⊥)
  log_number_kept old h = (log_keeps old made.number refl h, log_wants old h)

-- a pair that was made for a place leaves the number
written_number : (write : Write) (n : ℕ) (G : Grown) → (made_to_write G write n).number ≡ (made_to_pair G).number
written_number write n (On made) = refl
written_number write n (Pair made) = cond_both (write.old == 0) (record made { own = Some n }) (record made { of = Some (made_of write n) })
    (λ (y : Made). y.number ≡ made.number) (λ _. refl) (λ _. refl)

-- and so does a closure's result
answered_number : (kind : OpKind) (made : Made) → (answered kind made).number ≡ made.number
answered_number op_kinds.Insert made = refl
answered_number op_kinds.Remove made = refl
answered_number (op_kinds.Abort t) made = refl

decided_number : (task : Task) (kind : OpKind) (made : Made) → (made_decided task kind made).number ≡ made.number
decided_number Compute kind made = answered_number kind made
decided_number task kind made = refl

module _ (call : Call_machine) (most : ℕ) (limit : call.made.limit ≡ Some most) where
  -- a number was taken, or there was one, and no pair was stored in the arena
  abbrev Numbered : Call_ask → Call_answer → Type 0
  Numbered ask told = IsNumberTaken (asked.Call ask) (answers.Call told)
      ⊎ ((call.made.number ≡ Taken) × (IsPairMade (asked.Call ask) (answers.Call told) → ⊥))

  word_number : (count : ℕ) (stage : State) → (made_at_word call.made count stage).number ≡ Taken → call.made.number ≡ Taken
  word_number count (Writing write) h = by_served (serves call.made write) h
    where
      by_served : (served : Option ℕ) → (write_made served call.made count).number ≡ Taken → call.made.number ≡ Taken
      by_served None told_so = told_number call.made most limit call.made.number refl count told_so
      by_served (Some n) same = same
  word_number count (Pairing purpose) h = told_number call.made most limit call.made.number refl count h
  word_number count stage h = h

  exchanged_number : (stage : State) → (made_at_exchanged call.made stage).number ≡ Taken → IsTakeAsk (asks call.made call.hash stage)
      ⊎ (call.made.number ≡ Taken)
  exchanged_number (Writing write) h = by_served (serves call.made write) h
    where
      by_served : (served : Option ℕ) → (write_taken served call.made).number ≡ Taken → IsTakeAsk (served_ask served write call.made)
          ⊎ (call.made.number ≡ Taken)
      by_served None took = take_number call.made most limit write.old call.made.number refl took
      by_served (Some n) same = inr same
  exchanged_number (Pairing purpose) h = take_number call.made most limit (in_place_of purpose) call.made.number refl h
  exchanged_number stage h = inr h

  op_number : (task : Task) (kind : OpKind) (stage : State) → (made_at_op task kind call.made stage).number ≡ Taken → call.made.number ≡ Taken
  op_number task kind (Offering gap) h = sym (answered_number kind call.made) ∙ h
  op_number task kind (Showing removal) h = sym (decided_number task kind call.made) ∙ h
  op_number task kind stage h = h

  made_number : (n : ℕ) (stage : State) → (made_in call.made n stage).number ≡ Taken → (call.made.number ≡ Taken)
      × (MakesPair (asks call.made call.hash stage) → ⊥)
  made_number n (Writing write) h = by_served (serves call.made write) h
    where
      by_served : (served : Option ℕ) → (write_grown served call.made write n).number ≡ Taken → (call.made.number ≡ Taken)
          × (MakesPair (served_ask served write call.made) → ⊥)
      by_served None logged = log_number_kept call.made most limit write.old (sym (written_number write n (grown call.made write.old)) ∙ logged)
      by_served (Some k) same = (same, λ pair. pair)
  made_number n (Pairing purpose) h = log_number_kept call.made most limit (in_place_of purpose) h
  made_number n (Searching (Sizing t)) h = (h, λ pair. pair)
  made_number n (Searching (Looking at)) h = (h, λ pair. pair)
  made_number n (Searching (Reading at)) h = (h, λ pair. pair)
  made_number n (Searching (Comparing at word)) h = (h, λ pair. pair)
  made_number n stage h = (h, λ pair. pair)

  -- for each answer
  answer_number : (told : Call_answer) → (call_machine.after call told).made.number ≡ Taken → Numbered (call_machine.ask_of call) told
  answer_number (Word_read count) h = inr (word_number count call.state h, λ pair. pair)
  answer_number Exchanged h = exchanges (exchanged_number call.state h)
    where
      exchanges : IsTakeAsk (call_machine.ask_of call) ⊎ (call.made.number ≡ Taken) → Numbered (call_machine.ask_of call) Exchanged
      exchanges (inl took) = inl took
      exchanges (inr same) = inr (same, λ pair. pair)
  answer_number (Found_instead count) h = inr (word_number count call.state h, λ pair. pair)
  answer_number (Yes same) h = inr (h, λ pair. pair)
  answer_number (Op kind) h = inr (op_number call.task kind call.state h, λ pair. pair)
  answer_number (Size slots most_len) h = inr (h, λ pair. pair)
  answer_number (Made_number n) h = inr (made_number n call.state h)
  answer_number Ok_done h = inr (h, λ pair. pair)
  answer_number (Was_refused refused) h = inr (h, λ pair. pair)

module _ (m : Machine) where
  -- a call that continues behind its table, or copies, has made as much as before
  goes_made : (helped : Bool) (aim : Aim) (next : ℕ) → (goes_on m helped aim next).call.made ≡ m.call.made
  goes_made false aim next = refl
  goes_made true (aims.Search t) next = refl
  goes_made true (aims.Settle slot) next = refl
  goes_made true aims.Chunk next = refl
  goes_made true (aims.All met) next = refl

  onward_made : (next : ℕ) → (onward m next).call.made ≡ m.call.made
  onward_made next = goes_made m.helped (aim_for m.call.state next) next

  grows_made : (mode : ResizeMode) (need : Need) (next : ℕ) → (grows_as m mode need next).call.made ≡ m.call.made
  grows_made Blocking need next = refl
  grows_made (Incremental chunk) need next = cond_both (next == 0)
      (record m { phase = Linking (links.Sizing (call_machine.needed need) (call_machine.needed need) false) }) (onward m next)
      (λ (y : Machine). y.call.made ≡ m.call.made) (λ _. refl) (λ _. onward_made next)

  linked_made : (end : Linked) → (after_linked m end).call.made ≡ m.call.made
  linked_made (linked.On link) = refl
  linked_made (linked.Table t) = onward_made t
  linked_made (linked.Refused refused) = refl

  copied_made : (end : Copied) → (after_copied m end).call.made ≡ m.call.made
  copied_made (copied.On copying) = refl
  copied_made (copied.Search t) = refl
  copied_made (copied.Root root) = refl
  copied_made copied.Chunk = refl
  copied_made (copied.Refused refused) = refl

  module _ (most : ℕ) (limit : m.call.made.limit ≡ Some most) where
    -- the number of a next table, or how many numbers were taken
    steps_number : (next : ℕ) → HasNumber (stepped m (Word_read next)) → HasNumber m
    steps_number next h = word_number m.call most limit next m.call.state h

    goes_number : (next : ℕ) → HasNumber (cond (next == 0) (stepped m (Word_read next)) (onward m next)) → HasNumber m
    goes_number next h = cond_both (next == 0) (stepped m (Word_read next)) (onward m next) (λ y. HasNumber y → HasNumber m)
        (λ _ steps. steps_number next steps) (λ _ on. sym (ap (λ (made : Made). made.number) (onward_made next)) ∙ on) h

    leaves_number : (task : Task) (next : ℕ) → HasNumber (leaves m task next) → HasNumber m
    leaves_number Get next h = steps_number next h
    leaves_number (Insert replace) next h = goes_number next h
    leaves_number RemoveIf next h = goes_number next h
    leaves_number Compute next h = goes_number next h

    next_number : (stage : State) (next : ℕ) → HasNumber (told_next m stage next) → HasNumber m
    next_number (Leaving t) next h = leaves_number m.call.task next h
    next_number (Growing need) next h = sym (ap (λ (made : Made). made.number) (grows_made m.call.mode need next)) ∙ h
    next_number stage next h = steps_number next h

    called_number : (told : Call_answer) → HasNumber (called m told) → Numbered m.call most limit (call_machine.ask_of m.call) told
    called_number (Word_read next) h = inr (next_number m.call.state next h, λ pair. pair)
    called_number Exchanged h = answer_number m.call most limit Exchanged h
    called_number (Found_instead count) h = answer_number m.call most limit (Found_instead count) h
    called_number (Yes same) h = answer_number m.call most limit (Yes same) h
    called_number (Op kind) h = answer_number m.call most limit (Op kind) h
    called_number (Size slots most_len) h = answer_number m.call most limit (Size slots most_len) h
    called_number (Made_number n) h = answer_number m.call most limit (Made_number n) h
    called_number Ok_done h = answer_number m.call most limit Ok_done h
    called_number (Was_refused refused) h = answer_number m.call most limit (Was_refused refused) h

    -- for the whole machine
    phase_number : (answer : Answer) (phase : Phase) → HasNumber (after_in m answer phase) → IsNumberTaken (asks_in m.call phase) answer
        ⊎ (HasNumber m × (IsPairMade (asks_in m.call phase) answer → ⊥))
    phase_number (answers.Call told) Calling h = called_number told h
    phase_number (answers.Hash hash) Calling h = inr (h, λ pair. pair)
    phase_number (answers.Count count) Calling h = inr (h, λ pair. pair)
    phase_number answer (Linking link) h = inr
        (sym (ap (λ (made : Made). made.number) (linked_made (link_after link m.call.mode m.call.initial answer))) ∙ h, λ pair. pair)
    phase_number answer (Copying_root copying) h = inr
        (sym (ap (λ (made : Made). made.number) (copied_made (copying_after copying m.call.mode m.call.initial m.number answer))) ∙ h, λ pair. pair)

    pub limit_each : (answer : Answer) → HasNumber (after m answer) → IsNumberTaken (ask_of m) answer ⊎ (HasNumber m × (IsPairMade (ask_of m) answer → ⊥))
    limit_each answer h = phase_number answer m.phase h
