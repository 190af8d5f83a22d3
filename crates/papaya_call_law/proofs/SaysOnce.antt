-- A closure is called with None at most once.
use Rattle.std.proofs.Common.{◌≡◌, ℕ, ◌==◌, true, false, Option, None, Some, subst}
use Rattle.std.proofs.lemmas.Bool.{cond_both}
use Rattle.papaya_words.specs.Word.{kind_of, pair_of}
use Rattle.papaya_words.specs.declared.resize_mode.ResizeMode.{ResizeMode}
use Rattle.papaya_words.specs.declared.resize_mode.ResizeMode.TheVariants.{Incremental, Blocking}
use Rattle.papaya_words.specs.declared.word.Kind.{Kind}
use Rattle.papaya_words.specs.declared.word.Kind.TheVariants as word_kinds
use Rattle.papaya_call.specs.declared.ask.Ask.TheVariants.{ShowNone}
use Rattle.papaya_call.specs.declared.ask.Answer.{Answer}
use Rattle.papaya_call.specs.declared.ask.Answer.TheVariants.{Word as Word_read, Exchanged}
use Rattle.papaya_call.specs.declared.ask.Answer.TheVariants.{Found as Found_instead, Yes, Op}
use Rattle.papaya_call.specs.declared.ask.Answer.TheVariants.{Made as Made_number, Ok as Ok_done}
use Rattle.papaya_call.specs.declared.ask.Answer.TheVariants.{Refused as Was_refused}
use Rattle.papaya_call.specs.declared.ask.OpKind.{OpKind}
use Rattle.papaya_call.specs.declared.ask.OpKind.TheVariants as ops
use Rattle.papaya_call.specs.declared.call.Reply.TheVariants.{Absent, Replaced}
use Rattle.papaya_call.specs.declared.call.Task.{Task}
use Rattle.papaya_call.specs.declared.call.Task.TheVariants.{Get, Insert, RemoveIf, Compute}
use Rattle.papaya_call.specs.declared.compute.Choice.{Choice}
use Rattle.papaya_call.specs.declared.compute.Choice.TheVariants.{Replace as To_replace, Remove as To_remove}
use Rattle.papaya_call.specs.declared.compute.Gap.{Gap}
use Rattle.papaya_call.specs.declared.compute.Gap.TheVariants.{NoRoot, At, After}
use Rattle.papaya_call.specs.declared.compute.Purpose.{Purpose}
use Rattle.papaya_call.specs.declared.compute.Purpose.TheVariants.{Fill, Replace, Again}
use Rattle.papaya_call.specs.declared.compute.Remembered.{Remembered}
use Rattle.papaya_call.specs.declared.remove.Removal.{Removal}
use Rattle.papaya_call.specs.declared.search.Place.{Place}
use Rattle.papaya_call.specs.declared.search.Search.TheVariants.{Sizing, Looking, Reading, Comparing}
use Rattle.papaya_call.specs.declared.search.ProbeStep.{ProbeStep}
use Rattle.papaya_call.specs.declared.search.ProbeStep.TheVariants as seen
use Rattle.papaya_call.specs.declared.made.Made.{Made}
use Rattle.papaya_call_law.proofs.Makings.{IsPairAsk, IsWriteAsk, exchanged_leads, lost_leads}
use Rattle.papaya_call_law.proofs.Makings.{numbered_leads, pairing_asks, refuses_leads, told_leads}
use Rattle.papaya_call_law.proofs.Makings.{write_asks}
use Rattle.papaya_call.specs.declared.write.Write.{Write}
use Rattle.papaya_call.specs.declared.machine.Machine.{Machine}
use Rattle.papaya_call.specs.declared.machine.State.{State as Stage}
use Rattle.papaya_call.specs.declared.machine.State.TheVariants.{AtRoot, Making, Opening, Searching}
use Rattle.papaya_call.specs.declared.machine.State.TheVariants.{Writing, Offering, Showing}
use Rattle.papaya_call.specs.declared.machine.State.TheVariants.{Pairing, Putting, Burying}
use Rattle.papaya_call.specs.declared.machine.State.TheVariants.{Counting, Noting, Uncounting}
use Rattle.papaya_call.specs.declared.machine.State.TheVariants.{Leaving, Growing, Ended}
use Rattle.papaya_call.specs.declared.made.Grown.{Grown}
use Rattle.papaya_call.specs.declared.made.Grown.TheVariants.{On, Pair}
use Rattle.papaya_call.specs.Made.{grown, serves_at, told}
use Rattle.papaya_call.specs.Compute.{fills, in_place_of, recalled, recalls}
use Rattle.papaya_call.specs.Machine.{absent, after, ask_of, asks, at_root, beaten_as, beaten_by}
use Rattle.papaya_call.specs.Machine.{computes, goes_as, left, paired, paired_held, removes}
use Rattle.papaya_call.specs.Machine.{replaces, written}
use Rattle.papaya_call.specs.Search.{look as look_seen, at_word as search_loaded, at_yes as search_compared}
use Rattle.papaya_call_law.specs.Says.{HasCalledNone, IsFilled}
use Rattle.papaya_call_law.proofs.Leads.{occupies_leads}
use Rattle.papaya_call.specs.Write.{claimed_by, serves}

-- a machine whose closure was called with None does not ask to call it so again
asks_other : (made : Made) (hash : ℕ) (fill : Option ℕ) (stage : Stage) → HasCalledNone fill stage → asks made hash stage ≡ ShowNone → ⊥
asks_other made hash fill AtRoot h e = cc e
asks_other made hash fill Making h e = cc e
asks_other made hash fill (Opening t) h e = cc e
asks_other made hash fill (Searching (Sizing t)) h e = cc e
asks_other made hash fill (Searching (Looking at)) h e = cc e
asks_other made hash fill (Searching (Reading at)) h e = cc e
asks_other made hash fill (Searching (Comparing at word)) h e = cc e
asks_other made hash fill (Writing write) h e = subst IsWriteAsk e (write_asks made write)
asks_other made hash fill (Offering gap) h e = h
asks_other made hash fill (Showing removal) h e = cc e
asks_other made hash fill (Pairing purpose) h e = subst IsPairAsk e (pairing_asks made purpose)
asks_other made hash fill (Putting put) h e = cc e
asks_other made hash fill (Burying removal) h e = cc e
asks_other made hash fill (Counting n) h e = cc e
asks_other made hash fill (Noting n) h e = cc e
asks_other made hash fill (Uncounting n) h e = cc e
asks_other made hash fill (Leaving t) h e = cc e
asks_other made hash fill (Growing t) h e = cc e
asks_other made hash fill (Ended reply) h e = cc e

-- once the insertion is remembered the closure is called with None nowhere
fills_shown : (gap : Gap) (n : ℕ) → HasCalledNone (Some n) (fills gap n)
fills_shown NoRoot n = tt
fills_shown (At place) n = tt
fills_shown (After t) n = tt

-- so an absent key leads to no such call
absent_shown : (task : Task) (fill : Option ℕ) (gap : Gap) → IsFilled fill → HasCalledNone fill (absent task fill gap)
absent_shown Get fill gap h = tt
absent_shown (Insert replace) fill gap h = tt
absent_shown RemoveIf fill gap h = tt
absent_shown Compute None gap h = absurd h
absent_shown Compute (Some n) gap h = fills_shown gap n

-- nor does a pair that is met
recalls_shown : (fill : Option ℕ) (choice : Option Choice) (at : Place) (word pair : ℕ) → IsFilled fill → HasCalledNone fill (recalls choice at word pair)
recalls_shown fill None at word pair h = h
recalls_shown fill (Some (To_replace old new)) at word pair h =
    cond_both (old == pair) (recalled new at word) (Showing (record { place = at; word = word })) (HasCalledNone fill)
    (λ _. cond_both (serves_at new at.table at.probe.i) (Putting (record { write = record { place = at; old = word }; pair = new.pair }))
    (Pairing (Again (record { place = at; old = word }))) (HasCalledNone fill) (λ _. h) (λ _. h))
    (λ _. h)
recalls_shown fill (Some (To_remove old)) at word pair h = cond_both (old == pair) (Burying (record { place = at; word = word }))
    (Showing (record { place = at; word = word })) (HasCalledNone fill) (λ _. h) (λ _. h)

-- nor one that a compute found
computes_shown : (kd : Kind) (held : Remembered) (at : Place) (word : ℕ) → IsFilled held.fill → HasCalledNone held.fill (computes kd held at word)
computes_shown word_kinds.Empty held at word h = h
computes_shown word_kinds.Live held at word h = recalls_shown held.fill held.choice at word (pair_of word) h
computes_shown word_kinds.Marked held at word h = h
computes_shown word_kinds.Copied held at word h = h
computes_shown word_kinds.Buried held at word h = h
computes_shown word_kinds.Closed held at word h = h

-- nor one that a removal found
removes_shown : (fill : Option ℕ) (kd : Kind) (at : Place) (word : ℕ) → IsFilled fill → HasCalledNone fill (removes kd at word)
removes_shown fill word_kinds.Empty at word h = h
removes_shown fill word_kinds.Live at word h = h
removes_shown fill word_kinds.Marked at word h = h
removes_shown fill word_kinds.Copied at word h = h
removes_shown fill word_kinds.Buried at word h = h
removes_shown fill word_kinds.Closed at word h = h

-- nor one that an insertion replaces
replaces_shown : (fill : Option ℕ) (kd : Kind) (at : Place) (word : ℕ) → IsFilled fill → HasCalledNone fill (replaces kd at word)
replaces_shown fill word_kinds.Empty at word h = h
replaces_shown fill word_kinds.Live at word h = h
replaces_shown fill word_kinds.Marked at word h = h
replaces_shown fill word_kinds.Copied at word h = h
replaces_shown fill word_kinds.Buried at word h = h
replaces_shown fill word_kinds.Closed at word h = h

-- after a search
goes_shown : (task : Task) (mode : ResizeMode) (held : Remembered) (s : ProbeStep) → IsFilled held.fill → HasCalledNone held.fill (goes_as task mode held s)
goes_shown task mode held (seen.On way) h = h
goes_shown Get mode held (seen.Here at word) h = tt
goes_shown (Insert false) mode held (seen.Here at word) h = occupies_leads (HasCalledNone held.fill) (kind_of word) at word tt h
goes_shown (Insert true) mode held (seen.Here at word) h = replaces_shown held.fill (kind_of word) at word h
goes_shown RemoveIf mode held (seen.Here at word) h = removes_shown held.fill (kind_of word) at word h
goes_shown Compute mode held (seen.Here at word) h = computes_shown (kind_of word) held at word h
goes_shown Get mode held (seen.Empty at) h = tt
goes_shown RemoveIf mode held (seen.Empty at) h = tt
goes_shown Compute mode held (seen.Empty at) h = absent_shown Compute held.fill (At at) h
goes_shown (Insert replace) mode held (seen.Empty at) h = h
goes_shown Get (Incremental chunk) held (seen.Over t) h = h
goes_shown Get Blocking held (seen.Over t) h = tt
goes_shown RemoveIf (Incremental chunk) held (seen.Over t) h = h
goes_shown RemoveIf Blocking held (seen.Over t) h = tt
goes_shown Compute (Incremental chunk) held (seen.Over t) h = h
goes_shown Compute Blocking held (seen.Over t) h = absent_shown Compute held.fill (After t) h
goes_shown (Insert replace) mode held (seen.Over t) h = h

-- after the words of tables
root_shown : (task : Task) (fill : Option ℕ) (word : ℕ) → IsFilled fill → HasCalledNone fill (at_root task fill word)
root_shown Get fill word h = cond_both (word == 0) (Ended Absent) (Searching (Sizing word)) (HasCalledNone fill) (λ _. tt) (λ _. h)
root_shown RemoveIf fill word h = cond_both (word == 0) (Ended Absent) (Searching (Sizing word)) (HasCalledNone fill) (λ _. tt) (λ _. h)
root_shown Compute fill word h = cond_both (word == 0) (absent Compute fill NoRoot) (Searching (Sizing word)) (HasCalledNone fill)
    (λ _. absent_shown Compute fill NoRoot h) (λ _. h)
root_shown (Insert replace) fill word h = cond_both (word == 0) Making (Searching (Sizing word)) (HasCalledNone fill) (λ _. h) (λ _. h)

-- a next table
next_shown : (task : Task) (fill : Option ℕ) (t word : ℕ) → IsFilled fill → HasCalledNone fill (left task fill t word)
next_shown task fill t word h = cond_both (word == 0) (absent task fill (After t)) (Searching (Sizing word)) (HasCalledNone fill)
    (λ _. absent_shown task fill (After t) h) (λ _. h)

-- after a deletion that was lost
beaten_shown : (kd : Kind) (m : Machine) (at : Place) (word : ℕ) → IsFilled m.remembered.fill → HasCalledNone m.remembered.fill (beaten_by kd m at word)
beaten_shown word_kinds.Buried m at word h = tt
beaten_shown word_kinds.Empty m at word h = goes_shown m.task m.mode m.remembered (look_seen at word) h
beaten_shown word_kinds.Live m at word h = goes_shown m.task m.mode m.remembered (look_seen at word) h
beaten_shown word_kinds.Marked m at word h = goes_shown m.task m.mode m.remembered (look_seen at word) h
beaten_shown word_kinds.Copied m at word h = goes_shown m.task m.mode m.remembered (look_seen at word) h
beaten_shown word_kinds.Closed m at word h = goes_shown m.task m.mode m.remembered (look_seen at word) h

-- and after a write
written_shown : (fill : Option ℕ) (write : Write) (n : ℕ) → IsFilled fill → HasCalledNone fill (written write n)
written_shown fill write n h = cond_both (write.old == 0) (Counting (claimed_by write n)) (Ended (Replaced (pair_of write.old) n)) (HasCalledNone fill)
    (λ _. h) (λ _. tt)

module _ (m : Machine) where
  -- the machine of these
  abbrev on : Task → Made → Stage → Machine
  on task made stage = record m { task = task; made = made; state = stage }

  -- by the task
  beaten_task_shown : (task : Task) (made : Made) (removal : Removal) (word : ℕ) → IsFilled m.remembered.fill
      → HasCalledNone m.remembered.fill (beaten_as task (on task made (Burying removal)) removal.place word)
  beaten_task_shown Get made removal word h = beaten_shown (kind_of word) (on Get made (Burying removal)) removal.place word h
  beaten_task_shown (Insert replace) made removal word h = beaten_shown (kind_of word) (on (Insert replace) made (Burying removal)) removal.place word h
  beaten_task_shown RemoveIf made removal word h = beaten_shown (kind_of word) (on RemoveIf made (Burying removal)) removal.place word h
  beaten_task_shown Compute made removal word h = goes_shown Compute m.mode m.remembered (look_seen removal.place word) h

  -- the closure of a machine was called with None
  abbrev HasCalled : Machine → Type 0
  HasCalled then = HasCalledNone then.remembered.fill then.state

  -- after a closure's result for a pair
  chosen_shown : (made : Made) (removal : Removal) (kind : OpKind) → IsFilled m.remembered.fill → HasCalled (after (on Compute made (Showing removal)) (Op kind))
  chosen_shown made removal ops.Insert h = h
  chosen_shown made removal ops.Remove h = h
  chosen_shown made removal (ops.Abort with) h = tt

  -- after a part was made for a compute
  pairing_shown : (purpose : Purpose) (n : ℕ) → HasCalledNone m.remembered.fill (Pairing purpose) → (G : Grown)
      → HasCalledNone (paired_held G m.remembered purpose n).fill (paired G purpose n)
  pairing_shown purpose n h (On next) = h
  pairing_shown (Fill gap) n h (Pair next) = fills_shown gap n
  pairing_shown (Replace write) n h (Pair next) = h
  pairing_shown (Again write) n h (Pair next) = h

  -- in each stage
  shown_in : (task : Task) (made : Made) (stage : Stage) (answer : Answer) → HasCalledNone m.remembered.fill stage → HasCalled (after (on task made stage) answer)
  shown_in task made AtRoot (Word_read word) h = root_shown task m.remembered.fill word h
  shown_in task made AtRoot answer h = h
  shown_in task made Making (Was_refused refused) h = tt
  shown_in task made Making answer h = h
  shown_in task made (Opening t) Exchanged h = h
  shown_in task made (Opening t) answer h = h
  shown_in task made (Searching place) (Word_read word) h = goes_shown task m.mode m.remembered (search_loaded place m.hash word) h
  shown_in task made (Searching place) (Yes same) h = goes_shown task m.mode m.remembered (search_compared place same) h
  shown_in task made (Searching place) answer h = h
  shown_in task made (Writing write) (Word_read word) h = told_leads (HasCalledNone m.remembered.fill) tt write h (serves made write) made word
  shown_in task made (Writing write) (Found_instead word) h =
      let machine : Machine = on task made (Writing write) in
      lost_leads (HasCalledNone m.remembered.fill) tt write h machine word (goes_shown task m.mode m.remembered (look_seen write.place word) h)
      (serves made write)
  shown_in task made (Writing write) Exchanged h = exchanged_leads (HasCalledNone m.remembered.fill) write h
      (λ n. written_shown m.remembered.fill write n h) (serves made write)
  shown_in task made (Writing write) (Was_refused refused) h = refuses_leads (HasCalledNone m.remembered.fill) write refused h tt (serves made write)
  shown_in task made (Writing write) answer h = h
  shown_in task made (Offering gap) answer h = absurd h
  shown_in RemoveIf made (Showing removal) (Yes true) h = h
  shown_in RemoveIf made (Showing removal) (Yes false) h = tt
  shown_in Get made (Showing removal) (Yes same) h = h
  shown_in (Insert replace) made (Showing removal) (Yes same) h = h
  shown_in Compute made (Showing removal) (Yes same) h = h
  shown_in Compute made (Showing removal) (Op kind) h = chosen_shown made removal kind h
  shown_in Get made (Showing removal) (Op kind) h = h
  shown_in (Insert replace) made (Showing removal) (Op kind) h = h
  shown_in RemoveIf made (Showing removal) (Op kind) h = h
  shown_in task made (Showing removal) answer h = h
  shown_in task made (Pairing purpose) (Made_number n) h = pairing_shown purpose n h (grown made (in_place_of purpose))
  shown_in task made (Pairing purpose) (Word_read word) h = numbered_leads (HasCalledNone m.remembered.fill) tt (Pairing purpose) h (told made word)
  shown_in task made (Pairing purpose) (Found_instead word) h = numbered_leads (HasCalledNone m.remembered.fill) tt (Pairing purpose) h (told made word)
  shown_in task made (Pairing purpose) (Was_refused refused) h = tt
  shown_in task made (Pairing purpose) answer h = h
  shown_in task made (Putting put) Exchanged h = written_shown m.remembered.fill put.write put.pair h
  shown_in task made (Putting put) (Found_instead word) h = goes_shown task m.mode m.remembered (look_seen put.write.place word) h
  shown_in task made (Putting put) answer h = h
  shown_in task made (Burying removal) (Found_instead word) h = beaten_task_shown task made removal word h
  shown_in task made (Burying removal) answer h = h
  shown_in task made (Counting n) Ok_done h = h
  shown_in task made (Noting n) Ok_done h = tt
  shown_in task made (Counting n) answer h = h
  shown_in task made (Noting n) answer h = h
  shown_in task made (Uncounting n) Ok_done h = tt
  shown_in task made (Uncounting n) answer h = h
  shown_in task made (Leaving t) (Word_read word) h = next_shown task m.remembered.fill t word h
  shown_in task made (Leaving t) answer h = h
  shown_in task made (Growing t) (Word_read word) h = tt
  shown_in task made (Growing t) answer h = h
  shown_in task made (Ended reply) Exchanged h = h
  shown_in task made (Ended reply) answer h = h

  -- for the whole machine
  pub machine_shown : (answer : Answer) → HasCalledNone m.remembered.fill m.state → (ask_of m ≡ ShowNone → ⊥)
      × HasCalledNone (after m answer).remembered.fill (after m answer).state
  machine_shown answer h = (asks_other m.made m.hash m.remembered.fill m.state h, shown_in m.task m.made m.state answer h)
