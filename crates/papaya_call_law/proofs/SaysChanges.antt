-- A change of the map is the closure's result, and a call is aborted only by its closure.
use Rattle.std.proofs.Common.{◌≡◌, inl, ℕ, ◌==◌, Bool, true, false, cond, Option, None, Some, refl, sym, ap, ◌∙◌, subst}
use Rattle.std.proofs.lemmas.Bool.{cond_both}
use Rattle.papaya_words.specs.Word.{pair_of}
use Rattle.papaya_words.specs.declared.refused.Refused.TheVariants.{Capacity}
use Rattle.papaya_words.specs.declared.resize_mode.ResizeMode.{ResizeMode}
use Rattle.papaya_call.specs.declared.ask.Ask.{Ask}
use Rattle.papaya_call.specs.declared.ask.Ask.TheVariants.{Done as Ask_done}
use Rattle.papaya_call.specs.declared.ask.Answer.{Answer}
use Rattle.papaya_call.specs.declared.ask.Answer.TheVariants.{Word as Word_read, Exchanged}
use Rattle.papaya_call.specs.declared.ask.Answer.TheVariants.{Found as Found_instead, Yes, Op, Size}
use Rattle.papaya_call.specs.declared.ask.Answer.TheVariants.{Made as Made_number, Ok as Ok_done}
use Rattle.papaya_call.specs.declared.ask.Answer.TheVariants.{Refused as Was_refused}
use Rattle.papaya_call.specs.declared.ask.OpKind.{OpKind}
use Rattle.papaya_call.specs.declared.ask.OpKind.TheVariants as ops
use Rattle.papaya_call.specs.declared.call.Reply.{Reply}
use Rattle.papaya_call.specs.declared.call.Reply.TheVariants.{Aborted, Kept, Replaced, Refused as Reply_refused}
use Rattle.papaya_call.specs.declared.call.Task.{Task}
use Rattle.papaya_call.specs.declared.call.Task.TheVariants.{Get, Insert, RemoveIf, Compute}
use Rattle.papaya_call.specs.declared.compute.Gap.{Gap}
use Rattle.papaya_call.specs.declared.compute.Purpose.{Purpose}
use Rattle.papaya_call.specs.declared.compute.Purpose.TheVariants.{Fill}
use Rattle.papaya_call.specs.declared.compute.Put.{Put}
use Rattle.papaya_call.specs.declared.compute.Remembered.{Remembered}
use Rattle.papaya_call.specs.declared.remove.Removal.{Removal}
use Rattle.papaya_call.specs.declared.search.Search.TheVariants.{Sizing, Looking, Reading, Comparing}
use Rattle.papaya_call.specs.declared.search.ProbeStep.{ProbeStep}
use Rattle.papaya_call.specs.declared.made.Made.{Made}
use Rattle.papaya_call_law.proofs.Makings.{HoldsOfPairAsks, exchanged_leads, lost_leads}
use Rattle.papaya_call_law.proofs.Makings.{numbered_leads, pair_holds, paired_leads, refuses_leads}
use Rattle.papaya_call_law.proofs.Makings.{told_leads, write_holds}
use Rattle.papaya_call.specs.declared.write.Write.{Write}
use Rattle.papaya_call.specs.declared.machine.Machine.{Machine}
use Rattle.papaya_call.specs.declared.machine.State.{State as Stage}
use Rattle.papaya_call.specs.declared.machine.State.TheVariants.{AtRoot, Making, Opening, Searching}
use Rattle.papaya_call.specs.declared.machine.State.TheVariants.{Writing, Offering, Showing}
use Rattle.papaya_call.specs.declared.machine.State.TheVariants.{Pairing, Putting, Burying}
use Rattle.papaya_call.specs.declared.machine.State.TheVariants.{Counting, Noting, Uncounting}
use Rattle.papaya_call.specs.declared.machine.State.TheVariants.{Leaving, Growing, Ended}
use Rattle.papaya_call.specs.Compute.{chosen, in_place_of, offered, provides}
use Rattle.papaya_call.specs.Made.{grown, told}
use Rattle.papaya_call.specs.Machine.{IsValid, IsValidState, IsComputer, IsWriter, HasClosure}
use Rattle.papaya_call.specs.Machine.{after, ask_of, asks, at_root, beaten, goes_as, left, numbered}
use Rattle.papaya_call.specs.Machine.{refuses, write_lost, write_told, written}
use Rattle.papaya_call_law.specs.Relies.{change_in}
use Rattle.papaya_call.specs.Search.{look as look_seen, at_size as search_sized, at_word as search_loaded, at_yes as search_compared}
use Rattle.papaya_call_law.specs.Says.{IsResultChange, shown_by, show}
use Rattle.papaya_call_law.proofs.Leads.{HoldsOfLeads, beaten_leads, goes_leads, left_leads, provides_leads, root_leads}
use Rattle.papaya_call.specs.Write.{claimed_by, serves}

-- how a call has been aborted
abbrev abort_of_reply : Reply → Option ℕ
abort_of_reply (Aborted with) = Some with
abort_of_reply _ = None

-- in a stage
abbrev abort_in : Stage → Option ℕ
abort_in (Ended reply) = abort_of_reply reply
abort_in _ = None

-- by an ask
abbrev abort_of : Ask → Option ℕ
abort_of (Ask_done reply) = abort_of_reply reply
abort_of _ = None

-- the asks for a pair abort nothing
pairs_unaborted : HoldsOfPairAsks (λ ask. abort_of ask ≡ None)
pairs_unaborted = record { loads = refl; takes = λ count. refl; key = refl; value = refl; pair = refl; pair_of = λ n. refl }

-- its ask states it
abort_asked : (made : Made) (hash : ℕ) (stage : Stage) → abort_of (asks made hash stage) ≡ abort_in stage
abort_asked made hash AtRoot = refl
abort_asked made hash Making = refl
abort_asked made hash (Opening t) = refl
abort_asked made hash (Searching (Sizing t)) = refl
abort_asked made hash (Searching (Looking at)) = refl
abort_asked made hash (Searching (Reading at)) = refl
abort_asked made hash (Searching (Comparing at word)) = refl
abort_asked made hash (Writing write) = write_holds (λ ask. abort_of ask ≡ None) pairs_unaborted write (λ n. refl) made
abort_asked made hash (Offering gap) = refl
abort_asked made hash (Showing removal) = refl
abort_asked made hash (Pairing purpose) = pair_holds (λ ask. abort_of ask ≡ None) pairs_unaborted made (in_place_of purpose)
abort_asked made hash (Putting put) = refl
abort_asked made hash (Burying removal) = refl
abort_asked made hash (Counting n) = refl
abort_asked made hash (Noting n) = refl
abort_asked made hash (Uncounting n) = refl
abort_asked made hash (Leaving t) = refl
abort_asked made hash (Growing t) = refl
abort_asked made hash (Ended reply) = refl

-- nothing has been changed, and the call was not aborted
abbrev IsIdle : Stage → Type 0
IsIdle stage = (change_in stage ≡ None) × (abort_in stage ≡ None)

-- this holds after a load or a search
leads_idle : HoldsOfLeads IsIdle
leads_idle = record {
  ended_absent = (refl, refl);
  ended_found = λ n. (refl, refl);
  ended_occupied = λ n. (refl, refl);
  making = (refl, refl);
  searching = λ place. (refl, refl);
  writing = λ write. (refl, refl);
  offering = λ gap. (refl, refl);
  showing = λ removal. (refl, refl);
  pairing = λ purpose. (refl, refl);
  putting = λ put. (refl, refl);
  burying = λ removal. (refl, refl);
  leaving = λ t. (refl, refl);
  growing = λ t. (refl, refl);
}

-- and after a probe
goes_idle : (task : Task) (mode : ResizeMode) (held : Remembered) (s : ProbeStep) → IsIdle (goes_as task mode held s)
goes_idle task mode held s = goes_leads IsIdle leads_idle task mode held s

-- a pair that was written replaces the one that its old word names
put_change : (write : Write) (n : ℕ) (old new : Option ℕ) (Holds : Option ℕ → Option ℕ → Type 0) → Holds (shown_by write.old) (Some n)
    → change_in (written write n) ≡ Some (old, new) → Holds old new
put_change write n old new Holds = by_old (write.old == 0)
  where
    by_old : (b : Bool) → Holds (cond b None (Some (pair_of write.old))) (Some n)
        → change_in (cond b (Counting (claimed_by write n)) (Ended (Replaced (pair_of write.old) n))) ≡ Some (old, new) → Holds old new
    by_old true h e = let is : (None, Some n) ≡ (old, new) = cc e in subst (λ (c : Option ℕ × Option ℕ). Holds c.0 c.1) is h
    by_old false h e = let is : (Some (pair_of write.old), Some n) ≡ (old, new) = cc e in subst (λ (c : Option ℕ × Option ℕ). Holds c.0 c.1) is h

-- and aborts nothing
put_unaborted : (write : Write) (n : ℕ) → abort_in (written write n) ≡ None
put_unaborted write n = cond_both (write.old == 0) (Counting (claimed_by write n)) (Ended (Replaced (pair_of write.old) n)) (λ s. abort_in s ≡ None)
    (λ _. refl) (λ _. refl)

module _ (m : Machine) where
  -- the machine of these
  abbrev on : Task → Made → Stage → Machine
  on task made stage = record m { task = task; made = made; state = stage }

  -- the closure aborts the call by its result
  abbrev IsAbort : Made → Stage → Answer → ℕ → Type 0
  IsAbort made stage answer with = (shown : Option ℕ) × (asks made m.hash stage ≡ show shown) × (answer ≡ Op (ops.Abort with))

  -- in the state after the answer a change is the closure's result, and so is an abort
  record IsRight (task : Task) (made : Made) (stage : Stage) (answer : Answer) (then : Stage) : Type 0 where
    pub change : (old new : Option ℕ) → IsValidState task stage → change_in stage ≡ None → change_in then ≡ Some (old, new)
        → IsResultChange task (on task made stage) old new
    pub abort : (with : ℕ) → ((reply : Reply) → asks made m.hash stage ≡ Ask_done reply → ⊥) → abort_in then ≡ Some with → IsAbort made stage answer with

  -- nothing was changed or aborted
  idle : (task : Task) (made : Made) (stage : Stage) (answer : Answer) (then : Stage) → IsIdle then → IsRight task made stage answer then
  idle task made stage answer then i = record {
    change = λ old new is before e. let no : None ≡ Some (old, new) = sym i.0 ∙ e in absurd cc;
    abort = λ with open_still e. let no : None ≡ Some with = sym i.1 ∙ e in absurd cc;
  }

  -- nothing more
  stable : (task : Task) (made : Made) (stage : Stage) (answer : Answer) → abort_in stage ≡ None → IsRight task made stage answer stage
  stable task made stage answer none = record {
    change = λ old new is before e. let no : None ≡ Some (old, new) = sym before ∙ e in absurd cc;
    abort = λ with open_still e. let no : None ≡ Some with = sym none ∙ e in absurd cc;
  }

  -- a pair that a compute put
  put_said : (task : Task) (made : Made) (put : Put) → IsComputer task → (old new : Option ℕ)
      → change_in (written put.write put.pair) ≡ Some (old, new) → IsResultChange task (on task made (Putting put)) old new
  put_said Get made put is old new e = absurd is
  put_said (Insert replace) made put is old new e = absurd is
  put_said RemoveIf made put is old new e = absurd is
  put_said Compute made put is old new e = put_change put.write put.pair old new (λ o n. IsResultChange Compute (on Compute made (Putting put)) o n) (inl refl) e

  -- by its exchange
  put_right : (task : Task) (made : Made) (put : Put) → IsRight task made (Putting put) Exchanged (written put.write put.pair)
  put_right task made put = record {
    change = λ old new is before e. put_said task made put is.0 old new e;
    abort = λ with open_still e. let no : None ≡ Some with = sym (put_unaborted put.write put.pair) ∙ e in absurd cc;
  }

  -- a pair that an insertion wrote
  write_said : (task : Task) (made : Made) (write : Write) → IsWriter task → (old new : Option ℕ) → IsResultChange task (on task made (Writing write)) old new
  write_said Get made write is old new = absurd is
  write_said (Insert replace) made write is old new = tt
  write_said RemoveIf made write is old new = absurd is
  write_said Compute made write is old new = absurd is

  -- by its exchange
  write_right : (task : Task) (made : Made) (write : Write) (n : ℕ) → IsRight task made (Writing write) Exchanged (written write n)
  write_right task made write n = record {
    change = λ old new is before e. write_said task made write is.0 old new;
    abort = λ with open_still e. let no : None ≡ Some with = sym (put_unaborted write n) ∙ e in absurd cc;
  }

  -- a pair that was deleted
  bury_change : (task : Task) (made : Made) (removal : Removal) → HasClosure task
      → IsResultChange task (on task made (Burying removal)) (Some (pair_of removal.word)) None
  bury_change Get made removal is = absurd is
  bury_change (Insert replace) made removal is = absurd is
  bury_change RemoveIf made removal is = inl refl
  bury_change Compute made removal is = inl refl

  -- by its exchange
  bury_right : (task : Task) (made : Made) (removal : Removal) → IsRight task made (Burying removal) Exchanged (Uncounting (pair_of removal.word))
  bury_right task made removal = record {
    change = λ old new is before e.
        let gone : (Some (pair_of removal.word), None) ≡ (old, new) = cc e in
        subst (λ (c : Option ℕ × Option ℕ). IsResultChange task (on task made (Burying removal)) c.0 c.1) gone (bury_change task made removal is.0);
    abort = λ with open_still e. absurd cc;
  }

  -- a closure has returned
  offered_right : (task : Task) (made : Made) (gap : Gap) (kind : OpKind) → IsRight task made (Offering gap) (Op kind) (offered gap kind)
  offered_right task made gap ops.Insert = idle task made (Offering gap) (Op ops.Insert) (Pairing (Fill gap)) (refl, refl)
  offered_right task made gap ops.Remove = idle task made (Offering gap) (Op ops.Remove) (offered gap ops.Remove) (refl, refl)
  offered_right task made gap (ops.Abort t) = record {
    change = λ old new is before e. absurd cc;
    abort = λ with open_still e. let is : t ≡ with = cc e in (None, refl, ap (λ n. Op (ops.Abort n)) is);
  }

  -- for a pair that it was called with
  chosen_right : (made : Made) (removal : Removal) (kind : OpKind) → IsRight Compute made (Showing removal) (Op kind) (chosen removal kind)
  chosen_right made removal ops.Insert = idle Compute made (Showing removal) (Op ops.Insert) (chosen removal ops.Insert) (refl, refl)
  chosen_right made removal ops.Remove = idle Compute made (Showing removal) (Op ops.Remove) (Burying removal) (refl, refl)
  chosen_right made removal (ops.Abort t) = record {
    change = λ old new is before e. absurd cc;
    abort = λ with open_still e. let is : t ≡ with = cc e in (Some (pair_of removal.word), refl, ap (λ n. Op (ops.Abort n)) is);
  }

  -- a pair was made from its result
  provided_right : (task : Task) (made : Made) (purpose : Purpose) (n : ℕ) → IsRight task made (Pairing purpose) (Made_number n) (provides purpose n)
  provided_right task made purpose n = idle task made (Pairing purpose) (Made_number n) (provides purpose n) (provides_leads IsIdle leads_idle purpose n)

  -- and one that has replied changes nothing more
  ended_right : (task : Task) (made : Made) (reply : Reply) (answer : Answer) → IsRight task made (Ended reply) answer (Ended reply)
  ended_right task made reply answer = record {
    change = λ old new is before e. let no : None ≡ Some (old, new) = sym before ∙ e in absurd cc;
    abort = λ with open_still e. absurd (open_still reply refl);
  }

  -- in each stage
  right_in : (task : Task) (made : Made) (stage : Stage) (answer : Answer) → IsRight task made stage answer (after (on task made stage) answer).state
  right_in task made AtRoot (Word_read word) = idle task made AtRoot (Word_read word) (at_root task m.remembered.fill word)
      (root_leads IsIdle leads_idle task m.remembered.fill word)
  right_in task made AtRoot answer = stable task made AtRoot answer refl
  right_in task made Making (Made_number n) = idle task made Making (Made_number n) (Opening n) (refl, refl)
  right_in task made Making (Was_refused refused) = idle task made Making (Was_refused refused) (Ended (Reply_refused refused)) (refl, refl)
  right_in task made Making answer = stable task made Making answer refl
  right_in task made (Opening t) Exchanged = idle task made (Opening t) Exchanged (Searching (Sizing t)) (refl, refl)
  right_in task made (Opening t) (Found_instead word) = idle task made (Opening t) (Found_instead word) (Searching (Sizing word)) (refl, refl)
  right_in task made (Opening t) answer = stable task made (Opening t) answer refl
  right_in task made (Searching place) (Word_read word) =
      idle task made (Searching place) (Word_read word) (goes_as task m.mode m.remembered (search_loaded place m.hash word))
      (goes_idle task m.mode m.remembered (search_loaded place m.hash word))
  right_in task made (Searching place) (Yes same) =
      idle task made (Searching place) (Yes same) (goes_as task m.mode m.remembered (search_compared place same))
      (goes_idle task m.mode m.remembered (search_compared place same))
  right_in task made (Searching place) (Size slots limit) = idle task made (Searching place) (Size slots limit)
      (Searching (search_sized place m.hash slots limit)) (refl, refl)
  right_in task made (Searching place) answer = stable task made (Searching place) answer refl
  right_in task made (Writing write) (Word_read word) = idle task made (Writing write) (Word_read word)
      (write_told (serves made write) made write word) (told_leads IsIdle (refl, refl) write (refl, refl) (serves made write) made word)
  right_in task made (Writing write) (Found_instead word) =
      let machine : Machine = on task made (Writing write) in
      idle task made (Writing write) (Found_instead word) (write_lost (serves made write) machine write word)
      (lost_leads IsIdle (refl, refl) write (refl, refl) machine word (goes_idle task m.mode m.remembered (look_seen write.place word)) (serves made write))
  right_in task made (Writing write) Exchanged = exchanged_leads (IsRight task made (Writing write) Exchanged) write
      (stable task made (Writing write) Exchanged refl) (write_right task made write) (serves made write)
  right_in task made (Writing write) (Was_refused refused) = idle task made (Writing write) (Was_refused refused)
      (refuses (serves made write) refused write) (refuses_leads IsIdle write refused (refl, refl) (refl, refl) (serves made write))
  right_in task made (Writing write) answer = stable task made (Writing write) answer refl
  right_in task made (Offering gap) (Op kind) = offered_right task made gap kind
  right_in task made (Offering gap) answer = stable task made (Offering gap) answer refl
  right_in RemoveIf made (Showing removal) (Yes true) = idle RemoveIf made (Showing removal) (Yes true) (Burying removal) (refl, refl)
  right_in RemoveIf made (Showing removal) (Yes false) = idle RemoveIf made (Showing removal) (Yes false) (Ended (Kept (pair_of removal.word))) (refl, refl)
  right_in Get made (Showing removal) (Yes same) = stable Get made (Showing removal) (Yes same) refl
  right_in (Insert replace) made (Showing removal) (Yes same) = stable (Insert replace) made (Showing removal) (Yes same) refl
  right_in Compute made (Showing removal) (Yes same) = stable Compute made (Showing removal) (Yes same) refl
  right_in Compute made (Showing removal) (Op kind) = chosen_right made removal kind
  right_in Get made (Showing removal) (Op kind) = stable Get made (Showing removal) (Op kind) refl
  right_in (Insert replace) made (Showing removal) (Op kind) = stable (Insert replace) made (Showing removal) (Op kind) refl
  right_in RemoveIf made (Showing removal) (Op kind) = stable RemoveIf made (Showing removal) (Op kind) refl
  right_in task made (Showing removal) answer = stable task made (Showing removal) answer refl
  right_in task made (Pairing purpose) (Made_number n) = paired_leads (IsRight task made (Pairing purpose) (Made_number n)) purpose n
      (stable task made (Pairing purpose) (Made_number n) refl) (provided_right task made purpose n) (grown made (in_place_of purpose))
  right_in task made (Pairing purpose) (Word_read word) = idle task made (Pairing purpose) (Word_read word)
      (numbered (told made word) (Pairing purpose)) (numbered_leads IsIdle (refl, refl) (Pairing purpose) (refl, refl) (told made word))
  right_in task made (Pairing purpose) (Found_instead word) = idle task made (Pairing purpose) (Found_instead word)
      (numbered (told made word) (Pairing purpose)) (numbered_leads IsIdle (refl, refl) (Pairing purpose) (refl, refl) (told made word))
  right_in task made (Pairing purpose) (Was_refused refused) = idle task made (Pairing purpose) (Was_refused refused) (Ended (Reply_refused refused))
      (refl, refl)
  right_in task made (Pairing purpose) answer = stable task made (Pairing purpose) answer refl
  right_in task made (Putting put) Exchanged = put_right task made put
  right_in task made (Putting put) (Found_instead word) =
      idle task made (Putting put) (Found_instead word) (goes_as task m.mode m.remembered (look_seen put.write.place word))
      (goes_idle task m.mode m.remembered (look_seen put.write.place word))
  right_in task made (Putting put) answer = stable task made (Putting put) answer refl
  right_in task made (Burying removal) Exchanged = bury_right task made removal
  right_in task made (Burying removal) (Found_instead word) =
      idle task made (Burying removal) (Found_instead word) (beaten (on task made (Burying removal)) removal word)
      (beaten_leads IsIdle leads_idle (on task made (Burying removal)) removal word)
  right_in task made (Burying removal) answer = stable task made (Burying removal) answer refl
  right_in task made (Counting n) Ok_done = record { change = λ old new is before e. absurd (cc before); abort = λ with open_still e. absurd cc }
  right_in task made (Noting n) Ok_done = record { change = λ old new is before e. absurd (cc before); abort = λ with open_still e. absurd cc }
  right_in task made (Counting n) answer = stable task made (Counting n) answer refl
  right_in task made (Noting n) answer = stable task made (Noting n) answer refl
  right_in task made (Uncounting n) Ok_done = record { change = λ old new is before e. absurd (cc before); abort = λ with open_still e. absurd cc }
  right_in task made (Uncounting n) answer = stable task made (Uncounting n) answer refl
  right_in task made (Leaving t) (Word_read word) = idle task made (Leaving t) (Word_read word) (left task m.remembered.fill t word)
      (left_leads IsIdle leads_idle task m.remembered.fill t word)
  right_in task made (Leaving t) answer = stable task made (Leaving t) answer refl
  right_in task made (Growing t) (Word_read word) = idle task made (Growing t) (Word_read word) (Ended (Reply_refused Capacity)) (refl, refl)
  right_in task made (Growing t) answer = stable task made (Growing t) answer refl
  right_in task made (Ended reply) Exchanged = ended_right task made reply Exchanged
  right_in task made (Ended reply) answer = ended_right task made reply answer

  -- for the whole machine
  pub machine_changed : (answer : Answer) (old new : Option ℕ) → IsValid m → change_in m.state ≡ None
      → change_in (after m answer).state ≡ Some (old, new) → IsResultChange m.task m old new
  machine_changed answer old new valid before e = (right_in m.task m.made m.state answer).change old new valid.state before e

  -- and aborts only if its closure did
  pub machine_aborted : (answer : Answer) (with : ℕ) → ((reply : Reply) → ask_of m ≡ Ask_done reply → ⊥)
      → ask_of (after m answer) ≡ Ask_done (Aborted with) → (shown : Option ℕ) × (ask_of m ≡ show shown) × (answer ≡ Op (ops.Abort with))
  machine_aborted answer with open_still e =
      let then : Machine = after m answer in
      (right_in m.task m.made m.state answer).abort with open_still (sym (abort_asked then.made then.hash then.state) ∙ ap abort_of e)
