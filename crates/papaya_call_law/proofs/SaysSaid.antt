-- A machine acts only on results of its closure: it remembers the result, it acted on it before, or
-- its closure has just returned it.
use Rattle.std.proofs.Common.{◌≡◌, ◌⊎◌, inl, inr, ⊎_elim, ℕ, ◌<◌, ◌==◌, Bool, true, false, cond, Option, None, Some, refl, sym, ap, ◌∙◌, subst, arith}
use Rattle.std.proofs.lemmas.Bool.{cond_both, eqb-true}
use Rattle.papaya_words.specs.Word.{kind_of, pair_of}
use Rattle.papaya_words.specs.declared.refused.Refused.{Refused}
use Rattle.papaya_words.specs.declared.refused.Refused.TheVariants.{Capacity, Limit, RemoveNothing}
use Rattle.papaya_words.specs.declared.resize_mode.ResizeMode.{ResizeMode}
use Rattle.papaya_words.specs.declared.resize_mode.ResizeMode.TheVariants.{Incremental, Blocking}
use Rattle.papaya_words.specs.declared.word.Kind.{Kind}
use Rattle.papaya_words.specs.declared.word.Kind.TheVariants as word_kinds
use Rattle.papaya_call.specs.declared.ask.Answer.{Answer}
use Rattle.papaya_call.specs.declared.ask.Answer.TheVariants.{Word as Word_read, Exchanged}
use Rattle.papaya_call.specs.declared.ask.Answer.TheVariants.{Found as Found_instead, Yes, Op}
use Rattle.papaya_call.specs.declared.ask.Answer.TheVariants.{Made as Made_number, Ok as Ok_done}
use Rattle.papaya_call.specs.declared.ask.Answer.TheVariants.{Refused as Was_refused}
use Rattle.papaya_call.specs.declared.ask.OpKind.{OpKind}
use Rattle.papaya_call.specs.declared.ask.OpKind.TheVariants as ops
use Rattle.papaya_call.specs.declared.call.Reply.TheVariants.{Absent, Aborted, Inserted, Removed, Replaced, Refused as Reply_refused}
use Rattle.papaya_call.specs.declared.call.Task.{Task}
use Rattle.papaya_call.specs.declared.call.Task.TheVariants.{Get, Insert, RemoveIf, Compute}
use Rattle.papaya_call.specs.declared.compute.Choice.{Choice}
use Rattle.papaya_call.specs.declared.compute.Choice.TheVariants.{Replace as To_replace, Remove as To_remove}
use Rattle.papaya_call.specs.declared.compute.Gap.{Gap}
use Rattle.papaya_call.specs.declared.compute.Gap.TheVariants.{NoRoot, At, After}
use Rattle.papaya_call.specs.declared.compute.Purpose.{Purpose}
use Rattle.papaya_call.specs.declared.compute.Purpose.TheVariants.{Fill, Replace, Again}
use Rattle.papaya_call.specs.declared.compute.Remembered.{Remembered}
use Rattle.papaya_call.specs.declared.remove.Removal.{Removal}
use Rattle.papaya_call.specs.declared.search.Place.{Place}
use Rattle.papaya_call.specs.declared.search.Search.TheVariants.{Sizing}
use Rattle.papaya_call.specs.declared.search.ProbeStep.{ProbeStep}
use Rattle.papaya_call.specs.declared.search.ProbeStep.TheVariants as seen
use Rattle.papaya_call.specs.declared.made.Made.{Made}
use Rattle.papaya_call_law.proofs.Makings.{exchanged_leads, lost_leads, makes_pair, numbered_leads, refuses_leads, told_leads}
use Rattle.papaya_call.specs.declared.write.Write.{Write}
use Rattle.papaya_call.specs.declared.machine.Machine.{Machine}
use Rattle.papaya_call.specs.declared.machine.State.{State as Stage}
use Rattle.papaya_call.specs.declared.machine.State.TheVariants.{AtRoot, Making, Opening, Searching}
use Rattle.papaya_call.specs.declared.machine.State.TheVariants.{Writing, Offering, Showing}
use Rattle.papaya_call.specs.declared.machine.State.TheVariants.{Pairing, Putting, Burying}
use Rattle.papaya_call.specs.declared.machine.State.TheVariants.{Counting, Noting, Uncounting}
use Rattle.papaya_call.specs.declared.machine.State.TheVariants.{Leaving, Growing, Ended}
use Rattle.papaya_call.specs.declared.made.Grown.{Grown}
use Rattle.papaya_call.specs.declared.made.Grown.TheVariants.{On, Pair}
use Rattle.papaya_call.specs.Made.{grown, pair_ask, serves_at, told}
use Rattle.papaya_call.specs.Compute.{chosen, fills, in_place_of, offered, provides, recalled, recalls, with_choice, with_pair}
use Rattle.papaya_call.specs.Machine.{IsValid, IsValidState, IsWriter, absent, after, at_root}
use Rattle.papaya_call.specs.Machine.{beaten_as, beaten_by, computes, goes_as, left, paired}
use Rattle.papaya_call.specs.Machine.{paired_held, removes, replaces, written}
use Rattle.papaya_call.specs.Search.{look as look_seen, at_word as search_loaded, at_yes as search_compared}
use Rattle.papaya_call_law.specs.Says.{IsResultBy, IsToPair, MakesPair, ClosureResult, Agrees, Inserts, Makes}
use Rattle.papaya_call_law.specs.Says.{Removes, NamesPairIn, NamesPairs, ActsOn, WasReturned, result_in}
use Rattle.papaya_call_law.specs.Says.{result_in_reply, result_to_choose, result_to_claim, result_to_fill}
use Rattle.papaya_call_law.specs.Says.{result_to_remove, shown_by}
use Rattle.papaya_call_law.proofs.SaysWords.{live_is_some}
use Rattle.papaya_call_law.proofs.Tasks.{same_task}
use Rattle.papaya_call_law.proofs.Leads.{occupies_leads}
use Rattle.papaya_call.specs.Write.{claimed_by, serves}

-- a word that is not 0 names a pair
pub shown_pair : (word : ℕ) → 0 < word → shown_by word ≡ Some (pair_of word)
shown_pair word some = cond_both (word == 0) None (Some (pair_of word)) (λ o. o ≡ Some (pair_of word))
    (λ none. let zero : word ≡ 0 = eqb-true word 0 none in absurd (omega (arith, zero, some))) (λ _. refl)

-- the result is remembered
abbrev IsHeldSaid : Option ℕ → Option Choice → ClosureResult → Type 0
IsHeldSaid fill choice said = (result_to_fill fill ≡ Some said) ⊎ (result_to_choose choice ≡ Some said)

-- the result that a stage relies on is remembered
abbrev IsHeld : Task → Option ℕ → Option Choice → Stage → Type 0
IsHeld task fill choice stage = (said : ClosureResult) → result_in task stage ≡ Some said → IsHeldSaid fill choice said

-- a pair that is remembered is put in its place
fills_held : (task : Task) (choice : Option Choice) (gap : Gap) (n : ℕ) → IsHeld task (Some n) choice (fills gap n)
fills_held task choice NoRoot n said e = absurd cc
fills_held task choice (At place) n said e = inl e
fills_held task choice (After t) n said e = absurd cc

-- if its key is absent a call relies on a result that it remembers
absent_held : (task : Task) (fill : Option ℕ) (choice : Option Choice) (gap : Gap) → IsHeld task fill choice (absent task fill gap)
absent_held Get fill choice gap said e = absurd cc
absent_held (Insert replace) fill choice gap said e = absurd cc
absent_held RemoveIf fill choice gap said e = absurd cc
absent_held Compute None choice gap said e = absurd cc
absent_held Compute (Some n) choice gap said e = fills_held Compute choice gap n said e

-- a result that is remembered was returned for the pair that is met
recalls_held : (fill : Option ℕ) (choice : Option Choice) (at : Place) (word : ℕ) → 0 < word
    → IsHeld Compute fill choice (recalls choice at word (pair_of word))
recalls_held fill None at word some = λ said e. absurd cc
recalls_held fill (Some (To_replace old new)) at word some =
    cond_both (old == pair_of word) (recalled new at word) (Showing (record { place = at; word = word })) (IsHeld Compute fill (Some (To_replace old new)))
    (λ same.
    cond_both (serves_at new at.table at.probe.i) (Putting (record { write = record { place = at; old = word }; pair = new.pair }))
    (Pairing (Again (record { place = at; old = word }))) (IsHeld Compute fill (Some (To_replace old new)))
    (λ _ said e.
    let shown : shown_by word ≡ Some old = shown_pair word some ∙ ap (λ n. Some n) (sym (eqb-true old (pair_of word) same)) in
    inr (ap (λ o. Some (Makes o new.pair)) (sym shown) ∙ e))
    (λ _ said e. absurd cc))
    (λ _ said e. absurd cc)
recalls_held fill (Some (To_remove old)) at word some =
    cond_both (old == pair_of word) (Burying (record { place = at; word = word })) (Showing (record { place = at; word = word }))
    (IsHeld Compute fill (Some (To_remove old)))
    (λ same said e. inr (ap (λ n. Some (Removes n)) (eqb-true old (pair_of word) same) ∙ e))
    (λ _ said e. absurd cc)

-- so a compute that met a pair relies on a result that it remembers
computes_held : (kd : Kind) (held : Remembered) (at : Place) (word : ℕ) → kind_of word ≡ kd → IsHeld Compute held.fill held.choice (computes kd held at word)
computes_held word_kinds.Empty held at word is said e = absurd cc
computes_held word_kinds.Live held at word is said e = recalls_held held.fill held.choice at word (live_is_some word is) said e
computes_held word_kinds.Marked held at word is said e = absurd cc
computes_held word_kinds.Copied held at word is said e = absurd cc
computes_held word_kinds.Buried held at word is said e = absurd cc
computes_held word_kinds.Closed held at word is said e = absurd cc

-- a removal relies on no result before its closure returns
removes_silent : (kd : Kind) (at : Place) (word : ℕ) (said : ClosureResult) → result_in RemoveIf (removes kd at word) ≡ Some said → ⊥
removes_silent word_kinds.Empty at word said e = cc e
removes_silent word_kinds.Live at word said e = cc e
removes_silent word_kinds.Marked at word said e = cc e
removes_silent word_kinds.Copied at word said e = cc e
removes_silent word_kinds.Buried at word said e = cc e
removes_silent word_kinds.Closed at word said e = cc e

-- an insertion relies on no result at all
replaces_silent : (kd : Kind) (at : Place) (word : ℕ) (said : ClosureResult) → result_in (Insert true) (replaces kd at word) ≡ Some said → ⊥
replaces_silent word_kinds.Empty at word said e = cc e
replaces_silent word_kinds.Live at word said e = cc e
replaces_silent word_kinds.Marked at word said e = cc e
replaces_silent word_kinds.Copied at word said e = cc e
replaces_silent word_kinds.Buried at word said e = cc e
replaces_silent word_kinds.Closed at word said e = cc e

-- the state after a search
goes_held : (task : Task) (mode : ResizeMode) (held : Remembered) (s : ProbeStep) → IsHeld task held.fill held.choice (goes_as task mode held s)
goes_held task mode held (seen.On way) said e = absurd cc
goes_held Get mode held (seen.Here at word) said e = absurd cc
goes_held (Insert false) mode held (seen.Here at word) said e = absurd
    (occupies_leads (λ s. result_in (Insert false) s ≡ Some said → ⊥) (kind_of word) at word (λ is. cc is) (λ is. cc is) e)
goes_held (Insert true) mode held (seen.Here at word) said e = absurd (replaces_silent (kind_of word) at word said e)
goes_held RemoveIf mode held (seen.Here at word) said e = absurd (removes_silent (kind_of word) at word said e)
goes_held Compute mode held (seen.Here at word) said e = computes_held (kind_of word) held at word refl said e
goes_held Get mode held (seen.Empty at) said e = absurd cc
goes_held RemoveIf mode held (seen.Empty at) said e = absurd cc
goes_held Compute mode held (seen.Empty at) said e = absent_held Compute held.fill held.choice (At at) said e
goes_held (Insert replace) mode held (seen.Empty at) said e = absurd cc
goes_held Get (Incremental chunk) held (seen.Over t) said e = absurd cc
goes_held Get Blocking held (seen.Over t) said e = absurd cc
goes_held RemoveIf (Incremental chunk) held (seen.Over t) said e = absurd cc
goes_held RemoveIf Blocking held (seen.Over t) said e = absurd cc
goes_held Compute (Incremental chunk) held (seen.Over t) said e = absurd cc
goes_held Compute Blocking held (seen.Over t) said e = absent_held Compute held.fill held.choice (After t) said e
goes_held (Insert replace) mode held (seen.Over t) said e = absurd cc

-- and after the words of tables
root_held : (task : Task) (held : Remembered) (word : ℕ) → IsHeld task held.fill held.choice (at_root task held.fill word)
root_held Get held word = cond_both (word == 0) (Ended Absent) (Searching (Sizing word)) (IsHeld Get held.fill held.choice) (λ _ said e. absurd cc)
    (λ _ said e. absurd cc)
root_held RemoveIf held word = cond_both (word == 0) (Ended Absent) (Searching (Sizing word)) (IsHeld RemoveIf held.fill held.choice)
    (λ _ said e. absurd cc) (λ _ said e. absurd cc)
root_held Compute held word = cond_both (word == 0) (absent Compute held.fill NoRoot) (Searching (Sizing word)) (IsHeld Compute held.fill held.choice)
    (λ _. absent_held Compute held.fill held.choice NoRoot) (λ _ said e. absurd cc)
root_held (Insert replace) held word = cond_both (word == 0) Making (Searching (Sizing word)) (IsHeld (Insert replace) held.fill held.choice)
    (λ _ said e. absurd cc) (λ _ said e. absurd cc)

-- a next table leads to a search, or to an absent key
next_held : (task : Task) (held : Remembered) (t word : ℕ) → IsHeld task held.fill held.choice (left task held.fill t word)
next_held task held t word = cond_both (word == 0) (absent task held.fill (After t)) (Searching (Sizing word)) (IsHeld task held.fill held.choice)
    (λ _. absent_held task held.fill held.choice (After t)) (λ _ said e. absurd cc)

-- a failure relies on no result
refusal_silent : (task : Task) (refused : Refused) → result_in_reply task (Reply_refused refused) ≡ None
refusal_silent Get refused = refl
refusal_silent (Insert replace) refused = refl
refusal_silent RemoveIf refused = refl
refusal_silent Compute refused = refl

-- an abort relies on no result that a change could be based on
abort_silent : (task : Task) (with : ℕ) → result_in_reply task (Aborted with) ≡ None
abort_silent Get with = refl
abort_silent (Insert replace) with = refl
abort_silent RemoveIf with = refl
abort_silent Compute with = refl

-- and an absent key is no result of a closure
absent_silent : (task : Task) → result_in_reply task Absent ≡ None
absent_silent Get = refl
absent_silent (Insert replace) = refl
absent_silent RemoveIf = refl
absent_silent Compute = refl

-- a reply relies on the result that its count relied on
claim_replies : (task : Task) (n : ℕ) → result_in_reply task (Inserted n) ≡ result_to_claim task n
claim_replies Get n = refl
claim_replies (Insert replace) n = refl
claim_replies RemoveIf n = refl
claim_replies Compute n = refl

-- a removal that was counted relies on the result that it relied on
removal_replies : (task : Task) (n : ℕ) → result_in_reply task (Removed n) ≡ result_to_remove task n
removal_replies Get n = refl
removal_replies (Insert replace) n = refl
removal_replies RemoveIf n = refl
removal_replies Compute n = refl

-- an insertion that has written its pair relies on no result
writer_silent : (task : Task) (write : Write) (n : ℕ) → IsWriter task → (said : ClosureResult) → result_in task (written write n) ≡ Some said → ⊥
writer_silent Get write n is said = absurd is
writer_silent (Insert replace) write n is said =
    cond_both (write.old == 0) (Counting (claimed_by write n)) (Ended (Replaced (pair_of write.old) n))
    (λ s. result_in (Insert replace) s ≡ Some said → ⊥) (λ _ e. cc e) (λ _ e. cc e)
writer_silent RemoveIf write n is said = absurd is
writer_silent Compute write n is said = absurd is

-- a compute that has put its pair relies on the result that it relied on
put_replies : (write : Write) (n : ℕ) → result_in Compute (written write n) ≡ Some (Makes (shown_by write.old) n)
put_replies write n = by_old (write.old == 0)
  where
    by_old : (b : Bool) → result_in Compute (cond b (Counting (claimed_by write n)) (Ended (Replaced (pair_of write.old) n))) ≡ Some
        (Makes (cond b None (Some (pair_of write.old))) n)
    by_old true = refl
    by_old false = refl

module _ (m : Machine) (held : Remembered) where
  -- the machine of these
  abbrev on : Task → Made → Stage → Machine
  on task made stage = record m { task = task; made = made; remembered = held; state = stage }

  -- the answer leads to this stage, and its closure returned the result that the stage relies on,
  -- if the machine did not rely on it before
  abbrev IsSaidIn : Task → Made → Stage → Answer → Stage → Type 0
  IsSaidIn task made stage answer then = (said : ClosureResult) → result_in task then ≡ Some said → ActsOn (on task made stage) said
      ⊎ IsResultBy (on task made stage) answer said

  -- by a result that is remembered
  by_held : (task : Task) (made : Made) (stage : Stage) (answer : Answer) (then : Stage) → IsHeld task held.fill held.choice then
      → IsSaidIn task made stage answer then
  by_held task made stage answer then h said e = ⊎_elim (λ f. inl (inr (inl f))) (λ c. inl (inr (inr c))) (h said e)

  -- by no result
  by_silence : (task : Task) (made : Made) (stage : Stage) (answer : Answer) (then : Stage) → result_in task then ≡ None → IsSaidIn task made stage answer then
  by_silence task made stage answer then none said e = let nothing_is : None ≡ Some said = sym none ∙ e in absurd cc

  -- a deletion that was lost
  beaten_held : (kd : Kind) (task : Task) (made : Made) (at : Place) (stage : Stage) (word : ℕ)
      → IsHeld task held.fill held.choice (beaten_by kd (on task made stage) at word)
  beaten_held word_kinds.Buried task made at stage word = λ said e. let nothing_is : None ≡ Some said = sym (absent_silent task) ∙ e in absurd cc
  beaten_held word_kinds.Empty task made at stage word = goes_held task m.mode held (look_seen at word)
  beaten_held word_kinds.Live task made at stage word = goes_held task m.mode held (look_seen at word)
  beaten_held word_kinds.Marked task made at stage word = goes_held task m.mode held (look_seen at word)
  beaten_held word_kinds.Copied task made at stage word = goes_held task m.mode held (look_seen at word)
  beaten_held word_kinds.Closed task made at stage word = goes_held task m.mode held (look_seen at word)

  -- by the task
  beaten_task_held : (task : Task) (made : Made) (removal : Removal) (word : ℕ)
      → IsHeld task held.fill held.choice (beaten_as task (on task made (Burying removal)) removal.place word)
  beaten_task_held Get made removal word = beaten_held (kind_of word) Get made removal.place (Burying removal) word
  beaten_task_held (Insert replace) made removal word = beaten_held (kind_of word) (Insert replace) made removal.place (Burying removal) word
  beaten_task_held RemoveIf made removal word = beaten_held (kind_of word) RemoveIf made removal.place (Burying removal) word
  beaten_task_held Compute made removal word = goes_held Compute m.mode held (look_seen removal.place word)

  -- a pair is asked for, for this purpose
  abbrev AsksPair : Made → Purpose → Type 0
  AsksPair made purpose = MakesPair (pair_ask made (in_place_of purpose))

  -- the result from which a pair is made again is remembered
  was_said : (task : Task) (made : Made) (write : Write) → IsToPair held.choice (Again write)
      → WasReturned (on task made (Pairing (Again write))) (Some (pair_of write.old))
  was_said task made write shows = let new = shows.1 in inr (new.0.pair, inr (inr (ap result_to_choose new.1)))

  -- a pair was made from the closure's result
  provided : (task : Task) (made : Made) (purpose : Purpose) (n : ℕ) → AsksPair made purpose → IsToPair held.choice purpose
      → IsSaidIn task made (Pairing purpose) (Made_number n) (provides purpose n)
  provided task made (Fill NoRoot) n ask shows said e = absurd cc
  provided task made (Fill (At place)) n ask shows said e = let is : Makes None n ≡ said = cc e in
      inr (subst (IsResultBy (on task made (Pairing (Fill (At place)))) (Made_number n)) is (inl (inl refl), ask, refl))
  provided task made (Fill (After t)) n ask shows said e = absurd cc
  provided task made (Replace write) n ask shows said e =
      let is : Makes (shown_by write.old) n ≡ said = cc e in
      let stood : ActsOn (on task made (Pairing (Replace write))) (Inserts (shown_by write.old)) = inl
      (ap (λ o. Some (Inserts o)) (sym (shown_pair write.old shows))) in
      inr (subst (IsResultBy (on task made (Pairing (Replace write))) (Made_number n)) is (inl stood, ask, refl))
  provided task made (Again write) n ask shows said e =
      let is : Makes (shown_by write.old) n ≡ said = cc e in
      let stood : WasReturned (on task made (Pairing (Again write))) (shown_by write.old) = subst (WasReturned (on task made (Pairing (Again write))))
      (sym (shown_pair write.old shows.0)) (was_said task made write shows) in
      inr (subst (IsResultBy (on task made (Pairing (Again write))) (Made_number n)) is (stood, ask, refl))

  -- and is remembered as such
  provided_fill : (task : Task) (made : Made) (purpose : Purpose) (n : ℕ) → AsksPair made purpose → (said : ClosureResult)
      → result_to_fill (with_pair held purpose n).fill ≡ Some said
      → ActsOn (on task made (Pairing purpose)) said ⊎ IsResultBy (on task made (Pairing purpose)) (Made_number n) said
  provided_fill task made (Fill gap) n ask said e = let is : Makes None n ≡ said = cc e in
      inr (subst (IsResultBy (on task made (Pairing (Fill gap))) (Made_number n)) is (inl (inl refl), ask, refl))
  provided_fill task made (Replace write) n ask said e = inl (inr (inl e))
  provided_fill task made (Again write) n ask said e = inl (inr (inl e))

  -- if it is to replace a pair
  provided_choice : (task : Task) (made : Made) (purpose : Purpose) (n : ℕ) → AsksPair made purpose → IsToPair held.choice purpose → (said : ClosureResult)
      → result_to_choose (with_pair held purpose n).choice ≡ Some said
      → ActsOn (on task made (Pairing purpose)) said ⊎ IsResultBy (on task made (Pairing purpose)) (Made_number n) said
  provided_choice task made (Fill gap) n ask shows said e = absurd cc
  provided_choice task made (Replace write) n ask shows said e =
      let is : Makes (Some (pair_of write.old)) n ≡ said = cc e in
      inr (subst (IsResultBy (on task made (Pairing (Replace write))) (Made_number n)) is (inl (inl refl), ask, refl))
  provided_choice task made (Again write) n ask shows said e =
      let is : Makes (Some (pair_of write.old)) n ≡ said = cc e in
      inr (subst (IsResultBy (on task made (Pairing (Again write))) (Made_number n)) is (was_said task made write shows, ask, refl))

  -- a closure that is called with a pair
  chosen_said : (made : Made) (removal : Removal) (kind : OpKind) → IsSaidIn Compute made (Showing removal) (Op kind) (chosen removal kind)
  chosen_said made removal ops.Insert said e = let is : Inserts (Some (pair_of removal.word)) ≡ said = cc e in
      inr (subst (IsResultBy (on Compute made (Showing removal)) (Op ops.Insert)) is (refl, refl))
  chosen_said made removal ops.Remove said e = let is : Removes (pair_of removal.word) ≡ said = cc e in
      inr (subst (IsResultBy (on Compute made (Showing removal)) (Op ops.Remove)) is (refl, refl))
  chosen_said made removal (ops.Abort with) said e = absurd cc

  -- its result to remove the pair is remembered
  chosen_choice : (made : Made) (removal : Removal) (kind : OpKind) (said : ClosureResult) → result_to_choose (with_choice held removal kind).choice ≡ Some said
      → ActsOn (on Compute made (Showing removal)) said ⊎ IsResultBy (on Compute made (Showing removal)) (Op kind) said
  chosen_choice made removal ops.Insert said e = inl (inr (inr e))
  chosen_choice made removal ops.Remove said e = let is : Removes (pair_of removal.word) ≡ said = cc e in
      inr (subst (IsResultBy (on Compute made (Showing removal)) (Op ops.Remove)) is (refl, refl))
  chosen_choice made removal (ops.Abort with) said e = inl (inr (inr e))

  -- its result for None is remembered as before
  chosen_fill : (made : Made) (removal : Removal) (kind : OpKind) (said : ClosureResult) → result_to_fill (with_choice held removal kind).fill ≡ Some said
      → ActsOn (on Compute made (Showing removal)) said
  chosen_fill made removal ops.Insert said e = inr (inl e)
  chosen_fill made removal ops.Remove said e = inr (inl e)
  chosen_fill made removal (ops.Abort with) said e = inr (inl e)

  -- a closure that is called with None
  offered_said : (task : Task) (made : Made) (gap : Gap) (kind : OpKind) → IsSaidIn task made (Offering gap) (Op kind) (offered gap kind)
  offered_said task made gap ops.Insert said e = let is : Inserts None ≡ said = cc e in
      inr (subst (IsResultBy (on task made (Offering gap)) (Op ops.Insert)) is (refl, refl))
  offered_said task made gap ops.Remove said e = by_silence task made (Offering gap) (Op ops.Remove) (Ended (Reply_refused RemoveNothing))
      (refusal_silent task RemoveNothing) said e
  offered_said task made gap (ops.Abort with) said e = by_silence task made (Offering gap) (Op (ops.Abort with)) (Ended (Aborted with))
      (abort_silent task with) said e

  -- a part was made for a compute
  paired_said : (task : Task) (made : Made) (purpose : Purpose) (n : ℕ) → IsToPair held.choice purpose → (G : Grown)
      → grown made (in_place_of purpose) ≡ G → IsSaidIn task made (Pairing purpose) (Made_number n) (paired G purpose n)
  paired_said task made purpose n shows (On next) is said e = inl (inl e)
  paired_said task made purpose n shows (Pair next) is said e = provided task made purpose n (makes_pair made (in_place_of purpose) next is) shows said e

  -- in each stage
  said_in_stage : (task : Task) (made : Made) (stage : Stage) (answer : Answer) → IsValidState task stage → NamesPairIn held.choice stage
      → IsSaidIn task made stage answer (after (on task made stage) answer).state
  said_in_stage task made AtRoot (Word_read word) is shows said e = by_held task made AtRoot (Word_read word) (at_root task held.fill word)
      (root_held task held word) said e
  said_in_stage task made AtRoot answer is shows said e = absurd cc
  said_in_stage task made Making (Was_refused refused) is shows said e = by_silence task made Making (Was_refused refused)
      (Ended (Reply_refused refused)) (refusal_silent task refused) said e
  said_in_stage task made Making answer is shows said e = absurd cc
  said_in_stage task made (Opening t) Exchanged is shows said e = absurd cc
  said_in_stage task made (Opening t) answer is shows said e = absurd cc
  said_in_stage task made (Searching place) (Word_read word) is shows said e =
      by_held task made (Searching place) (Word_read word) (goes_as task m.mode held (search_loaded place m.hash word))
      (goes_held task m.mode held (search_loaded place m.hash word)) said e
  said_in_stage task made (Searching place) (Yes same) is shows said e =
      by_held task made (Searching place) (Yes same) (goes_as task m.mode held (search_compared place same))
      (goes_held task m.mode held (search_compared place same)) said e
  said_in_stage task made (Searching place) answer is shows said e = absurd cc
  said_in_stage task made (Writing write) (Word_read word) is shows said e = told_leads (IsSaidIn task made (Writing write) (Word_read word))
      (by_silence task made (Writing write) (Word_read word) (Ended (Reply_refused Limit)) (refusal_silent task Limit)) write (λ s e'. absurd cc)
      (serves made write) made word said e
  said_in_stage task made (Writing write) (Found_instead word) is shows said e =
      let answer : Answer = Found_instead word in
      lost_leads (IsSaidIn task made (Writing write) answer)
      (by_silence task made (Writing write) answer (Ended (Reply_refused Limit)) (refusal_silent task Limit)) write (λ s e'. absurd cc)
      (on task made (Writing write)) word
      (by_held task made (Writing write) answer (goes_as task m.mode held (look_seen write.place word))
      (goes_held task m.mode held (look_seen write.place word))) (serves made write) said e
  said_in_stage task made (Writing write) Exchanged is shows said e = exchanged_leads (IsSaidIn task made (Writing write) Exchanged) write
      (λ s e'. absurd cc) (λ n s e'. absurd (writer_silent task write n is.0 s e')) (serves made write) said e
  said_in_stage task made (Writing write) (Was_refused refused) is shows said e =
      refuses_leads (IsSaidIn task made (Writing write) (Was_refused refused)) write refused (λ s e'. absurd cc)
      (by_silence task made (Writing write) (Was_refused refused) (Ended (Reply_refused refused)) (refusal_silent task refused)) (serves made write) said e
  said_in_stage task made (Writing write) answer is shows said e = absurd cc
  said_in_stage task made (Offering gap) (Op kind) is shows said e = offered_said task made gap kind said e
  said_in_stage task made (Offering gap) answer is shows said e = absurd cc
  said_in_stage RemoveIf made (Showing removal) (Yes true) is shows said e =
      let agrees : Agrees (pair_of removal.word) true ≡ said = cc e in
      inr (subst (IsResultBy (on RemoveIf made (Showing removal)) (Yes true)) agrees (refl, refl))
  said_in_stage RemoveIf made (Showing removal) (Yes false) is shows said e =
      let agrees : Agrees (pair_of removal.word) false ≡ said = cc e in
      inr (subst (IsResultBy (on RemoveIf made (Showing removal)) (Yes false)) agrees (refl, refl))
  said_in_stage Get made (Showing removal) (Yes same) is shows said e = absurd cc
  said_in_stage (Insert replace) made (Showing removal) (Yes same) is shows said e = absurd cc
  said_in_stage Compute made (Showing removal) (Yes same) is shows said e = absurd cc
  said_in_stage Compute made (Showing removal) (Op kind) is shows said e = chosen_said made removal kind said e
  said_in_stage Get made (Showing removal) (Op kind) is shows said e = absurd cc
  said_in_stage (Insert replace) made (Showing removal) (Op kind) is shows said e = absurd cc
  said_in_stage RemoveIf made (Showing removal) (Op kind) is shows said e = absurd cc
  said_in_stage task made (Showing removal) answer is shows said e = absurd cc
  said_in_stage task made (Pairing purpose) (Made_number n) is shows said e = paired_said task made purpose n shows (grown made (in_place_of purpose))
      refl said e
  said_in_stage task made (Pairing purpose) (Word_read word) is shows said e =
      numbered_leads (IsSaidIn task made (Pairing purpose) (Word_read word))
      (by_silence task made (Pairing purpose) (Word_read word) (Ended (Reply_refused Limit)) (refusal_silent task Limit)) (Pairing purpose)
      (λ s e'. inl (inl e')) (told made word) said e
  said_in_stage task made (Pairing purpose) (Found_instead word) is shows said e =
      numbered_leads (IsSaidIn task made (Pairing purpose) (Found_instead word))
      (by_silence task made (Pairing purpose) (Found_instead word) (Ended (Reply_refused Limit)) (refusal_silent task Limit)) (Pairing purpose)
      (λ s e'. inl (inl e')) (told made word) said e
  said_in_stage task made (Pairing purpose) (Was_refused refused) is shows said e = by_silence task made (Pairing purpose) (Was_refused refused)
      (Ended (Reply_refused refused)) (refusal_silent task refused) said e
  said_in_stage task made (Pairing purpose) answer is shows said e = inl (inl e)
  said_in_stage Compute made (Putting put) Exchanged is shows said e = inl (inl (sym (put_replies put.write put.pair) ∙ e))
  said_in_stage Get made (Putting put) Exchanged is shows said e = absurd is.0
  said_in_stage (Insert replace) made (Putting put) Exchanged is shows said e = absurd is.0
  said_in_stage RemoveIf made (Putting put) Exchanged is shows said e = absurd is.0
  said_in_stage task made (Putting put) (Found_instead word) is shows said e =
      by_held task made (Putting put) (Found_instead word) (goes_as task m.mode held (look_seen put.write.place word))
      (goes_held task m.mode held (look_seen put.write.place word)) said e
  said_in_stage task made (Putting put) answer is shows said e = inl (inl e)
  said_in_stage task made (Burying removal) (Found_instead word) is shows said e =
      by_held task made (Burying removal) (Found_instead word) (beaten_as task (on task made (Burying removal)) removal.place word)
      (beaten_task_held task made removal word) said e
  said_in_stage task made (Burying removal) answer is shows said e = inl (inl e)
  said_in_stage task made (Counting n) Ok_done is shows said e = inl (inl e)
  said_in_stage task made (Noting n) Ok_done is shows said e = inl (inl (sym (claim_replies task n.pair) ∙ e))
  said_in_stage task made (Counting n) answer is shows said e = inl (inl e)
  said_in_stage task made (Noting n) answer is shows said e = inl (inl e)
  said_in_stage task made (Uncounting n) Ok_done is shows said e = inl (inl (sym (removal_replies task n) ∙ e))
  said_in_stage task made (Uncounting n) answer is shows said e = inl (inl e)
  said_in_stage task made (Leaving t) (Word_read word) is shows said e = by_held task made (Leaving t) (Word_read word) (left task held.fill t word)
      (next_held task held t word) said e
  said_in_stage task made (Leaving t) answer is shows said e = absurd cc
  said_in_stage task made (Growing t) (Word_read word) is shows said e = by_silence task made (Growing t) (Word_read word)
      (Ended (Reply_refused Capacity)) (refusal_silent task Capacity) said e
  said_in_stage task made (Growing t) answer is shows said e = absurd cc
  said_in_stage task made (Ended reply) Exchanged is shows said e = inl (inl e)
  said_in_stage task made (Ended reply) answer is shows said e = inl (inl e)

  -- the machine relied on the result before, or the closure has just returned it
  abbrev FollowsResult : Task → Made → Stage → Answer → ClosureResult → Type 0
  FollowsResult task made stage answer said = ActsOn (on task made stage) said ⊎ IsResultBy (on task made stage) answer said

  fill_grown : (task : Task) (made : Made) (purpose : Purpose) (n : ℕ) (G : Grown) → grown made (in_place_of purpose) ≡ G → (said : ClosureResult)
      → result_to_fill (paired_held G held purpose n).fill ≡ Some said → FollowsResult task made (Pairing purpose) (Made_number n) said
  fill_grown task made purpose n (On next) is said e = inl (inr (inl e))
  fill_grown task made purpose n (Pair next) is said e = provided_fill task made purpose n (makes_pair made (in_place_of purpose) next is) said e

  -- the pair for an absent key, after a pair was made
  fill_made : (task : Task) (made : Made) (stage : Stage) (n : ℕ) (said : ClosureResult)
      → result_to_fill (after (on task made stage) (Made_number n)).remembered.fill ≡ Some said → FollowsResult task made stage (Made_number n) said
  fill_made task made (Pairing purpose) n said e = fill_grown task made purpose n (grown made (in_place_of purpose)) refl said e
  fill_made task made stage n said e = inl (inr (inl e))

  -- after a result of a closure
  fill_op : (task : Task) (made : Made) (stage : Stage) (kind : OpKind) (said : ClosureResult)
      → result_to_fill (after (on task made stage) (Op kind)).remembered.fill ≡ Some said → FollowsResult task made stage (Op kind) said
  fill_op Compute made (Showing removal) kind said e = inl (chosen_fill made removal kind said e)
  fill_op Get made (Showing removal) kind said e = inl (inr (inl e))
  fill_op (Insert replace) made (Showing removal) kind said e = inl (inr (inl e))
  fill_op RemoveIf made (Showing removal) kind said e = inl (inr (inl e))
  fill_op task made stage kind said e = inl (inr (inl e))

  -- after any answer
  fill_said : (task : Task) (made : Made) (stage : Stage) (answer : Answer) (said : ClosureResult)
      → result_to_fill (after (on task made stage) answer).remembered.fill ≡ Some said → FollowsResult task made stage answer said
  fill_said task made stage (Made_number n) said e = fill_made task made stage n said e
  fill_said task made stage (Op kind) said e = fill_op task made stage kind said e
  fill_said task made stage answer said e = inl (inr (inl e))

  choice_grown : (task : Task) (made : Made) (purpose : Purpose) (n : ℕ) → IsToPair held.choice purpose → (G : Grown)
      → grown made (in_place_of purpose) ≡ G → (said : ClosureResult) → result_to_choose (paired_held G held purpose n).choice ≡ Some said
      → FollowsResult task made (Pairing purpose) (Made_number n) said
  choice_grown task made purpose n shows (On next) is said e = inl (inr (inr e))
  choice_grown task made purpose n shows (Pair next) is said e = provided_choice task made purpose n (makes_pair made (in_place_of purpose) next is)
      shows said e

  -- the result for the pair last passed to the closure, after a pair was made
  choice_made : (task : Task) (made : Made) (stage : Stage) (n : ℕ) → NamesPairIn held.choice stage → (said : ClosureResult)
      → result_to_choose (after (on task made stage) (Made_number n)).remembered.choice ≡ Some said → FollowsResult task made stage (Made_number n) said
  choice_made task made (Pairing purpose) n shows said e = choice_grown task made purpose n shows (grown made (in_place_of purpose)) refl said e
  choice_made task made stage n shows said e = inl (inr (inr e))

  -- after a result of a closure
  choice_op : (task : Task) (made : Made) (stage : Stage) (kind : OpKind) (said : ClosureResult)
      → result_to_choose (after (on task made stage) (Op kind)).remembered.choice ≡ Some said → FollowsResult task made stage (Op kind) said
  choice_op Compute made (Showing removal) kind said e = chosen_choice made removal kind said e
  choice_op Get made (Showing removal) kind said e = inl (inr (inr e))
  choice_op (Insert replace) made (Showing removal) kind said e = inl (inr (inr e))
  choice_op RemoveIf made (Showing removal) kind said e = inl (inr (inr e))
  choice_op task made stage kind said e = inl (inr (inr e))

  -- after any answer
  choice_said : (task : Task) (made : Made) (stage : Stage) (answer : Answer) → NamesPairIn held.choice stage → (said : ClosureResult)
      → result_to_choose (after (on task made stage) answer).remembered.choice ≡ Some said → FollowsResult task made stage answer said
  choice_said task made stage (Made_number n) shows said e = choice_made task made stage n shows said e
  choice_said task made stage (Op kind) shows said e = choice_op task made stage kind said e
  choice_said task made stage answer shows said e = inl (inr (inr e))

-- for the whole machine
pub machine_said : (m : Machine) (answer : Answer) (said : ClosureResult) → IsValid m → NamesPairs m → ActsOn (after m answer) said → ActsOn m said
    ⊎ IsResultBy m answer said
machine_said m answer said valid shows stands =
    let stage : result_in m.task (after m answer).state ≡ Some said → ActsOn m said
    ⊎ IsResultBy m answer said = λ e. said_in_stage m m.remembered m.task m.made m.state answer valid.state shows said e in
    ⊎_elim
    (λ e. stage (subst (λ t. result_in t (after m answer).state ≡ Some said) (same_task m answer).0 e))
    (λ remembered. ⊎_elim (λ e. fill_said m m.remembered m.task m.made m.state answer said e)
    (λ e. choice_said m m.remembered m.task m.made m.state answer shows said e) remembered)
    stands
