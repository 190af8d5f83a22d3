-- A pair with which a closure is called is named by a word, and the word of an empty slot names
-- none.
use Rattle.std.proofs.Common.{◌≡◌, ⊎_elim, ℕ, ◌<◌, ◌≤◌, ◌==◌, eqb-true, true, false, Option, None, Some, refl, ap, subst, arith}
use Rattle.std.proofs.lemmas.Bool.{cond_both, cases_lt}
use Rattle.papaya_words.specs.Word.{kind_of, pair_of}
use Rattle.papaya_words.specs.declared.resize_mode.ResizeMode.{ResizeMode}
use Rattle.papaya_words.specs.declared.resize_mode.ResizeMode.TheVariants.{Incremental, Blocking}
use Rattle.papaya_words.specs.declared.word.Kind.{Kind}
use Rattle.papaya_words.specs.declared.word.Kind.TheVariants as word_kinds
use Rattle.papaya_call.specs.declared.ask.Answer.{Answer}
use Rattle.papaya_call.specs.declared.ask.Answer.TheVariants.{Word as Word_read, Exchanged}
use Rattle.papaya_call.specs.declared.ask.Answer.TheVariants.{Found as Found_instead, Yes, Op}
use Rattle.papaya_call.specs.declared.ask.Answer.TheVariants.{Made as Made_number}
use Rattle.papaya_call.specs.declared.ask.Answer.TheVariants.{Refused as Was_refused}
use Rattle.papaya_call.specs.declared.ask.OpKind.TheVariants as ops
use Rattle.papaya_call.specs.declared.call.Reply.TheVariants.{Absent, Replaced}
use Rattle.papaya_call.specs.declared.call.Task.{Task}
use Rattle.papaya_call.specs.declared.call.Task.TheVariants.{Get, Insert, RemoveIf, Compute}
use Rattle.papaya_call.specs.declared.compute.Choice.{Choice}
use Rattle.papaya_call.specs.declared.compute.Choice.TheVariants.{Replace as To_replace, Remove as To_remove}
use Rattle.papaya_call.specs.declared.compute.Gap.{Gap}
use Rattle.papaya_call.specs.declared.compute.Gap.TheVariants.{NoRoot, At, After}
use Rattle.papaya_call.specs.declared.compute.Purpose.{Purpose}
use Rattle.papaya_call.specs.declared.compute.Purpose.TheVariants.{Fill, Replace, Again}
use Rattle.papaya_call.specs.declared.compute.Remembered.{Remembered}
use Rattle.papaya_call.specs.declared.remove.Removal.{Removal}
use Rattle.papaya_call.specs.declared.search.Place.{Place}
use Rattle.papaya_call.specs.declared.search.Search.TheVariants.{Sizing}
use Rattle.papaya_call.specs.declared.search.ProbeStep.{ProbeStep}
use Rattle.papaya_call.specs.declared.search.ProbeStep.TheVariants as seen
use Rattle.papaya_call.specs.declared.made.Made.{Made}
use Rattle.papaya_call_law.proofs.Makings.{exchanged_leads, lost_leads, numbered_leads, refuses_leads, told_leads}
use Rattle.papaya_call.specs.declared.write.Write.{Write}
use Rattle.papaya_call.specs.declared.machine.Machine.{Machine}
use Rattle.papaya_call.specs.declared.machine.State.{State as Stage}
use Rattle.papaya_call.specs.declared.machine.State.TheVariants.{AtRoot, Making, Opening, Searching}
use Rattle.papaya_call.specs.declared.machine.State.TheVariants.{Writing, Offering, Showing}
use Rattle.papaya_call.specs.declared.machine.State.TheVariants.{Pairing, Putting, Burying}
use Rattle.papaya_call.specs.declared.machine.State.TheVariants.{Counting, Noting, Uncounting}
use Rattle.papaya_call.specs.declared.machine.State.TheVariants.{Leaving, Growing, Ended}
use Rattle.papaya_call.specs.Compute.{fills, in_place_of, recalled, recalls}
use Rattle.papaya_call.specs.declared.made.Grown.{Grown}
use Rattle.papaya_call.specs.declared.made.Grown.TheVariants.{On, Pair}
use Rattle.papaya_call.specs.Made.{grown, serves_at, told}
use Rattle.papaya_call.specs.Machine.{absent, after, at_root, beaten_as, beaten_by, computes, goes_as, left, paired, paired_held, removes, replaces, written}
use Rattle.papaya_call.specs.Search.{look as look_seen, at_word as search_loaded, at_yes as search_compared}
use Rattle.papaya_call_law.specs.Says.{NamesPairIn, NamesPairs}
use Rattle.papaya_call_law.proofs.Leads.{occupies_leads}
use Rattle.papaya_call.specs.Write.{claimed_by, serves}

-- a Live word is not 0
pub live_is_some : (word : ℕ) → kind_of word ≡ word_kinds.Live → 0 < word
live_is_some word live =
    ⊎_elim
    (λ (some : 0 < word). some)
    (λ (none : word ≤ 0). let zero : word ≡ 0 = omega (arith, none) in
    let empty : word_kinds.Empty ≡ word_kinds.Live = subst (λ w. kind_of w ≡ word_kinds.Live) zero live in absurd cc)
    (cases_lt 0 word)

-- no closure is called while a pair is put in its place
fills_shows : (choice : Option Choice) (gap : Gap) (n : ℕ) → NamesPairIn choice (fills gap n)
fills_shows choice NoRoot n = tt
fills_shows choice (At place) n = tt
fills_shows choice (After t) n = tt

-- nor does an absent key lead to a call with a pair
absent_shows : (choice : Option Choice) (task : Task) (fill : Option ℕ) (gap : Gap) → NamesPairIn choice (absent task fill gap)
absent_shows choice Get fill gap = tt
absent_shows choice (Insert replace) fill gap = tt
absent_shows choice RemoveIf fill gap = tt
absent_shows choice Compute None gap = tt
absent_shows choice Compute (Some n) gap = fills_shows choice gap n

-- the closure is called with the pair of a word that is met
recalls_shows : (choice : Option Choice) (at : Place) (word : ℕ) → 0 < word → NamesPairIn choice (recalls choice at word (pair_of word))
recalls_shows None at word some = some
recalls_shows (Some (To_replace old new)) at word some =
    let choice : Option Choice = Some (To_replace old new) in
    cond_both (old == pair_of word) (recalled new at word) (Showing (record { place = at; word = word })) (NamesPairIn choice)
    (λ same.
    let is : choice ≡ Some (To_replace (pair_of word) new) = ap (λ n. Some (To_replace n new)) (eqb-true old (pair_of word) same) in
    cond_both (serves_at new at.table at.probe.i) (Putting (record { write = record { place = at; old = word }; pair = new.pair }))
    (Pairing (Again (record { place = at; old = word }))) (NamesPairIn choice) (λ _. tt) (λ _. (some, (new, is))))
    (λ _. some)
recalls_shows (Some (To_remove old)) at word some =
    cond_both (old == pair_of word) (Burying (record { place = at; word = word })) (Showing (record { place = at; word = word }))
    (NamesPairIn (Some (To_remove old))) (λ _. tt) (λ _. some)

-- nor does a compute call it with the pair of an empty word
computes_shows : (kd : Kind) (held : Remembered) (at : Place) (word : ℕ) → kind_of word ≡ kd → NamesPairIn held.choice (computes kd held at word)
computes_shows word_kinds.Empty held at word e = tt
computes_shows word_kinds.Live held at word e = recalls_shows held.choice at word (live_is_some word e)
computes_shows word_kinds.Marked held at word e = tt
computes_shows word_kinds.Copied held at word e = tt
computes_shows word_kinds.Buried held at word e = tt
computes_shows word_kinds.Closed held at word e = tt

-- nor does a removal
removes_shows : (choice : Option Choice) (kd : Kind) (at : Place) (word : ℕ) → kind_of word ≡ kd → NamesPairIn choice (removes kd at word)
removes_shows choice word_kinds.Empty at word e = tt
removes_shows choice word_kinds.Live at word e = live_is_some word e
removes_shows choice word_kinds.Marked at word e = tt
removes_shows choice word_kinds.Copied at word e = tt
removes_shows choice word_kinds.Buried at word e = tt
removes_shows choice word_kinds.Closed at word e = tt

-- and an insertion calls no closure
replaces_shows : (choice : Option Choice) (kd : Kind) (at : Place) (word : ℕ) → NamesPairIn choice (replaces kd at word)
replaces_shows choice word_kinds.Empty at word = tt
replaces_shows choice word_kinds.Live at word = tt
replaces_shows choice word_kinds.Marked at word = tt
replaces_shows choice word_kinds.Copied at word = tt
replaces_shows choice word_kinds.Buried at word = tt
replaces_shows choice word_kinds.Closed at word = tt

-- the state after a search
goes_shows : (task : Task) (mode : ResizeMode) (held : Remembered) (s : ProbeStep) → NamesPairIn held.choice (goes_as task mode held s)
goes_shows task mode held (seen.On way) = tt
goes_shows Get mode held (seen.Here at word) = tt
goes_shows (Insert false) mode held (seen.Here at word) = occupies_leads (NamesPairIn held.choice) (kind_of word) at word tt tt
goes_shows (Insert true) mode held (seen.Here at word) = replaces_shows held.choice (kind_of word) at word
goes_shows RemoveIf mode held (seen.Here at word) = removes_shows held.choice (kind_of word) at word refl
goes_shows Compute mode held (seen.Here at word) = computes_shows (kind_of word) held at word refl
goes_shows Get mode held (seen.Empty at) = tt
goes_shows RemoveIf mode held (seen.Empty at) = tt
goes_shows Compute mode held (seen.Empty at) = absent_shows held.choice Compute held.fill (At at)
goes_shows (Insert replace) mode held (seen.Empty at) = tt
goes_shows Get (Incremental chunk) held (seen.Over t) = tt
goes_shows Get Blocking held (seen.Over t) = tt
goes_shows RemoveIf (Incremental chunk) held (seen.Over t) = tt
goes_shows RemoveIf Blocking held (seen.Over t) = tt
goes_shows Compute (Incremental chunk) held (seen.Over t) = tt
goes_shows Compute Blocking held (seen.Over t) = absent_shows held.choice Compute held.fill (After t)
goes_shows (Insert replace) mode held (seen.Over t) = tt

-- and after the words of tables
root_shows : (choice : Option Choice) (task : Task) (fill : Option ℕ) (word : ℕ) → NamesPairIn choice (at_root task fill word)
root_shows choice Get fill word = cond_both (word == 0) (Ended Absent) (Searching (Sizing word)) (NamesPairIn choice) (λ _. tt) (λ _. tt)
root_shows choice RemoveIf fill word = cond_both (word == 0) (Ended Absent) (Searching (Sizing word)) (NamesPairIn choice) (λ _. tt) (λ _. tt)
root_shows choice Compute fill word = cond_both (word == 0) (absent Compute fill NoRoot) (Searching (Sizing word)) (NamesPairIn choice)
    (λ _. absent_shows choice Compute fill NoRoot) (λ _. tt)
root_shows choice (Insert replace) fill word = cond_both (word == 0) Making (Searching (Sizing word)) (NamesPairIn choice) (λ _. tt) (λ _. tt)

-- a next table leads to a search, or to an absent key
next_shows : (choice : Option Choice) (task : Task) (fill : Option ℕ) (t word : ℕ) → NamesPairIn choice (left task fill t word)
next_shows choice task fill t word = cond_both (word == 0) (absent task fill (After t)) (Searching (Sizing word)) (NamesPairIn choice)
    (λ _. absent_shows choice task fill (After t)) (λ _. tt)

-- and a deletion that was lost
beaten_shows : (kd : Kind) (m : Machine) (at : Place) (word : ℕ) → NamesPairIn m.remembered.choice (beaten_by kd m at word)
beaten_shows word_kinds.Buried m at word = tt
beaten_shows word_kinds.Empty m at word = goes_shows m.task m.mode m.remembered (look_seen at word)
beaten_shows word_kinds.Live m at word = goes_shows m.task m.mode m.remembered (look_seen at word)
beaten_shows word_kinds.Marked m at word = goes_shows m.task m.mode m.remembered (look_seen at word)
beaten_shows word_kinds.Copied m at word = goes_shows m.task m.mode m.remembered (look_seen at word)
beaten_shows word_kinds.Closed m at word = goes_shows m.task m.mode m.remembered (look_seen at word)

-- a pair that was written is no longer on its way
written_shows : (choice : Option Choice) (write : Write) (n : ℕ) → NamesPairIn choice (written write n)
written_shows choice write n = cond_both (write.old == 0) (Counting (claimed_by write n)) (Ended (Replaced (pair_of write.old) n)) (NamesPairIn choice)
    (λ _. tt) (λ _. tt)

module _ (m : Machine) where
  -- the machine of these
  abbrev on : Task → Made → Stage → Machine
  on task made stage = record m { task = task; made = made; state = stage }

  -- by the task
  beaten_task_shows : (task : Task) (made : Made) (removal : Removal) (word : ℕ)
      → NamesPairIn m.remembered.choice (beaten_as task (on task made (Burying removal)) removal.place word)
  beaten_task_shows Get made removal word = beaten_shows (kind_of word) (on Get made (Burying removal)) removal.place word
  beaten_task_shows (Insert replace) made removal word = beaten_shows (kind_of word) (on (Insert replace) made (Burying removal)) removal.place word
  beaten_task_shows RemoveIf made removal word = beaten_shows (kind_of word) (on RemoveIf made (Burying removal)) removal.place word
  beaten_task_shows Compute made removal word = goes_shows Compute m.mode m.remembered (look_seen removal.place word)

  -- a part was made for a compute
  pairing_shows : (task : Task) (made : Made) (purpose : Purpose) (n : ℕ) → NamesPairIn m.remembered.choice (Pairing purpose) → (G : Grown)
      → grown made (in_place_of purpose) ≡ G → NamesPairIn (paired_held G m.remembered purpose n).choice (paired G purpose n)
  pairing_shows task made purpose n h (On next) is = h
  pairing_shows task made (Fill gap) n h (Pair next) is = fills_shows None gap n
  pairing_shows task made (Replace write) n h (Pair next) is = tt
  pairing_shows task made (Again write) n h (Pair next) is = tt

  -- in each stage
  shows_in : (task : Task) (made : Made) (stage : Stage) (answer : Answer) → NamesPairIn m.remembered.choice stage → NamesPairs (after (on task made stage) answer)
  shows_in task made AtRoot (Word_read word) h = root_shows m.remembered.choice task m.remembered.fill word
  shows_in task made AtRoot answer h = tt
  shows_in task made Making (Made_number n) h = tt
  shows_in task made Making answer h = tt
  shows_in task made (Opening t) Exchanged h = tt
  shows_in task made (Opening t) answer h = tt
  shows_in task made (Searching place) (Word_read word) h = goes_shows task m.mode m.remembered (search_loaded place m.hash word)
  shows_in task made (Searching place) (Yes same) h = goes_shows task m.mode m.remembered (search_compared place same)
  shows_in task made (Searching place) answer h = tt
  shows_in task made (Writing write) (Word_read word) h = told_leads (NamesPairIn m.remembered.choice) tt write tt (serves made write) made word
  shows_in task made (Writing write) (Found_instead word) h =
      let machine : Machine = on task made (Writing write) in
      lost_leads (NamesPairIn m.remembered.choice) tt write tt machine word (goes_shows task m.mode m.remembered (look_seen write.place word)) (serves made write)
  shows_in task made (Writing write) Exchanged h = exchanged_leads (NamesPairIn m.remembered.choice) write tt (written_shows m.remembered.choice write)
      (serves made write)
  shows_in task made (Writing write) (Was_refused refused) h = refuses_leads (NamesPairIn m.remembered.choice) write refused tt tt (serves made write)
  shows_in task made (Writing write) answer h = tt
  shows_in task made (Offering gap) (Op ops.Insert) h = tt
  shows_in task made (Offering gap) (Op ops.Remove) h = tt
  shows_in task made (Offering gap) (Op (ops.Abort with)) h = tt
  shows_in task made (Offering gap) answer h = tt
  shows_in RemoveIf made (Showing removal) (Yes true) h = tt
  shows_in RemoveIf made (Showing removal) (Yes false) h = tt
  shows_in Get made (Showing removal) (Yes agrees) h = h
  shows_in (Insert replace) made (Showing removal) (Yes agrees) h = h
  shows_in Compute made (Showing removal) (Yes agrees) h = h
  shows_in Compute made (Showing removal) (Op ops.Insert) h = h
  shows_in Compute made (Showing removal) (Op ops.Remove) h = tt
  shows_in Compute made (Showing removal) (Op (ops.Abort with)) h = tt
  shows_in Get made (Showing removal) (Op kind) h = h
  shows_in (Insert replace) made (Showing removal) (Op kind) h = h
  shows_in RemoveIf made (Showing removal) (Op kind) h = h
  shows_in task made (Showing removal) answer h = h
  shows_in task made (Pairing purpose) (Made_number n) h = pairing_shows task made purpose n h (grown made (in_place_of purpose)) refl
  shows_in task made (Pairing purpose) (Word_read word) h = numbered_leads (NamesPairIn m.remembered.choice) tt (Pairing purpose) h (told made word)
  shows_in task made (Pairing purpose) (Found_instead word) h = numbered_leads (NamesPairIn m.remembered.choice) tt (Pairing purpose) h (told made word)
  shows_in task made (Pairing purpose) (Was_refused refused) h = tt
  shows_in task made (Pairing purpose) answer h = h
  shows_in task made (Putting put) Exchanged h = written_shows m.remembered.choice put.write put.pair
  shows_in task made (Putting put) (Found_instead word) h = goes_shows task m.mode m.remembered (look_seen put.write.place word)
  shows_in task made (Putting put) answer h = tt
  shows_in task made (Burying removal) (Found_instead word) h = beaten_task_shows task made removal word
  shows_in task made (Burying removal) answer h = tt
  shows_in task made (Counting n) Exchanged h = tt
  shows_in task made (Noting n) Exchanged h = tt
  shows_in task made (Counting n) answer h = tt
  shows_in task made (Noting n) answer h = tt
  shows_in task made (Uncounting n) Exchanged h = tt
  shows_in task made (Uncounting n) answer h = tt
  shows_in task made (Leaving t) (Word_read word) h = next_shows m.remembered.choice task m.remembered.fill t word
  shows_in task made (Leaving t) answer h = tt
  shows_in task made (Growing t) Exchanged h = tt
  shows_in task made (Growing t) answer h = tt
  shows_in task made (Ended reply) Exchanged h = tt
  shows_in task made (Ended reply) answer h = tt

  -- for the whole machine
  pub machine_shows : (answer : Answer) → NamesPairs m → NamesPairs (after m answer)
  machine_shows answer h = shows_in m.task m.made m.state answer h
