-- The table that a machine names, and the kinds of its asks.
use Rattle.std.proofs.Common.{◌≡◌, ◌⊎◌, inl, inr, ℕ, ◌==◌, nat_lt, Bool, true, false, cond, Option, None, Some, refl, sym, ap, ◌∙◌, subst}
use Rattle.std.proofs.lemmas.Bool.{cond_both}
use Rattle.papaya_words.specs.Word.{kind_of, may_hold, pair_of}
use Rattle.papaya_words.specs.declared.resize_mode.ResizeMode.{ResizeMode}
use Rattle.papaya_words.specs.declared.resize_mode.ResizeMode.TheVariants.{Incremental, Blocking}
use Rattle.papaya_words.specs.declared.word.Kind.{Kind}
use Rattle.papaya_words.specs.declared.word.Kind.TheVariants as word_kinds
use Rattle.papaya_call.specs.declared.ask.At.TheVariants.{Root}
use Rattle.papaya_call.specs.declared.ask.Ask.TheVariants.{Exchange, SizeOf}
use Rattle.papaya_call.specs.declared.ask.Answer.{Answer}
use Rattle.papaya_call.specs.declared.ask.Answer.TheVariants.{Word as Word_read, Exchanged}
use Rattle.papaya_call.specs.declared.ask.Answer.TheVariants.{Found as Found_instead, Yes, Op, Size}
use Rattle.papaya_call.specs.declared.ask.Answer.TheVariants.{Made as Made_number, Ok as Ok_done}
use Rattle.papaya_call.specs.declared.ask.Answer.TheVariants.{Refused as Was_refused}
use Rattle.papaya_call.specs.declared.ask.OpKind.{OpKind}
use Rattle.papaya_call.specs.declared.ask.OpKind.TheVariants as ops
use Rattle.papaya_call.specs.declared.ask.StepKind.TheVariants as kinds
use Rattle.papaya_call.specs.declared.call.Reply.TheVariants.{Absent, Replaced}
use Rattle.papaya_call.specs.declared.call.Task.{Task}
use Rattle.papaya_call.specs.declared.call.Task.TheVariants.{Get, Insert, RemoveIf, Compute}
use Rattle.papaya_call.specs.declared.compute.Choice.{Choice}
use Rattle.papaya_call.specs.declared.compute.Choice.TheVariants.{Replace as To_replace, Remove as To_remove}
use Rattle.papaya_call.specs.declared.compute.Gap.{Gap}
use Rattle.papaya_call.specs.declared.compute.Gap.TheVariants.{NoRoot, At, After}
use Rattle.papaya_call.specs.declared.compute.Purpose.{Purpose}
use Rattle.papaya_call.specs.declared.compute.Purpose.TheVariants.{Fill, Replace, Again}
use Rattle.papaya_call.specs.declared.compute.Remembered.{Remembered}
use Rattle.papaya_call.specs.declared.remove.Removal.{Removal}
use Rattle.papaya_call.specs.declared.search.Place.{Place}
use Rattle.papaya_call.specs.declared.search.Search.{Search}
use Rattle.papaya_call.specs.declared.search.Search.TheVariants.{Sizing, Looking, Reading, Comparing}
use Rattle.papaya_call.specs.declared.search.ProbeStep.{ProbeStep}
use Rattle.papaya_call.specs.declared.search.ProbeStep.TheVariants as seen
use Rattle.papaya_call.specs.declared.made.Made.{Made}
use Rattle.papaya_call_law.proofs.Makings.{HoldsOfPairAsks, IsPairAsk, IsWriteAsk, exchanged_leads}
use Rattle.papaya_call_law.proofs.Makings.{lost_leads, numbered_leads, pair_holds, paired_leads}
use Rattle.papaya_call_law.proofs.Makings.{pairing_asks, refuses_leads, told_leads, write_asks}
use Rattle.papaya_call_law.proofs.Makings.{write_holds}
use Rattle.papaya_call.specs.declared.write.Write.{Write}
use Rattle.papaya_call.specs.declared.machine.Machine.{Machine}
use Rattle.papaya_call.specs.declared.machine.State.{State}
use Rattle.papaya_call.specs.declared.machine.State.TheVariants.{AtRoot, Making, Opening, Searching}
use Rattle.papaya_call.specs.declared.machine.State.TheVariants.{Writing, Offering, Showing}
use Rattle.papaya_call.specs.declared.machine.State.TheVariants.{Pairing, Putting, Burying}
use Rattle.papaya_call.specs.declared.machine.State.TheVariants.{Counting, Noting, Uncounting}
use Rattle.papaya_call.specs.declared.machine.State.TheVariants.{Leaving, Growing, Ended}
use Rattle.papaya_call.specs.declared.made.Number.{Number}
use Rattle.papaya_call.specs.declared.made.Number.TheVariants.{Wanted, Free, Taken}
use Rattle.papaya_call.specs.Made.{grown, number_ask, number_kind, of_ask, own_ask, serves_at, told}
use Rattle.papaya_call.specs.Compute.{chosen, fills, in_place_of, lacks, offered, provides, recalled, recalls}
use Rattle.papaya_call_law.specs.Followed.{IsAtTable, IsCounting, IsGapAt, IsPurposeAt, MayAsk, table_asked, table_of, told_table}
use Rattle.papaya_call.specs.Machine.{HasClosure, IsChanger, IsValid, IsValidState, MayInsert}
use Rattle.papaya_call.specs.Machine.{after, absent, ask_of, asks, at_root, beaten_as, beaten_by}
use Rattle.papaya_call.specs.Machine.{computes, decided, goes_as, judged, kind_asked, kind_of_ask}
use Rattle.papaya_call.specs.Machine.{left, needed, passes, removes, served_kind, replaces, written}
use Rattle.papaya_call.specs.Write.{claimed_by, served_ask, serves}
use Rattle.papaya_call_law.specs.Relies.{change_in}
use Rattle.papaya_call.specs.Search.{at_size, at_word, at_yes, go_on, hinted, look, look_at, match_at, next_place}
use Rattle.papaya_call_law.proofs.Standing.{computer_inserts, writer_inserts}
use Rattle.papaya_call_law.proofs.Leads.{occupies_leads}

-- the outcome of a probe names no table but n
abbrev IsSeenAt : ℕ → ProbeStep → Type 0
IsSeenAt n (seen.On search) = table_of search ≡ n
IsSeenAt n (seen.Empty at) = at.table ≡ n
IsSeenAt n (seen.Here at word) = at.table ≡ n
IsSeenAt n (seen.Over t) = t ≡ n

module _ (n : ℕ) (at : Place) (is : at.table ≡ n) where
  on_at : IsSeenAt n (go_on at)
  on_at = cond_both (nat_lt at.probe.len at.limit) (seen.On (Looking (next_place at))) (seen.Over at.table) (IsSeenAt n) (λ _. is) (λ _. is)

  hint_at : (hash hint : ℕ) → IsSeenAt n (hinted at hash hint)
  hint_at hash hint = cond_both (may_hold hint hash) (seen.On (Reading at)) (go_on at) (IsSeenAt n) (λ _. is) (λ _. on_at)

  look_kind : (kind : Kind) (word : ℕ) → IsSeenAt n (look_at kind at word)
  look_kind word_kinds.Empty word = is
  look_kind word_kinds.Live word = is
  look_kind word_kinds.Marked word = is
  look_kind word_kinds.Copied word = is
  look_kind word_kinds.Buried word = on_at
  look_kind word_kinds.Closed word = on_at

  match_kind : (kind : Kind) (word : ℕ) → IsSeenAt n (match_at kind at word)
  match_kind word_kinds.Empty word = is
  match_kind word_kinds.Live word = is
  match_kind word_kinds.Marked word = is
  match_kind word_kinds.Copied word = is
  match_kind word_kinds.Buried word = is
  match_kind word_kinds.Closed word = is

  replaces_at : (kind : Kind) (word : ℕ) → IsAtTable n (replaces kind at word)
  replaces_at word_kinds.Empty word = is
  replaces_at word_kinds.Live word = is
  replaces_at word_kinds.Marked word = is
  replaces_at word_kinds.Copied word = is
  replaces_at word_kinds.Buried word = is
  replaces_at word_kinds.Closed word = is

  removes_at : (kind : Kind) (word : ℕ) → IsAtTable n (removes kind at word)
  removes_at word_kinds.Empty word = is
  removes_at word_kinds.Live word = is
  removes_at word_kinds.Marked word = is
  removes_at word_kinds.Copied word = is
  removes_at word_kinds.Buried word = is
  removes_at word_kinds.Closed word = is

-- a compute of an absent key stays at the table
fills_at : (n : ℕ) (gap : Gap) (i : ℕ) → IsGapAt n gap → IsAtTable n (fills gap i)
fills_at n NoRoot i is = tt
fills_at n (At place) i is = is
fills_at n (After t) i is = is

lacks_at : (n : ℕ) (fill : Option ℕ) (gap : Gap) → IsGapAt n gap → IsAtTable n (lacks fill gap)
lacks_at n None gap is = is
lacks_at n (Some i) gap is = fills_at n gap i is

absent_at : (n : ℕ) (task : Task) (fill : Option ℕ) (gap : Gap) → IsGapAt n gap → IsAtTable n (absent task fill gap)
absent_at n Get fill gap is = tt
absent_at n (Insert replace) fill gap is = tt
absent_at n RemoveIf fill gap is = tt
absent_at n Compute fill gap is = lacks_at n fill gap is

-- and one that met a pair
recalls_at : (n : ℕ) (choice : Option Choice) (at : Place) → at.table ≡ n → (word i : ℕ) → IsAtTable n (recalls choice at word i)
recalls_at n None at is word i = is
recalls_at n (Some (To_replace old new)) at is word i =
    cond_both (old == i) (recalled new at word) (Showing (record { place = at; word = word })) (IsAtTable n)
    (λ _. cond_both (serves_at new at.table at.probe.i) (Putting (record { write = record { place = at; old = word }; pair = new.pair }))
    (Pairing (Again (record { place = at; old = word }))) (IsAtTable n) (λ _. is) (λ _. is))
    (λ _. is)
recalls_at n (Some (To_remove old)) at is word i = cond_both (old == i) (Burying (record { place = at; word = word }))
    (Showing (record { place = at; word = word })) (IsAtTable n) (λ _. is) (λ _. is)

computes_at : (n : ℕ) (kind : Kind) (held : Remembered) (at : Place) → at.table ≡ n → (word : ℕ) → IsAtTable n (computes kind held at word)
computes_at n word_kinds.Empty held at is word = is
computes_at n word_kinds.Live held at is word = recalls_at n held.choice at is word (pair_of word)
computes_at n word_kinds.Marked held at is word = is
computes_at n word_kinds.Copied held at is word = is
computes_at n word_kinds.Buried held at is word = is
computes_at n word_kinds.Closed held at is word = is

-- a table that is passed
passes_at : (n : ℕ) (task : Task) (mode : ResizeMode) (fill : Option ℕ) (t : ℕ) → t ≡ n → IsAtTable n (passes task mode fill t)
passes_at n task (Incremental chunk) fill t is = is
passes_at n task Blocking fill t is = absent_at n task fill (After t) is

-- the outcome leads to the same table
goes_at : (n : ℕ) (task : Task) (mode : ResizeMode) (held : Remembered) (s : ProbeStep) → IsSeenAt n s → IsAtTable n (goes_as task mode held s)
goes_at n task mode held (seen.On search) is = is
goes_at n Get mode held (seen.Here at word) is = tt
goes_at n (Insert false) mode held (seen.Here at word) is = occupies_leads (IsAtTable n) (kind_of word) at word tt is
goes_at n (Insert true) mode held (seen.Here at word) is = replaces_at n at is (kind_of word) word
goes_at n RemoveIf mode held (seen.Here at word) is = removes_at n at is (kind_of word) word
goes_at n Compute mode held (seen.Here at word) is = computes_at n (kind_of word) held at is word
goes_at n Get mode held (seen.Empty at) is = tt
goes_at n RemoveIf mode held (seen.Empty at) is = tt
goes_at n Compute mode held (seen.Empty at) is = lacks_at n held.fill (At at) is
goes_at n (Insert replace) mode held (seen.Empty at) is = is
goes_at n Get mode held (seen.Over t) is = passes_at n Get mode held.fill t is
goes_at n RemoveIf mode held (seen.Over t) is = passes_at n RemoveIf mode held.fill t is
goes_at n Compute mode held (seen.Over t) is = passes_at n Compute mode held.fill t is
goes_at n (Insert replace) mode held (seen.Over t) is = is

-- by whether the number that was loaded is that of a table
cond_both_at : (none : Bool) (n word : ℕ) (s t : State) → IsAtTable n s → IsAtTable word t → IsAtTable (cond none n word) (cond none s t)
cond_both_at true n word s t absent some = absent
cond_both_at false n word s t absent some = some

-- a search continues in its table
word_at : (n : ℕ) (search : Search) → table_of search ≡ n → (hash word : ℕ) → IsSeenAt n (at_word search hash word)
word_at n (Sizing t) is hash word = is
word_at n (Looking at) is hash word = hint_at n at is hash word
word_at n (Reading at) is hash word = look_kind n at is (kind_of word) word
word_at n (Comparing at found) is hash word = is

yes_at : (n : ℕ) (search : Search) → table_of search ≡ n → (same : Bool) → IsSeenAt n (at_yes search same)
yes_at n (Sizing t) is same = is
yes_at n (Looking at) is same = is
yes_at n (Reading at) is same = is
yes_at n (Comparing at word) is true = match_kind n at is (kind_of word) word
yes_at n (Comparing at word) is false = on_at n at is

size_at : (n : ℕ) (search : Search) → table_of search ≡ n → (hash slots limit : ℕ) → table_of (at_size search hash slots limit) ≡ n
size_at n (Sizing t) is hash slots limit = is
size_at n (Looking at) is hash slots limit = is
size_at n (Reading at) is hash slots limit = is
size_at n (Comparing at word) is hash slots limit = is

root_at : (task : Task) (fill : Option ℕ) (n word : ℕ) → IsAtTable (cond (word == 0) n word) (at_root task fill word)
root_at Get fill n word = cond_both_at (word == 0) n word (Ended Absent) (Searching (Sizing word)) tt refl
root_at RemoveIf fill n word = cond_both_at (word == 0) n word (Ended Absent) (Searching (Sizing word)) tt refl
root_at Compute fill n word = cond_both_at (word == 0) n word (lacks fill NoRoot) (Searching (Sizing word)) (lacks_at n fill NoRoot tt) refl
root_at (Insert replace) fill n word = cond_both_at (word == 0) n word Making (Searching (Sizing word)) tt refl

left_at : (task : Task) (fill : Option ℕ) (n t word : ℕ) → t ≡ n → IsAtTable (cond (word == 0) n word) (left task fill t word)
left_at task fill n t word is = cond_both_at (word == 0) n word (absent task fill (After t)) (Searching (Sizing word)) (absent_at n task fill (After t) is) refl

written_at : (n : ℕ) (write : Write) (i : ℕ) → write.place.table ≡ n → IsAtTable n (written write i)
written_at n write i is = cond_both (write.old == 0) (Counting (claimed_by write i)) (Ended (Replaced (pair_of write.old) i)) (IsAtTable n) (λ _. is) (λ _. tt)

judged_at : (n : ℕ) (task : Task) (removal : Removal) → removal.place.table ≡ n → (agrees : Bool) → IsAtTable n (judged task removal agrees)
judged_at n Get removal is agrees = is
judged_at n (Insert replace) removal is agrees = is
judged_at n RemoveIf removal is true = is
judged_at n RemoveIf removal is false = tt
judged_at n Compute removal is agrees = is

chosen_at : (n : ℕ) (removal : Removal) → removal.place.table ≡ n → (kind : OpKind) → IsAtTable n (chosen removal kind)
chosen_at n removal is ops.Insert = is
chosen_at n removal is ops.Remove = is
chosen_at n removal is (ops.Abort t) = tt

decided_at : (n : ℕ) (task : Task) (removal : Removal) → removal.place.table ≡ n → (kind : OpKind) → IsAtTable n (decided task removal kind)
decided_at n Get removal is kind = is
decided_at n (Insert replace) removal is kind = is
decided_at n RemoveIf removal is kind = is
decided_at n Compute removal is kind = chosen_at n removal is kind

offered_at : (n : ℕ) (gap : Gap) → IsGapAt n gap → (kind : OpKind) → IsAtTable n (offered gap kind)
offered_at n gap is ops.Insert = is
offered_at n gap is ops.Remove = tt
offered_at n gap is (ops.Abort t) = tt

provides_at : (n : ℕ) (purpose : Purpose) (i : ℕ) → IsPurposeAt n purpose → IsAtTable n (provides purpose i)
provides_at n (Fill gap) i is = fills_at n gap i is
provides_at n (Replace write) i is = is
provides_at n (Again write) i is = is

beaten_at : (n : ℕ) (m : Machine) (kind : Kind) (at : Place) → at.table ≡ n → (word : ℕ) → IsAtTable n (beaten_by kind m at word)
beaten_at n m word_kinds.Buried at is word = tt
beaten_at n m word_kinds.Empty at is word = goes_at n m.task m.mode m.remembered (look at word) (look_kind n at is (kind_of word) word)
beaten_at n m word_kinds.Live at is word = goes_at n m.task m.mode m.remembered (look at word) (look_kind n at is (kind_of word) word)
beaten_at n m word_kinds.Marked at is word = goes_at n m.task m.mode m.remembered (look at word) (look_kind n at is (kind_of word) word)
beaten_at n m word_kinds.Copied at is word = goes_at n m.task m.mode m.remembered (look at word) (look_kind n at is (kind_of word) word)
beaten_at n m word_kinds.Closed at is word = goes_at n m.task m.mode m.remembered (look at word) (look_kind n at is (kind_of word) word)

beaten_as_at : (n : ℕ) (m : Machine) (task : Task) (at : Place) → at.table ≡ n → (word : ℕ) → IsAtTable n (beaten_as task m at word)
beaten_as_at n m Get at is word = beaten_at n m (kind_of word) at is word
beaten_as_at n m (Insert replace) at is word = beaten_at n m (kind_of word) at is word
beaten_as_at n m RemoveIf at is word = beaten_at n m (kind_of word) at is word
beaten_as_at n m Compute at is word = goes_at n m.task m.mode m.remembered (look at word) (look_kind n at is (kind_of word) word)

module _ (m : Machine) (n : ℕ) where
  -- the answer leaves the table that was received last
  abbrev HasNoTable : Answer → Type 0
  HasNoTable answer = HoldsOfPairAsks (λ ask. told_table ask answer n ≡ n)

  -- a machine at table n names, after an answer, the table that it received last
  abbrev Leads : Made → State → Answer → Type 0
  Leads made s answer = IsAtTable n s → IsAtTable (told_table (asks made m.hash s) answer n) (after (record m { made = made; state = s }) answer).state

  -- a search
  searching_at : (made : Made) (search : Search) (answer : Answer) → table_of search ≡ n
      → IsAtTable n (after (record m { made = made; state = Searching search }) answer).state
  searching_at made search (Word_read word) is = goes_at n m.task m.mode m.remembered (at_word search m.hash word) (word_at n search is m.hash word)
  searching_at made search Exchanged is = is
  searching_at made search (Found_instead word) is = is
  searching_at made search (Yes same) is = goes_at n m.task m.mode m.remembered (at_yes search same) (yes_at n search is same)
  searching_at made search (Op kind) is = is
  searching_at made search (Size slots limit) is = size_at n search is m.hash slots limit
  searching_at made search (Made_number i) is = is
  searching_at made search Ok_done is = is
  searching_at made search (Was_refused refused) is = is

  -- a write
  writing_at : (made : Made) (write : Write) (answer : Answer) → write.place.table ≡ n
      → IsAtTable n (after (record m { made = made; state = Writing write }) answer).state
  writing_at made write (Word_read word) is = told_leads (IsAtTable n) tt write is (serves made write) made word
  writing_at made write Exchanged is = exchanged_leads (IsAtTable n) write is (λ i. written_at n write i is) (serves made write)
  writing_at made write (Found_instead word) is =
      let machine : Machine = record m { made = made; state = Writing write } in
      lost_leads (IsAtTable n) tt write is machine word
      (goes_at n m.task m.mode m.remembered (look write.place word) (look_kind n write.place is (kind_of word) word)) (serves made write)
  writing_at made write (Yes same) is = is
  writing_at made write (Op kind) is = is
  writing_at made write (Size slots limit) is = is
  writing_at made write (Made_number i) is = is
  writing_at made write Ok_done is = is
  writing_at made write (Was_refused refused) is = refuses_leads (IsAtTable n) write refused is tt (serves made write)

  -- the answer to an ask for a pair contains no table
  untold : (answer : Answer) → HasNoTable answer
  untold answer = record { loads = refl; takes = λ count. refl; key = refl; value = refl; pair = refl; pair_of = λ i. refl }

  write_untold : (made : Made) (write : Write) (answer : Answer) → told_table (asks made m.hash (Writing write)) answer n ≡ n
  write_untold made write answer = write_holds (λ ask. told_table ask answer n ≡ n) (untold answer) write (λ i. refl) made

  pairing_untold : (made : Made) (purpose : Purpose) (answer : Answer) → told_table (asks made m.hash (Pairing purpose)) answer n ≡ n
  pairing_untold made purpose answer = pair_holds (λ ask. told_table ask answer n ≡ n) (untold answer) made (in_place_of purpose)

  -- a compute that makes a pair
  pairing_at : (made : Made) (purpose : Purpose) (answer : Answer) → IsPurposeAt n purpose
      → IsAtTable n (after (record m { made = made; state = Pairing purpose }) answer).state
  pairing_at made purpose (Word_read word) is = numbered_leads (IsAtTable n) tt (Pairing purpose) is (told made word)
  pairing_at made purpose Exchanged is = is
  pairing_at made purpose (Found_instead word) is = numbered_leads (IsAtTable n) tt (Pairing purpose) is (told made word)
  pairing_at made purpose (Yes same) is = is
  pairing_at made purpose (Op kind) is = is
  pairing_at made purpose (Size slots limit) is = is
  pairing_at made purpose (Made_number i) is = paired_leads (IsAtTable n) purpose i is (provides_at n purpose i is) (grown made (in_place_of purpose))
  pairing_at made purpose Ok_done is = is
  pairing_at made purpose (Was_refused refused) is = tt

  leads : (made : Made) (s : State) (answer : Answer) → Leads made s answer
  leads made AtRoot (Word_read word) is = root_at m.task m.remembered.fill n word
  leads made AtRoot Exchanged is = tt
  leads made AtRoot (Found_instead word) is = tt
  leads made AtRoot (Yes same) is = tt
  leads made AtRoot (Op kind) is = tt
  leads made AtRoot (Size slots limit) is = tt
  leads made AtRoot (Made_number i) is = tt
  leads made AtRoot Ok_done is = tt
  leads made AtRoot (Was_refused refused) is = tt
  leads made Making (Word_read word) is = tt
  leads made Making Exchanged is = tt
  leads made Making (Found_instead word) is = tt
  leads made Making (Yes same) is = tt
  leads made Making (Op kind) is = tt
  leads made Making (Size slots limit) is = tt
  leads made Making (Made_number i) is = tt
  leads made Making Ok_done is = tt
  leads made Making (Was_refused refused) is = tt
  leads made (Opening t) (Word_read word) is = tt
  leads made (Opening t) Exchanged is = refl
  leads made (Opening t) (Found_instead word) is = refl
  leads made (Opening t) (Yes same) is = tt
  leads made (Opening t) (Op kind) is = tt
  leads made (Opening t) (Size slots limit) is = tt
  leads made (Opening t) (Made_number i) is = tt
  leads made (Opening t) Ok_done is = tt
  leads made (Opening t) (Was_refused refused) is = tt
  leads made (Searching (Sizing t)) answer is = searching_at made (Sizing t) answer is
  leads made (Searching (Looking at)) answer is = searching_at made (Looking at) answer is
  leads made (Searching (Reading at)) answer is = searching_at made (Reading at) answer is
  leads made (Searching (Comparing at word)) answer is = searching_at made (Comparing at word) answer is
  leads made (Writing write) answer is = subst (λ t. IsAtTable t (after (record m { made = made; state = Writing write }) answer).state)
      (sym (write_untold made write answer)) (writing_at made write answer is)
  leads made (Offering gap) (Word_read word) is = is
  leads made (Offering gap) Exchanged is = is
  leads made (Offering gap) (Found_instead word) is = is
  leads made (Offering gap) (Yes same) is = is
  leads made (Offering gap) (Op kind) is = offered_at n gap is kind
  leads made (Offering gap) (Size slots limit) is = is
  leads made (Offering gap) (Made_number i) is = is
  leads made (Offering gap) Ok_done is = is
  leads made (Offering gap) (Was_refused refused) is = is
  leads made (Pairing purpose) answer is = subst (λ t. IsAtTable t (after (record m { made = made; state = Pairing purpose }) answer).state)
      (sym (pairing_untold made purpose answer)) (pairing_at made purpose answer is)
  leads made (Putting put) (Word_read word) is = is
  leads made (Putting put) Exchanged is = written_at n put.write put.pair is
  leads made (Putting put) (Found_instead word) is = goes_at n m.task m.mode m.remembered (look put.write.place word)
      (look_kind n put.write.place is (kind_of word) word)
  leads made (Putting put) (Yes same) is = is
  leads made (Putting put) (Op kind) is = is
  leads made (Putting put) (Size slots limit) is = is
  leads made (Putting put) (Made_number i) is = is
  leads made (Putting put) Ok_done is = is
  leads made (Putting put) (Was_refused refused) is = is
  leads made (Showing removal) (Word_read word) is = is
  leads made (Showing removal) Exchanged is = is
  leads made (Showing removal) (Found_instead word) is = is
  leads made (Showing removal) (Yes same) is = judged_at n m.task removal is same
  leads made (Showing removal) (Op kind) is = decided_at n m.task removal is kind
  leads made (Showing removal) (Size slots limit) is = is
  leads made (Showing removal) (Made_number i) is = is
  leads made (Showing removal) Ok_done is = is
  leads made (Showing removal) (Was_refused refused) is = is
  leads made (Burying removal) (Word_read word) is = is
  leads made (Burying removal) Exchanged is = tt
  leads made (Burying removal) (Found_instead word) is = beaten_as_at n (record m { made = made; state = Burying removal }) m.task removal.place is word
  leads made (Burying removal) (Yes same) is = is
  leads made (Burying removal) (Op kind) is = is
  leads made (Burying removal) (Size slots limit) is = is
  leads made (Burying removal) (Made_number i) is = is
  leads made (Burying removal) Ok_done is = is
  leads made (Burying removal) (Was_refused refused) is = is
  leads made (Counting i) (Word_read word) is = is
  leads made (Noting i) (Word_read word) is = is
  leads made (Counting i) Exchanged is = is
  leads made (Noting i) Exchanged is = is
  leads made (Counting i) (Found_instead word) is = is
  leads made (Noting i) (Found_instead word) is = is
  leads made (Counting i) (Yes same) is = is
  leads made (Noting i) (Yes same) is = is
  leads made (Counting i) (Op kind) is = is
  leads made (Noting i) (Op kind) is = is
  leads made (Counting i) (Size slots limit) is = is
  leads made (Noting i) (Size slots limit) is = is
  leads made (Counting i) (Made_number j) is = is
  leads made (Noting i) (Made_number j) is = is
  leads made (Counting i) Ok_done is = is
  leads made (Noting i) Ok_done is = tt
  leads made (Counting i) (Was_refused refused) is = is
  leads made (Noting i) (Was_refused refused) is = is
  leads made (Uncounting i) (Word_read word) is = tt
  leads made (Uncounting i) Exchanged is = tt
  leads made (Uncounting i) (Found_instead word) is = tt
  leads made (Uncounting i) (Yes same) is = tt
  leads made (Uncounting i) (Op kind) is = tt
  leads made (Uncounting i) (Size slots limit) is = tt
  leads made (Uncounting i) (Made_number j) is = tt
  leads made (Uncounting i) Ok_done is = tt
  leads made (Uncounting i) (Was_refused refused) is = tt
  leads made (Leaving t) (Word_read word) is = left_at m.task m.remembered.fill n t word is
  leads made (Leaving t) Exchanged is = is
  leads made (Leaving t) (Found_instead word) is = is
  leads made (Leaving t) (Yes same) is = is
  leads made (Leaving t) (Op kind) is = is
  leads made (Leaving t) (Size slots limit) is = is
  leads made (Leaving t) (Made_number i) is = is
  leads made (Leaving t) Ok_done is = is
  leads made (Leaving t) (Was_refused refused) is = is
  leads made (Growing t) (Word_read word) is = tt
  leads made (Growing t) Exchanged is = is
  leads made (Growing t) (Found_instead word) is = is
  leads made (Growing t) (Yes same) is = is
  leads made (Growing t) (Op kind) is = is
  leads made (Growing t) (Size slots limit) is = is
  leads made (Growing t) (Made_number i) is = is
  leads made (Growing t) Ok_done is = is
  leads made (Growing t) (Was_refused refused) is = is
  leads made (Ended reply) (Word_read word) is = tt
  leads made (Ended reply) Exchanged is = tt
  leads made (Ended reply) (Found_instead word) is = tt
  leads made (Ended reply) (Yes same) is = tt
  leads made (Ended reply) (Op kind) is = tt
  leads made (Ended reply) (Size slots limit) is = tt
  leads made (Ended reply) (Made_number i) is = tt
  leads made (Ended reply) Ok_done is = tt
  leads made (Ended reply) (Was_refused refused) is = tt

-- a machine names the table whose number it received last
pub table_told : (m : Machine) (answer : Answer) (n : ℕ) → IsAtTable n m.state → IsAtTable (told_table (ask_of m) answer n) (after m answer).state
table_told m answer n is = leads m n m.made m.state answer is

named_in : (made : Made) (hash : ℕ) (s : State) (n t : ℕ) → IsAtTable n s → table_asked (asks made hash s) ≡ Some t → t ≡ n
named_in made hash AtRoot n t is e = absurd cc
named_in made hash Making n t is e = absurd cc
named_in made hash (Opening u) n t is e = absurd cc
named_in made hash (Searching (Sizing u)) n t is e = let j : u ≡ t = cc e in sym j ∙ is
named_in made hash (Searching (Looking at)) n t is e = let j : at.table ≡ t = cc e in sym j ∙ is
named_in made hash (Searching (Reading at)) n t is e = let j : at.table ≡ t = cc e in sym j ∙ is
named_in made hash (Searching (Comparing at word)) n t is e = absurd cc
named_in made hash (Writing write) n t is e = write_holds (λ ask. table_asked ask ≡ Some t → t ≡ n)
    (record {
      loads = λ f. absurd cc;
      takes = λ count f. absurd cc;
      key = λ f. absurd cc;
      value = λ f. absurd cc;
      pair = λ f.
          absurd cc;
      pair_of = λ i f. absurd cc;
    }) write (λ i f. let j : write.place.table ≡ t = cc f in sym j ∙ is) made e
named_in made hash (Offering gap) n t is e = absurd cc
named_in made hash (Showing removal) n t is e = absurd cc
named_in made hash (Pairing purpose) n t is e = pair_holds (λ ask. table_asked ask ≡ Some t → t ≡ n)
    (record {
      loads = λ f. absurd cc;
      takes = λ count f. absurd cc;
      key = λ f. absurd cc;
      value = λ f. absurd cc;
      pair = λ f.
          absurd cc;
      pair_of = λ i f. absurd cc;
    }) made (in_place_of purpose) e
named_in made hash (Putting put) n t is e = let j : put.write.place.table ≡ t = cc e in sym j ∙ is
named_in made hash (Burying removal) n t is e = let j : removal.place.table ≡ t = cc e in sym j ∙ is
named_in made hash (Counting i) n t is e = absurd cc
named_in made hash (Noting i) n t is e = let j : i.place.table ≡ t = cc e in sym j ∙ is
named_in made hash (Uncounting i) n t is e = absurd cc
named_in made hash (Leaving u) n t is e = let j : u ≡ t = cc e in sym j ∙ is
named_in made hash (Growing need) n t is e = let j : needed need ≡ t = cc e in sym j ∙ is
named_in made hash (Ended reply) n t is e = absurd cc

pub table_named : (m : Machine) (n t : ℕ) → IsAtTable n m.state → table_asked (ask_of m) ≡ Some t → t ≡ n
table_named m n t is e = named_in m.made m.hash m.state n t is e

write_kinds : (write : Write) → (Some (cond (write.old == 0) kinds.Claim kinds.Replace) ≡ Some kinds.Claim)
    ⊎ (Some (cond (write.old == 0) kinds.Claim kinds.Replace) ≡ Some kinds.Replace)
write_kinds write = cond_both (write.old == 0) kinds.Claim kinds.Replace (λ k. (Some k ≡ Some kinds.Claim) ⊎ (Some k ≡ Some kinds.Replace))
    (λ _. inl refl) (λ _. inr refl)

inserter_changes : (task : Task) → MayInsert task → IsChanger task
inserter_changes Get may = may
inserter_changes (Insert replace) may = tt
inserter_changes RemoveIf may = tt
inserter_changes Compute may = tt

closure_changes : (task : Task) → HasClosure task → IsChanger task
closure_changes Get has = has
closure_changes (Insert replace) has = tt
closure_changes RemoveIf has = tt
closure_changes Compute has = tt

-- the asks for a pair, for a call that may insert
own_may : (task : Task) → MayInsert task → (keyed valued : Bool) → MayAsk task None (own_ask keyed valued)
own_may task may false valued = may
own_may task may true false = may
own_may task may true true = may

of_may : (task : Task) → MayInsert task → (valued : Bool) (old : ℕ) → MayAsk task None (of_ask valued old)
of_may task may false old = may
of_may task may true old = may

number_may : (task : Task) (number : Number) (made : Made) (old : ℕ) → MayInsert task → MayAsk task (number_kind number) (number_ask number made old)
number_may task Wanted made old may = may
number_may task (Free count) made old may = (may, refl, refl)
number_may task Taken made old may = cond_both (old == 0) (own_ask made.keyed made.valued) (of_ask made.valued old) (MayAsk task None)
    (λ _. own_may task may made.keyed made.valued) (λ _. of_may task may made.valued old)

write_may : (task : Task) (made : Made) (write : Write) → MayInsert task → (served : Option ℕ)
    → MayAsk task (served_kind served made write) (served_ask served write made)
write_may task made write may None = number_may task made.number made write.old may
write_may task made write may (Some i) = inl (may, write_kinds write)

asks_in : (task : Task) (made : Made) (hash : ℕ) (s : State) → IsValidState task s → MayAsk task (kind_asked made s) (asks made hash s)
asks_in task made hash AtRoot stands = tt
asks_in task made hash Making stands = stands
asks_in task made hash (Opening u) stands = (stands, refl, refl)
asks_in task made hash (Searching (Sizing u)) stands = tt
asks_in task made hash (Searching (Looking at)) stands = tt
asks_in task made hash (Searching (Reading at)) stands = tt
asks_in task made hash (Searching (Comparing at word)) stands = tt
asks_in task made hash (Writing write) stands = write_may task made write (writer_inserts task stands.0) (serves made write)
asks_in task made hash (Offering gap) stands = stands.0
asks_in task made hash (Pairing purpose) stands = number_may task made.number made (in_place_of purpose) (computer_inserts task stands.0)
asks_in task made hash (Putting put) stands = inl (computer_inserts task stands.0, write_kinds put.write)
asks_in task made hash (Showing removal) stands = stands.0
asks_in task made hash (Burying removal) stands = inr (stands.0, refl)
asks_in task made hash (Counting i) stands = inserter_changes task stands
asks_in task made hash (Noting i) stands = stands
asks_in task made hash (Uncounting i) stands = closure_changes task stands
asks_in task made hash (Leaving u) stands = tt
asks_in task made hash (Growing u) stands = tt
asks_in task made hash (Ended reply) stands = tt

-- the asks of a machine are those of its task
pub asked_of_task : (m : Machine) → IsValid m → MayAsk m.task (kind_of_ask m) (ask_of m)
asked_of_task m stands = asks_in m.task m.made m.hash m.state stands.state

-- it opens a table once
opens_in : (m : Machine) (made : Made) (s : State) (answer : Answer) (t n : ℕ) → asks made m.hash s ≡ Exchange Root 0 t → (answer ≡ Exchanged)
    ⊎ ((word : ℕ) × (answer ≡ Found_instead word)) → ask_of (after (record m { made = made; state = s }) answer) ≡ Exchange Root 0 n → ⊥
opens_in m made AtRoot answer t n e a f = cc e
opens_in m made Making answer t n e a f = cc e
opens_in m made (Opening u) answer t n e (inl a) f = let g : SizeOf u ≡ Exchange Root 0 n = sym
    (ap (λ z. ask_of (after (record m { made = made; state = Opening u }) z)) a) ∙ f in cc g
opens_in m made (Opening u) answer t n e (inr (word, a)) f = let g : SizeOf word ≡ Exchange Root 0 n = sym
    (ap (λ z. ask_of (after (record m { made = made; state = Opening u }) z)) a) ∙ f in cc g
opens_in m made (Searching (Sizing u)) answer t n e a f = cc e
opens_in m made (Searching (Looking at)) answer t n e a f = cc e
opens_in m made (Searching (Reading at)) answer t n e a f = cc e
opens_in m made (Searching (Comparing at word)) answer t n e a f = cc e
opens_in m made (Writing write) answer t n e a f = subst IsWriteAsk e (write_asks made write)
opens_in m made (Offering gap) answer t n e a f = cc e
opens_in m made (Showing removal) answer t n e a f = cc e
opens_in m made (Pairing purpose) answer t n e a f = subst IsPairAsk e (pairing_asks made purpose)
opens_in m made (Putting put) answer t n e a f = cc e
opens_in m made (Burying removal) answer t n e a f = cc e
opens_in m made (Counting i) answer t n e a f = cc e
opens_in m made (Noting i) answer t n e a f = cc e
opens_in m made (Uncounting i) answer t n e a f = cc e
opens_in m made (Leaving u) answer t n e a f = cc e
opens_in m made (Growing u) answer t n e a f = cc e
opens_in m made (Ended reply) answer t n e a f = cc e

pub opens_once : (m : Machine) (answer : Answer) (t n : ℕ) → ask_of m ≡ Exchange Root 0 t → (answer ≡ Exchanged)
    ⊎ ((word : ℕ) × (answer ≡ Found_instead word)) → ask_of (after m answer) ≡ Exchange Root 0 n → ⊥
opens_once m answer t n e a f = opens_in m m.made m.state answer t n e a f

-- once it has changed the map it counts
counts_in : (made : Made) (hash : ℕ) (s : State) (change : Option ℕ × Option ℕ) → change_in s ≡ Some change → IsCounting (asks made hash s)
counts_in made hash AtRoot change e = absurd cc
counts_in made hash Making change e = absurd cc
counts_in made hash (Opening u) change e = absurd cc
counts_in made hash (Searching search) change e = absurd cc
counts_in made hash (Writing write) change e = absurd cc
counts_in made hash (Offering gap) change e = absurd cc
counts_in made hash (Showing removal) change e = absurd cc
counts_in made hash (Pairing purpose) change e = absurd cc
counts_in made hash (Putting put) change e = absurd cc
counts_in made hash (Burying removal) change e = absurd cc
counts_in made hash (Counting i) change e = tt
counts_in made hash (Noting i) change e = tt
counts_in made hash (Uncounting i) change e = tt
counts_in made hash (Leaving u) change e = absurd cc
counts_in made hash (Growing u) change e = absurd cc
counts_in made hash (Ended reply) change e = tt

pub counts_after : (m : Machine) (change : Option ℕ × Option ℕ) → change_in m.state ≡ Some change → IsCounting (ask_of m)
counts_after m change e = counts_in m.made m.hash m.state change e
