-- The table that a machine opens as the root is one that it made.
use Rattle.std.proofs.Common.{◌≡◌, ◌⊎◌, inl, inr, ⊎_elim, ℕ, ◌==◌, Bool, true, false, Option, None, Some, refl, sym, ap, ◌∙◌}
use Rattle.std.proofs.lemmas.Bool.{cond_both}
use Rattle.papaya_words.specs.Word.{pair_of}
use Rattle.papaya_words.specs.declared.limits.TheConstants.{FIRST_TABLE_LEN, FIRST_TABLE_LIMIT}
use Rattle.papaya_words.specs.declared.resize_mode.ResizeMode.{ResizeMode}
use Rattle.papaya_call.specs.declared.ask.Answer.{Answer}
use Rattle.papaya_call.specs.declared.ask.Answer.TheVariants.{Word as Word_read, Exchanged}
use Rattle.papaya_call.specs.declared.ask.Answer.TheVariants.{Found as Found_instead, Yes, Op}
use Rattle.papaya_call.specs.declared.ask.Answer.TheVariants.{Made as Made_number, Ok as Ok_done}
use Rattle.papaya_call.specs.declared.ask.Answer.TheVariants.{Refused as Was_refused}
use Rattle.papaya_call.specs.declared.ask.Ask.{Ask}
use Rattle.papaya_call.specs.declared.ask.Ask.TheVariants.{Exchange as Ask_exchange, MakeTable}
use Rattle.papaya_call.specs.declared.ask.At.TheVariants.{Root}
use Rattle.papaya_call.specs.declared.ask.OpKind.{OpKind}
use Rattle.papaya_call.specs.declared.ask.OpKind.TheVariants as ops
use Rattle.papaya_call.specs.declared.call.Reply.TheVariants.{Replaced}
use Rattle.papaya_call.specs.declared.call.Task.{Task}
use Rattle.papaya_call.specs.declared.call.Task.TheVariants.{Get, Insert, RemoveIf, Compute}
use Rattle.papaya_call.specs.declared.compute.Gap.{Gap}
use Rattle.papaya_call.specs.declared.compute.Remembered.{Remembered}
use Rattle.papaya_call.specs.declared.remove.Removal.{Removal}
use Rattle.papaya_call.specs.declared.search.Search.TheVariants.{Sizing, Looking, Reading, Comparing}
use Rattle.papaya_call.specs.declared.search.ProbeStep.{ProbeStep}
use Rattle.papaya_call.specs.declared.made.Made.{Made}
use Rattle.papaya_call_law.proofs.Makings.{HoldsOfPairAsks, exchanged_leads, lost_leads}
use Rattle.papaya_call_law.proofs.Makings.{numbered_leads, pair_holds, paired_leads, refuses_leads}
use Rattle.papaya_call_law.proofs.Makings.{told_leads, write_holds}
use Rattle.papaya_call.specs.declared.write.Write.{Write}
use Rattle.papaya_call.specs.declared.machine.Machine.{Machine}
use Rattle.papaya_call.specs.declared.machine.State.{State as Stage}
use Rattle.papaya_call.specs.declared.machine.State.TheVariants.{AtRoot, Making, Opening, Searching}
use Rattle.papaya_call.specs.declared.machine.State.TheVariants.{Writing, Offering, Showing}
use Rattle.papaya_call.specs.declared.machine.State.TheVariants.{Pairing, Putting, Burying}
use Rattle.papaya_call.specs.declared.machine.State.TheVariants.{Counting, Noting, Uncounting}
use Rattle.papaya_call.specs.declared.machine.State.TheVariants.{Leaving, Growing, Ended}
use Rattle.papaya_call.specs.Compute.{in_place_of, offered}
use Rattle.papaya_call.specs.Made.{grown, told}
use Rattle.papaya_call.specs.Machine.{after, ask_of, asks, at_root, beaten, decided, exchanged}
use Rattle.papaya_call.specs.Machine.{goes_as, judged, left, numbered, paired, refuses, write_lost}
use Rattle.papaya_call.specs.Machine.{write_told, written}
use Rattle.papaya_call.specs.Search.{look as look_seen, at_word as search_loaded, at_yes as search_compared}
use Rattle.papaya_call_law.proofs.Leads.{HoldsOfLeads, beaten_leads, goes_leads, left_leads, provides_leads, root_leads}
use Rattle.papaya_call.specs.Write.{claimed_by, serves}

-- the table that is to be the root
abbrev opening_in : Stage → Option ℕ
opening_in (Opening t) = Some t
opening_in _ = None

-- by an ask
abbrev opening_of : Ask → Option ℕ
opening_of (Ask_exchange Root old t) = Some t
opening_of _ = None

-- the asks for a pair open nothing
pairs_open_none : HoldsOfPairAsks (λ ask. opening_of ask ≡ None)
pairs_open_none = record { loads = refl; takes = λ count. refl; key = refl; value = refl; pair = refl; pair_of = λ n. refl }

-- its ask states it
opening_asked : (made : Made) (hash : ℕ) (stage : Stage) → opening_of (asks made hash stage) ≡ opening_in stage
opening_asked made hash AtRoot = refl
opening_asked made hash Making = refl
opening_asked made hash (Opening t) = refl
opening_asked made hash (Searching (Sizing t)) = refl
opening_asked made hash (Searching (Looking at)) = refl
opening_asked made hash (Searching (Reading at)) = refl
opening_asked made hash (Searching (Comparing at word)) = refl
opening_asked made hash (Writing write) = write_holds (λ ask. opening_of ask ≡ None) pairs_open_none write (λ n. refl) made
opening_asked made hash (Offering gap) = refl
opening_asked made hash (Showing removal) = refl
opening_asked made hash (Pairing purpose) = pair_holds (λ ask. opening_of ask ≡ None) pairs_open_none made (in_place_of purpose)
opening_asked made hash (Putting put) = refl
opening_asked made hash (Burying removal) = refl
opening_asked made hash (Counting n) = refl
opening_asked made hash (Noting n) = refl
opening_asked made hash (Uncounting n) = refl
opening_asked made hash (Leaving t) = refl
opening_asked made hash (Growing t) = refl
opening_asked made hash (Ended reply) = refl

-- nothing is opened
abbrev OpensNone : Stage → Type 0
OpensNone stage = opening_in stage ≡ None

-- a load or a search opens nothing
leads_open_none : HoldsOfLeads OpensNone
leads_open_none = record {
  ended_absent = refl;
  ended_found = λ n. refl;
  ended_occupied = λ n. refl;
  making = refl;
  searching = λ place. refl;
  writing = λ write. refl;
  offering = λ gap. refl;
  showing = λ removal. refl;
  pairing = λ purpose. refl;
  putting = λ put. refl;
  burying = λ removal. refl;
  leaving = λ t. refl;
  growing = λ t. refl;
}

-- nor does the outcome of a probe
goes_open_none : (task : Task) (mode : ResizeMode) (held : Remembered) (s : ProbeStep) → OpensNone (goes_as task mode held s)
goes_open_none task mode held s = goes_leads OpensNone leads_open_none task mode held s

-- nor does a write
written_opens_none : (write : Write) (n : ℕ) → OpensNone (written write n)
written_opens_none write n = cond_both (write.old == 0) (Counting (claimed_by write n)) (Ended (Replaced (pair_of write.old) n)) OpensNone (λ _. refl)
    (λ _. refl)

-- nor a result of a closure
judged_opens_none : (task : Task) (removal : Removal) (agrees : Bool) → OpensNone (judged task removal agrees)
judged_opens_none Get removal agrees = refl
judged_opens_none (Insert replace) removal agrees = refl
judged_opens_none RemoveIf removal true = refl
judged_opens_none RemoveIf removal false = refl
judged_opens_none Compute removal agrees = refl

-- for a compute
decided_opens_none : (task : Task) (removal : Removal) (kind : OpKind) → OpensNone (decided task removal kind)
decided_opens_none Get removal kind = refl
decided_opens_none (Insert replace) removal kind = refl
decided_opens_none RemoveIf removal kind = refl
decided_opens_none Compute removal ops.Insert = refl
decided_opens_none Compute removal ops.Remove = refl
decided_opens_none Compute removal (ops.Abort with) = refl

-- for None
offered_opens_none : (gap : Gap) (kind : OpKind) → OpensNone (offered gap kind)
offered_opens_none gap ops.Insert = refl
offered_opens_none gap ops.Remove = refl
offered_opens_none gap (ops.Abort with) = refl

module _ (m : Machine) (t : ℕ) where
  -- the table was just made, or is being opened
  abbrev IsOpened : Stage → Answer → Type 0
  IsOpened stage answer = ((answer ≡ Made_number t) × (stage ≡ Making)) ⊎ (stage ≡ Opening t)

  -- if nothing is opened
  none_opened : (stage : Stage) (answer : Answer) (o : Option ℕ) → o ≡ None → o ≡ Some t → IsOpened stage answer
  none_opened stage answer o none some = let no : None ≡ Some t = sym none ∙ some in absurd cc

  -- in each stage
  opened_in : (made : Made) (stage : Stage) (answer : Answer) → opening_in (after (record m { made = made; state = stage }) answer).state ≡ Some t
      → IsOpened stage answer
  opened_in made AtRoot (Word_read word) e = none_opened AtRoot (Word_read word) (opening_in (at_root m.task m.remembered.fill word))
      (root_leads OpensNone leads_open_none m.task m.remembered.fill word) e
  opened_in made AtRoot answer e = absurd cc
  opened_in made Making (Made_number n) e = let is : n ≡ t = cc e in inl (ap Made_number is, refl)
  opened_in made Making answer e = absurd cc
  opened_in made (Opening i) Exchanged e = absurd cc
  opened_in made (Opening i) (Found_instead word) e = absurd cc
  opened_in made (Opening i) answer e = let is : i ≡ t = cc e in inr (ap Opening is)
  opened_in made (Searching place) (Word_read word) e =
      none_opened (Searching place) (Word_read word) (opening_in (goes_as m.task m.mode m.remembered (search_loaded place m.hash word)))
      (goes_open_none m.task m.mode m.remembered (search_loaded place m.hash word)) e
  opened_in made (Searching place) (Yes same) e =
      none_opened (Searching place) (Yes same) (opening_in (goes_as m.task m.mode m.remembered (search_compared place same)))
      (goes_open_none m.task m.mode m.remembered (search_compared place same)) e
  opened_in made (Searching place) answer e = absurd cc
  opened_in made (Writing write) (Word_read word) e = none_opened (Writing write) (Word_read word)
      (opening_in (write_told (serves made write) made write word)) (told_leads OpensNone refl write refl (serves made write) made word) e
  opened_in made (Writing write) (Found_instead word) e =
      let machine : Machine = record m { made = made; state = Writing write } in
      none_opened (Writing write) (Found_instead word) (opening_in (write_lost (serves made write) machine write word))
      (lost_leads OpensNone refl write refl machine word (goes_open_none m.task m.mode m.remembered (look_seen write.place word)) (serves made write)) e
  opened_in made (Writing write) Exchanged e = none_opened (Writing write) Exchanged (opening_in (exchanged (serves made write) write))
      (exchanged_leads OpensNone write refl (written_opens_none write) (serves made write)) e
  opened_in made (Writing write) (Was_refused refused) e = none_opened (Writing write) (Was_refused refused)
      (opening_in (refuses (serves made write) refused write)) (refuses_leads OpensNone write refused refl refl (serves made write)) e
  opened_in made (Writing write) answer e = absurd cc
  opened_in made (Offering gap) (Op kind) e = none_opened (Offering gap) (Op kind) (opening_in (offered gap kind)) (offered_opens_none gap kind) e
  opened_in made (Offering gap) answer e = absurd cc
  opened_in made (Showing removal) (Yes agrees) e = none_opened (Showing removal) (Yes agrees) (opening_in (judged m.task removal agrees))
      (judged_opens_none m.task removal agrees) e
  opened_in made (Showing removal) (Op kind) e = none_opened (Showing removal) (Op kind) (opening_in (decided m.task removal kind))
      (decided_opens_none m.task removal kind) e
  opened_in made (Showing removal) answer e = absurd cc
  opened_in made (Pairing purpose) (Made_number n) e =
      none_opened (Pairing purpose) (Made_number n) (opening_in (paired (grown made (in_place_of purpose)) purpose n))
      (paired_leads OpensNone purpose n refl (provides_leads OpensNone leads_open_none purpose n) (grown made (in_place_of purpose))) e
  opened_in made (Pairing purpose) (Word_read word) e = none_opened (Pairing purpose) (Word_read word)
      (opening_in (numbered (told made word) (Pairing purpose))) (numbered_leads OpensNone refl (Pairing purpose) refl (told made word)) e
  opened_in made (Pairing purpose) (Found_instead word) e = none_opened (Pairing purpose) (Found_instead word)
      (opening_in (numbered (told made word) (Pairing purpose))) (numbered_leads OpensNone refl (Pairing purpose) refl (told made word)) e
  opened_in made (Pairing purpose) answer e = absurd cc
  opened_in made (Putting put) Exchanged e = none_opened (Putting put) Exchanged (opening_in (written put.write put.pair))
      (written_opens_none put.write put.pair) e
  opened_in made (Putting put) (Found_instead word) e =
      none_opened (Putting put) (Found_instead word) (opening_in (goes_as m.task m.mode m.remembered (look_seen put.write.place word)))
      (goes_open_none m.task m.mode m.remembered (look_seen put.write.place word)) e
  opened_in made (Putting put) answer e = absurd cc
  opened_in made (Burying removal) (Found_instead word) e =
      let machine : Machine = record m { made = made; state = Burying removal } in
      none_opened (Burying removal) (Found_instead word) (opening_in (beaten machine removal word))
      (beaten_leads OpensNone leads_open_none machine removal word) e
  opened_in made (Burying removal) answer e = absurd cc
  opened_in made (Counting n) Ok_done e = absurd cc
  opened_in made (Noting n) Ok_done e = absurd cc
  opened_in made (Counting n) answer e = absurd cc
  opened_in made (Noting n) answer e = absurd cc
  opened_in made (Uncounting n) Ok_done e = absurd cc
  opened_in made (Uncounting n) answer e = absurd cc
  opened_in made (Leaving i) (Word_read word) e = none_opened (Leaving i) (Word_read word) (opening_in (left m.task m.remembered.fill i word))
      (left_leads OpensNone leads_open_none m.task m.remembered.fill i word) e
  opened_in made (Leaving i) answer e = absurd cc
  opened_in made (Growing i) (Word_read word) e = absurd cc
  opened_in made (Growing i) answer e = absurd cc
  opened_in made (Ended reply) Exchanged e = absurd cc
  opened_in made (Ended reply) answer e = absurd cc

  -- for the whole machine
  pub machine_opened : (answer : Answer) → ask_of (after m answer) ≡ Ask_exchange Root 0 t
      → ((answer ≡ Made_number t) × ((slots : ℕ) × (limit : ℕ) × (ask_of m ≡ MakeTable slots limit 0))) ⊎ (ask_of m ≡ Ask_exchange Root 0 t)
  machine_opened answer e =
      let then : Machine = after m answer in
      ⊎_elim
      (λ (just : (answer ≡ Made_number t) × (m.state ≡ Making)). inl (just.0, (FIRST_TABLE_LEN, FIRST_TABLE_LIMIT, ap (asks m.made m.hash) just.1)))
      (λ (opens : m.state ≡ Opening t). inr (ap (asks m.made m.hash) opens))
      (opened_in m.made m.state answer (sym (opening_asked then.made then.hash then.state) ∙ ap opening_of e))
