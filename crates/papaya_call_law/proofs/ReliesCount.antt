-- After an answer a machine has yet to add the map's growth to the count.
use Rattle.std.proofs.Common.{◌≡◌, ⊎_elim, ℕ, ◌+◌, ℤ, pos, negsuc, ◌==◌, Bool, true, false, cond, Option, None, Some, List, ◌∷◌, [], refl, sym, ap, ◌∙◌, subst}
use Rattle.papaya_words.specs.Word.{pair_of, live_word}
use Rattle.papaya_words.specs.declared.refused.Refused.{Refused}
use Rattle.papaya_words.specs.declared.resize_mode.ResizeMode.{ResizeMode}
use Rattle.papaya_call.specs.declared.ask.Answer.{Answer}
use Rattle.papaya_call.specs.declared.ask.Answer.TheVariants.{Exchanged, Found as Found_instead, Yes, Op, Ok as Ok_done, Refused as Was_refused}
use Rattle.papaya_call.specs.declared.ask.At.TheVariants.{Root, Slot, Made as Made_word}
use Rattle.papaya_call.specs.declared.ask.OpKind.{OpKind}
use Rattle.papaya_call.specs.declared.ask.OpKind.TheVariants as ops
use Rattle.papaya_call.specs.declared.ask.StepKind.TheVariants as kinds
use Rattle.papaya_call.specs.declared.call.Reply.TheVariants.{Replaced}
use Rattle.papaya_call.specs.declared.call.Task.{Task}
use Rattle.papaya_call.specs.declared.call.Task.TheVariants.{Get, Insert, RemoveIf, Compute}
use Rattle.papaya_call.specs.declared.compute.Gap.{Gap}
use Rattle.papaya_call.specs.declared.compute.Remembered.{Remembered}
use Rattle.papaya_call.specs.declared.remove.Removal.{Removal}
use Rattle.papaya_call.specs.declared.search.Place.{Place}
use Rattle.papaya_call.specs.declared.search.Search.TheVariants.{Sizing, Looking, Reading, Comparing}
use Rattle.papaya_call.specs.declared.search.ProbeStep.{ProbeStep}
use Rattle.papaya_call.specs.declared.made.Made.{Made}
use Rattle.papaya_call_law.proofs.Makings.{HoldsOfPairAsks, pair_holds, pairing_leads, unserved_leads, write_holds, write_then, write_then_is}
use Rattle.papaya_call.specs.declared.machine.Machine.{Machine}
use Rattle.papaya_call.specs.declared.machine.State.{State as Stage}
use Rattle.papaya_call.specs.declared.machine.State.TheVariants.{AtRoot, Making, Opening, Searching}
use Rattle.papaya_call.specs.declared.machine.State.TheVariants.{Writing, Offering, Showing}
use Rattle.papaya_call.specs.declared.machine.State.TheVariants.{Pairing, Putting, Burying}
use Rattle.papaya_call.specs.declared.machine.State.TheVariants.{Counting, Noting, Uncounting}
use Rattle.papaya_call.specs.declared.machine.State.TheVariants.{Leaving, Growing, Ended}
use Rattle.papaya_words_law.specs.Exchange.{Setting, State, Exchange}
use Rattle.papaya_words_law.specs.Code.{Coding, code}
use Rattle.papaya_call.specs.declared.made.Number.{Number}
use Rattle.papaya_call.specs.declared.made.Number.TheVariants.{Wanted, Free, Taken}
use Rattle.papaya_call.specs.Made.{number_ask, number_kind, of_ask, own_ask}
use Rattle.papaya_call.specs.Compute.{chosen, in_place_of, offered}
use Rattle.papaya_call.specs.Machine.{after, agreed, ask_of, asks, decided, goes_as, judged, kind_asked, kind_of_ask, served_kind}
use Rattle.papaya_call_law.specs.Owed.{owed_by, grows_by, grows_of}
use Rattle.papaya_call.specs.Remove.{grave_word}
use Rattle.papaya_call.specs.Search.{hinted, look as look_seen, at_yes as search_compared}
use Rattle.papaya_call_law.specs.TrueAnswers.{IsAsked, IsTrueOf, IsUnmade, IsClosureAnswer, LoadedPairs, told_of}
use Rattle.papaya_call.specs.declared.write.Write.{Write}
use Rattle.papaya_call.specs.Write.{claimed_by, served_ask, serves}
use Rattle.papaya_call.specs.declared.ask.Ask.TheVariants.{Exchange as Ask_exchange}
use Rattle.std.proofs.lemmas.Bool.{cond_both}
use Rattle.papaya_call_law.proofs.Leads.{HoldsOfLeads, beaten_leads, goes_leads, left_leads, provides_leads, root_leads}
use Rattle.papaya_call_law.proofs.ReliesLearn.{by_test}

-- a machine that is about to count owes
abbrev owed_in : Stage → ℤ
owed_in (Counting n) = pos 1
owed_in (Noting n) = pos 0
owed_in (Uncounting n) = negsuc 0
owed_in AtRoot = pos 0
owed_in Making = pos 0
owed_in (Opening t) = pos 0
owed_in (Searching search) = pos 0
owed_in (Writing write) = pos 0
owed_in (Offering gap) = pos 0
owed_in (Showing removal) = pos 0
owed_in (Pairing purpose) = pos 0
owed_in (Putting put) = pos 0
owed_in (Burying removal) = pos 0
owed_in (Leaving t) = pos 0
owed_in (Growing t) = pos 0
owed_in (Ended reply) = pos 0

-- the asks for a pair owe nothing
pairs_owe : HoldsOfPairAsks (λ ask. owed_by ask ≡ pos 0)
pairs_owe = record { loads = refl; takes = λ count. refl; key = refl; value = refl; pair = refl; pair_of = λ n. refl }

-- its ask states what it owes
asked_in : (made : Made) (hash : ℕ) (stage : Stage) → owed_by (asks made hash stage) ≡ owed_in stage
asked_in made hash AtRoot = refl
asked_in made hash Making = refl
asked_in made hash (Opening t) = refl
asked_in made hash (Searching (Sizing t)) = refl
asked_in made hash (Searching (Looking at)) = refl
asked_in made hash (Searching (Reading at)) = refl
asked_in made hash (Searching (Comparing at word)) = refl
asked_in made hash (Writing write) = write_holds (λ ask. owed_by ask ≡ pos 0) pairs_owe write (λ n. refl) made
asked_in made hash (Offering gap) = refl
asked_in made hash (Showing removal) = refl
asked_in made hash (Pairing purpose) = pair_holds (λ ask. owed_by ask ≡ pos 0) pairs_owe made (in_place_of purpose)
asked_in made hash (Putting put) = refl
asked_in made hash (Burying removal) = refl
asked_in made hash (Counting n) = refl
asked_in made hash (Noting n) = refl
asked_in made hash (Uncounting n) = refl
asked_in made hash (Leaving t) = refl
asked_in made hash (Growing t) = refl
asked_in made hash (Ended reply) = refl

-- nothing is owed after a load or a search
leads_owe : HoldsOfLeads (λ stage. owed_in stage ≡ pos 0)
leads_owe = record {
  ended_absent = refl;
  ended_found = λ n. refl;
  ended_occupied = λ n. refl;
  making = refl;
  searching = λ place. refl;
  writing = λ write. refl;
  offering = λ gap. refl;
  showing = λ removal. refl;
  pairing = λ purpose. refl;
  putting = λ put. refl;
  burying = λ removal. refl;
  leaving = λ t. refl;
  growing = λ t. refl;
}

-- nor after a probe
goes_owes : (task : Task) (mode : ResizeMode) (held : Remembered) (s : ProbeStep) → owed_in (goes_as task mode held s) ≡ pos 0
goes_owes task mode held s = goes_leads (λ stage. owed_in stage ≡ pos 0) leads_owe task mode held s

-- nor after a result of a closure
agreed_owes : (removal : Removal) (agrees : Bool) → owed_in (agreed removal agrees) ≡ pos 0
agreed_owes removal true = refl
agreed_owes removal false = refl

-- for a removal
judged_owes : (task : Task) (removal : Removal) (agrees : Bool) → owed_in (judged task removal agrees) ≡ pos 0
judged_owes Get removal agrees = refl
judged_owes (Insert replace) removal agrees = refl
judged_owes RemoveIf removal true = refl
judged_owes RemoveIf removal false = refl
judged_owes Compute removal agrees = refl

-- for a pair that it was called with
chosen_owes : (removal : Removal) (kind : OpKind) → owed_in (chosen removal kind) ≡ pos 0
chosen_owes removal ops.Insert = refl
chosen_owes removal ops.Remove = refl
chosen_owes removal (ops.Abort t) = refl

-- for a compute
decided_owes : (task : Task) (removal : Removal) (kind : OpKind) → owed_in (decided task removal kind) ≡ pos 0
decided_owes Get removal kind = refl
decided_owes (Insert replace) removal kind = refl
decided_owes RemoveIf removal kind = refl
decided_owes Compute removal kind = chosen_owes removal kind

-- for None
offered_owes : (gap : Gap) (kind : OpKind) → owed_in (offered gap kind) ≡ pos 0
offered_owes gap ops.Insert = refl
offered_owes gap ops.Remove = refl
offered_owes gap (ops.Abort t) = refl

-- one is owed for a pair that was claimed, and nothing for one that replaced another
written_owes : (b : Bool) (write : Write) (n : ℕ)
    → owed_in (cond b (Counting (claimed_by write n)) (Ended (Replaced (pair_of write.old) n))) ≡ grows_of (Some (cond b kinds.Claim kinds.Replace))
written_owes true write n = refl
written_owes false write n = refl

module _ {K P : Type 0} (g : Setting K P) (c : Coding K P) (k : K) (s : State P) (m : Machine) (loaded : LoadedPairs P) (es : List (Exchange P))
    (loaded' : LoadedPairs P) where
  -- the state after an answer owes the map's growth
  abbrev Owes : Made → Stage → Answer → Type 0
  Owes made stage answer = owed_in (after (record m { made = made; state = stage }) answer).state ≡ grows_by (kind_asked made stage)
      (asks made m.hash stage) answer

  -- if there is nothing to make
  unmade_owes : (made : Made) (stage : Stage) (answer : Answer) → IsUnmade g c k answer
      → ((refused : Refused) → Owes made stage (Was_refused refused)) → Owes made stage Ok_done → Owes made stage answer
  unmade_owes made stage answer h refused ok =
      ⊎_elim
      (λ (n : (refused : Refused) × (answer ≡ Was_refused refused)). subst (Owes made stage) (sym n.1) (refused n.0))
      (λ (n : answer ≡ Ok_done). subst (Owes made stage) (sym n) ok)
      h

  -- if a closure was called
  said_owes : (made : Made) (stage : Stage) (answer : Answer) → IsClosureAnswer g c k answer → ((agrees : Bool) → Owes made stage (Yes agrees))
      → ((kind : OpKind) → Owes made stage (Op kind)) → Owes made stage Ok_done → Owes made stage answer
  said_owes made stage answer h judged decided ok =
      ⊎_elim
      (λ (y : (agrees : Bool) × (answer ≡ Yes agrees)). subst (Owes made stage) (sym y.1) (judged y.0))
      (λ z. ⊎_elim (λ (y : (kind : OpKind) × (answer ≡ Op kind)). subst (Owes made stage) (sym y.1) (decided y.0))
      (λ (y : answer ≡ Ok_done). subst (Owes made stage) (sym y) ok) z)
      h

  -- after a comparison
  compared_owes : (made : Made) (at : Place) (word : ℕ) (answer : Answer) → Owes made (Searching (Comparing at word)) answer
  compared_owes made at word (Yes same) = goes_owes m.task m.mode m.remembered (search_compared (Comparing at word) same)
  compared_owes made at word answer = refl

  -- the map doesn't grow by an ask for a pair
  taken_grows : (count : ℕ) (answer : Answer) → grows_by (Some kinds.Take) (Ask_exchange Made_word count (count + 1)) answer ≡ pos 0
  taken_grows count Exchanged = refl
  taken_grows count answer = refl

  own_grows : (keyed valued : Bool) (answer : Answer) → grows_by None (own_ask keyed valued) answer ≡ pos 0
  own_grows false valued answer = refl
  own_grows true false answer = refl
  own_grows true true answer = refl

  of_grows : (valued : Bool) (old : ℕ) (answer : Answer) → grows_by None (of_ask valued old) answer ≡ pos 0
  of_grows false old answer = refl
  of_grows true old answer = refl

  number_grows : (number : Number) (made : Made) (old : ℕ) (answer : Answer) → grows_by (number_kind number) (number_ask number made old) answer ≡ pos 0
  number_grows Wanted made old answer = refl
  number_grows (Free count) made old answer = taken_grows count answer
  number_grows Taken made old answer =
      cond_both (old == 0) (own_ask made.keyed made.valued) (of_ask made.valued old) (λ ask. grows_by None ask answer ≡ pos 0)
      (λ _. own_grows made.keyed made.valued answer) (λ _. of_grows made.valued old answer)

  -- nothing is owed by a stage
  abbrev OwesNone : Stage → Type 0
  OwesNone stage = owed_in stage ≡ pos 0

  -- a write owes the map's growth by its exchange
  write_owes : (made : Made) (write : Write) (served : Option ℕ) (answer : Answer)
      → IsTrueOf g c k s (served_kind served made write) loaded (served_ask served write made) answer es loaded'
      → owed_in (write_then m served made write answer) ≡ grows_by (served_kind served made write) (served_ask served write made) answer
  write_owes made write None answer h = unserved_leads m OwesNone (λ refused. refl) made write refl answer
      ∙ sym (number_grows made.number made write.old answer)
  write_owes made write (Some i) answer h =
      let t : ℕ = write.place.table in
      let x : ℕ = write.place.probe.i in
      let word : ℕ = code g c (s.slot t x) in
      let Is : Answer → Type 0 = λ a. owed_in (write_then m (Some i) made write a) ≡ grows_by (Some (cond (write.old == 0) kinds.Claim kinds.Replace))
      (Ask_exchange (Slot t x) write.old (live_word i)) a in
      by_test (word == write.old)
      ((answer ≡ Exchanged) × ((e : Exchange P)
      × IsAsked g c k (Some (cond (write.old == 0) kinds.Claim kinds.Replace)) (Slot t x) (live_word i) s loaded e × (es ≡ e ∷ [])) × (loaded' ≡ loaded))
      ((answer ≡ Found_instead word) × (es ≡ []) × (loaded' ≡ told_of s (Slot t x) loaded))
      (Is answer) h
      (λ _ h'. subst Is (sym h'.0) (written_owes (write.old == 0) write i))
      (λ _ h'. subst Is (sym h'.0) (goes_owes m.task m.mode m.remembered (look_seen write.place word)))

  -- in each stage
  owes_in : (made : Made) (stage : Stage) (answer : Answer) → IsTrueOf g c k s (kind_asked made stage) loaded (asks made m.hash stage) answer es loaded'
      → Owes made stage answer
  owes_in made AtRoot answer h = subst (Owes made AtRoot) (sym h.0) (root_leads (λ stage. owed_in stage ≡ pos 0) leads_owe m.task m.remembered.fill s.root)
  owes_in made Making answer h = ⊎_elim (λ u. unmade_owes made Making answer u (λ refused. refl) refl) (λ t. subst (Owes made Making) (sym t.2) refl) h.0
  owes_in made (Opening t) answer h =
      by_test (s.root == 0)
      ((answer ≡ Exchanged) × ((e : Exchange P) × IsAsked g c k (Some kinds.Open) Root t s loaded e × (es ≡ e ∷ [])) × (loaded' ≡ loaded))
      ((answer ≡ Found_instead s.root) × (es ≡ []) × (loaded' ≡ loaded))
      (Owes made (Opening t) answer) h
      (λ _ h'. subst (Owes made (Opening t)) (sym h'.0) refl)
      (λ _ h'. subst (Owes made (Opening t)) (sym h'.0) refl)
  owes_in made (Searching (Sizing t)) answer h = let size = h.0 in subst (Owes made (Searching (Sizing t))) (sym size.2) refl
  owes_in made (Searching (Looking at)) answer h = let hint : ℕ = h.0.0 in
      subst (Owes made (Searching (Looking at))) (sym h.0.2) (goes_owes m.task m.mode m.remembered (hinted at m.hash hint))
  owes_in made (Searching (Reading at)) answer h =
      let word : ℕ = code g c (s.slot at.table at.probe.i) in
      subst (Owes made (Searching (Reading at))) (sym h.0) (goes_owes m.task m.mode m.remembered (look_seen at word))
  owes_in made (Searching (Comparing at word)) answer h = compared_owes made at word answer
  owes_in made (Writing write) answer h = ap owed_in (write_then_is m made write answer) ∙ write_owes made write (serves made write) answer h
  owes_in made (Offering gap) answer h = said_owes made (Offering gap) answer h.0 (λ _. refl) (λ kind. offered_owes gap kind) refl
  owes_in made (Showing removal) answer h = said_owes made (Showing removal) answer h.0 (λ agrees. judged_owes m.task removal agrees)
      (λ kind. decided_owes m.task removal kind) refl
  owes_in made (Pairing purpose) answer h = pairing_leads m OwesNone (λ refused. refl) made purpose refl
      (λ n. provides_leads OwesNone leads_owe purpose n) answer ∙ sym (number_grows made.number made (in_place_of purpose) answer)
  owes_in made (Putting put) answer h =
      let t : ℕ = put.write.place.table in
      let x : ℕ = put.write.place.probe.i in
      let word : ℕ = code g c (s.slot t x) in
      by_test (word == put.write.old)
      ((answer ≡ Exchanged) × ((e : Exchange P)
      × IsAsked g c k (Some (cond (put.write.old == 0) kinds.Claim kinds.Replace)) (Slot t x) (live_word put.pair) s loaded e × (es ≡ e ∷ []))
      × (loaded' ≡ loaded))
      ((answer ≡ Found_instead word) × (es ≡ []) × (loaded' ≡ told_of s (Slot t x) loaded))
      (Owes made (Putting put) answer) h
      (λ _ h'. subst (Owes made (Putting put)) (sym h'.0) (written_owes (put.write.old == 0) put.write put.pair))
      (λ _ h'. subst (Owes made (Putting put)) (sym h'.0) (goes_owes m.task m.mode m.remembered (look_seen put.write.place word)))
  owes_in made (Burying removal) answer h =
      let t : ℕ = removal.place.table in
      let x : ℕ = removal.place.probe.i in
      let word : ℕ = code g c (s.slot t x) in
      by_test (word == removal.word)
      ((answer ≡ Exchanged) × ((e : Exchange P) × IsAsked g c k (Some kinds.Bury) (Slot t x) (grave_word removal.word) s loaded e × (es ≡ e ∷ []))
      × (loaded' ≡ loaded))
      ((answer ≡ Found_instead word) × (es ≡ []) × (loaded' ≡ told_of s (Slot t x) loaded))
      (Owes made (Burying removal) answer) h
      (λ _ h'. subst (Owes made (Burying removal)) (sym h'.0) refl)
      (λ _ h'. subst (Owes made (Burying removal)) (sym h'.0)
      (beaten_leads (λ stage. owed_in stage ≡ pos 0) leads_owe (record m { made = made; state = Burying removal }) removal word))
  owes_in made (Counting i) answer h = subst (Owes made (Counting i)) (sym h.0) refl
  owes_in made (Noting i) answer h = subst (Owes made (Noting i)) (sym h.0) refl
  owes_in made (Uncounting i) answer h = subst (Owes made (Uncounting i)) (sym h.0) refl
  owes_in made (Growing t) answer h = subst (Owes made (Growing t)) (sym h.0) refl
  owes_in made (Leaving t) answer h = subst (Owes made (Leaving t)) (sym h.0)
      (left_leads (λ stage. owed_in stage ≡ pos 0) leads_owe m.task m.remembered.fill t (s.next t))
  owes_in made (Ended reply) answer h = subst (Owes made (Ended reply)) (sym h.0) refl

  -- for the whole machine
  pub machine_owes : (answer : Answer) → IsTrueOf g c k s (kind_of_ask m) loaded (ask_of m) answer es loaded'
      → owed_by (ask_of (after m answer)) ≡ grows_by (kind_of_ask m) (ask_of m) answer
  machine_owes answer h = asked_in (after m answer).made (after m answer).hash (after m answer).state ∙ owes_in m.made m.state answer h
