-- The changes that a call has made after each answer.
use Rattle.std.proofs.Common.{◌≡◌, inl, inr, ⊎_elim, ℕ, ◌+◌, ◌==◌, Bool, true, false, cond, Option, None, Some, List, [], ◌∷◌, refl, sym, ap, ◌∙◌, subst}
use Rattle.papaya_words.specs.Word.{pair_of, live_word}
use Rattle.papaya_words.specs.declared.refused.Refused.{Refused}
use Rattle.papaya_words.specs.declared.resize_mode.ResizeMode.{ResizeMode}
use Rattle.papaya_call.specs.declared.ask.Answer.{Answer}
use Rattle.papaya_call.specs.declared.ask.Answer.TheVariants.{Exchanged, Found as Found_instead, Yes, Op, Ok as Ok_done, Refused as Was_refused}
use Rattle.papaya_call.specs.declared.ask.At.TheVariants.{Root, Slot, Made as Made_word}
use Rattle.papaya_call.specs.declared.ask.OpKind.{OpKind}
use Rattle.papaya_call.specs.declared.ask.OpKind.TheVariants as ops
use Rattle.papaya_call.specs.declared.ask.StepKind.TheVariants as kinds
use Rattle.papaya_call.specs.declared.call.Reply.{Reply}
use Rattle.papaya_call.specs.declared.call.Reply.TheVariants.{Replaced}
use Rattle.papaya_call.specs.declared.call.Task.{Task}
use Rattle.papaya_call.specs.declared.call.Task.TheVariants.{Get, Insert, RemoveIf, Compute}
use Rattle.papaya_call.specs.declared.compute.Gap.{Gap}
use Rattle.papaya_call.specs.declared.compute.Remembered.{Remembered}
use Rattle.papaya_call.specs.declared.remove.Removal.{Removal}
use Rattle.papaya_call.specs.declared.search.Place.{Place}
use Rattle.papaya_call.specs.declared.search.Search.TheVariants.{Sizing, Looking, Reading, Comparing}
use Rattle.papaya_call.specs.declared.search.ProbeStep.{ProbeStep}
use Rattle.papaya_call.specs.declared.made.Made.{Made}
use Rattle.papaya_call_law.proofs.Makings.{IsPairAsk, IsWriteAsk, pairing_asks, pairing_leads, unserved_leads, write_asks, write_then, write_then_is}
use Rattle.papaya_call.specs.declared.write.Write.{Write}
use Rattle.papaya_call.specs.declared.machine.Machine.{Machine}
use Rattle.papaya_call.specs.declared.machine.State.{State as Stage}
use Rattle.papaya_call.specs.declared.machine.State.TheVariants.{AtRoot, Making, Opening, Searching}
use Rattle.papaya_call.specs.declared.machine.State.TheVariants.{Writing, Offering, Showing}
use Rattle.papaya_call.specs.declared.machine.State.TheVariants.{Pairing, Putting, Burying}
use Rattle.papaya_call.specs.declared.machine.State.TheVariants.{Counting, Noting, Uncounting}
use Rattle.papaya_call.specs.declared.machine.State.TheVariants.{Leaving, Growing, Ended}
use Rattle.papaya_words_law.specs.Exchange.{Setting, State, Exchange}
use Rattle.papaya_words_law.specs.Code.{Coding, code}
use Rattle.papaya_call.specs.declared.made.Number.{Number}
use Rattle.papaya_call.specs.declared.made.Number.TheVariants.{Wanted, Free, Taken}
use Rattle.papaya_call.specs.Made.{number_ask, number_kind, of_ask, own_ask}
use Rattle.papaya_call.specs.Compute.{in_place_of, offered}
use Rattle.papaya_call.specs.Machine.{after, ask_of, asks, decided, goes_as, judged, kind_asked, kind_of_ask, served_kind}
use Rattle.papaya_call.specs.Search.{hinted, look as look_seen, at_yes as search_compared}
use Rattle.papaya_call_law.specs.TrueAnswers.{IsAsked, IsClosureAnswer, IsTrueOf, IsUnmade, LoadedPairs, told_of}
use Rattle.papaya_words_law.specs.Code.{IsHashed}
use Rattle.papaya_call.specs.Remove.{grave_word}
use Rattle.papaya_call_law.specs.Relies.{IsReply, Relies, ReliesStage, change_in, change_after, change_of_kind, change_of_reply}
use Rattle.papaya_call_law.proofs.Leads.{HoldsOfLeads, beaten_leads, goes_leads, left_leads, provides_leads, root_leads}
use Rattle.papaya_call_law.proofs.NewWords.{pair_of-live_word}
use Rattle.papaya_call_law.proofs.ReliesLearn.{by_test}
use Rattle.papaya_call.specs.Write.{claimed_by, served_ask, serves}
use Rattle.papaya_call.specs.declared.ask.Ask.TheVariants.{Exchange as Ask_exchange, Done as Ask_done}
use Rattle.std.proofs.lemmas.Bool.{cond_both}

-- nothing has been changed yet
abbrev IsUnchanged : Stage → Type 0
IsUnchanged stage = change_in stage ≡ None

-- nothing is changed by a load or a search
leads_unchanged : HoldsOfLeads IsUnchanged
leads_unchanged = record {
  ended_absent = refl;
  ended_found = λ n. refl;
  ended_occupied = λ n. refl;
  making = refl;
  searching = λ search. refl;
  writing = λ write. refl;
  offering = λ gap. refl;
  showing = λ removal. refl;
  pairing = λ purpose. refl;
  putting = λ put. refl;
  burying = λ removal. refl;
  leaving = λ t. refl;
  growing = λ t. refl;
}

-- nor by a probe
goes_unchanged : (task : Task) (mode : ResizeMode) (held : Remembered) (s : ProbeStep) → change_in (goes_as task mode held s) ≡ None
goes_unchanged task mode held s = goes_leads IsUnchanged leads_unchanged task mode held s

-- nor by a result of a removal's closure
judged_unchanged : (task : Task) (removal : Removal) (agrees : Bool) → change_in (judged task removal agrees) ≡ None
judged_unchanged Get removal agrees = refl
judged_unchanged (Insert replace) removal agrees = refl
judged_unchanged RemoveIf removal true = refl
judged_unchanged RemoveIf removal false = refl
judged_unchanged Compute removal agrees = refl

-- nor by one of a compute's closure
decided_unchanged : (task : Task) (removal : Removal) (kind : OpKind) → change_in (decided task removal kind) ≡ None
decided_unchanged Get removal kind = refl
decided_unchanged (Insert replace) removal kind = refl
decided_unchanged RemoveIf removal kind = refl
decided_unchanged Compute removal ops.Insert = refl
decided_unchanged Compute removal ops.Remove = refl
decided_unchanged Compute removal (ops.Abort t) = refl

-- nor by one for None
offered_unchanged : (gap : Gap) (kind : OpKind) → change_in (offered gap kind) ≡ None
offered_unchanged gap ops.Insert = refl
offered_unchanged gap ops.Remove = refl
offered_unchanged gap (ops.Abort t) = refl

-- a pair that was written is in the map: it was claimed, or replaced another
written_changes : (b : Bool) (write : Write) (n : ℕ)
    → change_in (cond b (Counting (claimed_by write n)) (Ended (Replaced (pair_of write.old) n))) ≡ change_of_kind
    (Some (cond b kinds.Claim kinds.Replace)) write.old (live_word n)
written_changes true write n = ap (λ y. Some (None, Some y)) (sym (pair_of-live_word n))
written_changes false write n = ap (λ y. Some (Some (pair_of write.old), Some y)) (sym (pair_of-live_word n))

module _ {K P : Type 0} (g : Setting K P) (c : Coding K P) (hashed : IsHashed g c) (k : K) (s : State P) (m : Machine) (hash : m.hash ≡ c.hash k)
    (loaded : LoadedPairs P) (es : List (Exchange P)) (loaded' : LoadedPairs P) where
  -- the change by an answer in a stage
  abbrev Changes : Made → Stage → Answer → Type 0
  Changes made stage answer = change_in (after (record m { made = made; state = stage }) answer).state ≡ change_after (kind_asked made stage)
      (asks made m.hash stage) answer (change_in stage)

  -- nothing changes by a closure's result
  said_changes : (made : Made) (stage : Stage) (answer : Answer) → IsClosureAnswer g c k answer → ((agrees : Bool) → Changes made stage (Yes agrees))
      → ((kind : OpKind) → Changes made stage (Op kind)) → Changes made stage Ok_done → Changes made stage answer
  said_changes made stage answer (inl (agrees, e)) agreed op ok = subst (Changes made stage) (sym e) (agreed agrees)
  said_changes made stage answer (inr (inl (kind, e))) agreed op ok = subst (Changes made stage) (sym e) (op kind)
  said_changes made stage answer (inr (inr e)) agreed op ok = subst (Changes made stage) (sym e) ok

  -- nothing changes if there is nothing to make
  unmade_changes : (made : Made) (stage : Stage) (answer : Answer) → IsUnmade g c k answer
      → ((refused : Refused) → Changes made stage (Was_refused refused)) → Changes made stage Ok_done → Changes made stage answer
  unmade_changes made stage answer h refused ok =
      ⊎_elim
      (λ (n : (refused : Refused) × (answer ≡ Was_refused refused)). subst (Changes made stage) (sym n.1) (refused n.0))
      (λ (n : answer ≡ Ok_done). subst (Changes made stage) (sym n) ok)
      h

  -- nothing changes by a comparison
  compared_changes : (made : Made) (at : Place) (word : ℕ) (answer : Answer) → Changes made (Searching (Comparing at word)) answer
  compared_changes made at word (Yes same) = goes_unchanged m.task m.mode m.remembered (search_compared (Comparing at word) same)
  compared_changes made at word answer = refl

  -- nothing changes by an ask for a pair
  taken_changes : (count : ℕ) (answer : Answer) → change_after (Some kinds.Take) (Ask_exchange Made_word count (count + 1)) answer None ≡ None
  taken_changes count Exchanged = refl
  taken_changes count answer = refl

  own_changes : (keyed valued : Bool) (answer : Answer) → change_after None (own_ask keyed valued) answer None ≡ None
  own_changes false valued answer = refl
  own_changes true false answer = refl
  own_changes true true answer = refl

  of_changes : (valued : Bool) (old : ℕ) (answer : Answer) → change_after None (of_ask valued old) answer None ≡ None
  of_changes false old answer = refl
  of_changes true old answer = refl

  number_changes : (number : Number) (made : Made) (old : ℕ) (answer : Answer)
      → change_after (number_kind number) (number_ask number made old) answer None ≡ None
  number_changes Wanted made old answer = refl
  number_changes (Free count) made old answer = taken_changes count answer
  number_changes Taken made old answer =
      cond_both (old == 0) (own_ask made.keyed made.valued) (of_ask made.valued old) (λ ask. change_after None ask answer None ≡ None)
      (λ _. own_changes made.keyed made.valued answer) (λ _. of_changes made.valued old answer)

  -- a write changes the map by its exchange alone
  write_changes : (made : Made) (write : Write) (served : Option ℕ) (answer : Answer)
      → IsTrueOf g c k s (served_kind served made write) loaded (served_ask served write made) answer es loaded'
      → change_in (write_then m served made write answer) ≡ change_after (served_kind served made write) (served_ask served write made) answer None
  write_changes made write None answer h = unserved_leads m IsUnchanged (λ refused. refl) made write refl answer
      ∙ sym (number_changes made.number made write.old answer)
  write_changes made write (Some i) answer h =
      let t : ℕ = write.place.table in
      let x : ℕ = write.place.probe.i in
      let word : ℕ = code g c (s.slot t x) in
      let Is : Answer → Type 0 = λ a. change_in (write_then m (Some i) made write a) ≡ change_after
      (Some (cond (write.old == 0) kinds.Claim kinds.Replace)) (Ask_exchange (Slot t x) write.old (live_word i)) a None in
      by_test (word == write.old)
      ((answer ≡ Exchanged) × ((e : Exchange P)
      × IsAsked g c k (Some (cond (write.old == 0) kinds.Claim kinds.Replace)) (Slot t x) (live_word i) s loaded e × (es ≡ e ∷ [])) × (loaded' ≡ loaded))
      ((answer ≡ Found_instead word) × (es ≡ []) × (loaded' ≡ told_of s (Slot t x) loaded))
      (Is answer) h
      (λ _ h'. subst Is (sym h'.0) (written_changes (write.old == 0) write i))
      (λ _ h'. subst Is (sym h'.0) (goes_unchanged m.task m.mode m.remembered (look_seen write.place word)))

  -- in each stage
  changes_in : (made : Made) (stage : Stage) (answer : Answer)
      → IsTrueOf g c k s (kind_asked made stage) loaded (asks made m.hash stage) answer es loaded' → Changes made stage answer
  changes_in made AtRoot answer h = subst (Changes made AtRoot) (sym h.0) (root_leads IsUnchanged leads_unchanged m.task m.remembered.fill s.root)
  changes_in made Making answer h = ⊎_elim (λ u. unmade_changes made Making answer u (λ refused. refl) refl)
      (λ t. subst (Changes made Making) (sym t.2) refl) h.0
  changes_in made (Opening t) answer h =
      by_test (s.root == 0)
      ((answer ≡ Exchanged) × ((e : Exchange P) × IsAsked g c k (Some kinds.Open) Root t s loaded e × (es ≡ e ∷ [])) × (loaded' ≡ loaded))
      ((answer ≡ Found_instead s.root) × (es ≡ []) × (loaded' ≡ loaded))
      (Changes made (Opening t) answer) h
      (λ _ h'. subst (Changes made (Opening t)) (sym h'.0) refl)
      (λ _ h'. subst (Changes made (Opening t)) (sym h'.0) refl)
  changes_in made (Searching (Sizing t)) answer h = let size = h.0 in subst (Changes made (Searching (Sizing t))) (sym size.2) refl
  changes_in made (Searching (Looking at)) answer h = let hint : ℕ = h.0.0 in
      subst (Changes made (Searching (Looking at))) (sym h.0.2) (goes_unchanged m.task m.mode m.remembered (hinted at m.hash hint))
  changes_in made (Searching (Reading at)) answer h =
      let word : ℕ = code g c (s.slot at.table at.probe.i) in
      subst (Changes made (Searching (Reading at))) (sym h.0) (goes_unchanged m.task m.mode m.remembered (look_seen at word))
  changes_in made (Searching (Comparing at word)) answer h = compared_changes made at word answer
  changes_in made (Writing write) answer h = ap change_in (write_then_is m made write answer) ∙ write_changes made write (serves made write) answer h
  changes_in made (Counting i) answer h = subst (Changes made (Counting i)) (sym h.0) refl
  changes_in made (Noting i) answer h = subst (Changes made (Noting i)) (sym h.0) refl
  changes_in made (Offering gap) answer h = said_changes made (Offering gap) answer h.0 (λ agrees. refl) (λ kind. offered_unchanged gap kind) refl
  changes_in made (Showing removal) answer h = said_changes made (Showing removal) answer h.0 (λ agrees. judged_unchanged m.task removal agrees)
      (λ kind. decided_unchanged m.task removal kind) refl
  changes_in made (Pairing purpose) answer h = pairing_leads m IsUnchanged (λ refused. refl) made purpose refl
      (λ n. provides_leads IsUnchanged leads_unchanged purpose n) answer ∙ sym (number_changes made.number made (in_place_of purpose) answer)
  changes_in made (Putting put) answer h =
      let write : Write = put.write in
      let t : ℕ = write.place.table in
      let x : ℕ = write.place.probe.i in
      let word : ℕ = code g c (s.slot t x) in
      by_test (word == write.old)
      ((answer ≡ Exchanged) × ((e : Exchange P)
      × IsAsked g c k (Some (cond (write.old == 0) kinds.Claim kinds.Replace)) (Slot t x) (live_word put.pair) s loaded e × (es ≡ e ∷ []))
      × (loaded' ≡ loaded))
      ((answer ≡ Found_instead word) × (es ≡ []) × (loaded' ≡ told_of s (Slot t x) loaded))
      (Changes made (Putting put) answer) h
      (λ _ h'. subst (Changes made (Putting put)) (sym h'.0) (written_changes (write.old == 0) write put.pair))
      (λ _ h'. subst (Changes made (Putting put)) (sym h'.0) (goes_unchanged m.task m.mode m.remembered (look_seen write.place word)))
  changes_in made (Burying removal) answer h =
      let t : ℕ = removal.place.table in
      let x : ℕ = removal.place.probe.i in
      let word : ℕ = code g c (s.slot t x) in
      by_test (word == removal.word)
      ((answer ≡ Exchanged) × ((e : Exchange P) × IsAsked g c k (Some kinds.Bury) (Slot t x) (grave_word removal.word) s loaded e × (es ≡ e ∷ []))
      × (loaded' ≡ loaded))
      ((answer ≡ Found_instead word) × (es ≡ []) × (loaded' ≡ told_of s (Slot t x) loaded))
      (Changes made (Burying removal) answer) h
      (λ _ h'. subst (Changes made (Burying removal)) (sym h'.0) refl)
      (λ _ h'. subst (Changes made (Burying removal)) (sym h'.0)
      (beaten_leads IsUnchanged leads_unchanged (record m { made = made; state = Burying removal }) removal word))
  changes_in made (Uncounting i) answer h = subst (Changes made (Uncounting i)) (sym h.0) refl
  changes_in made (Leaving t) answer h = subst (Changes made (Leaving t)) (sym h.0)
      (left_leads IsUnchanged leads_unchanged m.task m.remembered.fill t (s.next t))
  changes_in made (Growing t) answer h = subst (Changes made (Growing t)) (sym h.0) refl
  changes_in made (Ended reply) answer h = subst (Changes made (Ended reply)) (sym h.0) refl

  -- for the whole machine
  pub machine_changes : (answer : Answer) → IsTrueOf g c k s (kind_of_ask m) loaded (ask_of m) answer es loaded'
      → change_in (after m answer).state ≡ change_after (kind_of_ask m) (ask_of m) answer (change_in m.state)
  machine_changes answer h = changes_in m.made m.state answer h

-- the reply of a call that is over states the facts that it relies on, and its change
pub machine_replies : {K P : Type 0} (g : Setting K P) (c : Coding K P) (begun since : List (Exchange P)) (k : K) (m : Machine)
    (loaded : LoadedPairs P) → Relies g c begun since k m loaded → (reply : Reply) → ask_of m ≡ Ask_done reply
    → IsReply g c begun since k loaded m.task reply × (change_in m.state ≡ change_of_reply reply)
machine_replies g c begun since k m loaded r reply e = replies_in m.made m.state r.stage e
  where
    replies_in : (made : Made) (stage : Stage) → ReliesStage g c begun since k loaded m.task stage → asks made m.hash stage ≡ Ask_done reply
        → IsReply g c begun since k loaded m.task reply × (change_in stage ≡ change_of_reply reply)
    replies_in made (Ended last) s is = let same : last ≡ reply = cc is in (subst (IsReply g c begun since k loaded m.task) same s, ap change_of_reply same)
    replies_in made (Writing write) s is = absurd (subst IsWriteAsk is (write_asks made write))
    replies_in made (Pairing purpose) s is = absurd (subst IsPairAsk is (pairing_asks made purpose))
    replies_in made AtRoot s is = absurd cc
    replies_in made Making s is = absurd cc
    replies_in made (Opening t) s is = absurd cc
    replies_in made (Searching (Sizing t)) s is = absurd cc
    replies_in made (Searching (Looking at)) s is = absurd cc
    replies_in made (Searching (Reading at)) s is = absurd cc
    replies_in made (Searching (Comparing at word)) s is = absurd cc
    replies_in made (Offering gap) s is = absurd cc
    replies_in made (Showing removal) s is = absurd cc
    replies_in made (Putting put) s is = absurd cc
    replies_in made (Burying removal) s is = absurd cc
    replies_in made (Counting claimed) s is = absurd cc
    replies_in made (Noting claimed) s is = absurd cc
    replies_in made (Uncounting n) s is = absurd cc
    replies_in made (Leaving t) s is = absurd cc
    replies_in made (Growing need) s is = absurd cc
