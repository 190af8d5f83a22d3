-- The cause of a failure is the one in the answer, that of a call that needs a next table, or that
-- of a closure that would remove an absent entry.
use Rattle.std.proofs.Common.{◌≡◌, ◌⊎◌, inl, inr, ℕ, ◌≤◌, ◌==◌, nat_lt, ltb-false, Bool, true, false, cond, Option, None, Some, refl, sym, ap}
use Rattle.std.proofs.lemmas.Bool.{cond_both}
use Rattle.papaya_words.specs.Word.{pair_of}
use Rattle.papaya_words.specs.declared.refused.Refused.{Refused}
use Rattle.papaya_words.specs.declared.refused.Refused.TheVariants.{Capacity, Limit, RemoveNothing}
use Rattle.papaya_words.specs.declared.resize_mode.ResizeMode.{ResizeMode}
use Rattle.papaya_call.specs.declared.ask.Answer.{Answer}
use Rattle.papaya_call.specs.declared.ask.Answer.TheVariants.{Word as Word_read, Exchanged}
use Rattle.papaya_call.specs.declared.ask.Answer.TheVariants.{Found as Found_instead, Yes, Op, Size}
use Rattle.papaya_call.specs.declared.ask.Answer.TheVariants.{Made as Made_number, Ok as Ok_done}
use Rattle.papaya_call.specs.declared.ask.Answer.TheVariants.{Refused as Was_refused}
use Rattle.papaya_call.specs.declared.ask.Ask.{Ask}
use Rattle.papaya_call.specs.declared.ask.Ask.TheVariants.{Load, ShowNone, Done as Ask_done}
use Rattle.papaya_call.specs.declared.ask.At.TheVariants.{Next}
use Rattle.papaya_call.specs.declared.ask.OpKind.{OpKind}
use Rattle.papaya_call.specs.declared.ask.OpKind.TheVariants as ops
use Rattle.papaya_call.specs.declared.call.Reply.{Reply}
use Rattle.papaya_call.specs.declared.call.Reply.TheVariants.{Replaced, Refused as Reply_refused}
use Rattle.papaya_call.specs.declared.call.Task.{Task}
use Rattle.papaya_call.specs.declared.call.Task.TheVariants.{Get, Insert, RemoveIf, Compute}
use Rattle.papaya_call.specs.declared.compute.Gap.{Gap}
use Rattle.papaya_call.specs.declared.compute.Remembered.{Remembered}
use Rattle.papaya_call.specs.declared.remove.Removal.{Removal}
use Rattle.papaya_call.specs.declared.search.Search.{Search}
use Rattle.papaya_call.specs.declared.search.Search.TheVariants.{Sizing, Looking, Reading, Comparing}
use Rattle.papaya_call.specs.declared.search.ProbeStep.{ProbeStep}
use Rattle.papaya_call.specs.declared.made.Made.{Made}
use Rattle.papaya_call_law.proofs.Makings.{HoldsOfPairAsks, pair_holds, write_holds}
use Rattle.papaya_call.specs.declared.write.Write.{Write}
use Rattle.papaya_call.specs.declared.machine.Machine.{Machine}
use Rattle.papaya_call.specs.declared.machine.State.{State as Stage}
use Rattle.papaya_call.specs.declared.machine.State.TheVariants.{AtRoot, Making, Opening, Searching}
use Rattle.papaya_call.specs.declared.machine.State.TheVariants.{Writing, Offering, Showing}
use Rattle.papaya_call.specs.declared.machine.State.TheVariants.{Pairing, Putting, Burying}
use Rattle.papaya_call.specs.declared.machine.State.TheVariants.{Counting, Noting, Uncounting}
use Rattle.papaya_call.specs.declared.machine.State.TheVariants.{Leaving, Growing, Ended}
use Rattle.papaya_call.specs.Compute.{in_place_of, provides}
use Rattle.papaya_call.specs.Made.{answered as answered_made, grown, number_ask, pair_ask, taken, told, told_as, told_limit}
use Rattle.papaya_call.specs.Machine.{after, ask_of, asks, at_root, beaten, decided, exchanged}
use Rattle.papaya_call.specs.Machine.{goes_as, judged, left, made_decided, made_to_pair}
use Rattle.papaya_call.specs.Machine.{number_told, numbered, paired, refuses, write_lost}
use Rattle.papaya_call.specs.Machine.{write_made, write_taken, write_told, written}
use Rattle.papaya_call.specs.Search.{look as look_seen, ask_of as search_ask, at_size as search_sized, at_word as search_loaded, at_yes as search_compared}
use Rattle.papaya_call.specs.Write.{claimed_by, served_ask, serves, write_ask, write_grown}
use Rattle.papaya_call.specs.declared.compute.Purpose.{Purpose}
use Rattle.papaya_call.specs.declared.compute.Purpose.TheVariants.{Fill, Replace}
use Rattle.papaya_call.specs.declared.made.Grown.{Grown}
use Rattle.papaya_call.specs.declared.made.Grown.TheVariants.{On, Pair}
use Rattle.papaya_call.specs.declared.made.Number.{Number}
use Rattle.papaya_call.specs.declared.made.Number.TheVariants.{Wanted, Free, Taken}
use Rattle.papaya_call_law.specs.Relies.{IsAtLimit, IsNumberAsk}
use Rattle.papaya_call_law.proofs.Leads.{HoldsOfLeads, beaten_leads, goes_leads, left_leads, provides_leads, root_leads}
use Rattle.papaya_call.specs.declared.need.Need.{Need}
use Rattle.papaya_call.specs.Machine.{needed}

-- the failure that a call ends with
abbrev refusal_of_reply : Reply → Option Refused
refusal_of_reply (Reply_refused refused) = Some refused
refusal_of_reply _ = None

-- the failure that an ask ends a call with
abbrev refusal_of : Ask → Option Refused
refusal_of (Ask_done reply) = refusal_of_reply reply
refusal_of _ = None

-- a search never fails
search_unrefused : (search : Search) → refusal_of (search_ask search) ≡ None
search_unrefused (Sizing t) = refl
search_unrefused (Looking at) = refl
search_unrefused (Reading at) = refl
search_unrefused (Comparing at word) = refl

-- nor does an ask for a pair
pairs_unrefused : HoldsOfPairAsks (λ ask. refusal_of ask ≡ None)
pairs_unrefused = record { loads = refl; takes = λ count. refl; key = refl; value = refl; pair = refl; pair_of = λ n. refl }

-- nor a write
write_unrefused : (made : Made) (write : Write) → refusal_of (write_ask write made) ≡ None
write_unrefused made write = write_holds (λ ask. refusal_of ask ≡ None) pairs_unrefused write (λ n. refl) made

-- nor making a pair for a compute
pairing_unrefused : (made : Made) (purpose : Purpose) → refusal_of (pair_ask made (in_place_of purpose)) ≡ None
pairing_unrefused made purpose = pair_holds (λ ask. refusal_of ask ≡ None) pairs_unrefused made (in_place_of purpose)

module _ (made : Made) (hash : ℕ) where
  -- a call in this stage has not failed
  abbrev IsUnrefused : Stage → Type 0
  IsUnrefused stage = refusal_of (asks made hash stage) ≡ None

  -- it has not after a load or a search
  leads_unrefused : HoldsOfLeads IsUnrefused
  leads_unrefused = record {
    ended_absent = refl;
    ended_found = λ n. refl;
    ended_occupied = λ n. refl;
    making = refl;
    searching = search_unrefused;
    writing = write_unrefused made;
    offering = λ gap. refl;
    showing = λ removal. refl;
    pairing = pairing_unrefused made;
    putting = λ put. refl;
    burying = λ removal. refl;
    leaving = λ t. refl;
    growing = λ t. refl;
  }

  -- nor after a probe
  goes_unrefused : (task : Task) (mode : ResizeMode) (held : Remembered) (s : ProbeStep) → IsUnrefused (goes_as task mode held s)
  goes_unrefused task mode held s = goes_leads IsUnrefused leads_unrefused task mode held s

  -- nor after a pair was written
  written_unrefused : (write : Write) (n : ℕ) → IsUnrefused (written write n)
  written_unrefused write n = cond_both (write.old == 0) (Counting (claimed_by write n)) (Ended (Replaced (pair_of write.old) n)) IsUnrefused
      (λ _. refl) (λ _. refl)

  -- nor after a result of a removal's closure
  judged_unrefused : (task : Task) (removal : Removal) (agrees : Bool) → IsUnrefused (judged task removal agrees)
  judged_unrefused Get removal agrees = refl
  judged_unrefused (Insert replace) removal agrees = refl
  judged_unrefused RemoveIf removal true = refl
  judged_unrefused RemoveIf removal false = refl
  judged_unrefused Compute removal agrees = refl

  -- nor after one of a compute's, if it was called with a pair
  decided_unrefused : (task : Task) (removal : Removal) (kind : OpKind) → IsUnrefused (decided task removal kind)
  decided_unrefused Get removal kind = refl
  decided_unrefused (Insert replace) removal kind = refl
  decided_unrefused RemoveIf removal kind = refl
  decided_unrefused Compute removal ops.Insert = pairing_unrefused made (Replace (record { place = removal.place; old = removal.word }))
  decided_unrefused Compute removal ops.Remove = refl
  decided_unrefused Compute removal (ops.Abort t) = refl

-- a call makes something in this stage, or may
abbrev pub IsMaking : Stage → Type 0
IsMaking Making = Unit {0}
IsMaking (Writing write) = Unit {0}
IsMaking (Pairing purpose) = Unit {0}
IsMaking _ = ⊥

-- by the limit
over_limit : (made : Made) (limit : Option ℕ) (count : ℕ) → made.limit ≡ limit → told_limit made limit count ≡ None → (most : ℕ)
    × (made.limit ≡ Some most) × (most ≤ count)
over_limit made None count is e = absurd cc
over_limit made (Some most) count is e = by_count (nat_lt count most) refl e
  where
    by_count : (b : Bool) → nat_lt count most ≡ b → cond b (Some (record made { number = Free count })) None ≡ None → (most : ℕ)
        × (made.limit ≡ Some most) × (most ≤ count)
    by_count true less o = absurd cc
    by_count false more o = (most, is, ltb-false count most more)

-- no number is left
over_by : (made : Made) (number : Number) (count : ℕ) → told_as made number count ≡ None → (most : ℕ) × (made.limit ≡ Some most) × (most ≤ count)
over_by made Taken count e = absurd cc
over_by made Wanted count e = over_limit made made.limit count refl e
over_by made (Free n) count e = over_limit made made.limit count refl e

-- and so the ask was for their count
over_asked : (made : Made) (number : Number) (old count : ℕ) → told_as made number count ≡ None → IsNumberAsk (number_ask number made old)
over_asked made Taken old count e = absurd cc
over_asked made Wanted old count e = tt
over_asked made (Free n) old count e = tt

module _ (m : Machine) (refused : Refused) where
  -- at least as many numbers were taken for pairs as the limit permits
  abbrev pub IsOver : Made → Stage → Answer → Type 0
  IsOver made stage answer = (most : ℕ) × (count : ℕ) × (made.limit ≡ Some most) × (most ≤ count) × IsNumberAsk (asks made m.hash stage)
      × ((answer ≡ Word_read count) ⊎ (answer ≡ Found_instead count))

  -- making a part failed with this cause, the call needs a next table, its closure would remove
  -- nothing, or no number is left
  abbrev pub IsReason : Made → Stage → Answer → Type 0
  IsReason made stage answer = ((answer ≡ Was_refused refused) × IsMaking stage) ⊎ ((refused ≡ Capacity) × ((need : Need) × (stage ≡ Growing need)))
      ⊎ ((refused ≡ Limit) × IsOver made stage answer × IsMaking stage)
      ⊎ ((refused ≡ RemoveNothing) × ((gap : Gap) × (stage ≡ Offering gap)) × (answer ≡ Op ops.Remove))

  -- the answer states the cause
  answered : (made : Made) (stage : Stage) → IsMaking stage → (refused' : Refused) → Some refused' ≡ Some refused → IsReason made stage (Was_refused refused')
  answered made stage making refused' e = let is : refused' ≡ refused = cc e in inl (ap Was_refused is, making)

  -- no number is left
  at_limit : (made : Made) (stage : Stage) → IsMaking stage → (answer : Answer) → IsOver made stage answer → Some Limit ≡ Some refused
      → IsReason made stage answer
  at_limit made stage making answer over e = let is : Limit ≡ refused = cc e in inr (inr (inl (sym is, over, making)))

  -- a stage without a failure has no cause
  unrefused : (made : Made) (stage : Stage) (answer : Answer) (o : Option Refused) → o ≡ None → o ≡ Some refused → IsReason made stage answer
  unrefused made stage answer o none some = absurd (cc (none, some))

  -- a call that makes a pair, if it receives how many numbers were taken
  numbered_refused : (made : Made) (stage : Stage) → IsMaking stage → (answer : Answer) (count : ℕ)
      → ((answer ≡ Word_read count) ⊎ (answer ≡ Found_instead count))
      → (told made count ≡ None → IsNumberAsk (asks made m.hash stage)) → ((next : Made) → refusal_of (asks next m.hash stage) ≡ None)
      → (o : Option Made) → told made count ≡ o → refusal_of (asks (number_told o made) m.hash (numbered o stage)) ≡ Some refused → IsReason made stage answer
  numbered_refused made stage making answer count says number goes None is e = at_limit made stage making answer
      (let over = over_by made made.number count is in (over.0, count, over.1, over.2, number is, says)) e
  numbered_refused made stage making answer count says number goes (Some next) is e = unrefused made stage answer
      (refusal_of (asks next m.hash stage)) (goes next) e

  -- an insertion receives it
  module _ (made : Made) (write : Write) where
    write_asked : (count : ℕ) (served : Option ℕ) → told made count ≡ None → served ≡ None → IsNumberAsk (served_ask served write made)
    write_asked count None is none = over_asked made made.number write.old count is
    write_asked count (Some n) is none = absurd cc

    write_number : (count : ℕ) → serves made write ≡ None → told made count ≡ None → IsNumberAsk (asks made m.hash (Writing write))
    write_number count none is = write_asked count (serves made write) is none

    write_loaded : (word : ℕ) (served : Option ℕ) → serves made write ≡ served
        → refusal_of (asks (write_made served made word) m.hash (write_told served made write word)) ≡ Some refused
        → IsReason made (Writing write) (Word_read word)
    write_loaded word None is e = numbered_refused made (Writing write) tt (Word_read word) word (inl refl) (write_number word is)
        (λ next. write_unrefused next write) (told made word) refl e
    write_loaded word (Some n) is e = unrefused made (Writing write) (Word_read word) (refusal_of (write_ask write made)) (write_unrefused made write) e

    write_found : (word : ℕ) (served : Option ℕ) → serves made write ≡ served
        → refusal_of (asks (write_made served made word) m.hash (write_lost served (record m { made = made; state = Writing write }) write word)) ≡ Some
        refused → IsReason made (Writing write) (Found_instead word)
    write_found word None is e = numbered_refused made (Writing write) tt (Found_instead word) word (inr refl) (write_number word is)
        (λ next. write_unrefused next write) (told made word) refl e
    write_found word (Some n) is e =
        unrefused made (Writing write) (Found_instead word)
        (refusal_of (asks made m.hash (goes_as m.task m.mode m.remembered (look_seen write.place word))))
        (goes_unrefused made m.hash m.task m.mode m.remembered (look_seen write.place word)) e

    write_done : (served : Option ℕ) → refusal_of (asks (write_taken served made) m.hash (exchanged served write)) ≡ Some refused
        → IsReason made (Writing write) Exchanged
    write_done None e = unrefused made (Writing write) Exchanged (refusal_of (write_ask write (taken made))) (write_unrefused (taken made) write) e
    write_done (Some n) e = unrefused made (Writing write) Exchanged (refusal_of (asks made m.hash (written write n))) (written_unrefused made m.hash write n) e

    write_refused : (refused' : Refused) (served : Option ℕ) → refusal_of (asks made m.hash (refuses served refused' write)) ≡ Some refused
        → IsReason made (Writing write) (Was_refused refused')
    write_refused refused' None e = answered made (Writing write) tt refused' e
    write_refused refused' (Some n) e = unrefused made (Writing write) (Was_refused refused') (refusal_of (write_ask write made)) (write_unrefused made write) e

  -- and a compute
  module _ (made : Made) (purpose : Purpose) where
    pairing_number : (count : ℕ) → told made count ≡ None → IsNumberAsk (asks made m.hash (Pairing purpose))
    pairing_number count is = over_asked made made.number (in_place_of purpose) count is

    pairing_made : (n : ℕ) (G : Grown) → refusal_of (asks (made_to_pair G) m.hash (paired G purpose n)) ≡ Some refused
        → IsReason made (Pairing purpose) (Made_number n)
    pairing_made n (On next) e = unrefused made (Pairing purpose) (Made_number n) (refusal_of (pair_ask next (in_place_of purpose)))
        (pairing_unrefused next purpose) e
    pairing_made n (Pair next) e = unrefused made (Pairing purpose) (Made_number n) (refusal_of (asks next m.hash (provides purpose n)))
        (provides_leads (IsUnrefused next m.hash) (leads_unrefused next m.hash) purpose n) e

  -- in each stage
  refused_in : (made : Made) (stage : Stage) (answer : Answer) → ((reply : Reply) → asks made m.hash stage ≡ Ask_done reply → ⊥)
      → refusal_of (ask_of (after (record m { made = made; state = stage }) answer)) ≡ Some refused → IsReason made stage answer
  refused_in made AtRoot (Word_read word) open_still e = unrefused made AtRoot (Word_read word)
      (refusal_of (asks made m.hash (at_root m.task m.remembered.fill word)))
      (root_leads (IsUnrefused made m.hash) (leads_unrefused made m.hash) m.task m.remembered.fill word) e
  refused_in made AtRoot answer open_still e = absurd cc
  refused_in made Making (Was_refused refused') open_still e = answered made Making tt refused' e
  refused_in made Making answer open_still e = absurd cc
  refused_in made (Opening t) Exchanged open_still e = absurd cc
  refused_in made (Opening t) answer open_still e = absurd cc
  refused_in made (Searching place) (Word_read word) open_still e =
      unrefused made (Searching place) (Word_read word)
      (refusal_of (asks made m.hash (goes_as m.task m.mode m.remembered (search_loaded place m.hash word))))
      (goes_unrefused made m.hash m.task m.mode m.remembered (search_loaded place m.hash word)) e
  refused_in made (Searching place) (Yes same) open_still e =
      unrefused made (Searching place) (Yes same) (refusal_of (asks made m.hash (goes_as m.task m.mode m.remembered (search_compared place same))))
      (goes_unrefused made m.hash m.task m.mode m.remembered (search_compared place same)) e
  refused_in made (Searching place) (Size slots limit) open_still e =
      unrefused made (Searching place) (Size slots limit) (refusal_of (search_ask (search_sized place m.hash slots limit)))
      (search_unrefused (search_sized place m.hash slots limit)) e
  refused_in made (Searching place) answer open_still e = unrefused made (Searching place) answer (refusal_of (search_ask place)) (search_unrefused place) e
  refused_in made (Writing write) (Word_read word) open_still e = write_loaded made write word (serves made write) refl e
  refused_in made (Writing write) (Found_instead word) open_still e = write_found made write word (serves made write) refl e
  refused_in made (Writing write) Exchanged open_still e = write_done made write (serves made write) e
  refused_in made (Writing write) (Was_refused refused') open_still e = write_refused made write refused' (serves made write) e
  refused_in made (Writing write) (Made_number n) open_still e =
      let next : Made = write_grown (serves made write) made write n in
      unrefused made (Writing write) (Made_number n) (refusal_of (write_ask write next)) (write_unrefused next write) e
  refused_in made (Writing write) answer open_still e = unrefused made (Writing write) answer (refusal_of (write_ask write made)) (write_unrefused made write) e
  refused_in made (Counting n) Ok_done open_still e = absurd cc
  refused_in made (Noting n) Ok_done open_still e = absurd cc
  refused_in made (Counting n) answer open_still e = absurd cc
  refused_in made (Noting n) answer open_still e = absurd cc
  refused_in made (Offering gap) (Op ops.Insert) open_still e = unrefused made (Offering gap) (Op ops.Insert)
      (refusal_of (pair_ask (answered_made ops.Insert made) 0)) (pairing_unrefused (answered_made ops.Insert made) (Fill gap)) e
  refused_in made (Offering gap) (Op ops.Remove) open_still e = let is : RemoveNothing ≡ refused = cc e in inr (inr (inr (sym is, (gap, refl), refl)))
  refused_in made (Offering gap) (Op (ops.Abort t)) open_still e = absurd cc
  refused_in made (Offering gap) answer open_still e = absurd cc
  refused_in made (Pairing purpose) (Was_refused refused') open_still e = answered made (Pairing purpose) tt refused' e
  refused_in made (Pairing purpose) (Made_number n) open_still e = pairing_made made purpose n (grown made (in_place_of purpose)) e
  refused_in made (Pairing purpose) (Word_read word) open_still e = numbered_refused made (Pairing purpose) tt (Word_read word) word (inl refl)
      (pairing_number made purpose word) (λ next. pairing_unrefused next purpose) (told made word) refl e
  refused_in made (Pairing purpose) (Found_instead word) open_still e = numbered_refused made (Pairing purpose) tt (Found_instead word) word
      (inr refl) (pairing_number made purpose word) (λ next. pairing_unrefused next purpose) (told made word) refl e
  refused_in made (Pairing purpose) Exchanged open_still e = unrefused made (Pairing purpose) Exchanged
      (refusal_of (pair_ask (taken made) (in_place_of purpose))) (pairing_unrefused (taken made) purpose) e
  refused_in made (Pairing purpose) answer open_still e = unrefused made (Pairing purpose) answer (refusal_of (pair_ask made (in_place_of purpose)))
      (pairing_unrefused made purpose) e
  refused_in made (Putting put) (Found_instead word) open_still e =
      unrefused made (Putting put) (Found_instead word)
      (refusal_of (asks made m.hash (goes_as m.task m.mode m.remembered (look_seen put.write.place word))))
      (goes_unrefused made m.hash m.task m.mode m.remembered (look_seen put.write.place word)) e
  refused_in made (Putting put) Exchanged open_still e = unrefused made (Putting put) Exchanged
      (refusal_of (asks made m.hash (written put.write put.pair))) (written_unrefused made m.hash put.write put.pair) e
  refused_in made (Putting put) answer open_still e = absurd cc
  refused_in made (Showing removal) (Yes agrees) open_still e = unrefused made (Showing removal) (Yes agrees)
      (refusal_of (asks made m.hash (judged m.task removal agrees))) (judged_unrefused made m.hash m.task removal agrees) e
  refused_in made (Showing removal) (Op kind) open_still e = unrefused made (Showing removal) (Op kind)
      (refusal_of (asks (made_decided m.task kind made) m.hash (decided m.task removal kind)))
      (decided_unrefused (made_decided m.task kind made) m.hash m.task removal kind) e
  refused_in made (Showing removal) answer open_still e = absurd cc
  refused_in made (Burying removal) (Found_instead word) open_still e =
      let machine : Machine = record m { made = made; state = Burying removal } in
      unrefused made (Burying removal) (Found_instead word) (refusal_of (asks made m.hash (beaten machine removal word)))
      (beaten_leads (IsUnrefused made m.hash) (leads_unrefused made m.hash) machine removal word) e
  refused_in made (Burying removal) answer open_still e = absurd cc
  refused_in made (Uncounting n) Ok_done open_still e = absurd cc
  refused_in made (Uncounting n) answer open_still e = absurd cc
  refused_in made (Leaving t) (Word_read word) open_still e = unrefused made (Leaving t) (Word_read word)
      (refusal_of (asks made m.hash (left m.task m.remembered.fill t word)))
      (left_leads (IsUnrefused made m.hash) (leads_unrefused made m.hash) m.task m.remembered.fill t word) e
  refused_in made (Leaving t) answer open_still e = absurd cc
  refused_in made (Growing t) (Word_read word) open_still e = let is : Capacity ≡ refused = cc e in inr (inl (sym is, (t, refl)))
  refused_in made (Growing t) answer open_still e = absurd cc
  refused_in made (Ended reply) answer open_still e = absurd (open_still reply refl)

  -- for the whole machine
  pub machine_reason : (answer : Answer) → ((reply : Reply) → ask_of m ≡ Ask_done reply → ⊥)
      → ask_of (after m answer) ≡ Ask_done (Reply_refused refused) → IsReason m.made m.state answer
  machine_reason answer open_still e = refused_in m.made m.state answer open_still (ap refusal_of e)

  -- the reason why the answer to an ask makes a call fail
  abbrev IsRefusal : Answer → Type 0
  IsRefusal answer = (answer ≡ Was_refused refused) ⊎ ((refused ≡ Capacity) × ((t : ℕ) × (ask_of m ≡ Load (Next t))))
      ⊎ ((refused ≡ Limit) × IsAtLimit m answer) ⊎ ((refused ≡ RemoveNothing) × (ask_of m ≡ ShowNone) × (answer ≡ Op ops.Remove))

  -- a reason of the machine's state is one of its ask
  refusal : (answer : Answer) → IsReason m.made m.state answer → IsRefusal answer
  refusal answer (inl made) = inl made.0
  refusal answer (inr (inl (full, (need, grows)))) = inr (inl (full, (needed need, ap (asks m.made m.hash) grows)))
  refusal answer (inr (inr (inl (limit, over, making)))) = inr (inr (inl (limit, over)))
  refusal answer (inr (inr (inr (none, (gap, offers), removes)))) = inr (inr (inr (none, ap (asks m.made m.hash) offers, removes)))

  -- so the answer states the cause, the machine loads the number of a next table, or its closure
  -- was called with None
  pub machine_refused : (answer : Answer) → ((reply : Reply) → ask_of m ≡ Ask_done reply → ⊥)
      → ask_of (after m answer) ≡ Ask_done (Reply_refused refused) → IsRefusal answer
  machine_refused answer open_still e = refusal answer (machine_reason answer open_still e)
