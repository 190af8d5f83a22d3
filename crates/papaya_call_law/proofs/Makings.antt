-- The asks of a call that makes a pair, and its state after each answer.
use Rattle.std.proofs.Common.{◌≡◌, ℕ, ◌+◌, ◌==◌, Bool, true, false, cond, Option, None, Some, refl}
use Rattle.std.proofs.lemmas.Bool.{cond_both}
use Rattle.papaya_words.specs.Word.{pair_of}
use Rattle.papaya_words.specs.declared.refused.Refused.{Refused}
use Rattle.papaya_words.specs.declared.refused.Refused.TheVariants.{Limit}
use Rattle.papaya_call.specs.declared.ask.At.TheVariants.{Slot, Made as Made_word}
use Rattle.papaya_call.specs.declared.ask.Ask.{Ask}
use Rattle.papaya_call.specs.declared.ask.Ask.TheVariants.{Load, Exchange, MakeKey, MakeValue, MakePair, MakePairOf}
use Rattle.papaya_call.specs.declared.ask.Answer.{Answer}
use Rattle.papaya_call.specs.declared.ask.Answer.TheVariants.{Word as Word_read, Exchanged}
use Rattle.papaya_call.specs.declared.ask.Answer.TheVariants.{Found as Found_instead, Yes, Op, Size}
use Rattle.papaya_call.specs.declared.ask.Answer.TheVariants.{Made as Made_number, Ok as Ok_done}
use Rattle.papaya_call.specs.declared.ask.Answer.TheVariants.{Refused as Was_refused}
use Rattle.papaya_call.specs.declared.call.Reply.TheVariants.{Refused as Reply_refused}
use Rattle.papaya_call.specs.declared.compute.Purpose.{Purpose}
use Rattle.papaya_call.specs.declared.made.Grown.{Grown}
use Rattle.papaya_call.specs.declared.made.Grown.TheVariants.{On, Pair}
use Rattle.papaya_call.specs.declared.made.Made.{Made}
use Rattle.papaya_call.specs.declared.made.Number.{Number}
use Rattle.papaya_call.specs.declared.made.Number.TheVariants.{Wanted, Free, Taken}
use Rattle.papaya_call.specs.declared.machine.Machine.{Machine}
use Rattle.papaya_call.specs.declared.machine.State.{State}
use Rattle.papaya_call.specs.declared.machine.State.TheVariants.{Writing, Pairing, Ended}
use Rattle.papaya_call.specs.declared.write.Write.{Write}
use Rattle.papaya_call.specs.Compute.{in_place_of, provides}
use Rattle.papaya_call.specs.Made.{grown, grown_as, make_ask, number_ask, of_ask, of_grown, own_ask, own_grown, pair_ask, paired as pair_done, told}
use Rattle.papaya_call.specs.Machine.{after, exchanged, goes, numbered, paired, refuses, write_lost, write_told, written}
use Rattle.papaya_call.specs.Write.{put_ask, served_ask, serves, write_ask}
use Rattle.papaya_call.specs.Search.{look}
use Rattle.papaya_call_law.specs.Says.{MakesPair}

-- such a call loads how many numbers were taken, takes the next, or stores a part in the arena
abbrev pub IsPairAsk : Ask → Type 0
IsPairAsk (Load Made_word) = Unit {0}
IsPairAsk (Exchange Made_word old new) = Unit {0}
IsPairAsk MakeKey = Unit {0}
IsPairAsk MakeValue = Unit {0}
IsPairAsk MakePair = Unit {0}
IsPairAsk (MakePairOf n) = Unit {0}
IsPairAsk _ = ⊥

-- a part is stored in the arena
abbrev pub IsMakeAsk : Ask → Type 0
IsMakeAsk MakeKey = Unit {0}
IsMakeAsk MakeValue = Unit {0}
IsMakeAsk MakePair = Unit {0}
IsMakeAsk (MakePairOf n) = Unit {0}
IsMakeAsk _ = ⊥

-- once there is a number, these are the only asks
own_makes : (keyed valued : Bool) → IsMakeAsk (own_ask keyed valued)
own_makes false valued = tt
own_makes true false = tt
own_makes true true = tt

of_makes : (valued : Bool) (old : ℕ) → IsMakeAsk (of_ask valued old)
of_makes false old = tt
of_makes true old = tt

pub make_asks : (made : Made) (old : ℕ) → IsMakeAsk (make_ask made old)
make_asks made old = cond_both (old == 0) (own_ask made.keyed made.valued) (of_ask made.valued old) IsMakeAsk (λ _. own_makes made.keyed made.valued)
    (λ _. of_makes made.valued old)

-- an insertion that writes does so too, or exchanges a slot
abbrev pub IsWriteAsk : Ask → Type 0
IsWriteAsk (Load Made_word) = Unit {0}
IsWriteAsk (Exchange Made_word old new) = Unit {0}
IsWriteAsk (Exchange (Slot t x) old new) = Unit {0}
IsWriteAsk MakeKey = Unit {0}
IsWriteAsk MakeValue = Unit {0}
IsWriteAsk MakePair = Unit {0}
IsWriteAsk (MakePairOf n) = Unit {0}
IsWriteAsk _ = ⊥

-- a property of each of these asks
pub record HoldsOfPairAsks (Holds : Ask → Type 0) : Type 0 where
  pub loads : Holds (Load Made_word)
  pub takes : (count : ℕ) → Holds (Exchange Made_word count (count + 1))
  pub key : Holds MakeKey
  pub value : Holds MakeValue
  pub pair : Holds MakePair
  pub pair_of : (n : ℕ) → Holds (MakePairOf n)

module _ (Holds : Ask → Type 0) (each : HoldsOfPairAsks Holds) where
  own_holds : (keyed valued : Bool) → Holds (own_ask keyed valued)
  own_holds false valued = each.key
  own_holds true false = each.value
  own_holds true true = each.pair

  of_holds : (valued : Bool) (old : ℕ) → Holds (of_ask valued old)
  of_holds false old = each.value
  of_holds true old = each.pair_of (pair_of old)

  number_holds : (number : Number) (made : Made) (old : ℕ) → Holds (number_ask number made old)
  number_holds Wanted made old = each.loads
  number_holds (Free count) made old = each.takes count
  number_holds Taken made old = cond_both (old == 0) (own_ask made.keyed made.valued) (of_ask made.valued old) Holds
      (λ _. own_holds made.keyed made.valued) (λ _. of_holds made.valued old)

  -- holds of the asks for a pair
  pub pair_holds : (made : Made) (old : ℕ) → Holds (pair_ask made old)
  pair_holds made old = number_holds made.number made old

  served_holds : (write : Write) → ((n : ℕ) → Holds (put_ask write n)) → (served : Option ℕ) (made : Made) → Holds (served_ask served write made)
  served_holds write puts None made = pair_holds made write.old
  served_holds write puts (Some n) made = puts n

  -- and, with the exchange of a slot, of the asks of an insertion that writes
  pub write_holds : (write : Write) → ((n : ℕ) → Holds (put_ask write n)) → (made : Made) → Holds (write_ask write made)
  write_holds write puts made = served_holds write puts (serves made write) made

-- the asks for a pair
pub pair_asks : (made : Made) (old : ℕ) → IsPairAsk (pair_ask made old)
pair_asks made old = pair_holds IsPairAsk (record { loads = tt; takes = λ count. tt; key = tt; value = tt; pair = tt; pair_of = λ n. tt }) made old

-- by a compute
pub pairing_asks : (made : Made) (purpose : Purpose) → IsPairAsk (pair_ask made (in_place_of purpose))
pairing_asks made purpose = pair_asks made (in_place_of purpose)

-- and by an insertion
pub write_asks : (made : Made) (write : Write) → IsWriteAsk (write_ask write made)
write_asks made write = write_holds IsWriteAsk (record { loads = tt; takes = λ count. tt; key = tt; value = tt; pair = tt; pair_of = λ n. tt }) write
    (λ n. tt) made

-- if no number is left the call ends, and otherwise it stays
pub numbered_leads : (Holds : State → Type 0) → Holds (Ended (Reply_refused Limit)) → (state : State) → Holds state → (o : Option Made)
    → Holds (numbered o state)
numbered_leads Holds over state stable None = over
numbered_leads Holds over state stable (Some made) = stable

module _ (Holds : State → Type 0) (over : Holds (Ended (Reply_refused Limit))) (write : Write) (stable : Holds (Writing write)) where
  -- an insertion receives how many numbers were taken
  pub told_leads : (served : Option ℕ) (made : Made) (count : ℕ) → Holds (write_told served made write count)
  told_leads None made count = numbered_leads Holds over (Writing write) stable (told made count)
  told_leads (Some n) made count = stable

  -- another word is there
  pub lost_leads : (m : Machine) (word : ℕ) → Holds (goes m (look write.place word)) → (served : Option ℕ) → Holds (write_lost served m write word)
  lost_leads m word goes_on None = numbered_leads Holds over (Writing write) stable (told m.made word)
  lost_leads m word goes_on (Some n) = goes_on

-- its exchange was made
pub exchanged_leads : (Holds : State → Type 0) (write : Write) → Holds (Writing write) → ((n : ℕ) → Holds (written write n)) → (served : Option ℕ)
    → Holds (exchanged served write)
exchanged_leads Holds write stable done None = stable
exchanged_leads Holds write stable done (Some n) = done n

-- the part that was to be made was not made
pub refuses_leads : (Holds : State → Type 0) (write : Write) (refused : Refused) → Holds (Writing write) → Holds (Ended (Reply_refused refused))
    → (served : Option ℕ) → Holds (refuses served refused write)
refuses_leads Holds write refused stable over None = over
refuses_leads Holds write refused stable over (Some n) = stable

-- a part was made for a compute
pub paired_leads : (Holds : State → Type 0) (purpose : Purpose) (n : ℕ) → Holds (Pairing purpose) → Holds (provides purpose n) → (g : Grown)
    → Holds (paired g purpose n)
paired_leads Holds purpose n stable goes_on (On made) = stable
paired_leads Holds purpose n stable goes_on (Pair made) = goes_on

-- a part that is made is the pair if, and only if, a pair was asked for
own_makes_pair : (keyed valued : Bool) (made next : Made) → own_grown keyed valued made ≡ Pair next → MakesPair (own_ask keyed valued)
own_makes_pair false valued made next e = absurd cc
own_makes_pair true false made next e = absurd cc
own_makes_pair true true made next e = tt

of_makes_pair : (valued : Bool) (old : ℕ) (made next : Made) → of_grown valued made ≡ Pair next → MakesPair (of_ask valued old)
of_makes_pair false old made next e = absurd cc
of_makes_pair true old made next e = tt

makes_pair_by : (number : Number) (made : Made) (old : ℕ) (next : Made) → grown_as number made old ≡ Pair next → MakesPair (number_ask number made old)
makes_pair_by Wanted made old next e = absurd cc
makes_pair_by (Free n) made old next e = absurd cc
makes_pair_by Taken made old next e = by_old (old == 0) e
  where
    by_old : (b : Bool) → cond b (own_grown made.keyed made.valued made) (of_grown made.valued made) ≡ Pair next
        → MakesPair (cond b (own_ask made.keyed made.valued) (of_ask made.valued old))
    by_old true is = own_makes_pair made.keyed made.valued made next is
    by_old false is = of_makes_pair made.valued old made next is

pub makes_pair : (made : Made) (old : ℕ) (next : Made) → grown made old ≡ Pair next → MakesPair (pair_ask made old)
makes_pair made old next e = makes_pair_by made.number made old next e

own_pair_made : (keyed valued : Bool) (made : Made) → MakesPair (own_ask keyed valued) → own_grown keyed valued made ≡ Pair (pair_done made)
own_pair_made false valued made m = absurd m
own_pair_made true false made m = absurd m
own_pair_made true true made m = refl

of_pair_made : (valued : Bool) (old : ℕ) (made : Made) → MakesPair (of_ask valued old) → of_grown valued made ≡ Pair (pair_done made)
of_pair_made false old made m = absurd m
of_pair_made true old made m = refl

pair_made_by : (number : Number) (made : Made) (old : ℕ) → MakesPair (number_ask number made old) → grown_as number made old ≡ Pair (pair_done made)
pair_made_by Wanted made old m = absurd m
pair_made_by (Free n) made old m = absurd m
pair_made_by Taken made old m = by_old (old == 0) m
  where
    by_old : (b : Bool) → MakesPair (cond b (own_ask made.keyed made.valued) (of_ask made.valued old))
        → cond b (own_grown made.keyed made.valued made) (of_grown made.valued made) ≡ Pair (pair_done made)
    by_old true is = own_pair_made made.keyed made.valued made is
    by_old false is = of_pair_made made.valued old made is

pub pair_made : (made : Made) (old : ℕ) → MakesPair (pair_ask made old) → grown made old ≡ Pair (pair_done made)
pair_made made old m = pair_made_by made.number made old m

module _ (m : Machine) where
  -- the state of an insertion that writes after each answer, by the pair that it uses
  abbrev pub write_then : Option ℕ → Made → Write → Answer → State
  write_then served made write (Word_read word) = write_told served made write word
  write_then served made write Exchanged = exchanged served write
  write_then served made write (Found_instead word) = write_lost served (record m { made = made; state = Writing write }) write word
  write_then served made write (Was_refused refused) = refuses served refused write
  write_then served made write _ = Writing write

  pub write_then_is : (made : Made) (write : Write) (answer : Answer)
      → (after (record m { made = made; state = Writing write }) answer).state ≡ write_then (serves made write) made write answer
  write_then_is made write (Word_read word) = refl
  write_then_is made write Exchanged = refl
  write_then_is made write (Found_instead word) = refl
  write_then_is made write (Yes same) = refl
  write_then_is made write (Op kind) = refl
  write_then_is made write (Size slots limit) = refl
  write_then_is made write (Made_number n) = refl
  write_then_is made write Ok_done = refl
  write_then_is made write (Was_refused refused) = refl

  module _ (Holds : State → Type 0) (over : (refused : Refused) → Holds (Ended (Reply_refused refused))) where
    -- an insertion that has no pair for its place stays, or fails
    pub unserved_leads : (made : Made) (write : Write) → Holds (Writing write) → (answer : Answer) → Holds (write_then None made write answer)
    unserved_leads made write stable (Word_read word) = numbered_leads Holds (over Limit) (Writing write) stable (told made word)
    unserved_leads made write stable Exchanged = stable
    unserved_leads made write stable (Found_instead word) = numbered_leads Holds (over Limit) (Writing write) stable (told made word)
    unserved_leads made write stable (Yes same) = stable
    unserved_leads made write stable (Op kind) = stable
    unserved_leads made write stable (Size slots limit) = stable
    unserved_leads made write stable (Made_number n) = stable
    unserved_leads made write stable Ok_done = stable
    unserved_leads made write stable (Was_refused refused) = over refused

    -- so does a compute that makes a pair, until that is made
    pub pairing_leads : (made : Made) (purpose : Purpose) → Holds (Pairing purpose) → ((n : ℕ) → Holds (provides purpose n)) → (answer : Answer)
        → Holds (after (record m { made = made; state = Pairing purpose }) answer).state
    pairing_leads made purpose stable goes_on (Word_read word) = numbered_leads Holds (over Limit) (Pairing purpose) stable (told made word)
    pairing_leads made purpose stable goes_on Exchanged = stable
    pairing_leads made purpose stable goes_on (Found_instead word) = numbered_leads Holds (over Limit) (Pairing purpose) stable (told made word)
    pairing_leads made purpose stable goes_on (Yes same) = stable
    pairing_leads made purpose stable goes_on (Op kind) = stable
    pairing_leads made purpose stable goes_on (Size slots limit) = stable
    pairing_leads made purpose stable goes_on (Made_number n) = paired_leads Holds purpose n stable (goes_on n) (grown made (in_place_of purpose))
    pairing_leads made purpose stable goes_on Ok_done = stable
    pairing_leads made purpose stable goes_on (Was_refused refused) = over refused
