-- On which results of its closure a machine acts.
use Rattle.std.specs.Prelude.{◌≡◌, ◌⊎◌, ℕ, ◌<◌, ◌==◌, if◌then◌else◌, Bool, true, false, Option, None, Some}
use Rattle.papaya_words.specs.Word.{pair_of}
use Rattle.papaya_call.specs.declared.ask.Ask.{Ask}
use Rattle.papaya_call.specs.declared.ask.Ask.TheVariants.{ShowNone, ShowPair, MakePair, MakePairOf}
use Rattle.papaya_call.specs.declared.ask.Answer.{Answer}
use Rattle.papaya_call.specs.declared.ask.Answer.TheVariants.{Yes, Op, Made}
use Rattle.papaya_call.specs.declared.ask.OpKind.TheVariants as ops
use Rattle.papaya_call.specs.declared.ask.StepKind.TheVariants as kinds
use Rattle.papaya_call.specs.declared.call.Reply.{Reply}
use Rattle.papaya_call.specs.declared.call.Reply.TheVariants.{Inserted, Replaced, Removed, Kept}
use Rattle.papaya_call.specs.declared.call.Task.{Task}
use Rattle.papaya_call.specs.declared.call.Task.TheVariants.{Get, Insert, RemoveIf, Compute}
use Rattle.papaya_call.specs.declared.compute.Choice.{Choice}
use Rattle.papaya_call.specs.declared.compute.Choice.TheVariants.{Replace as To_replace, Remove as To_remove}
use Rattle.papaya_call.specs.declared.compute.Purpose.{Purpose}
use Rattle.papaya_call.specs.declared.compute.Purpose.TheVariants.{Fill, Replace, Again}
use Rattle.papaya_call.specs.declared.machine.Machine.{Machine}
use Rattle.papaya_call.specs.declared.made.Of.{Of}
use Rattle.papaya_call.specs.declared.machine.State.{State}
use Rattle.papaya_call.specs.declared.machine.State.TheVariants.{Offering, Showing, Pairing, Putting, Burying, Counting, Noting, Uncounting, Ended}
use Rattle.papaya_call.specs.Machine.{after, ask_of, kind_of_ask}

-- A result of a closure. The closure was called with None if its key was absent, and otherwise with
-- the pair of this number.
pub data ClosureResult : Type 0 where
  -- called with pair n, it returned whether the pair is to be removed
  Agrees : (n : ℕ) (agrees : Bool) → ClosureResult
  -- called with `shown`, it returned a value to store, of which a pair is yet to be made
  Inserts : (shown : Option ℕ) → ClosureResult
  -- called with `shown`, it returned a value to store, of which pair n was made
  Makes : (shown : Option ℕ) (n : ℕ) → ClosureResult
  -- called with pair n, it returned that the pair is to be removed
  Removes : (n : ℕ) → ClosureResult

-- the pair that the old word of a write names, None if the word is 0
abbrev pub shown_by : ℕ → Option ℕ
shown_by old = if old == 0 then None else Some (pair_of old)

-- the result of the closure on which a reply is based
abbrev pub result_of_removal : Reply → Option ClosureResult
result_of_removal (Removed n) = Some (Agrees n true)
result_of_removal (Kept n) = Some (Agrees n false)
result_of_removal _ = None

abbrev pub result_of_compute : Reply → Option ClosureResult
result_of_compute (Inserted n) = Some (Makes None n)
result_of_compute (Replaced m n) = Some (Makes (Some m) n)
result_of_compute (Removed n) = Some (Removes n)
result_of_compute _ = None

-- the result of the closure on which the removal of pair n is based
abbrev pub result_to_remove : Task → ℕ → Option ClosureResult
result_to_remove Get n = None
result_to_remove (Insert replace) n = None
result_to_remove RemoveIf n = Some (Agrees n true)
result_to_remove Compute n = Some (Removes n)

abbrev pub result_in_reply : Task → Reply → Option ClosureResult
result_in_reply Get reply = None
result_in_reply (Insert replace) reply = None
result_in_reply RemoveIf reply = result_of_removal reply
result_in_reply Compute reply = result_of_compute reply

-- the same for a pair that was claimed; an insertion has no closure
abbrev pub result_to_claim : Task → ℕ → Option ClosureResult
result_to_claim Compute n = Some (Makes None n)
result_to_claim _ n = None

abbrev pub result_for : Purpose → Option ClosureResult
result_for (Fill gap) = Some (Inserts None)
result_for (Replace write) = Some (Inserts (Some (pair_of write.old)))
-- what it returned for this pair before is remembered
result_for (Again write) = None

-- the result of the closure on which the rest of a call in this state is based
abbrev pub result_in : Task → State → Option ClosureResult
result_in task (Pairing purpose) = result_for purpose
result_in task (Putting put) = Some (Makes (shown_by put.write.old) put.pair)
result_in task (Burying removal) = result_to_remove task (pair_of removal.word)
result_in task (Counting claimed) = result_to_claim task claimed.pair
result_in task (Noting claimed) = result_to_claim task claimed.pair
result_in task (Uncounting n) = result_to_remove task n
result_in task (Ended reply) = result_in_reply task reply
result_in task _ = None

-- the same for what a machine remembers
abbrev pub result_to_fill : Option ℕ → Option ClosureResult
result_to_fill None = None
result_to_fill (Some n) = Some (Makes None n)

abbrev pub result_to_choose : Option Choice → Option ClosureResult
result_to_choose None = None
result_to_choose (Some (To_replace old new)) = Some (Makes (Some old) new.pair)
result_to_choose (Some (To_remove old)) = Some (Removes old)

-- the machine acts on this result of its closure, by its state or by what it remembers
abbrev pub ActsOn : Machine → ClosureResult → Type 0
ActsOn m said = (result_in m.task m.state ≡ Some said)
    ⊎ (result_to_fill m.remembered.fill ≡ Some said)
    ⊎ (result_to_choose m.remembered.choice ≡ Some said)

-- The word of a pair with which the closure was called is not 0. If a pair is made again, what the
-- closure returned for the old pair is remembered.
abbrev pub IsToPair : Option Choice → Purpose → Type 0
IsToPair choice (Fill gap) = Unit {0}
IsToPair choice (Replace write) = 0 < write.old
IsToPair choice (Again write) = (0 < write.old)
    × ((new : Of) × (choice ≡ Some (To_replace (pair_of write.old) new)))

-- the same in a state that is about to call the closure with a pair, or in which a pair is made
abbrev pub NamesPairIn : Option Choice → State → Type 0
NamesPairIn choice (Showing removal) = 0 < removal.word
NamesPairIn choice (Pairing purpose) = IsToPair choice purpose
NamesPairIn choice _ = Unit {0}

abbrev pub NamesPairs : Machine → Type 0
NamesPairs m = NamesPairIn m.remembered.choice m.state

-- a pair is being made of what the closure returned last, or the call is over
abbrev pub IsAnswered : State → Type 0
IsAnswered (Pairing (Fill gap)) = Unit {0}
IsAnswered (Pairing (Replace write)) = Unit {0}
IsAnswered (Ended reply) = Unit {0}
IsAnswered _ = ⊥

-- If a pair is remembered that is to replace another one, the value that was made last is the value
-- of that pair, unless a newer value is yet to be stored.
abbrev pub HasValue : Machine → Type 0
HasValue m = (old : ℕ) (new : Of) → m.remembered.choice ≡ Some (To_replace old new)
    → (m.made.valued ≡ true) ⊎ IsAnswered m.state

-- the ask is for a pair to be made
abbrev pub MakesPair : Ask → Type 0
MakesPair MakePair = Unit {0}
MakesPair (MakePairOf n) = Unit {0}
MakesPair _ = ⊥

-- the ask to call the closure with `shown`
abbrev pub show : Option ℕ → Ask
show None = ShowNone
show (Some n) = ShowPair n

-- called with `shown`, the closure returned a value to store, and a pair was made of it or not yet
abbrev pub WasReturned : Machine → Option ℕ → Type 0
WasReturned m shown = ActsOn m (Inserts shown) ⊎ ((n : ℕ) × ActsOn m (Makes shown n))

-- the answer to the machine's ask gives this result of the closure, or makes the pair of an earlier
-- result
abbrev pub IsResultBy : Machine → Answer → ClosureResult → Type 0
IsResultBy m answer (Agrees n agrees) = (ask_of m ≡ ShowPair n) × (answer ≡ Yes agrees)
IsResultBy m answer (Inserts shown) = (ask_of m ≡ show shown) × (answer ≡ Op ops.Insert)
IsResultBy m answer (Makes shown n) = WasReturned m shown × MakesPair (ask_of m) × (answer ≡ Made n)
IsResultBy m answer (Removes n) = (ask_of m ≡ ShowPair n) × (answer ≡ Op ops.Remove)

-- the machine acts on a pair for an absent key, and `said` is this result
abbrev pub KeepsFill : Machine → ClosureResult → Type 0
KeepsFill m said = (i : ℕ) × (said ≡ Makes None i) × ActsOn m said

-- a pair that was made of what the closure returned for None is the pair for an absent key, and the
-- machine acts on nothing else: no pair with which the closure was called before comes again
abbrev pub IsFilledBy : Machine → ℕ → Type 0
IsFilledBy m n = ActsOn m (Inserts None) × ((said : ClosureResult) → ActsOn (after m (Made n)) said
    → said ≡ Makes None n)

-- a pair that was made of what the closure returned for a pair takes the place of any older result
-- for a pair; the pair for an absent key stays
abbrev pub IsReplacedBy : Machine → ℕ → Type 0
IsReplacedBy m n = (i : ℕ) × WasReturned m (Some i)
    × ((said : ClosureResult) → ActsOn (after m (Made n)) said
    → (said ≡ Makes (Some i) n) ⊎ KeepsFill m said)

-- what a compute acts on once pair n was made
abbrev pub IsPaired : Machine → ℕ → Type 0
IsPaired m n = IsFilledBy m n ⊎ IsReplacedBy m n

-- the exchange of a slot, of pair `old` for pair `new`, is what the closure of a compute returned
abbrev pub IsResultExchange : Machine → (old new : ℕ) → Type 0
IsResultExchange m old new =
    ((kind_of_ask m ≡ Some kinds.Claim) × ActsOn m (Makes None new))
    ⊎ ((kind_of_ask m ≡ Some kinds.Replace) × ActsOn m (Makes (Some old) new))
    ⊎ ((kind_of_ask m ≡ Some kinds.Bury) × ActsOn m (Removes old))

-- the change of a call with a closure, from `old` to `new`, is what the closure returned
abbrev pub IsResultChange : Task → Machine → (old new : Option ℕ) → Type 0
IsResultChange Get m old new = ⊥
IsResultChange (Insert replace) m old new = Unit {0}
IsResultChange RemoveIf m (Some n) None = ActsOn m (Agrees n true)
IsResultChange RemoveIf m (Some n) (Some q) = ⊥
IsResultChange RemoveIf m None new = ⊥
IsResultChange Compute m old (Some n) = ActsOn m (Makes old n)
IsResultChange Compute m (Some n) None = ActsOn m (Removes n)
IsResultChange Compute m None None = ⊥

-- a pair for an absent key is remembered; `HasCalledNone` says that the closure was called with
-- None, or never will be
abbrev pub IsFilled : Option ℕ → Type 0
IsFilled None = ⊥
IsFilled (Some n) = Unit {0}

abbrev pub IsToFill : Purpose → Option ℕ → Type 0
IsToFill (Fill gap) fill = Unit {0}
IsToFill (Replace write) fill = IsFilled fill
IsToFill (Again write) fill = IsFilled fill

abbrev pub HasCalledNone : Option ℕ → State → Type 0
HasCalledNone fill (Offering gap) = ⊥
HasCalledNone fill (Pairing purpose) = IsToFill purpose fill
HasCalledNone fill (Ended reply) = Unit {0}
HasCalledNone fill _ = IsFilled fill
