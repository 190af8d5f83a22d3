-- A compute on the shared map: what it holds and relies on, and what it returns.
use Rattle.std.specs.Prelude.{◌≡◌, ◌⊎◌, ℕ, Bool, MatchOption, Option, None, Some, Result, List, ◌∷◌, option_map}
use mathlib.Core.List.{IsPrefix}
use Rattle.logbook.specs.Pages.{Book}
use Rattle.papaya_words.specs.declared.refused.Refused.{Refused}
use Rattle.papaya_words.specs.declared.refused.Refused.TheVariants.{Capacity, Limit}
use Rattle.papaya_call.specs.declared.answers.Operation.{Operation}
use Rattle.papaya_call.specs.declared.answers.Operation.TheVariants as operation
use Rattle.papaya_call.specs.declared.ask.Answer.{Answer}
use Rattle.papaya_call.specs.declared.ask.Answer.TheVariants.{Op}
use Rattle.papaya_call.specs.declared.ask.Ask.{Ask}
use Rattle.papaya_call.specs.declared.ask.Ask.TheVariants.{Done, Exchange, Load, LoadHint, MakeKey, MakeTable, MakeValue, SameKey, SizeOf}
use Rattle.papaya_call.specs.declared.ask.At.TheVariants.{Made as Made_word, Root}
use Rattle.papaya_call.specs.declared.ask.StepKind.{StepKind}
use Rattle.papaya_call.specs.declared.ask.StepKind.TheVariants.{Claim}
use Rattle.papaya_call.specs.declared.ask.OpKind.{OpKind}
use Rattle.papaya_call.specs.declared.ask.OpKind.TheVariants as kinds
use Rattle.papaya_call.specs.declared.call.Reply.{Reply}
use Rattle.papaya_call.specs.declared.call.Reply.TheVariants as reply
use Rattle.papaya_call.specs.declared.call.Task.TheVariants.{Compute}
use Rattle.papaya_call.specs.declared.compute.Choice.TheVariants.{Replace as To_replace}
use Rattle.papaya_call.specs.declared.machine.Machine.{Machine}
use Rattle.papaya_call.specs.declared.made.Of.{Of}
use Rattle.papaya_call.specs.Machine.{IsFit}
use Rattle.papaya_call.specs.declared.chain.ask.Ask.TheVariants.{Call}
use Rattle.papaya_call.specs.ChainMachine.{ask_of}
use Rattle.papaya_call_law.specs.Says.{Agrees, HasCalledNone, Inserts, IsAnswered, Makes, Removes, ClosureResult, NamesPairs, ActsOn, show}
use Rattle.papaya_call_law.specs.TrueAnswers.{IsOneOf}
use Rattle.papaya_words_keys.specs.declared.results.Compute.{Compute as Computed}
use Rattle.papaya_map_compute.specs.declared.slow_path.Computing.{Computing}
use Rattle.papaya_map_book.specs.declared.rule.entry.Begun.{Begun}
use Rattle.papaya_map_book.specs.declared.rule.entry.Event.{Event}
use Rattle.papaya_map_lookup.specs.History.{Change, history_of, key_of}
use Rattle.papaya_map_book.specs.Logs.{Member, Stored, pair_named}
use Rattle.papaya_map_book.specs.declared.book.pairs.ValuePart.{ValuePart}
use Rattle.papaya_map_book.specs.declared.book.pairs.ValuePart.TheVariants as values
use Rattle.papaya_map_book.specs.Limits.{HasNoRoom, IsSpent, tables_of}
use Rattle.papaya_map_book.specs.Rule.{IsPlaced}
use Rattle.papaya_map_change.specs.ClosureCalls.{AllArguments, HasNoNone, IsNoneOnce, WasHeld, WasLast}
use Rattle.papaya_map_change.specs.Changes.{key_kept}
use Rattle.papaya_map_change.specs.Writing.{HasKeyAt, IsWriting, answered as answered_writer, held_value}
use Rattle.papaya_map_compute.specs.ComputeAnswers.{IsOperated, IsRefusedBy}
use Rattle.papaya_map_compute.specs.Putting.{PutsChosen}

-- The kind of the operation that the closure returned, which the machine receives.
abbrev pub kind_of : {V T : Type 0} → Operation V T → OpKind
kind_of (operation.Insert v) = kinds.Insert
kind_of operation.Remove = kinds.Remove
kind_of (operation.Abort t) = kinds.Abort 0

-- The value of the next pair after the closure has returned this operation, and (in
-- `aborted_after`) what the call is to return if it is aborted.
abbrev pub value_after : {K V T : Type 0} → Operation V T → Option (ValuePart K V)
    → Option (ValuePart K V)
value_after (operation.Insert v) before = Some (values.Own v)
value_after operation.Remove before = before
value_after (operation.Abort t) before = before

abbrev pub aborted_after : {V T : Type 0} → Operation V T → Option T → Option T
aborted_after (operation.Insert v) before = before
aborted_after operation.Remove before = before
aborted_after (operation.Abort t) before = Some t

-- The pair for which the closure has returned `Remove`, or the one of before.
abbrev pub chosen_after : {K V T : Type 0} → Option (Stored K V) → Operation V T
    → Option (Stored K V) → Option (Stored K V)
chosen_after None done before = before
chosen_after (Some p) (operation.Insert v) before = before
chosen_after (Some p) operation.Remove before = Some p
chosen_after (Some p) (operation.Abort t) before = before

-- The compute that keeps what the closure has returned.
abbrev pub keeping : {K V S T H : Type 0} → Operation V T → Computing K V S T H
    → Computing K V S T H
keeping done x = record x {
  writer = record x.writer { value = value_after done x.writer.value };
  aborted = aborted_after done x.aborted;
}

abbrev pub IsKept : {K V S H T : Type 0} → Operation V T → Answer → Computing K V S T H
    → Computing K V S T H → Type 0
IsKept done answer x x' = (answer ≡ Op (kind_of done)) × (x' ≡ keeping done x)

-- The pair that an exchange of this kind puts in: `fill` for a claim, and `made` for any other
-- kind.
abbrev pub pair_for : {P : Type 0} → Option StepKind → (fill made : Option P) → Option P
pair_for (Some Claim) fill made = fill
pair_for _ fill made = made

-- The value of the pair with which the closure is called, if any.
abbrev pub value_in : {K V : Type 0} → Option (Stored K V) → Option V
value_in held = option_map (λ p. p.value.value) held

-- The number of the pair with which the closure is called, if any.
abbrev pub number_of : {K V : Type 0} → Option (Stored K V) → Option ℕ
number_of None = None
number_of (Some p) = Some p.index

-- The closure is to be called with `shown`: with `None`, or with the pair last loaded.
abbrev pub IsToCall : {K V S H T : Type 0} → Computing K V S T H → Option (Stored K V) → Type 0
IsToCall x shown = (ask_of x.writer.call.machine ≡ Call (show (number_of shown)))
    × MatchOption shown (Unit {0}) (λ p. x.writer.call.copier.last ≡ Some p)

-- The ask is one that every inserting call makes, and neither for a pair nor for an exchange of a
-- slot.
abbrev pub IsWriters : Ask → Type 0
IsWriters (Load at) = Unit {0}
IsWriters (LoadHint t x) = Unit {0}
IsWriters (SizeOf t) = Unit {0}
IsWriters (SameKey n) = Unit {0}
IsWriters MakeKey = Unit {0}
IsWriters MakeValue = Unit {0}
IsWriters (MakeTable len limit chunks) = Unit {0}
IsWriters (Exchange Root old new) = Unit {0}
IsWriters (Exchange Made_word old new) = Unit {0}
IsWriters _ = ⊥

-- The pair `q` was made of a value that the closure returned. It has the key of the pair with which
-- the closure was called, or the call's own key if it was called with `None`.
pub record IsMadeOf {K V T : Type 0} (key : K) (made : List (Stored K V))
    (said : List (Option (Stored K V) × Operation V T)) (held : Option (Stored K V)) (n : ℕ)
    (q : Stored K V) : Type 0 where
  pub number : q.index ≡ n
  pub made_is : IsOneOf made q
  pub key_is : key_of q ≡ key_kept held key
  pub said_is : Member (held, operation.Insert q.value.value) said

module _ {K V S T H : Type 0} (key : K) (made : List (Stored K V))
    (said : List (Option (Stored K V) × Operation V T)) (x : Computing K V S T H) where
  -- If the machine relies on an answer of the closure, the closure returned it, and the compute
  -- holds the pair with which the closure was called and what was made of its result.
  abbrev pub Holds : ClosureResult → Type 0
  Holds (Agrees n agrees) = ⊥
  Holds (Inserts None) = (x.shown ≡ None) × ((v : V)
      × (held_value x.writer.value ≡ Some v)
      × Member (None, operation.Insert v) said)
  Holds (Inserts (Some n)) = (p : Stored K V) × (x.shown ≡ Some p) × (p.index ≡ n)
      × ((v : V) × (held_value x.writer.value ≡ Some v) × Member (Some p, operation.Insert v) said)
  Holds (Makes None n) = (q : Stored K V) × (x.fill ≡ Some q) × IsMadeOf key made said None n q
  Holds (Makes (Some m) n) = (p : Stored K V) × (q : Stored K V) × (x.chosen ≡ Some p)
      × (p.index ≡ m) × (x.made ≡ Some q) × IsMadeOf key made said (Some p) n q
  Holds (Removes n) = (p : Stored K V) × (x.chosen ≡ Some p) × (p.index ≡ n)
      × Member (Some p, operation.Remove) said

-- For a pair that was made to replace another: the closure was called with that other one last, and
-- the next pair would have the same value.
pub record IsNewest {K V S T H : Type 0} (x : Computing K V S T H) : Type 0 where
  pub shown : x.shown ≡ x.chosen
  pub made : (q : Stored K V) × (x.made ≡ Some q)
      × (held_value x.writer.value ≡ Some q.value.value)

module _ {K V S T H : Type 0} (m : Machine) (x : Computing K V S T H) where
  -- If the machine relies on a pair that was made to replace another, then `IsNewest` holds, unless
  -- a pair is being made of the closure's last result or the call is over.
  abbrev pub HasNewest : Type 0
  HasNewest = (i n : ℕ) → ActsOn m (Makes (Some i) n) → IsAnswered m.state ⊎ IsNewest x

  -- The pair that the machine remembers to put in place of another has the key that is in the slot
  -- for which it was made.
  abbrev pub IsOfItsSlot : List (Event K V S) → Type 0
  IsOfItsSlot log = (old : ℕ) (new : Of) → m.remembered.choice ≡ Some (To_replace old new)
      → (q : Stored K V) × (x.made ≡ Some q) × HasKeyAt log new.table new.index (key_of q)

-- If the closure returned a value when it was called with `None`, then `fill` is a pair of that
-- value.
abbrev pub IsSpared : {K V T : Type 0} → Option (Stored K V)
    → List (Option (Stored K V) × Operation V T) → Type 0
IsSpared {K = K} {V = V} fill heard = (v : V) → Member (None, operation.Insert v) heard
    → (q : Stored K V) × (fill ≡ Some q) × (q.value.value ≡ v)

-- The result of a compute, by the calls of its closure in `heard`, of which the last comes first.
pub record IsReplied {K V T : Type 0} (eq : K → K → Bool) (key : K)
    (old new : List (Change K (Stored K V))) (heard : List (Option (Stored K V) × Operation V T))
    (answer : Result (Computed K V T) Refused) : Type 0 where
  pub held : AllArguments (WasHeld eq (eq key) old new) heard
  pub none_once : IsNoneOnce heard
  pub operated : IsOperated eq key old new heard answer

module _ {K V S H T : Type 0} (eq : K → K → Bool) (hash : S → K → ℕ) (b : Begun K V S)
    (name : Book) where
  -- A compute is under way, whose closure had the calls in `heard`.
  pub record IsComputing (key : K) (begun log : List (Event K V S)) (x : Computing K V S T H)
      (heard : List (Option (Stored K V) × Operation V T)) : Type 0 where
    pub made : List (Stored K V)
    pub writing : IsWriting eq hash b name key made begun log x.writer
    pub task_is : x.writer.call.machine.call.task ≡ Compute
    pub words : NamesPairs x.writer.call.machine.call
    pub puts : PutsChosen x.writer.call.machine.call
    pub shown_placed : IsPlaced b (Some name) (pair_named x.shown)
    pub fill_placed : IsPlaced b (Some name) (pair_named x.fill)
    pub chosen_placed : IsPlaced b (Some name) (pair_named x.chosen)
    pub held : AllArguments (WasHeld eq (eq key) (history_of begun) (history_of log)) heard
    pub none_once : IsNoneOnce heard
    pub none_shown : HasNoNone heard ⊎ HasCalledNone x.writer.call.machine.call.remembered.fill
        x.writer.call.machine.call.state
    pub stood : (stands : ClosureResult) → ActsOn x.writer.call.machine.call stands
        → Holds key made heard x stands
    pub newest : HasNewest x.writer.call.machine.call x
    pub of_slot : IsOfItsSlot x.writer.call.machine.call x log
    pub aborts : (with : ℕ) → ask_of x.writer.call.machine
        ≡ Call (Done (reply.Aborted with))
        → (t : T) × (x.aborted ≡ Some t) × WasLast x.shown (operation.Abort t) heard
        × IsSpared x.fill heard
    pub refuses : (refused : Refused) → ask_of x.writer.call.machine
        ≡ Call (Done (reply.Refused refused)) → IsRefusedBy heard refused
    pub crowded : ask_of x.writer.call.machine ≡ Call (Done (reply.Refused Capacity))
        → HasNoRoom x.writer.call.machine.call.initial (tables_of log)
        x.writer.call.copier.given.done
    pub spent : ask_of x.writer.call.machine ≡ Call (Done (reply.Refused Limit))
        → IsSpent b.limit log

  -- The compute after its machine was answered.
  abbrev pub answered : Computing K V S T H → Answer → Computing K V S T H
  answered x answer = record x { writer = answered_writer x.writer answer }

  -- The compute has replied, or `answer` is an answer to what it asks.
  abbrev pub IsComputingOn : K → List (Event K V S) → List (Event K V S) → Computing K V S T H
      → List (Option (Stored K V) × Operation V T) → Option Answer → Type 0
  IsComputingOn key begun log x heard None = IsComputing key begun log x heard
      × ((done : Reply) × (ask_of x.writer.call.machine ≡ Call (Done done)))
  IsComputingOn key begun log x heard (Some answer) =
      IsComputing key begun log (answered x answer) heard × IsFit answer

  -- Some compute is under way.
  abbrev pub CanCompute : List (Event K V S) → Computing K V S T H → Type 0
  CanCompute log x = (key : K) × (begun : List (Event K V S))
      × (heard : List (Option (Stored K V) × Operation V T)) × IsComputing key begun log x heard

  -- Each compute that was under way goes on with this answer, and its closure was not called.
  abbrev pub Computes : List (Event K V S) → Computing K V S T H → List (Event K V S)
      → Computing K V S T H → Option Answer → Type 0
  Computes log x log' x' answer = (key : K) (begun : List (Event K V S))
      (heard : List (Option (Stored K V) × Operation V T)) → IsComputing key begun log x heard
      → IsComputingOn key begun log' x' heard answer

  -- Each compute that was under way goes on with this answer; its closure was called with `shown`,
  -- and returned `done`.
  abbrev pub RecordsResult : List (Event K V S) → Computing K V S T H → Option (Stored K V) → Operation V T
      → Computing K V S T H → Answer → Type 0
  RecordsResult log x shown done x' answer = (key : K) (begun : List (Event K V S))
      (heard : List (Option (Stored K V) × Operation V T)) → IsComputing key begun log x heard
      → IsComputingOn key begun log x' ((shown, done) ∷ heard) (Some answer)

  -- `answer` is an answer to what some compute under way asks.
  abbrev pub CanTake : List (Event K V S) → Computing K V S T H → Answer → Type 0
  CanTake log x answer = (key : K) × (begun : List (Event K V S))
      × (heard : List (Option (Stored K V) × Operation V T))
      × IsComputingOn key begun log x heard (Some answer)

  -- Each such compute goes on once its machine has received the answer.
  abbrev pub Takes : List (Event K V S) → Computing K V S T H → Answer → List (Event K V S)
      → Computing K V S T H → Type 0
  Takes log x answer log' x' = (key : K) (begun : List (Event K V S))
      (heard : List (Option (Stored K V) × Operation V T))
      → IsComputingOn key begun log x heard (Some answer) → IsComputing key begun log' x' heard

  -- This is the result of each compute that is under way.
  abbrev pub Replies : List (Event K V S) → Computing K V S T H
      → Result (Computed K V T) Refused → Type 0
  Replies log x answer = (key : K) (begun : List (Event K V S))
      (heard : List (Option (Stored K V) × Operation V T)) → IsComputing key begun log x heard
      → IsReplied eq key (history_of begun) (history_of log) heard answer

  -- A compute is under way that began no earlier than at the log `old`.
  abbrev pub IsUnderWay : K → List (Event K V S) → List (Event K V S) → Computing K V S T H
      → List (Option (Stored K V) × Operation V T) → Type 0
  IsUnderWay key old log x heard = (begun : List (Event K V S)) × IsPrefix old begun
      × IsComputing key begun log x heard
