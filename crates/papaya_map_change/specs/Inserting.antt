-- An insertion on the shared map: what it holds and relies on.
use Rattle.std.specs.Prelude.{◌≡◌, ℕ, Bool, true, Option, None, Some, List}
use Rattle.logbook.specs.Pages.{Book}
use Rattle.papaya_words.specs.declared.refused.Refused.{Refused as Cause}
use Rattle.papaya_words.specs.declared.refused.Refused.TheVariants.{Capacity, Limit}
use Rattle.papaya_call.specs.declared.ask.Answer.{Answer}
use Rattle.papaya_call.specs.declared.ask.Ask.TheVariants.{Done}
use Rattle.papaya_call.specs.declared.call.Reply.{Reply}
use Rattle.papaya_call.specs.declared.call.Reply.TheVariants.{Refused}
use Rattle.papaya_call.specs.declared.call.Task.TheVariants.{Insert}
use Rattle.papaya_call.specs.declared.made.Of.{Of}
use Rattle.papaya_call.specs.Machine.{IsFit}
use Rattle.papaya_call.specs.declared.chain.ask.Ask.TheVariants.{Call}
use Rattle.papaya_call.specs.ChainMachine.{ask_of}
use Rattle.papaya_map_book.specs.declared.rule.entry.Begun.{Begun}
use Rattle.papaya_map_book.specs.declared.rule.entry.Event.{Event}
use Rattle.papaya_map_change.specs.declared.insertion.Insertion.{Insertion}
use denote.Bor.{Bor}
use Rattle.papaya_map_change.specs.Changes.{IsPut}
use Rattle.papaya_map_lookup.specs.History.{history_of, key_of}
use Rattle.papaya_map_book.specs.Logs.{Stored}
use Rattle.papaya_map_book.specs.Limits.{HasNoRoom, IsSpent, tables_of}
use Rattle.papaya_call_law.specs.TrueAnswers.{IsOneOf}
use Rattle.papaya_map_change.specs.Writing.{HasKeyAt, IsMemoryCapacityOrLimit, IsWriting, answered as answered_writer, held_value}

-- If the machine has the number of a pair that the insertion made of its own key, then the
-- insertion holds that pair.
pub record HasOwn {K V : Type 0} (key : K) (value : V) (made : List (Stored K V))
    (machine : Option ℕ) (own : Option (Stored K V)) : Type 0 where
  pub there : (n : ℕ) → machine ≡ Some n → (q : Stored K V) × (own ≡ Some q) × (q.index ≡ n)
  pub is : (q : Stored K V) → own ≡ Some q → IsOneOf made q × (key_of q ≡ key)
      × (q.value.value ≡ value)

-- If the machine has the number of the last pair that the insertion made of a key that it met in a
-- slot, then the insertion holds that pair, and the slot still has this key.
pub record HasOf {K V S : Type 0} (value : V) (made : List (Stored K V)) (log : List (Event K V S))
    (machine : Option Of) (of : Option (Stored K V)) : Type 0 where
  pub there : (new : Of) → machine ≡ Some new → (q : Stored K V) × (of ≡ Some q)
      × (q.index ≡ new.pair) × HasKeyAt log new.table new.index (key_of q)
  pub is : (q : Stored K V) → of ≡ Some q → IsOneOf made q × (q.value.value ≡ value)

module _ {K V S H : Type 0} (eq : K → K → Bool) (hash : S → K → ℕ) (b : Begun K V S)
    (name : Book) where
  -- An insertion of this key and value is under way, with the pairs that it has made.
  pub record IsInserting (key : K) (value : V) (begun log : List (Event K V S))
      (x : Insertion K V S H) : Type 0 where
    pub made : List (Stored K V)
    pub writing : IsWriting eq hash b name key made begun log x.writer
    pub task_is : x.writer.call.machine.call.task ≡ Insert true
    pub value_is : (v : V) → held_value x.writer.value ≡ Some v → v ≡ value
    pub own_is : HasOwn key value made x.writer.call.machine.call.made.own x.own
    pub of_is : HasOf value made log x.writer.call.machine.call.made.of x.of
    pub put_is : (q : Stored K V) → x.writer.call.put ≡ Some q → q.value.value ≡ value
    pub refuses : (cause : Cause) → ask_of x.writer.call.machine ≡ Call (Done (Refused cause))
        → IsMemoryCapacityOrLimit cause
    pub crowded : ask_of x.writer.call.machine ≡ Call (Done (Refused Capacity))
        → HasNoRoom x.writer.call.machine.call.initial (tables_of log)
        x.writer.call.copier.given.done
    pub spent : ask_of x.writer.call.machine ≡ Call (Done (Refused Limit)) → IsSpent b.limit log

  -- The insertion after its machine was answered.
  abbrev pub answered : Insertion K V S H → Answer → Insertion K V S H
  answered x answer = record x { writer = answered_writer x.writer answer }

  -- The insertion has replied, or `answer` is an answer to what it asks.
  abbrev pub IsInsertingOn : K → V → List (Event K V S) → List (Event K V S) → Insertion K V S H
      → Option Answer → Type 0
  IsInsertingOn key value begun log x None = IsInserting key value begun log x
      × ((reply : Reply) × (ask_of x.writer.call.machine ≡ Call (Done reply)))
  IsInsertingOn key value begun log x (Some answer) =
      IsInserting key value begun log (answered x answer) × IsFit answer

  -- Some insertion is under way.
  abbrev pub CanInsert : List (Event K V S) → Insertion K V S H → Type 0
  CanInsert log x = (key : K) × (value : V) × (begun : List (Event K V S))
      × IsInserting key value begun log x

  -- Each insertion that was under way goes on with this answer.
  abbrev pub Inserts : List (Event K V S) → Insertion K V S H → List (Event K V S)
      → Insertion K V S H → Option Answer → Type 0
  Inserts log x log' x' answer = (key : K) (value : V) (begun : List (Event K V S))
      → IsInserting key value begun log x → IsInsertingOn key value begun log' x' answer

  -- Each insertion that was under way at the log `old` has put in its value by now, with this
  -- result.
  abbrev pub HasPutSince : List (Event K V S) → Insertion K V S H → List (Event K V S)
      → Option (Bor V) → Type 0
  HasPutSince old x log answer = (key : K) (value : V) (begun : List (Event K V S))
      → IsInserting key value begun old x → IsPut eq key value (history_of begun) (history_of log)
      answer

  -- Each insertion that is under way has put in its value, with this result.
  abbrev pub HasPut : List (Event K V S) → Insertion K V S H → Option (Bor V) → Type 0
  HasPut log x answer = (key : K) (value : V) (begun : List (Event K V S))
      → IsInserting key value begun log x → IsPut eq key value (history_of begun) (history_of log)
      answer

  -- Each insertion that was under way with `x` is under way at the log `log'` with `x'`.
  abbrev pub Continues : List (Event K V S) → Insertion K V S H → List (Event K V S)
      → Insertion K V S H → Type 0
  Continues log x log' x' = (key : K) (value : V) (begun : List (Event K V S))
      → IsInserting key value begun log x → IsInserting key value begun log' x'
