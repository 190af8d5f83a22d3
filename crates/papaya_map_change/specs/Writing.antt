-- A call on the shared map that inserts: what it holds and relies on, whatever its task.
use Rattle.std.specs.Prelude.{◌≡◌, ◌⊎◌, ℕ, ◌==◌, Bool, MatchBool, MatchOption, Option, None, Some, List, ◌∷◌}
use Rattle.logbook.specs.Pages.{Book}
use Rattle.papaya_words.specs.declared.refused.Refused.{Refused as Cause}
use Rattle.papaya_words.specs.declared.refused.Refused.TheVariants.{Capacity, Limit, Memory}
use Rattle.papaya_call.specs.declared.ask.Ask.{Ask}
use Rattle.papaya_call.specs.declared.ask.Answer.{Answer}
use Rattle.papaya_call.specs.declared.ask.Answer.TheVariants.{Found, Made, Ok as Ok_done, Refused, Word as Word_read}
use Rattle.papaya_call.specs.Machine.{IsFit}
use Rattle.papaya_call.specs.declared.chain.ask.Answer.TheVariants.{Call}
use Rattle.papaya_call.specs.ChainMachine.{after}
use Rattle.papaya_words_law.specs.Invariant.{named}
use Rattle.papaya_call_law.specs.Relies.{IsNumberAsk}
use Rattle.papaya_call_law.specs.TrueAnswers.{IsOneOf}
use Rattle.papaya_map_book.specs.declared.book.pairs.KeyPart.{KeyPart}
use Rattle.papaya_map_book.specs.declared.book.pairs.KeyPart.TheVariants as keys
use Rattle.papaya_map_book.specs.declared.book.pairs.ValuePart.{ValuePart}
use Rattle.papaya_map_book.specs.declared.book.pairs.ValuePart.TheVariants as values
use Rattle.papaya_map_book.specs.declared.rule.entry.Begun.{Begun}
use Rattle.papaya_map_book.specs.declared.rule.entry.Event.{Event}
use Rattle.papaya_map_book.specs.declared.rule.entry.Named.TheVariants.{Pair}
use Rattle.papaya_map_book.specs.declared.rule.own.CapacityCause.{CapacityCause}
use Rattle.papaya_map_change.specs.declared.writer.Writer.{Writer}
use Rattle.papaya_map_change.specs.Changing.{IsDriven}
use Rattle.papaya_map_lookup.specs.History.{key_of}
use Rattle.papaya_map_book.specs.Logs.{Stored, pair_named, state_of}
use Rattle.papaya_map_book.specs.Limits.{IsFull}
use Rattle.papaya_map_book.specs.PairParts.{key_in, value_in}
use Rattle.papaya_map_book.specs.Rule.{IsPlaced}

-- The pair from which a key is taken, or (in `IsValuePlaced`) a value, is stored in the arena.
abbrev pub IsKeyPlaced : {K V S : Type 0} → Begun K V S → Book → KeyPart K V → Type 0
IsKeyPlaced b name (keys.Own k) = Unit {0}
IsKeyPlaced b name (keys.Of p) = IsPlaced b (Some name) (Pair p)

abbrev pub IsValuePlaced : {K V S : Type 0} → Begun K V S → Book → ValuePart K V → Type 0
IsValuePlaced b name (values.Own v) = Unit {0}
IsValuePlaced b name (values.Of p) = IsPlaced b (Some name) (Pair p)

-- The call holds its key: as it was passed in, or as that of a pair that is stored in the arena.
abbrev pub HasKey : {K V S : Type 0} → Begun K V S → Book → (key : K) → Option (KeyPart K V)
    → Type 0
HasKey b name key part = MatchOption part ⊥ (λ own. (key_in own ≡ key) × IsKeyPlaced b name own)

-- The value of the pair that a call makes next, if it has one.
abbrev pub held_value : {K V : Type 0} → Option (ValuePart K V) → Option V
held_value None = None
held_value (Some part) = Some (value_in part)

-- If the call's value is that of a pair, this pair is stored in the arena.
abbrev pub HasValue : {K V S : Type 0} → Begun K V S → Book → Option (ValuePart K V) → Type 0
HasValue b name part = MatchOption part (Unit {0}) (λ own. IsValuePlaced b name own)

-- No pair was stored in the arena: memory or numbers ran out, or there was nothing to store.
abbrev pub IsNotStored : Answer → Type 0
IsNotStored answer = ((answer ≡ Refused Memory) ⊎ (answer ≡ Refused Capacity)) ⊎ (answer ≡ Ok_done)

-- The call after its machine was answered.
abbrev pub answered : {K V S H : Type 0} → Writer K V S H → Answer → Writer K V S H
answered w answer = record w {
  call = record w.call { machine = after w.call.machine (Call answer) };
}

-- Why a call is refused that stores no entry itself: memory or room ran out.
abbrev pub IsMemoryOrCapacity : Cause → Type 0
IsMemoryOrCapacity cause = (cause ≡ Memory) ⊎ (cause ≡ Capacity)

-- Why a call that stores entries is refused: memory or room ran out, or the limit on entries is
-- spent.
abbrev pub IsMemoryCapacityOrLimit : Cause → Type 0
IsMemoryCapacityOrLimit cause = IsMemoryOrCapacity cause ⊎ (cause ≡ Limit)

-- The closure played no part in this answer: if it is a refusal, memory ran out, or an arena that
-- is full returned this number.
abbrev pub IsWithoutResult : List CapacityCause → Answer → Type 0
IsWithoutResult given answer = (cause : Cause) → answer ≡ Refused cause → (cause ≡ Memory)
    ⊎ ((cause ≡ Capacity) × IsFull given)

module _ {K V S : Type 0} (log : List (Event K V S)) where
  -- If the machine asked how many numbers were taken for pairs, then the answer is that number.
  abbrev pub IsTakenCount : Ask → Answer → Type 0
  IsTakenCount ask answer = IsNumberAsk ask → (count : ℕ)
      → (answer ≡ Word_read count) ⊎ (answer ≡ Found count) → (state_of log).made ≡ count

  -- The pair that the slot names has exactly this key.
  abbrev pub HasKeyAt : (t x : ℕ) → K → Type 0
  HasKeyAt t x key = (p : Stored K V) × (named ((state_of log).slot t x) ≡ Some p) × (key_of p ≡ key)

  -- The pair `q` may replace this word of a slot: if the word is empty, `q` has the call's own key;
  -- if not, `q` has the key that is there.
  abbrev pub MayOverwrite : (key : K) → (t x old : ℕ) → Stored K V → Type 0
  MayOverwrite key t x old q = MatchBool (old == 0) (key_of q ≡ key) (HasKeyAt t x (key_of q))

module _ {K V S H : Type 0} (eq : K → K → Bool) (hash : S → K → ℕ) (b : Begun K V S)
    (name : Book) where
  -- A call by this key is under way, and has made these pairs.
  pub record IsWriting (key : K) (made : List (Stored K V)) (begun log : List (Event K V S))
      (w : Writer K V S H) : Type 0 where
    pub calling : IsDriven eq hash b name (eq key) (hash b.hasher key) (Some key) begun log made
        w.call
    pub keyed : HasKey b name key w.key
    pub valued : HasValue b name w.value
    pub put_placed : IsPlaced b (Some name) (pair_named w.call.put)

  -- `answer` is an answer to what the call asks.
  abbrev pub IsWritingOn : K → List (Stored K V) → List (Event K V S) → List (Event K V S)
      → Writer K V S H → Answer → Type 0
  IsWritingOn key made begun log w answer = IsWriting key made begun log (answered w answer)
      × IsFit answer

  -- Some such call is under way.
  abbrev pub CanWrite : List (Event K V S) → Writer K V S H → Type 0
  CanWrite log w = (key : K) × (made : List (Stored K V)) × (begun : List (Event K V S))
      × IsWriting key made begun log w

  -- Each such call that was under way goes on with this answer.
  abbrev pub Writes : List (Event K V S) → Writer K V S H → List (Event K V S) → Writer K V S H
      → Answer → Type 0
  Writes log w log' w' answer = (key : K) (made : List (Stored K V)) (begun : List (Event K V S))
      → IsWriting key made begun log w → IsWritingOn key made begun log' w' answer

  -- Each such call that was under way with `w` is under way at the log `log'` with `w'`.
  abbrev pub WritesOn : List (Event K V S) → Writer K V S H → List (Event K V S) → Writer K V S H
      → Type 0
  WritesOn log w log' w' = (key : K) (made : List (Stored K V)) (begun : List (Event K V S))
      → IsWriting key made begun log w → IsWriting key made begun log' w'

  -- Each such call has made this further pair.
  abbrev pub Pairs : List (Event K V S) → Writer K V S H → Writer K V S H → Stored K V → Type 0
  Pairs log w w' q = (key : K) (made : List (Stored K V)) (begun : List (Event K V S))
      → IsWriting key made begun log w → IsWritingOn key (q ∷ made) begun log w' (Made q.index)

  -- Some such call is under way that has made the pair `q`, which may replace this word of a slot.
  abbrev pub CanPut : List (Event K V S) → Writer K V S H → (t x old : ℕ) → Stored K V → Type 0
  CanPut log w t x old q = (key : K) × (made : List (Stored K V)) × (begun : List (Event K V S))
      × IsWriting key made begun log w × IsOneOf made q × MayOverwrite log key t x old q

  -- Each such call that was under way goes on with this answer.
  abbrev pub Puts : List (Event K V S) → Writer K V S H → (t x old : ℕ) → Stored K V
      → List (Event K V S) → Writer K V S H → Answer → Type 0
  Puts log w t x old q log' w' answer = (key : K) (made : List (Stored K V))
      (begun : List (Event K V S)) → IsWriting key made begun log w → IsOneOf made q
      → MayOverwrite log key t x old q → IsWritingOn key made begun log' w' answer
