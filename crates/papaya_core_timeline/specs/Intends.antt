-- What a call under way would do to the class of a key, by the value that was passed in and by what
-- its closure returned. It changes the map in no other way.
use Rattle.std.specs.Prelude.{◌≡◌, ◌⊎◌, ℕ, Bool, true, false, Option, Some, None}
use Rattle.papaya_words.specs.Word.{pair_of as pair_in}
use Rattle.papaya_call.specs.declared.call.Call.{Call}
use Rattle.papaya_call.specs.declared.call.Task.{Task}
use Rattle.papaya_call.specs.declared.call.Task.TheVariants.{Insert, RemoveIf, Compute}
use Rattle.papaya_call.specs.Answers.{Says, op_kind}
use Rattle.papaya_call.specs.declared.answers.Operation.{Operation}
use Rattle.papaya_call.specs.declared.answers.Operation.TheVariants as ops
use Rattle.papaya_call.specs.declared.made.Made.{Made}
use Rattle.papaya_call.specs.declared.made.Of.{Of}
use Rattle.papaya_call.specs.declared.chain.scanner.ScannerState.{ScannerState}
use Rattle.papaya_call.specs.declared.chain.scanner.ScannerState.TheVariants.{Burying}
use Rattle.papaya_call.specs.declared.chain.scanner.Scan.TheVariants.{Retain}
use Rattle.papaya_call_law.specs.Says.{Agrees, Inserts, Makes, Removes, ActsOn}
use Rattle.papaya_core_store.specs.declared.pairs.Running.{Running}
use Rattle.papaya_core_store.specs.Performs.{own_value}
use Rattle.papaya_core_store.specs.Store.{StoreState, Stored, pair_of}
use Rattle.papaya_core_timeline.specs.declared.seat.Work.{Work}
use Rattle.papaya_core_timeline.specs.declared.seat.Work.TheVariants as works
use Rattle.papaya_core_timeline.specs.declared.trace.Event.{Event}
use Rattle.papaya_core_timeline.specs.declared.trace.Event.TheVariants.{Asked, Shown}
use Rattle.papaya_core_timeline.specs.Begins.{value_of_call}
use Rattle.papaya_core_timeline.specs.Core.{CoreState, work_of}
use Rattle.papaya_core_timeline.specs.Given.{GivesIn}

-- a scan is about to remove the pair of number n
abbrev pub TakesOut : ScannerState → ℕ → Type 0
TakesOut (Burying spot word) n = pair_in word ≡ n
TakesOut _ n = ⊥

-- an insertion made the pair of number n, of its own key or of a key that it met
abbrev pub HasMade : Made → ℕ → Type 0
HasMade made n = (made.own ≡ Some n) ⊎ ((of : Of) × (made.of ≡ Some of) × (of.pair ≡ n))

-- the pair of number n has the value v
abbrev pub HasValue : {K V S : Type 0} → StoreState K V S → ℕ → V → Type 0
HasValue {K = K} {V = V} store n v = (p : Stored K V) × (pair_of store n ≡ Some p) × (p.value ≡ v)

module _ {K V S A : Type 0} (store : StoreState K V S) where
  -- An insertion would store the value v, which was passed in: the call has this value, or a pair
  -- that it made has it.
  abbrev pub WouldStore : Running K V A → V → Type 0
  WouldStore r v = (own_value store r ≡ Some v)
      ⊎ ((n : ℕ) × HasMade r.machine.call.made n × HasValue store n v)

  -- A compute would store the value v, which its closure returned when it was called with `shown`:
  -- the call has this value, or a pair that it made has it.
  abbrev pub WouldStoreFor : Running K V A → Option ℕ → V → Type 0
  WouldStoreFor r shown v = (ActsOn r.machine.call (Inserts shown)
      × (own_value store r ≡ Some v))
      ⊎ ((n : ℕ) × ActsOn r.machine.call (Makes shown n) × HasValue store n v)

  abbrev pub IntendsAs : Task → Running K V A → Option ℕ → Operation V ℕ → Type 0
  IntendsAs (Insert replace) r shown (ops.Insert v) = WouldStore r v
  IntendsAs RemoveIf r (Some n) ops.Remove = ActsOn r.machine.call (Agrees n true)
  IntendsAs Compute r shown (ops.Insert v) = WouldStoreFor r shown v
  IntendsAs Compute r (Some n) ops.Remove = ActsOn r.machine.call (Removes n)
  IntendsAs _ _ _ _ = ⊥

  -- What is under way would do `op` if the class of its key has the pair `shown`, or none: store a
  -- value, or remove the pair. A retain would remove the pair from whatever class has it.
  abbrev pub Intends : Work K V A → (shown : Option ℕ) → Operation V ℕ → Type 0
  Intends (works.Call r) shown op = IntendsAs r.machine.call.task r shown op
  Intends (works.Scan v) (Some n) ops.Remove = (v.scanner.scan ≡ Retain)
      × TakesOut v.scanner.state n
  Intends _ _ _ = ⊥

module _ {K V A : Type 0} where
  -- what a closure returns to have the pair removed that it is called with: `true` for a removal,
  -- and `false` for a retain
  abbrev pub word_to_go : Work K V A → Bool
  word_to_go (works.Scan v) = false
  word_to_go _ = true

  -- the event says that the closure of `work` was called with `shown` and returned `op`
  abbrev pub IsAnswerIn : Event → Work K V A → Option ℕ → Operation V ℕ → Type 0
  IsAnswerIn (Shown asked kind) work shown op = (asked ≡ shown) × (op_kind op ≡ kind)
  IsAnswerIn (Asked n agrees) work shown op = (Some n ≡ shown) × (op ≡ ops.Remove)
      × (agrees ≡ word_to_go work)
  IsAnswerIn _ work shown op = ⊥

  -- the answers that its closure has left
  abbrev pub answers_left : Work K V A → Option A
  answers_left (works.Call r) = r.answers
  answers_left (works.Resize resizer) = None
  answers_left (works.Scan v) = v.answers

-- in this step the closure of `work` is called with `shown` and returns `op`
pub record AnswersNow {K V S A : Type 0} (says : Says K V A) (store : StoreState K V S)
    (event : Event) (work : Work K V A) (shown : Option ℕ) (op : Operation V ℕ) : Type 0 where
  pub told : IsAnswerIn event work shown op
  pub answers : A
  pub had : answers_left work ≡ Some answers
  pub left : A
  pub gives : GivesIn says store event (Some op) answers left

-- a call that begins would store the value that was passed in, and do nothing else
abbrev pub IntendsHanded : {K V S A : Type 0} → StoreState K V S → Call K V A → Work K V A → Type 0
IntendsHanded {V = V} store call work = (shown : Option ℕ) (op : Operation V ℕ)
    → Intends store work shown op → (v : V) × (op ≡ ops.Insert v) × (value_of_call call ≡ Some v)

-- Each call that is under way after a step was under way before it. What it would do after the step
-- it would have done before it, unless the call is the caller's own and its closure returned that
-- in this step.
abbrev pub KeepsIntents : {K V S A : Type 0} → Says K V A → CoreState K V S A → (caller : ℕ)
    → CoreState K V S A → Event → Type 0
KeepsIntents {K = K} {V = V} {A = A} says s caller s' event = (other : ℕ) (later : Work K V A)
    → work_of s' other ≡ Some later → (work : Work K V A) × (work_of s other ≡ Some work)
    × ((shown : Option ℕ) (op : Operation V ℕ) → Intends s'.store later shown op
    → Intends s.store work shown op
    ⊎ ((other ≡ caller) × AnswersNow says s'.store event work shown op))
