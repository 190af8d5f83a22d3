-- A whole call of the only caller.
use Rattle.std.specs.Prelude.{◌≡◌, ◌⊎◌, ℕ, Bool, [], ◌∷◌, Option, None}
use Rattle.papaya_call.specs.Answers.{Says}
use Rattle.papaya_call.specs.declared.call.Call.{Call}
use Rattle.papaya_call.specs.declared.call.Call.TheVariants.{Clear, Retain}
use Rattle.papaya_call.specs.declared.call.Reply.{Reply}
use Rattle.papaya_call.specs.declared.call.Reply.TheVariants.{Absent, Found, Inserted, Replaced, Occupied, Removed, Kept, Aborted, Done, Refused}
use Rattle.papaya_words.specs.declared.refused.Refused.TheVariants.{RemoveNothing}
use Rattle.papaya_core_timeline.specs.declared.trace.Turn.TheVariants.{Begin, Finish}
use Rattle.papaya_core_timeline.specs.declared.trace.Entry.{Entry}
use Rattle.papaya_core_timeline.specs.declared.trace.Event.TheVariants.{Replied}
use Rattle.papaya_core_timeline.specs.Core.{CoreState}
use Rattle.papaya_core_timeline.specs.Maps.{Map, Does, IsUpdateBy, Same, at_key, key_of}
use Rattle.papaya_core_timeline.specs.Runs.{History, TurnsRun}
use Rattle.papaya_core_store.specs.Store.{StoreState, Stored, pair_of}

-- The effect of a call on the finite map: the class of its key goes from `went` to `came`, which
-- may be the same, no other class changes, and the reply fits that.
pub record CallDoes {K V A : Type 0} (eq : K → K → Bool) (call : Call K V A) (m : Map K V)
    (reply : Reply) (m' : Map K V) : Type 0 where
  pub went : Option (Stored K V)
  pub came : Option (Stored K V)
  pub update : IsUpdateBy eq (key_of call) went came m m'
  pub does : Does call went reply came

-- for each key m' has what m has, or nothing
abbrev pub IsWithin : {K V : Type 0} → Map K V → Map K V → Type 0
IsWithin {K = K} m m' = (j : K) → (m' j ≡ m j) ⊎ (m' j ≡ None)

-- what a refused call leaves: the map as it was, or some of its pairs if it was a clear or a retain
abbrev pub IsLeftBy : {K V A : Type 0} → Call K V A → Map K V → Map K V → Type 0
IsLeftBy Clear m m' = IsWithin m m'
IsLeftBy (Retain a) m m' = IsWithin m m'
IsLeftBy _ m m' = Same m m'

-- what a call without a key leaves when it is done: a clear nothing, a retain some of the pairs,
-- and any other call the map as it was
abbrev pub IsDoneBy : {K V A : Type 0} → Call K V A → Map K V → Map K V → Type 0
IsDoneBy {K = K} Clear m m' = (j : K) → m' j ≡ None
IsDoneBy (Retain a) m m' = IsWithin m m'
IsDoneBy _ m m' = Same m m'

-- a refused call leaves the map as it was or some of its pairs, a call without a key leaves what
-- `IsDoneBy` says, and any other call does what it does to the finite map; `RemoveNothing` is given
-- only if the key is absent
abbrev pub IsAnswered : {K V A : Type 0} → (K → K → Bool) → Call K V A → Map K V → Reply → Map K V
    → Type 0
IsAnswered eq call m (Refused refused) m' = IsLeftBy call m m'
    × (refused ≡ RemoveNothing → Does call (at_key m (key_of call)) (Refused RemoveNothing)
    (at_key m (key_of call)))
IsAnswered eq call m Done m' = (key_of call ≡ None) × IsDoneBy call m m'
IsAnswered eq call m (Aborted t) m' = CallDoes eq call m (Aborted t) m'
IsAnswered eq call m Absent m' = CallDoes eq call m Absent m'
IsAnswered eq call m (Found n) m' = CallDoes eq call m (Found n) m'
IsAnswered eq call m (Inserted n) m' = CallDoes eq call m (Inserted n) m'
IsAnswered eq call m (Replaced o n) m' = CallDoes eq call m (Replaced o n) m'
IsAnswered eq call m (Occupied n) m' = CallDoes eq call m (Occupied n) m'
IsAnswered eq call m (Removed n) m' = CallDoes eq call m (Removed n) m'
IsAnswered eq call m (Kept n) m' = CallDoes eq call m (Kept n) m'

-- the pair that a call with this reply made has a number that no pair in the arena has
abbrev pub IsNewIn : {K V S : Type 0} → StoreState K V S → Reply → Type 0
IsNewIn store (Inserted n) = pair_of store n ≡ None
IsNewIn store (Replaced o n) = pair_of store n ≡ None
IsNewIn store _ = Unit {0}

-- closures that may return anything
abbrev pub whatever : {K V A : Type 0} → Says K V A
whatever = record { op = λ a shown answer a'. Unit {0}; yes = λ a key value agrees a'. Unit {0} }

-- The core has no callers, one caller begins this call, and the call gives this reply with the last
-- of some number of steps. Its closure may return anything.
pub record RunsAlone {K V S A : Type 0} (eq : K → K → Bool) (hash : S → K → ℕ)
    (s : CoreState K V S A) (call : Call K V A) (reply : Reply)
    (s' : CoreState K V S A) : Type 0 where
  pub idle : s.callers ≡ []
  pub steps : ℕ
  pub last : Entry
  pub before : History
  pub runs : TurnsRun eq whatever hash (Begin 0 call ∷ Finish 0 steps ∷ []) 2 s s' (last ∷ before)
  pub replied : last.event ≡ Replied reply
