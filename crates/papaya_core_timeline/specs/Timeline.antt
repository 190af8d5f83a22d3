-- What a trace says about the finite map: which maps there were, which changes were made, and which
-- replies were given. No definition here mentions a slot, a hash, a mark or a probe.
use Rattle.std.specs.Prelude.{◌≡◌, ◌≢◌, ℕ, ◌==◌, Bool, true, false, if◌then◌else◌, List, [], ◌∷◌, ◌++◌, Option, Some, None, IsSome, slice_get, ◌⊎◌}
use Rattle.papaya_words.specs.declared.refused.Refused.{Refused}
use Rattle.papaya_words.specs.declared.refused.Refused.TheVariants.{RemoveNothing}
use Rattle.papaya_call.specs.Answers.{op_kind}
use Rattle.papaya_call_law.specs.Relies.{Change, change_of_reply}
use Rattle.papaya_call.specs.declared.answers.Operation.{Operation}
use Rattle.papaya_call.specs.declared.answers.Operation.TheVariants as ops
use Rattle.papaya_call.specs.declared.ask.OpKind.{OpKind}
use Rattle.papaya_call.specs.declared.ask.OpKind.TheVariants as kinds
use Rattle.papaya_call.specs.declared.call.Call.{Call}
use Rattle.papaya_call.specs.declared.call.Call.TheVariants.{Get, Insert, TryInsert, RemoveIf, Compute, Reserve, CopyAll, Clear, Retain, Walk}
use Rattle.papaya_call.specs.declared.call.Reply.{Reply}
use Rattle.papaya_call.specs.declared.call.Reply.TheVariants.{Absent, Found, Inserted, Replaced, Occupied, Removed, Kept, Aborted, Done, Refused as Was_refused}
use Rattle.papaya_core_timeline.specs.declared.trace.Turn.{Turn}
use Rattle.papaya_core_timeline.specs.declared.trace.Turn.TheVariants.{Begin, Step, Finish}
use Rattle.papaya_core_timeline.specs.declared.trace.Entry.{Entry}
use Rattle.papaya_core_timeline.specs.declared.trace.Event.{Event}
use Rattle.papaya_core_timeline.specs.declared.trace.Event.TheVariants.{Begun, Changed, Asked, Shown, Gave, Replied}
use Rattle.papaya_core_timeline.specs.Runs.{History}
use Rattle.papaya_core_store.specs.Store.{Stored}
use Rattle.papaya_core_timeline.specs.Maps.{Map, Does, Same, IsUpdate, at_key, key_of}

-- the call that a turn begins, if it begins one
abbrev pub begun_by : {K V A : Type 0} → Option (Turn K V A) → Option (Call K V A)
begun_by None = None
begun_by (Some (Begin caller call)) = Some call
begun_by (Some (Step caller refuse)) = None
begun_by (Some (Finish caller steps)) = None

-- the open call of a caller after an event of its own, if `before` was open before it, and `begun`
-- is the call that its turn begins
abbrev pub open_after : {A : Type 0} → Event → Option A → Option A → Option A
open_after Begun begun before = begun
open_after (Replied reply) begun before = None
open_after _ begun before = before

-- the call that a caller has open after a history, if that call began in the history
abbrev pub open_call : {K V A : Type 0} → List (Turn K V A) → ℕ → History → Option (Call K V A)
open_call schedule caller [] = None
open_call schedule caller (e ∷ before) =
    if e.caller == caller
    then open_after e.event (begun_by (slice_get schedule e.turn))
    (open_call schedule caller before)
    else open_call schedule caller before

-- the change that an open call has made after an event, if `before` was its change until then;
-- `change_of` is that of a caller's open call after a history
abbrev pub change_by : Event → Change → Change
change_by Begun before = None
change_by (Changed kind old new) before = Some (old, new)
change_by (Replied reply) before = None
change_by _ before = before

abbrev pub change_of : ℕ → History → Change
change_of caller [] = None
change_of caller (e ∷ before) = if e.caller == caller
    then change_by e.event (change_of caller before) else change_of caller before

abbrev pub begins : Event → Bool
begins Begun = true
begins _ = false

-- whether the entry is the begin of a call of this caller
abbrev pub is_begin : ℕ → Entry → Bool
is_begin caller e = if e.caller == caller then begins e.event else false

-- P held of the map at some moment since the caller's call began: after the begin itself, or after
-- a later entry. `maps` has the map after each entry of the history, the newest first, and at the
-- end the map before the history.
abbrev pub AtSomeMoment : {K V : Type 0} → (Map K V → Type 0) → ℕ → History → List (Map K V)
    → Type 0
AtSomeMoment P caller [] maps = ⊥
AtSomeMoment P caller (e ∷ before) [] = ⊥
AtSomeMoment P caller (e ∷ before) (m ∷ maps) = P m
    ⊎ ((is_begin caller e ≡ false) × AtSomeMoment P caller before maps)

-- P held of the map when the caller's call began
abbrev pub AtBegin : {K V : Type 0} → (Map K V → Type 0) → ℕ → History → List (Map K V) → Type 0
AtBegin P caller [] maps = ⊥
AtBegin P caller (e ∷ before) [] = ⊥
AtBegin P caller (e ∷ before) (m ∷ maps) = ((is_begin caller e ≡ true) × P m)
    ⊎ ((is_begin caller e ≡ false) × AtBegin P caller before maps)

-- the numbers of the pairs that an open iteration has returned after an event, in order; `given_by`
-- has those that a caller's open call has returned after a history
abbrev pub given_then : Event → List ℕ → List ℕ
given_then Begun before = []
given_then (Gave n) before = before ++ n ∷ []
given_then (Replied reply) before = []
given_then _ before = before

abbrev pub given_by : ℕ → History → List ℕ
given_by caller [] = []
given_by caller (e ∷ before) = if e.caller == caller
    then given_then e.event (given_by caller before) else given_by caller before

-- what the closure of an open call returned when it was last called with the pair of number n,
-- after an event; `last_asked` is that of a caller's open call after a history
abbrev pub asked_then : ℕ → Event → Option Bool → Option Bool
asked_then n Begun before = None
asked_then n (Asked shown agrees) before = if shown == n then Some agrees else before
asked_then n (Replied reply) before = None
asked_then n _ before = before

abbrev pub last_asked : ℕ → ℕ → History → Option Bool
last_asked caller n [] = None
last_asked caller n (e ∷ before) = if e.caller == caller
    then asked_then n e.event (last_asked caller n before) else last_asked caller n before

-- during the caller's call, its closure was called with the pair of number n and returned `agrees`
abbrev pub WasAsked : ℕ → ℕ → Bool → History → Type 0
WasAsked caller n agrees [] = ⊥
WasAsked caller n agrees (e ∷ before) = ((e.caller ≡ caller) × (e.event ≡ Asked n agrees))
    ⊎ ((is_begin caller e ≡ false) × WasAsked caller n agrees before)

-- during the caller's call, its closure was called with the pair of this number, or with None, and
-- returned an operation of this kind
abbrev pub WasShown : ℕ → Option ℕ → OpKind → History → Type 0
WasShown caller shown kind [] = ⊥
WasShown caller shown kind (e ∷ before) = ((e.caller ≡ caller) × (e.event ≡ Shown shown kind))
    ⊎ ((is_begin caller e ≡ false) × WasShown caller shown kind before)

-- during the call, its closure was called with the pair of number n, and what it returned is to
-- remove that pair
abbrev pub WouldRemove : {K V A : Type 0} → Call K V A → ℕ → ℕ → History → Type 0
WouldRemove (RemoveIf k a) caller n before = WasAsked caller n true before
WouldRemove (Compute k a) caller n before = WasShown caller (Some n) kinds.Remove before
WouldRemove _ caller n before = ⊥

-- What closures returned with each entry of a history, the newest first: an operation with its
-- value, or None if no closure returned an operation.
abbrev pub Answered : Type 0 → Type 0
Answered V = List (Option (Operation V ℕ))

-- a closure returns an operation in a `Shown` event, which has its kind, and in no other event
abbrev pub IsAnsweredIn : {V : Type 0} → Event → Option (Operation V ℕ) → Type 0
IsAnsweredIn {V = V} (Shown n kind) answered = (op : Operation V ℕ) × (answered ≡ Some op)
    × (op_kind op ≡ kind)
IsAnsweredIn _ answered = answered ≡ None

-- during the caller's call, its closure was called with the pair of this number, or with None, and
-- returned the operation `op`
abbrev pub WasAnswered : {V : Type 0} → ℕ → Option ℕ → Operation V ℕ → History → Answered V → Type 0
WasAnswered caller shown op [] said = ⊥
WasAnswered caller shown op (e ∷ before) [] = ⊥
WasAnswered caller shown op (e ∷ before) (o ∷ said) =
    ((e.caller ≡ caller) × (e.event ≡ Shown shown (op_kind op)) × (o ≡ Some op))
    ⊎ ((is_begin caller e ≡ false) × WasAnswered caller shown op before said)

-- what the closure of an open call was last called with, and the kind of operation that it
-- returned, after an event; `last_shown` is that of a caller's open call after a history
abbrev pub shown_by : Event → Option (Option ℕ × OpKind) → Option (Option ℕ × OpKind)
shown_by Begun before = None
shown_by (Shown shown kind) before = Some (shown, kind)
shown_by (Replied reply) before = None
shown_by _ before = before

abbrev pub last_shown : ℕ → History → Option (Option ℕ × OpKind)
last_shown caller [] = None
last_shown caller (e ∷ before) = if e.caller == caller
    then shown_by e.event (last_shown caller before) else last_shown caller before

-- whether a closure is called with None now or was before; `was_shown_none` is that of a caller's
-- open call after a history
abbrev pub is_none : Option ℕ → Bool → Bool
is_none None before = true
is_none (Some n) before = before

abbrev pub none_by : Event → Bool → Bool
none_by Begun before = false
none_by (Shown shown kind) before = is_none shown before
none_by (Replied reply) before = false
none_by _ before = before

abbrev pub was_shown_none : ℕ → History → Bool
was_shown_none caller [] = false
was_shown_none caller (e ∷ before) = if e.caller == caller
    then none_by e.event (was_shown_none caller before) else was_shown_none caller before

-- a closure is called with None at most once
abbrev pub IsShownOnce : Option ℕ → Bool → Type 0
IsShownOnce None already = already ≡ false
IsShownOnce (Some n) already = Unit {0}

-- the map has a pair of number n
abbrev pub HasNumber : {K V : Type 0} → ℕ → Map K V → Type 0
HasNumber {K = K} {V = V} n m = (k : K) × (p : Stored K V) × (m k ≡ Some p) × (p.number ≡ n)

-- none of these maps has a pair of number n
abbrev pub IsUnused : {K V : Type 0} → ℕ → List (Map K V) → Type 0
IsUnused n [] = Unit {0}
IsUnused {K = K} {V = V} n (m ∷ maps) = ((j : K) (p : Stored K V) → m j ≡ Some p → p.number ≢ n)
    × IsUnused n maps

-- the number of a pair, if there is one
abbrev pub number_in : {K V : Type 0} → Option (Stored K V) → Option ℕ
number_in None = None
number_in (Some p) = Some p.number

-- P holds of one of these maps
abbrev pub OfSome : {K V : Type 0} → (Map K V → Type 0) → List (Map K V) → Type 0
OfSome P [] = ⊥
OfSome P (m ∷ maps) = P m ⊎ OfSome P maps

-- P holds of each of them
abbrev pub OfEach : {K V : Type 0} → (Map K V → Type 0) → List (Map K V) → Type 0
OfEach P [] = Unit {0}
OfEach P (m ∷ maps) = P m × OfEach P maps

-- the newest of these maps has the pair p at the key k
abbrev pub HasNow : {K V : Type 0} → List (Map K V) → K → Stored K V → Type 0
HasNow [] k p = ⊥
HasNow (m ∷ maps) k p = m k ≡ Some p

-- one of these maps has a pair of number n at the key k
abbrev pub HadNumber : {K V : Type 0} → K → List (Map K V) → ℕ → Type 0
HadNumber k maps n = OfSome (λ m. number_in (m k) ≡ Some n) maps

-- none of these numbers is that of a pair which one of the maps has at the key k
abbrev pub IsGivenNever : {K V : Type 0} → K → List (Map K V) → List ℕ → Type 0
IsGivenNever k maps [] = Unit {0}
IsGivenNever k maps (n ∷ more) = (HadNumber k maps n → ⊥) × IsGivenNever k maps more

-- exactly one of these numbers is that of a pair which one of the maps has at the key k
abbrev pub IsGivenOnce : {K V : Type 0} → K → List (Map K V) → List ℕ → Type 0
IsGivenOnce k maps [] = ⊥
IsGivenOnce k maps (n ∷ more) = (HadNumber k maps n × IsGivenNever k maps more)
    ⊎ ((HadNumber k maps n → ⊥) × IsGivenOnce k maps more)

-- the pair that comes, if one does, has a number that no pair of these maps has
abbrev pub IsFresh : {K V : Type 0} → Option (Stored K V) → List (Map K V) → Type 0
IsFresh None maps = Unit {0}
IsFresh (Some q) maps = IsUnused q.number maps

-- the operation after which a class has this pair, or none: an insertion of its value, or a removal
abbrev pub operation_for : {K V : Type 0} → Option (Stored K V) → Operation V ℕ
operation_for None = ops.Remove
operation_for (Some q) = ops.Insert q.value

-- A removal removes a pair only after its closure was called with it and returned `true`. A compute
-- stores or removes a pair only after its closure was called with exactly what goes, a pair or
-- None, and returned that operation, with the value of the pair that comes. A retain removes a pair
-- only if its closure returned `false` when it was last called with it.
abbrev pub IsAgreed : {K V A : Type 0} → Option (Call K V A) → ℕ → (old : Option ℕ)
    → (came : Option (Stored K V)) → History → Answered V → Type 0
IsAgreed None caller old came before said = Unit {0}
IsAgreed (Some (Get k)) caller old came before said = Unit {0}
IsAgreed (Some (Insert k v)) caller old came before said = Unit {0}
IsAgreed (Some (TryInsert k v)) caller old came before said = Unit {0}
IsAgreed (Some (RemoveIf k a)) caller None came before said = ⊥
IsAgreed (Some (RemoveIf k a)) caller (Some n) came before said = WasAsked caller n true before
IsAgreed (Some (Compute k a)) caller old came before said =
    WasAnswered caller old (operation_for came) before said
IsAgreed (Some (Reserve more)) caller old came before said = Unit {0}
IsAgreed (Some CopyAll) caller old came before said = Unit {0}
IsAgreed (Some Clear) caller old came before said = Unit {0}
IsAgreed (Some (Retain a)) caller None came before said = ⊥
IsAgreed (Some (Retain a)) caller (Some n) came before said =
    last_asked caller n before ≡ Some false
IsAgreed (Some Walk) caller old came before said = Unit {0}

module _ {K V : Type 0} where
  -- `since` has the maps since some moment of the caller's call, the newest first, and the call had
  -- returned no pair until that moment. Once an iteration has ended, one such moment is when it was
  -- made.
  abbrev pub AreSince : ℕ → History → List (Map K V) → (since : List (Map K V)) → Type 0
  AreSince caller [] maps since = ⊥
  AreSince caller (e ∷ before) [] since = ⊥
  AreSince caller (e ∷ before) (m ∷ maps) since =
      ((given_by caller (e ∷ before) ≡ []) × (since ≡ m ∷ []))
      ⊎ ((is_begin caller e ≡ false) × ((earlier : List (Map K V)) × (since ≡ m ∷ earlier)
      × AreSince caller before maps earlier))

  -- each pair that the caller's call returned since then was in one of these maps before it was
  -- returned
  abbrev pub WereThere : ℕ → History → (since : List (Map K V)) → Type 0
  WereThere caller before [] = Unit {0}
  WereThere caller [] (m ∷ since) = Unit {0}
  WereThere caller (e ∷ before) (m ∷ since) =
      ((n : ℕ) → e.caller ≡ caller → e.event ≡ Gave n → OfSome (HasNumber n) since)
      × WereThere caller before since

  -- The end of an iteration. There is a moment of the call, before which it returned no pair, such
  -- that each pair that it returned was in the map between that moment and its return, and for each
  -- key that has had a pair ever since that moment exactly one pair was returned.
  abbrev pub HasWalked : ℕ → History → List (Map K V) → Type 0
  HasWalked caller before maps = (since : List (Map K V)) × AreSince caller before maps since
      × WereThere caller before since
      × ((k : K) → OfEach (λ m. IsSome (m k)) since → IsGivenOnce k since (given_by caller before))

  -- the end of a clear: no pair that the map had when the call began is in the map
  abbrev pub HasCleared : ℕ → History → List (Map K V) → Type 0
  HasCleared caller before maps = AtBegin
      (λ first. (k : K) (p : Stored K V) → first k ≡ Some p → HasNow maps k p → ⊥) caller before maps

  -- the end of a retain: if a pair that the map had when the call began is still in the map, the
  -- closure returned `true` when it was last called with that pair
  abbrev pub HasRetained : ℕ → History → List (Map K V) → Type 0
  HasRetained caller before maps = AtBegin (λ first. (k : K) (p : Stored K V) → first k ≡ Some p
      → HasNow maps k p → last_asked caller p.number before ≡ Some true) caller before maps

module _ {K V A : Type 0} (eq : K → K → Bool) where
  -- A call on a key changes only the class of its own key, once, and as such a call does. A clear
  -- and a retain remove one pair at a time, and the other calls without a key change nothing.
  -- Nothing is required here of a call that began before the run.
  abbrev pub MayChange : Option (Call K V A) → Change → K → Option (Stored K V)
      → Option (Stored K V) → Type 0
  MayChange None made k old new = Unit {0}
  MayChange (Some Clear) made k old new = IsSome old × (new ≡ None)
  MayChange (Some (Retain a)) made k old new = IsSome old × (new ≡ None)
  MayChange (Some call) made k old new = (key_of call ≡ Some k) × (made ≡ None)
      × ((reply : Reply) × Does call old reply new
      × (change_of_reply reply ≡ Some (number_in old, number_in new)))

  -- the call made no change, and this is its reply for the map at some moment since it began
  abbrev pub IsAnswer : Call K V A → Reply → ℕ → History → List (Map K V) → Type 0
  IsAnswer call reply caller before maps = (change_of caller before ≡ None)
      × AtSomeMoment (λ m. Does call (at_key m (key_of call)) reply (at_key m (key_of call)))
      caller before maps

  -- the closure of the call was last called with `shown` and returned an operation of this kind; at
  -- some moment since the call began, the class of its key had `shown`, for which the call gives
  -- this reply
  abbrev pub WasLastShown : Call K V A → Reply → Option ℕ → OpKind → ℕ → History → List (Map K V)
      → Type 0
  WasLastShown call reply shown kind caller before maps =
      (last_shown caller before ≡ Some (shown, kind))
      × AtSomeMoment (λ m. (number_in (at_key m (key_of call)) ≡ shown)
      × Does call (at_key m (key_of call)) reply (at_key m (key_of call))) caller before maps

  -- a refused call made no change, except that a clear or a retain may have removed pairs
  abbrev pub IsUnchanged : Call K V A → Change → Type 0
  IsUnchanged Clear made = Unit {0}
  IsUnchanged (Retain a) made = Unit {0}
  IsUnchanged call made = made ≡ None

  -- a refused call made no such change; if it is refused with `RemoveNothing`, its closure was last
  -- called with None and returned a removal
  abbrev pub FitsRefused : Call K V A → Refused → ℕ → History → List (Map K V) → Type 0
  FitsRefused call refused caller before maps = IsUnchanged call (change_of caller before)
      × (refused ≡ RemoveNothing → WasLastShown call (Was_refused RemoveNothing) None kinds.Remove
      caller before maps)

  -- a call without a key replies `Done`: a clear and a retain have done their work, and an
  -- iteration and a call that resizes the map have made no change
  abbrev pub FitsDone : Call K V A → ℕ → History → List (Map K V) → Type 0
  FitsDone Clear caller before maps = HasCleared caller before maps
  FitsDone (Retain a) caller before maps = HasRetained caller before maps
  FitsDone Walk caller before maps = (change_of caller before ≡ None)
      × HasWalked caller before maps
  FitsDone call caller before maps = (key_of call ≡ None) × (change_of caller before ≡ None)

  -- a reply fits the call, its changes and the maps since it began
  abbrev pub Fits : Call K V A → Reply → ℕ → History → List (Map K V) → Type 0
  Fits call (Inserted n) caller before maps = change_of caller before ≡ Some (None, Some n)
  Fits call (Replaced m n) caller before maps = change_of caller before ≡ Some (Some m, Some n)
  Fits call Absent caller before maps = IsAnswer call Absent caller before maps
  Fits call (Found n) caller before maps = IsAnswer call (Found n) caller before maps
  Fits call (Occupied n) caller before maps = IsAnswer call (Occupied n) caller before maps
  Fits call (Removed n) caller before maps = (change_of caller before ≡ Some (Some n, None))
      × WouldRemove call caller n before
  Fits call (Kept n) caller before maps = IsAnswer call (Kept n) caller before maps
      × WasAsked caller n false before
  Fits call (Aborted t) caller before maps = (change_of caller before ≡ None)
      × ((shown : Option ℕ) × WasLastShown call (Aborted t) shown (kinds.Abort t) caller before
      maps)
  Fits call Done caller before maps = FitsDone call caller before maps
  Fits call (Was_refused refused) caller before maps = FitsRefused call refused caller before maps

  abbrev pub FitsOpen : Option (Call K V A) → Reply → ℕ → History → List (Map K V) → Type 0
  FitsOpen None reply caller before maps = Unit {0}
  FitsOpen (Some call) reply caller before maps = Fits call reply caller before maps

  -- a closure is called with what the class of its call's key had at some moment since the call
  -- began, and with None at most once
  abbrev pub FitsShown : Option (Call K V A) → Option ℕ → ℕ → History → List (Map K V) → Type 0
  FitsShown None shown caller before maps = Unit {0}
  FitsShown (Some call) shown caller before maps =
      AtSomeMoment (λ m. number_in (at_key m (key_of call)) ≡ shown) caller before maps
      × IsShownOnce shown (was_shown_none caller before)

  -- the closure of a retain is called with a pair that the map had at some moment since the call
  -- began, and that of another call with a pair that the class of its key had at such a moment
  abbrev pub FitsAsked : Option (Call K V A) → ℕ → ℕ → History → List (Map K V) → Type 0
  FitsAsked (Some (Retain a)) n caller before maps = AtSomeMoment (HasNumber n) caller before maps
  FitsAsked call n caller before maps = FitsShown call (Some n) caller before maps

  -- only an iteration returns pairs, and only such as the map had at some moment since it began
  abbrev pub FitsGiven : Option (Call K V A) → ℕ → ℕ → History → List (Map K V) → Type 0
  FitsGiven None n caller before maps = Unit {0}
  FitsGiven (Some Walk) n caller before maps = AtSomeMoment (HasNumber n) caller before maps
  FitsGiven (Some call) n caller before maps = ⊥

  -- A change of one class. The pair that goes and the pair that comes have the numbers `old` and
  -- `new`, and the number of the one that comes is new. The caller's open call may make this
  -- change, and its closure, if it has one, returned it.
  pub record IsChange (schedule : List (Turn K V A)) (caller : ℕ) (before : History) (m : Map K V)
      (maps : List (Map K V)) (m' : Map K V) (said : Answered V) (old new : Option ℕ) : Type 0 where
    pub key : K
    pub went : Option (Stored K V)
    pub came : Option (Stored K V)
    pub update : IsUpdate eq key went came m m'
    pub went_is : number_in went ≡ old
    pub came_is : number_in came ≡ new
    pub fresh : IsFresh came (m ∷ maps)
    pub may : MayChange (open_call schedule caller before) (change_of caller before) key went came
    pub agreed : IsAgreed (open_call schedule caller before) caller old came before said

  -- an event is legal after the history `before`, with the maps so far and what closures returned,
  -- and leads from the map m to the map m'
  abbrev pub IsLegal : Event → List (Turn K V A) → ℕ → History → Map K V → List (Map K V) → Map K V
      → Answered V → Type 0
  IsLegal (Changed kind old new) schedule caller before m maps m' said =
      IsChange schedule caller before m maps m' said old new
  IsLegal (Asked n agrees) schedule caller before m maps m' said = Same m m'
      × FitsAsked (open_call schedule caller before) n caller before (m ∷ maps)
  IsLegal (Shown n kind) schedule caller before m maps m' said = Same m m'
      × FitsShown (open_call schedule caller before) n caller before (m ∷ maps)
  IsLegal (Gave n) schedule caller before m maps m' said = Same m m'
      × FitsGiven (open_call schedule caller before) n caller before (m ∷ maps)
  IsLegal (Replied reply) schedule caller before m maps m' said = Same m m'
      × FitsOpen (open_call schedule caller before) reply caller before (m ∷ maps)
  IsLegal _ schedule caller before m maps m' said = Same m m'

  -- a legal timeline of a history from the map `start` on: the maps, one for each moment, and what
  -- closures returned, one for each entry, the newest first
  abbrev pub Timeline : List (Turn K V A) → Map K V → History → List (Map K V) → Answered V → Type 0
  Timeline schedule start [] [] said = ⊥
  Timeline schedule start [] (m ∷ []) [] = Same start m
  Timeline schedule start [] (m ∷ []) (answered ∷ said) = ⊥
  Timeline schedule start [] (m ∷ m0 ∷ maps) said = ⊥
  Timeline schedule start (e ∷ before) [] said = ⊥
  Timeline schedule start (e ∷ before) (m ∷ []) said = ⊥
  Timeline schedule start (e ∷ before) (m ∷ m0 ∷ maps) [] = ⊥
  Timeline schedule start (e ∷ before) (m ∷ m0 ∷ maps) (answered ∷ said) =
      IsLegal e.event schedule e.caller before m0 maps m said × IsAnsweredIn e.event answered
      × Timeline schedule start before (m0 ∷ maps) said
