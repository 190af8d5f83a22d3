-- A history with its maps, and how the calls under way relate to it.
use Rattle.std.proofs.Common.{◌≡◌, ℕ, ◌==◌, Bool, true, cond, Option, None, Some, List, [], ◌∷◌, ◌++◌}
use Rattle.papaya_words.specs.declared.resize_mode.ResizeMode.TheVariants.{Blocking}
use Rattle.papaya_call.specs.declared.call.Call.{Call}
use Rattle.papaya_call.specs.Answers.{Says}
use Rattle.papaya_words_law.specs.Exchange.{Exchange, Setting}
use Rattle.papaya_words_law.specs.Meaning.{map_of}
use Rattle.papaya_call.specs.declared.answers.Operation.TheVariants as ops
use Rattle.papaya_call.specs.declared.call.Call.TheVariants.{Get, Insert, TryInsert, RemoveIf, Compute, Reserve, CopyAll, Clear, Retain, Walk}
use Rattle.papaya_call_law.specs.Relies.{change_in}
use Rattle.papaya_call_law.specs.Says.{HasCalledNone, ClosureResult, Agrees, Inserts, Makes, Removes, NamesPairs, ActsOn}
use Rattle.papaya_call_law.specs.TrueAnswers.{IsOneOf}
use Rattle.papaya_core_store.specs.declared.pairs.Running.{Running}
use Rattle.papaya_core_timeline.specs.declared.trace.Turn.{Turn}
use Rattle.papaya_core_timeline.proofs.Begun.{the_task}
use Rattle.papaya_core_timeline.specs.Callers.{resizing, running, scanning}
use Rattle.papaya_call.specs.declared.chain.resizer.Resizer.{Resizer}
use Rattle.papaya_core_timeline.specs.Core.{CoreState, IsCore}
use Rattle.papaya_core_timeline.specs.Given.{AreGiven, HasLeft}
use Rattle.papaya_core_timeline.specs.Headline.{AreInArena, AreNew}
use Rattle.papaya_core_timeline.specs.Kept.{CallTrace, IsConsistent, ScanTrace, numbers_of, scan_trace, setting_of}
use Rattle.papaya_core_timeline.specs.Maps.{Map, at_key, key_of}
use Rattle.papaya_core_store.specs.Performs.{own_key, own_value}
use Rattle.papaya_core_store.specs.Store.{KeepsPairs, StoreState, Stored, pair_of}
use Rattle.papaya_core_timeline.specs.Runs.{History}
use Rattle.papaya_core_timeline.specs.Timeline.{Answered, open_call, change_of, given_by, last_asked}
use Rattle.papaya_core_timeline.specs.Timeline.{was_shown_none, AreSince, AtBegin, AtSomeMoment, OfEach}
use Rattle.papaya_core_timeline.specs.Timeline.{OfSome, WasAnswered, WasAsked, WereThere, IsUnused}
use Rattle.papaya_core_timeline.specs.Timeline.{Timeline}
use Rattle.papaya_call.specs.declared.chain.scanner.Scan.{Scan}
use Rattle.papaya_call.specs.declared.chain.scanner.Scan.TheVariants as scans
use Rattle.papaya_call_law.specs.ScanTaken.{IsTakenOut}
use Rattle.papaya_core_store.specs.declared.scans.Scanning.{Scanning}

-- a pair of the call has the value that was passed in; a pair of a compute has one that its closure
-- returned
abbrev pub IsValueOf : {K V A : Type 0} → Call K V A → V → Type 0
IsValueOf (Get k) v = ⊥
IsValueOf (Insert k w) v = w ≡ v
IsValueOf (TryInsert k w) v = w ≡ v
IsValueOf (RemoveIf k a) v = ⊥
IsValueOf (Compute k a) v = Unit {0}
IsValueOf (Reserve more) v = ⊥
IsValueOf CopyAll v = ⊥
IsValueOf Clear v = ⊥
IsValueOf (Retain a) v = ⊥
IsValueOf Walk v = ⊥

-- a call that resizes the map
abbrev pub IsResize : {K V A : Type 0} → Call K V A → Type 0
IsResize (Reserve more) = Unit {0}
IsResize CopyAll = Unit {0}
IsResize _ = ⊥

-- a call that scans a table so
abbrev pub IsScanOf : {K V A : Type 0} → Call K V A → Scan → Type 0
IsScanOf Clear scans.Clear = Unit {0}
IsScanOf (Retain a) scans.Retain = Unit {0}
IsScanOf Walk scans.Walk = Unit {0}
IsScanOf _ _ = ⊥

-- the last result that a closure returned for the pair of this number; the newest result is the
-- first
abbrev pub answer_about : {K V : Type 0} → List (Stored K V × Bool) → ℕ → Option Bool
answer_about [] n = None
answer_about (one ∷ older) n = cond (one.0.number == n) (Some one.1) (answer_about older n)

-- The state of a machine depends on a result that its closure returned in the call. A value that
-- was returned belongs to the call until a pair is made of it, and then to the pair.
abbrev pub WasReturned : {K V S A : Type 0} → StoreState K V S → Running K V A → ℕ → History → Answered V → ClosureResult → Type 0
WasReturned store r caller h said (Agrees n agrees) = WasAsked caller n agrees h
WasReturned {V = V} store r caller h said (Inserts shown) = (v : V) × (own_value store r ≡ Some v) × WasAnswered caller shown (ops.Insert v) h said
WasReturned {K = K} {V = V} store r caller h said (Makes shown n) = (q : Stored K V) × (pair_of store n ≡ Some q)
    × WasAnswered caller shown (ops.Insert q.value) h said
WasReturned store r caller h said (Removes n) = WasAnswered caller (Some n) ops.Remove h said

module _ {K V : Type 0} (eq : K → K → Bool) where
  -- the map m after these exchanges, whatever tables there are
  abbrev pub replayed : Map K V → List (Exchange (Stored K V)) → Map K V
  replayed m es = map_of (setting_of eq (λ k. 0) (record { resize = Blocking; limit = None }) []) m es

  -- the map that these exchanges leave, from the empty one
  abbrev pub replay : List (Exchange (Stored K V)) → Map K V
  replay es = replayed (λ k. None) es

  -- the setting in which it is replayed
  abbrev pub replaying : Setting K (Stored K V)
  replaying = setting_of eq (λ k. 0) (record { resize = Blocking; limit = None }) []

  -- each pair of the map is stored under its key's class
  abbrev pub IsKeyed : Map K V → Type 0
  IsKeyed m = (k : K) (p : Stored K V) → m k ≡ Some p → eq k p.key ≡ true

  -- The maps since a scanner took its table, or until now if it has none, and the exchanges since
  -- then, which leave these maps.
  pub record IsMaking (caller : ℕ) (call_trace : ScanTrace K V) (h : History) (maps : List (Map K V)) : Type 0 where
    pub since : List (Map K V)
    pub fs : List (Exchange (Stored K V))
    pub is : call_trace.loaded.before ++ fs ≡ call_trace.since
    pub are : AreSince caller h maps since
    pub there : WereThere caller h since
    pub keyed : OfEach IsKeyed since
    pub covers : (k : K) (so_far rest : List (Exchange (Stored K V))) → so_far ++ rest ≡ fs
        → OfSome (λ m. m k ≡ replayed (replay (call_trace.begun ++ call_trace.loaded.before)) so_far k) since

  module _ {S A : Type 0} where
    -- A call under way that scans a table, which began in the run, and the history of its caller.
    pub record IsScanTied (says : Says K V A) (store : StoreState K V S) (schedule : List (Turn K V A)) (v : Scanning A) (call : Call K V A)
        (caller : ℕ) (call_trace : ScanTrace K V) (h : History) (maps : List (Map K V)) (answers : Answered V) : Type 0 where
      pub scan : IsScanOf call v.scanner.scan
      pub unchanged : v.scanner.scan ≡ scans.Walk → change_of caller h ≡ None
      pub given : given_by caller h ≡ numbers_of call_trace.loaded.given
      pub asked : (n : ℕ) → last_asked caller n h ≡ answer_about call_trace.loaded.shown n
      -- the map as it began
      pub began : AtBegin (λ m. (k : K) → m k ≡ replay call_trace.begun k) caller h maps
      -- a key had this after some of the exchanges since the call began, so it had it at some point
      -- of the call
      pub moments : (k : K) (so_far rest : List (Exchange (Stored K V))) → so_far ++ rest ≡ call_trace.since
          → AtSomeMoment (λ m. at_key m (Some k) ≡ at_key (replayed (replay call_trace.begun) so_far) (Some k)) caller h maps
      -- a pair that its key had as the call began, and that was taken out since, has not come back
      pub gone : (k : K) (p : Stored K V) → replay call_trace.begun k ≡ Some p → IsTakenOut replaying call_trace.since k
          → replay (call_trace.begun ++ call_trace.since) k ≡ Some p → ⊥
      pub making : IsMaking caller call_trace h maps
      -- the remaining answers of its closure
      pub left : (a : A) → v.answers ≡ Some a → HasLeft says store schedule a caller h answers

    -- A call under way, which began in the run, and the history of its caller.
    pub record IsTied (store : StoreState K V S) (r : Running K V A) (call : Call K V A) (caller : ℕ) (call_trace : CallTrace K V) (h : History)
        (maps : List (Map K V)) (answers : Answered V) : Type 0 where
      pub own : K
      pub key : own_key store r ≡ Some own
      pub key_is : key_of call ≡ Some own
      pub task : r.machine.call.task ≡ the_task call
      -- the value that it has, and that of a pair that was made, is the call's
      pub value : (v : V) → own_value store r ≡ Some v → IsValueOf call v
      pub made : (q : Stored K V) → IsOneOf call_trace.loaded.call.made q → IsValueOf call q.value
      pub change : change_of caller h ≡ change_in r.machine.call.state
      -- the result on which its machine acts was returned by its closure in the call
      pub said : (said : ClosureResult) → ActsOn r.machine.call said → WasReturned store r caller h answers said
      pub shows : NamesPairs r.machine.call
      -- a closure that was called with `None` will not be called with it again
      pub once : was_shown_none caller h ≡ true → HasCalledNone r.machine.call.remembered.fill r.machine.call.state
      -- its key had this after some of the exchanges since the call began, so it had it at some
      -- point of the call
      pub moments : (so_far rest : List (Exchange (Stored K V))) → so_far ++ rest ≡ call_trace.since
          → AtSomeMoment (λ m. at_key m (key_of call) ≡ at_key (replayed (replay call_trace.begun) so_far) (key_of call)) caller h maps

    -- The history has a timeline of maps, the newest of which is the replay of all exchanges. Each
    -- call under way is related to it as its kind requires.
    pub record IsGood (says : Says K V A) (hash : K → ℕ) (schedule : List (Turn K V A)) (first : StoreState K V S) (start : Map K V)
        (s : CoreState K V S A) (h : History) : Type 0 where
      pub es : List (Exchange (Stored K V))
      pub call_traces : ℕ → CallTrace K V
      pub maps : List (Map K V)
      pub answers : Answered V
      pub core : IsCore s.store s.callers s.mode
      pub kept : IsConsistent eq hash s.mode s.store s.callers es call_traces
      pub timeline : Timeline eq schedule start h (replay es ∷ maps) answers
      pub logged : AreInArena s.store (replay es ∷ maps)
      pub given : AreGiven says s.store schedule h answers
      -- the remaining answers of the closures of the calls under way
      pub left : (caller : ℕ) (r : Running K V A) (call : Call K V A) → running s.callers caller ≡ Some r → open_call schedule caller h ≡ Some call
          → (a : A) → r.answers ≡ Some a → HasLeft says s.store schedule a caller h answers
      -- a call that resizes the map is of that kind, and changes none
      pub resized : (caller : ℕ) (z : Resizer) (call : Call K V A) → resizing s.callers caller ≡ Some z → open_call schedule caller h ≡ Some call
          → IsResize call × (change_of caller h ≡ None)
      pub scanned : (caller : ℕ) (v : Scanning A) (call : Call K V A) → scanning s.callers caller ≡ Some v → open_call schedule caller h ≡ Some call
          → IsScanTied says s.store schedule v call caller (scan_trace (call_traces caller)) h (replay es ∷ maps) answers
      -- the pairs of the arena as the run began are there; those stored since, and those made by
      -- calls that began since, are new
      pub kept_pairs : KeepsPairs first s.store
      pub fresh : AreNew first schedule h
      pub made_new : (caller : ℕ) (r : Running K V A) (call : Call K V A) → running s.callers caller ≡ Some r
          → open_call schedule caller h ≡ Some call → (q : Stored K V) → IsOneOf (call_traces caller).loaded.call.made q → pair_of first q.number ≡ None
      -- a pair that was made and is not written yet was in no map
      pub unused : (caller : ℕ) (r : Running K V A) → running s.callers caller ≡ Some r → (q : Stored K V)
          → IsOneOf (call_traces caller).loaded.call.made q → change_in r.machine.call.state ≡ None → IsUnused q.number (replay es ∷ maps)
      pub tied : (caller : ℕ) (r : Running K V A) (call : Call K V A) → running s.callers caller ≡ Some r → open_call schedule caller h ≡ Some call
          → IsTied s.store r call caller (call_traces caller) h (replay es ∷ maps) answers
