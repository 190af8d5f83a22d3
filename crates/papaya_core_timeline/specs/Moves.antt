-- What one step does to the map.
use Rattle.std.specs.Prelude.{◌≡◌, ◌⊎◌, ℕ, Bool, Option, None, Some, [], ◌∷◌}
use Rattle.papaya_call.specs.declared.call.Call.{Call}
use Rattle.papaya_call.specs.declared.call.Reply.{Reply}
use Rattle.papaya_call.specs.Machine.{IsChanger}
use Rattle.papaya_call.specs.declared.answers.Operation.TheVariants as ops
use Rattle.papaya_call_law.specs.Relies.{change_of_reply}
use Rattle.papaya_core_store.specs.declared.pairs.Running.{Running}
use Rattle.papaya_core_timeline.specs.declared.seat.Work.TheVariants as works
use Rattle.papaya_core_timeline.specs.declared.trace.Event.{Event}
use Rattle.papaya_core_timeline.specs.declared.trace.Event.TheVariants.{Changed}
use Rattle.papaya_core_timeline.specs.Begins.{task_of_call}
use Rattle.papaya_core_timeline.specs.Content.{map_of}
use Rattle.papaya_core_timeline.specs.Callers.{scanning}
use Rattle.papaya_core_timeline.specs.Core.{CoreState, call_of}
use Rattle.papaya_core_timeline.specs.Maps.{Does, IsUpdate, IsUpdateBy, Same, key_of}
use Rattle.papaya_core_store.specs.Performs.{own_key}
use Rattle.papaya_core_store.specs.Store.{Stored}
use Rattle.papaya_core_timeline.specs.Intends.{Intends}
use Rattle.papaya_core_timeline.specs.Timeline.{IsFresh, number_in, operation_for}
use Rattle.papaya_call.specs.declared.chain.scanner.Scan.TheVariants.{Retain, Walk}
use Rattle.papaya_core_store.specs.declared.scans.Scanning.{Scanning}

module _ {K V S A : Type 0} (eq : K → K → Bool) (s : CoreState K V S A) (caller : ℕ)
    (s' : CoreState K V S A) where
  -- The step changes the class of the key of the caller's own call, as such a call may, and no
  -- other class.
  pub record IsOwnChange (old new : Option ℕ) : Type 0 where
    pub running_call : Running K V A
    pub is_running : call_of s caller ≡ Some running_call
    -- a lookup changes nothing
    pub changes : IsChanger running_call.machine.call.task
    -- the call is of the kind that its machine runs
    pub call : Call K V A
    pub task : task_of_call call ≡ Some running_call.machine.call.task
    pub own : own_key s.store running_call ≡ key_of call
    pub went : Option (Stored K V)
    pub came : Option (Stored K V)
    pub update : IsUpdateBy eq (key_of call) went came (map_of eq s) (map_of eq s')
    pub went_is : number_in went ≡ old
    pub came_is : number_in came ≡ new
    -- no pair of the map has the number of the pair that comes
    pub fresh : IsFresh came (map_of eq s ∷ [])
    pub reply : Reply
    pub does : Does call went reply came
    pub tells : change_of_reply reply ≡ Some (old, new)
    -- The pair that comes has the value that was passed in, or that the closure returned when it
    -- was called with what goes. If no pair comes, the closure returned that the pair which goes is
    -- to be removed.
    pub intended : Intends s.store (works.Call running_call) old (operation_for came)

  -- A clear or a retain removes the pair of number `old` from the map, and no other class changes.
  pub record IsTakenByScan (old new : Option ℕ) : Type 0 where
    pub scanner : Scanning A
    pub is_scanning : scanning s.callers caller ≡ Some scanner
    pub no_walk : scanner.scanner.scan ≡ Walk → ⊥
    pub pair : Stored K V
    pub update : IsUpdate eq pair.key (Some pair) None (map_of eq s) (map_of eq s')
    pub went_is : old ≡ Some pair.number
    pub came_is : new ≡ None
    -- if the call is a retain, its closure returned that the pair does not stay
    pub intended : scanner.scanner.scan ≡ Retain
        → Intends s.store (works.Scan scanner) (Some pair.number) ops.Remove

  -- a step whose event is a change of the map changes the class of its own call's key, or removes a
  -- pair that its call scans; every other step leaves the map as it is
  abbrev pub MovesMap : Event → Type 0
  MovesMap (Changed kind old new) = IsOwnChange old new ⊎ IsTakenByScan old new
  MovesMap _ = Same (map_of eq s) (map_of eq s')
