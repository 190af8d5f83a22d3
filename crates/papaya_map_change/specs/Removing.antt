-- A removal on the shared map: what it holds and relies on, and what it returns.
use Rattle.std.specs.Prelude.{◌≡◌, ℕ, Bool, Option, None, Some, Result, Ok, Err, List, []}
use mathlib.Core.List.{IsPrefix}
use denote.Bor.{Bor}
use Rattle.logbook.specs.Pages.{Book}
use Rattle.papaya_words.specs.declared.refused.Refused.{Refused}
use Rattle.papaya_words.specs.declared.refused.Refused.TheVariants.{Capacity}
use Rattle.papaya_call.specs.declared.ask.Answer.{Answer}
use Rattle.papaya_call.specs.declared.ask.Answer.TheVariants.{Yes}
use Rattle.papaya_call.specs.declared.ask.Ask.TheVariants.{Done}
use Rattle.papaya_call.specs.declared.call.Reply.{Reply}
use Rattle.papaya_call.specs.declared.call.Reply.TheVariants as reply
use Rattle.papaya_call.specs.declared.call.Task.TheVariants.{RemoveIf}
use Rattle.papaya_call.specs.Machine.{IsFit}
use Rattle.papaya_call.specs.declared.chain.ask.Answer.TheVariants as answers
use Rattle.papaya_call.specs.declared.chain.ask.Ask.TheVariants.{Call}
use Rattle.papaya_call.specs.ChainMachine.{after, ask_of}
use Rattle.papaya_call_law.specs.Says.{Agrees, NamesPairs, ActsOn}
use Rattle.papaya_map_book.specs.declared.rule.entry.Begun.{Begun}
use Rattle.papaya_map_book.specs.declared.rule.entry.Event.{Event}
use Rattle.papaya_map_book.specs.declared.rule.entry.Named.TheVariants.{Pair}
use Rattle.papaya_map_change.specs.declared.removal.Removal.{Removal}
use Rattle.papaya_map_change.specs.Changing.{IsDriven}
use Rattle.papaya_map_lookup.specs.History.{history_of}
use Rattle.papaya_map_book.specs.Logs.{Member, Stored, pair_named}
use Rattle.papaya_map_book.specs.Limits.{HasNoRoom, tables_of}
use Rattle.papaya_map_book.specs.Rule.{IsPlaced}
use Rattle.papaya_map_change.specs.ClosureCalls.{AllArguments, AreOf, HasReturned, WasHeld}
use Rattle.papaya_map_change.specs.Writing.{IsMemoryOrCapacity}

module _ {K V S H F : Type 0} (eq : K → K → Bool) (hash : S → K → ℕ) (b : Begun K V S) (name : Book)
    (matches : K → Bool) (fed : ℕ) (judges : F → Stored K V → Bool → F → Type 0) where
  -- A removal is under way, whose closure was `first` and is now `f`. If its machine relies on an
  -- answer of the closure, that was returned for the pair with which the closure was called last.
  pub record IsRemoving (first : F) (begun log : List (Event K V S)) (x : Removal K V S H)
      (f : F) : Type 0 where
    pub calling : IsDriven eq hash b name matches fed None begun log [] x.call
    pub task_is : x.call.machine.call.task ≡ RemoveIf
    pub words : NamesPairs x.call.machine.call
    pub shown_placed : IsPlaced b (Some name) (pair_named x.shown)
    pub said : List (Stored K V × Bool)
    pub has_said : HasReturned judges first said f
    pub held : AllArguments (λ p. WasHeld eq matches (history_of begun) (history_of log) (Some p)) said
    pub stood : (n : ℕ) (agrees : Bool) → ActsOn x.call.machine.call (Agrees n agrees)
        → (p : Stored K V) × (x.shown ≡ Some p) × (p.index ≡ n) × Member (p, agrees) said
    pub refuses : (cause : Refused) → ask_of x.call.machine ≡ Call (Done (reply.Refused cause))
        → IsMemoryOrCapacity cause
    pub crowded : ask_of x.call.machine ≡ Call (Done (reply.Refused Capacity))
        → HasNoRoom x.call.machine.call.initial (tables_of log) x.call.copier.given.done

  -- The removal after its machine was answered.
  abbrev pub answered : Removal K V S H → Answer → Removal K V S H
  answered x answer = record x {
    call = record x.call { machine = after x.call.machine (answers.Call answer) };
  }

  -- The removal has replied, or `answer` is an answer to what it asks.
  abbrev pub IsRemovingOn : F → List (Event K V S) → List (Event K V S) → Removal K V S H → F
      → Option Answer → Type 0
  IsRemovingOn first begun log x f None = IsRemoving first begun log x f
      × ((reply : Reply) × (ask_of x.call.machine ≡ Call (Done reply)))
  IsRemovingOn first begun log x f (Some answer) = IsRemoving first begun log (answered x answer) f
      × IsFit answer

  -- Some removal is under way.
  abbrev pub CanRemove : List (Event K V S) → Removal K V S H → F → Type 0
  CanRemove log x f = (first : F) × (begun : List (Event K V S)) × IsRemoving first begun log x f

  -- Each removal that was under way goes on with this answer.
  abbrev pub Removes : List (Event K V S) → Removal K V S H → F → List (Event K V S)
      → Removal K V S H → F → Option Answer → Type 0
  Removes log x f log' x' f' answer = (first : F) (begun : List (Event K V S))
      → IsRemoving first begun log x f → IsRemovingOn first begun log' x' f' answer

  -- A removal is under way that began no earlier than at the log `old`.
  abbrev pub IsUnderWay : F → List (Event K V S) → List (Event K V S) → Removal K V S H → F → Type 0
  IsUnderWay first old log x f = (begun : List (Event K V S)) × IsPrefix old begun
      × IsRemoving first begun log x f

-- The closure `f` was called with the pair last loaded, which the removal keeps. It returned what
-- `answer` states, and is `g` afterwards.
abbrev pub CallsClosure : {K V S H F : Type 0} → (F → Stored K V → Bool → F → Type 0) → Removal K V S H → F
    → Removal K V S H → F → Answer → Type 0
CallsClosure {K = K} {V = V} judges x f x' g answer = (p : Stored K V) × (agreed : Bool)
    × (x.call.copier.last ≡ Some p) × judges f p agreed g × (x' ≡ record x { shown = Some p })
    × (answer ≡ Yes agreed)

module _ {K V S H : Type 0} where
  -- A removal with this reply holds the pairs that its result needs: the one with which its closure
  -- was called, and the one that was removed, which has the same number.
  abbrev pub HoldsResult : Begun K V S → Book → Removal K V S H → Reply → Type 0
  HoldsResult b name x reply.Absent = Unit {0}
  HoldsResult b name x (reply.Refused cause) = Unit {0}
  HoldsResult b name x (reply.Kept n) = (shown : Stored K V) × (x.shown ≡ Some shown)
      × IsPlaced b (Some name) (Pair shown)
  HoldsResult b name x (reply.Removed n) = (shown : Stored K V) × (taken : Stored K V)
      × (x.shown ≡ Some shown) × (x.call.taken ≡ Some taken) × (shown.index ≡ taken.index)
      × IsPlaced b (Some name) (Pair shown) × IsPlaced b (Some name) (Pair taken)
  HoldsResult b name x _ = ⊥

  -- The result of a removal with this reply.
  abbrev pub IsRemovalResult : Removal K V S H → Reply
      → Result (Result (Option (Bor K × Bor V)) (Bor K × Bor V)) Refused → Type 0
  IsRemovalResult x reply.Absent answer = answer ≡ Ok (Ok None)
  IsRemovalResult x (reply.Refused cause) answer = answer ≡ Err cause
  IsRemovalResult x (reply.Kept n) answer = (shown : Stored K V) × (entry : Bor K × Bor V)
      × (x.shown ≡ Some shown) × AreOf entry shown × (answer ≡ Ok (Err entry))
  IsRemovalResult x (reply.Removed n) answer = (shown : Stored K V) × (taken : Stored K V)
      × (entry : Bor K × Bor V) × (x.shown ≡ Some shown) × (x.call.taken ≡ Some taken)
      × (shown.value ≡ taken.value) × AreOf entry taken × (answer ≡ Ok (Ok (Some entry)))
  IsRemovalResult x _ answer = ⊥
