-- The results of computes on the shared map.
use Rattle.std.specs.Prelude.{◌≡◌, ◌⊎◌, Bool, true, false, Option, None, Some, Result, Ok, Err, List}
use Rattle.papaya_words.specs.declared.refused.Refused.{Refused}
use Rattle.papaya_words.specs.declared.refused.Refused.TheVariants.{RemoveNothing}
use Rattle.papaya_call.specs.declared.answers.Operation.{Operation}
use Rattle.papaya_call.specs.declared.answers.Operation.TheVariants as operation
use Rattle.papaya_call.specs.Machine.{after}
use Rattle.papaya_words_keys.specs.declared.results.Compute.{Compute as Computed}
use Rattle.papaya_words_keys.specs.declared.results.Compute.TheVariants.{Inserted, Updated, Removed, Aborted}
use Rattle.papaya_map_change.specs.Changes.{IsChangeOf}
use Rattle.papaya_map_lookup.specs.History.{Change, key_of}
use Rattle.papaya_map_book.specs.Logs.{Member, Stored}
use Rattle.papaya_map_change.specs.ClosureCalls.{AllArguments, AreOf, HasReturned, IsNoneOnce, IsSamePair, WasHeld, WasLast}
use Rattle.papaya_map_change.specs.Writing.{IsMemoryCapacityOrLimit}

-- Whether the compute changed the map.
abbrev pub changes : {K V T : Type 0} → Result (Computed K V T) Refused → Bool
changes (Ok (Inserted k v)) = true
changes (Ok (Updated before after)) = true
changes (Ok (Removed k v)) = true
changes (Ok (Aborted with)) = false
changes (Err refused) = false

-- A compute is refused as an insertion is; or with `RemoveNothing`, because its closure was called
-- with `None` last and returned `Remove`.
abbrev pub IsRefusedBy : {K V T : Type 0} → List (Option (Stored K V) × Operation V T) → Refused
    → Type 0
IsRefusedBy said refused = IsMemoryCapacityOrLimit refused ⊎ ((refused ≡ RemoveNothing)
    × WasLast None operation.Remove said)

module _ {K V T : Type 0} (eq : K → K → Bool) (key : K)
    (old new : List (Change K (Stored K V))) where
  -- The closure was called with this very entry, and returned `done`.
  abbrev pub WasOperated : Stored K V → Operation V T → List (Option (Stored K V) × Operation V T)
      → Type 0
  WasOperated p done said = (shown : Stored K V) × IsSamePair shown p
      × Member (Some shown, done) said

  -- The result of a compute, by the calls of its closure in `said`. The value of a new entry was
  -- returned by a call with the very entry that it replaces, whose key stays. If it replaces none,
  -- its value was returned by a call with `None`, and it has the key that was passed in. Removals
  -- and aborts are likewise what the closure returned.
  abbrev pub IsOperated : List (Option (Stored K V) × Operation V T)
      → Result (Computed K V T) Refused → Type 0
  IsOperated said (Ok (Inserted k v)) = (q : Stored K V) × IsChangeOf (eq key) old new None (Some q)
      × (key_of q ≡ key) × Member (None, operation.Insert q.value.value) said × AreOf (k, v) q
  IsOperated said (Ok (Updated before after)) = (p : Stored K V) × (q : Stored K V)
      × IsChangeOf (eq key) old new (Some p) (Some q) × (key_of q ≡ key_of p)
      × WasOperated p (operation.Insert q.value.value) said × AreOf before p × AreOf after q
  IsOperated said (Ok (Removed k v)) = (p : Stored K V) × IsChangeOf (eq key) old new (Some p) None
      × WasOperated p operation.Remove said × AreOf (k, v) p
  IsOperated said (Ok (Aborted t)) = (held : Option (Stored K V))
      × WasLast held (operation.Abort t) said
  IsOperated said (Err refused) = IsRefusedBy said refused

  -- The result of a compute whose closure was `first`. Whatever the closure was called with, an
  -- entry or `None`, the map had for the key in some history between the two. It was called with
  -- `None` at most once.
  pub record IsComputeBy {F : Type 0} (operates : F → Option (Stored K V) → Operation V T → F
      → Type 0) (first : F) (answer : Result (Computed K V T) Refused) : Type 0 where
    pub said : List (Option (Stored K V) × Operation V T)
    pub left : F
    pub has_said : HasReturned operates first said left
    pub held : AllArguments (WasHeld eq (eq key) old new) said
    pub none_once : IsNoneOnce said
    pub operated : IsOperated said answer
