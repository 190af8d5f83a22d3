-- The results of removals on the shared map.
use Rattle.std.specs.Prelude.{◌≡◌, Bool, true, false, Option, None, Some, Result, Ok, Err, List}
use denote.Bor.{Bor}
use Rattle.papaya_words.specs.declared.refused.Refused.{Refused}
use Rattle.papaya_map_change.specs.Changes.{IsChangeOf}
use Rattle.papaya_map_lookup.specs.History.{Change}
use Rattle.papaya_map_book.specs.Logs.{Member, Stored}
use Rattle.papaya_map_change.specs.ClosureCalls.{AllArguments, AreOf, HasReturned, WasHeld, WasReturned}
use Rattle.papaya_map_change.specs.Writing.{IsMemoryOrCapacity}

-- Whether an entry was removed.
abbrev pub has_removed : {E : Type 0} → Result (Result (Option E) E) Refused → Bool
has_removed (Ok (Ok (Some entry))) = true
has_removed _ = false

-- Whether the fast path's result is that an entry was removed; `false` if it has no result.
abbrev pub has_removed_fast : {E : Type 0} → Option (Result (Option E) E) → Bool
has_removed_fast None = false
has_removed_fast (Some answer) = has_removed (Ok answer)

-- Whether the result is a value. For a removal that calls no closure: whether an entry was removed.
abbrev pub gives_value : {A : Type 0} → Result (Option A) Refused → Bool
gives_value (Ok (Some value)) = true
gives_value _ = false

module _ {K V : Type 0} (eq : K → K → Bool) (matches : K → Bool)
    (old new : List (Change K (Stored K V))) where
  -- The call's change took out this entry, and put none in.
  abbrev pub IsTaken : Stored K V → Type 0
  IsTaken p = IsChangeOf matches old new (Some p) None

  -- The result of a removal, by the calls of its closure in `said`: the entry that was removed, for
  -- which the closure returned `true`; `None`, if in some history between the two no key that
  -- matches had an entry; or the entry that stays, for which the closure returned `false`. A
  -- removal stores nothing itself, but may be refused while it helps to copy, because memory or
  -- room ran out.
  abbrev pub IsJudged : List (Stored K V × Bool)
      → Result (Result (Option (Bor K × Bor V)) (Bor K × Bor V)) Refused → Type 0
  IsJudged said (Ok (Ok None)) = WasHeld eq matches old new None
  IsJudged said (Ok (Ok (Some entry))) = (p : Stored K V) × IsTaken p × WasReturned p true said
      × AreOf entry p
  IsJudged said (Ok (Err entry)) = (p : Stored K V) × Member (p, false) said × AreOf entry p
  IsJudged said (Err refused) = IsMemoryOrCapacity refused

  -- The result of a removal whose closure was `first`. Each entry with which the closure was called
  -- was in the map in some history between the two.
  pub record IsRemovalBy {F : Type 0} (judges : F → Stored K V → Bool → F → Type 0) (first : F)
      (answer : Result (Result (Option (Bor K × Bor V)) (Bor K × Bor V)) Refused) : Type 0 where
    pub said : List (Stored K V × Bool)
    pub left : F
    pub has_said : HasReturned judges first said left
    pub held : AllArguments (λ p. WasHeld eq matches old new (Some p)) said
    pub answered : IsJudged said answer

  -- A removal has called its closure, which was `first`, with the entries in `said`, and it is now
  -- `left`. Each of these entries was in the map in some history between the two.
  pub record HasCalled {F : Type 0} (judges : F → Stored K V → Bool → F → Type 0)
      (first left : F) : Type 0 where
    pub said : List (Stored K V × Bool)
    pub has_said : HasReturned judges first said left
    pub held : AllArguments (λ p. WasHeld eq matches old new (Some p)) said

  -- The result of a removal's fast path. If it is `None`, the closure may have been called, and the
  -- removal begins again.
  abbrev pub IsTriedRemoval : {F : Type 0} → (F → Stored K V → Bool → F → Type 0)
      → (first left : F) → Option (Result (Option (Bor K × Bor V)) (Bor K × Bor V)) → Type 0
  IsTriedRemoval judges first left None = HasCalled judges first left
  IsTriedRemoval judges first left (Some answer) = IsRemovalBy judges first (Ok answer)

  -- The result of a removal that calls no closure: the value of the entry that was removed; `None`,
  -- if in some history between the two no key that matches had an entry; or a refusal while it
  -- helped to copy.
  abbrev pub IsRemoved : Result (Option (Bor V)) Refused → Type 0
  IsRemoved (Ok None) = WasHeld eq matches old new None
  IsRemoved (Ok (Some value)) = (p : Stored K V) × IsTaken p × (value.now ≡ p.value.value)
  IsRemoved (Err refused) = IsMemoryOrCapacity refused

  -- The same for a removal that returns the key and the value of the entry that was removed.
  abbrev pub IsEntryRemoved : Result (Option (Bor K × Bor V)) Refused → Type 0
  IsEntryRemoved (Ok None) = WasHeld eq matches old new None
  IsEntryRemoved (Ok (Some entry)) = (p : Stored K V) × IsTaken p × AreOf entry p
  IsEntryRemoved (Err refused) = IsMemoryOrCapacity refused
