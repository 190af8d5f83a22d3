-- Which of the map's entries `clear` and `retain` leave, and which they take out.
use Rattle.std.specs.Prelude.{◌≡◌, ◌⊎◌, Bool, true, false, None, Some, Result, List, [], ◌∷◌, ◌++◌, IfOk}
use mathlib.Core.List.{IsPrefix}
use Rattle.papaya_words.specs.declared.refused.Refused.{Refused}
use Rattle.papaya_call_law.specs.ScanAnswers.{IsLastAnswer}
use Rattle.papaya_map_book.specs.Logs.{Stored}
use Rattle.papaya_map_lookup.specs.History.{Change, replay}
use Rattle.papaya_map_change.specs.ClosureCalls.{AllArguments, HasReturned, IsSamePair}
use Rattle.papaya_map_scan.specs.Meeting.{HadPair}

module _ {K V : Type 0} where
  -- A change between the two histories took out this entry.
  pub record WasTakenOut (old new : List (Change K (Stored K V))) (p : Stored K V) : Type 0 where
    pub before : List (Change K (Stored K V))
    pub change : Change K (Stored K V)
    pub since : IsPrefix old before
    pub until : IsPrefix (before ++ change ∷ []) new
    pub is : change.taken ≡ Some p

  module _ (eq : K → K → Bool) (old new : List (Change K (Stored K V))) where
    -- Each entry that the map had after the history `old` was taken out since.
    abbrev pub IsCleared : Type 0
    IsCleared = (k : K) (p : Stored K V) → replay eq old k ≡ Some p → WasTakenOut old new p

    -- Each entry that the map had after the history `old` was taken out since, or the closure's
    -- last answer for it was to keep it.
    abbrev pub IsRetained : List (Stored K V × Bool) → Type 0
    IsRetained said = (k : K) (p : Stored K V) → replay eq old k ≡ Some p
        → WasTakenOut old new p ⊎ IsLastAnswer said p true

  -- The change takes out this very entry, and puts none in.
  abbrev pub Drops : Change K (Stored K V) → Stored K V → Type 0
  Drops change p = (q : Stored K V) × (change.taken ≡ Some q) × (change.put ≡ None)
      × IsSamePair q p

  -- These changes were made because of the closure's answers in `said`, of which the last comes
  -- first. After each answer not to keep an entry, and before the next answer, at most one change
  -- was made, which takes out that entry. No other change was made.
  abbrev pub AreDropped : List (Stored K V × Bool) → List (Change K (Stored K V)) → Type 0
  AreDropped [] made = made ≡ []
  AreDropped (last ∷ before) made = AreDropped before made
      ⊎ ((last.1 ≡ false) × (earlier : List (Change K (Stored K V)))
      × (change : Change K (Stored K V)) × (made ≡ earlier ++ change ∷ []) × Drops change last.0
      × AreDropped before earlier)

  -- The closure, which was `first`, was called with the entries in `said`, and is now `left`. Each
  -- of these entries was in the map in some history between the two. The changes since `made` are
  -- those that were made because of the closure's answers.
  pub record HasCalled {F : Type 0} (eq : K → K → Bool)
      (old new made made' : List (Change K (Stored K V)))
      (judges : F → Stored K V → Bool → F → Type 0) (first left : F)
      (said : List (Stored K V × Bool)) : Type 0 where
    pub has_said : HasReturned judges first said left
    pub had : AllArguments (HadPair eq old new) said
    pub changes : List (Change K (Stored K V))
    pub made_is : made' ≡ made ++ changes
    pub dropped : AreDropped said changes

  module _ (eq : K → K → Bool) (old new : List (Change K (Stored K V))) where
    -- Each change took out an entry that the map had in some history between the two, and put none
    -- in.
    abbrev pub AllDrop : List (Change K (Stored K V)) → Type 0
    AllDrop [] = Unit {0}
    AllDrop (change ∷ later) = ((p : Stored K V) × HadPair eq old new p × Drops change p)
        × AllDrop later

    -- Each change since `made` took out an entry that the map had in some history between the two,
    -- and put none in.
    pub record HasDropped (made made' : List (Change K (Stored K V))) : Type 0 where
      pub changes : List (Change K (Stored K V))
      pub made_is : made' ≡ made ++ changes
      pub dropped : AllDrop changes

  -- `retain` took out only entries that it was not to keep, by the closure's latest answer at that
  -- point. If it was not refused, it left, of the entries that the map had after the history `old`,
  -- only those for which the last answer was to keep them.
  pub record HasKept {F A : Type 0} (eq : K → K → Bool)
      (old new made made' : List (Change K (Stored K V)))
      (judges : F → Stored K V → Bool → F → Type 0) (first : F)
      (result : Result A Refused) : Type 0 where
    pub left : F
    pub said : List (Stored K V × Bool)
    pub shown : HasCalled eq old new made made' judges first left said
    pub leaves : IfOk result (λ _. IsRetained eq old new said)
