-- The effect of a call that stores many entries, the entries that an iteration yielded, and clones
-- of these.
use Rattle.std.specs.Prelude.{◌≡◌, ◌⊎◌, Bool, true, Option, Some, Result, List, [], ◌∷◌, ◌++◌, IfErr, IfOk}
use Rattle.std.specs.List.{All, AllZip}
use mathlib.Core.List.{IsPrefix}
use denote.Bor.{Bor}
use Rattle.papaya_words.specs.declared.refused.Refused.{Refused}
use Rattle.papaya_map_book.specs.Logs.{Stored}
use Rattle.papaya_map_book.specs.Own.{last_if}
use Rattle.papaya_map_change.specs.Changes.{IsPut}
use Rattle.papaya_map_lookup.specs.History.{Change, key_of, replay}
use Rattle.papaya_map_scan.specs.Leaving.{WasTakenOut}
use Rattle.papaya_map_scan.specs.Meeting.{HadPair}
use Rattle.papaya_map_scan.specs.Walked.{IsAmong}
use Rattle.papaya_seq.specs.Clones.{Clones}
use Rattle.papaya_seq.specs.Entries.{AllCome, ComesNext}

module _ {K V : Type 0} (eq : K → K → Bool) where
  -- These entries were put in one after the other between the two histories. Each was put in by the
  -- last change of a history that extends the one before.
  abbrev pub AreStored : List (K × V) → (old new : List (Change K (Stored K V))) → Type 0
  AreStored [] old new = IsPrefix old new
  AreStored (e ∷ es) old new = (next : List (Change K (Stored K V))) × (answer : Option (Bor V))
      × IsPut eq e.0 e.1 old next answer × AreStored es next new

  -- If the call succeeds, the entries of all items of `iter` were put in between the two histories.
  -- If it is refused, the entries of all items before the refused one were put in.
  abbrev pub Stores : {U T A : Type 0} (becomes : U → T → Type 0)
      (steps : T → Option A → T → Type 0) (shows : List A → List (K × V)) → U
      → (old new : List (Change K (Stored K V))) → Result (Unit {0}) Refused → Type 0
  Stores becomes steps shows iter old new result =
      IfOk result (λ done. AllCome becomes steps iter (λ items. AreStored (shows items) old new))
      × IfErr result (λ why. ComesNext becomes steps iter
      (λ items item. AreStored (shows items) old new))

  -- The same, where the puts are also all of the changes that one pass made meanwhile.
  abbrev pub AreStoredBy : List (K × V) → (old new made made' : List (Change K (Stored K V)))
      → Type 0
  AreStoredBy [] old new made made' = IsPrefix old new × (made' ≡ made)
  AreStoredBy (e ∷ es) old new made made' = (next : List (Change K (Stored K V)))
      × (answer : Option (Bor V)) × IsPut eq e.0 e.1 old next answer
      × AreStoredBy es next new (made ++ last_if true next) made'

  module _ (old new : List (Change K (Stored K V))) where
    -- In some history between the two, the map had an entry with this key and this value.
    abbrev pub Had : K × V → Type 0
    Had pair = (p : Stored K V) × ((key_of p, p.value.value) ≡ pair) × HadPair eq old new p

    -- An iteration over a map yielded these entries, and then ended. Before it, `old` had been
    -- observed of the map's history, and after it `new`.
    pub record AreYielded (pairs : List (K × V)) : Type 0 where
      -- Each entry that the map had after `old` was yielded, or was taken out since.
      pub none_left : (k : K) (p : Stored K V) → replay eq old k ≡ Some p
          → WasTakenOut old new p ⊎ IsAmong pairs p
      -- The map had each entry that was yielded.
      pub each_had : All Had pairs

  module _ (clones_key : K → K → Type 0) (clones_value : V → V → Type 0) where
    -- Clones of these entries were put in, in the same order.
    abbrev pub AreCloned : List (K × V) → (old new : List (Change K (Stored K V))) → Type 0
    AreCloned pairs old new = (clones : List (K × V))
        × AllZip (Clones clones_key clones_value) pairs clones × AreStored clones old new

    -- The same, where one pass put in the clones and made no other change meanwhile.
    abbrev pub AreClonedBy : List (K × V) → (old new made made' : List (Change K (Stored K V)))
        → Type 0
    AreClonedBy pairs old new made made' = (clones : List (K × V))
        × AllZip (Clones clones_key clones_value) pairs clones
        × AreStoredBy clones old new made made'

    -- An iteration over a map yielded some entries between the histories `old` and `new` of that
    -- map. Clones of these were put into another map, of which the history `copy` is known.
    abbrev pub AreCopied : (old new copy : List (Change K (Stored K V))) → Type 0
    AreCopied old new copy = (pairs : List (K × V)) × AreYielded old new pairs
        × AreCloned pairs [] copy
