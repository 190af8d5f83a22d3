-- An iterator as contracts see it, and what it returns.
use Rattle.std.specs.Prelude.{◌≡◌, ◌⊎◌, ℕ, suc, ◌<◌, ◌≤◌, ◌-◌, Bool, Option, None, Some, List, [], ◌∷◌, ◌++◌, length}
use mathlib.Core.List.{IsPrefix}
use denote.Bor.{Bor}
use Rattle.logbook.specs.Pages.{Book, Named as Word}
use Rattle.papaya_map_book.specs.declared.rule.entry.Begun.{Begun}
use Rattle.papaya_map_book.specs.declared.rule.entry.Event.{Event}
use Rattle.papaya_map_book.specs.Calls.{IsTable}
use Rattle.papaya_map_book.specs.Logs.{Member, Stored, state_of}
use Rattle.papaya_map_book.specs.Sheets.{Sheet}
use Rattle.papaya_map_lookup.specs.History.{Change, IsLegalHistory, history_of, key_of, replay}
use Rattle.papaya_map_lookup.specs.Lookups.{IsSlotAt}
use Rattle.papaya_map_change.specs.ClosureCalls.{AreOf}
use Rattle.papaya_map_scan.specs.Leaving.{WasTakenOut}
use Rattle.papaya_map_scan.specs.Meeting.{HadPair}
use Rattle.papaya_map_scan.specs.Taking.{Holds, IsTaken, IsTakenAt}

-- An iterator as contracts see it. `book` is the book that it belongs to, `began` the history that
-- had been observed when the iteration began, and `history` the one that has been observed now.
-- `given` has the entries that were returned, and `left` is the number of slots that are left.
pub record Walked (K V : Type 0) : Type 0 where
  pub book : Book
  pub began : List (Change K (Stored K V))
  pub history : List (Change K (Stored K V))
  pub given : List (K × V)
  pub left : ℕ

-- The root that is held, if any, was taken between the two logs. If none is held, the map has no
-- root.
abbrev pub IsRootOf : {K V S : Type 0} → Begun K V S → (began log : List (Event K V S))
    → Option (ℕ × Bor Sheet) → Type 0
IsRootOf b began log None = (state_of log).root ≡ 0
IsRootOf b began log (Some root) = IsTable log root.0 root.1.now × IsTaken b began log root.0

-- These are the words of the last slots of table `t`, which has `len` slots.
abbrev pub AreLast : {K V S : Type 0} → List (Event K V S) → (t len : ℕ) → List Word → Type 0
AreLast log t len [] = Unit {0}
AreLast log t len (word ∷ words) = (suc (length words) ≤ len)
    × IsSlotAt log t (len - suc (length words)) word × AreLast log t len words

-- The key and the value of this entry are among these.
abbrev pub IsAmong : {K V : Type 0} → List (K × V) → Stored K V → Type 0
IsAmong entries p = Member (key_of p, p.value.value) entries

-- When the table was taken, one of its slots that are still to be scanned held this entry.
pub record IsAhead {K V S : Type 0} (b : Begun K V S) (began log : List (Event K V S))
    (t from len : ℕ) (p : Stored K V) : Type 0 where
  pub at : List (Event K V S)
  pub taken : IsTakenAt b began log t at
  pub place : ℕ
  pub since : from ≤ place
  pub until : place < len
  pub stood : Holds ((state_of at).slot t place) p

-- Each entry that the map had when the iteration began was taken out since, is one of `entries`, or
-- is still ahead.
abbrev pub ArePassed : {K V S : Type 0} → (K → K → Bool) → Begun K V S
    → (began log : List (Event K V S)) → (t from len : ℕ) → List (K × V) → Type 0
ArePassed {K = K} {V = V} eq b began log t from len entries = (k : K) (p : Stored K V)
    → replay eq (history_of began) k ≡ Some p
    → WasTakenOut (history_of began) (history_of log) p ⊎ IsAmong entries p
    ⊎ IsAhead b began log t from len p

-- The entry that this slot held when the table was taken, if any, was taken out since or is the one
-- that was found.
abbrev pub IsPassed : {K V S : Type 0} → (at log : List (Event K V S)) → (t x : ℕ)
    → Option (Bor K × Bor V) → Type 0
IsPassed {K = K} {V = V} at log t x found = (p : Stored K V) → Holds ((state_of at).slot t x) p
    → WasTakenOut (history_of at) (history_of log) p
    ⊎ ((entry : Bor K × Bor V) × (found ≡ Some entry) × AreOf entry p)

-- These entries, followed by the one that was found, if any.
abbrev pub with_found : {K V : Type 0} → List (K × V) → Option (Bor K × Bor V) → List (K × V)
with_found entries None = entries
with_found entries (Some entry) = entries ++ (entry.0.now, entry.1.now) ∷ []

-- These are the words of the root's slots, and the root was taken if it has any. Each entry that
-- the map had when the iteration began was taken out since, was returned, or is ahead: slots from
-- `from` on are left to scan.
pub record IsLeft {K V S : Type 0} (eq : K → K → Bool) (b : Begun K V S)
    (began log : List (Event K V S)) (t : ℕ) (words : List Word) (from : ℕ)
    (given : List (K × V)) : Type 0 where
  pub since : IsPrefix began log
  pub last : AreLast log t (length words) words
  pub taken : 0 < length words → IsTaken b began log t
  pub passed : ArePassed eq b began log t from (length words) given

-- These references are to the key and the value of an entry that the map had in some history
-- between the two.
abbrev pub HadEntry : {K V : Type 0} → (K → K → Bool) → (old new : List (Change K (Stored K V)))
    → Bor K × Bor V → Type 0
HadEntry {K = K} {V = V} eq old new entry = (p : Stored K V) × AreOf entry p × HadPair eq old new p

-- An iterator has advanced: its book and the history at its beginning are the same, and its
-- observed history extends the one before.
pub record Walks {K V : Type 0} (eq : K → K → Bool) (before after : Walked K V) : Type 0 where
  pub book : after.book ≡ before.book
  pub began : after.began ≡ before.began
  pub since : IsPrefix before.history after.history

-- Each entry that the map had when the iteration began was returned, or was taken out since.
abbrev pub LeavesNone : {K V : Type 0} → (K → K → Bool) → Walked K V → Type 0
LeavesNone {K = K} {V = V} eq w = (k : K) (p : Stored K V) → replay eq w.began k ≡ Some p
    → WasTakenOut w.began w.history p ⊎ IsAmong w.given p

-- The iterator has advanced. If it returned `None`, it has returned each entry that was in the map
-- all the time. If it returned an entry, the map had that entry at some point since the iteration
-- began, and the observed history is legal.
abbrev pub Gives : {K V : Type 0} → (K → K → Bool) → Walked K V → Option (Bor K × Bor V)
    → Walked K V → Type 0
Gives eq before None after = Walks eq before after × (after.given ≡ before.given)
    × LeavesNone eq after
Gives eq before (Some entry) after = Walks eq before after
    × HadEntry eq before.began after.history entry × IsLegalHistory eq key_of after.history
    × (after.given ≡ before.given ++ (entry.0.now, entry.1.now) ∷ [])

-- The same for an iterator that returns keys alone, and for one that returns values alone.
abbrev pub GivesKey : {K V : Type 0} → (K → K → Bool) → Walked K V → Option (Bor K) → Walked K V
    → Type 0
GivesKey eq before None after = Gives eq before None after
GivesKey {V = V} eq before (Some key) after = (value : Bor V)
    × Gives eq before (Some (key, value)) after

abbrev pub GivesValue : {K V : Type 0} → (K → K → Bool) → Walked K V → Option (Bor V) → Walked K V
    → Type 0
GivesValue eq before None after = Gives eq before None after
GivesValue {K = K} eq before (Some value) after = (key : Bor K)
    × Gives eq before (Some (key, value)) after
