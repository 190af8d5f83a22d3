-- The output of a command to a shared map, in a run that calls the map through one session. Its
-- result is right for some history between what the session had observed before the line and what
-- it has observed after it.
use Rattle.std.specs.Prelude.{◌≡◌, ◌==◌, ℕ, List, [], Option, Result, IfOk, IfErr, is_ok, option_map, ◌⊎◌}
use mathlib.Core.List.{IsPrefix}
use Rattle.std.specs.Borrow.{Bor}
use Rattle.std.specs.List.{All}
use Rattle.std.specs.List.Sorted.{IsNonDecreasingBy}
use Rattle.papaya_words.specs.declared.refused.Refused.{Refused}
use Rattle.papaya_seq.specs.Answered.{old_answered}
use Rattle.papaya_map_book.specs.Logs.{Stored}
use Rattle.papaya_map_lookup.specs.Answers.{IsAnsweredBetween}
use Rattle.papaya_map_lookup.specs.History.{Change, IsLegalHistory, Makes, key_of}
use Rattle.papaya_map_change.specs.Changes.{IsPut}
use Rattle.papaya_map_change.specs.RemovalAnswers.{IsRemoved, gives_value}
use Rattle.papaya_map_change.specs.Writing.{IsMemoryOrCapacity}
use Rattle.papaya_map_scan.specs.Leaving.{HasDropped, IsCleared}
use Rattle.papaya_map_scan.specs.Meeting.{HadPair}
use Rattle.papaya_map.specs.Known.{Known}
use Rattle.papaya_map.specs.Storing.{IsUpdated}
use Rattle.papaya_run_lines.specs.Closures.{follower}
use Rattle.papaya_run_lines.specs.Commands.{WritesCommand, WritesNone}
use Rattle.papaya_run_lines.specs.Replied.{of_end, of_insertion, of_lookup, of_removal, of_update}
use Rattle.papaya_run_lines.specs.declared.commands.Command.{Command}
use Rattle.papaya_run_lines.specs.declared.commands.Command.TheVariants as command
use Rattle.papaya_run_lines.specs.declared.printed.Printed.{Printed}
use Rattle.papaya_run_lines.specs.declared.printed.Printed.TheVariants as printed

-- The history of a map from numbers to numbers.
abbrev pub Seen : Type 0
Seen = List (Change ℕ (Stored ℕ ℕ))

-- The shared map does not have this command.
abbrev pub IsMissing : Command → Type 0
IsMissing (command.Insert k v) = ⊥
IsMissing (command.Get k) = ⊥
IsMissing (command.Remove k) = ⊥
IsMissing (command.Update k) = ⊥
IsMissing command.Len = ⊥
IsMissing command.Slots = Unit {0}
IsMissing command.Clear = ⊥
IsMissing command.Walk = ⊥

-- An update of the key `k`: its value is now the number after the one that was there, or the key
-- had no entry.
abbrev pub IsFollowed : ℕ → Seen → Seen → Option (Bor ℕ) → Type 0
IsFollowed k old new = IsUpdated (λ a b. a == b) k old new (λ before after. after ≡ follower before)

-- In some history between the two, the map had this key with this value.
abbrev pub Had : Seen → Seen → ℕ × ℕ → Type 0
Had old new pair = (p : Stored ℕ ℕ) × ((key_of p, p.value.value) ≡ pair)
    × HadPair (λ a b. a == b) old new p

-- Entries that the map had are printed, ordered by key; or the iteration was refused.
abbrev pub IsWalked : Seen → Seen → Printed → Type 0
IsWalked old new (printed.Walk pairs) = IsNonDecreasingBy (λ pair. pair.0) pairs
    × All (Had old new) pairs
IsWalked old new (printed.Refused refused) = IsMemoryOrCapacity refused
IsWalked old new _ = ⊥

module _ {S : Type 0} where
  -- The session has observed no change, and made none.
  abbrev pub IsBegun : Known ℕ ℕ S → Type 0
  IsBegun s = (s.history ≡ []) × (s.made ≡ [])

  -- The history that the session has observed extends the one before, and is legal.
  abbrev pub Continues : Known ℕ ℕ S → Known ℕ ℕ S → Type 0
  Continues s s' = IsPrefix s.history s'.history × IsLegalHistory (λ a b. a == b) key_of s'.history

  -- The command was run and `text` is printed, and the session's own changes are those that the
  -- command makes. Nothing is stated of the number that `len` prints.
  abbrev pub Obeys : Command → Known ℕ ℕ S → Printed → Known ℕ ℕ S → Type 0
  Obeys (command.Insert k v) s text s' = (answer : Result (Option (Bor ℕ)) Refused)
      × (text ≡ of_insertion (old_answered answer))
      × IfOk answer (IsPut (λ a b. a == b) k v s.history s'.history)
      × IfErr answer IsMemoryOrCapacity × Makes (is_ok answer) s.made s'.made s'.history
  Obeys (command.Get k) s text s' = (found : Option (Bor ℕ))
      × (text ≡ of_lookup (option_map (λ v. v.now) found))
      × IsAnsweredBetween (λ a b. a == b) (λ key. k == key) s.history s'.history found
      × (s'.made ≡ s.made)
  Obeys (command.Remove k) s text s' = (answer : Result (Option (Bor ℕ)) Refused)
      × (text ≡ of_removal (old_answered answer))
      × IsRemoved (λ a b. a == b) (λ key. k == key) s.history s'.history answer
      × Makes (gives_value answer) s.made s'.made s'.history
  Obeys (command.Update k) s text s' = (answer : Result (Option (Bor ℕ)) Refused)
      × (text ≡ of_update (old_answered answer))
      × IfOk answer (IsFollowed k s.history s'.history)
      × IfErr answer IsMemoryOrCapacity × Makes (gives_value answer) s.made s'.made s'.history
  Obeys command.Len s text s' = (count : ℕ) × (text ≡ printed.Length count) × (s' ≡ s)
  Obeys command.Slots s text s' = ⊥
  Obeys command.Clear s text s' = (answer : Result (Unit {0}) Refused) × (text ≡ of_end answer)
      × IfOk answer (λ done. IsCleared (λ a b. a == b) s.history s'.history)
      × IfErr answer IsMemoryOrCapacity
      × HasDropped (λ a b. a == b) s.history s'.history s.made s'.made
  Obeys command.Walk s text s' = IsWalked s.history s'.history text × (s'.made ≡ s.made)

  -- The line denotes a command, `text` is printed for it, and the history goes on.
  abbrev pub ObeysLine : List ℕ → Known ℕ ℕ S → Printed → Known ℕ ℕ S → Type 0
  ObeysLine line s text s' = (what : Command) × WritesCommand line what × Obeys what s text s'
      × Continues s s'

-- The line denotes no command, or one that the shared map does not have.
abbrev pub IsBad : List ℕ → Type 0
IsBad line = WritesNone line ⊎ ((what : Command) × WritesCommand line what × IsMissing what)
