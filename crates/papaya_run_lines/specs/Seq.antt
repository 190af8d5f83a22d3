-- The effect of a command on a map for one caller, and its output.
use Rattle.std.specs.Prelude.{◌≡◌, ◌==◌, ℕ, List, Option, Result, Ok, Err, IsOk, MatchOption, [], length, map}
use Rattle.papaya_words.specs.declared.refused.Refused.{Refused}
use Rattle.papaya_core.specs.Content.{content}
use Rattle.papaya_core.specs.Store.{Stored}
use Rattle.papaya_run_lines.specs.Replied.{of_end, of_insertion, of_lookup, of_removal, of_update}
use Rattle.papaya_seq.specs.Computes.{IsUpdated}
use Rattle.papaya_run_lines.specs.Closures.{follower}
use Rattle.papaya_run_lines.specs.Commands.{WritesCommand}
use Rattle.papaya_run_lines.specs.Walk.{IsByKey}
use Rattle.papaya_seq.specs.Map.{HasNone, Holds, IsInserted, KeepsSlots, MapState, Unchanged, entry_of, next_of, slots_of}
use Rattle.papaya_seq.specs.Removes.{IsRemoved}
use Rattle.papaya_seq.specs.Resizes.{IsCopyCause}
use Rattle.papaya_run_lines.specs.declared.commands.Command.{Command}
use Rattle.papaya_run_lines.specs.declared.commands.Command.TheVariants as command
use Rattle.papaya_run_lines.specs.declared.printed.Printed.{Printed}
use Rattle.papaya_run_lines.specs.declared.printed.Printed.TheVariants as printed

module _ {S : Type 0} where
  -- The map has this value for the key, or it does not have the key.
  abbrev pub HasAt : MapState ℕ ℕ S → ℕ → Option ℕ → Type 0
  HasAt s k found = MatchOption found (HasNone (λ a b. a == b) (λ key. k == key) s.store)
      (λ value. (p : Stored ℕ ℕ) × Holds (λ a b. a == b) (λ key. k == key) s.store p
      × (p.value ≡ value))

  -- The entries of the map as pairs of a key and a value.
  abbrev pub pairs_of : MapState ℕ ℕ S → List (ℕ × ℕ)
  pairs_of s = map entry_of (content (λ a b. a == b) s.store)

  -- A clear leaves no entry; or it is refused, and the map is as it was.
  abbrev pub IsCleared : MapState ℕ ℕ S → Result (Unit {0}) Refused → MapState ℕ ℕ S → Type 0
  IsCleared s (Ok done) s' = content (λ a b. a == b) s'.store ≡ []
  IsCleared s (Err refused) s' = IsCopyCause s refused s'
      × Unchanged (λ a b. a == b) s.store s'.store

  -- The command takes the map from `s` to `s'`, and `text` is printed. A removal and a clear are
  -- refused only while entries are being moved to a next table.
  abbrev pub Obeys : Command → MapState ℕ ℕ S → Printed → MapState ℕ ℕ S → Type 0
  Obeys (command.Insert k v) s text s' = (answer : Result (Option ℕ) Refused)
      × (text ≡ of_insertion answer) × IsInserted (λ a b. a == b) k v s answer s'
  Obeys (command.Get k) s text s' = (found : Option ℕ) × (text ≡ of_lookup found)
      × HasAt s k found × (s' ≡ s)
  Obeys (command.Remove k) s text s' = (answer : Result (Option ℕ) Refused)
      × (text ≡ of_removal answer) × IsRemoved (λ a b. a == b) (λ key. k == key) (λ p. p.value) s
      answer s' × (next_of s.store ≡ 0 → IsOk answer)
  Obeys (command.Update k) s text s' = (answer : Result (Option ℕ) Refused)
      × (text ≡ of_update answer) × IsUpdated (λ a b. a == b) k (λ old new. new ≡ follower old) s
      answer s'
  Obeys command.Len s text s' =
      (text ≡ printed.Length (length (content (λ a b. a == b) s.store))) × (s' ≡ s)
  Obeys command.Slots s text s' = (text ≡ printed.Slots (slots_of s.store)) × (s' ≡ s)
  Obeys command.Clear s text s' = (answer : Result (Unit {0}) Refused) × (text ≡ of_end answer)
      × IsCleared s answer s' × KeepsSlots s s' × (next_of s.store ≡ 0 → IsOk answer)
  Obeys command.Walk s text s' = (pairs : List (ℕ × ℕ)) × (text ≡ printed.Walk pairs)
      × IsByKey (pairs_of s) pairs × (s' ≡ s)

  -- The line denotes a command, which does this.
  abbrev pub ObeysLine : List ℕ → MapState ℕ ℕ S → Printed → MapState ℕ ℕ S → Type 0
  ObeysLine line s text s' = (what : Command) × WritesCommand line what × Obeys what s text s'
