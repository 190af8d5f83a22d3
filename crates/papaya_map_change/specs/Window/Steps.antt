-- The steps of a changing call and what it learns by them, whatever its task: its key and its
-- closure play no part in them.
use Rattle.std.specs.Prelude.{◌≡◌, ◌==◌, ℕ, MatchBool, Option, None, Some, length}
use denote.Bor.{Bor}
use Rattle.papaya_call.specs.declared.ask.Answer.{Answer}
use Rattle.papaya_call.specs.declared.ask.Answer.TheVariants.{Exchanged, Found, Size}
use Rattle.papaya_call.specs.declared.ask.At.TheVariants.{Made}
use Rattle.papaya_call.specs.Search.{IsSize}
use Rattle.papaya_call.specs.ChainMachine.{kind_of_ask}
use Rattle.papaya_call_law.specs.TrueAnswers.{or_last}
use Rattle.papaya_map_book.specs.declared.keyed.Keyed as keyed
use Rattle.papaya_map_book.specs.declared.rule.entry.Named.TheVariants.{Pair}
use Rattle.papaya_map_book.specs.declared.window.Window.{Window}
use Rattle.papaya_map_book.specs.Logs.{Stored}
use Rattle.papaya_map_book.specs.Sheets.{Sheet}
use Rattle.papaya_map_book.specs.Windows.{CanCopy, CopiesWord, IsIn, TriesSlot}
use Rattle.papaya_map_change.specs.declared.driver.Driver.{Driver}

-- The answer is the size of the table that is held.
abbrev pub IsSizeOf : Option (Bor Sheet) → Answer → Type 0
IsSizeOf table answer = (lent : Bor Sheet) × (slots : ℕ) × (limit : ℕ) × (table ≡ Some lent)
    × (answer ≡ Size slots limit) × (slots ≡ length lent.now.slots) × (limit ≡ lent.now.limit)
    × IsSize slots limit

-- An exchange that expected the word `old` was tried, and found `found`. If it succeeded, the call
-- holds `pair`, which it took out, and `put`, which it put in. If not, the call holds the pair that
-- it found.
abbrev pub HasTried : {K V S H : Type 0} → (found old : ℕ) → (pair put : Option (Stored K V))
    → Driver K V S H → Driver K V S H → Answer → Type 0
HasTried found old pair put c c' answer = MatchBool (found == old)
    ((answer ≡ Exchanged) × (c' ≡ record c { taken = pair; put = put }))
    ((answer ≡ Found found)
    × (c' ≡ record c { copier = record c.copier { last = or_last pair c.copier.last } }))

module _ {K V S H : Type 0} {d : keyed.Ghosts S K H} where
  -- The call has loaded a pair, which is stored in the arena.
  abbrev pub HasLast : Window K V S H d → Driver K V S H → Type 0
  HasLast w c = (p : Stored K V) × (c.copier.last ≡ Some p) × IsIn w (Pair p)

  -- An exchange that takes the number of a further pair may be tried.
  abbrev pub CanTake : Window K V S H d → Driver K V S H → (words : ℕ × ℕ) → Type 0
  CanTake w c words = CanCopy w Made (kind_of_ask c.machine) None words

  -- Such an exchange was tried.
  abbrev pub Takes : Window K V S H d → Driver K V S H → (words : ℕ × ℕ) → Window K V S H d → Answer
      → Type 0
  Takes w c words w' answer = (found : ℕ)
      × CopiesWord w w' Made (kind_of_ask c.machine) None words found
      × MatchBool (found == words.0) (answer ≡ Exchanged) (answer ≡ Found found)

  -- The deletion of the pair in this slot was tried.
  abbrev pub Buries : (t x : ℕ) → (words : ℕ × ℕ) → Window K V S H d → Driver K V S H
      → Window K V S H d → Driver K V S H → Answer → Type 0
  Buries t x words w c w' c' answer = (found : ℕ) × (pair : Option (Stored K V))
      × TriesSlot w w' t x (kind_of_ask c.machine) words found pair
      × HasTried found words.0 pair None c c' answer
