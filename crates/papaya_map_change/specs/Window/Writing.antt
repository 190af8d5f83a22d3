-- A call on the shared map that inserts: what it holds and relies on, by what it has observed of
-- the map.
use Rattle.std.specs.Prelude.{◌≡◌, ◌⊎◌, ℕ, ◌<◌, ◌^◌, IfErr, IfOk, Option, Some, Result}
use Rattle.papaya_call.specs.declared.ask.Answer.{Answer}
use Rattle.papaya_call.specs.declared.ask.Ask.{Ask}
use Rattle.papaya_call.specs.ChainMachine.{ask_of}
use Rattle.papaya_call.specs.declared.chain.ask.Ask.TheVariants.{Call}
use Rattle.papaya_map_book.specs.declared.keyed.Keyed as keyed
use Rattle.papaya_map_book.specs.declared.rule.entry.Named.TheVariants.{Pair}
use Rattle.papaya_map_book.specs.declared.window.Window.{Window}
use Rattle.papaya_map_book.specs.Keys.{Keys}
use Rattle.papaya_map_book.specs.Logs.{Stored}
use Rattle.papaya_map_book.specs.Parts.{begun_of}
use Rattle.papaya_map_book.specs.Windows.{Does, IsIn, Sees}
use Rattle.papaya_map_change.specs.Doing.{was_made}
use Rattle.papaya_map_change.specs.declared.writer.Writer.{Writer}
use Rattle.papaya_map_change.specs.Writing.{IsNotStored, IsWithoutResult, held_value}
use Rattle.papaya_map_change.specs.Writing as writing

module _ {K V S H : Type 0} {d : keyed.Ghosts S K H} where
  abbrev pub CanWrite : Window K V S H d → Writer K V S H → Type 0
  CanWrite w c = writing.CanWrite d.keys.eq d.keys.hash (begun_of w.book.now.parts)
      w.book.now.begun.book w.sight.log c

  abbrev pub Writes : Window K V S H d → Writer K V S H → Window K V S H d → Writer K V S H → Answer
      → Type 0
  Writes w c w' c' answer = writing.Writes d.keys.eq d.keys.hash (begun_of w.book.now.parts)
      w.book.now.begun.book w.sight.log c w'.sight.log c' answer

  abbrev pub WritesOn : Window K V S H d → Writer K V S H → Window K V S H d → Writer K V S H
      → Type 0
  WritesOn w c w' c' = writing.WritesOn d.keys.eq d.keys.hash (begun_of w.book.now.parts)
      w.book.now.begun.book w.sight.log c w'.sight.log c'

  abbrev pub Pairs : Window K V S H d → Writer K V S H → Writer K V S H → Stored K V → Type 0
  Pairs w c c' q = writing.Pairs d.keys.eq d.keys.hash (begun_of w.book.now.parts)
      w.book.now.begun.book w.sight.log c c' q

  abbrev pub CanPut : Window K V S H d → Writer K V S H → (t x old : ℕ) → Stored K V → Type 0
  CanPut w c t x old q = writing.CanPut d.keys.eq d.keys.hash (begun_of w.book.now.parts)
      w.book.now.begun.book w.sight.log c t x old q

  abbrev pub Puts : Window K V S H d → Writer K V S H → (t x old : ℕ) → Stored K V
      → Window K V S H d → Writer K V S H → Answer → Type 0
  Puts w c t x old q w' c' answer = writing.Puts d.keys.eq d.keys.hash (begun_of w.book.now.parts)
      w.book.now.begun.book w.sight.log c t x old q w'.sight.log c' answer

  -- Some such call is under way, and waits for an answer to `ask`.
  pub record Waits (w : Window K V S H d) (c : Writer K V S H) (ask : Ask) : Type 0 where
    pub can : CanWrite w c
    pub asks : ask_of c.call.machine ≡ Call ask

  -- The call got this answer by a step that changes nothing. It may have observed more of the log.
  pub record Steps (w : Window K V S H d) (c : Writer K V S H) (w' : Window K V S H d)
      (c' : Writer K V S H) (answer : Answer) : Type 0 where
    pub sees : Sees w w'
    pub own : w'.own ≡ w.own
    pub machine : c'.call.machine ≡ c.call.machine
    pub value : c'.value ≡ c.value
    pub put : c'.call.put ≡ c.call.put
    pub unsaid : IsWithoutResult c'.call.copier.given.done answer
    pub writes : Writes w c w' c' answer

  -- The call got this answer by trying an exchange of a slot, which brought in the pair `comes` if
  -- it succeeded.
  pub record Tries (w : Window K V S H d) (c : Writer K V S H) (comes : Option (Stored K V))
      (w' : Window K V S H d) (c' : Writer K V S H) (answer : Answer) : Type 0 where
    pub sees : Sees w w'
    pub does : Does (was_made answer) w w'
    pub machine : c'.call.machine ≡ c.call.machine
    pub value : c'.value ≡ c.value
    pub put : (c'.call.put ≡ c.call.put) ⊎ (c'.call.put ≡ comes)
    pub unsaid : IsWithoutResult c'.call.copier.given.done answer

  -- The call has stored a pair of its value in the arena, which is to be put in; or its machine is
  -- to receive this answer.
  pub record StoresEntry (w : Window K V S H d) (c c' : Writer K V S H)
      (result : Result (Stored K V) Answer) : Type 0 where
    pub machine : c'.call.machine ≡ c.call.machine
    pub put : c'.call.put ≡ c.call.put
    pub left : held_value c'.value ≡ held_value c.value
    pub number : IfOk result (λ q. q.index < 2 ^ 48)
    pub placed : IfOk result (λ q. IsIn w (Pair q))
    pub value : IfOk result (λ q. held_value c.value ≡ Some q.value.value)
    pub pairs : IfOk result (λ q. Pairs w c c' q)
    pub unlogged : IfErr result (λ answer. IsNotStored answer)
    pub unsaid : IfErr result (λ answer. IsWithoutResult c'.call.copier.given.done answer)
    pub writes : IfErr result (λ answer. Writes w c w c' answer)

module _ {K V S H : Type 0} where
  -- Whatever has been observed of the map, each such call goes on with this answer and no step.
  abbrev pub MakesPart : Keys K S → Writer K V S H → Answer → Type 0
  MakesPart keys c answer = (w : Window K V S H (record { keys = keys })) → Writes w c w c answer
