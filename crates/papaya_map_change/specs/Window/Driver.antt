-- A changing call under way: what it holds and learns, by what it has observed of the map.
use Rattle.std.specs.Prelude.{◌≡◌, ℕ}
use Rattle.papaya_call.specs.declared.ask.At.{At}
use Rattle.papaya_map_book.specs.declared.keyed.Keyed as keyed
use Rattle.papaya_map_book.specs.declared.window.Window.{Window}
use Rattle.papaya_map_book.specs.Limits.{tables_of}
use Rattle.papaya_map_book.specs.Parts.{begun_of}
use Rattle.papaya_map_book.specs.Windows.{Sees}
use Rattle.papaya_call.specs.ChainMachine.{IsValid}
use Rattle.papaya_call.specs.declared.chain.ask.Answer.{Answer}
use Rattle.papaya_call.specs.declared.chain.machine.Machine.{Machine}
use Rattle.papaya_call.specs.declared.chain.machine.Phase.TheVariants.{Calling}
use Rattle.papaya_map_change.specs.declared.driver.Driver.{Driver}
use Rattle.papaya_map_change.specs.Changing as changing
use Rattle.papaya_map_change.specs.Driver as driver
use Rattle.papaya_map_change.specs.Helping.{HasHelped}
use Rattle.papaya_map_change.specs.Helping as helping

module _ {K V S H : Type 0} {d : keyed.Ghosts S K H} where
  -- The call holds the table that a load of this place needs, and for a slot that table has it.
  abbrev pub Holds : At → Window K V S H d → Driver K V S H → Type 0
  Holds at w c = driver.IsHeldAt at w.sight.log c.table

  -- The call loaded this word from this place, and holds the table and the pair that it names.
  abbrev pub Loads : At → ℕ → Window K V S H d → Driver K V S H → Window K V S H d → Driver K V S H
      → Type 0
  Loads at word w c w' c' = driver.IsLoaded d.keys.eq d.keys.hash (begun_of w.book.now.parts)
      w.book.now.begun.book at word w'.sight.log c.table c'.table c.copier.last c'.copier.last

  -- Some call is under way with this driver.
  abbrev pub CanGoOn : Window K V S H d → Driver K V S H → Type 0
  CanGoOn w c = changing.CanGoOn d.keys.eq d.keys.hash (begun_of w.book.now.parts)
      w.book.now.begun.book w.sight.log c

  -- Each call that was under way with `c` is under way in `w'` with `c'`.
  abbrev pub Continues : Window K V S H d → Driver K V S H → Window K V S H d → Driver K V S H → Type 0
  Continues w c w' c' = changing.Continues d.keys.eq d.keys.hash (begun_of w.book.now.parts)
      w.book.now.begun.book w.sight.log c w'.sight.log c'

  -- A call with this machine has helped a copy for as long as it was set aside, and now goes on for
  -- itself.
  pub record Helps (w : Window K V S H d) (machine : Machine) (w' : Window K V S H d)
      (c' : Driver K V S H) : Type 0 where
    pub sees : Sees w w'
    pub own : w'.own ≡ w.own
    pub valid : IsValid c'.machine
    pub calling : c'.machine.phase ≡ Calling
    pub helped : HasHelped machine c'.machine (tables_of w'.sight.log) c'.copier.given.done

  -- A call that was set aside got this answer to what it asked for its copy.
  abbrev pub Copies : Window K V S H d → Driver K V S H → Window K V S H d → Driver K V S H → Answer
      → Type 0
  Copies w c w' c' answer = helping.Copies d.keys.eq d.keys.hash (begun_of w.book.now.parts)
      w.book.now.begun.book w.sight.log c w'.sight.log c' answer
