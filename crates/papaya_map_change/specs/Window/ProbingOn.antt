-- A call's search that passes places of a table in one step, by what it has observed of the map.
use Rattle.std.specs.Prelude.{◌≡◌, ◌⊎◌, Some, List}
use Rattle.papaya_map_book.specs.declared.keyed.Keyed as keyed
use Rattle.papaya_map_book.specs.declared.rule.entry.Event.{Event}
use Rattle.papaya_map_book.specs.declared.window.Window.{Window}
use Rattle.papaya_map_book.specs.Logs.{Stored}
use Rattle.papaya_map_book.specs.Parts.{begun_of}
use Rattle.papaya_map_book.specs.Windows.{Sees}
use Rattle.papaya_call.specs.ChainMachine.{IsValid}
use Rattle.papaya_map_change.specs.declared.driver.Driver.{Driver}
use Rattle.papaya_map_change.specs.Changing.{IsDriven}
use Rattle.papaya_map_change.specs.ProbingOn.{HasPassed}

module _ {K V S H : Type 0} {d : keyed.Ghosts S K H} where
  -- A call of this key that began at the log `begun` and has made these pairs is under way at
  -- `log`.
  abbrev pub IsUnderWay : Window K V S H d → K → (begun : List (Event K V S))
      → (made : List (Stored K V)) → (log : List (Event K V S)) → Driver K V S H → Type 0
  IsUnderWay w key begun made log c = IsDriven d.keys.eq d.keys.hash (begun_of w.book.now.parts)
      w.book.now.begun.book (d.keys.eq key) (d.keys.hash w.book.now.parts.hasher key) (Some key)
      begun log made c

  -- Some such call is under way.
  abbrev pub CanProbeOn : Window K V S H d → K → Driver K V S H → Type 0
  CanProbeOn w key c = (begun : List (Event K V S)) × (made : List (Stored K V))
      × IsUnderWay w key begun made w.sight.log c

  -- Each such call that was under way with `c` is under way in `w'` with `c'`.
  abbrev pub ProbesOn : Window K V S H d → K → Driver K V S H → Window K V S H d → Driver K V S H
      → Type 0
  ProbesOn w key c w' c' = (begun : List (Event K V S)) (made : List (Stored K V))
      → IsUnderWay w key begun made w.sight.log c → IsUnderWay w key begun made w'.sight.log c'

  -- Nothing was done, or the call is now about to look at another place.
  abbrev pub HasProbedOn : Window K V S H d → Driver K V S H → Window K V S H d → Driver K V S H
      → Type 0
  HasProbedOn w c w' c' = ((w' ≡ w) × (c' ≡ c)) ⊎ HasPassed c c'

  -- The search has passed places of its table, or is where it was.
  pub record HasPassedOver (w : Window K V S H d) (c : Driver K V S H) (w' : Window K V S H d)
      (c' : Driver K V S H) : Type 0 where
    pub sees : Sees w w'
    pub own : w'.own ≡ w.own
    pub valid : IsValid c'.machine
    pub looked : HasProbedOn w c w' c'
