-- A call that is set aside goes on with the answers to its copy's asks, by what it has observed of
-- the map.
use Rattle.papaya_map_book.specs.declared.keyed.Keyed as keyed
use Rattle.papaya_map_book.specs.declared.window.Window.{Window}
use Rattle.papaya_map_book.specs.Parts.{begun_of}
use Rattle.papaya_call.specs.declared.chain.ask.Answer.{Answer}
use Rattle.papaya_map_change.specs.declared.driver.Driver.{Driver}
use Rattle.papaya_map_change.specs.Going as going

module _ {K V S H : Type 0} {d : keyed.Ghosts S K H} where
  -- The call went on up to an answer that its machine has yet to receive.
  abbrev pub ContinuesTo : Window K V S H d → Driver K V S H → Window K V S H d → Driver K V S H → Answer
      → Type 0
  ContinuesTo w c w' c' answer = going.ContinuesTo d.keys.eq d.keys.hash (begun_of w.book.now.parts)
      w.book.now.begun.book w.sight.log c w'.sight.log c' answer
