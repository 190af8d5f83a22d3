-- A call that resizes the shared map: what it holds and relies on, by what it has observed of the
-- map.
use Rattle.papaya_map_book.specs.declared.keyed.Keyed as keyed
use Rattle.papaya_map_book.specs.declared.window.Window.{Window}
use Rattle.papaya_map_book.specs.Parts.{begun_of}
use Rattle.papaya_call.specs.declared.chain.ask.Answer.{Answer}
use Rattle.papaya_call.specs.Resizer.{after}
use Rattle.papaya_map_change.specs.declared.resizing.Resizing.{Resizing}
use Rattle.papaya_map_change.specs.Resizing as resizing

module _ {K V S H : Type 0} {d : keyed.Ghosts S K H} where
  abbrev pub CanResize : Window K V S H d → Resizing K V S H → Type 0
  CanResize w x = resizing.IsResizing d.keys.eq d.keys.hash (begun_of w.book.now.parts)
      w.book.now.begun.book w.sight.log x.machine x.copier

  -- The call relies on what holds once its machine has received this answer.
  abbrev pub ContinuesAfter : Window K V S H d → Resizing K V S H → Answer → Type 0
  ContinuesAfter w x answer = resizing.IsResizing d.keys.eq d.keys.hash (begun_of w.book.now.parts)
      w.book.now.begun.book w.sight.log (after x.machine answer) x.copier
