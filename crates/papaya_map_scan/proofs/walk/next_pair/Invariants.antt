use Rattle.std.proofs.Common.{◌≤◌, ◌-◌, List, length}
use Rattle.papaya_map_book.specs.declared.rule.entry.Event.{Event}
use Rattle.papaya_map_book.specs.Parts.{begun_of}
use Rattle.papaya_map_book.specs.Windows.{Sees}
use Rattle.papaya_map_scan.specs.Walked.{AreLast, ArePassed}
use Rattle.papaya_map_scan.proofs.walk.next_pair.Given as goal

-- At least as much has been observed, and the place is not before the first one: the slots between them are passed.
abbrev pub invariant-loop-at : goal.invariant-loop-at
invariant-loop-at g l = record {
  sees : Sees l.fn.window l.window;
  slots : AreLast l.window.sight.log l.number (length l.slots) l.slots;
  since : l.from ≤ l.at;
  passed : (began : List (Event _ _ _)) (given : List (_ × _))
      → ArePassed g.K.PartialEq.eq (begun_of l.fn.window.book.now.parts) began l.fn.window.sight.log l.number l.from (length l.slots) given
      → ArePassed g.K.PartialEq.eq (begun_of l.fn.window.book.now.parts) began l.window.sight.log l.number l.at (length l.slots) given;
}

abbrev pub decreases-loop-at : goal.decreases-loop-at
decreases-loop-at g l = length l.slots - l.at
