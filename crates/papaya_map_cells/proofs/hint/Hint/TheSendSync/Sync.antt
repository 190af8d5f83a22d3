use denote.RattleType.{RattleType}
use denote.Param.Send.{IsSync}
use Rattle.logbook.specs.declared.tokens.Rule.{Ghosts as Rule}
use Rattle.logbook.proofs.word.Word.TheSendSync as word
use Rattle.papaya_map_cells.specs.contracts.hint.Hint.{the_row}
use Rattle.papaya_map_cells.specs.declared.hint.Hinting.{Ghosts as Hinting}
use Rattle.papaya_map_cells.specs.Untracked.{untracked}
use Rattle.papaya_map_cells.proofs.Keyed.{beside_word}

pub sync : (E A P : RattleType) (g : Rule P.Denot E.Denot A.Denot) (h : Hinting P.Denot E.Denot)
    → IsSync (the_row E A P g h)
sync E A P g h = record {
  shared = λ d b o κ. (word.the_sync E A P (beside_word g h d)).shared (untracked d) b o κ;
}
