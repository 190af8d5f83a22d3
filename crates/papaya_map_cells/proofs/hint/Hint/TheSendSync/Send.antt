use denote.RattleType.{RattleType}
use denote.Param.Send.{IsSend}
use Rattle.logbook.specs.declared.tokens.Rule.{Ghosts as Rule}
use Rattle.logbook.proofs.word.Word.TheSendSync as word
use Rattle.papaya_map_cells.specs.contracts.hint.Hint.{the_row}
use Rattle.papaya_map_cells.specs.declared.hint.Hinting.{Ghosts as Hinting}
use Rattle.papaya_map_cells.specs.Untracked.{untracked}
use Rattle.papaya_map_cells.proofs.Keyed.{beside_word}

pub send : (E A P : RattleType) (g : Rule P.Denot E.Denot A.Denot) (h : Hinting P.Denot E.Denot)
    → IsSend (the_row E A P g h)
send E A P g h = record {
  owned = λ d vs. (word.the_send E A P (beside_word g h d)).owned (untracked d) vs;
  leaving = λ k d w. tt;
}
