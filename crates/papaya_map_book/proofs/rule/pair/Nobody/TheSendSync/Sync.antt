use denote.RattleType.{RattleType}
use denote.Param.Send.{IsSync, part_keyless}
use Rattle.papaya_map_book.specs.contracts.rule.pair.Nobody.{the_row}
use Rattle.papaya_map_book.proofs.rule.pair.Nobody.TheSendSync.Send.{send}

pub sync : (K V : RattleType) → IsSync (the_row K V)
sync K V = record { shared = λ d b o κ q. part_keyless (the_row K V) (send K V) q d b o }
