use denote.RattleType.{RattleType}
use denote.Param.Send.{IsSend}
use Rattle.papaya_map_book.specs.contracts.rule.pair.Nobody.{the_row}

pub send : (K V : RattleType) → IsSend (the_row K V)
send K V = record { owned = λ d vs. ((λ vss. (tt, ((λ uss. (tt, tt)), tt))), tt); leaving = λ k f vs. tt }
