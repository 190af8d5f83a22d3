use denote.RattleType.{RattleType}
use denote.Param.Send.{IsSend}
use Rattle.papaya_gate.specs.contracts.ended.Ended.{the_row}
use Rattle.papaya_gate.proofs.Gates.{ended_keyless}

pub send : (E : RattleType) → IsSend (the_row E)
send E = record {
  owned = λ d vs. ((λ vss. (tt, ((λ uss. (tt, tt)), tt))), ended_keyless E.coded.code d.names d.eras d.author);
  leaving = λ k f vs. tt;
}
