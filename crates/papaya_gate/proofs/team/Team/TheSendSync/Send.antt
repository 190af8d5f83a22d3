use denote.RattleType.{RattleType}
use denote.Param.Send.{IsSend}
use Rattle.papaya_gate.specs.contracts.team.Team.{the_row}
use Rattle.papaya_gate.proofs.Rolls.{team_keyless}

pub send : (E : RattleType) → IsSend (the_row E)
send E = record {
  owned = λ d vs. ((λ vss. (tt, ((λ uss. (tt, tt)), tt))), team_keyless E.coded.code d.authors);
  leaving = λ k f vs. tt;
}
