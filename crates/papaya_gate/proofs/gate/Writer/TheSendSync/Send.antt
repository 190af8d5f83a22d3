use base.Fraction.{full_share}
use denote.RattleType.{RattleType}
use denote.Param.Send.{IsSend}
use Rattle.papaya_gate.specs.contracts.gate.Writer.{the_row}
use Rattle.papaya_gate.proofs.Gates.{writer_keyless}

pub send : (E : RattleType) → IsSend (the_row E)
send E = record {
  owned = λ d vs. ((λ vss. (tt, ((λ uss. (tt, tt)), tt))), writer_keyless E.coded.code d.author full_share);
  leaving = λ k f vs. tt;
}
