use base.Fraction.{full_share}
use denote.Param.Send.{IsSend}
use Rattle.papaya_gate.specs.contracts.gate.Gate.{the_row}
use Rattle.papaya_gate.specs.Kept.{eras_name, leave_name}
use Rattle.papaya_gate.proofs.Gates.{holds_keyless}

pub send : IsSend the_row
send = record {
  owned = λ d vs. ((λ vss. (tt, ((λ uss. (tt, tt)), tt))), holds_keyless (eras_name d.names) (leave_name d.names) d.era full_share);
  leaving = λ k f vs. tt;
}
