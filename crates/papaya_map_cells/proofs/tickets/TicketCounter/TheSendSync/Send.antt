use denote.Param.Send.{IsSend}
use Rattle.papaya_map_cells.proofs.Sent.{held_keyless}
use Rattle.papaya_map_cells.specs.contracts.tickets.TicketCounter.{the_row}

pub send : IsSend the_row
send = record {
  owned = λ d vs. ((λ _. tt), λ n. ((λ vss. (tt, ((tt, tt), tt))), held_keyless d n));
  leaving = λ k f vs. tt;
}
