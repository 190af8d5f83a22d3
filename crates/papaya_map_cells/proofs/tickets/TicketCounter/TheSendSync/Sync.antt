use denote.Param.Send.{IsSync}
use Rattle.core.proofs.atomic.Sent.{chain-Keyless}
use Rattle.papaya_map_cells.proofs.Sent.{held_keyless}
use Rattle.papaya_map_cells.specs.contracts.tickets.TicketCounter.{the_row}

pub sync : IsSync the_row
sync = record {
  shared = λ d b o κ α. ((λ νs. chain-Keyless νs κ α), λ n. (tt, held_keyless d n));
}
