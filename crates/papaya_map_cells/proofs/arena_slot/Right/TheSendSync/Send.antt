use denote.Param.Send.{IsSend}
use types.Keyed.{token, entry_keyless}
use Rattle.papaya_map_cells.specs.contracts.arena_slot.Right.{the_row}

pub send : IsSend the_row
send = record {
  owned = λ d vs. ((λ vss. (tt, ((λ uss. (tt, tt)), tt))), entry_keyless token d.counter d.number tt);
  leaving = λ k f vs. tt;
}
