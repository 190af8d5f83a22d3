use denote.RattleType.{RattleType}
use denote.Param.Send.{IsSend, IsSync}
use Rattle.core.proofs.atomic.Sent.{chain-Keyless}
use Rattle.papaya_map_cells.proofs.Sent.{told_keyless, tie_keyless, lent_keyless}
use Rattle.papaya_map_cells.specs.contracts.arena_slot.ArenaSlot.{the_row}

pub sync : (T : RattleType) → IsSend T → IsSync T → IsSync (the_row T)
sync T s y = record {
  shared = λ d b o κ t. (
    (λ νs. chain-Keyless νs κ t.0),
    (λ u. (tt, (told_keyless T d u, (tie_keyless T d t b o u, lent_keyless T d s y t b o u)))),
  );
}
