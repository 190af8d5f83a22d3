use denote.RattleType.{RattleType}
use denote.Param.Send.{IsSend}
use Rattle.papaya_map_cells.proofs.Sent.{told_keyless}
use Rattle.papaya_map_cells.specs.contracts.arena_slot.ArenaSlot.{the_row}

pub send : (T : RattleType) → IsSend T → IsSend (the_row T)
send T s = record {
  owned = λ d vs. (
    (λ _. tt),
    λ u. (
      (λ vss. (tt, (s.owned u.0 vss.0, tt))),
      (tt, (told_keyless T d u.1, λ _. tt)),
    ),
  );
  leaving = λ k d w. tt;
}
