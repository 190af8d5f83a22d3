-- The type owns nothing, so a value of it may be sent to another thread.
use denote.RattleType.{RattleType}
use denote.Param.Send.{IsSend, owning_send, sendable}
use Rattle.papaya_map_scan.specs.contracts.yielded.Yielded.{the_row, the_type}

pub send : (K V : RattleType) → IsSend (the_row K V)
send K V = owning_send (the_type K V) (search sendable, tt) (λ d. tt) (λ k x w. tt)
