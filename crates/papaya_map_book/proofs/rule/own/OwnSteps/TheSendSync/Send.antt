-- The type owns nothing, so a value of it may be sent to another thread.
use denote.RattleType.{RattleType}
use denote.Param.Send.{IsSend, owning_send, sendable}
use Rattle.papaya_map_book.specs.contracts.rule.own.OwnSteps.{the_row, the_type}

pub send : (T : RattleType) → IsSend (the_row T)
send T = owning_send (the_type T) (search sendable, tt) (λ d. tt) (λ k x w. tt)
