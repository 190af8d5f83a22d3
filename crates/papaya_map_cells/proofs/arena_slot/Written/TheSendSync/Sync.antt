use denote.RattleType.{RattleType}
use denote.Param.Send.{IsSync, sendable}
use denote.Struct.Owning.{shape}
use denote.Struct.Struct.{Struct}
use Rattle.papaya_map_cells.specs.contracts.arena_slot.Written.{the_row, the_type}

pub sync : (T : RattleType) → IsSync (the_row T)
sync T =
    let fields : IsSync (Struct (shape (the_type T))) = search sendable depth 20 in
    record { shared = λ d b o κ. (fields.shared (tt, tt) b o κ, tt) }
