use denote.Param.Send.{IsSync, sendable}
use denote.Struct.Struct.{Struct}
use denote.Struct.Owning.{shape}
use Rattle.papaya_gate.specs.contracts.gate.Gate.{the_row, the_type}
use Rattle.papaya_gate.specs.Kept.{eras_name, leave_name}
use Rattle.papaya_gate.proofs.Gates.{holds_keyless}

pub sync : IsSync the_row
sync = let fields : IsSync (Struct (shape the_type)) = search sendable depth 20 in
    record { shared = λ d b o ν. (fields.shared (tt, tt) b o ν, λ q. holds_keyless (eras_name d.names) (leave_name d.names) d.era q) }
