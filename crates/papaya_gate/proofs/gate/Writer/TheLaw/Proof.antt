-- A `&` to a writer holds a share of what it owns. Assumes `Logic`.
use denote.RattleType.{RattleType}
use denote.Param.Laws.{Laws}
use denote.Param.Shared.{copy_shared}
use denote.SharingLaws.{one_shr_laws}
use denote.Struct.Laws.{field_copy}
use denote.Struct.Lending.{of_Lends}
use Rattle.std.specs.contracts.marker.PhantomData as marker
use Rattle.papaya_gate.specs.Kept.{writer_holds}
use Rattle.papaya_gate.proofs.Gates.{writer_lends}
use Rattle.papaya_gate.specs.contracts.gate.Writer as C
use Rattle.papaya_gate.proofs.gate.Writer.TheLaw.Statement.{statement}

pub shares : (E : RattleType) (L : Laws E) → statement E L
shares E L =
    of_Lends (C.struct E) (C.the_codes E.Denot E.coded (marker.the_row E).coded) (C.the_heap E) (C.the_lent E)
    (λ d p. one_shr_laws (writer_holds E.coded.code d.author)) (copy_shared (marker.the_field E) (field_copy (marker.the_type E) tt), tt)
    (λ M 𝓤 𝓛 d p. writer_lends 𝓛 E.coded d.author (C.the_row E).lives)
