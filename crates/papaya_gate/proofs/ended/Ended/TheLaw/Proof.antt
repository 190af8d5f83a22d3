-- A `&` to the end of a gate holds the fact, which can be copied. Assumes `Logic`.
use base.Logic.{snd∗}
use base.Before.{before}
use types.Logic.{sem}
use denote.RattleType.{RattleType}
use denote.Param.Laws.{Laws}
use denote.Param.Shared.{copy_shared}
use denote.Struct.Laws.{field_copy}
use denote.Struct.Lending.{of_Lends}
use Rattle.std.specs.contracts.marker.PhantomData as marker
use Rattle.logbook.proofs.Fields.{lends_twice}
use Rattle.papaya_gate.specs.Kept.{ended_owns}
use Rattle.papaya_gate.proofs.Gates.{ended_twice}
use Rattle.papaya_gate.specs.contracts.ended.Ended as C
use Rattle.papaya_gate.proofs.ended.Ended.TheLaw.Statement.{statement}

pub shares : (E : RattleType) (L : Laws E) → statement E L
shares E L =
    of_Lends (C.struct E) (C.the_codes E.Denot E.coded (marker.the_row E).coded) (C.the_heap E) (C.the_lent E)
    (λ d p. record {
      contraction = λ M 𝓤 𝓛 κ. ended_twice 𝓛 E.coded d.names d.eras d.author;
      mono = λ M 𝓤 𝓛 κ' κ. snd∗ 𝓤 (sem 𝓛 (before κ' κ)) (sem 𝓛 (ended_owns E.coded.code d.names d.eras d.author));
    })
    (copy_shared (marker.the_field E) (field_copy (marker.the_type E) tt), tt)
    (λ M 𝓤 𝓛 d p. lends_twice 𝓛 (ended_owns E.coded.code d.names d.eras d.author)
    (ended_twice 𝓛 E.coded d.names d.eras d.author) (C.the_row E).lives)
