use Rattle.std.proofs.Common.{OnOk, subst}
use Rattle.papaya_seq.specs.Map.{MapState}
use Rattle.papaya_seq.specs.Resizes.{HasRoomFor}
use Rattle.papaya_set.proofs.seq.HashSet.reserve.Goals as goal

-- src/seq.rt:246:5
pub returns-clause-ok : goal.returns-clause-ok
returns-clause-ok g c = subst (λ (s : MapState _ _ _).
    OnOk c.reserve.result (HasRoomFor g.K.PartialEq.eq s.store c.args.additional c.reserve.new.self.store)) c.self.view_is c.reserve.ensures.ok
