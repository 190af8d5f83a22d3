use Rattle.std.proofs.Common.{sym}
use Rattle.papaya_seq.proofs.Equal.{decided_none, decided_some}
use Rattle.papaya_seq.proofs.seq.HashMap.has_equal.Goals as goal

pub returns-in-Some : goal.returns-in-Some
returns-in-Some g c = decided_some g.K.PartialEq.eq g.V.PartialEq.eq c.args.self.now.store c.args.key.now c.args.value.now c.in-Some.there.now _
    (sym (c.in-Some.ensures.map c.args.key.now (g.met.K.Eq.laws.refl c.args.key.now))) c.eq.ensures

pub returns-in-None : goal.returns-in-None
returns-in-None g c = decided_none g.K.PartialEq.eq g.V.PartialEq.eq c.args.self.now.store c.args.key.now c.args.value.now
    (sym (c.in-None.ensures.map c.args.key.now (g.met.K.Eq.laws.refl c.args.key.now)))
