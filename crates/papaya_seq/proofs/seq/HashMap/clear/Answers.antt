use Rattle.std.proofs.Common.{rules}
use Rattle.papaya_core_timeline.specs.Content.{content}
use Rattle.papaya_seq.proofs.Sifted.{ok_then, retains_none}
use Rattle.papaya_seq.proofs.seq.HashMap.clear.Goals as goal

pub returns-clause-ok : goal.returns-clause-ok
returns-clause-ok g c =
    ok_then c.retain.result c.retain.ensures.ok
    (λ x. retains_none _ (λ f f' key value agrees called. let met = called.met in search rules) _ x.shown
    (content g.K.PartialEq.eq c.retain.new.self.store) x.end x.retains)
