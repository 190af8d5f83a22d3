use Rattle.papaya_map_scan.proofs.Leaving.{kept_drops}
use Rattle.papaya_map.proofs.Cleared.{none_left}
use Rattle.papaya_map.proofs.session.Session.clear.Goals as goal

pub returns-clause-cleared : goal.returns-clause-cleared
returns-clause-cleared g c = none_left g.K.PartialEq.eq c.args.self.now.history c.retain.new.self.history c.args.self.now.made
    c.retain.new.self.made _ _ (λ f p stays h judged. judged.3.met) c.retain.result c.retain.ensures.kept

pub returns-clause-made : goal.returns-clause-made
returns-clause-made g c = kept_drops g.K.PartialEq.eq c.args.self.now.history c.retain.new.self.history _ _ c.retain.result c.args.self.now.made
    c.retain.new.self.made c.retain.ensures.kept
