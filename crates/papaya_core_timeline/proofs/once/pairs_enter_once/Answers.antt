use Rattle.papaya_core_timeline.proofs.EntersOnce.{never_back, timeline_steady}
use Rattle.papaya_core_timeline.proofs.once.pairs_enter_once.Goals as goal

pub returns-clause-steady : goal.returns-clause-steady
returns-clause-steady g c = λ schedule start h maps said t. timeline_steady g.K.PartialEq.eq schedule start h maps said t

pub returns-clause-lost : goal.returns-clause-lost
returns-clause-lost g c = λ j p newer lost older steady not_there was. never_back j p lost older not_there was newer steady
