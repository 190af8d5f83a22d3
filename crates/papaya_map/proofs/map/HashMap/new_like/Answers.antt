use Rattle.papaya_map_book.specs.Limits.{tables_of}
use Rattle.papaya_map.proofs.FirstTable.{has_first}
use Rattle.papaya_map.proofs.map.HashMap.new_like.Goals as goal

pub returns-clause-opened : goal.returns-clause-opened
returns-clause-opened g c = has_first c.self.inside.initial c.pairs_for-capacity.result c.in_ok-initial.initial (tables_of c.in_ok-opened.opened.log)
    c.pairs_for-capacity.ensures c.in_ok-initial.ensures.ok.1 c.in_ok-opened.ensures.came
