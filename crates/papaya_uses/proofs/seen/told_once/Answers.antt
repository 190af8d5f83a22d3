use Rattle.papaya_uses.proofs.SeenLemmas.{once}
use Rattle.papaya_uses.proofs.seen.told_once.Goals as goal

pub returns : goal.returns
returns g item old one old' other all legal met pre met' pre' = once item all legal old one old' other met pre met' pre'
