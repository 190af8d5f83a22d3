use Rattle.papaya_map_change.proofs.HelpingFollows.{small_size}
use Rattle.papaya_map_change.proofs.copier.turn.Goals as goal

pub returns-clause-size : goal.returns-clause-size
returns-clause-size g c = small_size
