use Rattle.papaya_words.proofs.Places.{places_distinct}
use Rattle.papaya_words.proofs.probe.places_differ.Goals as goal

pub returns : goal.returns
returns c = places_distinct
