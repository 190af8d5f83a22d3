use Rattle.papaya_map.proofs.OwnEntries.{entry_of}
use Rattle.papaya_map.proofs.pass.Pass.tell.Given as goal

abbrev pub ghost-tell : goal.ghost-tell
ghost-tell g a = entry_of g.row.K.Denot g.row.V.Denot g.row.S.Denot
