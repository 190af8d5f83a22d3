use Rattle.papaya_map_change.proofs.insertion.Insertion.begin.Goals as goal

pub new-requires-clause-chunked : goal.new-requires-clause-chunked
new-requires-clause-chunked g c = c.args.book.now.chunked
