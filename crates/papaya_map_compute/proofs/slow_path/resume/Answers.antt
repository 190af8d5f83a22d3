use Rattle.papaya_map_compute.proofs.slow_path.resume.Goals as goal

pub new-call-requires-clause-chunked : goal.new-call-requires-clause-chunked
new-call-requires-clause-chunked g c = c.args.book.now.chunked

pub returns-clause-machine : goal.returns-clause-machine
returns-clause-machine g c = λ i. record (c.new-call.ensures.machine i) { call = record (c.new-call.ensures.machine i).call { remembered = c.args.remembered } }
