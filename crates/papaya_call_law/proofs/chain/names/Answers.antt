use Rattle.std.proofs.Common.{ap}
use Rattle.papaya_call.specs.ChainMachine.{kind_in}
use Rattle.papaya_call_law.proofs.Names.{call_asks, copies_there}
use Rattle.papaya_call_law.proofs.chain.names.Goals as goal

pub returns-clause-calls : goal.returns-clause-calls
returns-clause-calls g c = λ h d begun since k m loaded r ask e. let is = call_asks m ask e in (r.call, is.1, ap (kind_in m.call) is.0)

pub returns-clause-copies : goal.returns-clause-copies
returns-clause-copies g c = λ h d hashed begun since may k m loaded r ask e. copies_there h d hashed begun since may k m loaded r ask e
