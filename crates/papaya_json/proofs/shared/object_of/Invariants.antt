use Rattle.std.specs.Fn.{FnReturnsAt}
use Rattle.papaya_map.proofs.Yielded.{HasYielded}
use Rattle.papaya_json.proofs.Building.{IsBuilt}
use Rattle.papaya_json.proofs.shared.object_of.Given as goal

-- the object is that of the entries so far
abbrev pub invariant-loop-k : goal.invariant-loop-k
invariant-loop-k g l = HasYielded g.K.PartialEq.eq l.fn.pairs l.pairs
    × IsBuilt (FnReturnsAt g.T.Fn l.fn.key) (FnReturnsAt g.W.Fn l.fn.value) l.pairs.given l.members.entries l.clash
