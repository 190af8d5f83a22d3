use Rattle.papaya_seq.specs.Searches.{IsProbeHit, left_at}
use Rattle.papaya_seq.specs.declared.search.ProbeHit.TheVariants.{Next}
use Rattle.papaya_seq.proofs.search.search.Given as goal

-- the iterations so far brought the search from the first place to this one
abbrev pub invariant-loop-next : goal.invariant-loop-next
invariant-loop-next g l = IsProbeHit (g.Q.Equivalent.matches l.key) l.store l.hash l.fn.at (Next l.place)

-- the answers that are left to the search
abbrev pub decreases-loop-next : goal.decreases-loop-next
decreases-loop-next g l = left_at l.place
