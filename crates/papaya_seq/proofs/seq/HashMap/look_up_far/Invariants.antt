use Rattle.std.proofs.Common.{length}
use Rattle.papaya_call.specs.declared.call.Task.TheVariants.{Get}
use Rattle.papaya_call.specs.Machine.{started}
use Rattle.papaya_seq.proofs.LookSteps.{IsLookUp, lookup_left}
use Rattle.papaya_seq.proofs.LookTurns.{numbered}
use Rattle.papaya_seq.proofs.seq.HashMap.look_up_far.Given as goal

-- the machine of the lookup, which is never run, has loaded the number of this table
abbrev pub invariant-loop-table : goal.invariant-loop-table
invariant-loop-table g l =
    let begun = started Get l.hash l.self.mode.resize l.self.initial l.self.mode.limit in
    IsLookUp (g.Q.Equivalent.matches l.key) l.self.store begun (record begun { state = numbered l.number })

-- the steps that are left to it
abbrev pub decreases-loop-table : goal.decreases-loop-table
decreases-loop-table g l = lookup_left (length l.self.store.words.tables)
    (record (started Get l.hash l.self.mode.resize l.self.initial l.self.mode.limit) { state = numbered l.number })
