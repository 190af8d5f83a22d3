use Rattle.std.proofs.Common.{◌≡◌, length}
use Rattle.papaya_map_arena.proofs.lanes.Lanes.new.Given as goal

abbrev pub invariant-loop : goal.invariant-loop
invariant-loop l = length l.lanes.items ≡ l.counter
