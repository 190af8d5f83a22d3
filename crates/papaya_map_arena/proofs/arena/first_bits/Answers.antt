use Rattle.std.proofs.Common.{rules, arith, ◌≤◌, ◌<◌, ◌^◌, ◌-◌}
use Rattle.papaya_map_arena.proofs.Powers.{top_is_below, top_is_from}
use Rattle.papaya_map_arena.proofs.arena.first_bits.Goals as goal

pub returns : goal.returns
returns c =
    let low = c.ilog2.ensures.power_le in let high = c.ilog2.ensures.next_power_gt in
    let last = c.min-part.result - 1 in
    let from : 3 ≤ last = search rules in let below : last < 2 ^ 38 = search rules in
    let a = top_is_from last c.ilog2.result low high 1 (omega arith) in
    let b = top_is_below last c.ilog2.result low high 38 below in
    (omega arith, omega arith)
