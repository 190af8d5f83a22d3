use Rattle.std.proofs.Common.{rules, arith, pow_pos}
use Rattle.papaya_map_arena.proofs.Powers.{small}
use Rattle.papaya_map_arena.proofs.arena.power.Goals as goal

pub returns : goal.returns
returns c =
    let fits = small c.args.bits (search rules) in let some = pow_pos c.args.bits in
    (omega arith, omega arith, omega arith)
