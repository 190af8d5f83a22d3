use Rattle.std.proofs.Common.{rules, arith, ◌≡◌, ◌≤◌, ◌<◌, ◌^◌, ◌-◌, ◌+◌, suc, min, subst, sym, ap, ◌∙◌, ℕ}
use Rattle.papaya_map_arena.proofs.Powers.{top_is_below, top_is_from}
use Rattle.papaya_map_arena.specs.Rows.{part_len, part_first}
use Rattle.papaya_map_arena.proofs.arena.place_of.Goals as goal

pub overflow_sub-result : goal.overflow_sub-result
overflow_sub-result c = top_is_from c.args.index c.ilog2-top.result c.ilog2-top.ensures.power_le c.ilog2-top.ensures.next_power_gt c.args.first_bits
    (search rules)

pub power-requires-2 : goal.power-requires-2
power-requires-2 c = let below = top_is_below c.args.index c.ilog2-top.result c.ilog2-top.ensures.power_le c.ilog2-top.ensures.next_power_gt 39
    c.requires.index in omega arith

pub returns-clause-row : goal.returns-clause-row
returns-clause-row c =
    let below = top_is_below c.args.index c.ilog2-top.result c.ilog2-top.ensures.power_le c.ilog2-top.ensures.next_power_gt 39 c.requires.index in
    let from = c.requires.bits.0 in omega arith

pub returns-clause-slot : goal.returns-clause-slot
returns-clause-slot c =
    let top = c.ilog2-top.result in let bits = c.args.first_bits in
    let below : top < 39 = top_is_below c.args.index top c.ilog2-top.ensures.power_le c.ilog2-top.ensures.next_power_gt 39 c.requires.index in
    let from : bits ≤ top = top_is_from c.args.index top c.ilog2-top.ensures.power_le c.ilog2-top.ensures.next_power_gt bits (search rules) in
    let power : c.power-2.result ≡ 2 ^ top = search rules in
    let exponent : min (bits + (top - bits)) 38 ≡ top = omega arith in
    let len : part_len bits (top - bits + 1) ≡ 2 ^ top = ap (part_len bits) (let e : top - bits + 1 ≡ suc (top - bits) = omega arith in e)
    ∙ ap (λ (k : ℕ). 2 ^ k) exponent in
    let high = c.ilog2-top.ensures.next_power_gt in let low = c.ilog2-top.ensures.power_le in
    subst (λ (n : ℕ). c.args.index - c.power-2.result < n) (sym len) (omega arith)

pub returns-clause-push : goal.returns-clause-push
returns-clause-push c =
    let top = c.ilog2-top.result in let bits = c.args.first_bits in
    let below : top < 39 = top_is_below c.args.index top c.ilog2-top.ensures.power_le c.ilog2-top.ensures.next_power_gt 39 c.requires.index in
    let from : bits ≤ top = top_is_from c.args.index top c.ilog2-top.ensures.power_le c.ilog2-top.ensures.next_power_gt bits (search rules) in
    let power : c.power-2.result ≡ 2 ^ top = search rules in
    let exponent : min (bits + (top - bits)) 38 ≡ top = omega arith in
    let first : part_first bits (top - bits + 1) ≡ 2 ^ top = ap (part_first bits) (let e : top - bits + 1 ≡ suc (top - bits) = omega arith in e)
    ∙ ap (λ (k : ℕ). 2 ^ k) exponent in
    let low = c.ilog2-top.ensures.power_le in
    subst (λ (n : ℕ). n + (c.args.index - c.power-2.result) ≡ c.args.index) (sym first) (omega arith)
