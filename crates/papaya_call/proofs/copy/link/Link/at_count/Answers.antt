use Rattle.std.proofs.Common.{◌≤◌, ◌^◌, max, ◌∙◌, sym, subst, ap, arith}
use Rattle.std.specs.Int.{IsPowerOfTwo}
use Rattle.papaya_words.proofs.Lengths.{table_power}
use Rattle.papaya_call.specs.Link.{IsValidLink}
use Rattle.papaya_call.proofs.copy.link.Link.at_count.Goals as goal

-- the next length is a power of two as this one is
pub returns-in-Ok-clause-valid : goal.returns-in-Ok-clause-valid
returns-in-Ok-clause-valid c =
    let at = c.in-Counting in
    let stands = subst IsValidLink at.is c.requires.valid in
    let asked = c.in-Ok.ensures in
    let power = table_power at.len c.args.count c.args.initial at.unfit stands.0 c.requires.initial in
    let most : max c.in-Ok.next 8 ≤ 2 ^ 32 = let a = asked.0 in let b = asked.1 in omega (arith, a, b) in
    record {
      power = subst IsPowerOfTwo (sym (c.table_len-next.ensures ∙ ap (λ y. max y 8) asked.0)) power;
      most = subst (λ y. y ≤ 2 ^ 32) (sym c.table_len-next.ensures) most;
      few = c.next_limit.ensures.small (subst (λ y. y ≤ 2 ^ 32) (sym c.table_len-next.ensures) most);
    }
