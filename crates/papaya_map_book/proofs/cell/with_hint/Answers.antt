use Rattle.std.proofs.Common.{◌≡◌, ℕ, ◌+◌, ◌*◌, ◌%◌, ◌^◌, ◌<◌, sym, ap, ◌∙◌, subst, arith}
use Rattle.std.proofs.lemmas.Nat.{mod_below, shl_whole}
use Rattle.papaya_map_book.specs.Hinted.{byte_of}
use Rattle.papaya_map_book.proofs.Bytes.{fits, other_byte, this_byte}
use Rattle.papaya_map_book.proofs.cell.with_hint.Goals as goal

pub overflow_add-result : goal.overflow_add-result
overflow_add-result c =
    let j = c.args.place % 8 in let h = c.from.result in let is : h ≡ c.args.hint = c.from.ensures in
    let small : h < 2 ^ 8 = subst (λ (x : ℕ). x < 2 ^ 8) (sym is) c.ranges.hint.fits in
    let within : j < 8 = mod_below c.args.place 8 (omega arith) in
    let whole : h * 2 ^ (j * 8) % 2 ^ 64 ≡ h * 2 ^ (j * 8) = shl_whole h 8 (j * 8) 64 small (omega (arith, within)) in
    record { fits = subst (λ (x : ℕ). c.args.hints + x < 2 ^ 64) (sym whole) (fits c.args.hints h j small c.requires within c.ranges.hints.fits) }

pub returns-clause-this : goal.returns-clause-this
returns-clause-this c =
    let j = c.args.place % 8 in let h = c.from.result in let is : h ≡ c.args.hint = c.from.ensures in
    let small : h < 2 ^ 8 = subst (λ (x : ℕ). x < 2 ^ 8) (sym is) c.ranges.hint.fits in
    let within : j < 8 = mod_below c.args.place 8 (omega arith) in
    let whole : h * 2 ^ (j * 8) % 2 ^ 64 ≡ h * 2 ^ (j * 8) = shl_whole h 8 (j * 8) 64 small (omega (arith, within)) in
    ap (λ (x : ℕ). byte_of j (c.args.hints + x)) whole ∙ (this_byte c.args.hints h j small c.requires ∙ is)

pub returns-clause-others : goal.returns-clause-others
returns-clause-others c = λ i lt apart.
    let j = c.args.place % 8 in let h = c.from.result in let is : h ≡ c.args.hint = c.from.ensures in
    let small : h < 2 ^ 8 = subst (λ (x : ℕ). x < 2 ^ 8) (sym is) c.ranges.hint.fits in
    let within : j < 8 = mod_below c.args.place 8 (omega arith) in
    let whole : h * 2 ^ (j * 8) % 2 ^ 64 ≡ h * 2 ^ (j * 8) = shl_whole h 8 (j * 8) 64 small (omega (arith, within)) in
    ap (λ (x : ℕ). byte_of i (c.args.hints + x)) whole ∙ other_byte c.args.hints h j small c.requires i apart
