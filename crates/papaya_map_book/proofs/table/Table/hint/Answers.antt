use Rattle.std.proofs.Common.{ℕ, ◌/◌, ◌<◌, length, sym, subst}
use Rattle.papaya_map_book.specs.Sheets.{HoldsHint, Sheet}
use Rattle.papaya_map_book.proofs.table.Table.hint.Goals as goal

pub index-requires : goal.index-requires
index-requires g c =
    let within = subst (λ (s : Sheet). c.args.place < length s.slots) (sym c.self.view_is) c.requires in
    subst (λ (n : ℕ). c.args.place / 8 < n) (sym c.self.inside.hints.ok.0) (c.self.invariant.5 c.args.place c.self.inside.aborted within).0

pub returns : goal.returns
returns g c =
    let t = c.self.inside in let word = c.index.result.now in let place = c.args.place in
    let within = subst (λ (s : Sheet). place < length s.slots) (sym c.self.view_is) c.requires in
    subst (λ (s : Sheet). HoldsHint s.book s.slots place word) c.self.view_is
    (subst (HoldsHint t.aborted.book _ place) (sym c.index.ensures) (c.self.invariant.5 place word within).1)
