use Rattle.std.proofs.Common.{◌≡◌, ℕ, ◌<◌, Some, slice_get, length, sym, subst}
use Rattle.papaya_map_book.specs.Sheets.{Sheet, word_named}
use Rattle.papaya_map_book.proofs.Tables.{slot_word}
use Rattle.papaya_map_book.proofs.table.Table.done.Goals as goal

pub returns : goal.returns
returns g c =
    let t = c.self.inside in let chunk = c.args.chunk in
    let within = subst (λ (s : Sheet). chunk < length s.done) (sym c.self.view_is) c.requires in
    subst (λ (s : Sheet). (k : ℕ) × (slice_get s.done chunk ≡ Some k) × (c.index.result.now ≡ word_named s.book k)) c.self.view_is
    (slot_word t.aborted.book t.done.items chunk c.index.result.now c.self.invariant.2 within c.index.ensures)
