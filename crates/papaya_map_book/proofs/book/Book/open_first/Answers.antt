use Rattle.std.proofs.Common.{◌≡◌, ℕ, ◌+◌, ◌==◌, length, refl, sym, ap, ◌∙◌, subst, arith}
use Rattle.std.specs.Prelude.{max}
use Rattle.papaya_call.specs.Search.{IsSize}
use Rattle.papaya_words_keys.proofs.TableSizes.{table_size}
use Rattle.papaya_words.specs.Probe.{IsLimit}
use Rattle.papaya_map_book.specs.Hashes.{hash_of}
use Rattle.papaya_map_book.specs.Makers.{IsMade}
use Rattle.papaya_map_book.specs.Parts.{begun_of}
use Rattle.papaya_map_book.specs.Sheets.{Sheet}
use Rattle.papaya_map_book.proofs.Lengths.{table_slots}
use Rattle.papaya_map_book.proofs.Opened.{opened_here}
use Rattle.papaya_map_book.proofs.book.Book.open_first.Goals as goal

pub lay_table-requires-clause-size : goal.lay_table-requires-clause-size
lay_table-requires-clause-size g c =
    let limit : IsLimit (max c.args.initial 8) c.limit.result = subst (λ (n : ℕ). IsLimit n c.limit.result) c.table_len-len.ensures c.limit.ensures.log in
    subst (λ (n : ℕ). IsSize n c.limit.result) (sym c.table_len-len.ensures) (table_size c.args.initial c.limit.result c.requires.0.0 c.requires.1 limit)

pub returns-clause-lawful : goal.returns-clause-lawful
returns-clause-lawful g c = c.open-found.ensures.tried.now

pub returns-clause-came : goal.returns-clause-came
returns-clause-came g c =
    let hash = hash_of g.K.Hash.hash_input g.S.BuildHasher.build_hasher g.S.Hasher.Hasher.write g.S.Hasher.Hasher.finish in
    let w = c.in-Ok.table in let log = c.open-found.new.sight.log in
    let here = opened_here g.K.PartialEq.eq hash (begun_of c.args.self.now.parts) (w.index + 1) w c.lay_table.new.sight.log c.open-found.result.0 log
    c.open-found.result.1.state c.open-found.ensures.tried (ap (λ n. n == 0) c.if-found-ne0.false) refl in
    let long : length w.value.slots ≡ max c.args.initial 8 = ap (λ (z : Sheet). length z.slots) c.in-Ok.ensures.table ∙ (c.in-Some.ensures.size.0 ∙ c.table_len-len.ensures) in
    (length w.value.slots, omega (arith, long), table_slots log (w.index + 1) w.value here)

pub open-found-requires-clause-made : goal.open-found-requires-clause-made
open-found-requires-clause-made g c = subst (λ (z : Sheet). IsMade z c.lay_table.new.sight.log) (sym c.in-Ok.ensures.table) c.in-Some.ensures.made
