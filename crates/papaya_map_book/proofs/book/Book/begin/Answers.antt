use Rattle.std.proofs.Common.{◌≡◌, ℕ, ◌+◌, List, subst, sym, ap, ◌∙◌, arith}
use Rattle.logbook.specs.Pages.{Calm, Nib}
use Rattle.papaya_gate.specs.Kept.{gated, inner_names}
use Rattle.papaya_map_book.specs.Changes.{is_change}
use Rattle.papaya_map_book.specs.Offer.{held}
use Rattle.papaya_map_book.specs.contracts.rule.entry.Event.{the_row as EventOf}
use Rattle.papaya_map_book.specs.contracts.rule.pair.Pair.{the_row as PairOf}
use Rattle.papaya_map_book.specs.contracts.rule.entry.Sheet.{the_row as SheetRow}
use Rattle.papaya_map_book.specs.Hashes.{hash_of}
use Rattle.papaya_map_book.specs.Parts.{begun_of}
use Rattle.papaya_map_book.specs.Tokens.{stands}
use Rattle.papaya_map_book.specs.declared.rule.entry.Event.TheVariants.{Called}
use Rattle.papaya_map_arena.specs.Tokens.{stands as pair_stands}
use Rattle.papaya_map_arena.proofs.Made.{stands_keyless as pair_stands_keyless}
use Rattle.papaya_map_book.proofs.Makers.{calls_moves}
use Rattle.papaya_map_book.proofs.Opening.{opens_kept, row_is, stands_keyless}
use Rattle.papaya_map_book.proofs.Offers.{held_keyless}
use Rattle.papaya_map_book.proofs.book.Book.begin.Goals as goal

pub begin-start-requires : goal.begin-start-requires
begin-start-requires g c =
    λ xs. held_keyless (pair_stands (PairOf g.row.K g.row.V)) (stands SheetRow) (pair_stands_keyless (PairOf g.row.K g.row.V)) (stands_keyless SheetRow) xs

pub open_row-begun-requires : goal.open_row-begun-requires
open_row-begun-requires g c =
    let hash = hash_of g.K.Hash.hash_input g.S.BuildHasher.build_hasher g.S.Hasher.Hasher.write g.S.Hasher.Hasher.finish in (
      opens_kept g.K.PartialEq.eq hash (begun_of c.args.parts) 4611686018427387907 (ap (λ (n : ℕ). 3 + n) (sym row_is)),
      subst (λ (names : List ℕ). Calm (gated (EventOf g.row.K g.row.V g.row.S).coded.code (λ inner log. held (pair_stands (PairOf g.row.K g.row.V)) (stands SheetRow) log)
          is_change names)) (sym c.begin-start.ensures.0) c.begin-start.ensures.4,
      c.begin-start.ensures.1 ∙ c.begin.ensures.1,
    )

pub with_row-offer-requires : goal.with_row-offer-requires
with_row-offer-requires g c =
    let row = c.open_row-begun.ensures in let one = c.take-pen.ensures.rest in let two = c.take-pen-2.ensures.rest in let three = c.take-pen-3.ensures.rest in
    let first = row.3 in let count = row.4 in let a = one.1 in let b = two.1 in let d = three.1 in let a' = one.2 in let b' = two.2 in
    let d' = three.2 in let r = row_is in
    (omega arith, omega arith)

pub unpaid-found-requires : goal.unpaid-found-requires
unpaid-found-requires g c =
    let hash = hash_of g.K.Hash.hash_input g.S.BuildHasher.build_hasher g.S.Hasher.Hasher.write g.S.Hasher.Hasher.finish in
    let row = c.open_row-begun in let second = c.take-pen-2.ensures.pen in let rest = c.take-pen.ensures.rest in
    let book : c.tracked-maker.result.book ≡ row.result.0.book = ap (λ w. w.book) c.tracked-maker.ensures.0 ∙ (second.0 ∙ (rest.0 ∙ row.ensures.2)) in
    let key : c.tracked-maker.result.key ≡ 1 = ap (λ w. w.key) c.tracked-maker.ensures.0
    ∙ (ap (λ (p : Nib). p.key) second.1 ∙ (rest.1 ∙ ap (λ n. n + 1) row.ensures.3)) in
    let whole : c.take-pen-3.new.self.book ≡ row.result.0.book = c.take-pen-3.ensures.rest.0 ∙ (c.take-pen-2.ensures.rest.0 ∙ (rest.0 ∙ row.ensures.2)) in
    let ask = c.with_row-offer.ensures.1 ∙ ap (λ b. Called b) whole in (
      ap (λ w. w.tracked) c.tracked-maker.ensures.0,
      sym book,
      c.no_pen-pen.ensures.0 ∙ sym book,
      c.with_row-offer.ensures.0 ∙ ap (λ z. inner_names z.names) c.again-known.ensures,
      rw (key, c.no_pen-pen.ensures.1, ask, c.with_row-offer.ensures.3) (calls_moves g.K.PartialEq.eq hash row.result.0.log row.result.0.book),
    )
