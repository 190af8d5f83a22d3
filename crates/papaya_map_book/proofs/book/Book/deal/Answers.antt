use Rattle.std.proofs.Common.{◌≡◌, ◌+◌, ◌≤◌, Some, sym, ap, ◌∙◌, arith}
use Rattle.papaya_map_book.specs.Hashes.{hash_of}
use Rattle.papaya_map_book.specs.Logs.{name_in}
use Rattle.papaya_map_book.specs.Rows.{row_len}
use Rattle.papaya_map_book.proofs.Logs.{name_since, prefix_trans}
use Rattle.papaya_map_book.proofs.Makers.{deals_moves}
use Rattle.papaya_map_book.proofs.Opening.{row_is}
use Rattle.papaya_map_book.proofs.book.Book.deal.Goals as goal

pub loop-init : goal.loop-init
loop-init g c =
    let w = c.args.self.now in let l = c.learn.ensures in record {
      book = l.0 ∙ c.requires;
      seen = l.2;
      called = name_since w.begun.log c.learn.new.self.log w.begun.book l.3 w.called;
    }

pub unpaid-found-requires : goal.unpaid-found-requires
unpaid-found-requires g c =
    let hash = hash_of g.K.Hash.hash_input g.S.BuildHasher.build_hasher g.S.Hasher.Hasher.write g.S.Hasher.Hasher.finish in
    let maker = c.args.self.now.maker_is in let i = c.loop.invariant in let v = c.loop.sight in
    let book : v.book ≡ c.args.self.now.maker.book = i.book ∙ sym (ap (λ w. w.book) maker) in
    let called : name_in v.log ≡ Some v.book = i.called ∙ ap (λ b. Some b) (sym i.book) in
    let room : c.loop.old + c.args.count ≤ 1 + row_len = let few = c.if-count-gt-ROW_LEN.false in let low = c.if-old-count.false in let r = row_is in
    omega arith in (
      ap (λ w. w.tracked) maker,
      book,
      c.no_pen-pen.ensures.0 ∙ book,
      c.drawing-draw.ensures.0,
      rw (ap (λ w. w.key) maker, c.no_pen-pen.ensures.1, c.drawing-draw.ensures.1, c.drawing-draw.ensures.3)
          (deals_moves g.K.PartialEq.eq hash v.log v.book called c.loop.old c.args.count room),
    )

pub loop-preserved : goal.loop-preserved
loop-preserved g c =
    let i = c.loop.invariant in let x = c.unpaid-found in let v = c.loop.sight.log in let log = x.new.seen.log in record {
      book = x.ensures.0 ∙ i.book;
      seen = prefix_trans c.args.sight.now.log v log i.seen x.ensures.6;
      called = name_since v log c.args.self.now.begun.book x.ensures.6 i.called;
    }
