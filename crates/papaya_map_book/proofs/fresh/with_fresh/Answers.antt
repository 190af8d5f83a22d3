use Rattle.std.proofs.Common.{List, [], ◌∷◌, length, sym, ap, ◌∙◌, subst, arith, length-append}
use Rattle.logbook.specs.Pages.{Named}
use Rattle.papaya_map_book.specs.Sheets.{AreFresh}
use Rattle.papaya_map_book.proofs.FreshMore.{fresh_more}
use Rattle.papaya_map_book.proofs.fresh.with_fresh.Goals as goal

pub loop-preserved : goal.loop-preserved
loop-preserved g c = let i = c.loop.invariant in let pushed = c.push_reserved.ensures in (
  subst AreFresh (sym pushed.items) (fresh_more c.loop.slots.items c.hint.result i.0 c.hint.ensures.0),
  (let a = i.1 in let b = ap (λ (l : List Named). length l) pushed.items ∙ length-append c.loop.slots.items (c.hint.result ∷ []) in omega arith),
  pushed.capacity ∙ i.2,
)
