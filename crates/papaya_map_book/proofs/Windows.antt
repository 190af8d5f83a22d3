-- The log that has been observed grows from step to step.
use Rattle.std.proofs.Common.{◌≡◌, sym, ap, ◌∙◌}
use Rattle.papaya_map_book.specs.declared.keyed.Keyed as keyed
use Rattle.papaya_map_book.specs.declared.window.Window.{Window}
use Rattle.papaya_map_book.specs.Windows.{Observes, Sees}
use Rattle.papaya_map_book.proofs.Logs.{prefix_trans}

module _ {K V S H : Type 0} {d : keyed.Ghosts S K H} where
  pub sees_trans : (a b c : Window K V S H d) → Sees a b → Sees b c → Sees a c
  sees_trans a b c p q = record { book = q.book ∙ p.book; log = prefix_trans a.sight.log b.sight.log c.sight.log p.log q.log }

  -- a step that makes no exchange observes as any other
  pub observed : {a b : Window K V S H d} → Observes a b → Sees a b
  observed o = record { book = o.book; log = o.log }

  pub observes_trans : (a b c : Window K V S H d) → Observes a b → Observes b c → Observes a c
  observes_trans a b c p q = record {
    book = q.book ∙ p.book;
    log = prefix_trans a.sight.log b.sight.log c.sight.log p.log q.log;
    own = q.own ∙ p.own;
  }

  -- it is of the same book
  pub sees_of : (a b : Window K V S H d) → Sees a b → b.sight.book ≡ a.sight.book
  sees_of a b p = b.same_book ∙ (ap (λ r. r.now.begun.book) p.book ∙ sym a.same_book)
