use Rattle.std.proofs.Common.{◌+◌, ◌<◌, Some, refl, sym, ap, ◌∙◌, subst}
use Rattle.papaya_map_book.specs.Parts.{begun_of}
use Rattle.papaya_map_book.specs.Rule.{IsPlaced}
use Rattle.papaya_map_book.specs.declared.rule.entry.Named.TheVariants.{Table}
use Rattle.papaya_map_book.proofs.Brings.{made_since}
use Rattle.papaya_map_change.proofs.copier.Copier.make_next.Goals as goal

pub returns-clause-made : goal.returns-clause-made
returns-clause-made g c = let one = c.make_table_after-made.new.self.sight.log in let log = c.learn.new.self.sight.log in
    let new = c.in_ok-table.ensures in let book = c.learn.ensures.sees.book ∙ c.make_table_after-made.ensures.sees.book in record {
      past = subst (λ n. c.args.follows < n + 1) (sym c.index.ensures) new.past;
      fresh = record {
        table = c.in_ok-table.table;
        seal = c.in_ok-table.seal;
        is = refl;
        number_is = ap (λ n. n + 1) (sym c.index.ensures);
        made = made_since c.in_ok-table.table.value one log c.learn.ensures.sees.log new.made;
        placed = subst (λ (b : _). IsPlaced (begun_of b.now.parts) (Some b.now.begun.book) (Table c.in_ok-table.table)) (sym book) new.placed;
        seal_book = new.pen.0 ∙ ap (λ b. b.now.begun.book) (sym book);
        seal_nib = new.pen.1;
      };
      words = new.chunks;
    }
