use Rattle.std.proofs.Common.{◌≡◌, ℕ, ◌+◌, List, [], ◌∷◌, ◌++◌, length, map, sym, ap, ◌∙◌, subst, arith, length-append}
use Rattle.std.proofs.lemmas.List.{length-map, map-append}
use Rattle.logbook.specs.Pages.{Named}
use Rattle.papaya_map_book.specs.Makers.{AreFrom}
use Rattle.papaya_map_book.specs.Sheets.{AllOf, word_named}
use Rattle.papaya_map_book.proofs.Making.{all_more, from_more}
use Rattle.papaya_map_book.proofs.book.Book.words.Goals as goal

pub loop-preserved : goal.loop-preserved
loop-preserved g c =
    let i = c.loop.invariant in let w = c.word.ensures in let b = c.args.row.now.book in
    let old = c.loop.words.items in let word = c.word.result in let key = λ (w : Named). w.key in
    let items : c.push.new.self.items ≡ old ++ word ∷ [] = c.in_ok-push.ensures.items in
    let keys : map key c.push.new.self.items ≡ map key old ++ word.key ∷ [] = ap (map key) items ∙ map-append key old (word ∷ []) in
    let long : length (map key old) ≡ length old = length-map old key in
    let is : word ≡ word_named b word.key = w.word ∙ ((λ j. word_named (i.book j) c.loop.row.next) ∙ ap (word_named b) (sym (ap key w.word))) in
    let at : word.key ≡ c.args.row.now.next + length (map key old) = ap key w.word
    ∙ (i.next ∙ ap (λ (n : ℕ). c.args.row.now.next + n) (sym (long ∙ i.count))) in record {
      count = ap (λ (l : List Named). length l) items ∙ (length-append old (word ∷ []) ∙ ap (λ (n : ℕ). n + 1) i.count);
      book = w.rest.0 ∙ i.book;
      next = let a = w.rest.1 in let n = i.next in omega arith;
      left = let a = w.rest.2 in let n = i.left in omega arith;
      words = subst (AllOf b) (sym items) (all_more b old word i.words is);
      keys = subst (λ (ks : List ℕ). AreFrom ks c.args.row.now.next) (sym keys) (from_more (map key old) c.args.row.now.next word.key i.keys at);
    }
