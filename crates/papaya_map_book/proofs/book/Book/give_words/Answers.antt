use Rattle.std.proofs.Common.{◌≡◌, ℕ, ◌+◌, ◌<◌, List, [], ◌∷◌, ◌++◌, length, map, take, slice_set, rules, sym, ap, ◌∙◌, subst, arith}
use Rattle.std.proofs.lemmas.List.{length-map, length-set, length-take-le, map-append, take_more_set}
use Rattle.logbook.specs.Pages.{Named}
use Rattle.papaya_map_book.specs.Makers.{AreFrom}
use Rattle.papaya_map_book.specs.Sheets.{AllOf, word_named}
use Rattle.papaya_map_book.proofs.Making.{all_more, from_more}
use Rattle.papaya_map_book.proofs.book.Book.give_words.Goals as goal

pub loop-place-preserved : goal.loop-place-preserved
loop-place-preserved g c =
    let i = c.loop-place.invariant in let b = c.args.row.now.book in let at = c.loop-place.place in
    let key = λ (w : Named). w.key in let items = c.loop-place.slots.items in
    let old = take at items in let word = c.track.new.word in let pen = c.take-pen.ensures in
    let here : at < length items = let a = i.count in let z = c.loop-place-test.true in omega arith in
    let more : take (at + 1) (slice_set items at word) ≡ old ++ word ∷ [] = take_more_set items at word here in
    let keys : map key (take (at + 1) (slice_set items at word)) ≡ map key old ++ word.key ∷ [] =
    ap (map key) more ∙ map-append key old (word ∷ []) in
    let long : length (map key old) ≡ at = length-map old key ∙ length-take-le at items (omega arith) in
    let named : word ≡ word_named b c.loop-place.row.next = c.track.ensures.word ∙ (λ j. word_named ((pen.pen.0 ∙ i.book) j) (pen.pen.1 j).key) in
    let is : word ≡ word_named b word.key = named ∙ ap (word_named b) (sym (ap key named)) in
    let next : word.key ≡ c.args.row.now.next + length (map key old) = ap key named
    ∙ (i.next ∙ ap (λ (n : ℕ). c.args.row.now.next + n) (sym long)) in record {
      count = length-set items at word ∙ i.count;
      book = pen.rest.0 ∙ i.book;
      next = let a = pen.rest.1 in let n = i.next in omega arith;
      left = let a = pen.rest.2 in let n = i.left in omega arith;
      words = subst (AllOf b) (sym more) (all_more b old word i.words is);
      keys = subst (λ (ks : List ℕ). AreFrom ks c.args.row.now.next) (sym keys) (from_more (map key old) c.args.row.now.next word.key i.keys next);
      fresh = λ place d past within. search rules;
    }
