use Rattle.std.proofs.Common.{rules, ◌≡◌, ℕ, ◌+◌, List, ◌∷◌, ◌++◌, length, map, refl, sym, ap, ◌∙◌, subst, arith, length-append}
use Rattle.std.proofs.lemmas.List.{length-map}
use Rattle.std.proofs.lemmas.Nat.{pow_pos}
use Rattle.logbook.specs.Pages.{Named}
use Rattle.papaya_map_book.specs.Makers.{AreDealt, AreFrom}
use Rattle.papaya_map_book.specs.Sheets.{AllOf, AreBeside, Sheet}
use Rattle.papaya_map_book.proofs.Making.{from_append, table_made}
use Rattle.papaya_map_book.proofs.Tables.{hold_hints}
use Rattle.papaya_map_book.proofs.book.Book.lay_table.Goals as goal

pub invariant_of-table : goal.invariant_of-table
invariant_of-table g c =
    let slots = c.give_words.new.slots.items in let hints = c.place_hints.new.hints.items in let book = c.in_ok-aborted.aborted.book in
    let all : AllOf book slots = search rules in
    let beside : AreBeside slots hints = subst (λ (ws : List Named). AreBeside ws hints) c.deref.ensures.value c.place_hints.ensures in
    (search rules, search rules, search rules, all, search rules, hold_hints book slots hints c.words.new.row.next all c.give_words.ensures.keys beside)

pub returns-clause-made : goal.returns-clause-made
returns-clause-made g c =
    let key = λ (w : Named). w.key in
    let deal = c.in_ok-aborted.ensures in let next = c.word-next.ensures in let done = c.in-Ok.ensures in let slots = c.give_words.ensures in
    let s : ℕ = c.in_ok-aborted.aborted.key in let n : ℕ = c.word-next.result.key in let log = c.deal.new.sight.log in
    let ds = map key c.in-Ok.done.items in let xs = map key c.give_words.new.slots.items in
    let sheet : Sheet = record { book = c.in_ok-aborted.aborted.book; limit = c.args.limit; next = n; seal = s; done = ds; slots = xs } in
    let first : n ≡ c.in_ok-aborted.row.next = ap key next.word in
    let sized : length c.in_ok-slots.slots.items ≡ c.args.len = search rules in
    let many_done : length ds ≡ c.args.chunks = length-map c.in-Ok.done.items key ∙ done.len in
    let many_slots : length xs ≡ c.args.len = length-map c.give_words.new.slots.items key ∙ (slots.len ∙ sized) in
    let after : c.word-next.new.row.next ≡ n + 1 = let a = next.rest.1 in omega arith in
    let behind : c.words.new.row.next ≡ n + 1 + length ds = let a = done.rest.1 in omega arith in
    let from : AreFrom (n ∷ (ds ++ xs)) n = (refl, from_append ds xs (n + 1) (subst (AreFrom ds) after done.keys) (subst (AreFrom xs) behind slots.keys)) in
    let many : c.in_ok-count.count ≡ length (n ∷ (ds ++ xs)) = let a = length-append ds xs in let b = c.in_ok-count.ensures in omega arith in
    let power = c.requires.size.power in let above = pow_pos power.0 in let is = power.1 in
    let dealt : AreDealt n (length (n ∷ (ds ++ xs))) s log = subst (λ (t : ℕ × ℕ). AreDealt t.0 t.1 s log) (λ i. (sym first i, many i)) deal.dealt in
    table_made sheet log (omega arith) from dealt
