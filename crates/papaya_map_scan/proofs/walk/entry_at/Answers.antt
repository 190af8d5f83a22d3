use Rattle.std.proofs.Common.{◌≡◌, true, false, None, Some, sym, ap, ◌∙◌, rules, subst}
use Rattle.papaya_words.specs.Word.{kind_of}
use Rattle.papaya_map_book.specs.Calls.{IsSlot}
use Rattle.papaya_map_book.specs.Hashes.{hash_of}
use Rattle.papaya_map_book.specs.Logs.{Stored, pair_named}
use Rattle.papaya_map_book.specs.Parts.{begun_of}
use Rattle.papaya_map_book.specs.Rule.{IsPlaced}
use Rattle.papaya_map_book.proofs.Loaded.{told_pair}
use Rattle.papaya_map_lookup.specs.History.{history_of}
use Rattle.papaya_map_scan.specs.Meeting.{HadPair, has_pair}
use Rattle.papaya_map_scan.proofs.Scanning.{some_same}
use Rattle.papaya_map_scan.proofs.Taken.{met_loaded}
use Rattle.papaya_map_scan.proofs.Walking.{passed_empty, passed_found}
use Rattle.papaya_map_scan.proofs.walk.entry_at.Goals as goal

pub named_pair-requires : goal.named_pair-requires
named_pair-requires g c =
    let named : c.names_pair.result ≡ true = search rules in
    let has : has_pair (kind_of c.word_of-word.result.0) ≡ true = sym c.names_pair.ensures ∙ named in
    c.word_of-word.ensures.slot.some (λ e. cc (sym (ap has_pair e) ∙ has)) (λ e. cc (sym (ap has_pair e) ∙ has))

pub returns-clause-had : goal.returns-clause-had
returns-clause-had g c = λ began taken.
    let hash = hash_of g.K.Hash.hash_input g.S.BuildHasher.build_hasher g.S.Hasher.Hasher.write g.S.Hasher.Hasher.finish in
    let w = c.args.window.now.book.now in let b = begun_of w.parts in let log = c.word_of-word.new.window.sight.log in
    let told = c.word_of-word.ensures.slot in let p = c.named_pair.result in
    let named : c.names_pair.result ≡ true = search rules in
    let names = told_pair g.K.PartialEq.eq hash b log c.word_of-word.result.0 c.word_of-word.result.1.state c.args.number c.args.place told.read p
    c.named_pair.ensures in
    let slot : IsSlot g.K.PartialEq.eq hash b w.begun.book c.args.number c.args.place c.word_of-word.result.0 log (Some p) = record {
      lawful = told.read.lawful;
      is = told.read.is;
      names = names;
      placed = subst (λ (o : _). IsPlaced b (Some w.begun.book) (pair_named o)) names told.placed;
    } in
    let met = met_loaded g.K.PartialEq.eq g.K.Hash.hash_input g.S.BuildHasher.build_hasher g.S.Hasher.Hasher.write g.S.Hasher.Hasher.finish
    g.met.K.Eq.laws g.met.K.Hash.respects_eq b w.begun.book began c.args.window.now.sight.log log c.args.number taken c.word_of-word.ensures.sees.log
    c.args.place c.word_of-word.result.0 (Some p) slot in
    let one = met.had (sym c.names_pair.ensures ∙ named) in
    let same = some_same one.0 p (sym one.1) in (
      p,
      (c.entry.ensures.key ∙ ap (λ z. z.key.value) c.pair.ensures, c.entry.ensures.value ∙ ap (λ z. z.value) c.pair.ensures),
      subst (λ (q : Stored _ _). HadPair g.K.PartialEq.eq (history_of began) (history_of log) q) same one.2,
    )

pub returns-then-not-names_pair-clause-passed : goal.returns-then-not-names_pair-clause-passed
returns-then-not-names_pair-clause-passed g c = λ began at taken.
    let told = c.word_of-word.ensures.slot in
    let named : c.names_pair.result ≡ false = search rules in
    passed_empty g.K.PartialEq.eq g.K.Hash.hash_input g.S.BuildHasher.build_hasher g.S.Hasher.Hasher.write g.S.Hasher.Hasher.finish g.met.K.Eq.laws
    g.met.K.Hash.respects_eq (begun_of c.args.window.now.book.now.parts) began c.word_of-word.new.window.sight.log told.read.lawful c.args.number
    c.args.place c.word_of-word.result.0 told.read.is c.args.window.now.sight.log at c.word_of-word.ensures.sees.log taken
    (sym c.names_pair.ensures ∙ named) None

pub returns-clause-passed : goal.returns-clause-passed
returns-clause-passed g c = λ began at taken.
    let hash = hash_of g.K.Hash.hash_input g.S.BuildHasher.build_hasher g.S.Hasher.Hasher.write g.S.Hasher.Hasher.finish in
    let b = begun_of c.args.window.now.book.now.parts in let log = c.word_of-word.new.window.sight.log in
    let told = c.word_of-word.ensures.slot in let p = c.named_pair.result in
    let names = told_pair g.K.PartialEq.eq hash b log c.word_of-word.result.0 c.word_of-word.result.1.state c.args.number c.args.place told.read p
    c.named_pair.ensures in
    passed_found g.K.PartialEq.eq g.K.Hash.hash_input g.S.BuildHasher.build_hasher g.S.Hasher.Hasher.write g.S.Hasher.Hasher.finish g.met.K.Eq.laws
    g.met.K.Hash.respects_eq b began log told.read.lawful c.args.number c.args.place c.word_of-word.result.0 told.read.is
    c.args.window.now.sight.log at c.word_of-word.ensures.sees.log taken p names c.entry.result
    (c.entry.ensures.key ∙ ap (λ z. z.key.value) c.pair.ensures, c.entry.ensures.value ∙ ap (λ z. z.value) c.pair.ensures)
