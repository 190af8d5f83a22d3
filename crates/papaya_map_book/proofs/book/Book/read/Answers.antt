use Rattle.std.proofs.Common.{None, sym, ap, ◌∙◌}
use Rattle.papaya_map_book.specs.declared.rule.entry.Named.TheVariants.{Nothing}
use Rattle.papaya_map_book.specs.declared.rule.entry.Event.TheVariants.{Wish}
use Rattle.papaya_map_book.specs.Hashes.{hash_of}
use Rattle.papaya_map_book.specs.Logs.{place_of}
use Rattle.papaya_map_book.specs.Parts.{begun_of}
use Rattle.papaya_map_book.proofs.Loads.{key_since, looks_moves}
use Rattle.papaya_map_book.proofs.Tellings.{read_told}
use Rattle.papaya_map_book.proofs.book.Book.read.Goals as goal

pub load-found-requires : goal.load-found-requires
load-found-requires g c =
    let word = c.requires.word in
    let hash = hash_of g.K.Hash.hash_input g.S.BuildHasher.build_hasher g.S.Hasher.Hasher.write g.S.Hasher.Hasher.finish in
    let at = c.args.sought.now.at in (
      ap (λ w. w.tracked) word,
      c.learn.ensures.0 ∙ (c.requires.book ∙ sym (ap (λ w. w.book) word)),
      c.bare-offer.ensures.0,
      rw (c.bare-offer.ensures.1, c.bare-offer.ensures.3)
          (looks_moves g.K.PartialEq.eq hash c.learn.new.self.log (Wish at None None Nothing) c.args.word.now.key tt
          (key_since c.args.sight.now.log c.learn.new.self.log at c.args.word.now.key c.learn.ensures.2 c.requires.key)),
    )

pub returns-clause-read : goal.returns-clause-read
returns-clause-read g c =
    let hash = hash_of g.K.Hash.hash_input g.S.BuildHasher.build_hasher g.S.Hasher.Hasher.write g.S.Hasher.Hasher.finish in
    read_told g.K.PartialEq.eq hash (begun_of c.args.self.now.parts) c.args.self.now.begun.log c.learn.new.self.log c.load-found.new.seen.log
    c.args.self.now.begins c.learn.ensures.3 c.load-found.ensures.5 c.bare-offer.result.ask c.args.sought.now.at c.load-found.result
    c.load-found.new.offer.state (ap place_of c.bare-offer.ensures.1) c.load-found.ensures.6.1
