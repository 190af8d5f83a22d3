use Rattle.std.proofs.Common.{[], sym, ap, ◌∙◌}
use Rattle.papaya_map_book.specs.declared.rule.entry.Named.TheVariants.{Nothing}
use Rattle.papaya_map_book.specs.declared.rule.entry.Event.TheVariants.{Wish}
use Rattle.papaya_map_book.specs.Hashes.{hash_of}
use Rattle.papaya_map_book.specs.Parts.{begun_of}
use Rattle.papaya_map_book.proofs.Exchanges.{tries_moves}
use Rattle.papaya_map_book.proofs.Loads.{key_since}
use Rattle.papaya_map_book.proofs.Logs.{name_since, prefix_trans}
use Rattle.papaya_map_book.proofs.Settings.{plans}
use Rattle.papaya_map_book.proofs.Tellings.{began_seen, tried_told}
use Rattle.papaya_map_book.proofs.book.Book.exchange.Goals as goal

pub unpaid-found-requires : goal.unpaid-found-requires
unpaid-found-requires g c =
    let word = c.requires.word in
    let hash = hash_of g.K.Hash.hash_input g.S.BuildHasher.build_hasher g.S.Hasher.Hasher.write g.S.Hasher.Hasher.finish in
    let at = c.args.wish.now.at in let w = c.args.self.now in let v = c.learn.new.self.log in let b = begun_of w.parts in
    let pre = c.learn.ensures.2 in let learned = c.learn.ensures.3 in (
      ap (λ w. w.tracked) word,
      c.learn.ensures.0 ∙ (c.requires.book ∙ sym (ap (λ w. w.book) word)),
      c.no_pen-pen.ensures.0 ∙ (c.learn.ensures.0 ∙ (c.requires.book ∙ sym (ap (λ w. w.book) word))),
      c.bare-offer.ensures.0,
      rw (c.no_pen-pen.ensures.1, c.bare-offer.ensures.1, c.bare-offer.ensures.3)
          (tries_moves g.K.PartialEq.eq hash (plans g.K.PartialEq.eq g.K.Hash.hash_input g.S.BuildHasher.build_hasher g.S.Hasher.Hasher.write
          g.S.Hasher.Hasher.finish g.met.K.Eq.laws g.met.K.Hash.respects_eq) b v (Wish at c.args.wish.now.kind c.args.wish.now.kept.now Nothing)
          c.args.word.now.key c.args.old c.args.new tt
          (key_since c.args.sight.now.log v at c.args.word.now.key pre c.requires.key)
          (began_seen g.K.PartialEq.eq hash b w.begun.log v v w.begins learned ([], Rattle.std.proofs.lemmas.List.append-nil v))
          tt w.begun.book (name_since w.begun.log v w.begun.book learned w.called) tt
          (λ log since. c.requires.can log (prefix_trans c.args.sight.now.log v log pre since)) c.requires.leaves),
    )

pub returns-clause-tried : goal.returns-clause-tried
returns-clause-tried g c =
    let hash = hash_of g.K.Hash.hash_input g.S.BuildHasher.build_hasher g.S.Hasher.Hasher.write g.S.Hasher.Hasher.finish in
    let w = c.args.self.now in let x = c.unpaid-found in
    tried_told g.K.PartialEq.eq hash (begun_of w.parts) w.begun.log c.learn.new.self.log x.new.seen.log w.begins c.learn.ensures.3 x.ensures.6
    c.bare-offer.result.ask c.args.wish.now.at c.args.wish.now.kind c.args.wish.now.kept.now Nothing c.args.old c.args.new x.result
    x.new.offer.state c.bare-offer.ensures.1 x.ensures.7 c.args.sight.now.log c.learn.ensures.2
