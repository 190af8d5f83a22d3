use Rattle.std.proofs.Common.{◌+◌, None, Some, sym, ◌∙◌, subst}
use Rattle.papaya_map_book.specs.Hashes.{hash_of}
use Rattle.papaya_map_book.specs.Parts.{begun_of}
use Rattle.papaya_call.specs.declared.ask.At.TheVariants.{Next}
use Rattle.papaya_call.specs.declared.ask.StepKind.TheVariants.{Link}
use Rattle.papaya_map_book.specs.declared.rule.entry.Named.TheVariants.{Table}
use Rattle.papaya_map_book.specs.Calls.{IsTried}
use Rattle.papaya_map_book.specs.Plays.{CanExchange}
use Rattle.papaya_map_book.proofs.Brings.{made_since}
use Rattle.papaya_map_book.proofs.Logs.{prefix_trans}
use Rattle.papaya_map_change.proofs.Copiers.{joined, ready}
use Rattle.papaya_map_change.proofs.copier.Copier.link.Goals as goal

pub link-requires-clause-made : goal.link-requires-clause-made
link-requires-clause-made g c = made_since c.in-Some.table.value c.args.window.now.sight.log c.table-after.new.self.sight.log
    c.table-after.ensures.sees.log (ready (begun_of c.args.window.now.book.now.parts) c.args.window.now.book.now.begun.book
    c.args.window.now.sight.log c.requires.can.0 c.args.self.now.fresh c.in-Some.table c.in-Some.seal (sym c.take.ensures.value ∙ c.in-Some.is)
    c.requires.can.1.fresh).made

pub link-requires-clause-can : goal.link-requires-clause-can
link-requires-clause-can g c = let hash = hash_of g.K.Hash.hash_input g.S.BuildHasher.build_hasher g.S.Hasher.Hasher.write g.S.Hasher.Hasher.finish in
    let log = c.table-after.new.self.sight.log in
    subst (λ (b : _). CanExchange g.K.PartialEq.eq hash (begun_of b.now.parts) (Next c.args.number) (Some Link) 0 (c.in-Some.table.index + 1) None
    (Table c.in-Some.table) log) (sym c.table-after.ensures.sees.book)
    (λ longer pre. c.requires.can.1.can c.in-Some.table c.in-Some.seal (sym c.take.ensures.value ∙ c.in-Some.is) longer
    (prefix_trans c.args.window.now.sight.log log longer c.table-after.ensures.sees.log pre))

pub returns-clause-joins : goal.returns-clause-joins
returns-clause-joins g c = λ new can. let hash = hash_of g.K.Hash.hash_input g.S.BuildHasher.build_hasher g.S.Hasher.Hasher.write g.S.Hasher.Hasher.finish in
    let tried = subst (λ (b : _). IsTried g.K.PartialEq.eq hash (begun_of b.now.parts) (Next c.args.number) (Some Link) 0 (c.in-Some.table.index + 1)
    None (Table c.in-Some.table) c.table-after.new.self.sight.log c.link.result c.link.new.self.sight.log c.link.ensures.tried.0)
    c.table-after.ensures.sees.book c.link.ensures.tried.1 in
    joined (begun_of c.args.window.now.book.now.parts) c.args.window.now.book.now.begun.book c.args.window.now.sight.log new c.args.self.now.fresh
    c.in-Some.table c.in-Some.seal (sym c.take.ensures.value ∙ c.in-Some.is) can.fresh g.K.PartialEq.eq hash c.table-after.new.self.sight.log
    c.table-after.ensures.sees.log c.args.number c.args.self.now.kept c.link.result c.link.new.self.sight.log c.link.ensures.tried.0 tried
