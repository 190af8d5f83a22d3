use Rattle.std.proofs.Common.{◌∙◌, subst}
use Rattle.papaya_map_book.specs.Hashes.{hash_of}
use Rattle.papaya_map_book.specs.Parts.{begun_of}
use Rattle.papaya_map_book.specs.Rule.{IsLawfulLog}
use Rattle.papaya_map_book.proofs.Loaded.{table_since}
use Rattle.papaya_map_change.proofs.copier.size.Goals as goal

pub returns-clause-size : goal.returns-clause-size
returns-clause-size g c = let one = c.table.new.self.sight.log in let log = c.learn.new.self.sight.log in
    let hash = hash_of g.K.Hash.hash_input g.S.BuildHasher.build_hasher g.S.Hasher.Hasher.write g.S.Hasher.Hasher.finish in record {
      lawful = subst (λ (b : _). IsLawfulLog g.K.PartialEq.eq hash (begun_of b.now.parts) log) (c.learn.ensures.sees.book ∙ c.table.ensures.sees.book)
          c.learn.ensures.lawful;
      sheet = c.table.result.now;
      table = table_since one log c.args.number c.table.result.now c.learn.ensures.sees.log c.table.ensures.table;
      len = c.size-size.ensures.len;
      limit = c.size-size.ensures.limit;
    }
