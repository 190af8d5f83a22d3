use Rattle.std.proofs.Common.{Some, subst}
use Rattle.papaya_map_book.specs.Hashes.{hash_of}
use Rattle.papaya_map_book.specs.Logs.{pair_named}
use Rattle.papaya_map_book.specs.Parts.{begun_of}
use Rattle.papaya_map_book.specs.Rule.{IsPlaced}
use Rattle.papaya_map_book.proofs.Loaded.{found_pair}
use Rattle.papaya_map_book.proofs.window.Window.slot.Goals as goal

pub pair_in-requires : goal.pair_in-requires
pair_in-requires g c = c.slot_word-found.ensures.slot.some

pub returns-clause-slot : goal.returns-clause-slot
returns-clause-slot g c =
    let hash = hash_of g.K.Hash.hash_input g.S.BuildHasher.build_hasher g.S.Hasher.Hasher.write g.S.Hasher.Hasher.finish in
    let w = c.args.self.now.book.now in let b = begun_of w.parts in let told = c.slot_word-found.ensures.slot in
    let names = found_pair g.K.PartialEq.eq hash b c.slot_word-found.new.self.sight.log c.slot_word-found.result.0 c.slot_word-found.result.1.state
    c.args.number c.args.place told.read c.pair_in.result c.pair_in.ensures in
    record {
      lawful = told.read.lawful;
      is = told.read.is;
      names = names;
      placed = subst (λ (o : _). IsPlaced b (Some w.begun.book) (pair_named o))
          names told.placed;
    }
