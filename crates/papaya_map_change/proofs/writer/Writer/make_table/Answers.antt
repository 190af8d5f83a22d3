use Rattle.std.proofs.Common.{Some, ◌+◌, ap, ◌∙◌, subst, rules}
use Rattle.papaya_call.specs.declared.ask.Answer.TheVariants.{Made, Refused}
use Rattle.papaya_map_book.specs.Hashes.{hash_of}
use Rattle.papaya_map_book.specs.Parts.{begun_of}
use Rattle.papaya_map_book.specs.Rule.{IsLawfulLog}
use Rattle.papaya_map_book.proofs.Brings.{made_since}
use Rattle.papaya_map_book.proofs.Logs.{prefix_trans}
use Rattle.papaya_map_book.proofs.Windows.{observed, observes_trans}
use Rattle.papaya_map_change.proofs.Written.{table_made, table_unmade, with_given}
use Rattle.papaya_map_change.proofs.writer.Writer.make_table.Goals as goal

pub returns-in-Ok : goal.returns-in-Ok
returns-in-Ok g c = record {
  steps = record {
    sees = observed (observes_trans _ _ _ c.make_table-made.ensures.sees c.learn.ensures.sees);
    own = search rules;
    machine = search rules;
    value = search rules;
    put = search rules;
    unsaid = search rules;
    writes = λ key made begun r.
        let one = c.make_table-made.new.self.sight.log in let log = c.learn.new.self.sight.log in
        let hash = hash_of g.K.Hash.hash_input g.S.BuildHasher.build_hasher g.S.Hasher.Hasher.write g.S.Hasher.Hasher.finish in
        let lawful = subst (λ (b : _). IsLawfulLog g.K.PartialEq.eq hash (begun_of b.now.parts) log)
        (c.learn.ensures.sees.book ∙ c.make_table-made.ensures.sees.book) c.learn.ensures.lawful in let new = c.in-Ok.ensures in
        with_given g.K.PartialEq.eq hash (begun_of c.args.window.now.book.now.parts) c.args.window.now.book.now.begun.book key made begun log
        (record c.args.self.now { call = record c.args.self.now.call { copier = record c.args.self.now.call.copier { fresh = Some (c.in-Ok.table, c.in-Ok.seal) } } }) c.make_table-made.new.given
        (Made (c.index.result + 1))
        (table_made g.K.PartialEq.eq g.K.Hash.hash_input g.S.BuildHasher.build_hasher g.S.Hasher.Hasher.write g.S.Hasher.Hasher.finish g.met.K.Eq.laws
        g.met.K.Hash.respects_eq (begun_of c.args.window.now.book.now.parts) c.args.window.now.book.now.begun.book key made begun
        c.args.window.now.sight.log c.args.self.now r
        log (prefix_trans c.args.window.now.sight.log one log new.sees.log c.learn.ensures.sees.log) lawful c.args.len c.args.limit c.args.chunks
        c.in-Ok.table c.in-Ok.seal (c.index.result + 1) (ap (λ n. n + 1) c.index.ensures) c.requires.waits.asks
        (made_since c.in-Ok.table.value one log c.learn.ensures.sees.log new.made) new.placed new.pen.0 new.pen.1);
  };
}

pub returns-in-Err : goal.returns-in-Err
returns-in-Err g c = record {
  steps = record {
    sees = observed (observes_trans _ _ _ c.make_table-made.ensures.sees c.learn.ensures.sees);
    own = search rules;
    machine = search rules;
    value = search rules;
    put = search rules;
    unsaid = search rules;
    writes = λ key made begun r.
        let one = c.make_table-made.new.self.sight.log in let log = c.learn.new.self.sight.log in
        let hash = hash_of g.K.Hash.hash_input g.S.BuildHasher.build_hasher g.S.Hasher.Hasher.write g.S.Hasher.Hasher.finish in
        let lawful = subst (λ (b : _). IsLawfulLog g.K.PartialEq.eq hash (begun_of b.now.parts) log)
        (c.learn.ensures.sees.book ∙ c.make_table-made.ensures.sees.book) c.learn.ensures.lawful in
        with_given g.K.PartialEq.eq hash (begun_of c.args.window.now.book.now.parts) c.args.window.now.book.now.begun.book key made begun log
        c.args.self.now c.make_table-made.new.given (Refused c.in-Err.refused)
        (table_unmade g.K.PartialEq.eq g.K.Hash.hash_input g.S.BuildHasher.build_hasher g.S.Hasher.Hasher.write g.S.Hasher.Hasher.finish g.met.K.Eq.laws
        g.met.K.Hash.respects_eq (begun_of c.args.window.now.book.now.parts) c.args.window.now.book.now.begun.book key made begun
        c.args.window.now.sight.log c.args.self.now r log
        (prefix_trans c.args.window.now.sight.log one log c.make_table-made.ensures.sees.log c.learn.ensures.sees.log) lawful c.args.len c.args.limit
        c.args.chunks c.in-Err.refused c.requires.waits.asks);
  };
}
