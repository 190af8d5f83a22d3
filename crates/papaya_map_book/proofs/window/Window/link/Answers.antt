use Rattle.papaya_map_book.specs.Hashes.{hash_of}
use Rattle.papaya_map_book.specs.Parts.{begun_of}
use Rattle.std.proofs.Common.{ℕ, ◌+◌, None, Some, sym, subst}
use Rattle.papaya_call.specs.declared.ask.At.TheVariants.{Next}
use Rattle.papaya_call.specs.declared.ask.StepKind.TheVariants.{Link}
use Rattle.papaya_map_book.specs.Calls.{IsTried}
use Rattle.papaya_map_book.specs.Makers.{CanBring}
use Rattle.papaya_map_book.specs.declared.rule.entry.Named.TheVariants.{Table}
use Rattle.papaya_map_book.proofs.Brings.{made_since}
use Rattle.papaya_map_book.proofs.Linking.{can_link}
use Rattle.papaya_map_book.proofs.Logs.{prefix_trans}
use Rattle.papaya_map_book.proofs.Settings.{is_hashed}
use Rattle.papaya_map_book.proofs.Words.{came, next_there, tried_since, word_there}
use Rattle.papaya_map_book.proofs.window.Window.link.Goals as goal

pub bring-found-requires-clause-word : goal.bring-found-requires-clause-word
bring-found-requires-clause-word g c =
    let w = c.args.self.now.book.now in let v = c.learn.new.self.log in let held = c.learn.ensures.4 in
    word_there g.K.PartialEq.eq (hash_of g.K.Hash.hash_input g.S.BuildHasher.build_hasher g.S.Hasher.Hasher.write g.S.Hasher.Hasher.finish)
    (begun_of w.parts) w.begun.log v w.begins c.learn.ensures.3 w.begun.book w.called held.1.begun held.1.lawful c.args.self.now.sight.log
    c.learn.ensures.2 c.args.number c.args.after.now c.requires.after c.next.result.now c.args.after.now.next c.next.ensures

pub bring-found-requires-clause-key : goal.bring-found-requires-clause-key
bring-found-requires-clause-key g c =
    let w = c.args.self.now.book.now in let v = c.learn.new.self.log in let held = c.learn.ensures.4 in
    next_there g.K.PartialEq.eq (hash_of g.K.Hash.hash_input g.S.BuildHasher.build_hasher g.S.Hasher.Hasher.write g.S.Hasher.Hasher.finish)
    (begun_of w.parts) w.begun.log v w.begins c.learn.ensures.3 w.begun.book w.called held.1.begun held.1.lawful c.args.self.now.sight.log
    c.learn.ensures.2 c.args.number c.args.after.now c.requires.after c.next.result.now c.next.ensures

pub bring-found-requires-clause-made : goal.bring-found-requires-clause-made
bring-found-requires-clause-made g c = made_since c.args.table.now.value c.args.self.now.sight.log c.learn.new.self.log c.learn.ensures.2 c.requires.made

pub bring-found-requires-clause-can : goal.bring-found-requires-clause-can
bring-found-requires-clause-can g c =
    let hash = hash_of g.K.Hash.hash_input g.S.BuildHasher.build_hasher g.S.Hasher.Hasher.write g.S.Hasher.Hasher.finish in
    let w = c.args.self.now.book.now in let b = begun_of w.parts in let v = c.learn.new.self.log in let held = c.learn.ensures.4 in
    let here = came g.K.PartialEq.eq (hash_of g.K.Hash.hash_input g.S.BuildHasher.build_hasher g.S.Hasher.Hasher.write g.S.Hasher.Hasher.finish)
    (begun_of w.parts) w.begun.log v w.begins c.learn.ensures.3 w.begun.book w.called held.1.begun held.1.lawful c.args.self.now.sight.log
    c.learn.ensures.2 c.args.number c.args.after.now c.requires.after in
    subst (λ (n : ℕ). CanBring g.K.PartialEq.eq hash b (Next c.args.number) (Some Link) 0 (n + 1) None c.args.table.now v) (sym c.index.ensures)
    (can_link g.K.PartialEq.eq hash b (λ log l.
    (is_hashed g.K.PartialEq.eq g.K.Hash.hash_input g.S.BuildHasher.build_hasher g.S.Hasher.Hasher.write g.S.Hasher.Hasher.finish g.met.K.Eq.laws
    g.met.K.Hash.respects_eq b log l).lawful) c.args.number c.args.after.now c.args.table.now v here
    (λ log pre. c.requires.can log (prefix_trans c.args.self.now.sight.log v log c.learn.ensures.2 pre)))

pub returns-clause-tried : goal.returns-clause-tried
returns-clause-tried g c =
    let hash = hash_of g.K.Hash.hash_input g.S.BuildHasher.build_hasher g.S.Hasher.Hasher.write g.S.Hasher.Hasher.finish in
    let f = c.bring-found in let b = begun_of c.args.self.now.book.now.parts in let log = c.args.self.now.sight.log in
    let tried = tried_since g.K.PartialEq.eq hash b (Next c.args.number) (Some Link) 0 (c.index.result + 1) None (Table c.args.table.now) log
    c.learn.new.self.log f.result.0 f.new.sight.log f.result.1.state c.learn.ensures.2 f.ensures.tried in (
      f.result.1.state,
      subst (λ (n : ℕ). IsTried g.K.PartialEq.eq hash b (Next c.args.number) (Some Link) 0 (n + 1) None (Table c.args.table.now) log
          f.result.0 f.new.sight.log f.result.1.state) c.index.ensures tried,
    )
