use Rattle.std.proofs.Common.{◌≡◌, ◌==◌, true, Some, None, refl, sym, ◌∙◌}
use Rattle.papaya_map_book.specs.Parts.{begun_of}
use Rattle.papaya_map_change.proofs.Burying.{bury_can, bury_changed, bury_there, bury_traded, ends, makes_if}
use Rattle.papaya_map_change.proofs.fast_path.bury.Goals as goal

pub bury_met-requires-clause-place : goal.bury_met-requires-clause-place
bury_met-requires-clause-place g c =
    let w = c.args.window.now.book.now in let b = begun_of w.parts in let log = c.args.window.now.sight.log in let met = c.args.met.now in
    let st = c.requires.shows in
    (bury_there g.K.PartialEq.eq g.K.Hash.hash_input g.S.BuildHasher.build_hasher g.S.Hasher.Hasher.write g.S.Hasher.Hasher.finish g.met.K.Eq.laws
    g.met.K.Hash.respects_eq b w.begun.book st.0 st.1 log met.place met.word met.stored c.args.table.now st.2).1

pub bury_met-requires-clause-can : goal.bury_met-requires-clause-can
bury_met-requires-clause-can g c =
    let w = c.args.window.now.book.now in let b = begun_of w.parts in let log = c.args.window.now.sight.log in let met = c.args.met.now in
    let st = c.requires.shows in
    bury_can g.K.PartialEq.eq g.K.Hash.hash_input g.S.BuildHasher.build_hasher g.S.Hasher.Hasher.write g.S.Hasher.Hasher.finish g.met.K.Eq.laws
    g.met.K.Hash.respects_eq b w.begun.book st.0 st.1 log met.place met.word met.stored c.args.table.now st.2

pub returns-clause-went : goal.returns-clause-went
returns-clause-went g c = λ e key begun r.
    let w = c.args.window.now.book.now in let b = begun_of w.parts in let log = c.args.window.now.sight.log in let met = c.args.met.now in
    let after = c.bury_met.new.window in let t = c.bury_met.ensures.tried in
    let is : (t.found == met.word) ≡ true = sym t.went_is ∙ e in
    let same = t.same e in (
      same.0,
      same.2,
      bury_traded g.K.PartialEq.eq g.K.Hash.hash_input g.S.BuildHasher.build_hasher g.S.Hasher.Hasher.write g.S.Hasher.Hasher.finish g.met.K.Eq.laws
          g.met.K.Hash.respects_eq b w.begun.book key begun log met.place met.word met.stored c.args.table.now r after.sight.log t.found t.before
          t.tried is same.0 same.1 same.2.1,
    )

pub returns-clause-ends : goal.returns-clause-ends
returns-clause-ends g c =
    let tried = c.bury_met in let t = tried.ensures.tried in record {
      sees = tried.ensures.sees;
      lawful = rw tried.ensures.sees.book t.tried.tried.now;
      made =
          let w = c.args.window.now.book.now in let b = begun_of w.parts in let log = c.args.window.now.sight.log in let met = c.args.met.now in
          let st = c.requires.shows in
          makes_if g.K.PartialEq.eq (Some st.0) st.1 t.before None
          (ends g.K.PartialEq.eq g.K.Hash.hash_input g.S.BuildHasher.build_hasher g.S.Hasher.Hasher.write g.S.Hasher.Hasher.finish g.met.K.Eq.laws
          g.met.K.Hash.respects_eq b w.begun.book st.0 st.1 log met.place met.word met.stored c.args.table.now) refl c.args.window.now tried.new.window
          tried.result
          (λ e. bury_changed g.K.PartialEq.eq g.K.Hash.hash_input g.S.BuildHasher.build_hasher g.S.Hasher.Hasher.write g.S.Hasher.Hasher.finish
          g.met.K.Eq.laws g.met.K.Hash.respects_eq b w.begun.book st.0 st.1 log met.place met.word met.stored c.args.table.now st.2
          tried.new.window.sight.log t.found t.before t.tried (sym t.went_is ∙ e)) tried.ensures.does;
    }
