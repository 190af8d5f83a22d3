use Rattle.std.proofs.Common.{◌≡◌, None, sym, ◌∙◌, subst}
use denote.Bor.{Bor}
use Rattle.papaya_call.specs.declared.search.Search.TheVariants.{Looking}
use Rattle.papaya_call.specs.declared.machine.State.{State}
use Rattle.papaya_call.specs.declared.machine.State.TheVariants.{Searching}
use Rattle.papaya_map_book.specs.declared.book.Book.{Book as BookOf}
use Rattle.papaya_map_book.specs.Hashes.{hash_of}
use Rattle.papaya_map_book.specs.Parts.{begun_of}
use Rattle.papaya_map_book.specs.Rule.{IsLawfulLog}
use Rattle.papaya_map_book.proofs.Windows.{observes_trans}
use Rattle.papaya_map_change.specs.Seeking.{Inserts, IsSeekingAt}
use Rattle.papaya_map_change.proofs.ProbingOn.{seeker_stays}
use Rattle.papaya_map_change.proofs.fast_path.pass_over.Goals as goal

pub probe_at-requires-clause-stands : goal.probe_at-requires-clause-stands
probe_at-requires-clause-stands g c = let st = c.requires.stands in (st.0, c.loop-next.invariant.0 Inserts st.0 st.1)

pub returns-in_default-clause-sees : goal.returns-in_default-clause-sees
returns-in_default-clause-sees g c = let inv = c.loop-next.invariant in
    observes_trans _ _ _ (observes_trans _ _ _ (record { book = inv.2.book; log = inv.2.log; own = inv.3 }) c.probe_at.ensures.sees) c.learn.ensures.sees

pub returns-in_default-clause-turns : goal.returns-in_default-clause-turns
returns-in_default-clause-turns g c = λ who begun state e r.
    let hash = (hash_of g.K.Hash.hash_input g.S.BuildHasher.build_hasher g.S.Hasher.Hasher.write g.S.Hasher.Hasher.finish) in
    let before = c.loop-next.window in let w = before.book.now in let learnt = c.learn.new.self in
    let place = c.loop-next.place in
    let to : Searching (Looking place) ≡ state = cc e in
    let book : learnt.book ≡ before.book = c.learn.ensures.sees.book ∙ c.probe_at.ensures.sees.book in
    let lawful = subst (λ (z : Bor (BookOf _ _ _ _)). IsLawfulLog g.K.PartialEq.eq hash (begun_of z.now.parts) learnt.sight.log) book c.learn.ensures.lawful in
    let stays = seeker_stays g.K.PartialEq.eq g.K.Hash.hash_input g.S.BuildHasher.build_hasher g.S.Hasher.Hasher.write g.S.Hasher.Hasher.finish
    g.met.K.Eq.laws g.met.K.Hash.respects_eq (begun_of w.parts) w.begun.book c.args.key.now begun who before.sight.log learnt.sight.log
    (observes_trans _ _ _ c.probe_at.ensures.sees c.learn.ensures.sees).log lawful place c.args.table.now (c.loop-next.invariant.0 who begun r) in
    subst (λ (s : State). IsSeekingAt who g.K.PartialEq.eq hash (begun_of learnt.book.now.parts) learnt.book.now.begun.book c.args.key.now begun
    learnt.sight.log s None c.args.table.now) to
    (subst (λ (z : Bor (BookOf _ _ _ _)). IsSeekingAt who g.K.PartialEq.eq hash (begun_of z.now.parts) z.now.begun.book c.args.key.now begun
    learnt.sight.log (Searching (Looking place)) None c.args.table.now) (sym book) stays)
