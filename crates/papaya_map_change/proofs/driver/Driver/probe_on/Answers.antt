use Rattle.std.proofs.Common.{◌≡◌, None, Some, refl, sym, ap, ◌∙◌, rules, subst}
use denote.Bor.{Bor}
use Rattle.papaya_call.specs.declared.search.Search.TheVariants.{Looking}
use Rattle.papaya_call.specs.declared.machine.State.TheVariants.{Searching}
use Rattle.papaya_map_book.specs.declared.book.Book.{Book as BookOf}
use Rattle.papaya_map_book.specs.Hashes.{hash_of}
use Rattle.papaya_map_book.specs.Parts.{begun_of}
use Rattle.papaya_map_change.specs.declared.driver.Driver.{Driver}
use Rattle.papaya_map_change.specs.Changing.{IsDriven}
use Rattle.papaya_map_change.specs.ProbingOn.{probing_at}
use Rattle.papaya_map_change.specs.Seeking.{Inserts, IsSeekingAt}
use Rattle.papaya_map_change.proofs.ProbingOn.{passes, seeks}
use Rattle.papaya_map_change.proofs.driver.Driver.probe_on.Goals as goal

pub pass_over-to-requires-clause-stands : goal.pass_over-to-requires-clause-stands
pass_over-to-requires-clause-stands g c =
    let hash = (hash_of g.K.Hash.hash_input g.S.BuildHasher.build_hasher g.S.Hasher.Hasher.write g.S.Hasher.Hasher.finish) in
    let w = c.args.window.now.book.now in let b = begun_of w.parts in let log = c.args.window.now.sight.log in let key = c.args.key.now in
    let call = c.args.self.now in let m = call.machine in let on = c.in-Searching-Looking-Some in let at = on.at in let can = c.requires.can in
    let state : m.call.state ≡ Searching (Looking at) = search rules in
    let held : call.table ≡ Some on.table = search rules in
    let was : m ≡ probing_at m at = λ i. record m { call = record m.call { state = state i }; phase = c.requires.calling i } in
    let there : call ≡ record call { machine = probing_at m at; table = Some on.table } = λ i. record call { machine = was i; table = held i } in
    let r = subst (λ (z : Driver _ _ _ _). IsDriven g.K.PartialEq.eq hash b w.begun.book (g.K.PartialEq.eq key) (hash b.hasher key) (Some key) can.0 log
    can.1 z) there can.2 in (
      can.0,
      seeks g.K.PartialEq.eq g.K.Hash.hash_input g.S.BuildHasher.build_hasher g.S.Hasher.Hasher.write g.S.Hasher.Hasher.finish g.met.K.Eq.laws
          g.met.K.Hash.respects_eq b w.begun.book key can.0 log m at on.table call.copier.last call.copier.kept can.1 call.taken call.put call.copier.fresh r,
    )

pub returns-clause-looks : goal.returns-clause-looks
returns-clause-looks g c = λ begun made driven.
    let hash = (hash_of g.K.Hash.hash_input g.S.BuildHasher.build_hasher g.S.Hasher.Hasher.write g.S.Hasher.Hasher.finish) in
    let w = c.args.window.now.book.now in let b = begun_of w.parts in let log = c.args.window.now.sight.log in let key = c.args.key.now in
    let call = c.args.self.now in let m = call.machine in let on = c.in-Searching-Looking-Some in let at = on.at in
    let state : m.call.state ≡ Searching (Looking at) = search rules in
    let held : call.table ≡ Some on.table = search rules in
    let was : m ≡ probing_at m at = λ i. record m { call = record m.call { state = state i }; phase = c.requires.calling i } in
    let there : call ≡ record call { machine = probing_at m at; table = Some on.table } = λ i. record call { machine = was i; table = held i } in
    let r = subst (λ (z : Driver _ _ _ _). IsDriven g.K.PartialEq.eq hash b w.begun.book (g.K.PartialEq.eq key) (hash b.hasher key) (Some key) begun log
    made z) there driven in
    let to = c.pass_over-to in let seen = to.new.window in let place = to.result in
    let seeking = seeks g.K.PartialEq.eq g.K.Hash.hash_input g.S.BuildHasher.build_hasher g.S.Hasher.Hasher.write g.S.Hasher.Hasher.finish
    g.met.K.Eq.laws g.met.K.Hash.respects_eq b w.begun.book key begun log m at on.table call.copier.last call.copier.kept made call.taken call.put call.copier.fresh r in
    let sought = subst (λ (z : Bor (BookOf _ _ _ _)). IsSeekingAt Inserts g.K.PartialEq.eq hash (begun_of z.now.parts) z.now.begun.book key begun
    seen.sight.log (Searching (Looking place)) None on.table.now) to.ensures.sees.book
    (to.ensures.turns Inserts begun (Searching (Looking place)) refl seeking) in
    let passed = passes g.K.PartialEq.eq g.K.Hash.hash_input g.S.BuildHasher.build_hasher g.S.Hasher.Hasher.write g.S.Hasher.Hasher.finish
    g.met.K.Eq.laws g.met.K.Hash.respects_eq b w.begun.book key begun log m at on.table call.copier.last call.copier.kept made call.taken call.put call.copier.fresh r
    seen.sight.log to.ensures.sees.log place (ap (λ z. z.table) to.ensures.stays) sought in
    let stood : c.enter_state.new.self ≡ record call { machine = probing_at m place; table = Some on.table } = c.enter_state.ensures
    ∙ (λ i. record call {
      machine = record m { call = record m.call { state = Searching (Looking place) }; phase = c.requires.calling i };
      table = Some on.table;
    }) in
    subst (λ (z : Driver _ _ _ _). IsDriven g.K.PartialEq.eq hash b w.begun.book (g.K.PartialEq.eq key) (hash b.hasher key) (Some key) begun
    seen.sight.log made z) (sym stood) passed
