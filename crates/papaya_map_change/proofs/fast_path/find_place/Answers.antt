use Rattle.std.proofs.Common.{◌≡◌, None, Some, ap, ◌∙◌, subst}
use Rattle.papaya_call.specs.declared.search.Search.TheVariants.{Looking}
use Rattle.papaya_call.specs.Search.{first_place}
use Rattle.papaya_call.specs.declared.machine.State.TheVariants.{Searching}
use Rattle.papaya_map_book.specs.Hashes.{hash_of}
use Rattle.papaya_map_book.specs.Parts.{begun_of}
use Rattle.papaya_map_change.specs.declared.fast_path.SearchEnd.{SearchEnd}
use Rattle.papaya_map_change.specs.Seeking.{Inserts, leads, met_by}
use Rattle.papaya_map_change.specs.Window.Seeking.{IsInsertingAt, IsSeekingAt}
use Rattle.papaya_map_change.proofs.Seeking.{root_found}
use Rattle.papaya_map_change.proofs.fast_path.find_place.Goals as goal

pub seek-turn-requires-clause-stands : goal.seek-turn-requires-clause-stands
seek-turn-requires-clause-stands g c =
    let w = c.args.window.now.book.now in let log = c.args.window.now.sight.log in let root = c.root-number in let size = c.size-len in
    let h = (hash_of g.K.Hash.hash_input g.S.BuildHasher.build_hasher g.S.Hasher.Hasher.write g.S.Hasher.Hasher.finish) w.parts.hasher c.args.key.now in
    let first : c.first-first.result ≡ first_place h root.result.0 size.result.0 size.result.1 = c.first-first.ensures.value
    ∙ ap (λ n. first_place n root.result.0 size.result.0 size.result.1) c.requires.hashed in
    let stands : IsInsertingAt root.new.self c.args.key.now log (Searching (Looking c.first-first.result)) None c.in-Some.table.now =
    rw (root.ensures.sees.book, first)
    (root_found g.K.PartialEq.eq g.K.Hash.hash_input g.S.BuildHasher.build_hasher g.S.Hasher.Hasher.write g.S.Hasher.Hasher.finish g.met.K.Eq.laws
    g.met.K.Hash.respects_eq (begun_of w.parts) w.begun.book c.args.key.now log Inserts root.new.self.sight.log root.ensures.sees.log
    c.requires.lawful root.result.0 root.result.1 c.in-Some.table c.in-Some.is root.ensures.root size.result.0 size.result.1 size.ensures.len
    size.ensures.limit) in
    (log, stands)

pub returns-clause-found : goal.returns-clause-found
returns-clause-found g c = λ spot e who state led.
    let w = c.args.window.now.book.now in let log = c.args.window.now.sight.log in let root = c.root-number in let size = c.size-len in
    let h = (hash_of g.K.Hash.hash_input g.S.BuildHasher.build_hasher g.S.Hasher.Hasher.write g.S.Hasher.Hasher.finish) w.parts.hasher c.args.key.now in
    let first : c.first-first.result ≡ first_place h root.result.0 size.result.0 size.result.1 = c.first-first.ensures.value
    ∙ ap (λ n. first_place n root.result.0 size.result.0 size.result.1) c.requires.hashed in
    let stands : IsSeekingAt who root.new.self c.args.key.now log (Searching (Looking c.first-first.result)) None c.in-Some.table.now =
    rw (root.ensures.sees.book, first)
    (root_found g.K.PartialEq.eq g.K.Hash.hash_input g.S.BuildHasher.build_hasher g.S.Hasher.Hasher.write g.S.Hasher.Hasher.finish g.met.K.Eq.laws
    g.met.K.Hash.respects_eq (begun_of w.parts) w.begun.book c.args.key.now log who root.new.self.sight.log root.ensures.sees.log c.requires.lawful
    root.result.0 root.result.1 c.in-Some.table c.in-Some.is root.ensures.root size.result.0 size.result.1 size.ensures.len size.ensures.limit) in
    let is : record { table = c.in-Some.table; turn = c.seek-turn.result } ≡ spot = cc e in
    subst (λ (z : SearchEnd _ _ _ _). leads who z.turn ≡ Some state
    → IsSeekingAt who c.seek-turn.new.window c.args.key.now log state (met_by z.turn) z.table.now) is
    (λ l. c.seek-turn.ensures.turns who log state l stands) led
