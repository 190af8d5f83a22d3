use Rattle.std.proofs.Common.{◌≡◌, None, Some, refl, ap, ◌∙◌}
use Rattle.papaya_call.specs.declared.compute.Choice.TheVariants.{Remove as To_remove}
use Rattle.papaya_call.specs.declared.compute.Remembered.{Remembered}
use Rattle.papaya_call.specs.declared.chain.machine.Machine.{Machine}
use Rattle.papaya_map_book.specs.Hashes.{hash_of}
use Rattle.papaya_map_book.specs.Parts.{begun_of}
use Rattle.papaya_map_change.specs.Doing.{has_changed}
use Rattle.papaya_map_compute.specs.Resuming.{resumed_at}
use Rattle.papaya_map_compute.proofs.Resumed.{resumes_removing}
use Rattle.papaya_map_compute.proofs.slow_path.Computing.removing.Goals as goal

pub resume-requires-clause-remembered : goal.resume-requires-clause-remembered
resume-requires-clause-remembered g c = record { fill = tt; choice = tt }

pub returns-clause-resumes : goal.returns-clause-resumes
returns-clause-resumes g c = λ begun seen was.
    let hash = (hash_of g.K.Hash.hash_input g.S.BuildHasher.build_hasher g.S.Hasher.Hasher.write g.S.Hasher.Hasher.finish) in
    let w = c.args.window.now.book.now in let log = c.args.window.now.sight.log in let p = c.args.shown in
    let held : Remembered = record { fill = None; choice = Some (To_remove p.index) } in
    let is : record { fill = None; choice = Some (To_remove c.index.result) } ≡ held = ap (λ n. record { fill = None; choice = Some (To_remove n) })
    c.index.ensures in
    let machine = c.resume.ensures.machine ∙
    (ap (resumed_at c.args.hash w.parts.mode c.args.initial w.parts.limit) is
    ∙ ap (λ h. resumed_at h w.parts.mode c.args.initial w.parts.limit held) c.requires.hashed) in
    resumes_removing g.K.PartialEq.eq hash (begun_of w.parts) w.begun.book c.args.key begun log seen c.requires.lawful _ c.args.initial
    c.resume.ensures.table c.resume.ensures.pairs
    (refl, tt) tt p c.requires.shown was (ap (λ z. Some z) c.again.ensures) refl refl machine

pub returns-clause-ahead : goal.returns-clause-ahead
returns-clause-ahead g c = record {
  valid = c.resume.ensures.valid;
  calling = ap (λ (m : Machine). m.phase) c.resume.ensures.machine;
  initial_is = ap (λ (m : Machine). m.call.initial) c.resume.ensures.machine;
  unchanged = ap has_changed c.resume.ensures.machine;
}
