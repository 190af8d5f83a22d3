use Rattle.std.proofs.Common.{◌≡◌, None, Some, refl, sym, ap, ◌∙◌, subst}
use Rattle.papaya_call.specs.declared.compute.Remembered.{Remembered}
use Rattle.papaya_call.specs.declared.chain.machine.Machine.{Machine}
use Rattle.papaya_map_book.specs.declared.book.pairs.KeyPart.TheVariants as keys
use Rattle.papaya_map_book.specs.declared.rule.entry.Named.TheVariants as names
use Rattle.papaya_map_book.specs.Hashes.{hash_of}
use Rattle.papaya_map_book.specs.Logs.{Stored}
use Rattle.papaya_map_book.specs.Parts.{begun_of}
use Rattle.papaya_map_book.specs.Rule.{IsPlaced}
use Rattle.papaya_map_lookup.specs.History.{key_of}
use Rattle.papaya_map_change.specs.Doing.{has_changed}
use Rattle.papaya_map_change.specs.Writing.{HasKey}
use Rattle.papaya_map_compute.specs.Resuming.{resumed_at}
use Rattle.papaya_map_compute.proofs.Resumed.{resumes_filled}
use Rattle.papaya_map_compute.proofs.slow_path.Computing.filled.Goals as goal

pub resume-requires-clause-remembered : goal.resume-requires-clause-remembered
resume-requires-clause-remembered g c = record { fill = rw c.index.ensures c.requires.number; choice = tt }

pub returns-clause-resumes : goal.returns-clause-resumes
returns-clause-resumes g c = λ begun seen was.
    let hash = (hash_of g.K.Hash.hash_input g.S.BuildHasher.build_hasher g.S.Hasher.Hasher.write g.S.Hasher.Hasher.finish) in
    let w = c.args.window.now.book.now in let log = c.args.window.now.sight.log in let q = c.args.pair in
    let placed : IsPlaced (begun_of w.parts) (Some w.begun.book) (names.Pair q) = c.requires.placed in
    let held : Remembered = record { fill = Some q.index; choice = None } in
    let is : record { fill = Some c.index.result; choice = None } ≡ held = ap (λ n. record { fill = Some n; choice = None }) c.index.ensures in
    let machine = c.resume.ensures.machine ∙
    (ap (resumed_at c.args.hash w.parts.mode c.args.initial w.parts.limit) is
    ∙ ap (λ h. resumed_at h w.parts.mode c.args.initial w.parts.limit held) c.requires.hashed) in
    resumes_filled g.K.PartialEq.eq hash (begun_of w.parts) w.begun.book (key_of q) begun log seen c.requires.lawful _ c.args.initial
    c.resume.ensures.table c.resume.ensures.pairs
    (subst (λ (z : Stored _ _). HasKey (begun_of w.parts) w.begun.book (key_of q) (Some (keys.Of z))) (sym c.again.ensures) (refl, placed)) tt
    q placed (g.met.K.Eq.laws.refl (key_of q)) refl was refl refl refl machine

pub returns-clause-ahead : goal.returns-clause-ahead
returns-clause-ahead g c = record {
  valid = c.resume.ensures.valid;
  calling = ap (λ (m : Machine). m.phase) c.resume.ensures.machine;
  initial_is = ap (λ (m : Machine). m.call.initial) c.resume.ensures.machine;
  unchanged = ap has_changed c.resume.ensures.machine;
}
