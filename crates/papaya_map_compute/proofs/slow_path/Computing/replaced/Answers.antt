use Rattle.std.proofs.Common.{◌≡◌, ◌<◌, ◌^◌, None, Some, refl, sym, ap, ◌∙◌, subst}
use Rattle.papaya_call.specs.declared.compute.Choice.TheVariants.{Replace as To_replace}
use Rattle.papaya_call.specs.declared.compute.Remembered.{Remembered}
use Rattle.papaya_call.specs.declared.made.Of.{Of}
use Rattle.papaya_call.specs.Write.{made_of}
use Rattle.papaya_call.specs.declared.chain.machine.Machine.{Machine}
use Rattle.papaya_map_book.specs.declared.book.pairs.ValuePart.TheVariants as values
use Rattle.papaya_map_book.specs.declared.rule.entry.Named.TheVariants as names
use Rattle.papaya_map_book.specs.Hashes.{hash_of}
use Rattle.papaya_map_book.specs.Logs.{Stored}
use Rattle.papaya_map_book.specs.Parts.{begun_of}
use Rattle.papaya_map_book.specs.Rule.{IsPlaced}
use Rattle.papaya_map_change.specs.Doing.{has_changed}
use Rattle.papaya_map_change.specs.Writing.{HasValue, held_value}
use Rattle.papaya_map_compute.specs.Resuming.{resumed_at}
use Rattle.papaya_map_compute.proofs.Resumed.{resumes_replaced}
use Rattle.papaya_map_compute.proofs.slow_path.Computing.replaced.Goals as goal

pub resume-requires-clause-remembered : goal.resume-requires-clause-remembered
resume-requires-clause-remembered g c =
    let met = c.args.met in
    let of_is : c.of.result ≡ record { pair = c.args.pair.index; table = met.place.table; index = met.place.probe.i } = c.of.ensures
    ∙ ap (made_of (record { place = met.place; old = met.word })) c.index-2.ensures in
    record { fill = tt; choice = subst (λ (o : Of). o.pair < 2 ^ 48) (sym of_is) c.requires.number }

pub returns-clause-resumes : goal.returns-clause-resumes
returns-clause-resumes g c = λ begun seen was.
    let hash = (hash_of g.K.Hash.hash_input g.S.BuildHasher.build_hasher g.S.Hasher.Hasher.write g.S.Hasher.Hasher.finish) in
    let w = c.args.window.now.book.now in let log = c.args.window.now.sight.log in let q = c.args.pair in let met = c.args.met in let p = met.stored in
    let placed : IsPlaced (begun_of w.parts) (Some w.begun.book) (names.Pair q) = c.requires.placed in
    let of : Of = record { pair = q.index; table = met.place.table; index = met.place.probe.i } in
    let of_is : c.of.result ≡ of = c.of.ensures ∙ ap (made_of (record { place = met.place; old = met.word })) c.index-2.ensures in
    let held : Remembered = record { fill = None; choice = Some (To_replace p.index of) } in
    let is : record { fill = None; choice = Some (To_replace c.index.result c.of.result) } ≡ held = λ i.
    record { fill = None; choice = Some (To_replace (c.index.ensures i) (of_is i)) } in
    let machine = c.resume.ensures.machine ∙
    (ap (resumed_at c.args.hash w.parts.mode c.args.initial w.parts.limit) is
    ∙ ap (λ h. resumed_at h w.parts.mode c.args.initial w.parts.limit held) c.requires.hashed) in
    resumes_replaced g.K.PartialEq.eq hash (begun_of w.parts) w.begun.book c.args.key begun log seen c.requires.lawful _ c.args.initial
    c.resume.ensures.table c.resume.ensures.pairs
    (refl, tt) (subst (λ (z : Stored _ _). HasValue (begun_of w.parts) w.begun.book (Some (values.Of z))) (sym c.again.ensures) placed)
    q placed c.requires.same p c.requires.kept c.requires.shown was (ap (λ z. Some z) c.again-2.ensures) refl refl refl
    (ap (λ (z : Stored _ _). held_value (Some (values.Of z))) c.again.ensures) met.place.table met.place.probe.i c.requires.there machine

pub returns-clause-ahead : goal.returns-clause-ahead
returns-clause-ahead g c = record {
  valid = c.resume.ensures.valid;
  calling = ap (λ (m : Machine). m.phase) c.resume.ensures.machine;
  initial_is = ap (λ (m : Machine). m.call.initial) c.resume.ensures.machine;
  unchanged = ap has_changed c.resume.ensures.machine;
}
