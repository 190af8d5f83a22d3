use Rattle.std.proofs.Common.{◌≡◌, ℕ, ◌<◌, List, length, sym, ap, ◌∙◌, subst, arith, slice_index_or}
use Rattle.logbook.specs.Pages.{Named}
use Rattle.papaya_map_book.specs.Logs.{exchanges_of}
use Rattle.papaya_map_book.specs.Parts.{begun_of}
use Rattle.papaya_map_book.specs.Sheets.{HoldsHint}
use Rattle.papaya_map_lookup.proofs.Readings.{IsQuery}
use Rattle.papaya_map_lookup.proofs.Slots.{named_at, named_len}
use Rattle.papaya_map_lookup.proofs.Turning.{hint_there}
use Rattle.papaya_map_lookup.proofs.near.probe_place.Goals as goal

pub offset_bounds-slots-at : goal.offset_bounds-slots-at
offset_bounds-slots-at g c =
    let within = c.requires.within in let i = within.i in let most = within.size.most in omega (arith, i, most)

pub bounds-slots-at : goal.bounds-slots-at
bounds-slots-at g c =
    let lawful : IsQuery g.K.PartialEq.eq g.K.Hash.hash_input (g.Q.Equivalent.matches c.args.key.now) (g.Q.Hash.hash_input c.args.key.now) =
    record { feeds = g.met.Q.Equivalent.hashes_as_key c.args.key.now; class = λ k l. g.met.Q.Equivalent.matches_equal_keys c.args.key.now k l } in
    let w = c.args.window.now.book.now in let r = c.requires.reads in
    let there = hint_there g.K.PartialEq.eq g.K.Hash.hash_input g.S.BuildHasher.build_hasher g.S.Hasher.Hasher.write g.S.Hasher.Hasher.finish
    g.met.K.Eq.laws g.met.K.Hash.respects_eq (begun_of w.parts) (g.Q.Equivalent.matches c.args.key.now) (g.Q.Hash.hash_input c.args.key.now) lawful
    (exchanges_of r.0) c.args.hash w.begun.book c.args.window.now.sight.log c.args.at
    c.requires.within c.args.table.now r.1 in
    let len : length c.args.slots.now ≡ length c.args.table.now.slots = ap length c.requires.slots
    ∙ named_len c.args.table.now.book c.args.table.now.slots in
    subst (λ (n : ℕ). c.args.at.probe.i < n) (sym len) there.1

pub offset_bounds-hints-at : goal.offset_bounds-hints-at
offset_bounds-hints-at g c =
    let within = c.requires.within in let i = within.i in let most = within.size.most in omega (arith, i, most)

pub bounds-hints-at : goal.bounds-hints-at
bounds-hints-at g c =
    let lawful : IsQuery g.K.PartialEq.eq g.K.Hash.hash_input (g.Q.Equivalent.matches c.args.key.now) (g.Q.Hash.hash_input c.args.key.now) =
    record { feeds = g.met.Q.Equivalent.hashes_as_key c.args.key.now; class = λ k l. g.met.Q.Equivalent.matches_equal_keys c.args.key.now k l } in
    let w = c.args.window.now.book.now in let r = c.requires.reads in
    let there = hint_there g.K.PartialEq.eq g.K.Hash.hash_input g.S.BuildHasher.build_hasher g.S.Hasher.Hasher.write g.S.Hasher.Hasher.finish
    g.met.K.Eq.laws g.met.K.Hash.respects_eq (begun_of w.parts) (g.Q.Equivalent.matches c.args.key.now) (g.Q.Hash.hash_input c.args.key.now) lawful
    (exchanges_of r.0) c.args.hash w.begun.book c.args.window.now.sight.log c.args.at
    c.requires.within c.args.table.now r.1 in
    (c.requires.hints c.args.at.probe.i c.index-slots-at.result there.1).0

pub probe_slot-requires-clause-slot : goal.probe_slot-requires-clause-slot
probe_slot-requires-clause-slot g c =
    let lawful : IsQuery g.K.PartialEq.eq g.K.Hash.hash_input (g.Q.Equivalent.matches c.args.key.now) (g.Q.Hash.hash_input c.args.key.now) =
    record { feeds = g.met.Q.Equivalent.hashes_as_key c.args.key.now; class = λ k l. g.met.Q.Equivalent.matches_equal_keys c.args.key.now k l } in
    let w = c.args.window.now.book.now in let r = c.requires.reads in
    let there = hint_there g.K.PartialEq.eq g.K.Hash.hash_input g.S.BuildHasher.build_hasher g.S.Hasher.Hasher.write g.S.Hasher.Hasher.finish
    g.met.K.Eq.laws g.met.K.Hash.respects_eq (begun_of w.parts) (g.Q.Equivalent.matches c.args.key.now) (g.Q.Hash.hash_input c.args.key.now) lawful
    (exchanges_of r.0) c.args.hash w.begun.book c.args.window.now.sight.log c.args.at
    c.requires.within c.args.table.now r.1 in
    let is = subst (λ (l : List Named). c.index-slots-at.result ≡ slice_index_or l c.args.at.probe.i c.index-slots-at.result)
    c.requires.slots c.index-slots-at.is in
    let at = named_at c.args.table.now.book c.args.table.now.slots c.args.at.probe.i c.index-slots-at.result there.1 is in
    (c.args.table.now, there.0, at.0, at.1, at.2)

pub probe_slot-requires-clause-hints : goal.probe_slot-requires-clause-hints
probe_slot-requires-clause-hints g c =
    let lawful : IsQuery g.K.PartialEq.eq g.K.Hash.hash_input (g.Q.Equivalent.matches c.args.key.now) (g.Q.Hash.hash_input c.args.key.now) =
    record { feeds = g.met.Q.Equivalent.hashes_as_key c.args.key.now; class = λ k l. g.met.Q.Equivalent.matches_equal_keys c.args.key.now k l } in
    let w = c.args.window.now.book.now in let r = c.requires.reads in
    let there = hint_there g.K.PartialEq.eq g.K.Hash.hash_input g.S.BuildHasher.build_hasher g.S.Hasher.Hasher.write g.S.Hasher.Hasher.finish
    g.met.K.Eq.laws g.met.K.Hash.respects_eq (begun_of w.parts) (g.Q.Equivalent.matches c.args.key.now) (g.Q.Hash.hash_input c.args.key.now) lawful
    (exchanges_of r.0) c.args.hash w.begun.book c.args.window.now.sight.log c.args.at
    c.requires.within c.args.table.now r.1 in
    let i = c.args.at.probe.i in let table = c.args.table.now in
    let holds = c.requires.hints i c.index-hints-at.result there.1 in
    (table, there.0, subst (HoldsHint table.book table.slots i) (sym c.index-hints-at.is) holds.1)

pub returns-clause-near : goal.returns-clause-near
returns-clause-near g c = λ began reading. c.probe_slot.ensures.near began c.args.table.now reading
