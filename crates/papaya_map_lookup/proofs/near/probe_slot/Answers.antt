use Rattle.std.proofs.Common.{◌≡◌, false, true, rules}
use Rattle.papaya_words.specs.Word.{may_hold}
use Rattle.papaya_map_book.specs.Logs.{exchanges_of}
use Rattle.papaya_map_book.specs.Parts.{begun_of}
use Rattle.papaya_map_book.proofs.Loaded.{table_since}
use Rattle.papaya_map_lookup.proofs.Nearing.{passed_over, to_read}
use Rattle.papaya_map_lookup.proofs.Readings.{IsQuery}
use Rattle.papaya_map_lookup.proofs.near.probe_slot.Goals as goal

pub returns-then-not-holds-clause-near : goal.returns-then-not-holds-clause-near
returns-then-not-holds-clause-near g c = λ began table reading.
    let lawful : IsQuery g.K.PartialEq.eq g.K.Hash.hash_input (g.Q.Equivalent.matches c.args.key.now) (g.Q.Hash.hash_input c.args.key.now) =
    record { feeds = g.met.Q.Equivalent.hashes_as_key c.args.key.now; class = λ k l. g.met.Q.Equivalent.matches_equal_keys c.args.key.now k l } in
    let w = c.args.window.now.book.now in
    let h = c.hint_of-found in
    let differs : may_hold h.result c.args.hash ≡ false = search rules in
    rw h.ensures.sees.book (passed_over g.K.PartialEq.eq g.K.Hash.hash_input g.S.BuildHasher.build_hasher g.S.Hasher.Hasher.write
    g.S.Hasher.Hasher.finish g.met.K.Eq.laws g.met.K.Hash.respects_eq (begun_of w.parts) (g.Q.Equivalent.matches c.args.key.now)
    (g.Q.Hash.hash_input c.args.key.now) lawful (exchanges_of began) c.args.hash w.begun.book c.args.window.now.sight.log c.args.at
    c.requires.within table reading
    h.new.window.sight.log h.ensures.sees.log h.result h.ensures.hint differs)

pub read_slot-requires-clause-slot : goal.read_slot-requires-clause-slot
read_slot-requires-clause-slot g c =
    let r = c.requires.slot in let h = c.hint_of-found in
    (r.0, table_since c.args.window.now.sight.log h.new.window.sight.log c.args.at.table r.0 h.ensures.sees.log r.1, r.2, r.3, r.4)

pub returns-clause-near : goal.returns-clause-near
returns-clause-near g c = λ began table reading.
    let lawful : IsQuery g.K.PartialEq.eq g.K.Hash.hash_input (g.Q.Equivalent.matches c.args.key.now) (g.Q.Hash.hash_input c.args.key.now) =
    record { feeds = g.met.Q.Equivalent.hashes_as_key c.args.key.now; class = λ k l. g.met.Q.Equivalent.matches_equal_keys c.args.key.now k l } in
    let w = c.args.window.now.book.now in
    let h = c.hint_of-found in
    let agrees : may_hold h.result c.args.hash ≡ true = search rules in
    c.read_slot.ensures.near began c.args.hash table (rw h.ensures.sees.book (to_read g.K.PartialEq.eq g.K.Hash.hash_input g.S.BuildHasher.build_hasher
    g.S.Hasher.Hasher.write g.S.Hasher.Hasher.finish
    g.met.K.Eq.laws g.met.K.Hash.respects_eq (begun_of w.parts) (g.Q.Equivalent.matches c.args.key.now) (g.Q.Hash.hash_input c.args.key.now) lawful
    (exchanges_of began) c.args.hash w.begun.book c.args.window.now.sight.log c.args.at c.requires.within table reading
    h.new.window.sight.log h.ensures.sees.log h.result h.ensures.hint agrees))
