use Rattle.std.proofs.Common.{◌≡◌, false, true, sym, ap, ◌∙◌, rules}
use Rattle.papaya_words.specs.declared.word.Kind.TheVariants as kinds
use Rattle.papaya_call.specs.Search.{go_on, look}
use Rattle.papaya_map_book.specs.Logs.{exchanges_of}
use Rattle.papaya_map_book.specs.Parts.{begun_of}
use Rattle.papaya_map_lookup.proofs.Nearing.{looks, meets, none_left, none_there, other_there}
use Rattle.papaya_map_lookup.proofs.Readings.{IsQuery}
use Rattle.papaya_map_lookup.proofs.Slots.{word_bits}
use Rattle.papaya_map_lookup.proofs.Turning.{pair_found}
use Rattle.papaya_map_lookup.proofs.near.read_slot.Goals as goal

pub is_live-requires : goal.is_live-requires
is_live-requires g c = word_bits c.word_of-word.ensures.slot.read

pub named_pair-stored-requires : goal.named_pair-stored-requires
named_pair-stored-requires g c =
    let s = c.word_of-word in
    let lit : c.is_live.result ≡ true = search rules in let live = c.is_live.ensures lit in
    s.ensures.slot.some (λ e. let two : kinds.Live ≡ kinds.Empty = sym live ∙ e in cc two)
    (λ e. let two : kinds.Live ≡ kinds.Closed = sym live ∙ e in cc two)

pub returns-then-not-equivalent-clause-near : goal.returns-then-not-equivalent-clause-near
returns-then-not-equivalent-clause-near g c = λ began hash table reading.
    let lawful : IsQuery g.K.PartialEq.eq g.K.Hash.hash_input (g.Q.Equivalent.matches c.args.key.now) (g.Q.Hash.hash_input c.args.key.now) =
    record { feeds = g.met.Q.Equivalent.hashes_as_key c.args.key.now; class = λ k l. g.met.Q.Equivalent.matches_equal_keys c.args.key.now k l } in
    let w = c.args.window.now.book.now in
    let s = c.word_of-word in
    let lit : c.is_live.result ≡ true = search rules in let live = c.is_live.ensures lit in
    let same = c.equivalent.ensures ∙ ap (g.Q.Equivalent.matches c.args.key.now) (c.near_entry.ensures.key c.in-Some.entry c.in-Some.is ∙ ap (λ z. z.key.value) c.pair-pair.ensures) in
    let differs : c.equivalent.result ≡ false = search rules in
    rw s.ensures.sees.book (other_there g.K.PartialEq.eq g.K.Hash.hash_input g.S.BuildHasher.build_hasher g.S.Hasher.Hasher.write
    g.S.Hasher.Hasher.finish g.met.K.Eq.laws g.met.K.Hash.respects_eq (begun_of w.parts) (g.Q.Equivalent.matches c.args.key.now)
    (g.Q.Hash.hash_input c.args.key.now) lawful (exchanges_of began) hash w.begun.book c.args.window.now.sight.log c.args.at
    c.requires.within table reading
    s.new.window.sight.log s.ensures.sees.log s.result.0 s.result.1.state s.ensures.slot live c.named_pair-stored.result c.named_pair-stored.ensures
    c.equivalent.result same differs)

pub returns-then-is_live-clause-near : goal.returns-then-is_live-clause-near
returns-then-is_live-clause-near g c = λ began hash table reading.
    let lawful : IsQuery g.K.PartialEq.eq g.K.Hash.hash_input (g.Q.Equivalent.matches c.args.key.now) (g.Q.Hash.hash_input c.args.key.now) =
    record { feeds = g.met.Q.Equivalent.hashes_as_key c.args.key.now; class = λ k l. g.met.Q.Equivalent.matches_equal_keys c.args.key.now k l } in
    let w = c.args.window.now.book.now in
    let s = c.word_of-word in
    let lit : c.is_live.result ≡ true = search rules in let live = c.is_live.ensures lit in
    let same = c.equivalent.ensures ∙ ap (g.Q.Equivalent.matches c.args.key.now) (c.near_entry.ensures.key c.in-Some.entry c.in-Some.is ∙ ap (λ z. z.key.value) c.pair-pair.ensures) in
    let agrees : c.equivalent.result ≡ true = search rules in
    let key = c.near_entry.ensures.key c.in-Some.entry c.in-Some.is ∙ ap (λ z. z.key.value) c.pair-pair.ensures in
    let value = c.near_entry.ensures.value c.in-Some.entry c.in-Some.is ∙ ap (λ z. z.value) c.pair-pair.ensures in
    rw s.ensures.sees.book (pair_found g.K.PartialEq.eq g.K.Hash.hash_input g.S.BuildHasher.build_hasher g.S.Hasher.Hasher.write
    g.S.Hasher.Hasher.finish g.met.K.Eq.laws g.met.K.Hash.respects_eq (begun_of w.parts) (g.Q.Equivalent.matches c.args.key.now)
    (g.Q.Hash.hash_input c.args.key.now) lawful (exchanges_of began) hash w.begun.book c.args.window.now.sight.log c.args.at
    c.requires.within table reading
    s.new.window.sight.log s.ensures.sees.log s.result.0 s.result.1.state s.ensures.slot c.args.at s.result.0
    (looks c.args.at s.result.0 kinds.Live live) c.named_pair-stored.result c.named_pair-stored.ensures c.equivalent.result same c.args.at
    s.result.0 (meets c.args.at s.result.0 c.equivalent.result live agrees) _ key value)

pub returns-in-Empty-clause-near : goal.returns-in-Empty-clause-near
returns-in-Empty-clause-near g c = λ began hash table reading.
    let lawful : IsQuery g.K.PartialEq.eq g.K.Hash.hash_input (g.Q.Equivalent.matches c.args.key.now) (g.Q.Hash.hash_input c.args.key.now) =
    record { feeds = g.met.Q.Equivalent.hashes_as_key c.args.key.now; class = λ k l. g.met.Q.Equivalent.matches_equal_keys c.args.key.now k l } in
    let w = c.args.window.now.book.now in
    let s = c.word_of-word in
    rw s.ensures.sees.book (none_there g.K.PartialEq.eq g.K.Hash.hash_input g.S.BuildHasher.build_hasher g.S.Hasher.Hasher.write
    g.S.Hasher.Hasher.finish g.met.K.Eq.laws g.met.K.Hash.respects_eq (begun_of w.parts) (g.Q.Equivalent.matches c.args.key.now)
    (g.Q.Hash.hash_input c.args.key.now) lawful (exchanges_of began) hash w.begun.book c.args.window.now.sight.log c.args.at
    c.requires.within table reading
    s.new.window.sight.log s.ensures.sees.log s.result.0 s.result.1.state s.ensures.slot (sym c.kind.ensures ∙ c.in-Empty.is))

pub returns-in-Buried-clause-near : goal.returns-in-Buried-clause-near
returns-in-Buried-clause-near g c = λ began hash table reading.
    let lawful : IsQuery g.K.PartialEq.eq g.K.Hash.hash_input (g.Q.Equivalent.matches c.args.key.now) (g.Q.Hash.hash_input c.args.key.now) =
    record { feeds = g.met.Q.Equivalent.hashes_as_key c.args.key.now; class = λ k l. g.met.Q.Equivalent.matches_equal_keys c.args.key.now k l } in
    let w = c.args.window.now.book.now in
    let s = c.word_of-word in
    let is : look c.args.at s.result.0 ≡ go_on c.args.at = search rules in
    rw s.ensures.sees.book (none_left g.K.PartialEq.eq g.K.Hash.hash_input g.S.BuildHasher.build_hasher g.S.Hasher.Hasher.write
    g.S.Hasher.Hasher.finish g.met.K.Eq.laws g.met.K.Hash.respects_eq (begun_of w.parts) (g.Q.Equivalent.matches c.args.key.now)
    (g.Q.Hash.hash_input c.args.key.now) lawful (exchanges_of began) hash w.begun.book c.args.window.now.sight.log c.args.at
    c.requires.within table reading
    s.new.window.sight.log s.ensures.sees.log s.result.0 s.result.1.state s.ensures.slot is)
