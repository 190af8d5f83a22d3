use Rattle.std.proofs.Common.{rules, ◌≡◌, ℕ, sym, ◌∙◌}
use Rattle.papaya_call.specs.declared.ask.At.TheVariants as words
use Rattle.papaya_call.specs.declared.search.Search.TheVariants as searches
use Rattle.papaya_call.specs.declared.search.ProbeStep.TheVariants as seen
use Rattle.papaya_call.specs.declared.copy.carry.Carry.TheVariants.{Looking, Reading, Placing}
use Rattle.papaya_call.specs.declared.copy.settle.Settle.TheVariants.{Carrying}
use Rattle.papaya_call.specs.declared.copy.settle.Settled.TheVariants.{On}
use Rattle.papaya_words_keys.specs.Hashes.{hash_of}
use Rattle.papaya_core_store.specs.Tables.{word_at}
use Rattle.papaya_seq.proofs.CopyTurns.{carry_then, finds, reads_passed, settles_none}
use Rattle.papaya_seq.proofs.chunk.find_place.Goals as goal
use Rattle.papaya_seq.proofs.chunk.find_place.Given.{Over}

-- the hash of a key
abbrev hash : (g : Over) → g.row.S.Denot → g.row.K.Denot → ℕ
hash g = hash_of g.K.Hash.hash_input g.S.BuildHasher.build_hasher g.S.Hasher.Hasher.write g.S.Hasher.Hasher.finish

pub returns-then-word-eq0-clause-finds : goal.returns-then-word-eq0-clause-finds
returns-then-word-eq0-clause-finds g c mode slot marked =
    let s = c.args.store.now in
    let place = c.in-On-Reading.place in
    let hints = c.pass_by.ensures.hints in
    let reads : c.pass_by.result ≡ seen.On (searches.Reading place) = search rules in
    let empty : word_at s.words (words.Slot place.table place.probe.i) ≡ 0 = search rules in
    carry_then g.K.PartialEq.eq (hash g) mode slot s marked (Looking c.args.hash c.args.place) (Reading c.args.hash place) (Placing c.args.hash place)
    (reads_passed g.K.PartialEq.eq (hash g) mode slot s marked c.args.hash hints.0 c.args.place place (sym hints.1 ∙ reads))
    (finds g.K.PartialEq.eq (hash g) mode slot s marked c.args.hash place empty)

pub returns-else-word-eq0-clause-finds : goal.returns-else-word-eq0-clause-finds
returns-else-word-eq0-clause-finds g c mode slot marked =
    let hints = c.pass_by.ensures.hints in
    let reads : c.pass_by.result ≡ seen.On (searches.Reading c.in-On-Reading.place) = search rules in
    reads_passed g.K.PartialEq.eq (hash g) mode slot c.args.store.now marked c.args.hash hints.0 c.args.place c.in-On-Reading.place (sym hints.1 ∙ reads)

pub returns-in_default-clause-finds : goal.returns-in_default-clause-finds
returns-in_default-clause-finds g c mode slot marked =
    settles_none g.K.PartialEq.eq (hash g) mode slot c.args.store.now (On (Carrying marked (Looking c.args.hash c.args.place)))
