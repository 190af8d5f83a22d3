use Rattle.std.proofs.Common.{rules, ◌≡◌, ℕ, sym, ◌∙◌, ap, subst}
use Rattle.papaya_words.specs.Word.{copied_word, live_word, marked_word, pair_of as number_of}
use Rattle.papaya_words.specs.declared.resize_mode.ResizeMode.TheVariants.{Blocking}
use Rattle.papaya_call.specs.declared.ask.At.TheVariants as words
use Rattle.papaya_call.specs.Settle.{finishes as settle_finishes, marked_as}
use Rattle.papaya_call.specs.declared.copy.carry.Carry.TheVariants.{Hashing, Placing, Placed}
use Rattle.papaya_call.specs.declared.copy.settle.Settle.TheVariants.{Carrying, Finishing, Marking}
use Rattle.papaya_call.specs.declared.copy.settle.Settled.TheVariants.{On, Settled as Was_settled}
use Rattle.papaya_words_keys.specs.Hashes.{hash_of}
use Rattle.papaya_core_store.specs.Performs.{Exchanges}
use Rattle.papaya_core_store.specs.Tables.{note, put, word_at}
use Rattle.papaya_seq.specs.Copies.{IsSized, Settles}
use Rattle.papaya_seq.proofs.CopyTurns.{exchange_sized, finishes, marks, note_sized, notes, places, settles_then}
use Rattle.papaya_seq.proofs.chunk.move_pair.Goals as goal
use Rattle.papaya_seq.proofs.chunk.move_pair.Goals.{After-carry-carry, After-exchange, After-write_hint}
use Rattle.papaya_seq.proofs.chunk.move_pair.Given.{Over}

-- the hash of a key
abbrev hash : (g : Over) → g.row.S.Denot → g.row.K.Denot → ℕ
hash g = hash_of g.K.Hash.hash_input g.S.BuildHasher.build_hasher g.S.Hasher.Hasher.write g.S.Hasher.Hasher.finish

-- the word was marked
sized_marked : (g : Over) (c : After-exchange g) → IsSized c.exchange.new.self
sized_marked g c = exchange_sized g.K.PartialEq.eq (hash g) c.args.store.now c.exchange.new.self (words.Slot c.args.slot.from c.args.slot.index)
    c.args.word c.marked-marked.result.0 c.exchange.result c.exchange.ensures c.requires.sized

pub carry-carry-requires : goal.carry-carry-requires
carry-carry-requires g c = sized_marked g (goal.at.carry-carry-requires g c).After-exchange

-- and its pair has come so far
come : (g : Over) (c : After-carry-carry g)
    → Settles g.K.PartialEq.eq (hash g) c.args.mode c.args.slot c.args.store.now (On (Marking c.args.word)) c.exchange.new.self
    (On (Carrying c.marked-marked.result.0 c.carry-carry.result))
come g c =
    let s = c.args.store.now in
    let s1 = c.exchange.new.self in
    let at = words.Slot c.args.slot.from c.args.slot.index in
    let m = c.marked-marked.result.0 in
    let is : m ≡ marked_as c.args.word = c.marked-marked.ensures ∙ ap marked_word c.pair.ensures in
    let marked : Settles g.K.PartialEq.eq (hash g) c.args.mode c.args.slot s (On (Marking c.args.word)) s1 (On (Carrying m (Hashing c.args.slot.to))) =
    subst (λ x. Settles g.K.PartialEq.eq (hash g) c.args.mode c.args.slot s (On (Marking c.args.word)) s1 (On (Carrying x (Hashing c.args.slot.to)))) (sym is)
    (marks g.K.PartialEq.eq (hash g) c.args.mode c.args.slot s s1 c.exchange.result c.args.word c.requires.stands
    (subst (λ x. Exchanges (word_at s.words at) c.args.word (put s.words at x) c.exchange.result s s1) is c.exchange.ensures)) in
    settles_then g.K.PartialEq.eq (hash g) c.args.mode c.args.slot s (On (Marking c.args.word)) s1 (On (Carrying m (Hashing c.args.slot.to))) s1
    (On (Carrying m c.carry-carry.result)) marked (c.carry-carry.ensures.carries c.args.mode c.args.slot)

pub returns-in_default : goal.returns-in_default
returns-in_default g c = record {
  settles = come g (goal.at.returns-in_default g c).After-carry-carry;
  sized = sized_marked g (goal.at.returns-in_default g c).After-exchange;
}

-- it was put into its place
sized_noted : (g : Over) (c : After-write_hint g) → IsSized c.write_hint.new.self
sized_noted g c =
    note_sized g.K.PartialEq.eq (hash g) c.exchange-2.new.self c.write_hint.new.self c.in-Placing.place.table c.in-Placing.place.probe.i c.hint.result c.write_hint.ensures
    (exchange_sized g.K.PartialEq.eq (hash g) c.exchange.new.self c.exchange-2.new.self
    (words.Slot c.in-Placing.place.table c.in-Placing.place.probe.i) 0 c.live.result.0 c.exchange-2.result c.exchange-2.ensures
    (sized_marked g (goal.at.After-write_hint g c).After-exchange))

placed : (g : Over) (c : After-write_hint g) → Settles g.K.PartialEq.eq (hash g) c.args.mode c.args.slot c.args.store.now (On (Marking c.args.word))
    c.write_hint.new.self (settle_finishes c.marked-marked.result.0 c.args.mode)
placed g c =
    let s = c.args.store.now in
    let s1 = c.exchange.new.self in
    let s2 = c.exchange-2.new.self in
    let s3 = c.write_hint.new.self in
    let m = c.marked-marked.result.0 in
    let place = c.in-Placing.place in
    let h = c.in-Placing.hash in
    let at = words.Slot place.table place.probe.i in
    let live : c.live.result.0 ≡ live_word (number_of m) = c.live.ensures ∙ ap live_word c.pair-pair.ensures in
    let found : Settles g.K.PartialEq.eq (hash g) c.args.mode c.args.slot s (On (Marking c.args.word)) s1 (On (Carrying m (Placing h place))) =
    subst (λ x. Settles g.K.PartialEq.eq (hash g) c.args.mode c.args.slot s (On (Marking c.args.word)) s1 (On (Carrying m x))) c.in-Placing.is
    (come g (goal.at.After-write_hint g c).After-carry-carry) in
    let puts : Settles g.K.PartialEq.eq (hash g) c.args.mode c.args.slot s1 (On (Carrying m (Placing h place))) s2 (On (Carrying m (Placed h place))) =
    places g.K.PartialEq.eq (hash g) c.args.mode c.args.slot s1 s2 c.exchange-2.result m h place (c.carry-carry.ensures.empty h place c.in-Placing.is)
    (subst (λ x. Exchanges (word_at s1.words at) 0 (put s1.words at x) c.exchange-2.result s1 s2) live c.exchange-2.ensures) in
    let hints : Settles g.K.PartialEq.eq (hash g) c.args.mode c.args.slot s2 (On (Carrying m (Placed h place))) s3 (settle_finishes m c.args.mode) =
    notes g.K.PartialEq.eq (hash g) c.args.mode c.args.slot s2 s3 m h place
    (c.write_hint.ensures ∙ ap (λ x. record s2 { words = note s2.words place.table place.probe.i x }) c.hint.ensures) in
    settles_then g.K.PartialEq.eq (hash g) c.args.mode c.args.slot s (On (Marking c.args.word)) s1 (On (Carrying m (Placing h place))) s3
    (settle_finishes m c.args.mode) found
    (settles_then g.K.PartialEq.eq (hash g) c.args.mode c.args.slot s1 (On (Carrying m (Placing h place))) s2 (On (Carrying m (Placed h place))) s3
    (settle_finishes m c.args.mode) puts hints)

pub returns-in-Incremental-clause-settles : goal.returns-in-Incremental-clause-settles
returns-in-Incremental-clause-settles g c =
    let s = c.args.store.now in
    let s3 = c.write_hint.new.self in
    let s4 = c.exchange-in-Incremental.new.self in
    let m = c.marked-marked.result.0 in
    let at = words.Slot c.args.slot.from c.args.slot.index in
    let copied : c.copied.result.0 ≡ copied_word (number_of m) = c.copied.ensures ∙ ap copied_word c.pair-pair.ensures in
    settles_then g.K.PartialEq.eq (hash g) c.args.mode c.args.slot s (On (Marking c.args.word)) s3 (On (Finishing m)) s4 Was_settled
    (subst (λ mode. Settles g.K.PartialEq.eq (hash g) c.args.mode c.args.slot s (On (Marking c.args.word)) s3 (settle_finishes m mode))
    c.in-Incremental.is (placed g (goal.at.returns-in-Incremental-clause-settles g c).After-write_hint))
    (finishes g.K.PartialEq.eq (hash g) c.args.mode c.args.slot s3 s4 c.exchange-in-Incremental.result m
    (subst (λ x. Exchanges (word_at s3.words at) m (put s3.words at x) c.exchange-in-Incremental.result s3 s4) copied c.exchange-in-Incremental.ensures))

pub returns-in-Incremental-clause-sized : goal.returns-in-Incremental-clause-sized
returns-in-Incremental-clause-sized g c =
    exchange_sized g.K.PartialEq.eq (hash g) c.write_hint.new.self c.exchange-in-Incremental.new.self (words.Slot c.args.slot.from c.args.slot.index)
    c.marked-marked.result.0 c.copied.result.0 c.exchange-in-Incremental.result c.exchange-in-Incremental.ensures
    (sized_noted g (goal.at.returns-in-Incremental-clause-sized g c).After-write_hint)

pub returns-in_default-mode-clause-settles : goal.returns-in_default-mode-clause-settles
returns-in_default-mode-clause-settles g c =
    let blocking : c.args.mode ≡ Blocking = search rules in
    subst (λ mode. Settles g.K.PartialEq.eq (hash g) c.args.mode c.args.slot c.args.store.now (On (Marking c.args.word)) c.write_hint.new.self
    (settle_finishes c.marked-marked.result.0 mode)) blocking (placed g (goal.at.returns-in_default-mode-clause-settles g c).After-write_hint)

pub returns-in_default-mode-clause-sized : goal.returns-in_default-mode-clause-sized
returns-in_default-mode-clause-sized g c = sized_noted g (goal.at.returns-in_default-mode-clause-sized g c).After-write_hint
