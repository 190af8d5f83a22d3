use Rattle.std.proofs.Common.{rules, ◌≡◌, inl, inr, ℕ, refl, sym, ◌∙◌}
use Rattle.papaya_words.specs.Word.{kind_of}
use Rattle.papaya_words.specs.declared.word.Kind.{Kind}
use Rattle.papaya_words.specs.declared.word.Kind.TheVariants as kinds
use Rattle.papaya_call.specs.declared.ask.At.TheVariants as words
use Rattle.papaya_call.specs.Settle.{look_at}
use Rattle.papaya_call.specs.declared.copy.settle.Settle.TheVariants.{Closing, Looking, Marking, Shutting}
use Rattle.papaya_call.specs.declared.copy.settle.Settled.TheVariants.{On, Settled as Was_settled}
use Rattle.papaya_words_keys.specs.Hashes.{hash_of}
use Rattle.papaya_core_store.specs.Tables.{word_at}
use Rattle.papaya_seq.specs.Copies.{Settles, settled_as}
use Rattle.papaya_seq.proofs.CopyTurns.{closes, exchange_sized, looks_at, note_sized, settles_then, shuts}
use Rattle.papaya_seq.proofs.chunk.copy_slot.Goals as goal
use Rattle.papaya_seq.proofs.chunk.copy_slot.Given.{Over}

-- the hash of a key
abbrev hash : (g : Over) → g.row.S.Denot → g.row.K.Denot → ℕ
hash g = hash_of g.K.Hash.hash_input g.S.BuildHasher.build_hasher g.S.Hasher.Hasher.write g.S.Hasher.Hasher.finish

pub returns-then-word-eq0-clause-settles : goal.returns-then-word-eq0-clause-settles
returns-then-word-eq0-clause-settles g c =
    let s = c.args.store.now in
    let s1 = c.exchange.new.self in
    let s2 = c.write_hint.new.self in
    let empty : word_at s.words (words.Slot c.args.slot.from c.args.slot.index) ≡ 0 = search rules in
    settles_then g.K.PartialEq.eq (hash g) c.args.mode c.args.slot s (On Looking) s (On Closing) s2 Was_settled
    (looks_at g.K.PartialEq.eq (hash g) c.args.mode c.args.slot s 0 kinds.Empty empty refl)
    (settles_then g.K.PartialEq.eq (hash g) c.args.mode c.args.slot s (On Closing) s1 (On Shutting) s2 Was_settled
    (closes g.K.PartialEq.eq (hash g) c.args.mode c.args.slot s s1 c.exchange.result empty c.exchange.ensures)
    (shuts g.K.PartialEq.eq (hash g) c.args.mode c.args.slot s1 s2 c.write_hint.ensures))

pub returns-then-word-eq0-clause-sized : goal.returns-then-word-eq0-clause-sized
returns-then-word-eq0-clause-sized g c =
    note_sized g.K.PartialEq.eq (hash g) c.exchange.new.self c.write_hint.new.self c.args.slot.from c.args.slot.index 129 c.write_hint.ensures
    (exchange_sized g.K.PartialEq.eq (hash g) c.args.store.now c.exchange.new.self (words.Slot c.args.slot.from c.args.slot.index) 0 5
    c.exchange.result c.exchange.ensures c.requires)

pub returns-in-Live-clause-settles : goal.returns-in-Live-clause-settles
returns-in-Live-clause-settles g c =
    let s = c.args.store.now in
    let live : kind_of c.word-word.result ≡ kinds.Live = search rules in
    settles_then g.K.PartialEq.eq (hash g) c.args.mode c.args.slot s (On Looking) s (On (Marking c.word-word.result)) c.move_pair.new.store
    (settled_as c.move_pair.result)
    (looks_at g.K.PartialEq.eq (hash g) c.args.mode c.args.slot s c.word-word.result kinds.Live (sym c.word-word.ensures) live)
    c.move_pair.ensures.settles

pub returns-in-Copied-clause-settles : goal.returns-in-Copied-clause-settles
returns-in-Copied-clause-settles g c =
    let s = c.args.store.now in
    let settled : (kind : Kind) → c.kind.result ≡ kind
    → Settles g.K.PartialEq.eq (hash g) c.args.mode c.args.slot s (On Looking) s (look_at kind c.args.slot c.word-word.result) =
    λ kind is. looks_at g.K.PartialEq.eq (hash g) c.args.mode c.args.slot s c.word-word.result kind (sym c.word-word.ensures) (sym c.kind.ensures ∙ is) in
    elim c.in-Copied.is [
      | inl is ↦ settled kinds.Copied is
      | inr (inl is) ↦ settled kinds.Buried is
      | inr (inr is) ↦ settled kinds.Closed is
    ]
