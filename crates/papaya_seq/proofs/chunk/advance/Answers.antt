use Rattle.std.proofs.Common.{rules, ◌≡◌, ℕ, sym, ◌∙◌, subst}
use Rattle.papaya_call.specs.declared.ask.At.TheVariants.{Done}
use Rattle.papaya_call.specs.Step.{IsValidStep, next_cursor}
use Rattle.papaya_call.specs.declared.copy.copying.Copied.TheVariants.{On}
use Rattle.papaya_call.specs.declared.copy.copying.Copying.TheVariants.{Stepping}
use Rattle.papaya_call.specs.declared.copy.step.Step.TheVariants.{Advancing, AtChunk}
use Rattle.papaya_words.specs.declared.resize_mode.ResizeMode.{ResizeMode}
use Rattle.papaya_words_keys.specs.Hashes.{hash_of}
use Rattle.papaya_core_store.specs.Tables.{word_at}
use Rattle.papaya_seq.specs.Copies.{Steps}
use Rattle.papaya_seq.proofs.Advancing.{advance_led, chunk_led, chunk_passed}
use Rattle.papaya_seq.proofs.CopyTurns.{comes_then}
use Rattle.papaya_seq.proofs.chunk.advance.Goals as goal
use Rattle.papaya_seq.proofs.chunk.advance.Given.{Over}

-- the hash of a key
abbrev hash : (g : Over) → g.row.S.Denot → g.row.K.Denot → ℕ
hash g = hash_of g.K.Hash.hash_input g.S.BuildHasher.build_hasher g.S.Hasher.Hasher.write g.S.Hasher.Hasher.finish

pub loop-at-init : goal.loop-at-init
loop-at-init g c = (
  record {
    some = c.requires.some;
    start = c.requires.start;
    at = c.requires.at;
    begun = c.requires.begun;
    most = c.requires.most;
  },
  λ mode. advance_led g.K.PartialEq.eq (hash g) mode c.args.store.now c.exchange.new.self c.exchange.result c.args.cursor c.exchange.ensures,
)

pub returns-in_default : goal.returns-in_default
returns-in_default g c mode =
    subst (λ x. Steps g.K.PartialEq.eq (hash g) mode c.args.store.now (Advancing c.args.cursor) c.exchange.new.self x)
    (sym c.next-step.ensures.value) (c.loop-at.invariant.1 mode)

pub returns-then-word-eq0 : goal.returns-then-word-eq0
returns-then-word-eq0 g c mode =
    subst (λ x. Steps g.K.PartialEq.eq (hash g) mode c.args.store.now (Advancing c.args.cursor) c.exchange.new.self x)
    (sym c.next-step.ensures.value ∙ c.in-AtChunk.is) (c.loop-at.invariant.1 mode)

pub loop-at-preserved : goal.loop-at-preserved
loop-at-preserved g c =
    let s = c.args.store.now in
    let s' = c.exchange.new.self in
    let at = c.in-AtChunk.at in
    let some : word_at s'.words (Done at.to at.at) ≡ 0 → ⊥ = λ zero. search rules in
    let before : (mode : ResizeMode) → Steps g.K.PartialEq.eq (hash g) mode s (Advancing c.args.cursor) s' (AtChunk at) = λ mode. subst
    (λ x. Steps g.K.PartialEq.eq (hash g) mode s (Advancing c.args.cursor) s' x)
    (sym c.next-step.ensures.value ∙ c.in-AtChunk.is) (c.loop-at.invariant.1 mode) in (
      subst IsValidStep c.in-AtChunk.is c.next-step.ensures.valid,
      λ mode aim. comes_then g.K.PartialEq.eq (hash g) mode s (On (Stepping aim (Advancing c.args.cursor))) s' (On (Stepping aim (AtChunk at))) s'
          (On (Stepping aim (next_cursor at))) (before mode aim)
          (chunk_led g.K.PartialEq.eq (hash g) mode s' at (next_cursor at) (chunk_passed at (word_at s'.words (Done at.to at.at)) some) aim),
    )
