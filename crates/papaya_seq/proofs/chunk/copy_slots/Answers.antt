use Rattle.std.proofs.Common.{ℕ, sym, subst}
use Rattle.papaya_call.specs.Copying.{leads}
use Rattle.papaya_call.specs.Step.{next_in, next_slot, settled_to}
use Rattle.papaya_call.specs.declared.copy.copying.Aim.{Aim}
use Rattle.papaya_call.specs.declared.copy.copying.Copied.TheVariants.{On}
use Rattle.papaya_call.specs.declared.copy.copying.Copying.TheVariants.{Stepping}
use Rattle.papaya_call.specs.declared.copy.settle.Settle.TheVariants.{Looking}
use Rattle.papaya_call.specs.declared.copy.step.Step.TheVariants.{Advancing, Settling}
use Rattle.papaya_words_keys.specs.Hashes.{hash_of}
use Rattle.papaya_seq.specs.Copies.{Comes, settled_as}
use Rattle.papaya_seq.proofs.CopyTurns.{comes_then, last_slot, next_slots}
use Rattle.papaya_seq.proofs.chunk.copy_slots.Goals as goal
use Rattle.papaya_seq.proofs.chunk.copy_slots.Goals.{After-copy_slot, In_default}
use Rattle.papaya_seq.proofs.chunk.copy_slots.Given.{Over}

-- the hash of a key
abbrev hash : (g : Over) → g.row.S.Denot → g.row.K.Denot → ℕ
hash g = hash_of g.K.Hash.hash_input g.S.BuildHasher.build_hasher g.S.Hasher.Hasher.write g.S.Hasher.Hasher.finish

-- the copy of the slot continued
led : (g : Over) (c : After-copy_slot g) (aim : Aim)
    → Comes g.K.PartialEq.eq (hash g) c.args.mode c.args.store.now (On (Stepping aim (Settling c.args.chunk Looking))) c.copy_slot.new.store
    (leads aim c.args.mode (settled_to c.loop-settle.chunk (settled_as c.copy_slot.result)))
led g c aim =
    comes_then g.K.PartialEq.eq (hash g) c.args.mode c.args.store.now (On (Stepping aim (Settling c.args.chunk Looking))) c.loop-settle.store
    (On (Stepping aim (Settling c.loop-settle.chunk Looking))) c.copy_slot.new.store
    (leads aim c.args.mode (settled_to c.loop-settle.chunk (settled_as c.copy_slot.result)))
    (c.loop-settle.invariant.2 aim) (c.copy_slot.ensures.settles aim c.loop-settle.chunk (sym c.slot.ensures))

pub returns-in-Some : goal.returns-in-Some
returns-in-Some g c aim =
    subst (λ x. Comes g.K.PartialEq.eq (hash g) c.args.mode c.args.store.now (On (Stepping aim (Settling c.args.chunk Looking))) c.copy_slot.new.store
    (leads aim c.args.mode (settled_to c.loop-settle.chunk (settled_as x)))) c.in-Some.is
    (led g (goal.at.returns-in-Some g c).After-copy_slot aim)

-- the slot has been migrated
settled : (g : Over) (c : In_default g) (aim : Aim)
    → Comes g.K.PartialEq.eq (hash g) c.args.mode c.args.store.now (On (Stepping aim (Settling c.args.chunk Looking))) c.copy_slot.new.store
    (leads aim c.args.mode (next_in (next_slot c.loop-settle.chunk)))
settled g c aim =
    subst (λ x. Comes g.K.PartialEq.eq (hash g) c.args.mode c.args.store.now (On (Stepping aim (Settling c.args.chunk Looking))) c.copy_slot.new.store
    (leads aim c.args.mode (settled_to c.loop-settle.chunk (settled_as x)))) c.in_default.is
    (led g (goal.at.In_default g c).After-copy_slot aim)

pub returns-then-chunk : goal.returns-then-chunk
returns-then-chunk g c aim =
    comes_then g.K.PartialEq.eq (hash g) c.args.mode c.args.store.now (On (Stepping aim (Settling c.args.chunk Looking))) c.copy_slot.new.store
    (On (Stepping aim (Advancing c.loop-settle.chunk.cursor))) c.advance.new.store (On (Stepping aim c.advance.result))
    (subst (λ x. Comes g.K.PartialEq.eq (hash g) c.args.mode c.args.store.now (On (Stepping aim (Settling c.args.chunk Looking))) c.copy_slot.new.store
    (leads aim c.args.mode x)) (last_slot c.loop-settle.chunk c.if-chunk.true)
    (settled g (goal.at.returns-then-chunk g c).In_default aim))
    (c.advance.ensures c.args.mode aim)

pub loop-settle-preserved : goal.loop-settle-preserved
loop-settle-preserved g c = (
  record { cursor = c.loop-settle.invariant.0.cursor; at = c.if-chunk.false; within = c.loop-settle.invariant.0.within },
  c.copy_slot.ensures.sized,
  λ aim.
      subst (λ x. Comes g.K.PartialEq.eq (hash g) c.args.mode c.args.store.now (On (Stepping aim (Settling c.args.chunk Looking)))
      c.copy_slot.new.store (leads aim c.args.mode x)) (next_slots c.loop-settle.chunk c.if-chunk.false)
      (settled g (goal.at.loop-settle-preserved g c).In_default aim),
)
