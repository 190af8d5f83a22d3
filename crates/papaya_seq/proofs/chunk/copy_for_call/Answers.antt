use Rattle.std.proofs.Common.{rules, ◌≡◌, ℕ, sym, subst}
use Rattle.papaya_call.specs.declared.chain.machine.Phase.TheVariants.{Copying as Copying_root}
use Rattle.papaya_call.specs.ChainMachine.{after}
use Rattle.papaya_call.specs.declared.copy.copying.Copied.TheVariants.{On}
use Rattle.papaya_call.specs.declared.copy.copying.Copying.TheVariants.{Stepping}
use Rattle.papaya_call.specs.declared.copy.settle.Settle.TheVariants.{Looking}
use Rattle.papaya_call.specs.declared.copy.step.Step.TheVariants.{Settling}
use Rattle.papaya_words_keys.specs.Hashes.{hash_of}
use Rattle.papaya_seq.specs.Copies.{Copies, copy_of}
use Rattle.papaya_seq.proofs.CopyTurns.{calls_so}
use Rattle.papaya_seq.proofs.chunk.copy_for_call.Goals as goal
use Rattle.papaya_seq.proofs.chunk.copy_for_call.Given.{Over}

-- the hash of a key
abbrev hash : (g : Over) → g.row.S.Denot → g.row.K.Denot → ℕ
hash g = hash_of g.K.Hash.hash_input g.S.BuildHasher.build_hasher g.S.Hasher.Hasher.write g.S.Hasher.Hasher.finish

pub returns-in-Copying-Stepping-default-Settling-default-Looking : goal.returns-in-Copying-Stepping-default-Settling-default-Looking
returns-in-Copying-Stepping-default-Settling-default-Looking g c =
    let m = c.args.machine.now in
    let s = c.args.store.now in
    let s' = c.copy_slots-step.new.store in
    let aim = c.in-Copying-Stepping-default-Settling-default-Looking.aim in
    let from = Stepping aim (Settling c.in-Copying-Stepping-default-Settling-default-Looking.chunk Looking) in
    let to = Stepping aim c.copy_slots-step.result in
    let phase : m.phase ≡ Copying_root from = search rules in
    let (told, led) = c.copy_slots-step.ensures aim m.call.initial m.number in (
      told,
      subst (λ p. Copies g.K.PartialEq.eq (hash g) copy_of after told s (record m { phase = p }) s' (record m { phase = Copying_root to })) (sym phase)
          (calls_so g.K.PartialEq.eq (hash g) m told s (On from) s' (On to) led),
    )
