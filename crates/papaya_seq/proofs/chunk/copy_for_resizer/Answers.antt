use Rattle.std.proofs.Common.{rules, ◌≡◌, ℕ, sym, subst}
use Rattle.papaya_call.specs.declared.chain.resizer.ResizerState.TheVariants.{Copying as Copying_root}
use Rattle.papaya_call.specs.Resizer.{after, ask_of}
use Rattle.papaya_call.specs.declared.copy.copying.Copied.TheVariants.{On}
use Rattle.papaya_call.specs.declared.copy.copying.Copying.TheVariants.{Stepping}
use Rattle.papaya_call.specs.declared.copy.settle.Settle.TheVariants.{Looking}
use Rattle.papaya_call.specs.declared.copy.step.Step.TheVariants.{Settling}
use Rattle.papaya_words_keys.specs.Hashes.{hash_of}
use Rattle.papaya_seq.specs.Copies.{Copies}
use Rattle.papaya_seq.proofs.CopyTurns.{resizes_so}
use Rattle.papaya_seq.proofs.chunk.copy_for_resizer.Goals as goal
use Rattle.papaya_seq.proofs.chunk.copy_for_resizer.Given.{Over}

-- the hash of a key
abbrev hash : (g : Over) → g.row.S.Denot → g.row.K.Denot → ℕ
hash g = hash_of g.K.Hash.hash_input g.S.BuildHasher.build_hasher g.S.Hasher.Hasher.write g.S.Hasher.Hasher.finish

pub returns-in-Stepping-default-Settling-default-Looking : goal.returns-in-Stepping-default-Settling-default-Looking
returns-in-Stepping-default-Settling-default-Looking g c =
    let z = c.args.resizer.now in
    let s = c.args.store.now in
    let s' = c.copy_slots-step.new.store in
    let root = c.in-Copying.from in
    let aim = c.in-Stepping-default-Settling-default-Looking.aim in
    let from = Stepping aim (Settling c.in-Stepping-default-Settling-default-Looking.chunk Looking) in
    let to = Stepping aim c.copy_slots-step.result in
    let state : z.state ≡ Copying_root root from = search rules in
    let (told, led) = c.copy_slots-step.ensures aim z.initial z.number in (
      told,
      subst (λ x. Copies g.K.PartialEq.eq (hash g) ask_of after told s (record z { state = x }) s' (record z { state = Copying_root root to })) (sym state)
          (resizes_so g.K.PartialEq.eq (hash g) z root told s (On from) s' (On to) led),
    )
