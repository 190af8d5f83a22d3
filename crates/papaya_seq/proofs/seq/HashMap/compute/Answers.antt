use Rattle.std.proofs.Common.{◌≡◌, ℕ, Ok, Err, Some, sym, ◌∙◌, ap, subst}
use Rattle.std.proofs.lemmas.Result.{err_from_is_err_and}
use Rattle.papaya_words_keys.specs.Hashes.{hash_of}
use Rattle.papaya_seq.specs.Computes.{compute_answered}
use Rattle.papaya_seq.specs.MadeAlone.{IsComputedAlone}
use Rattle.papaya_seq.specs.Map.{deref_pair}
use Rattle.papaya_words_keys.specs.declared.results.Computed.TheVariants.{Inserted, Updated, Removed, Aborted}
use Rattle.papaya_seq.proofs.ComputesDone.{parted_whole}
use Rattle.papaya_seq.proofs.seq.HashMap.compute.Goals as goal
use Rattle.papaya_seq.proofs.seq.HashMap.compute.Given.{Over}

-- how keys are hashed
abbrev hash : (g : Over) → g.row.S.Denot → g.row.K.Denot → ℕ
hash g = hash_of g.K.Hash.hash_input g.S.BuildHasher.build_hasher g.S.Hasher.Hasher.write g.S.Hasher.Hasher.finish

pub returns-in_err-key : goal.returns-in_err-key
returns-in_err-key g c =
    let p = err_from_is_err_and c.from_residual.result c.from_residual.ensures.1 in
    let (answer, after, (done, is, computes), alone, parted) = c.compute_into.ensures.parted in
    let whole = parted_whole answer (compute_answered c.compute_into.result) (Err c.in_err-key.field-0.0) c.compute_into.new.aborted
    (ap compute_answered c.in_err-key.was) parted in
    rw (p.1, p.2) (
      after,
      (done, sym whole ∙ is, computes),
      subst (λ a. IsComputedAlone g.K.PartialEq.eq (hash g) c.args.self.now c.args.key a after)
          whole alone,
    )

pub returns-in-Inserted : goal.returns-in-Inserted
returns-in-Inserted g c =
    let (answer, after, (done, is, computes), alone, parted) = c.compute_into.ensures.parted in
    let whole = parted_whole answer (compute_answered c.compute_into.result) (Ok (Inserted (c.in-Inserted.key.now, c.in-Inserted.value.now)))
    c.compute_into.new.aborted (ap compute_answered (c.in_ok-key.was ∙ ap Ok c.in-Inserted.is)) parted in
    (after, (done, sym whole ∙ is, computes), subst (λ a. IsComputedAlone g.K.PartialEq.eq (hash g) c.args.self.now c.args.key a after) whole alone)

pub returns-in-Updated : goal.returns-in-Updated
returns-in-Updated g c =
    let (answer, after, (done, is, computes), alone, parted) = c.compute_into.ensures.parted in
    let whole = parted_whole answer (compute_answered c.compute_into.result)
    (Ok (Updated (deref_pair c.in-Updated.old) (deref_pair c.in-Updated.new))) c.compute_into.new.aborted
    (ap compute_answered (c.in_ok-key.was ∙ ap Ok c.in-Updated.is)) parted in
    (after, (done, sym whole ∙ is, computes), subst (λ a. IsComputedAlone g.K.PartialEq.eq (hash g) c.args.self.now c.args.key a after) whole alone)

pub returns-in-Removed : goal.returns-in-Removed
returns-in-Removed g c =
    let (answer, after, (done, is, computes), alone, parted) = c.compute_into.ensures.parted in
    let whole = parted_whole answer (compute_answered c.compute_into.result) (Ok (Removed (c.in-Removed.key.now, c.in-Removed.value.now)))
    c.compute_into.new.aborted (ap compute_answered (c.in_ok-key.was ∙ ap Ok c.in-Removed.is)) parted in
    (after, (done, sym whole ∙ is, computes), subst (λ a. IsComputedAlone g.K.PartialEq.eq (hash g) c.args.self.now c.args.key a after) whole alone)

pub returns-in-Some : goal.returns-in-Some
returns-in-Some g c =
    let (answer, after, (done, is, computes), alone, parted) = c.compute_into.ensures.parted in
    let (with, left, whole) = parted_whole answer (compute_answered c.compute_into.result) (Ok (Aborted c.in-Aborted.field-0))
    c.compute_into.new.aborted (ap compute_answered (c.in_ok-key.was ∙ ap Ok c.in-Aborted.is)) parted in
    let same : with ≡ c.in-Some.with = let f : Some with ≡ Some c.in-Some.with = sym left ∙ c.in-Some.is in cc f in (
      after,
      (done, ap (λ t. Ok (Aborted t)) (sym same) ∙ sym whole ∙ is, computes),
      subst (λ a. IsComputedAlone g.K.PartialEq.eq (hash g) c.args.self.now c.args.key a after) (whole ∙ ap (λ t. Ok (Aborted t)) same) alone,
    )
