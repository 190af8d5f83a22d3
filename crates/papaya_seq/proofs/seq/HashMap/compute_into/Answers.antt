use Rattle.std.proofs.Common.{ℕ, Ok, Err, refl, ◌∙◌, ap}
use Rattle.std.proofs.lemmas.Result.{err_from_is_err_and}
use Rattle.papaya_words_keys.specs.Hashes.{hash_of}
use Rattle.papaya_call.specs.declared.call.Call.TheVariants.{Compute}
use Rattle.papaya_seq.specs.Map.{deref_pair}
use Rattle.papaya_words_keys.specs.declared.results.Computed.TheVariants.{Inserted, Updated, Removed, Aborted}
use Rattle.papaya_seq.proofs.ComputesDone.{computes_shown}
use Rattle.papaya_seq.proofs.DoneAlone.{alone_done, alone_refused}
use Rattle.papaya_seq.proofs.UpdatesDone.{removed_logged, updated_logged}
use Rattle.papaya_seq.proofs.seq.HashMap.compute_into.Goals as goal
use Rattle.papaya_seq.proofs.seq.HashMap.compute_into.Given.{Over}

-- how keys are hashed
abbrev hash : (g : Over) → g.row.S.Denot → g.row.K.Denot → ℕ
hash g = hash_of g.K.Hash.hash_input g.S.BuildHasher.build_hasher g.S.Hasher.Hasher.write g.S.Hasher.Hasher.finish

pub returns-in_err-computed : goal.returns-in_err-computed
returns-in_err-computed g c =
    let p = err_from_is_err_and c.from_residual.result c.from_residual.ensures.1 in
    let r = computes_shown _ g.K.PartialEq.eq g.met.K.Eq.laws c.args.key c.args.self.now c.compute_numbered.new.self c.compute_numbered.result
    (Err c.in_err-computed.field-0.0) (Err c.in_err-computed.field-0.0) c.in_err-computed.was c.compute_numbered.ensures.computes refl in
    let made = alone_refused g.K.PartialEq.eq (hash g) c.args.self.now c.compute_numbered.new.self (Compute c.args.key tt) c.compute_numbered.result c.compute_numbered.ensures.alone c.in_err-computed.field-0.0 c.in_err-computed.was in
    rw (p.1, p.2) (
      (refl, λ _. tt, (Err c.in_err-computed.field-0.0, r, made, (refl, refl))),
      record {
        computes = tt;
        parted = (
          Err c.in_err-computed.field-0.0,
          c.compute_numbered.new.self,
          r,
          made,
          (refl, refl),
        );
      },
    )

pub entry-requires-in-Updated : goal.entry-requires-in-Updated
entry-requires-in-Updated g c =
    (updated_logged g.K.PartialEq.eq g.met.K.Eq.laws c.args.key c.args.self.now c.compute_numbered.new.self c.compute_numbered.result c.in-Updated.old
    c.in-Updated.new (c.in_ok-computed.was ∙ ap Ok c.in-Updated.is) c.compute_numbered.ensures.computes).0

pub entry-requires-in-Removed : goal.entry-requires-in-Removed
entry-requires-in-Removed g c =
    removed_logged g.K.PartialEq.eq g.met.K.Eq.laws c.args.key c.args.self.now c.compute_numbered.new.self c.compute_numbered.result c.in-Removed.pair
    (c.in_ok-computed.was ∙ ap Ok c.in-Removed.is) c.compute_numbered.ensures.computes

pub returns-in-Inserted : goal.returns-in-Inserted
returns-in-Inserted g c =
    let r = computes_shown _ g.K.PartialEq.eq g.met.K.Eq.laws c.args.key c.args.self.now c.compute_numbered.new.self c.compute_numbered.result
    (Ok (Inserted c.in-Inserted.pair)) (Ok (Inserted (deref_pair c.entry.result))) (c.in_ok-computed.was ∙ ap Ok c.in-Inserted.is)
    c.compute_numbered.ensures.computes c.entry.ensures in
    let made = alone_done g.K.PartialEq.eq (hash g) c.args.self.now c.compute_numbered.new.self (Compute c.args.key tt) c.compute_numbered.result c.compute_numbered.ensures.alone (Inserted (deref_pair c.entry.result)) in (
      (refl, λ _. tt, (Ok (Inserted (deref_pair c.entry.result)), r, made, (refl, refl))),
      record {
        computes = tt;
        parted = (
          Ok (Inserted (deref_pair c.entry.result)),
          c.compute_numbered.new.self,
          r,
          made,
          (refl, refl),
        );
      },
    )

pub returns-in-Updated : goal.returns-in-Updated
returns-in-Updated g c =
    let r = computes_shown _ g.K.PartialEq.eq g.met.K.Eq.laws c.args.key c.args.self.now c.compute_numbered.new.self c.compute_numbered.result
    (Ok (Updated c.in-Updated.old c.in-Updated.new)) (Ok (Updated (deref_pair c.entry-in-Updated.result) (deref_pair c.entry-in-Updated-2.result)))
    (c.in_ok-computed.was ∙ ap Ok c.in-Updated.is) c.compute_numbered.ensures.computes (c.entry-in-Updated.ensures, c.entry-in-Updated-2.ensures) in
    let made = alone_done g.K.PartialEq.eq (hash g) c.args.self.now c.compute_numbered.new.self (Compute c.args.key tt) c.compute_numbered.result c.compute_numbered.ensures.alone (Updated (deref_pair c.entry-in-Updated.result) (deref_pair c.entry-in-Updated-2.result)) in (
      (refl, λ _. tt, (Ok (Updated (deref_pair c.entry-in-Updated.result) (deref_pair c.entry-in-Updated-2.result)), r, made, (refl, refl))),
      record {
        computes = tt;
        parted = (
          Ok (Updated (deref_pair c.entry-in-Updated.result) (deref_pair c.entry-in-Updated-2.result)),
          c.compute_numbered.new.self,
          r,
          made,
          (refl, refl),
        );
      },
    )

pub returns-in-Removed : goal.returns-in-Removed
returns-in-Removed g c =
    let r = computes_shown _ g.K.PartialEq.eq g.met.K.Eq.laws c.args.key c.args.self.now c.compute_numbered.new.self c.compute_numbered.result
    (Ok (Removed c.in-Removed.pair)) (Ok (Removed (deref_pair c.entry-in-Removed.result))) (c.in_ok-computed.was ∙ ap Ok c.in-Removed.is)
    c.compute_numbered.ensures.computes c.entry-in-Removed.ensures in
    let made = alone_done g.K.PartialEq.eq (hash g) c.args.self.now c.compute_numbered.new.self (Compute c.args.key tt) c.compute_numbered.result c.compute_numbered.ensures.alone (Removed (deref_pair c.entry-in-Removed.result)) in (
      (refl, λ _. tt, (Ok (Removed (deref_pair c.entry-in-Removed.result)), r, made, (refl, refl))),
      record {
        computes = tt;
        parted = (
          Ok (Removed (deref_pair c.entry-in-Removed.result)),
          c.compute_numbered.new.self,
          r,
          made,
          (refl, refl),
        );
      },
    )

pub returns-in-Aborted : goal.returns-in-Aborted
returns-in-Aborted g c =
    let r = computes_shown _ g.K.PartialEq.eq g.met.K.Eq.laws c.args.key c.args.self.now c.compute_numbered.new.self c.compute_numbered.result
    (Ok (Aborted c.in-Aborted.with)) (Ok (Aborted c.in-Aborted.with)) (c.in_ok-computed.was ∙ ap Ok c.in-Aborted.is)
    c.compute_numbered.ensures.computes refl in
    let made = alone_done g.K.PartialEq.eq (hash g) c.args.self.now c.compute_numbered.new.self (Compute c.args.key tt) c.compute_numbered.result c.compute_numbered.ensures.alone (Aborted c.in-Aborted.with) in (
      (refl, λ _. tt, (Ok (Aborted c.in-Aborted.with), r, made, (refl, refl))),
      record {
        computes = tt;
        parted = (
          Ok (Aborted c.in-Aborted.with),
          c.compute_numbered.new.self,
          r,
          made,
          (refl, refl),
        );
      },
    )
