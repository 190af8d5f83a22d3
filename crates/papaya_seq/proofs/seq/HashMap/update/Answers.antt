use Rattle.std.proofs.Common.{ℕ, Ok, refl, ◌∙◌, ap}
use Rattle.std.proofs.lemmas.Result.{err_from_is_err_and}
use Rattle.std.specs.Fn.{FnReturnsAt}
use Rattle.papaya_call.specs.declared.call.Call.TheVariants.{Compute}
use Rattle.papaya_words_keys.specs.Hashes.{hash_of}
use Rattle.papaya_seq.proofs.DoneAlone.{alone_done, alone_refused}
use Rattle.papaya_seq.proofs.UpdatesDone.{update_absent, update_refused, update_stored, updated_logged}
use Rattle.papaya_seq.proofs.seq.HashMap.update.Goals as goal
use Rattle.papaya_seq.proofs.seq.HashMap.update.Given.{Over}

-- how keys are hashed
abbrev hash : (g : Over) → g.row.S.Denot → g.row.K.Denot → ℕ
hash g = hash_of g.K.Hash.hash_input g.S.BuildHasher.build_hasher g.S.Hasher.Hasher.write g.S.Hasher.Hasher.finish

pub stored_value-requires : goal.stored_value-requires
stored_value-requires g c =
    (updated_logged g.K.PartialEq.eq g.met.K.Eq.laws c.args.key c.args.self.now c.compute_by-computed.new.self c.compute_by-computed.result.1
    c.in-Updated.old c.in-Updated.new (c.in_ok-new.was ∙ ap Ok c.in-Updated.is) c.compute_by-computed.ensures.computes).1

pub returns-in_err-new : goal.returns-in_err-new
returns-in_err-new g c =
    let p = err_from_is_err_and c.from_residual.result c.from_residual.ensures.1 in
    let r = update_refused g.K.PartialEq.eq g.met.K.Eq.laws c.args.key c.args.self.now c.compute_by-computed.new.self c.compute_by-computed.result.1
    (FnReturnsAt g.F.Fn c.args.f) tt c.in_err-new.field-0.0 c.in_err-new.was c.compute_by-computed.ensures.computes (λ q o says. says.1) (λ o says. says.1) in
    let made = alone_refused g.K.PartialEq.eq (hash g) c.args.self.now c.compute_by-computed.new.self (Compute c.args.key tt) c.compute_by-computed.result.1
    c.compute_by-computed.ensures.alone c.in_err-new.field-0.0 c.in_err-new.was in
    rw (p.1, p.2) ((refl, λ _. tt, (r.0, made)), record { updates = tt; new = tt; err = r.1 })

pub returns-in-Updated : goal.returns-in-Updated
returns-in-Updated g c =
    let r = update_stored g.K.PartialEq.eq g.met.K.Eq.laws c.args.key c.args.self.now c.compute_by-computed.new.self c.compute_by-computed.result.1
    (FnReturnsAt g.F.Fn c.args.f) c.in-Updated.old c.in-Updated.new c.stored_value.result.now (c.in_ok-new.was ∙ ap Ok c.in-Updated.is)
    c.compute_by-computed.ensures.computes c.stored_value.ensures (λ q o says. says.1) in
    let made = alone_done g.K.PartialEq.eq (hash g) c.args.self.now c.compute_by-computed.new.self (Compute c.args.key tt) c.compute_by-computed.result.1
    c.compute_by-computed.ensures.alone _ in
    ((refl, λ _. tt, (r.0, made)), record { updates = tt; new = r.1; err = tt })

pub returns-in-Aborted : goal.returns-in-Aborted
returns-in-Aborted g c =
    let r = update_absent g.K.PartialEq.eq g.met.K.Eq.laws c.args.key c.args.self.now c.compute_by-computed.new.self c.compute_by-computed.result.1
    (FnReturnsAt g.F.Fn c.args.f) c.in-Aborted.field-0 (c.in_ok-new.was ∙ ap Ok c.in-Aborted.is) c.compute_by-computed.ensures.computes
    (λ q o says. says.1) in
    let made = alone_done g.K.PartialEq.eq (hash g) c.args.self.now c.compute_by-computed.new.self (Compute c.args.key tt) c.compute_by-computed.result.1
    c.compute_by-computed.ensures.alone _ in
    ((refl, λ _. tt, (r, made)), record { updates = tt; new = r.0; err = tt })
