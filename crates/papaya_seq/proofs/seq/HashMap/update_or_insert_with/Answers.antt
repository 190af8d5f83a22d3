use Rattle.std.proofs.Common.{ℕ, Ok, refl, ◌∙◌, ap}
use Rattle.std.proofs.lemmas.Result.{err_from_is_err_and}
use Rattle.std.specs.Fn.{FnReturnsAt}
use Rattle.papaya_call.specs.declared.call.Call.TheVariants.{Compute}
use Rattle.papaya_words_keys.specs.Hashes.{hash_of}
use Rattle.papaya_seq.proofs.DoneAlone.{alone_done, alone_refused}
use Rattle.papaya_seq.proofs.UpdatesDone.{upsert_inserted, upsert_refused, upsert_updated}
use Rattle.papaya_seq.proofs.seq.HashMap.update_or_insert_with.Goals as goal
use Rattle.papaya_seq.proofs.seq.HashMap.update_or_insert_with.Given.{Over}

-- how keys are hashed
abbrev hash : (g : Over) → g.row.S.Denot → g.row.K.Denot → ℕ
hash g = hash_of g.K.Hash.hash_input g.S.BuildHasher.build_hasher g.S.Hasher.Hasher.write g.S.Hasher.Hasher.finish

pub returns-in_err-pair : goal.returns-in_err-pair
returns-in_err-pair g c =
    let p = err_from_is_err_and c.from_residual.result c.from_residual.ensures.1 in
    let r = upsert_refused g.K.PartialEq.eq g.met.K.Eq.laws c.args.key c.args.self.now c.compute_by-computed.new.self c.compute_by-computed.result.1
    (FnReturnsAt g.U.Fn c.args.update) (goal.F-post g c.args.f) c.in_err-pair.field-0.0 c.in_err-pair.was c.compute_by-computed.ensures.computes
    (λ q o says. says.1) (λ o says. says.1) in
    let made = alone_refused g.K.PartialEq.eq (hash g) c.args.self.now c.compute_by-computed.new.self (Compute c.args.key tt) c.compute_by-computed.result.1
    c.compute_by-computed.ensures.alone c.in_err-pair.field-0.0 c.in_err-pair.was in
    rw (p.1, p.2) ((refl, λ _. tt, (r.0, made)), record { stores = tt; value = tt; err = r.1 })

pub returns-in-Inserted : goal.returns-in-Inserted
returns-in-Inserted g c =
    let r = upsert_inserted g.K.PartialEq.eq g.met.K.Eq.laws c.args.key c.args.self.now c.compute_by-computed.new.self c.compute_by-computed.result.1
    (FnReturnsAt g.U.Fn c.args.update) (goal.F-post g c.args.f) c.in-Inserted.pair c.stored_value.result.now (c.in_ok-pair.was ∙ ap Ok c.in-Inserted.is)
    c.compute_by-computed.ensures.computes c.stored_value.ensures (λ o says. says.1) in
    let made = alone_done g.K.PartialEq.eq (hash g) c.args.self.now c.compute_by-computed.new.self (Compute c.args.key tt) c.compute_by-computed.result.1
    c.compute_by-computed.ensures.alone _ in
    ((refl, λ _. tt, (r.0, made)), record { stores = tt; value = r.1; err = tt })

pub returns-in-Updated : goal.returns-in-Updated
returns-in-Updated g c =
    let r = upsert_updated g.K.PartialEq.eq g.met.K.Eq.laws c.args.key c.args.self.now c.compute_by-computed.new.self c.compute_by-computed.result.1
    (FnReturnsAt g.U.Fn c.args.update) (goal.F-post g c.args.f) c.in-Updated.old c.in-Updated.new c.stored_value-in-Updated.result.now
    (c.in_ok-pair.was ∙ ap Ok c.in-Updated.is) c.compute_by-computed.ensures.computes c.stored_value-in-Updated.ensures (λ q o says. says.1) in
    let made = alone_done g.K.PartialEq.eq (hash g) c.args.self.now c.compute_by-computed.new.self (Compute c.args.key tt) c.compute_by-computed.result.1
    c.compute_by-computed.ensures.alone _ in
    ((refl, λ _. tt, (r.0, made)), record { stores = tt; value = r.1; err = tt })
