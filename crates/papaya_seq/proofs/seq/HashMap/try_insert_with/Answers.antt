use Rattle.std.proofs.Common.{ℕ, Ok, IsSome, refl, sym, ◌∙◌, ap, subst}
use Rattle.std.proofs.lemmas.Result.{err_from_is_err_and}
use Rattle.papaya_call.specs.declared.call.Call.TheVariants.{Compute}
use Rattle.papaya_words_keys.specs.Hashes.{hash_of}
use Rattle.papaya_seq.proofs.DoneAlone.{alone_done, alone_refused}
use Rattle.papaya_seq.proofs.UpdatesDone.{tried_found, tried_refused, tried_stored, tried_there}
use Rattle.papaya_seq.proofs.seq.HashMap.try_insert_with.Goals as goal
use Rattle.papaya_seq.proofs.seq.HashMap.try_insert_with.Given.{Over}

-- how keys are hashed
abbrev hash : (g : Over) → g.row.S.Denot → g.row.K.Denot → ℕ
hash g = hash_of g.K.Hash.hash_input g.S.BuildHasher.build_hasher g.S.Hasher.Hasher.write g.S.Hasher.Hasher.finish

pub returns-in_err-pair : goal.returns-in_err-pair
returns-in_err-pair g c =
    let p = err_from_is_err_and c.from_residual.result c.from_residual.ensures.1 in
    let r = tried_refused g.K.PartialEq.eq g.met.K.Eq.laws c.args.key c.args.self.now c.compute_by-shown.new.self c.compute_by-shown.result.1
    (goal.F-post g c.args.f) tt c.in_err-pair.field-0.0 c.in_err-pair.was c.compute_by-shown.ensures.computes (λ q o says. says.1) (λ o says. says.1) in
    let made = alone_refused g.K.PartialEq.eq (hash g) c.args.self.now c.compute_by-shown.new.self (Compute c.args.key tt) c.compute_by-shown.result.1
    c.compute_by-shown.ensures.alone c.in_err-pair.field-0.0 c.in_err-pair.was in
    rw (p.1, p.2) ((refl, λ _. tt, (r.0, made)), record { stores = tt; stored = tt; occupied = tt; err = r.1 })

pub stored_value-requires-in-Aborted-Some : goal.stored_value-requires-in-Aborted-Some
stored_value-requires-in-Aborted-Some g c =
    let f = tried_found g.K.PartialEq.eq g.met.K.Eq.laws c.args.key c.args.self.now c.compute_by-shown.new.self c.compute_by-shown.result.1
    (goal.F-post g c.args.f) c.in-Aborted-Some.field-0-0 c.in-Aborted-Some.pair c.compute_by-shown.result.0
    (c.in_ok-pair.was ∙ ap Ok c.in-Aborted-Some.is-0) c.in-Aborted-Some.is-1 c.compute_by-shown.ensures.shown c.compute_by-shown.ensures.computes
    (λ o says. says.1) in
    subst (λ o. IsSome o) (sym f.logged) refl

pub returns-in-Inserted-default : goal.returns-in-Inserted-default
returns-in-Inserted-default g c =
    let r = tried_stored g.K.PartialEq.eq g.met.K.Eq.laws c.args.key c.args.self.now c.compute_by-shown.new.self c.compute_by-shown.result.1
    (goal.F-post g c.args.f) c.in-Inserted-default.pair c.stored_value.result.now (c.in_ok-pair.was ∙ ap Ok c.in-Inserted-default.is-0)
    c.compute_by-shown.ensures.computes c.stored_value.ensures (λ o says. says.1) in
    let made = alone_done g.K.PartialEq.eq (hash g) c.args.self.now c.compute_by-shown.new.self (Compute c.args.key tt) c.compute_by-shown.result.1
    c.compute_by-shown.ensures.alone _ in
    ((refl, λ _. tt, (r.0, made)), record { stores = tt; stored = r.1; occupied = tt; err = tt })

pub returns-in-Aborted-Some : goal.returns-in-Aborted-Some
returns-in-Aborted-Some g c =
    let f = tried_found g.K.PartialEq.eq g.met.K.Eq.laws c.args.key c.args.self.now c.compute_by-shown.new.self c.compute_by-shown.result.1
    (goal.F-post g c.args.f) c.in-Aborted-Some.field-0-0 c.in-Aborted-Some.pair c.compute_by-shown.result.0
    (c.in_ok-pair.was ∙ ap Ok c.in-Aborted-Some.is-0) c.in-Aborted-Some.is-1 c.compute_by-shown.ensures.shown c.compute_by-shown.ensures.computes
    (λ o says. says.1) in
    let r = tried_there g.K.PartialEq.eq c.args.key c.args.self.now c.compute_by-shown.new.self c.in-Aborted-Some.pair
    c.stored_value-in-Aborted-Some.result.now f c.stored_value-in-Aborted-Some.ensures in
    let made = alone_done g.K.PartialEq.eq (hash g) c.args.self.now c.compute_by-shown.new.self (Compute c.args.key tt) c.compute_by-shown.result.1
    c.compute_by-shown.ensures.alone _ in
    ((refl, λ _. tt, (r.0, made)), record { stores = tt; stored = tt; occupied = r.1; err = tt })
