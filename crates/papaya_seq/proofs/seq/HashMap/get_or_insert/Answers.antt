use Rattle.std.proofs.Common.{ℕ, refl}
use Rattle.std.proofs.lemmas.Result.{err_from_is_err_and}
use Rattle.papaya_call.specs.declared.call.Call.TheVariants.{TryInsert}
use Rattle.papaya_words_keys.specs.Hashes.{hash_of}
use Rattle.papaya_seq.proofs.Answered.{store_refusal, tried_refused, tried_value}
use Rattle.papaya_seq.proofs.DoneAlone.{alone_done, alone_refused}
use Rattle.papaya_seq.proofs.seq.HashMap.get_or_insert.Goals as goal
use Rattle.papaya_seq.proofs.seq.HashMap.get_or_insert.Given.{Over}

-- how keys are hashed
abbrev hash : (g : Over) → g.row.S.Denot → g.row.K.Denot → ℕ
hash g = hash_of g.K.Hash.hash_input g.S.BuildHasher.build_hasher g.S.Hasher.Hasher.write g.S.Hasher.Hasher.finish

pub returns-in_err-pair : goal.returns-in_err-pair
returns-in_err-pair g c =
    let p = err_from_is_err_and c.from_residual.result c.from_residual.ensures.1 in
    let r = tried_refused g.K.PartialEq.eq c.args.key c.args.value c.args.self.now c.insert_absent.result c.insert_absent.new.self
    c.in_err-pair.field-0.0 c.in_err-pair.was c.insert_absent.ensures.tried in
    let made = alone_refused g.K.PartialEq.eq (hash g) c.args.self.now c.insert_absent.new.self (TryInsert c.args.key c.args.value)
    c.insert_absent.result c.insert_absent.ensures.alone c.in_err-pair.field-0.0 c.in_err-pair.was in
    let cause = store_refusal c.args.self.now c.insert_absent.new.self c.in_err-pair.field-0.0 r.0.1 in
    rw (p.1, p.2) ((refl, λ _. tt, (r, made)), record { inserts = tt; value = tt; err = (cause, r.0.0) })

pub returns : goal.returns
returns g c =
    let r = tried_value g.K.PartialEq.eq c.args.key c.args.value c.args.self.now c.insert_absent.new.self c.stored_value.result.now c.insert_absent.result
    c.in_ok-pair.pair _ c.in_ok-pair.was c.insert_absent.ensures.tried c.stored_value.ensures in
    let made = alone_done g.K.PartialEq.eq (hash g) c.args.self.now c.insert_absent.new.self (TryInsert c.args.key c.args.value)
    c.insert_absent.result c.insert_absent.ensures.alone _ in
    ((refl, λ _. tt, (r.0, made)), record { inserts = tt; value = r.1; err = tt })
