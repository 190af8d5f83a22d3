use Rattle.std.proofs.Common.{IfErr, IsOk, ℕ, None, Some, ap, refl, subst}
use Rattle.std.proofs.lemmas.Result.{err_from_is_err_and}
use Rattle.papaya_words_keys.specs.Hashes.{hash_of}
use Rattle.papaya_seq.specs.Answered.{entry_answered}
use Rattle.papaya_seq.specs.Map.{IsMakeRefusal}
use Rattle.papaya_seq.proofs.DoneAlone.{removal_as_done, removal_as_refused}
use Rattle.papaya_seq.proofs.Removed.{removed_no_value, removed_refused, removed_value}
use Rattle.papaya_seq.proofs.seq.HashMap.remove.Goals as goal
use Rattle.papaya_seq.proofs.seq.HashMap.remove.Given.{Over}

-- how keys are hashed
abbrev hash : (g : Over) → g.row.S.Denot → g.row.K.Denot → ℕ
hash g = hash_of g.K.Hash.hash_input g.S.BuildHasher.build_hasher g.S.Hasher.Hasher.write g.S.Hasher.Hasher.finish

pub returns-in_err-value : goal.returns-in_err-value
returns-in_err-value g c =
    let p = err_from_is_err_and c.from_residual.result c.from_residual.ensures.1 in
    let matches = g.Q.Equivalent.matches c.args.key.now in
    let h = c.remove_entry.follows.holds-at-none in
    let r = removed_refused g.K.PartialEq.eq matches c.args.self.now c.remove_entry.follows.lender-at-none c.remove_entry.result
    c.in_err-value.field-0.0 c.in_err-value.was h.0 in
    let made = removal_as_refused g.K.PartialEq.eq (hash g) matches c.args.self.now c.remove_entry.follows.lender-at-none
    (entry_answered c.remove_entry.result) h.1 c.in_err-value.field-0.0 (ap entry_answered c.in_err-value.was) in
    let why = subst (λ o. IfErr o IsMakeRefusal) c.in_err-value.was c.remove_entry.ensures.err in
    rw (p.1, p.2) (
      (refl, λ _. tt, (r, made)),
      record {
        removes = tt;
        removed = tt;
        err = why;
        never = λ single. subst (λ o. IsOk o) c.in_err-value.was (c.remove_entry.ensures.never single);
      },
    )

pub returns-in-Some : goal.returns-in-Some
returns-in-Some g c =
    let matches = g.Q.Equivalent.matches c.args.key.now in
    let h = c.remove_entry.follows.holds-at-none in
    let r = removed_value g.K.PartialEq.eq matches c.args.self.now c.remove_entry.follows.lender-at-none c.remove_entry.result c.in_ok-value.field-0
    (c.in-Some.field-0-0, c.in-Some.value) c.in_ok-value.was c.in-Some.is h.0 in
    let made = removal_as_done g.K.PartialEq.eq (hash g) matches c.args.self.now c.remove_entry.follows.lender-at-none
    (entry_answered c.remove_entry.result) h.1 (Some c.in-Some.value.now) in
    ((refl, λ _. tt, (r.0, made)), record { removes = tt; removed = r.1; err = tt; never = λ _. refl })

pub returns-in-None : goal.returns-in-None
returns-in-None g c =
    let matches = g.Q.Equivalent.matches c.args.key.now in
    let h = c.remove_entry.follows.holds-at-none in
    let r = removed_no_value g.K.PartialEq.eq matches c.args.self.now c.remove_entry.follows.lender-at-none c.remove_entry.result c.in_ok-value.field-0
    c.in_ok-value.was c.in-None.is h.0 in
    let made = removal_as_done g.K.PartialEq.eq (hash g) matches c.args.self.now c.remove_entry.follows.lender-at-none
    (entry_answered c.remove_entry.result) h.1 None in
    ((refl, λ _. tt, (r, made)), record { removes = tt; removed = r.0; err = tt; never = λ _. refl })
