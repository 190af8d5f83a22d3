use Rattle.std.proofs.Common.{ℕ, Bool, Ok, Err, ap, subst}
use Rattle.papaya_words_keys.specs.Hashes.{hash_of}
use Rattle.papaya_seq.proofs.DoneAlone.{removal_as_done, removal_as_refused}
use Rattle.papaya_seq.specs.Answered.{old_answered}
use Rattle.papaya_seq.specs.MadeAlone.{IsRemovalAlone}
use Rattle.papaya_seq.specs.Map.{MapState}
use Rattle.papaya_set.specs.Sets.{IsTaken}
use Rattle.papaya_set.proofs.Taken.{taken_err, taken_ok}
use Rattle.papaya_set.proofs.seq.HashSet.remove.Goals as goal
use Rattle.papaya_set.proofs.seq.HashSet.remove.Given.{Over}

-- how keys are hashed
abbrev hash : (g : Over) → g.row.S.Denot → g.row.K.Denot → ℕ
hash g = hash_of g.K.Hash.hash_input g.S.BuildHasher.build_hasher g.S.Hasher.Hasher.write g.S.Hasher.Hasher.finish

pub returns-clause-taken : goal.returns-clause-taken
returns-clause-taken g c = subst (λ (s : MapState _ _ _).
    IsTaken g.K.PartialEq.eq (g.Q.Equivalent.matches c.args.key.now) s (Ok c.is_some-was.result) c.remove.follows.lender-at-none) c.self.view_is
    (taken_ok g.K.PartialEq.eq (g.Q.Equivalent.matches c.args.key.now) c.self.inside.map c.remove.follows.lender-at-none c.remove.result
    c.in-Ok.removed c.in-Ok.is c.remove.follows.holds-at-none.0 c.is_some-was.result c.is_some-was.ensures)

pub returns-in-Err-clause-taken : goal.returns-in-Err-clause-taken
returns-in-Err-clause-taken g c = subst (λ (s : MapState _ _ _).
    IsTaken g.K.PartialEq.eq (g.Q.Equivalent.matches c.args.key.now) s (Err c.in-Err.refused) c.remove.follows.lender-at-none) c.self.view_is
    (taken_err g.K.PartialEq.eq (g.Q.Equivalent.matches c.args.key.now) c.self.inside.map c.remove.follows.lender-at-none c.remove.result
    c.in-Err.refused c.in-Err.is c.remove.follows.holds-at-none.0)

pub returns-clause-alone : goal.returns-clause-alone
returns-clause-alone g c =
    let matches = g.Q.Equivalent.matches c.args.key.now in
    subst (λ (s : MapState _ _ _). IsRemovalAlone g.K.PartialEq.eq (hash g) matches s (Ok c.is_some-was.result) c.remove.follows.lender-at-none)
    c.self.view_is
    (removal_as_done g.K.PartialEq.eq (hash g) matches c.self.inside.map c.remove.follows.lender-at-none (old_answered c.remove.result)
    c.remove.follows.holds-at-none.1 c.is_some-was.result)

pub returns-in-Err-clause-alone : goal.returns-in-Err-clause-alone
returns-in-Err-clause-alone g c =
    let matches = g.Q.Equivalent.matches c.args.key.now in
    subst (λ (s : MapState _ _ _).
    IsRemovalAlone g.K.PartialEq.eq (hash g) {R = Bool} matches s (Err c.in-Err.refused) c.remove.follows.lender-at-none) c.self.view_is
    (removal_as_refused g.K.PartialEq.eq (hash g) matches c.self.inside.map c.remove.follows.lender-at-none (old_answered c.remove.result)
    c.remove.follows.holds-at-none.1 c.in-Err.refused (ap old_answered c.in-Err.is))
