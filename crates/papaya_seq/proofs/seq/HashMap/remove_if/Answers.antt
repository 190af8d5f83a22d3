use Rattle.std.proofs.Common.{Err, Ok, ℕ, option_map, refl}
use Rattle.papaya_words_keys.specs.Hashes.{hash_of}
use Rattle.papaya_seq.specs.Map.{deref_pair}
use Rattle.papaya_seq.specs.Removes.{Judges}
use Rattle.papaya_seq.proofs.DoneAlone.{removal_done}
use Rattle.papaya_seq.proofs.Removed.{removed_by, kept_by}
use Rattle.papaya_seq.proofs.seq.HashMap.remove_if.Goals as goal
use Rattle.papaya_seq.proofs.seq.HashMap.remove_if.Given.{Over}

-- how keys are hashed
abbrev hash : (g : Over) → g.row.S.Denot → g.row.K.Denot → ℕ
hash g = hash_of g.K.Hash.hash_input g.S.BuildHasher.build_hasher g.S.Hasher.Hasher.write g.S.Hasher.Hasher.finish

pub returns-in-Removed : goal.returns-in-Removed
returns-in-Removed g c =
    let e = c.remove_by.ensures in
    let matches = g.Q.Equivalent.matches c.args.key.now in
    let r = removed_by g.K.PartialEq.eq matches (Judges g.F.FnMut c.args.agrees) c.args.self.now c.remove_by.new.self c.in-Removed.pair
    c.remove_by.result c.pair.result c.in-Removed.is e.whole.removal e.keeps c.pair.ensures in
    let made = removal_done g.K.PartialEq.eq (hash g) matches c.args.self.now c.remove_by.new.self c.remove_by.result e.alone
    (Ok (option_map deref_pair c.pair.result)) in
    ((refl, λ _. tt, (r.1, made)), record { removes = tt; removed = r.2; kept = tt; err = tt; never = λ _. refl })

pub returns-in-Some : goal.returns-in-Some
returns-in-Some g c =
    let e = c.remove_by.ensures in
    let matches = g.Q.Equivalent.matches c.args.key.now in
    let r = kept_by g.K.PartialEq.eq matches (Judges g.F.FnMut c.args.agrees) c.args.self.now c.remove_by.new.self c.in-Kept.pair c.remove_by.result
    c.pair-in-Kept.result c.in-Some.kept c.in-Kept.is c.in-Some.is e.whole.removal e.keeps c.pair-in-Kept.ensures in
    let made = removal_done g.K.PartialEq.eq (hash g) matches c.args.self.now c.remove_by.new.self c.remove_by.result e.alone
    (Err (deref_pair c.in-Some.kept)) in
    ((refl, λ _. tt, (r.0, made)), record { removes = tt; removed = tt; kept = r.1; err = tt; never = λ _. refl })
