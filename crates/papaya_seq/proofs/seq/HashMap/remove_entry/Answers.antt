use Rattle.std.proofs.Common.{ℕ, option_map, refl}
use Rattle.papaya_words_keys.specs.Hashes.{hash_of}
use Rattle.papaya_seq.specs.Map.{deref_pair}
use Rattle.papaya_seq.proofs.DoneAlone.{removal_done}
use Rattle.papaya_seq.proofs.Removed.{removed_entry}
use Rattle.papaya_seq.proofs.seq.HashMap.remove_entry.Goals as goal
use Rattle.papaya_seq.proofs.seq.HashMap.remove_entry.Given.{Over}

-- how keys are hashed
abbrev hash : (g : Over) → g.row.S.Denot → g.row.K.Denot → ℕ
hash g = hash_of g.K.Hash.hash_input g.S.BuildHasher.build_hasher g.S.Hasher.Hasher.write g.S.Hasher.Hasher.finish

pub returns-in-Removed : goal.returns-in-Removed
returns-in-Removed g c =
    let matches = g.Q.Equivalent.matches c.args.key.now in
    let h = c.in-Removed.ensures.whole.removal in
    let r = removed_entry g.K.PartialEq.eq matches c.args.self.now c.remove_by.new.self c.in-Removed.pair h.0 c.pair.result h.1 h.2
    c.remove_by.ensures.keeps c.pair.ensures in
    let made = removal_done g.K.PartialEq.eq (hash g) matches c.args.self.now c.remove_by.new.self c.remove_by.result c.remove_by.ensures.alone
    (option_map deref_pair c.pair.result) in
    ((refl, λ _. tt, (r.0, made)), record { removes = tt; removed = r.1; err = tt; never = λ _. refl })
