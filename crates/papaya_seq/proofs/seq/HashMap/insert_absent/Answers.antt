use Rattle.std.proofs.Common.{ℕ, false, refl}
use Rattle.papaya_call.specs.declared.call.Call.TheVariants.{TryInsert}
use Rattle.papaya_words_keys.specs.Hashes.{hash_of}
use Rattle.papaya_seq.proofs.Answered.{inserted_by, occupied_by}
use Rattle.papaya_seq.proofs.DoneAlone.{made_done, made_refused}
use Rattle.papaya_seq.proofs.seq.HashMap.insert_absent.Goals as goal
use Rattle.papaya_seq.proofs.seq.HashMap.insert_absent.Given.{Over}

-- how keys are hashed
abbrev hash : (g : Over) → g.row.S.Denot → g.row.K.Denot → ℕ
hash g = hash_of g.K.Hash.hash_input g.S.BuildHasher.build_hasher g.S.Hasher.Hasher.write g.S.Hasher.Hasher.finish

pub returns-in-Inserted-clause-tried : goal.returns-in-Inserted-clause-tried
returns-in-Inserted-clause-tried g c =
    let e = c.insert_by-reply.ensures in
    let m = inserted_by g.K.PartialEq.eq g.met.K.Eq.laws c.args.key c.args.value c.args.self.now.store c.insert_by-reply.new.self.store false
    c.insert_by-reply.result.0 c.in-Inserted.pair c.in-Inserted.is e.answers e.fresh in
    (m.pair, m.logged, m.value, m.inserts, e.keeps)

pub returns-in-Occupied-clause-tried : goal.returns-in-Occupied-clause-tried
returns-in-Occupied-clause-tried g c =
    let e = c.insert_by-reply.ensures in
    let t = occupied_by g.K.PartialEq.eq g.met.K.Eq.laws c.args.key c.args.value c.args.self.now.store c.insert_by-reply.new.self.store
    c.insert_by-reply.result.0 c.in-Occupied.pair c.in-Occupied.is e.answers in
    rw (e.left c.in-Occupied.pair c.in-Occupied.is) (t.pair, e.keeps.0.pairs c.in-Occupied.pair t.pair t.logged, refl, t.occupied, e.keeps)

pub returns-in-Inserted-clause-alone : goal.returns-in-Inserted-clause-alone
returns-in-Inserted-clause-alone g c =
    made_done g.K.PartialEq.eq (hash g) c.args.self.now c.insert_by-reply.new.self (TryInsert c.args.key c.args.value)
    c.insert_by-reply.result.0 c.insert_by-reply.ensures.alone _

pub returns-in-Occupied-clause-alone : goal.returns-in-Occupied-clause-alone
returns-in-Occupied-clause-alone g c =
    made_done g.K.PartialEq.eq (hash g) c.args.self.now c.insert_by-reply.new.self (TryInsert c.args.key c.args.value)
    c.insert_by-reply.result.0 c.insert_by-reply.ensures.alone _

pub returns-in-Refused-clause-alone : goal.returns-in-Refused-clause-alone
returns-in-Refused-clause-alone g c =
    made_refused g.K.PartialEq.eq (hash g) c.args.self.now c.insert_by-reply.new.self (TryInsert c.args.key c.args.value)
    c.insert_by-reply.result.0 c.insert_by-reply.ensures.alone c.in-Refused.refused c.in-Refused.is
