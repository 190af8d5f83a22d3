use Rattle.std.proofs.Common.{ℕ, None, refl, subst}
use Rattle.papaya_call.specs.declared.call.Call.TheVariants.{Insert}
use Rattle.papaya_words_keys.specs.Hashes.{hash_of}
use Rattle.papaya_core_timeline.specs.Content.{map_in}
use Rattle.papaya_core_timeline.specs.Solo.{IsAnswered}
use Rattle.papaya_seq.specs.Map.{insertion}
use Rattle.std.specs.Prelude.{true}
use Rattle.papaya_seq.proofs.Answered.{neither_made, replaced_by}
use Rattle.papaya_seq.proofs.DoneAlone.{made_done, made_refused}
use Rattle.papaya_seq.proofs.seq.HashMap.put.Goals as goal
use Rattle.papaya_seq.proofs.seq.HashMap.put.Given.{Over}

-- how keys are hashed
abbrev hash : (g : Over) → g.row.S.Denot → g.row.K.Denot → ℕ
hash g = hash_of g.K.Hash.hash_input g.S.BuildHasher.build_hasher g.S.Hasher.Hasher.write g.S.Hasher.Hasher.finish

pub returns-in-Replaced-clause-puts : goal.returns-in-Replaced-clause-puts
returns-in-Replaced-clause-puts g c =
    let e = c.insert_by-reply.ensures in
    let r = replaced_by g.K.PartialEq.eq g.met.K.Eq.laws c.args.key c.args.value c.args.self.now.store c.insert_by-reply.new.self.store
    c.insert_by-reply.result.0 c.in-Replaced.old c.in-Replaced.new c.in-Replaced.is e.answers e.fresh in
    (_, refl, r.made.inserts, e.keeps)

pub returns-in-Refused-clause-puts : goal.returns-in-Refused-clause-puts
returns-in-Refused-clause-puts g c =
    let e = c.insert_by-reply.ensures in
    let a = subst (λ reply. IsAnswered g.K.PartialEq.eq (insertion true c.args.key c.args.value) (map_in g.K.PartialEq.eq c.args.self.now.store) reply
    (map_in g.K.PartialEq.eq c.insert_by-reply.new.self.store)) c.in-Refused.is e.answers in
    (e.cause c.in-Refused.refused c.in-Refused.is, a.0, e.keeps)

pub returns-in_default-clause-puts : goal.returns-in_default-clause-puts
returns-in_default-clause-puts g c =
    let e = c.insert_by-reply.ensures in
    let m = neither_made g.K.PartialEq.eq g.met.K.Eq.laws c.args.key c.args.value c.args.self.now.store c.insert_by-reply.new.self.store
    c.insert_by-reply.result.0 e.answers e.fresh c.in_default.not-Replaced c.in_default.not-Refused in
    (None, refl, m.1.inserts, e.keeps)

pub returns-in-Replaced-clause-alone : goal.returns-in-Replaced-clause-alone
returns-in-Replaced-clause-alone g c =
    made_done g.K.PartialEq.eq (hash g) c.args.self.now c.insert_by-reply.new.self (Insert c.args.key c.args.value)
    c.insert_by-reply.result.0 c.insert_by-reply.ensures.alone _

pub returns-in-Refused-clause-alone : goal.returns-in-Refused-clause-alone
returns-in-Refused-clause-alone g c =
    made_refused g.K.PartialEq.eq (hash g) c.args.self.now c.insert_by-reply.new.self (Insert c.args.key c.args.value)
    c.insert_by-reply.result.0 c.insert_by-reply.ensures.alone c.in-Refused.refused c.in-Refused.is

pub returns-in_default-clause-alone : goal.returns-in_default-clause-alone
returns-in_default-clause-alone g c =
    made_done g.K.PartialEq.eq (hash g) c.args.self.now c.insert_by-reply.new.self (Insert c.args.key c.args.value)
    c.insert_by-reply.result.0 c.insert_by-reply.ensures.alone _
