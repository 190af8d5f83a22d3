use Rattle.std.proofs.Common.{true, ℕ, IsSome, refl, sym, ◌∙◌, ap, subst}
use Rattle.papaya_call.specs.declared.call.Call.TheVariants.{Insert}
use Rattle.papaya_words_keys.specs.Hashes.{hash_of}
use Rattle.papaya_core_timeline.specs.Content.{map_in}
use Rattle.papaya_core_timeline.specs.Solo.{IsAnswered}
use Rattle.papaya_seq.specs.Map.{insertion, value_of}
use Rattle.papaya_seq.proofs.Answered.{neither_made, replaced_by, store_refusal, write_cause}
use Rattle.papaya_seq.proofs.DoneAlone.{made_done, made_refused}
use Rattle.papaya_seq.proofs.seq.HashMap.insert.Goals as goal
use Rattle.papaya_seq.proofs.seq.HashMap.insert.Given.{Over}

-- how keys are hashed
abbrev hash : (g : Over) → g.row.S.Denot → g.row.K.Denot → ℕ
hash g = hash_of g.K.Hash.hash_input g.S.BuildHasher.build_hasher g.S.Hasher.Hasher.write g.S.Hasher.Hasher.finish

pub stored_value-requires : goal.stored_value-requires
stored_value-requires g c =
    let e = c.insert_by-reply.ensures in
    let r = replaced_by g.K.PartialEq.eq g.met.K.Eq.laws c.args.key c.args.value c.args.self.now.store c.insert_by-reply.new.self.store
    c.insert_by-reply.result.0 c.in-Replaced.old c.in-Replaced.new c.in-Replaced.is e.answers e.fresh in
    subst (λ o. IsSome o) (sym (e.keeps.0.pairs c.in-Replaced.old r.old r.logged)) refl

pub returns-in-Replaced : goal.returns-in-Replaced
returns-in-Replaced g c =
    let e = c.insert_by-reply.ensures in
    let r = replaced_by g.K.PartialEq.eq g.met.K.Eq.laws c.args.key c.args.value c.args.self.now.store c.insert_by-reply.new.self.store
    c.insert_by-reply.result.0 c.in-Replaced.old c.in-Replaced.new c.in-Replaced.is e.answers e.fresh in
    let shown = c.stored_value.ensures r.old (e.keeps.0.pairs c.in-Replaced.old r.old r.logged) in
    let made = made_done g.K.PartialEq.eq (hash g) c.args.self.now c.insert_by-reply.new.self (Insert c.args.key c.args.value)
    c.insert_by-reply.result.0 e.alone _ in
    rw shown ((refl, λ _. tt, ((r.made.inserts, e.keeps), made)), record { inserts = tt; old = sym (ap value_of r.here); err = tt })

pub returns-in_default : goal.returns-in_default
returns-in_default g c =
    let e = c.insert_by-reply.ensures in
    let m = neither_made g.K.PartialEq.eq g.met.K.Eq.laws c.args.key c.args.value c.args.self.now.store c.insert_by-reply.new.self.store
    c.insert_by-reply.result.0 e.answers e.fresh c.in_default.not-Replaced c.in_default.not-Refused in
    let made = made_done g.K.PartialEq.eq (hash g) c.args.self.now c.insert_by-reply.new.self (Insert c.args.key c.args.value)
    c.insert_by-reply.result.0 e.alone _ in
    ((refl, λ _. tt, ((m.1.inserts, e.keeps), made)), record { inserts = tt; old = sym m.1.inserts.old_is ∙ ap value_of (sym m.1.inserts.update.before); err = tt })

pub returns-in-Refused : goal.returns-in-Refused
returns-in-Refused g c =
    let e = c.insert_by-reply.ensures in
    let a = subst (λ reply. IsAnswered g.K.PartialEq.eq (insertion true c.args.key c.args.value) (map_in g.K.PartialEq.eq c.args.self.now.store) reply
    (map_in g.K.PartialEq.eq c.insert_by-reply.new.self.store)) c.in-Refused.is e.answers in
    let made = made_refused g.K.PartialEq.eq (hash g) c.args.self.now c.insert_by-reply.new.self (Insert c.args.key c.args.value)
    c.insert_by-reply.result.0 e.alone c.in-Refused.refused c.in-Refused.is in
    let cause = e.cause c.in-Refused.refused c.in-Refused.is in
    let why = store_refusal c.args.self.now c.insert_by-reply.new.self c.in-Refused.refused
    (write_cause c.args.self.now c.insert_by-reply.new.self _ c.in-Refused.refused cause) in
    ((refl, λ _. tt, ((cause, a.0, e.keeps), made)), record { inserts = tt; old = tt; err = why })
