use Rattle.std.proofs.Common.{◌≡◌, sym, ap, ◌∙◌, rules}
use Rattle.papaya_words.specs.declared.refused.Refused.{Refused as Cause}
use Rattle.papaya_call.specs.declared.ask.Ask.TheVariants.{Done}
use Rattle.papaya_call.specs.declared.call.Reply.TheVariants.{Refused}
use Rattle.papaya_call.specs.declared.chain.ask.Ask.TheVariants.{Call}
use Rattle.papaya_map_book.specs.Parts.{begun_of}
use Rattle.papaya_map_change.proofs.InsertingReplies.{has_put, inserted, replaced}
use Rattle.papaya_map_change.proofs.insertion.Insertion.replied.Goals.{in-Call+in-Done+in-Absent-1, in-Call+in-Load-1, in-Copy-1}
use Rattle.papaya_map_change.proofs.insertion.Insertion.replied.Goals as goal

pub returns-in-Some-clause-put : goal.returns-in-Some-clause-put
returns-in-Some-clause-put g c = λ key value begun r.
    let some : (refused : Cause) → c.requires.done.0 ≡ Refused refused
    → ⊥ = λ refused e. let both : c.ask.result ≡ Call (Done (Refused refused)) = c.ask.ensures.value
    ∙ (c.requires.done.1 ∙ ap (λ z. Call (Done z)) e) in
    elim c.match-ask.branch [ in-Call+in-Done+in-Absent-1 w ↦ search rules | in-Call+in-Load-1 w ↦ search rules | in-Copy-1 w ↦ search rules ] in
    replaced g.K.PartialEq.eq g.K.Hash.hash_input g.S.BuildHasher.build_hasher g.S.Hasher.Hasher.write g.S.Hasher.Hasher.finish g.met.K.Eq.laws
    g.met.K.Hash.respects_eq (begun_of c.args.window.now.book.now.parts) c.args.window.now.book.now.begun.book key value begun
    c.args.window.now.sight.log c.args.self.now r c.requires.done.0 c.requires.done.1 some _ c.in-Some.taken c.in-Some.is
    (c.value.ensures ∙ ap (λ z. z.value) c.pair.ensures)

pub returns-in-None-clause-put : goal.returns-in-None-clause-put
returns-in-None-clause-put g c = λ key value begun r.
    let some : (refused : Cause) → c.requires.done.0 ≡ Refused refused
    → ⊥ = λ refused e. let both : c.ask.result ≡ Call (Done (Refused refused)) = c.ask.ensures.value
    ∙ (c.requires.done.1 ∙ ap (λ z. Call (Done z)) e) in
    elim c.match-ask.branch [ in-Call+in-Done+in-Absent-1 w ↦ search rules | in-Call+in-Load-1 w ↦ search rules | in-Copy-1 w ↦ search rules ] in
    inserted g.K.PartialEq.eq g.K.Hash.hash_input g.S.BuildHasher.build_hasher g.S.Hasher.Hasher.write g.S.Hasher.Hasher.finish g.met.K.Eq.laws
    g.met.K.Hash.respects_eq (begun_of c.args.window.now.book.now.parts) c.args.window.now.book.now.begun.book key value begun
    c.args.window.now.sight.log c.args.self.now r c.requires.done.0 c.requires.done.1 some c.in-None.is

pub returns-in-Some-clause-changed : goal.returns-in-Some-clause-changed
returns-in-Some-clause-changed g c =
    let some : (refused : Cause) → c.requires.done.0 ≡ Refused refused
    → ⊥ = λ refused e. let both : c.ask.result ≡ Call (Done (Refused refused)) = c.ask.ensures.value
    ∙ (c.requires.done.1 ∙ ap (λ z. Call (Done z)) e) in
    elim c.match-ask.branch [ in-Call+in-Done+in-Absent-1 w ↦ search rules | in-Call+in-Load-1 w ↦ search rules | in-Copy-1 w ↦ search rules ] in
    sym (has_put g.K.PartialEq.eq g.K.Hash.hash_input g.S.BuildHasher.build_hasher g.S.Hasher.Hasher.write g.S.Hasher.Hasher.finish g.met.K.Eq.laws
    g.met.K.Hash.respects_eq (begun_of c.args.window.now.book.now.parts) c.args.window.now.book.now.begun.book c.requires.can.0 c.requires.can.1
    c.requires.can.2 c.args.window.now.sight.log c.args.self.now c.requires.can.3 c.requires.done.0 c.requires.done.1 some)

pub returns-in-None-clause-changed : goal.returns-in-None-clause-changed
returns-in-None-clause-changed g c =
    let some : (refused : Cause) → c.requires.done.0 ≡ Refused refused
    → ⊥ = λ refused e. let both : c.ask.result ≡ Call (Done (Refused refused)) = c.ask.ensures.value
    ∙ (c.requires.done.1 ∙ ap (λ z. Call (Done z)) e) in
    elim c.match-ask.branch [ in-Call+in-Done+in-Absent-1 w ↦ search rules | in-Call+in-Load-1 w ↦ search rules | in-Copy-1 w ↦ search rules ] in
    sym (has_put g.K.PartialEq.eq g.K.Hash.hash_input g.S.BuildHasher.build_hasher g.S.Hasher.Hasher.write g.S.Hasher.Hasher.finish g.met.K.Eq.laws
    g.met.K.Hash.respects_eq (begun_of c.args.window.now.book.now.parts) c.args.window.now.book.now.begun.book c.requires.can.0 c.requires.can.1
    c.requires.can.2 c.args.window.now.sight.log c.args.self.now c.requires.can.3 c.requires.done.0 c.requires.done.1 some)
