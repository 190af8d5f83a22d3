use Rattle.std.proofs.Common.{◌≡◌, ◌==◌, Some, sym, ap, ◌∙◌, subst}
use Rattle.papaya_call.specs.declared.ask.Ask.{Ask}
use Rattle.papaya_call_law.specs.Says.{MakesPair}
use Rattle.papaya_call_law.specs.Relies.{IsNumberAsk}
use Rattle.papaya_call_law.proofs.Names.{call_asks}
use Rattle.papaya_map_book.specs.Parts.{begun_of}
use Rattle.papaya_map_book.specs.Hashes.{hash_of}
use Rattle.papaya_map_book.proofs.Opened.{not_zero}
use Rattle.papaya_map_change.proofs.Inserting.{Puts, pair_tried, put_can, put_kind, puts_of, puts_own}
use Rattle.papaya_map_change.proofs.insertion.Insertion.put.Goals as goal

pub put-requires-clause-kind : goal.put-requires-clause-kind
put-requires-clause-kind g c = put_kind g.K.PartialEq.eq
    (hash_of g.K.Hash.hash_input g.S.BuildHasher.build_hasher g.S.Hasher.Hasher.write g.S.Hasher.Hasher.finish)
    (begun_of c.args.window.now.book.now.parts) c.args.window.now.book.now.begun.book c.requires.can.0 c.requires.can.1 c.requires.can.2
    c.args.window.now.sight.log c.args.self.now c.requires.can.3 c.requires.valid c.args.number c.args.place c.args.words.0 c.args.words.1 c.requires.asks

pub put-requires-clause-number : goal.put-requires-clause-number
put-requires-clause-number g c =
    let p = puts_own g.K.PartialEq.eq (hash_of g.K.Hash.hash_input g.S.BuildHasher.build_hasher g.S.Hasher.Hasher.write g.S.Hasher.Hasher.finish)
    (begun_of c.args.window.now.book.now.parts) c.args.window.now.book.now.begun.book c.requires.can.0 c.requires.can.1 c.requires.can.2
    c.args.window.now.sight.log c.args.self.now c.requires.can.3 c.requires.valid c.args.number c.args.place c.args.words.0 c.args.words.1
    c.requires.asks (ap (λ z. z == 0) c.if-words-eq0.true) in
    let both : Some p.0 ≡ Some c.in-Some.own = sym p.1 ∙ c.in-Some.is in
    let one : p.0 ≡ c.in-Some.own = cc both in
    let h = subst (Puts g.K.PartialEq.eq (hash_of g.K.Hash.hash_input g.S.BuildHasher.build_hasher g.S.Hasher.Hasher.write g.S.Hasher.Hasher.finish)
    (begun_of c.args.window.now.book.now.parts) c.args.window.now.book.now.begun.book c.requires.can.0 c.requires.can.1 c.requires.can.2
    c.args.window.now.sight.log c.args.self.now c.requires.can.3 c.requires.valid c.args.number c.args.place c.args.words.0 c.args.words.1
    c.requires.asks) one p.2 in
    h.number

pub put-requires-2-clause-kind : goal.put-requires-2-clause-kind
put-requires-2-clause-kind g c = put_kind g.K.PartialEq.eq
    (hash_of g.K.Hash.hash_input g.S.BuildHasher.build_hasher g.S.Hasher.Hasher.write g.S.Hasher.Hasher.finish)
    (begun_of c.args.window.now.book.now.parts) c.args.window.now.book.now.begun.book c.requires.can.0 c.requires.can.1 c.requires.can.2
    c.args.window.now.sight.log c.args.self.now c.requires.can.3 c.requires.valid c.args.number c.args.place c.args.words.0 c.args.words.1 c.requires.asks

pub put-requires-2-clause-can : goal.put-requires-2-clause-can
put-requires-2-clause-can g c =
    let p = puts_of g.K.PartialEq.eq (hash_of g.K.Hash.hash_input g.S.BuildHasher.build_hasher g.S.Hasher.Hasher.write g.S.Hasher.Hasher.finish)
    (begun_of c.args.window.now.book.now.parts) c.args.window.now.book.now.begun.book c.requires.can.0 c.requires.can.1 c.requires.can.2
    c.args.window.now.sight.log c.args.self.now c.requires.can.3 c.requires.valid c.args.number c.args.place c.args.words.0 c.args.words.1
    c.requires.asks (not_zero c.args.words.0 c.if-words-eq0.false) in
    let both : Some p.0 ≡ Some c.in-Some-of.of = sym p.1 ∙ c.in-Some-of.is in
    let one : p.0 ≡ c.in-Some-of.of = cc both in
    let h = subst (Puts g.K.PartialEq.eq (hash_of g.K.Hash.hash_input g.S.BuildHasher.build_hasher g.S.Hasher.Hasher.write g.S.Hasher.Hasher.finish)
    (begun_of c.args.window.now.book.now.parts) c.args.window.now.book.now.begun.book c.requires.can.0 c.requires.can.1 c.requires.can.2
    c.args.window.now.sight.log c.args.self.now c.requires.can.3 c.requires.valid c.args.number c.args.place c.args.words.0 c.args.words.1
    c.requires.asks) one p.2 in
    put_can g.K.PartialEq.eq (hash_of g.K.Hash.hash_input g.S.BuildHasher.build_hasher g.S.Hasher.Hasher.write g.S.Hasher.Hasher.finish)
    (begun_of c.args.window.now.book.now.parts) c.args.window.now.book.now.begun.book c.requires.can.0 c.requires.can.1 c.requires.can.2
    c.args.window.now.sight.log c.args.self.now c.requires.can.3 c.requires.valid c.args.number c.args.place c.args.words.0 c.args.words.1
    c.requires.asks c.in-Some-of.of h

pub put-requires-2-clause-number : goal.put-requires-2-clause-number
put-requires-2-clause-number g c =
    let p = puts_of g.K.PartialEq.eq (hash_of g.K.Hash.hash_input g.S.BuildHasher.build_hasher g.S.Hasher.Hasher.write g.S.Hasher.Hasher.finish)
    (begun_of c.args.window.now.book.now.parts) c.args.window.now.book.now.begun.book c.requires.can.0 c.requires.can.1 c.requires.can.2
    c.args.window.now.sight.log c.args.self.now c.requires.can.3 c.requires.valid c.args.number c.args.place c.args.words.0 c.args.words.1
    c.requires.asks (not_zero c.args.words.0 c.if-words-eq0.false) in
    let both : Some p.0 ≡ Some c.in-Some-of.of = sym p.1 ∙ c.in-Some-of.is in
    let one : p.0 ≡ c.in-Some-of.of = cc both in
    let h = subst (Puts g.K.PartialEq.eq (hash_of g.K.Hash.hash_input g.S.BuildHasher.build_hasher g.S.Hasher.Hasher.write g.S.Hasher.Hasher.finish)
    (begun_of c.args.window.now.book.now.parts) c.args.window.now.book.now.begun.book c.requires.can.0 c.requires.can.1 c.requires.can.2
    c.args.window.now.sight.log c.args.self.now c.requires.can.3 c.requires.valid c.args.number c.args.place c.args.words.0 c.args.words.1
    c.requires.asks) one p.2 in
    h.number

pub returns-then-words-eq0-clause-inserts : goal.returns-then-words-eq0-clause-inserts
returns-then-words-eq0-clause-inserts g c = λ key value begun r.
    let p = puts_own g.K.PartialEq.eq (hash_of g.K.Hash.hash_input g.S.BuildHasher.build_hasher g.S.Hasher.Hasher.write g.S.Hasher.Hasher.finish)
    (begun_of c.args.window.now.book.now.parts) c.args.window.now.book.now.begun.book key value begun c.args.window.now.sight.log c.args.self.now r
    c.requires.valid c.args.number c.args.place c.args.words.0 c.args.words.1 c.requires.asks (ap (λ z. z == 0) c.if-words-eq0.true) in
    let both : Some p.0 ≡ Some c.in-Some.own = sym p.1 ∙ c.in-Some.is in
    let one : p.0 ≡ c.in-Some.own = cc both in
    let h = subst (Puts g.K.PartialEq.eq (hash_of g.K.Hash.hash_input g.S.BuildHasher.build_hasher g.S.Hasher.Hasher.write g.S.Hasher.Hasher.finish)
    (begun_of c.args.window.now.book.now.parts) c.args.window.now.book.now.begun.book key value begun c.args.window.now.sight.log c.args.self.now r
    c.requires.valid c.args.number c.args.place c.args.words.0 c.args.words.1 c.requires.asks) one p.2 in
    let own = call_asks c.args.self.now.writer.call.machine _ c.requires.asks in
    let on = c.put.ensures.tries in
    pair_tried g.K.PartialEq.eq g.K.Hash.hash_input g.S.BuildHasher.build_hasher g.S.Hasher.Hasher.write g.S.Hasher.Hasher.finish g.met.K.Eq.laws
    g.met.K.Hash.respects_eq (begun_of c.args.window.now.book.now.parts) c.args.window.now.book.now.begun.book key value begun
    c.args.window.now.sight.log c.args.self.now r c.put.new.window.sight.log on.sees.log c.put.new.self c.put.result c.in-Some.own h.value_is
    on.machine on.value on.put c.requires.valid own.0 (λ reply h'. let f = sym c.requires.asks ∙ h' in cc f)
    (λ n e makes. subst (λ (a : Ask). MakesPair a) own.1 makes) (λ number. absurd (subst (λ (a : Ask). IsNumberAsk a) own.1 number)) on.unsaid
    (c.put.ensures.writes key r.made begun r.writing h.one h.stands)

pub returns-clause-inserts : goal.returns-clause-inserts
returns-clause-inserts g c = λ key value begun r.
    let p = puts_of g.K.PartialEq.eq (hash_of g.K.Hash.hash_input g.S.BuildHasher.build_hasher g.S.Hasher.Hasher.write g.S.Hasher.Hasher.finish)
    (begun_of c.args.window.now.book.now.parts) c.args.window.now.book.now.begun.book key value begun c.args.window.now.sight.log c.args.self.now r
    c.requires.valid c.args.number c.args.place c.args.words.0 c.args.words.1 c.requires.asks (not_zero c.args.words.0 c.if-words-eq0.false) in
    let both : Some p.0 ≡ Some c.in-Some-of.of = sym p.1 ∙ c.in-Some-of.is in
    let one : p.0 ≡ c.in-Some-of.of = cc both in
    let h = subst (Puts g.K.PartialEq.eq (hash_of g.K.Hash.hash_input g.S.BuildHasher.build_hasher g.S.Hasher.Hasher.write g.S.Hasher.Hasher.finish)
    (begun_of c.args.window.now.book.now.parts) c.args.window.now.book.now.begun.book key value begun c.args.window.now.sight.log c.args.self.now r
    c.requires.valid c.args.number c.args.place c.args.words.0 c.args.words.1 c.requires.asks) one p.2 in
    let own = call_asks c.args.self.now.writer.call.machine _ c.requires.asks in
    let on = c.put-2.ensures.tries in
    pair_tried g.K.PartialEq.eq g.K.Hash.hash_input g.S.BuildHasher.build_hasher g.S.Hasher.Hasher.write g.S.Hasher.Hasher.finish g.met.K.Eq.laws
    g.met.K.Hash.respects_eq (begun_of c.args.window.now.book.now.parts) c.args.window.now.book.now.begun.book key value begun
    c.args.window.now.sight.log c.args.self.now r c.put-2.new.window.sight.log on.sees.log c.put-2.new.self c.put-2.result c.in-Some-of.of
    h.value_is on.machine on.value on.put c.requires.valid own.0 (λ reply h'. let f = sym c.requires.asks ∙ h' in cc f)
    (λ n e makes. subst (λ (a : Ask). MakesPair a) own.1 makes) (λ number. absurd (subst (λ (a : Ask). IsNumberAsk a) own.1 number)) on.unsaid
    (c.put-2.ensures.writes key r.made begun r.writing h.one h.stands)
