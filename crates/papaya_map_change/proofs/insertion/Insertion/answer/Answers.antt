use Rattle.std.proofs.Common.{◌≡◌, ◌⊎◌, inl, inr, ⊎_elim, ℕ, true, Option, [], append-nil, refl, sym, ap, ◌∙◌, rules, subst}
use Rattle.papaya_call.specs.declared.ask.Answer.TheVariants.{Ok}
use Rattle.papaya_call.specs.declared.ask.Ask.{Ask}
use Rattle.papaya_call.specs.declared.ask.Ask.TheVariants.{AddToShard, Exchange, Load, LoadHint}
use Rattle.papaya_call.specs.declared.ask.Ask.TheVariants.{MakeKey, MakeTable, MakeValue, SameKey}
use Rattle.papaya_call.specs.declared.ask.Ask.TheVariants.{ShowNone, ShowPair, SizeOf, WriteHint}
use Rattle.papaya_call.specs.declared.ask.At.{At}
use Rattle.papaya_call.specs.declared.ask.At.TheVariants.{Aborted, Done as Done_word, Made as Made_word, Next, Root, Slot}
use Rattle.papaya_call.specs.declared.ask.StepKind.{StepKind}
use Rattle.papaya_call.specs.declared.call.Task.{Task}
use Rattle.papaya_call.specs.declared.call.Task.TheVariants.{Insert}
use Rattle.papaya_call.specs.Machine as calls
use Rattle.papaya_call.specs.ChainMachine.{ask_of}
use Rattle.papaya_call.specs.declared.chain.ask.Ask.TheVariants.{Call}
use Rattle.papaya_call_law.specs.Followed.{MayAsk}
use Rattle.papaya_call_law.proofs.Followed.{asked_of_task}
use Rattle.papaya_call_law.specs.Says.{MakesPair}
use Rattle.papaya_call_law.specs.Relies.{IsNumberAsk}
use Rattle.papaya_call_law.proofs.Names.{call_asks}
use Rattle.papaya_map_book.specs.Parts.{begun_of}
use Rattle.papaya_map_change.proofs.Inserting.{goes_on}
use Rattle.papaya_map_change.proofs.WritingSteps.{counted_on}
use Rattle.papaya_map_change.proofs.insertion.Insertion.answer.Goals as goal

-- An insertion tries to exchange these words only.
exchanged : (kind : Option StepKind) (at : At) (old new : ℕ) → MayAsk (Insert true) kind (Exchange at old new) → (at ≡ Root)
    ⊎ ((at ≡ Made_word) ⊎ ((t : ℕ) × (i : ℕ) × (at ≡ Slot t i)))
exchanged kind Root old new may = inl refl
exchanged kind Made_word old new may = inr (inl refl)
exchanged kind (Slot t i) old new may = inr (inr (t, i, refl))
exchanged kind (Next t) old new may = absurd may
exchanged kind (Aborted t) old new may = absurd may
exchanged kind (Done_word t chunk) old new may = absurd may

pub unreachable-requires-in-ShowNone : goal.unreachable-requires-in-ShowNone
unreachable-requires-in-ShowNone g c =
    let m = c.args.self.now.writer.call.machine in let task = c.requires.can.3.task_is in
    let may : (a : Ask) → c.in-Call.ask ≡ a → MayAsk (Insert true) (calls.kind_of_ask m.call) a = λ a e.
    let own = call_asks m a (sym c.ask.ensures.value ∙ c.in-Call.is ∙ ap (λ z. Call z) e) in
    subst (λ (z : Ask). MayAsk (Insert true) (calls.kind_of_ask m.call) z) own.1
    (subst (λ (z : Task). MayAsk z (calls.kind_of_ask m.call) (calls.ask_of m.call)) task (asked_of_task m.call c.requires.valid.call)) in
    ⊎_elim
    (λ e. may ShowNone e)
    (λ o.
    ⊎_elim
    (λ e. may (ShowPair e.0) e.1)
    (λ e.
    ⊎_elim
    (λ at. let is : c.in-Call.ask ≡ Exchange Root e.1 e.2 = e.3 ∙ ap (λ z. Exchange z e.1 e.2) at in search rules)
    (λ o'.
    ⊎_elim
    (λ at. let is : c.in-Call.ask ≡ Exchange Made_word e.1 e.2 = e.3 ∙ ap (λ z. Exchange z e.1 e.2) at in search rules)
    (λ at. let is : c.in-Call.ask ≡ Exchange (Slot at.0 at.1) e.1 e.2 = e.3 ∙ ap (λ z. Exchange z e.1 e.2) at.2 in search rules)
    o')
    (exchanged (calls.kind_of_ask m.call) e.0 e.1 e.2 (may (Exchange e.0 e.1 e.2) e.3)))
    o)
    c.in-ShowNone.is

pub returns-in-Load-clause-inserts : goal.returns-in-Load-clause-inserts
returns-in-Load-clause-inserts g c = λ key value begun r.
    let asks : ask_of c.args.self.now.writer.call.machine ≡ Call (Load c.in-Load.at) = search rules in let on = c.load.ensures.steps in
    goes_on g.K.PartialEq.eq g.K.Hash.hash_input g.S.BuildHasher.build_hasher g.S.Hasher.Hasher.write g.S.Hasher.Hasher.finish g.met.K.Eq.laws
    g.met.K.Hash.respects_eq (begun_of c.args.window.now.book.now.parts) c.args.window.now.book.now.begun.book key value begun
    c.args.window.now.sight.log c.args.self.now r c.load.new.window.sight.log c.load.ensures.steps.sees.log c.load.new.self c.load.result on.machine
    on.value on.put c.requires.valid c.requires.calling (λ reply h. let f = sym asks ∙ h in cc f)
    (λ n e makes. subst (λ (a : Ask). MakesPair a) (call_asks c.args.self.now.writer.call.machine _ asks).1 makes) c.load.ensures.tells on.unsaid
    (on.writes key r.made begun r.writing)

pub returns-in-LoadHint-clause-inserts : goal.returns-in-LoadHint-clause-inserts
returns-in-LoadHint-clause-inserts g c = λ key value begun r.
    let asks : ask_of c.args.self.now.writer.call.machine ≡ Call (LoadHint c.in-LoadHint.number c.in-LoadHint.place) = search rules in
    goes_on g.K.PartialEq.eq g.K.Hash.hash_input g.S.BuildHasher.build_hasher g.S.Hasher.Hasher.write g.S.Hasher.Hasher.finish g.met.K.Eq.laws
    g.met.K.Hash.respects_eq (begun_of c.args.window.now.book.now.parts) c.args.window.now.book.now.begun.book key value begun
    c.args.window.now.sight.log c.args.self.now r c.hint.new.window.sight.log c.hint.ensures.steps.sees.log c.args.self.now.writer c.hint.result refl refl
    refl c.requires.valid c.requires.calling (λ reply h. let f = sym asks ∙ h in cc f)
    (λ n e makes. subst (λ (a : Ask). MakesPair a) (call_asks c.args.self.now.writer.call.machine _ asks).1 makes)
    (λ number. absurd (subst (λ (a : Ask). IsNumberAsk a) (call_asks c.args.self.now.writer.call.machine _ asks).1 number)) c.hint.ensures.steps.unsaid
    (c.hint.ensures.steps.writes key r.made begun r.writing)

pub returns-in-WriteHint-clause-inserts : goal.returns-in-WriteHint-clause-inserts
returns-in-WriteHint-clause-inserts g c = λ key value begun r.
    let asks : ask_of c.args.self.now.writer.call.machine ≡ Call
    (WriteHint c.in-WriteHint.number c.in-WriteHint.place c.in-WriteHint.hint) = search rules in
    goes_on g.K.PartialEq.eq g.K.Hash.hash_input g.S.BuildHasher.build_hasher g.S.Hasher.Hasher.write g.S.Hasher.Hasher.finish g.met.K.Eq.laws
    g.met.K.Hash.respects_eq (begun_of c.args.window.now.book.now.parts) c.args.window.now.book.now.begun.book key value begun
    c.args.window.now.sight.log c.args.self.now r c.args.window.now.sight.log ([], append-nil _) c.args.self.now.writer c.write_hint.result refl refl refl
    c.requires.valid c.requires.calling (λ reply h. let f = sym asks ∙ h in cc f)
    (λ n e makes. subst (λ (a : Ask). MakesPair a) (call_asks c.args.self.now.writer.call.machine _ asks).1 makes)
    (λ number. absurd (subst (λ (a : Ask). IsNumberAsk a) (call_asks c.args.self.now.writer.call.machine _ asks).1 number)) c.write_hint.ensures.steps.unsaid
    (c.write_hint.ensures.steps.writes key r.made begun r.writing)

pub returns-in-SizeOf-clause-inserts : goal.returns-in-SizeOf-clause-inserts
returns-in-SizeOf-clause-inserts g c = λ key value begun r. let some : (n : ℕ)
    × (ask_of c.args.self.now.writer.call.machine ≡ Call (SizeOf n)) = search rules in let asks = some.1 in
    goes_on g.K.PartialEq.eq g.K.Hash.hash_input g.S.BuildHasher.build_hasher g.S.Hasher.Hasher.write g.S.Hasher.Hasher.finish g.met.K.Eq.laws
    g.met.K.Hash.respects_eq (begun_of c.args.window.now.book.now.parts) c.args.window.now.book.now.begun.book key value begun
    c.args.window.now.sight.log c.args.self.now r c.args.window.now.sight.log ([], append-nil _) c.args.self.now.writer c.size.result refl refl refl
    c.requires.valid c.requires.calling (λ reply h. let f = sym asks ∙ h in cc f)
    (λ n e makes. subst (λ (a : Ask). MakesPair a) (call_asks c.args.self.now.writer.call.machine _ asks).1 makes)
    (λ number. absurd (subst (λ (a : Ask). IsNumberAsk a) (call_asks c.args.self.now.writer.call.machine _ asks).1 number)) c.size.ensures.steps.unsaid
    (c.size.ensures.steps.writes key r.made begun r.writing)

pub returns-in-SameKey-clause-inserts : goal.returns-in-SameKey-clause-inserts
returns-in-SameKey-clause-inserts g c = λ key value begun r. let some : (n : ℕ)
    × (ask_of c.args.self.now.writer.call.machine ≡ Call (SameKey n)) = search rules in let asks = some.1 in
    goes_on g.K.PartialEq.eq g.K.Hash.hash_input g.S.BuildHasher.build_hasher g.S.Hasher.Hasher.write g.S.Hasher.Hasher.finish g.met.K.Eq.laws
    g.met.K.Hash.respects_eq (begun_of c.args.window.now.book.now.parts) c.args.window.now.book.now.begun.book key value begun
    c.args.window.now.sight.log c.args.self.now r c.args.window.now.sight.log ([], append-nil _) c.args.self.now.writer c.same.result refl refl refl
    c.requires.valid c.requires.calling (λ reply h. let f = sym asks ∙ h in cc f)
    (λ n e makes. subst (λ (a : Ask). MakesPair a) (call_asks c.args.self.now.writer.call.machine _ asks).1 makes)
    (λ number. absurd (subst (λ (a : Ask). IsNumberAsk a) (call_asks c.args.self.now.writer.call.machine _ asks).1 number)) c.same.ensures.steps.unsaid
    (c.same.ensures.steps.writes key r.made begun r.writing)

pub returns-in-MakeKey-clause-inserts : goal.returns-in-MakeKey-clause-inserts
returns-in-MakeKey-clause-inserts g c = λ key value begun r.
    ⊎_elim
    (λ e. let asks : ask_of c.args.self.now.writer.call.machine ≡ Call MakeKey = sym c.ask.ensures.value ∙ c.in-Call.is ∙ ap (λ z. Call z) e in
    goes_on g.K.PartialEq.eq g.K.Hash.hash_input g.S.BuildHasher.build_hasher g.S.Hasher.Hasher.write g.S.Hasher.Hasher.finish g.met.K.Eq.laws
    g.met.K.Hash.respects_eq (begun_of c.args.window.now.book.now.parts) c.args.window.now.book.now.begun.book key value begun
    c.args.window.now.sight.log c.args.self.now r c.args.window.now.sight.log ([], append-nil _) c.args.self.now.writer c.make_part.result refl refl
    refl c.requires.valid c.requires.calling (λ reply h. let f = sym asks ∙ h in cc f)
    (λ n e makes. subst (λ (a : Ask). MakesPair a) (call_asks c.args.self.now.writer.call.machine _ asks).1 makes)
    (λ number. absurd (subst (λ (a : Ask). IsNumberAsk a) (call_asks c.args.self.now.writer.call.machine _ asks).1 number))
    c.make_part.ensures.unsaid (c.make_part.ensures.makes c.args.window.now key r.made begun r.writing))
    (λ e. let asks : ask_of c.args.self.now.writer.call.machine ≡ Call MakeValue = sym c.ask.ensures.value ∙ c.in-Call.is ∙ ap (λ z. Call z) e in
    goes_on g.K.PartialEq.eq g.K.Hash.hash_input g.S.BuildHasher.build_hasher g.S.Hasher.Hasher.write g.S.Hasher.Hasher.finish g.met.K.Eq.laws
    g.met.K.Hash.respects_eq (begun_of c.args.window.now.book.now.parts) c.args.window.now.book.now.begun.book key value begun
    c.args.window.now.sight.log c.args.self.now r c.args.window.now.sight.log ([], append-nil _) c.args.self.now.writer c.make_part.result refl refl
    refl c.requires.valid c.requires.calling (λ reply h. let f = sym asks ∙ h in cc f)
    (λ n e makes. subst (λ (a : Ask). MakesPair a) (call_asks c.args.self.now.writer.call.machine _ asks).1 makes)
    (λ number. absurd (subst (λ (a : Ask). IsNumberAsk a) (call_asks c.args.self.now.writer.call.machine _ asks).1 number))
    c.make_part.ensures.unsaid (c.make_part.ensures.makes c.args.window.now key r.made begun r.writing))
    c.in-MakeKey.is

pub returns-in-MakeTable-clause-inserts : goal.returns-in-MakeTable-clause-inserts
returns-in-MakeTable-clause-inserts g c = λ key value begun r.
    let asks : ask_of c.args.self.now.writer.call.machine ≡ Call
    (MakeTable c.in-MakeTable.len c.in-MakeTable.limit c.in-MakeTable.chunks) = search rules in let on = c.make_table.ensures.steps in
    goes_on g.K.PartialEq.eq g.K.Hash.hash_input g.S.BuildHasher.build_hasher g.S.Hasher.Hasher.write g.S.Hasher.Hasher.finish g.met.K.Eq.laws
    g.met.K.Hash.respects_eq (begun_of c.args.window.now.book.now.parts) c.args.window.now.book.now.begun.book key value begun
    c.args.window.now.sight.log c.args.self.now r c.make_table.new.window.sight.log c.make_table.ensures.steps.sees.log c.make_table.new.self
    c.make_table.result on.machine on.value on.put c.requires.valid c.requires.calling (λ reply h. let f = sym asks ∙ h in cc f)
    (λ n e makes. subst (λ (a : Ask). MakesPair a) (call_asks c.args.self.now.writer.call.machine _ asks).1 makes)
    (λ number. absurd (subst (λ (a : Ask). IsNumberAsk a) (call_asks c.args.self.now.writer.call.machine _ asks).1 number)) on.unsaid
    (on.writes key r.made begun r.writing)

pub returns-in-Exchange-Root-default-default-clause-inserts : goal.returns-in-Exchange-Root-default-default-clause-inserts
returns-in-Exchange-Root-default-default-clause-inserts g c = λ key value begun r.
    let asks : ask_of c.args.self.now.writer.call.machine ≡ Call
    (Exchange Root c.in-Exchange-Root-default-default.field-1 c.in-Exchange-Root-default-default.field-2) = search rules in let on = c.open.ensures.steps in
    goes_on g.K.PartialEq.eq g.K.Hash.hash_input g.S.BuildHasher.build_hasher g.S.Hasher.Hasher.write g.S.Hasher.Hasher.finish g.met.K.Eq.laws
    g.met.K.Hash.respects_eq (begun_of c.args.window.now.book.now.parts) c.args.window.now.book.now.begun.book key value begun
    c.args.window.now.sight.log c.args.self.now r c.open.new.window.sight.log c.open.ensures.steps.sees.log c.open.new.self c.open.result on.machine
    on.value on.put c.requires.valid c.requires.calling (λ reply h. let f = sym asks ∙ h in cc f)
    (λ n e makes. subst (λ (a : Ask). MakesPair a) (call_asks c.args.self.now.writer.call.machine _ asks).1 makes)
    (λ number. absurd (subst (λ (a : Ask). IsNumberAsk a) (call_asks c.args.self.now.writer.call.machine _ asks).1 number)) on.unsaid
    (on.writes key r.made begun r.writing)

pub returns-in-AddToShard-clause-inserts : goal.returns-in-AddToShard-clause-inserts
returns-in-AddToShard-clause-inserts g c = λ key value begun r.
    let asks : ask_of c.args.self.now.writer.call.machine ≡ Call (AddToShard c.in-AddToShard.by) = search rules in
    goes_on g.K.PartialEq.eq g.K.Hash.hash_input g.S.BuildHasher.build_hasher g.S.Hasher.Hasher.write g.S.Hasher.Hasher.finish g.met.K.Eq.laws
    g.met.K.Hash.respects_eq (begun_of c.args.window.now.book.now.parts) c.args.window.now.book.now.begun.book key value begun
    c.args.window.now.sight.log c.args.self.now r c.args.window.now.sight.log ([], append-nil _) c.args.self.now.writer Ok refl refl refl
    c.requires.valid c.requires.calling (λ reply h. let f = sym asks ∙ h in cc f)
    (λ n e makes. subst (λ (a : Ask). MakesPair a) (call_asks c.args.self.now.writer.call.machine _ asks).1 makes)
    (λ number. absurd (subst (λ (a : Ask). IsNumberAsk a) (call_asks c.args.self.now.writer.call.machine _ asks).1 number)) (λ cause e. absurd (cc e))
    (counted_on g.K.PartialEq.eq g.K.Hash.hash_input g.S.BuildHasher.build_hasher g.S.Hasher.Hasher.write g.S.Hasher.Hasher.finish g.met.K.Eq.laws
    g.met.K.Hash.respects_eq (begun_of c.args.window.now.book.now.parts) c.args.window.now.book.now.begun.book key r.made begun
    c.args.window.now.sight.log c.args.self.now.writer r.writing c.in-AddToShard.by asks)

pub returns-in-Exchange-Made-default-default-clause-inserts : goal.returns-in-Exchange-Made-default-default-clause-inserts
returns-in-Exchange-Made-default-default-clause-inserts g c = λ key value begun r.
    let asks : ask_of c.args.self.now.writer.call.machine ≡ Call
    (Exchange Made_word c.in-Exchange-Made-default-default.old c.in-Exchange-Made-default-default.new) = search rules in let on = c.take.ensures.steps in
    goes_on g.K.PartialEq.eq g.K.Hash.hash_input g.S.BuildHasher.build_hasher g.S.Hasher.Hasher.write g.S.Hasher.Hasher.finish g.met.K.Eq.laws
    g.met.K.Hash.respects_eq (begun_of c.args.window.now.book.now.parts) c.args.window.now.book.now.begun.book key value begun
    c.args.window.now.sight.log c.args.self.now r c.take.new.window.sight.log on.sees.log c.args.self.now.writer c.take.result refl refl refl
    c.requires.valid c.requires.calling (λ reply h. let f = sym asks ∙ h in cc f)
    (λ n e makes. subst (λ (a : Ask). MakesPair a) (call_asks c.args.self.now.writer.call.machine _ asks).1 makes) c.take.ensures.tells on.unsaid
    (on.writes key r.made begun r.writing)
