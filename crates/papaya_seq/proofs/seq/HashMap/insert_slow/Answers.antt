use Rattle.std.proofs.Common.{rules, ◌≡◌, ℕ, ◌^◌, ◌<◌, ◌≤◌, arith, false, Some, None, refl, sym, ◌∙◌, ap, subst}
use Rattle.papaya_call.specs.declared.ask.Ask.TheVariants.{Done as Ask_done}
use Rattle.papaya_call.specs.declared.call.Reply.{Reply}
use Rattle.papaya_call.specs.Answers.{Says, first_or, rest_of}
use Rattle.papaya_call.specs.declared.answers.Operation.TheVariants.{Abort}
use Rattle.papaya_call.specs.declared.answers.Listed.{Listed}
use Rattle.papaya_call.specs.declared.chain.ask.Ask.TheVariants as asks
use Rattle.papaya_call.specs.declared.chain.machine.Machine.{Machine}
use Rattle.papaya_call.specs.ChainMachine.{IsValid, after, ask_of}
use Rattle.papaya_core_store.specs.declared.pairs.Part.TheVariants.{Own}
use Rattle.papaya_words_keys.specs.Hashes.{hash_of}
use Rattle.papaya_core_timeline.specs.Content.{map_in}
use Rattle.papaya_core_timeline.proofs.KeptCore.{keys_lawful}
use Rattle.papaya_core_timeline.proofs.KeptSettings.{IsLawfulKeys}
use Rattle.papaya_seq.specs.MadeAlone.{IsMadeAlone}
use Rattle.papaya_seq.specs.Drives.{IsLedTo, value_left}
use Rattle.papaya_seq.specs.Map.{IsLawfulMap, IsTryCause, IsWriteCauseAt, MapState, insertion}
use Rattle.papaya_seq.proofs.Alone.{map_answered, map_hasher, map_lawful, map_logged}
use Rattle.papaya_seq.proofs.Ending.{left_of}
use Rattle.papaya_seq.proofs.InsertingCopies.{inserting_copies, inserting_sized}
use Rattle.papaya_seq.proofs.InsertingDone.{inserting_led}
use Rattle.papaya_seq.proofs.InsertingRun.{inserting_absent, inserting_alone, inserting_cause}
use Rattle.papaya_seq.proofs.InsertingRun.{inserting_fit, inserting_left, inserting_more}
use Rattle.papaya_seq.proofs.InsertingRun.{inserting_nears, inserting_tables, IsInserting, left_in}
use Rattle.papaya_seq.proofs.Turns.{IsOver}
use Rattle.papaya_seq.proofs.seq.HashMap.insert_slow.Goals as goal
use Rattle.papaya_seq.proofs.seq.HashMap.insert_slow.Goals.{After-new-machine, After-perform_ask-answer, After-answer, After-copy_for_call, After-value_left}
use Rattle.papaya_seq.proofs.seq.HashMap.insert_slow.Given.{Over}

-- the hash of a key
abbrev hash : (g : Over) → g.row.S.Denot → g.row.K.Denot → ℕ
hash g = hash_of g.K.Hash.hash_input g.S.BuildHasher.build_hasher g.S.Hasher.Hasher.write g.S.Hasher.Hasher.finish

-- the results of a closure's answers, of which an insertion has none
abbrev said : (g : Over) → Says g.row.K.Denot g.row.V.Denot (Listed g.row.V.Denot)
said g = record {
  op = λ a shown told a'. (told ≡ first_or (Abort 0) a.ops.items) × (a'.ops.items ≡ rest_of a.ops.items) × (a'.yes ≡ a.yes);
  yes = λ a key value told a'. (told ≡ first_or false a.yes.items) × (a'.yes.items ≡ rest_of a.yes.items) × (a'.ops ≡ a.ops);
}

-- equal keys hash alike
keys : (g : Over) (hasher : g.row.S.Denot) → IsLawfulKeys g.K.PartialEq.eq (hash g hasher)
keys g hasher = keys_lawful g.K.PartialEq.eq g.K.Hash.hash_input g.S.BuildHasher.build_hasher g.S.Hasher.Hasher.write g.S.Hasher.Hasher.finish
    g.met.K.Eq.laws g.met.K.Hash.respects_eq hasher

-- the map is in order when the call begins
lawful : (g : Over) (c : After-new-machine g)
    → IsLawfulMap g.K.PartialEq.eq (hash g c.args.self.now.store.hasher) c.args.self.now.store c.args.self.now.mode c.args.self.now.initial
lawful g c = subst (λ (m : MapState _ _ _). IsLawfulMap g.K.PartialEq.eq (hash g m.store.hasher) m.store m.mode m.initial) c.self.view_is c.self.invariant

-- the key's hash has 64 bits
fits : (g : Over) (c : After-new-machine g) → hash g c.args.self.now.store.hasher c.args.key < 2 ^ 64
fits g c = subst (λ (n : ℕ). n < 2 ^ 64) (c.hash-hash.ensures.value ∙ ap (λ (m : MapState _ _ _). hash g m.store.hasher c.args.key) c.self.view_is)
    c.hash-hash.ensures.fits

-- the ask was no reply
asks_on : (g : Over) (c : After-perform_ask-answer g) (reply : Reply) → c.ask-ask.result ≡ asks.Call (Ask_done reply) → ⊥
asks_on g c reply e = search rules

-- or the machine has replied
replied : (g : Over) (c : After-value_left g) → asks.Call (Ask_done c.in-Call-Done.reply) ≡ ask_of c.loop-reply.running.machine
replied g c =
    let done : c.in-Call-Done.field-0 ≡ Ask_done c.in-Call-Done.reply = rw c.in-Call-Done.is at c.in-Call-Done.field-0-is in
    sym (c.in-Call-Done.is ∙ ap asks.Call done) ∙ c.ask-ask.ensures.value

pub loop-reply-init : goal.loop-reply-init
loop-reply-init g c =
    let view : MapState _ _ _ = record { store = c.self.inside.store; mode = c.self.inside.mode; initial = c.self.inside.initial } in
    let led : IsLedTo (g.K.PartialEq.eq c.args.key) view.store (hash g view.store.hasher c.args.key) c.args.replace
    c.led-machine.result = subst (λ (m : MapState _ _ _).
    IsLedTo (g.K.PartialEq.eq c.args.key) m.store (hash g m.store.hasher c.args.key) c.args.replace c.led-machine.result) (sym c.self.view_is)
    (subst (IsLedTo (g.K.PartialEq.eq c.args.key) c.args.self.now.store (hash g c.args.self.now.store.hasher c.args.key) c.args.replace)
    (sym c.led-machine.ensures) c.requires) in
    let fit : hash g view.store.hasher c.args.key < 2 ^ 64 = subst (λ (n : ℕ). n < 2 ^ 64) c.hash-hash.ensures.value c.hash-hash.ensures.fits in
    let begun = c.new-machine.result in
    subst (λ (m : MapState _ _ _). IsInserting g.K.PartialEq.eq (hash g) m c.args.replace c.args.key c.args.value c.self.inside.store
    (record {
      machine = record begun { call = record begun.call { state = c.led-machine.result } };
      key = Own c.args.key;
      value = Some (Own c.args.value);
      answers = None;
    }) × (c.self.inside.mode ≡ m.mode) × (c.self.inside.initial ≡ m.initial)) c.self.view_is (
      inserting_led g.K.PartialEq.eq (hash g) view c.args.replace c.args.key c.args.value (keys g view.store.hasher) c.self.invariant fit begun
          c.hash-hash.result c.copies_from-number.result c.led-machine.result c.new-machine.ensures.value c.hash-hash.ensures.value
          c.new-machine.ensures.valid led,
      refl,
      refl,
    )

-- the machine after the answer
answered : (g : Over) (c : After-answer g) → after c.loop-reply.running.machine c.perform_ask-answer.result ≡ c.answer.new.self
answered g c = sym (c.answer.ensures.after ∙ ap (λ (m : Machine). after m c.perform_ask-answer.result) c.perform_ask-answer.ensures.machine)

pub answer-requires-clause-fit : goal.answer-requires-clause-fit
answer-requires-clause-fit g c = inserting_fit g.K.PartialEq.eq (hash g) c.args.self.now c.args.replace c.args.key c.args.value
    (keys g c.args.self.now.store.hasher) (lawful g (goal.at.answer-requires-clause-fit g c).After-new-machine)
    (fits g (goal.at.answer-requires-clause-fit g c).After-new-machine) (said g) c.loop-reply.self-inside.store c.loop-reply.running
    c.perform_ask-answer.result c.perform_ask-answer.new.self c.perform_ask-answer.new.running c.ask-ask.result c.ask-ask.ensures.value
    (asks_on g (goal.at.answer-requires-clause-fit g c).After-perform_ask-answer) c.perform_ask-answer.ensures.performs
    c.perform_ask-answer.ensures.machine c.loop-reply.invariant.0 c.ask-ask.ensures.size

-- the insertion after the answer
went : (g : Over) (c : After-answer g) → IsInserting g.K.PartialEq.eq (hash g) c.args.self.now c.args.replace c.args.key c.args.value
    c.perform_ask-answer.new.self (record c.perform_ask-answer.new.running { machine = c.answer.new.self })
went g c =
    let n = (goal.at.After-answer g c).After-new-machine in
    subst (λ (m : Machine). IsInserting g.K.PartialEq.eq (hash g) c.args.self.now c.args.replace c.args.key c.args.value c.perform_ask-answer.new.self
    (record c.perform_ask-answer.new.running { machine = m })) (answered g c)
    (inserting_more g.K.PartialEq.eq (hash g) c.args.self.now c.args.replace c.args.key c.args.value (keys g c.args.self.now.store.hasher)
    (lawful g n) (fits g n) (said g) c.loop-reply.self-inside.store c.loop-reply.running c.perform_ask-answer.result c.perform_ask-answer.new.self
    c.perform_ask-answer.new.running c.ask-ask.result c.ask-ask.ensures.value (asks_on g (goal.at.After-answer g c).After-perform_ask-answer)
    c.perform_ask-answer.ensures.performs c.perform_ask-answer.ensures.machine c.loop-reply.invariant.0
    (subst IsValid (sym (answered g c)) c.answer.ensures.valid))

pub copy_for_call-requires-clause-sized : goal.copy_for_call-requires-clause-sized
copy_for_call-requires-clause-sized g c =
    let at = (goal.at.copy_for_call-requires-clause-sized g c).After-answer in
    let n = (goal.at.copy_for_call-requires-clause-sized g c).After-new-machine in
    inserting_sized g.K.PartialEq.eq (hash g) c.args.self.now c.args.replace c.args.key c.args.value (keys g c.args.self.now.store.hasher)
    (lawful g n) (fits g n) c.perform_ask-answer.new.self (record c.perform_ask-answer.new.running { machine = c.answer.new.self }) (went g at)

-- and after the slots that were copied
copied : (g : Over) (c : After-copy_for_call g)
    → IsInserting g.K.PartialEq.eq (hash g) c.args.self.now c.args.replace c.args.key c.args.value c.copy_for_call.new.store
    (record c.perform_ask-answer.new.running { machine = c.copy_for_call.new.machine })
    × (left_of c.copy_for_call.new.store c.copy_for_call.new.machine ≤ left_of c.perform_ask-answer.new.self c.answer.new.self)
copied g c =
    let n = (goal.at.After-copy_for_call g c).After-new-machine in
    let (told, led) = c.copy_for_call.ensures in
    inserting_copies g.K.PartialEq.eq (hash g) c.args.self.now c.args.replace c.args.key c.args.value (keys g c.args.self.now.store.hasher)
    (lawful g n) (fits g n) told c.perform_ask-answer.new.self (record c.perform_ask-answer.new.running { machine = c.answer.new.self })
    c.copy_for_call.new.store c.copy_for_call.new.machine led (went g (goal.at.After-copy_for_call g c).After-answer)

pub loop-reply-smaller : goal.loop-reply-smaller
loop-reply-smaller g c =
    let n = (goal.at.loop-reply-smaller g c).After-new-machine in
    let near = (copied g (goal.at.loop-reply-smaller g c).After-copy_for_call).1 in
    let nearer : left_of c.perform_ask-answer.new.self c.answer.new.self < left_of c.loop-reply.self-inside.store c.loop-reply.running.machine =
    subst (λ (m : Machine). left_of c.perform_ask-answer.new.self m < left_of c.loop-reply.self-inside.store c.loop-reply.running.machine)
    (answered g (goal.at.loop-reply-smaller g c).After-answer)
    (inserting_nears g.K.PartialEq.eq (hash g) c.args.self.now c.args.replace c.args.key c.args.value (keys g c.args.self.now.store.hasher)
    (lawful g n) (fits g n) (said g) c.loop-reply.self-inside.store c.loop-reply.running c.perform_ask-answer.result c.perform_ask-answer.new.self
    c.perform_ask-answer.new.running c.ask-ask.result c.ask-ask.ensures.value (asks_on g (goal.at.loop-reply-smaller g c).After-perform_ask-answer)
    c.perform_ask-answer.ensures.performs c.perform_ask-answer.ensures.machine c.loop-reply.invariant.0) in
    omega (arith, near, nearer)

pub loop-reply-preserved : goal.loop-reply-preserved
loop-reply-preserved g c = ((copied g (goal.at.loop-reply-preserved g c).After-copy_for_call).0, c.loop-reply.invariant.1, c.loop-reply.invariant.2)

-- the call was made alone
alone : (g : Over) (c : After-value_left g)
    → IsLawfulMap g.K.PartialEq.eq (hash g c.args.self.now.store.hasher) c.args.self.now.store c.args.self.now.mode c.args.self.now.initial
    → hash g c.args.self.now.store.hasher c.args.key < 2 ^ 64
    → IsOver g.K.PartialEq.eq (hash g) c.args.self.now (insertion c.args.replace c.args.key c.args.value) c.loop-reply.self-inside.store c.in-Call-Done.reply
alone g c orderly fit = inserting_alone g.K.PartialEq.eq (hash g) c.args.self.now c.args.replace c.args.key c.args.value
    (keys g c.args.self.now.store.hasher) orderly fit c.loop-reply.self-inside.store c.loop-reply.running c.in-Call-Done.reply (replied g c)
    c.loop-reply.invariant.0

pub invariant_of-self : goal.invariant_of-self
invariant_of-self g c =
    subst (λ mode. IsLawfulMap g.K.PartialEq.eq (hash g c.loop-reply.self-inside.store.hasher) c.loop-reply.self-inside.store mode
    c.loop-reply.self-inside.initial) (sym c.loop-reply.invariant.1)
    (subst (λ initial. IsLawfulMap g.K.PartialEq.eq (hash g c.loop-reply.self-inside.store.hasher) c.loop-reply.self-inside.store c.args.self.now.mode
    initial) (sym c.loop-reply.invariant.2)
    (map_lawful g.K.PartialEq.eq g.K.Hash.hash_input g.S.BuildHasher.build_hasher g.S.Hasher.Hasher.write g.S.Hasher.Hasher.finish g.met.K.Eq.laws
    g.met.K.Hash.respects_eq c.args.self.now (insertion c.args.replace c.args.key c.args.value) c.in-Call-Done.reply c.loop-reply.self-inside.store
    (lawful g (goal.at.invariant_of-self g c).After-new-machine)
    (alone g (goal.at.invariant_of-self g c).After-value_left (lawful g (goal.at.invariant_of-self g c).After-new-machine)
    (fits g (goal.at.invariant_of-self g c).After-new-machine))))

pub returns-in-Call-Done-clause-answers : goal.returns-in-Call-Done-clause-answers
returns-in-Call-Done-clause-answers g c = map_answered g.K.PartialEq.eq g.K.Hash.hash_input g.S.BuildHasher.build_hasher g.S.Hasher.Hasher.write
    g.S.Hasher.Hasher.finish g.met.K.Eq.laws g.met.K.Hash.respects_eq c.args.self.now (insertion c.args.replace c.args.key c.args.value)
    c.in-Call-Done.reply c.loop-reply.self-inside.store (lawful g (goal.at.returns-in-Call-Done-clause-answers g c).After-new-machine)
    (alone g (goal.at.returns-in-Call-Done-clause-answers g c).After-value_left
    (lawful g (goal.at.returns-in-Call-Done-clause-answers g c).After-new-machine) (fits g (goal.at.returns-in-Call-Done-clause-answers g c).After-new-machine))

pub returns-in-Call-Done-clause-fresh : goal.returns-in-Call-Done-clause-fresh
returns-in-Call-Done-clause-fresh g c = (map_logged g.K.PartialEq.eq g.K.Hash.hash_input g.S.BuildHasher.build_hasher g.S.Hasher.Hasher.write
    g.S.Hasher.Hasher.finish g.met.K.Eq.laws g.met.K.Hash.respects_eq c.args.self.now (insertion c.args.replace c.args.key c.args.value)
    c.in-Call-Done.reply c.loop-reply.self-inside.store (lawful g (goal.at.returns-in-Call-Done-clause-fresh g c).After-new-machine)
    (alone g (goal.at.returns-in-Call-Done-clause-fresh g c).After-value_left
    (lawful g (goal.at.returns-in-Call-Done-clause-fresh g c).After-new-machine) (fits g (goal.at.returns-in-Call-Done-clause-fresh g c).After-new-machine))).0

-- the map when the call has replied
left_is : (g : Over) (c : After-value_left g)
    → left_in c.args.self.now c.loop-reply.self-inside.store
    ≡ record { store = c.loop-reply.self-inside.store; mode = c.loop-reply.self-inside.mode; initial = c.loop-reply.self-inside.initial }
left_is g c =
    ap (λ mode. record { store = c.loop-reply.self-inside.store; mode = mode; initial = c.args.self.now.initial }) (sym c.loop-reply.invariant.1)
    ∙ ap (λ initial. record { store = c.loop-reply.self-inside.store; mode = c.loop-reply.self-inside.mode; initial = initial }) (sym c.loop-reply.invariant.2)

pub returns-in-Call-Done-clause-cause : goal.returns-in-Call-Done-clause-cause
returns-in-Call-Done-clause-cause g c = λ refused e.
    subst (IsWriteCauseAt c.args.self.now (map_in g.K.PartialEq.eq c.args.self.now.store c.args.key) refused)
    (left_is g (goal.at.returns-in-Call-Done-clause-cause g c).After-value_left)
    (inserting_cause g.K.PartialEq.eq (hash g) c.args.self.now c.args.replace c.args.key c.args.value (keys g c.args.self.now.store.hasher)
    (lawful g (goal.at.returns-in-Call-Done-clause-cause g c).After-new-machine)
    (fits g (goal.at.returns-in-Call-Done-clause-cause g c).After-new-machine) c.loop-reply.self-inside.store c.loop-reply.running
    c.in-Call-Done.reply (replied g (goal.at.returns-in-Call-Done-clause-cause g c).After-value_left) c.loop-reply.invariant.0 refused e)

pub returns-in-Call-Done-clause-absent : goal.returns-in-Call-Done-clause-absent
returns-in-Call-Done-clause-absent g c = λ only refused e.
    subst (IsTryCause c.args.self.now (map_in g.K.PartialEq.eq c.args.self.now.store c.args.key) refused)
    (left_is g (goal.at.returns-in-Call-Done-clause-absent g c).After-value_left)
    (inserting_absent g.K.PartialEq.eq (hash g) c.args.self.now c.args.replace c.args.key c.args.value (keys g c.args.self.now.store.hasher)
    (lawful g (goal.at.returns-in-Call-Done-clause-absent g c).After-new-machine)
    (fits g (goal.at.returns-in-Call-Done-clause-absent g c).After-new-machine) c.loop-reply.self-inside.store c.loop-reply.running
    c.in-Call-Done.reply (replied g (goal.at.returns-in-Call-Done-clause-absent g c).After-value_left) c.loop-reply.invariant.0 only refused e)

pub returns-in-Call-Done-clause-left : goal.returns-in-Call-Done-clause-left
returns-in-Call-Done-clause-left g c = λ n e. c.value_left.ensures
    ∙ ap value_left (inserting_left g.K.PartialEq.eq (hash g) c.args.self.now c.args.replace c.args.key c.args.value
    (keys g c.args.self.now.store.hasher) (lawful g (goal.at.returns-in-Call-Done-clause-left g c).After-new-machine)
    (fits g (goal.at.returns-in-Call-Done-clause-left g c).After-new-machine) c.loop-reply.self-inside.store c.loop-reply.running c.in-Call-Done.reply
    (replied g (goal.at.returns-in-Call-Done-clause-left g c).After-value_left) c.loop-reply.invariant.0 n e)

pub returns-in-Call-Done-clause-alone : goal.returns-in-Call-Done-clause-alone
returns-in-Call-Done-clause-alone g c =
    let n = (goal.at.returns-in-Call-Done-clause-alone g c).After-new-machine in
    let end = (goal.at.returns-in-Call-Done-clause-alone g c).After-value_left in
    subst (IsMadeAlone g.K.PartialEq.eq (hash g) c.args.self.now (insertion c.args.replace c.args.key c.args.value) c.in-Call-Done.reply)
    (left_is g end) (record { runs = (alone g end (lawful g n) (fits g n)).ran })

pub returns-in-Call-Done-clause-keeps : goal.returns-in-Call-Done-clause-keeps
returns-in-Call-Done-clause-keeps g c =
    let n = (goal.at.returns-in-Call-Done-clause-keeps g c).After-new-machine in
    let end = (goal.at.returns-in-Call-Done-clause-keeps g c).After-value_left in
    let over = alone g end (lawful g n) (fits g n) in (
      record {
        hasher = map_hasher g.K.PartialEq.eq g.K.Hash.hash_input g.S.BuildHasher.build_hasher g.S.Hasher.Hasher.write g.S.Hasher.Hasher.finish
            g.met.K.Eq.laws g.met.K.Hash.respects_eq c.args.self.now (insertion c.args.replace c.args.key c.args.value) c.in-Call-Done.reply
            c.loop-reply.self-inside.store (lawful g n) over;
        mode = c.loop-reply.invariant.1;
        initial = c.loop-reply.invariant.2;
        pairs = (map_logged g.K.PartialEq.eq g.K.Hash.hash_input g.S.BuildHasher.build_hasher g.S.Hasher.Hasher.write g.S.Hasher.Hasher.finish
            g.met.K.Eq.laws g.met.K.Hash.respects_eq c.args.self.now (insertion c.args.replace c.args.key c.args.value) c.in-Call-Done.reply
            c.loop-reply.self-inside.store (lawful g n) over).1;
      },
      inserting_tables g.K.PartialEq.eq (hash g) c.args.self.now c.args.replace c.args.key c.args.value (keys g c.args.self.now.store.hasher)
          (lawful g n) (fits g n) c.loop-reply.self-inside.store c.loop-reply.running c.in-Call-Done.reply (replied g end) c.loop-reply.invariant.0,
    )

pub returns-in-Call-Done-clause-stores : goal.returns-in-Call-Done-clause-stores
returns-in-Call-Done-clause-stores g c = c.loop-reply.invariant.0.logs
