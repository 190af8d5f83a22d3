use Rattle.std.proofs.Common.{rules, ◌≡◌, ℕ, ◌^◌, ◌<◌, ◌≤◌, arith, false, Option, Some, None, refl, sym, ◌∙◌, ap, subst}
use denote.Ref.{Bor}
use Rattle.papaya_call.specs.Answers.{Says as Answers_say, first_or, rest_of}
use Rattle.papaya_call.specs.declared.answers.Listed.{Listed}
use Rattle.papaya_call.specs.declared.answers.Operation.{Operation}
use Rattle.papaya_call.specs.declared.answers.Operation.TheVariants.{Abort}
use Rattle.papaya_call.specs.declared.ask.Ask.TheVariants.{ShowNone, ShowPair, Done as Ask_done}
use Rattle.papaya_call.specs.declared.call.Reply.{Reply}
use Rattle.papaya_call.specs.declared.chain.ask.Answer.{Answer}
use Rattle.papaya_call.specs.declared.chain.ask.Ask.TheVariants as asks
use Rattle.papaya_call.specs.declared.chain.machine.Machine.{Machine}
use Rattle.papaya_call.specs.ChainMachine.{IsFitAsk, IsValid, after, ask_of}
use Rattle.papaya_core_store.specs.Asks.{PerformsAsk}
use Rattle.papaya_core_store.specs.declared.pairs.Part.TheVariants.{Own}
use Rattle.papaya_words_keys.specs.Hashes.{hash_of}
use Rattle.papaya_core_timeline.specs.Advances.{reply_in}
use Rattle.papaya_core_timeline.proofs.KeptCore.{keys_lawful}
use Rattle.papaya_core_timeline.proofs.KeptSettings.{IsLawfulKeys}
use Rattle.papaya_seq.specs.MadeAlone.{IsMadeAlone}
use Rattle.papaya_seq.specs.Map.{IsLawfulMap, KeepsAndGrows, MapState}
use Rattle.papaya_seq.proofs.Alone.{map_answered, map_hasher, map_lawful, map_logged}
use Rattle.papaya_seq.proofs.ComputeAsked.{closure_none, closure_pair, entry_are, none_are, none_went, pair_went}
use Rattle.papaya_seq.proofs.ComputeReply.{over_computes, over_replies, over_shown}
use Rattle.papaya_seq.proofs.ComputeRun.{IsComputing, Went, computing_begin, went_so}
use Rattle.papaya_seq.proofs.ComputeShown.{asking, compute_of}
use Rattle.papaya_seq.proofs.ComputeSteps.{computing_went, unreplied_ask}
use Rattle.papaya_seq.proofs.ComputesDone.{told_refused}
use Rattle.papaya_seq.proofs.ComputingCopies.{computing_copies, computing_sized}
use Rattle.papaya_seq.proofs.Ending.{left_of}
use Rattle.papaya_seq.proofs.Steps.{made_alone, made_tables}
use Rattle.papaya_seq.proofs.Turns.{IsOver}
use Rattle.papaya_seq.proofs.seq.HashMap.compute_slow.Goals as goal
use Rattle.papaya_seq.proofs.seq.HashMap.compute_slow.Goals.{After-answer, After-answer-arg-1}
use Rattle.papaya_seq.proofs.seq.HashMap.compute_slow.Goals.{After-copy_for_call, After-new}
use Rattle.papaya_seq.proofs.seq.HashMap.compute_slow.Goals.{In-Call-Done, in-Call-ShowNone}
use Rattle.papaya_seq.proofs.seq.HashMap.compute_slow.Goals.{in-Call-ShowPair, in_default}
use Rattle.papaya_seq.proofs.seq.HashMap.compute_slow.Given as given
use Rattle.papaya_seq.proofs.KeyCalls.{keyed_compute}
use Rattle.papaya_seq.proofs.seq.HashMap.compute_slow.Given.{Over}

-- the hash of a key
abbrev hash : (g : Over) → g.row.S.Denot → g.row.K.Denot → ℕ
hash g = hash_of g.K.Hash.hash_input g.S.BuildHasher.build_hasher g.S.Hasher.Hasher.write g.S.Hasher.Hasher.finish

-- the results of a list of answers, of which the call has none
abbrev said : (g : Over) → Answers_say g.row.K.Denot g.row.V.Denot (Listed g.row.V.Denot)
said g = record {
  op = λ a shown told a'. (told ≡ first_or (Abort 0) a.ops.items) × (a'.ops.items ≡ rest_of a.ops.items) × (a'.yes ≡ a.yes);
  yes = λ a key value told a'. (told ≡ first_or false a.yes.items) × (a'.yes.items ≡ rest_of a.yes.items) × (a'.ops ≡ a.ops);
}

-- equal keys hash alike
keys : (g : Over) (hasher : g.row.S.Denot) → IsLawfulKeys g.K.PartialEq.eq (hash g hasher)
keys g hasher = keys_lawful g.K.PartialEq.eq g.K.Hash.hash_input g.S.BuildHasher.build_hasher g.S.Hasher.Hasher.write g.S.Hasher.Hasher.finish
    g.met.K.Eq.laws g.met.K.Hash.respects_eq hasher

-- the results that the closure may return
abbrev post : (g : Over) → g.row.F.Denot → Option (Bor g.row.K.Denot × Bor g.row.V.Denot) → Operation g.row.V.Denot g.row.T.Denot → Type 0
post g = λ f shown operation. given.F-post g f shown operation

-- the map is in order when the call begins
lawful : (g : Over) (c : After-new g) → IsLawfulMap g.K.PartialEq.eq (hash g c.args.self.now.store.hasher) c.args.self.now.store c.args.self.now.mode
    c.args.self.now.initial
lawful g c = subst (λ (m : MapState _ _ _). IsLawfulMap g.K.PartialEq.eq (hash g m.store.hasher) m.store m.mode m.initial) c.self.view_is c.self.invariant

-- the key's hash has 64 bits
fits : (g : Over) (c : After-new g) → hash g c.args.self.now.store.hasher c.args.key < 2 ^ 64
fits g c = subst (λ (n : ℕ). n < 2 ^ 64) (c.hash-hash.ensures.value ∙ ap (λ (m : MapState _ _ _). hash g m.store.hasher c.args.key) c.self.view_is)
    c.hash-hash.ensures.fits

pub loop-self-init : goal.loop-self-init
loop-self-init g c =
    let view : MapState _ _ _ = record { store = c.self.inside.store; mode = c.self.inside.mode; initial = c.self.inside.initial } in
    subst (λ (m : MapState _ _ _). IsComputing g.K.PartialEq.eq (hash g) m c.args.key (post g) c.args.f c.self.inside.store
    (record { machine = c.new.result; key = Own c.args.key; value = None; answers = None }) (Some c.args.f) None None
    × (c.self.inside.mode ≡ m.mode) × (c.self.inside.initial ≡ m.initial)) c.self.view_is (
      computing_begin g.K.PartialEq.eq (hash g) view c.args.key (post g) c.args.f c.new.result c.hash-hash.result c.copies_from-number.result None
          c.new.ensures.value c.hash-hash.ensures.value c.new.ensures.valid,
      refl,
      refl,
    )

pub ask-ask-requires : goal.ask-ask-requires
ask-ask-requires g c = c.loop-self.invariant.0.valid

pub call_closure-requires : goal.call_closure-requires
call_closure-requires g c =
    let none : c.in-Call-ShowNone.field-0 ≡ ShowNone = rw c.in-Call-ShowNone.is at c.in-Call-ShowNone.field-0-is in
    let shows : ask_of c.loop-self.running.machine ≡ asks.Call ShowNone = sym c.ask-ask.ensures.value ∙ c.in-Call-ShowNone.is ∙ ap asks.Call none in (
      c.args.f,
      closure_none g.K.PartialEq.eq g.K.Hash.hash_input g.S.BuildHasher.build_hasher g.S.Hasher.Hasher.write g.S.Hasher.Hasher.finish g.met.K.Eq.laws
          g.met.K.Hash.respects_eq c.args.self.now (lawful g (goal.at.call_closure-requires g c).After-new) c.args.key
          (fits g (goal.at.call_closure-requires g c).After-new) (post g) c.args.f c.loop-self.self-inside.store c.loop-self.running c.loop-self.closure
          c.loop-self.shown c.loop-self.aborted c.loop-self.invariant.0 shows,
      c.requires c.no_pair-entry.result (none_are g.K.PartialEq.eq g.K.Hash.hash_input g.S.BuildHasher.build_hasher g.S.Hasher.Hasher.write
          g.S.Hasher.Hasher.finish g.met.K.Eq.laws g.met.K.Hash.respects_eq c.args.self.now (lawful g (goal.at.call_closure-requires g c).After-new) c.args.key
          (fits g (goal.at.call_closure-requires g c).After-new) (post g) c.args.f c.loop-self.self-inside.store c.loop-self.running c.loop-self.closure
          c.loop-self.shown c.loop-self.aborted c.loop-self.invariant.0 c.no_pair-entry.result c.no_pair-entry.ensures shows),
    )

pub call_closure-requires-in-Call-ShowPair : goal.call_closure-requires-in-Call-ShowPair
call_closure-requires-in-Call-ShowPair g c =
    let pair : c.in-Call-ShowPair.field-0 ≡ ShowPair c.in-Call-ShowPair.pair = rw c.in-Call-ShowPair.is at c.in-Call-ShowPair.field-0-is in
    let shows : ask_of c.loop-self.running.machine ≡ asks.Call (ShowPair c.in-Call-ShowPair.pair) = sym c.ask-ask.ensures.value
    ∙ c.in-Call-ShowPair.is ∙ ap asks.Call pair in (
      c.args.f,
      closure_pair g.K.PartialEq.eq g.K.Hash.hash_input g.S.BuildHasher.build_hasher g.S.Hasher.Hasher.write g.S.Hasher.Hasher.finish g.met.K.Eq.laws
          g.met.K.Hash.respects_eq c.args.self.now (lawful g (goal.at.call_closure-requires-in-Call-ShowPair g c).After-new) c.args.key
          (fits g (goal.at.call_closure-requires-in-Call-ShowPair g c).After-new) (post g) c.args.f c.loop-self.self-inside.store c.loop-self.running
          c.loop-self.closure c.loop-self.shown c.loop-self.aborted c.loop-self.invariant.0 c.in-Call-ShowPair.pair shows,
      c.requires c.pair-entry.result (entry_are g.K.PartialEq.eq g.K.Hash.hash_input g.S.BuildHasher.build_hasher g.S.Hasher.Hasher.write
          g.S.Hasher.Hasher.finish g.met.K.Eq.laws g.met.K.Hash.respects_eq c.args.self.now
          (lawful g (goal.at.call_closure-requires-in-Call-ShowPair g c).After-new) c.args.key (fits g (goal.at.call_closure-requires-in-Call-ShowPair g c).After-new)
          (post g) c.args.f c.loop-self.self-inside.store c.loop-self.running c.loop-self.closure c.loop-self.shown c.loop-self.aborted
          c.loop-self.invariant.0 c.pair-entry.result c.in-Call-ShowPair.pair c.pair-entry.ensures shows),
    )

-- the effect of an answer, whether of the store or of the closure
went : (g : Over) (c : After-answer-arg-1 g)
    → IsLawfulMap g.K.PartialEq.eq (hash g c.args.self.now.store.hasher) c.args.self.now.store c.args.self.now.mode c.args.self.now.initial
    → hash g c.args.self.now.store.hasher c.args.key < 2 ^ 64
    → Went g.K.PartialEq.eq (hash g) c.args.self.now c.args.key (post g) c.args.f c.loop-self.self-inside.store c.loop-self.running.machine
    c.match-ask.answer c.match-ask.self-inside.store c.match-ask.running c.match-ask.closure c.match-ask.shown c.match-ask.aborted
went g c orderly fit =
    let store = c.loop-self.self-inside.store in
    let r = c.loop-self.running in
    elim c.match-ask.branch [
      | in-Call-ShowNone w ↦
          let none : w.in-Call-ShowNone.field-0 ≡ ShowNone = rw w.in-Call-ShowNone.is at w.in-Call-ShowNone.field-0-is in
          went_so g.K.PartialEq.eq (hash g) c.args.self.now c.args.key (post g) c.args.f store r.machine w.answer-is
          (ap (λ i. i.store) w.self-inside-is) w.running-is w.closure-is w.shown-is w.aborted-is
          (none_went g.K.PartialEq.eq g.K.Hash.hash_input g.S.BuildHasher.build_hasher g.S.Hasher.Hasher.write g.S.Hasher.Hasher.finish
          g.met.K.Eq.laws g.met.K.Hash.respects_eq c.args.self.now orderly c.args.key fit (post g) c.args.f store r c.loop-self.closure
          c.loop-self.shown c.loop-self.aborted c.loop-self.invariant.0 w.call_closure.result w.call_closure.new.value w.call_closure.new.closure w.call_closure.new.aborted
          w.no_pair-entry.result w.call_closure.ensures.0 w.call_closure.ensures.1 w.call_closure.ensures.2 w.call_closure.ensures.4 w.call_closure.ensures.5
          (sym c.ask-ask.ensures.value ∙ w.in-Call-ShowNone.is ∙ ap asks.Call none) w.no_pair-entry.ensures)
      | in-Call-ShowPair w ↦
          let shows : w.in-Call-ShowPair.field-0 ≡ ShowPair w.in-Call-ShowPair.pair = rw w.in-Call-ShowPair.is at w.in-Call-ShowPair.field-0-is in
          went_so g.K.PartialEq.eq (hash g) c.args.self.now c.args.key (post g) c.args.f store r.machine w.answer-is
          (ap (λ i. i.store) w.self-inside-is) w.running-is w.closure-is w.shown-is w.aborted-is
          (pair_went g.K.PartialEq.eq g.K.Hash.hash_input g.S.BuildHasher.build_hasher g.S.Hasher.Hasher.write g.S.Hasher.Hasher.finish
          g.met.K.Eq.laws g.met.K.Hash.respects_eq c.args.self.now orderly c.args.key fit (post g) c.args.f store r c.loop-self.closure
          c.loop-self.shown c.loop-self.aborted c.loop-self.invariant.0 w.call_closure-in-Call-ShowPair.result w.call_closure-in-Call-ShowPair.new.value
          w.call_closure-in-Call-ShowPair.new.closure w.call_closure-in-Call-ShowPair.new.aborted w.pair-entry.result w.call_closure-in-Call-ShowPair.ensures.0
          w.call_closure-in-Call-ShowPair.ensures.1 w.call_closure-in-Call-ShowPair.ensures.2 w.call_closure-in-Call-ShowPair.ensures.4 w.call_closure-in-Call-ShowPair.ensures.5
          w.in-Call-ShowPair.pair (sym c.ask-ask.ensures.value ∙ w.in-Call-ShowPair.is ∙ ap asks.Call shows) w.pair-entry.ensures)
      | in_default w ↦
          let no_reply : (reply : Reply) → c.ask-ask.result ≡ asks.Call (Ask_done reply) → ⊥ = λ reply e. search rules in
          let no_none : c.ask-ask.result ≡ asks.Call ShowNone → ⊥ = λ e. search rules in
          let no_pair : (i : ℕ) → c.ask-ask.result ≡ asks.Call (ShowPair i) → ⊥ = λ i e. search rules in
          went_so g.K.PartialEq.eq (hash g) c.args.self.now c.args.key (post g) c.args.f store r.machine w.answer-is
          (ap (λ i. i.store) w.self-inside-is) w.running-is w.closure-is w.shown-is w.aborted-is
          (computing_went g.K.PartialEq.eq (hash g) c.args.self.now c.args.key (said g) store r w.perform_ask-answer.result
          w.perform_ask-answer.new.self w.perform_ask-answer.new.running
          (unreplied_ask (ask_of r.machine) (λ reply e. no_reply reply (c.ask-ask.ensures.value ∙ e))) (λ e. no_none (c.ask-ask.ensures.value ∙ e))
          (λ i e. no_pair i (c.ask-ask.ensures.value ∙ e))
          (subst (λ y. PerformsAsk g.K.PartialEq.eq (said g) (hash g) false y store r w.perform_ask-answer.result w.perform_ask-answer.new.self
          w.perform_ask-answer.new.running) c.ask-ask.ensures.value w.perform_ask-answer.ensures.performs) w.perform_ask-answer.ensures.machine
          (post g) c.args.f c.loop-self.closure c.loop-self.shown c.loop-self.aborted (keys g c.args.self.now.store.hasher) orderly fit
          c.loop-self.invariant.0 (subst IsFitAsk c.ask-ask.ensures.value c.ask-ask.ensures.size))
    ]

-- the machine after the answer
answered : (m m' next : Machine) (answer : Answer) → next ≡ after m' answer → m' ≡ m → next ≡ after m answer
answered m m' next answer goes same = goes ∙ ap (λ (x : Machine). after x answer) same

pub answer-requires-clause-valid : goal.answer-requires-clause-valid
answer-requires-clause-valid g c =
    let n = (goal.at.answer-requires-clause-valid g c).After-new in
    subst IsValid (sym (went g c (lawful g n) (fits g n)).same) c.loop-self.invariant.0.valid

pub answer-requires-clause-fit : goal.answer-requires-clause-fit
answer-requires-clause-fit g c = let n = (goal.at.answer-requires-clause-fit g c).After-new in (went g c (lawful g n) (fits g n)).fit

-- the compute after the answer
gone : (g : Over) (c : After-answer g) → IsComputing g.K.PartialEq.eq (hash g) c.args.self.now c.args.key (post g) c.args.f
    c.match-ask.self-inside.store (record c.match-ask.running { machine = c.answer.new.self }) c.match-ask.closure c.match-ask.shown c.match-ask.aborted
gone g c =
    let n = (goal.at.After-answer g c).After-new in
    let goes = went g (goal.at.After-answer g c).After-answer-arg-1 (lawful g n) (fits g n) in
    let is = answered c.loop-self.running.machine c.match-ask.running.machine c.answer.new.self c.match-ask.answer c.answer.ensures.after goes.same in
    subst (λ (m : Machine). IsComputing g.K.PartialEq.eq (hash g) c.args.self.now c.args.key (post g) c.args.f c.match-ask.self-inside.store
    (record c.match-ask.running { machine = m }) c.match-ask.closure c.match-ask.shown c.match-ask.aborted) (sym is)
    (goes.goes (subst IsValid is c.answer.ensures.valid))

pub copy_for_call-requires-clause-sized : goal.copy_for_call-requires-clause-sized
copy_for_call-requires-clause-sized g c =
    let n = (goal.at.copy_for_call-requires-clause-sized g c).After-new in
    computing_sized g.K.PartialEq.eq (hash g) c.args.self.now c.args.key (post g) c.args.f c.match-ask.closure c.match-ask.shown c.match-ask.aborted
    (keys g c.args.self.now.store.hasher) (lawful g n) (fits g n) c.match-ask.self-inside.store
    (record c.match-ask.running { machine = c.answer.new.self }) (gone g (goal.at.copy_for_call-requires-clause-sized g c).After-answer)

-- and after the slots that were copied
copied : (g : Over) (c : After-copy_for_call g)
    → IsComputing g.K.PartialEq.eq (hash g) c.args.self.now c.args.key (post g) c.args.f c.copy_for_call.new.store
    (record c.match-ask.running { machine = c.copy_for_call.new.machine }) c.match-ask.closure c.match-ask.shown c.match-ask.aborted
    × (left_of c.copy_for_call.new.store c.copy_for_call.new.machine ≤ left_of c.match-ask.self-inside.store c.answer.new.self)
copied g c =
    let n = (goal.at.After-copy_for_call g c).After-new in
    let (told, led) = c.copy_for_call.ensures in
    computing_copies g.K.PartialEq.eq (hash g) c.args.self.now c.args.key (post g) c.args.f c.match-ask.closure c.match-ask.shown c.match-ask.aborted
    (keys g c.args.self.now.store.hasher) (lawful g n) (fits g n) told c.match-ask.self-inside.store
    (record c.match-ask.running { machine = c.answer.new.self }) c.copy_for_call.new.store c.copy_for_call.new.machine led
    (gone g (goal.at.After-copy_for_call g c).After-answer)

pub loop-self-smaller : goal.loop-self-smaller
loop-self-smaller g c =
    let n = (goal.at.loop-self-smaller g c).After-new in
    let goes = went g (goal.at.loop-self-smaller g c).After-answer-arg-1 (lawful g n) (fits g n) in
    let near = (copied g (goal.at.loop-self-smaller g c).After-copy_for_call).1 in
    let nearer : left_of c.match-ask.self-inside.store c.answer.new.self < left_of c.loop-self.self-inside.store c.loop-self.running.machine =
    subst (λ (m : Machine). left_of c.match-ask.self-inside.store m < left_of c.loop-self.self-inside.store c.loop-self.running.machine)
    (sym (answered c.loop-self.running.machine c.match-ask.running.machine c.answer.new.self c.match-ask.answer c.answer.ensures.after goes.same))
    goes.nears in
    omega (arith, near, nearer)

-- the map keeps its mode and its initial capacity
settings : (g : Over) (c : After-answer-arg-1 g) → (c.match-ask.self-inside.mode ≡ c.args.self.now.mode)
    × (c.match-ask.self-inside.initial ≡ c.args.self.now.initial)
settings g c = elim c.match-ask.branch [
  | in-Call-ShowNone w ↦ (ap (λ i. i.mode) w.self-inside-is ∙ c.loop-self.invariant.1, ap (λ i. i.initial) w.self-inside-is ∙ c.loop-self.invariant.2)
  | in-Call-ShowPair w ↦ (ap (λ i. i.mode) w.self-inside-is ∙ c.loop-self.invariant.1, ap (λ i. i.initial) w.self-inside-is ∙ c.loop-self.invariant.2)
  | in_default w ↦ (ap (λ i. i.mode) w.self-inside-is ∙ c.loop-self.invariant.1, ap (λ i. i.initial) w.self-inside-is ∙ c.loop-self.invariant.2)
]

pub loop-self-preserved : goal.loop-self-preserved
loop-self-preserved g c =
    let (mode, initial) = settings g (goal.at.loop-self-preserved g c).After-answer-arg-1 in
    ((copied g (goal.at.loop-self-preserved g c).After-copy_for_call).0, mode, initial)

-- the machine has replied
replied : (g : Over) (c : In-Call-Done g) → reply_in (ask_of c.loop-self.running.machine) ≡ Some c.in-Call-Done.reply
replied g c =
    let done : c.in-Call-Done.field-0 ≡ Ask_done c.in-Call-Done.reply = rw c.in-Call-Done.is at c.in-Call-Done.field-0-is in
    ap reply_in (sym c.ask-ask.ensures.value ∙ c.in-Call-Done.is ∙ ap asks.Call done)

-- so the call was made alone
alone : (g : Over) (c : In-Call-Done g) → IsLawfulMap g.K.PartialEq.eq (hash g c.args.self.now.store.hasher) c.args.self.now.store
    c.args.self.now.mode c.args.self.now.initial → hash g c.args.self.now.store.hasher c.args.key < 2 ^ 64
    → IsOver g.K.PartialEq.eq (hash g) c.args.self.now (compute_of c.args.key) c.loop-self.self-inside.store c.in-Call-Done.reply
alone g c orderly fit = made_alone g.K.PartialEq.eq (hash g) c.args.self.now (keyed_compute c.args.key) (keys g c.args.self.now.store.hasher) orderly
    fit c.loop-self.self-inside.store (asking c.loop-self.running) c.in-Call-Done.reply (replied g c) c.loop-self.invariant.0.steps

-- the map that it left
abbrev left : (g : Over) (c : In-Call-Done g) → MapState g.row.K.Denot g.row.V.Denot g.row.S.Denot
left g c = record { store = c.loop-self.self-inside.store; mode = c.loop-self.self-inside.mode; initial = c.loop-self.self-inside.initial }

-- the facts after the call beside the finite map
keeps : (g : Over) (c : In-Call-Done g) → IsLawfulMap g.K.PartialEq.eq (hash g c.args.self.now.store.hasher) c.args.self.now.store
    c.args.self.now.mode c.args.self.now.initial → hash g c.args.self.now.store.hasher c.args.key < 2 ^ 64 → KeepsAndGrows c.args.self.now (left g c)
keeps g c orderly fit =
    let over = alone g c orderly fit in (
      record {
        hasher = map_hasher g.K.PartialEq.eq g.K.Hash.hash_input g.S.BuildHasher.build_hasher g.S.Hasher.Hasher.write g.S.Hasher.Hasher.finish
            g.met.K.Eq.laws g.met.K.Hash.respects_eq c.args.self.now (compute_of c.args.key) c.in-Call-Done.reply c.loop-self.self-inside.store orderly over;
        mode = c.loop-self.invariant.1;
        initial = c.loop-self.invariant.2;
        pairs = (map_logged g.K.PartialEq.eq g.K.Hash.hash_input g.S.BuildHasher.build_hasher g.S.Hasher.Hasher.write g.S.Hasher.Hasher.finish
            g.met.K.Eq.laws g.met.K.Hash.respects_eq c.args.self.now (compute_of c.args.key) c.in-Call-Done.reply c.loop-self.self-inside.store orderly over).1;
      },
      made_tables g.K.PartialEq.eq (hash g) c.args.self.now (keyed_compute c.args.key) (keys g c.args.self.now.store.hasher) orderly fit
          c.loop-self.self-inside.store (asking c.loop-self.running) c.loop-self.invariant.0.steps,
    )

pub computed-requires : goal.computed-requires
computed-requires g c =
    let n = (goal.at.computed-requires g c).After-new in
    let over = alone g c (lawful g n) (fits g n) in
    over_replies g.K.PartialEq.eq g.met.K.Eq.laws (hash g) c.args.self.now (left g c) (keeps g c (lawful g n) (fits g n)) c.args.key (post g) c.args.f
    c.loop-self.running c.loop-self.closure c.loop-self.shown c.loop-self.aborted c.in-Call-Done.reply (replied g c) c.loop-self.invariant.0
    (map_answered g.K.PartialEq.eq g.K.Hash.hash_input g.S.BuildHasher.build_hasher g.S.Hasher.Hasher.write g.S.Hasher.Hasher.finish g.met.K.Eq.laws
    g.met.K.Hash.respects_eq c.args.self.now (compute_of c.args.key) c.in-Call-Done.reply c.loop-self.self-inside.store (lawful g n) over)

pub invariant_of-self : goal.invariant_of-self
invariant_of-self g c =
    let n = (goal.at.invariant_of-self g c).After-new in
    let done = (goal.at.invariant_of-self g c).In-Call-Done in
    subst (λ mode. IsLawfulMap g.K.PartialEq.eq (hash g c.loop-self.self-inside.store.hasher) c.loop-self.self-inside.store mode
    c.loop-self.self-inside.initial) (sym c.loop-self.invariant.1)
    (subst (λ initial. IsLawfulMap g.K.PartialEq.eq (hash g c.loop-self.self-inside.store.hasher) c.loop-self.self-inside.store c.args.self.now.mode
    initial) (sym c.loop-self.invariant.2)
    (map_lawful g.K.PartialEq.eq g.K.Hash.hash_input g.S.BuildHasher.build_hasher g.S.Hasher.Hasher.write g.S.Hasher.Hasher.finish g.met.K.Eq.laws
    g.met.K.Hash.respects_eq c.args.self.now (compute_of c.args.key) c.in-Call-Done.reply c.loop-self.self-inside.store (lawful g n)
    (alone g done (lawful g n) (fits g n))))

pub returns-in-Call-Done-clause-shown : goal.returns-in-Call-Done-clause-shown
returns-in-Call-Done-clause-shown g c =
    let n = (goal.at.returns-in-Call-Done-clause-shown g c).After-new in
    let done = (goal.at.returns-in-Call-Done-clause-shown g c).In-Call-Done in
    let over = alone g done (lawful g n) (fits g n) in
    over_shown g.K.PartialEq.eq g.met.K.Eq.laws (hash g) c.args.self.now (left g done) (keeps g done (lawful g n) (fits g n)) c.args.key (post g)
    c.args.f c.loop-self.running c.loop-self.closure c.loop-self.shown c.loop-self.aborted c.in-Call-Done.reply (replied g done) c.loop-self.invariant.0
    (map_answered g.K.PartialEq.eq g.K.Hash.hash_input g.S.BuildHasher.build_hasher g.S.Hasher.Hasher.write g.S.Hasher.Hasher.finish g.met.K.Eq.laws
    g.met.K.Hash.respects_eq c.args.self.now (compute_of c.args.key) c.in-Call-Done.reply c.loop-self.self-inside.store (lawful g n) over)
    c.computed.result c.computed.ensures

-- which has the mode and the initial capacity of before
left_is : (g : Over) (c : In-Call-Done g) → record c.args.self.now { store = c.loop-self.self-inside.store } ≡ left g c
left_is g c =
    ap (λ mode. record { store = c.loop-self.self-inside.store; mode = mode; initial = c.args.self.now.initial }) (sym c.loop-self.invariant.1)
    ∙ ap (λ initial. record { store = c.loop-self.self-inside.store; mode = c.loop-self.self-inside.mode; initial = initial }) (sym c.loop-self.invariant.2)

pub returns-in-Call-Done-clause-alone : goal.returns-in-Call-Done-clause-alone
returns-in-Call-Done-clause-alone g c =
    let n = (goal.at.returns-in-Call-Done-clause-alone g c).After-new in
    let end = (goal.at.returns-in-Call-Done-clause-alone g c).In-Call-Done in
    record {
      reply = c.in-Call-Done.reply;
      alone = subst (IsMadeAlone g.K.PartialEq.eq (hash g) c.args.self.now (compute_of c.args.key) c.in-Call-Done.reply) (left_is g end)
          (record { runs = (alone g end (lawful g n) (fits g n)).ran });
      refused = told_refused c.in-Call-Done.reply c.loop-self.aborted c.computed.result c.computed.ensures;
    }

pub returns-in-Call-Done-clause-computes : goal.returns-in-Call-Done-clause-computes
returns-in-Call-Done-clause-computes g c =
    let n = (goal.at.returns-in-Call-Done-clause-computes g c).After-new in
    let done = (goal.at.returns-in-Call-Done-clause-computes g c).In-Call-Done in
    let over = alone g done (lawful g n) (fits g n) in
    over_computes g.K.PartialEq.eq g.met.K.Eq.laws (hash g) c.args.self.now (left g done) (keeps g done (lawful g n) (fits g n)) c.args.key (post g)
    c.args.f c.loop-self.running c.loop-self.closure c.loop-self.shown c.loop-self.aborted c.in-Call-Done.reply (replied g done) c.loop-self.invariant.0
    (map_answered g.K.PartialEq.eq g.K.Hash.hash_input g.S.BuildHasher.build_hasher g.S.Hasher.Hasher.write g.S.Hasher.Hasher.finish g.met.K.Eq.laws
    g.met.K.Hash.respects_eq c.args.self.now (compute_of c.args.key) c.in-Call-Done.reply c.loop-self.self-inside.store (lawful g n) over)
    (map_logged g.K.PartialEq.eq g.K.Hash.hash_input g.S.BuildHasher.build_hasher g.S.Hasher.Hasher.write g.S.Hasher.Hasher.finish g.met.K.Eq.laws
    g.met.K.Hash.respects_eq c.args.self.now (compute_of c.args.key) c.in-Call-Done.reply c.loop-self.self-inside.store (lawful g n) over).0
    c.computed.result c.computed.ensures
