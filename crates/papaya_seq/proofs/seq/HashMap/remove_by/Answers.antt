use Rattle.std.proofs.Common.{ℕ, fold, sym, ◌∙◌, ap, subst}
use Rattle.papaya_call.specs.declared.call.Task.TheVariants.{RemoveIf}
use Rattle.papaya_call.specs.Machine.{started}
use Rattle.papaya_words_keys.specs.Hashes.{hash_of}
use Rattle.papaya_core_timeline.proofs.KeptCore.{keys_lawful}
use Rattle.papaya_seq.specs.Buries.{itself}
use Rattle.papaya_seq.specs.Map.{MapState}
use Rattle.papaya_seq.proofs.Burying.{leads_under_way}
use Rattle.papaya_seq.proofs.RemovalDone.{RemovalDone, removal_finished}
use Rattle.papaya_seq.proofs.RemovalWays.{IsQuery, under_way}
use Rattle.papaya_seq.proofs.seq.HashMap.remove_by.Goals as goal
use Rattle.papaya_seq.proofs.seq.HashMap.remove_by.Goals.{In-Some}
use Rattle.papaya_seq.proofs.seq.HashMap.remove_by.Given.{Over}

-- how keys are hashed
abbrev hashes : (g : Over) → g.row.S.Denot → g.row.K.Denot → ℕ
hashes g = hash_of g.K.Hash.hash_input g.S.BuildHasher.build_hasher g.S.Hasher.Hasher.write g.S.Hasher.Hasher.finish

-- it was done at once
done : (g : Over) (c : In-Some g) → RemovalDone g.F.FnMut g.K.PartialEq.eq (hashes g) (g.Q.Equivalent.matches c.args.key.now) c.args.self.now
    c.args.agrees.now c.remove_fast.new.agrees c.in-Some.reply (record { store = c.remove_fast.new.store; mode = c.self.inside.mode; initial = c.self.inside.initial })
done g c =
    let matches = g.Q.Equivalent.matches c.args.key.now in
    let view : MapState g.row.K.Denot g.row.V.Denot
    g.row.S.Denot = record { store = c.self.inside.store; mode = c.self.inside.mode; initial = c.self.inside.initial } in
    let query : IsQuery g.F.FnMut g.K.PartialEq.eq (hashes g) matches c.hash-hash.result view c.args.agrees.now = record {
      keys = keys_lawful g.K.PartialEq.eq g.K.Hash.hash_input g.S.BuildHasher.build_hasher g.S.Hasher.Hasher.write g.S.Hasher.Hasher.finish
          g.met.K.Eq.laws g.met.K.Hash.respects_eq view.store.hasher;
      lawful = c.self.invariant;
      alike = λ k matched l. g.met.Q.Equivalent.matches_equal_keys c.args.key.now k l matched;
      hashes = λ k matched. ap (λ input. g.S.Hasher.Hasher.finish
          (fold g.S.Hasher.Hasher.write (g.S.BuildHasher.build_hasher view.store.hasher) input))
          (sym (g.met.Q.Equivalent.hashes_as_key c.args.key.now k matched)) ∙ sym c.hash-hash.ensures.value;
      fits = c.hash-hash.ensures.fits;
    } in
    let removed = c.in-Some.ensures view.mode.resize view.initial view.mode.limit in
    let now = leads_under_way g.F.FnMut g.K.PartialEq.eq (hashes g) matches c.hash-hash.result view c.args.agrees.now removed.answers view.store
    c.args.agrees.now (itself (started RemoveIf c.hash-hash.result view.mode.resize view.initial view.mode.limit)) c.remove_fast.new.store
    c.remove_fast.new.agrees removed.end removed.leads (under_way g.F.FnMut g.K.PartialEq.eq (hashes g) matches c.hash-hash.result view c.args.agrees.now 0) in
    subst (λ (m : MapState g.row.K.Denot g.row.V.Denot g.row.S.Denot).
    RemovalDone g.F.FnMut g.K.PartialEq.eq (hashes g) matches m c.args.agrees.now c.remove_fast.new.agrees c.in-Some.reply
    (record { store = c.remove_fast.new.store; mode = c.self.inside.mode; initial = c.self.inside.initial })) c.self.view_is
    (removal_finished g.F.FnMut g.K.PartialEq.eq g.K.Hash.hash_input g.S.BuildHasher.build_hasher g.S.Hasher.Hasher.write g.S.Hasher.Hasher.finish
    g.met.K.Eq.laws g.met.K.Hash.respects_eq matches c.hash-hash.result view c.args.agrees.now query c.remove_fast.new.store c.remove_fast.new.agrees
    removed.end now c.in-Some.reply removed.replied)

pub invariant_of-self : goal.invariant_of-self
invariant_of-self g c = (done g (goal.at.invariant_of-self g c).In-Some).orderly

pub returns-in-Some-clause-whole : goal.returns-in-Some-clause-whole
returns-in-Some-clause-whole g c = (done g (goal.at.returns-in-Some-clause-whole g c).In-Some).whole

pub returns-in-Some-clause-cause : goal.returns-in-Some-clause-cause
returns-in-Some-clause-cause g c = (done g (goal.at.returns-in-Some-clause-cause g c).In-Some).cause

pub returns-in-Some-clause-keeps : goal.returns-in-Some-clause-keeps
returns-in-Some-clause-keeps g c = (done g (goal.at.returns-in-Some-clause-keeps g c).In-Some).keeps

pub returns-in-Some-clause-alone : goal.returns-in-Some-clause-alone
returns-in-Some-clause-alone g c = (done g (goal.at.returns-in-Some-clause-alone g c).In-Some).alone

pub returns-in-Some-clause-called : goal.returns-in-Some-clause-called
returns-in-Some-clause-called g c = (done g (goal.at.returns-in-Some-clause-called g c).In-Some).called
