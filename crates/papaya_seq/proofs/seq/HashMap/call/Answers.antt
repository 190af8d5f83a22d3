use Rattle.std.proofs.Common.{rules, ◌≡◌, inl, ℕ, Bool, true, false, List, OnOk, Option, None, Some, option_map, refl, sym, ap, ◌∙◌, subst}
use Rattle.papaya_words_law.specs.Content.{AreApart, lookup}
use Rattle.papaya_core_timeline.specs.Content.{content, map_in}
use Rattle.papaya_core_store.specs.Store.{StoreState, Stored}
use Rattle.papaya_words_keys.specs.Hashes.{hash_of}
use Rattle.papaya_call.specs.declared.call.Call.TheVariants.{Clear, Compute, CopyAll, Insert, RemoveIf, Reserve, Retain, TryInsert}
use Rattle.papaya_call.specs.declared.call.Reply.TheVariants.{Absent, Done, Found, Refused}
use Rattle.papaya_core_timeline.proofs.CountedCore.{lawful_apart}
use Rattle.papaya_call.specs.Answers.{Says}
use Rattle.papaya_seq.specs.Calls.{IsCalled, IsLeftAlone, IsSifted}
use Rattle.papaya_seq.specs.Map.{HasNone, Holds, IsLawfulMap, core_of, insertion}
use Rattle.papaya_seq.specs.Looks.{IsFound}
use Rattle.papaya_seq.proofs.Answered.{insert_answered, try_answered}
use Rattle.papaya_seq.proofs.CallLengths.{none_made}
use Rattle.papaya_seq.proofs.CallsDone.{copy_makes, get_absent, get_found, keyed_undone, remove_called, reserve_makes, resized_called}
use Rattle.papaya_seq.proofs.ComputeCalled.{compute_called}
use Rattle.papaya_seq.proofs.DoneAlone.{computed_replied, done_replied, made_replied}
use Rattle.papaya_seq.proofs.Sifted.{err_only, err_then, ok_then, on_err, on_ok, sifted_left, sifts}
use Rattle.papaya_seq.proofs.seq.HashMap.call.Goals as goal
use Rattle.papaya_seq.proofs.seq.HashMap.call.Given.{Over}

-- the hash of a key
abbrev hash : (g : Over) → g.row.S.Denot → g.row.K.Denot → ℕ
hash g = hash_of g.K.Hash.hash_input g.S.BuildHasher.build_hasher g.S.Hasher.Hasher.write g.S.Hasher.Hasher.finish

-- a lookup's pair and the number that is replied
looked_up : {K V S : Type 0} (eq : K → K → Bool) (s : StoreState K V S) (k : K) (found : Option (Stored K V)) (n : ℕ) → IsFound eq (eq k) s found
    → option_map (λ p. p.number) found ≡ Some n → (p : Stored K V) × Holds eq (eq k) s p × (p.number ≡ n)
looked_up eq s k None n is e = let f : None ≡ Some n = e in absurd cc
looked_up eq s k (Some p) n is e = (p, is.0, cc)

-- and none
looked_none : {K V S : Type 0} (eq : K → K → Bool) (s : StoreState K V S) (k : K) (found : Option (Stored K V)) → IsFound eq (eq k) s found
    → option_map (λ p. p.number) found ≡ None → HasNone eq (eq k) s
looked_none eq s k None is e = is
looked_none eq s k (Some p) is e = let f : Some p.number ≡ None = e in absurd cc

pub returns-in-Some-clause-called : goal.returns-in-Some-clause-called
returns-in-Some-clause-called g c =
    let lawful = subst (λ s. IsLawfulMap g.K.PartialEq.eq (hash g s.store.hasher) s.store s.mode s.initial) c.self.view_is c.self.invariant in
    let apart : AreApart g.K.PartialEq.eq (λ p. p.key) (content g.K.PartialEq.eq c.args.self.now.store) =
    lawful_apart g.K.PartialEq.eq g.K.Hash.hash_input g.S.BuildHasher.build_hasher g.S.Hasher.Hasher.write g.S.Hasher.Hasher.finish g.met.K.Eq.laws
    g.met.K.Hash.respects_eq (core_of c.args.self.now) lawful.lawful in
    let (p, holds, number) = looked_up g.K.PartialEq.eq c.args.self.now.store c.in-Get.key c.look_up.ensures.found.0 c.in-Some.pair c.look_up.ensures.found.1.0
    (sym c.look_up.ensures.found.2 ∙ c.in-Some.is) in
    subst (λ call. IsCalled g.K.PartialEq.eq (record { op = g.A.Answers.op_gives; yes = g.A.Answers.yes_gives }) c.args.self.now call
    (Found c.in-Some.pair) c.args.self.now) (sym c.in-Get.is) (record {
      answered = get_found g.K.PartialEq.eq g.met.K.Eq.laws c.args.self.now.store apart c.in-Get.key g.row.A.Denot p c.in-Some.pair holds number;
      fresh = tt;
      said = tt;
      cause = λ refused e. let f : Found c.in-Some.pair ≡ Refused refused = e in absurd cc;
      done = λ e. let f : Found c.in-Some.pair ≡ Done = e in absurd cc;
      keeps = record { hasher = refl; mode = refl; initial = refl; pairs = λ n p e. e };
      tables = λ j is. none_made c.args.self.now;
    })

pub returns-in-Get-clause-called : goal.returns-in-Get-clause-called
returns-in-Get-clause-called g c =
    let lawful = subst (λ s. IsLawfulMap g.K.PartialEq.eq (hash g s.store.hasher) s.store s.mode s.initial) c.self.view_is c.self.invariant in
    let apart : AreApart g.K.PartialEq.eq (λ p. p.key) (content g.K.PartialEq.eq c.args.self.now.store) =
    lawful_apart g.K.PartialEq.eq g.K.Hash.hash_input g.S.BuildHasher.build_hasher g.S.Hasher.Hasher.write g.S.Hasher.Hasher.finish g.met.K.Eq.laws
    g.met.K.Hash.respects_eq (core_of c.args.self.now) lawful.lawful in
    let none = looked_none g.K.PartialEq.eq c.args.self.now.store c.in-Get.key c.look_up.ensures.found.0 c.look_up.ensures.found.1.0
    (sym c.look_up.ensures.found.2 ∙ c.in-None.is) in
    subst (λ call. IsCalled g.K.PartialEq.eq (record { op = g.A.Answers.op_gives; yes = g.A.Answers.yes_gives }) c.args.self.now call Absent
    c.args.self.now) (sym c.in-Get.is) (record {
      answered = get_absent g.K.PartialEq.eq g.met.K.Eq.laws c.args.self.now.store apart c.in-Get.key g.row.A.Denot none;
      fresh = tt;
      said = tt;
      cause = λ refused e. let f : Absent ≡ Refused refused = e in absurd cc;
      done = λ e. let f : Absent ≡ Done = e in absurd cc;
      keeps = record { hasher = refl; mode = refl; initial = refl; pairs = λ n p e. e };
      tables = λ j is. none_made c.args.self.now;
    })

pub returns-in-RemoveIf-clause-called : goal.returns-in-RemoveIf-clause-called
returns-in-RemoveIf-clause-called g c =
    let lawful = subst (λ s. IsLawfulMap g.K.PartialEq.eq (hash g s.store.hasher) s.store s.mode s.initial) c.self.view_is c.self.invariant in
    let apart : AreApart g.K.PartialEq.eq (λ p. p.key) (content g.K.PartialEq.eq c.args.self.now.store) =
    lawful_apart g.K.PartialEq.eq g.K.Hash.hash_input g.S.BuildHasher.build_hasher g.S.Hasher.Hasher.write g.S.Hasher.Hasher.finish g.met.K.Eq.laws
    g.met.K.Hash.respects_eq (core_of c.args.self.now) lawful.lawful in
    subst (λ call. IsCalled g.K.PartialEq.eq (record { op = g.A.Answers.op_gives; yes = g.A.Answers.yes_gives }) c.args.self.now call
    c.remove_by.result c.remove_by.new.self) (sym c.in-RemoveIf.is)
    (remove_called g.K.PartialEq.eq g.met.K.Eq.laws c.args.self.now apart c.in-RemoveIf.key c.in-RemoveIf.answers
    (record { op = g.A.Answers.op_gives; yes = g.A.Answers.yes_gives }) c.remove_by.result c.remove_by.new.self c.remove_by.ensures.whole
    c.remove_by.ensures.cause c.remove_by.ensures.keeps.0 c.remove_by.ensures.keeps.2
    (λ p agrees judges. (
      judges.2.0.now,
      subst (λ k. g.A.Answers.yes_gives c.in-RemoveIf.answers k p.value agrees judges.2.0.now) judges.3
          (subst (λ v. g.A.Answers.yes_gives c.in-RemoveIf.answers judges.0.now v agrees judges.2.0.now) judges.4 (let met = judges.5.met in search rules)),
    )))

pub returns-in-Insert-clause-called : goal.returns-in-Insert-clause-called
returns-in-Insert-clause-called g c =
    let inserted = c.insert_by.ensures in
    subst (λ call. IsCalled g.K.PartialEq.eq (record { op = g.A.Answers.op_gives; yes = g.A.Answers.yes_gives }) c.args.self.now call
    c.insert_by.result.0 c.insert_by.new.self) (sym c.in-Insert.is) (record {
      answered = insert_answered g.row.A.Denot c.in-Insert.key c.in-Insert.value g.K.PartialEq.eq (map_in g.K.PartialEq.eq c.args.self.now.store)
          (map_in g.K.PartialEq.eq c.insert_by.new.self.store) c.insert_by.result.0 inserted.answers;
      fresh = inserted.fresh;
      said = tt;
      cause = inserted.cause;
      done = λ is. keyed_undone g.K.PartialEq.eq (insertion true c.in-Insert.key c.in-Insert.value) c.in-Insert.key refl c.insert_by.result.0
          (map_in g.K.PartialEq.eq c.args.self.now.store) (map_in g.K.PartialEq.eq c.insert_by.new.self.store) inserted.answers is;
      keeps = inserted.keeps.0;
      tables = λ j is. inserted.keeps.1;
    })

pub returns-in-TryInsert-clause-called : goal.returns-in-TryInsert-clause-called
returns-in-TryInsert-clause-called g c =
    let tried = c.insert_by-in-TryInsert.ensures in
    subst (λ call. IsCalled g.K.PartialEq.eq (record { op = g.A.Answers.op_gives; yes = g.A.Answers.yes_gives }) c.args.self.now call
    c.insert_by-in-TryInsert.result.0 c.insert_by-in-TryInsert.new.self) (sym c.in-TryInsert.is) (record {
      answered = try_answered g.row.A.Denot c.in-TryInsert.key c.in-TryInsert.value g.K.PartialEq.eq (map_in g.K.PartialEq.eq c.args.self.now.store)
          (map_in g.K.PartialEq.eq c.insert_by-in-TryInsert.new.self.store) c.insert_by-in-TryInsert.result.0 tried.answers;
      fresh = tried.fresh;
      said = tt;
      cause = λ refused is. tried.absent refl refused is;
      done = λ is. keyed_undone g.K.PartialEq.eq (insertion false c.in-TryInsert.key c.in-TryInsert.value) c.in-TryInsert.key refl
          c.insert_by-in-TryInsert.result.0 (map_in g.K.PartialEq.eq c.args.self.now.store)
          (map_in g.K.PartialEq.eq c.insert_by-in-TryInsert.new.self.store) tried.answers is;
      keeps = tried.keeps.0;
      tables = λ j is. tried.keeps.1;
    })

pub returns-in-Compute-clause-called : goal.returns-in-Compute-clause-called
returns-in-Compute-clause-called g c =
    subst (λ call. IsCalled g.K.PartialEq.eq (record { op = g.A.Answers.op_gives; yes = g.A.Answers.yes_gives }) c.args.self.now call c.replied.result
    c.compute_by.new.self) (sym c.in-Compute.is)
    (compute_called g.K.PartialEq.eq g.met.K.Eq.laws c.args.self.now c.compute_by.new.self c.in-Compute.key c.in-Compute.answers
    (record { op = g.A.Answers.op_gives; yes = g.A.Answers.yes_gives }) (λ shown operation said. search rules) c.compute_by.result.1
    c.replied.result c.replied.ensures c.compute_by.ensures.computes)

pub returns-in-Reserve-clause-called : goal.returns-in-Reserve-clause-called
returns-in-Reserve-clause-called g c =
    subst (λ call. IsCalled g.K.PartialEq.eq (record { op = g.A.Answers.op_gives; yes = g.A.Answers.yes_gives }) c.args.self.now call c.resized.result
    c.reserve.new.self) (sym c.in-Reserve.is)
    (resized_called g.K.PartialEq.eq (record { op = g.A.Answers.op_gives; yes = g.A.Answers.yes_gives }) (Reserve c.in-Reserve.more) refl
    c.args.self.now c.reserve.new.self c.reserve.ensures.keeps (λ reply. tt)
    (λ refused. reserve_makes g.K.PartialEq.eq c.args.self.now c.in-Reserve.more refused c.reserve.new.self) c.reserve.result c.resized.result
    c.resized.ensures c.reserve.ensures.ok c.reserve.ensures.err (on_ok c.reserve.result c.reserve.ensures.map)
    (on_err c.reserve.result c.reserve.ensures.map))

pub returns-in-CopyAll-clause-called : goal.returns-in-CopyAll-clause-called
returns-in-CopyAll-clause-called g c =
    subst (λ call. IsCalled g.K.PartialEq.eq (record { op = g.A.Answers.op_gives; yes = g.A.Answers.yes_gives }) c.args.self.now call
    c.resized-in-CopyAll.result c.copy_all.new.self) (sym c.in-CopyAll.is)
    (resized_called g.K.PartialEq.eq (record { op = g.A.Answers.op_gives; yes = g.A.Answers.yes_gives }) CopyAll refl c.args.self.now
    c.copy_all.new.self c.copy_all.ensures.keeps (λ reply. tt) (λ refused. copy_makes c.args.self.now refused c.copy_all.new.self) c.copy_all.result
    c.resized-in-CopyAll.result c.resized-in-CopyAll.ensures c.copy_all.ensures.ok c.copy_all.ensures.err
    (on_ok c.copy_all.result c.copy_all.ensures.map) (on_err c.copy_all.result c.copy_all.ensures.map))

pub returns-in-Clear-clause-called : goal.returns-in-Clear-clause-called
returns-in-Clear-clause-called g c =
    subst (λ call. IsCalled g.K.PartialEq.eq (record { op = g.A.Answers.op_gives; yes = g.A.Answers.yes_gives }) c.args.self.now call
    c.resized-in-Clear.result c.clear.new.self) (sym c.in-Clear.is)
    (resized_called g.K.PartialEq.eq (record { op = g.A.Answers.op_gives; yes = g.A.Answers.yes_gives }) Clear refl c.args.self.now c.clear.new.self
    c.clear.ensures.keeps (λ reply. tt) (λ refused. copy_makes c.args.self.now refused c.clear.new.self) c.clear.result c.resized-in-Clear.result
    c.resized-in-Clear.ensures
    c.clear.ensures.ok (err_only c.clear.result c.clear.ensures.err (λ e cause. cause.0))
    (ok_then c.clear.result c.clear.ensures.ok
    (λ none j. ap (λ (l : List (Stored g.row.K.Denot g.row.V.Denot)). lookup g.K.PartialEq.eq (λ p. p.key) l j) none))
    (err_then c.clear.result c.clear.ensures.err (λ e cause j. inl (cause.1 j))))

pub returns-in-Retain-clause-called : goal.returns-in-Retain-clause-called
returns-in-Retain-clause-called g c =
    let says : Says g.row.K.Denot g.row.V.Denot g.row.A.Denot = record { op = g.A.Answers.op_gives; yes = g.A.Answers.yes_gives } in
    let sifted : OnOk c.retain.result (IsSifted g.K.PartialEq.eq says c.in-Retain.answers c.args.self.now.store c.retain.new.self.store) =
    ok_then c.retain.result c.retain.ensures.ok (λ x. record {
      shown = x.shown;
      later = x.end.0.now;
      sifts = sifts _ says (λ f. f.0.now) (λ f f' key value agrees called. let met = called.met in search rules) _ x.shown
          (content g.K.PartialEq.eq c.retain.new.self.store) x.end x.retains;
      pairs = x.pairs;
      once = x.once;
    }) in
    subst (λ call. IsCalled g.K.PartialEq.eq says c.args.self.now call c.resized-in-Retain.result c.retain.new.self) (sym c.in-Retain.is)
    (resized_called g.K.PartialEq.eq says (Retain c.in-Retain.answers) refl c.args.self.now c.retain.new.self c.retain.ensures.keeps (λ reply. tt)
    (λ refused. copy_makes c.args.self.now refused c.retain.new.self) c.retain.result c.resized-in-Retain.result c.resized-in-Retain.ensures
    sifted (err_only c.retain.result c.retain.ensures.err (λ e cause. cause.0))
    (ok_then c.retain.result sifted (sifted_left g.K.PartialEq.eq g.met.K.Eq.laws says c.in-Retain.answers c.args.self.now.store c.retain.new.self.store))
    (err_then c.retain.result c.retain.ensures.err (λ e cause. λ j. inl (cause.1 j))))

pub returns-in-Insert-clause-alone : goal.returns-in-Insert-clause-alone
returns-in-Insert-clause-alone g c =
    subst (λ call. IsLeftAlone g.K.PartialEq.eq (hash g) c.args.self.now call c.insert_by.result.0 c.insert_by.new.self)
    (sym c.in-Insert.is) (made_replied g.K.PartialEq.eq (hash g) c.args.self.now c.insert_by.new.self
    (Insert c.in-Insert.key c.in-Insert.value) c.insert_by.result.0 c.insert_by.ensures.alone)

pub returns-in-TryInsert-clause-alone : goal.returns-in-TryInsert-clause-alone
returns-in-TryInsert-clause-alone g c =
    subst (λ call. IsLeftAlone g.K.PartialEq.eq (hash g) c.args.self.now call c.insert_by-in-TryInsert.result.0 c.insert_by-in-TryInsert.new.self)
    (sym c.in-TryInsert.is) (made_replied g.K.PartialEq.eq (hash g) c.args.self.now c.insert_by-in-TryInsert.new.self
    (TryInsert c.in-TryInsert.key c.in-TryInsert.value) c.insert_by-in-TryInsert.result.0 c.insert_by-in-TryInsert.ensures.alone)

pub returns-in-RemoveIf-clause-alone : goal.returns-in-RemoveIf-clause-alone
returns-in-RemoveIf-clause-alone g c =
    subst (λ call. IsLeftAlone g.K.PartialEq.eq (hash g) c.args.self.now call c.remove_by.result c.remove_by.new.self)
    (sym c.in-RemoveIf.is) (made_replied g.K.PartialEq.eq (hash g) c.args.self.now c.remove_by.new.self
    (RemoveIf c.in-RemoveIf.key tt) c.remove_by.result (c.remove_by.ensures.alone c.in-RemoveIf.key (g.met.K.Eq.laws.refl c.in-RemoveIf.key)))

pub returns-in-Compute-clause-alone : goal.returns-in-Compute-clause-alone
returns-in-Compute-clause-alone g c =
    subst (λ call. IsLeftAlone g.K.PartialEq.eq (hash g) c.args.self.now call c.replied.result c.compute_by.new.self)
    (sym c.in-Compute.is) (computed_replied g.K.PartialEq.eq (hash g) c.args.self.now c.compute_by.new.self
    (Compute c.in-Compute.key tt) c.compute_by.result.1 c.compute_by.ensures.alone c.replied.result c.replied.ensures)

pub returns-in-Reserve-clause-alone : goal.returns-in-Reserve-clause-alone
returns-in-Reserve-clause-alone g c =
    subst (λ call. IsLeftAlone g.K.PartialEq.eq (hash g) c.args.self.now call c.resized.result c.reserve.new.self)
    (sym c.in-Reserve.is) (done_replied g.K.PartialEq.eq (hash g) c.args.self.now c.reserve.new.self
    (Reserve c.in-Reserve.more) c.reserve.result c.reserve.ensures.alone c.resized.result c.resized.ensures)

pub returns-in-CopyAll-clause-alone : goal.returns-in-CopyAll-clause-alone
returns-in-CopyAll-clause-alone g c =
    subst (λ call. IsLeftAlone g.K.PartialEq.eq (hash g) c.args.self.now call c.resized-in-CopyAll.result c.copy_all.new.self)
    (sym c.in-CopyAll.is) (done_replied g.K.PartialEq.eq (hash g) c.args.self.now c.copy_all.new.self
    CopyAll c.copy_all.result c.copy_all.ensures.alone c.resized-in-CopyAll.result c.resized-in-CopyAll.ensures)
