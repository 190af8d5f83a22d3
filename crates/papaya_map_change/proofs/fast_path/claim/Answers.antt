use Rattle.std.proofs.Common.{◌≡◌, ℕ, ◌==◌, Bool, true, false, None, Some, refl, sym, ap, ◌∙◌, rules, subst, [], append-nil}
use Rattle.papaya_words.specs.Word.{live_word}
use Rattle.papaya_call.specs.declared.ask.StepKind.TheVariants as steps
use Rattle.papaya_call.specs.declared.machine.State.{State}
use Rattle.papaya_call.specs.declared.machine.State.TheVariants.{Writing}
use Rattle.papaya_map_book.specs.declared.rule.entry.Named.TheVariants as names
use Rattle.papaya_map_book.specs.Calls.{IsSlotTried}
use Rattle.papaya_map_book.specs.Hashes.{hash_of}
use Rattle.papaya_map_book.specs.Parts.{begun_of}
use Rattle.papaya_map_book.specs.Logs.{Stored}
use Rattle.papaya_map_book.specs.Windows.{Does, IsStoredAs}
use Rattle.papaya_call_law.proofs.NewWords.{pair_of-live_word}
use Rattle.papaya_map_book.proofs.Loaded.{table_since}
use Rattle.papaya_map_lookup.specs.Drivers.{past}
use Rattle.papaya_map_lookup.specs.History.{history_of, key_of}
use Rattle.papaya_map_change.specs.Changes.{IsChangeOf}
use Rattle.papaya_map_change.specs.Seeking.{IsInsertingAt}
use Rattle.papaya_map_change.proofs.Doing.{idles, makes}
use Rattle.papaya_map_change.proofs.Logged.{makes_none}
use Rattle.papaya_map_change.proofs.Claiming.{claim_hint, claim_traded, counts, ended, put_can, slot_there}
use Rattle.papaya_map_change.proofs.fast_path.claim.Goals as goal

pub put_slot-found-requires-clause-place : goal.put_slot-found-requires-clause-place
put_slot-found-requires-clause-place g c =
    let w = c.args.window.now.book.now in let b = begun_of w.parts in let log = c.args.window.now.sight.log in let key = c.args.key in
    let at = c.args.at in let q = c.in-Ok.pair in
    let key_is : key_of q ≡ key = c.in-Ok.ensures.ok.key_is in
    let hash = (hash_of g.K.Hash.hash_input g.S.BuildHasher.build_hasher g.S.Hasher.Hasher.write g.S.Hasher.Hasher.finish) in
    let st = c.requires.stands in let led : Some (Writing (record { place = at; old = 0 })) ≡ Some st.0 = st.1 in
    let to : Writing (record { place = at; old = 0 }) ≡ st.0 = cc led in
    let r = subst (λ (z : State). IsInsertingAt g.K.PartialEq.eq hash b w.begun.book key st.2.0 log z None c.args.table.now) (sym to) st.2.1 in
    (slot_there g.K.PartialEq.eq g.K.Hash.hash_input g.S.BuildHasher.build_hasher g.S.Hasher.Hasher.write g.S.Hasher.Hasher.finish g.met.K.Eq.laws
    g.met.K.Hash.respects_eq b w.begun.book key st.2.0 log at c.args.table.now c.requires.limit r q key_is c.in-Ok.ensures.ok.placed).1

pub put_slot-found-requires-clause-can : goal.put_slot-found-requires-clause-can
put_slot-found-requires-clause-can g c =
    let w = c.args.window.now.book.now in let b = begun_of w.parts in let log = c.args.window.now.sight.log in let key = c.args.key in
    let at = c.args.at in let q = c.in-Ok.pair in
    let key_is : key_of q ≡ key = c.in-Ok.ensures.ok.key_is in
    let hash = (hash_of g.K.Hash.hash_input g.S.BuildHasher.build_hasher g.S.Hasher.Hasher.write g.S.Hasher.Hasher.finish) in
    let word : c.live.result.0 ≡ live_word q.index = c.live.ensures ∙ ap live_word c.index.ensures in
    let st = c.requires.stands in let led : Some (Writing (record { place = at; old = 0 })) ≡ Some st.0 = st.1 in
    let to : Writing (record { place = at; old = 0 }) ≡ st.0 = cc led in
    let r = subst (λ (z : State). IsInsertingAt g.K.PartialEq.eq hash b w.begun.book key st.2.0 log z None c.args.table.now) (sym to) st.2.1 in
    rw word (put_can g.K.PartialEq.eq g.K.Hash.hash_input g.S.BuildHasher.build_hasher g.S.Hasher.Hasher.write g.S.Hasher.Hasher.finish
    g.met.K.Eq.laws g.met.K.Hash.respects_eq b w.begun.book key st.2.0 log at c.args.table.now c.requires.limit r q key_is c.in-Ok.ensures.ok.placed
    (pair_of-live_word q.index))

pub write_hint-requires-clause-table : goal.write_hint-requires-clause-table
write_hint-requires-clause-table g c =
    let w = c.args.window.now.book.now in let b = begun_of w.parts in let log = c.args.window.now.sight.log in let key = c.args.key in
    let at = c.args.at in let q = c.in-Ok.pair in
    let key_is : key_of q ≡ key = c.in-Ok.ensures.ok.key_is in
    let hash = (hash_of g.K.Hash.hash_input g.S.BuildHasher.build_hasher g.S.Hasher.Hasher.write g.S.Hasher.Hasher.finish) in
    let st = c.requires.stands in let led : Some (Writing (record { place = at; old = 0 })) ≡ Some st.0 = st.1 in
    let to : Writing (record { place = at; old = 0 }) ≡ st.0 = cc led in
    let r = subst (λ (z : State). IsInsertingAt g.K.PartialEq.eq hash b w.begun.book key st.2.0 log z None c.args.table.now) (sym to) st.2.1 in
    let put = c.put_slot-found in
    table_since log put.new.self.sight.log at.table c.args.table.now put.ensures.sees.log
    (slot_there g.K.PartialEq.eq g.K.Hash.hash_input g.S.BuildHasher.build_hasher g.S.Hasher.Hasher.write g.S.Hasher.Hasher.finish g.met.K.Eq.laws
    g.met.K.Hash.respects_eq b w.begun.book key st.2.0 log at c.args.table.now c.requires.limit r q key_is c.in-Ok.ensures.ok.placed).0

pub write_hint-requires-clause-place : goal.write_hint-requires-clause-place
write_hint-requires-clause-place g c =
    let w = c.args.window.now.book.now in let b = begun_of w.parts in let log = c.args.window.now.sight.log in let key = c.args.key in
    let at = c.args.at in let q = c.in-Ok.pair in
    let key_is : key_of q ≡ key = c.in-Ok.ensures.ok.key_is in
    let hash = (hash_of g.K.Hash.hash_input g.S.BuildHasher.build_hasher g.S.Hasher.Hasher.write g.S.Hasher.Hasher.finish) in
    let st = c.requires.stands in let led : Some (Writing (record { place = at; old = 0 })) ≡ Some st.0 = st.1 in
    let to : Writing (record { place = at; old = 0 }) ≡ st.0 = cc led in
    let r = subst (λ (z : State). IsInsertingAt g.K.PartialEq.eq hash b w.begun.book key st.2.0 log z None c.args.table.now) (sym to) st.2.1 in
    (slot_there g.K.PartialEq.eq g.K.Hash.hash_input g.S.BuildHasher.build_hasher g.S.Hasher.Hasher.write g.S.Hasher.Hasher.finish g.met.K.Eq.laws
    g.met.K.Hash.respects_eq b w.begun.book key st.2.0 log at c.args.table.now c.requires.limit r q key_is c.in-Ok.ensures.ok.placed).1

pub write_hint-requires-clause-hint : goal.write_hint-requires-clause-hint
write_hint-requires-clause-hint g c =
    let w = c.args.window.now.book.now in let b = begun_of w.parts in let log = c.args.window.now.sight.log in let key = c.args.key in
    let at = c.args.at in let q = c.in-Ok.pair in
    let key_is : key_of q ≡ key = c.in-Ok.ensures.ok.key_is in
    let hash = (hash_of g.K.Hash.hash_input g.S.BuildHasher.build_hasher g.S.Hasher.Hasher.write g.S.Hasher.Hasher.finish) in
    let word : c.live.result.0 ≡ live_word q.index = c.live.ensures ∙ ap live_word c.index.ensures in
    let st = c.requires.stands in let led : Some (Writing (record { place = at; old = 0 })) ≡ Some st.0 = st.1 in
    let to : Writing (record { place = at; old = 0 }) ≡ st.0 = cc led in
    let r = subst (λ (z : State). IsInsertingAt g.K.PartialEq.eq hash b w.begun.book key st.2.0 log z None c.args.table.now) (sym to) st.2.1 in
    let put = c.put_slot-found in let mid = put.new.self.sight.log in
    let tried = subst (λ (z : ℕ). IsSlotTried g.K.PartialEq.eq hash b w.begun.book at.table at.probe.i (Some steps.Claim) 0 z (Some q) (names.Pair q)
    log put.result.0 mid put.result.1) word put.ensures.tried in
    let is : (put.result.0 == 0) ≡ true = search rules in
    rw (put.ensures.sees.book, c.hint.ensures, c.requires.hashed)
    (claim_hint g.K.PartialEq.eq g.K.Hash.hash_input g.S.BuildHasher.build_hasher g.S.Hasher.Hasher.write g.S.Hasher.Hasher.finish g.met.K.Eq.laws
    g.met.K.Hash.respects_eq b w.begun.book key st.2.0 log at c.args.table.now c.requires.limit r q key_is c.in-Ok.ensures.ok.placed mid put.result.0
    put.result.1 tried is)

pub returns-clause-put : goal.returns-clause-put
returns-clause-put g c = λ z e begun state led stands.
    let w = c.args.window.now.book.now in let b = begun_of w.parts in let log = c.args.window.now.sight.log in let key = c.args.key in
    let at = c.args.at in let q = c.in-Ok.pair in
    let key_is : key_of q ≡ key = c.in-Ok.ensures.ok.key_is in
    let hash = (hash_of g.K.Hash.hash_input g.S.BuildHasher.build_hasher g.S.Hasher.Hasher.write g.S.Hasher.Hasher.finish) in
    let word : c.live.result.0 ≡ live_word q.index = c.live.ensures ∙ ap live_word c.index.ensures in
    let to : Writing (record { place = at; old = 0 }) ≡ state = cc led in
    let r = subst (λ (z : State). IsInsertingAt g.K.PartialEq.eq hash b w.begun.book key begun log z None c.args.table.now) (sym to) stands in
    let put = c.put_slot-found in let mid = put.new.self.sight.log in
    let tried = subst (λ (z : ℕ). IsSlotTried g.K.PartialEq.eq hash b w.begun.book at.table at.probe.i (Some steps.Claim) 0 z (Some q) (names.Pair q)
    log put.result.0 mid put.result.1) word put.ensures.tried in
    let is : (put.result.0 == 0) ≡ true = search rules in
    let one : q ≡ z = cc e in (
      None,
      refl,
      subst (λ (o : Stored _ _). IsChangeOf (g.K.PartialEq.eq key) (history_of begun) (past put.new.self) None (Some o)) one
          (claim_traded g.K.PartialEq.eq g.K.Hash.hash_input g.S.BuildHasher.build_hasher g.S.Hasher.Hasher.write g.S.Hasher.Hasher.finish
          g.met.K.Eq.laws g.met.K.Hash.respects_eq b w.begun.book key begun log at c.args.table.now c.requires.limit r q key_is
          c.in-Ok.ensures.ok.placed mid put.result.0 put.result.1 tried is),
    )

pub returns-clause-tried : goal.returns-clause-tried
returns-clause-tried g c = record {
  sees = c.put_slot-found.ensures.sees;
  lawful = search rules;
  does =
      let put = c.put_slot-found in
      let is : (put.result.0 == 0) ≡ true = search rules in
      subst (λ (z : Bool). Does z c.args.window.now put.new.self) is put.ensures.does;
  made =
      let w = c.args.window.now.book.now in let b = begun_of w.parts in let log = c.args.window.now.sight.log in let key = c.args.key in
      let at = c.args.at in let q = c.in-Ok.pair in
      let key_is : key_of q ≡ key = c.in-Ok.ensures.ok.key_is in
      let hash = (hash_of g.K.Hash.hash_input g.S.BuildHasher.build_hasher g.S.Hasher.Hasher.write g.S.Hasher.Hasher.finish) in
      let word : c.live.result.0 ≡ live_word q.index = c.live.ensures ∙ ap live_word c.index.ensures in
      let st = c.requires.stands in let led : Some (Writing (record { place = at; old = 0 })) ≡ Some st.0 = st.1 in
      let to : Writing (record { place = at; old = 0 }) ≡ st.0 = cc led in
      let r = subst (λ (z : State). IsInsertingAt g.K.PartialEq.eq hash b w.begun.book key st.2.0 log z None c.args.table.now) (sym to) st.2.1 in
      let put = c.put_slot-found in let mid = put.new.self.sight.log in
      let tried = subst (λ (z : ℕ). IsSlotTried g.K.PartialEq.eq hash b w.begun.book at.table at.probe.i (Some steps.Claim) 0 z (Some q) (names.Pair q)
      log put.result.0 mid put.result.1) word put.ensures.tried in
      let is : (put.result.0 == 0) ≡ true = search rules in
      let does = subst (λ (z : Bool). Does z c.args.window.now put.new.self) is put.ensures.does in
      makes g.K.PartialEq.eq (Some key) st.2.0 put.result.1 (Some q)
      (counts g.K.PartialEq.eq g.K.Hash.hash_input g.S.BuildHasher.build_hasher g.S.Hasher.Hasher.write g.S.Hasher.Hasher.finish g.met.K.Eq.laws
      g.met.K.Hash.respects_eq b w.begun.book key st.2.0 log at c.args.table.now c.requires.limit r q key_is c.in-Ok.ensures.ok.placed mid put.result.0
      put.result.1 tried is) c.args.window.now put.new.self
      (ended g.K.PartialEq.eq g.K.Hash.hash_input g.S.BuildHasher.build_hasher g.S.Hasher.Hasher.write g.S.Hasher.Hasher.finish g.met.K.Eq.laws
      g.met.K.Hash.respects_eq b w.begun.book key st.2.0 log at c.args.table.now c.requires.limit r q key_is c.in-Ok.ensures.ok.placed mid put.result.0
      put.result.1 tried is).changed does;
  logged = λ pair e.
      let one : c.in-Ok.pair ≡ pair = cc e in
      let it : IsStoredAs c.put_slot-found.new.self c.args.key c.args.value c.in-Ok.pair =
      rw c.put_slot-found.ensures.sees.book c.in-Ok.ensures.ok in
      subst (λ (z : Stored _ _). IsStoredAs c.put_slot-found.new.self c.args.key c.args.value z) one it;
}

pub returns-then-found-ne0-clause-tried : goal.returns-then-found-ne0-clause-tried
returns-then-found-ne0-clause-tried g c = record {
  sees = c.put_slot-found.ensures.sees;
  lawful = search rules;
  does =
      let put = c.put_slot-found in
      let is : (put.result.0 == 0) ≡ false = search rules in
      subst (λ (z : Bool). Does z c.args.window.now put.new.self) is put.ensures.does;
  made =
      let put = c.put_slot-found in
      let is : (put.result.0 == 0) ≡ false = search rules in
      makes_none c.args.window.now put.new.self (subst (λ (z : Bool). Does z c.args.window.now put.new.self) is put.ensures.does);
  logged = λ pair e.
      let one : c.in-Ok.pair ≡ pair = cc e in
      let it : IsStoredAs c.put_slot-found.new.self c.args.key c.args.value c.in-Ok.pair =
      rw c.put_slot-found.ensures.sees.book c.in-Ok.ensures.ok in
      subst (λ (z : Stored _ _). IsStoredAs c.put_slot-found.new.self c.args.key c.args.value z) one it;
}

pub returns-in-Err-clause-tried : goal.returns-in-Err-clause-tried
returns-in-Err-clause-tried g c = let w = c.args.window.now in record {
  sees = record { book = refl; log = ([], append-nil _) };
  lawful = c.requires.stands.2.1.4.lawful;
  does = idles w w refl;
  made = makes_none w w (idles w w refl);
  logged = λ pair e. absurd (cc e);
}
