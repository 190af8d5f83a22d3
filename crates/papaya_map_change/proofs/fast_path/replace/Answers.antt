use Rattle.std.proofs.Common.{◌≡◌, ℕ, ◌==◌, Bool, true, false, Option, Some, refl, sym, ap, ◌∙◌, rules, subst, [], append-nil}
use Rattle.papaya_words.specs.Word.{live_word}
use Rattle.papaya_call.specs.declared.ask.StepKind.TheVariants as steps
use Rattle.papaya_call.specs.declared.machine.State.{State}
use Rattle.papaya_call.specs.declared.machine.State.TheVariants.{Writing}
use Rattle.papaya_map_book.specs.declared.rule.entry.Named.TheVariants as names
use Rattle.papaya_map_book.specs.Calls.{IsSlotTried}
use Rattle.papaya_map_book.specs.Hashes.{hash_of}
use Rattle.papaya_map_book.specs.Parts.{begun_of}
use Rattle.papaya_map_book.specs.Logs.{Stored, pair_named}
use Rattle.papaya_map_book.specs.Rule.{IsPlaced}
use Rattle.papaya_map_book.specs.Windows.{Does, IsStoredAs}
use Rattle.papaya_call_law.proofs.NewWords.{pair_of-live_word}
use Rattle.papaya_map_lookup.specs.Drivers.{past}
use Rattle.papaya_map_lookup.specs.History.{history_of, key_of}
use Rattle.papaya_map_change.specs.Changes.{IsChangeOf}
use Rattle.papaya_map_change.specs.Seeking.{IsInsertingAt}
use Rattle.papaya_map_change.specs.Window.Seeking.{IsStateAfter}
use Rattle.papaya_map_change.specs.declared.fast_path.ProbeHit.TheVariants.{Met as MetPair}
use Rattle.papaya_map_lookup.specs.declared.lookup.Met.{Met}
use Rattle.papaya_map_change.proofs.Doing.{idles, makes}
use Rattle.papaya_map_change.proofs.Logged.{makes_none}
use Rattle.papaya_map_change.proofs.Replacing.{ended, ends, live_full, met_placed, put_can, replace_traded, slot_there, taken_number, taken_there}
use Rattle.papaya_map_change.proofs.fast_path.replace.Goals as goal

pub put_slot-found-requires-clause-place : goal.put_slot-found-requires-clause-place
put_slot-found-requires-clause-place g c =
    let w = c.args.window.now.book.now in let b = begun_of w.parts in let log = c.args.window.now.sight.log in let key = c.requires.stands.0 in
    let met = c.live.inside.met in let p = met.stored in let q = c.in-Ok.pair in
    let key_is : key_of q ≡ key_of p = c.in-Ok.ensures.ok.key_is in
    let hash = (hash_of g.K.Hash.hash_input g.S.BuildHasher.build_hasher g.S.Hasher.Hasher.write g.S.Hasher.Hasher.finish) in
    let full = live_full met.word c.live.invariant.0 in
    let st = subst (λ (z : Met _ _). IsStateAfter c.args.window.now key c.args.table.now (MetPair z)) (sym c.live.view_is) c.requires.stands.1 in let led : Some (Writing (record { place = met.place; old = met.word })) ≡ Some st.0 = st.1 in
    let to : Writing (record { place = met.place; old = met.word }) ≡ st.0 = cc led in
    let r = subst (λ (z : State). IsInsertingAt g.K.PartialEq.eq hash b w.begun.book key st.2.0 log z (Some p) c.args.table.now) (sym to) st.2.1 in
    (slot_there g.K.PartialEq.eq g.K.Hash.hash_input g.S.BuildHasher.build_hasher g.S.Hasher.Hasher.write g.S.Hasher.Hasher.finish g.met.K.Eq.laws
    g.met.K.Hash.respects_eq b w.begun.book key st.2.0 log met.place met.word full p c.args.table.now r c.requires.limit q key_is c.in-Ok.ensures.ok.placed).1

pub put_slot-found-requires-clause-can : goal.put_slot-found-requires-clause-can
put_slot-found-requires-clause-can g c =
    let w = c.args.window.now.book.now in let b = begun_of w.parts in let log = c.args.window.now.sight.log in let key = c.requires.stands.0 in
    let met = c.live.inside.met in let p = met.stored in let q = c.in-Ok.pair in
    let key_is : key_of q ≡ key_of p = c.in-Ok.ensures.ok.key_is in
    let hash = (hash_of g.K.Hash.hash_input g.S.BuildHasher.build_hasher g.S.Hasher.Hasher.write g.S.Hasher.Hasher.finish) in
    let full = live_full met.word c.live.invariant.0 in
    let word : c.live-2.result.0 ≡ live_word q.index = c.live-2.ensures ∙ ap live_word c.index.ensures in
    let st = subst (λ (z : Met _ _). IsStateAfter c.args.window.now key c.args.table.now (MetPair z)) (sym c.live.view_is) c.requires.stands.1 in let led : Some (Writing (record { place = met.place; old = met.word })) ≡ Some st.0 = st.1 in
    let to : Writing (record { place = met.place; old = met.word }) ≡ st.0 = cc led in
    let r = subst (λ (z : State). IsInsertingAt g.K.PartialEq.eq hash b w.begun.book key st.2.0 log z (Some p) c.args.table.now) (sym to) st.2.1 in
    rw word (put_can g.K.PartialEq.eq g.K.Hash.hash_input g.S.BuildHasher.build_hasher g.S.Hasher.Hasher.write g.S.Hasher.Hasher.finish
    g.met.K.Eq.laws g.met.K.Hash.respects_eq b w.begun.book key st.2.0 log met.place met.word full p c.args.table.now r c.requires.limit q key_is
    c.in-Ok.ensures.ok.placed (pair_of-live_word q.index))

pub agrees-requires : goal.agrees-requires
agrees-requires g c =
    let w = c.args.window.now.book.now in let b = begun_of w.parts in let log = c.args.window.now.sight.log in let key = c.requires.stands.0 in
    let met = c.live.inside.met in let p = met.stored in let q = c.in-Ok.pair in
    let key_is : key_of q ≡ key_of p = c.in-Ok.ensures.ok.key_is in
    let hash = (hash_of g.K.Hash.hash_input g.S.BuildHasher.build_hasher g.S.Hasher.Hasher.write g.S.Hasher.Hasher.finish) in
    let full = live_full met.word c.live.invariant.0 in
    let word : c.live-2.result.0 ≡ live_word q.index = c.live-2.ensures ∙ ap live_word c.index.ensures in
    let st = subst (λ (z : Met _ _). IsStateAfter c.args.window.now key c.args.table.now (MetPair z)) (sym c.live.view_is) c.requires.stands.1 in let led : Some (Writing (record { place = met.place; old = met.word })) ≡ Some st.0 = st.1 in
    let to : Writing (record { place = met.place; old = met.word }) ≡ st.0 = cc led in
    let r = subst (λ (z : State). IsInsertingAt g.K.PartialEq.eq hash b w.begun.book key st.2.0 log z (Some p) c.args.table.now) (sym to) st.2.1 in
    let put = c.put_slot-found in let mid = put.new.self.sight.log in
    let tried = subst (λ (z : ℕ). IsSlotTried g.K.PartialEq.eq hash b w.begun.book met.place.table met.place.probe.i (Some steps.Replace) met.word z
    (Some q) (names.Pair q) log put.result.0 mid put.result.1) word put.ensures.tried in
    let is : (put.result.0 == met.word) ≡ true = search rules in
    let there = taken_there g.K.PartialEq.eq g.K.Hash.hash_input g.S.BuildHasher.build_hasher g.S.Hasher.Hasher.write g.S.Hasher.Hasher.finish
    g.met.K.Eq.laws g.met.K.Hash.respects_eq b w.begun.book key st.2.0 log met.place met.word full p c.args.table.now r c.requires.limit q key_is
    c.in-Ok.ensures.ok.placed mid put.result.0 put.result.1 tried is in (
      (met_placed g.K.PartialEq.eq g.K.Hash.hash_input g.S.BuildHasher.build_hasher g.S.Hasher.Hasher.write g.S.Hasher.Hasher.finish g.met.K.Eq.laws
          g.met.K.Hash.respects_eq b w.begun.book key st.2.0 log met.place met.word full p c.args.table.now r).0,
      (subst (λ (o : Option (Stored _ _)). IsPlaced b (Some w.begun.book) (pair_named o)) c.in-Some.is there).0,
      taken_number g.K.PartialEq.eq g.K.Hash.hash_input g.S.BuildHasher.build_hasher g.S.Hasher.Hasher.write g.S.Hasher.Hasher.finish g.met.K.Eq.laws
          g.met.K.Hash.respects_eq b w.begun.book key st.2.0 log met.place met.word full p c.args.table.now r c.requires.limit q key_is
          c.in-Ok.ensures.ok.placed mid put.result.0 put.result.1 tried is c.in-Some.taken c.in-Some.is,
    )

pub returns-clause-put : goal.returns-clause-put
returns-clause-put g c = rw (sym c.live.view_is) (λ z e key begun state led stands.
    let w = c.args.window.now.book.now in let b = begun_of w.parts in let log = c.args.window.now.sight.log in let met = c.live.inside.met in
    let p = met.stored in let q = c.in-Ok.pair in
    let key_is : key_of q ≡ key_of p = c.in-Ok.ensures.ok.key_is in
    let hash = (hash_of g.K.Hash.hash_input g.S.BuildHasher.build_hasher g.S.Hasher.Hasher.write g.S.Hasher.Hasher.finish) in
    let full = live_full met.word c.live.invariant.0 in
    let word : c.live-2.result.0 ≡ live_word q.index = c.live-2.ensures ∙ ap live_word c.index.ensures in
    let to : Writing (record { place = met.place; old = met.word }) ≡ state = cc led in
    let r = subst (λ (z : State). IsInsertingAt g.K.PartialEq.eq hash b w.begun.book key begun log z (Some p) c.args.table.now) (sym to) stands in
    let put = c.put_slot-found in let mid = put.new.self.sight.log in
    let tried = subst (λ (z : ℕ). IsSlotTried g.K.PartialEq.eq hash b w.begun.book met.place.table met.place.probe.i (Some steps.Replace) met.word z
    (Some q) (names.Pair q) log put.result.0 mid put.result.1) word put.ensures.tried in
    let is : (put.result.0 == met.word) ≡ true = search rules in
    let one : q ≡ z = cc e in
    let number = taken_number g.K.PartialEq.eq g.K.Hash.hash_input g.S.BuildHasher.build_hasher g.S.Hasher.Hasher.write g.S.Hasher.Hasher.finish
    g.met.K.Eq.laws g.met.K.Hash.respects_eq b w.begun.book key begun log met.place met.word full p c.args.table.now r c.requires.limit q key_is
    c.in-Ok.ensures.ok.placed mid put.result.0 put.result.1 tried is c.in-Some.taken c.in-Some.is in (
      Some c.in-Some.taken,
      (p, refl, (number, c.agrees.ensures)),
      subst (λ (o : Stored _ _). IsChangeOf (g.K.PartialEq.eq key) (history_of begun) (past put.new.self) (Some c.in-Some.taken) (Some o)) one
          (replace_traded g.K.PartialEq.eq g.K.Hash.hash_input g.S.BuildHasher.build_hasher g.S.Hasher.Hasher.write g.S.Hasher.Hasher.finish
          g.met.K.Eq.laws g.met.K.Hash.respects_eq b w.begun.book key begun log met.place met.word full p c.args.table.now r c.requires.limit q
          key_is c.in-Ok.ensures.ok.placed mid put.result.0 put.result.1 tried is c.in-Some.taken c.in-Some.is),
    ))

pub returns-clause-tried : goal.returns-clause-tried
returns-clause-tried g c = rw (sym c.live.view_is) (record {
  sees = c.put_slot-found.ensures.sees;
  lawful = search rules;
  does =
      let put = c.put_slot-found in
      let is : (put.result.0 == c.live.inside.met.word) ≡ true = search rules in
      subst (λ (z : Bool). Does z c.args.window.now put.new.self) is put.ensures.does;
  made =
      let w = c.args.window.now.book.now in let b = begun_of w.parts in let log = c.args.window.now.sight.log in let key = c.requires.stands.0 in
      let met = c.live.inside.met in let p = met.stored in let q = c.in-Ok.pair in
      let key_is : key_of q ≡ key_of p = c.in-Ok.ensures.ok.key_is in
      let hash = (hash_of g.K.Hash.hash_input g.S.BuildHasher.build_hasher g.S.Hasher.Hasher.write g.S.Hasher.Hasher.finish) in
      let full = live_full met.word c.live.invariant.0 in
      let word : c.live-2.result.0 ≡ live_word q.index = c.live-2.ensures ∙ ap live_word c.index.ensures in
      let st = subst (λ (z : Met _ _). IsStateAfter c.args.window.now key c.args.table.now (MetPair z)) (sym c.live.view_is) c.requires.stands.1 in let led : Some (Writing (record { place = met.place; old = met.word })) ≡ Some st.0 = st.1 in
      let to : Writing (record { place = met.place; old = met.word }) ≡ st.0 = cc led in
      let r = subst (λ (z : State). IsInsertingAt g.K.PartialEq.eq hash b w.begun.book key st.2.0 log z (Some p) c.args.table.now) (sym to) st.2.1 in
      let put = c.put_slot-found in let mid = put.new.self.sight.log in
      let tried = subst (λ (z : ℕ). IsSlotTried g.K.PartialEq.eq hash b w.begun.book met.place.table met.place.probe.i (Some steps.Replace) met.word z
      (Some q) (names.Pair q) log put.result.0 mid put.result.1) word put.ensures.tried in
      let is : (put.result.0 == met.word) ≡ true = search rules in
      let does = subst (λ (z : Bool). Does z c.args.window.now put.new.self) is put.ensures.does in
      makes g.K.PartialEq.eq (Some key) st.2.0 put.result.1 (Some q)
      (ends g.K.PartialEq.eq g.K.Hash.hash_input g.S.BuildHasher.build_hasher g.S.Hasher.Hasher.write g.S.Hasher.Hasher.finish g.met.K.Eq.laws
      g.met.K.Hash.respects_eq b w.begun.book key st.2.0 log met.place met.word full p c.args.table.now r c.requires.limit q key_is
      c.in-Ok.ensures.ok.placed mid put.result.0 put.result.1 tried is) c.args.window.now put.new.self
      (ended g.K.PartialEq.eq g.K.Hash.hash_input g.S.BuildHasher.build_hasher g.S.Hasher.Hasher.write g.S.Hasher.Hasher.finish g.met.K.Eq.laws
      g.met.K.Hash.respects_eq b w.begun.book key st.2.0 log met.place met.word full p c.args.table.now r c.requires.limit q key_is
      c.in-Ok.ensures.ok.placed mid put.result.0 put.result.1 tried is).changed does;
  logged = λ pair e.
      let one : c.in-Ok.pair ≡ pair = cc e in
      let it : IsStoredAs c.put_slot-found.new.self (key_of c.live.inside.met.stored) c.args.value c.in-Ok.pair =
      rw c.put_slot-found.ensures.sees.book c.in-Ok.ensures.ok in
      subst (λ (z : Stored _ _). IsStoredAs c.put_slot-found.new.self (key_of c.live.inside.met.stored) c.args.value z) one it;
})

pub returns-then-found-word-clause-tried : goal.returns-then-found-word-clause-tried
returns-then-found-word-clause-tried g c = rw (sym c.live.view_is) (record {
  sees = c.put_slot-found.ensures.sees;
  lawful = search rules;
  does =
      let put = c.put_slot-found in
      let is : (put.result.0 == c.live.inside.met.word) ≡ false = search rules in
      subst (λ (z : Bool). Does z c.args.window.now put.new.self) is put.ensures.does;
  made =
      let put = c.put_slot-found in
      let is : (put.result.0 == c.live.inside.met.word) ≡ false = search rules in
      makes_none c.args.window.now put.new.self (subst (λ (z : Bool). Does z c.args.window.now put.new.self) is put.ensures.does);
  logged = λ pair e.
      let one : c.in-Ok.pair ≡ pair = cc e in
      let it : IsStoredAs c.put_slot-found.new.self (key_of c.live.inside.met.stored) c.args.value c.in-Ok.pair =
      rw c.put_slot-found.ensures.sees.book c.in-Ok.ensures.ok in
      subst (λ (z : Stored _ _). IsStoredAs c.put_slot-found.new.self (key_of c.live.inside.met.stored) c.args.value z) one it;
})

pub returns-in-Err-clause-tried : goal.returns-in-Err-clause-tried
returns-in-Err-clause-tried g c = let w = c.args.window.now in record {
  sees = record { book = refl; log = ([], append-nil _) };
  lawful = c.requires.stands.1.2.1.4.lawful;
  does = idles w w refl;
  made = makes_none w w (idles w w refl);
  logged = λ pair e. absurd (cc e);
}
