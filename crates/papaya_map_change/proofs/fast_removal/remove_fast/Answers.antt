use Rattle.std.proofs.Common.{◌≡◌, ◌==◌, Bool, true, false, Some, None, [], append-nil, refl, sym, ◌∙◌, rules, subst}
use Rattle.papaya_words.specs.Word.{kind_of}
use Rattle.papaya_words.specs.declared.word.Kind.TheVariants.{Live}
use Rattle.papaya_map_book.specs.Parts.{begun_of}
use Rattle.papaya_map_book.specs.Windows.{Does}
use Rattle.papaya_map_lookup.specs.Answers.{IsHitAnsweredBetween}
use Rattle.papaya_map_lookup.specs.Drivers.{past}
use Rattle.papaya_map_lookup.specs.History.{history_of}
use Rattle.papaya_map_lookup.proofs.Histories.{history_since}
use Rattle.papaya_map_lookup.proofs.Readings.{IsQuery}
use Rattle.papaya_map_change.specs.ClosureCalls.{Judges}
use Rattle.papaya_map_change.proofs.Doing.{makes}
use Rattle.papaya_map_change.proofs.RemovingHits.{ended, hit_can, hit_changed, hit_held, hit_was, hit_went, one_shown, stays}
use Rattle.papaya_map_change.proofs.RemovingReplies.{removal_since}
use Rattle.papaya_map_change.proofs.ClosureCalls.{held_wider}
use Rattle.papaya_map_book.proofs.Windows.{observed, sees_trans}
use Rattle.papaya_map_change.proofs.fast_removal.remove_fast.Goals as goal

pub returns-then-not-agrees-clause-removed : goal.returns-then-not-agrees-clause-removed
returns-then-not-agrees-clause-removed g c =
    let lawful : IsQuery g.K.PartialEq.eq g.K.Hash.hash_input (g.Q.Equivalent.matches c.args.key.now)
    (g.Q.Hash.hash_input c.args.key.now) = record {
      feeds = g.met.Q.Equivalent.hashes_as_key c.args.key.now;
      class = λ k l.
          g.met.Q.Equivalent.matches_equal_keys c.args.key.now k l;
    } in
    let w = c.find-hit.new.window.book.now in let b = begun_of w.parts in let log = c.find-hit.new.window.sight.log in let hit = c.in-Some.hit in let met = hit.met in
    let h = c.find-hit.ensures.hits hit c.in-Some.is in
    let live : kind_of met.word ≡ Live = search rules in
    let said : c.agrees.result ≡ false = search rules in
    let judged : Judges g.F.FnMut c.args.agrees.now met.stored false
    c.agrees.new.self = subst (λ (z : Bool). Judges g.F.FnMut c.args.agrees.now met.stored z c.agrees.new.self) said
    (hit.key, hit.value, (h.2.1, h.2.2), c.agrees.ensures) in
    removal_since g.K.PartialEq.eq (g.Q.Equivalent.matches c.args.key.now) _ _ _ (history_since c.args.window.now.sight.log h.0 h.1)
    (Judges g.F.FnMut) c.args.agrees.now _ (stays g.K.PartialEq.eq g.K.Hash.hash_input g.S.BuildHasher.build_hasher g.S.Hasher.Hasher.write
    g.S.Hasher.Hasher.finish g.met.K.Eq.laws g.met.K.Hash.respects_eq b w.begun.book (g.Q.Equivalent.matches c.args.key.now)
    (g.Q.Hash.hash_input c.args.key.now) lawful (Judges g.F.FnMut) c.args.agrees.now h.0 log h.2.0 w.chunked c.fits.ensures hit.table met h.2.3 live
    c.agrees.new.self judged (hit.key, hit.value) (h.2.1, h.2.2))

pub bury_met-requires-clause-place : goal.bury_met-requires-clause-place
bury_met-requires-clause-place g c =
    let lawful : IsQuery g.K.PartialEq.eq g.K.Hash.hash_input (g.Q.Equivalent.matches c.args.key.now)
    (g.Q.Hash.hash_input c.args.key.now) = record {
      feeds = g.met.Q.Equivalent.hashes_as_key c.args.key.now;
      class = λ k l.
          g.met.Q.Equivalent.matches_equal_keys c.args.key.now k l;
    } in
    let w = c.find-hit.new.window.book.now in let b = begun_of w.parts in let log = c.find-hit.new.window.sight.log in let hit = c.in-Some.hit in let met = hit.met in
    let h = c.find-hit.ensures.hits hit c.in-Some.is in
    let live : kind_of met.word ≡ Live = search rules in
    let said : c.agrees.result ≡ true = search rules in
    let judged : Judges g.F.FnMut c.args.agrees.now met.stored true
    c.agrees.new.self = subst (λ (z : Bool). Judges g.F.FnMut c.args.agrees.now met.stored z c.agrees.new.self) said
    (hit.key, hit.value, (h.2.1, h.2.2), c.agrees.ensures) in
    (hit_held g.K.PartialEq.eq g.K.Hash.hash_input g.S.BuildHasher.build_hasher g.S.Hasher.Hasher.write g.S.Hasher.Hasher.finish g.met.K.Eq.laws
    g.met.K.Hash.respects_eq b w.begun.book (g.Q.Equivalent.matches c.args.key.now) (g.Q.Hash.hash_input c.args.key.now) lawful (Judges g.F.FnMut)
    c.args.agrees.now h.0 log h.2.0 w.chunked c.fits.ensures hit.table met h.2.3 live c.agrees.new.self judged).1

pub bury_met-requires-clause-can : goal.bury_met-requires-clause-can
bury_met-requires-clause-can g c =
    let lawful : IsQuery g.K.PartialEq.eq g.K.Hash.hash_input (g.Q.Equivalent.matches c.args.key.now)
    (g.Q.Hash.hash_input c.args.key.now) = record {
      feeds = g.met.Q.Equivalent.hashes_as_key c.args.key.now;
      class = λ k l.
          g.met.Q.Equivalent.matches_equal_keys c.args.key.now k l;
    } in
    let w = c.find-hit.new.window.book.now in let b = begun_of w.parts in let log = c.find-hit.new.window.sight.log in let hit = c.in-Some.hit in let met = hit.met in
    let h = c.find-hit.ensures.hits hit c.in-Some.is in
    let live : kind_of met.word ≡ Live = search rules in
    let said : c.agrees.result ≡ true = search rules in
    let judged : Judges g.F.FnMut c.args.agrees.now met.stored true
    c.agrees.new.self = subst (λ (z : Bool). Judges g.F.FnMut c.args.agrees.now met.stored z c.agrees.new.self) said
    (hit.key, hit.value, (h.2.1, h.2.2), c.agrees.ensures) in
    (hit_can g.K.PartialEq.eq g.K.Hash.hash_input g.S.BuildHasher.build_hasher g.S.Hasher.Hasher.write g.S.Hasher.Hasher.finish
    g.met.K.Eq.laws g.met.K.Hash.respects_eq b w.begun.book (g.Q.Equivalent.matches c.args.key.now) (g.Q.Hash.hash_input c.args.key.now) lawful
    (Judges g.F.FnMut) c.args.agrees.now h.0 log h.2.0 w.chunked c.fits.ensures hit.table met h.2.3 live c.agrees.new.self judged)

pub returns-then-not-bury_met-clause-removed : goal.returns-then-not-bury_met-clause-removed
returns-then-not-bury_met-clause-removed g c =
    let lawful : IsQuery g.K.PartialEq.eq g.K.Hash.hash_input (g.Q.Equivalent.matches c.args.key.now)
    (g.Q.Hash.hash_input c.args.key.now) = record {
      feeds = g.met.Q.Equivalent.hashes_as_key c.args.key.now;
      class = λ k l.
          g.met.Q.Equivalent.matches_equal_keys c.args.key.now k l;
    } in
    let w = c.find-hit.new.window.book.now in let b = begun_of w.parts in let log = c.find-hit.new.window.sight.log in let hit = c.in-Some.hit in let met = hit.met in
    let h = c.find-hit.ensures.hits hit c.in-Some.is in
    let live : kind_of met.word ≡ Live = search rules in
    let said : c.agrees.result ≡ true = search rules in
    let judged : Judges g.F.FnMut c.args.agrees.now met.stored true
    c.agrees.new.self = subst (λ (z : Bool). Judges g.F.FnMut c.args.agrees.now met.stored z c.agrees.new.self) said
    (hit.key, hit.value, (h.2.1, h.2.2), c.agrees.ensures) in
    let log' = c.bury_met.new.window.sight.log in
    let was = held_wider g.K.PartialEq.eq (g.Q.Equivalent.matches c.args.key.now) (history_of h.0) (history_of h.0) (history_of log) (history_of log')
    ([], append-nil (history_of h.0)) (history_since log log' c.bury_met.ensures.sees.log) (Some met.stored)
    (hit_was g.K.PartialEq.eq g.K.Hash.hash_input g.S.BuildHasher.build_hasher g.S.Hasher.Hasher.write g.S.Hasher.Hasher.finish g.met.K.Eq.laws
    g.met.K.Hash.respects_eq b w.begun.book (g.Q.Equivalent.matches c.args.key.now) (g.Q.Hash.hash_input c.args.key.now) lawful (Judges g.F.FnMut)
    c.args.agrees.now h.0 log h.2.0 w.chunked c.fits.ensures hit.table met h.2.3 live c.agrees.new.self judged) in
    one_shown g.K.PartialEq.eq (g.Q.Equivalent.matches c.args.key.now) _ _ _ (Judges g.F.FnMut) c.args.agrees.now c.agrees.new.self met.stored true
    judged was (history_since c.args.window.now.sight.log h.0 h.1)

pub returns-clause-removed : goal.returns-clause-removed
returns-clause-removed g c =
    let lawful : IsQuery g.K.PartialEq.eq g.K.Hash.hash_input (g.Q.Equivalent.matches c.args.key.now)
    (g.Q.Hash.hash_input c.args.key.now) = record {
      feeds = g.met.Q.Equivalent.hashes_as_key c.args.key.now;
      class = λ k l.
          g.met.Q.Equivalent.matches_equal_keys c.args.key.now k l;
    } in
    let w = c.find-hit.new.window.book.now in let b = begun_of w.parts in let log = c.find-hit.new.window.sight.log in let hit = c.in-Some.hit in let met = hit.met in
    let h = c.find-hit.ensures.hits hit c.in-Some.is in
    let live : kind_of met.word ≡ Live = search rules in
    let said : c.agrees.result ≡ true = search rules in
    let judged : Judges g.F.FnMut c.args.agrees.now met.stored true
    c.agrees.new.self = subst (λ (z : Bool). Judges g.F.FnMut c.args.agrees.now met.stored z c.agrees.new.self) said
    (hit.key, hit.value, (h.2.1, h.2.2), c.agrees.ensures) in
    let put = c.bury_met in let t = put.ensures.tried in
    let went : put.result ≡ true = search rules in
    let is : (t.found == met.word) ≡ true = sym t.went_is ∙ went in
    let same = t.same went in
    removal_since g.K.PartialEq.eq (g.Q.Equivalent.matches c.args.key.now) _ _ _ (history_since c.args.window.now.sight.log h.0 h.1)
    (Judges g.F.FnMut) c.args.agrees.now _ (hit_went g.K.PartialEq.eq g.K.Hash.hash_input g.S.BuildHasher.build_hasher g.S.Hasher.Hasher.write
    g.S.Hasher.Hasher.finish g.met.K.Eq.laws g.met.K.Hash.respects_eq b w.begun.book (g.Q.Equivalent.matches c.args.key.now)
    (g.Q.Hash.hash_input c.args.key.now) lawful (Judges g.F.FnMut) c.args.agrees.now h.0 log h.2.0 w.chunked c.fits.ensures hit.table met h.2.3 live
    c.agrees.new.self judged put.new.window.sight.log put.ensures.sees.log t.found t.before t.tried is same.0 same.1 same.2.1
    (hit.key, hit.value) (h.2.1, h.2.2))

pub returns-in_default-clause-removed : goal.returns-in_default-clause-removed
returns-in_default-clause-removed g c =
    let none_found : c.find-hit.result.hit ≡ None = search rules in
    let none = subst (IsHitAnsweredBetween g.K.PartialEq.eq (g.Q.Equivalent.matches c.args.key.now) (past c.args.window.now) (past c.find-hit.new.window))
    none_found c.find-hit.ensures.answered in
    record {
      said = [];
      left = c.args.agrees.now;
      has_said = refl;
      held = tt;
      answered = record { seen = none.seen; since = none.since; until = none.until; is = none.is };
    }

pub returns-clause-ends : goal.returns-clause-ends
returns-clause-ends g c = record {
  sees = sees_trans _ _ _ (observed c.find-hit.ensures.sees) c.bury_met.ensures.sees;
  lawful = search rules;
  made =
      let lawful : IsQuery g.K.PartialEq.eq g.K.Hash.hash_input (g.Q.Equivalent.matches c.args.key.now)
      (g.Q.Hash.hash_input c.args.key.now) = record {
        feeds = g.met.Q.Equivalent.hashes_as_key c.args.key.now;
        class = λ k l.
            g.met.Q.Equivalent.matches_equal_keys c.args.key.now k l;
      } in
      let w = c.find-hit.new.window.book.now in let b = begun_of w.parts in let log = c.find-hit.new.window.sight.log in let hit = c.in-Some.hit in let met = hit.met in
      let h = c.find-hit.ensures.hits hit c.in-Some.is in
      let live : kind_of met.word ≡ Live = search rules in
      let said : c.agrees.result ≡ true = search rules in
      let judged : Judges g.F.FnMut c.args.agrees.now met.stored true
      c.agrees.new.self = subst (λ (z : Bool). Judges g.F.FnMut c.args.agrees.now met.stored z c.agrees.new.self) said
      (hit.key, hit.value, (h.2.1, h.2.2), c.agrees.ensures) in
      let put = c.bury_met in let t = put.ensures.tried in
      let went : put.result ≡ true = search rules in
      let is : (t.found == met.word) ≡ true = sym t.went_is ∙ went in
      let does = subst (λ (z : Bool). Does z c.find-hit.new.window put.new.window) went put.ensures.does in
      rw (sym c.find-hit.ensures.sees.own) (makes g.K.PartialEq.eq None h.0 t.before None
      (ended g.K.PartialEq.eq g.K.Hash.hash_input g.S.BuildHasher.build_hasher g.S.Hasher.Hasher.write g.S.Hasher.Hasher.finish g.met.K.Eq.laws
      g.met.K.Hash.respects_eq b w.begun.book (g.Q.Equivalent.matches c.args.key.now) (g.Q.Hash.hash_input c.args.key.now) lawful (Judges g.F.FnMut)
      c.args.agrees.now h.0 log h.2.0 w.chunked c.fits.ensures hit.table met h.2.3 live c.agrees.new.self judged put.new.window.sight.log
      put.ensures.sees.log t.found t.before t.tried is).call.machine c.find-hit.new.window put.new.window
      (hit_changed g.K.PartialEq.eq g.K.Hash.hash_input g.S.BuildHasher.build_hasher g.S.Hasher.Hasher.write g.S.Hasher.Hasher.finish g.met.K.Eq.laws
      g.met.K.Hash.respects_eq b w.begun.book (g.Q.Equivalent.matches c.args.key.now) (g.Q.Hash.hash_input c.args.key.now) lawful (Judges g.F.FnMut)
      c.args.agrees.now h.0 log h.2.0 w.chunked c.fits.ensures hit.table met h.2.3 live c.agrees.new.self judged put.new.window.sight.log
      put.ensures.sees.log t.found t.before t.tried is) does);
}
