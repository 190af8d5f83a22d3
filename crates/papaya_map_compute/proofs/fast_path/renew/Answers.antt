use Rattle.std.proofs.Common.{◌≡◌, Bool, true, false, Option, Some, [], ◌∷◌, append-nil, inl, refl, sym, ap, ◌∙◌, rules, subst}
use Rattle.std.specs.Prelude.{IfSome}
use Rattle.papaya_words.specs.declared.refused.Refused.TheVariants.{Memory}
use Rattle.papaya_call.specs.declared.answers.Operation.{Operation}
use Rattle.papaya_call.specs.declared.answers.Operation.TheVariants as operation
use Rattle.papaya_call.specs.declared.machine.State.TheVariants.{Showing, Writing}
use Rattle.papaya_map_book.specs.declared.rule.entry.Named.TheVariants as names
use Rattle.papaya_map_book.specs.Books.{IsIn, IsStoredAs}
use Rattle.papaya_map_book.specs.Logs.{Stored}
use Rattle.papaya_map_book.specs.Parts.{begun_of}
use Rattle.papaya_map_book.specs.Windows.{Does}
use Rattle.papaya_map_book.proofs.Logs.{prefix_trans}
use Rattle.papaya_map_lookup.specs.Drivers.{own, past}
use Rattle.papaya_map_lookup.specs.History.{Makes, history_of, key_of}
use Rattle.papaya_map_lookup.proofs.Histories.{history_since}
use Rattle.papaya_map_lookup.proofs.KeptKeys.{key_at_stays}
use Rattle.papaya_map_change.specs.declared.fast_path.Tried.{Tried}
use Rattle.papaya_map_change.specs.Changes.{IsChangeOf}
use Rattle.papaya_map_change.specs.Seeking.{Computes, Inserts}
use Rattle.papaya_map_change.specs.Tries.{TakesOut, is_put, pair_in}
use Rattle.papaya_map_change.specs.Writing.{HasKeyAt}
use Rattle.papaya_map_change.proofs.Replacing.{live_full, met_key_there, met_same}
use Rattle.papaya_map_change.proofs.ClosureCalls.{held_wider}
use Rattle.papaya_map_change.proofs.Trading.{met_some}
use Rattle.papaya_map_lookup.specs.declared.lookup.Met.{Met}
use Rattle.papaya_map_compute.specs.FastPath.{CanStartSince}
use Rattle.papaya_map_compute.specs.declared.fast_path.Start.TheVariants.{Removing, Replaced}
use Rattle.papaya_map_compute.proofs.FastPath.{aborts, refuses, removed, updates}
use Rattle.papaya_map_compute.proofs.Found.{pair_found, pair_live, pair_placed}
use Rattle.papaya_map_compute.proofs.fast_path.renew.Goals as goal

pub replace-requires-clause-stands : goal.replace-requires-clause-stands
replace-requires-clause-stands g c =
    let w = c.args.window.now in let log = w.sight.log in let key = c.args.key in let b = begun_of w.book.now.parts in
    let name = w.book.now.begun.book in let met = c.args.live in let p = met.stored in
    let write = Writing (record { place = met.place; old = met.word }) in let call_closure = Showing (record { place = met.place; word = met.word }) in
    let table = c.args.table.now in
    let led = c.requires.led in (key, (write, refl, (led.0, led.1.found Inserts write refl)))

pub replace-requires-clause-limit : goal.replace-requires-clause-limit
replace-requires-clause-limit g c = c.requires.led.1.limit

pub value_of-requires : goal.value_of-requires
value_of-requires g c =
    let w = c.args.window.now in let log = w.sight.log in let key = c.args.key in let b = begun_of w.book.now.parts in
    let name = w.book.now.begun.book in let met = c.args.live in let p = met.stored in
    let write = Writing (record { place = met.place; old = met.word }) in let call_closure = Showing (record { place = met.place; word = met.word }) in
    let table = c.args.table.now in
    let tried = c.replace.ensures.tried in let then = c.replace.new.window in
    let q = c.in-Put.pair in let l = tried.logged q (ap pair_in c.in-Put.is) in l.placed

pub returns-in-Put : goal.returns-in-Put
returns-in-Put g c =
    let w = c.args.window.now in let log = w.sight.log in let key = c.args.key in let b = begun_of w.book.now.parts in
    let name = w.book.now.begun.book in let met = c.args.live in let p = met.stored in
    let write = Writing (record { place = met.place; old = met.word }) in let call_closure = Showing (record { place = met.place; word = met.word }) in
    let table = c.args.table.now in
    let tried = c.replace.ensures.tried in let then = c.replace.new.window in
    let q = c.in-Put.pair in let l = tried.logged q (ap pair_in c.in-Put.is) in
    record {
      does = record {
        sees = tried.sees;
        lawful = tried.lawful;
        made = subst (λ (z : Tried _ _ _). Makes (is_put z) (own w) (own then) (past then)) c.in-Put.is tried.made;
        refused = λ cause e. absurd (cc e);
        right = λ begun found.
            let there = found Computes call_closure refl in
            let was = pair_found g.K.PartialEq.eq g.K.Hash.hash_input g.S.BuildHasher.build_hasher g.S.Hasher.Hasher.write g.S.Hasher.Hasher.finish
            g.met.K.Eq.laws g.met.K.Hash.respects_eq b name key begun log table met.place met.word p there in
            let later = held_wider g.K.PartialEq.eq (g.K.PartialEq.eq key) (history_of begun) (history_of begun)
            (history_of log) (history_of then.sight.log) ([], append-nil (history_of begun)) (history_since log then.sight.log tried.sees.log) (Some p) was in
            let op : c.args.operation ≡ operation.Insert q.value.value = c.in-Insert.is ∙ ap (λ v. operation.Insert v) (sym l.value_is) in
            let t = c.replace.ensures.put q c.in-Put.is key begun write refl (found Inserts write refl) in let z = met_some p t.0 t.1 in
            let change = subst (λ (o : Option (Stored _ _)). IsChangeOf (g.K.PartialEq.eq key) (history_of begun) (past then) o (Some q)) z.1 t.2 in
            updates g.K.PartialEq.eq key _ _ (Some p) later c.args.operation p z.0 q refl op z.2 change c.args.old (c.args.old.0, c.value_of.result)
            c.requires.shown (c.requires.shown.0 ∙ sym l.key_is, c.value_of.ensures);
        idle = tt;
        starts = tt;
      };
    }

pub returns-in-Lost : goal.returns-in-Lost
returns-in-Lost g c =
    let w = c.args.window.now in let log = w.sight.log in let key = c.args.key in let b = begun_of w.book.now.parts in
    let name = w.book.now.begun.book in let met = c.args.live in let p = met.stored in
    let write = Writing (record { place = met.place; old = met.word }) in let call_closure = Showing (record { place = met.place; word = met.word }) in
    let table = c.args.table.now in
    let tried = c.replace.ensures.tried in let then = c.replace.new.window in
    let q = c.in-Lost.pair in let l = tried.logged q (ap pair_in c.in-Lost.is) in
    let placed = l.placed in let key_is = l.key_is in let value_is = l.value_is in let number = l.number in
    record {
      does = record {
        sees = tried.sees;
        lawful = tt;
        made = tt;
        refused = λ cause e. absurd (cc e);
        right = tt;
        idle = subst (λ (z : Tried _ _ _). Does (is_put z) w then) c.in-Lost.is tried.does;
        starts = λ begun found.
            let there = found Computes call_closure refl in
            let was = pair_found g.K.PartialEq.eq g.K.Hash.hash_input g.S.BuildHasher.build_hasher g.S.Hasher.Hasher.write g.S.Hasher.Hasher.finish
            g.met.K.Eq.laws g.met.K.Hash.respects_eq b name key begun log table met.place met.word p there in
            let later = held_wider g.K.PartialEq.eq (g.K.PartialEq.eq key) (history_of begun) (history_of begun)
            (history_of log) (history_of then.sight.log) ([], append-nil (history_of begun)) (history_since log then.sight.log tried.sees.log) (Some p) was in
            let op : c.args.operation ≡ operation.Insert q.value.value = c.in-Insert.is ∙ ap (λ v. operation.Insert v) (sym value_is) in
            let found_first = found Inserts write refl in let full = live_full met.word
            (pair_live g.K.PartialEq.eq g.K.Hash.hash_input g.S.BuildHasher.build_hasher g.S.Hasher.Hasher.write g.S.Hasher.Hasher.finish
            g.met.K.Eq.laws g.met.K.Hash.respects_eq b name key begun log table met.place met.word p there) in
            let same = ap (g.K.PartialEq.eq key) key_is ∙ met_same g.K.PartialEq.eq g.K.Hash.hash_input g.S.BuildHasher.build_hasher g.S.Hasher.Hasher.write g.S.Hasher.Hasher.finish
            g.met.K.Eq.laws g.met.K.Hash.respects_eq b name key begun log met.place met.word full p table found_first in
            let key_there = subst (HasKeyAt then.sight.log met.place.table met.place.probe.i) (sym key_is)
            (key_at_stays g.K.PartialEq.eq g.K.Hash.hash_input g.S.BuildHasher.build_hasher g.S.Hasher.Hasher.write g.S.Hasher.Hasher.finish
            g.met.K.Eq.laws g.met.K.Hash.respects_eq b log then.sight.log (rw (sym tried.sees.book) tried.lawful) tried.sees.log met.place.table met.place.probe.i (key_of p)
            (met_key_there g.K.PartialEq.eq g.K.Hash.hash_input g.S.BuildHasher.build_hasher g.S.Hasher.Hasher.write g.S.Hasher.Hasher.finish
            g.met.K.Eq.laws g.met.K.Hash.respects_eq b name key begun log met.place met.word full p table found_first)) in
            let at_hand = pair_placed g.K.PartialEq.eq g.K.Hash.hash_input g.S.BuildHasher.build_hasher g.S.Hasher.Hasher.write g.S.Hasher.Hasher.finish
            g.met.K.Eq.laws g.met.K.Hash.respects_eq b name key begun log table met.place met.word p there in
            subst (λ (z : Met _ _). CanStartSince then key begun (Replaced key c.args.hash z q) ((Some p, c.args.operation) ∷ [])) (sym c.into_met.ensures) (
              (
                refl,
                record {
                  lawful = tried.lawful;
                  hashed = rw tried.sees.book c.requires.led.1.hashed;
                  placed = placed;
                  number = number;
                  same = same;
                },
                record { shown = rw tried.sees.book at_hand; kept = key_is; there = key_there },
                ap (λ (o : Operation _ _). (Some p, o) ∷ []) op,
              ),
              prefix_trans begun log then.sight.log there.4.seen tried.sees.log,
              (later, tt),
            );
      };
    }

pub returns-in-Some : goal.returns-in-Some
returns-in-Some g c =
    let w = c.args.window.now in let log = w.sight.log in let key = c.args.key in let b = begun_of w.book.now.parts in
    let name = w.book.now.begun.book in let met = c.args.live in let p = met.stored in
    let write = Writing (record { place = met.place; old = met.word }) in let call_closure = Showing (record { place = met.place; word = met.word }) in
    let table = c.args.table.now in
    let tried = c.replace.ensures.tried in let then = c.replace.new.window in
    let back = c.replace.ensures.back c.in-Back.value c.in-Back.is in
    let q = c.in-Some.pair in
    let l = subst (λ (z : Option (Stored _ _)). IfSome z (IsStoredAs then.book.now (key_of c.again.result) c.in-Back.value)) c.in-Some.is
    c.store_by_waiting.ensures in
    let of : key_of c.again.result ≡ key_of p = ap key_of (c.again.ensures ∙ ap (λ (z : Met _ _). z.stored) c.met.ensures) in
    let placed = l.placed in let number = l.number in
    let key_is = l.key_is ∙ of in let value_is = l.value_is ∙ back in
    record {
      does = record {
        sees = tried.sees;
        lawful = tt;
        made = tt;
        refused = λ cause e. absurd (cc e);
        right = tt;
        idle = subst (λ (z : Tried _ _ _). Does (is_put z) w then) c.in-Back.is tried.does;
        starts = λ begun found.
            let there = found Computes call_closure refl in
            let was = pair_found g.K.PartialEq.eq g.K.Hash.hash_input g.S.BuildHasher.build_hasher g.S.Hasher.Hasher.write g.S.Hasher.Hasher.finish
            g.met.K.Eq.laws g.met.K.Hash.respects_eq b name key begun log table met.place met.word p there in
            let later = held_wider g.K.PartialEq.eq (g.K.PartialEq.eq key) (history_of begun) (history_of begun)
            (history_of log) (history_of then.sight.log) ([], append-nil (history_of begun)) (history_since log then.sight.log tried.sees.log) (Some p) was in
            let op : c.args.operation ≡ operation.Insert q.value.value = c.in-Insert.is ∙ ap (λ v. operation.Insert v) (sym value_is) in
            let found_first = found Inserts write refl in let full = live_full met.word
            (pair_live g.K.PartialEq.eq g.K.Hash.hash_input g.S.BuildHasher.build_hasher g.S.Hasher.Hasher.write g.S.Hasher.Hasher.finish
            g.met.K.Eq.laws g.met.K.Hash.respects_eq b name key begun log table met.place met.word p there) in
            let same = ap (g.K.PartialEq.eq key) key_is ∙ met_same g.K.PartialEq.eq g.K.Hash.hash_input g.S.BuildHasher.build_hasher g.S.Hasher.Hasher.write g.S.Hasher.Hasher.finish
            g.met.K.Eq.laws g.met.K.Hash.respects_eq b name key begun log met.place met.word full p table found_first in
            let key_there = subst (HasKeyAt then.sight.log met.place.table met.place.probe.i) (sym key_is)
            (key_at_stays g.K.PartialEq.eq g.K.Hash.hash_input g.S.BuildHasher.build_hasher g.S.Hasher.Hasher.write g.S.Hasher.Hasher.finish
            g.met.K.Eq.laws g.met.K.Hash.respects_eq b log then.sight.log (rw (sym tried.sees.book) tried.lawful) tried.sees.log met.place.table met.place.probe.i (key_of p)
            (met_key_there g.K.PartialEq.eq g.K.Hash.hash_input g.S.BuildHasher.build_hasher g.S.Hasher.Hasher.write g.S.Hasher.Hasher.finish
            g.met.K.Eq.laws g.met.K.Hash.respects_eq b name key begun log met.place met.word full p table found_first)) in
            let at_hand = pair_placed g.K.PartialEq.eq g.K.Hash.hash_input g.S.BuildHasher.build_hasher g.S.Hasher.Hasher.write g.S.Hasher.Hasher.finish
            g.met.K.Eq.laws g.met.K.Hash.respects_eq b name key begun log table met.place met.word p there in
            subst (λ (z : Met _ _). CanStartSince then key begun (Replaced key c.args.hash z q) ((Some p, c.args.operation) ∷ [])) (sym c.into_met-in-Some.ensures) (
              (
                refl,
                record {
                  lawful = tried.lawful;
                  hashed = rw tried.sees.book c.requires.led.1.hashed;
                  placed = placed;
                  number = number;
                  same = same;
                },
                record { shown = rw tried.sees.book at_hand; kept = key_is; there = key_there },
                ap (λ (o : Operation _ _). (Some p, o) ∷ []) op,
              ),
              prefix_trans begun log then.sight.log there.4.seen tried.sees.log,
              (later, tt),
            );
      };
    }

pub returns-in-Insert : goal.returns-in-Insert
returns-in-Insert g c =
    let w = c.args.window.now in let log = w.sight.log in let key = c.args.key in let b = begun_of w.book.now.parts in
    let name = w.book.now.begun.book in let met = c.args.live in let p = met.stored in
    let write = Writing (record { place = met.place; old = met.word }) in let call_closure = Showing (record { place = met.place; word = met.word }) in
    let table = c.args.table.now in
    let tried = c.replace.ensures.tried in let then = c.replace.new.window in
    record {
      does = record {
        sees = tried.sees;
        lawful = tried.lawful;
        made = subst (λ (z : Tried _ _ _). Makes (is_put z) (own w) (own then) (past then)) c.in-Back.is tried.made;
        refused = λ cause e. let is : Memory ≡ cause = cc e in inl (sym is);
        right = λ begun found.
            let there = found Computes call_closure refl in
            let was = pair_found g.K.PartialEq.eq g.K.Hash.hash_input g.S.BuildHasher.build_hasher g.S.Hasher.Hasher.write g.S.Hasher.Hasher.finish
            g.met.K.Eq.laws g.met.K.Hash.respects_eq b name key begun log table met.place met.word p there in
            let later = held_wider g.K.PartialEq.eq (g.K.PartialEq.eq key) (history_of begun) (history_of begun)
            (history_of log) (history_of then.sight.log) ([], append-nil (history_of begun)) (history_since log then.sight.log tried.sees.log) (Some p) was in
            refuses g.K.PartialEq.eq key _ _ (Some p) later c.args.operation Memory (inl refl);
        idle = tt;
        starts = tt;
      };
    }

pub bury-requires : goal.bury-requires
bury-requires g c =
    let w = c.args.window.now in let log = w.sight.log in let key = c.args.key in let b = begun_of w.book.now.parts in
    let name = w.book.now.begun.book in let met = c.args.live in let p = met.stored in
    let write = Writing (record { place = met.place; old = met.word }) in let call_closure = Showing (record { place = met.place; word = met.word }) in
    let table = c.args.table.now in
    let led = c.requires.led in
    rw c.met-in-Remove.ensures (record { «open» = c.requires.open; shows = (key, led.0, led.1.found Computes call_closure refl) })

pub returns-then-not-bury : goal.returns-then-not-bury
returns-then-not-bury g c =
    let w = c.args.window.now in let log = w.sight.log in let key = c.args.key in let b = begun_of w.book.now.parts in
    let name = w.book.now.begun.book in let met = c.args.live in let p = met.stored in
    let write = Writing (record { place = met.place; old = met.word }) in let call_closure = Showing (record { place = met.place; word = met.word }) in
    let table = c.args.table.now in
    let tried = c.bury.ensures.ends in let then = c.bury.new.window in
    let not : c.bury.result ≡ false = search rules in
    record {
      does = record {
        sees = tried.sees;
        lawful = tt;
        made = tt;
        refused = λ cause e. absurd (cc e);
        right = tt;
        idle = subst (λ (z : Bool). Does z w then) not c.bury.ensures.does;
        starts = λ begun found.
            let there = found Computes call_closure refl in
            let was = pair_found g.K.PartialEq.eq g.K.Hash.hash_input g.S.BuildHasher.build_hasher g.S.Hasher.Hasher.write g.S.Hasher.Hasher.finish
            g.met.K.Eq.laws g.met.K.Hash.respects_eq b name key begun log table met.place met.word p there in
            let later = held_wider g.K.PartialEq.eq (g.K.PartialEq.eq key) (history_of begun) (history_of begun)
            (history_of log) (history_of then.sight.log) ([], append-nil (history_of begun)) (history_since log then.sight.log tried.sees.log) (Some p) was in
            let at_hand = pair_placed g.K.PartialEq.eq g.K.Hash.hash_input g.S.BuildHasher.build_hasher g.S.Hasher.Hasher.write g.S.Hasher.Hasher.finish
            g.met.K.Eq.laws g.met.K.Hash.respects_eq b name key begun log table met.place met.word p there in
            subst (λ (z : Met _ _). CanStartSince then key begun (Removing key c.args.hash z.stored) ((Some p, c.args.operation) ∷ [])) (sym c.into_met-shown.ensures) (
              (
                refl,
                record {
                  lawful = tried.lawful;
                  hashed = rw tried.sees.book c.requires.led.1.hashed;
                  placed = rw tried.sees.book at_hand;
                },
                ap (λ (o : Operation _ _). (Some p, o) ∷ []) c.in-Remove.is,
              ),
              prefix_trans begun log then.sight.log there.4.seen tried.sees.log,
              (later, tt),
            );
      };
    }

pub returns-in-Remove : goal.returns-in-Remove
returns-in-Remove g c =
    let w = c.args.window.now in let log = w.sight.log in let key = c.args.key in let b = begun_of w.book.now.parts in
    let name = w.book.now.begun.book in let met = c.args.live in let p = met.stored in
    let write = Writing (record { place = met.place; old = met.word }) in let call_closure = Showing (record { place = met.place; word = met.word }) in
    let table = c.args.table.now in
    let tried = c.bury.ensures.ends in let then = c.bury.new.window in
    let did : c.bury.result ≡ true = search rules in
    record {
      does = record {
        sees = tried.sees;
        lawful = tried.lawful;
        made = subst (λ (z : Bool). Makes z (own w) (own then) (past then)) did tried.made;
        refused = λ cause e. absurd (cc e);
        right = λ begun found.
            let there = found Computes call_closure refl in
            let was = pair_found g.K.PartialEq.eq g.K.Hash.hash_input g.S.BuildHasher.build_hasher g.S.Hasher.Hasher.write g.S.Hasher.Hasher.finish
            g.met.K.Eq.laws g.met.K.Hash.respects_eq b name key begun log table met.place met.word p there in
            let later = held_wider g.K.PartialEq.eq (g.K.PartialEq.eq key) (history_of begun) (history_of begun)
            (history_of log) (history_of then.sight.log) ([], append-nil (history_of begun)) (history_since log then.sight.log tried.sees.log) (Some p) was in
            let t = subst (λ (z : Met _ _). TakesOut w then key table z) c.met-in-Remove.ensures (c.bury.ensures.went did key) begun there in
            removed g.K.PartialEq.eq key _ _ (Some p) later c.args.operation p t.0 refl c.in-Remove.is t.1 t.2 c.args.old.0 c.args.old.1 c.requires.shown;
        idle = tt;
        starts = tt;
      };
    }

pub returns : goal.returns
returns g c =
    let w = c.args.window.now in let log = w.sight.log in let key = c.args.key in let b = begun_of w.book.now.parts in
    let name = w.book.now.begun.book in let met = c.args.live in let p = met.stored in
    let write = Writing (record { place = met.place; old = met.word }) in let call_closure = Showing (record { place = met.place; word = met.word }) in
    let table = c.args.table.now in
    record {
      does = record {
        sees = record { book = refl; log = ([], append-nil log) };
        lawful = let led = c.requires.led in (led.1.found Inserts write refl).4.lawful;
        made = sym (append-nil (own w));
        refused = λ cause e. absurd (cc e);
        right = λ begun found.
            let there = found Computes call_closure refl in
            let was = pair_found g.K.PartialEq.eq g.K.Hash.hash_input g.S.BuildHasher.build_hasher g.S.Hasher.Hasher.write g.S.Hasher.Hasher.finish
            g.met.K.Eq.laws g.met.K.Hash.respects_eq b name key begun log table met.place met.word p there in
            aborts g.K.PartialEq.eq key _ _ (Some p) was c.args.operation c.in-Abort.with c.in-Abort.is;
        idle = tt;
        starts = tt;
      };
    }

pub store_by_waiting-requires : goal.store_by_waiting-requires
store_by_waiting-requires g c =
    let w = c.args.window.now in let log = w.sight.log in let key = c.args.key in let b = begun_of w.book.now.parts in
    let name = w.book.now.begun.book in let met = c.args.live in let p = met.stored in let call_closure = Showing (record { place = met.place; word = met.word }) in
    let led = c.requires.led in
    let at_hand = pair_placed g.K.PartialEq.eq g.K.Hash.hash_input g.S.BuildHasher.build_hasher g.S.Hasher.Hasher.write g.S.Hasher.Hasher.finish
    g.met.K.Eq.laws g.met.K.Hash.respects_eq b name key led.0 log c.args.table.now met.place met.word p (led.1.found Computes call_closure refl) in
    let same = c.again.ensures ∙ ap (λ (z : Met _ _). z.stored) c.met.ensures in
    let then : IsIn c.replace.new.window.book.now (names.Pair p) = rw c.replace.ensures.tried.sees.book at_hand in
    let of = subst (λ (z : Stored _ _). IsIn c.replace.new.window.book.now (names.Pair z)) (sym same) then in (of.0, of.1)
