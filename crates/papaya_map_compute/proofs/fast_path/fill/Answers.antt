use Rattle.std.proofs.Common.{◌≡◌, Option, None, Some, [], ◌∷◌, append-nil, refl, sym, ap, ◌∙◌, inl, inr, subst}
use Rattle.std.specs.Prelude.{IfSome}
use Rattle.papaya_words.specs.declared.refused.Refused.TheVariants.{Memory, RemoveNothing}
use Rattle.papaya_call.specs.declared.answers.Operation.{Operation}
use Rattle.papaya_call.specs.declared.answers.Operation.TheVariants as operation
use Rattle.papaya_call.specs.declared.compute.Gap.TheVariants.{At}
use Rattle.papaya_call.specs.declared.machine.State.TheVariants.{Offering, Writing}
use Rattle.papaya_map_book.specs.Books.{IsStoredAs}
use Rattle.papaya_map_book.specs.Logs.{Stored}
use Rattle.papaya_map_book.specs.Parts.{begun_of}
use Rattle.papaya_map_book.specs.Windows.{Does}
use Rattle.papaya_map_book.proofs.Logs.{prefix_trans}
use Rattle.papaya_map_lookup.specs.Drivers.{own, past}
use Rattle.papaya_map_lookup.specs.History.{Makes, history_of, key_of}
use Rattle.papaya_map_lookup.proofs.Histories.{history_since}
use Rattle.papaya_map_change.specs.declared.fast_path.Tried.{Tried}
use Rattle.papaya_map_change.specs.Changes.{IsChangeOf}
use Rattle.papaya_map_change.specs.Seeking.{Computes, Inserts}
use Rattle.papaya_map_change.specs.Tries.{is_put, pair_in}
use Rattle.papaya_map_change.proofs.ClosureCalls.{held_wider}
use Rattle.papaya_map_change.proofs.Trading.{met_none}
use Rattle.papaya_map_compute.proofs.FastPath.{aborts, inserts, refuses, removes_nothing}
use Rattle.papaya_map_compute.proofs.Found.{none_found}
use Rattle.papaya_map_compute.proofs.fast_path.fill.Goals as goal

pub claim-requires-clause-stands : goal.claim-requires-clause-stands
claim-requires-clause-stands g c =
    let w = c.args.window.now in let log = w.sight.log in let key = c.args.key in let b = begun_of w.book.now.parts in
    let name = w.book.now.begun.book in let at = c.args.at in let write = Writing (record { place = at; old = 0 }) in
    let led = c.requires.led in (write, refl, (led.0, led.1.found Inserts write refl))

pub claim-requires-clause-hashed : goal.claim-requires-clause-hashed
claim-requires-clause-hashed g c = c.requires.led.1.hashed

pub claim-requires-clause-limit : goal.claim-requires-clause-limit
claim-requires-clause-limit g c = c.requires.led.1.limit

pub entry-requires : goal.entry-requires
entry-requires g c =
    let w = c.args.window.now in let log = w.sight.log in let key = c.args.key in let b = begun_of w.book.now.parts in
    let name = w.book.now.begun.book in let at = c.args.at in let write = Writing (record { place = at; old = 0 }) in
    let tried = c.claim.ensures.tried in let then = c.claim.new.window in
    let q = c.in-Put.pair in let l = tried.logged q (ap pair_in c.in-Put.is) in l.placed

pub returns-in-Put : goal.returns-in-Put
returns-in-Put g c =
    let w = c.args.window.now in let log = w.sight.log in let key = c.args.key in let b = begun_of w.book.now.parts in
    let name = w.book.now.begun.book in let at = c.args.at in let write = Writing (record { place = at; old = 0 }) in
    let tried = c.claim.ensures.tried in let then = c.claim.new.window in
    let q = c.in-Put.pair in let l = tried.logged q (ap pair_in c.in-Put.is) in
    record {
      does = record {
        sees = tried.sees;
        lawful = tried.lawful;
        made = subst (λ (z : Tried _ _ _). Makes (is_put z) (own w) (own then) (past then)) c.in-Put.is tried.made;
        refused = λ cause e. absurd (cc e);
        right = λ begun found.
            let there = found Computes (Offering (At at)) refl in
            let was = none_found g.K.PartialEq.eq g.K.Hash.hash_input g.S.BuildHasher.build_hasher g.S.Hasher.Hasher.write g.S.Hasher.Hasher.finish
            g.met.K.Eq.laws g.met.K.Hash.respects_eq b name key begun log c.args.table.now at there in
            let later = held_wider g.K.PartialEq.eq (g.K.PartialEq.eq key) (history_of begun) (history_of begun)
            (history_of log) (history_of then.sight.log) ([], append-nil (history_of begun)) (history_since log then.sight.log tried.sees.log) None was in
            let op : c.args.operation ≡ operation.Insert q.value.value = c.in-Insert.is ∙ ap (λ v. operation.Insert v) (sym l.value_is) in
            let t = c.claim.ensures.put q c.in-Put.is begun write refl (found Inserts write refl) in
            let change = subst (λ (o : Option (Stored _ _)). IsChangeOf (g.K.PartialEq.eq key) (history_of begun) (past then) o (Some q)) (met_none t.0 t.1) t.2 in
            inserts g.K.PartialEq.eq key _ _ None later c.args.operation refl q op change l.key_is c.entry.result.0 c.entry.result.1 c.entry.ensures;
        idle = tt;
        starts = tt;
      };
    }

pub returns-in-Lost : goal.returns-in-Lost
returns-in-Lost g c =
    let w = c.args.window.now in let log = w.sight.log in let key = c.args.key in let b = begun_of w.book.now.parts in
    let name = w.book.now.begun.book in let at = c.args.at in let write = Writing (record { place = at; old = 0 }) in
    let tried = c.claim.ensures.tried in let then = c.claim.new.window in
    let q = c.in-Lost.pair in let l = tried.logged q (ap pair_in c.in-Lost.is) in
    let placed = l.placed in let key_is = l.key_is in let value_is = l.value_is in let number = l.number in
    record {
      does = record {
        sees = tried.sees;
        lawful = tt;
        made = tt;
        refused = λ cause e. absurd (cc e);
        right = tt;
        idle = subst (λ (z : Tried _ _ _). Does (is_put z) w then) c.in-Lost.is tried.does;
        starts = λ begun found.
            let there = found Computes (Offering (At at)) refl in
            let was = none_found g.K.PartialEq.eq g.K.Hash.hash_input g.S.BuildHasher.build_hasher g.S.Hasher.Hasher.write g.S.Hasher.Hasher.finish
            g.met.K.Eq.laws g.met.K.Hash.respects_eq b name key begun log c.args.table.now at there in
            let later = held_wider g.K.PartialEq.eq (g.K.PartialEq.eq key) (history_of begun) (history_of begun)
            (history_of log) (history_of then.sight.log) ([], append-nil (history_of begun)) (history_since log then.sight.log tried.sees.log) None was in
            let op : c.args.operation ≡ operation.Insert q.value.value = c.in-Insert.is ∙ ap (λ v. operation.Insert v) (sym value_is) in (
              (
                record {
                  lawful = tried.lawful;
                  hashed = rw tried.sees.book c.requires.led.1.hashed;
                  placed = placed;
                  number = number;
                  same = ap (g.K.PartialEq.eq key) key_is ∙ g.met.K.Eq.laws.refl key;
                },
                key_is,
                ap (λ (o : Operation _ _). (None, o) ∷ []) op,
              ),
              prefix_trans begun log then.sight.log there.4.seen tried.sees.log,
              (later, tt),
            );
      };
    }

pub returns-in-Some : goal.returns-in-Some
returns-in-Some g c =
    let w = c.args.window.now in let log = w.sight.log in let key = c.args.key in let b = begun_of w.book.now.parts in
    let name = w.book.now.begun.book in let at = c.args.at in let write = Writing (record { place = at; old = 0 }) in
    let tried = c.claim.ensures.tried in let then = c.claim.new.window in
    let back = c.claim.ensures.back (c.in-Back.key, c.in-Back.value) c.in-Back.is in
    let q = c.in-Some.pair in
    let l = subst (λ (z : Option (Stored _ _)). IfSome z (IsStoredAs then.book.now c.in-Back.key c.in-Back.value)) c.in-Some.is c.store_by_waiting.ensures in
    let placed = l.placed in let number = l.number in
    let key_is = l.key_is ∙ ap (λ z. z.0) back in let value_is = l.value_is ∙ ap (λ z. z.1) back in
    record {
      does = record {
        sees = tried.sees;
        lawful = tt;
        made = tt;
        refused = λ cause e. absurd (cc e);
        right = tt;
        idle = subst (λ (z : Tried _ _ _). Does (is_put z) w then) c.in-Back.is tried.does;
        starts = λ begun found.
            let there = found Computes (Offering (At at)) refl in
            let was = none_found g.K.PartialEq.eq g.K.Hash.hash_input g.S.BuildHasher.build_hasher g.S.Hasher.Hasher.write g.S.Hasher.Hasher.finish
            g.met.K.Eq.laws g.met.K.Hash.respects_eq b name key begun log c.args.table.now at there in
            let later = held_wider g.K.PartialEq.eq (g.K.PartialEq.eq key) (history_of begun) (history_of begun)
            (history_of log) (history_of then.sight.log) ([], append-nil (history_of begun)) (history_since log then.sight.log tried.sees.log) None was in
            let op : c.args.operation ≡ operation.Insert q.value.value = c.in-Insert.is ∙ ap (λ v. operation.Insert v) (sym value_is) in (
              (
                record {
                  lawful = tried.lawful;
                  hashed = rw tried.sees.book c.requires.led.1.hashed;
                  placed = placed;
                  number = number;
                  same = ap (g.K.PartialEq.eq key) key_is ∙ g.met.K.Eq.laws.refl key;
                },
                key_is,
                ap (λ (o : Operation _ _). (None, o) ∷ []) op,
              ),
              prefix_trans begun log then.sight.log there.4.seen tried.sees.log,
              (later, tt),
            );
      };
    }

pub returns-in-None : goal.returns-in-None
returns-in-None g c =
    let w = c.args.window.now in let log = w.sight.log in let key = c.args.key in let b = begun_of w.book.now.parts in
    let name = w.book.now.begun.book in let at = c.args.at in let write = Writing (record { place = at; old = 0 }) in
    let tried = c.claim.ensures.tried in let then = c.claim.new.window in
    record {
      does = record {
        sees = tried.sees;
        lawful = tried.lawful;
        made = subst (λ (z : Tried _ _ _). Makes (is_put z) (own w) (own then) (past then)) c.in-Back.is tried.made;
        refused = λ cause e. let is : Memory ≡ cause = cc e in inl (sym is);
        right = λ begun found.
            let there = found Computes (Offering (At at)) refl in
            let was = none_found g.K.PartialEq.eq g.K.Hash.hash_input g.S.BuildHasher.build_hasher g.S.Hasher.Hasher.write g.S.Hasher.Hasher.finish
            g.met.K.Eq.laws g.met.K.Hash.respects_eq b name key begun log c.args.table.now at there in
            let later = held_wider g.K.PartialEq.eq (g.K.PartialEq.eq key) (history_of begun) (history_of begun)
            (history_of log) (history_of then.sight.log) ([], append-nil (history_of begun)) (history_since log then.sight.log tried.sees.log) None was in
            refuses g.K.PartialEq.eq key _ _ None later c.args.operation Memory (inl refl);
        idle = tt;
        starts = tt;
      };
    }

pub returns-in-Remove : goal.returns-in-Remove
returns-in-Remove g c =
    let w = c.args.window.now in let log = w.sight.log in let key = c.args.key in let b = begun_of w.book.now.parts in
    let name = w.book.now.begun.book in let at = c.args.at in let write = Writing (record { place = at; old = 0 }) in
    record {
      does = record {
        sees = record { book = refl; log = ([], append-nil log) };
        lawful = let led = c.requires.led in (led.1.found Inserts write refl).4.lawful;
        made = sym (append-nil (own w));
        refused = λ cause e. let is : RemoveNothing ≡ cause = cc e in inr (sym is);
        right = λ begun found.
            let there = found Computes (Offering (At at)) refl in
            let was = none_found g.K.PartialEq.eq g.K.Hash.hash_input g.S.BuildHasher.build_hasher g.S.Hasher.Hasher.write g.S.Hasher.Hasher.finish
            g.met.K.Eq.laws g.met.K.Hash.respects_eq b name key begun log c.args.table.now at there in
            removes_nothing g.K.PartialEq.eq key _ _ None was c.args.operation refl c.in-Remove.is;
        idle = tt;
        starts = tt;
      };
    }

pub returns-in-Abort : goal.returns-in-Abort
returns-in-Abort g c =
    let w = c.args.window.now in let log = w.sight.log in let key = c.args.key in let b = begun_of w.book.now.parts in
    let name = w.book.now.begun.book in let at = c.args.at in let write = Writing (record { place = at; old = 0 }) in
    record {
      does = record {
        sees = record { book = refl; log = ([], append-nil log) };
        lawful = let led = c.requires.led in (led.1.found Inserts write refl).4.lawful;
        made = sym (append-nil (own w));
        refused = λ cause e. absurd (cc e);
        right = λ begun found.
            let there = found Computes (Offering (At at)) refl in
            let was = none_found g.K.PartialEq.eq g.K.Hash.hash_input g.S.BuildHasher.build_hasher g.S.Hasher.Hasher.write g.S.Hasher.Hasher.finish
            g.met.K.Eq.laws g.met.K.Hash.respects_eq b name key begun log c.args.table.now at there in
            aborts g.K.PartialEq.eq key _ _ None was c.args.operation c.in-Abort.with c.in-Abort.is;
        idle = tt;
        starts = tt;
      };
    }
