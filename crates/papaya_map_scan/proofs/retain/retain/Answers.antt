use Rattle.std.proofs.Common.{◌≡◌, false, [], length, append-nil, refl, rules, sym, ap, ◌∙◌, subst, arith}
use denote.Bor.{Bor}
use Rattle.papaya_map_book.specs.declared.book.Book.{Book}
use Rattle.papaya_map_book.specs.Hashes.{hash_of}
use Rattle.papaya_map_book.specs.Logs.{state_of}
use Rattle.papaya_map_book.specs.Parts.{begun_of}
use Rattle.papaya_map_book.specs.Rule.{IsLawfulLog}
use Rattle.papaya_map_book.specs.Windows.{IsTable}
use Rattle.papaya_map_book.proofs.Logs.{prefix_trans}
use Rattle.papaya_map_book.proofs.Windows.{observed, sees_trans}
use Rattle.papaya_map_lookup.specs.Drivers.{own}
use Rattle.papaya_map_change.specs.ClosureCalls.{Judges}
use Rattle.papaya_map_scan.specs.TableScans.{Scans}
use Rattle.papaya_map_scan.specs.Taking.{IsTaken, IsTakenAt}
use Rattle.papaya_map_scan.proofs.TableScans.{shown_on, table_on}
use Rattle.papaya_map_scan.proofs.Taken.{retained_rootless, scanned_all, scanned_later, taken_earlier}
use Rattle.papaya_map_scan.proofs.retain.retain.Goals as goal

pub loop-init : goal.loop-init
loop-init g c = record {
  sees = record { book = refl; log = ([], append-nil c.args.window.now.sight.log) };
  callable = c.requires.callable;
  shown = ([], record { has_said = refl; had = tt; changes = []; made_is = sym (append-nil (own c.args.window.now)); dropped = refl });
}

pub returns-in_err-number-clause-kept : goal.returns-in_err-number-clause-kept
returns-in_err-number-clause-kept g c =
    let before = shown_on c.args.window.now.sight.log (Judges g.F.FnMut) c.loop.window c.take_root.new.window (observed c.take_root.ensures.sees)
    (ap (λ o. o.done) c.take_root.ensures.sees.own) (own c.args.window.now) c.args.stays c.loop.stays c.loop.invariant.shown.0 c.loop.invariant.shown.1 in
    record { left = c.loop.stays; said = c.loop.invariant.shown.0; shown = before; leaves = search rules }

pub returns-in_default-clause-kept : goal.returns-in_default-clause-kept
returns-in_default-clause-kept g c =
    let log = c.take_root.new.window.sight.log in
    let zero : (state_of log).root ≡ 0 = search rules in
    let before = shown_on c.args.window.now.sight.log (Judges g.F.FnMut) c.loop.window c.take_root.new.window (observed c.take_root.ensures.sees)
    (ap (λ o. o.done) c.take_root.ensures.sees.own) (own c.args.window.now) c.args.stays c.loop.stays c.loop.invariant.shown.0 c.loop.invariant.shown.1 in
    record {
      left = c.loop.stays;
      said = c.loop.invariant.shown.0;
      shown = before;
      leaves = retained_rootless g.K.PartialEq.eq g.K.Hash.hash_input g.S.BuildHasher.build_hasher g.S.Hasher.Hasher.write g.S.Hasher.Hasher.finish
          g.met.K.Eq.laws g.met.K.Hash.respects_eq (begun_of c.take_root.new.window.book.now.parts) c.args.window.now.sight.log log
          (prefix_trans c.args.window.now.sight.log c.loop.window.sight.log log c.loop.invariant.sees.log c.take_root.ensures.sees.log)
          c.take_root.ensures.lawful zero c.loop.invariant.shown.0;
    }

pub scan_table-requires-clause-taken : goal.scan_table-requires-clause-taken
scan_table-requires-clause-taken g c =
    let b = begun_of c.take_root.new.window.book.now.parts in let log = c.take_root.new.window.sight.log in
    let taken : IsTaken b c.loop.window.sight.log log c.in-Some-2.number = search rules in
    (c.loop.window.sight.log, taken)

pub scan_table-requires-clause-open : goal.scan_table-requires-clause-open
scan_table-requires-clause-open g c = rw (c.take_root.ensures.sees.book ∙ c.loop.invariant.sees.book) c.requires.open

pub returns-then-not-scan_table-clause-kept : goal.returns-then-not-scan_table-clause-kept
returns-then-not-scan_table-clause-kept g c =
    let hash = hash_of g.K.Hash.hash_input g.S.BuildHasher.build_hasher g.S.Hasher.Hasher.write g.S.Hasher.Hasher.finish in
    let old = c.args.window.now.sight.log in
    let w = c.take_root.new.window in
    let met = c.scan_table.new.window in
    let log = c.learn.new.self.sight.log in
    let t = c.in-Some-2.number in
    let b = begun_of w.book.now.parts in
    let taken : IsTaken b c.loop.window.sight.log w.sight.log t = search rules in
    let over : c.scan_table.result ≡ false = search rules in
    let table : IsTable w t c.in-Some-2.table.now = search rules in
    let sees = sees_trans w met c.learn.new.self c.scan_table.ensures.sees (observed c.learn.ensures.sees) in
    let since = prefix_trans old c.loop.window.sight.log taken.at c.loop.invariant.sees.log taken.since in
    let before = shown_on c.args.window.now.sight.log (Judges g.F.FnMut) c.loop.window c.take_root.new.window (observed c.take_root.ensures.sees)
    (ap (λ o. o.done) c.take_root.ensures.sees.own) (own c.args.window.now) c.args.stays c.loop.stays c.loop.invariant.shown.0 c.loop.invariant.shown.1 in
    let scans : Scans c.args.window.now.sight.log (Judges g.F.FnMut) c.take_root.new.window c.loop.stays c.scan_table.new.window
    c.scan_table.new.stays c.in-Some-2.number 0 (length c.in-Some-2.table.now.slots) (c.scan_table.result ≡ false) = c.scan_table.ensures.scans
    c.args.window.now.sight.log (taken_earlier (begun_of c.take_root.new.window.book.now.parts) c.args.window.now.sight.log c.loop.window.sight.log
    c.take_root.new.window.sight.log c.in-Some-2.number c.loop.invariant.sees.log taken) in
    let one = scans c.args.stays (own c.args.window.now) c.loop.invariant.shown.0 before in
    let at : IsTakenAt b old w.sight.log t taken.at = record { since = since; until = taken.until; root = taken.root; some = taken.some; last = taken.last } in
    let then' : IsTaken b old log t = record {
      at = taken.at;
      since = since;
      until = prefix_trans taken.at w.sight.log log taken.until sees.log;
      root = taken.root;
      some = taken.some;
      last = taken.last;
    } in
    let lawful = subst (λ (z : Bor (Book _ _ _ _)). IsLawfulLog g.K.PartialEq.eq hash (begun_of z.now.parts) log) sees.book c.learn.ensures.lawful in
    let scanned = one.2 over taken.at at (λ x lt. absurd (omega (arith, lt))) in
    record {
      left = c.scan_table.new.stays;
      said = one.0;
      shown = shown_on c.args.window.now.sight.log (Judges g.F.FnMut) met c.learn.new.self (observed c.learn.ensures.sees) (ap (λ o. o.done) c.learn.ensures.sees.own)
          (own c.args.window.now) c.args.stays c.scan_table.new.stays one.0 one.1;
      leaves = scanned_all g.K.PartialEq.eq g.K.Hash.hash_input g.S.BuildHasher.build_hasher g.S.Hasher.Hasher.write g.S.Hasher.Hasher.finish
          g.met.K.Eq.laws g.met.K.Hash.respects_eq b old log lawful t then' c.in-Some-2.table.now
          (table_on w c.learn.new.self t c.in-Some-2.table.now sees table) one.0
          (scanned_later taken.at met.sight.log log c.learn.ensures.sees.log t (length c.in-Some-2.table.now.slots) one.0 scanned);
    }

pub returns-in_err-resize-clause-kept : goal.returns-in_err-resize-clause-kept
returns-in_err-resize-clause-kept g c =
    let taken : IsTaken (begun_of c.take_root.new.window.book.now.parts) c.loop.window.sight.log c.take_root.new.window.sight.log c.in-Some-2.number =
    search rules in
    let before = shown_on c.args.window.now.sight.log (Judges g.F.FnMut) c.loop.window c.take_root.new.window (observed c.take_root.ensures.sees)
    (ap (λ o. o.done) c.take_root.ensures.sees.own) (own c.args.window.now) c.args.stays c.loop.stays c.loop.invariant.shown.0 c.loop.invariant.shown.1 in
    let scans : Scans c.args.window.now.sight.log (Judges g.F.FnMut) c.take_root.new.window c.loop.stays c.scan_table.new.window
    c.scan_table.new.stays c.in-Some-2.number 0 (length c.in-Some-2.table.now.slots) (c.scan_table.result ≡ false) = c.scan_table.ensures.scans
    c.args.window.now.sight.log (taken_earlier (begun_of c.take_root.new.window.book.now.parts) c.args.window.now.sight.log c.loop.window.sight.log
    c.take_root.new.window.sight.log c.in-Some-2.number c.loop.invariant.sees.log taken) in
    let one = scans c.args.stays (own c.args.window.now) c.loop.invariant.shown.0 before in
    record {
      left = c.scan_table.new.stays;
      said = one.0;
      shown = shown_on c.args.window.now.sight.log (Judges g.F.FnMut) c.scan_table.new.window c.resize.new.window (observed c.resize.ensures.sees)
          (ap (λ o. o.done) c.resize.ensures.sees.own) (own c.args.window.now) c.args.stays c.scan_table.new.stays one.0 one.1;
      leaves = search rules;
    }

pub loop-preserved : goal.loop-preserved
loop-preserved g c =
    let taken : IsTaken (begun_of c.take_root.new.window.book.now.parts) c.loop.window.sight.log c.take_root.new.window.sight.log c.in-Some-2.number =
    search rules in
    let before = shown_on c.args.window.now.sight.log (Judges g.F.FnMut) c.loop.window c.take_root.new.window (observed c.take_root.ensures.sees)
    (ap (λ o. o.done) c.take_root.ensures.sees.own) (own c.args.window.now) c.args.stays c.loop.stays c.loop.invariant.shown.0 c.loop.invariant.shown.1 in
    let scans : Scans c.args.window.now.sight.log (Judges g.F.FnMut) c.take_root.new.window c.loop.stays c.scan_table.new.window
    c.scan_table.new.stays c.in-Some-2.number 0 (length c.in-Some-2.table.now.slots) (c.scan_table.result ≡ false) = c.scan_table.ensures.scans
    c.args.window.now.sight.log (taken_earlier (begun_of c.take_root.new.window.book.now.parts) c.args.window.now.sight.log c.loop.window.sight.log
    c.take_root.new.window.sight.log c.in-Some-2.number c.loop.invariant.sees.log taken) in
    let one = scans c.args.stays (own c.args.window.now) c.loop.invariant.shown.0 before in
    let met = sees_trans c.args.window.now c.take_root.new.window c.scan_table.new.window
    (sees_trans c.args.window.now c.loop.window c.take_root.new.window c.loop.invariant.sees (observed c.take_root.ensures.sees)) c.scan_table.ensures.sees in record {
      sees = sees_trans c.args.window.now c.scan_table.new.window c.resize.new.window met (observed c.resize.ensures.sees);
      callable = c.scan_table.ensures.callable;
      shown = (
        one.0,
        shown_on c.args.window.now.sight.log (Judges g.F.FnMut) c.scan_table.new.window c.resize.new.window (observed c.resize.ensures.sees)
            (ap (λ o. o.done) c.resize.ensures.sees.own) (own c.args.window.now) c.args.stays c.scan_table.new.stays one.0 one.1,
      );
    }
