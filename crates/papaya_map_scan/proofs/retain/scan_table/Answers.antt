use Rattle.std.proofs.Common.{◌≡◌, ℕ, suc, ◌+◌, true, false, length, arith, subst}
use Rattle.papaya_map_book.proofs.Windows.{sees_trans}
use Rattle.papaya_map_change.specs.ClosureCalls.{Judges}
use Rattle.papaya_map_scan.specs.TableScans.{Scans}
use Rattle.papaya_map_scan.proofs.TableScans.{scans_ended, scans_stopped, scans_then, table_on, taken_on}
use Rattle.papaya_map_scan.proofs.retain.scan_table.Goals as goal

pub scan_slot-requires-clause-table : goal.scan_slot-requires-clause-table
scan_slot-requires-clause-table g c = table_on c.args.window.now c.loop-place.window c.args.number c.args.table.now c.loop-place.invariant.sees c.requires.table

pub scan_slot-requires-clause-taken : goal.scan_slot-requires-clause-taken
scan_slot-requires-clause-taken g c = (
  c.requires.taken.0,
  taken_on c.requires.taken.0 c.args.window.now c.loop-place.window c.args.number c.loop-place.invariant.sees c.requires.taken.1,
)

pub scan_slot-requires-clause-open : goal.scan_slot-requires-clause-open
scan_slot-requires-clause-open g c = rw c.loop-place.invariant.sees.book c.requires.open

pub returns-then-scan_slot-clause-scans : goal.returns-then-scan_slot-clause-scans
returns-then-scan_slot-clause-scans g c = λ began taken.
    scans_stopped began (Judges g.F.FnMut) c.args.number c.args.window.now c.scan_slot.new.window c.args.stays.now
    c.scan_slot.new.stays 0 (suc c.loop-place.place) (length c.args.table.now.slots) (c.scan_slot.result ≡ false) (true ≡ false) (λ e. cc e)
    (scans_then began (Judges g.F.FnMut) c.args.number c.args.window.now c.loop-place.window c.scan_slot.new.window c.args.stays.now
    c.loop-place.stays c.scan_slot.new.stays 0 c.loop-place.place (suc c.loop-place.place) (c.scan_slot.result ≡ false) (c.loop-place.invariant.scans began taken)
    c.loop-place.invariant.sees (c.scan_slot.ensures.scans began (taken_on began c.args.window.now c.loop-place.window c.args.number c.loop-place.invariant.sees taken)))

pub loop-place-preserved : goal.loop-place-preserved
loop-place-preserved g c =
    let one : suc c.loop-place.place ≡ c.loop-place.place + 1 = omega arith in record {
      sees = sees_trans c.args.window.now c.loop-place.window c.scan_slot.new.window c.loop-place.invariant.sees c.scan_slot.ensures.sees;
      callable = c.scan_slot.ensures.callable;
      scans = λ began taken. subst (λ (n : ℕ). Scans began (Judges g.F.FnMut) c.args.window.now c.args.stays.now c.scan_slot.new.window
          c.scan_slot.new.stays c.args.number 0 n (Unit {0})) one
          (scans_ended began (Judges g.F.FnMut) c.args.number c.args.window.now c.scan_slot.new.window c.args.stays.now
          c.scan_slot.new.stays 0 (suc c.loop-place.place) (c.scan_slot.result ≡ false) (Unit {0}) (λ e. c.if-scan_slot.false)
          (scans_then began (Judges g.F.FnMut) c.args.number c.args.window.now c.loop-place.window c.scan_slot.new.window
          c.args.stays.now c.loop-place.stays c.scan_slot.new.stays 0 c.loop-place.place (suc c.loop-place.place) (c.scan_slot.result ≡ false)
          (c.loop-place.invariant.scans began taken) c.loop-place.invariant.sees (c.scan_slot.ensures.scans began (taken_on began c.args.window.now c.loop-place.window c.args.number c.loop-place.invariant.sees taken))));
    }

pub returns-clause-scans : goal.returns-clause-scans
returns-clause-scans g c = λ began taken.
    let low = c.loop-place-test.false in
    let high = c.loop-place.auto.place-end in
    let slots = c.len-place-end.ensures in
    let is : c.loop-place.place ≡ length c.args.table.now.slots = omega (arith, low, high, slots) in
    subst (λ (n : ℕ). Scans began (Judges g.F.FnMut) c.args.window.now c.args.stays.now c.loop-place.window c.loop-place.stays
    c.args.number 0 n (false ≡ false)) is
    (scans_ended began (Judges g.F.FnMut) c.args.number c.args.window.now c.loop-place.window c.args.stays.now c.loop-place.stays 0
    c.loop-place.place (Unit {0}) (false ≡ false) (λ e. tt) (c.loop-place.invariant.scans began taken))
