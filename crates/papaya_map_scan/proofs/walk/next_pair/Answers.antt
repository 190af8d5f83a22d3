use Rattle.std.proofs.Common.{◌≡◌, ◌<◌, ◌+◌, ℕ, suc, false, is_some, List, [], length, append-nil, refl, rules, sym, subst, arith}
use denote.Bor.{Bor}
use Rattle.papaya_map_book.specs.declared.book.Book.{Book}
use Rattle.papaya_map_book.specs.declared.rule.entry.Event.{Event}
use Rattle.papaya_map_book.specs.Parts.{begun_of}
use Rattle.papaya_map_book.proofs.Windows.{sees_trans}
use Rattle.papaya_map_scan.specs.Taking as taking
use Rattle.papaya_map_scan.specs.Walked.{AreLast, ArePassed, IsPassed, with_found}
use Rattle.papaya_map_scan.proofs.TableScans.{last_later, slot_at, taken_on}
use Rattle.papaya_map_scan.proofs.Walking.{none_found, passed_next}
use Rattle.papaya_map_scan.proofs.walk.next_pair.Goals as goal

pub entry_at-found-requires : goal.entry_at-found-requires
entry_at-found-requires g c =
    let less : c.loop-at.at < length c.args.slots.now = search rules in
    record { slot = slot_at c.loop-at.window.sight.log c.args.number c.args.slots.now c.loop-at.invariant.slots c.loop-at.at c.index-slots-at.result less c.index-slots-at.is }

pub returns-then-is_some-clause-slots : goal.returns-then-is_some-clause-slots
returns-then-is_some-clause-slots g c =
    last_later c.loop-at.window.sight.log c.entry_at-found.new.window.sight.log c.args.number (length c.args.slots.now) c.args.slots.now
    c.entry_at-found.ensures.sees.log c.loop-at.invariant.slots

pub returns-then-is_some-clause-had : goal.returns-then-is_some-clause-had
returns-then-is_some-clause-had g c = λ began taken.
    let less : c.loop-at.at < length c.args.slots.now = search rules in
    c.entry_at-found.ensures.had began
    (taken_on began c.args.window.now c.loop-at.window c.args.number c.loop-at.invariant.sees (taken (omega (arith, less))))

pub loop-at-preserved : goal.loop-at-preserved
loop-at-preserved g c =
    let since = c.loop-at.invariant.since in record {
      sees = sees_trans c.args.window.now c.loop-at.window c.entry_at-found.new.window c.loop-at.invariant.sees c.entry_at-found.ensures.sees;
      slots = last_later c.loop-at.window.sight.log c.entry_at-found.new.window.sight.log c.args.number (length c.args.slots.now) c.args.slots.now
          c.entry_at-found.ensures.sees.log c.loop-at.invariant.slots;
      since = omega (arith, since);
      passed = λ began given h.
          let b = begun_of c.args.window.now.book.now.parts in let log = c.loop-at.window.sight.log in let at = c.loop-at.at in
          let here : (e : List (Event _ _ _)) → taking.IsTakenAt b began log c.args.number e
          → IsPassed e c.entry_at-found.new.window.sight.log c.args.number at c.entry_at-found.result = λ e taken.
          c.entry_at-found.ensures.passed began e
          (subst (λ (z : Bor (Book _ _ _ _)). taking.IsTakenAt (begun_of z.now.parts) began log c.args.number e) (sym c.loop-at.invariant.sees.book) taken) in
          let none : is_some c.entry_at-found.result ≡ false = search rules in
          let next : suc at ≡ at + 1 = omega arith in
          subst (λ (n : ℕ). ArePassed g.K.PartialEq.eq b began c.entry_at-found.new.window.sight.log c.args.number n (length c.args.slots.now) given) next
          (subst (λ (entries : List (_ × _)). ArePassed g.K.PartialEq.eq b began c.entry_at-found.new.window.sight.log c.args.number
          (suc at) (length c.args.slots.now) entries) (none_found given c.entry_at-found.result none)
          (passed_next g.K.PartialEq.eq b began log c.entry_at-found.new.window.sight.log c.entry_at-found.ensures.sees.log c.args.number
          (length c.args.slots.now) at given c.entry_at-found.result here (c.loop-at.invariant.passed began given h)));
    }

pub loop-at-init : goal.loop-at-init
loop-at-init g c = record { sees = record { book = refl; log = ([], append-nil c.args.window.now.sight.log) }; slots = c.requires.slots; since = omega arith; passed = λ began given h. h }

pub returns-then-is_some-clause-passed : goal.returns-then-is_some-clause-passed
returns-then-is_some-clause-passed g c = λ began given h.
    let b = begun_of c.args.window.now.book.now.parts in let log = c.loop-at.window.sight.log in let at = c.loop-at.at in
    let here : (e : List (Event _ _ _)) → taking.IsTakenAt b began log c.args.number e
    → IsPassed e c.entry_at-found.new.window.sight.log c.args.number at c.entry_at-found.result = λ e taken.
    c.entry_at-found.ensures.passed began e
    (subst (λ (z : Bor (Book _ _ _ _)). taking.IsTakenAt (begun_of z.now.parts) began log c.args.number e) (sym c.loop-at.invariant.sees.book) taken) in
    let next : suc at ≡ at + 1 = omega arith in
    subst (λ (n : ℕ). ArePassed g.K.PartialEq.eq b began c.entry_at-found.new.window.sight.log c.args.number n (length c.args.slots.now)
    (with_found given c.entry_at-found.result)) next
    (passed_next g.K.PartialEq.eq b began log c.entry_at-found.new.window.sight.log c.entry_at-found.ensures.sees.log c.args.number
    (length c.args.slots.now) at given c.entry_at-found.result here (c.loop-at.invariant.passed began given h))
