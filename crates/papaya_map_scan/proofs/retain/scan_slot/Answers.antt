use Rattle.std.proofs.Common.{◌≡◌, ⊎_elim, suc, Bool, true, false, Option, ◌++◌, append-nil, sym, ap, ◌∙◌, subst}
use denote.Bor.{Bor}
use Rattle.papaya_words.specs.Word.{kind_of}
use Rattle.papaya_words.specs.declared.word.Kind.TheVariants as kinds
use Rattle.papaya_map_book.specs.declared.book.Book.{Book}
use Rattle.papaya_map_book.specs.Calls.{IsSlot}
use Rattle.papaya_map_book.specs.Hashes.{hash_of}
use Rattle.papaya_map_book.specs.Logs.{Stored, steps_of}
use Rattle.papaya_map_book.specs.Own.{last_if}
use Rattle.papaya_map_book.specs.Parts.{begun_of}
use Rattle.papaya_map_book.specs.Rule.{IsLawfulLog}
use Rattle.papaya_map_book.proofs.Windows.{observed, sees_trans}
use Rattle.papaya_map_lookup.specs.Drivers.{own}
use Rattle.papaya_map_lookup.specs.History.{history_of}
use Rattle.papaya_map_change.specs.ClosureCalls.{Judges}
use Rattle.papaya_map_scan.specs.Meeting.{HadPair, has_pair}
use Rattle.papaya_map_scan.proofs.TableScans.{scans_none, scans_on, scans_stopped, table_on, taken_on}
use Rattle.papaya_map_scan.proofs.Scanning.{burial_done, other_word, same_word, so_kept, so_past, so_shown, so_buried, some_same}
use Rattle.papaya_map_scan.proofs.retain.scan_slot.Goals as goal

pub loop-init : goal.loop-init
loop-init g c = record {
  sees = observed c.load-word.ensures.sees;
  callable = c.requires.callable;
  stands = c.load-word.ensures.slot;
  met = c.load-word.ensures.met;
  scans = λ began taken. scans_on began (Judges g.F.FnMut) c.args.number c.args.window.now c.args.window.now c.load-word.new.window c.args.stays.now
      c.args.stays.now c.args.place c.args.place (Unit {0})
      (scans_none began (Judges g.F.FnMut) c.args.number c.args.window.now c.args.stays.now c.args.place) (observed c.load-word.ensures.sees)
      (ap (λ o. o.done) c.load-word.ensures.sees.own);
}

pub returns-in-Marked-clause-scans : goal.returns-in-Marked-clause-scans
returns-in-Marked-clause-scans g c = λ began taken. scans_stopped began (Judges g.F.FnMut) c.args.number c.args.window.now c.loop.window
    c.args.stays.now c.loop.stays c.args.place c.args.place (suc c.args.place) (Unit {0}) (true ≡ false) (λ e. cc e) (c.loop.invariant.scans began taken)

pub returns-in-Empty-clause-scans : goal.returns-in-Empty-clause-scans
returns-in-Empty-clause-scans g c = λ began taken.
    let past : has_pair c.kind.result ≡ false = ⊎_elim (λ e. ap has_pair e) (⊎_elim (λ e. ap has_pair e) (λ e. ap has_pair e)) c.in-Empty.is in
    so_past g.K.PartialEq.eq g.K.Hash.hash_input g.S.BuildHasher.build_hasher g.S.Hasher.Hasher.write g.S.Hasher.Hasher.finish g.met.K.Eq.laws
    g.met.K.Hash.respects_eq (begun_of c.args.window.now.book.now.parts) (Judges g.F.FnMut) began c.args.window.now.sight.log
    (own c.args.window.now) c.args.stays.now c.args.number c.args.window.now.book.now.begun.book c.loop.window.sight.log c.loop.invariant.sees.log
    (own c.loop.window) c.loop.stays c.args.place c.loop.word c.loop.pair c.loop.invariant.stands (c.loop.invariant.scans began taken) (false ≡ false)
    (ap has_pair (sym c.kind.ensures) ∙ past)

pub returns-then-call_closure-clause-scans : goal.returns-then-call_closure-clause-scans
returns-then-call_closure-clause-scans g c = λ began taken.
    let live : kind_of c.loop.word ≡ kinds.Live = sym c.kind.ensures ∙ c.in-Live.is in
    let met = (c.loop.invariant.met began taken).had (ap has_pair live) in
    let same = some_same met.0 c.in-Some-pair.stored (sym met.1 ∙ c.in-Some-pair.is) in
    let had = subst (λ (p : Stored _ _). HadPair g.K.PartialEq.eq (history_of began) (history_of c.loop.window.sight.log) p) same met.2 in
    so_kept g.K.PartialEq.eq g.K.Hash.hash_input g.S.BuildHasher.build_hasher g.S.Hasher.Hasher.write g.S.Hasher.Hasher.finish g.met.K.Eq.laws
    g.met.K.Hash.respects_eq (begun_of c.args.window.now.book.now.parts) (Judges g.F.FnMut) began c.args.window.now.sight.log
    (own c.args.window.now) c.args.stays.now c.args.number c.args.window.now.book.now.begun.book c.loop.window.sight.log c.loop.invariant.sees.log
    (own c.loop.window) c.loop.stays c.args.place c.loop.word c.loop.pair c.loop.invariant.stands (c.loop.invariant.scans began taken) live c.in-Some-pair.stored
    c.in-Some-pair.is had c.call_closure.new.stays (false ≡ false) (subst (λ (b : Bool). Judges g.F.FnMut c.loop.stays c.in-Some-pair.stored b c.call_closure.new.stays) c.if-call_closure.true c.call_closure.ensures.shown)

pub bury-found-requires-clause-table : goal.bury-found-requires-clause-table
bury-found-requires-clause-table g c = table_on c.args.window.now c.loop.window c.args.number c.args.table.now c.loop.invariant.sees c.requires.table

pub bury-found-requires-clause-stood : goal.bury-found-requires-clause-stood
bury-found-requires-clause-stood g c =
    let hash = hash_of g.K.Hash.hash_input g.S.BuildHasher.build_hasher g.S.Hasher.Hasher.write g.S.Hasher.Hasher.finish in
    let stands = subst (λ (z : Bor (Book _ _ _ _)). IsSlot g.K.PartialEq.eq hash (begun_of z.now.parts) z.now.begun.book c.args.number c.args.place
    c.loop.word c.loop.window.sight.log c.loop.pair) (sym c.loop.invariant.sees.book) c.loop.invariant.stands in
    subst (λ (o : Option (Stored _ _)). IsSlot g.K.PartialEq.eq hash (begun_of c.loop.window.book.now.parts) c.loop.window.book.now.begun.book
    c.args.number c.args.place c.loop.word c.loop.window.sight.log o) c.in-Some-pair.is stands

pub bury-found-requires-clause-taken : goal.bury-found-requires-clause-taken
bury-found-requires-clause-taken g c = (
  c.requires.taken.0,
  taken_on c.requires.taken.0 c.args.window.now c.loop.window c.args.number c.loop.invariant.sees c.requires.taken.1,
)

pub bury-found-requires-clause-open : goal.bury-found-requires-clause-open
bury-found-requires-clause-open g c = rw c.loop.invariant.sees.book c.requires.open

pub returns-then-found-word-clause-scans : goal.returns-then-found-word-clause-scans
returns-then-found-word-clause-scans g c = λ began taken.
    let hash = hash_of g.K.Hash.hash_input g.S.BuildHasher.build_hasher g.S.Hasher.Hasher.write g.S.Hasher.Hasher.finish in
    let then' = c.bury-found.new.window in
    let live : kind_of c.loop.word ≡ kinds.Live = sym c.kind.ensures ∙ c.in-Live.is in
    let met = (c.loop.invariant.met began taken).had (ap has_pair live) in
    let same = some_same met.0 c.in-Some-pair.stored (sym met.1 ∙ c.in-Some-pair.is) in
    let had = subst (λ (p : Stored _ _). HadPair g.K.PartialEq.eq (history_of began) (history_of c.loop.window.sight.log) p) same met.2 in
    let stood = same_word c.bury-found.result.0 c.loop.word c.if-found-word.true in
    let lawful = subst (λ (z : Bor (Book _ _ _ _)). IsLawfulLog g.K.PartialEq.eq hash (begun_of z.now.parts) then'.sight.log)
    (c.bury-found.ensures.sees.book ∙ c.loop.invariant.sees.book) c.bury-found.ensures.lawful in
    let does = subst (λ (b : Bool). then'.own.done ≡ c.loop.window.own.done ++ last_if b (steps_of then'.sight.log)) stood c.bury-found.ensures.does in
    so_buried g.K.PartialEq.eq g.K.Hash.hash_input g.S.BuildHasher.build_hasher g.S.Hasher.Hasher.write g.S.Hasher.Hasher.finish g.met.K.Eq.laws
    g.met.K.Hash.respects_eq (begun_of c.args.window.now.book.now.parts) (Judges g.F.FnMut) began c.args.window.now.sight.log
    (own c.args.window.now) c.args.stays.now c.args.number c.args.window.now.book.now.begun.book c.loop.window.sight.log c.loop.invariant.sees.log
    (own c.loop.window) c.loop.stays c.args.place c.loop.word c.loop.pair c.loop.invariant.stands (c.loop.invariant.scans began taken) live c.in-Some-pair.stored
    c.in-Some-pair.is had c.call_closure.new.stays (false ≡ false) (subst (λ (b : Bool). Judges g.F.FnMut c.loop.stays c.in-Some-pair.stored b c.call_closure.new.stays) c.if-call_closure.false c.call_closure.ensures.shown)
    then'.sight.log c.bury-found.ensures.sees.log lawful
    (c.bury-found.ensures.buried stood) (own then')
    (λ r. burial_done then'.sight.log c.args.number c.args.place c.in-Some-pair.stored r c.loop.window.own.done then'.own.done does)

pub loop-preserved : goal.loop-preserved
loop-preserved g c =
    let hash = hash_of g.K.Hash.hash_input g.S.BuildHasher.build_hasher g.S.Hasher.Hasher.write g.S.Hasher.Hasher.finish in
    let then' = c.bury-found.new.window in
    let live : kind_of c.loop.word ≡ kinds.Live = sym c.kind.ensures ∙ c.in-Live.is in
    let lost = other_word c.bury-found.result.0 c.loop.word c.if-found-word.false in
    let does = subst (λ (b : Bool). then'.own.done ≡ c.loop.window.own.done ++ last_if b (steps_of then'.sight.log)) lost c.bury-found.ensures.does
    in record {
      sees = sees_trans c.args.window.now c.loop.window then' c.loop.invariant.sees c.bury-found.ensures.sees;
      callable = c.call_closure.ensures.callable;
      stands = subst (λ (z : Bor (Book _ _ _ _)).
          IsSlot g.K.PartialEq.eq hash (begun_of z.now.parts) z.now.begun.book c.args.number c.args.place c.bury-found.result.0 then'.sight.log
          c.bury-found.result.1) c.loop.invariant.sees.book (c.bury-found.ensures.found lost);
      met = λ began taken. c.bury-found.ensures.met began (taken_on began c.args.window.now c.loop.window c.args.number c.loop.invariant.sees taken);
      scans = λ began taken.
          let met = (c.loop.invariant.met began taken).had (ap has_pair live) in
          let same = some_same met.0 c.in-Some-pair.stored (sym met.1 ∙ c.in-Some-pair.is) in
          let had = subst (λ (p : Stored _ _). HadPair g.K.PartialEq.eq (history_of began) (history_of c.loop.window.sight.log) p) same met.2 in
          scans_on began (Judges g.F.FnMut) c.args.number c.args.window.now c.loop.window then' c.args.stays.now c.call_closure.new.stays
          c.args.place c.args.place (Unit {0})
          (so_shown g.K.PartialEq.eq g.K.Hash.hash_input g.S.BuildHasher.build_hasher g.S.Hasher.Hasher.write g.S.Hasher.Hasher.finish g.met.K.Eq.laws
          g.met.K.Hash.respects_eq (begun_of c.args.window.now.book.now.parts) (Judges g.F.FnMut) began c.args.window.now.sight.log
          (own c.args.window.now) c.args.stays.now c.args.number c.args.window.now.book.now.begun.book c.loop.window.sight.log
          c.loop.invariant.sees.log (own c.loop.window) c.loop.stays c.args.place c.loop.word c.loop.pair c.loop.invariant.stands
          (c.loop.invariant.scans began taken) live c.in-Some-pair.stored c.in-Some-pair.is had c.call_closure.new.stays
          (subst (λ (b : Bool). Judges g.F.FnMut c.loop.stays c.in-Some-pair.stored b c.call_closure.new.stays) c.if-call_closure.false c.call_closure.ensures.shown))
          c.bury-found.ensures.sees (does ∙ append-nil c.loop.window.own.done);
    }
