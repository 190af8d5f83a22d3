use Rattle.std.proofs.Common.{Option, sym, ap, ◌∙◌, subst}
use denote.Bor.{Bor}
use Rattle.papaya_map_book.specs.declared.book.Book.{Book}
use Rattle.papaya_map_book.specs.Calls.{IsTableOf}
use Rattle.papaya_map_book.specs.Hashes.{hash_of}
use Rattle.papaya_map_book.specs.Logs.{is_blocking}
use Rattle.papaya_map_book.specs.Parts.{begun_of}
use Rattle.papaya_map_book.specs.Rule.{IsLawfulLog}
use Rattle.papaya_map_book.specs.Sheets.{Sheet}
use Rattle.papaya_map_book.proofs.Loaded.{table_since}
use Rattle.papaya_map_book.proofs.Logs.{prefix_trans}
use Rattle.papaya_map_scan.specs.Taking.{IsTaken}
use Rattle.papaya_map_scan.proofs.TableScans.{number_some}
use Rattle.papaya_map_scan.proofs.Taken.{takes_found, takes_last}
use Rattle.papaya_map_scan.proofs.root.take_root.Goals as goal

pub returns-in-Blocking-clause-taken : goal.returns-in-Blocking-clause-taken
returns-in-Blocking-clause-taken g c =
    let w = c.root-number.new.self in let log = w.sight.log in let number = c.root-number.result.0 in let root = c.root-number.ensures.root in
    let names = subst (λ (o : Option (Bor Sheet)). IsTableOf c.loop.window.book.now.begun.book number log o) c.in-Some-held.is root.names in
    takes_found g.K.PartialEq.eq g.K.Hash.hash_input g.S.BuildHasher.build_hasher g.S.Hasher.Hasher.write g.S.Hasher.Hasher.finish g.met.K.Eq.laws
    g.met.K.Hash.respects_eq (begun_of w.book.now.parts) c.args.window.now.sight.log log
    (prefix_trans c.args.window.now.sight.log c.loop.window.sight.log log c.loop.invariant.sees.log c.root-number.ensures.sees.log)
    (ap is_blocking c.in-Blocking.is) number (number_some log number c.in-Some-held.table.now names.0) root.is

pub returns-then-next-eq0-clause-table : goal.returns-then-next-eq0-clause-table
returns-then-next-eq0-clause-table g c =
    let log = c.root-number.new.self.sight.log in let number = c.root-number.result.0 in
    let names = subst (λ (o : Option (Bor Sheet)). IsTableOf c.loop.window.book.now.begun.book number log o) c.in-Some-held.is
    c.root-number.ensures.root.names in
    table_since log c.next-next.new.self.sight.log number c.in-Some-held.table.now c.next-next.ensures.sees.log names.0

pub returns-then-next-eq0-clause-taken : goal.returns-then-next-eq0-clause-taken
returns-then-next-eq0-clause-taken g c =
    let hash = hash_of g.K.Hash.hash_input g.S.BuildHasher.build_hasher g.S.Hasher.Hasher.write g.S.Hasher.Hasher.finish in
    let log = c.root-number.new.self.sight.log in let then' = c.next-next.new.self.sight.log in let number = c.root-number.result.0 in
    let root = c.root-number.ensures.root in
    let names = subst (λ (o : Option (Bor Sheet)). IsTableOf c.loop.window.book.now.begun.book number log o) c.in-Some-held.is root.names in
    let lawful = subst (λ (z : Bor (Book _ _ _ _)). IsLawfulLog g.K.PartialEq.eq hash (begun_of z.now.parts) then') c.root-number.ensures.sees.book
    c.next-next.ensures.next.lawful in
    subst (λ (z : Bor (Book _ _ _ _)). IsTaken (begun_of z.now.parts) c.args.window.now.sight.log then' number)
    (sym (c.next-next.ensures.sees.book ∙ c.root-number.ensures.sees.book))
    (takes_last g.K.PartialEq.eq g.K.Hash.hash_input g.S.BuildHasher.build_hasher g.S.Hasher.Hasher.write g.S.Hasher.Hasher.finish g.met.K.Eq.laws
    g.met.K.Hash.respects_eq (begun_of c.loop.window.book.now.parts) c.args.window.now.sight.log log then'
    (prefix_trans c.args.window.now.sight.log c.loop.window.sight.log log c.loop.invariant.sees.log c.root-number.ensures.sees.log)
    c.next-next.ensures.sees.log root.lawful lawful number (number_some log number c.in-Some-held.table.now names.0) root.is
    (c.next-next.ensures.next.is ∙ c.if-next-eq0.true))
