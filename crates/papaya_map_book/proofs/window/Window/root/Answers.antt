use Rattle.std.proofs.Common.{◌≡◌, subst}
use Rattle.logbook.specs.Pages.{Book}
use Rattle.papaya_map_book.specs.Calls.{IsTableOf}
use Rattle.papaya_map_book.proofs.Kept.{kept_table}
use Rattle.papaya_map_book.proofs.Logs.{prefix_trans}
use Rattle.papaya_map_book.proofs.window.Window.root.Goals as goal

pub returns-then-found-kept-clause-root : goal.returns-then-found-kept-clause-root
returns-then-found-kept-clause-root g c =
    let r = c.read-found.ensures.read in let k = c.kept.inside in let log = c.read-found.new.sight.log in let found = c.read-found.result.0 in
    let book : k.sight.book ≡ c.args.self.now.book.now.begun.book = cc (c.kept.view_is, c.args.self.now.kept_book) in
    let pre = prefix_trans k.sight.log c.learn-2.new.self.log log c.learn-2.ensures.3 c.read-found.ensures.seen in
    let names = kept_table k.sight.book k.sight.log log pre k.number found c.if-found-kept.true k.table c.kept.invariant in
    record { lawful = r.lawful; is = r.is; names = subst (λ (n : Book). IsTableOf n found log k.table) book names }
