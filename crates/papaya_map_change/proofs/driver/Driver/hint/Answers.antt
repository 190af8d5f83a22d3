use Rattle.std.proofs.Common.{◌<◌, MatchOption, Option, length, subst}
use denote.Bor.{Bor}
use Rattle.papaya_map_book.specs.Calls.{IsTable}
use Rattle.papaya_map_book.specs.Sheets.{Sheet}
use Rattle.papaya_map_change.proofs.driver.Driver.hint.Goals as goal

pub unreachable-requires : goal.unreachable-requires
unreachable-requires g c = subst (λ (o : Option (Bor Sheet)).
    MatchOption o ⊥ (λ z. IsTable c.args.window.now.sight.log c.args.number z.now × (c.args.place < length z.now.slots))) c.in_default.is c.requires

pub hint-requires : goal.hint-requires
hint-requires g c =
    let held = subst (λ (o : Option (Bor Sheet)).
    MatchOption o ⊥ (λ z. IsTable c.args.window.now.sight.log c.args.number z.now × (c.args.place < length z.now.slots))) c.in-Some.is c.requires in
    record { table = held.0; place = held.1 }
