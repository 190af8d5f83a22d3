use Rattle.std.proofs.Common.{◌<◌, ◌==◌, MatchOption, Option, length, subst}
use denote.Bor.{Bor}
use Rattle.papaya_call.specs.declared.ask.StepKind.{StepKind}
use Rattle.papaya_map_book.specs.Calls.{IsTable}
use Rattle.papaya_map_book.specs.Sheets.{Sheet}
use Rattle.papaya_map_book.specs.Windows.{TriesSlot}
use Rattle.papaya_map_change.proofs.Doing.{tried}
use Rattle.papaya_map_change.proofs.driver.Driver.bury.Goals as goal

pub unreachable-requires : goal.unreachable-requires
unreachable-requires g c = subst (λ (o : Option (Bor Sheet)).
    MatchOption o ⊥ (λ z. IsTable c.args.window.now.sight.log c.args.number z.now × (c.args.place < length z.now.slots))) c.in_default.is c.requires.held

pub exchange_slot-found-requires : goal.exchange_slot-found-requires
exchange_slot-found-requires g c =
    let held = subst (λ (o : Option (Bor Sheet)).
    MatchOption o ⊥ (λ z. IsTable c.args.window.now.sight.log c.args.number z.now × (c.args.place < length z.now.slots))) c.in-Some.is c.requires.held in
    record { table = held.0; place = held.1; «open» = c.requires.open; can = rw c.kind-kind.ensures c.requires.can }

pub returns-clause-buries : goal.returns-clause-buries
returns-clause-buries g c =
    let found = c.exchange_slot-found in (
      found.result.0,
      found.result.1,
      subst (λ (z : Option StepKind). TriesSlot c.args.window.now found.new.self c.args.number c.args.place z c.args.words found.result.0
          found.result.1) c.kind-kind.ensures found.ensures.tried,
      c.tried.ensures,
    )

pub returns-clause-does : goal.returns-clause-does
returns-clause-does g c = tried (c.exchange_slot-found.result.0 == c.args.words.0) c.tried.result _ _ c.exchange_slot-found.result.0 c.tried.ensures
    c.args.window.now c.exchange_slot-found.new.self c.exchange_slot-found.ensures.does
