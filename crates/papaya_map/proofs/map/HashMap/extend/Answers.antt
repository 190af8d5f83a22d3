use Rattle.std.proofs.Common.{List, subst}
use mathlib.Core.List.{IsPrefix}
use Rattle.papaya_map_book.specs.Logs.{Stored}
use Rattle.papaya_map_lookup.specs.History.{Change, IsLegalHistory, key_of}
use Rattle.papaya_map.specs.Collected.{Stores}
use Rattle.papaya_map.proofs.map.HashMap.extend.Goals as goal

pub returns-clause-stored : goal.returns-clause-stored
returns-clause-stored g c =
    let new = c.extend_as-answer.new.pass.history in let its = c.extend_as-answer.ensures in (
      new,
      (
        subst (IsLegalHistory g.K.PartialEq.eq key_of) c.tell.ensures.history c.tell.ensures.legal,
        subst (λ (h : List (Change g.row.K.Denot (Stored g.row.K.Denot g.row.V.Denot))). IsPrefix h new) c.begun-pass.ensures.seen its.seen,
        subst (λ (h : List (Change g.row.K.Denot (Stored g.row.K.Denot g.row.V.Denot))). Stores g.K.PartialEq.eq g.U.IntoIterator.into_iter_gives g.U.IntoIter.Iterator.next_gives (λ items. items) c.args.iter h new c.extend_as-answer.result)
            c.begun-pass.ensures.seen (its.stored, its.cut),
      ),
    )
