use Rattle.std.proofs.Common.{sym, subst}
use mathlib.Core.List.{IsPrefix}
use Rattle.papaya_map_book.proofs.Logs.{prefix_trans}
use Rattle.papaya_map_lookup.specs.History.{IsLegalHistory, history_of, key_of}
use Rattle.papaya_map_lookup.proofs.Histories.{history_legal, history_since}
use Rattle.papaya_map.specs.Fixed.{Fixed}
use Rattle.papaya_map.proofs.Frozen.{between_same}
use Rattle.papaya_map.proofs.map.HashMap.into_read_only.Goals as goal

pub invariant_of-result-2 : goal.invariant_of-result-2
invariant_of-result-2 g c =
    let opened = c.self.inside.opened.log in let frozen = c.freeze-writer.new.seen.log in
    let learned = c.learn.new.self.log in let all = c.whole.new.seen.log in let held = c.learn.ensures.4 in
    let begun = subst (λ (z : _). IsPrefix z.log frozen) c.again-sight.ensures
    (subst (λ (log : _). IsPrefix log frozen) c.align.ensures.1 c.freeze-writer.ensures.5) in
    let until = subst (λ (z : _). IsPrefix z.log all) c.again-all.ensures c.whole.ensures.3 in (
      c.freeze-writer.ensures.1,
      sym c.whole.ensures.0,
      prefix_trans opened learned all (prefix_trans opened frozen learned begun c.learn.ensures.2) until,
      subst (IsLegalHistory g.K.PartialEq.eq key_of)
          (between_same _ frozen learned all c.freeze-writer.ensures.2 c.learn.ensures.2 until c.whole.ensures.0)
          (history_legal g.K.PartialEq.eq g.K.Hash.hash_input g.S.BuildHasher.build_hasher g.S.Hasher.Hasher.write g.S.Hasher.Hasher.finish g.met.K.Eq.laws
          g.met.K.Hash.respects_eq held.1.begun learned held.1.lawful),
    )

pub returns-clause-seen : goal.returns-clause-seen
returns-clause-seen g c = subst (λ (z : Fixed g.row.K.Denot g.row.V.Denot g.row.S.Denot). IsPrefix z.seen (history_of c.whole.new.seen.log)) c.self.view_is
    (history_since c.self.inside.opened.log c.whole.new.seen.log (invariant_of-result-2 g c).2)

pub returns-clause-legal : goal.returns-clause-legal
returns-clause-legal g c = (invariant_of-result-2 g c).3
