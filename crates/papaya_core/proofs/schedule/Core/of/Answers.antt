use Rattle.std.proofs.Common.{refl}
use Rattle.papaya_core_store.specs.declared.store.Mode.{Mode}
use Rattle.papaya_core_timeline.proofs.CoreLemmas.{new-core}
use Rattle.papaya_core_timeline.proofs.CountedLemmas.{counted_new, new_content}
use Rattle.papaya_core_timeline.proofs.KeptCore.{new_lawful}
use Rattle.papaya_core.proofs.schedule.Core.of.Goals as goal

pub invariant_of-result : goal.invariant_of-result
invariant_of-result g c =
    let (allowed, made, few) = c.in_ok-store.ensures.ok in
    let mode : Mode = record { resize = c.args.mode; limit = c.args.limit } in (
      new_lawful g.K.PartialEq.eq g.K.Hash.hash_input g.S.BuildHasher.build_hasher g.S.Hasher.Hasher.write g.S.Hasher.Hasher.finish g.met.K.Eq.laws
          g.met.K.Hash.respects_eq
          mode c.args.capacity c.in_ok-store.initial c.in_ok-store.store c.new.result
          (new-core c.in_ok-store.store c.new.result mode c.args.capacity c.in_ok-store.initial allowed.0 c.requires made.initial.0 few made.words
          c.new.ensures)
          made.words made.pairs c.new.ensures,
      counted_new c.in_ok-store.store made.pairs g.K.PartialEq.eq c.new.result made.sum c.new.ensures,
      made.initial.0,
    )

pub returns-clause-ok : goal.returns-clause-ok
returns-clause-ok g c =
    let (allowed, made, few) = c.in_ok-store.ensures.ok in (allowed, record { store_is = made; mode_is = refl; callers = c.new.ensures })

pub returns-clause-counted : goal.returns-clause-counted
returns-clause-counted g c =
    let (allowed, made, few) = c.in_ok-store.ensures.ok in counted_new c.in_ok-store.store made.pairs g.K.PartialEq.eq c.new.result made.sum c.new.ensures

pub returns-clause-content : goal.returns-clause-content
returns-clause-content g c = let (allowed, made, few) = c.in_ok-store.ensures.ok in new_content c.in_ok-store.store made.pairs g.K.PartialEq.eq
