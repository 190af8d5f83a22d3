use Rattle.std.proofs.Common.{subst}
use Rattle.papaya_words_law.specs.Content.{AreApart}
use Rattle.papaya_core_timeline.specs.Content.{content}
use Rattle.papaya_core_timeline.specs.Core.{CoreState}
use Rattle.papaya_core_timeline.proofs.CountedCore.{lawful_apart}
use Rattle.papaya_core.specs.Limits.{IsWithin}
use Rattle.papaya_core.proofs.NumbersTaken.{core_within}
use Rattle.papaya_words_keys.specs.Hashes.{hash_of}
use Rattle.papaya_core.proofs.schedule.Core.running.Goals as goal

pub returns-clause-apart : goal.returns-clause-apart
returns-clause-apart g c =
    let s : CoreState _ _ _ _ = record {
      store = c.self.inside.store;
      callers = c.self.inside.callers;
      mode = c.self.inside.mode;
      initial = c.self.inside.initial;
    } in
    subst (λ (y : CoreState _ _ _ _). AreApart g.K.PartialEq.eq (λ p. p.key) (content g.K.PartialEq.eq y.store)) c.self.view_is
    (lawful_apart g.K.PartialEq.eq g.K.Hash.hash_input g.S.BuildHasher.build_hasher g.S.Hasher.Hasher.write g.S.Hasher.Hasher.finish g.met.K.Eq.laws
    g.met.K.Hash.respects_eq s c.self.invariant.0)

pub returns-clause-limit : goal.returns-clause-limit
returns-clause-limit g c =
    let s : CoreState _ _ _ _ = record {
      store = c.self.inside.store;
      callers = c.self.inside.callers;
      mode = c.self.inside.mode;
      initial = c.self.inside.initial;
    } in
    subst (λ (y : CoreState _ _ _ _). IsWithin y) c.self.view_is
    (core_within g.K.PartialEq.eq (hash_of g.K.Hash.hash_input g.S.BuildHasher.build_hasher g.S.Hasher.Hasher.write g.S.Hasher.Hasher.finish
    c.self.inside.store.hasher) s c.self.invariant.0)
