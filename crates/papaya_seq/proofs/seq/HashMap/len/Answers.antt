use Rattle.std.proofs.Common.{◌≡◌, ◌≤◌, ◌∙◌, ℕ, Some, [], ap, arith, length, subst}
use Rattle.papaya_words_keys.specs.Hashes.{hash_of}
use Rattle.papaya_seq.proofs.Limits.{made_most}
use Rattle.papaya_words.specs.Counter.{count_of}
use Rattle.papaya_words_law.specs.Content.{AreApart}
use Rattle.papaya_core_timeline.specs.Content.{content}
use Rattle.papaya_core_timeline.proofs.CountedCore.{lawful_apart}
use Rattle.papaya_seq.specs.Map.{MapState, core_of}
use Rattle.papaya_seq.proofs.Counting.{counted_sum}
use Rattle.papaya_seq.proofs.seq.HashMap.len.Goals as goal

pub returns-clause-count : goal.returns-clause-count
returns-clause-count g c =
    c.count.ensures.value
    ∙ ap count_of (counted_sum g.K.PartialEq.eq c.self.inside.store c.self.invariant.counted c.count.ensures.fits)
    ∙ ap (λ (s : MapState g.row.K.Denot g.row.V.Denot g.row.S.Denot). length (content g.K.PartialEq.eq s.store)) c.self.view_is

pub returns-clause-apart : goal.returns-clause-apart
returns-clause-apart g c =
    subst (λ (s : MapState g.row.K.Denot g.row.V.Denot g.row.S.Denot). AreApart g.K.PartialEq.eq (λ p. p.key) (content g.K.PartialEq.eq s.store)) c.self.view_is
    (lawful_apart g.K.PartialEq.eq g.K.Hash.hash_input g.S.BuildHasher.build_hasher g.S.Hasher.Hasher.write g.S.Hasher.Hasher.finish g.met.K.Eq.laws
    g.met.K.Hash.respects_eq (core_of (record { store = c.self.inside.store; mode = c.self.inside.mode; initial = c.self.inside.initial }))
    c.self.invariant.lawful)

pub returns-clause-limit : goal.returns-clause-limit
returns-clause-limit g c =
    subst (λ (s : MapState g.row.K.Denot g.row.V.Denot g.row.S.Denot). (n : ℕ) → s.mode.limit ≡ Some n → length s.store.pairs ≤ n) c.self.view_is (λ n is.
    let each = c.self.invariant.numbered n is in
    let most = made_most g.K.PartialEq.eq (hash_of g.K.Hash.hash_input g.S.BuildHasher.build_hasher g.S.Hasher.Hasher.write g.S.Hasher.Hasher.finish
    c.self.inside.store.hasher) [] c.self.inside.mode c.self.inside.store c.self.invariant.lawful n is in
    omega (arith, each, most))
