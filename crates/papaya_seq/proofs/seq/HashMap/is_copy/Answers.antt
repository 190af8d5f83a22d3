use Rattle.std.proofs.Common.{◌≡◌, ℕ, suc, ◌-◌, ◌<◌, ◌^◌, ◌%◌, Some, sym, ◌∙◌, ap, subst, arith}
use Rattle.papaya_call.specs.declared.ask.At.TheVariants.{Next, Root}
use Rattle.papaya_words_keys.specs.Hashes.{hash_of}
use Rattle.papaya_core_store.specs.Store.{Stored, pair_of}
use Rattle.papaya_core_store.specs.Tables.{word_at}
use Rattle.papaya_core_timeline.proofs.KeptCore.{keys_lawful}
use Rattle.papaya_core_timeline.proofs.KeptSettings.{IsLawfulKeys}
use Rattle.papaya_core_timeline.specs.Kept.{low}
use Rattle.papaya_seq.specs.Map.{IsLawfulMap, MapState}
use Rattle.papaya_seq.specs.Walks.{HasMark, HasNoMark}
use Rattle.papaya_seq.proofs.WalkSteps.{IsPassing, passing_begins, passing_marked, passing_more}
use Rattle.papaya_seq.proofs.seq.HashMap.is_copy.Goals as goal
use Rattle.papaya_seq.proofs.seq.HashMap.is_copy.Goals.{After-word-table}
use Rattle.papaya_seq.proofs.seq.HashMap.is_copy.Given.{Over}

module _ (g : Over) where
  abbrev Map : Type 0
  Map = MapState g.row.K.Denot g.row.V.Denot g.row.S.Denot

  abbrev key_hash : g.row.S.Denot → g.row.K.Denot → ℕ
  key_hash = hash_of g.K.Hash.hash_input g.S.BuildHasher.build_hasher g.S.Hasher.Hasher.write g.S.Hasher.Hasher.finish

  abbrev Orderly : Map → Type 0
  Orderly s = IsLawfulMap g.K.PartialEq.eq (key_hash s.store.hasher) s.store s.mode s.initial

  keys : (s : Map) → IsLawfulKeys g.K.PartialEq.eq (key_hash s.store.hasher)
  keys s = keys_lawful g.K.PartialEq.eq g.K.Hash.hash_input g.S.BuildHasher.build_hasher g.S.Hasher.Hasher.write g.S.Hasher.Hasher.finish
      g.met.K.Eq.laws g.met.K.Hash.respects_eq s.store.hasher

  -- the map is in order
  orderly : (c : After-word-table g) → Orderly c.args.self.now
  orderly c = subst Orderly c.self.view_is c.self.invariant

  -- the hash is that of the pair's key
  hashed : (c : After-word-table g) (p : Stored g.row.K.Denot g.row.V.Denot) → pair_of c.args.self.now.store c.args.pair ≡ Some p
      → c.hash-hash.result ≡ low (key_hash c.args.self.now.store.hasher) p.key
  hashed c p logged =
      let key : p.key ≡ c.in-Some.key.now = let both : Some p ≡ Some
      (record { number = c.args.pair; key = c.in-Some.key.now; value = c.in-Some.field-0-1.now }) = sym logged
      ∙ ap (λ (y : Map). pair_of y.store c.args.pair) (sym c.self.view_is) ∙ c.in-Some.ensures in cc in
      let is : c.hash-hash.result ≡ key_hash c.args.self.now.store.hasher p.key = c.hash-hash.ensures.value
      ∙ ap (λ (y : Map). key_hash y.store.hasher c.in-Some.key.now) c.self.view_is ∙ ap (key_hash c.args.self.now.store.hasher) (sym key) in
      let fits : c.hash-hash.result < 2 ^ 64 = c.hash-hash.ensures.fits in
      let small : c.hash-hash.result % 2 ^ 64 ≡ c.hash-hash.result = omega (arith, fits) in
      sym small ∙ ap (λ n. n % 2 ^ 64) is

  -- one table fewer is left
  fewer : (s : Map) (n : ℕ) → 0 < n → n ≡ suc (n - 1)
  fewer s n some = omega (arith, some)

pub loop-passed-init : goal.loop-passed-init
loop-passed-init g c =
    let s = c.args.self.now in
    subst (λ t. IsPassing s.store g.K.PartialEq.eq c.args.pair c.args.at t c.args.at.passed)
    (sym (c.word-table.ensures ∙ ap (λ (y : Map g). word_at y.store.words Root) c.self.view_is))
    (passing_begins g.K.PartialEq.eq (key_hash g s.store.hasher) s (orderly g c).lawful (keys g s) c.args.at c.requires.stands c.args.pair c.requires.word)

pub returns-then-marks : goal.returns-then-marks
returns-then-marks g c p logged =
    let s = c.args.self.now in
    let passing = subst (IsPassing s.store g.K.PartialEq.eq c.args.pair c.args.at c.loop-passed.table)
    (fewer g s c.loop-passed.passed c.loop-passed-test.true) c.loop-passed.invariant in
    passing_marked g.K.PartialEq.eq (key_hash g s.store.hasher) s (orderly g (goal.at.returns-then-marks g c).After-word-table).lawful (keys g s)
    c.args.at c.requires.stands c.args.pair c.requires.word c.hash-hash.result c.loop-passed.table (c.loop-passed.passed - 1) passing
    (subst (λ (y : Map g). HasMark y.store c.loop-passed.table c.args.pair) c.self.view_is c.if-marks.ensures) p logged

pub loop-passed-preserved : goal.loop-passed-preserved
loop-passed-preserved g c =
    let s = c.args.self.now in
    let at = goal.at.loop-passed-preserved g c in
    let passing = subst (IsPassing s.store g.K.PartialEq.eq c.args.pair c.args.at c.loop-passed.table)
    (fewer g s c.loop-passed.passed c.loop-passed-test.true) c.loop-passed.invariant in
    subst (λ t. IsPassing s.store g.K.PartialEq.eq c.args.pair c.args.at t (c.loop-passed.passed - 1))
    (sym (c.word-table-in-loop-passed.ensures ∙ ap (λ (y : Map g). word_at y.store.words (Next c.loop-passed.table)) c.self.view_is))
    (passing_more g.K.PartialEq.eq (key_hash g s.store.hasher) s (orderly g at.After-word-table).lawful (keys g s) c.args.at c.requires.stands
    c.args.pair c.requires.word c.hash-hash.result c.loop-passed.table (c.loop-passed.passed - 1) passing
    (hashed g at.After-word-table) (subst (λ (y : Map g). HasNoMark y.store c.hash-hash.result c.loop-passed.table c.args.pair) c.self.view_is
    c.if-marks.ensures))

pub returns : goal.returns
returns g c p logged =
    let s = c.args.self.now in
    let none : c.loop-passed.passed ≡ 0 = let past = c.loop-passed-test.false in omega (arith, past) in
    let passing = subst (IsPassing s.store g.K.PartialEq.eq c.args.pair c.args.at c.loop-passed.table) none c.loop-passed.invariant in
    sym (passing.same p logged)
