use Rattle.std.proofs.Common.{rules, ◌≡◌, ℕ, ◌+◌, ◌<◌, ◌≤◌, ◌^◌, [], length, sym, ◌∙◌, ap, subst, arith}
use Rattle.papaya_call.specs.declared.ask.At.TheVariants.{Next}
use Rattle.papaya_words.specs.declared.resize_mode.ResizeMode.TheVariants.{Incremental, Blocking}
use Rattle.papaya_words_keys.specs.Hashes.{hash_of}
use Rattle.papaya_core_store.specs.Tables.{table_of, word_at}
use Rattle.papaya_core_timeline.proofs.KeptCore.{keys_lawful}
use Rattle.papaya_core_timeline.proofs.KeptSettings.{IsLawfulKeys}
use Rattle.papaya_seq.specs.Map.{IsLawfulMap, MapState, slots_in}
use Rattle.papaya_seq.specs.Walks.{IsPosition, left_to}
use Rattle.papaya_seq.proofs.WalkSteps.{here_next, here_none, next_left, next_rises, next_stands, over_blocking, over_last, stand_same}
use Rattle.papaya_seq.proofs.seq.HashMap.next_pair.Goals as goal
use Rattle.papaya_seq.proofs.seq.HashMap.next_pair.Goals.{Else-is_some, Else-next-eq0, in-Incremental, in-Blocking}
use Rattle.papaya_seq.proofs.seq.HashMap.next_pair.Given.{Over}

module _ (g : Over) where
  abbrev Map : Type 0
  Map = MapState g.row.K.Denot g.row.V.Denot g.row.S.Denot

  abbrev key_hash : g.row.S.Denot → g.row.K.Denot → ℕ
  key_hash = hash_of g.K.Hash.hash_input g.S.BuildHasher.build_hasher g.S.Hasher.Hasher.write g.S.Hasher.Hasher.finish

  abbrev Orderly : Map → Type 0
  Orderly s = IsLawfulMap g.K.PartialEq.eq (key_hash s.store.hasher) s.store s.mode s.initial

  keys : (s : Map) → IsLawfulKeys g.K.PartialEq.eq (key_hash s.store.hasher)
  keys s = keys_lawful g.K.PartialEq.eq g.K.Hash.hash_input g.S.BuildHasher.build_hasher g.S.Hasher.Hasher.write g.S.Hasher.Hasher.finish
      g.met.K.Eq.laws g.met.K.Hash.respects_eq s.store.hasher

  -- the map is in order
  orderly : (c : Else-is_some g) → Orderly c.args.self.now
  orderly c = subst Orderly c.self.view_is c.self.invariant

  -- the table returned nothing more
  behind : (c : Else-is_some g) → (left_to g.K.PartialEq.eq c.args.self.now.store c.loop-self.at ≡ left_to g.K.PartialEq.eq c.args.self.now.store
      c.next_here-pair.new.at) × (slots_in (table_of c.args.self.now.store.words.tables c.next_here-pair.new.at.table) ≤ c.next_here-pair.new.at.slot)
  behind c = here_none g.K.PartialEq.eq c.args.self.now.store c.loop-self.at c.next_here-pair.new.at c.next_here-pair.result
      c.next_here-pair.ensures.next (search rules)

  stands : (c : Else-is_some g) → IsPosition c.args.self.now c.next_here-pair.new.at
  stands c = stand_same c.args.self.now c.loop-self.at c.next_here-pair.new.at c.next_here-pair.ensures.same.0 c.next_here-pair.ensures.same.1
      c.loop-self.invariant.0

  -- the next table is there
  pub record IsMoved (c : Else-next-eq0 g) : Type 0 where
    pub next_is : c.match-self.next ≡ word_at c.args.self.now.store.words (Next c.next_here-pair.new.at.table)
    pub some : word_at c.args.self.now.store.words (Next c.next_here-pair.new.at.table) ≡ 0 → ⊥
    pub going : c.args.self.now.mode.resize ≡ Blocking → ⊥
    pub low : c.match-self.next < 2 ^ 64

  moved : (c : Else-next-eq0 g) → IsMoved c
  moved c = elim c.match-self.branch [
    | in-Incremental w ↦
        let is : c.match-self.next ≡ word_at c.args.self.now.store.words (Next c.next_here-pair.new.at.table) = w.next-is ∙ w.word-next.ensures
        ∙ ap (λ (y : Map). word_at y.store.words (Next c.next_here-pair.new.at.table)) c.self.view_is in
        let fits = w.word-next.type_inv in
        let next_is = w.next-is in
        record {
          next_is = is;
          some = λ none. c.if-next-eq0.false (is ∙ none);
          going = λ blocks. let mode : Incremental w.in-Incremental.field-0 ≡ Blocking = sym w.in-Incremental.is
              ∙ ap (λ (y : Map). y.mode.resize) c.self.view_is ∙ blocks in absurd cc;
          low = omega (arith, fits, next_is);
        }
    | in-Blocking w ↦ absurd (c.if-next-eq0.false w.next-is)
  ]

pub returns-then-is_some-clause-next : goal.returns-then-is_some-clause-next
returns-then-is_some-clause-next g c = here_next g.K.PartialEq.eq c.args.self.now.store c.args.at.now c.loop-self.at c.next_here-pair.new.at
    c.next_here-pair.result c.loop-self.invariant.1 c.next_here-pair.ensures.next (search rules)

pub returns-then-next-eq0-clause-next : goal.returns-then-next-eq0-clause-next
returns-then-next-eq0-clause-next g c =
    let s = c.args.self.now in
    let at = (goal.at.returns-then-next-eq0-clause-next g c).Else-is_some in
    let over : left_to g.K.PartialEq.eq s.store c.next_here-pair.new.at ≡ [] = elim c.match-self.branch [
      | in-Incremental w ↦
          let last : word_at s.store.words (Next c.next_here-pair.new.at.table) ≡ 0 = sym
          (w.next-is ∙ w.word-next.ensures ∙ ap (λ (y : Map g). word_at y.store.words (Next c.next_here-pair.new.at.table)) c.self.view_is)
          ∙ c.if-next-eq0.true in
          over_last g.K.PartialEq.eq (key_hash g s.store.hasher) s (orderly g at).lawful (keys g s) c.next_here-pair.new.at (stands g at) (behind g at).1 last
      | in-Blocking w ↦ over_blocking g.K.PartialEq.eq (key_hash g s.store.hasher) s (orderly g at).lawful (keys g s) c.next_here-pair.new.at
          (stands g at) (behind g at).1 (ap (λ (y : Map g). y.mode.resize) (sym c.self.view_is) ∙ w.in-Blocking.is)
    ] in
    (c.loop-self.invariant.1 ∙ (behind g at).0 ∙ over, over)

-- if the iteration continues
rises : (g : Over) (c : Else-next-eq0 g) → (c.next_here-pair.new.at.table < word_at c.args.self.now.store.words (Next c.next_here-pair.new.at.table))
    × (word_at c.args.self.now.store.words (Next c.next_here-pair.new.at.table) ≤ length c.args.self.now.store.words.tables)
    × (c.next_here-pair.new.at.passed < c.next_here-pair.new.at.table)
rises g c =
    let s = c.args.self.now in
    let at = (goal.at.Else-next-eq0 g c).Else-is_some in
    next_rises g.K.PartialEq.eq (key_hash g s.store.hasher) s (orderly g at).lawful (keys g s) c.next_here-pair.new.at (stands g at) (behind g at).1
    (moved g c).some (moved g c).going

pub overflow_add-at : goal.overflow_add-at
overflow_add-at g c =
    let (up, far, first) = rises g c in
    let move = moved g c in
    let low = move.low in
    let is = move.next_is in
    record { fits = omega (arith, up, first, low, is) }

pub loop-self-smaller : goal.loop-self-smaller
loop-self-smaller g c =
    let (up, far, first) = rises g c in
    let is = (moved g c).next_is in
    let same = c.next_here-pair.ensures.same.0 in
    omega (arith, up, far, is, same)

pub loop-self-preserved : goal.loop-self-preserved
loop-self-preserved g c =
    let s = c.args.self.now in
    let at = (goal.at.loop-self-preserved g c).Else-is_some in
    let move = moved g c in
    let eq = g.K.PartialEq.eq in
    let here = c.next_here-pair.new.at in
    subst (λ t. IsPosition s (record { table = t; slot = 0; passed = here.passed + 1 })
    × (left_to eq s.store c.args.at.now ≡ left_to eq s.store (record { table = t; slot = 0; passed = here.passed + 1 }))) (sym move.next_is) (
      next_stands eq (key_hash g s.store.hasher) s (orderly g at).lawful (keys g s) here (stands g at) (behind g at).1 move.some move.going,
      c.loop-self.invariant.1 ∙ (behind g at).0
          ∙ next_left eq (key_hash g s.store.hasher) s (orderly g at).lawful (keys g s) here (stands g at) (behind g at).1 move.some move.going,
    )
