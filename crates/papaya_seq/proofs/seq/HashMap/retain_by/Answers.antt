use Rattle.std.proofs.Common.{◌≡◌, Bool, refl, sym, ◌∙◌, subst, arith}
use Rattle.papaya_words_law.specs.Content.{AreApart}
use Rattle.papaya_core_timeline.specs.Content.{content}
use Rattle.papaya_core_store.specs.Store.{StoreState}
use Rattle.papaya_core_timeline.proofs.CountedCore.{lawful_apart}
use Rattle.papaya_seq.specs.Map.{MapState, Unchanged, core_of, next_of, slots_of}
use Rattle.papaya_seq.proofs.RetainSteps.{retaining_ends}
use Rattle.papaya_seq.proofs.seq.HashMap.retain_by.Goals as goal
use Rattle.papaya_seq.proofs.seq.HashMap.retain_by.Goals.{then-resizing+in_ok-copy_all, else-resizing}

-- no pairs are being moved, and the map has the pairs that it had
pub record IsStill {K V S : Type 0} (eq : K → K → Bool) (s s' : StoreState K V S) : Type 0 where
  pub last : next_of s' ≡ 0
  pub unchanged : Unchanged eq s s'
  pub alone : next_of s ≡ 0 → s' ≡ s

pub returns-clause-ok : goal.returns-clause-ok
returns-clause-ok g c =
    let still : IsStill g.K.PartialEq.eq c.args.self.now.store c.if-resizing.self.store = elim c.if-resizing.branch [
      | then-resizing+in_ok-copy_all w ↦ subst (λ (y : MapState g.row.K.Denot g.row.V.Denot g.row.S.Denot).
          IsStill g.K.PartialEq.eq c.args.self.now.store y.store) (sym w.self-is) (record {
            last = w.in_ok-copy_all.ensures.ok;
            unchanged = w.copy_all.ensures.map;
            alone = λ none. absurd (w.if-resizing.ensures none);
          })
      | else-resizing w ↦ subst (λ (y : MapState g.row.K.Denot g.row.V.Denot g.row.S.Denot). IsStill g.K.PartialEq.eq c.args.self.now.store y.store)
          (sym w.self-is) (record { last = w.if-resizing.ensures; unchanged = λ j. refl; alone = λ none. refl })
    ] in
    let apart : AreApart g.K.PartialEq.eq (λ p. p.key)
    (content g.K.PartialEq.eq c.if-resizing.self.store) =
    subst (λ (y : MapState g.row.K.Denot g.row.V.Denot g.row.S.Denot). AreApart g.K.PartialEq.eq (λ p. p.key) (content g.K.PartialEq.eq y.store))
    c.self-2.view_is
    (lawful_apart g.K.PartialEq.eq g.K.Hash.hash_input g.S.BuildHasher.build_hasher g.S.Hasher.Hasher.write g.S.Hasher.Hasher.finish g.met.K.Eq.laws
    g.met.K.Hash.respects_eq (core_of (record { store = c.self-2.inside.store; mode = c.self-2.inside.mode; initial = c.self-2.inside.initial }))
    c.self-2.invariant.lawful) in
    let past = c.loop-slot-test.false in
    let most = c.loop-slot.invariant.1 in
    let all : c.loop-slot.slot ≡ slots_of c.if-resizing.self.store = let end : c.loop-slot.slot ≡ c.slots-slots.result = omega (arith, past, most) in
    end ∙ c.slots-slots.ensures.slots in
    retaining_ends g.F.FnMut c.if-resizing.self c.args.agrees.now g.K.PartialEq.eq c.args.self.now.store still.last still.unchanged still.alone apart
    c.loop-slot.slot all c.loop-slot.self c.loop-slot.agrees c.loop-slot.invariant.2
