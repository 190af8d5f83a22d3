use Rattle.std.proofs.Common.{rules, ◌≡◌, ◌⊎◌, ℕ, true, false, inl, inr, sym, ◌∙◌, ap, subst}
use Rattle.papaya_words_keys.specs.Hashes.{hash_of}
use Rattle.papaya_words.specs.Word.{kind_of, pair_of as number_of}
use Rattle.papaya_words.specs.declared.word.Kind.TheVariants.{Live, Marked}
use Rattle.papaya_call.specs.declared.ask.At.TheVariants.{Slot}
use Rattle.papaya_core_store.specs.Store.{pair_of}
use Rattle.papaya_core_store.specs.Tables.{word_at}
use Rattle.papaya_core_timeline.proofs.KeptCore.{keys_lawful}
use Rattle.papaya_core_timeline.proofs.KeptSettings.{IsLawfulKeys}
use Rattle.papaya_seq.specs.Map.{IsLawfulMap, MapState}
use Rattle.papaya_seq.specs.Walks.{has_in}
use Rattle.papaya_seq.proofs.Searching.{slot_read}
use Rattle.papaya_seq.proofs.WalkSteps.{held_within, word_bare, word_before, word_given}
use Rattle.papaya_seq.proofs.seq.HashMap.given.Goals as goal
use Rattle.papaya_seq.proofs.seq.HashMap.given.Goals.{After-kind, then-at-eq0, else-at-eq0}
use Rattle.papaya_seq.proofs.seq.HashMap.given.Given.{Over}

module _ (g : Over) where
  abbrev Map : Type 0
  Map = MapState g.row.K.Denot g.row.V.Denot g.row.S.Denot

  abbrev key_hash : g.row.S.Denot → g.row.K.Denot → ℕ
  key_hash = hash_of g.K.Hash.hash_input g.S.BuildHasher.build_hasher g.S.Hasher.Hasher.write g.S.Hasher.Hasher.finish

  abbrev Orderly : Map → Type 0
  Orderly s = IsLawfulMap g.K.PartialEq.eq (key_hash s.store.hasher) s.store s.mode s.initial

  keys : (s : Map) → IsLawfulKeys g.K.PartialEq.eq (key_hash s.store.hasher)
  keys s = keys_lawful g.K.PartialEq.eq g.K.Hash.hash_input g.S.BuildHasher.build_hasher g.S.Hasher.Hasher.write g.S.Hasher.Hasher.finish
      g.met.K.Eq.laws g.met.K.Hash.respects_eq s.store.hasher

  -- the map is in order
  orderly : (c : After-kind g) → Orderly c.args.self.now
  orderly c = c.requires.orderly

  -- the word that was read is the slot's
  word_is : (c : After-kind g) → c.slot.result ≡ word_at c.args.self.now.store.words (Slot c.args.at.table c.args.at.slot)
  word_is c = slot_read c.args.self.now.store.words c.args.at.table c.args.at.slot c.slot.result c.args.table.now c.requires.table c.slot.ensures

  kind_is : (c : After-kind g) → c.kind.result ≡ kind_of (word_at c.args.self.now.store.words (Slot c.args.at.table c.args.at.slot))
  kind_is c = c.kind.ensures ∙ ap kind_of (word_is c)

pub returns-then-eq : goal.returns-then-eq
returns-then-eq g c =
    let s = c.args.self.now in
    let lawful = c.requires.orderly in
    let empty : word_at s.store.words (Slot c.args.at.table c.args.at.slot) ≡ 0 = sym
    (slot_read s.store.words c.args.at.table c.args.at.slot c.slot.result c.args.table.now c.requires.table c.slot.ensures) ∙ search rules in
    word_bare g.K.PartialEq.eq (key_hash g s.store.hasher) s lawful.lawful (keys g s) c.args.at c.requires.stands
    (held_within s.store.words c.args.at.table c.args.at.slot c.args.table.now c.requires.table c.requires.within)
    (λ live. let e : kind_of 0 ≡ Live = sym (ap kind_of empty) ∙ live in absurd cc)
    (λ marked. let e : kind_of 0 ≡ Marked = sym (ap kind_of empty) ∙ marked in absurd cc)

pub returns-in-Live : goal.returns-in-Live
returns-in-Live g c =
    let s = c.args.self.now in
    let at = goal.at.returns-in-Live g c in
    let number : c.pair-in-Live.result ≡ number_of (word_at s.store.words (Slot c.args.at.table c.args.at.slot)) = c.pair-in-Live.ensures
    ∙ ap number_of (word_is g at.After-kind) in
    let kind : (kind_of (word_at s.store.words (Slot c.args.at.table c.args.at.slot)) ≡ Live)
    ⊎ (kind_of (word_at s.store.words (Slot c.args.at.table c.args.at.slot)) ≡ Marked) = elim c.in-Live.is
    [ inl live ↦ inl (sym (kind_is g at.After-kind) ∙ live) | inr marked ↦ inr (sym (kind_is g at.After-kind) ∙ marked) ] in
    word_given g.K.PartialEq.eq (key_hash g s.store.hasher) s (orderly g at.After-kind).lawful (keys g s) c.args.at c.requires.stands
    c.pair-in-Live.result (record {
      within = held_within s.store.words c.args.at.table c.args.at.slot c.args.table.now c.requires.table
          c.requires.within;
      kind = kind;
      names = sym number;
    })
    (λ p logged. elim c.if-at-eq0.branch [
      | then-at-eq0 w ↦ ap (λ n. has_in g.K.PartialEq.eq s.store n s.store.words.root p.key) w.if-at-eq0.true
      | else-at-eq0 w ↦
          let same : w.pair.result ≡ c.pair-in-Live.result = w.pair.ensures ∙ sym c.pair-in-Live.ensures in
          let new : w.is_copy.result ≡ false = search rules in
          sym (w.is_copy.ensures p (ap (pair_of s.store) same ∙ logged)) ∙ new
    ])

pub returns-in_default : goal.returns-in_default
returns-in_default g c =
    let s = c.args.self.now in
    let at = goal.at.returns-in_default g c in
    let kind : (kind_of (word_at s.store.words (Slot c.args.at.table c.args.at.slot)) ≡ Live)
    ⊎ (kind_of (word_at s.store.words (Slot c.args.at.table c.args.at.slot)) ≡ Marked) = elim c.in-Live.is
    [ inl live ↦ inl (sym (kind_is g at.After-kind) ∙ live) | inr marked ↦ inr (sym (kind_is g at.After-kind) ∙ marked) ] in
    elim c.if-at-eq0.branch [
      | then-at-eq0 w ↦ absurd (search rules)
      | else-at-eq0 w ↦
          let number : w.pair.result ≡ number_of (word_at s.store.words (Slot c.args.at.table c.args.at.slot)) = w.pair.ensures
          ∙ ap number_of (word_is g at.After-kind) in
          let old : w.is_copy.result ≡ true = search rules in
          word_before g.K.PartialEq.eq (key_hash g s.store.hasher) s (orderly g at.After-kind).lawful (keys g s) c.args.at c.requires.stands
          w.pair.result (record {
            within = held_within s.store.words c.args.at.table c.args.at.slot c.args.table.now c.requires.table
                c.requires.within;
            kind = kind;
            names = sym number;
          })
          (λ p logged. sym (w.is_copy.ensures p logged) ∙ old)
    ]

pub returns-in_default-2 : goal.returns-in_default-2
returns-in_default-2 g c =
    let s = c.args.self.now in
    let at = goal.at.returns-in_default-2 g c in
    word_bare g.K.PartialEq.eq (key_hash g s.store.hasher) s (orderly g at.After-kind).lawful (keys g s) c.args.at c.requires.stands
    (held_within c.args.self.now.store.words c.args.at.table c.args.at.slot c.args.table.now c.requires.table c.requires.within)
    (λ live. let e : c.kind.result ≡ Live = kind_is g at.After-kind ∙ live in search rules)
    (λ marked. let e : c.kind.result ≡ Marked = kind_is g at.After-kind ∙ marked in search rules)
