use Rattle.std.proofs.Common.{rules, [], ◌∷◌, ◌≡◌, ℕ, suc, ◌+◌, ◌<◌, Bool, true, false, cond, Some, inl, inr, refl, sym, ◌∙◌, ap, subst, arith}
use Rattle.std.specs.Prelude.{negsuc}
use Rattle.papaya_words.specs.Counter.{added}
use Rattle.papaya_words.specs.Word.{kind_of, pair_of as number_of, buried_word}
use Rattle.papaya_words.specs.declared.word.Kind.TheVariants.{Live}
use Rattle.papaya_call.specs.declared.ask.Answer.TheVariants.{Yes}
use Rattle.papaya_call.specs.declared.ask.At.TheVariants.{Slot}
use Rattle.papaya_words_keys.specs.Hashes.{hash_of}
use Rattle.papaya_core_store.specs.Store.{StoreState, Stored, pair_of}
use Rattle.papaya_core_store.specs.Tables.{put, word_at}
use Rattle.papaya_core_timeline.proofs.KeptCore.{keys_lawful}
use Rattle.papaya_core_timeline.proofs.KeptSettings.{IsLawfulKeys}
use Rattle.papaya_seq.specs.Map.{IsLawfulMap, MapState, next_of, slots_of}
use Rattle.papaya_seq.specs.Retains.{Answers, IsRetaining}
use Rattle.papaya_seq.proofs.RetainLaw.{live_logged, root_word, buried_at, buried_lawful}
use Rattle.papaya_seq.proofs.Exchanging.{exchange_done}
use Rattle.papaya_seq.proofs.RetainSteps.{IsScanned, scanned_more, shown_answers}
use Rattle.papaya_seq.proofs.seq.HashMap.retain_at.Goals as goal
use Rattle.papaya_seq.proofs.seq.HashMap.retain_at.Goals.{After-add_to_shard, After-call_closure}
use Rattle.papaya_seq.proofs.seq.HashMap.retain_at.Given.{Over}

module _ (g : Over) where
  abbrev Map : Type 0
  Map = MapState g.row.K.Denot g.row.V.Denot g.row.S.Denot

  abbrev key_hash : g.row.S.Denot → g.row.K.Denot → ℕ
  key_hash = hash_of g.K.Hash.hash_input g.S.BuildHasher.build_hasher g.S.Hasher.Hasher.write g.S.Hasher.Hasher.finish

  keys : (s : Map) → IsLawfulKeys g.K.PartialEq.eq (key_hash s.store.hasher)
  keys s = keys_lawful g.K.PartialEq.eq g.K.Hash.hash_input g.S.BuildHasher.build_hasher g.S.Hasher.Hasher.write g.S.Hasher.Hasher.finish
      g.met.K.Eq.laws g.met.K.Hash.respects_eq s.store.hasher

  -- the map as its fields are
  abbrev view : After-call_closure g → Map
  view c = record { store = c.self.inside.store; mode = c.self.inside.mode; initial = c.self.inside.initial }

  root : (c : After-call_closure g) → c.args.table ≡ c.self.inside.store.words.root
  root c = c.requires.root ∙ ap (λ (y : Map). y.store.words.root) (sym c.self.view_is)

  last : (c : After-call_closure g) → next_of c.self.inside.store ≡ 0
  last c = ap (λ (y : Map). next_of y.store) c.self.view_is ∙ c.requires.last

  within : (c : After-call_closure g) → c.args.slot < slots_of c.self.inside.store
  within c = subst (λ (y : Map). c.args.slot < slots_of y.store) (sym c.self.view_is) c.requires.within

  -- the word that was read is the slot's, and has a pair
  word_is : (c : After-call_closure g) → c.word.result ≡ root_word c.self.inside.store c.args.slot
  word_is c = c.word.ensures ∙ ap (λ t. word_at c.self.inside.store.words (Slot t c.args.slot)) (root c)

  live : (c : After-call_closure g) → kind_of (root_word c.self.inside.store c.args.slot) ≡ Live
  live c = let is : c.kind.result ≡ Live = search rules in sym (c.kind.ensures ∙ ap kind_of (word_is c)) ∙ is

  logged : (c : After-call_closure g) → (p : Stored g.row.K.Denot g.row.V.Denot)
      × (pair_of c.self.inside.store (number_of (root_word c.self.inside.store c.args.slot)) ≡ Some p)
  logged c = live_logged g.K.PartialEq.eq (key_hash c.self.inside.store.hasher) (view c) c.self.invariant (keys (view c)) c.args.slot (within c) (live c)

  -- the closure was called with that pair
  said : (c : After-call_closure g) → (agrees : Bool) × Answers g.F.FnMut c.args.agrees.now (logged c).0 agrees c.call_closure.new.agrees × (c.call_closure.result ≡ Yes agrees)
  said c = shown_answers g.F.FnMut c.args.agrees.now c.call_closure.new.agrees (logged c).0 (pair_of c.self.inside.store c.pair.result) c.call_closure.result
      (ap (pair_of c.self.inside.store) (c.pair.ensures ∙ ap number_of (word_is c)) ∙ (logged c).1) c.call_closure.ensures.shown

  -- it was deleted
  buried : (c : After-add_to_shard g) → c.add_to_shard.new.self ≡ buried_at c.self.inside.store c.args.slot
  buried c =
      let s = c.self.inside.store in
      let shown = (goal.at.After-add_to_shard g c).After-call_closure in
      let grave : c.buried-grave.result.0 ≡ buried_word (number_of (root_word s c.args.slot)) = c.buried-grave.ensures
      ∙ ap buried_word (c.pair-2.ensures ∙ ap number_of (word_is shown)) in
      let made : c.exchange.new.self ≡ record s { words = put s.words (Slot c.args.table c.args.slot) c.buried-grave.result.0 } = exchange_done s
      (Slot c.args.table c.args.slot) c.word.result c.buried-grave.result.0 (sym c.word.ensures) c.exchange.new.self c.exchange.result
      c.exchange.ensures in
      c.add_to_shard.ensures
      ∙ ap (λ (y : StoreState g.row.K.Denot g.row.V.Denot g.row.S.Denot). record y { count = added y.count 0 (negsuc 0) }) made
      ∙ ap (λ n. record s { words = put s.words (Slot c.args.table c.args.slot) n; count = added s.count 0 (negsuc 0) }) grave
      ∙ ap (λ t. record s {
        words = put s.words (Slot t c.args.slot) (buried_word (number_of (root_word s c.args.slot)));
        count = added s.count 0
            (negsuc 0);
      }) (root shown)

  -- a slot more was scanned of a map that is in order
  scanned : (here : Map) → IsLawfulMap g.K.PartialEq.eq (key_hash here.store.hasher) here.store here.mode here.initial → (slot : ℕ)
      → slot < slots_of here.store → (before after : g.row.F.Denot) (store : StoreState g.row.K.Denot g.row.V.Denot g.row.S.Denot)
      → IsScanned here.store slot g.F.FnMut before store after
      → (s : Map) (f : g.row.F.Denot) → IsRetaining g.F.FnMut s f slot here before → IsRetaining g.F.FnMut s f (slot + 1) (record here { store = store }) after
  scanned here lawful slot within before after store is s f retaining =
      let next : suc slot ≡ slot + 1 = omega arith in
      subst (λ n. IsRetaining g.F.FnMut s f n (record here { store = store }) after) next
      (scanned_more g.F.FnMut s f g.K.PartialEq.eq (key_hash here.store.hasher) slot here before retaining
      (subst (λ n. slot < n) retaining.long within) lawful (keys here) (record here { store = store }) after refl refl is)

-- a closure that did not disagree agreed
agreed : (g : Over) (c : After-call_closure g) (b : Bool) → Answers g.F.FnMut c.args.agrees.now (logged g c).0 b c.call_closure.new.agrees → c.call_closure.result ≡ Yes b
    → (c.call_closure.result ≡ Yes false → ⊥)
    → (agrees : Bool) × Answers g.F.FnMut c.args.agrees.now (logged g c).0 agrees c.call_closure.new.agrees
    × (c.self.inside.store ≡ cond agrees c.self.inside.store (buried_at c.self.inside.store c.args.slot))
agreed g c true answers is not = (true, answers, refl)
agreed g c false answers is not = absurd (not is)

pub returns-in_default-clause-scanned : goal.returns-in_default-clause-scanned
returns-in_default-clause-scanned g c s f retaining =
    let at = (goal.at.returns-in_default-clause-scanned g c).After-call_closure in
    let not : c.call_closure.result ≡ Yes false → ⊥ = λ no. search rules in
    let found = agreed g at (said g at).0 (said g at).1 (said g at).2 not in
    let before = subst (λ (y : Map g). IsRetaining g.F.FnMut s f c.args.slot y c.args.agrees.now) (sym c.self.view_is) retaining in
    subst (λ (y : Map g). IsRetaining g.F.FnMut s f (c.args.slot + 1) y c.call_closure.new.agrees) c.self.view_is
    (scanned g (view g at) c.self.invariant c.args.slot (within g at) c.args.agrees.now c.call_closure.new.agrees c.self.inside.store
    (inr ((logged g at).0, live g at, (logged g at).1, found.0, found.1, found.2)) s f before)

pub returns-then-ne-clause-scanned : goal.returns-then-ne-clause-scanned
returns-then-ne-clause-scanned g c s f retaining =
    let here = c.args.self.now in
    let read : c.word.result ≡ root_word here.store c.args.slot = c.word.ensures
    ∙ ap (λ (y : Map g). word_at y.store.words (Slot c.args.table c.args.slot)) c.self.view_is
    ∙ ap (λ t. word_at here.store.words (Slot t c.args.slot)) c.requires.root in
    scanned g here (subst (λ (y : Map g). IsLawfulMap g.K.PartialEq.eq (key_hash g y.store.hasher) y.store y.mode y.initial) c.self.view_is
    c.self.invariant) c.args.slot c.requires.within c.args.agrees.now c.args.agrees.now here.store
    (inl ((λ live. let is : c.kind.result ≡ Live = c.kind.ensures ∙ ap kind_of read ∙ live in search rules), refl, refl)) s f retaining

pub invariant_of-self : goal.invariant_of-self
invariant_of-self g c =
    let at = (goal.at.invariant_of-self g c).After-call_closure in
    subst (λ (y : StoreState g.row.K.Denot g.row.V.Denot g.row.S.Denot).
    IsLawfulMap g.K.PartialEq.eq (key_hash g y.hasher) y c.self.inside.mode c.self.inside.initial) (sym (buried g c))
    (buried_lawful g.K.PartialEq.eq (key_hash g c.self.inside.store.hasher) (view g at) c.self.invariant (keys g (view g at)) c.args.slot
    (within g at) (live g at) (last g at) c.count-count.ensures.fits)

pub returns-clause-scanned : goal.returns-clause-scanned
returns-clause-scanned g c s f retaining =
    let at = (goal.at.returns-clause-scanned g c).After-call_closure in
    let no : c.call_closure.result ≡ Yes false = search rules in
    let answer : (said g at).0 ≡ false = let both : Yes (said g at).0 ≡ Yes false = sym (said g at).2 ∙ no in cc in
    let before = subst (λ (y : Map g). IsRetaining g.F.FnMut s f c.args.slot y c.args.agrees.now) (sym c.self.view_is) retaining in
    scanned g (view g at) c.self.invariant c.args.slot (within g at) c.args.agrees.now c.call_closure.new.agrees c.add_to_shard.new.self
    (inr (
      (logged g at).0,
      live g at,
      (logged g at).1,
      false,
      subst (λ b. Answers g.F.FnMut c.args.agrees.now (logged g at).0 b c.call_closure.new.agrees)
          answer (said g at).1,
      buried g c,
    )) s f before

pub call_closure-requires : goal.call_closure-requires
call_closure-requires g c k v = (c.requires.callable.at ((k, (v, tt)) ∷ [])).0
