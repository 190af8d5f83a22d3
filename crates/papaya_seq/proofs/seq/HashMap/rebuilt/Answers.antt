use Rattle.std.proofs.Common.{◌≡◌, ◌≤◌, ℕ, [], length, map, sym, ap, ◌∙◌, subst, arith}
use Rattle.std.proofs.lemmas.List.{length-map}
use Rattle.papaya_words_keys.specs.Hashes.{hash_of}
use Rattle.papaya_seq.proofs.Limits.{made_most}
use Rattle.papaya_core_timeline.specs.Content.{content}
use Rattle.papaya_seq.specs.Clones.{HasFreeParts}
use Rattle.papaya_seq.specs.Lengths.{IsAskedFor}
use Rattle.papaya_seq.specs.PutAlone.{IsMadeRoomy}
use Rattle.papaya_seq.proofs.Filled.{new_with_own}
use Rattle.papaya_core_timeline.specs.New.{IsNew}
use Rattle.papaya_seq.specs.Map.{MapState, core_of, entry_of}
use Rattle.papaya_core_store.specs.declared.store.Mode.{Mode}
use Rattle.papaya_core_store.specs.Store.{StoreState}
use Rattle.papaya_seq.proofs.Rebuilt.{asked_long, cut_below, empty_still, fresh_parts}
use Rattle.papaya_seq.proofs.Rebuilt.{limited_parts, limited_rebuilt, pairs_logged, parts_on}
use Rattle.papaya_seq.proofs.Rebuilt.{rebuild_cut, rebuilt_of, room_refused, roomy_parts}
use Rattle.papaya_seq.proofs.seq.HashMap.rebuilt.Goals as goal
use Rattle.papaya_seq.proofs.seq.HashMap.rebuilt.Goals.{After-make_room}
use Rattle.papaya_seq.proofs.seq.HashMap.rebuilt.Given.{Over}

-- the new map, opened
abbrev opened : (g : Over) → After-make_room g → MapState g.row.K.Denot g.row.V.Denot g.row.S.Denot
opened g c = record { store = c.fresh.inside.store; mode = c.fresh.inside.mode; initial = c.fresh.inside.initial }

new : (g : Over) (c : After-make_room g) → IsNew {A = Unit {0}} c.self.inside.mode.resize c.pairs_for-capacity.result c.shards-shards.result
    c.in-Ok.hasher (core_of (opened g c))
new g c = subst (λ (m : MapState g.row.K.Denot g.row.V.Denot g.row.S.Denot).
    IsNew {A = Unit {0}} c.self.inside.mode.resize c.pairs_for-capacity.result c.shards-shards.result c.in-Ok.hasher (core_of m))
    (sym c.fresh.view_is) c.in_ok-fresh.ensures.ok.1

none : (g : Over) (c : After-make_room g) → content g.K.PartialEq.eq c.fresh.inside.store ≡ []
none g c = subst (λ (m : MapState g.row.K.Denot g.row.V.Denot g.row.S.Denot). content g.K.PartialEq.eq m.store ≡ []) (sym c.fresh.view_is)
    c.in_ok-fresh.ensures.empty

-- the map before it has room
abbrev fresh : (g : Over) → After-make_room g → MapState g.row.K.Denot g.row.V.Denot g.row.S.Denot
fresh g c = record { store = c.fresh.inside.store; mode = c.fresh.inside.mode; initial = c.self.inside.initial }

-- its parts
parts : (g : Over) (c : After-make_room g) → HasFreeParts c.args.self.now (fresh g c)
parts g c = fresh_parts g.K.PartialEq.eq g.met.K.Eq.laws g.K.Clone.is_clone g.V.Clone.is_clone c.args.self.now (opened g c) c.self.inside.mode.resize
    c.pairs_for-capacity.result c.shards-shards.result c.in-Ok.hasher
    (ap (λ (m : MapState _ _ _). m.mode.resize) c.self.view_is)
    (c.shards-shards.ensures.count ∙ ap (λ (m : MapState _ _ _). m.store.count.shards) c.self.view_is) c.shards-shards.ensures.power (new g c)
    c.self.inside.initial (ap (λ (m : MapState _ _ _). m.initial) c.self.view_is)

roomy : (g : Over) (c : After-make_room g) → HasFreeParts c.args.self.now c.make_room.new.self
roomy g c = roomy_parts g.K.PartialEq.eq g.met.K.Eq.laws g.K.Clone.is_clone g.V.Clone.is_clone c.args.self.now (fresh g c) c.make_room.new.self
    (parts g c) c.make_room.ensures.keeps c.make_room.ensures.words

empty : (g : Over) (c : After-make_room g) → content g.K.PartialEq.eq c.make_room.new.self.store ≡ []
empty g c = empty_still g.K.PartialEq.eq g.met.K.Eq.laws c.fresh.inside.store c.make_room.new.self.store c.make_room.ensures.map (none g c)

pub returns-in-Ok-copy_from-clause-clones : goal.returns-in-Ok-copy_from-clause-clones
returns-in-Ok-copy_from-clause-clones g c =
    let room = (goal.at.returns-in-Ok-copy_from-clause-clones g c).After-make_room in
    let is_new = (new g room).store_is in
    limited_rebuilt g.K.PartialEq.eq g.met.K.Eq.laws g.K.Clone.is_clone g.V.Clone.is_clone g.S.Clone.is_clone c.args.self.now c.copy_from.new.self
    c.number.new.self c.len-pairs.result c.number.ensures.store
    (rebuilt_of g.K.PartialEq.eq g.met.K.Eq.laws g.K.Clone.is_clone g.V.Clone.is_clone c.requires g.S.Clone.is_clone c.args.self.now
    c.make_room.new.self c.copy_from.new.self c.len-pairs.ensures.apart (empty g room)
    (ap (λ y. y.pairs) c.make_room.ensures.words ∙ is_new.pairs)
    (subst (λ h. g.S.Clone.is_clone h c.make_room.new.self.store.hasher) (c.hasher.ensures ∙ ap (λ (m : MapState _ _ _). m.store.hasher) c.self.view_is)
    (subst (g.S.Clone.is_clone c.hasher.result.now) (sym (c.make_room.ensures.keeps.hasher ∙ is_new.hasher_is)) c.in-Ok.ensures.cases))
    c.in-Ok-copy_from.ensures.ok)

pub returns-in-Ok-copy_from-clause-parts : goal.returns-in-Ok-copy_from-clause-parts
returns-in-Ok-copy_from-clause-parts g c =
    limited_parts g.K.PartialEq.eq g.met.K.Eq.laws g.K.Clone.is_clone g.V.Clone.is_clone c.args.self.now c.copy_from.new.self c.number.new.self
    (parts_on g.K.PartialEq.eq g.met.K.Eq.laws g.K.Clone.is_clone g.V.Clone.is_clone c.args.self.now c.make_room.new.self c.copy_from.new.self _
    (roomy g (goal.at.returns-in-Ok-copy_from-clause-parts g c).After-make_room) c.in-Ok-copy_from.ensures.ok)
    (c.number.ensures.mode ∙ ap (λ (m : MapState _ _ _). record c.copy_from.new.self.mode { limit = m.mode.limit }) c.self.view_is)
    c.number.ensures.initial (ap (λ (y : StoreState _ _ _). y.count) c.number.ensures.store)

pub invariant_of-fresh : goal.invariant_of-fresh
invariant_of-fresh g c =
    let made = subst (λ (m : MapState g.row.K.Denot g.row.V.Denot g.row.S.Denot).
    IsNew {A = Unit {0}} c.self.inside.mode.resize c.pairs_for-capacity.result c.shards-shards.result c.in-Ok.hasher (core_of m))
    (sym c.fresh.view_is) c.in_ok-fresh.ensures.ok.1 in
    record {
      lawful = c.fresh.invariant.lawful;
      counted = c.fresh.invariant.counted;
      power = c.self.invariant.power;
      most = c.self.invariant.most;
      long = asked_long c.self.inside.initial c.pairs_for-capacity.result c.fresh.inside.initial c.fresh.inside.store.words
          c.pairs_for-capacity.ensures made.store_is.initial made.store_is.words;
      numbered = c.fresh.invariant.numbered;
    }

pub number-requires-clause-most : goal.number-requires-clause-most
number-requires-clause-most g c = λ n is.
    let few : length (content g.K.PartialEq.eq c.self.inside.store) ≤ length c.self.inside.store.pairs =
    subst (λ (m : MapState g.row.K.Denot g.row.V.Denot g.row.S.Denot). length (content g.K.PartialEq.eq m.store) ≤ length m.store.pairs) (sym c.self.view_is)
    (pairs_logged g.K.PartialEq.eq g.met.K.Eq.laws g.K.Clone.is_clone g.V.Clone.is_clone c.args.self.now.store c.len-pairs.ensures.apart) in
    let count : c.len-pairs.result ≡ length (content g.K.PartialEq.eq c.self.inside.store) = c.len-pairs.ensures.count
    ∙ ap (λ (m : MapState g.row.K.Denot g.row.V.Denot g.row.S.Denot). length (content g.K.PartialEq.eq m.store)) (sym c.self.view_is) in
    let each = c.self.invariant.numbered n is in
    let most = made_most g.K.PartialEq.eq (hash_of g.K.Hash.hash_input g.S.BuildHasher.build_hasher g.S.Hasher.Hasher.write g.S.Hasher.Hasher.finish
    c.self.inside.store.hasher) [] c.self.inside.mode c.self.inside.store c.self.invariant.lawful n is in
    omega (arith, few, count, each, most)

pub number-requires-clause-each : goal.number-requires-clause-each
number-requires-clause-each g c =
    let room = (goal.at.number-requires-clause-each g c).After-make_room in
    let logged = c.in-Ok-copy_from.ensures.ok.logged in
    let first : length c.make_room.new.self.store.pairs ≡ 0 = ap length (ap (λ y. y.pairs) c.make_room.ensures.words ∙ (new g room).store_is.pairs) in
    let long : length (map entry_of (content g.K.PartialEq.eq c.args.self.now.store)) ≡ length
    (content g.K.PartialEq.eq c.args.self.now.store) = length-map (content g.K.PartialEq.eq c.args.self.now.store) entry_of in
    let count = c.len-pairs.ensures.count in
    omega (arith, logged, first, long, count)

pub returns-in-Err-copy_from-clause-below : goal.returns-in-Err-copy_from-clause-below
returns-in-Err-copy_from-clause-below g c =
    let room = (goal.at.returns-in-Err-copy_from-clause-below g c).After-make_room in
    cut_below g.K.PartialEq.eq g.met.K.Eq.laws g.K.Clone.is_clone g.V.Clone.is_clone c.args.self.now.store c.make_room.new.self c.copy_from.new.self
    (ap (λ (m : Mode). m.limit) (roomy g room).mode) c.in-Err-copy_from.refused c.in-Err-copy_from.ensures.err

pub returns-in-Err-clause-err : goal.returns-in-Err-clause-err
returns-in-Err-clause-err g c =
    let room = (goal.at.returns-in-Err-clause-err g c).After-make_room in
    room_refused g.K.PartialEq.eq g.met.K.Eq.laws g.K.Clone.is_clone g.V.Clone.is_clone c.args.self.now (fresh g room) c.make_room.new.self
    (parts g room) (none g room) c.len-pairs.result c.len-pairs.ensures.count c.in-Err.refused c.in-Err.ensures.err

pub returns-in-Err-copy_from-clause-err : goal.returns-in-Err-copy_from-clause-err
returns-in-Err-copy_from-clause-err g c =
    let room = (goal.at.returns-in-Err-copy_from-clause-err g c).After-make_room in
    rebuild_cut g.K.PartialEq.eq g.met.K.Eq.laws g.K.Clone.is_clone g.V.Clone.is_clone c.args.self.now (fresh g room) c.make_room.new.self
    c.copy_from.new.self (parts g room) (none g room) (roomy g room) (empty g room) c.in-Err-copy_from.refused c.in-Err-copy_from.ensures.err

-- how keys are hashed
abbrev hash : (g : Over) → g.row.S.Denot → g.row.K.Denot → ℕ
hash g = hash_of g.K.Hash.hash_input g.S.BuildHasher.build_hasher g.S.Hasher.Hasher.write g.S.Hasher.Hasher.finish

-- the new map has the settings of this one
new_own : (g : Over) (c : After-make_room g) → IsNew {A = Unit {0}} c.args.self.now.mode.resize c.pairs_for-capacity.result
    c.args.self.now.store.count.shards c.fresh.inside.store.hasher (core_of (opened g c))
new_own g c =
    subst (λ n. IsNew {A = Unit {0}} c.args.self.now.mode.resize c.pairs_for-capacity.result n c.fresh.inside.store.hasher (core_of (opened g c)))
    (c.shards-shards.ensures.count ∙ ap (λ (m : MapState _ _ _). m.store.count.shards) c.self.view_is)
    (subst (λ (m : MapState g.row.K.Denot g.row.V.Denot g.row.S.Denot).
    IsNew {A = Unit {0}} m.mode.resize c.pairs_for-capacity.result c.shards-shards.result c.fresh.inside.store.hasher (core_of (opened g c)))
    c.self.view_is
    (new_with_own c.self.inside.mode.resize c.pairs_for-capacity.result c.shards-shards.result c.in-Ok.hasher (opened g c) (new g c)))

pub returns-in-Ok-copy_from-clause-alone : goal.returns-in-Ok-copy_from-clause-alone
returns-in-Ok-copy_from-clause-alone g c =
    let at = (goal.at.returns-in-Ok-copy_from-clause-alone g c).After-make_room in
    record {
      asked = c.pairs_for-capacity.result;
      asks = subst (λ (m : MapState g.row.K.Denot g.row.V.Denot g.row.S.Denot). IsAskedFor m.initial c.pairs_for-capacity.result) c.self.view_is
          c.pairs_for-capacity.ensures;
      new = opened g at;
      is_new = new_own g at;
      roomy = c.make_room.new.self;
      room = subst (λ n. IsMadeRoomy g.K.PartialEq.eq (hash g) (record (opened g at) { initial = c.args.self.now.initial }) n c.make_room.new.self)
          c.len-pairs.ensures.count
          (subst (λ (m : MapState g.row.K.Denot g.row.V.Denot g.row.S.Denot).
          IsMadeRoomy g.K.PartialEq.eq (hash g) (record (opened g at) { initial = m.initial }) c.len-pairs.result c.make_room.new.self) c.self.view_is
          c.in-Ok-make_room.ensures.alone);
      full = c.copy_from.new.self;
      cloned = c.in-Ok-copy_from.ensures.alone;
      left = c.number.ensures.store
          ∙ ap (λ n. record c.copy_from.new.self.store { words = record c.copy_from.new.self.store.words { made = n } }) c.len-pairs.ensures.count;
    }
