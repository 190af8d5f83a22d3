-- Sets that are equal as maps of unit values.
use Rattle.std.proofs.Common.{◌≡◌, Bool, true, Option, Some, None, refl, sym, ap}
use Rattle.std.specs.Prelude.{is_some, MatchOption}
use Rattle.papaya_core_store.specs.Store.{StoreState, Stored}
use Rattle.papaya_core_timeline.specs.Content.{map_in}
use Rattle.papaya_seq.specs.Clones.{AreEqual}
use Rattle.papaya_set.specs.Sets.{HaveSameKeys}

module _ {K : Type 0} (same : Unit {0} → Unit {0} → Bool) (all : (a b : Unit {0}) → same a b ≡ true) where
  -- both have an entry, with equal values, or neither has one
  abbrev Both : Option (Stored K (Unit {0})) → Option (Stored K (Unit {0})) → Type 0
  Both a b = MatchOption a (b ≡ None) (λ p. (q : Stored K (Unit {0})) × (b ≡ Some q) × (same p.value q.value ≡ true))

  both_some : (a b : Option (Stored K (Unit {0}))) → Both a b → is_some a ≡ is_some b
  both_some None b none = sym (ap is_some none)
  both_some (Some p) b found = sym (ap is_some found.1)

  some_both : (a b : Option (Stored K (Unit {0}))) → is_some a ≡ is_some b → Both a b
  some_both None None is = refl
  some_both None (Some q) is = absurd cc
  some_both (Some p) None is = absurd cc
  some_both (Some p) (Some q) is = (q, refl, all p.value q.value)

  module _ {S Z : Type 0} (eq : K → K → Bool) (s : StoreState K (Unit {0}) S) (s' : StoreState K (Unit {0}) Z) where
    pub same_keys : AreEqual eq same s s' → HaveSameKeys eq s s'
    same_keys equal k = both_some (map_in eq s k) (map_in eq s' k) (equal k)

    pub equal_maps : HaveSameKeys eq s s' → AreEqual eq same s s'
    equal_maps have k = some_both (map_in eq s k) (map_in eq s' k) (have k)
