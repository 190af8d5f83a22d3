-- The change of an insertion that put its pair in place of the one that its search met.
use Rattle.std.proofs.Common.{◌≡◌, Bool, Option, None, Some, List, refl, sym, ap, ◌∙◌, subst}
use Rattle.std.specs.Cmp.{IsEquivalence}
use denote.Bor.{Bor}
use Rattle.papaya_map_book.specs.Logs.{Stored}
use Rattle.papaya_map_lookup.specs.History.{Change, key_of}
use Rattle.papaya_map_change.specs.Changes.{IsChangeOf, IsPut, key_kept}
use Rattle.papaya_map_change.specs.ClosureCalls.{IsSamePair}
use Rattle.papaya_map_change.specs.Tries.{AreSame}

module _ {K V : Type 0} where
  pub met_none : (taken : Option (Stored K V)) → AreSame None taken → taken ≡ None
  met_none None same = refl
  met_none (Some p) same = let e = same.1 in absurd (cc e)

  pub met_some : (met : Stored K V) (taken : Option (Stored K V)) → AreSame (Some met) taken → (z : Stored K V) × (taken ≡ Some z) × IsSamePair met z
  met_some met None same = let e = same in absurd (cc e)
  met_some met (Some p) same = let e = same.1 in let one : met ≡ same.0 = cc e in (p, refl, subst (λ (z : Stored K V). IsSamePair z p) (sym one) same.2)

module _ {K V : Type 0} (eq : K → K → Bool) (classes : IsEquivalence eq) (key : K) (value : V) (old new : List (Change K (Stored K V)))
    (q : Stored K V) (value_is : q.value.value ≡ value) where
  -- it was put in although none was there
  put_none : (taken : Option (Stored K V)) → taken ≡ None → key_of q ≡ key → IsChangeOf (eq key) old new taken (Some q) → IsPut eq key value old new None
  put_none taken none key_is c = record {
    before = c.before;
    change = c.change;
    since = c.since;
    is = c.is;
    class_is = classes.symm c.change.class key ∙ c.class_is;
    put_is = (q, c.put_is, key_is ∙ ap (λ (o : Option (Stored K V)). key_kept o key) (sym (c.taken_is ∙ none)), value_is);
    taken_is = c.taken_is ∙ none;
  }

  pub traded_none : key_of q ≡ key → (taken : Option (Stored K V)) → AreSame None taken → IsChangeOf (eq key) old new taken (Some q)
      → IsPut eq key value old new None
  traded_none key_is taken same c = put_none taken (met_none taken same) key_is c

  -- or it replaced a pair, whose value is returned
  pub traded_some : (met : Stored K V) (answer : Bor V) → answer.now ≡ met.value.value → (taken : Option (Stored K V)) → AreSame (Some met) taken
      → IsChangeOf (eq key) old new taken (Some q) → IsPut eq key value old new (Some answer)
  traded_some met answer now None same c = let e = same in absurd (cc e)
  traded_some met answer now (Some p) same c =
      let e = same.1 in let one : met ≡ same.0 = cc e in
      record {
        before = c.before;
        change = c.change;
        since = c.since;
        is = c.is;
        class_is = classes.symm c.change.class key ∙ c.class_is;
        put_is = (q, c.put_is, c.kept p q refl refl ∙ ap (λ (o : Option (Stored K V)). key_kept o key) (sym c.taken_is), value_is);
        taken_is = (p, c.taken_is, now ∙ (ap (λ (z : Stored K V). z.value.value) one ∙ ap (λ z. z.value) same.2.1));
      }
