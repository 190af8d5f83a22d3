-- The entries of a map that were written and read again, as a map.
use Rattle.std.proofs.Common.{◌≡◌, inl, inr, ⊎_elim, Bool, true, false, cond, List, [], ◌∷◌, Option}
use Rattle.std.proofs.Common.{Some, None, MatchOption, option_map, refl, sym, ap, ◌∙◌, subst}
use Rattle.std.proofs.lemmas.Bool.{cases_Bool, cond-true, cond-false, true≢false}
use Rattle.std.specs.Cmp.{IsEquivalence}
use Rattle.std.specs.Prelude.{is_some}
use Rattle.papaya_words_law.specs.Content.{AreApart, lookup}
use Rattle.papaya_core_timeline.specs.Content.{content, map_in}
use Rattle.papaya_core_store.specs.Store.{StoreState, Stored}
use Rattle.papaya_seq.specs.Clones.{Agree}
use Rattle.papaya_seq.specs.Entries.{Entries, entries_in, kept, nothing, put, put_all}
use Rattle.papaya_seq.specs.Map.{entry_of}
use Rattle.papaya_set.specs.Sets.{HaveSameKeys}
use Rattle.papaya_json.proofs.Lists.{In}

module _ {K P : Type 0} (eq : K → K → Bool) (law : IsEquivalence eq) (key : P → K) where
  -- two keys that are equal to a third are equal
  joined : (k j l : K) → eq k j ≡ true → eq l j ≡ true → eq k l ≡ true
  joined k j l first second = law.congr k j l first ∙ law.symm j l ∙ second

  found_in : (ps : List P) (k : K) (p : P) → lookup eq key ps k ≡ Some p → In p ps × (eq k (key p) ≡ true)
  found_in [] k p is = absurd cc
  found_in (q ∷ ps) k p is = go (eq k (key q)) (found_in ps k p) refl is
    where
      go : (b : Bool) → (lookup eq key ps k ≡ Some p → In p ps × (eq k (key p) ≡ true)) → eq k (key q) ≡ b
          → cond b (Some q) (lookup eq key ps k) ≡ Some p → In p (q ∷ ps) × (eq k (key p) ≡ true)
      go true on y e = let same : q ≡ p = cc e in (inl same, subst (λ (z : P). eq k (key z) ≡ true) same y)
      go false on n e = let later = on e in (inr later.0, later.1)

  none_in : (ps : List P) (k : K) → lookup eq key ps k ≡ None → (p : P) → In p ps → eq k (key p) ≡ true → ⊥
  none_in [] k none p there y = there
  none_in (q ∷ ps) k none p there y = go (eq k (key q)) (none_in ps k) refl none
    where
      go : (b : Bool) → (lookup eq key ps k ≡ None → (z : P) → In z ps → eq k (key z) ≡ true → ⊥) → eq k (key q) ≡ b
          → cond b (Some q) (lookup eq key ps k) ≡ None → ⊥
      go true on here e = absurd cc
      go false on other e = ⊎_elim (λ is. true≢false (sym y ∙ ap (λ (z : P). eq k (key z)) (sym is) ∙ other)) (λ later. on e p later y) there

  -- if a list of entries with different keys has this one, a lookup of its key finds it
  one_in : (ps : List P) → AreApart eq key ps → (k : K) (p : P) → In p ps → eq k (key p) ≡ true → lookup eq key ps k ≡ Some p
  one_in [] apart k p there y = absurd there
  one_in (q ∷ ps) (alone, apart) k p there y =
      ⊎_elim
      (λ is. cond-true (eq k (key q)) (Some q) (lookup eq key ps k) (ap (λ (z : P). eq k (key z)) is ∙ y) ∙ ap (λ (z : P). Some z) is)
      (λ later. ⊎_elim
      (λ (here : eq k (key q) ≡ true). absurd (none_in ps (key q) alone p later
      (law.symm (key q) (key p) ∙ joined (key p) k (key q) (law.symm (key p) k ∙ y) (law.symm (key q) k ∙ here))))
      (λ (other : eq k (key q) ≡ false). cond-false (eq k (key q)) (Some q) (lookup eq key ps k) other ∙ one_in ps apart k p later y)
      (cases_Bool (eq k (key q))))
      there

some_none : {A : Type 0} {x : A} → Some x ≡ None → ⊥
some_none e = absurd cc

module _ {K V B : Type 0} (eq : K → K → Bool) (law : IsEquivalence eq) (shows : B → K × V) (Read : B → Type 0) where
  -- the entry of a key has the key of an item with an equal key, and the value of such an item
  abbrev IsOfItems : K → Option (K × V) → Type 0
  IsOfItems k None = Unit {0}
  IsOfItems k (Some e) = (a : B) × (b : B) × Read a × Read b × (eq k (shows a).0 ≡ true) × (eq k (shows b).0 ≡ true) × (e ≡ ((shows a).0, (shows b).1))

  of_kept : (k : K) (b : B) (o : Option (K × V)) → Read b → eq k (shows b).0 ≡ true → IsOfItems (shows b).0 o → IsOfItems k (Some (kept o (shows b)))
  of_kept k b None read y is = (b, b, read, read, y, y, refl)
  of_kept k b (Some there) read y (a, c, own, _, first, _, e) = (
    a,
    b,
    own,
    read,
    law.congr k (shows b).0 (shows a).0 y
        ∙ first,
    y,
    ap (λ (z : K × V). (z.0, (shows b).1)) e,
  )

  of_put : (m : Entries K V) → ((j : K) → IsOfItems j (m j)) → (b : B) → Read b → (k : K) → IsOfItems k (put eq m (shows b) k)
  of_put m all b read k =
      ⊎_elim
      (λ (y : eq k (shows b).0 ≡ true). subst (IsOfItems k) (sym (cond-true (eq k (shows b).0) (Some (kept (m (shows b).0) (shows b))) (m k) y))
      (of_kept k b (m (shows b).0) read y (all (shows b).0)))
      (λ (n : eq k (shows b).0 ≡ false). subst (IsOfItems k) (sym (cond-false (eq k (shows b).0) (Some (kept (m (shows b).0) (shows b))) (m k) n)) (all k))
      (cases_Bool (eq k (shows b).0))

  of_all : (done : List B) → ((b : B) → In b done → Read b) → (m : Entries K V) → ((j : K) → IsOfItems j (m j)) → (k : K)
      → IsOfItems k (put_all eq shows m done k)
  of_all [] read m all k = all k
  of_all (b ∷ done) read m all k = of_all done (λ c there. read c (inr there)) (put eq m (shows b)) (of_put m all b (read b (inl refl))) k

  -- if a key has no entry afterwards, it had none before, and no item has an equal key
  none_put : (done : List B) (m : Entries K V) (k : K) → put_all eq shows m done k ≡ None → (m k ≡ None) × ((b : B) → In b done → eq k (shows b).0 ≡ true → ⊥)
  none_put [] m k none = (none, λ b there y. there)
  none_put (b ∷ done) m k none =
      let later = none_put done (put eq m (shows b)) k none in
      ⊎_elim
      (λ (y : eq k (shows b).0 ≡ true). absurd (some_none (sym (cond-true (eq k (shows b).0) (Some (kept (m (shows b).0) (shows b))) (m k) y) ∙ later.0)))
      (λ (n : eq k (shows b).0 ≡ false). (
        sym (cond-false (eq k (shows b).0) (Some (kept (m (shows b).0) (shows b))) (m k) n) ∙ later.0,
        λ c there y. ⊎_elim (λ is. true≢false (sym y ∙ ap (λ (z : B). eq k (shows z).0) (sym is) ∙ n)) (λ rest. later.1 c rest y) there,
      ))
      (cases_Bool (eq k (shows b).0))

none_of : {K V : Type 0} (o : Option (Stored K V)) → option_map entry_of o ≡ None → o ≡ None
none_of None e = refl
none_of (Some q) e = absurd cc

some_of : {K V : Type 0} (o : Option (Stored K V)) (e : K × V) → option_map entry_of o ≡ Some e → (q : Stored K V) × (o ≡ Some q) × (entry_of q ≡ e)
some_of None e is = absurd cc
some_of (Some q) e is = (q, refl, cc is)

module _ {K V B S Z : Type 0} (eq : K → K → Bool) (law : IsEquivalence eq) (shows : B → K × V) (Near : K × V → K × V → Type 0)
    (near : (a b : K × V) → Near a b → eq a.0 b.0 ≡ true)
    (near_both : (e a b : K × V) → Near e a → Near e b → Near e (a.0, b.1)) (s : StoreState K V S) (t : StoreState K V Z) (done : List B) where
  abbrev keyed : Stored K V → K
  keyed p = p.key

  -- Each entry of the one map has an item that is near it, and each item has such an entry. So if
  -- the other map has just the items, the two agree.
  pub agree : AreApart eq keyed (content eq s) → ((p : Stored K V) → In p (content eq s) → (b : B) × In b done × Near (entry_of p) (shows b))
      → ((b : B) → In b done → (p : Stored K V) × In p (content eq s) × Near (entry_of p) (shows b))
      → ((k : K) → entries_in eq t k ≡ put_all eq shows nothing done k)
      → Agree eq (λ p q. Near (entry_of p) (entry_of q)) s t
  agree apart there from just k = of_option (map_in eq s k) refl (put_all eq shows nothing done k) refl
      (of_all eq law shows (λ b. In b done) done (λ b within. within) nothing (λ j. tt) k)
    where
      -- an item with an equal key is near the key's entry
      near_own : (p : Stored K V) → map_in eq s k ≡ Some p → (b : B) → In b done → eq k (shows b).0 ≡ true → Near (entry_of p) (shows b)
      near_own p is b within y =
          let of = from b within in
          let found : map_in eq s k ≡ Some of.0 = one_in eq law keyed (content eq s) apart k of.0 of.1
          (joined eq law keyed k (shows b).0 of.0.key y (near (entry_of of.0) (shows b) of.2)) in
          let same : of.0 ≡ p = (let both : Some of.0 ≡ Some p = sym found ∙ is in cc both) in
          subst (λ (z : Stored K V). Near (entry_of z) (shows b)) same of.2

      of_option : (o : Option (Stored K V)) → map_in eq s k ≡ o → (u : Option (K × V)) → put_all eq shows nothing done k ≡ u
          → IsOfItems eq law shows (λ b. In b done) k u
          → MatchOption o (map_in eq t k ≡ None) (λ (p : Stored K V). (q : Stored K V) × (map_in eq t k ≡ Some q) × Near (entry_of p) (entry_of q))
      of_option None is None none _ = none_of (map_in eq t k) (just k ∙ none)
      of_option None is (Some e) has (a, b, within, _, y, _, _) =
          let of = from a within in
          absurd (none_in eq law keyed (content eq s) k is of.0 of.1 (joined eq law keyed k (shows a).0 of.0.key y (near (entry_of of.0) (shows a) of.2)))
      of_option (Some p) is None none _ =
          let held = found_in eq law keyed (content eq s) k p is in
          let b = there p held.0 in
          absurd ((none_put eq law shows (λ b. In b done) done nothing k none).1 b.0 b.1
          (law.congr k p.key (shows b.0).0 held.1 ∙ near (entry_of p) (shows b.0) b.2))
      of_option (Some p) is (Some e) has (a, b, first, last, y, z, e_is) =
          let own = some_of (map_in eq t k) e (just k ∙ has) in (
            own.0,
            own.1,
            subst (λ (w : K × V). Near (entry_of p) w) (sym (own.2 ∙ e_is))
                (near_both (entry_of p) (shows a) (shows b) (near_own p is a first y) (near_own p is b last z)),
          )

module _ {K V S Z : Type 0} (eq : K → K → Bool) (s : StoreState K V S) (t : StoreState K V Z) where
  -- maps that agree by more agree by less
  pub agree_by : (more less : Stored K V → Stored K V → Type 0) → ((p q : Stored K V) → more p q → less p q) → Agree eq more s t → Agree eq less s t
  agree_by more less weaker agrees k = of_option (map_in eq s k) (agrees k)
    where
      of_option : (o : Option (Stored K V)) → MatchOption o (map_in eq t k ≡ None) (λ (p : Stored K V). (q : Stored K V) × (map_in eq t k ≡ Some q) × more p q)
          → MatchOption o (map_in eq t k ≡ None) (λ (p : Stored K V). (q : Stored K V) × (map_in eq t k ≡ Some q) × less p q)
      of_option None none = none
      of_option (Some p) some = (some.0, some.1, weaker p some.0 some.2)

-- sets that agree have the same keys
pub same_keys : {K S Z : Type 0} (eq : K → K → Bool) (s : StoreState K (Unit {0}) S) (t : StoreState K (Unit {0}) Z)
    (like : Stored K (Unit {0}) → Stored K (Unit {0}) → Type 0) → Agree eq like s t → HaveSameKeys eq s t
same_keys {K} eq s t like agrees k = of_option (map_in eq s k) (agrees k)
  where
    of_option : (o : Option (Stored K (Unit {0})))
        → MatchOption o (map_in eq t k ≡ None) (λ (p : Stored K (Unit {0})). (q : Stored K (Unit {0})) × (map_in eq t k ≡ Some q) × like p q)
        → is_some o ≡ is_some (map_in eq t k)
    of_option None none = sym (ap is_some none)
    of_option (Some p) some = sym (ap is_some some.1)
