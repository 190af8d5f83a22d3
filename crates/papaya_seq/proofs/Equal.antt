-- One lookup for each pair decides whether two maps of the same length are equal.
use Rattle.std.proofs.Common.{◌≡◌, ⊎_elim, suc, ◌≤◌, Bool, true, false, cond, List, [], ◌∷◌, ◌++◌}
use Rattle.std.proofs.Common.{map, length, Option, Some, None, MatchOption, refl, sym, ap, ◌∙◌}
use Rattle.std.proofs.Common.{subst, arith}
use Rattle.std.specs.Prelude.{Decides, is_some}
use Rattle.std.proofs.lemmas.Bool.{cases_Bool, cond-true, cond-false}
use Rattle.std.specs.Cmp.{IsEquivalence}
use Rattle.std.specs.List.{AllByRecursion}
use Rattle.papaya_words_law.specs.Content.{AreApart, lookup}
use Rattle.papaya_core_timeline.specs.Content.{content, map_in}
use Rattle.papaya_core_store.specs.Store.{StoreState, Stored}
use Rattle.papaya_seq.specs.Map.{entry_of, value_of}
use Rattle.papaya_seq.specs.Clones.{AreEqual, HasEqual}

module _ {K P : Type 0} (eq : K → K → Bool) (law : IsEquivalence eq) (key : P → K) where
  abbrev without : List P → K → List P
  without [] k = []
  without (p ∷ ps) k = cond (eq k (key p)) ps (p ∷ without ps k)

  without_long : (ps : List P) (k : K) → is_some (lookup eq key ps k) ≡ true → length ps ≡ suc (length (without ps k))
  without_long [] k e = absurd cc
  without_long (p ∷ ps) k e = go (eq k (key p)) (without_long ps k) e
    where
      go : (b : Bool) → (is_some (lookup eq key ps k) ≡ true → length ps ≡ suc (length (without ps k)))
          → is_some (cond b (Some p) (lookup eq key ps k)) ≡ true → length (p ∷ ps) ≡ suc (length (cond b ps (p ∷ without ps k)))
      go true rest e = refl
      go false rest e = ap suc (rest e)

  -- if x is equal to k, a key that is not equal to k is not equal to x
  differs : (k l x : K) → eq l k ≡ false → eq k x ≡ true → eq l x ≡ false
  differs k l x n y = law.symm l x ∙ sym (law.congr k x l y) ∙ law.symm k l ∙ n

  without_other : (ps : List P) (k l : K) → eq l k ≡ false → lookup eq key (without ps k) l ≡ lookup eq key ps l
  without_other [] k l n = refl
  without_other (p ∷ ps) k l n = go (eq k (key p)) (without_other ps k l n) refl
    where
      go : (b : Bool) → lookup eq key (without ps k) l ≡ lookup eq key ps l → eq k (key p) ≡ b
          → lookup eq key (cond b ps (p ∷ without ps k)) l ≡ cond (eq l (key p)) (Some p) (lookup eq key ps l)
      go true rest y = sym (cond-false (eq l (key p)) (Some p) (lookup eq key ps l) (differs k l (key p) n y))
      go false rest y = ap (cond (eq l (key p)) (Some p)) rest

  abbrev Covers : List P → List P → Type 0
  Covers ys xs = AllByRecursion (λ x. is_some (lookup eq key ys (key x)) ≡ true) xs

  covers_without : (ys : List P) (k : K) (xs : List P) → lookup eq key xs k ≡ None → Covers ys xs → Covers (without ys k) xs
  covers_without ys k [] none all = tt
  covers_without ys k (z ∷ zs) none (found, more) = go (eq k (key z)) (λ rest. covers_without ys k zs rest more) refl none
    where
      go : (b : Bool) → (lookup eq key zs k ≡ None → Covers (without ys k) zs) → eq k (key z) ≡ b → cond b (Some z) (lookup eq key zs k) ≡ None
          → Covers (without ys k) (z ∷ zs)
      go true on y none = absurd cc
      go false on n none = (ap is_some (without_other ys k (key z) (law.symm (key z) k ∙ n)) ∙ found, on none)

  -- a list of different keys that are all found in another list is no longer than it
  pub covered : (xs ys : List P) → AreApart eq key xs → Covers ys xs → length xs ≤ length ys
  covered [] ys apart all = omega arith
  covered (x ∷ xs) ys (alone, apart) (here, rest) =
      let one = without_long ys (key x) here in
      let more = covered xs (without ys (key x)) apart (covers_without ys (key x) xs alone rest) in
      omega (arith, one, more)

  -- equal keys have one pair
  pub alike : (j k : K) → eq j k ≡ true → (ps : List P) → lookup eq key ps j ≡ lookup eq key ps k
  alike j k e [] = refl
  alike j k e (p ∷ ps) = ap (λ b. cond b (Some p) (lookup eq key ps j)) (law.congr j k (key p) e) ∙ ap (cond (eq k (key p)) (Some p)) (alike j k e ps)

  -- the pair that is found has an equal key
  pub found_key : (ps : List P) (k : K) (p : P) → lookup eq key ps k ≡ Some p → eq k (key p) ≡ true
  found_key [] k p e = absurd cc
  found_key (q ∷ qs) k p e = go (eq k (key q)) (found_key qs k p) refl e
    where
      go : (b : Bool) → (lookup eq key qs k ≡ Some p → eq k (key p) ≡ true) → eq k (key q) ≡ b → cond b (Some q) (lookup eq key qs k) ≡ Some p
          → eq k (key p) ≡ true
      go true on y e = let same : q ≡ p = cc e in subst (λ (z : P). eq k (key z) ≡ true) same y
      go false on n e = on e

  -- a pair that is found behind another is found from there
  later : (p : P) (rest : List P) → lookup eq key rest (key p) ≡ None → (q : P) → lookup eq key rest (key q) ≡ Some q
      → cond (eq (key q) (key p)) (Some p) (lookup eq key rest (key q)) ≡ Some q
  later p rest alone q is =
      ⊎_elim
      (λ (y : eq (key q) (key p) ≡ true). let both : None ≡ Some q = sym alone ∙ sym (alike (key q) (key p) y rest) ∙ is in absurd cc)
      (λ (n : eq (key q) (key p) ≡ false). cond-false (eq (key q) (key p)) (Some p) (lookup eq key rest (key q)) n ∙ is)
      (cases_Bool (eq (key q) (key p)))

  each_from : (R : P → Type 0) (ps rest : List P) → AreApart eq key rest
      → ((p : P) → lookup eq key rest (key p) ≡ Some p → lookup eq key ps (key p) ≡ Some p) → ((p : P) → lookup eq key ps (key p) ≡ Some p → R p)
      → AllByRecursion R rest
  each_from R ps [] apart up f = tt
  each_from R ps (p ∷ rest) (alone, apart) up f = (
    f p (up p (cond-true (eq (key p) (key p)) (Some p) (lookup eq key rest (key p)) (law.refl (key p)))),
    each_from R ps rest apart (λ q is. up q (later p rest alone q is)) f,
  )

  module _ (R : P → Type 0) where
    -- a fact about each pair of a list of distinct keys that is found there
    pub each_found : (ps : List P) → AreApart eq key ps → ((p : P) → lookup eq key ps (key p) ≡ Some p → R p) → AllByRecursion R ps
    each_found ps apart f = each_from R ps ps apart (λ p is. is) f

    -- a fact about each pair holds of one that is found
    pub at_found : (ps : List P) (k : K) (p : P) → lookup eq key ps k ≡ Some p → AllByRecursion R ps → R p
    at_found [] k p e all = absurd cc
    at_found (q ∷ qs) k p e (here, rest) = go (eq k (key q)) (λ on. at_found qs k p on rest) e
      where
        go : (b : Bool) → (lookup eq key qs k ≡ Some p → R p) → cond b (Some q) (lookup eq key qs k) ≡ Some p → R p
        go true on e = let same : q ≡ p = cc e in subst R same here
        go false on e = on e

-- a fact about each item
module _ {A B : Type 0} (R : B → Type 0) (view : A → B) where
  pub all_map : (xs : List A) → AllByRecursion (λ x. R (view x)) xs → AllByRecursion R (map view xs)
  all_map [] all = tt
  all_map (x ∷ xs) (here, rest) = (here, all_map xs rest)

  pub map_all : (xs : List A) → AllByRecursion R (map view xs) → AllByRecursion (λ x. R (view x)) xs
  map_all [] all = tt
  map_all (x ∷ xs) (here, rest) = (here, map_all xs rest)

module _ {B : Type 0} (R : B → Type 0) where
  pub all_push : (xs : List B) (x : B) → AllByRecursion R xs → R x → AllByRecursion R (xs ++ x ∷ [])
  all_push [] x all one = (one, tt)
  all_push (y ∷ ys) x (here, rest) one = (here, all_push ys x rest one)

  pub all_middle : (xs : List B) (x : B) (ys : List B) → AllByRecursion R (xs ++ x ∷ ys) → R x
  all_middle [] x ys all = all.0
  all_middle (z ∷ zs) x ys all = all_middle zs x ys all.1

module _ {K V S : Type 0} (eq : K → K → Bool) (same : V → V → Bool) (s : StoreState K V S) (k : K) (v : V) where
  -- the value that is there decides
  pub decided_some : (w : V) (b : Bool) → value_of (map_in eq s k) ≡ Some w → b ≡ same v w → Decides b (HasEqual eq same s (k, v))
  decided_some w b there is = (
    λ y. (w, there, sym is ∙ y),
    λ has. let one : Some w ≡ Some has.0 = sym there ∙ has.1 in let same_one : w ≡ has.0 = (cc one) in is ∙ ap (same v) same_one ∙ has.2,
  )

  pub decided_none : value_of (map_in eq s k) ≡ None → Decides false (HasEqual eq same s (k, v))
  decided_none there = (λ y. absurd cc, λ has. let one : None ≡ Some has.0 = sym there ∙ has.1 in absurd cc)

module _ {K V S : Type 0} (eq : K → K → Bool) (law : IsEquivalence eq) (same : V → V → Bool) (a b : StoreState K V S) where
  abbrev keyed : Stored K V → K
  keyed p = p.key

  abbrev Like : Stored K V → Stored K V → Type 0
  Like p q = same p.value q.value ≡ true

  value_there : (o : Option (Stored K V)) (w : V) → value_of o ≡ Some w → (q : Stored K V) × (o ≡ Some q) × (q.value ≡ w)
  value_there None w e = absurd cc
  value_there (Some q) w e = (q, refl, cc e)

  -- equal maps, read at a pair of the first
  equal_at : AreEqual eq same a b → (p : Stored K V) → map_in eq a p.key ≡ Some p → HasEqual eq same b (entry_of p)
  equal_at equal p is =
      let here : MatchOption (Some p) (map_in eq b p.key ≡ None)
      (λ (p' : Stored K V). (q : Stored K V) × (map_in eq b p.key ≡ Some q)
      × Like p' q) = subst (λ (o : Option (Stored K V)).
      MatchOption o (map_in eq b p.key ≡ None) (λ (p' : Stored K V). (q : Stored K V) × (map_in eq b p.key ≡ Some q) × Like p' q)) is (equal p.key) in
      (here.0.value, ap value_of here.1, here.2)

  pub equal_each : AreApart eq keyed (content eq a) → AreEqual eq same a b → AllByRecursion (λ p. HasEqual eq same b (entry_of p)) (content eq a)
  equal_each apart equal = each_found eq law keyed (λ p. HasEqual eq same b (entry_of p)) (content eq a) apart (λ p is. equal_at equal p is)

  some_there : (p : Stored K V) → HasEqual eq same b (entry_of p) → is_some (map_in eq b p.key) ≡ true
  some_there p (w, is, like) = ap is_some (value_there (map_in eq b p.key) w is).1

  all_there : (ps : List (Stored K V)) → AllByRecursion (λ p. HasEqual eq same b (entry_of p)) ps
      → AllByRecursion (λ p. is_some (lookup eq keyed (content eq b) (keyed p)) ≡ true) ps
  all_there [] all = tt
  all_there (p ∷ ps) (here, rest) = (some_there p here, all_there ps rest)

  -- each pair of the first map is found, and the other one is as long
  pub equal_all : AreApart eq keyed (content eq a) → length (content eq a) ≡ length (content eq b)
      → AllByRecursion (λ p. HasEqual eq same b (entry_of p)) (content eq a) → AreEqual eq same a b
  equal_all apart long all k = of_option (map_in eq a k) refl
    where
      of_option : (o : Option (Stored K V)) → map_in eq a k ≡ o
          → MatchOption o (map_in eq b k ≡ None) (λ (p : Stored K V). (q : Stored K V) × (map_in eq b k ≡ Some q) × Like p q)
      of_option (Some p) is =
          let has : HasEqual eq same b (entry_of p) = at_found eq law keyed (λ q. HasEqual eq same b (entry_of q)) (content eq a) k p is all in
          let there = value_there (map_in eq b p.key) has.0 has.1 in (
            there.0,
            alike eq law keyed k p.key (found_key eq law keyed (content eq a) k p is) (content eq b)
                ∙ there.1,
            subst (λ (w : V). same p.value w ≡ true) (sym there.2) has.2,
          )
      of_option None is = none (map_in eq b k) refl
        where
          none : (o : Option (Stored K V)) → map_in eq b k ≡ o → map_in eq b k ≡ None
          none None e = e
          none (Some q) e =
              let extra : Stored K V = record { number = 0; key = k; value = q.value } in
              let more = covered eq law keyed (extra ∷ content eq a) (content eq b) (is, apart) (ap is_some e, all_there (content eq a) all) in
              absurd (omega (arith, more, long))

  -- maps of two lengths are not equal
  pub equal_long : AreApart eq keyed (content eq a) → AreApart eq keyed (content eq b) → AreEqual eq same a b → length (content eq a) ≡ length (content eq b)
  equal_long apart apart' equal =
      let one = covered eq law keyed (content eq a) (content eq b) apart (all_there (content eq a) (equal_each apart equal)) in
      let two = covered eq law keyed (content eq b) (content eq a) apart'
      (each_found eq law keyed (λ q. is_some (map_in eq a q.key) ≡ true) (content eq b) apart' back) in
      omega (arith, one, two)
    where
      back : (q : Stored K V) → map_in eq b q.key ≡ Some q → is_some (map_in eq a q.key) ≡ true
      back q is = of_option (map_in eq a q.key) refl
        where
          of_option : (o : Option (Stored K V)) → map_in eq a q.key ≡ o → is_some (map_in eq a q.key) ≡ true
          of_option (Some p) e = ap is_some e
          of_option None e =
              let here : MatchOption None (map_in eq b q.key ≡ None)
              (λ (p : Stored K V). (r : Stored K V) × (map_in eq b q.key ≡ Some r)
              × Like p r) = subst (λ (o : Option (Stored K V)).
              MatchOption o (map_in eq b q.key ≡ None) (λ (p : Stored K V). (r : Stored K V) × (map_in eq b q.key ≡ Some r) × Like p r)) e (equal q.key) in
              let clash : None ≡ Some q = sym here ∙ is in absurd cc
