-- Clones of pairs with different keys, inserted one after the other.
use Rattle.std.proofs.Common.{◌≡◌, ⊎_elim, Bool, true, false, List, [], ◌∷◌, ◌++◌, map, Option}
use Rattle.std.proofs.Common.{Some, None, Ok, Err, MatchOption, option_map, refl, sym, ap, ◌∙◌}
use Rattle.std.proofs.Common.{subst, arith, ◌+◌, ◌≤◌, length}
use Rattle.std.proofs.lemmas.List.{length_push}
use Rattle.std.proofs.lemmas.Bool.{cases_Bool, cond-true, cond-false}
use Rattle.std.specs.Cmp.{IsEquivalence}
use Rattle.std.specs.List.{AllZip}
use Rattle.papaya_words.specs.declared.refused.Refused.{Refused}
use Rattle.papaya_words_law.specs.Content.{AreApart, lookup}
use Rattle.papaya_core_timeline.specs.Content.{content, map_in}
use Rattle.papaya_core_store.specs.Store.{StoreState, Stored}
use Rattle.papaya_seq.specs.Clones.{Clones, IsCloned, IsCopied, IsCopyCut}
use Rattle.papaya_seq.specs.Entries.{Entries, IsPut, entries_in, kept, nothing, put, put_all}
use Rattle.papaya_seq.specs.Map.{PushesOne, MapState, entry_of}
use Rattle.papaya_seq.proofs.Equal.{alike}
use Rattle.papaya_seq.proofs.Filled.{cut, empty_entries, fills_more, fills_none, put_all_alike}

module _ {K V : Type 0} (eq : K → K → Bool) (law : IsEquivalence eq) (CK : K → K → Type 0) (CV : V → V → Type 0)
    (same : (k l : K) → CK k l → eq k l ≡ true) where
  -- a key that is not among those of the pairs is not among those of the clones
  absent : (ps : List (Stored K V)) (cs : List (K × V)) → AllZip (Clones CK CV) (map entry_of ps) cs → (m : Entries K V) (k : K)
      → lookup eq (λ p. p.key) ps k ≡ None → put_all eq (λ c. c) m cs k ≡ m k
  absent [] [] all m k none = refl
  absent [] (c ∷ cs) all m k none = absurd all
  absent (p ∷ ps) [] all m k none = absurd all
  absent (p ∷ ps) (c ∷ cs) (here, rest) m k none =
      ⊎_elim
      (λ (y : eq k p.key ≡ true). let clash : Some p ≡ None = sym (cond-true (eq k p.key) (Some p) (lookup eq (λ (q : Stored K V). q.key) ps k) y)
      ∙ none in absurd cc)
      (λ (n : eq k p.key ≡ false).
      let other : eq k c.0 ≡ false = law.symm k c.0 ∙ sym (law.congr p.key c.0 k (same p.key c.0 here.0)) ∙ law.symm p.key k ∙ n in
      absent ps cs rest (put eq m c) k (sym (cond-false (eq k p.key) (Some p) (lookup eq (λ (q : Stored K V). q.key) ps k) n) ∙ none)
      ∙ cond-false (eq k c.0) (Some (kept (m c.0) c)) (m k) other)
      (cases_Bool (eq k p.key))

  -- no class of these pairs has an entry
  abbrev HasNoneOf : List (Stored K V) → Entries K V → Type 0
  HasNoneOf ps m = (j : K) (r : Stored K V) → lookup eq (λ p. p.key) ps j ≡ Some r → m j ≡ None

  -- and the others have their clones, if none was there before
  there : (ps : List (Stored K V)) (cs : List (K × V)) → AreApart eq (λ p. p.key) ps → AllZip (Clones CK CV) (map entry_of ps) cs → (m : Entries K V)
      → HasNoneOf ps m → (k : K) (p : Stored K V) → lookup eq (λ q. q.key) ps k ≡ Some p → (c : K × V) × (put_all eq (λ d. d) m cs k ≡ Some c)
      × Clones CK CV (entry_of p) c
  there [] cs apart all m free k p is = absurd cc
  there (q ∷ ps) [] apart all m free k p is = absurd all
  there (q ∷ ps) (c ∷ cs) (alone, apart) (here, rest) m free k p is =
      ⊎_elim
      (λ (y : eq k q.key ≡ true).
      let first : q ≡ p = (let one : Some q ≡ Some p = sym (cond-true (eq k q.key) (Some q) (lookup eq (λ (r : Stored K V). r.key) ps k) y) ∙ is in cc) in
      let none : lookup eq (λ (r : Stored K V). r.key) ps k ≡ None = alike eq law (λ (r : Stored K V). r.key) k q.key y ps ∙ alone in
      let its : eq k c.0 ≡ true = law.congr k q.key c.0 y ∙ same q.key c.0 here.0 in
      let back : eq c.0 q.key ≡ true = law.symm c.0 q.key ∙ same q.key c.0 here.0 in
      let unmet : m c.0 ≡ None = free c.0 q (cond-true (eq c.0 q.key) (Some q) (lookup eq (λ (r : Stored K V). r.key) ps c.0) back) in (
        c,
        absent ps cs rest (put eq m c) k none ∙ cond-true (eq k c.0) (Some (kept (m c.0) c)) (m k) its
            ∙ ap (λ (o : Option (K × V)). Some (kept o c)) unmet,
        subst (λ (r : Stored K V). Clones CK CV (entry_of r) c) first here,
      ))
      (λ (n : eq k q.key ≡ false). there ps cs apart rest (put eq m c) still k p
      (sym (cond-false (eq k q.key) (Some q) (lookup eq (λ (r : Stored K V). r.key) ps k) n) ∙ is))
      (cases_Bool (eq k q.key))
    where
      still : HasNoneOf ps (put eq m c)
      still j r found =
          ⊎_elim
          (λ (y : eq j q.key ≡ true). let clash : Some r ≡ None = sym found ∙ alike eq law (λ (p : Stored K V). p.key) j q.key y ps ∙ alone in absurd cc)
          (λ (n : eq j q.key ≡ false).
          let other : eq j c.0 ≡ false = law.symm j c.0 ∙ sym (law.congr q.key c.0 j (same q.key c.0 here.0)) ∙ law.symm q.key j ∙ n in
          cond-false (eq j c.0) (Some (kept (m c.0) c)) (m j) other
          ∙ free j r (cond-false (eq j q.key) (Some q) (lookup eq (λ (p : Stored K V). p.key) ps j) n ∙ found))
          (cases_Bool (eq j q.key))

  none_of : (o : Option (Stored K V)) → option_map entry_of o ≡ None → o ≡ None
  none_of None e = refl
  none_of (Some q) e = absurd cc

  some_of : (o : Option (Stored K V)) (c : K × V) → option_map entry_of o ≡ Some c → (q : Stored K V) × (o ≡ Some q) × (entry_of q ≡ c)
  some_of None c e = absurd cc
  some_of (Some q) c e = (q, refl, cc e)

  -- so each class of a map has a clone in one that was filled with clones, and had no pair before
  pub all_copied : {S Z : Type 0} (s : StoreState K V Z) (to to' : MapState K V S) → AreApart eq (λ p. p.key) (content eq s)
      → content eq to.store ≡ [] → IsCopied eq CK CV to (map entry_of (content eq s)) to' → IsCloned eq CK CV s to'.store
  all_copied s to to' apart empty copied k = of_option (map_in eq s k) refl
    where
      entries : (j : K) → entries_in eq to'.store j ≡ put_all eq (λ c. c) nothing copied.clones j
      entries j = copied.fills.entries j ∙ put_all_alike eq (λ c. c) copied.clones (entries_in eq to.store) nothing (empty_entries eq to.store empty) j

      of_option : (o : Option (Stored K V)) → map_in eq s k ≡ o
          → MatchOption o (map_in eq to'.store k ≡ None)
          (λ (p : Stored K V). (q : Stored K V) × (map_in eq to'.store k ≡ Some q) × (CK p.key q.key × CV p.value q.value))
      of_option None is = none_of (map_in eq to'.store k) (entries k ∙ absent (content eq s) copied.clones copied.each nothing k is)
      of_option (Some p) is =
          let found = there (content eq s) copied.clones apart copied.each nothing (λ j r found. refl) k p is in
          let own = some_of (map_in eq to'.store k) found.0 (entries k ∙ found.1) in
          (own.0, own.1, subst (λ (c : K × V). Clones CK CV (entry_of p) c) (sym own.2) found.2)

module _ {K V : Type 0} (CK : K → K → Type 0) (CV : V → V → Type 0) where
  pub zip_more : (xs ys : List (K × V)) (x y : K × V) → AllZip (Clones CK CV) xs ys → Clones CK CV x y → AllZip (Clones CK CV) (xs ++ x ∷ []) (ys ++ y ∷ [])
  zip_more [] [] x y all one = (one, tt)
  zip_more [] (y' ∷ ys) x y all one = absurd all
  zip_more (x' ∷ xs) [] x y all one = absurd all
  zip_more (x' ∷ xs) (y' ∷ ys) x y all one = (all.0, zip_more xs ys x y all.1 one)

module _ {K V S : Type 0} (eq : K → K → Bool) (CK : K → K → Type 0) (CV : V → V → Type 0) (to : MapState K V S) where
  pub copied_none : IsCopied eq CK CV to [] to
  copied_none = record { clones = []; each = tt; fills = fills_none eq (λ c. c) to; logged = omega arith; shards = refl }

  module _ (es : List (K × V)) (at : MapState K V S) (copied : IsCopied eq CK CV to es at) (e c : K × V) (clones_key : CK e.0 c.0)
      (clones_value : CV e.1 c.1) where
    -- one clone more
    pub copied_more : (new : Bool) (to' : MapState K V S) → IsPut eq c.0 c.1 at (Ok new) to' → PushesOne at.store to'.store
        → IsCopied eq CK CV to (es ++ e ∷ []) to'
    copied_more new to' put logs = record {
      clones = copied.clones ++ c ∷ [];
      each = zip_more CK CV es copied.clones e c copied.each (clones_key, clones_value);
      fills = fills_more eq (λ d. d) to copied.clones at copied.fills c new to' put;
      logged =
          let before : length at.store.pairs ≤ length to.store.pairs + length es = copied.logged in
          let one : length to'.store.pairs ≤ length at.store.pairs + 1 = logs.pairs in
          let more : length (es ++ e ∷ []) ≡ length es + 1 = length_push es e in
          omega (arith, before, one, more);
      shards = logs.shards ∙ copied.shards;
    }

    -- or one that is refused
    pub copy_cut : {Z : Type 0} (from : StoreState K V Z) (rest : List (K × V)) → map entry_of (content eq from) ≡ es ++ e ∷ rest
        → (refused : Refused) (to' : MapState K V S) → IsPut eq c.0 c.1 at (Err refused) to' → IsCopyCut eq CK CV from to refused to'
    copy_cut from rest whole refused to' put = record {
      done = es;
      next = e;
      rest = rest;
      whole = whole;
      clones = copied.clones;
      each = copied.each;
      clone = c;
      cloned = (clones_key, clones_value);
      cut = cut eq (λ d. d) to copied.clones at copied.fills c refused to' put;
    }
