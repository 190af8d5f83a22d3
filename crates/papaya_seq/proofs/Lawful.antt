-- Facts about the words and the arena of a map whose invariant holds.
use Rattle.std.proofs.Common.{◌≡◌, ◌⊎◌, ⊎_elim, inl, inr, ℕ, zero, suc, ◌<◌, ◌≤◌, Bool, true, false}
use Rattle.std.proofs.Common.{List, [], ◌∷◌, length, Option, Some, None, refl, sym, ◌∙◌, ap, subst}
use Rattle.std.proofs.Common.{arith}
use Rattle.std.proofs.lemmas.Bool.{cases_Bool, cases_lt, cond-true, cond-false}
use Rattle.std.proofs.lemmas.List.Elements.{All-append, All-cons, All-nil}
use Rattle.std.specs.Prelude.{slice_index_or}
use Rattle.std.specs.List.{All, Contains}
use Rattle.papaya_words.specs.Table.{TableWords}
use Rattle.papaya_words.specs.Word.{kind_of, pair_of as number_of}
use Rattle.papaya_core_store.specs.declared.store.Mode.{Mode}
use Rattle.papaya_words.specs.declared.word.Kind.{Kind}
use Rattle.papaya_words.specs.declared.word.Kind.TheVariants as kinds
use Rattle.papaya_call_law.specs.Alone.{IsBare}
use Rattle.papaya_call.specs.declared.ask.At.TheVariants.{Next, Root, Slot}
use Rattle.papaya_words_law.specs.ChainContent.{missing_in, unless_found}
use Rattle.papaya_words_law.specs.Content.{lookup}
use Rattle.papaya_words_law.specs.Exchange.{Word, Empty, State, run, start}
use Rattle.papaya_words_law.specs.Code.{IsOfKind, code}
use Rattle.papaya_call.specs.Search.{IsSize}
use Rattle.papaya_words_law.specs.Grows.{Comes}
use Rattle.papaya_words_law.specs.Invariant.{IsSound}
use Rattle.papaya_words_law.proofs.CodeViews.{word_of_kind}
use Rattle.papaya_words_law.proofs.Logs.{on_comes}
use Rattle.papaya_words_law.proofs.OneMap.{sound}
use Rattle.papaya_core_timeline.specs.Content.{content, listed, pairs_from, pairs_of_kind, pairs_of_slots}
use Rattle.papaya_core_timeline.specs.declared.seat.Seat.{Seat}
use Rattle.papaya_core_timeline.specs.Kept.{IsLawfulCore, setting_of, coding_of, low}
use Rattle.papaya_core_store.specs.Store.{StoreState, Stored, pair_of}
use Rattle.papaya_core_store.specs.Tables.{table_of, word_at}
use Rattle.papaya_core_store.proofs.Logs.{pair_below, pair_number}
use Rattle.papaya_core_timeline.proofs.KeptSettings.{IsLawfulKeys, tables_hashed}
use Rattle.papaya_seq.specs.Map.{HasNone, Holds, IsLawfulMap}

module _ {K V S A : Type 0} (eq : K → K → Bool) (hash : K → ℕ) (callers : List (Seat K V A)) (mode : Mode) (store : StoreState K V S)
    (lawful : IsLawfulCore eq hash store callers mode) where
  -- the words of a core as the law has them
  abbrev law_words : State (Stored K V)
  law_words = run lawful.law.0 start

  -- the word of an empty slot is 0
  pub core_bare : IsBare (λ at. word_at store.words at)
  core_bare t i empty =
      let kept = lawful.law.1.1 in
      let g = setting_of {V = V} eq (low hash) mode store.words.tables in
      let c = coding_of {V = V} (low hash) in
      let w : Word (Stored K V) = law_words.slot t i in
      let is : w ≡ Empty = subst (λ kd. IsOfKind kd w) (ap kind_of (kept.coded (Slot t i)) ∙ empty) (word_of_kind g c w) in
      sym (kept.coded (Slot t i)) ∙ ap (code g c) is

  -- a table of the chain is there
  core_comes_there : (n : ℕ) → Comes law_words n → (n ≡ 0 → ⊥) → (t : TableWords) × (table_of store.words.tables n ≡ Some t)
  core_comes_there n comes some = lawful.law.1.1.made n
      (⊎_elim (λ (positive : 0 < n). positive) (λ (least : n ≤ 0). absurd (some (omega arith))) (cases_lt 0 n)) comes

  -- the words are sound
  core_sound : IsLawfulKeys eq hash → IsSound (setting_of {V = V} eq (low hash) mode store.words.tables) law_words
  core_sound keys =
      let hashed = tables_hashed {V = V} eq hash keys mode store.words.tables lawful.core.sizes in
      sound (setting_of {V = V} eq (low hash) mode store.words.tables) hashed.lawful lawful.law.0 lawful.law.1.1.allowed

  -- the table that the root of a core names is there
  pub core_root_there : IsLawfulKeys eq hash → (store.words.root ≡ 0 → ⊥) → (t : TableWords) × (table_of store.words.tables store.words.root ≡ Some t)
  core_root_there keys some =
      let is : law_words.root ≡ store.words.root = lawful.law.1.1.coded Root in
      let comes : Comes law_words law_words.root =
      ⊎_elim (λ (none : (law_words.root ≡ 0) × (law_words.first ≡ 0)). absurd (some (sym is ∙ none.0))) (on_comes law_words law_words.root)
      (core_sound keys).root in
      subst (λ n. (t : TableWords) × (table_of store.words.tables n ≡ Some t)) is (core_comes_there law_words.root comes (λ zero. some (sym is ∙ zero)))

  -- and so is each next table
  pub core_next_there : (t : ℕ) → (word_at store.words (Next t) ≡ 0 → ⊥) → (v : TableWords)
      × (table_of store.words.tables (word_at store.words (Next t)) ≡ Some v)
  core_next_there t some =
      let is : law_words.next t ≡ word_at store.words (Next t) = lawful.law.1.1.coded (Next t) in
      subst (λ n. (v : TableWords) × (table_of store.words.tables n ≡ Some v)) is
      (core_comes_there (law_words.next t) (inr (t, refl)) (λ zero. some (sym is ∙ zero)))

  -- whose number is greater
  pub core_next_rises : IsLawfulKeys eq hash → (t : ℕ) → (word_at store.words (Next t) ≡ 0 → ⊥) → t < word_at store.words (Next t)
  core_next_rises keys t some =
      let is : law_words.next t ≡ word_at store.words (Next t) = lawful.law.1.1.coded (Next t) in
      ⊎_elim (λ (zero : law_words.next t ≡ 0). absurd (some (sym is ∙ zero))) (λ (up : (0 < t) × (t < law_words.next t)). subst (λ n. t < n) is up.1)
      ((core_sound keys).rises t)

module _ {K V S : Type 0} (eq : K → K → Bool) (hash : K → ℕ) (mode : Mode) (store : StoreState K V S) {initial : ℕ}
    (lawful : IsLawfulMap eq hash store mode initial) where
  -- the word of an empty slot is 0
  pub bare : IsBare (λ at. word_at store.words at)
  bare = core_bare eq hash [] mode store lawful.lawful

  -- each table has the size of a table
  pub sized : (n : ℕ) (t : TableWords) → table_of store.words.tables n ≡ Some t → IsSize (length t.slots) t.limit
  sized = lawful.lawful.core.sizes

module _ {K V S : Type 0} (store : StoreState K V S) where
  -- a pair that was found by a number is in the arena under its own
  pub logged_itself : (n : ℕ) (p : Stored K V) → pair_of store n ≡ Some p → pair_of store p.number ≡ Some p
  logged_itself n p e = ap (pair_of store) (pair_number store n p e) ∙ e

  -- each pair of these words is in the arena
  abbrev AreInArena : List (Stored K V) → Type 0
  AreInArena ps = All (λ p. pair_of store p.number ≡ Some p) ps

  listed_logged : (n : ℕ) (o : Option (Stored K V)) → pair_of store n ≡ o → AreInArena (listed o)
  listed_logged n None is = All-nil (λ p. pair_of store p.number ≡ Some p)
  listed_logged n (Some p) is = All-cons (λ p. pair_of store p.number ≡ Some p) p [] (logged_itself n p is) (All-nil (λ p. pair_of store p.number ≡ Some p))

  kind_logged : (kd : Kind) (n : ℕ) → AreInArena (pairs_of_kind store kd n)
  kind_logged kinds.Live n = listed_logged n (pair_of store n) refl
  kind_logged kinds.Marked n = listed_logged n (pair_of store n) refl
  kind_logged kinds.Empty n = All-nil (λ p. pair_of store p.number ≡ Some p)
  kind_logged kinds.Copied n = All-nil (λ p. pair_of store p.number ≡ Some p)
  kind_logged kinds.Buried n = All-nil (λ p. pair_of store p.number ≡ Some p)
  kind_logged kinds.Closed n = All-nil (λ p. pair_of store p.number ≡ Some p)

  slots_logged : (words : List ℕ) → AreInArena (pairs_of_slots store words)
  slots_logged [] = All-nil (λ p. pair_of store p.number ≡ Some p)
  slots_logged (word ∷ words) = All-append (λ p. pair_of store p.number ≡ Some p) (pairs_of_kind store (kind_of word) (number_of word))
      (pairs_of_slots store words) (kind_logged (kind_of word) (number_of word)) (slots_logged words)

  module _ (eq : K → K → Bool) where
    -- the pairs of a next table whose keys were not found before
    found_logged : (o : Option (Stored K V)) (q : Stored K V) → pair_of store q.number ≡ Some q → AreInArena (unless_found o q)
    found_logged None q logged = All-cons (λ p. pair_of store p.number ≡ Some p) q [] logged (All-nil (λ p. pair_of store p.number ≡ Some p))
    found_logged (Some p) q logged = All-nil (λ p. pair_of store p.number ≡ Some p)

    missing_logged : (ps qs : List (Stored K V)) → AreInArena qs → AreInArena (missing_in eq (λ p. p.key) ps qs)
    missing_logged ps [] logged = All-nil (λ p. pair_of store p.number ≡ Some p)
    missing_logged ps (q ∷ qs) logged =
        All-append (λ p. pair_of store p.number ≡ Some p) (unless_found (lookup eq (λ p. p.key) ps q.key) q) (missing_in eq (λ p. p.key) ps qs)
        (found_logged (lookup eq (λ p. p.key) ps q.key) q (logged 0 q (omega arith)))
        (missing_logged ps qs (λ i d within. logged (suc i) d (omega (arith, within))))

    from_logged : (n : ℕ) (o : Option TableWords) → AreInArena (pairs_from eq store n o)
    from_logged zero o = All-nil (λ p. pair_of store p.number ≡ Some p)
    from_logged (suc n) None = All-nil (λ p. pair_of store p.number ≡ Some p)
    from_logged (suc n) (Some t) =
        let further = pairs_from eq store n (table_of store.words.tables t.next) in
        All-append (λ p. pair_of store p.number ≡ Some p) (pairs_of_slots store t.slots) (missing_in eq (λ p. p.key) (pairs_of_slots store t.slots) further)
        (slots_logged t.slots) (missing_logged (pairs_of_slots store t.slots) further (from_logged n (table_of store.words.tables t.next)))

    -- the content's pairs are in the arena
    pub all_logged : All (λ p. pair_of store p.number ≡ Some p) (content eq store)
    all_logged = from_logged (length store.words.tables) (table_of store.words.tables store.words.root)

    pub logged_content : (p : Stored K V) → Contains (content eq store) p → pair_of store p.number ≡ Some p
    logged_content p (k, within, is) = subst (λ q. pair_of store q.number ≡ Some q) is (all_logged k p within)

  module _ (matches : K → Bool) where
    -- a pair of the arena that matches
    pub record IsMatched : Type 0 where
      pub pair : Stored K V
      pub there : pair_of store pair.number ≡ Some pair
      pub matched : matches pair.key ≡ true

    -- no pair of the arena matches
    abbrev pub MatchesNone : Type 0
    MatchesNone = (n : ℕ) (p : Stored K V) → pair_of store n ≡ Some p → matches p.key ≡ false

    -- the same for the pairs below a number
    abbrev MatchesBelow : ℕ → Type 0
    MatchesBelow m = (n : ℕ) (p : Stored K V) → n < m → pair_of store n ≡ Some p → matches p.key ≡ false

    below_more : (m : ℕ) → MatchesBelow m → ((p : Stored K V) → pair_of store m ≡ Some p → matches p.key ≡ false) → MatchesBelow (suc m)
    below_more m none here n p below e =
        ⊎_elim
        (λ (less : n < m). none n p less e)
        (λ (least : m ≤ n). let is : n ≡ m = omega arith in here p (subst (λ i. pair_of store i ≡ Some p) is e))
        (cases_lt n m)

    decided_at : (m : ℕ) (o : Option (Stored K V)) → pair_of store m ≡ o → MatchesBelow m → IsMatched ⊎ MatchesBelow (suc m)
    decided_at m None is none = inr (below_more m none (λ p e. let f : None ≡ Some p = sym is ∙ e in cc))
    decided_at m (Some q) is none =
        ⊎_elim
        (λ (y : matches q.key ≡ true). inl (record { pair = q; there = logged_itself m q is; matched = y }))
        (λ (n : matches q.key ≡ false). inr (below_more m none
        (λ p e. let f : Some q ≡ Some p = sym is ∙ e in let same : q ≡ p = cc f in subst (λ (x : Stored K V). matches x.key ≡ false) same n)))
        (cases_Bool (matches q.key))

    decided_below : (m : ℕ) → IsMatched ⊎ MatchesBelow m
    decided_below zero = inr (λ n p below e. absurd (omega arith))
    decided_below (suc m) = ⊎_elim (λ (one : IsMatched). inl one) (λ (none : MatchesBelow m). decided_at m (pair_of store m) refl none) (decided_below m)

    -- a pair of the arena matches, or none does
    pub decided : IsMatched ⊎ MatchesNone
    decided = ⊎_elim (λ (one : IsMatched). inl one) (λ (none : MatchesBelow (length store.pairs)). inr (λ n p e. none n p (pair_below store n p e) e))
        (decided_below (length store.pairs))

    -- if no pair of the arena matches, none of the map's does
    pub none_held : (eq : K → K → Bool) → MatchesNone → HasNone eq matches store
    none_held eq none k d within = none (slice_index_or (content eq store) k d).number (slice_index_or (content eq store) k d) (all_logged eq k d within)

-- a key that isn't found in a list is equal to none of its keys
pub lookup_none : {K V : Type 0} (eq : K → K → Bool) (ps : List (Stored K V)) (k : K) → lookup eq (λ p. p.key) ps k ≡ None → All (λ p. eq k p.key ≡ false) ps
lookup_none eq [] k e = All-nil (λ p. eq k p.key ≡ false)
lookup_none {K} {V} eq (q ∷ ps) k e =
    ⊎_elim
    (λ (y : eq k q.key ≡ true). let s = cond-true (eq k q.key) (Some q) (lookup eq (λ (p : Stored K V). p.key) ps k) y in absurd cc)
    (λ (n : eq k q.key ≡ false). All-cons (λ (p : Stored K V). eq k p.key ≡ false) q ps n
    (lookup_none eq ps k (sym (cond-false (eq k q.key) (Some q) (lookup eq (λ (p : Stored K V). p.key) ps k) n) ∙ e)))
    (cases_Bool (eq k q.key))

-- a pair that is found in a list is in it, and its key is equal
pub lookup_some : {K V : Type 0} (eq : K → K → Bool) (ps : List (Stored K V)) (k : K) (p : Stored K V) → lookup eq (λ q. q.key) ps k ≡ Some p
    → Contains ps p × (eq k p.key ≡ true)
lookup_some eq [] k p e = let f : None ≡ Some p = e in cc
lookup_some {K} {V} eq (q ∷ ps) k p e =
    ⊎_elim
    (λ (y : eq k q.key ≡ true). let s = cond-true (eq k q.key) (Some q) (lookup eq (λ (r : Stored K V). r.key) ps k) y in
    let is : q ≡ p = cc (s, e) in ((0, omega arith, is), subst (λ (r : Stored K V). eq k r.key ≡ true) is y))
    (λ (n : eq k q.key ≡ false).
    let rest = lookup_some eq ps k p (sym (cond-false (eq k q.key) (Some q) (lookup eq (λ (r : Stored K V). r.key) ps k) n) ∙ e) in
    ((suc rest.0.0, let within = rest.0.1 in omega (arith, within), rest.0.2), rest.1))
    (cases_Bool (eq k q.key))

module _ {K V S : Type 0} (eq : K → K → Bool) (matches : K → Bool) (k : K) (alike : (l : K) → matches l ≡ eq k l) (store : StoreState K V S) where
  -- a key that the finite map doesn't have matches none of its pairs
  pub lookup_has_none : lookup eq (λ p. p.key) (content eq store) k ≡ None → HasNone eq matches store
  lookup_has_none e i d within = alike (slice_index_or (content eq store) i d).key ∙ lookup_none eq (content eq store) k e i d within

  -- and one that it has matches the pair that it has there
  pub lookup_holds : (p : Stored K V) → lookup eq (λ q. q.key) (content eq store) k ≡ Some p → Holds eq matches store p
  lookup_holds p e = let r = lookup_some eq (content eq store) k p e in record { there = r.0; key = alike p.key ∙ r.1 }
