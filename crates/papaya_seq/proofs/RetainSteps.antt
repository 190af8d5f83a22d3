-- The steps of a retain, from slot to slot.
use Rattle.std.proofs.Common.{◌≡◌, ◌⊎◌, inl, inr, ℕ, suc, ◌<◌, Bool, true, false, cond, List, []}
use Rattle.std.proofs.Common.{◌∷◌, ◌++◌, length, take, drop, slice_index, slice_set, Option, Some}
use Rattle.std.proofs.Common.{None, append-nil, refl, sym, ◌∙◌, ap, subst, arith, ◌==◌, eq-eqb}
use denote.Ref.{Bor}
use Rattle.std.specs.Fn.{Mut}
use Rattle.papaya_words.specs.Table.{TableWords}
use Rattle.papaya_words.specs.Word.{kind_of, pair_of as number_of, buried_word}
use Rattle.papaya_words.specs.declared.word.Kind.TheVariants as kinds
use Rattle.papaya_call.specs.declared.ask.Answer.{Answer}
use Rattle.papaya_call.specs.declared.ask.Answer.TheVariants.{Yes}
use Rattle.papaya_call.specs.declared.ask.At.{At}
use Rattle.papaya_words_law.specs.Content.{AreApart}
use Rattle.papaya_core_timeline.specs.Content.{content, pairs_of_slots}
use Rattle.papaya_core_store.specs.Store.{StoreState, Stored, pair_of}
use Rattle.papaya_core_store.specs.Performs.{Exchanges}
use Rattle.papaya_core_store.specs.Tables.{put, table_of, word_at, word_in}
use Rattle.papaya_core_timeline.proofs.KeptSettings.{IsLawfulKeys}
use Rattle.papaya_core_timeline.proofs.StoreLemmas.{matched}
use Rattle.papaya_seq.specs.Map.{IsLawfulMap, MapState, Unchanged, next_of, slots_in, slots_of}
use Rattle.papaya_seq.specs.Removes.{IsShown}
use Rattle.papaya_seq.specs.Retains.{Answers, IsRetainedTo, IsRetaining, Retains, root_words, slot_words}
use Rattle.papaya_seq.proofs.RetainLaw.{buried_at, root_word, grave_bare, last_content, next_same, root_same, words_set}
use Rattle.papaya_seq.proofs.RetainLists.{bare_pairs, drop_more, drop_there, live_pairs}
use Rattle.papaya_seq.proofs.RetainLists.{retains_more, set_before, set_behind, set_long, set_there}
use Rattle.papaya_seq.proofs.RetainLists.{slots_more, slots_same, take_all}
use Rattle.papaya_seq.proofs.Unmarked.{last_next, unmarked}
use Rattle.papaya_seq.proofs.WalkLists.{pairs_of_word}

-- they are as many as the root has slots
words_many : (o : Option TableWords) → length (slot_words o) ≡ slots_in o
words_many None = refl
words_many (Some t) = refl

word_slot : (i : ℕ) (o : Option TableWords) → i < slots_in o → word_in (λ v. slice_index v.slots i) o ≡ slice_index (slot_words o) i
word_slot i None within = absurd (omega (arith, within))
word_slot i (Some t) within = refl

module _ {K V S : Type 0} (s : StoreState K V S) (i : ℕ) where
  -- A slot of the root was scanned: the closure was called with its pair, if it has one, and the
  -- pair stays or was deleted.
  abbrev pub IsScanned : {F : Type 0} → Mut F (Bor K × (Bor V × Unit {0})) Bool → F → StoreState K V S
      → F → Type 0
  IsScanned g f s' f' = ((kind_of (root_word s i) ≡ kinds.Live → ⊥) × (s' ≡ s) × (f' ≡ f))
      ⊎ ((p : Stored K V) × (kind_of (root_word s i) ≡ kinds.Live) × (pair_of s (number_of (root_word s i)) ≡ Some p)
      × (agrees : Bool) × Answers g f p agrees f' × (s' ≡ cond agrees s (buried_at s i)))

module _ {F K V S : Type 0} (g : Mut F (Bor K × (Bor V × Unit {0})) Bool) (s : MapState K V S) (f : F) where
  pub retaining_begins : next_of s.store ≡ 0 → IsRetaining g s f 0 s f
  retaining_begins last = record {
    last = last;
    root = refl;
    long = refl;
    keeps = record { hasher = refl; mode = refl; initial = refl; pairs = λ n p e. e };
    pairs = λ n. refl;
    behind = refl;
    retained = (refl, refl);
  }

  module _ (eq : K → K → Bool) (hash : K → ℕ) (i : ℕ) (s' : MapState K V S) (f' : F) (retaining : IsRetaining g s f i s' f') (within : i < slots_of s.store)
      (lawful : IsLawfulMap eq hash s'.store s'.mode s'.initial) (keys : IsLawfulKeys eq hash) (s'' : MapState K V S) (f'' : F)
      (mode : s''.mode ≡ s'.mode) (initial : s''.initial ≡ s'.initial) where
    low : i < slots_of s'.store
    low = subst (λ n. i < n) (sym retaining.long) within

    low_words : i < length (root_words s.store)
    low_words = subst (λ n. i < n) (sym (words_many (table_of s.store.words.tables s.store.words.root))) within

    low_words' : i < length (root_words s'.store)
    low_words' = subst (λ n. i < n) (sym (words_many (table_of s'.store.words.tables s'.store.words.root))) low

    -- the slot's word, which is the one of before
    word_is : root_word s'.store i ≡ slice_index (root_words s'.store) i
    word_is = word_slot i (table_of s'.store.words.tables s'.store.words.root) low

    word_was : slice_index (root_words s.store) i ≡ root_word s'.store i
    word_was = sym (drop_there (root_words s'.store) (root_words s.store) i retaining.behind low_words' low_words) ∙ sym word_is

    -- the pairs that are retained of the slots up to this one
    retained_more : (here here' : List (Stored K V)) → pairs_of_word s.store (root_word s'.store i) ≡ here → (words : List ℕ)
        → take i words ≡ take i (root_words s'.store) → i < length words → pairs_of_word s.store (slice_index words i) ≡ here' → Retains g f' here here' f''
        → Retains g f (pairs_of_slots s.store (take (suc i) (root_words s.store))) (pairs_of_slots s.store (take (suc i) words)) f''
    retained_more here here' is words before long is' next =
        subst (λ l. Retains g f l (pairs_of_slots s.store (take (suc i) words)) f'')
        (sym (slots_more s.store (root_words s.store) i low_words
        ∙ ap (λ l. pairs_of_slots s.store (take i (root_words s.store)) ++ l) (ap (pairs_of_word s.store) word_was ∙ is)))
        (subst (λ l. Retains g f (pairs_of_slots s.store (take i (root_words s.store)) ++ here) l f'')
        (sym (slots_more s.store words i long ∙ ap (λ l. pairs_of_slots s.store l ++ pairs_of_word s.store (slice_index words i)) before
        ∙ ap (λ l. pairs_of_slots s.store (take i (root_words s'.store)) ++ l) is'))
        (retains_more g f f' f'' (pairs_of_slots s.store (take i (root_words s.store))) here (pairs_of_slots s.store (take i (root_words s'.store)))
        here' retaining.retained next))

    -- the map stays, and its slot's pairs are these
    stays : s''.store ≡ s'.store → (here : List (Stored K V)) → pairs_of_word s.store (root_word s'.store i) ≡ here → Retains g f' here here f''
        → IsRetaining g s f (suc i) s'' f''
    stays same here is next = record {
      last = ap next_of same ∙ retaining.last;
      root = ap (λ (y : StoreState K V S). y.words.root) same ∙ retaining.root;
      long = ap slots_of same ∙ retaining.long;
      keeps = record {
        hasher = ap (λ (y : StoreState K V S). y.hasher) same ∙ retaining.keeps.hasher;
        mode = mode ∙ retaining.keeps.mode;
        initial = initial ∙ retaining.keeps.initial;
        pairs = λ n p e. ap (λ (y : StoreState K V S). pair_of y n) same ∙ retaining.keeps.pairs n p e;
      };
      pairs = λ n. ap (λ (y : StoreState K V S). pair_of y n) same ∙ retaining.pairs n;
      behind = ap (λ (y : StoreState K V S). drop (suc i) (root_words y)) same
          ∙ drop_more (root_words s'.store) (root_words s.store) i retaining.behind low_words' low_words;
      retained = subst (λ (y : StoreState K V S).
          Retains g f (pairs_of_slots s.store (take (suc i) (root_words s.store))) (pairs_of_slots s.store (take (suc i) (root_words y))) f'') (sym same)
          (retained_more here here is (root_words s'.store) refl low_words' (ap (pairs_of_word s.store) (sym word_is) ∙ is) next);
    }

    -- or its pair was deleted
    goes : s''.store ≡ buried_at s'.store i → kind_of (root_word s'.store i) ≡ kinds.Live → (p : Stored K V)
        → pair_of s'.store (number_of (root_word s'.store i)) ≡ Some p → Answers g f' p false f'' → IsRetaining g s f (suc i) s'' f''
    goes same live p logged answers =
        let grave : ℕ = buried_word (number_of (root_word s'.store i)) in
        let set : root_words (buried_at s'.store i) ≡ slice_set (root_words s'.store) i grave = words_set eq hash s' lawful keys i low live in
        let here : pairs_of_word s.store (root_word s'.store i) ≡ p ∷ [] = live_pairs s.store (root_word s'.store i) p live
        (sym (retaining.pairs (number_of (root_word s'.store i))) ∙ logged) in
        let long : length (slice_set (root_words s'.store) i grave) ≡ length (root_words s'.store) = set_long (root_words s'.store) i grave in
        let none : pairs_of_word s.store grave ≡ [] = pairs_same grave (grave_bare eq hash s' lawful keys i low live) in
        record {
          last = ap next_of same ∙ next_same eq hash s' lawful keys i low live ∙ retaining.last;
          root = ap (λ (y : StoreState K V S). y.words.root) same ∙ root_same eq hash s' lawful keys i low live ∙ retaining.root;
          long = ap slots_of same ∙ sym (words_many (table_of (buried_at s'.store i).words.tables (buried_at s'.store i).words.root))
              ∙ ap length set ∙ long ∙ words_many (table_of s'.store.words.tables s'.store.words.root) ∙ retaining.long;
          keeps = record {
            hasher = ap (λ (y : StoreState K V S). y.hasher) same ∙ retaining.keeps.hasher;
            mode = mode ∙ retaining.keeps.mode;
            initial = initial ∙ retaining.keeps.initial;
            pairs = λ n q e. ap (λ (y : StoreState K V S). pair_of y n) same ∙ retaining.keeps.pairs n q e;
          };
          pairs = λ n. ap (λ (y : StoreState K V S). pair_of y n) same ∙ retaining.pairs n;
          behind = ap (λ (y : StoreState K V S). drop (suc i) (root_words y)) same ∙ ap (drop (suc i)) set ∙ set_behind (root_words s'.store) i grave
              ∙ drop_more (root_words s'.store) (root_words s.store) i retaining.behind low_words' low_words;
          retained = subst (λ l. Retains g f (pairs_of_slots s.store (take (suc i) (root_words s.store))) (pairs_of_slots s.store (take (suc i) l))
              f'') (sym (ap root_words same ∙ set))
              (retained_more (p ∷ []) [] here (slice_set (root_words s'.store) i grave) (set_before (root_words s'.store) i grave)
              (subst (λ n. i < n) (sym long) low_words') (ap (pairs_of_word s.store) (set_there (root_words s'.store) i grave low_words') ∙ none)
              (false, f'', [], answers, (refl, refl), refl));
        }
      where
        -- a word has the same pairs in the two arenas
        pairs_same : (word : ℕ) → pairs_of_word s'.store word ≡ [] → pairs_of_word s.store word ≡ []
        pairs_same word none = sym (append-nil (pairs_of_word s.store word)) ∙ sym (slots_same s.store s'.store retaining.pairs (word ∷ []))
            ∙ ap (λ l. l ++ []) none

    -- a slot further
    pub scanned_more : IsScanned s'.store i g f' s''.store f'' → IsRetaining g s f (suc i) s'' f''
    scanned_more (inl (unlive, same, alike)) =
        stays same [] (bare_pairs s.store (root_word s'.store i) unlive
        (unmarked eq hash [] s'.mode s'.store keys lawful.lawful s'.store.words.root (last_next s'.store retaining.last) i)) (refl, alike)
    scanned_more (inr (p, live, logged, true, answers, same)) =
        stays same (p ∷ []) (live_pairs s.store (root_word s'.store i) p live (sym (retaining.pairs (number_of (root_word s'.store i))) ∙ logged))
        (true, f'', [], answers, (refl, refl), refl)
    scanned_more (inr (p, live, logged, false, answers, same)) = goes same live p logged answers

  -- all slots were scanned
  pub retaining_ends : (eq : K → K → Bool) (s0 : StoreState K V S) → next_of s.store ≡ 0 → Unchanged eq s0 s.store → (next_of s0 ≡ 0 → s.store ≡ s0)
      → AreApart eq (λ p. p.key) (content eq s.store) → (n : ℕ) → n ≡ slots_of s.store → (s' : MapState K V S) (f' : F) → IsRetaining g s f n s' f'
      → IsRetainedTo g eq f s0 s'.store f'
  retaining_ends eq s0 last unchanged alone apart n all s' f' retaining =
      let words : n ≡ length (root_words s.store) = all ∙ sym (words_many (table_of s.store.words.tables s.store.words.root)) in
      let words' : n ≡ length (root_words s'.store) = all ∙ sym retaining.long ∙ sym (words_many (table_of s'.store.words.tables s'.store.words.root)) in
      let old : pairs_of_slots s.store (take n (root_words s.store)) ≡ content eq s.store = ap (pairs_of_slots s.store)
      (take_all (root_words s.store) n words) ∙ sym (last_content eq s.store last) in
      let new : pairs_of_slots s.store (take n (root_words s'.store)) ≡ content eq s'.store = ap (pairs_of_slots s.store)
      (take_all (root_words s'.store) n words') ∙ sym (slots_same s.store s'.store retaining.pairs (root_words s'.store))
      ∙ sym (last_content eq s'.store retaining.last) in (
        record {
          shown = content eq s.store;
          end = f';
          retains = subst (λ l. Retains g f l (content eq s'.store) f') old
              (subst (λ l. Retains g f (pairs_of_slots s.store (take n (root_words s.store))) l f') new retaining.retained);
          pairs = unchanged;
          once = apart;
          order = λ none. ap (content eq) (alone none);
        },
        refl,
      )

-- the closure was called with the pair that is there, and returned a result
pub shown_answers : {F K V : Type 0} (g : Mut F (Bor K × (Bor V × Unit {0})) Bool) (f f' : F) (p : Stored K V) (o : Option (Stored K V))
    (answer : Answer) → o ≡ Some p → IsShown g o f answer f' → (agrees : Bool) × Answers g f p agrees f' × (answer ≡ Yes agrees)
shown_answers g f f' p None answer is shown = absurd cc
shown_answers {F} {K} {V} g f f' p (Some q) answer is (key, value, agrees, key_is, value_is, says, called) =
    let same : q ≡ p = cc is in (
      agrees,
      record {
        key = key;
        value = value;
        key_is = key_is ∙ ap (λ (r : Stored K V). r.key) same;
        value_is = value_is
            ∙ ap (λ (r : Stored K V). r.value) same;
        called = called;
      },
      says,
    )
