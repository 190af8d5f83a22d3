-- A map of clones: its pairs, its parts, and why it could not be made.
use Rattle.std.proofs.Common.{◌≡◌, ◌⊎◌, inl, inr, ⊎_elim, ℕ, zero, suc, ◌+◌, ◌*◌, ◌<◌, ◌≤◌, ◌^◌}
use Rattle.std.proofs.Common.{Bool, true, false, cond, List, [], ◌∷◌, map, length, MatchOption}
use Rattle.std.proofs.Common.{Option, None, Some, refl, sym, ap, ◌∙◌, subst, arith}
use Rattle.std.proofs.lemmas.List.{length-map}
use Rattle.std.proofs.lemmas.Bool.{cases_lt, cond-true}
use Rattle.std.proofs.lemmas.Nat.{pow_pos}
use Rattle.std.proofs.Math.Nat.{max-eq_right, pow-succ'}
use Rattle.std.proofs.Math.Pow.{pow_mono}
use Rattle.std.specs.Prelude.{max, ◌/◌, is_some}
use Rattle.std.specs.Cmp.{IsEquivalence}
use Rattle.std.specs.Int.{IsNextPowerOfTwo, IsPowerOfTwo}
use Rattle.std.specs.List.{All}
use Rattle.std.proofs.lemmas.List.Elements.{All-nil}
use Rattle.papaya_words.specs.Counter.{Count}
use Rattle.papaya_words.specs.Mode.{IsChunked}
use Rattle.papaya_core_store.specs.declared.store.Mode.{Mode}
use Rattle.papaya_words.specs.Probe.{IsEntriesFor}
use Rattle.papaya_words_keys.specs.Sizes.{IsSizeRefusal, IsTooMuch}
use Rattle.papaya_core_store.specs.New.{HasCapacity}
use Rattle.papaya_core_store.specs.Tables.{Tables}
use Rattle.papaya_seq.specs.Lengths.{IsAskedFor, IsLongEnough, lengths_of}
use Rattle.papaya_seq.proofs.TableLengths.{new_long}
use Rattle.papaya_words.specs.declared.limits.TheConstants.{DEFAULT_CHUNK, MAX_SHARDS}
use Rattle.papaya_words.specs.declared.refused.Refused.{Refused}
use Rattle.papaya_words.specs.declared.refused.Refused.TheVariants.{Memory, Capacity, Limit}
use Rattle.papaya_words.specs.declared.resize_mode.ResizeMode.{ResizeMode}
use Rattle.papaya_words.specs.declared.resize_mode.ResizeMode.TheVariants.{Blocking, Incremental}
use Rattle.papaya_words_law.specs.Content.{AreApart, lookup}
use Rattle.papaya_core_timeline.specs.Content.{content, map_in}
use Rattle.papaya_core_timeline.specs.Core.{unlimited}
use Rattle.papaya_core_timeline.specs.New.{IsNew}
use Rattle.papaya_core_store.specs.Store.{StoreState, Stored, pair_of}
use Rattle.papaya_core_store.proofs.Logs.{pair_below}
use Rattle.papaya_seq.specs.Clones.{AreEqual, HasFreeParts, HasParts, IsCloneRefusal, IsCloned, IsCopied, IsCopyCut, IsRebuildRefusal, IsRebuilt}
use Rattle.papaya_seq.specs.Map.{Keeps, MapState, Unchanged, core_of, entry_of}
use Rattle.papaya_seq.specs.Resizes.{IsReserveCause}
use Rattle.papaya_seq.proofs.Answered.{logged_there}
use Rattle.papaya_seq.proofs.Cloned.{all_copied}
use Rattle.papaya_seq.proofs.Equal.{covered, each_found, found_key}
use Rattle.papaya_seq.proofs.Filled.{new_with_own}
use Rattle.papaya_seq.proofs.Numbering.{numbered_content, numbered_store}

-- a power of two is the next one to itself
pub same_power : (n m : ℕ) → IsPowerOfTwo n → IsNextPowerOfTwo n m → m ≡ n
same_power n m (a, is) ((b, is'), least, below) = ⊎_elim
    (λ (more : a < b).
    let twice : 2 ^ suc a ≤ 2 ^ b = pow_mono (omega (arith, more)) in
    let step : 2 ^ suc a ≡ 2 * 2 ^ a = pow-succ' 2 a in
    let some : 0 < 2 ^ a = pow_pos a in
    let most : max 1 n ≡ n = max-eq_right (omega (arith, some, is)) in
    let half : m / 2 < n = subst (λ k. m / 2 < k) most below in
    absurd (omega (arith, half, twice, step, is, is')))
    (λ (few : b ≤ a).
    let most : 2 ^ b ≤ 2 ^ a = pow_mono few in
    omega (arith, most, least, is, is'))
    (cases_lt a b)

-- a table for three quarters of `n` slots has `n` slots
four_thirds : (n : ℕ) → IsPowerOfTwo n → 8 < n → n / 4 * 3 * 8 / 6 ≡ n
four_thirds n (zero, is) more = absurd (omega (arith, is, more))
four_thirds n (suc zero, is) more = absurd (omega (arith, is, more))
four_thirds n (suc (suc k), is) more =
    let once : 2 ^ suc (suc k) ≡ 2 * 2 ^ suc k = pow-succ' 2 (suc k) in
    let twice : 2 ^ suc k ≡ 2 * 2 ^ k = pow-succ' 2 k in
    let four : n ≡ 4 * 2 ^ k = omega (arith, is, once, twice) in
    omega (arith, four)

pub asks_for : (initial : ℕ) → IsPowerOfTwo initial → 8 < initial → IsAskedFor initial (initial / 4 * 3)
asks_for initial power more = inr (
  omega arith,
  λ entries is.
      same_power initial entries power (subst (λ n. IsNextPowerOfTwo n entries) (four_thirds initial power more) is),
)

-- so the first table of the map that is rebuilt is long enough
pub asked_long : (initial capacity entries : ℕ) (words : Tables) → IsAskedFor initial capacity → IsEntriesFor capacity entries
    → HasCapacity capacity entries words → IsLongEnough initial words
asked_long initial capacity entries words (inl (none, few)) is has =
    let empty : words ≡ record { root = 0; tables = []; made = 0 } = subst (λ n. HasCapacity n entries words) none has in
    record { tables = subst (λ (w : Tables). All (λ len. initial ≤ len) (lengths_of w)) (sym empty) (All-nil (λ len. initial ≤ len)); first = λ _. few }
asked_long initial capacity entries words (inr (low, same)) is has = subst (λ n. IsLongEnough n words) (same entries is)
    (new_long capacity entries words is has)

-- and such a table is allowed
asked_fits : (initial capacity : ℕ) → initial ≤ 2 ^ 32 → IsAskedFor initial capacity → IsTooMuch capacity → ⊥
asked_fits initial capacity most (inl (none, few)) (inl over) = absurd (omega (arith, none, over))
asked_fits initial capacity most (inl (none, few)) (inr (entries, (power, least, below), over)) = let half : entries / 2 < max 1
    (capacity * 8 / 6) = below in absurd (omega (arith, none, half, over))
asked_fits initial capacity most (inr (low, same)) (inl over) = absurd (omega (arith, most, low, over))
asked_fits initial capacity most (inr (low, same)) (inr (entries, is, over)) = let e = same entries is in absurd (omega (arith, most, e, over))

module _ {K V S : Type 0} (eq : K → K → Bool) (law : IsEquivalence eq) where
  -- a map that is unchanged from one without pairs has none
  pub empty_still : (s s' : StoreState K V S) → Unchanged eq s s' → content eq s ≡ [] → content eq s' ≡ []
  empty_still s s' same empty = of_list (content eq s') refl
    where
      of_list : (ps : List (Stored K V)) → content eq s' ≡ ps → ps ≡ []
      of_list [] is = refl
      of_list (p ∷ ps) is =
          let here : map_in eq s' p.key ≡ Some p = ap (λ (qs : List (Stored K V)). lookup eq (λ q. q.key) qs p.key) is
          ∙ cond-true (eq p.key p.key) (Some p) (lookup eq (λ (q : Stored K V). q.key) ps p.key) (law.refl p.key) in
          let gone : map_in eq s p.key ≡ None = ap (λ (qs : List (Stored K V)). lookup eq (λ q. q.key) qs p.key) empty in
          let clash : Some p ≡ None = sym here ∙ same p.key ∙ gone in
          absurd cc

module _ {K V S : Type 0} (eq : K → K → Bool) (law : IsEquivalence eq) (s : StoreState K V S) where
  -- the pairs of these numbers, if there are any
  abbrev with_one : Option (Stored K V) → List (Stored K V) → List (Stored K V)
  with_one None ps = ps
  with_one (Some p) ps = p ∷ ps

  abbrev logged_below : ℕ → List (Stored K V)
  logged_below zero = []
  logged_below (suc n) = with_one (pair_of s n) (logged_below n)

  few_below : (n : ℕ) → length (logged_below n) ≤ n
  few_below zero = omega arith
  few_below (suc n) = one (pair_of s n) (few_below n)
    where
      one : (o : Option (Stored K V)) → length (logged_below n) ≤ n → length (with_one o (logged_below n)) ≤ suc n
      one None few = omega (arith, few)
      one (Some p) few = omega (arith, few)

  found_below : (k : K) (q : Stored K V) (m : ℕ) → pair_of s m ≡ Some q → eq k q.key ≡ true → (n : ℕ) → m < n
      → is_some (lookup eq (λ p. p.key) (logged_below n) k) ≡ true
  found_below k q m is same zero less = absurd (omega (arith, less))
  found_below k q m is same (suc n) less =
      ⊎_elim
      (λ (below : m < n). behind (pair_of s n) (found_below k q m is same n below))
      (λ (past : n ≤ m).
      let here : m ≡ n = omega (arith, less, past) in
      subst (λ (o : Option (Stored K V)). is_some (lookup eq (λ p. p.key) (with_one o (logged_below n)) k) ≡ true) (sym (ap (pair_of s) (sym here) ∙ is))
      (ap is_some (cond-true (eq k q.key) (Some q) (lookup eq (λ (p : Stored K V). p.key) (logged_below n) k) same)))
      (cases_lt m n)
    where
      behind : (o : Option (Stored K V)) → is_some (lookup eq (λ p. p.key) (logged_below n) k) ≡ true
          → is_some (lookup eq (λ p. p.key) (with_one o (logged_below n)) k) ≡ true
      behind None e = e
      behind (Some p) e = go (eq k p.key)
        where
          go : (b : Bool) → is_some (cond b (Some p) (lookup eq (λ (r : Stored K V). r.key) (logged_below n) k)) ≡ true
          go true = refl
          go false = e

  abbrev ClonedAt : (K → K → Type 0) → (V → V → Type 0) → K → Option (Stored K V) → Type 0
  ClonedAt CK CV k o = MatchOption o (map_in eq s k ≡ None) (λ p. (q : Stored K V) × (map_in eq s k ≡ Some q) × (CK p.key q.key × CV p.value q.value))

  -- a map of clones has stored at least one pair for each of them
  logged_least : {Z : Type 0} (CK : K → K → Type 0) (CV : V → V → Type 0) (from : StoreState K V Z) → AreApart eq (λ p. p.key) (content eq from)
      → IsCloned eq CK CV from s → length (content eq from) ≤ length s.pairs
  logged_least CK CV from apart cloned =
      let all = each_found eq law (λ (p : Stored K V). p.key) (λ p. is_some (lookup eq (λ r. r.key) (logged_below (length s.pairs)) p.key) ≡ true)
      (content eq from) apart found in
      let most = covered eq law (λ (p : Stored K V). p.key) (content eq from) (logged_below (length s.pairs)) apart all in
      let few = few_below (length s.pairs) in
      omega (arith, most, few)
    where
      found : (p : Stored K V) → lookup eq (λ r. r.key) (content eq from) p.key ≡ Some p
          → is_some (lookup eq (λ r. r.key) (logged_below (length s.pairs)) p.key) ≡ true
      found p is =
          let own : ClonedAt CK CV p.key (Some p) = subst (ClonedAt CK CV p.key) is (cloned p.key) in
          let there : pair_of s own.0.number ≡ Some own.0 = logged_there eq law s p.key own.0.number own.0 own.1 refl in
          found_below p.key own.0 own.0.number there (found_key eq law (λ (r : Stored K V). r.key) (content eq s) p.key own.0 own.1) (length s.pairs)
          (pair_below s own.0.number own.0 there)

module _ {K V S : Type 0} (eq : K → K → Bool) (law : IsEquivalence eq) (CK : K → K → Type 0) (CV : V → V → Type 0) where
  -- a map without pairs and with an empty arena, after clones were inserted
  pub rebuilt_of : ((k l : K) → CK k l → eq k l ≡ true) → (CS : S → S → Type 0) (s new made : MapState K V S)
      → AreApart eq (λ p. p.key) (content eq s.store) → content eq new.store ≡ [] → new.store.pairs ≡ [] → CS s.store.hasher new.store.hasher
      → IsCopied eq CK CV new (map entry_of (content eq s.store)) made → IsRebuilt eq CK CV CS s made
  rebuilt_of same CS s new made apart empty none clones copied =
      let first : length new.store.pairs ≡ 0 = ap length none in
      let long : length (map entry_of (content eq s.store)) ≡ length (content eq s.store) = length-map (content eq s.store) entry_of in
      let most : length made.store.pairs ≤ length new.store.pairs + length (map entry_of (content eq s.store)) = copied.logged in
      let cloned : IsCloned eq CK CV s.store made.store = all_copied eq law CK CV same s.store new made apart empty copied in
      let least : length (content eq s.store) ≤ length made.store.pairs = logged_least eq law made.store CK CV s.store apart cloned in
      record {
        cloned = cloned;
        logged = omega (arith, first, long, most, least);
        hasher = subst (CS s.store.hasher) (sym copied.fills.keeps.hasher) clones;
      }

  -- a new map that was made for `n` pairs
  pub clone_parts : (n : ℕ) (hasher : S) (new made : MapState K V S) (es : List (K × V))
      → IsNew {A = Unit {0}} (Incremental DEFAULT_CHUNK) n 1 hasher (core_of new) → IsCopied eq CK CV new es made → (len : ℕ) → n ≡ len
      → (made.mode ≡ unlimited (Incremental DEFAULT_CHUNK)) × IsEntriesFor len made.initial × (made.store.count.shards ≡ 1)
  clone_parts n hasher new made es is_new copied len is = (
    copied.fills.keeps.mode ∙ is_new.mode_is,
    subst (λ k. IsEntriesFor k made.initial) is (subst (IsEntriesFor n) (sym copied.fills.keeps.initial) is_new.store_is.initial),
    copied.shards ∙ same_power 1 new.store.count.shards (0, refl) is_new.store_is.count,
  )

  -- parts stay if clones are inserted
  pub parts_on : (s new made : MapState K V S) (es : List (K × V)) → HasFreeParts s new → IsCopied eq CK CV new es made → HasFreeParts s made
  parts_on s new made es parts copied = record {
    mode = copied.fills.keeps.mode ∙ parts.mode;
    initial = copied.fills.keeps.initial ∙ parts.initial;
    shards = copied.shards ∙ parts.shards;
  }

  -- a clone that was refused
  pub clone_cut : (s : StoreState K V S) (n : ℕ) (hasher : S) (new left : MapState K V S) → n ≡ length (content eq s)
      → IsNew {A = Unit {0}} (Incremental DEFAULT_CHUNK) n 1 hasher (core_of new) → (e : Refused) → (e ≡ Memory) ⊎ IsCopyCut eq CK CV s new e left
      → IsCloneRefusal eq CK CV s e
  clone_cut s n hasher new left is is_new e (inl memory) = inl memory
  clone_cut s n hasher new left is is_new e (inr cut) = inr (inr (record {
    new = new;
    left = left;
    is_new = subst (λ k. IsNew {A = Unit {0}} (Incremental DEFAULT_CHUNK) k 1 new.store.hasher (core_of new)) is
        (new_with_own (Incremental DEFAULT_CHUNK) n 1 hasher new is_new);
    cut = cut;
  }))

  -- a new map that gets the initial capacity of this one
  pub fresh_parts : (s fresh : MapState K V S) (mode : ResizeMode) (capacity shards : ℕ) (hasher : S) → mode ≡ s.mode.resize
      → shards ≡ s.store.count.shards → IsPowerOfTwo shards → IsNew {A = Unit {0}} mode capacity shards hasher (core_of fresh) → (initial : ℕ)
      → initial ≡ s.initial → HasFreeParts s (record fresh { initial = initial })
  fresh_parts s fresh mode capacity shards hasher mode_is shards_is power new initial initial_is = record {
    mode = new.mode_is ∙ ap unlimited mode_is;
    initial = initial_is;
    shards = same_power shards fresh.store.count.shards power new.store_is.count ∙ shards_is;
  }

  -- room changes none of its parts
  pub roomy_parts : (s fresh roomy : MapState K V S) → HasFreeParts s fresh → Keeps fresh roomy
      → roomy.store ≡ record fresh.store { words = roomy.store.words } → HasFreeParts s roomy
  roomy_parts s fresh roomy parts keeps words = record {
    mode = keeps.mode ∙ parts.mode;
    initial = keeps.initial ∙ parts.initial;
    shards = ap (λ (y : StoreState K V S). y.count.shards) words ∙ parts.shards;
  }

  -- the limit is the last of them
  pub limited_parts : (s free made : MapState K V S) → HasFreeParts s free → made.mode ≡ record free.mode { limit = s.mode.limit }
      → made.initial ≡ free.initial → made.store.count ≡ free.store.count → HasParts s made
  limited_parts s free made parts mode initial count = record {
    mode = mode ∙ ap (λ (m : Mode). record m { limit = s.mode.limit }) parts.mode;
    initial = initial ∙ parts.initial;
    shards = ap (λ (n : Count). n.shards) count ∙ parts.shards;
  }

  -- the same if the numbers are set
  pub limited_rebuilt : (CS : S → S → Type 0) (s free : MapState K V S) (made : MapState K V S) (n : ℕ) → made.store ≡ numbered_store free.store n
      → IsRebuilt eq CK CV CS s free → IsRebuilt eq CK CV CS s made
  limited_rebuilt CS s free made n is rebuilt = record {
    cloned = λ k.
        subst (λ (o : Option (Stored K V)). MatchOption (map_in eq s.store k) (o ≡ None)
        (λ p. (q : Stored K V) × (o ≡ Some q) × (CK p.key q.key × CV p.value q.value)))
        (sym (ap (λ (y : StoreState K V S). map_in eq y k) is
        ∙ ap (λ (ps : List (Stored K V)). lookup eq (λ q. q.key) ps k) (numbered_content free.store n eq))) (rebuilt.cloned k);
    logged = ap (λ (y : StoreState K V S). length y.pairs) is ∙ rebuilt.logged;
    hasher = subst (CS s.store.hasher) (sym (ap (λ (y : StoreState K V S). y.hasher) is)) rebuilt.hasher;
  }

  -- without a limit, a limit is no cause
  pub cut_below : (from : StoreState K V S) (to left : MapState K V S) → to.mode.limit ≡ None → (e : Refused) → (e ≡ Memory)
      ⊎ IsCopyCut eq CK CV from to e left → e ≡ Limit → ⊥
  cut_below from to left free e (inl memory) is = let f : Memory ≡ Limit = sym memory ∙ is in cc f
  cut_below from to left free e (inr cut) is = elim cut.cut.cause [
    | inl memory ↦ let f : Memory ≡ Limit = sym memory ∙ is in cc f
    | inr (inl (capacity, why)) ↦ let f : Capacity ≡ Limit = sym capacity ∙ is in cc f
    | inr (inr (limit, spent)) ↦ let f : None ≡ Some cut.cut.at.store.words.made = sym free
        ∙ ap (λ (m : Mode). m.limit) (sym cut.cut.fills.keeps.mode) ∙ spent in cc f
  ]

  -- a map has no more pairs than it has stored
  pub pairs_logged : (s : StoreState K V S) → AreApart eq (λ p. p.key) (content eq s) → length (content eq s) ≤ length s.pairs
  pairs_logged s apart = logged_least eq law s (λ k l. Unit {0}) (λ v w. Unit {0}) s apart (λ k. own (map_in eq s k))
    where
      own : (o : Option (Stored K V)) → MatchOption o (o ≡ None) (λ p. (q : Stored K V) × (o ≡ Some q) × (Unit {0} × Unit {0}))
      own None = refl
      own (Some p) = (p, refl, (tt, tt))

  -- a new map that was refused
  pub fresh_refused : (s : MapState K V S) (mode : ResizeMode) (capacity shards : ℕ) (initial : ℕ) → IsChunked mode → initial ≤ 2 ^ 32
      → IsAskedFor initial capacity → shards ≡ s.store.count.shards → (e : Refused) → IsSizeRefusal mode capacity shards e → IsRebuildRefusal eq CK CV s e
  fresh_refused s (Incremental chunk) capacity shards initial chunked most asked shards_is e (inl (zero_chunk, is)) = let some : 1 ≤ chunk = chunked
      in let none : chunk ≡ 0 = cc is in absurd (omega (arith, some, none))
  fresh_refused s Blocking capacity shards initial chunked most asked shards_is e (inl (zero_chunk, is)) = absurd cc
  fresh_refused s mode capacity shards initial chunked most asked shards_is e (inr (inl (is, also, inl much))) = absurd
      (asked_fits initial capacity most asked much)
  fresh_refused s mode capacity shards initial chunked most asked shards_is e (inr (inl (is, also, inr many))) = inr
      (inl (is, subst (λ n. MAX_SHARDS < n) shards_is many))
  fresh_refused s mode capacity shards initial chunked most asked shards_is e (inr (inr (memory, allowed))) = inl memory

  -- room for its pairs that was refused
  pub room_refused : (s fresh left : MapState K V S) → HasFreeParts s fresh → content eq fresh.store ≡ [] → (n : ℕ) → n ≡ length (content eq s.store)
      → (e : Refused) → IsReserveCause eq fresh n e left → IsRebuildRefusal eq CK CV s e
  room_refused s fresh left parts empty n is e cause = inr (inr (record {
    fresh = fresh;
    empty = empty;
    parts = parts;
    left = left;
    cause = inl (subst (λ k. IsReserveCause eq fresh k e left) is cause);
  }))

  -- a clone that was refused there
  pub rebuild_cut : (s fresh roomy left : MapState K V S) → HasFreeParts s fresh → content eq fresh.store ≡ [] → HasFreeParts s roomy
      → content eq roomy.store ≡ [] → (e : Refused) → (e ≡ Memory) ⊎ IsCopyCut eq CK CV s.store roomy e left → IsRebuildRefusal eq CK CV s e
  rebuild_cut s fresh roomy left parts empty parts' empty' e (inl memory) = inl memory
  rebuild_cut s fresh roomy left parts empty parts' empty' e (inr cut) = inr (inr (record {
    fresh = fresh;
    empty = empty;
    parts = parts;
    left = left;
    cause = inr (roomy, empty', parts', cut);
  }))

-- clones are equal if clones of values are
pub clones_equal : {K V S : Type 0} (eq : K → K → Bool) (CK : K → K → Type 0) (CV : V → V → Type 0) (same : V → V → Bool)
    → ((v w : V) → CV v w → same v w ≡ true) → (s s' : StoreState K V S) → IsCloned eq CK CV s s' → AreEqual eq same s s'
clones_equal {K} {V} {S} eq CK CV same equal s s' cloned k = of_option (map_in eq s k) (cloned k)
  where
    of_option : (o : Option (Stored K V)) → MatchOption o (map_in eq s' k ≡ None)
        (λ p. (q : Stored K V) × (map_in eq s' k ≡ Some q) × (CK p.key q.key × CV p.value q.value))
        → MatchOption o (map_in eq s' k ≡ None) (λ p. (q : Stored K V) × (map_in eq s' k ≡ Some q) × (same p.value q.value ≡ true))
    of_option None none = none
    of_option (Some p) (q, there, clones) = (q, there, equal p.value q.value clones.1)
