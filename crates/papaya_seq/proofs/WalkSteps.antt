-- The steps of an iteration.
use Rattle.std.proofs.Common.{◌≡◌, ◌⊎◌, inl, inr, ℕ, zero, suc, ◌+◌, ◌<◌, ◌≤◌, ◌||◌, Bool, true}
use Rattle.std.proofs.Common.{false, [], ◌∷◌, ◌++◌, length, slice_index, Option}
use Rattle.std.proofs.Common.{Some, None, is_some, refl, sym, ◌∙◌, ap, subst, arith}
use Rattle.std.proofs.lemmas.Bool.{cases_lt}
use denote.Bor.{Bor}
use Rattle.std.specs.Int.{IsPowerOfTwo}
use Rattle.papaya_words.specs.Probe.{place}
use Rattle.papaya_words.specs.Table.{TableWords}
use Rattle.papaya_words.specs.Word.{kind_of, pair_of as number_of}
use Rattle.papaya_words.specs.declared.probe.Probe.{Probe}
use Rattle.papaya_words.specs.declared.resize_mode.ResizeMode.{ResizeMode}
use Rattle.papaya_words.specs.declared.resize_mode.ResizeMode.TheVariants.{Incremental, Blocking}
use Rattle.papaya_words.specs.declared.word.Kind.{Kind}
use Rattle.papaya_words.specs.declared.word.Kind.TheVariants as kinds
use Rattle.papaya_call.specs.Search.{IsSize}
use Rattle.papaya_call.specs.declared.ask.Answer.TheVariants.{Size}
use Rattle.papaya_call.specs.declared.ask.At.TheVariants.{Next, Slot}
use Rattle.papaya_words_law.specs.Class.{IsOn}
use Rattle.papaya_words_law.specs.Content.{lookup}
use Rattle.papaya_words_law.proofs.Lists.{Holds}
use Rattle.papaya_core_timeline.specs.Content.{listed, pairs_of_kind}
use Rattle.papaya_core_timeline.specs.Kept.{IsLawfulCore, is_blocking, low}
use Rattle.papaya_core_store.specs.Performs.{size_of}
use Rattle.papaya_core_store.specs.Store.{StoreState, Stored, pair_of}
use Rattle.papaya_core_store.specs.Tables.{Tables, table_of, word_at, word_in}
use Rattle.papaya_core_store.proofs.Logs.{pair_number}
use Rattle.papaya_core_timeline.proofs.KeptSettings.{IsLawfulKeys}
use Rattle.papaya_core_timeline.proofs.KeptTables.{table_low}
use Rattle.papaya_seq.specs.Map.{MapState, slots_in}
use Rattle.papaya_seq.specs.Walks.{HasMark, HasNoMark, HasNoMarkIn, IsHeld, IsInRoot, IsNext, IsNextHere}
use Rattle.papaya_seq.specs.Walks.{IsPosition, IsStepped, IsWord, has_in, left_from, left_to, pairs_at}
use Rattle.papaya_seq.specs.Walks.{table_after}
use Rattle.papaya_seq.specs.declared.walks.Position.{Position}
use Rattle.papaya_seq.proofs.WalkLaw.{after_far, after_low, after_on, blocking_end, none_unmarked, now, pair_logged, some_marked}
use Rattle.papaya_seq.proofs.WalkLists.{given, left_bare, left_none, left_pair, left_past, pairs_of_word}
use Rattle.papaya_seq.proofs.Lawful.{core_next_rises, core_next_there}

module _ {K V S : Type 0} (store : StoreState K V S) where
  -- no place of this hash before the probe says that the pair is being copied
  pub record IsSearched (hash t n len : ℕ) (probe : Probe) : Type 0 where
    pub place_is : probe.i ≡ place hash len probe.len
    pub within : probe.i < len
    pub none : (j : ℕ) → j < probe.len → kind_of (word_at store.words (Slot t (place hash len j))) ≡ kinds.Marked
        → number_of (word_at store.words (Slot t (place hash len j))) ≡ n → ⊥

  -- the size of a table is that of one that is there
  pub sized_table : (o : Option TableWords) (len limit : ℕ) → ((table : TableWords) → o ≡ Some table → IsSize (length table.slots) table.limit)
      → Size len limit ≡ size_of o → (table : TableWords) × (o ≡ Some table) × (length table.slots ≡ len) × (table.limit ≡ limit) × IsSize len limit
  sized_table None len limit sized e = absurd cc
  sized_table (Some table) len limit sized e =
      let long : length table.slots ≡ len = cc e in
      let far : table.limit ≡ limit = cc e in
      (table, refl, long, far, subst (IsSize len) far (subst (λ n. IsSize n table.limit) long (sized table refl)))

  module _ (hash t n len : ℕ) (probe : Probe) (searched : IsSearched hash t n len probe) where
    -- a place further
    pub searched_more : (mask : ℕ) → mask + 1 ≡ len → IsPowerOfTwo len → (new : Probe)
        → ((h : ℕ) → IsPowerOfTwo (mask + 1) → probe.i ≡ place h (mask + 1) probe.len → new.i ≡ place h (mask + 1) new.len) → new.i ≤ mask
        → new.len ≡ probe.len + 1
        → (kind_of (word_at store.words (Slot t probe.i)) ≡ kinds.Marked → number_of (word_at store.words (Slot t probe.i)) ≡ n → ⊥)
        → IsSearched hash t n len new
    searched_more mask e power new path bound more other = record {
      place_is = subst (λ m. new.i ≡ place hash m new.len) e
          (path hash (subst IsPowerOfTwo (sym e) power) (subst (λ m. probe.i ≡ place hash m probe.len) (sym e) searched.place_is));
      within = omega (arith, bound, e);
      none = λ j less marked names. elim (cases_lt j probe.len) [
        | inl before ↦ searched.none j before marked names
        | inr later ↦
            let same : j ≡ probe.len = omega (arith, less, more, later) in
            let there : place hash len j ≡ probe.i = ap (place hash len) same ∙ sym searched.place_is in
            other (subst (λ i. kind_of (word_at store.words (Slot t i)) ≡ kinds.Marked) there marked)
            (subst (λ i. number_of (word_at store.words (Slot t i)) ≡ n) there names)
      ];
    }

    -- the search is over
    pub searched_over : (table : TableWords) → table_of store.words.tables t ≡ Some table → length table.slots ≡ len → (table.limit < probe.len)
        ⊎ (kind_of (word_at store.words (Slot t probe.i)) ≡ kinds.Empty) → HasNoMark store hash t n
    searched_over table there long ends = subst (HasNoMarkIn store hash t n) (sym there) (record {
      stop = probe.len;
      none = λ j less. subst (λ m. kind_of (word_at store.words (Slot t (place hash m j))) ≡ kinds.Marked
          → number_of (word_at store.words (Slot t (place hash m j))) ≡ n → ⊥) (sym long) (searched.none j less);
      ends = elim ends [
        | inl over ↦ inl over
        | inr empty ↦ inr (subst (λ m. kind_of (word_at store.words (Slot t (place hash m probe.len))) ≡ kinds.Empty) (sym long)
            (subst (λ i. kind_of (word_at store.words (Slot t i)) ≡ kinds.Empty) searched.place_is empty))
      ];
    })

  -- the search passes tables that have no pair of the key
  pub record IsPassing (eq : K → K → Bool) (n : ℕ) (at : Position) (t passed : ℕ) : Type 0 where
    pub links : ℕ
    pub all : links + passed ≡ at.passed
    pub here : table_after store links store.words.root ≡ t
    pub ahead : table_after store passed t ≡ at.table
    pub same : (p : Stored K V) → pair_of store n ≡ Some p → has_in eq store at.passed store.words.root p.key ≡ has_in eq store passed t p.key

  -- a link further
  after_more : (n t : ℕ) → table_after store (suc n) t ≡ word_at store.words (Next (table_after store n t))
  after_more zero t = refl
  after_more (suc n) t = after_more n (word_at store.words (Next t))

module _ {K V S : Type 0} (eq : K → K → Bool) (hash : K → ℕ) (s : MapState K V S) (lawful : IsLawfulCore {A = Unit {0}} eq hash s.store [] s.mode)
    (keys : IsLawfulKeys eq hash) where
  -- a table with slots is there
  slots_there : (t : ℕ) (o : Option TableWords) → table_of s.store.words.tables t ≡ o → 0 < slots_in o → (table : TableWords)
      × (table_of s.store.words.tables t ≡ Some table)
  slots_there t None there some = absurd (omega (arith, some))
  slots_there t (Some table) there some = (table, there)

  module _ (at : Position) (stand : IsPosition s at) where
    -- if a table was passed, the mode is not blocking
    going : 0 < at.passed → is_blocking s.mode.resize ≡ false
    going some = of_mode s.mode.resize refl
      where
        of_mode : (mode : ResizeMode) → s.mode.resize ≡ mode → is_blocking s.mode.resize ≡ false
        of_mode (Incremental chunk) e = ap is_blocking e
        of_mode Blocking e = let none = stand.alone e in absurd (omega (arith, some, none))

    -- the table at which the iteration is, by the links from the root
    stand_there : (table : TableWords) → table_of s.store.words.tables at.table ≡ Some table
        → table_of s.store.words.tables (table_after s.store at.passed s.store.words.root) ≡ Some table
    stand_there table there = ap (table_of s.store.words.tables) stand.on ∙ there

    -- it is one of those that there are
    stand_low : (table : TableWords) → table_of s.store.words.tables at.table ≡ Some table → (at.passed < at.table) × (at.passed < length s.store.words.tables)
    stand_low table there = let low = after_low eq hash [] s.mode s.store lawful keys at.passed table (stand_there table there) in
        (subst (λ t. at.passed < t) stand.on low.0, low.1)

    module _ (n : ℕ) (word : IsWord s.store at n) where
      -- the table has the word's slot
      word_table : (table : TableWords) × (table_of s.store.words.tables at.table ≡ Some table)
      word_table = let within = word.within in slots_there at.table (table_of s.store.words.tables at.table) refl (omega (arith, within))

      -- the search for a copy begins at the root
      pub passing_begins : IsPassing s.store eq n at s.store.words.root at.passed
      passing_begins = record { links = 0; all = omega arith; here = refl; ahead = stand.on; same = λ p logged. refl }

      module _ (h t passed : ℕ) (passing : IsPassing s.store eq n at t (suc passed)) where
        -- the table is on the chain, before that of the word
        behind : (0 < t) × (t < at.table)
        behind =
            let low = stand_low word_table.0 word_table.1 in
            let first = low.0 in
            let ahead : table_after s.store (suc passed) t ≡ at.table = passing.ahead in
            let far = after_far eq hash [] s.mode s.store lawful keys (suc passed) t (omega (arith, first, ahead)) in
            let more = far.1 in
            (far.0, omega (arith, more, ahead))

        -- it has no pair of the key if no word there says that the pair is being copied
        none_there : (p : Stored K V) → pair_of s.store n ≡ Some p → h ≡ low hash p.key → HasNoMark s.store h t n
            → lookup eq (λ q. q.key) (pairs_at s.store t) p.key ≡ None
        none_there p logged h_is none =
            let (q, holds, is) = pair_logged eq hash [] s.mode s.store lawful keys at.table at.slot n word.kind word.names in
            let same : q ≡ p = let both : Some q ≡ Some p = sym is ∙ logged in cc in
            let on = subst (IsOn (now eq hash [] s.mode s.store lawful keys).first (now eq hash [] s.mode s.store lawful keys).next) passing.here
            (after_on eq hash [] s.mode s.store lawful keys passing.links (subst (λ y. 0 < y) (sym passing.here) behind.0)) in
            let some : 0 < at.passed = let all = passing.all in omega (arith, all) in
            none_unmarked eq hash [] s.mode s.store lawful keys (going some) t at.table at.slot h p h_is on behind.1
            (subst (Holds ((now eq hash [] s.mode s.store lawful keys).slot at.table at.slot)) same holds)
            (subst (HasNoMark s.store h t) (sym (pair_number s.store n p logged)) none)

        -- then the search passes it
        pub passing_more : ((p : Stored K V) → pair_of s.store n ≡ Some p → h ≡ low hash p.key) → HasNoMark s.store h t n
            → IsPassing s.store eq n at (word_at s.store.words (Next t)) passed
        passing_more hashes none = record {
          links = suc passing.links;
          all = let all = passing.all in omega (arith, all);
          here = after_more s.store passing.links s.store.words.root ∙ ap (λ u. word_at s.store.words (Next u)) passing.here;
          ahead = passing.ahead;
          same = λ p logged. passing.same p logged
              ∙ ap (λ (o : Option (Stored K V)). is_some o || has_in eq s.store passed (word_at s.store.words (Next t)) p.key)
              (none_there p logged (hashes p logged) none);
        }

        -- or it has the pair
        pub passing_marked : HasMark s.store t n → (p : Stored K V) → pair_of s.store n ≡ Some p → true ≡ has_in eq s.store at.passed s.store.words.root p.key
        passing_marked mark p logged =
            let number : p.number ≡ n = pair_number s.store n p logged in
            sym (passing.same p logged
            ∙ ap (λ b. b || has_in eq s.store passed (word_at s.store.words (Next t)) p.key)
            (some_marked eq hash [] s.mode s.store lawful keys t p (ap (pair_of s.store) number ∙ logged) (subst (HasMark s.store t) (sym number) mark)))

      -- the list of the pair that the word names
      word_pairs : (p : Stored K V) → pair_of s.store n ≡ Some p → (table : TableWords) → table_of s.store.words.tables at.table ≡ Some table
          → pairs_of_word s.store (slice_index table.slots at.slot) ≡ p ∷ []
      word_pairs p logged table there =
          let is : word_at s.store.words (Slot at.table at.slot) ≡ slice_index table.slots at.slot = ap (word_in (λ v. slice_index v.slots at.slot)) there in
          let pair : listed (pair_of s.store (number_of (slice_index table.slots at.slot))) ≡ p ∷ [] = ap (λ m. listed (pair_of s.store m))
          (ap number_of (sym is) ∙ word.names) ∙ ap listed logged in
          elim word.kind [
            | inl live ↦ ap (λ kd. pairs_of_kind s.store kd (number_of (slice_index table.slots at.slot))) (ap kind_of (sym is) ∙ live) ∙ pair
            | inr marked ↦ ap (λ kd. pairs_of_kind s.store kd (number_of (slice_index table.slots at.slot))) (ap kind_of (sym is) ∙ marked) ∙ pair
          ]

      -- it is the first that is left, unless a table that was passed has a pair of its key
      word_left : (p : Stored K V) → pair_of s.store n ≡ Some p → (before : Bool) → has_in eq s.store at.passed s.store.words.root p.key ≡ before
          → left_to eq s.store at ≡ given before p ++ left_to eq s.store (record at { slot = at.slot + 1 })
      word_left p logged before is =
          let (table, there) = word_table in
          let within : at.slot < length table.slots = subst (λ o. at.slot < slots_in o) there word.within in
          let next : suc at.slot ≡ at.slot + 1 = omega arith in
          left_pair eq s.store at.slot at.passed (length s.store.words.tables) s.store.words.root table p (stand_there table there) within
          (stand_low table there).1 (word_pairs p logged table there)
          ∙ ap (λ b. given b p ++ left_from eq s.store at.passed (suc at.slot) (length s.store.words.tables) s.store.words.root) is
          ∙ ap (λ i. given before p ++ left_from eq s.store at.passed i (length s.store.words.tables) s.store.words.root) next

      -- so it is returned
      pub word_given : ((p : Stored K V) → pair_of s.store n ≡ Some p → has_in eq s.store at.passed s.store.words.root p.key ≡ false)
          → IsStepped eq s.store at (Some n)
      word_given new =
          let (p, holds, logged) = pair_logged eq hash [] s.mode s.store lawful keys at.table at.slot n word.kind word.names in
          (p, logged, word_left p logged false (new p logged))

      -- or not
      pub word_before : ((p : Stored K V) → pair_of s.store n ≡ Some p → has_in eq s.store at.passed s.store.words.root p.key ≡ true)
          → IsStepped eq s.store at None
      word_before old =
          let (p, holds, logged) = pair_logged eq hash [] s.mode s.store lawful keys at.table at.slot n word.kind word.names in
          word_left p logged true (old p logged)

    -- a word of another kind has no pair
    kind_bare : (kind : Kind) (n : ℕ) → (kind ≡ kinds.Live → ⊥) → (kind ≡ kinds.Marked → ⊥) → pairs_of_kind s.store kind n ≡ []
    kind_bare kinds.Live n live marked = absurd (live refl)
    kind_bare kinds.Marked n live marked = absurd (marked refl)
    kind_bare kinds.Empty n live marked = refl
    kind_bare kinds.Copied n live marked = refl
    kind_bare kinds.Buried n live marked = refl
    kind_bare kinds.Closed n live marked = refl

    pub word_bare : at.slot < slots_in (table_of s.store.words.tables at.table)
        → (kind_of (word_at s.store.words (Slot at.table at.slot)) ≡ kinds.Live → ⊥)
        → (kind_of (word_at s.store.words (Slot at.table at.slot)) ≡ kinds.Marked → ⊥) → IsStepped eq s.store at None
    word_bare within live marked =
        let (table, there) = slots_there at.table (table_of s.store.words.tables at.table) refl (omega (arith, within)) in
        let is : word_at s.store.words (Slot at.table at.slot) ≡ slice_index table.slots at.slot = ap (word_in (λ v. slice_index v.slots at.slot)) there in
        let next : suc at.slot ≡ at.slot + 1 = omega arith in
        left_bare eq s.store at.slot at.passed (length s.store.words.tables) s.store.words.root table (stand_there table there)
        (subst (λ o. at.slot < slots_in o) there within)
        (kind_bare (kind_of (slice_index table.slots at.slot)) (number_of (slice_index table.slots at.slot)) (λ e. live (ap kind_of is ∙ e))
        (λ e. marked (ap kind_of is ∙ e)))
        ∙ ap (λ i. left_from eq s.store at.passed i (length s.store.words.tables) s.store.words.root) next

    module _ (past : slots_in (table_of s.store.words.tables at.table) ≤ at.slot) where
      -- behind its last slot the iteration comes to the next table
      pub past_table : left_to eq s.store at ≡ left_from eq s.store (suc at.passed) zero (length s.store.words.tables) s.store.words.root
      past_table = of_table (table_of s.store.words.tables at.table) refl
        where
          of_table : (o : Option TableWords) → table_of s.store.words.tables at.table ≡ o
              → left_to eq s.store at ≡ left_from eq s.store (suc at.passed) zero (length s.store.words.tables) s.store.words.root
          of_table None none =
              let here : table_of s.store.words.tables (table_after s.store at.passed s.store.words.root) ≡ None = ap (table_of s.store.words.tables)
              stand.on ∙ none in
              let next : table_of s.store.words.tables (table_after s.store (suc at.passed) s.store.words.root) ≡ None = ap
              (table_of s.store.words.tables) (after_more s.store at.passed s.store.words.root)
              ∙ ap (λ o. table_of s.store.words.tables (word_in (λ v. v.next) o)) here in
              left_none eq s.store at.slot at.passed (length s.store.words.tables) s.store.words.root here
              ∙ sym (left_none eq s.store zero (suc at.passed) (length s.store.words.tables) s.store.words.root next)
          of_table (Some table) there = left_past eq s.store at.slot at.passed (length s.store.words.tables) s.store.words.root table
              (stand_there table there) (subst (λ o. slots_in o ≤ at.slot) there past) (stand_low table there).1

      -- the table after one more link from the root
      next_after : table_after s.store (suc at.passed) s.store.words.root ≡ word_at s.store.words (Next at.table)
      next_after = after_more s.store at.passed s.store.words.root ∙ ap (λ t. word_at s.store.words (Next t)) stand.on

      -- if there is none, the iteration is over
      pub over_last : word_at s.store.words (Next at.table) ≡ 0 → left_to eq s.store at ≡ []
      over_last last = past_table ∙ left_none eq s.store zero (suc at.passed) (length s.store.words.tables) s.store.words.root
          (ap (table_of s.store.words.tables) (next_after ∙ last))

      -- the same behind the root with blocking
      pub over_blocking : s.mode.resize ≡ Blocking → left_to eq s.store at ≡ []
      over_blocking blocks =
          let none : at.passed ≡ 0 = stand.alone blocks in
          let root : s.store.words.root ≡ at.table = ap (λ n. table_after s.store n s.store.words.root) (sym none) ∙ stand.on in
          ap (λ n. left_from eq s.store n at.slot (length s.store.words.tables) s.store.words.root) none
          ∙ blocking_end eq hash [] s.mode s.store lawful keys blocks at.slot
          (subst (λ t. slots_in (table_of s.store.words.tables t) ≤ at.slot) (sym root) past)

      module _ (some : word_at s.store.words (Next at.table) ≡ 0 → ⊥) (going_on : s.mode.resize ≡ Blocking → ⊥) where
        -- the position before the next table's first slot
        abbrev pub next_stand : Position
        next_stand = record { table = word_at s.store.words (Next at.table); slot = 0; passed = at.passed + 1 }

        next_more : at.passed + 1 ≡ suc at.passed
        next_more = omega arith

        pub next_stands : IsPosition s next_stand
        next_stands = record { on = ap (λ n. table_after s.store n s.store.words.root) next_more ∙ next_after; alone = λ blocks. absurd (going_on blocks) }

        pub next_left : left_to eq s.store at ≡ left_to eq s.store next_stand
        next_left = past_table ∙ ap (λ n. left_from eq s.store n zero (length s.store.words.tables) s.store.words.root) (sym next_more)

        -- its number is greater, and that of a table which is there
        pub next_rises : (at.table < word_at s.store.words (Next at.table)) × (word_at s.store.words (Next at.table) ≤ length s.store.words.tables)
            × (at.passed < at.table)
        next_rises =
            let (table, there) = core_next_there eq hash [] s.mode s.store lawful at.table some in
            let (before, is) = of_next (table_of s.store.words.tables at.table) refl in (
              core_next_rises eq hash [] s.mode s.store lawful keys at.table some,
              table_low s.store.words.tables
                  (word_at s.store.words (Next at.table)) table there,
              (stand_low before is).0,
            )
          where
            of_next : (o : Option TableWords) → table_of s.store.words.tables at.table ≡ o → (table : TableWords)
                × (table_of s.store.words.tables at.table ≡ Some table)
            of_next None none = absurd (some (ap (word_in (λ v. v.next)) none))
            of_next (Some table) there = (table, there)

module _ {K V S : Type 0} (eq : K → K → Bool) (store : StoreState K V S) where
  -- a step that returned a pair, after some that returned none
  pub stepped_here : (first at : Position) (o : Option ℕ) → left_to eq store first ≡ left_to eq store at → IsStepped eq store at o → is_some o ≡ true
      → IsNextHere eq store first o (record at { slot = at.slot + 1 })
  stepped_here first at None same step some = absurd cc
  stepped_here first at (Some n) same (p, logged, left) some = (p, logged, same ∙ left)

  -- a pair of a table, after tables that had none to return
  pub here_next : (first at at' : Position) (o : Option ℕ) → left_to eq store first ≡ left_to eq store at → IsNextHere eq store at o at'
      → is_some o ≡ true → IsNext eq store first o at'
  here_next first at at' None same step some = absurd cc
  here_next first at at' (Some n) same (p, logged, left) some = (p, logged, same ∙ left)

  -- a table that had none to return
  pub here_none : (at at' : Position) (o : Option ℕ) → IsNextHere eq store at o at' → is_some o ≡ false → (left_to eq store at ≡ left_to eq store at')
      × (slots_in (table_of store.words.tables at'.table) ≤ at'.slot)
  here_none at at' None step none = step
  here_none at at' (Some n) step none = absurd cc

  -- the next pair, if the steps before it returned none
  pub next_later : (first at at' : Position) (o : Option ℕ) → left_to eq store first ≡ left_to eq store at → IsNext eq store at o at' → IsNext eq store first o at'
  next_later first at at' None same next = (same ∙ next.0, next.1)
  next_later first at at' (Some n) same (p, logged, left) = (p, logged, same ∙ left)

  -- the pairs that are left at a position for which no table was passed
  pub left_of_root : (at : Position) → at.passed ≡ 0 → left_to eq store at ≡ left_to eq store (record at { passed = 0 })
  left_of_root at none = ap (λ n. left_from eq store n at.slot (length store.words.tables) store.words.root) none

-- an iteration that holds a table is at that table, and has passed none
pub held_some : {K V S : Type 0} (store : StoreState K V S) (at : Position) (o : Option (Bor TableWords)) (root : Bor TableWords) (slots : ℕ) → o ≡ Some root
    → 0 < slots → IsHeld store at o slots → (table_of store.words.tables at.table ≡ Some root.now) × (at.passed ≡ 0) × (slots ≡ length root.now.slots)
held_some store at o root slots is some (inl none) = absurd (omega (arith, none, some))
held_some store at o root slots is some (inr held) = subst (λ x. IsInRoot store at x slots) is held

-- the next pair of a map is one of its arena
pub next_logged : {K V S : Type 0} (eq : K → K → Bool) (store : StoreState K V S) (at at' : Position) (o : Option ℕ) (n : ℕ) → o ≡ Some n
    → IsNext eq store at o at' → (p : Stored K V) × (pair_of store n ≡ Some p) × (left_to eq store at ≡ p ∷ left_to eq store at')
next_logged eq store at at' o n is next = subst (λ v. IsNext eq store at v at') is next

-- a position in the same table
pub stand_same : {K V S : Type 0} (s : MapState K V S) (at at' : Position) → at'.table ≡ at.table → at'.passed ≡ at.passed → IsPosition s at → IsPosition s at'
stand_same s at at' table passed stand = record {
  on = ap (λ n. table_after s.store n s.store.words.root) passed ∙ stand.on ∙ sym table;
  alone = λ blocks. passed ∙ stand.alone blocks;
}

-- a slot of a table that is held is one of the table's
pub held_within : (w : Tables) (t i : ℕ) (table : TableWords) → table_of w.tables t ≡ Some table → i < length table.slots → i < slots_in (table_of w.tables t)
held_within w t i table there within = subst (λ o. i < slots_in o) (sym there) within
