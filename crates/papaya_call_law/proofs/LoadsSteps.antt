-- The number of loads that a lookup may still make after one answer.
use Rattle.std.proofs.Common.{◌≡◌, ◌⊎◌, inl, inr, ⊎_elim, ℕ, ◌+◌, ◌-◌, ◌<◌, ◌≤◌, ◌==◌, nat_lt, Bool}
use Rattle.std.proofs.Common.{true, false, None, List, ◌∷◌, refl, sym, subst, arith, Option}
use Rattle.std.specs.List.{All, Contains, cons_option}
use Rattle.std.proofs.lemmas.Bool.{ltb-true, eq-eqb}
use Rattle.std.proofs.lemmas.List.Elements.{All-cons}
use Rattle.papaya_words.specs.Word.{kind_of, pair_of}
use Rattle.papaya_words.specs.declared.word.Kind.{Kind}
use Rattle.papaya_words.specs.declared.word.Kind.TheVariants as kinds
use Rattle.papaya_words.specs.declared.resize_mode.ResizeMode.{ResizeMode}
use Rattle.papaya_words.specs.declared.resize_mode.ResizeMode.TheVariants.{Incremental, Blocking}
use Rattle.papaya_call.specs.declared.ask.At.TheVariants.{Root, Next, Slot}
use Rattle.papaya_call.specs.declared.ask.Ask.{Ask}
use Rattle.papaya_call.specs.declared.ask.Ask.TheVariants.{Load, LoadHint, SameKey, SizeOf, Done}
use Rattle.papaya_call.specs.declared.call.Reply.{Reply}
use Rattle.papaya_call.specs.declared.call.Reply.TheVariants.{Absent, Found}
use Rattle.papaya_call.specs.declared.call.Task.TheVariants.{Get}
use Rattle.papaya_call.specs.declared.search.Place.{Place}
use Rattle.papaya_call.specs.declared.search.Search.TheVariants.{Sizing, Looking, Reading, Comparing}
use Rattle.papaya_call.specs.declared.search.ProbeStep.{ProbeStep}
use Rattle.papaya_call.specs.declared.search.ProbeStep.TheVariants.{On, Over}
use Rattle.papaya_call.specs.declared.made.Made.{Made}
use Rattle.papaya_call.specs.declared.machine.State.{State}
use Rattle.papaya_call.specs.declared.machine.State.TheVariants.{AtRoot, Making, Opening, Searching}
use Rattle.papaya_call.specs.declared.machine.State.TheVariants.{Writing, Offering, Showing}
use Rattle.papaya_call.specs.declared.machine.State.TheVariants.{Pairing, Putting, Burying}
use Rattle.papaya_call.specs.declared.machine.State.TheVariants.{Counting, Noting, Uncounting}
use Rattle.papaya_call.specs.declared.machine.State.TheVariants.{Leaving, Growing, Ended}
use Rattle.papaya_call.specs.declared.machine.Machine.{Machine}
use Rattle.papaya_call.specs.Search.{first_place, next_place, go_on, look_at, match_at, at_yes as search_compared}
use Rattle.papaya_call.specs.Compute.{nothing}
use Rattle.papaya_call.specs.Machine.{IsLookup, at_root, left as state_left, passes, goes_as}
use Rattle.papaya_call_law.specs.Loads.{table_entered, table_hinted, table_loaded}
use Rattle.papaya_call_law.proofs.LoadsLists.{count, count-cons, IsFrom, from_lower, from_cons, contains_first, contains_more}
use Rattle.papaya_call_law.proofs.LoadsLeft.{chosen, left_in, left_most, left_less, left_loaded, left_later}

-- a lookup in this state
abbrev pub lookup : (hash initial : ℕ) → ResizeMode → Made → State → Machine
lookup hash initial mode made s = record { task = Get; hash = hash; mode = mode; initial = initial; made = made; remembered = nothing; state = s }

-- the states of a lookup: within the limit of its table
abbrev pub IsReader : State → Type 0
IsReader AtRoot = Unit {0}
IsReader (Searching (Sizing u)) = Unit {0}
IsReader (Searching (Looking at)) = at.probe.len ≤ at.limit
IsReader (Searching (Reading at)) = at.probe.len ≤ at.limit
IsReader (Searching (Comparing at word)) = at.probe.len ≤ at.limit
IsReader (Leaving u) = Unit {0}
IsReader (Ended reply) = Unit {0}
IsReader Making = ⊥
IsReader (Opening u) = ⊥
IsReader (Writing write) = ⊥
IsReader (Offering gap) = ⊥
IsReader (Showing removal) = ⊥
IsReader (Pairing purpose) = ⊥
IsReader (Putting put) = ⊥
IsReader (Burying removal) = ⊥
IsReader (Counting pair) = ⊥
IsReader (Noting pair) = ⊥
IsReader (Uncounting pair) = ⊥
IsReader (Growing u) = ⊥

-- each table that it enters from here on has number n or a greater one
abbrev pub IsBelow : ℕ → State → Type 0
IsBelow n AtRoot = n ≤ 0
IsBelow n (Searching (Sizing u)) = n ≤ u
IsBelow n (Searching (Looking at)) = n ≤ at.table + 1
IsBelow n (Searching (Reading at)) = n ≤ at.table + 1
IsBelow n (Searching (Comparing at word)) = n ≤ at.table + 1
IsBelow n (Leaving u) = n ≤ u + 1
IsBelow n _ = Unit {0}

-- it searches table u
abbrev pub IsIn : State → ℕ → Type 0
IsIn (Searching (Looking at)) u = at.table ≡ u
IsIn (Searching (Reading at)) u = at.table ≡ u
IsIn (Searching (Comparing at word)) u = at.table ≡ u
IsIn _ u = ⊥

-- the table of which an ask loads a word, or otherwise a hint
abbrev pub loaded_by : Bool → Ask → Option ℕ
loaded_by true ask = table_loaded ask
loaded_by false ask = table_hinted ask

-- the words, or otherwise hints, left once the hint of a place was loaded: its word is yet to be
-- loaded
abbrev left_here : Bool → Place → ℕ
left_here true at = at.limit + 1 - at.probe.len
left_here false at = at.limit - at.probe.len

module _ (limit : ℕ → ℕ) where
  -- the number of words, or otherwise hints, of table t that it may load from here on
  abbrev pub left : Bool → ℕ → State → ℕ
  left words t AtRoot = limit t + 1
  left words t (Searching (Sizing u)) = left_in limit t u (limit t + 1)
  left words t (Searching (Looking at)) = left_in limit t at.table (at.limit + 1 - at.probe.len)
  left words t (Searching (Reading at)) = left_in limit t at.table (left_here words at)
  left words t (Searching (Comparing at word)) = left_in limit t at.table (at.limit - at.probe.len)
  left words t (Leaving u) = left_in limit t u 0
  left words t _ = 0

  -- a lookup reaches this state after a place of table u, with this many more loads of u
  pub record Follows (u more : ℕ) (s : State) : Type 0 where
    pub reader : IsReader s
    pub fewer : (words : Bool) (t : ℕ) → left words t s ≤ left_in limit t u more
    pub above : IsBelow (u + 1) s
    pub same : (v : ℕ) → IsIn s v → u ≡ v

  follows_ended : (u more : ℕ) (reply : Reply) → Follows u more (Ended reply)
  follows_ended u more reply = record { reader = tt; fewer = λ words t. omega arith; above = tt; same = λ v h. absurd h }

  follows_leaving : (u more : ℕ) → Follows u more (Leaving u)
  follows_leaving u more = record { reader = tt; fewer = λ words t. left_less limit t u 0 more (λ e. omega arith); above = omega arith; same = λ v h. absurd h }

  follows_looking : (at : Place) → at.probe.len < at.limit → Follows at.table (at.limit - at.probe.len) (Searching (Looking (next_place at)))
  follows_looking at lt = record {
    reader = omega (arith, lt);
    fewer = λ words t. left_less limit t at.table (at.limit + 1 - (at.probe.len + 1)) (at.limit - at.probe.len) (λ e. omega arith);
    above = omega arith;
    same = λ v h. h;
  }

  follows_comparing : (at : Place) (word : ℕ) → at.probe.len ≤ at.limit → Follows at.table (at.limit - at.probe.len) (Searching (Comparing at word))
  follows_comparing at word le = record {
    reader = le;
    fewer = λ words t.
        left_less limit t at.table (at.limit - at.probe.len) (at.limit - at.probe.len) (λ e. omega arith);
    above = omega arith;
    same = λ v h. h;
  }

  follows_passes : (mode : ResizeMode) (u more : ℕ) → Follows u more (passes Get mode None u)
  follows_passes (Incremental chunk) u more = follows_leaving u more
  follows_passes Blocking u more = follows_ended u more Absent

  module _ (mode : ResizeMode) (at : Place) (le : at.probe.len ≤ at.limit) where
    -- the outcome of a probe leads to such a state
    abbrev pub Leads : ProbeStep → Type 0
    Leads seen = Follows at.table (at.limit - at.probe.len) (goes_as Get mode nothing seen)

    pub leads_on : Leads (go_on at)
    leads_on =
        chosen Leads (nat_lt at.probe.len at.limit) (On (Looking (next_place at))) (Over at.table)
        (λ e. follows_looking at (ltb-true at.probe.len at.limit e))
        (λ e. follows_passes mode at.table (at.limit - at.probe.len))

    pub leads_look : (kind : Kind) (word : ℕ) → Leads (look_at kind at word)
    leads_look kinds.Empty word = follows_ended at.table (at.limit - at.probe.len) Absent
    leads_look kinds.Live word = follows_comparing at word le
    leads_look kinds.Marked word = follows_comparing at word le
    leads_look kinds.Copied word = follows_comparing at word le
    leads_look kinds.Buried word = leads_on
    leads_look kinds.Closed word = leads_on

    leads_match : (kind : Kind) (word : ℕ) → Leads (match_at kind at word)
    leads_match kinds.Empty word = follows_ended at.table (at.limit - at.probe.len) (Found (pair_of word))
    leads_match kinds.Live word = follows_ended at.table (at.limit - at.probe.len) (Found (pair_of word))
    leads_match kinds.Marked word = follows_ended at.table (at.limit - at.probe.len) (Found (pair_of word))
    leads_match kinds.Copied word = follows_passes mode at.table (at.limit - at.probe.len)
    leads_match kinds.Buried word = follows_ended at.table (at.limit - at.probe.len) (Found (pair_of word))
    leads_match kinds.Closed word = follows_ended at.table (at.limit - at.probe.len) (Found (pair_of word))

    pub leads_compared : (word : ℕ) (same : Bool) → Leads (search_compared (Comparing at word) same)
    leads_compared word true = leads_match (kind_of word) word
    leads_compared word false = leads_on

  -- the tables that are loaded were entered before, or the search is in them
  abbrev pub AreKnown : State → (entered as_loaded : List ℕ) → Type 0
  AreKnown s entered as_loaded = All (λ u. Contains entered u ⊎ IsIn s u) as_loaded

  -- a bound from s' on is a bound from s on, with this ask between them
  pub record IsStep (s s' : State) (ask : Ask) : Type 0 where
    pub reader : IsReader s'
    pub loads : (words : Bool) (t : ℕ) (rest : List ℕ) → count t rest ≤ left words t s' → count t (cons_option (loaded_by words ask) rest) ≤ left words t s
    pub enters : (n : ℕ) → IsBelow n s → (rest : List ℕ) → ((m : ℕ) → IsBelow m s' → IsFrom m rest) → IsFrom n (cons_option (table_entered ask) rest)
    pub known : (words : Bool) (entered as_loaded : List ℕ) → AreKnown s' entered as_loaded
        → AreKnown s (cons_option (table_entered ask) entered) (cons_option (loaded_by words ask) as_loaded)
    pub quiet : IsLookup ask

  -- nothing is entered, and neither a word of a slot nor a hint loaded
  step_aside : (s s' : State) (ask : Ask) → ((words : Bool) → loaded_by words ask ≡ None) → table_entered ask ≡ None → IsLookup ask → IsReader s'
      → ((words : Bool) (t : ℕ) → left words t s' ≤ left words t s) → ((n : ℕ) → IsBelow n s → (m : ℕ) × (n ≤ m) × IsBelow m s')
      → ((u : ℕ) → IsIn s' u → IsIn s u) → IsStep s s' ask
  step_aside s s' ask no_load no_entry quiet reader less below in_it = record {
    reader = reader;
    loads = λ words t rest h. subst (λ o. count t (cons_option o rest) ≤ left words t s) (sym (no_load words)) (let l = less words t in omega (arith, h, l));
    enters = λ n b rest h. subst (λ o. IsFrom n (cons_option o rest)) (sym no_entry) (let m = below n b in from_lower n m.0 rest m.1 (h m.0 m.2));
    known = λ words entered as_loaded h. subst (λ o. AreKnown s (cons_option o entered) (cons_option (loaded_by words ask) as_loaded)) (sym no_entry)
        (subst (λ o. AreKnown s entered (cons_option o as_loaded)) (sym (no_load words)) (λ k d lt. ⊎_elim (λ c. inl c) (λ i. inr (in_it _ i)) (h k d lt)));
    quiet = quiet;
  }

  -- these are the loads of a root and of a next table, and all comparisons and replies
  of_root : (words : Bool) → loaded_by words (Load Root) ≡ None
  of_root true = refl
  of_root false = refl

  of_next : (u : ℕ) (words : Bool) → loaded_by words (Load (Next u)) ≡ None
  of_next u true = refl
  of_next u false = refl

  of_pair : (n : ℕ) (words : Bool) → loaded_by words (SameKey n) ≡ None
  of_pair n true = refl
  of_pair n false = refl

  of_reply : (reply : Reply) (words : Bool) → loaded_by words (Done reply) ≡ None
  of_reply reply true = refl
  of_reply reply false = refl

  of_size : (u : ℕ) (words : Bool) → loaded_by words (SizeOf u) ≡ None
  of_size u true = refl
  of_size u false = refl

  -- the root was loaded
  pub step_root : (word : ℕ) → IsStep AtRoot (at_root Get None word) (Load Root)
  step_root word =
      chosen (λ s. IsStep AtRoot s (Load Root)) (word == 0) (Ended Absent) (Searching (Sizing word))
      (λ e. step_aside AtRoot (Ended Absent) (Load Root) of_root refl tt tt (λ words t. omega arith) (λ n b. (n, omega arith, tt)) (λ u i. absurd i))
      (λ e. step_aside AtRoot (Searching (Sizing word)) (Load Root) of_root refl tt tt
      (λ words t. left_most limit t word (limit t + 1) (λ q. omega arith)) (λ n b. (n, omega arith, omega (arith, b))) (λ u i. absurd i))

  -- a next table's number was loaded
  pub step_next : (u word : ℕ) → (word ≡ 0) ⊎ (u < word) → IsStep (Leaving u) (state_left Get None u word) (Load (Next u))
  step_next u word rises =
      chosen (λ s. IsStep (Leaving u) s (Load (Next u))) (word == 0) (Ended Absent) (Searching (Sizing word))
      (λ e. step_aside (Leaving u) (Ended Absent) (Load (Next u)) (of_next u) refl tt tt (λ words t. omega arith) (λ n b. (n, omega arith, tt))
      (λ v i. absurd i))
      (λ e. let up : u < word = ⊎_elim (λ (z : word ≡ 0). absurd (let q : (word == 0) ≡ true = eq-eqb word 0 z in cc (q, e))) (λ l. l) rises in
      step_aside (Leaving u) (Searching (Sizing word)) (Load (Next u)) (of_next u) refl tt tt (λ words t. left_later limit t u word up)
      (λ n b. (n, omega arith, omega (arith, b, up))) (λ v i. absurd i))

  -- a table is entered
  pub step_size : (hash u slots : ℕ) → IsStep (Searching (Sizing u)) (Searching (Looking (first_place hash u slots (limit u)))) (SizeOf u)
  step_size hash u slots = record {
    reader = omega arith;
    loads = λ words t rest h. subst (λ o. count t (cons_option o rest) ≤ left words t (Searching (Sizing u))) (sym (of_size u words))
        (let l : left_in limit t u (limit u + 1 - 0) ≤ left_in limit t u (limit t + 1) = left_less limit t u (limit u + 1 - 0) (limit t + 1)
        (λ e. same t e) in omega (arith, h, l));
    enters = λ n b rest h. from_cons n u rest b (h (u + 1) (omega arith));
    known = λ words entered as_loaded h. subst (λ o. AreKnown (Searching (Sizing u)) (u ∷ entered) (cons_option o as_loaded)) (sym (of_size u words))
        (λ k d lt. ⊎_elim (λ c. inl (contains_more u _ entered c)) (λ i. inl (subst (Contains (u ∷ entered)) i (contains_first u entered))) (h k d lt));
    quiet = tt;
  }
    where
      same : (t : ℕ) → u ≡ t → limit u + 1 - 0 ≤ limit t + 1
      same t e = subst (λ v. limit u + 1 - 0 ≤ limit v + 1) e (omega arith)

  -- one more was loaded at this place
  one_loaded : (at : Place) (t : ℕ) (rest : List ℕ) → at.probe.len ≤ at.limit → count t rest ≤ left_in limit t at.table (at.limit - at.probe.len)
      → count t (at.table ∷ rest) ≤ left_in limit t at.table (at.limit + 1 - at.probe.len)
  one_loaded at t rest le h =
      let c = count-cons t at.table rest in
      let one = left_loaded limit t at.table (at.limit - at.probe.len) (at.limit + 1 - at.probe.len) (omega (arith, le)) in
      omega (arith, h, c, one)

  -- or not
  none_loaded : (at : Place) (t : ℕ) (rest : List ℕ) (more : ℕ) → at.limit - at.probe.len ≤ more
      → count t rest ≤ left_in limit t at.table (at.limit - at.probe.len) → count t rest ≤ left_in limit t at.table more
  none_loaded at t rest more le h = let l = left_less limit t at.table (at.limit - at.probe.len) more (λ e. le) in omega (arith, h, l)

  -- the facts about the tables after one was loaded at this place, or none
  known_here : (at : Place) (s s' : State) → ((u : ℕ) → IsIn s' u → at.table ≡ u) → ((u : ℕ) → at.table ≡ u → IsIn s u) → (entered as_loaded : List ℕ)
      → AreKnown s' entered as_loaded → AreKnown s entered as_loaded
  known_here at s s' same back entered as_loaded h k d lt = ⊎_elim (λ c. inl c) (λ i. inr (back _ (same _ i))) (h k d lt)

  -- a hint was loaded, and the place is passed
  pub step_hint : (at : Place) (s' : State) → at.probe.len ≤ at.limit → Follows at.table (at.limit - at.probe.len) s'
      → IsStep (Searching (Looking at)) s' (LoadHint at.table at.probe.i)
  step_hint at s' le f = record {
    reader = f.reader;
    loads = loads;
    enters = λ n b rest h. from_lower n (at.table + 1) rest b (h (at.table + 1) f.above);
    known = known;
    quiet = tt;
  }
    where
      loads : (words : Bool) (t : ℕ) (rest : List ℕ) → count t rest ≤ left words t s'
          → count t (cons_option (loaded_by words (LoadHint at.table at.probe.i)) rest) ≤ left words t (Searching (Looking at))
      loads true t rest h = let l = f.fewer true t in none_loaded at t rest (at.limit + 1 - at.probe.len) (omega arith) (omega (arith, h, l))
      loads false t rest h = let l = f.fewer false t in one_loaded at t rest le (omega (arith, h, l))

      known : (words : Bool) (entered as_loaded : List ℕ) → AreKnown s' entered as_loaded
          → AreKnown (Searching (Looking at)) entered (cons_option (loaded_by words (LoadHint at.table at.probe.i)) as_loaded)
      known true entered as_loaded h = known_here at (Searching (Looking at)) s' f.same (λ u e. e) entered as_loaded h
      known false entered as_loaded h = All-cons (λ u. Contains entered u ⊎ IsIn (Searching (Looking at)) u) at.table as_loaded (inr refl)
          (known_here at (Searching (Looking at)) s' f.same (λ u e. e) entered as_loaded h)

  -- a hint was loaded, and the word is loaded next
  pub step_read : (at : Place) → at.probe.len ≤ at.limit → IsStep (Searching (Looking at)) (Searching (Reading at)) (LoadHint at.table at.probe.i)
  step_read at le = record {
    reader = le;
    loads = loads;
    enters = λ n b rest h. h n b;
    known = known;
    quiet = tt;
  }
    where
      loads : (words : Bool) (t : ℕ) (rest : List ℕ) → count t rest ≤ left words t (Searching (Reading at))
          → count t (cons_option (loaded_by words (LoadHint at.table at.probe.i)) rest) ≤ left words t (Searching (Looking at))
      loads true t rest h = h
      loads false t rest h = one_loaded at t rest le h

      known : (words : Bool) (entered as_loaded : List ℕ) → AreKnown (Searching (Reading at)) entered as_loaded
          → AreKnown (Searching (Looking at)) entered (cons_option (loaded_by words (LoadHint at.table at.probe.i)) as_loaded)
      known true entered as_loaded h = h
      known false entered as_loaded h = All-cons (λ u. Contains entered u ⊎ IsIn (Searching (Looking at)) u) at.table as_loaded (inr refl) h

  -- a slot was loaded
  pub step_load : (at : Place) (s' : State) → at.probe.len ≤ at.limit → Follows at.table (at.limit - at.probe.len) s'
      → IsStep (Searching (Reading at)) s' (Load (Slot at.table at.probe.i))
  step_load at s' le f = record {
    reader = f.reader;
    loads = loads;
    enters = λ n b rest h. from_lower n (at.table + 1) rest b (h (at.table + 1) f.above);
    known = known;
    quiet = tt;
  }
    where
      loads : (words : Bool) (t : ℕ) (rest : List ℕ) → count t rest ≤ left words t s'
          → count t (cons_option (loaded_by words (Load (Slot at.table at.probe.i))) rest) ≤ left words t (Searching (Reading at))
      loads true t rest h = let l = f.fewer true t in one_loaded at t rest le (omega (arith, h, l))
      loads false t rest h = let l = f.fewer false t in omega (arith, h, l)

      known : (words : Bool) (entered as_loaded : List ℕ) → AreKnown s' entered as_loaded
          → AreKnown (Searching (Reading at)) entered (cons_option (loaded_by words (Load (Slot at.table at.probe.i))) as_loaded)
      known true entered as_loaded h = All-cons (λ u. Contains entered u ⊎ IsIn (Searching (Reading at)) u) at.table as_loaded (inr refl)
          (known_here at (Searching (Reading at)) s' f.same (λ u e. e) entered as_loaded h)
      known false entered as_loaded h = known_here at (Searching (Reading at)) s' f.same (λ u e. e) entered as_loaded h

  -- a key was compared
  pub step_compare : (at : Place) (word : ℕ) (s' : State) → Follows at.table (at.limit - at.probe.len) s'
      → IsStep (Searching (Comparing at word)) s' (SameKey (pair_of word))
  step_compare at word s' f = step_aside (Searching (Comparing at word)) s' (SameKey (pair_of word)) (of_pair (pair_of word)) refl tt f.reader f.fewer
      (λ n b. (at.table + 1, b, f.above)) f.same

  -- it has replied
  pub step_ended : (reply : Reply) → IsStep (Ended reply) (Ended reply) (Done reply)
  step_ended reply = step_aside (Ended reply) (Ended reply) (Done reply) (of_reply reply) refl tt tt (λ words t. omega arith)
      (λ n b. (n, omega arith, tt)) (λ u i. i)
