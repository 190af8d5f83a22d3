-- The search of an insertion's or a compute's fast path: the state to which each of its steps leads
-- the ghost machine.
use Rattle.std.proofs.Common.{◌≡◌, inl, ℕ, ◌<◌, ◌≤◌, ◌==◌, nat_lt, Bool, true, false, if◌then◌else◌}
use Rattle.std.proofs.Common.{Option, None, Some, List, [], length, refl, sym, ap, ◌∙◌, subst}
use Rattle.std.proofs.Common.{arith}
use Rattle.std.proofs.lemmas.Bool.{ne_eqb}
use Rattle.std.specs.Cmp.{IsEquivalence}
use mathlib.Core.List.{IsPrefix}
use denote.Bor.{Bor}
use Rattle.logbook.specs.Pages.{Book}
use Rattle.papaya_words.specs.Word.{kind_of, may_hold, pair_of}
use Rattle.papaya_words.specs.declared.resize_mode.ResizeMode.{ResizeMode}
use Rattle.papaya_words.specs.declared.word.Kind.{Kind}
use Rattle.papaya_words.specs.declared.word.Kind.TheVariants as kinds
use Rattle.papaya_call.specs.declared.ask.At.TheVariants.{Root, Slot}
use Rattle.papaya_call.specs.declared.search.Place.{Place}
use Rattle.papaya_call.specs.declared.search.Search.{Search}
use Rattle.papaya_call.specs.declared.search.Search.TheVariants.{Sizing, Looking, Reading, Comparing}
use Rattle.papaya_call.specs.declared.search.ProbeStep.{ProbeStep}
use Rattle.papaya_call.specs.declared.search.ProbeStep.TheVariants.{On, Over, Empty as Seen_empty, Here}
use Rattle.papaya_call.specs.Search.{IsProbed, IsWithin, at_yes, first_place, go_on, hinted, look, look_at, match_at, next_place}
use Rattle.papaya_call.specs.declared.machine.State.{State}
use Rattle.papaya_call.specs.declared.machine.State.TheVariants.{Searching}
use Rattle.papaya_call.specs.Compute.{nothing}
use Rattle.papaya_call.specs.Made.{nothing_made}
use Rattle.papaya_call.specs.Machine.{at_root, computes, goes_as, replaces}
use Rattle.papaya_call.specs.ChainMachine.{started}
use Rattle.papaya_words_law.specs.Invariant.{named}
use Rattle.papaya_call_law.specs.TrueAnswers.{or_last}
use Rattle.papaya_call_law.proofs.LoadsLeft.{chosen}
use Rattle.papaya_map_book.specs.declared.rule.entry.Begun.{Begun}
use Rattle.papaya_map_book.specs.declared.rule.entry.Event.{Event}
use Rattle.papaya_map_book.specs.declared.rule.entry.Named.{Named}
use Rattle.papaya_map_book.specs.declared.rule.entry.Named.TheVariants as names
use Rattle.papaya_map_book.specs.Calls.{IsRoot, IsSlotWord, IsTable}
use Rattle.papaya_map_book.specs.Hashes.{hash_of}
use Rattle.papaya_map_book.specs.Hinted.{IsSlotHint}
use Rattle.papaya_map_book.specs.Logs.{Stored, pair_named, state_of, steps_of}
use Rattle.papaya_map_book.specs.Rule.{IsLawfulLog, IsPlaced}
use Rattle.papaya_map_book.specs.Sheets.{Sheet}
use Rattle.papaya_map_book.proofs.Loaded.{told_pair}
use Rattle.papaya_map_book.proofs.Logs.{table_came}
use Rattle.papaya_map_lookup.specs.declared.lookup.Met.{Met}
use Rattle.papaya_map_lookup.specs.History.{key_of}
use Rattle.papaya_map_lookup.proofs.Readings.{IsQuery}
use Rattle.papaya_map_lookup.proofs.Turning.{compared_look, read_hinted}
use Rattle.papaya_map_change.specs.Changing.{IsCalling}
use Rattle.papaya_map_change.specs.Seeking.{IsSeekingAt, Seeker, Inserts, Computes, at_live, leads, left_at, left_to, met_by, seeker_at, task_of, hit_of}
use Rattle.papaya_map_change.specs.declared.fast_path.ProbeHit.TheVariants.{Empty, Next, Over as OverTable}
use Rattle.papaya_map_change.proofs.Changing.{begins, compared, hint_table, hinted as hint_loaded, loads, sized, slot_table}
use Rattle.papaya_map_change.proofs.Written.{own_query}

-- the state of a call after this outcome of a probe
abbrev pub led_by : Seeker → ResizeMode → ProbeStep → State
led_by who mode seen = goes_as (task_of who) mode nothing seen

-- it probes a root that exists
sized_at : (who : Seeker) (word : ℕ) → (word == 0) ≡ false → at_root (task_of who) None word ≡ Searching (Sizing word)
sized_at Inserts word some = rw some refl
sized_at Computes word some = rw some refl

-- and continues as follows if it met a live pair with its key
live_met : (who : Seeker) (mode : ResizeMode) (at : Place) (word : ℕ) (same : Bool) → same ≡ true → kind_of word ≡ kinds.Live
    → led_by who mode (at_yes (Comparing at word) same) ≡ at_live who at word
live_met who mode at word same is_same live =
    let here : at_yes (Comparing at word) same ≡ Here at word = ap (at_yes (Comparing at word)) is_same ∙ ap (λ (z : Kind). match_at z at word) live in
    ap (led_by who mode) here ∙ by_who who
  where
    by_who : (it : Seeker) → led_by it mode (Here at word) ≡ at_live it at word
    by_who Inserts = ap (λ (z : Kind). replaces z at word) live
    by_who Computes = ap (λ (z : Kind). computes z nothing at word) live

module _ (M : Type 0) where
  abbrev Left : ProbeStep → ℕ
  Left seen = left_to {M = M} (hit_of seen)

  -- each step leaves fewer places
  fewer_on : (at : Place) → at.probe.len ≤ at.limit → Left (go_on at) < left_at at
  fewer_on at low = chosen (λ s. Left s < left_at at) (nat_lt at.probe.len at.limit) (On (Looking (next_place at))) (Over at.table)
      (λ e. omega (arith, low)) (λ e. omega (arith, low))

  fewer_none : (at : Place) → at.probe.len ≤ at.limit → 0 < left_at at
  fewer_none at low = omega (arith, low)

  pub fewer_hinted : (at : Place) (hash hint : ℕ) → at.probe.len ≤ at.limit → Left (hinted at hash hint) < left_at at
  fewer_hinted at hash hint low = chosen (λ s. Left s < left_at at) (may_hold hint hash) (On (Reading at)) (go_on at) (λ e. fewer_none at low)
      (λ e. fewer_on at low)

  fewer_at : (kind : Kind) (at : Place) (word : ℕ) → at.probe.len ≤ at.limit → Left (look_at kind at word) < left_at at
  fewer_at kinds.Empty at word low = fewer_none at low
  fewer_at kinds.Live at word low = fewer_none at low
  fewer_at kinds.Marked at word low = fewer_none at low
  fewer_at kinds.Copied at word low = fewer_none at low
  fewer_at kinds.Buried at word low = fewer_on at low
  fewer_at kinds.Closed at word low = fewer_on at low

  pub fewer_look : (at : Place) (word : ℕ) → at.probe.len ≤ at.limit → Left (look at word) < left_at at
  fewer_look at word low = fewer_at (kind_of word) at word low

  fewer_match : (kind : Kind) (at : Place) (word : ℕ) → at.probe.len ≤ at.limit → Left (match_at kind at word) < left_at at
  fewer_match kinds.Empty at word low = fewer_none at low
  fewer_match kinds.Live at word low = fewer_none at low
  fewer_match kinds.Marked at word low = fewer_none at low
  fewer_match kinds.Copied at word low = fewer_none at low
  fewer_match kinds.Buried at word low = fewer_none at low
  fewer_match kinds.Closed at word low = fewer_none at low

  pub fewer_yes : (at : Place) (word : ℕ) (same : Bool) → at.probe.len ≤ at.limit → Left (at_yes (Comparing at word) same) < left_at at
  fewer_yes at word true low = fewer_match (kind_of word) at word low
  fewer_yes at word false low = fewer_on at low

  -- a place that is probed next is one of the search
  within_on : (goes : Search) → IsProbed (On goes) → (next : Place) → hit_of {M = M} (On goes) ≡ Next next → IsWithin next
  within_on (Looking at) seen next e = let is : at ≡ next = cc e in subst IsWithin is seen
  within_on goes seen next e = absurd (cc e)

  pub within_next : (seen : ProbeStep) → IsProbed seen → (next : Place) → hit_of {M = M} seen ≡ Next next → IsWithin next
  within_next (On goes) is next e = within_on goes is next e
  within_next seen is next e = absurd (cc e)

  -- a place that is probed next is of the same table
  abbrev StaysIn : Place → ProbeStep → Type 0
  StaysIn at seen = (next : Place) → hit_of {M = M} seen ≡ Next next → next ≡ record at { probe = next.probe }

  stays_on : (at : Place) → StaysIn at (go_on at)
  stays_on at = chosen (StaysIn at) (nat_lt at.probe.len at.limit) (On (Looking (next_place at))) (Over at.table)
      (λ _ next e. let is : next_place at ≡ next = cc e in subst (λ (z : Place). z ≡ record at { probe = z.probe }) is refl) (λ _ next e. absurd (cc e))

  pub stays_hinted : (at : Place) (hash hint : ℕ) → StaysIn at (hinted at hash hint)
  stays_hinted at hash hint = chosen (StaysIn at) (may_hold hint hash) (On (Reading at)) (go_on at) (λ _ next e. absurd (cc e)) (λ _. stays_on at)

  stays_at : (kind : Kind) (at : Place) (word : ℕ) → StaysIn at (look_at kind at word)
  stays_at kinds.Buried at word = stays_on at
  stays_at kinds.Closed at word = stays_on at
  stays_at kind at word = λ next e. absurd (cc e)

  pub stays_look : (at : Place) (word : ℕ) → StaysIn at (look at word)
  stays_look at word = stays_at (kind_of word) at word

  stays_match : (kind : Kind) (at : Place) (word : ℕ) → StaysIn at (match_at kind at word)
  stays_match kinds.Copied at word = λ next e. absurd (cc e)
  stays_match kind at word = λ next e. absurd (cc e)

  pub stays_yes : (at : Place) (word : ℕ) (same : Bool) → StaysIn at (at_yes (Comparing at word) same)
  stays_yes at word true = stays_match (kind_of word) at word
  stays_yes at word false = stays_on at

module _ (K V : Type 0) where
  -- the outcome of a step that met no pair leads the machine as the search does
  led_on : (who : Seeker) (mode : ResizeMode) (goes : Search) (state : State) → leads who (hit_of {M = Met K V} (On goes)) ≡ Some state
      → led_by who mode (On goes) ≡ state
  led_on who mode (Looking at) state e = cc e
  led_on who mode goes state e = absurd (cc e)

  led_empty : (who : Seeker) (mode : ResizeMode) (at : Place) (state : State) → leads {K = K} {V = V} who (Empty at) ≡ Some state
      → led_by who mode (Seen_empty at) ≡ state
  led_empty Inserts mode at state e = cc e
  led_empty Computes mode at state e = cc e

  led_over : (who : Seeker) (mode : ResizeMode) (table : ℕ) (state : State) → leads {K = K} {V = V} who (OverTable table) ≡ Some state
      → led_by who mode (Over table) ≡ state
  led_over Inserts mode table state e = cc e
  led_over Computes mode table state e = absurd (cc e)

  pub led_so : (who : Seeker) (mode : ResizeMode) (seen : ProbeStep) (state : State) → leads who (hit_of {M = Met K V} seen) ≡ Some state
      → led_by who mode seen ≡ state
  led_so who mode (On goes) state e = led_on who mode goes state e
  led_so who mode (Seen_empty at) state e = led_empty who mode at state e
  led_so who mode (Over table) state e = led_over who mode table state e
  led_so who mode seen state e = absurd (cc e)

  none_on : (goes : Search) → met_by (hit_of {M = Met K V} (On goes)) ≡ None
  none_on (Looking at) = refl
  none_on goes = refl

  pub none_met : (seen : ProbeStep) → met_by (hit_of {M = Met K V} seen) ≡ None
  none_met (On goes) = none_on goes
  none_met (Seen_empty at) = refl
  none_met seen = refl

-- a pair was met only if its key matches
pub here_same : (at : Place) (word : ℕ) (same : Bool) (a : Place) (w : ℕ) → at_yes (Comparing at word) same ≡ Here a w → same ≡ true
here_same at word true a w e = refl
here_same at word false a w e = absurd (chosen (λ s. s ≡ Here a w → ⊥) (nat_lt at.probe.len at.limit) (On (Looking (next_place at))) (Over at.table)
    (λ _ f. cc f) (λ _ f. cc f) e)

module _ {K V S H : Type 0} (eq : K → K → Bool) (input : K → List (List ℕ)) (build : S → H) (write : H → List ℕ → H) (finish : H → ℕ)
    (classes : IsEquivalence eq) (respects : (x y : K) → eq x y ≡ true → input x ≡ input y)
    (b : Begun K V S) (name : Book) (key : K) (begun : List (Event K V S)) (who : Seeker) where
  abbrev hash : S → K → ℕ
  hash = hash_of input build write finish

  abbrev h : ℕ
  h = hash b.hasher key

  abbrev query : IsQuery eq input (eq key) (input key)
  query = own_query eq input build write finish classes respects b name key

  abbrev At : List (Event K V S) → State → Option (Stored K V) → Sheet → Type 0
  At log state met table = IsSeekingAt who eq hash b name key begun log state met table

  abbrev Under : List (Event K V S) → State → Option (Bor Sheet) → Option (Stored K V) → Type 0
  Under log state table last = IsCalling eq hash b name (eq key) h (Some key) begun log (seeker_at who h b.mode 1 (nothing_made b.limit) state) table
      last None [] None None None

  unmet : (last : Option (Stored K V)) (p : Stored K V) → None ≡ Some p → last ≡ Some p
  unmet last p e = absurd (cc e)

  -- the root was loaded, and its size received
  pub root_found : (log : List (Event K V S)) → IsPrefix begun log → IsLawfulLog eq hash b begun
      → (word : ℕ) (root : Option (Bor Sheet)) (lent : Bor Sheet) → root ≡ Some lent → IsRoot eq hash b name word log root → (slots limit : ℕ)
      → slots ≡ length lent.now.slots → limit ≡ lent.now.limit → At log (Searching (Looking (first_place h word slots limit))) None lent.now
  root_found log pre lawful word root lent some is slots limit slots_is limit_is =
      let found : IsRoot eq hash b name word log (Some lent) = subst (IsRoot eq hash b name word log) some is in
      let first = begins eq hash b name (eq key) h (Some key) refl begun lawful (task_of who) 1 in
      let as_loaded = loads eq input build write finish classes respects b (eq key) (input key) query (Some key) name begun begun log pre found.lawful
      (started (task_of who) h b.mode 1 0 b.limit) None None None [] None None None first Root word (Some lent) None refl (Some lent, found, refl, refl) in
      let by = (table_came (steps_of log) word found.names.0.0 found.names.0.1).1 in
      let sizing : Under log (Searching (Sizing word)) (Some lent) None = subst (λ (z : State). Under log z (Some lent) None)
      (sized_at who word (ne_eqb word 0 (λ z. omega (arith, by, z)))) as_loaded in (
        lent,
        refl,
        None,
        unmet None,
        sized eq input build write finish classes respects b (eq key) (input key) query (Some key) name begun log
            (seeker_at who h b.mode 1 (nothing_made b.limit) (Searching (Sizing word))) (Some lent) None None [] None None None sizing word lent refl
            slots limit slots_is limit_is refl,
      )

  -- the table has a place whose hint is loaded
  pub hint_there : (log : List (Event K V S)) (at : Place) (table : Sheet) → At log (Searching (Looking at)) None table → IsTable log at.table table
      × (at.probe.i < length table.slots)
  hint_there log at table (lent, is, last, met, r) =
      subst (λ (z : Sheet). IsTable log at.table z × (at.probe.i < length z.slots)) is
      (hint_table eq input build write finish classes respects b (eq key) (input key) query (Some key) name begun log
      (seeker_at who h b.mode 1 (nothing_made b.limit) (Searching (Looking at))) (Some lent) last None [] None None None r at.table at.probe.i (inl refl))

  -- the outcome of a step that met no pair leads the machine as the search does
  pub turned : (log : List (Event K V S)) (seen : ProbeStep) (table : Sheet) → At log (led_by who b.mode seen) None table → (state : State)
      → leads who (hit_of {M = Met K V} seen) ≡ Some state → At log state (met_by (hit_of {M = Met K V} seen)) table
  turned log seen table r state e =
      subst (λ (o : Option (Stored K V)). At log state o table) (sym (none_met K V seen))
      (subst (λ (s : State). At log s None table) (led_so K V who b.mode seen state e) r)

  -- its hint was loaded, and compared with the key's hash
  module _ (log log' : List (Event K V S)) (pre : IsPrefix log log') (at : Place) (table : Sheet) (r : At log (Searching (Looking at)) None table)
      (n : ℕ) (n_is : n ≡ h) (hint : ℕ) (told : IsSlotHint eq hash b at.table at.probe.i hint log') where
    pub hint_seen : At log' (led_by who b.mode (hinted at n hint)) None table
    hint_seen =
        subst (λ (z : ℕ). At log' (led_by who b.mode (hinted at z hint)) None table) (sym n_is) (
          r.0,
          r.1,
          r.2,
          unmet r.2,
          hint_loaded eq input build write finish classes respects b (eq key) (input key) query (Some key) name begun log
              log' pre told.lawful (seeker_at who h b.mode 1 (nothing_made b.limit) (Searching (Looking at))) (Some r.0) r.2 None [] None None None r.4
              at.table at.probe.i hint refl told,
        )

    -- its word is loaded next, if the hint states nothing or is the key's
    pub word_next : (a : Place) → hinted at n hint ≡ On (Reading a) → At log' (Searching (Reading at)) None table
    word_next a e = subst (λ (s : ProbeStep). At log' (led_by who b.mode s) None table) (read_hinted at n hint a e) hint_seen

  -- the table has a place whose word is loaded
  pub place_there : (log : List (Event K V S)) (at : Place) (table : Sheet) → At log (Searching (Reading at)) None table → IsTable log at.table table
      × (at.probe.i < length table.slots)
  place_there log at table (lent, is, last, met, r) =
      subst (λ (z : Sheet). IsTable log at.table z × (at.probe.i < length z.slots)) is
      (slot_table eq input build write finish classes respects b (eq key) (input key) query (Some key) name begun log
      (seeker_at who h b.mode 1 (nothing_made b.limit) (Searching (Reading at))) (Some lent) last None [] None None None r at.table at.probe.i (inl refl))

  -- its word was loaded
  module _ (log log' : List (Event K V S)) (pre : IsPrefix log log') (at : Place) (table : Sheet) (r : At log (Searching (Reading at)) None table)
      (word : ℕ) (state : Option (Named K V)) (told : IsSlotWord eq hash b name at.table at.probe.i word log' state) where
    abbrev there : Option (Stored K V)
    there = named ((state_of log').slot at.table at.probe.i)

    as_loaded : Under log' (led_by who b.mode (look at word)) (Some r.0) (or_last there r.2)
    as_loaded =
        loads eq input build write finish classes respects b (eq key) (input key) query (Some key) name begun log log' pre told.read.lawful
        (seeker_at who h b.mode 1 (nothing_made b.limit) (Searching (Reading at))) (Some r.0) r.2 None [] None None None r.4
        (Slot at.table at.probe.i) word (Some r.0) (or_last there r.2) refl
        (there, record { lawful = told.read.lawful; is = told.read.is; names = refl; placed = told.placed }, refl, refl)

    pub looked : At log' (led_by who b.mode (look at word)) None table
    looked = (r.0, r.1, or_last there r.2, unmet (or_last there r.2), as_loaded)

    -- a key is compared
    module _ (a : Place) (w : ℕ) (e : look at word ≡ On (Comparing a w)) where
      pub pair_there : (p : Stored K V) × (state ≡ Some (names.Pair p)) × (pair_of word ≡ p.index)
      pair_there = let c = compared_look (kind_of word) at word a w e in told.some c.some c.shut

      module _ (p : Stored K V) (is : state ≡ Some (names.Pair p)) where
        stands : there ≡ Some p
        stands = told_pair eq hash b log' word state at.table at.probe.i told.read p is

        pub pair_in_log : IsPlaced b (Some name) (names.Pair p)
        pair_in_log = subst (λ (o : Option (Stored K V)). IsPlaced b (Some name) (pair_named o)) stands told.placed

        -- and it is that pair's
        module _ (same : Bool) (same_is : same ≡ eq key (key_of p)) where
          matched_under : Under log' (led_by who b.mode (at_yes (Comparing at word) same)) (Some r.0) (Some p)
          matched_under =
              let to = (compared_look (kind_of word) at word a w e).is in
              let last : or_last there r.2 ≡ Some p = ap (λ (o : Option (Stored K V)). or_last o r.2) stands in
              let comparing : Under log' (Searching (Comparing at word)) (Some r.0)
              (Some p) = subst (λ (z : ProbeStep × Option (Stored K V)). Under log' (led_by who b.mode z.0) (Some r.0) z.1) (λ i. (to i, last i)) as_loaded in
              compared eq input build write finish classes respects b (eq key) (input key) query (Some key) name begun log'
              (seeker_at who h b.mode 1 (nothing_made b.limit) (Searching (Comparing at word))) (Some r.0) (Some p) None [] None None None comparing
              (pair_of word) same
              (λ q f. let one : p ≡ q = cc f in same_is ∙ ap (λ (z : Stored K V). eq key (key_of z)) one) refl

          pub matched : At log' (led_by who b.mode (at_yes (Comparing at word) same)) None table
          matched = (r.0, r.1, Some p, unmet (Some p), matched_under)

          -- if it is live it is to be replaced
          pub met_live : same ≡ true → kind_of word ≡ kinds.Live → At log' (at_live who at word) (Some p) table
          met_live is_same live = (
            r.0,
            r.1,
            Some p,
            λ q f.
                f,
            subst (λ (s : State). Under log' s (Some r.0) (Some p)) (live_met who b.mode at word same is_same live) matched_under,
          )
