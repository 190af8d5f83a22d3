-- After each answer a changing call again relies on facts that hold, and holds the table and the
-- pair that it loaded last.
use Rattle.std.proofs.Common.{◌≡◌, ◌⊎◌, inl, inr, ⊎_elim, ℕ, ◌+◌, ◌<◌, ◌==◌, Bool, true, false}
use Rattle.std.proofs.Common.{if◌then◌else◌, MatchOption, Option, None, Some, List, [], ◌++◌}
use Rattle.std.proofs.Common.{length, append-nil, refl, sym, ap, ◌∙◌, subst, arith}
use Rattle.std.proofs.lemmas.Bool.{eq-eqb, ne_eqb}
use Rattle.std.specs.Cmp.{IsEquivalence}
use mathlib.Core.List.{IsPrefix}
use denote.Bor.{Bor}
use Rattle.logbook.specs.Pages.{Book}
use Rattle.logbook.specs.declared.tokens.Pen.{Pen}
use Rattle.boxcar.specs.Table.{Where}
use Rattle.papaya_call.specs.declared.ask.At.{At}
use Rattle.papaya_call.specs.declared.ask.At.TheVariants.{Root, Next, Aborted, Done, Slot, Made as Made_word}
use Rattle.papaya_call.specs.declared.ask.Ask.{Ask}
use Rattle.papaya_call.specs.declared.ask.Ask.TheVariants.{Load, LoadHint, WriteHint, SizeOf, SameKey, AddToShard}
use Rattle.papaya_call.specs.declared.ask.Answer.{Answer}
use Rattle.papaya_call.specs.declared.ask.Answer.TheVariants.{Word as Word_read, Size, Yes, Ok as Ok_done}
use Rattle.papaya_call_law.specs.Followed.{IsAtTable, IsCounting, table_asked, told_table}
use Rattle.papaya_words_law.specs.Allows.{AllAllowed}
use Rattle.papaya_words_law.specs.Code.{IsHashed}
use Rattle.papaya_words_law.specs.Exchange.{Setting, run, start}
use Rattle.papaya_words_law.specs.Hints.{IsHint}
use Rattle.papaya_call.specs.declared.call.Task.{Task}
use Rattle.papaya_call.specs.Machine as calls
use Rattle.papaya_call.specs.declared.chain.ask.Answer.TheVariants as answers
use Rattle.papaya_call.specs.declared.chain.ask.Ask.TheVariants.{Call}
use Rattle.papaya_call.specs.declared.chain.machine.Machine.{Machine}
use Rattle.papaya_call.specs.declared.chain.machine.Phase.{Phase}
use Rattle.papaya_call.specs.declared.chain.machine.Phase.TheVariants as phases
use Rattle.papaya_call.specs.ChainMachine.{after, ask_of, kind_of_ask, started}
use Rattle.papaya_call_law.specs.Goes.{link_in}
use Rattle.papaya_call_law.specs.ChainAnswers.{LoadedPairs}
use Rattle.papaya_call_law.proofs.Names.{call_asks}
use Rattle.papaya_words.specs.declared.resize_mode.ResizeMode.{ResizeMode}
use Rattle.papaya_words.specs.declared.resize_mode.ResizeMode.TheVariants.{Incremental, Blocking}
use Rattle.papaya_call_law.specs.Copier.{HasWords}
use Rattle.papaya_call_law.specs.Relies.{IsModeOf, change_after, change_in}
use Rattle.papaya_call_law.specs.TrueAnswers.{IsOneOf, IsTrueOf, or_last, told_of, word_of}
use Rattle.papaya_call_law.specs.TrueAnswers as told_calls
use Rattle.papaya_call_law.proofs.Followed.{counts_after, table_named}
use Rattle.papaya_call_law.proofs.ReliesHints.{machine_may_hint}
use Rattle.papaya_call_law.proofs.ReliesLearnPairs.{wanted_relies}
use Rattle.papaya_call_law.proofs.ReliesNames.{IsNamed, ask_named, hint_named, slot_named}
use Rattle.papaya_map_book.specs.Sheets.{Sheet}
use Rattle.papaya_map_book.specs.declared.rule.entry.Begun.{Begun}
use Rattle.papaya_map_book.specs.declared.rule.entry.Event.{Event}
use Rattle.papaya_map_book.specs.Calls.{IsTable}
use Rattle.papaya_map_change.specs.Changing.{HasChanged, IsBringing, IsCalling, IsForm, IsFresh, loaded_with}
use Rattle.papaya_map_change.specs.Driver.{IsHeldAt, IsLoaded}
use Rattle.papaya_map_book.specs.Hashes.{hash_of}
use Rattle.papaya_map_book.specs.Hinted.{IsSlotHint}
use Rattle.papaya_map_book.specs.Limits.{tables_of}
use Rattle.papaya_map_book.specs.Logs.{Stored, coding_of, exchanges_of, is_blocking, pair_named, setting_of, state_of, steps_of}
use Rattle.papaya_map_lookup.specs.Lookups.{coding_for, setting_for}
use Rattle.papaya_map_book.specs.Rule.{IsLawfulLog, IsPlaced}
use Rattle.papaya_map_lookup.proofs.Driving.{IsRelying, word_wide}
use Rattle.papaya_map_change.proofs.StepsOfOwn.{IsBarren, own_at, own_barren, own_changes, own_counts, own_links, own_told}
use Rattle.papaya_map_change.proofs.Relying.{ChainRelying, relying_later, relying_told}
use Rattle.papaya_map_book.proofs.Loaded.{table_since}
use Rattle.papaya_map_book.proofs.Logs.{prefix_trans, table_came}
use Rattle.papaya_map_lookup.proofs.Readings.{IsQuery, allowed_with, coding, fed, hashed_with, hint_with, hint_without, key_form, setting}
use Rattle.papaya_map_book.proofs.TableSizes.{sizes}

-- the map resizes as its setting states
pub mode_is : (mode : ResizeMode) → IsModeOf mode (is_blocking mode)
mode_is (Incremental chunk) = refl
mode_is Blocking = refl

module _ {K V S : Type 0} where
  -- a table that is held is still held, over a longer log
  pub held_later : (log log' : List (Event K V S)) → IsPrefix log log' → (n : ℕ) (table : Option (Bor Sheet))
      → MatchOption table (n ≡ 0) (λ r. IsTable log n r.now) → MatchOption table (n ≡ 0) (λ r. IsTable log' n r.now)
  held_later log log' pre n None h = h
  held_later log log' pre n (Some r) h = table_since log log' n r.now pre h

  -- a table has a number
  numbered : (log : List (Event K V S)) (n : ℕ) (sheet : Sheet) → IsTable log n sheet → (n == 0) ≡ false
  numbered log n sheet came = let e = (table_came (steps_of log) n came.0 came.1).1 in ne_eqb n 0 (λ z. omega arith)

  -- the table that was loaded is held, or the previous one if none was
  held_loaded : (log : List (Event K V S)) (name : Book) (n word : ℕ) (table as_loaded : Option (Bor Sheet))
      → MatchOption table (n ≡ 0) (λ r. IsTable log n r.now) → MatchOption as_loaded (word ≡ 0) (λ r. IsTable log word r.now × (r.now.book ≡ name))
      → MatchOption (or_last as_loaded table) ((if word == 0 then n else word) ≡ 0) (λ r. IsTable log (if word == 0 then n else word) r.now)
  held_loaded log name n word table None h none = rw (eq-eqb word 0 none) h
  held_loaded log name n word table (Some r) h came = rw (numbered log word r.now came.0) came.0

  -- the table that an ask names is held
  held_named : (log : List (Event K V S)) (n t : ℕ) (table : Option (Bor Sheet)) → 0 < t → t ≡ n
      → MatchOption table (n ≡ 0) (λ r. IsTable log n r.now) → MatchOption table ⊥ (λ r. IsTable log t r.now)
  held_named log n t None some e h = omega arith
  held_named log n t (Some r) some e h = subst (λ (z : ℕ). IsTable log z r.now) (sym e) h

  -- a pair that a call holds is stored in the book's arenas
  pub placed_last : (b : Begun K V S) (name : Book) (pair last : Option (Stored K V)) → IsPlaced b (Some name) (pair_named pair)
      → IsPlaced b (Some name) (pair_named last) → IsPlaced b (Some name) (pair_named (or_last pair last))
  placed_last b name None last p q = q
  placed_last b name (Some z) last p q = p

module _ {K V S : Type 0} (eq : K → K → Bool) (hash : S → K → ℕ) (b : Begun K V S) (name : Book) where
  -- a load implies that the log is lawful
  pub loaded_lawful : (log : List (Event K V S)) (at : At) (word : ℕ) (table table' : Option (Bor Sheet)) (last last' : Option (Stored K V))
      → IsLoaded eq hash b name at word log table table' last last' → IsLawfulLog eq hash b log
  loaded_lawful log Root word table table' last last' is = is.1.lawful
  loaded_lawful log (Next t) word table table' last last' is = is.1.lawful
  loaded_lawful log (Slot t i) word table table' last last' is = is.1.lawful
  loaded_lawful log (Aborted t) word table table' last last' is = absurd is
  loaded_lawful log (Done t c) word table table' last last' is = absurd is
  loaded_lawful log Made_word word table table' last last' is = is.0.lawful

  -- a call that begins
  pub begins : (matches : K → Bool) (by : ℕ) (k : Option K) → by ≡ (coding_for {V = V} hash b.hasher by).hash k → (log : List (Event K V S))
      → IsLawfulLog eq hash b log → (task : Task) (initial : ℕ)
      → IsCalling eq hash b name matches by k log log (started task by b.mode initial 0 b.limit) None None None [] None None None
  begins matches by k hash_is log l task initial = record {
    lawful = l;
    seen = ([], append-nil log);
    since = [];
    is = append-nil (exchanges_of log);
    relies = record {
      cut = λ x. refl;
      call = record {
        hash = hash_is;
        mode = mode_is b.mode;
        made = record {
          keys = λ q none. absurd none;
          limit = refl;
          number_is = wanted_relies (setting_for eq hash b matches by log)
              (coding_for hash b.hasher by) (exchanges_of log) [] k b.limit;
          own_is = tt;
          of_is = tt;
          fill_is = tt;
          choice_is = tt;
        };
        stage = tt;
      };
      phase = tt;
    };
    number = 0;
    at_table = λ still. tt;
    holds_table = refl;
    last_placed = tt;
    kept_placed = tt;
    made_placed = λ q none. absurd none;
    taken_placed = tt;
    changed = λ change e. absurd (cc e);
    brings = λ n e. absurd e;
    words = λ behind n chunks e. absurd (cc e);
    counts = tt;
  }

module _ {K V S H : Type 0} (eq : K → K → Bool) (input : K → List (List ℕ)) (build : S → H) (write : H → List ℕ → H) (finish : H → ℕ)
    (classes : IsEquivalence eq) (respects : (x y : K) → eq x y ≡ true → input x ≡ input y)
    (b : Begun K V S) (matches : K → Bool) (query : List (List ℕ)) (lawful : IsQuery eq input matches query) (k : Option K) (name : Book)
    (begun : List (Event K V S)) where
  abbrev hash : S → K → ℕ
  hash = hash_of input build write finish

  -- the hash of its argument, which is a lawful further key
  abbrev by : ℕ
  by = fed eq input build write finish classes respects b matches query lawful

  pub form : IsForm eq hash b matches by
  form = key_form eq input build write finish classes respects b matches query lawful []

  abbrev pub Calling : List (Event K V S) → Machine → Option (Bor Sheet) → (last kept : Option (Stored K V)) → List (Stored K V)
      → (taken put : Option (Stored K V)) → Option (Where Sheet × Pen) → Type 0
  Calling log m table last kept made taken put fresh = IsCalling eq hash b name matches by k begun log m table last kept made taken put fresh

  abbrev pub Relying : List (Event K V S) → Machine → LoadedPairs (Stored K V) → Type 0
  Relying log m loaded = ChainRelying eq input build write finish classes respects b matches by form k (exchanges_of begun) log m loaded

  -- the setting of a log, and the coding
  abbrev pub Wide : List (Event K V S) → Setting (Option K) (Stored K V)
  Wide log = setting eq input build write finish classes respects b matches query lawful log

  abbrev pub Coded : Rattle.papaya_words_law.specs.Code.Coding (Option K) (Stored K V)
  Coded = coding eq input build write finish classes respects b matches query lawful

  abbrev hashed : (log : List (Event K V S)) → IsLawfulLog eq hash b log → IsHashed (Wide log) Coded
  hashed log l = hashed_with eq input build write finish classes respects b matches query lawful log l

  -- the pairs that a call itself has loaded
  abbrev pub call_loaded : (last : Option (Stored K V)) → List (Stored K V) → told_calls.LoadedPairs (Stored K V)
  call_loaded last made = record { last = last; made = made }

  -- the facts that a call relies on
  pub relies_of : (log : List (Event K V S)) (m : Machine) (table : Option (Bor Sheet)) (last kept : Option (Stored K V)) (made : List (Stored K V))
      (taken put : Option (Stored K V)) (fresh : Option (Where Sheet × Pen)) → Calling log m table last kept made taken put fresh
      → Relying log m (loaded_with last kept made)
  relies_of log m table last kept made taken put fresh r = record { since = r.since; is = r.is; relies = r.relies }

  -- and those that its call relies on, whatever it is set aside for
  pub call_relies : (log : List (Event K V S)) (m : Machine) (table : Option (Bor Sheet)) (last kept : Option (Stored K V)) (made : List (Stored K V))
      (taken put : Option (Stored K V)) (fresh : Option (Where Sheet × Pen)) → Calling log m table last kept made taken put fresh
      → IsRelying eq input build write finish classes respects b matches query lawful k (exchanges_of begun) log m.call (call_loaded last made)
  call_relies log m table last kept made taken put fresh r = record { since = r.since; is = r.is; relies = r.relies.call }

  module _ (log : List (Event K V S)) (m : Machine) (table : Option (Bor Sheet)) (last kept : Option (Stored K V)) (made : List (Stored K V))
      (taken put : Option (Stored K V)) (fresh : Option (Where Sheet × Pen)) (r : Calling log m table last kept made taken put fresh) where
    abbrev may : AllAllowed (Wide log) start (exchanges_of begun ++ r.since)
    may = subst (AllAllowed (Wide log) start) (sym r.is) (allowed_with eq input build write finish classes respects b matches query lawful log r.lawful)

    -- the table that its call names is on the chain
    abbrev NamedOn : Ask → Type 0
    NamedOn ask = IsNamed (Wide log) Coded (hashed log r.lawful) (exchanges_of begun) r.since may k ask

    named_on : (ask : Ask) → ask_of m ≡ Call ask → NamedOn ask
    named_on ask e = subst NamedOn (call_asks m ask e).1
        (ask_named (Wide log) Coded (hashed log r.lawful) (exchanges_of begun) r.since may k (call_loaded last made) m.call.task m.call.hash m.call.made
        m.call.state r.relies.call.stage)

    -- the table that it names is the one loaded last
    named_last : (ask : Ask) → ask_of m ≡ Call ask → (t : ℕ) → table_asked ask ≡ Some t → t ≡ r.number
    named_last ask e t asked = let own = call_asks m ask e in table_named m.call r.number t (r.at_table own.0) (ap table_asked own.1 ∙ asked)

    -- a table whose size it asks for is held
    pub size_table : (t : ℕ) → ask_of m ≡ Call (SizeOf t) → MatchOption table ⊥ (λ z. IsTable log t z.now)
    size_table t e = held_named log r.number t table (named_on (SizeOf t) e).0 (named_last (SizeOf t) e t refl) r.holds_table

    next_table : (t : ℕ) → ask_of m ≡ Call (Load (Next t)) → MatchOption table ⊥ (λ z. IsTable log t z.now)
    next_table t e = held_named log r.number t table (named_on (Load (Next t)) e).0 (named_last (Load (Next t)) e t refl) r.holds_table

    -- the table of a slot has the slot
    has_slot : (t x : ℕ) → x < (Wide log).size t → (o : Option (Bor Sheet)) → MatchOption o ⊥ (λ z. IsTable log t z.now)
        → MatchOption o ⊥ (λ z. IsTable log t z.now × (x < length z.now.slots))
    has_slot t x low None h = h
    has_slot t x low (Some z) h = (h, subst (λ n. x < n) ((sizes (steps_of log) t h.0 h.1).0 ∙ ap (λ (y : Sheet). length y.slots) h.2) low)

    -- a slot that is loaded or exchanged is one of the table that is held
    slot_by : (ask : Ask) → ask_of m ≡ Call ask → (t x : ℕ) → (ask ≡ Load (Slot t x))
        ⊎ ((old : ℕ) × (new : ℕ) × (ask ≡ Rattle.papaya_call.specs.declared.ask.Ask.TheVariants.Exchange (Slot t x) old new)) → IsHeldAt (Slot t x) log table
    slot_by ask e t x is =
        let on = slot_named (Wide log) Coded (hashed log r.lawful) (exchanges_of begun) r.since may k ask (named_on ask e) t x is in
        let asked : table_asked ask ≡ Some t = ⊎_elim (λ h. ap table_asked h) (λ h. ap table_asked h.2) is in
        has_slot t x on.1 table (held_named log r.number t table on.0.0 (named_last ask e t asked) r.holds_table)

    pub slot_table : (t x : ℕ) → (ask_of m ≡ Call (Load (Slot t x)))
        ⊎ ((old : ℕ) × (new : ℕ) × (ask_of m ≡ Call (Rattle.papaya_call.specs.declared.ask.Ask.TheVariants.Exchange (Slot t x) old new)))
        → IsHeldAt (Slot t x) log table
    slot_table t x (inl e) = slot_by (Load (Slot t x)) e t x (inl refl)
    slot_table t x (inr (old, new, e)) = slot_by (Rattle.papaya_call.specs.declared.ask.Ask.TheVariants.Exchange (Slot t x) old new) e t x (inr (old, new, refl))

    -- and so is one whose hint is loaded or written
    hint_by : (ask : Ask) → ask_of m ≡ Call ask → (t x : ℕ) → (ask ≡ LoadHint t x) ⊎ ((hint : ℕ) × (ask ≡ WriteHint t x hint)) → IsHeldAt (Slot t x) log table
    hint_by ask e t x is =
        let on = hint_named (Wide log) Coded (hashed log r.lawful) (exchanges_of begun) r.since may k ask (named_on ask e) t x is in
        let asked : table_asked ask ≡ Some t = ⊎_elim (λ h. ap table_asked h) (λ h. ap table_asked h.1) is in
        has_slot t x on.1 table (held_named log r.number t table on.0.0 (named_last ask e t asked) r.holds_table)

    pub hint_table : (t x : ℕ) → (ask_of m ≡ Call (LoadHint t x)) ⊎ ((hint : ℕ) × (ask_of m ≡ Call (WriteHint t x hint))) → IsHeldAt (Slot t x) log table
    hint_table t x (inl e) = hint_by (LoadHint t x) e t x (inl refl)
    hint_table t x (inr (hint, e)) = hint_by (WriteHint t x hint) e t x (inr (hint, refl))

    -- and a hint that is written may be the slot's
    pub hint_may : (t x n : ℕ) → ask_of m ≡ Call (WriteHint t x n) → IsSlotHint eq hash b t x n log
    hint_may t x n e =
        let wide = machine_may_hint (Wide log) Coded (exchanges_of begun) r.since k m.call (call_loaded last made) r.relies.call t x n
        (call_asks m (WriteHint t x n) e).1 in
        let here : IsHint (Wide log) Coded (state_of log) t x n = subst (λ (es : List _). IsHint (Wide log) Coded (run es start) t x n) r.is wide in
        record {
          lawful = r.lawful;
          is = hint_without (setting_of eq (hash b.hasher) b.mode b.limit log) (coding_of (hash b.hasher)) matches by
              ((state_of log).slot t x) n here;
        }

    -- the place of a load is one that calls load
    pub load_table : (at : At) → ask_of m ≡ Call (Load at)
        → Rattle.papaya_call_law.specs.Followed.MayAsk m.call.task (calls.kind_of_ask m.call) (Load at) → IsHeldAt at log table
    load_table Root e asks = tt
    load_table (Next t) e asks = next_table t e
    load_table (Slot t x) e asks = slot_table t x (inl e)
    load_table (Aborted t) e asks = asks
    load_table (Done t c) e asks = asks
    load_table Made_word e asks = tt

  -- A call received an answer about the words after this log, with which the log grew to the other.
  module _ (v before log : List (Event K V S)) (lb : IsLawfulLog eq hash b before) (l : IsLawfulLog eq hash b log) (pre : IsPrefix v before)
      (more : IsPrefix before log) (m : Machine) (table : Option (Bor Sheet)) (last kept : Option (Stored K V)) (made : List (Stored K V))
      (taken put : Option (Stored K V)) (fresh : Option (Where Sheet × Pen)) (r : Calling v m table last kept made taken put fresh) (ask : Ask)
      (asks : ask_of m ≡ Call ask) (answer : Answer) where
    abbrev own : (m.phase ≡ phases.Calling) × (calls.ask_of m.call ≡ ask)
    own = call_asks m ask asks

    abbrev pub Tells : (last' : Option (Stored K V)) → List (Stored K V) → Type 0
    Tells last' made' = IsTrueOf (Wide log) Coded k (state_of before) (kind_of_ask m) (call_loaded last made) ask answer (exchanges_of more.0)
        (call_loaded last' made')

    module _ (last' : Option (Stored K V)) (made' : List (Stored K V)) (tells : Tells last' made') where
      -- it relies again on facts that hold
      on : Relying log (after m (answers.Call answer)) (loaded_with last' kept made')
      on =
          let mid = relying_later eq input build write finish classes respects b matches by form k (exchanges_of begun) v r.lawful m
          (loaded_with last kept made) (relies_of v m table last kept made taken put fresh r) before lb pre in
          relying_told eq input build write finish classes respects b matches by form k (exchanges_of begun) before lb m (loaded_with last kept made)
          mid log l more (answers.Call answer) (λ e. subst (λ (z : Phase). HasWords (Wide log) (link_in z)) (sym own.0) tt) (loaded_with last' kept made')
          (own_told m own.0 answer (Wide log) Coded k (state_of before) (loaded_with last kept made) (exchanges_of more.0) (call_loaded last' made')
          ask own.1 tells)

      changes : change_in (after m (answers.Call answer)).call.state ≡ change_after (kind_of_ask m) ask answer (change_in m.call.state)
      changes =
          own_changes m own.0 answer (Wide log) Coded (hashed log l) k r.relies.call.hash (state_of before) (loaded_with last kept made)
          (exchanges_of more.0) (call_loaded last' made') ask own.1 tells

      -- and is under way with the values that it then holds
      pub answered : (table' : Option (Bor Sheet)) (taken' put' : Option (Stored K V)) (fresh' : Option (Where Sheet × Pen))
          → MatchOption table' (told_table ask answer r.number ≡ 0) (λ t. IsTable log (told_table ask answer r.number) t.now)
          → IsPlaced b (Some name) (pair_named last') → ((q : Stored K V) → IsOneOf made' q → IsPlaced b (Some name) (pair_named (Some q)))
          → IsPlaced b (Some name) (pair_named taken')
          → ((change : Option ℕ × Option ℕ) → change_after (kind_of_ask m) ask answer (change_in m.call.state) ≡ Some change
          → HasChanged eq k begun log taken' put' change)
          → ((n : ℕ) → IsBringing (ask_of (after m (answers.Call answer))) n → IsFresh b name log n fresh')
          → Calling log (after m (answers.Call answer)) table' last' kept made' taken' put' fresh'
      answered table' taken' put' fresh' holds placed placed' placed'' changed brings = record {
        lawful = l;
        seen = prefix_trans begun v log r.seen (prefix_trans v before log pre more);
        since = on.since;
        is = on.is;
        relies = on.relies;
        number = told_table ask answer r.number;
        at_table = λ still. subst (λ (a : Ask). IsAtTable (told_table a answer r.number) (after m (answers.Call answer)).call.state) own.1
            (own_at m own.0 answer r.number (r.at_table own.0) still);
        holds_table = holds;
        last_placed = placed;
        kept_placed = r.kept_placed;
        made_placed = placed';
        taken_placed = placed'';
        changed = λ change e. changed change (sym changes ∙ e);
        brings = brings;
        words = λ behind n chunks e. absurd (own_links m own.0 answer behind n chunks e);
        counts = own_counts m own.0 answer (tables_of log);
      }

  module _ (log log' : List (Event K V S)) (pre : IsPrefix log log') (l' : IsLawfulLog eq hash b log') (m : Machine) (table : Option (Bor Sheet))
      (last kept : Option (Stored K V)) (made : List (Stored K V)) (taken put : Option (Stored K V)) (fresh : Option (Where Sheet × Pen))
      (r : Calling log m table last kept made taken put fresh) where
    -- An answer that is true of the log's words, with which nothing is exchanged and nothing was
    -- changed before.
    pub record IsQuiet (ask : Ask) (answer : Answer) (last' : Option (Stored K V)) (made' : List (Stored K V)) (fresh' : Option (Where Sheet × Pen)) :
        Type 0 where
      pub told : IsTrueOf (Wide log') Coded k (state_of log') (kind_of_ask m) (call_loaded last made) ask answer [] (call_loaded last' made')
      pub same : change_after (kind_of_ask m) ask answer (change_in m.call.state) ≡ change_in m.call.state
      pub busy : IsCounting ask → ⊥
      pub brings : (n : ℕ) → IsBringing (ask_of (after m (answers.Call answer))) n → IsFresh b name log' n fresh'

    -- no table comes after an ask for another thing
    pub barren : (ask : Ask) → ask_of m ≡ Call ask → IsBarren ask → (answer : Answer) (fresh' : Option (Where Sheet × Pen)) (n : ℕ)
        → IsBringing (ask_of (after m (answers.Call answer))) n → IsFresh b name log' n fresh'
    barren ask asks none answer fresh' n brings = let own = call_asks m ask asks in absurd (own_barren m own.0 answer ask own.1 none n brings)

    pub quiet : (ask : Ask) → ask_of m ≡ Call ask
        → (answer : Answer) (last' : Option (Stored K V)) (made' : List (Stored K V)) (table' : Option (Bor Sheet))
        (fresh' : Option (Where Sheet × Pen)) → IsQuiet ask answer last' made' fresh'
        → MatchOption table' (told_table ask answer r.number ≡ 0) (λ t. IsTable log' (told_table ask answer r.number) t.now)
        → IsPlaced b (Some name) (pair_named last') → ((q : Stored K V) → IsOneOf made' q → IsPlaced b (Some name) (pair_named (Some q)))
        → Calling log' (after m (answers.Call answer)) table' last' kept made' taken put fresh'
    quiet ask asks answer last' made' table' fresh' q holds placed placed' =
        answered log log' log' l' l' pre ([], append-nil log') m table last kept made taken put fresh r ask asks answer last' made' q.told table'
        taken put fresh' holds placed placed' r.taken_placed
        (λ change e. absurd (q.busy (subst IsCounting (call_asks m ask asks).1 (counts_after m.call change (sym q.same ∙ e))))) q.brings

    -- the same table is held
    pub still : MatchOption table (r.number ≡ 0) (λ t. IsTable log' r.number t.now)
    still = held_later log log' pre r.number table r.holds_table

    -- a place was loaded
    pub loads : (at : At) (word : ℕ) (table' : Option (Bor Sheet)) (last' : Option (Stored K V)) → ask_of m ≡ Call (Load at)
        → IsLoaded eq hash b name at word log' table table' last last'
        → Calling log' (after m (answers.Call (Word_read word))) table' last' kept made taken put fresh
    loads Root word table' last' asks (as_loaded, is, table_is, same) =
        let w : word_of (Wide log') Coded (state_of log') Root ≡ word = word_wide eq input build write finish classes respects b matches query lawful
        k (exchanges_of begun) log' log' Root ∙ is.is in
        quiet (Load Root) asks (Word_read word) last' made table' fresh
        (record {
          told = (ap Word_read (sym w), refl, ap (λ (z : Option (Stored K V)). call_loaded z made) same);
          same = refl;
          busy = λ z.
              z;
          brings = barren (Load Root) asks tt (Word_read word) fresh;
        })
        (subst (λ (z : Option (Bor Sheet)). MatchOption z ((if word == 0 then r.number else word) ≡ 0)
        (λ t. IsTable log' (if word == 0 then r.number else word) t.now)) (sym table_is)
        (held_loaded log' name r.number word table as_loaded still is.names))
        (subst (λ (z : Option (Stored K V)). IsPlaced b (Some name) (pair_named z)) (sym same) r.last_placed) r.made_placed
    loads (Next t) word table' last' asks (as_loaded, is, table_is, same) =
        let w : word_of (Wide log') Coded (state_of log') (Next t) ≡ word = word_wide eq input build write finish classes respects b matches query
        lawful k (exchanges_of begun) log' log' (Next t) ∙ is.is in
        quiet (Load (Next t)) asks (Word_read word) last' made table' fresh
        (record {
          told = (ap Word_read (sym w), refl, ap (λ (z : Option (Stored K V)). call_loaded z made) same);
          same = refl;
          busy = λ z.
              z;
          brings = barren (Load (Next t)) asks tt (Word_read word) fresh;
        })
        (subst (λ (z : Option (Bor Sheet)). MatchOption z ((if word == 0 then r.number else word) ≡ 0)
        (λ t. IsTable log' (if word == 0 then r.number else word) t.now)) (sym table_is)
        (held_loaded log' name r.number word table as_loaded still is.names))
        (subst (λ (z : Option (Stored K V)). IsPlaced b (Some name) (pair_named z)) (sym same) r.last_placed) r.made_placed
    loads (Slot t x) word table' last' asks (pair, is, same, table_is) =
        let w : word_of (Wide log') Coded (state_of log') (Slot t x) ≡ word = word_wide eq input build write finish classes respects b matches query
        lawful k (exchanges_of begun) log' log' (Slot t x) ∙ is.is in
        let loaded : call_loaded last' made ≡ told_of (state_of log') (Slot t x) (call_loaded last made) = ap
        (λ (z : Option (Stored K V)). call_loaded z made) (same ∙ ap (λ (z : Option (Stored K V)). or_last z last) (sym is.names)) in
        quiet (Load (Slot t x)) asks (Word_read word) last' made table' fresh
        (record { told = (ap Word_read (sym w), refl, loaded); same = refl; busy = λ z. z; brings = barren (Load (Slot t x)) asks tt (Word_read word) fresh })
        (subst (λ (z : Option (Bor Sheet)). MatchOption z (r.number ≡ 0) (λ t. IsTable log' r.number t.now)) (sym table_is) still)
        (subst (λ (z : Option (Stored K V)). IsPlaced b (Some name) (pair_named z)) (sym same) (placed_last b name pair last is.placed r.last_placed))
        r.made_placed
    loads (Aborted t) word table' last' asks h = absurd h
    loads (Done t c) word table' last' asks h = absurd h
    loads Made_word word table' last' asks (is, table_is, same) =
        let w : word_of (Wide log') Coded (state_of log') Made_word ≡ word = word_wide eq input build write finish classes respects b matches query
        lawful k (exchanges_of begun) log' log' Made_word ∙ is.is in
        quiet (Load Made_word) asks (Word_read word) last' made table' fresh
        (record {
          told = (ap Word_read (sym w), refl, ap (λ (z : Option (Stored K V)). call_loaded z made) same);
          same = refl;
          busy = λ z.
              z;
          brings = barren (Load Made_word) asks tt (Word_read word) fresh;
        })
        (subst (λ (z : Option (Bor Sheet)). MatchOption z (r.number ≡ 0) (λ t. IsTable log' r.number t.now)) (sym table_is) still)
        (subst (λ (z : Option (Stored K V)). IsPlaced b (Some name) (pair_named z)) (sym same) r.last_placed) r.made_placed

    -- a hint was loaded
    pub hinted : (t x n : ℕ) → ask_of m ≡ Call (LoadHint t x) → IsSlotHint eq hash b t x n log'
        → Calling log' (after m (answers.Call (Word_read n))) table last kept made taken put fresh
    hinted t x n asks is =
        let hint : IsHint (Wide log') Coded (state_of log') t x n = hint_with (setting_of eq (hash b.hasher) b.mode b.limit log')
        (coding_of (hash b.hasher)) matches by ((state_of log').slot t x) n is.is in
        quiet (LoadHint t x) asks (Word_read n) last made table fresh
        (record { told = ((n, hint, refl), (refl, refl)); same = refl; busy = λ z. z; brings = barren (LoadHint t x) asks tt (Word_read n) fresh })
        still r.last_placed r.made_placed

  module _ (log : List (Event K V S)) (m : Machine) (table : Option (Bor Sheet)) (last kept : Option (Stored K V)) (made : List (Stored K V))
      (taken put : Option (Stored K V)) (fresh : Option (Where Sheet × Pen)) (r : Calling log m table last kept made taken put fresh) where
    abbrev same_log : IsPrefix log log
    same_log = ([], append-nil log)

    -- the size of the table was received
    pub sized : (t : ℕ) (lent : Bor Sheet) → table ≡ Some lent → (slots limit : ℕ) → slots ≡ length lent.now.slots → limit ≡ lent.now.limit
        → ask_of m ≡ Call (SizeOf t) → Calling log (after m (answers.Call (Size slots limit))) table last kept made taken put fresh
    sized t lent has slots limit slots_is limit_is asks =
        let came : IsTable log t lent.now = subst (λ (o : Option (Bor Sheet)). MatchOption o ⊥ (λ z. IsTable log t z.now)) has
        (size_table log m table last kept made taken put fresh r t asks) in
        let all = sizes (steps_of log) t came.0 came.1 in
        let many : slots ≡ (Wide log).size t = slots_is ∙ sym (all.0 ∙ ap (λ (z : Sheet). length z.slots) came.2) in
        let places : limit + 1 ≡ (Wide log).places t = ap (λ n. n + 1) limit_is ∙ sym (all.1 ∙ ap (λ (z : Sheet). z.limit + 1) came.2) in
        quiet log log same_log r.lawful m table last kept made taken put fresh r (SizeOf t) asks (Size slots limit) last made table fresh
        (record {
          told = ((limit, places, ap (λ n. Size n limit) many), (refl, refl));
          same = refl;
          busy = λ z.
              z;
          brings = barren log log same_log r.lawful m table last kept made taken put fresh r (SizeOf t) asks tt (Size slots limit) fresh;
        })
        r.holds_table r.last_placed r.made_placed

    -- the pair last passed to the machine was compared
    pub compared : (n : ℕ) (same : Bool) → ((p : Stored K V) → last ≡ Some p → same ≡ (Wide log).same k ((Wide log).key p))
        → ask_of m ≡ Call (SameKey n) → Calling log (after m (answers.Call (Yes same))) table last kept made taken put fresh
    compared n same is asks =
        quiet log log same_log r.lawful m table last kept made taken put fresh r (SameKey n) asks (Yes same) last made table fresh
        (record {
          told = (λ p e f. ap Yes (is p e), (refl, refl));
          same = refl;
          busy = λ z.
              z;
          brings = barren log log same_log r.lawful m table last kept made taken put fresh r (SameKey n) asks tt (Yes same) fresh;
        }) r.holds_table
        r.last_placed r.made_placed

    -- the change was counted
    pub counted : (by : _) → ask_of m ≡ Call (AddToShard by) → Calling log (after m (answers.Call Ok_done)) table last kept made taken put fresh
    counted by asks =
        answered log log log r.lawful r.lawful same_log same_log m table last kept made taken put fresh r (AddToShard by) asks Ok_done last made
        (refl, (refl, refl)) table taken put fresh r.holds_table r.last_placed r.made_placed r.taken_placed r.changed
        (barren log log same_log r.lawful m table last kept made taken put fresh r (AddToShard by) asks tt Ok_done fresh)

    -- and its hint was written
    pub noted : (t x n : ℕ) → ask_of m ≡ Call (WriteHint t x n) → Calling log (after m (answers.Call Ok_done)) table last kept made taken put fresh
    noted t x n asks =
        answered log log log r.lawful r.lawful same_log same_log m table last kept made taken put fresh r (WriteHint t x n) asks Ok_done last made
        (refl, (refl, refl)) table taken put fresh r.holds_table r.last_placed r.made_placed r.taken_placed r.changed
        (barren log log same_log r.lawful m table last kept made taken put fresh r (WriteHint t x n) asks tt Ok_done fresh)
