-- How much is left to a call, in a table that it has reached, after each answer.
use Rattle.std.proofs.Common.{◌≡◌, ◌⊎◌, inl, inr, ⊎_elim, ℕ, ◌+◌, ◌*◌, ◌-◌, ◌^◌, ◌<◌, ◌≤◌, ◌==◌}
use Rattle.std.proofs.Common.{nat_lt, ltb-true, Bool, true, false, Option, Some, None, refl, sym}
use Rattle.std.proofs.Common.{ap, ◌∙◌, subst, arith}
use Rattle.std.proofs.lemmas.Bool.{cond_both}
use Rattle.papaya_words.specs.Word.{kind_of, pair_of, may_hold}
use Rattle.papaya_words.specs.declared.refused.Refused.{Refused}
use Rattle.papaya_words.specs.declared.resize_mode.ResizeMode.{ResizeMode}
use Rattle.papaya_words.specs.declared.resize_mode.ResizeMode.TheVariants.{Incremental, Blocking}
use Rattle.papaya_words.specs.declared.word.Kind.{Kind}
use Rattle.papaya_words.specs.declared.word.Kind.TheVariants as word_kinds
use Rattle.papaya_call.specs.declared.ask.At.{At}
use Rattle.papaya_call.specs.declared.ask.At.TheVariants.{Root, Next, Slot, Made as Made_word}
use Rattle.papaya_call.specs.declared.ask.Ask.{Ask}
use Rattle.papaya_call.specs.declared.ask.Ask.TheVariants.{Load}
use Rattle.papaya_call.specs.declared.ask.Answer.{Answer}
use Rattle.papaya_call.specs.declared.ask.Answer.TheVariants.{Exchanged, Found as Found_instead, Size, Made as Made_number, Refused as Was_refused}
use Rattle.papaya_call.specs.declared.ask.OpKind.{OpKind}
use Rattle.papaya_call.specs.declared.ask.OpKind.TheVariants as op_kinds
use Rattle.papaya_call.specs.declared.call.Reply.TheVariants.{Absent, Replaced}
use Rattle.papaya_call.specs.declared.call.Task.{Task}
use Rattle.papaya_call.specs.declared.call.Task.TheVariants.{Get, Insert, RemoveIf, Compute}
use Rattle.papaya_call.specs.declared.compute.Choice.{Choice}
use Rattle.papaya_call.specs.declared.compute.Choice.TheVariants as choices
use Rattle.papaya_call.specs.declared.compute.Gap.{Gap}
use Rattle.papaya_call.specs.declared.compute.Gap.TheVariants as gaps
use Rattle.papaya_call.specs.declared.compute.Purpose.{Purpose}
use Rattle.papaya_call.specs.declared.compute.Purpose.TheVariants as purposes
use Rattle.papaya_call.specs.declared.compute.Put.{Put}
use Rattle.papaya_call.specs.declared.compute.Remembered.{Remembered}
use Rattle.papaya_call.specs.declared.remove.Removal.{Removal}
use Rattle.papaya_call.specs.declared.search.Place.{Place}
use Rattle.papaya_call.specs.declared.search.Search.TheVariants.{Sizing, Looking, Reading, Comparing}
use Rattle.papaya_call.specs.declared.search.ProbeStep.{ProbeStep}
use Rattle.papaya_call.specs.declared.search.ProbeStep.TheVariants as seen
use Rattle.papaya_call.specs.declared.made.Made.{Made}
use Rattle.papaya_call.specs.declared.made.Number.{Number}
use Rattle.papaya_call.specs.declared.made.Number.TheVariants.{Wanted, Free, Taken}
use Rattle.papaya_call.specs.declared.write.Write.{Write}
use Rattle.papaya_call.specs.declared.machine.Machine.{Machine}
use Rattle.papaya_call.specs.declared.machine.State.{State}
use Rattle.papaya_call.specs.declared.machine.State.TheVariants.{AtRoot, Making, Opening, Searching}
use Rattle.papaya_call.specs.declared.machine.State.TheVariants.{Writing, Offering, Showing}
use Rattle.papaya_call.specs.declared.machine.State.TheVariants.{Pairing, Putting, Burying}
use Rattle.papaya_call.specs.declared.machine.State.TheVariants.{Counting, Noting, Uncounting}
use Rattle.papaya_call.specs.declared.machine.State.TheVariants.{Leaving, Growing, Ended}
use Rattle.papaya_call.specs.Search.{IsSize, next_place, go_on, look_at, match_at, look, at_yes as search_compared, hinted}
use Rattle.papaya_call.specs.Compute.{fills, in_place_of, lacks, offered, chosen, provides, recalled, recalls}
use Rattle.papaya_call.specs.Made.{answered, serves_at}
use Rattle.papaya_call.specs.Machine.{after, ask_of, asks, absent, at_root, left as next_or_end, passes, replaces, removes, computes, goes_as, written, agreed}
use Rattle.papaya_call_law.proofs.Leads.{occupies_leads}
use Rattle.papaya_call_law.specs.Alone.{IsNumberRead, IsPut, IsMaking, IsSame, IsClosureAnswer, IsPrompt}
use Rattle.papaya_call_law.specs.Alone.{IsRead, left, left_in, left_to_push, left_to_number}
use Rattle.papaya_call_law.specs.Alone.{left_to_pair, left_to_serve_with, left_to_write}
use Rattle.papaya_call_law.proofs.AloneSteps.{by_saying, exchange_done}
use Rattle.papaya_call_law.proofs.Makings.{HoldsOfPairAsks, pair_holds, pairing_leads, unserved_leads, write_then, write_then_is}
use Rattle.papaya_call_law.proofs.ReliesLearn.{by_test}
use Rattle.papaya_call_alone.specs.Ahead.{IsAhead, IsAheadIn, IsGapAhead, IsPurposeAhead}
use Rattle.papaya_call_alone.specs.Current.{IsIncremental}
use Rattle.papaya_call_alone.specs.Measure.{further}
use Rattle.papaya_call_alone.specs.Prompt.{IsNumber}
use Rattle.papaya_call_alone.specs.Rank.{hops_of, left_of_search, rank, rank_in, rank_to_serve, table_of}
use Rattle.papaya_call_alone.proofs.Calm.{pairing_nearer, writing_nearer}
use Rattle.papaya_call.specs.Write.{claimed_by, served_ask, serves}

-- the outcome of a probe, with an upper bound of the steps that follow it
abbrev rank_of_seen : ProbeStep → ℕ
rank_of_seen (seen.On search) = rank 2 (further (table_of search)) (left_of_search search)
rank_of_seen (seen.Empty at) = rank 2 (further at.table) (2 ^ 68 + 16)
rank_of_seen (seen.Here at word) = rank 2 (further at.table) (2 ^ 68 + 16)
rank_of_seen (seen.Over t) = rank 2 (further t) (2 ^ 68 + 16)

-- the table of a search, by the outcome of its probe
abbrev seen_in : ProbeStep → ℕ
seen_in (seen.On search) = table_of search
seen_in (seen.Empty at) = at.table
seen_in (seen.Here at word) = at.table
seen_in (seen.Over t) = t

-- no more is left than this, in the same table
abbrev SeesIn : ℕ → ℕ → ProbeStep → Type 0
SeesIn most t s = (rank_of_seen s ≤ most) × (seen_in s ≡ t)

-- a search that continues is one place nearer its limit
go_on_sees : (at : Place) → SeesIn (rank 2 (further at.table) (2 ^ 68 + 3 * (at.limit - at.probe.len) + 16)) at.table (go_on at)
go_on_sees at =
    cond_both (nat_lt at.probe.len at.limit) (seen.On (Looking (next_place at))) (seen.Over at.table)
    (SeesIn (rank 2 (further at.table) (2 ^ 68 + 3 * (at.limit - at.probe.len) + 16)) at.table)
    (λ more. let l : at.probe.len < at.limit = ltb-true at.probe.len at.limit more in (omega arith, refl))
    (λ _. (omega arith, refl))

-- a hint makes the load of the word unnecessary, or the word is loaded next
hinted_sees : (at : Place) (hash hint : ℕ) → SeesIn (rank 2 (further at.table) (2 ^ 68 + 3 * (at.limit - at.probe.len) + 18)) at.table (hinted at hash hint)
hinted_sees at hash hint =
    cond_both (may_hold hint hash) (seen.On (Reading at)) (go_on at)
    (SeesIn (rank 2 (further at.table) (2 ^ 68 + 3 * (at.limit - at.probe.len) + 18)) at.table)
    (λ _. (omega arith, refl))
    (λ _. let f = go_on_sees at in let l = f.0 in (omega (arith, l), f.1))

-- the outcome by the word at a place
look_sees : (kind : Kind) (at : Place) (word : ℕ)
    → SeesIn (rank 2 (further at.table) (2 ^ 68 + 3 * (at.limit - at.probe.len) + 17)) at.table (look_at kind at word)
look_sees word_kinds.Empty at word = (omega arith, refl)
look_sees word_kinds.Live at word = (omega arith, refl)
look_sees word_kinds.Marked at word = (omega arith, refl)
look_sees word_kinds.Copied at word = (omega arith, refl)
look_sees word_kinds.Buried at word = let f = go_on_sees at in let l = f.0 in (omega (arith, l), f.1)
look_sees word_kinds.Closed at word = let f = go_on_sees at in let l = f.0 in (omega (arith, l), f.1)

-- a matching key ends the search
match_sees : (kind : Kind) (at : Place) (word : ℕ) → SeesIn (rank 2 (further at.table) (2 ^ 68 + 16)) at.table (match_at kind at word)
match_sees word_kinds.Empty at word = (omega arith, refl)
match_sees word_kinds.Live at word = (omega arith, refl)
match_sees word_kinds.Marked at word = (omega arith, refl)
match_sees word_kinds.Copied at word = (omega arith, refl)
match_sees word_kinds.Buried at word = (omega arith, refl)
match_sees word_kinds.Closed at word = (omega arith, refl)

-- and so does one that was compared
compared_sees : (at : Place) (word : ℕ) (same : Bool)
    → SeesIn (rank 2 (further at.table) (2 ^ 68 + 3 * (at.limit - at.probe.len) + 16)) at.table (search_compared (Comparing at word) same)
compared_sees at word true = let f = match_sees (kind_of word) at word in let l = f.0 in (omega (arith, l), f.1)
compared_sees at word false = go_on_sees at

-- few steps are left to a pair, and to a write
number_most : (number : Number) → left_to_number number ≤ 2
number_most Wanted = omega arith
number_most (Free count) = omega arith
number_most Taken = omega arith

log_most : (logged : Bool) → left_to_push logged ≤ 1
log_most true = omega arith
log_most false = omega arith

pub pair_most : (made : Made) (old : ℕ) → left_to_pair made old ≤ 5
pair_most made old =
    let a = number_most made.number in
    let b = log_most made.valued in
    let c = cond_both (old == 0) (left_to_push made.keyed) 0 (λ n. n ≤ 1) (λ _. log_most made.keyed) (λ _. omega arith) in
    omega (arith, a, b, c)

pub write_most : (made : Made) (write : Write) → left_to_write made write ≤ 8
write_most made write = by_served (serves made write)
  where
    by_served : (served : Option ℕ) → left_to_serve_with served made write.old ≤ 8
    by_served None = omega (arith, pair_most made write.old)
    by_served (Some n) = omega arith

-- the result of the load that is asked for is a number
abbrev pub IsNumberAsked : (At → ℕ) → Ask → Type 0
IsNumberAsked words (Load at) = IsNumber words at
IsNumberAsked words _ = Unit {0}

-- a first table is being opened
abbrev pub IsOpening : State → Type 0
IsOpening (Opening t) = Unit {0}
IsOpening _ = ⊥

module _ (made : Made) (how : ResizeMode) (words : At → ℕ) where
  -- no more is left than this, and the call is at the root or behind it
  abbrev pub Leads : ℕ → State → Type 0
  Leads most s = (rank_in made s ≤ most) × IsAheadIn how words s

  -- the same, for a greater bound
  more : (a b : ℕ) (s : State) → a ≤ b → Leads a s → Leads b s
  more a b s le f = let l = f.0 in (omega (arith, le, l), f.1)

  -- a pair with the key is replaced
  replaces_leads : (kind : Kind) (at : Place) (word : ℕ) → IsAhead how words at.table → Leads (rank 2 (further at.table) (2 ^ 68 + 3)) (replaces kind at word)
  replaces_leads word_kinds.Empty at word h = (omega arith, h)
  replaces_leads word_kinds.Live at word h = (omega (arith, write_most made (record { place = at; old = word })), tt)
  replaces_leads word_kinds.Marked at word h = (omega arith, h)
  replaces_leads word_kinds.Copied at word h = (omega arith, h)
  replaces_leads word_kinds.Buried at word h = (omega arith, h)
  replaces_leads word_kinds.Closed at word h = (omega arith, h)

  -- or removed
  removes_leads : (kind : Kind) (at : Place) (word : ℕ) → IsAhead how words at.table → Leads (rank 2 (further at.table) (2 ^ 68 + 3)) (removes kind at word)
  removes_leads word_kinds.Empty at word h = (omega arith, h)
  removes_leads word_kinds.Live at word h = (omega arith, tt)
  removes_leads word_kinds.Marked at word h = (omega arith, h)
  removes_leads word_kinds.Copied at word h = (omega arith, h)
  removes_leads word_kinds.Buried at word h = (omega arith, h)
  removes_leads word_kinds.Closed at word h = (omega arith, h)

  -- the remembered result for a pair is executed, or the closure is called with the pair
  recalls_leads : (choice : Option Choice) (at : Place) (word n : ℕ) → Leads (rank 2 0 0) (recalls choice at word n)
  recalls_leads None at word n = (omega arith, tt)
  recalls_leads (Some (choices.Replace old new)) at word n =
      let write : Write = record { place = at; old = word } in
      let put : Put = record { write = write; pair = new.pair } in
      cond_both (old == n) (recalled new at word) (Showing (record { place = at; word = word })) (Leads (rank 2 0 0))
      (λ _. cond_both (serves_at new at.table at.probe.i) (Putting put) (Pairing (purposes.Again write)) (Leads (rank 2 0 0)) (λ _. (omega arith, tt))
      (λ _. (omega (arith, pair_most made word), tt)))
      (λ _. (omega arith, tt))
  recalls_leads (Some (choices.Remove old)) at word n =
      let removal : Removal = record { place = at; word = word } in
      cond_both (old == n) (Burying removal) (Showing removal) (Leads (rank 2 0 0)) (λ _. (omega arith, tt)) (λ _. (omega arith, tt))

  -- or a closure is called with it
  computes_leads : (kind : Kind) (held : Remembered) (at : Place) (word : ℕ) → IsAhead how words at.table
      → Leads (rank 2 (further at.table) (2 ^ 68 + 3)) (computes kind held at word)
  computes_leads word_kinds.Empty held at word h = (omega arith, h)
  computes_leads word_kinds.Live held at word h = more (rank 2 0 0) _ (recalls held.choice at word (pair_of word)) (omega arith)
      (recalls_leads held.choice at word (pair_of word))
  computes_leads word_kinds.Marked held at word h = (omega arith, h)
  computes_leads word_kinds.Copied held at word h = (omega arith, h)
  computes_leads word_kinds.Buried held at word h = (omega arith, h)
  computes_leads word_kinds.Closed held at word h = (omega arith, h)

  -- a pair that was made is put where its key is absent
  fills_leads : (gap : Gap) (n : ℕ) → IsGapAhead how words gap → Leads (rank 2 (hops_of gap) (2 ^ 68 + 3)) (fills gap n)
  fills_leads gaps.NoRoot n h = (omega arith, tt)
  fills_leads (gaps.At at) n h = (omega arith, tt)
  fills_leads (gaps.After t) n h = (omega arith, h)

  -- the key is absent
  lacks_leads : (fill : Option ℕ) (gap : Gap) → IsGapAhead how words gap → Leads (rank 2 (hops_of gap) (2 ^ 68 + 10)) (lacks fill gap)
  lacks_leads None gap h = (omega arith, h)
  lacks_leads (Some n) gap h = more (rank 2 (hops_of gap) (2 ^ 68 + 3)) _ (fills gap n) (omega arith) (fills_leads gap n h)

  absent_leads : (task : Task) (fill : Option ℕ) (gap : Gap) → IsGapAhead how words gap → Leads (rank 2 (hops_of gap) (2 ^ 68 + 10)) (absent task fill gap)
  absent_leads Get fill gap h = (omega arith, tt)
  absent_leads (Insert replace) fill gap h = (omega arith, tt)
  absent_leads RemoveIf fill gap h = (omega arith, tt)
  absent_leads Compute fill gap h = lacks_leads fill gap h

module _ (made : Made) (words : At → ℕ) where
  -- a table was passed
  passes_leads : (how : ResizeMode) (task : Task) (fill : Option ℕ) (t : ℕ) → IsAhead how words t
      → Leads made how words (rank 2 (further t) (2 ^ 68 + 16)) (passes task how fill t)
  passes_leads (Incremental chunk) task fill t h = (omega arith, (tt, h))
  passes_leads Blocking task fill t h = more made Blocking words (rank 2 (further t) (2 ^ 68 + 10)) _ (absent task fill (gaps.After t)) (omega arith)
      (absent_leads made Blocking words task fill (gaps.After t) h)

module _ (made : Made) (how : ResizeMode) (words : At → ℕ) where
  -- the state after a search has no more left than the search
  goes_leads : (task : Task) (held : Remembered) (s : ProbeStep) → IsAhead how words (seen_in s) → Leads made how words (rank_of_seen s) (goes_as task how held s)
  goes_leads task held (seen.On search) h = (omega arith, h)
  goes_leads Get held (seen.Here at word) h = (omega arith, tt)
  goes_leads (Insert false) held (seen.Here at word) h = occupies_leads (Leads made how words (rank_of_seen (seen.Here at word))) (kind_of word) at
      word (omega arith, tt) (omega arith, h)
  goes_leads (Insert true) held (seen.Here at word) h = more made how words (rank 2 (further at.table) (2 ^ 68 + 3)) _
      (replaces (kind_of word) at word) (omega arith) (replaces_leads made how words (kind_of word) at word h)
  goes_leads RemoveIf held (seen.Here at word) h = more made how words (rank 2 (further at.table) (2 ^ 68 + 3)) _ (removes (kind_of word) at word)
      (omega arith) (removes_leads made how words (kind_of word) at word h)
  goes_leads Compute held (seen.Here at word) h = more made how words (rank 2 (further at.table) (2 ^ 68 + 3)) _
      (computes (kind_of word) held at word) (omega arith) (computes_leads made how words (kind_of word) held at word h)
  goes_leads Get held (seen.Empty at) h = (omega arith, tt)
  goes_leads (Insert replace) held (seen.Empty at) h = (omega (arith, write_most made (record { place = at; old = 0 })), tt)
  goes_leads RemoveIf held (seen.Empty at) h = (omega arith, tt)
  goes_leads Compute held (seen.Empty at) h = more made how words (rank 2 (further at.table) (2 ^ 68 + 10)) _ (lacks held.fill (gaps.At at))
      (omega arith) (lacks_leads made how words held.fill (gaps.At at) h)
  goes_leads Get held (seen.Over t) h = passes_leads made words how Get held.fill t h
  goes_leads (Insert replace) held (seen.Over t) h = (omega arith, h)
  goes_leads RemoveIf held (seen.Over t) h = passes_leads made words how RemoveIf held.fill t h
  goes_leads Compute held (seen.Over t) h = passes_leads made words how Compute held.fill t h

  -- a call begins at the root
  at_root_ahead : (how : ResizeMode) (t : ℕ) → words Root ≡ t → IsAhead how words t
  at_root_ahead (Incremental chunk) t is = omega (arith, is)
  at_root_ahead Blocking t is = is

  -- a call begins at the root
  pub root_leads : (task : Task) (fill : Option ℕ) (word : ℕ) → words Root ≡ word → Leads made how words (rank 3 0 0 - 1) (at_root task fill word)
  root_leads Get fill word is = cond_both (word == 0) (Ended Absent) (Searching (Sizing word)) (Leads made how words (rank 3 0 0 - 1))
      (λ _. (omega arith, tt)) (λ _. (omega arith, at_root_ahead how word is))
  root_leads (Insert replace) fill word is = cond_both (word == 0) Making (Searching (Sizing word)) (Leads made how words (rank 3 0 0 - 1))
      (λ _. (omega arith, tt)) (λ _. (omega arith, at_root_ahead how word is))
  root_leads RemoveIf fill word is = cond_both (word == 0) (Ended Absent) (Searching (Sizing word)) (Leads made how words (rank 3 0 0 - 1))
      (λ _. (omega arith, tt)) (λ _. (omega arith, at_root_ahead how word is))
  root_leads Compute fill word is =
      cond_both (word == 0) (lacks fill gaps.NoRoot) (Searching (Sizing word)) (Leads made how words (rank 3 0 0 - 1))
      (λ _. more made how words (rank 2 (2 ^ 32) (2 ^ 68 + 10)) _ (lacks fill gaps.NoRoot) (omega arith)
      (lacks_leads made how words fill gaps.NoRoot tt)) (λ _. (omega arith, at_root_ahead how word is))

  -- the closure of a removal returned
  agreed_leads : (removal : Removal) (agrees : Bool) → Leads made how words (rank 1 0 8) (agreed removal agrees)
  agreed_leads removal true = (omega arith, tt)
  agreed_leads removal false = (omega arith, tt)

  -- a pair was written
  written_leads : (write : Write) (n : ℕ) → Leads made how words (rank 1 0 0) (written write n)
  written_leads write n = cond_both (write.old == 0) (Counting (claimed_by write n)) (Ended (Replaced (pair_of write.old) n))
      (Leads made how words (rank 1 0 0)) (λ _. (omega arith, tt)) (λ _. (omega arith, tt))

  -- the closure of a compute returned
  offered_leads : (gap : Gap) (kind : OpKind) → IsGapAhead how words gap
      → Leads (answered kind made) how words (rank 2 (hops_of gap) (2 ^ 68 + 9)) (offered gap kind)
  offered_leads gap op_kinds.Insert h = (omega (arith, pair_most (answered op_kinds.Insert made) 0), h)
  offered_leads gap op_kinds.Remove h = (omega arith, tt)
  offered_leads gap (op_kinds.Abort t) h = (omega arith, tt)

  chosen_leads : (removal : Removal) (kind : OpKind) → Leads (answered kind made) how words (rank 1 0 8) (chosen removal kind)
  chosen_leads removal op_kinds.Insert = (omega (arith, pair_most (answered op_kinds.Insert made) removal.word), tt)
  chosen_leads removal op_kinds.Remove = (omega arith, tt)
  chosen_leads removal (op_kinds.Abort t) = (omega arith, tt)

-- something is left to a compute that makes its pair
some_less : (made : Made) (purpose : Purpose) → 0 < rank_to_serve made purpose
some_less made (purposes.Fill gap) = omega arith
some_less made (purposes.Replace write) = omega arith
some_less made (purposes.Again write) = omega arith

-- the pair that a compute made is used
provides_leads : (made' made : Made) (how : ResizeMode) (words : At → ℕ) (purpose : Purpose) (n : ℕ) → IsPurposeAhead how words purpose
    → (rank_in made' (provides purpose n) < rank_to_serve made purpose) × IsAheadIn how words (provides purpose n)
provides_leads made' made how words (purposes.Fill gap) n h = let f = fills_leads made' how words gap n h in let l = f.0 in (omega (arith, l), f.1)
provides_leads made' made how words (purposes.Replace write) n h = (omega arith, tt)
provides_leads made' made how words (purposes.Again write) n h = (omega arith, tt)

module _ (words words' : At → ℕ) (m : Machine) where
  -- after this answer less is left, or a first table was opened; and the call is at the root or behind it
  abbrev pub Ends : Made → State → Answer → Type 0
  Ends made s answer =
      let m' : Machine = after (record m { made = made; state = s }) answer in
      (IsOpening s ⊎ (rank_in m'.made m'.state < rank_in made s)) × IsAheadIn m.mode words' m'.state

  -- the root stays, and so does each table ahead of it
  pub still_ahead : (how : ResizeMode) (t : ℕ) → words' Root ≡ words Root → IsAhead how words t → IsAhead how words' t
  still_ahead (Incremental chunk) t same h = omega (arith, same, h)
  still_ahead Blocking t same h = same ∙ h

  still_gap : (gap : Gap) → words' Root ≡ words Root → IsGapAhead m.mode words gap → IsGapAhead m.mode words' gap
  still_gap gaps.NoRoot same h = tt
  still_gap (gaps.At at) same h = still_ahead m.mode at.table same h
  still_gap (gaps.After t) same h = still_ahead m.mode t same h

  still_purpose : (purpose : Purpose) → words' Root ≡ words Root → IsPurposeAhead m.mode words purpose → IsPurposeAhead m.mode words' purpose
  still_purpose (purposes.Fill gap) same h = still_gap gap same h
  still_purpose (purposes.Replace write) same h = tt
  still_purpose (purposes.Again write) same h = tt

  -- the part that was to be made was made, or making it failed
  making_ends : (made : Made) (s : State) (answer : Answer) → IsMaking answer → ((n : ℕ) → Ends made s (Made_number n))
      → ((refused : Refused) → Ends made s (Was_refused refused)) → Ends made s answer
  making_ends made s answer told by_made by_refused =
      ⊎_elim
      (λ (h : (n : ℕ) × (answer ≡ Made_number n)). subst (Ends made s) (sym h.1) (by_made h.0))
      (λ (h : (refused : Refused) × (answer ≡ Was_refused refused)). subst (Ends made s) (sym h.1) (by_refused h.0))
      told

  -- a search receives the size of its table
  size_ends : (made : Made) (t : ℕ) (answer : Answer) → (slots : ℕ) × (limit : ℕ) × IsSize slots limit × (answer ≡ Size slots limit)
      → IsAhead m.mode words' t → Ends made (Searching (Sizing t)) answer
  size_ends made t answer (slots, limit, size, e) h = let few : limit < 2 ^ 32 = size.few in
      subst (Ends made (Searching (Sizing t))) (sym e) (inr (omega arith), h)

  -- if a call that makes a pair has fewer steps left, its rank is lower
  abbrev Follows : Made → State → State → Type 0
  Follows made s next = (made' : Made) → left_in made' next < left_in made s → (rank_in made' next < rank_in made s) × IsAheadIn m.mode words' next

  follows : (made : Made) (s : State) (answer : Answer) → Follows made s (after (record m { made = made; state = s }) answer).state
      → (left (after (record m { made = made; state = s }) answer) < left_in made s) → Ends made s answer
  follows made s answer f less = let h = f (after (record m { made = made; state = s }) answer).made less in (inr h.0, h.1)

  -- an insertion's pair is made, then it is written
  writing_ends : (made : Made) (write : Write) (answer : Answer) → IsNumberRead words made.number → IsRead words (Writing write)
      → IsPrompt m.task words (asks made m.hash (Writing write)) answer words' → Ends made (Writing write) answer
  writing_ends made write answer known read told =
      follows made (Writing write) answer
      (subst (Follows made (Writing write)) (sym (write_then_is m made write answer)) (by_served (serves made write) refl))
      (writing_nearer words words' m made answer known write read told)
    where
      written_follows : (n : ℕ) → Follows made (Writing write) (written write n)
      written_follows n made' less = cond_both (write.old == 0) (Counting (claimed_by write n)) (Ended (Replaced (pair_of write.old) n))
          (λ s. left_in made' s < left_to_write made write → (rank_in made' s < rank 1 0 (left_to_write made write)) × IsAheadIn m.mode words' s)
          (λ _ l. (omega (arith, l), tt)) (λ _ l. (omega (arith, l), tt)) less

      by_served : (served : Option ℕ) → serves made write ≡ served → Follows made (Writing write) (write_then m served made write answer)
      by_served None is = unserved_leads m (Follows made (Writing write)) (λ refused made' less. (omega (arith, less), tt)) made write
          (λ made' less. (omega (arith, less), tt)) answer
      by_served (Some n) is =
          let done : (answer ≡ Exchanged) × IsPut words (Slot write.place.table write.place.probe.i) _ words' = exchange_done _ _
          (words (Slot write.place.table write.place.probe.i)) write.old read
          (subst (λ o. IsPrompt m.task words (served_ask o write made) answer words') is told) in
          subst (λ a. Follows made (Writing write) (write_then m (Some n) made write a)) (sym done.0) (written_follows n)

  -- a call that makes a pair leaves the root
  pairing_root : (purpose : Purpose) (made : Made) (answer : Answer) → IsPrompt m.task words (asks made m.hash (Pairing purpose)) answer words'
      → words' Root ≡ words Root
  pairing_root purpose made answer told = pair_holds (λ ask. IsPrompt m.task words ask answer words' → words' Root ≡ words Root) each made
      (in_place_of purpose) told
    where
      each : HoldsOfPairAsks (λ ask. IsPrompt m.task words ask answer words' → words' Root ≡ words Root)
      each = record {
        loads = λ told. told.1 Root;
        takes = λ count told. by_test (words Made_word == count) ((answer ≡ Exchanged) × IsPut words Made_word (count + 1) words')
            ((answer ≡ Found_instead (words Made_word)) × IsSame words words') (words' Root ≡ words Root) told
            (λ _ done. done.1.others Root (λ (e : Root ≡ Made_word). cc)) (λ _ lost. lost.1 Root);
        key = λ told. told.1 Root;
        value = λ told. told.1 Root;
        pair = λ told. told.1 Root;
        pair_of = λ n told. told.1 Root;
      }

  -- a compute's pair is made
  pairing_ends : (made : Made) (purpose : Purpose) (answer : Answer) → IsNumberRead words made.number → IsRead words (Pairing purpose)
      → IsPurposeAhead m.mode words' purpose → IsPrompt m.task words (asks made m.hash (Pairing purpose)) answer words' → Ends made (Pairing purpose) answer
  pairing_ends made purpose answer known read h told =
      follows made (Pairing purpose) answer
      (pairing_leads m (Follows made (Pairing purpose)) (λ refused made' less. (some_less made purpose, tt)) made purpose
      (λ made' less. (stays_less made' purpose less, h)) (λ n made' less. provides_leads made' made m.mode words' purpose n h) answer)
      (pairing_nearer words words' m made answer known purpose read told)
    where
      stays_less : (made' : Made) (purpose : Purpose) → left_in made' (Pairing purpose) < left_in made (Pairing purpose)
          → rank_to_serve made' purpose < rank_to_serve made purpose
      stays_less made' (purposes.Fill gap) less = omega (arith, less)
      stays_less made' (purposes.Replace write) less = omega (arith, less)
      stays_less made' (purposes.Again write) less = omega (arith, less)

  -- a closure was called with a pair
  showing_ends : (made : Made) (removal : Removal) (answer : Answer) → IsClosureAnswer m.task answer → Ends made (Showing removal) answer
  showing_ends made removal answer told =
      by_saying (λ task said. let m' : Machine = after (record m { task = task; made = made; state = Showing removal }) said in
      (⊥ ⊎ (rank_in m'.made m'.state < rank 1 0 9)) × IsAheadIn m.mode words' m'.state)
      (λ agrees. let f = agreed_leads made m.mode words' removal agrees in let l = f.0 in (inr (omega (arith, l)), f.1))
      (λ kind. let f = chosen_leads made m.mode words' removal kind in let l = f.0 in (inr (omega (arith, l)), f.1)) m.task answer told

  -- a next table is further on
  next_ends : (made : Made) (how : ResizeMode) (t word : ℕ) → IsIncremental how → IsAhead how words' t → (word ≡ 0) ⊎ ((t < word) × (word ≤ 2 ^ 32))
      → (rank_in made (next_or_end m.task m.remembered.fill t word) < rank 2 (further t) (2 ^ 68 + 16))
      × IsAheadIn how words' (next_or_end m.task m.remembered.fill t word)
  next_ends made (Incremental chunk) t word inc h number =
      cond_both (word == 0) (absent m.task m.remembered.fill (gaps.After t)) (Searching (Sizing word))
      (λ s. (rank_in made s < rank 2 (further t) (2 ^ 68 + 16)) × IsAheadIn (Incremental chunk) words' s)
      (λ none. let f = absent_leads made (Incremental chunk) words' m.task m.remembered.fill (gaps.After t) h in let l = f.0 in (omega (arith, l), f.1))
      (λ some.
      ⊎_elim
      (λ (none : word ≡ 0). absurd (let y : (word == 0) ≡ true = ap (λ n. n == 0) none in cc (y, some)))
      (λ (up : (t < word) × (word ≤ 2 ^ 32)). let a = up.0 in let b = up.1 in (omega (arith, a, b), omega (arith, a, h)))
      number)
  next_ends made Blocking t word inc h number = absurd inc

  -- in each state
  ends_in : (made : Made) (s : State) (answer : Answer) → IsNumberRead words made.number → IsRead words s → IsAheadIn m.mode words s
      → IsNumberAsked words (asks made m.hash s) → IsPrompt m.task words (asks made m.hash s) answer words' → Ends made s answer
  ends_in made AtRoot answer known read h number told =
      let f = root_leads made m.mode words' m.task m.remembered.fill (words Root) (told.1 Root) in
      let l = f.0 in
      subst (Ends made AtRoot) (sym told.0) (inr (omega (arith, l)), f.1)
  ends_in made Making answer known read h number told = making_ends made Making answer told.0 (λ n. (inr (omega arith), tt))
      (λ refused. (inr (omega arith), tt))
  ends_in made (Opening t) answer known read h number told =
      let done : (answer ≡ Exchanged) × IsPut words Root t words' = exchange_done _ _ (words Root) 0 read told in
      subst (Ends made (Opening t)) (sym done.0) (inl tt, at_root_ahead made m.mode words' m.mode t done.1.here)
  ends_in made (Searching (Sizing t)) answer known read h number told = size_ends made t answer told.0 (still_ahead m.mode t (told.1 Root) h)
  ends_in made (Searching (Looking at)) answer known read h number told =
      let hint : ℕ = told.0.0 in
      let a = hinted_sees at m.hash hint in
      let b = goes_leads made m.mode words' m.task m.remembered (hinted at m.hash hint)
      (subst (IsAhead m.mode words') (sym a.1) (still_ahead m.mode at.table (told.1 Root) h)) in
      let i = a.0 in
      let j = b.0 in
      subst (Ends made (Searching (Looking at))) (sym told.0.1) (inr (omega (arith, i, j)), b.1)
  ends_in made (Searching (Reading at)) answer known read h number told =
      let word : ℕ = words (Slot at.table at.probe.i) in
      let a = look_sees (kind_of word) at word in
      let b = goes_leads made m.mode words' m.task m.remembered (look at word)
      (subst (IsAhead m.mode words') (sym a.1) (still_ahead m.mode at.table (told.1 Root) h)) in
      let i = a.0 in
      let j = b.0 in
      subst (Ends made (Searching (Reading at))) (sym told.0) (inr (omega (arith, i, j)), b.1)
  ends_in made (Searching (Comparing at word)) answer known read h number told =
      let same : Bool = told.0.0 in
      let a = compared_sees at word same in
      let b = goes_leads made m.mode words' m.task m.remembered (search_compared (Comparing at word) same)
      (subst (IsAhead m.mode words') (sym a.1) (still_ahead m.mode at.table (told.1 Root) h)) in
      let i = a.0 in
      let j = b.0 in
      subst (Ends made (Searching (Comparing at word))) (sym told.0.1) (inr (omega (arith, i, j)), b.1)
  ends_in made (Writing write) answer known read h number told = writing_ends made write answer known read told
  ends_in made (Offering gap) answer known read h number told =
      let f = offered_leads made m.mode words' gap told.0.0 (still_gap gap (told.1 Root) h) in
      let l = f.0 in
      subst (Ends made (Offering gap)) (sym told.0.1) (inr (omega (arith, l)), f.1)
  ends_in made (Showing removal) answer known read h number told = showing_ends made removal answer told.0
  ends_in made (Pairing purpose) answer known read h number told =
      pairing_ends made purpose answer known read (still_purpose purpose (pairing_root purpose made answer told) h) told
  ends_in made (Putting put) answer known read h number told =
      let at : At = Slot put.write.place.table put.write.place.probe.i in
      let done : (answer ≡ Exchanged) × IsPut words at _ words' = exchange_done _ _ (words at) put.write.old read told in
      let f = written_leads made m.mode words' put.write put.pair in
      let l = f.0 in
      subst (Ends made (Putting put)) (sym done.0) (inr (omega (arith, l)), f.1)
  ends_in made (Burying removal) answer known read h number told =
      let at : At = Slot removal.place.table removal.place.probe.i in
      let done : (answer ≡ Exchanged) × IsPut words at _ words' = exchange_done _ _ (words at) removal.word read told in
      subst (Ends made (Burying removal)) (sym done.0) (inr (omega arith), tt)
  ends_in made (Counting n) answer known read h number told = subst (Ends made (Counting n)) (sym told.0) (inr (omega arith), tt)
  ends_in made (Noting n) answer known read h number told = subst (Ends made (Noting n)) (sym told.0) (inr (omega arith), tt)
  ends_in made (Uncounting n) answer known read h number told = subst (Ends made (Uncounting n)) (sym told.0) (inr (omega arith), tt)
  ends_in made (Leaving t) answer known read h number told =
      let f = next_ends made m.mode t (words (Next t)) h.0 (still_ahead m.mode t (told.1 Root) h.1) number in
      subst (Ends made (Leaving t)) (sym told.0) (inr f.0, f.1)
  ends_in made (Growing need) answer known read h number told = subst (Ends made (Growing need)) (sym told.0) (inr (omega arith), tt)
  ends_in made (Ended reply) answer known read h number told = absurd told

  -- for the whole machine
  pub call_ends : (answer : Answer) → IsNumberRead words m.made.number → IsRead words m.state → IsAheadIn m.mode words m.state
      → IsNumberAsked words (ask_of m) → IsPrompt m.task words (ask_of m) answer words' → Ends m.made m.state answer
  call_ends answer known read h number told = ends_in m.made m.state answer known read h number told
