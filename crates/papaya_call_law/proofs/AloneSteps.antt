-- Each answer brings a call nearer its end, while no table has a next one.
use Rattle.std.proofs.Common.{◌≡◌, ⊎_elim, ℕ, ◌+◌, ◌*◌, ◌-◌, ◌^◌, ◌<◌, ◌≤◌, ◌==◌, nat_lt, Bool}
use Rattle.std.proofs.Common.{true, false, cond, Option, Some, None, refl, sym, ap, subst, arith}
use Rattle.std.specs.Prelude.{MatchBool, if◌then◌else◌}
use Rattle.std.proofs.lemmas.Bool.{and_from, cond_both, cond-true, eq-eqb, ltb-true}
use Rattle.std.proofs.lemmas.Bool.Decides.{when_true}
use Rattle.papaya_words.specs.Word.{kind_of, pair_of, may_hold}
use Rattle.papaya_words.specs.declared.refused.Refused.{Refused}
use Rattle.papaya_words.specs.declared.resize_mode.ResizeMode.{ResizeMode}
use Rattle.papaya_words.specs.declared.resize_mode.ResizeMode.TheVariants.{Incremental, Blocking}
use Rattle.papaya_words.specs.declared.word.Kind.{Kind}
use Rattle.papaya_words.specs.declared.word.Kind.TheVariants as word_kinds
use Rattle.papaya_call.specs.declared.ask.At.{At}
use Rattle.papaya_call.specs.declared.ask.At.TheVariants.{Root, Next, Slot, Made as Made_word}
use Rattle.papaya_call.specs.declared.ask.Ask.{Ask}
use Rattle.papaya_call.specs.declared.ask.Ask.TheVariants.{MakeKey, MakeValue, MakePair, MakePairOf}
use Rattle.papaya_call.specs.declared.ask.Ask.TheVariants as ask_kinds
use Rattle.papaya_call.specs.declared.ask.Answer.{Answer}
use Rattle.papaya_call.specs.declared.ask.Answer.TheVariants.{Word as Word_read, Exchanged, Yes, Op, Size, Made as Made_number, Refused as Was_refused}
use Rattle.papaya_call.specs.declared.ask.OpKind.{OpKind}
use Rattle.papaya_call.specs.declared.ask.OpKind.TheVariants as op_kinds
use Rattle.papaya_call.specs.declared.call.Reply.TheVariants.{Absent, Replaced}
use Rattle.papaya_call.specs.declared.call.Task.{Task}
use Rattle.papaya_call.specs.declared.call.Task.TheVariants.{Get, Insert, RemoveIf, Compute}
use Rattle.papaya_call.specs.declared.compute.Choice.{Choice}
use Rattle.papaya_call.specs.declared.compute.Choice.TheVariants as choices
use Rattle.papaya_call.specs.declared.compute.Gap.{Gap}
use Rattle.papaya_call.specs.declared.compute.Gap.TheVariants as gaps
use Rattle.papaya_call.specs.declared.compute.Purpose.{Purpose}
use Rattle.papaya_call.specs.declared.compute.Purpose.TheVariants as purposes
use Rattle.papaya_call.specs.declared.compute.Remembered.{Remembered}
use Rattle.papaya_call.specs.declared.remove.Removal.{Removal}
use Rattle.papaya_call.specs.declared.search.Place.{Place}
use Rattle.papaya_call.specs.declared.search.Search.TheVariants.{Sizing, Looking, Reading, Comparing}
use Rattle.papaya_call.specs.declared.search.ProbeStep.{ProbeStep}
use Rattle.papaya_call.specs.declared.search.ProbeStep.TheVariants as seen
use Rattle.papaya_call.specs.declared.made.Made.{Made}
use Rattle.papaya_call_law.proofs.Makings.{IsMakeAsk, make_asks}
use Rattle.papaya_call.specs.declared.write.Write.{Write}
use Rattle.papaya_call.specs.declared.machine.Machine.{Machine}
use Rattle.papaya_call.specs.declared.machine.State.{State}
use Rattle.papaya_call.specs.declared.machine.State.TheVariants.{AtRoot, Making, Opening, Searching}
use Rattle.papaya_call.specs.declared.machine.State.TheVariants.{Writing, Offering, Showing}
use Rattle.papaya_call.specs.declared.machine.State.TheVariants.{Pairing, Putting, Burying}
use Rattle.papaya_call.specs.declared.machine.State.TheVariants.{Counting, Noting, Uncounting}
use Rattle.papaya_call.specs.declared.machine.State.TheVariants.{Leaving, Growing, Ended}
use Rattle.papaya_call.specs.Search.{IsSize, next_place, go_on, look_at, match_at, look, at_yes as search_compared, hinted}
use Rattle.papaya_call.specs.declared.made.Grown.{Grown}
use Rattle.papaya_call.specs.declared.made.Grown.TheVariants.{On, Pair}
use Rattle.papaya_call.specs.declared.made.Number.{Number}
use Rattle.papaya_call.specs.declared.made.Number.TheVariants.{Wanted, Free, Taken}
use Rattle.papaya_call.specs.Made.{answered, grown, grown_as, make_ask, number_ask, of_grown}
use Rattle.papaya_call.specs.Made.{own_grown, pair_ask, serves_at, taken, taken_as, told, told_as}
use Rattle.papaya_call.specs.Made.{told_limit}
use Rattle.papaya_call.specs.Compute.{fills, in_place_of, lacks, offered, chosen, provides, recalled, recalls}
use Rattle.papaya_call.specs.Machine.{after, ask_of, asks, absent, at_root, exchanged}
use Rattle.papaya_call.specs.Machine.{left as next_or_end, made_to_pair, number_told, numbered}
use Rattle.papaya_call.specs.Machine.{paired, passes, refuses, replaces, removes, computes, goes_as}
use Rattle.papaya_call.specs.Machine.{write_made, write_taken, write_told, written, agreed}
use Rattle.papaya_call_law.specs.Alone.{IsPut, IsMaking, IsNumberRead, IsClosureAnswer, IsPrompt, IsRead}
use Rattle.papaya_call_law.specs.Alone.{left, left_in, left_to_push, left_to_number, left_to_search}
use Rattle.papaya_call_law.specs.Alone.{left_to_serve_with, left_to_write, left_to_pair}
use Rattle.papaya_call_law.specs.Alone.{left_to_fill, left_to_serve}
use Rattle.papaya_call_law.proofs.Leads.{occupies_leads}
use Rattle.papaya_call.specs.Write.{claimed_by, made_of, made_to_write, served_ask, served_of, serves, with_pair_at, write_grown}

-- the exchange of a word whose expected value is there succeeds
pub exchange_done : (P Q : Type 0) (word old : ℕ) → word ≡ old → MatchBool (word == old) P Q → P
exchange_done P Q word old same told = when_true P Q (eq-eqb word old same) told

-- a property of each `Yes` in a removal and of each `Op` in a compute holds of each answer of a
-- closure
pub by_saying : (P : Task → Answer → Type 0) → ((agrees : Bool) → P RemoveIf (Yes agrees)) → ((kind : OpKind) → P Compute (Op kind))
    → (task : Task) (answer : Answer) → IsClosureAnswer task answer → P task answer
by_saying P by_yes by_op Get answer told = absurd told
by_saying P by_yes by_op (Insert replace) answer told = absurd told
by_saying P by_yes by_op RemoveIf answer (agrees, e) = subst (P RemoveIf) (sym e) (by_yes agrees)
by_saying P by_yes by_op Compute answer (kind, e) = subst (P Compute) (sym e) (by_op kind)

-- the steps that are left, at most, after this outcome of a probe
abbrev left_of_seen : ProbeStep → ℕ
left_of_seen (seen.On search) = left_to_search search
left_of_seen (seen.Empty at) = 9
left_of_seen (seen.Here at word) = 10
left_of_seen (seen.Over t) = 8

-- a search that continues is one place nearer its limit
go_on_left : (at : Place) → left_of_seen (go_on at) ≤ 10 + 3 * (at.limit - at.probe.len)
go_on_left at =
    cond_both (nat_lt at.probe.len at.limit) (seen.On (Looking (next_place at))) (seen.Over at.table)
    (λ s. left_of_seen s ≤ 10 + 3 * (at.limit - at.probe.len))
    (λ more. let l : at.probe.len < at.limit = ltb-true at.probe.len at.limit more in omega arith)
    (λ _. omega arith)

-- a hint makes the load of the word unnecessary, or the word is loaded next
hinted_left : (at : Place) (hash hint : ℕ) → left_of_seen (hinted at hash hint) ≤ 12 + 3 * (at.limit - at.probe.len)
hinted_left at hash hint =
    cond_both (may_hold hint hash) (seen.On (Reading at)) (go_on at)
    (λ s. left_of_seen s ≤ 12 + 3 * (at.limit - at.probe.len))
    (λ _. omega arith)
    (λ _. omega (arith, go_on_left at))

look_left : (kind : Kind) (at : Place) (word : ℕ) → left_of_seen (look_at kind at word) ≤ 11 + 3 * (at.limit - at.probe.len)
look_left word_kinds.Empty at word = omega arith
look_left word_kinds.Live at word = omega arith
look_left word_kinds.Marked at word = omega arith
look_left word_kinds.Copied at word = omega arith
look_left word_kinds.Buried at word = omega (arith, go_on_left at)
look_left word_kinds.Closed at word = omega (arith, go_on_left at)

match_left : (kind : Kind) (at : Place) (word : ℕ) → left_of_seen (match_at kind at word) ≤ 10
match_left word_kinds.Empty at word = omega arith
match_left word_kinds.Live at word = omega arith
match_left word_kinds.Marked at word = omega arith
match_left word_kinds.Copied at word = omega arith
match_left word_kinds.Buried at word = omega arith
match_left word_kinds.Closed at word = omega arith

compared_left : (at : Place) (word : ℕ) (same : Bool) → left_of_seen (search_compared (Comparing at word) same) ≤ 10 + 3 * (at.limit - at.probe.len)
compared_left at word true = omega (arith, match_left (kind_of word) at word)
compared_left at word false = go_on_left at

module _ (made : Made) where
  number_left : (number : Number) → left_to_number number ≤ 2
  number_left Wanted = omega arith
  number_left (Free count) = omega arith
  number_left Taken = omega arith

  log_left : (logged : Bool) → left_to_push logged ≤ 1
  log_left true = omega arith
  log_left false = omega arith

  key_left : (m : Made) (old : ℕ) → (if old == 0 then left_to_push m.keyed else 0) ≤ 1
  key_left m old = cond_both (old == 0) (left_to_push m.keyed) 0 (λ n. n ≤ 1) (λ _. log_left m.keyed) (λ _. omega arith)

  -- a pair is made in five steps at most
  pair_left : (m : Made) (old : ℕ) → left_to_pair m old ≤ 5
  pair_left m old = let a = number_left m.number in let b = log_left m.valued in let c = key_left m old in omega (arith, a, b, c)

  serve_left : (served : Option ℕ) (m : Made) (old : ℕ) → left_to_serve_with served m old ≤ 8
  serve_left None m old = omega (arith, pair_left m old)
  serve_left (Some n) m old = omega arith

  write_left : (m : Made) (write : Write) → left_to_write m write ≤ 8
  write_left m write = serve_left (serves m write) m write.old

  replaces_left : (kind : Kind) (at : Place) (word : ℕ) → left_in made (replaces kind at word) ≤ 8
  replaces_left word_kinds.Empty at word = omega arith
  replaces_left word_kinds.Live at word = write_left made (record { place = at; old = word })
  replaces_left word_kinds.Marked at word = omega arith
  replaces_left word_kinds.Copied at word = omega arith
  replaces_left word_kinds.Buried at word = omega arith
  replaces_left word_kinds.Closed at word = omega arith

  removes_left : (kind : Kind) (at : Place) (word : ℕ) → left_in made (removes kind at word) ≤ 10
  removes_left word_kinds.Empty at word = omega arith
  removes_left word_kinds.Live at word = omega arith
  removes_left word_kinds.Marked at word = omega arith
  removes_left word_kinds.Copied at word = omega arith
  removes_left word_kinds.Buried at word = omega arith
  removes_left word_kinds.Closed at word = omega arith

  -- the remembered choice about a pair is executed, or the closure is called with the pair
  recalls_left : (choice : Option Choice) (at : Place) (word n : ℕ) → left_in made (recalls choice at word n) ≤ 10
  recalls_left None at word n = omega arith
  recalls_left (Some (choices.Replace old new)) at word n =
      let write : Write = record { place = at; old = word } in
      cond_both (old == n) (recalled new at word) (Showing (record { place = at; word = word })) (λ s. left_in made s ≤ 10)
      (λ _. cond_both (serves_at new at.table at.probe.i) (Putting (record { write = write; pair = new.pair })) (Pairing (purposes.Again write))
      (λ s. left_in made s ≤ 10) (λ _. omega arith) (λ _. omega (arith, pair_left made word)))
      (λ _. omega arith)
  recalls_left (Some (choices.Remove old)) at word n =
      let removal : Removal = record { place = at; word = word } in
      cond_both (old == n) (Burying removal) (Showing removal) (λ s. left_in made s ≤ 10) (λ _. omega arith) (λ _. omega arith)

  computes_left : (kind : Kind) (held : Remembered) (at : Place) (word : ℕ) → left_in made (computes kind held at word) ≤ 10
  computes_left word_kinds.Empty held at word = omega arith
  computes_left word_kinds.Live held at word = recalls_left held.choice at word (pair_of word)
  computes_left word_kinds.Marked held at word = omega arith
  computes_left word_kinds.Copied held at word = omega arith
  computes_left word_kinds.Buried held at word = omega arith
  computes_left word_kinds.Closed held at word = omega arith

  -- a pair that was made is put where its key is absent
  fills_left : (gap : Gap) (n : ℕ) → left_in made (fills gap n) ≤ left_to_fill gap
  fills_left gaps.NoRoot n = omega arith
  fills_left (gaps.At at) n = omega arith
  fills_left (gaps.After t) n = omega arith

  lacks_left : (fill : Option ℕ) (gap : Gap) → left_in made (lacks fill gap) ≤ 6 + left_to_fill gap
  lacks_left None gap = omega arith
  lacks_left (Some n) gap = omega (arith, fills_left gap n)

  absent_left : (task : Task) (fill : Option ℕ) (gap : Gap) → left_in made (absent task fill gap) ≤ 6 + left_to_fill gap
  absent_left Get fill gap = omega arith
  absent_left (Insert replace) fill gap = omega arith
  absent_left RemoveIf fill gap = omega arith
  absent_left Compute fill gap = lacks_left fill gap

  passes_left : (task : Task) (mode : ResizeMode) (fill : Option ℕ) (t : ℕ) → left_in made (passes task mode fill t) ≤ 8
  passes_left task (Incremental chunk) fill t = omega arith
  passes_left task Blocking fill t = omega (arith, absent_left task fill (gaps.After t))

  -- the state after a search has no more left than the search
  goes_left : (task : Task) (mode : ResizeMode) (held : Remembered) (s : ProbeStep) → left_in made (goes_as task mode held s) ≤ left_of_seen s
  goes_left task mode held (seen.On search) = omega arith
  goes_left Get mode held (seen.Here at word) = omega arith
  goes_left (Insert false) mode held (seen.Here at word) = occupies_leads (λ s. left_in made s ≤ 10) (kind_of word) at word (omega arith) (omega arith)
  goes_left (Insert true) mode held (seen.Here at word) = omega (arith, replaces_left (kind_of word) at word)
  goes_left RemoveIf mode held (seen.Here at word) = removes_left (kind_of word) at word
  goes_left Compute mode held (seen.Here at word) = computes_left (kind_of word) held at word
  goes_left Get mode held (seen.Empty at) = omega arith
  goes_left (Insert replace) mode held (seen.Empty at) = omega (arith, write_left made (record { place = at; old = 0 }))
  goes_left RemoveIf mode held (seen.Empty at) = omega arith
  goes_left Compute mode held (seen.Empty at) = lacks_left held.fill (gaps.At at)
  goes_left Get mode held (seen.Over t) = passes_left Get mode held.fill t
  goes_left (Insert replace) mode held (seen.Over t) = omega arith
  goes_left RemoveIf mode held (seen.Over t) = passes_left RemoveIf mode held.fill t
  goes_left Compute mode held (seen.Over t) = passes_left Compute mode held.fill t

  root_left : (task : Task) (fill : Option ℕ) (word : ℕ) → left_in made (at_root task fill word) < left_in made AtRoot
  root_left Get fill word = cond_both (word == 0) (Ended Absent) (Searching (Sizing word)) (λ s. left_in made s < left_in made AtRoot)
      (λ _. omega arith) (λ _. omega arith)
  root_left (Insert replace) fill word = cond_both (word == 0) Making (Searching (Sizing word)) (λ s. left_in made s < left_in made AtRoot)
      (λ _. omega arith) (λ _. omega arith)
  root_left RemoveIf fill word = cond_both (word == 0) (Ended Absent) (Searching (Sizing word)) (λ s. left_in made s < left_in made AtRoot)
      (λ _. omega arith) (λ _. omega arith)
  root_left Compute fill word = cond_both (word == 0) (lacks fill gaps.NoRoot) (Searching (Sizing word)) (λ s. left_in made s < left_in made AtRoot)
      (λ _. omega (arith, lacks_left fill gaps.NoRoot)) (λ _. omega arith)

  agreed_left : (removal : Removal) (agrees : Bool) → left_in made (agreed removal agrees) < 10
  agreed_left removal true = omega arith
  agreed_left removal false = omega arith

  written_left : (write : Write) (n : ℕ) → left_in made (written write n) < 3
  written_left write n = cond_both (write.old == 0) (Counting (claimed_by write n)) (Ended (Replaced (pair_of write.old) n)) (λ s. left_in made s < 3)
      (λ _. omega arith) (λ _. omega arith)

  -- the result of its closure leaves fewer steps
  offered_left : (gap : Gap) (kind : OpKind) → left_in (answered kind made) (offered gap kind) < 6 + left_to_fill gap
  offered_left gap op_kinds.Insert = omega (arith, pair_left (answered op_kinds.Insert made) 0)
  offered_left gap op_kinds.Remove = omega arith
  offered_left gap (op_kinds.Abort t) = omega arith

  chosen_left : (removal : Removal) (kind : OpKind) → left_in (answered kind made) (chosen removal kind) < 10
  chosen_left removal op_kinds.Insert = omega (arith, pair_left (answered op_kinds.Insert made) removal.word)
  chosen_left removal op_kinds.Remove = omega arith
  chosen_left removal (op_kinds.Abort t) = omega arith

  -- and so does the pair that was made from it
  provides_left : (purpose : Purpose) (n : ℕ) → left_in made (provides purpose n) ≤ left_to_serve purpose
  provides_left (purposes.Fill gap) n = fills_left gap n
  provides_left (purposes.Replace write) n = omega arith
  provides_left (purposes.Again write) n = omega arith

-- the pair that was made for a place is used there
serves_own : (made : Made) (write : Write) (n : ℕ) → serves (with_pair_at made write n) write ≡ Some n
serves_own made write n = by_old (write.old == 0)
  where
    itself : serves_at (made_of write n) write.place.table write.place.probe.i ≡ true
    itself = and_from (write.place.table == write.place.table) (write.place.probe.i == write.place.probe.i)
        (eq-eqb write.place.table write.place.table refl) (eq-eqb write.place.probe.i write.place.probe.i refl)

    by_old : (b : Bool) → cond b (cond b (record made { own = Some n }) (record made { of = Some (made_of write n) })).own
        (served_of (cond b (record made { own = Some n }) (record made { of = Some (made_of write n) })).of write.place) ≡ Some n
    by_old true = refl
    by_old false = cond-true (serves_at (made_of write n) write.place.table write.place.probe.i) (Some n) None itself

-- the steps left to an insertion once fewer are left to its pair
unserved_left : (made : Made) (write : Write) (next : Made) (served : Option ℕ) → left_to_write made write ≡ 3 + left_to_pair made write.old
    → left_to_pair next write.old + 3 < left_to_pair made write.old + 3 → left_to_serve_with served next write.old < left_to_write made write
unserved_left made write next None leaves nearer = omega (arith, leaves, nearer)
unserved_left made write next (Some n) leaves nearer = omega (arith, leaves, nearer)

module _ (words words' : At → ℕ) (m : Machine) where
  -- after this answer less is left
  abbrev Nears : Made → State → Answer → Type 0
  Nears made s answer = left (after (record m { made = made; state = s }) answer) < left_in made s

  making_nears : (made : Made) (s : State) (answer : Answer) → IsMaking answer → ((n : ℕ) → Nears made s (Made_number n))
      → ((refused : Refused) → Nears made s (Was_refused refused)) → Nears made s answer
  making_nears made s answer told by_made by_refused =
      ⊎_elim
      (λ (h : (n : ℕ) × (answer ≡ Made_number n)). subst (Nears made s) (sym h.1) (by_made h.0))
      (λ (h : (refused : Refused) × (answer ≡ Was_refused refused)). subst (Nears made s) (sym h.1) (by_refused h.0))
      told

  size_nears : (made : Made) (t : ℕ) (answer : Answer) → (slots : ℕ) × (limit : ℕ) × IsSize slots limit × (answer ≡ Size slots limit)
      → Nears made (Searching (Sizing t)) answer
  size_nears made t answer (slots, limit, size, e) = let few : limit < 2 ^ 32 = size.few in subst (Nears made (Searching (Sizing t))) (sym e) (omega arith)

  -- each step of a call that makes a pair brings it nearer: s is the number of steps after it
  module _ (made : Made) (old s : ℕ) where
    -- by the steps that are left after it
    abbrev IsNearer : Made → Type 0
    IsNearer next = left_to_pair next old + s < left_to_pair made old + s

    -- a number is free, or the call ends
    abbrev IsNearerTold : Option Made → Type 0
    IsNearerTold None = Unit {0}
    IsNearerTold (Some next) = IsNearer next

    limit_nears : made.number ≡ Wanted → (limit : Option ℕ) (count : ℕ) → IsNearerTold (told_limit made limit count)
    limit_nears wants None count = let w : left_to_number made.number ≡ 2 = ap left_to_number wants in omega (arith, w)
    limit_nears wants (Some most) count =
        let w : left_to_number made.number ≡ 2 = ap left_to_number wants in
        cond_both (nat_lt count most) (Some (record made { number = Free count })) None IsNearerTold (λ _. omega (arith, w)) (λ _. tt)

    told_nears : made.number ≡ Wanted → (count : ℕ) → IsNearerTold (told made count)
    told_nears wants count = subst (λ n. IsNearerTold (told_as made n count)) (sym wants) (limit_nears wants made.limit count)

    taken_nears : (count : ℕ) → made.number ≡ Free count → IsNearer (taken made)
    taken_nears count free = let w : left_to_number made.number ≡ 1 = ap left_to_number free in
        subst (λ n. IsNearer (taken_as made n)) (sym free) (omega (arith, w))

    -- the key or the value was stored in the arena, or the pair
    abbrev IsNearerGrown : Grown → Type 0
    IsNearerGrown (On next) = IsNearer next
    IsNearerGrown (Pair next) = Unit {0}

    own_nears : (old == 0) ≡ true → (keyed valued : Bool) → made.keyed ≡ keyed → made.valued ≡ valued → IsNearerGrown (own_grown keyed valued made)
    own_nears empty false valued k v = let a : left_to_push made.keyed ≡ 1 = ap left_to_push k in
        subst (λ b. left_to_number made.number + left_to_push made.valued + cond b 0 0 + 1 + s < left_to_number made.number + left_to_push made.valued +
        cond b (left_to_push made.keyed) 0 + 1 + s) (sym empty) (omega (arith, a))
    own_nears empty true false k v = let a : left_to_push made.valued ≡ 1 = ap left_to_push v in omega (arith, a)
    own_nears empty true true k v = tt

    of_nears : (valued : Bool) → made.valued ≡ valued → IsNearerGrown (of_grown valued made)
    of_nears false v = let a : left_to_push made.valued ≡ 1 = ap left_to_push v in omega (arith, a)
    of_nears true v = tt

    grown_nears : made.number ≡ Taken → IsNearerGrown (grown made old)
    grown_nears taken_is = subst (λ n. IsNearerGrown (grown_as n made old)) (sym taken_is)
        (cond_both (old == 0) (own_grown made.keyed made.valued made) (of_grown made.valued made) IsNearerGrown
        (λ empty. own_nears empty made.keyed made.valued refl refl) (λ _. of_nears made.valued refl))

  -- an insertion received how many numbers were taken, or has stored a part in the arena
  told_write : (made : Made) (write : Write) → left_to_write made write ≡ 3 + left_to_pair made write.old → (o : Option Made)
      → IsNearerTold made write.old 3 o → left_in (number_told o made) (numbered o (Writing write)) < left_to_write made write
  told_write made write leaves None nearer = omega (arith, leaves)
  told_write made write leaves (Some next) nearer = unserved_left made write next (serves next write) leaves nearer

  grown_write : (made : Made) (write : Write) (n : ℕ) → left_to_write made write ≡ 3 + left_to_pair made write.old → (G : Grown)
      → IsNearerGrown made write.old 3 G → left_to_write (made_to_write G write n) write < left_to_write made write
  grown_write made write n leaves (On next) nearer = unserved_left made write next (serves next write) leaves nearer
  grown_write made write n leaves (Pair next) nearer = let a : left_to_write (with_pair_at next write n) write ≡ 3 = ap
      (λ o. left_to_serve_with o (with_pair_at next write n) write.old) (serves_own next write n) in omega (arith, leaves, a)

  -- so has a compute
  told_pairing : (made : Made) (purpose : Purpose) (o : Option Made) → IsNearerTold made (in_place_of purpose) (left_to_serve purpose) o
      → left_in (number_told o made) (numbered o (Pairing purpose)) < left_in made (Pairing purpose)
  told_pairing made purpose None nearer = omega arith
  told_pairing made purpose (Some next) nearer = nearer

  grown_pairing : (made : Made) (purpose : Purpose) (n : ℕ) (G : Grown) → IsNearerGrown made (in_place_of purpose) (left_to_serve purpose) G
      → left_in (made_to_pair G) (paired G purpose n) < left_in made (Pairing purpose)
  grown_pairing made purpose n (On next) nearer = nearer
  grown_pairing made purpose n (Pair next) nearer = omega (arith, provides_left next purpose n)

  -- the word of the numbers was read again: s is the stage of a call that makes a pair
  module _ (made : Made) (s : State) (old behind : ℕ) (answer : Answer)
      (as_loaded : (count : ℕ) → IsNearerTold made old behind (told made count) → Nears made s (Word_read count))
      (took : IsNearer made old behind (taken made) → Nears made s Exchanged)
      (logged : (n : ℕ) → IsNearerGrown made old behind (grown made old) → Nears made s (Made_number n))
      (refused : (refused : Refused) → Nears made s (Was_refused refused)) where
    make_nears : made.number ≡ Taken → (ask : Ask) → IsMakeAsk ask → IsPrompt m.task words ask answer words' → Nears made s answer
    make_nears is MakeKey h told = making_nears made s answer told.0 (λ n. logged n (grown_nears made old behind is)) refused
    make_nears is MakeValue h told = making_nears made s answer told.0 (λ n. logged n (grown_nears made old behind is)) refused
    make_nears is MakePair h told = making_nears made s answer told.0 (λ n. logged n (grown_nears made old behind is)) refused
    make_nears is (MakePairOf i) h told = making_nears made s answer told.0 (λ n. logged n (grown_nears made old behind is)) refused
    make_nears is (ask_kinds.Load at) h told = absurd h
    make_nears is (ask_kinds.Exchange at was new) h told = absurd h
    make_nears is (ask_kinds.LoadHint t x) h told = absurd h
    make_nears is (ask_kinds.WriteHint t x hint) h told = absurd h
    make_nears is (ask_kinds.SameKey n) h told = absurd h
    make_nears is ask_kinds.ShowNone h told = absurd h
    make_nears is (ask_kinds.ShowPair n) h told = absurd h
    make_nears is (ask_kinds.SizeOf t) h told = absurd h
    make_nears is (ask_kinds.MakeTable slots limit chunks) h told = absurd h
    make_nears is (ask_kinds.AddToShard by) h told = absurd h
    make_nears is (ask_kinds.Done reply) h told = absurd h

    number_nears : (number : Number) → made.number ≡ number → IsNumberRead words number
        → IsPrompt m.task words (number_ask number made old) answer words' → Nears made s answer
    number_nears Wanted is read told = subst (Nears made s) (sym told.0) (as_loaded (words Made_word) (told_nears made old behind is (words Made_word)))
    number_nears (Free count) is read told =
        let done : (answer ≡ Exchanged) × IsPut words Made_word (count + 1) words' = exchange_done _ _ (words Made_word) count read told in
        subst (Nears made s) (sym done.0) (took (taken_nears made old behind count is))
    number_nears Taken is read told = make_nears is (make_ask made old) (make_asks made old) told

    pair_nears : IsNumberRead words made.number → IsPrompt m.task words (pair_ask made old) answer words' → Nears made s answer
    pair_nears read told = number_nears made.number refl read told

  -- an insertion makes its pair and writes it
  writing_nears : (made : Made) (write : Write) (served : Option ℕ) → serves made write ≡ served → (answer : Answer) → IsNumberRead words made.number
      → IsRead words (Writing write) → IsPrompt m.task words (served_ask served write made) answer words' → Nears made (Writing write) answer
  writing_nears made write None is answer number read told_so =
      let leaves : left_to_write made write ≡ 3 + left_to_pair made write.old = ap (λ o. left_to_serve_with o made write.old) is in
      pair_nears made (Writing write) write.old 3 answer
      (λ count nearer. subst (λ o. left_in (write_made o made count) (write_told o made write count) < left_to_write made write) (sym is)
      (told_write made write leaves (told made count) nearer))
      (λ nearer. subst (λ o. left_in (write_taken o made) (exchanged o write) < left_to_write made write) (sym is)
      (let a = serve_left made (serves (taken made) write) (taken made) write.old in
      unserved_left made write (taken made) (serves (taken made) write) leaves nearer))
      (λ n nearer. subst (λ o. left_to_write (write_grown o made write n) write < left_to_write made write) (sym is)
      (grown_write made write n leaves (grown made write.old) nearer))
      (λ refused. subst (λ o. left_in made (refuses o refused write) < left_to_write made write) (sym is) (omega (arith, leaves)))
      number told_so
  writing_nears made write (Some n) is answer number read told_so =
      let at : At = Slot write.place.table write.place.probe.i in
      let leaves : left_to_write made write ≡ 3 = ap (λ o. left_to_serve_with o made write.old) is in
      let done : (answer ≡ Exchanged) × IsPut words at _ words' = exchange_done _ _ (words at) write.old read told_so in
      subst (Nears made (Writing write)) (sym done.0)
      (subst (λ o. left_in (write_taken o made) (exchanged o write) < left_to_write made write) (sym is) (omega (arith, written_left made write n, leaves)))

  -- a compute makes its pair
  pairing_nears : (made : Made) (purpose : Purpose) (answer : Answer) → IsNumberRead words made.number
      → IsPrompt m.task words (asks made m.hash (Pairing purpose)) answer words' → Nears made (Pairing purpose) answer
  pairing_nears made purpose answer number told_so =
      pair_nears made (Pairing purpose) (in_place_of purpose) (left_to_serve purpose) answer
      (λ count nearer. told_pairing made purpose (told made count) nearer)
      (λ nearer. nearer)
      (λ n nearer. grown_pairing made purpose n (grown made (in_place_of purpose)) nearer)
      (λ refused. omega arith)
      number told_so

  -- a closure was called with a pair
  showing_nears : (made : Made) (removal : Removal) (answer : Answer) → IsClosureAnswer m.task answer → Nears made (Showing removal) answer
  showing_nears made removal answer told =
      by_saying (λ task said. left (after (record m { task = task; made = made; state = Showing removal }) said) < 10)
      (agreed_left made removal) (chosen_left made removal) m.task answer told

  -- in each state
  nears_in : ((t : ℕ) → words (Next t) ≡ 0) → (made : Made) (s : State) (answer : Answer) → IsNumberRead words made.number → IsRead words s
      → IsPrompt m.task words (asks made m.hash s) answer words' → Nears made s answer
  nears_in last made AtRoot answer number read told = subst (Nears made AtRoot) (sym told.0) (root_left made m.task m.remembered.fill (words Root))
  nears_in last made Making answer number read told = making_nears made Making answer told.0 (λ n. omega arith) (λ refused. omega arith)
  nears_in last made (Opening t) answer number read told =
      let done : (answer ≡ Exchanged) × IsPut words Root t words' = exchange_done _ _ (words Root) 0 read told in
      subst (Nears made (Opening t)) (sym done.0) (omega arith)
  nears_in last made (Searching (Sizing t)) answer number read told = size_nears made t answer told.0
  nears_in last made (Searching (Looking at)) answer number read told =
      let hint : ℕ = told.0.0 in
      let a = hinted_left at m.hash hint in
      let b = goes_left made m.task m.mode m.remembered (hinted at m.hash hint) in
      subst (Nears made (Searching (Looking at))) (sym told.0.1) (omega (arith, a, b))
  nears_in last made (Searching (Reading at)) answer number read told =
      let word : ℕ = words (Slot at.table at.probe.i) in
      let a = look_left (kind_of word) at word in
      let b = goes_left made m.task m.mode m.remembered (look at word) in
      subst (Nears made (Searching (Reading at))) (sym told.0) (omega (arith, a, b))
  nears_in last made (Searching (Comparing at word)) answer number read told =
      let same : Bool = told.0.0 in
      let a = compared_left at word same in
      let b = goes_left made m.task m.mode m.remembered (search_compared (Comparing at word) same) in
      subst (Nears made (Searching (Comparing at word))) (sym told.0.1) (omega (arith, a, b))
  nears_in last made (Writing write) answer number read told = writing_nears made write (serves made write) refl answer number read told
  nears_in last made (Offering gap) answer number read told = subst (Nears made (Offering gap)) (sym told.0.1) (offered_left made gap told.0.0)
  nears_in last made (Showing removal) answer number read told = showing_nears made removal answer told.0
  nears_in last made (Pairing purpose) answer number read told = pairing_nears made purpose answer number told
  nears_in last made (Putting put) answer number read told =
      let at : At = Slot put.write.place.table put.write.place.probe.i in
      let done : (answer ≡ Exchanged) × IsPut words at _ words' = exchange_done _ _ (words at) put.write.old read told in
      subst (Nears made (Putting put)) (sym done.0) (written_left made put.write put.pair)
  nears_in last made (Burying removal) answer number read told =
      let at : At = Slot removal.place.table removal.place.probe.i in
      let done : (answer ≡ Exchanged) × IsPut words at _ words' = exchange_done _ _ (words at) removal.word read told in
      subst (Nears made (Burying removal)) (sym done.0) (omega arith)
  nears_in last made (Counting n) answer number read told = subst (Nears made (Counting n)) (sym told.0) (omega arith)
  nears_in last made (Noting n) answer number read told = subst (Nears made (Noting n)) (sym told.0) (omega arith)
  nears_in last made (Uncounting n) answer number read told = subst (Nears made (Uncounting n)) (sym told.0) (omega arith)
  nears_in last made (Leaving t) answer number read told =
      subst (Nears made (Leaving t)) (sym told.0)
      (subst (λ word. left_in made (next_or_end m.task m.remembered.fill t word) < 8) (sym (last t))
      (omega (arith, absent_left made m.task m.remembered.fill (gaps.After t))))
  nears_in last made (Growing t) answer number read told = subst (Nears made (Growing t)) (sym told.0) (omega arith)
  nears_in last made (Ended reply) answer number read told = absurd told

  -- for the whole machine
  pub machine_nears : (answer : Answer) → IsNumberRead words m.made.number → IsRead words m.state → ((t : ℕ) → words (Next t) ≡ 0)
      → IsPrompt m.task words (ask_of m) answer words' → left (after m answer) < left m
  machine_nears answer number read last told = nears_in last m.made m.state answer number read told
