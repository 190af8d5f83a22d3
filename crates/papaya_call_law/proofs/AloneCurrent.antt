-- The words that a machine has read are unchanged after each answer, if nobody else changes the
-- words.
use Rattle.std.proofs.Common.{◌≡◌, ⊎_elim, ℕ, ◌+◌, ◌<◌, ◌%◌, ◌==◌, nat_lt, Bool, true, false, Option, Some, None, refl, sym, ap, ◌∙◌, subst, arith}
use Rattle.std.proofs.lemmas.Bool.{cond_both, eqb-true, cases_eq}
use Rattle.papaya_words.specs.Word.{kind_of, kind_of_code, pair_of, filled_word, may_hold, live_word}
use Rattle.papaya_words.specs.declared.refused.Refused.{Refused}
use Rattle.papaya_words.specs.declared.resize_mode.ResizeMode.{ResizeMode}
use Rattle.papaya_words.specs.declared.resize_mode.ResizeMode.TheVariants.{Incremental, Blocking}
use Rattle.papaya_words.specs.declared.word.Kind.{Kind}
use Rattle.papaya_words.specs.declared.word.Kind.TheVariants as word_kinds
use Rattle.papaya_call.specs.declared.ask.At.{At}
use Rattle.papaya_call.specs.declared.ask.At.TheVariants.{Root, Next, Slot, Made as Made_word}
use Rattle.papaya_call.specs.declared.ask.Ask.{Ask}
use Rattle.papaya_call.specs.declared.ask.Ask.TheVariants.{MakeKey, MakeValue, MakePair, MakePairOf}
use Rattle.papaya_call.specs.declared.ask.Ask.TheVariants as ask_kinds
use Rattle.papaya_call.specs.declared.ask.Answer.{Answer}
use Rattle.papaya_call.specs.declared.ask.Answer.TheVariants.{Word as Word_read, Exchanged, Yes, Op, Made as Made_number, Refused as Was_refused}
use Rattle.papaya_call.specs.declared.ask.OpKind.{OpKind}
use Rattle.papaya_call.specs.declared.ask.OpKind.TheVariants as op_kinds
use Rattle.papaya_call.specs.declared.call.Reply.TheVariants.{Absent, Replaced}
use Rattle.papaya_call.specs.declared.call.Task.{Task}
use Rattle.papaya_call.specs.declared.call.Task.TheVariants.{Get, Insert, RemoveIf, Compute}
use Rattle.papaya_call.specs.declared.compute.Choice.{Choice}
use Rattle.papaya_call.specs.declared.compute.Choice.TheVariants as choices
use Rattle.papaya_call.specs.declared.compute.Gap.{Gap}
use Rattle.papaya_call.specs.declared.compute.Gap.TheVariants as gaps
use Rattle.papaya_call.specs.declared.compute.Purpose.{Purpose}
use Rattle.papaya_call.specs.declared.compute.Purpose.TheVariants as purposes
use Rattle.papaya_call.specs.declared.compute.Put.{Put}
use Rattle.papaya_call.specs.declared.compute.Remembered.{Remembered}
use Rattle.papaya_call.specs.declared.remove.Removal.{Removal}
use Rattle.papaya_call.specs.declared.search.Place.{Place}
use Rattle.papaya_call.specs.declared.search.Search.TheVariants.{Sizing, Looking, Reading, Comparing}
use Rattle.papaya_call.specs.declared.search.ProbeStep.{ProbeStep}
use Rattle.papaya_call.specs.declared.search.ProbeStep.TheVariants as seen
use Rattle.papaya_call.specs.declared.made.Made.{Made}
use Rattle.papaya_call_law.proofs.Makings.{IsMakeAsk, make_asks, numbered_leads, paired_leads}
use Rattle.papaya_call.specs.declared.write.Write.{Write}
use Rattle.papaya_call.specs.declared.machine.Machine.{Machine}
use Rattle.papaya_call.specs.declared.machine.State.{State}
use Rattle.papaya_call.specs.declared.machine.State.TheVariants.{AtRoot, Making, Opening, Searching}
use Rattle.papaya_call.specs.declared.machine.State.TheVariants.{Writing, Offering, Showing}
use Rattle.papaya_call.specs.declared.machine.State.TheVariants.{Pairing, Putting, Burying}
use Rattle.papaya_call.specs.declared.machine.State.TheVariants.{Counting, Noting, Uncounting}
use Rattle.papaya_call.specs.declared.machine.State.TheVariants.{Leaving, Growing, Ended}
use Rattle.papaya_call.specs.Search.{next_place, go_on, look_at, match_at, look, at_yes as search_compared, hinted}
use Rattle.papaya_call.specs.Remove.{grave_word}
use Rattle.papaya_call.specs.declared.made.Grown.{Grown}
use Rattle.papaya_call.specs.declared.made.Grown.TheVariants.{On, Pair}
use Rattle.papaya_call.specs.declared.made.Number.{Number}
use Rattle.papaya_call.specs.declared.made.Number.TheVariants.{Wanted, Free, Taken}
use Rattle.papaya_call.specs.Made.{answered, grown, grown_as, make_ask, number_ask, of_grown}
use Rattle.papaya_call.specs.Made.{own_grown, pair_ask, serves_at, taken, taken_as}
use Rattle.papaya_call.specs.Made.{told as told_count, told_as, told_limit, wanted}
use Rattle.papaya_call.specs.Compute.{fills, in_place_of, lacks, offered, chosen, provides, recalled, recalls}
use Rattle.papaya_call.specs.Machine.{after, ask_of, asks, absent, at_root, exchanged}
use Rattle.papaya_call.specs.Machine.{left as next_or_end, made_to_pair, number_told, passes}
use Rattle.papaya_call.specs.Machine.{refuses, replaces, removes, computes, goes_as, write_made}
use Rattle.papaya_call.specs.Machine.{write_taken, write_told, written, agreed}
use Rattle.papaya_call_law.specs.Alone.{IsSame, IsPut, IsMaking, IsClosureAnswer, IsPrompt, IsBare, IsRead}
use Rattle.papaya_call_law.specs.Alone.{IsGapRead, IsPurposeRead, IsCurrent, IsNumberRead}
use Rattle.papaya_call_law.specs.Alone.{word_of_place}
use Rattle.papaya_call_law.proofs.AloneSteps.{exchange_done, by_saying}
use Rattle.papaya_call_law.proofs.Leads.{occupies_leads}
use Rattle.papaya_call.specs.Write.{claimed_by, made_of, made_to_write, served_ask, serves, write_grown}

-- the word of a pair is that of no empty slot
filled_kind : (code pair : ℕ) → code < 8 → kind_of (filled_word code pair) ≡ kind_of_code code
filled_kind code pair h = ap kind_of_code (let e : filled_word code pair % 1024 ≡ code = omega arith in e)

new_filled : (n : ℕ) → kind_of (live_word n) ≡ word_kinds.Empty → ⊥
new_filled n e = let live : kind_of (live_word n) ≡ word_kinds.Live = filled_kind 1 n (omega arith) in cc

grave_filled : (word : ℕ) → kind_of (grave_word word) ≡ word_kinds.Empty → ⊥
grave_filled word e = let buried : kind_of (grave_word word) ≡ word_kinds.Buried = filled_kind 4 (pair_of word) (omega arith) in cc

module _ (words words' : At → ℕ) (bare : IsBare words) where
  -- a slot that stays is as bare as before
  bare_there : (t i : ℕ) → words' (Slot t i) ≡ words (Slot t i) → kind_of (words' (Slot t i)) ≡ word_kinds.Empty → words' (Slot t i) ≡ 0
  bare_there t i same e = same ∙ bare t i (ap kind_of (sym same) ∙ e)

  same_bare : IsSame words words' → IsBare words'
  same_bare same t i e = bare_there t i (same (Slot t i)) e

  -- the root is no slot
  root_put_bare : (new : ℕ) → IsPut words Root new words' → IsBare words'
  root_put_bare new put t i e = bare_there t i (put.others (Slot t i) (λ (h : Slot t i ≡ Root). cc)) e

  -- nor is the count of numbers
  number_put_bare : (new : ℕ) → IsPut words Made_word new words' → IsBare words'
  number_put_bare new put t i e = bare_there t i (put.others (Slot t i) (λ (h : Slot t i ≡ Made_word). cc)) e

  -- a slot is filled
  slot_put_bare : (u j new : ℕ) → (kind_of new ≡ word_kinds.Empty → ⊥) → IsPut words (Slot u j) new words' → IsBare words'
  slot_put_bare u j new filled put t i e =
      ⊎_elim
      (λ (table : t ≡ u). ⊎_elim
      (λ (slot : i ≡ j). let here : words' (Slot u j) ≡ new = put.here in absurd (filled (cc)))
      (λ (other : i ≡ j → ⊥). bare_there t i (put.others (Slot t i) (λ (h : Slot t i ≡ Slot u j). other (cc))) e)
      (cases_eq i j))
      (λ (other : t ≡ u → ⊥). bare_there t i (put.others (Slot t i) (λ (h : Slot t i ≡ Slot u j). other (cc))) e)
      (cases_eq t u)

module _ (words : At → ℕ) where
  -- the outcome of a probe agrees with the words
  abbrev IsSeenThere : ProbeStep → Type 0
  IsSeenThere (seen.On search) = IsRead words (Searching search)
  IsSeenThere (seen.Empty at) = word_of_place words at ≡ 0
  IsSeenThere (seen.Here at word) = word_of_place words at ≡ word
  IsSeenThere (seen.Over t) = Unit {0}

  go_on_there : (at : Place) → IsSeenThere (go_on at)
  go_on_there at = cond_both (nat_lt at.probe.len at.limit) (seen.On (Looking (next_place at))) (seen.Over at.table) IsSeenThere (λ _. tt) (λ _. tt)

  hinted_there : (at : Place) (hash hint : ℕ) → IsSeenThere (hinted at hash hint)
  hinted_there at hash hint = cond_both (may_hold hint hash) (seen.On (Reading at)) (go_on at) IsSeenThere (λ _. tt) (λ _. go_on_there at)

  look_there : (kind : Kind) (at : Place) (word : ℕ) → word_of_place words at ≡ word → (kind ≡ word_kinds.Empty → word ≡ 0) → IsSeenThere (look_at kind at word)
  look_there word_kinds.Empty at word read bare = read ∙ bare refl
  look_there word_kinds.Live at word read bare = read
  look_there word_kinds.Marked at word read bare = read
  look_there word_kinds.Copied at word read bare = read
  look_there word_kinds.Buried at word read bare = go_on_there at
  look_there word_kinds.Closed at word read bare = go_on_there at

  match_there : (kind : Kind) (at : Place) (word : ℕ) → word_of_place words at ≡ word → IsSeenThere (match_at kind at word)
  match_there word_kinds.Empty at word read = read
  match_there word_kinds.Live at word read = read
  match_there word_kinds.Marked at word read = read
  match_there word_kinds.Copied at word read = tt
  match_there word_kinds.Buried at word read = read
  match_there word_kinds.Closed at word read = read

  compared_there : (at : Place) (word : ℕ) (same : Bool) → word_of_place words at ≡ word → IsSeenThere (search_compared (Comparing at word) same)
  compared_there at word true read = match_there (kind_of word) at word read
  compared_there at word false read = go_on_there at

  replaces_read : (kind : Kind) (at : Place) (word : ℕ) → word_of_place words at ≡ word → IsRead words (replaces kind at word)
  replaces_read word_kinds.Empty at word read = tt
  replaces_read word_kinds.Live at word read = read
  replaces_read word_kinds.Marked at word read = tt
  replaces_read word_kinds.Copied at word read = tt
  replaces_read word_kinds.Buried at word read = tt
  replaces_read word_kinds.Closed at word read = tt

  removes_read : (kind : Kind) (at : Place) (word : ℕ) → word_of_place words at ≡ word → IsRead words (removes kind at word)
  removes_read word_kinds.Empty at word read = tt
  removes_read word_kinds.Live at word read = read
  removes_read word_kinds.Marked at word read = tt
  removes_read word_kinds.Copied at word read = tt
  removes_read word_kinds.Buried at word read = tt
  removes_read word_kinds.Closed at word read = tt

  -- the remembered choice about a pair fits the word that names it here
  recalls_read : (choice : Option Choice) (at : Place) (word n : ℕ) → word_of_place words at ≡ word → IsRead words (recalls choice at word n)
  recalls_read None at word n read = read
  recalls_read (Some (choices.Replace old new)) at word n read =
      let write : Write = record { place = at; old = word } in
      cond_both (old == n) (recalled new at word) (Showing (record { place = at; word = word })) (IsRead words)
      (λ _. cond_both (serves_at new at.table at.probe.i) (Putting (record { write = write; pair = new.pair })) (Pairing (purposes.Again write))
      (IsRead words) (λ _. read) (λ _. read))
      (λ _. read)
  recalls_read (Some (choices.Remove old)) at word n read =
      let removal : Removal = record { place = at; word = word } in
      cond_both (old == n) (Burying removal) (Showing removal) (IsRead words) (λ _. read) (λ _. read)

  computes_read : (kind : Kind) (held : Remembered) (at : Place) (word : ℕ) → word_of_place words at ≡ word → IsRead words (computes kind held at word)
  computes_read word_kinds.Empty held at word read = tt
  computes_read word_kinds.Live held at word read = recalls_read held.choice at word (pair_of word) read
  computes_read word_kinds.Marked held at word read = tt
  computes_read word_kinds.Copied held at word read = tt
  computes_read word_kinds.Buried held at word read = tt
  computes_read word_kinds.Closed held at word read = tt

  -- a pair that was made is put where its key is still absent
  fills_read : (gap : Gap) (n : ℕ) → IsGapRead words gap → IsRead words (fills gap n)
  fills_read gaps.NoRoot n read = read
  fills_read (gaps.At at) n read = read
  fills_read (gaps.After t) n read = tt

  lacks_read : (fill : Option ℕ) (gap : Gap) → IsGapRead words gap → IsRead words (lacks fill gap)
  lacks_read None gap read = read
  lacks_read (Some n) gap read = fills_read gap n read

  absent_read : (task : Task) (fill : Option ℕ) (gap : Gap) → IsGapRead words gap → IsRead words (absent task fill gap)
  absent_read Get fill gap read = tt
  absent_read (Insert replace) fill gap read = tt
  absent_read RemoveIf fill gap read = tt
  absent_read Compute fill gap read = lacks_read fill gap read

  passes_read : (task : Task) (mode : ResizeMode) (fill : Option ℕ) (t : ℕ) → IsRead words (passes task mode fill t)
  passes_read task (Incremental chunk) fill t = tt
  passes_read task Blocking fill t = absent_read task fill (gaps.After t) tt

  -- the state after a search: the words of its outcome are unchanged
  goes_read : (task : Task) (mode : ResizeMode) (held : Remembered) (s : ProbeStep) → IsSeenThere s → IsRead words (goes_as task mode held s)
  goes_read task mode held (seen.On search) there = there
  goes_read Get mode held (seen.Here at word) there = tt
  goes_read (Insert false) mode held (seen.Here at word) there = occupies_leads (IsRead words) (kind_of word) at word tt tt
  goes_read (Insert true) mode held (seen.Here at word) there = replaces_read (kind_of word) at word there
  goes_read RemoveIf mode held (seen.Here at word) there = removes_read (kind_of word) at word there
  goes_read Compute mode held (seen.Here at word) there = computes_read (kind_of word) held at word there
  goes_read Get mode held (seen.Empty at) there = tt
  goes_read (Insert replace) mode held (seen.Empty at) there = there
  goes_read RemoveIf mode held (seen.Empty at) there = tt
  goes_read Compute mode held (seen.Empty at) there = lacks_read held.fill (gaps.At at) there
  goes_read Get mode held (seen.Over t) there = passes_read Get mode held.fill t
  goes_read (Insert replace) mode held (seen.Over t) there = tt
  goes_read RemoveIf mode held (seen.Over t) there = passes_read RemoveIf mode held.fill t
  goes_read Compute mode held (seen.Over t) there = passes_read Compute mode held.fill t

  root_read : (task : Task) (fill : Option ℕ) (word : ℕ) → words Root ≡ word → IsRead words (at_root task fill word)
  root_read Get fill word read = cond_both (word == 0) (Ended Absent) (Searching (Sizing word)) (IsRead words) (λ _. tt) (λ _. tt)
  root_read (Insert replace) fill word read = cond_both (word == 0) Making (Searching (Sizing word)) (IsRead words)
      (λ none. read ∙ eqb-true word 0 none) (λ _. tt)
  root_read RemoveIf fill word read = cond_both (word == 0) (Ended Absent) (Searching (Sizing word)) (IsRead words) (λ _. tt) (λ _. tt)
  root_read Compute fill word read = cond_both (word == 0) (lacks fill gaps.NoRoot) (Searching (Sizing word)) (IsRead words)
      (λ none. lacks_read fill gaps.NoRoot (read ∙ eqb-true word 0 none)) (λ _. tt)

  next_read : (task : Task) (fill : Option ℕ) (t word : ℕ) → IsRead words (next_or_end task fill t word)
  next_read task fill t word = cond_both (word == 0) (absent task fill (gaps.After t)) (Searching (Sizing word)) (IsRead words)
      (λ _. absent_read task fill (gaps.After t) tt) (λ _. tt)

  agreed_read : (removal : Removal) (agrees : Bool) → word_of_place words removal.place ≡ removal.word → IsRead words (agreed removal agrees)
  agreed_read removal true read = read
  agreed_read removal false read = tt

  written_read : (write : Write) (n : ℕ) → IsRead words (written write n)
  written_read write n = cond_both (write.old == 0) (Counting (claimed_by write n)) (Ended (Replaced (pair_of write.old) n)) (IsRead words) (λ _. tt) (λ _. tt)

  -- the result of a compute's closure is about the words that it was called with
  offered_read : (gap : Gap) (kind : OpKind) → IsGapRead words gap → IsRead words (offered gap kind)
  offered_read gap op_kinds.Insert read = read
  offered_read gap op_kinds.Remove read = tt
  offered_read gap (op_kinds.Abort t) read = tt

  chosen_read : (removal : Removal) (kind : OpKind) → word_of_place words removal.place ≡ removal.word → IsRead words (chosen removal kind)
  chosen_read removal op_kinds.Insert read = read
  chosen_read removal op_kinds.Remove read = read
  chosen_read removal (op_kinds.Abort t) read = tt

  provides_read : (purpose : Purpose) (n : ℕ) → IsPurposeRead words purpose → IsRead words (provides purpose n)
  provides_read (purposes.Fill gap) n read = fills_read gap n read
  provides_read (purposes.Replace write) n read = read
  provides_read (purposes.Again write) n read = read

module _ (words words' : At → ℕ) (m : Machine) (bare : IsBare words) where
  -- after this answer the words that the machine has read are unchanged
  abbrev Stable : Made → State → Answer → Type 0
  Stable made s answer = IsCurrent words' (after (record m { made = made; state = s }) answer)

  -- as many numbers were taken as before
  number_there : (number : Number) → words' Made_word ≡ words Made_word → IsNumberRead words number → IsNumberRead words' number
  number_there Wanted same read = read
  number_there (Free count) same read = same ∙ read
  number_there Taken same read = read

  -- if no word is changed
  quiet : (made : Made) (s : State) (answer told : Answer) → answer ≡ told → IsSame words words'
      → IsNumberRead words' (after (record m { made = made; state = s }) told).made.number
      → IsRead words' (after (record m { made = made; state = s }) told).state → Stable made s answer
  quiet made s answer told e same number read = subst (Stable made s) (sym e) (record { bare = same_bare words words' bare same; number = number; read = read })

  -- the word of a place that was not changed
  there : (at : Place) (word : ℕ) → IsSame words words' → word_of_place words at ≡ word → word_of_place words' at ≡ word
  there at word same read = same (Slot at.table at.probe.i) ∙ read

  -- and a gap and a purpose, if no word was changed
  gap_there : (gap : Gap) → IsSame words words' → IsGapRead words gap → IsGapRead words' gap
  gap_there gaps.NoRoot same read = same Root ∙ read
  gap_there (gaps.At at) same read = there at 0 same read
  gap_there (gaps.After t) same read = tt

  purpose_there : (purpose : Purpose) → IsSame words words' → IsPurposeRead words purpose → IsPurposeRead words' purpose
  purpose_there (purposes.Fill gap) same read = gap_there gap same read
  purpose_there (purposes.Replace write) same read = there write.place write.old same read
  purpose_there (purposes.Again write) same read = there write.place write.old same read

  module _ (made : Made) (number : IsNumberRead words made.number) where
    -- the number that the machine has read is unchanged
    known : IsSame words words' → IsNumberRead words' made.number
    known same = number_there made.number (same Made_word) number

    making_stable : (answer : Answer) → IsMaking answer × IsSame words words' → words Root ≡ 0 → Stable made Making answer
    making_stable answer told read =
        ⊎_elim
        (λ (h : (n : ℕ) × (answer ≡ Made_number n)). quiet made Making answer (Made_number h.0) h.1 told.1 (known told.1) (told.1 Root ∙ read))
        (λ (h : (refused : Refused) × (answer ≡ Was_refused refused)). quiet made Making answer (Was_refused h.0) h.1 told.1 (known told.1) tt)
        told.0

    size_stable : (t : ℕ) (answer : Answer) → IsPrompt m.task words (asks made m.hash (Searching (Sizing t))) answer words'
        → Stable made (Searching (Sizing t)) answer
    size_stable t answer ((slots, limit, size, e), same) = quiet made (Searching (Sizing t)) answer _ e same (known same) tt

    -- a slot was exchanged
    slot_put : (s : State) (at : Place) (new : ℕ) → (kind_of new ≡ word_kinds.Empty → ⊥) → IsPut words (Slot at.table at.probe.i) new words'
        → (next : Made) → next.number ≡ made.number → IsRead words' s → IsCurrent words' (record m { made = next; state = s })
    slot_put s at new filled put next same read = record {
      bare = slot_put_bare words words' bare at.table at.probe.i new filled put;
      number = subst (IsNumberRead words') (sym same)
          (number_there made.number (put.others Made_word (λ (h : Made_word ≡ Slot at.table at.probe.i). cc)) number);
      read = read;
    }

    -- the pair that a compute made is written
    putting_stable : (put : Put) (answer : Answer) → IsRead words (Putting put) → IsPrompt m.task words (asks made m.hash (Putting put)) answer words'
        → Stable made (Putting put) answer
    putting_stable put answer read told =
        let at : At = Slot put.write.place.table put.write.place.probe.i in
        let done : (answer ≡ Exchanged) × IsPut words at (live_word put.pair) words' = exchange_done _ _ (words at) put.write.old read told in
        subst (Stable made (Putting put)) (sym done.0)
        (slot_put (written put.write put.pair) put.write.place (live_word put.pair) (new_filled put.pair) done.1 made refl
        (written_read words' put.write put.pair))

    -- a closure was called with a pair
    showing_stable : (removal : Removal) (answer : Answer) → IsSame words words' → word_of_place words' removal.place ≡ removal.word
        → IsClosureAnswer m.task answer → Stable made (Showing removal) answer
    showing_stable removal answer same read told =
        by_saying (λ task said. IsCurrent words' (after (record m { task = task; made = made; state = Showing removal }) said))
        (λ agrees. record { bare = same_bare words words' bare same; number = known same; read = agreed_read words' removal agrees read })
        (λ kind. record { bare = same_bare words words' bare same; number = answered_known kind same; read = chosen_read words' removal kind read })
        m.task answer told
      where
        answered_known : (kind : OpKind) → IsSame words words' → IsNumberRead words' (answered kind made).number
        answered_known op_kinds.Insert same' = known same'
        answered_known op_kinds.Remove same' = known same'
        answered_known (op_kinds.Abort t) same' = known same'

    -- or with None
    offering_stable : (gap : Gap) (kind : OpKind) (answer : Answer) → answer ≡ Op kind → IsSame words words' → IsGapRead words gap
        → Stable made (Offering gap) answer
    offering_stable gap op_kinds.Insert answer e same read = quiet made (Offering gap) answer (Op op_kinds.Insert) e same (known same)
        (offered_read words' gap op_kinds.Insert (gap_there gap same read))
    offering_stable gap op_kinds.Remove answer e same read = quiet made (Offering gap) answer (Op op_kinds.Remove) e same (known same)
        (offered_read words' gap op_kinds.Remove (gap_there gap same read))
    offering_stable gap (op_kinds.Abort t) answer e same read = quiet made (Offering gap) answer (Op (op_kinds.Abort t)) e same (known same)
        (offered_read words' gap (op_kinds.Abort t) (gap_there gap same read))

    -- a removed pair is deleted
    burying_stable : (removal : Removal) (answer : Answer) → IsRead words (Burying removal)
        → IsPrompt m.task words (asks made m.hash (Burying removal)) answer words' → Stable made (Burying removal) answer
    burying_stable removal answer read told =
        let at : At = Slot removal.place.table removal.place.probe.i in
        let done : (answer ≡ Exchanged) × IsPut words at (grave_word removal.word) words' = exchange_done _ _ (words at) removal.word read told in
        subst (Stable made (Burying removal)) (sym done.0)
        (slot_put (Uncounting (pair_of removal.word)) removal.place (grave_word removal.word) (grave_filled removal.word) done.1 made refl tt)

    -- the hint of a place was loaded
    looking_stable : (at : Place) (answer : Answer) → IsPrompt m.task words (asks made m.hash (Searching (Looking at))) answer words'
        → Stable made (Searching (Looking at)) answer
    looking_stable at answer told =
        let hint : ℕ = told.0.0 in
        quiet made (Searching (Looking at)) answer (Word_read hint) told.0.1 told.1 (known told.1)
        (goes_read words' m.task m.mode m.remembered (hinted at m.hash hint) (hinted_there words' at m.hash hint))

    -- its word was loaded
    reading_stable : (at : Place) (answer : Answer) → IsPrompt m.task words (asks made m.hash (Searching (Reading at))) answer words'
        → Stable made (Searching (Reading at)) answer
    reading_stable at answer told =
        let word : ℕ = word_of_place words at in
        quiet made (Searching (Reading at)) answer (Word_read word) told.0 told.1 (known told.1)
        (goes_read words' m.task m.mode m.remembered (look at word)
        (look_there words' (kind_of word) at word (there at word told.1 refl) (bare at.table at.probe.i)))

    -- the answer about the numbers
    limit_known : (count : ℕ) → words' Made_word ≡ count → IsNumberRead words' made.number → (limit : Option ℕ)
        → IsNumberRead words' (number_told (told_limit made limit count) made).number
    limit_known count is here None = tt
    limit_known count is here (Some most) = cond_both (nat_lt count most) (Some (record made { number = Free count })) None
        (λ o. IsNumberRead words' (number_told o made).number) (λ _. is) (λ _. here)

    told_known : (number : Number) (count : ℕ) → words' Made_word ≡ count → IsNumberRead words' made.number
        → IsNumberRead words' (number_told (told_as made number count) made).number
    told_known Wanted count is here = limit_known count is here made.limit
    told_known (Free n) count is here = limit_known count is here made.limit
    told_known Taken count is here = here

    -- a call that makes a pair: s is its stage, which stays unchanged or ends
    module _ (s : State) (old : ℕ) (answer : Answer)
        (as_loaded : (count : ℕ) → IsSame words words' → IsNumberRead words' (number_told (told_count made count) made).number
        → Stable made s (Word_read count))
        (took : IsBare words' → IsNumberRead words' (taken made).number → IsPut words Made_word (words' Made_word) words' → Stable made s Exchanged)
        (logged : (n : ℕ) → IsSame words words' → Stable made s (Made_number n))
        (refused : (refused : Refused) → IsSame words words' → Stable made s (Was_refused refused)) where
      logs : IsMaking answer × IsSame words words' → Stable made s answer
      logs told_so =
          ⊎_elim
          (λ (h : (n : ℕ) × (answer ≡ Made_number n)). subst (Stable made s) (sym h.1) (logged h.0 told_so.1))
          (λ (h : (refused : Refused) × (answer ≡ Was_refused refused)). subst (Stable made s) (sym h.1) (refused h.0 told_so.1))
          told_so.0

      make_stable : (ask : Ask) → IsMakeAsk ask → IsPrompt m.task words ask answer words' → Stable made s answer
      make_stable MakeKey h told_so = logs told_so
      make_stable MakeValue h told_so = logs told_so
      make_stable MakePair h told_so = logs told_so
      make_stable (MakePairOf n) h told_so = logs told_so
      make_stable (ask_kinds.Load at) h told_so = absurd h
      make_stable (ask_kinds.Exchange at was new) h told_so = absurd h
      make_stable (ask_kinds.LoadHint t x) h told_so = absurd h
      make_stable (ask_kinds.WriteHint t x hint) h told_so = absurd h
      make_stable (ask_kinds.SameKey n) h told_so = absurd h
      make_stable ask_kinds.ShowNone h told_so = absurd h
      make_stable (ask_kinds.ShowPair n) h told_so = absurd h
      make_stable (ask_kinds.SizeOf t) h told_so = absurd h
      make_stable (ask_kinds.MakeTable slots limit chunks) h told_so = absurd h
      make_stable (ask_kinds.AddToShard by) h told_so = absurd h
      make_stable (ask_kinds.Done reply) h told_so = absurd h

      number_stable : (n : Number) → made.number ≡ n → IsNumberRead words n → IsPrompt m.task words (number_ask n made old) answer words' → Stable made s answer
      number_stable Wanted is read told_so = subst (Stable made s) (sym told_so.0)
          (as_loaded (words Made_word) told_so.1 (told_known made.number (words Made_word) (told_so.1 Made_word) (known told_so.1)))
      number_stable (Free count) is read told_so =
          let done : (answer ≡ Exchanged) × IsPut words Made_word (count + 1) words' = exchange_done _ _ (words Made_word) count read told_so in
          subst (Stable made s) (sym done.0)
          (took (number_put_bare words words' bare (count + 1) done.1) (subst (λ y. IsNumberRead words' (taken_as made y).number) (sym is) tt)
          (record { here = refl; others = done.1.others }))
      number_stable Taken is read told_so = make_stable (make_ask made old) (make_asks made old) told_so

      pair_stable : IsPrompt m.task words (pair_ask made old) answer words' → Stable made s answer
      pair_stable told_so = number_stable made.number refl number told_so

    -- storing in the arena leaves the numbers, except that the pair after a stored pair needs one
    own_known : (keyed valued : Bool) → IsNumberRead words' made.number → IsNumberRead words' (made_to_pair (own_grown keyed valued made)).number
    own_known false valued here = here
    own_known true false here = here
    own_known true true here = wanted_known made.limit
      where
        wanted_known : (limit : Option ℕ) → IsNumberRead words' (wanted limit)
        wanted_known None = tt
        wanted_known (Some most) = tt

    of_known : (valued : Bool) → IsNumberRead words' made.number → IsNumberRead words' (made_to_pair (of_grown valued made)).number
    of_known false here = here
    of_known true here = wanted_known made.limit
      where
        wanted_known : (limit : Option ℕ) → IsNumberRead words' (wanted limit)
        wanted_known None = tt
        wanted_known (Some most) = tt

    grown_known : (n : Number) (old : ℕ) → IsNumberRead words' made.number → IsNumberRead words' (made_to_pair (grown_as n made old)).number
    grown_known Wanted old here = here
    grown_known (Free count) old here = here
    grown_known Taken old here = cond_both (old == 0) (own_grown made.keyed made.valued made) (of_grown made.valued made)
        (λ G. IsNumberRead words' (made_to_pair G).number) (λ _. own_known made.keyed made.valued here) (λ _. of_known made.valued here)

    -- a compute that makes a pair
    pairing_stable : (purpose : Purpose) (answer : Answer) → IsRead words (Pairing purpose)
        → IsPrompt m.task words (asks made m.hash (Pairing purpose)) answer words' → Stable made (Pairing purpose) answer
    pairing_stable purpose answer read told_so =
        pair_stable (Pairing purpose) (in_place_of purpose) answer
        (λ count same n. record {
          bare = same_bare words words' bare same;
          number = n;
          read = numbered_leads (IsRead words') tt (Pairing purpose)
              (purpose_there purpose same read) (told_count made count);
        })
        (λ still n put. record { bare = still; number = n; read = purpose_put purpose put read })
        (λ n same. record {
          bare = same_bare words words' bare same;
          number = grown_known made.number (in_place_of purpose) (known same);
          read = paired_leads (IsRead words') purpose n (purpose_there purpose same read)
              (provides_read words' purpose n (purpose_there purpose same read)) (grown made (in_place_of purpose));
        })
        (λ refused same. record { bare = same_bare words words' bare same; number = known same; read = tt })
        told_so
      where
        gap_put : (gap : Gap) → IsPut words Made_word (words' Made_word) words' → IsGapRead words gap → IsGapRead words' gap
        gap_put gaps.NoRoot put there_so = put.others Root (λ (h : Root ≡ Made_word). cc) ∙ there_so
        gap_put (gaps.At at) put there_so = put.others (Slot at.table at.probe.i) (λ (h : Slot at.table at.probe.i ≡ Made_word). cc) ∙ there_so
        gap_put (gaps.After t) put there_so = tt

        purpose_put : (purpose : Purpose) → IsPut words Made_word (words' Made_word) words' → IsPurposeRead words purpose → IsPurposeRead words' purpose
        purpose_put (purposes.Fill gap) put there_so = gap_put gap put there_so
        purpose_put (purposes.Replace write) put there_so = put.others (Slot write.place.table write.place.probe.i)
            (λ (h : Slot write.place.table write.place.probe.i ≡ Made_word). cc) ∙ there_so
        purpose_put (purposes.Again write) put there_so = put.others (Slot write.place.table write.place.probe.i)
            (λ (h : Slot write.place.table write.place.probe.i ≡ Made_word). cc) ∙ there_so

    -- an insertion that makes its pair and writes it
    writing_stable : (write : Write) (served : Option ℕ) → serves made write ≡ served → (answer : Answer) → IsRead words (Writing write)
        → IsPrompt m.task words (served_ask served write made) answer words' → Stable made (Writing write) answer
    writing_stable write None is answer read told_so =
        pair_stable (Writing write) write.old answer
        (λ count same n. subst (λ o. IsCurrent words' (record m { made = write_made o made count; state = write_told o made write count })) (sym is)
        (record {
          bare = same_bare words words' bare same;
          number = n;
          read = numbered_leads (IsRead words') tt (Writing write)
              (there write.place write.old same read) (told_count made count);
        }))
        (λ still n put. subst (λ o. IsCurrent words' (record m { made = write_taken o made; state = exchanged o write })) (sym is)
        (record {
          bare = still;
          number = n;
          read = put.others (Slot write.place.table write.place.probe.i)
              (λ (h : Slot write.place.table write.place.probe.i ≡ Made_word). cc) ∙ read;
        }))
        (λ n same. subst (λ o. IsCurrent words' (record m { made = write_grown o made write n; state = Writing write })) (sym is)
        (record {
          bare = same_bare words words' bare same;
          number = write_known write n (grown made write.old)
              (grown_known made.number write.old (known same));
          read = there write.place write.old same read;
        }))
        (λ refused same. subst (λ o. IsCurrent words' (record m { made = made; state = refuses o refused write })) (sym is)
        (record { bare = same_bare words words' bare same; number = known same; read = tt }))
        told_so
      where
        write_known : (write : Write) (n : ℕ) (G : Grown) → IsNumberRead words' (made_to_pair G).number → IsNumberRead words' (made_to_write G write n).number
        write_known write n (On next) here = here
        write_known write n (Pair next) here = cond_both (write.old == 0) (record next { own = Some n }) (record next { of = Some (made_of write n) })
            (λ (y : Made). IsNumberRead words' y.number) (λ _. here) (λ _. here)
    writing_stable write (Some n) is answer read told_so =
        let at : At = Slot write.place.table write.place.probe.i in
        let done : (answer ≡ Exchanged) × IsPut words at (live_word n) words' = exchange_done _ _ (words at) write.old read told_so in
        subst (Stable made (Writing write)) (sym done.0)
        (subst (λ o. IsCurrent words' (record m { made = write_taken o made; state = exchanged o write })) (sym is)
        (slot_put (written write n) write.place (live_word n) (new_filled n) done.1 made refl (written_read words' write n)))

    -- in each state
    stable_in : (s : State) (answer : Answer) → IsRead words s → IsPrompt m.task words (asks made m.hash s) answer words' → Stable made s answer
    stable_in AtRoot answer read told = quiet made AtRoot answer _ told.0 told.1 (known told.1)
        (root_read words' m.task m.remembered.fill (words Root) (told.1 Root))
    stable_in Making answer read told = making_stable answer told read
    stable_in (Opening t) answer read told =
        let done : (answer ≡ Exchanged) × IsPut words Root t words' = exchange_done _ _ (words Root) 0 read told in
        subst (Stable made (Opening t)) (sym done.0)
        (record {
          bare = root_put_bare words words' bare t done.1;
          number = number_there made.number
              (done.1.others Made_word (λ (h : Made_word ≡ Root). cc)) number;
          read = tt;
        })
    stable_in (Searching (Sizing t)) answer read told = size_stable t answer told
    stable_in (Searching (Looking at)) answer read told = looking_stable at answer told
    stable_in (Searching (Reading at)) answer read told = reading_stable at answer told
    stable_in (Searching (Comparing at word)) answer read told =
        quiet made (Searching (Comparing at word)) answer (Yes told.0.0) told.0.1 told.1 (known told.1)
        (goes_read words' m.task m.mode m.remembered (search_compared (Comparing at word) told.0.0)
        (compared_there words' at word told.0.0 (there at word told.1 read)))
    stable_in (Writing write) answer read told = writing_stable write (serves made write) refl answer read told
    stable_in (Offering gap) answer read told = offering_stable gap told.0.0 answer told.0.1 told.1 read
    stable_in (Showing removal) answer read told = showing_stable removal answer told.1 (there removal.place removal.word told.1 read) told.0
    stable_in (Pairing purpose) answer read told = pairing_stable purpose answer read told
    stable_in (Putting put) answer read told = putting_stable put answer read told
    stable_in (Burying removal) answer read told = burying_stable removal answer read told
    stable_in (Counting n) answer read told = quiet made (Counting n) answer _ told.0 told.1 (known told.1) tt
    stable_in (Noting n) answer read told = quiet made (Noting n) answer _ told.0 told.1 (known told.1) tt
    stable_in (Uncounting n) answer read told = quiet made (Uncounting n) answer _ told.0 told.1 (known told.1) tt
    stable_in (Leaving t) answer read told = quiet made (Leaving t) answer _ told.0 told.1 (known told.1)
        (next_read words' m.task m.remembered.fill t (words (Next t)))
    stable_in (Growing t) answer read told = quiet made (Growing t) answer _ told.0 told.1 (known told.1) tt
    stable_in (Ended reply) answer read told = absurd told

  -- for the whole machine
  pub machine_stable : (answer : Answer) → IsNumberRead words m.made.number → IsRead words m.state → IsPrompt m.task words (ask_of m) answer words'
      → IsCurrent words' (after m answer)
  machine_stable answer number read told = stable_in m.made number m.state answer read told
