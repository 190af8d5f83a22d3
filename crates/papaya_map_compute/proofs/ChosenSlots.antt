-- A pair that a compute puts in place of another was made for that slot.
use Rattle.std.proofs.Common.{◌≡◌, ◌⊎◌, inl, inr, ⊎_elim, ℕ, ◌<◌, ◌==◌, eqb-true, true, Option, None, Some, refl, sym, ap, ◌∙◌, subst, arith}
use Rattle.std.proofs.lemmas.Bool.{and_parts, cond_both}
use Rattle.papaya_words.specs.Word.{kind_of, live_word, pair_of}
use Rattle.papaya_words.specs.declared.resize_mode.ResizeMode.{ResizeMode}
use Rattle.papaya_words.specs.declared.resize_mode.ResizeMode.TheVariants.{Incremental, Blocking}
use Rattle.papaya_words.specs.declared.word.Kind.{Kind}
use Rattle.papaya_words.specs.declared.word.Kind.TheVariants as word_kinds
use Rattle.papaya_call.specs.declared.ask.At.TheVariants.{Slot}
use Rattle.papaya_call.specs.declared.ask.Ask.TheVariants.{Exchange as Ask_exchange}
use Rattle.papaya_call.specs.declared.ask.Answer.{Answer}
use Rattle.papaya_call.specs.declared.ask.Answer.TheVariants.{Word as Word_read, Exchanged}
use Rattle.papaya_call.specs.declared.ask.Answer.TheVariants.{Found as Found_instead, Yes, Op, Size}
use Rattle.papaya_call.specs.declared.ask.Answer.TheVariants.{Made as Made_number, Ok as Ok_done}
use Rattle.papaya_call.specs.declared.ask.Answer.TheVariants.{Refused as Was_refused}
use Rattle.papaya_call.specs.declared.ask.OpKind.{OpKind}
use Rattle.papaya_call.specs.declared.ask.OpKind.TheVariants as ops
use Rattle.papaya_call.specs.declared.ask.StepKind.TheVariants as kinds
use Rattle.papaya_call.specs.declared.call.Reply.TheVariants.{Replaced}
use Rattle.papaya_call.specs.declared.call.Task.{Task}
use Rattle.papaya_call.specs.declared.call.Task.TheVariants.{Get, Insert, RemoveIf, Compute}
use Rattle.papaya_call.specs.declared.search.Place.{Place}
use Rattle.papaya_call.specs.declared.search.Search.TheVariants.{Sizing, Looking, Reading, Comparing}
use Rattle.papaya_call.specs.declared.search.ProbeStep.{ProbeStep}
use Rattle.papaya_call.specs.declared.search.ProbeStep.TheVariants as seen
use Rattle.papaya_call.specs.Search.{look as look_seen, at_word as search_loaded, at_yes as search_compared}
use Rattle.papaya_call.specs.declared.compute.Choice.{Choice}
use Rattle.papaya_call.specs.declared.compute.Choice.TheVariants.{Replace as To_replace, Remove as To_remove}
use Rattle.papaya_call.specs.declared.compute.Gap.{Gap}
use Rattle.papaya_call.specs.declared.compute.Gap.TheVariants.{NoRoot, At, After}
use Rattle.papaya_call.specs.declared.compute.Purpose.{Purpose}
use Rattle.papaya_call.specs.declared.compute.Purpose.TheVariants.{Fill, Replace, Again}
use Rattle.papaya_call.specs.declared.compute.Put.{Put}
use Rattle.papaya_call.specs.declared.compute.Remembered.{Remembered}
use Rattle.papaya_call.specs.declared.machine.Machine.{Machine}
use Rattle.papaya_call.specs.declared.machine.State.{State}
use Rattle.papaya_call.specs.declared.machine.State.TheVariants.{AtRoot, Making, Opening, Searching}
use Rattle.papaya_call.specs.declared.machine.State.TheVariants.{Writing, Offering, Showing}
use Rattle.papaya_call.specs.declared.machine.State.TheVariants.{Pairing, Putting, Burying}
use Rattle.papaya_call.specs.declared.machine.State.TheVariants.{Counting, Noting, Uncounting}
use Rattle.papaya_call.specs.declared.machine.State.TheVariants.{Leaving, Growing, Ended}
use Rattle.papaya_call.specs.declared.made.Grown.{Grown}
use Rattle.papaya_call.specs.declared.made.Grown.TheVariants.{On, Pair}
use Rattle.papaya_call.specs.declared.made.Made.{Made}
use Rattle.papaya_call.specs.declared.made.Of.{Of}
use Rattle.papaya_call.specs.declared.write.Write.{Write}
use Rattle.papaya_call.specs.Compute.{fills, in_place_of, recalled, recalls}
use Rattle.papaya_call.specs.Machine.{IsValid, IsValidState, absent, after, ask_of, asks}
use Rattle.papaya_call.specs.Machine.{at_root, computes, goes_as, held_at_op, held_in, kind_asked}
use Rattle.papaya_call.specs.Machine.{kind_of_ask, left, paired, paired_held, written}
use Rattle.papaya_call.specs.Made.{grown, pair_ask, serves_at, told}
use Rattle.papaya_call.specs.Write.{claimed_by, made_of, put_ask}
use Rattle.papaya_call_law.proofs.Makings.{IsPairAsk, makes_pair, numbered_leads, pairing_asks}
use Rattle.papaya_call_law.proofs.NewWords.{pair_of-live_word}
use Rattle.papaya_call_law.specs.Says.{MakesPair}
use Rattle.papaya_map_compute.specs.Putting.{PutsChosen, PutsIn}

-- a pair that fills replaces none
fills_puts : (choice : Option Choice) (gap : Gap) (n : ℕ) → PutsIn choice (fills gap n)
fills_puts choice NoRoot n = tt
fills_puts choice (At place) n = λ (some : 0 < 0). absurd (omega (arith, some))
fills_puts choice (After t) n = tt

absent_puts : (choice : Option Choice) (fill : Option ℕ) (gap : Gap) → PutsIn choice (absent Compute fill gap)
absent_puts choice None gap = tt
absent_puts choice (Some n) gap = fills_puts choice gap n

-- a pair that is remembered is used in its slot alone
serves_of : (new : Of) (at : Place) (word : ℕ) → serves_at new at.table at.probe.i ≡ true → new ≡ made_of (record { place = at; old = word }) new.pair
serves_of new at word serves =
    let parts = and_parts (new.table == at.table) (new.index == at.probe.i) serves in
    let table : new.table ≡ at.table = eqb-true new.table at.table parts.0 in
    let index : new.index ≡ at.probe.i = eqb-true new.index at.probe.i parts.1 in
    subst (λ (x : ℕ). new ≡ record { pair = new.pair; table = at.table; index = x }) index
    (ap (λ (t : ℕ). record { pair = new.pair; table = t; index = new.index }) table)

recalls_puts : (choice : Option Choice) (at : Place) (word : ℕ) → PutsIn choice (recalls choice at word (pair_of word))
recalls_puts None at word = tt
recalls_puts (Some (To_replace old new)) at word =
    let choice : Option Choice = Some (To_replace old new) in
    cond_both (old == pair_of word) (recalled new at word) (Showing (record { place = at; word = word })) (PutsIn choice)
    (λ same.
    cond_both (serves_at new at.table at.probe.i) (Putting (record { write = record { place = at; old = word }; pair = new.pair }))
    (Pairing (Again (record { place = at; old = word }))) (PutsIn choice)
    (λ serves some. ap (λ n. Some (To_replace n new)) (eqb-true old (pair_of word) same)
    ∙ ap (λ of. Some (To_replace (pair_of word) of)) (serves_of new at word serves))
    (λ _. tt))
    (λ _. tt)
recalls_puts (Some (To_remove old)) at word =
    cond_both (old == pair_of word) (Burying (record { place = at; word = word })) (Showing (record { place = at; word = word }))
    (PutsIn (Some (To_remove old))) (λ _. tt) (λ _. tt)

-- it is so if a pair is met
computes_puts : (kd : Kind) (held : Remembered) (at : Place) (word : ℕ) → PutsIn held.choice (computes kd held at word)
computes_puts word_kinds.Empty held at word = tt
computes_puts word_kinds.Live held at word = recalls_puts held.choice at word
computes_puts word_kinds.Marked held at word = tt
computes_puts word_kinds.Copied held at word = tt
computes_puts word_kinds.Buried held at word = tt
computes_puts word_kinds.Closed held at word = tt

goes_puts : (mode : ResizeMode) (held : Remembered) (s : ProbeStep) → PutsIn held.choice (goes_as Compute mode held s)
goes_puts mode held (seen.On way) = tt
goes_puts mode held (seen.Here at word) = computes_puts (kind_of word) held at word
goes_puts mode held (seen.Empty at) = absent_puts held.choice held.fill (At at)
goes_puts (Incremental chunk) held (seen.Over t) = tt
goes_puts Blocking held (seen.Over t) = absent_puts held.choice held.fill (After t)

-- and if a table has no pair of the key
root_puts : (choice : Option Choice) (fill : Option ℕ) (word : ℕ) → PutsIn choice (at_root Compute fill word)
root_puts choice fill word = cond_both (word == 0) (absent Compute fill NoRoot) (Searching (Sizing word)) (PutsIn choice)
    (λ _. absent_puts choice fill NoRoot) (λ _. tt)

next_puts : (choice : Option Choice) (fill : Option ℕ) (t word : ℕ) → PutsIn choice (left Compute fill t word)
next_puts choice fill t word = cond_both (word == 0) (absent Compute fill (After t)) (Searching (Sizing word)) (PutsIn choice)
    (λ _. absent_puts choice fill (After t)) (λ _. tt)

written_puts : (choice : Option Choice) (write : Write) (n : ℕ) → PutsIn choice (written write n)
written_puts choice write n = cond_both (write.old == 0) (Counting (claimed_by write n)) (Ended (Replaced (pair_of write.old) n)) (PutsIn choice)
    (λ _. tt) (λ _. tt)

-- one that was made is remembered for its slot
pairing_puts : (held : Remembered) (purpose : Purpose) (n : ℕ) (G : Grown) → PutsIn (paired_held G held purpose n).choice (paired G purpose n)
pairing_puts held purpose n (On made) = tt
pairing_puts held (Fill gap) n (Pair made) = fills_puts None gap n
pairing_puts held (Replace write) n (Pair made) = λ some. refl
pairing_puts held (Again write) n (Pair made) = λ some. refl

module _ (m : Machine) where
  -- the compute in another state
  abbrev on : Made → State → Machine
  on made stage = record m { task = Compute; made = made; state = stage }

  puts_in : (made : Made) (stage : State) (answer : Answer) → IsValidState Compute stage → PutsIn m.remembered.choice stage
      → PutsChosen (after (on made stage) answer)
  puts_in made AtRoot (Word_read word) is h = root_puts m.remembered.choice m.remembered.fill word
  puts_in made AtRoot answer is h = tt
  puts_in made Making Exchanged is h = tt
  puts_in made Making answer is h = tt
  puts_in made (Opening t) Exchanged is h = tt
  puts_in made (Opening t) answer is h = tt
  puts_in made (Searching way) (Word_read word) is h = goes_puts m.mode m.remembered (search_loaded way m.hash word)
  puts_in made (Searching way) (Yes same) is h = goes_puts m.mode m.remembered (search_compared way same)
  puts_in made (Searching way) answer is h = tt
  puts_in made (Writing write) answer is h = absurd is.0
  puts_in made (Offering gap) (Op ops.Insert) is h = tt
  puts_in made (Offering gap) (Op ops.Remove) is h = tt
  puts_in made (Offering gap) (Op (ops.Abort with)) is h = tt
  puts_in made (Offering gap) answer is h = tt
  puts_in made (Showing removal) (Op ops.Insert) is h = tt
  puts_in made (Showing removal) (Op ops.Remove) is h = tt
  puts_in made (Showing removal) (Op (ops.Abort with)) is h = tt
  puts_in made (Showing removal) answer is h = tt
  puts_in made (Pairing purpose) (Made_number n) is h = pairing_puts m.remembered purpose n (grown made (in_place_of purpose))
  puts_in made (Pairing purpose) (Word_read word) is h = numbered_leads (PutsIn m.remembered.choice) tt (Pairing purpose) tt (told made word)
  puts_in made (Pairing purpose) (Found_instead word) is h = numbered_leads (PutsIn m.remembered.choice) tt (Pairing purpose) tt (told made word)
  puts_in made (Pairing purpose) answer is h = tt
  puts_in made (Putting put) Exchanged is h = written_puts m.remembered.choice put.write put.pair
  puts_in made (Putting put) (Found_instead word) is h = goes_puts m.mode m.remembered (look_seen put.write.place word)
  puts_in made (Putting put) answer is h = h
  puts_in made (Burying removal) (Found_instead word) is h = goes_puts m.mode m.remembered (look_seen removal.place word)
  puts_in made (Burying removal) answer is h = tt
  puts_in made (Counting claimed) Exchanged is h = tt
  puts_in made (Counting claimed) answer is h = tt
  puts_in made (Noting claimed) Exchanged is h = tt
  puts_in made (Noting claimed) answer is h = tt
  puts_in made (Uncounting n) Exchanged is h = tt
  puts_in made (Uncounting n) answer is h = tt
  puts_in made (Leaving t) (Word_read word) is h = next_puts m.remembered.choice m.remembered.fill t word
  puts_in made (Leaving t) answer is h = tt
  puts_in made (Growing need) Exchanged is h = tt
  puts_in made (Growing need) answer is h = tt
  puts_in made (Ended reply) Exchanged is h = tt
  puts_in made (Ended reply) answer is h = tt

  -- for the whole machine of a compute
  pub machine_puts : (answer : Answer) → m.task ≡ Compute → IsValid m → PutsChosen m → PutsChosen (after m answer)
  machine_puts answer is valid h = subst (λ t. IsValidState t m.state → PutsChosen (after (record m { task = t }) answer)) (sym is)
      (λ s. puts_in m.made m.state answer s h) valid.state

-- so does a compute that receives the root and starts again
pub puts_anew : (m : Machine) (root : ℕ) → m.task ≡ Compute → PutsChosen (after (record m { state = AtRoot }) (Word_read root))
puts_anew m root is = subst (λ (t : Task). PutsIn m.remembered.choice (at_root t m.remembered.fill root)) (sym is)
    (root_puts m.remembered.choice m.remembered.fill root)

-- It remembered this before, or a pair was made now.
made_choice : (made : Made) (held : Remembered) (purpose : Purpose) (n : ℕ) (G : Grown) → grown made (in_place_of purpose) ≡ G
    → (paired_held G held purpose n).choice ≡ held.choice ⊎ MakesPair (pair_ask made (in_place_of purpose))
made_choice made held purpose n (On next) is = inl refl
made_choice made held purpose n (Pair next) is = inr (makes_pair made (in_place_of purpose) next is)

module _ (m : Machine) (old : ℕ) (new : Of) where
  abbrev Before : State → Answer → Type 0
  Before stage answer = (m.remembered.choice ≡ Some (To_replace old new)) ⊎ (MakesPair (asks m.made m.hash stage) × ((n : ℕ) × (answer ≡ Made_number n)))

  chosen_by : (task : Task) (stage : State) (kind : OpKind) → (held_at_op task m.remembered kind stage).choice ≡ Some (To_replace old new)
      → m.remembered.choice ≡ Some (To_replace old new)
  chosen_by Compute (Showing removal) ops.Insert e = e
  chosen_by Compute (Showing removal) ops.Remove e = absurd cc
  chosen_by Compute (Showing removal) (ops.Abort with) e = e
  chosen_by Get (Showing removal) kind e = e
  chosen_by (Insert replace) (Showing removal) kind e = e
  chosen_by RemoveIf (Showing removal) kind e = e
  chosen_by task stage kind e = e

  made_by : (stage : State) (n : ℕ) → (held_in m.made m.remembered n stage).choice ≡ Some (To_replace old new) → Before stage (Made_number n)
  made_by (Pairing purpose) n e = ⊎_elim (λ same. inl (sym same ∙ e)) (λ makes. inr (makes, (n, refl)))
      (made_choice m.made m.remembered purpose n (grown m.made (in_place_of purpose)) refl)
  made_by stage n e = inl e

  pub machine_choice : (answer : Answer) → (after m answer).remembered.choice ≡ Some (To_replace old new) → Before m.state answer
  machine_choice (Op kind) e = inl (chosen_by m.task m.state kind e)
  machine_choice (Made_number n) e = made_by m.state n e
  machine_choice (Word_read word) e = inl e
  machine_choice Exchanged e = inl e
  machine_choice (Found_instead word) e = inl e
  machine_choice (Yes same) e = inl e
  machine_choice (Size slots limit) e = inl e
  machine_choice Ok_done e = inl e
  machine_choice (Was_refused refused) e = inl e

-- A pair that it asks to put in the place of another was made for this slot.
pub record IsForSlot (m : Machine) (t x old new : ℕ) : Type 0 where
  pub of : Of
  pub choice : m.remembered.choice ≡ Some (To_replace (pair_of old) of)
  pub pair : of.pair ≡ pair_of new
  pub table : of.table ≡ t
  pub index : of.index ≡ x

module _ (m : Machine) (t x old new : ℕ) where
  abbrev ForSlot : State → Type 0
  ForSlot stage = IsForSlot (record m { state = stage }) t x old new

  put_slot : (put : Put) → PutsIn m.remembered.choice (Putting put) → put_ask put.write put.pair ≡ Ask_exchange (Slot t x) old new → 0 < old
      → ForSlot (Putting put)
  put_slot put puts e some =
      let table : put.write.place.table ≡ t = cc e in
      let index : put.write.place.probe.i ≡ x = cc e in
      let same : put.write.old ≡ old = cc e in
      let word : live_word put.pair ≡ new = cc e in
      record {
        of = made_of put.write put.pair;
        choice = puts (subst (λ o. 0 < o) (sym same) some) ∙ ap (λ o. Some (To_replace (pair_of o) (made_of put.write put.pair))) same;
        pair = sym (pair_of-live_word put.pair) ∙ ap pair_of word;
        table = table;
        index = index;
      }

  -- in each state
  slot_in : (stage : State) → IsValidState Compute stage → PutsIn m.remembered.choice stage
      → asks m.made m.hash stage ≡ Ask_exchange (Slot t x) old new → kind_asked m.made stage ≡ Some kinds.Replace → 0 < old → ForSlot stage
  slot_in (Putting put) is puts e kind some = put_slot put puts e some
  slot_in (Burying removal) is puts e kind some = absurd cc
  slot_in (Writing write) is puts e kind some = absurd is.0
  slot_in (Pairing purpose) is puts e kind some = absurd (subst IsPairAsk e (pairing_asks m.made purpose))
  slot_in (Searching (Sizing u)) is puts e kind some = absurd cc
  slot_in (Searching (Looking at)) is puts e kind some = absurd cc
  slot_in (Searching (Reading at)) is puts e kind some = absurd cc
  slot_in (Searching (Comparing at word)) is puts e kind some = absurd cc
  slot_in stage is puts e kind some = absurd cc

  pub machine_slot : m.task ≡ Compute → IsValid m → PutsChosen m → ask_of m ≡ Ask_exchange (Slot t x) old new → kind_of_ask m ≡ Some kinds.Replace
      → 0 < old → IsForSlot m t x old new
  machine_slot is valid puts e kind some = slot_in m.state (subst (λ (task : Task). IsValidState task m.state) is valid.state) puts e kind some
