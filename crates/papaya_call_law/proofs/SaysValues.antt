-- The value that was stored last is that of the pair which a compute remembers, until its closure
-- returns a newer one.
use Rattle.std.proofs.Common.{◌≡◌, ◌⊎◌, inl, inr, ⊎_elim, ℕ, ◌==◌, nat_lt, Bool, true, false, Option, None, Some, refl, sym, ap, ◌∙◌, subst}
use Rattle.std.proofs.lemmas.Bool.{cond_both}
use Rattle.papaya_call.specs.declared.ask.Answer.{Answer}
use Rattle.papaya_call.specs.declared.ask.Answer.TheVariants.{Word as Word_read, Exchanged}
use Rattle.papaya_call.specs.declared.ask.Answer.TheVariants.{Found as Found_instead, Yes, Op, Size}
use Rattle.papaya_call.specs.declared.ask.Answer.TheVariants.{Made as Made_number, Ok as Ok_done}
use Rattle.papaya_call.specs.declared.ask.Answer.TheVariants.{Refused as Was_refused}
use Rattle.papaya_call.specs.declared.ask.OpKind.{OpKind}
use Rattle.papaya_call.specs.declared.ask.OpKind.TheVariants as ops
use Rattle.papaya_call.specs.declared.call.Task.{Task}
use Rattle.papaya_call.specs.declared.call.Task.TheVariants.{Get, Insert, RemoveIf, Compute}
use Rattle.papaya_call.specs.declared.compute.Choice.TheVariants.{Replace as To_replace}
use Rattle.papaya_call.specs.declared.compute.Gap.{Gap}
use Rattle.papaya_call.specs.declared.compute.Purpose.{Purpose}
use Rattle.papaya_call.specs.declared.compute.Purpose.TheVariants.{Fill, Replace, Again}
use Rattle.papaya_call.specs.declared.compute.Remembered.{Remembered}
use Rattle.papaya_call.specs.declared.made.Grown.{Grown}
use Rattle.papaya_call.specs.declared.made.Grown.TheVariants.{On, Pair}
use Rattle.papaya_call.specs.declared.made.Made.{Made}
use Rattle.papaya_call.specs.declared.made.Number.{Number}
use Rattle.papaya_call.specs.declared.made.Number.TheVariants.{Wanted, Free, Taken}
use Rattle.papaya_call.specs.declared.made.Of.{Of}
use Rattle.papaya_call.specs.declared.remove.Removal.{Removal}
use Rattle.papaya_call.specs.declared.write.Write.{Write}
use Rattle.papaya_call.specs.declared.machine.Machine.{Machine}
use Rattle.papaya_call.specs.declared.machine.State.{State as Stage}
use Rattle.papaya_call.specs.declared.machine.State.TheVariants.{AtRoot, Making, Opening, Searching}
use Rattle.papaya_call.specs.declared.machine.State.TheVariants.{Writing, Offering, Showing}
use Rattle.papaya_call.specs.declared.machine.State.TheVariants.{Pairing, Putting, Burying}
use Rattle.papaya_call.specs.declared.machine.State.TheVariants.{Counting, Noting, Uncounting}
use Rattle.papaya_call.specs.declared.machine.State.TheVariants.{Leaving, Growing, Ended}
use Rattle.papaya_call.specs.Compute.{in_place_of}
use Rattle.papaya_call.specs.Made.{grown, grown_as, of_grown, own_grown, taken_as, told, told_as, told_limit}
use Rattle.papaya_call.specs.Machine.{after, at_word, made_at_exchanged, made_at_word, made_to_pair, number_told, paired, paired_held, write_made, write_taken}
use Rattle.papaya_call.specs.Write.{made_of, made_to_write, serves, write_grown}
use Rattle.papaya_call_law.specs.Says.{HasValue, IsAnswered}
use Rattle.papaya_call_law.proofs.Makings.{numbered_leads}

-- a value that was stored in the arena stays there
limit_valued : (made : Made) → made.valued ≡ true → (limit : Option ℕ) (count : ℕ) → (number_told (told_limit made limit count) made).valued ≡ true
limit_valued made v None count = v
limit_valued made v (Some most) count = cond_both (nat_lt count most) (Some (record made { number = Free count })) None
    (λ o. (number_told o made).valued ≡ true) (λ _. v) (λ _. v)

told_valued : (made : Made) → made.valued ≡ true → (number : Number) (count : ℕ) → (number_told (told_as made number count) made).valued ≡ true
told_valued made v Wanted count = limit_valued made v made.limit count
told_valued made v (Free n) count = limit_valued made v made.limit count
told_valued made v Taken count = v

taken_valued : (made : Made) → made.valued ≡ true → (number : Number) → (taken_as made number).valued ≡ true
taken_valued made v Wanted = v
taken_valued made v (Free n) = v
taken_valued made v Taken = v

own_valued : (made : Made) → made.valued ≡ true → (keyed valued : Bool) → (made_to_pair (own_grown keyed valued made)).valued ≡ true
own_valued made v false valued = v
own_valued made v true false = refl
own_valued made v true true = v

of_valued : (made : Made) → made.valued ≡ true → (valued : Bool) → (made_to_pair (of_grown valued made)).valued ≡ true
of_valued made v false = refl
of_valued made v true = v

grown_valued : (made : Made) → made.valued ≡ true → (number : Number) (old : ℕ) → (made_to_pair (grown_as number made old)).valued ≡ true
grown_valued made v Wanted old = v
grown_valued made v (Free n) old = v
grown_valued made v Taken old = cond_both (old == 0) (own_grown made.keyed made.valued made) (of_grown made.valued made)
    (λ G. (made_to_pair G).valued ≡ true) (λ _. own_valued made v made.keyed made.valued) (λ _. of_valued made v made.valued)

-- a pair is made from a value that is stored in the arena
own_pair_valued : (made next : Made) (keyed valued : Bool) → made.valued ≡ valued → own_grown keyed valued made ≡ Pair next → made.valued ≡ true
own_pair_valued made next false valued v e = absurd cc
own_pair_valued made next true false v e = absurd cc
own_pair_valued made next true true v e = v

of_pair_valued : (made next : Made) (valued : Bool) → made.valued ≡ valued → of_grown valued made ≡ Pair next → made.valued ≡ true
of_pair_valued made next false v e = absurd cc
of_pair_valued made next true v e = v

pair_valued : (made next : Made) (number : Number) (old : ℕ) → grown_as number made old ≡ Pair next → made.valued ≡ true
pair_valued made next Wanted old e = absurd cc
pair_valued made next (Free n) old e = absurd cc
pair_valued made next Taken old e =
    cond_both (old == 0) (own_grown made.keyed made.valued made) (of_grown made.valued made) (λ G. G ≡ Pair next → made.valued ≡ true)
    (λ _ is. own_pair_valued made next made.keyed made.valued refl is) (λ _ is. of_pair_valued made next made.valued refl is) e

write_valued : (write : Write) (n : ℕ) (G : Grown) → (made_to_pair G).valued ≡ true → (made_to_write G write n).valued ≡ true
write_valued write n (On made) v = v
write_valued write n (Pair made) v = cond_both (write.old == 0) (record made { own = Some n }) (record made { of = Some (made_of write n) })
    (λ (m : Made). m.valued ≡ true) (λ _. v) (λ _. v)

module _ (m : Machine) where
  -- a value is stored in the arena, or a newer result of the closure waits
  abbrev Value : Made → Stage → Type 0
  Value made stage = (made.valued ≡ true) ⊎ IsAnswered stage

  -- it stays, or the stage is one that waits for a newer one
  module _ (made : Made) where
    word_valued : (stage : Stage) (count : ℕ) → made.valued ≡ true → (made_at_word made count stage).valued ≡ true
    word_valued (Writing write) count v = by_served (serves made write)
      where
        by_served : (served : Option ℕ) → (write_made served made count).valued ≡ true
        by_served None = told_valued made v made.number count
        by_served (Some n) = v
    word_valued (Pairing purpose) count v = told_valued made v made.number count
    word_valued AtRoot count v = v
    word_valued Making count v = v
    word_valued (Opening t) count v = v
    word_valued (Searching search) count v = v
    word_valued (Offering gap) count v = v
    word_valued (Showing removal) count v = v
    word_valued (Putting put) count v = v
    word_valued (Burying removal) count v = v
    word_valued (Counting claimed) count v = v
    word_valued (Noting claimed) count v = v
    word_valued (Uncounting n) count v = v
    word_valued (Leaving t) count v = v
    word_valued (Growing need) count v = v
    word_valued (Ended reply) count v = v

    exchanged_valued : (stage : Stage) → made.valued ≡ true → (made_at_exchanged made stage).valued ≡ true
    exchanged_valued (Writing write) v = by_served (serves made write)
      where
        by_served : (served : Option ℕ) → (write_taken served made).valued ≡ true
        by_served None = taken_valued made v made.number
        by_served (Some n) = v
    exchanged_valued (Pairing purpose) v = taken_valued made v made.number
    exchanged_valued stage v = v

    -- a call that waits for a value's pair waits on, or is over
    word_waits : (stage : Stage) (count : ℕ) → IsAnswered stage → IsAnswered (at_word (record m { made = made; state = stage }) count stage)
    word_waits (Pairing (Fill gap)) count a = numbered_leads IsAnswered tt (Pairing (Fill gap)) tt (told made count)
    word_waits (Pairing (Replace write)) count a = numbered_leads IsAnswered tt (Pairing (Replace write)) tt (told made count)
    word_waits (Pairing (Again write)) count a = absurd a
    word_waits (Ended reply) count a = tt
    word_waits AtRoot count a = absurd a
    word_waits Making count a = absurd a
    word_waits (Opening t) count a = absurd a
    word_waits (Searching search) count a = absurd a
    word_waits (Writing write) count a = absurd a
    word_waits (Offering gap) count a = absurd a
    word_waits (Showing removal) count a = absurd a
    word_waits (Putting put) count a = absurd a
    word_waits (Burying removal) count a = absurd a
    word_waits (Counting claimed) count a = absurd a
    word_waits (Noting claimed) count a = absurd a
    word_waits (Uncounting n) count a = absurd a
    word_waits (Leaving t) count a = absurd a
    word_waits (Growing need) count a = absurd a

  -- a property of a call that waits for a value's pair, or is over
  waiting : (Holds : Stage → Type 0) → ((gap : Gap) → Holds (Pairing (Fill gap))) → ((write : Write) → Holds (Pairing (Replace write)))
      → ((reply : _) → Holds (Ended reply)) → (stage : Stage) → IsAnswered stage → Holds stage
  waiting Holds fill replace ended (Pairing (Fill gap)) a = fill gap
  waiting Holds fill replace ended (Pairing (Replace write)) a = replace write
  waiting Holds fill replace ended (Pairing (Again write)) a = absurd a
  waiting Holds fill replace ended (Ended reply) a = ended reply
  waiting Holds fill replace ended AtRoot a = absurd a
  waiting Holds fill replace ended Making a = absurd a
  waiting Holds fill replace ended (Opening t) a = absurd a
  waiting Holds fill replace ended (Searching search) a = absurd a
  waiting Holds fill replace ended (Writing write) a = absurd a
  waiting Holds fill replace ended (Offering gap) a = absurd a
  waiting Holds fill replace ended (Showing removal) a = absurd a
  waiting Holds fill replace ended (Putting put) a = absurd a
  waiting Holds fill replace ended (Burying removal) a = absurd a
  waiting Holds fill replace ended (Counting claimed) a = absurd a
  waiting Holds fill replace ended (Noting claimed) a = absurd a
  waiting Holds fill replace ended (Uncounting n) a = absurd a
  waiting Holds fill replace ended (Leaving t) a = absurd a
  waiting Holds fill replace ended (Growing need) a = absurd a

  -- the machine of these
  abbrev on : Made → Stage → Machine
  on made stage = record m { made = made; state = stage }

  -- if no new pair is remembered
  kept_value : (made : Made) (stage : Stage) (answer : Answer) → HasValue (on made stage) → (after (on made stage) answer).remembered ≡ m.remembered
      → (made.valued ≡ true → (after (on made stage) answer).made.valued ≡ true)
      → (IsAnswered stage → Value (after (on made stage) answer).made (after (on made stage) answer).state) → HasValue (after (on made stage) answer)
  kept_value made stage answer h same valued waits old new e = ⊎_elim (λ v. inl (valued v)) waits (h old new (ap (λ (r : Remembered). r.choice) (sym same) ∙ e))

  -- a part was made for a compute
  paired_value : (made : Made) (purpose : Purpose) (n : ℕ) → HasValue (on made (Pairing purpose)) → (G : Grown) → grown made (in_place_of purpose) ≡ G
      → (old : ℕ) (new : Of) → (paired_held G m.remembered purpose n).choice ≡ Some (To_replace old new) → Value (made_to_pair G) (paired G purpose n)
  paired_value made purpose n h (On next) is old new e =
      ⊎_elim (λ v. inl (subst (λ y. (made_to_pair y).valued ≡ true) is (grown_valued made v made.number (in_place_of purpose)))) (λ a. inr a) (h old new e)
  paired_value made purpose n h (Pair next) is old new e = inl
      (subst (λ y. (made_to_pair y).valued ≡ true) is
      (grown_valued made (pair_valued made next made.number (in_place_of purpose) is) made.number (in_place_of purpose)))

  made_value : (made : Made) (stage : Stage) (n : ℕ) → HasValue (on made stage) → HasValue (after (on made stage) (Made_number n))
  made_value made (Pairing purpose) n h old new e = paired_value made purpose n h (grown made (in_place_of purpose)) refl old new e
  made_value made (Writing write) n h old new e = ⊎_elim (λ v. inl (by_served (serves made write) v)) (λ a. absurd a) (h old new e)
    where
      by_served : (served : Option ℕ) → made.valued ≡ true → (write_grown served made write n).valued ≡ true
      by_served None v = write_valued write n (grown made write.old) (grown_valued made v made.number write.old)
      by_served (Some i) v = v
  made_value made (Ended reply) n h old new e = inr tt
  made_value made AtRoot n h old new e = ⊎_elim (λ v. inl v) (λ a. absurd a) (h old new e)
  made_value made Making n h old new e = ⊎_elim (λ v. inl v) (λ a. absurd a) (h old new e)
  made_value made (Opening t) n h old new e = ⊎_elim (λ v. inl v) (λ a. absurd a) (h old new e)
  made_value made (Searching search) n h old new e = ⊎_elim (λ v. inl v) (λ a. absurd a) (h old new e)
  made_value made (Offering gap) n h old new e = ⊎_elim (λ v. inl v) (λ a. absurd a) (h old new e)
  made_value made (Showing removal) n h old new e = ⊎_elim (λ v. inl v) (λ a. absurd a) (h old new e)
  made_value made (Putting put) n h old new e = ⊎_elim (λ v. inl v) (λ a. absurd a) (h old new e)
  made_value made (Burying removal) n h old new e = ⊎_elim (λ v. inl v) (λ a. absurd a) (h old new e)
  made_value made (Counting claimed) n h old new e = ⊎_elim (λ v. inl v) (λ a. absurd a) (h old new e)
  made_value made (Noting claimed) n h old new e = ⊎_elim (λ v. inl v) (λ a. absurd a) (h old new e)
  made_value made (Uncounting i) n h old new e = ⊎_elim (λ v. inl v) (λ a. absurd a) (h old new e)
  made_value made (Leaving t) n h old new e = ⊎_elim (λ v. inl v) (λ a. absurd a) (h old new e)
  made_value made (Growing need) n h old new e = ⊎_elim (λ v. inl v) (λ a. absurd a) (h old new e)

  -- a closure returned: a value that it returned waits, and otherwise nothing does
  shown_value : (task : Task) (made : Made) (removal : Removal) (kind : OpKind) → HasValue (on made (Showing removal))
      → HasValue (after (record m { task = task; made = made; state = Showing removal }) (Op kind))
  shown_value Compute made removal ops.Insert h old new e = inr tt
  shown_value Compute made removal ops.Remove h old new e = absurd cc
  shown_value Compute made removal (ops.Abort t) h old new e = inr tt
  shown_value Get made removal kind h old new e = h old new e
  shown_value (Insert replace) made removal kind h old new e = h old new e
  shown_value RemoveIf made removal kind h old new e = h old new e

  op_value : (made : Made) (stage : Stage) (kind : OpKind) → HasValue (on made stage) → HasValue (after (on made stage) (Op kind))
  op_value made (Offering gap) ops.Insert h = λ old new e. inr tt
  op_value made (Offering gap) ops.Remove h = λ old new e. inr tt
  op_value made (Offering gap) (ops.Abort t) h = λ old new e. inr tt
  op_value made (Showing removal) kind h = shown_value m.task made removal kind h
  op_value made AtRoot kind h = h
  op_value made Making kind h = h
  op_value made (Opening t) kind h = h
  op_value made (Searching search) kind h = h
  op_value made (Writing write) kind h = h
  op_value made (Pairing purpose) kind h = h
  op_value made (Putting put) kind h = h
  op_value made (Burying removal) kind h = h
  op_value made (Counting claimed) kind h = h
  op_value made (Noting claimed) kind h = h
  op_value made (Uncounting i) kind h = h
  op_value made (Leaving t) kind h = h
  op_value made (Growing need) kind h = h
  op_value made (Ended reply) kind h = h

  -- after each answer
  values_in : (made : Made) (stage : Stage) (answer : Answer) → HasValue (on made stage) → HasValue (after (on made stage) answer)
  values_in made stage (Word_read word) h = kept_value made stage (Word_read word) h refl (word_valued made stage word)
      (λ a. inr (word_waits made stage word a))
  values_in made stage Exchanged h = kept_value made stage Exchanged h refl (exchanged_valued made stage)
      (λ a. inr (waiting (λ s. IsAnswered (after (on made s) Exchanged).state) (λ gap. tt) (λ write. tt) (λ reply. tt) stage a))
  values_in made stage (Found_instead word) h =
      kept_value made stage (Found_instead word) h refl (word_valued made stage word)
      (λ a. inr (waiting (λ s. IsAnswered (after (on made s) (Found_instead word)).state)
      (λ gap. numbered_leads IsAnswered tt (Pairing (Fill gap)) tt (told made word))
      (λ write. numbered_leads IsAnswered tt (Pairing (Replace write)) tt (told made word))
      (λ reply. tt) stage a))
  values_in made stage (Yes same) h = kept_value made stage (Yes same) h refl (λ v. v)
      (λ a. inr (waiting (λ s. IsAnswered (after (on made s) (Yes same)).state) (λ gap. tt) (λ write. tt) (λ reply. tt) stage a))
  values_in made stage (Op kind) h = op_value made stage kind h
  values_in made stage (Size slots limit) h = kept_value made stage (Size slots limit) h refl (λ v. v)
      (λ a. inr (waiting (λ s. IsAnswered (after (on made s) (Size slots limit)).state) (λ gap. tt) (λ write. tt) (λ reply. tt) stage a))
  values_in made stage (Made_number n) h = made_value made stage n h
  values_in made stage Ok_done h = kept_value made stage Ok_done h refl (λ v. v)
      (λ a. inr (waiting (λ s. IsAnswered (after (on made s) Ok_done).state) (λ gap. tt) (λ write. tt) (λ reply. tt) stage a))
  values_in made stage (Was_refused refused) h = kept_value made stage (Was_refused refused) h refl (λ v. v)
      (λ a. inr (waiting (λ s. IsAnswered (after (on made s) (Was_refused refused)).state) (λ gap. tt) (λ write. tt) (λ reply. tt) stage a))

  -- for the whole machine
  pub machine_values : (answer : Answer) → HasValue m → HasValue (after m answer)
  machine_values answer h = values_in m.made m.state answer h
