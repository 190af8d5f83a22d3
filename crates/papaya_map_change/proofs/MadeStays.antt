-- The pairs that an insertion made stay the same with each answer, except one to an ask for a pair,
-- which is made for the place of its write.
use Rattle.std.proofs.Common.{◌≡◌, ⊎_elim, ℕ, ◌==◌, nat_lt, Bool, true, false, cond, Option, None, Some, List, refl, sym, subst}
use Rattle.std.proofs.lemmas.Bool.{cond_both}
use Rattle.papaya_words.specs.Word.{pair_of}
use Rattle.papaya_call.specs.declared.ask.Answer.{Answer}
use Rattle.papaya_call.specs.declared.ask.Answer.TheVariants.{Word as Word_read, Exchanged}
use Rattle.papaya_call.specs.declared.ask.Answer.TheVariants.{Found as Found_instead, Yes, Op, Size}
use Rattle.papaya_call.specs.declared.ask.Answer.TheVariants.{Made as Made_number, Ok as Ok_done}
use Rattle.papaya_call.specs.declared.ask.Answer.TheVariants.{Refused as Was_refused}
use Rattle.papaya_call.specs.declared.ask.Ask.TheVariants.{MakePair, MakePairOf}
use Rattle.papaya_call.specs.declared.ask.OpKind.{OpKind}
use Rattle.papaya_call.specs.declared.ask.OpKind.TheVariants as ops
use Rattle.papaya_call.specs.declared.call.Task.{Task}
use Rattle.papaya_call.specs.declared.call.Task.TheVariants.{Get, Insert, RemoveIf, Compute}
use Rattle.papaya_call.specs.declared.search.Search.TheVariants.{Sizing, Looking, Reading, Comparing}
use Rattle.papaya_call.specs.declared.made.Grown.{Grown}
use Rattle.papaya_call.specs.declared.made.Grown.TheVariants.{On, Pair}
use Rattle.papaya_call.specs.declared.made.Made.{Made}
use Rattle.papaya_call.specs.declared.made.Number.{Number}
use Rattle.papaya_call.specs.declared.made.Number.TheVariants.{Wanted, Free, Taken}
use Rattle.papaya_call.specs.declared.machine.Machine.{Machine}
use Rattle.papaya_call.specs.declared.machine.State.{State as Stage}
use Rattle.papaya_call.specs.declared.machine.State.TheVariants.{AtRoot, Making, Opening, Searching}
use Rattle.papaya_call.specs.declared.machine.State.TheVariants.{Writing, Offering, Showing}
use Rattle.papaya_call.specs.declared.machine.State.TheVariants.{Pairing, Putting, Burying}
use Rattle.papaya_call.specs.declared.machine.State.TheVariants.{Counting, Noting, Uncounting}
use Rattle.papaya_call.specs.declared.machine.State.TheVariants.{Leaving, Growing, Ended}
use Rattle.papaya_call.specs.declared.write.Write.{Write}
use Rattle.papaya_call.specs.Compute.{in_place_of}
use Rattle.papaya_call.specs.Made.{answered, grown, grown_as, number_ask, of_ask, of_grown, own_ask}
use Rattle.papaya_call.specs.Made.{own_grown, pair_ask, paired, taken_as, told, told_as, told_limit}
use Rattle.papaya_call.specs.Machine.{after, ask_of, asks, made_at_exchanged, made_at_op}
use Rattle.papaya_call.specs.Machine.{made_at_word, made_decided, made_in, made_to_pair}
use Rattle.papaya_call.specs.Machine.{number_told, write_made, write_taken}
use Rattle.papaya_call.specs.Write.{made_of, made_to_write, served_ask, serves, write_grown}
use Rattle.papaya_call.specs.declared.chain.ask.Answer.TheVariants as answers
use Rattle.papaya_call.specs.declared.chain.machine.Machine.{Machine as Chain}
use Rattle.papaya_call.specs.declared.chain.machine.Phase.TheVariants.{Calling}
use Rattle.papaya_call.specs.ChainMachine as chains
use Rattle.papaya_words_law.specs.Code.{Coding}
use Rattle.papaya_words_law.specs.Exchange.{Exchange, Setting}
use Rattle.papaya_call_law.specs.Relies.{ReliesStage}
use Rattle.papaya_call_law.specs.Says.{MakesPair}
use Rattle.papaya_call_law.specs.TrueAnswers.{LoadedPairs}
use Rattle.papaya_call_law.proofs.Makings.{makes_pair, pair_made}
use Rattle.papaya_map_change.proofs.StepsOfOwn.{own_settings}

-- the same pairs were made
pub record Keeps (made next : Made) : Type 0 where
  pub own : next.own ≡ made.own
  pub of : next.of ≡ made.of

same : (made : Made) → Keeps made made
same made = record { own = refl; of = refl }

-- the same, if there is a next state of the parts
abbrev KeepsIn : Made → Option Made → Type 0
KeepsIn made None = Unit {0}
KeepsIn made (Some next) = Keeps made next

limit_keeps : (made : Made) (limit : Option ℕ) (count : ℕ) → KeepsIn made (told_limit made limit count)
limit_keeps made None count = record { own = refl; of = refl }
limit_keeps made (Some most) count = cond_both (nat_lt count most) (Some (record made { number = Free count })) None (KeepsIn made)
    (λ _. record { own = refl; of = refl }) (λ _. tt)

told_keeps : (made : Made) (number : Number) (count : ℕ) → KeepsIn made (told_as made number count)
told_keeps made Taken count = same made
told_keeps made Wanted count = limit_keeps made made.limit count
told_keeps made (Free n) count = limit_keeps made made.limit count

number_keeps : (made : Made) (o : Option Made) → KeepsIn made o → Keeps made (number_told o made)
number_keeps made None h = same made
number_keeps made (Some next) h = h

taken_keeps : (made : Made) (number : Number) → Keeps made (taken_as made number)
taken_keeps made Taken = same made
taken_keeps made Wanted = same made
taken_keeps made (Free n) = record { own = refl; of = refl }

-- storing a part in the arena changes no pair that was made
abbrev KeepsGrown : Made → Grown → Type 0
KeepsGrown made (On next) = Keeps made next
KeepsGrown made (Pair next) = Keeps made next

own_keeps : (keyed valued : Bool) (made : Made) → KeepsGrown made (own_grown keyed valued made)
own_keeps false valued made = record { own = refl; of = refl }
own_keeps true false made = record { own = refl; of = refl }
own_keeps true true made = record { own = refl; of = refl }

of_keeps : (valued : Bool) (made : Made) → KeepsGrown made (of_grown valued made)
of_keeps false made = record { own = refl; of = refl }
of_keeps true made = record { own = refl; of = refl }

grown_keeps : (number : Number) (made : Made) (old : ℕ) → KeepsGrown made (grown_as number made old)
grown_keeps Wanted made old = same made
grown_keeps (Free n) made old = same made
grown_keeps Taken made old = cond_both (old == 0) (own_grown made.keyed made.valued made) (of_grown made.valued made) (KeepsGrown made)
    (λ _. own_keeps made.keyed made.valued made) (λ _. of_keeps made.valued made)

paired_keeps : (made : Made) (g : Grown) → KeepsGrown made g → Keeps made (made_to_pair g)
paired_keeps made (On next) h = h
paired_keeps made (Pair next) h = h

answered_keeps : (made : Made) (kind : OpKind) → Keeps made (answered kind made)
answered_keeps made ops.Insert = record { own = refl; of = refl }
answered_keeps made ops.Remove = same made
answered_keeps made (ops.Abort t) = same made

decided_keeps : (task : Task) (kind : OpKind) (made : Made) → Keeps made (made_decided task kind made)
decided_keeps Get kind made = same made
decided_keeps (Insert replace) kind made = same made
decided_keeps RemoveIf kind made = same made
decided_keeps Compute kind made = answered_keeps made kind

-- an insertion that writes, by the pair that it uses
write_made_keeps : (served : Option ℕ) (made : Made) (count : ℕ) → Keeps made (write_made served made count)
write_made_keeps None made count = number_keeps made (told made count) (told_keeps made made.number count)
write_made_keeps (Some n) made count = same made

write_taken_keeps : (served : Option ℕ) (made : Made) → Keeps made (write_taken served made)
write_taken_keeps None made = taken_keeps made made.number
write_taken_keeps (Some n) made = same made

-- if no pair was asked for
unpaired_keeps : (made : Made) (write : Write) (n : ℕ) (g : Grown) → grown made write.old ≡ g → KeepsGrown made g
    → (MakesPair (pair_ask made write.old) → ⊥) → Keeps made (made_to_write g write n)
unpaired_keeps made write n (On next) e h none = h
unpaired_keeps made write n (Pair next) e h none = absurd (none (makes_pair made write.old next e))

write_grown_keeps : (served : Option ℕ) (made : Made) (write : Write) (n : ℕ) → (MakesPair (served_ask served write made) → ⊥)
    → Keeps made (write_grown served made write n)
write_grown_keeps None made write n none = unpaired_keeps made write n (grown made write.old) refl (grown_keeps made.number made write.old) none
write_grown_keeps (Some i) made write n none = same made

module _ (hash : ℕ) where
  word_keeps : (made : Made) (word : ℕ) (s : Stage) → Keeps made (made_at_word made word s)
  word_keeps made word (Writing write) = write_made_keeps (serves made write) made word
  word_keeps made word (Pairing purpose) = number_keeps made (told made word) (told_keeps made made.number word)
  word_keeps made word s = same made

  exchanged_keeps : (made : Made) (s : Stage) → Keeps made (made_at_exchanged made s)
  exchanged_keeps made (Writing write) = write_taken_keeps (serves made write) made
  exchanged_keeps made (Pairing purpose) = taken_keeps made made.number
  exchanged_keeps made s = same made

  op_keeps : (task : Task) (kind : OpKind) (made : Made) (s : Stage) → Keeps made (made_at_op task kind made s)
  op_keeps task kind made (Offering gap) = answered_keeps made kind
  op_keeps task kind made (Showing removal) = decided_keeps task kind made
  op_keeps task kind made s = same made

  made_keeps : (made : Made) (n : ℕ) (s : Stage) → (MakesPair (asks made hash s) → ⊥) → Keeps made (made_in made n s)
  made_keeps made n (Writing write) none = write_grown_keeps (serves made write) made write n none
  made_keeps made n (Pairing purpose) none = paired_keeps made (grown made (in_place_of purpose)) (grown_keeps made.number made (in_place_of purpose))
  made_keeps made n s none = same made

  -- a pair that is asked for in place of nothing is the one of the own key, and otherwise that of
  -- the key that was met
  own_asked : (keyed valued : Bool) (i : ℕ) → own_ask keyed valued ≡ MakePairOf i → ⊥
  own_asked false valued i e = cc e
  own_asked true false i e = cc e
  own_asked true true i e = cc e

  of_asked : (valued : Bool) (old : ℕ) → of_ask valued old ≡ MakePair → ⊥
  of_asked false old e = cc e
  of_asked true old e = cc e

  of_names : (valued : Bool) (old i : ℕ) → of_ask valued old ≡ MakePairOf i → i ≡ pair_of old
  of_names false old i e = absurd (cc e)
  of_names true old i e = let is : pair_of old ≡ i = cc e in sym is

  number_own : (number : Number) (made : Made) (old : ℕ) → number_ask number made old ≡ MakePair → (old == 0) ≡ true
  number_own Wanted made old e = absurd (cc e)
  number_own (Free n) made old e = absurd (cc e)
  number_own Taken made old e = by_old (old == 0) e
    where
      by_old : (b : Bool) → cond b (own_ask made.keyed made.valued) (of_ask made.valued old) ≡ MakePair → b ≡ true
      by_old true is = refl
      by_old false is = absurd (of_asked made.valued old is)

  number_of : (number : Number) (made : Made) (old i : ℕ) → number_ask number made old ≡ MakePairOf i → ((old == 0) ≡ false) × (i ≡ pair_of old)
  number_of Wanted made old i e = absurd (cc e)
  number_of (Free n) made old i e = absurd (cc e)
  number_of Taken made old i e = by_old (old == 0) e
    where
      by_old : (b : Bool) → cond b (own_ask made.keyed made.valued) (of_ask made.valued old) ≡ MakePairOf i → (b ≡ false) × (i ≡ pair_of old)
      by_old true is = absurd (own_asked made.keyed made.valued i is)
      by_old false is = (refl, of_names made.valued old i is)

  -- the pair that was asked for is made for the write's place
  module _ (made : Made) (write : Write) (n : ℕ) where
    abbrev Next : Option ℕ → Made
    Next served = write_grown served made write n

    grown_own : (served : Option ℕ) → served_ask served write made ≡ MakePair → (Next served).own ≡ Some n × ((Next served).of ≡ made.of)
    grown_own (Some i) e = absurd (cc e)
    grown_own None e =
        let empty = number_own made.number made write.old e in
        let grows = pair_made made write.old (subst MakesPair (sym e) tt) in
        subst (λ (g : Grown). ((made_to_write g write n).own ≡ Some n) × ((made_to_write g write n).of ≡ made.of)) (sym grows)
        (subst (λ (b : Bool). ((cond b (record (paired made) { own = Some n }) (record (paired made) { of = Some (made_of write n) })).own ≡ Some n)
        × ((cond b (record (paired made) { own = Some n }) (record (paired made) { of = Some (made_of write n) })).of ≡ made.of)) (sym empty) (refl, refl))

    grown_of : (served : Option ℕ) (i : ℕ) → served_ask served write made ≡ MakePairOf i → (Next served).own ≡ made.own
        × ((Next served).of ≡ Some (made_of write n)) × ((write.old == 0) ≡ false)
    grown_of (Some j) i e = absurd (cc e)
    grown_of None i e =
        let full = number_of made.number made write.old i e in
        let grows = pair_made made write.old (subst MakesPair (sym e) tt) in
        subst (λ (g : Grown). ((made_to_write g write n).own ≡ made.own) × ((made_to_write g write n).of ≡ Some (made_of write n))
        × ((write.old == 0) ≡ false)) (sym grows)
        (subst (λ (b : Bool). ((cond b (record (paired made) { own = Some n }) (record (paired made) { of = Some (made_of write n) })).own ≡ made.own)
        × ((cond b (record (paired made) { own = Some n }) (record (paired made) { of = Some (made_of write n) })).of ≡ Some (made_of write n))
        × (b ≡ false)) (sym full.0) (refl, refl, refl))

    pub own_made : asks made hash (Writing write) ≡ MakePair → ((made_in made n (Writing write)).own ≡ Some n) × ((made_in made n (Writing write)).of ≡ made.of)
    own_made e = grown_own (serves made write) e

    pub of_made : (i : ℕ) → asks made hash (Writing write) ≡ MakePairOf i → ((made_in made n (Writing write)).own ≡ made.own)
        × ((made_in made n (Writing write)).of ≡ Some (made_of write n)) × ((write.old == 0) ≡ false)
    of_made i e = grown_of (serves made write) i e

-- each answer leaves the pairs that were made, if none was asked for
pub keeps : (m : Machine) (answer : Answer) → ((n : ℕ) → answer ≡ Made_number n → MakesPair (ask_of m) → ⊥) → Keeps m.made (after m answer).made
keeps m (Word_read word) none = word_keeps m.hash m.made word m.state
keeps m Exchanged none = exchanged_keeps m.hash m.made m.state
keeps m (Found_instead word) none = word_keeps m.hash m.made word m.state
keeps m (Yes agrees) none = same m.made
keeps m (Op kind) none = op_keeps m.hash m.task kind m.made m.state
keeps m (Size slots limit) none = same m.made
keeps m (Made_number n) none = made_keeps m.hash m.made n m.state (none n refl)
keeps m Ok_done none = same m.made
keeps m (Was_refused refused) none = same m.made

-- for a machine over a chain, after an answer to the call itself
pub keeps_then : (m : Chain) → m.phase ≡ Calling → (answer : Answer) → ((n : ℕ) → answer ≡ Made_number n → MakesPair (ask_of m.call) → ⊥)
    → Keeps m.call.made (chains.after m (answers.Call answer)).call.made
keeps_then m calling answer none = ⊎_elim (λ own. subst (Keeps m.call.made) (sym own) (keeps m.call answer none))
    (λ still. subst (Keeps m.call.made) (sym still) (same m.call.made)) (own_settings m calling answer).1

module _ {K P : Type 0} (g : Setting K P) (c : Coding K P) (begun since : List (Exchange P)) (k : K) (loaded : LoadedPairs P) (replace : Bool) (hash : ℕ) where
  -- an insertion that asks for a pair writes it next
  pub pairs_write : (made : Made) (s : Stage) → ReliesStage g c begun since k loaded (Insert replace) s → MakesPair (asks made hash s)
      → (write : Write) × (s ≡ Writing write)
  pairs_write made AtRoot r makes = absurd makes
  pairs_write made Making r makes = absurd makes
  pairs_write made (Opening t) r makes = absurd makes
  pairs_write made (Searching (Sizing t)) r makes = absurd makes
  pairs_write made (Searching (Looking at)) r makes = absurd makes
  pairs_write made (Searching (Reading at)) r makes = absurd makes
  pairs_write made (Searching (Comparing at word)) r makes = absurd makes
  pairs_write made (Writing write) r makes = (write, refl)
  pairs_write made (Offering gap) r makes = absurd makes
  pairs_write made (Showing removal) r makes = absurd makes
  pairs_write made (Pairing purpose) r makes = absurd r.0
  pairs_write made (Putting put) r makes = absurd makes
  pairs_write made (Burying removal) r makes = absurd makes
  pairs_write made (Counting i) r makes = absurd makes
  pairs_write made (Noting i) r makes = absurd makes
  pairs_write made (Uncounting i) r makes = absurd makes
  pairs_write made (Leaving t) r makes = absurd makes
  pairs_write made (Growing t) r makes = absurd makes
  pairs_write made (Ended reply) r makes = absurd makes
