-- When a call alone stores a pair in the arena, and takes a number for it: it stores one for what
-- it writes.
use Rattle.std.proofs.Common.{◌≡◌, ◌⊎◌, inl, inr, ℕ, ◌==◌, ◌&&◌, nat_lt, Bool, true, false, cond, Option, None, Some, refl, sym, ◌∙◌, ap, subst, eq-eqb}
use Rattle.std.proofs.lemmas.Bool.{cond_both}
use Rattle.papaya_words.specs.Word.{pair_of}
use Rattle.papaya_call.specs.declared.ask.Ask.{Ask as Call_ask}
use Rattle.papaya_call.specs.declared.ask.Ask.TheVariants.{MakeKey, MakeValue, MakePair, MakePairOf}
use Rattle.papaya_call.specs.declared.ask.Answer.{Answer as Call_answer}
use Rattle.papaya_call.specs.declared.ask.Answer.TheVariants.{Exchanged, Op, Made as Made_number}
use Rattle.papaya_call.specs.declared.ask.OpKind.{OpKind}
use Rattle.papaya_call.specs.declared.ask.OpKind.TheVariants as kinds
use Rattle.papaya_call.specs.declared.call.Task.{Task}
use Rattle.papaya_call.specs.declared.call.Task.TheVariants as tasks
use Rattle.papaya_call.specs.declared.search.Search.TheVariants.{Sizing, Looking, Reading, Comparing}
use Rattle.papaya_call.specs.declared.compute.Choice.TheVariants.{Remove as To_remove}
use Rattle.papaya_call.specs.declared.compute.Purpose.{Purpose}
use Rattle.papaya_call.specs.declared.compute.Purpose.TheVariants.{Fill, Replace, Again}
use Rattle.papaya_call.specs.declared.compute.Remembered.{Remembered}
use Rattle.papaya_call.specs.declared.machine.Machine.{Machine as Call_machine}
use Rattle.papaya_call.specs.declared.machine.State.{State as Stage}
use Rattle.papaya_call.specs.declared.machine.State.TheVariants.{AtRoot, Making, Opening, Searching}
use Rattle.papaya_call.specs.declared.machine.State.TheVariants.{Writing, Offering, Showing}
use Rattle.papaya_call.specs.declared.machine.State.TheVariants.{Pairing, Putting, Burying}
use Rattle.papaya_call.specs.declared.machine.State.TheVariants.{Counting, Noting, Uncounting}
use Rattle.papaya_call.specs.declared.machine.State.TheVariants.{Leaving, Growing, Ended}
use Rattle.papaya_call.specs.declared.made.Grown.{Grown}
use Rattle.papaya_call.specs.declared.made.Grown.TheVariants.{On, Pair}
use Rattle.papaya_call.specs.declared.made.Made.{Made}
use Rattle.papaya_call.specs.declared.made.Number.{Number}
use Rattle.papaya_call.specs.declared.made.Number.TheVariants.{Wanted, Free, Taken}
use Rattle.papaya_call.specs.declared.remove.Removal.{Removal}
use Rattle.papaya_call.specs.declared.write.Write.{Write}
use Rattle.papaya_call.specs.Compute.{in_place_of, nothing, with_pair}
use Rattle.papaya_call.specs.Made.{answered, grown, grown_as, make_ask, number_ask, of_grown}
use Rattle.papaya_call.specs.Made.{own_grown, pair_ask, serves_at, paired as pair_done, taken}
use Rattle.papaya_call.specs.Made.{taken_as, told, told_as, told_limit}
use Rattle.papaya_call.specs.Machine.{IsComputer, IsValidState, IsWriter, after, ask_of, asks}
use Rattle.papaya_call.specs.Machine.{decided_held, held_at_op, held_in, made_at_exchanged, made_in}
use Rattle.papaya_call.specs.Machine.{made_to_pair, number_told, paired_held, write_taken}
use Rattle.papaya_call.specs.Write.{made_of, made_to_write, served_ask, served_of, serves, with_pair_at, write_grown}
use Rattle.papaya_call.specs.declared.chain.ask.Answer.TheVariants as answers
use Rattle.papaya_call.specs.declared.chain.ask.Ask.TheVariants as chain_asks
use Rattle.papaya_call_alone.specs.Limits.{IsNumberTaken, IsTakeAsk}
use Rattle.papaya_call_law.specs.Says.{MakesPair}
use Rattle.papaya_call_law.proofs.Makings.{IsMakeAsk, make_asks, makes_pair, pair_made}
use Rattle.papaya_seq.proofs.MadeAfter.{made_after}

-- an insertion has made no pair yet
abbrev pub IsUnmade : Made → Type 0
IsUnmade made = (made.own ≡ None) × (made.of ≡ None)

-- The call has stored no pair yet: a compute remembers each pair that was made for it.
abbrev pub IsFirst : Task → Made → Remembered → Type 0
IsFirst tasks.Compute made held = held ≡ nothing
IsFirst task made held = IsUnmade made

-- it has taken no number for the next one
abbrev pub IsNumberless : Made → Type 0
IsNumberless made = made.number ≡ Taken → ⊥

-- one has no less than another, and has made the same pairs, or more
abbrev pub IsAfter : Made → Made → Type 0
IsAfter made made' = (made'.limit ≡ made.limit) × (IsUnmade made' → IsUnmade made)

-- it is the same but for its number and for the parts of its next pair that were stored
abbrev pub IsLike : Made → Made → Type 0
IsLike made made' = (made'.limit ≡ made.limit) × (made'.own ≡ made.own) × (made'.of ≡ made.of)

like_after : (made made' : Made) → IsLike made made' → IsAfter made made'
like_after made made' (limit, own, of) = (limit, λ unmade. (sym own ∙ unmade.0, sym of ∙ unmade.1))

pub like_unmade : (made made' : Made) → IsLike made made' → IsUnmade made → IsUnmade made'
like_unmade made made' (limit, own, of) unmade = (own ∙ unmade.0, of ∙ unmade.1)

module _ (made : Made) where
  limit_like : (limit : Option ℕ) (count : ℕ) → IsLike made (number_told (told_limit made limit count) made)
  limit_like None count = (refl, refl, refl)
  limit_like (Some most) count = cond_both (nat_lt count most) (Some (record made { number = Free count })) None
      (λ o. IsLike made (number_told o made)) (λ _. (refl, refl, refl)) (λ _. (refl, refl, refl))

  pub told_like : (number : Number) (count : ℕ) → IsLike made (number_told (told_as made number count) made)
  told_like Wanted count = limit_like made.limit count
  told_like (Free n) count = limit_like made.limit count
  told_like Taken count = (refl, refl, refl)

  pub taken_like : (number : Number) → IsLike made (taken_as made number)
  taken_like Wanted = (refl, refl, refl)
  taken_like (Free n) = (refl, refl, refl)
  taken_like Taken = (refl, refl, refl)

  pub answered_like : (kind : OpKind) → IsLike made (answered kind made)
  answered_like kinds.Insert = (refl, refl, refl)
  answered_like kinds.Remove = (refl, refl, refl)
  answered_like (kinds.Abort t) = (refl, refl, refl)

  own_like : (keyed valued : Bool) → IsLike made (made_to_pair (own_grown keyed valued made))
  own_like false valued = (refl, refl, refl)
  own_like true false = (refl, refl, refl)
  own_like true true = (refl, refl, refl)

  of_like : (valued : Bool) → IsLike made (made_to_pair (of_grown valued made))
  of_like false = (refl, refl, refl)
  of_like true = (refl, refl, refl)

  pub grown_like : (number : Number) (old : ℕ) → IsLike made (made_to_pair (grown_as number made old))
  grown_like Wanted old = (refl, refl, refl)
  grown_like (Free n) old = (refl, refl, refl)
  grown_like Taken old = cond_both (old == 0) (own_grown made.keyed made.valued made) (of_grown made.valued made) (λ G. IsLike made (made_to_pair G))
      (λ _. own_like made.keyed made.valued) (λ _. of_like made.valued)

-- a pair that was made for a place is one, and serves there
pub placed_made : (made : Made) (write : Write) (n : ℕ) → IsUnmade (with_pair_at made write n) → ⊥
placed_made made write n = cond_both (write.old == 0) (record made { own = Some n }) (record made { of = Some (made_of write n) })
    (λ (y : Made). IsUnmade y → ⊥) (λ _ unmade. let f : Some n ≡ None = unmade.0 in absurd cc)
    (λ _ unmade. let f : Some (made_of write n) ≡ None = unmade.1 in absurd cc)

pub placed_serves : (made : Made) (write : Write) (n : ℕ) → serves (with_pair_at made write n) write ≡ Some n
placed_serves made write n = by_old (write.old == 0)
  where
    here : serves_at (made_of write n) write.place.table write.place.probe.i ≡ true
    here = ap (λ b. b && (write.place.probe.i == write.place.probe.i)) (eq-eqb write.place.table write.place.table refl)
        ∙ eq-eqb write.place.probe.i write.place.probe.i refl

    by_old : (b : Bool) → cond b (cond b (record made { own = Some n }) (record made { of = Some (made_of write n) })).own
        (served_of (cond b (record made { own = Some n }) (record made { of = Some (made_of write n) })).of write.place) ≡ Some n
    by_old true = refl
    by_old false = ap (λ b. cond b (Some n) None) here

placed_limit : (made : Made) (write : Write) (n : ℕ) → (with_pair_at made write n).limit ≡ made.limit
placed_limit made write n = cond_both (write.old == 0) (record made { own = Some n }) (record made { of = Some (made_of write n) })
    (λ (y : Made). y.limit ≡ made.limit) (λ _. refl) (λ _. refl)

written_after : (made : Made) (write : Write) (n : ℕ) (G : Grown) → IsAfter made (made_to_pair G) → IsAfter made (made_to_write G write n)
written_after made write n (On made') h = h
written_after made write n (Pair made') h = (placed_limit made' write n ∙ h.0, λ unmade. absurd (placed_made made' write n unmade))

grew_after : (made : Made) (write : Write) (n : ℕ) (served : Option ℕ) → IsAfter made (write_grown served made write n)
grew_after made write n None = written_after made write n (grown made write.old)
    (like_after made (made_to_pair (grown made write.old)) (grown_like made made.number write.old))
grew_after made write n (Some i) = (refl, λ h. h)

logged_after : (made : Made) (n : ℕ) (s : Stage) → IsAfter made (made_in made n s)
logged_after made n (Writing write) = grew_after made write n (serves made write)
logged_after made n (Pairing purpose) = like_after made (made_to_pair (grown made (in_place_of purpose))) (grown_like made made.number (in_place_of purpose))
logged_after made n AtRoot = (refl, λ h. h)
logged_after made n Making = (refl, λ h. h)
logged_after made n (Opening t) = (refl, λ h. h)
logged_after made n (Searching search) = (refl, λ h. h)
logged_after made n (Offering gap) = (refl, λ h. h)
logged_after made n (Showing removal) = (refl, λ h. h)
logged_after made n (Putting put) = (refl, λ h. h)
logged_after made n (Burying removal) = (refl, λ h. h)
logged_after made n (Counting claimed) = (refl, λ h. h)
logged_after made n (Noting claimed) = (refl, λ h. h)
logged_after made n (Uncounting i) = (refl, λ h. h)
logged_after made n (Leaving t) = (refl, λ h. h)
logged_after made n (Growing need) = (refl, λ h. h)
logged_after made n (Ended reply) = (refl, λ h. h)

-- the limit stays, and an insertion without a pair had none
pub after_made : (m : Call_machine) (a : Call_answer) → IsAfter m.made (after m a).made
after_made m a = made_after m (λ _ made'. IsAfter m.made made') (record {
  same = λ _. (refl, λ h. h);
  told = λ _ count. like_after m.made (number_told (told m.made count) m.made) (told_like m.made m.made.number count);
  taken = λ _. like_after m.made (taken m.made) (taken_like m.made m.made.number);
  answered = λ _ kind. like_after m.made (answered kind m.made) (answered_like m.made kind);
}) (λ n. logged_after m.made n m.state) a

-- a compute that remembers a pair remembers something
paired_held_some : (held : Remembered) (purpose : Purpose) (n : ℕ) → with_pair held purpose n ≡ nothing → ⊥
paired_held_some held (Fill gap) n e = absurd (cc (ap (λ (y : Remembered). y.fill) e))
paired_held_some held (Replace write) n e = absurd (cc (ap (λ (y : Remembered). y.choice) e))
paired_held_some held (Again write) n e = absurd (cc (ap (λ (y : Remembered). y.choice) e))

-- one that remembers nothing remembered nothing
held_grown : (G : Grown) (held : Remembered) (purpose : Purpose) (n : ℕ) → paired_held G held purpose n ≡ nothing → held ≡ nothing
held_grown (On made) held purpose n e = e
held_grown (Pair made) held purpose n e = absurd (paired_held_some held purpose n e)

held_made : (made : Made) (held : Remembered) (n : ℕ) (stage : Stage) → held_in made held n stage ≡ nothing → held ≡ nothing
held_made made held n (Pairing purpose) e = held_grown (grown made (in_place_of purpose)) held purpose n e
held_made made held n stage e = e

held_decided : (task : Task) (held : Remembered) (removal : Removal) (kind : OpKind) → decided_held task held removal kind ≡ nothing → held ≡ nothing
held_decided tasks.Compute held removal kinds.Insert e = e
held_decided tasks.Compute held removal kinds.Remove e = let f : Some (To_remove (pair_of removal.word)) ≡ None = ap (λ (y : Remembered). y.choice) e
    in absurd cc
held_decided tasks.Compute held removal (kinds.Abort t) e = e
held_decided task held removal kind e = e

held_op : (task : Task) (held : Remembered) (kind : OpKind) (stage : Stage) → held_at_op task held kind stage ≡ nothing → held ≡ nothing
held_op task held kind (Showing removal) e = held_decided task held removal kind e
held_op task held kind stage e = e

pub held_before : (m : Call_machine) (told : Call_answer) → (after m told).remembered ≡ nothing → m.remembered ≡ nothing
held_before m (Made_number n) e = held_made m.made m.remembered n m.state e
held_before m (Op kind) e = held_op m.task m.remembered kind m.state e
held_before m told e = e

-- and one without a pair had none
first_held : (task : Task) (made made' : Made) (held held' : Remembered) → (IsUnmade made' → IsUnmade made) → (held' ≡ nothing → held ≡ nothing)
    → IsFirst task made' held' → IsFirst task made held
first_held tasks.Compute made made' held held' unmade was h = was h
first_held tasks.Get made made' held held' unmade was h = unmade h
first_held (tasks.Insert replace) made made' held held' unmade was h = unmade h
first_held tasks.RemoveIf made made' held held' unmade was h = unmade h

pub first_before : (m : Call_machine) (told : Call_answer) → IsFirst m.task (after m told).made (after m told).remembered → IsFirst m.task m.made m.remembered
first_before m told h = first_held m.task m.made (after m told).made m.remembered (after m told).remembered (after_made m told).1 (held_before m told) h

-- a call whose pair is stored in the arena has one
writer_first : (task : Task) (made : Made) (held : Remembered) → IsWriter task → IsFirst task made held → IsUnmade made
writer_first tasks.Get made held writes h = absurd writes
writer_first (tasks.Insert replace) made held writes h = h
writer_first tasks.RemoveIf made held writes h = absurd writes
writer_first tasks.Compute made held writes h = absurd writes

computer_first : (task : Task) (made : Made) (held : Remembered) → IsComputer task → IsFirst task made held → held ≡ nothing
computer_first tasks.Get made held computes h = absurd computes
computer_first (tasks.Insert replace) made held computes h = absurd computes
computer_first tasks.RemoveIf made held computes h = absurd computes
computer_first tasks.Compute made held computes h = h

module _ (m : Call_machine) where
  -- if the pair for which it asks is stored, the call has one
  first_not : (s : Stage) → IsValidState m.task s → MakesPair (asks m.made m.hash s) → (n : ℕ)
      → IsFirst m.task (made_in m.made n s) (held_in m.made m.remembered n s) → ⊥
  first_not (Writing write) stands makes n first = by_served (serves m.made write) makes
      (writer_first m.task (write_grown (serves m.made write) m.made write n) m.remembered stands.0 first)
    where
      by_served : (served : Option ℕ) → MakesPair (served_ask served write m.made) → IsUnmade (write_grown served m.made write n) → ⊥
      by_served None makes unmade = placed_made (pair_done m.made) write n
          (subst (λ G. IsUnmade (made_to_write G write n)) (pair_made m.made write.old makes) unmade)
      by_served (Some i) makes unmade = makes
  first_not (Pairing purpose) stands makes n first =
      paired_held_some m.remembered purpose n (subst (λ G. paired_held G m.remembered purpose n ≡ nothing) (pair_made m.made (in_place_of purpose) makes)
      (computer_first m.task (made_in m.made n (Pairing purpose)) (held_in m.made m.remembered n (Pairing purpose)) stands.0 first))
  first_not AtRoot stands makes n first = makes
  first_not Making stands makes n first = makes
  first_not (Opening t) stands makes n first = makes
  first_not (Searching (Sizing t)) stands makes n first = makes
  first_not (Searching (Looking at)) stands makes n first = makes
  first_not (Searching (Reading at)) stands makes n first = makes
  first_not (Searching (Comparing at word)) stands makes n first = makes
  first_not (Offering gap) stands makes n first = makes
  first_not (Showing removal) stands makes n first = makes
  first_not (Putting put) stands makes n first = makes
  first_not (Burying removal) stands makes n first = makes
  first_not (Counting claimed) stands makes n first = makes
  first_not (Noting claimed) stands makes n first = makes
  first_not (Uncounting i) stands makes n first = makes
  first_not (Leaving t) stands makes n first = makes
  first_not (Growing need) stands makes n first = makes
  first_not (Ended reply) stands makes n first = makes

  pub paired_first : IsValidState m.task m.state → MakesPair (ask_of m) → (n : ℕ)
      → IsFirst m.task (after m (Made_number n)).made (after m (Made_number n)).remembered → ⊥
  paired_first = first_not m.state

-- a part that is stored leaves the number, unless it is the pair
abbrev HasSameNumber : Made → Grown → Type 0
HasSameNumber made (On made') = made'.number ≡ made.number
HasSameNumber made (Pair made') = Unit {0}

module _ (made : Made) where
  own_number : (keyed valued : Bool) → HasSameNumber made (own_grown keyed valued made)
  own_number false valued = refl
  own_number true false = refl
  own_number true true = tt

  of_number : (valued : Bool) → HasSameNumber made (of_grown valued made)
  of_number false = refl
  of_number true = tt

  grown_number : (number : Number) (old : ℕ) → HasSameNumber made (grown_as number made old)
  grown_number Wanted old = refl
  grown_number (Free n) old = refl
  grown_number Taken old = cond_both (old == 0) (own_grown made.keyed made.valued made) (of_grown made.valued made) (HasSameNumber made)
      (λ _. own_number made.keyed made.valued) (λ _. of_number made.valued)

module _ (m : Call_machine) (has : m.made.number ≡ Taken) where
  -- a number that was taken is kept until the pair is stored
  abbrev KeepsNumber : Stage → Call_answer → Made → Type 0
  KeepsNumber s a made' = (made'.number ≡ Taken) ⊎ ((n : ℕ) × (a ≡ Made_number n) × MakesPair (asks m.made m.hash s))

  answered_number : (kind : OpKind) → (answered kind m.made).number ≡ Taken
  answered_number kinds.Insert = has
  answered_number kinds.Remove = has
  answered_number (kinds.Abort t) = has

  write_number : (write : Write) (n : ℕ) (served : Option ℕ) → ((write_grown served m.made write n).number ≡ Taken)
      ⊎ ((i : ℕ) × (Made_number n ≡ Made_number i) × MakesPair (served_ask served write m.made))
  write_number write n (Some i) = inl has
  write_number write n None = by_grown (grown m.made write.old) refl (grown_number m.made m.made.number write.old)
    where
      by_grown : (G : Grown) → grown m.made write.old ≡ G → HasSameNumber m.made G → ((made_to_write G write n).number ≡ Taken)
          ⊎ ((i : ℕ) × (Made_number n ≡ Made_number i) × MakesPair (pair_ask m.made write.old))
      by_grown (On made') is same = inl (same ∙ has)
      by_grown (Pair made') is same = inr (n, refl, makes_pair m.made write.old made' is)

  pairing_number : (purpose : Purpose) (n : ℕ) → ((made_to_pair (grown m.made (in_place_of purpose))).number ≡ Taken)
      ⊎ ((i : ℕ) × (Made_number n ≡ Made_number i) × MakesPair (pair_ask m.made (in_place_of purpose)))
  pairing_number purpose n = by_grown (grown m.made (in_place_of purpose)) refl (grown_number m.made m.made.number (in_place_of purpose))
    where
      by_grown : (G : Grown) → grown m.made (in_place_of purpose) ≡ G → HasSameNumber m.made G → ((made_to_pair G).number ≡ Taken)
          ⊎ ((i : ℕ) × (Made_number n ≡ Made_number i) × MakesPair (pair_ask m.made (in_place_of purpose)))
      by_grown (On made') is same = inl (same ∙ has)
      by_grown (Pair made') is same = inr (n, refl, makes_pair m.made (in_place_of purpose) made' is)

  logged_number : (n : ℕ) (s : Stage) → KeepsNumber s (Made_number n) (made_in m.made n s)
  logged_number n (Writing write) = write_number write n (serves m.made write)
  logged_number n (Pairing purpose) = pairing_number purpose n
  logged_number n AtRoot = inl has
  logged_number n Making = inl has
  logged_number n (Opening t) = inl has
  logged_number n (Searching search) = inl has
  logged_number n (Offering gap) = inl has
  logged_number n (Showing removal) = inl has
  logged_number n (Putting put) = inl has
  logged_number n (Burying removal) = inl has
  logged_number n (Counting claimed) = inl has
  logged_number n (Noting claimed) = inl has
  logged_number n (Uncounting i) = inl has
  logged_number n (Leaving t) = inl has
  logged_number n (Growing need) = inl has
  logged_number n (Ended reply) = inl has

  pub number_stable : (a : Call_answer) → KeepsNumber m.state a (after m a).made
  number_stable = made_after m (KeepsNumber m.state) (record {
    same = λ _. inl has;
    told = λ _ count. inl (ap (λ y. (number_told (told_as m.made y count) m.made).number) has ∙ has);
    taken = λ _. inl (ap (λ y. (taken_as m.made y).number) has ∙ has);
    answered = λ _ kind. inl (answered_number kind);
  }) (λ n. logged_number n m.state)

-- so a call without a pair and without a number had no number
pub numberless_before : (m : Call_machine) (a : Call_answer) → IsValidState m.task m.state → IsFirst m.task (after m a).made (after m a).remembered
    → IsNumberless (after m a).made → IsNumberless m.made
numberless_before m a stands first none has = elim (number_stable m has a) [
  | inl still ↦ none still
  | inr (n, is, makes) ↦ paired_first m stands makes n (subst (λ y. IsFirst m.task (after m y).made (after m y).remembered) is first)
]

-- an ask that stores a part takes no number
make_takes : (ask : Call_ask) → IsMakeAsk ask → IsTakeAsk ask → ⊥
make_takes MakeKey makes takes = takes
make_takes MakeValue makes takes = takes
make_takes MakePair makes takes = takes
make_takes (MakePairOf n) makes takes = takes
make_takes ask makes takes = absurd makes

takes_number : (number : Number) (made : Made) (old : ℕ) → IsTakeAsk (number_ask number made old) → (taken_as made number).number ≡ Taken
takes_number Wanted made old takes = absurd takes
takes_number (Free n) made old takes = refl
takes_number Taken made old takes = absurd (make_takes (make_ask made old) (make_asks made old) takes)

takes_in : (made : Made) (hash : ℕ) (s : Stage) → IsTakeAsk (asks made hash s) → (made_at_exchanged made s).number ≡ Taken
takes_in made hash (Writing write) takes = by_served (serves made write) takes
  where
    by_served : (served : Option ℕ) → IsTakeAsk (served_ask served write made) → (write_taken served made).number ≡ Taken
    by_served None takes = takes_number made.number made write.old takes
    by_served (Some i) takes = absurd takes
takes_in made hash (Pairing purpose) takes = takes_number made.number made (in_place_of purpose) takes
takes_in made hash (Searching (Sizing t)) takes = absurd takes
takes_in made hash (Searching (Looking at)) takes = absurd takes
takes_in made hash (Searching (Reading at)) takes = absurd takes
takes_in made hash (Searching (Comparing at word)) takes = absurd takes
takes_in made hash AtRoot takes = absurd takes
takes_in made hash Making takes = absurd takes
takes_in made hash (Opening t) takes = absurd takes
takes_in made hash (Offering gap) takes = absurd takes
takes_in made hash (Showing removal) takes = absurd takes
takes_in made hash (Putting put) takes = absurd takes
takes_in made hash (Burying removal) takes = absurd takes
takes_in made hash (Counting claimed) takes = absurd takes
takes_in made hash (Noting claimed) takes = absurd takes
takes_in made hash (Uncounting n) takes = absurd takes
takes_in made hash (Leaving t) takes = absurd takes
takes_in made hash (Growing need) takes = absurd takes
takes_in made hash (Ended reply) takes = absurd takes

-- a number that was taken is the call's
pub number_taken : (m : Call_machine) (told : Call_answer) → IsNumberTaken (chain_asks.Call (ask_of m)) (answers.Call told)
    → IsNumberless (after m told).made → ⊥
number_taken m Exchanged took none = none (takes_in m.made m.hash m.state took)
number_taken m told took none = absurd took
