-- The pairs that an insertion has made: before the answer, or with it.
use Rattle.std.proofs.Common.{◌≡◌, ◌⊎◌, inl, inr, ℕ, ◌==◌, nat_lt, Bool, true, false, cond, Option, None, Some, refl, sym, ◌∙◌, ap, subst}
use Rattle.std.proofs.lemmas.Bool.{cond_both}
use Rattle.papaya_call.specs.declared.ask.Answer.{Answer as Call_answer}
use Rattle.papaya_call.specs.declared.ask.Answer.TheVariants.{Word as Word_read, Exchanged}
use Rattle.papaya_call.specs.declared.ask.Answer.TheVariants.{Found as Found_instead, Yes, Op, Size}
use Rattle.papaya_call.specs.declared.ask.Answer.TheVariants.{Made as Made_number, Ok as Ok_done}
use Rattle.papaya_call.specs.declared.ask.Answer.TheVariants.{Refused as Was_refused}
use Rattle.papaya_call.specs.declared.ask.OpKind.{OpKind}
use Rattle.papaya_call.specs.declared.ask.OpKind.TheVariants as op_kinds
use Rattle.papaya_call.specs.declared.call.Task.{Task}
use Rattle.papaya_call.specs.declared.call.Task.TheVariants as tasks
use Rattle.papaya_call.specs.declared.made.Grown.{Grown}
use Rattle.papaya_call.specs.declared.made.Grown.TheVariants.{On, Pair}
use Rattle.papaya_call.specs.declared.made.Made.{Made}
use Rattle.papaya_call.specs.declared.made.Number.{Number}
use Rattle.papaya_call.specs.declared.made.Number.TheVariants.{Wanted, Free, Taken}
use Rattle.papaya_call.specs.declared.made.Of.{Of}
use Rattle.papaya_call.specs.declared.write.Write.{Write}
use Rattle.papaya_call.specs.declared.machine.Machine.{Machine as Call_machine}
use Rattle.papaya_call.specs.declared.machine.State.{State as Stage}
use Rattle.papaya_call.specs.declared.machine.State.TheVariants.{AtRoot, Making, Opening, Searching}
use Rattle.papaya_call.specs.declared.machine.State.TheVariants.{Writing, Offering, Showing}
use Rattle.papaya_call.specs.declared.machine.State.TheVariants.{Pairing, Putting, Burying}
use Rattle.papaya_call.specs.declared.machine.State.TheVariants.{Counting, Noting, Uncounting}
use Rattle.papaya_call.specs.declared.machine.State.TheVariants.{Leaving, Growing, Ended}
use Rattle.papaya_call.specs.Compute.{in_place_of}
use Rattle.papaya_call.specs.Made.{answered, grown, grown_as, of_grown, own_grown, pair_ask, taken, taken_as, told, told_as, told_limit}
use Rattle.papaya_call.specs.Machine.{made_at_exchanged, made_at_op, made_at_word, made_decided, made_in, made_to_pair, number_told, write_made, write_taken}
use Rattle.papaya_call.specs.Machine as calls
use Rattle.papaya_call.specs.Write.{made_of, made_to_write, served_ask, serves, write_grown}
use Rattle.papaya_call_law.specs.Says.{MakesPair}
use Rattle.papaya_call_law.proofs.Makings.{makes_pair}
use Rattle.papaya_core_timeline.specs.Intends.{HasMade}
use Rattle.papaya_core_timeline.proofs.CallersLemmas.{same_item}

-- they are as before, whatever else the call has stored in the arena
abbrev IsSameMade : Made → Made → Type 0
IsSameMade made made' = (made'.own ≡ made.own) × (made'.of ≡ made.of)

made_before : (made made' : Made) → IsSameMade made made' → (n : ℕ) → HasMade made' n → HasMade made n
made_before made made' same n (inl own) = inl (sym same.0 ∙ own)
made_before made made' same n (inr (of, is, number)) = inr (of, sym same.1 ∙ is, number)

module _ (made : Made) where
  limit_same : (limit : Option ℕ) (count : ℕ) → IsSameMade made (number_told (told_limit made limit count) made)
  limit_same None count = (refl, refl)
  limit_same (Some most) count = cond_both (nat_lt count most) (Some (record made { number = Free count })) None
      (λ o. IsSameMade made (number_told o made)) (λ _. (refl, refl)) (λ _. (refl, refl))

  told_same : (number : Number) (count : ℕ) → IsSameMade made (number_told (told_as made number count) made)
  told_same Wanted count = limit_same made.limit count
  told_same (Free n) count = limit_same made.limit count
  told_same Taken count = (refl, refl)

  taken_same : (number : Number) → IsSameMade made (taken_as made number)
  taken_same Wanted = (refl, refl)
  taken_same (Free n) = (refl, refl)
  taken_same Taken = (refl, refl)

  answered_same : (kind : OpKind) → IsSameMade made (answered kind made)
  answered_same op_kinds.Insert = (refl, refl)
  answered_same op_kinds.Remove = (refl, refl)
  answered_same (op_kinds.Abort t) = (refl, refl)

  own_same : (keyed valued : Bool) → IsSameMade made (made_to_pair (own_grown keyed valued made))
  own_same false valued = (refl, refl)
  own_same true false = (refl, refl)
  own_same true true = (refl, refl)

  of_same : (valued : Bool) → IsSameMade made (made_to_pair (of_grown valued made))
  of_same false = (refl, refl)
  of_same true = (refl, refl)

  grown_same : (number : Number) (old : ℕ) → IsSameMade made (made_to_pair (grown_as number made old))
  grown_same Wanted old = (refl, refl)
  grown_same (Free n) old = (refl, refl)
  grown_same Taken old = cond_both (old == 0) (own_grown made.keyed made.valued made) (of_grown made.valued made)
      (λ G. IsSameMade made (made_to_pair G)) (λ _. own_same made.keyed made.valued) (λ _. of_same made.valued)

module _ (m : Call_machine) (n : ℕ) where
  -- in this stage
  abbrev in_stage : Stage → Call_machine
  in_stage s = record m { state = s }

  abbrev Before : Call_answer → Stage → Type 0
  Before a s = HasMade m.made n ⊎ (MakesPair (calls.ask_of (in_stage s)) × (a ≡ Made_number n))

  -- a pair was made for a place
  placed_before : (made' : Made) → IsSameMade m.made made' → (write : Write) (l : ℕ) (empty : Bool)
      → HasMade (cond empty (record made' { own = Some l }) (record made' { of = Some (made_of write l) })) n → HasMade m.made n ⊎ (l ≡ n)
  placed_before made' same write l true (inl own) = inr (same_item l n own)
  placed_before made' same write l true (inr of) = inl (made_before m.made made' same n (inr of))
  placed_before made' same write l false (inl own) = inl (made_before m.made made' same n (inl own))
  placed_before made' same write l false (inr (of, is, number)) = let made_is : made_of write l ≡ of = same_item (made_of write l) of is in
      inr (ap (λ (o : Of). o.pair) made_is ∙ number)

  unserved_before : (write : Write) (l : ℕ) (G : Grown) → grown m.made write.old ≡ G → HasMade (made_to_write G write l) n → HasMade m.made n
      ⊎ (MakesPair (pair_ask m.made write.old) × (Made_number l ≡ Made_number n))
  unserved_before write l (On made') is has = inl
      (made_before m.made made' (subst (λ G. IsSameMade m.made (made_to_pair G)) is (grown_same m.made m.made.number write.old)) n has)
  unserved_before write l (Pair made') is has =
      elim (placed_before made' (subst (λ G. IsSameMade m.made (made_to_pair G)) is (grown_same m.made m.made.number write.old)) write l (write.old == 0) has) [
        | inl before ↦ inl before
        | inr number ↦ inr (makes_pair m.made write.old made' is, ap Made_number number)
      ]

  written_before : (write : Write) (l : ℕ) (served : Option ℕ) → HasMade (write_grown served m.made write l) n → HasMade m.made n
      ⊎ (MakesPair (served_ask served write m.made) × (Made_number l ≡ Made_number n))
  written_before write l None has = unserved_before write l (grown m.made write.old) refl has
  written_before write l (Some i) has = inl has

  word_before : (s : Stage) (count : ℕ) → HasMade (made_at_word m.made count s) n → HasMade m.made n
  word_before (Writing write) count has = by_served (serves m.made write) has
    where
      by_served : (served : Option ℕ) → HasMade (write_made served m.made count) n → HasMade m.made n
      by_served None has = made_before m.made (number_told (told m.made count) m.made) (told_same m.made m.made.number count) n has
      by_served (Some i) has = has
  word_before (Pairing purpose) count has = made_before m.made (number_told (told m.made count) m.made) (told_same m.made m.made.number count) n has
  word_before AtRoot count has = has
  word_before Making count has = has
  word_before (Opening t) count has = has
  word_before (Searching search) count has = has
  word_before (Offering gap) count has = has
  word_before (Showing removal) count has = has
  word_before (Putting put) count has = has
  word_before (Burying removal) count has = has
  word_before (Counting claimed) count has = has
  word_before (Noting claimed) count has = has
  word_before (Uncounting i) count has = has
  word_before (Leaving t) count has = has
  word_before (Growing need) count has = has
  word_before (Ended reply) count has = has

  exchanged_before : (s : Stage) → HasMade (made_at_exchanged m.made s) n → HasMade m.made n
  exchanged_before (Writing write) has = by_served (serves m.made write) has
    where
      by_served : (served : Option ℕ) → HasMade (write_taken served m.made) n → HasMade m.made n
      by_served None has = made_before m.made (taken m.made) (taken_same m.made m.made.number) n has
      by_served (Some i) has = has
  exchanged_before (Pairing purpose) has = made_before m.made (taken m.made) (taken_same m.made m.made.number) n has
  exchanged_before s has = has

  op_before : (kind : OpKind) (s : Stage) → HasMade (made_at_op m.task kind m.made s) n → HasMade m.made n
  op_before kind (Offering gap) has = made_before m.made (answered kind m.made) (answered_same m.made kind) n has
  op_before kind (Showing removal) has = by_task m.task has
    where
      by_task : (task : Task) → HasMade (made_decided task kind m.made) n → HasMade m.made n
      by_task tasks.Compute has = made_before m.made (answered kind m.made) (answered_same m.made kind) n has
      by_task tasks.Get has = has
      by_task (tasks.Insert replace) has = has
      by_task tasks.RemoveIf has = has
  op_before kind s has = has

  number_before : (l : ℕ) (s : Stage) → HasMade (made_in m.made l s) n → Before (Made_number l) s
  number_before l (Writing write) has = written_before write l (serves m.made write) has
  number_before l (Pairing purpose) has = inl
      (made_before m.made (made_to_pair (grown m.made (in_place_of purpose))) (grown_same m.made m.made.number (in_place_of purpose)) n has)
  number_before l s has = inl has

  made_after : (a : Call_answer) (s : Stage) → HasMade (calls.after (in_stage s) a).made n → Before a s
  made_after (Word_read word) s has = inl (word_before s word has)
  made_after Exchanged s has = inl (exchanged_before s has)
  made_after (Found_instead word) s has = inl (word_before s word has)
  made_after (Yes same) s has = inl has
  made_after (Op kind) s has = inl (op_before kind s has)
  made_after (Size slots limit) s has = inl has
  made_after (Made_number l) s has = number_before l s has
  made_after Ok_done s has = inl has
  made_after (Was_refused refused) s has = inl has

-- a pair that was made is the answer to an ask for it
pub after_made : (m : Call_machine) (a : Call_answer) (n : ℕ) → HasMade (calls.after m a).made n → HasMade m.made n
    ⊎ (MakesPair (calls.ask_of m) × (a ≡ Made_number n))
after_made m a n made = made_after m n a m.state made
