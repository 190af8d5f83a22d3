-- The result of its closure on which a call acts with the pair that it made.
use Rattle.std.proofs.Common.{◌≡◌, ◌⊎◌, inl, inr, ℕ, ◌<◌, Option, None, Some, sym, ◌∙◌, ap}
use Rattle.papaya_words.specs.Word.{pair_of}
use Rattle.papaya_call.specs.declared.ask.Answer.TheVariants.{Made as Made_number}
use Rattle.papaya_call.specs.declared.search.Search.TheVariants.{Sizing, Looking, Reading, Comparing}
use Rattle.papaya_call.specs.declared.machine.State.{State as Stage}
use Rattle.papaya_call.specs.declared.machine.State.TheVariants.{AtRoot, Making, Opening, Searching}
use Rattle.papaya_call.specs.declared.machine.State.TheVariants.{Writing, Offering, Showing}
use Rattle.papaya_call.specs.declared.machine.State.TheVariants.{Pairing, Putting, Burying}
use Rattle.papaya_call.specs.declared.machine.State.TheVariants.{Counting, Noting, Uncounting}
use Rattle.papaya_call.specs.declared.machine.State.TheVariants.{Leaving, Growing, Ended}
use Rattle.papaya_call.specs.declared.compute.Choice.TheVariants.{Replace as To_replace}
use Rattle.papaya_call.specs.declared.compute.Gap.{Gap}
use Rattle.papaya_call.specs.declared.compute.Gap.TheVariants.{NoRoot, At, After}
use Rattle.papaya_call.specs.declared.compute.Purpose.{Purpose}
use Rattle.papaya_call.specs.declared.compute.Purpose.TheVariants.{Fill, Replace, Again}
use Rattle.papaya_call.specs.declared.made.Grown.{Grown}
use Rattle.papaya_call.specs.declared.made.Grown.TheVariants.{On, Pair}
use Rattle.papaya_call.specs.declared.write.Write.{Write}
use Rattle.papaya_call.specs.Compute.{fills, in_place_of, provides, with_pair}
use Rattle.papaya_call.specs.Made.{grown, paired as pair_done}
use Rattle.papaya_call.specs.Machine.{paired, paired_held}
use Rattle.papaya_call.specs.Write.{made_of}
use Rattle.papaya_call.specs.declared.machine.Machine.{Machine as Call_machine}
use Rattle.papaya_call.specs.Machine as calls
use Rattle.papaya_call_law.specs.Says.{Inserts, IsAnswered, IsToPair, Makes, MakesPair, NamesPairs, ActsOn, result_in, result_to_choose, result_to_fill, shown_by}
use Rattle.papaya_call_law.proofs.Makings.{pair_made}
use Rattle.papaya_call_law.proofs.SaysSaid.{shown_pair}

module _ (m : Call_machine) (shown : Option ℕ) (n : ℕ) where
  -- in this stage
  abbrev at_stage : Stage → Call_machine
  at_stage s = record m { state = s }

  abbrev Before : Stage → Type 0
  Before s = ActsOn (at_stage s) (Inserts shown) ⊎ ActsOn (at_stage s) (Makes shown n)
      ⊎ ((i : ℕ) × (before : ℕ) × (shown ≡ Some i) × ActsOn (at_stage s) (Makes (Some i) before) × (IsAnswered s → ⊥))

  -- the remembered state stays, but for the pair that the new one replaces
  replaced : (write : Write) (word : ℕ) → 0 < word
      → (result_in m.task (Putting (record { write = record write { old = word }; pair = n })) ≡ Some (Makes shown n))
      ⊎ (result_to_fill m.remembered.fill ≡ Some (Makes shown n))
      ⊎ (result_to_choose (Some (To_replace (pair_of word) (made_of (record write { old = word }) n))) ≡ Some (Makes shown n))
      → (shown ≡ Some (pair_of word)) ⊎ (result_to_fill m.remembered.fill ≡ Some (Makes shown n))
  replaced write word some (inl e) = let is : shown_by word ≡ shown = cc in inl (sym is ∙ shown_pair word some)
  replaced write word some (inr (inl e)) = inr e
  replaced write word some (inr (inr e)) = let is : Some (pair_of word) ≡ shown = cc in inl (sym is)

  filled : (gap : Gap) → (result_in m.task (fills gap n) ≡ Some (Makes shown n)) ⊎ (Some (Makes None n) ≡ Some (Makes shown n))
      ⊎ (None ≡ Some (Makes shown n)) → shown ≡ None
  filled NoRoot (inl e) = absurd cc
  filled (At place) (inl e) = cc
  filled (After t) (inl e) = absurd cc
  filled gap (inr (inl e)) = cc
  filled gap (inr (inr e)) = absurd cc

  pairing_stands : (purpose : Purpose) → IsToPair m.remembered.choice purpose → (result_in m.task (provides purpose n) ≡ Some (Makes shown n))
      ⊎ (result_to_fill (with_pair m.remembered purpose n).fill ≡ Some (Makes shown n))
      ⊎ (result_to_choose (with_pair m.remembered purpose n).choice ≡ Some (Makes shown n)) → Before (Pairing purpose)
  pairing_stands (Fill gap) shows stands = inl (inl (ap (λ y. Some (Inserts y)) (sym (filled gap stands))))
  pairing_stands (Replace write) shows stands = elim (replaced write write.old shows stands) [
    | inl is ↦ inl (inl (ap (λ y. Some (Inserts y)) (sym is)))
    | inr kept ↦ inr (inl (inr (inl kept)))
  ]
  pairing_stands (Again write) (some, (new, chosen)) stands = elim (replaced write write.old some stands) [
    | inl is ↦ inr (inr (pair_of write.old, new.pair, is, inr (inr (ap result_to_choose chosen)), λ a. a))
    | inr kept ↦ inr (inl (inr (inl kept)))
  ]

  -- a pair was made
  paired_stands : (purpose : Purpose) → IsToPair m.remembered.choice purpose → (G : Grown) → G ≡ Pair (pair_done m.made)
      → (result_in m.task (paired G purpose n) ≡ Some (Makes shown n)) ⊎ (result_to_fill (paired_held G m.remembered purpose n).fill ≡ Some (Makes shown n))
      ⊎ (result_to_choose (paired_held G m.remembered purpose n).choice ≡ Some (Makes shown n)) → Before (Pairing purpose)
  paired_stands purpose shows (On made) is stands = absurd cc
  paired_stands purpose shows (Pair made) is stands = pairing_stands purpose shows stands

  stands_in : (s : Stage) → MakesPair (calls.ask_of (at_stage s)) → NamesPairs (at_stage s)
      → ActsOn (calls.after (at_stage s) (Made_number n)) (Makes shown n) → Before s
  stands_in (Pairing purpose) makes shows stands = paired_stands purpose shows (grown m.made (in_place_of purpose))
      (pair_made m.made (in_place_of purpose) makes) stands
  stands_in (Writing write) makes shows (inl e) = absurd cc
  stands_in (Writing write) makes shows (inr held) = inr (inl (inr held))
  stands_in AtRoot makes shows stands = absurd makes
  stands_in Making makes shows stands = absurd makes
  stands_in (Opening t) makes shows stands = absurd makes
  stands_in (Searching (Sizing t)) makes shows stands = absurd makes
  stands_in (Searching (Looking at)) makes shows stands = absurd makes
  stands_in (Searching (Reading at)) makes shows stands = absurd makes
  stands_in (Searching (Comparing at word)) makes shows stands = absurd makes
  stands_in (Offering gap) makes shows stands = absurd makes
  stands_in (Showing removal) makes shows stands = absurd makes
  stands_in (Putting put) makes shows stands = absurd makes
  stands_in (Burying removal) makes shows stands = absurd makes
  stands_in (Counting claimed) makes shows stands = absurd makes
  stands_in (Noting claimed) makes shows stands = absurd makes
  stands_in (Uncounting i) makes shows stands = absurd makes
  stands_in (Leaving t) makes shows stands = absurd makes
  stands_in (Growing need) makes shows stands = absurd makes
  stands_in (Ended reply) makes shows stands = absurd makes

-- If a call acts on a pair that it has just made, it acted before the step on a returned value
-- without a pair, on this same pair, or on an earlier pair for the same argument of its closure.
pub made_stands : (m : Call_machine) (shown : Option ℕ) (n : ℕ) → MakesPair (calls.ask_of m) → NamesPairs m
    → ActsOn (calls.after m (Made_number n)) (Makes shown n)
    → ActsOn m (Inserts shown) ⊎ ActsOn m (Makes shown n)
    ⊎ ((i : ℕ) × (before : ℕ) × (shown ≡ Some i) × ActsOn m (Makes (Some i) before) × (IsAnswered m.state → ⊥))
made_stands m shown n makes shows stands = stands_in m shown n m.state makes shows stands
