-- The pair that a compute makes, for an absent key or to replace a pair with which its closure was
-- called; and the results on which the compute then relies.
use Rattle.std.proofs.Common.{◌≡◌, ◌⊎◌, inl, inr, ℕ, ◌<◌, ◌==◌, eqb-true, Bool, true, false, cond, Option, None, Some, refl, sym, ap, ◌∙◌, subst, arith}
use Rattle.papaya_words.specs.Word.{pair_of}
use Rattle.papaya_call.specs.declared.ask.Ask.TheVariants.{MakePair, MakePairOf}
use Rattle.papaya_call.specs.declared.ask.Answer.TheVariants.{Made as Made_number}
use Rattle.papaya_call.specs.declared.call.Task.{Task}
use Rattle.papaya_call.specs.declared.call.Task.TheVariants.{Compute}
use Rattle.papaya_call.specs.declared.search.Search.TheVariants.{Sizing, Looking, Reading, Comparing}
use Rattle.papaya_call.specs.declared.compute.Choice.{Choice}
use Rattle.papaya_call.specs.declared.compute.Choice.TheVariants.{Replace as To_replace}
use Rattle.papaya_call.specs.declared.compute.Gap.{Gap}
use Rattle.papaya_call.specs.declared.compute.Gap.TheVariants.{NoRoot, At, After}
use Rattle.papaya_call.specs.declared.compute.Purpose.{Purpose}
use Rattle.papaya_call.specs.declared.compute.Purpose.TheVariants.{Fill, Replace, Again}
use Rattle.papaya_call.specs.declared.machine.Machine.{Machine}
use Rattle.papaya_call.specs.declared.machine.State.{State}
use Rattle.papaya_call.specs.declared.machine.State.TheVariants.{Searching, Writing, Pairing, Putting}
use Rattle.papaya_call.specs.declared.made.Grown.{Grown}
use Rattle.papaya_call.specs.declared.made.Grown.TheVariants.{On, Pair}
use Rattle.papaya_call.specs.declared.made.Made.{Made}
use Rattle.papaya_call.specs.declared.made.Number.{Number}
use Rattle.papaya_call.specs.declared.made.Number.TheVariants.{Wanted, Free, Taken}
use Rattle.papaya_call.specs.declared.write.Write.{Write}
use Rattle.papaya_call.specs.Compute.{fills, in_place_of}
use Rattle.papaya_call.specs.Machine.{IsValid, IsValidState, after, ask_of, asks, made_to_pair, paired, paired_held}
use Rattle.papaya_call.specs.Made.{grown, number_ask, of_ask, own_ask, pair_ask, paired as pair_done}
use Rattle.papaya_call.specs.Write.{made_of}
use Rattle.papaya_call_law.specs.Says.{Inserts, IsAnswered, KeepsFill, Makes, MakesPair, ClosureResult}
use Rattle.papaya_call_law.specs.Says.{NamesPairIn, NamesPairs, ActsOn, result_in, result_to_choose}
use Rattle.papaya_call_law.specs.Says.{result_to_fill, shown_by}
use Rattle.papaya_call_law.proofs.Makings.{pair_made}
use Rattle.papaya_call_law.proofs.SaysSaid.{shown_pair}

-- a pair of the call's own key is made in the place of an empty word alone, and any other in the place of one that names a pair
own_pair : (keyed valued : Bool) (i : ℕ) → own_ask keyed valued ≡ MakePairOf i → ⊥
own_pair false valued i e = cc e
own_pair true false i e = cc e
own_pair true true i e = cc e

of_pair : (valued : Bool) (old : ℕ) → of_ask valued old ≡ MakePair → ⊥
of_pair false old e = cc e
of_pair true old e = cc e

of_number : (valued : Bool) (old i : ℕ) → of_ask valued old ≡ MakePairOf i → pair_of old ≡ i
of_number false old i e = absurd (cc e)
of_number true old i e = cc e

filled_old : (number : Number) (made : Made) (old : ℕ) → number_ask number made old ≡ MakePair → old ≡ 0
filled_old Wanted made old e = absurd (cc e)
filled_old (Free count) made old e = absurd (cc e)
filled_old Taken made old e = by_old (old == 0) refl e
  where
    by_old : (b : Bool) → (old == 0) ≡ b → cond b (own_ask made.keyed made.valued) (of_ask made.valued old) ≡ MakePair → old ≡ 0
    by_old true is f = eqb-true old 0 is
    by_old false is f = absurd (of_pair made.valued old f)

replaced_old : (number : Number) (made : Made) (old i : ℕ) → number_ask number made old ≡ MakePairOf i → (pair_of old ≡ i) × (old ≡ 0 → ⊥)
replaced_old Wanted made old i e = absurd (cc e)
replaced_old (Free count) made old i e = absurd (cc e)
replaced_old Taken made old i e = by_old (old == 0) refl e
  where
    by_old : (b : Bool) → (old == 0) ≡ b → cond b (own_ask made.keyed made.valued) (of_ask made.valued old) ≡ MakePairOf i → (pair_of old ≡ i) × (old ≡ 0 → ⊥)
    by_old true is f = absurd (own_pair made.keyed made.valued i f)
    by_old false is f = (of_number made.valued old i f, λ zero. let same : false ≡ true = sym is ∙ ap (λ (n : ℕ). n == 0) zero in cc same)

-- It makes a pair for an absent key: no pair that its closure was called with before is in the map
-- again.
pub record IsFilling (m : Machine) (n : ℕ) : Type 0 where
  pub said : ActsOn m (Inserts None)
  pub then : (stands : ClosureResult) → ActsOn (after m (Made_number n)) stands → stands ≡ Makes None n
  pub choice : (after m (Made_number n)).remembered.choice ≡ None

-- It makes one in the place of the pair of this number, from its closure's result of just now or
-- before.
pub record IsReplacing (m : Machine) (i n : ℕ) : Type 0 where
  pub write : Write
  pub number : pair_of write.old ≡ i
  pub purpose : (m.state ≡ Pairing (Replace write)) ⊎ (m.state ≡ Pairing (Again write))
  pub said : ActsOn m (Inserts (Some i)) ⊎ ((j : ℕ) × ActsOn m (Makes (Some i) j) × (IsAnswered m.state → ⊥))
  pub then : (stands : ClosureResult) → ActsOn (after m (Made_number n)) stands → (stands ≡ Makes (Some i) n) ⊎ KeepsFill m stands
  pub choice : (after m (Made_number n)).remembered.choice ≡ Some (To_replace i (made_of write n))

module _ (m : Machine) (n : ℕ) where
  -- the compute in another state
  abbrev on : State → Machine
  on stage = record m { task = Compute; state = stage }

  -- the parts of the state that it relies on
  abbrev IsOf : State → Option ℕ → Option Choice → ClosureResult → Type 0
  IsOf stage fill choice said = (result_in Compute stage ≡ Some said) ⊎ (result_to_fill fill ≡ Some said) ⊎ (result_to_choose choice ≡ Some said)

  fill_over : (gap : Gap) (said : ClosureResult) → IsOf (fills gap n) (Some n) None said → said ≡ Makes None n
  fill_over NoRoot said (inl e) = absurd (cc e)
  fill_over (At place) said (inl e) = let is : Makes None n ≡ said = cc e in sym is
  fill_over (After t) said (inl e) = absurd (cc e)
  fill_over gap said (inr (inl e)) = let is : Makes None n ≡ said = cc e in sym is
  fill_over gap said (inr (inr e)) = absurd (cc e)

  keeps_fill : (stage : State) (fill : Option ℕ) → m.remembered.fill ≡ fill → (said : ClosureResult) → result_to_fill fill ≡ Some said → KeepsFill (on stage) said
  keeps_fill stage None is said e = absurd (cc e)
  keeps_fill stage (Some i) is said e = let same : Makes None i ≡ said = cc e in (i, sym same, inr (inl (ap result_to_fill is ∙ e)))

  replace_over : (stage : State) (write : Write) (said : ClosureResult) → 0 < write.old
      → IsOf (Putting (record { write = write; pair = n })) m.remembered.fill (Some (To_replace (pair_of write.old) (made_of write n))) said
      → (said ≡ Makes (Some (pair_of write.old)) n) ⊎ KeepsFill (on stage) said
  replace_over stage write said some (inl e) = let is : Makes (shown_by write.old) n ≡ said = cc e in
      inl (sym is ∙ ap (λ o. Makes o n) (shown_pair write.old some))
  replace_over stage write said some (inr (inl e)) = inr (keeps_fill stage m.remembered.fill refl said e)
  replace_over stage write said some (inr (inr e)) = let is : Makes (Some (pair_of write.old)) n ≡ said = cc e in inl (sym is)

  -- the pair was made
  module _ (stage : State) (purpose : Purpose) where
    abbrev Then : Grown → Machine
    Then G = record m { task = Compute; made = made_to_pair G; remembered = paired_held G m.remembered purpose n; state = paired G purpose n }

  filling : (gap : Gap) → (G : Grown) → G ≡ Pair (pair_done m.made)
      → ((stands : ClosureResult) → ActsOn (Then (Pairing (Fill gap)) (Fill gap) G) stands → stands ≡ Makes None n)
      × ((paired_held G m.remembered (Fill gap) n).choice ≡ None)
  filling gap (On made) is = absurd (cc is)
  filling gap (Pair made) is = (fill_over gap, refl)

  replacing : (write : Write) → 0 < write.old → (G : Grown) → G ≡ Pair (pair_done m.made)
      → ((stands : ClosureResult) → ActsOn (Then (Pairing (Replace write)) (Replace write) G) stands → (stands ≡ Makes (Some (pair_of write.old)) n)
      ⊎ KeepsFill (on (Pairing (Replace write))) stands)
      × ((paired_held G m.remembered (Replace write) n).choice ≡ Some (To_replace (pair_of write.old) (made_of write n)))
  replacing write some (On made) is = absurd (cc is)
  replacing write some (Pair made) is = ((λ stands. replace_over (Pairing (Replace write)) write stands some), refl)

  replacing_again : (write : Write) → 0 < write.old → (G : Grown) → G ≡ Pair (pair_done m.made)
      → ((stands : ClosureResult) → ActsOn (Then (Pairing (Again write)) (Again write) G) stands → (stands ≡ Makes (Some (pair_of write.old)) n)
      ⊎ KeepsFill (on (Pairing (Again write))) stands)
      × ((paired_held G m.remembered (Again write) n).choice ≡ Some (To_replace (pair_of write.old) (made_of write n)))
  replacing_again write some (On made) is = absurd (cc is)
  replacing_again write some (Pair made) is = ((λ stands. replace_over (Pairing (Again write)) write stands some), refl)

  -- it was made for this purpose
  made_for : (purpose : Purpose) → MakesPair (pair_ask m.made (in_place_of purpose)) → grown m.made (in_place_of purpose) ≡ Pair (pair_done m.made)
  made_for purpose makes = pair_made m.made (in_place_of purpose) makes

  filling_in : (stage : State) → IsValidState Compute stage → NamesPairIn m.remembered.choice stage → asks m.made m.hash stage ≡ MakePair
      → IsFilling (on stage) n
  filling_in (Pairing (Fill gap)) is shows e =
      let f = filling gap (grown m.made 0) (made_for (Fill gap) (subst MakesPair (sym e) tt)) in record { said = inl refl; then = f.0; choice = f.1 }
  filling_in (Pairing (Replace write)) is shows e = let zero = filled_old m.made.number m.made write.old e in absurd (omega (arith, shows, zero))
  filling_in (Pairing (Again write)) is shows e = let zero = filled_old m.made.number m.made write.old e in let some = shows.0 in
      absurd (omega (arith, some, zero))
  filling_in (Writing write) is shows e = absurd is.0
  filling_in (Searching (Sizing t)) is shows e = absurd (cc e)
  filling_in (Searching (Looking at)) is shows e = absurd (cc e)
  filling_in (Searching (Reading at)) is shows e = absurd (cc e)
  filling_in (Searching (Comparing at word)) is shows e = absurd (cc e)
  filling_in stage is shows e = absurd (cc e)

  pub machine_filling : m.task ≡ Compute → IsValid m → NamesPairs m → ask_of m ≡ MakePair → IsFilling m n
  machine_filling is valid shows e = subst (λ (t : Task). IsValidState t m.state → IsFilling (record m { task = t }) n) (sym is)
      (λ s. filling_in m.state s shows e) valid.state

  replacing_in : (i : ℕ) (stage : State) → IsValidState Compute stage → NamesPairIn m.remembered.choice stage → asks m.made m.hash stage ≡ MakePairOf i
      → IsReplacing (on stage) i n
  replacing_in i (Pairing (Fill gap)) is shows e = absurd ((replaced_old m.made.number m.made 0 i e).1 refl)
  replacing_in i (Pairing (Replace write)) is shows e =
      let number = (replaced_old m.made.number m.made write.old i e).0 in
      let f = replacing write shows (grown m.made write.old) (made_for (Replace write) (subst MakesPair (sym e) tt)) in
      subst (λ j. IsReplacing (on (Pairing (Replace write))) j n) number
      (record { write = write; number = refl; purpose = inl refl; said = inl (inl refl); then = f.0; choice = f.1 })
  replacing_in i (Pairing (Again write)) is (some, (new, chosen)) e =
      let number = (replaced_old m.made.number m.made write.old i e).0 in
      let f = replacing_again write some (grown m.made write.old) (made_for (Again write) (subst MakesPair (sym e) tt)) in
      subst (λ j. IsReplacing (on (Pairing (Again write))) j n) number
      (record {
        write = write;
        number = refl;
        purpose = inr refl;
        said = inr (new.pair, inr (inr (ap result_to_choose chosen)), λ waits. waits);
        then = f.0;
        choice = f.1;
      })
  replacing_in i (Writing write) is shows e = absurd is.0
  replacing_in i (Searching (Sizing t)) is shows e = absurd (cc e)
  replacing_in i (Searching (Looking at)) is shows e = absurd (cc e)
  replacing_in i (Searching (Reading at)) is shows e = absurd (cc e)
  replacing_in i (Searching (Comparing at word)) is shows e = absurd (cc e)
  replacing_in i stage is shows e = absurd (cc e)

  pub machine_replacing : (i : ℕ) → m.task ≡ Compute → IsValid m → NamesPairs m → ask_of m ≡ MakePairOf i → IsReplacing m i n
  machine_replacing i is valid shows e = subst (λ (t : Task). IsValidState t m.state → IsReplacing (record m { task = t }) i n) (sym is)
      (λ s. replacing_in i m.state s shows e) valid.state
