-- The results of its closure on which a compute no longer acts after an answer, and those on which
-- its exchanges are based.
use Rattle.std.proofs.Common.{◌≡◌, ◌⊎◌, inl, inr, ⊎_elim, ℕ, ◌<◌, ◌^◌, ◌==◌, Bool, true, false, cond, Option, None, Some, refl, sym, ap, ◌∙◌, subst}
use Rattle.papaya_words.specs.Word.{pair_of, live_word}
use Rattle.papaya_call.specs.declared.ask.At.TheVariants.{Slot}
use Rattle.papaya_call.specs.declared.ask.Ask.TheVariants.{Exchange, ShowPair}
use Rattle.papaya_call.specs.declared.ask.Answer.TheVariants.{Op}
use Rattle.papaya_call.specs.declared.ask.OpKind.TheVariants as ops
use Rattle.papaya_call.specs.declared.ask.StepKind.TheVariants as kinds
use Rattle.papaya_call.specs.declared.call.Reply.{Reply}
use Rattle.papaya_call.specs.declared.call.Reply.TheVariants.{Absent, Found, Inserted, Replaced}
use Rattle.papaya_call.specs.declared.call.Reply.TheVariants.{Occupied, Removed, Kept, Aborted}
use Rattle.papaya_call.specs.declared.call.Reply.TheVariants.{Done as Reply_done}
use Rattle.papaya_call.specs.declared.call.Reply.TheVariants.{Refused as Reply_refused}
use Rattle.papaya_call.specs.declared.call.Task.{Task}
use Rattle.papaya_call.specs.declared.call.Task.TheVariants.{Compute}
use Rattle.papaya_call.specs.declared.compute.Choice.{Choice}
use Rattle.papaya_call.specs.declared.compute.Choice.TheVariants.{Replace as To_replace, Remove as To_remove}
use Rattle.papaya_call.specs.declared.compute.Gap.{Gap}
use Rattle.papaya_call.specs.declared.compute.Gap.TheVariants.{NoRoot, At, After}
use Rattle.papaya_call.specs.declared.compute.Purpose.{Purpose}
use Rattle.papaya_call.specs.declared.compute.Purpose.TheVariants.{Fill, Replace, Again}
use Rattle.papaya_call.specs.declared.compute.Remembered.{Remembered}
use Rattle.papaya_call.specs.declared.compute.Put.{Put}
use Rattle.papaya_call.specs.declared.remove.Removal.{Removal}
use Rattle.papaya_call.specs.declared.search.Search.TheVariants.{Sizing, Looking, Reading, Comparing}
use Rattle.papaya_call.specs.declared.made.Made.{Made}
use Rattle.papaya_call_law.proofs.Makings.{IsPairAsk, IsWriteAsk, pair_made, pairing_asks, write_asks}
use Rattle.papaya_call.specs.declared.write.Write.{Write}
use Rattle.papaya_call.specs.declared.machine.Machine.{Machine}
use Rattle.papaya_call.specs.declared.machine.State.{State as Stage}
use Rattle.papaya_call.specs.declared.machine.State.TheVariants.{Searching, Writing, Showing, Pairing, Putting, Burying, Ended}
use Rattle.papaya_call.specs.declared.made.Grown.{Grown}
use Rattle.papaya_call.specs.declared.made.Grown.TheVariants.{On as More, Pair}
use Rattle.papaya_call.specs.Made.{grown, paired as pair_done}
use Rattle.papaya_call.specs.Write.{made_of}
use Rattle.papaya_call.specs.Compute.{fills, in_place_of}
use Rattle.papaya_call.specs.Machine.{IsValid, IsValidState, after, ask_of, asks, made_to_pair, paired, paired_held}
use Rattle.papaya_call_law.specs.Says.{ClosureResult, Agrees, Inserts, Makes, MakesPair, Removes, IsPaired}
use Rattle.papaya_call_law.specs.Says.{IsResultExchange, KeepsFill, NamesPairIn, NamesPairs, ActsOn}
use Rattle.papaya_call_law.specs.Says.{WasReturned, result_in, result_in_reply, result_to_choose}
use Rattle.papaya_call_law.specs.Says.{result_to_fill, shown_by}
use Rattle.papaya_call_law.proofs.NewWords.{pair_of-live_word}
use Rattle.papaya_call_law.proofs.SaysSaid.{shown_pair}

-- the pair for an absent key was made from the closure's result for None
fill_makes : (fill : Option ℕ) (said : ClosureResult) → result_to_fill fill ≡ Some said → (i : ℕ) × (said ≡ Makes None i)
fill_makes None said e = absurd cc
fill_makes (Some i) said e = let is : Makes None i ≡ said = cc e in (i, sym is)

-- a pair that is put in its place is the pair for an absent key
fills_makes : (gap : Gap) (n : ℕ) (said : ClosureResult) → result_in Compute (fills gap n) ≡ Some said → said ≡ Makes None n
fills_makes NoRoot n said e = absurd cc
fills_makes (At place) n said e = let is : Makes None n ≡ said = cc e in sym is
fills_makes (After t) n said e = absurd cc

module _ (n : ℕ) (agrees : Bool) where
  -- no reply of a compute relies on a result `true` or `false`
  agrees_no_reply : (reply : Reply) → result_in_reply Compute reply ≡ Some (Agrees n agrees) → ⊥
  agrees_no_reply Absent e = cc e
  agrees_no_reply (Found i) e = cc e
  agrees_no_reply (Inserted i) e = cc e
  agrees_no_reply (Replaced old new) e = cc e
  agrees_no_reply (Occupied i) e = cc e
  agrees_no_reply (Removed i) e = cc e
  agrees_no_reply (Kept i) e = cc e
  agrees_no_reply (Aborted with) e = cc e
  agrees_no_reply Reply_done e = cc e
  agrees_no_reply (Reply_refused refused) e = cc e

  -- nor does a state of it
  agrees_no_stage : (stage : Stage) → result_in Compute stage ≡ Some (Agrees n agrees) → ⊥
  agrees_no_stage (Pairing (Fill gap)) e = cc e
  agrees_no_stage (Pairing (Replace write)) e = cc e
  agrees_no_stage (Pairing (Again write)) e = cc e
  agrees_no_stage (Ended reply) e = agrees_no_reply reply e
  agrees_no_stage stage e = cc e

  -- no call remembers such a result with the pair for an absent key
  agrees_no_fill : (fill : Option ℕ) → result_to_fill fill ≡ Some (Agrees n agrees) → ⊥
  agrees_no_fill None e = cc e
  agrees_no_fill (Some i) e = cc e

  -- nor with the result for the pair last passed to the closure
  agrees_no_choice : (choice : Option Choice) → result_to_choose choice ≡ Some (Agrees n agrees) → ⊥
  agrees_no_choice None e = cc e
  agrees_no_choice (Some (To_replace old new)) e = cc e
  agrees_no_choice (Some (To_remove old)) e = cc e

  -- so a machine that relies on such a result does so by its state
  stage_agrees : (m : Machine) → ActsOn m (Agrees n agrees) → result_in m.task m.state ≡ Some (Agrees n agrees)
  stage_agrees m stands = ⊎_elim (λ h. h) (λ o.
      absurd (⊎_elim (λ h. agrees_no_fill m.remembered.fill h) (λ h. agrees_no_choice m.remembered.choice h) o)) stands

  -- nor does the state of a machine that calls its closure with a pair
  showing_unsaid : (task : Task) (made : Made) (hash : ℕ) (stage : Stage) (shown : ℕ) → asks made hash stage ≡ ShowPair shown
      → result_in task stage ≡ Some (Agrees n agrees) → ⊥
  showing_unsaid task made hash (Searching (Sizing t)) shown e said = cc e
  showing_unsaid task made hash (Searching (Looking at)) shown e said = cc e
  showing_unsaid task made hash (Searching (Reading at)) shown e said = cc e
  showing_unsaid task made hash (Searching (Comparing at word)) shown e said = cc e
  showing_unsaid task made hash (Writing write) shown e said = subst IsWriteAsk e (write_asks made write)
  showing_unsaid task made hash (Pairing purpose) shown e said = subst IsPairAsk e (pairing_asks made purpose)
  showing_unsaid task made hash (Showing removal) shown e said = cc said
  showing_unsaid task made hash stage shown e said = cc e

-- a compute relies on no result `true` or `false`
pub computed_unsaid : (m : Machine) (n : ℕ) (agrees : Bool) → m.task ≡ Compute → ActsOn m (Agrees n agrees) → ⊥
computed_unsaid m n agrees is stands = agrees_no_stage n agrees m.state
    (subst (λ t. result_in t m.state ≡ Some (Agrees n agrees)) is (stage_agrees n agrees m stands))

-- a machine that calls its closure with a pair relies on no such result for one
pub unsaid : (m : Machine) (shown n : ℕ) (agrees : Bool) → ask_of m ≡ ShowPair shown → ActsOn m (Agrees n agrees) → ⊥
unsaid m shown n agrees e stands = showing_unsaid n agrees m.task m.made m.hash m.state shown e (stage_agrees n agrees m stands)

module _ (m : Machine) where
  -- the compute of these
  abbrev on : Made → Stage → Machine
  on made stage = record m { task = Compute; made = made; state = stage }

  -- the pair for an absent key is remembered
  keeps_fill : (made : Made) (stage : Stage) (said : ClosureResult) → result_to_fill m.remembered.fill ≡ Some said → KeepsFill (on made stage) said
  keeps_fill made stage said e = let made_of = fill_makes m.remembered.fill said e in (made_of.0, made_of.1, inr (inl e))

  -- a pair that is to be removed
  removes_over : (made : Made) (removal : Removal) (n : ℕ) (said : ClosureResult) → pair_of removal.word ≡ n
      → ActsOn (after (on made (Showing removal)) (Op ops.Remove)) said → (said ≡ Removes n) ⊎ KeepsFill (on made (Showing removal)) said
  removes_over made removal n said same stands =
      let removed : Some (Removes (pair_of removal.word)) ≡ Some said
      → said ≡ Removes n = λ e. let is : Removes (pair_of removal.word) ≡ said = cc e in sym is ∙ ap (λ i. Removes i) same in
      ⊎_elim (λ e. inl (removed e)) (λ o. ⊎_elim (λ e. inr (keeps_fill made (Showing removal) said e)) (λ e. inl (removed e)) o) stands

  -- in each stage
  removes_over_in : (made : Made) (stage : Stage) (n : ℕ) (said : ClosureResult) → asks made m.hash stage ≡ ShowPair n
      → ActsOn (after (on made stage) (Op ops.Remove)) said → (said ≡ Removes n) ⊎ KeepsFill (on made stage) said
  removes_over_in made (Showing removal) n said e stands = let same : pair_of removal.word ≡ n = cc e in removes_over made removal n said same stands
  removes_over_in made (Searching (Sizing t)) n said e stands = absurd cc
  removes_over_in made (Searching (Looking at)) n said e stands = absurd cc
  removes_over_in made (Searching (Reading at)) n said e stands = absurd cc
  removes_over_in made (Searching (Comparing at word)) n said e stands = absurd cc
  removes_over_in made (Writing write) n said e stands = absurd (subst IsWriteAsk e (write_asks made write))
  removes_over_in made (Pairing purpose) n said e stands = absurd (subst IsPairAsk e (pairing_asks made purpose))
  removes_over_in made stage n said e stands = absurd cc

  -- for the whole machine
  pub machine_chosen : (n : ℕ) (said : ClosureResult) → m.task ≡ Compute → ask_of m ≡ ShowPair n → ActsOn (after m (Op ops.Remove)) said → (said ≡ Removes n)
      ⊎ KeepsFill m said
  machine_chosen n said is e stands =
      subst (λ t. ActsOn (after (record m { task = t }) (Op ops.Remove)) said → (said ≡ Removes n) ⊎ KeepsFill (record m { task = t }) said)
      (sym is) (removes_over_in m.made m.state n said e) stands

  -- the results that a machine relies on, by its parts
  abbrev IsOf : Stage → Option ℕ → Option Choice → ClosureResult → Type 0
  IsOf stage fill choice said = (result_in Compute stage ≡ Some said) ⊎ (result_to_fill fill ≡ Some said) ⊎ (result_to_choose choice ≡ Some said)

  -- a pair for an absent key
  fill_over : (made : Made) (gap : Gap) (n : ℕ) (said : ClosureResult) → IsOf (fills gap n) (Some n) None said → said ≡ Makes None n
  fill_over made gap n said stands =
      ⊎_elim
      (λ e. fills_makes gap n said e)
      (λ o. ⊎_elim (λ e. let is : Makes None n ≡ said = cc e in sym is) (λ e. absurd cc) o)
      stands

  -- a pair that replaces another
  replace_over : (made : Made) (purpose : Purpose) (write : Write) (n : ℕ) (said : ClosureResult) → 0 < write.old
      → IsOf (Putting (record { write = write; pair = n })) m.remembered.fill (Some (To_replace (pair_of write.old) (made_of write n))) said
      → (said ≡ Makes (Some (pair_of write.old)) n) ⊎ KeepsFill (on made (Pairing purpose)) said
  replace_over made purpose write n said some stands =
      ⊎_elim
      (λ e. let is : Makes (shown_by write.old) n ≡ said = cc e in inl (sym is ∙ ap (λ o. Makes o n) (shown_pair write.old some)))
      (λ o. ⊎_elim (λ e. inr (keeps_fill made (Pairing purpose) said e)) (λ e. let is : Makes (Some (pair_of write.old)) n ≡ said = cc e in inl (sym is)) o)
      stands

  -- the results that a compute relies on once its pair was made, in the state after it
  abbrev WasPaired : Made → Purpose → ℕ → Made → Remembered → Stage → Type 0
  WasPaired made purpose n next held stage =
      (ActsOn (on made (Pairing purpose)) (Inserts None)
      × ((said : ClosureResult) → ActsOn (record m { task = Compute; made = next; remembered = held; state = stage }) said → said ≡ Makes None n))
      ⊎ ((i : ℕ) × WasReturned (on made (Pairing purpose)) (Some i)
      × ((said : ClosureResult) → ActsOn (record m { task = Compute; made = next; remembered = held; state = stage }) said → (said ≡ Makes (Some i) n)
      ⊎ KeepsFill (on made (Pairing purpose)) said))

  -- by its purpose
  pairs_over : (made : Made) (purpose : Purpose) (n : ℕ) → (G : Grown) → grown made (in_place_of purpose) ≡ G → G ≡ Pair (pair_done made)
      → NamesPairIn m.remembered.choice (Pairing purpose)
      → WasPaired made purpose n (made_to_pair G) (paired_held G m.remembered purpose n) (paired G purpose n)
  pairs_over made purpose n (More next) is e shows = absurd cc
  pairs_over made (Fill gap) n (Pair next) is e shows = inl (inl refl, fill_over made gap n)
  pairs_over made (Replace write) n (Pair next) is e shows = inr
      (pair_of write.old, inl (inl refl), λ said. replace_over made (Replace write) write n said shows)
  pairs_over made (Again write) n (Pair next) is e shows =
      let new = shows.1 in
      inr (pair_of write.old, inr (new.0.pair, inr (inr (ap result_to_choose new.1))), λ said. replace_over made (Again write) write n said shows.0)

  -- in each stage
  pairs_over_in : (made : Made) (stage : Stage) (n : ℕ) → IsValidState Compute stage → NamesPairIn m.remembered.choice stage
      → MakesPair (asks made m.hash stage) → IsPaired (on made stage) n
  pairs_over_in made (Pairing purpose) n is shows e = pairs_over made purpose n (grown made (in_place_of purpose)) refl
      (pair_made made (in_place_of purpose) e) shows
  pairs_over_in made (Writing write) n is shows e = absurd is.0
  pairs_over_in made (Searching (Sizing t)) n is shows e = absurd e
  pairs_over_in made (Searching (Looking at)) n is shows e = absurd e
  pairs_over_in made (Searching (Reading at)) n is shows e = absurd e
  pairs_over_in made (Searching (Comparing at word)) n is shows e = absurd e
  pairs_over_in made stage n is shows e = absurd e

  -- for the whole machine
  pub machine_paired : (n : ℕ) → m.task ≡ Compute → IsValid m → NamesPairs m → MakesPair (ask_of m) → IsPaired m n
  machine_paired n is valid shows e =
      subst (λ t. IsValidState t m.state → IsPaired (record m { task = t }) n) (sym is)
      (λ standing'. pairs_over_in m.made m.state n standing' shows e) valid.state

  -- a pair that is put was made from the closure's result
  puts_said : (made : Made) (put : Put) → IsResultExchange (on made (Putting put)) (pair_of put.write.old) put.pair
  puts_said made put = ⊎_elim (λ h. inl (h.0, inl h.1)) (λ h. inr (inl (h.0, inl h.1))) (by_old (put.write.old == 0))
    where
      by_old : (b : Bool) → ((Some (cond b kinds.Claim kinds.Replace) ≡ Some kinds.Claim)
          × (Some (Makes (cond b None (Some (pair_of put.write.old))) put.pair) ≡ Some (Makes None put.pair)))
          ⊎ ((Some (cond b kinds.Claim kinds.Replace) ≡ Some kinds.Replace)
          × (Some (Makes (cond b None (Some (pair_of put.write.old))) put.pair) ≡ Some (Makes (Some (pair_of put.write.old)) put.pair)))
      by_old true = inl (refl, refl)
      by_old false = inr (refl, refl)

  -- in each stage
  exchanges_said_in : (made : Made) (stage : Stage) (t x old new : ℕ) → m.hash < 2 ^ 64 → IsValidState Compute stage
      → asks made m.hash stage ≡ Exchange (Slot t x) old new → IsResultExchange (on made stage) (pair_of old) (pair_of new)
  exchanges_said_in made (Putting put) t x old new fits is e =
      let same : put.write.old ≡ old = cc e in
      let word : live_word put.pair ≡ new = cc e in
      let number : put.pair ≡ pair_of new = sym (pair_of-live_word put.pair) ∙ ap pair_of word in
      subst (λ o. IsResultExchange (on made (Putting put)) o (pair_of new)) (ap pair_of same)
      (subst (λ n. IsResultExchange (on made (Putting put)) (pair_of put.write.old) n) number (puts_said made put))
  exchanges_said_in made (Burying removal) t x old new fits is e =
      let same : removal.word ≡ old = cc e in
      inr (inr (refl, inl (ap (λ w. Some (Removes (pair_of w))) same)))
  exchanges_said_in made (Writing write) t x old new fits is e = absurd is.0
  exchanges_said_in made (Searching (Sizing table)) t x old new fits is e = absurd cc
  exchanges_said_in made (Searching (Looking at)) t x old new fits is e = absurd cc
  exchanges_said_in made (Searching (Reading at)) t x old new fits is e = absurd cc
  exchanges_said_in made (Searching (Comparing at word)) t x old new fits is e = absurd cc
  exchanges_said_in made (Pairing purpose) t x old new fits is e = absurd (subst IsPairAsk e (pairing_asks made purpose))
  exchanges_said_in made stage t x old new fits is e = absurd cc

  -- for the whole machine
  pub machine_exchanges : (t x old new : ℕ) → m.task ≡ Compute → m.hash < 2 ^ 64 → IsValid m → ask_of m ≡ Exchange (Slot t x) old new
      → IsResultExchange m (pair_of old) (pair_of new)
  machine_exchanges t x old new is fits valid e =
      subst (λ t. IsValidState t m.state → IsResultExchange (record m { task = t }) (pair_of old) (pair_of new)) (sym is)
      (λ standing'. exchanges_said_in m.made m.state t x old new fits standing' e) valid.state
