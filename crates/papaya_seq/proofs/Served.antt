-- An insertion alone makes one pair: once it has made one, it writes that, and needs no other.
use Rattle.std.proofs.Common.{◌≡◌, ℕ, ◌==◌, Bool, Option, None, Some, refl, sym, ◌∙◌, subst}
use Rattle.std.proofs.lemmas.Bool.{cond_both}
use Rattle.papaya_words.specs.Word.{pair_of}
use Rattle.papaya_call.specs.declared.ask.Answer.{Answer}
use Rattle.papaya_call.specs.declared.ask.Answer.TheVariants.{Word as Word_read, Exchanged}
use Rattle.papaya_call.specs.declared.ask.Answer.TheVariants.{Found as Found_instead, Yes, Op, Size}
use Rattle.papaya_call.specs.declared.ask.Answer.TheVariants.{Made as Made_number, Ok as Ok_done}
use Rattle.papaya_call.specs.declared.ask.Answer.TheVariants.{Refused as Was_refused}
use Rattle.papaya_call.specs.declared.call.Reply.TheVariants.{Replaced}
use Rattle.papaya_call.specs.declared.call.Task.TheVariants.{Insert}
use Rattle.papaya_call.specs.declared.machine.Machine.{Machine}
use Rattle.papaya_call.specs.declared.machine.State.{State}
use Rattle.papaya_call.specs.declared.machine.State.TheVariants.{AtRoot, Making, Opening, Searching}
use Rattle.papaya_call.specs.declared.machine.State.TheVariants.{Writing, Offering, Showing}
use Rattle.papaya_call.specs.declared.machine.State.TheVariants.{Pairing, Putting, Burying}
use Rattle.papaya_call.specs.declared.machine.State.TheVariants.{Counting, Noting, Uncounting}
use Rattle.papaya_call.specs.declared.machine.State.TheVariants.{Leaving, Growing, Ended}
use Rattle.papaya_call.specs.declared.made.Grown.{Grown}
use Rattle.papaya_call.specs.declared.made.Grown.TheVariants.{On, Pair}
use Rattle.papaya_call.specs.declared.made.Made.{Made}
use Rattle.papaya_call.specs.declared.write.Write.{Write}
use Rattle.papaya_call.specs.Compute.{in_place_of}
use Rattle.papaya_call.specs.Made.{answered, grown, taken, told}
use Rattle.papaya_call.specs.Machine.{after, made_in, made_to_pair, number_told, write_made, write_taken}
use Rattle.papaya_call.specs.Write.{claimed_by, made_to_write, serves, write_grown}
use Rattle.papaya_call_law.specs.ChainRelies.{left_by}
use Rattle.papaya_call_law.proofs.Makings.{write_then, write_then_is}
use Rattle.papaya_seq.proofs.Causes.{IsPairStage, PairsFirst}
use Rattle.papaya_seq.proofs.Logs.{IsFirst, IsUnmade, answered_like, grown_like, like_unmade, placed_serves, taken_like, told_like}
use Rattle.papaya_seq.proofs.MadeAfter.{HoldsOfMade, made_after}

-- it has made no pair yet, or has the one that it writes, or has written it
abbrev pub IsServed : Made → State → Type 0
IsServed made (Writing write) = serves made write ≡ None → IsUnmade made
IsServed made (Counting claimed) = Unit {0}
IsServed made (Noting claimed) = Unit {0}
IsServed made (Ended reply) = Unit {0}
IsServed made state = IsUnmade made

pub unmade_served : (made : Made) (state : State) → IsUnmade made → IsServed made state
unmade_served made (Writing write) h = λ none. h
unmade_served made (Counting claimed) h = tt
unmade_served made (Noting claimed) h = tt
unmade_served made (Ended reply) h = tt
unmade_served made AtRoot h = h
unmade_served made Making h = h
unmade_served made (Opening t) h = h
unmade_served made (Searching search) h = h
unmade_served made (Offering gap) h = h
unmade_served made (Showing removal) h = h
unmade_served made (Pairing purpose) h = h
unmade_served made (Putting put) h = h
unmade_served made (Burying removal) h = h
unmade_served made (Uncounting n) h = h
unmade_served made (Leaving t) h = h
unmade_served made (Growing need) h = h

-- one that is set aside has made none
pub left_unmade : (made : Made) (state : State) (t : ℕ) → left_by state ≡ Some t → IsServed made state → IsUnmade made
left_unmade made (Leaving i) t left h = h
left_unmade made (Growing need) t left h = h
left_unmade made (Writing write) t left h = absurd cc
left_unmade made (Counting claimed) t left h = absurd cc
left_unmade made (Noting claimed) t left h = absurd cc
left_unmade made (Ended reply) t left h = absurd cc
left_unmade made AtRoot t left h = h
left_unmade made Making t left h = h
left_unmade made (Opening i) t left h = h
left_unmade made (Searching search) t left h = h
left_unmade made (Offering gap) t left h = h
left_unmade made (Showing removal) t left h = h
left_unmade made (Pairing purpose) t left h = h
left_unmade made (Putting put) t left h = h
left_unmade made (Burying removal) t left h = h
left_unmade made (Uncounting n) t left h = h

-- so one that is to make a pair has made none
served_stage : (made : Made) (state : State) → IsServed made state → IsPairStage made state → IsUnmade made
served_stage made (Writing write) served none = served none
served_stage made (Pairing purpose) served pairing = served
served_stage made state served pairing = absurd pairing

pub served_pairs : (m : Machine) (replace : Bool) → m.task ≡ Insert replace → IsServed m.made m.state → PairsFirst m
served_pairs m replace task served pairing = subst (λ t. IsFirst t m.made m.remembered) (sym task) (served_stage m.made m.state served pairing)

module _ (m : Machine) where
  abbrev at_state : State → Machine
  at_state state = record m { state = state }

  abbrev Serves : State → Answer → Type 0
  Serves state answer = IsServed (after (at_state state) answer).made (after (at_state state) answer).state

  -- if no pair is made, none was
  unmade_holds : (state : State) → IsUnmade m.made → HoldsOfMade (at_state state) (λ _ made. IsUnmade made)
  unmade_holds state h = record {
    same = λ _. h;
    told = λ _ count. like_unmade m.made (number_told (told m.made count) m.made) (told_like m.made m.made.number count) h;
    taken = λ _. like_unmade m.made (taken m.made) (taken_like m.made m.made.number) h;
    answered = λ _ kind. like_unmade m.made (answered kind m.made) (answered_like m.made kind) h;
  }

  others : (state : State) → IsUnmade m.made → ((n : ℕ) → IsUnmade (made_in m.made n state)) → (answer : Answer) → Serves state answer
  others state h logged answer = unmade_served (after (at_state state) answer).made (after (at_state state) answer).state
      (made_after (at_state state) (λ _ made. IsUnmade made) (unmade_holds state h) logged answer)

  -- the pairs that it has made after an answer, if it writes
  abbrev written_made : Write → Option ℕ → Answer → Made
  written_made write served (Word_read word) = write_made served m.made word
  written_made write served Exchanged = write_taken served m.made
  written_made write served (Found_instead word) = write_made served m.made word
  written_made write served (Made_number n) = write_grown served m.made write n
  written_made write served _ = m.made

  written_is : (write : Write) (answer : Answer) → (after (at_state (Writing write)) answer).made ≡ written_made write (serves m.made write) answer
  written_is write (Word_read word) = refl
  written_is write Exchanged = refl
  written_is write (Found_instead word) = refl
  written_is write (Yes same) = refl
  written_is write (Op kind) = refl
  written_is write (Size slots limit) = refl
  written_is write (Made_number n) = refl
  written_is write Ok_done = refl
  written_is write (Was_refused refused) = refl

  module _ (write : Write) (h : IsServed m.made (Writing write)) where
    -- a pair that was made for the place serves there
    logged_served : (n : ℕ) (G : Grown) → (IsUnmade m.made → IsUnmade (made_to_pair G)) → IsUnmade m.made → IsServed (made_to_write G write n) (Writing write)
    logged_served n (On made) still unmade = λ none. still unmade
    logged_served n (Pair made) still unmade = λ none. let f : Some n ≡ None = sym (placed_serves made write n) ∙ none in absurd cc

    by_served : (served : Option ℕ) → serves m.made write ≡ served → (answer : Answer)
        → ((n word : ℕ) → serves m.made write ≡ Some n → answer ≡ Found_instead word → ⊥)
        → IsServed (written_made write served answer) (write_then m served m.made write answer)
    by_served None none (Word_read word) unbeaten = unmade_served (write_made None m.made word) (write_then m None m.made write (Word_read word))
        (like_unmade m.made (write_made None m.made word) (told_like m.made m.made.number word) (h none))
    by_served None none (Found_instead word) unbeaten = unmade_served (write_made None m.made word)
        (write_then m None m.made write (Found_instead word)) (like_unmade m.made (write_made None m.made word) (told_like m.made m.made.number word) (h none))
    by_served None none Exchanged unbeaten = unmade_served (taken m.made) (Writing write)
        (like_unmade m.made (taken m.made) (taken_like m.made m.made.number) (h none))
    by_served None none (Made_number n) unbeaten = logged_served n (grown m.made write.old)
        (like_unmade m.made (made_to_pair (grown m.made write.old)) (grown_like m.made m.made.number write.old)) (h none)
    by_served None none (Was_refused refused) unbeaten = tt
    by_served (Some n) some (Word_read word) unbeaten = h
    by_served (Some n) some (Found_instead word) unbeaten = absurd (unbeaten n word some refl)
    by_served (Some n) some Exchanged unbeaten = cond_both (write.old == 0) (Counting (claimed_by write n)) (Ended (Replaced (pair_of write.old) n))
        (IsServed m.made) (λ _. tt) (λ _. tt)
    by_served (Some n) some (Made_number i) unbeaten = h
    by_served (Some n) some (Was_refused refused) unbeaten = h
    by_served served is (Yes same) unbeaten = h
    by_served served is (Op kind) unbeaten = h
    by_served served is (Size slots limit) unbeaten = h
    by_served served is Ok_done unbeaten = h

  writes : (write : Write) (answer : Answer) → ((n word : ℕ) → serves m.made write ≡ Some n → answer ≡ Found_instead word → ⊥)
      → IsServed m.made (Writing write) → Serves (Writing write) answer
  writes write answer unbeaten h =
      subst (λ made. IsServed made (after (at_state (Writing write)) answer).state) (sym (written_is write answer))
      (subst (IsServed (written_made write (serves m.made write) answer)) (sym (write_then_is m m.made write answer))
      (by_served write h (serves m.made write) refl answer unbeaten))

  -- so it stays with each answer
  served_in : (state : State) (answer : Answer)
      → ((write : Write) (n word : ℕ) → state ≡ Writing write → serves m.made write ≡ Some n → answer ≡ Found_instead word → ⊥) → IsServed m.made state
      → Serves state answer
  served_in (Writing write) answer unbeaten h = writes write answer (λ n word. unbeaten write n word refl) h
  served_in (Pairing purpose) answer unbeaten h = others (Pairing purpose) h
      (λ n. like_unmade m.made (made_to_pair (grown m.made (in_place_of purpose))) (grown_like m.made m.made.number (in_place_of purpose)) h) answer
  served_in AtRoot answer unbeaten h = others AtRoot h (λ n. h) answer
  served_in Making answer unbeaten h = others Making h (λ n. h) answer
  served_in (Opening t) answer unbeaten h = others (Opening t) h (λ n. h) answer
  served_in (Searching search) answer unbeaten h = others (Searching search) h (λ n. h) answer
  served_in (Offering gap) answer unbeaten h = others (Offering gap) h (λ n. h) answer
  served_in (Showing removal) answer unbeaten h = others (Showing removal) h (λ n. h) answer
  served_in (Putting put) answer unbeaten h = others (Putting put) h (λ n. h) answer
  served_in (Burying removal) answer unbeaten h = others (Burying removal) h (λ n. h) answer
  served_in (Uncounting i) answer unbeaten h = others (Uncounting i) h (λ n. h) answer
  served_in (Leaving t) answer unbeaten h = others (Leaving t) h (λ n. h) answer
  served_in (Growing need) answer unbeaten h = others (Growing need) h (λ n. h) answer
  served_in (Counting claimed) (Word_read word) unbeaten h = tt
  served_in (Counting claimed) Exchanged unbeaten h = tt
  served_in (Counting claimed) (Found_instead word) unbeaten h = tt
  served_in (Counting claimed) (Yes same) unbeaten h = tt
  served_in (Counting claimed) (Op kind) unbeaten h = tt
  served_in (Counting claimed) (Size slots limit) unbeaten h = tt
  served_in (Counting claimed) (Made_number n) unbeaten h = tt
  served_in (Counting claimed) Ok_done unbeaten h = tt
  served_in (Counting claimed) (Was_refused refused) unbeaten h = tt
  served_in (Noting claimed) (Word_read word) unbeaten h = tt
  served_in (Noting claimed) Exchanged unbeaten h = tt
  served_in (Noting claimed) (Found_instead word) unbeaten h = tt
  served_in (Noting claimed) (Yes same) unbeaten h = tt
  served_in (Noting claimed) (Op kind) unbeaten h = tt
  served_in (Noting claimed) (Size slots limit) unbeaten h = tt
  served_in (Noting claimed) (Made_number n) unbeaten h = tt
  served_in (Noting claimed) Ok_done unbeaten h = tt
  served_in (Noting claimed) (Was_refused refused) unbeaten h = tt
  served_in (Ended reply) (Word_read word) unbeaten h = tt
  served_in (Ended reply) Exchanged unbeaten h = tt
  served_in (Ended reply) (Found_instead word) unbeaten h = tt
  served_in (Ended reply) (Yes same) unbeaten h = tt
  served_in (Ended reply) (Op kind) unbeaten h = tt
  served_in (Ended reply) (Size slots limit) unbeaten h = tt
  served_in (Ended reply) (Made_number n) unbeaten h = tt
  served_in (Ended reply) Ok_done unbeaten h = tt
  served_in (Ended reply) (Was_refused refused) unbeaten h = tt

  pub served_after : (answer : Answer) → ((write : Write) (n word : ℕ) → m.state ≡ Writing write → serves m.made write ≡ Some n
      → answer ≡ Found_instead word → ⊥) → IsServed m.made m.state → IsServed (after m answer).made (after m answer).state
  served_after = served_in m.state
