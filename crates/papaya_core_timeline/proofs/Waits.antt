-- A call whose closure has returned a newer value than its pairs have: it makes a pair of it next,
-- or is over.
use Rattle.std.proofs.Common.{rules, ◌≡◌, ℕ, Option, None, Some, ◌⊎◌, inl, inr, refl, sym, ◌∙◌, ap, subst}
use Rattle.papaya_call.specs.declared.ask.Ask.{Ask as Call_ask}
use Rattle.papaya_call.specs.declared.ask.Ask.TheVariants.{Load, ShowNone, ShowPair}
use Rattle.papaya_call.specs.declared.ask.Answer.{Answer as Call_answer}
use Rattle.papaya_call.specs.declared.ask.Answer.TheVariants.{Word as Word_read, Exchanged}
use Rattle.papaya_call.specs.declared.ask.Answer.TheVariants.{Found as Found_instead, Yes, Op, Size}
use Rattle.papaya_call.specs.declared.ask.Answer.TheVariants.{Made as Made_number, Ok as Ok_done}
use Rattle.papaya_call.specs.declared.ask.Answer.TheVariants.{Refused as Was_refused}
use Rattle.papaya_call.specs.declared.ask.At.TheVariants.{Next}
use Rattle.papaya_call.specs.declared.ask.OpKind.TheVariants as op_kinds
use Rattle.papaya_call.specs.declared.call.Task.TheVariants as tasks
use Rattle.papaya_call.specs.declared.machine.Machine.{Machine as Call_machine}
use Rattle.papaya_call.specs.declared.machine.State.{State as Stage}
use Rattle.papaya_call.specs.declared.machine.State.TheVariants.{AtRoot, Making, Opening, Searching}
use Rattle.papaya_call.specs.declared.machine.State.TheVariants.{Writing, Offering, Showing}
use Rattle.papaya_call.specs.declared.machine.State.TheVariants.{Pairing, Putting, Burying}
use Rattle.papaya_call.specs.declared.machine.State.TheVariants.{Counting, Noting, Uncounting}
use Rattle.papaya_call.specs.declared.machine.State.TheVariants.{Leaving, Growing, Ended}
use Rattle.papaya_call.specs.declared.call.Reply.{Reply}
use Rattle.papaya_call.specs.declared.compute.Gap.TheVariants.{NoRoot, At, After}
use Rattle.papaya_call.specs.declared.compute.Purpose.{Purpose}
use Rattle.papaya_call.specs.declared.compute.Purpose.TheVariants.{Fill, Replace, Again}
use Rattle.papaya_call.specs.declared.made.Grown.{Grown}
use Rattle.papaya_call.specs.declared.made.Grown.TheVariants.{On, Pair}
use Rattle.papaya_call.specs.Compute.{in_place_of, provides, with_pair}
use Rattle.papaya_call.specs.Made.{grown, pair_ask, told}
use Rattle.papaya_call.specs.Machine.{paired, paired_held}
use Rattle.papaya_call_law.proofs.Makings.{makes_pair, numbered_leads}
use Rattle.papaya_call.specs.Machine as calls
use Rattle.papaya_call.specs.declared.chain.ask.Ask.TheVariants as asks
use Rattle.papaya_call.specs.declared.chain.ask.Answer.{Answer}
use Rattle.papaya_call.specs.declared.chain.ask.Answer.TheVariants as answers
use Rattle.papaya_call.specs.declared.chain.machine.Machine.{Machine}
use Rattle.papaya_call.specs.ChainMachine.{after, ask_of, asks_in}
use Rattle.papaya_call_law.specs.Goes.{Goes, IsOwnStep}
use Rattle.papaya_call_law.specs.ChainRelies.{left_by}
use Rattle.papaya_call_law.proofs.Names.{call_asks}
use Rattle.papaya_call_law.proofs.Replies.{aside_asks}
use Rattle.papaya_call_law.specs.Says.{IsAnswered, Makes, MakesPair, ActsOn, result_in, result_to_choose, result_to_fill}
use Rattle.papaya_core_timeline.proofs.MadePairs.{MakesOver}

-- the stages of a call that waits for a value's pair, or is over
waiting : (Holds : Stage → Type 0) → ((purpose : Purpose) → IsAnswered (Pairing purpose) → Holds (Pairing purpose))
    → ((reply : Reply) → Holds (Ended reply)) → (s : Stage) → IsAnswered s → Holds s
waiting Holds pairing ended (Pairing purpose) waits = pairing purpose waits
waiting Holds pairing ended (Ended reply) waits = ended reply
waiting Holds pairing ended AtRoot waits = absurd waits
waiting Holds pairing ended Making waits = absurd waits
waiting Holds pairing ended (Opening t) waits = absurd waits
waiting Holds pairing ended (Searching search) waits = absurd waits
waiting Holds pairing ended (Writing write) waits = absurd waits
waiting Holds pairing ended (Offering gap) waits = absurd waits
waiting Holds pairing ended (Showing removal) waits = absurd waits
waiting Holds pairing ended (Putting put) waits = absurd waits
waiting Holds pairing ended (Burying removal) waits = absurd waits
waiting Holds pairing ended (Counting claimed) waits = absurd waits
waiting Holds pairing ended (Noting claimed) waits = absurd waits
waiting Holds pairing ended (Uncounting n) waits = absurd waits
waiting Holds pairing ended (Leaving t) waits = absurd waits
waiting Holds pairing ended (Growing need) waits = absurd waits

module _ (m : Call_machine) (i n : ℕ) where
  -- such a call in another stage
  abbrev at_stage : Stage → Call_machine
  at_stage s = record m { state = s }

  -- it still waits, or makes the pair
  abbrev WaitsOn : Call_answer → Stage → Type 0
  WaitsOn a s = ActsOn (calls.after (at_stage s) a) (Makes (Some i) n) → IsAnswered (calls.after (at_stage s) a).state
      ⊎ (MakesPair (calls.ask_of (at_stage s)) × (a ≡ Made_number n))

  ended_waits : (a : Call_answer) (reply : Reply) → WaitsOn a (Ended reply)
  ended_waits (Word_read word) reply stands = inl tt
  ended_waits Exchanged reply stands = inl tt
  ended_waits (Found_instead word) reply stands = inl tt
  ended_waits (Yes same) reply stands = inl tt
  ended_waits (Op kind) reply stands = inl tt
  ended_waits (Size slots limit) reply stands = inl tt
  ended_waits (Made_number l) reply stands = inl tt
  ended_waits Ok_done reply stands = inl tt
  ended_waits (Was_refused refused) reply stands = inl tt

  -- the result for an absent key has no pair as its argument; the pair of any other result is the
  -- newest
  new_pair : (purpose : Purpose) → IsAnswered (Pairing purpose) → (l : ℕ) → (result_in m.task (provides purpose l) ≡ Some (Makes (Some i) n))
      ⊎ (result_to_fill (with_pair m.remembered purpose l).fill ≡ Some (Makes (Some i) n))
      ⊎ (result_to_choose (with_pair m.remembered purpose l).choice ≡ Some (Makes (Some i) n)) → l ≡ n
  new_pair (Fill NoRoot) waits l (inl e) = absurd cc
  new_pair (Fill (At place)) waits l (inl e) = absurd cc
  new_pair (Fill (After t)) waits l (inl e) = absurd cc
  new_pair (Fill gap) waits l (inr (inl e)) = absurd cc
  new_pair (Fill gap) waits l (inr (inr e)) = absurd cc
  new_pair (Replace write) waits l (inl e) = cc
  new_pair (Replace write) waits l (inr (inl e)) = absurd (filled m.remembered.fill e)
    where
      filled : (fill : Option ℕ) → result_to_fill fill ≡ Some (Makes (Some i) n) → ⊥
      filled None e = cc
      filled (Some j) e = cc
  new_pair (Replace write) waits l (inr (inr e)) = cc
  new_pair (Again write) waits l e = absurd waits

  made_waits : (purpose : Purpose) → IsAnswered (Pairing purpose) → (l : ℕ) (G : Grown) → grown m.made (in_place_of purpose) ≡ G
      → (result_in m.task (paired G purpose l) ≡ Some (Makes (Some i) n))
      ⊎ (result_to_fill (paired_held G m.remembered purpose l).fill ≡ Some (Makes (Some i) n))
      ⊎ (result_to_choose (paired_held G m.remembered purpose l).choice ≡ Some (Makes (Some i) n))
      → IsAnswered (paired G purpose l) ⊎ (MakesPair (pair_ask m.made (in_place_of purpose)) × (Made_number l ≡ Made_number n))
  made_waits purpose waits l (On made) is stands = inl waits
  made_waits purpose waits l (Pair made) is stands = inr (makes_pair m.made (in_place_of purpose) made is, ap Made_number (new_pair purpose waits l stands))

  pairing_waits : (a : Call_answer) (purpose : Purpose) → IsAnswered (Pairing purpose) → WaitsOn a (Pairing purpose)
  pairing_waits (Word_read word) purpose waits stands = inl (numbered_leads IsAnswered tt (Pairing purpose) waits (told m.made word))
  pairing_waits Exchanged purpose waits stands = inl waits
  pairing_waits (Found_instead word) purpose waits stands = inl (numbered_leads IsAnswered tt (Pairing purpose) waits (told m.made word))
  pairing_waits (Yes same) purpose waits stands = inl waits
  pairing_waits (Op kind) purpose waits stands = inl waits
  pairing_waits (Size slots limit) purpose waits stands = inl waits
  pairing_waits (Made_number l) purpose waits stands = made_waits purpose waits l (grown m.made (in_place_of purpose)) refl stands
  pairing_waits Ok_done purpose waits stands = inl waits
  pairing_waits (Was_refused refused) purpose waits stands = inl tt

waits_after : (m : Call_machine) (a : Call_answer) (i n : ℕ) → IsAnswered m.state → ActsOn (calls.after m a) (Makes (Some i) n)
    → IsAnswered (calls.after m a).state ⊎ (MakesPair (calls.ask_of m) × (a ≡ Made_number n))
waits_after m a i n waits stands = waiting (WaitsOn m i n a) (pairing_waits m i n a) (ended_waits m i n a) m.state waits stands

-- it is not set aside
waits_aside : (state : Stage) (t : ℕ) → IsAnswered state → left_by state ≡ Some t → ⊥
waits_aside state t waits left = search rules

-- so is one whose closure returns in this step
answered_none : (m : Call_machine) → calls.ask_of m ≡ ShowNone → IsAnswered (calls.after m (Op op_kinds.Insert)).state
answered_none m e = search rules

answered_pair : (m : Call_machine) (n : ℕ) → m.task ≡ tasks.Compute → calls.ask_of m ≡ ShowPair n → IsAnswered (calls.after m (Op op_kinds.Insert)).state
answered_pair m n computes e = search rules

-- the same over a chain of tables
pub chain_waits : (m : Machine) (answer : Answer) → Goes m answer → IsAnswered m.call.state → (i n : ℕ)
    → ActsOn (after m answer).call (Makes (Some i) n) → IsAnswered (after m answer).call.state
    ⊎ (MakesOver (ask_of m) × (answer ≡ answers.Call (Made_number n)))
chain_waits m answer (inl waits) answered i n stands = inl (subst (λ (d : Call_machine). IsAnswered d.state) (sym waits.call) answered)
chain_waits m answer (inr (inl own)) answered i n stands =
    elim (waits_after m.call own.told i n answered (subst (λ (d : Call_machine). ActsOn d (Makes (Some i) n)) own.call stands)) [
      | inl still ↦ inl (subst (λ (d : Call_machine). IsAnswered d.state) (sym own.call) still)
      | inr (makes, told) ↦ inr (subst MakesOver (sym (ap (λ p. asks_in m.call p) own.phase)) makes, own.is ∙ ap answers.Call told)
    ]
chain_waits m answer (inr (inr (inl enters))) answered i n stands = absurd (waits_aside m.call.state enters.from answered enters.left)
chain_waits m answer (inr (inr (inr (inl begins)))) answered i n stands = absurd (waits_aside m.call.state begins.from answered begins.left)
chain_waits m answer (inr (inr (inr (inr ends)))) answered i n stands = absurd (waits_aside m.call.state ends.from answered ends.left)

-- a call that is set aside calls no closure
unshown : (m : Machine) (t : ℕ) → left_by m.call.state ≡ Some t → (ask : Call_ask) → ask_of m ≡ asks.Call ask → ask ≡ Load (Next t)
unshown m t left ask e = sym (call_asks m ask e).1 ∙ aside_asks m.call.made m.call.hash m.call.state t left

pub chain_answered : (m : Machine) (answer : Answer) → Goes m answer → answer ≡ answers.Call (Op op_kinds.Insert) → (ask_of m ≡ asks.Call ShowNone)
    ⊎ ((n : ℕ) × (ask_of m ≡ asks.Call (ShowPair n)) × (m.call.task ≡ tasks.Compute)) → IsAnswered (after m answer).call.state
chain_answered m answer goes is shown = by_goes goes
  where
    set_aside : (t : ℕ) → left_by m.call.state ≡ Some t → ⊥
    set_aside t left = elim shown [ inl none ↦ cc (unshown m t left ShowNone none) | inr (n, pair, computes) ↦ cc (unshown m t left (ShowPair n) pair) ]

    by_own : IsOwnStep m answer → IsAnswered (after m answer).call.state
    by_own own =
        let told : own.told ≡ Op op_kinds.Insert = (let f : answers.Call own.told ≡ answers.Call (Op op_kinds.Insert) = sym own.is ∙ is in cc) in
        subst (λ (d : Call_machine). IsAnswered d.state) (sym own.call) (subst (λ y. IsAnswered (calls.after m.call y).state) (sym told)
        (elim shown [
          | inl none ↦ answered_none m.call (call_asks m ShowNone none).1
          | inr (n, pair, computes) ↦ answered_pair m.call n computes
              (call_asks m (ShowPair n) pair).1
        ]))

    by_goes : Goes m answer → IsAnswered (after m answer).call.state
    by_goes (inl waits) = absurd (set_aside waits.from waits.left)
    by_goes (inr (inl own)) = by_own own
    by_goes (inr (inr (inl enters))) = absurd (set_aside enters.from enters.left)
    by_goes (inr (inr (inr (inl begins)))) = absurd (set_aside begins.from begins.left)
    by_goes (inr (inr (inr (inr ends)))) = absurd (set_aside ends.from ends.left)
