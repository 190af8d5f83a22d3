-- A compute whose closure has returned a value makes a pair of it next, whatever its machine
-- receives meanwhile, or is over.
use Rattle.std.proofs.Common.{◌≡◌, ℕ, Some, refl, sym, subst}
use Rattle.papaya_words.specs.declared.refused.Refused.{Refused}
use Rattle.papaya_call.specs.declared.ask.Ask.{Ask}
use Rattle.papaya_call.specs.declared.ask.Ask.TheVariants.{Load, Exchange, LoadHint, WriteHint}
use Rattle.papaya_call.specs.declared.ask.Ask.TheVariants.{SameKey, ShowNone, ShowPair, SizeOf}
use Rattle.papaya_call.specs.declared.ask.Ask.TheVariants.{MakeKey, MakeValue, MakePair, MakePairOf}
use Rattle.papaya_call.specs.declared.ask.Ask.TheVariants.{MakeTable, AddToShard, Done}
use Rattle.papaya_call.specs.declared.ask.At.TheVariants.{Next}
use Rattle.papaya_call.specs.declared.ask.Answer.{Answer}
use Rattle.papaya_call.specs.declared.ask.Answer.TheVariants.{Word as Word_read, Exchanged}
use Rattle.papaya_call.specs.declared.ask.Answer.TheVariants.{Found as Found_instead, Op}
use Rattle.papaya_call.specs.declared.ask.Answer.TheVariants.{Made as Made_number, Ok as Ok_done}
use Rattle.papaya_call.specs.declared.ask.Answer.TheVariants.{Refused as Was_refused}
use Rattle.papaya_call.specs.declared.ask.OpKind.{OpKind}
use Rattle.papaya_call.specs.declared.ask.OpKind.TheVariants as ops
use Rattle.papaya_call.specs.declared.call.Task.{Task}
use Rattle.papaya_call.specs.declared.call.Task.TheVariants.{Compute}
use Rattle.papaya_call.specs.declared.search.Search.TheVariants.{Sizing, Looking, Reading, Comparing}
use Rattle.papaya_call.specs.declared.compute.Purpose.{Purpose}
use Rattle.papaya_call.specs.declared.machine.Machine.{Machine}
use Rattle.papaya_call.specs.declared.machine.State.{State}
use Rattle.papaya_call.specs.declared.machine.State.TheVariants.{Searching, Writing, Offering, Showing, Pairing, Leaving, Growing, Ended}
use Rattle.papaya_call.specs.declared.made.Grown.{Grown}
use Rattle.papaya_call.specs.declared.made.Grown.TheVariants.{On, Pair}
use Rattle.papaya_call.specs.Compute.{in_place_of}
use Rattle.papaya_call.specs.Machine.{after, ask_of, asks, paired}
use Rattle.papaya_call.specs.Made.{grown, pair_ask, told}
use Rattle.papaya_call_law.specs.ChainRelies.{left_by}
use Rattle.papaya_call_law.specs.Says.{IsAnswered, MakesPair}
use Rattle.papaya_call_law.proofs.Makings.{IsPairAsk, IsWriteAsk, makes_pair, numbered_leads, pairing_asks, write_asks}
use Rattle.papaya_call_law.proofs.Silent.{IsSilent}

-- a pair is made by no silent ask
pub silent_no_pair : (ask : Ask) → IsSilent ask → MakesPair ask → ⊥
silent_no_pair MakePair silent makes = silent
silent_no_pair (MakePairOf n) silent makes = silent
silent_no_pair (Load at) silent makes = makes
silent_no_pair (Exchange at old new) silent makes = makes
silent_no_pair (LoadHint t x) silent makes = makes
silent_no_pair (WriteHint t x hint) silent makes = makes
silent_no_pair (SameKey n) silent makes = makes
silent_no_pair ShowNone silent makes = makes
silent_no_pair (ShowPair n) silent makes = makes
silent_no_pair (SizeOf t) silent makes = makes
silent_no_pair MakeKey silent makes = makes
silent_no_pair MakeValue silent makes = makes
silent_no_pair (MakeTable slots limit chunks) silent makes = makes
silent_no_pair (AddToShard by) silent makes = makes
silent_no_pair (Done reply) silent makes = makes

module _ (m : Machine) where
  -- the same machine in another state
  abbrev at_stage : State → Machine
  at_stage stage = record m { state = stage }

  -- the machine received another answer than that the pair was made
  paired_answered : (purpose : Purpose) (n : ℕ) → IsAnswered (Pairing purpose) → IsSilent (pair_ask m.made (in_place_of purpose)) → (G : Grown)
      → grown m.made (in_place_of purpose) ≡ G → IsAnswered (paired G purpose n)
  paired_answered purpose n waits silent (On made) is = waits
  paired_answered purpose n waits silent (Pair made) is = absurd
      (silent_no_pair (pair_ask m.made (in_place_of purpose)) silent (makes_pair m.made (in_place_of purpose) made is))

  answered_in : (stage : State) (answer : Answer) → IsAnswered stage → IsSilent (asks m.made m.hash stage) → IsAnswered (after (at_stage stage) answer).state
  answered_in (Pairing purpose) (Word_read word) waits silent = numbered_leads IsAnswered tt (Pairing purpose) waits (told m.made word)
  answered_in (Pairing purpose) (Found_instead word) waits silent = numbered_leads IsAnswered tt (Pairing purpose) waits (told m.made word)
  answered_in (Pairing purpose) (Made_number n) waits silent = paired_answered purpose n waits silent (grown m.made (in_place_of purpose)) refl
  answered_in (Pairing purpose) (Was_refused refused) waits silent = tt
  answered_in (Pairing purpose) answer waits silent = waits
  answered_in (Ended reply) Exchanged waits silent = tt
  answered_in (Ended reply) answer waits silent = tt
  answered_in stage answer waits silent = absurd waits

  pub answered_on : (answer : Answer) → IsSilent (ask_of m) → IsAnswered m.state → IsAnswered (after m answer).state
  answered_on answer silent waits = answered_in m.state answer waits silent

  -- if no pair was made
  refused_in : (stage : State) (refused : Refused) → IsAnswered stage → IsAnswered (after (at_stage stage) (Was_refused refused)).state
  refused_in (Pairing purpose) refused waits = tt
  refused_in (Ended reply) refused waits = tt
  refused_in stage refused waits = absurd waits

  pub answered_refused : (refused : Refused) → IsAnswered m.state → IsAnswered (after m (Was_refused refused)).state
  answered_refused refused waits = refused_in m.state refused waits

  ok_in : (stage : State) → IsAnswered stage → IsAnswered (after (at_stage stage) Ok_done).state
  ok_in (Pairing purpose) waits = waits
  ok_in (Ended reply) waits = tt
  ok_in stage waits = absurd waits

  pub answered_ok : IsAnswered m.state → IsAnswered (after m Ok_done).state
  answered_ok waits = ok_in m.state waits

  -- it asks for no next table
  next_in : (stage : State) (t : ℕ) → IsAnswered stage → asks m.made m.hash stage ≡ Load (Next t) → ⊥
  next_in (Pairing purpose) t waits e = subst IsPairAsk e (pairing_asks m.made purpose)
  next_in (Ended reply) t waits e = cc e
  next_in stage t waits e = absurd waits

  pub answered_stays : (t : ℕ) → IsAnswered m.state → ask_of m ≡ Load (Next t) → ⊥
  answered_stays t waits e = next_in m.state t waits e

  -- The closure has just returned. If it was called with None, the machine is in such a state in
  -- any case.
  none_in : (stage : State) (kind : OpKind) → asks m.made m.hash stage ≡ ShowNone → IsAnswered (after (at_stage stage) (Op kind)).state
  none_in (Offering gap) ops.Insert e = tt
  none_in (Offering gap) ops.Remove e = tt
  none_in (Offering gap) (ops.Abort with) e = tt
  none_in (Searching (Sizing t)) kind e = absurd cc
  none_in (Searching (Looking at)) kind e = absurd cc
  none_in (Searching (Reading at)) kind e = absurd cc
  none_in (Searching (Comparing at word)) kind e = absurd cc
  none_in (Writing write) kind e = absurd (subst IsWriteAsk e (write_asks m.made write))
  none_in (Pairing purpose) kind e = absurd (subst IsPairAsk e (pairing_asks m.made purpose))
  none_in stage kind e = absurd cc

  pub answered_none : (kind : OpKind) → ask_of m ≡ ShowNone → IsAnswered (after m (Op kind)).state
  answered_none kind e = none_in m.state kind e

  pair_in : (stage : State) (n : ℕ) (kind : OpKind) → (kind ≡ ops.Remove → ⊥) → asks m.made m.hash stage ≡ ShowPair n
      → IsAnswered (after (record m { task = Compute; state = stage }) (Op kind)).state
  pair_in (Showing removal) n ops.Insert stays e = tt
  pair_in (Showing removal) n ops.Remove stays e = absurd (stays refl)
  pair_in (Showing removal) n (ops.Abort with) stays e = tt
  pair_in (Searching (Sizing t)) n kind stays e = absurd cc
  pair_in (Searching (Looking at)) n kind stays e = absurd cc
  pair_in (Searching (Reading at)) n kind stays e = absurd cc
  pair_in (Searching (Comparing at word)) n kind stays e = absurd cc
  pair_in (Writing write) n kind stays e = absurd (subst IsWriteAsk e (write_asks m.made write))
  pair_in (Pairing purpose) n kind stays e = absurd (subst IsPairAsk e (pairing_asks m.made purpose))
  pair_in stage n kind stays e = absurd cc

  pub answered_pair : (n : ℕ) (kind : OpKind) → m.task ≡ Compute → (kind ≡ ops.Remove → ⊥) → ask_of m ≡ ShowPair n → IsAnswered (after m (Op kind)).state
  answered_pair n kind is stays e = subst (λ (t : Task). IsAnswered (after (record m { task = t }) (Op kind)).state) (sym is) (pair_in m.state n kind stays e)

-- a call that is set aside has no newer result of its closure
pub answered_aside : (stage : State) (t : ℕ) → left_by stage ≡ Some t → IsAnswered stage → ⊥
answered_aside (Leaving u) t e waits = waits
answered_aside (Growing need) t e waits = waits
answered_aside stage t e waits = absurd cc
