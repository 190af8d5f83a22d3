-- How much the calls under way owe to the count after one of them continued, ended or began.
use Rattle.std.proofs.Common.{◌≡◌, ℕ, pos, ◌+ℤ◌, ◌==◌, Bool, true, false, cond, List, [], ◌∷◌, Option, Some, None, refl, sym, ◌∙◌, ap, arith, eq-eqb}
use Rattle.std.proofs.lemmas.Int.{ints}
use Rattle.papaya_call.specs.declared.ask.Ask.TheVariants.{Load, Exchange, SameKey, ShowNone}
use Rattle.papaya_call.specs.declared.ask.Ask.TheVariants.{ShowPair, SizeOf, MakeKey, MakeValue}
use Rattle.papaya_call.specs.declared.ask.Ask.TheVariants.{MakePair, MakePairOf, MakeTable}
use Rattle.papaya_call.specs.declared.ask.Ask.TheVariants.{AddToShard, Done, LoadHint, WriteHint}
use Rattle.papaya_call.specs.declared.chain.ask.Ask.{Ask}
use Rattle.papaya_call.specs.declared.chain.ask.Ask.TheVariants.{Call, Copy}
use Rattle.papaya_call.specs.ChainMachine.{ask_of}
use Rattle.papaya_call_law.specs.Goes.{owed_in as owed_by}
use Rattle.papaya_core_store.specs.declared.pairs.Running.{Running}
use Rattle.papaya_core_timeline.specs.declared.seat.Seat.{Seat}
use Rattle.papaya_core_timeline.specs.Advances.{goes_on, reply_in}
use Rattle.papaya_core_timeline.specs.Callers.{as_work, running, working, with_call, with_seat, with_work}
use Rattle.papaya_core_timeline.specs.Counted.{owed_of, owed_in, owed_work}
use Rattle.papaya_core_timeline.specs.declared.seat.Work.{Work}
use Rattle.papaya_core_timeline.specs.declared.seat.Work.TheVariants.{Call as Call_work}
use Rattle.papaya_core_timeline.proofs.CallersLemmas.{call-under_way}

module _ {K V A : Type 0} where
  -- a machine that has replied owes nothing
  pub owed-goes_on : (ask : Ask) (r : Running K V A) → owed_by (ask_of r.machine) ≡ owed_by ask → owed_of (goes_on (reply_in ask) r) ≡ owed_by ask
  owed-goes_on (Call (Done reply)) r e = refl
  owed-goes_on (Call (Load at)) r e = e
  owed-goes_on (Call (Exchange at old new)) r e = e
  owed-goes_on (Call (SameKey n)) r e = e
  owed-goes_on (Call ShowNone) r e = e
  owed-goes_on (Call (ShowPair n)) r e = e
  owed-goes_on (Call (LoadHint t x)) r e = e
  owed-goes_on (Call (WriteHint t x hint)) r e = e
  owed-goes_on (Call (SizeOf n)) r e = e
  owed-goes_on (Call MakeKey) r e = e
  owed-goes_on (Call MakeValue) r e = e
  owed-goes_on (Call MakePair) r e = e
  owed-goes_on (Call (MakePairOf pair)) r e = e
  owed-goes_on (Call (MakeTable slots limit chunks)) r e = e
  owed-goes_on (Call (AddToShard by)) r e = e
  owed-goes_on (Copy ask) r e = e

  -- a caller has other work: the debt of the new work takes the place of the debt of the old one
  pub owed-with_work : (seats : List (Seat K V A)) (caller : ℕ) (was : Work K V A) → working seats caller ≡ Some was → (work : Option (Work K V A))
      → owed_in (with_work seats caller work) +ℤ owed_work (Some was) ≡ owed_in seats +ℤ owed_work work
  owed-with_work [] caller was works work = let f : None ≡ Some was = works in cc
  owed-with_work (x ∷ xs) caller was works work = by_seat (x.caller == caller) works (λ is. owed-with_work xs caller was is work)
    where
      by_seat : (b : Bool) → cond b x.work (working xs caller) ≡ Some was
          → (working xs caller ≡ Some was → owed_in (with_work xs caller work) +ℤ owed_work (Some was) ≡ owed_in xs +ℤ owed_work work)
          → owed_in (cond b (record x { work = work } ∷ xs) (x ∷ with_work xs caller work)) +ℤ owed_work (Some was) ≡ owed_in (x ∷ xs) +ℤ owed_work work
      by_seat true is others = let old : owed_work x.work ≡ owed_work (Some was) = ap owed_work is in omega (arith, ints)
      by_seat false is others = let rest = others is in omega (arith, ints)

  -- the same for a call on one key
  pub owed-with_call : (seats : List (Seat K V A)) (caller : ℕ) (r : Running K V A) → running seats caller ≡ Some r → (call : Option (Running K V A))
      → owed_in (with_call seats caller call) +ℤ owed_by (ask_of r.machine) ≡ owed_in seats +ℤ owed_of call
  owed-with_call seats caller r runs call = owed-with_work seats caller (Call_work r) (call-under_way (working seats caller) r runs) (as_work call)
      ∙ ap (λ z. owed_in seats +ℤ z) (as_was call)
    where
      as_was : (call : Option (Running K V A)) → owed_work (as_work call) ≡ owed_of call
      as_was None = refl
      as_was (Some r) = refl

  -- a caller that had no work begins some work
  pub owed-begun : (seats : List (Seat K V A)) (caller : ℕ) → working seats caller ≡ None → (work : Option (Work K V A))
      → owed_in (with_work (with_seat seats caller) caller work) ≡ owed_in seats +ℤ owed_work work
  owed-begun [] caller works work = ap (λ b.
      owed_in (cond b (record { caller = caller; work = work } ∷ []) (record { caller = caller; work = None } ∷ []))) (eq-eqb caller caller refl)
      ∙ omega (arith, ints)
  owed-begun (x ∷ xs) caller works work = by_seat (x.caller == caller) refl (λ is. owed-begun xs caller is work)
    where
      by_seat : (b : Bool) → (x.caller == caller) ≡ b
          → (working xs caller ≡ None → owed_in (with_work (with_seat xs caller) caller work) ≡ owed_in xs +ℤ owed_work work)
          → owed_in (with_work (cond b (x ∷ xs) (x ∷ with_seat xs caller)) caller work) ≡ owed_in (x ∷ xs) +ℤ owed_work work
      by_seat true here others =
          let none : owed_work x.work ≡ pos 0 = ap owed_work (sym (ap (λ b. cond b x.work (working xs caller)) here) ∙ works) in
          let to : owed_in (with_work (x ∷ xs) caller work) ≡ owed_work work +ℤ owed_in xs = ap
          (λ b. owed_in (cond b (record x { work = work } ∷ xs) (x ∷ with_work xs caller work))) here in
          omega (arith, ints)
      by_seat false there others =
          let rest = others (sym (ap (λ b. cond b x.work (working xs caller)) there) ∙ works) in
          let to : owed_in (with_work (x ∷ with_seat xs caller) caller work) ≡ owed_work x.work +ℤ owed_in
          (with_work (with_seat xs caller) caller work) = ap
          (λ b. owed_in (cond b (record x { work = work } ∷ with_seat xs caller) (x ∷ with_work (with_seat xs caller) caller work))) there in
          omega (arith, ints)
