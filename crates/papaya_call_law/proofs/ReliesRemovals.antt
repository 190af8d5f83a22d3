-- While no table has a next one, a removal never fails: it makes nothing, and it needs no next
-- table.
use Rattle.std.proofs.Common.{◌≡◌, ⊎_elim, ℕ, ◌<◌, List, ◌++◌, subst, arith}
use Rattle.papaya_words.specs.declared.refused.Refused.{Refused}
use Rattle.papaya_words.specs.declared.refused.Refused.TheVariants.{Capacity, Limit, RemoveNothing}
use Rattle.papaya_call.specs.declared.ask.Answer.{Answer}
use Rattle.papaya_call.specs.declared.ask.Answer.TheVariants.{Op}
use Rattle.papaya_call.specs.declared.ask.Ask.TheVariants.{Done as Ask_done}
use Rattle.papaya_call.specs.declared.ask.OpKind.TheVariants as ops
use Rattle.papaya_call.specs.declared.call.Reply.{Reply}
use Rattle.papaya_call.specs.declared.call.Reply.TheVariants.{Refused as Reply_refused}
use Rattle.papaya_call.specs.declared.call.Task.TheVariants.{RemoveIf}
use Rattle.papaya_call.specs.declared.compute.Gap.{Gap}
use Rattle.papaya_call.specs.declared.machine.Machine.{Machine}
use Rattle.papaya_call.specs.declared.machine.State.{State as Stage}
use Rattle.papaya_call.specs.declared.machine.State.TheVariants.{AtRoot, Making, Opening, Searching}
use Rattle.papaya_call.specs.declared.machine.State.TheVariants.{Writing, Offering, Showing}
use Rattle.papaya_call.specs.declared.machine.State.TheVariants.{Pairing, Putting, Burying}
use Rattle.papaya_call.specs.declared.machine.State.TheVariants.{Counting, Noting, Uncounting}
use Rattle.papaya_call.specs.declared.machine.State.TheVariants.{Leaving, Growing, Ended}
use Rattle.papaya_words_law.specs.Exchange.{Setting, State, Exchange, run, start}
use Rattle.papaya_words_law.specs.Allows.{AllAllowed}
use Rattle.papaya_words_law.specs.Code.{Coding}
use Rattle.papaya_words_law.specs.Invariant.{IsKeeping}
use Rattle.papaya_words_law.specs.Meaning.{IsLawful, map_left}
use Rattle.papaya_call.specs.Machine.{after, ask_of}
use Rattle.papaya_call_law.specs.Relies.{IsMovingFrom, Relies, ReliesStage}
use Rattle.papaya_call_law.specs.TrueAnswers.{LoadedPairs}
use Rattle.papaya_words_law.proofs.OneMap.{keeping}
use Rattle.papaya_words_law.proofs.Onward.{leaving_further, gone_further}
use Rattle.papaya_call_law.proofs.ReliesReplyRefused.{IsMaking, IsOver, machine_reason}
use Rattle.papaya_call.specs.declared.need.Need.{Need}
use Rattle.papaya_call.specs.declared.need.Need.TheVariants.{Room, Pair as Pair_at}

module _ {K P : Type 0} (g : Setting K P) (c : Coding K P) (law : IsLawful g) (begun since : List (Exchange P))
    (may : AllAllowed g start (begun ++ since)) (k : K) where
  -- the state after all exchanges
  abbrev now : State P
  now = run (begun ++ since) start

  -- a pair that is being copied, or was, is copied to a next table
  pub moving_further : (t x : ℕ) → IsMovingFrom g c begun since k t x → 0 < now.next t
  moving_further t x (j, p, lt, here, e) =
      let keeps : IsKeeping g now (map_left g (begun ++ since)) = keeping g law (begun ++ since) may in
      ⊎_elim
      (λ leaving. leaving_further g now (map_left g (begun ++ since)) keeps k t j p leaving)
      (λ gone. gone_further g now (map_left g (begun ++ since)) keeps k t j p gone)
      e

  module _ (loaded : LoadedPairs P) where
    -- a removal makes nothing
    nothing_made : (stage : Stage) → ReliesStage g c begun since k loaded RemoveIf stage → IsMaking stage → ⊥
    nothing_made AtRoot r making = making
    nothing_made Making r making = r
    nothing_made (Opening t) r making = making
    nothing_made (Searching place) r making = making
    nothing_made (Writing write) r making = r
    nothing_made (Offering gap) r making = making
    nothing_made (Showing removal) r making = making
    nothing_made (Pairing purpose) r making = r.0
    nothing_made (Putting put) r making = making
    nothing_made (Burying removal) r making = making
    nothing_made (Counting n) r making = making
    nothing_made (Noting n) r making = making
    nothing_made (Uncounting n) r making = making
    nothing_made (Leaving t) r making = making
    nothing_made (Growing t) r making = making
    nothing_made (Ended reply) r making = making

    -- and calls no closure with None
    nothing_offered : (gap : Gap) → ReliesStage g c begun since k loaded RemoveIf (Offering gap) → ⊥
    nothing_offered gap r = r.0

    module _ (alone : (t : ℕ) → now.next t ≡ 0) where
      -- and needs a next table only if there is one
      nothing_needed : (need : Need) → ReliesStage g c begun since k loaded RemoveIf (Growing need) → ⊥
      nothing_needed (Room t) r = r.0
      nothing_needed (Pair_at t x) r = let some = moving_further t x (r.1).1 in let none = alone t in omega (arith, some, none)

      -- so there is no reason for a failure
      pub removal_unrefused : (m : Machine) → Relies g c begun since k m loaded → m.task ≡ RemoveIf
          → ((reply : Reply) → ask_of m ≡ Ask_done reply → ⊥) → (answer : Answer) (refused : Refused)
          → ask_of (after m answer) ≡ Ask_done (Reply_refused refused) → ⊥
      removal_unrefused m r task open_still answer refused e =
          let stage : ReliesStage g c begun since k loaded RemoveIf m.state = subst (λ a. ReliesStage g c begun since k loaded a m.state) task r.stage in
          ⊎_elim
          (λ made. nothing_made m.state stage made.1)
          (λ rest.
          ⊎_elim
          (λ (grows : (refused ≡ Capacity) × ((need : Need) × (m.state ≡ Growing need))). let last = grows.1 in
          nothing_needed last.0 (subst (ReliesStage g c begun since k loaded RemoveIf) last.1 stage))
          (λ more.
          ⊎_elim
          (λ (limit : (refused ≡ Limit) × IsOver m refused m.made m.state answer × IsMaking m.state). nothing_made m.state stage limit.2)
          (λ (offers : (refused ≡ RemoveNothing) × ((gap : Gap) × (m.state ≡ Offering gap)) × (answer ≡ Op ops.Remove)). let last = offers.1 in
          nothing_offered last.0 (subst (ReliesStage g c begun since k loaded RemoveIf) last.1 stage))
          more)
          rest)
          (machine_reason m refused answer open_still e)
