-- A call that was made alone and is abandoned before it has changed anything: the map is as it was,
-- and the core's invariant holds without the call.
use Rattle.std.proofs.Common.{◌≡◌, ℕ, pos, ◌+ℤ◌, Bool, true, None, Some, List, [], ◌∷◌, inl, inr, sym, ◌∙◌, ap, subst}
use Rattle.std.specs.Cmp.{IsEquivalence}
use Rattle.std.specs.Int.{w64, int_wrap}
use Rattle.papaya_call.specs.Answers.{Says}
use Rattle.papaya_call.specs.declared.call.Call.{Call}
use Rattle.papaya_call.specs.ChainMachine.{ask_of}
use Rattle.papaya_call_law.specs.Goes.{owed_in}
use Rattle.papaya_words_keys.specs.Hashes.{hash_of}
use Rattle.papaya_call_law.specs.Relies.{change_in}
use Rattle.papaya_core_store.specs.declared.pairs.Running.{Running}
use Rattle.papaya_core_store.specs.Store.{KeepsPairs}
use Rattle.papaya_core_timeline.specs.declared.seat.Seat.{Seat}
use Rattle.papaya_core_timeline.specs.declared.trace.Turn.TheVariants.{Begin, Finish}
use Rattle.papaya_core_timeline.specs.Callers.{running, working}
use Rattle.papaya_core_timeline.specs.declared.seat.Work.TheVariants as works
use Rattle.papaya_core_timeline.specs.Content.{map_of}
use Rattle.papaya_core_timeline.specs.Core.{CoreState}
use Rattle.papaya_core_timeline.specs.Counted.{IsCounted, owed_in as owed_by_seats}
use Rattle.papaya_core_timeline.specs.Kept.{IsLawfulCore}
use Rattle.papaya_core_timeline.specs.Maps.{Same}
use Rattle.papaya_core_timeline.specs.Runs.{History, TurnsRun}
use Rattle.papaya_core_timeline.proofs.CallersLemmas.{call-under_way, same_item}
use Rattle.papaya_core_timeline.proofs.KeptCore.{keys_lawful}
use Rattle.papaya_core_timeline.proofs.KeptLemmas.{IsLawfulKeys}
use Rattle.papaya_core_timeline.proofs.SoloRun.{Goes, IsSole, IsUnmoved, one_seat, runs_to, without_seat}

-- The state that a call leaves if it has changed nothing and is taken out of its seat. The count is
-- right if the call has nothing left to add to it.
pub record IsLeft {K V S A : Type 0} (eq : K → K → Bool) (hash : S → K → ℕ) (s s' : CoreState K V S A) (r : Running K V A) : Type 0 where
  pub map : Same (map_of eq s) (map_of eq s')
  pub core : IsLawfulCore {A = A} eq (hash s'.store.hasher) s'.store [] s'.mode
  pub counted : owed_in (ask_of r.machine) ≡ pos 0 → IsCounted eq s.store s.callers → IsCounted {A = A} eq s'.store []
  pub hasher_is : s'.store.hasher ≡ s.store.hasher
  pub mode_is : s'.mode ≡ s.mode
  pub initial_is : s'.initial ≡ s.initial
  pub keeps : KeepsPairs s.store s'.store

module _ {K V S A : Type 0} (eq : K → K → Bool) (hash : S → K → ℕ) (s : CoreState K V S A) (law : IsLawfulKeys eq (hash s.store.hasher))
    (says : Says K V A) (s' : CoreState K V S A) (h : History) (r : Running K V A) (under_way : running s'.callers 0 ≡ Some r) where
  -- the call under way is the one that was made
  sole_left : (change_in r.machine.call.state ≡ None) → IsSole eq hash s law says s' h → IsLeft eq hash s s' r
  sole_left none sole =
      let is : sole.work ≡ works.Call r = same_item sole.work (works.Call r)
      (sym (ap (λ (l : List (Seat K V A)). working l 0) sole.callers) ∙ call-under_way (working s'.callers 0) r under_way) in
      record {
        map = subst (IsUnmoved eq hash s law says s') is sole.unmoved none;
        core = without_seat eq hash s law s' {says = says} sole.follows;
        counted = λ owes counted.
            ap (λ z. int_wrap w64 (s'.store.count.sum +ℤ (z +ℤ pos 0))) (sym owes)
            ∙ sym (ap (λ (l : List (Seat K V A)). int_wrap w64 (s'.store.count.sum +ℤ owed_by_seats l))
            (sole.callers ∙ ap (λ w. one_seat (Some w)) is)) ∙ sole.follows.counted counted;
        hasher_is = sole.follows.hasher_is;
        mode_is = sole.follows.mode_is;
        initial_is = sole.follows.initial_is;
        keeps = sole.follows.keeps;
      }

  goes_left : (change_in r.machine.call.state ≡ None) → Goes eq hash s law says s' h → IsLeft eq hash s s' r
  goes_left none (inl sole) = sole_left none sole
  goes_left none (inr (reply, over)) = let f : None ≡ Some r = sym (ap (λ (l : List (Seat K V A)). running l 0) over.callers) ∙ under_way in absurd cc

  -- the call leaves this state if it has changed nothing
  pub call_left : (call : Call K V A) (steps : ℕ) → IsLawfulCore eq (hash s.store.hasher) s.store s.callers s.mode → s.callers ≡ []
      → TurnsRun eq says hash (Begin 0 call ∷ Finish 0 steps ∷ []) 2 s s' h → change_in r.machine.call.state ≡ None → IsLeft eq hash s s' r
  call_left call steps lawful idle runs none = goes_left none (runs_to eq hash s law says call steps s' h lawful idle runs)

-- The same for a core that hashes keys with its hasher.
pub lawful_left : {K V S A H : Type 0} (eq : K → K → Bool) (input : K → List (List ℕ)) (build : S → H) (write : H → List ℕ → H) (finish : H → ℕ)
    → IsEquivalence eq → ((x y : K) → eq x y ≡ true → input x ≡ input y)
    → (says : Says K V A) (s s' : CoreState K V S A) (h : History) (r : Running K V A) (call : Call K V A) (steps : ℕ)
    → IsLawfulCore eq (hash_of input build write finish s.store.hasher) s.store s.callers s.mode → s.callers ≡ []
    → TurnsRun eq says (hash_of input build write finish) (Begin 0 call ∷ Finish 0 steps ∷ []) 2 s s' h → running s'.callers 0 ≡ Some r
    → change_in r.machine.call.state ≡ None → IsLeft eq (hash_of input build write finish) s s' r
lawful_left eq input build write finish classes respects says s s' h r call steps lawful idle runs under_way none =
    call_left eq (hash_of input build write finish) s (keys_lawful eq input build write finish classes respects s.store.hasher) says s' h r under_way
    call steps lawful idle runs none
