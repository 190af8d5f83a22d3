-- A call that has loaded the number of the next table copies first, or searches that table for its
-- key.
use Rattle.std.proofs.Common.{◌≡◌, inl, ℕ, ◌<◌, Bool, true, false, Some, List, ◌++◌, refl, sym, subst}
use Rattle.papaya_call.specs.declared.machine.State.{State as Stage}
use Rattle.papaya_call.specs.declared.machine.State.TheVariants.{Leaving, Growing}
use Rattle.papaya_call.specs.declared.need.Need.TheVariants.{Room, Pair as Pair_at}
use Rattle.papaya_call.specs.Machine.{IsChanger}
use Rattle.papaya_call.specs.declared.chain.machine.Machine.{Machine}
use Rattle.papaya_call.specs.ChainMachine.{aim_for, enters, goes_on, onward}
use Rattle.papaya_words_law.specs.Allows.{AllAllowed}
use Rattle.papaya_words_law.specs.Code.{Coding, IsHashed}
use Rattle.papaya_words_law.specs.Copying.{IsSettled}
use Rattle.papaya_words_law.specs.Exchange.{Setting, State, Exchange, run, start}
use Rattle.papaya_call_law.specs.Copier.{ReliesAim}
use Rattle.papaya_call_law.specs.Relies.{ReliesStage}
use Rattle.papaya_call_law.specs.Relies as calls
use Rattle.papaya_call_law.specs.ChainRelies.{Relies, left_by}
use Rattle.papaya_call_law.specs.ChainAnswers.{LoadedPairs}
use Rattle.papaya_call_law.proofs.Aside.{enters_relies, met_moving}

module _ {K P : Type 0} (g : Setting K P) (c : Coding K P) (hashed : IsHashed g c) (begun since : List (Exchange P))
    (may : AllAllowed g start (begun ++ since)) (k : K) where
  -- the state after all exchanges
  abbrev now : State P
  now = run (begun ++ since) start

  module _ (inc : g.blocking ≡ false) (m : Machine) (loaded : LoadedPairs P) (cut : calls.IsCutAs m.call.mode g.chunk_of)
      (r : calls.Relies g c begun since k m.call loaded.call) (changes : IsChanger m.call.task) (t : ℕ) (left : left_by m.call.state ≡ Some t)
      (some : 0 < now.next t) where
    -- the copy for the call is for a table or slot that is there
    aims_rest : (stage : Stage) → ReliesStage g c begun since k loaded.call m.call.task stage → left_by stage ≡ Some t
        → ReliesAim g c now loaded.call.last loaded.kept (aim_for stage (now.next t))
    aims_rest (Growing (Pair_at u x)) stands e =
        let same : u ≡ t = cc e in
        subst (λ y. ReliesAim g c now loaded.call.last loaded.kept (aim_for (Growing (Pair_at u x)) (now.next y))) same
        (met_moving g c hashed begun since may k inc u x (stands.1).0 (stands.1).1 (subst (λ y. 0 < now.next y) (sym same) some))
    aims_rest (Growing (Room u)) stands e = tt
    aims_rest stage stands e = tt

    -- it copies a chunk first
    helps_first : Relies g c begun since k (goes_on m false (aim_for m.call.state (now.next t)) (now.next t)) loaded
    helps_first = record {
      cut = cut;
      call = r;
      phase = inl (record {
        mode = inc;
        changes = changes;
        table = t;
        left = left;
        next = some;
        aim = refl;
        relies = (aims_rest m.call.state r.stage left, tt);
      });
    }

    -- the machine with its call in this state
    abbrev in_stage : Stage → Machine
    in_stage stage = record m { call = record m.call { state = stage } }

    -- it searches the next table for its key
    entered : (stage : Stage) → ReliesStage g c begun since k loaded.call m.call.task stage → left_by stage ≡ Some t
        → ((u x : ℕ) → stage ≡ Growing (Pair_at u x) → IsSettled g now (now.next t) (now.slot u x))
        → Relies g c begun since k (enters (in_stage stage) (now.next t)) loaded
    entered stage stands e settled = record {
      cut = cut;
      call = enters_relies g c hashed begun since may k inc (record m.call { state = stage }) loaded.call
          (record { hash = r.hash; mode = r.mode; made = r.made; stage = stands }) t e some settled;
      phase = tt;
    }

    -- or, if it did so before, the slot in which it met its key's pair, or nothing
    helps_no_more : (stage : Stage) → ReliesStage g c begun since k loaded.call m.call.task stage → left_by stage ≡ Some t
        → Relies g c begun since k (goes_on (in_stage stage) true (aim_for stage (now.next t)) (now.next t)) loaded
    helps_no_more (Growing (Pair_at u x)) stands e = record {
      cut = cut;
      call = record { hash = r.hash; mode = r.mode; made = r.made; stage = stands };
      phase = inl (record {
        mode = inc;
        changes = changes;
        table = t;
        left = e;
        next = some;
        aim = refl;
        relies = (aims_rest (Growing (Pair_at u x)) stands e, tt);
      });
    }
    helps_no_more (Growing (Room u)) stands e = entered (Growing (Room u)) stands e (λ v x is. absurd cc)
    helps_no_more (Leaving u) stands e = entered (Leaving u) stands e (λ v x is. absurd cc)
    helps_no_more stage stands e = absurd cc

    -- either way
    goes_relies : (helped : Bool) → m.helped ≡ helped → Relies g c begun since k (goes_on m helped (aim_for m.call.state (now.next t)) (now.next t)) loaded
    goes_relies false is = helps_first
    goes_relies true is = helps_no_more m.call.state r.stage left

    pub onward_relies : Relies g c begun since k (onward m (now.next t)) loaded
    onward_relies = goes_relies m.helped refl
