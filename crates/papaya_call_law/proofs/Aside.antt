-- The state of a call that is set aside.
use Rattle.std.proofs.Common.{◌≡◌, inl, inr, ⊎_elim, ℕ, ◌<◌, false, Some, List, ◌++◌, refl, sym, ap, ◌∙◌, subst, arith}
use Rattle.papaya_call.specs.declared.call.Task.{Task}
use Rattle.papaya_call.specs.declared.call.Task.TheVariants.{Get, Insert, RemoveIf, Compute}
use Rattle.papaya_call.specs.declared.search.Search.TheVariants.{Sizing}
use Rattle.papaya_call.specs.declared.machine.Machine.{Machine as Call_machine}
use Rattle.papaya_call.specs.declared.machine.State.{State as Stage}
use Rattle.papaya_call.specs.declared.machine.State.TheVariants.{Searching, Leaving, Growing}
use Rattle.papaya_call.specs.declared.need.Need.TheVariants.{Room, Pair as Pair_at}
use Rattle.papaya_words_law.specs.Allows.{AllAllowed}
use Rattle.papaya_words_law.specs.Code.{Coding, IsHashed}
use Rattle.papaya_words_law.specs.Copying.{IsSettled}
use Rattle.papaya_words_law.specs.Exchange.{Setting, State, Exchange, run, start}
use Rattle.papaya_words_law.specs.View.{look, IsPassed}
use Rattle.papaya_call_law.specs.Copier.{IsMoving}
use Rattle.papaya_call_law.specs.Relies.{HasComeTo, IsMovingFrom, ReliesLeaving, ReliesStage, Relies}
use Rattle.papaya_call_law.specs.TrueAnswers.{LoadedPairs}
use Rattle.papaya_call_law.specs.ChainRelies.{left_by}
use Rattle.papaya_words_law.proofs.CopierFacts.{moved}
use Rattle.papaya_words_law.proofs.Slots.{view_gone, view_leaving}
use Rattle.papaya_call_law.proofs.ReliesLearnMoments.{next_come}
use Rattle.papaya_call_law.proofs.ReliesNames.{come_on}

module _ {K P : Type 0} (g : Setting K P) (c : Coding K P) (hashed : IsHashed g c) (begun since : List (Exchange P))
    (may : AllAllowed g start (begun ++ since)) (k : K) where
  -- the state after all exchanges
  abbrev now : State P
  now = run (begun ++ since) start

  -- a call that leaves a table has passed it
  leaving_passed : (task : Task) (t : ℕ) → ReliesLeaving g c begun since k task t → HasComeTo g c begun since k t × IsPassed g.places (look g now k) t
  leaving_passed Get t r = (r.1, r.2)
  leaving_passed (Insert replace) t r = absurd r
  leaving_passed RemoveIf t r = (r.1, r.2)
  leaving_passed Compute t r = (r.1, r.2)

  -- a slot from which the key's pair is copied, once it is migrated
  moved_passed : (inc : g.blocking ≡ false) (t x n : ℕ) → IsMovingFrom g c begun since k t x → IsSettled g now n (now.slot t x)
      → IsPassed g.places (look g now k) t
  moved_passed inc t x n (j, p, lt, here, e) settled = moved g now inc k t j n p lt e (subst (λ y. IsSettled g now n (now.slot t y)) (sym here) settled)

  -- the call had come to the table from which it continues
  pub left_come : (loaded : LoadedPairs P) (task : Task) (stage : Stage) → ReliesStage g c begun since k loaded task stage → (t : ℕ)
      → left_by stage ≡ Some t → HasComeTo g c begun since k t
  left_come loaded task (Leaving u) r t e = let same : u ≡ t = cc e in subst (HasComeTo g c begun since k) same (leaving_passed task u r).0
  left_come loaded task (Growing (Room u)) r t e = let same : u ≡ t = cc e in subst (HasComeTo g c begun since k) same (r.1).0
  left_come loaded task (Growing (Pair_at u x)) r t e = let same : u ≡ t = cc e in subst (HasComeTo g c begun since k) same (r.1).0
  left_come loaded task stage r t e = absurd cc

  -- it was passed, if the slot in which the call met its key's pair is migrated
  left_passed : (inc : g.blocking ≡ false) (n : ℕ) (loaded : LoadedPairs P) (task : Task) (stage : Stage)
      → ReliesStage g c begun since k loaded task stage → (t : ℕ) → left_by stage ≡ Some t
      → ((u x : ℕ) → stage ≡ Growing (Pair_at u x) → IsSettled g now n (now.slot u x)) → IsPassed g.places (look g now k) t
  left_passed inc n loaded task (Leaving u) r t e settled = let same : u ≡ t = cc e in subst (IsPassed g.places (look g now k)) same (leaving_passed task u r).1
  left_passed inc n loaded task (Growing (Room u)) r t e settled = let same : u ≡ t = cc e in subst (IsPassed g.places (look g now k)) same (r.1).1
  left_passed inc n loaded task (Growing (Pair_at u x)) r t e settled = let same : u ≡ t = cc e in
      subst (IsPassed g.places (look g now k)) same (moved_passed inc u x n (r.1).1 (settled u x refl))
  left_passed inc n loaded task stage r t e settled = absurd cc

  -- so the call may look for its key in the next table
  pub enters_relies : (inc : g.blocking ≡ false) (m : Call_machine) (loaded : LoadedPairs P) → Relies g c begun since k m loaded → (t : ℕ)
      → left_by m.state ≡ Some t → 0 < now.next t
      → ((u x : ℕ) → m.state ≡ Growing (Pair_at u x) → IsSettled g now (now.next t) (now.slot u x))
      → Relies g c begun since k (record m { state = Searching (Sizing (now.next t)) }) loaded
  enters_relies inc m loaded r t left some settled =
      let come = left_come loaded m.task m.state r.stage t left in
      let passed = left_passed inc (now.next t) loaded m.task m.state r.stage t left settled in
      record { hash = r.hash; mode = r.mode; made = r.made; stage = next_come g c hashed.lawful begun since may k t come inc passed some }

  -- the pair that the call met is one that is moved to the next table
  pub met_moving : (inc : g.blocking ≡ false) (t x : ℕ) → HasComeTo g c begun since k t → IsMovingFrom g c begun since k t x → 0 < now.next t
      → IsMoving g c now (record { from = t; index = x; to = now.next t })
  met_moving inc t x come (j, p, lt, here, e) some = record {
    mode = inc;
    on = come_on g c hashed begun since may k t come;
    within = subst (λ y. y < g.size t) here (hashed.lawful.within k t j lt);
    target = record { links = 0; is = refl; made = some; mode = inl refl; over = λ i none. absurd (omega (arith, none)) };
    pair = p;
    stood = ⊎_elim
        (λ leaving. inl (ap (now.slot t) (sym here) ∙ (view_leaving g k (now.slot t (g.place k t j)) p leaving).0))
        (λ gone. inr (ap (now.slot t) (sym here) ∙ (view_gone g k (now.slot t (g.place k t j)) p gone).0))
        e;
  }
