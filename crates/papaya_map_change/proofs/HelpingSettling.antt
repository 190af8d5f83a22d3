-- A call that is set aside relies on facts that hold after each answer with which its copy
-- continues, whether its machine runs or is a ghost.
use Rattle.std.proofs.Common.{◌≡◌, ℕ, Bool, true, Option, Some, List, [], ◌∷◌, append-nil, refl, sym, ap, ◌∙◌, subst}
use Rattle.std.specs.Cmp.{IsEquivalence}
use mathlib.Core.List.{IsPrefix}
use Rattle.logbook.specs.Pages.{Book}
use Rattle.papaya_call.specs.Copying.{IsValidCopying, copying_ask}
use Rattle.papaya_call.specs.declared.copy.copying.Copied.{Copied}
use Rattle.papaya_call.specs.declared.copy.copying.Copying.{Copying}
use Rattle.papaya_call.specs.ChainMachine.{IsValid, after, after_copied}
use Rattle.papaya_call.specs.declared.chain.ask.Answer.{Answer}
use Rattle.papaya_call.specs.declared.chain.machine.Machine.{Machine}
use Rattle.papaya_call.specs.declared.chain.machine.Phase.TheVariants.{Calling, Copying as Copying_root}
use Rattle.papaya_call.specs.declared.chain.resizer.ResizerState.TheVariants as stages
use Rattle.papaya_map_book.specs.declared.rule.entry.Begun.{Begun}
use Rattle.papaya_map_book.specs.declared.rule.entry.Event.{Event}
use Rattle.papaya_map_book.specs.Hashes.{hash_of}
use Rattle.papaya_map_book.specs.Limits.{tables_of}
use Rattle.papaya_map_book.specs.Logs.{Stored}
use Rattle.papaya_map_change.specs.declared.copier.Copier.{Copier}
use Rattle.papaya_map_change.specs.declared.driver.Driver.{Driver}
use Rattle.papaya_map_change.specs.Changing.{CanGoOn, Continues, IsDriven, IsForm}
use Rattle.papaya_map_change.specs.Helping.{Copies, HasCopied, IsEntering}
use Rattle.papaya_map_change.specs.Settling.{AnswersAt, CanAnswerAt, CanStep, Ends, IsPath, IsMoveStep, StepsTo, Stop}
use Rattle.papaya_map_change.proofs.HelpingArrives.{arrived}
use Rattle.papaya_map_change.proofs.HelpingCopies.{can_answer, copied}
use Rattle.papaya_map_change.proofs.ResizingStages.{stage_fits}

-- the call, with its copy in this state
abbrev pub driver_at : {K V S H : Type 0} → Driver K V S H → Stop K V S H → Driver K V S H
driver_at c s = record c { machine = record c.machine { phase = Copying_root s.copying }; copier = s.loaded }

-- a machine whose copy is in this state
pub standing_at : {K V S H : Type 0} (c : Driver K V S H) (s : Stop K V S H) → IsValid c.machine → IsValidCopying s.copying
    → IsValid (driver_at c s).machine
standing_at c s valid copying = record { call = valid.call; chunked = valid.chunked; initial = valid.initial; phase = copying }

module _ {K V S H : Type 0} (eq : K → K → Bool) (input : K → List (List ℕ)) (build : S → H) (write : H → List ℕ → H) (finish : H → ℕ)
    (classes : IsEquivalence eq) (respects : (x y : K) → eq x y ≡ true → input x ≡ input y) (b : Begun K V S) (name : Book) (c : Driver K V S H)
    (valid : IsValid c.machine) where
  abbrev hash : S → K → ℕ
  hash = hash_of input build write finish

  module _ (matches : K → Bool) (fed : ℕ) (form : IsForm eq (hash_of input build write finish) b matches fed) (k : Option K)
      (begun : List (Event K V S)) (made : List (Stored K V)) where
    abbrev Relies : Stop K V S H → Type 0
    Relies s = IsDriven eq hash b name matches fed k begun s.log made (driver_at c s)

    -- one answer leads to the next state
    turned : (s t : Stop K V S H) → IsMoveStep eq hash b name c.machine.call.mode s t → IsValidCopying s.copying → Relies s → Relies t
    turned s t turn stands r =
        let d = driver_at c s in
        let moved = copied eq input build write finish classes respects b name matches fed form k begun made s.log d r
        (standing_at c s valid stands) t.log turn.since t.loaded (copying_ask s.copying) refl turn.answer turn.answers in
        let on : after d.machine turn.answer ≡ (driver_at c t).machine = ap (after_copied d.machine) (turn.on c.machine.call.initial c.machine.number) in
        let busy : (n : ℕ) → IsEntering (after d.machine turn.answer) n → ⊥ = λ n e. away n (subst (λ (m : Machine). IsEntering m n) on e) in
        subst (λ (m : Machine). IsDriven eq hash b name matches fed k begun t.log made (record (driver_at c t) { machine = m })) on
        (arrived eq input build write finish classes respects b name matches fed form k begun t.log (after d.machine turn.answer) t.loaded.last
        t.loaded.kept made c.taken c.put t.loaded.fresh moved.relies
        s.log d.machine c.table s.loaded.last s.loaded.kept c.taken c.put s.loaded.fresh r (tables_of t.log) t.loaded.given.done moved.leads
        turn.since t.log ([], append-nil t.log) moved.relies.lawful c.table (λ n e. absurd (busy n e)) (λ none. refl))
      where
        away : (n : ℕ) → IsEntering (driver_at c t).machine n → ⊥
        away n e = let f : Copying_root t.copying ≡ Calling = e.0 in cc f

    walked : (ts : List (Stop K V S H)) (s t : Stop K V S H) → IsPath eq hash b name c.machine.call.mode ts s t → IsValidCopying s.copying
        → Relies s → IsValidCopying t.copying × Relies t
    walked [] s t p stands r = subst (λ (z : Stop K V S H). IsValidCopying z.copying × Relies z) (sym p) (stands, r)
    walked (x ∷ ts) s t p stands r = walked ts x t p.1 p.0.valid (turned s x p.0 stands r)

    -- and several answers lead to a later one
    pub led : (s t : Stop K V S H) → StepsTo eq hash b name c.machine.call.mode s t → IsValidCopying s.copying → Relies s
        → IsValidCopying t.copying × Relies t
    led s t l stands r = walked l.0 s t l.1 stands r

    answers_now : (t : Stop K V S H) → IsValidCopying t.copying → Relies t → CanAnswerAt eq hash b name c.machine.call.mode t
    answers_now t stands r = can_answer eq input build write finish classes respects b name matches fed form k begun made t.log (driver_at c t) r
        (copying_ask t.copying) refl (stage_fits (stages.Copying 0 t.copying) stands (copying_ask t.copying) refl)

    -- so each ask on the way may be answered
    pub may_lead : (s : Stop K V S H) → IsValidCopying s.copying → Relies s → CanStep eq hash b name c.machine.call.mode s
    may_lead s stands r = λ t l. let there = led s t l stands r in answers_now t there.0 there.1

  -- the copy for a call that is under way may continue from here
  pub can_lead : (s : Stop K V S H) → IsValidCopying s.copying → CanGoOn eq hash b name s.log (driver_at c s) → CanStep eq hash b name c.machine.call.mode s
  can_lead s stands can = may_lead can.0 can.1 can.2 can.3 can.4 can.5 s stands can.6

  module _ (s s' : Stop K V S H) (stands : IsValidCopying s.copying) (answer : Answer) (e : Ends eq hash b name c.machine.call.mode s s' answer) where
    abbrev last : Stop K V S H
    last = record { copying = s'.copying; log = e.log; loaded = e.loaded }

    -- it continues up to the last answer
    pub goes : Continues eq hash b name s.log (driver_at c s) e.log (driver_at c last)
    goes matches fed form k begun made r = (led matches fed form k begun made s last e.leads stands r).1

    -- and after it
    pub goes_by : IsValidCopying s'.copying → Copies eq hash b name e.log (driver_at c last) s'.log (driver_at c s') answer
    goes_by stands' matches fed form k begun made r =
        copied eq input build write finish classes respects b name matches fed form k begun made e.log (driver_at c last) r
        (standing_at c last valid stands') s'.log e.since s'.loaded (copying_ask s'.copying) refl answer e.answers
