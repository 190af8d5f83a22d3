-- A call that resizes relies on facts that hold after each answer with which its copy continues,
-- whether its machine runs or is a ghost.
use Rattle.std.proofs.Common.{◌≡◌, ℕ, Bool, true, Option, Some, List, [], ◌∷◌, refl, sym, ap, ◌∙◌, subst}
use Rattle.std.specs.Cmp.{IsEquivalence}
use mathlib.Core.List.{IsPrefix}
use Rattle.logbook.specs.Pages.{Book}
use Rattle.papaya_call.specs.Copying.{IsValidCopying, copying_ask}
use Rattle.papaya_call.specs.declared.copy.copying.Copied.{Copied}
use Rattle.papaya_call.specs.Resizer.{after}
use Rattle.papaya_call.specs.Resizer as stepping
use Rattle.papaya_call.specs.declared.chain.ask.Answer.{Answer}
use Rattle.papaya_call.specs.declared.chain.resizer.Resizer.{Resizer}
use Rattle.papaya_call.specs.declared.chain.resizer.ResizerState.TheVariants.{Copying, Opening}
use Rattle.papaya_map_book.specs.declared.rule.entry.Begun.{Begun}
use Rattle.papaya_map_book.specs.declared.rule.entry.Event.{Event}
use Rattle.papaya_map_book.specs.Hashes.{hash_of}
use Rattle.papaya_map_change.specs.Resizing.{IsResizing}
use Rattle.papaya_map_change.specs.Settling.{CanAnswerAt, CanStep, Ends, IsPath, IsMoveStep, StepsTo, Stop}
use Rattle.papaya_map_change.proofs.ResizingAnswers.{resized}
use Rattle.papaya_map_change.proofs.ResizingRelies.{can_answer}
use Rattle.papaya_map_change.proofs.ResizingStages.{stage_fits}

module _ {K V S H : Type 0} (eq : K → K → Bool) (input : K → List (List ℕ)) (build : S → H) (write : H → List ℕ → H) (finish : H → ℕ)
    (classes : IsEquivalence eq) (respects : (x y : K) → eq x y ≡ true → input x ≡ input y) (b : Begun K V S) (name : Book) (m : Resizer) (from : ℕ) where
  abbrev hash : S → K → ℕ
  hash = hash_of input build write finish

  -- the resizer, with its copy in this state
  abbrev at : Stop K V S H → Resizer
  at s = record m { state = Copying from s.copying }

  abbrev Relies : Stop K V S H → Type 0
  Relies s = IsResizing eq hash b name s.log (at s) s.loaded

  closed : (s : Stop K V S H) (n : ℕ) → Copying from s.copying ≡ Opening n → ⊥
  closed s n e = cc e

  turned : (s t : Stop K V S H) → IsMoveStep eq hash b name m.mode s t → Relies s → Relies t
  turned s t turn r =
      let moved = resized eq input build write finish classes respects b name s.log (at s) s.loaded r (closed s) t.log turn.since t.loaded
      (copying_ask s.copying) refl turn.answer turn.answers in
      let on : after (at s) turn.answer ≡ at t = ap (λ (z : Copied). record m { state = stepping.copied m.resize from z }) (turn.on m.initial m.number) in
      subst (λ (z : Resizer). IsResizing eq hash b name t.log z t.loaded) on moved

  walked : (ts : List (Stop K V S H)) (s t : Stop K V S H) → IsPath eq hash b name m.mode ts s t → IsValidCopying s.copying → Relies s
      → IsValidCopying t.copying × Relies t
  walked [] s t p stands r = subst (λ (z : Stop K V S H). IsValidCopying z.copying × Relies z) (sym p) (stands, r)
  walked (x ∷ ts) s t p stands r = walked ts x t p.1 p.0.valid (turned s x p.0 r)

  answers_now : (t : Stop K V S H) → IsValidCopying t.copying → Relies t → CanAnswerAt eq hash b name m.mode t
  answers_now t stands r = can_answer eq input build write finish classes respects b name t.log (at t) t.loaded r (closed t) (copying_ask t.copying)
      refl (stage_fits (Copying from t.copying) stands (copying_ask t.copying) refl)

  -- each ask on the way may be answered
  pub can_lead : (s : Stop K V S H) → IsValidCopying s.copying → Relies s → CanStep eq hash b name m.mode s
  can_lead s stands r = λ t l. let there = walked l.0 s t l.1 stands r in answers_now t there.0 there.1

  -- it relies on facts that hold once it has the last answer
  pub relies_by : (s s' : Stop K V S H) (answer : Answer) → IsValidCopying s.copying → Relies s → Ends eq hash b name m.mode s s' answer
      → IsResizing eq hash b name s'.log (after (at s') answer) s'.loaded
  relies_by s s' answer stands r e =
      let last : Stop K V S H = record { copying = s'.copying; log = e.log; loaded = e.loaded } in
      let there = walked e.leads.0 s last e.leads.1 stands r in
      resized eq input build write finish classes respects b name e.log (at last) e.loaded there.1 (closed last) s'.log e.since s'.loaded
      (copying_ask s'.copying) refl answer e.answers
