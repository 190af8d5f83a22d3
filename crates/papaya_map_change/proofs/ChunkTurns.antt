-- Answers that lead a copy to the chunk that it takes, and past it.
use Rattle.std.proofs.Common.{◌≡◌, ℕ, ◌==◌, not, Bool, true, false, if◌then◌else◌, Some, refl, ap, ◌∙◌, List}
use Rattle.std.proofs.lemmas.Bool.{ne_eqb}
use mathlib.Core.List.{IsPrefix}
use Rattle.logbook.specs.Pages.{Book}
use Rattle.papaya_words.specs.declared.resize_mode.ResizeMode.{ResizeMode}
use Rattle.papaya_words.specs.declared.resize_mode.ResizeMode.TheVariants.{Incremental}
use Rattle.papaya_call.specs.declared.ask.Answer.TheVariants.{Exchanged, Found, Word}
use Rattle.papaya_call.specs.declared.ask.At.TheVariants.{Done, Next, Root}
use Rattle.papaya_call.specs.declared.ask.StepKind.TheVariants.{Advance}
use Rattle.papaya_call.specs.declared.copy.copying.Aim.{Aim}
use Rattle.papaya_call.specs.declared.copy.copying.Aim.TheVariants as aims
use Rattle.papaya_call.specs.declared.copy.copying.Copied.TheVariants.{On}
use Rattle.papaya_call.specs.declared.copy.copying.Copying.TheVariants.{Stepping}
use Rattle.papaya_call.specs.declared.copy.settle.Settle.TheVariants.{Looking}
use Rattle.papaya_call.specs.declared.copy.step.Cursor.{Cursor}
use Rattle.papaya_call.specs.declared.copy.step.Step.{Step}
use Rattle.papaya_call.specs.declared.copy.step.Step.TheVariants.{Advancing, Aiming, AtChunk, AtRoot, Settling, Sizing}
use Rattle.papaya_call.specs.declared.copy.step.Stepped.TheVariants.{Further, Last, On as Step_on}
use Rattle.papaya_call.specs.Copying.{at_root, leads, over}
use Rattle.papaya_call.specs.Step.{IsValidChunk, IsValidCursor, aimed, chunk_at, chunk_read, next_cursor}
use Rattle.papaya_call.specs.ChainMachine.{copying_after}
use Rattle.papaya_call.specs.declared.chain.ask.Answer.{Answer}
use Rattle.papaya_call.specs.declared.chain.ask.Answer.TheVariants.{Call}
use Rattle.papaya_map_book.specs.declared.rule.entry.Begun.{Begun}
use Rattle.papaya_map_book.specs.declared.rule.entry.Event.{Event}
use Rattle.papaya_map_change.specs.declared.copier.Copier.{Copier}
use Rattle.papaya_map_change.specs.Copier.{AnswersExchange, AnswersLoad}
use Rattle.papaya_map_change.specs.Settling.{IsMoveStep, Stop}

-- the table after a root is read next, unless all is copied
root_on : (aim : Aim) (mode : ResizeMode) (root : ℕ) → ((met : ℕ) → aim ≡ aims.All met → ⊥) → (root == 0) ≡ false
    → at_root aim mode root ≡ On (Stepping aim (Aiming root root))
root_on (aims.Search table) mode root none is = ap (λ (z : Bool). if z then over (aims.Search table) else On (Stepping (aims.Search table) (Aiming root root))) is
root_on (aims.Settle slot) mode root none is = ap (λ (z : Bool). if z then over (aims.Settle slot) else On (Stepping (aims.Settle slot) (Aiming root root))) is
root_on aims.Chunk mode root none is = ap (λ (z : Bool). if z then over aims.Chunk else On (Stepping aims.Chunk (Aiming root root))) is
root_on (aims.All met) mode root none is = absurd (none met refl)

module _ {K V S H : Type 0} (eq : K → K → Bool) (hash : S → K → ℕ) (b : Begun K V S) (name : Book) (mode : ResizeMode) (aim : Aim)
    (log : List (Event K V S)) (h : Copier K V S H) (log' : List (Event K V S)) (h' : Copier K V S H) (since : IsPrefix log log') where
  abbrev pub before_step : Step → Stop K V S H
  before_step step = record { copying = Stepping aim step; log = log; loaded = h }

  abbrev pub after_step : Step → Stop K V S H
  after_step step = record { copying = Stepping aim step; log = log'; loaded = h' }

  abbrev Turns : Step → Step → Type 0
  Turns step step' = IsMoveStep eq hash b name mode (before_step step) (after_step step')

  -- the root was loaded
  pub roots : (root : ℕ) → AnswersLoad eq hash b name Root log h log' h' (Call (Word root)) → ((met : ℕ) → aim ≡ aims.All met → ⊥)
      → (root ≡ 0 → ⊥) → Turns AtRoot (Aiming root root)
  roots root loads none some = record {
    since = since;
    answer = Call (Word root);
    answers = loads;
    on = λ initial number. root_on aim mode root none (ne_eqb root 0 some);
    valid = tt;
  }

  -- and the table after it, to which it is copied
  pub aims_at : (from to slots : ℕ) → AnswersLoad eq hash b name (Next from) log h log' h' (Call (Word to)) → mode ≡ Incremental slots
      → (to ≡ 0 → ⊥) → Turns (Aiming from from) (Sizing from to)
  aims_at from to slots loads is some = record {
    since = since;
    answer = Call (Word to);
    answers = loads;
    on = λ initial number. ap (λ (z : ResizeMode). leads aim mode (aimed from from z to)) is
        ∙ ap (λ (z : Bool). leads aim mode (if z then Last from else Step_on (Sizing from to))) (ne_eqb to 0 some);
    valid = tt;
  }

  -- by the chunk's word the chunk is not copied
  pub takes : (cursor : Cursor) (done : ℕ) → AnswersLoad eq hash b name (Done cursor.to cursor.at) log h log' h' (Call (Word done)) → done ≡ 0
      → cursor.copied ≡ false → IsValidChunk (chunk_at cursor) → Turns (AtChunk cursor) (Settling (chunk_at cursor) Looking)
  takes cursor done loads is fresh valid = record {
    since = since;
    answer = Call (Word done);
    answers = loads;
    on = λ initial number. ap (λ (z : ℕ). leads aim mode (chunk_read cursor z)) is
        ∙ ap (λ (z : Bool). leads aim mode (if z then Further (chunk_at cursor) else Step_on (Settling (chunk_at cursor) Looking))) fresh;
    valid = (valid, tt);
  }

  -- the chunk's word was set to state that it is copied, and another chunk's word is next
  module _ (cursor next : Cursor) (answer : Answer)
      (closes : AnswersExchange eq hash b name (Done cursor.to cursor.at) (Some Advance) 0 1 log h log' h' answer)
      (on : next_cursor (record cursor { copied = true }) ≡ AtChunk next) (valid : IsValidCursor next) where
    either : (initial number : ℕ) (z : Bool) → copying_after (Stepping aim (Advancing cursor)) mode initial number
        (if z then Call Exchanged else Call (Found closes.found)) ≡ leads aim mode (Step_on (next_cursor (record cursor { copied = true })))
    either initial number true = refl
    either initial number false = refl

    pub closed : Turns (Advancing cursor) (AtChunk next)
    closed = record {
      since = since;
      answer = answer;
      answers = closes;
      on = λ initial number. ap (λ (z : Answer). copying_after (Stepping aim (Advancing cursor)) mode initial number z) closes.is
          ∙ (either initial number (closes.found == 0) ∙ ap (λ (z : Step). leads aim mode (Step_on z)) on);
      valid = valid;
    }
