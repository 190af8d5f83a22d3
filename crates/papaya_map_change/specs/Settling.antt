-- Slots that are copied one after another. The copy's machine, which nothing runs meanwhile, exists
-- in the proof alone: what it would receive on the way are answers to its asks.
use Rattle.std.specs.Prelude.{◌≡◌, ℕ, ◌+◌, Bool, Option, None, Some, List, [], ◌∷◌, nat_lt, if◌then◌else◌}
use mathlib.Core.List.{IsPrefix}
use Rattle.logbook.specs.Pages.{Book}
use Rattle.papaya_words.specs.declared.resize_mode.ResizeMode.{ResizeMode}
use Rattle.papaya_call.specs.declared.search.Place.{Place}
use Rattle.papaya_call.specs.declared.copy.copying.Aim.{Aim}
use Rattle.papaya_call.specs.declared.copy.copying.Copied.TheVariants.{On}
use Rattle.papaya_call.specs.declared.copy.copying.Copying.{Copying}
use Rattle.papaya_call.specs.declared.copy.copying.Copying.TheVariants.{Stepping}
use Rattle.papaya_call.specs.declared.copy.settle.Settle.{Settle}
use Rattle.papaya_call.specs.declared.copy.step.Chunk.{Chunk}
use Rattle.papaya_call.specs.declared.copy.step.Step.TheVariants.{Advancing, Settling}
use Rattle.papaya_call.specs.declared.copy.settle.Settle.TheVariants.{Looking}
use Rattle.papaya_call.specs.Copying.{IsValidCopying, copying_ask, copying_follows, copying_kind}
use Rattle.papaya_call.specs.Step.{next_slot}
use Rattle.papaya_call.specs.declared.chain.ask.Answer.{Answer}
use Rattle.papaya_call.specs.ChainMachine.{IsFit, copying_after}
use Rattle.papaya_map_book.specs.declared.rule.entry.Begun.{Begun}
use Rattle.papaya_map_book.specs.declared.rule.entry.Event.{Event}
use Rattle.papaya_map_change.specs.declared.copier.Copier.{Copier}
use Rattle.papaya_map_change.specs.declared.settling.Halt.{Halt}
use Rattle.papaya_map_change.specs.Copier.{AnswersTo, CanAnswerTo}

-- A point of a copy, with the log that has been observed and what the copier holds there.
pub record Stop (K V S H : Type 0) : Type 0 where
  pub copying : Copying
  pub log : List (Event K V S)
  pub loaded : Copier K V S H

-- The copy at this step of the chunk's current slot.
abbrev pub at_slot : Aim → Chunk → Settle → Copying
at_slot aim chunk settle = Stepping aim (Settling chunk settle)

-- The copy once the chunk's current slot is settled: at the next slot, or at the chunk's end.
abbrev pub past_slot : Aim → Chunk → Copying
past_slot aim chunk = if nat_lt (chunk.at + 1) chunk.end
    then at_slot aim (next_slot chunk) Looking else Stepping aim (Advancing chunk.cursor)

module _ {K V S H : Type 0} (eq : K → K → Bool) (hash : S → K → ℕ) (b : Begun K V S)
    (name : Book) (mode : ResizeMode) where
  abbrev pub CanAnswerAt : Stop K V S H → Type 0
  CanAnswerAt s = CanAnswerTo eq hash b name (copying_ask s.copying) (copying_kind s.copying)
      (copying_follows s.copying) s.log s.loaded

  abbrev pub AnswersAt : Stop K V S H → List (Event K V S) → Copier K V S H → Answer → Type 0
  AnswersAt s log h answer = AnswersTo eq hash b name (copying_ask s.copying)
      (copying_kind s.copying) (copying_follows s.copying) s.log s.loaded log h answer

  -- One ask was answered, which led from `s` to `s'`.
  pub record IsMoveStep (s s' : Stop K V S H) : Type 0 where
    pub since : IsPrefix s.log s'.log
    pub answer : Answer
    pub answers : AnswersAt s s'.log s'.loaded answer
    pub on : (initial number : ℕ) → copying_after s.copying mode initial number answer
        ≡ On s'.copying
    pub valid : IsValidCopying s'.copying

  -- Answers led from `s` to `s'` by these stops.
  abbrev pub IsPath : List (Stop K V S H) → Stop K V S H → Stop K V S H → Type 0
  IsPath [] s s' = s' ≡ s
  IsPath (t ∷ ts) s s' = IsMoveStep s t × IsPath ts t s'

  abbrev pub StepsTo : Stop K V S H → Stop K V S H → Type 0
  StepsTo s s' = (ts : List (Stop K V S H)) × IsPath ts s s'

  -- Wherever answers lead from `s`, what the copy asks there may be answered.
  abbrev pub CanStep : Stop K V S H → Type 0
  CanStep s = (s' : Stop K V S H) → StepsTo s s' → CanAnswerAt s'

  -- Answers led from `s` to `s'`, and the machine has yet to receive the last one, `answer`.
  pub record Ends (s s' : Stop K V S H) (answer : Answer) : Type 0 where
    pub log : List (Event K V S)
    pub loaded : Copier K V S H
    pub leads : StepsTo s (record { copying = s'.copying; log = log; loaded = loaded })
    pub since : IsPrefix log s'.log
    pub answers : AnswersAt (record { copying = s'.copying; log = log; loaded = loaded }) s'.log
        s'.loaded answer
    pub valid : IsValidCopying s'.copying
    pub fit : IsFit answer

  -- The slot is settled, or its copy stopped at this step.
  abbrev pub LeavesSlot : Aim → Chunk → Stop K V S H → List (Event K V S) → Copier K V S H
      → Option Halt → Type 0
  LeavesSlot aim chunk s log h None = StepsTo s
      (record { copying = past_slot aim chunk; log = log; loaded = h })
  LeavesSlot aim chunk s log h (Some halt) = Ends s
      (record { copying = at_slot aim chunk halt.settle; log = log; loaded = h }) halt.answer
