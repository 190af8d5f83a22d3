-- A copier: what it may be asked for and what it answers, by what it has observed of the map.
use Rattle.std.specs.Prelude.{ℕ, Option, None, Some}
use Rattle.papaya_call.specs.declared.ask.At.{At}
use Rattle.papaya_call.specs.declared.ask.At.TheVariants.{Next}
use Rattle.papaya_call.specs.declared.ask.StepKind.{StepKind}
use Rattle.papaya_call.specs.declared.ask.StepKind.TheVariants.{Link}
use Rattle.papaya_map_book.specs.declared.keyed.Keyed as keyed
use Rattle.papaya_map_book.specs.declared.window.Window.{Window}
use Rattle.papaya_map_book.specs.Logs.{Stored}
use Rattle.papaya_map_book.specs.Parts.{begun_of}
use Rattle.papaya_call.specs.declared.chain.ask.Answer.{Answer}
use Rattle.papaya_map_change.specs.declared.copier.CopyRequest.{CopyRequest}
use Rattle.papaya_map_change.specs.declared.copier.Copier.{Copier}
use Rattle.papaya_map_change.specs.Copier as copier
use Rattle.papaya_map_change.specs.Helping as helping

module _ {K V S H : Type 0} {d : keyed.Ghosts S K H} where
  abbrev pub CanReach : Window K V S H d → At → Type 0
  CanReach w = copier.IsReached w.sight.log

  abbrev pub CanTryFor : Window K V S H d → At → Option StepKind → (words : ℕ × ℕ)
      → Copier K V S H → Type 0
  CanTryFor w at kind words h = copier.CanTryFor d.keys.eq d.keys.hash (begun_of w.book.now.parts)
      w.book.now.begun.book at kind words h.kept w.sight.log

  abbrev pub CanJoin : Window K V S H d → (t new : ℕ) → Copier K V S H → Type 0
  CanJoin w t new h = copier.CanJoin d.keys.eq d.keys.hash (begun_of w.book.now.parts)
      w.book.now.begun.book t new w.sight.log h

  abbrev pub CanAnswer : Window K V S H d → CopyRequest → Copier K V S H → Type 0
  CanAnswer w asked h = copier.CanAnswer d.keys.eq d.keys.hash (begun_of w.book.now.parts)
      w.book.now.begun.book asked w.sight.log h

  abbrev pub CanExchange : Window K V S H d → At → Option StepKind → (words : ℕ × ℕ)
      → Copier K V S H → Type 0
  CanExchange w at kind words h = copier.CanExchangeFor d.keys.eq d.keys.hash
      (begun_of w.book.now.parts) w.book.now.begun.book at kind words.0 words.1 w.sight.log h

  -- The word was loaded from this place.
  abbrev pub Loads : At → ℕ → Window K V S H d → Copier K V S H → Window K V S H d
      → Copier K V S H → Type 0
  Loads at word w h w' h' = helping.IsLoadedFor d.keys.eq d.keys.hash (begun_of w.book.now.parts)
      w.book.now.begun.book at word w'.sight.log h.last h'.last

  -- An exchange was tried.
  abbrev pub TriesFor : At → Option StepKind → (words : ℕ × ℕ) → Window K V S H d
      → Copier K V S H → Window K V S H d → ℕ × Option (Stored K V) → Type 0
  TriesFor at kind words w h w' tried = helping.IsTriedFor d.keys.eq d.keys.hash
      (begun_of w.book.now.parts) w.book.now.begun.book at kind words.0 words.1 h.kept h.fresh
      w.sight.log tried.0 w'.sight.log tried.1

  abbrev pub HasTried : At → Option StepKind → (words : ℕ × ℕ) → Window K V S H d
      → Copier K V S H → Window K V S H d → Copier K V S H → ℕ → Type 0
  HasTried at kind words w h w' h' found = copier.HasTried d.keys.eq d.keys.hash
      (begun_of w.book.now.parts) w.book.now.begun.book at kind words h.kept h.fresh w.sight.log
      h.last found w'.sight.log h'.last

  abbrev pub Exchanges : At → Option StepKind → (words : ℕ × ℕ) → Window K V S H d
      → Copier K V S H → Window K V S H d → Copier K V S H → Answer → Type 0
  Exchanges at kind words w h w' h' answer = copier.AnswersExchange d.keys.eq d.keys.hash
      (begun_of w.book.now.parts) w.book.now.begun.book at kind words.0 words.1 w.sight.log h
      w'.sight.log h' answer

  abbrev pub Joins : (t new : ℕ) → Window K V S H d → Copier K V S H → Window K V S H d → ℕ → Type 0
  Joins t new w h w' found = helping.IsTriedFor d.keys.eq d.keys.hash (begun_of w.book.now.parts)
      w.book.now.begun.book (Next t) (Some Link) 0 new h.kept h.fresh w.sight.log
      found w'.sight.log None

  abbrev pub IsSizeOf : (t : ℕ) → (w w' : Window K V S H d) → ℕ × ℕ → Type 0
  IsSizeOf t w w' size = copier.IsSizeOf d.keys.eq d.keys.hash (begun_of w.book.now.parts)
      w.book.now.begun.book t w'.sight.log size

  abbrev pub Carries : Window K V S H d → (h h' : Copier K V S H) → ℕ → Type 0
  Carries w h h' word = copier.Carries d.keys.eq d.keys.hash (begun_of w.book.now.parts)
      w.book.now.begun.book h h' word

  abbrev pub HasMade : (number follows chunks : ℕ) → Window K V S H d → Copier K V S H → Type 0
  HasMade number follows chunks w h = copier.HasMade d.keys.eq d.keys.hash
      (begun_of w.book.now.parts) w.book.now.begun.book number follows chunks w.sight.log h

  abbrev pub Answers : CopyRequest → Window K V S H d → Copier K V S H → Window K V S H d
      → Copier K V S H → Answer → Type 0
  Answers asked w h w' h' answer = copier.Answers d.keys.eq d.keys.hash (begun_of w.book.now.parts)
      w.book.now.begun.book asked w.sight.log h w'.sight.log h' answer
