-- Answers to a copy's asks, one after another, by what has been observed of the map.
use Rattle.std.proofs.Common.{◌≡◌, ℕ, ◌+◌, ◌-◌, ◌<◌, Option, None, Some, List, [], length, append-nil, arith, refl, sym, ap, ◌∙◌, subst}
use mathlib.Core.List.{IsPrefix}
use Rattle.papaya_words.specs.declared.resize_mode.ResizeMode.{ResizeMode}
use Rattle.papaya_call.specs.declared.ask.At.TheVariants.{Slot}
use Rattle.papaya_call.specs.declared.search.Place.{Place}
use Rattle.papaya_call.specs.Search.{next_place}
use Rattle.papaya_call.specs.declared.copy.settle.Settle.{Settle}
use Rattle.papaya_call.specs.Copying.{IsValidCopying}
use Rattle.papaya_call.specs.ChainMachine.{IsFit}
use Rattle.papaya_call.specs.declared.chain.ask.Answer.{Answer}
use Rattle.papaya_map_book.specs.declared.keyed.Keyed as keyed
use Rattle.papaya_map_book.specs.declared.rule.entry.Event.{Event}
use Rattle.papaya_map_book.specs.declared.window.Window.{Window}
use Rattle.papaya_map_book.specs.Calls.{IsTable}
use Rattle.papaya_map_book.specs.Parts.{begun_of}
use Rattle.papaya_map_book.specs.Sheets.{Sheet}
use Rattle.papaya_map_book.specs.Windows.{Observes}
use Rattle.papaya_map_book.proofs.Loaded.{table_since}
use Rattle.papaya_map_change.specs.declared.copier.Copier.{Copier}
use Rattle.papaya_map_change.specs.declared.settling.Halt.{Halt}
use Rattle.papaya_map_change.specs.declared.settling.Site.{Site}
use Rattle.papaya_map_change.specs.Copier.{IsReached}
use Rattle.papaya_map_change.specs.Seeking.{left_at}
use Rattle.papaya_map_change.specs.Window.Settling.{CanStep, IsPlacedAt, LeavesFrom, stop_at}
use Rattle.papaya_map_change.specs.Settling.{AnswersAt, CanAnswerAt, Ends, IsMoveStep, StepsTo, LeavesSlot, Stop, at_slot, past_slot}
use Rattle.papaya_map_change.proofs.Copiers.{reached_low}
use Rattle.papaya_map_change.proofs.SettlingTurns.{can_later, can_then, ends_here, leads_none, leads_one, leads_then, leaves_then}

-- a slot that was reached is one of its table's
pub low : {K V S : Type 0} (log log' : List (Event K V S)) → IsPrefix log log' → (t x : ℕ) → IsReached log (Slot t x) → (sheet : Sheet)
    → IsTable log' t sheet → x < length sheet.slots
low log log' pre t x reached sheet now = reached_low log log' pre (Slot t x) t x refl reached sheet now

-- the place after one is nearer to the last
pub nearer : (at next : Place) → next ≡ next_place at → at.probe.len < at.limit → left_at next < left_at at
nearer at next is few = subst (λ (z : Place). left_at z < left_at at) (sym is) (further at.limit at.probe.len few)
  where
    further : (limit many : ℕ) → many < limit → limit + 1 - (many + 1) < limit + 1 - many
    further limit many few = omega arith

module _ {K V S H : Type 0} {d : keyed.Ghosts S K H} (w : Window K V S H d) where
  abbrev pub TurnsBy : ResizeMode → Stop K V S H → Stop K V S H → Type 0
  TurnsBy mode s t = IsMoveStep d.keys.eq d.keys.hash (begun_of w.book.now.parts) w.book.now.begun.book mode s t

  abbrev pub CanAnswer : ResizeMode → Stop K V S H → Type 0
  CanAnswer mode s = CanAnswerAt d.keys.eq d.keys.hash (begun_of w.book.now.parts) w.book.now.begun.book mode s

  -- the ask may be answered
  pub asked : (mode : ResizeMode) (s : Stop K V S H) → CanStep w mode s → CanAnswer mode s
  asked mode s can = can s (leads_none d.keys.eq d.keys.hash (begun_of w.book.now.parts) w.book.now.begun.book mode s)

  module _ (w' : Window K V S H d) where
    -- over a later log too
    pub placed_on : Observes w w' → (site : Site K V S H) → IsPlacedAt w site → IsPlacedAt w' site
    placed_on sees site placed = record {
      table = table_since w.sight.log w'.sight.log site.chunk.cursor.from site.table.now sees.log placed.table;
      valid = placed.valid;
    }

    module _ (same : w'.book ≡ w.book) where
      pub turn_on : (mode : ResizeMode) (s t : Stop K V S H) → TurnsBy mode s t
          → IsMoveStep d.keys.eq d.keys.hash (begun_of w'.book.now.parts) w'.book.now.begun.book mode s t
      turn_on mode s t turn = subst (λ (z : _). IsMoveStep d.keys.eq d.keys.hash (begun_of z.now.parts) z.now.begun.book mode s t) (sym same) turn

      -- for the same book
      pub can_still : (mode : ResizeMode) (s : Stop K V S H) → CanStep w mode s → CanStep w' mode s
      can_still mode s can = subst (λ (z : _).
          Rattle.papaya_map_change.specs.Settling.CanStep d.keys.eq d.keys.hash (begun_of z.now.parts) z.now.begun.book mode s) (sym same) can

      pub leads_still : (mode : ResizeMode) (s t : Stop K V S H)
          → StepsTo d.keys.eq d.keys.hash (begun_of w.book.now.parts) w.book.now.begun.book mode s t
          → StepsTo d.keys.eq d.keys.hash (begun_of w'.book.now.parts) w'.book.now.begun.book mode s t
      leads_still mode s t led = subst (λ (z : _). StepsTo d.keys.eq d.keys.hash (begun_of z.now.parts) z.now.begun.book mode s t) (sym same) led

      -- after an answer
      pub can_on : (mode : ResizeMode) (s t : Stop K V S H) → CanStep w mode s → TurnsBy mode s t → CanStep w' mode t
      can_on mode s t can turn =
          subst (λ (z : _). Rattle.papaya_map_change.specs.Settling.CanStep d.keys.eq d.keys.hash (begun_of z.now.parts) z.now.begun.book mode t) (sym same)
          (can_then d.keys.eq d.keys.hash (begun_of w.book.now.parts) w.book.now.begun.book mode s t can turn)

      pub leaves_on : (site : Site K V S H) (s t : Stop K V S H) (h : Copier K V S H) (halt : Option Halt) → TurnsBy site.mode s t
          → LeavesFrom t w' site h halt → LeavesFrom s w' site h halt
      leaves_on site s t h halt turn left = leaves_then d.keys.eq d.keys.hash (begun_of w'.book.now.parts) w'.book.now.begun.book site.mode site.aim
          site.chunk s t w'.sight.log h halt (turn_on site.mode s t turn) left

      -- an answer migrates the slot
      pub settled_on : (site : Site K V S H) (s : Stop K V S H) (h : Copier K V S H)
          → TurnsBy site.mode s (record { copying = past_slot site.aim site.chunk; log = w'.sight.log; loaded = h }) → LeavesFrom s w' site h None
      settled_on site s h turn = leads_one d.keys.eq d.keys.hash (begun_of w'.book.now.parts) w'.book.now.begun.book site.mode s
          (record { copying = past_slot site.aim site.chunk; log = w'.sight.log; loaded = h })
          (turn_on site.mode s (record { copying = past_slot site.aim site.chunk; log = w'.sight.log; loaded = h }) turn)

      -- or leaves its copy
      pub left_on : (site : Site K V S H) (settle : Settle) (log : List (Event K V S)) (h h' : Copier K V S H) (answer : Answer) → IsPrefix log w'.sight.log
          → AnswersAt d.keys.eq d.keys.hash (begun_of w.book.now.parts) w.book.now.begun.book site.mode
          (record { copying = at_slot site.aim site.chunk settle; log = log; loaded = h }) w'.sight.log h' answer
          → IsValidCopying (at_slot site.aim site.chunk settle) → IsFit answer
          → LeavesFrom (record { copying = at_slot site.aim site.chunk settle; log = log; loaded = h }) w' site h'
          (Some (record { settle = settle; answer = answer }))
      left_on site settle log h h' answer pre answers valid fit =
          let s : Stop K V S H = record { copying = at_slot site.aim site.chunk settle; log = log; loaded = h } in
          ends_here d.keys.eq d.keys.hash (begun_of w'.book.now.parts) w'.book.now.begun.book site.mode s w'.sight.log h' answer pre
          (subst (λ (z : _). AnswersAt d.keys.eq d.keys.hash (begun_of z.now.parts) z.now.begun.book site.mode s w'.sight.log h' answer) (sym same)
          answers) valid fit
