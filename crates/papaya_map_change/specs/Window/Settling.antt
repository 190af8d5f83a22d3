-- Slots that are copied one after another, by what has been observed of the map.
use Rattle.std.specs.Prelude.{◌<◌, Option, List}
use mathlib.Core.List.{IsPrefix}
use Rattle.papaya_words.specs.declared.resize_mode.ResizeMode.{ResizeMode}
use Rattle.papaya_call.specs.Search.{IsWithin}
use Rattle.papaya_call.specs.declared.copy.carry.Carry.TheVariants.{Looking as Looking_at, Placing, Reading}
use Rattle.papaya_call.specs.declared.copy.copying.Copying.{Copying}
use Rattle.papaya_call.specs.declared.copy.settle.Settle.{Settle}
use Rattle.papaya_call.specs.declared.copy.settle.Settle.TheVariants.{Carrying, Looking}
use Rattle.papaya_call.specs.Step.{IsValidChunk}
use Rattle.papaya_call.specs.declared.chain.ask.Answer.{Answer}
use Rattle.papaya_map_book.specs.declared.keyed.Keyed as keyed
use Rattle.papaya_map_book.specs.declared.rule.entry.Event.{Event}
use Rattle.papaya_map_book.specs.declared.window.Window.{Window}
use Rattle.papaya_map_book.specs.Parts.{begun_of}
use Rattle.papaya_map_book.specs.Windows.{IsTable}
use Rattle.papaya_map_change.specs.declared.copier.Copier.{Copier}
use Rattle.papaya_map_change.specs.declared.settling.Halt.{Halt}
use Rattle.papaya_map_change.specs.declared.settling.MoveStep.{MoveStep}
use Rattle.papaya_map_change.specs.declared.settling.MoveStep.TheVariants.{Left, Next}
use Rattle.papaya_map_change.specs.declared.settling.Moving.{Moving}
use Rattle.papaya_map_change.specs.declared.settling.Site.{Site}
use Rattle.papaya_map_change.specs.Seeking.{left_at}
use Rattle.papaya_map_change.specs.Settling.{Stop, at_slot}
use Rattle.papaya_map_change.specs.Settling as settling

-- The copy is about to look at the slot's word, by the log `seen`.
abbrev pub stop_seen : {K V S H : Type 0} → List (Event K V S) → Site K V S H → Copier K V S H
    → Stop K V S H
stop_seen seen site h = record {
  copying = at_slot site.aim site.chunk Looking;
  log = seen;
  loaded = h;
}

-- The steps at a place to which the slot's pair may be moved: `looking` loads its hint, `reading`
-- loads its word, and `placing` puts the pair there.
abbrev pub looking : {K V S H : Type 0} → Moving K V S H → Settle
looking m = Carrying m.marked (Looking_at m.hash m.place)

abbrev pub reading : {K V S H : Type 0} → Moving K V S H → Settle
reading m = Carrying m.marked (Reading m.hash m.place)

abbrev pub placing : {K V S H : Type 0} → Moving K V S H → Settle
placing m = Carrying m.marked (Placing m.hash m.place)

module _ {K V S H : Type 0} {d : keyed.Ghosts S K H} where
  abbrev pub CanStep : Window K V S H d → ResizeMode → Stop K V S H → Type 0
  CanStep w mode s = settling.CanStep d.keys.eq d.keys.hash (begun_of w.book.now.parts)
      w.book.now.begun.book mode s

  -- The copy at this point, by what has been observed.
  abbrev pub stop_in : Window K V S H d → Copying → Copier K V S H → Stop K V S H
  stop_in w copying h = record { copying = copying; log = w.sight.log; loaded = h }

  -- The copy of the site's slot at this step, by what has been observed.
  abbrev pub stop_at : Window K V S H d → Site K V S H → Settle → Copier K V S H → Stop K V S H
  stop_at w site settle h = stop_in w (at_slot site.aim site.chunk settle) h

  -- The table that is held is that of the chunk that is copied.
  pub record IsPlacedAt (w : Window K V S H d) (site : Site K V S H) : Type 0 where
    pub table : IsTable w site.chunk.cursor.from site.table.now
    pub valid : IsValidChunk site.chunk

  -- The place that is tried for the pair is in the table that is held.
  pub record IsAt (w : Window K V S H d) (m : Moving K V S H) : Type 0 where
    pub within : IsWithin m.place
    pub table : IsTable w m.place.table m.to.now

  abbrev pub CanStepAt : Window K V S H d → Site K V S H → Settle → Copier K V S H → Type 0
  CanStepAt w site settle h = CanStep w site.mode (stop_at w site settle h)

  -- The copy is about to look at the slot's word, by a log that has been observed, and may be led
  -- on from there.
  abbrev pub WaitsAt : Window K V S H d → Site K V S H → Copier K V S H → Type 0
  WaitsAt w site h = (seen : List (Event K V S)) × IsPrefix seen w.sight.log
      × CanStep w site.mode (stop_seen seen site h)

  -- The slot is settled, or its copy stopped.
  abbrev pub LeavesFrom : Stop K V S H → Window K V S H d → Site K V S H → Copier K V S H
      → Option Halt → Type 0
  LeavesFrom s w site h halt = settling.LeavesSlot d.keys.eq d.keys.hash
      (begun_of w.book.now.parts) w.book.now.begun.book site.mode site.aim site.chunk s w.sight.log
      h halt

  abbrev pub Leaves : Window K V S H d → Site K V S H → Settle → Copier K V S H
      → Window K V S H d → Copier K V S H → Option Halt → Type 0
  Leaves w site settle h w' h' halt = LeavesFrom (stop_at w site settle h) w' site h' halt

  abbrev pub StepsTo : Window K V S H d → ResizeMode → Stop K V S H → Stop K V S H → Type 0
  StepsTo w mode s t = settling.StepsTo d.keys.eq d.keys.hash (begun_of w.book.now.parts)
      w.book.now.begun.book mode s t

  -- From this place the search for the pair's new slot goes on to a later one; or the slot is
  -- settled, or its copy stopped.
  abbrev pub ProbesOn : Window K V S H d → Site K V S H → Moving K V S H → Copier K V S H
      → Window K V S H d → Copier K V S H → MoveStep → Type 0
  ProbesOn w site m h w' h' (Next next) = IsAt w' (record m { place = next })
      × StepsTo w' site.mode (stop_at w site (looking m) h)
      (stop_at w' site (looking (record m { place = next })) h') × (left_at next < left_at m.place)
  ProbesOn w site m h w' h' (Left halt) = Leaves w site (looking m) h w' h' halt

  -- Answers led to this point of the copy, and the machine has yet to receive the last one.
  abbrev pub Ends : Window K V S H d → ResizeMode → Copying → Copier K V S H → Window K V S H d
      → Copier K V S H → Copying × Answer → Type 0
  Ends w mode copying h w' h' end = settling.Ends d.keys.eq d.keys.hash
      (begun_of w.book.now.parts) w.book.now.begun.book mode (stop_in w copying h)
      (stop_in w' end.0 h') end.1
