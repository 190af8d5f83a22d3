-- A compute whose fast path lost its exchange: its machine starts at the root, and remembers what
-- the closure returned.
use Rattle.std.specs.Prelude.{ℕ, false, Option, List, [], ◌∷◌}
use mathlib.Core.List.{IsPrefix}
use Rattle.papaya_words.specs.declared.resize_mode.ResizeMode.{ResizeMode}
use Rattle.papaya_call.specs.declared.call.Task.TheVariants.{Compute}
use Rattle.papaya_call.specs.declared.answers.Operation.{Operation}
use Rattle.papaya_call.specs.declared.compute.Remembered.{Remembered}
use Rattle.papaya_call.specs.Machine.{started}
use Rattle.papaya_call.specs.declared.chain.machine.Machine.{Machine}
use Rattle.papaya_call.specs.declared.chain.machine.Phase.TheVariants.{Calling}
use Rattle.papaya_map_book.specs.declared.keyed.Keyed as keyed
use Rattle.papaya_map_book.specs.declared.rule.entry.Event.{Event}
use Rattle.papaya_map_book.specs.declared.window.Window.{Window}
use Rattle.papaya_map_book.specs.Logs.{Stored}
use Rattle.papaya_map_book.specs.Parts.{begun_of}
use Rattle.papaya_map_lookup.specs.History.{history_of}
use Rattle.papaya_map_change.specs.ClosureCalls.{WasHeld}
use Rattle.papaya_map_compute.specs.declared.slow_path.Computing.{Computing}
use Rattle.papaya_map_compute.specs.Computing as computing

-- The machine of a compute that starts at the root with what it remembers.
abbrev pub resumed_at : (hash : ℕ) → ResizeMode → (initial : ℕ) → (limit : Option ℕ) → Remembered
    → Machine
resumed_at hash mode initial limit held = record {
  call = record (started Compute hash mode initial limit) { remembered = held };
  number = 0;
  helped = false;
  phase = Calling;
}

module _ {K V S T H : Type 0} {d : keyed.Ghosts S K H} where
  -- A compute is under way whose closure was called once, with `held`, and returned `done`. It may
  -- have begun at any observed log since which, at some point, the map had `held` for the key.
  abbrev pub IsResumed : Window K V S H d → K → Option (Stored K V) → Operation V T
      → Computing K V S T H → Type 0
  IsResumed w key held done x = (begun : List (Event K V S)) → IsPrefix begun w.sight.log
      → WasHeld d.keys.eq (d.keys.eq key) (history_of begun) (history_of w.sight.log) held
      → computing.IsComputing d.keys.eq d.keys.hash (begun_of w.book.now.parts)
      w.book.now.begun.book key begun w.sight.log x ((held, done) ∷ [])
