-- The record that a script keeps of its lines.
use Rattle.std.specs.Prelude.{◌≡◌, ◌≢◌, ℕ, ◌+◌, List, [], ◌∷◌, ◌++◌, IsSome, Option, None, Some, ◌⊎◌}
use Rattle.papaya_core_timeline.specs.declared.trace.Turn.{Turn}
use Rattle.papaya_core_timeline.specs.declared.trace.Turn.TheVariants.{Begin, Step, Finish}
use Rattle.papaya_run_lines.specs.declared.closures.Answering.{Answering}
use Rattle.papaya_call.specs.declared.call.Call.{Call}
use Rattle.papaya_call.specs.declared.call.Call.TheVariants.{Compute, Walk}
use Rattle.papaya_run_lines.specs.declared.script.Line.{Line}
use Rattle.papaya_run_lines.specs.declared.script.LinePart.{LinePart}
use Rattle.papaya_run_lines.specs.declared.script.LinePart.TheVariants as part
use Rattle.papaya_run_lines.specs.declared.script.Script.{Script}
use Rattle.papaya_run_lines.specs.Turns.{WritesTurn}

-- The kind of a line that begins this call.
abbrev pub part_of : Call ℕ ℕ Answering → LinePart
part_of (Compute k answers) = part.Update
part_of Walk = part.Walk
part_of _ = part.Call

-- The record of the line of this number, which requests the turn.
abbrev pub line_of : ℕ → Turn ℕ ℕ Answering → Line
line_of number (Begin c what) = record { number = number; caller = c; part = part_of what }
line_of number (Step c refused) = record { number = number; caller = c; part = part.Step }
line_of number (Finish c most) = record { number = number; caller = c; part = part.Finish }

-- The line requests no turn.
abbrev pub AsksNone : List ℕ → Type 0
AsksNone line = (turn : Turn ℕ ℕ Answering) → ¬ (WritesTurn line turn)

-- The line requests the turn, which is now the script's last.
abbrev pub AddsTurn : Script → ℕ → List ℕ → Script → Turn ℕ ℕ Answering → Type 0
AddsTurn old number line new turn = WritesTurn line turn
    × (new.turns.items ≡ old.turns.items ++ turn ∷ [])
    × (new.lines.items ≡ old.lines.items ++ line_of number turn ∷ [])
    × (new.bad_line ≡ old.bad_line)

-- The line requests no turn, and the script records its number.
abbrev pub NotesBad : Script → ℕ → List ℕ → Script → Type 0
NotesBad old number line new = AsksNone line
    × (new.turns.items ≡ old.turns.items) × (new.lines.items ≡ old.lines.items)
    × (new.bad_line ≡ Some number)

-- The line of this number, which is not empty, is added to the script.
abbrev pub AddsLine : Script → ℕ → List ℕ → Script → Type 0
AddsLine old number line new = ((turn : Turn ℕ ℕ Answering) × AddsTurn old number line new turn)
    ⊎ NotesBad old number line new

-- The line of this number is passed to the script, which passes over an empty line and any line
-- after a bad one.
abbrev pub Adds : Script → ℕ → List ℕ → Script → Type 0
Adds old number line new = ((IsSome old.bad_line ⊎ (line ≡ [])) × (new ≡ old))
    ⊎ ((old.bad_line ≡ None) × (line ≢ []) × AddsLine old number line new)

-- The script of these lines, the first of which has this number: the turns that they request, up to
-- the first line that is not empty and requests none; the line of each turn; and the number of that
-- bad line, if there is one.
abbrev pub IsScript : List (List ℕ) → ℕ → List (Turn ℕ ℕ Answering) → List Line → Option ℕ → Type 0
IsScript [] number turns rows bad = (turns ≡ []) × (rows ≡ []) × (bad ≡ None)
IsScript ([] ∷ lines) number turns rows bad = IsScript lines (number + 1) turns rows bad
IsScript ((byte ∷ bytes) ∷ lines) number turns rows bad =
    ((turn : Turn ℕ ℕ Answering) × (turns' : List (Turn ℕ ℕ Answering)) × (rows' : List Line)
    × WritesTurn (byte ∷ bytes) turn × (turns ≡ turn ∷ turns')
    × (rows ≡ line_of number turn ∷ rows') × IsScript lines (number + 1) turns' rows' bad)
    ⊎ (AsksNone (byte ∷ bytes) × (turns ≡ []) × (rows ≡ []) × (bad ≡ Some number))
