-- The meaning of the lines of a script.
use Rattle.std.specs.Prelude.{◌≡◌, ℕ, ◌<◌, true, false, List, [], ◌∷◌, codes}
use Rattle.papaya_call.specs.declared.call.Call.{Call}
use Rattle.papaya_call.specs.declared.call.Call.TheVariants.{Get, Insert, RemoveIf, Compute, Clear, Walk}
use Rattle.papaya_core_timeline.specs.declared.trace.Turn.{Turn}
use Rattle.papaya_core_timeline.specs.declared.trace.Turn.TheVariants.{Begin, Step, Finish}
use Rattle.papaya_run_lines.specs.Commands.{WritesCommand, spaced}
use Rattle.papaya_run_lines.specs.Numbers.{WritesNumber}
use Rattle.papaya_run_lines.specs.declared.closures.Answering.{Answering}
use Rattle.papaya_run_lines.specs.declared.commands.Command.TheVariants as command
use Rattle.papaya_run_lines.specs.declared.turns.Verb.{Verb}
use Rattle.papaya_run_lines.specs.declared.turns.Verb.TheVariants as verb

-- The text denotes a caller by its number, from 0 to 63.
abbrev pub WritesCaller : List ℕ → ℕ → Type 0
WritesCaller text caller = WritesNumber text caller × (caller < 64)

-- The text is the command for this call. No text denotes a call that has no command.
abbrev pub WritesCall : List ℕ → Call ℕ ℕ Answering → Type 0
WritesCall text (Get k) = WritesCommand text (command.Get k)
WritesCall text (Insert k v) = WritesCommand text (command.Insert k v)
WritesCall text (RemoveIf k agrees) = WritesCommand text (command.Remove k)
WritesCall text (Compute k answers) = WritesCommand text (command.Update k)
WritesCall text Clear = WritesCommand text command.Clear
WritesCall text Walk = WritesCommand text command.Walk
WritesCall text _ = ⊥

-- The word for a verb.
abbrev pub verb_word : Verb → List ℕ
verb_word verb.Begin = codes "begin"
verb_word verb.Step = codes "step"
verb_word verb.Refuse = codes "refuse"
verb_word verb.Finish = codes "finish"

-- The line is this word, one space, and a caller.
abbrev pub WritesVerb : List ℕ → List ℕ → ℕ → Type 0
WritesVerb line word c = (caller : List ℕ) × WritesCaller caller c
    × (line ≡ spaced (word ∷ caller ∷ []))

-- The line requests the turn.
abbrev pub WritesTurn : List ℕ → Turn ℕ ℕ Answering → Type 0
WritesTurn line (Begin c what) = (caller call : List ℕ) × WritesCaller caller c
    × WritesCall call what × (line ≡ spaced (codes "begin" ∷ caller ∷ call ∷ []))
WritesTurn line (Step c false) = WritesVerb line (codes "step") c
WritesTurn line (Step c true) = WritesVerb line (codes "refuse") c
WritesTurn line (Finish c n) = WritesVerb line (codes "finish") c × (n ≡ 1000000)
