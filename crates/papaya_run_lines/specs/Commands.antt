-- The lines that are one command: a call or a question.
use Rattle.std.specs.Prelude.{◌≡◌, ℕ, List, [], ◌∷◌, ◌++◌, Contains, codes}
use Rattle.papaya_run_lines.specs.Numbers.{WritesNumber}
use Rattle.papaya_run_lines.specs.declared.commands.Command.{Command}
use Rattle.papaya_run_lines.specs.declared.commands.Command.TheVariants.{Insert, Get, Remove, Update, Len, Slots, Clear, Walk}
use Rattle.papaya_run_lines.specs.declared.commands.KeyedCommand.{KeyedCommand}
use Rattle.papaya_run_lines.specs.declared.commands.KeyedCommand.TheVariants as keyed

-- The text is the first word, one space, and the rest.
abbrev pub Parts : List ℕ → List ℕ → List ℕ → Type 0
Parts text first rest = (text ≡ first ++ 32 ∷ rest) × ¬ (Contains first 32)

-- The words, with one space between neighbours.
abbrev pub spaced : List (List ℕ) → List ℕ
spaced [] = []
spaced (word ∷ []) = word
spaced (word ∷ next ∷ words) = word ++ 32 ∷ spaced (next ∷ words)

-- The word for a command that has a key.
abbrev pub keyed_word : KeyedCommand → List ℕ
keyed_word keyed.Get = codes "g"
keyed_word keyed.Insert = codes "i"
keyed_word keyed.Remove = codes "r"
keyed_word keyed.Update = codes "u"

-- The text is the word for this command, which has no key.
abbrev pub WritesBare : List ℕ → Command → Type 0
WritesBare text Len = text ≡ codes "len"
WritesBare text Slots = text ≡ codes "slots"
WritesBare text Clear = text ≡ codes "clear"
WritesBare text Walk = text ≡ codes "walk"
WritesBare text (Insert k v) = ⊥
WritesBare text (Get k) = ⊥
WritesBare text (Remove k) = ⊥
WritesBare text (Update k) = ⊥

-- The text is this word, one space, and a number.
abbrev pub WritesKeyed : List ℕ → List ℕ → ℕ → Type 0
WritesKeyed text word k = (key : List ℕ) × WritesNumber key k × (text ≡ spaced (word ∷ key ∷ []))

-- The text denotes the command: its name, and its key and its value if it has them.
abbrev pub WritesCommand : List ℕ → Command → Type 0
WritesCommand text (Insert k v) = (key value : List ℕ) × WritesNumber key k × WritesNumber value v
    × (text ≡ spaced (codes "i" ∷ key ∷ value ∷ []))
WritesCommand text (Get k) = WritesKeyed text (codes "g") k
WritesCommand text (Remove k) = WritesKeyed text (codes "r") k
WritesCommand text (Update k) = WritesKeyed text (codes "u") k
WritesCommand text Len = text ≡ codes "len"
WritesCommand text Slots = text ≡ codes "slots"
WritesCommand text Clear = text ≡ codes "clear"
WritesCommand text Walk = text ≡ codes "walk"

-- The text denotes no command.
abbrev pub WritesNone : List ℕ → Type 0
WritesNone text = (command : Command) → ¬ (WritesCommand text command)
