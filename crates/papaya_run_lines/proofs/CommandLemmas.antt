-- A text denotes at most one command.
use Rattle.std.proofs.Common.{◌≡◌, ◌≢◌, ℕ, List, ◌∷◌, ◌++◌, sym, ◌∙◌, ap, subst, arith, Contains, codes, inl, inr}
use Rattle.std.specs.Prelude.{◌⊎◌, Option, None, Some, MatchOption}
use Rattle.papaya_run_lines.specs.Commands.{Parts, WritesBare, WritesCommand, keyed_word}
use Rattle.papaya_run_lines.specs.Numbers.{WritesNumber}
use Rattle.papaya_run_lines.specs.declared.commands.Command.{Command}
use Rattle.papaya_run_lines.specs.declared.commands.Command.TheVariants.{Insert, Get, Remove, Update, Len, Slots, Clear, Walk}
use Rattle.papaya_run_lines.specs.declared.commands.KeyedCommand.{KeyedCommand}
use Rattle.papaya_run_lines.specs.declared.commands.KeyedCommand.TheVariants as keyed
use Rattle.papaya_run_lines.proofs.PartLemmas.{above_no_space, cut_once, first, has_cut, number_no_space}

-- the words of commands have no space
g_no_space : ¬ (Contains (codes "g") 32)
g_no_space = above_no_space (codes "g") (omega arith, tt)

i_no_space : ¬ (Contains (codes "i") 32)
i_no_space = above_no_space (codes "i") (omega arith, tt)

r_no_space : ¬ (Contains (codes "r") 32)
r_no_space = above_no_space (codes "r") (omega arith, tt)

u_no_space : ¬ (Contains (codes "u") 32)
u_no_space = above_no_space (codes "u") (omega arith, tt)

len_no_space : ¬ (Contains (codes "len") 32)
len_no_space = above_no_space (codes "len") (omega arith, (omega arith, (omega arith, tt)))

slots_no_space : ¬ (Contains (codes "slots") 32)
slots_no_space = above_no_space (codes "slots") (omega arith, (omega arith, (omega arith, (omega arith, (omega arith, tt)))))

clear_no_space : ¬ (Contains (codes "clear") 32)
clear_no_space = above_no_space (codes "clear") (omega arith, (omega arith, (omega arith, (omega arith, (omega arith, tt)))))

walk_no_space : ¬ (Contains (codes "walk") 32)
walk_no_space = above_no_space (codes "walk") (omega arith, (omega arith, (omega arith, (omega arith, tt))))

-- the parts of a command's text
abbrev CommandParts : List ℕ → List ℕ → Command → Type 0
CommandParts name rest (Insert k v) = (codes "i" ≡ name) × (key value : List ℕ) × WritesNumber key k × WritesNumber value v × (rest ≡ key ++ 32 ∷ value)
CommandParts name rest (Get k) = (codes "g" ≡ name) × WritesNumber rest k
CommandParts name rest (Remove k) = (codes "r" ≡ name) × WritesNumber rest k
CommandParts name rest (Update k) = (codes "u" ≡ name) × WritesNumber rest k
CommandParts name rest Len = ⊥
CommandParts name rest Slots = ⊥
CommandParts name rest Clear = ⊥
CommandParts name rest Walk = ⊥

-- a word without a space has no two parts
no_parts : (text word name rest : List ℕ) → ¬ (Contains word 32) → Parts text name rest → text ≡ word → ⊥
no_parts text word name rest none parts e = none (has_cut word name rest (sym e ∙ parts.0))

-- a word and a number
keyed_parts : (text word name rest : List ℕ) (k : ℕ) → ¬ (Contains word 32) → Parts text name rest → (key : List ℕ) × WritesNumber key k
    × (text ≡ word ++ 32 ∷ key) → (word ≡ name) × WritesNumber rest k
keyed_parts text word name rest k none parts (key, w, e) =
    let cut : (word ≡ name) × (key ≡ rest) = cut_once word key name rest (sym e ∙ parts.0) none parts.1 in
    let P : List ℕ → Type 0 = λ t. WritesNumber t k in
    (cut.0, subst P cut.1 w)

command_parts : (text name rest : List ℕ) (command : Command) → Parts text name rest → WritesCommand text command → CommandParts name rest command
command_parts text name rest (Insert k v) parts (key, value, w, u, e) =
    let cut : (codes "i" ≡ name) × (key ++ 32 ∷ value ≡ rest) = cut_once (codes "i") (key ++ 32 ∷ value) name rest (sym e ∙ parts.0) i_no_space parts.1 in
    (cut.0, key, value, w, u, sym cut.1)
command_parts text name rest (Get k) parts w = keyed_parts text (codes "g") name rest k g_no_space parts w
command_parts text name rest (Remove k) parts w = keyed_parts text (codes "r") name rest k r_no_space parts w
command_parts text name rest (Update k) parts w = keyed_parts text (codes "u") name rest k u_no_space parts w
command_parts text name rest Len parts w = no_parts text (codes "len") name rest len_no_space parts w
command_parts text name rest Slots parts w = no_parts text (codes "slots") name rest slots_no_space parts w
command_parts text name rest Clear parts w = no_parts text (codes "clear") name rest clear_no_space parts w
command_parts text name rest Walk parts w = no_parts text (codes "walk") name rest walk_no_space parts w

-- a text without a space that is no command's word is no command
no_bare : (text : List ℕ) → ¬ (Contains text 32) → ((command : Command) → ¬ (WritesBare text command)) → (command : Command) → ¬ (WritesCommand text command)
no_bare text none other (Insert k v) (key, value, w, u, e) = none (has_cut text (codes "i") (key ++ 32 ∷ value) e)
no_bare text none other (Get k) (key, w, e) = none (has_cut text (codes "g") key e)
no_bare text none other (Remove k) (key, w, e) = none (has_cut text (codes "r") key e)
no_bare text none other (Update k) (key, w, e) = none (has_cut text (codes "u") key e)
no_bare text none other Len w = other Len w
no_bare text none other Slots w = other Slots w
no_bare text none other Clear w = other Clear w
no_bare text none other Walk w = other Walk w

-- a command's word is the command
bare_command : (text : List ℕ) (command : Command) → WritesBare text command → WritesCommand text command
bare_command text (Insert k v) w = absurd w
bare_command text (Get k) w = absurd w
bare_command text (Remove k) w = absurd w
bare_command text (Update k) w = absurd w
bare_command text Len w = w
bare_command text Slots w = w
bare_command text Clear w = w
bare_command text Walk w = w

-- the result for a text without a space as a word is its result as a command
pub bare_is : (text : List ℕ) (r : Option Command) → ¬ (Contains text 32)
    → MatchOption r ((command : Command) → ¬ (WritesBare text command)) (WritesBare text)
    → MatchOption r ((command : Command) → ¬ (WritesCommand text command)) (WritesCommand text)
bare_is text None none other = no_bare text none other
bare_is text (Some command) none w = bare_command text command w

-- a command of another name is none
pub no_name : (text name rest : List ℕ) → Parts text name rest → ((called : KeyedCommand) → name ≢ keyed_word called) → (command : Command)
    → ¬ (WritesCommand text command)
no_name text name rest parts none (Insert k v) w = none keyed.Insert (sym (command_parts text name rest (Insert k v) parts w).0)
no_name text name rest parts none (Get k) w = none keyed.Get (sym (command_parts text name rest (Get k) parts w).0)
no_name text name rest parts none (Remove k) w = none keyed.Remove (sym (command_parts text name rest (Remove k) parts w).0)
no_name text name rest parts none (Update k) w = none keyed.Update (sym (command_parts text name rest (Update k) parts w).0)
no_name text name rest parts none Len w = command_parts text name rest Len parts w
no_name text name rest parts none Slots w = command_parts text name rest Slots parts w
no_name text name rest parts none Clear w = command_parts text name rest Clear parts w
no_name text name rest parts none Walk w = command_parts text name rest Walk parts w

-- the text behind the name of an insertion
inserts : (text name rest : List ℕ) → Parts text name rest → name ≡ codes "i" → (command : Command) → WritesCommand text command
    → ((k v : ℕ) (key value : List ℕ) → WritesNumber key k → WritesNumber value v → rest ≡ key ++ 32 ∷ value → ⊥) → ⊥
inserts text name rest parts named (Insert k v) w then =
    let p : CommandParts name rest (Insert k v) = command_parts text name rest (Insert k v) parts w in
    then k v p.1 p.2 p.3 p.4 p.5
inserts text name rest parts named (Get k) w then = let h : 103 ≡ 105 = ap first ((command_parts text name rest (Get k) parts w).0 ∙ named) in omega (arith, h)
inserts text name rest parts named (Remove k) w then = let h : 114 ≡ 105 = ap first ((command_parts text name rest (Remove k) parts w).0 ∙ named) in
    omega (arith, h)
inserts text name rest parts named (Update k) w then = let h : 117 ≡ 105 = ap first ((command_parts text name rest (Update k) parts w).0 ∙ named) in
    omega (arith, h)
inserts text name rest parts named Len w then = command_parts text name rest Len parts w
inserts text name rest parts named Slots w then = command_parts text name rest Slots parts w
inserts text name rest parts named Clear w then = command_parts text name rest Clear parts w
inserts text name rest parts named Walk w then = command_parts text name rest Walk parts w

-- an insertion with no space behind its key
pub no_value : (text name rest : List ℕ) → Parts text name rest → name ≡ codes "i" → ¬ (Contains rest 32) → (command : Command) → ¬ (WritesCommand text command)
no_value text name rest parts named none command w = inserts text name rest parts named command w (λ k v key value u s e. none (has_cut rest key value e))

-- an insertion whose key or value is no number
pub no_number : (text name rest key value : List ℕ) → Parts text name rest → name ≡ codes "i" → Parts rest key value
    → (((n : ℕ) → ¬ (WritesNumber key n)) ⊎ ((n : ℕ) → ¬ (WritesNumber value n))) → (command : Command) → ¬ (WritesCommand text command)
no_number text name rest key value parts named split none command w = inserts text name rest parts named command w (λ k v own other u s e.
    let cut : (own ≡ key) × (other ≡ value) = cut_once own other key value (sym e ∙ split.0) (number_no_space own k u) split.1 in
    let P : List ℕ → Type 0 = λ t. WritesNumber t k in
    let R : List ℕ → Type 0 = λ t. WritesNumber t v in
    elim none [ inl h ↦ h k (subst P cut.0 u) | inr h ↦ h v (subst R cut.1 s) ])

-- the meaning of a refusal, for a result that is `None`
pub none_command : (text : List ℕ) (r : Option Command) → r ≡ None → ((command : Command) → ¬ (WritesCommand text command))
    → MatchOption r ((command : Command) → ¬ (WritesCommand text command)) (WritesCommand text)
none_command text r e h = let P : Option Command
    → Type 0 = λ o. MatchOption o ((command : Command) → ¬ (WritesCommand text command)) (WritesCommand text) in subst P (sym e) h
