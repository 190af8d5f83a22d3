-- The meaning of the program's arguments.
use Rattle.std.specs.Prelude.{◌≡◌, ℕ, List, [], ◌∷◌, ◌++◌, codes}
use Rattle.papaya_words.specs.declared.resize_mode.ResizeMode.{ResizeMode}
use Rattle.papaya_words.specs.declared.resize_mode.ResizeMode.TheVariants.{Incremental, Blocking}
use Rattle.papaya_run_lines.specs.declared.arguments.Arguments.{Arguments}
use Rattle.papaya_run_lines.specs.declared.arguments.Backend.{Backend}
use Rattle.papaya_run_lines.specs.declared.arguments.Backend.TheVariants as backend
use Rattle.papaya_run_lines.specs.declared.arguments.Hashing.{Hashing}
use Rattle.papaya_run_lines.specs.declared.arguments.Hashing.TheVariants as hashing
use Rattle.papaya_run_lines.specs.Numbers.{WritesNumber}

-- The word for a backend.
abbrev pub backend_word : Backend → List ℕ
backend_word backend.Core = codes "core"
backend_word backend.Seq = codes "seq"
backend_word backend.Shared = codes "shared"

-- The word for a way to hash.
abbrev pub hashing_word : Hashing → List ℕ
hashing_word hashing.Identity = codes "id"
hashing_word hashing.Zero = codes "zero"

-- The word denotes the resize mode: `block`, or `inc:` and the length of a chunk.
abbrev pub WritesMode : List ℕ → ResizeMode → Type 0
WritesMode word Blocking = word ≡ codes "block"
WritesMode word (Incremental n) = (chunk : List ℕ) × WritesNumber chunk n
    × (word ≡ codes "inc:" ++ chunk)

-- The arguments are three words: a backend, a mode and a way to hash.
abbrev pub WritesArguments : List (List ℕ) → Arguments → Type 0
WritesArguments words a = (mode : List ℕ) × WritesMode mode a.mode
    × (words ≡ backend_word a.backend ∷ mode ∷ hashing_word a.hashing ∷ [])
