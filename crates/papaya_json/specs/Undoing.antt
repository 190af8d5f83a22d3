-- When a caller's reading functions undo the writing functions.
use Rattle.std.specs.Prelude.{◌≡◌, ℕ, Bool, true, List, Option, Some, String, string_bytes}
use Rattle.std.specs.declared.alloc.Global.{Global}
use Rattle.serde_json.specs.View.{view}
use Rattle.serde_json.specs.declared.value.Value.{Value}

-- A key that is read from the text of a key is equal to that key.
abbrev pub UndoesTexts : {K : Type 0} → (K → K → Bool) → (K → Option (String Global) → Type 0)
    → (List ℕ → Option K → Type 0) → Type 0
UndoesTexts {K = K} eq text_of key_of = (k read : K) (text : String Global)
    → text_of k (Some text) → key_of (string_bytes text) (Some read) → eq k read ≡ true

-- A value that is read from the data written for a value is equal to that value.
abbrev pub UndoesValues : {V : Type 0} → (V → V → Bool) → (V → Option Value → Type 0)
    → (Value → Option V → Type 0) → Type 0
UndoesValues {V = V} same data_of value_of = (v read : V) (written found : Value)
    → data_of v (Some written) → view found ≡ view written → value_of found (Some read)
    → same v read ≡ true

-- A key that is read from the item of a key is equal to that key.
abbrev pub UndoesItems : {K : Type 0} → (K → K → Bool) → (K → Option Value → Type 0)
    → (Value → Option K → Type 0) → Type 0
UndoesItems {K = K} eq data_of key_of = (k read : K) (item : Value)
    → data_of k (Some item) → key_of item (Some read) → eq k read ≡ true
