-- A lemma on the resize mode that a book was opened with.
use Rattle.std.specs.Coded.{Unit-prop, le_prop}
use Rattle.papaya_words.specs.Mode.{IsChunked}
use Rattle.papaya_words.specs.declared.resize_mode.ResizeMode.{ResizeMode}
use Rattle.papaya_words.specs.declared.resize_mode.ResizeMode.TheVariants.{Incremental, Blocking}

-- `IsChunked` has at most one proof.
pub IsChunked-prop : (mode : ResizeMode) → IsProp (IsChunked mode)
IsChunked-prop (Incremental chunk) = le_prop
IsChunked-prop Blocking = Unit-prop
