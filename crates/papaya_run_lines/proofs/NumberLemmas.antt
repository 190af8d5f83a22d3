-- A number's text is UTF-8.
use Rattle.std.proofs.Common.{ℕ, List}
use Rattle.std.specs.Str.{IsUtf8}
use Rattle.std.proofs.lemmas.Fmt.{IsAscii-from_digits}
use Rattle.std.proofs.lemmas.Str.{IsUtf8-from_ascii}
use Rattle.papaya_run_lines.specs.Numbers.{WritesNumber}

-- digits are ASCII
pub number_utf8 : (text : List ℕ) (n : ℕ) → WritesNumber text n → IsUtf8 text
number_utf8 text n w = IsUtf8-from_ascii text (IsAscii-from_digits text w.0.1)
