-- The row of words that a book opens with. The words of tables are those of the row, and makers of
-- tables take them one after the other.
use Rattle.std.specs.Prelude.{ℕ, ◌^◌}

-- How many words the row has.
unfoldable pub row_len : ℕ
row_len = 2 ^ 62
