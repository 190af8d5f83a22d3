-- Two lists of allowed exchanges, one in each mode, which together have every kind.
use Rattle.std.specs.Prelude.{ℕ, ◌/◌, ◌==◌, true, false, cond, List, [], ◌∷◌, None, Some}
use Rattle.papaya_words_law.specs.Exchange.{Setting, Exchange, Open, Claim, Replace, Bury, Link, Mark, Close, Place, Finish, Advance, Promote, Abort, Take}

-- without blocking: two slots a table; pairs 70 to 79 have the key 7
abbrev pub by_two : Setting ℕ ℕ
by_two = record {
  blocking = false;
  size = λ t. 2;
  chunk_of = λ x. 0;
  most = Some 1;
  chunks = λ t. 1;
  places = λ t. 2;
  place = λ k t j. j;
  key =
      λ p. p / 10;
  same = λ k l. k == l;
}

-- a number is taken for a pair, a pair is replaced, the new one copied to a second table, and
-- removed there
abbrev pub two_tables : List (Exchange ℕ)
two_tables = Take 0 ∷ Open 1 ∷ Claim 1 0 70 ∷ Replace 1 0 70 71 ∷ Link 1 2 ∷ Mark 1 0 71
    ∷ Place 2 0 71 ∷ Finish 1 0 71 ∷ Close 1 1 ∷ Advance 2 0 ∷ Promote 1 2 ∷ Bury 2 0 71 ∷ []

-- with blocking: table 2 has one slot
abbrev pub of_one : Setting ℕ ℕ
of_one = record {
  blocking = true;
  size = λ t. cond (t == 2) 1 2;
  chunk_of = λ x. 0;
  most = None;
  chunks = λ t. 1;
  places = λ t. cond (t == 2) 1 2;
  place = λ k t j. cond (t == 2) 0 j;
  key = λ p. p / 10;
  same = λ k l. k == l;
}

-- two pairs don't fit into table 2, and table 3 takes both
abbrev pub three_tables : List (Exchange ℕ)
three_tables = Open 1 ∷ Claim 1 0 70 ∷ Claim 1 1 80 ∷ Link 1 2 ∷ Mark 1 0 70
    ∷ Mark 1 1 80 ∷ Place 2 0 70 ∷ Abort 2 ∷ Link 2 3 ∷ Place 3 0 70 ∷ Place 3 1 80 ∷ Advance 3 0
    ∷ Promote 1 3 ∷ []
