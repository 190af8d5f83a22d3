-- The word by which a pair is put into a table.
use Rattle.std.proofs.Common.{◌≡◌, ℕ, arith}
use Rattle.papaya_words.specs.Word.{live_word, pair_of}
use Rattle.papaya_words.proofs.WordLemmas.{pair_of-filled_word}

-- it has the pair's number
pub pair_of-live_word : (n : ℕ) → pair_of (live_word n) ≡ n
pair_of-live_word n = pair_of-filled_word 1 n (omega arith)
