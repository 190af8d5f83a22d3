-- The number of a word has the kind of the word, and the number of its pair.
use Rattle.std.proofs.Common.{◌≡◌, ℕ, ◌%◌, ◌^◌, ◌<◌, Some, refl, sym, ap, ◌∙◌, arith}
use Rattle.papaya_words.specs.Word.{kind_of, kind_of_code, pair_of, filled_word}
use Rattle.papaya_words_law.specs.Exchange.{Word, Empty, Closed, Live, Marked, Copied, Buried, Setting}
use Rattle.papaya_words_law.specs.Invariant.{named}
use Rattle.papaya_words_law.specs.Code.{Coding, IsLawfulCoding, AreAlike, code, kind}

-- the kind's code is the remainder by 1024
filled_kind : (a n : ℕ) → a < 8 → filled_word a n % 1024 ≡ a
filled_kind a n lt = omega (arith, lt)

-- the pair's number is above it
filled_pair : (a n : ℕ) → a < 8 → pair_of (filled_word a n) ≡ n
filled_pair a n lt = omega (arith, lt)

-- such a word fits into 64 bits
filled_fits : (a n : ℕ) → a < 8 → n < 2 ^ 54 → filled_word a n < 2 ^ 64
filled_fits a n lt short = omega (arith, lt, short)

-- a filled word isn't 0
filled_some : (a n : ℕ) → 0 < a → filled_word a n ≡ 0 → ⊥
filled_some a n lt e = omega (arith, lt, e)

module _ {K P : Type 0} (g : Setting K P) (c : Coding K P) where
  -- a number has the kind of its word
  pub code_kind : (w : Word P) → kind_of (code g c w) ≡ kind w
  code_kind Empty = refl
  code_kind Closed = refl
  code_kind (Live p) = ap kind_of_code (filled_kind 1 (c.number p) (omega arith))
  code_kind (Marked p) = ap kind_of_code (filled_kind 2 (c.number p) (omega arith))
  code_kind (Copied p) = ap kind_of_code (filled_kind 3 (c.number p) (omega arith))
  code_kind (Buried p) = ap kind_of_code (filled_kind 4 (c.number p) (omega arith))

  -- only an Empty word is 0
  pub code_empty : (w : Word P) → code g c w ≡ 0 → w ≡ Empty
  code_empty Empty e = refl
  code_empty Closed e = absurd (omega (arith, e))
  code_empty (Live p) e = absurd (filled_some 1 (c.number p) (omega arith) e)
  code_empty (Marked p) e = absurd (filled_some 2 (c.number p) (omega arith) e)
  code_empty (Copied p) e = absurd (filled_some 3 (c.number p) (omega arith) e)
  code_empty (Buried p) e = absurd (filled_some 4 (c.number p) (omega arith) e)

  module _ (law : IsLawfulCoding g c) where
    -- for a filled word
    of_pair : (a : ℕ) (q p : P) → a < 8 → q ≡ p → pair_of (filled_word a (c.number q)) ≡ c.number p
    of_pair a q p lt is = filled_pair a (c.number q) lt ∙ ap c.number is

    -- a number has the pair's number
    pub code_pair : (w : Word P) (p : P) → named w ≡ Some p → pair_of (code g c w) ≡ c.number p
    code_pair Empty p e = absurd cc
    code_pair Closed p e = absurd cc
    code_pair (Live q) p e = of_pair 1 q p (omega arith) cc
    code_pair (Marked q) p e = of_pair 2 q p (omega arith) cc
    code_pair (Copied q) p e = of_pair 3 q p (omega arith) cc
    code_pair (Buried q) p e = of_pair 4 q p (omega arith) cc

    -- it fits into 64 bits if the pair's number fits into 54
    pub code_fits : (w : Word P) → ((p : P) → named w ≡ Some p → c.number p < 2 ^ 54) → code g c w < 2 ^ 64
    code_fits Empty short = omega arith
    code_fits Closed short = omega arith
    code_fits (Live p) short = filled_fits 1 (c.number p) (omega arith) (short p refl)
    code_fits (Marked p) short = filled_fits 2 (c.number p) (omega arith) (short p refl)
    code_fits (Copied p) short = filled_fits 3 (c.number p) (omega arith) (short p refl)
    code_fits (Buried p) short = filled_fits 4 (c.number p) (omega arith) (short p refl)

    -- two words with one number have the same kind, and pairs with one number
    pub code_alike : (v w : Word P) → code g c v ≡ code g c w → AreAlike g c v w
    code_alike v w e = record {
      kind_is = sym (code_kind v) ∙ ap kind_of e ∙ code_kind w;
      pair_is = λ p q a b. sym (code_pair v p a) ∙ ap pair_of e ∙ code_pair w q b;
    }
