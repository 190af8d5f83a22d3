-- The book's rule for a number with the hints of eight slots, a byte each. The number is beside the
-- word of the first slot. A hint of a slot stays one for good, so the rule states that each byte
-- was one at some point.
use Rattle.std.specs.Prelude.{◌≡◌, ◌⊎◌, ℕ, ◌+◌, ◌*◌, ◌/◌, ◌%◌, ◌^◌, ◌<◌, Bool, Some, List}
use mathlib.Core.List.{IsPrefix}
use Rattle.papaya_call.specs.declared.ask.At.TheVariants.{Slot}
use Rattle.papaya_words_law.specs.Hints.{IsHint}
use Rattle.papaya_map_book.specs.declared.rule.entry.Begun.{Begun}
use Rattle.papaya_map_book.specs.declared.rule.entry.Event.{Event}
use Rattle.papaya_map_book.specs.Logs.{coding_of, key_at, setting_of, state_of, steps_of}
use Rattle.papaya_map_book.specs.Rule.{IsLawfulLog}

-- A byte of a number, from the lowest on.
abbrev pub byte_of : (i n : ℕ) → ℕ
byte_of i n = n / 2 ^ (i * 8) % 256

module _ {K V S : Type 0} (eq : K → K → Bool) (hash : S → K → ℕ) where
  -- After the log, `hint` may be the hint of slot `x` of table `t`.
  pub record IsSlotHint (b : Begun K V S) (t x hint : ℕ) (log : List (Event K V S)) : Type 0 where
    pub lawful : IsLawfulLog eq hash b log
    pub is : IsHint (setting_of eq (hash b.hasher) b.mode b.limit log) (coding_of (hash b.hasher))
        (state_of log) t x hint

  -- After some prefix of the log, `hint` could be the hint of the slot whose word has this key.
  pub record WasHint (key hint : ℕ) (log : List (Event K V S)) : Type 0 where
    pub begun : Begun K V S
    pub before : List (Event K V S)
    pub since : IsPrefix before log
    pub table : ℕ
    pub place : ℕ
    pub key_is : key_at (steps_of before) (Slot table place) ≡ Some key
    pub is : IsSlotHint begun table place hint before

  -- The rule for the hint of the slot whose word has this key: it is 0 until one is written.
  abbrev pub IsHinted : (key hint : ℕ) → List (Event K V S) → Type 0
  IsHinted key hint log = (hint ≡ 0) ⊎ WasHint key hint log

  -- The rule for the number with the hints of eight slots, whose words have the keys from `key` on.
  abbrev pub AreHinted : (key hints : ℕ) → List (Event K V S) → Type 0
  AreHinted key hints log = (i : ℕ) → i < 8 → IsHinted (key + i) (byte_of i hints) log
