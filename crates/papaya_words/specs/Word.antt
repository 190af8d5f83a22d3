-- The words of slots: what they mean, and how they change.
use Rattle.std.specs.Prelude.{◌≡◌, ℕ, ◌+◌, ◌*◌, ◌/◌, ◌%◌, ◌^◌, Bool, ◌==◌, ◌||◌, if◌then◌else◌}
use Rattle.papaya_words.specs.declared.word.Kind.{Kind}
use Rattle.papaya_words.specs.declared.word.Kind.TheVariants.{Empty, Live, Marked, Copied, Buried, Closed}

-- the kind that has this code; 6 and 7 occur in no table
abbrev pub kind_of_code : ℕ → Kind
kind_of_code n =
    if n == 0 then Empty else if n == 1 then Live else if n == 2 then Marked else if n == 3
    then Copied
    else if n == 4 then Buried else Closed

-- the kind of a word, from bits 0 to 9, of which 3 to 9 are zero
abbrev pub kind_of : ℕ → Kind
kind_of w = kind_of_code (w % 1024)

-- the pair's number, from bit 10 on
abbrev pub pair_of : ℕ → ℕ
pair_of w = w / 1024

-- the word of a filled slot, from the code of its kind and the pair's number
abbrev pub filled_word : ℕ → ℕ → ℕ
filled_word code pair = code + 1024 * pair

-- the word of a pair that is in its table
abbrev pub live_word : ℕ → ℕ
live_word pair = filled_word 1 pair

-- the word of a pair that is being copied
abbrev pub marked_word : ℕ → ℕ
marked_word pair = filled_word 2 pair

-- the word of a pair that was copied
abbrev pub copied_word : ℕ → ℕ
copied_word pair = filled_word 3 pair

-- the word of a pair that was removed
abbrev pub buried_word : ℕ → ℕ
buried_word pair = filled_word 4 pair

-- the top seven bits of a hash
abbrev pub top_byte : ℕ → ℕ
top_byte hash = hash / 2 ^ 57

-- the hint of a slot that was filled by a key with this hash
abbrev pub hint_of : ℕ → ℕ
hint_of hash = 1 + top_byte hash

-- whether a slot with this hint may hold a pair of a key with this hash
abbrev pub may_hold : (hint hash : ℕ) → Bool
may_hold hint hash = hint == 0 || hint == hint_of hash

-- the hint of a slot that is Closed
abbrev pub shut_hint : ℕ
shut_hint = 129

-- two words name the same pair
abbrev pub NamesSamePair : ℕ → ℕ → Type 0
NamesSamePair old new = pair_of old ≡ pair_of new

-- a slot word of the first kind may become one of the second kind: what must hold of the two words
abbrev pub MayBecome : Kind → Kind → ℕ → ℕ → Type 0
-- claim, and place
MayBecome Empty Live old new = old ≡ 0
-- close
MayBecome Empty Closed old new = (old ≡ 0) × (new ≡ 5)
-- replace
MayBecome Live Live old new = Unit {0}
-- mark
MayBecome Live Marked old new = NamesSamePair old new
-- bury
MayBecome Live Buried old new = NamesSamePair old new
-- finish
MayBecome Marked Copied old new = NamesSamePair old new
MayBecome _ _ _ _ = ⊥

-- one exchange may replace the slot word `old` by `new`
abbrev pub IsSlotStep : ℕ → ℕ → Type 0
IsSlotStep old new = MayBecome (kind_of old) (kind_of new) old new
