-- What a hint says about the word of its slot: nothing, the hash byte of the key whose pair is
-- there, or that the slot is Closed. A loaded hint may be old, but what it says stays true
-- (`hints`).
use Rattle.std.specs.Prelude.{◌≡◌, ◌⊎◌, ℕ}
use Rattle.papaya_words.specs.Word.{hint_of, shut_hint}
use Rattle.papaya_words_law.specs.Exchange.{Word, Empty, Closed, Live, Marked, Copied, Buried, Setting, State}
use Rattle.papaya_words_law.specs.Code.{Coding}

-- the hint of a slot that the pair p fills, whatever the kind of its word is
abbrev pub hint_of_pair : {K P : Type 0} → Setting K P → Coding K P → P → ℕ
hint_of_pair g c p = hint_of (c.hash (g.key p))

-- n may be the hint of a slot that has this word
abbrev pub IsHintOf : {K P : Type 0} → Setting K P → Coding K P → Word P → ℕ → Type 0
IsHintOf g c Empty n = n ≡ 0
IsHintOf g c Closed n = (n ≡ 0) ⊎ (n ≡ shut_hint)
IsHintOf g c (Live p) n = (n ≡ 0) ⊎ (n ≡ hint_of_pair g c p)
IsHintOf g c (Marked p) n = (n ≡ 0) ⊎ (n ≡ hint_of_pair g c p)
IsHintOf g c (Copied p) n = (n ≡ 0) ⊎ (n ≡ hint_of_pair g c p)
IsHintOf g c (Buried p) n = (n ≡ 0) ⊎ (n ≡ hint_of_pair g c p)

-- n may be the hint of slot x of table t
abbrev pub IsHint : {K P : Type 0} → Setting K P → Coding K P → State P → ℕ → ℕ → ℕ → Type 0
IsHint g c s t x n = IsHintOf g c (s.slot t x) n
