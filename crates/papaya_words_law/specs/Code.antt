-- Words as numbers of 64 bits: the number in memory for each word of the law.
use Rattle.std.specs.Prelude.{◌≡◌, ℕ, ◌<◌, ◌^◌, true, Some}
use Rattle.papaya_words.specs.declared.word.Kind.{Kind}
use Rattle.papaya_words.specs.declared.word.Kind.TheVariants as kinds
use Rattle.papaya_words.specs.Word.{live_word, marked_word, copied_word, buried_word}
use Rattle.papaya_words_law.specs.Exchange.{Word, Empty, Closed, Live, Marked, Copied, Buried, Setting}
use Rattle.papaya_words_law.specs.Exchange.{Exchange, Claim, Replace, Bury, Mark, Close, Place, Finish}
use Rattle.papaya_words_law.specs.Invariant.{named}
use Rattle.papaya_words_law.specs.Meaning.{IsLawful}
use Rattle.papaya_words.specs.Probe.{place}

-- How words name pairs: by a number. Nothing requires that a number names only one pair.
pub record Coding (K P : Type 0) : Type 0 where
  pub number : P → ℕ
  pub hash : K → ℕ

-- Equal keys have equal hashes, of 64 bits.
pub record IsLawfulCoding {K P : Type 0} (g : Setting K P) (c : Coding K P) : Type 0 where
  pub respects : (k l : K) → g.same k l ≡ true → c.hash k ≡ c.hash l
  pub hash_fits : (k : K) → c.hash k < 2 ^ 64

-- The setting is lawful, and a key's places are those of a probe sequence that begins at its hash.
pub record IsHashed {K P : Type 0} (g : Setting K P) (c : Coding K P) : Type 0 where
  pub lawful : IsLawful g
  pub coding : IsLawfulCoding g c
  pub places : (k : K) (t j : ℕ) → g.place k t j ≡ place (c.hash k) (g.size t) j

-- the number in memory for a word
abbrev pub code : {K P : Type 0} → Setting K P → Coding K P → Word P → ℕ
code g c Empty = 0
code g c Closed = 5
code g c (Live p) = live_word (c.number p)
code g c (Marked p) = marked_word (c.number p)
code g c (Copied p) = copied_word (c.number p)
code g c (Buried p) = buried_word (c.number p)

-- the kind of a word
abbrev pub kind : {P : Type 0} → Word P → Kind
kind Empty = kinds.Empty
kind Closed = kinds.Closed
kind (Live p) = kinds.Live
kind (Marked p) = kinds.Marked
kind (Copied p) = kinds.Copied
kind (Buried p) = kinds.Buried

-- Two words are of the same kind, and the pairs that they name have the same number.
pub record AreAlike {K P : Type 0} (g : Setting K P) (c : Coding K P) (v w : Word P) : Type 0 where
  pub kind_is : kind v ≡ kind w
  pub pair_is : (p q : P) → named v ≡ Some p → named w ≡ Some q → c.number p ≡ c.number q

-- the exchange changes slot y of table u
abbrev pub ChangesSlot : {P : Type 0} → Exchange P → ℕ → ℕ → Type 0
ChangesSlot (Claim t x p) u y = (t ≡ u) × (x ≡ y)
ChangesSlot (Replace t x p q) u y = (t ≡ u) × (x ≡ y)
ChangesSlot (Bury t x p) u y = (t ≡ u) × (x ≡ y)
ChangesSlot (Mark t x p) u y = (t ≡ u) × (x ≡ y)
ChangesSlot (Close t x) u y = (t ≡ u) × (x ≡ y)
ChangesSlot (Place n x p) u y = (n ≡ u) × (x ≡ y)
ChangesSlot (Finish t x p) u y = (t ≡ u) × (x ≡ y)
ChangesSlot _ u y = ⊥

-- the word w is of this kind
abbrev pub IsOfKind : {P : Type 0} → Kind → Word P → Type 0
IsOfKind kinds.Empty w = w ≡ Empty
IsOfKind kinds.Closed w = w ≡ Closed
IsOfKind {P = P} kinds.Live w = (p : P) × (w ≡ Live p)
IsOfKind {P = P} kinds.Marked w = (p : P) × (w ≡ Marked p)
IsOfKind {P = P} kinds.Copied w = (p : P) × (w ≡ Copied p)
IsOfKind {P = P} kinds.Buried w = (p : P) × (w ≡ Buried p)
