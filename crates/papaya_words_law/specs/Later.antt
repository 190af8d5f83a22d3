-- What no allowed exchange undoes, so that a caller can still use what it has loaded earlier.
use Rattle.std.specs.Prelude.{◌≡◌, ◌⊎◌, ℕ, ◌<◌, ◌≤◌, true, Some}
use Rattle.papaya_words_law.specs.Exchange.{Word, Empty, Closed, Live, Marked, Copied, Buried, Setting, State}
use Rattle.papaya_words_law.specs.View.{look, beyond, foreign, IsPassed, IsFull, HasWord, IsNextPlace, IsReached}
use Rattle.papaya_words_law.specs.Invariant.{named}
use Rattle.papaya_words_law.specs.Copying.{IsTaker, IsTarget, IsCopied, IsSettled}

-- what a word may become: only a pair of the same key takes the place of a pair, so the key of a
-- filled slot never changes
abbrev pub Becomes : {K P : Type 0} → Setting K P → Word P → Word P → Type 0
Becomes g Empty w = Unit {0}
Becomes g Closed w = w ≡ Closed
Becomes g (Live p) Empty = ⊥
Becomes g (Live p) Closed = ⊥
Becomes g (Live p) (Live q) = g.key q ≡ g.key p
Becomes g (Live p) (Marked q) = g.key q ≡ g.key p
Becomes g (Live p) (Copied q) = g.key q ≡ g.key p
Becomes g (Live p) (Buried q) = g.key q ≡ g.key p
Becomes g (Marked p) w = (w ≡ Marked p) ⊎ (w ≡ Copied p)
Becomes g (Copied p) w = w ≡ Copied p
Becomes g (Buried p) w = w ≡ Buried p

-- the word names a pair that has exactly this key
abbrev pub IsOfKey : {K P : Type 0} → Setting K P → Word P → K → Type 0
IsOfKey {P = P} g w k = (q : P) × (named w ≡ Some q) × (g.key q ≡ k)

-- the state s' is later than s
pub record IsLater {K P : Type 0} (g : Setting K P) (s s' : State P) : Type 0 where
  pub was : (t : ℕ) → s.was_root t ≡ true → s'.was_root t ≡ true
  pub next : (t : ℕ) → 0 < s.next t → s'.next t ≡ s.next t
  pub aborted : (t : ℕ) → s.aborted t ≡ true → s'.aborted t ≡ true
  pub done : (t c : ℕ) → s.done t c ≡ true → s'.done t c ≡ true
  pub made : s.made ≤ s'.made
  pub words : (t x : ℕ) → Becomes g (s.slot t x) (s'.slot t x)

-- Each fact that a caller may have learned from its loads holds in s' if it held in s.
pub record IsLasting {K P : Type 0} (g : Setting K P) (s s' : State P) : Type 0 where
  pub passed : (k : K) (t : ℕ) → IsPassed g.places (look g s k) t
      → IsPassed g.places (look g s' k) t
  pub full : (k : K) (t : ℕ) → IsFull g.places (look g s k) t → IsFull g.places (look g s' k) t
  pub has : (k : K) (t : ℕ) → HasWord g.places (look g s k) t → HasWord g.places (look g s' k) t
  pub beyond_at : (k : K) (t j : ℕ) → beyond (look g s k t j) ≡ true
      → beyond (look g s' k t j) ≡ true
  pub foreign_at : (k : K) (t j : ℕ) → foreign (look g s k t j) ≡ true
      → foreign (look g s' k t j) ≡ true
  pub next_place : (k : K) (t x : ℕ) → IsNextPlace g s k beyond t x → IsNextPlace g s' k beyond t x
  pub copy_place : (k : K) (t x : ℕ) → IsNextPlace g s k foreign t x
      → IsNextPlace g s' k foreign t x
  pub reached : (k : K) (t : ℕ) → IsReached g s k t → IsReached g s' k t
  pub taker : (k : K) (t n : ℕ) → IsTaker g s k t n → IsTaker g s' k t n
  pub target : (t n : ℕ) → IsTarget g s t n → IsTarget g s' t n
  pub copied : (n : ℕ) (p : P) → IsCopied g s n p → IsCopied g s' n p
  pub settled : (n t x : ℕ) → IsSettled g s n (s.slot t x) → IsSettled g s' n (s'.slot t x)
