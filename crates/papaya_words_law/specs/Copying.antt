-- Where copies go, and what a copier knows.
use Rattle.std.specs.Prelude.{◌≡◌, ◌⊎◌, ℕ, suc, ◌<◌, true, false}
use Rattle.papaya_words_law.specs.Exchange.{Word, Empty, Live, Marked, Copied, Setting, State, walk}
use Rattle.papaya_words_law.specs.View.{look, foreign, IsFull, HasWord}

-- Copies of the key's pair from t go to n: n comes some links after t, and the tables in between
-- are aborted or, without blocking, full for the key.
pub record IsTaker {K P : Type 0} (g : Setting K P) (s : State P) (k : K) (t n : ℕ) : Type 0 where
  pub links : ℕ
  pub is : walk s.next (suc links) t ≡ n
  pub made : 0 < n
  pub over : (i : ℕ) → i < links → ((g.blocking ≡ true)
      × (s.aborted (walk s.next (suc i) t) ≡ true))
      ⊎ ((g.blocking ≡ false) × IsFull g.places (look g s k) (walk s.next (suc i) t))

-- n is or was the first table after t that isn't aborted; without blocking, the next one
pub record IsTarget {K P : Type 0} (g : Setting K P) (s : State P) (t n : ℕ) : Type 0 where
  pub links : ℕ
  pub is : walk s.next (suc links) t ≡ n
  pub made : 0 < n
  pub mode : (links ≡ 0) ⊎ (g.blocking ≡ true)
  pub over : (i : ℕ) → i < links → s.aborted (walk s.next (suc i) t) ≡ true

-- n has a word for the chunk of each slot of t
abbrev pub Covers : {K P : Type 0} → Setting K P → ℕ → ℕ → Type 0
Covers g t n = (x : ℕ) → x < g.size t → g.chunk_of x < g.chunks n

-- The table that is linked behind t gets the copies of `from`. Either t is `from`, which with
-- blocking was the root; or, with blocking, `from` was the root and was being copied to t until t
-- was aborted.
abbrev pub IsLinking : {K P : Type 0} → Setting K P → State P → ℕ → ℕ → Type 0
IsLinking g s from t = ((from ≡ t) × (g.blocking ≡ true → s.was_root t ≡ true))
    ⊎ ((g.blocking ≡ true) × (s.was_root from ≡ true) × IsTarget g s from t
    × (s.aborted t ≡ true))

-- the pair p is or was marked in some table from which its copies go to n
pub record IsCopied {K P : Type 0} (g : Setting K P) (s : State P) (n : ℕ) (p : P) : Type 0 where
  pub from : ℕ
  pub slot : ℕ
  pub stood : (s.slot from slot ≡ Marked p) ⊎ (s.slot from slot ≡ Copied p)
  pub taker : IsTaker g s (g.key p) from n

-- a copier that copies a table into n is done with a slot that has this word
abbrev pub IsSettled : {K P : Type 0} → Setting K P → State P → ℕ → Word P → Type 0
IsSettled g s n Empty = ⊥
IsSettled g s n (Live p) = ⊥
IsSettled g s n (Marked p) = (g.blocking ≡ true) × HasWord g.places (look g s (g.key p)) n
IsSettled g s n _ = Unit {0}

-- p is or was marked in slot x of t, and its copies go to n, where the places before j have only
-- words of other keys and Closed
pub record IsPutting {K P : Type 0} (g : Setting K P) (s : State P) (t x : ℕ) (p : P)
    (n j : ℕ) : Type 0 where
  pub stood : (s.slot t x ≡ Marked p) ⊎ (s.slot t x ≡ Copied p)
  pub taker : IsTaker g s (g.key p) t n
  pub before : (i : ℕ) → i < j → foreign (look g s (g.key p) n i) ≡ true
