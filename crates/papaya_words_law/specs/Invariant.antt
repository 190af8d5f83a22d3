-- What every allowed exchange preserves of all words and all keys, in each mode.
use Rattle.std.specs.Prelude.{◌≡◌, ◌⊎◌, ℕ, ◌<◌, ◌≤◌, Bool, true, false, Option, None, Some}
use Rattle.papaya_words_law.specs.Exchange.{Word, Empty, Closed, Live, Marked, Copied, Buried, Setting, State}
use Rattle.papaya_words_law.specs.View.{look, IsFull}
use Rattle.papaya_words_law.specs.Copying.{IsSettled, IsTarget, Covers}
use Rattle.papaya_words_law.specs.Class.{Rises, IsOn, IsIncrementalClass}
use Rattle.papaya_words_law.specs.ClassBlocking.{AllAborted, IsBlockingClass}

-- the pair that a word names
abbrev pub named : {P : Type 0} → Word P → Option P
named Empty = None
named Closed = None
named (Live p) = Some p
named (Marked p) = Some p
named (Copied p) = Some p
named (Buried p) = Some p

-- whether a copier has sealed the slot of this word or marked its pair
abbrev pub shut : {P : Type 0} → Word P → Bool
shut Closed = true
shut (Marked p) = true
shut (Copied p) = true
shut _ = false

-- whether the word never changes again
abbrev pub finished : {P : Type 0} → Word P → Bool
finished Closed = true
finished (Copied p) = true
finished (Buried p) = true
finished _ = false

-- whether the word is Empty or Live: no copier has changed it, and its pair was not removed
abbrev pub plain : {P : Type 0} → Word P → Bool
plain Empty = true
plain (Live p) = true
plain _ = false

-- slot x of table t is a place of p's key
pub record IsPlaceOf {K P : Type 0} (g : Setting K P) (t x : ℕ) (p : P) : Type 0 where
  pub at : ℕ
  pub within : at < g.places t
  pub is : g.place (g.key p) t at ≡ x

-- What is preserved of the words in both modes.
pub record IsSound {K P : Type 0} (g : Setting K P) (s : State P) : Type 0 where
  pub rises : Rises s.next
  -- the root is on the chain, or there is none
  pub root : ((s.root ≡ 0) × (s.first ≡ 0)) ⊎ IsOn s.first s.next s.root
  pub was : (t : ℕ) → s.was_root t ≡ true → IsOn s.first s.next t × (t ≤ s.root)
  pub root_was : 0 < s.root → s.was_root s.root ≡ true
  -- a table that is not on the chain is as it was made
  pub linked : (t : ℕ) → 0 < s.next t → IsOn s.first s.next t
  pub done_on : (t c : ℕ) → s.done t c ≡ true → IsOn s.first s.next t
  pub slots_on : (t x : ℕ) → (s.slot t x ≡ Empty → ⊥) → IsOn s.first s.next t
  -- each pair is at a place of its key
  pub placed : (t x : ℕ) (p : P) → named (s.slot t x) ≡ Some p → IsPlaceOf g t x p
  -- a table that a copier has changed has a next one
  pub further : (t x : ℕ) → shut (s.slot t x) ≡ true → 0 < s.next t

-- What is preserved without blocking, m being the map.
pub record IsIncrementalState {K P : Type 0} (g : Setting K P) (s : State P)
    (m : K → Option P) : Type 0 where
  pub sound : IsSound g s
  pub open sound use *
  -- tables before the root are finished, and so are the slots of chunks that are done
  pub settled : (t x : ℕ) → IsOn s.first s.next t → t < s.root → x < g.size t
      → finished (s.slot t x) ≡ true
  pub done : (t x : ℕ) → IsOn s.first s.next t → s.done (s.next t) (g.chunk_of x) ≡ true
      → x < g.size t → finished (s.slot t x) ≡ true
  -- a table has a word for each chunk of the one before
  pub covered : (t : ℕ) → 0 < s.next t → Covers g t (s.next t)
  pub class : (k : K) → IsIncrementalClass (IsOn s.first s.next) g.places (g.place k) (look g s k)
      (m k)

-- why table t was aborted: a marked pair of the root does not fit into it
pub record IsGivenUp {K P : Type 0} (g : Setting K P) (s : State P) (t : ℕ) : Type 0 where
  pub on : IsOn s.first s.next t
  pub between : AllAborted (IsOn s.first s.next) s.aborted s.root t
  pub slot : ℕ
  pub pair : P
  pub marked : s.slot s.root slot ≡ Marked pair
  pub full : IsFull g.places (look g s (g.key pair)) t

-- the chunks of the root that are done according to table t are copied to it
pub record IsDoneTo {K P : Type 0} (g : Setting K P) (s : State P) (t : ℕ) : Type 0 where
  pub between : AllAborted (IsOn s.first s.next) s.aborted s.root t
  pub settled : (x : ℕ) → s.done t (g.chunk_of x) ≡ true → x < g.size s.root
      → IsSettled g s t (s.slot s.root x)

-- What is preserved with blocking, m being the map.
pub record IsBlockingState {K P : Type 0} (g : Setting K P) (s : State P)
    (m : K → Option P) : Type 0 where
  pub sound : IsSound g s
  pub open sound use *
  -- no table that was the root is aborted, and those before the root don't change
  pub alive : (t : ℕ) → s.was_root t ≡ true → s.aborted t ≡ false
  pub frozen : (t x : ℕ) → s.was_root t ≡ true → t < s.root → x < g.size t
      → plain (s.slot t x) ≡ false
  -- a table that never was the root has only Empty and Live words, and no word is Copied
  pub fresh : (t x : ℕ) → s.was_root t ≡ false → plain (s.slot t x) ≡ true
  pub copied : (t x : ℕ) (p : P) → s.slot t x ≡ Copied p → ⊥
  pub given_up : (t : ℕ) → s.aborted t ≡ true → s.root < t → IsGivenUp g s t
  pub done_to : (t c : ℕ) → s.root < t → s.done t c ≡ true → IsDoneTo g s t
  -- only a table that was the root or was aborted has a next table; a table to which the copies of
  -- such a root go has a word for each of its chunks
  pub linked_by : (t : ℕ) → 0 < s.next t → (s.was_root t ≡ true) ⊎ (s.aborted t ≡ true)
  pub covered : (t n : ℕ) → s.was_root t ≡ true → IsTarget g s t n → Covers g t n
  pub class : (k : K) → IsBlockingClass (IsOn s.first s.next) s.was_root s.aborted s.root g.places
      (g.place k) (look g s k) (m k)

-- The state represents the map m, in the mode of the setting. This is the invariant of every
-- backend.
abbrev pub IsKeeping : {K P : Type 0} → Setting K P → State P → (K → Option P) → Type 0
IsKeeping g s m = ((g.blocking ≡ false) × IsIncrementalState g s m)
    ⊎ ((g.blocking ≡ true) × IsBlockingState g s m)
