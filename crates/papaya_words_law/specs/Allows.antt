-- When an exchange may come next. Each condition is on the state alone. Apart from the exchanged
-- word itself, no later exchange undoes a condition (`proofs/Later.antt`), so facts about the past,
-- such as "was" and "stood", are read off the words as they are now.
use Rattle.std.specs.Prelude.{◌≡◌, ℕ, ◌<◌, MatchOption, true, false, List, [], ◌∷◌}
use Rattle.papaya_words_law.specs.Exchange.{Empty, Live, Marked, Setting, Exchange, Open, Claim, Replace}
use Rattle.papaya_words_law.specs.Exchange.{Bury, Link, Mark, Close, Place, Finish, Advance, Promote}
use Rattle.papaya_words_law.specs.Exchange.{Abort, Take, State, after}
use Rattle.papaya_words_law.specs.View.{look, beyond, foreign, IsFull, HasWord, IsNextPlace, IsReached}
use Rattle.papaya_words_law.specs.Class.{IsOn}
use Rattle.papaya_words_law.specs.Copying.{IsTaker, IsTarget, IsCopied, IsSettled, IsLinking, Covers}

-- Claim: an insertion puts p into the first empty place of its key, in a table that a search for
-- the key reaches.
pub record MayClaim {K P : Type 0} (g : Setting K P) (s : State P) (t x : ℕ) (p : P) : Type 0 where
  pub empty : s.slot t x ≡ Empty
  pub reached : IsReached g s (g.key p) t
  pub place : IsNextPlace g s (g.key p) beyond t x

-- Replace: q takes the place of p, and has its key.
pub record MayReplace {K P : Type 0} (g : Setting K P) (s : State P) (t x : ℕ)
    (p q : P) : Type 0 where
  pub live : s.slot t x ≡ Live p
  pub reached : IsReached g s (g.key p) t
  pub same : g.same (g.key p) (g.key q) ≡ true
  pub kept : g.key q ≡ g.key p

-- Bury: p is removed.
pub record MayBury {K P : Type 0} (g : Setting K P) (s : State P) (t x : ℕ) (p : P) : Type 0 where
  pub live : s.slot t x ≡ Live p
  pub reached : IsReached g s (g.key p) t

-- Link: t is the last table of the chain. The new table has a greater number, so that no chain
-- leads back, and a word for each chunk of the table that is copied to it.
pub record MayLink {K P : Type 0} (g : Setting K P) (s : State P) (t n : ℕ) : Type 0 where
  pub last : s.next t ≡ 0
  pub on : IsOn s.first s.next t
  pub rises : t < n
  pub from : ℕ
  pub linking : IsLinking g s from t
  pub covers : Covers g from n

-- Mark: a copier marks p in a table that was the root. There is a next table to copy it to: without
-- one, a search that meets the mark could not go on.
pub record MayMark {K P : Type 0} (g : Setting K P) (s : State P) (t x : ℕ) (p : P) : Type 0 where
  pub live : s.slot t x ≡ Live p
  pub was : s.was_root t ≡ true
  pub further : 0 < s.next t

-- Close: a copier seals an empty slot of a table that was the root. There is a next table: without
-- one, a search that passes the slot could not go on.
pub record MayClose {K P : Type 0} (g : Setting K P) (s : State P) (t x : ℕ) : Type 0 where
  pub empty : s.slot t x ≡ Empty
  pub was : s.was_root t ≡ true
  pub further : 0 < s.next t

-- Place: a copier puts p, which is or was marked, into a table that takes it, behind only words of
-- other keys and Closed. A Buried word of its key would say that the copy was made and removed.
pub record MayPlace {K P : Type 0} (g : Setting K P) (s : State P) (n x : ℕ) (p : P) : Type 0 where
  pub empty : s.slot n x ≡ Empty
  pub source : IsCopied g s n p
  pub place : IsNextPlace g s (g.key p) foreign n x

-- Finish, without blocking: the class of p has a word in a table that takes p from the table of the
-- marked word. A table that takes p from another one would not do: p would be lost.
pub record MayFinish {K P : Type 0} (g : Setting K P) (s : State P) (t x : ℕ) (p : P) : Type 0 where
  pub marked : s.slot t x ≡ Marked p
  pub mode : g.blocking ≡ false
  pub to : ℕ
  pub taker : IsTaker g s (g.key p) t to
  pub has : HasWord g.places (look g s (g.key p)) to

-- Advance: the slots of chunk c are settled, in a table whose copies go to n. The chunk has at
-- least one slot, so that no word is about slots that do not exist.
pub record MayAdvance {K P : Type 0} (g : Setting K P) (s : State P) (n c : ℕ) : Type 0 where
  pub done : s.done n c ≡ false
  pub from : ℕ
  pub target : IsTarget g s from n
  pub slot : ℕ
  pub within : slot < g.size from
  pub in_chunk : g.chunk_of slot ≡ c
  pub settled : (x : ℕ) → x < g.size from → g.chunk_of x ≡ c → IsSettled g s n (s.slot from x)

-- Promote: the root is copied to n, as the word of each slot's chunk says.
pub record MayPromote {K P : Type 0} (g : Setting K P) (s : State P) (t n : ℕ) : Type 0 where
  pub root : s.root ≡ t
  pub made : 0 < t
  pub target : IsTarget g s t n
  pub whole : (x : ℕ) → x < g.size t → s.done n (g.chunk_of x) ≡ true

-- Abort, with blocking: a pair that is or was marked, and whose copy goes to n, does not fit into
-- n.
pub record MayAbort {K P : Type 0} (g : Setting K P) (s : State P) (n : ℕ) : Type 0 where
  pub before : s.aborted n ≡ false
  pub mode : g.blocking ≡ true
  pub pair : P
  pub source : IsCopied g s n pair
  pub full : IsFull g.places (look g s (g.key pair)) n

-- The exchange may come next. `Open` requires that there is no root yet.
abbrev pub Allows : {K P : Type 0} → Setting K P → State P → Exchange P → Type 0
Allows g s (Open t) = (s.root ≡ 0) × (0 < t)
Allows g s (Claim t x p) = MayClaim g s t x p
Allows g s (Replace t x p q) = MayReplace g s t x p q
Allows g s (Bury t x p) = MayBury g s t x p
Allows g s (Link t n) = MayLink g s t n
Allows g s (Mark t x p) = MayMark g s t x p
Allows g s (Close t x) = MayClose g s t x
Allows g s (Place n x p) = MayPlace g s n x p
Allows g s (Finish t x p) = MayFinish g s t x p
Allows g s (Advance n c) = MayAdvance g s n c
Allows g s (Promote t n) = MayPromote g s t n
Allows g s (Abort n) = MayAbort g s n
-- Take: the next number for a pair, which is below the limit.
Allows g s (Take m) = (s.made ≡ m) × MatchOption g.most (Unit {0}) (λ n. m < n)

-- each exchange of the list is allowed in the state that the earlier ones leave
abbrev pub AllAllowed : {K P : Type 0} → Setting K P → State P → List (Exchange P) → Type 0
AllAllowed g s [] = Unit {0}
AllAllowed g s (e ∷ es) = Allows g s e × AllAllowed g (after s e) es
