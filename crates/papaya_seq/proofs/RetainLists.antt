-- The pairs of a table's slots while they are scanned one after the other.
use Rattle.std.proofs.Common.{◌≡◌, ℕ, zero, suc, ◌+◌, ◌<◌, Bool, true, false, cond, List, [], ◌∷◌}
use Rattle.std.proofs.Common.{◌++◌, length, take, drop, slice_index, slice_set, Some, append-nil}
use Rattle.std.proofs.Common.{append_assoc, refl, sym, ◌∙◌, ap, subst, arith}
use Rattle.std.proofs.lemmas.List.{length-append}
use denote.Ref.{Bor}
use Rattle.std.specs.Fn.{Mut}
use Rattle.papaya_words.specs.Word.{kind_of, pair_of as number_of}
use Rattle.papaya_words.specs.declared.word.Kind.{Kind}
use Rattle.papaya_words.specs.declared.word.Kind.TheVariants as kinds
use Rattle.papaya_core_timeline.specs.Content.{listed, pairs_of_kind, pairs_of_slots}
use Rattle.papaya_core_store.specs.Store.{StoreState, Stored, pair_of}
use Rattle.papaya_seq.specs.Retains.{Retains}
use Rattle.papaya_seq.proofs.WalkLists.{pairs_of_word}

-- a list, after one of its numbers was written: its items before it, there, and behind it
pub set_before : (xs : List ℕ) (i x : ℕ) → take i (slice_set xs i x) ≡ take i xs
set_before [] i x = refl
set_before (y ∷ ys) zero x = refl
set_before (y ∷ ys) (suc i) x = ap (λ l. y ∷ l) (set_before ys i x)

pub set_behind : (xs : List ℕ) (i x : ℕ) → drop (suc i) (slice_set xs i x) ≡ drop (suc i) xs
set_behind [] i x = refl
set_behind (y ∷ ys) zero x = refl
set_behind (y ∷ ys) (suc i) x = set_behind ys i x

pub set_there : (xs : List ℕ) (i x : ℕ) → i < length xs → slice_index (slice_set xs i x) i ≡ x
set_there [] i x within = absurd (omega (arith, within))
set_there (y ∷ ys) zero x within = refl
set_there (y ∷ ys) (suc i) x within = set_there ys i x (omega (arith, within))

pub set_long : (xs : List ℕ) (i x : ℕ) → length (slice_set xs i x) ≡ length xs
set_long [] i x = refl
set_long (y ∷ ys) zero x = refl
set_long (y ∷ ys) (suc i) x = ap suc (set_long ys i x)

-- two lists with the same items from an index on have the same item there, and the same items
-- behind it
pub drop_there : (xs ys : List ℕ) (i : ℕ) → drop i xs ≡ drop i ys → i < length xs → i < length ys → slice_index xs i ≡ slice_index ys i
drop_there [] ys i same low within = absurd (omega (arith, low))
drop_there (x ∷ xs) [] i same low within = absurd (omega (arith, within))
drop_there (x ∷ xs) (y ∷ ys) zero same low within = cc same
drop_there (x ∷ xs) (y ∷ ys) (suc i) same low within = drop_there xs ys i same (omega (arith, low)) (omega (arith, within))

pub drop_more : (xs ys : List ℕ) (i : ℕ) → drop i xs ≡ drop i ys → i < length xs → i < length ys → drop (suc i) xs ≡ drop (suc i) ys
drop_more [] ys i same low within = absurd (omega (arith, low))
drop_more (x ∷ xs) [] i same low within = absurd (omega (arith, within))
drop_more (x ∷ xs) (y ∷ ys) zero same low within = cc same
drop_more (x ∷ xs) (y ∷ ys) (suc i) same low within = drop_more xs ys i same (omega (arith, low)) (omega (arith, within))

-- all of a list
pub take_all : (xs : List ℕ) (n : ℕ) → n ≡ length xs → take n xs ≡ xs
take_all [] zero e = refl
take_all [] (suc n) e = refl
take_all (x ∷ xs) zero e = absurd (omega (arith, e))
take_all (x ∷ xs) (suc n) e = ap (λ l. x ∷ l) (take_all xs n (omega (arith, e)))

module _ {K V S : Type 0} (store : StoreState K V S) where
  -- the pairs up to a slot, and its own
  pub slots_more : (slots : List ℕ) (i : ℕ) → i < length slots
      → pairs_of_slots store (take (suc i) slots) ≡ pairs_of_slots store (take i slots) ++ pairs_of_word store (slice_index slots i)
  slots_more [] i within = absurd (omega (arith, within))
  slots_more (word ∷ words) zero within = append-nil (pairs_of_word store word)
  slots_more (word ∷ words) (suc i) within =
      ap (λ l. pairs_of_word store word ++ l) (slots_more words i (omega (arith, within)))
      ∙ sym (append_assoc (pairs_of_word store word) (pairs_of_slots store (take i words)) (pairs_of_word store (slice_index words i)))

  -- how many there are after a slot's word was written
  pub slots_count : (slots : List ℕ) (i x : ℕ) → i < length slots
      → length (pairs_of_slots store (slice_set slots i x)) + length (pairs_of_word store (slice_index slots i)) ≡ length (pairs_of_slots store slots)
      + length (pairs_of_word store x)
  slots_count [] i x within = absurd (omega (arith, within))
  slots_count (word ∷ words) zero x within =
      let new : length (pairs_of_word store x ++ pairs_of_slots store words) ≡ length (pairs_of_word store x) + length
      (pairs_of_slots store words) = length-append (pairs_of_word store x) (pairs_of_slots store words) in
      let old : length (pairs_of_word store word ++ pairs_of_slots store words) ≡ length (pairs_of_word store word) + length
      (pairs_of_slots store words) = length-append (pairs_of_word store word) (pairs_of_slots store words) in
      omega (arith, new, old)
  slots_count (word ∷ words) (suc i) x within =
      let rest = slots_count words i x (omega (arith, within)) in
      let new : length (pairs_of_word store word ++ pairs_of_slots store (slice_set words i x)) ≡ length (pairs_of_word store word) + length
      (pairs_of_slots store (slice_set words i x)) = length-append (pairs_of_word store word) (pairs_of_slots store (slice_set words i x)) in
      let old : length (pairs_of_word store word ++ pairs_of_slots store words) ≡ length (pairs_of_word store word) + length
      (pairs_of_slots store words) = length-append (pairs_of_word store word) (pairs_of_slots store words) in
      omega (arith, rest, new, old)

  -- a word that is live has its pair
  pub live_pairs : (word : ℕ) (p : Stored K V) → kind_of word ≡ kinds.Live → pair_of store (number_of word) ≡ Some p → pairs_of_word store word ≡ p ∷ []
  live_pairs word p live logged = ap (λ kd. pairs_of_kind store kd (number_of word)) live ∙ ap listed logged

  -- one that is neither live nor marked has none
  pub bare_pairs : (word : ℕ) → (kind_of word ≡ kinds.Live → ⊥) → (kind_of word ≡ kinds.Marked → ⊥) → pairs_of_word store word ≡ []
  bare_pairs word unlive unmarked = of_kind (kind_of word) refl
    where
      of_kind : (kind : Kind) → kind_of word ≡ kind → pairs_of_kind store kind (number_of word) ≡ []
      of_kind kinds.Live is = absurd (unlive is)
      of_kind kinds.Marked is = absurd (unmarked is)
      of_kind kinds.Empty is = refl
      of_kind kinds.Copied is = refl
      of_kind kinds.Buried is = refl
      of_kind kinds.Closed is = refl

-- words have the same pairs with the same arena
pub slots_same : {K V S : Type 0} (store store' : StoreState K V S) → ((n : ℕ) → pair_of store' n ≡ pair_of store n) → (slots : List ℕ)
    → pairs_of_slots store' slots ≡ pairs_of_slots store slots
slots_same store store' same [] = refl
slots_same {K} {V} {S} store store' same (word ∷ words) = ap (λ l. l ++ pairs_of_slots store' words) (of_kind (kind_of word))
    ∙ ap (λ l. pairs_of_word store word ++ l) (slots_same store store' same words)
  where
    of_kind : (kind : Kind) → pairs_of_kind store' kind (number_of word) ≡ pairs_of_kind store kind (number_of word)
    of_kind kinds.Live = ap listed (same (number_of word))
    of_kind kinds.Marked = ap listed (same (number_of word))
    of_kind kinds.Empty = refl
    of_kind kinds.Copied = refl
    of_kind kinds.Buried = refl
    of_kind kinds.Closed = refl

-- the pairs that are retained of two lists, one after the other
pub retains_more : {F K V : Type 0} (g : Mut F (Bor K × (Bor V × Unit {0})) Bool) (f f' f'' : F) (ps qs left more : List (Stored K V))
    → Retains g f ps left f' → Retains g f' qs more f'' → Retains g f (ps ++ qs) (left ++ more) f''
retains_more {F} {K} {V} g f f' f'' [] qs left more (none, same) next = subst (λ l. Retains g f qs (l ++ more) f'') (sym none)
    (subst (λ h. Retains g h qs more f'') same next)
retains_more {F} {K} {V} g f f' f'' (p ∷ ps) qs left more (agrees, later, rest, answers, retained, is) next = (
  agrees,
  later,
  rest ++ more,
  answers,
  retains_more g later f' f'' ps qs rest more retained next,
  ap (λ l. l ++ more) is ∙ of_answer agrees,
)
  where
    of_answer : (b : Bool) → cond b (p ∷ rest) rest ++ more ≡ cond b (p ∷ (rest ++ more)) (rest ++ more)
    of_answer true = refl
    of_answer false = refl
