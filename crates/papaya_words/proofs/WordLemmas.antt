-- A word has the kind and the pair that it was made from; and the facts that the steps of a slot
-- preserve.
use Rattle.std.proofs.Common.{◌≡◌, ℕ, ◌%◌, ◌<◌, ◌≢◌, ap, subst, arith}
use Rattle.std.proofs.lemmas.Grind.{common_steps}
use Rattle.papaya_words.specs.Word.{kind_of, kind_of_code, pair_of, filled_word, live_word, marked_word, copied_word, buried_word, MayBecome, IsSlotStep}
use Rattle.papaya_words.specs.declared.word.Kind.{Kind}
use Rattle.papaya_words.specs.declared.word.Kind.TheVariants.{Empty, Live, Marked, Copied, Buried, Closed}

-- the code of a filled word is the one that it was made with
pub code-filled_word : (code pair : ℕ) → code < 8 → filled_word code pair % 1024 ≡ code
code-filled_word code pair h = omega arith

-- the kind of a filled word is that of its code
pub kind_of-filled_word : (code pair : ℕ) → code < 8 → kind_of (filled_word code pair) ≡ kind_of_code code
kind_of-filled_word code pair h = ap kind_of_code (code-filled_word code pair h)

-- the pair's number of a filled word is the one that it was made with
pub pair_of-filled_word : (code pair : ℕ) → code < 8 → pair_of (filled_word code pair) ≡ pair
pair_of-filled_word code pair h = omega arith

-- a Live word is the one made from its pair's number
pub live_word-parts : (w : ℕ) → kind_of w ≡ Live → w ≡ live_word (pair_of w)
live_word-parts w h = grind (arith, common_steps)

-- a Marked word is the one made from its pair's number
pub marked_word-parts : (w : ℕ) → kind_of w ≡ Marked → w ≡ marked_word (pair_of w)
marked_word-parts w h = grind (arith, common_steps)

-- a Copied word is the one made from its pair's number
pub copied_word-parts : (w : ℕ) → kind_of w ≡ Copied → w ≡ copied_word (pair_of w)
copied_word-parts w h = grind (arith, common_steps)

-- a Buried word is the one made from its pair's number
pub buried_word-parts : (w : ℕ) → kind_of w ≡ Buried → w ≡ buried_word (pair_of w)
buried_word-parts w h = grind (arith, common_steps)

-- no kind of word may become Empty
never_empty : (kind : Kind) (old new : ℕ) → MayBecome kind Empty old new → ⊥
never_empty Empty old new h = h
never_empty Live old new h = h
never_empty Marked old new h = h
never_empty Copied old new h = h
never_empty Buried old new h = h
never_empty Closed old new h = h

-- the word after a step is not Empty
pub steps_never_empty : (old new : ℕ) → IsSlotStep old new → kind_of new ≢ Empty
steps_never_empty old new h = λ e. never_empty (kind_of old) old new (subst (λ kind. MayBecome (kind_of old) kind old new) e h)
