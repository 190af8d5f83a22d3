-- The wrapped sum of shards.
use Rattle.std.proofs.Common.{◌≡◌, ℕ, zero, suc, ◌+◌, ◌<◌, List, [], ◌∷◌, length, ℤ, pos, ◌+ℤ◌}
use Rattle.std.proofs.Common.{replicate, fold, take, slice_set, slice_index_or, refl, sym, ◌∙◌, ap}
use Rattle.std.proofs.Common.{arith}
use Rattle.std.proofs.Math.ListN.{length-set}
use Rattle.std.proofs.lemmas.Int.{ints, int_wrap-add_left, int_wrap-add_right, int_wrap-add_same}
use Rattle.std.proofs.lemmas.List.Sums.{fold_more}
use Rattle.std.specs.Int.{w64, int_wrap}
use Rattle.papaya_words.specs.Counter.{Count, added_at, sum_of}

-- zeros add up to zero
fold-zeros : (n : ℕ) → fold ◌+ℤ◌ (pos 0) (replicate n (pos 0)) ≡ pos 0
fold-zeros zero = refl
fold-zeros (suc n) = fold-zeros n

-- new shards add up to zero
pub sum_of-zeros : (n : ℕ) → sum_of (replicate n (pos 0)) ≡ pos 0
unfolding int_wrap
sum_of-zeros n = ap (int_wrap w64) (fold-zeros n)

-- a number added to the start is added to the result
fold-added : (a by : ℤ) (xs : List ℤ) → fold ◌+ℤ◌ (a +ℤ by) xs ≡ fold ◌+ℤ◌ a xs +ℤ by
fold-added a by [] = refl
fold-added a by (x ∷ xs) =
    let turned : a +ℤ by +ℤ x ≡ a +ℤ x +ℤ by = omega (arith, ints) in
    ap (λ z. fold ◌+ℤ◌ z xs) turned ∙ fold-added (a +ℤ x) by xs

-- sums from two numbers that wrap alike wrap alike
fold-alike : (a b : ℤ) (xs : List ℤ) → int_wrap w64 a ≡ int_wrap w64 b → int_wrap w64 (fold ◌+ℤ◌ a xs) ≡ int_wrap w64 (fold ◌+ℤ◌ b xs)
fold-alike a b [] e = e
fold-alike a b (x ∷ xs) e = fold-alike (a +ℤ x) (b +ℤ x) xs (int_wrap-add_same w64 a b x e)

-- a number added to one of several is added to their sum
fold-set : (a by : ℤ) (xs : List ℤ) (i : ℕ) → i < length xs →
    int_wrap w64 (fold ◌+ℤ◌ a (slice_set xs i (int_wrap w64 (slice_index_or xs i (pos 0) +ℤ by)))) ≡ int_wrap w64 (fold ◌+ℤ◌ a xs +ℤ by)
fold-set a by [] i h = absurd (omega arith)
fold-set a by (x ∷ xs) zero h =
    let joined : a +ℤ (x +ℤ by) ≡ a +ℤ x +ℤ by = omega (arith, ints) in
    let one : int_wrap w64 (a +ℤ int_wrap w64 (x +ℤ by)) ≡ int_wrap w64 (a +ℤ x +ℤ by) = int_wrap-add_right w64 a (x +ℤ by) ∙ ap (int_wrap w64) joined in
    fold-alike (a +ℤ int_wrap w64 (x +ℤ by)) (a +ℤ x +ℤ by) xs one ∙ ap (int_wrap w64) (fold-added (a +ℤ x) by xs)
fold-set a by (x ∷ xs) (suc i) h = fold-set (a +ℤ x) by xs i (omega arith)

-- a number added to a shard is added to the sum of all
pub sum_of-set : (by : ℤ) (xs : List ℤ) (i : ℕ) → i < length xs →
    sum_of (slice_set xs i (int_wrap w64 (slice_index_or xs i (pos 0) +ℤ by))) ≡ int_wrap w64 (sum_of xs +ℤ by)
sum_of-set by xs i h = fold-set (pos 0) by xs i h ∙ sym (int_wrap-add_left w64 (fold ◌+ℤ◌ (pos 0) xs) by)

-- the sum of one more shard
pub sum_of_more : (xs : List ℤ) (i : ℕ) → i < length xs → int_wrap w64 (sum_of (take i xs) +ℤ slice_index_or xs i (pos 0)) ≡ sum_of (take (i + 1) xs)
sum_of_more xs i h =
    int_wrap-add_left w64 (fold ◌+ℤ◌ (pos 0) (take i xs)) (slice_index_or xs i (pos 0)) ∙ ap (int_wrap w64) (sym (fold_more ◌+ℤ◌ (pos 0) xs i (pos 0) h))

-- a counter with this many shards, this sum, and these numbers in its shards
abbrev pub count_from : ℕ → ℤ → List ℤ → Count
count_from shards sum each = record { shards = shards; sum = sum; each = each }

-- two counters with as many shards, one sum and the same numbers are one value
count_is : (m n : ℕ) (y z : ℤ) (xs ys : List ℤ) → m ≡ n → y ≡ z → xs ≡ ys → count_from m y xs ≡ count_from n z ys
count_is m n y z xs ys e f h = ap (λ x. count_from x y xs) e ∙ ap (λ x. count_from n x xs) f ∙ ap (count_from n z) h

-- the counter after an addition to one shard
pub added : (by : ℤ) (xs ys : List ℤ) (i : ℕ) → i < length xs → ys ≡ slice_set xs i (int_wrap w64 (slice_index_or xs i (pos 0) +ℤ by)) →
    count_from (length ys) (sum_of ys) ys ≡ added_at (count_from (length xs) (sum_of xs) xs) i by
added by xs ys i h e =
    count_is (length ys) (length xs) (sum_of ys) (int_wrap w64 (sum_of xs +ℤ by)) ys
    (slice_set xs i (int_wrap w64 (slice_index_or xs i (pos 0) +ℤ by))) (ap length e ∙ length-set xs i _) (ap sum_of e ∙ sum_of-set by xs i h) e
