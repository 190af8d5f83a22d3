-- A line that was read with its line end, and the lines that are left.
use Rattle.std.proofs.Common.{◌≡◌, ℕ, zero, suc, ◌+◌, ◌-◌, Bool, true, false, cond, eqb, None, Some}
use Rattle.std.proofs.Common.{IfSome, List, [], ◌∷◌, ◌++◌, length, take, slice_index, Ok, Err, refl}
use Rattle.std.proofs.Common.{sym, ap, subst, ◌∙◌, arith, not, eq-eqb, ne_eqb, ⊎_elim}
use Rattle.std.specs.Prelude.{IfOk, MatchResult, OnOk, Option, Result, nat_lt, ◌&&◌}
use Rattle.std.proofs.lemmas.Bool.{cond-true, cond-false, cases_eq, lt-ltb}
use Rattle.std.proofs.lemmas.List.{append-nil}
use Rattle.std.specs.Io.KnownBytes.{IsAtEnd}
use Rattle.std.specs.Io.BufRead.{DropsThrough, take_through, drop_through, strip_last}
use Rattle.papaya_run_lines.specs.Lines.{IsNextLine, before_first, lines_of}

-- the last of `n + 1` bytes is inspected, and removed if it is a line end
strip_at : (xs : List ℕ) (n : ℕ) → length xs ≡ suc n → strip_last 10 xs ≡ cond (eqb (slice_index xs n) 10) (take n xs) xs
strip_at xs n is =
    let last : length xs - 1 ≡ n = omega (arith, is) in
    ap (λ m. cond (nat_lt 0 (length xs) && eqb (slice_index xs m) 10) (take m xs) xs) last
    ∙ ap (λ b. cond (b && eqb (slice_index xs n) 10) (take n xs) xs) (lt-ltb 0 (length xs) (omega (arith, is)))

-- a byte in front of another stays
front_of : (b : Bool) (x : ℕ) (xs ys : List ℕ) → cond b (x ∷ xs) (x ∷ ys) ≡ x ∷ cond b xs ys
front_of true x xs ys = refl
front_of false x xs ys = refl

strip_cons : (x y : ℕ) (ys : List ℕ) → strip_last 10 (x ∷ y ∷ ys) ≡ x ∷ strip_last 10 (y ∷ ys)
strip_cons x y ys =
    strip_at (x ∷ y ∷ ys) (suc (length ys)) refl
    ∙ front_of (eqb (slice_index (y ∷ ys) (length ys)) 10) x (take (length ys) (y ∷ ys)) (y ∷ ys)
    ∙ ap (λ l. x ∷ l) (sym (strip_at (y ∷ ys) (length ys) refl))

-- the same for a line read through its end
strip_through : (x y : ℕ) (ys : List ℕ) → strip_last 10 (x ∷ take_through 10 (y ∷ ys)) ≡ x ∷ strip_last 10 (take_through 10 (y ∷ ys))
strip_through x y ys = at (eqb y 10)
  where
    at : (b : Bool) → strip_last 10 (x ∷ cond b (y ∷ []) (y ∷ take_through 10 ys)) ≡ x ∷ strip_last 10 (cond b (y ∷ []) (y ∷ take_through 10 ys))
    at true = strip_cons x y []
    at false = strip_cons x y (take_through 10 ys)

-- If the first byte of a text is no line end, the text has as many lines left as the text behind
-- that byte. The last argument states this for a shorter text.
longer : (x : ℕ) (xs : List ℕ) → eqb x 10 ≡ false
    → ((y : ℕ) (ys : List ℕ) → xs ≡ y ∷ ys → lines_of (y ∷ ys) ≡ strip_last 10 (take_through 10 (y ∷ ys)) ∷ lines_of (drop_through 10 (y ∷ ys)))
    → lines_of (x ∷ xs) ≡ strip_last 10 (take_through 10 (x ∷ xs)) ∷ lines_of (drop_through 10 (x ∷ xs))
longer x [] miss shorter =
    ap (λ b. cond b ([] ∷ []) ((x ∷ []) ∷ [])) miss
    ∙ ap (λ l. l ∷ []) (sym (strip_at (x ∷ []) 0 refl ∙ cond-false _ _ _ miss))
    ∙ sym (ap (λ b. strip_last 10 (cond b (x ∷ []) (x ∷ [])) ∷ lines_of (cond b [] [])) miss)
longer x (y ∷ ys) miss shorter =
    ap (λ b. cond b ([] ∷ lines_of (y ∷ ys)) (before_first x (lines_of (y ∷ ys)))) miss
    ∙ ap (before_first x) (shorter y ys refl)
    ∙ ap (λ l. l ∷ lines_of (drop_through 10 (y ∷ ys))) (sym (strip_through x y ys))
    ∙ sym (ap (λ b. strip_last 10 (cond b (x ∷ []) (x ∷ take_through 10 (y ∷ ys))) ∷ lines_of (cond b (y ∷ ys) (drop_through 10 (y ∷ ys)))) miss)

-- the first byte is the line end
ended : (x : ℕ) (xs : List ℕ) → eqb x 10 ≡ true → lines_of (x ∷ xs) ≡ strip_last 10 (take_through 10 (x ∷ xs)) ∷ lines_of (drop_through 10 (x ∷ xs))
ended x xs hit =
    ap (λ b. cond b ([] ∷ lines_of xs) (before_first x (lines_of xs))) hit
    ∙ ap (λ l. l ∷ lines_of xs) (sym (strip_at (x ∷ []) 0 refl ∙ cond-true _ _ _ hit))
    ∙ sym (ap (λ b. strip_last 10 (cond b (x ∷ []) (x ∷ take_through 10 xs)) ∷ lines_of (cond b xs (drop_through 10 xs))) hit)

-- the first line of a text and those behind it
pub first_of_lines : (x : ℕ) (xs : List ℕ) → lines_of (x ∷ xs) ≡ strip_last 10 (take_through 10 (x ∷ xs)) ∷ lines_of (drop_through 10 (x ∷ xs))
first_of_lines x [] = ⊎_elim (λ same. ended x [] (eq-eqb x 10 same)) (λ other. longer x [] (ne_eqb x 10 other) (λ y ys is. absurd (nil_cons is)))
    (cases_eq x 10)
  where
    nil_cons : {y : ℕ} {ys : List ℕ} → [] ≡ y ∷ ys → ⊥
    nil_cons is = let no : ⊥ = omega (arith, ap length is) in no
first_of_lines x (z ∷ zs) = let rest = first_of_lines z zs in
    ⊎_elim (λ same. ended x (z ∷ zs) (eq-eqb x 10 same)) (λ other. after rest (ne_eqb x 10 other)) (cases_eq x 10)
  where
    after : lines_of (z ∷ zs) ≡ strip_last 10 (take_through 10 (z ∷ zs)) ∷ lines_of (drop_through 10 (z ∷ zs)) → eqb x 10 ≡ false
        → lines_of (x ∷ z ∷ zs) ≡ strip_last 10 (take_through 10 (x ∷ z ∷ zs)) ∷ lines_of (drop_through 10 (x ∷ z ∷ zs))
    after rest miss = longer x (z ∷ zs) miss (λ y ys is. subst (λ l. lines_of l ≡ strip_last 10 (take_through 10 l) ∷ lines_of (drop_through 10 l)) is rest)

-- a count of bytes read
abbrev number : {E : Type 0} → Result ℕ E → ℕ
number (Ok n) = n
number (Err e) = 0

-- a text was read through its first line end, or to its end
pub line_read : {E F : Type 0} (r : Result ℕ E) (told : Result ℕ F) (n : ℕ) (Q : E → Type 0) (old new : Option (List ℕ)) (before read line : List ℕ)
    (short long : ℕ)
    → told ≡ Ok n → MatchResult r (λ m. told ≡ Ok m) Q → ((e : E) → Q e → ⊥) → before ≡ [] → short ≡ length before → long ≡ length read
    → OnOk r (IfSome old (λ xs. read ≡ before ++ take_through 10 xs)) → OnOk r (DropsThrough old new 10) → IfOk r (λ m. long ≡ short + m)
    → IfOk r (λ m. m ≡ 0 → IsAtEnd old) → line ≡ strip_last 10 read → IfSome old (λ text. IsNextLine text (not (eqb n 0)) line new)
line_read (Err e) told n Q old new before read line short long tells was never none s l is drops count end cut = absurd (never e was)
line_read (Ok m) told n Q None new before read line short long tells was never none s l is drops count end cut = tt
line_read (Ok m) told zero Q (Some text) new before read line short long tells was never none s l is drops count end cut =
    ap lines_of (end (sym (ap number was) ∙ ap number tells))
line_read (Ok m) told (suc n) Q (Some []) new before read line short long tells was never none s l is drops count end cut =
    let no : ⊥ = omega (arith, ap number was, ap number tells, count, s, l, ap length is, ap length none, append_nil_length before) in absurd no
  where
    append_nil_length : (xs : List ℕ) → length (xs ++ []) ≡ length xs
    append_nil_length xs = ap length (append-nil xs)
line_read (Ok m) told (suc n) Q (Some (x ∷ xs)) new before read line short long tells was never none s l is drops count end cut =
    let whole : read ≡ take_through 10 (x ∷ xs) = is ∙ ap (λ l. l ++ take_through 10 (x ∷ xs)) none in
    let more : eqb (suc n) 0 ≡ false = ne_eqb (suc n) 0 (λ is. let no : ⊥ = omega (arith, is) in no) in
    subst (λ b. IsNextLine (x ∷ xs) (not b) line new) (sym more)
    (drop_through 10 (x ∷ xs), drops, first_of_lines x xs ∙ ap (λ l. l ∷ lines_of (drop_through 10 (x ∷ xs))) (sym (cut ∙ ap (strip_last 10) whole)))
