-- A text can be cut at its first space in only one way.
use Rattle.std.proofs.Common.{◌≡◌, ◌≢◌, ℕ, ◌<◌, List, [], ◌∷◌, ◌++◌, refl, sym, ◌∙◌, ap, subst, arith, Contains, suc, zero}
use Rattle.std.specs.Char.{digit_value}
use Rattle.std.specs.Str.Parse.{AllDigits}
use Rattle.std.proofs.lemmas.List.Elements.{Contains-append_right}
use Rattle.papaya_run_lines.specs.Numbers.{WritesNumber}

-- the first of a list, or 0
abbrev pub first : List ℕ → ℕ
first [] = 0
first (x ∷ xs) = x

-- all but the first of a list
abbrev others : List ℕ → List ℕ
others [] = []
others (x ∷ xs) = xs

-- a list that begins with a space has one
has_space : (x : ℕ) (xs : List ℕ) → x ≡ 32 → Contains (x ∷ xs) 32
has_space x xs e = (0, omega arith, e)

-- a list has what its tail has
tail_has : (x : ℕ) (xs : List ℕ) → Contains xs 32 → Contains (x ∷ xs) 32
tail_has x xs h = Contains-append_right (x ∷ []) xs 32 h

-- the cut at the first space
pub cut_once : (a b c d : List ℕ) → a ++ 32 ∷ b ≡ c ++ 32 ∷ d → ¬ (Contains a 32) → ¬ (Contains c 32) → (a ≡ c) × (b ≡ d)
cut_once [] b [] d e na nc = (refl, ap others e)
cut_once [] b (y ∷ c) d e na nc = absurd (nc (has_space y c (sym (ap first e))))
cut_once (x ∷ a) b [] d e na nc = absurd (na (has_space x a (ap first e)))
cut_once (x ∷ a) b (y ∷ c) d e na nc =
    let rest : (a ≡ c) × (b ≡ d) = cut_once a b c d (ap others e) (λ h. na (tail_has x a h)) (λ h. nc (tail_has y c h)) in
    let heads : x ∷ a ≡ y ∷ a = ap (λ z. z ∷ a) (ap first e) in
    let tails : y ∷ a ≡ y ∷ c = ap (λ z. y ∷ z) rest.0 in
    (heads ∙ tails, rest.1)

-- nothing is in an empty list
empty_has : ¬ (Contains {X = ℕ} [] 32)
empty_has h = omega (arith, h.1)

-- a list has no space whose first is none and whose rest has none
no_space_more : (x : ℕ) (xs : List ℕ) → x ≢ 32 → ¬ (Contains xs 32) → ¬ (Contains (x ∷ xs) 32)
no_space_more x xs other rest (zero, inside, e) = other e
no_space_more x xs other rest (suc k, inside, e) = rest (k, omega (arith, inside), e)

-- digits have no space
digits_no_space : (text : List ℕ) → AllDigits 10 text → ¬ (Contains text 32)
digits_no_space [] w = empty_has
digits_no_space (x ∷ xs) w =
    let Below : ℕ → Type 0 = λ b. digit_value b < 10 in
    let Absurd : 36 < 10 → ⊥ = λ h. omega (arith, h) in
    no_space_more x xs (λ e. let small : digit_value 32 < 10 = subst Below e w.0 in omega (arith, small)) (digits_no_space xs w.1)

-- a number has no space
pub number_no_space : (text : List ℕ) (n : ℕ) → WritesNumber text n → ¬ (Contains text 32)
number_no_space text n w = digits_no_space text w.0.1

-- each byte is above a space
abbrev pub IsAbove : List ℕ → Type 0
IsAbove [] = Unit {0}
IsAbove (x ∷ xs) = (32 < x) × IsAbove xs

-- a text whose bytes are above a space has no space
pub above_no_space : (text : List ℕ) → IsAbove text → ¬ (Contains text 32)
above_no_space [] w = empty_has
above_no_space (x ∷ xs) w = no_space_more x xs (λ e. omega (arith, e, w.0)) (above_no_space xs w.1)

-- a text with a space after its first word has one
pub has_cut : (text first rest : List ℕ) → text ≡ first ++ 32 ∷ rest → Contains text 32
has_cut text first rest e =
    let P : List ℕ → Type 0 = λ t. Contains t 32 in
    subst P (sym e) (Contains-append_right first (32 ∷ rest) 32 (has_space 32 rest refl))
