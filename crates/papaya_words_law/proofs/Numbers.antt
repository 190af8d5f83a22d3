-- Numbers for pairs are taken one by one, and no more than the limit allows.
use Rattle.std.proofs.Common.{◌≡◌, ℕ, ◌<◌, ◌≤◌, Some, MatchOption, List, [], ◌∷◌, subst, arith}
use Rattle.papaya_words_law.specs.Exchange.{Setting, State, Exchange, Open, Claim, Replace, Bury, Link}
use Rattle.papaya_words_law.specs.Exchange.{Mark, Close, Place, Finish, Advance, Promote, Abort, Take}
use Rattle.papaya_words_law.specs.Exchange.{after, run}
use Rattle.papaya_words_law.specs.Allows.{Allows, AllAllowed}

module _ {K P : Type 0} (g : Setting K P) (n : ℕ) (most : g.most ≡ Some n) where
  -- one exchange
  number_below : (s : State P) (e : Exchange P) → Allows g s e → s.made ≤ n → (after s e).made ≤ n
  number_below s (Open t) may le = le
  number_below s (Claim t x p) may le = le
  number_below s (Replace t x p q) may le = le
  number_below s (Bury t x p) may le = le
  number_below s (Link t u) may le = le
  number_below s (Mark t x p) may le = le
  number_below s (Close t x) may le = le
  number_below s (Place u x p) may le = le
  number_below s (Finish t x p) may le = le
  number_below s (Advance u c) may le = le
  number_below s (Promote t u) may le = le
  number_below s (Abort u) may le = le
  number_below s (Take m) may le =
      let lt : m < n = subst (λ o. MatchOption o (Unit {0}) (λ y. m < y)) most may.1 in
      omega arith

  -- a list of them
  pub numbers_below : (es : List (Exchange P)) (s : State P) → AllAllowed g s es → s.made ≤ n → (run es s).made ≤ n
  numbers_below [] s may le = le
  numbers_below (e ∷ es) s may le = numbers_below es (after s e) may.1 (number_below s e may.0 le)
