-- A map with a pair limit: how many numbers were taken for pairs.
use Rattle.std.proofs.Common.{◌≡◌, ℕ, ◌<◌, ◌≤◌, Bool, List, [], ◌∷◌, Some, MatchOption, subst, arith}
use Rattle.papaya_call.specs.declared.ask.At.TheVariants.{Made as Made_word}
use Rattle.papaya_words_law.specs.Allows.{AllAllowed, Allows}
use Rattle.papaya_words_law.specs.Exchange.{Exchange, Open, Claim, Replace, Bury, Link, Mark, Close}
use Rattle.papaya_words_law.specs.Exchange.{Place, Finish, Advance, Promote, Abort, Take, Setting, State}
use Rattle.papaya_words_law.specs.Exchange.{after, run, start}
use Rattle.papaya_core_store.specs.declared.store.Mode.{Mode}
use Rattle.papaya_core_store.specs.Store.{StoreState, Stored}
use Rattle.papaya_core_timeline.specs.Kept.{IsLawfulCore, low, setting_of}
use Rattle.papaya_core_timeline.specs.declared.seat.Seat.{Seat}

-- exchanges that were allowed take no number past the limit
allowed_most : {K P : Type 0} (g : Setting K P) (n : ℕ) → g.most ≡ Some n → (es : List (Exchange P)) (s : State P) → s.made ≤ n → AllAllowed g s es
    → (run es s).made ≤ n
allowed_most g n is [] s le all = le
allowed_most {K} {P} g n is (e ∷ es) s le (may, all) = allowed_most g n is es (after s e) (step e may) all
  where
    step : (e : Exchange P) → Allows g s e → (after s e).made ≤ n
    step (Open t) may = le
    step (Claim t x p) may = le
    step (Replace t x p q) may = le
    step (Bury t x p) may = le
    step (Link t u) may = le
    step (Mark t x p) may = le
    step (Close t x) may = le
    step (Place t x p) may = le
    step (Finish t x p) may = le
    step (Advance t c) may = le
    step (Promote t u) may = le
    step (Abort t) may = le
    step (Take m) (here, below) = let less : m < n = subst (λ o. MatchOption o (Unit {0}) (λ k. m < k)) is below in omega (arith, less)

-- so no more were taken than the limit allows
pub made_most : {K V S A : Type 0} (eq : K → K → Bool) (hash : K → ℕ) (callers : List (Seat K V A)) (mode : Mode) (store : StoreState K V S)
    → IsLawfulCore eq hash store callers mode → (n : ℕ) → mode.limit ≡ Some n → store.words.made ≤ n
made_most {K} {V} eq hash callers mode store lawful n is =
    let (es, (call_traces, kept)) = lawful.law in
    let g : Setting K (Stored K V) = setting_of eq (low hash) mode store.words.tables in
    let coded : (run es start).made ≡ store.words.made = kept.coded Made_word in
    let most : (run es start).made ≤ n = allowed_most g n is es start (omega arith) kept.allowed in
    omega (arith, coded, most)
