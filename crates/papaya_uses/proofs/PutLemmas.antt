-- The entries that legal changes of a map from numbers put in.
use Rattle.std.proofs.Common.{◌≡◌, ◌==◌, ℕ, Bool, true, Option, None, Some, List, [], ◌∷◌, ◌++◌, sym, ◌∙◌, subst}
use Rattle.std.proofs.lemmas.Bool.{eqb-true}
use Rattle.papaya.specs.Threads.{AllLegalChanges, Change, IsChangeOf, IsLegalHistory, Stored, changed, key_of}

-- the last change puts in an entry whose key is equal to that of the change
last_of_class : {K P : Type 0} (same : K → K → Bool) (key : P → K) (m : K → Option P) (before : List (Change K P)) (c : Change K P)
    → AllLegalChanges same key m (before ++ c ∷ []) → (q : P) → c.put ≡ Some q → same c.class (key q) ≡ true
last_of_class same key m [] c legal = legal.0.of_class
last_of_class same key m (d ∷ before) c legal = last_of_class same key (changed same m d) before c legal.1

-- so the entry that a call on a number puts in has that number as its key
pub put_at : {V : Type 0} (n : ℕ) (old new : List (Change ℕ (Stored ℕ V))) (taken : Option (Stored ℕ V)) (q : Stored ℕ V)
    → IsChangeOf (λ key. n == key) old new taken (Some q) → IsLegalHistory (λ a b. a == b) key_of new → key_of q ≡ n
put_at n old new taken q c legal =
    let whole : IsLegalHistory (λ a b. a == b) key_of (c.before ++ c.change ∷ []) = subst (λ (h : List _). IsLegalHistory (λ a b. a == b) key_of h)
    c.is legal in
    let same : (c.change.class == key_of q) ≡ true = last_of_class (λ a b. a == b) key_of (λ _. None) c.before c.change whole q c.put_is in
    sym (eqb-true n c.change.class c.class_is ∙ eqb-true c.change.class (key_of q) same)
