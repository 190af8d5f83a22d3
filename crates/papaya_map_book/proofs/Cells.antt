-- Cells after one of them was written or added.
use Rattle.std.proofs.Common.{◌≡◌, ◌≢◌, ◌⊎◌, inl, inr, ℕ, zero, suc, ◌<◌, ◌≤◌, ◌==◌, Bool, true}
use Rattle.std.proofs.Common.{false, List, [], ◌∷◌, ◌++◌, length, slice_set, refl, ap, ◌∙◌, arith}
use Rattle.std.proofs.lemmas.Bool.Decides.{nat_tests}
use Rattle.std.proofs.lemmas.List.{get_or-set_same, get_or-set_other, get_or_append_left}
use Rattle.logbook.specs.Pages.{Cell, cell}

pub same_or_not : (s t : ℕ) (b : Bool) → (s == t) ≡ b → (s ≡ t) ⊎ (s ≢ t)
same_or_not s t true e = inl (grind (arith, nat_tests))
same_or_not s t false e = inr (grind (arith, nat_tests))

pub cell_same : (cs : List Cell) (k : ℕ) (c : Cell) → k < length cs → cell (slice_set cs k c) k ≡ c
cell_same cs k c l = get_or-set_same cs k c (0, false) l

pub cell_other : (cs : List Cell) (k j : ℕ) (c : Cell) → j ≢ k → cell (slice_set cs k c) j ≡ cell cs j
cell_other cs k j c n = get_or-set_other cs k j c (0, false) n

-- a cell that becomes home leaves the others so
pub home_still : (cs : List Cell) (k j n : ℕ) → k < length cs → (cell cs j).1 ≡ true → (cell (slice_set cs k (n, true)) j).1 ≡ true
home_still cs k j n l h = elim (same_or_not j k (j == k) refl) [
  | inl i ↦ ap (λ (m : ℕ). (cell (slice_set cs k (n, true)) m).1) i ∙ ap (λ (c : Cell). c.1) (cell_same cs k (n, true) l)
  | inr d ↦ ap (λ (c : Cell). c.1) (cell_other cs k j (n, true) d) ∙ h
]

pub cell_left : (cs : List Cell) (k : ℕ) → k < length cs → cell (cs ++ (0, false) ∷ []) k ≡ cell cs k
cell_left cs k l = get_or_append_left cs ((0, false) ∷ []) (0, false) k l

pub cell_past : (cs : List Cell) (k : ℕ) → length cs ≤ k → cell (cs ++ (0, false) ∷ []) k ≡ (0, false)
cell_past [] zero l = refl
cell_past [] (suc k) l = refl
cell_past (c ∷ cs) zero l = absurd (omega arith)
cell_past (c ∷ cs) (suc k) l = cell_past cs k (omega arith)
