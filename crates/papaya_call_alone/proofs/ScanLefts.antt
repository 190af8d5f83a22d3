-- How much is left to a scan after an answer.
use Rattle.std.proofs.Common.{◌≡◌, ◌⊎◌, inl, inr, ℕ, ◌+◌, ◌-◌, ◌*◌, ◌^◌, ◌<◌, ◌≤◌, ◌==◌, ◌||◌}
use Rattle.std.proofs.Common.{nat_lt, Bool, true, false, cond, refl, sym, ap, subst, arith}
use Rattle.std.proofs.Common.{eqb-true, leb-true}
use Rattle.std.proofs.lemmas.Bool.{cond_both}
use Rattle.papaya_call.specs.declared.ask.At.{At}
use Rattle.papaya_call.specs.declared.ask.At.TheVariants as words_at
use Rattle.papaya_call.specs.declared.chain.resizer.Resize.TheVariants.{CopyAll}
use Rattle.papaya_call.specs.declared.chain.resizer.ResizerState.{ResizerState as Stage}
use Rattle.papaya_call.specs.declared.chain.resizer.ResizerState.TheVariants as stages
use Rattle.papaya_call.specs.Resizer as resizers
use Rattle.papaya_call_alone.specs.Measure.{left_of_copying}
use Rattle.papaya_call_alone.specs.Resizers.{IsRoot, IsStageRead, left_of_from, left_of_stage}
use Rattle.papaya_call_alone.proofs.AsideRanks.{link_most}
use Rattle.papaya_call_alone.proofs.Measures.{copying_small}
use Rattle.papaya_call.specs.declared.chain.scanner.Spot.{Spot}
use Rattle.papaya_call.specs.declared.chain.scanner.ScannerState.{ScannerState}
use Rattle.papaya_call.specs.declared.chain.scanner.ScannerState.TheVariants.{Copying, AtRoot, Sizing, Looking, Giving, Showing, Burying, Uncounting, Done, Refused}
use Rattle.papaya_call.specs.Scanner.{IsValidIn, at_root, copied, found_by, looks, next}
use Rattle.papaya_call_alone.specs.Scanners.{IsScanRead, left_in_table, left_of_scan, left_of_slot, left_of_spot}
use Rattle.papaya_words.specs.declared.resize_mode.ResizeMode.{ResizeMode}

-- a copy of all within its tables has little left
from_little : (from root left : ℕ) → left < 2 ^ 104 → left_of_from from root left < 2 ^ 122
from_little from root left small = cond_both (from == 0 || root == from) left (left + 2 ^ 121) (λ y. y < 2 ^ 122) (λ _. omega (arith, small))
    (λ _. omega (arith, small))

stage_little : (root : ℕ) (stage : Stage) → resizers.IsValidIn stage → left_of_stage root stage < 2 ^ 122
stage_little root stages.AtRoot h = omega arith
stage_little root (stages.Making room) h = omega arith
stage_little root (stages.Opening table) h = omega arith
stage_little root (stages.Sizing table) h = omega arith
stage_little root (stages.Counting table len) h = omega arith
stage_little root (stages.Looking table len room) h = omega arith
stage_little root (stages.Linking link) h = let l = link_most link in omega (arith, l)
stage_little root (stages.Copying from copying) h = from_little from root (left_of_copying copying) (copying_small copying h)
stage_little root stages.Done h = omega arith
stage_little root (stages.Refused refused) h = omega arith

module _ (words : At → ℕ) where
  -- the steps left in a table, by its next one
  table_less : (t a b : ℕ) → a < b → left_in_table words t a < left_in_table words t b
  table_less t a b less = by_next (words (words_at.Next t) == 0)
    where
      by_next : (last : Bool) → cond last a (a + 2 ^ 131) < cond last b (b + 2 ^ 131)
      by_next true = less
      by_next false = omega (arith, less)

  table_least : (t a : ℕ) → a ≤ left_in_table words t a
  table_least t a = cond_both (words (words_at.Next t) == 0) a (a + 2 ^ 131) (λ y. a ≤ y) (λ _. omega arith) (λ _. omega arith)

  table_most : (t a : ℕ) → left_in_table words t a ≤ a + 2 ^ 131
  table_most t a = cond_both (words (words_at.Next t) == 0) a (a + 2 ^ 131) (λ y. y ≤ a + 2 ^ 131) (λ _. omega arith) (λ _. omega arith)

  -- the last table
  table_last : (t a : ℕ) → words (words_at.Next t) ≡ 0 → left_in_table words t a ≡ a
  table_last t a none = ap (λ n. cond (n == 0) a (a + 2 ^ 131)) none

  -- one with a next table
  table_further : (t a : ℕ) → 0 < words (words_at.Next t) → left_in_table words t a ≡ a + 2 ^ 131
  table_further t a more = cond_both (words (words_at.Next t) == 0) a (a + 2 ^ 131) (λ y. y ≡ a + 2 ^ 131)
      (λ none. absurd (let e = eqb-true (words (words_at.Next t)) 0 none in omega (arith, e, more))) (λ _. refl)

  -- less is left when the scan looks at a slot
  looks_less : (spot : Spot) (left : ℕ) → 0 < left → left_of_slot spot 4 < left → left_of_scan words (looks spot) < left_in_table words spot.table left
  looks_less spot left some less =
      cond_both (nat_lt spot.slot spot.len) (Looking spot) Done (λ y. left_of_scan words y < left_in_table words spot.table left)
      (λ _. table_less spot.table (left_of_slot spot 4) left less)
      (λ _. let l = table_least spot.table left in omega (arith, some, l))

  -- and when it looks at the next one
  pub next_less : (spot : Spot) (here : ℕ) → 0 < here → left_of_scan words (next spot) < left_of_spot words spot here
  next_less spot here some =
      cond_both (nat_lt (spot.slot + 1) spot.len) (Looking (record spot { slot = spot.slot + 1 })) Done
      (λ y. left_of_scan words y < left_of_spot words spot here)
      (λ within. let lt = lt_of within in table_less spot.table ((spot.len - (spot.slot + 1) - 1) * 4 + 4) (left_of_slot spot here) (omega (arith, lt, some)))
      (λ _. let l = table_least spot.table (left_of_slot spot here) in omega (arith, some, l))
    where
      lt_of : nat_lt (spot.slot + 1) spot.len ≡ true → spot.slot + 1 < spot.len
      lt_of e = leb-true _ _ e

  -- from one word of a slot to another
  pub here_less : (spot : Spot) (a b : ℕ) → a < b → left_of_spot words spot a < left_of_spot words spot b
  here_less spot a b less = table_less spot.table (left_of_slot spot a) (left_of_slot spot b) (omega (arith, less))

  -- when a table with a next one makes the scan copy all
  pub again_less : (spot : Spot) (here : ℕ) → 0 < words (words_at.Next spot.table) → left_of_scan words (Copying stages.AtRoot) < left_of_spot words spot here
  again_less spot here more = let e = table_further spot.table (left_of_slot spot here) more in omega (arith, e)

  -- when the size of a table is known
  pub first_less : (spot : Spot) → spot.len ≤ 2 ^ 32 → left_of_scan words (looks spot) < left_of_scan words (Sizing spot.table)
  first_less spot most = looks_less spot (2 ^ 40) (omega arith) (omega (arith, most))

  -- when the root is scanned
  pub root_less : (root : ℕ) → left_of_scan words (at_root root) < left_of_scan words AtRoot
  root_less root =
      cond_both (root == 0) Done (Sizing root) (λ y. left_of_scan words y < left_of_scan words AtRoot) (λ _. omega arith)
      (λ _. let l = table_most root (2 ^ 40) in omega (arith, l))

  -- a scanner within its tables has little left
  slot_small : (spot : Spot) (here : ℕ) → spot.len ≤ 2 ^ 32 → here ≤ 4 → left_of_spot words spot here < 2 ^ 192
  slot_small spot here most few = let l = table_most spot.table (left_of_slot spot here) in omega (arith, l, most, few)

  pub scan_small : (mode : ResizeMode) (state : ScannerState) → IsValidIn state → IsScanRead mode words state → left_of_scan words state < 2 ^ 192
  scan_small mode (Copying stage) h read = let l = stage_little (words words_at.Root) stage h in omega (arith, l)
  scan_small mode AtRoot h read = omega arith
  scan_small mode (Sizing table) h read = let l = table_most table (2 ^ 40) in omega (arith, l)
  scan_small mode (Looking spot) h read = slot_small spot 4 read.most (omega arith)
  scan_small mode (Giving spot word) h read = slot_small spot 3 read.most (omega arith)
  scan_small mode (Showing spot word) h read = slot_small spot 3 read.0.most (omega arith)
  scan_small mode (Burying spot word) h read = slot_small spot 2 read.0.most (omega arith)
  scan_small mode (Uncounting spot) h read = slot_small spot 1 read.most (omega arith)
  scan_small mode Done h read = omega arith
  scan_small mode (Refused refused) h read = omega arith

  -- the copy of all ends at a root without a next table, or if there is no root
  abbrev pub IsLastFound : (from to : Stage) → Type 0
  IsLastFound from stages.Done = (found_by from ≡ 0)
      ⊎ (IsRoot words (found_by from) × (words (words_at.Next (found_by from)) ≡ 0))
  IsLastFound from to = Unit {0}

  found_less : (from left : ℕ) → (from ≡ 0) ⊎ (IsRoot words from × (words (words_at.Next from) ≡ 0)) → left_of_scan words (at_root from) < left + 2 ^ 130
  found_less from left (inl none) = subst (λ f. left_of_scan words (at_root f) < left + 2 ^ 130) (sym none) (omega arith)
  found_less from left (inr (root, none)) =
      cond_both (from == 0) Done (Sizing from) (λ y. left_of_scan words y < left + 2 ^ 130) (λ _. omega arith)
      (λ _. let l = table_last from (2 ^ 40) none in omega (arith, l))

  -- less is left after the copy of all
  pub copied_less : (from to : Stage) (left : ℕ) → IsLastFound from to → left_of_stage (words words_at.Root) to < left
      → left_of_scan words (copied from to) < left + 2 ^ 130
  copied_less from stages.Done left last less = found_less (found_by from) left last
  copied_less from (stages.Refused refused) left last less = omega arith
  copied_less from stages.AtRoot left last less = omega (arith, less)
  copied_less from (stages.Making room) left last less = omega (arith, less)
  copied_less from (stages.Opening table) left last less = omega (arith, less)
  copied_less from (stages.Sizing table) left last less = omega (arith, less)
  copied_less from (stages.Counting table len) left last less = omega (arith, less)
  copied_less from (stages.Looking table len room) left last less = omega (arith, less)
  copied_less from (stages.Linking link) left last less = omega (arith, less)
  copied_less from (stages.Copying root copying) left last less = omega (arith, less)

  -- and the words that were read are unchanged
  found_read : (mode : ResizeMode) (from : ℕ) → (from ≡ 0) ⊎ (IsRoot words from × (words (words_at.Next from) ≡ 0)) → IsScanRead mode words (at_root from)
  found_read mode from (inl none) = subst (λ f. IsScanRead mode words (at_root f)) (sym none) tt
  found_read mode from (inr (root, none)) = cond_both (from == 0) Done (Sizing from) (IsScanRead mode words) (λ _. tt) (λ _. root)

  pub copied_read : (mode : ResizeMode) (from to : Stage) → IsLastFound from to → IsStageRead mode words CopyAll to → IsScanRead mode words (copied from to)
  copied_read mode from stages.Done last read = found_read mode (found_by from) last
  copied_read mode from (stages.Refused refused) last read = tt
  copied_read mode from stages.AtRoot last read = read
  copied_read mode from (stages.Making room) last read = read
  copied_read mode from (stages.Opening table) last read = read
  copied_read mode from (stages.Sizing table) last read = read
  copied_read mode from (stages.Counting table len) last read = read
  copied_read mode from (stages.Looking table len room) last read = read
  copied_read mode from (stages.Linking link) last read = read
  copied_read mode from (stages.Copying root copying) last read = read
