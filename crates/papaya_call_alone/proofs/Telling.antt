-- The kinds of answers to a copier, and the words that each answer leaves unchanged.
use Rattle.std.proofs.Common.{◌≡◌, ◌⊎◌, inl, inr, ⊎_elim, ℕ, ◌<◌, ◌==◌, sym, subst}
use Rattle.papaya_words.specs.declared.refused.Refused.{Refused}
use Rattle.papaya_call.specs.declared.ask.At.{At}
use Rattle.papaya_call.specs.declared.ask.Answer.TheVariants.{Exchanged, Found as Found_instead, Made as Made_number, Refused as Was_refused}
use Rattle.papaya_call.specs.declared.copy_ask.CopyAsk.{CopyAsk}
use Rattle.papaya_call.specs.declared.copy_ask.CopyAsk.TheVariants.{Load, Exchange, SizeOf, HashOf, SamePair, Count, MakeTable, LoadHint, WriteHint}
use Rattle.papaya_call.specs.declared.chain.ask.Answer.{Answer}
use Rattle.papaya_call.specs.declared.chain.ask.Answer.TheVariants as answers
use Rattle.papaya_call_law.specs.Alone.{IsPut, IsSame}
use Rattle.papaya_call_law.proofs.ReliesLearn.{by_test}
use Rattle.papaya_call_alone.specs.Budget.{Budget, IsSpent, SpendsCopy}
use Rattle.papaya_call_alone.specs.Prompt.{IsCopyPrompt, IsMaking}

-- the answer spends: a table was made, or a word exchanged
abbrev pub IsSpending : Answer → Type 0
IsSpending (answers.Call Exchanged) = Unit {0}
IsSpending (answers.Call (Made_number n)) = Unit {0}
IsSpending _ = ⊥

-- it spends, or less is left after it
abbrev pub Nears : Answer → (later before : ℕ) → Type 0
Nears answer later before = IsSpending answer ⊎ (later < before)

-- less is left, by a comparison of the remaining steps
pub nearer : (answer : Answer) (a b a' b' : ℕ) → Nears answer a b → (a < b → a' < b') → Nears answer a' b'
nearer answer a b a' b' (inl spends) f = inl spends
nearer answer a b a' b' (inr less) f = inr (f less)

-- the ask is an exchange of this word
abbrev pub IsPutAt : CopyAsk → At → Type 0
IsPutAt (Exchange at old new) other = other ≡ at
IsPutAt _ other = ⊥

module _ (words words' : At → ℕ) (answer : Answer) where
  -- a word that isn't exchanged stays
  pub stays_at : (ask : CopyAsk) → IsCopyPrompt words ask answer words' → (other : At) → (IsPutAt ask other → ⊥) → words' other ≡ words other
  stays_at (Load at) told other else = told.1 other
  stays_at (Exchange at old new) told other else =
      by_test (words at == old) ((answer ≡ answers.Call Exchanged) × IsPut words at new words')
      ((answer ≡ answers.Call (Found_instead (words at))) × IsSame words words') (words' other ≡ words other) told
      (λ e h. h.1.others other else) (λ e h. h.1 other)
  stays_at (LoadHint t x) told other else = told.1 other
  stays_at (WriteHint t x hint) told other else = told.1 other
  stays_at (SizeOf t) told other else = told.1 other
  stays_at (HashOf n) told other else = told.1 other
  stays_at (SamePair m n) told other else = told.1 other
  stays_at Count told other else = told.1 other
  stays_at (MakeTable slots limit chunks) told other else = told.1 other

-- the part that was to be made was made, or making it failed
pub by_making : (Q : Answer → Type 0) (answer : Answer) → IsMaking answer → ((n : ℕ) → Q (answers.Call (Made_number n)))
    → ((refused : Refused) → Q (answers.Call (Was_refused refused))) → Q answer
by_making Q answer told by_made by_refused =
    ⊎_elim
    (λ (h : (n : ℕ) × (answer ≡ answers.Call (Made_number n))). subst Q (sym h.1) (by_made h.0))
    (λ (h : (refused : Refused) × (answer ≡ answers.Call (Was_refused refused))). subst Q (sym h.1) (by_refused h.0))
    told

module _ (words words' : At → ℕ) (before later : Budget) where
  -- it spends of the budget, or leaves the budget and spends nothing
  abbrev pub Spent : CopyAsk → Answer → Type 0
  Spent ask answer = SpendsCopy ask answer before later → IsSpent before later ⊎ ((later ≡ before) × (IsSpending answer → ⊥))

  -- by each ask
  pub spent_by : (ask : CopyAsk) (answer : Answer) → IsCopyPrompt words ask answer words' → Spent ask answer
  spent_by (Load at) answer told = subst (Spent (Load at)) (sym told.0.0) (λ same. inr (same, λ h. h))
  spent_by (Exchange at old new) answer told =
      by_test (words at == old) ((answer ≡ answers.Call Exchanged) × IsPut words at new words')
      ((answer ≡ answers.Call (Found_instead (words at))) × IsSame words words') (Spent (Exchange at old new) answer) told
      (λ e h. subst (Spent (Exchange at old new)) (sym h.0) (λ less. inl (inr less)))
      (λ e h. subst (Spent (Exchange at old new)) (sym h.0) (λ same. inr (same, λ x. x)))
  spent_by (LoadHint t x) answer told = subst (Spent (LoadHint t x)) (sym told.0.1) (λ same. inr (same, λ h. h))
  spent_by (WriteHint t x hint) answer told = subst (Spent (WriteHint t x hint)) (sym told.0) (λ same. inr (same, λ h. h))
  spent_by (SizeOf t) answer told =
      let (slots, limit, size, e) = told.0 in
      subst (Spent (SizeOf t)) (sym e) (λ same. inr (same, λ h. h))
  spent_by (HashOf n) answer told = subst (Spent (HashOf n)) (sym told.0.1) (λ same. inr (same, λ h. h))
  spent_by (SamePair m n) answer told = subst (Spent (SamePair m n)) (sym told.0.1) (λ same. inr (same, λ h. h))
  spent_by Count answer told = subst (Spent Count) (sym told.0.1) (λ same. inr (same, λ h. h))
  spent_by (MakeTable slots limit chunks) answer told = by_making (Spent (MakeTable slots limit chunks)) answer told.0 (λ n less. inl (inl less))
      (λ refused same. inr (same, λ h. h))

  -- so the budget is spent, or less is left
  pub copy_spends : (ask : CopyAsk) (answer : Answer) → IsCopyPrompt words ask answer words' → SpendsCopy ask answer before later → (a b : ℕ)
      → Nears answer a b → IsSpent before later ⊎ ((later ≡ before) × (a < b))
  copy_spends ask answer told spends a b nears =
      ⊎_elim (λ (spent : IsSpent before later). inl spent)
      (λ (kept : (later ≡ before) × (IsSpending answer → ⊥)).
      inr (kept.0, ⊎_elim (λ (h : IsSpending answer). absurd (kept.1 h)) (λ (less : a < b). less) nears))
      (spent_by ask answer told spends)
