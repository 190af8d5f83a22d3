-- A history is the same by the changes of its log alone. Two histories that are each a beginning of the other are one, so what holds at
-- some point between them holds of both.
use Rattle.std.proofs.Common.{◌≡◌, Bool, true, Option, None, Some, List, [], ◌∷◌, ◌++◌, length, refl, sym, ap, ◌∙◌, subst, arith, append-nil, length-append}
use Rattle.std.specs.Prelude.{MatchOption, filter, is_some}
use mathlib.Core.List.{IsPrefix}
use Rattle.papaya_map_book.specs.declared.rule.entry.Event.{Event}
use Rattle.papaya_map_book.specs.declared.rule.entry.Event.TheVariants.{Wish, Draw, Begin, Called, Dealt, Stepped}
use Rattle.papaya_map_book.specs.declared.rule.entry.Step.TheVariants.{Open, Claim, Replace, Bury, Link, Mark, Close, Place, Finish, Advance, Promote, Abort, Take}
use Rattle.papaya_map_book.specs.Changes.{is_change}
use Rattle.papaya_map_book.specs.Logs.{Stored}
use Rattle.papaya_map_book.proofs.Logs.{prefix_trans}
use Rattle.papaya_map_lookup.specs.Answers.{IsFoundBetween}
use Rattle.papaya_map_lookup.specs.History.{Change, history_of, key_of, replay}
use Rattle.papaya_map_lookup.proofs.Histories.{history_since}
use Rattle.papaya_map.specs.Frozen.{Finds, FindsKey}

-- two lists that are each a beginning of the other are one
nothing_more : {A : Type 0} (xs more rest : List A) → (xs ++ more) ++ rest ≡ xs → more ≡ []
nothing_more xs [] rest is = refl
nothing_more xs (m ∷ ms) rest is = absurd (omega (arith, ap length is, length-append (xs ++ m ∷ ms) rest, length-append xs (m ∷ ms)))

pub one_of_two : {A : Type 0} (xs ys : List A) → IsPrefix xs ys → IsPrefix ys xs → xs ≡ ys
one_of_two xs ys there back =
    let none = nothing_more xs there.0 back.0 (ap (λ (zs : List _). zs ++ back.0) there.1 ∙ back.1) in
    sym (append-nil xs) ∙ (ap (λ (zs : List _). xs ++ zs) (sym none) ∙ there.1)

module _ {K V S : Type 0} where
  -- the history of a log is that of its changes alone
  history_filtered : (log : List (Event K V S)) → history_of (filter is_change log) ≡ history_of log
  history_filtered [] = refl
  history_filtered (Wish at kind made n ∷ log) = history_filtered log
  history_filtered (Draw b m n ∷ log) = history_filtered log
  history_filtered (Begin b ∷ log) = history_filtered log
  history_filtered (Called b ∷ log) = history_filtered log
  history_filtered (Dealt s n ∷ log) = history_filtered log
  history_filtered (Stepped (Open w) ∷ log) = history_filtered log
  history_filtered (Stepped (Claim t x p) ∷ log) =
      ap (λ (cs : List (Change K (Stored K V))). record { class = key_of p; taken = None; put = Some p } ∷ cs) (history_filtered log)
  history_filtered (Stepped (Replace t x p q) ∷ log) =
      ap (λ (cs : List (Change K (Stored K V))). record { class = key_of p; taken = Some p; put = Some q } ∷ cs) (history_filtered log)
  history_filtered (Stepped (Bury t x p) ∷ log) =
      ap (λ (cs : List (Change K (Stored K V))). record { class = key_of p; taken = Some p; put = None } ∷ cs) (history_filtered log)
  history_filtered (Stepped (Link t w) ∷ log) = history_filtered log
  history_filtered (Stepped (Mark t x p) ∷ log) = history_filtered log
  history_filtered (Stepped (Close t x) ∷ log) = history_filtered log
  history_filtered (Stepped (Place t x p) ∷ log) = history_filtered log
  history_filtered (Stepped (Finish t x p) ∷ log) = history_filtered log
  history_filtered (Stepped (Advance t c) ∷ log) = history_filtered log
  history_filtered (Stepped (Promote t n) ∷ log) = history_filtered log
  history_filtered (Stepped (Abort t) ∷ log) = history_filtered log
  history_filtered (Stepped (Take m) ∷ log) = history_filtered log

  -- logs with the same changes have the same history
  pub same_history : (log log' : List (Event K V S)) → filter is_change log ≡ filter is_change log' → history_of log ≡ history_of log'
  same_history log log' same = sym (history_filtered log) ∙ (ap history_of same ∙ history_filtered log')

  -- and so has a log between two of which that is known
  pub between_same : (own : List (Event K V S)) (old log new : List (Event K V S)) → own ≡ filter is_change old → IsPrefix old log → IsPrefix log new
      → filter is_change new ≡ own → history_of log ≡ history_of new
  between_same own old log new had since until has =
      let same : history_of old ≡ history_of new = same_history old new (sym had ∙ sym has) in
      sym (one_of_two (history_of old) (history_of log) (history_since old log since)
      (subst (IsPrefix (history_of log)) (sym same) (history_since log new until))) ∙ same

module _ {K V A : Type 0} (is_of : A → Stored K V → Type 0) (eq : K → K → Bool) (matches : K → Bool) where
  -- the answer of a lookup between a history and itself
  finds_at : (history seen : List (Change K (Stored K V))) → seen ≡ history → (answer : Option A)
      → MatchOption answer ((k : K) → matches k ≡ true → replay eq seen k ≡ None)
      (λ a. (p : Stored K V) × (matches (key_of p) ≡ true) × (replay eq seen (key_of p) ≡ Some p) × is_of a p)
      → Finds eq history is_of matches answer
  finds_at history seen here None none = λ k is. subst (λ (h : List (Change K (Stored K V))). replay eq h k ≡ None) here (none k is)
  finds_at history seen here (Some a) (p, is, there, of) =
      (p, is, subst (λ (h : List (Change K (Stored K V))). replay eq h (key_of p) ≡ Some p) here there, of)

  pub finds : {S : Type 0} (history : List (Change K (Stored K V))) (old log new : List (Event K V S)) → history_of old ≡ history
      → IsPrefix log new → history_of new ≡ history → (answer : Option A) → IsFoundBetween is_of eq matches (history_of old) (history_of log) answer
      → Finds eq history is_of matches answer
  finds history old log new old_is until new_is answer found =
      let end = subst (IsPrefix (history_of log)) new_is (history_since log new until) in
      let here : found.seen ≡ history = sym (one_of_two history found.seen (subst (λ (h : List _). IsPrefix h found.seen) old_is found.since)
      (prefix_trans found.seen (history_of log) history found.until end)) in
      finds_at history found.seen here answer found.is

-- whether an entry was found
pub finds_key : {K V A : Type 0} (is_of : A → Stored K V → Type 0) (eq : K → K → Bool) (matches : K → Bool) (history : List (Change K (Stored K V)))
    (answer : Option A) → Finds eq history is_of matches answer → FindsKey eq history matches (is_some answer)
finds_key is_of eq matches history None none = none
finds_key is_of eq matches history (Some a) (p, is, there, of) = (p, is, there)
