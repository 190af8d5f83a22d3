-- The effect of an answered ask on the arena of pairs and on the shards of the count: an insertion
-- stores at most one pair.
use Rattle.std.proofs.Common.{◌≡◌, inl, inr, ℕ, ◌+◌, ◌≤◌, ◌==◌, length, ◌∙◌, ap, arith, Bool}
use Rattle.std.proofs.lemmas.List.{length_push}
use Rattle.papaya_call.specs.declared.ask.Answer.{Answer as Call_answer}
use Rattle.papaya_call.specs.declared.ask.Ask.{Ask as Call_ask}
use Rattle.papaya_call.specs.declared.ask.Ask.TheVariants.{Load, Exchange, LoadHint, WriteHint}
use Rattle.papaya_call.specs.declared.ask.Ask.TheVariants.{SameKey, ShowNone, ShowPair, SizeOf}
use Rattle.papaya_call.specs.declared.ask.Ask.TheVariants.{MakeKey, MakeValue, MakePair, MakePairOf}
use Rattle.papaya_call.specs.declared.ask.Ask.TheVariants.{MakeTable, AddToShard, Done as Ask_done}
use Rattle.papaya_call.specs.declared.copy_ask.CopyAsk.{CopyAsk}
use Rattle.papaya_call.specs.declared.copy_ask.CopyAsk.TheVariants as copies
use Rattle.papaya_call.specs.Answers.{Says}
use Rattle.papaya_core_store.specs.declared.pairs.Running.{Running}
use Rattle.papaya_core_store.specs.CopyAsks.{PerformsCopy}
use Rattle.papaya_call_law.specs.Says.{MakesPair}
use Rattle.papaya_core_store.specs.Pairs.{pair_with}
use Rattle.papaya_core_store.specs.Performs.{Performs}
use Rattle.papaya_core_store.specs.Store.{StoreState}
use Rattle.papaya_core_store.specs.Tables.{word_at}
use Rattle.papaya_core_timeline.proofs.ShowLemmas.{none_shown, pair_shown}
use Rattle.papaya_core_timeline.proofs.StoreLemmas.{LogsOrNot, matched, of_logs, own_logs}
use Rattle.papaya_seq.specs.Map.{PushesOne}

-- an ask for no pair
abbrev IsPlain : Call_ask → Type 0
IsPlain MakePair = ⊥
IsPlain (MakePairOf n) = ⊥
IsPlain ask = Unit {0}

module _ {K V S : Type 0} where
  -- the arena of pairs and the shards stay
  abbrev pub SamePairs : StoreState K V S → StoreState K V S → Type 0
  SamePairs s s' = (s'.pairs ≡ s.pairs) × (s'.count.shards ≡ s.count.shards)

  same_pairs : (s s' : StoreState K V S) → s' ≡ s → SamePairs s s'
  same_pairs s s' same = (ap (λ (y : StoreState K V S). y.pairs) same, ap (λ (y : StoreState K V S). y.count.shards) same)

  -- so no pair is stored
  pub logs_none : (s s' : StoreState K V S) → SamePairs s s' → PushesOne s s'
  logs_none s s' same =
      let long : length s'.pairs ≡ length s.pairs = ap length same.0 in
      record { pairs = omega (arith, long); shards = same.1 }

  -- after a store that has the pairs which it had
  pub logs_from : (s a b : StoreState K V S) → length a.pairs ≡ length s.pairs → a.count.shards ≡ s.count.shards → PushesOne a b → PushesOne s b
  logs_from s a b long shards logs =
      let most : length b.pairs ≤ length a.pairs + 1 = logs.pairs in
      record { pairs = omega (arith, long, most); shards = logs.shards ∙ shards }

  -- and if no pair was stored since
  pub logs_still : (s a b : StoreState K V S) → PushesOne s a → SamePairs a b → PushesOne s b
  logs_still s a b logs same =
      let long : length b.pairs ≡ length a.pairs = ap length same.0 in
      let most : length a.pairs ≤ length s.pairs + 1 = logs.pairs in
      record { pairs = omega (arith, long, most); shards = same.1 ∙ logs.shards }

  module _ (eq : K → K → Bool) where
    -- a copy stores none
    pub copy_pairs : (hash : S → K → ℕ) (refuse : Bool) (ask : CopyAsk) (s : StoreState K V S) (a : _) (s' : StoreState K V S)
        → PerformsCopy eq hash refuse ask s a s' → SamePairs s s'
    copy_pairs hash refuse (copies.Load at) s a s' (is, same) = same_pairs s s' same
    copy_pairs hash refuse (copies.Exchange at old new) s a s' (told, is, h) =
        matched (SamePairs s s') (word_at s.words at == old) _ _ h
        (λ _ done. (ap (λ (y : StoreState K V S). y.pairs) done.1, ap (λ (y : StoreState K V S). y.count.shards) done.1)) (λ _ lost. same_pairs s s' lost.1)
    copy_pairs hash refuse (copies.LoadHint t x) s a s' (is, same) = same_pairs s s' same
    copy_pairs hash refuse (copies.WriteHint t x hint) s a s'
        (is, same) = (ap (λ (y : StoreState K V S). y.pairs) same, ap (λ (y : StoreState K V S). y.count.shards) same)
    copy_pairs hash refuse (copies.SizeOf n) s a s' (is, same) = same_pairs s s' same
    copy_pairs hash refuse (copies.HashOf n) s a s' (is, hashed, same) = same_pairs s s' same
    copy_pairs hash refuse (copies.SamePair m n) s a s' (is, same) = same_pairs s s' same
    copy_pairs hash refuse copies.Count s a s' (is, same) = same_pairs s s' same
    copy_pairs hash refuse (copies.MakeTable slots limit chunks) s a s' (told, is, h) =
        matched (SamePairs s s') refuse _ _ h (λ _ none. same_pairs s s' none.1)
        (λ _ makes. elim makes [
          | inl refused ↦ same_pairs s s' refused.1
          | inr (is, few, same) ↦
              (ap (λ (y : StoreState K V S). y.pairs) same, ap (λ (y : StoreState K V S). y.count.shards) same)
        ])

module _ {K V S A : Type 0} (eq : K → K → Bool) (says : Says K V A) (refuse : Bool) where
  -- such an ask stores none
  plain_pairs : (ask : Call_ask) (s : StoreState K V S) (r : Running K V A) (a : Call_answer) (s' : StoreState K V S) (r' : Running K V A)
      → IsPlain ask → Performs eq says refuse ask s r a s' r' → SamePairs s s'
  plain_pairs (Load at) s r a s' r' plain (e, stays) = same_pairs s s' stays.0
  plain_pairs (Exchange at old new) s r a s' r' plain (h, moved) =
      matched (SamePairs s s') (word_at s.words at == old) _ _ h
      (λ _ done. (ap (λ (y : StoreState K V S). y.pairs) done.1, ap (λ (y : StoreState K V S). y.count.shards) done.1)) (λ _ lost. same_pairs s s' lost.1)
  plain_pairs (LoadHint t x) s r a s' r' plain (e, stays) = same_pairs s s' stays.0
  plain_pairs (WriteHint t x hint) s r a s' r' plain
      (e, same, moved) = (ap (λ (y : StoreState K V S). y.pairs) same, ap (λ (y : StoreState K V S). y.count.shards) same)
  plain_pairs (SameKey n) s r a s' r' plain (e, stays) = same_pairs s s' stays.0
  plain_pairs ShowNone s r a s' r' plain h = same_pairs s s' (none_shown says s r a s' r' h).store
  plain_pairs (ShowPair n) s r a s' r' plain h = same_pairs s s' (pair_shown says r.machine.call.task n s r a s' r' h).store
  plain_pairs (SizeOf n) s r a s' r' plain (e, stays) = same_pairs s s' stays.0
  plain_pairs MakeKey s r a s' r' plain h = matched (SamePairs s s') refuse _ _ h (λ _ none. same_pairs s s' none.1.0) (λ _ off. same_pairs s s' off.1.0)
  plain_pairs MakeValue s r a s' r' plain h = matched (SamePairs s s') refuse _ _ h (λ _ none. same_pairs s s' none.1.0) (λ _ off. same_pairs s s' off.1.0)
  plain_pairs MakePair s r a s' r' plain h = absurd plain
  plain_pairs (MakePairOf n) s r a s' r' plain h = absurd plain
  plain_pairs (MakeTable slots limit chunks) s r a s' r' plain h =
      matched (SamePairs s s') refuse _ _ h (λ _ none. same_pairs s s' none.1.0)
      (λ _ makes. elim makes.0 [
        | inl refused ↦ same_pairs s s' refused.1
        | inr (is, few, same) ↦
            (ap (λ (y : StoreState K V S). y.pairs) same, ap (λ (y : StoreState K V S). y.count.shards) same)
      ])
  plain_pairs (AddToShard by) s r a s' r' plain
      (e, (number, same), moved) = (ap (λ (y : StoreState K V S). y.pairs) same, ap (λ (y : StoreState K V S). y.count.shards) same)
  plain_pairs (Ask_done reply) s r a s' r' plain (e, stays) = same_pairs s s' stays.0

  -- one for a pair stores at most one
  logs_one : (s : StoreState K V S) (r : Running K V A) (a : Call_answer) (s' : StoreState K V S) (r' : Running K V A) → LogsOrNot s r a s' r' → PushesOne s s'
  logs_one s r a s' r' (inl (none, stays)) = logs_none s s' (same_pairs s s' stays.0)
  logs_one s r a s' r' (inr (key, left, (value, has, is, few, more, later))) =
      let long : length s'.pairs ≡ length s.pairs + 1 = ap (λ (y : StoreState K V S). length y.pairs) more ∙ length_push s.pairs (pair_with key value) in
      record { pairs = omega (arith, long); shards = ap (λ (y : StoreState K V S). y.count.shards) more }

  -- so an insertion stores at most one pair; it has stored none until it asks for its pair
  pub insertion_logs : (ask : Call_ask) (first s : StoreState K V S) (r : Running K V A) (a : Call_answer) (s' : StoreState K V S)
      (r' : Running K V A) → (MakesPair ask → length s.pairs ≡ length first.pairs) → Performs eq says refuse ask s r a s' r' → PushesOne first s → PushesOne first s'
  insertion_logs MakePair first s r a s' r' none h before = logs_from first s s' (none tt) before.shards (logs_one s r a s' r' (own_logs s r a s' r' refuse h))
  insertion_logs (MakePairOf n) first s r a s' r' none h before = logs_from first s s' (none tt) before.shards
      (logs_one s r a s' r' (of_logs s r a s' r' refuse n h))
  insertion_logs (Load at) first s r a s' r' none h before = logs_still first s s' before (plain_pairs (Load at) s r a s' r' tt h)
  insertion_logs (Exchange at old new) first s r a s' r' none h before = logs_still first s s' before (plain_pairs (Exchange at old new) s r a s' r' tt h)
  insertion_logs (LoadHint t x) first s r a s' r' none h before = logs_still first s s' before (plain_pairs (LoadHint t x) s r a s' r' tt h)
  insertion_logs (WriteHint t x hint) first s r a s' r' none h before = logs_still first s s' before (plain_pairs (WriteHint t x hint) s r a s' r' tt h)
  insertion_logs (SameKey n) first s r a s' r' none h before = logs_still first s s' before (plain_pairs (SameKey n) s r a s' r' tt h)
  insertion_logs ShowNone first s r a s' r' none h before = logs_still first s s' before (plain_pairs ShowNone s r a s' r' tt h)
  insertion_logs (ShowPair n) first s r a s' r' none h before = logs_still first s s' before (plain_pairs (ShowPair n) s r a s' r' tt h)
  insertion_logs (SizeOf n) first s r a s' r' none h before = logs_still first s s' before (plain_pairs (SizeOf n) s r a s' r' tt h)
  insertion_logs MakeKey first s r a s' r' none h before = logs_still first s s' before (plain_pairs MakeKey s r a s' r' tt h)
  insertion_logs MakeValue first s r a s' r' none h before = logs_still first s s' before (plain_pairs MakeValue s r a s' r' tt h)
  insertion_logs (MakeTable slots limit chunks) first s r a s' r' none h before = logs_still first s s' before
      (plain_pairs (MakeTable slots limit chunks) s r a s' r' tt h)
  insertion_logs (AddToShard by) first s r a s' r' none h before = logs_still first s s' before (plain_pairs (AddToShard by) s r a s' r' tt h)
  insertion_logs (Ask_done reply) first s r a s' r' none h before = logs_still first s s' before (plain_pairs (Ask_done reply) s r a s' r' tt h)
