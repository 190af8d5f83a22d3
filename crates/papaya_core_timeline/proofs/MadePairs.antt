-- A pair that was made has the value that its call had, and still has.
use Rattle.std.proofs.Common.{◌≡◌, ℕ, length, Bool, Some, ◌⊎◌, inl, inr, sym, ◌∙◌, ap, refl}
use Rattle.papaya_words.specs.declared.limits.TheConstants.{MAX_LOG_LEN}
use Rattle.papaya_call.specs.declared.ask.Ask.TheVariants.{MakePair, MakePairOf}
use Rattle.papaya_call.specs.declared.ask.Answer.{Answer as Call_answer}
use Rattle.papaya_call.specs.declared.ask.Answer.TheVariants.{Made as Made_number}
use Rattle.papaya_call.specs.Answers.{Says}
use Rattle.papaya_call.specs.declared.chain.ask.Ask.{Ask}
use Rattle.papaya_call.specs.declared.chain.ask.Ask.TheVariants as asks
use Rattle.papaya_call.specs.declared.chain.ask.Answer.{Answer}
use Rattle.papaya_call.specs.declared.chain.ask.Answer.TheVariants as answers
use Rattle.papaya_call_law.specs.Says.{MakesPair}
use Rattle.papaya_core_store.specs.declared.pairs.Part.{Part}
use Rattle.papaya_core_store.specs.declared.pairs.Part.TheVariants.{Logged}
use Rattle.papaya_core_store.specs.declared.pairs.Running.{Running}
use Rattle.papaya_core_store.specs.Asks.{PerformsAsk}
use Rattle.papaya_core_store.specs.Pairs.{brought_by, key_in, value_at, value_in}
use Rattle.papaya_core_store.specs.Performs.{HasNoPair, HasNoPairOf, PushesOf, PushesOwn, PushesPair, Performs, Refuses, Stays, own_key, own_value}
use Rattle.papaya_core_store.specs.Store.{StoreState, Stored, pair_of}
use Rattle.papaya_core_store.proofs.Logs.{key_from-same, pair_logged}
use Rattle.papaya_core_timeline.proofs.StoreLemmas.{matched}

-- the call asks for a pair
abbrev pub MakesOver : Ask → Type 0
MakesOver (asks.Call ask) = MakesPair ask
MakesOver (asks.Copy ask) = ⊥

module _ {K V S A : Type 0} (s : StoreState K V S) (r : Running K V A) (s' : StoreState K V S) (r' : Running K V A) where
  -- The facts about such a pair.
  pub record IsMadeNow (n : ℕ) : Type 0 where
    pub pair : Stored K V
    pub there : pair_of s' n ≡ Some pair
    pub number : n ≡ length s.pairs
    pub before : own_value s r ≡ Some pair.value
    pub after : own_value s' r' ≡ Some pair.value

module _ {K V S A : Type 0} (eq : K → K → Bool) (says : Says K V A) (refuse : Bool) (s : StoreState K V S) (r : Running K V A) (s' : StoreState K V S)
    (r' : Running K V A) where
  module _ (valued : (part : Part V) → r.value ≡ Some part → (v : V) × (value_in s.pairs part ≡ Some v)) (told : Call_answer) (n : ℕ)
      (is : told ≡ Made_number n) where
    -- it was stored in the arena
    logged_now : (key left : Part K) (k : K) → key_in s.pairs key ≡ Some k → PushesPair key left told s r s' r' → IsMadeNow s r s' r' n
    logged_now key left k key_is logs =
        let (value, has, e, few, grown, moved) = logs in
        let (v, there) = valued value has in
        let value_is : own_value s r ≡ Some v = ap (value_at s.pairs) has ∙ there in
        let number : n ≡ length s.pairs = (let f : Made_number n ≡ Made_number (length s.pairs) = sym is ∙ e in cc) in
        let l = pair_logged s r s' r' key left told k v key_is value_is logs in
        record {
          pair = record { number = length s.pairs; key = k; value = v };
          there = ap (pair_of s') number
              ∙ l.pair;
          number = number;
          before = value_is;
          after = l.value;
        }

    own_now : (k : K) → own_key s r ≡ Some k → Performs eq says refuse MakePair s r told s' r' → IsMadeNow s r s' r' n
    own_now k own h = matched (IsMadeNow s r s' r' n) refuse _ _ h (λ _ none. let f = sym is ∙ none.0 in absurd cc) (λ _ makes. by_cases makes)
      where
        by_cases : (Refuses MAX_LOG_LEN (length s.pairs) told × Stays s r s' r') ⊎ (HasNoPair told r × Stays s r s' r') ⊎ PushesOwn told s r s' r'
            → IsMadeNow s r s' r' n
        by_cases (inl (inl e, stays)) = let f = sym is ∙ e in absurd cc
        by_cases (inl (inr (e, full), stays)) = let f = sym is ∙ e in absurd cc
        by_cases (inr (inl (has, stays))) = let f = sym is ∙ has.0 in absurd cc
        by_cases (inr (inr logs)) = logged_now r.key (Logged (brought_by (length s.pairs) r.key)) k own logs

    of_now : (m : ℕ) (p : Stored K V) → pair_of s m ≡ Some p → Performs eq says refuse (MakePairOf m) s r told s' r' → IsMadeNow s r s' r' n
    of_now m p as_loaded h = matched (IsMadeNow s r s' r' n) refuse _ _ h (λ _ none. let f = sym is ∙ none.0 in absurd cc) (λ _ makes. by_cases makes)
      where
        by_cases : (Refuses MAX_LOG_LEN (length s.pairs) told × Stays s r s' r') ⊎ (HasNoPairOf m told s r × Stays s r s' r')
            ⊎ PushesOf m told s r s' r' → IsMadeNow s r s' r' n
        by_cases (inl (inl e, stays)) = let f = sym is ∙ e in absurd cc
        by_cases (inl (inr (e, full), stays)) = let f = sym is ∙ e in absurd cc
        by_cases (inr (inl (has, stays))) = let f = sym is ∙ has.0 in absurd cc
        by_cases (inr (inr (first, from, logs))) = logged_now (Logged first) r.key p.key (key_from-same s m p as_loaded first from) logs

  -- for a step
  pub pair_made_now : (hash : S → K → ℕ) (ask : Ask) (a : Answer) → PerformsAsk eq says hash refuse ask s r a s' r' → MakesOver ask → (n : ℕ)
      → a ≡ answers.Call (Made_number n) → (k : K) → own_key s r ≡ Some k → ((part : Part V) → r.value ≡ Some part → (v : V) × (value_in s.pairs part ≡ Some v))
      → ((m : ℕ) → ask ≡ asks.Call (MakePairOf m) → (p : Stored K V) × (pair_of s m ≡ Some p)) → IsMadeNow s r s' r' n
  pair_made_now hash (asks.Call MakePair) a (told, is, h) makes n e k own valued as_loaded = own_now valued told n
      (let f : answers.Call told ≡ answers.Call (Made_number n) = sym is ∙ e in cc) k own h
  pair_made_now hash (asks.Call (MakePairOf m)) a (told, is, h) makes n e k own valued as_loaded = let (p, there) = as_loaded m refl in
      of_now valued told n (let f : answers.Call told ≡ answers.Call (Made_number n) = sym is ∙ e in cc) m p there h
  pair_made_now hash (asks.Call ask) a h makes n e k own valued as_loaded = absurd makes
  pair_made_now hash (asks.Copy ask) a h makes n e k own valued as_loaded = absurd makes
