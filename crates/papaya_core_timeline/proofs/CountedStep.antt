-- How much a step adds to the sum, and by how many pairs it makes the map grow.
use Rattle.std.proofs.Common.{◌≡◌, ℕ, ℤ, pos, negsuc, ◌+ℤ◌, ◌==◌, Bool, List, [], ◌∷◌, Option, Some, ◌⊎◌, inl, inr, refl, sym, ◌∙◌, ap, subst, arith}
use Rattle.std.proofs.Math.IntN.{+ℤ_idr}
use Rattle.std.proofs.lemmas.Int.{ints, int_wrap_fits, SFits-int_wrap}
use Rattle.std.specs.Int.{w64, int_wrap}
use Rattle.papaya_call.specs.Answers.{Says}
use Rattle.papaya_call.specs.declared.ask.At.{At}
use Rattle.papaya_call.specs.declared.ask.At.TheVariants.{Root, Next, Aborted, Done, Slot, Made}
use Rattle.papaya_call.specs.declared.ask.Ask.{Ask as Call_ask}
use Rattle.papaya_call.specs.declared.ask.Ask.TheVariants.{Load, Exchange as Ask_exchange, SameKey}
use Rattle.papaya_call.specs.declared.ask.Ask.TheVariants.{ShowNone, ShowPair, SizeOf, MakeKey}
use Rattle.papaya_call.specs.declared.ask.Ask.TheVariants.{MakeValue, MakePair, MakePairOf}
use Rattle.papaya_call.specs.declared.ask.Ask.TheVariants.{MakeTable, AddToShard, Done as Ask_done}
use Rattle.papaya_call.specs.declared.ask.Ask.TheVariants.{LoadHint, WriteHint}
use Rattle.papaya_call.specs.declared.ask.Answer.{Answer as Call_answer}
use Rattle.papaya_call.specs.declared.ask.StepKind.{StepKind}
use Rattle.papaya_call.specs.declared.ask.StepKind.TheVariants as kinds
use Rattle.papaya_call.specs.declared.copy_ask.CopyAsk.{CopyAsk}
use Rattle.papaya_call.specs.declared.copy_ask.CopyAsk.TheVariants as copies
use Rattle.papaya_call.specs.declared.chain.ask.Ask.{Ask}
use Rattle.papaya_call.specs.declared.chain.ask.Ask.TheVariants as asks
use Rattle.papaya_call.specs.declared.chain.ask.Answer.{Answer}
use Rattle.papaya_call_law.specs.Goes.{grown_by, owed_in}
use Rattle.papaya_call_law.specs.ChainAnswers as chain_told
use Rattle.papaya_words_law.specs.Code.{Coding}
use Rattle.papaya_words_law.specs.Content.{IsCountAfter}
use Rattle.papaya_words_law.specs.Exchange.{Setting, State, Exchange}
use Rattle.papaya_call_law.specs.Owed.{owed_by, grows_of, grows_by}
use Rattle.papaya_call_law.specs.Copier.{IsCopyAsked}
use Rattle.papaya_call_law.specs.TrueAnswers.{IsAsked, IsTrueOf, LoadedPairs, word_of}
use Rattle.papaya_core_store.specs.declared.pairs.Running.{Running}
use Rattle.papaya_core_store.specs.Asks.{PerformsAsk}
use Rattle.papaya_core_store.specs.CopyAsks.{PerformsCopy}
use Rattle.papaya_core_store.specs.Performs.{Performs, MakesTable}
use Rattle.papaya_core_store.specs.Store.{StoreState}
use Rattle.papaya_core_store.specs.Tables.{word_at}
use Rattle.papaya_core_timeline.proofs.ShowLemmas.{none_shown, pair_shown}
use Rattle.papaya_core_timeline.proofs.StoreLemmas.{LogsOrNot, matched, of_logs, own_logs, part_logs}

module _ {K V S : Type 0} where
  -- the sum after a step is that of before, with what the machine owed
  abbrev Adds : ℤ → StoreState K V S → StoreState K V S → Type 0
  Adds owed s s' = int_wrap w64 s'.count.sum ≡ int_wrap w64 (s.count.sum +ℤ owed)

  -- steps that leave the count
  same_count : (s s' : StoreState K V S) → s'.count.sum ≡ s.count.sum → Adds (pos 0) s s'
  same_count s s' e = ap (int_wrap w64) (e ∙ sym (+ℤ_idr s.count.sum))

  quiet : (s s' : StoreState K V S) → s' ≡ s → Adds (pos 0) s s'
  quiet s s' e = same_count s s' (ap (λ (y : StoreState K V S). y.count.sum) e)

  table_made : (slots limit chunks : ℕ) (s : StoreState K V S) (a : Call_answer) (s' : StoreState K V S) (Not : Type 0) → (Not × (s' ≡ s))
      ⊎ MakesTable a slots limit chunks s s' → Adds (pos 0) s s'
  table_made slots limit chunks s a s' Not (inl h) = quiet s s' h.1
  table_made slots limit chunks s a s' Not (inr (is, few, grown)) = same_count s s' (ap (λ (y : StoreState K V S). y.count.sum) grown)

module _ {K V S A : Type 0} where
  -- nor does a key, a value or a pair that was made
  made_nothing : (s : StoreState K V S) (r : Running K V A) (a : Call_answer) (s' : StoreState K V S) (r' : Running K V A) → LogsOrNot s r a s' r'
      → Adds (pos 0) s s'
  made_nothing s r a s' r' (inl (unlogged, stays)) = quiet s s' stays.0
  made_nothing s r a s' r' (inr (key, left, (value, has, is, few, grown, moved))) = same_count s s' (ap (λ (y : StoreState K V S). y.count.sum) grown)

module _ {K V S A : Type 0} (eq : K → K → Bool) (says : Says K V A) where
  -- each ask of the call itself
  sum_called : (refuse : Bool) (ask : Call_ask) (s : StoreState K V S) (r : Running K V A) (a : Call_answer) (s' : StoreState K V S)
      (r' : Running K V A) → Performs eq says refuse ask s r a s' r' → Adds (owed_by ask) s s'
  sum_called refuse (Load at) s r a s' r' h = quiet s s' h.1.0
  sum_called refuse (Ask_exchange at old new) s r a s' r' h =
      matched (Adds (pos 0) s s') (word_at s.words at == old) _ _ h.0
      (λ _ done. same_count s s' (ap (λ (y : StoreState K V S). y.count.sum) done.1))
      (λ _ lost. quiet s s' lost.1)
  sum_called refuse (SameKey n) s r a s' r' h = quiet s s' h.1.0
  sum_called refuse ShowNone s r a s' r' h = quiet s s' (none_shown says s r a s' r' h).store
  sum_called refuse (ShowPair n) s r a s' r' h = quiet s s' (pair_shown says r.machine.call.task n s r a s' r' h).store
  sum_called refuse (LoadHint t x) s r a s' r' h = quiet s s' h.1.0
  sum_called refuse (WriteHint t x hint) s r a s' r' h = same_count s s' (ap (λ (y : StoreState K V S). y.count.sum) h.1)
  sum_called refuse (SizeOf n) s r a s' r' h = quiet s s' h.1.0
  sum_called refuse MakeKey s r a s' r' h = made_nothing s r a s' r' (part_logs s r a s' r' refuse h)
  sum_called refuse MakeValue s r a s' r' h = made_nothing s r a s' r' (part_logs s r a s' r' refuse h)
  sum_called refuse MakePair s r a s' r' h = made_nothing s r a s' r' (own_logs s r a s' r' refuse h)
  sum_called refuse (MakePairOf n) s r a s' r' h = made_nothing s r a s' r' (of_logs s r a s' r' refuse n h)
  sum_called refuse (MakeTable slots limit chunks) s r a s' r' h = matched (Adds (pos 0) s s') refuse _ _ h (λ _ none. quiet s s' none.1.0)
      (λ _ makes. table_made slots limit chunks s a s' _ makes.0)
  sum_called refuse (AddToShard by) s r a s' r' h =
      let sum : ℤ = s.count.sum +ℤ by in
      ap (λ (y : StoreState K V S). int_wrap w64 y.count.sum) h.1.1 ∙ int_wrap_fits w64 (int_wrap w64 sum) (SFits-int_wrap w64 sum)
  sum_called refuse (Ask_done reply) s r a s' r' h = quiet s s' h.1.0

  module _ (hash : S → K → ℕ) where
    -- a copy adds nothing
    sum_copied : (refuse : Bool) (ask : CopyAsk) (s : StoreState K V S) (a : Answer) (s' : StoreState K V S) → PerformsCopy eq hash refuse ask s a s'
        → Adds (pos 0) s s'
    sum_copied refuse (copies.Load at) s a s' h = quiet s s' h.1
    sum_copied refuse (copies.Exchange at old new) s a s' (told, is, h) =
        matched (Adds (pos 0) s s') (word_at s.words at == old) _ _ h
        (λ _ done. same_count s s' (ap (λ (y : StoreState K V S). y.count.sum) done.1))
        (λ _ lost. quiet s s' lost.1)
    sum_copied refuse (copies.LoadHint t x) s a s' h = quiet s s' h.1
    sum_copied refuse (copies.WriteHint t x hint) s a s' h = same_count s s' (ap (λ (y : StoreState K V S). y.count.sum) h.1)
    sum_copied refuse (copies.SizeOf n) s a s' h = quiet s s' h.1
    sum_copied refuse (copies.HashOf n) s a s' h = quiet s s' h.2
    sum_copied refuse (copies.SamePair m n) s a s' h = quiet s s' h.1
    sum_copied refuse copies.Count s a s' h = quiet s s' h.1
    sum_copied refuse (copies.MakeTable slots limit chunks) s a s' (told, is, h) = matched (Adds (pos 0) s s') refuse _ _ h
        (λ _ none. quiet s s' none.1) (λ _ makes. table_made slots limit chunks s told s' _ makes)

    -- each ask
    pub sum_performed : (refuse : Bool) (ask : Ask) (s : StoreState K V S) (r : Running K V A) (a : Answer) (s' : StoreState K V S)
        (r' : Running K V A) → PerformsAsk eq says hash refuse ask s r a s' r' → Adds (owed_in ask) s s'
    sum_performed refuse (asks.Call ask) s r a s' r' (told, is, h) = sum_called refuse ask s r told s' r' h
    sum_performed refuse (asks.Copy ask) s r a s' r' (h, same) = sum_copied refuse ask s a s' h

-- the exchange makes the map grow by this much
abbrev pub Grows : {P : Type 0} → ℤ → Exchange P → Type 0
Grows by e = (before now : ℕ) → IsCountAfter e before now → pos now ≡ pos before +ℤ by

module _ {K P : Type 0} (g : Setting K P) (c : Coding K P) (k : K) (s : State P) (loaded : LoadedPairs P) (new : ℕ) where
  -- by the kind of the exchange
  asked_grows : (kind : Option StepKind) (at : At) (e : Exchange P) → IsAsked g c k kind at new s loaded e → Grows (grows_of kind) e
  asked_grows (Some kinds.Open) Root e is = subst (Grows (pos 0)) (sym is) (λ before now count. omega (arith, ints, count))
  asked_grows (Some kinds.Claim) (Slot t x) e (q, own, key, is) = subst (Grows (pos 1)) (sym is) (λ before now count. omega (arith, ints, count))
  asked_grows (Some kinds.Replace) (Slot t x) e (p, q, live, own, key, is) = subst (Grows (pos 0)) (sym is) (λ before now count. omega (arith, ints, count))
  asked_grows (Some kinds.Take) Made e is = subst (Grows (pos 0)) (sym is) (λ before now count. omega (arith, ints, count))
  asked_grows (Some kinds.Bury) (Slot t x) e (q, live, is) = subst (Grows (negsuc 0)) (sym is) (λ before now count. omega (arith, ints, count))
  asked_grows _ _ e h = absurd h

-- by the kind of a copy's exchange: the map stays as large
copy_grows : {K P : Type 0} (c : Coding K P) (kind : Option StepKind) (at : At) (new : ℕ) (s : State P) (kept : Option P) (e : Exchange P)
    → IsCopyAsked c kind at new s kept e → Grows (pos 0) e
copy_grows c (Some kinds.Link) (Next t) new s kept e is = subst (Grows (pos 0)) (sym is) (λ before now count. omega (arith, ints, count))
copy_grows c (Some kinds.Mark) (Slot t x) new s kept e (p, stood, is) = subst (Grows (pos 0)) (sym is) (λ before now count. omega (arith, ints, count))
copy_grows c (Some kinds.Close) (Slot t x) new s kept e is = subst (Grows (pos 0)) (sym is) (λ before now count. omega (arith, ints, count))
copy_grows c (Some kinds.Place) (Slot t x) new s kept e (p, carried, number, is) = subst (Grows (pos 0)) (sym is)
    (λ before now count. omega (arith, ints, count))
copy_grows c (Some kinds.Finish) (Slot t x) new s kept e (p, stood, is) = subst (Grows (pos 0)) (sym is) (λ before now count. omega (arith, ints, count))
copy_grows c (Some kinds.Advance) (Done n chunk) new s kept e is = subst (Grows (pos 0)) (sym is) (λ before now count. omega (arith, ints, count))
copy_grows c (Some kinds.Promote) Root new s kept e is = subst (Grows (pos 0)) (sym is) (λ before now count. omega (arith, ints, count))
copy_grows c (Some kinds.Abort) (Aborted n) new s kept e is = subst (Grows (pos 0)) (sym is) (λ before now count. omega (arith, ints, count))
copy_grows c _ _ new s kept e h = absurd h

-- there was an exchange by which the map grew by this much, or none
abbrev pub IsGrowth : {P : Type 0} → ℤ → List (Exchange P) → Type 0
IsGrowth {P = P} by es = ((es ≡ []) × (by ≡ pos 0)) ⊎ ((e : Exchange P) × (es ≡ e ∷ []) × Grows by e)

module _ {K P : Type 0} (g : Setting K P) (c : Coding K P) (k : K) (s : State P) (kind : Option StepKind) where
  -- the record of an ask of the call itself
  call_grows : (loaded : LoadedPairs P) (ask : Call_ask) (a : Call_answer) (es : List (Exchange P)) (loaded' : LoadedPairs P)
      → IsTrueOf g c k s kind loaded ask a es loaded' → IsGrowth (grows_by kind ask a) es
  call_grows loaded (Ask_exchange at old new) a es loaded' h =
      matched (IsGrowth (grows_by kind (Ask_exchange at old new) a) es) (word_of g c s at == old) _ _ h
      (λ _ done. inr (let asked = done.1 in (
        asked.0,
        asked.2,
        subst (λ y. Grows (grows_by kind (Ask_exchange at old new) y) asked.0) (sym done.0)
            (asked_grows g c k s loaded new kind at asked.0 asked.1),
      )))
      (λ _ lost. inl (lost.1, ap (grows_by kind (Ask_exchange at old new)) lost.0))
  call_grows loaded (Load at) a es loaded' h = inl (h.1, refl)
  call_grows loaded (SameKey n) a es loaded' h = inl (h.1.0, refl)
  call_grows loaded ShowNone a es loaded' h = inl (h.1.0, refl)
  call_grows loaded (ShowPair n) a es loaded' h = inl (h.1.0, refl)
  call_grows loaded (LoadHint t x) a es loaded' h = inl (h.1.0, refl)
  call_grows loaded (WriteHint t x hint) a es loaded' h = inl (h.1.0, refl)
  call_grows loaded (SizeOf t) a es loaded' h = inl (h.1.0, refl)
  call_grows loaded MakeKey a es loaded' h = inl (h.1.0, refl)
  call_grows loaded MakeValue a es loaded' h = inl (h.1.0, refl)
  call_grows loaded MakePair a es loaded' (inl h) = inl (h.1.0, refl)
  call_grows loaded MakePair a es loaded' (inr (q, key, (is, none, made))) = inl (none, refl)
  call_grows loaded (MakePairOf n) a es loaded' (inl h) = inl (h.1.0, refl)
  call_grows loaded (MakePairOf n) a es loaded' (inr (q, key, (is, none, made))) = inl (none, refl)
  call_grows loaded (MakeTable slots limit chunks) a es loaded' h = inl (h.1.0, refl)
  call_grows loaded (AddToShard by) a es loaded' h = inl (h.1.0, refl)
  call_grows loaded (Ask_done reply) a es loaded' h = inl (h.1.0, refl)

  -- the record of an ask of a copy
  copied_grows : (follows : ℕ) (loaded : chain_told.LoadedPairs P) (ask : CopyAsk) (a : Answer) (es : List (Exchange P))
      (loaded' : chain_told.LoadedPairs P) → chain_told.IsTrueOfCopy g c s kind follows loaded ask a es loaded' → IsGrowth (pos 0) es
  copied_grows follows loaded (copies.Exchange at old new) a es loaded' h =
      matched (IsGrowth (pos 0) es) (word_of g c s at == old) _ _ h
      (λ _ done. inr (let asked = done.1 in (asked.0, asked.2, copy_grows c kind at new s loaded.kept asked.0 asked.1)))
      (λ _ lost. inl (lost.1, refl))
  copied_grows follows loaded (copies.Load at) a es loaded' h = inl (h.1, refl)
  copied_grows follows loaded (copies.LoadHint t x) a es loaded' h = inl (h.1.0, refl)
  copied_grows follows loaded (copies.WriteHint t x hint) a es loaded' h = inl (h.1.0, refl)
  copied_grows follows loaded (copies.SizeOf t) a es loaded' h = inl (h.1.0, refl)
  copied_grows follows loaded (copies.HashOf n) a es loaded' h = inl (h.1, refl)
  copied_grows follows loaded (copies.SamePair m n) a es loaded' h = inl (h.1.0, refl)
  copied_grows follows loaded copies.Count a es loaded' h = inl (h.1.0, refl)
  copied_grows follows loaded (copies.MakeTable slots limit chunks) a es loaded' h = inl (h.1.0, refl)

  -- an answer records an exchange by which the map grew by this much, or none
  pub told_grows : (follows : ℕ) (loaded : chain_told.LoadedPairs P) (ask : Ask) (a : Answer) (es : List (Exchange P))
      (loaded' : chain_told.LoadedPairs P) → chain_told.IsTrueOf g c k s kind follows loaded ask a es loaded' → IsGrowth (grown_by kind ask a) es
  told_grows follows loaded (asks.Call ask) a es loaded' h = subst (λ y. IsGrowth (grown_by kind (asks.Call ask) y) es) (sym h.is)
      (call_grows loaded.call ask h.told es h.call h.tells)
  told_grows follows loaded (asks.Copy ask) a es loaded' h = copied_grows follows loaded ask a es loaded' h
