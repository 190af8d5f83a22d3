-- In a map with a pair limit, a number was taken for each pair of the arena: a call takes one
-- before it stores a pair.
use Rattle.std.proofs.Common.{◌≡◌, ◌⊎◌, inl, inr, ℕ, ◌+◌, ◌<◌, ◌≤◌, ◌==◌, Bool, true, false, cond}
use Rattle.std.proofs.Common.{[], ◌∷◌, length, Option, Some, None, slice_get, refl, sym, ◌∙◌, ap}
use Rattle.std.proofs.Common.{subst, arith, length-append}
use Rattle.std.specs.Prelude.{◌-◌}
use Rattle.papaya_words.specs.declared.resize_mode.ResizeMode.{ResizeMode}
use Rattle.papaya_call.specs.declared.ask.At.{At}
use Rattle.papaya_call.specs.declared.ask.At.TheVariants.{Root, Next, Aborted, Done, Slot, Made}
use Rattle.papaya_call.specs.declared.ask.Ask.{Ask as Call_ask}
use Rattle.papaya_call.specs.declared.ask.Ask.TheVariants.{Load, Exchange, LoadHint, WriteHint}
use Rattle.papaya_call.specs.declared.ask.Ask.TheVariants.{SameKey, ShowNone, ShowPair, SizeOf}
use Rattle.papaya_call.specs.declared.ask.Ask.TheVariants.{MakeKey, MakeValue, MakePair, MakePairOf}
use Rattle.papaya_call.specs.declared.ask.Ask.TheVariants.{MakeTable, AddToShard, Done as Ask_done}
use Rattle.papaya_call.specs.declared.ask.Answer.{Answer as Call_answer}
use Rattle.papaya_call.specs.declared.ask.Answer.TheVariants.{Exchanged, Made as Made_number}
use Rattle.papaya_call.specs.declared.call.Task.{Task}
use Rattle.papaya_call.specs.declared.copy_ask.CopyAsk.{CopyAsk}
use Rattle.papaya_call.specs.declared.copy_ask.CopyAsk.TheVariants as copies
use Rattle.papaya_call.specs.Answers.{Says}
use Rattle.papaya_call.specs.Made.{wanted}
use Rattle.papaya_call.specs.declared.made.Number.TheVariants.{Wanted, Taken}
use Rattle.papaya_call.specs.declared.chain.ask.Ask.{Ask}
use Rattle.papaya_call.specs.declared.chain.ask.Ask.TheVariants as asks
use Rattle.papaya_call.specs.declared.chain.ask.Answer.{Answer}
use Rattle.papaya_call.specs.declared.chain.ask.Answer.TheVariants as answers
use Rattle.papaya_call.specs.declared.chain.machine.Machine.{Machine}
use Rattle.papaya_call.specs.ChainMachine.{after, ask_of, started}
use Rattle.papaya_call_law.specs.Alone.{IsNumberRead}
use Rattle.papaya_call_alone.specs.Limits.{HasNumber, IsMakingPart, IsNumberTaken, IsPairMade, IsTakeAsk}
use Rattle.papaya_call_alone.proofs.AtLimit.{limit_each, limit_logs, limit_takes}
use Rattle.papaya_core_store.specs.declared.pairs.Running.{Running}
use Rattle.papaya_core_store.specs.Asks.{PerformsAsk}
use Rattle.papaya_core_store.specs.CopyAsks.{PerformsCopy}
use Rattle.papaya_core_store.specs.Pairs.{pair_with}
use Rattle.papaya_core_store.specs.Performs.{Performs}
use Rattle.papaya_core_store.specs.Store.{StoreState}
use Rattle.papaya_core_store.specs.Tables.{Tables, note, put, put_at, put_in, word_at}
use Rattle.papaya_core_timeline.proofs.KeptHints.{by-table}
use Rattle.papaya_core_timeline.proofs.ShowLemmas.{none_shown, pair_shown}
use Rattle.papaya_core_timeline.proofs.StoreLemmas.{LogsOrNot, matched, of_logs, own_logs}

-- a call that begins has read nothing of the numbers
pub begun_number : (limit : Option ℕ) (words : At → ℕ) → IsNumberRead words (wanted limit)
begun_number None words = tt
begun_number (Some most) words = tt

-- how many numbers were taken stays if another word is written
put_at_made : (at : At) (n : ℕ) (w : Tables) (word : ℕ) → (put_at at n w word).made ≡ w.made
put_at_made at n w word = go (n == 0)
  where
    go : (b : Bool) → (cond b w (record w { tables = put_in at (slice_get w.tables (n - 1)) w.tables (n - 1) word })).made ≡ w.made
    go true = refl
    go false = refl

pub put_made : (w : Tables) (at : At) (word : ℕ) → (at ≡ Made → ⊥) → (put w at word).made ≡ w.made
put_made w Root word other = refl
put_made w Made word other = absurd (other refl)
put_made w (Next n) word other = put_at_made (Next n) n w word
put_made w (Aborted n) word other = put_at_made (Aborted n) n w word
put_made w (Done n chunk) word other = put_at_made (Done n chunk) n w word
put_made w (Slot n i) word other = put_at_made (Slot n i) n w word

-- or a hint
note_made : (w : Tables) (t x hint : ℕ) → (note w t x hint).made ≡ w.made
note_made w t x hint = by-table w t x hint (λ v. v.made ≡ w.made) refl (λ table there. refl)

module _ {K V S : Type 0} (s s' : StoreState K V S) where
  -- a copy takes no number
  pub copied_made : (eq : K → K → Bool) (hash : S → K → ℕ) (refuse : Bool) (ask : CopyAsk) (answer : Answer)
      → ((old new : ℕ) → ask ≡ copies.Exchange Made old new → ⊥) → PerformsCopy eq hash refuse ask s answer s' → s'.words.made ≡ s.words.made
  copied_made eq hash refuse (copies.Load at) answer none (is, same) = ap (λ (y : StoreState K V S). y.words.made) same
  copied_made eq hash refuse (copies.Exchange at old new) answer none (told, is, h) =
      matched (s'.words.made ≡ s.words.made) (word_at s.words at == old) _ _ h
      (λ _ done. ap (λ (y : StoreState K V S). y.words.made) done.1
      ∙ put_made s.words at new (λ e. none old new (ap (λ place. copies.Exchange place old new) e)))
      (λ _ lost. ap (λ (y : StoreState K V S). y.words.made) lost.1)
  copied_made eq hash refuse (copies.LoadHint t x) answer none (is, same) = ap (λ (y : StoreState K V S). y.words.made) same
  copied_made eq hash refuse (copies.WriteHint t x hint) answer none (is, same) = ap (λ (y : StoreState K V S). y.words.made) same ∙ note_made s.words t x hint
  copied_made eq hash refuse (copies.SizeOf n) answer none (is, same) = ap (λ (y : StoreState K V S). y.words.made) same
  copied_made eq hash refuse (copies.HashOf n) answer none (is, fits, same) = ap (λ (y : StoreState K V S). y.words.made) same
  copied_made eq hash refuse (copies.SamePair i n) answer none (is, same) = ap (λ (y : StoreState K V S). y.words.made) same
  copied_made eq hash refuse copies.Count answer none (is, same) = ap (λ (y : StoreState K V S). y.words.made) same
  copied_made eq hash refuse (copies.MakeTable slots limit chunks) answer none (told, is, h) =
      matched (s'.words.made ≡ s.words.made) refuse _ _ h (λ _ refused. ap (λ (y : StoreState K V S). y.words.made) refused.1)
      (λ _ makes. elim makes [
        | inl refused ↦ ap (λ (y : StoreState K V S). y.words.made) refused.1
        | inr made ↦ ap
            (λ (y : StoreState K V S). y.words.made) made.2
      ])

  -- The effect of an answered ask on the arena of pairs, and on how many numbers were taken for
  -- them.
  pub record IsLogStep (ask : Ask) (answer : Answer) : Type 0 where
    pub pairs : (length s'.pairs ≡ length s.pairs) ⊎ (IsPairMade ask answer × (length s'.pairs ≡ length s.pairs + 1))
    pub up : s.words.made ≤ s'.words.made
    pub took : IsNumberTaken ask answer → (s.words.made < s'.words.made) × (length s'.pairs ≡ length s.pairs)
    pub still : (IsNumberTaken ask answer → ⊥) → s'.words.made ≡ s.words.made

  -- one that takes no number
  quiet : (ask : Ask) (answer : Answer) → (IsNumberTaken ask answer → ⊥) → (length s'.pairs ≡ length s.pairs)
      ⊎ (IsPairMade ask answer × (length s'.pairs ≡ length s.pairs + 1)) → s'.words.made ≡ s.words.made → IsLogStep ask answer
  quiet ask answer none pairs same = record { pairs = pairs; up = omega (arith, same); took = λ took. absurd (none took); still = λ _. same }

not_taken : (ask : Call_ask) → (IsTakeAsk ask → ⊥) → (told : Call_answer) → IsNumberTaken (asks.Call ask) (answers.Call told) → ⊥
not_taken ask none Exchanged h = none h
not_taken ask none told h = absurd h

module _ {K V S A : Type 0} (eq : K → K → Bool) (says : Says K V A) (hash : S → K → ℕ) (refuse : Bool) (m : Machine) (s s' : StoreState K V S)
    (r r' : Running K V A) (current : IsNumberRead (word_at s.words) m.call.made.number)
    (none : (old new : ℕ) → ask_of m ≡ asks.Copy (copies.Exchange Made old new) → ⊥) where
  stays : (ask : Call_ask) → (IsTakeAsk ask → ⊥) → (told : Call_answer) → s' ≡ s → IsLogStep s s' (asks.Call ask) (answers.Call told)
  stays ask plain told same =
      quiet s s' (asks.Call ask) (answers.Call told) (not_taken ask plain told) (inl (ap (λ (y : StoreState K V S). length y.pairs) same))
      (ap (λ (y : StoreState K V S). y.words.made) same)

  -- an exchange that was made
  other_exchanged : (at : At) (old new : ℕ) → (at ≡ Made → ⊥) → (IsTakeAsk (Exchange at old new) → ⊥) → (told : Call_answer)
      → s' ≡ record s { words = put s.words at new } → IsLogStep s s' (asks.Call (Exchange at old new)) (answers.Call told)
  other_exchanged at old new other plain told done =
      quiet s s' (asks.Call (Exchange at old new)) (answers.Call told) (not_taken (Exchange at old new) plain told)
      (inl (ap (λ (y : StoreState K V S). length y.pairs) done))
      (ap (λ (y : StoreState K V S). y.words.made) done ∙ put_made s.words at new other)

  exchanged : (at : At) (old new : ℕ) → ask_of m ≡ asks.Call (Exchange at old new) → (told : Call_answer) → told ≡ Exchanged
      → s' ≡ record s { words = put s.words at new } → IsLogStep s s' (asks.Call (Exchange at old new)) (answers.Call told)
  exchanged Made old new e told won done =
      let (was, next, kind) = limit_takes m old new e (word_at s.words) current in
      let is : s'.words.made ≡ new = ap (λ (y : StoreState K V S). y.words.made) done in
      let pairs : length s'.pairs ≡ length s.pairs = ap (λ (y : StoreState K V S). length y.pairs) done in
      record {
        pairs = inl pairs;
        up = omega (arith, was, next, is);
        took = λ took. (omega (arith, was, next, is), pairs);
        still = λ none.
            absurd (none (subst (λ a. IsNumberTaken (asks.Call (Exchange Made old new)) (answers.Call a)) (sym won) tt));
      }
  exchanged Root old new e told won done = other_exchanged Root old new (λ f. absurd cc) (λ h. h) told done
  exchanged (Next t) old new e told won done = other_exchanged (Next t) old new (λ f. absurd cc) (λ h. h) told done
  exchanged (Aborted t) old new e told won done = other_exchanged (Aborted t) old new (λ f. absurd cc) (λ h. h) told done
  exchanged (Done t chunk) old new e told won done = other_exchanged (Done t chunk) old new (λ f. absurd cc) (λ h. h) told done
  exchanged (Slot t x) old new e told won done = other_exchanged (Slot t x) old new (λ f. absurd cc) (λ h. h) told done

  lost : (at : At) (old new : ℕ) (told : Call_answer) → (told ≡ Exchanged → ⊥) → s' ≡ s → IsLogStep s s' (asks.Call (Exchange at old new)) (answers.Call told)
  lost at old new told plain same =
      quiet s s' (asks.Call (Exchange at old new)) (answers.Call told) (taken told plain) (inl (ap (λ (y : StoreState K V S). length y.pairs) same))
      (ap (λ (y : StoreState K V S). y.words.made) same)
    where
      taken : (told : Call_answer) → (told ≡ Exchanged → ⊥) → IsNumberTaken (asks.Call (Exchange at old new)) (answers.Call told) → ⊥
      taken Exchanged plain h = plain refl
      taken told plain h = absurd h

  -- a pair was stored in the arena, or not
  logs : (ask : Call_ask) → (IsTakeAsk ask → ⊥) → (told : Call_answer) → ((n : ℕ) → IsPairMade (asks.Call ask) (answers.Call (Made_number n)))
      → LogsOrNot s r told s' r' → IsLogStep s s' (asks.Call ask) (answers.Call told)
  logs ask plain told pairs (inl (unlogged, same)) = stays ask plain told same.0
  logs ask plain told pairs (inr (key, left, (value, has, is, few, grown, moved))) =
      quiet s s' (asks.Call ask) (answers.Call told) (not_taken ask plain told)
      (inr (
        subst (λ a. IsPairMade (asks.Call ask) (answers.Call a)) (sym is) (pairs (length s.pairs)),
        ap
            (λ (y : StoreState K V S). length y.pairs) grown ∙ length-append s.pairs (pair_with key value ∷ []),
      ))
      (ap (λ (y : StoreState K V S). y.words.made) grown)

  call_step : (ask : Call_ask) → ask_of m ≡ asks.Call ask → (told : Call_answer) → Performs eq says refuse ask s r told s' r'
      → IsLogStep s s' (asks.Call ask) (answers.Call told)
  call_step (Load at) e told (is, same) = stays (Load at) (λ h. h) told same.0
  call_step (Exchange at old new) e told (h, moved) =
      matched (IsLogStep s s' (asks.Call (Exchange at old new)) (answers.Call told)) (word_at s.words at == old) _ _ h
      (λ _ done. exchanged at old new e told done.0 done.1) (λ _ found. lost at old new told (λ f. absurd (cc (found.0, f))) found.1)
  call_step (LoadHint t x) e told (is, same) = stays (LoadHint t x) (λ h. h) told same.0
  call_step (WriteHint t x hint) e told (is, same, moved) =
      quiet s s' (asks.Call (WriteHint t x hint)) (answers.Call told) (not_taken (WriteHint t x hint) (λ h. h) told)
      (inl (ap (λ (y : StoreState K V S). length y.pairs) same))
      (ap (λ (y : StoreState K V S). y.words.made) same ∙ note_made s.words t x hint)
  call_step (SameKey n) e told (is, same) = stays (SameKey n) (λ h. h) told same.0
  call_step ShowNone e told h = stays ShowNone (λ h. h) told (none_shown says s r told s' r' h).store
  call_step (ShowPair n) e told h = stays (ShowPair n) (λ h. h) told (pair_shown says r.machine.call.task n s r told s' r' h).store
  call_step (SizeOf n) e told (is, same) = stays (SizeOf n) (λ h. h) told same.0
  call_step MakeKey e told h = stays MakeKey (λ h. h) told (matched (s' ≡ s) refuse _ _ h (λ _ refused. refused.1.0) (λ _ off. off.1.0))
  call_step MakeValue e told h = stays MakeValue (λ h. h) told (matched (s' ≡ s) refuse _ _ h (λ _ refused. refused.1.0) (λ _ off. off.1.0))
  call_step MakePair e told h = logs MakePair (λ h. h) told (λ n. tt) (own_logs s r told s' r' refuse h)
  call_step (MakePairOf n) e told h = logs (MakePairOf n) (λ h. h) told (λ i. tt) (of_logs s r told s' r' refuse n h)
  call_step (MakeTable slots limit chunks) e told h =
      quiet s s' (asks.Call (MakeTable slots limit chunks)) (answers.Call told) (not_taken (MakeTable slots limit chunks) (λ h. h) told)
      (inl (matched (length s'.pairs ≡ length s.pairs) refuse _ _ h (λ _ refused. ap (λ (y : StoreState K V S). length y.pairs) refused.1.0)
      (λ _ makes. elim makes.0 [
        | inl refused ↦ ap (λ (y : StoreState K V S). length y.pairs) refused.1
        | inr (is, few, made) ↦ ap
            (λ (y : StoreState K V S). length y.pairs) made
      ])))
      (matched (s'.words.made ≡ s.words.made) refuse _ _ h (λ _ refused. ap (λ (y : StoreState K V S). y.words.made) refused.1.0)
      (λ _ makes. elim makes.0 [
        | inl refused ↦ ap (λ (y : StoreState K V S). y.words.made) refused.1
        | inr (is, few, made) ↦ ap
            (λ (y : StoreState K V S). y.words.made) made
      ]))
  call_step (AddToShard by) e told (is, (number, same), moved) =
      quiet s s' (asks.Call (AddToShard by)) (answers.Call told) (not_taken (AddToShard by) (λ h. h) told)
      (inl (ap (λ (y : StoreState K V S). length y.pairs) same)) (ap (λ (y : StoreState K V S). y.words.made) same)
  call_step (Ask_done reply) e told (is, same) = stays (Ask_done reply) (λ h. h) told same.0

  copy_step : (ask : CopyAsk) → ask_of m ≡ asks.Copy ask → (answer : Answer) → PerformsCopy eq hash refuse ask s answer s'
      → IsLogStep s s' (asks.Copy ask) answer
  copy_step ask e answer h =
      quiet s s' (asks.Copy ask) answer (λ took. took) (inl (copied_pairs ask h))
      (copied_made s s' eq hash refuse ask answer (λ old new is. none old new (e ∙ ap asks.Copy is)) h)
    where
      copied_pairs : (ask : CopyAsk) → PerformsCopy eq hash refuse ask s answer s' → length s'.pairs ≡ length s.pairs
      copied_pairs (copies.Load at) (is, same) = ap (λ (y : StoreState K V S). length y.pairs) same
      copied_pairs (copies.Exchange at old new) (told, is, h) =
          matched (length s'.pairs ≡ length s.pairs) (word_at s.words at == old) _ _ h
          (λ _ done. ap (λ (y : StoreState K V S). length y.pairs) done.1) (λ _ found. ap (λ (y : StoreState K V S). length y.pairs) found.1)
      copied_pairs (copies.LoadHint t x) (is, same) = ap (λ (y : StoreState K V S). length y.pairs) same
      copied_pairs (copies.WriteHint t x hint) (is, same) = ap (λ (y : StoreState K V S). length y.pairs) same
      copied_pairs (copies.SizeOf n) (is, same) = ap (λ (y : StoreState K V S). length y.pairs) same
      copied_pairs (copies.HashOf n) (is, fits, same) = ap (λ (y : StoreState K V S). length y.pairs) same
      copied_pairs (copies.SamePair i n) (is, same) = ap (λ (y : StoreState K V S). length y.pairs) same
      copied_pairs copies.Count (is, same) = ap (λ (y : StoreState K V S). length y.pairs) same
      copied_pairs (copies.MakeTable slots limit chunks) (told, is, h) =
          matched (length s'.pairs ≡ length s.pairs) refuse _ _ h (λ _ refused. ap (λ (y : StoreState K V S). length y.pairs) refused.1)
          (λ _ makes. elim makes [
            | inl refused ↦ ap (λ (y : StoreState K V S). length y.pairs) refused.1
            | inr made ↦ ap
                (λ (y : StoreState K V S). length y.pairs) made.2
          ])

  pub log_step : (answer : Answer) → PerformsAsk eq says hash refuse (ask_of m) s r answer s' r' → IsLogStep s s' (ask_of m) answer
  log_step answer performs = by_ask (ask_of m) refl performs
    where
      by_ask : (ask : Ask) → ask_of m ≡ ask → PerformsAsk eq says hash refuse ask s r answer s' r' → IsLogStep s s' ask answer
      by_ask (asks.Call ask) e (told, is, h) = subst (IsLogStep s s' (asks.Call ask)) (sym is) (call_step ask e told h)
      by_ask (asks.Copy ask) e (h, same) = copy_step ask e answer h

-- a pair is stored if a part was asked for
pair_logs : (ask : Ask) (answer : Answer) → IsPairMade ask answer → IsMakingPart ask
pair_logs (asks.Call MakePair) answer h = tt
pair_logs (asks.Call (MakePairOf n)) answer h = tt
pair_logs (asks.Call ask) (answers.Call (Made_number n)) h = absurd h
pair_logs (asks.Call ask) answer h = absurd h
pair_logs (asks.Copy ask) answer h = absurd h

module _ {K V S : Type 0} where
  -- If there is a limit, a number was taken for each pair, and for the one that a call is to store.
  abbrev pub IsNumbered : Option ℕ → StoreState K V S → Machine → Type 0
  IsNumbered limit s m = (most : ℕ) → limit ≡ Some most → (length s.pairs ≤ s.words.made) × (HasNumber m → length s.pairs < s.words.made)

  -- this holds as a call begins
  pub numbered_begun : (s : StoreState K V S) (task : Task) (hash : ℕ) (mode : ResizeMode) (initial number : ℕ) (limit : Option ℕ)
      → ((most : ℕ) → limit ≡ Some most → length s.pairs ≤ s.words.made) → IsNumbered limit s (started task hash mode initial number limit)
  numbered_begun s task hash mode initial number limit all most e = (all most e, λ has. let none : Wanted ≡ Taken = sym (ap wanted e) ∙ has in absurd cc)

  -- and after each answer
  pub numbered_more : {A : Type 0} (eq : K → K → Bool) (says : Says K V A) (hash : S → K → ℕ) (refuse : Bool) (m : Machine) (s s' : StoreState K V S)
      (r r' : Running K V A) → IsNumberRead (word_at s.words) m.call.made.number → ((old new : ℕ) → ask_of m ≡ asks.Copy (copies.Exchange Made old new) → ⊥)
      → (answer : Answer) → PerformsAsk eq says hash refuse (ask_of m) s r answer s' r' → (limit : Option ℕ) → m.call.made.limit ≡ limit
      → IsNumbered limit s m → IsNumbered limit s' (after m answer)
  numbered_more eq says hash refuse m s s' r r' current none answer performs limit limit_is numbered most e =
      let step = log_step eq says hash refuse m s s' r r' current none answer performs in
      let before = numbered most e in
      let up = step.up in
      let all = before.0 in (
        elim step.pairs [
          | inl same ↦ omega (arith, all, up, same)
          | inr (logged, more) ↦ let less = before.1 (limit_logs m (pair_logs (ask_of m) answer logged)) in omega (arith, less, up, more)
        ],
        λ has. elim (limit_each m most (limit_is ∙ e) answer has) [
          | inl took ↦ let (less, same) = step.took took in omega (arith, all, less, same)
          | inr (had, unlogged) ↦ elim step.pairs [
            | inl same ↦ let less = before.1 had in omega (arith, less, up, same)
            | inr (logged, more) ↦ absurd (unlogged logged)
          ]
        ],
      )
