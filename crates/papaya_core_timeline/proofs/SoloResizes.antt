-- A call that resizes the map and is made alone ends, and has then done its task.
use Rattle.std.proofs.Common.{◌≡◌, ℕ, ◌^◌, ◌+◌, ◌==◌, ◌<◌, ◌≤◌, Bool, true, Option, None, Some, List, ◌++◌, length, refl, sym, ◌∙◌, ap, subst, arith, eqb-true}
use Rattle.std.specs.Cmp.{IsEquivalence}
use mathlib.Core.Path.{fun_ext}
use Rattle.papaya_words.specs.Counter.{count_of}
use Rattle.papaya_call.specs.declared.ask.At.{At}
use Rattle.papaya_call.specs.declared.ask.At.TheVariants.{Root}
use Rattle.papaya_call.specs.declared.call.Reply.{Reply}
use Rattle.papaya_call.specs.declared.call.Reply.TheVariants.{Done as Reply_done}
use Rattle.papaya_call.specs.declared.copy_ask.CopyAsk.{CopyAsk}
use Rattle.papaya_call.specs.declared.copy_ask.CopyAsk.TheVariants as copies
use Rattle.papaya_call.specs.declared.chain.ask.Answer.{Answer}
use Rattle.papaya_call.specs.declared.chain.ask.Answer.TheVariants as answers
use Rattle.papaya_call.specs.declared.chain.resizer.Resize.{Resize}
use Rattle.papaya_call.specs.declared.chain.resizer.Resize.TheVariants as resizes
use Rattle.papaya_call.specs.declared.chain.resizer.Resizer.{Resizer}
use Rattle.papaya_call.specs.declared.chain.resizer.ResizerState.{ResizerState as Stage}
use Rattle.papaya_call.specs.declared.chain.resizer.ResizerState.TheVariants as stages
use Rattle.papaya_call.specs.Resizer.{IsValidIn, after, after_in, asks_in, kind_in}
use Rattle.papaya_call.specs.TableSize.{entries_of}
use Rattle.papaya_call_law.specs.Resizers.{IsStageAsked, IsTrueOfStage, ReliesStage, link_of}
use Rattle.papaya_call_law.specs.ChainAnswers.{LoadedPairs}
use Rattle.papaya_words_law.specs.Code.{Coding, IsHashed}
use Rattle.papaya_words_law.specs.Exchange.{Exchange, Setting, State, run, start}
use Rattle.papaya_words_law.specs.Invariant.{IsKeeping}
use Rattle.papaya_words_law.specs.Meaning.{map_left}
use Rattle.papaya_words_law.proofs.Moments.{run-append}
use Rattle.papaya_words_law.proofs.OneMap.{keeping}
use Rattle.papaya_call_law.specs.TrueAnswers.{word_of}
use Rattle.papaya_call_alone.specs.Budget.{SpendsCopy}
use Rattle.papaya_call_alone.specs.Prompt.{IsBounded}
use Rattle.papaya_call_alone.specs.Resizers.{HasResized, IsResizerRead, IsWhole, left_of_stage, resizer_measure}
use Rattle.papaya_call_alone.proofs.Measures.{measure_less}
use Rattle.papaya_call_alone.proofs.ResizerEnds.{stage_ends}
use Rattle.papaya_call_alone.proofs.ResizerLaw.{stage_current, stage_nears, stage_small}
use Rattle.papaya_words_keys.specs.Hashes.{hash_of}
use Rattle.papaya_core_store.specs.CopyAsks.{PerformsCopy, hash_in}
use Rattle.papaya_core_store.specs.Store.{StoreState, Stored, pair_of}
use Rattle.papaya_core_store.specs.Tables.{table_of, word_at}
use Rattle.papaya_core_timeline.specs.declared.seat.Seat.{Seat}
use Rattle.papaya_core_timeline.specs.declared.seat.Work.TheVariants as works
use Rattle.papaya_core_timeline.specs.declared.trace.Event.{Event}
use Rattle.papaya_core_timeline.specs.Callers.{resizing, with_work}
use Rattle.papaya_core_timeline.specs.Core.{CoreState, IsCore}
use Rattle.papaya_core_timeline.specs.Ends.{budget_of}
use Rattle.papaya_core_timeline.specs.Kept.{CallTrace, IsConsistent, IsLawfulCore, IsResizing, coding_of, low, setting_of, slots_in}
use Rattle.papaya_core_timeline.specs.Resized.{IsLoneResizer, IsNearerResized, IsResized, lone_resizer_measure}
use Rattle.papaya_core_timeline.specs.Resizes.{Resizes}
use Rattle.papaya_core_timeline.proofs.BudgetSpends.{IsSpentAt, budget_bounded, made_low, copied_spends, copy_spent, kept_bounded, write_spends}
use Rattle.papaya_core_timeline.proofs.CallersLemmas.{same_item}
use Rattle.papaya_core_timeline.proofs.CopyAnswers.{Suits, placed}
use Rattle.papaya_core_timeline.proofs.ResizerStands.{resizer_fits, resizer_stands}
use Rattle.papaya_call_law.specs.Copier.{HasWords, IsCopyAsked}
use Rattle.papaya_core_timeline.proofs.LinkWords.{stage_words}
use Rattle.papaya_core_timeline.proofs.HeadlineLemmas.{resize-core}
use Rattle.papaya_core_timeline.proofs.KeptCore.{keys_lawful}
use Rattle.papaya_core_timeline.proofs.KeptLemmas.{IsLawfulKeys, hashed_setting}
use Rattle.papaya_core_timeline.proofs.KeptResized as resized
use Rattle.papaya_core_timeline.proofs.ResizerLaws.{resizer_may, resizer_names}
use Rattle.papaya_core_timeline.proofs.StoreLemmas.{performed_copy, unnumbered}

-- a hash is no count
no_hash : {K V : Type 0} (hash : K → ℕ) (count : ℕ) (o : Option (Stored K V)) → hash_in hash o ≡ answers.Count count → ⊥
no_hash hash count None f = absurd cc
no_hash hash count (Some p) f = absurd cc

-- only an ask for the count has a count as its answer
pub counts : {K V S : Type 0} (eq : K → K → Bool) (hash : S → K → ℕ) (refuse : Bool) (ask : CopyAsk) (s : StoreState K V S) (a : Answer)
    (s' : StoreState K V S) → PerformsCopy eq hash refuse ask s a s' → (count : ℕ) → a ≡ answers.Count count → (count ≡ count_of s.count.sum) × (s' ≡ s)
counts eq hash refuse (copies.Load at) s a s' (is, same) count e = let f = sym is ∙ e in absurd cc
counts eq hash refuse (copies.Exchange at old new) s a s' (told, is, h) count e = let f = sym is ∙ e in absurd cc
counts eq hash refuse (copies.LoadHint t x) s a s' (is, same) count e = let f = sym is ∙ e in absurd cc
counts eq hash refuse (copies.WriteHint t x hint) s a s' (is, same) count e = let f = sym is ∙ e in absurd cc
counts eq hash refuse (copies.SizeOf n) s a s' (is, same) count e = let f = sym is ∙ e in absurd cc
counts eq hash refuse (copies.HashOf n) s a s' (is, fits, same) count e = absurd (no_hash (hash s.hasher) count (pair_of s n) (sym is ∙ e))
counts eq hash refuse (copies.SamePair m n) s a s' (is, same) count e = let f = sym is ∙ e in absurd cc
counts eq hash refuse copies.Count s a s' (is, same) count e = let f : answers.Count count ≡ answers.Count (count_of s.count.sum) = sym e ∙ is in (cc, same)
counts eq hash refuse (copies.MakeTable slots limit chunks) s a s' (told, is, h) count e = let f = sym is ∙ e in absurd cc

module _ {K V S A : Type 0} (eq : K → K → Bool) (hash : S → K → ℕ) (refuse : Bool) (s : CoreState K V S A)
    (law : IsLawfulKeys eq (hash s.store.hasher)) (s' : CoreState K V S A) (event : Event) (reply : Option Reply)
    (x : Resizes eq hash refuse s 0 s' event reply) (core : IsCore s.store s.callers s.mode) (es : List (Exchange (Stored K V)))
    (call_traces : ℕ → CallTrace K V) (kept : IsConsistent eq (hash s.store.hasher) s.mode s.store s.callers es call_traces)
    (read : IsResizerRead (word_at s.store.words) x.before) where
  -- the setting, the coding and the words
  abbrev g : Setting K (Stored K V)
  g = setting_of eq (low (hash s.store.hasher)) s.mode s.store.words.tables

  abbrev c : Coding K (Stored K V)
  c = coding_of (low (hash s.store.hasher))

  abbrev now : State (Stored K V)
  now = run es start

  abbrev resizing_now : IsResizing eq (hash s.store.hasher) s.mode s.store x.before es (call_traces 0)
  resizing_now = kept.resizers 0 x.before x.was

  hashed : IsHashed g c
  hashed = hashed_setting eq (hash s.store.hasher) law s core

  keeps : IsKeeping g now (map_left g es)
  keeps = keeping g hashed.lawful es kept.allowed

  bounded : IsBounded g now
  bounded = kept_bounded eq (hash s.store.hasher) law s.mode s.store s.callers core es call_traces kept

  words_are : word_of g c now ≡ word_at s.store.words
  words_are = fun_ext kept.coded

  read_now : IsResizerRead (word_of g c now) x.before
  read_now = subst (λ words. IsResizerRead words x.before) (sym words_are) read

  -- the table that it is about to link has its words
  words : HasWords g (link_of x.before.state)
  words = stage_words g s.store (λ t. refl) x.before.state resizing_now.links

  abbrev made : List (Exchange (Stored K V))
  made = (resized.left eq (hash s.store.hasher) law refuse s 0 s' event reply x refl es call_traces core kept).made

  abbrev loaded' : LoadedPairs (Stored K V)
  loaded' = (resized.left eq (hash s.store.hasher) law refuse s 0 s' event reply x refl es call_traces core kept).loaded'

  told : IsTrueOfStage g c now x.before.state (call_traces 0).loaded x.answer made loaded'
  told = (resized.left eq (hash s.store.hasher) law refuse s 0 s' event reply x refl es call_traces core kept).told

  -- the words after it
  words'_are : word_of g c (run made now) ≡ word_at s'.store.words
  words'_are = fun_ext (λ at. ap (λ w. word_of g c w at) (sym (run-append es made start))
      ∙ (resized.left eq (hash s.store.hasher) law refuse s 0 s' event reply x refl es call_traces core kept).coded at)

  core' : IsCore s'.store s'.callers s'.mode
  core' = resize-core eq hash refuse s 0 s' event reply x core

  kept' : IsConsistent eq (hash s.store.hasher) s'.mode s'.store s'.callers (es ++ made)
      (resized.call_traces' eq (hash s.store.hasher) law refuse s 0 s' event reply x refl es call_traces core kept)
  kept' = resized.resize_kept eq (hash s.store.hasher) law refuse s 0 s' event reply x refl es call_traces core kept

  pub lawful' : IsLawfulCore eq (hash s'.store.hasher) s'.store s'.callers s'.mode
  lawful' = record {
    core = core';
    law = subst (λ y. (es : _) × ((call_traces : _) × IsConsistent eq (hash y) s'.mode s'.store s'.callers es call_traces))
        (sym (resized.left eq (hash s.store.hasher) law refuse s 0 s' event reply x refl es call_traces core kept).hasher_is) (es ++ made, (_, kept'));
  }

  pub current' : IsResizerRead (word_at s'.store.words) (after x.before x.answer)
  current' = subst (λ words. IsResizerRead words (after x.before x.answer)) words'_are
      (stage_current g c hashed now (map_left g es) keeps bounded x.before.resize x.before.mode x.before.initial x.before.number
      (call_traces 0).loaded resizing_now.relies.mode resizing_now.relies.cut x.before.state resizing_now.relies.stage words read_now x.answer made
      loaded' told)

  -- the task of the call is done
  pub done : reply ≡ Some Reply_done → HasResized (word_of g c (run made now)) g.size x.answer x.before.resize
  done ends = stage_ends g c now (call_traces 0).loaded x.before.mode x.before.initial x.before.number x.answer made loaded' x.before.resize
      x.before.state resizing_now.relies.stage read_now told (sym x.reply_is ∙ ends)

  pub resized_now : reply ≡ Some Reply_done → IsResized x.before.resize s'.store
  resized_now ends = by_resize x.before.resize (done ends)
    where
      by_resize : (resize : Resize) → HasResized (word_of g c (run made now)) g.size x.answer resize → IsResized resize s'.store
      by_resize resizes.Chunk h = tt
      by_resize resizes.CopyAll h = subst (λ words. IsWhole words) words'_are h
      by_resize (resizes.Reserve more) (count, is, some, enough) =
          let (counted, same) = counts eq hash refuse x.ask s.store x.answer s'.store x.performs count is in
          let root : word_of g c (run made now) Root ≡ s'.store.words.root = ap (λ f. f Root) words'_are in (
            subst (λ n. 0 < n) root some,
            subst (λ n. entries_of (n + more) ≤ slots_in (table_of s'.store.words.tables s'.store.words.root))
                (counted ∙ ap (λ (y : StoreState K V S). count_of y.count.sum) (sym same))
                (subst (λ (y : StoreState K V S). entries_of (count + more) ≤ slots_in (table_of y.words.tables s'.store.words.root)) (sym same)
                (subst (λ n. entries_of (count + more) ≤ g.size n) root enough)),
          )

  -- an exchange that is made spends one
  suits : Suits eq hash g c s.store
  suits = record { sizes = λ t. refl; places = λ t. refl; chunks = λ t. refl; numbers = λ p. refl; hashes_of = λ p. refl; sames = λ p q. refl }

  abbrev IsSpent : At → ℕ → Type 0
  IsSpent at new = IsSpentAt eq (hash s.store.hasher) law s.mode s.store s.callers core es call_traces kept s'.store hash refuse at new

  copy_spends : (stage : Stage) → x.before.state ≡ stage
      → ((at : At) (new : ℕ) (e : Exchange (Stored K V)) → IsStageAsked g c now stage at new (call_traces 0).loaded e
      → IsCopyAsked c (kind_in stage) at new now (call_traces 0).loaded.kept e) → (at : At) (old new : ℕ)
      → asks_in stage ≡ Some (copies.Exchange at old new) → (word_at s.store.words at == old) ≡ true → IsSpent at new
  copy_spends stage is copied at old new asked hit =
      let asks : asks_in x.before.state ≡ Some (copies.Exchange at old new) = ap asks_in is ∙ asked in
      let e = resizer_may g c hashed now (map_left g es) keeps x.before (call_traces 0).loaded resizing_now.relies words at old new asks
      (kept.coded at ∙ eqb-true (word_at s.store.words at) old hit) in
      copy_spent eq (hash s.store.hasher) law s.mode s.store s.callers core es call_traces kept at new (kind_in stage) (call_traces 0).loaded.kept e.0
      (copied at new e.0 (subst (λ y. IsStageAsked g c now y at new (call_traces 0).loaded e.0) is e.1)) e.2 e.3
      (placed g c s.store es (call_traces 0).loaded kept.coded kept.made eq hash resizing_now.last resizing_now.carried suits (kind_in stage) 0 at
      (resizer_names g c hashed now (map_left g es) keeps x.before (call_traces 0).loaded resizing_now.relies (copies.Exchange at old new) asks))

  stage_spends : (stage : Stage) → x.before.state ≡ stage → (at : At) (old new : ℕ) → asks_in stage ≡ Some (copies.Exchange at old new)
      → (word_at s.store.words at == old) ≡ true → IsSpent at new
  stage_spends (stages.Opening table) is at old new asked hit =
      let same : copies.Exchange Root 0 table ≡ copies.Exchange at old new = same_item _ _ asked in
      let at_root : Root ≡ at = cc in
      let from : 0 ≡ old = cc in
      let to : table ≡ new = cc in
      let none : s.store.words.root ≡ 0 = eqb-true s.store.words.root 0
      (subst (λ o. (word_at s.store.words Root == o) ≡ true) (sym from) (subst (λ a. (word_at s.store.words a == old) ≡ true) (sym at_root) hit)) in
      let some : 0 < table = subst (ReliesStage g c now (call_traces 0).loaded) is resizing_now.relies.stage in
      let low : table ≤ length s.store.words.tables = made_low eq (hash s.store.hasher) law s.mode s.store s.callers core es call_traces kept table
      (resizing_now.opens table is) in
      subst (λ a. IsSpent a new) at_root (subst (IsSpent Root) to (write_spends s.store.words Root table tt tt (omega (arith, none, some, low))))
  stage_spends (stages.Linking link) is at old new asked hit = copy_spends (stages.Linking link) is (λ at new e h. h) at old new asked hit
  stage_spends (stages.Copying from copying) is at old new asked hit = copy_spends (stages.Copying from copying) is (λ at new e h. h) at old new asked hit
  stage_spends stages.AtRoot is at old new asked hit = absurd cc
  stage_spends (stages.Making room) is at old new asked hit = absurd cc
  stage_spends (stages.Sizing root) is at old new asked hit = absurd cc
  stage_spends (stages.Counting root len) is at old new asked hit = absurd cc
  stage_spends (stages.Looking root len room) is at old new asked hit = absurd cc
  stage_spends stages.Done is at old new asked hit = absurd cc
  stage_spends (stages.Refused refused) is at old new asked hit = absurd cc

  spends : SpendsCopy x.ask x.answer (budget_of s.store) (budget_of s'.store)
  spends = copied_spends eq (hash s.store.hasher) law s.mode s.store s.callers core es call_traces kept s'.store hash refuse x.ask
      (λ at old new same hit. stage_spends x.before.state refl at old new (x.asked ∙ ap (λ y. Some y) same) hit) x.answer x.performs

  few : (budget_of s'.store).exchanges < 2 ^ 128
  few = budget_bounded eq (hash s.store.hasher) law s'.mode s'.store s'.callers core' (es ++ made)
      (resized.call_traces' eq (hash s.store.hasher) law refuse s 0 s' event reply x refl es call_traces core kept) kept'

  -- the measure falls
  pub falls : lone_resizer_measure s' (after x.before x.answer) < lone_resizer_measure s x.before
  falls =
      let stage' : Stage = after_in x.before.resize x.before.mode x.before.initial x.before.number x.answer x.before.state in
      subst (λ n. resizer_measure (budget_of s'.store) n (after x.before x.answer) < lone_resizer_measure s x.before) (ap (λ f. f Root) words'_are)
      (subst (λ n. resizer_measure (budget_of s'.store) (run made now).root (after x.before x.answer) < resizer_measure (budget_of s.store) n
      x.before) (ap (λ f. f Root) words_are)
      (measure_less (budget_of s.store) (budget_of s'.store) (left_of_stage now.root x.before.state) (left_of_stage (run made now).root stage') few
      (stage_small (run made now).root stage' standing')
      (stage_nears g c hashed now (map_left g es) keeps bounded x.before.resize x.before.mode x.before.initial x.before.number (call_traces 0).loaded
      resizing_now.relies.mode resizing_now.relies.cut (budget_of s.store) (budget_of s'.store) x.before.state resizing_now.relies.stage words
      read_now x.answer made loaded' told x.ask x.asked spends)))
    where
      standing' : IsValidIn (after x.before x.answer).state
      standing' =
          let valid = (core.resizers 0 x.before x.was).0 in
          (resizer_stands x.before x.answer valid
          (performed_copy eq hash refuse x.ask s.store x.answer s'.store (unnumbered s.store.words.tables core.sizes)
          (resizer_fits x.before valid x.ask x.asked) x.performs).fit).state

module _ {K V S A H : Type 0} (eq : K → K → Bool) (input : K → List (List ℕ)) (build : S → H) (write : H → List ℕ → H) (finish : H → ℕ)
    (classes : IsEquivalence eq) (respects : (x y : K) → eq x y ≡ true → input x ≡ input y) (refuse : Bool) (s s' : CoreState K V S A) (event : Event) where
  -- the resizer that is alone is the one that steps
  is_before : (z : Resizer) (reply : Option Reply) → IsLoneResizer eq (hash_of input build write finish) s z
      → (x : Resizes eq (hash_of input build write finish) refuse s 0 s' event reply) → z ≡ x.before
  is_before z reply lone x = same_item z x.before (sym (ap (λ (l : List (Seat K V A)). resizing l 0) lone.callers) ∙ x.was)

  -- a step brings it nearer its end
  pub resizer_nears : (z : Resizer) → IsLoneResizer eq (hash_of input build write finish) s z
      → Resizes eq (hash_of input build write finish) refuse s 0 s' event None → IsNearerResized eq (hash_of input build write finish) s z s'
  resizer_nears z lone x =
      let is = is_before z None lone x in
      let law = keys_lawful eq input build write finish classes respects s.store.hasher in
      let read = subst (IsResizerRead (word_at s.store.words)) is lone.read in
      let (es, (call_traces, kept)) = lone.lawful.law in
      record {
        later = after x.before x.answer;
        lone = record {
          callers = x.callers ∙ ap (λ (l : List (Seat K V A)). with_work l 0 (Some (works.Resize (after x.before x.answer)))) lone.callers;
          lawful = lawful' eq (hash_of input build write finish) refuse s law s' event None x lone.lawful.core es call_traces kept read;
          read = current' eq (hash_of input build write finish) refuse s law s' event None x lone.lawful.core es call_traces kept read;
        };
        less = subst (λ y. lone_resizer_measure s' (after x.before x.answer) < lone_resizer_measure s y) (sym is)
            (falls eq (hash_of input build write finish) refuse s law s' event None x lone.lawful.core es call_traces kept read);
      }

  -- and when it is done, its task is done
  pub resizer_done : (z : Resizer) → IsLoneResizer eq (hash_of input build write finish) s z
      → Resizes eq (hash_of input build write finish) refuse s 0 s' event (Some Reply_done) → IsResized z.resize s'.store
  resizer_done z lone x =
      let is = is_before z (Some Reply_done) lone x in
      let law = keys_lawful eq input build write finish classes respects s.store.hasher in
      let read = subst (IsResizerRead (word_at s.store.words)) is lone.read in
      let (es, (call_traces, kept)) = lone.lawful.law in
      subst (λ (y : Resizer). IsResized y.resize s'.store) (sym is)
      (resized_now eq (hash_of input build write finish) refuse s law s' event (Some Reply_done) x lone.lawful.core es call_traces kept read refl)
