-- If a call of a map for one caller finds no place for its key in the root, or an empty place, its
-- key is absent while no pairs are being moved.
use Rattle.std.proofs.Common.{◌≡◌, inl, inr, ℕ, Bool, false, None, Option, Some, List, ◌++◌, sym, ◌∙◌, ap, subst, refl, arith}
use Rattle.std.proofs.lemmas.Bool.{cases_Bool}
use Rattle.papaya_words.specs.Table.{TableWords}
use Rattle.papaya_call.specs.declared.ask.At.TheVariants.{Next, Root, Slot}
use Rattle.papaya_call.specs.declared.call.Task.{Task}
use Rattle.papaya_call.specs.declared.call.Task.TheVariants.{Insert}
use Rattle.papaya_call.specs.declared.machine.State.TheVariants.{Growing, Writing}
use Rattle.papaya_call.specs.declared.need.Need.{Need}
use Rattle.papaya_call.specs.declared.need.Need.TheVariants.{Room, Pair as Pair_at}
use Rattle.papaya_call.specs.declared.write.Write.{Write}
use Rattle.papaya_call.specs.Machine.{needed}
use Rattle.papaya_words_law.specs.Allows.{AllAllowed}
use Rattle.papaya_words_law.specs.Code.{Coding, IsHashed}
use Rattle.papaya_words_law.specs.Exchange.{Empty, Exchange, Setting, State, run, start as first_state}
use Rattle.papaya_words_law.specs.Meaning.{map_left}
use Rattle.papaya_words_law.specs.View.{look, view, IsPassed}
use Rattle.papaya_words_law.proofs.Codes.{code_empty}
use Rattle.papaya_words_law.proofs.OneMap.{means_map}
use Rattle.papaya_call_law.specs.Relies.{HasComeTo, ReliesGrowing, ReliesStage}
use Rattle.papaya_call_law.specs.TrueAnswers.{word_of}
use Rattle.papaya_call_law.proofs.ReliesNames.{come_reached}
use Rattle.papaya_call_law.proofs.ReliesRemovals.{moving_further}
use Rattle.papaya_core_store.specs.declared.pairs.Running.{Running}
use Rattle.papaya_core_store.specs.Store.{Stored}
use Rattle.papaya_core_store.specs.Tables.{table_of, word_at, word_in}
use Rattle.papaya_core_timeline.specs.Callers.{running}
use Rattle.papaya_core_timeline.specs.Content.{map_in}
use Rattle.papaya_core_timeline.specs.Core.{CoreState, IsCore}
use Rattle.papaya_core_timeline.specs.Kept.{CallTrace, IsCall, IsConsistent, coding_of, low, setting_of}
use Rattle.papaya_core_timeline.proofs.KeptLemmas.{IsLawfulKeys, hashed_setting, map_kept}
use Rattle.papaya_seq.specs.Map.{next_in, next_of}

-- a table's next one as a word
next_word : (o : Option TableWords) → next_in o ≡ 0 → word_in (λ v. v.next) o ≡ 0
next_word None e = refl
next_word (Some t) e = e

module _ {K V S A : Type 0} (eq : K → K → Bool) (hash : K → ℕ) (law : IsLawfulKeys eq hash) (s : CoreState K V S A)
    (core : IsCore s.store s.callers s.mode) (es : List (Exchange (Stored K V))) (call_traces : ℕ → CallTrace K V)
    (kept : IsConsistent eq hash s.mode s.store s.callers es call_traces) (caller : ℕ) (r : Running K V A) (was : running s.callers caller ≡ Some r) where
  abbrev g : Setting K (Stored K V)
  g = setting_of eq (low hash) s.mode s.store.words.tables

  abbrev c : Coding K (Stored K V)
  c = coding_of (low hash)

  hashed : IsHashed g c
  hashed = hashed_setting eq hash law s core

  pub call : IsCall eq hash s.mode s.store r es (call_traces caller)
  call = kept.calls caller r was

  -- the exchanges so far, and the words that they leave
  abbrev all : List (Exchange (Stored K V))
  all = (call_traces caller).begun ++ (call_traces caller).since

  abbrev now : State (Stored K V)
  now = run all first_state

  may : AllAllowed g first_state all
  may = subst (AllAllowed g first_state) (sym call.split) kept.allowed

  root_is : now.root ≡ s.store.words.root
  root_is = ap (λ (l : List (Exchange (Stored K V))). (run l first_state).root) call.split ∙ kept.coded Root

  -- after the exchanges the key has the pair that the map has
  left_in_map : map_in eq s.store call.key ≡ map_left g all call.key
  left_in_map = map_kept eq hash law s es call_traces core kept call.key ∙ ap (λ (l : List (Exchange (Stored K V))). map_left g l call.key) (sym call.split)

  -- if there is no table, no key is in the map
  pub rootless_absent : s.store.words.root ≡ 0 → map_in eq s.store call.key ≡ None
  rootless_absent none = left_in_map ∙ (means_map g hashed.lawful all may call.key).no_root (root_is ∙ none)

  -- An insertion that replaces nothing and is about to write in the root has found a place for its key, which is not in the map.
  pub writing_absent : (write : Write) → r.machine.call.task ≡ Insert false → r.machine.call.state ≡ Writing write
      → write.place.table ≡ s.store.words.root → word_at s.store.words (Slot write.place.table write.place.probe.i) ≡ write.old
      → map_in eq s.store call.key ≡ None
  writing_absent write inserts writes here read =
      let may_write = subst (λ task. ReliesStage g c (call_traces caller).begun (call_traces caller).since call.key (call_traces caller).loaded.call
      task (Writing write)) inserts
      (subst (ReliesStage g c (call_traces caller).begun (call_traces caller).since call.key (call_traces caller).loaded.call r.machine.call.task)
      writes call.relies.call.stage) in
      let at = may_write.stands in
      let zero_word : write.old ≡ 0 = elim may_write.old [ inl none ↦ none | inr replaced ↦ let never = replaced.0 in absurd cc ] in
      let place_is : write.place.probe.i ≡ g.place call.key write.place.table write.place.probe.len = at.slot in
      let word : word_of g c now (Slot write.place.table write.place.probe.i) ≡ 0 = ap
      (λ (l : List (Exchange (Stored K V))). word_of g c (run l first_state) (Slot write.place.table write.place.probe.i)) call.split
      ∙ kept.coded (Slot write.place.table write.place.probe.i) ∙ read ∙ zero_word in
      let empty : now.slot write.place.table (g.place call.key write.place.table write.place.probe.len) ≡ Empty = ap (now.slot write.place.table)
      (sym place_is) ∙ code_empty g c (now.slot write.place.table write.place.probe.i) word in
      left_in_map
      ∙ (means_map g hashed.lawful all may call.key).empty write.place.table write.place.probe.len
      (come_reached g c hashed (call_traces caller).begun (call_traces caller).since may call.key write.place.table at.come)
      (λ _. root_is ∙ sym here) at.within at.before
      (ap (view g call.key) empty)

  module _ (last : next_of s.store ≡ 0) where
    -- the root has no next one
    next_is : (t : ℕ) → t ≡ s.store.words.root → now.next t ≡ 0
    next_is t here =
        ap now.next here
        ∙ ap (λ (l : List (Exchange (Stored K V))). (run l first_state).next s.store.words.root) call.split
        ∙ kept.coded (Next s.store.words.root)
        ∙ next_word (table_of s.store.words.tables s.store.words.root) last

    -- a search that passed the root has met each pair there is
    passed_absent : (t : ℕ) → t ≡ s.store.words.root → HasComeTo g c (call_traces caller).begun (call_traces caller).since call.key t
        → IsPassed g.places (look g now call.key) t → map_in eq s.store call.key ≡ None
    passed_absent t here come passed =
        left_in_map
        ∙ (means_map g hashed.lawful all may call.key).over t
        (come_reached g c hashed (call_traces caller).begun (call_traces caller).since may call.key t come) passed
        (elim (cases_Bool g.blocking) [ inl blocking ↦ inl (blocking, root_is ∙ sym here) | inr going ↦ inr (going, next_is t here) ])

    -- no pair of the root is being copied
    needs_absent : (task : Task) (need : Need) → needed need ≡ s.store.words.root
        → ReliesGrowing g c (call_traces caller).begun (call_traces caller).since call.key task need → map_in eq s.store call.key ≡ None
    needs_absent task (Room t) here relies = passed_absent t here relies.1.0 relies.1.1
    needs_absent task (Pair_at t x) here relies =
        let more = moving_further g c hashed.lawful (call_traces caller).begun (call_traces caller).since may call.key t x relies.1.1 in
        let none = next_is t here in
        absurd (omega (arith, more, none))

    -- a call that needs a table after the root
    pub growing_absent : (need : Need) → r.machine.call.state ≡ Growing need → needed need ≡ s.store.words.root → map_in eq s.store call.key ≡ None
    growing_absent need grows here =
        needs_absent r.machine.call.task need here
        (subst (ReliesStage g c (call_traces caller).begun (call_traces caller).since call.key (call_traces caller).loaded.call r.machine.call.task)
        grows call.relies.call.stage)
