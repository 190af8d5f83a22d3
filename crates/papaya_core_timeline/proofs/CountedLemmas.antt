-- The sum of the shards plus what is yet to be added stays the number of pairs.
use Rattle.std.proofs.Common.{◌≡◌, ℕ, zero, suc, ◌≤◌, ◌^◌, ℤ, pos, ◌+ℤ◌, Bool, List, [], ◌∷◌, ◌++◌}
use Rattle.std.proofs.Common.{length, Option, Some, None, inl, inr, refl, sym, ◌∙◌, ap, subst}
use Rattle.std.proofs.Common.{arith}
use Rattle.std.proofs.lemmas.Int.{ints, int_wrap_fits, int_wrap-add_same, fits_signed_from_abs}
use Rattle.std.specs.Int.{w64, int_wrap}
use Rattle.papaya_words.specs.Table.{TableWords}
use Rattle.papaya_words.specs.Word.{kind_of, pair_of as number_of}
use Rattle.papaya_words.specs.declared.word.Kind.{Kind}
use Rattle.papaya_words.specs.declared.word.Kind.TheVariants as kinds
use Rattle.papaya_call.specs.Answers.{Says}
use Rattle.papaya_call.specs.declared.call.Call.{Call}
use Rattle.papaya_call.specs.declared.call.Call.TheVariants.{Get, Insert, TryInsert, RemoveIf, Compute, Reserve, CopyAll, Clear, Retain, Walk}
use Rattle.papaya_words.specs.declared.resize_mode.ResizeMode.{ResizeMode}
use Rattle.papaya_words.specs.declared.resize_mode.ResizeMode.TheVariants.{Incremental, Blocking}
use Rattle.papaya_call.specs.Scanner.{begun_in}
use Rattle.papaya_call.specs.declared.call.Reply.{Reply}
use Rattle.papaya_words_law.specs.Allows.{AllAllowed}
use Rattle.papaya_words_law.specs.Content.{AreApart, lookup}
use Rattle.papaya_words_law.specs.Exchange.{Setting, Exchange, run, start}
use Rattle.papaya_words_law.specs.Meaning.{map_left, map_of as law_map}
use Rattle.papaya_call.specs.ChainMachine.{ask_of, follows_of, kind_of_ask, after}
use Rattle.papaya_call_law.specs.Goes.{grown_by, owed_in as owed_by}
use Rattle.papaya_call_law.proofs.Order.{in_order}
use Rattle.papaya_call_law.proofs.Replies.{chain_owes}
use Rattle.papaya_words_law.specs.ChainContent.{joined}
use Rattle.papaya_words_law.proofs.FiniteMaps.{length_after, one_length}
use Rattle.papaya_words_law.proofs.Moments.{allowed_first, allowed_rest, map_of-append}
use Rattle.papaya_words_law.proofs.OneMap.{keeping, step_keeps}
use Rattle.papaya_core_store.specs.declared.pairs.Running.{Running}
use Rattle.papaya_core_timeline.specs.declared.seat.Seat.{Seat}
use Rattle.papaya_core_timeline.specs.declared.trace.Event.{Event}
use Rattle.papaya_core_timeline.specs.Advances.{Advances, goes_on}
use Rattle.papaya_core_timeline.specs.Begins.{Begins, begun_work}
use Rattle.papaya_core_timeline.specs.Content.{content, pairs_from, pairs_of_kind, pairs_of_slots}
use Rattle.papaya_core_timeline.specs.Core.{CoreState, IsCore, work_of}
use Rattle.papaya_core_timeline.specs.Counted.{IsCounted, owed_in, owed_of, owed_scan, owed_work}
use Rattle.papaya_core_timeline.specs.Kept.{IsConsistent, CallTrace, setting_of, coding_of, low, told_call_traces}
use Rattle.papaya_core_store.specs.Store.{StoreState, Stored}
use Rattle.papaya_core_store.specs.Tables.{table_of}
use Rattle.papaya_core_timeline.proofs.CountedContent.{content_apart, content_few}
use Rattle.papaya_core_timeline.proofs.CountedSeats.{owed-begun, owed-goes_on, owed-with_call}
use Rattle.papaya_core_timeline.proofs.CountedStep.{IsGrowth, sum_performed, told_grows}
use Rattle.papaya_core_timeline.proofs.KeptLemmas.{IsLawfulKeys, IsStep, hashed_setting, kept_step, map_kept}
use Rattle.papaya_core_store.specs.declared.store.Mode.{Mode}

-- the number of pairs is one of 64 bits
pub length_fits : (n : ℕ) → n ≤ 2 ^ 48 → int_wrap w64 (pos n) ≡ pos n
length_fits n few = int_wrap_fits w64 (pos n) (fits_signed_from_abs w64 (pos n) (omega arith))

module _ {K V S : Type 0} (store : StoreState K V S) (none : store.pairs ≡ []) where
  -- an empty arena has no pairs to read
  no_kind : (kd : Kind) (n : ℕ) → pairs_of_kind store kd n ≡ []
  no_kind kinds.Live n = ap (λ l. pairs_of_kind (record store { pairs = l }) kinds.Live n) none
  no_kind kinds.Marked n = ap (λ l. pairs_of_kind (record store { pairs = l }) kinds.Marked n) none
  no_kind kinds.Empty n = refl
  no_kind kinds.Copied n = refl
  no_kind kinds.Buried n = refl
  no_kind kinds.Closed n = refl

  no_slots : (words : List ℕ) → pairs_of_slots store words ≡ []
  no_slots [] = refl
  no_slots (word ∷ words) = ap (λ l. l ++ pairs_of_slots store words) (no_kind (kind_of word) (number_of word)) ∙ no_slots words

  module _ (eq : K → K → Bool) where
    -- so no table from this one on has any
    no_tables : (n : ℕ) (o : Option TableWords) → pairs_from eq store n o ≡ []
    no_tables zero o = refl
    no_tables (suc n) None = refl
    no_tables (suc n) (Some t) =
        ap (λ l. joined eq (λ p. p.key) l (pairs_from eq store n (table_of store.words.tables t.next))) (no_slots t.slots)
        ∙ ap (joined eq (λ p. p.key) []) (no_tables n (table_of store.words.tables t.next))

    -- with an empty arena the content is empty
    pub new_content : content eq store ≡ []
    new_content = no_tables (length store.words.tables) (table_of store.words.tables store.words.root)

    -- a new core has a sum of 0, no callers and no pairs
    pub counted_new : {A : Type 0} (callers : List (Seat K V A)) → store.count.sum ≡ pos 0 → callers ≡ [] → IsCounted eq store callers
    counted_new {A = A} callers sum alone =
        ap (λ z. int_wrap w64 (z +ℤ owed_in callers)) sum
        ∙ ap (λ (l : List (Seat K V A)). int_wrap w64 (pos 0 +ℤ owed_in l)) alone
        ∙ length_fits 0 (omega arith)
        ∙ sym (ap (λ (l : List (Stored K V)). pos (length l)) new_content)

-- a call that scans a table owes nothing as it begins
scan_owes : (mode : ResizeMode) → owed_scan (begun_in mode) ≡ pos 0
scan_owes (Incremental chunk) = refl
scan_owes Blocking = refl

-- nor does any other
begun_owes : {K V A : Type 0} (hash : K → ℕ) (mode : Mode) (initial number : ℕ) (call : Call K V A)
    → owed_work (Some (begun_work hash mode initial number call)) ≡ pos 0
begun_owes hash mode initial number (Get k) = refl
begun_owes hash mode initial number (Insert k v) = refl
begun_owes hash mode initial number (TryInsert k v) = refl
begun_owes hash mode initial number (RemoveIf k a) = refl
begun_owes hash mode initial number (Compute k a) = refl
begun_owes hash mode initial number (Reserve more) = refl
begun_owes hash mode initial number CopyAll = refl
begun_owes hash mode initial number Clear = scan_owes mode.resize
begun_owes hash mode initial number (Retain a) = scan_owes mode.resize
begun_owes hash mode initial number Walk = scan_owes mode.resize

-- a begin leaves the sum and the pairs, and its call owes nothing
pub counted_begin : {K V S A : Type 0} (eq : K → K → Bool) (hash : K → ℕ) (s : CoreState K V S A) (caller : ℕ) (call : Call K V A)
    (s' : CoreState K V S A) → Begins hash s caller call s' → work_of s caller ≡ None → IsCounted eq s.store s.callers → IsCounted eq s'.store s'.callers
counted_begin {K} {V} {S} {A} eq hash s caller call s' begins free counted =
    subst (λ (y : StoreState K V S). IsCounted eq y s'.callers) (sym begins.store)
    (ap (λ (l : List (Seat K V A)). int_wrap w64 (s.store.count.sum +ℤ owed_in l)) begins.callers
    ∙ ap (λ z. int_wrap w64 (s.store.count.sum +ℤ z))
    (owed-begun s.callers caller free (Some (begun_work hash s.mode s.initial begins.number call))
    ∙ ap (λ z. owed_in s.callers +ℤ z) (begun_owes hash s.mode s.initial begins.number call) ∙ omega (arith, ints))
    ∙ counted)

module _ {K V S A : Type 0} (eq : K → K → Bool) (hash : K → ℕ) (law : IsLawfulKeys eq hash) {says : Says K V A} {hashes : S → K → ℕ} (refuse : Bool)
    (s : CoreState K V S A) (caller : ℕ) (s' : CoreState K V S A) (event : Event) (reply : Option Reply)
    (a : Advances eq says hashes refuse s caller s' event reply) (hasher : hashes s.store.hasher ≡ hash) (es : List (Exchange (Stored K V)))
    (call_traces : ℕ → CallTrace K V)
    (core : IsCore s.store s.callers s.mode) (core' : IsCore s'.store s'.callers s'.mode) (kept : IsConsistent eq hash s.mode s.store s.callers es call_traces) where
  -- the setting after the step
  abbrev g' : Setting K (Stored K V)
  g' = setting_of eq (low hash) s'.mode s'.store.words.tables

  abbrev step : IsStep eq hash law refuse s caller s' event reply a es call_traces
  step = kept_step eq hash law refuse s caller s' event reply a hasher es call_traces core kept

  -- the pairs before and after it
  abbrev old : List (Stored K V)
  old = content eq s.store

  abbrev new : List (Stored K V)
  new = content eq s'.store

  old_apart : AreApart eq (λ p. p.key) old
  old_apart = content_apart eq hash s.mode s.store (hashed_setting eq hash law s core) s.callers es call_traces kept

  new_apart : AreApart eq (λ p. p.key) new
  new_apart = content_apart eq hash s'.mode s'.store (hashed_setting eq hash law s' core') s'.callers (es ++ step.made)
      (told_call_traces call_traces caller step.made step.loaded) step.kept

  old_few : length old ≤ 2 ^ 48
  old_few = content_few eq hash s.mode s.store (hashed_setting eq hash law s core) s.callers es call_traces kept

  new_few : length new ≤ 2 ^ 48
  new_few = content_few eq hash s'.mode s'.store (hashed_setting eq hash law s' core') s'.callers (es ++ step.made)
      (told_call_traces call_traces caller step.made step.loaded) step.kept

  old_map : (k : K) → lookup eq (λ p. p.key) old k ≡ map_left g' es k
  old_map k = map_kept eq hash law s es call_traces core kept k ∙ sym (step.map_same k)

  new_map : (k : K) → lookup eq (λ p. p.key) new k ≡ law_map g' (map_left g' es) step.made k
  new_map k = map_kept eq hash law s' (es ++ step.made) (told_call_traces call_traces caller step.made step.loaded) core' step.kept k
      ∙ ap (λ f. f k) (map_of-append g' es step.made (λ j. None))

  -- by how many pairs the map grows
  grown : (by : ℤ) → IsGrowth by step.made → pos (length new) ≡ pos (length old) +ℤ by
  grown by (inl (none, still)) =
      let hashed = hashed_setting eq hash law s' core' in
      let same : length new ≡ length old = one_length g' hashed.lawful new old new_apart old_apart
      (λ k. new_map k ∙ ap (λ l. law_map g' (map_left g' es) l k) none ∙ sym (old_map k)) in
      omega (arith, ints, same, still)
  grown by (inr (e, one, grows)) =
      let hashed = hashed_setting eq hash law s' core' in
      let allowed = step.kept.allowed in
      let before = allowed_first g' es step.made start allowed in
      let may = subst (λ l. AllAllowed g' (run es start) l) one (allowed_rest g' es step.made start allowed) in
      let legal = (step_keeps g' hashed.lawful (run es start) (map_left g' es) (keeping g' hashed.lawful es before) e may.0).0 in
      grows (length old) (length new) (length_after g' hashed.lawful (map_left g' es) old new old_apart new_apart old_map e legal
      (λ k. new_map k ∙ ap (λ l. law_map g' (map_left g' es) l k) one))

  -- the amount that the callers owe after the step
  owed : owed_in s'.callers +ℤ owed_by (ask_of a.before.machine) ≡ owed_in s.callers +ℤ grown_by (kind_of_ask a.before.machine)
      (ask_of a.before.machine) a.answer
  owed =
      let m' = after a.before.machine a.answer in
      let r' : Running K V A = record a.later { machine = m' } in
      let goes : Option (Running K V A) = goes_on reply r' in
      let told = step.told in
      let order = in_order (setting_of eq (low hash) s.mode s.store.words.tables) (coding_of (low hash)) (call_traces caller).begun
      (call_traces caller).since step.call.key a.before.machine (call_traces caller).loaded (run es start) a.answer step.made step.loaded
      step.call.relies told in
      let learnt : owed_by (ask_of m') ≡ grown_by (kind_of_ask a.before.machine) (ask_of a.before.machine) a.answer =
      chain_owes (setting_of eq (low hash) s.mode s.store.words.tables) (coding_of (low hash)) step.call.key (run es start) a.before.machine
      (call_traces caller).loaded a.answer step.made step.loaded order told in
      let rest : owed_of goes ≡ owed_by (ask_of m') = ap (λ o. owed_of (goes_on o r')) a.reply_is ∙ owed-goes_on (ask_of m') r' refl in
      ap (λ (l : List (Seat K V A)). owed_in l +ℤ owed_by (ask_of a.before.machine)) a.callers
      ∙ owed-with_call s.callers caller a.before a.was goes
      ∙ ap (λ z. owed_in s.callers +ℤ z) (rest ∙ learnt)

  -- the step
  pub counted_step : IsCounted eq s.store s.callers → IsCounted eq s'.store s'.callers
  counted_step counted =
      let o : ℤ = owed_by (ask_of a.before.machine) in
      let by : ℤ = grown_by (kind_of_ask a.before.machine) (ask_of a.before.machine) a.answer in
      let is_grown : pos (length new) ≡ pos (length old) +ℤ by = grown by
      (told_grows (setting_of eq (low hash) s.mode s.store.words.tables) (coding_of (low hash)) step.call.key (run es start)
      (kind_of_ask a.before.machine) (follows_of a.before.machine) (call_traces caller).loaded (ask_of a.before.machine) a.answer step.made
      step.loaded step.told) in
      let to : (s.store.count.sum +ℤ o) +ℤ owed_in s'.callers ≡ (s.store.count.sum +ℤ owed_in s.callers) +ℤ by = let e = owed in omega (arith, ints, e) in
      int_wrap-add_same w64 s'.store.count.sum (s.store.count.sum +ℤ o) (owed_in s'.callers)
      (sum_performed eq says hashes refuse (ask_of a.before.machine) s.store a.before a.answer s'.store a.later a.performs)
      ∙ ap (int_wrap w64) to
      ∙ int_wrap-add_same w64 (s.store.count.sum +ℤ owed_in s.callers) (pos (length old)) by (counted ∙ sym (length_fits (length old) old_few))
      ∙ ap (int_wrap w64) (sym is_grown)
      ∙ length_fits (length new) new_few
