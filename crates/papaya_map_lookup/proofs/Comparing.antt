-- A lookup receives the size of a table, and whether the key of the pair last loaded matches.
use Rattle.std.proofs.Common.{◌≡◌, inl, ⊎_elim, ℕ, ◌+◌, ◌<◌, Bool, true, Option, None, Some, List, [], ◌++◌, length, refl, sym, ap, ◌∙◌, subst}
use Rattle.std.specs.Cmp.{IsEquivalence}
use mathlib.Core.List.{IsPrefix}
use denote.Bor.{Bor}
use Rattle.papaya_words.specs.declared.resize_mode.ResizeMode.{ResizeMode}
use Rattle.papaya_words.specs.declared.resize_mode.ResizeMode.TheVariants.{Incremental, Blocking}
use Rattle.papaya_call.specs.declared.ask.Answer.TheVariants.{Yes, Size}
use Rattle.papaya_call.specs.declared.ask.At.TheVariants.{Slot}
use Rattle.papaya_call.specs.declared.ask.Ask.{Ask}
use Rattle.papaya_call.specs.declared.ask.Ask.TheVariants.{Load, LoadHint, SameKey, SizeOf}
use Rattle.papaya_call.specs.declared.call.Reply.TheVariants.{Found}
use Rattle.papaya_call.specs.declared.call.Task.TheVariants.{Get}
use Rattle.papaya_call.specs.declared.machine.Machine.{Machine}
use Rattle.papaya_call.specs.declared.machine.State.{State as Stage}
use Rattle.papaya_call.specs.declared.machine.State.TheVariants.{AtRoot, Making, Opening, Searching}
use Rattle.papaya_call.specs.declared.machine.State.TheVariants.{Writing, Offering, Showing}
use Rattle.papaya_call.specs.declared.machine.State.TheVariants.{Pairing, Putting, Burying}
use Rattle.papaya_call.specs.declared.machine.State.TheVariants.{Counting, Noting, Uncounting}
use Rattle.papaya_call.specs.declared.machine.State.TheVariants.{Leaving, Growing, Ended}
use Rattle.papaya_call.specs.declared.compute.Remembered.{Remembered}
use Rattle.papaya_call.specs.declared.search.Search.TheVariants.{Sizing, Looking, Reading, Comparing}
use Rattle.papaya_call.specs.declared.search.ProbeStep.{ProbeStep}
use Rattle.papaya_call.specs.declared.search.ProbeStep.TheVariants as seen
use Rattle.papaya_call.specs.declared.made.Made.{Made}
use Rattle.papaya_words_law.specs.Allows.{AllAllowed}
use Rattle.papaya_words_law.specs.Code.{Coding}
use Rattle.papaya_words_law.specs.Exchange.{Exchange, Setting, start}
use Rattle.papaya_words_law.specs.View.{Foreign, Here, Leaving as View_leaving, held, view}
use Rattle.papaya_call.specs.Machine.{IsValidState, after, ask_of, asks, goes_as, kind_of_ask, passes}
use Rattle.papaya_call_law.specs.Relies.{ReliesStage, WasAtMoment}
use Rattle.papaya_call.specs.Search.{IsSize, at_yes}
use Rattle.papaya_call_law.specs.TrueAnswers.{IsTrueOf, LoadedPairs}
use Rattle.papaya_words_law.specs.Code.{IsHashed}
use Rattle.papaya_call_law.proofs.ReliesLearnLook.{compared}
use Rattle.papaya_call_law.proofs.ReliesLearnPlaces.{ReliesProbed}
use Rattle.papaya_call_law.proofs.ReliesNames.{ask_named, hint_named, slot_named}
use Rattle.papaya_map_book.specs.Sheets.{Sheet}
use Rattle.papaya_map_book.specs.declared.rule.entry.Begun.{Begun}
use Rattle.papaya_map_book.specs.declared.rule.entry.Event.{Event}
use Rattle.papaya_map_book.specs.Calls.{IsTable}
use Rattle.papaya_map_book.specs.Hashes.{hash_of}
use Rattle.papaya_map_lookup.specs.History.{key_of}
use Rattle.papaya_map_book.specs.Logs.{Stored, state_of, steps_of}
use Rattle.papaya_map_lookup.specs.Lookups.{HoldsTable, table_of}
use Rattle.papaya_map_lookup.proofs.Answering.{IsGoing, Rested, held_on, of_get}
use Rattle.papaya_map_lookup.proofs.Lookups.{IsStepIn, hint_step, lookup, size_step, slot_step, yes_step}
use Rattle.papaya_map_lookup.proofs.Readings.{IsQuery, ReliesOn, allowed_with, coding, hashed_with, learned, setting}
use Rattle.papaya_map_book.proofs.TableSizes.{sizes}

-- a lookup doesn't find a pair when it passes a table
passes_unfound : (mode : ResizeMode) (fill : Option ℕ) (t n : ℕ) → passes Get mode fill t ≡ Ended (Found n) → ⊥
passes_unfound (Incremental chunk) fill t n e = cc e
passes_unfound Blocking fill t n e = cc e

module _ {K P : Type 0} (g : Setting K P) (c : Coding K P) (hashed : IsHashed g c) (begun since : List (Exchange P))
    (may : AllAllowed g start (begun ++ since)) (k : K) (loaded : LoadedPairs P) where
  -- the pair last passed to the machine was the key's at some point of the call
  abbrev pub WasLast : Type 0
  WasLast = (p : P) × (loaded.last ≡ Some p) × WasAtMoment g c begun since k (Some p)

  -- a search finds the pair last passed to the machine
  found_last : (mode : ResizeMode) (remembered : Remembered) (s : ProbeStep) → ReliesProbed g c hashed begun since k loaded s → (n : ℕ)
      → goes_as Get mode remembered s ≡ Ended (Found n) → WasLast
  found_last mode remembered (seen.On search) r n e = absurd (cc e)
  found_last mode remembered (seen.Empty at) r n e = absurd (cc e)
  found_last mode remembered (seen.Over t) r n e = absurd (passes_unfound mode remembered.fill t n e)
  found_last mode remembered (seen.Here at word) r n e =
      let p : P = r.0 in
      let shows : held (view g k r.2.was) ≡ true =
      ⊎_elim (λ l. ap (λ w. held (view g k w)) l ∙ ap (λ b. held (Rattle.std.specs.Prelude.cond b (Here p) Foreign)) r.3)
      (λ l. ap (λ w. held (view g k w)) l ∙ ap (λ b. held (Rattle.std.specs.Prelude.cond b (View_leaving p) Foreign)) r.3) r.4 in
      (p, r.1, r.2.had shows)

  module _ (hash initial : ℕ) (mode : ResizeMode) (made : Made) (remembered : Remembered) where
    -- the lookup is in the state that compares; the pair is the one last passed to it
    pub yes_found : (s : Stage) → IsValidState Get s → ReliesStage g c begun since k loaded Get s → (n : ℕ) (same : Bool)
        → ((p : P) → loaded.last ≡ Some p → same ≡ g.same k (g.key p)) → asks made hash s ≡ SameKey n → (m : ℕ)
        → (after (lookup hash initial mode made remembered s) (Yes same)).state ≡ Ended (Found m) → WasLast
    yes_found AtRoot stands r n same is e m f = absurd cc
    yes_found Making stands r n same is e m f = absurd stands
    yes_found (Opening u) stands r n same is e m f = absurd stands
    yes_found (Searching (Sizing u)) stands r n same is e m f = absurd cc
    yes_found (Searching (Looking at)) stands r n same is e m f = absurd cc
    yes_found (Searching (Reading at)) stands r n same is e m f = absurd cc
    yes_found (Searching (Comparing at word)) stands r n same is e m f = found_last mode remembered (at_yes (Comparing at word) same)
        (compared g c hashed begun since may k at word r.0 r.2 loaded r.1 same (sym (is r.0 r.1))) m f
    yes_found (Writing write) stands r n same is e m f = absurd stands.0
    yes_found (Offering gap) stands r n same is e m f = absurd stands.0
    yes_found (Showing removal) stands r n same is e m f = absurd stands.0
    yes_found (Pairing purpose) stands r n same is e m f = absurd stands.0
    yes_found (Putting put) stands r n same is e m f = absurd stands.0
    yes_found (Burying removal) stands r n same is e m f = absurd stands.0
    yes_found (Counting j) stands r n same is e m f = absurd stands
    yes_found (Noting j) stands r n same is e m f = absurd stands
    yes_found (Uncounting j) stands r n same is e m f = absurd stands
    yes_found (Leaving u) stands r n same is e m f = absurd cc
    yes_found (Growing u) stands r n same is e m f = absurd stands
    yes_found (Ended reply) stands r n same is e m f = absurd cc

module _ {K V S H : Type 0} (eq : K → K → Bool) (input : K → List (List ℕ)) (build : S → H) (write : H → List ℕ → H) (finish : H → ℕ)
    (classes : IsEquivalence eq) (respects : (x y : K) → eq x y ≡ true → input x ≡ input y)
    (b : Begun K V S) (matches : K → Bool) (query : List (List ℕ)) (lawful : IsQuery eq input matches query) (begun : List (Exchange (Stored K V)))
    (log : List (Event K V S)) (m : Machine) (table : Option (Bor Sheet)) (pair : Option (Stored K V))
    (r : Rested eq input build write finish classes respects b matches query lawful begun log m table pair) (stands : IsValidState Get m.state) where
  abbrev hash : S → K → ℕ
  hash = hash_of input build write finish

  abbrev g : Setting (Option K) (Stored K V)
  g = setting eq input build write finish classes respects b matches query lawful log

  abbrev c : Coding (Option K) (Stored K V)
  c = coding eq input build write finish classes respects b matches query lawful

  abbrev On : Machine → LoadedPairs (Stored K V) → Type 0
  On z loaded = ReliesOn eq input build write finish classes respects b matches query lawful begun log z loaded

  abbrev on : On m r.loaded
  on = record { since = r.since; is = r.is; relies = r.relies }

  same_log : IsPrefix log log
  same_log = ([], Rattle.std.proofs.lemmas.List.append-nil log)

  -- the table that is named is the one that is held
  table_held : (t : ℕ) → table_of m.state ≡ Some t → (lent : Bor Sheet) → table ≡ Some lent → IsTable log t lent.now
  table_held t names lent has = subst (λ o. HoldsTable log (Some t) o) has (subst (λ o. HoldsTable log o table) names r.holds_table)

  -- a slot that is named is one of the table that is held
  pub slot_held : (t x : ℕ) (lent : Bor Sheet) → table ≡ Some lent → ask_of m ≡ Load (Slot t x) → IsTable log t lent.now × (x < length lent.now.slots)
  slot_held t x lent has e =
      let step = slot_step m.hash m.initial m.mode m.made m.remembered m.state (stands) t x 0 e in
      let came = table_held t step.0.names lent has in
      let may = subst (AllAllowed g start) (sym r.is) (allowed_with eq input build write finish classes respects b matches query lawful log r.lawful) in
      let hashed = hashed_with eq input build write finish classes respects b matches query lawful log r.lawful in
      let named = slot_named g c hashed begun r.since may None (ask_of m)
      (ask_named g c hashed begun r.since may None r.loaded m.task m.hash m.made m.state r.relies.stage) t x (inl e) in
      (came, subst (λ n. x < n) ((sizes (steps_of log) t came.0 came.1).0 ∙ ap (λ (z : Sheet). length z.slots) came.2) named.1)

  -- and so is one whose hint is
  pub hint_held : (t x : ℕ) (lent : Bor Sheet) → table ≡ Some lent → ask_of m ≡ LoadHint t x → IsTable log t lent.now × (x < length lent.now.slots)
  hint_held t x lent has e =
      let step = hint_step m.hash m.initial m.mode m.made m.remembered m.state (stands) t x 0 e in
      let came = table_held t step.0.names lent has in
      let may = subst (AllAllowed g start) (sym r.is) (allowed_with eq input build write finish classes respects b matches query lawful log r.lawful) in
      let hashed = hashed_with eq input build write finish classes respects b matches query lawful log r.lawful in
      let named = hint_named g c hashed begun r.since may None (ask_of m)
      (ask_named g c hashed begun r.since may None r.loaded m.task m.hash m.made m.state r.relies.stage) t x (inl e) in
      (came, subst (λ n. x < n) ((sizes (steps_of log) t came.0 came.1).0 ∙ ap (λ (z : Sheet). length z.slots) came.2) named.1)

  -- the table has the size that its sheet states
  pub size_read : (t : ℕ) (sheet : Sheet) → IsTable log t sheet → (slots limit : ℕ) → slots ≡ length sheet.slots → limit ≡ sheet.limit
      → IsSize slots limit → ask_of m ≡ SizeOf t
      → IsGoing eq input build write finish classes respects b matches query lawful begun log m (Size slots limit) table pair
  size_read t sheet came slots limit slots_is limit_is size e =
      let all = sizes (steps_of log) t came.0 came.1 in
      let is : came.0.value ≡ sheet = came.2 in
      let many : slots ≡ g.size t = slots_is ∙ sym (all.0 ∙ ap (λ (z : Sheet). length z.slots) is) in
      let places : limit + 1 ≡ g.places t = ap (λ n. n + 1) limit_is ∙ sym (all.1 ∙ ap (λ (z : Sheet). z.limit + 1) is) in
      let told : IsTrueOf g c None (state_of log) (kind_of_ask m) r.loaded (SizeOf t) (Size slots limit) []
      r.loaded = ((limit, places, ap (λ n. Size n limit) many), (refl, refl)) in
      let further = learned eq input build write finish classes respects b matches query lawful begun log r.lawful m r.loaded on (Size slots limit) r.loaded
      (subst (λ (a : Ask). IsTrueOf g c None (state_of log) (kind_of_ask m) r.loaded a (Size slots limit) [] r.loaded) (sym e) told) in
      let step = size_step m.hash m.initial m.mode m.made m.remembered m.state (stands) t slots limit size.few e in
      let get = of_get m r.task_is in
      let to : (after m (Size slots limit)).state ≡ (after (lookup m.hash m.initial m.mode m.made m.remembered m.state) (Size slots limit)).state = ap
      (λ (z : Machine). (after z (Size slots limit)).state) get in
      let in_it : IsStepIn t m.state (after m (Size slots limit)).state = subst (IsStepIn t m.state) (sym to) step.0 in record {
        reading = record {
          lawful = r.lawful;
          since = r.since;
          is = r.is;
          loaded = r.loaded;
          task_is = r.task_is;
          relies = further;
          holds_table = held_on log log same_log t (table_of (after m (Size slots limit)).state) in_it.table table
              (subst (λ o. HoldsTable log o table) in_it.names r.holds_table);
          holds_pair = r.holds_pair;
          found = λ n f. absurd (step.1 n (sym to ∙ f));
        };
        fewer = in_it.fewer;
      }

  -- its key was compared
  pub same_read : (n : ℕ) (p : Stored K V) (same : Bool) → pair ≡ Some p → same ≡ matches (key_of p) → ask_of m ≡ SameKey n
      → IsGoing eq input build write finish classes respects b matches query lawful begun log m (Yes same) table pair
  same_read n p same has is e =
      let matched : (q : Stored K V) → r.loaded.last ≡ Some q
      → same ≡ g.same None (g.key q) = λ q e'. let one : p ≡ q = cc (has, r.holds_pair.0, e') in is ∙ ap (λ (z : Stored K V). matches (key_of z)) one in
      let told : IsTrueOf g c None (state_of log) (kind_of_ask m) r.loaded (SameKey n) (Yes same) [] r.loaded = (λ p e' f. ap Yes (matched p e'), (refl, refl)) in
      let further = learned eq input build write finish classes respects b matches query lawful begun log r.lawful m r.loaded on (Yes same) r.loaded
      (subst (λ (a : Ask). IsTrueOf g c None (state_of log) (kind_of_ask m) r.loaded a (Yes same) [] r.loaded) (sym e) told) in
      let step = yes_step m.hash m.initial m.mode m.made m.remembered m.state (stands) n same e in
      let t = step.0 in
      let get = of_get m r.task_is in
      let to : (after m (Yes same)).state ≡ (after (lookup m.hash m.initial m.mode m.made m.remembered m.state) (Yes same)).state = ap
      (λ (z : Machine). (after z (Yes same)).state) get in
      let in_it : IsStepIn t m.state (after m (Yes same)).state = subst (IsStepIn t m.state) (sym to) step.1 in record {
        reading = record {
          lawful = r.lawful;
          since = r.since;
          is = r.is;
          loaded = r.loaded;
          task_is = r.task_is;
          relies = further;
          holds_table = held_on log log same_log t (table_of (after m (Yes same)).state) in_it.table table
              (subst (λ o. HoldsTable log o table) in_it.names r.holds_table);
          holds_pair = r.holds_pair;
          found = λ j f.
              yes_found g c (hashed_with eq input build write finish classes respects b matches query lawful log r.lawful) begun r.since
              (subst (AllAllowed g start) (sym r.is) (allowed_with eq input build write finish classes respects b matches query lawful log r.lawful))
              None r.loaded m.hash m.initial m.mode m.made m.remembered m.state (stands)
              (subst (λ t. ReliesStage g c begun r.since None r.loaded t m.state) r.task_is r.relies.stage) n same matched e j (sym to ∙ f);
        };
        fewer = in_it.fewer;
      }
