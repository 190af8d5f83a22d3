-- A compute that was set aside is the same after the copy: the calls of its closure stay, and so do
-- the pairs that were made from their results.
use Rattle.std.proofs.Common.{◌≡◌, inl, inr, ⊎_elim, ℕ, Bool, true, Option, Some, List, [], append-nil, refl, sym, ap, ◌∙◌, subst}
use Rattle.std.specs.Cmp.{IsEquivalence}
use mathlib.Core.List.{IsPrefix}
use Rattle.logbook.specs.Pages.{Book}
use Rattle.papaya_words.specs.declared.refused.Refused.TheVariants.{Limit}
use Rattle.papaya_call.specs.declared.answers.Operation.{Operation}
use Rattle.papaya_call.specs.declared.ask.Answer.TheVariants.{Word as Word_read}
use Rattle.papaya_call.specs.declared.ask.Ask.TheVariants.{Done}
use Rattle.papaya_call.specs.declared.call.Reply.TheVariants.{Aborted, Refused}
use Rattle.papaya_call.specs.declared.call.Task.TheVariants.{Compute}
use Rattle.papaya_call.specs.declared.compute.Remembered.{Remembered}
use Rattle.papaya_call.specs.declared.machine.Machine.{Machine as Call_machine}
use Rattle.papaya_call.specs.declared.machine.State.TheVariants.{AtRoot}
use Rattle.papaya_call.specs.Machine as calls
use Rattle.papaya_call.specs.declared.chain.ask.Ask.TheVariants.{Call}
use Rattle.papaya_call.specs.declared.chain.machine.Machine.{Machine}
use Rattle.papaya_call.specs.declared.chain.machine.Phase.TheVariants.{Calling}
use Rattle.papaya_call.specs.ChainMachine.{ask_of}
use Rattle.papaya_call_law.proofs.Names.{call_asks}
use Rattle.papaya_call_law.proofs.Once.{aside_filled}
use Rattle.papaya_call_law.proofs.Replies.{anew}
use Rattle.papaya_call_law.specs.Says.{HasCalledNone, IsAnswered, Makes}
use Rattle.papaya_call_law.proofs.SaysOnce.{machine_shown}
use Rattle.papaya_map_book.specs.declared.rule.entry.Begun.{Begun}
use Rattle.papaya_map_book.specs.declared.rule.entry.Event.{Event}
use Rattle.papaya_map_book.specs.declared.rule.own.CapacityCause.{CapacityCause}
use Rattle.papaya_map_book.specs.Hashes.{hash_of}
use Rattle.papaya_map_book.specs.Limits.{IsSpent, tables_of}
use Rattle.papaya_map_book.specs.Logs.{Stored, pair_named}
use Rattle.papaya_map_book.specs.Rule.{IsPlaced}
use Rattle.papaya_map_book.proofs.Lengths.{tables_since}
use Rattle.papaya_map_lookup.specs.History.{history_of, key_of}
use Rattle.papaya_map_lookup.proofs.Histories.{history_since}
use Rattle.papaya_map_lookup.proofs.KeptKeys.{key_at_stays}
use Rattle.papaya_map_change.specs.declared.driver.Driver.{Driver}
use Rattle.papaya_map_change.specs.Changing.{IsDriven}
use Rattle.papaya_map_change.specs.Helping.{HasHelped}
use Rattle.papaya_map_change.specs.ClosureCalls.{WasHeld}
use Rattle.papaya_map_change.proofs.Helped.{helped_keeps, room_kept, spent_kept}
use Rattle.papaya_map_change.proofs.ClosureCalls.{all_shown, held_wider}
use Rattle.papaya_map_compute.specs.declared.slow_path.Computing.{Computing}
use Rattle.papaya_map_compute.specs.Computing.{IsComputing}
use Rattle.papaya_map_compute.specs.Putting.{PutsChosen}
use Rattle.papaya_map_compute.proofs.AnsweredValues.{answered_aside}
use Rattle.papaya_map_compute.proofs.ChosenSlots.{puts_anew}
use Rattle.papaya_map_compute.proofs.ComputeGoes.{holds_still, newest_still}

module _ (m m' : Machine) (tables : List ℕ) (given : List CapacityCause) (helped : HasHelped m m' tables given) where
  -- if the closure was called with None, the machine still records that
  shown_kept : HasCalledNone m.call.remembered.fill m.call.state → HasCalledNone m'.call.remembered.fill m'.call.state
  shown_kept shown = elim helped [
    | inl same ↦ subst (λ (z : Machine). HasCalledNone z.call.remembered.fill z.call.state) (sym same) shown
    | inr (inl h) ↦ subst (λ (z : Call_machine). HasCalledNone z.remembered.fill z.state) (sym h.call)
        (aside_filled m.call.remembered.fill m.call.state h.from h.left shown)
    | inr (inr (inl h)) ↦
        subst (λ (z : Call_machine). HasCalledNone z.remembered.fill z.state) (sym h.call)
        (machine_shown (record m.call { state = AtRoot }) (Word_read h.root) (aside_filled m.call.remembered.fill m.call.state h.from h.left shown)).1
    | inr (inr (inr h)) ↦ subst (λ (z : Call_machine). HasCalledNone z.remembered.fill z.state) (sym h.call) tt
  ]

  -- the pair that it is to put in was made for its slot
  puts_kept : m.call.task ≡ Compute → PutsChosen m.call → PutsChosen m'.call
  puts_kept is puts = elim helped [
    | inl same ↦ subst (λ (z : Machine). PutsChosen z.call) (sym same) puts
    | inr (inl h) ↦ subst PutsChosen (sym h.call) tt
    | inr (inr (inl h)) ↦ subst PutsChosen (sym h.call) (puts_anew m.call h.root is)
    | inr (inr (inr h)) ↦ subst PutsChosen (sym h.call) tt
  ]

  -- it remembers the same pairs
  remembers : m'.call.remembered ≡ m.call.remembered
  remembers = elim helped [
    | inl same ↦ ap (λ (z : Machine). z.call.remembered) same
    | inr (inl h) ↦ ap (λ (z : Call_machine). z.remembered) h.call
    | inr (inr (inl h)) ↦ ap (λ (z : Call_machine). z.remembered) h.call
    | inr (inr (inr h)) ↦ ap (λ (z : Call_machine). z.remembered) h.call
  ]

  -- a newer result of its closure still waits: a call with one is not set aside
  waits_kept : IsAnswered m.call.state → IsAnswered m'.call.state
  waits_kept waits = elim helped [
    | inl same ↦ subst (λ (z : Machine). IsAnswered z.call.state) (sym same) waits
    | inr (inl h) ↦ absurd (answered_aside m.call.state h.from h.left waits)
    | inr (inr (inl h)) ↦ absurd (answered_aside m.call.state h.from h.left waits)
    | inr (inr (inr h)) ↦ absurd (answered_aside m.call.state h.from h.left waits)
  ]

  -- no copy ends a call as its closure would
  aborted_before : (with : ℕ) → ask_of m' ≡ Call (Done (Aborted with)) → ask_of m ≡ Call (Done (Aborted with))
  aborted_before with e =
      let own : calls.ask_of m'.call ≡ Done (Aborted with) = (call_asks m' (Done (Aborted with)) e).1 in
      elim helped [
        | inl same ↦ ap ask_of (sym same) ∙ e
        | inr (inl h) ↦ let f = ap (λ (z : Call_machine). calls.ask_of z) (sym h.call) ∙ own in absurd (cc f)
        | inr (inr (inl h)) ↦
            absurd (anew (λ s. calls.asks m.call.made m.call.hash s ≡ Done (Aborted with) → ⊥) (λ f. cc f) (λ f. cc f) (λ f. cc f) (λ t f. cc f)
            m.call.task m.call.remembered.fill h.root (ap (λ (z : Call_machine). calls.ask_of z) (sym h.call) ∙ own))
        | inr (inr (inr h)) ↦ let f = ap (λ (z : Call_machine). calls.ask_of z) (sym h.call) ∙ own in absurd (cc f)
      ]

module _ {K V S H T : Type 0} (eq : K → K → Bool) (input : K → List (List ℕ)) (build : S → H) (write : H → List ℕ → H) (finish : H → ℕ)
    (classes : IsEquivalence eq) (respects : (x y : K) → eq x y ≡ true → input x ≡ input y)
    (b : Begun K V S) (name : Book) (key : K) (begun log log' : List (Event K V S)) (pre : IsPrefix log log') (x : Computing K V S T H)
    (heard : List (Option (Stored K V) × Operation V T)) (r : IsComputing eq (hash_of input build write finish) b name key begun log x heard)
    (c : Driver K V S H) where
  abbrev hash : S → K → ℕ
  hash = hash_of input build write finish

  abbrev HeldOn : List (Event K V S) → Option (Stored K V) → Type 0
  HeldOn log' held = WasHeld eq (eq key) (history_of begun) (history_of log') held

  held_later : (held : Option (Stored K V)) → HeldOn log held → HeldOn log' held
  held_later held h = held_wider eq (eq key) (history_of begun) (history_of begun) (history_of log) (history_of log')
      ([], append-nil (history_of begun)) (history_since log log' pre) held h

  pub computing_helped : IsDriven eq hash b name (eq key) (hash b.hasher key) (Some key) begun log' r.made c → c.put ≡ x.writer.call.put
      → c.machine.phase ≡ Calling → (x.writer.call.machine.phase ≡ Calling → (c ≡ x.writer.call) × (log' ≡ log))
      → HasHelped x.writer.call.machine c.machine (tables_of log') c.copier.given.done
      → IsComputing eq hash b name key begun log' (record x { writer = record x.writer { call = c } }) heard
  computing_helped driven put calling still helped =
      let m = x.writer.call.machine in
      let tables = tables_of log' in
      let given = c.copier.given.done in
      let k = helped_keeps m c.machine tables given helped in
      let same = λ (e : m.phase ≡ Calling). (still e).0 in
      record {
        made = r.made;
        writing = record {
          calling = driven;
          keyed = r.writing.keyed;
          valued = r.writing.valued;
          put_placed = subst (λ o. IsPlaced b (Some name) (pair_named o)) (sym put) r.writing.put_placed;
        };
        task_is = k.task ∙ r.task_is;
        words = k.shows r.words;
        puts = puts_kept m c.machine tables given helped r.task_is r.puts;
        shown_placed = r.shown_placed;
        fill_placed = r.fill_placed;
        chosen_placed = r.chosen_placed;
        held = all_shown (HeldOn log) (HeldOn log') held_later heard r.held;
        none_once = r.none_once;
        none_shown = ⊎_elim (λ none. inl none) (λ shown. inr (shown_kept m c.machine tables given helped shown)) r.none_shown;
        stood = λ stands h. holds_still key r.made heard x (record x.writer { call = c }) refl stands (r.stood stands (k.stands stands h));
        newest = λ i n h.
            ⊎_elim (λ waits. inl (waits_kept m c.machine tables given helped waits)) (λ newest. inr (newest_still x (record x.writer { call = c }) refl newest))
            (r.newest i n (k.stands (Makes (Some i) n) h));
        of_slot = λ old new e. let h = r.of_slot old new (ap (λ (z : Remembered). z.choice) (sym (remembers m c.machine tables given helped)) ∙ e) in
            (h.0, h.1, key_at_stays eq input build write finish classes respects b log log' driven.lawful pre new.table new.index (key_of h.0) h.2);
        aborts = λ with e. r.aborts with (aborted_before m c.machine tables given helped with e);
        refuses = λ cause e. ⊎_elim (λ one. r.refuses cause (ap ask_of (sym one) ∙ e))
            (λ h. inl (inl (⊎_elim (λ memory. inl memory) (λ full. inr full.0) h))) (k.ends cause e);
        crowded = room_kept x.writer.call c tables calling same helped (tables_of log) (tables_since log log' pre) r.crowded;
        spent = spent_kept x.writer.call c tables calling same helped (IsSpent b.limit log')
            (λ e. subst (IsSpent b.limit) (sym (still (call_asks m (Done (Refused Limit)) e).0).1) (r.spent e));
      }
