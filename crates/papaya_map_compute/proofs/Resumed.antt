-- A compute whose fast path lost its exchange: it starts again at the root with the pair that it has made.
use Rattle.std.proofs.Common.{◌≡◌, inl, inr, ⊎_elim, ℕ, Bool, true, Option, None, Some, List, [], ◌∷◌, ◌++◌, refl, sym, ap, ◌∙◌, subst}
use mathlib.Core.List.{IsPrefix}
use Rattle.logbook.specs.Pages.{Book}
use Rattle.papaya_call.specs.declared.answers.Operation.{Operation}
use Rattle.papaya_call.specs.declared.answers.Operation.TheVariants as operation
use Rattle.papaya_call.specs.declared.compute.Choice.TheVariants.{Remove as To_remove, Replace as To_replace}
use Rattle.papaya_call.specs.declared.compute.Remembered.{Remembered}
use Rattle.papaya_call.specs.declared.made.Of.{Of}
use Rattle.papaya_call.specs.declared.chain.machine.Machine.{Machine}
use Rattle.papaya_call.specs.ChainMachine.{ask_of}
use Rattle.papaya_words_law.specs.Code.{Coding}
use Rattle.papaya_words_law.specs.Exchange.{Exchange, Setting, run, start}
use Rattle.papaya_words_law.specs.Later.{IsOfKey}
use Rattle.papaya_call_law.specs.Relies.{ReliesChoice, ReliesFill}
use Rattle.papaya_call_law.specs.Says.{Makes, Removes, ClosureResult, ActsOn}
use Rattle.papaya_call_law.specs.TrueAnswers.{IsOneOf, LoadedPairs}
use Rattle.papaya_call_law.proofs.ReliesLearnPairs.{wanted_relies}
use Rattle.papaya_map_book.specs.declared.rule.entry.Begun.{Begun}
use Rattle.papaya_map_book.specs.declared.rule.entry.Event.{Event}
use Rattle.papaya_map_book.specs.declared.rule.entry.Named.TheVariants as names
use Rattle.papaya_map_book.specs.Logs.{Stored, exchanges_of}
use Rattle.papaya_map_book.specs.Rule.{IsLawfulLog, IsPlaced}
use Rattle.papaya_map_book.proofs.Logs.{exchanges_of-append}
use Rattle.papaya_map_lookup.specs.History.{history_of, key_of}
use Rattle.papaya_map_lookup.specs.Lookups.{coding_for, setting_for}
use Rattle.papaya_map_change.specs.Changing.{IsCalling}
use Rattle.papaya_map_change.specs.ClosureCalls.{WasHeld}
use Rattle.papaya_map_change.specs.Writing.{HasKey, HasKeyAt, HasValue, held_value}
use Rattle.papaya_map_change.proofs.Changing.{mode_is}
use Rattle.papaya_map_compute.specs.declared.slow_path.Computing.{Computing}
use Rattle.papaya_map_compute.specs.Computing.{Holds, IsComputing}
use Rattle.papaya_map_compute.specs.Resuming.{resumed_at}

module _ {K V S : Type 0} (eq : K → K → Bool) (hash : S → K → ℕ) (b : Begun K V S) (name : Book) (key : K) (begun log : List (Event K V S))
    (seen : IsPrefix begun log) (l : IsLawfulLog eq hash b log) where
  abbrev h : ℕ
  h = hash b.hasher key

  abbrev g : Setting (Option K) (Stored K V)
  g = setting_for eq hash b (eq key) h log

  abbrev c : Coding (Option K) (Stored K V)
  c = coding_for hash b.hasher h

  abbrev loaded : List (Stored K V) → LoadedPairs (Stored K V)
  loaded made = record { last = None; made = made }

  abbrev since : List (Exchange (Stored K V))
  since = exchanges_of seen.0

  since_is : exchanges_of begun ++ since ≡ exchanges_of log
  since_is = sym (exchanges_of-append begun seen.0) ∙ ap exchanges_of seen.1

  -- its call, which has made these pairs and remembers this
  calls : (made : List (Stored K V)) → ((p : Stored K V) → IsOneOf made p → (eq key (key_of p) ≡ true) × IsPlaced b (Some name) (names.Pair p))
      → (initial : ℕ) (held : Remembered) → ReliesFill g c (exchanges_of begun) since (Some key) (loaded made) held.fill
      → ReliesChoice g c (exchanges_of begun) since (Some key) (loaded made) held.choice
      → IsCalling eq hash b name (eq key) h (Some key) begun log (resumed_at h b.mode initial b.limit held) None None None made None None None
  calls made each initial held fill_is choice_is = record {
    lawful = l;
    seen = seen;
    since = since;
    is = since_is;
    relies = record {
      cut = λ x. refl;
      call = record {
        hash = refl;
        mode = mode_is b.mode;
        made = record {
          keys = λ p one. (each p one).0;
          limit = refl;
          number_is = wanted_relies g c (exchanges_of begun) since (Some key) b.limit;
          own_is = tt;
          of_is = tt;
          fill_is = fill_is;
          choice_is = choice_is;
        };
        stage = tt;
      };
      phase = tt;
    };
    number = 0;
    at_table = λ still. tt;
    holds_table = refl;
    last_placed = tt;
    kept_placed = tt;
    made_placed = λ p one. (each p one).1;
    taken_placed = tt;
    changed = λ change e. absurd (cc e);
    brings = λ n e. absurd e;
    words = λ behind n chunks e. absurd (cc e);
    counts = tt;
  }

  module _ {T H : Type 0} (x : Computing K V S T H) (initial : ℕ) (table : (x.writer.call.table ≡ None) × (x.writer.call.copier.fresh ≡ None))
      (pairs : (x.writer.call.copier.last ≡ None) × (x.writer.call.copier.kept ≡ None) × (x.writer.call.taken ≡ None) × (x.writer.call.put ≡ None))
      (has_key : HasKey b name key x.writer.key) (has_value : HasValue b name x.writer.value) where
    abbrev IsAt : Remembered → Type 0
    IsAt held = x.writer.call.machine ≡ resumed_at h b.mode initial b.limit held

    -- its closure returned the value of a pair that was made
    module _ (q : Stored K V) (placed : IsPlaced b (Some name) (names.Pair q)) (class : eq key (key_of q) ≡ true) where
      pair_is : (p : Stored K V) → IsOneOf (q ∷ []) p → (eq key (key_of p) ≡ true) × IsPlaced b (Some name) (names.Pair p)
      pair_is p one = ⊎_elim (λ is. subst (λ (z : Stored K V). (eq key (key_of z) ≡ true) × IsPlaced b (Some name) (names.Pair z)) (sym is)
          (class, placed)) (λ other. absurd other) one

      abbrev Heard : Option (Stored K V) → List (Option (Stored K V) × Operation V T)
      Heard held = (held, operation.Insert q.value.value) ∷ []

      -- if it was called with None
      module _ (key_is : key_of q ≡ key) (was : WasHeld eq (eq key) (history_of begun) (history_of log) None) (shown : x.shown ≡ None)
          (fill : x.fill ≡ Some q) (chosen : x.chosen ≡ None) where
        abbrev with_fill : Remembered
        with_fill = record { fill = Some q.index; choice = None }

        fills_only : {stands : ClosureResult} → ActsOn (resumed_at h b.mode initial b.limit with_fill).call stands → stands ≡ Makes None q.index
        fills_only (inl e) = absurd (cc e)
        fills_only (inr (inl e)) = cc e
        fills_only (inr (inr e)) = absurd (cc e)

        pub resumes_filled : IsAt with_fill → IsComputing eq hash b name key begun log x (Heard None)
        resumes_filled machine = record {
          made = q ∷ [];
          writing = record {
            calling = rw (machine, table.0, table.1, pairs.0, pairs.1, pairs.2, pairs.3)
                (calls (q ∷ []) pair_is initial with_fill (q, inl refl, refl, ap (λ z. Some z) key_is) tt);
            keyed = has_key;
            valued = has_value;
            put_placed = rw pairs.3 tt;
          };
          task_is = ap (λ (z : Machine). z.call.task) machine;
          words = rw machine tt;
          puts = rw machine tt;
          shown_placed = rw shown tt;
          fill_placed = rw fill placed;
          chosen_placed = rw chosen tt;
          held = (was, tt);
          none_once = tt;
          none_shown = inr (rw machine tt);
          stood = λ stands s.
              let is : stands ≡ Makes None q.index = fills_only (subst (λ (z : Machine). ActsOn z.call stands) machine s) in
              subst (Holds key (q ∷ []) (Heard None) x) (sym is) (q, fill, record { number = refl; made_is = inl refl; key_is = key_is; said_is = inl refl });
          newest = λ i n s. let is : Makes (Some i) n ≡ Makes None q.index = fills_only
              (subst (λ (z : Machine). ActsOn z.call (Makes (Some i) n)) machine s) in absurd (cc is);
          of_slot = λ old new e. let f = sym (ap (λ (z : Machine). z.call.remembered.choice) machine) ∙ e in absurd (cc f);
          aborts = λ with e. let f = sym (ap ask_of machine) ∙ e in absurd (cc f);
          refuses = λ cause e. let f = sym (ap ask_of machine) ∙ e in absurd (cc f);
          crowded = λ e. let f = sym (ap ask_of machine) ∙ e in absurd (cc f);
          spent = λ e. let f = sym (ap ask_of machine) ∙ e in absurd (cc f);
        }

      -- it was called with a pair, which was met in this slot
      module _ (p : Stored K V) (key_is : key_of q ≡ key_of p) (shown_placed : IsPlaced b (Some name) (names.Pair p))
          (was : WasHeld eq (eq key) (history_of begun) (history_of log) (Some p)) (shown : x.shown ≡ Some p) (fill : x.fill ≡ None)
          (chosen : x.chosen ≡ Some p) (made : x.made ≡ Some q) (value_is : held_value x.writer.value ≡ Some q.value.value) (t i : ℕ)
          (met : HasKeyAt log t i (key_of q)) where
        abbrev of : Of
        of = record { pair = q.index; table = t; index = i }

        abbrev with_choice : Remembered
        with_choice = record { fill = None; choice = Some (To_replace p.index of) }

        chooses_only : {stands : ClosureResult} → ActsOn (resumed_at h b.mode initial b.limit with_choice).call stands → stands ≡ Makes (Some p.index) q.index
        chooses_only (inl e) = absurd (cc e)
        chooses_only (inr (inl e)) = absurd (cc e)
        chooses_only (inr (inr e)) = cc e

        at_slot : IsOfKey g ((run (exchanges_of begun ++ since) start).slot t i) (Some (key_of q))
        at_slot = subst (λ (es : List (Exchange (Stored K V))). IsOfKey g ((run es start).slot t i) (Some (key_of q))) (sym since_is)
            (met.0, met.1, ap (λ z. Some z) met.2)

        pub resumes_replaced : IsAt with_choice → IsComputing eq hash b name key begun log x (Heard (Some p))
        resumes_replaced machine = record {
          made = q ∷ [];
          writing = record {
            calling = rw (machine, table.0, table.1, pairs.0, pairs.1, pairs.2, pairs.3)
                (calls (q ∷ []) pair_is initial with_choice tt (q, inl refl, refl, at_slot));
            keyed = has_key;
            valued = has_value;
            put_placed = rw pairs.3 tt;
          };
          task_is = ap (λ (z : Machine). z.call.task) machine;
          words = rw machine tt;
          puts = rw machine tt;
          shown_placed = rw shown shown_placed;
          fill_placed = rw fill tt;
          chosen_placed = rw chosen shown_placed;
          held = (was, tt);
          none_once = tt;
          none_shown = inl tt;
          stood = λ stands s.
              let is : stands ≡ Makes (Some p.index) q.index = chooses_only (subst (λ (z : Machine). ActsOn z.call stands) machine s) in
              subst (Holds key (q ∷ []) (Heard (Some p)) x) (sym is)
              (p, q, chosen, refl, made, record { number = refl; made_is = inl refl; key_is = key_is; said_is = inl refl });
          newest = λ i n s. inr (record { shown = shown ∙ sym chosen; made = (q, made, value_is) });
          of_slot = λ old new e.
              let f = sym (ap (λ (z : Machine). z.call.remembered.choice) machine) ∙ e in let is : of ≡ new = cc f in
              (q, made, subst (λ (z : Of). HasKeyAt log z.table z.index (key_of q)) is met);
          aborts = λ with e. let f = sym (ap ask_of machine) ∙ e in absurd (cc f);
          refuses = λ cause e. let f = sym (ap ask_of machine) ∙ e in absurd (cc f);
          crowded = λ e. let f = sym (ap ask_of machine) ∙ e in absurd (cc f);
          spent = λ e. let f = sym (ap ask_of machine) ∙ e in absurd (cc f);
        }

    -- its result removes a pair
    module _ (p : Stored K V) (shown_placed : IsPlaced b (Some name) (names.Pair p))
        (was : WasHeld eq (eq key) (history_of begun) (history_of log) (Some p)) (shown : x.shown ≡ Some p) (fill : x.fill ≡ None)
        (chosen : x.chosen ≡ Some p) where
      abbrev to_remove : Remembered
      to_remove = record { fill = None; choice = Some (To_remove p.index) }

      removes_only : {stands : ClosureResult} → ActsOn (resumed_at h b.mode initial b.limit to_remove).call stands → stands ≡ Removes p.index
      removes_only (inl e) = absurd (cc e)
      removes_only (inr (inl e)) = absurd (cc e)
      removes_only (inr (inr e)) = cc e

      pub resumes_removing : IsAt to_remove → IsComputing eq hash b name key begun log x ((Some p, operation.Remove) ∷ [])
      resumes_removing machine = record {
        made = [];
        writing = record {
          calling = rw (machine, table.0, table.1, pairs.0, pairs.1, pairs.2, pairs.3) (calls [] (λ q none. absurd none) initial to_remove tt tt);
          keyed = has_key;
          valued = has_value;
          put_placed = rw pairs.3 tt;
        };
        task_is = ap (λ (z : Machine). z.call.task) machine;
        words = rw machine tt;
        puts = rw machine tt;
        shown_placed = rw shown shown_placed;
        fill_placed = rw fill tt;
        chosen_placed = rw chosen shown_placed;
        held = (was, tt);
        none_once = tt;
        none_shown = inl tt;
        stood = λ stands s.
            let is : stands ≡ Removes p.index = removes_only (subst (λ (z : Machine). ActsOn z.call stands) machine s) in
            subst (Holds key [] ((Some p, operation.Remove) ∷ []) x) (sym is) (p, chosen, refl, inl refl);
        newest = λ i n s. let is : Makes (Some i) n ≡ Removes p.index = removes_only
            (subst (λ (z : Machine). ActsOn z.call (Makes (Some i) n)) machine s) in absurd (cc is);
        of_slot = λ old new e. let f = sym (ap (λ (z : Machine). z.call.remembered.choice) machine) ∙ e in absurd (cc f);
        aborts = λ with e. let f = sym (ap ask_of machine) ∙ e in absurd (cc f);
        refuses = λ cause e. let f = sym (ap ask_of machine) ∙ e in absurd (cc f);
        crowded = λ e. let f = sym (ap ask_of machine) ∙ e in absurd (cc f);
        spent = λ e. let f = sym (ap ask_of machine) ∙ e in absurd (cc f);
      }
