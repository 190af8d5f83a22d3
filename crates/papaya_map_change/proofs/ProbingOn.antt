-- A call whose search passes places of a table in one step. A ghost search accompanies it and ends
-- at the same place.
use Rattle.std.proofs.Common.{◌≡◌, inl, inr, ℕ, Bool, true, false, Option, None, Some, List, [], refl, sym, ap, ◌∙◌, subst}
use Rattle.std.proofs.lemmas.List.{append_cancel_left}
use Rattle.std.specs.Cmp.{IsEquivalence}
use mathlib.Core.List.{IsPrefix}
use denote.Bor.{Bor}
use Rattle.logbook.specs.Pages.{Book}
use Rattle.logbook.specs.declared.tokens.Pen.{Pen}
use Rattle.boxcar.specs.Table.{Where}
use Rattle.papaya_call.specs.declared.search.Place.{Place}
use Rattle.papaya_call.specs.declared.search.Search.TheVariants.{Looking}
use Rattle.papaya_call.specs.Search.{IsWithin}
use Rattle.papaya_call.specs.declared.machine.State.TheVariants.{Searching}
use Rattle.papaya_call.specs.Made.{nothing_made}
use Rattle.papaya_call.specs.declared.chain.machine.Machine.{Machine}
use Rattle.papaya_call.specs.declared.chain.machine.Phase.TheVariants.{Calling}
use Rattle.papaya_call.specs.ChainMachine.{IsValid}
use Rattle.papaya_call_law.specs.Relies.{IsAt}
use Rattle.papaya_call_law.proofs.ReliesLearnPairs.{wanted_relies}
use Rattle.papaya_words_law.specs.Exchange.{Exchange}
use Rattle.papaya_map_book.specs.declared.rule.entry.Begun.{Begun}
use Rattle.papaya_map_book.specs.declared.rule.entry.Event.{Event}
use Rattle.papaya_map_book.specs.declared.keyed.Keyed as keyed
use Rattle.papaya_map_book.specs.declared.window.Window.{Window}
use Rattle.papaya_map_book.specs.Hashes.{hash_of}
use Rattle.papaya_map_book.specs.Logs.{Stored, exchanges_of}
use Rattle.papaya_map_book.specs.Rule.{IsLawfulLog}
use Rattle.papaya_map_book.specs.Sheets.{Sheet}
use Rattle.papaya_map_book.specs.Windows.{Does}
use Rattle.papaya_map_book.proofs.Logs.{prefix_trans}
use Rattle.papaya_map_lookup.specs.History.{key_of}
use Rattle.papaya_map_lookup.specs.Lookups.{coding_for, setting_for}
use Rattle.papaya_map_lookup.proofs.KeptKeys.{key_at_stays}
use Rattle.papaya_map_lookup.proofs.Readings.{IsQuery}
use Rattle.papaya_map_change.specs.declared.driver.Driver.{Driver}
use Rattle.papaya_map_change.specs.declared.insertion.Insertion.{Insertion}
use Rattle.papaya_map_change.specs.Changing.{IsCalling, IsDriven, loaded_with}
use Rattle.papaya_map_change.specs.Doing.{has_changed}
use Rattle.papaya_map_change.specs.Inserting.{IsInserting}
use Rattle.papaya_map_change.specs.ProbingOn.{HasPassed, probing_at}
use Rattle.papaya_map_change.specs.Seeking.{Inserts, IsSeekingAt, Seeker, seeker_at}
use Rattle.papaya_map_change.specs.Window.ProbingOn.{HasProbedOn}
use Rattle.papaya_map_change.proofs.Changing.{form, held_later, mode_is, relies_of}
use Rattle.papaya_map_change.proofs.Relying.{ChainRelying, relying_later}
use Rattle.papaya_map_change.proofs.Written.{own_query}

-- a call that has probed further is in phase `Calling`, and has changed the map or not as before
module _ {K V S H : Type 0} {d : keyed.Ghosts S K H} (w w' : Window K V S H d) (c c' : Driver K V S H) (looked : HasProbedOn w c w' c') where
  pub looked_calling : c.machine.phase ≡ Calling → c'.machine.phase ≡ Calling
  looked_calling calling = elim looked [
    | inl h ↦ ap (λ (z : Driver K V S H). z.machine.phase) h.1 ∙ calling
    | inr p ↦ ap (λ (z : Driver K V S H). z.machine.phase) p.is
  ]

  pub looked_put : c'.put ≡ c.put
  looked_put = elim looked [
    | inl h ↦ ap (λ (z : Driver K V S H). z.put) h.1
    | inr p ↦ ap (λ (z : Driver K V S H). z.put) p.is
  ]

  pub looked_initial : c'.machine.call.initial ≡ c.machine.call.initial
  looked_initial = elim looked [
    | inl h ↦ ap (λ (z : Driver K V S H). z.machine.call.initial) h.1
    | inr p ↦ ap (λ (z : Driver K V S H). z.machine.call.initial) p.is
  ]

  pub looked_does : (a : Window K V S H d) → w'.own ≡ w.own → Does (has_changed c.machine) a w → Does (has_changed c'.machine) a w'
  looked_does a own does = elim looked [
    | inl h ↦ subst (λ (z : Driver K V S H). Does (has_changed z.machine) a w') (sym h.1)
        (subst (λ (z : Window K V S H d). Does (has_changed c.machine) a z) (sym h.0) does)
    | inr p ↦ let before : Does false a w = subst (λ (z : Machine). Does (has_changed z) a w) p.was does in
        subst (λ (z : Driver K V S H). Does (has_changed z.machine) a w') (sym p.is) (ap (λ o. o.done) own ∙ before)
  ]

-- a machine that probes a place of its table is valid
pub looking_stands : (m : Machine) (at : Place) → IsValid m → IsWithin at → IsValid (probing_at m at)
looking_stands m at s within = record {
  call = record { made = s.call.made; remembered = s.call.remembered; state = within };
  chunked = s.chunked;
  initial = s.initial;
  phase = tt;
}

module _ {K V S H : Type 0} (eq : K → K → Bool) (input : K → List (List ℕ)) (build : S → H) (write : H → List ℕ → H) (finish : H → ℕ)
    (classes : IsEquivalence eq) (respects : (x y : K) → eq x y ≡ true → input x ≡ input y)
    (b : Begun K V S) (name : Book) (key : K) (begun : List (Event K V S)) where
  abbrev hash : S → K → ℕ
  hash = hash_of input build write finish

  abbrev h : ℕ
  h = hash b.hasher key

  abbrev query : IsQuery eq input (eq key) (input key)
  query = own_query eq input build write finish classes respects b name key

  abbrev Under : List (Event K V S) → Machine → Option (Bor Sheet) → (last kept : Option (Stored K V)) → List (Stored K V)
      → (taken put : Option (Stored K V)) → Option (Where Sheet × Pen) → Type 0
  Under log m table last kept made taken put fresh = IsCalling eq hash b name (eq key) h (Some key) begun log m table last kept made taken put fresh

  abbrev Seeks : List (Event K V S) → Place → Sheet → Type 0
  Seeks log at table = IsSeekingAt Inserts eq hash b name key begun log (Searching (Looking at)) None table

  module _ (log : List (Event K V S)) (m : Machine) (at : Place) (table : Option (Bor Sheet)) (last kept : Option (Stored K V))
      (made : List (Stored K V)) (taken put : Option (Stored K V)) (fresh : Option (Where Sheet × Pen))
      (r : Under log (probing_at m at) table last kept made taken put fresh) where
    -- it probes the same place over a longer log
    pub stays : (log' : List (Event K V S)) → IsLawfulLog eq hash b log' → IsPrefix log log'
        → Under log' (probing_at m at) table last kept made taken put fresh
    stays log' l' pre =
        let mid : ChainRelying eq input build write finish classes respects b (eq key) h
        (form eq input build write finish classes respects b (eq key) (input key) query (Some key) name begun) (Some key) (exchanges_of begun) log'
        (probing_at m at) (loaded_with last kept made) =
        relying_later eq input build write finish classes respects b (eq key) h
        (form eq input build write finish classes respects b (eq key) (input key) query (Some key) name begun) (Some key) (exchanges_of begun) log
        r.lawful (probing_at m at) (loaded_with last kept made)
        (relies_of eq input build write finish classes respects b (eq key) (input key) query (Some key) name begun log (probing_at m at) table last
        kept made taken put fresh r) log' l' pre in
        record {
          lawful = l';
          seen = prefix_trans begun log log' r.seen pre;
          since = mid.since;
          is = mid.is;
          relies = mid.relies;
          number = r.number;
          at_table = r.at_table;
          holds_table = held_later log log' pre r.number table r.holds_table;
          last_placed = r.last_placed;
          kept_placed = r.kept_placed;
          made_placed = r.made_placed;
          taken_placed = r.taken_placed;
          changed = λ change e. absurd (cc e);
          brings = λ n e. absurd e;
          words = λ behind n chunks e. absurd (cc e);
          counts = tt;
        }

    -- it probes another place, if that is one of the search too
    moves : (to : Place) → to.table ≡ at.table
        → IsAt (setting_for eq hash b (eq key) h log) (coding_for hash b.hasher h) (exchanges_of begun) r.since (Some key) to
        → Under log (probing_at m to) table last kept made taken put fresh
    moves to same stands = record {
      lawful = r.lawful;
      seen = r.seen;
      since = r.since;
      is = r.is;
      relies = record {
        cut = r.relies.cut;
        call = record { hash = r.relies.call.hash; mode = r.relies.call.mode; made = r.relies.call.made; stage = stands };
        phase = tt;
      };
      number = r.number;
      at_table = λ still. same ∙ r.at_table still;
      holds_table = r.holds_table;
      last_placed = r.last_placed;
      kept_placed = r.kept_placed;
      made_placed = r.made_placed;
      taken_placed = r.taken_placed;
      changed = λ change e. absurd (cc e);
      brings = λ n e. absurd e;
      words = λ behind n chunks e. absurd (cc e);
      counts = tt;
    }

  module _ (log : List (Event K V S)) (m : Machine) (at : Place) (lent : Bor Sheet) (last kept : Option (Stored K V))
      (made : List (Stored K V)) (taken put : Option (Stored K V)) (fresh : Option (Where Sheet × Pen))
      (r : Under log (probing_at m at) (Some lent) last kept made taken put fresh) where
    -- an insertion that has made no pair would probe there too
    pub seeks : Seeks log at lent.now
    seeks = (
      lent,
      refl,
      None,
      (λ p e. absurd (cc e)),
      record {
        lawful = r.lawful;
        seen = r.seen;
        since = r.since;
        is = r.is;
        relies = record {
          cut = λ x. refl;
          call = record {
            hash = refl;
            mode = mode_is b.mode;
            made = record {
              keys = λ q none. absurd none;
              limit = refl;
              number_is = wanted_relies (setting_for eq hash b (eq key) h log) (coding_for hash b.hasher h) (exchanges_of begun) r.since (Some key) b.limit;
              own_is = tt;
              of_is = tt;
              fill_is = tt;
              choice_is = tt;
            };
            stage = r.relies.call.stage;
          };
          phase = tt;
        };
        number = r.number;
        at_table = r.at_table;
        holds_table = r.holds_table;
        last_placed = tt;
        kept_placed = tt;
        made_placed = λ q none. absurd none;
        taken_placed = tt;
        changed = λ change e. absurd (cc e);
        brings = λ n e. absurd e;
        words = λ behind n chunks e. absurd (cc e);
        counts = tt;
      },
    )

    -- if such an insertion has come to another place, so has this call
    pub passes : (log' : List (Event K V S)) → IsPrefix log log' → (to : Place) → to.table ≡ at.table → Seeks log' to lent.now
        → Under log' (probing_at m to) (Some lent) last kept made taken put fresh
    passes log' pre to same s =
        let it = s.4 in
        let on = stays log m at (Some lent) last kept made taken put fresh r log' it.lawful pre in
        let one : it.since ≡ on.since = append_cancel_left (exchanges_of begun) it.since on.since (it.is ∙ sym on.is) in
        moves log' m at (Some lent) last kept made taken put fresh on to same
        (subst (λ (z : List (Exchange (Stored K V))).
        IsAt (setting_for eq hash b (eq key) h log') (coding_for hash b.hasher h) (exchanges_of begun) z (Some key) to) one it.relies.call.stage)

  -- so does a ghost search
  pub seeker_stays : (who : Seeker) (log log' : List (Event K V S)) → IsPrefix log log' → IsLawfulLog eq hash b log' → (at : Place) (table : Sheet)
      → IsSeekingAt who eq hash b name key begun log (Searching (Looking at)) None table
      → IsSeekingAt who eq hash b name key begun log' (Searching (Looking at)) None table
  seeker_stays who log log' pre l' at table (lent, is, last, met, r) = (
    lent,
    is,
    last,
    met,
    stays log (seeker_at who h b.mode 1 (nothing_made b.limit) (Searching (Looking at))) at (Some lent) last None [] None None None r log' l' pre,
  )

  -- an insertion continues so
  module _ (value : V) (log log' : List (Event K V S)) (pre : IsPrefix log log') (x : Insertion K V S H)
      (r : IsInserting eq hash b name key value begun log x) where
    inserting_passed : (c : Driver K V S H) → HasPassed x.writer.call c
        → IsDriven eq hash b name (eq key) h (Some key) begun log' r.made c
        → IsInserting eq hash b name key value begun log' (record x { writer = record x.writer { call = c } })
    inserting_passed c passed driven =
        let there : Driver K V S H = record x.writer.call { machine = probing_at x.writer.call.machine passed.to } in
        let under : IsDriven eq hash b name (eq key) h (Some key) begun log' r.made there =
        subst (IsDriven eq hash b name (eq key) h (Some key) begun log' r.made) passed.is driven in
        subst (λ (z : Driver K V S H). IsInserting eq hash b name key value begun log' (record x { writer = record x.writer { call = z } }))
        (sym passed.is) (record {
          made = r.made;
          writing = record { calling = under; keyed = r.writing.keyed; valued = r.writing.valued; put_placed = r.writing.put_placed };
          task_is = r.task_is;
          value_is = r.value_is;
          own_is = r.own_is;
          of_is = record {
            there = λ new e. let k = r.of_is.there new e in
                (k.0, k.1, k.2, key_at_stays eq input build write finish classes respects b log log' under.lawful pre new.table new.index (key_of k.0) k.3);
            is = r.of_is.is;
          };
          put_is = r.put_is;
          refuses = λ cause e. absurd (cc e);
          crowded = λ e. absurd (cc e);
          spent = λ e. absurd (cc e);
        })

    pub inserting_looked : {d : keyed.Ghosts S K H} (w w' : Window K V S H d) (c : Driver K V S H) → HasProbedOn w x.writer.call w' c
        → w.sight.log ≡ log → w'.sight.log ≡ log' → IsDriven eq hash b name (eq key) h (Some key) begun log' r.made c
        → IsInserting eq hash b name key value begun log' (record x { writer = record x.writer { call = c } })
    inserting_looked w w' c looked is is' driven = elim looked [
      | inl h ↦ let same : log ≡ log' = sym is ∙ (ap (λ z. z.sight.log) (sym h.0) ∙ is') in
          subst (λ (z : Driver K V S H). IsInserting eq hash b name key value begun log' (record x { writer = record x.writer { call = z } })) (sym h.1)
          (subst (λ (z : List (Event K V S)). IsInserting eq hash b name key value begun z x) same r)
      | inr p ↦ inserting_passed c p driven
    ]
