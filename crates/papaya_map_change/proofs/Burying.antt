-- A compute on its fast path that removes the pair which its search met: its ghost machine deletes
-- the pair.
use Rattle.std.proofs.Common.{◌≡◌, inl, inr, ℕ, ◌<◌, ◌==◌, Bool, true, false, MatchOption, Option, None}
use Rattle.std.proofs.Common.{Some, List, [], ◌∷◌, ◌++◌, append-nil, length, refl, sym, ap, ◌∙◌}
use Rattle.std.proofs.Common.{subst}
use Rattle.std.specs.Cmp.{IsEquivalence}
use denote.Bor.{Bor}
use Rattle.logbook.specs.Pages.{Book}
use Rattle.papaya_words.specs.Word.{pair_of}
use Rattle.papaya_call.specs.declared.ask.At.TheVariants.{Slot}
use Rattle.papaya_call.specs.declared.ask.Ask.TheVariants.{ShowPair}
use Rattle.papaya_call.specs.declared.ask.Answer.TheVariants.{Exchanged, Op}
use Rattle.papaya_call.specs.declared.ask.OpKind.TheVariants as kinds
use Rattle.papaya_call.specs.declared.ask.StepKind.TheVariants as steps
use Rattle.papaya_call.specs.declared.search.Place.{Place}
use Rattle.papaya_call.specs.declared.machine.State.TheVariants.{Showing}
use Rattle.papaya_call.specs.Made.{nothing_made}
use Rattle.papaya_call.specs.Remove.{grave_word}
use Rattle.papaya_call.specs.declared.chain.ask.Answer.TheVariants as answers
use Rattle.papaya_call.specs.declared.chain.machine.Machine.{Machine}
use Rattle.papaya_call.specs.ChainMachine.{after}
use Rattle.papaya_call_law.specs.Relies.{MayRemove, change_in}
use Rattle.papaya_map_book.specs.declared.keyed.Keyed as keyed
use Rattle.papaya_map_book.specs.declared.rule.entry.Begun.{Begun}
use Rattle.papaya_map_book.specs.declared.rule.entry.Event.{Event}
use Rattle.papaya_map_book.specs.declared.rule.entry.Named.TheVariants as names
use Rattle.papaya_map_book.specs.declared.window.Window.{Window}
use Rattle.papaya_map_book.specs.Calls.{IsSlotTried, IsTable}
use Rattle.papaya_map_book.specs.Hashes.{hash_of}
use Rattle.papaya_map_book.specs.Logs.{Stored, exchanges_of}
use Rattle.papaya_map_book.specs.Plays.{CanExchange}
use Rattle.papaya_map_book.specs.Sheets.{Sheet}
use Rattle.papaya_map_book.specs.Windows.{Does}
use Rattle.papaya_map_lookup.specs.Drivers.{own, past}
use Rattle.papaya_map_lookup.specs.History.{Change, Makes, changes_of, history_of, key_of}
use Rattle.papaya_map_lookup.specs.Lookups.{coding_for, setting_for}
use Rattle.papaya_map_lookup.proofs.Driving.{can_bury}
use Rattle.papaya_map_lookup.proofs.Histories.{changes-append, history_since}
use Rattle.papaya_map_lookup.proofs.Readings.{IsQuery}
use Rattle.papaya_map_change.specs.Changes.{IsChangeOf}
use Rattle.papaya_map_change.specs.Changing.{HasChanged, IsCalling, loaded_with}
use Rattle.papaya_map_change.specs.Doing.{has_changed}
use Rattle.papaya_map_change.specs.Seeking.{Computes, IsSeekingAt, seeker_at}
use Rattle.papaya_map_change.proofs.Changing.{barren, call_loaded, call_relies, quiet, slot_table}
use Rattle.papaya_map_change.proofs.Doing.{makes}
use Rattle.papaya_map_change.proofs.Exchanging.{exchanged}
use Rattle.papaya_map_change.proofs.Logged.{makes_none}
use Rattle.papaya_map_change.proofs.Written.{own_query}

module _ {K V S H : Type 0} (eq : K → K → Bool) (input : K → List (List ℕ)) (build : S → H) (write : H → List ℕ → H) (finish : H → ℕ)
    (classes : IsEquivalence eq) (respects : (x y : K) → eq x y ≡ true → input x ≡ input y)
    (b : Begun K V S) (name : Book) (key : K) (begun log : List (Event K V S)) (at : Place) (word : ℕ) (p : Stored K V) (table : Sheet) where
  abbrev hash : S → K → ℕ
  hash = hash_of input build write finish

  abbrev h : ℕ
  h = hash b.hasher key

  abbrev query : IsQuery eq input (eq key) (input key)
  query = own_query eq input build write finish classes respects b name key

  -- the machine is to call the closure with the pair
  abbrev shows : Machine
  shows = seeker_at Computes h b.mode 1 (nothing_made b.limit) (Showing (record { place = at; word = word }))

  -- and has received that the pair is to be removed
  abbrev buries : Machine
  buries = after shows (answers.Call (Op kinds.Remove))

  -- and has deleted it
  abbrev pub ends : Machine
  ends = after buries (answers.Call Exchanged)

  abbrev grave : ℕ
  grave = grave_word word

  module _ (r : IsSeekingAt Computes eq hash b name key begun log (Showing (record { place = at; word = word })) (Some p) table) where
    abbrev lent : Bor Sheet
    lent = r.0

    last_is : r.2 ≡ Some p
    last_is = r.3 p refl

    may : MayRemove (setting_for eq hash b (eq key) h log) (coding_for hash b.hasher h) (exchanges_of begun) r.4.since (Some key)
        (loaded_with r.2 None []).call (record { place = at; word = word })
    may = r.4.relies.call.stage.1

    -- its key is equal to the call's
    met_same : eq key (key_of p) ≡ true
    met_same = let both : Some may.pair ≡ Some p = sym may.last ∙ last_is in let one : may.pair ≡ p = cc both in
        subst (λ (z : Stored K V). eq key (key_of z) ≡ true) one may.same

    said : IsCalling eq hash b name (eq key) h (Some key) begun log buries (Some lent) r.2 None [] None None None
    said =
        quiet eq input build write finish classes respects b (eq key) (input key) query (Some key) name begun log log ([], append-nil log) r.4.lawful
        shows (Some lent) r.2 None [] None None None r.4 (ShowPair (pair_of word)) refl (Op kinds.Remove) r.2 [] (Some lent) None
        (record {
          told = (inr (inl (kinds.Remove, refl)), (refl, refl));
          same = refl;
          busy = λ z. z;
          brings = barren eq input build write finish classes respects b (eq key) (input key) query (Some key) name begun log log ([], append-nil log)
              r.4.lawful shows (Some lent) r.2 None [] None None None r.4 (ShowPair (pair_of word)) refl tt (Op kinds.Remove) None;
        }) r.4.holds_table r.4.last_placed r.4.made_placed

    -- the slot is one of the table
    pub bury_there : IsTable log at.table table × (at.probe.i < length table.slots)
    bury_there =
        subst (λ (z : Sheet). IsTable log at.table z × (at.probe.i < length z.slots)) r.1
        (slot_table eq input build write finish classes respects b (eq key) (input key) query (Some key) name begun log buries (Some lent) r.2 None
        [] None None None said at.table at.probe.i (inr (word, grave, refl)))

    -- the pair may be deleted
    pub bury_can : CanExchange eq hash b (Slot at.table at.probe.i) (Some steps.Bury) word grave None names.Nothing log
    bury_can =
        can_bury eq input build write finish classes respects b (eq key) (input key) query (Some key) (exchanges_of begun) log said.lawful
        buries.call (call_loaded eq input build write finish classes respects b (eq key) (input key) query (Some key) name begun r.2 [])
        (call_relies eq input build write finish classes respects b (eq key) (input key) query (Some key) name begun log buries (Some lent) r.2 None
        [] None None None said) at.table at.probe.i word grave refl refl

    -- it was deleted
    module _ (log' : List (Event K V S)) (found : ℕ) (before : Option (Stored K V))
        (tried : IsSlotTried eq hash b name at.table at.probe.i (Some steps.Bury) word grave None names.Nothing log found log' before)
        (is : (found == word) ≡ true) where
      ended : IsCalling eq hash b name (eq key) h (Some key) begun log' ends (Some lent) r.2 None [] before None None
      ended = exchanged eq input build write finish classes respects b (eq key) (input key) query (Some key) name begun log log' buries (Some lent)
          r.2 None [] None None None said at.table at.probe.i word grave found None before refl tried (λ q e. absurd (cc e)) (λ claims q e. absurd (cc e)) is

      pub bury_changed : (change : Option ℕ × Option ℕ) → change_in ends.call.state ≡ Some change → HasChanged eq (Some key) begun log' before None change
      bury_changed = ended.changed

      changed : HasChanged eq (Some key) begun log' before None (Some (pair_of word), None)
      changed = ended.changed (Some (pair_of word), None) refl

      module _ (taken : Stored K V) (took : before ≡ Some taken) where
        taken_at : (Some (pair_of word) ≡ Some taken.index) × (changed.class ≡ key_of taken)
        taken_at = subst (λ (w : Option (Stored K V)).
            MatchOption w (Some (pair_of word) ≡ None) (λ z. (Some (pair_of word) ≡ Some z.index) × (changed.class ≡ key_of z))) took changed.taken_is

        -- so the history ends with its deletion, if it is that pair
        pub bury_traded : p.value ≡ taken.value → IsChangeOf (eq key) (history_of begun) (history_of log') (Some taken) None
        bury_traded value =
            let c = changed in record {
              before = history_of c.before;
              change = record { class = c.class; taken = before; put = None };
              since = history_since begun c.before c.since;
              is = ap (changes_of key_of) c.is ∙ (changes-append key_of (exchanges_of c.before) (c.by ∷ [])
                  ∙ ap (λ (cs : List (Change K (Stored K V))). history_of c.before ++ cs) (append-nil _ ∙ c.change_is));
              class_is = ap (eq key) (taken_at.1 ∙ ap (λ z. z.key.value) (sym value)) ∙ met_same;
              taken_is = took;
              put_is = refl;
              kept = λ z o e f. absurd (cc f);
            }

-- A call whose machine ends with a change has made that one, or none if its exchange was lost.
module _ {K V S H : Type 0} {d : keyed.Ghosts S K H} (eq : K → K → Bool) (k : Option K) (begun : List (Event K V S)) (taken put : Option (Stored K V))
    (m : Machine) (changed : has_changed m ≡ true) (w w' : Window K V S H d) where
  pub makes_if : (went : Bool) → (went ≡ true → (change : Option ℕ × Option ℕ) → change_in m.call.state ≡ Some change
      → HasChanged eq k begun w'.sight.log taken put change) → Does went w w' → Makes went (own w) (own w') (past w')
  makes_if true has does = subst (λ (z : Bool). Makes z (own w) (own w') (past w')) changed
      (makes eq k begun taken put m w w' (has refl) (subst (λ (z : Bool). Does z w w') (sym changed) does))
  makes_if false has does = makes_none w w' does
