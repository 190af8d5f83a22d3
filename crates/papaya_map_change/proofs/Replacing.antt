-- The fast path of an insertion that replaces a pair: one of that pair's key is stored and put in,
-- and its ghost machine follows it.
use Rattle.std.proofs.Common.{◌≡◌, inl, inr, ⊎_elim, ℕ, ◌<◌, ◌==◌, ◌&&◌, eq-eqb, Bool, true, false}
use Rattle.std.proofs.Common.{if◌then◌else◌, MatchOption, Option, None, Some, List, [], ◌∷◌, ◌++◌}
use Rattle.std.proofs.Common.{append-nil, length, refl, sym, ap, ◌∙◌, subst}
use Rattle.std.proofs.lemmas.Bool.{ne_eqb}
use Rattle.std.specs.Cmp.{IsEquivalence}
use mathlib.Core.List.{IsPrefix}
use denote.Bor.{Bor}
use Rattle.logbook.specs.Pages.{Book}
use Rattle.papaya_words.specs.Word.{kind_of, live_word, pair_of}
use Rattle.papaya_words.specs.declared.word.Kind.TheVariants as kinds
use Rattle.papaya_call.specs.declared.ask.At.TheVariants.{Slot}
use Rattle.papaya_call.specs.declared.ask.Ask.TheVariants.{MakeKey, MakePairOf, MakeValue, Exchange as Ask_exchange}
use Rattle.papaya_call.specs.declared.ask.Answer.TheVariants.{Exchanged, Made as Made_number}
use Rattle.papaya_call.specs.declared.ask.StepKind.{StepKind}
use Rattle.papaya_call.specs.declared.ask.StepKind.TheVariants as steps
use Rattle.papaya_call.specs.declared.call.Reply.TheVariants.{Replaced}
use Rattle.papaya_call.specs.declared.search.Place.{Place}
use Rattle.papaya_call.specs.declared.machine.State.TheVariants.{Writing, Showing, Counting, Ended}
use Rattle.papaya_call.specs.declared.made.Made.{Made}
use Rattle.papaya_call.specs.declared.write.Write.{Write}
use Rattle.papaya_call.specs.Made.{nothing_made, of_grown, own_grown}
use Rattle.papaya_call.specs.Write.{claimed_by, made_of, made_to_write}
use Rattle.papaya_call.specs.declared.chain.ask.Answer.TheVariants as answers
use Rattle.papaya_call.specs.declared.chain.ask.Ask.TheVariants.{Call}
use Rattle.papaya_call.specs.declared.chain.machine.Machine.{Machine}
use Rattle.papaya_call.specs.ChainMachine.{after, ask_of, kind_of_ask}
use Rattle.papaya_call_law.specs.Relies.{MayRemove}
use Rattle.papaya_call_law.proofs.ReliesHeld.{machine_shows}
use Rattle.papaya_map_book.specs.declared.rule.entry.Begun.{Begun}
use Rattle.papaya_map_book.specs.declared.rule.entry.Event.{Event}
use Rattle.papaya_map_book.specs.declared.rule.entry.Named.TheVariants as names
use Rattle.papaya_map_book.specs.Calls.{IsSlotTried, IsTable}
use Rattle.papaya_map_book.specs.Hashes.{hash_of}
use Rattle.papaya_map_book.specs.Logs.{Stored, exchanges_of, pair_named}
use Rattle.papaya_map_book.specs.Plays.{CanExchange}
use Rattle.papaya_map_book.specs.Rule.{IsLawfulLog, IsPlaced}
use Rattle.papaya_map_book.specs.Sheets.{Sheet}
use Rattle.papaya_map_lookup.specs.History.{Change, changes_of, history_of, key_of}
use Rattle.papaya_map_lookup.specs.Lookups.{coding_for, setting_for}
use Rattle.papaya_map_lookup.proofs.Driving.{can_put}
use Rattle.papaya_map_lookup.proofs.Histories.{changes-append, history_since}
use Rattle.papaya_map_lookup.proofs.KeptKeys.{key_at_stays, met_key}
use Rattle.papaya_map_lookup.proofs.Readings.{IsQuery, hashed_with}
use Rattle.papaya_map_change.specs.Changes.{IsChangeOf}
use Rattle.papaya_map_change.specs.Changing.{HasChanged, IsCalling, loaded_with}
use Rattle.papaya_map_change.specs.Seeking.{Computes, IsInsertingAt, insertion_at, seeker_at}
use Rattle.papaya_map_change.specs.Writing.{HasKeyAt}
use Rattle.papaya_map_change.proofs.Changing.{barren, call_loaded, call_relies, quiet, slot_table}
use Rattle.papaya_map_change.proofs.Exchanging.{exchanged}
use Rattle.papaya_map_change.proofs.Written.{own_query}

-- a live word is no empty one
pub live_full : (word : ℕ) → kind_of word ≡ kinds.Live → (word == 0) ≡ false
live_full word live = ne_eqb word 0 (λ e. let z : kind_of 0 ≡ kinds.Live = subst (λ (n : ℕ). kind_of n ≡ kinds.Live) e live in cc z)

module _ {K V S H : Type 0} (eq : K → K → Bool) (input : K → List (List ℕ)) (build : S → H) (write : H → List ℕ → H) (finish : H → ℕ)
    (classes : IsEquivalence eq) (respects : (x y : K) → eq x y ≡ true → input x ≡ input y)
    (b : Begun K V S) (name : Book) (key : K) (begun : List (Event K V S)) where
  abbrev hash : S → K → ℕ
  hash = hash_of input build write finish

  abbrev h : ℕ
  h = hash b.hasher key

  abbrev query : IsQuery eq input (eq key) (input key)
  query = own_query eq input build write finish classes respects b name key

  abbrev Under : List (Event K V S) → Machine → Option (Bor Sheet) → Option (Stored K V) → List (Stored K V) → (taken put : Option (Stored K V)) → Type 0
  Under log m table last pairs taken put = IsCalling eq hash b name (eq key) h (Some key) begun log m table last None pairs taken put None

  module _ (log : List (Event K V S)) (at : Place) (word : ℕ) (full : (word == 0) ≡ false) (p : Stored K V) (table : Sheet)
      (r : IsInsertingAt eq hash b name key begun log (Writing (record { place = at; old = word })) (Some p) table) where
    abbrev lent : Bor Sheet
    lent = r.0

    abbrev target : Write
    target = record { place = at; old = word }

    -- a pair that was made for this place may be used here
    same_place : ((at.table == at.table) && (at.probe.i == at.probe.i)) ≡ true
    same_place = rw (eq-eqb at.table at.table refl, eq-eqb at.probe.i at.probe.i refl) refl

    last_is : r.2 ≡ Some p
    last_is = r.3 p refl

    -- the pair that was met is stored in the book's arenas
    pub met_placed : IsPlaced b (Some name) (names.Pair p)
    met_placed = subst (λ (o : Option (Stored K V)). IsPlaced b (Some name) (pair_named o)) last_is r.4.last_placed

    may : MayRemove (setting_for eq hash b (eq key) h log) (coding_for hash b.hasher h) (exchanges_of begun) r.4.since (Some key)
        (loaded_with r.2 None []).call (record { place = at; word = word })
    may = ⊎_elim (λ none. absurd (let f = sym full ∙ ap (λ (z : ℕ). z == 0) none in cc f)) (λ o. o.1) r.4.relies.call.stage.old

    met_is : may.pair ≡ p
    met_is = let both : Some may.pair ≡ Some p = sym may.last ∙ last_is in cc both

    -- its key is in the slot, and is equal to the call's
    pub met_key_there : HasKeyAt log at.table at.probe.i (key_of p)
    met_key_there = subst (λ (z : Stored K V). HasKeyAt log at.table at.probe.i (key_of z)) met_is
        (met_key eq hash b (eq key) h (exchanges_of begun) r.4.since (Some key) log r.4.is at word may.pair may.met)

    pub met_same : eq key (key_of p) ≡ true
    met_same = subst (λ (z : Stored K V). eq key (key_of z) ≡ true) met_is may.same

    -- it has the number that the word names
    pub met_number : p.index ≡ pair_of word
    met_number =
        let hashed = hashed_with eq input build write finish classes respects b (eq key) (input key) query log r.4.lawful in
        let calls = r.4.relies.call in
        let shown = machine_shows (setting_for eq hash b (eq key) h log) (coding_for hash b.hasher h) hashed (exchanges_of begun) r.4.since (Some key)
        (loaded_with r.2 None []).call (seeker_at Computes h b.mode 1 (nothing_made b.limit) (Showing (record { place = at; word = word }))).call
        (record { hash = calls.hash; mode = calls.mode; made = calls.made; stage = (tt, may) }) (pair_of word) refl in
        let both : Some shown.0 ≡ Some p = sym shown.1 ∙ last_is in
        let one : shown.0 ≡ p = cc both in
        ap (λ (z : Stored K V). z.index) (sym one) ∙ shown.2

    -- a pair of that key was stored in the arena
    module _ (unlimited : b.limit ≡ None) (q : Stored K V) (key_is : key_of q ≡ key_of p) (placed : IsPlaced b (Some name) (names.Pair q)) where
      -- the machine that has made this, and writes at the place
      abbrev writes : Made → Machine
      writes made = insertion_at h b.mode 1 made (Writing target)

      abbrev none : Made
      none = nothing_made None

      began : Under log (writes none) (Some lent) r.2 [] None None
      began = subst (λ (limit : Option ℕ). Under log (writes (nothing_made limit)) (Some lent) r.2 [] None None) unlimited r.4

      abbrev has_value : Made
      has_value = record none { valued = true }

      asks_value : ask_of (writes none) ≡ Call MakeValue
      asks_value = rw full (ap (λ (z : Bool). Call (if z then MakeKey else MakeValue)) full)

      to_value : after (writes none) (answers.Call (Made_number 0)) ≡ writes has_value
      to_value = rw full (ap (λ (z : Bool). writes (made_to_write (if z then own_grown false false none else of_grown false none) target 0)) full)

      valued : Under log (writes has_value) (Some lent) r.2 [] None None
      valued =
          subst (λ (m : Machine). Under log m (Some lent) r.2 [] None None) to_value
          (quiet eq input build write finish classes respects b (eq key) (input key) query (Some key) name begun log log ([], append-nil log)
          began.lawful (writes none) (Some lent) r.2 None [] None None None began MakeValue asks_value (Made_number 0) r.2 [] (Some lent) None
          (record {
            told = (inr (0, refl), (refl, refl));
            same = refl;
            busy = λ z. z;
            brings = barren eq input build write finish classes respects b (eq key) (input key) query (Some key) name begun log log
                ([], append-nil log) began.lawful (writes none) (Some lent) r.2 None [] None None None began MakeValue asks_value tt (Made_number 0) None;
          }) began.holds_table began.last_placed began.made_placed)

      abbrev pub has_pair : Made
      has_pair = record has_value { of = Some (made_of target q.index) }

      asks_pair : ask_of (writes has_value) ≡ Call (MakePairOf (pair_of word))
      asks_pair = rw full (ap (λ (z : Bool). Call (if z then MakeKey else MakePairOf (pair_of word))) full)

      to_pair : after (writes has_value) (answers.Call (Made_number q.index)) ≡ writes has_pair
      to_pair =
          rw full
          (ap (λ (z : Bool). writes (made_to_write (if z then own_grown false true has_value else of_grown true has_value) target q.index)) full
          ∙ ap (λ (z : Bool). writes (if z then record has_value { own = Some q.index } else has_pair)) full)

      of_met : (o : Stored K V) → r.2 ≡ Some o → key_of q ≡ key_of o
      of_met o e = let both : Some p ≡ Some o = sym last_is ∙ e in let one : p ≡ o = cc both in key_is ∙ ap key_of one

      pub paired : Under log (writes has_pair) (Some lent) r.2 (q ∷ []) None None
      paired =
          subst (λ (m : Machine). Under log m (Some lent) r.2 (q ∷ []) None None) to_pair
          (quiet eq input build write finish classes respects b (eq key) (input key) query (Some key) name begun log log ([], append-nil log)
          valued.lawful (writes has_value) (Some lent) r.2 None [] None None None valued (MakePairOf (pair_of word)) asks_pair (Made_number q.index)
          r.2 (q ∷ []) (Some lent) None
          (record {
            told = inr (q, λ o e f. ap (λ z. Some z) (of_met o e), (refl, refl, refl));
            same = refl;
            busy = λ z. z;
            brings = barren eq input build write finish classes respects b (eq key) (input key) query (Some key) name begun log log
                ([], append-nil log) valued.lawful (writes has_value) (Some lent) r.2 None [] None None None valued (MakePairOf (pair_of word))
                asks_pair tt (Made_number q.index) None;
          }) valued.holds_table valued.last_placed
          (λ o one. ⊎_elim (λ is. subst (λ (z : Stored K V). IsPlaced b (Some name) (names.Pair z)) (sym is) placed) (λ other. absurd other) one))

      abbrev m : Machine
      m = writes has_pair

      abbrev new : ℕ
      new = live_word q.index

      serves_there : ask_of m ≡ Call (Ask_exchange (Slot at.table at.probe.i) word new)
      serves_there = rw (full, same_place) refl

      replaces : kind_of_ask m ≡ Some steps.Replace
      replaces = rw (full, same_place) (ap (λ (z : Bool). Some (if z then steps.Claim else steps.Replace)) full)

      -- the slot is one of the table
      pub slot_there : IsTable log at.table table × (at.probe.i < length table.slots)
      slot_there =
          subst (λ (z : Sheet). IsTable log at.table z × (at.probe.i < length z.slots)) r.1
          (slot_table eq input build write finish classes respects b (eq key) (input key) query (Some key) name begun log m (Some lent) r.2 None
          (q ∷ []) None None None paired at.table at.probe.i (inr (word, new, serves_there)))

      -- the pair may be put in
      pub put_can : pair_of new ≡ q.index → CanExchange eq hash b (Slot at.table at.probe.i) (Some steps.Replace) word new (Some q) (names.Pair q) log
      put_can number =
          subst (λ (z : Option StepKind). CanExchange eq hash b (Slot at.table at.probe.i) z word new (Some q) (names.Pair q) log) replaces
          (can_put eq input build write finish classes respects b (eq key) (input key) query (Some key) (exchanges_of begun) log paired.lawful m.call
          (call_loaded eq input build write finish classes respects b (eq key) (input key) query (Some key) name begun r.2 (q ∷ []))
          (call_relies eq input build write finish classes respects b (eq key) (input key) query (Some key) name begun log m (Some lent) r.2 None
          (q ∷ []) None None None paired) at.table at.probe.i word new (let e = serves_there in cc e) (inr replaces) q
          (λ claims. absurd (let f = sym replaces ∙ claims in cc f), λ it. subst (HasKeyAt log at.table at.probe.i) (sym key_is) met_key_there) number)

      -- the slot still has its key, if another pair was found there
      pub key_there : (log' : List (Event K V S)) → IsLawfulLog eq hash b log' → IsPrefix log log' → HasKeyAt log' at.table at.probe.i (key_of q)
      key_there log' l' pre = key_at_stays eq input build write finish classes respects b log log' l' pre at.table at.probe.i (key_of q)
          (subst (HasKeyAt log at.table at.probe.i) (sym key_is) met_key_there)

      pub key_same : eq key (key_of q) ≡ true
      key_same = subst (λ (z : K). eq key z ≡ true) (sym key_is) met_same

      -- it was put in
      module _ (log' : List (Event K V S)) (found : ℕ) (before : Option (Stored K V))
          (tried : IsSlotTried eq hash b name at.table at.probe.i (Some steps.Replace) word new (Some q) (names.Pair q) log found log' before)
          (is : (found == word) ≡ true) where
        abbrev pub ends : Machine
        ends = insertion_at h b.mode 1 has_pair (Ended (Replaced (pair_of word) q.index))

        to_end : after m (answers.Call Exchanged) ≡ ends
        to_end = rw (full, same_place) (ap (λ (z : Bool).
            insertion_at h b.mode 1 has_pair (if z then Counting (claimed_by target q.index) else Ended (Replaced (pair_of word) q.index))) full)

        pub ended : Under log' ends (Some lent) r.2 (q ∷ []) before (Some q)
        ended =
            subst (λ (z : Machine). Under log' z (Some lent) r.2 (q ∷ []) before (Some q)) to_end
            (exchanged eq input build write finish classes respects b (eq key) (input key) query (Some key) name begun log log' m (Some lent) r.2 None
            (q ∷ []) None None None paired at.table at.probe.i word new found (Some q) before serves_there
            (subst (λ (z : Option StepKind). IsSlotTried eq hash b name at.table at.probe.i z word new (Some q) (names.Pair q) log found log' before)
            (sym replaces) tried)
            (λ o e. let one : q ≡ o = cc e in inl (sym one)) (λ claims o e. absurd (let f = sym replaces ∙ claims in cc f)) is)

        pub replace_changed : HasChanged eq (Some key) begun log' before (Some q) (Some (pair_of word), Some q.index)
        replace_changed = ended.changed (Some (pair_of word), Some q.index) refl

        some_there : (o : Option (Stored K V)) → MatchOption o (Some (pair_of word) ≡ None)
            (λ z. (Some (pair_of word) ≡ Some z.index) × (replace_changed.class ≡ key_of z)) → (z : Stored K V) × (o ≡ Some z)
        some_there None e = absurd (cc e)
        some_there (Some z) e = (z, refl)

        -- it replaced a pair
        pub taken_some : (z : Stored K V) × (before ≡ Some z)
        taken_some = some_there before replace_changed.taken_is

        pub taken_there : IsPlaced b (Some name) (pair_named before)
        taken_there = ended.taken_placed

        kept_by : (o z : Stored K V) → before ≡ Some z → MatchOption before (Some (key_of q) ≡ Some key) (λ w. key_of q ≡ key_of w) → Some q ≡ Some o
            → key_of o ≡ key_of z
        kept_by o z took is e = let one : q ≡ o = cc e in
            subst (λ (w : Stored K V). key_of w ≡ key_of z) one
            (subst (λ (w : Option (Stored K V)). MatchOption w (Some (key_of q) ≡ Some key) (λ v. key_of q ≡ key_of v)) took is)

        module _ (taken : Stored K V) (took : before ≡ Some taken) where
          -- the pair that was taken out has the number of the one that was met
          pub taken_number : p.index ≡ taken.index
          taken_number =
              let at = subst (λ (w : Option (Stored K V)).
              MatchOption w (Some (pair_of word) ≡ None) (λ z. (Some (pair_of word) ≡ Some z.index) × (replace_changed.class ≡ key_of z))) took
              replace_changed.taken_is in
              let same : pair_of word ≡ taken.index = let e = at.0 in cc e in
              met_number ∙ same

          -- so the history ends with its change
          pub replace_traded : IsChangeOf (eq key) (history_of begun) (history_of log') (Some taken) (Some q)
          replace_traded =
              let c = replace_changed in record {
                before = history_of c.before;
                change = record { class = c.class; taken = before; put = Some q };
                since = history_since begun c.before c.since;
                is = ap (changes_of key_of) c.is ∙ (changes-append key_of (exchanges_of c.before) (c.by ∷ [])
                    ∙ ap (λ (cs : List (Change K (Stored K V))). history_of c.before ++ cs) (append-nil _ ∙ c.change_is));
                class_is = classes.symm key c.class ∙ (classes.congr c.class (key_of q) key c.put_is.1 ∙ (classes.symm (key_of q) key ∙ key_same));
                taken_is = took;
                put_is = refl;
                kept = λ z o e f. let one : taken ≡ z = cc e in subst (λ (w : Stored K V). key_of o ≡ key_of w) one (kept_by o taken took c.put_is.2.is f);
              }
