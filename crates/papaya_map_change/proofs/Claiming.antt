-- The fast path of an insertion at an empty place: its pair is stored and claims the slot, and its
-- ghost machine follows it.
use Rattle.std.proofs.Common.{◌≡◌, inl, inr, ⊎_elim, ℕ, ◌<◌, ◌==◌, Bool, true, MatchOption, Option}
use Rattle.std.proofs.Common.{None, Some, List, [], ◌∷◌, ◌++◌, append-nil, length, refl, sym, ap}
use Rattle.std.proofs.Common.{◌∙◌, subst}
use Rattle.std.specs.Cmp.{IsEquivalence}
use Rattle.std.specs.Prelude.{pos}
use denote.Bor.{Bor}
use Rattle.logbook.specs.Pages.{Book}
use Rattle.papaya_words.specs.Word.{hint_of, live_word, pair_of}
use Rattle.papaya_call.specs.declared.ask.At.TheVariants.{Slot}
use Rattle.papaya_call.specs.declared.ask.Ask.TheVariants.{MakeKey, MakePair, MakeValue}
use Rattle.papaya_call.specs.declared.ask.Answer.TheVariants.{Made as Made_number}
use Rattle.papaya_call.specs.declared.ask.StepKind.TheVariants as steps
use Rattle.papaya_call.specs.declared.search.Place.{Place}
use Rattle.papaya_call.specs.declared.machine.State.TheVariants.{Writing, Counting, Noting}
use Rattle.papaya_call.specs.declared.made.Made.{Made}
use Rattle.papaya_call.specs.declared.write.Claimed.{Claimed}
use Rattle.papaya_call.specs.declared.write.Write.{Write}
use Rattle.papaya_call.specs.Made.{nothing_made}
use Rattle.papaya_call.specs.Write.{claimed_by}
use Rattle.papaya_call.specs.declared.chain.machine.Machine.{Machine}
use Rattle.papaya_map_book.specs.declared.rule.entry.Begun.{Begun}
use Rattle.papaya_map_book.specs.declared.rule.entry.Event.{Event}
use Rattle.papaya_map_book.specs.declared.rule.entry.Named.TheVariants as names
use Rattle.papaya_map_book.specs.Calls.{IsSlotTried, IsTable}
use Rattle.papaya_map_book.specs.Hashes.{hash_of}
use Rattle.papaya_map_book.specs.Hinted.{IsSlotHint}
use Rattle.papaya_map_book.specs.Logs.{Stored, exchanges_of}
use Rattle.papaya_map_book.specs.Plays.{CanExchange}
use Rattle.papaya_map_book.specs.Rule.{IsPlaced}
use Rattle.papaya_map_book.specs.Sheets.{Sheet}
use Rattle.papaya_map_lookup.specs.History.{Change, changes_of, history_of, key_of}
use Rattle.papaya_map_lookup.proofs.Driving.{can_put}
use Rattle.papaya_map_lookup.proofs.Histories.{changes-append, history_since}
use Rattle.papaya_map_lookup.proofs.Readings.{IsQuery}
use Rattle.papaya_map_change.specs.Changes.{IsChangeOf}
use Rattle.papaya_map_change.specs.Changing.{HasChanged, IsCalling}
use Rattle.papaya_map_change.specs.Seeking.{IsInsertingAt, insertion_at}
use Rattle.papaya_map_change.proofs.Changing.{barren, call_loaded, call_relies, counted, hint_may, quiet, slot_table}
use Rattle.papaya_map_change.proofs.Exchanging.{exchanged}
use Rattle.papaya_map_change.proofs.Written.{own_query}

module _ {K V S H : Type 0} (eq : K → K → Bool) (input : K → List (List ℕ)) (build : S → H) (write : H → List ℕ → H) (finish : H → ℕ)
    (classes : IsEquivalence eq) (respects : (x y : K) → eq x y ≡ true → input x ≡ input y)
    (b : Begun K V S) (name : Book) (key : K) (begun : List (Event K V S)) where
  abbrev hash : S → K → ℕ
  hash = hash_of input build write finish

  abbrev h : ℕ
  h = hash b.hasher key

  abbrev query : IsQuery eq input (eq key) (input key)
  query = own_query eq input build write finish classes respects b name key

  abbrev Under : List (Event K V S) → Machine → Option (Bor Sheet) → Option (Stored K V) → List (Stored K V) → (taken put : Option (Stored K V)) → Type 0
  Under log m table last pairs taken put = IsCalling eq hash b name (eq key) h (Some key) begun log m table last None pairs taken put None

  -- its pair was stored in the arena
  module _ (log : List (Event K V S)) (at : Place) (table : Sheet) (unlimited : b.limit ≡ None)
      (r : IsInsertingAt eq hash b name key begun log (Writing (record { place = at; old = 0 })) None table) (q : Stored K V) (key_is : key_of q ≡ key)
      (placed : IsPlaced b (Some name) (names.Pair q)) where
    abbrev lent : Bor Sheet
    lent = r.0

    abbrev target : Write
    target = record { place = at; old = 0 }

    -- the machine that has made this, and writes at the place
    abbrev writes : Made → Machine
    writes made = insertion_at h b.mode 1 made (Writing target)

    abbrev none : Made
    none = nothing_made None

    began : Under log (writes none) (Some lent) r.2 [] None None
    began = subst (λ (limit : Option ℕ). Under log (writes (nothing_made limit)) (Some lent) r.2 [] None None) unlimited r.4

    abbrev has_key : Made
    has_key = record none { keyed = true }

    keyed : Under log (writes has_key) (Some lent) r.2 [] None None
    keyed =
        quiet eq input build write finish classes respects b (eq key) (input key) query (Some key) name begun log log ([], append-nil log)
        began.lawful (writes none) (Some lent) r.2 None [] None None None began MakeKey refl (Made_number 0) r.2 [] (Some lent) None
        (record {
          told = (inr (0, refl), (refl, refl));
          same = refl;
          busy = λ z. z;
          brings = barren eq input build write finish classes respects b (eq key) (input key) query (Some key) name begun log log ([], append-nil log)
              began.lawful (writes none) (Some lent) r.2 None [] None None None began MakeKey refl tt (Made_number 0) None;
        }) began.holds_table began.last_placed began.made_placed

    abbrev has_value : Made
    has_value = record has_key { valued = true }

    valued : Under log (writes has_value) (Some lent) r.2 [] None None
    valued =
        quiet eq input build write finish classes respects b (eq key) (input key) query (Some key) name begun log log ([], append-nil log)
        keyed.lawful (writes has_key) (Some lent) r.2 None [] None None None keyed MakeValue refl (Made_number 0) r.2 [] (Some lent) None
        (record {
          told = (inr (0, refl), (refl, refl));
          same = refl;
          busy = λ z. z;
          brings = barren eq input build write finish classes respects b (eq key) (input key) query (Some key) name begun log log ([], append-nil log)
              keyed.lawful (writes has_key) (Some lent) r.2 None [] None None None keyed MakeValue refl tt (Made_number 0) None;
        }) keyed.holds_table keyed.last_placed keyed.made_placed

    abbrev pub has_pair : Made
    has_pair = record has_value { own = Some q.index }

    pub paired : Under log (writes has_pair) (Some lent) r.2 (q ∷ []) None None
    paired =
        quiet eq input build write finish classes respects b (eq key) (input key) query (Some key) name begun log log ([], append-nil log)
        valued.lawful (writes has_value) (Some lent) r.2 None [] None None None valued MakePair refl (Made_number q.index) r.2 (q ∷ []) (Some lent) None
        (record {
          told = inr (q, ap (λ z. Some z) key_is, (refl, refl, refl));
          same = refl;
          busy = λ z. z;
          brings = barren eq input build write finish classes respects b (eq key) (input key) query (Some key) name begun log log ([], append-nil log)
              valued.lawful (writes has_value) (Some lent) r.2 None [] None None None valued MakePair refl tt (Made_number q.index) None;
        }) valued.holds_table valued.last_placed
        (λ p one. ⊎_elim (λ is. subst (λ (z : Stored K V). IsPlaced b (Some name) (names.Pair z)) (sym is) placed) (λ other. absurd other) one)

    abbrev m : Machine
    m = writes has_pair

    abbrev new : ℕ
    new = live_word q.index

    -- the slot is one of the table
    pub slot_there : IsTable log at.table table × (at.probe.i < length table.slots)
    slot_there =
        subst (λ (z : Sheet). IsTable log at.table z × (at.probe.i < length z.slots)) r.1
        (slot_table eq input build write finish classes respects b (eq key) (input key) query (Some key) name begun log m (Some lent) r.2 None
        (q ∷ []) None None None paired at.table at.probe.i (inr (0, new, refl)))

    -- the pair may be put in
    pub put_can : pair_of new ≡ q.index → CanExchange eq hash b (Slot at.table at.probe.i) (Some steps.Claim) 0 new (Some q) (names.Pair q) log
    put_can number =
        can_put eq input build write finish classes respects b (eq key) (input key) query (Some key) (exchanges_of begun) log paired.lawful m.call
        (call_loaded eq input build write finish classes respects b (eq key) (input key) query (Some key) name begun r.2 (q ∷ []))
        (call_relies eq input build write finish classes respects b (eq key) (input key) query (Some key) name begun log m (Some lent) r.2 None
        (q ∷ []) None None None paired) at.table at.probe.i 0 new refl (inl refl) q
        (λ claims. ap (λ z. Some z) key_is, λ replaces. absurd (cc replaces)) number

    -- it was put in
    module _ (log' : List (Event K V S)) (found : ℕ) (before : Option (Stored K V))
        (tried : IsSlotTried eq hash b name at.table at.probe.i (Some steps.Claim) 0 new (Some q) (names.Pair q) log found log' before)
        (is : (found == 0) ≡ true) where
      abbrev claimed : Claimed
      claimed = claimed_by target q.index

      abbrev pub counts : Machine
      counts = insertion_at h b.mode 1 has_pair (Counting claimed)

      pub ended : Under log' counts (Some lent) r.2 (q ∷ []) before (Some q)
      ended =
          exchanged eq input build write finish classes respects b (eq key) (input key) query (Some key) name begun log log' m (Some lent) r.2 None
          (q ∷ []) None None None paired at.table at.probe.i 0 new found (Some q) before refl tried
          (λ p e. let one : q ≡ p = cc e in inl (sym one))
          (λ claims p e. let one : q ≡ p = cc e in ap (λ (z : Stored K V). Some (key_of z)) (sym one) ∙ ap (λ z. Some z) key_is) is

      pub claim_changed : HasChanged eq (Some key) begun log' before (Some q) (None, Some q.index)
      claim_changed = ended.changed (None, Some q.index) refl

      nothing_there : (o : Option (Stored K V))
          → MatchOption o (◌≡◌ {A = Option ℕ} None None) (λ p. (None ≡ Some p.index) × (claim_changed.class ≡ key_of p)) → o ≡ None
      nothing_there None h = refl
      nothing_there (Some p) h = absurd (let e = h.0 in cc e)

      -- the slot's hint may be the key's
      pub claim_hint : IsSlotHint eq hash b at.table at.probe.i (hint_of h) log'
      claim_hint =
          let noting = counted eq input build write finish classes respects b (eq key) (input key) query (Some key) name begun log' counts (Some lent)
          r.2 None (q ∷ []) before (Some q) None ended (pos 1) refl in
          hint_may eq input build write finish classes respects b (eq key) (input key) query (Some key) name begun log'
          (insertion_at h b.mode 1 has_pair (Noting claimed)) (Some lent) r.2 None (q ∷ []) before (Some q) None noting at.table at.probe.i (hint_of h) refl

      -- so the history ends with its change
      pub claim_traded : IsChangeOf (eq key) (history_of begun) (history_of log') None (Some q)
      claim_traded =
          let c = claim_changed in record {
            before = history_of c.before;
            change = record { class = c.class; taken = before; put = Some q };
            since = history_since begun c.before c.since;
            is = ap (changes_of key_of) c.is ∙ (changes-append key_of (exchanges_of c.before) (c.by ∷ [])
                ∙ ap (λ (cs : List (Change K (Stored K V))). history_of c.before ++ cs) (append-nil _ ∙ c.change_is));
            class_is = classes.symm key c.class ∙ subst (λ (z : K). eq c.class z ≡ true) key_is c.put_is.1;
            taken_is = nothing_there before c.taken_is;
            put_is = refl;
            kept = λ z w e. absurd (cc e);
          }
