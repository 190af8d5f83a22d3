-- After each answer a removal again relies on facts that hold, and its machine relies on the
-- closure's result for the pair with which the closure was called last.
use Rattle.std.proofs.Common.{◌≡◌, inl, inr, ⊎_elim, ℕ, ◌==◌, Bool, true, false, MatchBool}
use Rattle.std.proofs.Common.{MatchOption, Option, None, Some, List, [], ◌∷◌, length, append-nil}
use Rattle.std.proofs.Common.{refl, sym, ap, ◌∙◌, subst}
use Rattle.std.proofs.lemmas.Bool.{cases_Bool}
use Rattle.std.specs.Cmp.{IsEquivalence}
use mathlib.Core.List.{IsPrefix}
use denote.Bor.{Bor}
use Rattle.logbook.specs.Pages.{Book}
use Rattle.papaya_words.specs.declared.refused.Refused.{Refused as Cause}
use Rattle.papaya_words.specs.declared.refused.Refused.TheVariants.{Capacity}
use Rattle.papaya_call.specs.declared.ask.At.{At}
use Rattle.papaya_call.specs.declared.ask.At.TheVariants.{Slot}
use Rattle.papaya_call.specs.declared.ask.Ask.{Ask}
use Rattle.papaya_call.specs.declared.ask.Ask.TheVariants.{Load, Exchange as Ask_exchange, LoadHint, SizeOf, SameKey, ShowPair, AddToShard, Done}
use Rattle.papaya_call.specs.declared.ask.StepKind.{StepKind}
use Rattle.papaya_call.specs.declared.ask.StepKind.TheVariants as kinds
use Rattle.papaya_call.specs.declared.ask.Answer.{Answer}
use Rattle.papaya_call.specs.declared.ask.Answer.TheVariants.{Word as Word_read, Exchanged}
use Rattle.papaya_call.specs.declared.ask.Answer.TheVariants.{Found as Found_instead, Size, Yes}
use Rattle.papaya_call.specs.declared.ask.Answer.TheVariants.{Ok as Ok_done, Refused as Was_refused}
use Rattle.papaya_call.specs.declared.call.Reply.{Reply}
use Rattle.papaya_call.specs.declared.call.Reply.TheVariants.{Refused}
use Rattle.papaya_call.specs.declared.call.Task.{Task}
use Rattle.papaya_call.specs.declared.call.Task.TheVariants.{RemoveIf}
use Rattle.papaya_call.specs.declared.chain.ask.Answer.TheVariants as answers
use Rattle.papaya_call.specs.declared.chain.ask.Ask.TheVariants.{Call}
use Rattle.papaya_call.specs.declared.chain.machine.Machine.{Machine}
use Rattle.papaya_call.specs.declared.chain.machine.Phase.TheVariants.{Calling}
use Rattle.papaya_call.specs.ChainMachine.{IsValid, after, ask_of, kind_of_ask}
use Rattle.papaya_call_law.proofs.Names.{call_asks}
use Rattle.papaya_call_law.proofs.Replies.{chain_task}
use Rattle.papaya_call_law.specs.Followed.{MayAsk}
use Rattle.papaya_call.specs.Machine.{IsComputer, IsFit}
use Rattle.papaya_call.specs.Machine as calls
use Rattle.papaya_call_law.specs.TrueAnswers.{LoadedPairs}
use Rattle.papaya_call_law.specs.Relies.{WasAtMoment}
use Rattle.papaya_call_law.specs.TrueAnswers.{or_last}
use Rattle.papaya_call_law.specs.Says.{Agrees, NamesPairs, ActsOn}
use Rattle.papaya_call.specs.Search.{IsSize}
use Rattle.papaya_call_law.proofs.ReliesHeld as held
use Rattle.papaya_call_law.proofs.ReliesHeld.{IsShowing}
use Rattle.papaya_call_law.proofs.Followed.{asked_of_task}
use Rattle.papaya_call_law.proofs.SaysOver.{unsaid}
use Rattle.papaya_map_book.specs.Sheets.{Sheet}
use Rattle.papaya_map_book.specs.declared.rule.entry.Begun.{Begun}
use Rattle.papaya_map_book.specs.declared.rule.entry.Event.{Event}
use Rattle.papaya_map_change.specs.declared.driver.Driver.{Driver}
use Rattle.papaya_map_change.specs.declared.removal.Removal.{Removal}
use Rattle.papaya_map_book.specs.Calls.{IsSlotTried, IsTable}
use Rattle.papaya_map_change.specs.Changing.{IsDriven}
use Rattle.papaya_map_change.specs.Driver.{IsHeldAt, IsLoaded}
use Rattle.papaya_map_book.specs.Hashes.{hash_of}
use Rattle.papaya_map_book.specs.Hinted.{IsSlotHint}
use Rattle.papaya_map_lookup.specs.History.{history_of, key_of}
use Rattle.papaya_map_book.specs.declared.rule.entry.Named.TheVariants as names
use Rattle.papaya_map_book.specs.Plays.{CanExchange}
use Rattle.papaya_map_book.specs.Logs.{Stored, exchanges_of, pair_named}
use Rattle.papaya_map_change.specs.Removing.{IsRemoving, IsRemovingOn}
use Rattle.papaya_map_book.specs.Rule.{IsPlaced}
use Rattle.papaya_map_change.specs.ClosureCalls.{WasHeld}
use Rattle.papaya_map_change.proofs.Changing.{Coded, Wide, barren, call_loaded, call_relies, counted}
use Rattle.papaya_map_change.proofs.Changing.{compared, hint_table, hinted, load_table, loaded_lawful}
use Rattle.papaya_map_change.proofs.Changing.{loads, quiet, size_table, sized, slot_table}
use Rattle.papaya_map_change.proofs.OwnSays.{own_said, own_shows, own_stood}
use Rattle.papaya_map_change.proofs.StepsOfOwn.{own_kind, own_order}
use Rattle.papaya_call.specs.Machine.{MayInsert}
use Rattle.papaya_map_change.proofs.Refusals.{limit_inserts, refused_for, shows_none}
use Rattle.papaya_call_law.proofs.Silent.{IsSilent, not_done}
use Rattle.papaya_map_lookup.proofs.Driving.{can_bury}
use Rattle.papaya_map_change.proofs.Exchanging.{exchanged, lost}
use Rattle.papaya_map_lookup.proofs.Histories.{history_since}
use Rattle.papaya_map_lookup.proofs.Readings.{IsQuery, fed, hashed_with}
use Rattle.papaya_map_change.proofs.ClosureCalls.{all_shown, held_then, held_wider}

module _ {K V S H F : Type 0} (eq : K → K → Bool) (input : K → List (List ℕ)) (build : S → H) (write : H → List ℕ → H) (finish : H → ℕ)
    (classes : IsEquivalence eq) (respects : (x y : K) → eq x y ≡ true → input x ≡ input y)
    (b : Begun K V S) (name : Book) (matches : K → Bool) (query : List (List ℕ)) (lawful : IsQuery eq input matches query)
    (judges : F → Stored K V → Bool → F → Type 0) (first : F) (begun : List (Event K V S)) where
  abbrev hash : S → K → ℕ
  hash = hash_of input build write finish

  abbrev fed_to : ℕ
  fed_to = fed eq input build write finish classes respects b matches query lawful

  abbrev pub Removing : List (Event K V S) → Removal K V S H → F → Type 0
  Removing log x f = IsRemoving eq hash b name matches fed_to judges first begun log x f

  abbrev pub RemovingOn : List (Event K V S) → Removal K V S H → F → Option Answer → Type 0
  RemovingOn log x f answer = IsRemovingOn eq hash b name matches fed_to judges first begun log x f answer

  module _ (log : List (Event K V S)) (x : Removal K V S H) (f : F) (r : Removing log x f) where
    abbrev m : Machine
    m = x.call.machine

    -- the pair that the closure was called with was held, over a longer log
    abbrev HeldOn : List (Event K V S) → Stored K V → Type 0
    HeldOn log' p = WasHeld eq matches (history_of begun) (history_of log') (Some p)

    held_later : (log' : List (Event K V S)) → IsPrefix log log' → (p : Stored K V) → HeldOn log p → HeldOn log' p
    held_later log' pre p h = held_wider eq matches (history_of begun) (history_of begun) (history_of log) (history_of log')
        ([], append-nil (history_of begun)) (history_since log log' pre) (Some p) h

    -- the pairs that its call has loaded
    abbrev loaded : LoadedPairs (Stored K V)
    loaded = call_loaded eq input build write finish classes respects b matches query lawful None name begun x.call.copier.last []

    module _ (valid : IsValid m) where
      -- it fails with no answer of its own: it asks to make nothing
      not_refused : (ask : Ask) → ask_of m ≡ Call ask → ((reply : Reply) → ask ≡ Done reply → ⊥) → (answer : Answer)
          → ((cause : Cause) → answer ≡ Was_refused cause → ⊥) → (cause : Cause) → ask_of (after m (answers.Call answer)) ≡ Call (Done (Refused cause)) → ⊥
      not_refused ask asks open_still answer unrefused cause e =
          refused_for m (call_asks m ask asks).0 answer (λ _. ⊥) (λ none. subst IsComputer r.task_is (shows_none m valid none))
          (λ reply done. open_still reply (let f = sym asks ∙ done in cc f)) unrefused
          (λ over. subst MayInsert r.task_is (limit_inserts m valid answer over)) cause e

      -- it continues after an answer for which its closure is not called
      pub goes_on : (log' : List (Event K V S)) → IsPrefix log log' → (y : Driver K V S H) (answer : Answer) → y.machine ≡ m → IsFit answer
          → ((cause : Cause) → answer ≡ Was_refused cause → ⊥) → (ask : Ask) → ask_of m ≡ Call ask → IsSilent ask
          → IsDriven eq hash b name matches fed_to None begun log' [] (record y { machine = after m (answers.Call answer) })
          → RemovingOn log' (record x { call = y }) f (Some answer)
      goes_on log' pre y answer machine fit unrefused ask asks silent calling =
          let own = call_asks m ask asks in
          let silent_call = subst IsSilent (sym own.1) silent in
          let never : (cause : Cause) → ask_of (after m (answers.Call answer)) ≡ Call (Done (Refused cause))
          → ⊥ = not_refused ask asks (λ reply e. not_done m.call answer silent_call reply (own.1 ∙ e)) answer unrefused in
          let same : after m (answers.Call answer) ≡ after y.machine (answers.Call answer) = ap (λ (z : Machine). after z (answers.Call answer))
          (sym machine) in (
            record {
              calling = subst (λ (z : Machine). IsDriven eq hash b name matches fed_to None begun log' [] (record y { machine = z })) same calling;
              task_is = ap (λ (z : Machine). z.call.task) (sym same) ∙ ((chain_task m (answers.Call answer) (own_order m own.0 answer)).0 ∙ r.task_is);
              words = subst (λ (z : Machine). NamesPairs z.call) same (own_shows m own.0 answer r.words);
              shown_placed = r.shown_placed;
              said = r.said;
              has_said = r.has_said;
              held = all_shown (HeldOn log) (HeldOn log') (held_later log' pre) r.said r.held;
              stood = λ n agrees stands. r.stood n agrees
                  (own_stood m own.0 answer silent_call valid r.words (Agrees n agrees)
                  (subst (λ (z : Machine). ActsOn z.call (Agrees n agrees)) (sym same) stands));
              refuses = λ cause e. absurd (never cause (ap ask_of same ∙ e));
              crowded = λ e. absurd (never Capacity (ap ask_of same ∙ e));
            },
            fit,
          )

      -- the word at a place may be loaded
      pub load_held : (at : At) → ask_of m ≡ Call (Load at) → IsHeldAt at log x.call.table
      load_held at asks =
          load_table eq input build write finish classes respects b matches query lawful None name begun log m x.call.table x.call.copier.last x.call.copier.kept []
          x.call.taken x.call.put x.call.copier.fresh r.calling at asks
          (subst (λ (a : Ask). MayAsk m.call.task (calls.kind_of_ask m.call) a) (call_asks m (Load at) asks).1 (asked_of_task m.call valid.call))

      -- and was loaded
      pub loaded_as : (log' : List (Event K V S)) → IsPrefix log log' → (at : At) (word : ℕ) (y : Driver K V S H)
          → y ≡ record x.call { table = y.table; copier = record x.call.copier { last = y.copier.last } } → ask_of m ≡ Call (Load at)
          → IsLoaded eq hash b name at word log' x.call.table y.table x.call.copier.last y.copier.last → RemovingOn log' (record x { call = y }) f (Some (Word_read word))
      loaded_as log' pre at word y rest asks is =
          let calling = loads eq input build write finish classes respects b matches query lawful None name begun log log' pre
          (loaded_lawful eq hash b name log' at word x.call.table y.table x.call.copier.last y.copier.last is) m x.call.table x.call.copier.last x.call.copier.kept []
          x.call.taken x.call.put x.call.copier.fresh r.calling at word y.table y.copier.last asks is in
          subst (λ (z : Driver K V S H). RemovingOn log' (record x { call = z }) f (Some (Word_read word))) (sym rest)
          (goes_on log' pre (record x.call { table = y.table; copier = record x.call.copier { last = y.copier.last } }) (Word_read word) refl tt (λ cause e. cc e) (Load at) asks tt calling)

      -- a table whose size is asked for is held
      pub size_held : (t : ℕ) → ask_of m ≡ Call (SizeOf t) → x.call.table ≡ None → ⊥
      size_held t asks none = subst (λ (o : Option (Bor Sheet)). MatchOption o ⊥ (λ z. IsTable log t z.now)) none
          (size_table eq input build write finish classes respects b matches query lawful None name begun log m x.call.table x.call.copier.last x.call.copier.kept []
          x.call.taken x.call.put x.call.copier.fresh r.calling t asks)

      -- its size was received
      pub sized_on : (t : ℕ) (lent : Bor Sheet) → x.call.table ≡ Some lent → (slots limit : ℕ) → slots ≡ length lent.now.slots
          → limit ≡ lent.now.limit → IsSize slots limit → ask_of m ≡ Call (SizeOf t) → RemovingOn log x f (Some (Size slots limit))
      sized_on t lent has slots limit slots_is limit_is size asks =
          goes_on log ([], append-nil log) x.call (Size slots limit) refl size (λ cause e. cc e) (SizeOf t) asks tt
          (sized eq input build write finish classes respects b matches query lawful None name begun log m x.call.table x.call.copier.last x.call.copier.kept []
          x.call.taken x.call.put x.call.copier.fresh r.calling t lent has slots limit slots_is limit_is asks)

      -- a slot whose hint is loaded is one of the table that is held
      pub hint_held : (t i : ℕ) → ask_of m ≡ Call (LoadHint t i) → IsHeldAt (Slot t i) log x.call.table
      hint_held t i asks = hint_table eq input build write finish classes respects b matches query lawful None name begun log m x.call.table
          x.call.copier.last x.call.copier.kept [] x.call.taken x.call.put x.call.copier.fresh r.calling t i (inl asks)

      -- its hint was loaded
      pub hinted_on : (log' : List (Event K V S)) → IsPrefix log log' → (t i n : ℕ) → ask_of m ≡ Call (LoadHint t i) → IsSlotHint eq hash b t i n log'
          → RemovingOn log' x f (Some (Word_read n))
      hinted_on log' pre t i n asks is =
          goes_on log' pre x.call (Word_read n) refl tt (λ cause e. cc e) (LoadHint t i) asks tt
          (hinted eq input build write finish classes respects b matches query lawful None name begun log log' pre is.lawful m x.call.table
          x.call.copier.last x.call.copier.kept [] x.call.taken x.call.put x.call.copier.fresh r.calling t i n asks is)

      -- the pair that was loaded last
      abbrev Told : Type 0
      Told = (p : Stored K V) × (x.call.copier.last ≡ Some p) × IsPlaced b (Some name) (names.Pair p)

      told_of : (p : Stored K V) → x.call.copier.last ≡ Some p → Told
      told_of p last = (p, last, subst (λ (o : Option (Stored K V)). IsPlaced b (Some name) (pair_named o)) last r.calling.last_placed)

      -- a pair whose key is compared was loaded
      pub compared_last : (n : ℕ) → ask_of m ≡ Call (SameKey n) → Told
      compared_last n asks =
          let s = Wide eq input build write finish classes respects b matches query lawful None name begun log in
          let c = Coded eq input build write finish classes respects b matches query lawful None name begun in
          let told = held.machine_told s c (exchanges_of begun) r.calling.since None loaded m.call r.calling.relies.call n (call_asks m (SameKey n) asks).1 in
          told_of told.0 told.1

      -- so was a pair that the closure is called with
      pub shown_last : (n : ℕ) → ask_of m ≡ Call (ShowPair n) → Told
      shown_last n asks =
          let s = Wide eq input build write finish classes respects b matches query lawful None name begun log in
          let c = Coded eq input build write finish classes respects b matches query lawful None name begun in
          let hashed = hashed_with eq input build write finish classes respects b matches query lawful log r.calling.lawful in
          let shows = held.machine_shows s c hashed (exchanges_of begun) r.calling.since None loaded m.call r.calling.relies.call n
          (call_asks m (ShowPair n) asks).1 in
          told_of shows.0 shows.1

      -- the pair last loaded was compared
      pub compared_on : (n : ℕ) (same : Bool) → ((p : Stored K V) → x.call.copier.last ≡ Some p → same ≡ matches (key_of p)) → ask_of m ≡ Call (SameKey n)
          → RemovingOn log x f (Some (Yes same))
      compared_on n same is asks =
          goes_on log ([], append-nil log) x.call (Yes same) refl tt (λ cause e. cc e) (SameKey n) asks tt
          (compared eq input build write finish classes respects b matches query lawful None name begun log m x.call.table x.call.copier.last x.call.copier.kept []
          x.call.taken x.call.put x.call.copier.fresh r.calling n same is asks)

      -- the change was counted
      pub counted_on : (by : _) → ask_of m ≡ Call (AddToShard by) → RemovingOn log x f (Some Ok_done)
      counted_on by asks =
          goes_on log ([], append-nil log) x.call Ok_done refl tt (λ cause e. cc e) (AddToShard by) asks tt
          (counted eq input build write finish classes respects b matches query lawful None name begun log m x.call.table x.call.copier.last x.call.copier.kept []
          x.call.taken x.call.put x.call.copier.fresh r.calling by asks)

      -- the closure was called with the pair last loaded
      pub shown_on : (n : ℕ) (p : Stored K V) (agreed : Bool) (g : F) → x.call.copier.last ≡ Some p → judges f p agreed g → ask_of m ≡ Call (ShowPair n)
          → RemovingOn log (record x { shown = Some p }) g (Some (Yes agreed))
      shown_on n p agreed g last judged showing =
          let own = call_asks m (ShowPair n) showing in
          let s = Wide eq input build write finish classes respects b matches query lawful None name begun log in
          let c = Coded eq input build write finish classes respects b matches query lawful None name begun in
          let hashed = hashed_with eq input build write finish classes respects b matches query lawful log r.calling.lawful in
          let shows : (i : ℕ) → calls.ask_of m.call ≡ ShowPair i
          → IsShowing s c hashed (exchanges_of begun) r.calling.since None loaded i = λ i e.
          held.machine_shows s c hashed (exchanges_of begun) r.calling.since None loaded m.call r.calling.relies.call i e in
          let is : (i : ℕ) → calls.ask_of m.call ≡ ShowPair i → p.index ≡ i = λ i e. let one : (shows i e).0 ≡ p = cc ((shows i e).1, last) in
          ap (λ (z : Stored K V). z.index) (sym one) ∙ (shows i e).2 in
          let one : (shows n own.1).0 ≡ p = cc ((shows n own.1).1, last) in
          let was = subst (λ (z : Stored K V). WasAtMoment s c (exchanges_of begun) r.calling.since None (Some z)) one (shows n own.1).4 in
          let never = not_refused (ShowPair n) showing (λ reply h. cc h) (Yes agreed) (λ cause e. cc e) in (
            record {
              calling = quiet eq input build write finish classes respects b matches query lawful None name begun log log ([], append-nil log)
                  r.calling.lawful m x.call.table x.call.copier.last x.call.copier.kept [] x.call.taken x.call.put x.call.copier.fresh r.calling
                  (ShowPair n) showing (Yes agreed) x.call.copier.last [] x.call.table x.call.copier.fresh
                  (record {
                    told = (inl (agreed, refl), (refl, refl));
                    same = refl;
                    busy = λ z. z;
                    brings = barren eq input build write finish classes respects b matches query lawful None name begun log log ([], append-nil log)
                        r.calling.lawful m x.call.table x.call.copier.last x.call.copier.kept [] x.call.taken x.call.put x.call.copier.fresh r.calling (ShowPair n) showing
                        tt (Yes agreed) x.call.copier.fresh;
                  }) r.calling.holds_table r.calling.last_placed r.calling.made_placed;
              task_is = (chain_task m (answers.Call (Yes agreed)) (own_order m own.0 (Yes agreed))).0 ∙ r.task_is;
              words = own_shows m own.0 (Yes agreed) r.words;
              shown_placed = subst (λ (o : Option (Stored K V)). IsPlaced b (Some name) (pair_named o)) last r.calling.last_placed;
              said = (p, agreed) ∷ r.said;
              has_said = (f, r.has_said, judged);
              held = (
                held_then eq input build write finish classes respects b matches query lawful begun log r.calling.lawful r.calling.since
                    r.calling.is (Some p) was,
                r.held,
              );
              stood = λ i agrees stands. ⊎_elim
                  (λ h. absurd (unsaid m.call n i agrees own.1 h))
                  (λ h. let e = h.1 in let same : agreed ≡ agrees = cc e in (p, refl, is i h.0, inl (ap (λ (z : Bool). (p, z)) (sym same))))
                  (own_said m own.0 agreed valid r.words (Agrees i agrees) stands);
              refuses = λ cause e. absurd (never cause e);
              crowded = λ e. absurd (never Capacity e);
            },
            tt,
          )

      module _ (t i old new : ℕ) (tries : ask_of m ≡ Call (Ask_exchange (Slot t i) old new)) where
        -- the slot is one of the table that is held
        pub bury_held : IsHeldAt (Slot t i) log x.call.table
        bury_held = slot_table eq input build write finish classes respects b matches query lawful None name begun log m x.call.table x.call.copier.last
            x.call.copier.kept [] x.call.taken x.call.put x.call.copier.fresh r.calling t i (inr (old, new, tries))

        -- a removal's exchange of a slot deletes
        its_own : (m.phase ≡ Calling) × (calls.ask_of m.call ≡ Ask_exchange (Slot t i) old new)
        its_own = call_asks m (Ask_exchange (Slot t i) old new) tries

        bury_kind : calls.kind_of_ask m.call ≡ Some kinds.Bury
        bury_kind =
            ⊎_elim (λ h. absurd (h.0)) (λ h. h.1) (subst (λ (a : Ask). MayAsk RemoveIf (calls.kind_of_ask m.call) a) its_own.1
            (subst (λ (z : Task). MayAsk z (calls.kind_of_ask m.call) (calls.ask_of m.call)) r.task_is (asked_of_task m.call valid.call)))

        pub bury_can : CanExchange eq hash b (Slot t i) (kind_of_ask m) old new None names.Nothing log
        bury_can =
            subst (λ (z : Option StepKind). CanExchange eq hash b (Slot t i) z old new None names.Nothing log) (sym (own_kind m its_own.0))
            (can_bury eq input build write finish classes respects b matches query lawful None (exchanges_of begun) log r.calling.lawful m.call
            loaded (call_relies eq input build write finish classes respects b matches query lawful None name begun log m x.call.table x.call.copier.last
            x.call.copier.kept [] x.call.taken x.call.put x.call.copier.fresh r.calling) t i old new its_own.1 bury_kind)

        module _ (log' : List (Event K V S)) (pre : IsPrefix log log') (found : ℕ) (pair : Option (Stored K V))
            (s : IsSlotTried eq hash b name t i (kind_of_ask m) old new None names.Nothing log found log' pair) where
          -- it was deleted
          buried : (found == old) ≡ true → RemovingOn log' (record x { call = record x.call { taken = pair; put = None } }) f (Some Exchanged)
          buried is = goes_on log' pre (record x.call { taken = pair; put = None }) Exchanged refl tt (λ cause e. cc e)
              (Ask_exchange (Slot t i) old new) tries tt
              (exchanged eq input build write finish classes respects b matches query lawful None name begun log log' m x.call.table x.call.copier.last
              x.call.copier.kept [] x.call.taken x.call.put x.call.copier.fresh r.calling t i old new found None pair tries s (λ q none. absurd (cc none))
              (λ claim q none. absurd (cc none)) is)

          -- it was not
          not_buried : (found == old) ≡ false → RemovingOn log' (record x { call = record x.call { copier = record x.call.copier { last = or_last pair x.call.copier.last } } }) f
              (Some (Found_instead found))
          not_buried is = goes_on log' pre (record x.call { copier = record x.call.copier { last = or_last pair x.call.copier.last } }) (Found_instead found) refl tt (λ cause e. cc e)
              (Ask_exchange (Slot t i) old new) tries tt
              (lost eq input build write finish classes respects b matches query lawful None name begun log log' m x.call.table x.call.copier.last
              x.call.copier.kept [] x.call.taken x.call.put x.call.copier.fresh r.calling t i old new found None pair tries s is)

          -- the state of the call afterwards
          abbrev AfterBury : Bool → Driver K V S H → Answer → Type 0
          AfterBury z y answer = MatchBool z ((answer ≡ Exchanged) × (y ≡ record x.call { taken = pair; put = None }))
              ((answer ≡ Found_instead found) × (y ≡ record x.call { copier = record x.call.copier { last = or_last pair x.call.copier.last } }))

          pub bury_on : (y : Driver K V S H) (answer : Answer) → AfterBury (found == old) y answer → RemovingOn log' (record x { call = y }) f (Some answer)
          bury_on y answer h =
              ⊎_elim
              (λ is. let g = subst (λ (z : Bool). AfterBury z y answer) is h in
              subst (λ (z : Driver K V S H × Answer). RemovingOn log' (record x { call = z.0 }) f (Some z.1)) (λ j. (sym g.1 j, sym g.0 j)) (buried is))
              (λ is. let g = subst (λ (z : Bool). AfterBury z y answer) is h in
              subst (λ (z : Driver K V S H × Answer). RemovingOn log' (record x { call = z.0 }) f (Some z.1)) (λ j. (sym g.1 j, sym g.0 j))
              (not_buried is))
              (cases_Bool (found == old))
