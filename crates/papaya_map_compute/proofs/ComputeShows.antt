-- A compute after its closure was called with a pair or with `None`.
use Rattle.std.proofs.Common.{◌≡◌, ◌⊎◌, inl, inr, ⊎_elim, ℕ, Bool, true, Option, None, Some, List, [], ◌∷◌, append-nil, refl, sym, ap, ◌∙◌, subst}
use Rattle.std.specs.Cmp.{IsEquivalence}
use Rattle.logbook.specs.Pages.{Book}
use Rattle.papaya_words.specs.declared.refused.Refused.{Refused as Cause}
use Rattle.papaya_words.specs.declared.refused.Refused.TheVariants.{Capacity, Limit}
use Rattle.papaya_call.specs.declared.answers.Operation.{Operation}
use Rattle.papaya_call.specs.declared.answers.Operation.TheVariants as operation
use Rattle.papaya_call.specs.declared.ask.Ask.TheVariants.{Load, ShowNone, ShowPair, Done}
use Rattle.papaya_call.specs.declared.ask.At.TheVariants.{Next}
use Rattle.papaya_call.specs.declared.ask.Answer.{Answer}
use Rattle.papaya_call.specs.declared.ask.Answer.TheVariants.{Op}
use Rattle.papaya_call.specs.declared.ask.OpKind.{OpKind}
use Rattle.papaya_call.specs.declared.ask.OpKind.TheVariants as kinds
use Rattle.papaya_call.specs.declared.call.Reply.{Reply}
use Rattle.papaya_call.specs.declared.call.Reply.TheVariants.{Refused}
use Rattle.papaya_call.specs.declared.machine.Machine.{Machine as Call_machine}
use Rattle.papaya_call.specs.Machine as calls
use Rattle.papaya_call.specs.declared.chain.ask.Answer.TheVariants as answers
use Rattle.papaya_call.specs.declared.chain.ask.Ask.TheVariants.{Call}
use Rattle.papaya_call.specs.declared.chain.machine.Machine.{Machine}
use Rattle.papaya_call.specs.declared.chain.machine.Phase.TheVariants.{Calling}
use Rattle.papaya_call.specs.ChainMachine.{IsValid, after, ask_of}
use Rattle.papaya_call_law.specs.Goes.{IsInOrder}
use Rattle.papaya_call_law.proofs.Names.{call_asks}
use Rattle.papaya_call_law.proofs.Once.{chain_offered, chain_once}
use Rattle.papaya_call_law.proofs.Replies.{chain_shows, chain_task}
use Rattle.papaya_call.specs.declared.machine.State.{State as Stage}
use Rattle.papaya_call.specs.declared.machine.State.TheVariants.{Offering, Pairing, Ended}
use Rattle.papaya_call.specs.declared.compute.Choice.TheVariants.{Replace as To_replace}
use Rattle.papaya_call.specs.declared.made.Made.{Made}
use Rattle.papaya_call.specs.declared.made.Of.{Of}
use Rattle.papaya_call_law.specs.Says.{Agrees, HasCalledNone, Inserts, IsAnswered, IsFilled}
use Rattle.papaya_call_law.specs.Says.{IsResultBy, KeepsFill, Makes, Removes, ClosureResult, ActsOn}
use Rattle.papaya_call_law.specs.Says.{result_to_fill, show}
use Rattle.papaya_words_law.specs.Code.{Coding}
use Rattle.papaya_words_law.specs.Exchange.{Setting}
use Rattle.papaya_call_law.specs.Relies.{IsAtLimit, WasAtMoment}
use Rattle.papaya_call_law.specs.TrueAnswers.{LoadedPairs}
use Rattle.papaya_call_law.proofs.Makings.{IsPairAsk, pairing_asks}
use Rattle.papaya_call_law.proofs.ReliesHeld as held
use Rattle.papaya_call_law.proofs.ReliesHeld.{machine_offers, machine_unpaired}
use Rattle.papaya_call_law.proofs.SaysOver.{machine_chosen}
use Rattle.papaya_call_law.proofs.SaysSaid.{machine_said}
use Rattle.papaya_map_compute.specs.declared.slow_path.Computing.{Computing}
use Rattle.papaya_map_book.specs.declared.rule.entry.Begun.{Begun}
use Rattle.papaya_map_book.specs.declared.rule.entry.Event.{Event}
use Rattle.papaya_map_change.specs.declared.writer.Writer.{Writer}
use Rattle.papaya_map_change.specs.Changing.{IsCalling}
use Rattle.papaya_map_book.specs.declared.book.pairs.ValuePart.{ValuePart}
use Rattle.papaya_map_compute.specs.Computing.{Holds, IsComputing, IsMadeOf, IsSpared, aborted_after, chosen_after, keeping, kind_of, number_of, value_after}
use Rattle.papaya_map_book.specs.Hashes.{hash_of}
use Rattle.papaya_map_lookup.specs.History.{history_of, key_of}
use Rattle.papaya_map_book.specs.Logs.{Member, Stored, exchanges_of, pair_named}
use Rattle.papaya_map_book.specs.Rule.{IsPlaced}
use Rattle.papaya_map_book.specs.declared.keyed.Keyed as keyed
use Rattle.papaya_map_book.specs.declared.window.Window.{Window}
use Rattle.papaya_map_change.specs.Doing.{Answers}
use Rattle.papaya_map_change.proofs.Doing.{idle}
use Rattle.papaya_map_change.specs.ClosureCalls.{HasNoNone, IsNoneOnce, WasHeld}
use Rattle.papaya_map_change.specs.Writing.{HasKeyAt, HasValue, IsWriting, held_value}
use Rattle.papaya_map_change.proofs.Changing.{Coded, Wide, barren, quiet}
use Rattle.papaya_map_change.proofs.StepsOfOwn.{own_order}
use Rattle.papaya_map_change.proofs.Refusals.{IsOwnEnd, own_refused}
use Rattle.papaya_map_compute.proofs.AnsweredValues.{answered_none, answered_pair}
use Rattle.papaya_map_compute.proofs.ChosenChains.{chain_puts}
use Rattle.papaya_map_compute.proofs.ChosenSlots.{machine_choice}
use Rattle.papaya_map_compute.proofs.ComputeOwn.{own_aborted, own_step}
use Rattle.papaya_map_compute.specs.Computing.{IsComputingOn, IsToCall}
use Rattle.papaya_map_lookup.proofs.Readings.{IsQuery, hashed_with}
use Rattle.papaya_map_change.proofs.ClosureCalls.{own_held_then}
use Rattle.papaya_map_change.proofs.Written.{own_query}

-- the kind that the machine receives determines the closure's result
module _ {V T : Type 0} where
  inserts : {K : Type 0} (done : Operation V T) → kind_of done ≡ kinds.Insert → (v : V) × (done ≡ operation.Insert v)
      × ((before : Option (ValuePart K V)) → held_value (value_after done before) ≡ Some v)
  inserts (operation.Insert v) e = (v, refl, λ before. refl)
  inserts operation.Remove e = absurd (cc e)
  inserts (operation.Abort t) e = absurd (cc e)

  removes : (done : Operation V T) → kind_of done ≡ kinds.Remove → done ≡ operation.Remove
  removes (operation.Insert v) e = absurd (cc e)
  removes operation.Remove e = refl
  removes (operation.Abort t) e = absurd (cc e)

  aborts_with : (done : Operation V T) (with : ℕ) → kind_of done ≡ kinds.Abort with → (t : T) × (done ≡ operation.Abort t)
      × ((before : Option T) → aborted_after done before ≡ Some t)
  aborts_with (operation.Insert v) with e = absurd (cc e)
  aborts_with operation.Remove with e = absurd (cc e)
  aborts_with (operation.Abort t) with e = (t, refl, λ before. refl)

op_is : {V T : Type 0} (done : Operation V T) (kind : OpKind) → Op (kind_of done) ≡ Op kind → kind_of done ≡ kind
op_is done kind e = cc e

module _ {K V T : Type 0} where
  -- there is no result for None if the closure was never called with it
  pub none_unsaid : (heard : List (Option (Stored K V) × Operation V T)) → HasNoNone heard → (o : Operation V T) → Member (None, o) heard → ⊥
  none_unsaid [] none o member = member
  none_unsaid ((None, done) ∷ before) none o member = none
  none_unsaid ((Some p, done) ∷ before) none o (inl e) = let f : None ≡ Some p = ap (λ z. z.0) e in cc f
  none_unsaid ((Some p, done) ∷ before) none o (inr member) = none_unsaid before none o member

  -- the result of a call that was made once is unique
  pub inserted_once : (heard : List (Option (Stored K V) × Operation V T)) → IsNoneOnce heard → (v w : V) → Member (None, operation.Insert v) heard
      → Member (None, operation.Insert w) heard → v ≡ w
  inserted_once [] once v w one other = absurd one
  inserted_once ((None, done) ∷ before) once v w (inl e) (inl f) = let g : operation.Insert v ≡ operation.Insert w = ap (λ z. z.1) (e ∙ sym f) in cc g
  inserted_once ((None, done) ∷ before) once v w (inr member) other = absurd (none_unsaid before once (operation.Insert v) member)
  inserted_once ((None, done) ∷ before) once v w one (inr member) = absurd (none_unsaid before once (operation.Insert w) member)
  inserted_once ((Some p, done) ∷ before) once v w (inl e) other = let f : None ≡ Some p = ap (λ z. z.0) e in absurd (cc f)
  inserted_once ((Some p, done) ∷ before) once v w one (inl e) = let f : None ≡ Some p = ap (λ z. z.0) e in absurd (cc f)
  inserted_once ((Some p, done) ∷ before) once v w (inr one) (inr other) = inserted_once before once v w one other

-- a call that calls its closure with a pair, and has called it with None, remembers the pair that
-- would fill
filled_in : (made : Made) (hash : ℕ) (fill : Option ℕ) (stage : Stage) (n : ℕ) → calls.asks made hash stage ≡ ShowPair n → HasCalledNone fill stage
    → IsFilled fill
filled_in made hash fill (Offering gap) n e h = absurd h
filled_in made hash fill (Pairing purpose) n e h = absurd (subst IsPairAsk e (pairing_asks made purpose))
filled_in made hash fill (Ended reply) n e h = absurd (cc e)
filled_in made hash fill stage n e h = h

filled_by : (fill : Option ℕ) → IsFilled fill → (n : ℕ) × (fill ≡ Some n)
filled_by None h = absurd h
filled_by (Some n) h = (n, refl)

machine_filled : (m : Call_machine) (n : ℕ) → calls.ask_of m ≡ ShowPair n → HasCalledNone m.remembered.fill m.state → (i : ℕ) × ActsOn m (Makes None i)
machine_filled m n e shown = let fill = filled_by m.remembered.fill (filled_in m.made m.hash m.remembered.fill m.state n e shown) in
    (fill.0, inr (inl (ap result_to_fill fill.1)))

-- the argument has the number that was asked for
module _ {K V : Type 0} (m : Call_machine) (held : Option (Stored K V)) (asks : calls.ask_of m ≡ show (number_of held)) where
  none_asked : calls.ask_of m ≡ ShowNone → held ≡ None
  none_asked e = by_held held (sym e ∙ asks)
    where
      by_held : (o : Option (Stored K V)) → ShowNone ≡ show (number_of o) → o ≡ None
      by_held None f = refl
      by_held (Some p) f = absurd (cc f)

  pair_asked : (n : ℕ) → calls.ask_of m ≡ ShowPair n → (p : Stored K V) × (held ≡ Some p) × (p.index ≡ n)
  pair_asked n e = by_held held (sym e ∙ asks)
    where
      by_held : (o : Option (Stored K V)) → ShowPair n ≡ show (number_of o) → (p : Stored K V) × (o ≡ Some p) × (p.index ≡ n)
      by_held None f = absurd (cc f)
      by_held (Some p) f = (p, refl, let same : n ≡ p.index = cc f in sym same)

module _ {K V S T H : Type 0} (key : K) (made : List (Stored K V)) (said : List (Option (Stored K V) × Operation V T)) (x : Computing K V S T H)
    (held : Option (Stored K V)) (done : Operation V T) where
  -- the compute after its closure was called with this and returned that
  abbrev pub shown_to : Computing K V S T H
  shown_to = keeping done (record x { shown = held; chosen = chosen_after held done x.chosen })

  abbrev now_said : List (Option (Stored K V) × Operation V T)
  now_said = (held, done) ∷ said

  abbrev Now : ClosureResult → Type 0
  Now stands = Holds key made now_said shown_to stands

  -- a pair that was made stays so
  made_still : (shown : Option (Stored K V)) (n : ℕ) (q : Stored K V) → IsMadeOf key made said shown n q → IsMadeOf key made now_said shown n q
  made_still shown n q h = record { number = h.number; made_is = h.made_is; key_is = h.key_is; said_is = inr h.said_is }

  -- the pair that fills stays at hand, and if the choice stays, so does the pair that was chosen
  fill_still : (n : ℕ) → Holds key made said x (Makes None n) → Now (Makes None n)
  fill_still n h = (h.0, h.1, made_still None n h.0 h.2)

  still : chosen_after held done x.chosen ≡ x.chosen → (stands : ClosureResult) → ((shown : Option ℕ) → stands ≡ Inserts shown → ⊥)
      → Holds key made said x stands → Now stands
  still same (Agrees n agrees) never h = h
  still same (Inserts shown) never h = absurd (never shown refl)
  still same (Makes None n) never h = fill_still n h
  still same (Makes (Some m) n) never h = (h.0, h.1, same ∙ h.2, h.3, h.4, made_still (Some h.0) n h.1 h.5)
  still same (Removes n) never h = (h.0, same ∙ h.1, h.2, inr h.3)

  -- the result of the closure that was just returned is at hand
  now : (m : Call_machine) → calls.ask_of m ≡ show (number_of held) → (stands : ClosureResult) → IsResultBy m (Op (kind_of done)) stands → Now stands
  now m asks (Agrees n agrees) h = let e = h.1 in absurd (cc e)
  now m asks (Inserts None) h =
      let none = none_asked m held asks h.0 in let i = inserts done (op_is done kinds.Insert h.1) in
      (none, (i.0, i.2 x.writer.value, inl (λ j. (sym none j, sym i.1 j))))
  now m asks (Inserts (Some n)) h =
      let p = pair_asked m held asks n h.0 in let i = inserts done (op_is done kinds.Insert h.1) in
      (p.0, p.1, p.2, (i.0, i.2 x.writer.value, inl (λ j. (sym p.1 j, sym i.1 j))))
  now m asks (Makes shown n) h = let e = h.2 in absurd (cc e)
  now m asks (Removes n) h =
      let p = pair_asked m held asks n h.0 in let is = removes done (op_is done kinds.Remove h.1) in
      (p.0, (λ j. chosen_after (p.1 j) (is j) x.chosen), p.2, inl (λ j. (sym p.1 j, sym is j)))

  -- an answer that leaves the choice
  chosen_same : kind_of done ≡ kinds.Remove ⊎ (chosen_after held done x.chosen ≡ x.chosen)
  chosen_same = by_done done held
    where
      by_done : (o : Operation V T) (shown : Option (Stored K V)) → kind_of o ≡ kinds.Remove ⊎ (chosen_after shown o x.chosen ≡ x.chosen)
      by_done o None = inr refl
      by_done (operation.Insert v) (Some p) = inr refl
      by_done operation.Remove (Some p) = inl refl
      by_done (operation.Abort t) (Some p) = inr refl

module _ {K V S H : Type 0} (eq : K → K → Bool) (input : K → List (List ℕ)) (build : S → H) (write : H → List ℕ → H) (finish : H → ℕ)
    (classes : IsEquivalence eq) (respects : (x y : K) → eq x y ≡ true → input x ≡ input y)
    (b : Begun K V S) (name : Book) (key : K) (begun : List (Event K V S)) where
  abbrev hash : S → K → ℕ
  hash = hash_of input build write finish

  own : IsQuery eq input (eq key) (input key)
  own = own_query eq input build write finish classes respects b name key

  abbrev Comp : {T : Type 0} → List (Event K V S) → Computing K V S T H → List (Option (Stored K V) × Operation V T) → Type 0
  Comp log x heard = IsComputing eq hash b name key begun log x heard

  abbrev On : {T : Type 0} → List (Event K V S) → Computing K V S T H → List (Option (Stored K V) × Operation V T) → Option Answer → Type 0
  On log x heard answer = IsComputingOn eq hash b name key begun log x heard answer

  module _ (made : List (Stored K V)) (log : List (Event K V S)) (w : Writer K V S H) (r : IsWriting eq hash b name key made begun log w) (kind : OpKind) where
    abbrev w' : Machine
    w' = after w.call.machine (answers.Call (Op kind))

    abbrev Called' : Type 0
    Called' = IsCalling eq hash b name (eq key) (hash b.hasher key) (Some key) begun log w' w.call.table w.call.copier.last w.call.copier.kept made w.call.taken
        w.call.put w.call.copier.fresh

    called : (shown : Option ℕ) → ask_of w.call.machine ≡ Call (show shown) → Called'
    called None e = quiet eq input build write finish classes respects b (eq key) (input key) own (Some key) name begun log log ([], append-nil log)
        r.calling.lawful w.call.machine w.call.table w.call.copier.last w.call.copier.kept made w.call.taken w.call.put w.call.copier.fresh r.calling
        ShowNone e (Op kind) w.call.copier.last made w.call.table w.call.copier.fresh
        (record {
          told = (inr (inl (kind, refl)), (refl, refl));
          same = refl;
          busy = λ z.
              z;
          brings = barren eq input build write finish classes respects b (eq key) (input key) own (Some key) name begun log log
              ([], append-nil log) r.calling.lawful w.call.machine w.call.table w.call.copier.last w.call.copier.kept made w.call.taken w.call.put w.call.copier.fresh
              r.calling ShowNone e tt (Op kind) w.call.copier.fresh;
        })
        r.calling.holds_table r.calling.last_placed r.calling.made_placed
    called (Some i) e = quiet eq input build write finish classes respects b (eq key) (input key) own (Some key) name begun log log
        ([], append-nil log) r.calling.lawful w.call.machine w.call.table w.call.copier.last w.call.copier.kept made w.call.taken w.call.put w.call.copier.fresh r.calling
        (ShowPair i) e (Op kind) w.call.copier.last made w.call.table w.call.copier.fresh
        (record {
          told = (inr (inl (kind, refl)), (refl, refl));
          same = refl;
          busy = λ z.
              z;
          brings = barren eq input build write finish classes respects b (eq key) (input key) own (Some key) name begun log log
              ([], append-nil log) r.calling.lawful w.call.machine w.call.table w.call.copier.last w.call.copier.kept made w.call.taken w.call.put w.call.copier.fresh
              r.calling (ShowPair i) e tt (Op kind) w.call.copier.fresh;
        })
        r.calling.holds_table r.calling.last_placed r.calling.made_placed

    -- a writer whose closure was called relies again on facts that hold, whatever value it keeps
    asked : (shown : Option ℕ) (value : Option (ValuePart K V)) → HasValue b name value → ask_of w.call.machine ≡ Call (show shown)
        → IsWriting eq hash b name key made begun log (record w { call = record w.call { machine = w' }; value = value })
    asked shown value valued asks = record { calling = called shown asks; keyed = r.keyed; valued = valued; put_placed = r.put_placed }

  module _ {T : Type 0} (log : List (Event K V S)) (x : Computing K V S T H) (heard : List (Option (Stored K V) × Operation V T))
      (r : Comp log x heard) (valid : IsValid x.writer.call.machine) (held : Option (Stored K V)) (done : Operation V T)
      (asks : ask_of x.writer.call.machine ≡ Call (show (number_of held))) where
    abbrev chain : Machine
    chain = x.writer.call.machine

    -- the machine after it
    abbrev chain' : Machine
    chain' = after chain (answers.Call (Op (kind_of done)))

    abbrev m : Call_machine
    m = x.writer.call.machine.call

    abbrev m' : Call_machine
    m' = calls.after m (Op (kind_of done))

    abbrev own_asks : (chain.phase ≡ Calling) × (calls.ask_of m ≡ show (number_of held))
    own_asks = call_asks chain (show (number_of held)) asks

    not_load : (shown : Option ℕ) → calls.ask_of m ≡ show shown → (t : ℕ) → calls.ask_of m ≡ Load (Next t) → ⊥
    not_load None e t h = let g = sym e ∙ h in cc g
    not_load (Some n) e t h = let g = sym e ∙ h in cc g

    -- its call takes a step of its own
    steps : chain'.call ≡ m'
    steps = own_step chain own_asks.0 (Op (kind_of done)) (not_load (number_of held) own_asks.1)

    order : IsInOrder chain (answers.Call (Op (kind_of done))) chain.phase
    order = own_order chain own_asks.0 (Op (kind_of done))

    abbrev HoldsNow : ClosureResult → Type 0
    HoldsNow stands = Holds key r.made ((held, done) ∷ heard) (shown_to key r.made heard x held done) stands

    unpaired : (stands : ClosureResult) → ActsOn m stands → (shown : Option ℕ) → stands ≡ Inserts shown → ⊥
    unpaired stands before shown e = machine_unpaired m shown (number_of held) own_asks.1 (subst (λ (s : ClosureResult). ActsOn m s) e before)

    -- if the choice stays
    stood_same : chosen_after held done x.chosen ≡ x.chosen → (stands : ClosureResult) → ActsOn m' stands → HoldsNow stands
    stood_same same stands h =
        ⊎_elim (λ before. still key r.made heard x held done same stands (unpaired stands before) (r.stood stands before))
        (now key r.made heard x held done m own_asks.1 stands)
        (machine_said m (Op (kind_of done)) stands valid.call r.words h)

    -- if the pair that the closure was called with is to be removed
    stood_removed : (p : Stored K V) → held ≡ Some p → kind_of done ≡ kinds.Remove → (stands : ClosureResult) → ActsOn m' stands → HoldsNow stands
    stood_removed p e removes_it stands h =
        let shows : calls.ask_of m ≡ ShowPair p.index = own_asks.1 ∙ ap (λ (o : Option (Stored K V)). show (number_of o)) e in
        let removed : ActsOn (calls.after m (Op kinds.Remove)) stands = subst (λ (k : OpKind). ActsOn (calls.after m (Op k)) stands) removes_it h in
        let is : done ≡ operation.Remove = removes done removes_it in
        ⊎_elim
        (λ s. subst HoldsNow (sym s) (p, (λ j. chosen_after (e j) (is j) x.chosen), refl, inl (λ j. (sym e j, sym is j))))
        (λ k. subst HoldsNow (sym k.1) (fill_still key r.made heard x held done k.0 (r.stood (Makes None k.0) (subst (λ (s : ClosureResult). ActsOn m s) k.1 k.2))))
        (machine_chosen m p.index stands r.task_is shows removed)

    -- the pairs that its machine now relies on are at hand
    stood_by : (o : Option (Stored K V)) → held ≡ o → kind_of done ≡ kinds.Remove → (stands : ClosureResult) → ActsOn m' stands → HoldsNow stands
    stood_by None e removes_it = stood_same (λ j. chosen_after (e j) done x.chosen)
    stood_by (Some p) e removes_it = stood_removed p e removes_it

    stood_now : (stands : ClosureResult) → ActsOn chain'.call stands → HoldsNow stands
    stood_now stands h = ⊎_elim (stood_by held refl) stood_same (chosen_same key r.made heard x held done) stands
        (subst (λ (z : Call_machine). ActsOn z stands) steps h)

    -- whether the closure was called with None, and how often
    none_by : (o : Option (Stored K V)) → held ≡ o → (HasNoNone ((o, done) ∷ heard) ⊎ HasCalledNone chain'.call.remembered.fill chain'.call.state)
        × IsNoneOnce ((o, done) ∷ heard)
    none_by None e =
        let shows : ask_of chain ≡ Call ShowNone = asks ∙ ap (λ (o : Option (Stored K V)). Call (show (number_of o))) e in (
          inr (chain_offered chain (kind_of done) shows),
          ⊎_elim (λ never. never) (λ shown. absurd ((chain_once chain (answers.Call (Op (kind_of done))) order shown).0 shows)) r.none_shown,
        )
    none_by (Some p) e = (
      ⊎_elim (λ never. inl never) (λ shown. inr (chain_once chain (answers.Call (Op (kind_of done))) order shown).1) r.none_shown,
      r.none_once,
    )

    not_done : (shown : Option ℕ) → ask_of chain ≡ Call (show shown) → (reply : Reply) → ask_of chain ≡ Call (Done reply) → ⊥
    not_done None e reply h = let g = sym e ∙ h in cc g
    not_done (Some n) e reply h = let g = sym e ∙ h in cc g

    -- it fails if the closure's result would remove nothing
    refused_by : (cause : Cause) → ask_of chain' ≡ Call (Done (Refused cause)) → IsOwnEnd chain own_asks.0 (Op (kind_of done)) cause
    refused_by cause e = own_refused chain own_asks.0 (Op (kind_of done)) (not_done (number_of held) asks) cause e

    -- it receives no count of numbers
    unlimited : IsAtLimit m (Op (kind_of done)) → ⊥
    unlimited over = ⊎_elim (λ e. cc e) (λ e. cc e) over.5

    -- a value that the closure returns is stored in no pair yet
    valued_in : (o : Operation V T) → HasValue b name (value_after o x.writer.value)
    valued_in (operation.Insert v) = tt
    valued_in operation.Remove = r.writing.valued
    valued_in (operation.Abort t) = r.writing.valued

    chosen_in : (o : Operation V T) (shown : Option (Stored K V)) → IsPlaced b (Some name) (pair_named shown)
        → IsPlaced b (Some name) (pair_named (chosen_after shown o x.chosen))
    chosen_in o None p = r.chosen_placed
    chosen_in (operation.Insert v) (Some q) p = r.chosen_placed
    chosen_in operation.Remove (Some q) p = p
    chosen_in (operation.Abort t) (Some q) p = r.chosen_placed

    -- if it remembers one in the place of a pair, this is a newer result, or the call is over
    answered_now : IsAnswered m'.state → IsAnswered chain'.call.state
    answered_now waits = subst (λ (z : Call_machine). IsAnswered z.state) (sym steps) waits

    removed_none : (p : Stored K V) → held ≡ Some p → kind_of done ≡ kinds.Remove → (i n : ℕ) → ActsOn m' (Makes (Some i) n) → ⊥
    removed_none p e removes_it i n h =
        let shows : calls.ask_of m ≡ ShowPair p.index = own_asks.1 ∙ ap (λ (o : Option (Stored K V)). show (number_of o)) e in
        let removed : ActsOn (calls.after m (Op kinds.Remove))
        (Makes (Some i) n) = subst (λ (k : OpKind). ActsOn (calls.after m (Op k)) (Makes (Some i) n)) removes_it h in
        ⊎_elim (λ is. cc is) (λ (a : KeepsFill m (Makes (Some i) n)). let is = a.1 in cc is)
        (machine_chosen m p.index (Makes (Some i) n) r.task_is shows removed)

    newest_by : (o : Option (Stored K V)) → held ≡ o → (kind : OpKind) → kind_of done ≡ kind → (i n : ℕ) → ActsOn m' (Makes (Some i) n) → IsAnswered m'.state
    newest_by None e kind is i n h = answered_none m (kind_of done) (own_asks.1 ∙ ap (λ (o : Option (Stored K V)). show (number_of o)) e)
    newest_by (Some p) e kinds.Insert is i n h = answered_pair m p.index (kind_of done) r.task_is (λ f. let g = sym is ∙ f in cc g)
        (own_asks.1 ∙ ap (λ (o : Option (Stored K V)). show (number_of o)) e)
    newest_by (Some p) e kinds.Remove is i n h = absurd (removed_none p e is i n h)
    newest_by (Some p) e (kinds.Abort with) is i n h = answered_pair m p.index (kind_of done) r.task_is (λ f. let g = sym is ∙ f in cc g)
        (own_asks.1 ∙ ap (λ (o : Option (Stored K V)). show (number_of o)) e)

    newest_now : (i n : ℕ) → ActsOn chain'.call (Makes (Some i) n) → IsAnswered chain'.call.state
    newest_now i n h = answered_now (newest_by held refl (kind_of done) refl i n (subst (λ (z : Call_machine). ActsOn z (Makes (Some i) n)) steps h))

    slot_now : (old : ℕ) (new : Of) → chain'.call.remembered.choice ≡ Some (To_replace old new) → (q : Stored K V) × (x.made ≡ Some q)
        × HasKeyAt log new.table new.index (key_of q)
    slot_now old new e = ⊎_elim (λ same. r.of_slot old new same) (λ now. let f = now.1.1 in absurd (cc f))
        (machine_choice m old new (Op (kind_of done)) (ap (λ (z : Call_machine). z.remembered.choice) (sym steps) ∙ e))

    -- if it ends the call, the pair that would fill has the value that the closure returned earlier
    -- for None
    spared_now : (o : Option (Stored K V)) → held ≡ o → IsSpared x.fill heard
    spared_now None e = λ v member. ⊎_elim (λ none. absurd (none_unsaid heard none (operation.Insert v) member))
        (λ shown. absurd ((chain_once chain (answers.Call (Op (kind_of done))) order shown).0
        (asks ∙ ap (λ (o : Option (Stored K V)). Call (show (number_of o))) e))) r.none_shown
    spared_now (Some p) e = λ v member. ⊎_elim (λ none. absurd (none_unsaid heard none (operation.Insert v) member))
        (λ shown. spared_in v member (machine_filled m p.index (own_asks.1 ∙ ap (λ (o : Option (Stored K V)). show (number_of o)) e) shown)) r.none_shown
      where
        spared_in : (v : V) → Member (None, operation.Insert v) heard → (n : ℕ) × ActsOn m (Makes None n) → (q : Stored K V) × (x.fill ≡ Some q)
            × (q.value.value ≡ v)
        spared_in v member n = let h = r.stood (Makes None n.0) n.1 in (h.0, h.1, inserted_once heard r.none_once h.0.value.value v h.2.said_is member)

    spared_by : (t : T) → done ≡ operation.Abort t → IsSpared x.fill ((held, done) ∷ heard)
    spared_by t is v (inl e) = let f : operation.Insert v ≡ operation.Abort t = ap (λ z. z.1) e ∙ is in absurd (cc f)
    spared_by t is v (inr member) = spared_now held refl v member

    -- it continues, with the result that was returned now
    pub shows_on : WasHeld eq (eq key) (history_of begun) (history_of log) held → IsPlaced b (Some name) (pair_named held)
        → On log (shown_to key r.made heard x held done) ((held, done) ∷ heard) (Some (Op (kind_of done)))
    shows_on was placed = (
      record {
        made = r.made;
        writing = asked r.made log x.writer r.writing (kind_of done) (number_of held) (value_after done x.writer.value) (valued_in done) asks;
        task_is = (chain_task chain (answers.Call (Op (kind_of done))) order).0 ∙ r.task_is;
        words = chain_shows chain (answers.Call (Op (kind_of done))) order r.words;
        puts = chain_puts chain (answers.Call (Op (kind_of done))) order r.task_is valid.call r.puts;
        shown_placed = placed;
        fill_placed = r.fill_placed;
        chosen_placed = chosen_in done held placed;
        held = (was, r.held);
        none_once = (none_by held refl).1;
        none_shown = (none_by held refl).0;
        stood = stood_now;
        newest = λ i n h. inl (newest_now i n h);
        of_slot = slot_now;
        aborts = λ with e. let s = own_aborted chain own_asks.0 (Op (kind_of done)) with (not_done (number_of held) asks) e in
            let a = aborts_with done with (op_is done (kinds.Abort with) s.2) in
            (a.0, a.2 x.aborted, ap (λ (o : Operation V T). (held, o)) a.1, spared_by a.0 a.1);
        refuses = λ cause e. ⊎_elim
            (λ h. absurd (cc h))
            (λ others. ⊎_elim (λ over. absurd (unlimited over.1))
            (λ a. inr (a.0, (λ j. (none_asked m held own_asks.1 (call_asks chain ShowNone a.1).1 j, removes done (op_is done kinds.Remove a.2) j)))) others)
            (refused_by cause e);
        crowded = λ e. ⊎_elim (λ h. absurd (cc h))
            (λ others. ⊎_elim (λ over. let f = over.0 in absurd (cc f)) (λ a. let f = a.0 in absurd (cc f)) others) (refused_by Capacity e);
        spent = λ e. ⊎_elim (λ h. absurd (cc h)) (λ others. ⊎_elim (λ over. absurd (unlimited over.1)) (λ a. let f = a.0 in absurd (cc f)) others)
            (refused_by Limit e);
      },
      tt,
    )

  module _ {T : Type 0} (log : List (Event K V S)) (x : Computing K V S T H) (heard : List (Option (Stored K V) × Operation V T)) (r : Comp log x heard) where
    abbrev G : Setting (Option K) (Stored K V)
    G = Wide eq input build write finish classes respects b (eq key) (input key) own (Some key) name begun log

    abbrev C : Coding (Option K) (Stored K V)
    C = Coded eq input build write finish classes respects b (eq key) (input key) own (Some key) name begun

    abbrev loaded : LoadedPairs (Stored K V)
    loaded = record { last = x.writer.call.copier.last; made = r.made }

    was_held : (value : Option (Stored K V)) → WasAtMoment G C (exchanges_of begun) r.writing.calling.since (Some key) value
        → WasHeld eq (eq key) (history_of begun) (history_of log) value
    was_held value was = own_held_then eq input build write finish classes respects b (eq key) (input key) own begun log r.writing.calling.lawful
        r.writing.calling.since r.writing.calling.is key value was

    -- if it calls its closure with None, the key was absent
    pub none_held : ask_of x.writer.call.machine ≡ Call ShowNone → WasHeld eq (eq key) (history_of begun) (history_of log) None
    none_held e = was_held None (machine_offers G C (exchanges_of begun) r.writing.calling.since (Some key) loaded x.writer.call.machine.call
        r.writing.calling.relies.call (call_asks x.writer.call.machine ShowNone e).1)

    -- if it calls its closure with the pair last loaded, the key had it
    pub pair_held : (n : ℕ) → ask_of x.writer.call.machine ≡ Call (ShowPair n) → (p : Stored K V) → x.writer.call.copier.last ≡ Some p
        → WasHeld eq (eq key) (history_of begun) (history_of log) (Some p) × (p.index ≡ n)
    pair_held n e p last =
        let hashed = hashed_with eq input build write finish classes respects b (eq key) (input key) own log r.writing.calling.lawful in
        let shown = held.machine_shows G C hashed (exchanges_of begun) r.writing.calling.since (Some key) loaded x.writer.call.machine.call
        r.writing.calling.relies.call n (call_asks x.writer.call.machine (ShowPair n) e).1 in
        let one : shown.0 ≡ p = cc (shown.1, last) in (
          was_held (Some p) (subst (λ (z : Stored K V). WasAtMoment G C (exchanges_of begun) r.writing.calling.since (Some key) (Some z)) one shown.4),
          ap (λ (z : Stored K V). z.index) (sym one) ∙ shown.2,
        )

    -- the argument of its next call was the map's, and is stored in the book's arenas
    pub shown_held : (held : Option (Stored K V)) → IsToCall x held → WasHeld eq (eq key) (history_of begun) (history_of log) held
        × IsPlaced b (Some name) (pair_named held)
    shown_held None h = (none_held h.0, tt)
    shown_held (Some p) h = (
      (pair_held p.index h.0 p h.1).0,
      subst (λ (o : Option (Stored K V)). IsPlaced b (Some name) (pair_named o)) h.1
          r.writing.calling.last_placed,
    )

-- a call of the closure exchanges no slot
pub show_idle : {K V S H : Type 0} {d : keyed.Ghosts S K H} (m : Machine) (held : Option (Stored K V)) → ask_of m ≡ Call (show (number_of held))
    → (answer : Answer) (w : Window K V S H d) → Answers (calls.ask_of m.call) (Some answer) w w
show_idle m None e answer w = idle ShowNone _ (sym (call_asks m ShowNone e).1) tt (Some answer) w w refl
show_idle m (Some p) e answer w = idle (ShowPair p.index) _ (sym (call_asks m (ShowPair p.index) e).1) tt (Some answer) w w refl
