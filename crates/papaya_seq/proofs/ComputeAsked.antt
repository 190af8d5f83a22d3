-- A compute of a map for one caller, over the call of its closure.
use Rattle.std.proofs.Common.{◌≡◌, inl, inr, ⊎_elim, ℕ, ◌^◌, ◌<◌, Bool, true, false, Option, None, Some, List, option_map, refl, sym, ◌∙◌, ap, subst}
use Rattle.std.specs.Prelude.{MatchOption}
use denote.Ref.{Bor}
use Rattle.std.specs.Cmp.{IsEquivalence}
use Rattle.papaya_words.specs.Word.{pair_of as number_of}
use Rattle.papaya_words.specs.declared.refused.Refused.TheVariants.{RemoveNothing}
use Rattle.papaya_call.specs.Answers.{op_kind}
use Rattle.papaya_call.specs.declared.answers.Operation.{Operation}
use Rattle.papaya_call.specs.declared.answers.Operation.TheVariants as ops
use Rattle.papaya_call.specs.declared.ask.Ask.{Ask as Call_ask}
use Rattle.papaya_call.specs.declared.ask.Ask.TheVariants.{ShowNone, ShowPair}
use Rattle.papaya_call.specs.declared.ask.Answer.{Answer as Call_answer}
use Rattle.papaya_call.specs.declared.ask.Answer.TheVariants.{Op}
use Rattle.papaya_call.specs.declared.call.Reply.{Reply}
use Rattle.papaya_call.specs.declared.call.Reply.TheVariants.{Aborted, Refused as Reply_refused}
use Rattle.papaya_call.specs.declared.call.Task.{Task}
use Rattle.papaya_call.specs.declared.compute.Gap.{Gap}
use Rattle.papaya_call.specs.declared.compute.Purpose.{Purpose}
use Rattle.papaya_call.specs.declared.compute.Purpose.TheVariants.{Fill, Replace}
use Rattle.papaya_call.specs.declared.machine.State.{State}
use Rattle.papaya_call.specs.declared.machine.State.TheVariants.{Offering, Showing, Pairing}
use Rattle.papaya_call.specs.declared.remove.Removal.{Removal}
use Rattle.papaya_call.specs.declared.made.Made.{Made}
use Rattle.papaya_call.specs.Compute.{in_place_of}
use Rattle.papaya_call.specs.Made.{pair_ask}
use Rattle.papaya_call_law.proofs.Makings.{pair_holds}
use Rattle.papaya_call.specs.declared.chain.ask.Ask.{Ask}
use Rattle.papaya_call.specs.declared.chain.ask.Ask.TheVariants as asked
use Rattle.papaya_call.specs.declared.chain.ask.Answer.TheVariants as answers
use Rattle.papaya_call.specs.declared.chain.machine.Machine.{Machine}
use Rattle.papaya_call.specs.declared.chain.machine.Phase.TheVariants.{Calling}
use Rattle.papaya_call.specs.ChainMachine.{IsFit, IsValid, after, ask_of}
use Rattle.papaya_call_law.proofs.Names.{call_asks}
use Rattle.papaya_call_law.specs.Says.{HasCalledNone, Inserts, ClosureResult, NamesPairIn, ActsOn, result_for}
use Rattle.papaya_core_store.specs.Asks.{PerformsAsk}
use Rattle.papaya_core_store.specs.Pairs.{value_at}
use Rattle.papaya_core_store.specs.declared.pairs.Part.{Part}
use Rattle.papaya_core_store.specs.declared.pairs.Part.TheVariants.{Own}
use Rattle.papaya_core_store.specs.declared.pairs.Running.{Running}
use Rattle.papaya_core_store.specs.Performs.{ShowsPair, value_answered}
use Rattle.papaya_core_store.specs.Store.{StoreState, Stored, pair_of}
use Rattle.papaya_words_keys.specs.Hashes.{hash_of}
use Rattle.papaya_core_timeline.specs.Advances.{reply_in}
use Rattle.papaya_core_timeline.specs.Content.{map_in}
use Rattle.papaya_core_timeline.specs.Solo.{whatever}
use Rattle.papaya_core_timeline.proofs.KeptCore.{keys_lawful}
use Rattle.papaya_core_timeline.proofs.KeptSettings.{IsLawfulKeys}
use Rattle.papaya_seq.specs.Computes.{AreOf, Says}
use Rattle.papaya_seq.specs.Computing.{IsKept}
use Rattle.papaya_seq.specs.Map.{IsLawfulMap, MapState, deref_pair, entry_of}
use Rattle.papaya_seq.proofs.Causes.{unlogged_more}
use Rattle.papaya_seq.proofs.ComputeRun.{IsAsked, IsComputing, IsDoing, IsInsertSaid, IsInserting}
use Rattle.papaya_seq.proofs.ComputeRun.{IsLeft, IsOnWay, IsShown, IsToRemove, IsWaiting, Went}
use Rattle.papaya_seq.proofs.ComputeRun.{as_number, kept_as}
use Rattle.papaya_seq.proofs.ComputeShown.{asking, offering, showing, shows_none, shows_pair}
use Rattle.papaya_seq.proofs.ComputeStages.{IsRemoving, IsReplacing, bare_at, bare_is, remembers_nothing}
use Rattle.papaya_seq.proofs.Ending.{left_of}
use Rattle.papaya_seq.proofs.KeyCalls.{keyed_compute}
use Rattle.papaya_seq.proofs.Steps.{HasCome, made_more, made_nears}

-- a call that is to make a pair continues
pairing_going : (made : Made) (purpose : Purpose) (reply : Reply) → reply_in (asked.Call (pair_ask made (in_place_of purpose))) ≡ Some reply → ⊥
pairing_going made purpose =
    pair_holds (λ ask. (reply : Reply) → reply_in (asked.Call ask) ≡ Some reply → ⊥)
    (record {
      loads = λ reply e. cc e;
      takes = λ count reply e. cc e;
      key = λ reply e. cc e;
      value = λ reply e. cc e;
      pair = λ reply e.
          cc e;
      pair_of = λ n reply e. cc e;
    })
    made (in_place_of purpose)

-- a call that calls its closure has not replied
unreplied : {K V A : Type 0} (r : Running K V A) (ask : Call_ask) → reply_in (asked.Call ask) ≡ None → ask_of r.machine ≡ asked.Call ask
    → (reply : Reply) → reply_in (ask_of r.machine) ≡ Some reply → ⊥
unreplied r ask going e reply told = let f : None ≡ Some reply = sym going ∙ ap reply_in (sym e) ∙ told in cc f

module _ {K V S A T : Type 0} (s : MapState K V S) (store : StoreState K V S) (r : Running K V A) where
  -- a closure that was called with `None` is not called with it again
  pub not_offered : (o : Operation V T) (held : Option (Stored K V)) → held ≡ None → IsAsked s held o store r → ask_of r.machine ≡ asked.Call ShowNone → ⊥
  not_offered (ops.Insert v) held none now e =
      let (gap, is) = offering r.machine.call.made r.machine.call.hash r.machine.call.state (call_asks r.machine ShowNone e).1 in
      subst (HasCalledNone r.machine.call.remembered.fill) is (subst (λ h. IsOnWay h r.machine) none now.way)
  not_offered ops.Remove held none now e = unreplied r ShowNone refl e (Reply_refused RemoveNothing) (subst (λ h. IsToRemove h r.machine) none now)
  not_offered (ops.Abort t) held none now e = unreplied r ShowNone refl e (Aborted 0) now

  -- nor is one called again with a pair
  pub not_showing : (o : Operation V T) (held : Option (Stored K V)) (q : Stored K V) → held ≡ Some q → (n : ℕ) → IsAsked s held o store r
      → ask_of r.machine ≡ asked.Call (ShowPair n) → ⊥
  not_showing (ops.Insert v) held q there n now e =
      let (removal, is, number) = showing r.machine.call.made r.machine.call.hash n r.machine.call.state (call_asks r.machine (ShowPair n) e).1 in
      subst IsReplacing is (subst (λ h. IsOnWay h r.machine) there now.way).1
  not_showing ops.Remove held q there n now e =
      let (removal, is, number) = showing r.machine.call.made r.machine.call.hash n r.machine.call.state (call_asks r.machine (ShowPair n) e).1 in
      subst IsRemoving is (subst (λ h. IsToRemove h r.machine) there now).1
  not_showing (ops.Abort t) held q there n now e = unreplied r (ShowPair n) refl e (Aborted 0) now

module _ {K V S A : Type 0} (s : MapState K V S) (store : StoreState K V S) (r : Running K V A) where
  -- the call after its closure returned a value
  abbrev at_pairing : Made → Purpose → Running K V A
  at_pairing made purpose = record r {
    machine =
        record (bare_at r.machine (Pairing purpose)) { call = record (bare_at r.machine (Pairing purpose)).call { made = made } };
  }

  -- it acts on nothing but the value
  pairing_only : (made : Made) (purpose : Purpose) (said : ClosureResult) → ActsOn (at_pairing made purpose).machine.call said → result_for purpose ≡ Some said
  pairing_only made purpose said (inl e) = e
  pairing_only made purpose said (inr (inl e)) = absurd (cc e)
  pairing_only made purpose said (inr (inr e)) = absurd (cc e)

  -- which it has
  pairing_inserts : (made : Made) (purpose : Purpose) (shown : Option ℕ) → result_for purpose ≡ Some (Inserts shown) → (held : Option (Stored K V))
      → IsShown held shown → (v : V) → r.value ≡ Some (Own v) → IsOnWay held (at_pairing made purpose).machine
      → IsInserting s held v store (at_pairing made purpose)
  pairing_inserts made purpose shown is held shown_is v value way = record {
    value = ap (value_at store.pairs) value;
    said = λ said stands. subst (IsInsertSaid held v store (at_pairing made purpose)) (sym (only said stands)) (shown_is, only);
    ends = λ reply told. absurd (pairing_going made purpose reply told);
    way = way;
  }
    where
      only : (said : ClosureResult) → ActsOn (at_pairing made purpose).machine.call said → said ≡ Inserts shown
      only said stands = let both : Some said ≡ Some (Inserts shown) = sym (pairing_only made purpose said stands) ∙ is in cc both

module _ {K V S A T : Type 0} (s : MapState K V S) (store : StoreState K V S) (r : Running K V A) where
  -- the facts after the closure returned, if it was called with `None`
  none_asked : (o : Operation V T) (gap : Gap) (left : Option (Part V)) → r.value ≡ value_answered (as_number o) left
      → IsAsked s None o store (record r { machine = after (bare_at r.machine (Offering gap)) (answers.Call (Op (op_kind (as_number o)))) })
  none_asked (ops.Insert v) gap left value = pairing_inserts s store r (record r.machine.call.made { valued = false }) (Fill gap) None refl None refl v value tt
  none_asked ops.Remove gap left value = refl
  none_asked (ops.Abort t) gap left value = refl

  -- or with a pair
  pair_asked : (o : Operation V T) (q : Stored K V) (removal : Removal) (left : Option (Part V)) → 0 < removal.word
      → number_of removal.word ≡ q.number → r.value ≡ value_answered (as_number o) left
      → IsAsked s (Some q) o store (record r { machine = after (bare_at r.machine (Showing removal)) (answers.Call (Op (op_kind (as_number o)))) })
  pair_asked (ops.Insert v) q removal left some number value = pairing_inserts s store r (record r.machine.call.made { valued = false })
      (Replace (record { place = removal.place; old = removal.word })) _ refl (Some q) (ap Some number) v value (refl, some)
  pair_asked ops.Remove q removal left some number value = (refl, tt)
  pair_asked (ops.Abort t) q removal left some number value = refl

module _ {K V S A F T H : Type 0} (eq : K → K → Bool) (input : K → List (List ℕ)) (build : S → H) (write : H → List ℕ → H) (finish : H → ℕ)
    (classes : IsEquivalence eq) (respects : (x y : K) → eq x y ≡ true → input x ≡ input y)
    (s : MapState K V S) (lawful : IsLawfulMap eq (hash_of input build write finish s.store.hasher) s.store s.mode s.initial) (k : K)
    (fits : hash_of input build write finish s.store.hasher k < 2 ^ 64)
    (post : F → Option (Bor K × Bor V) → Operation V T → Type 0) (f : F)
    (store : StoreState K V S) (r : Running K V A) (closure : Option F) (shown : Option ℕ) (aborted : Option T)
    (now : IsComputing eq (hash_of input build write finish) s k post f store r closure shown aborted) where
  abbrev Waits : Type 0
  Waits = IsWaiting {T = T} eq (hash_of input build write finish) s k post f store r closure shown

  keys : IsLawfulKeys eq (hash_of input build write finish s.store.hasher)
  keys = keys_lawful eq input build write finish classes respects s.store.hasher

  -- it came there by steps of the core
  came : HasCome eq (hash_of input build write finish) s (keyed_compute k) store (asking r)
  came = now.steps keys lawful fits

  -- its closure is called with `None` if the map has none
  pub none_held : ask_of r.machine ≡ asked.Call ShowNone → map_in eq s.store k ≡ None
  none_held e = shows_none eq input build write finish classes respects s lawful k fits store r came e

  -- and otherwise with the pair that the map has
  pub pair_held : (n : ℕ) → ask_of r.machine ≡ asked.Call (ShowPair n) → (q : Stored K V) × (map_in eq s.store k ≡ Some q) × (q.number ≡ n)
      × (pair_of store n ≡ Some q)
  pair_held n e = shows_pair eq input build write finish classes respects s lawful k fits store r came n e

  -- so its closure was not called
  waits_none : ask_of r.machine ≡ asked.Call ShowNone → Waits
  waits_none e =
      ⊎_elim
      (λ (w : Waits). w)
      (λ (d : IsDoing eq (hash_of input build write finish) s k post f store r shown aborted).
      absurd (not_offered s store r d.operation (map_in eq s.store k) (none_held e) d.asked e))
      now.phase

  waits_pair : (n : ℕ) → ask_of r.machine ≡ asked.Call (ShowPair n) → Waits
  waits_pair n e =
      ⊎_elim
      (λ (w : Waits). w)
      (λ (d : IsDoing eq (hash_of input build write finish) s k post f store r shown aborted). let (q, here, number, logged) = pair_held n e in
      absurd (not_showing s store r d.operation (map_in eq s.store k) q here n d.asked e))
      now.phase

  -- the argument is the entry that the map holds
  pub none_are : (entry : Option (Bor K × Bor V)) → entry ≡ None → ask_of r.machine ≡ asked.Call ShowNone → AreOf entry (map_in eq s.store k)
  none_are entry none e = ap (option_map deref_pair) none ∙ sym (ap (option_map entry_of) (none_held e))

  pub entry_are : (entry : Option (Bor K × Bor V)) (n : ℕ)
      → MatchOption entry (pair_of store n ≡ None) (λ p. pair_of store n ≡ Some (record { number = n; key = p.0.now; value = p.1.now }))
      → ask_of r.machine ≡ asked.Call (ShowPair n) → AreOf entry (map_in eq s.store k)
  entry_are None n gone e = let (q, here, number, logged) = pair_held n e in let g : None ≡ Some q = sym gone ∙ logged in absurd cc
  entry_are (Some p) n there e =
      let (q, here, number, logged) = pair_held n e in
      let g : Some (record { number = n; key = p.0.now; value = p.1.now }) ≡ Some q = sym there ∙ logged in
      let same : record { number = n; key = p.0.now; value = p.1.now } ≡ q = cc g in
      ap (λ (x : Stored K V). Some (entry_of x)) same ∙ sym (ap (option_map entry_of) here)

  -- its closure is there
  pub closure_none : ask_of r.machine ≡ asked.Call ShowNone → closure ≡ Some f
  closure_none e = (waits_none e).closure_is

  pub closure_pair : (n : ℕ) → ask_of r.machine ≡ asked.Call (ShowPair n) → closure ≡ Some f
  closure_pair n e = (waits_pair n e).closure_is

  -- the machine of a call whose closure was not called
  machine_is : Waits → (state : State) → r.machine.phase ≡ Calling → r.machine.call.state ≡ state → r.machine ≡ bare_at r.machine state
  machine_is w state phase is = bare_is r.machine state came.task (remembers_nothing r.machine.call (λ said stands. absurd (w.silent said stands))) phase is

  module _ (told : Call_answer) (value' : Option (Part V)) (closure' : Option F) (aborted' : Option T) (entry : Option (Bor K × Bor V)) (f' : F)
      (o : Operation V T) (taken : closure ≡ Some f') (says : post f' entry o) (kept : IsKept o told r.value value' aborted aborted') where
    -- the part of the result that is kept
    kept_is : (told ≡ Op (op_kind (as_number o))) × (value' ≡ value_answered (as_number o) r.value) × IsLeft o aborted'
    kept_is = kept_as o told r.value value' aborted aborted' kept

    fit : IsFit (answers.Call told)
    fit = subst (λ a. IsFit (answers.Call a)) (sym kept_is.0) tt

    -- the call after that
    abbrev later : Running K V A
    later = record r { value = value' }

    abbrev then : Running K V A
    then = record later { machine = after r.machine (answers.Call told) }

    later_is : asking later ≡ record (asking r) { value = value_answered (as_number o) r.value; answers = Some tt }
    later_is = ap (λ (v : Option (Part V)). record (asking r) { value = v; answers = Some tt }) kept_is.1

    -- the closure returned it
    said : closure ≡ Some f → AreOf entry (map_in eq s.store k) → Says (post f) (map_in eq s.store k) o
    said there are =
        let g : Some f' ≡ Some f = sym taken ∙ there in
        let same : f' ≡ f = cc g in
        (entry, are, subst (λ (y : F). post y entry o) same says)

    -- the facts after it, for the machine as it is
    asked_now : (held : Option (Stored K V)) (state : State) → r.machine ≡ bare_at r.machine state
        → IsAsked s held o store (record later { machine = after (bare_at r.machine state) (answers.Call (Op (op_kind (as_number o)))) })
        → IsAsked s held o store then
    asked_now held state is there =
        subst (λ (m : Machine). IsAsked s held o store (record later { machine = after m (answers.Call told) })) (sym is)
        (subst (λ a. IsAsked s held o store (record later { machine = after (bare_at r.machine state) (answers.Call a) })) (sym kept_is.0) there)

    module _ (going : reply_in (ask_of r.machine) ≡ None)
        (performs : PerformsAsk eq whatever (hash_of input build write finish) false (ask_of r.machine) store (asking r) (answers.Call told) store
        (asking later)) where
      -- so it continues
      goes_on : IsValid (after r.machine (answers.Call told)) → Waits → AreOf entry (map_in eq s.store k) → (shown' : Option ℕ)
          → shown' ≡ option_map (λ p. p.number) (map_in eq s.store k) → IsAsked s (map_in eq s.store k) o store then
          → IsComputing eq (hash_of input build write finish) s k post f store then closure' shown' aborted'
      goes_on valid waits are shown' shown_is there = record {
        steps = made_more eq (hash_of input build write finish) s (keyed_compute k) store (asking r) (answers.Call told) store (asking later) going
            performs refl now.steps;
        silence = now.silence;
        valid = valid;
        unlogged = unlogged_more eq (hash_of input build write finish) s (keyed_compute k) store (asking r) (answers.Call told) store (asking later)
            going performs refl keys came now.unlogged;
        phase = inr (record { operation = o; said = said waits.closure_is are; shown_is = shown_is; kept = kept_is.2; asked = there });
      }

      -- and nearer its end
      nears : left_of store (after r.machine (answers.Call told)) < left_of store r.machine
      nears = made_nears eq (hash_of input build write finish) s (keyed_compute k) store (asking r) (answers.Call told) store (asking later) going
          performs refl now.steps keys lawful fits

    module _ (e : ask_of r.machine ≡ asked.Call ShowNone) where
      none_performs : PerformsAsk eq whatever (hash_of input build write finish) false (ask_of r.machine) store (asking r) (answers.Call told) store
          (asking later)
      none_performs =
          subst (λ (ask : Ask). PerformsAsk eq whatever (hash_of input build write finish) false ask store (asking r) (answers.Call told) store
          (asking later)) (sym e)
          (told, refl, inr (tt, as_number o, tt, refl, tt, kept_is.0, refl, later_is))

      none_more : entry ≡ None → IsValid (after r.machine (answers.Call told))
          → IsComputing eq (hash_of input build write finish) s k post f store then closure' shown aborted'
      none_more none valid =
          let w = waits_none e in
          let own = call_asks r.machine ShowNone e in
          let (gap, is) = offering r.machine.call.made r.machine.call.hash r.machine.call.state own.1 in
          goes_on (ap reply_in e) none_performs valid w (none_are entry none e) shown (w.unshown ∙ sym (ap (option_map (λ p. p.number)) (none_held e)))
          (subst (λ (held : Option (Stored K V)). IsAsked s held o store then) (sym (none_held e))
          (asked_now None (Offering gap) (machine_is w (Offering gap) own.0 is) (none_asked s store later o gap r.value kept_is.1)))

      pub none_went : entry ≡ None → Went eq (hash_of input build write finish) s k post f store r.machine (answers.Call told) store later closure'
          shown aborted'
      none_went none = record { fit = fit; same = refl; nears = nears (ap reply_in e) none_performs; goes = none_more none }

    module _ (n : ℕ) (e : ask_of r.machine ≡ asked.Call (ShowPair n)) where
      pair_performs : PerformsAsk eq whatever (hash_of input build write finish) false (ask_of r.machine) store (asking r) (answers.Call told) store
          (asking later)
      pair_performs =
          let (q, here, number, logged) = pair_held n e in
          subst (λ (ask : Ask). PerformsAsk eq whatever (hash_of input build write finish) false ask store (asking r) (answers.Call told) store
          (asking later)) (sym e) (
            told,
            refl,
            subst (λ (task : Task). ShowsPair task whatever n store (asking r) told store (asking later)) (sym came.task)
                (inr (q, logged, (tt, as_number o, tt, refl, tt, kept_is.0, refl, later_is))),
          )

      pair_more : MatchOption entry (pair_of store n ≡ None) (λ p. pair_of store n ≡ Some (record { number = n; key = p.0.now; value = p.1.now }))
          → IsValid (after r.machine (answers.Call told)) → IsComputing eq (hash_of input build write finish) s k post f store then closure' (Some n) aborted'
      pair_more refers valid =
          let w = waits_pair n e in
          let own = call_asks r.machine (ShowPair n) e in
          let (removal, is, number) = showing r.machine.call.made r.machine.call.hash n r.machine.call.state own.1 in
          let (q, here, same, logged) = pair_held n e in
          goes_on (ap reply_in e) pair_performs valid w (entry_are entry n refers e) (Some n)
          (ap Some (sym same) ∙ sym (ap (option_map (λ p. p.number)) here))
          (subst (λ (held : Option (Stored K V)). IsAsked s held o store then) (sym here)
          (asked_now (Some q) (Showing removal) (machine_is w (Showing removal) own.0 is)
          (pair_asked s store later o q removal r.value (subst (NamesPairIn r.machine.call.remembered.choice) is came.shows) (number ∙ sym same) kept_is.1)))

      pub pair_went : MatchOption entry (pair_of store n ≡ None) (λ p. pair_of store n ≡ Some (record { number = n; key = p.0.now; value = p.1.now }))
          → Went eq (hash_of input build write finish) s k post f store r.machine (answers.Call told) store later closure' (Some n) aborted'
      pair_went refers = record { fit = fit; same = refl; nears = nears (ap reply_in e) pair_performs; goes = pair_more refers }
