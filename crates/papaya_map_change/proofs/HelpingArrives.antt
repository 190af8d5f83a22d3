-- A call that continues in phase `Calling` after a copy holds the table in which it is to search
-- for its key; and the states between, over all answers.
use Rattle.std.proofs.Common.{◌≡◌, ◌⊎◌, inl, inr, ⊎_elim, ℕ, Bool, true, MatchOption, Option, None, Some, List, refl, sym, ap, ◌∙◌, subst}
use Rattle.std.specs.Cmp.{IsEquivalence}
use mathlib.Core.List.{IsPrefix}
use denote.Bor.{Bor}
use Rattle.boxcar.specs.Table.{Where}
use Rattle.logbook.specs.Pages.{Book}
use Rattle.logbook.specs.declared.tokens.Pen.{Pen}
use Rattle.papaya_words.specs.declared.refused.Refused.TheVariants.{Capacity, Memory}
use Rattle.papaya_call.specs.declared.call.Reply.TheVariants.{Absent, Refused as Reply_refused}
use Rattle.papaya_call.specs.declared.search.Search.TheVariants.{Sizing}
use Rattle.papaya_call.specs.declared.compute.Gap.TheVariants.{NoRoot}
use Rattle.papaya_call.specs.declared.machine.Machine.{Machine as Call_machine}
use Rattle.papaya_call.specs.declared.machine.State.{State as Stage}
use Rattle.papaya_call.specs.declared.machine.State.TheVariants.{AtRoot, Ended, Making, Offering, Searching}
use Rattle.papaya_call.specs.declared.ask.Answer.TheVariants.{Word as Word_read}
use Rattle.papaya_call.specs.Machine as call_machine
use Rattle.papaya_call.specs.declared.chain.machine.Machine.{Machine}
use Rattle.papaya_call.specs.declared.chain.machine.Phase.TheVariants.{Calling}
use Rattle.papaya_call_law.specs.ChainRelies.{left_by}
use Rattle.papaya_call_law.proofs.Replies.{anew}
use Rattle.papaya_words_law.specs.Class.{IsOn}
use Rattle.papaya_words_law.specs.Exchange.{Exchange, run, start}
use Rattle.papaya_call_law.specs.Followed.{IsAtTable}
use Rattle.papaya_call_law.specs.Relies.{ReliesStage}
use Rattle.papaya_call_law.proofs.ReliesNames.{ask_named}
use Rattle.papaya_map_book.specs.declared.rule.entry.Begun.{Begun}
use Rattle.papaya_map_book.specs.declared.rule.entry.Event.{Event}
use Rattle.papaya_map_book.specs.declared.rule.own.CapacityCause.{CapacityCause}
use Rattle.papaya_map_book.specs.Calls.{HasCome, IsTable}
use Rattle.papaya_map_book.specs.Hashes.{hash_of}
use Rattle.papaya_map_book.specs.Limits.{HasNoRoom, tables_of}
use Rattle.papaya_map_book.specs.Logs.{Stored, exchanges_of}
use Rattle.papaya_map_book.specs.Rule.{IsLawfulLog}
use Rattle.papaya_map_book.specs.Sheets.{Sheet}
use Rattle.papaya_map_book.proofs.Lengths.{room_since, tables_since}
use Rattle.papaya_map_book.proofs.Loaded.{table_since}
use Rattle.papaya_map_book.proofs.Logs.{prefix_trans}
use Rattle.papaya_map_change.specs.Changing.{IsCalling, IsForm, loaded_with}
use Rattle.papaya_map_change.specs.Helping.{HasRestarted, HasGoneOn, HasHelped, IsAside, IsEntering, HasResumed, IsSetAside, WasRefused}
use Rattle.papaya_map_change.proofs.HelpingRelies.{fresh_later}
use Rattle.papaya_map_change.proofs.HelpingPlaces.{chain_came}
use Rattle.papaya_map_change.proofs.Sized.{counting_since}
use Rattle.papaya_map_change.proofs.Relying.{ChainRelying, coded, hashed_in, relying_later, relying_may, wide}

module _ {K V S H : Type 0} (eq : K → K → Bool) (input : K → List (List ℕ)) (build : S → H) (write : H → List ℕ → H) (finish : H → ℕ)
    (classes : IsEquivalence eq) (respects : (x y : K) → eq x y ≡ true → input x ≡ input y)
    (b : Begun K V S) (name : Book) (matches : K → Bool) (fed : ℕ) (form : IsForm eq (hash_of input build write finish) b matches fed) (k : Option K)
    (begun log : List (Event K V S)) (m : Machine) (last kept : Option (Stored K V)) (made : List (Stored K V)) (taken put : Option (Stored K V))
    (fresh : Option (Where Sheet × Pen))
    (moved : IsSetAside eq (hash_of input build write finish) b name matches fed k begun log m last kept made taken put fresh) where
  abbrev hash : S → K → ℕ
  hash = hash_of input build write finish

  abbrev G : List (Event K V S) → Rattle.papaya_words_law.specs.Exchange.Setting (Option K) (Stored K V)
  G log' = wide eq input build write finish classes respects b matches fed form k (exchanges_of begun) log'

  abbrev C : Rattle.papaya_words_law.specs.Code.Coding (Option K) (Stored K V)
  C = coded eq input build write finish classes respects b matches fed form k (exchanges_of begun)

  abbrev relies_now : ChainRelying eq input build write finish classes respects b matches fed form k (exchanges_of begun) log m (loaded_with last kept made)
  relies_now = record { since = moved.since; is = moved.is; relies = moved.relies }

  -- the table that it is to search has come
  pub entering_came : (n : ℕ) → IsEntering m n → HasCome log n
  entering_came n is =
      let stage = subst (ReliesStage (G log) C (exchanges_of begun) moved.since k (loaded_with last kept made).call m.call.task) is.1 moved.relies.call.stage in
      let on = ask_named (G log) C (hashed_in eq input build write finish classes respects b matches fed form k (exchanges_of begun) log moved.lawful)
      (exchanges_of begun) moved.since
      (relying_may eq input build write finish classes respects b matches fed form k (exchanges_of begun) log moved.lawful m
      (loaded_with last kept made) relies_now) k (loaded_with last kept made).call m.call.task m.call.hash m.call.made (Searching (Sizing n)) stage in
      chain_came log n (subst (λ (z : List (Exchange (Stored K V))). IsOn (run z start).first (run z start).next n) moved.is on)

  -- before this the call was set aside
  module _ (v : List (Event K V S)) (was : Machine) (table : Option (Bor Sheet)) (last₀ kept₀ taken₀ put₀ : Option (Stored K V))
      (fresh₀ : Option (Where Sheet × Pen)) (r : IsCalling eq hash b name matches fed k begun v was table last₀ kept₀ made taken₀ put₀ fresh₀)
      (tables : List ℕ) (given : List CapacityCause) (leads : IsAside was m ⊎ HasResumed was m tables given) (pre : IsPrefix v log)
      (log' : List (Event K V S)) (pre' : IsPrefix log log') (l' : IsLawfulLog eq hash b log') (table' : Option (Bor Sheet))
      (held : (n : ℕ) → IsEntering m n → MatchOption table' ⊥ (λ z. IsTable log' n z.now)) (still : ((n : ℕ) → IsEntering m n → ⊥) → table' ≡ table) where
    -- the table that it then holds
    pub record Lands : Type 0 where
      pub number : ℕ
      pub at_table : m.phase ≡ Calling → IsAtTable number m.call.state
      pub holds : MatchOption table' (number ≡ 0) (λ z. IsTable log' number z.now)

    -- a table is held
    some_held : (n : ℕ) (o : Option (Bor Sheet)) → MatchOption o ⊥ (λ z. IsTable log' n z.now) → MatchOption o (n ≡ 0) (λ z. IsTable log' n z.now)
    some_held n None h = absurd h
    some_held n (Some z) h = h

    later_held : (o : Option (Bor Sheet)) → MatchOption o (r.number ≡ 0) (λ z. IsTable v r.number z.now)
        → MatchOption o (r.number ≡ 0) (λ z. IsTable log' r.number z.now)
    later_held None h = h
    later_held (Some z) h = table_since v log' r.number z.now (prefix_trans v log log' pre pre') h

    same_held : ((n : ℕ) → IsEntering m n → ⊥) → MatchOption table' (r.number ≡ 0) (λ z. IsTable log' r.number z.now)
    same_held none = subst (λ (o : Option (Bor Sheet)). MatchOption o (r.number ≡ 0) (λ z. IsTable log' r.number z.now)) (sym (still none))
        (later_held table r.holds_table)

    -- it enters a table
    enters : m.phase ≡ Calling → (n : ℕ) → m.call.state ≡ Searching (Sizing n) → Lands
    enters calling n e = record { number = n; at_table = λ _. subst (IsAtTable n) (sym e) refl; holds = some_held n table' (held n (calling, e)) }

    -- or it needs none
    needs_none : (stage : Stage) → ((n : ℕ) → stage ≡ Searching (Sizing n) → ⊥) → IsAtTable r.number stage → m.call.state ≡ stage → Lands
    needs_none stage other at e = record {
      number = r.number;
      at_table = λ _.
          subst (IsAtTable r.number) (sym e) at;
      holds = same_held (λ n is. other n (sym e ∙ is.1));
    }

    waits : IsAside was m → Lands
    waits aside = record { number = r.number; at_table = λ calling. absurd (aside.busy calling); holds = same_held (λ n is. aside.busy is.0) }

    next_state : m.phase ≡ Calling → HasGoneOn was m ⊎ HasRestarted was m ⊎ WasRefused was m tables given → Lands
    next_state calling (inl on) = enters calling on.table (ap (λ (d : Call_machine). d.state) on.call)
    next_state calling (inr (inl anew_at)) =
        anew (λ stage. m.call.state ≡ stage → Lands)
        (needs_none (Ended Absent) (λ n f. cc f) tt) (needs_none Making (λ n f. cc f) tt) (needs_none (Offering NoRoot) (λ n f. cc f) tt) (enters calling)
        was.call.task was.call.remembered.fill anew_at.root (ap (λ (d : Call_machine). d.state) anew_at.call)
    next_state calling (inr (inr ends)) = needs_none (Ended (Reply_refused ends.refused)) (λ n f. cc f) tt (ap (λ (d : Call_machine). d.state) ends.call)

    lands : Lands
    lands = ⊎_elim waits (λ (led : HasResumed was m tables given). next_state led.calling led.where_to) leads

    -- it is under way again
    pub arrived : IsCalling eq hash b name matches fed k begun log' m table' last kept made taken put fresh
    arrived =
        let later = relying_later eq input build write finish classes respects b matches fed form k (exchanges_of begun) log moved.lawful m
        (loaded_with last kept made) relies_now log' l' pre' in record {
          lawful = l';
          seen = prefix_trans begun log log' moved.seen pre';
          since = later.since;
          is = later.is;
          relies = later.relies;
          number = lands.number;
          at_table = lands.at_table;
          holds_table = lands.holds;
          last_placed = moved.last_placed;
          kept_placed = moved.kept_placed;
          made_placed = moved.made_placed;
          taken_placed = moved.taken_placed;
          changed = λ change e. let none : None ≡ Some change = sym moved.unchanged ∙ e in absurd (cc none);
          brings = λ n h. fresh_later b name log log' pre' n fresh (moved.brings n h);
          words = moved.words;
          counts = counting_since (tables_of log) (tables_of log') (tables_since log log' pre') m moved.counts;
        }

-- the state to which answers for a copy have led a call
abbrev pub HasReached : Machine → Machine → (tables : List ℕ) → List CapacityCause → Type 0
HasReached m m' tables given = (m' ≡ m) ⊎ IsAside m m' ⊎ HasResumed m m' tables given

module _ (first m m' : Machine) (tables : List ℕ) (given : List CapacityCause) (same : m.call ≡ first.call) where
  -- one step after others that left the call unchanged
  aside_further : IsAside m m' → IsAside first m'
  aside_further a = record { from = a.from; left = ap (λ (d : Call_machine). left_by d.state) (sym same) ∙ a.left; call = a.call ∙ same; busy = a.busy }

  led_further : HasResumed m m' tables given → HasResumed first m' tables given
  led_further led = record { calling = led.calling; where_to = by_end led.where_to }
    where
      by_end : HasGoneOn m m' ⊎ HasRestarted m m' ⊎ WasRefused m m' tables given → HasGoneOn first m' ⊎ HasRestarted first m' ⊎ WasRefused first m' tables given
      by_end (inl on) = inl (record {
        from = on.from;
        left = ap (λ (d : Call_machine). left_by d.state) (sym same)
            ∙ on.left;
        table = on.table;
        call = on.call ∙ ap (λ (d : Call_machine). record d { state = Searching (Sizing on.table) }) same;
      })
      by_end (inr (inl begun)) = inr (inl (record {
        from = begun.from;
        left = ap (λ (d : Call_machine). left_by d.state) (sym same)
            ∙ begun.left;
        root = begun.root;
        call = begun.call
            ∙ ap (λ (d : Call_machine). call_machine.after (record d { state = AtRoot }) (Word_read begun.root)) same;
      }))
      by_end (inr (inr ends)) = inr (inr (record {
        from = ends.from;
        left = ap (λ (d : Call_machine). left_by d.state) (sym same) ∙ ends.left;
        refused = ends.refused;
        call = ends.call ∙ ap (λ (d : Call_machine). record d { state = Ended (Reply_refused ends.refused) }) same;
        cause = subst (λ (d : Call_machine). (ends.refused ≡ Memory) ⊎ ((ends.refused ≡ Capacity) × HasNoRoom d.initial tables given)) same ends.cause;
      }))

  further : IsAside m m' ⊎ HasResumed m m' tables given → HasReached first m' tables given
  further (inl aside) = inr (inl (aside_further aside))
  further (inr led) = inr (inr (led_further led))

-- after each answer, for a machine whose call is in the same state
pub reached_past : (first m mid m' : Machine) (tables tables' : List ℕ) (given given' : List CapacityCause) → HasReached first m tables given
    → (m.phase ≡ Calling → ⊥) → mid.call ≡ m.call → IsAside mid m' ⊎ HasResumed mid m' tables' given' → HasReached first m' tables' given'
reached_past first m mid m' tables tables' given given' (inl same) busy call leads = further first mid m' tables' given'
    (call ∙ ap (λ (d : Machine). d.call) same) leads
reached_past first m mid m' tables tables' given given' (inr (inl aside)) busy call leads = further first mid m' tables' given' (call ∙ aside.call) leads
reached_past first m mid m' tables tables' given given' (inr (inr led)) busy call leads = absurd (busy led.calling)

-- it is still in that state when more tables have come
module _ (m m' : Machine) (tables tables' : List ℕ) (given : List CapacityCause) (pre : IsPrefix tables tables') where
  refused_since : WasRefused m m' tables given → WasRefused m m' tables' given
  refused_since ends = record {
    from = ends.from;
    left = ends.left;
    refused = ends.refused;
    call = ends.call;
    cause = ⊎_elim (λ memory. inl memory) (λ full. inr (full.0, room_since m.call.initial tables tables' given pre full.1)) ends.cause;
  }

  led_since : HasGoneOn m m' ⊎ HasRestarted m m' ⊎ WasRefused m m' tables given → HasGoneOn m m' ⊎ HasRestarted m m' ⊎ WasRefused m m' tables' given
  led_since (inl on) = inl on
  led_since (inr (inl begun)) = inr (inl begun)
  led_since (inr (inr ends)) = inr (inr (refused_since ends))

  pub reached_since : HasReached m m' tables given → HasReached m m' tables' given
  reached_since (inl same) = inl same
  reached_since (inr (inl aside)) = inr (inl aside)
  reached_since (inr (inr led)) = inr (inr (record { calling = led.calling; where_to = led_since led.where_to }))

-- and at the end
pub helped : (first m : Machine) (tables : List ℕ) (given : List CapacityCause) → HasReached first m tables given → m.phase ≡ Calling
    → HasHelped first m tables given
helped first m tables given (inl same) calling = inl same
helped first m tables given (inr (inl aside)) calling = absurd (aside.busy calling)
helped first m tables given (inr (inr led)) calling = inr led.where_to
