-- The result of a compute that has replied: what its closure returned, and the change that it made.
use Rattle.std.proofs.Common.{◌≡◌, inl, inr, ℕ, Bool, true, MatchOption, Option, None, Some, Result}
use Rattle.std.proofs.Common.{Ok, Err, List, [], ◌∷◌, ◌++◌, append-nil, refl, sym, ap, ◌∙◌, subst}
use Rattle.std.specs.Cmp.{IsEquivalence}
use mathlib.Core.List.{IsPrefix}
use denote.Bor.{Bor}
use Rattle.logbook.specs.Pages.{Book}
use Rattle.papaya_words.specs.declared.refused.Refused.{Refused as Cause}
use Rattle.papaya_call.specs.declared.answers.Operation.{Operation}
use Rattle.papaya_call.specs.declared.answers.Operation.TheVariants as operation
use Rattle.papaya_call.specs.declared.ask.Ask.TheVariants.{Done}
use Rattle.papaya_call.specs.declared.call.Reply.{Reply}
use Rattle.papaya_call.specs.declared.call.Reply.TheVariants.{Absent, Found, Inserted, Replaced, Occupied, Removed, Kept, Aborted, Done as Reply_done, Refused}
use Rattle.papaya_call.specs.declared.call.Task.{Task}
use Rattle.papaya_call.specs.declared.call.Task.TheVariants.{Compute}
use Rattle.papaya_call.specs.declared.chain.ask.Ask.TheVariants.{Call}
use Rattle.papaya_call.specs.declared.chain.machine.Machine.{Machine}
use Rattle.papaya_call.specs.ChainMachine.{ask_of, started}
use Rattle.papaya_call_law.proofs.Names.{call_asks}
use Rattle.papaya_call_law.specs.TrueAnswers.{LoadedPairs}
use Rattle.papaya_call_law.specs.Relies.{IsReply, change_of_reply}
use Rattle.papaya_call_law.specs.Says.{Makes, Removes, ClosureResult, ActsOn, result_in, result_of_compute}
use Rattle.papaya_call_law.proofs.ReliesHeld.{ended_in, machine_replies}
use Rattle.papaya_words_keys.specs.declared.results.Compute.{Compute as Computed}
use Rattle.papaya_words_keys.specs.declared.results.Compute.TheVariants as computed
use Rattle.papaya_map_compute.specs.declared.slow_path.Computing.{Computing}
use Rattle.papaya_map_book.specs.declared.rule.entry.Begun.{Begun}
use Rattle.papaya_map_book.specs.declared.rule.entry.Event.{Event}
use Rattle.papaya_map_book.specs.declared.book.pairs.KeyPart.TheVariants as keys
use Rattle.papaya_map_change.specs.Changing.{HasChanged, HasItsKey}
use Rattle.papaya_map_change.specs.Changes.{IsChangeOf}
use Rattle.papaya_map_compute.specs.Computing.{Holds, IsComputing, IsReplied}
use Rattle.papaya_map_compute.specs.ComputeAnswers.{IsComputeBy, IsOperated}
use Rattle.papaya_map_book.specs.Hashes.{hash_of}
use Rattle.papaya_map_lookup.specs.History.{Change, changes_of, history_of, key_of}
use Rattle.papaya_map_book.specs.Logs.{Member, Stored, exchanges_of, pair_named}
use Rattle.papaya_map_book.specs.Rule.{IsLawfulLog, IsPlaced}
use Rattle.papaya_map_change.specs.ClosureCalls.{AreOf, HasReturned, WasHeld, WasLast}
use Rattle.papaya_map_change.proofs.Changing.{Coded, Wide}
use Rattle.papaya_map_lookup.proofs.Histories.{changes-append, history_since}
use Rattle.papaya_map_book.proofs.Logs.{prefix_trans}
use Rattle.papaya_map_change.proofs.ClosureCalls.{all_shown, held_wider, shown_each}
use Rattle.papaya_map_change.proofs.Written.{own_query}
use Rattle.papaya_map_change.proofs.WritingSteps.{begins as begins_writing}

-- replies that no compute gives
abbrev pub IsNoCompute : Reply → Type 0
IsNoCompute Absent = Unit {0}
IsNoCompute (Found n) = Unit {0}
IsNoCompute (Inserted n) = ⊥
IsNoCompute (Replaced old n) = ⊥
IsNoCompute (Occupied n) = Unit {0}
IsNoCompute (Removed n) = ⊥
IsNoCompute (Kept n) = Unit {0}
IsNoCompute (Aborted t) = ⊥
IsNoCompute Reply_done = Unit {0}
IsNoCompute (Refused cause) = ⊥

-- a reply other than those of a compute is one of these
pub other_reply : (reply : Reply) → ((n : ℕ) → reply ≡ Inserted n → ⊥) → ((old n : ℕ) → reply ≡ Replaced old n → ⊥)
    → ((n : ℕ) → reply ≡ Removed n → ⊥) → ((with : ℕ) → reply ≡ Aborted with → ⊥) → ((cause : Cause) → reply ≡ Refused cause → ⊥) → IsNoCompute reply
other_reply Absent inserted replaced removed aborted refused = tt
other_reply (Found n) inserted replaced removed aborted refused = tt
other_reply (Inserted n) inserted replaced removed aborted refused = inserted n refl
other_reply (Replaced old n) inserted replaced removed aborted refused = replaced old n refl
other_reply (Occupied n) inserted replaced removed aborted refused = tt
other_reply (Removed n) inserted replaced removed aborted refused = removed n refl
other_reply (Kept n) inserted replaced removed aborted refused = tt
other_reply (Aborted with) inserted replaced removed aborted refused = aborted with refl
other_reply Reply_done inserted replaced removed aborted refused = tt
other_reply (Refused cause) inserted replaced removed aborted refused = refused cause refl

-- an option that is this value has its property
of_some : {P : Type 0} (holds : P → Type 0) (none : Type 0) (o : Option P) (p : P) → o ≡ Some p → MatchOption o none holds → holds p
of_some holds none o p is m = subst (λ z. MatchOption z none holds) is m

-- two tokens of one number whose pairs are the same
abbrev AreOne : {K V : Type 0} → Stored K V → Stored K V → Type 0
AreOne p q = p.value ≡ q.value

module _ {K V S T H : Type 0} (eq : K → K → Bool) (input : K → List (List ℕ)) (build : S → H) (write : H → List ℕ → H) (finish : H → ℕ)
    (classes : IsEquivalence eq) (respects : (x y : K) → eq x y ≡ true → input x ≡ input y)
    (b : Begun K V S) (name : Book) (key : K) (begun log : List (Event K V S)) (x : Computing K V S T H)
    (heard : List (Option (Stored K V) × Operation V T)) (r : IsComputing eq (hash_of input build write finish) b name key begun log x heard) where
  abbrev m : Machine
  m = x.writer.call.machine

  -- the pairs that its call has loaded
  abbrev loaded : LoadedPairs (Stored K V)
  loaded = record { last = x.writer.call.copier.last; made = r.made }

  abbrev Answers : Result (Computed K V T) Cause → Type 0
  Answers answer = IsReplied eq key (history_of begun) (history_of log) heard answer

  abbrev Changes : (taken put : Option (Stored K V)) → Type 0
  Changes taken put = IsChangeOf (eq key) (history_of begun) (history_of log) taken put

  answers : (answer : Result (Computed K V T) Cause) → IsOperated eq key (history_of begun) (history_of log) heard answer → Answers answer
  answers answer done = record { held = r.held; none_once = r.none_once; operated = done }

  -- the pairs on which its reply relies are at hand
  at_hand : (reply : Reply) (said : ClosureResult) → ask_of m ≡ Call (Done reply) → result_of_compute reply ≡ Some said → Holds key r.made heard x said
  at_hand reply said e is = r.stood said (inl
      (ap (λ t. result_in t m.call.state) r.task_is
      ∙ (ap (result_in Compute) (ended_in m.call.made m.call.hash m.call.state reply (call_asks m (Done reply) e).1) ∙ is)))

  module _ (reply : Reply) (e : ask_of m ≡ Call (Done reply)) (old new : Option ℕ) (change : change_of_reply reply ≡ Some (old, new)) where
    changed : HasChanged eq (Some key) begun log x.writer.call.taken x.writer.call.put (old, new)
    changed =
        let query = own_query eq input build write finish classes respects b name key in
        let g = Wide eq input build write finish classes respects b (eq key) (input key) query (Some key) name begun log in
        let c = Coded eq input build write finish classes respects b (eq key) (input key) query (Some key) name begun in
        r.writing.calling.changed (old, new) ((machine_replies g c (exchanges_of begun) r.writing.calling.since (Some key) loaded m.call
        r.writing.calling.relies.call reply (call_asks m (Done reply) e).1).1 ∙ change)

    -- the numbers of the pairs that were taken out and put in
    taken_number : (taken : Stored K V) → x.writer.call.taken ≡ Some taken → (old ≡ Some taken.index) × (changed.class ≡ key_of taken)
    taken_number taken is = of_some (λ p. (old ≡ Some p.index) × (changed.class ≡ key_of p)) (old ≡ None) x.writer.call.taken taken is changed.taken_is

    abbrev IsPutIn : Stored K V → Type 0
    IsPutIn q = (new ≡ Some q.index) × (eq changed.class (key_of q) ≡ true) × HasItsKey eq (Some key) x.writer.call.taken q

    put_number : (put : Stored K V) → x.writer.call.put ≡ Some put → IsPutIn put
    put_number put is = of_some IsPutIn (new ≡ None) x.writer.call.put put is changed.put_is

    -- if it replaced another it has the key that was stored
    kept : (p q : Stored K V) → x.writer.call.taken ≡ Some p → x.writer.call.put ≡ Some q → key_of q ≡ key_of p
    kept p q took puts = subst (λ o. MatchOption o (Some (key_of q) ≡ Some key) (λ old. key_of q ≡ key_of old)) took (put_number q puts).2.is

    none_taken : old ≡ None → x.writer.call.taken ≡ None
    none_taken none = by_option x.writer.call.taken changed.taken_is
      where
        by_option : (o : Option (Stored K V)) → MatchOption o (old ≡ None) (λ p. (old ≡ Some p.index) × (changed.class ≡ key_of p)) → o ≡ None
        by_option None h = refl
        by_option (Some p) h = let g = sym none ∙ h.0 in absurd (cc g)

    none_put : new ≡ None → x.writer.call.put ≡ None
    none_put none = by_option x.writer.call.put changed.put_is
      where
        by_option : (o : Option (Stored K V)) → MatchOption o (new ≡ None) IsPutIn → o ≡ None
        by_option None h = refl
        by_option (Some p) h = let g = sym none ∙ h.0 in absurd (cc g)

    some_taken : (n : ℕ) → old ≡ Some n → x.writer.call.taken ≡ None → ⊥
    some_taken n some is = let h = subst (λ o. MatchOption o (old ≡ None) (λ p. (old ≡ Some p.index) × (changed.class ≡ key_of p))) is
        changed.taken_is in let g = sym some ∙ h in cc g

    some_put : (n : ℕ) → new ≡ Some n → x.writer.call.put ≡ None → ⊥
    some_put n some is = let h = subst (λ o. MatchOption o (new ≡ None) IsPutIn) is changed.put_is in let g = sym some ∙ h in cc g

    -- its change, of a key equal to the call's
    change_is : (taken put : Option (Stored K V)) → x.writer.call.taken ≡ taken → x.writer.call.put ≡ put → eq key changed.class ≡ true → Changes taken put
    change_is taken put took puts class = record {
      before = history_of changed.before;
      change = record { class = changed.class; taken = x.writer.call.taken; put = x.writer.call.put };
      since = history_since begun changed.before changed.since;
      is = ap (changes_of key_of) changed.is ∙
          (changes-append key_of (exchanges_of changed.before) (changed.by ∷ [])
          ∙ ap (λ (cs : List (Change K (Stored K V))). history_of changed.before ++ cs) (Rattle.std.proofs.lemmas.List.append-nil _ ∙ changed.change_is));
      class_is = class;
      taken_is = took;
      put_is = puts;
      kept = λ p q e f. kept p q (took ∙ e) (puts ∙ f);
    }

  -- it put a pair in
  module _ (n : ℕ) (e : ask_of m ≡ Call (Done (Inserted n))) where
    abbrev filled : Holds key r.made heard x (Makes None n)
    filled = at_hand (Inserted n) (Makes None n) e refl

    pub fill_made : x.fill ≡ None → ⊥
    fill_made none = let g = sym filled.1 ∙ none in cc g

    pub fill_put : x.writer.call.put ≡ None → ⊥
    fill_put none = some_put (Inserted n) e None (Some n) refl n refl none

    pub fill_number : (fill put : Stored K V) → x.fill ≡ Some fill → x.writer.call.put ≡ Some put → fill.index ≡ put.index
    fill_number fill put has puts =
        let one : filled.0 ≡ fill = cc (filled.1, has) in
        let p = (put_number (Inserted n) e None (Some n) refl put puts).0 in
        let number : n ≡ put.index = cc p in
        ap (λ (z : Stored K V). z.index) (sym one) ∙ (filled.2.number ∙ number)

    -- it is stored in the book's arenas
    pub fill_placed : (fill : Stored K V) → x.fill ≡ Some fill → IsPlaced b (Some name) (pair_named (Some fill))
    fill_placed fill has = let one : filled.0 ≡ fill = cc (filled.1, has) in
        subst (λ (z : Stored K V). IsPlaced b (Some name) (pair_named (Some z))) one (r.writing.calling.made_placed filled.0 filled.2.made_is)

    pub inserted : (fill put : Stored K V) → x.fill ≡ Some fill → x.writer.call.put ≡ Some put → AreOne fill put → (k : Bor K) (v : Bor V)
        → AreOf (k, v) put → Answers (Ok (computed.Inserted k v))
    inserted fill put has puts same k v are =
        let one : filled.0 ≡ fill = cc (filled.1, has) in
        let value = ap (λ (z : Stored K V). z.value) one ∙ same in
        let own : key_of put ≡ key = ap (λ z. z.key.value) (sym value) ∙ filled.2.key_is in
        let change = changed (Inserted n) e None (Some n) refl in
        let class : eq key change.class ≡ true = classes.symm key change.class
        ∙ subst (λ (z : K). eq change.class z ≡ true) own (put_number (Inserted n) e None (Some n) refl put puts).1 in
        answers (Ok (computed.Inserted k v)) (
          put,
          change_is (Inserted n) e None (Some n) refl None (Some put)
              (none_taken (Inserted n) e None (Some n) refl refl) puts class,
          own,
          subst (λ (z : V). Member (None, operation.Insert z) heard)
              (ap (λ z. z.value) value) filled.2.said_is,
          are,
        )

  -- the pair that the closure was called with had a key equal to the call's
  shown_key : (p : Stored K V) (done : Operation V T) → Member (Some p, done) heard → eq key (key_of p) ≡ true
  shown_key p done member = (shown_each (WasHeld eq (eq key) (history_of begun) (history_of log)) heard r.held (Some p) done member).is.0

  module _ (reply : Reply) (e : ask_of m ≡ Call (Done reply)) (n : ℕ) (new : Option ℕ) (change : change_of_reply reply ≡ Some (Some n, new))
      (p : Stored K V) (number : p.index ≡ n) (taken : Stored K V) (took : x.writer.call.taken ≡ Some taken) where
    -- the pair that was taken out has the number of the one that the closure was called with
    went_number : p.index ≡ taken.index
    went_number = let t = (taken_number reply e (Some n) new change taken took).0 in let same : n ≡ taken.index = cc t in number ∙ same

    -- and has a key equal to the call's
    went_class : AreOne p taken → eq key (key_of p) ≡ true → eq key (changed reply e (Some n) new change).class ≡ true
    went_class same own = ap (λ (z : K). eq key z) ((taken_number reply e (Some n) new change taken took).1 ∙ ap (λ z. z.key.value) (sym same)) ∙ own

  -- it took a pair out
  module _ (n : ℕ) (e : ask_of m ≡ Call (Done (Removed n))) where
    abbrev doomed : Holds key r.made heard x (Removes n)
    doomed = at_hand (Removed n) (Removes n) e refl

    pub removed_chosen : x.chosen ≡ None → ⊥
    removed_chosen none = let g = sym doomed.1 ∙ none in cc g

    pub removed_taken : x.writer.call.taken ≡ None → ⊥
    removed_taken none = some_taken (Removed n) e (Some n) None refl n refl none

    pub removed_number : (chosen taken : Stored K V) → x.chosen ≡ Some chosen → x.writer.call.taken ≡ Some taken → chosen.index ≡ taken.index
    removed_number chosen taken has took = let one : doomed.0 ≡ chosen = cc (doomed.1, has) in
        ap (λ (z : Stored K V). z.index) (sym one) ∙ went_number (Removed n) e n None refl doomed.0 doomed.2 taken took

    pub removed : (chosen taken : Stored K V) → x.chosen ≡ Some chosen → x.writer.call.taken ≡ Some taken → AreOne chosen taken
        → (k : Bor K) (v : Bor V) → AreOf (k, v) taken → Answers (Ok (computed.Removed k v))
    removed chosen taken has took same k v are =
        let one : doomed.0 ≡ chosen = cc (doomed.1, has) in
        let value = ap (λ (z : Stored K V). z.value) one ∙ same in
        let class = went_class (Removed n) e n None refl doomed.0 doomed.2 taken took value (shown_key doomed.0 operation.Remove doomed.3) in
        answers (Ok (computed.Removed k v)) (
          taken,
          change_is (Removed n) e (Some n) None refl (Some taken) None took
              (none_put (Removed n) e (Some n) None refl refl) class,
          (doomed.0, (went_number (Removed n) e n None refl doomed.0 doomed.2 taken took, value), doomed.3),
          are,
        )

  -- a pair replaced another
  module _ (i n : ℕ) (e : ask_of m ≡ Call (Done (Replaced i n))) where
    abbrev replaced : Holds key r.made heard x (Makes (Some i) n)
    replaced = at_hand (Replaced i n) (Makes (Some i) n) e refl

    pub updated_chosen : x.chosen ≡ None → ⊥
    updated_chosen none = let g = sym replaced.2 ∙ none in cc g

    pub updated_taken : x.writer.call.taken ≡ None → ⊥
    updated_taken none = some_taken (Replaced i n) e (Some i) (Some n) refl i refl none

    pub updated_made : x.made ≡ None → ⊥
    updated_made none = let g = sym replaced.4 ∙ none in cc g

    pub updated_put : x.writer.call.put ≡ None → ⊥
    updated_put none = some_put (Replaced i n) e (Some i) (Some n) refl n refl none

    pub updated_number : (chosen taken : Stored K V) → x.chosen ≡ Some chosen → x.writer.call.taken ≡ Some taken → chosen.index ≡ taken.index
    updated_number chosen taken has took = let one : replaced.0 ≡ chosen = cc (replaced.2, has) in
        ap (λ (z : Stored K V). z.index) (sym one) ∙ went_number (Replaced i n) e i (Some n) refl replaced.0 replaced.3 taken took

    pub made_number : (made put : Stored K V) → x.made ≡ Some made → x.writer.call.put ≡ Some put → made.index ≡ put.index
    made_number made put has puts =
        let one : replaced.1 ≡ made = cc (replaced.4, has) in
        let p = (put_number (Replaced i n) e (Some i) (Some n) refl put puts).0 in
        let number : n ≡ put.index = cc p in
        ap (λ (z : Stored K V). z.index) (sym one) ∙ (replaced.5.number ∙ number)

    pub made_placed : (made : Stored K V) → x.made ≡ Some made → IsPlaced b (Some name) (pair_named (Some made))
    made_placed made has = let one : replaced.1 ≡ made = cc (replaced.4, has) in
        subst (λ (z : Stored K V). IsPlaced b (Some name) (pair_named (Some z))) one (r.writing.calling.made_placed replaced.1 replaced.5.made_is)

    pub updated : (chosen taken made put : Stored K V) → x.chosen ≡ Some chosen → x.writer.call.taken ≡ Some taken → x.made ≡ Some made
        → x.writer.call.put ≡ Some put → AreOne chosen taken → AreOne made put → (before after : Bor K × Bor V) → AreOf before taken → AreOf after put
        → Answers (Ok (computed.Updated before after))
    updated chosen taken made put has took made_is puts same new_same before after are new_are =
        let one : replaced.0 ≡ chosen = cc (replaced.2, has) in
        let value = ap (λ (z : Stored K V). z.value) one ∙ same in
        let new : replaced.1 ≡ made = cc (replaced.4, made_is) in
        let new_value = ap (λ (z : Stored K V). z.value) new ∙ new_same in
        let own = kept (Replaced i n) e (Some i) (Some n) refl taken put took puts in
        let class = went_class (Replaced i n) e i (Some n) refl replaced.0 replaced.3 taken took value
        (shown_key replaced.0 (operation.Insert replaced.1.value.value) replaced.5.said_is) in
        answers (Ok (computed.Updated before after)) (
          taken,
          put,
          change_is (Replaced i n) e (Some i) (Some n) refl (Some taken) (Some put) took puts class,
          own,
          (
            replaced.0,
            (went_number (Replaced i n) e i (Some n) refl replaced.0 replaced.3 taken took, value),
            subst (λ (z : V). Member (Some replaced.0, operation.Insert z) heard) (ap (λ z. z.value) new_value) replaced.5.said_is,
          ),
          are,
          new_are,
        )

  -- its closure aborted it
  pub aborted : (with : ℕ) → ask_of m ≡ Call (Done (Aborted with)) → (t : T) → x.aborted ≡ Some t → Answers (Ok (computed.Aborted t))
  aborted with e t is =
      let a = r.aborts with e in
      let one : a.0 ≡ t = cc (a.1, is) in
      answers (Ok (computed.Aborted t)) (x.shown, subst (λ (z : T). WasLast x.shown (operation.Abort z) heard) one a.2)

  pub aborted_kept : (with : ℕ) → ask_of m ≡ Call (Done (Aborted with)) → x.aborted ≡ None → ⊥
  aborted_kept with e none = let a = r.aborts with e in let g = sym a.1 ∙ none in cc g

  -- it failed
  pub refused : (cause : Cause) → ask_of m ≡ Call (Done (Refused cause)) → Answers (Err cause)
  refused cause e = answers (Err cause) (r.refuses cause e)

  -- it replies nothing else
  replies_no_other : (reply : Reply) → IsNoCompute reply
      → IsReply (Wide eq input build write finish classes respects b (eq key) (input key)
      (own_query eq input build write finish classes respects b name key) (Some key) name begun log)
      (Coded eq input build write finish classes respects b (eq key) (input key) (own_query eq input build write finish classes respects b name key)
      (Some key) name begun) (exchanges_of begun) r.writing.calling.since (Some key) loaded Compute reply → ⊥
  replies_no_other Absent never is = is
  replies_no_other (Found n) never is = is
  replies_no_other (Inserted n) never is = never
  replies_no_other (Replaced old n) never is = never
  replies_no_other (Occupied n) never is = is
  replies_no_other (Removed n) never is = never
  replies_no_other (Kept n) never is = is
  replies_no_other (Aborted t) never is = never
  replies_no_other Reply_done never is = is
  replies_no_other (Refused cause) never is = never

  pub no_other : (reply : Reply) → IsNoCompute reply → ask_of m ≡ Call (Done reply) → ⊥
  no_other reply never e =
      let query = own_query eq input build write finish classes respects b name key in
      let g = Wide eq input build write finish classes respects b (eq key) (input key) query (Some key) name begun log in
      let c = Coded eq input build write finish classes respects b (eq key) (input key) query (Some key) name begun in
      replies_no_other reply never (subst (λ (t : Task). IsReply g c (exchanges_of begun) r.writing.calling.since (Some key) loaded t reply) r.task_is
      (machine_replies g c (exchanges_of begun) r.writing.calling.since (Some key) loaded m.call r.writing.calling.relies.call reply
      (call_asks m (Done reply) e).1).0)

-- a history before the compute began comes before its change, and before the closure's arguments
module _ {K V : Type 0} (eq : K → K → Bool) (key : K) (older old new : List (Change K (Stored K V))) (pre : IsPrefix older old) where
  pub change_since : (taken put : Option (Stored K V)) → IsChangeOf (eq key) old new taken put → IsChangeOf (eq key) older new taken put
  change_since taken put t = record {
    before = t.before;
    change = t.change;
    since = prefix_trans older old t.before pre t.since;
    is = t.is;
    class_is = t.class_is;
    taken_is = t.taken_is;
    put_is = t.put_is;
    kept = t.kept;
  }

module _ {K V T : Type 0} (eq : K → K → Bool) (key : K) (older old new : List (Change K (Stored K V))) (pre : IsPrefix older old) where
  operated_since : (said : List (Option (Stored K V) × Operation V T)) (answer : Result (Computed K V T) Cause)
      → IsOperated eq key old new said answer → IsOperated eq key older new said answer
  operated_since said (Ok (computed.Inserted k v)) h = (h.0, change_since eq key older old new pre None (Some h.0) h.1, h.2, h.3, h.4)
  operated_since said (Ok (computed.Updated before after)) h = (h.0, h.1, change_since eq key older old new pre (Some h.0) (Some h.1) h.2, h.3, h.4, h.5, h.6)
  operated_since said (Ok (computed.Removed k v)) h = (h.0, change_since eq key older old new pre (Some h.0) None h.1, h.2, h.3)
  operated_since said (Ok (computed.Aborted t)) h = h
  operated_since said (Err cause) h = h

  pub replied_since : (heard : List (Option (Stored K V) × Operation V T)) (answer : Result (Computed K V T) Cause)
      → IsReplied eq key old new heard answer → IsReplied eq key older new heard answer
  replied_since heard answer r = record {
    held = all_shown (WasHeld eq (eq key) old new) (WasHeld eq (eq key) older new)
        (λ held h. held_wider eq (eq key) older old new new pre ([], append-nil new) held h) heard r.held;
    none_once = r.none_once;
    operated = operated_since heard answer r.operated;
  }

  -- so its result is that of a closure which was called with these and returned these
  pub computed_by : {F : Type 0} (operates : F → Option (Stored K V) → Operation V T → F → Type 0) (first left : F)
      (heard : List (Option (Stored K V) × Operation V T)) → HasReturned operates first heard left → (answer : Result (Computed K V T) Cause)
      → IsReplied eq key old new heard answer → IsComputeBy eq key older new operates first answer
  computed_by operates first left heard has answer r =
      let s = replied_since heard answer r in
      record { said = heard; left = left; has_said = has; held = s.held; none_once = s.none_once; operated = s.operated }

  pub computed_since : {F : Type 0} (operates : F → Option (Stored K V) → Operation V T → F → Type 0) (first : F) (answer : Result (Computed K V T) Cause)
      → IsComputeBy eq key old new operates first answer → IsComputeBy eq key older new operates first answer
  computed_since operates first answer h = computed_by operates first h.left h.said h.has_said answer
      (record { held = h.held; none_once = h.none_once; operated = h.operated })

-- a compute that begins
pub begins : {K V S T H : Type 0} (eq : K → K → Bool) (hash : S → K → ℕ) (b : Begun K V S) (name : Book) (key : K) (log : List (Event K V S))
    (x : Computing K V S T H) → IsLawfulLog eq hash b log → (initial : ℕ) → x.writer.call.machine ≡ started Compute (hash b.hasher key) b.mode initial 0 b.limit
    → (x.writer.call.table ≡ None) × (x.writer.call.copier.fresh ≡ None) → (x.writer.call.copier.last ≡ None) × (x.writer.call.copier.kept ≡ None)
    × (x.writer.call.taken ≡ None) × (x.writer.call.put ≡ None) → x.writer.key ≡ Some (keys.Own key) → x.writer.value ≡ None → x.shown ≡ None
    → x.fill ≡ None → x.chosen ≡ None → IsComputing eq hash b name key log log x []
begins eq hash b name key log x l initial machine table pairs own value shown fill chosen = record {
  made = [];
  writing = begins_writing eq hash b name key log x.writer l Compute initial machine table pairs own (rw value tt);
  task_is = ap (λ (z : Machine). z.call.task) machine;
  words = rw machine tt;
  puts = rw machine tt;
  shown_placed = rw shown tt;
  fill_placed = rw fill tt;
  chosen_placed = rw chosen tt;
  held = tt;
  none_once = tt;
  none_shown = inl tt;
  stood = λ stands h. absurd (nothing_said (subst (λ (z : Machine). ActsOn z.call stands) machine h));
  newest = λ i n h. absurd (nothing_said (subst (λ (z : Machine). ActsOn z.call (Makes (Some i) n)) machine h));
  of_slot = λ old new e. let g = sym (ap (λ (z : Machine). z.call.remembered.choice) machine) ∙ e in absurd (cc g);
  aborts = λ with e. let g = sym (ap ask_of machine) ∙ e in absurd (cc g);
  refuses = λ cause e. let g = sym (ap ask_of machine) ∙ e in absurd (cc g);
  crowded = λ e. let g = sym (ap ask_of machine) ∙ e in absurd (cc g);
  spent = λ e. let g = sym (ap ask_of machine) ∙ e in absurd (cc g);
}
  where
    nothing_said : {stands : ClosureResult} → ActsOn (started Compute (hash b.hasher key) b.mode initial 0 b.limit).call stands → ⊥
    nothing_said (inl e) = cc e
    nothing_said (inr (inl e)) = cc e
    nothing_said (inr (inr e)) = cc e
