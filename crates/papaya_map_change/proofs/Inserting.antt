-- After each answer an insertion again relies on facts that hold. It makes pairs of its value, with
-- its own key or with one that it met, and puts in no others.
use Rattle.std.proofs.Common.{◌≡◌, ◌⊎◌, inl, inr, ⊎_elim, ℕ, ◌==◌, Bool, true, false, MatchBool}
use Rattle.std.proofs.Common.{Option, None, Some, List, [], ◌∷◌, append-nil, refl, sym, ap, ◌∙◌}
use Rattle.std.proofs.Common.{subst}
use Rattle.std.specs.Cmp.{IsEquivalence}
use mathlib.Core.List.{IsPrefix}
use Rattle.logbook.specs.Pages.{Book}
use Rattle.papaya_words.specs.Word.{pair_of}
use Rattle.papaya_words.specs.declared.refused.Refused.{Refused as Cause}
use Rattle.papaya_words.specs.declared.refused.Refused.TheVariants.{Capacity, Limit}
use Rattle.papaya_call.specs.declared.ask.At.TheVariants.{Slot}
use Rattle.papaya_call.specs.declared.ask.Ask.{Ask}
use Rattle.papaya_call.specs.declared.ask.Ask.TheVariants.{Exchange as Ask_exchange, MakePair, MakePairOf, Done}
use Rattle.papaya_call.specs.declared.ask.Answer.{Answer}
use Rattle.papaya_call.specs.declared.ask.Answer.TheVariants.{Made as Made_number, Refused as Was_refused}
use Rattle.papaya_call.specs.declared.call.Reply.{Reply}
use Rattle.papaya_call.specs.declared.call.Reply.TheVariants.{Refused}
use Rattle.papaya_call.specs.declared.call.Task.{Task}
use Rattle.papaya_call.specs.declared.call.Task.TheVariants.{Insert}
use Rattle.papaya_call.specs.declared.made.Of.{Of}
use Rattle.papaya_call.specs.declared.machine.State.TheVariants.{Writing}
use Rattle.papaya_call.specs.declared.write.Write.{Write}
use Rattle.papaya_call.specs.Write.{made_of}
use Rattle.papaya_call.specs.declared.chain.ask.Answer.TheVariants as answers
use Rattle.papaya_call.specs.declared.chain.ask.Ask.TheVariants.{Call}
use Rattle.papaya_call.specs.declared.chain.machine.Machine.{Machine}
use Rattle.papaya_call.specs.declared.chain.machine.Phase.TheVariants.{Calling}
use Rattle.papaya_call.specs.ChainMachine.{IsValid, after, after_in, ask_of, kind_of_ask, started}
use Rattle.papaya_call_law.proofs.Names.{call_asks}
use Rattle.papaya_call_law.proofs.Replies.{chain_task}
use Rattle.papaya_call_law.specs.Followed.{MayAsk}
use Rattle.papaya_call.specs.Machine.{IsComputer, IsWriter, made_in}
use Rattle.papaya_call.specs.Machine as calls
use Rattle.papaya_words_law.specs.Code.{Coding}
use Rattle.papaya_words_law.specs.Exchange.{Setting}
use Rattle.papaya_call_law.specs.Relies.{IsAtLimit, ReliesStage}
use Rattle.papaya_call_law.specs.Says.{MakesPair}
use Rattle.papaya_call_law.specs.TrueAnswers.{IsOneOf, LoadedPairs}
use Rattle.papaya_call_law.proofs.Followed.{asked_of_task}
use Rattle.papaya_map_book.specs.declared.rule.entry.Begun.{Begun}
use Rattle.papaya_map_book.specs.declared.rule.entry.Event.{Event}
use Rattle.papaya_map_change.specs.declared.insertion.Insertion.{Insertion}
use Rattle.papaya_map_change.specs.declared.writer.Writer.{Writer}
use Rattle.papaya_map_book.specs.Hashes.{hash_of}
use Rattle.papaya_map_lookup.specs.History.{key_of}
use Rattle.papaya_map_change.specs.Inserting.{HasOf, HasOwn, IsInserting, IsInsertingOn}
use Rattle.papaya_map_book.specs.Logs.{Stored, exchanges_of}
use Rattle.papaya_map_book.specs.Plays.{IsPutting}
use Rattle.papaya_map_book.specs.declared.book.pairs.KeyPart.TheVariants as keys
use Rattle.papaya_map_book.specs.declared.book.pairs.ValuePart.TheVariants as values
use Rattle.papaya_map_lookup.specs.Lookups.{coding_for, setting_for}
use Rattle.papaya_map_book.specs.Rule.{IsLawfulLog}
use Rattle.papaya_map_book.specs.Limits.{HasNoRoom, IsSpent, tables_of}
use Rattle.papaya_map_change.specs.Writing.{CanPut, HasKeyAt, IsMemoryCapacityOrLimit, IsWithoutResult, IsWritingOn, MayOverwrite, IsTakenCount, held_value}
use Rattle.papaya_map_lookup.proofs.AskedPairs.{IsServed, asked_served}
use Rattle.papaya_map_lookup.proofs.KeptKeys.{key_at_stays, met_key}
use Rattle.papaya_map_change.proofs.StepsOfOwn.{own_kind, own_order}
use Rattle.papaya_map_change.proofs.MadeStays.{keeps_then, of_made, own_made, pairs_write}
use Rattle.papaya_map_change.proofs.Refusals.{refused_for, shows_none, unsaid_cause, unsaid_room}
use Rattle.papaya_map_change.proofs.Spent.{limit_spent, unsaid_limit}
use Rattle.papaya_map_change.proofs.WritingSteps.{begins as begins_writing}

module _ {K V S H : Type 0} (eq : K → K → Bool) (input : K → List (List ℕ)) (build : S → H) (write : H → List ℕ → H) (finish : H → ℕ)
    (classes : IsEquivalence eq) (respects : (x y : K) → eq x y ≡ true → input x ≡ input y)
    (b : Begun K V S) (name : Book) (key : K) (value : V) where
  abbrev hash : S → K → ℕ
  hash = hash_of input build write finish

  module _ (begun log : List (Event K V S)) (x : Insertion K V S H) (r : IsInserting eq hash b name key value begun log x) where
    abbrev m : Machine
    m = x.writer.call.machine

    -- it has not replied yet
    abbrev pub IsOpen : Type 0
    IsOpen = (reply : Reply) → ask_of m ≡ Call (Done reply) → ⊥

    -- it does not ask for a pair
    abbrev pub IsUnpairing : Answer → Type 0
    IsUnpairing answer = (n : ℕ) → answer ≡ Made_number n → MakesPair (calls.ask_of m.call) → ⊥

    -- the cause of a failure is that of the answer, or the spent limit
    refused : (holds : Cause → Type 0) (answer : Answer) → IsValid m → m.phase ≡ Calling → IsOpen
        → ((cause : Cause) → answer ≡ Was_refused cause → holds cause) → (IsAtLimit m.call answer → holds Limit) → (cause : Cause)
        → ask_of (after m (answers.Call answer)) ≡ Call (Done (Refused cause)) → holds cause
    refused holds answer valid calling open_still told spent = refused_for m calling answer holds
        (λ e. subst IsComputer r.task_is (shows_none m valid e)) open_still told spent

    -- the pair that was made of a key that was met may still be used in its slot
    of_later : (made' : List (Stored K V)) → ((q : Stored K V) → IsOneOf r.made q → IsOneOf made' q) → (log' : List (Event K V S))
        → IsLawfulLog eq hash b log' → IsPrefix log log' → HasOf value made' log' m.call.made.of x.of
    of_later made' more log' l' pre = record {
      there = λ new e. let h = r.of_is.there new e in
          (h.0, h.1, h.2, key_at_stays eq input build write finish classes respects b log log' l' pre new.table new.index (key_of h.0) h.3);
      is = λ q e. let h = r.of_is.is q e in (more q h.0, h.1);
    }

    own_later : (made' : List (Stored K V)) → ((q : Stored K V) → IsOneOf r.made q → IsOneOf made' q) → HasOwn key value made' m.call.made.own x.own
    own_later made' more = record { there = r.own_is.there; is = λ q e. let h = r.own_is.is q e in (more q h.0, h.1, h.2) }

    -- it continues if it makes no pair, and puts in no other value
    kept : (log' : List (Event K V S)) → IsPrefix log log' → (w : Writer K V S H) (answer : Answer) → w.call.machine ≡ m
        → ((v : V) → held_value w.value ≡ Some v → v ≡ value) → ((q : Stored K V) → w.call.put ≡ Some q → q.value.value ≡ value) → IsValid m
        → m.phase ≡ Calling → IsOpen → IsUnpairing answer → IsTakenCount log' (calls.ask_of m.call) answer → IsWithoutResult w.call.copier.given.done answer
        → IsWritingOn eq hash b name key r.made begun log' w answer → IsInsertingOn eq hash b name key value begun log' (record x { writer = w }) (Some answer)
    kept log' pre w answer machine left put valid calling open_still unpairing tells unsaid on =
        let given = w.call.copier.given.done in
        let next : Machine = after w.call.machine (answers.Call answer) in
        let same : next ≡ after m (answers.Call answer) = ap (λ (z : Machine). after z (answers.Call answer)) machine in
        let keeps = keeps_then m calling answer unpairing in
        let own_same : m.call.made.own ≡ next.call.made.own = sym keeps.own ∙ ap (λ (z : Machine). z.call.made.own) (sym same) in
        let of_same : m.call.made.of ≡ next.call.made.of = sym keeps.of ∙ ap (λ (z : Machine). z.call.made.of) (sym same) in
        let l' : IsLawfulLog eq hash b log' = on.0.calling.lawful in (
          record {
            made = r.made;
            writing = on.0;
            task_is = ap (λ (z : Machine). z.call.task) same ∙ ((chain_task m (answers.Call answer) (own_order m calling answer)).0 ∙ r.task_is);
            value_is = left;
            own_is = subst (λ o. HasOwn key value r.made o x.own) own_same (own_later r.made (λ q one. one));
            of_is = subst (λ o. HasOf value r.made log' o x.of) of_same (of_later r.made (λ q one. one) log' l' pre);
            put_is = put;
            refuses = λ cause e. refused IsMemoryCapacityOrLimit answer valid calling open_still
                (λ c h. inl (unsaid_cause given answer unsaid c h)) (λ over. inr refl) cause (ap ask_of (sym same) ∙ e);
            crowded = λ e. refused (λ cause. cause ≡ Capacity → HasNoRoom next.call.initial (tables_of log') given) answer valid calling open_still
                (unsaid_room next.call.initial (tables_of log') given answer unsaid) (λ over f. absurd (cc f)) Capacity (ap ask_of (sym same) ∙ e) refl;
            spent = λ e. refused (λ cause. cause ≡ Limit → IsSpent b.limit log') answer valid calling open_still
                (unsaid_limit (IsSpent b.limit log') given answer unsaid)
                (λ over f. limit_spent eq hash b log' l' m.call answer r.writing.calling.relies.call.made.limit tells over) Limit (ap ask_of (sym same) ∙ e) refl;
          },
          on.1,
        )

    -- so it does after an answer that leaves its value and the pair that it put in
    pub goes_on : (log' : List (Event K V S)) → IsPrefix log log' → (w : Writer K V S H) (answer : Answer) → w.call.machine ≡ m
        → w.value ≡ x.writer.value → w.call.put ≡ x.writer.call.put → IsValid m → m.phase ≡ Calling → IsOpen → IsUnpairing answer
        → IsTakenCount log' (calls.ask_of m.call) answer → IsWithoutResult w.call.copier.given.done answer
        → IsWritingOn eq hash b name key r.made begun log' w answer → IsInsertingOn eq hash b name key value begun log' (record x { writer = w }) (Some answer)
    goes_on log' pre w answer machine left put valid calling open_still unpairing tells unsaid on = kept log' pre w answer machine
        (λ v e. r.value_is v (ap held_value (sym left) ∙ e)) (λ q e. r.put_is q (sym put ∙ e)) valid calling open_still unpairing tells unsaid on

    -- the pair was not stored in the arena
    pub pair_unmade : (w : Writer K V S H) (answer : Answer) → w.call.machine ≡ m → held_value w.value ≡ held_value x.writer.value
        → w.call.put ≡ x.writer.call.put → IsValid m → m.phase ≡ Calling → IsOpen → IsUnpairing answer → IsTakenCount log (calls.ask_of m.call) answer
        → IsWithoutResult w.call.copier.given.done answer
        → IsWritingOn eq hash b name key r.made begun log w answer → IsInsertingOn eq hash b name key value begun log (record x { writer = w }) (Some answer)
    pair_unmade w answer machine left put valid calling open_still unpairing tells unsaid on =
        kept log ([], append-nil log) w answer machine (λ v e. r.value_is v (sym left ∙ e)) (λ q e. r.put_is q (sym put ∙ e)) valid calling
        open_still unpairing tells unsaid on

    -- there was an attempt to put in a pair of its value
    pub pair_tried : (log' : List (Event K V S)) → IsPrefix log log' → (w : Writer K V S H) (answer : Answer) (q : Stored K V) → q.value.value ≡ value
        → w.call.machine ≡ m → w.value ≡ x.writer.value → (w.call.put ≡ x.writer.call.put) ⊎ (w.call.put ≡ Some q) → IsValid m → m.phase ≡ Calling
        → IsOpen → IsUnpairing answer → IsTakenCount log' (calls.ask_of m.call) answer → IsWithoutResult w.call.copier.given.done answer
        → IsWritingOn eq hash b name key r.made begun log' w answer → IsInsertingOn eq hash b name key value begun log' (record x { writer = w }) (Some answer)
    pair_tried log' pre w answer q value_is machine left put valid calling open_still unpairing tells unsaid on =
        kept log' pre w answer machine (λ v e. r.value_is v (ap held_value (sym left) ∙ e))
        (λ p e. ⊎_elim (λ same. r.put_is p (sym same ∙ e))
        (λ is. let both : Some q ≡ Some p = sym is ∙ e in let one : q ≡ p = cc both in ap (λ (z : Stored K V). z.value.value) (sym one) ∙ value_is)
        put) valid calling open_still unpairing tells unsaid on

    abbrev loaded : LoadedPairs (Stored K V)
    loaded = record { last = x.writer.call.copier.last; made = r.made }

    abbrev g : Setting (Option K) (Stored K V)
    g = setting_for eq hash b (eq key) (hash b.hasher key) log

    abbrev c : Coding (Option K) (Stored K V)
    c = coding_for hash b.hasher (hash b.hasher key)

    stage : ReliesStage g c (exchanges_of begun) r.writing.calling.since (Some key) loaded (Insert true) m.call.state
    stage = subst (λ (t : Task). ReliesStage g c (exchanges_of begun) r.writing.calling.since (Some key) loaded t m.call.state) r.task_is
        r.writing.calling.relies.call.stage

    -- it makes a pair for a write
    writes : MakesPair (calls.ask_of m.call) → (write : Write) × (m.call.state ≡ Writing write)
    writes makes = pairs_write g c (exchanges_of begun) r.writing.calling.since (Some key) loaded true m.call.hash m.call.made m.call.state stage makes

    -- the pair was stored in the arena
    module _ (w : Writer K V S H) (q : Stored K V) (n : ℕ) (number : n ≡ q.index) (machine : w.call.machine ≡ m)
        (had : held_value x.writer.value ≡ Some q.value.value) (left : held_value w.value ≡ held_value x.writer.value)
        (put : w.call.put ≡ x.writer.call.put) (valid : IsValid m) (calling : m.phase ≡ Calling)
        (makes : MakesPair (calls.ask_of m.call)) (on : IsWritingOn eq hash b name key (q ∷ r.made) begun log w (Made_number q.index)) where
      abbrev made_now : List (Stored K V)
      made_now = q ∷ r.made

      abbrev next : Machine
      next = after w.call.machine (answers.Call (Made_number n))

      same : next ≡ after m (answers.Call (Made_number n))
      same = ap (λ (z : Machine). after z (answers.Call (Made_number n))) machine

      open_still : IsOpen
      open_still reply h = subst MakesPair (call_asks m (Done reply) h).1 makes

      value_so : q.value.value ≡ value
      value_so = r.value_is q.value.value had

      -- the pairs that the machine has then made, which writes here
      made_so : (to : Write) → m.call.state ≡ Writing to → next.call.made ≡ made_in m.call.made n (Writing to)
      made_so to is = ap (λ (z : Machine). z.call.made) same
          ∙ (ap (λ p. (after_in m (answers.Call (Made_number n)) p).call.made) calling ∙ ap (made_in m.call.made n) is)

      more : (p : Stored K V) → IsOneOf r.made p → IsOneOf made_now p
      more p one = inr one

      made_on : (own of : Option (Stored K V)) → HasOwn key value made_now next.call.made.own own → HasOf value made_now log next.call.made.of of
          → IsInsertingOn eq hash b name key value begun log (record x { writer = w; own = own; of = of }) (Some (Made_number n))
      made_on own of own_is of_is =
          let going = subst (λ (i : ℕ). IsWritingOn eq hash b name key made_now begun log w (Made_number i)) (sym number) on in
          let none : (holds : Cause → Type 0) → (cause : Cause) → Made_number n ≡ Was_refused cause → holds cause = λ holds cause h. absurd (cc h) in (
            record {
              made = made_now;
              writing = going.0;
              task_is = ap (λ (z : Machine). z.call.task) same
                  ∙ ((chain_task m (answers.Call (Made_number n)) (own_order m calling (Made_number n))).0 ∙ r.task_is);
              value_is = λ v e. r.value_is v (sym left ∙ e);
              own_is = own_is;
              of_is = of_is;
              put_is = λ p e. r.put_is p (sym put ∙ e);
              refuses = λ cause e. refused IsMemoryCapacityOrLimit (Made_number n) valid calling open_still (none IsMemoryCapacityOrLimit)
                  (λ over. inr refl) cause (ap ask_of (sym same) ∙ e);
              crowded = λ e. refused (λ cause. cause ≡ Capacity → HasNoRoom next.call.initial (tables_of log) w.call.copier.given.done) (Made_number n)
                  valid calling open_still (none (λ cause. cause ≡ Capacity → HasNoRoom next.call.initial (tables_of log) w.call.copier.given.done))
                  (λ over f. absurd (cc f)) Capacity (ap ask_of (sym same) ∙ e) refl;
              spent = λ e. refused (λ cause. IsSpent b.limit log) (Made_number n) valid calling open_still (none (λ cause. IsSpent b.limit log))
                  (λ over. absurd (⊎_elim (λ s. cc s) (λ s. cc s) over.5)) Limit (ap ask_of (sym same) ∙ e);
            },
            going.1,
          )

      -- for its own key
      pub pair_made : ask_of m ≡ Call MakePair → key_of q ≡ key
          → IsInsertingOn eq hash b name key value begun log (record x { writer = w; own = Some q }) (Some (Made_number n))
      pair_made asks key_is =
          let to = writes makes in
          let asked = ap (calls.asks m.call.made m.call.hash) (sym to.1) ∙ (call_asks m MakePair asks).1 in
          let grown = own_made m.call.hash m.call.made to.0 n asked in
          let is = made_so to.0 to.1 in
          made_on (Some q) x.of
          (record {
            there = λ i e. let both : Some n ≡ Some i = sym (ap (λ z. z.own) is ∙ grown.0) ∙ e in let one : n ≡ i = cc both in (q, refl, sym number ∙ one);
            is = λ p e. let one : q ≡ p = cc e in subst (λ (z : Stored K V). IsOneOf made_now z × (key_of z ≡ key) × (z.value.value ≡ value)) one
                (inl refl, key_is, value_so);
          })
          (subst (λ o. HasOf value made_now log o x.of) (sym (ap (λ z. z.of) is ∙ grown.1))
          (of_later made_now more log r.writing.calling.lawful ([], append-nil log)))

      -- for the key that it met
      pub pair_of_made : (i : ℕ) → ask_of m ≡ Call (MakePairOf i) → ((p : Stored K V) → x.writer.call.copier.last ≡ Some p → key_of q ≡ key_of p)
          → IsInsertingOn eq hash b name key value begun log (record x { writer = w; of = Some q }) (Some (Made_number n))
      pair_of_made i asks key_is =
          let to = writes makes in
          let asked = ap (calls.asks m.call.made m.call.hash) (sym to.1) ∙ (call_asks m (MakePairOf i) asks).1 in
          let grown = of_made m.call.hash m.call.made to.0 n i asked in
          let is = made_so to.0 to.1 in
          let met = met_there to.0 to.1 grown.2 in
          made_on x.own (Some q)
          (subst (λ o. HasOwn key value made_now o x.own) (sym (ap (λ z. z.own) is ∙ grown.0)) (own_later made_now more))
          (record {
            there = λ new e.
                let both : Some (made_of to.0 n) ≡ Some new = sym (ap (λ z. z.of) is ∙ grown.1) ∙ e in let one : made_of to.0 n ≡ new = cc both in (
                  q,
                  refl,
                  sym number ∙ ap (λ z. z.pair) one,
                  subst (λ (z : Of). HasKeyAt log z.table z.index (key_of q)) one
                      (subst (HasKeyAt log to.0.place.table to.0.place.probe.i) (sym (key_is met.0 met.1)) met.2),
                );
            is = λ p e. let one : q ≡ p = cc e in subst (λ (z : Stored K V). IsOneOf made_now z × (z.value.value ≡ value)) one (inl refl, value_so);
          })
        where
          -- the pair that it met last is the one that the write is to replace
          met_there : (to : Write) → m.call.state ≡ Writing to → (to.old == 0) ≡ false → (p : Stored K V) × (x.writer.call.copier.last ≡ Some p)
              × HasKeyAt log to.place.table to.place.probe.i (key_of p)
          met_there to is full =
              let at = subst (ReliesStage g c (exchanges_of begun) r.writing.calling.since (Some key) loaded (Insert true)) is stage in
              ⊎_elim
              (λ none. absurd (let f = sym full ∙ ap (λ (z : ℕ). z == 0) none in cc f))
              (λ o. (
                o.1.pair,
                o.1.last,
                met_key eq hash b (eq key) (hash b.hasher key) (exchanges_of begun) r.writing.calling.since (Some key) log
                    r.writing.calling.is to.place to.old o.1.pair o.1.met,
              ))
              at.old

module _ {K V S H : Type 0} (eq : K → K → Bool) (hash : S → K → ℕ) (b : Begun K V S) (name : Book) (key : K) (value : V) where
  -- an insertion that begins
  pub begins : (log : List (Event K V S)) (x : Insertion K V S H) → IsLawfulLog eq hash b log → (initial : ℕ)
      → x.writer.call.machine ≡ started (Insert true) (hash b.hasher key) b.mode initial 0 b.limit → (x.writer.call.table ≡ None) × (x.writer.call.copier.fresh ≡ None)
      → (x.writer.call.copier.last ≡ None) × (x.writer.call.copier.kept ≡ None) × (x.writer.call.taken ≡ None) × (x.writer.call.put ≡ None) → x.own ≡ None
      → x.of ≡ None → x.writer.key ≡ Some (keys.Own key) → x.writer.value ≡ Some (values.Own value) → IsInserting eq hash b name key value log log x
  begins log x l initial machine table pairs own of handed left = record {
    made = [];
    writing = begins_writing eq hash b name key log x.writer l (Insert true) initial machine table pairs handed (rw left tt);
    task_is = ap (λ (z : Machine). z.call.task) machine;
    value_is = λ v e. let f = sym (ap held_value left) ∙ e in sym (cc f);
    own_is = record {
      there = λ n e. let f = sym (ap (λ (z : Machine). z.call.made.own) machine) ∙ e in
          absurd (cc f);
      is = λ q e. let f = sym own ∙ e in absurd (cc f);
    };
    of_is = record {
      there = λ new e. let f = sym (ap (λ (z : Machine). z.call.made.of) machine) ∙ e in
          absurd (cc f);
      is = λ q e. let f = sym of ∙ e in absurd (cc f);
    };
    put_is = λ q e. let f = sym pairs.3 ∙ e in absurd (cc f);
    refuses = λ cause e. let f = sym (ap ask_of machine) ∙ e in absurd (cc f);
    crowded = λ e. let f = sym (ap ask_of machine) ∙ e in absurd (cc f);
    spent = λ e. let f = sym (ap ask_of machine) ∙ e in absurd (cc f);
  }

module _ {K V S H : Type 0} (eq : K → K → Bool) (hash : S → K → ℕ) (b : Begun K V S) (name : Book) (key : K) (value : V)
    (begun log : List (Event K V S)) (x : Insertion K V S H) where
  module _ (r : IsInserting eq hash b name key value begun log x) (valid : IsValid x.writer.call.machine) (t i old new : ℕ)
      (asks : ask_of x.writer.call.machine ≡ Call (Ask_exchange (Slot t i) old new)) where
    abbrev m' : Machine
    m' = x.writer.call.machine

    abbrev own : (m'.phase ≡ Calling) × (calls.ask_of m'.call ≡ Ask_exchange (Slot t i) old new)
    own = call_asks m' (Ask_exchange (Slot t i) old new) asks

    -- an insertion's exchange of a slot puts a pair in
    own_put : IsPutting (calls.kind_of_ask m'.call)
    own_put =
        ⊎_elim (λ h. h.1) (λ h. absurd h.0)
        (subst (λ (a : Ask). MayAsk (Insert true) (calls.kind_of_ask m'.call) a) own.1
        (subst (λ (z : Task). MayAsk z (calls.kind_of_ask m'.call) (calls.ask_of m'.call)) r.task_is (asked_of_task m'.call valid.call)))

    pub put_kind : IsPutting (kind_of_ask m')
    put_kind = subst IsPutting (sym (own_kind m' own.0)) own_put

    -- it may be put there, has the number that is written, and is one of those that were made
    pub record Puts (q : Stored K V) : Type 0 where
      pub one : IsOneOf r.made q
      pub stands : MayOverwrite log key t i old q
      pub number : pair_of new ≡ q.index
      pub value_is : q.value.value ≡ value

    -- the machine has made the pair that is put there
    served : IsServed m'.call.made t i old (pair_of new)
    served = asked_served m'.call valid.call.state (subst IsWriter (sym r.task_is) tt) t i old new own.1

    -- if the slot is empty it is the one of its own key
    pub puts_own : (old == 0) ≡ true → (q : Stored K V) × (x.own ≡ Some q) × Puts q
    puts_own empty =
        let n = subst (λ (z : Bool). MatchBool z (m'.call.made.own ≡ Some (pair_of new))
        ((of : Of) × (m'.call.made.of ≡ Some of) × (of.pair ≡ pair_of new) × (of.table ≡ t) × (of.index ≡ i))) empty served in
        let h = r.own_is.there (pair_of new) n in
        let it = r.own_is.is h.0 h.1 in (
          h.0,
          h.1,
          record {
            one = it.0;
            stands = subst (λ (z : Bool). MatchBool z (key_of h.0 ≡ key) (HasKeyAt log t i (key_of h.0))) (sym empty)
                it.1;
            number = sym h.2;
            value_is = it.2;
          },
        )

    -- and else the one of the key that is there
    pub puts_of : (old == 0) ≡ false → (q : Stored K V) × (x.of ≡ Some q) × Puts q
    puts_of full =
        let n = subst (λ (z : Bool). MatchBool z (m'.call.made.own ≡ Some (pair_of new))
        ((of : Of) × (m'.call.made.of ≡ Some of) × (of.pair ≡ pair_of new) × (of.table ≡ t) × (of.index ≡ i))) full served in
        let h = r.of_is.there n.0 n.1 in
        let it = r.of_is.is h.0 h.1 in
        let here = subst (λ (z : ℕ). HasKeyAt log t z (key_of h.0)) n.4 (subst (λ (z : ℕ). HasKeyAt log z n.0.index (key_of h.0)) n.3 h.3) in (
          h.0,
          h.1,
          record {
            one = it.0;
            stands = subst (λ (z : Bool). MatchBool z (key_of h.0 ≡ key) (HasKeyAt log t i (key_of h.0))) (sym full) here;
            number = sym n.2 ∙ sym h.2;
            value_is = it.1;
          },
        )

    -- so it may be tried to be put in
    pub put_can : (q : Stored K V) → Puts q → CanPut eq hash b name log x.writer t i old q
    put_can q p = (key, r.made, begun, r.writing, p.one, p.stands)
