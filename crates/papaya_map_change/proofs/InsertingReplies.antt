-- The pair that an insertion has put in when it replies.
use Rattle.std.proofs.Common.{◌≡◌, ℕ, Bool, true, MatchOption, is_some, Option, None, Some, List, [], ◌∷◌, ◌++◌, append-nil, refl, sym, ap, ◌∙◌, subst}
use Rattle.std.specs.Cmp.{IsEquivalence}
use mathlib.Core.List.{IsPrefix}
use denote.Bor.{Bor}
use Rattle.logbook.specs.Pages.{Book}
use Rattle.papaya_call.specs.declared.ask.Ask.TheVariants.{Done}
use Rattle.papaya_call.specs.declared.call.Reply.{Reply}
use Rattle.papaya_call.specs.declared.call.Reply.TheVariants.{Absent, Found, Inserted, Replaced, Occupied, Removed, Kept, Aborted, Done as Reply_done, Refused}
use Rattle.papaya_call.specs.declared.call.Task.{Task}
use Rattle.papaya_call.specs.declared.call.Task.TheVariants.{Insert}
use Rattle.papaya_call.specs.declared.chain.ask.Ask.TheVariants.{Call}
use Rattle.papaya_call.specs.ChainMachine.{ask_of}
use Rattle.papaya_call_law.proofs.Names.{call_asks}
use Rattle.papaya_call_law.specs.TrueAnswers.{LoadedPairs}
use Rattle.papaya_call_law.specs.Relies.{IsReply, change_in, change_of_reply}
use Rattle.papaya_call_law.proofs.ReliesHeld.{machine_replies}
use Rattle.papaya_map_book.specs.declared.rule.entry.Begun.{Begun}
use Rattle.papaya_map_book.specs.declared.rule.entry.Event.{Event}
use Rattle.papaya_map_change.specs.declared.insertion.Insertion.{Insertion}
use Rattle.papaya_map_change.specs.Changes.{IsPut, key_kept}
use Rattle.papaya_map_change.specs.Changing.{HasItsKey}
use Rattle.papaya_map_change.specs.Doing.{has_changed}
use Rattle.papaya_map_book.specs.Hashes.{hash_of}
use Rattle.papaya_map_lookup.specs.History.{Change, changes_of, history_of, key_of}
use Rattle.papaya_map_change.specs.Inserting.{IsInserting}
use Rattle.papaya_map_book.specs.Logs.{Stored, exchanges_of}
use Rattle.papaya_map_change.proofs.Changing.{Coded, Wide}
use Rattle.papaya_map_lookup.proofs.Histories.{changes-append, history_since}
use Rattle.papaya_map_change.proofs.Written.{own_query}
use Rattle.papaya_map_book.proofs.Logs.{prefix_trans}
use Rattle.papaya_map_lookup.proofs.Readings.{IsQuery}

-- the key of a pair that comes
pub its_key : {K V : Type 0} (key : K) (taken : Option (Stored K V)) (q : Stored K V)
    → MatchOption taken (Some (key_of q) ≡ Some key) (λ p. key_of q ≡ key_of p) → key_of q ≡ key_kept taken key
its_key key None q is = cc is
its_key key (Some p) q is = is

module _ {K V S H : Type 0} (eq : K → K → Bool) (input : K → List (List ℕ)) (build : S → H) (write : H → List ℕ → H) (finish : H → ℕ)
    (classes : IsEquivalence eq) (respects : (x y : K) → eq x y ≡ true → input x ≡ input y)
    (b : Begun K V S) (name : Book) (key : K) (value : V) (begun : List (Event K V S)) where
  abbrev hash : S → K → ℕ
  hash = hash_of input build write finish

  abbrev Ins : List (Event K V S) → Insertion K V S H → Type 0
  Ins log x = IsInserting eq hash b name key value begun log x

  abbrev query : IsQuery eq input (eq key) (input key)
  query = own_query eq input build write finish classes respects b name key

  -- keys that are equal to a key equal to the call's are equal to the call's
  its_class : (class other : K) → eq class other ≡ true → eq key other ≡ true → eq class key ≡ true
  its_class class other of_class same = classes.congr class other key of_class ∙ (classes.symm other key ∙ same)

  module _ (log : List (Event K V S)) (x : Insertion K V S H) (r : Ins log x) where
    abbrev loaded : LoadedPairs (Stored K V)
    loaded = record { last = x.writer.call.copier.last; made = r.made }

    -- a change that puts in a number puts in a pair
    some_put : (class : K) (change : Option ℕ × Option ℕ) (n : ℕ) → change.1 ≡ Some n → (put : Option (Stored K V))
        → MatchOption put (change.1 ≡ None) (λ q. (change.1 ≡ Some q.index) × (eq class (key_of q) ≡ true)
        × HasItsKey eq (Some key) x.writer.call.taken q) → (q : Stored K V) × (put ≡ Some q) × (eq class (key_of q) ≡ true)
        × HasItsKey eq (Some key) x.writer.call.taken q
    some_put class change n puts None is = let none : Some n ≡ None = sym puts ∙ is in absurd (cc none)
    some_put class change n puts (Some q) is = (q, refl, is.1, is.2)

    -- its change, with the value of the pair that was taken out
    put_changed : (change : Option ℕ × Option ℕ) (n : ℕ) → change.1 ≡ Some n → change_in x.writer.call.machine.call.state ≡ Some change
        → (answer : Option (Bor V)) → MatchOption answer (x.writer.call.taken ≡ None)
        (λ v. (p : Stored K V) × (x.writer.call.taken ≡ Some p) × (v.now ≡ p.value.value)) → IsPut eq key value (history_of begun) (history_of log) answer
    put_changed change n puts e answer taken =
        let h = r.writing.calling.changed change e in
        let q = some_put h.class change n puts x.writer.call.put h.put_is in
        let is : history_of log ≡ history_of h.before ++ record { class = h.class; taken = x.writer.call.taken; put = x.writer.call.put } ∷ [] =
        ap (changes_of key_of) h.is ∙ (changes-append key_of (exchanges_of h.before) (h.by ∷ [])
        ∙ ap (λ (cs : List (Change K (Stored K V))). history_of h.before ++ cs) (Rattle.std.proofs.lemmas.List.append-nil _ ∙ h.change_is)) in record {
          before = history_of h.before;
          change = record { class = h.class; taken = x.writer.call.taken; put = x.writer.call.put };
          since = history_since begun h.before h.since;
          is = is;
          class_is = its_class h.class (key_of q.0) q.2 q.3.same;
          put_is = (q.0, q.1, its_key key x.writer.call.taken q.0 q.3.is, r.put_is q.0 q.1);
          taken_is = taken;
        }

    -- a reply other than a failure is a change
    put_reply : (reply : Reply) → IsReply (Wide eq input build write finish classes respects b (eq key) (input key) query (Some key) name begun log)
        (Coded eq input build write finish classes respects b (eq key) (input key) query (Some key) name begun) (exchanges_of begun)
        r.writing.calling.since (Some key) loaded (Insert true) reply
        → ((refused : _) → reply ≡ Refused refused → ⊥) → (change : Option ℕ × Option ℕ) × (n : ℕ) × (change.1 ≡ Some n) × (change_of_reply reply ≡ Some change)
    put_reply Absent fits some = absurd fits
    put_reply (Found n) fits some = absurd fits
    put_reply (Inserted n) fits some = ((None, Some n), n, refl, refl)
    put_reply (Replaced i n) fits some = ((Some i, Some n), n, refl, refl)
    put_reply (Occupied n) fits some = absurd fits
    put_reply (Removed n) fits some = absurd fits
    put_reply (Kept n) fits some = absurd fits
    put_reply (Aborted t) fits some = absurd fits
    put_reply Reply_done fits some = absurd fits
    put_reply (Refused refused) fits some = absurd (some refused refl)

    pub put_replied : (reply : Reply) → ask_of x.writer.call.machine ≡ Call (Done reply) → ((refused : _) → reply ≡ Refused refused → ⊥)
        → (answer : Option (Bor V)) → MatchOption answer (x.writer.call.taken ≡ None)
        (λ v. (p : Stored K V) × (x.writer.call.taken ≡ Some p) × (v.now ≡ p.value.value)) → IsPut eq key value (history_of begun) (history_of log) answer
    put_replied reply asks some answer taken =
        let g = Wide eq input build write finish classes respects b (eq key) (input key) query (Some key) name begun log in
        let c = Coded eq input build write finish classes respects b (eq key) (input key) query (Some key) name begun in
        let all = machine_replies g c (exchanges_of begun) r.writing.calling.since (Some key) loaded x.writer.call.machine.call
        r.writing.calling.relies.call reply (call_asks x.writer.call.machine (Done reply) asks).1 in
        let fits = subst (λ (z : Task). IsReply g c (exchanges_of begun) r.writing.calling.since (Some key) loaded z reply) r.task_is all.0 in
        let done = put_reply reply fits some in
        put_changed done.0 done.1 done.2 (all.1 ∙ done.3) answer taken

    -- and has changed the map
    pub has_put : (reply : Reply) → ask_of x.writer.call.machine ≡ Call (Done reply) → ((refused : _) → reply ≡ Refused refused → ⊥)
        → has_changed x.writer.call.machine ≡ true
    has_put reply asks some =
        let g = Wide eq input build write finish classes respects b (eq key) (input key) query (Some key) name begun log in
        let c = Coded eq input build write finish classes respects b (eq key) (input key) query (Some key) name begun in
        let all = machine_replies g c (exchanges_of begun) r.writing.calling.since (Some key) loaded x.writer.call.machine.call
        r.writing.calling.relies.call reply (call_asks x.writer.call.machine (Done reply) asks).1 in
        let fits = subst (λ (z : Task). IsReply g c (exchanges_of begun) r.writing.calling.since (Some key) loaded z reply) r.task_is all.0 in
        ap is_some (all.1 ∙ (put_reply reply fits some).3)

    -- it took out this pair
    pub replaced : (reply : Reply) → ask_of x.writer.call.machine ≡ Call (Done reply) → ((refused : _) → reply ≡ Refused refused → ⊥)
        → (lent : Bor V) (p : Stored K V) → x.writer.call.taken ≡ Some p → lent.now ≡ p.value.value
        → IsPut eq key value (history_of begun) (history_of log) (Some lent)
    replaced reply asks some lent p is now = put_replied reply asks some (Some lent) (p, is, now)

    -- or none
    pub inserted : (reply : Reply) → ask_of x.writer.call.machine ≡ Call (Done reply) → ((refused : _) → reply ≡ Refused refused → ⊥)
        → x.writer.call.taken ≡ None → IsPut {V = V} eq key value (history_of begun) (history_of log) None
    inserted reply asks some is = put_replied reply asks some None is

-- a history before the call began comes before its change
pub put_since : {K V S : Type 0} (eq : K → K → Bool) (key : K) (value : V) (old begun log : List (Event K V S)) (answer : Option (Bor V))
    → IsPrefix old begun → IsPut eq key value (history_of begun) (history_of log) answer → IsPut eq key value (history_of old) (history_of log) answer
put_since eq key value old begun log answer pre p = record {
  before = p.before;
  change = p.change;
  since = prefix_trans (history_of old) (history_of begun) p.before (history_since old begun pre) p.since;
  is = p.is;
  class_is = p.class_is;
  put_is = p.put_is;
  taken_is = p.taken_is;
}
