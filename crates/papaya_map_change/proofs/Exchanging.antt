-- After an exchange that a changing call asked for, the call again relies on facts that hold, and
-- its change ends the log.
use Rattle.std.proofs.Common.{◌≡◌, ℕ, ◌==◌, Bool, true, false, MatchBool, MatchOption, Option, None, Some, List, [], ◌∷◌, ◌++◌, refl, sym, ap, ◌∙◌, subst}
use Rattle.std.proofs.lemmas.Bool.{eqb-true}
use Rattle.std.specs.Cmp.{IsEquivalence}
use mathlib.Core.List.{IsPrefix}
use denote.Bor.{Bor}
use Rattle.logbook.specs.Pages.{Book}
use Rattle.logbook.specs.declared.tokens.Pen.{Pen}
use Rattle.boxcar.specs.Table.{Where}
use Rattle.papaya_words.specs.Word.{pair_of}
use Rattle.papaya_call.specs.declared.ask.At.{At}
use Rattle.papaya_call.specs.declared.ask.At.TheVariants.{Slot}
use Rattle.papaya_call.specs.declared.ask.Ask.TheVariants.{Exchange as Ask_exchange}
use Rattle.papaya_call.specs.declared.ask.Answer.TheVariants.{Exchanged, Found as Found_instead}
use Rattle.papaya_call.specs.declared.ask.StepKind.{StepKind}
use Rattle.papaya_call.specs.declared.ask.StepKind.TheVariants as kinds
use Rattle.papaya_call.specs.declared.chain.ask.Answer.TheVariants as answers
use Rattle.papaya_call.specs.declared.chain.ask.Ask.TheVariants.{Call}
use Rattle.papaya_call.specs.declared.chain.machine.Machine.{Machine}
use Rattle.papaya_call.specs.ChainMachine.{after, ask_of, kind_of_ask}
use Rattle.papaya_call_law.proofs.Names.{call_asks}
use Rattle.papaya_words_law.specs.Allows.{AllAllowed, Allows}
use Rattle.papaya_words_law.specs.Code.{Coding, code}
use Rattle.papaya_words_law.specs.Exchange.{Exchange, Setting, Word, Live, Bury, start}
use Rattle.papaya_words_law.specs.Further.{same_with}
use Rattle.papaya_words_law.specs.Invariant.{named}
use Rattle.papaya_call_law.specs.Relies.{change_of_kind}
use Rattle.papaya_call_law.specs.TrueAnswers.{IsAsked, IsOneOf, IsTrueOf, LoadedPairs, or_last, told_of, word_of}
use Rattle.papaya_words_law.proofs.Codes.{code_pair}
use Rattle.papaya_words_law.proofs.Moments.{allowed_rest}
use Rattle.papaya_map_book.specs.Sheets.{Sheet}
use Rattle.papaya_map_book.specs.declared.rule.entry.Begun.{Begun}
use Rattle.papaya_map_book.specs.declared.rule.entry.Event.{Event}
use Rattle.papaya_map_book.specs.declared.rule.entry.Event.TheVariants.{Stepped}
use Rattle.papaya_map_book.specs.declared.rule.entry.Named.TheVariants as names
use Rattle.papaya_map_book.specs.declared.rule.entry.Step.{Step}
use Rattle.papaya_map_book.specs.declared.rule.entry.Step.TheVariants as steps
use Rattle.papaya_map_book.specs.Calls.{IsSlotTried}
use Rattle.papaya_map_change.specs.Changing.{HasChanged, HasItsKey, IsOfCall}
use Rattle.papaya_map_book.specs.Hashes.{hash_of}
use Rattle.papaya_map_lookup.specs.History.{change_of, key_of}
use Rattle.papaya_map_book.specs.Logs.{Stored, coding_of, comes, exchange_of, exchanges_of, pair_named, setting_of, state_of}
use Rattle.papaya_map_book.specs.Plays.{IsCallAsked, IsMeant, loaded_of}
use Rattle.papaya_map_book.specs.Rule.{IsLawfulLog, word_in}
use Rattle.papaya_map_change.proofs.Changing.{Calling, Coded, Wide, answered, barren, call_loaded, held_later, placed_last, quiet}
use Rattle.papaya_map_change.proofs.StepsOfOwn.{asked_by_call, own_kind_is}
use Rattle.papaya_map_lookup.proofs.Driving.{asked_by_made, one_made, word_wide}
use Rattle.papaya_map_book.proofs.Logs.{exchanges_of-append, prefix_trans}
use Rattle.papaya_map_lookup.proofs.Readings.{IsQuery}
use Rattle.papaya_map_book.proofs.Settings.{is_hashed}

-- nothing comes with a deletion
nothing_comes : {K V : Type 0} (e : Step K V) (t x : ℕ) (p : Stored K V) → exchange_of e ≡ Bury t x p → comes e ≡ names.Nothing
nothing_comes (steps.Open w) t x p is = absurd (cc is)
nothing_comes (steps.Claim u y q) t x p is = absurd (cc is)
nothing_comes (steps.Replace u y q r) t x p is = absurd (cc is)
nothing_comes (steps.Bury u y q) t x p is = refl
nothing_comes (steps.Link u w) t x p is = absurd (cc is)
nothing_comes (steps.Mark u y q) t x p is = refl
nothing_comes (steps.Close u y) t x p is = refl
nothing_comes (steps.Place u y q) t x p is = refl
nothing_comes (steps.Finish u y q) t x p is = refl
nothing_comes (steps.Advance u y) t x p is = refl
nothing_comes (steps.Promote u n) t x p is = refl
nothing_comes (steps.Abort u) t x p is = refl
nothing_comes (steps.Take n) t x p is = refl

-- a pair that was passed in comes
none_handed : {K V : Type 0} (put : Option (Stored K V)) → pair_named put ≡ names.Nothing → put ≡ None
none_handed None is = refl
none_handed (Some q) is = absurd (cc is)

module _ {K V S H : Type 0} (eq : K → K → Bool) (input : K → List (List ℕ)) (build : S → H) (write : H → List ℕ → H) (finish : H → ℕ)
    (classes : IsEquivalence eq) (respects : (x y : K) → eq x y ≡ true → input x ≡ input y)
    (b : Begun K V S) where
  abbrev hash : S → K → ℕ
  hash = hash_of input build write finish

  abbrev plain : List (Event K V S) → Setting K (Stored K V)
  plain log = setting_of eq (hash b.hasher) b.mode b.limit log

  abbrev c : Coding K (Stored K V)
  c = coding_of (hash b.hasher)

  module _ (k : Option K) (begun before log : List (Event K V S)) (since : IsPrefix begun before) (l : IsLawfulLog eq hash b before)
      (l' : IsLawfulLog eq hash b log) (by : Step K V) (grown : exchanges_of log ≡ exchanges_of before ++ exchange_of by ∷ [])
      (t x old new : ℕ) (stood : word_in eq hash b before (Slot t x) ≡ old) (put pair : Option (Stored K V)) (handed : comes by ≡ pair_named put)
      (names : named ((state_of before).slot t x) ≡ pair) where
    abbrev e : Exchange (Stored K V)
    e = exchange_of by

    -- the last exchange of a lawful log was allowed
    allowed : Allows (plain log) (state_of before) e
    allowed = (allowed_rest (plain log) (exchanges_of before) (e ∷ []) start (subst (AllAllowed (plain log) start) grown l'.allowed)).0

    -- the number of the pair that was there
    numbered : (w : Word (Stored K V)) → (state_of before).slot t x ≡ w → (p : Stored K V) → named w ≡ Some p → pair_of old ≡ p.index
    numbered w is p has =
        let coding = (is_hashed eq input build write finish classes respects b before l).coding in
        let there : code (plain before) c w ≡ old = ap (code (plain before) c) (sym is) ∙ stood in
        ap pair_of (sym there) ∙ (code_pair (plain before) c coding w p has)

    taken_of : (change : Option ℕ × Option ℕ) (class : K) (p : Stored K V) → pair ≡ Some p → change.0 ≡ Some p.index → class ≡ key_of p
        → MatchOption pair (change.0 ≡ None) (λ p. (change.0 ≡ Some p.index) × (class ≡ key_of p))
    taken_of change class p is number of = subst (λ (o : Option (Stored K V)).
        MatchOption o (change.0 ≡ None) (λ p. (change.0 ≡ Some p.index) × (class ≡ key_of p))) (sym is) (number, of)

    none_taken : (change : Option ℕ × Option ℕ) (class : K) → pair ≡ None → change.0 ≡ None
        → MatchOption pair (change.0 ≡ None) (λ p. (change.0 ≡ Some p.index) × (class ≡ key_of p))
    none_taken change class is none = subst (λ (o : Option (Stored K V)).
        MatchOption o (change.0 ≡ None) (λ p. (change.0 ≡ Some p.index) × (class ≡ key_of p))) (sym is) none

    abbrev IsPutAs : (change : Option ℕ × Option ℕ) (class : K) → Option (Stored K V) → Type 0
    IsPutAs change class o = MatchOption o (change.1 ≡ None) (λ q. (change.1 ≡ Some q.index) × (eq class (key_of q) ≡ true) × HasItsKey eq k pair q)

    put_of : (change : Option ℕ × Option ℕ) (class : K) (q : Stored K V) → put ≡ Some q → change.1 ≡ Some q.index → eq class (key_of q) ≡ true
        → HasItsKey eq k pair q → IsPutAs change class put
    put_of change class q is number of key = subst (IsPutAs change class) (sym is) (number, of, key)

    none_put : (change : Option ℕ × Option ℕ) (class : K) → put ≡ None → change.1 ≡ None → IsPutAs change class put
    none_put change class is none = subst (IsPutAs change class) (sym is) none

    -- an exchange that was asked for as a change of this kind is one, and puts in the pair that was
    -- passed in
    pub changes : (kind : Option StepKind) → IsCallAsked kind (Slot t x) new (state_of before) (loaded_of put) e
        → (kind ≡ Some kinds.Claim → (q : Stored K V) → put ≡ Some q → Some (key_of q) ≡ k)
        → ((q : Stored K V) → put ≡ Some q → IsOfCall eq k (key_of q)) → (change : Option ℕ × Option ℕ) → change_of_kind kind old new ≡ Some change
        → HasChanged eq k begun log pair put change
    changes (Some kinds.Claim) (q, own, is) claims class change said =
        let has : put ≡ Some q = one_made put q own.made in
        let may = subst (Allows (plain log) (state_of before)) is allowed in
        let none : pair ≡ None = sym names ∙ ap named may.empty in
        let two : (None, Some (pair_of new)) ≡ change = cc said in record {
          before = before;
          since = since;
          by = e;
          is = grown;
          class = key_of q;
          change_is = subst (λ (z : Exchange (Stored K V)). change_of key_of z ≡ record { class = key_of q; taken = pair; put = put } ∷ []) (sym is)
              (λ i. record { class = key_of q; taken = sym none i; put = sym has i } ∷ []);
          taken_is = none_taken change (key_of q) none (sym (ap (λ (z : Option ℕ × Option ℕ). z.0) two));
          put_is = put_of change (key_of q) q has (sym (ap (λ (z : Option ℕ × Option ℕ). z.1) two) ∙ ap (λ n. Some n) (sym own.named))
              (classes.refl (key_of q)) (record {
                is =
                    subst (λ (o : Option (Stored K V)). MatchOption o (Some (key_of q) ≡ k) (λ p. key_of q ≡ key_of p)) (sym none) (claims refl q has);
                same = class q has;
              });
        }
    changes (Some kinds.Replace) (p, q, live, own, kept, is) claims class change said =
        let has : put ≡ Some q = one_made put q own.made in
        let may = subst (Allows (plain log) (state_of before)) is allowed in
        let some : pair ≡ Some p = sym names ∙ ap named live in
        let two : (Some (pair_of old), Some (pair_of new)) ≡ change = cc said in record {
          before = before;
          since = since;
          by = e;
          is = grown;
          class = key_of p;
          change_is = subst (λ (z : Exchange (Stored K V)). change_of key_of z ≡ record { class = key_of p; taken = pair; put = put } ∷ []) (sym is)
              (λ i. record { class = key_of p; taken = sym some i; put = sym has i } ∷ []);
          taken_is = taken_of change (key_of p) p some
              (sym (ap (λ (z : Option ℕ × Option ℕ). z.0) two) ∙ ap (λ n. Some n) (numbered (Live p) live p refl)) refl;
          put_is = put_of change (key_of p) q has (sym (ap (λ (z : Option ℕ × Option ℕ). z.1) two) ∙ ap (λ n. Some n) (sym own.named)) may.same
              (record {
                is = subst (λ (o : Option (Stored K V)). MatchOption o (Some (key_of q) ≡ k) (λ p. key_of q ≡ key_of p)) (sym some) kept;
                same = class q has;
              });
        }
    changes (Some kinds.Bury) (p, live, is) claims class change said =
        let some : pair ≡ Some p = sym names ∙ ap named live in
        let no_put : put ≡ None = none_handed put (sym handed ∙ nothing_comes by t x p is) in
        let two : (Some (pair_of old), None) ≡ change = cc said in record {
          before = before;
          since = since;
          by = e;
          is = grown;
          class = key_of p;
          change_is = subst (λ (z : Exchange (Stored K V)). change_of key_of z ≡ record { class = key_of p; taken = pair; put = put } ∷ []) (sym is)
              (λ i. record { class = key_of p; taken = sym some i; put = sym no_put i } ∷ []);
          taken_is = taken_of change (key_of p) p some
              (sym (ap (λ (z : Option ℕ × Option ℕ). z.0) two) ∙ ap (λ n. Some n) (numbered (Live p) live p refl)) refl;
          put_is = none_put change (key_of p) no_put (sym (ap (λ (z : Option ℕ × Option ℕ). z.1) two));
        }
    changes None asked claims class change said = absurd asked
    changes (Some kinds.Open) asked claims class change said = absurd asked
    changes (Some kinds.Link) asked claims class change said = absurd asked
    changes (Some kinds.Mark) asked claims class change said = absurd asked
    changes (Some kinds.Close) asked claims class change said = absurd asked
    changes (Some kinds.Place) asked claims class change said = absurd asked
    changes (Some kinds.Finish) asked claims class change said = absurd asked
    changes (Some kinds.Advance) asked claims class change said = absurd asked
    changes (Some kinds.Promote) asked claims class change said = absurd asked
    changes (Some kinds.Abort) asked claims class change said = absurd asked
    changes (Some kinds.Take) asked claims class change said = absurd asked

module _ {K V S H : Type 0} (eq : K → K → Bool) (input : K → List (List ℕ)) (build : S → H) (write : H → List ℕ → H) (finish : H → ℕ)
    (classes : IsEquivalence eq) (respects : (x y : K) → eq x y ≡ true → input x ≡ input y)
    (b : Begun K V S) (matches : K → Bool) (query : List (List ℕ)) (lawful : IsQuery eq input matches query) (k : Option K) (name : Book)
    (begun : List (Event K V S)) where
  abbrev hash' : S → K → ℕ
  hash' = hash_of input build write finish

  abbrev Under : List (Event K V S) → Machine → Option (Bor Sheet) → (last kept : Option (Stored K V)) → List (Stored K V)
      → (taken put : Option (Stored K V)) → Option (Where Sheet × Pen) → Type 0
  Under log m table last kept made taken put fresh = Calling eq input build write finish classes respects b matches query lawful k name begun log m
      table last kept made taken put fresh

  abbrev G : List (Event K V S) → Setting (Option K) (Stored K V)
  G log = Wide eq input build write finish classes respects b matches query lawful k name begun log

  abbrev C : Coding (Option K) (Stored K V)
  C = Coded eq input build write finish classes respects b matches query lawful k name begun

  abbrev loaded : (last : Option (Stored K V)) → List (Stored K V) → LoadedPairs (Stored K V)
  loaded last made = call_loaded eq input build write finish classes respects b matches query lawful k name begun last made

  -- a pair that the call made has a key equal to the call's
  of_call : (own : Option K) (q : Stored K V) → same_with eq matches own (Some (key_of q)) ≡ true → IsOfCall eq own (key_of q)
  of_call None q same = tt
  of_call (Some key) q same = same

  -- the word there, in the wide setting
  word_there : (log log' : List (Event K V S)) (at : At) → word_of (G log') C (state_of log) at ≡ word_in eq hash' b log at
  word_there log log' at = word_wide eq input build write finish classes respects b matches query lawful k (exchanges_of begun) log log' at

  -- A slot's exchange was attempted with the pair that the call passed in: one that it made, or
  -- none.
  module _ (v log : List (Event K V S)) (m : Machine) (table : Option (Bor Sheet)) (last kept : Option (Stored K V)) (made : List (Stored K V))
      (taken put : Option (Stored K V)) (fresh : Option (Where Sheet × Pen)) (r : Under v m table last kept made taken put fresh)
      (t x old new found : ℕ) (put' pair : Option (Stored K V))
      (asks : ask_of m ≡ Call (Ask_exchange (Slot t x) old new))
      (s : IsSlotTried eq hash' b name t x (kind_of_ask m) old new put' (pair_named put') v found log pair) where
    abbrev After : Bool → Type 0
    After z = MatchBool z ((e : Step K V) × IsMeant eq hash' (Slot t x) (kind_of_ask m) new put' (pair_named put') s.tried.before e
        × (log ≡ s.tried.before ++ Stepped e ∷ [])) (log ≡ s.tried.before)

    -- it was made
    pub exchanged : ((q : Stored K V) → put' ≡ Some q → IsOneOf made q)
        → (kind_of_ask m ≡ Some kinds.Claim → (q : Stored K V) → put' ≡ Some q → Some (key_of q) ≡ k) → (found == old) ≡ true
        → Under log (after m (answers.Call Exchanged)) table last kept made pair put' fresh
    exchanged own claims is =
        let done = subst After is s.tried.after in
        let e = exchange_of done.0 in
        let before = s.tried.before in
        let grown : exchanges_of log ≡ exchanges_of before ++ e ∷ [] = ap exchanges_of done.2 ∙ exchanges_of-append before (Stepped done.0 ∷ []) in
        let more : IsPrefix before log = (Stepped done.0 ∷ [], sym done.2) in
        let found_is : found ≡ old = eqb-true found old is in
        let here : (word_of (G log) C (state_of before) (Slot t x) == old) ≡ true = ap (λ (n : ℕ). n == old)
        (word_there before log (Slot t x) ∙ s.tried.is) ∙ is in
        let kind = kind_of_ask m in
        let plainly = asked_by_call kind (own_kind_is m (call_asks m (Ask_exchange (Slot t x) old new) asks).0) (Slot t x) new (state_of before) put'
        e done.1.asked in
        let asked : IsAsked (G log) C k kind (Slot t x) new (state_of before) (loaded last made) e =
        asked_by_made (G log) C k (λ p. refl) (λ p q same. ap (λ z. Some z) same) (loaded_of put') (loaded last made)
        (λ q one. own q (one_made put' q one)) kind (Slot t x) new (state_of before) e (λ claim q one. claims claim q (one_made put' q one)) plainly in
        let told : IsTrueOf (G log) C k (state_of before) kind (loaded last made) (Ask_exchange (Slot t x) old new) Exchanged (e ∷ [])
        (loaded last made) = rw here (refl, (e, asked, refl), refl) in
        let since = prefix_trans v before log s.tried.since more in
        answered eq input build write finish classes respects b matches query lawful k name begun v before log s.tried.lawful s.tried.now
        s.tried.since more m table last kept made taken put fresh r (Ask_exchange (Slot t x) old new) asks Exchanged last made told table pair put' fresh
        (held_later v log since r.number table r.holds_table) r.last_placed r.made_placed s.placed
        (λ change f. changes eq input build write finish classes respects b k begun before log (prefix_trans begun v before r.seen s.tried.since)
        s.tried.lawful s.tried.now done.0 grown t x old new (s.tried.is ∙ found_is) put' pair done.1.with_it s.names kind plainly claims
        (λ q has. of_call k q (r.relies.call.made.keys q (own q has))) change f)
        (barren eq input build write finish classes respects b matches query lawful k name begun v log since s.tried.now m table last kept made taken
        put fresh r (Ask_exchange (Slot t x) old new) asks tt Exchanged fresh)

    -- it was lost
    pub lost : (found == old) ≡ false → Under log (after m (answers.Call (Found_instead found))) table (or_last pair last) kept made taken put fresh
    lost is =
        let same = subst After is s.tried.after in
        let before = s.tried.before in
        let word : word_in eq hash' b log (Slot t x) ≡ found = ap (λ (z : List (Event K V S)). word_in eq hash' b z (Slot t x)) same ∙ s.tried.is in
        let pre : IsPrefix v log = subst (IsPrefix v) (sym same) s.tried.since in
        let here : word_of (G log) C (state_of log) (Slot t x) ≡ found = word_there log log (Slot t x) ∙ word in
        let differs : (word_of (G log) C (state_of log) (Slot t x) == old) ≡ false = ap (λ (n : ℕ). n == old) here ∙ is in
        let loaded_is : loaded (or_last pair last) made ≡ told_of (state_of log) (Slot t x) (loaded last made) =
        ap (λ (z : Option (Stored K V)). loaded (or_last z last) made)
        (sym s.names ∙ ap (λ (z : List (Event K V S)). named ((state_of z).slot t x)) (sym same)) in
        let told : IsTrueOf (G log) C k (state_of log) (kind_of_ask m) (loaded last made) (Ask_exchange (Slot t x) old new) (Found_instead found) []
        (loaded (or_last pair last) made) = rw differs (ap Found_instead (sym here), refl, loaded_is) in
        quiet eq input build write finish classes respects b matches query lawful k name begun v log pre s.tried.now m table last kept made taken put
        fresh r (Ask_exchange (Slot t x) old new) asks (Found_instead found) (or_last pair last) made table fresh
        (record {
          told = told;
          same = refl;
          busy = λ z. z;
          brings = barren eq input build write finish classes respects b matches query lawful k name begun v log pre s.tried.now m table last kept
              made taken put fresh r (Ask_exchange (Slot t x) old new) asks tt (Found_instead found) fresh;
        })
        (held_later v log pre r.number table r.holds_table) (placed_last b name pair last s.placed r.last_placed) r.made_placed
