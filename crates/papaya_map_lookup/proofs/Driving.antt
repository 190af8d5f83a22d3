-- The facts that a machine relies on make its exchanges possible, and the results of a book's calls are right answers to the machine.
use Rattle.std.proofs.Common.{◌≡◌, inl, inr, ℕ, Bool, true, Option, None, Some, List, ◌++◌, refl, sym, ap, ◌∙◌, subst, append_assoc}
use Rattle.papaya_words.specs.Word.{pair_of}
use Rattle.std.specs.Cmp.{IsEquivalence}
use mathlib.Core.List.{IsPrefix}
use Rattle.papaya_call.specs.declared.ask.At.{At}
use Rattle.papaya_call.specs.declared.ask.At.TheVariants.{Root, Next, Aborted, Done, Slot, Made}
use Rattle.papaya_call.specs.declared.ask.Ask.TheVariants.{Exchange as Ask_exchange}
use Rattle.papaya_call.specs.declared.ask.Answer.{Answer}
use Rattle.papaya_call.specs.declared.ask.StepKind.{StepKind}
use Rattle.papaya_call.specs.declared.ask.StepKind.TheVariants as kinds
use Rattle.papaya_call.specs.declared.machine.Machine.{Machine}
use Rattle.papaya_call.specs.Machine.{after, ask_of, kind_of_ask}
use Rattle.papaya_words_law.specs.Allows.{AllAllowed, Allows}
use Rattle.papaya_words_law.specs.Class.{IsOn}
use Rattle.papaya_words_law.specs.Exchange.{Exchange, Setting, State, Word, Empty, Closed, Live, Marked, Copied, Buried, after as after_exchange, run, start}
use Rattle.papaya_words_law.specs.Code.{Coding, code}
use Rattle.papaya_words_law.specs.Invariant.{named}
use Rattle.papaya_words_law.specs.Grows.{Agrees}
use Rattle.papaya_call_law.specs.Relies.{Relies}
use Rattle.papaya_call_law.specs.TrueAnswers.{IsAsked, IsOneOf, IsOwnWord, IsTrueOf, IsWritten, LoadedPairs, word_of}
use Rattle.papaya_words_law.proofs.Alike.{alike_back, allows_alike}
use Rattle.papaya_words_law.proofs.Further.{key_agrees, key_alike}
use Rattle.papaya_call_law.proofs.FurtherWords.{key_word}
use Rattle.papaya_words_law.proofs.Moments.{allowed_first}
use Rattle.papaya_call_law.proofs.ReliesExchange.{machine_may}
use Rattle.papaya_call_law.proofs.ReliesLearn.{machine_learns}
use Rattle.papaya_call_law.proofs.ReliesStable.{relies_stable}
use Rattle.papaya_call_law.proofs.ReliesTables.{relies_carries}
use Rattle.papaya_map_book.specs.declared.rule.entry.Begun.{Begun}
use Rattle.papaya_map_book.specs.declared.rule.entry.Named.TheVariants as names
use Rattle.papaya_map_book.specs.declared.rule.entry.Step.TheVariants as steps
use Rattle.papaya_map_book.specs.declared.rule.entry.Event.{Event}
use Rattle.papaya_map_book.specs.Hashes.{hash_of}
use Rattle.papaya_map_lookup.specs.History.{key_of}
use Rattle.papaya_map_book.specs.Logs.{Stored, coding_of, exchanges_of, setting_of, state_of}
use Rattle.papaya_map_book.specs.Plays.{CanExchange, IsCallAsked, IsPutting, MayStep, Numbered, made_list}
use Rattle.papaya_map_book.specs.Rule.{IsLawfulLog, word_in}
use Rattle.papaya_map_book.proofs.Logs.{exchanges_of-append}
use Rattle.papaya_map_lookup.proofs.KeptKeys.{HasKeyAt, key_at_stays}
use Rattle.papaya_map_lookup.proofs.Namesakes.{claimed_instead, replaced_instead, written_instead}
use Rattle.papaya_map_lookup.proofs.Readings.{IsQuery, allowed_with, coding, fed, hashed_with, setting}
use Rattle.papaya_map_book.proofs.Settings.{agrees_later}

-- the one pair that a call made
pub one_made : {P : Type 0} (made : Option P) (q : P) → IsOneOf (made_list made) q → made ≡ Some q
one_made None q one = absurd one
one_made (Some p) q (inl is) = ap Some (sym is)
one_made (Some p) q (inr one) = absurd one

-- and it is one of those made
pub is_made : {P : Type 0} (made : Option P) (q : P) → made ≡ Some q → IsOneOf (made_list made) q
is_made made q is = subst (λ o. IsOneOf (made_list o) q) (sym is) (inl refl)

module _ {K V K' : Type 0} (g : Setting K' (Stored K V)) (c : Coding K' (Stored K V)) (k : K') (numbers : (p : Stored K V) → c.number p ≡ p.index)
    (keys : (p q : Stored K V) → key_of q ≡ key_of p → g.key q ≡ g.key p)
    (loaded loaded' : LoadedPairs (Stored K V)) (made : (q : Stored K V) → IsOneOf loaded.made q → IsOneOf loaded'.made q) where
  own_word : (new : ℕ) (q : Stored K V) → IsOwnWord Numbered loaded new q → IsOwnWord c loaded' new q
  own_word new q own = record { made = made q own.made; named = numbers q ∙ own.named }

  -- An exchange that a call asks for is one that its machine asks for, if each pair that it claims
  -- has its key. Only the pairs that the call made and their numbers matter, not the pair last
  -- loaded.
  pub asked_by_made : (kind : Option StepKind) (at : At) (new : ℕ) (s : State (Stored K V)) (e : Exchange (Stored K V))
      → (kind ≡ Some kinds.Claim → (q : Stored K V) → IsOneOf loaded.made q → g.key q ≡ k) → IsCallAsked kind at new s loaded e
      → IsAsked g c k kind at new s loaded' e
  asked_by_made None at new s e own a = absurd a
  asked_by_made (Some kinds.Open) Root new s e own a = a
  asked_by_made (Some kinds.Open) (Next t) new s e own a = absurd a
  asked_by_made (Some kinds.Open) (Aborted t) new s e own a = absurd a
  asked_by_made (Some kinds.Open) (Done t chunk) new s e own a = absurd a
  asked_by_made (Some kinds.Open) (Slot t x) new s e own a = absurd a
  asked_by_made (Some kinds.Open) Made new s e own a = absurd a
  asked_by_made (Some kinds.Claim) Root new s e own a = absurd a
  asked_by_made (Some kinds.Claim) (Next t) new s e own a = absurd a
  asked_by_made (Some kinds.Claim) (Aborted t) new s e own a = absurd a
  asked_by_made (Some kinds.Claim) (Done t chunk) new s e own a = absurd a
  asked_by_made (Some kinds.Claim) (Slot t x) new s e own a = (a.0, own_word new a.0 a.1, own refl a.0 a.1.made, a.2)
  asked_by_made (Some kinds.Claim) Made new s e own a = absurd a
  asked_by_made (Some kinds.Replace) Root new s e own a = absurd a
  asked_by_made (Some kinds.Replace) (Next t) new s e own a = absurd a
  asked_by_made (Some kinds.Replace) (Aborted t) new s e own a = absurd a
  asked_by_made (Some kinds.Replace) (Done t chunk) new s e own a = absurd a
  asked_by_made (Some kinds.Replace) (Slot t x) new s e own a = (a.0, a.1, a.2, own_word new a.1 a.3, keys a.0 a.1 a.4, a.5)
  asked_by_made (Some kinds.Replace) Made new s e own a = absurd a
  asked_by_made (Some kinds.Bury) Root new s e own a = absurd a
  asked_by_made (Some kinds.Bury) (Next t) new s e own a = absurd a
  asked_by_made (Some kinds.Bury) (Aborted t) new s e own a = absurd a
  asked_by_made (Some kinds.Bury) (Done t chunk) new s e own a = absurd a
  asked_by_made (Some kinds.Bury) (Slot t x) new s e own a = a
  asked_by_made (Some kinds.Bury) Made new s e own a = absurd a
  asked_by_made (Some kinds.Link) at new s e own a = absurd a
  asked_by_made (Some kinds.Mark) at new s e own a = absurd a
  asked_by_made (Some kinds.Close) at new s e own a = absurd a
  asked_by_made (Some kinds.Place) at new s e own a = absurd a
  asked_by_made (Some kinds.Finish) at new s e own a = absurd a
  asked_by_made (Some kinds.Advance) at new s e own a = absurd a
  asked_by_made (Some kinds.Promote) at new s e own a = absurd a
  asked_by_made (Some kinds.Abort) at new s e own a = absurd a
  asked_by_made (Some kinds.Take) Root new s e own a = absurd a
  asked_by_made (Some kinds.Take) (Next t) new s e own a = absurd a
  asked_by_made (Some kinds.Take) (Aborted t) new s e own a = absurd a
  asked_by_made (Some kinds.Take) (Done t chunk) new s e own a = absurd a
  asked_by_made (Some kinds.Take) (Slot t x) new s e own a = absurd a
  asked_by_made (Some kinds.Take) Made new s e own a = a

-- a word's number is the same in all settings
code_same : {K P : Type 0} (g g' : Setting K P) (c : Coding K P) (w : Word P) → code g' c w ≡ code g c w
code_same g g' c Empty = refl
code_same g g' c Closed = refl
code_same g g' c (Live p) = refl
code_same g g' c (Marked p) = refl
code_same g g' c (Copied p) = refl
code_same g g' c (Buried p) = refl

-- and so is the word at a place
pub word_same : {K P : Type 0} (g g' : Setting K P) (c : Coding K P) (s : State P) (at : At) → word_of g' c s at ≡ word_of g c s at
word_same g g' c s Root = refl
word_same g g' c s (Next t) = refl
word_same g g' c s (Aborted t) = refl
word_same g g' c s (Done t chunk) = refl
word_same g g' c s (Slot t x) = code_same g g' c (s.slot t x)
word_same g g' c s Made = refl

module _ {K V S H : Type 0} (eq : K → K → Bool) (input : K → List (List ℕ)) (build : S → H) (write : H → List ℕ → H) (finish : H → ℕ)
    (classes : IsEquivalence eq) (respects : (x y : K) → eq x y ≡ true → input x ≡ input y)
    (b : Begun K V S) (matches : K → Bool) (query : List (List ℕ)) (lawful : IsQuery eq input matches query) (k : Option K)
    (begun : List (Exchange (Stored K V))) where
  abbrev hash : S → K → ℕ
  hash = hash_of input build write finish

  abbrev fed_to : ℕ
  fed_to = fed eq input build write finish classes respects b matches query lawful

  -- the settings of a log, with the argument of the call as a further key and without it
  abbrev pub wide : List (Event K V S) → Setting (Option K) (Stored K V)
  wide log = setting eq input build write finish classes respects b matches query lawful log

  abbrev plain : List (Event K V S) → Setting K (Stored K V)
  plain log = setting_of eq (hash b.hasher) b.mode b.limit log

  abbrev pub coded : Coding (Option K) (Stored K V)
  coded = coding eq input build write finish classes respects b matches query lawful

  abbrev c : Coding K (Stored K V)
  c = coding_of (hash b.hasher)

  -- a machine relies on the exchanges of a log, since its call began
  pub record IsRelying (log : List (Event K V S)) (m : Machine) (loaded : LoadedPairs (Stored K V)) : Type 0 where
    pub since : List (Exchange (Stored K V))
    pub is : begun ++ since ≡ exchanges_of log
    pub relies : Relies (wide log) coded begun since k m loaded

  -- the word at a place, in the wide setting of any log
  pub word_wide : (log log' : List (Event K V S)) (at : At) → word_of (wide log') coded (state_of log) at ≡ word_in eq hash b log at
  word_wide log log' at = key_word (plain log') matches fed_to c (state_of log) at ∙ word_same (plain log) (plain log') c (state_of log) at

  module _ (log : List (Event K V S)) (l : IsLawfulLog eq hash b log) (m : Machine) (loaded : LoadedPairs (Stored K V)) (r : IsRelying log m loaded)
      (log' : List (Event K V S)) (l' : IsLawfulLog eq hash b log') (pre : IsPrefix log log') where
    -- the exchanges that have come since
    abbrev more : List (Exchange (Stored K V))
    more = exchanges_of pre.0

    longer : begun ++ (r.since ++ more) ≡ exchanges_of log'
    longer = sym (append_assoc begun r.since more)
        ∙ (ap (λ (z : List (Exchange (Stored K V))). z ++ more) r.is ∙ (sym (exchanges_of-append log pre.0) ∙ ap exchanges_of pre.1))

    -- the facts hold in the setting of the longer log, whose further tables make no difference
    carried : Relies (wide log') coded begun r.since k m loaded
    carried =
        let On = IsOn (state_of log).first (state_of log).next in
        let agree : Agrees On (wide log) (wide log') = key_agrees On (plain log) (plain log')
        (agrees_later eq input build write finish classes respects b log l log' pre) matches fed_to in
        let agree' : Agrees (IsOn (run (begun ++ r.since) start).first (run (begun ++ r.since) start).next) (wide log) (wide log') =
        subst (λ (z : List (Exchange (Stored K V))). Agrees (IsOn (run z start).first (run z start).next) (wide log) (wide log')) (sym r.is) agree in
        relies_carries (wide log) (wide log') coded (hashed_with eq input build write finish classes respects b matches query lawful log l) begun r.since
        (subst (AllAllowed (wide log) start) (sym r.is) (allowed_with eq input build write finish classes respects b matches query lawful log l)) k
        agree' m loaded r.relies

    may_longer : AllAllowed (wide log') start (begun ++ (r.since ++ more))
    may_longer = subst (AllAllowed (wide log') start) (sym longer) (allowed_with eq input build write finish classes respects b matches query lawful log' l')

    -- it relies on the longer log too
    pub relying_later : IsRelying log' m loaded
    relying_later = record {
      since = r.since ++ more;
      is = longer;
      relies = relies_stable (wide log') coded (hashed_with eq input build write finish classes respects b matches query lawful log' l') begun r.since
          more may_longer k m loaded carried;
    }

    -- it receives an answer about the log's words, with which the log grew
    pub relying_told : (answer : Answer) (loaded' : LoadedPairs (Stored K V))
        → IsTrueOf (wide log') coded k (state_of log) (kind_of_ask m) loaded (ask_of m) answer more loaded' → IsRelying log' (after m answer) loaded'
    relying_told answer loaded' told =
        let first : AllAllowed (wide log') start (begun ++ r.since) = allowed_first (wide log') (begun ++ r.since) more start
        (subst (AllAllowed (wide log') start) (sym (append_assoc begun r.since more)) may_longer) in
        let told' : IsTrueOf (wide log') coded k (run (begun ++ r.since) start) (kind_of_ask m) loaded (ask_of m) answer more loaded' =
        subst (λ (z : List (Exchange (Stored K V))). IsTrueOf (wide log') coded k (run z start) (kind_of_ask m) loaded (ask_of m) answer more loaded')
        (sym r.is) told in
        let all = machine_learns (wide log') coded (hashed_with eq input build write finish classes respects b matches query lawful log' l') begun
        r.since first k m loaded carried answer more loaded' told' in
        record { since = r.since ++ more; is = longer; relies = all.1 }

  -- An exchange that a machine asked for may come next after this log, and writes the new word.
  record IsGranted (log : List (Event K V S)) (kind : Option StepKind) (loaded : LoadedPairs (Stored K V)) (at : At) (new : ℕ) : Type 0 where
    pub by : Exchange (Stored K V)
    pub asked : IsAsked (wide log) coded k kind at new (state_of log) loaded by
    pub allowed : Allows (plain log) (state_of log) by
    pub written : IsWritten (plain log) c (state_of log) at new (after_exchange (state_of log) by)

  -- so may the exchange that a machine asks for, whenever the expected word is there
  can_exchange : (v : List (Event K V S)) → IsLawfulLog eq hash b v → (m : Machine) (loaded : LoadedPairs (Stored K V)) → IsRelying v m loaded
      → (at : At) (old new : ℕ) → ask_of m ≡ Ask_exchange at old new
      → (log : List (Event K V S)) → IsPrefix v log → IsLawfulLog eq hash b log → word_in eq hash b log at ≡ old → IsGranted log (kind_of_ask m) loaded at new
  can_exchange v l m loaded r at old new asks log pre l' stands =
      let now = relying_later v l m loaded r log l' pre in
      let hashed = hashed_with eq input build write finish classes respects b matches query lawful log l' in
      let may = subst (AllAllowed (wide log) start) (sym now.is) (allowed_with eq input build write finish classes respects b matches query lawful log l') in
      let there : word_of (wide log) coded (run (begun ++ now.since) start) at ≡ old =
      subst (λ (z : List (Exchange (Stored K V))). word_of (wide log) coded (run z start) at ≡ old) (sym now.is) (word_wide log log at ∙ stands) in
      let done = machine_may (wide log) coded hashed begun now.since may k m loaded now.relies at old new asks there in
      let by = done.0 in
      let wide_allows : Allows (wide log) (state_of log) by = subst (λ (z : List (Exchange (Stored K V))). Allows (wide log) (run z start) by) now.is done.2 in
      let written : IsWritten (wide log) coded (state_of log) at new
      (after_exchange (state_of log) by) = subst (λ (z : List (Exchange (Stored K V))).
      IsWritten (wide log) coded (run z start) at new (after_exchange (run z start) by)) now.is done.3 in
      let same = λ (s : State (Stored K V)). λ (at' : At). key_word (plain log) matches fed_to c s at' in record {
        by = by;
        asked = subst (λ (z : List (Exchange (Stored K V))). IsAsked (wide log) coded k (kind_of_ask m) at new (run z start) loaded by) now.is done.1;
        allowed = allows_alike (wide log) (plain log) (alike_back (plain log) (wide log) (key_alike (plain log) matches fed_to)) (state_of log) by wide_allows;
        written = record {
          here = sym (same (after_exchange (state_of log) by) at) ∙ written.here;
          others = λ other differs. sym (same (after_exchange (state_of log) by) other) ∙ (written.others other differs ∙ same (state_of log) other);
        };
      }

  -- A pair of this key may be put in by an exchange of this kind: it is claimed with the call's own
  -- key, and replaces one of its key.
  abbrev pub IsKeyFor : List (Event K V S) → Option StepKind → (t x : ℕ) → K → Type 0
  IsKeyFor log kind t x key = (kind ≡ Some kinds.Claim → Some key ≡ k) × (kind ≡ Some kinds.Replace → HasKeyAt log t x key)

  module _ (log : List (Event K V S)) (loaded : LoadedPairs (Stored K V)) (t x new : ℕ) where
    -- a pair that the call made is put in, if one of its number was asked for
    module _ (q : Stored K V) (number : pair_of new ≡ q.index) where
      abbrev MayPut : Option StepKind → Type 0
      MayPut kind = MayStep eq hash b (Slot t x) kind new (Some q) (names.Pair q) log

      may_claim : Some (key_of q) ≡ k → IsGranted log (Some kinds.Claim) loaded (Slot t x) new → MayPut (Some kinds.Claim)
      may_claim own_is g =
          let p = g.asked.0 in let own = g.asked.1 in let is = g.asked.3 in
          let both : Some (key_of p) ≡ Some (key_of q) = g.asked.2 ∙ sym own_is in
          let key : key_of p ≡ key_of q = cc both in record {
            step = steps.Claim t x q;
            meant = record { asked = inl (q, record { made = inl refl; named = sym number }, refl); with_it = refl };
            allowed = claimed_instead (plain log) c p q key (own.named ∙ number) (state_of log) t x (subst (Allows (plain log) (state_of log)) is g.allowed);
            written = written_instead (plain log) c p q key (own.named ∙ number) (state_of log) t x (Slot t x) new
                (subst (λ (e : Exchange (Stored K V)). IsWritten (plain log) c (state_of log) (Slot t x) new (after_exchange (state_of log) e)) is g.written);
          }

      may_replace : HasKeyAt log t x (key_of q) → IsGranted log (Some kinds.Replace) loaded (Slot t x) new → MayPut (Some kinds.Replace)
      may_replace there g =
          let r = g.asked.0 in let p = g.asked.1 in let live = g.asked.2 in let own = g.asked.3 in let is = g.asked.5 in
          let names_it : Some r ≡ Some there.0 = ap named (sym live) ∙ there.1 in
          let one : r ≡ there.0 = cc names_it in
          let both : Some (key_of p) ≡ Some (key_of r) = g.asked.4 in
          let same : key_of p ≡ key_of r = cc both in
          let kept : key_of q ≡ key_of r = sym there.2 ∙ ap key_of (sym one) in
          let key : key_of p ≡ key_of q = same ∙ sym kept in record {
            step = steps.Replace t x r q;
            meant = record { asked = inl (r, q, live, record { made = inl refl; named = sym number }, kept, refl); with_it = refl };
            allowed = replaced_instead (plain log) c p q key (own.named ∙ number) (state_of log) t x r (subst (Allows (plain log) (state_of log)) is g.allowed);
            written = written_instead (plain log) c p q key (own.named ∙ number) (state_of log) t x (Slot t x) new
                (subst (λ (e : Exchange (Stored K V)). IsWritten (plain log) c (state_of log) (Slot t x) new (after_exchange (state_of log) e)) is g.written);
          }

      may_put : (kind : Option StepKind) → IsPutting kind → IsKeyFor log kind t x (key_of q) → IsGranted log kind loaded (Slot t x) new → MayPut kind
      may_put kind (inl is) for g = subst MayPut (sym is) (may_claim (for.0 is) (subst (λ (z : Option StepKind). IsGranted log z loaded (Slot t x) new) is g))
      may_put kind (inr is) for g = subst MayPut (sym is) (may_replace (for.1 is) (subst (λ (z : Option StepKind). IsGranted log z loaded (Slot t x) new) is g))

    -- a pair is taken out
    abbrev MayBury : Option StepKind → Type 0
    MayBury kind = MayStep eq hash b (Slot t x) kind new None names.Nothing log

    may_bury : (kind : Option StepKind) → kind ≡ Some kinds.Bury → IsGranted log kind loaded (Slot t x) new → MayBury kind
    may_bury kind is granted =
        let g = subst (λ (z : Option StepKind). IsGranted log z loaded (Slot t x) new) is granted in
        let p = g.asked.0 in let by = g.asked.2 in subst MayBury (sym is) (record {
          step = steps.Bury t x p;
          meant = record { asked = inl (p, g.asked.1, refl); with_it = refl };
          allowed = subst (Allows (plain log) (state_of log)) by g.allowed;
          written = subst (λ (e : Exchange (Stored K V)). IsWritten (plain log) c (state_of log) (Slot t x) new (after_exchange (state_of log) e)) by g.written;
        })

  -- it may be put in later too, since the key of a filled slot stays
  key_for_stays : (v log : List (Event K V S)) → IsLawfulLog eq hash b log → IsPrefix v log → (kind : Option StepKind) (t x : ℕ) (key : K)
      → IsKeyFor v kind t x key → IsKeyFor log kind t x key
  key_for_stays v log l pre kind t x key for = (for.0, λ is. key_at_stays eq input build write finish classes respects b v log l pre t x key (for.1 is))

  module _ (v : List (Event K V S)) (l : IsLawfulLog eq hash b v) (m : Machine) (loaded : LoadedPairs (Stored K V)) (r : IsRelying v m loaded)
      (t x old new : ℕ) (asks : ask_of m ≡ Ask_exchange (Slot t x) old new) where
    -- An exchange that puts a pair in may be tried with any pair that has the number asked for and the right key.
    pub can_put : IsPutting (kind_of_ask m) → (q : Stored K V) → IsKeyFor v (kind_of_ask m) t x (key_of q) → pair_of new ≡ q.index
        → CanExchange eq hash b (Slot t x) (kind_of_ask m) old new (Some q) (names.Pair q) v
    can_put kind q for number log pre l' stands =
        may_put log loaded t x new q number (kind_of_ask m) kind (key_for_stays v log l' pre (kind_of_ask m) t x (key_of q) for)
        (can_exchange v l m loaded r (Slot t x) old new asks log pre l' stands)

    -- An exchange that takes a pair out may be tried with no pair, whatever the call has made.
    pub can_bury : kind_of_ask m ≡ Some kinds.Bury → CanExchange eq hash b (Slot t x) (kind_of_ask m) old new None names.Nothing v
    can_bury kind log pre l' stands = may_bury log loaded t x new (kind_of_ask m) kind
        (can_exchange v l m loaded r (Slot t x) old new asks log pre l' stands)

  module _ (log : List (Event K V S)) (loaded : LoadedPairs (Stored K V)) (new : ℕ) (by : Exchange (Stored K V))
      (allowed : Allows (plain log) (state_of log) by) (written : IsWritten (plain log) c (state_of log) Made new (after_exchange (state_of log) by)) where
    -- a number is taken
    may_take : (kind : Option StepKind) → IsAsked (wide log) coded k kind Made new (state_of log) loaded by
        → MayStep eq hash b Made kind new None names.Nothing log
    may_take None asked = absurd asked
    may_take (Some kinds.Open) asked = absurd asked
    may_take (Some kinds.Claim) asked = absurd asked
    may_take (Some kinds.Replace) asked = absurd asked
    may_take (Some kinds.Bury) asked = absurd asked
    may_take (Some kinds.Link) asked = absurd asked
    may_take (Some kinds.Mark) asked = absurd asked
    may_take (Some kinds.Close) asked = absurd asked
    may_take (Some kinds.Place) asked = absurd asked
    may_take (Some kinds.Finish) asked = absurd asked
    may_take (Some kinds.Advance) asked = absurd asked
    may_take (Some kinds.Promote) asked = absurd asked
    may_take (Some kinds.Abort) asked = absurd asked
    may_take (Some kinds.Take) asked = record {
      step = steps.Take (state_of log).made;
      meant = record { asked = inl refl; with_it = refl };
      allowed = subst (Allows (plain log) (state_of log)) asked allowed;
      written = subst (λ (e : Exchange (Stored K V)). IsWritten (plain log) c (state_of log) Made new (after_exchange (state_of log) e)) asked written;
    }

  -- A number for a pair may be taken whenever as many were taken as the machine has read.
  pub can_take : (v : List (Event K V S)) → IsLawfulLog eq hash b v → (m : Machine) (loaded : LoadedPairs (Stored K V)) → IsRelying v m loaded
      → (old new : ℕ) → ask_of m ≡ Ask_exchange Made old new → CanExchange eq hash b Made (kind_of_ask m) old new None names.Nothing v
  can_take v l m loaded r old new asks log pre l' stands = let g = can_exchange v l m loaded r Made old new asks log pre l' stands in
      may_take log loaded new g.by g.allowed g.written (kind_of_ask m) g.asked
