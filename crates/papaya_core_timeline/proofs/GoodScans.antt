-- How calls that scan a table relate to a history that grows by an entry.
use Rattle.std.proofs.Common.{◌≡◌, ◌≢◌, ◌⊎◌, inl, inr, ⊎_elim, ℕ, Bool, true, false, cond, Option}
use Rattle.std.proofs.Common.{None, Some, List, [], ◌∷◌, ◌++◌, slice_get, refl, sym, ◌∙◌, ap, subst}
use Rattle.std.proofs.Common.{eq-eqb, append-nil, append_assoc}
use Rattle.std.proofs.lemmas.Bool.{cases_Bool}
use Rattle.papaya_words.specs.Table.{TableWords}
use Rattle.papaya_call.specs.declared.call.Call.{Call}
use Rattle.papaya_call.specs.Answers.{Says}
use Rattle.papaya_call.specs.declared.answers.Operation.{Operation}
use Rattle.papaya_words_law.specs.Allows.{AllAllowed}
use Rattle.papaya_words_law.specs.Meaning.{IsLawful}
use Rattle.papaya_words_law.specs.Exchange.{Exchange, State, after, start, Open, Claim, Replace, Bury}
use Rattle.papaya_words_law.specs.Exchange.{Link, Mark, Close, Place, Finish, Advance, Promote, Abort}
use Rattle.papaya_words_law.specs.Exchange.{Take}
use Rattle.papaya_core_store.specs.Store.{KeepsPairs, StoreState, Stored}
use Rattle.papaya_core_timeline.specs.declared.trace.Entry.{Entry}
use Rattle.papaya_core_timeline.specs.declared.trace.Event.{Event}
use Rattle.papaya_core_timeline.specs.declared.trace.Event.TheVariants.{Begun, Gave}
use Rattle.papaya_core_timeline.specs.declared.trace.Turn.{Turn}
use Rattle.papaya_core_timeline.specs.Given.{HasLeft, begun_answers}
use Rattle.papaya_core_timeline.specs.Kept.{ScanTrace, numbers_of, setting_of}
use Rattle.papaya_core_timeline.specs.Maps.{Map, at_key}
use Rattle.papaya_core_timeline.specs.Runs.{History}
use Rattle.papaya_core_timeline.specs.Timeline.{Answered, AtBegin, AtSomeMoment, HasNumber, IsUnused}
use Rattle.papaya_core_timeline.specs.Timeline.{OfSome, asked_then, begun_by, change_of, given_by}
use Rattle.papaya_core_timeline.specs.Timeline.{given_then, is_begin, last_asked}
use Rattle.papaya_core_timeline.proofs.CallersLemmas.{differs}
use Rattle.papaya_core_timeline.proofs.Good.{IsKeyed, IsMaking, IsScanOf, IsScanTied, answer_about, replay, replayed, replaying}
use Rattle.papaya_core_timeline.proofs.ReplayLemmas.{beginning-cases, replay-append}
use Rattle.papaya_core_timeline.proofs.GivenLemmas.{left_more}
use Rattle.papaya_core_timeline.proofs.TimelineLemmas.{change_of-other, change_of-own, entry, not_begin-other}
use Rattle.papaya_call.specs.declared.chain.scanner.Scan.TheVariants as scans
use Rattle.papaya_call_law.specs.ScanTaken.{IsTakenOut, takes_out}
use Rattle.papaya_call_law.specs.ScanAnswers.{LoadedPairs, nothing_loaded}
use Rattle.papaya_core_store.specs.declared.scans.Scanning.{Scanning}
use Rattle.papaya_core_store.specs.declared.store.Mode.{Mode}

-- the pairs that a caller's call has returned, and the results of its closure, after another
-- caller's entry and after its own
pub given_by-other : (c d turn : ℕ) (event : Event) (before : History) → c ≢ d → given_by d (entry turn c event ∷ before) ≡ given_by d before
given_by-other c d turn event before h = ap (λ b. cond b (given_then event (given_by d before)) (given_by d before)) (differs c d h)

pub given_by-own : (c turn : ℕ) (event : Event) (before : History) → given_by c (entry turn c event ∷ before) ≡ given_then event (given_by c before)
given_by-own c turn event before = ap (λ b. cond b (given_then event (given_by c before)) (given_by c before)) (eq-eqb c c refl)

pub last_asked-other : (c d turn n : ℕ) (event : Event) (before : History) → c ≢ d → last_asked d n (entry turn c event ∷ before) ≡ last_asked d n before
last_asked-other c d turn n event before h = ap (λ b. cond b (asked_then n event (last_asked d n before)) (last_asked d n before)) (differs c d h)

pub last_asked-own : (c turn n : ℕ) (event : Event) (before : History)
    → last_asked c n (entry turn c event ∷ before) ≡ asked_then n event (last_asked c n before)
last_asked-own c turn n event before = ap (λ b. cond b (asked_then n event (last_asked c n before)) (last_asked c n before)) (eq-eqb c c refl)

-- the last items of two lists that are one
last_same : {A : Type 0} (xs ys : List A) (a b : A) → xs ++ a ∷ [] ≡ ys ++ b ∷ [] → a ≡ b
last_same [] [] a b e = cc
last_same [] (y ∷ []) a b e = let f : [] ≡ b ∷ [] = cc in absurd cc
last_same [] (y ∷ z ∷ ys) a b e = let f : [] ≡ z ∷ (ys ++ b ∷ []) = cc in absurd cc
last_same (x ∷ []) [] a b e = let f : a ∷ [] ≡ [] = cc in absurd cc
last_same (x ∷ z ∷ xs) [] a b e = let f : z ∷ (xs ++ a ∷ []) ≡ [] = cc in absurd cc
last_same (x ∷ xs) (y ∷ ys) a b e = let f : xs ++ a ∷ [] ≡ ys ++ b ∷ [] = cc in last_same xs ys a b f

-- nothing comes before the end of an empty list
pub nothing_so_far : {A : Type 0} (so_far rest : List A) → so_far ++ rest ≡ [] → so_far ≡ []
nothing_so_far [] rest none = refl
nothing_so_far (x ∷ so_far) rest none = absurd cc

module _ {K V : Type 0} where
  -- a pair that the map had as the call began is of a number that some map had
  pub began_used : (P : Map K V → Type 0) (c : ℕ) (h : History) (maps : List (Map K V)) (k : K) (p : Stored K V)
      → ((m : Map K V) → P m → m k ≡ Some p) → AtBegin P c h maps → IsUnused p.number maps → ⊥
  began_used P c [] maps k p has x unused = x
  began_used P c (e ∷ h) [] k p has x unused = x
  began_used P c (e ∷ h) (m ∷ maps) k p has (inl (begun, is)) unused = unused.0 k p (has m is) refl
  began_used P c (e ∷ h) (m ∷ maps) k p has (inr (other, x)) unused = began_used P c h maps k p has x unused.1

  -- a fact at the begin implies each weaker one
  pub began_weaker : (P Q : Map K V → Type 0) (c : ℕ) (h : History) (maps : List (Map K V)) → ((m : Map K V) → P m → Q m) → AtBegin P c h maps
      → AtBegin Q c h maps
  began_weaker P Q c [] maps f x = x
  began_weaker P Q c (e ∷ h) [] f x = x
  began_weaker P Q c (e ∷ h) (m ∷ maps) f (inl (begun, is)) = inl (begun, f m is)
  began_weaker P Q c (e ∷ h) (m ∷ maps) f (inr (other, x)) = inr (other, began_weaker P Q c h maps f x)

  pub some_weaker : (P Q : Map K V → Type 0) (maps : List (Map K V)) → ((m : Map K V) → P m → Q m) → OfSome P maps → OfSome Q maps
  some_weaker P Q [] f x = x
  some_weaker P Q (m ∷ maps) f (inl p) = inl (f m p)
  some_weaker P Q (m ∷ maps) f (inr x) = inr (some_weaker P Q maps f x)

module _ {K V : Type 0} (eq : K → K → Bool) where
  -- an exchange that takes out a key's pair leaves the key none, or puts another in its place
  taken : (x : Exchange (Stored K V)) (k : K) (q : Stored K V) (m : Map K V) → takes_out (replaying eq) x k ≡ true → replayed eq m (x ∷ []) k ≡ Some q
      → (t : ℕ) × (y : ℕ) × (p : Stored K V) × (x ≡ Replace t y p q)
  taken (Replace t y p r) k q m out has =
      let is : Some r ≡ Some q = sym (ap (λ b. cond b (Some r) (m k)) out) ∙ has in
      let same : r ≡ q = cc in
      (t, y, p, ap (λ z. Replace t y p z) same)
  taken (Bury t y p) k q m out has = let f : None ≡ Some q = sym (ap (λ b. cond b None (m k)) out) ∙ has in absurd cc
  taken (Open t) k q m out has = let f : false ≡ true = out in absurd cc
  taken (Claim t y p) k q m out has = let f : false ≡ true = out in absurd cc
  taken (Link t n) k q m out has = let f : false ≡ true = out in absurd cc
  taken (Mark t y p) k q m out has = let f : false ≡ true = out in absurd cc
  taken (Close t y) k q m out has = let f : false ≡ true = out in absurd cc
  taken (Place n y p) k q m out has = let f : false ≡ true = out in absurd cc
  taken (Finish t y p) k q m out has = let f : false ≡ true = out in absurd cc
  taken (Advance n c) k q m out has = let f : false ≡ true = out in absurd cc
  taken (Promote t n) k q m out has = let f : false ≡ true = out in absurd cc
  taken (Abort n) k q m out has = let f : false ≡ true = out in absurd cc
  taken (Take n) k q m out has = let f : false ≡ true = out in absurd cc

  -- a pair that was taken out of the map was taken out before the last exchange or by it
  taken_cases : (since made : List (Exchange (Stored K V))) (k : K) → (made ≡ []) ⊎ ((x : Exchange (Stored K V)) × (made ≡ x ∷ []))
      → IsTakenOut (replaying eq) (since ++ made) k → IsTakenOut (replaying eq) since k
      ⊎ ((x : Exchange (Stored K V)) × (made ≡ x ∷ []) × (takes_out (replaying eq) x k ≡ true))
  taken_cases since made k one out =
      ⊎_elim
      (λ (part : (left : List (Exchange (Stored K V))) × ((out.so_far ++ out.by ∷ []) ++ left ≡ since)).
      inl (record { so_far = out.so_far; by = out.by; rest = part.0; is = sym (append_assoc out.so_far (out.by ∷ []) part.0) ∙ part.1; out = out.out }))
      (λ (whole : out.so_far ++ out.by ∷ [] ≡ since ++ made). by_made whole one)
      (beginning-cases (out.so_far ++ out.by ∷ []) out.rest since made one (append_assoc out.so_far (out.by ∷ []) out.rest ∙ out.is))
    where
      by_made : out.so_far ++ out.by ∷ [] ≡ since ++ made → (made ≡ []) ⊎ ((x : Exchange (Stored K V)) × (made ≡ x ∷ []))
          → IsTakenOut (replaying eq) since k ⊎ ((x : Exchange (Stored K V)) × (made ≡ x ∷ []) × (takes_out (replaying eq) x k ≡ true))
      by_made whole (inl none) = inl (record {
        so_far = out.so_far;
        by = out.by;
        rest = [];
        is = whole ∙ ap (λ l. since ++ l) none
            ∙ append-nil since;
        out = out.out;
      })
      by_made whole (inr (x, is)) =
          let same : out.by ≡ x = last_same out.so_far since out.by x (whole ∙ ap (λ l. since ++ l) is) in
          inr (x, is, ap (λ y. takes_out (replaying eq) y k) (sym same) ∙ out.out)

  -- a pair that is put into a class has a key of it
  put_keyed : (m : Map K V) → IsKeyed eq m → (l : K) (came : Option (Stored K V))
      → ((k : K) (p : Stored K V) → came ≡ Some p → eq k l ≡ true → eq k p.key ≡ true) → (k : K) (p : Stored K V) → cond (eq k l) came (m k) ≡ Some p
      → eq k p.key ≡ true
  put_keyed m keyed l came own k p e = elim (cases_Bool (eq k l)) [
    | inl here ↦ own k p (sym (ap (λ b. cond b came (m k)) here) ∙ e) here
    | inr other ↦ keyed k p (sym (ap (λ b. cond b came (m k)) other) ∙ e)
  ]

  -- so each pair of the map has a key of its class
  module _ (hash : K → ℕ) (mode : Mode) (tables : List TableWords) (law : IsLawful (setting_of {V = V} eq hash mode tables)) where
    claim_keyed : (q : Stored K V) (k : K) (p : Stored K V) → Some q ≡ Some p → eq k q.key ≡ true → eq k p.key ≡ true
    claim_keyed q k p is here = let same : q ≡ p = cc in ap (λ (r : Stored K V). eq k r.key) (sym same) ∙ here

    replayed_keyed : (es : List (Exchange (Stored K V))) (s : State (Stored K V)) (m : Map K V) → IsKeyed eq m
        → AllAllowed (setting_of eq hash mode tables) s es → IsKeyed eq (replayed eq m es)
    replayed_keyed [] s m keyed may = keyed
    replayed_keyed (Open t ∷ es) s m keyed may = replayed_keyed es (after s (Open t)) m keyed may.1
    replayed_keyed (Claim t x q ∷ es) s m keyed may = replayed_keyed es (after s (Claim t x q)) (λ k. cond (eq k q.key) (Some q) (m k))
        (put_keyed m keyed q.key (Some q) (claim_keyed q)) may.1
    replayed_keyed (Replace t x r q ∷ es) s m keyed may =
        replayed_keyed es (after s (Replace t x r q)) (λ k. cond (eq k r.key) (Some q) (m k))
        (put_keyed m keyed r.key (Some q) (λ k p is here. claim_keyed q k p is (law.through k r.key q.key here may.0.same))) may.1
    replayed_keyed (Bury t x r ∷ es) s m keyed may = replayed_keyed es (after s (Bury t x r)) (λ k. cond (eq k r.key) None (m k))
        (put_keyed m keyed r.key None (λ k p is here. absurd cc)) may.1
    replayed_keyed (Link t n ∷ es) s m keyed may = replayed_keyed es (after s (Link t n)) m keyed may.1
    replayed_keyed (Mark t x q ∷ es) s m keyed may = replayed_keyed es (after s (Mark t x q)) m keyed may.1
    replayed_keyed (Close t x ∷ es) s m keyed may = replayed_keyed es (after s (Close t x)) m keyed may.1
    replayed_keyed (Place n x q ∷ es) s m keyed may = replayed_keyed es (after s (Place n x q)) m keyed may.1
    replayed_keyed (Finish t x q ∷ es) s m keyed may = replayed_keyed es (after s (Finish t x q)) m keyed may.1
    replayed_keyed (Advance n c ∷ es) s m keyed may = replayed_keyed es (after s (Advance n c)) m keyed may.1
    replayed_keyed (Promote t n ∷ es) s m keyed may = replayed_keyed es (after s (Promote t n)) m keyed may.1
    replayed_keyed (Abort n ∷ es) s m keyed may = replayed_keyed es (after s (Abort n)) m keyed may.1
    replayed_keyed (Take n ∷ es) s m keyed may = replayed_keyed es (after s (Take n)) m keyed may.1

    pub replay_keyed : (es : List (Exchange (Stored K V))) → AllAllowed (setting_of eq hash mode tables) start es → IsKeyed eq (replay eq es)
    replay_keyed es may = replayed_keyed es start (λ k. None) (λ k p e. absurd cc) may

  module _ {S A : Type 0} (says : Says K V A) (schedule : List (Turn K V A)) where
    -- A scanner's trace after an entry that begins no call of its caller. The entry adds one map,
    -- and at most one exchange.
    module _ (store store' : StoreState K V S) (v v' : Scanning A) (call : Call K V A) (d : ℕ) (call_trace : ScanTrace K V)
        (since' made : List (Exchange (Stored K V))) (loaded' : LoadedPairs (Stored K V)) (e : Entry) (h : History) (m m' : Map K V)
        (maps : List (Map K V)) (o : Option (Operation V ℕ)) (answers : Answered V)
        (no_begin : is_begin d e ≡ false) (one : (made ≡ []) ⊎ ((x : Exchange (Stored K V)) × (made ≡ x ∷ [])))
        (since_is : since' ≡ call_trace.since ++ made) (m_was : m ≡ replay eq (call_trace.begun ++ call_trace.since))
        (m_is : m' ≡ replay eq (call_trace.begun ++ since'))
        (keyed : IsKeyed eq m') (steady : (j : K) (p : Stored K V) → m' j ≡ Some p → (m j ≡ Some p) ⊎ IsUnused p.number (m ∷ maps))
        (fresh : (t y : ℕ) (p q : Stored K V) → made ≡ Replace t y p q ∷ [] → IsUnused q.number (m ∷ maps))
        (tied : IsScanTied eq says store schedule v call d call_trace h (m ∷ maps) answers) where
      -- the trace after it
      abbrev pub call_trace' : ScanTrace K V
      call_trace' = record { begun = call_trace.begun; since = since'; loaded = loaded' }

      -- the map after it, from the one before it
      replayed_last : m' ≡ replayed eq m made
      replayed_last = m_is ∙ ap (λ l. replay eq (call_trace.begun ++ l)) since_is
          ∙ ap (λ l. replay eq l) (sym (append_assoc call_trace.begun call_trace.since made))
          ∙ replay-append eq (call_trace.begun ++ call_trace.since) made ∙ ap (λ f. replayed eq f made) (sym m_was)

      moments : (k : K) (so_far rest : List (Exchange (Stored K V))) → so_far ++ rest ≡ since'
          → AtSomeMoment (λ f. at_key f (Some k) ≡ at_key (replayed eq (replay eq call_trace.begun) so_far) (Some k)) d (e ∷ h) (m' ∷ m ∷ maps)
      moments k so_far rest is =
          ⊎_elim
          (λ part. inr (no_begin, tied.moments k so_far part.0 part.1))
          (λ (whole : so_far ≡ call_trace.since ++ made).
          inl (ap (λ f. f k) (m_is ∙ replay-append eq call_trace.begun since')
          ∙ ap (λ l. replayed eq (replay eq call_trace.begun) l k) (since_is ∙ sym whole)))
          (beginning-cases so_far rest call_trace.since made one (is ∙ since_is))

      gone : (k : K) (p : Stored K V) → replay eq call_trace.begun k ≡ Some p → IsTakenOut (replaying eq) since' k
          → replay eq (call_trace.begun ++ since') k ≡ Some p → ⊥
      gone k p was out has =
          let there : m' k ≡ Some p = ap (λ f. f k) m_is ∙ has in
          let used : IsUnused p.number (m ∷ maps) → ⊥ = began_used (λ f. (j : K) → f j ≡ replay eq call_trace.begun j) d h (m ∷ maps) k p
          (λ f is. is k ∙ was) tied.began in
          ⊎_elim
          (λ (stood : m k ≡ Some p). ⊎_elim
          (λ before. tied.gone k p was before (ap (λ f. f k) (sym m_was) ∙ stood))
          (λ (now : (x : Exchange (Stored K V)) × (made ≡ x ∷ []) × (takes_out (replaying eq) x k ≡ true)).
          let (t, y, q, is) = taken now.0 k p m now.2 (ap (λ l. replayed eq m l k) (sym now.1) ∙ ap (λ f. f k) (sym replayed_last) ∙ there) in
          used (fresh t y q p (now.1 ∙ ap (λ z. z ∷ []) is)))
          (taken_cases call_trace.since made k one (subst (λ l. IsTakenOut (replaying eq) l k) since_is out)))
          (λ unused. used unused)
          (steady k p there)

      -- if the maps since it took its table continue
      making_on : loaded'.before ≡ call_trace.loaded.before → ((n : ℕ) → e.caller ≡ d → e.event ≡ Gave n → OfSome (HasNumber n) tied.making.since)
          → IsMaking eq d call_trace' (e ∷ h) (m' ∷ m ∷ maps)
      making_on same there = record {
        since = m' ∷ tied.making.since;
        fs = tied.making.fs ++ made;
        is = is;
        are = inr (no_begin, (tied.making.since, refl, tied.making.are));
        there = (there, tied.making.there);
        keyed = (keyed, tied.making.keyed);
        covers = λ k so_far rest part.
            ⊎_elim
            (λ old. inr (subst (λ b. OfSome (λ f. f k ≡ replayed eq (replay eq (call_trace.begun ++ b)) so_far k) tied.making.since) (sym same)
            (tied.making.covers k so_far old.0 old.1)))
            (λ (whole : so_far ≡ tied.making.fs ++ made).
            inl (ap (λ f. f k) all ∙ ap (λ l. replayed eq (replay eq (call_trace.begun ++ loaded'.before)) l k) (sym whole)))
            (beginning-cases so_far rest tied.making.fs made one part);
      }
        where
          is : loaded'.before ++ (tied.making.fs ++ made) ≡ since'
          is = ap (λ b. b ++ (tied.making.fs ++ made)) same ∙ sym (append_assoc call_trace.loaded.before tied.making.fs made)
              ∙ ap (λ l. l ++ made) tied.making.is ∙ sym since_is

          all : m' ≡ replayed eq (replay eq (call_trace.begun ++ loaded'.before)) (tied.making.fs ++ made)
          all = m_is ∙ ap (λ l. replay eq (call_trace.begun ++ l)) (sym is)
              ∙ ap (λ l. replay eq l) (sym (append_assoc call_trace.begun loaded'.before (tied.making.fs ++ made)))
              ∙ replay-append eq (call_trace.begun ++ loaded'.before) (tied.making.fs ++ made)

      -- and if they begin again, before it returns anything
      making_now : loaded'.before ≡ call_trace.since ++ made → given_by d (e ∷ h) ≡ [] → ((n : ℕ) → e.event ≡ Gave n → ⊥)
          → IsMaking eq d call_trace' (e ∷ h) (m' ∷ m ∷ maps)
      making_now now none no_gift = record {
        since = m' ∷ [];
        fs = [];
        is = append-nil loaded'.before ∙ all;
        are = inl (none, refl);
        there = ((λ n own gave. absurd (no_gift n gave)), tt);
        keyed = (keyed, tt);
        covers = λ k so_far rest part. inl (ap (λ f. f k) m_is ∙ ap (λ l. replay eq (call_trace.begun ++ l) k) (sym all)
            ∙ ap (λ l. replayed eq (replay eq (call_trace.begun ++ loaded'.before)) l k) (sym (nothing_so_far so_far rest part)));
      }
        where
          all : loaded'.before ≡ since'
          all = now ∙ sym since_is

      -- so it is related to the longer history
      pub scan_tied : IsScanOf call v'.scanner.scan → (v'.scanner.scan ≡ scans.Walk → change_of d (e ∷ h) ≡ None)
          → given_by d (e ∷ h) ≡ numbers_of loaded'.given → ((n : ℕ) → last_asked d n (e ∷ h) ≡ answer_about loaded'.shown n)
          → ((loaded'.before ≡ call_trace.loaded.before) × ((n : ℕ) → e.caller ≡ d → e.event ≡ Gave n → OfSome (HasNumber n) tied.making.since))
          ⊎ ((loaded'.before ≡ call_trace.since ++ made) × (loaded'.given ≡ []) × ((n : ℕ) → e.event ≡ Gave n → ⊥))
          → ((a : A) → v'.answers ≡ Some a → HasLeft says store' schedule a d (e ∷ h) (o ∷ answers))
          → IsScanTied eq says store' schedule v' call d call_trace' (e ∷ h) (m' ∷ m ∷ maps) (o ∷ answers)
      scan_tied scan unchanged given asked making left = record {
        scan = scan;
        unchanged = unchanged;
        given = given;
        asked = asked;
        began = inr (no_begin, tied.began);
        moments = moments;
        gone = gone;
        making = ⊎_elim (λ on. making_on on.0 on.1)
            (λ (now : (loaded'.before ≡ call_trace.since ++ made) × (loaded'.given ≡ []) × ((n : ℕ) → e.event ≡ Gave n → ⊥)).
            making_now now.0 (given ∙ ap (λ l. numbers_of l) now.1) now.2) making;
        left = left;
      }

    -- another caller's entry leaves how a scanner is related to its history
    pub scan_other : (store store' : StoreState K V S) (v : Scanning A) (call : Call K V A) (c d turn : ℕ) (event : Event)
        (call_trace : ScanTrace K V) (since' made : List (Exchange (Stored K V))) (h : History) (m m' : Map K V) (maps : List (Map K V))
        (o : Option (Operation V ℕ)) (answers : Answered V)
        → c ≢ d → KeepsPairs store store' → (made ≡ []) ⊎ ((x : Exchange (Stored K V)) × (made ≡ x ∷ [])) → since' ≡ call_trace.since ++ made
        → m ≡ replay eq (call_trace.begun ++ call_trace.since) → m' ≡ replay eq (call_trace.begun ++ since')
        → IsKeyed eq m' → ((j : K) (p : Stored K V) → m' j ≡ Some p → (m j ≡ Some p) ⊎ IsUnused p.number (m ∷ maps))
        → ((t y : ℕ) (p q : Stored K V) → made ≡ Replace t y p q ∷ [] → IsUnused q.number (m ∷ maps))
        → IsScanTied eq says store schedule v call d call_trace h (m ∷ maps) answers
        → IsScanTied eq says store' schedule v call d (record { begun = call_trace.begun; since = since'; loaded = call_trace.loaded })
        (entry turn c event ∷ h) (m' ∷ m ∷ maps) (o ∷ answers)
    scan_other store store' v call c d turn event call_trace since' made h m m' maps o answers differ stay one since_is m_was m_is keyed steady fresh tied =
        scan_tied store store' v v call d call_trace since' made call_trace.loaded (entry turn c event) h m m' maps o answers
        (not_begin-other c d turn event differ) one since_is m_was m_is keyed steady fresh tied tied.scan
        (λ walks. change_of-other c d turn event h differ ∙ tied.unchanged walks)
        (given_by-other c d turn event h differ ∙ tied.given)
        (λ n. last_asked-other c d turn n event h differ ∙ tied.asked n)
        (inl (refl, λ n own gave. absurd (differ own)))
        (λ a had. inr (inr (differ, left_more says store store' stay schedule a d h answers (tied.left a had))))

    -- also one with which no exchange comes
    pub scan_entry : (store store' : StoreState K V S) (v : Scanning A) (call : Call K V A) (c d turn : ℕ) (event : Event)
        (call_trace : ScanTrace K V) (h : History) (m : Map K V) (maps : List (Map K V)) (o : Option (Operation V ℕ)) (answers : Answered V)
        → c ≢ d → KeepsPairs store store' → m ≡ replay eq (call_trace.begun ++ call_trace.since) → IsKeyed eq m
        → IsScanTied eq says store schedule v call d call_trace h (m ∷ maps) answers
        → IsScanTied eq says store' schedule v call d (record { begun = call_trace.begun; since = call_trace.since; loaded = call_trace.loaded })
        (entry turn c event ∷ h) (m ∷ m ∷ maps) (o ∷ answers)
    scan_entry store store' v call c d turn event call_trace h m maps o answers differ stay m_was keyed tied =
        scan_other store store' v call c d turn event call_trace call_trace.since [] h m m maps o answers differ stay (inl refl)
        (sym (append-nil call_trace.since)) m_was m_was keyed (λ j p e. inl e) (λ t y p q e. absurd cc) tied

    -- so is a scanner that begins
    pub scan_begins : (store : StoreState K V S) (v : Scanning A) (call : Call K V A) (c turn : ℕ) (es : List (Exchange (Stored K V))) (h : History)
        (maps : List (Map K V)) (o : Option (Operation V ℕ)) (answers : Answered V)
        → IsScanOf call v.scanner.scan → IsKeyed eq (replay eq es)
        → ((a : A) → v.answers ≡ Some a → begun_answers (begun_by (slice_get schedule turn)) ≡ Some a)
        → IsScanTied eq says store schedule v call c (record { begun = es; since = []; loaded = nothing_loaded }) (entry turn c Begun ∷ h)
        (replay eq es ∷ maps) (o ∷ answers)
    scan_begins store v call c turn es h maps o answers scan keyed begun = record {
      scan = scan;
      unchanged = λ walks. change_of-own c turn Begun h;
      given = given_by-own c turn Begun h;
      asked = λ n. last_asked-own c turn n Begun h;
      began = inl (ap (λ b. cond b true false) (eq-eqb c c refl), λ k. refl);
      moments = λ k so_far rest none. inl (ap (λ l. replayed eq (replay eq es) l k) (sym (nothing_so_far so_far rest none)));
      gone = λ k p was out has. absurd (nothing_out out.so_far out.by out.rest out.is);
      making = record {
        since = replay eq es ∷ [];
        fs = [];
        is = refl;
        are = inl (given_by-own c turn Begun h, refl);
        there = ((λ n own gave. absurd cc), tt);
        keyed = (keyed, tt);
        covers = λ k so_far rest none. inl (ap (λ l. replay eq l k) (sym (append-nil es))
            ∙ ap (λ l. replayed eq (replay eq (es ++ [])) l k) (sym (nothing_so_far so_far rest none)));
      };
      left = λ a had. inl (refl, refl, begun a had);
    }
      where
        nothing_out : (so_far : List (Exchange (Stored K V))) (by : Exchange (Stored K V)) (rest : List (Exchange (Stored K V))) → so_far ++ by ∷ rest ≡ [] → ⊥
        nothing_out [] by rest is = cc
        nothing_out (x ∷ so_far) by rest is = cc
