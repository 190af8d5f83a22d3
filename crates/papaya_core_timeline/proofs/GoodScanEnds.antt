-- A pair that a scanner returns, or with which it calls its closure, was in the map at some point
-- of its call; and the facts that hold when the scan ends.
use Rattle.std.proofs.Common.{◌≡◌, inl, inr, ⊎_elim, ℕ, suc, Bool, true, false, cond, Option, None}
use Rattle.std.proofs.Common.{Some, is_some, IsSome, List, [], ◌∷◌, ◌++◌, refl, sym, ◌∙◌, ap, subst}
use Rattle.std.proofs.Common.{eq-eqb}
use Rattle.std.proofs.lemmas.Bool.{cases_Bool}
use Rattle.papaya_words.specs.Table.{TableWords}
use Rattle.papaya_call.specs.declared.call.Call.{Call}
use Rattle.papaya_call.specs.declared.call.Call.TheVariants.{Get, Insert, TryInsert, RemoveIf, Compute, Reserve, CopyAll, Clear, Retain, Walk}
use Rattle.papaya_call.specs.Answers.{Says}
use Rattle.papaya_words_law.specs.Exchange.{Setting, State as Words, Exchange, Open, Claim, Replace}
use Rattle.papaya_words_law.specs.Exchange.{Bury, Link, Mark, Close, Place, Finish, Advance, Promote}
use Rattle.papaya_words_law.specs.Exchange.{Abort, Take}
use Rattle.papaya_words_law.specs.Meaning.{IsAtMoment, IsLawful, map_left, map_of}
use Rattle.papaya_call_law.specs.TrueAnswers.{IsOneOf}
use Rattle.papaya_core_store.specs.Store.{StoreState, Stored, pair_of}
use Rattle.papaya_core_timeline.specs.declared.trace.Turn.{Turn}
use Rattle.papaya_core_timeline.specs.Headline.{AreInArena}
use Rattle.papaya_core_timeline.specs.Kept.{IsInArena, ScanTrace, WasShown, coding_of, numbers_of, setting_of}
use Rattle.papaya_core_timeline.specs.Maps.{Map, at_key}
use Rattle.papaya_core_timeline.specs.Runs.{History}
use Rattle.papaya_core_timeline.specs.Timeline.{Answered, AreSince, AtSomeMoment, FitsDone, HadNumber}
use Rattle.papaya_core_timeline.specs.Timeline.{HasCleared, HasNow, HasNumber, HasRetained, HasWalked}
use Rattle.papaya_core_timeline.specs.Timeline.{IsGivenNever, IsGivenOnce, OfEach, OfSome, change_of}
use Rattle.papaya_core_timeline.specs.Timeline.{last_asked, number_in}
use Rattle.papaya_core_timeline.proofs.CallersLemmas.{differs, same_item}
use Rattle.papaya_core_timeline.proofs.Good.{IsKeyed, IsScanOf, IsScanTied, answer_about, replay, replayed, replaying}
use Rattle.papaya_core_timeline.proofs.GoodScans.{began_weaker, some_weaker}
use Rattle.papaya_core_timeline.proofs.ReplayLemmas.{map_replayed, replay-alike, replay-append}
use Rattle.papaya_core_timeline.proofs.TimelineLemmas.{at_weaker}
use Rattle.papaya_call.specs.declared.chain.scanner.Scan.{Scan}
use Rattle.papaya_call.specs.declared.chain.scanner.Scan.TheVariants as scans
use Rattle.papaya_call_law.specs.ScanTaken.{IsTakenOut, takes_out}
use Rattle.papaya_call_law.specs.ScanAnswers.{IsLastAnswer, count_of}
use Rattle.papaya_call_law.specs.Scans.{HadPair, HasScanned}
use Rattle.papaya_call_law.specs.Scans as scan_law
use Rattle.papaya_core_store.specs.declared.scans.Scanning.{Scanning}
use Rattle.papaya_core_store.specs.declared.store.Mode.{Mode}

-- if a result for a pair is known, the closure was called with that pair
pub answered_shown : {P : Type 0} (l : List (P × Bool)) (p : P) (stays : Bool) → IsLastAnswer l p stays → WasShown l p
answered_shown [] p stays x = x
answered_shown (one ∷ older) p stays (inl (is, said)) = inl is
answered_shown (one ∷ older) p stays (inr (other, x)) = inr (answered_shown older p stays x)

-- two lists that are the same and have the same prefix have the same rest
append_same : {A : Type 0} (xs ys zs : List A) → xs ++ ys ≡ xs ++ zs → ys ≡ zs
append_same [] ys zs e = e
append_same (x ∷ xs) ys zs e = let f : xs ++ ys ≡ xs ++ zs = cc in append_same xs ys zs f

module _ {K V : Type 0} (k : K) (since : List (Map K V)) where
  -- one number more
  never_more : (xs : List ℕ) (n : ℕ) → IsGivenNever k since xs → (HadNumber k since n → ⊥) → IsGivenNever k since (xs ++ n ∷ [])
  never_more [] n never other = (other, tt)
  never_more (x ∷ xs) n never other = (never.0, never_more xs n never.1 other)

  once_more : (xs : List ℕ) (n : ℕ) → IsGivenOnce k since xs → (HadNumber k since n → ⊥) → IsGivenOnce k since (xs ++ n ∷ [])
  once_more [] n once other = absurd once
  once_more (x ∷ xs) n (inl (had, never)) other = inl (had, never_more xs n never other)
  once_more (x ∷ xs) n (inr (not, once)) other = inr (not, once_more xs n once other)

  once_now : (xs : List ℕ) (n : ℕ) → IsGivenNever k since xs → HadNumber k since n → IsGivenOnce k since (xs ++ n ∷ [])
  once_now [] n never had = inl (had, tt)
  once_now (x ∷ xs) n never had = inr (never.0, once_now xs n never.1 had)

  -- a key that had a pair all the time was absent at no point
  none_each : (maps : List (Map K V)) → OfSome (λ m. m k ≡ None) maps → OfEach (λ m. IsSome (m k)) maps → ⊥
  none_each [] x all = x
  none_each (m ∷ maps) (inl none) all = let f : false ≡ true = sym (ap (λ (o : Option (Stored K V)). is_some o) none) ∙ all.0 in absurd cc
  none_each (m ∷ maps) (inr x) all = none_each maps x all.1

module _ {K V S : Type 0} (store : StoreState K V S) where
  -- the pairs of the maps since a point are stored in the arena
  since_logged : (c : ℕ) (h : History) (maps since : List (Map K V)) → AreSince c h maps since → AreInArena store maps → AreInArena store since
  since_logged c [] maps since x l = absurd x
  since_logged c (e ∷ h) [] since x l = absurd x
  since_logged c (e ∷ h) (m ∷ maps) since (inl (none, is)) l = subst (AreInArena store) (sym is) (l.0, tt)
  since_logged c (e ∷ h) (m ∷ maps) since (inr (other, (earlier, is, x))) l = subst (AreInArena store) (sym is) (l.0, since_logged c h maps earlier x l.1)

  some_logged : (k : K) (p : Stored K V) (since : List (Map K V)) → OfSome (λ m. m k ≡ Some p) since → AreInArena store since → IsInArena store p
  some_logged k p [] x l = absurd x
  some_logged k p (m ∷ since) (inl is) l = l.0 k p is
  some_logged k p (m ∷ since) (inr x) l = some_logged k p since x l.1

  -- two pairs of the arena with one number are one pair
  one_pair : (p q : Stored K V) → IsInArena store p → IsInArena store q → p.number ≡ q.number → p ≡ q
  one_pair p q is_p is_q number = let both : Some p ≡ Some q = sym is_p ∙ ap (pair_of store) number ∙ is_q in cc

  -- the last result for a pair is the last result for its number
  pub last_is : (shown : List (Stored K V × Bool)) (p : Stored K V) (b : Bool) → ((q : Stored K V) → WasShown shown q → IsInArena store q)
      → IsInArena store p → IsLastAnswer shown p b → answer_about shown p.number ≡ Some b
  last_is [] p b all there x = absurd x
  last_is (one ∷ older) p b all there (inl (is, said)) = ap (λ t. cond t (Some one.1) (answer_about older p.number))
      (eq-eqb one.0.number p.number (ap (λ (q : Stored K V). q.number) is)) ∙ ap (λ t. Some t) said
  last_is (one ∷ older) p b all there (inr (other, x)) =
      ap (λ t. cond t (Some one.1) (answer_about older p.number))
      (differs one.0.number p.number (λ same. other (one_pair one.0 p (all one.0 (inl refl)) there same)))
      ∙ last_is older p b (λ q was. all q (inr was)) there x

  module _ (eq : K → K → Bool) (k : K) (p : Stored K V) (there : IsInArena store p) (differ : eq k p.key ≡ false) where
    not_pair : (m : Map K V) → IsKeyed eq m → ((j : K) (q : Stored K V) → m j ≡ Some q → IsInArena store q) → (o : Option (Stored K V)) → m k ≡ o
        → number_in o ≡ Some p.number → ⊥
    not_pair m keyed logged None is number = absurd cc
    not_pair m keyed logged (Some q) is number =
        let one : p ≡ q = one_pair p q there (logged k q is) (sym (same_item q.number p.number number)) in
        let f : true ≡ false = sym (keyed k q is) ∙ ap (λ (r : Stored K V). eq k r.key) (sym one) ∙ differ in
        absurd cc

    -- a pair of another class is not the key's
    not_had : (since : List (Map K V)) → OfEach (IsKeyed eq) since → AreInArena store since → HadNumber k since p.number → ⊥
    not_had [] keyed logged x = x
    not_had (m ∷ since) keyed logged (inl is) = not_pair m keyed.0 logged.0 (m k) refl is
    not_had (m ∷ since) keyed logged (inr x) = not_had since keyed.1 logged.1 x

module _ {K V : Type 0} (eq : K → K → Bool) (hash : K → ℕ) (mode : Mode) (tables : List TableWords) where
  abbrev g : Setting K (Stored K V)
  g = setting_of eq hash mode tables

  -- the law's maps are replays
  map_begun : (begun : List (Exchange (Stored K V))) (k : K) → map_left g begun k ≡ replay eq begun k
  map_begun begun k = ap (λ f. f k) (map_replayed eq hash mode tables begun (λ j. None))

  map_then : (begun es : List (Exchange (Stored K V))) → map_of g (map_left g begun) es ≡ replay eq (begun ++ es)
  map_then begun es = map_replayed eq hash mode tables es (map_left g begun)
      ∙ ap (λ f. replayed eq f es) (map_replayed eq hash mode tables begun (λ j. None)) ∙ sym (replay-append eq begun es)

  map_since : (begun before so_far : List (Exchange (Stored K V))) (k : K)
      → map_of g (map_of g (map_left g begun) before) so_far k ≡ replayed eq (replay eq (begun ++ before)) so_far k
  map_since begun before so_far k = ap (λ f. f k)
      (map_replayed eq hash mode tables so_far (map_of g (map_left g begun) before) ∙ ap (λ f. replayed eq f so_far) (map_then begun before))

  -- which exchanges take a pair out no table decides
  takes_same : (x : Exchange (Stored K V)) (k : K) → takes_out g x k ≡ takes_out (replaying eq) x k
  takes_same (Open t) k = refl
  takes_same (Claim t y p) k = refl
  takes_same (Replace t y p q) k = refl
  takes_same (Bury t y p) k = refl
  takes_same (Link t n) k = refl
  takes_same (Mark t y p) k = refl
  takes_same (Close t y) k = refl
  takes_same (Place n y p) k = refl
  takes_same (Finish t y p) k = refl
  takes_same (Advance n c) k = refl
  takes_same (Promote t n) k = refl
  takes_same (Abort n) k = refl
  takes_same (Take n) k = refl

  out_same : (fs : List (Exchange (Stored K V))) (k : K) → IsTakenOut g fs k → IsTakenOut (replaying eq) fs k
  out_same fs k out = record { so_far = out.so_far; by = out.by; rest = out.rest; is = out.is; out = sym (takes_same out.by k) ∙ out.out }

  module _ {S A : Type 0} (says : Says K V A) (store : StoreState K V S) (schedule : List (Turn K V A)) (v : Scanning A) (call : Call K V A) (c : ℕ)
      (call_trace : ScanTrace K V) (h : History) (maps : List (Map K V)) (answers : Answered V)
      (tied : IsScanTied eq says store schedule v call c call_trace h maps answers) (s : Words (Stored K V)) where
    -- the key had this in the map since the call began, so it had it at some point of the call
    at_moment : (k : K) (o : Option (Stored K V)) → IsAtMoment g (map_left g call_trace.begun) call_trace.since k o
        → AtSomeMoment (λ f. at_key f (Some k) ≡ o) c h maps
    at_moment k o was =
        at_weaker (λ f. at_key f (Some k) ≡ at_key (replayed eq (replay eq call_trace.begun) was.so_far) (Some k)) (λ f. at_key f (Some k) ≡ o) c h maps
        (λ f e. e ∙ ap (λ y. replayed eq y was.so_far k) (sym (map_replayed eq hash mode tables call_trace.begun (λ j. None)))
        ∙ ap (λ y. y k) (sym (map_replayed eq hash mode tables was.so_far (map_left g call_trace.begun))) ∙ was.value_is)
        (tied.moments k was.so_far was.rest was.is)

    -- and a pair that it had since the table was taken, it had in a map since then
    in_making : (fs : List (Exchange (Stored K V))) → call_trace.loaded.before ++ fs ≡ call_trace.since → (k : K) (o : Option (Stored K V))
        → IsAtMoment g (map_of g (map_left g call_trace.begun) call_trace.loaded.before) fs k o → OfSome (λ f. f k ≡ o) tied.making.since
    in_making fs is k o was =
        let same : fs ≡ tied.making.fs = append_same call_trace.loaded.before fs tied.making.fs (is ∙ sym tied.making.is) in
        some_weaker (λ f. f k ≡ replayed eq (replay eq (call_trace.begun ++ call_trace.loaded.before)) was.so_far k) (λ f. f k ≡ o) tied.making.since
        (λ f e. e ∙ sym (map_since call_trace.begun call_trace.loaded.before was.so_far k) ∙ was.value_is)
        (tied.making.covers k was.so_far was.rest (was.is ∙ same))

    -- a pair with which the closure is called, or that is returned, was in the map at such points
    module _ (n : ℕ) (had : HadPair g (coding_of hash) s (map_left g call_trace.begun) call_trace.since call_trace.loaded n) where
      pub in_call : AtSomeMoment (HasNumber n) c h maps
      in_call = at_weaker (λ f. at_key f (Some had.pair.key) ≡ Some had.pair) (HasNumber n) c h maps (λ f e. (had.pair.key, had.pair, e, had.number))
          (at_moment had.pair.key (Some had.pair) had.in_call)

      pub since_making : OfSome (HasNumber n) tied.making.since
      since_making = some_weaker (λ f. f had.pair.key ≡ Some had.pair) (HasNumber n) tied.making.since
          (λ f e. (had.pair.key, had.pair, e, had.number)) (in_making had.fs had.is had.pair.key (Some had.pair) had.had)

    module _ (lawful : IsLawful g) (logged : AreInArena store maps) where
      -- a returned pair of the key's class was the key's
      had_then : (fs : List (Exchange (Stored K V))) → call_trace.loaded.before ++ fs ≡ call_trace.since → (k : K) (p : Stored K V)
          → eq k p.key ≡ true → IsAtMoment g (map_of g (map_left g call_trace.begun) call_trace.loaded.before) fs p.key (Some p)
          → HadNumber k tied.making.since p.number
      had_then fs is k p same was =
          let before : List (Exchange (Stored K V)) = call_trace.begun ++ call_trace.loaded.before in
          let value : map_of g (map_of g (map_left g call_trace.begun) call_trace.loaded.before) was.so_far k ≡ Some p =
          map_since call_trace.begun call_trace.loaded.before was.so_far k
          ∙ ap (λ f. f k) (sym (replay-append eq before was.so_far))
          ∙ replay-alike eq hash mode tables lawful (before ++ was.so_far) k p.key same
          ∙ ap (λ f. f p.key) (replay-append eq before was.so_far)
          ∙ sym (map_since call_trace.begun call_trace.loaded.before was.so_far p.key)
          ∙ was.value_is in
          some_weaker (λ f. f k ≡ Some p) (λ f. number_in (f k) ≡ Some p.number) tied.making.since (λ f e. ap (λ (o : Option (Stored K V)). number_in o) e)
          (in_making fs is k (Some p) (record { so_far = was.so_far; rest = was.rest; is = was.is; value_is = value }))

      module _ (walked : scan_law.HasWalked g (coding_of hash) s (map_left g call_trace.begun) call_trace.since call_trace.loaded) where
        abbrev since : List (Map K V)
        since = tied.making.since

        taken_is : call_trace.loaded.before ++ walked.fs ≡ call_trace.since
        taken_is = ap (λ l. l ++ walked.fs) walked.moment ∙ walked.is

        of_given : (p : Stored K V) → IsOneOf call_trace.loaded.given p
            → IsAtMoment g (map_of g (map_left g call_trace.begun) call_trace.loaded.before) walked.fs p.key (Some p)
        of_given p one = subst (λ l. IsAtMoment g (map_of g (map_left g call_trace.begun) l) walked.fs p.key (Some p)) (sym walked.moment) (walked.given p one)

        there : (p : Stored K V) → IsOneOf call_trace.loaded.given p → IsInArena store p
        there p one = some_logged store p.key p since (in_making walked.fs taken_is p.key (Some p) (of_given p one))
            (since_logged store c h maps since tied.making.are logged)

        other : (k : K) (p : Stored K V) → IsOneOf call_trace.loaded.given p → eq k p.key ≡ false → HadNumber k since p.number → ⊥
        other k p one differ had = not_had store eq k p (there p one) differ since tied.making.keyed
            (since_logged store c h maps since tied.making.are logged) had

        -- a key is returned as often as it is counted
        given_never : (k : K) (l : List (Stored K V)) → ((p : Stored K V) → IsOneOf l p → IsOneOf call_trace.loaded.given p) → count_of g l k ≡ 0
            → IsGivenNever k since (numbers_of l)
        given_never k [] of none = tt
        given_never k (p ∷ older) of none = elim (cases_Bool (eq k p.key)) [
          | inl same ↦ let f : suc (count_of g older k) ≡ 0 = sym (ap (λ b. cond b (suc (count_of g older k)) (count_of g older k)) same) ∙ none in absurd cc
          | inr differ ↦ never_more k since (numbers_of older) p.number
              (given_never k older (λ q one. of q (inr one)) (sym (ap (λ b. cond b (suc (count_of g older k)) (count_of g older k)) differ) ∙ none))
              (other k p (of p (inl refl)) differ)
        ]

        given_once : (k : K) (l : List (Stored K V)) → ((p : Stored K V) → IsOneOf l p → IsOneOf call_trace.loaded.given p) → count_of g l k ≡ 1
            → IsGivenOnce k since (numbers_of l)
        given_once k [] of once = absurd cc
        given_once k (p ∷ older) of once = elim (cases_Bool (eq k p.key)) [
          | inl same ↦
              let all : suc (count_of g older k) ≡ 1 = sym (ap (λ b. cond b (suc (count_of g older k)) (count_of g older k)) same) ∙ once in
              let none : count_of g older k ≡ 0 = cc in
              once_now k since (numbers_of older) p.number (given_never k older (λ q one. of q (inr one)) none)
              (had_then walked.fs taken_is k p same (of_given p (of p (inl refl))))
          | inr differ ↦ once_more k since (numbers_of older) p.number
              (given_once k older (λ q one. of q (inr one)) (sym (ap (λ b. cond b (suc (count_of g older k)) (count_of g older k)) differ) ∙ once))
              (other k p (of p (inl refl)) differ)
        ]

        walk_done : HasWalked c h maps
        walk_done = (
          since,
          tied.making.are,
          tied.making.there,
          λ k all. subst (IsGivenOnce k since) (sym tied.given) (⊎_elim
              (λ none. absurd (none_each k since since
              (in_making walked.fs taken_is k None (subst (λ l. IsAtMoment g (map_of g (map_left g call_trace.begun) l) walked.fs k None)
              (sym walked.moment) none)) all))
              (λ once. given_once k call_trace.loaded.given (λ p one. one) once)
              (walked.each k)),
        )

      module _ (newest : (k : K) (p : Stored K V) → HasNow maps k p → (replay eq (call_trace.begun ++ call_trace.since) k ≡ Some p) × IsInArena store p) where
        -- a key that had a pair as the call began
        not_none : (f : Map K V) → ((k : K) → f k ≡ replay eq call_trace.begun k) → (k : K) (p : Stored K V) → f k ≡ Some p
            → map_left g call_trace.begun k ≡ None → ⊥
        not_none f is k p was none = let e : Some p ≡ None = sym was ∙ is k ∙ sym (map_begun call_trace.begun k) ∙ none in absurd cc

        clear_done : scan_law.HasCleared g (coding_of hash) s (map_left g call_trace.begun) call_trace.since → HasCleared c h maps
        clear_done cleared =
            began_weaker (λ f. (k : K) → f k ≡ replay eq call_trace.begun k) (λ f. (k : K) (p : Stored K V) → f k ≡ Some p → HasNow maps k p → ⊥) c h maps
            (λ f is k p was has. ⊎_elim (λ none. not_none f is k p was none)
            (λ out. tied.gone k p (sym (is k) ∙ was) (out_same call_trace.since k out) (newest k p has).0) (cleared k))
            tied.began

        retain_done : ((q : Stored K V) → WasShown call_trace.loaded.shown q → IsInArena store q)
            → scan_law.HasRetained g (coding_of hash) s (map_left g call_trace.begun) call_trace.since call_trace.loaded → HasRetained c h maps
        retain_done shown retained =
            began_weaker (λ f. (k : K) → f k ≡ replay eq call_trace.begun k)
            (λ f. (k : K) (p : Stored K V) → f k ≡ Some p → HasNow maps k p → last_asked c p.number h ≡ Some true) c h maps
            (λ f is k p was has. ⊎_elim
            (λ none. absurd (not_none f is k p was none))
            (λ x. ⊎_elim
            (λ out. absurd (tied.gone k p (sym (is k) ∙ was) (out_same call_trace.since k out) (newest k p has).0))
            (λ (stays : (q : Stored K V) × (map_left g call_trace.begun k ≡ Some q) × IsLastAnswer call_trace.loaded.shown q true).
            let same : stays.0 ≡ p = same_item stays.0 p (sym stays.1 ∙ map_begun call_trace.begun k ∙ sym (is k) ∙ was) in
            tied.asked p.number ∙ last_is store call_trace.loaded.shown p true shown (newest k p has).1
            (subst (λ q. IsLastAnswer call_trace.loaded.shown q true) same stays.2)) x) (retained k))
            tied.began

        -- so a call that has scanned each slot is done
        pub scan_done : (of : Call K V A) (scan : Scan) → IsScanOf of scan → (scan ≡ scans.Walk → change_of c h ≡ None)
            → ((q : Stored K V) → WasShown call_trace.loaded.shown q → IsInArena store q)
            → HasScanned g (coding_of hash) s (map_left g call_trace.begun) call_trace.since scan call_trace.loaded → FitsDone eq of c h maps
        scan_done Clear scans.Clear is unchanged shown over = clear_done over
        scan_done (Retain a) scans.Retain is unchanged shown over = retain_done shown over
        scan_done Walk scans.Walk is unchanged shown over = (unchanged refl, walk_done over)
        scan_done Clear scans.Retain is unchanged shown over = absurd is
        scan_done Clear scans.Walk is unchanged shown over = absurd is
        scan_done (Retain a) scans.Clear is unchanged shown over = absurd is
        scan_done (Retain a) scans.Walk is unchanged shown over = absurd is
        scan_done Walk scans.Clear is unchanged shown over = absurd is
        scan_done Walk scans.Retain is unchanged shown over = absurd is
        scan_done (Get k) scan is unchanged shown over = absurd is
        scan_done (Insert k w) scan is unchanged shown over = absurd is
        scan_done (TryInsert k w) scan is unchanged shown over = absurd is
        scan_done (RemoveIf k a) scan is unchanged shown over = absurd is
        scan_done (Compute k a) scan is unchanged shown over = absurd is
        scan_done (Reserve more) scan is unchanged shown over = absurd is
        scan_done CopyAll scan is unchanged shown over = absurd is
