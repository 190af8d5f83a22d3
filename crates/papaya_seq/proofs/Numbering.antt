-- A map without a pair limit gets one, with some numbers taken. Without the exchanges that take
-- numbers, the exchanges of its history still give the same words; then each number is taken in
-- turn.
use Rattle.std.proofs.Common.{◌≡◌, inl, inr, ℕ, zero, suc, ◌+◌, ◌<◌, ◌≤◌, Bool, List, [], ◌∷◌, ◌++◌}
use Rattle.std.proofs.Common.{length, MatchOption, Option, None, Some, pos, refl, sym, ◌∙◌, ap}
use Rattle.std.proofs.Common.{subst, arith}
use Rattle.papaya_words.specs.Table.{TableWords}
use Rattle.papaya_call.specs.Made.{IsLimit}
use Rattle.papaya_call.specs.declared.ask.At.{At}
use Rattle.papaya_call.specs.declared.ask.At.TheVariants.{Root, Next, Aborted, Done, Slot, Made as Made_word}
use Rattle.papaya_words_law.specs.Allows.{AllAllowed, Allows}
use Rattle.papaya_words_law.specs.Code.{Coding}
use Rattle.papaya_words_law.specs.Grows.{Comes}
use Rattle.papaya_words_law.specs.Invariant.{named}
use Rattle.papaya_words_law.specs.Copying.{IsCopied, IsSettled, IsTaker, IsTarget}
use Rattle.papaya_words_law.specs.Exchange.{Word, Empty, Closed, Live, Marked, Copied, Buried}
use Rattle.papaya_words_law.specs.Exchange.{Exchange, Open, Claim, Replace, Bury, Link, Mark, Close}
use Rattle.papaya_words_law.specs.Exchange.{Place, Finish, Advance, Promote, Abort, Take, Setting, State}
use Rattle.papaya_words_law.specs.Exchange.{after, run, start}
use Rattle.papaya_words_law.specs.Hints.{IsHint, IsHintOf}
use Rattle.papaya_words_law.specs.View.{IsNextPlace, IsReached, View}
use Rattle.papaya_words_law.proofs.Moments.{allowed_append, run-append}
use Rattle.papaya_call_law.specs.TrueAnswers.{word_of}
use Rattle.papaya_core_store.specs.declared.store.Mode.{Mode}
use Rattle.papaya_core_store.specs.Store.{StoreState, Stored}
use Rattle.papaya_core_store.specs.Tables.{hint_at, table_of, word_at}
use Rattle.papaya_words_law.specs.ChainContent.{joined}
use Rattle.papaya_core_timeline.specs.Content.{content, pairs_from, pairs_of_slots}
use Rattle.papaya_core_timeline.specs.Kept.{IsConsistent, coding_of, low, setting_of}
use Rattle.papaya_seq.specs.Map.{IsLawfulMap}
use Rattle.papaya_seq.proofs.RetainLists.{slots_same}

-- the same state with `m` numbers taken
abbrev with_made : {P : Type 0} → ℕ → State P → State P
with_made m s = record s { made = m }

-- the exchanges without those that take a number
abbrev stripped : {P : Type 0} → List (Exchange P) → List (Exchange P)
stripped [] = []
stripped (Take m ∷ es) = stripped es
stripped (e ∷ es) = e ∷ stripped es

-- `count` numbers are taken, from this one on
abbrev taken_from : {P : Type 0} → (count from : ℕ) → List (Exchange P)
taken_from zero from = []
taken_from (suc count) from = Take from ∷ taken_from count (from + 1)

module _ {K P : Type 0} (g : Setting K P) (limit : Option ℕ) where
  -- the same setting with this limit
  abbrev limited : Setting K P
  limited = record g { most = limit }

  module _ (m : ℕ) (s : State P) where
    -- the state with `m` numbers taken
    abbrev there : State P
    there = with_made m s

    reached_there : (k : K) (t : ℕ) → IsReached g s k t → IsReached limited there k t
    reached_there k t r = record { from = r.from; links = r.links; was = r.was; is = r.is; made = r.made; mode = r.mode; passed = r.passed }

    place_there : (k : K) (test : View P → Bool) (t x : ℕ) → IsNextPlace g s k test t x → IsNextPlace limited there k test t x
    place_there k test t x r = record { at = r.at; within = r.within; is = r.is; before = r.before }

    taker_there : (k : K) (t n : ℕ) → IsTaker g s k t n → IsTaker limited there k t n
    taker_there k t n r = record { links = r.links; is = r.is; made = r.made; over = r.over }

    target_there : (t n : ℕ) → IsTarget g s t n → IsTarget limited there t n
    target_there t n r = record { links = r.links; is = r.is; made = r.made; mode = r.mode; over = r.over }

    copied_there : (n : ℕ) (p : P) → IsCopied g s n p → IsCopied limited there n p
    copied_there n p r = record { from = r.from; slot = r.slot; stood = r.stood; taker = taker_there (g.key p) r.from n r.taker }

    settled_there : (n : ℕ) (w : Word P) → IsSettled g s n w → IsSettled limited there n w
    settled_there n Empty h = h
    settled_there n Closed h = h
    settled_there n (Live p) h = h
    settled_there n (Marked p) h = h
    settled_there n (Copied p) h = h
    settled_there n (Buried p) h = h

    -- an exchange that takes no number is allowed there
    abbrev AllowsThere : Exchange P → Type 0
    AllowsThere (Take n) = Unit {0}
    AllowsThere e = Allows limited there e

    allows_there : (e : Exchange P) → Allows g s e → AllowsThere e
    allows_there (Open t) may = may
    allows_there (Claim t x p) may = record {
      empty = may.empty;
      reached = reached_there (g.key p) t may.reached;
      place = place_there (g.key p) _ t x
          may.place;
    }
    allows_there (Replace t x p q) may = record { live = may.live; reached = reached_there (g.key p) t may.reached; same = may.same; kept = may.kept }
    allows_there (Bury t x p) may = record { live = may.live; reached = reached_there (g.key p) t may.reached }
    allows_there (Link t n) may = record {
      last = may.last;
      on = may.on;
      rises = may.rises;
      from = may.from;
      linking = elim may.linking [ inl own ↦ inl own | inr (blocks, was, target, given_up) ↦ inr (blocks, was, target_there may.from t target, given_up) ];
      covers = may.covers;
    }
    allows_there (Mark t x p) may = record { live = may.live; was = may.was; further = may.further }
    allows_there (Close t x) may = record { empty = may.empty; was = may.was; further = may.further }
    allows_there (Place n x p) may = record { empty = may.empty; source = copied_there n p may.source; place = place_there (g.key p) _ n x may.place }
    allows_there (Finish t x p) may = record {
      marked = may.marked;
      mode = may.mode;
      to = may.to;
      taker = taker_there (g.key p) t may.to may.taker;
      has = may.has;
    }
    allows_there (Advance n c) may = record {
      done = may.done;
      from = may.from;
      target = target_there may.from n may.target;
      slot = may.slot;
      within = may.within;
      in_chunk = may.in_chunk;
      settled = λ x low_slot here. settled_there n (s.slot may.from x) (may.settled x low_slot here);
    }
    allows_there (Promote t n) may = record { root = may.root; made = may.made; target = target_there t n may.target; whole = may.whole }
    allows_there (Abort n) may = record { before = may.before; mode = may.mode; pair = may.pair; source = copied_there n may.pair may.source; full = may.full }
    allows_there (Take n) may = tt

  -- all of them are allowed there
  all_there : (m : ℕ) (es : List (Exchange P)) (s : State P) → AllAllowed g s es → AllAllowed limited (with_made m s) (stripped es)
  all_there m [] s all = tt
  all_there m (Open t ∷ es) s (may, all) = (allows_there m s (Open t) may, all_there m es (after s (Open t)) all)
  all_there m (Claim t x p ∷ es) s (may, all) = (allows_there m s (Claim t x p) may, all_there m es (after s (Claim t x p)) all)
  all_there m (Replace t x p q ∷ es) s (may, all) = (allows_there m s (Replace t x p q) may, all_there m es (after s (Replace t x p q)) all)
  all_there m (Bury t x p ∷ es) s (may, all) = (allows_there m s (Bury t x p) may, all_there m es (after s (Bury t x p)) all)
  all_there m (Link t n ∷ es) s (may, all) = (allows_there m s (Link t n) may, all_there m es (after s (Link t n)) all)
  all_there m (Mark t x p ∷ es) s (may, all) = (allows_there m s (Mark t x p) may, all_there m es (after s (Mark t x p)) all)
  all_there m (Close t x ∷ es) s (may, all) = (allows_there m s (Close t x) may, all_there m es (after s (Close t x)) all)
  all_there m (Place n x p ∷ es) s (may, all) = (allows_there m s (Place n x p) may, all_there m es (after s (Place n x p)) all)
  all_there m (Finish t x p ∷ es) s (may, all) = (allows_there m s (Finish t x p) may, all_there m es (after s (Finish t x p)) all)
  all_there m (Advance n c ∷ es) s (may, all) = (allows_there m s (Advance n c) may, all_there m es (after s (Advance n c)) all)
  all_there m (Promote t n ∷ es) s (may, all) = (allows_there m s (Promote t n) may, all_there m es (after s (Promote t n)) all)
  all_there m (Abort n ∷ es) s (may, all) = (allows_there m s (Abort n) may, all_there m es (after s (Abort n)) all)
  all_there m (Take n ∷ es) s (may, all) = all_there m es (after s (Take n)) all

  -- numbers below the limit may be taken
  takes_there : (count from : ℕ) (s : State P) → ((n : ℕ) → limit ≡ Some n → from + count ≤ n) → AllAllowed limited (with_made from s) (taken_from count from)
  takes_there zero from s few = tt
  takes_there (suc count) from s few =
      ((refl, below limit few), takes_there count (from + 1) s (λ n is. let most = few n is in omega (arith, most)))
    where
      below : (l : Option ℕ) → ((n : ℕ) → l ≡ Some n → from + suc count ≤ n) → MatchOption l (Unit {0}) (λ n. from < n)
      below None few = tt
      below (Some n) few = let most = few n refl in omega (arith, most)

-- they give the same words, with `m` numbers taken
stripped_run : {P : Type 0} (m : ℕ) (es : List (Exchange P)) (s : State P) → run (stripped es) (with_made m s) ≡ with_made m (run es s)
stripped_run m [] s = refl
stripped_run m (Open t ∷ es) s = stripped_run m es (after s (Open t))
stripped_run m (Claim t x p ∷ es) s = stripped_run m es (after s (Claim t x p))
stripped_run m (Replace t x p q ∷ es) s = stripped_run m es (after s (Replace t x p q))
stripped_run m (Bury t x p ∷ es) s = stripped_run m es (after s (Bury t x p))
stripped_run m (Link t n ∷ es) s = stripped_run m es (after s (Link t n))
stripped_run m (Mark t x p ∷ es) s = stripped_run m es (after s (Mark t x p))
stripped_run m (Close t x ∷ es) s = stripped_run m es (after s (Close t x))
stripped_run m (Place n x p ∷ es) s = stripped_run m es (after s (Place n x p))
stripped_run m (Finish t x p ∷ es) s = stripped_run m es (after s (Finish t x p))
stripped_run m (Advance n c ∷ es) s = stripped_run m es (after s (Advance n c))
stripped_run m (Promote t n ∷ es) s = stripped_run m es (after s (Promote t n))
stripped_run m (Abort n ∷ es) s = stripped_run m es (after s (Abort n))
stripped_run m (Take n ∷ es) s = stripped_run m es (after s (Take n))

-- and then `count` more are taken
taken_run : {P : Type 0} (count from : ℕ) (s : State P) → run (taken_from count from) (with_made from s) ≡ with_made (from + count) s
taken_run zero from s = ap (λ n. with_made n s) (let e : from ≡ from + 0 = omega arith in e)
taken_run (suc count) from s = taken_run count (from + 1) s ∙ ap (λ n. with_made n s) (let e : from + 1 + count ≡ from + suc count = omega arith in e)

module _ {K V S : Type 0} (store : StoreState K V S) (made : ℕ) where
  -- the store with `made` numbers taken
  abbrev pub numbered_store : StoreState K V S
  numbered_store = record store { words = record store.words { made = made } }

  -- has the pairs that it had
  from_same : (eq : K → K → Bool) (n : ℕ) (o : Option TableWords) → pairs_from eq numbered_store n o ≡ pairs_from eq store n o
  from_same eq zero o = refl
  from_same eq (suc n) None = refl
  from_same eq (suc n) (Some t) =
      ap (λ l. joined eq (λ p. p.key) l (pairs_from eq numbered_store n (table_of store.words.tables t.next)))
      (slots_same store numbered_store (λ i. refl) t.slots)
      ∙ ap (joined eq (λ p. p.key) (pairs_of_slots store t.slots)) (from_same eq n (table_of store.words.tables t.next))

  pub numbered_content : (eq : K → K → Bool) → content eq numbered_store ≡ content eq store
  numbered_content eq = from_same eq (length store.words.tables) (table_of store.words.tables store.words.root)

module _ {K V S : Type 0} (eq : K → K → Bool) (hash : K → ℕ) (store : StoreState K V S) (mode : Mode) {initial : ℕ}
    (lawful : IsLawfulMap eq hash store mode initial) (limit : Option ℕ) (made : ℕ) (fits : IsLimit limit) (most : (n : ℕ) → limit ≡ Some n → made ≤ n) where
  abbrev g : Setting K (Stored K V)
  g = setting_of eq (low hash) mode store.words.tables

  abbrev c : Coding K (Stored K V)
  c = coding_of (low hash)

  abbrev es : List (Exchange (Stored K V))
  es = lawful.lawful.law.0

  abbrev now : State (Stored K V)
  now = run es start

  kept : IsConsistent {A = Unit {0}} eq hash mode store [] es lawful.lawful.law.1.0
  kept = lawful.lawful.law.1.1

  -- the map with the limit
  abbrev mode' : Mode
  mode' = record mode { limit = limit }

  abbrev store' : StoreState K V S
  store' = numbered_store store made

  abbrev es' : List (Exchange (Stored K V))
  es' = stripped es ++ taken_from made 0

  ran : run es' start ≡ with_made made now
  ran = run-append (stripped es) (taken_from made 0) start ∙ ap (run (taken_from made 0)) (stripped_run 0 es start) ∙ taken_run made 0 now
      ∙ ap (λ n. with_made n now) (let e : 0 + made ≡ made = omega arith in e)

  allowed' : AllAllowed (limited g limit) start es'
  allowed' =
      allowed_append (limited g limit) (stripped es) (taken_from made 0) start (all_there g limit 0 es start kept.allowed)
      (subst (λ s. AllAllowed (limited g limit) s (taken_from made 0)) (sym (stripped_run 0 es start))
      (takes_there g limit made 0 now (λ n is. let le = most n is in omega (arith, le))))

  -- each word but how many numbers were taken is as it was
  word_there : (at : At) → word_of (limited g limit) c (with_made made now) at ≡ word_at store'.words at
  word_there Root = kept.coded Root
  word_there Made_word = refl
  word_there (Next t) = kept.coded (Next t)
  word_there (Aborted t) = kept.coded (Aborted t)
  word_there (Done t chunk) = kept.coded (Done t chunk)
  word_there (Slot t x) = kept.coded (Slot t x)

  hint_there : (w : Word (Stored K V)) (n : ℕ) → IsHintOf g c w n → IsHintOf (limited g limit) c w n
  hint_there Empty n h = h
  hint_there Closed n h = h
  hint_there (Live p) n h = h
  hint_there (Marked p) n h = h
  hint_there (Copied p) n h = h
  hint_there (Buried p) n h = h

  -- the words with the limit keep to the law
  kept' : IsConsistent {A = Unit {0}} eq hash mode' store' [] es' lawful.lawful.law.1.0
  kept' = record {
    allowed = allowed';
    coded = λ at. ap (λ s. word_of (limited g limit) c s at) ran ∙ word_there at;
    hints = λ t x. subst (λ (s : State (Stored K V)). IsHint (limited g limit) c s t x (hint_at store.words t x)) (sym ran)
        (hint_there (now.slot t x) (hint_at store.words t x) (kept.hints t x));
    made = λ t some comes. kept.made t some (subst (λ s. Comes s t) ran comes);
    logged = λ t x p names. kept.logged t x p (subst (λ (s : State (Stored K V)). named (s.slot t x) ≡ Some p) ran names);
    few = kept.few;
    tables_few = kept.tables_few;
    calls = λ d q e. absurd cc;
    resizers = λ d z e. absurd cc;
    scanners = λ d v e. absurd cc;
    apart = λ d e q r x. absurd cc;
  }

  -- and the map is in order, if a number was taken for each pair
  pub numbered_lawful : length store.pairs ≤ made → IsLawfulMap eq hash store' mode' initial
  numbered_lawful each = record {
    lawful = record {
      core = record {
        chunked = lawful.lawful.core.chunked;
        limit = fits;
        sizes = lawful.lawful.core.sizes;
        valid = λ d q e.
            absurd cc;
        going = λ d q e. absurd cc;
        resizers = λ d z e. absurd cc;
        scanners = λ d v e. absurd cc;
      };
      law = (es', (lawful.lawful.law.1.0, kept'));
    };
    counted = lawful.counted ∙ ap (λ (l : List (Stored K V)). pos (length l)) (sym (numbered_content store made eq));
    power = lawful.power;
    most = lawful.most;
    long = record { tables = lawful.long.tables; first = lawful.long.first };
    numbered = λ n is. each;
  }
