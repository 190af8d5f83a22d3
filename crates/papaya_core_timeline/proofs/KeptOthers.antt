-- After a step of one caller everything that others rely on still holds, so the words obey the law
-- of exchanges.
use Rattle.std.proofs.Common.{◌≡◌, ◌≢◌, ℕ, ◌<◌, ◌≤◌, Bool, cond, List, ◌++◌, length, Option, Some}
use Rattle.std.proofs.Common.{None, ◌⊎◌, inl, inr, refl, sym, ◌∙◌, ap, subst, append_assoc, eq-eqb}
use Rattle.papaya_words.specs.declared.limits.TheConstants.{MAX_LOG_LEN, MAX_TABLES}
use Rattle.papaya_call.specs.declared.ask.At.{At}
use Rattle.papaya_words_law.specs.Allows.{AllAllowed}
use Rattle.papaya_words_law.specs.Class.{IsOn}
use Rattle.papaya_words_law.specs.Code.{Coding, IsHashed}
use Rattle.papaya_words_law.specs.Exchange.{Setting, State as Words, Exchange, run, start}
use Rattle.papaya_words_law.specs.Grows.{Agrees, Comes}
use Rattle.papaya_words_law.specs.Invariant.{IsKeeping, named}
use Rattle.papaya_words_law.specs.Meaning.{map_left}
use Rattle.papaya_words_law.proofs.Grows.{all_carries, map_of_carries}
use Rattle.papaya_words_law.proofs.Logs.{on_comes}
use Rattle.papaya_words_law.proofs.Moments.{allowed_first, allowed_rest, run-append}
use Rattle.papaya_words_law.proofs.OneMap.{keeping, start_keeps}
use Rattle.papaya_call_law.specs.Relies.{IsModeOf, change_in}
use Rattle.papaya_call_law.specs.TrueAnswers.{IsOneOf, word_of}
use Rattle.papaya_call.specs.declared.chain.resizer.Resizer.{Resizer}
use Rattle.papaya_call_law.specs.ChainRelies.{Relies}
use Rattle.papaya_call_law.specs.Resizers.{ReliesResizer}
use Rattle.papaya_call_law.specs.ChainAnswers.{LoadedPairs}
use Rattle.papaya_call_law.proofs.Stable.{all_carries as relies_carries, all_stable}
use Rattle.papaya_core_store.specs.declared.pairs.Part.{Part}
use Rattle.papaya_core_store.specs.declared.pairs.Running.{Running}
use Rattle.papaya_core_store.specs.Pairs.{key_in, value_at, value_in}
use Rattle.papaya_core_store.specs.Store.{Stored, pair_of}
use Rattle.papaya_core_store.specs.Tables.{hint_at, word_at}
use Rattle.papaya_core_timeline.specs.declared.seat.Seat.{Seat}
use Rattle.papaya_core_timeline.specs.declared.seat.Work.{Work}
use Rattle.papaya_core_timeline.specs.declared.seat.Work.TheVariants as works
use Rattle.papaya_core_timeline.specs.Callers.{resizing, running, scanning, with_work}
use Rattle.papaya_core_timeline.specs.Core.{CoreState, IsCore}
use Rattle.papaya_core_timeline.specs.Kept.{IsConsistent, IsCall, IsInArena, IsMade, IsMadeFor, IsResizing}
use Rattle.papaya_core_timeline.specs.Kept.{IsScanning, CallTrace, ScanTrace, setting_of, coding_of, low}
use Rattle.papaya_core_timeline.specs.Kept.{told_more, told_call_traces, scan_trace}
use Rattle.papaya_core_timeline.proofs.CallersLemmas.{differs, resizing-elsewhere, resizing-here, running-elsewhere, running-here, scanning-elsewhere, scanning-here}
use Rattle.papaya_core_timeline.proofs.CoreLemmas.{cases_same}
use Rattle.papaya_core_timeline.proofs.KeptAnswer.{Stands}
use Rattle.papaya_core_timeline.proofs.KeptSettings.{IsLawfulKeys, cut_carries, tables_hashed, grown_agrees}
use Rattle.papaya_core_timeline.proofs.KeptTables.{HasMoreTables}
use Rattle.papaya_core_timeline.proofs.ResizerLaws.{resizer_carries, resizer_stays}
use Rattle.papaya_call_law.specs.Scans.{ReliesScanner}
use Rattle.papaya_call_law.proofs.ScanStable.{state_stable}
use Rattle.papaya_call_law.proofs.ScanTables.{gives_carries, state_carries}
use Rattle.papaya_core_store.specs.declared.scans.Scanning.{Scanning}
use Rattle.papaya_words_law.specs.Hints.{IsHint}
use Rattle.papaya_words_law.specs.Later.{IsLater}
use Rattle.papaya_words_law.proofs.Hints.{hint_agrees, hint_lasts}
use Rattle.papaya_words_law.proofs.Later.{later_run}
use Rattle.papaya_core_timeline.proofs.KeptHints.{KeepsHints}

module _ {K V S A : Type 0} (eq : K → K → Bool) (hash : K → ℕ) (law : IsLawfulKeys eq hash) (s : CoreState K V S A) (caller : ℕ) (s' : CoreState K V S A)
    (mode_is : s'.mode ≡ s.mode) (es : List (Exchange (Stored K V))) (call_traces : ℕ → CallTrace K V) (core : IsCore s.store s.callers s.mode)
    (kept : IsConsistent eq hash s.mode s.store s.callers es call_traces)
    (made : List (Exchange (Stored K V))) (loaded : LoadedPairs (Stored K V)) where
  -- the setting before and after the step, and the coding
  abbrev g : Setting K (Stored K V)
  g = setting_of eq (low hash) s.mode s.store.words.tables

  abbrev g' : Setting K (Stored K V)
  g' = setting_of eq (low hash) s'.mode s'.store.words.tables

  abbrev c : Coding K (Stored K V)
  c = coding_of (low hash)

  -- the exchanges and the traces after it
  abbrev pub es' : List (Exchange (Stored K V))
  es' = es ++ made

  abbrev pub call_traces' : ℕ → CallTrace K V
  call_traces' = told_call_traces call_traces caller made loaded

  -- The effect of a step: each exchange was allowed, the arena and the tables grow, and a pair that
  -- a slot names was in a slot before, or is the stepping call's.
  pub record IsLeaving (Mine : Stored K V → Type 0) : Type 0 where
    pub allowed : AllAllowed g start es'
    pub keys : (at : Part K) (k : K) → key_in s.store.pairs at ≡ Some k → key_in s'.store.pairs at ≡ Some k
    pub values : (at : Part V) (v : V) → value_in s.store.pairs at ≡ Some v → value_in s'.store.pairs at ≡ Some v
    pub logged : (n : ℕ) (p : Stored K V) → pair_of s.store n ≡ Some p → pair_of s'.store n ≡ Some p
    pub few : length s.store.pairs ≤ MAX_LOG_LEN → length s'.store.pairs ≤ MAX_LOG_LEN
    pub tables_few : length s.store.words.tables ≤ MAX_TABLES → length s'.store.words.tables ≤ MAX_TABLES
    pub grown : HasMoreTables s.store.words.tables s'.store.words.tables
    pub coded : (at : At) → word_of g c (run es' start) at ≡ word_at s'.store.words at
    pub hints : KeepsHints g c (run es start) s.store.words s'.store.words
    pub there : (t : ℕ) → 0 < t → Comes (run es' start) t → IsMade s.store t
    pub slots : (t x : ℕ) (p : Stored K V) → named ((run es' start).slot t x) ≡ Some p → Stands (run es start) p ⊎ Mine p
    -- the stepping call's pairs are in the arena, and are no other call's
    pub mine_logged : (p : Stored K V) → Mine p → IsInArena s'.store p
    pub mine_apart : (d : ℕ) (r : Running K V A) → running s.callers d ≡ Some r → d ≢ caller → (p p' : Stored K V) → Mine p
        → IsOneOf (call_traces d).loaded.call.made p' → p.number ≢ p'.number

  module _ {Mine : Stored K V → Type 0} (left : IsLeaving Mine) where
    -- keys are placed by their hashes
    hashed : IsHashed g c
    hashed = tables_hashed eq hash law s.mode s.store.words.tables core.sizes

    -- the tables that have come are as they were
    pub agrees : Agrees (IsOn (run es' start).first (run es' start).next) g g'
    agrees = grown_agrees eq hash s.mode s'.mode s.store.words.tables s'.store.words.tables mode_is left.grown
        (IsOn (run es' start).first (run es' start).next) (λ t on. left.there t on.0 (on_comes (run es' start) t on))

    -- the map is the same in the grown setting
    pub same_map : (k : K) → map_left g' es k ≡ map_left g es k
    same_map k = ap (λ f. f k) (map_of_carries g g' (IsOn (run es' start).first (run es' start).next) agrees es (λ y. None))

    -- a table that was made is still there
    pub still_there : (t : ℕ) → IsMade s.store t → IsMade s'.store t
    still_there t w = let grown = left.grown t w.0 w.1 in (grown.0, grown.1)

    -- and has as many words for chunks
    pub still_made : (t chunks : ℕ) → IsMadeFor s.store t chunks → IsMadeFor s'.store t chunks
    still_made t chunks w = let grown = left.grown t w.0 w.1 in (grown.0, grown.1, subst (λ n. chunks ≤ n) (sym grown.4) w.2)

    -- the exchanges of the step come after those of a trace
    pub longer_split : (call_trace : CallTrace K V) → call_trace.begun ++ call_trace.since ≡ es → call_trace.begun ++ (call_trace.since ++ made) ≡ es'
    longer_split call_trace split = sym (append_assoc call_trace.begun call_trace.since made) ∙ ap (λ l. l ++ made) split

    -- the facts on which a call relies, in the grown setting
    pub grown_relies : (call_trace : CallTrace K V) (split : call_trace.begun ++ call_trace.since ≡ es) (k : K) (m : _)
        (loaded : LoadedPairs (Stored K V)) → Relies g c call_trace.begun (call_trace.since ++ made) k m loaded
        → Relies g' c call_trace.begun (call_trace.since ++ made) k m loaded
    grown_relies call_trace split k m loaded relies =
        let to : es' ≡ call_trace.begun ++ (call_trace.since ++ made) = sym (longer_split call_trace split) in
        relies_carries g g' c hashed call_trace.begun (call_trace.since ++ made) (subst (AllAllowed g start) to left.allowed)
        (subst (λ l. Agrees (IsOn (run l start).first (run l start).next) g g') to agrees) k m loaded relies

    -- and those on which a resizer relies
    pub grown_resizer : (z : Resizer) (loaded : LoadedPairs (Stored K V)) → ReliesResizer g c (run es' start) z loaded
        → ReliesResizer g' c (run es' start) z loaded
    grown_resizer z loaded relies = resizer_carries g g' c (run es' start) (map_left g es') (keeping g hashed.lawful es' left.allowed) agrees z loaded relies

    -- a pair that was in a slot is in the arena
    pub stood_logged : (p : Stored K V) → Stands (run es start) p → IsInArena s'.store p
    stood_logged p (t, x, names) = left.logged p.number p (kept.logged t x p names)

    -- another call's facts
    other_unwritten : (d : ℕ) (r : Running K V A) → running s.callers d ≡ Some r → d ≢ caller → (p : Stored K V)
        → IsOneOf (call_traces d).loaded.call.made p → change_in r.machine.call.state ≡ None → (t x : ℕ) (q : Stored K V)
        → named ((run es' start).slot t x) ≡ Some q → q.number ≢ p.number
    other_unwritten d r runs differ p is_made none t x q names = elim (left.slots t x q names) [
      | inl (u, y, stood) ↦ (kept.calls d r runs).unwritten p is_made none u y q stood
      | inr mine ↦ left.mine_apart d r runs differ q p mine is_made
    ]

    -- its value
    other_value : (value : Option (Part V)) (v : V) → value_at s.store.pairs value ≡ Some v → value_at s'.store.pairs value ≡ Some v
    other_value None v h = let f : None ≡ Some v = h in absurd cc
    other_value (Some part) v h = left.values part v h

    -- so it relies on its trace after the step
    other_call : (d : ℕ) (r : Running K V A) → running s.callers d ≡ Some r → d ≢ caller → (loaded : LoadedPairs (Stored K V))
        → (call_traces d).loaded ≡ loaded → IsCall eq hash s'.mode s'.store r es'
        (record { begun = (call_traces d).begun; since = (call_traces d).since ++ made; loaded = loaded; scan = (call_traces d).scan })
    other_call d r runs differ loaded e =
        let o = kept.calls d r runs in
        let call_trace : CallTrace K V = call_traces d in
        let stays : Relies g c call_trace.begun (call_trace.since ++ made) o.key r.machine call_trace.loaded =
        all_stable g c hashed call_trace.begun call_trace.since made (subst (AllAllowed g start) (sym (longer_split call_trace o.split)) left.allowed)
        o.key r.machine call_trace.loaded o.relies in
        record {
          key = o.key;
          own = left.keys r.key o.key o.own;
          answers = o.answers;
          split = longer_split call_trace o.split;
          relies = subst (Relies g' c call_trace.begun (call_trace.since ++ made) o.key r.machine) e
              (grown_relies call_trace o.split o.key r.machine call_trace.loaded stays);
          last = λ p l. left.logged p.number p (o.last p (ap (λ (y : LoadedPairs (Stored K V)). y.call.last) e ∙ l));
          carried = λ p l. left.logged p.number p (o.carried p (ap (λ (y : LoadedPairs (Stored K V)). y.kept) e ∙ l));
          made = λ p l. left.logged p.number p (o.made p (subst (λ (y : LoadedPairs (Stored K V)). IsOneOf y.call.made p) (sym e) l));
          opens = λ t opening. still_there t (o.opens t opening);
          links = λ behind t chunks linking. still_made t chunks (o.links behind t chunks linking);
          unwritten = λ p l. other_unwritten d r runs differ p (subst (λ (y : LoadedPairs (Stored K V)). IsOneOf y.call.made p) (sym e) l);
          shows = o.shows;
          valued = λ part is. let there = o.valued part is in (there.0, left.values part there.0 there.1);
          again = λ i n stands. elim (o.again i n stands) [
            | inl waits ↦ inl waits
            | inr (p, there, value) ↦ inr (p, left.logged n p there, other_value r.value p.value value)
          ];
        }

    -- and so does another resizer
    other_resizer : (d : ℕ) (z : Resizer) → resizing s.callers d ≡ Some z → (loaded : LoadedPairs (Stored K V)) → (call_traces d).loaded ≡ loaded
        → IsResizing eq hash s'.mode s'.store z es'
        (record { begun = (call_traces d).begun; since = (call_traces d).since ++ made; loaded = loaded; scan = (call_traces d).scan })
    other_resizer d z resizes loaded e =
        let o = kept.resizers d z resizes in
        let stays : ReliesResizer g c (run es' start) z (call_traces d).loaded =
        subst (λ w. ReliesResizer g c w z (call_traces d).loaded) (sym (run-append es made start))
        (resizer_stays g c hashed (run es start) (map_left g es) (keeping g hashed.lawful es (allowed_first g es made start left.allowed)) made
        (allowed_rest g es made start left.allowed) z (call_traces d).loaded o.relies) in
        record {
          relies = subst (ReliesResizer g' c (run es' start) z) e (grown_resizer z (call_traces d).loaded stays);
          last = λ p l. left.logged p.number p (o.last p (ap (λ (y : LoadedPairs (Stored K V)). y.call.last) e ∙ l));
          carried = λ p l. left.logged p.number p (o.carried p (ap (λ (y : LoadedPairs (Stored K V)). y.kept) e ∙ l));
          opens = λ t opening. still_there t (o.opens t opening);
          links = λ behind t chunks linking. still_made t chunks (o.links behind t chunks linking);
        }

    -- and so does another scanner, whose trace continues
    module _ (v : Scanning A) (call_trace : ScanTrace K V) (scans : IsScanning eq hash s.mode s.store v es call_trace) where
      abbrev first : Words (Stored K V)
      first = run call_trace.begun start

      abbrev m : K → Option (Stored K V)
      m = map_left g call_trace.begun

      all_allowed : AllAllowed g start (call_trace.begun ++ (call_trace.since ++ made))
      all_allowed = subst (AllAllowed g start) (ap (λ l. l ++ made) (sym scans.split) ∙ append_assoc call_trace.begun call_trace.since made) left.allowed

      keeps_first : IsKeeping g first m
      keeps_first = keeping g hashed.lawful call_trace.begun (allowed_first g call_trace.begun (call_trace.since ++ made) start all_allowed)

      may_then : AllAllowed g first (call_trace.since ++ made)
      may_then = allowed_rest g call_trace.begun (call_trace.since ++ made) start all_allowed

      longer : call_trace.begun ++ (call_trace.since ++ made) ≡ es'
      longer = sym (append_assoc call_trace.begun call_trace.since made) ∙ ap (λ l. l ++ made) scans.split

      same_then : run (call_trace.since ++ made) first ≡ run es' start
      same_then = sym (run-append call_trace.begun (call_trace.since ++ made) start) ∙ ap (λ l. run l start) longer

      agrees_then : Agrees (IsOn (run (call_trace.since ++ made) first).first (run (call_trace.since ++ made) first).next) g g'
      agrees_then = subst (λ (w : Words (Stored K V)). Agrees (IsOn w.first w.next) g g') (sym same_then) agrees

      map_then : m ≡ map_left g' call_trace.begun
      map_then = sym (map_of_carries g g' (IsOn (run (call_trace.since ++ made) first).first (run (call_trace.since ++ made) first).next) agrees_then
          call_trace.begun (λ k. None))

      relies_then : ReliesScanner g c first m (call_trace.since ++ made) v.scanner call_trace.loaded
      relies_then = record {
        mode = scans.relies.mode;
        cut = scans.relies.cut;
        gives = scans.relies.gives;
        state = state_stable g c first m call_trace.since made hashed keeps_first may_then v.scanner.scan call_trace.loaded v.scanner.state scans.relies.state;
      }

      pub other_scanner : IsScanning eq hash s'.mode s'.store v es' (told_more call_trace made call_trace.loaded)
      other_scanner = record {
        split = longer;
        relies = subst (λ f. ReliesScanner g' c first f (call_trace.since ++ made) v.scanner call_trace.loaded) map_then (record {
          mode = subst (IsModeOf v.scanner.mode) (sym agrees_then.blocking) relies_then.mode;
          cut = cut_carries agrees_then v.scanner.mode relies_then.cut;
          gives = gives_carries g g' c hashed first m keeps_first (call_trace.since ++ made) may_then agrees_then v.scanner.scan call_trace.loaded
              relies_then.gives;
          state = state_carries g g' c hashed first m keeps_first (call_trace.since ++ made) may_then agrees_then v.scanner.scan call_trace.loaded
              v.scanner.state relies_then.state;
        });
        answers = scans.answers;
        given = scans.given;
        last = λ p e. left.logged p.number p (scans.last p e);
        carried = λ p e. left.logged p.number p (scans.carried p e);
        shown = λ p e. left.logged p.number p (scans.shown p e);
        links = λ behind t chunks e. still_made t chunks (scans.links behind t chunks e);
      }

    -- the stepping caller's trace has the record of its answer
    pub own_loaded : (d : ℕ) → d ≡ caller → loaded ≡ (call_traces' d).loaded
    own_loaded d same = sym (ap (λ b. cond b loaded (call_traces d).loaded) (eq-eqb d caller same))

    -- and no other trace changes
    other_loaded : (d : ℕ) → d ≢ caller → (call_traces d).loaded ≡ (call_traces' d).loaded
    other_loaded d differ = sym (ap (λ b. cond b loaded (call_traces d).loaded) (differs d caller differ))

    module _ (work : Option (Work K V A)) (callers : s'.callers ≡ with_work s.callers caller work)
        (own_call : (r : Running K V A) → work ≡ Some (works.Call r) → IsCall eq hash s'.mode s'.store r es' (call_traces' caller))
        (own_resizer : (z : Resizer) → work ≡ Some (works.Resize z) → IsResizing eq hash s'.mode s'.store z es' (call_traces' caller))
        (own_scanner : (v : Scanning A) → work ≡ Some (works.Scan v) → IsScanning eq hash s'.mode s'.store v es' (scan_trace (call_traces' caller)))
        (own_apart : (r : Running K V A) → work ≡ Some (works.Call r) → (d : ℕ) (q : Running K V A) → running s.callers d ≡ Some q → d ≢ caller
        → (p p' : Stored K V) → IsOneOf loaded.call.made p → IsOneOf (call_traces d).loaded.call.made p' → p.number ≢ p'.number) where
      -- the call of another caller is the one of before
      other_runs : (d : ℕ) (r : Running K V A) → d ≢ caller → running s'.callers d ≡ Some r → running s.callers d ≡ Some r
      other_runs d r differ runs = sym (running-elsewhere s.callers caller d work differ) ∙ sym (ap (λ (y : List (Seat K V A)). running y d) callers) ∙ runs

      other_resizes : (d : ℕ) (z : Resizer) → d ≢ caller → resizing s'.callers d ≡ Some z → resizing s.callers d ≡ Some z
      other_resizes d z differ runs = sym (resizing-elsewhere s.callers caller d work differ)
          ∙ sym (ap (λ (y : List (Seat K V A)). resizing y d) callers) ∙ runs

      other_scans : (d : ℕ) (v : Scanning A) → d ≢ caller → scanning s'.callers d ≡ Some v → scanning s.callers d ≡ Some v
      other_scans d v differ runs = sym (scanning-elsewhere s.callers caller d work differ) ∙ sym (ap (λ (y : List (Seat K V A)). scanning y d) callers) ∙ runs

      -- the stepping caller continues with its work
      own_runs : (d : ℕ) (r : Running K V A) → d ≡ caller → running s'.callers d ≡ Some r → work ≡ Some (works.Call r)
      own_runs d r same runs = running-here s.callers caller work r
          (sym (ap (λ (y : List (Seat K V A)). running y caller) callers) ∙ ap (running s'.callers) (sym same) ∙ runs)

      own_resizes : (d : ℕ) (z : Resizer) → d ≡ caller → resizing s'.callers d ≡ Some z → work ≡ Some (works.Resize z)
      own_resizes d z same runs = resizing-here s.callers caller work z
          (sym (ap (λ (y : List (Seat K V A)). resizing y caller) callers) ∙ ap (resizing s'.callers) (sym same) ∙ runs)

      own_scans : (d : ℕ) (v : Scanning A) → d ≡ caller → scanning s'.callers d ≡ Some v → work ≡ Some (works.Scan v)
      own_scans d v same runs = scanning-here s.callers caller work v
          (sym (ap (λ (y : List (Seat K V A)). scanning y caller) callers) ∙ ap (scanning s'.callers) (sym same) ∙ runs)

      -- each call relies on its trace
      calls : (d : ℕ) (r : Running K V A) → running s'.callers d ≡ Some r → IsCall eq hash s'.mode s'.store r es' (call_traces' d)
      calls d r runs = elim (cases_same d caller) [
        | inl same ↦ subst (λ y. IsCall eq hash s'.mode s'.store r es' (call_traces' y)) (sym same) (own_call r (own_runs d r same runs))
        | inr differ ↦ other_call d r (other_runs d r differ runs) differ (call_traces' d).loaded (other_loaded d differ)
      ]

      resizers : (d : ℕ) (z : Resizer) → resizing s'.callers d ≡ Some z → IsResizing eq hash s'.mode s'.store z es' (call_traces' d)
      resizers d z resizes = elim (cases_same d caller) [
        | inl same ↦ subst (λ y. IsResizing eq hash s'.mode s'.store z es' (call_traces' y)) (sym same) (own_resizer z (own_resizes d z same resizes))
        | inr differ ↦ other_resizer d z (other_resizes d z differ resizes) (call_traces' d).loaded (other_loaded d differ)
      ]

      scanners : (d : ℕ) (v : Scanning A) → scanning s'.callers d ≡ Some v → IsScanning eq hash s'.mode s'.store v es' (scan_trace (call_traces' d))
      scanners d v scans = elim (cases_same d caller) [
        | inl same ↦ subst (λ y. IsScanning eq hash s'.mode s'.store v es' (scan_trace (call_traces' y))) (sym same) (own_scanner v (own_scans d v same scans))
        | inr differ ↦ other_scanner v (scan_trace (call_traces d)) (kept.scanners d v (other_scans d v differ scans))
      ]

      -- no two calls have made one pair
      apart : (d e : ℕ) (r q : Running K V A) → running s'.callers d ≡ Some r → running s'.callers e ≡ Some q → d ≢ e → (p p' : Stored K V)
          → IsOneOf (call_traces' d).loaded.call.made p → IsOneOf (call_traces' e).loaded.call.made p' → p.number ≢ p'.number
      apart d e r q runs_d runs_e differ p p' made_d made_e = elim (cases_same d caller) [
        | inl d_steps ↦ elim (cases_same e caller) [
          | inl e_steps ↦ absurd (differ (d_steps ∙ sym e_steps))
          | inr e_not ↦ own_apart r (own_runs d r d_steps runs_d) e q (other_runs e q e_not runs_e) e_not p p'
              (subst (λ (y : LoadedPairs (Stored K V)). IsOneOf y.call.made p) (sym (own_loaded d d_steps)) made_d)
              (subst (λ (y : LoadedPairs (Stored K V)). IsOneOf y.call.made p') (sym (other_loaded e e_not)) made_e)
        ]
        | inr d_not ↦ elim (cases_same e caller) [
          | inl e_steps ↦ (λ same. own_apart q (own_runs e q e_steps runs_e) d r (other_runs d r d_not runs_d) d_not p' p
              (subst (λ (y : LoadedPairs (Stored K V)). IsOneOf y.call.made p') (sym (own_loaded e e_steps)) made_e)
              (subst (λ (y : LoadedPairs (Stored K V)). IsOneOf y.call.made p) (sym (other_loaded d d_not)) made_d) (sym same))
          | inr e_not ↦ kept.apart d e r q (other_runs d r d_not runs_d) (other_runs e q e_not runs_e) differ p p'
              (subst (λ (y : LoadedPairs (Stored K V)). IsOneOf y.call.made p) (sym (other_loaded d d_not)) made_d)
              (subst (λ (y : LoadedPairs (Stored K V)). IsOneOf y.call.made p') (sym (other_loaded e e_not)) made_e)
        ]
      ]

      -- a pair that a slot names is in the arena
      logged : (t x : ℕ) (p : Stored K V) → named ((run es' start).slot t x) ≡ Some p → IsInArena s'.store p
      logged t x p names = elim (left.slots t x p names) [ inl stood ↦ stood_logged p stood | inr mine ↦ left.mine_logged p mine ]

      -- a hint stays true
      hint_later : (n i h : ℕ) → IsHint g c (run es start) n i h → IsHint g' c (run es' start) n i h
      hint_later n i h is =
          let later : IsLater g (run es start) (run es' start) = subst (IsLater g (run es start)) (sym (run-append es made start))
          (later_run g hashed.lawful made (run es start) (allowed_rest g es made start left.allowed)) in
          hint_agrees g g' c (λ p. refl) ((run es' start).slot n i) h (hint_lasts g c hashed.coding (run es start) (run es' start) later n i h is)

      hints : (n i : ℕ) → IsHint g' c (run es' start) n i (hint_at s'.store.words n i)
      hints n i = elim (left.hints n i) [
        | inl same ↦ hint_later n i (hint_at s'.store.words n i) (subst (IsHint g c (run es start) n i) (sym same) (kept.hints n i))
        | inr may ↦ hint_later n i (hint_at s'.store.words n i) may
      ]

      -- the core after the step
      pub leaves_kept : IsConsistent eq hash s'.mode s'.store s'.callers es' call_traces'
      leaves_kept = record {
        allowed = all_carries g hashed.lawful g' es' start (λ k. None) (start_keeps g hashed.lawful) left.allowed agrees;
        coded = left.coded;
        hints = hints;
        made = λ t some comes. still_there t (left.there t some comes);
        logged = logged;
        few = left.few kept.few;
        tables_few = left.tables_few kept.tables_few;
        calls = calls;
        resizers = resizers;
        scanners = scanners;
        apart = apart;
      }
