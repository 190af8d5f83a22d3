-- The words of a new core obey the law of exchanges, and they still do after a call begins.
use Rattle.std.proofs.Common.{◌≡◌, ◌≢◌, ℕ, zero, suc, ◌-◌, ◌==◌, ◌<◌, ◌≤◌, ◌^◌, Bool, true, false}
use Rattle.std.proofs.Common.{cond, max, List, [], ◌∷◌, length, Some, None, inl, inr, refl, sym}
use Rattle.std.proofs.Common.{◌∙◌, ap, subst, arith, append-nil, eq-eqb, mod-eq_of_lt, slice_get}
use Rattle.std.proofs.Common.{slice_index}
use Rattle.papaya_words.specs.Table.{TableWords, new_table}
use Rattle.papaya_words.specs.declared.limits.TheConstants.{MAX_LOG_LEN}
use Rattle.papaya_words.specs.declared.resize_mode.ResizeMode.{ResizeMode}
use Rattle.papaya_words.specs.declared.resize_mode.ResizeMode.TheVariants.{Incremental, Blocking}
use Rattle.papaya_call.specs.declared.ask.At.{At}
use Rattle.papaya_call.specs.declared.ask.At.TheVariants.{Root, Next, Aborted, Done, Slot, Made}
use Rattle.papaya_call.specs.declared.call.Call.{Call}
use Rattle.papaya_words_law.specs.Exchange.{Exchange, Open, run, start}
use Rattle.papaya_call_law.specs.Relies.{IsModeOf}
use Rattle.papaya_call_law.specs.TrueAnswers.{IsOneOf, word_of}
use Rattle.papaya_call_law.specs.ChainAnswers.{nothing_loaded}
use Rattle.papaya_core_store.specs.declared.pairs.Pair.{Pair}
use Rattle.papaya_core_store.specs.declared.pairs.Running.{Running}
use Rattle.papaya_core_timeline.specs.declared.seat.Seat.{Seat}
use Rattle.papaya_call.specs.declared.chain.resizer.Resize.{Resize}
use Rattle.papaya_call.specs.declared.chain.resizer.Resize.TheVariants.{Chunk, CopyAll, Reserve}
use Rattle.papaya_call.specs.declared.chain.resizer.Resizer.{Resizer}
use Rattle.papaya_call.specs.declared.chain.resizer.ResizerState.TheVariants.{Opening}
use Rattle.papaya_call.specs.Resizer.{begun_in}
use Rattle.papaya_call_law.specs.Resizers.{HasLink}
use Rattle.papaya_call.specs.declared.copy.link.Link.{Link}
use Rattle.papaya_call.specs.declared.copy.link.Link.TheVariants.{Linking}
use Rattle.papaya_core_timeline.specs.declared.seat.Work.{Work}
use Rattle.papaya_core_timeline.specs.declared.seat.Work.TheVariants as works
use Rattle.papaya_core_timeline.specs.Begins.{begun_work, value_of_call}
use Rattle.papaya_core_timeline.specs.Callers.{resizing, running, scanning, with_seat, with_work}
use Rattle.papaya_core_timeline.specs.Maps.{key_of}
use Rattle.papaya_core_timeline.proofs.Begun.{IsBegun, IsResizeBegun, IsScanBegun, begun_stands, call_begun, handed_there, resizer_begun_is, scanner_begun_is}
use Rattle.papaya_core_timeline.proofs.ResizerLaws.{resizer_begins}
use Rattle.papaya_core_timeline.specs.Core.{CoreState}
use Rattle.papaya_core_timeline.specs.Kept.{HasAnswers, IsConsistent, IsCall, IsResizing, IsScanning}
use Rattle.papaya_core_timeline.specs.Kept.{CallTrace, is_blocking, setting_of, coding_of, low}
use Rattle.papaya_core_timeline.specs.Kept.{begun_call_traces, scan_trace}
use Rattle.papaya_core_store.specs.New.{HasCapacity}
use Rattle.papaya_core_store.specs.Store.{StoreState, Stored}
use Rattle.papaya_core_store.specs.Tables.{Tables, hint_at, slot_hint, table_of, word_at, word_in}
use Rattle.papaya_core_timeline.proofs.CallersLemmas.{differs, resizing-elsewhere, resizing-here}
use Rattle.papaya_core_timeline.proofs.CallersLemmas.{resizing-with_seat, running-elsewhere}
use Rattle.papaya_core_timeline.proofs.CallersLemmas.{running-here, running-with_seat, same_item}
use Rattle.papaya_core_timeline.proofs.CallersLemmas.{scanning-elsewhere, scanning-here}
use Rattle.papaya_core_timeline.proofs.CallersLemmas.{scanning-with_seat}
use Rattle.papaya_core_timeline.proofs.CoreLemmas.{cases_same}
use Rattle.papaya_core_timeline.proofs.KeptClosures.{begun_answers}
use Rattle.papaya_core_timeline.proofs.KeptSettings.{mode_cut}
use Rattle.papaya_core_timeline.proofs.KeptTables.{word-made}
use Rattle.papaya_core_timeline.proofs.ScanBegins.{scan_begins}
use Rattle.papaya_call_law.specs.ScanAnswers as scans
use Rattle.papaya_core_store.specs.declared.scans.Scanning.{Scanning}
use Rattle.papaya_core_timeline.proofs.KeptHints.{made-hints}
use Rattle.papaya_core_store.specs.declared.store.Mode.{Mode}
use Rattle.papaya_call_law.specs.Says.{Makes}
use Rattle.papaya_call_law.proofs.ReliesLearnPairs.{wanted_relies}

-- a core's machines resize as its setting does
mode_of : (mode : ResizeMode) → IsModeOf mode (is_blocking mode)
mode_of (Incremental chunk) = refl
mode_of Blocking = refl

-- words without a table
no_words : (at : At) → 0 ≡ word_at (record { root = 0; tables = []; made = 0 }) at
no_words Root = refl
no_words Made = refl
no_words (Next n) = elim (n == 0) as (λ b. 0 ≡ word_in (λ t. t.next) (cond b None (slice_get {X = TableWords} [] (n - 1)))) [ true ↦ refl | false ↦ refl ]
no_words (Aborted n) = elim (n == 0) as (λ b. 0 ≡ word_in (λ t. t.aborted) (cond b None (slice_get {X = TableWords} [] (n - 1)))) [ true ↦ refl | false ↦ refl ]
no_words (Done n c) = elim (n == 0) as (λ b. 0 ≡ word_in (λ t. slice_index t.done c) (cond b None (slice_get {X = TableWords} [] (n - 1))))
    [ true ↦ refl | false ↦ refl ]
no_words (Slot n i) = elim (n == 0) as (λ b. 0 ≡ word_in (λ t. slice_index t.slots i) (cond b None (slice_get {X = TableWords} [] (n - 1))))
    [ true ↦ refl | false ↦ refl ]

-- nor a hint
no_hints : (n i : ℕ) → hint_at (record { root = 0; tables = []; made = 0 }) n i ≡ 0
no_hints n i = elim (n == 0) as (λ b. word_in (λ t. slot_hint t i) (cond b None (slice_get {X = TableWords} [] (n - 1))) ≡ 0) [ true ↦ refl | false ↦ refl ]

module _ {K V S A : Type 0} (eq : K → K → Bool) (hash : K → ℕ) where
  module _ (s : CoreState K V S A) (caller : ℕ) (call : Call K V A) (fits : (k : K) → key_of call ≡ Some k → hash k < 2 ^ 64) (number : ℕ)
      (es : List (Exchange (Stored K V))) (call_traces : ℕ → CallTrace K V) (kept : IsConsistent eq hash s.mode s.store s.callers es call_traces) where
    -- the call as it begins, with its trace, and the callers at that point
    abbrev work : Work K V A
    work = begun_work hash s.mode s.initial number call

    -- its trace: nothing was exchanged since
    abbrev new_call_trace : CallTrace K V
    new_call_trace = record { begun = es; since = []; loaded = nothing_loaded; scan = scans.nothing_loaded }

    -- the callers at that point
    abbrev callers' : List (Seat K V A)
    callers' = with_work (with_seat s.callers caller) caller (Some work)

    -- the traces at that point
    abbrev call_traces' : ℕ → CallTrace K V
    call_traces' = begun_call_traces call_traces caller es

    -- a call on one key relies on the exchanges as they are
    new_call : (r : Running K V A) → IsBegun hash s.mode s.initial number call r → IsCall eq hash s.mode s.store r es new_call_trace
    new_call r x = subst (λ (y : Running K V A). IsCall eq hash s.mode s.store y es new_call_trace) (sym x.is) (record {
      key = x.key;
      own = refl;
      answers = begun_answers call x.task x.task_is;
      split = append-nil es;
      relies = record {
        cut = mode_cut s.mode.resize;
        call = record {
          hash = sym (mod-eq_of_lt (fits x.key x.key_is));
          mode = mode_of s.mode.resize;
          made = record {
            keys = λ q l. absurd l;
            limit = refl;
            number_is = wanted_relies (setting_of eq (low hash) s.mode s.store.words.tables)
                (coding_of (low hash)) es [] x.key s.mode.limit;
            own_is = tt;
            of_is = tt;
            fill_is = tt;
            choice_is = tt;
          };
          stage = tt;
        };
        phase = tt;
      };
      last = λ p l. absurd cc;
      carried = λ p l. absurd cc;
      made = λ p l. absurd l;
      opens = λ t l. absurd cc;
      links = λ behind t chunks l. absurd cc;
      unwritten = λ p l. absurd l;
      shows = tt;
      valued = λ part is. handed_there s.store.pairs (value_of_call call) part is;
      again = λ i n stands. absurd (begun_stands x.task (hash x.key) s.mode.resize s.initial s.mode.limit (Makes (Some i) n) stands);
    })

    -- a call that resizes the map relies on nothing
    new_resizer : (z : Resizer) → IsResizeBegun hash s.mode s.initial number call z → IsResizing eq hash s.mode s.store z es new_call_trace
    new_resizer z x = subst (λ (y : Resizer). IsResizing eq hash s.mode s.store y es new_call_trace) (sym x.is) (record {
      relies = resizer_begins (setting_of eq (low hash) s.mode s.store.words.tables) (coding_of (low hash)) (run es start) nothing_loaded x.resize
          s.mode.resize s.initial number (mode_of s.mode.resize) (mode_cut s.mode.resize);
      last = λ p l. absurd cc;
      carried = λ p l. absurd cc;
      opens = λ t l. absurd (unopened x.resize t l);
      links = λ behind t chunks l. absurd (unlinked x.resize (Linking behind t chunks) l);
    })
      where
        unopened : (resize : Resize) (t : ℕ) → begun_in resize ≡ Opening t → ⊥
        unopened Chunk t e = absurd cc
        unopened CopyAll t e = absurd cc
        unopened (Reserve more) t e = absurd cc

        unlinked : (resize : Resize) (link : Link) → HasLink (begun_in resize) link → ⊥
        unlinked Chunk link e = absurd cc
        unlinked CopyAll link e = absurd e
        unlinked (Reserve more) link e = absurd e

    -- and so does one that scans a table
    new_scanner : (v : Scanning A) → IsScanBegun hash s.mode s.initial number call v → IsScanning eq hash s.mode s.store v es (scan_trace new_call_trace)
    new_scanner v x = scan_begins eq hash s es x.scan s.initial number v (ap (λ (y : Scanning A). y.scanner) x.is)
        (subst (λ (y : Scanning A). HasAnswers x.scan y.answers) (sym x.is) x.has) (ap (λ (y : Scanning A). y.given) x.is)

    -- its trace is the new one
    new_is : (d : ℕ) → d ≡ caller → new_call_trace ≡ call_traces' d
    new_is d same = sym (ap (λ b. cond b new_call_trace (call_traces d)) (eq-eqb d caller same))

    -- the other callers' traces stay
    other_is : (d : ℕ) → d ≢ caller → call_traces d ≡ call_traces' d
    other_is d differ = sym (ap (λ b. cond b new_call_trace (call_traces d)) (differs d caller differ))

    -- and so do their calls
    other_runs : (d : ℕ) (q : Running K V A) → d ≢ caller → running callers' d ≡ Some q → running s.callers d ≡ Some q
    other_runs d q differ runs = sym (running-with_seat s.callers caller d)
        ∙ sym (running-elsewhere (with_seat s.callers caller) caller d (Some work) differ) ∙ runs

    other_resizes : (d : ℕ) (z : Resizer) → d ≢ caller → resizing callers' d ≡ Some z → resizing s.callers d ≡ Some z
    other_resizes d z differ resizes = sym (resizing-with_seat s.callers caller d)
        ∙ sym (resizing-elsewhere (with_seat s.callers caller) caller d (Some work) differ) ∙ resizes

    other_scans : (d : ℕ) (v : Scanning A) → d ≢ caller → scanning callers' d ≡ Some v → scanning s.callers d ≡ Some v
    other_scans d v differ scans = sym (scanning-with_seat s.callers caller d)
        ∙ sym (scanning-elsewhere (with_seat s.callers caller) caller d (Some work) differ) ∙ scans

    -- each call relies on its trace
    calls : (d : ℕ) (q : Running K V A) → running callers' d ≡ Some q → IsCall eq hash s.mode s.store q es (call_traces' d)
    calls d q runs = elim (cases_same d caller) [
      | inl same ↦
          let f : Some work ≡ Some (works.Call q) = running-here (with_seat s.callers caller) caller (Some work) q (ap (running callers') (sym same) ∙ runs) in
          subst (IsCall eq hash s.mode s.store q es) (new_is d same)
          (new_call q (call_begun hash s.mode s.initial number call q (same_item work (works.Call q) f)))
      | inr differ ↦ subst (IsCall eq hash s.mode s.store q es) (other_is d differ) (kept.calls d q (other_runs d q differ runs))
    ]

    resizers : (d : ℕ) (z : Resizer) → resizing callers' d ≡ Some z → IsResizing eq hash s.mode s.store z es (call_traces' d)
    resizers d z resizes = elim (cases_same d caller) [
      | inl same ↦
          let f : Some work ≡ Some (works.Resize z) = resizing-here (with_seat s.callers caller) caller (Some work) z
          (ap (resizing callers') (sym same) ∙ resizes) in
          subst (IsResizing eq hash s.mode s.store z es) (new_is d same)
          (new_resizer z (resizer_begun_is hash s.mode s.initial number call z (same_item work (works.Resize z) f)))
      | inr differ ↦ subst (IsResizing eq hash s.mode s.store z es) (other_is d differ) (kept.resizers d z (other_resizes d z differ resizes))
    ]

    scanners : (d : ℕ) (v : Scanning A) → scanning callers' d ≡ Some v → IsScanning eq hash s.mode s.store v es (scan_trace (call_traces' d))
    scanners d v scans = elim (cases_same d caller) [
      | inl same ↦
          let f : Some work ≡ Some (works.Scan v) = scanning-here (with_seat s.callers caller) caller (Some work) v
          (ap (scanning callers') (sym same) ∙ scans) in
          subst (λ (y : CallTrace K V). IsScanning eq hash s.mode s.store v es (scan_trace y)) (new_is d same)
          (new_scanner v (scanner_begun_is hash s.mode s.initial number call v (same_item work (works.Scan v) f)))
      | inr differ ↦ subst (λ (y : CallTrace K V). IsScanning eq hash s.mode s.store v es (scan_trace y)) (other_is d differ)
          (kept.scanners d v (other_scans d v differ scans))
    ]

    -- no two calls have made one pair
    apart : (d e : ℕ) (q q' : Running K V A) → running callers' d ≡ Some q → running callers' e ≡ Some q' → d ≢ e → (p p' : Stored K V)
        → IsOneOf (call_traces' d).loaded.call.made p → IsOneOf (call_traces' e).loaded.call.made p' → p.number ≢ p'.number
    apart d e q q' runs_d runs_e differ p p' made_d made_e = elim (cases_same d caller) [
      | inl begins ↦ absurd (subst (λ (y : CallTrace K V). IsOneOf y.loaded.call.made p) (sym (new_is d begins)) made_d)
      | inr d_not ↦ elim (cases_same e caller) [
        | inl begins ↦ absurd (subst (λ (y : CallTrace K V). IsOneOf y.loaded.call.made p') (sym (new_is e begins)) made_e)
        | inr e_not ↦ kept.apart d e q q' (other_runs d q d_not runs_d) (other_runs e q' e_not runs_e) differ p p'
            (subst (λ (y : CallTrace K V). IsOneOf y.loaded.call.made p) (sym (other_is d d_not)) made_d)
            (subst (λ (y : CallTrace K V). IsOneOf y.loaded.call.made p') (sym (other_is e e_not)) made_e)
      ]
    ]

    -- the core after the begin
    pub begin_kept : IsConsistent eq hash s.mode s.store callers' es call_traces'
    begin_kept = record {
      allowed = kept.allowed;
      coded = kept.coded;
      hints = kept.hints;
      made = kept.made;
      logged = kept.logged;
      few = kept.few;
      tables_few = kept.tables_few;
      calls = calls;
      resizers = resizers;
      scanners = scanners;
      apart = apart;
    }

module _ {K V S : Type 0} (A : Type 0) (eq : K → K → Bool) (hash : K → ℕ) where
  module _ (mode : Mode) (store : StoreState K V S) (pairs : store.pairs ≡ []) (call_traces : ℕ → CallTrace K V) where
    -- a core with these words, in which nobody called yet
    abbrev IsFresh : Tables → List (Exchange (Stored K V)) → Type 0
    IsFresh words es = IsConsistent {A = A} eq hash mode (record store { words = words }) [] es call_traces

    few : length store.pairs ≤ MAX_LOG_LEN
    few = subst (λ (l : List (Pair K V)). length l ≤ MAX_LOG_LEN) (sym pairs) (omega arith)

    -- without a table nothing was exchanged
    empty_kept : IsFresh (record { root = 0; tables = []; made = 0 }) []
    empty_kept = record {
      allowed = tt;
      coded = coded;
      hints = no_hints;
      made = λ t some comes. absurd (elim comes [ inl first ↦ (let f : 0 ≡ t = first in omega arith) | inr (u, next) ↦ (let f : 0 ≡ t = next in omega arith) ]);
      logged = λ t x p l. absurd cc;
      few = few;
      tables_few = omega arith;
      calls = λ d q l. absurd cc;
      resizers = λ d z l. absurd cc;
      scanners = λ d v l. absurd cc;
      apart = λ d e q q' l. absurd cc;
    }
      where
        coded : (at : At) → word_of (setting_of {V = V} eq (low hash) mode []) (coding_of (low hash)) start at ≡ word_at
            (record { root = 0; tables = []; made = 0 }) at
        coded Root = refl
        coded Made = refl
        coded (Next n) = no_words (Next n)
        coded (Aborted n) = no_words (Aborted n)
        coded (Done n c) = no_words (Done n c)
        coded (Slot n i) = no_words (Slot n i)

    -- with its first table that one was opened
    opened_kept : (len limit : ℕ) → IsFresh (record { root = 1; tables = new_table 1 len limit 0 ∷ []; made = 0 }) (Open 1 ∷ [])
    opened_kept len limit = record {
      allowed = ((refl, omega arith), tt);
      coded = coded;
      hints = λ n i. made-hints (record { root = 0; tables = []; made = 0 }) 1 len limit 0 n i ∙ no_hints n i;
      made = λ t some comes. elim comes [
        | inl first ↦ (new_table 1 len limit 0, subst (λ y. table_of (new_table 1 len limit 0 ∷ []) y ≡ Some (new_table 1 len limit 0)) first refl)
        | inr (u, next) ↦ absurd (let f : 0 ≡ t = next in omega arith)
      ];
      logged = λ t x p l. absurd cc;
      few = few;
      tables_few = omega arith;
      calls = λ d q l. absurd cc;
      resizers = λ d z l. absurd cc;
      scanners = λ d v l. absurd cc;
      apart = λ d e q q' l. absurd cc;
    }
      where
        -- but for the root each word is 0
        none : (at : At) → (at ≡ Root → ⊥) → 0 ≡ word_at (record { root = 1; tables = new_table 1 len limit 0 ∷ []; made = 0 }) at
        none Root other = absurd (other refl)
        none Made other = refl
        none (Next n) other = no_words (Next n) ∙ sym (word-made (record { root = 0; tables = []; made = 0 }) 1 len limit 0 (Next n))
        none (Aborted n) other = no_words (Aborted n) ∙ sym (word-made (record { root = 0; tables = []; made = 0 }) 1 len limit 0 (Aborted n))
        none (Done n c) other = no_words (Done n c) ∙ sym (word-made (record { root = 0; tables = []; made = 0 }) 1 len limit 0 (Done n c))
        none (Slot n i) other = no_words (Slot n i) ∙ sym (word-made (record { root = 0; tables = []; made = 0 }) 1 len limit 0 (Slot n i))

        coded : (at : At) → word_of (setting_of {V = V} eq (low hash) mode (new_table 1 len limit 0 ∷ [])) (coding_of (low hash))
            (run (Open 1 ∷ []) start) at ≡ word_at (record { root = 1; tables = new_table 1 len limit 0 ∷ []; made = 0 }) at
        coded Root = refl
        coded Made = refl
        coded (Next n) = none (Next n) (λ f. absurd cc)
        coded (Aborted n) = none (Aborted n) (λ f. absurd cc)
        coded (Done n c) = none (Done n c) (λ f. absurd cc)
        coded (Slot n i) = none (Slot n i) (λ f. absurd cc)

    -- a core as it is made, after no exchange or after its first table was opened
    pub new_kept : (capacity initial : ℕ) → HasCapacity capacity initial store.words → (es : List (Exchange (Stored K V)))
        × IsConsistent {A = A} eq hash mode store [] es call_traces
    new_kept zero initial none = ([], subst (λ (w : Tables). IsFresh w []) (sym none) empty_kept)
    new_kept (suc n) initial (limit, is, opened) =
        (Open 1 ∷ [], subst (λ (w : Tables). IsFresh w (Open 1 ∷ [])) (sym opened) (opened_kept (max initial 8) limit))
