-- A removal by a query that matches no pair of the arena: the facts that hold between two of its
-- answers.
use Rattle.std.proofs.Common.{◌≡◌, ◌⊎◌, ℕ, ◌^◌, ◌<◌, Bool, false, Option, None, Some, List, [], ◌++◌, length, refl, sym, subst, arith, append-nil}
use Rattle.std.proofs.Math.Pow.{pow_pos}
use Rattle.papaya_words.specs.Table.{TableWords}
use Rattle.papaya_words.specs.declared.resize_mode.ResizeMode.{ResizeMode}
use Rattle.papaya_words.specs.declared.resize_mode.ResizeMode.TheVariants.{Incremental, Blocking}
use Rattle.papaya_words.specs.declared.refused.Refused.{Refused}
use Rattle.papaya_call.specs.Search.{IsSize}
use Rattle.papaya_call.specs.declared.ask.At.{At}
use Rattle.papaya_call.specs.declared.ask.At.TheVariants.{Root, Next, Aborted, Done, Slot, Made}
use Rattle.papaya_call.specs.declared.call.Reply.TheVariants.{Absent, Refused as Reply_refused}
use Rattle.papaya_call.specs.declared.call.Task.TheVariants.{RemoveIf}
use Rattle.papaya_call.specs.declared.machine.State.{State}
use Rattle.papaya_call.specs.declared.machine.State.TheVariants.{AtRoot, Searching, Leaving, Ended}
use Rattle.papaya_call.specs.declared.chain.machine.Machine.{Machine}
use Rattle.papaya_call.specs.ChainMachine.{IsValid, started}
use Rattle.papaya_call.specs.declared.copy.link.Link.TheVariants.{Linking}
use Rattle.papaya_call_law.specs.Goes.{link_in}
use Rattle.papaya_call_law.specs.ChainRelies.{Relies}
use Rattle.papaya_call_law.specs.ChainAnswers.{nothing_loaded}
use Rattle.papaya_call_law.proofs.ChainStanding.{started_stands}
use Rattle.papaya_call_alone.specs.Ahead.{IsCurrent}
use Rattle.papaya_words_law.specs.Code.{Coding, IsHashed}
use Rattle.papaya_words_law.specs.Exchange.{Setting, State as Words, Word, Empty, Closed, Live, Marked, Copied, Buried}
use Rattle.papaya_words_law.specs.Hints.{IsHintOf}
use Rattle.papaya_words_law.specs.Further.{IsLawfulKey, coding_with, with_key}
use Rattle.papaya_words_law.proofs.Further.{key_code, key_lawful}
use Rattle.papaya_call_law.specs.Relies.{IsModeOf}
use Rattle.papaya_call_law.proofs.ReliesLearnPairs.{wanted_relies}
use Rattle.papaya_call_law.specs.TrueAnswers.{IsOneOf, word_of}
use Rattle.papaya_core_store.specs.Store.{StoreState, Stored}
use Rattle.papaya_core_store.specs.Tables.{table_of, word_at}
use Rattle.papaya_core_timeline.specs.Core.{IsCore}
use Rattle.papaya_call_law.specs.ScanAnswers as scans
use Rattle.papaya_core_timeline.specs.Kept.{CallTrace, IsConsistent, IsInArena, IsMadeFor, coding_of, is_blocking, low, setting_of, slots_in}
use Rattle.papaya_core_timeline.proofs.KeptSettings.{IsLawfulKeys, tables_hashed}
use Rattle.papaya_seq.proofs.CallLengths.{IsLong, long_begun}
use Rattle.papaya_seq.proofs.Numbered.{begun_number}
use Rattle.papaya_seq.specs.Map.{IsLawfulMap, MapState, Unchanged}

-- the call searches for its key and has met no pair with it, or ended so, or was refused a table
abbrev pub Seeks : State → Type 0
Seeks AtRoot = Unit {0}
Seeks (Searching search) = Unit {0}
Seeks (Leaving t) = Unit {0}
Seeks (Ended reply) = (reply ≡ Absent) ⊎ ((refused : Refused) × (reply ≡ Reply_refused refused))
Seeks _ = ⊥

-- a call resizes as its setting does
mode_of : (mode : ResizeMode) → IsModeOf mode (is_blocking mode)
mode_of (Incremental chunk) = refl
mode_of Blocking = refl

-- a table has a slot at least
sized_slot : (o : Option TableWords) → ((t : TableWords) → o ≡ Some t → IsSize (length t.slots) t.limit) → 0 < slots_in o
sized_slot None sized = omega arith
sized_slot (Some t) sized = let power = (sized t refl).power in subst (λ n. 0 < n) (sym power.1) (pow_pos power.0)

module _ {K V S : Type 0} (eq : K → K → Bool) (hash : S → K → ℕ) (s : MapState K V S) (h : ℕ) where
  -- the setting of the map's own keys, and that with the query, which equals no key of the map
  abbrev pub own_setting : List TableWords → Setting K (Stored K V)
  own_setting tables = setting_of eq (low (hash s.store.hasher)) s.mode tables

  abbrev pub own_coding : Coding K (Stored K V)
  own_coding = coding_of (low (hash s.store.hasher))

  abbrev pub sought_setting : List TableWords → Setting (Option K) (Stored K V)
  sought_setting tables = with_key (own_setting tables) (λ k. false) h

  abbrev pub sought_coding : Coding (Option K) (Stored K V)
  sought_coding = coding_with own_coding h

  -- The facts between two answers: only the words may be others, by exchanges of copies.
  pub record IsSeeking (store : StoreState K V S) (m : Machine) : Type 0 where
    pub call_trace : CallTrace K V
    pub core : IsCore {A = Unit {0}} store [] s.mode
    pub kept : IsConsistent {A = Unit {0}} eq (hash s.store.hasher) s.mode store [] (call_trace.begun ++ call_trace.since) (λ d. call_trace)
    pub relies : Relies (sought_setting store.words.tables) sought_coding call_trace.begun call_trace.since None m call_trace.loaded
    pub last : (p : Stored K V) → call_trace.loaded.call.last ≡ Some p → IsInArena store p
    pub carried : (p : Stored K V) → call_trace.loaded.kept ≡ Some p → IsInArena store p
    pub made : (p : Stored K V) → IsOneOf call_trace.loaded.call.made p → IsInArena store p
    pub links : (behind t chunks : ℕ) → link_in m.phase ≡ Some (Linking behind t chunks) → IsMadeFor store t chunks
    pub valid : IsValid m
    pub current : IsCurrent (word_at store.words) m
    pub task : m.call.task ≡ RemoveIf
    pub hash_is : m.call.hash ≡ h
    pub seeks : Seeks m.call.state
    pub logs : store ≡ record s.store { words = store.words }
    -- no number was taken for a pair
    pub taken : store.words.made ≡ s.store.words.made
    pub same : Unchanged eq s.store store
    pub long : IsLong s store m

  -- a word has the number that it had
  pub sought_word : (tables : List TableWords) (z : Words (Stored K V)) (at : At)
      → word_of (sought_setting tables) sought_coding z at ≡ word_of (own_setting tables) own_coding z at
  sought_word tables z Root = refl
  sought_word tables z Made = refl
  sought_word tables z (Next t) = refl
  sought_word tables z (Aborted t) = refl
  sought_word tables z (Done t chunk) = refl
  sought_word tables z (Slot t x) = key_code (own_setting tables) (λ k. false) h own_coding (z.slot t x)

  -- and a slot the hints that it had
  pub sought_hint : (tables : List TableWords) (w : Word (Stored K V)) (n : ℕ) → IsHintOf (own_setting tables) own_coding w n
      → IsHintOf (sought_setting tables) sought_coding w n
  sought_hint tables Empty n h = h
  sought_hint tables Closed n h = h
  sought_hint tables (Live p) n h = h
  sought_hint tables (Marked p) n h = h
  sought_hint tables (Copied p) n h = h
  sought_hint tables (Buried p) n h = h

  pub own_hint : (tables : List TableWords) (w : Word (Stored K V)) (n : ℕ) → IsHintOf (sought_setting tables) sought_coding w n
      → IsHintOf (own_setting tables) own_coding w n
  own_hint tables Empty n h = h
  own_hint tables Closed n h = h
  own_hint tables (Live p) n h = h
  own_hint tables (Marked p) n h = h
  own_hint tables (Copied p) n h = h
  own_hint tables (Buried p) n h = h

  module _ (keys : IsLawfulKeys eq (hash s.store.hasher)) (fits : h < 2 ^ 64) where
    -- the map's own keys are placed by their hashes
    pub own_hashed : (store : StoreState K V S) → IsCore {A = Unit {0}} store [] s.mode → IsHashed (own_setting store.words.tables) own_coding
    own_hashed store core = tables_hashed eq (hash s.store.hasher) keys s.mode store.words.tables core.sizes

    -- and so is the query
    pub sought_hashed : (store : StoreState K V S) → IsCore {A = Unit {0}} store [] s.mode → IsHashed (sought_setting store.words.tables) sought_coding
    sought_hashed store core =
        let g = own_setting store.words.tables in
        let form : IsLawfulKey g own_coding (λ k. false) h = record { class = λ k e. absurd cc; hash_is = λ k e. absurd cc; hash_fits = fits } in
        key_lawful g (λ k. false) h own_coding (own_hashed store core) form (λ t. sized_slot (table_of store.words.tables t) (λ w e. core.sizes t w e))

    -- a removal that begins
    pub seek_begin : (number : ℕ) → IsLawfulMap eq (hash s.store.hasher) s.store s.mode s.initial
        → IsSeeking s.store (started RemoveIf h s.mode.resize s.initial number s.mode.limit)
    seek_begin number lawful =
        let (es, (call_traces, kept)) = lawful.lawful.law in
        let call_trace : CallTrace K V = record { begun = es; since = []; loaded = nothing_loaded; scan = scans.nothing_loaded } in
        let same_es : es ≡ es ++ [] = sym (append-nil es) in
        let core = lawful.lawful.core in
        record {
          call_trace = call_trace;
          core = core;
          kept = subst (λ l. IsConsistent {A = Unit {0}} eq (hash s.store.hasher) s.mode s.store [] l (λ d. call_trace)) same_es
              (record {
                allowed = kept.allowed;
                coded = kept.coded;
                hints = kept.hints;
                made = kept.made;
                logged = kept.logged;
                few = kept.few;
                tables_few = kept.tables_few;
                calls = λ d r e. absurd cc;
                resizers = λ d z e. absurd cc;
                scanners = λ d v e.
                    absurd cc;
                apart = λ d e r q x. absurd cc;
              });
          relies = record {
            cut = λ x. refl;
            call = record {
              hash = refl;
              mode = mode_of s.mode.resize;
              made = record {
                keys = λ q l. absurd l;
                limit = refl;
                number_is = wanted_relies (sought_setting s.store.words.tables) sought_coding es
                    [] None s.mode.limit;
                own_is = tt;
                of_is = tt;
                fill_is = tt;
                choice_is = tt;
              };
              stage = tt;
            };
            phase = tt;
          };
          last = λ p l. absurd cc;
          carried = λ p l. absurd cc;
          made = λ p l. absurd l;
          links = λ behind t chunks l. absurd cc;
          valid = started_stands RemoveIf h s.mode.resize s.initial number s.mode.limit core.limit core.chunked lawful.power;
          current = record { number = begun_number s.mode.limit (λ at. word_at s.store.words at); read = (tt, tt) };
          task = refl;
          hash_is = refl;
          seeks = tt;
          logs = refl;
          taken = refl;
          same = λ k. refl;
          long = long_begun s lawful.long (started RemoveIf h s.mode.resize s.initial number s.mode.limit) refl refl;
        }
