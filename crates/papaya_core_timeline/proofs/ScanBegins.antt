-- The facts on which a call that scans a table relies as it begins.
use Rattle.std.proofs.Common.{◌≡◌, ℕ, Bool, List, [], append-nil, refl, sym, subst}
use Rattle.papaya_words.specs.declared.resize_mode.ResizeMode.{ResizeMode}
use Rattle.papaya_words.specs.declared.resize_mode.ResizeMode.TheVariants.{Incremental, Blocking}
use Rattle.papaya_call.specs.declared.copy.link.Link.TheVariants as links
use Rattle.papaya_words_law.specs.Code.{Coding}
use Rattle.papaya_words_law.specs.Exchange.{Setting, Exchange, run, start}
use Rattle.papaya_words_law.specs.Meaning.{map_left}
use Rattle.papaya_call_law.specs.Relies.{IsModeOf}
use Rattle.papaya_core_store.specs.Store.{Stored}
use Rattle.papaya_core_timeline.specs.Core.{CoreState}
use Rattle.papaya_core_timeline.proofs.KeptSettings.{mode_cut}
use Rattle.papaya_core_timeline.specs.Kept.{HasAnswers, IsScanLink, IsScanning, coding_of, is_blocking, low, setting_of}
use Rattle.papaya_call.specs.declared.chain.scanner.Scan.{Scan}
use Rattle.papaya_call.specs.declared.chain.scanner.Scan.TheVariants.{Clear, Retain, Walk}
use Rattle.papaya_call.specs.declared.chain.scanner.Scanner.{Scanner}
use Rattle.papaya_call.specs.Scanner.{begun, begun_in}
use Rattle.papaya_call_law.specs.ScanAnswers.{nothing_loaded}
use Rattle.papaya_call_law.specs.Scans.{GivesNone, ReliesScanner, ReliesState}
use Rattle.papaya_core_store.specs.declared.scans.Scanning.{Scanning}

-- a core's machines resize as its setting does
mode_of : (mode : ResizeMode) → IsModeOf mode (is_blocking mode)
mode_of (Incremental chunk) = refl
mode_of Blocking = refl

-- a scan that begins is about to link no table
begun_none : (mode : ResizeMode) (behind t chunks : ℕ) → IsScanLink (begun_in mode) (links.Linking behind t chunks) → ⊥
begun_none (Incremental chunk) behind t chunks h = h
begun_none Blocking behind t chunks h = h

module _ {K V S A : Type 0} (eq : K → K → Bool) (hash : K → ℕ) (s : CoreState K V S A) (es : List (Exchange (Stored K V))) (scan : Scan)
    (initial number : ℕ) where
  abbrev g_now : Setting K (Stored K V)
  g_now = setting_of eq (low hash) s.mode s.store.words.tables

  abbrev c_now : Coding K (Stored K V)
  c_now = coding_of (low hash)

  -- it copies all tables first, or loads the root
  state_begins : (mode : ResizeMode) → IsModeOf mode g_now.blocking
      → ReliesState g_now c_now (run es start) (map_left g_now es) [] scan nothing_loaded (begun_in mode)
  state_begins (Incremental chunk) is = (refl, tt, tt)
  state_begins Blocking is = (refl, is)

  gives_none : (scan : Scan) → GivesNone g_now c_now (run es start) (map_left g_now es) [] scan nothing_loaded
  gives_none Walk = tt
  gives_none Clear = refl
  gives_none Retain = refl

  -- so it relies on the exchanges as they are
  pub scan_begins : (v : Scanning A) → v.scanner ≡ begun scan s.mode.resize initial number → HasAnswers scan v.answers → v.given ≡ []
      → IsScanning eq hash s.mode s.store v es (record { begun = es; since = []; loaded = nothing_loaded })
  scan_begins v is answers none = record {
    split = append-nil es;
    relies = subst (λ w. ReliesScanner g_now c_now (run es start) (map_left g_now es) [] w nothing_loaded) (sym is)
        (record {
          mode = mode_of s.mode.resize;
          cut = mode_cut s.mode.resize;
          gives = gives_none scan;
          state = state_begins s.mode.resize
              (mode_of s.mode.resize);
        });
    answers = subst (λ (w : Scanner). HasAnswers w.scan v.answers) (sym is) answers;
    given = none;
    last = λ p e. absurd cc;
    carried = λ p e. absurd cc;
    shown = λ p h. absurd h;
    links = λ behind t chunks h. absurd (begun_none s.mode.resize behind t chunks
        (subst (λ (w : Scanner). IsScanLink w.state (links.Linking behind t chunks)) is h));
  }
