-- The invariant of the core, for a new core, for the begin of a call and for a step.
use Rattle.std.proofs.Common.{◌≡◌, ◌≢◌, ℕ, zero, suc, ◌==◌, ◌≤◌, ◌^◌, max, Bool, List, []}
use Rattle.std.proofs.Common.{slice_get, Option, Some, None, ◌⊎◌, inl, inr, refl, sym, ◌∙◌, ap}
use Rattle.std.proofs.Common.{subst}
use Rattle.std.proofs.lemmas.Bool.{cases_Bool, eqb-true, eqb-false}
use Rattle.std.specs.Int.{IsPowerOfTwo}
use Rattle.papaya_words.specs.declared.resize_mode.ResizeMode.{ResizeMode}
use Rattle.papaya_words.specs.declared.resize_mode.ResizeMode.TheVariants.{Incremental, Blocking}
use Rattle.papaya_call.specs.Answers.{Says}
use Rattle.papaya_call.specs.declared.ask.Ask.TheVariants.{Done as Ask_done}
use Rattle.papaya_call.specs.declared.call.Reply.{Reply}
use Rattle.papaya_words.specs.Mode.{IsChunked}
use Rattle.papaya_call.specs.declared.chain.ask.Ask.{Ask}
use Rattle.papaya_call.specs.declared.chain.ask.Ask.TheVariants as asks
use Rattle.papaya_call.specs.declared.chain.ask.Answer.{Answer}
use Rattle.papaya_call.specs.declared.chain.machine.Machine.{Machine}
use Rattle.papaya_call.specs.ChainMachine.{IsValid, IsFitAsk, ask_of, started}
use Rattle.papaya_call.specs.declared.call.Call.{Call}
use Rattle.papaya_core_timeline.specs.Advances.{reply_in}
use Rattle.papaya_core_timeline.specs.Begins.{begun_work}
use Rattle.papaya_call.specs.declared.chain.resizer.Resize.{Resize}
use Rattle.papaya_call.specs.declared.chain.resizer.Resize.TheVariants as resizes
use Rattle.papaya_call.specs.declared.chain.resizer.Resizer.{Resizer}
use Rattle.papaya_call.specs.Resizer.{IsValidIn, IsValidResizer, reply_of}
use Rattle.papaya_call.specs.Resizer as resizers
use Rattle.papaya_call.specs.Link.{IsFitCopyAsk}
use Rattle.papaya_call.specs.declared.copy_ask.CopyAsk.{CopyAsk}
use Rattle.papaya_core_store.specs.CopyAsks.{PerformsCopy}
use Rattle.papaya_core_timeline.specs.declared.seat.Work.{Work}
use Rattle.papaya_core_timeline.specs.declared.seat.Work.TheVariants as works
use Rattle.papaya_core_timeline.proofs.Begun.{call_begun, resizer_begun_is, scanner_begun_is}
use Rattle.papaya_core_store.specs.declared.pairs.Running.{Running}
use Rattle.papaya_core_timeline.specs.declared.seat.Seat.{Seat}
use Rattle.papaya_core_timeline.specs.Callers.{resizing, running, scanning, with_seat, with_work}
use Rattle.papaya_core_store.specs.Tables.{Tables}
use Rattle.papaya_core_store.specs.Store.{StoreState}
use Rattle.papaya_call_law.proofs.ChainStanding.{started_stands}
use Rattle.papaya_core_store.specs.Asks.{PerformsAsk}
use Rattle.papaya_core_timeline.specs.Core.{IsCore, IsGoing}
use Rattle.papaya_core_store.specs.New.{HasCapacity}
use Rattle.papaya_words_keys.proofs.TableSizes.{table_size}
use Rattle.papaya_core_timeline.proofs.CallersLemmas.{resizing-elsewhere, resizing-here}
use Rattle.papaya_core_timeline.proofs.CallersLemmas.{resizing-with_seat, running-elsewhere}
use Rattle.papaya_core_timeline.proofs.CallersLemmas.{running-here, running-with_seat}
use Rattle.papaya_core_timeline.proofs.CallersLemmas.{scanning-elsewhere, scanning-here}
use Rattle.papaya_core_timeline.proofs.CallersLemmas.{scanning-with_seat}
use Rattle.papaya_call.specs.Scanner as scanners
use Rattle.papaya_core_store.specs.declared.scans.Scanning.{Scanning}
use Rattle.papaya_core_timeline.proofs.StoreLemmas.{AllSized, numbered, unnumbered, performed_ask, performed_copy, append-sized}
use Rattle.papaya_core_store.specs.declared.store.Mode.{Mode}
use Rattle.papaya_call.specs.Made.{IsLimit}

-- two numbers are the same or they differ
pub cases_same : (a b : ℕ) → (a ≡ b) ⊎ (a ≢ b)
cases_same a b = elim (cases_Bool (a == b)) [ inl same ↦ inl (eqb-true a b same) | inr other ↦ inr (eqb-false a b other) ]

-- a machine continues unless its ask is a reply
pub still_going : (m : Machine) → reply_in (ask_of m) ≡ None → IsGoing m
still_going m none reply e = let f : Some reply ≡ None = sym (ap reply_in e) ∙ none in cc

-- a reply that is in an ask is the ask's
pub reply_asked : (ask : Ask) (reply : Reply) → reply_in ask ≡ Some reply → ask ≡ asks.Call (Ask_done reply)
reply_asked (asks.Call (Ask_done r)) reply e = let same : r ≡ reply = cc in ap (λ y. asks.Call (Ask_done y)) same
reply_asked ask reply e = let f : None ≡ Some reply = e in absurd cc

-- a call that begins is valid, and has not replied
pub begun-core : {K V A : Type 0} (hash : K → ℕ) (mode : Mode) (initial number : ℕ) (call : Call K V A) → IsChunked mode.resize → IsLimit mode.limit
    → IsPowerOfTwo initial
    → ((r : Running K V A) → begun_work hash mode initial number call ≡ works.Call r → IsValid r.machine × IsGoing r.machine)
    × ((z : Resizer) → begun_work hash mode initial number call ≡ works.Resize z → IsValidResizer z × (reply_of z ≡ None))
begun-core {K} {V} {A} hash mode initial number call chunked limits power = (
  λ r e. let is = call_begun hash mode initial number call r e in
      subst (λ (y : Running K V A). IsValid y.machine × IsGoing y.machine) (sym is.is) (
        started_stands is.task (hash is.key) mode.resize initial number mode.limit limits chunked power,
        still_going
            (started is.task (hash is.key) mode.resize initial number mode.limit) refl,
      ),
  λ z e. let is = resizer_begun_is hash mode initial number call z e in
      subst (λ (y : Resizer). IsValidResizer y × (reply_of y ≡ None)) (sym is.is)
      (record { chunked = chunked; initial = power; state = standing_begun is.resize }, unreplied is.resize),
)
  where
    standing_begun : (resize : Resize) → IsValidIn (resizers.begun_in resize)
    standing_begun resizes.Chunk = tt
    standing_begun resizes.CopyAll = tt
    standing_begun (resizes.Reserve more) = tt

    unreplied : (resize : Resize) → resizers.reply_in (resizers.begun_in resize) ≡ None
    unreplied resizes.Chunk = refl
    unreplied resizes.CopyAll = refl
    unreplied (resizes.Reserve more) = refl

-- so is one that scans a table
pub begun-scanner : {K V A : Type 0} (hash : K → ℕ) (mode : Mode) (initial number : ℕ) (call : Call K V A) → IsChunked mode.resize
    → IsPowerOfTwo initial → (v : Scanning A) → begun_work hash mode initial number call ≡ works.Scan v → scanners.IsValidScanner v.scanner
    × (scanners.reply_of v.scanner ≡ None)
begun-scanner {A = A} hash mode initial number call chunked power v e =
    let is = scanner_begun_is hash mode initial number call v e in
    subst (λ (y : Scanning A). scanners.IsValidScanner y.scanner × (scanners.reply_of y.scanner ≡ None)) (sym is.is)
    (record { chunked = chunked; initial = power; state = standing_in mode.resize }, unreplied mode.resize)
  where
    standing_in : (mode : ResizeMode) → scanners.IsValidIn (scanners.begun_in mode)
    standing_in (Incremental chunk) = tt
    standing_in Blocking = tt

    unreplied : (mode : ResizeMode) → scanners.reply_in (scanners.begun_in mode) ≡ None
    unreplied (Incremental chunk) = refl
    unreplied Blocking = refl

module _ {K V S A : Type 0} where
  -- work was put into a seat, or taken out of it
  pub with_work-core : (store : StoreState K V S) (callers : List (Seat K V A)) (mode : Mode) (caller : ℕ) (work : Option (Work K V A))
      → IsCore store callers mode → ((r : Running K V A) → work ≡ Some (works.Call r) → IsValid r.machine × IsGoing r.machine)
      → ((z : Resizer) → work ≡ Some (works.Resize z) → IsValidResizer z × (reply_of z ≡ None))
      → ((v : Scanning A) → work ≡ Some (works.Scan v) → scanners.IsValidScanner v.scanner × (scanners.reply_of v.scanner ≡ None))
      → IsCore store (with_work callers caller work) mode
  with_work-core store callers mode caller work core stands resizes scans = record {
    chunked = core.chunked;
    limit = core.limit;
    sizes = core.sizes;
    valid = λ other r e. elim (cases_same other caller) [
      | inl same ↦ (stands r (running-here callers caller work r (subst (λ (d : ℕ). running (with_work callers caller work) d ≡ Some r) same e))).0
      | inr differ ↦ core.valid other r (sym (running-elsewhere callers caller other work differ) ∙ e)
    ];
    going = λ other r e. elim (cases_same other caller) [
      | inl same ↦ (stands r (running-here callers caller work r (subst (λ (d : ℕ). running (with_work callers caller work) d ≡ Some r) same e))).1
      | inr differ ↦ core.going other r (sym (running-elsewhere callers caller other work differ) ∙ e)
    ];
    resizers = λ other z e. elim (cases_same other caller) [
      | inl same ↦ resizes z (resizing-here callers caller work z (subst (λ (d : ℕ). resizing (with_work callers caller work) d ≡ Some z) same e))
      | inr differ ↦ core.resizers other z (sym (resizing-elsewhere callers caller other work differ) ∙ e)
    ];
    scanners = λ other v e. elim (cases_same other caller) [
      | inl same ↦ scans v (scanning-here callers caller work v (subst (λ (d : ℕ). scanning (with_work callers caller work) d ≡ Some v) same e))
      | inr differ ↦ core.scanners other v (sym (scanning-elsewhere callers caller other work differ) ∙ e)
    ];
  }

  -- a caller's work was taken out of its seat
  pub without-core : (store : StoreState K V S) (callers : List (Seat K V A)) (mode : Mode) (caller : ℕ) → IsCore store callers mode
      → IsCore store (with_work callers caller None) mode
  without-core store callers mode caller core = with_work-core store callers mode caller None core (λ r e. absurd cc) (λ z e. absurd cc) (λ v e. absurd cc)

  -- a caller got a seat
  pub with_seat-core : (store : StoreState K V S) (callers : List (Seat K V A)) (mode : Mode) (caller : ℕ) → IsCore store callers mode
      → IsCore store (with_seat callers caller) mode
  with_seat-core store callers mode caller core = record {
    chunked = core.chunked;
    limit = core.limit;
    sizes = core.sizes;
    valid = λ other r e. core.valid other r (sym (running-with_seat callers caller other) ∙ e);
    going = λ other r e. core.going other r (sym (running-with_seat callers caller other) ∙ e);
    resizers = λ other z e. core.resizers other z (sym (resizing-with_seat callers caller other) ∙ e);
    scanners = λ other v e. core.scanners other v (sym (scanning-with_seat callers caller other) ∙ e);
  }

  -- an ask of a caller was answered
  pub performed-core : (eq : K → K → Bool) (says : Says K V A) (hash : S → K → ℕ) (refuse : Bool) (store : StoreState K V S)
      (callers : List (Seat K V A)) (mode : Mode) (r : Running K V A) (a : Answer) (store' : StoreState K V S) (later : Running K V A)
      → IsCore store callers mode → IsFitAsk (ask_of r.machine) → PerformsAsk eq says hash refuse (ask_of r.machine) store r a store' later
      → IsCore store' callers mode
  performed-core eq says hash refuse store callers mode r a store' later core fit performs = record {
    chunked = core.chunked;
    limit = core.limit;
    sizes = numbered store'.words.tables (performed_ask eq hash says refuse (ask_of r.machine) store r a store' later
        (unnumbered store.words.tables core.sizes) fit performs).sized;
    valid = core.valid;
    going = core.going;
    resizers = core.resizers;
    scanners = core.scanners;
  }

  -- the same for an ask of a copy
  pub copied-core : (eq : K → K → Bool) (hash : S → K → ℕ) (refuse : Bool) (ask : CopyAsk) (store : StoreState K V S) (callers : List (Seat K V A))
      (mode : Mode) (a : Answer) (store' : StoreState K V S) → IsCore store callers mode → IsFitCopyAsk ask
      → PerformsCopy eq hash refuse ask store a store' → IsCore store' callers mode
  copied-core eq hash refuse ask store callers mode a store' core fit performs = record {
    chunked = core.chunked;
    limit = core.limit;
    sizes = numbered store'.words.tables (performed_copy eq hash refuse ask store a store' (unnumbered store.words.tables core.sizes) fit performs).sized;
    valid = core.valid;
    going = core.going;
    resizers = core.resizers;
    scanners = core.scanners;
  }

no-tables : (words : Tables) → words ≡ record { root = 0; tables = []; made = 0 } → AllSized words.tables
no-tables words e i t there = let f : None ≡ Some t = sym (ap (λ (w : Tables). slice_get w.tables i) e) ∙ there in cc

-- a core as it is made
pub new-sized : (capacity initial : ℕ) (words : Tables) → IsPowerOfTwo initial → initial ≤ 2 ^ 32 → HasCapacity capacity initial words → AllSized words.tables
new-sized zero initial words power most e = no-tables words e
new-sized (suc n) initial words power most (limit, is, e) =
    subst (λ (w : Tables). AllSized w.tables) (sym e)
    (append-sized [] 1 (max initial 8) limit 0 (table_size initial limit power most is) (no-tables (record { root = 0; tables = []; made = 0 }) refl))

pub new-core : {K V S A : Type 0} (store : StoreState K V S) (callers : List (Seat K V A)) (mode : Mode) (capacity initial : ℕ)
    → IsChunked mode.resize → IsLimit mode.limit → IsPowerOfTwo initial → initial ≤ 2 ^ 32 → HasCapacity capacity initial store.words → callers ≡ []
    → IsCore store callers mode
new-core store callers mode capacity initial chunked limits power most words none = record {
  chunked = chunked;
  limit = limits;
  sizes = numbered store.words.tables (new-sized capacity initial store.words power most words);
  valid = λ caller r e. let f : None ≡ Some r = sym (ap (λ (y : List (Seat _ _ _)). running y caller) none) ∙ e in cc;
  going = λ caller r e. let f : None ≡ Some r = sym (ap (λ (y : List (Seat _ _ _)). running y caller) none) ∙ e in absurd cc;
  resizers = λ caller z e. let f : None ≡ Some z = sym (ap (λ (y : List (Seat _ _ _)). resizing y caller) none) ∙ e in absurd cc;
  scanners = λ caller v e. let f : None ≡ Some v = sym (ap (λ (y : List (Seat _ _ _)). scanning y caller) none) ∙ e in absurd cc;
}
