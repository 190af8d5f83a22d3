-- The facts that a scan relies on stay true, whatever others exchange.
use Rattle.std.proofs.Common.{◌≡◌, inl, inr, ⊎_elim, ℕ, suc, true, Option, None, Some, List, ◌++◌, append_assoc, sym, ap, ◌∙◌, subst}
use Rattle.papaya_call.specs.declared.chain.resizer.ResizerState.{ResizerState as Stage}
use Rattle.papaya_call.specs.declared.chain.resizer.ResizerState.TheVariants as stages
use Rattle.papaya_words_law.specs.Allows.{AllAllowed}
use Rattle.papaya_words_law.specs.Code.{Coding, IsHashed}
use Rattle.papaya_words_law.specs.Exchange.{Setting, State as Words, Exchange, run}
use Rattle.papaya_words_law.specs.Invariant.{IsKeeping}
use Rattle.papaya_words_law.specs.Meaning.{map_of}
use Rattle.papaya_words_law.proofs.Later.{later_run}
use Rattle.papaya_words_law.proofs.Moments.{allowed_first, allowed_rest, run-append}
use Rattle.papaya_words_law.proofs.OneMap.{run_keeps}
use Rattle.papaya_call_law.specs.Resizers.{ReliesStage}
use Rattle.papaya_call_law.proofs.ResizerRelies.{stage_stable}
use Rattle.papaya_call.specs.declared.chain.scanner.Spot.{Spot}
use Rattle.papaya_call.specs.declared.chain.scanner.ScannerState.{ScannerState}
use Rattle.papaya_call.specs.declared.chain.scanner.ScannerState.TheVariants.{Copying, AtRoot, Sizing, Looking, Giving, Showing, Burying, Uncounting, Done, Refused}
use Rattle.papaya_call.specs.declared.chain.scanner.Scan.{Scan}
use Rattle.papaya_call.specs.declared.chain.scanner.Scan.TheVariants.{Clear, Retain, Walk}
use Rattle.papaya_call_law.specs.ScanAnswers.{LoadedPairs}
use Rattle.papaya_call_law.specs.Scans.{HasScanned, IsMeeting, IsOfAll, IsScanning, IsTaking, MayTake, ReliesState, Takes}
use Rattle.papaya_call_law.proofs.ScanSlots.{met_stable, moment_stable, scanned_stable}
use Rattle.papaya_call_law.proofs.ScanTaken.{taken_stable}

module _ {K P : Type 0} (g : Setting K P) (c : Coding K P) (s : Words P) (m : K → Option P) (since more : List (Exchange P)) where
  -- a state during the call is followed by the new exchanges too
  more_behind : (es fs : List (Exchange P)) → es ++ fs ≡ since → es ++ (fs ++ more) ≡ since ++ more
  more_behind es fs is = sym (append_assoc es fs more) ∙ ap (λ l. l ++ more) is

  pub taking_stable : (table : ℕ) (loaded : LoadedPairs P) (es fs : List (Exchange P)) → IsTaking g c s m since table loaded es fs
      → IsTaking g c s m (since ++ more) table loaded es (fs ++ more)
  taking_stable table loaded es fs r = record {
    is = more_behind es fs r.is;
    moment = r.moment;
    root = r.root;
    some = r.some;
    last = r.last;
    given = λ p one. moment_stable g (map_of g m es) fs more (g.key p) (Some p) (r.given p one);
  }

  pub scanning_stable : (scan : Scan) (loaded : LoadedPairs P) (table upto : ℕ) → IsScanning g c s m since scan loaded table upto
      → IsScanning g c s m (since ++ more) scan loaded table upto
  scanning_stable scan loaded table upto r = record {
    es = r.es;
    fs = r.fs ++ more;
    taken = taking_stable table loaded r.es r.fs r.taken;
    each = λ k. scanned_stable g (run r.es s) (map_of g m r.es) table r.fs more scan loaded upto k (r.each k);
  }

  meeting_stable : (scan : Scan) (loaded : LoadedPairs P) (spot : Spot) (word : ℕ) → IsMeeting g c s m since scan loaded spot word
      → IsMeeting g c s m (since ++ more) scan loaded spot word
  meeting_stable scan loaded spot word r = record {
    es = r.es;
    fs = r.fs ++ more;
    taken = taking_stable spot.table loaded r.es r.fs r.taken;
    pair = r.pair;
    told = r.told;
    number = r.number;
    had = moment_stable g (map_of g m r.es) r.fs more (g.key r.pair) (Some r.pair) r.had;
    each = λ k. met_stable g (run r.es s) (map_of g m r.es) spot.table r.fs more scan loaded spot.slot r.pair k (r.each k);
  }

  -- the end stays
  over_stable : (scan : Scan) (loaded : LoadedPairs P) → HasScanned g c s m since scan loaded → HasScanned g c s m (since ++ more) scan loaded
  over_stable Walk loaded r = record {
    es = r.es;
    fs = r.fs ++ more;
    is = more_behind r.es r.fs r.is;
    moment = r.moment;
    last = r.last;
    given = λ p one. moment_stable g (map_of g m r.es) r.fs more (g.key p) (Some p) (r.given p one);
    each = λ k. ⊎_elim (λ none. inl (moment_stable g (map_of g m r.es) r.fs more k None none)) (λ once. inr once) (r.each k);
  }
  over_stable Clear loaded r = λ k. ⊎_elim (λ none. inl none) (λ taken. inr (taken_stable g since more k taken)) (r k)
  over_stable Retain loaded r = λ k. ⊎_elim (λ none. inl none) (⊎_elim (λ taken. inr (inl (taken_stable g since more k taken))) (λ kept. inr (inr kept))) (r k)

  module _ (hashed : IsHashed g c) (keeps : IsKeeping g s m) (may : AllAllowed g s (since ++ more)) where
    -- the copy of all
    stage_more : (stage : Stage) (loaded : LoadedPairs P) → ReliesStage g c (run since s) loaded.copy stage
        → ReliesStage g c (run (since ++ more) s) loaded.copy stage
    stage_more stage loaded r = subst (λ w. ReliesStage g c w loaded.copy stage) (sym (run-append since more s))
        (stage_stable g c hashed (run since s) (map_of g m since) (run_keeps g hashed.lawful since s m keeps (allowed_first g since more s may)) more
        (allowed_rest g since more s may) loaded.copy stage r)

    -- a table that was the root was it for good
    was_more : (table : ℕ) → (run since s).was_root table ≡ true → (run (since ++ more) s).was_root table ≡ true
    was_more table was = subst (λ w. w.was_root table ≡ true) (sym (run-append since more s))
        ((later_run g hashed.lawful more (run since s) (allowed_rest g since more s may)).was table was)

    all_more : (stage : Stage) → IsOfAll g c s m since stage → IsOfAll g c s m (since ++ more) stage
    all_more stages.AtRoot r = tt
    all_more (stages.Looking root len room) r = (was_more root r.0, r.1)
    all_more (stages.Copying from copying) r = tt
    all_more (stages.Making room) r = absurd r
    all_more (stages.Opening table) r = absurd r
    all_more (stages.Sizing root) r = absurd r
    all_more (stages.Counting root len) r = absurd r
    all_more (stages.Linking link) r = absurd r
    all_more stages.Done r = absurd r
    all_more (stages.Refused refused) r = absurd r

    pub state_stable : (scan : Scan) (loaded : LoadedPairs P) (state : ScannerState) → ReliesState g c s m since scan loaded state
        → ReliesState g c s m (since ++ more) scan loaded state
    state_stable scan loaded (Copying stage) r = (r.0, all_more stage r.1, stage_more stage loaded r.2)
    state_stable scan loaded AtRoot r = r
    state_stable scan loaded (Sizing table) r = (r.0, scanning_stable scan loaded table 0 r.1)
    state_stable scan loaded (Looking spot) r = (r.0, scanning_stable scan loaded spot.table spot.slot r.1)
    state_stable scan loaded (Giving spot word) r = (r.0, r.1, meeting_stable scan loaded spot word r.2)
    state_stable scan loaded (Showing spot word) r = (r.0, r.1, r.2, meeting_stable scan loaded spot word r.3)
    state_stable scan loaded (Burying spot word) r = (r.0, r.1, take_stable scan r.2, scanning_stable scan loaded spot.table spot.slot r.3)
      where
        take_stable : (scan : Scan) → MayTake g c s m since scan loaded word → MayTake g c s m (since ++ more) scan loaded word
        take_stable Walk t = absurd t
        take_stable Clear t = tt
        take_stable Retain t = t
    state_stable scan loaded (Uncounting spot) r = (r.0, takes_stable scan r.1, scanning_stable scan loaded spot.table (suc spot.slot) r.2)
      where
        takes_stable : (scan : Scan) → Takes g c s m since scan → Takes g c s m (since ++ more) scan
        takes_stable Walk t = absurd t
        takes_stable Clear t = tt
        takes_stable Retain t = tt
    state_stable scan loaded Done r = over_stable scan loaded r
    state_stable scan loaded (Refused refused) r = tt
