-- The facts that a scan relies on stay true, whatever tables are made later.
use Rattle.std.proofs.Common.{◌≡◌, inl, inr, ⊎_elim, ℕ, suc, ◌<◌, cond, Option, None, Some, List, [], ◌∷◌, refl, sym, ap, ◌∙◌, subst}
use Rattle.papaya_call.specs.declared.chain.resizer.ResizerState.{ResizerState as Stage}
use Rattle.papaya_call.specs.declared.chain.resizer.ResizerState.TheVariants as stages
use Rattle.papaya_words_law.specs.Allows.{AllAllowed}
use Rattle.papaya_words_law.specs.Class.{IsOn}
use Rattle.papaya_words_law.specs.Code.{Coding, IsHashed}
use Rattle.papaya_words_law.specs.Exchange.{Setting, State as Words, Exchange, Open, Claim, Replace}
use Rattle.papaya_words_law.specs.Exchange.{Bury, Link, Mark, Close, Place, Finish, Advance, Promote}
use Rattle.papaya_words_law.specs.Exchange.{Abort, Take, run}
use Rattle.papaya_words_law.specs.Grows.{Agrees}
use Rattle.papaya_words_law.specs.Invariant.{IsKeeping}
use Rattle.papaya_words_law.specs.Meaning.{IsAtMoment, map_of}
use Rattle.papaya_words_law.specs.View.{held}
use Rattle.papaya_words_law.proofs.Carries.{look_agrees}
use Rattle.papaya_words_law.proofs.Grows.{agrees_on_fewer, map_of_carries, on_run}
use Rattle.papaya_words_law.proofs.OneMap.{keeping_sound}
use Rattle.papaya_call_law.proofs.ResizerRelies.{stage_carries}
use Rattle.papaya_call.specs.declared.chain.scanner.Spot.{Spot}
use Rattle.papaya_call.specs.declared.chain.scanner.ScannerState.{ScannerState}
use Rattle.papaya_call.specs.declared.chain.scanner.ScannerState.TheVariants.{Copying, AtRoot, Sizing, Looking, Giving, Showing, Burying, Uncounting, Done, Refused}
use Rattle.papaya_call.specs.declared.chain.scanner.Scan.{Scan}
use Rattle.papaya_call.specs.declared.chain.scanner.Scan.TheVariants.{Clear, Retain, Walk}
use Rattle.papaya_call_law.specs.ScanTaken.{IsTakenOut, takes_out}
use Rattle.papaya_call_law.specs.ScanAnswers.{LoadedPairs, count_of}
use Rattle.papaya_call_law.specs.Scans.{GivesNone, HasScanned, IsDealtWith, IsHeldIn, IsMeeting}
use Rattle.papaya_call_law.specs.Scans.{IsMetIn, IsOfAll, IsOut, IsPairOf, IsScannedTo, IsScanning}
use Rattle.papaya_call_law.specs.Scans.{IsSpot, IsTaking, MayTake, ReliesState, Takes}
use Rattle.papaya_call_law.proofs.ScanAsks.{keeps_since, keeps_then, may_then, now_is, table_on}

module _ {K P : Type 0} (g g' : Setting K P) (On : ℕ → Type 0) (agrees : Agrees On g g') where
  -- a pair is a key's or not
  same_key : (k : K) (p : P) → g'.same k (g'.key p) ≡ g.same k (g.key p)
  same_key k p = agrees.same k (g'.key p) ∙ ap (g.same k) (agrees.key p)

  -- the exchanges that take out a key's pair
  takes_carries : (e : Exchange P) (k : K) → takes_out g' e k ≡ takes_out g e k
  takes_carries (Replace t x p q) k = same_key k p
  takes_carries (Bury t x p) k = same_key k p
  takes_carries (Open t) k = refl
  takes_carries (Claim t x p) k = refl
  takes_carries (Link t n) k = refl
  takes_carries (Mark t x p) k = refl
  takes_carries (Close t x) k = refl
  takes_carries (Place n x p) k = refl
  takes_carries (Finish t x p) k = refl
  takes_carries (Advance n chunk) k = refl
  takes_carries (Promote t n) k = refl
  takes_carries (Abort n) k = refl
  takes_carries (Take m) k = refl

  taken_carries : (fs : List (Exchange P)) (k : K) → IsTakenOut g fs k → IsTakenOut g' fs k
  taken_carries fs k r = record { so_far = r.so_far; by = r.by; rest = r.rest; is = r.is; out = takes_carries r.by k ∙ r.out }

  -- the number of pairs that have a key
  count_carries : (ps : List P) (k : K) → count_of g' ps k ≡ count_of g ps k
  count_carries [] k = refl
  count_carries (p ∷ older) k = ap (λ b. cond b (suc (count_of g' older k)) (count_of g' older k)) (same_key k p)
      ∙ ap (λ n. cond (g.same k (g.key p)) (suc n) n) (count_carries older k)

  -- a value that the map had at some point, it had at that point in the further setting
  moment_carries : (m : K → Option P) (fs : List (Exchange P)) (k : K) (v : Option P) → IsAtMoment g m fs k v → IsAtMoment g' m fs k v
  moment_carries m fs k v r = record {
    so_far = r.so_far;
    rest = r.rest;
    is = r.is;
    value_is = ap (λ f. f k)
        (map_of_carries g g' On agrees r.so_far m) ∙ r.value_is;
  }

  -- so too of the map that a list left, and of a pair's own key
  moment_after : (m : K → Option P) (es fs : List (Exchange P)) (k : K) (v : Option P) → IsAtMoment g (map_of g m es) fs k v
      → IsAtMoment g' (map_of g' m es) fs k v
  moment_after m es fs k v r = subst (λ f. IsAtMoment g' f fs k v) (sym (map_of_carries g g' On agrees es m)) (moment_carries (map_of g m es) fs k v r)

  moment_pair : (m : K → Option P) (es fs : List (Exchange P)) (p : P) → IsAtMoment g (map_of g m es) fs (g.key p) (Some p)
      → IsAtMoment g' (map_of g' m es) fs (g'.key p) (Some p)
  moment_pair m es fs p r = subst (λ k. IsAtMoment g' (map_of g' m es) fs k (Some p)) (sym (agrees.key p)) (moment_after m es fs (g.key p) (Some p) r)

  module _ (s : Words P) (m : K → Option P) (fs : List (Exchange P)) (table : ℕ)
      (held_carries : (k : K) (slot : ℕ) → IsHeldIn g s table k slot → IsHeldIn g' s table k slot) where
    -- a pair that is no longer owed
    out_carries : (scan : Scan) (k : K) → IsOut g s m fs table scan k → IsOut g' s m fs table scan k
    out_carries Walk k r = moment_carries m fs k None r
    out_carries Clear k (inl none) = inl none
    out_carries Clear k (inr taken) = inr (taken_carries fs k taken)
    out_carries Retain k (inl none) = inl none
    out_carries Retain k (inr taken) = inr (taken_carries fs k taken)

    -- and the steps so far
    dealt_carries : (scan : Scan) (loaded : LoadedPairs P) (slot upto : ℕ) (k : K) → IsDealtWith g s m fs table scan loaded slot upto k
        → IsDealtWith g' s m fs table scan loaded slot upto k
    dealt_carries Walk loaded slot upto k (inl (le, count)) = inl (le, count_carries loaded.given k ∙ count)
    dealt_carries Walk loaded slot upto k (inr (lt, count)) = inr (lt, count_carries loaded.given k ∙ count)
    dealt_carries Clear loaded slot upto k r = r
    dealt_carries Retain loaded slot upto k r = r

    scanned_carries : (scan : Scan) (loaded : LoadedPairs P) (upto : ℕ) (k : K) → IsScannedTo g s m fs table scan loaded upto k
        → IsScannedTo g' s m fs table scan loaded upto k
    scanned_carries scan loaded upto k (inl out) = inl (out_carries scan k out)
    scanned_carries scan loaded upto k (inr (slot, r, dealt)) = inr (slot, held_carries k slot r, dealt_carries scan loaded slot upto k dealt)

    met_carries : (scan : Scan) (loaded : LoadedPairs P) (upto : ℕ) (p : P) (k : K) → IsMetIn g s m fs table scan loaded upto p k
        → IsMetIn g' s m fs table scan loaded upto p k
    met_carries scan loaded upto p k (inl out) = inl (out_carries scan k out)
    met_carries scan loaded upto p k (inr (slot, r, dealt, mine, only)) = inr
        (slot, held_carries k slot r, dealt_carries scan loaded slot upto k dealt, pair_carries scan mine, (λ same. only (sym (same_key k p) ∙ same)))
      where
        pair_carries : (scan : Scan) → (slot ≡ upto → IsPairOf g s m fs table scan p k) → slot ≡ upto → IsPairOf g' s m fs table scan p k
        pair_carries Walk mine is = same_key k p ∙ mine is
        pair_carries Clear mine is = same_key k p ∙ mine is
        pair_carries Retain mine is = mine is

module _ {K P : Type 0} (g g' : Setting K P) (c : Coding K P) (hashed : IsHashed g c) (s : Words P) (m : K → Option P) (keeps : IsKeeping g s m)
    (since : List (Exchange P)) (may : AllAllowed g s since)
    (agrees : Agrees (IsOn (run since s).first (run since s).next) g g') where
  -- the tables of the chain
  abbrev OnChain : ℕ → Type 0
  OnChain = IsOn (run since s).first (run since s).next

  module _ (table : ℕ) (loaded : LoadedPairs P) (es fs : List (Exchange P)) (taken : IsTaking g c s m since table loaded es fs) where
    -- the table is on the chain
    table_there : OnChain table
    table_there = table_on g c hashed s m keeps since may table loaded es fs taken

    -- the tables that were on the chain when this one was taken are on it
    agrees_then : Agrees (IsOn (run es s).first (run es s).next) g g'
    agrees_then = agrees_on_fewer g g' OnChain agrees (IsOn (run es s).first (run es s).next) later_on
      where
        later_on : (t : ℕ) → IsOn (run es s).first (run es s).next t → OnChain t
        later_on t on =
            subst (λ w. IsOn w.first w.next t) (now_is g c hashed s m keeps since may table loaded es fs taken)
            (on_run g hashed.lawful fs (run es s) (map_of g m es) (keeps_then g c hashed s m keeps since may table loaded es fs taken)
            (may_then g c hashed s m keeps since may table loaded es fs taken) t on)

    -- a pair is held in the same slot
    held_carries : (k : K) (slot : ℕ) → IsHeldIn g (run es s) table k slot → IsHeldIn g' (run es s) table k slot
    held_carries k slot r = record {
      at = r.at;
      within = subst (λ n. r.at < n) (sym (agrees.places table table_there)) r.within;
      is = agrees.place k table r.at table_there ∙ r.is;
      has = ap (λ V. held (V table r.at)) (look_agrees g g' (run es s)
          (keeping_sound g (run es s) (map_of g m es) (keeps_then g c hashed s m keeps since may table loaded es fs taken)) agrees_then k) ∙ r.has;
    }

    taking_carries : IsTaking g' c s m since table loaded es fs
    taking_carries = record {
      is = taken.is;
      moment = taken.moment;
      root = taken.root;
      some = taken.some;
      last = λ inc. taken.last (sym agrees.blocking ∙ inc);
      given = λ p one. moment_pair g g' OnChain agrees m es fs p (taken.given p one);
    }

    -- so each key is in the same slot
    each_carries : (scan : Scan) (upto : ℕ) (k : K) → IsScannedTo g (run es s) (map_of g m es) fs table scan loaded upto k
        → IsScannedTo g' (run es s) (map_of g' m es) fs table scan loaded upto k
    each_carries scan upto k r = subst (λ f. IsScannedTo g' (run es s) f fs table scan loaded upto k) (sym (map_of_carries g g' OnChain agrees es m))
        (scanned_carries g g' OnChain agrees (run es s) (map_of g m es) fs table held_carries scan loaded upto k r)

    each_met : (scan : Scan) (upto : ℕ) (p : P) (k : K) → IsMetIn g (run es s) (map_of g m es) fs table scan loaded upto p k
        → IsMetIn g' (run es s) (map_of g' m es) fs table scan loaded upto p k
    each_met scan upto p k r = subst (λ f. IsMetIn g' (run es s) f fs table scan loaded upto p k) (sym (map_of_carries g g' OnChain agrees es m))
        (met_carries g g' OnChain agrees (run es s) (map_of g m es) fs table held_carries scan loaded upto p k r)

  module _ (scan : Scan) (loaded : LoadedPairs P) where
    scanning_carries : (table upto : ℕ) → IsScanning g c s m since scan loaded table upto → IsScanning g' c s m since scan loaded table upto
    scanning_carries table upto r = record {
      es = r.es;
      fs = r.fs;
      taken = taking_carries table loaded r.es r.fs r.taken;
      each = λ k. each_carries table loaded r.es r.fs r.taken scan upto k (r.each k);
    }

    meeting_carries : (spot : Spot) (word : ℕ) → IsMeeting g c s m since scan loaded spot word → IsMeeting g' c s m since scan loaded spot word
    meeting_carries spot word r = record {
      es = r.es;
      fs = r.fs;
      taken = taking_carries spot.table loaded r.es r.fs r.taken;
      pair = r.pair;
      told = r.told;
      number = r.number;
      had = moment_pair g g' OnChain agrees m r.es r.fs r.pair r.had;
      each = λ k. each_met spot.table loaded r.es r.fs r.taken scan spot.slot r.pair k (r.each k);
    }

    spot_carries : (spot : Spot) (upto : ℕ) → IsScanning g c s m since scan loaded spot.table upto → IsSpot g c s m since spot → IsSpot g' c s m since spot
    spot_carries spot upto v r = (r.0 ∙ sym (agrees.size spot.table (table_there spot.table loaded v.es v.fs v.taken)), r.1)

    spot_met : (spot : Spot) (word : ℕ) → IsMeeting g c s m since scan loaded spot word → IsSpot g c s m since spot → IsSpot g' c s m since spot
    spot_met spot word v r = (r.0 ∙ sym (agrees.size spot.table (table_there spot.table loaded v.es v.fs v.taken)), r.1)

  -- the end
  over_carries : (scan : Scan) (loaded : LoadedPairs P) → HasScanned g c s m since scan loaded → HasScanned g' c s m since scan loaded
  over_carries Walk loaded r = record {
    es = r.es;
    fs = r.fs;
    is = r.is;
    moment = r.moment;
    last = λ some inc. r.last some (sym agrees.blocking ∙ inc);
    given = λ p one. moment_pair g g' OnChain agrees m r.es r.fs p (r.given p one);
    each = λ k. ⊎_elim (λ none. inl (moment_after g g' OnChain agrees m r.es r.fs k None none))
        (λ once. inr (count_carries g g' OnChain agrees loaded.given k ∙ once)) (r.each k);
  }
  over_carries Clear loaded r = λ k. ⊎_elim (λ none. inl none) (λ taken. inr (taken_carries g g' OnChain agrees since k taken)) (r k)
  over_carries Retain loaded r = λ k. ⊎_elim (λ none. inl none)
      (⊎_elim (λ taken. inr (inl (taken_carries g g' OnChain agrees since k taken))) (λ kept. inr (inr kept))) (r k)

  -- the copy of all
  all_carries : (stage : Stage) → IsOfAll g c s m since stage → IsOfAll g' c s m since stage
  all_carries stages.AtRoot r = r
  all_carries (stages.Looking root len room) r = r
  all_carries (stages.Copying from copying) r = r
  all_carries (stages.Making room) r = absurd r
  all_carries (stages.Opening table) r = absurd r
  all_carries (stages.Sizing root) r = absurd r
  all_carries (stages.Counting root len) r = absurd r
  all_carries (stages.Linking link) r = absurd r
  all_carries stages.Done r = absurd r
  all_carries (stages.Refused refused) r = absurd r

  take_carries : (scan : Scan) (loaded : LoadedPairs P) (word : ℕ) → MayTake g c s m since scan loaded word → MayTake g' c s m since scan loaded word
  take_carries Walk loaded word t = t
  take_carries Clear loaded word t = t
  take_carries Retain loaded word t = t

  takes_carry : (scan : Scan) → Takes g c s m since scan → Takes g' c s m since scan
  takes_carry Walk t = t
  takes_carry Clear t = t
  takes_carry Retain t = t

  pub gives_carries : (scan : Scan) (loaded : LoadedPairs P) → GivesNone g c s m since scan loaded → GivesNone g' c s m since scan loaded
  gives_carries Walk loaded t = t
  gives_carries Clear loaded t = t
  gives_carries Retain loaded t = t

  pub state_carries : (scan : Scan) (loaded : LoadedPairs P) (state : ScannerState) → ReliesState g c s m since scan loaded state
      → ReliesState g' c s m since scan loaded state
  state_carries scan loaded (Copying stage)
      r = (
        r.0,
        all_carries stage r.1,
        stage_carries g c g' (run since s) (map_of g m since) (keeps_since g c hashed s m keeps since may) agrees
            loaded.copy stage r.2,
      )
  state_carries scan loaded AtRoot r = (r.0, agrees.blocking ∙ r.1)
  state_carries scan loaded (Sizing table) r = (r.0, scanning_carries scan loaded table 0 r.1)
  state_carries scan loaded (Looking spot) r = (spot_carries scan loaded spot spot.slot r.1 r.0, scanning_carries scan loaded spot.table spot.slot r.1)
  state_carries scan loaded (Giving spot word) r = (spot_met scan loaded spot word r.2 r.0, r.1, meeting_carries scan loaded spot word r.2)
  state_carries scan loaded (Showing spot word) r = (spot_met scan loaded spot word r.3 r.0, r.1, r.2, meeting_carries scan loaded spot word r.3)
  state_carries scan loaded (Burying spot word)
      r = (spot_carries scan loaded spot spot.slot r.3 r.0, r.1, take_carries scan loaded word r.2, scanning_carries scan loaded spot.table spot.slot r.3)
  state_carries scan loaded (Uncounting spot)
      r = (spot_carries scan loaded spot (suc spot.slot) r.2 r.0, takes_carry scan r.1, scanning_carries scan loaded spot.table (suc spot.slot) r.2)
  state_carries scan loaded Done r = over_carries scan loaded r
  state_carries scan loaded (Refused refused) r = tt
