-- The facts that a scan relies on after an answer.
use Rattle.std.proofs.Common.{◌≡◌, ◌⊎◌, inl, inr, ⊎_elim, ℕ, suc, ◌+◌, ◌<◌, ◌≤◌, ◌==◌, nat_lt}
use Rattle.std.proofs.Common.{eqb-true, Bool, true, false, Option, None, Some, List, [], ◌∷◌, ◌++◌}
use Rattle.std.proofs.Common.{append-nil, refl, sym, ap, ◌∙◌, subst, arith}
use Rattle.std.proofs.lemmas.Bool.{cond_both, eqb-false, cases_lt, ltb-true, ltb-false}
use Rattle.papaya_words.specs.Word.{kind_of}
use Rattle.papaya_words.specs.declared.resize_mode.ResizeMode.{ResizeMode}
use Rattle.papaya_words.specs.declared.word.Kind.TheVariants as kinds
use Rattle.papaya_call.specs.declared.ask.Answer.TheVariants.{Word as Word_read, Exchanged, Found, Yes, Size, Ok}
use Rattle.papaya_call.specs.declared.ask.At.TheVariants.{Root, Next, Slot}
use Rattle.papaya_call.specs.declared.copy_ask.CopyAsk.{CopyAsk}
use Rattle.papaya_call.specs.declared.copy_ask.CopyAsk.TheVariants.{Load, SizeOf}
use Rattle.papaya_call.specs.declared.chain.ask.Answer.{Answer}
use Rattle.papaya_call.specs.declared.chain.ask.Answer.TheVariants as answers
use Rattle.papaya_call.specs.declared.chain.resizer.Resize.TheVariants.{CopyAll}
use Rattle.papaya_call.specs.declared.chain.resizer.ResizerState.{ResizerState as Stage}
use Rattle.papaya_call.specs.declared.chain.resizer.ResizerState.TheVariants as stages
use Rattle.papaya_call.specs.declared.copy.copying.Copied.{Copied}
use Rattle.papaya_call.specs.declared.copy.copying.Copied.TheVariants as copied_to
use Rattle.papaya_call.specs.declared.copy.copying.Copying.{Copying as Root_copying}
use Rattle.papaya_call.specs.ChainMachine.{copying_after}
use Rattle.papaya_call.specs.Resizer as resizers
use Rattle.papaya_words_law.specs.Allows.{AllAllowed}
use Rattle.papaya_words_law.specs.Class.{IsOn}
use Rattle.papaya_words_law.specs.Code.{Coding, IsHashed, code, kind}
use Rattle.papaya_words_law.specs.Exchange.{Word, Empty, Closed, Live, Marked, Copied as Copied_word, Buried, Setting, State as Words, Exchange, Bury, run}
use Rattle.papaya_words_law.specs.Invariant.{IsKeeping, named}
use Rattle.papaya_words_law.specs.Meaning.{IsAtMoment, map_of}
use Rattle.papaya_words_law.proofs.Codes.{code_kind, code_pair}
use Rattle.papaya_words_law.proofs.CopierFacts.{last_root}
use Rattle.papaya_words_law.proofs.Moments.{allowed_append, run-append}
use Rattle.papaya_words_law.proofs.OneMap.{keeping_sound}
use Rattle.papaya_call_law.specs.Copier.{HasWords, told_last}
use Rattle.papaya_call_law.specs.Relies.{IsCutAs, IsModeOf}
use Rattle.papaya_call_law.specs.TrueAnswers.{IsOneOf, or_last}
use Rattle.papaya_call_law.proofs.ReliesLearn.{by_test}
use Rattle.papaya_call_law.specs.Resizers.{ReliesStage, link_of}
use Rattle.papaya_call_law.specs.ChainAnswers.{IsTrueOfCopy, told_of}
use Rattle.papaya_call_law.specs.ChainAnswers as copies
use Rattle.papaya_call_law.proofs.ResizerRelies.{stage_learns, told_of_ask}
use Rattle.papaya_call.specs.declared.chain.ask.ScanAsk.TheVariants.{Copy}
use Rattle.papaya_call.specs.declared.chain.scanner.Spot.{Spot}
use Rattle.papaya_call.specs.declared.chain.scanner.ScannerState.{ScannerState}
use Rattle.papaya_call.specs.declared.chain.scanner.ScannerState.TheVariants.{Copying, AtRoot, Sizing, Looking, Giving, Showing, Burying, Uncounting, Done, Refused}
use Rattle.papaya_call.specs.declared.chain.scanner.Scan.{Scan}
use Rattle.papaya_call.specs.declared.chain.scanner.Scan.TheVariants.{Clear, Retain, Walk}
use Rattle.papaya_call.specs.Scanner.{after_in, asks_in, at_root, copied, first_in, looks, meets, next}
use Rattle.papaya_call_law.specs.ScanAnswers.{IsCopyAnswer, IsBuried, IsFoundThere, IsGiven, IsTrueOfScan, IsShown, IsWordAnswer, LoadedPairs, last_of}
use Rattle.papaya_call_law.specs.Scans.{GivesNone, IsDealtWith, IsMeeting, IsMetIn, IsScannedTo}
use Rattle.papaya_call_law.specs.Scans.{IsScanning, IsSpot, IsTaking, MayTake, ReliesState, Takes}
use Rattle.papaya_call_law.specs.Scans.{link_in_scan}
use Rattle.papaya_call_law.proofs.ScanAsks.{bury_may, keeps_since, keeps_then, may_before, may_then, now_is}
use Rattle.papaya_call_law.proofs.ScanEnds.{rootless_over, table_over}
use Rattle.papaya_call_law.proofs.ScanSlots.{IsPast, met_had, scan_begins, scan_buries, scan_drops, scan_gives, scan_keeps, scan_meets, scan_passes}
use Rattle.papaya_call_law.proofs.ScanStable.{taking_stable}

module _ {K P : Type 0} (g : Setting K P) (c : Coding K P) (hashed : IsHashed g c) (s : Words P) (m : K → Option P) (keeps : IsKeeping g s m)
    (since : List (Exchange P)) (may : AllAllowed g s since) (scan : Scan) where
  -- the words after all exchanges
  abbrev now : Words P
  now = run since s

  -- the facts that a scan relies on in a state
  abbrev Relies : LoadedPairs P → ScannerState → Type 0
  Relies = ReliesState g c s m since scan

  -- a table is taken if the root was found, without a next table or with blocking
  takes_root : (loaded : LoadedPairs P) → loaded.before ≡ since → loaded.given ≡ [] → (root : ℕ) → now.root ≡ root
      → (g.blocking ≡ false → now.next root ≡ 0) → Relies loaded (at_root root)
  takes_root loaded moment none root is last =
      cond_both (root == 0) Done (Sizing root) (Relies loaded)
      (λ zero. rootless_over g c hashed.lawful s m keeps since may (is ∙ eqb-true root 0 zero) scan loaded moment none)
      (λ some. let low : 0 < root = let differs = eqb-false root 0 some in ⊎_elim (λ a. a) (λ b. absurd (differs (omega (arith, b)))) (cases_lt 0 root) in
      (none, taken low))
    where
      taken : 0 < root → IsScanning g c s m since scan loaded root 0
      taken low = record {
        es = since;
        fs = [];
        taken = record {
          is = append-nil since;
          moment = moment;
          root = is;
          some = low;
          last = last;
          given = λ p one. absurd (subst (λ ps. IsOneOf ps p) none one);
        };
        each = scan_begins g hashed.lawful now (map_of g m since) (keeps_since g c hashed s m keeps since may) root is low last [] tt scan loaded none;
      }

  -- a slot is probed next, or all were
  looks_relies : (loaded : LoadedPairs P) (spot : Spot) → spot.len ≡ g.size spot.table → IsScanning g c s m since scan loaded spot.table spot.slot
      → Relies loaded (looks spot)
  looks_relies loaded spot len v =
      cond_both (nat_lt spot.slot spot.len) (Looking spot) Done (Relies loaded)
      (λ more. ((len, ltb-true spot.slot spot.len more), v))
      (λ over. let whole : g.size spot.table ≤ spot.slot = subst (λ n. n ≤ spot.slot) len (ltb-false spot.slot spot.len over) in
      table_over g c hashed.lawful s m keeps since loaded spot.table v.es v.fs v.taken
      (may_before g c hashed s m keeps since may spot.table loaded v.es v.fs v.taken) spot.slot whole scan v.each)

  -- and after it the next slot
  next_relies : (loaded : LoadedPairs P) (spot : Spot) → IsSpot g c s m since spot → IsScanning g c s m since scan loaded spot.table (suc spot.slot)
      → Relies loaded (next spot)
  next_relies loaded spot there v =
      let one : suc spot.slot ≡ spot.slot + 1 = omega arith in
      looks_relies loaded (record spot { slot = spot.slot + 1 }) there.0 (subst (IsScanning g c s m since scan loaded spot.table) one v)

  -- the steps about a key's pair do not depend on the answers to the copy
  dealt_handed : (scan : Scan) (loaded : LoadedPairs P) (copy : copies.LoadedPairs P) (es fs : List (Exchange P)) (table slot upto : ℕ) (k : K)
      → IsDealtWith g (run es s) (map_of g m es) fs table scan loaded slot upto k
      → IsDealtWith g (run es s) (map_of g m es) fs table scan (record loaded { copy = copy }) slot upto k
  dealt_handed Walk loaded copy es fs table slot upto k r = r
  dealt_handed Clear loaded copy es fs table slot upto k r = r
  dealt_handed Retain loaded copy es fs table slot upto k r = r

  taking_handed : (loaded : LoadedPairs P) (copy : copies.LoadedPairs P) (table : ℕ) (es fs : List (Exchange P))
      → IsTaking g c s m since table loaded es fs → IsTaking g c s m since table (record loaded { copy = copy }) es fs
  taking_handed loaded copy table es fs r = record { is = r.is; moment = r.moment; root = r.root; some = r.some; last = r.last; given = r.given }

  scanning_handed : (loaded : LoadedPairs P) (copy : copies.LoadedPairs P) (table upto : ℕ) → IsScanning g c s m since scan loaded table upto
      → IsScanning g c s m since scan (record loaded { copy = copy }) table upto
  scanning_handed loaded copy table upto r = record {
    es = r.es;
    fs = r.fs;
    taken = taking_handed loaded copy table r.es r.fs r.taken;
    each = λ k. ⊎_elim (λ out. inl out) (λ h. let (slot, there, dealt) = h in
        inr (slot, there, dealt_handed scan loaded copy r.es r.fs table slot upto k dealt)) (r.each k);
  }

  -- if the scan takes pairs out
  not_walk : Takes g c s m since scan → scan ≡ Walk → ⊥
  not_walk takes is = subst (λ v. Takes g c s m since v) is takes

  -- the word of the slot was loaded, or found
  module _ (loaded : LoadedPairs P) (gives : GivesNone g c s m since scan loaded) (spot : Spot) (there : IsSpot g c s m since spot)
      (v : IsScanning g c s m since scan loaded spot.table spot.slot) where
    -- the loaded pairs after the answer
    abbrev loaded_now : LoadedPairs P
    loaded_now = record loaded { copy = told_of (told_last now (Slot spot.table spot.slot) (last_of loaded)) loaded.copy }

    -- the word that is there
    abbrev word_now : ℕ
    word_now = code g c (now.slot spot.table spot.slot)

    -- at the point when the table was taken
    slot_then : (w : Word P) → now.slot spot.table spot.slot ≡ w → (run v.fs (run v.es s)).slot spot.table spot.slot ≡ w
    slot_then w e = ap (λ a. a.slot spot.table spot.slot) (now_is g c hashed s m keeps since may spot.table loaded v.es v.fs v.taken) ∙ e

    -- no pair is there
    past_relies : (w : Word P) → now.slot spot.table spot.slot ≡ w → IsPast w → Relies loaded_now (next spot)
    past_relies w e past = next_relies loaded_now spot there (scanning_handed loaded loaded_now.copy spot.table (suc spot.slot) (record {
      es = v.es;
      fs = v.fs;
      taken = v.taken;
      each = λ k. scan_passes g hashed.lawful (run v.es s) (map_of g m v.es)
          (keeps_then g c hashed s m keeps since may spot.table loaded v.es v.fs v.taken) spot.table v.taken.root v.taken.some v.taken.last v.fs
          (may_then g c hashed s m keeps since may spot.table loaded v.es v.fs v.taken) scan loaded spot.slot w (slot_then w e) past k (v.each k);
    }))

    -- a pair is
    module _ (w : Word P) (e : now.slot spot.table spot.slot ≡ w) (p : P) (has : (w ≡ Live p) ⊎ (w ≡ Marked p) ⊎ (w ≡ Copied_word p))
        (live : scan ≡ Retain → w ≡ Live p) where
      name_now : named (now.slot spot.table spot.slot) ≡ Some p
      name_now = ap named e ∙ ⊎_elim (λ a. ap named a) (⊎_elim (λ a. ap named a) (λ a. ap named a)) has

      meeting : IsMeeting g c s m since scan loaded_now spot word_now
      meeting = record {
        es = v.es;
        fs = v.fs;
        taken = taking_handed loaded loaded_now.copy spot.table v.es v.fs v.taken;
        pair = p;
        told = ap (λ o. or_last o (last_of loaded)) name_now;
        number = sym (code_pair g c hashed.coding (now.slot spot.table spot.slot) p name_now);
        had = met_had g hashed.lawful (run v.es s) (map_of g m v.es) (keeps_then g c hashed s m keeps since may spot.table loaded v.es v.fs v.taken)
            spot.table v.taken.root v.taken.some v.taken.last v.fs (may_then g c hashed s m keeps since may spot.table loaded v.es v.fs v.taken)
            spot.slot w p (slot_then w e) has;
        each = λ k.
            ⊎_elim
            (λ out. inl out)
            (λ h. let (slot, r, dealt, mine, only) = h in
            inr (slot, r, dealt_handed scan loaded loaded_now.copy v.es v.fs spot.table slot spot.slot k dealt, mine, only))
            (scan_meets g hashed.lawful (run v.es s) (map_of g m v.es) (keeps_then g c hashed s m keeps since may spot.table loaded v.es v.fs v.taken)
            spot.table v.taken.root v.taken.some v.taken.last v.fs (may_then g c hashed s m keeps since may spot.table loaded v.es v.fs v.taken)
            scan loaded spot.slot w p (slot_then w e) has live k (v.each k));
      }

    -- no pair was returned, if pairs are taken out
    none_given : (is : Scan) → scan ≡ is → Takes g c s m since is → loaded.given ≡ []
    none_given Walk e takes = absurd takes
    none_given Clear e takes = subst (λ a. GivesNone g c s m since a loaded) e gives
    none_given Retain e takes = subst (λ a. GivesNone g c s m since a loaded) e gives

    -- by the word that is there
    by_word : (is : Scan) → scan ≡ is → (w : Word P) → now.slot spot.table spot.slot ≡ w → Relies loaded_now (meets is spot word_now (kind w))
    by_word Clear e Empty at = past_relies Empty at tt
    by_word Clear e Closed at = past_relies Closed at tt
    by_word Clear e (Buried p) at = past_relies (Buried p) at tt
    by_word Retain e Empty at = past_relies Empty at tt
    by_word Retain e Closed at = past_relies Closed at tt
    by_word Retain e (Buried p) at = past_relies (Buried p) at tt
    by_word Walk e Empty at = past_relies Empty at tt
    by_word Walk e Closed at = past_relies Closed at tt
    by_word Walk e (Buried p) at = past_relies (Buried p) at tt
    by_word Clear e (Live p) at = (
      there,
      is_live at,
      subst (λ a. MayTake g c s m since a loaded_now word_now) (sym e) tt,
      scanning_handed loaded
          loaded_now.copy spot.table spot.slot v,
    )
      where
        is_live : now.slot spot.table spot.slot ≡ Live p → kind_of word_now ≡ kinds.Live
        is_live at = code_kind g c (now.slot spot.table spot.slot) ∙ ap kind at
    by_word Retain e (Live p) at = (there, e, code_kind g c (now.slot spot.table spot.slot) ∙ ap kind at, meeting (Live p) at p (inl refl) (λ _. refl))
    by_word Walk e (Live p) at = (there, e, meeting (Live p) at p (inl refl) (λ _. refl))
    by_word Walk e (Marked p) at = (there, e, meeting (Marked p) at p (inr (inl refl)) (λ r. absurd (let no : Walk ≡ Retain = sym e ∙ r in cc no)))
    by_word Walk e (Copied_word p) at = (there, e, meeting (Copied_word p) at p (inr (inr refl)) (λ r. absurd (let no : Walk ≡ Retain = sym e ∙ r in cc no)))
    by_word Clear e (Marked p) at = (none_given Clear e tt, tt, tt)
    by_word Clear e (Copied_word p) at = (none_given Clear e tt, tt, tt)
    by_word Retain e (Marked p) at = (none_given Retain e tt, tt, tt)
    by_word Retain e (Copied_word p) at = (none_given Retain e tt, tt, tt)

    meets_relies : Relies loaded_now (meets scan spot word_now (kind_of word_now))
    meets_relies = subst (λ a. Relies loaded_now (meets scan spot word_now a)) (sym (code_kind g c (now.slot spot.table spot.slot)))
        (by_word scan refl (now.slot spot.table spot.slot) refl)

  -- The state after an answer: the exchange was allowed, and the scan relies on facts that hold
  -- there. The mode and the initial capacity are those of the scanner.
  module _ (mode : ResizeMode) (moded : IsModeOf mode g.blocking) (cut : IsCutAs mode g.chunk_of) (initial number : ℕ) where
    abbrev Learned : ScannerState → Answer → List (Exchange P) → LoadedPairs P → Type 0
    Learned state answer es loaded' = AllAllowed g s (since ++ es)
        × ReliesState g c s m (since ++ es) scan loaded' (after_in scan mode initial number answer state)

    -- if nothing was exchanged
    quiet : (state : ScannerState) (answer answer' : Answer) (es : List (Exchange P)) (loaded' loaded'' : LoadedPairs P) → answer ≡ answer' → es ≡ []
        → loaded' ≡ loaded'' → Relies loaded'' (after_in scan mode initial number answer' state) → Learned state answer es loaded'
    quiet state answer answer' es loaded' loaded'' a e h r =
        subst (λ y. Learned state y es loaded') (sym a) (subst (λ y. Learned state answer' y loaded') (sym e) (subst (λ y. Learned state answer' [] y) (sym h) (
          subst (AllAllowed g s) (sym (append-nil since)) may,
          subst (λ l. ReliesState g c s m l scan loaded'' (after_in scan mode initial number answer' state)) (sym (append-nil since)) r,
        )))

    -- it loaded a word, or asked for a size
    module _ (loaded : LoadedPairs P) (answer : Answer) (es : List (Exchange P)) (loaded' : LoadedPairs P) where
      word_told : (state : ScannerState) (before : List (Exchange P)) (is : CopyAsk) → asks_in state ≡ Some (Copy is)
          → (t : IsWordAnswer g c now since state before loaded answer es loaded') → IsTrueOfCopy g c now None 0 loaded.copy is answer es t.copy
      word_told state before is asks t =
          let first = t.asks in
          let same : t.ask ≡ is = cc (asks, first) in
          subst (λ a. IsTrueOfCopy g c now None 0 loaded.copy a answer es t.copy) same t.told

      -- nothing was exchanged until now
      until : (copy : copies.LoadedPairs P) → es ≡ [] → record loaded { copy = copy; before = since ++ es } ≡ record loaded { copy = copy; before = since }
      until copy none = ap (λ l. record loaded { copy = copy; before = since ++ l }) none
          ∙ ap (λ l. record loaded { copy = copy; before = l }) (append-nil since)

      root_learns : Relies loaded AtRoot → IsWordAnswer g c now since AtRoot (since ++ es) loaded answer es loaded' → Learned AtRoot answer es loaded'
      root_learns r t =
          let told = word_told AtRoot (since ++ es) (Load Root) refl t in
          quiet AtRoot answer (answers.Call (Word_read now.root)) es loaded' (record loaded { copy = t.copy; before = since }) told.0 told.1
          (t.handed ∙ until t.copy told.1)
          (takes_root (record loaded { copy = t.copy; before = since }) refl r.0 now.root refl (λ inc. let blocks = r.1 in absurd (cc (inc, blocks))))

      size_learns : (table : ℕ) → Relies loaded (Sizing table) → IsWordAnswer g c now since (Sizing table) loaded.before loaded answer es loaded'
          → Learned (Sizing table) answer es loaded'
      size_learns table r t =
          let told = word_told (Sizing table) loaded.before (SizeOf table) refl t in
          let (limit, places, is) = told.0 in
          quiet (Sizing table) answer (answers.Call (Size (g.size table) limit)) es loaded' (record loaded { copy = t.copy }) is told.1.0 t.handed
          (looks_relies (record loaded { copy = t.copy }) (first_in table (g.size table)) refl (scanning_handed loaded t.copy table 0 r.1))

      look_learns : GivesNone g c s m since scan loaded → (spot : Spot) → Relies loaded (Looking spot)
          → IsWordAnswer g c now since (Looking spot) loaded.before loaded answer es loaded' → Learned (Looking spot) answer es loaded'
      look_learns gives spot r t =
          let told = word_told (Looking spot) loaded.before (Load (Slot spot.table spot.slot)) refl t in
          let copy : t.copy ≡ told_of (told_last now (Slot spot.table spot.slot) (last_of loaded)) loaded.copy = told.2 in
          quiet (Looking spot) answer (answers.Call (Word_read (code g c (now.slot spot.table spot.slot)))) es loaded'
          (loaded_now loaded gives spot r.0 r.1) told.0 told.1 (t.handed ∙ ap (λ y. record loaded { copy = y }) copy)
          (meets_relies loaded gives spot r.0 r.1)

      -- a pair was returned
      give_learns : (spot : Spot) (word : ℕ) → Relies loaded (Giving spot word) → IsGiven g c now since loaded answer es loaded'
          → Learned (Giving spot word) answer es loaded'
      give_learns spot word (there, walks, r) t =
          quiet (Giving spot word) answer (answers.Call Ok) es loaded' (record loaded { given = t.pair ∷ loaded.given }) t.is t.none t.handed
          (next_relies (record loaded { given = t.pair ∷ loaded.given }) spot there (record { es = r.es; fs = r.fs; taken = taken; each = each }))
        where
          -- the pair that was met
          same : t.pair ≡ r.pair
          same = let a = t.last in let b = r.told in cc (a, b)

          taken : IsTaking g c s m since spot.table (record loaded { given = t.pair ∷ loaded.given }) r.es r.fs
          taken = record {
            is = r.taken.is;
            moment = r.taken.moment;
            root = r.taken.root;
            some = r.taken.some;
            last = r.taken.last;
            given = λ p one.
                ⊎_elim
                (λ (first : p ≡ t.pair). subst (λ q. IsAtMoment g (map_of g m r.es) r.fs (g.key q) (Some q)) (sym (first ∙ same)) r.had)
                (λ older. r.taken.given p older)
                one;
          }

          each : (k : K) → IsScannedTo g (run r.es s) (map_of g m r.es) r.fs spot.table scan (record loaded { given = t.pair ∷ loaded.given }) (suc spot.slot) k
          each k =
              let met = subst (λ a. IsMetIn g (run r.es s) (map_of g m r.es) r.fs spot.table a loaded spot.slot r.pair k) walks (r.each k) in
              subst (λ a. IsScannedTo g (run r.es s) (map_of g m r.es) r.fs spot.table a (record loaded { given = t.pair ∷ loaded.given })
              (suc spot.slot) k) (sym walks)
              (subst (λ q. IsScannedTo g (run r.es s) (map_of g m r.es) r.fs spot.table Walk (record loaded { given = q ∷ loaded.given })
              (suc spot.slot) k) (sym same)
              (scan_gives g hashed.lawful (run r.es s) (map_of g m r.es)
              (keeps_then g c hashed s m keeps since may spot.table loaded r.es r.fs r.taken) spot.table r.taken.root r.taken.some r.taken.last r.fs
              (may_then g c hashed s m keeps since may spot.table loaded r.es r.fs r.taken) loaded spot.slot r.pair k met))

      -- the closure was called with a pair
      show_learns : (spot : Spot) (word : ℕ) → Relies loaded (Showing spot word) → IsShown g c now since loaded answer es loaded'
          → Learned (Showing spot word) answer es loaded'
      show_learns spot word (there, retains, live, r) t = by_answer t.stays refl
        where
          -- the pair that was met
          same : t.pair ≡ r.pair
          same = let a = t.last in let b = r.told in cc (a, b)

          -- after the closure was called with it
          then' : Bool → LoadedPairs P
          then' stays = record loaded { shown = (r.pair, stays) ∷ loaded.shown }

          handed : (stays : Bool) → t.stays ≡ stays → loaded' ≡ then' stays
          handed stays is = t.handed ∙ (ap (λ q. record loaded { shown = (q, t.stays) ∷ loaded.shown }) same
              ∙ ap (λ b. record loaded { shown = (r.pair, b) ∷ loaded.shown }) is)

          taken : (stays : Bool) → IsTaking g c s m since spot.table (then' stays) r.es r.fs
          taken stays = record {
            is = r.taken.is;
            moment = r.taken.moment;
            root = r.taken.root;
            some = r.taken.some;
            last = r.taken.last;
            given = r.taken.given;
          }

          met : (k : K) → IsMetIn g (run r.es s) (map_of g m r.es) r.fs spot.table Retain loaded spot.slot r.pair k
          met k = subst (λ a. IsMetIn g (run r.es s) (map_of g m r.es) r.fs spot.table a loaded spot.slot r.pair k) retains (r.each k)

          by_answer : (stays : Bool) → t.stays ≡ stays → Learned (Showing spot word) answer es loaded'
          by_answer true is =
              quiet (Showing spot word) answer (answers.Call (Yes true)) es loaded' (then' true) (t.is ∙ ap (λ b. answers.Call (Yes b)) is) t.none
              (handed true is)
              (next_relies (then' true) spot there (record {
                es = r.es;
                fs = r.fs;
                taken = taken true;
                each = λ k. subst (λ a. IsScannedTo g (run r.es s) (map_of g m r.es) r.fs spot.table a (then' true) (suc spot.slot) k) (sym retains)
                    (scan_keeps g hashed.lawful (run r.es s) (map_of g m r.es)
                    (keeps_then g c hashed s m keeps since may spot.table loaded r.es r.fs r.taken) spot.table r.taken.root r.taken.some
                    r.taken.last r.fs (may_then g c hashed s m keeps since may spot.table loaded r.es r.fs r.taken) loaded spot.slot r.pair k (met k));
              }))
          by_answer false is =
              quiet (Showing spot word) answer (answers.Call (Yes false)) es loaded' (then' false) (t.is ∙ ap (λ b. answers.Call (Yes b)) is) t.none
              (handed false is) (
                there,
                live,
                subst (λ a. MayTake g c s m since a (then' false) word) (sym retains) (r.pair, r.number, inl (refl, refl)),
                record {
                  es = r.es;
                  fs = r.fs;
                  taken = taken false;
                  each = λ k. subst (λ a. IsScannedTo g (run r.es s) (map_of g m r.es) r.fs spot.table a (then' false) spot.slot k) (sym retains)
                      (scan_drops g hashed.lawful (run r.es s) (map_of g m r.es)
                      (keeps_then g c hashed s m keeps since may spot.table loaded r.es r.fs r.taken) spot.table r.taken.root r.taken.some
                      r.taken.last r.fs (may_then g c hashed s m keeps since may spot.table loaded r.es r.fs r.taken) loaded spot.slot r.pair k (met k));
                },
              )

      -- a pair was deleted, or another word was found
      may_takes : (is : Scan) (word : ℕ) (more : List (Exchange P)) → MayTake g c s m since is loaded word → Takes g c s m more is
      may_takes Walk word more takes = takes
      may_takes Clear word more takes = tt
      may_takes Retain word more takes = tt

      bury_learns : GivesNone g c s m since scan loaded → (spot : Spot) (word : ℕ) → Relies loaded (Burying spot word)
          → IsTrueOfScan g c now since (Burying spot word) loaded answer es loaded' → Learned (Burying spot word) answer es loaded'
      bury_learns gives spot word r told =
          by_test (code g c (now.slot spot.table spot.slot) == word) (IsBuried g c now since spot loaded answer es loaded')
          (IsFoundThere g c now since spot loaded answer es loaded') (Learned (Burying spot word) answer es loaded') told
          (λ stands t. buried t)
          (λ other t. quiet (Burying spot word) answer (answers.Call (Found (code g c (now.slot spot.table spot.slot)))) es loaded'
          (loaded_now loaded gives spot r.0 r.3) t.is t.none t.handed (meets_relies loaded gives spot r.0 r.3))
        where
          v : IsScanning g c s m since scan loaded spot.table spot.slot
          v = r.3

          buried : IsBuried g c now since spot loaded answer es loaded' → Learned (Burying spot word) answer es loaded'
          buried t =
              let e : Exchange P = Bury spot.table spot.slot t.pair in
              subst (λ y. Learned (Burying spot word) y es loaded') (sym t.is)
              (subst (λ y. Learned (Burying spot word) (answers.Call Exchanged) y loaded') (sym t.one)
              (subst (λ y. Learned (Burying spot word) (answers.Call Exchanged) (e ∷ []) y) (sym t.handed) (
                allowed_append g since (e ∷ []) s may (bury_may g c hashed s m keeps since may scan loaded spot word r t.pair t.live, tt),
                (
                  r.0,
                  may_takes scan word (since ++ e ∷ []) r.2,
                  record {
                    es = v.es;
                    fs = v.fs ++ e ∷ [];
                    taken = taking_stable g c s m since (e ∷ []) spot.table loaded v.es v.fs v.taken;
                    each = λ k. scan_buries g hashed.lawful (run v.es s) (map_of g m v.es)
                        (keeps_then g c hashed s m keeps since may spot.table loaded v.es v.fs v.taken) spot.table v.taken.root v.taken.some
                        v.taken.last v.fs (may_then g c hashed s m keeps since may spot.table loaded v.es v.fs v.taken) scan loaded spot.slot t.pair
                        (slot_then loaded gives spot r.0 v (Live t.pair) t.live) (not_walk (may_takes scan word since r.2)) k (v.each k);
                  },
                ),
              )))

      -- the count was received
      uncount_learns : (spot : Spot) → Relies loaded (Uncounting spot) → IsTrueOfScan g c now since (Uncounting spot) loaded answer es loaded'
          → Learned (Uncounting spot) answer es loaded'
      uncount_learns spot r told = quiet (Uncounting spot) answer (answers.Call Ok) es loaded' loaded told.0 told.1 told.2 (next_relies loaded spot r.0 r.2)

      -- the copy of all: its end, and how it continues
      copied_all : (copy : copies.LoadedPairs P) → loaded.given ≡ [] → (from : ℕ) (copying : Root_copying) (end : Copied)
          → ReliesStage g c (run (since ++ es) s) copy (resizers.copied CopyAll from end)
          → ReliesState g c s m (since ++ es) scan (record loaded { copy = copy; before = since ++ es })
          (copied (stages.Copying from copying) (resizers.copied CopyAll from end))
      copied_all copy none from copying (copied_to.On next') r = (none, tt, r)
      copied_all copy none from copying (copied_to.Search table) r = (none, tt, tt)
      copied_all copy none from copying (copied_to.Root table) r = (none, tt, tt)
      copied_all copy none from copying copied_to.Chunk r = (none, tt, tt)
      copied_all copy none from copying (copied_to.Refused refused) r = tt

      -- the table that it names is on the chain
      on_root : (now.root ≡ 0 → ⊥) → IsOn now.first now.next now.root
      on_root some = ⊎_elim (λ none. absurd (some none.0)) (λ on. on) (keeping_sound g now (map_of g m since) (keeps_since g c hashed s m keeps since may)).root

      root_was : (now.root ≡ 0 → ⊥) → now.was_root now.root ≡ true
      root_was some = (keeping_sound g now (map_of g m since) (keeps_since g c hashed s m keeps since may)).root_was
          (⊎_elim (λ a. a) (λ b. absurd (some (omega (arith, b)))) (cases_lt 0 now.root))

      copy_learns : (stage : Stage) → Relies loaded (Copying stage) → (answer ≡ answers.Call Exchanged → HasWords g (link_of stage))
          → IsCopyAnswer g c now since stage loaded answer es loaded' → Learned (Copying stage) answer es loaded'
      copy_learns stages.AtRoot r words t =
          let h = told_of_ask g c now loaded.copy stages.AtRoot (Load Root) refl answer es t.copy t.told in
          let then' : LoadedPairs P = record loaded { copy = t.copy; before = since } in
          quiet (Copying stages.AtRoot) answer (answers.Call (Word_read now.root)) es loaded' then' h.0 h.1 (t.handed ∙ until t.copy h.1)
          (cond_both (now.root == 0) stages.Done (stages.Looking now.root 0 None) (λ y. Relies then' (copied stages.AtRoot y))
          (λ zero. rootless_over g c hashed.lawful s m keeps since may (eqb-true now.root 0 zero) scan then' refl r.0)
          (λ some. let differs = eqb-false now.root 0 some in (r.0, (root_was differs, refl), on_root differs)))
      copy_learns (stages.Looking root len None) r words t =
          let h = told_of_ask g c now loaded.copy (stages.Looking root len None) (Load (Next root)) refl answer es t.copy t.told in
          let then' : LoadedPairs P = record loaded { copy = t.copy; before = since } in
          let was : now.was_root root ≡ true = r.1.0 in
          quiet (Copying (stages.Looking root len None)) answer (answers.Call (Word_read (now.next root))) es loaded' then' h.0 h.1
          (t.handed ∙ until t.copy h.1)
          (cond_both (now.next root == 0) stages.Done (resizers.copies root) (λ y. Relies then' (copied (stages.Looking root len None) y))
          (λ zero. let none = eqb-true (now.next root) 0 zero in
          takes_root then' refl r.0 root (last_root g now (map_of g m since) (keeps_since g c hashed s m keeps since may) root was none) (λ inc. none))
          (λ some. (r.0, tt, (tt, (tt, tt)))))
      copy_learns (stages.Looking root len (Some room)) r words t = let no = r.1.1 in absurd (cc no)
      copy_learns (stages.Copying from copying) r words t =
          let out = stage_learns g c hashed now (map_of g m since) (keeps_since g c hashed s m keeps since may) CopyAll mode initial number
          loaded.copy moded cut (stages.Copying from copying) r.2 answer words es t.copy t.told in
          let relies = subst (λ w. ReliesStage g c w t.copy (resizers.copied CopyAll from (copying_after copying mode initial number answer)))
          (sym (run-append since es s)) out.1 in (
            allowed_append g since es s may out.0,
            subst (λ y.
                ReliesState g c s m (since ++ es) scan y (after_in scan mode initial number answer (Copying (stages.Copying from copying))))
                (sym t.handed) (copied_all t.copy r.0 from copying (copying_after copying mode initial number answer) relies),
          )
      copy_learns (stages.Making room) r words t = absurd r.1
      copy_learns (stages.Opening table) r words t = absurd r.1
      copy_learns (stages.Sizing root) r words t = absurd r.1
      copy_learns (stages.Counting root len) r words t = absurd r.1
      copy_learns (stages.Linking link) r words t = absurd r.1
      copy_learns stages.Done r words t = absurd r.1
      copy_learns (stages.Refused refused) r words t = absurd r.1

      -- in each state
      pub state_learns : GivesNone g c s m since scan loaded → (state : ScannerState) → Relies loaded state
          → (answer ≡ answers.Call Exchanged → HasWords g (link_in_scan state)) → IsTrueOfScan g c now since state loaded answer es loaded'
          → Learned state answer es loaded'
      state_learns gives (Copying stage) r words told = copy_learns stage r words told
      state_learns gives AtRoot r words told = root_learns r told
      state_learns gives (Sizing table) r words told = size_learns table r told
      state_learns gives (Looking spot) r words told = look_learns gives spot r told
      state_learns gives (Giving spot word) r words told = give_learns spot word r told
      state_learns gives (Showing spot word) r words told = show_learns spot word r told
      state_learns gives (Burying spot word) r words told = bury_learns gives spot word r told
      state_learns gives (Uncounting spot) r words told = uncount_learns spot r told
      state_learns gives Done r words told = let e = told.asks in absurd (cc e)
      state_learns gives (Refused refused) r words told = let e = told.asks in absurd (cc e)

      -- a call that takes pairs out returns none
      gives_same : (is : Scan) → loaded'.given ≡ loaded.given → GivesNone g c s m since is loaded → GivesNone g c s m (since ++ es) is loaded'
      gives_same Walk same gives = tt
      gives_same Clear same gives = same ∙ gives
      gives_same Retain same gives = same ∙ gives

      pub state_gives : GivesNone g c s m since scan loaded → (state : ScannerState) → Relies loaded state
          → IsTrueOfScan g c now since state loaded answer es loaded' → GivesNone g c s m (since ++ es) scan loaded'
      state_gives gives (Copying stage) r told = gives_same scan (ap (λ h. h.given) told.handed) gives
      state_gives gives AtRoot r told = gives_same scan (ap (λ h. h.given) told.handed) gives
      state_gives gives (Sizing table) r told = gives_same scan (ap (λ h. h.given) told.handed) gives
      state_gives gives (Looking spot) r told = gives_same scan (ap (λ h. h.given) told.handed) gives
      state_gives gives (Giving spot word) r told = subst (λ a. GivesNone g c s m (since ++ es) a loaded') (sym r.1) tt
      state_gives gives (Showing spot word) r told = gives_same scan (ap (λ h. h.given) told.handed) gives
      state_gives gives (Burying spot word) r told =
          by_test (code g c (now.slot spot.table spot.slot) == word) (IsBuried g c now since spot loaded answer es loaded')
          (IsFoundThere g c now since spot loaded answer es loaded') (GivesNone g c s m (since ++ es) scan loaded') told
          (λ stands t. gives_same scan (ap (λ h. h.given) t.handed) gives)
          (λ other t. gives_same scan (ap (λ h. h.given) t.handed) gives)
      state_gives gives (Uncounting spot) r told = gives_same scan (ap (λ h. h.given) told.2) gives
      state_gives gives Done r told = let e = told.asks in absurd (cc e)
      state_gives gives (Refused refused) r told = let e = told.asks in absurd (cc e)
