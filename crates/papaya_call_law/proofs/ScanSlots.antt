-- The steps about each key's pair, slot by slot, since the table was taken.
use Rattle.std.proofs.Common.{◌≡◌, ◌⊎◌, inl, inr, ⊎_elim, ℕ, suc, ◌<◌, ◌≤◌, Bool, true, false}
use Rattle.std.proofs.Common.{Option, None, Some, List, [], ◌∷◌, ◌++◌, append_assoc, append-nil}
use Rattle.std.proofs.Common.{refl, sym, ap, ◌∙◌, subst, arith}
use Rattle.std.proofs.lemmas.Bool.{cases_Bool, cases_order, cond-true, cond-false}
use Rattle.papaya_words_law.specs.Allows.{AllAllowed}
use Rattle.papaya_words_law.specs.Class.{IsBase, IsOn}
use Rattle.papaya_words_law.specs.Exchange.{Word, Empty, Closed, Live, Marked, Copied, Buried, Setting, State as Words, Exchange, Bury, run}
use Rattle.papaya_words_law.specs.Invariant.{IsKeeping, named, shut}
use Rattle.papaya_words_law.specs.Later.{Becomes, IsLater}
use Rattle.papaya_words_law.specs.Meaning.{IsAtMoment, IsLawful, map_of}
use Rattle.papaya_words_law.specs.View.{View, Foreign, Here, Leaving, Gone, Grave, active, held, look, view, IsReached}
use Rattle.papaya_words_law.proofs.Base.{own_place}
use Rattle.papaya_words_law.proofs.Content.{held_word}
use Rattle.papaya_words_law.proofs.Later.{later_run}
use Rattle.papaya_words_law.proofs.Lists.{Holds}
use Rattle.papaya_words_law.proofs.OneMap.{blocking_state, incremental_state, keeping_sound, means, run_keeps}
use Rattle.papaya_words_law.proofs.Readers.{slow_found}
use Rattle.papaya_words_law.proofs.Slots.{view_gone}
use Rattle.papaya_words_law.proofs.Walks.{copied_since, root_holds, still_there}
use Rattle.papaya_call.specs.declared.chain.scanner.Scan.{Scan}
use Rattle.papaya_call.specs.declared.chain.scanner.Scan.TheVariants.{Clear, Retain, Walk}
use Rattle.papaya_call_law.specs.ScanTaken.{IsTakenOut}
use Rattle.papaya_call_law.specs.ScanAnswers.{LoadedPairs, count_of}
use Rattle.papaya_call_law.specs.Scans.{IsDealtWith, IsHeldIn, IsKept, IsMetIn, IsOut, IsPairOf, IsScannedTo}
use Rattle.papaya_call_law.proofs.ScanTaken.{last_taken, live_or_taken, taken_same, taken_stable, buried_taken}

-- a value that the map had at some point, it had at some point for good
pub moment_stable : {K P : Type 0} (g : Setting K P) (m : K → Option P) (fs es : List (Exchange P)) (k : K) (v : Option P) → IsAtMoment g m fs k v
    → IsAtMoment g m (fs ++ es) k v
moment_stable g m fs es k v r = record {
  so_far = r.so_far;
  rest = r.rest ++ es;
  is = sym (append_assoc r.so_far r.rest es)
      ∙ ap (λ l. l ++ es) r.is;
  value_is = r.value_is;
}

module _ {K P : Type 0} (g : Setting K P) (s : Words P) (m : K → Option P) (table : ℕ) where
  -- a pair that is no longer owed is not owed later
  pub out_stable : (fs es : List (Exchange P)) (scan : Scan) (k : K) → IsOut g s m fs table scan k → IsOut g s m (fs ++ es) table scan k
  out_stable fs es Walk k r = moment_stable g m fs es k None r
  out_stable fs es Clear k (inl none) = inl none
  out_stable fs es Clear k (inr taken) = inr (taken_stable g fs es k taken)
  out_stable fs es Retain k (inl none) = inl none
  out_stable fs es Retain k (inr taken) = inr (taken_stable g fs es k taken)

  -- and the steps so far stay
  pub dealt_stable : (fs es : List (Exchange P)) (scan : Scan) (loaded : LoadedPairs P) (slot upto : ℕ) (k : K)
      → IsDealtWith g s m fs table scan loaded slot upto k → IsDealtWith g s m (fs ++ es) table scan loaded slot upto k
  dealt_stable fs es Walk loaded slot upto k r = r
  dealt_stable fs es Clear loaded slot upto k r = r
  dealt_stable fs es Retain loaded slot upto k r = r

  pub scanned_stable : (fs es : List (Exchange P)) (scan : Scan) (loaded : LoadedPairs P) (upto : ℕ) (k : K)
      → IsScannedTo g s m fs table scan loaded upto k → IsScannedTo g s m (fs ++ es) table scan loaded upto k
  scanned_stable fs es scan loaded upto k (inl out) = inl (out_stable fs es scan k out)
  scanned_stable fs es scan loaded upto k (inr (slot, r, dealt)) = inr (slot, r, dealt_stable fs es scan loaded slot upto k dealt)

  pair_stable : (fs es : List (Exchange P)) (scan : Scan) (p : P) (k : K) → IsPairOf g s m fs table scan p k → IsPairOf g s m (fs ++ es) table scan p k
  pair_stable fs es Walk p k r = r
  pair_stable fs es Clear p k r = r
  pair_stable fs es Retain p k r = r

  pub met_stable : (fs es : List (Exchange P)) (scan : Scan) (loaded : LoadedPairs P) (upto : ℕ) (p : P) (k : K)
      → IsMetIn g s m fs table scan loaded upto p k → IsMetIn g s m (fs ++ es) table scan loaded upto p k
  met_stable fs es scan loaded upto p k (inl out) = inl (out_stable fs es scan k out)
  met_stable fs es scan loaded upto p k (inr (slot, r, dealt, here, only)) = inr
      (slot, r, dealt_stable fs es scan loaded slot upto k dealt, (λ e. pair_stable fs es scan p k (here e)), only)

-- no pair of a key is in these words: there is nothing, or the pair was deleted
abbrev pub IsPast : {P : Type 0} → Word P → Type 0
IsPast Empty = Unit {0}
IsPast Closed = Unit {0}
IsPast (Buried p) = Unit {0}
IsPast _ = ⊥

module _ {K P : Type 0} (g : Setting K P) (s : Words P) (m : K → Option P) (fs : List (Exchange P)) (table : ℕ) where
  -- a slot other than the one to which the scan has come
  dealt_on : (scan : Scan) (loaded : LoadedPairs P) (slot upto : ℕ) (k : K) → (slot ≡ upto → ⊥) → IsDealtWith g s m fs table scan loaded slot upto k
      → IsDealtWith g s m fs table scan loaded slot (suc upto) k
  dealt_on Walk loaded slot upto k other (inl (le, count)) = inl (omega (arith, le, other), count)
  dealt_on Walk loaded slot upto k other (inr (lt, count)) = inr (omega (arith, lt), count)
  dealt_on Clear loaded slot upto k other le = omega (arith, le, other)
  dealt_on Retain loaded slot upto k other (inl le) = inl (omega (arith, le, other))
  dealt_on Retain loaded slot upto k other (inr (lt, kept)) = inr (omega (arith, lt), kept)

  -- if the map had no pair of the key
  out_none : (scan : Scan) (k : K) → m k ≡ None → IsOut g s m fs table scan k
  out_none Walk k e = record { so_far = []; rest = fs; is = refl; value_is = e }
  out_none Clear k e = inl e
  out_none Retain k e = inl e

  -- if no pair was returned yet
  dealt_first : (scan : Scan) (loaded : LoadedPairs P) → loaded.given ≡ [] → (slot : ℕ) (k : K) → IsDealtWith g s m fs table scan loaded slot 0 k
  dealt_first Walk loaded none slot k = inl (omega arith, ap (λ ps. count_of g ps k) none)
  dealt_first Clear loaded none slot k = omega arith
  dealt_first Retain loaded none slot k = inl (omega arith)

-- The words were s and the map was m, which the words keep, when the table was taken: it was the
-- root and, without blocking, had no next table.
module _ {K P : Type 0} (g : Setting K P) (law : IsLawful g) (s : Words P) (m : K → Option P) (keeps : IsKeeping g s m) (table : ℕ)
    (root : s.root ≡ table) (some : 0 < table) (last : g.blocking ≡ false → s.next table ≡ 0) (fs : List (Exchange P)) (may : AllAllowed g s fs) where
  -- the words after all exchanges
  abbrev now : Words P
  now = run fs s

  -- before the first slot
  pub scan_begins : (scan : Scan) (loaded : LoadedPairs P) → loaded.given ≡ [] → (k : K) → IsScannedTo g s m fs table scan loaded 0 k
  scan_begins scan loaded none k = by_map (m k) refl
    where
      by_map : (v : Option P) → m k ≡ v → IsScannedTo g s m fs table scan loaded 0 k
      by_map None e = inl (out_none g s m fs table scan k e)
      by_map (Some p) e =
          let (j, lt, has) = root_holds g law s m keeps (λ inc. ap s.next root ∙ last inc) k p e in
          inr (
            g.place k table j,
            record { at = j; within = subst (λ t. j < g.places t) root lt; is = refl; has = subst (λ t. held (look g s k t j) ≡ true) root has },
            dealt_first g s m fs table scan loaded none (g.place k table j) k,
          )

  -- the table was the root
  was : s.was_root table ≡ true
  was = subst (λ t. s.was_root t ≡ true) root ((keeping_sound g s m keeps).root_was (subst (λ t. 0 < t) (sym root) some))

  reached : (k : K) → IsReached g s k table
  reached k = record { from = table; links = 0; was = was; is = refl; made = some; mode = inl refl; passed = λ i lt. absurd (omega (arith, lt)) }

  -- the words are later than they were
  later : IsLater g s now
  later = later_run g law fs s may

  pub was_now : now.was_root table ≡ true
  was_now = later.was table was

  pub reached_now : (k : K) → IsReached g now k table
  reached_now k = record { from = table; links = 0; was = was_now; is = refl; made = some; mode = inl refl; passed = λ i lt. absurd (omega (arith, lt)) }

  keeps_now : IsKeeping g now (map_of g m fs)
  keeps_now = run_keeps g law fs s m keeps may

  -- the later form of a word
  became : (slot : ℕ) (u w : Word P) → s.slot table slot ≡ u → now.slot table slot ≡ w → Becomes g u w
  became slot u w a b = subst (λ v. Becomes g v w) a (subst (Becomes g (s.slot table slot)) b (later.words table slot))

  module _ (k : K) (slot : ℕ) (r : IsHeldIn g s table k slot) where
    -- the pair that was held
    was_held : (p : P) × Holds (s.slot table slot) p × (g.same k (g.key p) ≡ true)
    was_held =
        let (p, h, same) = held_word g k (s.slot table (g.place k table r.at)) (look g s k table r.at) refl r.has in
        (p, subst (λ x. Holds (s.slot table x) p) r.is h, same)

    -- a pair with that pair's key has it too
    still : (p q : P) → g.same k (g.key p) ≡ true → g.key q ≡ g.key p → g.same k (g.key q) ≡ true
    still p q same kept = subst (λ l. g.same k l ≡ true) (sym kept) same

    -- the slot's current word names a pair of the key
    pub names_same : (w : Word P) → now.slot table slot ≡ w → (q : P) × (named w ≡ Some q) × (g.same k (g.key q) ≡ true)
    names_same w e = by_old was_held.0 was_held.2 was_held.1 w e
      where
        by_old : (p : P) → g.same k (g.key p) ≡ true → Holds (s.slot table slot) p → (w : Word P) → now.slot table slot ≡ w → (q : P)
            × (named w ≡ Some q) × (g.same k (g.key q) ≡ true)
        by_old p same (inl h) Empty e = absurd (became slot (Live p) Empty h e)
        by_old p same (inl h) Closed e = absurd (became slot (Live p) Closed h e)
        by_old p same (inl h) (Live q) e = (q, refl, still p q same (became slot (Live p) (Live q) h e))
        by_old p same (inl h) (Marked q) e = (q, refl, still p q same (became slot (Live p) (Marked q) h e))
        by_old p same (inl h) (Copied q) e = (q, refl, still p q same (became slot (Live p) (Copied q) h e))
        by_old p same (inl h) (Buried q) e = (q, refl, still p q same (became slot (Live p) (Buried q) h e))
        by_old p same (inr h) w e = (p, ⊎_elim (λ a. ap named a) (λ a. ap named a) (became slot (Marked p) w h e), same)

    -- if it was deleted since, its pair was taken out
    buried_out : (q : P) → now.slot table slot ≡ Buried q → IsTakenOut g fs k
    buried_out q e =
        let (p, h, same) = was_held in
        ⊎_elim
        (λ live. buried_taken g law k table slot p q fs s may same live e)
        (λ marked. absurd (⊎_elim (λ a. cc a) (λ a. cc a) (became slot (Marked p) (Buried q) marked e)))
        h

    -- so if no pair is in the slot any longer, nothing is owed
    past_out : (scan : Scan) (w : Word P) → now.slot table slot ≡ w → IsPast w → IsOut g s m fs table scan k
    past_out scan Empty e past = let (q, n, same) = names_same Empty e in absurd (cc n)
    past_out scan Closed e past = let (q, n, same) = names_same Closed e in absurd (cc n)
    past_out Walk (Buried q) e past =
        ⊎_elim
        (λ on. absurd (not_active q (subst (λ x. active (view g k (now.slot table x)) ≡ true) r.is on) e))
        (λ none. none)
        (still_there g law m k table r.at fs s may r.has)
      where
        not_active : (q : P) → active (view g k (now.slot table slot)) ≡ true → now.slot table slot ≡ Buried q → ⊥
        not_active q on e =
            let there : active (view g k (Buried q)) ≡ true = subst (λ w. active (view g k w) ≡ true) e on in
            ⊎_elim
            (λ y. let f = cond-true (g.same k (g.key q)) (Grave q) Foreign y in let n = ap active f in cc)
            (λ y. let f = cond-false (g.same k (g.key q)) (Grave q) Foreign y in let n = ap active f in cc)
            (cases_Bool (g.same k (g.key q)))
    past_out Clear (Buried q) e past = inr (buried_out q e)
    past_out Retain (Buried q) e past = inr (buried_out q e)
    past_out scan (Live q) e past = absurd past
    past_out scan (Marked q) e past = absurd past
    past_out scan (Copied q) e past = absurd past

  -- the scan passes such a slot
  pub scan_passes : (scan : Scan) (loaded : LoadedPairs P) (upto : ℕ) (w : Word P) → now.slot table upto ≡ w → IsPast w → (k : K)
      → IsScannedTo g s m fs table scan loaded upto k → IsScannedTo g s m fs table scan loaded (suc upto) k
  scan_passes scan loaded upto w e past k (inl out) = inl out
  scan_passes scan loaded upto w e past k (inr (slot, r, dealt)) =
      ⊎_elim
      (λ (is : slot ≡ upto). inl (past_out k slot r scan w (ap (now.slot table) is ∙ e) past))
      (λ (o : (slot < upto) ⊎ (upto < slot)). let other : (slot ≡ upto → ⊥) = (λ is. ⊎_elim (λ a. omega (arith, a, is)) (λ b. omega (arith, b, is)) o)
      in inr (slot, r, dealt_on g s m fs table scan loaded slot upto k other dealt))
      (cases_order slot upto)

  -- and one whose pair is deleted
  pub scan_buries : (scan : Scan) (loaded : LoadedPairs P) (upto : ℕ) (p : P) → now.slot table upto ≡ Live p → (scan ≡ Walk → ⊥) → (k : K)
      → IsScannedTo g s m fs table scan loaded upto k → IsScannedTo g s m (fs ++ Bury table upto p ∷ []) table scan loaded (suc upto) k
  scan_buries scan loaded upto p live takes k (inl out) = inl (out_stable g s m table fs (Bury table upto p ∷ []) scan k out)
  scan_buries scan loaded upto p live takes k (inr (slot, r, dealt)) =
      ⊎_elim
      (λ (is : slot ≡ upto).
      let (q, name, same) = names_same k slot r (Live p) (ap (now.slot table) is ∙ live) in
      let one : p ≡ q = cc name in
      inl (taken_out scan takes (ap (λ o. g.same k (g.key o)) one ∙ same)))
      (λ (o : (slot < upto) ⊎ (upto < slot)). let other : (slot ≡ upto → ⊥) = (λ is. ⊎_elim (λ a. omega (arith, a, is)) (λ b. omega (arith, b, is)) o) in
      inr (
        slot,
        r,
        dealt_stable g s m table fs (Bury table upto p ∷ []) scan loaded slot (suc upto) k
            (dealt_on g s m fs table scan loaded slot upto k other dealt),
      ))
      (cases_order slot upto)
    where
      taken_out : (scan : Scan) → (scan ≡ Walk → ⊥) → g.same k (g.key p) ≡ true → IsOut g s m (fs ++ Bury table upto p ∷ []) table scan k
      taken_out Walk takes same = absurd (takes refl)
      taken_out Clear takes same = inr (last_taken g (Bury table upto p) fs k same)
      taken_out Retain takes same = inr (last_taken g (Bury table upto p) fs k same)

  -- in each state a table has one slot in which a key's pair is, or was until it was copied
  one_slot : (k : K) (i j : ℕ) → i < g.places table → j < g.places table → active (look g now k table i) ≡ true → active (look g now k table j) ≡ true
      → g.place k table i ≡ g.place k table j
  one_slot k i j a b x y =
      let base : IsBase (IsOn now.first now.next) g.places (g.place k) (look g now k) = ⊎_elim (λ h. (h.1.class k).base) (λ h. (h.1.class k).base) keeps_now in
      base.one table i j a b x y

  -- a word with which a table has a pair, or had it until it was copied
  abbrev HasPair : Word P → P → Type 0
  HasPair w p = (w ≡ Live p) ⊎ (w ≡ Marked p) ⊎ (w ≡ Copied p)

  pair_active : (k : K) (w : Word P) (p : P) → HasPair w p → g.same k (g.key p) ≡ true → active (view g k w) ≡ true
  pair_active k w p (inl e) same = ap (λ v. active (view g k v)) e ∙ ap active (cond-true (g.same k (g.key p)) (Here p) Foreign same)
  pair_active k w p (inr (inl e)) same = ap (λ v. active (view g k v)) e ∙ ap active (cond-true (g.same k (g.key p)) (Leaving p) Foreign same)
  pair_active k w p (inr (inr e)) same = ap (λ v. active (view g k v)) e ∙ ap active (cond-true (g.same k (g.key p)) (Gone p) Foreign same)

  pair_named : (w : Word P) (p : P) → HasPair w p → named w ≡ Some p
  pair_named w p (inl e) = ap named e
  pair_named w p (inr (inl e)) = ap named e
  pair_named w p (inr (inr e)) = ap named e

  -- a pair that was held in a slot is still there, in one form or the other, or nothing is owed
  held_still : (scan : Scan) (k : K) (slot : ℕ) → (r : IsHeldIn g s table k slot) → IsOut g s m fs table scan k ⊎ (active (look g now k table r.at) ≡ true)
  held_still scan k slot r = by_word (now.slot table slot) refl
    where
      on : (w : Word P) (q : P) → now.slot table slot ≡ w → HasPair w q → active (look g now k table r.at) ≡ true
      on w q e has =
          let (o, name, same) = names_same k slot r w e in
          let mine = pair_named w q has in
          let one : o ≡ q = cc (name, mine) in
          let there : active (view g k w) ≡ true = pair_active k w q has (ap (λ y. g.same k (g.key y)) (sym one) ∙ same) in
          ap (λ x. active (view g k (now.slot table x))) r.is ∙ (ap (λ v. active (view g k v)) e ∙ there)

      by_word : (w : Word P) → now.slot table slot ≡ w → IsOut g s m fs table scan k ⊎ (active (look g now k table r.at) ≡ true)
      by_word Empty e = inl (past_out k slot r scan Empty e tt)
      by_word Closed e = inl (past_out k slot r scan Closed e tt)
      by_word (Buried q) e = inl (past_out k slot r scan (Buried q) e tt)
      by_word (Live q) e = inr (on (Live q) q e (inl refl))
      by_word (Marked q) e = inr (on (Marked q) q e (inr (inl refl)))
      by_word (Copied q) e = inr (on (Copied q) q e (inr (inr refl)))

  -- the pair that the map had
  had_pair : (k : K) (slot : ℕ) (r : IsHeldIn g s table k slot) → (p : P) × Holds (s.slot table slot) p × (g.same k (g.key p) ≡ true) × (m k ≡ Some p)
  had_pair k slot r =
      let (p, h, same) = was_held k slot r in
      let there : Holds (s.slot table (g.place k table r.at)) p = subst (λ x. Holds (s.slot table x) p) (sym r.is) h in
      let seen : (look g s k table r.at ≡ Here p) ⊎ (look g s k table r.at ≡ Leaving p) = ⊎_elim
      (λ e. inl (ap (view g k) e ∙ cond-true (g.same k (g.key p)) (Here p) Foreign same))
      (λ e. inr (ap (view g k) e ∙ cond-true (g.same k (g.key p)) (Leaving p) Foreign same))
      there in
      (p, h, same, (means g law s m keeps k).found table r.at p (reached k) (λ b. root) r.within seen)

  -- a pair that is met is the key's whose pair was held in the slot
  is_pair : (scan : Scan) (k : K) (slot : ℕ) (p : P) → IsHeldIn g s table k slot → (scan ≡ Retain → now.slot table slot ≡ Live p)
      → g.same k (g.key p) ≡ true → IsOut g s m fs table scan k ⊎ IsPairOf g s m fs table scan p k
  is_pair Walk k slot p r live same = inr same
  is_pair Clear k slot p r live same = inr same
  is_pair Retain k slot p r live same =
      let (q, h, same', had) = had_pair k slot r in
      ⊎_elim
      (λ stood. ⊎_elim
      (λ (is : p ≡ q). inr (had ∙ ap Some (sym is)))
      (λ taken. inl (inr (taken_same g law fs k (g.key q) same' taken)))
      (live_or_taken g law table slot q p fs s may stood (live refl)))
      (λ marked. absurd (⊎_elim (λ a. cc a) (λ a. cc a) (became slot (Marked q) (Live p) marked (live refl))))
      h

  -- a pair is met in the slot to which the scan has come
  pub scan_meets : (scan : Scan) (loaded : LoadedPairs P) (upto : ℕ) (w : Word P) (p : P) → now.slot table upto ≡ w → HasPair w p
      → (scan ≡ Retain → w ≡ Live p) → (k : K) → IsScannedTo g s m fs table scan loaded upto k → IsMetIn g s m fs table scan loaded upto p k
  scan_meets scan loaded upto w p e has live k (inl out) = inl out
  scan_meets scan loaded upto w p e has live k (inr (slot, r, dealt)) =
      ⊎_elim
      (λ (same : g.same k (g.key p) ≡ true).
      ⊎_elim
      (λ out. inl out)
      (λ there.
      let is : slot ≡ upto = here same there in
      ⊎_elim
      (λ out. inl out)
      (λ mine. inr (slot, r, dealt, (λ _. mine), (λ _. is)))
      (is_pair scan k slot p r (λ v. ap (now.slot table) is ∙ (e ∙ live v)) same))
      (held_still scan k slot r))
      (λ (other : g.same k (g.key p) ≡ false).
      inr (slot, r, dealt, (λ is. absurd (apart other is)), (λ same. absurd (let no = other in cc (no, same)))))
      (cases_Bool (g.same k (g.key p)))
    where
      name : named (now.slot table upto) ≡ Some p
      name = ap named e ∙ pair_named w p has

      here : g.same k (g.key p) ≡ true → active (look g now k table r.at) ≡ true → slot ≡ upto
      here same there =
          let (j, within, is) = own_place g now (keeping_sound g now (map_of g m fs) keeps_now) law k table upto p same name in
          let there' : active (look g now k table j) ≡ true = ap (λ x. active (view g k (now.slot table x))) is
          ∙ (ap (λ v. active (view g k v)) e ∙ pair_active k w p has same) in
          sym r.is ∙ (one_slot k r.at j r.within within there there' ∙ is)

      apart : g.same k (g.key p) ≡ false → slot ≡ upto → ⊥
      apart other is =
          let (q, called, same) = names_same k slot r w (ap (now.slot table) is ∙ e) in
          let mine = pair_named w p has in
          let one : q ≡ p = cc (called, mine) in
          let no : g.same k (g.key p) ≡ true = ap (λ y. g.same k (g.key y)) (sym one) ∙ same in
          cc (other, no)

  -- it is returned
  pub scan_gives : (loaded : LoadedPairs P) (upto : ℕ) (p : P) (k : K) → IsMetIn g s m fs table Walk loaded upto p k
      → IsScannedTo g s m fs table Walk (record loaded { given = p ∷ loaded.given }) (suc upto) k
  scan_gives loaded upto p k (inl out) = inl out
  scan_gives loaded upto p k (inr (slot, r, dealt, mine, only)) =
      ⊎_elim
      (λ (same : g.same k (g.key p) ≡ true).
      let is = only same in
      inr (
        slot,
        r,
        ⊎_elim
            (λ (a : (upto ≤ slot) × (count_of g loaded.given k ≡ 0)).
            inr (omega (arith, is), cond-true (g.same k (g.key p)) (suc (count_of g loaded.given k)) (count_of g loaded.given k) same ∙ ap suc a.1))
            (λ (b : (slot < upto) × (count_of g loaded.given k ≡ 1)). let lt = b.0 in absurd (omega (arith, is, lt)))
            dealt,
      ))
      (λ (no : g.same k (g.key p) ≡ false).
      let other : (slot ≡ upto → ⊥) = (λ is. let yes' = mine is in cc (yes', no)) in
      let count : count_of g (p ∷ loaded.given) k ≡ count_of g loaded.given k = cond-false (g.same k (g.key p)) (suc (count_of g loaded.given k))
      (count_of g loaded.given k) no in
      inr (
        slot,
        r,
        ⊎_elim
            (λ (a : (suc upto ≤ slot) × (count_of g loaded.given k ≡ 0)). inl (a.0, count ∙ a.1))
            (λ (b : (slot < suc upto) × (count_of g loaded.given k ≡ 1)). inr (b.0, count ∙ b.1))
            (dealt_on g s m fs table Walk loaded slot upto k other dealt),
      ))
      (cases_Bool (g.same k (g.key p)))

  -- the closure is called with it: a result for another pair changes nothing
  answered : (loaded : LoadedPairs P) (slot upto : ℕ) (p : P) (stays : Bool) (k : K) → IsHeldIn g s table k slot
      → (g.same k (g.key p) ≡ true → slot ≡ upto) → slot < upto → IsKept g s m fs table loaded k
      → IsKept g s m fs table (record loaded { shown = (p, stays) ∷ loaded.shown }) k
  answered loaded slot upto p stays k r only lt (q, had, answer) = (q, had, inr (apart, answer))
    where
      apart : p ≡ q → ⊥
      apart one =
          let (o, h, same, had') = had_pair k slot r in
          let two : o ≡ q = cc (had, had') in
          let is = only (ap (λ y. g.same k (g.key y)) (one ∙ sym two) ∙ same) in
          omega (arith, is, lt)

  -- if it stays the scan continues
  pub scan_keeps : (loaded : LoadedPairs P) (upto : ℕ) (p : P) (k : K) → IsMetIn g s m fs table Retain loaded upto p k
      → IsScannedTo g s m fs table Retain (record loaded { shown = (p, true) ∷ loaded.shown }) (suc upto) k
  scan_keeps loaded upto p k (inl out) = inl out
  scan_keeps loaded upto p k (inr (slot, r, dealt, mine, only)) =
      ⊎_elim
      (λ (is : slot ≡ upto). inr (slot, r, inr (omega (arith, is), (p, mine is, inl (refl, refl)))))
      (λ (o : (slot < upto) ⊎ (upto < slot)).
      inr (
        slot,
        r,
        ⊎_elim
            (λ (lt : slot < upto). ⊎_elim
            (λ (le : upto ≤ slot). absurd (omega (arith, lt, le)))
            (λ (b : (slot < upto) × IsKept g s m fs table loaded k). inr (omega (arith, lt), answered loaded slot upto p true k r only lt b.1))
            dealt)
            (λ (gt : upto < slot). inl (omega (arith, gt)))
            o,
      ))
      (cases_order slot upto)

  -- otherwise it is to be deleted
  pub scan_drops : (loaded : LoadedPairs P) (upto : ℕ) (p : P) (k : K) → IsMetIn g s m fs table Retain loaded upto p k
      → IsScannedTo g s m fs table Retain (record loaded { shown = (p, false) ∷ loaded.shown }) upto k
  scan_drops loaded upto p k (inl out) = inl out
  scan_drops loaded upto p k (inr (slot, r, dealt, mine, only)) =
      inr (
        slot,
        r,
        ⊎_elim
            (λ (le : upto ≤ slot). inl le)
            (λ (b : (slot < upto) × IsKept g s m fs table loaded k). let lt = b.0 in inr (lt, answered loaded slot upto p false k r only lt b.1))
            dealt,
      )

  -- a pair that is met was the map's at some point since the table was taken
  pub met_had : (slot : ℕ) (w : Word P) (p : P) → now.slot table slot ≡ w → HasPair w p → IsAtMoment g m fs (g.key p) (Some p)
  met_had slot w p e has =
      let k = g.key p in
      let name : named (now.slot table slot) ≡ Some p = ap named e ∙ pair_named w p has in
      let (j, within, is) = own_place g now (keeping_sound g now (map_of g m fs) keeps_now) law k table slot p (law.itself k) name in
      by_word j within (ap (now.slot table) is ∙ e) has
    where
      -- a pair that is held is found
      found : (j : ℕ) → j < g.places table → (look g now (g.key p) table j ≡ Here p) ⊎ (look g now (g.key p) table j ≡ Leaving p)
          → IsAtMoment g m fs (g.key p) (Some p)
      found j within h =
          ⊎_elim
          (λ blocks. slow_found g law blocks s m (⊎_elim (λ i. absurd (let no = i.0 in cc (no, blocks))) (λ b. b.1) keeps) table root some fs may
          (g.key p) j p within h)
          (λ inc. record {
            so_far = fs;
            rest = [];
            is = append-nil fs;
            value_is = (means g law now (map_of g m fs) keeps_now (g.key p)).found table j
                p (reached_now (g.key p)) (λ b. absurd (cc (b, inc))) within h;
          })
          (cases_Bool g.blocking)

      here : (j : ℕ) (u : Word P) (v : View P) → now.slot table (g.place (g.key p) table j) ≡ u
          → (g.same (g.key p) (g.key p) ≡ true → view g (g.key p) u ≡ v) → look g now (g.key p) table j ≡ v
      here j u v a b = ap (view g (g.key p)) a ∙ b (law.itself (g.key p))

      -- a table without a next one had no copied word
      not_gone : g.blocking ≡ false → (j : ℕ) → look g s (g.key p) table j ≡ Gone p → ⊥
      not_gone inc j e =
          let copied = view_gone g (g.key p) (s.slot table (g.place (g.key p) table j)) p e in
          let more = (keeping_sound g s m keeps).further table (g.place (g.key p) table j) (ap shut copied.0) in
          let none = last inc in omega (arith, more, none)

      by_word : (j : ℕ) → j < g.places table → now.slot table (g.place (g.key p) table j) ≡ w → HasPair w p → IsAtMoment g m fs (g.key p) (Some p)
      by_word j within a (inl b) = found j within (inl (here j (Live p) (Here p) (a ∙ b) (λ y. cond-true (g.same (g.key p) (g.key p)) (Here p) Foreign y)))
      by_word j within a (inr (inl b)) = found j within
          (inr (here j (Marked p) (Leaving p) (a ∙ b) (λ y. cond-true (g.same (g.key p) (g.key p)) (Leaving p) Foreign y)))
      by_word j within a (inr (inr b)) =
          ⊎_elim
          (λ blocks. absurd ((blocking_state g now (map_of g m fs) keeps_now blocks).copied table (g.place (g.key p) table j) p (a ∙ b)))
          (λ inc. copied_since g law inc s m (incremental_state g s m keeps inc) (g.key p) table j p fs may (reached (g.key p)) within
          (not_gone inc j) (here j (Copied p) (Gone p) (a ∙ b) (λ y. cond-true (g.same (g.key p) (g.key p)) (Gone p) Foreign y)))
          (cases_Bool g.blocking)
