-- The facts once each slot was scanned.
use Rattle.std.proofs.Common.{◌≡◌, ◌⊎◌, inl, inr, ⊎_elim, ℕ, ◌<◌, ◌≤◌, true, false, Option, None}
use Rattle.std.proofs.Common.{Some, List, [], ◌∷◌, ◌++◌, append-nil, refl, sym, ap, ◌∙◌, subst}
use Rattle.std.proofs.Common.{arith}
use Rattle.std.proofs.lemmas.Bool.{cases_Bool, cond-false}
use Rattle.papaya_words_law.specs.Allows.{AllAllowed}
use Rattle.papaya_words_law.specs.Class.{IsOn, IsOwner, IsTied}
use Rattle.papaya_words_law.specs.ClassBlocking.{IsRootOwner, IsRootTied}
use Rattle.papaya_words_law.specs.Code.{Coding}
use Rattle.papaya_words_law.specs.Exchange.{Setting, State as Words, Exchange, Open, Claim, Replace}
use Rattle.papaya_words_law.specs.Exchange.{Bury, Link, Mark, Close, Place, Finish, Advance, Promote}
use Rattle.papaya_words_law.specs.Exchange.{Abort, Take, after, run}
use Rattle.papaya_words_law.specs.Invariant.{IsKeeping}
use Rattle.papaya_words_law.specs.Meaning.{IsLawful, IsLegal, map_after, map_of}
use Rattle.papaya_words_law.specs.View.{View, held, look}
use Rattle.papaya_words_law.proofs.Class.{held_of}
use Rattle.papaya_words_law.proofs.OneMap.{means, run_keeps, step_keeps}
use Rattle.papaya_words_law.proofs.Slots.{look_same}
use Rattle.papaya_call_law.specs.TrueAnswers.{IsOneOf}
use Rattle.papaya_call.specs.declared.chain.scanner.Scan.{Scan}
use Rattle.papaya_call.specs.declared.chain.scanner.Scan.TheVariants.{Clear, Retain, Walk}
use Rattle.papaya_call_law.specs.ScanTaken.{IsTakenOut, takes_out}
use Rattle.papaya_call_law.specs.ScanAnswers.{IsLastAnswer, LoadedPairs, count_of}
use Rattle.papaya_call_law.specs.Scans.{HasScanned, IsHeldIn, IsScannedTo, IsTaking}
use Rattle.papaya_call_law.proofs.ScanTaken.{first_taken, later_taken, taken_behind, taken_stable}

module _ {K P : Type 0} (g : Setting K P) (law : IsLawful g) where
  -- if a key has no pair, no equal key has one
  none_same : (s : Words P) (m : K → Option P) → IsKeeping g s m → (k l : K) → g.same k l ≡ true → m l ≡ None → m k ≡ None
  none_same s m keeps k l same none = by_value (m k) refl
    where
      -- if one key's search holds a pair at a place, so does the other's
      seen : (t j : ℕ) (p : P) → held (look g s k t j) ≡ true → held (look g s l t j) ≡ true
      seen t j p = subst (λ (V : ℕ → ℕ → View P). held (V t j) ≡ true) (look_same g law s k l same)

      by_value : (v : Option P) → m k ≡ v → m k ≡ None
      by_value None e = e
      by_value (Some p) e =
          ⊎_elim
          (λ h.
          let o : IsOwner (IsOn s.first s.next) g.places (look g s k) p = subst (IsTied (IsOn s.first s.next) g.places (look g s k)) e (h.1.class k).tied in
          let no : IsTied (IsOn s.first s.next) g.places (look g s l) None = subst (IsTied (IsOn s.first s.next) g.places (look g s l)) none
          (h.1.class l).tied in
          absurd (no o.table o.at o.within (seen o.table o.at p (held_of (look g s k o.table o.at) p o.has))))
          (λ h.
          let o : IsRootOwner g.places (look g s k) s.root p = subst (IsRootTied g.places (look g s k) s.root) e (h.1.class k).tied in
          let no : IsRootTied g.places (look g s l) s.root None = subst (IsRootTied g.places (look g s l) s.root) none (h.1.class l).tied in
          absurd (no o.at o.within (seen s.root o.at p (held_of (look g s k s.root o.at) p o.has))))
          keeps

  -- an exchange takes out a key's pair or leaves it, if the map had one
  abbrev LeavesPair : (K → Option P) → Exchange P → K → Type 0
  LeavesPair m e k = (m k ≡ None) ⊎ (takes_out g e k ≡ true) ⊎ (map_after g m e k ≡ m k)

  one_leaves : (s : Words P) (m : K → Option P) → IsKeeping g s m → (e : Exchange P) → IsLegal g m e → (k : K) → LeavesPair m e k
  one_leaves s m keeps (Claim t x p) legal k =
      ⊎_elim
      (λ (same : g.same k (g.key p) ≡ true). inl (none_same s m keeps k (g.key p) same legal))
      (λ (other : g.same k (g.key p) ≡ false). inr (inr (cond-false (g.same k (g.key p)) (Some p) (m k) other)))
      (cases_Bool (g.same k (g.key p)))
  one_leaves s m keeps (Replace t x p q) legal k =
      ⊎_elim
      (λ (same : g.same k (g.key p) ≡ true). inr (inl same))
      (λ (other : g.same k (g.key p) ≡ false). inr (inr (cond-false (g.same k (g.key p)) (Some q) (m k) other)))
      (cases_Bool (g.same k (g.key p)))
  one_leaves s m keeps (Bury t x p) legal k =
      ⊎_elim
      (λ (same : g.same k (g.key p) ≡ true). inr (inl same))
      (λ (other : g.same k (g.key p) ≡ false). inr (inr (cond-false (g.same k (g.key p)) None (m k) other)))
      (cases_Bool (g.same k (g.key p)))
  one_leaves s m keeps (Open t) legal k = inr (inr refl)
  one_leaves s m keeps (Link t n) legal k = inr (inr refl)
  one_leaves s m keeps (Mark t x p) legal k = inr (inr refl)
  one_leaves s m keeps (Close t x) legal k = inr (inr refl)
  one_leaves s m keeps (Place n x p) legal k = inr (inr refl)
  one_leaves s m keeps (Finish t x p) legal k = inr (inr refl)
  one_leaves s m keeps (Advance n chunk) legal k = inr (inr refl)
  one_leaves s m keeps (Promote t n) legal k = inr (inr refl)
  one_leaves s m keeps (Abort n) legal k = inr (inr refl)
  one_leaves s m keeps (Take n) legal k = inr (inr refl)

  -- if the map had a pair of the key, it was taken out, or it is still there
  pub all_leave : (es : List (Exchange P)) (s : Words P) (m : K → Option P) → IsKeeping g s m → AllAllowed g s es → (k : K) → (m k ≡ None)
      ⊎ IsTakenOut g es k ⊎ (map_of g m es k ≡ m k)
  all_leave [] s m keeps may k = inr (inr refl)
  all_leave (e ∷ es) s m keeps may k =
      let step = step_keeps g law s m keeps e may.0 in
      let then' = all_leave es (after s e) (map_after g m e) step.1 may.1 k in
      ⊎_elim
      (λ none. inl none)
      (⊎_elim
      (λ out. inr (inl (first_taken g e es k out)))
      (λ (stays : map_after g m e k ≡ m k).
      ⊎_elim
      (λ none. inl (sym stays ∙ none))
      (⊎_elim
      (λ taken. inr (inl (later_taken g e es k taken)))
      (λ same. inr (inr (same ∙ stays))))
      then'))
      (one_leaves s m keeps e step.0 k)

module _ {K P : Type 0} (g : Setting K P) (c : Coding K P) (law : IsLawful g) (s : Words P) (m : K → Option P) (keeps : IsKeeping g s m)
    (since : List (Exchange P)) where
  -- facts about a key since the table was taken are facts since the call began
  module _ (es fs : List (Exchange P)) (is : es ++ fs ≡ since) (may : AllAllowed g s es) (k : K) where
    -- for pairs that were taken out
    out_behind : (map_of g m es k ≡ None) ⊎ IsTakenOut g fs k → (m k ≡ None) ⊎ IsTakenOut g since k
    out_behind (inl none) =
        ⊎_elim
        (λ before. inl before)
        (⊎_elim
        (λ taken. inr (subst (λ l. IsTakenOut g l k) is (taken_stable g es fs k taken)))
        (λ (same : map_of g m es k ≡ m k). inl (sym same ∙ none)))
        (all_leave g law es s m keeps may k)
    out_behind (inr taken) = inr (subst (λ l. IsTakenOut g l k) is (taken_behind g es fs k taken))

    -- and for those that were kept
    kept_behind : (loaded : LoadedPairs P) → (p : P) × (map_of g m es k ≡ Some p) × IsLastAnswer loaded.shown p true → (m k ≡ None)
        ⊎ IsTakenOut g since k ⊎ ((p : P) × (m k ≡ Some p) × IsLastAnswer loaded.shown p true)
    kept_behind loaded (p, has, answer) =
        ⊎_elim
        (λ before. inl before)
        (⊎_elim
        (λ taken. inr (inl (subst (λ l. IsTakenOut g l k) is (taken_stable g es fs k taken))))
        (λ (same : map_of g m es k ≡ m k). inr (inr (p, sym same ∙ has, answer))))
        (all_leave g law es s m keeps may k)

  module _ (loaded : LoadedPairs P) (table : ℕ) (es fs : List (Exchange P)) (taken : IsTaking g c s m since table loaded es fs) (may : AllAllowed g s es) where
    -- a slot is one of its table
    within : (k : K) (slot : ℕ) → IsHeldIn g (run es s) table k slot → slot < g.size table
    within k slot r = subst (λ x. x < g.size table) r.is (law.within k table r.at r.within)

    -- a whole table was scanned
    pub table_over : (upto : ℕ) → g.size table ≤ upto → (scan : Scan)
        → ((k : K) → IsScannedTo g (run es s) (map_of g m es) fs table scan loaded upto k) → HasScanned g c s m since scan loaded
    table_over upto whole Walk each = record {
      es = es;
      fs = fs;
      is = taken.is;
      moment = taken.moment;
      last = λ some inc. ap (run es s).next taken.root ∙ taken.last inc;
      given = taken.given;
      each = λ k.
          ⊎_elim
          (λ out. inl out)
          (λ h. let (slot, r, dealt) = h in
          ⊎_elim
          (λ (a : (upto ≤ slot) × (count_of g loaded.given k ≡ 0)). let le = a.0 in let lt = within k slot r in absurd (omega (arith, whole, le, lt)))
          (λ b. inr b.1)
          dealt)
          (each k);
    }
    table_over upto whole Clear each = λ k.
        ⊎_elim
        (λ out. out_behind es fs taken.is may k out)
        (λ h. let (slot, r, le) = h in let lt = within k slot r in absurd (omega (arith, whole, le, lt)))
        (each k)
    table_over upto whole Retain each = λ k.
        ⊎_elim
        (λ out. ⊎_elim (λ none. inl none) (λ out'. inr (inl out')) (out_behind es fs taken.is may k out))
        (λ h. let (slot, r, dealt) = h in
        ⊎_elim
        (λ (le : upto ≤ slot). let lt = within k slot r in absurd (omega (arith, whole, le, lt)))
        (λ b. kept_behind es fs taken.is may k loaded b.1)
        dealt)
        (each k)

  -- there is no root
  pub rootless_over : AllAllowed g s since → (run since s).root ≡ 0 → (scan : Scan) (loaded : LoadedPairs P) → loaded.before ≡ since
      → loaded.given ≡ [] → HasScanned g c s m since scan loaded
  rootless_over may zero scan loaded moment none = by_scan scan
    where
      empty : (k : K) → map_of g m since k ≡ None
      empty k = (means g law (run since s) (map_of g m since) (run_keeps g law since s m keeps may) k).no_root zero

      by_scan : (scan : Scan) → HasScanned g c s m since scan loaded
      by_scan Walk = record {
        es = since;
        fs = [];
        is = append-nil since;
        moment = moment;
        last = λ some inc. absurd (omega (arith, zero, some));
        given = λ p one. absurd (subst (λ ps. IsOneOf ps p) none one);
        each = λ k. inl (record { so_far = []; rest = []; is = refl; value_is = empty k });
      }
      by_scan Clear = λ k. out_behind since [] (append-nil since) may k (inl (empty k))
      by_scan Retain = λ k. ⊎_elim (λ a. inl a) (λ b. inr (inl b)) (out_behind since [] (append-nil since) may k (inl (empty k)))
