-- A report is read after it by a session that has observed it, unless a change took the reported entry out.
use Rattle.std.proofs.Common.{◌≡◌, ◌==◌, ◌⊎◌, ℕ, Bool, true, false, Option, None, Some, List, [], ◌∷◌, ◌++◌, inl, inr, ⊎_elim, refl, sym, ap, ◌∙◌, append_assoc, subst}
use Rattle.std.proofs.lemmas.Bool.{cases_Bool, cond-false, eq-eqb, eqb-true}
use Rattle.std.specs.Prelude.{is_some, option_map}
use Rattle.std.specs.Borrow.{Bor}
use mathlib.Core.List.{IsPrefix}
use Rattle.papaya.specs.Types.{Refused}
use Rattle.papaya.specs.Threads.{AllLegalChanges, Change, IsAnsweredBetween, IsLegalHistory, IsPlainRefusal, IsPut, IsWriteRefusal, Stored, WasTakenOut, changed, key_of, replay, replay_from}
use Rattle.papaya_uses.specs.Jobs.{HasReported, IsReadAfter, Seen, entry_of}
use Rattle.papaya_uses.proofs.MetricLemmas.{seen_on}

-- why an insertion is refused, as far as a caller knows who does not see the session
pub plain : (limit : Option ℕ) (taken : ℕ) (refused : Refused) → IsWriteRefusal limit taken refused → IsPlainRefusal limit refused
plain limit taken refused (inl memory_or_capacity) = inl memory_or_capacity
plain limit taken refused (inr (is, spent)) = inr (is, ap (λ (l : Option ℕ). is_some l) spent)

abbrev same : ℕ → ℕ → Bool
same a b = a == b

abbrev Entry : Type 0
Entry = Stored ℕ ℕ

-- the map that changes make, in two parts
replay_on : (m : ℕ → Option Entry) (before after : Seen) (k : ℕ)
    → replay_from same m (before ++ after) k ≡ replay_from same (replay_from same m before) after k
replay_on m [] after k = refl
replay_on m (c ∷ before) after k = replay_on (changed same m c) before after k

-- of legal changes the first ones are legal, and those after them
legal_first : (m : ℕ → Option Entry) (before after : Seen) → AllLegalChanges same key_of m (before ++ after)
    → AllLegalChanges same key_of m before
legal_first m [] after legal = tt
legal_first m (c ∷ before) after legal = (legal.0, legal_first (changed same m c) before after legal.1)

legal_after : (m : ℕ → Option Entry) (before after : Seen) → AllLegalChanges same key_of m (before ++ after)
    → AllLegalChanges same key_of (replay_from same m before) after
legal_after m [] after legal = legal
legal_after m (c ∷ before) after legal = legal_after (changed same m c) before after legal.1

-- one of these changes took the entry out
abbrev IsOut : Seen → Entry → Type 0
IsOut cs p = (before : Seen) × (change : Change ℕ Entry) × (rest : Seen) × (before ++ change ∷ rest ≡ cs) × (change.taken ≡ Some p)

-- an entry of the map is there after the changes, or one of them took it out
out_or_there : (cs : Seen) (m : ℕ → Option Entry) → AllLegalChanges same key_of m cs → (k : ℕ) (p : Entry) → m k ≡ Some p
    → IsOut cs p ⊎ (replay_from same m cs k ≡ Some p)
out_or_there [] m legal k p has = inr has
out_or_there (c ∷ cs) m legal k p has =
    ⊎_elim
    (λ (is : (k == c.class) ≡ true). inl ([], c, cs, refl, sym legal.0.taken_is ∙ (ap m (sym (eqb-true k c.class is)) ∙ has)))
    (λ (other : (k == c.class) ≡ false).
    ⊎_elim
    (λ out. let (before, change, rest, is, taken) = out in inl (c ∷ before, change, rest, ap (λ (z : Seen). c ∷ z) is, taken))
    (λ there. inr there)
    (out_or_there cs (changed same m c) legal.1 k p (cond-false (k == c.class) c.put (m k) other ∙ has)))
    (cases_Bool (k == c.class))

located : (old new : Seen) (pre : IsPrefix old new) (p : Entry) → IsOut pre.0 p → WasTakenOut old new p
located old new pre p (before, change, rest, is, taken) = record {
  before = old ++ before;
  change = change;
  since = (before, refl);
  until = (
    rest,
    append_assoc (old ++ before) (change ∷ []) rest
        ∙ (append_assoc old before (change ∷ rest) ∙ (ap (λ (l : Seen). old ++ l) is ∙ pre.1)),
  );
  is = taken;
}

abbrev IsLegal : Seen → Type 0
IsLegal history = IsLegalHistory same key_of history

-- so too between two histories of one map
out_or_still : (old new : Seen) → IsPrefix old new → IsLegal new → (k : ℕ) (p : Entry) → entry_of k old ≡ Some p
    → WasTakenOut old new p ⊎ (entry_of k new ≡ Some p)
out_or_still old new pre legal k p has =
    let whole : IsLegal (old ++ pre.0) = subst IsLegal (sym pre.1) legal in
    ⊎_elim
    (λ out. inl (located old new pre p out))
    (λ there. inr (ap (λ (h : Seen). entry_of k h) (sym pre.1) ∙ (replay_on (λ z. None) old pre.0 k ∙ there)))
    (out_or_there pre.0 (replay same old) (legal_after (λ z. None) old pre.0 whole) k p has)

-- an insertion reports its value
pub reported : (job outcome : ℕ) (old new : Seen) (before : Option (Bor ℕ)) → IsPut (λ a b. a == b) job outcome old new before
    → HasReported job outcome old new
reported job outcome old new before put =
    let (entry, put_is, key_is, value_is) = put.put_is in record {
      before = put.before;
      change = put.change;
      entry = entry;
      since = put.since;
      is = put.is;
      class_is = eqb-true put.change.class job put.class_is;
      put_is = put_is;
      outcome_is = value_is;
    }

-- the outcome that a lookup found
found_at : (job : ℕ) (both new : Seen) (found : Option (Bor ℕ)) (a : IsAnsweredBetween (λ a b. a == b) (λ key. job == key) both new found)
    → option_map (λ (p : Entry). p.value.value) (entry_of job a.seen) ≡ option_map (λ (v : Bor ℕ). v.now) found
found_at job both new None a = ap (λ (held : Option Entry). option_map (λ (p : Entry). p.value.value) held) (a.is job (eq-eqb job job refl))
found_at job both new (Some v) a =
    let (p, matches, has, of) = a.is in
    let held : entry_of job a.seen ≡ Some p = subst (λ (k : ℕ). entry_of k a.seen ≡ Some p) (sym (eqb-true job (key_of p) matches)) has in
    ap (λ (z : Option Entry). option_map (λ (q : Entry). q.value.value) z) held ∙ ap (λ (n : ℕ). Some n) (sym of)

-- a lookup after two sessions have met
pub read_after : (job : ℕ) (worker old both new : Seen) (found : Option (Bor ℕ)) (read : Option ℕ) → IsPrefix worker both → IsPrefix old both
    → IsLegal new → IsAnsweredBetween (λ a b. a == b) (λ key. job == key) both new found → read ≡ option_map (λ (v : Bor ℕ). v.now) found
    → IsReadAfter job worker old new read
read_after job worker old both new found read first second legal a copied =
    let since : IsPrefix worker a.seen = seen_on worker both a.seen first a.since in
    let is : option_map (λ (p : Entry). p.value.value) (entry_of job a.seen) ≡ read = found_at job both new found a ∙ sym copied in
    let lawful : IsLegal a.seen = legal_first (λ z. None) a.seen a.until.0 (subst IsLegal (sym a.until.1) legal) in record {
      seen = a.seen;
      since_worker = since;
      since_reader = seen_on old both a.seen second a.since;
      until = a.until;
      read_is = is;
      stays = λ p has.
          ⊎_elim
          (λ out. inr out)
          (λ still. inl (sym is ∙ ap (λ (z : Option Entry). option_map (λ (q : Entry). q.value.value) z) still))
          (out_or_still worker a.seen since lawful job p has);
    }
