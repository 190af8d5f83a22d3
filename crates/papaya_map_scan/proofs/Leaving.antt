-- An entry that the map had is still in the map, or a change took it out.
use Rattle.std.proofs.Common.{◌≡◌, ◌⊎◌, inl, inr, ⊎_elim, Bool, true, false, cond, Option, None}
use Rattle.std.proofs.Common.{Some, List, [], ◌∷◌, ◌++◌, Result, append_assoc, refl, sym, ap, ◌∙◌}
use Rattle.std.proofs.Common.{subst}
use Rattle.std.proofs.lemmas.Bool.{cases_Bool, cond-false}
use Rattle.std.specs.Cmp.{IsEquivalence}
use mathlib.Core.List.{IsPrefix}
use Rattle.papaya_words.specs.declared.refused.Refused.{Refused}
use Rattle.papaya_map_book.specs.Logs.{Stored}
use Rattle.papaya_map_book.proofs.Logs.{prefix_trans}
use Rattle.papaya_map_lookup.specs.History.{AllLegalChanges, Change, IsLegalHistory, changed, key_of, replay, replay_from}
use Rattle.papaya_map_change.specs.ClosureCalls.{AllArguments}
use Rattle.papaya_map_scan.specs.Leaving.{AllDrop, AreDropped, Drops, HasDropped, HasKept, IsRetained, WasTakenOut}
use Rattle.papaya_map_scan.specs.Meeting.{HadPair}

module _ {K V : Type 0} (p : Stored K V) where
  -- an entry that was taken out was so for good, and since any earlier history
  pub out_later : (old new newer : List (Change K (Stored K V))) → IsPrefix new newer → WasTakenOut old new p → WasTakenOut old newer p
  out_later old new newer pre r = record {
    before = r.before;
    change = r.change;
    since = r.since;
    until = prefix_trans (r.before ++ r.change ∷ []) new
        newer r.until pre;
    is = r.is;
  }

  pub out_earlier : (older old new : List (Change K (Stored K V))) → IsPrefix older old → WasTakenOut old new p → WasTakenOut older new p
  out_earlier older old new pre r = record {
    before = r.before;
    change = r.change;
    since = prefix_trans older old r.before pre r.since;
    until = r.until;
    is = r.is;
  }

module _ {K P : Type 0} (eq : K → K → Bool) (classes : IsEquivalence eq) (key : P → K) where
  -- equal keys have one entry
  abbrev pub IsOfClasses : (K → Option P) → Type 0
  IsOfClasses m = (k l : K) → eq k l ≡ true → m k ≡ m l

  changed_classes : (m : K → Option P) → IsOfClasses m → (c : Change K P) → IsOfClasses (changed eq m c)
  changed_classes m of c k l same = ap (λ b. cond b c.put (m k)) (classes.congr k l c.class same) ∙ ap (cond (eq l c.class) c.put) (of k l same)

  -- one of these changes took the entry out
  abbrev pub IsOut : List (Change K P) → P → Type 0
  IsOut cs p = (before : List (Change K P)) × (change : Change K P) × (rest : List (Change K P)) × (before ++ change ∷ rest ≡ cs) × (change.taken ≡ Some p)

  -- an entry of the map is there after the changes, or one of them took it out
  out_or_there : (cs : List (Change K P)) (m : K → Option P) → IsOfClasses m → AllLegalChanges eq key m cs → (k : K) (p : P) → m k ≡ Some p
      → IsOut cs p ⊎ (replay_from eq m cs k ≡ Some p)
  out_or_there [] m of legal k p has = inr has
  out_or_there (c ∷ cs) m of legal k p has =
      ⊎_elim
      (λ (same : eq k c.class ≡ true). inl ([], c, cs, refl, sym legal.0.taken_is ∙ (sym (of k c.class same) ∙ has)))
      (λ (other : eq k c.class ≡ false).
      ⊎_elim
      (λ out. let (before, change, rest, is, taken) = out in inl (c ∷ before, change, rest, ap (λ l. c ∷ l) is, taken))
      (λ there. inr there)
      (out_or_there cs (changed eq m c) (changed_classes m of c) legal.1 k p (cond-false (eq k c.class) c.put (m k) other ∙ has)))
      (cases_Bool (eq k c.class))

  -- so too from some state on
  pub out_since : (old cs : List (Change K P)) (m : K → Option P) → IsOfClasses m → AllLegalChanges eq key m (old ++ cs) → (k : K) (p : P)
      → replay_from eq m old k ≡ Some p → IsOut cs p ⊎ (replay_from eq m (old ++ cs) k ≡ Some p)
  out_since [] cs m of legal k p has = out_or_there cs m of legal k p has
  out_since (c ∷ old) cs m of legal k p has = out_since old cs (changed eq m c) (changed_classes m of c) legal.1 k p has

module _ {K V : Type 0} (eq : K → K → Bool) (classes : IsEquivalence eq) where
  -- an entry of the map is the map's after a longer history, or was taken out
  pub out_or_still : (old new : List (Change K (Stored K V))) → IsPrefix old new → IsLegalHistory eq key_of new → (k : K) (p : Stored K V)
      → replay eq old k ≡ Some p → WasTakenOut old new p ⊎ (replay eq new k ≡ Some p)
  out_or_still old new pre legal k p has =
      ⊎_elim
      (λ out. inl (located out))
      (λ there. inr (subst (λ (h : List (Change K (Stored K V))). replay eq h k ≡ Some p) pre.1 there))
      (out_since eq classes key_of old pre.0 (λ z. None) (λ a b same. refl) (subst (IsLegalHistory eq key_of) (sym pre.1) legal) k p has)
    where
      located : IsOut eq classes key_of pre.0 p → WasTakenOut old new p
      located (before, change, rest, is, taken) = record {
        before = old ++ before;
        change = change;
        since = (before, refl);
        until = (rest, append_assoc (old ++ before) (change ∷ []) rest ∙ (append_assoc old before (change ∷ rest) ∙ (ap (λ l. old ++ l) is ∙ pre.1)));
        is = taken;
      }

  module _ (older old new : List (Change K (Stored K V))) (pre : IsPrefix older old) (legal : IsLegalHistory eq key_of old)
      (said : List (Stored K V × Bool)) where
    -- the entries that are left after one history are left after an earlier one
    pub retained_earlier : IsPrefix old new → IsRetained eq old new said → IsRetained eq older new said
    retained_earlier on r k p has =
        ⊎_elim
        (λ out. inl (out_later p older old new on out))
        (λ still. ⊎_elim (λ out. inl (out_earlier p older old new pre out)) (λ stays. inr stays) (r k p still))
        (out_or_still older old pre legal k p has)

  -- and for good
  pub retained_later : (old new newer : List (Change K (Stored K V))) → IsPrefix new newer → (said : List (Stored K V × Bool))
      → IsRetained eq old new said → IsRetained eq old newer said
  retained_later old new newer pre said r k p has = ⊎_elim (λ out. inl (out_later p old new newer pre out)) (λ stays. inr stays) (r k p has)

  -- if the map has no entry any longer, each was taken out
  pub retained_none : (old new : List (Change K (Stored K V))) → IsPrefix old new → IsLegalHistory eq key_of new → ((k : K) → replay eq new k ≡ None)
      → (said : List (Stored K V × Bool)) → IsRetained eq old new said
  retained_none old new pre legal none said k p has =
      ⊎_elim (λ out. inl out) (λ still. absurd (let no = none k in cc (no, still))) (out_or_still old new pre legal k p has)

module _ {K V : Type 0} (eq : K → K → Bool) (old new : List (Change K (Stored K V))) where
  -- one drop more
  drop_more : (made : List (Change K (Stored K V))) → AllDrop eq old new made → (change : Change K (Stored K V)) (p : Stored K V)
      → HadPair eq old new p → Drops change p → AllDrop eq old new (made ++ change ∷ [])
  drop_more [] all change p had drops = ((p, had, drops), tt)
  drop_more (c ∷ made) all change p had drops = (all.0, drop_more made all.1 change p had drops)

  -- the changes made for results about entries that the map had are drops
  all_drop : (said : List (Stored K V × Bool)) → AllArguments (HadPair eq old new) said → (made : List (Change K (Stored K V))) → AreDropped said made
      → AllDrop eq old new made
  all_drop [] had made is = subst (AllDrop eq old new) (sym is) tt
  all_drop (last ∷ before) had made (inl d) = all_drop before had.1 made d
  all_drop (last ∷ before) had made (inr (gone, earlier, change, is, drops, rest)) =
      subst (AllDrop eq old new) (sym is) (drop_more earlier (all_drop before had.1 earlier rest) change last.0 had.0 drops)

  -- so a retain only drops
  pub kept_drops : {F A : Type 0} (judges : F → Stored K V → Bool → F → Type 0) (first : F) (result : Result A Refused)
      (made made' : List (Change K (Stored K V))) → HasKept eq old new made made' judges first result → HasDropped eq old new made made'
  kept_drops judges first result made made'
      r = record { changes = r.shown.changes; made_is = r.shown.made_is; dropped = all_drop r.said r.shown.had r.shown.changes r.shown.dropped }
