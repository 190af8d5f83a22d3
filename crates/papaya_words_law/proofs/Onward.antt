-- If a search has met a copier's work, it can continue in a next table; if there is none, the map
-- has no pair.
use Rattle.std.proofs.Common.{◌≡◌, ◌⊎◌, inl, inr, ⊎_elim, ℕ, suc, ◌<◌, ◌≤◌, true, false, Option, None, sym, ap, subst, arith}
use Rattle.std.proofs.lemmas.Bool.{cases_lt}
use Rattle.papaya_words_law.specs.Exchange.{Setting, State, walk}
use Rattle.papaya_words_law.specs.View.{Leaving, Gone, look, IsPassed, IsReached}
use Rattle.papaya_words_law.specs.Meaning.{IsLawful}
use Rattle.papaya_words_law.specs.Invariant.{shut, IsKeeping}
use Rattle.papaya_words_law.proofs.Slots.{view_leaving, view_gone}
use Rattle.papaya_words_law.proofs.OneMap.{keeping_sound, means}

-- Without blocking: if a search is past a reached table, the next one is reached.
pub next_reached : {K P : Type 0} (g : Setting K P) (s : State P) → g.blocking ≡ false → (k : K) (t : ℕ) → IsReached g s k t
    → IsPassed g.places (look g s k) t → 0 < s.next t → IsReached g s k (s.next t)
next_reached g s inc k t r pass some = record {
  from = r.from;
  links = suc r.links;
  was = r.was;
  is = ap s.next r.is;
  made = some;
  mode = inr inc;
  passed = λ i lt. ⊎_elim
      (λ (c : i < r.links). r.passed i c)
      (λ (c : r.links ≤ i). let h : r.links ≡ i = omega arith in
      subst (λ y. IsPassed g.places (look g s k) (walk s.next y r.from)) h (subst (IsPassed g.places (look g s k)) (sym r.is) pass))
      (cases_lt i r.links);
}

module _ {K P : Type 0} (g : Setting K P) (s : State P) (m : K → Option P) (keeps : IsKeeping g s m) where
  -- a table with a Closed, Marked or Copied word has a next one
  pub shut_further : (t x : ℕ) → shut (s.slot t x) ≡ true → 0 < s.next t
  shut_further = (keeping_sound g s m keeps).further

  -- a search that meets a pair that leaves has a next table
  pub leaving_further : (k : K) (t j : ℕ) (p : P) → look g s k t j ≡ Leaving p → 0 < s.next t
  leaving_further k t j p e = shut_further t (g.place k t j) (ap shut (view_leaving g k (s.slot t (g.place k t j)) p e).0)

  -- so has one that meets a pair that was copied
  pub gone_further : (k : K) (t j : ℕ) (p : P) → look g s k t j ≡ Gone p → 0 < s.next t
  gone_further k t j p e = shut_further t (g.place k t j) (ap shut (view_gone g k (s.slot t (g.place k t j)) p e).0)

  -- Without blocking: a search that is past a table, or met there a pair that leaves, and finds no next table, ends rightly.
  pub none_further : IsLawful g → g.blocking ≡ false → (k : K) (t : ℕ) → IsReached g s k t → IsPassed g.places (look g s k) t
      ⊎ ((j : ℕ) × (p : P) × (look g s k t j ≡ Leaving p)) → s.next t ≡ 0 → m k ≡ None
  none_further law inc k t r (inl pass) last = (means g law s m keeps k).over t r pass (inr (inc, last))
  none_further law inc k t r (inr (j, p, e)) last = let some = leaving_further k t j p e in absurd (omega arith)
